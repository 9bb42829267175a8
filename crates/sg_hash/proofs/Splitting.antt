-- A bucket of a table is split: what its pages leave.
use Rattle.std.proofs.Common.{◌≡◌, ◌≢◌, ℕ, ◌+◌, ◌*◌, ◌<◌, ◌≤◌, ◌⊎◌, ◌^◌, ◌++◌, List, [], ◌∷◌, length, Option, Some, None, sym, ap, subst, ◌∙◌, refl, arith, slice_get, inl, inr}
use Rattle.std.proofs.lemmas.Bool.{cases_eq}
use Rattle.std.proofs.lemmas.List.Sums.{sum_by_push}
use Rattle.std.proofs.lemmas.Option.{slice_get_within}
use Rattle.byteorder.specs.Endian.{little_bytes}
use Rattle.sg_base.specs.Sheet.{Sheet}
use Rattle.sg_array.specs.Array.{Array, IsArray}
use Rattle.sg_array.specs.Array as array
use Rattle.sg_array.specs.Calls as array_calls
use Rattle.sg_bucket.specs.Bucket.{Bucket, IsBucket, OwnsPage}
use Rattle.sg_space.specs.Owned.{Becomes}
use Rattle.sg_space.specs.View.{Space}
use Rattle.sg_space.proofs.Known.{same_some}
use Rattle.sg_space.proofs.Putting.{slice_get-push_same, slice_get-push_other}
use Rattle.sg_hash.specs.Table.{HashTable, Numbers, IsTrunk, IsBuilt, Owns, chain_pages, first_page, name_of, page_count}
use Rattle.sg_hash.proofs.Owning.{trunk_stays, bucket_stays, owns_there, root_not_array, trunk_not_bucket, bucket_there}
use Rattle.sg_hash.proofs.Trunks.{names_long}

-- a table none of whose pages has changed
pub built_stays : {old new : ℕ → Option Sheet} {root : ℕ} {n : Numbers} {t : HashTable} → IsBuilt old root n t → ((p : ℕ) → Owns root t p → new p ≡ old p) → IsBuilt new root n t
built_stays {old} {new} {root} {n} {t} h same = record {
  trunk = trunk_stays h.trunk (λ p o. elim o as (λ _. new p ≡ old p) [ inl is ↦ same p (inl is) | inr a ↦ same p (inr (inl a)) ]);
  bucket = λ i b e. bucket_stays (h.bucket i b e) (λ p o. same p (inr (inr (record { index = i; bucket = b; is = e; owns = o }))));
  apart = h.apart;
}

-- one of a list with one more behind
pub in_pushed : {A : Type 0} (xs : List A) (y : A) (i : ℕ) (x : A) → slice_get (xs ++ (y ∷ [])) i ≡ Some x → ((i ≡ length xs) × (x ≡ y)) ⊎ (slice_get xs i ≡ Some x)
in_pushed xs y i x e = elim (cases_eq i (length xs)) [
  | inl last ↦ inl (last, same_some x y (sym e ∙ slice_get-push_same xs i y last))
  | inr ne ↦ inr (sym (slice_get-push_other xs i y ne) ∙ e)
]

pub still_pushed : {A : Type 0} (xs : List A) (y : A) (i : ℕ) (x : A) → slice_get xs i ≡ Some x → slice_get (xs ++ (y ∷ [])) i ≡ Some x
still_pushed xs y i x e = slice_get-push_other xs i y (λ last. let below = slice_get_within xs i x e in omega arith) ∙ e

-- the table with another directory and a bucket more
abbrev pub with_more : Array → Bucket → HashTable → HashTable
with_more names c t = record t { names = names; buckets = t.buckets ++ (c ∷ []) }

-- A new bucket stands beside a table, and then the table's directory names it.
pub record IsMore (old mid new : Space) (t : HashTable) (names : Array) (c : Bucket) : Type 0 where
  pub pages : Becomes old.pages mid.pages (λ _. ⊥) (OwnsPage c) 0 (length c.pages)
  pub bucket : IsBucket mid.pages.at (first_page c) c
  pub fit : first_page c < 2 ^ 32
  pub turns : array_calls.Turns mid new t.directory t.names names
  pub items : names.items ≡ t.names.items ++ (little_bytes 4 (first_page c) ∷ [])
  pub size : names.size ≡ t.names.size

-- the pages of the table, and those of the new bucket
pub table_same : {old mid new : Space} {root : ℕ} {n : Numbers} {t : HashTable} {names : Array} {c : Bucket} → IsBuilt old.pages.at root n t → IsMore old mid new t names c → (p : ℕ) → Owns root t p → mid.pages.at p ≡ old.pages.at p
table_same h m p o = m.pages.others p (λ x. x) (λ mine. elim (m.pages.taken p mine) as (λ _. ⊥) [ inl x ↦ x | inr free ↦ owns_there h p o free ])

pub array_other : {mid new : Space} {directory : ℕ} {a b : Array} → array_calls.Turns mid new directory a b → (p : ℕ) → ¬ array.Owns directory a p → mid.pages.at p ≢ None → new.pages.at p ≡ mid.pages.at p
array_other t p apart some = t.pages.others p apart (λ mine. elim (t.pages.taken p mine) as (λ _. ⊥) [ inl before ↦ apart before | inr free ↦ some free ])

more_named : {at : ℕ → Option Sheet} {root : ℕ} {n : Numbers} {t : HashTable} (names : Array) (c : Bucket) → IsTrunk at root n t → names.items ≡ t.names.items ++ (little_bytes 4 (first_page c) ∷ []) → (i : ℕ) → slice_get names.items i ≡ name_of (slice_get (t.buckets ++ (c ∷ [])) i)
more_named {t = t} names c h items i = ap (λ (xs : List (List ℕ)). slice_get xs i) items ∙ elim (cases_eq i (length t.buckets)) [
  | inl last ↦
      slice_get-push_same t.names.items i (little_bytes 4 (first_page c)) (last ∙ sym (names_long h))
      ∙ sym (ap name_of (slice_get-push_same t.buckets i c last))
  | inr ne ↦
      slice_get-push_other t.names.items i (little_bytes 4 (first_page c)) (λ (e : i ≡ length t.names.items). ne (e ∙ names_long h))
      ∙ (h.named i ∙ sym (ap name_of (slice_get-push_other t.buckets i c ne)))
]

pub more_built : {old mid new : Space} {root : ℕ} {n : Numbers} {t : HashTable} {names : Array} {c : Bucket} → IsBuilt old.pages.at root n t → IsMore old mid new t names c → IsBuilt new.pages.at root n (with_more names c t)
more_built {old} {mid} {new} {root} {n} {t} {names} {c} h m = record {
  trunk = record {
    first = array_other m.turns root (λ o. root_not_array b.trunk root o refl) (owns_there b root (inl refl)) ∙ b.trunk.first;
    range = h.trunk.range;
    names = m.turns.array;
    size = m.size ∙ h.trunk.size;
    named = more_named names c h.trunk m.items;
    fit = λ i d e. elim (in_pushed t.buckets c i d e) as (λ _. first_page d < 2 ^ 32) [
      | inl x ↦ subst (λ (y : Bucket). first_page y < 2 ^ 32) (sym x.1) m.fit
      | inr is ↦ h.trunk.fit i d is
    ];
  };
  bucket = λ i d e. elim (in_pushed t.buckets c i d e) as (λ _. IsBucket new.pages.at (first_page d) d) [
    | inl x ↦ subst (λ (y : Bucket). IsBucket new.pages.at (first_page y) y) (sym x.1) (bucket_stays m.bucket (λ p o. array_other m.turns p (λ a. trunk_not_bucket b.trunk m.bucket.linked p (inr a) o) (bucket_there m.bucket.linked p o)))
    | inr is ↦ bucket_stays (b.bucket i d is) (λ p o. array_other m.turns p (λ a. trunk_not_bucket b.trunk (b.bucket i d is).linked p (inr a) o) (bucket_there (b.bucket i d is).linked p o))
  ];
  apart = λ i j d f p e k o o'. elim (in_pushed t.buckets c i d e) as (λ _. i ≡ j) [
    | inl x ↦ elim (in_pushed t.buckets c j f k) as (λ _. i ≡ j) [
      | inl y ↦ x.0 ∙ sym y.0
      | inr is ↦ absurd (not_new j f p is o' (subst (λ (y : Bucket). OwnsPage y p) x.1 o))
    ]
    | inr is ↦ elim (in_pushed t.buckets c j f k) as (λ _. i ≡ j) [
      | inl y ↦ absurd (not_new i d p is o (subst (λ (z : Bucket). OwnsPage z p) y.1 o'))
      | inr is' ↦ h.apart i j d f p is is' o o'
    ]
  ];
}
  where
    b : IsBuilt mid.pages.at root n t
    b = built_stays h (table_same h m)

    not_new : (j : ℕ) (d : Bucket) (p : ℕ) → slice_get t.buckets j ≡ Some d → OwnsPage d p → OwnsPage c p → ⊥
    not_new j d p e o mine = elim (m.pages.taken p mine) as (λ _. ⊥) [
      | inl x ↦ x
      | inr free ↦ owns_there h p (inr (inr (record { index = j; bucket = d; is = e; owns = o }))) free
    ]

pub more_pages : {old mid new : Space} {root : ℕ} {n : Numbers} {t : HashTable} {names : Array} {c : Bucket} → IsBuilt old.pages.at root n t → IsMore old mid new t names c → Becomes old.pages new.pages (Owns root t) (Owns root (with_more names c t)) (page_count t) (page_count (with_more names c t))
more_pages {old} {mid} {new} {root} {n} {t} {names} {c} h m = record {
  others = λ p no no'.
      m.turns.pages.others p (λ a. no (inr (inl a))) (λ a. no' (inr (inl a)))
      ∙ m.pages.others p (λ x. x) (λ o. no' (inr (inr (record { index = length t.buckets; bucket = c; is = slice_get-push_same t.buckets (length t.buckets) c refl; owns = o }))));
  taken = λ p o. elim o as (λ _. Owns root t p ⊎ (old.pages.at p ≡ None)) [
    | inl is ↦ inl (inl is)
    | inr r ↦ elim r as (λ _. Owns root t p ⊎ (old.pages.at p ≡ None)) [
      | inl a ↦ elim (m.turns.pages.taken p a) as (λ _. Owns root t p ⊎ (old.pages.at p ≡ None)) [
        | inl before ↦ inl (inr (inl before))
        | inr free ↦ inr (free_before p free)
      ]
      | inr x ↦ elim (in_pushed t.buckets c x.index x.bucket x.is) as (λ _. Owns root t p ⊎ (old.pages.at p ≡ None)) [
        | inl w ↦ elim (m.pages.taken p (subst (λ (z : Bucket). OwnsPage z p) w.1 x.owns)) as (λ _. Owns root t p ⊎ (old.pages.at p ≡ None)) [
          | inl none ↦ absurd none
          | inr free ↦ inr free
        ]
        | inr is ↦ inl (inr (inr (record { index = x.index; bucket = x.bucket; is = is; owns = x.owns })))
      ]
    ]
  ];
  given = λ p o no. elim o as (λ _. new.pages.at p ≡ None) [
    | inl is ↦ absurd (no (inl is))
    | inr r ↦ elim r as (λ _. new.pages.at p ≡ None) [
      | inl a ↦ m.turns.pages.given p a (λ now. no (inr (inl now)))
      | inr x ↦ absurd (no (inr (inr (record { index = x.index; bucket = x.bucket; is = still_pushed t.buckets c x.index x.bucket x.is; owns = x.owns }))))
    ]
  ];
  exactly =
      let x = m.pages.exactly in
      let y = m.turns.pages.exactly in
      let sum : chain_pages (t.buckets ++ (c ∷ [])) ≡ chain_pages t.buckets + length c.pages = sum_by_push (λ (b : Bucket). length b.pages) t.buckets c in
      omega arith;
  all = m.turns.pages.all ∙ m.pages.all;
}
  where
    free_before : (p : ℕ) → mid.pages.at p ≡ None → old.pages.at p ≡ None
    free_before p free = sym (m.pages.others p (λ x. x) (λ mine. bucket_there m.bucket.linked p mine free)) ∙ free

-- a directory with one name more has at most two pages more
pub two_more : {at at' : ℕ → Option Sheet} {root : ℕ} {a b : Array} → IsArray at root a → IsArray at' root b → a.size ≡ 4 → b.size ≡ 4 → b.peak ≤ a.peak + 1 → array.page_count b ≤ array.page_count a + 2
two_more {a = a} {b = b} h k size size' peak =
    let leaves_least : a.peak ≤ 509 * length a.leaves = subst (λ (n : ℕ). a.peak ≤ array.per_page n * length a.leaves) size h.built.leaf_least in
    let leaves_most : 509 * length b.leaves < b.peak + 509 = subst (λ (n : ℕ). array.per_page n * length b.leaves < b.peak + array.per_page n) size' k.leaf_most in
    let index_least = h.built.names.index_least in
    let index_most = k.index_most in
    omega arith
