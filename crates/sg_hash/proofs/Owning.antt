-- What a table owns, and what a change of one of its pages or of one of its buckets leaves.
use Rattle.std.proofs.Common.{◌≡◌, ◌≢◌, ℕ, ◌<◌, ◌⊎◌, ◌^◌, List, [], ◌∷◌, Option, Some, None, sym, ap, subst, ◌∙◌, refl, arith, set, slice_get, slice_index, inl, inr}
use Rattle.std.proofs.lemmas.Bool.{cases_eq}
use Rattle.std.proofs.lemmas.Option.{slice_get_within}
use Rattle.byteorder.specs.Endian.{little_bytes}
use Rattle.sg_base.specs.Sheet.{Sheet}
use Rattle.sg_array.specs.Array.{Array, IsArray}
use Rattle.sg_array.specs.Array as array
use Rattle.sg_array.proofs.Sides.{array_stays}
use Rattle.sg_bucket.specs.Bucket.{Bucket, IsLinked, IsBucket, OwnsPage}
use Rattle.sg_bucket.specs.Calls.{IsSound}
use Rattle.sg_bucket.specs.Steps as bucket
use Rattle.sg_space.specs.Owned.{Becomes}
use Rattle.sg_space.specs.Units.{Units, HasAt}
use Rattle.sg_space.specs.View.{Space}
use Rattle.sg_space.proofs.InMemory.{slice_get-set_same, slice_get-set_other}
use Rattle.sg_space.proofs.Known.{moved, same_some}
use Rattle.sg_hash.specs.Table.{HashTable, Numbers, IsInRange, IsTrunk, IsBuilt, IsInBuckets, Owns, first_page, name_of, page_count, root_cell, root_sheet}
use Rattle.sg_hash.specs.Steps.{Rewrites}
use Rattle.sg_hash.proofs.Sums.{set_pages}

-- the kinds of a table's pages
abbrev pub IsOfKind : ℕ → Sheet → Type 0
IsOfKind kind sheet = sheet.kind ≡ kind

abbrev IsOfArray : Sheet → Type 0
IsOfArray sheet = sheet.kind < 5

array_kind : {at : ℕ → Option Sheet} {root : ℕ} {a : Array} → IsArray at root a → (p : ℕ) → array.Owns root a p → HasAt at p IsOfArray
array_kind {at} h p (inl is) = let k = h.built.names.first in let kind = k.has.kind in record { what = k.what; is = ap at is ∙ k.is; has = omega arith }
array_kind h p (inr (inl (j, e))) = let k = h.built.names.index j p e in let kind = k.has.kind in record { what = k.what; is = k.is; has = omega arith }
array_kind h p (inr (inr (d, e))) = let k = h.built.leaf d p e in let kind = k.has.kind in record { what = k.what; is = k.is; has = omega arith }

pub bucket_kind : {at : ℕ → Option Sheet} {first : ℕ} {b : Bucket} → IsLinked at first b → (p : ℕ) → OwnsPage b p → HasAt at p (IsOfKind 6)
bucket_kind h p o = let k = h.part o.0 p o.1 in record { what = k.what; is = k.is; has = k.has.page.kind }

root_kind : {at : ℕ → Option Sheet} {root : ℕ} {n : Numbers} {t : HashTable} → IsTrunk at root n t → HasAt at root (IsOfKind 5)
root_kind h = record { what = _; is = h.first; has = refl }

-- a page has one kind
one_kind : {at : ℕ → Option Sheet} {p : ℕ} {P Q : Sheet → Type 0} (h : HasAt at p P) (k : HasAt at p Q) → (h.what).kind ≡ (k.what).kind
one_kind h k = ap (λ (s : Sheet). s.kind) (same_some _ _ (sym h.is ∙ k.is))

-- the root or a page of the directory
abbrev pub OwnsTrunk : ℕ → HashTable → ℕ → Type 0
OwnsTrunk root t p = (p ≡ root) ⊎ array.Owns t.directory t.names p

pub root_not_array : {at : ℕ → Option Sheet} {root : ℕ} {n : Numbers} {t : HashTable} → IsTrunk at root n t → (p : ℕ) → array.Owns t.directory t.names p → p ≢ root
root_not_array {at} h p o e =
    let a = array_kind h.names p o in
    let r = root_kind h in
    let moved_root : HasAt at p (IsOfKind 5) = record { what = r.what; is = ap at e ∙ r.is; has = r.has } in
    let same = one_kind a moved_root in
    let less = a.has in
    let five = r.has in
    omega arith

trunk_kind : {at : ℕ → Option Sheet} {root : ℕ} {n : Numbers} {t : HashTable} → IsTrunk at root n t → (p : ℕ) → OwnsTrunk root t p → HasAt at p (λ sheet. sheet.kind < 6)
trunk_kind {at} h p (inl is) = let k = root_kind h in let five = k.has in record { what = k.what; is = ap at is ∙ k.is; has = omega arith }
trunk_kind h p (inr o) = let k = array_kind h.names p o in let less = k.has in record { what = k.what; is = k.is; has = omega arith }

pub in_bucket : {at : ℕ → Option Sheet} {root : ℕ} {n : Numbers} {t : HashTable} → IsBuilt at root n t → (p : ℕ) → IsInBuckets t.buckets p → HasAt at p (IsOfKind 6)
in_bucket h p o = bucket_kind (h.bucket o.index o.bucket o.is).linked p o.owns

pub trunk_not_bucket : {at : ℕ → Option Sheet} {root : ℕ} {n : Numbers} {t : HashTable} {first : ℕ} {b : Bucket} → IsTrunk at root n t → IsLinked at first b → (p : ℕ) → OwnsTrunk root t p → OwnsPage b p → ⊥
trunk_not_bucket h k p o mine =
    let x = trunk_kind h p o in
    let y = bucket_kind k p mine in
    let same = one_kind x y in
    let less = x.has in
    let six = y.has in
    omega arith

there : {at : ℕ → Option Sheet} {p : ℕ} {P : Sheet → Type 0} → HasAt at p P → at p ≢ None
there h none = let some = h.is in (cc)

pub bucket_there : {at : ℕ → Option Sheet} {first : ℕ} {b : Bucket} → IsLinked at first b → (p : ℕ) → OwnsPage b p → at p ≢ None
bucket_there h p o = there (bucket_kind h p o)

-- what the table owns is there
pub owns_there : {at : ℕ → Option Sheet} {root : ℕ} {n : Numbers} {t : HashTable} → IsBuilt at root n t → (p : ℕ) → Owns root t p → at p ≢ None
owns_there h p (inl is) = there (trunk_kind h.trunk p (inl is))
owns_there h p (inr (inl o)) = there (trunk_kind h.trunk p (inr o))
owns_there h p (inr (inr o)) = there (in_bucket h p o)

-- parts of a table whose pages haven't changed
pub trunk_stays : {old new : ℕ → Option Sheet} {root : ℕ} {n : Numbers} {t : HashTable} → IsTrunk old root n t → ((p : ℕ) → OwnsTrunk root t p → new p ≡ old p) → IsTrunk new root n t
trunk_stays {root = root} h same = record {
  first = same root (inl refl) ∙ h.first;
  range = h.range;
  names = array_stays h.names (λ p o. same p (inr o));
  size = h.size;
  named = h.named;
  fit = h.fit;
}

pub bucket_stays : {old new : ℕ → Option Sheet} {first : ℕ} {b : Bucket} → IsBucket old first b → ((p : ℕ) → OwnsPage b p → new p ≡ old p) → IsBucket new first b
bucket_stays h same =
    let l = h.linked in
    record {
      linked = record {
        starts = l.starts;
        long = l.long;
        part = λ i p e. moved (same p (i, e)) (l.part i p e);
        fit = l.fit;
        behind = l.behind;
        apart = l.apart;
      };
      once = h.once;
      full = h.full;
    }

-- a page that isn't the bucket's and is there stays as it was
pub other_stays : {old new : Space} {first : ℕ} {b c : Bucket} → bucket.Turns old new first b c → (p : ℕ) → ¬ OwnsPage b p → old.pages.at p ≢ None → new.pages.at p ≡ old.pages.at p
other_stays t p apart some = t.pages.others p apart (λ mine. elim (t.pages.taken p mine) as (λ _. ⊥) [ inl before ↦ apart before | inr free ↦ some free ])

-- the table with another bucket in the place of one
abbrev pub with_bucket : ℕ → Bucket → HashTable → HashTable
with_bucket i c t = record t { buckets = set t.buckets i c }

pub first_is : (ps : List ℕ) (p : ℕ) → slice_get ps 0 ≡ Some p → slice_index ps 0 ≡ p
first_is [] p e = absurd (cc)
first_is (q ∷ ps) p e = same_some _ _ e

-- where one of the buckets is another now, each is that one or stands where it stood
which : (bs : List Bucket) (i : ℕ) (b c : Bucket) (j : ℕ) (d : Bucket) → slice_get bs i ≡ Some b → slice_get (set bs i c) j ≡ Some d → ((j ≡ i) × (d ≡ c)) ⊎ ((j ≢ i) × (slice_get bs j ≡ Some d))
which bs i b c j d e is = elim (cases_eq j i) [
  | inl same ↦ inl (same, same_some d c (sym is ∙ (ap (slice_get (set bs i c)) same ∙ slice_get-set_same bs i c (slice_get_within bs i b e))))
  | inr ne ↦ inr (ne, sym (slice_get-set_other bs i j c ne) ∙ is)
]

turned_named : {at : ℕ → Option Sheet} {root : ℕ} {n : Numbers} {t : HashTable} (i : ℕ) (b c : Bucket) → IsTrunk at root n t → slice_get t.buckets i ≡ Some b → first_page c ≡ first_page b → (j : ℕ) → slice_get t.names.items j ≡ name_of (slice_get (set t.buckets i c) j)
turned_named {t = t} i b c h e same j = elim (cases_eq j i) [
  | inl is ↦ subst (λ (k : ℕ). slice_get t.names.items k ≡ name_of (slice_get (set t.buckets i c) k)) (sym is)
      (h.named i ∙ (ap name_of e ∙ (ap (λ (p : ℕ). Some (little_bytes 4 p)) (sym same) ∙ sym (ap name_of (slice_get-set_same t.buckets i c (slice_get_within t.buckets i b e))))))
  | inr ne ↦ h.named j ∙ ap name_of (sym (slice_get-set_other t.buckets i j c ne))
]

pub turned_built : {old new : Space} {root : ℕ} {n : Numbers} {t : HashTable} (i : ℕ) (b c : Bucket) → IsBuilt old.pages.at root n t → slice_get t.buckets i ≡ Some b → bucket.Turns old new (first_page b) b c → IsSound c → IsBuilt new.pages.at root n (with_bucket i c t)
turned_built {old} {new} {root} {n} {t} i b c h e turns sound = record {
  trunk = record {
    first = trunk.first;
    range = trunk.range;
    names = trunk.names;
    size = trunk.size;
    named = turned_named i b c h.trunk e same;
    fit = λ j d is. elim (which t.buckets i b c j d e is) as (λ _. first_page d < 2 ^ 32) [
      | inl x ↦ subst (λ (k : Bucket). first_page k < 2 ^ 32) (sym x.1) (subst (λ (p : ℕ). p < 2 ^ 32) (sym same) (h.trunk.fit i b e))
      | inr x ↦ h.trunk.fit j d x.1
    ];
  };
  bucket = λ j d is. elim (which t.buckets i b c j d e is) as (λ _. IsBucket new.pages.at (first_page d) d) [
    | inl x ↦ subst (λ (k : Bucket). IsBucket new.pages.at (first_page k) k) (sym x.1) here
    | inr x ↦ bucket_stays (h.bucket j d x.1) (λ p o. other_stays turns p (λ mine. x.0 (h.apart j i d b p x.1 e o mine)) (there (bucket_kind (h.bucket j d x.1).linked p o)))
  ];
  apart = λ j k d f p is is' o o'. elim (which t.buckets i b c j d e is) as (λ _. j ≡ k) [
    | inl x ↦ elim (which t.buckets i b c k f e is') as (λ _. j ≡ k) [
      | inl y ↦ x.0 ∙ sym y.0
      | inr y ↦ absurd (not_other k f p y.0 y.1 (subst (λ (z : Bucket). OwnsPage z p) x.1 o) o')
    ]
    | inr x ↦ elim (which t.buckets i b c k f e is') as (λ _. j ≡ k) [
      | inl y ↦ absurd (not_other j d p x.0 x.1 (subst (λ (z : Bucket). OwnsPage z p) y.1 o') o)
      | inr y ↦ h.apart j k d f p x.1 y.1 o o'
    ]
  ];
}
  where
    same : first_page c ≡ first_page b
    same = first_is c.pages (first_page b) turns.linked.starts

    here : IsBucket new.pages.at (first_page c) c
    here = record { linked = subst (λ (p : ℕ). IsLinked new.pages.at p c) (sym same) turns.linked; once = sound.once; full = sound.full }

    trunk : IsTrunk new.pages.at root n t
    trunk = trunk_stays h.trunk (λ p o. other_stays turns p (λ mine. trunk_not_bucket h.trunk (h.bucket i b e).linked p o mine) (there (trunk_kind h.trunk p o)))

    not_other : (j : ℕ) (d : Bucket) (p : ℕ) → j ≢ i → slice_get t.buckets j ≡ Some d → OwnsPage c p → OwnsPage d p → ⊥
    not_other j d p ne is mine o = elim (turns.pages.taken p mine) as (λ _. ⊥) [
      | inl before ↦ ne (h.apart j i d b p is e o before)
      | inr free ↦ there (bucket_kind (h.bucket j d is).linked p o) free
    ]

pub turned_pages : {old new : Space} (root : ℕ) (t : HashTable) (i : ℕ) (b c : Bucket) → slice_get t.buckets i ≡ Some b → bucket.Turns old new (first_page b) b c → Becomes old.pages new.pages (Owns root t) (Owns root (with_bucket i c t)) (page_count t) (page_count (with_bucket i c t))
turned_pages {old} {new} root t i b c e turns =
    let pages = turns.pages in
    let after : slice_get (set t.buckets i c) i ≡ Some c = slice_get-set_same t.buckets i c (slice_get_within t.buckets i b e) in
    record {
      others = λ p no no'. pages.others p (λ o. no (inr (inr (record { index = i; bucket = b; is = e; owns = o })))) (λ o. no' (inr (inr (record { index = i; bucket = c; is = after; owns = o }))));
      taken = λ p o. elim o as (λ _. Owns root t p ⊎ (old.pages.at p ≡ None)) [
        | inl is ↦ inl (inl is)
        | inr r ↦ elim r as (λ _. Owns root t p ⊎ (old.pages.at p ≡ None)) [
          | inl a ↦ inl (inr (inl a))
          | inr x ↦ elim (which t.buckets i b c x.index x.bucket e x.is) as (λ _. Owns root t p ⊎ (old.pages.at p ≡ None)) [
            | inl w ↦ elim (pages.taken p (subst (λ (z : Bucket). OwnsPage z p) w.1 x.owns)) as (λ _. Owns root t p ⊎ (old.pages.at p ≡ None)) [
              | inl before ↦ inl (inr (inr (record { index = i; bucket = b; is = e; owns = before })))
              | inr free ↦ inr free
            ]
            | inr w ↦ inl (inr (inr (record { index = x.index; bucket = x.bucket; is = w.1; owns = x.owns })))
          ]
        ]
      ];
      given = λ p o no. elim o as (λ _. new.pages.at p ≡ None) [
        | inl is ↦ absurd (no (inl is))
        | inr r ↦ elim r as (λ _. new.pages.at p ≡ None) [
          | inl a ↦ absurd (no (inr (inl a)))
          | inr x ↦ elim (cases_eq x.index i) as (λ _. new.pages.at p ≡ None) [
            | inl at ↦
                let same : x.bucket ≡ b = same_some _ _ (sym x.is ∙ (ap (slice_get t.buckets) at ∙ e)) in
                pages.given p (subst (λ (z : Bucket). OwnsPage z p) same x.owns) (λ now. no (inr (inr (record { index = i; bucket = c; is = after; owns = now }))))
            | inr ne ↦ absurd (no (inr (inr (record { index = x.index; bucket = x.bucket; is = slice_get-set_other t.buckets i x.index c ne ∙ x.is; owns = x.owns }))))
          ]
        ]
      ];
      exactly = let x = pages.exactly in let y = set_pages t.buckets i b c e in omega arith;
      all = pages.all;
    }

-- the root has other numbers
pub root_built : {mid new : Units Sheet} {root : ℕ} {n n' : Numbers} {t : HashTable} → IsBuilt mid.at root n t → Rewrites mid new root (root_sheet (root_cell n') t.directory) → IsInRange n' → IsBuilt new.at root n' t
root_built {mid} {new} {root} {n} {n'} {t} h r range = record {
  trunk = record {
    first = r.here;
    range = range;
    names = array_stays h.trunk.names (λ p o. r.others p (root_not_array h.trunk p o));
    size = h.trunk.size;
    named = h.trunk.named;
    fit = h.trunk.fit;
  };
  bucket = λ j d is. bucket_stays (h.bucket j d is) (λ p o. r.others p (λ (same : p ≡ root). trunk_not_bucket h.trunk (h.bucket j d is).linked p (inl same) o));
  apart = h.apart;
}

pub root_pages : {old mid new : Units Sheet} {root m m' : ℕ} {own own' : ℕ → Type 0} {sheet : Sheet} → own root → own' root → Becomes old mid own own' m m' → Rewrites mid new root sheet → Becomes old new own own' m m'
root_pages {own = own} {own' = own'} mine mine' b r = record {
  others = λ p no no'. r.others p (λ is. no' (subst own' (sym is) mine')) ∙ b.others p no no';
  taken = b.taken;
  given = λ p o no. r.others p (λ is. no (subst own' (sym is) mine')) ∙ b.given p o no;
  exactly = let x = b.exactly in let y = r.free in omega arith;
  all = r.count ∙ b.all;
}
