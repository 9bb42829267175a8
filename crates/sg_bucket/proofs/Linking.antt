-- Chains of which one page has changed, or one is more, or one less.
use Rattle.std.proofs.Common.{◌≡◌, ◌≢◌, ℕ, zero, suc, ◌+◌, ◌-◌, ◌<◌, ◌≤◌, ◌^◌, ◌⊎◌, List, [], ◌∷◌, ◌++◌, length, set, slice_index, Option, Some, None, IsSome, slice_get, sym, ap, subst, ◌∙◌, refl, arith, inl, inr}
use Rattle.std.specs.List.{remove}
use Rattle.std.proofs.lemmas.Bool.{cases_lt, cases_eq}
use Rattle.std.proofs.lemmas.List.{get_or-set_same, get_or-set_other, length-set, length_push, get_or_push, get_or_append_left, get_or_past}
use Rattle.std.proofs.lemmas.List.Edits.{get_or-remove_below, get_or-remove_above, length-remove}
use Rattle.std.proofs.lemmas.Option.{slice_get_within, slice_get-get_or, slice_get_past}
use Rattle.sg_base.specs.Sheet.{Sheet}
use Rattle.sg_base.specs.Slots.{Slots}
use Rattle.sg_space.specs.Owned.{Becomes}
use Rattle.sg_space.specs.Reads.{one_cell}
use Rattle.sg_space.specs.Units.{HasAt, Units, IsChanged, IsTaken, IsFreed}
use Rattle.sg_space.proofs.Known.{moved, same_some}
use Rattle.sg_space.proofs.Putting.{slice_get-push_same, slice_get-push_other}
use Rattle.sg_bucket.specs.Bucket.{Bucket, IsLinked, IsPart, part_at, OwnsPage}
use Rattle.sg_bucket.specs.Entry.{IsEntryCell}
use Rattle.sg_bucket.specs.Part.{AreEntries}
use Rattle.sg_bucket.specs.Steps.{IsLast, CanCut, with_page, with_part, without}

-- a page with this part, whatever its slots are called
same_part : {at : ℕ → Option Sheet} {p n m : ℕ} {slots other : Slots} → n ≡ m → slots ≡ other → HasAt at p (IsPart n slots) → HasAt at p (IsPart m other)
same_part {n = n} {m = m} {slots = slots} {other = other} e f h = record {
  what = h.what;
  is = h.is;
  has = record { page = h.has.page; slots_are = h.has.slots_are ∙ f; next_is = h.has.next_is ∙ e };
}

-- two places of one page are one, and pages of two places are two
same_page : (xs : List ℕ) (i : ℕ) {p q : ℕ} → slice_get xs i ≡ Some p → slice_get xs i ≡ Some q → q ≡ p
same_page xs i e f = same_some _ _ (sym f ∙ e)

pub other_page : {at : ℕ → Option Sheet} {first : ℕ} {b : Bucket} {i j p q : ℕ} → IsLinked at first b → slice_get b.pages i ≡ Some p → slice_get b.pages j ≡ Some q → j ≢ i → q ≢ p
other_page {b = b} {i = i} {j = j} {p = p} h e f ne = λ same. ne (h.apart j i p (f ∙ ap Some same) e)

pub part_changed : (i : ℕ) {old new : Units Sheet} {first p : ℕ} {b : Bucket} {slots : Slots} {change : Sheet → Option Sheet} → IsLinked old.at first b → slice_get b.pages i ≡ Some p → IsChanged old new p change → ((sheet : Sheet) → sheet.slots ≡ part_at b.parts i → change sheet ≡ Some (record sheet { slots = slots })) → AreEntries slots → IsLinked new.at first (with_part i slots b)
part_changed i {old} {new} {first} {p} {b} {slots} {change} h e c makes cells = record {
  starts = h.starts;
  long = length-set b.parts i slots ∙ h.long;
  part = λ j q f. elim (cases_eq j i) as (λ _. HasAt new.at q (IsPart (slice_index b.pages (j + 1)) (part_at (set b.parts i slots) j))) [
    | inl same ↦ here j q f same
    | inr other ↦ same_part refl (sym (get_or-set_other b.parts i j slots [] other)) (moved (c.others q (other_page h e f other)) (h.part j q f))
  ];
  fit = h.fit;
  behind = h.behind;
  apart = h.apart;
}
  where
    within : i < length b.parts
    within = let long = h.long in let below = slice_get_within b.pages i p e in omega arith

    changed_here : HasAt new.at p (IsPart (slice_index b.pages (i + 1)) slots)
    changed_here =
        let was = h.part i p e in
        record {
          what = record was.what { slots = slots };
          is = c.here was.what was.is ∙ makes was.what was.has.slots_are;
          has = record { page = record { kind = was.has.page.kind; cells = cells }; slots_are = refl; next_is = was.has.next_is };
        }

    here : (j q : ℕ) → slice_get b.pages j ≡ Some q → j ≡ i → HasAt new.at q (IsPart (slice_index b.pages (j + 1)) (part_at (set b.parts i slots) j))
    here j q f same =
        let page : q ≡ p = same_page b.pages i e (ap (slice_get b.pages) (sym same) ∙ f) in
        let there : HasAt new.at q (IsPart (slice_index b.pages (i + 1)) slots) = subst (λ (n : ℕ). HasAt new.at n (IsPart (slice_index b.pages (i + 1)) slots)) (sym page) changed_here in
        same_part (ap (λ (n : ℕ). slice_index b.pages (n + 1)) (sym same)) (sym (ap (part_at (set b.parts i slots)) same ∙ get_or-set_same b.parts i slots [] within)) there

-- the pages are the same
pub same_owned : (i : ℕ) {old new : Units Sheet} {p : ℕ} (b b' : Bucket) {change : Sheet → Option Sheet} → b'.pages ≡ b.pages → slice_get b.pages i ≡ Some p → IsChanged old new p change → Becomes old new (OwnsPage b) (OwnsPage b') (length b.pages) (length b'.pages)
same_owned i {old} {new} {p} b b' same e c = record {
  others = λ n none none'. c.others n (λ is. none (i, e ∙ ap Some (sym is)));
  taken = λ n o. inl (o.0, ap (λ (xs : List ℕ). slice_get xs o.0) (sym same) ∙ o.1);
  given = λ n o none. absurd (none (o.0, ap (λ (xs : List ℕ). slice_get xs o.0) same ∙ o.1));
  exactly = let free = c.free in let long : length b'.pages ≡ length b.pages = ap (λ (xs : List ℕ). length xs) same in omega arith;
  all = c.count;
}

pub one_entry : (cell : List ℕ) → IsEntryCell cell → AreEntries (Some cell ∷ [])
one_entry cell h zero other e = subst (λ (c : List ℕ). IsEntryCell c) (same_some _ _ e) h
one_entry cell h (suc slot) other e = absurd (cc)

pub appended : {old mid new : Units Sheet} {first last q : ℕ} {b : Bucket} {cell : List ℕ} {change : Sheet → Option Sheet} → IsLinked old.at first b → IsLast last b → IsTaken old mid q (λ sheet. sheet ≡ one_cell 6 cell) → IsChanged mid new last change → ((sheet : Sheet) → change sheet ≡ Some (record sheet { links = (q, 0) })) → IsSome (old.at 0) → q < 2 ^ 32 → IsEntryCell cell → IsLinked new.at first (with_page q cell b)
appended {old} {mid} {new} {first} {last} {q} {b} {cell} {change} h l t c makes zero_there small entry = record {
  starts = early 0 first h.starts;
  long = let one = length_push b.parts (Some cell ∷ []) in let two = length_push b.pages q in let long = h.long in omega arith;
  part = λ j p e. elim (cases_lt j (length b.pages)) as (λ _. HasAt new.at p (IsPart (slice_index (b.pages ++ (q ∷ [])) (j + 1)) (part_at (b.parts ++ ((Some cell ∷ []) ∷ [])) j))) [
    | inl below ↦ old_part j p below (back j p e below)
    | inr past ↦ new_part j p past e
  ];
  fit = λ j p e. elim (cases_lt j (length b.pages)) as (λ _. p < 2 ^ 32) [
    | inl below ↦ h.fit j p (back j p e below)
    | inr past ↦ subst (λ (n : ℕ). n < 2 ^ 32) (sym (late j p past e).1) small
  ];
  behind = λ j p e. elim (cases_lt (j + 1) (length b.pages)) as (λ _. 0 < p) [
    | inl below ↦ h.behind j p (back (j + 1) p e below)
    | inr past ↦ subst (λ (n : ℕ). 0 < n) (sym (late (j + 1) p past e).1) more
  ];
  apart = λ i j p e f. elim (cases_lt i (length b.pages)) as (λ _. i ≡ j) [
    | inl below ↦ elim (cases_lt j (length b.pages)) as (λ _. i ≡ j) [
      | inl less ↦ h.apart i j p (back i p e below) (back j p f less)
      | inr past ↦ absurd (fresh i p (back i p e below) (late j p past f).1)
    ]
    | inr past ↦ elim (cases_lt j (length b.pages)) as (λ _. i ≡ j) [
      | inl less ↦ absurd (fresh j p (back j p f less) (late i p past e).1)
      | inr beyond ↦ (late i p past e).0 ∙ sym (late j p beyond f).0
    ]
  ];
}
  where
    early : (i p : ℕ) → slice_get b.pages i ≡ Some p → slice_get (b.pages ++ (q ∷ [])) i ≡ Some p
    early i p e = let below = slice_get_within b.pages i p e in slice_get-push_other b.pages i q (λ same. absurd (omega arith)) ∙ e

    back : (i p : ℕ) → slice_get (b.pages ++ (q ∷ [])) i ≡ Some p → i < length b.pages → slice_get b.pages i ≡ Some p
    back i p e below = sym (slice_get-push_other b.pages i q (λ same. absurd (omega arith))) ∙ e

    -- what stands behind the old pages is the new one
    late : (i p : ℕ) → length b.pages ≤ i → slice_get (b.pages ++ (q ∷ [])) i ≡ Some p → (i ≡ length b.pages) × (p ≡ q)
    late i p past e =
        let within = slice_get_within (b.pages ++ (q ∷ [])) i p e in
        let long = length_push b.pages q in
        let at : i ≡ length b.pages = omega arith in
        (at, same_some _ _ (sym e ∙ slice_get-push_same b.pages i q at))

    -- the new page is none of the old
    fresh : (i p : ℕ) → slice_get b.pages i ≡ Some p → p ≢ q
    fresh i p e = λ same. let some = (h.part i p e).is in let none : old.at p ≡ None = ap old.at same ∙ t.was_free in cc

    more : 0 < q
    more = elim (cases_lt 0 q) as (λ _. 0 < q) [
      | inl positive ↦ positive
      | inr none ↦ absurd (is_zero (let z : q ≡ 0 = omega arith in z))
    ]
      where
        is_zero : q ≡ 0 → ⊥
        is_zero z = let free : old.at 0 ≡ None = ap old.at (sym z) ∙ t.was_free in let some : IsSome {T = Sheet} None = subst (λ (o : Option Sheet). IsSome o) free zero_there in cc

    new_part : (j p : ℕ) → length b.pages ≤ j → slice_get (b.pages ++ (q ∷ [])) j ≡ Some p → HasAt new.at p (IsPart (slice_index (b.pages ++ (q ∷ [])) (j + 1)) (part_at (b.parts ++ ((Some cell ∷ []) ∷ [])) j))
    new_part j p past e =
        let is = late j p past e in
        let long = h.long in
        let pages_long = length_push b.pages q in
        let at : new.at p ≡ Some (one_cell 6 cell) = c.others p (λ same. fresh l.index last l.page (sym same ∙ is.1)) ∙ (ap mid.at is.1 ∙ (t.fresh.is ∙ ap Some t.fresh.has)) in
        record {
          what = one_cell 6 cell;
          is = at;
          has = record {
            page = record { kind = refl; cells = one_entry cell entry };
            slots_are = sym (get_or_push b.parts (Some cell ∷ []) [] j (let z : length b.parts ≡ j = let w = is.0 in omega arith in z));
            next_is = sym (get_or_past (b.pages ++ (q ∷ [])) (j + 1) 0 (let w = is.0 in omega arith));
          };
        }

    old_part : (j p : ℕ) → j < length b.pages → slice_get b.pages j ≡ Some p → HasAt new.at p (IsPart (slice_index (b.pages ++ (q ∷ [])) (j + 1)) (part_at (b.parts ++ ((Some cell ∷ []) ∷ [])) j))
    old_part j p below e =
        let was = h.part j p e in
        let long = h.long in
        let slots : part_at (b.parts ++ ((Some cell ∷ []) ∷ [])) j ≡ part_at b.parts j = get_or_append_left b.parts ((Some cell ∷ []) ∷ []) [] j (omega arith) in
        let mid_is : mid.at p ≡ old.at p = t.others p (fresh j p e) in
        elim (cases_eq j l.index) as (λ _. HasAt new.at p (IsPart (slice_index (b.pages ++ (q ∷ [])) (j + 1)) (part_at (b.parts ++ ((Some cell ∷ []) ∷ [])) j))) [
          | inl same ↦
              let page : p ≡ last = same_page b.pages l.index l.page (ap (slice_get b.pages) (sym same) ∙ e) in
              let ends = l.ends in
              record {
                what = record was.what { links = (q, 0) };
                is = ap new.at page ∙ (c.here was.what (ap mid.at (sym page) ∙ (mid_is ∙ was.is)) ∙ makes was.what);
                has = record {
                  page = record { kind = was.has.page.kind; cells = was.has.page.cells };
                  slots_are = was.has.slots_are ∙ sym slots;
                  next_is = sym (get_or_push b.pages q 0 (j + 1) (omega arith));
                };
              }
          | inr other ↦
              let ends = l.ends in
              same_part (sym (get_or_append_left b.pages (q ∷ []) 0 (j + 1) (omega arith))) (sym slots) (moved (c.others p (other_page h l.page e other) ∙ mid_is) was)
        ]

pub append_owned : {old mid new : Units Sheet} {last q : ℕ} (b : Bucket) (cell : List ℕ) {P : Sheet → Type 0} {change : Sheet → Option Sheet} → IsLast last b → IsTaken old mid q P → IsChanged mid new last change → Becomes old new (OwnsPage b) (OwnsPage (with_page q cell b)) (length b.pages) (length (with_page q cell b).pages)
append_owned {old} {mid} {new} {last} {q} b cell l t c = record {
  others = λ n none none'. c.others n (λ same. none (l.index, l.page ∙ ap Some (sym same))) ∙ t.others n (λ same. none' (length b.pages, slice_get-push_same b.pages (length b.pages) q refl ∙ ap Some (sym same)));
  taken = λ n o. elim (cases_lt o.0 (length b.pages)) as (λ _. OwnsPage b n ⊎ (old.at n ≡ None)) [
    | inl below ↦ inl (o.0, sym (slice_get-push_other b.pages o.0 q (λ same. absurd (omega arith))) ∙ o.1)
    | inr past ↦
        let within = slice_get_within (b.pages ++ (q ∷ [])) o.0 n o.1 in
        let long = length_push b.pages q in
        let at : o.0 ≡ length b.pages = omega arith in
        let is : n ≡ q = same_some _ _ (sym o.1 ∙ slice_get-push_same b.pages o.0 q at) in
        inr (ap old.at is ∙ t.was_free)
  ];
  given = λ n o none. absurd (none (o.0, let below = slice_get_within b.pages o.0 n o.1 in slice_get-push_other b.pages o.0 q (λ same. absurd (omega arith)) ∙ o.1));
  exactly = let one = t.free in let two = c.free in let long = length_push b.pages q in omega arith;
  all = c.count ∙ t.count;
}

-- a list with one element less
pub slice_get-remove_below : (xs : List ℕ) (i k : ℕ) → k < i → i < length xs → slice_get (remove xs i) k ≡ slice_get xs k
slice_get-remove_below xs i k less within =
    let long = length-remove xs i within in
    slice_get-get_or (remove xs i) k 0 (omega arith) ∙ (ap Some (get_or-remove_below xs i 0 k less within) ∙ sym (slice_get-get_or xs k 0 (omega arith)))

pub slice_get-remove_above : (xs : List ℕ) (i k : ℕ) → i ≤ k → i < length xs → slice_get (remove xs i) k ≡ slice_get xs (k + 1)
slice_get-remove_above xs i k more within =
    let long = length-remove xs i within in
    elim (cases_lt (k + 1) (length xs)) as (λ _. slice_get (remove xs i) k ≡ slice_get xs (k + 1)) [
      | inl below ↦ slice_get-get_or (remove xs i) k 0 (omega arith) ∙ (ap Some (get_or-remove_above xs i 0 k more within) ∙ sym (slice_get-get_or xs (k + 1) 0 below))
      | inr past ↦ slice_get_past (remove xs i) k (omega arith) ∙ sym (slice_get_past xs (k + 1) past)
    ]

-- where an element that is left stood before
pub record WasAt (xs : List ℕ) (i k x : ℕ) : Type 0 where
  pub place : ℕ
  pub is : slice_get xs place ≡ Some x
  pub where_is : ((k < i) × (place ≡ k)) ⊎ ((i ≤ k) × (place ≡ k + 1))

pub was_at : (xs : List ℕ) (i k x : ℕ) → i < length xs → slice_get (remove xs i) k ≡ Some x → WasAt xs i k x
was_at xs i k x within e = elim (cases_lt k i) as (λ _. WasAt xs i k x) [
  | inl less ↦ record { place = k; is = sym (slice_get-remove_below xs i k less within) ∙ e; where_is = inl (less, refl) }
  | inr more ↦ record { place = k + 1; is = sym (slice_get-remove_above xs i k more within) ∙ e; where_is = inr (more, refl) }
]

pub cut_linked : {old mid new : Units Sheet} {first before page next : ℕ} {b : Bucket} {change : Sheet → Option Sheet} → IsLinked old.at first b → (k : CanCut before page next b) → IsChanged old mid before change → ((sheet : Sheet) → change sheet ≡ Some (record sheet { links = (next, 0) })) → IsFreed mid new page → IsLinked new.at first (without (k.index + 1) b)
cut_linked {old} {mid} {new} {first} {before} {page} {next} {b} {change} h k c makes f = record {
  starts = slice_get-remove_below b.pages (k.index + 1) 0 (omega arith) within ∙ h.starts;
  long = let one = length-remove b.pages (k.index + 1) within in let two = length-remove b.parts (k.index + 1) within_parts in let long = h.long in omega arith;
  part = λ j q e. elim (cases_lt j (k.index + 1)) as (λ _. HasAt new.at q (IsPart (slice_index (remove b.pages (k.index + 1)) (j + 1)) (part_at (remove b.parts (k.index + 1)) j))) [
    | inl less ↦ elim (cases_eq j k.index) as (λ _. HasAt new.at q (IsPart (slice_index (remove b.pages (k.index + 1)) (j + 1)) (part_at (remove b.parts (k.index + 1)) j))) [
      | inl same ↦ relinked j q same (sym (slice_get-remove_below b.pages (k.index + 1) j less within) ∙ e)
      | inr other ↦
          let was : slice_get b.pages j ≡ Some q = sym (slice_get-remove_below b.pages (k.index + 1) j less within) ∙ e in
          same_part (sym (get_or-remove_below b.pages (k.index + 1) 0 (j + 1) (omega arith) within)) (sym (get_or-remove_below b.parts (k.index + 1) [] j less within_parts)) (left j q was other (λ s. absurd (omega arith)))
    ]
    | inr more ↦
        let was : slice_get b.pages (j + 1) ≡ Some q = sym (slice_get-remove_above b.pages (k.index + 1) j more within) ∙ e in
        same_part (sym (get_or-remove_above b.pages (k.index + 1) 0 (j + 1) (omega arith) within)) (sym (get_or-remove_above b.parts (k.index + 1) [] j more within_parts)) (left (j + 1) q was (λ s. absurd (omega arith)) (λ s. absurd (omega arith)))
  ];
  fit = λ j q e. let w = was_at b.pages (k.index + 1) j q within e in h.fit w.place q w.is;
  behind = λ j q e. later j q (was_at b.pages (k.index + 1) (j + 1) q within e);
  apart = λ i j q e g. one_place i j q (was_at b.pages (k.index + 1) i q within e) (was_at b.pages (k.index + 1) j q within g);
}
  where
    within : (k.index + 1) < length b.pages
    within = slice_get_within b.pages (k.index + 1) page k.page_is

    within_parts : (k.index + 1) < length b.parts
    within_parts = let long = h.long in let w = within in omega arith

    -- a page that is neither the one before nor the one that goes
    left : (j q : ℕ) → slice_get b.pages j ≡ Some q → j ≢ k.index → j ≢ k.index + 1 → HasAt new.at q (IsPart (slice_index b.pages (j + 1)) (part_at b.parts j))
    left j q e ne ne' = moved (f.others q (other_page h k.page_is e ne') ∙ c.others q (other_page h k.before_is e ne)) (h.part j q e)

    relinked : (j q : ℕ) → j ≡ k.index → slice_get b.pages j ≡ Some q → HasAt new.at q (IsPart (slice_index (remove b.pages (k.index + 1)) (j + 1)) (part_at (remove b.parts (k.index + 1)) j))
    relinked j q same e =
        let was = h.part j q e in
        let at : q ≡ before = same_page b.pages k.index k.before_is (ap (slice_get b.pages) (sym same) ∙ e) in
        let gone : q ≢ page = other_page h k.page_is e (λ s. absurd (omega arith)) in
        record {
          what = record was.what { links = (next, 0) };
          is = f.others q gone ∙ (ap mid.at at ∙ (c.here was.what (ap old.at (sym at) ∙ was.is) ∙ makes was.what));
          has = record {
            page = record { kind = was.has.page.kind; cells = was.has.page.cells };
            slots_are = was.has.slots_are ∙ sym (get_or-remove_below b.parts (k.index + 1) [] j (omega arith) within_parts);
            next_is = sym (get_or-remove_above b.pages (k.index + 1) 0 (j + 1) (omega arith) within ∙ (ap (λ (n : ℕ). slice_index b.pages (n + 1 + 1)) same ∙ k.next_is));
          };
        }

    later : (j q : ℕ) → WasAt b.pages (k.index + 1) (j + 1) q → 0 < q
    later j q w = elim w.where_is as (λ _. 0 < q) [
      | inl a ↦ h.behind j q (ap (slice_get b.pages) (sym a.1) ∙ w.is)
      | inr a ↦ h.behind (j + 1) q (ap (slice_get b.pages) (sym a.1) ∙ w.is)
    ]

    one_place : (i j q : ℕ) → WasAt b.pages (k.index + 1) i q → WasAt b.pages (k.index + 1) j q → i ≡ j
    one_place i j q v w =
        let same = h.apart v.place w.place q v.is w.is in
        elim v.where_is as (λ _. i ≡ j) [
          | inl x ↦ elim w.where_is as (λ _. i ≡ j) [ inl y ↦ omega arith | inr y ↦ absurd (omega arith) ]
          | inr x ↦ elim w.where_is as (λ _. i ≡ j) [ inl y ↦ absurd (omega arith) | inr y ↦ omega arith ]
        ]

pub cut_owned : {old mid new : Units Sheet} {before page next : ℕ} (b : Bucket) {change : Sheet → Option Sheet} (k : CanCut before page next b) → IsChanged old mid before change → IsFreed mid new page → Becomes old new (OwnsPage b) (OwnsPage (without (k.index + 1) b)) (length b.pages) (length (without (k.index + 1) b).pages)
cut_owned {old} {mid} {new} {before} {page} {next} b {change} k c f = record {
  others = λ n none none'. f.others n (λ same. none (k.index + 1, k.page_is ∙ ap Some (sym same))) ∙ c.others n (λ same. none (k.index, k.before_is ∙ ap Some (sym same)));
  taken = λ n o. let w = was_at b.pages (k.index + 1) o.0 n within o.1 in inl (w.place, w.is);
  given = λ n o none. elim (cases_eq o.0 (k.index + 1)) as (λ _. new.at n ≡ None) [
    | inl same ↦ ap new.at (same_page b.pages (k.index + 1) k.page_is (ap (slice_get b.pages) (sym same) ∙ o.1)) ∙ f.gone
    | inr other ↦ absurd (none (still n o other))
  ];
  exactly = let one = c.free in let two = f.free in let long = length-remove b.pages (k.index + 1) within in omega arith;
  all = f.count ∙ c.count;
}
  where
    within : k.index + 1 < length b.pages
    within = slice_get_within b.pages (k.index + 1) page k.page_is

    still : (n : ℕ) (o : OwnsPage b n) → o.0 ≢ k.index + 1 → OwnsPage (without (k.index + 1) b) n
    still n o other = elim (cases_lt o.0 (k.index + 1)) as (λ _. OwnsPage (without (k.index + 1) b) n) [
      | inl less ↦ (o.0, slice_get-remove_below b.pages (k.index + 1) o.0 less within ∙ o.1)
      | inr more ↦
          let at : slice_get (remove b.pages (k.index + 1)) (o.0 - 1) ≡ slice_get b.pages (o.0 - 1 + 1) = slice_get-remove_above b.pages (k.index + 1) (o.0 - 1) (omega arith) within in
          (o.0 - 1, at ∙ (ap (slice_get b.pages) (let e : o.0 - 1 + 1 ≡ o.0 = omega arith in e) ∙ o.1))
    ]
