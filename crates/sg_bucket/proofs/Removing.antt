-- An entry taken out of a bucket, and its page where it is empty then.
use Rattle.std.proofs.Common.{◌≡◌, ◌≢◌, ℕ, zero, suc, ◌+◌, ◌<◌, List, [], ◌∷◌, length, set, Option, Some, None, slice_get, sym, ap, subst, ◌∙◌, refl, arith, inl, inr}
use Rattle.std.specs.List.{remove, sum_by}
use Rattle.std.proofs.lemmas.Bool.{cases_lt}
use Rattle.std.proofs.lemmas.List.{get_or-set_same, get_or-set_other}
use Rattle.std.proofs.lemmas.List.Edits.{get_or-remove_below, get_or-remove_above, length-remove}
use Rattle.std.proofs.lemmas.Option.{slice_get_within}
use Rattle.sg_base.specs.Sheet.{Sheet}
use Rattle.sg_base.specs.Slots.{Slots}
use Rattle.sg_base.specs.declared.numbers.PageNo.{PageNo}
use Rattle.sg_space.specs.Units.{HasAt}
use Rattle.sg_space.proofs.Known.{both}
use Rattle.sg_bucket.specs.Bucket.{Bucket, IsLinked, part_at, HasEntry, entries_of}
use Rattle.sg_bucket.specs.Entry.{entry_in, AreExchanged}
use Rattle.sg_bucket.specs.Part.{IsBucketPage}
use Rattle.sg_bucket.specs.Steps.{IsStanding, IsRemoved, IsTakenOut, HasCellAt, CanCut, IsCut, IsFull, IsBare, IsEmptied, with_part, without}
use Rattle.sg_bucket.specs.declared.walk.Place.{Place}
use Rattle.sg_bucket.proofs.Changing.{full_with, within_parts}
use Rattle.sg_bucket.proofs.Entries.{remove_exchanges, part_exchanges, cut_exchanges, no_entries}

-- the slots that are left on the page
abbrev pub left_slots : (b : Bucket) (place : Place) (i : ℕ) → Slots
left_slots b place i = set (part_at b.parts i) place.slot None

removed_exchanges : {at : ℕ → Option Sheet} {first : ℕ} {b : Bucket} {place : Place} {was : List ℕ} → IsLinked at first b → (s : IsStanding b place was) → AreExchanged (entries_of b.parts) (entries_of (set b.parts s.index (left_slots b place s.index))) (entry_in was ∷ []) []
removed_exchanges {b = b} {place = place} {was = was} h s = part_exchanges b.parts s.index (left_slots b place s.index) (entry_in was ∷ []) [] (within_parts h s.page) (remove_exchanges (part_at b.parts s.index) place.slot was s.is)

-- where the page keeps an entry
pub taken_out_left : {at : ℕ → Option Sheet} {first : ℕ} {b b' : Bucket} {place : Place} → IsLinked at first b → (k : HasCellAt place b) → IsRemoved place b b' → HasEntry (part_at b'.parts k.stands.index) → IsTakenOut place b b'
taken_out_left {b = b} {b' = b'} {place = place} h k r some = subst (λ (x : Bucket). IsTakenOut place b x) (sym is) (record {
  exchanged = λ was s. subst (λ (x : Bucket). AreExchanged (entries_of b.parts) (entries_of x.parts) (entry_in was ∷ []) []) (sym (r.is was s) ∙ is) (removed_exchanges h s);
  full = full_with b k.stands.index (left_slots b place k.stands.index) below some_left;
  few = omega arith;
})
  where
    is : b' ≡ with_part k.stands.index (left_slots b place k.stands.index) b
    is = r.is k.was k.stands

    below : k.stands.index < length b.parts
    below = within_parts h k.stands.page

    some_left : HasEntry (left_slots b place k.stands.index)
    some_left = subst HasEntry (ap (λ (x : Bucket). part_at x.parts k.stands.index) is ∙ get_or-set_same b.parts k.stands.index (left_slots b place k.stands.index) [] below) some

-- where the page is the first
pub taken_out_first : {at : ℕ → Option Sheet} {first : ℕ} {b b' : Bucket} {place : Place} → IsLinked at first b → HasCellAt place b → place.page.0 ≡ first → IsRemoved place b b' → IsTakenOut place b b'
taken_out_first {first = first} {b = b} {b' = b'} {place = place} h k same r = subst (λ (x : Bucket). IsTakenOut place b x) (sym is) (record {
  exchanged = λ was s. subst (λ (x : Bucket). AreExchanged (entries_of b.parts) (entries_of x.parts) (entry_in was ∷ []) []) (sym (r.is was s) ∙ is) (removed_exchanges h s);
  full = λ full i less. subst HasEntry (sym (get_or-set_other b.parts k.stands.index (i + 1) (left_slots b place k.stands.index) [] (λ e. absurd (let z = zero_is in omega arith)))) (full i less);
  few = omega arith;
})
  where
    is : b' ≡ with_part k.stands.index (left_slots b place k.stands.index) b
    is = r.is k.was k.stands

    zero_is : k.stands.index ≡ 0
    zero_is = h.apart k.stands.index 0 first (k.stands.page ∙ ap Some same) h.starts

-- where no entry is left on a later page, it may be cut
pub cut_ready_at : {at at' : ℕ → Option Sheet} {first before page index : ℕ} (slots : Slots) {b b' : Bucket} {next : PageNo} {o : Option PageNo} → IsLinked at first b → slice_get b.pages index ≡ Some page → ((i : ℕ) → index ≡ i + 1 → slice_get b.pages i ≡ Some before) → page ≢ first → b' ≡ with_part index slots b → IsLinked at' first b' → o ≡ Some next → HasAt at' page (IsEmptied o) → CanCut before page next.0 b'
cut_ready_at {at' = at'} {first = first} {before = before} {page = page} {index = index} slots {b = b} {b' = b'} {next = next} h there behind other is h' e seen = by index refl
  where
    same_pages : b'.pages ≡ b.pages
    same_pages = ap (λ (x : Bucket). x.pages) is

    page_at : (i : ℕ) → index ≡ i → slice_get b'.pages i ≡ Some page
    page_at i at_i = ap (λ (xs : List ℕ). slice_get xs i) same_pages ∙ (ap (slice_get b.pages) (sym at_i) ∙ there)

    here : HasAt at' page (IsEmptied (Some next))
    here = subst (λ (o : Option PageNo). HasAt at' page (IsEmptied o)) e seen

    by : (i : ℕ) → index ≡ i → CanCut before page next.0 b'
    by zero at_i = absurd (other (first_is at_i))
      where
        first_is : index ≡ 0 → page ≡ first
        first_is at_i = let one = page_at 0 at_i in let two = h'.starts in cc
    by (suc i) at_i =
        let at_one : index ≡ i + 1 = omega arith in
        let part = h'.part (i + 1) page (page_at (i + 1) at_one) in
        let looked = both part here in
        record {
          index = i;
          before_is = ap (λ (xs : List ℕ). slice_get xs i) same_pages ∙ behind i at_one;
          page_is = page_at (i + 1) at_one;
          next_is = sym part.has.next_is ∙ looked.1;
          bare = subst IsBare part.has.slots_are looked.0;
        }

pub cut_ready : {at at' : ℕ → Option Sheet} {first : ℕ} {b b' : Bucket} {place : Place} {next : PageNo} {o : Option PageNo} → IsLinked at first b → (k : HasCellAt place b) → place.page.0 ≢ first → IsRemoved place b b' → IsLinked at' first b' → o ≡ Some next → HasAt at' place.page.0 (IsEmptied o) → CanCut place.before.0 place.page.0 next.0 b'
cut_ready {b = b} {place = place} h k other r h' e seen = cut_ready_at (left_slots b place k.stands.index) h k.stands.page k.stands.before other (r.is k.was k.stands) h' e seen

-- and where the look found an entry, it's left
pub entry_left : {at' : ℕ → Option Sheet} {first : ℕ} {b b' : Bucket} {place : Place} {o : Option PageNo} → (k : HasCellAt place b) → IsRemoved place b b' → IsLinked at' first b' → o ≡ None → HasAt at' place.page.0 (IsEmptied o) → HasEntry (part_at b'.parts k.stands.index)
entry_left {at' = at'} {b = b} {b' = b'} {place = place} k r h' e seen =
    let is = r.is k.was k.stands in
    let part = h'.part k.stands.index place.page.0 (ap (λ (x : Bucket). slice_get x.pages k.stands.index) is ∙ k.stands.page) in
    let here : HasAt at' place.page.0 (IsEmptied None) = subst (λ (o : Option PageNo). HasAt at' place.page.0 (IsEmptied o)) e seen in
    subst HasEntry part.has.slots_are (both part here)

-- without its page
pub taken_out_cut : {at at' : ℕ → Option Sheet} {first before next : ℕ} {b b' b'' : Bucket} {place : Place} → IsLinked at first b → HasCellAt place b → IsRemoved place b b' → IsLinked at' first b' → CanCut before place.page.0 next b' → IsCut place.page.0 b' b'' → IsTakenOut place b b''
taken_out_cut {b = b} {b' = b'} {b'' = b''} {place = place} h k r h' can cut = record {
  exchanged = λ was s. exchanged_cut was s;
  full = λ full i less. subst (λ (x : Bucket). HasEntry (part_at x.parts (i + 1))) (sym cut_is) (full_left full i (subst (λ (x : Bucket). i + 1 < length x.pages) cut_is less));
  few = let same = same_long in let one = length-remove b'.pages (can.index + 1) (slice_get_within b'.pages (can.index + 1) place.page.0 can.page_is) in let long : length b''.pages ≡ length (remove b'.pages (can.index + 1)) = ap (λ (x : Bucket). length x.pages) cut_is in omega arith;
}
  where
    cut_is : b'' ≡ without (can.index + 1) b'
    cut_is = cut.is (can.index + 1) can.page_is

    below : can.index + 1 < length b'.parts
    below = let long = h'.long in let w = slice_get_within b'.pages (can.index + 1) place.page.0 can.page_is in omega arith

    exchanged_cut : (was : List ℕ) → IsStanding b place was → AreExchanged (entries_of b.parts) (entries_of b''.parts) (entry_in was ∷ []) []
    exchanged_cut was s =
        let one : AreExchanged (entries_of b.parts) (entries_of b'.parts) (entry_in was ∷ []) [] = subst (λ (x : Bucket). AreExchanged (entries_of b.parts) (entries_of x.parts) (entry_in was ∷ []) []) (sym (r.is was s)) (removed_exchanges h s) in
        let two : AreExchanged (entries_of b'.parts) (entries_of b''.parts) [] [] = subst (λ (x : Bucket). AreExchanged (entries_of b'.parts) (entries_of x.parts) [] []) (sym cut_is) (cut_exchanges b'.parts (can.index + 1) below (no_entries (part_at b'.parts (can.index + 1)) can.bare)) in
        record {
          had = one.had;
          sums = λ f. let x = one.sums f in let y = two.sums f in let none : sum_by f [] ≡ 0 = refl in omega arith;
        }

    -- the page that was cut is the one that has changed
    other_part : (j : ℕ) → j ≢ can.index + 1 → part_at b'.parts j ≡ part_at b.parts j
    other_part j ne =
        let is = r.is k.was k.stands in
        let at_same : k.stands.index ≡ can.index + 1 = h'.apart k.stands.index (can.index + 1) place.page.0 (ap (λ (x : Bucket). slice_get x.pages k.stands.index) is ∙ k.stands.page) can.page_is in
        ap (λ (x : Bucket). part_at x.parts j) is ∙ get_or-set_other b.parts k.stands.index j (left_slots b place k.stands.index) [] (λ e. ne (e ∙ at_same))

    same_long : length b'.pages ≡ length b.pages
    same_long = ap (λ (x : Bucket). length x.pages) (r.is k.was k.stands)

    full_left : IsFull b → (i : ℕ) → i + 1 < length (remove b'.pages (can.index + 1)) → HasEntry (part_at (remove b'.parts (can.index + 1)) (i + 1))
    full_left full i less =
        let within = slice_get_within b'.pages (can.index + 1) place.page.0 can.page_is in
        let long = length-remove b'.pages (can.index + 1) within in
        let same = same_long in
        elim (cases_lt (i + 1) (can.index + 1)) as (λ _. HasEntry (part_at (remove b'.parts (can.index + 1)) (i + 1))) [
          | inl early ↦ subst HasEntry (sym (get_or-remove_below b'.parts (can.index + 1) [] (i + 1) early below ∙ other_part (i + 1) (λ e. absurd (omega arith)))) (full i (omega arith))
          | inr late ↦ subst HasEntry (sym (get_or-remove_above b'.parts (can.index + 1) [] (i + 1) late below ∙ other_part (i + 1 + 1) (λ e. absurd (omega arith)))) (full (i + 1) (omega arith))
        ]

-- the page is still one of entries
pub removed_page : {at' : ℕ → Option Sheet} {first : ℕ} {b b' : Bucket} {place : Place} → HasCellAt place b → IsRemoved place b b' → IsLinked at' first b' → HasAt at' place.page.0 IsBucketPage
removed_page {b = b} {place = place} k r h' =
    let is = r.is k.was k.stands in
    let part = h'.part k.stands.index place.page.0 (ap (λ (x : Bucket). slice_get x.pages k.stands.index) is ∙ k.stands.page) in
    record { what = part.what; is = part.is; has = part.has.page }
