-- Changed pages are put at the places, one after another.
use Rattle.std.proofs.Common.{◌≡◌, ◌≢◌, ◌⊎◌, inl, inr, ⊎_elim, ◌<◌, ◌≤◌, ◌+◌, ℕ, false, Option, Some, None, List, [], ◌∷◌, ◌++◌, take, length, get_or, set, Result, refl, sym, ◌∙◌, ap, subst, arith, length-append, length-take-le, take-suc-set, suc}
use Rattle.std.specs.Prelude.{is_some}
use Rattle.std.proofs.lemmas.Bool.{cases_lt, cases_eq}
use Rattle.std.proofs.lemmas.Grind.{common_steps}
use Rattle.std.proofs.lemmas.List.{get_or_append_left, get_or-append-add}
use Rattle.sg_base.specs.declared.area.Area.TheVariants.{Home}
use Rattle.sg_disk.specs.Disk.{Image, Part, Leaves, LeavesOnly, View, Wrote, put, written, written_part}
use Rattle.sg_disk.proofs.Images.{put_outside}
use Rattle.sg_disk.proofs.Parts.{put_inside, window_is, leaves_written, leaves_other}
use Rattle.sg_disk.proofs.Moments.{started, goes_on}
use Rattle.sg_gate.specs.Layout.{PAGE, place_at, IsStore}
use Rattle.sg_gate.specs.Batch.{IsReady, IsWhole}
use Rattle.sg_pool.specs.Units.{page_at}
use Rattle.sg_pool.proofs.Homes.{page_same}
use Rattle.sg_pool.proofs.Placing.{placed_ready}
use Rattle.sg_pool.specs.declared.slot.Slot.{Slot}
use Rattle.sg_pool.specs.Held.{page_in, page_of, AreApart}
use Rattle.sg_pool.specs.Batches.{IsInFrame, IsCared, AreCollected, ArePlaced}
use Rattle.sg_pool.proofs.Writing.{rest_whole, whole_store}
use Rattle.sg_pool.proofs.Homed.{window_whole}

pub none_of : (o : Option ℕ) → is_some o ≡ false → o ≡ None
none_of None e = refl
none_of (Some x) e = grind (arith, common_steps, e)

-- a frame that needs no write
pub collected_skip : (slots : List Slot) (from f : ℕ) (ns : List ℕ) → AreCollected slots from f ns → IsCared slots ns f → AreCollected slots from (f + 1) ns
collected_skip slots from f ns are cared = record {
  few = are.few;
  each = λ j lt. let it = are.each j lt in (it.0, let a = it.1 in omega (arith, a), it.2, it.3);
  different = are.different;
  all = λ h low high. ⊎_elim (λ same. subst (IsCared slots ns) (sym same) cared) (λ differ. are.all h low (omega arith)) (cases_eq h f);
}

-- one number more
module _ (ns : List ℕ) (n : ℕ) where
  abbrev pub more : List ℕ
  more = ns ++ n ∷ []

  pub long_more : length more ≡ length ns + 1
  long_more = length-append ns (n ∷ [])

  pub old_more : (j : ℕ) → j < length ns → get_or more j 0 ≡ get_or ns j 0
  old_more j lt = get_or_append_left ns (n ∷ []) 0 j lt

  pub last_more : get_or more (length ns) 0 ≡ n
  last_more = let e : length ns ≡ length ns + 0 = omega arith in ap (λ (j : ℕ). get_or more j 0) e ∙ get_or-append-add ns (n ∷ []) 0 0

  one_of : (j : ℕ) → j < length more → (j < length ns) ⊎ (j ≡ length ns)
  one_of j lt = ⊎_elim (λ low. inl low) (λ high. inr (let e = long_more in omega (arith, e))) (cases_lt j (length ns))

  -- a frame whose page is put at the next place
  module _ (slots : List Slot) (from f : ℕ) (are : AreCollected slots from f ns) (apart : AreApart slots) (lt : f < length slots) (is : page_in slots f ≡ Some n) (room : length ns < 32) where
    each_more : (j : ℕ) → j < length more → IsInFrame slots (f + 1) (get_or more j 0)
    each_more j less = ⊎_elim
        (λ low. subst (IsInFrame slots (f + 1)) (sym (old_more j low)) (let it = are.each j low in (it.0, let a = it.1 in omega (arith, a), it.2, it.3)))
        (λ last. subst (IsInFrame slots (f + 1)) (sym (ap (λ (k : ℕ). get_or more k 0) last ∙ last_more)) (f, omega arith, lt, is))
        (one_of j less)

    -- it isn't there yet
    not_yet : (j : ℕ) → j < length ns → get_or ns j 0 ≢ n
    not_yet j low same =
        let it = are.each j low in
        let one : it.0 ≡ f = apart it.0 f n it.2 lt (it.3 ∙ ap Some same) is in
        let a = it.1 in absurd (omega (arith, a, one))

    different_more : (j k : ℕ) → j < k → k < length more → get_or more j 0 ≢ get_or more k 0
    different_more j k less high = ⊎_elim
        (λ low. λ same. are.different j k less low (sym (old_more j (omega arith)) ∙ (same ∙ old_more k low)))
        (λ last. λ same. let at : j < length ns = omega (arith, last) in not_yet j at (sym (old_more j at) ∙ (same ∙ (ap (λ (i : ℕ). get_or more i 0) last ∙ last_more))))
        (one_of k high)

    cared_more : (h : ℕ) → IsCared slots ns h → IsCared slots more h
    cared_more h cared = ⊎_elim (λ none. inl none) (λ it. inr (it.0, let a = it.1 in let e = long_more in omega (arith, a, e), it.2 ∙ ap Some (sym (old_more it.0 it.1)))) cared

    pub collected_more : AreCollected slots from (f + 1) more
    collected_more = record {
      few = let e = long_more in omega (arith, e);
      each = each_more;
      different = different_more;
      all = λ h low high. ⊎_elim
          (λ same. inr (length ns, let e = long_more in omega (arith, e), ap (page_in slots) same ∙ (is ∙ ap Some (sym last_more))))
          (λ differ. cared_more h (are.all h low (omega arith)))
          (cases_eq h f);
    }

  -- and the places
  module _ (k : ℕ) (small : k < 32) (page : List ℕ) (long : length page ≡ PAGE) (q : Part) where
    abbrev pub next : Part
    next = written_part (place_at k) page q

    outside : (i : ℕ) → (i < place_at k) ⊎ (place_at k + PAGE ≤ i) → next.seen i ≡ q.seen i
    outside i out = put_outside (place_at k) page q.seen i (λ low lt. ⊎_elim (λ a. absurd (omega arith)) (λ a. absurd (omega arith)) out)

    store_same : (i : ℕ) → IsStore i → next.seen i ≡ q.seen i
    store_same i store = outside i (⊎_elim (λ low. inl (omega arith)) (λ high. inr (omega arith)) store)

    there : page_at next.seen (place_at k) ≡ page
    unfolding page_at
    there = window_whole next.seen (place_at k) PAGE page long (window_is next.seen (place_at k) page (λ j lt. put_inside (place_at k) page q.seen j 0 lt))

    earlier_place : (j : ℕ) → j < k → page_at next.seen (place_at j) ≡ page_at q.seen (place_at j)
    earlier_place j lt = page_same next.seen q.seen (place_at j) (place_at j) (λ i low. outside (place_at j + i) (inl (omega arith)))

    pub placed_more : (slots : List Slot) (frames : List (List ℕ)) (p : Part) → length ns ≡ k → page ≡ page_of slots frames n [] → ArePlaced slots frames ns p q → ArePlaced slots frames more p next
    placed_more slots frames p count is are = record {
      ready = placed_ready k page small long q are.ready;
      store = λ i store. store_same i store ∙ are.store i store;
      pages = λ j less. ⊎_elim
          (λ low. earlier_place j (omega (arith, count)) ∙ (are.pages j low ∙ ap (λ (m : ℕ). page_of slots frames m []) (sym (old_more j low))))
          (λ last. ap (λ (i : ℕ). page_at next.seen (place_at i)) (last ∙ count) ∙ (there ∙ (is ∙ ap (λ (m : ℕ). page_of slots frames m []) (sym (ap (λ (i : ℕ). get_or more i 0) last ∙ last_more)))))
          (one_of j less);
    }

    -- the moments of a place
    module _ (pages : ℕ) (v m : View) (ready : IsReady (v.now Home)) (is : v.now Home ≡ q) where
      abbrev Same : Image → Type 0
      Same = IsWhole v.now pages (v.now Home).seen

      at_start : (c : Image) → Leaves v.now c → Same c
      at_start c leaves = rest_whole v.now pages (v.now Home) c ready (leaves Home) (λ b other. leaves b)

      while_placed : (c : Image) → Leaves (written Home (place_at k) page v.now) c → Same c
      while_placed c leaves = whole_store v.now pages (put (place_at k) page (v.now Home).seen) (v.now Home).seen c
          (λ i store. put_outside (place_at k) page (v.now Home).seen i (λ low lt. ⊎_elim (λ a. absurd (omega arith)) (λ a. absurd (omega arith)) store))
          (rest_whole v.now pages (written_part (place_at k) page (v.now Home)) c (placed_ready k page small long (v.now Home) ready) (leaves_written v.now Home (place_at k) page c leaves)
          (λ b other. leaves_other v.now Home b (place_at k) page c other leaves))

      pub place_whole : {T E : Type 0} (r : Result T E) → Wrote Home (place_at k) page v m r → LeavesOnly v m Same
      place_whole r wrote = goes_on (started v Same at_start) wrote while_placed

-- nothing is written
pub none_whole : (pages : ℕ) (v : View) → IsReady (v.now Home) → LeavesOnly v v (IsWhole v.now pages (v.now Home).seen)
none_whole pages v ready = started v (IsWhole v.now pages (v.now Home).seen) (λ c leaves. rest_whole v.now pages (v.now Home) c ready (leaves Home) (λ b other. leaves b))

pub count_is : (xs : List ℕ) (k : ℕ) → k < 32 → length xs ≡ 32 → length (take k xs) ≡ k
count_is xs k small long = length-take-le k xs (omega (arith, long))

pub take_set : (xs : List ℕ) (k n : ℕ) → k < length xs → take (k + 1) (set xs k n) ≡ take k xs ++ n ∷ []
take_set xs k n lt = let e : k + 1 ≡ suc k = omega arith in ap (λ (j : ℕ). take j (set xs k n)) e ∙ take-suc-set xs k n lt

pub length_front : (xs : List ℕ) (k : ℕ) → k ≤ 32 → length xs ≡ 32 → length (take k xs) ≡ k
length_front xs k small long = length-take-le k xs (omega (arith, long))
