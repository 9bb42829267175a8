-- The list by page number when a frame is emptied and filled.
use Rattle.std.proofs.Common.{◌≡◌, ⊎_elim, ◌<◌, ℕ, Option, Some, None, List, [], length, get_or, set, refl, sym, ◌∙◌, ap, subst, arith, length-set, get_or-set_same, get_or-set_other}
use Rattle.std.proofs.lemmas.Bool.{cases_eq}
use Rattle.std.proofs.lemmas.List.{set-set}
use Rattle.sg_frames.specs.Held.{Held}
use Rattle.sg_pool.specs.declared.slot.Slot.{Slot}
use Rattle.sg_pool.specs.declared.windows.Windows.{Windows}
use Rattle.sg_pool.specs.Held.{no_slot, frame_of, page_in, AreApart, IsIndex}
use Rattle.sg_pool.specs.Frames.{IsShelf}
use Rattle.sg_pool.specs.Well.{IsWell}
use Rattle.sg_pool.proofs.Slots.{some_same, none_is_some, none_or_some, frame_is, frame_kept, frame_other, frame_gone, apart_new, apart_none, page_here}
use Rattle.sg_pool.proofs.Changing.{shelf_slot}

module _ (slots : List Slot) (index : List (Option ℕ)) (f : ℕ) (lt : f < length slots) (apart : AreApart slots) (found : IsIndex slots index) where
  -- a frame that had no page
  still_none : page_in slots f ≡ None → IsIndex (set slots f no_slot) index
  still_none none n less = found n less ∙ sym (frame_kept slots f no_slot lt (sym none) n apart)

  -- the page of a frame isn't in it any more
  gone : (m : ℕ) → page_in slots f ≡ Some m → m < length index → IsIndex (set slots f no_slot) (set index m None)
  gone m was small n less =
      let low : n < length index = let e = length-set index m None in omega (arith, e) in
      ⊎_elim
      (λ same. subst (λ (j : ℕ). get_or (set index m None) j None ≡ frame_of (set slots f no_slot) j) (sym same)
      (get_or-set_same index m None None small ∙ sym (frame_gone slots f no_slot lt m apart was (none_is_some m))))
      (λ differ. get_or-set_other index m n None None differ ∙ (found n low
      ∙ sym (frame_other slots f no_slot lt n (apart_none slots f no_slot lt refl apart) (none_is_some n) (λ is. differ (some_same n m (sym is ∙ was))))))
      (cases_eq n m)

  -- an empty frame gets page p
  pub filled : (p : ℕ) → p < length index → page_in slots f ≡ None → frame_of slots p ≡ None → IsIndex (set slots f (record { number = Some p; since = None })) (set index p (Some f))
  filled p small none absent n less =
      let s : Slot = record { number = Some p; since = None } in
      let low : n < length index = let e = length-set index p (Some f) in omega (arith, e) in
      let apart' : AreApart (set slots f s) = apart_new slots f s lt p refl absent apart in
      ⊎_elim
      (λ same. subst (λ (j : ℕ). get_or (set index p (Some f)) j None ≡ frame_of (set slots f s) j) (sym same)
      (get_or-set_same index p (Some f) None small ∙ sym (frame_is (set slots f s) f p apart' (let e = length-set slots f s in omega (arith, e, lt)) (page_here slots f s lt))))
      (λ differ. get_or-set_other index p n (Some f) None differ ∙ (found n low
      ∙ sym (frame_other slots f s lt n apart' (λ is. differ (sym (some_same p n is))) (λ is. none_is_some n (sym none ∙ is)))))
      (cases_eq n p)

  -- the page of a frame is taken out of the list, where it has one
  pub emptied : (new : List (Option ℕ)) → ((n : ℕ) → page_in slots f ≡ Some n → n < length index) → (page_in slots f ≡ None → new ≡ index) → ((n : ℕ) → page_in slots f ≡ Some n → new ≡ set index n None)
      → (length new ≡ length index) × IsIndex (set slots f no_slot) new
  emptied new small none some = ⊎_elim
      (λ empty. let is = none empty in (ap length is, subst (IsIndex (set slots f no_slot)) (sym is) (still_none empty)))
      (λ held. let is = some held.0 held.1 in (ap length is ∙ length-set index held.0 None, subst (IsIndex (set slots f no_slot)) (sym is) (gone held.0 held.1 (small held.0 held.1))))
      (none_or_some (page_in slots f))

module _ (pages bands : ℕ) (slots : List Slot) (index : List (Option ℕ)) (wins : Windows) (frames : Held) (shelf : IsShelf pages bands slots index wins frames) (f : ℕ) (lt : f < length slots) where
  pub shelf_emptied : (new : List (Option ℕ)) → (page_in slots f ≡ None → new ≡ index) → ((n : ℕ) → page_in slots f ≡ Some n → new ≡ set index n None) → IsShelf pages bands (set slots f no_slot) new wins frames
  shelf_emptied new none some =
      let small : (n : ℕ) → page_in slots f ≡ Some n → n < length index = λ n is. (let low = shelf.within f n lt is in let e = shelf.listed in omega (arith, low, e)) in
      let it = emptied slots index f lt shelf.apart shelf.found new small none some in
      shelf_slot pages bands slots wins frames shelf f lt no_slot (apart_none slots f no_slot lt refl shelf.apart) (λ n is. absurd (none_is_some n is)) (λ none. refl) (λ n is. absurd (none_is_some n is)) new it.0 it.1

  pub shelf_filled : (p : ℕ) → p < pages → page_in slots f ≡ None → frame_of slots p ≡ None → IsWell (get_or frames.pages f []) → IsShelf pages bands (set slots f (record { number = Some p; since = None })) (set index p (Some f)) wins frames
  shelf_filled p small none absent well =
      let s : Slot = record { number = Some p; since = None } in
      shelf_slot pages bands slots wins frames shelf f lt s (apart_new slots f s lt p refl absent shelf.apart) (λ n is. subst (λ (m : ℕ). m < pages) (some_same p n is) small) (λ none. refl) (λ n is. ∣ well ∣₁)
      (set index p (Some f)) (length-set index p (Some f)) (filled slots index f lt shelf.apart shelf.found p (let e = shelf.listed in omega (arith, e)) none absent)

-- emptying a frame brings no page into one
pub absent_emptied : (slots : List Slot) (f p : ℕ) → f < length slots → AreApart slots → frame_of slots p ≡ None → frame_of (set slots f no_slot) p ≡ None
absent_emptied slots f p lt apart absent = ⊎_elim
    (λ none. frame_kept slots f no_slot lt (sym none) p apart ∙ absent)
    (λ held. ⊎_elim
    (λ same. absurd (none_is_some f (sym absent ∙ frame_is slots f p apart lt (held.1 ∙ ap Some same))))
    (λ differ. frame_other slots f no_slot lt p (apart_none slots f no_slot lt refl apart) (none_is_some p) (λ is. differ (some_same held.0 p (sym held.1 ∙ is))) ∙ absent)
    (cases_eq held.0 p))
    (none_or_some (page_in slots f))

-- what a frame holds makes room for a page that is in none
pub replaced : (slots : List Slot) (index : List (Option ℕ)) (f p : ℕ) → f < length slots → AreApart slots → IsIndex slots index → p < length index → frame_of slots p ≡ None → (new : List (Option ℕ)) → ((n : ℕ) → page_in slots f ≡ Some n → n < length index)
    → (page_in slots f ≡ None → new ≡ index) → ((n : ℕ) → page_in slots f ≡ Some n → new ≡ set index n None) → (length new ≡ length index) × IsIndex (set slots f (record { number = Some p; since = None })) (set new p (Some f))
replaced slots index f p lt apart found small absent new low none some =
    let s : Slot = record { number = Some p; since = None } in
    let it = emptied slots index f lt apart found new low none some in
    let long = length-set slots f no_slot in (
      it.0,
      subst (λ (t : List Slot). IsIndex t (set new p (Some f))) (set-set slots f no_slot s)
          (filled (set slots f no_slot) new f (omega (arith, long, lt)) (apart_none slots f no_slot lt refl apart) it.1 p (let e = it.0 in omega (arith, e, small)) (page_here slots f no_slot lt) (absent_emptied slots f p lt apart absent)),
    )
