-- A row of frames is marked clean.
use Rattle.std.proofs.Common.{◌≡◌, ◌≢◌, ◌⊎◌, inl, inr, ⊎_elim, ◌<◌, ◌≤◌, ◌+◌, ℕ, Option, Some, None, List, length, get_or, set, refl, sym, ◌∙◌, ap, arith, length-set}
use Rattle.std.proofs.lemmas.Bool.{cases_eq}
use Rattle.sg_frames.specs.Held.{Held}
use Rattle.sg_pool.specs.declared.slot.Slot.{Slot}
use Rattle.sg_pool.specs.declared.windows.Windows.{Windows}
use Rattle.sg_pool.specs.Held.{no_slot, frame_of, page_in, since_of, AreApart}
use Rattle.sg_pool.specs.Frames.{IsShelf}
use Rattle.sg_pool.proofs.Slots.{set_here, set_there, none_or_some, frame_some, frame_none, frame_nowhere, frame_is}

pub record IsClearing (old new : List Slot) (from f : ℕ) : Type 0 where
  pub count : length new ≡ length old
  pub pages : (h : ℕ) → page_in new h ≡ page_in old h
  pub cleared : (h : ℕ) → from ≤ h → h < f → since_of new (Some h) ≡ None
  pub others : (h : ℕ) → (h < from) ⊎ (f ≤ h) → since_of new (Some h) ≡ since_of old (Some h)

pub clearing_starts : (slots : List Slot) (from : ℕ) → IsClearing slots slots from from
clearing_starts slots from = record { count = refl; pages = λ h. refl; cleared = λ h low high. absurd (omega arith); others = λ h out. refl }

pub clearing_next : (old new : List Slot) (from f : ℕ) (page : Option ℕ) → from ≤ f → f < length new → page ≡ page_in new f → IsClearing old new from f → IsClearing old (set new f (record { number = page; since = None })) from (f + 1)
clearing_next old new from f page low lt same is =
    let s : Slot = record { number = page; since = None } in
    let here : get_or (set new f s) f no_slot ≡ s = set_here new f s lt in
    record {
      count = length-set new f s ∙ is.count;
      pages = λ h. ⊎_elim
          (λ e. ap (page_in (set new f s)) e ∙ (ap (λ (x : Slot). x.number) here ∙ (same ∙ (ap (page_in new) (sym e) ∙ is.pages h))))
          (λ differ. ap (λ (x : Slot). x.number) (set_there new f s lt h differ) ∙ is.pages h)
          (cases_eq h f);
      cleared = λ h a b. ⊎_elim
          (λ e. ap (λ (j : ℕ). since_of (set new f s) (Some j)) e ∙ ap (λ (x : Slot). x.since) here)
          (λ differ. ap (λ (x : Slot). x.since) (set_there new f s lt h differ) ∙ is.cleared h a (omega arith))
          (cases_eq h f);
      others = λ h out.
          let differ : h ≢ f = ⊎_elim (λ a. λ e. absurd (omega (arith, a, e, low))) (λ a. λ e. absurd (omega (arith, a, e))) out in
          ap (λ (x : Slot). x.since) (set_there new f s lt h differ) ∙ is.others h (⊎_elim (λ a. inl a) (λ a. inr (omega (arith, a))) out);
    }

-- what it leaves
module _ (old new : List Slot) (count : length new ≡ length old) (pages : (h : ℕ) → page_in new h ≡ page_in old h) (apart : AreApart old) where
  pub apart_cleared : AreApart new
  apart_cleared i j n li lj a b = apart i j n (omega (arith, count, li)) (omega (arith, count, lj)) (sym (pages i) ∙ a) (sym (pages j) ∙ b)

  pub frames_same : (n : ℕ) → frame_of new n ≡ frame_of old n
  frames_same n = ⊎_elim
      (λ none. frame_nowhere new n (λ j less is. frame_none n old none j (omega (arith, count, less)) (sym (pages j) ∙ is)) ∙ sym none)
      (λ some. let at = frame_some n old some.0 some.1 in let lt = at.0 in frame_is new some.0 n apart_cleared (omega (arith, count, lt)) (pages some.0 ∙ at.1) ∙ sym some.1)
      (none_or_some (frame_of old n))

pub shelf_cleared : (p b : ℕ) (old new : List Slot) {index : List (Option ℕ)} (wins : Windows) (frames : Held) → IsShelf p b old index wins frames → length new ≡ length old → ((h : ℕ) → page_in new h ≡ page_in old h)
    → ((h : ℕ) → (since_of new (Some h) ≡ None) ⊎ (since_of new (Some h) ≡ since_of old (Some h))) → IsShelf p b new index wins frames
shelf_cleared p b old new wins frames shelf count pages sinces = record {
  here = shelf.here;
  many = shelf.many ∙ sym count;
  wide = shelf.wide;
  few = let few = shelf.few in omega (arith, count, few);
  apart = apart_cleared old new count pages shelf.apart;
  within = λ f n lt is. shelf.within f n (omega (arith, count, lt)) (sym (pages f) ∙ is);
  owned = λ f none. ⊎_elim (λ clear. clear) (λ same. same ∙ shelf.owned f (sym (pages f) ∙ none)) (sinces f);
  most = shelf.most;
  listed = shelf.listed;
  found = λ n less. shelf.found n less ∙ sym (frames_same old new count pages shelf.apart n);
  most_bands = shelf.most_bands;
  listed_bands = shelf.listed_bands;
  well = λ f n lt is. shelf.well f n (omega (arith, count, lt)) (sym (pages f) ∙ is);
}
