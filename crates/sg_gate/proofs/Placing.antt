-- A page is written to its place.
use Rattle.std.proofs.Common.{◌≡◌, ◌⊎◌, inl, inr, ⊎_elim, ◌<◌, ◌≤◌, ◌+◌, ℕ, List, length, Result, Ok, sym, ◌∙◌, ap, subst, arith}
use Rattle.sg_base.specs.declared.area.Area.{Area}
use Rattle.sg_base.specs.declared.area.Area.TheVariants.{Home}
use Rattle.sg_disk.specs.Disk.{Image, Part, State, Spoils, LeavesPart, Leaves, View, Wrote, LeavesOnly, put, written}
use Rattle.sg_disk.proofs.Images.{put_outside}
use Rattle.sg_disk.proofs.Parts.{untouched, part_written, leaves_written, leaves_other}
use Rattle.sg_disk.proofs.Moments.{started, goes_on}
use Rattle.sg_gate.specs.Layout.{PAGE, HEADER, PLACES, HOMES, place_at}
use Rattle.sg_gate.specs.Batch.{IsReady, IsWhole}
use Rattle.sg_gate.proofs.Over.{laid_shut}

-- the same write, of another kind of fault
pub wrote_at : {T E E' : Type 0} {v w : View} {u : T} (to at : ℕ) (bytes : List ℕ) → to ≡ at → Wrote {E = E} Home to bytes v w (Ok u) → Wrote {E = E'} Home at bytes v w (Ok u)
wrote_at {E = E} {v = v} {w = w} {u = u} to at bytes is wrote =
    let there = subst (λ (a : ℕ). Wrote {E = E} Home a bytes v w (Ok u)) is wrote in
    record { added = there.added; past = there.past; kept = there.kept; only = there.only; ok = there.ok }

module _ (s : State) (k : ℕ) (page : List ℕ) (low : k < 32) (long : length page ≡ PAGE) (ready : IsReady (s Home)) where
  out : (i : ℕ) → (i < PLACES) ⊎ (HOMES ≤ i) → (i < place_at k) ⊎ (place_at k + length page ≤ i)
  out i outside = ⊎_elim (λ a. inl (omega arith)) (λ b. inr (omega arith)) outside

  unwritten : (i : ℕ) → (i < PLACES) ⊎ (HOMES ≤ i) → put (place_at k) page (s Home).seen i ≡ (s Home).seen i
  unwritten i outside = put_outside (place_at k) page (s Home).seen i (λ a b. ⊎_elim (λ x. absurd (omega arith)) (λ x. absurd (omega arith)) (out i outside))

  pub ready_after : (t : State) → t ≡ written Home (place_at k) page s → IsReady (t Home)
  ready_after t is =
      let part = part_written s Home (place_at k) page is in
      record {
        closed = λ gate. ready.closed (sym (unwritten HEADER (inl (omega arith))) ∙ sym (ap (λ (p : Part). p.seen HEADER) part) ∙ gate);
        settled = λ i outside. subst (λ (p : Part). Spoils p.pending i → ⊥) (sym part) (⊎_elim (untouched (place_at k) (length page) i (out i outside)) (ready.settled i outside));
      }

  -- the store is as it was
  whole : (pages : ℕ) (c : Image) → ((i : ℕ) → (i < PLACES) ⊎ (HOMES ≤ i) → c Home i ≡ (s Home).seen i) → ((i : ℕ) → c Home i < 256) → ((b : Area) → (b ≡ Home → ⊥) → LeavesPart (s b) (c b)) → IsWhole s pages (s Home).seen c
  whole pages c same fits others =
      let shut : c Home HEADER ≡ 1 → ⊥ = λ gate. ready.closed (sym (same HEADER (inl (omega arith))) ∙ gate) in
      record {
        home = λ i store. laid_shut (c Home) i shut ∙ same i (⊎_elim (λ a. inl (omega arith)) (λ b. inr b) store);
        header = λ gate. absurd (shut gate);
        fits = fits;
        others = others;
      }

  at_rest : (pages : ℕ) (c : Image) → Leaves s c → IsWhole s pages (s Home).seen c
  at_rest pages c leaves = whole pages c (λ i outside. (leaves Home).rest i (ready.settled i outside)) (leaves Home).byte (λ b other. leaves b)

  placing : (pages : ℕ) (c : Image) → Leaves (written Home (place_at k) page s) c → IsWhole s pages (s Home).seen c
  placing pages c leaves =
      let torn = leaves_written s Home (place_at k) page c leaves in
      whole pages c
      (λ i outside. torn.rest i (⊎_elim (untouched (place_at k) (length page) i (out i outside)) (ready.settled i outside)) ∙ unwritten i outside)
      (leaves Home).byte
      (λ b other. leaves_other s Home b (place_at k) page c other leaves)

pub placed : {T E : Type 0} {v w : View} {r : Result T E} (k to : ℕ) (page : List ℕ) (pages : ℕ) → k < 32 → length page ≡ PAGE → IsReady (v.now Home) → to ≡ place_at k → Wrote Home to page v w r → LeavesOnly v w (IsWhole v.now pages (v.now Home).seen)
placed {v = v} k to page pages low long ready is wrote =
    goes_on (started v (IsWhole v.now pages (v.now Home).seen) (at_rest v.now k page low long ready pages)) wrote
    (λ c leaves. placing v.now k page low long ready pages c (subst (λ (a : ℕ). Leaves (written Home a page v.now) c) is leaves))
