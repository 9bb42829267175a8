-- A page is put at a place of the double-write area.
use Rattle.std.proofs.Common.{◌≡◌, ◌⊎◌, inl, inr, ⊎_elim, ◌<◌, ◌≤◌, ◌+◌, ℕ, List, length, sym, ◌∙◌, arith}
use Rattle.sg_disk.specs.Disk.{Part, written_part}
use Rattle.sg_disk.proofs.Images.{put_outside}
use Rattle.sg_disk.proofs.Parts.{untouched}
use Rattle.sg_gate.specs.Layout.{PAGE, HEADER, PLACES, HOMES, place_at}
use Rattle.sg_gate.specs.Batch.{IsReady}

module _ (k : ℕ) (page : List ℕ) (small : k < 32) (long : length page ≡ PAGE) where
  away : (i : ℕ) → (i < PLACES) ⊎ (HOMES ≤ i) → (i < place_at k) ⊎ (place_at k + length page ≤ i)
  away i out = ⊎_elim (λ low. inl (omega arith)) (λ high. inr (omega arith)) out

  pub placed_ready : (p : Part) → IsReady p → IsReady (written_part (place_at k) page p)
  placed_ready p ready = record {
    closed = λ gate. ready.closed (sym (put_outside (place_at k) page p.seen HEADER (λ low high. absurd (omega arith))) ∙ gate);
    settled = λ i out. ⊎_elim (untouched (place_at k) (length page) i (away i out)) (ready.settled i out);
  }
