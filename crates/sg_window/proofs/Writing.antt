-- Writing the runs of a window, one after another.
use Rattle.std.proofs.Common.{◌≡◌, ◌⊎◌, inl, inr, ⊎_elim, ◌<◌, ◌≤◌, ◌+◌, ◌-◌, ℕ, Bool, List, length, take, drop, get_or, Result, refl, sym, ◌∙◌, ap, subst, arith, get_or-take, get_or-drop, length-take, length-drop}
use Rattle.std.proofs.lemmas.Bool.{cases_lt}
use Rattle.sg_base.specs.declared.area.Area.{Area}
use Rattle.sg_base.specs.declared.area.Area.TheVariants.{Home}
use Rattle.sg_disk.specs.Disk.{Image, Part, State, Spoils, LeavesPart, Leaves, View, Wrote, LeavesOnly, put, written, written_part}
use Rattle.sg_disk.proofs.Images.{put_outside}
use Rattle.sg_disk.proofs.Parts.{untouched, part_written, put_inside, other_written}
use Rattle.sg_disk.proofs.Moments.{goes_on}
use Rattle.sg_segment.specs.Runs.{IsMarked, NoneFrom, IsFirstRun}
use Rattle.sg_window.specs.Runs.{IsMarkedAt, IsTorn, IsSameBut, AreWritten}

-- a crash of a state that is the same but for some bytes
pub torn : (s t : State) (M N : ℕ → Type 0) (c : Image) → ((i : ℕ) → (N i → ⊥) → M i → ⊥) → IsSameBut s t M → Leaves t c → IsTorn s N c
torn s t M N c fewer same leaves = record {
  home = λ i bare whole. (leaves Home).rest i (same.pending i (fewer i bare) whole) ∙ same.seen i (fewer i bare);
  fits = (leaves Home).byte;
  others = λ b other. subst (λ (p : Part). LeavesPart p (c b)) (same.others b other) (leaves b);
}

pub runs_start : (s : State) (base : ℕ) (window : List ℕ) (marks : List Bool) → AreWritten s s base window marks 0
runs_start s base window marks = record {
  there = λ k lt. absurd (omega arith);
  rest = record { seen = λ i bare. refl; pending = λ i bare whole. whole; others = λ b other. refl };
}

-- fewer bytes of the window
pub fewer_marked : (base : ℕ) (marks : List Bool) (end size : ℕ) → end ≤ size → (i : ℕ) → (IsMarkedAt base marks size i → ⊥) → IsMarkedAt base marks end i → ⊥
fewer_marked base marks end size le i bare is = let high = is.1 in bare (is.0, omega arith, is.2)

-- one run more
module _ (s t u : State) (base : ℕ) (window bytes : List ℕ) (marks : List Bool) (from start count : ℕ) (done : AreWritten s t base window marks from) (run : IsFirstRun marks from start count)
    (long : length bytes ≡ count) (are : (j : ℕ) → j < count → get_or bytes j 0 ≡ get_or window (start + j) 0) (is : u ≡ written Home (base + start) bytes t) where
  part : u Home ≡ written_part (base + start) bytes (t Home)
  part = part_written t Home (base + start) bytes is

  seen : (i : ℕ) → (u Home).seen i ≡ put (base + start) bytes (t Home).seen i
  seen i = ap (λ (p : Part). p.seen i) part

  -- a byte that isn't marked isn't in the run
  out_of_run : (i : ℕ) → (IsMarkedAt base marks (start + count) i → ⊥) → (i < base + start) ⊎ (base + start + length bytes ≤ i)
  out_of_run i bare = ⊎_elim
      (λ before. inl before)
      (λ low. ⊎_elim
      (λ within. absurd (bare (omega arith, omega arith, run.marked (i - base) (omega arith, omega arith))))
      (λ behind. inr behind)
      (cases_lt i (base + start + length bytes)))
      (cases_lt i (base + start))

  less : (i : ℕ) → (IsMarkedAt base marks (start + count) i → ⊥) → IsMarkedAt base marks from i → ⊥
  less i bare is = let high = is.1 in let after = run.after in bare (is.0, omega arith, is.2)

  pub runs_more : AreWritten s u base window marks (start + count)
  runs_more = record {
    there = λ k lt marked. ⊎_elim
        (λ early. seen (base + k) ∙ put_outside (base + start) bytes (t Home).seen (base + k) (λ low high. let after = run.after in absurd (omega arith)) ∙ done.there k early marked)
        (λ late. ⊎_elim
        (λ before. absurd (run.none_before k late before marked))
        (λ within.
        let place : base + k ≡ base + start + (k - start) = omega arith in
        let there : start + (k - start) ≡ k = omega arith in
        seen (base + k) ∙ ap (put (base + start) bytes (t Home).seen) place ∙ put_inside (base + start) bytes (t Home).seen (k - start) 0 (omega arith) ∙ are (k - start) (omega arith) ∙ ap (λ (j : ℕ). get_or window j 0) there)
        (cases_lt k start))
        (cases_lt k from);
    rest = record {
      seen = λ i bare. seen i ∙ put_outside (base + start) bytes (t Home).seen i (λ low high. ⊎_elim (λ a. absurd (omega arith)) (λ b. absurd (omega arith)) (out_of_run i bare)) ∙ done.rest.seen i (less i bare);
      pending = λ i bare whole. subst (λ (p : Part). Spoils p.pending i → ⊥) (sym part) (⊎_elim (untouched (base + start) (length bytes) i (out_of_run i bare)) (done.rest.pending i (less i bare) whole));
      others = λ b other. other_written t Home b (base + start) bytes other is ∙ done.rest.others b other;
    };
  }

-- and no run is left
pub runs_end : (s t : State) (base : ℕ) (window : List ℕ) (marks : List Bool) (from size : ℕ) → from ≤ size → NoneFrom marks from → AreWritten s t base window marks from → AreWritten s t base window marks size
runs_end s t base window marks from size le none done =
    let less = fewer_marked base marks from size le in
    record {
      there = λ k lt marked. ⊎_elim (λ early. done.there k early marked) (λ late. absurd (none k late marked)) (cases_lt k from);
      rest = record { seen = λ i bare. done.rest.seen i (less i bare); pending = λ i bare whole. done.rest.pending i (less i bare) whole; others = done.rest.others };
    }

-- a write of a run, also one that fails
pub run_torn : {T E : Type 0} (v w z : View) (r : Result T E) (base : ℕ) (window bytes : List ℕ) (marks : List Bool) (from start count size : ℕ) → AreWritten v.now w.now base window marks from → IsFirstRun marks from start count
    → length bytes ≡ count → ((j : ℕ) → j < count → get_or bytes j 0 ≡ get_or window (start + j) 0) → start + count ≤ size → LeavesOnly v w (IsTorn v.now (IsMarkedAt base marks size)) → Wrote Home (base + start) bytes w z r → LeavesOnly v z (IsTorn v.now (IsMarkedAt base marks size))
run_torn v w z r base window bytes marks from start count size done run long are le so_far wrote =
    goes_on so_far wrote (λ c leaves. torn v.now (written Home (base + start) bytes w.now) (IsMarkedAt base marks (start + count)) (IsMarkedAt base marks size) c (fewer_marked base marks (start + count) size le)
    (runs_more v.now w.now (written Home (base + start) bytes w.now) base window bytes marks from start count done run long are refl).rest leaves)

pub slice_are : (window : List ℕ) (start count : ℕ) → (j : ℕ) → j < count → get_or (take count (drop start window)) j 0 ≡ get_or window (start + j) 0
slice_are window start count j lt = get_or-take count (drop start window) j 0 lt ∙ get_or-drop start window j 0

pub slice_long : (window : List ℕ) (start count : ℕ) → start + count ≤ length window → length (take count (drop start window)) ≡ count
slice_long window start count le = simp (length-take, length-drop) (omega arith)
