-- How many calls go from run to run.
use Rattle.std.proofs.Common.{◌≡◌, ◌⊎◌, ⊎_elim, ◌<◌, ◌+◌, ℕ, Bool, List, [], length, min, refl, sym, ◌∙◌, ap, arith}
use Rattle.std.proofs.lemmas.Bool.{cases_lt}
use Rattle.sg_disk.specs.Disk.{FULL}
use Rattle.sg_segment.specs.Runs.{IsFirstRun, NoneFrom, RunsFrom}
use Rattle.sg_segment.proofs.RunLists.{HasMet, met_none, met_more, met_all, runs_same_length}

-- so many calls have been made as there are runs before byte `from`
pub record HasCalled (marks : List Bool) (from before now : ℕ) : Type 0 where
  pub count : ℕ
  pub met : HasMet marks from count
  pub some : 0 < count → now ≡ min (before + count) FULL
  pub none : count ≡ 0 → now ≡ before

pub called_none : (marks : List Bool) (calls : ℕ) → HasCalled marks 0 calls calls
called_none marks calls = record { count = 0; met = met_none marks; some = λ low. absurd (omega arith); none = λ is. refl }

pub called_more : (marks : List Bool) (from start size before now after : ℕ) → HasCalled marks from before now → IsFirstRun marks from start size → after ≡ min (now + 1) FULL → HasCalled marks (start + size) before after
called_more marks from start size before now after called run one = record {
  count = called.count + 1;
  met = met_more marks from called.count start size called.met run;
  some = λ low. ⊎_elim
      (λ (none : called.count < 1). let is : now ≡ before = called.none (omega (arith, none)) in let zero : called.count ≡ 0 = omega (arith, none) in omega (arith, one, is, zero))
      (λ some. let is : now ≡ min (before + called.count) FULL = called.some some in omega (arith, one, is))
      (cases_lt called.count 1);
  none = λ is. absurd (omega (arith, is));
}

-- at the end these are all
count_is : (marks : List Bool) (from before now : ℕ) (called : HasCalled marks from before now) → NoneFrom marks from → (runs : List (ℕ × ℕ)) → RunsFrom marks 0 runs → length runs ≡ called.count
count_is marks from before now called none runs are =
    let whole = met_all marks from called.count called.met none in
    runs_same_length runs whole.0 marks 0 are whole.1.0 ∙ whole.1.1

pub called_all : (marks : List Bool) (from before now : ℕ) → HasCalled marks from before now → NoneFrom marks from → (runs : List (ℕ × ℕ)) → RunsFrom marks 0 runs → 0 < length runs → now ≡ min (before + length runs) FULL
called_all marks from before now called none runs are low =
    let same = count_is marks from before now called none runs are in
    called.some (omega (arith, same, low)) ∙ ap (λ (n : ℕ). min (before + n) FULL) (sym same)

pub called_idle : (marks : List Bool) (from before now : ℕ) → HasCalled marks from before now → NoneFrom marks from → NoneFrom marks 0 → now ≡ before
called_idle marks from before now called none idle = called.none (sym (count_is marks from before now called none [] idle))

-- a run is met only where a byte is marked
pub met_marked : (marks : List Bool) (from start size : ℕ) → IsFirstRun marks from start size → NoneFrom marks 0 → {A : Type 0} → A
met_marked marks from start size run idle = absurd (idle start (omega arith) (run.marked start (omega arith, omega (arith, run.some))))
