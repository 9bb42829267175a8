-- The numbers of a log's records rise, so that what holds of each record that may stand holds of the whole log.
use Rattle.std.proofs.Common.{◌≡◌, ℕ, ◌+◌, ◌≤◌, arith, true, List, [], ◌∷◌, ◌++◌, length, subst, le_trans, length-append}
use Rattle.sg_record.specs.Records.{Record, spelled}
use Rattle.sg_recovery.specs.Laws.{Each}
use Rattle.sg_recovery.specs.Chains.{next_lsn}
use Rattle.sg_log.specs.Frames.{Numbered, numbered_from, numbered_in, text_of}
use Rattle.sg_log.specs.Texts.{spelled_all}
use Rattle.sg_log.proofs.Holding.{text-length}
use Rattle.sg_log.proofs.Texts.{spelled-long}
use Rattle.sg_analysis.specs.Sights.{Steps, Sight, sight_of, with_step, steps_behind}
use Rattle.sg_analysis.specs.Sights.Sight.{Stepped, Estimated}
use Rattle.sg_analysis.specs.Standing.{may_step, may_stand, all_stand_behind, IsPlausible, ArePlausible}
use Rattle.sg_analysis.proofs.Taking.{true_left, true_right}
use Rattle.sg_recovery.proofs.Basic.{le_is}

-- each step may stand behind those before it, and has a greater number
abbrev pub AreStepped : (base : ℕ) → Steps → Type 0
AreStepped base [] = Unit {0}
AreStepped base (r ∷ rs) = (next_lsn rs ≤ r.lsn) × (may_step base rs r.lsn r.is ≡ true) × AreStepped base rs

-- the numbers rise, from this one on
abbrev Rising : (least : ℕ) → List Numbered → Type 0
Rising least [] = Unit {0}
Rising least (n ∷ ns) = (least ≤ n.lsn) × Rising (n.lsn + 1) ns

lower : (a b : ℕ) (ns : List Numbered) → b ≤ a → Rising a ns → Rising b ns
lower a b [] le h = tt
lower a b (n ∷ ns) le h = (le_trans le h.0, h.1)

rising_from : (least lsn : ℕ) (rs : List Record) (ns : List Numbered) → least ≤ lsn → Rising (lsn + length (spelled_all rs)) ns → Rising least (numbered_from lsn rs ++ ns)
rising_from least lsn [] ns le h = lower (lsn + 0) least ns (omega (arith, le)) h
rising_from least lsn (r ∷ rs) ns le h =
    (le, rising_from (lsn + 1) (lsn + length (spelled r)) rs ns (omega (arith, spelled-long r)) (subst (λ n. Rising n ns) (ends (length-append (spelled r) (spelled_all rs))) h))
  where
    ends : length (spelled_all (r ∷ rs)) ≡ length (spelled r) + length (spelled_all rs) → lsn + length (spelled_all (r ∷ rs)) ≡ lsn + length (spelled r) + length (spelled_all rs)
    ends e = omega (arith, e)

rising_in : (least gate : ℕ) (frames : List (List Record)) → least ≤ gate + 5 → Rising least (numbered_in gate frames)
rising_in least gate [] le = tt
rising_in least gate (rs ∷ frames) le =
    rising_from least (gate + 5) rs (numbered_in (gate + 1 + length (text_of (spelled_all rs))) frames) le
    (rising_in (gate + 5 + length (spelled_all rs)) (gate + 1 + length (text_of (spelled_all rs))) frames (omega (arith, text-length (spelled_all rs))))

stepped_behind : (base least : ℕ) (ns : List Numbered) (rs : Steps) → next_lsn rs ≤ least → Rising least ns → AreStepped base rs → all_stand_behind base rs ns ≡ true → AreStepped base (steps_behind rs ns)
stepped_behind base least [] rs le h k stand = k
stepped_behind base least (n ∷ ns) rs le h k stand =
    let may = true_left (may_stand base rs n.lsn (sight_of n.is)) (all_stand_behind base (with_step rs n.lsn (sight_of n.is)) ns) stand in
    let more = true_right (may_stand base rs n.lsn (sight_of n.is)) (all_stand_behind base (with_step rs n.lsn (sight_of n.is)) ns) stand in
    let next = by_sight (sight_of n.is) may in
    stepped_behind base (n.lsn + 1) ns (with_step rs n.lsn (sight_of n.is)) next.0 h.1 next.1 more
  where
    by_sight : (v : Sight) → may_stand base rs n.lsn v ≡ true → (next_lsn (with_step rs n.lsn v) ≤ n.lsn + 1) × AreStepped base (with_step rs n.lsn v)
    by_sight (Stepped x) may = (omega arith, (le_trans le h.0, may, k))
    by_sight (Estimated e) may = (omega (arith, le, h.0), k)

-- the steps of a log each of whose records may stand
pub stepped : (base : ℕ) (frames : List (List Record)) → all_stand_behind base [] (numbered_in base frames) ≡ true → AreStepped base (steps_behind [] (numbered_in base frames))
stepped base frames stand = stepped_behind base 1 (numbered_in base frames) [] (omega arith) (rising_in 1 base frames (omega arith)) tt stand

-- no step is below the log
above_behind : (base least : ℕ) (ns : List Numbered) (rs : Steps) → base ≤ least → Rising least ns → Each (λ r. base ≤ r.lsn) rs → Each (λ r. base ≤ r.lsn) (steps_behind rs ns)
above_behind base least [] rs le h k = k
above_behind base least (n ∷ ns) rs le h k = above_behind base (n.lsn + 1) ns (with_step rs n.lsn (sight_of n.is)) (omega (arith, le, h.0)) h.1 (by_sight (sight_of n.is))
  where
    by_sight : (v : Sight) → Each (λ r. base ≤ r.lsn) (with_step rs n.lsn v)
    by_sight (Stepped x) = (le_trans le h.0, k)
    by_sight (Estimated e) = k

pub above_in : (base : ℕ) (frames : List (List Record)) → Each (λ r. base ≤ r.lsn) (steps_behind [] (numbered_in base frames))
above_in base frames = above_behind base base (numbered_in base frames) [] (omega arith) (rising_in base base frames (omega arith)) tt

-- and its checkpoints
pub plausible : (base : ℕ) (ns : List Numbered) (rs : Steps) → all_stand_behind base rs ns ≡ true → ArePlausible ns
plausible base [] rs stand = tt
plausible base (n ∷ ns) rs stand =
    let may = true_left (may_stand base rs n.lsn (sight_of n.is)) (all_stand_behind base (with_step rs n.lsn (sight_of n.is)) ns) stand in
    let more = true_right (may_stand base rs n.lsn (sight_of n.is)) (all_stand_behind base (with_step rs n.lsn (sight_of n.is)) ns) stand in
    (by_sight (sight_of n.is) may, plausible base ns (with_step rs n.lsn (sight_of n.is)) more)
  where
    by_sight : (v : Sight) → may_stand base rs n.lsn v ≡ true → IsPlausible n.lsn v
    by_sight (Stepped x) may = tt
    by_sight (Estimated e) may = le_is e n.lsn may
