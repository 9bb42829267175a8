-- A log whose front is cut off, by its steps: the numbers of what is gone and of what is kept, and what its redo point is.
use Rattle.std.proofs.Common.{◌≡◌, ◌⊎◌, inl, inr, ⊎_elim, ◌<◌, ◌≤◌, ◌+◌, ℕ, max, List, [], ◌∷◌, ◌++◌, length, refl, sym, ap, ◌∙◌, subst, arith, append_assoc}
use Rattle.std.proofs.lemmas.Bool.{cases_lt}
use Rattle.sg_log.specs.Frames.{Numbered, numbered_in, gate_after, text_of}
use Rattle.sg_log.specs.Texts.{spelled_all}
use Rattle.sg_log.specs.Cut.{IsSplit, gate_of, gone_of, kept_of}
use Rattle.sg_log.proofs.Steps.{gate_later}
use Rattle.sg_analysis.proofs.Rising.{above_in}
use Rattle.sg_record.specs.Records.{Record, Says}
use Rattle.sg_record.specs.Records.Says.{Begin, Changed, TopEnd, PhysComp, TopVoid, CompEnd, Save, Commit, End, Checkpoint}
use Rattle.sg_recovery.specs.Laws.{Each}
use Rattle.sg_recovery.specs.Log as recovery
use Rattle.sg_engine.specs.Numbers.{AllUnder}
use Rattle.sg_engine.specs.History.{entry_number}
use Rattle.sg_engine.specs.Engine.{Origin, entries}
use Rattle.sg_engine.proofs.May.{in_under}
use Rattle.sg_ops.specs.Table.{Table}
use Rattle.sg_action.specs.States.{State}
use Rattle.sg_actions.specs.Steps.{Step, Steps, step_of, with_step, repeated, redo}
use Rattle.std.specs.Prelude.{Option, Some, None}
use Rattle.sg_phys_laws.specs.Points.{estimate_or, last_estimate, redo_point, AreMarked}
use Rattle.sg_phys_laws.specs.States.{steps_on, steps_of}
use Rattle.sg_phys_laws.proofs.Fronting.{on_both}
use Rattle.sg_phys_laws.proofs.Latest.{under_below}
use Rattle.sg_phys_laws.proofs.Points.{behind_both}
use Rattle.sg_phys_laws.proofs.Sighted.{steps_same}

-- STEPS BEHIND OTHERS: a record more stands in front of all
pub with_behind : (rs gone : Steps) (lsn : ℕ) (o : Option Step) → with_step (rs ++ gone) lsn o ≡ with_step rs lsn o ++ gone
with_behind rs gone lsn None = refl
with_behind rs gone lsn (Some x) = refl

on_behind : (front rs : Steps) (ns : List Numbered) → steps_on (front ++ rs) ns ≡ steps_on front ns ++ rs
on_behind front rs [] = refl
on_behind front rs (n ∷ ns) = ap (λ (l : Steps). steps_on l ns) (with_behind front rs n.lsn (step_of n.is)) ∙ on_behind (with_step front n.lsn (step_of n.is)) rs ns

-- those of records behind others
pub steps_after : (gone kept : List Numbered) → steps_of (gone ++ kept) ≡ steps_of kept ++ steps_of gone
steps_after gone kept = on_both [] gone kept ∙ on_behind [] (steps_of gone) kept

-- history repeated behind history repeated
pub repeated_behind : (t : Table) (x : State) (rs gone : Steps) → repeated t (repeated t x gone) rs ≡ repeated t x (rs ++ gone)
repeated_behind t x [] gone = refl
repeated_behind t x (r ∷ rs) gone = ap (redo t r.is) (repeated_behind t x rs gone)

-- NUMBERS below a point,
with_under : (p lsn : ℕ) (rs : Steps) (o : Option Step) → lsn < p → Each (λ r. r.lsn < p) rs → Each (λ r. r.lsn < p) (with_step rs lsn o)
with_under p lsn rs None lt low = low
with_under p lsn rs (Some x) lt low = (lt, low)

steps_under : (o : Origin) (p : ℕ) (rs : Steps) (ns : List Numbered) → Each (λ r. r.lsn < p) rs → AllUnder entry_number p (entries o ns) → Each (λ r. r.lsn < p) (steps_on rs ns)
steps_under o p rs [] low under = low
steps_under o p rs (n ∷ ns) low under = steps_under o p (with_step rs n.lsn (step_of n.is)) ns (with_under p n.lsn rs (step_of n.is) under.0 low) under.1

pub gone_under : (o : Origin) {base point : ℕ} {ds : List Numbered} (s : IsSplit base point ds) → AllUnder entry_number (gate_of s) (entries o (gone_of s))
gone_under o {base} s = in_under o base s.front

pub gone_low : (o : Origin) {base point : ℕ} {ds : List Numbered} (s : IsSplit base point ds) → Each (λ r. r.lsn < gate_of s) (steps_of (gone_of s))
gone_low o s = steps_under o (gate_of s) [] (gone_of s) tt (gone_under o s)

-- and from it on
pub kept_high : {base point : ℕ} {ds : List Numbered} (s : IsSplit base point ds) → Each (λ r. gate_of s ≤ r.lsn) (steps_of (kept_of s))
kept_high s = subst (λ (rs : Steps). Each (λ r. gate_of s ≤ r.lsn) rs) (steps_same [] (kept_of s)) (above_in (gate_of s) (s.holding ∷ s.back))

-- where the frame that holds the point is the first, nothing is gone
pub none_gone : (base : ℕ) (front : List (List Record)) → gate_after base front ≡ base → front ≡ []
none_gone base [] e = refl
none_gone base (rs ∷ front) e = absurd (let later = gate_later (base + 1 + length (text_of (spelled_all rs))) front in omega (arith, later, e))

-- LATER REDO POINTS: of the same records a greater estimate before them gives no less
estimate_up : (e d : ℕ) (x : Says) → e ≤ d → estimate_or e x ≤ estimate_or d x
estimate_up e d (Checkpoint estimate l) le = omega arith
estimate_up e d Begin le = le
estimate_up e d (Changed c) le = le
estimate_up e d (TopEnd w n) le = le
estimate_up e d (PhysComp w c) le = le
estimate_up e d (TopVoid w) le = le
estimate_up e d (CompEnd w) le = le
estimate_up e d (Save m) le = le
estimate_up e d Commit le = le
estimate_up e d End le = le

last_up : (e d : ℕ) (ns : List Numbered) → e ≤ d → last_estimate e ns ≤ last_estimate d ns
last_up e d [] le = le
last_up e d (n ∷ ns) le = last_up (estimate_or e n.is.says) (estimate_or d n.is.says) ns (estimate_up e d n.is.says le)

-- THE REDO POINT of what is kept is none before that of the whole log
pub point_up : (o : Origin) (base p : ℕ) (gone kept : List Numbered) → base ≤ p → AllUnder entry_number p (entries o gone) → AreMarked (λ k. Unit {0}) gone → redo_point base (gone ++ kept) ≤ redo_point p kept
point_up o base p gone kept le under marks =
    let both = behind_both base gone kept in
    let low : last_estimate base gone ≤ p = under_below o p base gone le under marks in
    let up = last_up (last_estimate base gone) p kept low in
    omega (arith, le, both, up)

-- either some record estimates, and then it doesn't matter what was estimated before them, or none does
same_or : (e d : ℕ) (ns : List Numbered) → (last_estimate e ns ≡ last_estimate d ns) ⊎ (last_estimate d ns ≡ d)
same_or e d [] = inr refl
same_or e d (n ∷ ns) = by n.is.says (same_or e d ns)
  where
    by : (x : Says) → (last_estimate e ns ≡ last_estimate d ns) ⊎ (last_estimate d ns ≡ d) → (last_estimate (estimate_or e x) ns ≡ last_estimate (estimate_or d x) ns) ⊎ (last_estimate (estimate_or d x) ns ≡ d)
    by (Checkpoint estimate l) h = inl refl
    by Begin h = h
    by (Changed c) h = h
    by (TopEnd w m) h = h
    by (PhysComp w c) h = h
    by (TopVoid w) h = h
    by (CompEnd w) h = h
    by (Save m) h = h
    by Commit h = h
    by End h = h

-- so where the point of the cut is allowed, and the redo point of the whole log, that of what is kept is
pub point_kept : (A : ℕ → Type 0) (base p : ℕ) (gone kept : List Numbered) → base ≤ p → A p → A (redo_point base (gone ++ kept)) → A (redo_point p kept)
point_kept A base p gone kept le at was = ⊎_elim
    (λ same. ⊎_elim
    (λ lt. let both = behind_both base gone kept in let is : redo_point base (gone ++ kept) ≡ redo_point p kept = omega (arith, lt, le, both, same) in subst A is was)
    (λ low. let is : p ≡ redo_point p kept = omega (arith, low) in subst A is at)
    (cases_lt p (last_estimate p kept)))
    (λ own. let is : p ≡ redo_point p kept = omega (arith, own) in subst A is at)
    (same_or (last_estimate base gone) p kept)
