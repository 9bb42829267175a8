-- What is said of a record of a formed log with one record more was so before: that its transaction goes on, and that it is an open change of
-- the system.
use Rattle.std.proofs.Common.{◌≡◌, ◌<◌, ◌≤◌, ℕ, ◌==◌, Bool, true, false, cond, List, [], ◌∷◌, Option, Some, None, filter, map, subst, arith}
use Rattle.std.specs.Prelude.{◌||◌}
use Rattle.std.proofs.lemmas.Bool.Decides.{nat_tests}
use Rattle.sg_log.specs.Frames.{Numbered}
use Rattle.sg_record.specs.Changes.{Change as Changing}
use Rattle.sg_recovery.specs.Chains.{Formed, next_lsn}
use Rattle.sg_recovery.specs.Laws.{Each}
use Rattle.sg_recovery.specs.Log.{Open, Tally, tally, said, is_in, open_of}
use Rattle.sg_recovery.specs.Log.Record.{Begin, Change, TopEnd, PhysComp, TopVoid, CompEnd, Save, Commit, End}
use Rattle.sg_recovery.specs.TakeOff.{AreOwned, IsOwned}
use Rattle.sg_recovery.proofs.Basic.{or_cases, or_left, or_right}
use Rattle.sg_recovery.proofs.Showing.{without_in}
use Rattle.sg_actions.specs.Steps.{Step, Steps, step_of, with_step}
use Rattle.sg_phys_laws.specs.States.{steps_on}

-- A log that is formed was so with one record less,
pub formed_one : (rs : Steps) (lsn : ℕ) (o : Option Step) → Formed (with_step rs lsn o) → Formed rs
formed_one rs lsn None f = f
formed_one rs lsn (Some x) f = f.2

pub owned_one : (rs : Steps) (lsn : ℕ) (o : Option Step) → AreOwned (with_step rs lsn o) → AreOwned rs
owned_one rs lsn None f = f
owned_one rs lsn (Some x) f = f.1

-- or with fewer,
formed_before : (rs : Steps) (ns : List Numbered) → Formed (steps_on rs ns) → Formed rs
formed_before rs [] f = f
formed_before rs (n ∷ ns) f = formed_one rs n.lsn (step_of n.is) (formed_before (with_step rs n.lsn (step_of n.is)) ns f)

owned_before : (rs : Steps) (ns : List Numbered) → AreOwned (steps_on rs ns) → AreOwned rs
owned_before rs [] f = f
owned_before rs (n ∷ ns) f = owned_one rs n.lsn (step_of n.is) (owned_before (with_step rs n.lsn (step_of n.is)) ns f)

-- and its numbers rise
rises_one : (rs : Steps) (lsn : ℕ) (o : Option Step) → Formed (with_step rs lsn o) → next_lsn rs ≤ next_lsn (with_step rs lsn o)
rises_one rs lsn None f = omega arith
rises_one rs lsn (Some x) f = let low = f.0 in omega (arith, low)

rises : (rs : Steps) (ns : List Numbered) → Formed (steps_on rs ns) → next_lsn rs ≤ next_lsn (steps_on rs ns)
rises rs [] f = omega arith
rises rs (n ∷ ns) f =
    let first = rises_one rs n.lsn (step_of n.is) (formed_before (with_step rs n.lsn (step_of n.is)) ns f) in
    let rest = rises (with_step rs n.lsn (step_of n.is)) ns f in
    omega (arith, first, rest)

-- EACH RECORD that is a step is owned, and its number is below the next one
pub record StandsIn (next lsn : ℕ) (x : Step) : Type 0 where
  pub owned : IsOwned lsn x
  pub low : lsn < next

stands_one : (rs : Steps) (next lsn : ℕ) (o : Option Step) → AreOwned (with_step rs lsn o) → next_lsn (with_step rs lsn o) ≤ next → (x : Step) → o ≡ Some x → StandsIn next lsn x
stands_one rs next lsn None owned low x e = absurd cc
stands_one rs next lsn (Some y) owned low x e = subst (StandsIn next lsn) (same y x e) (record { owned = owned.0; low = omega (arith, low) })
  where
    same : (a b : Step) → Some a ≡ Some b → a ≡ b
    same a b h = cc

pub stand_in : (rs : Steps) (ns : List Numbered) → Formed (steps_on rs ns) → AreOwned (steps_on rs ns) → Each (λ n. (x : Step) → step_of n.is ≡ Some x → StandsIn (next_lsn (steps_on rs ns)) n.lsn x) ns
stand_in rs [] f o = tt
stand_in rs (n ∷ ns) f o = (
  stands_one rs (next_lsn (steps_on rs (n ∷ ns))) n.lsn (step_of n.is) (owned_before (with_step rs n.lsn (step_of n.is)) ns o) (rises (with_step rs n.lsn (step_of n.is)) ns f),
  stand_in (with_step rs n.lsn (step_of n.is)) ns f o,
)

-- A TRANSACTION whose number is below a record and that goes on behind it went on before it
live_said : (u lsn next : ℕ) (x : Step) (k : Tally Changing (List ℕ)) → next ≤ lsn → u < next → IsOwned lsn x → is_in u (said lsn x k).live ≡ true → is_in u k.live ≡ true
live_said u lsn next (Begin t p) k le lt own h = or_cases (t == u) (is_in u k.live) (is_in u k.live ≡ true) h (λ e. absurd (let same : t ≡ u = grind (arith, nat_tests, e) in omega (arith, same, own, le, lt))) (λ g. g)
live_said u lsn next (Change t p c) k le lt own h = h
live_said u lsn next (TopEnd t p w n) k le lt own h = h
live_said u lsn next (PhysComp t p w c) k le lt own h = h
live_said u lsn next (TopVoid t p w) k le lt own h = h
live_said u lsn next (CompEnd t p w) k le lt own h = h
live_said u lsn next (Save t p m) k le lt own h = h
live_said u lsn next (Commit t p) k le lt own h = without_in t u k.live h
live_said u lsn next (End t p) k le lt own h = without_in t u k.live h

pub live_one : (u : ℕ) (rs : Steps) (lsn : ℕ) (o : Option Step) → Formed (with_step rs lsn o) → AreOwned (with_step rs lsn o) → u < next_lsn rs → is_in u (tally (with_step rs lsn o)).live ≡ true → is_in u (tally rs).live ≡ true
live_one u rs lsn None f own lt h = h
live_one u rs lsn (Some x) f own lt h = live_said u lsn (next_lsn rs) x (tally rs) f.0 lt own.0 h

-- the numbers of the system's open changes
abbrev pub system_opens : List (Open Changing) → List ℕ
system_opens ds = map (λ d. d.lsn) (open_of 0 ds)

opens_fewer : (a : ℕ) (p : Open Changing → Bool) (ds : List (Open Changing)) → is_in a (system_opens (filter p ds)) ≡ true → is_in a (system_opens ds) ≡ true
opens_fewer a p [] h = h
opens_fewer a p (d ∷ ds) h = by_kept (p d) h (opens_fewer a p ds)
  where
    by_own : (b : Bool) → is_in a (map (λ e. e.lsn) (cond b (d ∷ open_of 0 (filter p ds)) (open_of 0 (filter p ds)))) ≡ true → (is_in a (system_opens (filter p ds)) ≡ true → is_in a (system_opens ds) ≡ true)
        → is_in a (map (λ e. e.lsn) (cond b (d ∷ open_of 0 ds) (open_of 0 ds))) ≡ true
    by_own true z more = or_cases (d.lsn == a) (is_in a (system_opens (filter p ds))) ((d.lsn == a || is_in a (system_opens ds)) ≡ true) z
        (λ e. or_left (d.lsn == a) (is_in a (system_opens ds)) e) (λ e. or_right (d.lsn == a) (is_in a (system_opens ds)) (more e))
    by_own false z more = more z

    by_more : (b : Bool) → is_in a (system_opens ds) ≡ true → is_in a (map (λ e. e.lsn) (cond b (d ∷ open_of 0 ds) (open_of 0 ds))) ≡ true
    by_more true z = or_right (d.lsn == a) (is_in a (system_opens ds)) z
    by_more false z = z

    by_kept : (b : Bool) → is_in a (system_opens (cond b (d ∷ filter p ds) (filter p ds))) ≡ true → (is_in a (system_opens (filter p ds)) ≡ true → is_in a (system_opens ds) ≡ true)
        → is_in a (system_opens (d ∷ ds)) ≡ true
    by_kept true z more = by_own (d.transaction == 0) z more
    by_kept false z more = by_more (d.transaction == 0) (more z)

-- AND A CHANGE OF THE SYSTEM that is open behind a record, and isn't that record, was open before it
open_said : (a lsn next : ℕ) (x : Step) (k : Tally Changing (List ℕ)) → next ≤ lsn → a < next → is_in a (system_opens (said lsn x k).opened) ≡ true → is_in a (system_opens k.opened) ≡ true
open_said a lsn next (Begin t p) k le lt h = h
open_said a lsn next (Change t p c) k le lt h = by (t == 0) h
  where
    d : Open Changing
    d = record { lsn = lsn; transaction = t; change = c }

    by : (b : Bool) → is_in a (map (λ e. e.lsn) (cond b (d ∷ open_of 0 k.opened) (open_of 0 k.opened))) ≡ true → is_in a (system_opens k.opened) ≡ true
    by true z = or_cases (lsn == a) (is_in a (system_opens k.opened)) (is_in a (system_opens k.opened) ≡ true) z (λ e. absurd (let same : lsn ≡ a = grind (arith, nat_tests, e) in omega (arith, same, le, lt))) (λ g. g)
    by false z = z
open_said a lsn next (TopEnd t p w n) k le lt h = opens_fewer a _ k.opened h
open_said a lsn next (PhysComp t p w c) k le lt h = opens_fewer a _ k.opened h
open_said a lsn next (TopVoid t p w) k le lt h = opens_fewer a _ k.opened h
open_said a lsn next (CompEnd t p w) k le lt h = opens_fewer a _ k.opened h
open_said a lsn next (Save t p m) k le lt h = h
open_said a lsn next (Commit t p) k le lt h = h
open_said a lsn next (End t p) k le lt h = h

pub open_one : (a : ℕ) (rs : Steps) (lsn : ℕ) (o : Option Step) → Formed (with_step rs lsn o) → a < next_lsn rs → is_in a (system_opens (tally (with_step rs lsn o)).opened) ≡ true → is_in a (system_opens (tally rs).opened) ≡ true
open_one a rs lsn None f lt h = h
open_one a rs lsn (Some x) f lt h = open_said a lsn (next_lsn rs) x (tally rs) f.0 lt h
