-- What holds where it stands on records that are gone.
use Rattle.std.proofs.Common.{◌≡◌, ◌⊎◌, inl, inr, ⊎_elim, ◌<◌, ◌≤◌, ◌==◌, ℕ, nat_le, Bool, true, false, cond, List, [], ◌∷◌, ◌++◌, filter, Option, Some, None, refl, sym, ap, ◌∙◌, subst, arith}
use Rattle.std.proofs.lemmas.List.{append_assoc}
use Rattle.std.proofs.Props.{props}
use mathlib.Core.Logic.{∥∥₁_elim, ∥∥₁_prop}
use Rattle.sg_disk.specs.Disk.{View, Image}
use Rattle.sg_log.specs.Frames.{Numbered}
use Rattle.sg_log.specs.Held.{Tail, tail_of}
use Rattle.sg_log.proofs.Holding.{tail_at_gate}
use Rattle.sg_ops.specs.Table.{Table}
use Rattle.sg_pool.specs.declared.pool.Pool.{Pool}
use Rattle.sg_recovery.specs.Formed.{IsLog}
use Rattle.sg_recovery.specs.Laws.{Each}
use Rattle.sg_recovery.specs.Log.{tally, is_in}
use Rattle.sg_recovery.specs.TakeOff.{AreOwned}
use Rattle.sg_recovery.proofs.Basic.{le_is, other_number}
use Rattle.sg_kept.specs.Kept.{tally_from, IsPoint}
use Rattle.sg_kept.proofs.Kept.{log_kept}
use Rattle.sg_kept.proofs.Saying.{more_says}
use Rattle.sg_kept.proofs.Tallies.{in_each, kept_from, owned_front}
use Rattle.sg_action.specs.States.{State}
use Rattle.sg_actions.specs.Cutting.{HasWanted}
use Rattle.sg_actions.specs.Images.{Grows, IsFront, IsImageOf}
use Rattle.sg_actions.specs.Steps.{Step, Steps, step_at, with_step, repeated}
use Rattle.sg_phys_laws.specs.Reading.{durable_in, waiting_in}
use Rattle.sg_phys_laws.specs.Recovers.{super_in, RecoversBy}
use Rattle.sg_phys_laws.specs.States.{steps_of}
use Rattle.sg_phys_laws.specs.Whole.{IsWholeImageOf}
use Rattle.sg_phys_laws.proofs.Fore.{repeated_behind, with_behind}
use Rattle.sg_phys_laws.proofs.Fronting.{front_grows, one_more}
use Rattle.sg_phys_laws.proofs.Poised.{all_in_log, all_formed}
use Rattle.sg_phys.specs.Phys.{Past, IsBehind, seen_of}

pub steps_none : (rs : Steps) → rs ++ [] ≡ rs
steps_none [] = refl
steps_none (r ∷ rs) = ap (λ (l : Steps). r ∷ l) (steps_none rs)

-- STEPS THAT ARE GONE stand behind all: a log that grows does so with them,
pub grows_behind : (gone a b : Steps) → Grows a b → Grows (a ++ gone) (b ++ gone)
grows_behind gone a b g = record { since = g.since; all = ap (λ (l : Steps). l ++ gone) g.all ∙ append_assoc g.since a gone }

-- and one that says the same without them still does once it has grown
pub says_more : (gone durable log : Steps) → Grows durable log → tally durable ≡ tally (durable ++ gone) → tally log ≡ tally (log ++ gone)
says_more gone durable log g says =
    ap (λ (l : Steps). tally l) g.all
    ∙ (more_says g.since durable (durable ++ gone) says
    ∙ (ap (λ (l : Steps). tally l) (sym (append_assoc g.since durable gone)) ∙ ap (λ (l : Steps). tally (l ++ gone)) (sym g.all)))

-- AN IMAGE of the log that it has is one of the log with what is gone
pub image_behind : (t : Table) (from : State) (gone durable log : Steps) (c : Image) → tally durable ≡ tally (durable ++ gone) → IsWholeImageOf (RecoversBy t) t (repeated t from gone) durable log c → IsImageOf (RecoversBy t) t from (durable ++ gone) (log ++ gone) c
image_behind t from gone durable log c says m = record {
  front = m.front ++ gone;
  is_front = record { within = grows_behind gone m.front log m.is_front.within; whole = grows_behind gone durable m.front m.is_front.whole };
  left = m.front;
  says = says_more gone durable m.front m.is_front.whole says;
  recovers = subst (RecoversBy t c m.front) (repeated_behind t from m.front gone) m.recovers;
}

-- WHAT IS STILL WANTED of a log, all of whose records have numbers from a point on, has numbers from there on
filtered : {A : Type 0} (p : ℕ) (f : A → ℕ) (xs : List A) → Each (λ x. p ≤ f x) (filter (λ x. nat_le p (f x)) xs)
filtered p f [] = tt
filtered p f (x ∷ xs) = by (nat_le p (f x)) refl (filtered p f xs)
  where
    by : (b : Bool) → nat_le p (f x) ≡ b → Each (λ y. p ≤ f y) (filter (λ y. nat_le p (f y)) xs) → Each (λ y. p ≤ f y) (cond b (x ∷ filter (λ y. nat_le p (f y)) xs) (filter (λ y. nat_le p (f y)) xs))
    by true e rest = (le_is p (f x) e, rest)
    by false e rest = rest

pub wanted_high : (p : ℕ) (rs : Steps) → Each (λ r. p ≤ r.lsn) rs → AreOwned rs → IsPoint p (tally rs)
wanted_high p rs high owned =
    let says = kept_from p rs [] high tt (subst AreOwned (sym (steps_none rs)) owned) in
    subst (λ k. IsPoint p k) (sym says) (record {
      live = filtered p (λ (u : ℕ). u) (tally (rs ++ [])).live;
      opened = filtered p (λ d. d.lsn) (tally (rs ++ [])).opened;
    })

pub each_prop : {A : Type 0} (p : ℕ) (f : A → ℕ) (xs : List A) → IsProp (Each (λ x. p ≤ f x) xs)
each_prop p f [] = hlevel props
each_prop p f (x ∷ xs) = let more = each_prop p f xs in hlevel (props, more)

below_prop : (a b : ℕ) → IsProp (a ≤ b)
below_prop a b = hlevel props

-- a record below a number isn't found from there on
step_high : (p : ℕ) (gone : Steps) (at : ℕ) → p ≤ at → Each (λ r. r.lsn < p) gone → step_at gone at ≡ None
step_high p [] at le low = refl
step_high p (r ∷ rs) at le low =
    let lt = low.0 in
    ap (λ (b : Bool). cond b (Some r.is) (step_at rs at)) (other_number r.lsn at (λ e. absurd (omega (arith, e, le, lt)))) ∙ step_high p rs at le low.1

pub step_kept : (p : ℕ) (rs gone : Steps) (at : ℕ) → p ≤ at → Each (λ r. r.lsn < p) gone → step_at (rs ++ gone) at ≡ step_at rs at
step_kept p [] gone at le low = step_high p gone at le low
step_kept p (r ∷ rs) gone at le low = ap (λ (o : Option Step). cond (r.lsn == at) (Some r.is) o) (step_kept p rs gone at le low)

-- WHERE IT STANDS ON WHAT IS GONE
module _ (t : Table) (from : State) (q : Past) (disk : View) (log : Tail) (pool : Pool) (b : IsBehind t from q disk log pool) where
  abbrev gone : Steps
  gone = steps_of q.gone

  abbrev here : Steps
  here = steps_of (all_in_log disk log)

  pub says_all : tally here ≡ tally (here ++ gone)
  says_all = says_more gone (steps_of (durable_in disk log)) here (front_grows (durable_in disk log) (waiting_in log)) b.says

  pub begins : q.super.base ≤ tail_of log
  begins =
      let base = b.poised.now.engine.engine.place.base in
      let gate = b.poised.now.engine.engine.held.at_gate in
      omega (arith, base, gate, tail_at_gate log)

  here_formed : ∥ IsLog q.super.base here ∥₁
  here_formed = all_formed b.poised

  pub point_here : ∥ IsPoint q.super.base (tally here) ∥₁
  point_here = ∥∥₁_elim here_formed ∥∥₁_prop (λ l. ∣ wanted_high q.super.base here l.above l.owned ∣₁)

  pub still_wanted : HasWanted q.super.base (here ++ gone)
  still_wanted = record {
    begun = λ u live. ∥∥₁_elim point_here (below_prop q.super.base u) (λ at. in_each q.super.base u (tally here).live at.live (ap (λ k. is_in u k.live) says_all ∙ live));
    opened = ∥∥₁_elim point_here (each_prop q.super.base (λ d. d.lsn) (tally (here ++ gone)).opened) (λ at. subst (λ k. Each (λ d. q.super.base ≤ d.lsn) k.opened) says_all at.opened);
  }

  -- where the log with what is gone is formed with one record more, so is the log that it has
  pub formed_here : (lsn : ℕ) (o : Option Step) → tail_of log ≤ lsn → ∥ IsLog (super_in (seen_of q.found)).base (with_step (here ++ gone) lsn o) ∥₁ → ∥ IsLog q.super.base (with_step here lsn o) ∥₁
  formed_here lsn o late formed = ⊎_elim
      (λ same. subst (λ (p : ℕ). ∥ IsLog p (with_step here lsn o) ∥₁) same.0
      (subst (λ (rs : Steps). ∥ IsLog (super_in (seen_of q.found)).base (with_step rs lsn o) ∥₁) (ap (λ (l : List Numbered). here ++ steps_of l) same.1 ∙ steps_none here) formed))
      (λ up. ∥∥₁_elim formed ∥∥₁_prop (λ l. ∥∥₁_elim here_formed ∥∥₁_prop (λ h.
      let parted = subst (λ (rs : Steps). IsLog (super_in (seen_of q.found)).base rs) (with_behind here gone lsn o) l in
      let high : Each (λ r. q.super.base ≤ r.lsn) (with_step here lsn o) = high_then (let low = begins in omega (arith, low, late)) h.above o in
      let point : IsPoint q.super.base (tally (with_step here lsn o)) = wanted_high q.super.base (with_step here lsn o) high (owned_front (with_step here lsn o) gone parted.owned) in
      let same : tally (with_step here lsn o) ≡ tally (with_step here lsn o ++ gone) = says_more gone here (with_step here lsn o) (one_more here lsn o) says_all in
      ∣ log_kept (super_in (seen_of q.found)).base q.super.base (with_step here lsn o) gone (omega (arith, up)) (omega (arith, up)) (record { onward = high; below = b.below }) (subst (λ k. IsPoint q.super.base k) same point) parted ∣₁)))
      b.later
    where
      high_then : q.super.base ≤ lsn → Each (λ r. q.super.base ≤ r.lsn) here → (x : Option Step) → Each (λ r. q.super.base ≤ r.lsn) (with_step here lsn x)
      high_then le high None = high
      high_then le high (Some x) = (le, high)
