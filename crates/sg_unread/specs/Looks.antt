-- Looks one after another.
use Rattle.std.proofs.Common.{◌≡◌, true, false, Bool, sym, subst, ◌∙◌, refl, arith}
use Rattle.sg_ops.specs.Table.{Table}
use Rattle.sg_action.specs.States.{State}
use Rattle.sg_actions.specs.Engine.{EngineSeen, Moments, StandsNow, led}
use Rattle.sg_actions.specs.Growing.{grows_same, grows_then, moments_then, moments_same, moments_stop}
use Rattle.sg_actions.specs.Images.{Recovering}
use Rattle.sg_actions.specs.Onward.{accounted_same, accounted_then}
use Rattle.sg_actions.specs.Steps.{Steps}
use Rattle.sg_unread.specs.Unread.{IsOnlyRead, LooksOn}

-- none
pub looks_same : (recovers : Table → Recovering) (t : Table) (e : EngineSeen) (m : Table → State → Type 0) → (e.Told → e.failed ≡ false) → ((from : State) → m t from → e.Told → StandsNow (recovers t) t (led from e)) → LooksOn recovers t e e m m
looks_same recovers t e m whole images = record {
  told = λ h. h;
  base = refl;
  tail = refl;
  records = refl;
  faults = omega arith;
  extent = refl;
  full = refl;
  accounts = accounted_same e whole;
  stops = λ f. (f, refl);
  means = λ from h. h;
  reads = λ from h told. record { moments = moments_same (led from e) (images from h told); told = λ w. told; stays = λ w. record { steps = refl; durable = grows_same e.durable } };
}

-- a look, whether the one before it failed or not
then_reads : {recovers : Recovering} {t : Table} {from : State} {a b c : EngineSeen} → IsOnlyRead recovers t from a b → (b.failed ≡ true → (c.failed ≡ true) × (c.disk ≡ b.disk)) → (b.Told → IsOnlyRead recovers t from b c) → (f : Bool) → b.failed ≡ f → IsOnlyRead recovers t from a c
then_reads {recovers} {t} {from} {a} {b} {c} x stops y true failed =
    let s = stops failed in
    record {
      moments = moments_stop (led from a) (led from b) (led from c) s.1 x.moments;
      told = λ w. absurd (let no : true ≡ false = sym s.0 ∙ w in cc);
      stays = λ w. absurd (let no : true ≡ false = sym s.0 ∙ w in cc);
    }
then_reads {recovers} {t} {from} {a} {b} {c} x stops y false whole =
    let z = y (x.told whole) in
    let s = x.stays whole in
    record {
      moments = moments_then (led from a) (led from b) (led from c) refl s.durable (grows_same a.steps) x.moments (subst (λ (rs : Steps). Moments recovers t (led from b) (led from c) rs) s.steps z.moments);
      told = z.told;
      stays = λ w. record { steps = (z.stays w).steps ∙ s.steps; durable = grows_then s.durable (z.stays w).durable };
    }

pub looks_then : {recovers : Table → Recovering} {t : Table} {a b c : EngineSeen} {m n o : Table → State → Type 0} → LooksOn recovers t a b m n → LooksOn recovers t b c n o → LooksOn recovers t a c m o
looks_then {recovers} {t} {a} {b} {c} {m} {n} {o} f g = record {
  told = λ h. f.told (g.told h);
  base = g.base ∙ f.base;
  tail = g.tail ∙ f.tail;
  records = g.records ∙ f.records;
  faults = let x = f.faults in let y = g.faults in omega (arith, x, y);
  extent = g.extent ∙ f.extent;
  full = g.full ∙ f.full;
  accounts = accounted_then a b c f.accounts g.accounts g.stops (let y = g.tail in omega (arith, y));
  stops = λ w. (let x = f.stops w in let y = g.stops x.0 in (y.0, y.1 ∙ x.1));
  means = λ from h. g.means from (f.means from h);
  reads = λ from h told. then_reads (f.reads from h told) g.stops (λ still. g.reads from (f.means from h) still) b.failed refl;
}
