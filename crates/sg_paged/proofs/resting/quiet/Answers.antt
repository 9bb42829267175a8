use Rattle.std.proofs.Common.{◌≡◌, sym, ap, subst, refl}
use Rattle.sg_recovery.specs.Log.{tally}
use Rattle.sg_actions.specs.Steps.{ended, repeated}
use Rattle.sg_actions.specs.declared.rows.Actor.{Actor}
use Rattle.sg_shown.specs.Shown.{over}
use Rattle.sg_shown.proofs.Calls.{room_settled, means_next}
use Rattle.sg_shown.proofs.Holding.{idle_ended}
use Rattle.sg_paged.proofs.Roomy.{spare_rows, spare_after}
use Rattle.sg_paged.proofs.resting.quiet.Goals as goal

pub returns-clause-means : goal.returns-clause-means
returns-clause-means g c = λ t z from m.
    let a = over c.args.acts.now in
    let b = over c.rest.new.self in
    let k = c.rest.ensures in
    means_next a b t z from m (room_settled a b k.pages k.bands) refl k.begun (subst (λ y. g.E.Engine.means y t from) (sym k.engine) m.since.stands) (subst (λ y. (g.E.Engine.view y).Told → a.engine.Told) (sym k.engine) (λ h. h))
    (λ told'.
    let told = subst (λ y. (g.E.Engine.view y).Told) k.engine told' in
    let h = m.keeps told in
    let idle = idle_ended a.engine.steps h.kept.chain.closed (c.requires.idle told) in
    record {
      kept = k.kept (g.E.Engine.limits z.pages z.bands) t from m.since.stands told idle h.kept;
      rest = record {
        idle = subst (λ y. ended (g.E.Engine.view y).steps ≡ (g.E.Engine.view y).steps) (sym k.engine) idle;
        system = ap (λ (x : Actor). x.txn.0) k.actor;
        freed = record { pages = k.pages.none; bands = k.bands.none };
      };
      now = ap (λ y. repeated t from (g.E.Engine.view y).steps) k.engine;
      spare = spare_rows k.rows (spare_after a.actor.txn a.actor.last (ap (λ y. (tally (g.E.Engine.view y).steps).live) k.engine) h.spare);
    })
