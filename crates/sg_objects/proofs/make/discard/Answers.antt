use Rattle.std.proofs.Common.{◌∙◌, sym, ap, subst, Option, IsSome, refl}
use Rattle.sg_catalog.specs.Catalog.{rows, there}
use Rattle.sg_catalog.specs.declared.row.Entry.{Entry}
use Rattle.sg_catalog.specs.declared.row.Row.{Row}
use Rattle.sg_model.specs.declared.reason.Reason.TheVariants.{NoObject}
use Rattle.sg_model.specs.Step.{on}
use Rattle.sg_model.specs.Verb.Verb.{Discard}
use Rattle.sg_reading.specs.Reading.{Thing, plain}
use Rattle.sg_space.proofs.Known.{same_some}
use Rattle.sg_objects.proofs.Located.{still_contents}
use Rattle.sg_objects.proofs.Doing.{refused_did}
use Rattle.sg_objects.proofs.Refused.{nothing_under}
use Rattle.sg_objects.proofs.Making.{entry_found, none_found, discard_done}
use Rattle.sg_objects.proofs.Bodies.{from_start}
use Rattle.sg_objects.proofs.make.discard.Goals as goal

pub returns-in_default-clause-did : goal.returns-in_default-clause-did
returns-in_default-clause-did g c =
    refused_did _ c.args.by.0 c.args.name Discard NoObject _ (g.met.P.PageSpace.told_shows _) c.in_ok-sought.ensures.kept c.set.ensures
    (λ shows s h t. ap (λ (x : Option Thing). (on t Discard (plain x)).0) (nothing_under s c.args.name (none_found (there c.args.name (rows s.catalog)) (sym c.in_default.is ∙ c.in_ok-sought.ensures.read shows s.catalog h.catalog))))

pub bury-requires-clause-can : goal.bury-requires-clause-can
bury-requires-clause-can g c = λ told.
    let back = c.find.ensures.counts.told told in
    let shows = g.met.P.PageSpace.told_shows _ back in
    let h = c.requires.there back in
    let f = entry_found (there c.args.name (rows (h.0).catalog)) c.in-Some.found (sym c.in-Some.is ∙ c.in_ok-sought.ensures.read shows (h.0).catalog (h.1).catalog) in
    ((h.0).catalog, (still_contents c.in_ok-sought.ensures.kept shows h.1).catalog, subst (λ (o : Option Row). IsSome o) (sym f.1) refl)

pub returns-clause-did : goal.returns-clause-did
returns-clause-did g c =
    let k = c.in_ok-sought.ensures.kept in
    let did = c.in_ok-bury.ensures.did in
    record {
      told = λ told. (did.keeps (k.keeps.told told)).told (k.keeps.told told);
      done = λ told s h can.
          let shows = g.met.P.PageSpace.told_shows _ told in
          let mid = k.keeps.told told in
          let now = still_contents k shows h in
          let f = entry_found (there c.args.name (rows s.catalog)) c.in-Some.found (sym c.in-Some.is ∙ c.in_ok-sought.ensures.read shows s.catalog h.catalog) in
          let one = did.turns mid s.catalog now.catalog (subst (λ (o : Option Row). IsSome o) (sym f.1) refl) in
          let same = same_some f.0 ((one.2).change).row (sym f.1 ∙ ((one.2).change).was) in
          (_, from_start k shows (discard_done _ c.args.by c.args.name _ c.in-Some.found.root.0 now one.1 one.2 (ap (λ (e : Entry). e.root.0) f.2 ∙ ap (λ (r : Row). r.root.0) same) c.note_drop.ensures));
    }

-- later
pub returns-in_err-bury-clause-later : goal.returns-in_err-bury-clause-later
returns-in_err-bury-clause-later g c = let then = g.met.P.PageSpace.later_then _ in then _ _ _ (c.find.ensures.later _) c.bury.ensures.later

pub returns-clause-later : goal.returns-clause-later
returns-clause-later g c = let then = g.met.P.PageSpace.later_then _ in then _ _ _ (c.find.ensures.later _) c.bury.ensures.later
