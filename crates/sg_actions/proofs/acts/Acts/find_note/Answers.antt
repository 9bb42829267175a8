use mathlib.Core.Logic.{∥∥₁_elim}
use Rattle.std.proofs.Common.{sym, ap, subst, ◌∙◌, refl, arith, List}
use Rattle.std.proofs.Props.{props}
use Rattle.sg_actions.proofs.Flags.{some_is}
use Rattle.sg_actions.specs.Engine.{led}
use Rattle.sg_actions.specs.Growing.{moments_same}
use Rattle.sg_actions.specs.Rows.{last_in}
use Rattle.sg_actions.specs.Steps.{Steps, step_at}
use Rattle.sg_recovery.specs.Log.{tally, is_in}
use Rattle.sg_actions.specs.Undoing.{SeesAt}
use Rattle.sg_actions.specs.declared.rows.Row.{Row}
use Rattle.sg_actions.specs.declared.undo.Seen.{Seen}
use Rattle.sg_actions.specs.declared.undo.Seen.TheVariants as seen
use Rattle.sg_actions.proofs.Counting.{looked_none, looked_then, looked_break, look_moments, by_none, by_then, stayed_then, never_any, looked_ok, looked_err}
use Rattle.sg_actions.proofs.Wanted.{kept_live}
use Rattle.sg_actions.proofs.Finding.{is_there, walk_begins, walk_goes, walk_finds, walk_over}
use Rattle.std.proofs.lemmas.Result.{err_from_is_err_and}
use Rattle.sg_actions.proofs.PuttingBack.{err_is}
use Rattle.sg_actions.proofs.acts.Acts.find_note.Goals as goal

pub walk-init : goal.walk-init
walk-init g c = record {
  run = looked_none (g.E.Engine.view c.args.self.now.engine) c.args.self.now.breaks;
  means = λ t from m. m;
  by = λ t from m. by_none (led from (g.E.Engine.view c.args.self.now.engine)) (λ told. moments_same (led from (g.E.Engine.view c.args.self.now.engine)) (g.met.E.Engine.images _ t from m told));
  walks = λ t from m told. walk_begins c.in-Some.last (c.requires told) (sym (ap (λ (rs : List Row). last_in rs c.args.txn.0) c.as_slice.ensures.value) ∙ (sym c.last_in.ensures ∙ c.in-Some.is));
  maps = refl;
  unfreed = refl;
  rows = refl;
  actor = refl;
  begun = refl;
}

pub walk-preserved : goal.walk-preserved
walk-preserved g c =
    let i = c.walk.invariant in
    let k = c.in_ok-prev.ensures in
    record {
      run = looked_then i.run k.counts;
      means = λ t from m. k.means t from (i.means t from m);
      by = λ t from m. by_then (i.by t from m) (k.stays t from (i.means t from m)) (k.moments t from (i.means t from m));
      walks = λ t from m told. (walk_goes c.walk.at c.in-On.next c.look_back.new.into (c.requires told) (i.walks t from m told) c.walk-test.true (subst (λ (rs : Steps). SeesAt rs c.walk.at c.look_back.new.into (seen.On c.in-On.next)) ((i.by t from m).stays.stays told).steps (subst (λ (s : Seen). SeesAt (g.E.Engine.view c.walk.self.engine).steps c.walk.at c.look_back.new.into s) c.in-On.is (c.in_ok-prev.ensures.saw t from (i.means t from m) (i.run.tells told))))).1;
      maps = k.maps ∙ i.maps;
      unfreed = k.unfreed ∙ i.unfreed;
      rows = k.rows ∙ i.rows;
      actor = k.actor ∙ i.actor;
      begun = k.begun ∙ i.begun;
    }

pub look_back-requires : goal.look_back-requires
look_back-requires g c =
    let i = c.walk.invariant in
    record {
      there = λ told1. let told = i.run.told told1 in ∥∥₁_elim (g.met.E.Engine.some c.args.self.now.engine told) (hlevel props) (λ x. some_is (ap (λ (rs : Steps). step_at rs c.walk.at) ((i.by x.0 x.1 x.2).stays.stays told).steps ∙ (is_there c.walk.at (c.requires told) (i.walks x.0 x.1 x.2 told) c.walk-test.true).there));
      kept = λ told1.
          let told = i.run.told told1 in
          let u = c.requires told in
          let within = u.within in
          let behind = c.walk-test.true in
          ∥∥₁_elim (g.met.E.Engine.some c.args.self.now.engine told) (hlevel props) (λ x.
          kept_live c.args.txn.0 c.walk.at (g.met.E.Engine.wanted _ told1) (ap (λ (rs : Steps). is_in c.args.txn.0 (tally rs).live) ((i.by x.0 x.1 x.2).stays.stays told).steps ∙ u.live) (omega (arith, within, behind)));
    }

pub returns-in-Note-clause-finds : goal.returns-in-Note-clause-finds
returns-in-Note-clause-finds g c = λ t from m told. let i = c.walk.invariant in walk_finds c.walk.at c.in-Note.prev c.in-Note.undo_next c.look_back.new.into (c.requires told) (i.walks t from m told) c.walk-test.true (subst (λ (rs : Steps). SeesAt rs c.walk.at c.look_back.new.into (seen.Note c.in-Note.prev c.in-Note.undo_next)) ((i.by t from m).stays.stays told).steps (subst (λ (s : Seen). SeesAt (g.E.Engine.view c.walk.self.engine).steps c.walk.at c.look_back.new.into s) c.in-Note.is (c.in_ok-prev.ensures.saw t from (i.means t from m) (i.run.tells told))))

pub returns-in-Begin-clause-finds : goal.returns-in-Begin-clause-finds
returns-in-Begin-clause-finds g c = λ t from m told. let i = c.walk.invariant in walk_over c.walk.at c.look_back.new.into (c.requires told) (i.walks t from m told) (subst (λ (rs : Steps). SeesAt rs c.walk.at c.look_back.new.into (seen.Begin)) ((i.by t from m).stays.stays told).steps (subst (λ (s : Seen). SeesAt (g.E.Engine.view c.walk.self.engine).steps c.walk.at c.look_back.new.into s) c.in-Begin.is (c.in_ok-prev.ensures.saw t from (i.means t from m) (i.run.tells told))))

pub returns-then-next-at-clause-counts : goal.returns-then-next-at-clause-counts
returns-then-next-at-clause-counts g c =
    let i = c.walk.invariant in
    let k = c.in_ok-prev.ensures.counts in
    looked_break c.count_break-then-next-at.result c.count_break-then-next-at.ensures.answer (looked_then i.run k) c.count_break-then-next-at.ensures.risen c.count_break-then-next-at.ensures.later
    (λ told2. let told = i.run.told (k.told told2) in never_any _ (g.met.E.Engine.some c.args.self.now.engine told) (λ t from m. let go = (walk_goes c.walk.at c.in-On.next c.look_back.new.into (c.requires told) (i.walks t from m told) c.walk-test.true (subst (λ (rs : Steps). SeesAt rs c.walk.at c.look_back.new.into (seen.On c.in-On.next)) ((i.by t from m).stays.stays told).steps (subst (λ (s : Seen). SeesAt (g.E.Engine.view c.walk.self.engine).steps c.walk.at c.look_back.new.into s) c.in-On.is (c.in_ok-prev.ensures.saw t from (i.means t from m) (i.run.tells told))))) in omega (arith, go.0, c.if-next-at.true)))

pub returns-in_err-prev-clause-moments : goal.returns-in_err-prev-clause-moments
returns-in_err-prev-clause-moments g c = λ t from m. look_moments (led from (g.E.Engine.view c.args.self.now.engine)) (led from (g.E.Engine.view c.walk.self.engine)) (led from (g.E.Engine.view c.look_back.new.self.engine)) (c.walk.invariant.by t from m) (c.in_err-prev.ensures.moments t from (c.walk.invariant.means t from m))

pub returns-in_err-prev-clause-means : goal.returns-in_err-prev-clause-means
returns-in_err-prev-clause-means g c = λ t from m. c.in_err-prev.ensures.means t from (c.walk.invariant.means t from m)

pub returns-in-Note-clause-moments : goal.returns-in-Note-clause-moments
returns-in-Note-clause-moments g c = λ t from m. look_moments (led from (g.E.Engine.view c.args.self.now.engine)) (led from (g.E.Engine.view c.walk.self.engine)) (led from (g.E.Engine.view c.look_back.new.self.engine)) (c.walk.invariant.by t from m) (c.in_ok-prev.ensures.moments t from (c.walk.invariant.means t from m))

pub returns-in-Note-clause-means : goal.returns-in-Note-clause-means
returns-in-Note-clause-means g c = λ t from m. c.in_ok-prev.ensures.means t from (c.walk.invariant.means t from m)

pub returns-in-Note-clause-stays : goal.returns-in-Note-clause-stays
returns-in-Note-clause-stays g c = λ t from m. stayed_then (c.walk.invariant.by t from m).stays (c.in_ok-prev.ensures.stays t from (c.walk.invariant.means t from m))

pub returns-then-next-at-clause-moments : goal.returns-then-next-at-clause-moments
returns-then-next-at-clause-moments g c = λ t from m. look_moments (led from (g.E.Engine.view c.args.self.now.engine)) (led from (g.E.Engine.view c.walk.self.engine)) (led from (g.E.Engine.view c.look_back.new.self.engine)) (c.walk.invariant.by t from m) (c.in_ok-prev.ensures.moments t from (c.walk.invariant.means t from m))

pub returns-then-next-at-clause-means : goal.returns-then-next-at-clause-means
returns-then-next-at-clause-means g c = λ t from m. c.in_ok-prev.ensures.means t from (c.walk.invariant.means t from m)

pub returns-in-Begin-clause-moments : goal.returns-in-Begin-clause-moments
returns-in-Begin-clause-moments g c = λ t from m. look_moments (led from (g.E.Engine.view c.args.self.now.engine)) (led from (g.E.Engine.view c.walk.self.engine)) (led from (g.E.Engine.view c.look_back.new.self.engine)) (c.walk.invariant.by t from m) (c.in_ok-prev.ensures.moments t from (c.walk.invariant.means t from m))

pub returns-in-Begin-clause-means : goal.returns-in-Begin-clause-means
returns-in-Begin-clause-means g c = λ t from m. c.in_ok-prev.ensures.means t from (c.walk.invariant.means t from m)

pub returns-in-Begin-clause-stays : goal.returns-in-Begin-clause-stays
returns-in-Begin-clause-stays g c = λ t from m. stayed_then (c.walk.invariant.by t from m).stays (c.in_ok-prev.ensures.stays t from (c.walk.invariant.means t from m))

pub invariant_of-self-then-next-at-clause-unbroken : goal.invariant_of-self-then-next-at-clause-unbroken
invariant_of-self-then-next-at-clause-unbroken g c = λ told2. absurd (let i = c.walk.invariant in let k = c.in_ok-prev.ensures.counts in let told = i.run.told (k.told told2) in never_any _ (g.met.E.Engine.some c.args.self.now.engine told) (λ t from m. let go = (walk_goes c.walk.at c.in-On.next c.look_back.new.into (c.requires told) (i.walks t from m told) c.walk-test.true (subst (λ (rs : Steps). SeesAt rs c.walk.at c.look_back.new.into (seen.On c.in-On.next)) ((i.by t from m).stays.stays told).steps (subst (λ (s : Seen). SeesAt (g.E.Engine.view c.walk.self.engine).steps c.walk.at c.look_back.new.into s) c.in-On.is (c.in_ok-prev.ensures.saw t from (i.means t from m) (i.run.tells told))))) in omega (arith, go.0, c.if-next-at.true)))

pub returns-in_err-prev-clause-counts : goal.returns-in_err-prev-clause-counts
returns-in_err-prev-clause-counts g c =
    let p = err_from_is_err_and c.from_residual.result c.from_residual.ensures.1 in
    err_is {T = Seen} c.from_residual.result c.in_err-prev.field-0.0 p.0 p.1 p.2 (looked_err c.walk.invariant.run c.in_err-prev.ensures.counts)

pub returns-in-Note-clause-counts : goal.returns-in-Note-clause-counts
returns-in-Note-clause-counts g c = looked_ok _ (looked_then c.walk.invariant.run c.in_ok-prev.ensures.counts)

pub returns-in-Begin-clause-counts : goal.returns-in-Begin-clause-counts
returns-in-Begin-clause-counts g c = looked_ok _ (looked_then c.walk.invariant.run c.in_ok-prev.ensures.counts)

pub returns-clause-counts : goal.returns-clause-counts
returns-clause-counts g c = looked_ok _ c.walk.invariant.run
