use Rattle.std.proofs.Common.{◌≡◌, ℕ, Some, None, sym, subst, ◌∙◌, arith, rules, ap}
use Rattle.std.proofs.lemmas.Result.{err_from_is_err_and}
use Rattle.sg_catalog.specs.Catalog.{filled}
use Rattle.sg_space.proofs.Known.{still, before, reads_then}
use Rattle.sg_space.specs.Units.{HasAt}
use Rattle.sg_space.specs.View.{Space}
use Rattle.sg_walk.specs.Bodies.{CanReachBody, ReachesBody}
use Rattle.sg_reach.proofs.Faults.{broken_so}
use Rattle.sg_reach.proofs.Placing.{set_kept, reached_by}
use Rattle.sg_walk.specs.Rows.{IsRowAt, ReachesRows}
use Rattle.sg_walk.proofs.Joining.{reaches_none, reaches_row, rows_on, row_may, rows_all}
use Rattle.sg_walk.proofs.walk.reach_rows.Goals as goal

pub loop-slot-preserved-in_default : goal.loop-slot-preserved-in_default
loop-slot-preserved-in_default g c = record {
  so_far =
      let i = c.loop-slot.invariant.so_far in
      let test = c.loop-slot-test.true in
      let counts = c.row_at.ensures.counts in
      rows_on None i (omega arith) counts.told counts.later c.in_ok-row.ensures.kept
      (λ shows. subst (λ o. HasAt (g.P.PageSpace.view c.args.space.now).space.pages.at c.args.p.0 (IsRowAt c.loop-slot.slot o)) c.in_default.is (before (λ (s : Space). HasAt s.pages.at c.args.p.0 (IsRowAt c.loop-slot.slot c.in_ok-row.field-0)) i.kept shows (c.in_ok-row.ensures.read (i.kept.shows shows))))
      (λ shows. reaches_none (g.P.PageSpace.view c.args.space.now).space c.loop-slot.into);
  later = λ t. g.met.P.PageSpace.later_then t _ _ _ (c.loop-slot.invariant.later t) (c.row_at.ensures.later t);
  means = λ t m. c.row_at.ensures.means t (c.loop-slot.invariant.means t m);
  quiet = c.in_ok-row.ensures.counts.quiet ∙ c.loop-slot.invariant.quiet;
  stays = c.loop-slot.invariant.stays;
  records = c.row_at.ensures.writes.records ∙ c.loop-slot.invariant.records;
}

pub reach_body-requires : goal.reach_body-requires
reach_body-requires g c = λ told.
    let i = c.loop-slot.invariant.so_far in
    let test = c.loop-slot-test.true in
    let back = i.told (c.row_at.ensures.counts.told told) in
    let shows = g.met.P.PageSpace.told_shows _ back in
    let m = c.requires.rows back in
    let seen = subst (λ o. HasAt (g.P.PageSpace.view c.args.space.now).space.pages.at c.args.p.0 (IsRowAt c.loop-slot.slot o)) c.in-Some.is (before (λ (s : Space). HasAt s.pages.at c.args.p.0 (IsRowAt c.loop-slot.slot c.in_ok-row.field-0)) i.kept shows (c.in_ok-row.ensures.read (i.kept.shows shows))) in
    let may = row_may c.in-Some.row m.catalog m.index i (omega arith) shows m.chain m.at seen m.can in
    still (λ (s : Space). CanReachBody s c.in-Some.row.kind c.in-Some.row.root.0 c.loop-slot.into) (reads_then i.kept c.in_ok-row.ensures.kept) shows may

pub returns-in_err-reach_body-clause-broken : goal.returns-in_err-reach_body-clause-broken
returns-in_err-reach_body-clause-broken g c =
    let i = c.loop-slot.invariant.so_far in
    let test = c.loop-slot-test.true in
    let kept = reads_then i.kept c.in_ok-row.ensures.kept in
    let p = err_from_is_err_and c.from_residual-in_err-reach_body.result c.from_residual-in_err-reach_body.ensures.1 in
    rw (p.1, p.2) (broken_so c.in_err-reach_body.field-0.0 (λ never shows cat j h at can.
    let seen = subst (λ o. HasAt (g.P.PageSpace.view c.args.space.now).space.pages.at c.args.p.0 (IsRowAt c.loop-slot.slot o)) c.in-Some.is (before (λ (s : Space). HasAt s.pages.at c.args.p.0 (IsRowAt c.loop-slot.slot c.in_ok-row.field-0)) i.kept shows (c.in_ok-row.ensures.read (i.kept.shows shows))) in
    let may = row_may c.in-Some.row cat j i (omega arith) shows h at seen can in
    never (kept.shows shows) (still (λ (s : Space). CanReachBody s c.in-Some.row.kind c.in-Some.row.root.0 c.loop-slot.into) kept shows may)) c.in_err-reach_body.ensures.broken)

pub loop-slot-preserved : goal.loop-slot-preserved
loop-slot-preserved g c = record {
  so_far =
      let i = c.loop-slot.invariant.so_far in
      let test = c.loop-slot-test.true in
      let first = c.row_at.ensures.counts in
      let second = c.reach_body.ensures.counts in
      let one = first.later in
      let two = second.later in
      let kept = reads_then i.kept c.in_ok-row.ensures.kept in
      rows_on (Some c.in-Some.row) i (omega arith) (λ t. first.told (second.told t)) (omega arith) (reads_then c.in_ok-row.ensures.kept c.in_ok-reach_body.ensures.kept)
      (λ shows. subst (λ o. HasAt (g.P.PageSpace.view c.args.space.now).space.pages.at c.args.p.0 (IsRowAt c.loop-slot.slot o)) c.in-Some.is (before (λ (s : Space). HasAt s.pages.at c.args.p.0 (IsRowAt c.loop-slot.slot c.in_ok-row.field-0)) i.kept shows (c.in_ok-row.ensures.read (i.kept.shows shows))))
      (λ shows. reaches_row c.in-Some.row (before (λ (s : Space). ReachesBody s c.in-Some.row.kind c.in-Some.row.root.0 c.loop-slot.into c.reach_body.new.into) kept shows (c.in_ok-reach_body.ensures.reached (kept.shows shows))));
  later = λ t. g.met.P.PageSpace.later_then t _ _ _ (c.loop-slot.invariant.later t) (g.met.P.PageSpace.later_then t _ _ _ (c.row_at.ensures.later t) (c.reach_body.ensures.later t));
  means = λ t m. c.reach_body.ensures.means t (c.row_at.ensures.means t (c.loop-slot.invariant.means t m));
  quiet = c.in_ok-reach_body.ensures.counts.quiet ∙ (c.in_ok-row.ensures.counts.quiet ∙ c.loop-slot.invariant.quiet);
  stays = λ shows n e. set_kept (c.in_ok-reach_body.ensures.reached ((reads_then c.loop-slot.invariant.so_far.kept c.in_ok-row.ensures.kept).shows shows)).set.pages_set n (c.loop-slot.invariant.stays shows n e);
  records = c.reach_body.ensures.writes.records ∙ (c.row_at.ensures.writes.records ∙ c.loop-slot.invariant.records);
}

pub returns-clause-reached : goal.returns-clause-reached
returns-clause-reached g c = λ shows cat j h at.
    let i = c.loop-slot.invariant.so_far in
    let test = c.loop-slot-test.false in
    rows_all cat j c.args.p.0 c.loop-slot.slot c.args.into.now c.loop-slot.into h at (omega arith) (i.rows shows cat j h at)

pub returns-in_err-reach_body-clause-later : goal.returns-in_err-reach_body-clause-later
returns-in_err-reach_body-clause-later g c = λ t. g.met.P.PageSpace.later_then t _ _ _ (c.loop-slot.invariant.later t) (g.met.P.PageSpace.later_then t _ _ _ (c.row_at.ensures.later t) (c.reach_body.ensures.later t))

pub returns-in_err-reach_body-clause-means : goal.returns-in_err-reach_body-clause-means
returns-in_err-reach_body-clause-means g c = λ t m. c.reach_body.ensures.means t (c.row_at.ensures.means t (c.loop-slot.invariant.means t m))

pub returns-in_err-reach_body-clause-place : goal.returns-in_err-reach_body-clause-place
returns-in_err-reach_body-clause-place g c =
    let kept = reads_then c.loop-slot.invariant.so_far.kept c.in_ok-row.ensures.kept in
    let p = err_from_is_err_and c.from_residual-in_err-reach_body.result c.from_residual-in_err-reach_body.ensures.1 in
    rw (p.1, p.2) (reached_by _ c.in_err-reach_body.field-0.0 (λ given. (kept.shows given.0, c.loop-slot.invariant.stays given.0 _ given.1)) c.in_err-reach_body.ensures.place)
