use Rattle.std.proofs.Common.{ℕ}
use Rattle.std.proofs.lemmas.Result.{err_from_is_err_and}
use Rattle.sg_actions.proofs.Accounting.{within_by}
use Rattle.sg_actions.proofs.Calling.{said_any}
use Rattle.sg_actions.proofs.Counting.{looked_break, looked_engine, looked_ok, never_any}
use Rattle.sg_actions.proofs.PuttingBack.{err_engine, err_is}
use Rattle.sg_actions.proofs.ReadBack.{seen_some, seen_at}
use Rattle.sg_actions.proofs.GoingOn.{can_look}
use Rattle.sg_actions.proofs.acts.Acts.look_back.Goals as goal

pub invariant_of-self-in_default-clause-pages_said : goal.invariant_of-self-in_default-clause-pages_said
invariant_of-self-in_default-clause-pages_said g c = said_any c.args.self.now.maps.pages (g.met.E.Engine.some c.args.self.now.engine) (λ t. (record { rests = c.read.ensures.rests; keeps = λ from m. c.read.ensures.means t from m; looks = λ from m. c.read.ensures.looks t from m; whole = g.met.E.Engine.told_whole _; full = g.met.E.Engine.full_failed _; now = λ from m. g.met.E.Engine.now_is _ t from m; now' = λ from m. g.met.E.Engine.now_is _ t from m })) c.read.ensures.rests.counts.told c.args.self.now.pages_said

pub invariant_of-self-in_default-clause-within : goal.invariant_of-self-in_default-clause-within
invariant_of-self-in_default-clause-within g c = within_by c.read.ensures.rests.counts c.args.self.now.within

pub invariant_of-self-in-Some-1 : goal.invariant_of-self-in-Some-1
invariant_of-self-in-Some-1 g c = record { goes_on = can_look c.args.self.now.begun c.args.self.now.actor (g.met.E.Engine.some c.args.self.now.engine) (λ t. (record { rests = c.read.ensures.rests; keeps = λ from m. c.read.ensures.means t from m; looks = λ from m. c.read.ensures.looks t from m; whole = g.met.E.Engine.told_whole _; full = g.met.E.Engine.full_failed _; now = λ from m. g.met.E.Engine.now_is _ t from m; now' = λ from m. g.met.E.Engine.now_is _ t from m })) c.args.self.now.goes_on; within = within_by c.read.ensures.rests.counts c.args.self.now.within; unbroken = λ told. c.args.self.now.unbroken (c.read.ensures.rests.counts.told told); count_is = c.args.self.now.count_is; few = c.args.self.now.few; bands_are = c.args.self.now.bands_are; page_flags = c.args.self.now.page_flags; band_flags = c.args.self.now.band_flags; pages_said = said_any c.args.self.now.maps.pages (g.met.E.Engine.some c.args.self.now.engine) (λ t. (record { rests = c.read.ensures.rests; keeps = λ from m. c.read.ensures.means t from m; looks = λ from m. c.read.ensures.looks t from m; whole = g.met.E.Engine.told_whole _; full = g.met.E.Engine.full_failed _; now = λ from m. g.met.E.Engine.now_is _ t from m; now' = λ from m. g.met.E.Engine.now_is _ t from m })) c.read.ensures.rests.counts.told c.args.self.now.pages_said }

pub returns-in_default-clause-counts : goal.returns-in_default-clause-counts
returns-in_default-clause-counts g c = looked_break c.count_break.result c.count_break.ensures.answer (looked_engine c.args.self.now.breaks c.in_ok-size.ensures.rests.counts) c.count_break.ensures.risen c.count_break.ensures.later
    (λ told1. let told = c.in_ok-size.ensures.rests.counts.told told1 in never_any _ (g.met.E.Engine.some c.args.self.now.engine told) (λ t from m. seen_some _ _ _ _ (c.requires.there told) (c.in_ok-size.ensures.read t from m told) c.in_default.ensures))

pub invariant_of-self-in_default-clause-unbroken : goal.invariant_of-self-in_default-clause-unbroken
invariant_of-self-in_default-clause-unbroken g c = λ told1. absurd (let told = c.in_ok-size.ensures.rests.counts.told told1 in never_any _ (g.met.E.Engine.some c.args.self.now.engine told) (λ t from m. seen_some _ _ _ _ (c.requires.there told) (c.in_ok-size.ensures.read t from m told) c.in_default.ensures))

pub invariant_of-self-in_default-clause-goes_on : goal.invariant_of-self-in_default-clause-goes_on
invariant_of-self-in_default-clause-goes_on g c = can_look c.args.self.now.begun c.args.self.now.actor (g.met.E.Engine.some c.args.self.now.engine) (λ t. (record { rests = c.read.ensures.rests; keeps = λ from m. c.read.ensures.means t from m; looks = λ from m. c.read.ensures.looks t from m; whole = g.met.E.Engine.told_whole _; full = g.met.E.Engine.full_failed _; now = λ from m. g.met.E.Engine.now_is _ t from m; now' = λ from m. g.met.E.Engine.now_is _ t from m })) c.args.self.now.goes_on

pub returns-in_err-size-clause-counts : goal.returns-in_err-size-clause-counts
returns-in_err-size-clause-counts g c =
    let p = err_from_is_err_and c.from_residual.result c.from_residual.ensures.1 in
    err_is {T = ℕ} c.from_residual.result c.in_err-size.field-0.0 p.0 p.1 p.2 (err_engine c.args.self.now.breaks (g.met.E.Engine.told_whole _) c.in_err-size.ensures.rests.counts)

pub returns-clause-counts : goal.returns-clause-counts
returns-clause-counts g c = looked_ok _ (looked_engine c.args.self.now.breaks c.in_ok-size.ensures.rests.counts)

pub returns-clause-saw : goal.returns-clause-saw
returns-clause-saw g c = λ t from m told. seen_at _ _ _ _ _ (c.requires.there told) (c.in_ok-size.ensures.read t from m told) c.in-Some.ensures
