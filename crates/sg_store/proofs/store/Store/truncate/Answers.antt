use Rattle.std.proofs.Common.{sym, ◌∙◌, subst, Err, Option, refl, ap}
use Rattle.sg_recovery.specs.Log.{tally}
use Rattle.sg_base.specs.declared.numbers.TxnId.{TxnId}
use Rattle.sg_store.specs.Calls.{Goes, Flushes}
use Rattle.sg_store.specs.Seen.{core_of}
use Rattle.sg_store.specs.Store.{Core}
use Rattle.sg_store.proofs.Calls.{no_stop}
use Rattle.sg_store.proofs.Maintaining as maintaining
use Rattle.sg_store.specs.Engine.{led, IsOldest, IsFirst}
use Rattle.sg_store.proofs.Serving.{serves_on}
use Rattle.sg_store.proofs.Serving as serving
use Rattle.sg_store.specs.Asks.{ShowsSome}
use Rattle.sg_store.proofs.Resting as resting
use Rattle.sg_store.proofs.Causing as causing
use Rattle.sg_base.specs.Ends.{HasRisen}
use Rattle.sg_store.proofs.Heeding as heeding
use Rattle.sg_store.proofs.Accounting as accounting
use Rattle.sg_store.proofs.Still.{left_rested, not_halted}
use Rattle.sg_store.proofs.store.Store.truncate.Goals as goal

pub returns-then-is_some-clause-truncates : goal.returns-then-is_some-clause-truncates
returns-then-is_some-clause-truncates g c t z from m told x lawful shows =
    maintaining.keeps_stopped t (g.E.Engine.basis z) lawful (led t z from (g.E.Engine.view c.args.self.now.engine)) (core_of c.args.self.now) x (led t z from (g.E.Engine.view c.args.self.now.engine)).faults shows (sym c.is_some.ensures ∙ c.if-is_some.true)

pub returns-in-Ok-clause-truncates : goal.returns-in-Ok-clause-truncates
returns-in-Ok-clause-truncates g c t z from m told x lawful shows =
    (let k : Core = core_of c.args.self.now in
    let stop = sym c.is_some.ensures ∙ c.if-is_some.false in
    let runs = shows.runs (sym shows.stopped ∙ no_stop t (g.E.Engine.basis z) c.args.self.now.stop stop) in
    let b = c.in-Ok.ensures.rests t z from m told runs.is_kept.engine runs.is_kept.idle (subst (λ (o : Option TxnId). IsOldest o (tally (led t z from (g.E.Engine.view c.args.self.now.engine)).log).live) (sym c.oldest-first.ensures) (maintaining.oldest_is t (g.E.Engine.basis z) (led t z from (g.E.Engine.view c.args.self.now.engine)) k x runs)) in
    maintaining.keeps_done t (g.E.Engine.basis z) lawful (led t z from (g.E.Engine.view c.args.self.now.engine)) k x (led t z from (g.E.Engine.view c.truncate.new.self)).faults shows stop (led t z from (g.E.Engine.view c.truncate.new.self)) b.0 b.1.0)

pub returns-in-Err-clause-truncates : goal.returns-in-Err-clause-truncates
returns-in-Err-clause-truncates g c t z from m told x lawful shows =
    (let k : Core = core_of c.args.self.now in
    let stop = sym c.is_some.ensures ∙ c.if-is_some.false in
    let runs = shows.runs (sym shows.stopped ∙ no_stop t (g.E.Engine.basis z) c.args.self.now.stop stop) in
    let b = c.truncate.ensures.rests t z from m told runs.is_kept.engine runs.is_kept.idle (subst (λ (o : Option TxnId). IsOldest o (tally (led t z from (g.E.Engine.view c.args.self.now.engine)).log).live) (sym c.oldest-first.ensures) (maintaining.oldest_is t (g.E.Engine.basis z) (led t z from (g.E.Engine.view c.args.self.now.engine)) k x runs)) in
    subst (λ e. Goes t (g.E.Engine.basis z) (led t z from (g.E.Engine.view c.args.self.now.engine)) x (Flushes (led t z from (g.E.Engine.view c.args.self.now.engine)).faults (led t z from (g.E.Engine.view e)).faults x (Err c.halt.result)) (led t z from (g.E.Engine.view e)) (core_of c.halt.new.self)) (sym c.halt.ensures.engine)
    (subst (λ r. Goes t (g.E.Engine.basis z) (led t z from (g.E.Engine.view c.args.self.now.engine)) x (Flushes (led t z from (g.E.Engine.view c.args.self.now.engine)).faults (led t z from (g.E.Engine.view c.truncate.new.self)).faults x (Err r)) (led t z from (g.E.Engine.view c.truncate.new.self)) (core_of c.halt.new.self)) (sym c.halt.ensures.answer)
    (maintaining.keeps_fails t (g.E.Engine.basis z) lawful (led t z from (g.E.Engine.view c.args.self.now.engine)) k x (led t z from (g.E.Engine.view c.truncate.new.self)).faults shows stop (led t z from (g.E.Engine.view c.truncate.new.self)) (core_of c.halt.new.self) c.in-Err.fault c.halt.ensures.core b.0 c.in-Err.ensures.reads c.in-Err.ensures.counts.failed)))

pub returns-in-Ok-clause-serves : goal.returns-in-Ok-clause-serves
returns-in-Ok-clause-serves g c t s =
    serves_on t (g.E.Engine.view c.args.self.now.engine) (g.E.Engine.view c.truncate.new.self) (core_of c.args.self.now) _ _ (λ z from m. c.truncate.ensures.means t z from m) (λ h. c.truncate.ensures.counts.told h)
    (λ z from m tells x lawful shows. returns-in-Ok-clause-truncates g c t z from m tells x lawful shows) s

pub returns-in-Err-clause-serves : goal.returns-in-Err-clause-serves
returns-in-Err-clause-serves g c t s =
    serves_on t (g.E.Engine.view c.args.self.now.engine) (g.E.Engine.view c.halt.new.self.engine) (core_of c.args.self.now) _ _ (λ z from m. subst (λ e. (g.E.Engine.view e).means t z from) (sym c.halt.ensures.engine) (c.truncate.ensures.means t z from m)) (λ h. c.truncate.ensures.counts.told (subst (λ e. (g.E.Engine.view e).Told) c.halt.ensures.engine h))
    (λ z from m tells x lawful shows. returns-in-Err-clause-truncates g c t z from m tells x lawful shows) s

pub truncate-requires : goal.truncate-requires
truncate-requires g c =
    let s = c.requires.serves in
    record {
      can = serving.asked_of s.0 (g.E.Engine.view c.args.self.now.engine) (ShowsSome (core_of c.args.self.now) s.0) (IsFirst c.oldest-first.result) (λ b v h. (
          let stop = sym c.is_some.ensures ∙ c.if-is_some.false in
          let runs = h.shows.runs (sym h.shows.stopped ∙ no_stop s.0 b c.args.self.now.stop stop) in
          record { rest = record { engine = runs.is_kept.engine; idle = runs.is_kept.idle }; first = subst (λ (o : Option TxnId). IsOldest o (tally v.log).live) (sym c.oldest-first.ensures) (maintaining.oldest_is s.0 b v (core_of c.args.self.now) h.run runs) })) s.1;
    }

pub returns-in-Ok-clause-rests : goal.returns-in-Ok-clause-rests
returns-in-Ok-clause-rests g c t live objects durable s =
    record {
      sizes = s.sizes;
      from = λ tells. s.from (c.truncate.ensures.counts.told tells);
      means = λ tells. c.truncate.ensures.means t s.sizes (s.from (c.truncate.ensures.counts.told tells)) (s.means (c.truncate.ensures.counts.told tells));
      can = λ tells.
          (let was = c.truncate.ensures.counts.told tells in
          let h = s.can was in
          resting.same_has t (g.E.Engine.basis s.sizes) (led t s.sizes (s.from was) (g.E.Engine.view c.args.self.now.engine)) (led t s.sizes (s.from was) (g.E.Engine.view c.truncate.new.self)) (core_of c.args.self.now) _ live objects durable h _
          (returns-in-Ok-clause-truncates g c t s.sizes (s.from was) (s.means was) was h.run h.lawful h.shows) (returns-in-Ok-clause-truncates g c t s.sizes (s.from was) (s.means was) was h.run h.lawful h.shows).goes.1);
    }

pub returns-in-Ok-clause-told : goal.returns-in-Ok-clause-told
returns-in-Ok-clause-told g c h = c.truncate.ensures.counts.told h

pub returns-in-Err-clause-told : goal.returns-in-Err-clause-told
returns-in-Err-clause-told g c h = c.truncate.ensures.counts.told (subst (λ e. (g.E.Engine.view e).Told) c.halt.ensures.engine h)

pub returns-then-is_some-clause-causes : goal.returns-then-is_some-clause-causes
returns-then-is_some-clause-causes g c = (sym c.is_some.ensures ∙ c.if-is_some.true, refl)

pub returns-in-Ok-clause-causes : goal.returns-in-Ok-clause-causes
returns-in-Ok-clause-causes g c = ((causing.none_of _ (sym c.is_some.ensures ∙ c.if-is_some.false)), refl)

pub returns-in-Err-clause-causes : goal.returns-in-Err-clause-causes
returns-in-Err-clause-causes g c =
    causing.flushes_failed (g.E.Engine.view c.args.self.now.engine) (g.E.Engine.view c.halt.new.self.engine) (core_of c.args.self.now) (core_of c.halt.new.self) c.in-Err.fault c.halt.result c.halt.ensures.answer c.halt.ensures.core (causing.none_of _ (sym c.is_some.ensures ∙ c.if-is_some.false))
    (λ d. subst (λ e. HasRisen (g.E.Engine.view c.args.self.now.engine).faults (g.E.Engine.view e).faults) (sym c.halt.ensures.engine) (c.in-Err.ensures.counts.failed d)) c.in-Err.ensures.reads

pub returns-then-is_some-clause-asks : goal.returns-then-is_some-clause-asks
returns-then-is_some-clause-asks g c = λ e. refl

pub returns-in-Err-clause-asks : goal.returns-in-Err-clause-asks
returns-in-Err-clause-asks g c = λ asks. causing.not_early _ c.in-Err.fault c.halt.result c.halt.ensures.answer asks

pub returns-then-is_some-clause-heeds : goal.returns-then-is_some-clause-heeds
returns-then-is_some-clause-heeds g c =
    heeding.heeds_none c.args.self.now.stop (g.E.Engine.view c.args.self.now.engine)

pub returns-in-Ok-clause-heeds : goal.returns-in-Ok-clause-heeds
returns-in-Ok-clause-heeds g c =
    heeding.heeds_well _ (g.E.Engine.view c.args.self.now.engine) (g.E.Engine.view c.truncate.new.self) c.in-Ok.ensures.counts.quiet c.truncate.ensures.counts.tail c.in-Ok.ensures.counts.tells (accounting.unfailed_done (g.E.Engine.view c.args.self.now.engine) (g.E.Engine.view c.truncate.new.self) _ c.in-Ok.ensures.counts.accounts)

pub returns-in-Err-clause-heeds : goal.returns-in-Err-clause-heeds
returns-in-Err-clause-heeds g c =
    heeding.heeds_halt (g.E.Engine.view) c.args.self.now.stop c.halt.new.self.stop c.in-Err.fault (g.E.Engine.view c.args.self.now.engine) c.truncate.new.self c.halt.new.self.engine c.halt.ensures.engine (ap (λ (k : Core). k.stopped) c.halt.ensures.core) (causing.none_of _ (sym c.is_some.ensures ∙ c.if-is_some.false))
    c.truncate.ensures.counts.later c.truncate.ensures.counts.tail c.in-Err.ensures.counts.failed c.in-Err.ensures.counts.accounts

pub returns-then-is_some-clause-stock : goal.returns-then-is_some-clause-stock
returns-then-is_some-clause-stock g c none t z from m told x lawful shows r shown = shown

pub returns-in-Ok-clause-stock : goal.returns-in-Ok-clause-stock
returns-in-Ok-clause-stock g c none t z from m told x lawful shows =
    let runs = shows.runs (sym shows.stopped ∙ no_stop t (g.E.Engine.basis z) c.args.self.now.stop (sym c.is_some.ensures ∙ c.if-is_some.false)) in
    let b = c.in-Ok.ensures.rests t z from m told runs.is_kept.engine runs.is_kept.idle (subst (λ (o : Option TxnId). IsOldest o (tally (led t z from (g.E.Engine.view c.args.self.now.engine)).log).live) (sym c.oldest-first.ensures) (maintaining.oldest_is t (g.E.Engine.basis z) (led t z from (g.E.Engine.view c.args.self.now.engine)) (core_of c.args.self.now) x runs)) in
    left_rested t (g.E.Engine.basis z) (led t z from (g.E.Engine.view c.args.self.now.engine)) (led t z from (g.E.Engine.view c.truncate.new.self)) b.1.0

pub returns-in-Err-clause-stock : goal.returns-in-Err-clause-stock
returns-in-Err-clause-stock g c none t z from m told x lawful shows = not_halted (ap (λ (k : Core). k.stopped) c.halt.ensures.core) none
