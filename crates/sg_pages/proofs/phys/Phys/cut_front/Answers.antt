use Rattle.std.proofs.Common.{rules, ◌≡◌, inr, ◌++◌, ◌∷◌, [], ℕ, max, List, true, Some, None, refl, sym, ap, ◌∙◌, subst, arith}
use mathlib.Core.Logic.{∥∥₁_elim, ∥∥₁_prop}
use Rattle.sg_gate.specs.declared.superblock.Super.{Super}
use Rattle.sg_log.specs.Frames.{Numbered}
use Rattle.sg_log.specs.Held.{Tail}
use Rattle.sg_log.proofs.Holding.{tail_at_gate}
use Rattle.sg_actions.specs.Engine.{EngineLooks, IsForced, led}
use Rattle.sg_space.specs.declared.space.SpaceFault.TheVariants.{Disk}
use Rattle.sg_phys_laws.specs.Reading.{durable_in}
use Rattle.sg_phys_laws.specs.Recovers.{RecoversBy}
use Rattle.sg_phys_laws.proofs.Waiting.{on_err}
use Rattle.sg_phys.proofs.Causes.{by_poised, risen_prop}
use Rattle.std.specs.Prelude.{Ok, Err, Option}
use Rattle.sg_engine.specs.Engine.{Origin}
use Rattle.sg_kept.specs.Kept.{IsPoint as IsLow}
use Rattle.sg_recovery.specs.Log.{tally}
use Rattle.sg_pool.specs.Pooled.{sizes}
use Rattle.sg_phys_laws.proofs.Counted.{nothing_counted}
use Rattle.sg_phys_laws.proofs.Poised.{rested_same}
use Rattle.sg_phys.specs.Phys.{IsGiven, Stands, StandsForSome, broken, cut_to, gone_by, looked, origin_at, records_before, seen_by, settled, without}
use Rattle.sg_phys.proofs.Cuts.{gone_more}
use Rattle.sg_phys.proofs.Cutting.{engine_whole, is_settled, gate_cut, tail_cut, none_waiting, still_forced, told_last, told_low, wanted_low, is_cut_none, is_cut, not_cut, did_cut, rests_past, keeps_cut, cut_looks, cut_moments, cut_forced, cut_begins}
use Rattle.sg_phys.proofs.Seen.{keeps_broken, looks_ok, none_made, rests_err, rests_ok, some_broken, some_past}
use Rattle.sg_pages.specs.Parts.{parts}
use Rattle.sg_pages.proofs.phys.Phys.cut_front.Goals as goal

pub returns-in-None-clause-rests : goal.returns-in-None-clause-rests
returns-in-None-clause-rests g c = rests_ok (IsGiven g.D.Disk.told g.D.Presumed.presumed) (parts g.D.Disk.view c.args.self.now) (g.D.Disk.view c.args.self.now.engine.disk) c.args.self.now.engine.log c.args.self.now.engine.pool {S = Unit {0}} tt tt c.args.self.now.end c.args.self.now.gate (c.args.self.now.gates c.requires.whole) (c.args.self.now.gates c.requires.whole) (nothing_counted (g.D.Disk.view c.args.self.now.engine.disk) c.args.self.now.engine.log c.args.self.now.engine.pool tt) c.requires.whole refl

pub returns-in-None-clause-means : goal.returns-in-None-clause-means
returns-in-None-clause-means g c = λ t from m. m

pub returns-in-None-clause-looks : goal.returns-in-None-clause-looks
returns-in-None-clause-looks g c = λ t from m. looks_ok (IsGiven g.D.Disk.told g.D.Presumed.presumed) (parts g.D.Disk.view c.args.self.now) (g.D.Disk.view c.args.self.now.engine.disk) c.args.self.now.engine.log c.args.self.now.engine.pool t from m tt c.args.self.now.end c.args.self.now.gate (λ o tells e. rested_same o _ _ _ _ _ _ _ _ e (λ k early. early)) (none_made (IsGiven g.D.Disk.told g.D.Presumed.presumed) (parts g.D.Disk.view c.args.self.now))

pub returns-in-None-clause-forced : goal.returns-in-None-clause-forced
returns-in-None-clause-forced g c = λ t from m. still_forced (IsGiven g.D.Disk.told g.D.Presumed.presumed) (parts g.D.Disk.view c.args.self.now) (none_waiting c.args.self.now.engine.log c.requires.empty)

pub returns-in-None-clause-cuts : goal.returns-in-None-clause-cuts
returns-in-None-clause-cuts g c = λ tell. is_cut_none _ _ _ _ _ _ (sym c.in-None.is ∙ told_last (IsGiven g.D.Disk.told g.D.Presumed.presumed) (parts g.D.Disk.view c.args.self.now) c.args.self.now.some tell)

pub returns-then-not-can_cut-clause-rests : goal.returns-then-not-can_cut-clause-rests
returns-then-not-can_cut-clause-rests g c = rests_ok (IsGiven g.D.Disk.told g.D.Presumed.presumed) (parts g.D.Disk.view c.args.self.now) (g.D.Disk.view c.args.self.now.engine.disk) c.args.self.now.engine.log c.args.self.now.engine.pool {S = Unit {0}} tt tt c.args.self.now.end c.args.self.now.gate (c.args.self.now.gates c.requires.whole) (c.args.self.now.gates c.requires.whole) (nothing_counted (g.D.Disk.view c.args.self.now.engine.disk) c.args.self.now.engine.log c.args.self.now.engine.pool tt) c.requires.whole refl

pub returns-then-not-can_cut-clause-means : goal.returns-then-not-can_cut-clause-means
returns-then-not-can_cut-clause-means g c = λ t from m. m

pub returns-then-not-can_cut-clause-looks : goal.returns-then-not-can_cut-clause-looks
returns-then-not-can_cut-clause-looks g c = λ t from m. looks_ok (IsGiven g.D.Disk.told g.D.Presumed.presumed) (parts g.D.Disk.view c.args.self.now) (g.D.Disk.view c.args.self.now.engine.disk) c.args.self.now.engine.log c.args.self.now.engine.pool t from m tt c.args.self.now.end c.args.self.now.gate (λ o tells e. rested_same o _ _ _ _ _ _ _ _ e (λ k early. early)) (none_made (IsGiven g.D.Disk.told g.D.Presumed.presumed) (parts g.D.Disk.view c.args.self.now))

pub returns-then-not-can_cut-clause-forced : goal.returns-then-not-can_cut-clause-forced
returns-then-not-can_cut-clause-forced g c = λ t from m. still_forced (IsGiven g.D.Disk.told g.D.Presumed.presumed) (parts g.D.Disk.view c.args.self.now) (none_waiting c.args.self.now.engine.log c.requires.empty)

pub returns-then-not-can_cut-clause-cuts : goal.returns-then-not-can_cut-clause-cuts
returns-then-not-can_cut-clause-cuts g c = λ tell.
    let low = told_low (IsGiven g.D.Disk.told g.D.Presumed.presumed) (parts g.D.Disk.view c.args.self.now) c.args.self.now.some tell (none_waiting c.args.self.now.engine.log c.requires.empty) c.in-Some.lsn c.in-Some.is in
    is_cut _ _ _ _ _ _ _ c.in-Some.lsn c.cut_point-point.result (sym c.in-Some.is ∙ told_last (IsGiven g.D.Disk.told g.D.Presumed.presumed) (parts g.D.Disk.view c.args.self.now) c.args.self.now.some tell) (c.cut_point-point.ensures.point (let e = tail_at_gate c.args.self.now.engine.log in omega (arith, low, e)))
    (not_cut (IsGiven g.D.Disk.told g.D.Presumed.presumed) (parts g.D.Disk.view c.args.self.now) c.args.self.now.some tell (none_waiting c.args.self.now.engine.log c.requires.empty) c.in-Some.lsn c.in-Some.is c.cut_point-point.result _ c.cut_point-point.ensures.marked (c.can_cut.ensures.not (let h = c.if-not-can_cut.true in search rules)))

pub invariant_of-self-clause-ends : goal.invariant_of-self-clause-ends
invariant_of-self-clause-ends g c = λ whole. c.args.self.now.ends whole ∙ ap (λ (n : ℕ). max n 1) (sym (tail_cut c.args.self.now.engine.log c.cut.new.self.log c.in-Ok.ensures.log))

pub invariant_of-self-clause-gates : goal.invariant_of-self-clause-gates
invariant_of-self-clause-gates g c = λ whole. c.args.self.now.gates whole ∙ sym (gate_cut c.args.self.now.engine.log c.cut.new.self.log c.in-Ok.ensures.log)

pub returns-in-Ok-clause-means : goal.returns-in-Ok-clause-means
returns-in-Ok-clause-means g c = λ t from m.
    let gone_is : gone_by c.and-self.result.items (λ e. g.D.Disk.view e.value) (λ x. settled x.area x.base x.gate) (λ x. x.start) ≡ (parts g.D.Disk.view c.args.self.now).past.gone ++ (records_before c.in-Ok.next.base (durable_in (g.D.Disk.view c.args.self.now.engine.disk) c.args.self.now.engine.log)) =
    ap (λ l. gone_by l (λ e. g.D.Disk.view e.value) (λ x. settled x.area x.base x.gate) (λ x. x.start)) c.and-self.ensures
    ∙ (gone_more c.args.self.now.cuts.items c.snapshot-before.result (record { area = c.area-area.result; base = c.base-base.result; gate = c.durable-gate.result; start = c.in-Ok.next.base }) (λ e. g.D.Disk.view e.value) (λ x. settled x.area x.base x.gate) (λ x. x.start)
    ∙ ((λ i. (parts g.D.Disk.view c.args.self.now).past.gone ++ records_before c.in-Ok.next.base (durable_in (g.D.Disk.view (c.snapshot-before.ensures i)) (settled (c.area-area.ensures i) (c.base-base.ensures i) (c.durable-gate.ensures i))))
    ∙ ap (λ (l : Tail). (parts g.D.Disk.view c.args.self.now).past.gone ++ records_before c.in-Ok.next.base (durable_in (g.D.Disk.view c.args.self.now.engine.disk) l)) (sym (is_settled c.args.self.now.engine.log c.requires.empty)))) in
    subst (λ (l : List Numbered). Stands (IsGiven g.D.Disk.told g.D.Presumed.presumed) c.args.self.now.failed (cut_to (parts g.D.Disk.view c.args.self.now) c.in-Ok.next l).past (g.D.Disk.view c.cut.new.self.disk) c.cut.new.self.log c.cut.new.self.pool t from) (sym gone_is) (keeps_cut (IsGiven g.D.Disk.told g.D.Presumed.presumed) (parts g.D.Disk.view c.args.self.now) (g.D.Disk.view c.cut.new.self.disk) c.cut.new.self.log c.cut.new.self.pool (none_waiting c.args.self.now.engine.log c.requires.empty) c.cut_point-point.result c.in-Some.lsn c.in-Some.is c.cut_point-point.ensures.marked (λ tell. wanted_low c.cut_point-point.result c.args.oldest (seen_by (IsGiven g.D.Disk.told g.D.Presumed.presumed) (parts g.D.Disk.view c.args.self.now)).steps (c.requires.idle tell) (c.requires.oldest tell) c.cut_point-point.ensures.begun) t from m (λ given b. (c.cut_point-point.ensures.allowed (origin_at t (parts g.D.Disk.view c.args.self.now).past) _ _ b.poised.now.engine)) c.in-Ok.next (λ given b. c.in-Ok.ensures.cuts (origin_at t (parts g.D.Disk.view c.args.self.now).past) (durable_in (g.D.Disk.view c.args.self.now.engine.disk) c.args.self.now.engine.log) given.0 refl (engine_whole (origin_at t (parts g.D.Disk.view c.args.self.now).past) (g.D.Disk.view c.args.self.now.engine.disk) c.args.self.now.engine.log c.args.self.now.engine.pool (durable_in (g.D.Disk.view c.args.self.now.engine.disk) c.args.self.now.engine.log) (none_waiting c.args.self.now.engine.log c.requires.empty) b.poised.now.engine) c.requires.empty (c.cut_point-point.ensures.allowed (origin_at t (parts g.D.Disk.view c.args.self.now).past) _ _ b.poised.now.engine)) (λ given b k early. c.in-Ok.ensures.allowed (origin_at t (parts g.D.Disk.view c.args.self.now).past) (durable_in (g.D.Disk.view c.args.self.now.engine.disk) c.args.self.now.engine.log) k given.0 refl (engine_whole (origin_at t (parts g.D.Disk.view c.args.self.now).past) (g.D.Disk.view c.args.self.now.engine.disk) c.args.self.now.engine.log c.args.self.now.engine.pool (durable_in (g.D.Disk.view c.args.self.now.engine.disk) c.args.self.now.engine.log) (none_waiting c.args.self.now.engine.log c.requires.empty) b.poised.now.engine) c.requires.empty (c.cut_point-point.ensures.allowed (origin_at t (parts g.D.Disk.view c.args.self.now).past) _ _ b.poised.now.engine) early))

pub invariant_of-self-clause-some : goal.invariant_of-self-clause-some
invariant_of-self-clause-some g c =
    let gone_is : gone_by c.and-self.result.items (λ e. g.D.Disk.view e.value) (λ x. settled x.area x.base x.gate) (λ x. x.start) ≡ (parts g.D.Disk.view c.args.self.now).past.gone ++ (records_before c.in-Ok.next.base (durable_in (g.D.Disk.view c.args.self.now.engine.disk) c.args.self.now.engine.log)) =
    ap (λ l. gone_by l (λ e. g.D.Disk.view e.value) (λ x. settled x.area x.base x.gate) (λ x. x.start)) c.and-self.ensures
    ∙ (gone_more c.args.self.now.cuts.items c.snapshot-before.result (record { area = c.area-area.result; base = c.base-base.result; gate = c.durable-gate.result; start = c.in-Ok.next.base }) (λ e. g.D.Disk.view e.value) (λ x. settled x.area x.base x.gate) (λ x. x.start)
    ∙ ((λ i. (parts g.D.Disk.view c.args.self.now).past.gone ++ records_before c.in-Ok.next.base (durable_in (g.D.Disk.view (c.snapshot-before.ensures i)) (settled (c.area-area.ensures i) (c.base-base.ensures i) (c.durable-gate.ensures i))))
    ∙ ap (λ (l : Tail). (parts g.D.Disk.view c.args.self.now).past.gone ++ records_before c.in-Ok.next.base (durable_in (g.D.Disk.view c.args.self.now.engine.disk) l)) (sym (is_settled c.args.self.now.engine.log c.requires.empty)))) in
    subst (λ (l : List Numbered). StandsForSome (IsGiven g.D.Disk.told g.D.Presumed.presumed) c.args.self.now.failed (cut_to (parts g.D.Disk.view c.args.self.now) c.in-Ok.next l).past (g.D.Disk.view c.cut.new.self.disk) c.cut.new.self.log c.cut.new.self.pool) (sym gone_is)
    (some_past (IsGiven g.D.Disk.told g.D.Presumed.presumed) c.args.self.now.failed (parts g.D.Disk.view c.args.self.now).past (without (parts g.D.Disk.view c.args.self.now) c.in-Ok.next (records_before c.in-Ok.next.base (durable_in (g.D.Disk.view c.args.self.now.engine.disk) c.args.self.now.engine.log))).past (g.D.Disk.view c.args.self.now.engine.disk) (g.D.Disk.view c.cut.new.self.disk) c.args.self.now.engine.log c.cut.new.self.log c.args.self.now.engine.pool c.cut.new.self.pool
    (λ t from m. keeps_cut (IsGiven g.D.Disk.told g.D.Presumed.presumed) (parts g.D.Disk.view c.args.self.now) (g.D.Disk.view c.cut.new.self.disk) c.cut.new.self.log c.cut.new.self.pool (none_waiting c.args.self.now.engine.log c.requires.empty) c.cut_point-point.result c.in-Some.lsn c.in-Some.is c.cut_point-point.ensures.marked (λ tell. wanted_low c.cut_point-point.result c.args.oldest (seen_by (IsGiven g.D.Disk.told g.D.Presumed.presumed) (parts g.D.Disk.view c.args.self.now)).steps (c.requires.idle tell) (c.requires.oldest tell) c.cut_point-point.ensures.begun) t from m (λ given b. (c.cut_point-point.ensures.allowed (origin_at t (parts g.D.Disk.view c.args.self.now).past) _ _ b.poised.now.engine)) c.in-Ok.next (λ given b. c.in-Ok.ensures.cuts (origin_at t (parts g.D.Disk.view c.args.self.now).past) (durable_in (g.D.Disk.view c.args.self.now.engine.disk) c.args.self.now.engine.log) given.0 refl (engine_whole (origin_at t (parts g.D.Disk.view c.args.self.now).past) (g.D.Disk.view c.args.self.now.engine.disk) c.args.self.now.engine.log c.args.self.now.engine.pool (durable_in (g.D.Disk.view c.args.self.now.engine.disk) c.args.self.now.engine.log) (none_waiting c.args.self.now.engine.log c.requires.empty) b.poised.now.engine) c.requires.empty (c.cut_point-point.ensures.allowed (origin_at t (parts g.D.Disk.view c.args.self.now).past) _ _ b.poised.now.engine)) (λ given b k early. c.in-Ok.ensures.allowed (origin_at t (parts g.D.Disk.view c.args.self.now).past) (durable_in (g.D.Disk.view c.args.self.now.engine.disk) c.args.self.now.engine.log) k given.0 refl (engine_whole (origin_at t (parts g.D.Disk.view c.args.self.now).past) (g.D.Disk.view c.args.self.now.engine.disk) c.args.self.now.engine.log c.args.self.now.engine.pool (durable_in (g.D.Disk.view c.args.self.now.engine.disk) c.args.self.now.engine.log) (none_waiting c.args.self.now.engine.log c.requires.empty) b.poised.now.engine) c.requires.empty (c.cut_point-point.ensures.allowed (origin_at t (parts g.D.Disk.view c.args.self.now).past) _ _ b.poised.now.engine) early)) c.args.self.now.some)

pub returns-in-Ok-clause-rests : goal.returns-in-Ok-clause-rests
returns-in-Ok-clause-rests g c = rests_past (IsGiven g.D.Disk.told g.D.Presumed.presumed) (seen_by (IsGiven g.D.Disk.told g.D.Presumed.presumed) (parts g.D.Disk.view c.args.self.now)) (looked (parts g.D.Disk.view c.args.self.now) (g.D.Disk.view c.cut.new.self.disk) c.cut.new.self.log c.cut.new.self.pool c.args.self.now.end c.args.self.now.gate) c.cut.new.self.log c.in-Ok.next (gone_by c.and-self.result.items (λ e. g.D.Disk.view e.value) (λ x. settled x.area x.base x.gate) (λ x. x.start)) (Ok tt)
    (rests_ok (IsGiven g.D.Disk.told g.D.Presumed.presumed) (parts g.D.Disk.view c.args.self.now) (g.D.Disk.view c.cut.new.self.disk) c.cut.new.self.log c.cut.new.self.pool tt c.in-Ok.next c.args.self.now.end c.args.self.now.gate (c.args.self.now.gates c.requires.whole) (c.args.self.now.gates c.requires.whole ∙ sym (gate_cut c.args.self.now.engine.log c.cut.new.self.log c.in-Ok.ensures.log)) (record { later = c.cut.ensures.later; heeded = c.in-Ok.ensures.heeded; hands = record { rising = c.cut.ensures.kept; grown = inr (let k = c.cut.ensures.kept in let s = gate_cut c.args.self.now.engine.log c.cut.new.self.log c.in-Ok.ensures.log in omega (arith, k, s)) }; size = ap sizes c.cut.ensures.pool }) c.requires.whole refl)

pub returns-in-Ok-clause-looks : goal.returns-in-Ok-clause-looks
returns-in-Ok-clause-looks g c = λ t from m.
    let gone_is : gone_by c.and-self.result.items (λ e. g.D.Disk.view e.value) (λ x. settled x.area x.base x.gate) (λ x. x.start) ≡ (parts g.D.Disk.view c.args.self.now).past.gone ++ (records_before c.in-Ok.next.base (durable_in (g.D.Disk.view c.args.self.now.engine.disk) c.args.self.now.engine.log)) =
    ap (λ l. gone_by l (λ e. g.D.Disk.view e.value) (λ x. settled x.area x.base x.gate) (λ x. x.start)) c.and-self.ensures
    ∙ (gone_more c.args.self.now.cuts.items c.snapshot-before.result (record { area = c.area-area.result; base = c.base-base.result; gate = c.durable-gate.result; start = c.in-Ok.next.base }) (λ e. g.D.Disk.view e.value) (λ x. settled x.area x.base x.gate) (λ x. x.start)
    ∙ ((λ i. (parts g.D.Disk.view c.args.self.now).past.gone ++ records_before c.in-Ok.next.base (durable_in (g.D.Disk.view (c.snapshot-before.ensures i)) (settled (c.area-area.ensures i) (c.base-base.ensures i) (c.durable-gate.ensures i))))
    ∙ ap (λ (l : Tail). (parts g.D.Disk.view c.args.self.now).past.gone ++ records_before c.in-Ok.next.base (durable_in (g.D.Disk.view c.args.self.now.engine.disk) l)) (sym (is_settled c.args.self.now.engine.log c.requires.empty)))) in
    subst (λ (l : List Numbered). EngineLooks (RecoversBy t) t (led from (seen_by (IsGiven g.D.Disk.told g.D.Presumed.presumed) (parts g.D.Disk.view c.args.self.now))) (led from (seen_by (IsGiven g.D.Disk.told g.D.Presumed.presumed) (cut_to (looked (parts g.D.Disk.view c.args.self.now) (g.D.Disk.view c.cut.new.self.disk) c.cut.new.self.log c.cut.new.self.pool c.args.self.now.end c.args.self.now.gate) c.in-Ok.next l))) (Ok tt)) (sym gone_is)
    (cut_looks (IsGiven g.D.Disk.told g.D.Presumed.presumed) (parts g.D.Disk.view c.args.self.now) (g.D.Disk.view c.cut.new.self.disk) c.cut.new.self.log c.cut.new.self.pool (none_waiting c.args.self.now.engine.log c.requires.empty) c.cut_point-point.result c.in-Some.lsn c.in-Some.is c.cut_point-point.ensures.marked (λ tell. wanted_low c.cut_point-point.result c.args.oldest (seen_by (IsGiven g.D.Disk.told g.D.Presumed.presumed) (parts g.D.Disk.view c.args.self.now)).steps (c.requires.idle tell) (c.requires.oldest tell) c.cut_point-point.ensures.begun) t from m (λ given b. (c.cut_point-point.ensures.allowed (origin_at t (parts g.D.Disk.view c.args.self.now).past) _ _ b.poised.now.engine)) c.in-Ok.next (λ given b. c.in-Ok.ensures.cuts (origin_at t (parts g.D.Disk.view c.args.self.now).past) (durable_in (g.D.Disk.view c.args.self.now.engine.disk) c.args.self.now.engine.log) given.0 refl (engine_whole (origin_at t (parts g.D.Disk.view c.args.self.now).past) (g.D.Disk.view c.args.self.now.engine.disk) c.args.self.now.engine.log c.args.self.now.engine.pool (durable_in (g.D.Disk.view c.args.self.now.engine.disk) c.args.self.now.engine.log) (none_waiting c.args.self.now.engine.log c.requires.empty) b.poised.now.engine) c.requires.empty (c.cut_point-point.ensures.allowed (origin_at t (parts g.D.Disk.view c.args.self.now).past) _ _ b.poised.now.engine)) (λ given b k early. c.in-Ok.ensures.allowed (origin_at t (parts g.D.Disk.view c.args.self.now).past) (durable_in (g.D.Disk.view c.args.self.now.engine.disk) c.args.self.now.engine.log) k given.0 refl (engine_whole (origin_at t (parts g.D.Disk.view c.args.self.now).past) (g.D.Disk.view c.args.self.now.engine.disk) c.args.self.now.engine.log c.args.self.now.engine.pool (durable_in (g.D.Disk.view c.args.self.now.engine.disk) c.args.self.now.engine.log) (none_waiting c.args.self.now.engine.log c.requires.empty) b.poised.now.engine) c.requires.empty (c.cut_point-point.ensures.allowed (origin_at t (parts g.D.Disk.view c.args.self.now).past) _ _ b.poised.now.engine) early) tt c.args.self.now.end c.args.self.now.gate (λ given b. c.cut.ensures.moments (origin_at t (parts g.D.Disk.view c.args.self.now).past) (durable_in (g.D.Disk.view c.args.self.now.engine.disk) c.args.self.now.engine.log) given.0 refl (engine_whole (origin_at t (parts g.D.Disk.view c.args.self.now).past) (g.D.Disk.view c.args.self.now.engine.disk) c.args.self.now.engine.log c.args.self.now.engine.pool (durable_in (g.D.Disk.view c.args.self.now.engine.disk) c.args.self.now.engine.log) (none_waiting c.args.self.now.engine.log c.requires.empty) b.poised.now.engine) c.requires.empty (c.cut_point-point.ensures.allowed (origin_at t (parts g.D.Disk.view c.args.self.now).past) _ _ b.poised.now.engine)))

pub returns-in-Ok-clause-forced : goal.returns-in-Ok-clause-forced
returns-in-Ok-clause-forced g c = λ t from m.
    let gone_is : gone_by c.and-self.result.items (λ e. g.D.Disk.view e.value) (λ x. settled x.area x.base x.gate) (λ x. x.start) ≡ (parts g.D.Disk.view c.args.self.now).past.gone ++ (records_before c.in-Ok.next.base (durable_in (g.D.Disk.view c.args.self.now.engine.disk) c.args.self.now.engine.log)) =
    ap (λ l. gone_by l (λ e. g.D.Disk.view e.value) (λ x. settled x.area x.base x.gate) (λ x. x.start)) c.and-self.ensures
    ∙ (gone_more c.args.self.now.cuts.items c.snapshot-before.result (record { area = c.area-area.result; base = c.base-base.result; gate = c.durable-gate.result; start = c.in-Ok.next.base }) (λ e. g.D.Disk.view e.value) (λ x. settled x.area x.base x.gate) (λ x. x.start)
    ∙ ((λ i. (parts g.D.Disk.view c.args.self.now).past.gone ++ records_before c.in-Ok.next.base (durable_in (g.D.Disk.view (c.snapshot-before.ensures i)) (settled (c.area-area.ensures i) (c.base-base.ensures i) (c.durable-gate.ensures i))))
    ∙ ap (λ (l : Tail). (parts g.D.Disk.view c.args.self.now).past.gone ++ records_before c.in-Ok.next.base (durable_in (g.D.Disk.view c.args.self.now.engine.disk) l)) (sym (is_settled c.args.self.now.engine.log c.requires.empty)))) in
    subst (λ (l : List Numbered). IsForced (seen_by (IsGiven g.D.Disk.told g.D.Presumed.presumed) (cut_to (looked (parts g.D.Disk.view c.args.self.now) (g.D.Disk.view c.cut.new.self.disk) c.cut.new.self.log c.cut.new.self.pool c.args.self.now.end c.args.self.now.gate) c.in-Ok.next l))) (sym gone_is)
    (cut_forced (IsGiven g.D.Disk.told g.D.Presumed.presumed) (parts g.D.Disk.view c.args.self.now) (g.D.Disk.view c.cut.new.self.disk) c.cut.new.self.log c.cut.new.self.pool (none_waiting c.args.self.now.engine.log c.requires.empty) c.cut_point-point.result c.in-Some.lsn c.in-Some.is c.cut_point-point.ensures.marked (λ tell. wanted_low c.cut_point-point.result c.args.oldest (seen_by (IsGiven g.D.Disk.told g.D.Presumed.presumed) (parts g.D.Disk.view c.args.self.now)).steps (c.requires.idle tell) (c.requires.oldest tell) c.cut_point-point.ensures.begun) t from m (λ given b. (c.cut_point-point.ensures.allowed (origin_at t (parts g.D.Disk.view c.args.self.now).past) _ _ b.poised.now.engine)) c.in-Ok.next (λ given b. c.in-Ok.ensures.cuts (origin_at t (parts g.D.Disk.view c.args.self.now).past) (durable_in (g.D.Disk.view c.args.self.now.engine.disk) c.args.self.now.engine.log) given.0 refl (engine_whole (origin_at t (parts g.D.Disk.view c.args.self.now).past) (g.D.Disk.view c.args.self.now.engine.disk) c.args.self.now.engine.log c.args.self.now.engine.pool (durable_in (g.D.Disk.view c.args.self.now.engine.disk) c.args.self.now.engine.log) (none_waiting c.args.self.now.engine.log c.requires.empty) b.poised.now.engine) c.requires.empty (c.cut_point-point.ensures.allowed (origin_at t (parts g.D.Disk.view c.args.self.now).past) _ _ b.poised.now.engine)) (λ given b k early. c.in-Ok.ensures.allowed (origin_at t (parts g.D.Disk.view c.args.self.now).past) (durable_in (g.D.Disk.view c.args.self.now.engine.disk) c.args.self.now.engine.log) k given.0 refl (engine_whole (origin_at t (parts g.D.Disk.view c.args.self.now).past) (g.D.Disk.view c.args.self.now.engine.disk) c.args.self.now.engine.log c.args.self.now.engine.pool (durable_in (g.D.Disk.view c.args.self.now.engine.disk) c.args.self.now.engine.log) (none_waiting c.args.self.now.engine.log c.requires.empty) b.poised.now.engine) c.requires.empty (c.cut_point-point.ensures.allowed (origin_at t (parts g.D.Disk.view c.args.self.now).past) _ _ b.poised.now.engine) early) c.args.self.now.end c.args.self.now.gate)

pub returns-in-Ok-clause-cuts : goal.returns-in-Ok-clause-cuts
returns-in-Ok-clause-cuts g c = λ tell.
    let low = told_low (IsGiven g.D.Disk.told g.D.Presumed.presumed) (parts g.D.Disk.view c.args.self.now) c.args.self.now.some tell (none_waiting c.args.self.now.engine.log c.requires.empty) c.in-Some.lsn c.in-Some.is in
    let e = tail_at_gate c.args.self.now.engine.log in
    is_cut _ _ _ _ _ _ _ c.in-Some.lsn c.cut_point-point.result (sym c.in-Some.is ∙ told_last (IsGiven g.D.Disk.told g.D.Presumed.presumed) (parts g.D.Disk.view c.args.self.now) c.args.self.now.some tell) (c.cut_point-point.ensures.point (omega (arith, low, e)))
    (did_cut _ _ _ _ c.cut_point-point.result (c.can_cut.ensures.above (let h = c.if-not-can_cut.false in search rules)) (∥∥₁_elim (c.args.self.now.some tell) ∥∥₁_prop (λ x. (let t = x.0 in let from = x.1 in cut_begins (IsGiven g.D.Disk.told g.D.Presumed.presumed) (parts g.D.Disk.view c.args.self.now) (g.D.Disk.view c.cut.new.self.disk) c.cut.new.self.log c.cut.new.self.pool (none_waiting c.args.self.now.engine.log c.requires.empty) c.cut_point-point.result c.in-Some.lsn c.in-Some.is c.cut_point-point.ensures.marked (λ tell. wanted_low c.cut_point-point.result c.args.oldest (seen_by (IsGiven g.D.Disk.told g.D.Presumed.presumed) (parts g.D.Disk.view c.args.self.now)).steps (c.requires.idle tell) (c.requires.oldest tell) c.cut_point-point.ensures.begun) x.0 x.1 x.2 (λ given b. (c.cut_point-point.ensures.allowed (origin_at t (parts g.D.Disk.view c.args.self.now).past) _ _ b.poised.now.engine)) c.in-Ok.next (λ given b. c.in-Ok.ensures.cuts (origin_at t (parts g.D.Disk.view c.args.self.now).past) (durable_in (g.D.Disk.view c.args.self.now.engine.disk) c.args.self.now.engine.log) given.0 refl (engine_whole (origin_at t (parts g.D.Disk.view c.args.self.now).past) (g.D.Disk.view c.args.self.now.engine.disk) c.args.self.now.engine.log c.args.self.now.engine.pool (durable_in (g.D.Disk.view c.args.self.now.engine.disk) c.args.self.now.engine.log) (none_waiting c.args.self.now.engine.log c.requires.empty) b.poised.now.engine) c.requires.empty (c.cut_point-point.ensures.allowed (origin_at t (parts g.D.Disk.view c.args.self.now).past) _ _ b.poised.now.engine)) (λ given b k early. c.in-Ok.ensures.allowed (origin_at t (parts g.D.Disk.view c.args.self.now).past) (durable_in (g.D.Disk.view c.args.self.now.engine.disk) c.args.self.now.engine.log) k given.0 refl (engine_whole (origin_at t (parts g.D.Disk.view c.args.self.now).past) (g.D.Disk.view c.args.self.now.engine.disk) c.args.self.now.engine.log c.args.self.now.engine.pool (durable_in (g.D.Disk.view c.args.self.now.engine.disk) c.args.self.now.engine.log) (none_waiting c.args.self.now.engine.log c.requires.empty) b.poised.now.engine) c.requires.empty (c.cut_point-point.ensures.allowed (origin_at t (parts g.D.Disk.view c.args.self.now).past) _ _ b.poised.now.engine) early) tell))))

pub returns-clause-rests : goal.returns-clause-rests
returns-clause-rests g c = rests_past (IsGiven g.D.Disk.told g.D.Presumed.presumed) (seen_by (IsGiven g.D.Disk.told g.D.Presumed.presumed) (parts g.D.Disk.view c.args.self.now)) (broken (parts g.D.Disk.view c.args.self.now) (g.D.Disk.view c.cut.new.self.disk) c.args.self.now.engine.log c.cut.new.self.pool c.args.self.now.tried _ c.args.self.now.full) c.cut.new.self.log c.args.self.now.superblock (parts g.D.Disk.view c.args.self.now).past.gone (Err Disk)
    (rests_err (IsGiven g.D.Disk.told g.D.Presumed.presumed) (parts g.D.Disk.view c.args.self.now) (g.D.Disk.view c.cut.new.self.disk) c.args.self.now.engine.log c.cut.new.self.pool {S = Super} _ c.requires.whole (let b = c.saturating_add-self.ensures in search rules) (let b = c.saturating_add-self.ensures in search rules) (record { later = c.cut.ensures.later; heeded = tt; hands = record { rising = c.cut.ensures.kept; grown = inr (let k = c.cut.ensures.kept in omega (arith, k)) }; size = ap sizes c.cut.ensures.pool })
    (λ tell. by_poised (IsGiven g.D.Disk.told g.D.Presumed.presumed) (parts g.D.Disk.view c.args.self.now) c.args.self.now.some (risen_prop _ _) (λ t from m b. on_err c.cut.result c.in-Err.is (c.cut.ensures.failed (origin_at t (parts g.D.Disk.view c.args.self.now).past) (durable_in (g.D.Disk.view c.args.self.now.engine.disk) c.args.self.now.engine.log) tell.tells.0 (engine_whole (origin_at t (parts g.D.Disk.view c.args.self.now).past) (g.D.Disk.view c.args.self.now.engine.disk) c.args.self.now.engine.log c.args.self.now.engine.pool (durable_in (g.D.Disk.view c.args.self.now.engine.disk) c.args.self.now.engine.log) (none_waiting c.args.self.now.engine.log c.requires.empty) b.poised.now.engine))) tell))

pub returns-clause-looks : goal.returns-clause-looks
returns-clause-looks g c = λ t from m. record {
  stays = tt;
  moments = cut_moments (IsGiven g.D.Disk.told g.D.Presumed.presumed) (parts g.D.Disk.view c.args.self.now) (g.D.Disk.view c.cut.new.self.disk) c.cut.new.self.log c.cut.new.self.pool (none_waiting c.args.self.now.engine.log c.requires.empty) c.cut_point-point.result c.in-Some.lsn c.in-Some.is c.cut_point-point.ensures.marked (λ tell. wanted_low c.cut_point-point.result c.args.oldest (seen_by (IsGiven g.D.Disk.told g.D.Presumed.presumed) (parts g.D.Disk.view c.args.self.now)).steps (c.requires.idle tell) (c.requires.oldest tell) c.cut_point-point.ensures.begun) t from m (λ given b. (c.cut_point-point.ensures.allowed (origin_at t (parts g.D.Disk.view c.args.self.now).past) _ _ b.poised.now.engine)) (broken (parts g.D.Disk.view c.args.self.now) (g.D.Disk.view c.cut.new.self.disk) c.cut.new.self.log c.cut.new.self.pool c.args.self.now.tried c.saturating_add-self.result c.args.self.now.full) refl (λ given b. c.cut.ensures.moments (origin_at t (parts g.D.Disk.view c.args.self.now).past) (durable_in (g.D.Disk.view c.args.self.now.engine.disk) c.args.self.now.engine.log) given.0 refl (engine_whole (origin_at t (parts g.D.Disk.view c.args.self.now).past) (g.D.Disk.view c.args.self.now.engine.disk) c.args.self.now.engine.log c.args.self.now.engine.pool (durable_in (g.D.Disk.view c.args.self.now.engine.disk) c.args.self.now.engine.log) (none_waiting c.args.self.now.engine.log c.requires.empty) b.poised.now.engine) c.requires.empty (c.cut_point-point.ensures.allowed (origin_at t (parts g.D.Disk.view c.args.self.now).past) _ _ b.poised.now.engine));
}

pub returns-clause-means : goal.returns-clause-means
returns-clause-means g c = λ t from m. keeps_broken (IsGiven g.D.Disk.told g.D.Presumed.presumed) (parts g.D.Disk.view c.args.self.now) (g.D.Disk.view c.cut.new.self.disk) c.cut.new.self.log c.cut.new.self.pool t from m

pub invariant_of-self-in-Err-clause-some : goal.invariant_of-self-in-Err-clause-some
invariant_of-self-in-Err-clause-some g c = some_broken (IsGiven g.D.Disk.told g.D.Presumed.presumed) (parts g.D.Disk.view c.args.self.now).past (g.D.Disk.view c.cut.new.self.disk) c.cut.new.self.log c.cut.new.self.pool
