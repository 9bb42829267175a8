use Rattle.sg_phys.specs.Phys.{IsGiven}
use Rattle.sg_phys_laws.proofs.Waiting.{waits_then, waits_old, hands_read, on_err}
use Rattle.sg_phys.proofs.Causes.{failed_by, failed_read, page_kept}
use Rattle.sg_pool.specs.Pooled.{sizes}
use Rattle.sg_engine.proofs.Waits.{waits_forced, waits_kept}
use Rattle.sg_engine.specs.Calls.{WaitsFrame}
use Rattle.std.specs.Prelude.{Err}
use Rattle.std.proofs.Common.{rules, true, ap, ◌∙◌, arith, ℕ, max}
use Rattle.sg_pages.specs.Parts.{parts}
use Rattle.sg_log.proofs.Holding.{tail_forced}
use Rattle.sg_log.specs.Held.{tail_of}
use Rattle.sg_phys.proofs.Seen.{forced_then, keeps_broken, keeps_look, looks_err, looks_ok, looks_stopped, rests_err, rests_ok, rests_stopped, some_broken, some_kept}
use Rattle.sg_phys.specs.Phys.{looked}
use Rattle.sg_phys_laws.proofs.Poised.{rested_forced}
use Rattle.sg_pages.proofs.Marking.{forced_ends, forced_names}
use Rattle.sg_pages.proofs.engine.PhysEngine.flush.Goals as goal

pub returns-then-self-clause-rests : goal.returns-then-self-clause-rests
returns-then-self-clause-rests g c = rests_stopped (IsGiven g.D.Disk.told g.D.Presumed.presumed) (parts g.D.Disk.view c.args.self.now) _ c.if-self.true (let b = c.saturating_add-self.ensures in search rules) (let b = c.saturating_add-self.ensures in search rules)

pub returns-then-self-clause-looks : goal.returns-then-self-clause-looks
returns-then-self-clause-looks g c = λ t from m. looks_stopped (IsGiven g.D.Disk.told g.D.Presumed.presumed) (parts g.D.Disk.view c.args.self.now) _ c.if-self.true (let b = c.saturating_add-self.ensures in search rules) (let b = c.saturating_add-self.ensures in search rules) t from

pub returns-then-self-clause-means : goal.returns-then-self-clause-means
returns-then-self-clause-means g c = λ t from m. m

pub invariant_of-self-in-Ok-clause-ends : goal.invariant_of-self-in-Ok-clause-ends
invariant_of-self-in-Ok-clause-ends g c = λ whole. c.max-self.ensures ∙ ap (λ (n : ℕ). max n 1) c.tail.ensures

pub returns-in-Ok-clause-means : goal.returns-in-Ok-clause-means
returns-in-Ok-clause-means g c = λ t from m. keeps_look (IsGiven g.D.Disk.told g.D.Presumed.presumed) (parts g.D.Disk.view c.args.self.now) (g.D.Disk.view c.flush.new.self.disk) c.flush.new.self.log c.flush.new.self.pool t from m (λ o tells e. rested_forced o (g.D.Disk.view c.args.self.now.engine.disk) (g.D.Disk.view c.flush.new.self.disk) c.args.self.now.engine.log c.flush.new.self.log c.args.self.now.engine.pool c.flush.new.self.pool _ _ (c.in-Ok.ensures.goes_on o _ _ tells.0 e) (λ k early. c.in-Ok.ensures.allowed o _ _ k tells.0 e early))

pub invariant_of-self-in-Ok-clause-some : goal.invariant_of-self-in-Ok-clause-some
invariant_of-self-in-Ok-clause-some g c = some_kept (IsGiven g.D.Disk.told g.D.Presumed.presumed) c.args.self.now.failed (parts g.D.Disk.view c.args.self.now).past (g.D.Disk.view c.args.self.now.engine.disk) (g.D.Disk.view c.flush.new.self.disk) c.args.self.now.engine.log c.flush.new.self.log c.args.self.now.engine.pool c.flush.new.self.pool (λ t from m. keeps_look (IsGiven g.D.Disk.told g.D.Presumed.presumed) (parts g.D.Disk.view c.args.self.now) (g.D.Disk.view c.flush.new.self.disk) c.flush.new.self.log c.flush.new.self.pool t from m (λ o tells e. rested_forced o (g.D.Disk.view c.args.self.now.engine.disk) (g.D.Disk.view c.flush.new.self.disk) c.args.self.now.engine.log c.flush.new.self.log c.args.self.now.engine.pool c.flush.new.self.pool _ _ (c.in-Ok.ensures.goes_on o _ _ tells.0 e) (λ k early. c.in-Ok.ensures.allowed o _ _ k tells.0 e early))) c.args.self.now.some

pub returns-in-Ok-clause-rests : goal.returns-in-Ok-clause-rests
returns-in-Ok-clause-rests g c = rests_ok (IsGiven g.D.Disk.told g.D.Presumed.presumed) (parts g.D.Disk.view c.args.self.now) (g.D.Disk.view c.flush.new.self.disk) c.flush.new.self.log c.flush.new.self.pool {S = Unit {0}} _ tt c.max-self.result _ (c.args.self.now.gates c.if-self.false) c.durable-self.ensures (record { later = c.flush.ensures.later; heeded = c.in-Ok.ensures.heeded; hands = c.flush.ensures.grown; size = c.flush.ensures.size }) c.if-self.false (let e = c.args.self.now.ends c.if-self.false in let n = c.max-self.ensures ∙ ap (λ (k : ℕ). max k 1) c.tail.ensures in let k = ap tail_of c.in-Ok.ensures.log ∙ tail_forced c.args.self.now.engine.log in omega (arith, e, n, k))

pub returns-in-Ok-clause-looks : goal.returns-in-Ok-clause-looks
returns-in-Ok-clause-looks g c = λ t from m. looks_ok (IsGiven g.D.Disk.told g.D.Presumed.presumed) (parts g.D.Disk.view c.args.self.now) (g.D.Disk.view c.flush.new.self.disk) c.flush.new.self.log c.flush.new.self.pool t from m _ c.max-self.result _ (λ o tells e. rested_forced o (g.D.Disk.view c.args.self.now.engine.disk) (g.D.Disk.view c.flush.new.self.disk) c.args.self.now.engine.log c.flush.new.self.log c.args.self.now.engine.pool c.flush.new.self.pool _ _ (c.in-Ok.ensures.goes_on o _ _ tells.0 e) (λ k early. c.in-Ok.ensures.allowed o _ _ k tells.0 e early)) (λ o tells e k early. c.flush.ensures.moments o _ _ k tells.0 e early)

pub returns-in-Ok-clause-forced : goal.returns-in-Ok-clause-forced
returns-in-Ok-clause-forced g c = λ t from m. forced_then (IsGiven g.D.Disk.told g.D.Presumed.presumed) (parts g.D.Disk.view c.args.self.now) (looked (parts g.D.Disk.view c.args.self.now) (g.D.Disk.view c.flush.new.self.disk) c.flush.new.self.log c.flush.new.self.pool c.max-self.result c.durable-self.result) t from m (λ s. s) (λ o ds ps given. c.in-Ok.ensures.goes_on o ds ps given.0)

pub returns-in-Err-clause-rests : goal.returns-in-Err-clause-rests
returns-in-Err-clause-rests g c = rests_err (IsGiven g.D.Disk.told g.D.Presumed.presumed) (parts g.D.Disk.view c.args.self.now) (g.D.Disk.view c.flush.new.self.disk) c.flush.new.self.log c.flush.new.self.pool {S = Unit {0}} _ c.if-self.false (let b = c.saturating_add-self-in-Err.ensures in search rules) (let b = c.saturating_add-self-in-Err.ensures in search rules) (record { later = c.flush.ensures.later; heeded = tt; hands = c.flush.ensures.grown; size = c.flush.ensures.size }) (λ tell. c.flush.ensures.failed (c.in-Err.is ∙ ap Err c.in-Err.ensures.fault))

pub returns-in-Err-clause-looks : goal.returns-in-Err-clause-looks
returns-in-Err-clause-looks g c = λ t from m. looks_err (IsGiven g.D.Disk.told g.D.Presumed.presumed) (parts g.D.Disk.view c.args.self.now) (g.D.Disk.view c.flush.new.self.disk) c.flush.new.self.log c.flush.new.self.pool t from m _ (λ o tells e k early. c.flush.ensures.moments o _ _ k tells.0 e early)

pub returns-in-Err-clause-means : goal.returns-in-Err-clause-means
returns-in-Err-clause-means g c = λ t from m. keeps_broken (IsGiven g.D.Disk.told g.D.Presumed.presumed) (parts g.D.Disk.view c.args.self.now) (g.D.Disk.view c.flush.new.self.disk) c.flush.new.self.log c.flush.new.self.pool t from m

pub invariant_of-self-in-Err-clause-some : goal.invariant_of-self-in-Err-clause-some
invariant_of-self-in-Err-clause-some g c = some_broken (IsGiven g.D.Disk.told g.D.Presumed.presumed) (parts g.D.Disk.view c.args.self.now).past (g.D.Disk.view c.flush.new.self.disk) c.flush.new.self.log c.flush.new.self.pool

pub returns-in-Ok-clause-marked : goal.returns-in-Ok-clause-marked
returns-in-Ok-clause-marked g c = forced_ends (IsGiven g.D.Disk.told g.D.Presumed.presumed) (parts g.D.Disk.view c.args.self.now) (g.D.Disk.view c.flush.new.self.disk) c.flush.new.self.log c.flush.new.self.pool c.args.self.now.some
    (λ o ds ps given e. c.in-Ok.ensures.goes_on o ds ps given.0 e) (λ o ds ps k given e early. c.in-Ok.ensures.allowed o ds ps k given.0 e early)

pub returns-in-Ok-clause-names : goal.returns-in-Ok-clause-names
returns-in-Ok-clause-names g c = forced_names (IsGiven g.D.Disk.told g.D.Presumed.presumed) (parts g.D.Disk.view c.args.self.now) (g.D.Disk.view c.flush.new.self.disk) c.flush.new.self.log c.flush.new.self.pool c.args.self.now.some
    (λ o ds ps given e. c.in-Ok.ensures.goes_on o ds ps given.0 e)
