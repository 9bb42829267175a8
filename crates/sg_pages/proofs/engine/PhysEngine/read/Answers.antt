use Rattle.sg_phys.specs.Phys.{IsGiven}
use Rattle.sg_phys_laws.proofs.Waiting.{waits_then, waits_old, hands_read, on_err}
use Rattle.sg_phys.proofs.Behind.{step_kept}
use Rattle.sg_phys.proofs.Causes.{failed_by, failed_read, page_kept, step_here}
use Rattle.sg_pool.specs.Pooled.{sizes}
use Rattle.sg_engine.proofs.Waits.{waits_forced, waits_kept}
use Rattle.sg_engine.specs.Calls.{WaitsFrame}
use Rattle.std.specs.Prelude.{Err}
use Rattle.std.proofs.Common.{rules, true, ap, arith, ℕ, max, ◌∙◌}
use Rattle.sg_pages.specs.Parts.{parts}
use Rattle.sg_log.specs.Held.{tail_of}
use Rattle.sg_phys.proofs.Seen.{keeps_broken, keeps_look, looks_err, looks_ok, looks_stopped, rests_err, rests_ok, rests_stopped, some_broken, some_kept}
use Rattle.sg_phys_laws.proofs.Poised.{rested_same}
use Rattle.sg_phys_laws.proofs.ReadBack.{parse_text, read_step}
use Rattle.sg_phys_laws.proofs.Sets.{step_option_set}
use mathlib.Core.Logic.{∥∥₁_elim}
use Rattle.sg_pages.proofs.engine.PhysEngine.read.Goals as goal

pub returns-then-self-clause-rests : goal.returns-then-self-clause-rests
returns-then-self-clause-rests g c = rests_stopped (IsGiven g.D.Disk.told g.D.Presumed.presumed) (parts g.D.Disk.view c.args.self.now) _ c.if-self.true (let b = c.saturating_add-self.ensures in search rules) (let b = c.saturating_add-self.ensures in search rules)

pub returns-then-self-clause-looks : goal.returns-then-self-clause-looks
returns-then-self-clause-looks g c = λ t from m. looks_stopped (IsGiven g.D.Disk.told g.D.Presumed.presumed) (parts g.D.Disk.view c.args.self.now) _ c.if-self.true (let b = c.saturating_add-self.ensures in search rules) (let b = c.saturating_add-self.ensures in search rules) t from

pub returns-then-self-clause-means : goal.returns-then-self-clause-means
returns-then-self-clause-means g c = λ t from m. m

pub invariant_of-self-in-Ok-clause-ends : goal.invariant_of-self-in-Ok-clause-ends
invariant_of-self-in-Ok-clause-ends g c = λ whole. c.max-self.ensures ∙ ap (λ (n : ℕ). max n 1) c.tail.ensures

pub returns-in-Ok-clause-means : goal.returns-in-Ok-clause-means
returns-in-Ok-clause-means g c = λ t from m. keeps_look (IsGiven g.D.Disk.told g.D.Presumed.presumed) (parts g.D.Disk.view c.args.self.now) (g.D.Disk.view c.read.new.self.disk) c.read.new.self.log c.read.new.self.pool t from m (λ o tells e. rested_same o (g.D.Disk.view c.args.self.now.engine.disk) (g.D.Disk.view c.read.new.self.disk) c.args.self.now.engine.log c.read.new.self.log c.args.self.now.engine.pool c.read.new.self.pool _ _ (c.read.ensures.goes_on o _ _ tells.0 e) (λ k early. c.read.ensures.allowed o k tells.0 early))

pub invariant_of-self-in-Ok-clause-some : goal.invariant_of-self-in-Ok-clause-some
invariant_of-self-in-Ok-clause-some g c = some_kept (IsGiven g.D.Disk.told g.D.Presumed.presumed) c.args.self.now.failed (parts g.D.Disk.view c.args.self.now).past (g.D.Disk.view c.args.self.now.engine.disk) (g.D.Disk.view c.read.new.self.disk) c.args.self.now.engine.log c.read.new.self.log c.args.self.now.engine.pool c.read.new.self.pool (λ t from m. keeps_look (IsGiven g.D.Disk.told g.D.Presumed.presumed) (parts g.D.Disk.view c.args.self.now) (g.D.Disk.view c.read.new.self.disk) c.read.new.self.log c.read.new.self.pool t from m (λ o tells e. rested_same o (g.D.Disk.view c.args.self.now.engine.disk) (g.D.Disk.view c.read.new.self.disk) c.args.self.now.engine.log c.read.new.self.log c.args.self.now.engine.pool c.read.new.self.pool _ _ (c.read.ensures.goes_on o _ _ tells.0 e) (λ k early. c.read.ensures.allowed o k tells.0 early))) c.args.self.now.some

pub returns-in-Ok-clause-rests : goal.returns-in-Ok-clause-rests
returns-in-Ok-clause-rests g c = rests_ok (IsGiven g.D.Disk.told g.D.Presumed.presumed) (parts g.D.Disk.view c.args.self.now) (g.D.Disk.view c.read.new.self.disk) c.read.new.self.log c.read.new.self.pool _ c.in-Ok.size c.max-self.result _ (c.args.self.now.gates c.if-self.false) c.durable-self.ensures (record { later = c.read.ensures.later; heeded = c.in-Ok.ensures.heeded; hands = hands_read c.read.ensures.handed c.read.ensures.kept.0; size = ap sizes c.read.ensures.kept.1 }) c.if-self.false (let e = c.args.self.now.ends c.if-self.false in let n = c.max-self.ensures ∙ ap (λ (k : ℕ). max k 1) c.tail.ensures in let k = ap tail_of c.read.ensures.kept.0 in omega (arith, e, n, k))

pub returns-in-Ok-clause-looks : goal.returns-in-Ok-clause-looks
returns-in-Ok-clause-looks g c = λ t from m. looks_ok (IsGiven g.D.Disk.told g.D.Presumed.presumed) (parts g.D.Disk.view c.args.self.now) (g.D.Disk.view c.read.new.self.disk) c.read.new.self.log c.read.new.self.pool t from m _ c.max-self.result _ (λ o tells e. rested_same o (g.D.Disk.view c.args.self.now.engine.disk) (g.D.Disk.view c.read.new.self.disk) c.args.self.now.engine.log c.read.new.self.log c.args.self.now.engine.pool c.read.new.self.pool _ _ (c.read.ensures.goes_on o _ _ tells.0 e) (λ k early. c.read.ensures.allowed o k tells.0 early)) (λ o tells e k early. c.read.ensures.moments o _ _ k tells.0 e early)

pub returns-in-Err-clause-rests : goal.returns-in-Err-clause-rests
returns-in-Err-clause-rests g c = rests_err (IsGiven g.D.Disk.told g.D.Presumed.presumed) (parts g.D.Disk.view c.args.self.now) (g.D.Disk.view c.read.new.self.disk) c.read.new.self.log c.read.new.self.pool {S = ℕ} _ c.if-self.false (let b = c.saturating_add-self-in-Err.ensures in search rules) (let b = c.saturating_add-self-in-Err.ensures in search rules) (record { later = c.read.ensures.later; heeded = tt; hands = hands_read c.read.ensures.handed c.read.ensures.kept.0; size = ap sizes c.read.ensures.kept.1 }) (failed_read (IsGiven g.D.Disk.told g.D.Presumed.presumed) (parts g.D.Disk.view c.args.self.now) c.args.self.now.some (g.D.Disk.view c.read.new.self.disk) c.args.at (λ o ds ps r given e stands. on_err c.read.result c.in-Err.is (c.read.ensures.failed o ds ps r given.0 e stands)) c.requires.there c.requires.kept)

pub returns-in-Err-clause-looks : goal.returns-in-Err-clause-looks
returns-in-Err-clause-looks g c = λ t from m. looks_err (IsGiven g.D.Disk.told g.D.Presumed.presumed) (parts g.D.Disk.view c.args.self.now) (g.D.Disk.view c.read.new.self.disk) c.read.new.self.log c.read.new.self.pool t from m _ (λ o tells e k early. c.read.ensures.moments o _ _ k tells.0 e early)

pub returns-in-Err-clause-means : goal.returns-in-Err-clause-means
returns-in-Err-clause-means g c = λ t from m. keeps_broken (IsGiven g.D.Disk.told g.D.Presumed.presumed) (parts g.D.Disk.view c.args.self.now) (g.D.Disk.view c.read.new.self.disk) c.read.new.self.log c.read.new.self.pool t from m

pub invariant_of-self-in-Err-clause-some : goal.invariant_of-self-in-Err-clause-some
invariant_of-self-in-Err-clause-some g c = some_broken (IsGiven g.D.Disk.told g.D.Presumed.presumed) (parts g.D.Disk.view c.args.self.now).past (g.D.Disk.view c.read.new.self.disk) c.read.new.self.log c.read.new.self.pool

pub returns-in-Ok-clause-read : goal.returns-in-Ok-clause-read
returns-in-Ok-clause-read g c = λ t from m told. record {
  what = c.in-Ok.ensures.is_record.is;
  is = parse_text _ _ c.in-Ok.ensures.is_record;
  step = ∥∥₁_elim m.known (step_option_set _ _) (λ s.
      let q = s told.whole told.tells in
      step_kept _ _ _ c.args.at (c.requires.kept told) q.below
      ∙ read_step _ _ _ _ _ _ _ c.in-Ok.ensures.is_record q.poised.now.engine.engine.held
      (step_here (IsGiven g.D.Disk.told g.D.Presumed.presumed) (parts g.D.Disk.view c.args.self.now) c.args.self.now.some t from q c.args.at (c.requires.kept told) (c.requires.there told))
      (λ r stands. c.in-Ok.ensures.record _ _ _ r told.tells.0 q.poised.now.engine stands));
}
