use Rattle.sg_phys.specs.Phys.{IsGiven}
use Rattle.sg_phys.proofs.Causes.{failed_for, can_lie, can_plain, never_marks, point_low}
use Rattle.sg_phys.proofs.Seen.{not_full}
use Rattle.sg_phys_laws.proofs.Counted.{not_called}
use Rattle.sg_phys_laws.proofs.Waiting.{waits_then}
use Rattle.std.proofs.Common.{rules, ◌<◌, ◌+◌, ℕ, true, refl, sym, ap, ◌∙◌, subst, arith, max}
use Rattle.sg_pages.specs.Parts.{parts}
use Rattle.sg_log.specs.Frames.{LOG_END}
use Rattle.sg_log.specs.Held.{place_of}
use Rattle.sg_phys.proofs.Asked.{asked, formed_by}
use Rattle.sg_phys.proofs.Seen.{grows_err, grows_ok, grows_stopped, hands_none, keeps_broken, keeps_record, logs_err, logs_ok, logs_refused, logs_stopped, no_change, none_made, some_broken, some_kept}
use Rattle.sg_phys_laws.proofs.Numbers.{place_by, place_late}
use Rattle.sg_record.specs.Shown.{by, shown}
use Rattle.sg_redo.specs.Places.{changed_by}
use Rattle.std.specs.Prelude.{Err}
use Rattle.sg_space.specs.declared.space.SpaceFault.TheVariants as space
use Rattle.sg_engine.specs.declared.fault.EngineFault.TheVariants as engine
use Rattle.sg_pages.proofs.engine.PhysEngine.log.Goals as goal

pub returns-then-self-clause-grows : goal.returns-then-self-clause-grows
returns-then-self-clause-grows g c = grows_stopped (IsGiven g.D.Disk.told g.D.Presumed.presumed) (parts g.D.Disk.view c.args.self.now) _ c.if-self.true (let b = c.saturating_add-self.ensures in search rules) (let b = c.saturating_add-self.ensures in search rules) (shown c.args.r.now)

pub returns-then-self-clause-logs : goal.returns-then-self-clause-logs
returns-then-self-clause-logs g c = λ t from m. logs_stopped (IsGiven g.D.Disk.told g.D.Presumed.presumed) (parts g.D.Disk.view c.args.self.now) _ c.if-self.true (let b = c.saturating_add-self.ensures in search rules) (let b = c.saturating_add-self.ensures in search rules) (shown c.args.r.now) t from

pub returns-then-self-clause-means : goal.returns-then-self-clause-means
returns-then-self-clause-means g c = λ t from m. m

pub returns-then-is_no_step-clause-grows : goal.returns-then-is_no_step-clause-grows
returns-then-is_no_step-clause-grows g c = grows_err (IsGiven g.D.Disk.told g.D.Presumed.presumed) (parts g.D.Disk.view c.args.self.now) (g.D.Disk.view c.args.self.now.engine.disk) c.args.self.now.engine.log c.args.self.now.engine.pool {S = ℕ} (shown c.args.r.now) engine.Disk space.Disk c.place-self.result _ _ refl (not_full c.args.self.now.full c.args.self.now.failed c.args.self.now.ended c.if-self.false) (not_full c.args.self.now.full c.args.self.now.failed c.args.self.now.ended c.if-self.false) c.if-self.false (let b = c.saturating_add-self-then-is_no_step.ensures in search rules) (let b = c.saturating_add-self-then-is_no_step.ensures in search rules) (λ e. (let bad : ⊥ = cc in absurd bad)) (λ e. (let bad : ⊥ = cc in absurd bad)) (not_called (g.D.Disk.view c.args.self.now.engine.disk) c.args.self.now.engine.log c.args.self.now.engine.pool) (λ e tell. absurd (never_marks (IsGiven g.D.Disk.told g.D.Presumed.presumed) (parts g.D.Disk.view c.args.self.now) ⊥ (shown c.args.r.now) c.args.self.now.some c.requires.can (sym c.is_no_step.ensures ∙ c.if-is_no_step.true) tell))

pub returns-then-is_no_step-clause-logs : goal.returns-then-is_no_step-clause-logs
returns-then-is_no_step-clause-logs g c = λ t from m. logs_refused (IsGiven g.D.Disk.told g.D.Presumed.presumed) (parts g.D.Disk.view c.args.self.now) (g.D.Disk.view c.args.self.now.engine.disk) c.args.self.now.engine.log c.args.self.now.engine.pool t from m (shown c.args.r.now) c.place-self.result space.Disk _ (let e = c.args.self.now.ends c.if-self.false in let n = c.place-self.ensures in let l = place_late c.args.self.now.engine.log (shown c.args.r.now) in omega (arith, e, n, l)) (none_made (IsGiven g.D.Disk.told g.D.Presumed.presumed) (parts g.D.Disk.view c.args.self.now))

pub returns-then-is_no_step-clause-means : goal.returns-then-is_no_step-clause-means
returns-then-is_no_step-clause-means g c = λ t from m. keeps_broken (IsGiven g.D.Disk.told g.D.Presumed.presumed) (parts g.D.Disk.view c.args.self.now) (g.D.Disk.view c.args.self.now.engine.disk) c.args.self.now.engine.log c.args.self.now.engine.pool t from m

pub invariant_of-self-then-is_no_step-clause-some : goal.invariant_of-self-then-is_no_step-clause-some
invariant_of-self-then-is_no_step-clause-some g c = some_broken (IsGiven g.D.Disk.told g.D.Presumed.presumed) (parts g.D.Disk.view c.args.self.now).past (g.D.Disk.view c.args.self.now.engine.disk) c.args.self.now.engine.log c.args.self.now.engine.pool

pub invariant_of-self-in-Ok-clause-ends : goal.invariant_of-self-in-Ok-clause-ends
invariant_of-self-in-Ok-clause-ends g c = λ whole. c.max-self.ensures ∙ ap (λ (n : ℕ). max n 1) c.tail.ensures

pub returns-in-Ok-clause-means : goal.returns-in-Ok-clause-means
returns-in-Ok-clause-means g c = λ t from m. keeps_record (IsGiven g.D.Disk.told g.D.Presumed.presumed) (parts g.D.Disk.view c.args.self.now) (g.D.Disk.view c.log_without.new.engine.disk) c.log_without.new.engine.log c.log_without.new.engine.pool t from m (shown c.args.r.now) c.log_without.new.tried c.in-Ok.lsn (sym c.is_no_step.ensures ∙ c.if-is_no_step.false) (formed_by (IsGiven g.D.Disk.told g.D.Presumed.presumed) (parts g.D.Disk.view c.args.self.now) t ⊥ (shown c.args.r.now) c.log_without.new.tried c.if-self.false (c.requires.can t from m) (let e = c.args.self.now.ends c.if-self.false in let a = c.log_without.ensures.above in omega (arith, e, a)) (λ e. c.log_without.ensures.place (ap changed_by e) ∙ (place_by c.args.self.now.engine.log (shown c.args.r.now) ∙ ap (λ s. place_of c.args.self.now.engine.log (by 0 0 s)) e))) (λ tells p. c.in-Ok.ensures.runs _ _ _ _ tells.0 (λ given. asked (IsGiven g.D.Disk.told g.D.Presumed.presumed) (parts g.D.Disk.view c.args.self.now) t given from ⊥ (shown c.args.r.now) c.if-self.false (λ no. absurd no) (c.requires.can t from m) m tells p)) (λ tells p. c.in-Ok.ensures.logs _ _ _ _ tells.0 (λ given. asked (IsGiven g.D.Disk.told g.D.Presumed.presumed) (parts g.D.Disk.view c.args.self.now) t given from ⊥ (shown c.args.r.now) c.if-self.false (λ no. absurd no) (c.requires.can t from m) m tells p))

pub invariant_of-self-in-Ok-clause-some : goal.invariant_of-self-in-Ok-clause-some
invariant_of-self-in-Ok-clause-some g c = some_kept (IsGiven g.D.Disk.told g.D.Presumed.presumed) c.args.self.now.failed (parts g.D.Disk.view c.args.self.now).past (g.D.Disk.view c.args.self.now.engine.disk) (g.D.Disk.view c.log_without.new.engine.disk) c.args.self.now.engine.log c.log_without.new.engine.log c.args.self.now.engine.pool c.log_without.new.engine.pool (λ t from m. keeps_record (IsGiven g.D.Disk.told g.D.Presumed.presumed) (parts g.D.Disk.view c.args.self.now) (g.D.Disk.view c.log_without.new.engine.disk) c.log_without.new.engine.log c.log_without.new.engine.pool t from m (shown c.args.r.now) c.log_without.new.tried c.in-Ok.lsn (sym c.is_no_step.ensures ∙ c.if-is_no_step.false) (formed_by (IsGiven g.D.Disk.told g.D.Presumed.presumed) (parts g.D.Disk.view c.args.self.now) t ⊥ (shown c.args.r.now) c.log_without.new.tried c.if-self.false (c.requires.can t from m) (let e = c.args.self.now.ends c.if-self.false in let a = c.log_without.ensures.above in omega (arith, e, a)) (λ e. c.log_without.ensures.place (ap changed_by e) ∙ (place_by c.args.self.now.engine.log (shown c.args.r.now) ∙ ap (λ s. place_of c.args.self.now.engine.log (by 0 0 s)) e))) (λ tells p. c.in-Ok.ensures.runs _ _ _ _ tells.0 (λ given. asked (IsGiven g.D.Disk.told g.D.Presumed.presumed) (parts g.D.Disk.view c.args.self.now) t given from ⊥ (shown c.args.r.now) c.if-self.false (λ no. absurd no) (c.requires.can t from m) m tells p)) (λ tells p. c.in-Ok.ensures.logs _ _ _ _ tells.0 (λ given. asked (IsGiven g.D.Disk.told g.D.Presumed.presumed) (parts g.D.Disk.view c.args.self.now) t given from ⊥ (shown c.args.r.now) c.if-self.false (λ no. absurd no) (c.requires.can t from m) m tells p))) c.args.self.now.some

pub returns-in-Ok-clause-logs : goal.returns-in-Ok-clause-logs
returns-in-Ok-clause-logs g c = λ t from m. logs_ok (IsGiven g.D.Disk.told g.D.Presumed.presumed) (parts g.D.Disk.view c.args.self.now) (g.D.Disk.view c.log_without.new.engine.disk) c.log_without.new.engine.log c.log_without.new.engine.pool t from m (shown c.args.r.now) c.log_without.new.tried c.in-Ok.lsn c.max-self.result _ _ c.in-Ok.ensures.number (let e = c.args.self.now.ends c.if-self.false in let a = c.log_without.ensures.above in omega (arith, e, a)) (sym c.is_no_step.ensures ∙ c.if-is_no_step.false) (formed_by (IsGiven g.D.Disk.told g.D.Presumed.presumed) (parts g.D.Disk.view c.args.self.now) t ⊥ (shown c.args.r.now) c.log_without.new.tried c.if-self.false (c.requires.can t from m) (let e = c.args.self.now.ends c.if-self.false in let a = c.log_without.ensures.above in omega (arith, e, a)) (λ e. c.log_without.ensures.place (ap changed_by e) ∙ (place_by c.args.self.now.engine.log (shown c.args.r.now) ∙ ap (λ s. place_of c.args.self.now.engine.log (by 0 0 s)) e))) (λ tells p. c.in-Ok.ensures.runs _ _ _ _ tells.0 (λ given. asked (IsGiven g.D.Disk.told g.D.Presumed.presumed) (parts g.D.Disk.view c.args.self.now) t given from ⊥ (shown c.args.r.now) c.if-self.false (λ no. absurd no) (c.requires.can t from m) m tells p)) (λ tells p. c.in-Ok.ensures.logs _ _ _ _ tells.0 (λ given. asked (IsGiven g.D.Disk.told g.D.Presumed.presumed) (parts g.D.Disk.view c.args.self.now) t given from ⊥ (shown c.args.r.now) c.if-self.false (λ no. absurd no) (c.requires.can t from m) m tells p))

pub returns-in-Ok-clause-grows : goal.returns-in-Ok-clause-grows
returns-in-Ok-clause-grows g c = grows_ok (IsGiven g.D.Disk.told g.D.Presumed.presumed) (parts g.D.Disk.view c.args.self.now) (g.D.Disk.view c.log_without.new.engine.disk) c.log_without.new.engine.log c.log_without.new.engine.pool c.in-Ok.lsn (shown c.args.r.now) c.in-Ok.lsn c.max-self.result _ c.log_without.new.tried _ (c.args.self.now.gates c.if-self.false) c.durable-self.ensures c.in-Ok.ensures.counts c.if-self.false c.in-Ok.ensures.number (let e = c.args.self.now.ends c.if-self.false in let a = c.log_without.ensures.above in omega (arith, e, a)) (let b = c.in-Ok.ensures.below in let n = c.max-self.ensures ∙ ap (λ (k : ℕ). max k 1) c.tail.ensures in omega (arith, b, n)) (let e = c.args.self.now.ends c.if-self.false in let n = c.max-self.ensures ∙ ap (λ (k : ℕ). max k 1) c.tail.ensures in let h = c.in-Ok.ensures.grown in omega (arith, e, n, h)) refl c.in-Ok.ensures.within

pub returns-in-Err-clause-grows : goal.returns-in-Err-clause-grows
returns-in-Err-clause-grows g c = grows_err (IsGiven g.D.Disk.told g.D.Presumed.presumed) (parts g.D.Disk.view c.args.self.now) (g.D.Disk.view c.log_without.new.engine.disk) c.log_without.new.engine.log c.log_without.new.engine.pool (shown c.args.r.now) c.in-Err.fault _ c.log_without.new.tried _ _ c.space_fault.ensures c.is_log_end-self.ensures (not_full c.args.self.now.full c.args.self.now.failed c.args.self.now.ended c.if-self.false) c.if-self.false (let b = c.saturating_add-self-in-Err.ensures in search rules) (let b = c.saturating_add-self-in-Err.ensures in search rules) (λ e. let n = c.args.self.now.ends c.if-self.false in let k = c.log_without.ensures.near (c.in-Err.is ∙ ap Err e) in omega (arith, n, k)) (λ e. c.log_without.ensures.past (c.in-Err.is ∙ ap Err e)) c.in-Err.ensures.counts (λ e tell. failed_for (IsGiven g.D.Disk.told g.D.Presumed.presumed) (parts g.D.Disk.view c.args.self.now) c.args.self.now.some g.D.Disk.told (g.D.Disk.view c.log_without.new.engine.disk) (shown c.args.r.now) c.log_without.result (λ given. given.0) c.log_without.ensures.failed (λ t from m. can_lie (IsGiven g.D.Disk.told g.D.Presumed.presumed) (parts g.D.Disk.view c.args.self.now) t ⊥ (shown c.args.r.now) (c.requires.can t from m) tell) (c.in-Err.is ∙ ap Err e) tell)

pub returns-in-Err-clause-logs : goal.returns-in-Err-clause-logs
returns-in-Err-clause-logs g c = λ t from m. logs_err (IsGiven g.D.Disk.told g.D.Presumed.presumed) (parts g.D.Disk.view c.args.self.now) (g.D.Disk.view c.log_without.new.engine.disk) c.log_without.new.engine.log c.log_without.new.engine.pool t from m (shown c.args.r.now) c.log_without.new.tried _ c.log_without.result _ _ (let e = c.args.self.now.ends c.if-self.false in let a = c.log_without.ensures.above in omega (arith, e, a)) (sym c.is_no_step.ensures ∙ c.if-is_no_step.false) (formed_by (IsGiven g.D.Disk.told g.D.Presumed.presumed) (parts g.D.Disk.view c.args.self.now) t ⊥ (shown c.args.r.now) c.log_without.new.tried c.if-self.false (c.requires.can t from m) (let e = c.args.self.now.ends c.if-self.false in let a = c.log_without.ensures.above in omega (arith, e, a)) (λ e. c.log_without.ensures.place (ap changed_by e) ∙ (place_by c.args.self.now.engine.log (shown c.args.r.now) ∙ ap (λ s. place_of c.args.self.now.engine.log (by 0 0 s)) e))) (λ tells p. c.log_without.ensures.runs _ _ _ _ tells.0 (λ given. asked (IsGiven g.D.Disk.told g.D.Presumed.presumed) (parts g.D.Disk.view c.args.self.now) t given from ⊥ (shown c.args.r.now) c.if-self.false (λ no. absurd no) (c.requires.can t from m) m tells p))

pub returns-in-Err-clause-means : goal.returns-in-Err-clause-means
returns-in-Err-clause-means g c = λ t from m. keeps_broken (IsGiven g.D.Disk.told g.D.Presumed.presumed) (parts g.D.Disk.view c.args.self.now) (g.D.Disk.view c.log_without.new.engine.disk) c.log_without.new.engine.log c.log_without.new.engine.pool t from m

pub invariant_of-self-in-Err-clause-some : goal.invariant_of-self-in-Err-clause-some
invariant_of-self-in-Err-clause-some g c = some_broken (IsGiven g.D.Disk.told g.D.Presumed.presumed) (parts g.D.Disk.view c.args.self.now).past (g.D.Disk.view c.log_without.new.engine.disk) c.log_without.new.engine.log c.log_without.new.engine.pool

pub returns-then-is_no_step-clause-tried : goal.returns-then-is_no_step-clause-tried
returns-then-is_no_step-clause-tried g c = λ e tell. c.place-self.ensures ∙ (place_by c.args.self.now.engine.log (shown c.args.r.now) ∙ ap (λ s. place_of c.args.self.now.engine.log (by 0 0 s)) e)

pub returns-in-Ok-clause-tried : goal.returns-in-Ok-clause-tried
returns-in-Ok-clause-tried g c = λ e tell. c.log_without.ensures.place (ap changed_by e) ∙ (place_by c.args.self.now.engine.log (shown c.args.r.now) ∙ ap (λ s. place_of c.args.self.now.engine.log (by 0 0 s)) e)

pub returns-in-Err-clause-tried : goal.returns-in-Err-clause-tried
returns-in-Err-clause-tried g c = λ e tell. c.log_without.ensures.place (ap changed_by e) ∙ (place_by c.args.self.now.engine.log (shown c.args.r.now) ∙ ap (λ s. place_of c.args.self.now.engine.log (by 0 0 s)) e)

pub returns-in-Ok-clause-number : goal.returns-in-Ok-clause-number
returns-in-Ok-clause-number g c = λ e. c.in-Ok.ensures.number ∙ (c.log_without.ensures.place (ap changed_by e) ∙ (place_by c.args.self.now.engine.log (shown c.args.r.now) ∙ ap (λ s. place_of c.args.self.now.engine.log (by 0 0 s)) e))

pub returns-then-self-clause-hands : goal.returns-then-self-clause-hands
returns-then-self-clause-hands g c = λ e. hands_none _ _ _ _ _

pub returns-then-is_no_step-clause-hands : goal.returns-then-is_no_step-clause-hands
returns-then-is_no_step-clause-hands g c = λ e. hands_none _ _ _ _ _

pub returns-in-Ok-clause-hands : goal.returns-in-Ok-clause-hands
returns-in-Ok-clause-hands g c = λ e. let h = c.in-Ok.ensures.hands (no_change (shown c.args.r.now).says e) in record { most = h.most; all = h.all }

pub returns-in-Err-clause-hands : goal.returns-in-Err-clause-hands
returns-in-Err-clause-hands g c = λ e. record { most = (c.log_without.ensures.hands (no_change (shown c.args.r.now).says e)).most; all = tt }
