use Rattle.sg_phys.specs.Phys.{IsGiven}
use Rattle.sg_phys.proofs.Causes.{failed_for, can_lie, can_plain, never_marks, point_low}
use Rattle.sg_phys.proofs.Seen.{not_full}
use Rattle.sg_phys_laws.proofs.Counted.{not_called}
use Rattle.sg_phys_laws.proofs.Waiting.{waits_then}
use Rattle.std.proofs.Common.{rules, ◌<◌, ◌+◌, ℕ, true, refl, sym, ap, ◌∙◌, subst, arith, max}
use Rattle.sg_pages.specs.Parts.{parts}
use Rattle.sg_log.specs.Frames.{LOG_END}
use Rattle.sg_log.specs.Held.{place_of}
use Rattle.sg_phys.proofs.Asked.{asked, formed_by}
use Rattle.sg_phys.proofs.Seen.{grows_err, grows_ok, grows_stopped, keeps_broken, keeps_record, logs_err, logs_ok, logs_refused, logs_stopped, none_made, some_broken, some_kept_by}
use Rattle.sg_phys_laws.proofs.Numbers.{place_by, place_late}
use Rattle.sg_record.specs.Shown.{by, shown}
use Rattle.sg_redo.specs.Places.{changed_by}
use Rattle.std.specs.Prelude.{Err}
use Rattle.sg_space.specs.declared.space.SpaceFault.TheVariants as space
use Rattle.sg_engine.specs.declared.fault.EngineFault.TheVariants as engine
use Rattle.sg_pages.proofs.engine.PhysEngine.log_by.Goals as goal

pub returns-then-self-clause-grows : goal.returns-then-self-clause-grows
returns-then-self-clause-grows g c = grows_stopped (IsGiven g.D.Disk.told g.D.Presumed.presumed) (parts g.D.Disk.view c.args.self.now) _ c.if-self.true (let b = c.saturating_add-self.ensures in search rules) (let b = c.saturating_add-self.ensures in search rules) (shown c.args.r.now)

pub returns-then-self-clause-logs : goal.returns-then-self-clause-logs
returns-then-self-clause-logs g c = λ from m. logs_stopped (IsGiven g.D.Disk.told g.D.Presumed.presumed) (parts g.D.Disk.view c.args.self.now) _ c.if-self.true (let b = c.saturating_add-self.ensures in search rules) (let b = c.saturating_add-self.ensures in search rules) (shown c.args.r.now) _ from

pub returns-then-self-clause-means : goal.returns-then-self-clause-means
returns-then-self-clause-means g c = λ from m. m

pub returns-then-is_no_step-clause-grows : goal.returns-then-is_no_step-clause-grows
returns-then-is_no_step-clause-grows g c = grows_err (IsGiven g.D.Disk.told g.D.Presumed.presumed) (parts g.D.Disk.view c.args.self.now) (g.D.Disk.view c.args.self.now.engine.disk) c.args.self.now.engine.log c.args.self.now.engine.pool {S = ℕ} (shown c.args.r.now) engine.Disk space.Disk c.place-self.result _ _ refl (not_full c.args.self.now.full c.args.self.now.failed c.args.self.now.ended c.if-self.false) (not_full c.args.self.now.full c.args.self.now.failed c.args.self.now.ended c.if-self.false) c.if-self.false (let b = c.saturating_add-self-then-is_no_step.ensures in search rules) (let b = c.saturating_add-self-then-is_no_step.ensures in search rules) (λ e. (let bad : ⊥ = cc in absurd bad)) (λ e. (let bad : ⊥ = cc in absurd bad)) (not_called (g.D.Disk.view c.args.self.now.engine.disk) c.args.self.now.engine.log c.args.self.now.engine.pool) (λ e tell. absurd (can_plain (IsGiven g.D.Disk.told g.D.Presumed.presumed) (parts g.D.Disk.view c.args.self.now) _ _ (shown c.args.r.now) c.requires.can (sym c.is_no_step.ensures ∙ c.if-is_no_step.true) tell))

pub returns-then-is_no_step-clause-logs : goal.returns-then-is_no_step-clause-logs
returns-then-is_no_step-clause-logs g c = λ from m. logs_refused (IsGiven g.D.Disk.told g.D.Presumed.presumed) (parts g.D.Disk.view c.args.self.now) (g.D.Disk.view c.args.self.now.engine.disk) c.args.self.now.engine.log c.args.self.now.engine.pool _ from m (shown c.args.r.now) c.place-self.result space.Disk _ (let e = c.args.self.now.ends c.if-self.false in let n = c.place-self.ensures in let l = place_late c.args.self.now.engine.log (shown c.args.r.now) in omega (arith, e, n, l)) (none_made (IsGiven g.D.Disk.told g.D.Presumed.presumed) (parts g.D.Disk.view c.args.self.now))

pub returns-then-is_no_step-clause-means : goal.returns-then-is_no_step-clause-means
returns-then-is_no_step-clause-means g c = λ from m. keeps_broken (IsGiven g.D.Disk.told g.D.Presumed.presumed) (parts g.D.Disk.view c.args.self.now) (g.D.Disk.view c.args.self.now.engine.disk) c.args.self.now.engine.log c.args.self.now.engine.pool _ from m

pub invariant_of-self-then-is_no_step-clause-some : goal.invariant_of-self-then-is_no_step-clause-some
invariant_of-self-then-is_no_step-clause-some g c = some_broken (IsGiven g.D.Disk.told g.D.Presumed.presumed) (parts g.D.Disk.view c.args.self.now).past (g.D.Disk.view c.args.self.now.engine.disk) c.args.self.now.engine.log c.args.self.now.engine.pool

pub invariant_of-self-in-Ok-clause-ends : goal.invariant_of-self-in-Ok-clause-ends
invariant_of-self-in-Ok-clause-ends g c = λ whole. c.max-self.ensures ∙ ap (λ (n : ℕ). max n 1) c.tail.ensures

pub returns-in-Ok-clause-means : goal.returns-in-Ok-clause-means
returns-in-Ok-clause-means g c = λ from m. keeps_record (IsGiven g.D.Disk.told g.D.Presumed.presumed) (parts g.D.Disk.view c.args.self.now) (g.D.Disk.view c.log_record.new.engine.disk) c.log_record.new.engine.log c.log_record.new.engine.pool _ from m (shown c.args.r.now) c.log_record.new.tried c.in-Ok.lsn (sym c.is_no_step.ensures ∙ c.if-is_no_step.false) (formed_by (IsGiven g.D.Disk.told g.D.Presumed.presumed) (parts g.D.Disk.view c.args.self.now) _ _ (shown c.args.r.now) c.log_record.new.tried c.if-self.false c.requires.can (let e = c.args.self.now.ends c.if-self.false in let a = c.log_record.ensures.above in omega (arith, e, a)) (λ e. c.log_record.ensures.place (ap changed_by e) ∙ (place_by c.args.self.now.engine.log (shown c.args.r.now) ∙ ap (λ s. place_of c.args.self.now.engine.log (by 0 0 s)) e))) (λ tells p. c.in-Ok.ensures.runs _ _ _ _ tells.0 (asked (IsGiven g.D.Disk.told g.D.Presumed.presumed) (parts g.D.Disk.view c.args.self.now) _ _ from _ (shown c.args.r.now) c.if-self.false (λ same. refl) c.requires.can m tells p)) (λ tells p. c.in-Ok.ensures.logs _ _ _ _ tells.0 (asked (IsGiven g.D.Disk.told g.D.Presumed.presumed) (parts g.D.Disk.view c.args.self.now) _ _ from _ (shown c.args.r.now) c.if-self.false (λ same. refl) c.requires.can m tells p))

pub invariant_of-self-in-Ok-clause-some : goal.invariant_of-self-in-Ok-clause-some
invariant_of-self-in-Ok-clause-some g c = some_kept_by (IsGiven g.D.Disk.told g.D.Presumed.presumed) c.args.self.now.failed (parts g.D.Disk.view c.args.self.now).past (g.D.Disk.view c.args.self.now.engine.disk) (g.D.Disk.view c.log_record.new.engine.disk) c.args.self.now.engine.log c.log_record.new.engine.log c.args.self.now.engine.pool c.log_record.new.engine.pool _ (λ from m. keeps_record (IsGiven g.D.Disk.told g.D.Presumed.presumed) (parts g.D.Disk.view c.args.self.now) (g.D.Disk.view c.log_record.new.engine.disk) c.log_record.new.engine.log c.log_record.new.engine.pool _ from m (shown c.args.r.now) c.log_record.new.tried c.in-Ok.lsn (sym c.is_no_step.ensures ∙ c.if-is_no_step.false) (formed_by (IsGiven g.D.Disk.told g.D.Presumed.presumed) (parts g.D.Disk.view c.args.self.now) _ _ (shown c.args.r.now) c.log_record.new.tried c.if-self.false c.requires.can (let e = c.args.self.now.ends c.if-self.false in let a = c.log_record.ensures.above in omega (arith, e, a)) (λ e. c.log_record.ensures.place (ap changed_by e) ∙ (place_by c.args.self.now.engine.log (shown c.args.r.now) ∙ ap (λ s. place_of c.args.self.now.engine.log (by 0 0 s)) e))) (λ tells p. c.in-Ok.ensures.runs _ _ _ _ tells.0 (asked (IsGiven g.D.Disk.told g.D.Presumed.presumed) (parts g.D.Disk.view c.args.self.now) _ _ from _ (shown c.args.r.now) c.if-self.false (λ same. refl) c.requires.can m tells p)) (λ tells p. c.in-Ok.ensures.logs _ _ _ _ tells.0 (asked (IsGiven g.D.Disk.told g.D.Presumed.presumed) (parts g.D.Disk.view c.args.self.now) _ _ from _ (shown c.args.r.now) c.if-self.false (λ same. refl) c.requires.can m tells p))) c.requires.by

pub returns-in-Ok-clause-logs : goal.returns-in-Ok-clause-logs
returns-in-Ok-clause-logs g c = λ from m. logs_ok (IsGiven g.D.Disk.told g.D.Presumed.presumed) (parts g.D.Disk.view c.args.self.now) (g.D.Disk.view c.log_record.new.engine.disk) c.log_record.new.engine.log c.log_record.new.engine.pool _ from m (shown c.args.r.now) c.log_record.new.tried c.in-Ok.lsn c.max-self.result _ _ c.in-Ok.ensures.number (let e = c.args.self.now.ends c.if-self.false in let a = c.log_record.ensures.above in omega (arith, e, a)) (sym c.is_no_step.ensures ∙ c.if-is_no_step.false) (formed_by (IsGiven g.D.Disk.told g.D.Presumed.presumed) (parts g.D.Disk.view c.args.self.now) _ _ (shown c.args.r.now) c.log_record.new.tried c.if-self.false c.requires.can (let e = c.args.self.now.ends c.if-self.false in let a = c.log_record.ensures.above in omega (arith, e, a)) (λ e. c.log_record.ensures.place (ap changed_by e) ∙ (place_by c.args.self.now.engine.log (shown c.args.r.now) ∙ ap (λ s. place_of c.args.self.now.engine.log (by 0 0 s)) e))) (λ tells p. c.in-Ok.ensures.runs _ _ _ _ tells.0 (asked (IsGiven g.D.Disk.told g.D.Presumed.presumed) (parts g.D.Disk.view c.args.self.now) _ _ from _ (shown c.args.r.now) c.if-self.false (λ same. refl) c.requires.can m tells p)) (λ tells p. c.in-Ok.ensures.logs _ _ _ _ tells.0 (asked (IsGiven g.D.Disk.told g.D.Presumed.presumed) (parts g.D.Disk.view c.args.self.now) _ _ from _ (shown c.args.r.now) c.if-self.false (λ same. refl) c.requires.can m tells p))

pub returns-in-Ok-clause-grows : goal.returns-in-Ok-clause-grows
returns-in-Ok-clause-grows g c = grows_ok (IsGiven g.D.Disk.told g.D.Presumed.presumed) (parts g.D.Disk.view c.args.self.now) (g.D.Disk.view c.log_record.new.engine.disk) c.log_record.new.engine.log c.log_record.new.engine.pool c.in-Ok.lsn (shown c.args.r.now) c.in-Ok.lsn c.max-self.result _ c.log_record.new.tried _ (c.args.self.now.gates c.if-self.false) c.durable-self.ensures c.in-Ok.ensures.counts c.if-self.false c.in-Ok.ensures.number (let e = c.args.self.now.ends c.if-self.false in let a = c.log_record.ensures.above in omega (arith, e, a)) (let b = c.in-Ok.ensures.below in let n = c.max-self.ensures ∙ ap (λ (k : ℕ). max k 1) c.tail.ensures in omega (arith, b, n)) (let e = c.args.self.now.ends c.if-self.false in let n = c.max-self.ensures ∙ ap (λ (k : ℕ). max k 1) c.tail.ensures in let h = c.in-Ok.ensures.grown in omega (arith, e, n, h)) refl c.in-Ok.ensures.within

pub returns-in-Err-clause-grows : goal.returns-in-Err-clause-grows
returns-in-Err-clause-grows g c = grows_err (IsGiven g.D.Disk.told g.D.Presumed.presumed) (parts g.D.Disk.view c.args.self.now) (g.D.Disk.view c.log_record.new.engine.disk) c.log_record.new.engine.log c.log_record.new.engine.pool (shown c.args.r.now) c.in-Err.fault _ c.log_record.new.tried _ _ c.space_fault.ensures c.is_log_end-self.ensures (not_full c.args.self.now.full c.args.self.now.failed c.args.self.now.ended c.if-self.false) c.if-self.false (let b = c.saturating_add-self-in-Err.ensures in search rules) (let b = c.saturating_add-self-in-Err.ensures in search rules) (λ e. let n = c.args.self.now.ends c.if-self.false in let k = c.log_record.ensures.near (c.in-Err.is ∙ ap Err e) in omega (arith, n, k)) (λ e. c.log_record.ensures.past (c.in-Err.is ∙ ap Err e)) c.in-Err.ensures.counts (λ e tell. failed_for (IsGiven g.D.Disk.told g.D.Presumed.presumed) (parts g.D.Disk.view c.args.self.now) c.args.self.now.some g.D.Disk.told (g.D.Disk.view c.log_record.new.engine.disk) (shown c.args.r.now) c.log_record.result (λ given. given.0) c.log_record.ensures.failed (λ t from m. can_lie (IsGiven g.D.Disk.told g.D.Presumed.presumed) (parts g.D.Disk.view c.args.self.now) _ _ (shown c.args.r.now) c.requires.can tell) (c.in-Err.is ∙ ap Err e) tell)

pub returns-in-Err-clause-logs : goal.returns-in-Err-clause-logs
returns-in-Err-clause-logs g c = λ from m. logs_err (IsGiven g.D.Disk.told g.D.Presumed.presumed) (parts g.D.Disk.view c.args.self.now) (g.D.Disk.view c.log_record.new.engine.disk) c.log_record.new.engine.log c.log_record.new.engine.pool _ from m (shown c.args.r.now) c.log_record.new.tried _ c.log_record.result _ _ (let e = c.args.self.now.ends c.if-self.false in let a = c.log_record.ensures.above in omega (arith, e, a)) (sym c.is_no_step.ensures ∙ c.if-is_no_step.false) (formed_by (IsGiven g.D.Disk.told g.D.Presumed.presumed) (parts g.D.Disk.view c.args.self.now) _ _ (shown c.args.r.now) c.log_record.new.tried c.if-self.false c.requires.can (let e = c.args.self.now.ends c.if-self.false in let a = c.log_record.ensures.above in omega (arith, e, a)) (λ e. c.log_record.ensures.place (ap changed_by e) ∙ (place_by c.args.self.now.engine.log (shown c.args.r.now) ∙ ap (λ s. place_of c.args.self.now.engine.log (by 0 0 s)) e))) (λ tells p. c.log_record.ensures.runs _ _ _ _ tells.0 (asked (IsGiven g.D.Disk.told g.D.Presumed.presumed) (parts g.D.Disk.view c.args.self.now) _ _ from _ (shown c.args.r.now) c.if-self.false (λ same. refl) c.requires.can m tells p))

pub returns-in-Err-clause-means : goal.returns-in-Err-clause-means
returns-in-Err-clause-means g c = λ from m. keeps_broken (IsGiven g.D.Disk.told g.D.Presumed.presumed) (parts g.D.Disk.view c.args.self.now) (g.D.Disk.view c.log_record.new.engine.disk) c.log_record.new.engine.log c.log_record.new.engine.pool _ from m

pub invariant_of-self-in-Err-clause-some : goal.invariant_of-self-in-Err-clause-some
invariant_of-self-in-Err-clause-some g c = some_broken (IsGiven g.D.Disk.told g.D.Presumed.presumed) (parts g.D.Disk.view c.args.self.now).past (g.D.Disk.view c.log_record.new.engine.disk) c.log_record.new.engine.log c.log_record.new.engine.pool
