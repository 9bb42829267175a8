use Rattle.sg_phys.specs.Phys.{IsGiven}
use Rattle.sg_phys.proofs.Causes.{failed_for, by_poised}
use Rattle.sg_phys.proofs.Seen.{not_full}
use Rattle.sg_phys_laws.proofs.Counted.{not_called}
use Rattle.sg_phys_laws.proofs.Numbers.{place_late}
use Rattle.std.proofs.Common.{rules, ◌≡◌, ◌<◌, ◌+◌, ℕ, true, List, refl, sym, ap, ◌∙◌, subst, arith, max, length}
use Rattle.sg_log.specs.Held.{place_of}
use Rattle.sg_ops.specs.Table.{Table}
use Rattle.sg_action.specs.States.{State}
use Rattle.sg_pool.specs.Pooled.{IsUnwritten}
use Rattle.sg_record.specs.Records.{spelled}
use Rattle.sg_checkpoints.specs.Checkpoints.{Estimates}
use Rattle.sg_actions.specs.Handing.{HandsOver}
use Rattle.sg_phys_laws.specs.Waiting.{waiting_of}
use Rattle.sg_pages.specs.Marks.{LogEnds}
use Rattle.sg_pages.specs.Parts.{parts}
use Rattle.sg_phys.proofs.Images.{by_past}
use Rattle.sg_phys.proofs.Seen.{grows_err, grows_ok, grows_stopped, hands_none, keeps_broken, looks_err, looks_stopped, none_made, some_broken, some_past, HasLoggedIt}
use Rattle.sg_phys.specs.Phys.{StandsBy, Tells}
use Rattle.sg_phys_laws.proofs.Checkpoints.{checkpoint_long}
use Rattle.sg_pages.proofs.Marking.{place_same, estimate_low, keeps_checkpoint, checkpoint_looks, checkpoint_fails, log_ends, log_names, low_prop}
use Rattle.sg_record.specs.Shown.{by}
use Rattle.std.specs.Prelude.{Err, Some}
use Rattle.sg_record.specs.Records.Says.{Checkpoint}
use Rattle.sg_space.specs.declared.space.SpaceFault.TheVariants as space
use Rattle.sg_engine.specs.declared.fault.EngineFault.TheVariants as engine
use Rattle.sg_pages.proofs.phys.Phys.log_checkpoint.Goals as goal

pub returns-then-self-clause-grows : goal.returns-then-self-clause-grows
returns-then-self-clause-grows g c = grows_stopped (IsGiven g.D.Disk.told g.D.Presumed.presumed) (parts g.D.Disk.view c.args.self.now) _ c.if-self.true (let b = c.saturating_add-self.ensures in search rules) (let b = c.saturating_add-self.ensures in search rules) (by 0 0 (Checkpoint 0 c.args.live.now))

pub returns-then-self-clause-looks : goal.returns-then-self-clause-looks
returns-then-self-clause-looks g c = λ t from m. looks_stopped (IsGiven g.D.Disk.told g.D.Presumed.presumed) (parts g.D.Disk.view c.args.self.now) _ c.if-self.true (let b = c.saturating_add-self.ensures in search rules) (let b = c.saturating_add-self.ensures in search rules) t from

pub returns-then-self-clause-means : goal.returns-then-self-clause-means
returns-then-self-clause-means g c = λ t from m. m

pub returns-then-at-estimate-clause-grows : goal.returns-then-at-estimate-clause-grows
returns-then-at-estimate-clause-grows g c = grows_err (IsGiven g.D.Disk.told g.D.Presumed.presumed) (parts g.D.Disk.view c.args.self.now) (g.D.Disk.view c.args.self.now.engine.disk) c.args.self.now.engine.log c.args.self.now.engine.pool {S = ℕ} (by 0 0 (Checkpoint 0 c.args.live.now)) engine.Disk space.Disk c.args.self.now.tried _ _ refl (not_full c.args.self.now.full c.args.self.now.failed c.args.self.now.ended c.if-self.false) (not_full c.args.self.now.full c.args.self.now.failed c.args.self.now.ended c.if-self.false) c.if-self.false (let b = c.saturating_add-self-then-at-estimate.ensures in search rules) (let b = c.saturating_add-self-then-at-estimate.ensures in search rules) (λ e. (let bad : ⊥ = cc in absurd bad)) (λ e. (let bad : ⊥ = cc in absurd bad)) (not_called (g.D.Disk.view c.args.self.now.engine.disk) c.args.self.now.engine.log c.args.self.now.engine.pool) (λ e tell. absurd (by_poised (IsGiven g.D.Disk.told g.D.Presumed.presumed) (parts g.D.Disk.view c.args.self.now) c.args.self.now.some low_prop (λ t from m q. (let n = c.place-at.ensures in let l = place_late c.args.self.now.engine.log (by 0 0 (Checkpoint 0 c.args.live.now)) in let low = estimate_low _ (g.D.Disk.view c.args.self.now.engine.disk) c.args.self.now.engine.log _ _ c.args.self.now.engine.pool c.place-at.result c.redo_from-estimate.result q.poised.now.engine (omega (arith, n, l)) (c.redo_from-estimate.ensures tell) in let lt = c.if-at-estimate.true in omega (arith, low, lt))) tell))

pub returns-then-at-estimate-clause-looks : goal.returns-then-at-estimate-clause-looks
returns-then-at-estimate-clause-looks g c = λ t from m. looks_err (IsGiven g.D.Disk.told g.D.Presumed.presumed) (parts g.D.Disk.view c.args.self.now) (g.D.Disk.view c.args.self.now.engine.disk) c.args.self.now.engine.log c.args.self.now.engine.pool t from m _ (none_made (IsGiven g.D.Disk.told g.D.Presumed.presumed) (parts g.D.Disk.view c.args.self.now))

pub returns-then-at-estimate-clause-means : goal.returns-then-at-estimate-clause-means
returns-then-at-estimate-clause-means g c = λ t from m. keeps_broken (IsGiven g.D.Disk.told g.D.Presumed.presumed) (parts g.D.Disk.view c.args.self.now) (g.D.Disk.view c.args.self.now.engine.disk) c.args.self.now.engine.log c.args.self.now.engine.pool t from m

pub invariant_of-self-then-at-estimate-clause-some : goal.invariant_of-self-then-at-estimate-clause-some
invariant_of-self-then-at-estimate-clause-some g c = some_broken (IsGiven g.D.Disk.told g.D.Presumed.presumed) (parts g.D.Disk.view c.args.self.now).past (g.D.Disk.view c.args.self.now.engine.disk) c.args.self.now.engine.log c.args.self.now.engine.pool

pub invariant_of-self-in-Ok-clause-ends : goal.invariant_of-self-in-Ok-clause-ends
invariant_of-self-in-Ok-clause-ends g c = λ whole. c.max-self.ensures ∙ ap (λ (n : ℕ). max n 1) c.tail.ensures

pub returns-in-Ok-clause-means : goal.returns-in-Ok-clause-means
returns-in-Ok-clause-means g c = λ t from m.
    let same : c.log_plain.new.tried ≡ c.place-at.result = c.log_plain.ensures.place ∙ (place_same c.args.self.now.engine.log c.redo_from-estimate.result c.args.live.now ∙ sym c.place-at.ensures) in
    keeps_checkpoint (IsGiven g.D.Disk.told g.D.Presumed.presumed) (parts g.D.Disk.view c.args.self.now) (g.D.Disk.view c.log_plain.new.engine.disk) c.log_plain.new.engine.log c.log_plain.new.engine.pool c.args.live.now c.log_plain.new.tried c.redo_from-estimate.result t from m
    (λ tells whole. subst (λ (n : ℕ). Estimates (IsUnwritten c.args.self.now.engine.pool) n c.redo_from-estimate.result) (sym same) (c.redo_from-estimate.ensures (record { tells = tells; whole = whole }))) c.log_plain.ensures.pool (let a = c.log_plain.ensures.above in omega (arith, a)) c.in-Ok.ensures.below
    (λ tells q. (c.in-Ok.ensures.runs t t _ _ _ tells.0 (record { phys = q.poised.now; by = by_past t (parts g.D.Disk.view c.args.self.now).past; lawful = m.lawful; fits = tt; registered = refl })).allowed)
    (λ tells q. c.in-Ok.ensures.logs t t _ _ _ tells.0 (record { phys = q.poised.now; by = by_past t (parts g.D.Disk.view c.args.self.now).past; lawful = m.lawful; fits = tt; registered = refl }))

pub invariant_of-self-in-Ok-clause-some : goal.invariant_of-self-in-Ok-clause-some
invariant_of-self-in-Ok-clause-some g c =
    let same : c.log_plain.new.tried ≡ c.place-at.result = c.log_plain.ensures.place ∙ (place_same c.args.self.now.engine.log c.redo_from-estimate.result c.args.live.now ∙ sym c.place-at.ensures) in
    some_past (IsGiven g.D.Disk.told g.D.Presumed.presumed) c.args.self.now.failed (parts g.D.Disk.view c.args.self.now).past (record (parts g.D.Disk.view c.args.self.now).past { checkpoint = Some c.log_plain.new.tried }) (g.D.Disk.view c.args.self.now.engine.disk) (g.D.Disk.view c.log_plain.new.engine.disk) c.args.self.now.engine.log c.log_plain.new.engine.log c.args.self.now.engine.pool c.log_plain.new.engine.pool
    (λ t from m. keeps_checkpoint (IsGiven g.D.Disk.told g.D.Presumed.presumed) (parts g.D.Disk.view c.args.self.now) (g.D.Disk.view c.log_plain.new.engine.disk) c.log_plain.new.engine.log c.log_plain.new.engine.pool c.args.live.now c.log_plain.new.tried c.redo_from-estimate.result t from m
    (λ tells whole. subst (λ (n : ℕ). Estimates (IsUnwritten c.args.self.now.engine.pool) n c.redo_from-estimate.result) (sym same) (c.redo_from-estimate.ensures (record { tells = tells; whole = whole }))) c.log_plain.ensures.pool (let a = c.log_plain.ensures.above in omega (arith, a)) c.in-Ok.ensures.below
    (λ tells q. (c.in-Ok.ensures.runs t t _ _ _ tells.0 (record { phys = q.poised.now; by = by_past t (parts g.D.Disk.view c.args.self.now).past; lawful = m.lawful; fits = tt; registered = refl })).allowed)
    (λ tells q. c.in-Ok.ensures.logs t t _ _ _ tells.0 (record { phys = q.poised.now; by = by_past t (parts g.D.Disk.view c.args.self.now).past; lawful = m.lawful; fits = tt; registered = refl })))
    c.args.self.now.some

pub returns-in-Ok-clause-looks : goal.returns-in-Ok-clause-looks
returns-in-Ok-clause-looks g c = λ t from m.
    let same : c.log_plain.new.tried ≡ c.place-at.result = c.log_plain.ensures.place ∙ (place_same c.args.self.now.engine.log c.redo_from-estimate.result c.args.live.now ∙ sym c.place-at.ensures) in
    checkpoint_looks (IsGiven g.D.Disk.told g.D.Presumed.presumed) (parts g.D.Disk.view c.args.self.now) (g.D.Disk.view c.log_plain.new.engine.disk) c.log_plain.new.engine.log c.log_plain.new.engine.pool c.args.live.now c.log_plain.new.tried c.redo_from-estimate.result t from m
    (λ tells whole. subst (λ (n : ℕ). Estimates (IsUnwritten c.args.self.now.engine.pool) n c.redo_from-estimate.result) (sym same) (c.redo_from-estimate.ensures (record { tells = tells; whole = whole }))) c.log_plain.ensures.pool (let a = c.log_plain.ensures.above in omega (arith, a)) c.in-Ok.ensures.below
    (λ tells q. (c.in-Ok.ensures.runs t t _ _ _ tells.0 (record { phys = q.poised.now; by = by_past t (parts g.D.Disk.view c.args.self.now).past; lawful = m.lawful; fits = tt; registered = refl })).allowed)
    (λ tells q. c.in-Ok.ensures.logs t t _ _ _ tells.0 (record { phys = q.poised.now; by = by_past t (parts g.D.Disk.view c.args.self.now).past; lawful = m.lawful; fits = tt; registered = refl }))
    _ c.max-self.result _ _
    (λ o tells e k early. c.log_plain.ensures.stood o _ _ k tells.0 e early)

pub returns-in-Ok-clause-grows : goal.returns-in-Ok-clause-grows
returns-in-Ok-clause-grows g c = grows_ok (IsGiven g.D.Disk.told g.D.Presumed.presumed) (parts g.D.Disk.view c.args.self.now) (g.D.Disk.view c.log_plain.new.engine.disk) c.log_plain.new.engine.log c.log_plain.new.engine.pool c.in-Ok.lsn (by 0 0 (Checkpoint 0 c.args.live.now)) c.in-Ok.lsn c.max-self.result _ c.log_plain.new.tried _ (c.args.self.now.gates c.if-self.false) c.durable-self.ensures c.in-Ok.ensures.counts c.if-self.false c.in-Ok.ensures.number (let e = c.args.self.now.ends c.if-self.false in let a = c.log_plain.ensures.above in omega (arith, e, a)) (let b = c.in-Ok.ensures.below in let n = c.max-self.ensures ∙ ap (λ (k : ℕ). max k 1) c.tail.ensures in omega (arith, b, n)) (let e = c.args.self.now.ends c.if-self.false in let n = c.max-self.ensures ∙ ap (λ (k : ℕ). max k 1) c.tail.ensures in let h = c.in-Ok.ensures.grown in let l = checkpoint_long c.redo_from-estimate.result c.args.live.now in omega (arith, e, n, h, l)) refl (let h = c.in-Ok.ensures.within in let l = checkpoint_long c.redo_from-estimate.result c.args.live.now in omega (arith, h, l))

pub returns-in-Err-clause-grows : goal.returns-in-Err-clause-grows
returns-in-Err-clause-grows g c = grows_err (IsGiven g.D.Disk.told g.D.Presumed.presumed) (parts g.D.Disk.view c.args.self.now) (g.D.Disk.view c.log_plain.new.engine.disk) c.log_plain.new.engine.log c.log_plain.new.engine.pool (by 0 0 (Checkpoint 0 c.args.live.now)) c.in-Err.fault _ c.log_plain.new.tried _ _ c.space_fault.ensures c.is_log_end-self.ensures (not_full c.args.self.now.full c.args.self.now.failed c.args.self.now.ended c.if-self.false) c.if-self.false (let b = c.saturating_add-self-in-Err.ensures in search rules) (let b = c.saturating_add-self-in-Err.ensures in search rules) (λ e. let n = c.args.self.now.ends c.if-self.false in let k = c.log_plain.ensures.near (c.in-Err.is ∙ ap Err e) in omega (arith, n, k)) (λ e. (let h = c.log_plain.ensures.past (c.in-Err.is ∙ ap Err e) in let l = checkpoint_long c.redo_from-estimate.result c.args.live.now in omega (arith, h, l))) c.in-Err.ensures.counts (λ e tell. failed_for (IsGiven g.D.Disk.told g.D.Presumed.presumed) (parts g.D.Disk.view c.args.self.now) c.args.self.now.some g.D.Disk.told (g.D.Disk.view c.log_plain.new.engine.disk) (by 0 0 (Checkpoint c.redo_from-estimate.result c.args.live.now)) c.log_plain.result (λ given. given.0) c.log_plain.ensures.failed (λ t from m. tt) (c.in-Err.is ∙ ap Err e) tell)

pub returns-in-Err-clause-looks : goal.returns-in-Err-clause-looks
returns-in-Err-clause-looks g c = λ t from m. checkpoint_fails (IsGiven g.D.Disk.told g.D.Presumed.presumed) (parts g.D.Disk.view c.args.self.now) (g.D.Disk.view c.log_plain.new.engine.disk) c.log_plain.new.engine.log c.log_plain.new.engine.pool c.args.live.now c.log_plain.new.tried c.redo_from-estimate.result t from m _ _ _
    (λ o tells e k early. c.log_plain.ensures.stood o _ _ k tells.0 e early)

pub returns-in-Err-clause-means : goal.returns-in-Err-clause-means
returns-in-Err-clause-means g c = λ t from m. keeps_broken (IsGiven g.D.Disk.told g.D.Presumed.presumed) (parts g.D.Disk.view c.args.self.now) (g.D.Disk.view c.log_plain.new.engine.disk) c.log_plain.new.engine.log c.log_plain.new.engine.pool t from m

pub invariant_of-self-in-Err-clause-some : goal.invariant_of-self-in-Err-clause-some
invariant_of-self-in-Err-clause-some g c = some_broken (IsGiven g.D.Disk.told g.D.Presumed.presumed) (parts g.D.Disk.view c.args.self.now).past (g.D.Disk.view c.log_plain.new.engine.disk) c.log_plain.new.engine.log c.log_plain.new.engine.pool

pub returns-then-self-clause-hands : goal.returns-then-self-clause-hands
returns-then-self-clause-hands g c = hands_none _ _ _ _ _

pub returns-then-at-estimate-clause-hands : goal.returns-then-at-estimate-clause-hands
returns-then-at-estimate-clause-hands g c = hands_none _ _ _ _ _

pub returns-in-Ok-clause-hands : goal.returns-in-Ok-clause-hands
returns-in-Ok-clause-hands g c =
    let h = c.in-Ok.ensures.hands in
    let l = checkpoint_long c.redo_from-estimate.result c.args.live.now in
    let all = h.all in
    record { most = h.most; all = omega (arith, all, l) }

pub returns-in-Err-clause-hands : goal.returns-in-Err-clause-hands
returns-in-Err-clause-hands g c = record { most = c.in-Err.ensures.hands.most; all = tt }

pub returns-in-Ok-clause-marks : goal.returns-in-Ok-clause-marks
returns-in-Ok-clause-marks g c = λ told.
    let same : c.log_plain.new.tried ≡ c.place-at.result = c.log_plain.ensures.place ∙ (place_same c.args.self.now.engine.log c.redo_from-estimate.result c.args.live.now ∙ sym c.place-at.ensures) in
    record {
      estimate = c.redo_from-estimate.result;
      last = subst (λ (n : ℕ). LogEnds (g.D.Disk.view c.log_plain.new.engine.disk) c.log_plain.new.engine.log n c.redo_from-estimate.result) (sym c.in-Ok.ensures.number)
          (log_ends (IsGiven g.D.Disk.told g.D.Presumed.presumed) (parts g.D.Disk.view c.args.self.now) (g.D.Disk.view c.log_plain.new.engine.disk) c.log_plain.new.engine.log c.log_plain.new.engine.pool c.args.live.now c.log_plain.new.tried c.redo_from-estimate.result c.args.self.now.some
          (λ t from m tells q. c.in-Ok.ensures.logs t t _ _ _ tells.0 (record { phys = q.poised.now; by = by_past t (parts g.D.Disk.view c.args.self.now).past; lawful = m.lawful; fits = tt; registered = refl })) told);
      estimates = subst (λ (n : ℕ). Estimates (IsUnwritten c.args.self.now.engine.pool) n c.redo_from-estimate.result) (sym (c.in-Ok.ensures.number ∙ same)) (c.redo_from-estimate.ensures told);
    }

pub returns-in-Ok-clause-names : goal.returns-in-Ok-clause-names
returns-in-Ok-clause-names g c = λ told. log_names (IsGiven g.D.Disk.told g.D.Presumed.presumed) (parts g.D.Disk.view c.args.self.now) (g.D.Disk.view c.log_plain.new.engine.disk) c.log_plain.new.engine.log c.log_plain.new.engine.pool c.args.live.now c.log_plain.new.tried c.redo_from-estimate.result c.args.self.now.some
    (λ t from m tells q. c.in-Ok.ensures.logs t t _ _ _ tells.0 (record { phys = q.poised.now; by = by_past t (parts g.D.Disk.view c.args.self.now).past; lawful = m.lawful; fits = tt; registered = refl })) told
