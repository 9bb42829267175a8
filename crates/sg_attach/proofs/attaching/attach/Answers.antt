use Rattle.std.proofs.Common.{◌≡◌, ◌⊎◌, ⊎_elim, ◌≤◌, Result, Ok, Err, inl, inr, refl, sym, ap, ◌∙◌, subst}
use Rattle.sg_find.specs.declared.fault.OpenFault.{OpenFault}
use Rattle.sg_find.specs.declared.fault.OpenFault.TheVariants.{Disk, NotAStore}
use mathlib.Core.Logic.{∥∥₁_elim}
use Rattle.sg_recovery.specs.Chains.{next_lsn}
use Rattle.sg_recovery.specs.Formed.{IsLog}
use Rattle.sg_analysis.specs.Analysis.{losers_of}
use Rattle.sg_actions.specs.Steps.{Steps}
use Rattle.sg_phys_laws.proofs.Sets.{steps_set}
use Rattle.sg_ops.specs.Table.{Table, table_of}
use Rattle.sg_find.specs.Synced.{reads}
use Rattle.sg_pages.specs.Parts.{seen}
use Rattle.sg_attach.specs.Attached.{unfinished_of}
use Rattle.sg_attach.proofs.Ending.{end_shown}
use Rattle.sg_attach.proofs.Known.{attach_known}
use Rattle.sg_attach.proofs.Undamaged.{attach_undamaged}
use Rattle.sg_gate.specs.declared.superblock.Super.{Super}
use Rattle.sg_attach.proofs.Analysed.{accepted_super, log_formed, log_last, log_losers, log_unfinished}
use Rattle.sg_attach.proofs.Attached.{attach_some, attach_stands, attach_steps, attach_durable, attach_based, attach_below, attach_pages, attach_bands, attach_moments, attach_refused, below_prop, nat_set, waits_empty}
use Rattle.sg_attach.proofs.Repeats.{opening_steps}
use Rattle.sg_attach.proofs.attaching.attach.Goals as goal

-- what was opened isn't refused
opened_or : {T : Type 0} {x : T} (r : Result T OpenFault) → r ≡ Ok x → (r ≡ Err NotAStore) ⊎ (r ≡ Err Disk) → ⊥
opened_or {T} {x} r is refused = ⊎_elim
    (λ e. let bad : ◌≡◌ {A = Result T OpenFault} (Ok x) (Err NotAStore) = sym is ∙ e in cc)
    (λ e. let bad : ◌≡◌ {A = Result T OpenFault} (Ok x) (Err Disk) = sym is ∙ e in cc) refused

pub new-pages-requires-clause-waits : goal.new-pages-requires-clause-waits
new-pages-requires-clause-waits g c = let l = c.of_parts-engine.ensures.log in rw l (waits_empty c.in-Ok.field-0.log c.in-Ok.ensures.empty)

pub new-pages-requires-clause-some : goal.new-pages-requires-clause-some
new-pages-requires-clause-some g c =
    let f = c.of-found.ensures in
    let d = c.of_parts-engine.ensures.disk in
    let l = c.of_parts-engine.ensures.log in
    let p = c.of_parts-engine.ensures.pool in
    rw f (rw d (rw l (rw p (attach_some g.D.Disk.told _ (g.D.Disk.view c.args.disk) (g.D.Disk.view c.open.new.disk) c.in-Ok.field-0.log c.in-Ok.field-0.pool c.in-Ok.ensures.opens c.in-Ok.ensures.allowed c.laws.ensures
    c.in-Ok.field-0.geometry c.in-Ok.field-0.analysis.last_checkpoint (λ told. accepted_super _ _ _ (c.in-Ok.ensures.accepted told)) (λ told. log_last _ _ c.in-Ok.field-0.geometry c.in-Ok.field-0.analysis (c.in-Ok.ensures.accepted told) (c.in-Ok.ensures.analysed told))
    g.D.Presumed.presumed (λ told presumed. c.requires.found told presumed c.in-Ok.field-0.geometry (c.in-Ok.ensures.accepted told))))))

pub returns-in-Ok-clause-means : goal.returns-in-Ok-clause-means
returns-in-Ok-clause-means g c from durable log is m =
    let e = c.new-pages.ensures.engine in
    let s = c.new-pages.ensures.found in
    let b = c.new-pages.ensures.superblock in
    let k = c.new-pages.ensures.checkpoint in
    let u = c.new-pages.ensures.uncut in
    let f = c.of-found.ensures in
    let d = c.of_parts-engine.ensures.disk in
    let l = c.of_parts-engine.ensures.log in
    let p = c.of_parts-engine.ensures.pool in
    rw e (rw s (rw b (rw k (rw u (rw f (rw d (rw l (rw p (attach_stands g.D.Disk.told _ (g.D.Disk.view c.args.disk) (g.D.Disk.view c.open.new.disk) c.in-Ok.field-0.log c.in-Ok.field-0.pool c.in-Ok.ensures.opens c.in-Ok.ensures.allowed c.laws.ensures
    c.in-Ok.field-0.geometry c.in-Ok.field-0.analysis.last_checkpoint (λ told. accepted_super _ _ _ (c.in-Ok.ensures.accepted told)) (λ told. log_last _ _ c.in-Ok.field-0.geometry c.in-Ok.field-0.analysis (c.in-Ok.ensures.accepted told) (c.in-Ok.ensures.analysed told))
    g.D.Presumed.presumed c.new-pages.result.failed from durable log (λ told. m))))))))))

pub returns-in-Ok-clause-steps : goal.returns-in-Ok-clause-steps
returns-in-Ok-clause-steps g c is presumed =
    let e = c.new-pages.ensures.engine in
    let d = c.of_parts-engine.ensures.disk in
    let l = c.of_parts-engine.ensures.log in
    let u = c.new-pages.ensures.uncut in
    rw u (rw e (rw d (rw l (∥∥₁_elim (c.requires.found is presumed c.in-Ok.field-0.geometry (c.in-Ok.ensures.accepted is)) (steps_set _ _)
    (λ k. attach_steps g.D.Disk.told _ (g.D.Disk.view c.args.disk) (g.D.Disk.view c.open.new.disk) c.in-Ok.field-0.log c.in-Ok.field-0.pool c.in-Ok.ensures.opens k.0 k.1 k.2 is k.3)))))

pub returns-in-Ok-clause-durable : goal.returns-in-Ok-clause-durable
returns-in-Ok-clause-durable g c is presumed =
    let e = c.new-pages.ensures.engine in
    let d = c.of_parts-engine.ensures.disk in
    let l = c.of_parts-engine.ensures.log in
    let u = c.new-pages.ensures.uncut in
    rw u (rw e (rw d (rw l (∥∥₁_elim (c.requires.found is presumed c.in-Ok.field-0.geometry (c.in-Ok.ensures.accepted is)) (steps_set _ _)
    (λ k. attach_durable g.D.Disk.told _ (g.D.Disk.view c.args.disk) (g.D.Disk.view c.open.new.disk) c.in-Ok.field-0.log c.in-Ok.field-0.pool c.in-Ok.ensures.opens k.0 k.1 k.2 is k.3)))))

pub returns-in-Ok-clause-base : goal.returns-in-Ok-clause-base
returns-in-Ok-clause-base g c = (let s = c.new-pages.ensures.found in let f = c.of-found.ensures in rw s (rw f refl))

pub returns-in-Ok-clause-formed : goal.returns-in-Ok-clause-formed
returns-in-Ok-clause-formed g c is presumed =
    let t : Table = table_of (λ p. (goal.RecordOp-dyn g p).record_meaning p.1) (λ p. (goal.RangeOp-dyn g p).range_meaning p.1) c.args.ops.now in
    let i = reads (g.D.Disk.view c.args.disk) in
    let s = c.new-pages.ensures.found in
    let f = c.of-found.ensures in
    subst (λ (rs : Steps). IsLog (seen g.D.Disk.told g.D.Presumed.presumed g.D.Disk.view c.new-pages.result).base rs) (sym (returns-in-Ok-clause-steps g c is presumed))
    (rw s (rw f (log_formed t i c.in-Ok.field-0.geometry c.in-Ok.field-0.analysis (c.in-Ok.ensures.accepted is) (c.in-Ok.ensures.analysed is))))

pub returns-in-Ok-clause-losers : goal.returns-in-Ok-clause-losers
returns-in-Ok-clause-losers g c is presumed =
    let t : Table = table_of (λ p. (goal.RecordOp-dyn g p).record_meaning p.1) (λ p. (goal.RangeOp-dyn g p).range_meaning p.1) c.args.ops.now in
    let i = reads (g.D.Disk.view c.args.disk) in
    log_losers t i c.in-Ok.field-0.geometry c.in-Ok.field-0.analysis (c.in-Ok.ensures.accepted is) (c.in-Ok.ensures.analysed is) ∙ sym (ap losers_of (returns-in-Ok-clause-steps g c is presumed))

pub returns-in-Ok-clause-unfinished : goal.returns-in-Ok-clause-unfinished
returns-in-Ok-clause-unfinished g c is presumed =
    let t : Table = table_of (λ p. (goal.RecordOp-dyn g p).record_meaning p.1) (λ p. (goal.RangeOp-dyn g p).range_meaning p.1) c.args.ops.now in
    let i = reads (g.D.Disk.view c.args.disk) in
    log_unfinished t i c.in-Ok.field-0.geometry c.in-Ok.field-0.analysis (c.in-Ok.ensures.accepted is) (c.in-Ok.ensures.analysed is) ∙ sym (ap unfinished_of (returns-in-Ok-clause-steps g c is presumed))

pub returns-in-Ok-clause-below : goal.returns-in-Ok-clause-below
returns-in-Ok-clause-below g c is presumed =
    let e = c.new-pages.ensures.engine in
    let l = c.of_parts-engine.ensures.log in
    let ends = c.new-pages.result.ends c.new-pages.ensures.whole.0 in
    subst (λ (rs : Steps). next_lsn rs ≤ c.new-pages.result.end) (sym (returns-in-Ok-clause-steps g c is presumed))
    (rw ends (rw e (rw l (∥∥₁_elim (c.requires.found is presumed c.in-Ok.field-0.geometry (c.in-Ok.ensures.accepted is)) (below_prop _ _)
    (λ k. attach_below g.D.Disk.told _ (g.D.Disk.view c.args.disk) (g.D.Disk.view c.open.new.disk) c.in-Ok.field-0.log c.in-Ok.field-0.pool c.in-Ok.ensures.opens k.0 k.1 k.2 is k.3)))))

pub returns-in-Ok-clause-first_byte : goal.returns-in-Ok-clause-first_byte
returns-in-Ok-clause-first_byte g c is presumed =
    let s = c.new-pages.ensures.found in
    let f = c.of-found.ensures in
    let b = c.new-pages.ensures.superblock in
    rw s (rw f (rw b (ap (λ (x : Super). x.base) (accepted_super _ _ _ (c.in-Ok.ensures.accepted is)))))

pub returns-in-Ok-clause-based : goal.returns-in-Ok-clause-based
returns-in-Ok-clause-based g c is presumed =
    let e = c.new-pages.ensures.engine in
    let s = c.new-pages.ensures.found in
    let f = c.of-found.ensures in
    let l = c.of_parts-engine.ensures.log in
    let ends = c.new-pages.result.ends c.new-pages.ensures.whole.0 in
    rw ends (rw e (rw s (rw f (rw l (∥∥₁_elim (c.requires.found is presumed c.in-Ok.field-0.geometry (c.in-Ok.ensures.accepted is)) (below_prop _ _)
    (λ k. attach_based g.D.Disk.told _ (g.D.Disk.view c.args.disk) (g.D.Disk.view c.open.new.disk) c.in-Ok.field-0.log c.in-Ok.field-0.pool c.in-Ok.ensures.opens k.0 k.1 k.2 is k.3))))))

pub returns-in-Ok-clause-extent : goal.returns-in-Ok-clause-extent
returns-in-Ok-clause-extent g c is presumed =
    let e = c.new-pages.ensures.engine in
    let p = c.of_parts-engine.ensures.pool in
    let k = c.requires.found is presumed c.in-Ok.field-0.geometry (c.in-Ok.ensures.accepted is) in
    let t : Table = table_of (λ p. (goal.RecordOp-dyn g p).record_meaning p.1) (λ p. (goal.RangeOp-dyn g p).range_meaning p.1) c.args.ops.now in
    rw e (rw p (
      ∥∥₁_elim k (nat_set _ _) (λ x. attach_pages g.D.Disk.told t (g.D.Disk.view c.args.disk) (g.D.Disk.view c.open.new.disk) c.in-Ok.field-0.log c.in-Ok.field-0.pool c.in-Ok.ensures.opens x.0 x.1 x.2 c.in-Ok.field-0.geometry is x.3 (c.in-Ok.ensures.accepted is)),
      ∥∥₁_elim k (nat_set _ _) (λ x. attach_bands g.D.Disk.told t (g.D.Disk.view c.args.disk) (g.D.Disk.view c.open.new.disk) c.in-Ok.field-0.log c.in-Ok.field-0.pool c.in-Ok.ensures.opens x.0 x.1 x.2 c.in-Ok.field-0.geometry is x.3 (c.in-Ok.ensures.accepted is)),
    ))

pub returns-in-Ok-clause-attached : goal.returns-in-Ok-clause-attached
returns-in-Ok-clause-attached g c is =
    let e = c.new-pages.ensures.engine in
    let d = c.of_parts-engine.ensures.disk in
    rw e (rw d (attach_moments _ (g.D.Disk.view c.args.disk) (g.D.Disk.view c.open.new.disk) (c.in-Ok.ensures.behind is)))

pub returns-in-Ok-clause-kept : goal.returns-in-Ok-clause-kept
returns-in-Ok-clause-kept g c =
    let e = c.new-pages.ensures.engine in
    let d = c.of_parts-engine.ensures.disk in
    rw e (rw d c.open.ensures.kept)

pub returns-in-Ok-clause-shown : goal.returns-in-Ok-clause-shown
returns-in-Ok-clause-shown g c is =
    let t : Table = table_of (λ p. (goal.RecordOp-dyn g p).record_meaning p.1) (λ p. (goal.RangeOp-dyn g p).range_meaning p.1) c.args.ops.now in
    let e = c.new-pages.ensures.engine in
    let d = c.of_parts-engine.ensures.disk in
    let l = c.of_parts-engine.ensures.log in
    rw e (rw d (rw l (end_shown t (g.D.Disk.view c.args.disk) (g.D.Disk.view c.open.new.disk) c.in-Ok.field-0.geometry c.in-Ok.field-0.analysis c.in-Ok.field-0.log.gate
    (c.in-Ok.ensures.accepted is) (c.in-Ok.ensures.analysed is) (c.in-Ok.ensures.shown is))))

pub returns-in-Err-clause-refused : goal.returns-in-Err-clause-refused
returns-in-Err-clause-refused g c from durable log is m =
    attach_refused g.D.Disk.told _ from durable log (g.D.Disk.view c.args.disk) (g.D.Disk.view c.open.new.disk) c.in-Err.fault m (λ q tail ds does opens. c.in-Err.ensures.refused q tail ds is does opens)

pub returns-in-Err-clause-undamaged : goal.returns-in-Err-clause-undamaged
returns-in-Err-clause-undamaged g c rs x is r area at =
    attach_undamaged g.D.Disk.told _ (g.D.Disk.view c.args.disk) (g.D.Disk.view c.open.new.disk) c.in-Err.fault rs x r (λ q tail ds does opens. c.in-Err.ensures.refused q tail ds is does opens) area at

pub returns-in-Err-clause-known : goal.returns-in-Err-clause-known
returns-in-Err-clause-known g c rs x is r code = attach_known _ (reads (g.D.Disk.view c.args.disk)) c.in-Err.fault rs x r (c.in-Err.ensures.cause is) code

pub returns-in-Err-clause-failed : goal.returns-in-Err-clause-failed
returns-in-Err-clause-failed g c is =
    ⊎_elim (λ early. inl early) (λ split. inr (attach_moments _ (g.D.Disk.view c.args.disk) (g.D.Disk.view c.open.new.disk) split)) (c.in-Err.ensures.stopped is)

pub returns-in-Ok-clause-shut : goal.returns-in-Ok-clause-shut
returns-in-Ok-clause-shut g c is first second = opened_or c.open.result c.in-Ok.is (c.open.ensures.shut is first second)

pub returns-in-Ok-clause-repeats : goal.returns-in-Ok-clause-repeats
returns-in-Ok-clause-repeats g c rs x is r =
    opening_steps _ (g.D.Disk.view c.args.disk) c.args.steps.now c.open.new.steps (λ q tail ds does opens. c.in-Ok.ensures.steps q tail ds is does opens) rs x r
