use Rattle.std.proofs.Common.{◌≡◌, ◌==◌, sym, ap, ◌∙◌}
use Rattle.sg_record.specs.Shown.{shown}
use Rattle.sg_recovery.specs.Chains.{txn_of}
use Rattle.sg_analysis.specs.Sights.{sight_of, steps_of}
use Rattle.sg_analysis.specs.Returns.{progress_of, progress_by}
use Rattle.sg_analysis.proofs.Kept.{step_is}
use Rattle.sg_analysis.proofs.scan.Scan.goes_back.Goals as goal

pub returns : goal.returns
returns c base ns x k e =
    let r = shown c.args.rec.now in
    let rs = steps_of ns in
    let t = c.txn-txn.result.0 in
    let own : t ≡ txn_of x = c.txn-txn.ensures ∙ sym (step_is r.transaction r.previous r.says x e).0 in
    c.fits_progress.ensures ∙ (ap (λ b. progress_by b (t == 0) c.progress.result (sight_of r)) k.base_is
    ∙ (ap (λ p. progress_by base (t == 0) p (sight_of r)) (c.progress.ensures base ns k)
    ∙ (ap (λ u. progress_by base (u == 0) (progress_of rs u) (sight_of r)) own ∙ ap (progress_by base (txn_of x == 0) (progress_of rs (txn_of x))) e)))
