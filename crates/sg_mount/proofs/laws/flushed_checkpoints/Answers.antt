use Rattle.std.proofs.Common.{◌≡◌, ⊎_elim, ℕ, subst}
use Rattle.sg_checkpoints.specs.Checkpoints.{StillMarked}
use Rattle.sg_mount.proofs.laws.flushed_checkpoints.Goals as goal

pub returns : goal.returns
returns g c home made =
    let own : made.ends.estimate ≡ made.ends.lsn = ⊎_elim (λ old. absurd (home made.ends.estimate old.0)) (λ none. none.1) made.estimates in
    record {
      lsn = made.ends.lsn;
      appended = made.ends.appended;
      still = subst (λ (estimate : ℕ). StillMarked (g.E.Engine.marked c.args.marked.now) g.E.Engine.ends_at (g.E.Engine.view c.args.marked.now).disk.now made.ends.lsn estimate) own made.ends.still;
    }
