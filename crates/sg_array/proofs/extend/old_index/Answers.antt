use Rattle.std.proofs.Common.{ℕ, ◌/◌, ap, ◌∙◌, arith, slice_get}
use Rattle.sg_space.proofs.Known.{reads_then}
use Rattle.sg_array.proofs.Links.{still_names, index_kind}
use Rattle.sg_array.proofs.Growth.{roomy_still}
use Rattle.sg_array.proofs.Pushes.{old_index}
use Rattle.sg_array.proofs.extend.old_index.Goals as goal

pub index_at-requires-clause-there : goal.index_at-requires-clause-there
index_at-requires-clause-there g c = λ told.
    let h = c.requires.there told in
    let least = h.1.built.names.index_least in
    let behind = h.2.behind in
    let part = c.requires.part in
    (h.0, h.1.built.names, omega arith)

pub check_kind-requires : goal.check_kind-requires
check_kind-requires g c = λ told.
    let back = c.index_at.ensures.counts.told told in
    let shows = g.met.P.PageSpace.told_shows _ back in
    let h = c.requires.there back in
    let names = still_names c.in_ok-index.ensures.kept shows h.1.built.names in
    index_kind names _ (c.in_ok-index.ensures.read shows h.0 h.1.built.names)

pub returns-clause-did : goal.returns-clause-did
returns-clause-did g c =
    let kept = reads_then c.in_ok-index.ensures.kept c.in_ok-check_kind.ensures.kept in
    record {
      keeps = λ t. kept.keeps;
      done = λ t a h can.
          let shows = g.met.P.PageSpace.told_shows _ t in
          let at = c.in_ok-index.ensures.read shows a h.built.names in
          old_index (kept.same shows) h (ap (λ (n : ℕ). slice_get a.index (n / 509)) can.behind ∙ at) (roomy_still can.roomy kept.keeps);
    }

pub returns-in_err-check_kind-clause-later : goal.returns-in_err-check_kind-clause-later
returns-in_err-check_kind-clause-later g c = λ t. g.met.P.PageSpace.later_then t _ _ _ (c.index_at.ensures.later t) (c.check_kind.ensures.later t)

pub returns-clause-later : goal.returns-clause-later
returns-clause-later g c = λ t. g.met.P.PageSpace.later_then t _ _ _ (c.index_at.ensures.later t) (c.check_kind.ensures.later t)
