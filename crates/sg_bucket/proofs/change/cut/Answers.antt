use Rattle.std.proofs.Common.{IsSome, ◌+◌, subst, sym, refl, arith, ◌∙◌}
use Rattle.sg_bucket.proofs.Changing.{links_can, cut_did}
use Rattle.sg_bucket.proofs.Linking.{other_page}
use Rattle.sg_bucket.proofs.change.cut.Goals as goal

pub change-requires-clause-can : goal.change-requires-clause-can
change-requires-clause-can g c = λ told. let h = c.requires.can told in links_can (h.1.part h.2.index c.args.before.0 h.2.before_is)

pub free_page-requires : goal.free_page-requires
free_page-requires g c = λ told.
    let back = c.change.ensures.counts.told told in
    let h = c.requires.can back in
    let same = ((c.in_ok-change.ensures.did).pages back).others c.args.page.0 (other_page h.1 h.2.before_is h.2.page_is (λ e. absurd (omega arith))) in
    subst IsSome (sym (same ∙ (h.1.part (h.2.index + 1) c.args.page.0 h.2.page_is).is)) refl

pub returns-clause-did : goal.returns-clause-did
returns-clause-did g c = cut_did c.in_ok-change.ensures.did c.in_ok-free_page.ensures.did

pub returns-in_err-free_page-clause-later : goal.returns-in_err-free_page-clause-later
returns-in_err-free_page-clause-later g c = g.met.P.PageSpace.later_then _ _ _ _ c.change.ensures.later (c.free_page.ensures.later _)

pub returns-clause-later : goal.returns-clause-later
returns-clause-later g c = g.met.P.PageSpace.later_then _ _ _ _ c.change.ensures.later (c.free_page.ensures.later _)
