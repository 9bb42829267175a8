use Rattle.std.proofs.Common.{◌≡◌, ◌+◌, ◌-◌, ◌≤◌, ℕ, List, length, take, Some, None, sym, ap, ◌∙◌, arith}
use Rattle.std.proofs.lemmas.Option.{same_Some}
use Rattle.sg_record.specs.Records.{Record}
use Rattle.sg_log.specs.Texts.{spelled_all}
use Rattle.sg_places.specs.Text.{framed, framed_all}
use Rattle.sg_places.proofs.Stretches.{whole_starts, next_one, WholeOne, ShortOne, whole_more, at_end, cut_off}
use Rattle.sg_places.proofs.body.whole_frames.Goals as goal

pub frames-init : goal.frames-init
frames-init c = (omega arith, λ frames k are is. whole_starts frames c.args.text.now k are is)

pub frames-preserved : goal.frames-preserved
frames-preserved c =
    let text = c.args.text.now in
    let at = c.frames.at in (
      c.in-Some.ensures.within.1,
      λ frames k are is.
          let h = c.frames.invariant.1 frames k are is in
          elim (next_one frames text at h c.frames-test.true) [
            | WholeOne rs more rest frame others long there ↦
                let size = same_Some c.in-Some.size (length (spelled_all rs)) (c.in-Some.ensures.size rs (take (h.size - length (framed rs)) (framed_all more)) frame there) in
                whole_more frames text at (at + 5 + c.in-Some.size) h rs more rest frame others there (ap (λ n. at + 5 + n) size) c.in-Some.ensures.within.1
            | ShortOne rs more rest frame short there ↦ absurd (none_some c.in-Some.size (c.in-Some.ensures.short rs (framed_all more) h.size frame there short))
          ],
    )
  where
    none_some : (n : ℕ) → Some n ≡ None → ⊥
    none_some n e = cc

pub returns-in_default-clause-stretch : goal.returns-in_default-clause-stretch
returns-in_default-clause-stretch c frames k are is =
    let text = c.args.text.now in
    let at = c.frames.at in
    let h = c.frames.invariant.1 frames k are is in
    elim (next_one frames text at h c.frames-test.true) [
      | WholeOne rs more rest frame others long there ↦ absurd (c.in_default.not-Some (length (spelled_all rs)) (c.body_size.ensures.size rs (take (h.size - length (framed rs)) (framed_all more)) frame there))
      | ShortOne rs more rest frame short there ↦ cut_off frames text at h rs more rest short there
    ]

pub returns-clause-stretch : goal.returns-clause-stretch
returns-clause-stretch c frames k are is = at_end frames c.args.text.now c.frames.at (c.frames.invariant.1 frames k are is) c.frames-test.false
