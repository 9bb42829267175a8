use Rattle.std.proofs.Common.{◌≡◌, ℕ, ◌+◌, ◌-◌, ◌*◌, ◌≤◌, ◌++◌, List, length, take, drop, Option, Some, None, refl, sym, ap, ◌∙◌, subst, arith, vec_len, vec_capacity}
use Rattle.std.proofs.lemmas.Option.{same_Some}
use Rattle.sg_redo.specs.declared.place.Place.{Place}
use Rattle.sg_record.specs.Records.{Record}
use Rattle.sg_log.specs.Texts.{spelled_all}
use Rattle.sg_places.specs.Text.{framed_all}
use Rattle.sg_places.proofs.Rest.{AreFramesPlaced, frames_placed_none, placed_frame, frame_there, frames_placed_more, frames_placed, body_cut}
use Rattle.sg_places.proofs.collecting.collect.Goals as goal

pub frames-init : goal.frames-init
frames-init c = (
  omega arith,
  omega (arith, c.clear.ensures.len),
  c.clear.ensures.capacity,
  λ frames is. subst (λ (l : List Place). AreFramesPlaced c.args.pages c.args.bands c.args.base c.args.point c.args.text.now frames l 0) (sym c.clear.ensures.items)
      (frames_placed_none c.args.pages c.args.bands c.args.base c.args.point c.args.text.now frames is),
)

pub returns-in_default-clause-there : goal.returns-in_default-clause-there
returns-in_default-clause-there c frames is none =
    let f = placed_frame c.args.pages c.args.bands c.args.base c.args.point c.args.text.now frames c.frames.places.items c.frames.at (c.frames.invariant.3 frames is) c.frames-test.true in
    absurd (c.in_default.not-Some (length (spelled_all f.rs)) (c.body_size.ensures.size f.rs (framed_all f.more) f.frame f.stands))

pub collect_body-requires-clause-room : goal.collect_body-requires-clause-room
collect_body-requires-clause-room c =
    let most = c.frames.invariant.1 in
    let same = c.frames.invariant.2 in
    let within = c.in-Some.ensures.within.1 in
    omega (arith, most, same, within, c.requires.room)

pub frames-preserved : goal.frames-preserved
frames-preserved c =
    let most = c.frames.invariant.1 in
    let more = c.collect_body.ensures.most in
    let same = c.collect_body.ensures.room ∙ c.frames.invariant.2 in (
      c.in-Some.ensures.within.1,
      omega (arith, most, more),
      same,
      λ frames is.
          let h = c.frames.invariant.3 frames is in
          let f = placed_frame c.args.pages c.args.bands c.args.base c.args.point c.args.text.now frames c.frames.places.items c.frames.at h c.frames-test.true in
          let size = same_Some c.in-Some.size (length (spelled_all f.rs)) (c.in-Some.ensures.size f.rs (framed_all f.more) f.frame f.stands) in
          let body = body_cut c.args.text.now c.frames.at h.rest f c.in-Some.size size in
          frames_placed_more c.args.pages c.args.bands c.args.base c.args.point c.args.text.now frames c.frames.places.items c.frames.at h c.frames-test.true c.collect_body.new.places.items (c.frames.at + 5 + c.in-Some.size)
          (ap (λ n. c.frames.at + 5 + n) size) (c.in-Ok.ensures.places f.rs f.frame.fields body),
    )

pub returns-in-Err-clause-there : goal.returns-in-Err-clause-there
returns-in-Err-clause-there c frames is none =
    let h = c.frames.invariant.3 frames is in
    let f = placed_frame c.args.pages c.args.bands c.args.base c.args.point c.args.text.now frames c.frames.places.items c.frames.at h c.frames-test.true in
    let size = same_Some c.in-Some.size (length (spelled_all f.rs)) (c.in-Some.ensures.size f.rs (framed_all f.more) f.frame f.stands) in
    let body = body_cut c.args.text.now c.frames.at h.rest f c.in-Some.size size in
    c.in-Err.ensures.there f.rs f.frame.fields body (frame_there c.args.pages c.args.bands c.args.base c.args.point c.args.text.now frames c.frames.places.items c.frames.at h c.frames-test.true none)

pub returns-clause-places : goal.returns-clause-places
returns-clause-places c frames is = frames_placed (c.frames.invariant.3 frames is) c.frames-test.false
