use Rattle.std.proofs.Common.{◌≡◌, ℕ, ◌+◌, ◌-◌, ◌++◌, List, length, take, drop, Option, Some, None, refl, sym, ap, ◌∙◌, subst, arith}
use Rattle.std.proofs.lemmas.Option.{same_Some}
use Rattle.sg_ops.specs.Table.{Table, table_of}
use Rattle.sg_record.specs.Records.{Record}
use Rattle.sg_log.specs.Texts.{spelled_all}
use Rattle.sg_log.specs.Frames.{numbered_from}
use Rattle.sg_places.specs.Text.{framed_all}
use Rattle.sg_places.specs.Refused.{Refuses}
use Rattle.sg_places.specs.declared.checking.Refusal.{Refusal}
use Rattle.sg_places.proofs.Rest.{AreFramesChecked, frames_start, frames_go_on, frame, frame_outside, frames_end, body_cut}
use Rattle.sg_places.proofs.checking.check.Goals as goal

pub frames-init : goal.frames-init
frames-init g c frames is = frames_start (table_of (λ p. (goal.RecordOp-dyn g p).record_meaning p.1) (λ p. (goal.RangeOp-dyn g p).range_meaning p.1) c.args.ops.now) c.args.pages c.args.bands c.args.start (c.args.base + c.args.start) c.args.point (c.args.losers.now, c.args.opened.now) c.args.text.now frames is

pub returns-in_default-clause-refused : goal.returns-in_default-clause-refused
returns-in_default-clause-refused g c frames is =
    let t : Table = table_of (λ p. (goal.RecordOp-dyn g p).record_meaning p.1) (λ p. (goal.RangeOp-dyn g p).range_meaning p.1) c.args.ops.now in
    let f = frame t c.args.pages c.args.bands c.args.start (c.args.base + c.args.start) c.args.point (c.args.losers.now, c.args.opened.now) c.args.text.now frames c.frames.at c.frames.unknown (c.frames.invariant frames is) c.frames-test.true in
    absurd (c.in_default.not-Some (length (spelled_all f.rs)) (c.body_size.ensures.size f.rs (framed_all f.more) f.frame f.stands))

pub returns-in-Err-clause-refused : goal.returns-in-Err-clause-refused
returns-in-Err-clause-refused g c frames is =
    let t : Table = table_of (λ p. (goal.RecordOp-dyn g p).record_meaning p.1) (λ p. (goal.RangeOp-dyn g p).range_meaning p.1) c.args.ops.now in
    let h = c.frames.invariant frames is in
    let f = frame t c.args.pages c.args.bands c.args.start (c.args.base + c.args.start) c.args.point (c.args.losers.now, c.args.opened.now) c.args.text.now frames c.frames.at c.frames.unknown h c.frames-test.true in
    let size = same_Some c.in-Some.size (length (spelled_all f.rs)) (c.in-Some.ensures.size f.rs (framed_all f.more) f.frame f.stands) in
    let body = body_cut c.args.text.now c.frames.at h.rest f c.in-Some.size size in
    let no = c.in-Err.ensures.refused f.rs f.frame.fields body in
    subst (λ (e : Refusal). Refuses c.args.pages c.args.bands c.args.start frames e) (sym no.0)
    (frame_outside t c.args.pages c.args.bands c.args.start (c.args.base + c.args.start) c.args.point (c.args.losers.now, c.args.opened.now) c.args.text.now frames c.frames.at c.frames.unknown h c.frames-test.true no.1)

pub frames-preserved : goal.frames-preserved
frames-preserved g c frames is =
    let t : Table = table_of (λ p. (goal.RecordOp-dyn g p).record_meaning p.1) (λ p. (goal.RangeOp-dyn g p).range_meaning p.1) c.args.ops.now in
    let h = c.frames.invariant frames is in
    let f = frame t c.args.pages c.args.bands c.args.start (c.args.base + c.args.start) c.args.point (c.args.losers.now, c.args.opened.now) c.args.text.now frames c.frames.at c.frames.unknown h c.frames-test.true in
    let size = same_Some c.in-Some.size (length (spelled_all f.rs)) (c.in-Some.ensures.size f.rs (framed_all f.more) f.frame f.stands) in
    let body = body_cut c.args.text.now c.frames.at h.rest f c.in-Some.size size in
    subst (λ (o : Option ℕ). AreFramesChecked t c.args.pages c.args.bands c.args.start (c.args.base + c.args.start) c.args.point (c.args.losers.now, c.args.opened.now) c.args.text.now frames (c.frames.at + 5 + c.in-Some.size) o) (sym c.or_else-unknown.ensures)
    (frames_go_on t c.args.pages c.args.bands c.args.start (c.args.base + c.args.start) c.args.point (c.args.losers.now, c.args.opened.now) c.args.text.now frames c.frames.at c.frames.unknown h c.frames-test.true c.in-Ok.code (c.frames.at + 5 + c.in-Some.size)
    (ap (λ n. c.frames.at + 5 + n) size) (c.in-Ok.ensures.there f.rs f.frame.fields body) (c.in-Ok.ensures.unknown f.rs f.frame.fields body))

pub returns-clause-there : goal.returns-clause-there
returns-clause-there g c frames is = (frames_end (c.frames.invariant frames is) c.frames-test.false).0

pub returns-clause-unknown : goal.returns-clause-unknown
returns-clause-unknown g c frames is = (frames_end (c.frames.invariant frames is) c.frames-test.false).1
