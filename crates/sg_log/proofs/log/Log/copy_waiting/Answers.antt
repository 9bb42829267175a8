use Rattle.std.proofs.Common.{◌≡◌, ◌≤◌, ◌++◌, length, drop, sym, ◌∙◌, arith}
use Rattle.std.proofs.lemmas.List.{length-take-le}
use Rattle.sg_record.specs.Records.{spelled}
use Rattle.sg_log.proofs.Waiting.{waiting_front, waiting_before, waiting_text, text_within, text_most, copied_text}
use Rattle.sg_log.proofs.log.Log.copy_waiting.Goals as goal

pub returns-in_default-clause-found : goal.returns-in_default-clause-found
returns-in_default-clause-found c r h =
    let log = c.args.self.now in
    rw c.in_default.is at (c.waiting_from.ensures.found (waiting_front log c.args.at r h) (waiting_before log c.args.at r h))

pub slice_bounds-copy_from_slice-end : goal.slice_bounds-copy_from_slice-end
slice_bounds-copy_from_slice-end c = omega (arith, text_most _ _ c.in-Some-size_of_first.ensures.is_record)

pub slice_bounds-copy_from_slice-end-2 : goal.slice_bounds-copy_from_slice-end-2
slice_bounds-copy_from_slice-end-2 c =
    let most : c.in-Some-size_of_first.size ≤ length c.args.into.now = omega (arith, text_most _ _ c.in-Some-size_of_first.ensures.is_record) in
    sym (length-take-le c.in-Some-size_of_first.size c.args.into.now most)

pub copy_from_slice-requires : goal.copy_from_slice-requires
copy_from_slice-requires c =
    let size = c.in-Some-size_of_first.size in
    let most : size ≤ length c.args.into.now = omega (arith, text_most _ _ c.in-Some-size_of_first.ensures.is_record) in
    let within = text_within c.in-Some.bytes.now size c.in-Some-size_of_first.ensures.is_record in
    length-take-le size c.args.into.now most ∙ sym (length-take-le size c.in-Some.bytes.now within)

pub returns-clause-text : goal.returns-clause-text
returns-clause-text c r h =
    let size = c.in-Some-size_of_first.size in
    let bytes = c.in-Some.bytes.now in
    let text : bytes ≡ spelled r ++ h.back = c.in-Some.ensures.bytes ∙ waiting_text c.args.self.now c.args.at r h in
    let found = c.in-Some-size_of_first.ensures.found r h.back h.fields text in
    let same : size ≡ length (spelled r) = cc in
    let most : size ≤ length c.args.into.now = omega (arith, text_most _ _ c.in-Some-size_of_first.ensures.is_record) in
    let long : length c.copy_from_slice.new.self ≡ size = c.copy_from_slice.ensures.len ∙ length-take-le size c.args.into.now most in
    copied_text bytes c.copy_from_slice.new.self (drop size c.args.into.now) h.back size r c.copy_from_slice.ensures.after long same text
