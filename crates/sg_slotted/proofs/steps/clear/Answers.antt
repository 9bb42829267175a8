use Rattle.std.proofs.Common.{◌≡◌, ◌≤◌, ◌+◌, ◌*◌, ℕ, List, length, None, arith, set, ap, ◌∙◌}
use Rattle.sg_base.specs.Page.{slots_of, lost_of, number_at, length_at}
use Rattle.sg_slotted.proofs.Changes.{cleared, IsChanged, has_cell, entry_within, lost_fits}
use Rattle.sg_slotted.proofs.Layouts.{cleared_is}
use Rattle.sg_slotted.proofs.steps.clear.Goals as goal

pub number_u16-size-requires : goal.number_u16-size-requires
number_u16-size-requires c =
    let p0 : List ℕ = c.args.page.now in
    let within : 28 + 4 * c.args.slot ≤ length p0 = entry_within p0 c.args.slot c.requires.slotted (has_cell p0 c.args.slot c.requires.full).below in
    omega arith

same_place : (page : List ℕ) (s : ℕ) → number_at page (24 + 4 * s + 2) 2 ≡ length_at page s
same_place page s = let e : 24 + 4 * s + 2 ≡ 26 + 4 * s = omega arith in ap (λ (a : ℕ). number_at page a 2) e

pub overflow_add-lost : goal.overflow_add-lost
overflow_add-lost c =
    let p0 : List ℕ = c.args.page.now in
    let size : c.number_u16-size.result ≡ length_at p0 c.args.slot = c.number_u16-size.ensures ∙ same_place p0 c.args.slot in
    let fits : lost_of p0 + length_at p0 c.args.slot ≤ 4096 = lost_fits p0 c.args.slot c.requires.slotted c.requires.full in
    omega arith

pub put_u16-requires-2 : goal.put_u16-requires-2
put_u16-requires-2 c =
    let p0 : List ℕ = c.args.page.now in
    let within : 28 + 4 * c.args.slot ≤ length p0 = entry_within p0 c.args.slot c.requires.slotted (has_cell p0 c.args.slot c.requires.full).below in
    omega arith

pub returns : goal.returns
returns c =
    let p0 : List ℕ = c.args.page.now in
    let p2 : List ℕ = c.put_u16-2.new.page in
    let size : c.number_u16-size.result ≡ length_at p0 c.args.slot = c.number_u16-size.ensures ∙ same_place p0 c.args.slot in
    let all : IsChanged p0 p2 (set (slots_of p0) c.args.slot None) =
    cleared p0 c.put_u16.new.page p2 c.args.slot c.requires.slotted c.requires.full (omega arith) c.put_u16.ensures.others c.put_u16-2.ensures.written c.put_u16-2.ensures.others in
    record { slotted = all.slotted; slots = all.slots; header = all.header; bytes = cleared_is p0 c.put_u16.new.page p2 c.args.slot c.number_u16-lost.result c.number_u16-size.result c.number_u16-lost.ensures size c.put_u16.ensures.bytes c.put_u16-2.ensures.bytes }
