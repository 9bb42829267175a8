use Rattle.std.proofs.Common.{◌≡◌, ◌<◌, ◌+◌, ◌*◌, ◌-◌, sym, ◌∙◌, ap, ℕ, List, Some, take, drop, arith}
use Rattle.sg_base.specs.Page.{count_of, offset_at, length_at, bytes_at, number_at, cell_in, slots_of}
use Rattle.sg_base.proofs.Slots.{cell_in_past, cell_in-slots_below, slot_at_empty, slot_at_full}
use Rattle.sg_base.proofs.page.SlotView.slot.Goals as goal

pub returns-then-s-u16_at : goal.returns-then-s-u16_at
returns-then-s-u16_at c = sym (cell_in_past c.args.self.now.page.now (count_of c.args.self.now.page.now) c.args.s (omega arith))

pub returns-then-offset-eq0 : goal.returns-then-offset-eq0
returns-then-offset-eq0 c =
    let page = c.args.self.now.page.now in
    let empty : offset_at page c.args.s ≡ 0 = omega arith in
    sym (cell_in-slots_below page (count_of page) c.args.s (omega arith) ∙ slot_at_empty page c.args.s empty)

cell : (page : List ℕ) (s o l : ℕ) → s < count_of page → o ≡ offset_at page s → l ≡ length_at page s → 0 < o → Some (take (o + l - o) (drop o page)) ≡ cell_in (slots_of page) s
unfolding bytes_at
cell page s o l below at long full =
    let n : o + l - o ≡ length_at page s = omega arith in
    let held : 0 < offset_at page s = omega arith in
    let got : cell_in (slots_of page) s ≡ Some (bytes_at page (offset_at page s) (length_at page s)) = cell_in-slots_below page (count_of page) s below ∙ slot_at_full page s held in
    ap (λ (m : ℕ). Some (take m (drop o page))) n ∙ (ap (λ (m : ℕ). Some (take (length_at page s) (drop m page))) at ∙ sym got)

pub returns : goal.returns
returns c =
    let page = c.args.self.now.page.now in
    let there : 24 + 4 * c.args.s + 2 ≡ 26 + 4 * c.args.s = omega arith in
    cell page c.args.s c.u16_at-offset.result c.u16_at-length.result (omega arith) c.u16_at-offset.ensures (c.u16_at-length.ensures ∙ ap (λ (a : ℕ). number_at page a 2) there) (omega arith)
