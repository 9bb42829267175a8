use Rattle.std.proofs.Common.{◌≡◌, ℕ, List, [], length, ◌∙◌, inl, arith, get_or}
use Rattle.sg_base.specs.Page.{slots_of, count_of, start_of, IsSlotted}
use Rattle.sg_slotted.proofs.Outside.{same_number, same_byte}
use Rattle.sg_slotted.proofs.Kept.{emptied, header_kept}
use Rattle.sg_slotted.proofs.Layouts.{emptied_is}
use Rattle.sg_slotted.proofs.steps.reset.Goals as goal

pub returns : goal.returns
returns c =
    let p0 : List ℕ = c.args.page.now in
    let p1 : List ℕ = c.put_u8.new.page in
    let p2 : List ℕ = c.put_u16.new.page in
    let p3 : List ℕ = c.put_u16-2.new.page in
    let p4 : List ℕ = c.put_u16-3.new.page in
    let k1 = c.put_u8.ensures.others in
    let k2 = c.put_u16.ensures.others in
    let k3 = c.put_u16-2.ensures.others in
    let k4 = c.put_u16-3.ensures.others in
    let size : length p4 ≡ 4096 = k4.size ∙ (k3.size ∙ (k2.size ∙ (k1.size ∙ c.requires))) in
    let unused : get_or p4 9 0 ≡ 0 = same_byte p3 p4 14 16 9 k4 (inl (omega arith)) ∙ (same_byte p2 p3 12 14 9 k3 (inl (omega arith)) ∙ (same_byte p1 p2 10 12 9 k2 (inl (omega arith)) ∙ c.put_u8.ensures.written)) in
    let count : count_of p4 ≡ 0 = same_number p3 p4 14 16 10 2 k4 (inl (omega arith)) ∙ (same_number p2 p3 12 14 10 2 k3 (inl (omega arith)) ∙ c.put_u16.ensures.written) in
    let start : start_of p4 ≡ 4096 = same_number p3 p4 14 16 12 2 k4 (inl (omega arith)) ∙ c.put_u16-2.ensures.written in
    let all : IsSlotted p4 × (slots_of p4 ≡ []) = emptied p4 size unused count start c.put_u16-3.ensures.written in
    record {
      slotted = all.0;
      slots = all.1;
      header = header_kept p3 p4 14 16 k4 (omega arith) (omega arith) ∙ (header_kept p2 p3 12 14 k3 (omega arith) (omega arith) ∙ (header_kept p1 p2 10 12 k2 (omega arith) (omega arith) ∙ header_kept p0 p1 9 10 k1 (omega arith) (omega arith)));
      lost = c.put_u16-3.ensures.written;
      bytes = emptied_is p0 p1 p2 p3 p4 c.put_u8.ensures.bytes c.put_u16.ensures.bytes c.put_u16-2.ensures.bytes c.put_u16-3.ensures.bytes;
    }
