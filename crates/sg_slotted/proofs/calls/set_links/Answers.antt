use Rattle.std.proofs.Common.{◌≡◌, ℕ, List, ◌∙◌, inl, inr, arith}
use Rattle.sg_slotted.proofs.Layouts.{links_set}
use Rattle.sg_base.specs.Page.{kind_of, lsn_of, number_at, header_of, IsSlotted}
use Rattle.sg_slotted.proofs.Outside.{same_number, same_byte}
use Rattle.sg_slotted.proofs.Kept.{IsApart, slotted_kept, slots_kept}
use Rattle.sg_slotted.proofs.calls.set_links.Goals as goal

header : (old new : List ℕ) (a b : ℕ) → kind_of new ≡ kind_of old → lsn_of new ≡ lsn_of old → number_at new 16 4 ≡ a → number_at new 20 4 ≡ b → header_of new ≡ record (header_of old) { links = (a, b) }
header old new a b kind lsn left right = cc

pub returns : goal.returns
returns c =
    let p0 : List ℕ = c.args.page.now in
    let p1 : List ℕ = c.put_u32.new.page in
    let p2 : List ℕ = c.put_u32-2.new.page in
    let k1 = c.put_u32.ensures.others in
    let k2 = c.put_u32-2.ensures.others in
    let apart1 : IsApart 16 20 = record { outside = inr (omega arith); before = omega arith } in
    let apart2 : IsApart 20 24 = record { outside = inr (omega arith); before = omega arith } in
    let slotted : IsSlotted p1 = slotted_kept p0 p1 16 20 c.requires k1 apart1 in
    record {
      slotted = slotted_kept p1 p2 20 24 slotted k2 apart2;
      slots = slots_kept p1 p2 20 24 slotted k2 apart2 ∙ slots_kept p0 p1 16 20 c.requires k1 apart1;
      header = header p0 p2 c.args.a c.args.b (same_byte p1 p2 20 24 8 k2 (inl (omega arith)) ∙ same_byte p0 p1 16 20 8 k1 (inl (omega arith))) (same_number p1 p2 20 24 0 8 k2 (inl (omega arith)) ∙ same_number p0 p1 16 20 0 8 k1 (inl (omega arith))) (same_number p1 p2 20 24 16 4 k2 (inl (omega arith)) ∙ c.put_u32.ensures.written) c.put_u32-2.ensures.written;
      bytes = links_set p0 p1 p2 c.args.a c.args.b c.put_u32.ensures.bytes c.put_u32-2.ensures.bytes;
    }
