use Rattle.std.proofs.Common.{◌≡◌, ℕ, List, ◌∙◌, ap, inl, arith}
use Rattle.sg_slotted.proofs.Layouts.{formatted}
use Rattle.sg_base.specs.Page.{kind_of, lsn_of, header_of, Header}
use Rattle.sg_slotted.proofs.Outside.{same_number}
use Rattle.sg_slotted.proofs.Kept.{IsApart, slotted_kept, slots_kept}
use Rattle.sg_slotted.proofs.calls.format.Goals as goal

header : (p0 p1 p2 p3 : List ℕ) (kind : ℕ) → header_of p1 ≡ header_of p0 → kind_of p2 ≡ kind → lsn_of p2 ≡ lsn_of p1 → header_of p3 ≡ record (header_of p2) { links = (0, 0) } → header_of p3 ≡ record { kind = kind; lsn = lsn_of p0; links = (0, 0) }
header p0 p1 p2 p3 kind e1 e2 e3 e4 =
    let lsn : lsn_of p2 ≡ lsn_of p0 = e3 ∙ ap (λ (h : Header). h.lsn) e1 in
    e4 ∙ (ap (λ (k : ℕ). record { kind = k; lsn = lsn_of p2; links = (0, 0) }) e2 ∙ ap (λ (n : ℕ). record { kind = kind; lsn = n; links = (0, 0) }) lsn)

pub set_links-requires : goal.set_links-requires
set_links-requires c = slotted_kept c.reset.new.page c.put_u8.new.page 8 9 c.reset.ensures.slotted c.put_u8.ensures.others (record { outside = inl (omega arith); before = omega arith })

pub returns : goal.returns
returns c =
    let p1 : List ℕ = c.reset.new.page in
    let p2 : List ℕ = c.put_u8.new.page in
    let k = c.put_u8.ensures.others in
    let apart : IsApart 8 9 = record { outside = inl (omega arith); before = omega arith } in
    record {
      slotted = c.set_links.ensures.slotted;
      slots = c.set_links.ensures.slots ∙ (slots_kept p1 p2 8 9 c.reset.ensures.slotted k apart ∙ c.reset.ensures.slots);
      header = header c.args.page.now p1 p2 c.set_links.new.page c.args.kind c.reset.ensures.header c.put_u8.ensures.written (same_number p1 p2 8 9 0 8 k (inl (omega arith))) c.set_links.ensures.header;
      bytes = formatted c.args.page.now p1 p2 c.set_links.new.page c.args.kind c.reset.ensures.bytes c.put_u8.ensures.bytes c.set_links.ensures.bytes;
    }
