use Rattle.std.proofs.Common.{◌≡◌, ℕ, List, inl, inr, arith}
use Rattle.sg_base.specs.Page.{kind_of, lsn_of, number_at, header_of}
use Rattle.sg_slotted.proofs.Outside.{same_number, same_byte}
use Rattle.sg_slotted.proofs.Kept.{IsApart, slotted_kept, slots_kept}
use Rattle.sg_slotted.proofs.Layouts.{lsn_set}
use Rattle.sg_slotted.proofs.calls.set_lsn.Goals as goal

header : (old new : List ℕ) (lsn : ℕ) → kind_of new ≡ kind_of old → lsn_of new ≡ lsn → number_at new 16 4 ≡ number_at old 16 4 → number_at new 20 4 ≡ number_at old 20 4 → header_of new ≡ record (header_of old) { lsn = lsn }
header old new lsn kind lsn_is left right = cc

pub returns : goal.returns
returns c =
    let old : List ℕ = c.args.page.now in
    let new : List ℕ = c.put_u64.new.page in
    let k = c.put_u64.ensures.others in
    let apart : IsApart 0 8 = record { outside = inl (omega arith); before = omega arith } in
    record {
      slotted = slotted_kept old new 0 8 c.requires k apart;
      slots = slots_kept old new 0 8 c.requires k apart;
      header = header old new c.args.lsn (same_byte old new 0 8 8 k (inr (omega arith))) c.put_u64.ensures.written (same_number old new 0 8 16 4 k (inr (omega arith))) (same_number old new 0 8 20 4 k (inr (omega arith)));
      bytes = lsn_set old new c.args.lsn c.put_u64.ensures.bytes;
    }
