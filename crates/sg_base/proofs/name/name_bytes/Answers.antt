use Rattle.std.proofs.Common.{Bool, sym, ap, ◌∙◌}
use Rattle.std.specs.Prelude.{◌&&◌, slice_index_or}
use Rattle.std.proofs.lemmas.List.{take_more}
use Rattle.std.proofs.lemmas.List.Folds.{list_all_more}
use Rattle.sg_base.specs.Spelling.{is_name_byte}
use Rattle.sg_base.proofs.Made.{byte_more}
use Rattle.sg_base.proofs.name.name_bytes.Goals as goal

pub loop-i-preserved : goal.loop-i-preserved
loop-i-preserved c = record {
  bytes = byte_more c.args.text.now c.loop-i.bytes c.loop-i.i _ c.loop-i.invariant.bytes c.loop-i-test.true c.requires (take_more c.args.text.now c.loop-i.i 0 c.loop-i-test.true);
  all =
      list_all_more is_name_byte c.args.text.now c.loop-i.i 0 c.loop-i-test.true
      ∙ (ap (λ (b : Bool). b && is_name_byte (slice_index_or c.args.text.now c.loop-i.i 0)) c.loop-i.invariant.all ∙ (sym c.is_name_byte.ensures ∙ c.if-not-is_name_byte.false));
}
