use Rattle.sg_ops.specs.Table.{table_of}
use Rattle.sg_space.proofs.Changing.{put_keeps}
use Rattle.sg_catalog.proofs.Turned.{fill_place_can, fill_place_turns}
use Rattle.sg_catalog.proofs.change.fill_place.Goals as goal

pub change-requires-clause-can : goal.change-requires-clause-can
change-requires-clause-can g c = λ told. let h = c.requires.can told in fill_place_can _ _ c.args.row _ c.spell_row-size.ensures.bytes c.spell_row-size.ensures.formed h.1 h.3

pub returns-clause-keeps : goal.returns-clause-keeps
returns-clause-keeps g c = λ told. put_keeps c.in_ok-change.ensures.did

pub returns-clause-did : goal.returns-clause-did
returns-clause-did g c = record {
  turns = λ t d i h can.
      let did = c.in_ok-change.ensures.did in
      fill_place_turns (table_of (λ p. (goal.RecordOp-dyn g p).record_meaning p.1) (λ p. (goal.RangeOp-dyn g p).range_meaning p.1) c.args.ops.now) c.args.row _ c.spell_row-size.ensures.bytes c.spell_row-size.ensures.formed h can (did.pages t) (did.bands t);
}
