use Rattle.sg_ops.specs.Table.{table_of}
use Rattle.sg_catalog.proofs.Turned.{set_row_can, set_row_turns, set_row_keeps}
use Rattle.sg_catalog.proofs.change.set_row.Goals as goal

pub change-requires-clause-can : goal.change-requires-clause-can
change-requires-clause-can g c = λ told. let h = c.requires.can told in set_row_can _ _ c.args.row _ c.spell_row-size.ensures.bytes c.spell_row-size.ensures.formed h.1 (h.3).has

pub returns-clause-keeps : goal.returns-clause-keeps
returns-clause-keeps g c = λ told. let h = c.requires.can told in set_row_keeps c.args.row _ c.spell_row-size.ensures.bytes h.1 h.3 c.in_ok-change.ensures.did

pub returns-clause-did : goal.returns-clause-did
returns-clause-did g c = record {
  turns = λ t d i h has.
      let did = c.in_ok-change.ensures.did in
      set_row_turns (table_of (λ p. (goal.RecordOp-dyn g p).record_meaning p.1) (λ p. (goal.RangeOp-dyn g p).range_meaning p.1) c.args.ops.now) c.args.row _ c.spell_row-size.ensures.bytes c.spell_row-size.ensures.formed h has.has (did.pages t) (did.bands t);
}
