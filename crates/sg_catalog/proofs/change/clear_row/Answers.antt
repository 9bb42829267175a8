use Rattle.sg_ops.specs.Table.{table_of}
use Rattle.sg_catalog.proofs.Turned.{clear_row_can, clear_row_turns}
use Rattle.sg_catalog.proofs.change.clear_row.Goals as goal

pub change-requires-clause-can : goal.change-requires-clause-can
change-requires-clause-can g c = λ told. let h = c.requires.can told in clear_row_can _ _ h.1 h.3

pub returns-clause-did : goal.returns-clause-did
returns-clause-did g c = record {
  turns = λ t d i h has.
      let did = c.in_ok-change.ensures.did in
      clear_row_turns (table_of (λ p. (goal.RecordOp-dyn g p).record_meaning p.1) (λ p. (goal.RangeOp-dyn g p).range_meaning p.1) c.args.ops.now) h has (did.pages t) (did.bands t);
}
