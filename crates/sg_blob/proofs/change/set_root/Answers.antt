use Rattle.sg_ops.specs.Table.{table_of}
use Rattle.sg_space.proofs.Known.{writes_none}
use Rattle.sg_blob.proofs.Roots.{root_possible, root_keeps, root_turns}
use Rattle.sg_blob.proofs.change.set_root.Goals as goal

pub change-requires-clause-can : goal.change-requires-clause-can
change-requires-clause-can g c = λ told. root_possible _ _ c.args.count c.args.peak _ c.spell_root-cell.ensures (c.requires.there told).1.first

pub returns-clause-did : goal.returns-clause-did
returns-clause-did g c =
    let did = c.in_ok-change.ensures.did in
    record {
      keeps = λ t. root_keeps c.args.count c.args.peak _ c.spell_root-cell.ensures (c.requires.there t).1.first did;
      turns = λ t r h can. root_turns (table_of (λ p. (goal.RecordOp-dyn g p).record_meaning p.1) (λ p. (goal.RangeOp-dyn g p).range_meaning p.1) c.args.ops.now) c.args.count c.args.peak _ c.spell_root-cell.ensures c.requires.below c.requires.few h (did.pages t) (did.bands t);
      wrote = λ t r h can. writes_none did.wrote;
    }
