use Rattle.std.proofs.Common.{◌≡◌, ◌++◌, ◌∷◌, [], sym, ◌∙◌, refl, rules}
use Rattle.sg_ops.proofs.Finds.{pushes}
use Rattle.sg_ops.specs.declared.entries.RecordEntry.TheVariants.{Brought}
use Rattle.sg_ops.specs.Table.{record_of, record_at}
use Rattle.sg_ops.proofs.ops.Ops.register_record.Goals as goal
use Rattle.sg_ops.proofs.ops.Ops.register_record.Goals.{in-Ok, in-Err}

pub returns-clause-ok : goal.returns-clause-ok
unfolding record_at
returns-clause-ok g c =
    elim c.match-push.branch [
      | in-Ok w ↦
          let pushed : c.push.new.self.items ≡ c.args.self.now.records.items ++ Brought c.args.op ∷ [] = search rules in
          rw w.result-is (record {
            records = pushes (λ m. m.code) (record_of (λ b. (goal.RecordOp-dyn g (b.vtable, b.value)).record_meaning b.value)) [] c.args.self.now.records.items c.push.new.self.items (Brought c.args.op) c.record_code.result c.record_code.ensures (sym c.has_record.ensures ∙ c.if-has_record.false) pushed;
            ranges = refl;
          })
      | in-Err w ↦ rw w.result-is tt
    ]
