use Rattle.std.proofs.Common.{◌≡◌, ◌++◌, ◌∷◌, [], sym, ◌∙◌, refl, rules}
use Rattle.sg_ops.specs.Shipped.{fill_meaning}
use Rattle.sg_ops.proofs.Finds.{pushes}
use Rattle.sg_ops.specs.declared.entries.RangeEntry.TheVariants.{Brought}
use Rattle.sg_ops.specs.Table.{range_of, range_at}
use Rattle.sg_ops.proofs.ops.Ops.register_range.Goals as goal
use Rattle.sg_ops.proofs.ops.Ops.register_range.Goals.{in-Ok, in-Err}

pub returns-clause-ok : goal.returns-clause-ok
unfolding range_at
returns-clause-ok g c =
    elim c.match-push.branch [
      | in-Ok w ↦
          let pushed : c.push.new.self.items ≡ c.args.self.now.ranges.items ++ Brought c.args.op ∷ [] = search rules in
          rw w.result-is (record {
            ranges = pushes (λ m. m.code) (range_of (λ b. (goal.RangeOp-dyn g (b.vtable, b.value)).range_meaning b.value)) (fill_meaning ∷ []) c.args.self.now.ranges.items c.push.new.self.items (Brought c.args.op) c.range_code.result c.range_code.ensures (sym c.has_range.ensures ∙ c.if-has_range.false) pushed;
            records = refl;
          })
      | in-Err w ↦ rw w.result-is tt
    ]
