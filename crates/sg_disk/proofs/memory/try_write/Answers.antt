use Rattle.std.proofs.Common.{◌≡◌, ◌∙◌, ap, ℕ, List, rules, length, take, drop, ◌-◌, ◌+◌}
use Rattle.sg_disk.specs.Memory.{bytes_of}
use Rattle.sg_disk.proofs.Vectors.{over, back_slice, put_same}
use Rattle.sg_disk.proofs.memory.try_write.Goals as goal

pub returns-clause-bytes : goal.returns-clause-bytes
returns-clause-bytes c i =
    ap (λ (l : List ℕ). bytes_of l i) c.overwrite.ensures ∙ over c.grow.new.bytes.items c.args.new.now c.args.at c.in_ok-grow.ensures.room i
    ∙ put_same c.args.at c.args.new.now (bytes_of c.grow.new.bytes.items) (bytes_of c.args.bytes.now.items) i (c.grow.ensures.same i)

pub returns-clause-recorded : goal.returns-clause-recorded
returns-clause-recorded c =
    let bytes = λ (i : ℕ). ap (λ (l : List ℕ). bytes_of l i) c.overwrite.ensures ∙ over c.grow.new.bytes.items c.args.new.now c.args.at c.in_ok-grow.ensures.room i in
    let old : c.in_ok-old.old.items ≡ take (c.args.at + length c.args.new.now - c.args.at) (drop c.args.at c.grow.new.bytes.items) =
    c.in_ok-old.ensures.items_if_clones_equal (λ x y same. same) ∙ ap (λ (l : List ℕ). take (c.args.at + length c.args.new.now - c.args.at) (drop c.args.at l)) c.deref.ensures.value in
    (c.in_ok-old.old, search rules, λ i. back_slice c.grow.new.bytes.items c.args.new.now c.in_ok-old.old.items c.args.at c.in_ok-grow.ensures.room old (bytes_of c.overwrite.new.bytes.items) bytes i ∙ c.grow.ensures.same i)
