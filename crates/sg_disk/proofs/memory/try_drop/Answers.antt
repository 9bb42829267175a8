use Rattle.std.proofs.Common.{◌≡◌, ◌∙◌, ap, ℕ, List, rules, drop}
use Rattle.sg_disk.specs.Disk.{put}
use Rattle.sg_disk.specs.Memory.{bytes_of}
use Rattle.sg_disk.proofs.Vectors.{taken, back_drop}
use Rattle.sg_disk.proofs.memory.try_drop.Goals as goal

pub returns-clause-recorded : goal.returns-clause-recorded
returns-clause-recorded c =
    let is : c.in_ok-old.old.items ≡ drop c.args.at c.args.bytes.now.items = search rules in
    let cuts = λ (i : ℕ). ap (λ (l : List ℕ). bytes_of l i) c.cut_at.ensures ∙ taken c.args.bytes.now.items c.args.at i in
    (c.in_ok-old.old, search rules, λ i. ap (λ (l : List ℕ). put c.args.at l (bytes_of c.cut_at.new.bytes.items) i) is ∙ back_drop c.args.bytes.now.items c.args.at (bytes_of c.cut_at.new.bytes.items) cuts i)
