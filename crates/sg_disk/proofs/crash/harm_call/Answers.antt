use Rattle.std.proofs.Common.{◌≡◌, arith, rules}
use Rattle.sg_disk.proofs.Past.{write_spoils, drop_spoils}
use Rattle.sg_disk.proofs.crash.harm_call.Goals as goal

pub returns-then-eq-clause-outside : goal.returns-then-eq-clause-outside
returns-then-eq-clause-outside c i whole =
    let same : c.in-Write.of ≡ c.args.area = search rules in
    c.damage.ensures.outside i (λ low high. whole (search rules) (rw (c.in-Write.is, same) (write_spoils c.args.area c.in-Write.at c.in-Write.len c.in-Write.old i low (omega (arith, c.saturating_add.ensures)))))

pub returns-then-eq-2-clause-outside : goal.returns-then-eq-2-clause-outside
returns-then-eq-2-clause-outside c i whole =
    let same : c.in-Drop.of ≡ c.args.area = search rules in
    c.damage_rest.ensures.outside i (λ low. whole (search rules) (rw (c.in-Drop.is, same) (drop_spoils c.args.area c.in-Drop.at c.in-Drop.old i low)))
