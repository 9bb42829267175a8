use Rattle.std.proofs.Common.{ℕ, ◌≤◌, List, length, arith, subst}
use Rattle.sg_base.specs.Overwritten.{Wrote}
use Rattle.sg_base.proofs.Overwriting.{wrote_on}
use Rattle.sg_objects.specs.Notes.{head_bytes}
use Rattle.sg_objects.proofs.note.put_head.Goals as goal

pub returns-clause-wrote : goal.returns-clause-wrote
returns-clause-wrote c =
    let within : 0 ≤ length c.args.into.now = omega arith in
    subst (λ (t : List ℕ). Wrote c.args.into.now 0 (head_bytes c.args.code t) c.put_text.new.into c.put_text.result) c.text-text.ensures
    (wrote_on within (wrote_on within c.put_u8-at.ensures c.put_u8-at-2.ensures) c.put_text.ensures)
