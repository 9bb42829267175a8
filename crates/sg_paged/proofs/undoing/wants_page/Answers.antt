use Rattle.std.proofs.Common.{ℕ, ◌==◌, List, ◌∙◌, sym, ap}
use Rattle.sg_objects.specs.Notes.{byte_at, rest_said}
use Rattle.sg_paged.proofs.Wanting.{wants_is}
use Rattle.sg_paged.proofs.undoing.wants_page.Goals as goal

pub returns : goal.returns
returns c = c.is_of_entry.ensures ∙ (ap (λ (bs : List ℕ). byte_at bs 0 == 8) c.bytes.ensures ∙ sym (wants_is (byte_at c.args.note.now 0) (rest_said c.args.note.now)))
