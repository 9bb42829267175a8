use Rattle.sg_tests_pages.proofs.Silent.{untold}
use Rattle.sg_tests_pages.proofs.stores.Trial.has_note.Goals as goal

pub next_undo-requires : goal.next_undo-requires
next_undo-requires g c = λ told. absurd (untold told)
