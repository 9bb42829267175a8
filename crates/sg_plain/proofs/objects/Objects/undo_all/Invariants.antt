use Rattle.std.proofs.Common.{◌≡◌, ◌≤◌, ℕ, List, length, map, take}
use Rattle.std.specs.FinMap.{get}
use Rattle.sg_model.specs.Undo.{undo_all_on}
use Rattle.sg_plain.specs.Undone.{shown_noted}
use Rattle.sg_plain.proofs.objects.Objects.undo_all.Given as goal

abbrev pub invariant-left : goal.invariant-left
invariant-left l = record {
  within : l.left ≤ length l.notes;
  back : (name : List ℕ) → undo_all_on name (map shown_noted (take l.left l.notes)) (get l.self name) ≡ undo_all_on name (map shown_noted l.notes) (get l.initial.self name);
}

abbrev pub decreases-left : goal.decreases-left
decreases-left l = l.left
