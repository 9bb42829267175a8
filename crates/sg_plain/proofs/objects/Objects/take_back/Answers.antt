use Rattle.std.proofs.Common.{List, Option, map, ap, ◌∙◌}
use Rattle.std.specs.FinMap.{get}
use Rattle.sg_model.specs.Objects.{Object, Objects}
use Rattle.sg_model.specs.Undo.{undo_all_on}
use Rattle.sg_plain.specs.declared.undo.Noted as code_noted
use Rattle.sg_plain.specs.Undone.{shown_noted, undo_in}
use Rattle.sg_plain.proofs.objects.Objects.take_back.Goals as goal

pub returns-clause-back : goal.returns-clause-back
returns-clause-back c = λ name.
    let of : List code_noted.Noted → Option Object → Option Object = λ notes object. undo_all_on name (map shown_noted notes) object in
    c.in_ok-undo_all.ensures name ∙ (ap (λ (notes : List code_noted.Noted). of notes (get c.in_ok-back.back name)) c.deref.ensures.value ∙ ap (λ (s : Objects). undo_in c.args.changes.now name (get s name)) c.in_ok-back.ensures)
