use Rattle.std.proofs.Common.{◌≡◌, ◌+◌, ◌-◌, ℕ, List, [], ◌∷◌, ◌++◌, map, take, sym, ap, ◌∙◌, arith}
use Rattle.std.specs.FinMap.{get}
use Rattle.std.proofs.lemmas.List.{take_more}
use Rattle.sg_model.specs.Undo.{undo_all_on}
use Rattle.sg_plain.specs.declared.undo.Noted as code_noted
use Rattle.sg_plain.specs.Undone.{shown_noted}
use Rattle.sg_plain.proofs.Taken.{undo_last, taken_back}
use Rattle.sg_plain.proofs.objects.Objects.undo_all.Goals as goal

pub left-preserved : goal.left-preserved
left-preserved c =
    let notes : List code_noted.Noted = c.args.notes.now in
    let i : ℕ = c.left.left - 1 in
    let n : code_noted.Noted = c.index-notes-left.result in
    let one : i + 1 ≡ c.left.left = omega (arith, c.left-test.true) in
    let more : take c.left.left notes ≡ take i notes ++ n ∷ [] =
    ap (λ (k : ℕ). take k notes) (sym one) ∙ (take_more notes i n (omega (arith, c.left-test.true, c.left.invariant.within)) ∙ ap (λ (x : code_noted.Noted). take i notes ++ x ∷ []) (sym c.index-notes-left.is)) in
    record {
      within = omega (arith, c.left.invariant.within);
      back = λ name.
          ap (undo_all_on name (map shown_noted (take i notes))) (taken_back c.left.self c.undo_one.new.self n name c.in_ok-undo_one.ensures)
          ∙ (sym (undo_last name (take c.left.left notes) (take i notes) n (get c.left.self name) more) ∙ c.left.invariant.back name);
    }
