use Rattle.std.proofs.Common.{[], ◌≡◌, ◌⊎◌, subst, sym, ◌∙◌}
use Rattle.sg_frames.specs.declared.place.Place.{Place}
use Rattle.sg_frames.specs.declared.place.Place.TheVariants.{Page}
use Rattle.sg_frames.specs.Held.{HereBut}
use Rattle.sg_frames.proofs.Lent.{here_but-none, here_but-taken, here_but-given, none_lent-here_but}
use Rattle.sg_tests_recovery.proofs.redo.a_page_of_255_that_is_laid_over.Goals as goal

pub end-requires : goal.end-requires
end-requires g c =
    let made = c.in_ok-frames in
    let taken = here_but-taken (λ _. ⊥) made.frames c.take.new.self (Page 0) [] c.take.ensures.left (here_but-none made.frames made.ensures.none_lent) in
    let given = here_but-given (λ _. ⊥) c.take.new.self c.give.new.self c.turned-loan.result.1.place _ c.give.ensures.held c.give.ensures.here
    (subst (λ (p : Place). HereBut (λ other. (other ≡ p) ⊎ ⊥) c.take.new.self) (sym (c.turned-loan.ensures.place ∙ c.take.ensures.place)) taken) in
    record { none_lent = none_lent-here_but c.give.new.self given }
