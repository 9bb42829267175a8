-- What the steps make of what the store first said, with more records.
use Rattle.std.proofs.Common.{List, [], ◌∷◌, ◌++◌, sym, ap, ◌∙◌}
use Rattle.sg_log.specs.Frames.{Numbered}
use Rattle.sg_ops.specs.Table.{Table}
use Rattle.sg_action.specs.States.{State}
use Rattle.sg_engine.specs.Effects.{IsBy}
use Rattle.sg_engine.specs.History.{AllThere}
use Rattle.sg_engine.specs.Engine.{Origin, entries, geometry}
use Rattle.sg_actions.specs.Steps.{repeated}
use Rattle.sg_phys_laws.specs.Poised.{AreSaid}
use Rattle.sg_phys_laws.specs.Recovers.{cut_at}
use Rattle.sg_phys_laws.specs.States.{state_of, steps_of, homes_of, Agrees}
use Rattle.sg_phys_laws.proofs.Agreeing.{repeated_both}
use Rattle.sg_phys_laws.proofs.Cutting.{repeated_cut, all_in}

there_back : (o : Origin) (xs ys : List Numbered) → AllThere (geometry o.super) (entries o (xs ++ ys)) → AllThere (geometry o.super) (entries o ys)
there_back o [] ys there = there
there_back o (x ∷ xs) ys there = there_back o xs ys there.1

-- WHAT MORE STEPS MAKE is what more records made, where that is so of those before
pub said_more : (t : Table) (from : State) (o : Origin) (ds more : List Numbered) → IsBy t o → AllThere (geometry o.super) (entries o (ds ++ more)) → Agrees t o ds more
    → AreSaid t from o ds → AreSaid t from o (ds ++ more)
said_more t from o ds more by there agrees said =
    ap (cut_at o.super) agrees.is
    ∙ (sym (repeated_cut o.super t (state_of (homes_of o ds)) (steps_of more) (all_in o t more by (there_back o ds more there)))
    ∙ (ap (λ (x : State). repeated t x (steps_of more)) said
    ∙ sym (repeated_both t from ds more)))
