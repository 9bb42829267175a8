-- STEPS CHANGE NO NUMBER of pages or bands.
use Rattle.std.proofs.Common.{◌≡◌, ◌∙◌, [], ◌∷◌, refl}
use Rattle.sg_ops.specs.Table.{Table}
use Rattle.sg_record.specs.Changes.{Change as Changing}
use Rattle.sg_record.specs.Changes.Change.{Page, SegWrite, SegOp}
use Rattle.sg_recovery.specs.Log.Record.{Begin, Change, TopEnd, PhysComp, TopVoid, CompEnd, Save, Commit, End}
use Rattle.sg_action.specs.States.{State, apply}
use Rattle.sg_actions.specs.Changes.{meaning}
use Rattle.sg_actions.specs.Steps.{Step, Steps, redo, repeated}

change_sized : (t : Table) (x : State) (c : Changing) → (apply t x (meaning c)).size ≡ x.size
change_sized t x (Page c) = refl
change_sized t x (SegWrite c) = refl
change_sized t x (SegOp c) = refl

redo_sized : (t : Table) (r : Step) (x : State) → (redo t r x).size ≡ x.size
redo_sized t (Begin u p) x = refl
redo_sized t (Change u p c) x = change_sized t x c
redo_sized t (TopEnd u p w n) x = refl
redo_sized t (PhysComp u p w c) x = change_sized t x c
redo_sized t (TopVoid u p w) x = refl
redo_sized t (CompEnd u p w) x = refl
redo_sized t (Save u p m) x = refl
redo_sized t (Commit u p) x = refl
redo_sized t (End u p) x = refl

-- there are as many behind them as before
pub repeated_sized : (t : Table) (x : State) (rs : Steps) → (repeated t x rs).size ≡ x.size
repeated_sized t x [] = refl
repeated_sized t x (r ∷ rs) = redo_sized t r.is (repeated t x rs) ∙ repeated_sized t x rs
