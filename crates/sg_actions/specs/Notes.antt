-- What an undo finds and gives back, by the notes that stand and by an action's own inverses.
use Rattle.std.specs.Prelude.{◌≡◌, ℕ, ◌<◌, ◌≤◌, List, [], ◌∷◌, Some, None, map}
use Rattle.sg_ops.specs.Table.{Table}
use Rattle.sg_record.specs.Changes.{Change as Changing}
use Rattle.sg_action.specs.Opened.{IsNotFilled, put_back}
use Rattle.sg_action.specs.States.{State}
use Rattle.sg_recovery.specs.Chains.{Formed}
use Rattle.sg_recovery.specs.Log.{tally, notes_of}
use Rattle.sg_actions.specs.Changes.{meaning}
use Rattle.sg_actions.specs.Steps.{Steps}
use Rattle.sg_actions.specs.Counts.{Note}
use Rattle.sg_actions.specs.Undoing.{next_note, all_given_back}

-- With the transaction's own number as the stop, the note that is undone next is the first of its notes, and none where none is left. With
-- any stop it's the first of them, where it is behind the stop
pub record NextIsFirst : Type 0 where
  pub none : (rs : Steps) (txn : ℕ) → Formed rs → next_note txn txn rs ≡ None → notes_of txn (tally rs).notes ≡ []
  pub first : (rs : Steps) (txn : ℕ) (n : Note) (ns : List Note) → Formed rs → notes_of txn (tally rs).notes ≡ n ∷ ns → next_note txn txn rs ≡ Some n
  pub some : (rs : Steps) (txn stop : ℕ) (n : Note) → next_note txn stop rs ≡ Some n → (ns : List Note) × (notes_of txn (tally rs).notes ≡ n ∷ ns) × (stop < n.lsn)

-- What comes back changes no page and no band before these, and in each other band that none of the changes took it is what their inverses give,
-- the last first
pub record GivesAsPut : Type 0 where
  pub pages : (outside : ℕ) (cs : List Changing) (x : State) → (all_given_back outside cs x).pages ≡ x.pages
  pub inside : (outside : ℕ) (cs : List Changing) (x : State) (b : ℕ) → b < outside → (all_given_back outside cs x).bands b ≡ x.bands b
  pub bands : (outside : ℕ) (t : Table) (cs : List Changing) (x : State) (b : ℕ) → outside ≤ b → IsNotFilled (map meaning cs) b → (all_given_back outside cs x).bands b ≡ (put_back t (map meaning cs) x).bands b
