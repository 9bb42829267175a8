-- EACH PAGE THAT IS TAKEN SAYS SOMETHING, behind a walk.
use mathlib.Core.Logic.{∥∥₁_elim}
use Rattle.std.proofs.Common.{◌≡◌, ℕ, Bool, false, List, length, Option, sym, subst}
use Rattle.std.proofs.Props.{props}
use Rattle.sg_base.specs.Sheet.{Sheet}
use Rattle.sg_ops.specs.Table.{Table}
use Rattle.sg_action.specs.States.{State}
use Rattle.sg_actions.specs.Engine.{EngineSeen, led, now_of}
use Rattle.sg_actions.specs.Images.{Recovering}
use Rattle.sg_actions.specs.Taken.{AreSaid}
use Rattle.sg_found.specs.Looks.{AreBytes}
use Rattle.sg_resumed.proofs.Counted.{looks_now}
use Rattle.sg_unread.specs.Unread.{LooksOn}
use Rattle.sg_regained.proofs.Flagged.{said_of}

said_prop : (pages : List Bool) (at : ℕ → Option Sheet) → IsProp (AreSaid pages at)
said_prop pages at = hlevel props

-- each says something behind a walk that looked at each
pub said_seen : {recovers : Table → Recovering} {a b : EngineSeen} {m n : Table → State → Type 0} (pages : List Bool) (count : ℕ) → length pages ≡ count → ∥ ((t : Table) × (from : State) × m t from) ∥₁ → ((t : Table) → LooksOn recovers t a b m n) → (b.Told → b.failed ≡ false)
    → ((t : Table) (from : State) → m t from → a.Told → a.now ≡ now_of t (led from a)) → ((t : Table) (from : State) → n t from → b.Told → b.now ≡ now_of t (led from b)) → ((t : Table) (from : State) → m t from → a.Told → AreBytes pages count a.now) → b.Told → AreSaid pages b.now.pages
said_seen {recovers} {a} {b} {m} {n} pages count long some looks whole is is' bytes told' = ∥∥₁_elim some (said_prop pages b.now.pages) (λ k.
    let l = looks k.0 in
    let told = l.told told' in
    let same : b.now ≡ a.now = looks_now l k.1 k.2 told whole told' (is k.0 k.1 k.2 told) (is' k.0 k.1 (l.means k.1 k.2) told') in
    subst (λ (x : State). AreSaid pages x.pages) (sym same) (said_of pages a.now (subst (λ (n : ℕ). AreBytes pages n a.now) (sym long) (bytes k.0 k.1 k.2 told))))
