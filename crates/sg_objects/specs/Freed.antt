-- WHAT FREES OBJECTS: the body of one, and what was dropped.
use Rattle.std.specs.Prelude.{◌≡◌, ℕ, ◌+◌, ◌≤◌, length, Bool, true, false, Option, Some, None}
use Rattle.sg_base.specs.declared.numbers.TxnId.{TxnId}
use Rattle.sg_catalog.specs.Catalog.{rows, buried, tombs}
use Rattle.sg_catalog.specs.declared.row.ObjectKind.{ObjectKind}
use Rattle.sg_catalog.specs.declared.row.Row.{Row}
use Rattle.sg_space.specs.View.{View, Space}
use Rattle.sg_before.specs.Forgot.{Forgets}
use Rattle.sg_contents.specs.Standing.{Body, Contents, IsBody, IsContents}
use Rattle.sg_contents.specs.Changes.{BodyGone}
use Rattle.sg_contents.specs.Meaning.{reading, IsCounted}

-- a body of this kind stands at this root
abbrev pub HasBody : View → ObjectKind → ℕ → Type 0
HasBody v kind root = v.Told → (b : Body) × IsBody v.space kind root b

-- each body that stood there is gone, and its pages and bands are free
pub record FreesBody (v w : View) (kind : ObjectKind) (root : ℕ) : Type 0 where
  pub told : v.Told → w.Told
  pub gone : v.Told → (b : Body) → IsBody v.space kind root b → BodyGone v.space w.space root b

-- a tombstone of this dropper, or of anybody, is gone, and its body with it
pub record HasFreed (by : Option TxnId) (old new : Space) (s s' : Contents) : Type 0 where
  pub row : Row
  pub found : buried by (rows s.catalog) ≡ Some row
  pub contents : IsContents new s'
  pub forgets : Forgets row.name row.root.0 (reading s) (reading s')
  pub counted : IsCounted old s → IsCounted new s'
  pub fewer : length (tombs (rows s.catalog)) ≡ length (tombs (rows s'.catalog)) + 1
  -- no page was taken
  pub took : old.pages.free ≤ new.pages.free

-- there was none, and nothing has changed
pub record HasNone (by : Option TxnId) (old new : Space) (s s' : Contents) : Type 0 where
  pub none : buried by (rows s.catalog) ≡ None
  pub contents : IsContents new s'
  pub same : s' ≡ s
  pub room : new ≡ old

abbrev pub FreedOne : Option TxnId → (old new : Space) → Contents → Contents → Bool → Type 0
FreedOne by old new s s' true = HasFreed by old new s s'
FreedOne by old new s s' false = HasNone by old new s s'

-- what a call did to all contents that there were
pub record FreesNext (v w : View) (by : Option TxnId) (was : Bool) : Type 0 where
  pub told : v.Told → w.Told
  pub done : v.Told → (s : Contents) → IsContents v.space s → (s' : Contents) × FreedOne by v.space w.space s s' was
