-- Operations that drop an object, the transactions that have done one, and those that have given back a page.
use Rattle.std.specs.Prelude.{◌≡◌, ◌⊎◌, ℕ, Bool, true, false, if◌then◌else◌, List}
use Rattle.sg_model.specs.Verb.{Verb, Op}
use Rattle.sg_model.specs.Verb.Op.{On, Names}
use Rattle.sg_model.specs.Verb.Verb.{Discard}
use Rattle.sg_core.specs.Live.{Txn, dropping, has_dropped, unreserving}

abbrev pub is_discard : Verb → Bool
is_discard Discard = true
is_discard other = false

abbrev pub drops : Op → Bool
drops (On name verb) = is_discard verb
drops Names = false

-- the live transactions behind an operation of one of them, which is marked where that drops something
abbrev pub marked_by : Op → ℕ → List Txn → List Txn
marked_by op u txns = if drops op then dropping u txns else txns

-- a transaction is marked only by an operation of its own that drops something
abbrev pub MarksOnly : (u : ℕ) → Op → (old new : List Txn) → Type 0
MarksOnly u op old new = (v : ℕ) → has_dropped new v ≡ true → (has_dropped old v ≡ true) ⊎ ((v ≡ u) × (drops op ≡ true))

-- the live transactions, of which one has given back a page that it had reserved, if it was wanted
abbrev pub given_by : Bool → ℕ → List Txn → List Txn
given_by wanted u txns = if wanted then unreserving u txns else txns
