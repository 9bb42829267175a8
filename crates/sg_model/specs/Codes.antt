-- Objects have a code, so that they can be a model's value.
use Rattle.std.specs.Prelude.{◌≡◌, ℕ, List, refl, ◌⊎◌}
use Rattle.std.proofs.Common.{inl, inr}
use Rattle.std.specs.Coded.{Coded, code_by, coded×, coded_ℕ, coded_list, coded⊎}
use Rattle.std.specs.FinMap.{code}
use Rattle.sg_model.specs.Objects.{Object, Entries}
use Rattle.sg_model.specs.Objects.Object.{Array, Table, Blob}

abbrev pub Parts : Type 0
Parts = (ℕ × List (List ℕ)) ⊎ (Entries ⊎ List ℕ)

abbrev pub parts_of : Object → Parts
parts_of (Array row) = inl (row.size, row.items)
parts_of (Table entries) = inr (inl entries)
parts_of (Blob bytes) = inr (inr bytes)

abbrev pub object_of : Parts → Object
object_of (inl p) = Array record { size = p.0; items = p.1 }
object_of (inr (inl entries)) = Table entries
object_of (inr (inr bytes)) = Blob bytes

pub object_back : (o : Object) → object_of (parts_of o) ≡ o
object_back (Array row) = refl
object_back (Table entries) = refl
object_back (Blob bytes) = refl

abbrev pub object_code : Coded Object
object_code = code_by Parts (coded⊎ (coded× coded_ℕ (coded_list (coded_list coded_ℕ))) (coded⊎ (code (coded_list coded_ℕ) (coded_list coded_ℕ)) (coded_list coded_ℕ))) parts_of object_of object_back
