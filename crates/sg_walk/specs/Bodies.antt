-- What one object reaches.
use Rattle.std.specs.Prelude.{ℕ, List, [], ◌∷◌}
use Rattle.sg_alloc.specs.declared.maps.Maps.{Maps}
use Rattle.sg_catalog.specs.declared.row.ObjectKind.{ObjectKind}
use Rattle.sg_space.specs.View.{Space}
use Rattle.sg_reach.specs.Parts.{array_pages}
use Rattle.sg_tables.specs.Table.{table_pages}
use Rattle.sg_walk.specs.Marks.{CanSetBoth, AreSetBoth}
use Rattle.sg_contents.specs.Standing.{Body, IsBody}
use Rattle.sg_contents.specs.Standing.Body.{AnArray, ATable, ABlob}

-- its pages and its bands, in the order of the walk
abbrev pub body_pages : ℕ → Body → List ℕ
body_pages root (AnArray a) = array_pages root a
body_pages root (ATable t) = table_pages root t
body_pages root (ABlob b) = root ∷ []

abbrev pub body_bands : Body → List ℕ
body_bands (AnArray a) = []
body_bands (ATable t) = []
body_bands (ABlob b) = b.bands

-- a body of this kind stands there whose pages and bands may be set
pub record CanReachBody (space : Space) (kind : ObjectKind) (root : ℕ) (taken : Maps) : Type 0 where
  pub body : Body
  pub is : IsBody space kind root body
  pub can : CanSetBoth taken (body_pages root body) (body_bands body)

-- A BODY OF THIS KIND STANDS THERE, and exactly its pages and bands were set, each once
pub record ReachesBody (space : Space) (kind : ObjectKind) (root : ℕ) (old new : Maps) : Type 0 where
  pub body : Body
  pub is : IsBody space kind root body
  pub set : AreSetBoth old new (body_pages root body) (body_bands body)
