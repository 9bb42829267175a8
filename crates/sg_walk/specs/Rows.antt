-- What the rows of a catalogue reach.
use Rattle.std.specs.Prelude.{◌≡◌, ℕ, ◌-◌, List, [], ◌∷◌, ◌++◌, map, Option, ⊤}
use Rattle.sg_alloc.specs.declared.maps.Maps.{Maps}
use Rattle.sg_base.specs.Page.{cell_in}
use Rattle.sg_base.specs.Sheet.{Sheet}
use Rattle.sg_catalog.specs.Catalog.{Catalog, IsCatalog, rows}
use Rattle.sg_catalog.specs.Look.{row_in}
use Rattle.sg_catalog.specs.declared.row.Row.{Row}
use Rattle.sg_names.specs.Pages.{later_pages, pages_for}
use Rattle.sg_space.specs.View.{Space}
use Rattle.sg_walk.specs.Bodies.{body_pages, body_bands}
use Rattle.sg_walk.specs.Marks.{CanSetBoth, AreSetBoth}
use Rattle.sg_contents.specs.Standing.{Body, Contents, IsBody}

-- each row names what stands at its root
abbrev pub AreBodies : Space → List Row → List Body → Type 0
AreBodies space [] [] = ⊤
AreBodies space (row ∷ rows) (b ∷ bs) = IsBody space row.kind row.root.0 b × AreBodies space rows bs
AreBodies space rows bs = ⊥

-- the pages and the bands of all of them, in the order of the rows
abbrev pub all_pages : List Row → List Body → List ℕ
all_pages (row ∷ rows) (b ∷ bs) = body_pages row.root.0 b ++ all_pages rows bs
all_pages rows bs = []

abbrev pub all_bands : List Body → List ℕ
all_bands [] = []
all_bands (b ∷ bs) = body_bands b ++ all_bands bs

-- the objects of these rows stand there, and their pages and bands may be set
pub record CanReachRows (space : Space) (taken : Maps) (rs : List Row) : Type 0 where
  pub bodies : List Body
  pub are : AreBodies space rs bodies
  pub can : CanSetBoth taken (all_pages rs bodies) (all_bands bodies)

-- the objects of these rows stand there, and exactly their pages and bands were set, each once
pub record ReachesRows (space : Space) (old new : Maps) (rs : List Row) : Type 0 where
  pub bodies : List Body
  pub are : AreBodies space rs bodies
  pub set : AreSetBoth old new (all_pages rs bodies) (all_bands bodies)

-- the bodies of the contents, in the order of the rows
abbrev pub bodies_of : Contents → List Body
bodies_of s = map (λ (row : Row). s.body row.root.0) (rows s.catalog)

-- THE PAGES AND BANDS READ AS OBJECTS: a catalogue, and a body at each root that it names
pub record Reads (space : Space) (s : Contents) : Type 0 where
  pub catalog : IsCatalog space.pages.at s.catalog
  pub bodies : AreBodies space (rows s.catalog) (bodies_of s)

-- all that is reached from page 0, which was set before
abbrev pub reached_pages : (ℕ → Option Sheet) → Contents → List ℕ
reached_pages at s = later_pages at (pages_for s.catalog.peak - 1) ++ all_pages (rows s.catalog) (bodies_of s)

abbrev pub reached_bands : Contents → List ℕ
reached_bands s = all_bands (bodies_of s)

-- they read as objects, and what is reached may be set
pub record CanReach (space : Space) (taken : Maps) : Type 0 where
  pub contents : Contents
  pub reads : Reads space contents
  pub can : CanSetBoth taken (reached_pages space.pages.at contents) (reached_bands contents)

-- THEY READ AS OBJECTS, and exactly what is reached was set, each page and each band once
pub record Reaches (space : Space) (old new : Maps) : Type 0 where
  pub contents : Contents
  pub reads : Reads space contents
  pub set : AreSetBoth old new (reached_pages space.pages.at contents) (reached_bands contents)

-- the row in a slot, if one is spelled there
abbrev pub IsRowAt : ℕ → Option Row → Sheet → Type 0
IsRowAt slot row sheet = row ≡ row_in (cell_in sheet.slots slot)
