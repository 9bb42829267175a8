-- Which sizes a store may be made with.
use Rattle.std.specs.Prelude.{Bool, is_none}
use Rattle.sg_gate.specs.declared.superblock.Super.{Super}
use Rattle.sg_gate.specs.Superblock.{fields, first_out}
use Rattle.sg_geometry.specs.declared.geometry.Geometry.{Geometry}

-- the superblock of a new store of these sizes: the first of its sequence, with its log in the first area from 0 on
abbrev pub super_of : Geometry → Super
super_of g = record { sequence = 1; pages = g.pages; bands = g.bands; frames = g.frames; windows = g.windows; log = 0; base = 0 }

-- all of its fields are in their ranges
abbrev pub is_fit : Geometry → Bool
is_fit g = is_none (first_out (fields (super_of g)))
