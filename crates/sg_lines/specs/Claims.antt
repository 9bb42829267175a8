-- What is proved of listings.
use Rattle.std.specs.Prelude.{◌≡◌, ◌++◌, [], None, codes, length}
use Rattle.std.specs.FinMap.{entries}
use Rattle.sg_model.specs.Objects.{Objects}
use Rattle.sg_lines.specs.Added.{summary_of_parts}
use Rattle.sg_lines.specs.Parts.{lines_of, parts_of}
use Rattle.sg_lines.specs.Summed.{summary_of}
use Rattle.sg_lines.specs.Text.{heading, text_of}

-- the lines of the parts of objects, and then how many objects they are, make the text of these objects
abbrev pub PartsMakeText : Type 0
PartsMakeText = (objects : Objects) → text_of objects ≡ lines_of (parts_of objects) ++ heading (codes "objects") [] None (length (entries objects))

-- the summary of objects is what their parts come to
abbrev pub PartsMakeSummary : Type 0
PartsMakeSummary = (objects : Objects) → summary_of objects ≡ summary_of_parts (parts_of objects)
