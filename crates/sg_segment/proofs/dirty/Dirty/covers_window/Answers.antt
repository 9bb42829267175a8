use Rattle.std.proofs.Common.{List, Bool, length, sym, ap, ◌∙◌, arith}
use Rattle.sg_segment.proofs.MarkBits.{length-marks_of}
use Rattle.sg_segment.proofs.dirty.Dirty.covers_window.Goals as goal

pub returns : goal.returns
returns c = sym (ap (λ (marks : List Bool). length marks) c.self.view_is) ∙ (length-marks_of c.self.inside.words ∙ omega (arith, c.self.told))
