use Rattle.sg_frames.specs.declared.place.Place.TheVariants.{Page, Window}
use Rattle.sg_frames.proofs.Entries.{zeros_at}
use Rattle.sg_frames.proofs.frames.Frames.cut.Goals as goal

pub returns-clause-zeros : goal.returns-clause-zeros
returns-clause-zeros c (Page i) = zeros_at 4096 c.args.frames c.new-pages.result.0.bytes c.new-pages.ensures.count.1 c.new-pages.ensures.zeros i
returns-clause-zeros c (Window w) = zeros_at 32768 c.args.windows c.new-windows.result.0.bytes c.new-windows.ensures.count.1 c.new-windows.ensures.zeros w
