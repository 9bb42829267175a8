use Rattle.std.proofs.Common.{◌∙◌}
use Rattle.sg_gate.proofs.Fields.{behind, one_byte}
use Rattle.sg_gate.proofs.superblock.read_fields.Goals as goal

pub returns : goal.returns
returns c =
    let text = c.args.text.now in
    let sequence = c.read_u64-sequence.ensures.value ∙ behind 8 text 10 in
    let pages = c.read_u32-pages.ensures.value ∙ behind 4 text 18 in
    let bands = c.read_u32-bands.ensures.value ∙ behind 4 text 22 in
    let frames = c.read_u32-frames.ensures.value ∙ behind 4 text 26 in
    let windows = c.read_u32-windows.ensures.value ∙ behind 4 text 30 in
    let log = one_byte text 34 in
    let base = c.read_u64-base.ensures.value ∙ behind 8 text 35 in
    λ i. record { sequence = sequence i; pages = pages i; bands = bands i; frames = frames i; windows = windows i; log = log i; base = base i }
