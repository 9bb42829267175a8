use Rattle.std.proofs.Common.{◌≡◌, length, ◌∙◌, ap, sym, arith}
use Rattle.std.proofs.lemmas.List.{length-take-le}
use Rattle.sg_script.proofs.Fronts.{kept_front}
use Rattle.sg_script.proofs.buffer.LineBuffer.push.Goals as goal

pub returns : goal.returns
returns c =
    let long : length c.args.self.now ≡ c.self.inside.len = ap length (sym c.self.view_is) ∙ length-take-le c.self.inside.len c.self.inside.bytes (omega (arith, c.self.invariant.within, c.self.invariant.size)) in
    c.add.ensures ∙ kept_front c.args.self.now c.args.part.now c.self.inside.len c.min-count.result long c.self.invariant.within c.min-count.ensures
