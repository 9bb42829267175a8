use Rattle.std.proofs.Common.{◌≡◌, ℕ, max, arith, subst, sym, ap, ◌∙◌}
use Rattle.sg_catalog.specs.Catalog.{Catalog}
use Rattle.sg_catalog.specs.Steps.{RawTurns}
use Rattle.sg_space.proofs.Known.{keeps_same}
use Rattle.sg_catalog.proofs.Growth.{peak_turns}
use Rattle.sg_catalog.proofs.Parts.{owned_there}
use Rattle.sg_catalog.proofs.Turned.{turns_same}
use Rattle.sg_catalog.proofs.grow.raise_peak.Goals as goal

pub set_peak-requires-clause-can : goal.set_peak-requires-clause-can
set_peak-requires-clause-can g c = λ told. let h = c.requires.can told in owned_there 0 h.1 (0, (h.1).first)

pub returns-then-rows-peak-clause-did : goal.returns-then-rows-peak-clause-did
returns-then-rows-peak-clause-did g c =
    let test = c.if-rows-peak.true in
    let same : max c.args.peak c.args.rows ≡ c.args.peak = omega arith in
    record {
      keeps = λ t. keeps_same;
      turns = λ t d h e. turns_same (ap (λ (n : ℕ). let x : Catalog = record d { peak = n } in x) (same ∙ sym e)) h;
    }

pub returns-clause-did : goal.returns-clause-did
returns-clause-did g c =
    let did = c.in_ok-set_peak.ensures.did in
    let test = c.if-rows-peak.false in
    let same : c.args.rows ≡ max c.args.peak c.args.rows = omega arith in
    record {
      keeps = λ t. did.keeps t;
      turns = λ t d h e. subst (λ (n : ℕ). RawTurns (g.P.PageSpace.view c.args.space.now).space (g.P.PageSpace.view c.set_peak.new.space).space d (record d { peak = n })) same (peak_turns c.args.rows h (did.pages t) (did.bands t));
    }
