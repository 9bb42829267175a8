use Rattle.std.proofs.Common.{◌≡◌, ℕ, List, [], ◌∷◌, ◌++◌, add-one, sym, ap, ◌∙◌, arith}
use Rattle.std.specs.Prelude.{replicate}
use Rattle.std.proofs.lemmas.List.{append-nil}
use Rattle.sg_actions.specs.Ending.{vacant}
use Rattle.sg_actions.specs.declared.rows.Row.{Row}
use Rattle.sg_regained.proofs.Losers.{pushed, one_vacant}
use Rattle.sg_regained.proofs.sparing.push_spare.Goals as goal

pub more-init : goal.more-init
more-init c = sym (append-nil c.args.rows.now.items)

pub more-preserved : goal.more-preserved
more-preserved c =
    let old : List Row = c.args.rows.now.items in
    one_vacant old c.more.rows.items c.push.new.self.items c.more._at c.more.invariant
    (c.push.ensures.items ∙ pushed c.push.result c.more.rows.items (c.more.rows.items ++ vacant ∷ []) (sym c.is_err.ensures.value ∙ c.if-is_err.false))
    ∙ ap (λ (n : ℕ). old ++ replicate n vacant) (sym (add-one c.more._at))

pub returns : goal.returns
returns c = λ yes.
    let all : c.more._at ≡ 65 = omega arith in
    c.more.invariant ∙ ap (λ (n : ℕ). c.args.rows.now.items ++ replicate n vacant) all
