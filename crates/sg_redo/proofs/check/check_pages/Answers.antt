use Rattle.std.proofs.Common.{rules, ◌≡◌, ◌<◌, ◌≤◌, ◌*◌, ◌+◌, ◌/◌, ◌%◌, ℕ, min, length, slice_index_or, arith, sym, ◌∙◌, subst, Option, None, Some}
use Rattle.std.proofs.lemmas.Grind.{common_steps}
use Rattle.sg_redo.specs.Well.{FindsBad}
use Rattle.sg_redo.proofs.Checking.{well_through, first_on, all_well}
use Rattle.sg_redo.proofs.check.check_pages.Goals as goal

pub returns-in-Some : goal.returns-in-Some
returns-in-Some g c =
    let here : c.parts.n < length c.in-Ok.parts.items = grind arith in
    let given = (c.in-Ok.ensures.each c.parts.n c.index.result.now here).1 in
    let P : Option ℕ → Type 0 = FindsBad given.argument.now in
    record {
      found = first_on c.args.loans.now given.argument.now c.div_ceil-size.result (c.parts.n * c.div_ceil-size.result) c.in-Some.i given.argument_is
          (subst P (sym c.index.ensures ∙ c.in-Some.is) given.call) c.parts.invariant;
    }

pub parts-preserved : goal.parts-preserved
parts-preserved g c =
    let here : c.parts.n < length c.in-Ok.parts.items = grind arith in
    let given = (c.in-Ok.ensures.each c.parts.n c.index.result.now here).1 in
    let P : Option ℕ → Type 0 = FindsBad given.argument.now in
    well_through c.args.loans.now given.argument.now c.div_ceil-size.result c.parts.n given.argument_is
    (subst P (sym c.index.ensures ∙ c.in_default-index.is) given.call) c.parts.invariant

pub returns : goal.returns
returns g c =
    let size : 0 < c.div_ceil-size.result = grind (arith, common_steps) in
    let n_is : c.parts.n ≡ length c.args.loans.now / c.div_ceil-size.result + min 1 (length c.args.loans.now % c.div_ceil-size.result) = grind arith in
    record { found = all_well c.args.loans.now c.div_ceil-size.result c.parts.n size n_is c.parts.invariant }
