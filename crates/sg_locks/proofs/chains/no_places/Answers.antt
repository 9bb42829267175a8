use Rattle.std.proofs.Common.{◌≡◌, sym, ap, ◌∙◌, None, [], ◌∷◌, ◌++◌, arith, Option, ℕ, List, vec_len}
use Rattle.std.specs.Prelude.{replicate}
use Rattle.sg_locks.proofs.Links.{replicate_more}
use Rattle.sg_locks.proofs.chains.no_places.Goals as goal

pub loop-last-preserved : goal.loop-last-preserved
loop-last-preserved c = record {
  room = omega (arith, c.loop-last.invariant.room, c.push_reserved.ensures.capacity);
  few = omega (arith, c.push_reserved.ensures.len, c.loop-last-test.true, c.len.ensures);
  none = c.push_reserved.ensures.items ∙ (ap (λ (xs : List (Option ℕ)). xs ++ None ∷ []) c.loop-last.invariant.none ∙ (sym (replicate_more _ None) ∙ ap (λ n. replicate n None) (sym c.push_reserved.ensures.len)));
}

pub returns : goal.returns
returns c =
    let long : vec_len c.loop-last.last ≡ 4096 = omega (arith, c.loop-last.invariant.few, c.loop-last-test.false, c.len.ensures) in
    c.loop-last.invariant.none ∙ ap (λ n. replicate n None) long
