use Rattle.std.proofs.Common.{ℕ, map, List, [], ◌∷◌, ◌++◌, sym, ap, ◌∙◌}
use Rattle.std.proofs.lemmas.List.{map-append}
use Rattle.sg_base.specs.declared.numbers.TxnId.{TxnId as Number}
use Rattle.sg_mount.proofs.Firsts.{one_more}
use Rattle.sg_mount.proofs.losers.numbers_of.Goals as goal

pub loop-i-preserved : goal.loop-i-preserved
loop-i-preserved c =
    let x : Number = c.get.result.0 in
    ap (map (λ (x : Number). x.0)) c.in-Ok.ensures.items
    ∙ map-append (λ (x : Number). x.0) c.loop-i.numbers.items (x ∷ [])
    ∙ ap (λ (l : List ℕ). l ++ x.0 ∷ []) c.loop-i.invariant
    ∙ sym (one_more c.args.losers.now c.loop-i.i (x.0, c.get.result.1) c.get.ensures)
