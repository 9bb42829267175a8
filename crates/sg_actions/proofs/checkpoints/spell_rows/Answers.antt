use Rattle.std.proofs.Common.{◌≡◌, ℕ, ◌+◌, ◌-◌, List, drop, get_or, sym, ap, subst, ◌∙◌, refl, arith}
use Rattle.std.proofs.lemmas.List.{at_drop_more}
use borrow.Rule.Slice.PartMut.{put_mid}
use Rattle.sg_actions.proofs.Rowed.{AreSpelled, spelled_on, spelled_off}
use Rattle.sg_actions.specs.Ending.{vacant}
use Rattle.sg_actions.specs.declared.rows.Row.{Row}
use Rattle.sg_actions.proofs.checkpoints.spell_rows.Goals.{then-row-ne0+else-size-gt1008, else-row-ne0}
use Rattle.sg_actions.proofs.checkpoints.spell_rows.Goals as goal

pub loop-row-preserved : goal.loop-row-preserved
loop-row-preserved c =
    let rows = c.args.rows.now in
    let i = c.loop-row.row-index in
    let row : Row = get_or rows i vacant in
    let drops = at_drop_more (λ (xs : List Row). xs) rows i vacant c.loop-row-test.true in
    elim c.if-row-ne0.branch [
      | then-row-ne0+else-size-gt1008 w ↦
          let sized : c.loop-row.size + 16 - c.loop-row.size ≡ 16 = omega arith in
          let next = w.into-is ∙ (ap (λ (n : ℕ). put_mid c.loop-row.size n c.loop-row.into w.spell_row.new.into) sized ∙ ap (put_mid c.loop-row.size 16 c.loop-row.into) w.spell_row.ensures) in
          subst (λ (n : ℕ). AreSpelled rows (drop (i + 1) rows) c.if-row-ne0.into n) (sym w.size-is)
          (spelled_on rows (drop i rows) (drop (i + 1) rows) row c.loop-row.into c.if-row-ne0.into c.loop-row.size drops w.if-row-ne0.true refl w.if-size-gt1008.false next c.loop-row.invariant)
      | else-row-ne0 w ↦
          subst (λ (n : ℕ). AreSpelled rows (drop (i + 1) rows) c.if-row-ne0.into n) (sym w.size-is)
          (subst (λ (xs : List ℕ). AreSpelled rows (drop (i + 1) rows) xs c.loop-row.size) (sym w.into-is)
          (spelled_off rows (drop i rows) (drop (i + 1) rows) row c.loop-row.into c.loop-row.size drops w.if-row-ne0.false c.loop-row.invariant))
    ]
