use Rattle.std.proofs.Common.{◌≡◌, ℕ, List, length, false, sym, ap, subst, ◌∙◌}
use Rattle.sg_base.specs.Op.{shrinks}
use Rattle.sg_base.specs.Op.Op.{Set}
use Rattle.sg_base.specs.Sheet.{Sheet}
use Rattle.sg_ops.specs.Steps.{step}
use Rattle.sg_ops.specs.Table.{table_of}
use Rattle.sg_space.proofs.Changing.{set_possible, keeps_but}
use Rattle.sg_space.proofs.Known.{same_some}
use Rattle.sg_array.specs.Array.{root_cell}
use Rattle.sg_array.proofs.Turned.{rewrites}
use Rattle.sg_array.proofs.Sheets.{root_set, root_step, same_size, with_set}
use Rattle.sg_array.proofs.grow.set_root.Goals as goal

pub change-requires-clause-can : goal.change-requires-clause-can
change-requires-clause-can g c = λ told.
    let h = c.requires.can told in
    let t = table_of (λ p. (goal.RecordOp-dyn g p).record_meaning p.1) (λ p. (goal.RangeOp-dyn g p).range_meaning p.1) c.args.ops.now in
    record {
      what = h.page.what;
      is = h.page.is;
      has = set_possible _ _ _ 0 c.spell_root-cell.result (ap (λ (x : List ℕ). step t (Set 0 x) h.page.what) c.spell_root-cell.ensures ∙ root_step t c.args.size c.args.count c.args.peak h.page.has);
    }

pub returns-clause-did : goal.returns-clause-did
returns-clause-did g c =
    let t = table_of (λ p. (goal.RecordOp-dyn g p).record_meaning p.1) (λ p. (goal.RangeOp-dyn g p).range_meaning p.1) c.args.ops.now in
    let did = c.in_ok-change.ensures.did in
    record {
      keeps = λ told.
          let h = c.requires.can told in
          let long : length c.spell_root-cell.result ≡ 10 = ap (λ (x : List ℕ). length x) c.spell_root-cell.ensures in
          keeps_but did (λ sheet is. subst (λ (s : Sheet). shrinks (Set 0 c.spell_root-cell.result) s ≡ false) (same_some _ _ (sym h.page.is ∙ is)) (same_size (h.page.what).slots 0 _ c.spell_root-cell.result h.page.has.first long));
      pages = λ told r index h. rewrites h (with_set h.what 0 (root_cell c.args.size c.args.count c.args.peak)) (did.pages told) (ap (λ (x : List ℕ). step t (Set 0 x) h.what) c.spell_root-cell.ensures ∙ root_step t c.args.size c.args.count c.args.peak h.has) (root_set c.args.size c.args.count c.args.peak h.has);
      bands = λ told. did.bands told;
    }
