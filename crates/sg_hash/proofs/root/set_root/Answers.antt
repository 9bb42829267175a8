use Rattle.std.proofs.Common.{◌≡◌, ℕ, List, [], ◌∷◌, length, Some, false, refl, sym, ap, subst, arith, ◌∙◌}
use Rattle.sg_base.specs.Op.{shrinks}
use Rattle.sg_base.specs.Op.Op.{Set}
use Rattle.sg_base.specs.Sheet.{Sheet}
use Rattle.sg_ops.specs.Table.{table_of}
use Rattle.sg_space.proofs.Changing.{keeps_but}
use Rattle.sg_space.proofs.Known.{same_some}
use Rattle.sg_array.proofs.Sheets.{same_size}
use Rattle.sg_hash.specs.Table.{root_cell, root_sheet}
use Rattle.sg_hash.proofs.Roots.{numbers_range, root_step, root_possible}
use Rattle.sg_hash.proofs.root.set_root.Goals as goal

pub change-requires-clause-can : goal.change-requires-clause-can
change-requires-clause-can g c = λ told.
    let h = c.requires.can told in
    root_possible _ _ h.numbers c.spell_root-cell.result h.page (ap (λ (x : List ℕ). length x) c.spell_root-cell.ensures)

pub returns-clause-did : goal.returns-clause-did
returns-clause-did g c =
    let t = table_of (λ p. (goal.RecordOp-dyn g p).record_meaning p.1) (λ p. (goal.RangeOp-dyn g p).range_meaning p.1) c.args.ops.now in
    let did = c.in_ok-change.ensures.did in
    let long : length c.spell_root-cell.result ≡ 25 = ap (λ (x : List ℕ). length x) c.spell_root-cell.ensures in
    record {
      keeps = λ told.
          let h = c.requires.can told in
          keeps_but did (λ sheet is. subst (λ (s : Sheet). shrinks (Set 0 c.spell_root-cell.result) s ≡ false) (same_some _ _ (sym h.page ∙ is)) (same_size (Some (root_cell h.numbers) ∷ []) 0 (root_cell h.numbers) c.spell_root-cell.result refl long));
      pages = λ told n directory is.
          let pages = did.pages told in
          record {
            here = pages.here (root_sheet (root_cell n) directory) is ∙ (root_step t n c.spell_root-cell.result directory long ∙ ap (λ (x : List ℕ). Some (root_sheet x directory)) c.spell_root-cell.ensures);
            others = pages.others;
            free = pages.free;
            count = pages.count;
          };
      bands = did.bands;
      range = numbers_range c.args.numbers.extent _ _ _ (omega arith) (omega arith) (omega arith);
    }
