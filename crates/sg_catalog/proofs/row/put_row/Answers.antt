use Rattle.std.proofs.Common.{ℕ, ◌≤◌, List, length, arith, subst}
use Rattle.sg_base.specs.Overwritten.{Wrote}
use Rattle.sg_base.proofs.Overwriting.{wrote_on}
use Rattle.sg_catalog.specs.Row.{row_form, state_of, dropper_of}
use Rattle.sg_catalog.proofs.row.put_row.Goals as goal

pub returns : goal.returns
returns c =
    let within : 0 ≤ length c.args.into.now = omega arith in
    let W : ℕ → ℕ → ℕ → List ℕ → Type 0 = λ k s d t. Wrote c.args.into.now 0 (row_form.spell (k, (s, (d, (c.args.row.now.root.0, t))))) c.put_text.new.into c.put_text.result in
    let all : W c.code_of.result c.state_of.result c.dropper_of.result c.text-text.result.now =
    wrote_on within (wrote_on within (wrote_on within (wrote_on within (wrote_on within c.put_u8-at.ensures c.put_u8-at-2.ensures) c.put_u64-at.ensures) c.put_u32-at.ensures) c.put_u8-at-3.ensures) c.put_text.ensures in
    let code = c.code_of.ensures in
    let state = c.state_of.ensures in
    let row = c.args.row.now in
    subst (λ (k : ℕ). W k (state_of row.dropper) (dropper_of row.dropper) row.name) code
    (subst (λ (s : ℕ). W c.code_of.result s (dropper_of row.dropper) row.name) state
    (subst (λ (d : ℕ). W c.code_of.result c.state_of.result d row.name) c.dropper_of.ensures
    (subst (λ (t : List ℕ). W c.code_of.result c.state_of.result c.dropper_of.result t) c.text-text.ensures all)))
