use Rattle.std.proofs.Common.{⊎_elim, inl, inr, arith}
use Rattle.sg_pool.proofs.Windowing.{unmarking_starts, unmarking_next, unmarked}
use Rattle.sg_pool.proofs.clear.clear_marks.Goals as goal

pub windows-init : goal.windows-init
windows-init c = unmarking_starts c.args.marks.now.items c.args.from

pub windows-preserved : goal.windows-preserved
windows-preserved c = unmarking_next c.args.marks.now.items c.windows.marks.items c.args.from c.windows.w _ (omega arith) (omega arith) (unmarked _ c.clear.ensures.none) c.windows.invariant

pub returns-clause-others : goal.returns-clause-others
returns-clause-others c w out =
    let order = c.requires.order in let last = c.windows.auto.w-end in
    c.windows.invariant.others w (⊎_elim (λ a. inl a) (λ a. inr (let e = last order in omega (arith, a, e))) out)
