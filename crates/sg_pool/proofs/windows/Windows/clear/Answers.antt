use Rattle.std.proofs.Common.{⊎_elim, inl, inr, arith}
use Rattle.std.proofs.lemmas.Bool.{cases_lt}
use Rattle.sg_pool.proofs.Windowing.{windows_cleared}
use Rattle.sg_pool.proofs.windows.Windows.clear.Goals as goal

pub clear_marks-requires : goal.clear_marks-requires
clear_marks-requires c = let s = c.args.self.now in let e = s.windows.marked in let le = c.requires.within in
    record { order = c.requires.order; within = omega (arith, e, le) }

pub invariant_of-self : goal.invariant_of-self
invariant_of-self c = let s = c.args.self.now in
    record {
      windows = windows_cleared s.slots.items s.index.items s.marks.items c.clear_marks.new.marks.items s.next s.next s.windows c.clear_marks.ensures.count s.windows.next_there
          c.clear_since.new.slots.items c.clear_since.ensures.count c.clear_since.ensures.pages
          (λ h. ⊎_elim (λ low. inr (c.clear_since.ensures.others h (inl low))) (λ high. ⊎_elim (λ within. inl (c.clear_since.ensures.cleared h high within)) (λ far. inr (c.clear_since.ensures.others h (inr far))) (cases_lt h c.args.to)) (cases_lt h c.args.from));
    }
