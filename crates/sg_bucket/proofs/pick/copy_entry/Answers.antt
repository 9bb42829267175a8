use Rattle.std.proofs.Common.{◌≡◌, ℕ, ◌++◌, List, Some, true, length, take, take_all, drop, sym, ap, subst, ◌∙◌, arith}
use Rattle.std.proofs.lemmas.List.{take-append-le}
use Rattle.sg_bucket.specs.Branch.{cell_at}
use Rattle.sg_bucket.proofs.pick.copy_entry.Goals as goal

front_is : (xs ys zs : List ℕ) → ys ≡ xs → take (length xs) (ys ++ zs) ≡ xs
front_is xs ys zs e = ap (λ (all : List ℕ). take (length xs) (all ++ zs)) e ∙ (take-append-le (length xs) xs zs (omega arith) ∙ take_all (length xs) xs (omega arith))

pub returns-then-kind-ne-BUCKET_KIND-clause-later : goal.returns-then-kind-ne-BUCKET_KIND-clause-later
returns-then-kind-ne-BUCKET_KIND-clause-later g c = λ t. g.met.P.PageSpace.later_then t _ _ _ (c.page.follows.holds-at-none.later t) (c.broken.ensures.later t)

pub returns-in-Broken-clause-later : goal.returns-in-Broken-clause-later
returns-in-Broken-clause-later g c = λ t. g.met.P.PageSpace.later_then t _ _ _ (c.page.follows.holds-at-none.later t) (c.broken-in-Broken.ensures.later t)

pub returns-in-There-clause-read : goal.returns-in-There-clause-read
returns-in-There-clause-read g c = λ shows.
    let same = front_is c.in-Some.cell.now c.copy_from_slice.new.self (drop (length c.in-Some.cell.now) c.args.into.now) c.copy_from_slice.ensures.after in
    record {
      what = _;
      is = c.in_ok-view.ensures.looked shows;
      has = record { is = sym c.in-Some.ensures ∙ ap (λ (cell : List ℕ). Some cell) (sym same); at = subst (λ (cell : List ℕ). cell_at c.args.there cell ≡ true) (sym same) (c.in-There.ensures).1 };
    }
