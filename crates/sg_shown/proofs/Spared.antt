-- ROOM FOR TRANSACTIONS stays where neither the rows change nor which transactions go on.
use Rattle.std.proofs.Common.{◌≡◌, ℕ, List, [], ◌∷◌, ◌++◌, refl, ap, ◌∙◌}
use Rattle.sg_ops.specs.Table.{Table}
use Rattle.sg_recovery.specs.Log.{tally, said, is_in}
use Rattle.sg_action.specs.States.{State, Kept}
use Rattle.sg_actions.specs.Later.{AreChanges}
use Rattle.sg_actions.specs.Steps.{Step, Steps}
use Rattle.sg_actions.specs.declared.rows.Row.{Row}
use Rattle.sg_shown.specs.Spare.{HasSpare}

-- changes neither begin a transaction nor end one
pub changes_live : (t : Table) (kept : Kept) (begin first : State) (txn : ℕ) (made log : Steps) → AreChanges t kept begin first txn made log
    → (tally (made ++ log)).live ≡ (tally log).live
changes_live t kept begin first txn [] log h = refl
changes_live t kept begin first txn (r ∷ made) log h =
    ap (λ (x : Step). (said r.lsn x (tally (made ++ log))).live) h.0.2 ∙ changes_live t kept begin first txn made log h.3

pub spare_on : {rs rs' : Steps} {rows rows' : List Row} → (tally rs').live ≡ (tally rs).live → rows' ≡ rows → HasSpare rs rows → HasSpare rs' rows'
spare_on l e s = record {
  old = s.old;
  front = s.front;
  last = s.last;
  are = e ∙ s.are;
  many = s.many;
  going = λ u some h. ap (is_in u) l ∙ s.going u some h;
  gone = ap (is_in s.last.txn.0) l ∙ s.gone;
}
