use Rattle.std.proofs.Common.{◌≡◌, ◌<◌, true, List, subst, sym}
use Rattle.std.specs.Prelude.{All, not}
use Rattle.std.proofs.lemmas.List.Elements.{All-filter}
use Rattle.sg_core.specs.Live.{Txn, is_of, is_live, without}
use Rattle.sg_serial.specs.Locks.{Hold}
use Rattle.sg_model.specs.Touches.{Resource}
use Rattle.sg_store.proofs.Holders.{all_hold, released_holders}
use Rattle.sg_store.proofs.store.Store.forget.Goals as goal

pub invariant_of-self : goal.invariant_of-self
invariant_of-self g c = record {
  below = subst (λ (xs : List Txn). All (λ x. x.transaction < (g.E.Engine.view c.args.self.now.engine).tail) xs) (sym c.remove.ensures)
      (All-filter (λ x. not (is_of c.args.txn.0 x)) (λ x. x.transaction < (g.E.Engine.view c.args.self.now.engine).tail) c.args.self.now.txns c.args.self.now.below);
  holders = let s = c.args.self.now in subst (λ (ks : List Txn). all_hold (is_live ks) c.release.new.self ≡ true) (sym c.remove.ensures)
      (subst (λ (hs : List (Hold Resource)). all_hold (is_live (without c.args.txn.0 s.txns)) hs ≡ true) (sym c.release.ensures) (released_holders c.args.txn.0 s.txns s.locks s.holders));
}
