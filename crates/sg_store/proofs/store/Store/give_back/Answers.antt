use Rattle.std.proofs.Common.{◌≡◌, ◌<◌, true, List, refl, sym, ap, ◌∙◌, subst}
use Rattle.std.specs.Prelude.{All, if◌then◌else◌}
use Rattle.sg_core.specs.Live.{Txn, is_live, unreserving}
use Rattle.sg_store.specs.Seen.{core_of}
use Rattle.sg_store.proofs.Holders.{all_hold}
use Rattle.sg_store.proofs.Rolling as rolling
use Rattle.sg_store.proofs.store.Store.give_back.Goals as goal

pub returns-then-not-wants_page-clause-given : goal.returns-then-not-wants_page-clause-given
returns-then-not-wants_page-clause-given g c t z from m told = sym (ap (λ b. if b then unreserving c.args.txn.0 c.args.self.now.txns else c.args.self.now.txns) (sym (c.wants_page.ensures t z from m told) ∙ c.if-not-wants_page.true))

pub returns-clause-given : goal.returns-clause-given
returns-clause-given g c t z from m told = c.unreserve.ensures ∙ sym (ap (λ b. if b then unreserving c.args.txn.0 c.args.self.now.txns else c.args.self.now.txns) (sym (c.wants_page.ensures t z from m told) ∙ c.if-not-wants_page.false))

pub returns-clause-live : goal.returns-clause-live
returns-clause-live g c = ap (λ (ks : List Txn). is_live ks c.args.txn.0) c.unreserve.ensures ∙ (rolling.live_unreserving c.args.txn.0 c.args.txn.0 c.args.self.now.txns ∙ c.requires)

pub returns-clause-core : goal.returns-clause-core
returns-clause-core g c = refl

pub invariant_of-self-2 : goal.invariant_of-self-2
invariant_of-self-2 g c =
    let s = c.args.self.now in
    record {
      below = subst (λ (ks : List Txn). All (λ k. k.transaction < (g.E.Engine.view s.engine).tail) ks) (sym c.unreserve.ensures) (rolling.below_unreserving c.args.txn.0 (g.E.Engine.view s.engine).tail s.txns s.below);
      holders = subst (λ (ks : List Txn). all_hold (is_live ks) s.locks ≡ true) (sym c.unreserve.ensures) (rolling.unreserving_holders c.args.txn.0 s.txns s.locks s.holders);
    }
