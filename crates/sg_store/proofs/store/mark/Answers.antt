use Rattle.std.proofs.Common.{sym, ap, ◌∙◌, subst}
use Rattle.std.specs.Prelude.{if◌then◌else◌, sum_by, IsTrue}
use Rattle.sg_core.specs.Live.{Txn, is_live, dropping}
use Rattle.sg_model.specs.SaidOps.{said_op}
use Rattle.sg_store.proofs.Marking.{live_marked, sum_marked}
use Rattle.sg_store.proofs.store.mark.Goals as goal

pub returns-then-not-drops-clause-txns : goal.returns-then-not-drops-clause-txns
returns-then-not-drops-clause-txns c = sym (ap (λ b. if b then dropping c.args.txn.0 c.args.txns.now else c.args.txns.now) (sym c.drops.ensures ∙ c.if-not-drops.true))

pub returns-clause-txns : goal.returns-clause-txns
returns-clause-txns c = c.mark_dropped.ensures ∙ sym (ap (λ b. if b then dropping c.args.txn.0 c.args.txns.now else c.args.txns.now) (sym c.drops.ensures ∙ c.if-not-drops.false))

pub returns-clause-live : goal.returns-clause-live
returns-clause-live c = subst IsTrue (sym (ap (λ ks. is_live ks c.args.txn.0) (returns-clause-txns c) ∙ live_marked (said_op c.args.op.now) c.args.txn.0 c.args.txn.0 c.args.txns.now)) c.requires

pub returns-clause-sum : goal.returns-clause-sum
returns-clause-sum c = ap (λ ks. sum_by (λ (x : Txn). x.reserved) ks) (returns-clause-txns c) ∙ sum_marked (said_op c.args.op.now) c.args.txn.0 c.args.txns.now
