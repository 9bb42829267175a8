use Rattle.std.proofs.Common.{◌≡◌, true, List, Err, sym, ap, ◌∙◌, subst}
use Rattle.sg_serial.specs.Locks.{Hold}
use Rattle.sg_model.specs.Touches.{Resource}
use Rattle.sg_model.specs.TouchList.{shown_touches}
use Rattle.sg_locks.specs.Answers.{lock_answer, locks_after}
use Rattle.sg_core.specs.Live.{is_live}
use Rattle.sg_store.specs.declared.fault.Refused.TheVariants as refusals
use Rattle.sg_store.specs.Refusals.{said_lock}
use Rattle.sg_store.specs.Seen.{core_of}
use Rattle.sg_store.proofs.Causing as causing
use Rattle.sg_store.proofs.Holders.{all_hold, after_holders}
use Rattle.sg_store.proofs.store.Store.grant.Goals as goal

pub invariant_of-self : goal.invariant_of-self
invariant_of-self g c =
    let s = c.args.self.now in
    record {
      below = s.below;
      holders = subst (λ (hs : List (Hold Resource)). all_hold (is_live s.txns) hs ≡ true)
          (sym (c.try_lock.ensures.after ∙ ap (λ ts. locks_after c.args.txn.0 ts s.locks) c.list.ensures))
          (after_holders (is_live s.txns) c.args.txn.0 (shown_touches s.touches) s.locks c.requires.live s.holders);
    }

pub returns-in-Busy-clause-causes : goal.returns-in-Busy-clause-causes
returns-in-Busy-clause-causes g c =
    let s = c.args.self.now in
    let e = g.E.Engine.view s.engine in
    causing.granted_for e e (core_of s) _ c.args.txn.0 (shown_touches s.touches) s.holders
    (ap (λ (hs : List (Hold Resource)). record (core_of s) { held = hs }) (c.try_lock.ensures.after ∙ ap (λ ts. locks_after c.args.txn.0 ts s.locks) c.list.ensures))
    (Err (refusals.Busy c.in-Busy.holder)) (ap said_lock (c.in-Busy.ensures.answer ∙ ap (λ ts. lock_answer c.args.txn.0 ts s.locks) c.list.ensures))
