-- How a list of keys or names goes, once what it touches is held.
use Rattle.std.proofs.Common.{◌≡◌, ℕ, ◌≤◌, true, false, List, [], Some, refl, sym, ap, ◌∙◌, subst}
use Rattle.std.specs.Prelude.{IsOk, Ok, Err, is_some}
use Rattle.sg_base.specs.Ends.{HasRisen}
use Rattle.sg_ops.specs.Table.{Table as Operations}
use Rattle.sg_model.specs.declared.reason.Reason.{Reason}
use Rattle.sg_model.specs.Verb.{Op}
use Rattle.sg_model.specs.Verb.Reply.{Several}
use Rattle.sg_model.specs.Step.{step, is_changing}
use Rattle.sg_core.specs.Live as core
use Rattle.sg_core.specs.Live.{Txn}
use Rattle.sg_run.specs.Run.{Run, live_objects}
use Rattle.sg_run.specs.Numbers as numbers
use Rattle.sg_run.specs.Numbers.{IsListing}
use Rattle.sg_run.specs.Numbers.Refusal.{Because, Memory}
use Rattle.sg_space.specs.declared.space.SpaceFault.{SpaceFault}
use Rattle.sg_space.specs.declared.space.SpaceFault.TheVariants as spaces
use Rattle.sg_store.specs.declared.fault.Refused.{Refused}
use Rattle.sg_store.specs.declared.fault.Refused.TheVariants as refusals
use Rattle.sg_store.specs.Ground.{Ground, IsLawful}
use Rattle.sg_store.specs.Engine.{View, Rests, Rested, IsDiskFault}
use Rattle.sg_store.specs.Refusals.{said_refusal}
use Rattle.sg_store.specs.Stops.{refused_at, stop_at}
use Rattle.sg_store.specs.Store.{Core, Shows, IsKept}
use Rattle.sg_store.specs.Calls.{Goes, Stays, Holds}
use Rattle.sg_store.specs.Verbs.{Reads, HasWords, LacksMemory}
use Rattle.sg_store.proofs.Doing as doing
use Rattle.sg_store.proofs.Holding as holding

module _ (t : Operations) (g : Ground) (lawful : IsLawful t g) (v : View g) (k : Core) (x : Run) (u : ℕ) (op : Op) (s : Shows t g v k x) (e : is_some k.stopped ≡ false) (is : core.is_live k.live u ≡ true)
    (w1 : View g) (m1 : Core) (stays1 : Stays t g v w1 x) (later1 : v.faults ≤ w1.faults) (held : Holds t g v w1 k m1 x u op (Ok tt)) where
  -- what the pages read as that are listed
  pub listed : g.O
  listed = holding.reading t g lawful w1 x k.live held.0

  pub reads_listed : Reads t g w1 listed
  unfolding listed
  reads_listed = holding.reads_so t g lawful w1 x k.live held.0

  said : g.objects listed ≡ live_objects t x
  unfolding listed
  said = holding.objects_so t g lawful w1 x k.live held.0

  stays : (w : View g) → Rests t g w1 w → Stays t g w1 w x
  stays w r = holding.rests_stays t g lawful w1 x k.live held.0 w r

  kept : (w : View g) → Rested t g w1 w → IsKept t g w m1.live x
  kept w r = subst (λ (ks : List Txn). IsKept t g w ks x) (sym (ap (λ (c : Core). c.live) held.2)) (holding.rested_kept t g lawful w1 x k.live held.0 w r)

  pub has_words : (w : View g) (words : List (List ℕ)) → is_changing op ≡ false → Rests t g w1 w → HasWords t g w1 w listed op words → Goes t g v x (numbers.Does t v.tail w.tail v.faults w.faults u op x (Ok (Several words))) w m1
  has_words w words looks r h = doing.do_listed t g lawful v k x u op s [] e is w1 m1 stays1 later1 held w m1 words looks (stays w r) (kept w h.rested)
      (ap (λ m. (step t m op).0) (sym said) ∙ h.said) refl

  pub lacks_memory : (w : View g) → IsListing op → Rests t g w1 w → LacksMemory t g w1 w listed op → Goes t g v x (numbers.Does t v.tail w.tail v.faults w.faults u op x (Err Memory)) w m1
  lacks_memory w lists r h = doing.do_lacked t g lawful v k x u op s [] e is w1 m1 stays1 later1 held w m1 lists (stays w r) (kept w h.rested)
      (subst (λ m. IsOk (step t m op).0) said h.replies) refl

  pub has_reason : (w : View g) (reason : Reason) → Rests t g w1 w → Rested t g w1 w × ((step t (g.objects listed) op).0 ≡ Err reason) → Goes t g v x (numbers.Does t v.tail w.tail v.faults w.faults u op x (Err (Because reason))) w m1
  has_reason w reason r h = doing.do_unroomed t g lawful v k x u op s [] e is w1 m1 stays1 later1 held w m1 (refusals.Model reason) (stays w r)
      (kept w h.0, ap (λ m. (step t m op).0) (sym said) ∙ h.1, refl)

  pub has_failed : (w : View g) (m : Core) (r : Refused) (f : SpaceFault) → r ≡ refused_at f → IsDiskFault f → (IsDiskFault f → HasRisen w1.faults w.faults) → m ≡ record m1 { stopped = Some (stop_at f) } → Rests t g w1 w
      → Goes t g v x (numbers.Does t v.tail w.tail v.faults w.faults u op x (Err (said_refusal r))) w m
  has_failed w m r spaces.Disk answer disk risen is_core rests = subst (λ z. Goes t g v x (numbers.Does t v.tail w.tail v.faults w.faults u op x (Err (said_refusal z))) w m) (sym answer)
      (doing.do_unroomed t g lawful v k x u op s [] e is w1 m1 stays1 later1 held w m refusals.DiskFault (stays w rests) (is_core, risen tt))
  has_failed w m r spaces.LogEnd answer disk risen is_core rests = absurd disk
