-- How the log of a disk's store is listed.
use Rattle.std.proofs.Common.{◌≡◌, ◌≢◌, ◌⊎◌, inl, inr, ℕ, Bool, IsTrue, List, Option, Some, None, Result, Ok, Err, refl, sym, ap, subst, arith}
use Rattle.std.specs.Prelude.{OnOk, OnErr, IfErr}
use mathlib.Core.Logic.{∥∥₁_elim}
use Rattle.sg_base.specs.Ends.{HasRisen, Takes}
use Rattle.sg_disk.specs.Disk as disk
use Rattle.sg_disk.specs.Disk.{Spent}
use Rattle.sg_disk.proofs.Moments as moments
use Rattle.sg_log.specs.Reads.{OnlyReads}
use Rattle.sg_inspect.specs.Faults.{InspectFails, IsNotOfStore, BeforeWriting, CutsListing, HeedsFaults}
use Rattle.sg_inspect.specs.Listing.{listing}
use Rattle.sg_inspect.specs.Logs.{HasLog}
use Rattle.sg_inspect.specs.declared.fault.InspectFault.{InspectFault}
use Rattle.sg_inspect.specs.declared.fault.InspectFault.TheVariants as faults
use Rattle.sg_commands.specs.Drawing.{Sunk}
use Rattle.sg_commands.specs.declared.status.Status as code_status
use Rattle.sg_commands.specs.declared.status.Status.TheVariants as statuses
use Rattle.sg_commands.specs.Logged.{status_of_inspection, IsShut, IsListed, IsUnlisted, TellsLogged, IsForNone, IsLogUnhindered, ListsLog}

-- what is untouched is so as it is seen
pub untouched_as_seen : {X Y : Type 0} (f : X → Y) (before now : X) (e : InspectFault) → BeforeWriting e (now ≡ before) → BeforeWriting e (f now ≡ f before)
untouched_as_seen f before now faults.Disk h = tt
untouched_as_seen f before now faults.Sink h = tt
untouched_as_seen f before now faults.NotAStore h = ap f h
untouched_as_seen f before now (faults.Damaged area at) h = ap f h
untouched_as_seen f before now faults.Memory h = ap f h

-- a fuse that lets all calls pass has refused none
pub none_spent : (before now refused : ℕ) → refused ≡ 0 → Spent None before now refused
none_spent before now refused none = record { most = _; all = λ some. absurd (omega (arith, none, some)) }

module _ (told : Bool) (v w : disk.View) (old new : Sunk) where
  -- what a listing of a log does
  pub record Goes (r : Result (Unit {0}) InspectFault) : Type 0 where
    pub took : IsTrue told → OnOk r ((log : HasLog v.now) × Takes old.taken (listing log.super log.gate log.log.records) new.taken)
    pub cut : IsTrue told → OnErr r (CutsListing v.now old.taken new.taken)
    pub untouched : IfErr r (λ e. BeforeWriting e (new.taken ≡ old.taken))
    pub cause : IfErr r (λ e. InspectFails told v w old.faults new.faults e)
    pub shut : IsTrue told → IsShut v → (r ≡ Err faults.NotAStore) ⊎ (r ≡ Err faults.Disk)
    pub sound : IsTrue told → HasLog v.now → IfErr r IsNotOfStore
    pub heeded : HeedsFaults r v w old.faults new.faults
    pub reads : OnlyReads told v w

  unlisted : new.taken ≡ old.taken → (w.faults ≡ v.faults) × (new.faults ≡ old.faults) → IsUnlisted v w old new
  unlisted same quiet = record { unwritten = same; disk = quiet.0; sink = quiet.1 }

  pub lists_ok : Goes (Ok tt) → ListsLog statuses.Done told v w old new
  lists_ok h = record {
    tells = (λ is. (let it = h.took is in record { log = it.0; took = it.1 }), h.heeded.0, h.heeded.1);
    none = λ is shut. absurd (no_ok (h.shut is shut));
    completes = λ u. inl refl;
    reads = h.reads;
  }
    where
      no_ok : (◌≡◌ {A = Result (Unit {0}) InspectFault} (Ok tt) (Err faults.NotAStore)) ⊎ (◌≡◌ {A = Result (Unit {0}) InspectFault} (Ok tt) (Err faults.Disk)) → ⊥
      no_ok (inl e) = cc
      no_ok (inr e) = cc

  -- why it wasn't done
  tells : (e : InspectFault) → Goes (Err e) → TellsLogged (status_of_inspection e) told v w old new
  tells faults.Disk h = (h.cause, h.cut, h.heeded)
  tells faults.Sink h = (h.cause, h.cut, h.heeded)
  tells faults.NotAStore h = (h.cause, unlisted h.untouched h.heeded)
  tells (faults.Damaged area at) h = (h.cause, unlisted h.untouched h.heeded)
  tells faults.Memory h = unlisted h.untouched h.heeded

  for_none : (e : InspectFault) → (◌≡◌ {A = Result (Unit {0}) InspectFault} (Err e) (Err faults.NotAStore)) ⊎ (◌≡◌ {A = Result (Unit {0}) InspectFault} (Err e) (Err faults.Disk)) → IsForNone (status_of_inspection e)
  for_none faults.Disk h = tt
  for_none faults.NotAStore h = tt
  for_none faults.Memory h = tt
  for_none faults.Sink (inl e) = absurd (cc)
  for_none faults.Sink (inr e) = absurd (cc)
  for_none (faults.Damaged area at) (inl e) = absurd (cc)
  for_none (faults.Damaged area at) (inr e) = absurd (cc)

  -- a log of a store is no reason
  refuted : (e : InspectFault) → Goes (Err e) → IsLogUnhindered told v w old new → (IsNotOfStore e → ⊥) → ⊥
  refuted e h u none = ∥∥₁_elim u.has (λ a b. absurd a) (λ log. none (h.sound u.is_told log))

  completes : (e : InspectFault) → Goes (Err e) → IsLogUnhindered told v w old new → (status_of_inspection e ≡ statuses.Done) ⊎ (status_of_inspection e ≡ statuses.Memory)
  completes faults.Disk h u = absurd (u.disk (h.cause u.is_told))
  completes faults.Sink h u = absurd (u.sink h.cause)
  completes faults.NotAStore h u = absurd (refuted faults.NotAStore h u (λ not. not))
  completes (faults.Damaged area at) h u = absurd (refuted (faults.Damaged area at) h u (λ not. not))
  completes faults.Memory h u = inr refl

  pub lists_err : (e : InspectFault) (status : code_status.Status) → status ≡ status_of_inspection e → Goes (Err e) → ListsLog status told v w old new
  lists_err e status is h = subst (λ (s : code_status.Status). ListsLog s told v w old new) (sym is) (record {
    tells = tells e h;
    none = λ told_so shut. for_none e (h.shut told_so shut);
    completes = completes e h;
    reads = h.reads;
  })

-- where no call was made and nothing written
pub lists_none : (told : Bool) (v w : disk.View) (s : Sunk) (status : code_status.Status) → status ≡ statuses.Memory → w ≡ v → ListsLog status told v w s s
lists_none told v w s status is same =
    subst (λ (it : code_status.Status). ListsLog it told v w s s) (sym is)
    (subst (λ (u : disk.View). ListsLog statuses.Memory told v u s s) (sym same)
    (record {
      tells = record { unwritten = refl; disk = refl; sink = refl };
      none = λ told_so shut. tt;
      completes = λ u. inr refl;
      reads = record {
        unchanged = λ told_so. refl;
        any_moment = λ told_so. moments.started v (disk.Leaves v.now) (λ c leaves. leaves);
        handed = refl;
        later = omega arith;
      };
    }))
