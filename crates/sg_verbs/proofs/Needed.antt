-- What a need leaves and says, as the store asks.
use Rattle.std.proofs.Common.{◌≡◌, ℕ, true, false, List, Result, Ok, Err, refl, ap}
use Rattle.std.specs.Prelude.{IfErr}
use Rattle.sg_ops.specs.Table.{Table}
use Rattle.sg_actions.specs.declared.acts.Acts.{Acts}
use Rattle.sg_actions.specs.declared.engine.Engine.{Ghosts}
use Rattle.sg_model.specs.Verb.{Verb}
use Rattle.sg_model.specs.Verb.Op.{On}
use Rattle.sg_contents.specs.Standing.{IfContents}
use Rattle.sg_objects.specs.Calls.{CountsObject, IfAnswered}
use Rattle.sg_objects.specs.Found.{CheckedBy}
use Rattle.sg_objects.specs.Needing.{HasNeed}
use Rattle.sg_objects.specs.Quiet.{WritesNoneObject}
use Rattle.sg_objects.specs.declared.need.Needs.{Needs}
use Rattle.sg_objects.specs.declared.verb.ObjFault.{ObjFault as ObjectsFault}
use Rattle.sg_objects.specs.declared.verb.ObjFault.TheVariants as objects
use Rattle.sg_space.specs.View.{View, OnlyReads}
use Rattle.sg_space.specs.declared.space.SpaceFault.{SpaceFault}
use Rattle.sg_space.specs.declared.space.SpaceFault.TheVariants as faults
use Rattle.sg_store.specs.Engine.{AsMeantBy, Counts, IsEngine, IsObjDisk, IsReadFault, IsRefusedQuietly, Rests}
use Rattle.sg_store.specs.Verbs.{Reads, HasNeeds}
use Rattle.sg_store.specs.declared.fault.Needed.{Needed}
use Rattle.sg_store.specs.declared.fault.ObjFault.{ObjFault}
use Rattle.sg_store.specs.declared.fault.ObjFault.TheVariants as store
use Rattle.sg_shown.specs.Shown.{over, shown}
use Rattle.sg_verbs.specs.Looks.{HasGoneOn, IsHeld, is_need_failed, told_need}
use Rattle.sg_verbs.proofs.Asked.{refused_as, needs_as}
use Rattle.sg_verbs.proofs.Looked.{Look, Kept, Failed, kept, fails_disk, looked_there, counts_kept, counts_refused, counts_failed}
use Rattle.sg_verbs.proofs.Settled.{SomeFails, read_up}
use Rattle.sg_verbs.proofs.Moving.{view_in}

read_fault : (f : SpaceFault) → (objects.Space f ≡ objects.Space faults.LogEnd → ⊥) → f ≡ faults.Disk
read_fault faults.Disk none = refl
read_fault faults.LogEnd none = absurd (none refl)

not_done : true ≡ false → ⊥
not_done e = cc

-- WHAT A NEED LEFT of the space where whoever acts had paused
pub record Finds (t : Table) (name : List ℕ) (verb : Verb) (v w : View) (r : Result Needs ObjectsFault) : Type 0 where
  pub counts : CountsObject v w r
  pub kept : IfAnswered r (λ x. OnlyReads v w)
  pub read : IfAnswered r (λ x. IfContents v (λ s. CheckedBy t name verb s (HasNeed t name verb s) x))
  pub writes : WritesNoneObject v w r

-- and what is said of it
pub record Says {E : Type 0} {g : Ghosts E} (t : Table) (name : List ℕ) (verb : Verb) (a d : Acts E g) (r : Result Needed ObjFault) : Type 0 where
  pub counts : Counts IsObjDisk (shown a) (shown d) r
  pub refused : IfErr r (IsRefusedQuietly (shown a) (shown d))
  pub needs : AsMeantBy t (shown a) (shown d) (λ g v w. (o : g.O) → IsEngine t g v → Reads t g v o → Rests t g v w × HasNeeds t g v w o (On name verb) r)
  pub reads : IfErr r IsReadFault

module _ {E : Type 0} {g : Ghosts E} (t : Table) (name : List ℕ) (verb : Verb) (a p b d : Acts E g) (l : Look a p b) where
  pub need_kept : (r : Result Needs ObjectsFault) → Finds t name verb (view_in (over p)) (view_in (over b)) r → is_need_failed r ≡ false → HasGoneOn a.begun b d → IsHeld (over b).engine → Kept a d
  need_kept (Ok n) q done h held = kept a p b d l q.kept h q.counts.quiet held
  need_kept (Err (objects.Model reason)) q done h held = kept a p b d l q.kept h q.counts.quiet held
  need_kept (Err (objects.Space f)) q done h held = absurd (not_done done)

  need_fails : (r : Result Needs ObjectsFault) → Finds t name verb (view_in (over p)) (view_in (over b)) r → SomeFails false (is_need_failed r) (over a) (over b)
  need_fails (Ok n) q is = absurd (let w : false ≡ true = is in cc)
  need_fails (Err (objects.Model reason)) q is = absurd (let w : false ≡ true = is in cc)
  need_fails (Err (objects.Space f)) q is = let e = read_fault f q.writes.no_end in (f, fails_disk a p b d l f e (q.counts.disk (ap objects.Space e)))

  pub need_says : (r : Result Needs ObjectsFault) → Finds t name verb (view_in (over p)) (view_in (over b)) r → is_need_failed r ≡ false → Kept a d → Says t name verb a d (told_need r)
  need_says (Ok n) q done k = record {
    counts = counts_kept a p b d _ k;
    refused = tt;
    needs = λ z from m told o engine can.
        let e = k.rests t z from m told in
        let s = looked_there a p b d l t z from m told o can.reading in
        (e.0, (e.1, needs_as g.recovers z t s.0 o name verb n s.3 ((q.read s.1 s.0 s.2).ok n refl)));
    reads = tt;
  }
  need_says (Err (objects.Model reason)) q done k = record {
    counts = counts_refused a p b d (store.Model reason) (λ h. h) k;
    refused = (k.tells, k.faults);
    needs = λ z from m told o engine can.
        let e = k.rests t z from m told in
        let s = looked_there a p b d l t z from m told o can.reading in
        (e.0, (e.1, refused_as t s.0 o name verb reason s.3 ((q.read s.1 s.0 s.2).err reason refl)));
    reads = tt;
  }
  need_says (Err (objects.Space f)) q done k = absurd (not_done done)

  -- where it was given up
  pub need_up : (r : Result Needs ObjectsFault) → Finds t name verb (view_in (over p)) (view_in (over b)) r → (f : SpaceFault) → Failed (is_need_failed r) a b d f → Says t name verb a d (Err (store.Space f))
  need_up r q f h = record {
    counts = counts_failed a p b d f (store.Space f) (λ is. is) (λ is. is) (need_fails r q) h;
    refused = tt;
    needs = λ z from m told o engine can. (h.rests t z from m told, tt);
    reads = read_up (over b) (over d) f h.up;
  }
