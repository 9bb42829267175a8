-- A call on objects in the open action.
use Rattle.std.proofs.Common.{◌≡◌, ◌⊎◌, inl, inr, ◌≤◌, Bool, true, false, ◌++◌, length, Some, Result, Ok, Err, refl, sym, ◌∙◌, subst}
use Rattle.std.specs.Prelude.{is_err}
use Rattle.sg_disk.specs.Disk as disk
use Rattle.sg_disk.specs.Disk.{LeavesOnly}
use Rattle.sg_ops.specs.Table.{Table}
use Rattle.sg_action.specs.States.{State}
use Rattle.sg_actions.specs.Accounted.{HasAccounted}
use Rattle.sg_actions.specs.Later.{Went}
use Rattle.sg_contents.specs.Standing.{Contents, IsContents}
use Rattle.sg_contents.specs.Meaning.{IsCounted}
use Rattle.sg_space.specs.View as space
use Rattle.sg_space.specs.declared.space.SpaceFault.{SpaceFault}
use Rattle.sg_store.specs.Engine.{Sizes, Action, Counts, IsDiskFault, IsImageOf, Changes, Changed}
use Rattle.sg_ground.specs.Recovers.{Recovering}
use Rattle.sg_shown.specs.Shown.{Over, Means, basis, shown_of}
use Rattle.sg_shown.proofs.Holding.{Facts, engine_is}
use Rattle.sg_verbs.proofs.Held.{space_in, own_reads, taken_now, counted_now, map_now}
use Rattle.sg_verbs.proofs.Moving.{at_in, LaterOn, view_in, Leaves, went}
use Rattle.sg_verbs.proofs.Settled.{IsSane, Passes, SomeFails, accounts_on}
use Rattle.sg_verbs.specs.Looks.{IsHeld, IsNear}
use Rattle.sg_verbs.proofs.Story.{seen, changes, both}

-- COUNTS
pub counts_on : {T U : Type 0} (recovers : Recovering) (a b : Over) (x : T) (y : U) → space.Counts (view_in a) (view_in b) (let r : Result T SpaceFault = Ok x in r) → (a.engine.Told → b.engine.Told) → a.engine.tail ≤ b.engine.tail
    → HasAccounted a.engine b.engine → IsHeld b.engine → Counts IsDiskFault (shown_of recovers a) (shown_of recovers b) (let r : Result U SpaceFault = Ok y in r)
counts_on {T} {U} recovers a b x y q tells tail accounts held = record {
  told = q.told;
  tells = tells;
  tail = tail;
  later = q.later;
  quiet = q.quiet;
  failed = tt;
  accounts = accounts_on {IsDisk = IsDiskFault} a b (let r : Result U SpaceFault = Ok y in r) tt accounts held;
}

-- from one moment of the open action to a later one
pub passes_on : {T : Type 0} {recovers : Recovering} {a b : Over} {t : Table} {r : Result T SpaceFault} → IsSane a → IsSane b → LaterOn recovers t a b → space.Counts (view_in a) (view_in b) r → Passes true a b
passes_on first last l q = record { first = first; last = last; tail = l.tail; later = q.later; accounts = l.accounts; still = λ e. absurd (let w : true ≡ false = e in cc) }

-- a call that failed in it
pub near_begun : (ends : Bool) (b : Over) → b.begun ≡ true → IsNear b.engine ⊎ (b.begun ≡ false) → IsNear b.engine
near_begun ends b begun (inl n) = n
near_begun ends b begun (inr none) = absurd (let w : true ≡ false = sym begun ∙ none in cc)

pub fails_on : {T : Type 0} {a b : Over} (r : Result T SpaceFault) → (a.engine.Told → b.begun ≡ true) → space.Counts (view_in a) (view_in b) r → SomeFails true (is_err r) a b
fails_on (Ok x) begun q is = absurd (let w : false ≡ true = is in cc)
fails_on {T} {a} {b} (Err f) begun q is = (f, record { risen = q.disk; near = λ e told. (refl, near_begun true b (begun told) (q.log_end e)) })

-- WHERE CONTENTS STAND behind it
pub leaves_of : (z : Sizes) (b : Over) (s : Contents) → length b.maps.pages ≡ z.pages → length b.maps.bands ≡ z.bands → IsContents (space_in b) s → IsCounted (space_in b) s → b.begun ≡ true → Leaves z b
leaves_of z b s pages bands h counted begun = record {
  contents = s;
  reads = own_reads b z s pages bands h;
  now = taken_now b z s pages bands h;
  counted = counted_now b z s pages bands h counted;
  map = map_now b z s pages bands h;
  rest = λ none. absurd (let e : true ≡ false = sym begun ∙ none in cc);
}

-- THE STORE'S CHANGES
module _ (recovers : Recovering) (a b : Over) (t : Table) (z : Sizes) (from : State) (m : Means a t z from) (l : LaterOn recovers t a b) (told : a.engine.Told) where
  pub do_went : Went (recovers t) t (a.limits z.pages z.bands) (at_in from a) (at_in from b)
  do_went = went recovers a b t z from m.pages m.bands (m.keeps told).kept l m.since told

  -- also where the engine is asked nothing more
  pub do_changes : (d : Over) → d.engine.disk ≡ b.engine.disk → (act : Action (basis recovers z)) → (seen recovers t z from a).action ≡ Some act → Changes t (basis recovers z) act (seen recovers t z from a) (seen recovers t z from d)
  do_changes d same act e =
      let c = changes recovers t z from a b m (m.keeps told) do_went act e in record {
        made = c.made;
        are = c.are;
        formed = c.formed;
        moments = subst (λ (v : disk.View). LeavesOnly a.engine.disk v (IsImageOf t (basis recovers z) (seen recovers t z from a) (c.made ++ a.engine.steps))) (sym same) c.moments;
      }

  -- where it goes on
  pub do_changed : (whole : b.engine.failed ≡ false) (n : Means b t z from) (told' : b.engine.Told) (f : Facts recovers b t from) (act : Action (basis recovers z)) (e : (seen recovers t z from a).action ≡ Some act)
      → (c : Changes t (basis recovers z) act (seen recovers t z from a) (seen recovers t z from b)) × Changed t (basis recovers z) act (seen recovers t z from a) (seen recovers t z from b) c.made
  do_changed whole n told' f act e =
      let k = m.keeps told in
      let w = do_went in
      both recovers t z from a b m k w (w.gone whole) l.tail (engine_is recovers b t z from n told' f) l.begun act e
