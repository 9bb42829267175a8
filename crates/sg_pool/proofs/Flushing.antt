-- Batch after batch goes home: what the loop keeps.
use Rattle.std.proofs.Common.{◌≡◌, ◌⊎◌, inl, ⊎_elim, ◌<◌, ◌≤◌, ℕ, Bool, IsTrue, Some, None, List, length, refl, sym, ◌∙◌, ap, subst, arith}
use Rattle.std.proofs.lemmas.Bool.{cases_lt}
use Rattle.std.proofs.lemmas.List.{get_or_past}
use Rattle.sg_base.specs.declared.area.Area.TheVariants.{Home}
use Rattle.sg_disk.specs.Disk.{Image, Bytes, View, LeavesOnly}
use Rattle.sg_disk.proofs.Moments.{weaker, joined}
use Rattle.sg_gate.specs.Batch.{IsReady, SameLogs}
use Rattle.sg_frames.specs.Held.{Held}
use Rattle.sg_pool.specs.declared.shelf.Shelf.{Shelf}
use Rattle.sg_pool.specs.declared.slot.Slot.{Slot}
use Rattle.sg_pool.specs.Units.{Geometry, IsBacked, IsCleaned}
use Rattle.sg_pool.specs.Held.{no_slot, since_of}
use Rattle.sg_pool.specs.Batches.{IsPartly, IsBatchMoment}
use Rattle.sg_pool.specs.Shelves.{geometry_of, units, IsSameShelf}
use Rattle.sg_pool.proofs.Changing.{cleaned_refl, cleaned_twice}
use Rattle.sg_pool.proofs.Clearing.{frames_same}
use Rattle.sg_pool.proofs.Batched.{partly_same}
use Rattle.sg_pool.proofs.Batching.{none_whole}
use Rattle.sg_pool.proofs.Flushed.{partly_on, moment_on}

pub record IsFlushing (told : Bool) (old new : Shelf) (v w : View) (from : ℕ) : Type 0 where
  pub within : from ≤ length old.slots.items
  pub kept : IsSameShelf old new
  pub cleared : (h : ℕ) → h < from → since_of new.slots.items (Some h) ≡ None
  pub later : v.faults ≤ w.faults
  pub quiet : w.faults ≡ v.faults
  pub handed : v.handed ≤ w.handed
  pub backed : IsTrue told → IsBacked (geometry_of old) (v.now Home) (units (v.now Home).seen old) → IsBacked (geometry_of old) (w.now Home) (units (w.now Home).seen new)
  pub units_are : IsTrue told → IsReady (v.now Home) → IsCleaned (geometry_of old) (units (v.now Home).seen old) (units (w.now Home).seen new)
  pub ready : IsTrue told → IsReady (v.now Home) → IsReady (w.now Home)
  pub logs : IsTrue told → IsReady (v.now Home) → SameLogs v.now w.now
  pub partly : IsTrue told → IsReady (v.now Home) → IsPartly (geometry_of old) old.slots.items old.frames.pages (v.now Home).seen (w.now Home).seen
  pub moments : IsTrue told → IsReady (v.now Home) → LeavesOnly v w (IsBatchMoment (geometry_of old) old.slots.items old.frames.pages v.now)

pub same_shelf : (s : Shelf) → IsSameShelf s s
same_shelf s = record { geometry = refl; count = refl; pages = λ h. refl; frames = refl; wins = refl }

pub same_twice : (s t u : Shelf) → IsSameShelf s t → IsSameShelf t u → IsSameShelf s u
same_twice s t u a b = record {
  geometry = b.geometry ∙ a.geometry;
  count = b.count ∙ a.count;
  pages = λ h. b.pages h ∙ a.pages h;
  frames = b.frames ∙ a.frames;
  wins = b.wins ∙ a.wins;
}

pub flushing_starts : (told : Bool) (s : Shelf) (v : View) → IsFlushing told s s v v 0
flushing_starts told s v = record {
  within = omega arith;
  kept = same_shelf s;
  cleared = λ h lt. absurd (omega arith);
  later = omega arith;
  quiet = refl;
  handed = omega arith;
  backed = λ t b. b;
  units_are = λ t r. cleaned_refl (geometry_of s) (units (v.now Home).seen s);
  ready = λ t r. r;
  logs = λ t r b other. refl;
  partly = λ t r. partly_same (geometry_of s) s.slots.items s.frames.pages (v.now Home).seen (v.now Home).seen (λ i store. refl);
  moments = λ t r. weaker (none_whole s.pages v r) (λ (c : Image) whole. ((v.now Home).seen, partly_same (geometry_of s) s.slots.items s.frames.pages (v.now Home).seen (v.now Home).seen (λ i store. refl), whole));
}

-- a moment of the next batch, in the first state's words
module _ (told : Bool) (old mid : Shelf) (v w : View) (from : ℕ) (is : IsFlushing told old mid v w from) (t : IsTrue told) (r : IsReady (v.now Home)) where
  next_moment : (c : Image) → IsBatchMoment (geometry_of mid) mid.slots.items mid.frames.pages w.now c → IsBatchMoment (geometry_of old) old.slots.items old.frames.pages v.now c
  next_moment c moment =
      let here = subst (λ (g : Geometry). IsBatchMoment g mid.slots.items mid.frames.pages w.now c) is.kept.geometry moment in
      let there = subst (λ (h : Held). IsBatchMoment (geometry_of old) mid.slots.items h.pages w.now c) is.kept.frames here in
      moment_on (geometry_of old) old.slots.items mid.slots.items old.frames.pages is.kept.count is.kept.pages
      (frames_same old.slots.items mid.slots.items is.kept.count is.kept.pages old.shelf.apart) v.now w.now c (is.logs t r) (is.partly t r) there

  next_partly : (f : Bytes) → IsPartly (geometry_of mid) mid.slots.items mid.frames.pages (w.now Home).seen f → IsPartly (geometry_of old) old.slots.items old.frames.pages (v.now Home).seen f
  next_partly f partly =
      let here = subst (λ (g : Geometry). IsPartly g mid.slots.items mid.frames.pages (w.now Home).seen f) is.kept.geometry partly in
      let there = subst (λ (h : Held). IsPartly (geometry_of old) mid.slots.items h.pages (w.now Home).seen f) is.kept.frames here in
      partly_on (geometry_of old) old.slots.items mid.slots.items old.frames.pages is.kept.count is.kept.pages
      (frames_same old.slots.items mid.slots.items is.kept.count is.kept.pages old.shelf.apart) (v.now Home).seen (w.now Home).seen f (is.partly t r) there

  pub run_on : (z : View) → LeavesOnly w z (IsBatchMoment (geometry_of mid) mid.slots.items mid.frames.pages w.now) → LeavesOnly v z (IsBatchMoment (geometry_of old) old.slots.items old.frames.pages v.now)
  run_on z run = joined (is.moments t r) (weaker run next_moment)

-- what one batch did
pub record IsFlushed (told : Bool) (old new : Shelf) (v w : View) (from to : ℕ) : Type 0 where
  pub within : to ≤ length old.slots.items
  pub kept : IsSameShelf old new
  pub cleared : (h : ℕ) → from ≤ h → h < to → since_of new.slots.items (Some h) ≡ None
  pub others : (h : ℕ) → (h < from) ⊎ (to ≤ h) → since_of new.slots.items (Some h) ≡ since_of old.slots.items (Some h)
  pub later : v.faults ≤ w.faults
  pub quiet : w.faults ≡ v.faults
  pub handed : v.handed ≤ w.handed
  pub backed : IsTrue told → IsBacked (geometry_of old) (v.now Home) (units (v.now Home).seen old) → IsBacked (geometry_of old) (w.now Home) (units (w.now Home).seen new)
  pub units_are : IsTrue told → IsReady (v.now Home) → IsCleaned (geometry_of old) (units (v.now Home).seen old) (units (w.now Home).seen new)
  pub partly : IsTrue told → IsReady (v.now Home) → IsReady (w.now Home) × IsPartly (geometry_of old) old.slots.items old.frames.pages (v.now Home).seen (w.now Home).seen
  pub logs : IsTrue told → IsReady (v.now Home) → SameLogs v.now w.now
  pub moments : IsTrue told → IsReady (v.now Home) → LeavesOnly v w (IsBatchMoment (geometry_of old) old.slots.items old.frames.pages v.now)

pub flushing_next : (told : Bool) (old mid new : Shelf) (v w z : View) (from to : ℕ) → IsFlushing told old mid v w from → IsFlushed told mid new w z from to → IsFlushing told old new v z to
flushing_next told old mid new v w z from to is next = record {
  within = let a = next.within in let b = is.kept.count in omega (arith, a, b);
  kept = same_twice old mid new is.kept next.kept;
  cleared = λ h lt. ⊎_elim (λ low. next.others h (inl low) ∙ is.cleared h low) (λ high. next.cleared h high lt) (cases_lt h from);
  later = let a = is.later in let b = next.later in omega (arith, a, b);
  quiet = next.quiet ∙ is.quiet;
  handed = let a = is.handed in let b = next.handed in omega (arith, a, b);
  backed = λ t b. subst (λ (g : Geometry). IsBacked g (z.now Home) (units (z.now Home).seen new)) is.kept.geometry
      (next.backed t (subst (λ (g : Geometry). IsBacked g (w.now Home) (units (w.now Home).seen mid)) (sym is.kept.geometry) (is.backed t b)));
  units_are = λ t r. cleaned_twice (geometry_of old) (units (v.now Home).seen old) (units (w.now Home).seen mid) (units (z.now Home).seen new) (is.units_are t r)
      (subst (λ (g : Geometry). IsCleaned g (units (w.now Home).seen mid) (units (z.now Home).seen new)) is.kept.geometry (next.units_are t (is.ready t r)));
  ready = λ t r. (next.partly t (is.ready t r)).0;
  logs = λ t r b other. next.logs t (is.ready t r) b other ∙ is.logs t r b other;
  partly = λ t r. next_partly told old mid v w from is t r (z.now Home).seen (next.partly t (is.ready t r)).1;
  moments = λ t r. run_on told old mid v w from is t r z (next.moments t (is.ready t r));
}

-- behind the last frame there is nothing to write
pub all_clear : (slots : List Slot) (count : ℕ) → length slots ≤ count → ((h : ℕ) → h < count → since_of slots (Some h) ≡ None) → (h : ℕ) → since_of slots (Some h) ≡ None
all_clear slots count le cleared h = ⊎_elim
    (λ low. cleared h low)
    (λ high. ap (λ (s : Slot). s.since) (get_or_past slots h no_slot (omega arith)))
    (cases_lt h count)
