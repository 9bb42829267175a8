-- AN ENGINE THAT AN OPENING FOUND, with the flags that are lent for its walk, and the counts of a call whose answer is handed on in another value.
use Rattle.std.proofs.Common.{◌≡◌, ℕ, ◌<◌, ◌≤◌, length, Some, Ok, Err, refl, sym, ◌∙◌}
use Rattle.sg_alloc.specs.Flags.{map_bands_of}
use Rattle.sg_alloc.specs.declared.maps.Maps.{Maps}
use Rattle.sg_ops.specs.Table.{Table}
use Rattle.sg_action.specs.States.{State}
use Rattle.sg_reader.specs.Reader.{limits}
use Rattle.sg_reader.proofs.Decide.{reader}
use Rattle.sg_store.specs.Ground.{Ground}
use Rattle.sg_store.specs.Engine.{Sizes, Shown, Counts}
use Rattle.sg_shown.specs.Shown.{Over, AsFound, Finds, extent_of, lent}
use Rattle.sg_regained.proofs.Regained.{found_with}

-- what was found of so many pages and bands, with flags of as many
pub finds_with : (a : Over) (room : Maps) (t : Table) (z : Sizes) (from : State) (pages bands : ℕ) → a.means t from → from.size ≡ extent_of z → z.pages ≡ pages → z.bands ≡ bands
    → a.limits z.pages z.bands ≡ limits (reader z.pages z.bands) → 0 < z.pages → map_bands_of z.pages z.bands ≤ z.bands
    → length a.maps.pages ≡ pages → length a.maps.bands ≡ bands → (length room.pages ≡ pages) × (length room.bands ≡ bands) → (a.engine.Told → AsFound a)
    → Finds (lent a (Some room)) t z from
finds_with a room t z from pages bands stands size p b most first few long wide as_long made = record {
  stands = stands;
  size = size;
  pages = long ∙ sym p;
  bands = wide ∙ sym b;
  limits = most;
  first = first;
  map = few;
  room = record { flags = room; is = refl; pages_are = as_long.0 ∙ sym p; bands_are = as_long.1 ∙ sym b };
  made = λ told. found_with a a.room (Some room) (made told);
}

pub counts_ok : {T U F : Type 0} {IsDisk : F → Type 0} {basis : Sizes → Ground} {old new : Shown basis} {x : T} (y : U) → Counts {T = T} IsDisk old new (Ok x) → Counts {T = U} IsDisk old new (Ok y)
counts_ok {T} {U} {F} {IsDisk} {basis} {old} {new} {x} y c = record {
  told = c.told;
  tells = c.tells;
  tail = c.tail;
  later = c.later;
  quiet = c.quiet;
  failed = tt;
  accounts = (let a = c.accounts in record { later = a.later; heeded = a.heeded; caused = tt; handed = a.handed; shown = a.shown });
}

pub counts_err : {T U F : Type 0} {IsDisk : F → Type 0} {basis : Sizes → Ground} {old new : Shown basis} {f : F} → Counts {T = T} IsDisk old new (Err f) → Counts {T = U} IsDisk old new (Err f)
counts_err {T} {U} {F} {IsDisk} {basis} {old} {new} {f} c = record {
  told = c.told;
  tells = tt;
  tail = c.tail;
  later = c.later;
  quiet = tt;
  failed = c.failed;
  accounts = (let a = c.accounts in record { later = a.later; heeded = a.heeded; caused = a.caused; handed = a.handed; shown = a.shown });
}
