-- The store over pages is one that can be opened.
use Rattle.std.specs.Prelude.{is_none}
use Rattle.std.proofs.Common.{◌≡◌, ◌↔◌, ◌⊎◌, inl, inr, ⊎_elim, ◌==◌, if◌then◌else◌, ℕ, Bool, true, false, IsTrue, Option, Some, None, Result, Ok, Err, refl, sym, ap, subst, ◌∙◌}
use mathlib.Core.Logic.{∥∥₁_elim}
use Rattle.sg_base.specs.declared.area.Area.{Area}
use Rattle.sg_base.specs.declared.area.Area.TheVariants.{Home, Log0, Log1}
use Rattle.sg_disk.specs.Disk as disk
use Rattle.sg_disk.proofs.Moments.{weaker}
use Rattle.sg_find.specs.Synced as found
use Rattle.sg_gate.specs.Superblock.{IsSuper, fields, first_out, superblock}
use Rattle.sg_gate.specs.declared.fault.GateFault.TheVariants as gates
use Rattle.sg_gate.specs.declared.superblock.Super.{Super}
use Rattle.sg_geometry.specs.declared.geometry.Geometry.{Geometry}
use Rattle.sg_geometry.specs.Fit.{is_fit, super_of}
use Rattle.sg_ground.proofs.Collections.{one_collection}
use Rattle.sg_ground.proofs.Lawful.{ground_is_lawful}
use Rattle.sg_making.proofs.Made.{blank_none}
use Rattle.sg_making.specs.declared.making.InitFault.{InitFault}
use Rattle.sg_making.specs.declared.making.InitFault.TheVariants as makes
use Rattle.sg_model.specs.Objects.{Objects}
use Rattle.sg_mount.proofs.Standing.{has_sizes, one_log_sized, new_stands}
use Rattle.sg_mount.specs.Making.{MakesStore, IsNewStore}
use Rattle.sg_mount.specs.Opening.{sizes_in, HasOpenedOn, IsHandedBack, KeepsStanding}
use Rattle.sg_mount.specs.declared.fault.MountFault.{MountFault}
use Rattle.sg_mount.specs.declared.fault.MountFault.TheVariants as faults
use Rattle.sg_ops.specs.Table.{Table as Operations}
use Rattle.sg_reopen.specs.Making as makings
use Rattle.sg_phys_laws.specs.Recovers.{RecoversBy}
use Rattle.sg_reader.proofs.Decide.{reader}
use Rattle.sg_shown.specs.Shown.{RecoversSized, basis_at}
use Rattle.sg_store.specs.Ground.{IsLawful}
use Rattle.sg_store.specs.Engine.{Sizes, Shown}
use Rattle.sg_store.specs.Stands as stores
use Rattle.sg_store.specs.Store.{Core}
use Rattle.sg_commands.specs.Images.{StandsFor, IsPresumed}
use Rattle.sg_commands.specs.Making.{IsBlank, IsEmptyOf, IsMaking, IsNew}
use Rattle.sg_commands.specs.declared.opens.InitRefused.{InitRefused}
use Rattle.sg_commands.specs.declared.opens.InitRefused.TheVariants as inits
use Rattle.sg_commands.specs.declared.opens.OpenRefused.{OpenRefused}
use Rattle.sg_commands.specs.Opening.{IsOpened, KeepsAll, StaysShut, IsLeftAlone, IsRefusedFor, IsQuietFor}
use Rattle.sg_commands.specs.Stores.{geometry_of, grounds, says, refused_for, making_refused_for}
use Rattle.sg_commands.specs.Syncs.{AreSynced, IsUnsynced}

-- where a store can be made there is none
pub none_where_blank : (g : Geometry) (c : disk.Image) → says.blank g c → says.no_store c
none_where_blank g c b = blank_none _ c b

pub sized : (t : Operations) (z : Sizes) (c : disk.Image) (m : Objects) → stores.StandsFor t (grounds z) c m → says.sizes c ≡ z
sized t z c m h = has_sizes t z c h.log h.pages h.recovers

pub one : (t : Operations) (c : disk.Image) (m other : Objects) → StandsFor grounds says t c m → StandsFor grounds says t c other → m ≡ other
one t c m other h k = one_collection (basis_at RecoversBy (sizes_in c)) (one_log_sized (sizes_in c)) t c m other h k

-- the superblock of fit sizes has all fields in their ranges
none_of : (o : Option ℕ) → is_none o ≡ true → o ≡ None
none_of None none = refl
none_of (Some x) none = absurd (let bad : false ≡ true = none in cc)

module _ (g : Geometry) (s : Super) (is : s ≡ super_of g) (fit : IsTrue (is_fit g)) where
  in_range : IsSuper s
  in_range = subst (λ (u : Super). IsSuper u) (sym is) (none_of (first_out (fields (super_of g))) fit)

  -- so that making a store of these fails for the disk alone
  pub failed_for : (f : InitFault) (why : InitRefused) (P : Type 0) → why ≡ making_refused_for f
      → (let r : Result (Unit {0}) InitFault = Err f in (r ≡ Err makes.BadGeometry) ↔ (IsSuper s → ⊥))
      → (let r : Result (Unit {0}) InitFault = Err f in r ≡ Err makes.Disk → P)
      → (let r : Result (Unit {0}) InitRefused = Err why in r ≡ Err inits.DiskFault) → P
  failed_for makes.Disk why P e bad failed is = failed refl
  failed_for makes.BadGeometry why P e bad failed is = absurd (bad.0 refl in_range)
  failed_for makes.Exists why P e bad failed is = absurd cc

  -- and where there is one it isn't done
  pub not_done : (x : Unit {0}) (P : Type 0)
      → (IsSuper s → P → (let r : Result (Unit {0}) InitFault = Ok x in (r ≡ Err makes.Exists) ⊎ (r ≡ Err makes.Disk))) → P → ⊥
  not_done x P refused there = ⊎_elim (λ exists. cc) (λ failed. cc) (refused in_range there)

-- what making a store of these sizes does, whose superblock says them
module _ (g : Geometry) (s : Super) (is : s ≡ super_of g) where
  is_empty : (t : Operations) (c : disk.Image) → IsNewStore t s c → IsEmptyOf grounds says t g c
  is_empty t c new = (new_stands t s c new, ap geometry_of (new.super ∙ is))

  is_making : (t : Operations) (c : disk.Image) → MakesStore t s c → IsMaking grounds says t g c
  is_making t c (inl none) = inl none
  is_making t c (inr new) = inr (is_empty t c new)

  module _ (told : Bool) (v w : disk.View) where
    all_blank : IsBlank grounds says g v → (c : disk.Image) → disk.Leaves v.now c → makings.IsBlank s c
    all_blank blank c leaves = subst (λ (u : Super). makings.IsBlank u c) (sym is) (blank c leaves)

    pub init_moments : ((t : Operations) → IsTrue told → ((c : disk.Image) → disk.Leaves v.now c → makings.IsBlank s c) → disk.LeavesOnly v w (MakesStore t s))
        → (t : Operations) → IsTrue told → IsBlank grounds says g v → disk.LeavesOnly v w (IsMaking grounds says t g)
    init_moments h t is_told blank = weaker (h t is_told (all_blank blank)) (is_making t)

    pub init_done : ((t : Operations) → IsTrue told → ((c : disk.Image) → disk.Leaves v.now c → makings.IsBlank s c) → (c : disk.Image) → disk.Leaves w.now c → IsNewStore t s c)
        → (t : Operations) → IsTrue told → IsBlank grounds says g v → IsNew grounds says t g w
    init_done h t is_told blank c leaves = is_empty t c (h t is_told (all_blank blank) c leaves)

-- the moments of an opening
keeps_all : (t : Operations) (presumed : Type 0) (v w : disk.View) (split : found.SplitsAtSync v (KeepsStanding t presumed v w)) → KeepsAll grounds says t presumed split.mid v w
keeps_all t presumed v w split = record {
  until = record { seen = split.synced.seen; settled = split.synced.settled; before = split.before };
  behind = λ held s stands. split.behind held s stands;
}

left_alone : (t : Operations) (presumed : Type 0) (v w : disk.View) → found.IsUnsynced v w ⊎ found.SplitsAtSync v (KeepsStanding t presumed v w) → IsLeftAlone grounds says t presumed v w
left_alone t presumed v w (inl early) = inl (record { calls = early.calls; failed = inr early.failed; moments = early.moments })
left_alone t presumed v w (inr split) = inr (split.mid, keeps_all t presumed v w split)

-- what a store rests on is lawful
lawful_for : (t : Operations) (z : Sizes) → IsLawful t (grounds z)
lawful_for t z = ground_is_lawful z.pages z.bands (reader z.pages z.bands) (RecoversSized RecoversBy z) t

-- a store that was opened
pub is_opened : (t : Operations) (told : Bool) (presumed : Type 0) (v : disk.View) (k : Core) (e : Shown grounds) → HasOpenedOn t told presumed v k e → IsOpened grounds says t told presumed v e k
is_opened t told presumed v k e h = record {
  core = h.core;
  heeded = h.heeded;
  shown = h.shown;
  tells = h.tells;
  starts = λ is held s stands. (let st = h.has is held s stands in record {
    from = st.from;
    means = st.means;
    lawful = lawful_for t (sizes_in (found.reads v));
    shows = st.shows;
  });
  moments = λ is. ((h.moments is).mid, keeps_all t presumed v e.disk (h.moments is));
}

-- why one wasn't
module _ (t : Operations) (told : Bool) (presumed : Type 0) (v w : disk.View) where
  reason : (f : MountFault) → IsHandedBack t told presumed v w f → IsRefusedFor grounds says t (refused_for f) told presumed v w
  reason faults.Disk h = λ is held. h.failed refl is held
  reason faults.Memory h = tt
  reason faults.LogEnd h = λ is. h.log_end refl is
  reason faults.NotAStore h = λ is. (let shut = h.shut is refl in (shut.0, shut.1, (h.cause is).1))
  reason (faults.Damaged area at) h = λ is. h.cause is
  reason (faults.UnknownOperation code) h = λ is. h.cause is

  quiet : (f : MountFault) → IsHandedBack t told presumed v w f → IsQuietFor grounds says (refused_for f) v w
  quiet faults.Disk h = tt
  quiet faults.Memory h = h.heeded (λ e. (let bad : faults.Memory ≡ faults.Disk = e in cc))
  quiet faults.LogEnd h = h.heeded (λ e. (let bad : faults.LogEnd ≡ faults.Disk = e in cc))
  quiet faults.NotAStore h = h.heeded (λ e. (let bad : faults.NotAStore ≡ faults.Disk = e in cc))
  quiet (faults.Damaged area at) h = h.heeded (λ e. (let bad : faults.Damaged area at ≡ faults.Disk = e in cc))
  quiet (faults.UnknownOperation code) h = h.heeded (λ e. (let bad : faults.UnknownOperation code ≡ faults.Disk = e in cc))

  pub stays_shut : (f : MountFault) (why : OpenRefused) → why ≡ refused_for f → IsHandedBack t told presumed v w f → StaysShut grounds says t told presumed v w why
  stays_shut f why is h = subst (StaysShut grounds says t told presumed v w) (sym is)
      (record { reason = reason f h; alone = λ told_so. left_alone t presumed v w (h.moments told_so); quiet = quiet f h })
