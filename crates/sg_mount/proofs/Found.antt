-- What a store that was found shows, and why one is refused.
use Rattle.std.proofs.Common.{◌≡◌, ◌⊎◌, ⊎_elim, ◌≤◌, ℕ, Bool, IsTrue, List, [], ◌∷◌, ◌++◌, map, Some, inl, inr, refl, sym, ap, ◌∙◌, subst}
use Rattle.std.specs.Bool.{OnFalse}
use Rattle.std.proofs.Props.{props}
use mathlib.Core.Logic.{∥∥₁_elim}
use Rattle.sg_base.specs.declared.area.Area.{Area}
use Rattle.sg_base.specs.declared.numbers.TxnId.{TxnId}
use Rattle.sg_disk.specs.Accounts.{IsShownEnd}
use Rattle.sg_disk.specs.Disk.{Image, View as DiskView}
use Rattle.sg_disk.proofs.Moments.{weaker}
use Rattle.sg_analysis.specs.Analysis as analysis
use Rattle.sg_base.specs.Ends.{HasRisen}
use Rattle.sg_find.specs.Faults.{is_disk}
use Rattle.sg_find.specs.Synced.{IsUnsynced, SplitsAtSync, reads}
use Rattle.sg_find.specs.declared.fault.OpenFault.{OpenFault}
use Rattle.sg_find.specs.declared.fault.OpenFault.TheVariants as opens
use Rattle.sg_open.specs.Refusals.{IsCause, IsLateCause, IsUnwrittenAt, StoreRefused}
use Rattle.sg_ops.specs.Table.{Table}
use Rattle.sg_action.specs.States.{State}
use Rattle.sg_actions.specs.Engine.{StandsNow, led as led_engine}
use Rattle.sg_actions.specs.Steps.{Steps}
use Rattle.sg_attach.specs.Attached.{IsAttaching, IsStoreImage}
use Rattle.sg_attach.proofs.Known.{none_unknown}
use Rattle.sg_ground.proofs.Lawful.{ground_is_lawful}
use Rattle.sg_model.specs.Objects.{Objects}
use Rattle.sg_phys_laws.specs.Recovers.{RecoversBy, origin_of, records_in}
use Rattle.sg_phys_laws.specs.States.{steps_of}
use Rattle.sg_phys_laws.proofs.Recovered.{whole_image}
use Rattle.sg_reader.proofs.Decide.{reader}
use Rattle.sg_recovery.specs.Chains.{next_lsn}
use Rattle.sg_recovery.specs.Formed.{IsLog}
use Rattle.sg_recovery.specs.Log.{tally}
use Rattle.sg_recovery.specs.Setting.{Setting}
use Rattle.sg_recovery.specs.Stands.{settled}
use Rattle.sg_shown.specs.Shown.{Over, Finds, RecoversSized, basis, extent_of, opened_of}
use Rattle.sg_space.specs.declared.space.SpaceFault.TheVariants as spaces
use Rattle.sg_starting.specs.Starting.{IfBroken, IsOpenedWith, IsStartDisk, oldest_first}
use Rattle.sg_starting.specs.declared.opening.StartFault.{StartFault}
use Rattle.sg_starting.specs.declared.opening.StartFault.TheVariants as starts
use Rattle.sg_starting.proofs.Finding.{losers_cover, losers_live, losers_apart}
use Rattle.sg_store.proofs.Counting.{live_distinct}
use Rattle.sg_store.specs.Engine.{AskedBy, Shown, Sizes}
use Rattle.sg_store.specs.Ground.{setting}
use Rattle.sg_store.specs.Stands.{StandsFor}
use Rattle.sg_mount.specs.Making.{ground_of_sizes}
use Rattle.sg_attach.specs.Ended.{end_in}
use Rattle.sg_mount.specs.Opening.{AreShut, StandsAsPresumed, HasFound, IsFoundOn, IsHandedBack, ImageStandsFor, IsMountCause, IsStoreOf, IsUnwritten, KeepsStanding, of_opening, of_start, sizes_in}
use Rattle.sg_mount.specs.declared.fault.MountFault.TheVariants as mounts
use Rattle.sg_mount.proofs.Standing.{found, from, from_sized, image, image_stands, log_same, log_stands, one_log, opened, pages_same, standing_is, stands_own}

-- THE LOSERS that an analysis names are the transactions that go on, in the order of their begins
orders_same : (live : List ℕ) → analysis.oldest_first live ≡ oldest_first live
orders_same [] = refl
orders_same (u ∷ us) = ap (λ (l : List ℕ). l ++ u ∷ []) (orders_same us)

firsts : (rs : Steps) (live : List ℕ) → map (λ (p : ℕ × ℕ). p.0) (map (analysis.with_last rs) live) ≡ live
firsts rs [] = refl
firsts rs (u ∷ us) = ap (λ (l : List ℕ). u ∷ l) (firsts rs us)

pub losers_are : (rs : Steps) (losers : List TxnId) (said : List (ℕ × ℕ)) → map (λ (x : TxnId). x.0) losers ≡ map (λ (p : ℕ × ℕ). p.0) said → said ≡ analysis.losers_of rs
    → map (λ (x : TxnId). x.0) losers ≡ oldest_first (tally rs).live
losers_are rs losers said same is =
    same ∙ (ap (map (λ (p : ℕ × ℕ). p.0)) is ∙ (firsts rs (analysis.going_on rs) ∙ orders_same (tally rs).live))

-- A STORE WAS FOUND: the engine over the pages was opened of an image that stands for these objects, with the steps of its log, all of them durable
module _ (t : Table) (c : Image) (m : Objects) (h : ImageStandsFor t c m) where
  abbrev pub z : Sizes
  z = sizes_in c

  abbrev pub q : IsStoreOf t z c
  q = standing_is t z c m h

  -- the pages and bands from which its records lead
  abbrev pub first : State
  first = from t z c q

  -- which are as many as its superblock says
  pub first_sized : first.size ≡ extent_of z
  first_sized = from_sized t z c q

  pub is_of : IsStoreImage t (from t z c q) q.log q.log c
  is_of = image t z c q

  pub has_found : (a : Over) (losers : List TxnId) → a.engine.steps ≡ steps_of (records_in (origin_of t c) c) → a.engine.durable ≡ steps_of (records_in (origin_of t c) c)
      → IsLog a.engine.base a.engine.steps → next_lsn a.engine.steps ≤ a.engine.tail → StandsNow (RecoversBy t) t (led_engine (from t z c q) a.engine)
      → map (λ (x : TxnId). x.0) losers ≡ oldest_first (tally a.engine.steps).live → Finds a t z (from t z c q) → HasFound t c m losers (opened_of RecoversBy a)
  has_found a losers steps durable formed below images are finds =
      let live : List ℕ = (tally a.engine.steps).live in
      record {
        from = from t z c q;
        means = finds;
        opened = record {
          lawful = ground_is_lawful z.pages z.bands (reader z.pages z.bands) (RecoversSized RecoversBy z) t;
          opened = opened t z c q a steps durable (found t z c q a steps durable formed below images);
          live = losers_live live losers are;
          cover = losers_cover live losers are;
          apart = losers_apart live losers (live_distinct a.engine.steps formed.chained) are;
        };
        stands = log_stands t z c q a steps durable m h;
        reads = λ log o i.
            (let same = one_log t c log q.log i.pages q.pages i.recovers.image q.recovers.image in
            let log_is : log ≡ a.engine.steps = same.0 ∙ log_same t z c q a steps durable in
            let own : Setting = setting t (ground_of_sizes z) in (
              sym log_is,
              subst (λ (x : State). settled own (tally a.engine.steps).opened x ≡ Some o) (same.1 ∙ pages_same t z c q a steps durable)
                  (subst (λ (l : Steps). settled own (tally l).opened i.pages ≡ Some o) log_is i.reads),
            ));
      }

  -- each image of the moments behind the syncs stands for the same
  pub attaching_stands : (d : Image) → IsStoreImage t (from t z c q) q.log q.log d → StandsFor t (ground_of_sizes z) d m
  attaching_stands d is = image_stands t z c q m h d is

  -- what a crash leaves of it now
  pub now_stands : (v : DiskView) → reads v ≡ c → (a : Over) (mid : DiskView) → a.engine.steps ≡ steps_of (records_in (origin_of t c) c) → a.engine.durable ≡ steps_of (records_in (origin_of t c) c)
      → IsAttaching t v a.engine.disk mid → StandsNow (RecoversBy t) t (led_engine (from t z c q) a.engine)
  now_stands v same a mid steps durable attaching d leaves =
      let log_is : q.log ≡ steps_of (records_in (origin_of t c) c) = q.recovers.image.holds.records in
      let is : IsStoreImage t (from t z c q) q.log q.log (reads v) = subst (λ (i : Image). IsStoreImage t (from t z c q) q.log q.log i) (sym same) is_of in
      let here : IsStoreImage t (from t z c q) q.log q.log d = (attaching (from t z c q) q.log q.log is).each d (inl leaves) in
      whole_image (RecoversBy t) t (from t z c q) a.engine.durable a.engine.steps d
      (subst (λ (l : Steps). IsStoreImage t (from t z c q) l a.engine.steps d) (log_is ∙ sym durable)
      (subst (λ (l : Steps). IsStoreImage t (from t z c q) q.log l d) (log_is ∙ sym steps) here))

-- it may be started, where it tells
pub found_asks : (t : Table) (c : Image) (losers : List TxnId) (e : Shown (basis RecoversBy)) → (e.Told → (m : Objects) × HasFound t c m losers e) → AskedBy t e (IsOpenedWith losers t)
found_asks t c losers e has = record {
  sizes = sizes_in c;
  from = λ told. (has told).1.from;
  means = λ told. (has told).1.means;
  can = λ told. (has told).1.opened;
}

-- EACH IMAGE of opening the engine, from its syncs on, stands for what the one that was read stood for
pub attaching_keeps : (t : Table) (presumed : Type 0) (v w mid : DiskView) → IsAttaching t v w mid → KeepsStanding t presumed v w mid
attaching_keeps t presumed v w mid attaching p m h =
    weaker (attaching (first t (reads v) m h) (q t (reads v) m h).log (q t (reads v) m h).log (is_of t (reads v) m h))
    (λ d is. stands_own t (sizes_in (reads v)) d m (attaching_stands t (reads v) m h d is))

pub split_more : (v : DiskView) (P Q : DiskView → Type 0) → ((mid : DiskView) → P mid → Q mid) → SplitsAtSync v P → SplitsAtSync v Q
split_more v P Q more split = record { mid = split.mid; synced = split.synced; before = split.before; behind = more split.mid split.behind }

-- A STORE WAS FOUND on a disk: all that is known of what was opened
pub found_on : (t : Table) (told : Bool) (presumed : Type 0) (v : DiskView) (losers : List TxnId) (a : Over) → StandsAsPresumed t told presumed (reads v)
    → (IsTrue told → presumed → a.engine.Told) → (a.engine.Told → IsTrue told × presumed)
    → (IsTrue told → presumed → a.engine.steps ≡ steps_of (records_in (origin_of t (reads v)) (reads v)))
    → (IsTrue told → presumed → a.engine.durable ≡ steps_of (records_in (origin_of t (reads v)) (reads v)))
    → (IsTrue told → presumed → IsLog a.engine.base a.engine.steps) → (IsTrue told → presumed → next_lsn a.engine.steps ≤ a.engine.tail)
    → (IsTrue told → presumed → map (λ (x : TxnId). x.0) losers ≡ oldest_first (tally a.engine.steps).live)
    → (IsTrue told → presumed → (m : Objects) → (h : ImageStandsFor t (reads v) m) → Finds a t (sizes_in (reads v)) (first t (reads v) m h))
    → (IsTrue told → SplitsAtSync v (IsAttaching t v a.engine.disk)) → a.engine.disk.faults ≡ v.faults → v.handed ≤ a.engine.disk.handed
    → (IsTrue told → IsShownEnd v a.engine.disk (end_in (reads v)) a.engine.gate) → IsFoundOn t told presumed v losers (opened_of RecoversBy a)
found_on t told presumed v losers a can tells silent steps durable formed below are finds attached heeded handed shown = record {
  asks = found_asks t (reads v) losers (opened_of RecoversBy a) (λ is. (let known = silent is in let some = can known.0 known.1 in (some.objects, has known.0 known.1 some.objects some.stands)));
  tells = tells;
  silent = silent;
  has = has;
  moments = λ is. split_more v (IsAttaching t v a.engine.disk) (KeepsStanding t presumed v a.engine.disk) (attaching_keeps t presumed v a.engine.disk) (attached is);
  heeded = heeded;
  handed = handed;
  shown = shown;
}
  where
    has : IsTrue told → presumed → (m : Objects) → ImageStandsFor t (reads v) m → HasFound t (reads v) m losers (opened_of RecoversBy a)
    has is p m h = has_found t (reads v) m h a losers (steps is p) (durable is p) (formed is p) (below is p)
        (now_stands t (reads v) m h v refl a (attached is).mid (steps is p) (durable is p) (attached is).behind) (are is p) (finds is p m h)

-- WHY A DISK IS REFUSED
risen_prop : (a b : ℕ) → IsProp (HasRisen a b)
risen_prop a b = hlevel props

-- an image that comes to anything isn't refused so
abbrev pub IsNeverDamaged : Table → Image → OpenFault → Type 0
IsNeverDamaged t c fault = (log : Steps) (x : State) → RecoversBy t c log x → (area : Area) (at : ℕ) → fault ≡ opens.Damaged area at → ⊥

pub mount_cause : (told : Bool) (t : Table) (presumed : Type 0) (v w : DiskView) (fault : OpenFault) → StandsAsPresumed t told presumed (reads v) → IsTrue told → IsCause t (reads v) fault ⊎ IsLateCause (reads v) fault
    → IsNeverDamaged t (reads v) fault → ((from : State) (durable log : Steps) → IsStoreImage t from durable log (reads v) → ∥ StoreRefused told t (origin_of t (reads v)) (records_in (origin_of t (reads v)) (reads v)) v w fault ∥₁)
    → IsMountCause t presumed (reads v) (of_opening fault)
mount_cause told t presumed v w opens.Disk can is cause whole refused = tt
mount_cause told t presumed v w opens.Memory can is cause whole refused = tt
mount_cause told t presumed v w opens.NotAStore can is cause whole refused = (
  ⊎_elim (λ h. h) (λ late. absurd late) cause,
  λ p. (let some = can is p in
      ∥∥₁_elim (refused (first t (reads v) some.objects some.stands) (q t (reads v) some.objects some.stands).log (q t (reads v) some.objects some.stands).log (is_of t (reads v) some.objects some.stands)) (λ x y. absurd x) (λ r. r)),
)
mount_cause told t presumed v w (opens.Damaged area at) can is cause whole refused = (
  ⊎_elim (λ h. inl h) (λ late. inr (late.0, ⊎_elim (λ header. inl (late.1.0, late.1.1, header)) (λ page. inr (page.0, page.2)) late.1.2)) cause,
  λ p. (let h = (can is p).stands in whole h.log h.pages h.recovers.image area at refl),
)
mount_cause told t presumed v w (opens.UnknownOperation code) can is cause whole refused =
    let here : IsCause t (reads v) (opens.UnknownOperation code) = ⊎_elim (λ h. h) (λ late. absurd late) cause in
    (here, λ p. (let h = (can is p).stands in none_unknown t (reads v) h.log h.pages code h.recovers.image here))

-- the disk's own count rose, where what is presumed holds
pub opening_failed : (told : Bool) (t : Table) (presumed : Type 0) (v w : DiskView) (fault : OpenFault) → StandsAsPresumed t told presumed (reads v)
    → ((from : State) (durable log : Steps) → IsStoreImage t from durable log (reads v) → ∥ StoreRefused told t (origin_of t (reads v)) (records_in (origin_of t (reads v)) (reads v)) v w fault ∥₁)
    → of_opening fault ≡ mounts.Disk → IsTrue told → presumed → HasRisen v.faults w.faults
opening_failed told t presumed v w fault can refused e is p = risen fault refused e (can is p).objects (can is p).stands
  where
    risen : (f : OpenFault) → ((from : State) (durable log : Steps) → IsStoreImage t from durable log (reads v) → ∥ StoreRefused told t (origin_of t (reads v)) (records_in (origin_of t (reads v)) (reads v)) v w f ∥₁)
        → of_opening f ≡ mounts.Disk → (m : Objects) → ImageStandsFor t (reads v) m → HasRisen v.faults w.faults
    risen opens.Disk refused e m h = ∥∥₁_elim (refused (first t (reads v) m h) (q t (reads v) m h).log (q t (reads v) m h).log (is_of t (reads v) m h)) (risen_prop v.faults w.faults) (λ r. r)
    risen opens.Memory refused e m h = absurd cc
    risen opens.NotAStore refused e m h = absurd cc
    risen (opens.Damaged area at) refused e m h = absurd cc
    risen (opens.UnknownOperation code) refused e m h = absurd cc

-- the log's end is never why
pub opening_no_end : (fault : OpenFault) → of_opening fault ≡ mounts.LogEnd → ⊥
opening_no_end opens.Disk e = cc
opening_no_end opens.Memory e = cc
opening_no_end opens.NotAStore e = cc
opening_no_end (opens.Damaged area at) e = cc
opening_no_end (opens.UnknownOperation code) e = cc

-- and for another reason it is as it was
pub opening_heeded : (fault : OpenFault) (v w : DiskView) → OnFalse (is_disk fault) (w.faults ≡ v.faults) → (of_opening fault ≡ mounts.Disk → ⊥) → w.faults ≡ v.faults
opening_heeded opens.Disk v w h other = absurd (other refl)
opening_heeded opens.Memory v w h other = h
opening_heeded opens.NotAStore v w h other = h
opening_heeded (opens.Damaged area at) v w h other = h
opening_heeded (opens.UnknownOperation code) v w h other = h

pub opening_unwritten : (fault : OpenFault) (v w : DiskView) → IsUnwrittenAt fault v w → IsUnwritten (of_opening fault) v w
opening_unwritten opens.Disk v w h = tt
opening_unwritten opens.Memory v w h = tt
opening_unwritten opens.NotAStore v w h = h
opening_unwritten (opens.Damaged area at) v w h = h
opening_unwritten (opens.UnknownOperation code) v w h = h

pub opening_no_store : (fault : OpenFault) → of_opening fault ≡ mounts.NotAStore → fault ≡ opens.NotAStore
opening_no_store opens.Disk e = absurd cc
opening_no_store opens.Memory e = absurd cc
opening_no_store opens.NotAStore e = refl
opening_no_store (opens.Damaged area at) e = absurd cc
opening_no_store (opens.UnknownOperation code) e = absurd cc

-- of the steps behind the engine's opening
pub start_cause : (t : Table) (presumed : Type 0) (c : Image) (why : StartFault) → IfBroken why (presumed → ⊥) → IsMountCause t presumed c (of_start why)
start_cause t presumed c (starts.Space spaces.Disk) none = tt
start_cause t presumed c (starts.Space spaces.LogEnd) none = tt
start_cause t presumed c (starts.Broken page) none = (inr (refl, inr (page.0, refl)), none)
start_cause t presumed c starts.Memory none = tt

pub start_disk : (why : StartFault) → of_start why ≡ mounts.Disk → IsStartDisk why
start_disk (starts.Space spaces.Disk) e = tt
start_disk (starts.Space spaces.LogEnd) e = absurd cc
start_disk (starts.Broken page) e = absurd cc
start_disk starts.Memory e = absurd cc

pub start_other : (why : StartFault) → (of_start why ≡ mounts.Disk → ⊥) → IsStartDisk why → ⊥
start_other (starts.Space spaces.Disk) other is = other refl
start_other (starts.Space spaces.LogEnd) other is = is
start_other (starts.Broken page) other is = is
start_other starts.Memory other is = is

pub start_no_store : (why : StartFault) → of_start why ≡ mounts.NotAStore → ⊥
start_no_store (starts.Space spaces.Disk) e = cc
start_no_store (starts.Space spaces.LogEnd) e = cc
start_no_store (starts.Broken page) e = cc
start_no_store starts.Memory e = cc

pub start_unwritten : (why : StartFault) (v w : DiskView) → IsUnwritten (of_start why) v w
start_unwritten (starts.Space spaces.Disk) v w = tt
start_unwritten (starts.Space spaces.LogEnd) v w = tt
start_unwritten (starts.Broken page) v w = inl refl
start_unwritten starts.Memory v w = tt

pub if_broken : {P Q : Type 0} (why : StartFault) → (P → Q) → IfBroken why P → IfBroken why Q
if_broken (starts.Space fault) f h = tt
if_broken (starts.Broken page) f h = f h
if_broken starts.Memory f h = tt

-- A DISK IS HANDED BACK whose pages weren't opened
pub opening_back : (told : Bool) (t : Table) (presumed : Type 0) (v w : DiskView) (fault : OpenFault) → StandsAsPresumed t told presumed (reads v)
    → (IsTrue told → IsCause t (reads v) fault ⊎ IsLateCause (reads v) fault)
    → (IsTrue told → IsNeverDamaged t (reads v) fault)
    → ((from : State) (durable log : Steps) → IsTrue told → IsStoreImage t from durable log (reads v) → ∥ StoreRefused told t (origin_of t (reads v)) (records_in (origin_of t (reads v)) (reads v)) v w fault ∥₁)
    → (IsTrue told → fault ≡ opens.NotAStore → AreShut v) → (IsTrue told → IsUnsynced v w ⊎ SplitsAtSync v (IsAttaching t v w)) → IsUnwrittenAt fault v w → OnFalse (is_disk fault) (w.faults ≡ v.faults)
    → IsHandedBack t told presumed v w (of_opening fault)
opening_back told t presumed v w fault can cause whole refused shut moments unwritten heeded = record {
  cause = λ is. mount_cause told t presumed v w fault can is (cause is) (whole is) (λ from durable log i. refused from durable log is i);
  shut = λ is no. shut is (opening_no_store fault no);
  moments = λ is. ⊎_elim (λ early. inl early) (λ split. inr (split_more v (IsAttaching t v w) (KeepsStanding t presumed v w) (attaching_keeps t presumed v w) split)) (moments is);
  unwritten = opening_unwritten fault v w unwritten;
  heeded = opening_heeded fault v w heeded;
  failed = λ disk is p. opening_failed told t presumed v w fault can (λ from durable log i. refused from durable log is i) disk is p;
  log_end = λ end is. absurd (opening_no_end fault end);
}

-- and one whose pages were, for want of memory
pub memory_back : (t : Table) (told : Bool) (presumed : Type 0) (v w : DiskView) → (IsTrue told → SplitsAtSync v (IsAttaching t v w)) → w.faults ≡ v.faults → IsHandedBack t told presumed v w mounts.Memory
memory_back t told presumed v w moments same = record {
  cause = λ is. tt;
  shut = λ is no. absurd cc;
  moments = λ is. inr (split_more v (IsAttaching t v w) (KeepsStanding t presumed v w) (attaching_keeps t presumed v w) (moments is));
  unwritten = tt;
  heeded = λ other. same;
  failed = λ disk is p. absurd cc;
  log_end = λ end is. absurd cc;
}

-- where neither gate is open no store is found
pub opening_shut : (fault : OpenFault) → (fault ≡ opens.NotAStore) ⊎ (fault ≡ opens.Disk) → (of_opening fault ≡ mounts.NotAStore) ⊎ (of_opening fault ≡ mounts.Disk)
opening_shut fault h = ⊎_elim (λ no. inl (ap of_opening no)) (λ disk. inr (ap of_opening disk)) h
