-- From an engine that was found to a store that has started, or to a disk that is handed back.
use Rattle.std.proofs.Common.{◌≡◌, ◌+◌, ◌<◌, ◌≤◌, ℕ, Bool, IsTrue, List, [], None, Err, arith, inl, inr, sym, ◌∙◌, subst}
use Rattle.sg_base.specs.Ends.{HasRisen}
use Rattle.sg_base.specs.declared.numbers.TxnId.{TxnId}
use Rattle.sg_disk.specs.Accounts.{IsShownEnd}
use Rattle.sg_disk.specs.Disk.{View as DiskView}
use Rattle.sg_disk.proofs.Moments.{joined, weaker}
use Rattle.sg_find.specs.Synced.{SplitsAtSync, reads}
use Rattle.sg_ops.specs.Table.{Table}
use Rattle.sg_actions.specs.Steps.{Steps}
use Rattle.sg_model.specs.Objects.{Objects}
use Rattle.sg_phys_laws.specs.Recovers.{RecoversBy}
use Rattle.sg_recovery.specs.Log.{tally}
use Rattle.sg_recovery.specs.Stands.{StandsFor as LogStands}
use Rattle.sg_run.specs.Run.{start}
use Rattle.sg_shown.specs.Shown.{basis}
use Rattle.sg_space.specs.declared.space.SpaceFault.TheVariants as spaces
use Rattle.sg_starting.specs.Starting.{AllStandFor, AreBuried, AreLosers, BeginsStock, IfBroken, IsFound, IsRead, IsStartDisk, IsStartEnd, IsUnread}
use Rattle.sg_starting.specs.declared.opening.StartFault.{StartFault}
use Rattle.sg_starting.specs.declared.opening.StartFault.TheVariants as starts
use Rattle.sg_store.specs.Accounting.{AccountsFor, Unfailed}
use Rattle.sg_store.specs.Engine.{AsMeantBy, KeepsBy, LOG_END, Shown, View, led}
use Rattle.sg_store.specs.Ground.{Ground, IsLawful, setting}
use Rattle.sg_store.specs.Rests.{HasObjects}
use Rattle.sg_store.specs.Store.{Core, Shows}
use Rattle.sg_mount.specs.Making.{ground_of_sizes}
use Rattle.sg_attach.specs.Ended.{end_in}
use Rattle.sg_mount.specs.Opening.{HasFound, HasOpenedOn, HasStarted, ImageStandsFor, IsFoundOn, IsHandedBack, IsNearEndBy, KeepsStanding, StandsAsPresumed, of_start, sizes_in}
use Rattle.sg_mount.specs.declared.fault.MountFault.TheVariants as mounts
use Rattle.sg_mount.proofs.Found.{if_broken, split_more, start_cause, start_disk, start_no_store, start_other, start_unwritten}
use Rattle.sg_mount.proofs.Standing.{stands_own}

-- A STORE WAS FOUND with losers that stand in another list
pub found_with : (t : Table) (told : Bool) (presumed : Type 0) (v : DiskView) (e : Shown (basis RecoversBy)) (losers others : List TxnId) → others ≡ losers
    → IsFoundOn t told presumed v losers e → IsFoundOn t told presumed v others e
found_with t told presumed v e losers others same f = subst (λ (l : List TxnId). IsFoundOn t told presumed v l e) (sym same) f

-- the log's end is shown by bytes through one call and then another
pub shown_then : (u v w : DiskView) (a b c : ℕ) → v.handed ≤ w.handed → IsShownEnd u v a b → IsShownEnd v w b c → IsShownEnd u w a c
shown_then u v w a b c more (inl full) second = inl (omega arith)
shown_then u v w a b c more (inr first) (inl full) = inl full
shown_then u v w a b c more (inr first) (inr second) = inr (omega arith)

near_end : (v w : DiskView) (end tail gate : ℕ) → IsShownEnd v w end gate → LOG_END < tail + 131072 → tail ≤ gate + 65541 → IsNearEndBy end v w
near_end v w end tail gate (inl full) near waits = inl full
near_end v w end tail gate (inr shown) near waits = inr (omega arith)

start_end : (why : StartFault) (tail : ℕ) → of_start why ≡ mounts.LogEnd → IsStartEnd tail why → LOG_END < tail + 131072
start_end (starts.Space spaces.Disk) tail e near = absurd cc
start_end (starts.Space spaces.LogEnd) tail e near = near
start_end (starts.Broken page) tail e near = absurd cc
start_end starts.Memory tail e near = absurd cc

-- WHAT THE LAST STEPS DID to an engine that was found, of which the log stands for these objects
abbrev pub Ran : (t : Table) (losers : List TxnId) → ((g : Ground) → (v w : View g) → Objects → Type 0) → (old new : Shown (basis RecoversBy)) → Type 0
Ran t losers P old new = AsMeantBy t old new (λ g v w. (m : Objects) → IsLawful t g → IsFound t g v → LogStands (setting t g) v.first v.log m → AreLosers (tally v.log).live losers → P g v w m)

module _ (t : Table) (told : Bool) (presumed : Type 0) (v : DiskView) (losers : List TxnId) (e w : Shown (basis RecoversBy)) (f : IsFoundOn t told presumed v losers e) where
  -- of the image that was read
  ran : (P : (g : Ground) → (v w : View g) → Objects → Type 0) → Ran t losers P e w → IsTrue told → presumed → (m : Objects) → (h : ImageStandsFor t (reads v) m)
      → (found : HasFound t (reads v) m losers e) → P (ground_of_sizes (sizes_in (reads v))) (led t (sizes_in (reads v)) found.from e) (led t (sizes_in (reads v)) found.from w) m
  ran P did is p m h found = did (sizes_in (reads v)) found.from found.means (f.tells is p) m found.opened.lawful found.opened.opened.can.found found.stands found.opened.cover

  -- each image of each moment
  pub keeps_standing : Ran t losers (λ g v w m. AllStandFor t g v w m) e w → IsTrue told → SplitsAtSync v (KeepsStanding t presumed v w.disk)
  keeps_standing stands is = split_more v (KeepsStanding t presumed v e.disk) (KeepsStanding t presumed v w.disk)
      (λ mid early p m h. joined (early p m h)
      (weaker (ran (λ g v w m. AllStandFor t g v w m) stands is p m h (f.has is p m h)) (λ c s. stands_own t (sizes_in (reads v)) c m s)))
      (f.moments is)

  -- A STORE HAS STARTED
  pub has_started : (k : Core) → KeepsBy t e w → Ran t losers (λ g v w m. HasObjects [] m m k t g w) e w → Ran t losers (λ g v w m. Shows t g w k (start m) × AreBuried t g w 0) e w
      → Ran t losers (λ g v w m. (o : g.O) → IsRead t g v o → BeginsStock t g o (tally v.log).notes w) e w
      → IsTrue told → presumed → (m : Objects) → ImageStandsFor t (reads v) m → HasStarted t (reads v) m k w
  has_started k means has shows stock is p m h =
      let found = f.has is p m h in
      let s = ran (λ g v w m. Shows t g w k (start m) × AreBuried t g w 0) shows is p m h found in
      record {
        from = found.from;
        means = means (sizes_in (reads v)) found.from found.means;
        has = ran (λ g v w m. HasObjects [] m m k t g w) has is p m h found;
        shows = s.0;
        buried = s.1;
        stock = λ log o i.
            (let r = found.reads log o i in
            subst (λ (l : Steps). BeginsStock t (ground_of_sizes (sizes_in (reads v))) o (tally l).notes (led t (sizes_in (reads v)) found.from w)) r.0
            (ran (λ g v w m. (o : g.O) → IsRead t g v o → BeginsStock t g o (tally v.log).notes w) stock is p m h found o r.1));
      }

  pub has_opened : (k : Core) → k ≡ record { live = []; held = []; stopped = None } → KeepsBy t e w → (e.Told → w.Told) → Unfailed e w
      → Ran t losers (λ g v w m. HasObjects [] m m k t g w) e w → Ran t losers (λ g v w m. Shows t g w k (start m) × AreBuried t g w 0) e w
      → Ran t losers (λ g v w m. (o : g.O) → IsRead t g v o → BeginsStock t g o (tally v.log).notes w) e w → Ran t losers (λ g v w m. AllStandFor t g v w m) e w
      → HasOpenedOn t told presumed v k w
  has_opened k core means tells same has shows stock stands = record {
    core = core;
    tells = λ is p. tells (f.tells is p);
    has = has_started k means has shows stock;
    moments = keeps_standing stands;
    heeded = same.faults ∙ f.heeded;
    shown = λ is. shown_then v e.disk w.disk (end_in (reads v)) e.gate w.gate same.handed (f.shown is) same.shown;
  }

  -- A DISK IS HANDED BACK

  -- a page is broken only where what is presumed doesn't hold
  unpresumed : StandsAsPresumed t told presumed (reads v) → (why : StartFault) → IfBroken why (AsMeantBy t e w (λ g v w. IsFound t g v → IsUnread t g v)) → IsTrue told → IfBroken why (presumed → ⊥)
  unpresumed can why broken is = if_broken {P = AsMeantBy t e w (λ g v w. IsFound t g v → IsUnread t g v)} {Q = presumed → ⊥} why (λ unread p.
      (let some = can is p in
      let found = f.has is p some.objects some.stands in
      (unread (sizes_in (reads v)) found.from found.means (f.tells is p) found.opened.opened.can.found).stands some.objects found.stands))
      broken

  pub handed_back : StandsAsPresumed t told presumed (reads v) → (why : StartFault) → IfBroken why (AsMeantBy t e w (λ g v w. IsFound t g v → IsUnread t g v))
      → Ran t losers (λ g v w m. AllStandFor t g v w m) e w → {T : Type 0} → AccountsFor {T = T} IsStartDisk e w (Err why) → IsStartEnd w.tail why → w.tail ≤ w.gate + 65541
      → IsHandedBack t told presumed v w.disk (of_start why)
  handed_back can why broken stands accounts near waits = record {
    cause = λ is. start_cause t presumed (reads v) why (unpresumed can why broken is);
    shut = λ is no. absurd (start_no_store why no);
    moments = λ is. inr (keeps_standing stands is);
    unwritten = start_unwritten why v w.disk;
    heeded = λ other. accounts.heeded (start_other why other) ∙ f.heeded;
    failed = λ disk is p. subst (λ (n : ℕ). HasRisen n w.disk.faults) f.heeded (accounts.caused (start_disk why disk) (f.tells is p));
    log_end = λ full is. near_end v w.disk (end_in (reads v)) w.tail w.gate (shown_then v e.disk w.disk (end_in (reads v)) e.gate w.gate accounts.handed (f.shown is) accounts.shown) (start_end why w.tail full near) waits;
  }
