-- How the objects of a disk's store are written, or what they come to.
use Rattle.std.proofs.Common.{◌≡◌, ◌⊎◌, inl, inr, ⊎_elim, ℕ, ◌≤◌, Bool, true, false, IsTrue, List, Option, Some, None, Result, Ok, Err, length, refl, sym, ap, ◌∙◌, subst, arith}
use Rattle.std.specs.Prelude.{IsSome, IfSome}
use Rattle.sg_base.specs.Ends.{HasRisen}
use Rattle.sg_base.specs.declared.ends.Failed.{Failed}
use Rattle.sg_disk.specs.Disk as disk
use Rattle.sg_disk.proofs.Moments as moments
use Rattle.sg_lines.specs.Summed.{summary_line, summary_of}
use Rattle.sg_lines.specs.Text.{text_of}
use Rattle.sg_lines.specs.declared.summary.Summary.{Summary}
use Rattle.sg_model.specs.declared.stop.Stop.{Stop}
use Rattle.sg_model.specs.declared.stop.Stop.TheVariants as stops
use Rattle.sg_model.specs.Objects.{Objects}
use Rattle.sg_ops.specs.Table.{Table as Operations}
use Rattle.sg_run.specs.Run.{Run, Past, start, live_objects, objects_after}
use Rattle.sg_store.specs.declared.fault.CheckRefused.{CheckRefused}
use Rattle.sg_store.specs.declared.fault.CheckRefused.TheVariants as checks
use Rattle.sg_store.specs.declared.fault.Refused.{Refused}
use Rattle.sg_store.specs.declared.fault.Refused.TheVariants as refused
use Rattle.sg_store.specs.declared.fault.Untold.{Untold}
use Rattle.sg_store.specs.declared.fault.Untold.TheVariants as untold
use Rattle.sg_store.specs.Calls.{Goes, Flushes}
use Rattle.sg_store.specs.Causes.{FlushesFor}
use Rattle.sg_store.specs.Engine.{View, Sizes, Shown, Keeps, AsMeant}
use Rattle.sg_store.specs.Ground.{Ground, IsLawful}
use Rattle.sg_store.specs.Heeds.{Heeds}
use Rattle.sg_store.specs.Stands as stores
use Rattle.sg_store.specs.Stops.{stop_behind}
use Rattle.sg_store.specs.Store.{Core, Shows}
use Rattle.sg_store.specs.Told as telling
use Rattle.sg_store.proofs.Heeding.{heeds_then}
use Rattle.sg_store.proofs.Maintaining.{flush_past}
use Rattle.sg_words.specs.Writing as words
use Rattle.sg_commands.specs.declared.objects.Listing.{Listing}
use Rattle.sg_commands.specs.declared.objects.Listing.TheVariants as listings
use Rattle.sg_commands.specs.declared.opens.OpenRefused as code_refused
use Rattle.sg_commands.specs.declared.opens.OpenRefused.TheVariants as refusals
use Rattle.sg_commands.specs.declared.status.Status as code_status
use Rattle.sg_commands.specs.declared.status.Status.TheVariants as statuses
use Rattle.sg_commands.specs.Drawing.{Sunk}
use Rattle.sg_commands.specs.Images.{Says, reads_of, StandsFor}
use Rattle.sg_commands.specs.Written.{text_for, HasTaken, CountsSink, HasStopped, AT_FIRST, Writes, IsReadable, HasTakenOf, TellsObjects, WritesObjects}
use Rattle.sg_commands.specs.Opening.{IsLeftAlone, IsOpened, IsRefusedFor, StaysShut}
use Rattle.sg_commands.specs.Statuses.{status_of_refusal, status_of_writing, status_of_telling, status_of_check, status_of_closing}
use Rattle.sg_commands.proofs.Endings.{alone, clash, count_rose, its_own}

-- a call that went so went as well as something weaker says
weaker : (t : Operations) (g : Ground) (v w : View g) (x : Run) (L M : Run → Type 0) (m : Core) → ((y : Run) → L y → M y) → Goes t g v x L w m → Goes t g v x M w m
weaker t g v w x L M m more h = record { after = h.after; goes = more h.after h.goes; shows = h.shows; moments = h.moments }

-- a run is as far as another one, whether or not one of them has stopped
past : (x y : Run) → y ≡ x → y.so_far ≡ x.so_far
past x y is = ap (λ (z : Run). z.so_far) is

-- what stands for the first commits of one stands for those of the other
first_same : (t : Operations) (g : Ground) (least : ℕ) (x y : Run) (c : disk.Image) → y.so_far ≡ x.so_far → stores.StandsForFirst t g least x c → stores.StandsForFirst t g least y c
first_same t g least x y c same s = record {
  commits = s.commits;
  enough = s.enough;
  most = subst (λ (p : Past). s.commits ≤ length p.commits) (sym same) s.most;
  stands = subst (λ (p : Past). stores.StandsFor t g c (objects_after t s.commits (record { so_far = p; stopped = None }))) (sym same) s.stands;
}

none_some : {A : Type 0} (s : Option Stop) → s ≡ None → IsSome s → A
none_some None none some = absurd (cc)
none_some (Some why) none some = absurd (cc)

-- a store stops for the disk alone, and then the status is that of a fault of the disk
disk_only : (status : code_status.Status) (stop : Option Stop) → HasStopped status stop → stop ≡ Some stops.Disk → status ≡ statuses.Disk
disk_only statuses.Disk stop h is = refl
disk_only statuses.Done stop h is = clash stops.Disk (sym h ∙ is)
disk_only statuses.NotAStore stop h is = clash stops.Disk (sym h ∙ is)
disk_only statuses.Usage stop h is = clash stops.Disk (sym h ∙ is)
disk_only statuses.Memory stop h is = clash stops.Disk (sym h ∙ is)
disk_only statuses.Read stop h is = clash stops.Disk (sym h ∙ is)
disk_only statuses.Write stop h is = clash stops.Disk (sym h ∙ is)
disk_only statuses.TooLong stop h is = clash stops.Disk (sym h ∙ is)
disk_only (statuses.UnknownOperation code) stop h is = clash stops.Disk (sym h ∙ is)
disk_only (statuses.Damaged area at) stop h is = clash stops.Disk (sym h ∙ is)
disk_only statuses.Exists stop h is = clash stops.Disk (sym h ∙ is)
disk_only statuses.BadGeometry stop h is = clash stops.Disk (sym h ∙ is)
disk_only statuses.LogEnd stop h is = clash stops.Disk (sym h ∙ is)

-- and where it has stopped it has for the disk
for_disk : (status : code_status.Status) (stop : Option Stop) → HasStopped status stop → IsSome stop → stop ≡ Some stops.Disk
for_disk statuses.Disk stop h some = h
for_disk statuses.Done stop h some = none_some stop h some
for_disk statuses.NotAStore stop h some = none_some stop h some
for_disk statuses.Usage stop h some = none_some stop h some
for_disk statuses.Memory stop h some = none_some stop h some
for_disk statuses.Read stop h some = none_some stop h some
for_disk statuses.Write stop h some = none_some stop h some
for_disk statuses.TooLong stop h some = none_some stop h some
for_disk (statuses.UnknownOperation code) stop h some = none_some stop h some
for_disk (statuses.Damaged area at) stop h some = none_some stop h some
for_disk statuses.Exists stop h some = none_some stop h some
for_disk statuses.BadGeometry stop h some = none_some stop h some
for_disk statuses.LogEnd stop h some = none_some stop h some

module _ {basis : Sizes → Ground} (e f : Shown basis) (k m : Core) where
  -- of a flush, and of a close, by the status until then
  pub stops_behind : (status : code_status.Status) (r : Result (Unit {0}) Refused) → FlushesFor e f k m r → HasStopped status k.stopped
      → HasStopped (status_of_closing r status) (stop_behind k.stopped r)
  stops_behind status (Ok done) h had = had
  stops_behind status (Err refused.NoTxn) h had = absurd h
  stops_behind status (Err refused.TooManyLive) h had = absurd h
  stops_behind status (Err (refused.Busy holder)) h had = absurd h
  stops_behind status (Err refused.LocksFull) h had = absurd h
  stops_behind status (Err (refused.Model reason)) h had = absurd h
  stops_behind status (Err (refused.NoSpace free reserved need)) h had = absurd h
  stops_behind status (Err (refused.NoBands free need)) h had = absurd h
  stops_behind status (Err refused.LogEnd) h had = absurd h
  stops_behind status (Err refused.Memory) h had = absurd h
  stops_behind status (Err refused.DiskFault) h had = refl
  stops_behind status (Err refused.Stopped) h had = for_disk status k.stopped had h.0

  module _ (old new : Sunk) (means : Keeps e f) (heeds : Heeds k.stopped m.stopped e f) (first : k ≡ AT_FIRST) where
    going : k.stopped ≡ None
    going = ap (λ (c : Core). c.stopped) first

    still : m ≡ k → m.stopped ≡ None
    still same = ap (λ (c : Core). c.stopped) same ∙ going

    -- the objects were told
    told_stops : (r : Result (Unit {0}) Untold) → telling.TellsFor e f k m r → HasStopped (status_of_telling r) m.stopped
    told_stops (Ok done) h = still h.1
    told_stops (Err untold.DiskFault) h = ap (λ (c : Core). c.stopped) h.1.1
    told_stops (Err untold.Stopped) h = none_some k.stopped going h.0
    told_stops (Err untold.Memory) h = still h.1
    told_stops (Err untold.Listener) h = still h.1

    told_counts : (before now : ℕ) (r : Result (Unit {0}) Untold) → telling.FailsBy before now r → CountsSink (status_of_telling r) before now
    told_counts before now (Ok done) h = h
    told_counts before now (Err untold.DiskFault) h = tt
    told_counts before now (Err untold.Stopped) h = tt
    told_counts before now (Err untold.Memory) h = h
    told_counts before now (Err untold.Listener) h = h

    told_takes : (t : Operations) (had has : Option (List ℕ)) (before now : ℕ) (x y : Run) (r : Result (Unit {0}) Untold) → telling.Writes had has t before now x r y
        → (y.so_far ≡ x.so_far) × HasTaken (status_of_telling r) (text_of (live_objects t x)) had has
    told_takes t had has before now x y (Ok done) h = (past x y h.1, h.2)
    told_takes t had has before now x y (Err untold.DiskFault) h = (ap (λ (z : Run). z.so_far) h.1.after, tt)
    told_takes t had has before now x y (Err untold.Stopped) h = (past x y h.1, tt)
    told_takes t had has before now x y (Err untold.Memory) h = (past x y h.1, tt)
    told_takes t had has before now x y (Err untold.Listener) h = (past x y h.1, h.2)

    pub text_written : (r : Result (Unit {0}) Untold) (status : code_status.Status) → status ≡ status_of_telling r → telling.TellsFor e f k m r → telling.FailsBy old.faults new.faults r
        → AsMeant e f (λ t g v w. (x : Run) → IsLawful t g → Shows t g v k x → Goes t g v x (telling.Writes old.taken new.taken t v.faults w.faults x r) w m)
        → Writes listings.Text status e f k m old new
    text_written r status is causes counted goes = subst (λ (s : code_status.Status). Writes listings.Text s e f k m old new) (sym is) (record {
      means = means;
      heeds = heeds;
      stops = told_stops r causes;
      counts = told_counts old.faults new.faults r counted;
      goes = λ t z from by tells x lawful shows. weaker t (basis z) _ _ x _ _ m (λ y h. told_takes t old.taken new.taken e.faults f.faults x y r h)
          (goes t z from by tells x lawful shows);
    })

    -- they weren't checked
    check_stops : (why : CheckRefused) → telling.ChecksFor {T = Summary} e f k m (Err why) → HasStopped (status_of_check why) m.stopped
    check_stops checks.DiskFault h = ap (λ (c : Core). c.stopped) h.1.1
    check_stops checks.Stopped h = none_some k.stopped going h.0
    check_stops checks.Memory h = still h.1

    check_counts : (n : ℕ) (why : CheckRefused) → CountsSink (status_of_check why) n n
    check_counts n checks.DiskFault = tt
    check_counts n checks.Stopped = tt
    check_counts n checks.Memory = refl

    check_takes : (t : Operations) (text : List ℕ) (had : Option (List ℕ)) (before now : ℕ) (x y : Run) (why : CheckRefused) → telling.Checks t before now x (Err why) y
        → (y.so_far ≡ x.so_far) × HasTaken (status_of_check why) text had had
    check_takes t text had before now x y checks.DiskFault h = (ap (λ (z : Run). z.so_far) h.1.after, tt)
    check_takes t text had before now x y checks.Stopped h = (past x y h.1, tt)
    check_takes t text had before now x y checks.Memory h = (past x y h.1, tt)

    pub unchecked : (why : CheckRefused) (status : code_status.Status) → status ≡ status_of_check why → telling.ChecksFor {T = Summary} e f k m (Err why)
        → AsMeant e f (λ t g v w. (x : Run) → IsLawful t g → Shows t g v k x → Goes t g v x (telling.Checks t v.faults w.faults x (Err why)) w m)
        → Writes listings.Summary status e f k m old old
    unchecked why status is causes goes = subst (λ (s : code_status.Status). Writes listings.Summary s e f k m old old) (sym is) (record {
      means = means;
      heeds = heeds;
      stops = check_stops why causes;
      counts = check_counts old.faults why;
      goes = λ t z from by tells x lawful shows. weaker t (basis z) _ _ x _ _ m
          (λ y h. check_takes t (summary_line (summary_of (live_objects t x))) old.taken e.faults f.faults x y why h) (goes t z from by tells x lawful shows);
    })

    -- they were, and what they come to was written, or wasn't
    sum_stops : (r : Result (Unit {0}) Failed) → m ≡ k → HasStopped (status_of_writing r) m.stopped
    sum_stops (Ok done) same = still same
    sum_stops (Err failed) same = still same

    module _ (line : List ℕ) where
      sum_counts : (r : Result (Unit {0}) Failed) → words.Writes old.taken line new.taken old.faults new.faults r → CountsSink (status_of_writing r) old.faults new.faults
      sum_counts (Ok done) h = h.quiet
      sum_counts (Err failed) h = h.failed

      sum_takes : (r : Result (Unit {0}) Failed) → words.Writes old.taken line new.taken old.faults new.faults r → HasTaken (status_of_writing r) line old.taken new.taken
      sum_takes (Ok done) h = h.took
      sum_takes (Err failed) h = h.cut

    pub sum_written : (all : Summary) (r : Result (Unit {0}) Failed) (status : code_status.Status) → status ≡ status_of_writing r → telling.ChecksFor e f k m (Ok all)
        → words.Writes old.taken (summary_line all) new.taken old.faults new.faults r
        → AsMeant e f (λ t g v w. (x : Run) → IsLawful t g → Shows t g v k x → Goes t g v x (telling.Checks t v.faults w.faults x (Ok all)) w m)
        → Writes listings.Summary status e f k m old new
    sum_written all r status is causes written goes = subst (λ (s : code_status.Status). Writes listings.Summary s e f k m old new) (sym is) (record {
      means = means;
      heeds = heeds;
      stops = sum_stops r causes.1;
      counts = sum_counts (summary_line all) r written;
      goes = λ t z from by tells x lawful shows. weaker t (basis z) _ _ x _ _ m
          (λ y h. (past x y h.1, subst (λ (s : Summary). HasTaken (status_of_writing r) (summary_line s) old.taken new.taken) h.2 (sum_takes (summary_line all) r written)))
          (goes t z from by tells x lawful shows);
    })

    -- all that opening did wasn't written home
    pub unflushed : (why : Refused) → FlushesFor e f k m (Err why) → m.stopped ≡ stop_behind k.stopped (Err why)
        → AsMeant e f (λ t g v w. (x : Run) → IsLawful t g → Shows t g v k x → Goes t g v x (Flushes v.faults w.faults x (Err why)) w m)
        → Writes listings.Summary statuses.Disk e f k m old old
    unflushed why causes stop goes = record {
      means = means;
      heeds = heeds;
      stops = stop ∙ stops_behind statuses.Done (Err why) causes going;
      counts = tt;
      goes = λ t z from by tells x lawful shows. weaker t (basis z) _ _ x _ _ m (λ y h. (flush_past e.faults f.faults x y (Err why) h, tt)) (goes t z from by tells x lawful shows);
    }

-- it was, and then they are asked for
pub flushed_first : {basis : Sizes → Ground} (e u f : Shown basis) (k l m : Core) (listing : Listing) (status : code_status.Status) (old new : Sunk) → Keeps e u
    → Heeds k.stopped l.stopped e u → FlushesFor e u k l (Ok tt)
    → AsMeant e u (λ t g v w. (x : Run) → IsLawful t g → Shows t g v k x → Goes t g v x (Flushes v.faults w.faults x (Ok tt)) w l)
    → Writes listing status u f l m old new → Writes listing status e f k m old new
flushed_first {basis = basis} e u f k l m listing status old new means heeds causes goes rest = record {
  means = λ t z from by. rest.means t z from (means t z from by);
  heeds = heeds_then k.stopped l.stopped m.stopped e u f heeds rest.heeds;
  stops = rest.stops;
  counts = rest.counts;
  goes = λ t z from by tells x lawful shows.
      (let a = goes t z from by tells x lawful shows in
      let on = heeds.tells (ap (λ (c : Core). c.stopped) causes.1 ∙ causes.0) tells in
      let b = rest.goes t z from (means t z from by) on a.after lawful a.shows in
      let same = past x a.after a.goes.1 in
      record {
        after = b.after;
        goes = (b.goes.0 ∙ same, subst (λ (y : Run). HasTaken status (text_for listing (live_objects t y)) old.taken new.taken) a.goes.1 b.goes.1);
        shows = b.shows;
        moments = moments.joined (moments.weaker a.moments (λ c h. first_same t (basis z) x.so_far.answered a.after b.after c b.goes.0 h))
            (subst (λ (y : Run). disk.LeavesOnly u.disk f.disk (stores.StandsForFirst t (basis z) y.so_far.answered b.after)) a.goes.1 b.moments);
      });
}

-- THE COMMAND, behind the opening
module _ (basis : Sizes → Ground) (says : Says) (listing : Listing) (t : Operations) (told : Bool) (presumed : Type 0) (v w : disk.View) (old new : Sunk) where
  abbrev Tells : code_status.Status → Type 0
  Tells = TellsObjects basis says (text_for listing) t told presumed v w old new

  abbrev AreWritten : code_status.Status → Type 0
  AreWritten = WritesObjects basis says (text_for listing) t told presumed v w old new

  no_fault : IsReadable told presumed v w old new → Tells statuses.Disk → ⊥
  no_fault u (inl rose) = u.disk rose
  no_fault u (inr (inl not)) = (let bad : true ≡ false = sym u.is_told ∙ not in cc)
  no_fault u (inr (inr none)) = none u.is_presumed

  -- how it ends where nothing hinders it follows from what its status tells
  completes : (status : code_status.Status) → Tells status → IsReadable told presumed v w old new
      → (status ≡ statuses.Done) ⊎ ((status ≡ statuses.Memory) ⊎ (status ≡ statuses.LogEnd))
  completes statuses.Done h u = inl refl
  completes statuses.NotAStore h u = absurd ((h.0 u.is_told).2 u.is_presumed)
  completes statuses.Usage h u = absurd h
  completes statuses.Memory h u = inr (inl refl)
  completes statuses.Disk h u = absurd (no_fault u h)
  completes statuses.Read h u = absurd h
  completes statuses.Write h u = absurd (u.sink h.1)
  completes statuses.TooLong h u = absurd h
  completes (statuses.UnknownOperation code) h u = absurd ((h.0 u.is_told).1 u.is_presumed)
  completes (statuses.Damaged area at) h u = absurd ((h.0 u.is_told).1 u.is_presumed)
  completes statuses.Exists h u = absurd h
  completes statuses.BadGeometry h u = absurd h
  completes statuses.LogEnd h u = inr (inr refl)

  -- it isn't that of other words
  pub never_usage : (status : code_status.Status) → AreWritten status → status ≡ statuses.Usage → ⊥
  never_usage status h is = subst Tells is h.tells

  -- the store didn't open
  tells_refused : (why : code_refused.OpenRefused) → IsRefusedFor basis says t why told presumed v w → (new.taken ≡ old.taken) × (new.faults ≡ old.faults)
      → Tells (status_of_refusal why)
  tells_refused refusals.DiskFault r none = count_rose told presumed v w r
  tells_refused refusals.Memory r none = none.1
  tells_refused (refusals.Damaged area at) r none = (r, none)
  tells_refused refusals.NotAStore r none = (r, none)
  tells_refused (refusals.UnknownOperation code) r none = (r, none)
  tells_refused refusals.LogEnd r none = (r, none)

  pub shut_writes : (why : code_refused.OpenRefused) (status : code_status.Status) → status ≡ status_of_refusal why → (new.taken ≡ old.taken) × (new.faults ≡ old.faults)
      → StaysShut basis says t told presumed v w why → AreWritten status
  shut_writes why status is none shut = subst AreWritten (sym is) (record {
    tells = tells_refused why shut.reason none;
    completes = completes (status_of_refusal why) (tells_refused why shut.reason none);
    alone = shut.alone;
  })

  -- it did, and was asked and closed
  module _ (e u f : Shown basis) (k l m : Core) (said : code_status.Status) (r : Result (Unit {0}) Refused) (opened : IsOpened basis says t told presumed v e k)
      (writes : Writes listing said e u k l old new) (heeds : Heeds l.stopped (stop_behind l.stopped r) u f) (causes : FlushesFor u f l m r)
      (same : f.disk ≡ w) where
    all_heed : Heeds k.stopped (stop_behind l.stopped r) e f
    all_heed = heeds_then k.stopped l.stopped (stop_behind l.stopped r) e u f writes.heeds heeds

    stopped : HasStopped (status_of_closing r said) (stop_behind l.stopped r)
    stopped = stops_behind u f l m said r causes writes.stops

    -- no fault of the disk is passed over
    pub heeded : (status_of_closing r said ≡ statuses.Disk → ⊥) → w.faults ≡ v.faults
    heeded none = sym (ap (λ (d : disk.View). d.faults) same)
        ∙ (all_heed.heeded (λ is. none (disk_only (status_of_closing r said) (stop_behind l.stopped r) stopped is)) ∙ opened.heeded)

    -- the disk's count rose where the store has stopped
    rose : stop_behind l.stopped r ≡ Some stops.Disk → IsTrue told → presumed → HasRisen v.faults w.faults
    rose is told_so held = ⊎_elim (λ was. clash stops.Disk (sym (ap (λ (c : Core). c.stopped) opened.core) ∙ was))
        (λ h. subst (λ (d : disk.View). HasRisen v.faults d.faults) same (subst (λ (n : ℕ). HasRisen n f.disk.faults) opened.heeded (h (opened.tells told_so held))))
        (all_heed.caused is)

    -- what was taken is of the objects for which the image stands
    taken : HasTakenOf basis says (text_for listing) t told presumed v w old new said
    taken told_so held s stands =
        let st = opened.starts told_so held s stands in
        (writes.goes t (says.sizes (reads_of v)) st.from st.means (opened.tells told_so held) (start s) st.lawful st.shows).goes.1

    tells_said : (s : code_status.Status) → HasTakenOf basis says (text_for listing) t told presumed v w old new s → CountsSink s old.faults new.faults → HasStopped s None → Tells s
    tells_said statuses.Done takes counts still = (takes, counts)
    tells_said statuses.NotAStore takes counts still = absurd counts
    tells_said statuses.Usage takes counts still = absurd counts
    tells_said statuses.Memory takes counts still = counts
    tells_said statuses.Disk takes counts still = clash stops.Disk still
    tells_said statuses.Read takes counts still = absurd counts
    tells_said statuses.Write takes counts still = (takes, counts)
    tells_said statuses.TooLong takes counts still = absurd counts
    tells_said (statuses.UnknownOperation code) takes counts still = absurd counts
    tells_said (statuses.Damaged area at) takes counts still = absurd counts
    tells_said statuses.Exists takes counts still = absurd counts
    tells_said statuses.BadGeometry takes counts still = absurd counts
    tells_said statuses.LogEnd takes counts still = absurd counts

    tells_closed : (r : Result (Unit {0}) Refused) → FlushesFor u f l m r → HasStopped (status_of_closing r said) (stop_behind l.stopped r)
        → (stop_behind l.stopped r ≡ Some stops.Disk → IsTrue told → presumed → HasRisen v.faults w.faults) → Tells (status_of_closing r said)
    tells_closed (Ok done) h has rose = tells_said said taken writes.counts (subst (λ (s : Option Stop). HasStopped said s) h.0 has)
    tells_closed (Err why) h has rose = count_rose told presumed v w (rose has)

    module _ (sized : (z : Sizes) (c : disk.Image) (m : Objects) → stores.StandsFor t (basis z) c m → says.sizes c ≡ z)
        (flushes : AsMeant u f (λ t g v w. (x : Run) → IsLawful t g → Shows t g v l x → (m : Core) × Goes t g v x (Flushes v.faults w.faults x r) w m))
        (uncalled : IsSome l.stopped → f.disk ≡ u.disk) where
      -- an image that stands for the first commits of a run without any stands for what that began with
      none_stands : (z : Sizes) (c : disk.Image) (least : ℕ) (y : Run) (s : Objects) → y.so_far ≡ (start s).so_far → stores.StandsForFirst t (basis z) least y c → StandsFor basis says t c s
      none_stands z c least y s same h =
          let none : length y.so_far.commits ≡ 0 = ap (λ (p : Past). length p.commits) same in
          let zeroth : h.commits ≡ 0 = omega (arith, h.most, none) in
          its_own basis says t sized z c s (subst (λ (o : Objects). stores.StandsFor t (basis z) c o) (ap (λ (p : Past). p.first) same)
          (subst (λ (n : ℕ). stores.StandsFor t (basis z) c (objects_after t n y)) zeroth h.stands))

      stay : IsTrue told → presumed → (s : Objects) → StandsFor basis says t (reads_of v) s → disk.LeavesOnly e.disk f.disk (λ c. StandsFor basis says t c s)
      stay told_so held s stands = by_stop l.stopped refl
        where
          z : Sizes
          z = says.sizes (reads_of v)

          by_stop : (q : Option Stop) → l.stopped ≡ q → disk.LeavesOnly e.disk f.disk (λ c. StandsFor basis says t c s)
          by_stop None going =
              let st = opened.starts told_so held s stands in
              let on = opened.tells told_so held in
              let a = writes.goes t z st.from st.means on (start s) st.lawful st.shows in
              let b = flushes t z st.from (writes.means t z st.from st.means) (writes.heeds.tells going on) a.after st.lawful a.shows in
              let far = flush_past u.faults f.faults a.after b.1.after r b.1.goes ∙ a.goes.0 in
              moments.joined (moments.weaker a.moments (λ c h. none_stands z c 0 a.after s a.goes.0 h))
              (moments.weaker b.1.moments (λ c h. none_stands z c a.after.so_far.answered b.1.after s far h))
          by_stop (Some why) stop =
              let st = opened.starts told_so held s stands in
              let a = writes.goes t z st.from st.means (opened.tells told_so held) (start s) st.lawful st.shows in
              let some : IsSome l.stopped = subst (λ (o : Option Stop). IsSome o) (sym stop) refl in
              subst (λ (d : disk.View). disk.LeavesOnly e.disk d (λ c. StandsFor basis says t c s)) (sym (uncalled some))
              (moments.weaker a.moments (λ c h. none_stands z c 0 a.after s a.goes.0 h))

      left_alone : IsTrue told → IsLeftAlone basis says t presumed v w
      left_alone told_so =
          let opening = opened.moments told_so in
          subst (IsLeftAlone basis says t presumed v) same (inr (
            opening.0,
            record {
              until = opening.1.until;
              behind = λ held s stands. moments.joined (opening.1.behind held s stands) (stay told_so held s stands);
            },
          ))

      pub opened_writes : (status : code_status.Status) → status ≡ status_of_closing r said → AreWritten status
      opened_writes status is = subst AreWritten (sym is) (record {
        tells = tells_closed r causes stopped rose;
        completes = completes (status_of_closing r said) (tells_closed r causes stopped rose);
        alone = left_alone;
      })

-- where there is no memory for the words nothing is done
pub not_written : (basis : Sizes → Ground) (says : Says) (o : Option Listing) (t : Operations) (told : Bool) (presumed : Type 0) (v w : disk.View) (s : Sunk) (status : code_status.Status)
    → status ≡ statuses.Memory → w ≡ v → IfSome o (λ listing. WritesObjects basis says (text_for listing) t told presumed v w s s status)
not_written basis says None t told presumed v w s status is same = tt
not_written basis says (Some listing) t told presumed v w s status is same =
    subst (λ (d : disk.View). WritesObjects basis says (text_for listing) t told presumed v d s s status) (sym same)
    (subst (WritesObjects basis says (text_for listing) t told presumed v v s s) (sym is) (record {
      tells = refl;
      completes = λ u. inr (inl refl);
      alone = λ told_so. alone basis says t told presumed v;
    }))
