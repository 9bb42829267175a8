-- How a store tells of its objects and is checked.
use Rattle.std.proofs.Common.{◌≡◌, ℕ, true, false, List, [], ◌++◌, length, codes, Option, Some, None, Result, Ok, Err, refl, sym, ap, ◌∙◌, subst, append-nil}
use Rattle.std.specs.Prelude.{is_some}
use Rattle.std.specs.FinMap.{entries}
use Rattle.sg_base.specs.Ends.{HasRisen, Takes, TakesFront}
use Rattle.sg_lines.proofs.Adding.{adding, all_added, parts_summary}
use Rattle.sg_lines.specs.Added.{summary_of_parts}
use Rattle.sg_lines.specs.Heard.{Ears, HasHeard, WasCut}
use Rattle.sg_lines.specs.Claims.{PartsMakeText}
use Rattle.sg_lines.specs.Parts.{Part, lines_of, parts_of}
use Rattle.sg_lines.specs.Text.{heading, text_of}
use Rattle.sg_lines.proofs.Writing.{writing}
use Rattle.sg_words.proofs.Steps.{Takes-more, Takes-nothing, front_behind}
use Rattle.sg_words.proofs.Waits.{front_longer}
use Rattle.sg_lines.specs.Summed.{both, summary_of}
use Rattle.sg_lines.specs.declared.summary.Summary.{Summary}
use Rattle.sg_model.specs.Objects.{Objects}
use Rattle.sg_model.specs.declared.stop.Stop.TheVariants as stops
use Rattle.sg_ops.specs.Table.{Table as Operations}
use Rattle.sg_space.specs.declared.space.SpaceFault.{SpaceFault}
use Rattle.sg_space.specs.declared.space.SpaceFault.TheVariants as spaces
use Rattle.sg_run.specs.Run.{Run, live_objects}
use Rattle.sg_store.specs.declared.fault.CheckRefused.TheVariants as checks
use Rattle.sg_store.specs.declared.fault.TellFault.TheVariants as tells
use Rattle.sg_store.specs.declared.fault.Untold.{Untold}
use Rattle.sg_store.specs.declared.fault.Untold.TheVariants as untold
use Rattle.sg_store.specs.Calls.{Goes}
use Rattle.sg_store.specs.Engine.{View, Sizes, Shown, led, AskedBy, IsDiskFault, Rests}
use Rattle.sg_store.specs.Ground.{Ground, IsLawful}
use Rattle.sg_store.specs.Rests.{HasObjects}
use Rattle.sg_store.specs.Store.{Core, Shows, Runs}
use Rattle.sg_store.specs.Accounting.{AccountsFor}
use Rattle.sg_store.specs.Telling.{IsTellDisk, HasTold}
use Rattle.sg_store.specs.Told.{Tells, Writes, WritesLines, FailsBy, Checks, TellsFor, HasToldAll, HasWritten, HasChecked}
use Rattle.sg_store.specs.Verbs.{Reads}
use Rattle.sg_store.proofs.Calls.{goes_same, goes_down, call_stands, some_stop, no_stop}
use Rattle.sg_store.proofs.Holding as holding
use Rattle.sg_store.proofs.Maintaining.{stays}
use Rattle.sg_store.proofs.Resting.{same_has}

-- a telling that failed for the disk accounts for it as each call does
pub told_accounts : {basis : Sizes → Ground} (v w : Shown basis) → AccountsFor {T = ℕ} IsTellDisk v w (Err tells.Disk) → AccountsFor {T = ℕ} {E = SpaceFault} IsDiskFault v w (Err spaces.Disk)
told_accounts v w a = record { later = a.later; heeded = λ none. a.heeded none; caused = λ is told. a.caused is told; handed = a.handed; shown = a.shown }

-- who adds up from nothing the parts of objects has their summary
pub summed : {S : Type 0} (all : S → Summary) (old new : S) (objects : Objects) → all old ≡ summary_of_parts [] → HasHeard (adding all) old (parts_of objects) new → all new ≡ summary_of objects
summed all old new objects fresh heard =
    let begins : all old ≡ both (all old) (summary_of_parts []) = fresh ∙ (sym (all_added []) ∙ ap (λ (s : Summary). both s (summary_of_parts [])) (sym fresh)) in
    heard old [] begins ∙ (ap (λ (s : Summary). both s (summary_of_parts (parts_of objects))) fresh ∙ (all_added (parts_of objects) ∙ sym (parts_summary objects)))

module _ {S : Type 0} (ears : Ears S) (from to : S) (t : Operations) (g : Ground) (lawful : IsLawful t g) (v : View g) (k : Core) (x : Run) (now : ℕ) (s : Shows t g v k x) where
  -- a store that has stopped tells nothing
  pub tells_stopped : is_some k.stopped ≡ true → Goes t g v x (Tells ears from to t v.faults now x (Err untold.Stopped)) v k
  tells_stopped e = goes_same t g v k x (Tells ears from to t v.faults now x (Err untold.Stopped)) s (some_stop t g k x e s.stopped, refl)

  module _ (e : is_some k.stopped ≡ false) where
    running : x.stopped ≡ None
    running = sym s.stopped ∙ no_stop t g k.stopped e

    pub runs : Runs t g v k x
    runs = s.runs running

    -- what the pages read as that are told of, and that it is the run's objects
    pub told_of : g.O
    told_of = holding.reading t g lawful v x k.live runs.is_kept

    pub reads_told : Reads t g v told_of
    unfolding told_of
    reads_told = holding.reads_so t g lawful v x k.live runs.is_kept

    are_objects : g.objects told_of ≡ live_objects t x
    unfolding told_of
    are_objects = holding.objects_so t g lawful v x k.live runs.is_kept

    module _ (w : View g) (r : Rests t g v w) where
      pub tells_done : (n : ℕ) → HasTold ears from to t g v w told_of (Ok n) → Goes t g v x (Tells ears from to t v.faults now x (Ok n)) w k
      tells_done n h = stays t g lawful v k x now s e (Tells ears from to t v.faults now x (Ok n)) w
          (running, refl, subst (λ (o : Objects). HasHeard ears from (parts_of o) to) are_objects h.1, h.2 ∙ ap (λ (o : Objects). length (entries o)) are_objects) r h.0

      pub tells_starved : HasTold ears from to t g v w told_of (Err tells.Memory) → Goes t g v x (Tells ears from to t v.faults now x (Err untold.Memory)) w k
      tells_starved h = stays t g lawful v k x now s e (Tells ears from to t v.faults now x (Err untold.Memory)) w (running, refl) r h

      pub tells_cut : HasTold ears from to t g v w told_of (Err tells.Listener) → Goes t g v x (Tells ears from to t v.faults now x (Err untold.Listener)) w k
      tells_cut h = stays t g lawful v k x now s e (Tells ears from to t v.faults now x (Err untold.Listener)) w
          (running, refl, subst (λ (o : Objects). WasCut ears from (parts_of o) to) are_objects h.1) r h.0

      pub tells_breaks : (m : Core) → m ≡ record k { stopped = Some stops.Disk } → HasRisen v.faults now → Goes t g v x (Tells ears from to t v.faults now x (Err untold.DiskFault)) w m
      tells_breaks m is risen = goes_down t g v w k m x (Tells ears from to t v.faults now x (Err untold.DiskFault)) stops.Disk s (ap (λ (c : Core). c.stopped) is)
          (running, record { after = refl; risen = risen }) (call_stands t g v w v.log x runs.is_kept.logs r.moments)

-- what an application may rest on
module _ {S : Type 0} {basis : Sizes → Ground} (ears : Ears S) (from to : S) (t : Operations) (old new : Shown basis) (k m : Core) (live : List ℕ) (objects durable : Objects)
    (keeps : (z : Sizes) (base : (basis z).X) → old.means t z base → new.means t z base) (back : new.Told → old.Told) (s : AskedBy t old (HasObjects live objects durable k t)) where
  pub told_rests : (n : ℕ) → ((z : Sizes) (base : (basis z).X) → old.means t z base → old.Told → (x : Run) → IsLawful t (basis z) → Shows t (basis z) (led t z base old) k x
      → Goes t (basis z) (led t z base old) x (Tells ears from to t old.faults new.faults x (Ok n)) (led t z base new) m)
      → AskedBy t new (HasToldAll ears from to n live objects durable m t)
  told_rests n goes = record {
    sizes = s.sizes;
    from = λ tells. s.from (back tells);
    means = λ tells. keeps s.sizes (s.from (back tells)) (s.means (back tells));
    can = λ tells.
        (let h = s.can (back tells) in
        let go = goes s.sizes (s.from (back tells)) (s.means (back tells)) (back tells) h.run h.lawful h.shows in
        record {
          heard = subst (λ (o : Objects). HasHeard ears from (parts_of o) to) h.objects_are go.goes.2;
          count = go.goes.3 ∙ ap (λ (o : Objects). length (entries o)) h.objects_are;
          has = same_has t (basis s.sizes) (led t s.sizes (s.from (back tells)) old) (led t s.sizes (s.from (back tells)) new) k m live objects durable h _ go go.goes.1;
        });
  }

module _ {basis : Sizes → Ground} (t : Operations) (old new : Shown basis) (k m : Core) (live : List ℕ) (objects durable : Objects)
    (keeps : (z : Sizes) (base : (basis z).X) → old.means t z base → new.means t z base) (back : new.Told → old.Told) (s : AskedBy t old (HasObjects live objects durable k t)) where
  pub checked_rests : (sum : Summary) → ((z : Sizes) (base : (basis z).X) → old.means t z base → old.Told → (x : Run) → IsLawful t (basis z) → Shows t (basis z) (led t z base old) k x
      → Goes t (basis z) (led t z base old) x (Checks t old.faults new.faults x (Ok sum)) (led t z base new) m)
      → AskedBy t new (HasChecked sum live objects durable m t)
  checked_rests sum goes = record {
    sizes = s.sizes;
    from = λ tells. s.from (back tells);
    means = λ tells. keeps s.sizes (s.from (back tells)) (s.means (back tells));
    can = λ tells.
        (let h = s.can (back tells) in
        let go = goes s.sizes (s.from (back tells)) (s.means (back tells)) (back tells) h.run h.lawful h.shows in
        record {
          sum = go.goes.2 ∙ ap summary_of h.objects_are;
          has = same_has t (basis s.sizes) (led t s.sizes (s.from (back tells)) old) (led t s.sizes (s.from (back tells)) new) k m live objects durable h _ go go.goes.1;
        });
  }

-- what an application may rest on of a text
module _ {basis : Sizes → Ground} (t : Operations) (old new : Shown basis) (k m : Core) (live : List ℕ) (objects durable : Objects)
    (keeps : (z : Sizes) (base : (basis z).X) → old.means t z base → new.means t z base) (back : new.Told → old.Told) (s : AskedBy t old (HasObjects live objects durable k t)) where
  pub written_rests : (had now : Option (List ℕ)) → ((z : Sizes) (base : (basis z).X) → old.means t z base → old.Told → (x : Run) → IsLawful t (basis z) → Shows t (basis z) (led t z base old) k x
      → Goes t (basis z) (led t z base old) x (Writes had now t old.faults new.faults x (Ok tt)) (led t z base new) m)
      → AskedBy t new (HasWritten had now live objects durable m t)
  written_rests had now goes = record {
    sizes = s.sizes;
    from = λ tells. s.from (back tells);
    means = λ tells. keeps s.sizes (s.from (back tells)) (s.means (back tells));
    can = λ tells.
        (let h = s.can (back tells) in
        let go = goes s.sizes (s.from (back tells)) (s.means (back tells)) (back tells) h.run h.lawful h.shows in
        record {
          took = subst (λ (o : Objects). Takes had (text_of o) now) h.objects_are go.goes.2;
          has = same_has t (basis s.sizes) (led t s.sizes (s.from (back tells)) old) (led t s.sizes (s.from (back tells)) new) k m live objects durable h _ go go.goes.1;
        });
  }

-- A CHECK goes as the telling that it is made of, of a listener that adds up
module _ (t : Operations) (g : Ground) (v w : View g) (k m : Core) (x : Run) (before now : ℕ) where
  -- the line of another answer, over the same run
  pub other_line : (Line Other : Run → Type 0) (go : Goes t g v x Line w m) → (Line go.after → Other go.after) → Goes t g v x Other w m
  other_line Line Other go f = record { after = go.after; goes = f go.goes; shows = go.shows; moments = go.moments }

  module _ {S : Type 0} (ears : Ears S) (from to : S) where
    pub checks_done : (n : ℕ) (s : Summary) → (HasHeard ears from (parts_of (live_objects t x)) to → s ≡ summary_of (live_objects t x))
        → Goes t g v x (Tells ears from to t before now x (Ok n)) w m → Goes t g v x (Checks t before now x (Ok s)) w m
    checks_done n s sums go = other_line _ (Checks t before now x (Ok s)) go (λ h. (h.0, h.1, sums h.2))

    pub checks_broke : Goes t g v x (Tells ears from to t before now x (Err untold.DiskFault)) w m → Goes t g v x (Checks t before now x (Err checks.DiskFault)) w m
    checks_broke go = other_line _ (Checks t before now x (Err checks.DiskFault)) go (λ h. h)

    pub checks_stopped : Goes t g v x (Tells ears from to t before now x (Err untold.Stopped)) w m → Goes t g v x (Checks t before now x (Err checks.Stopped)) w m
    checks_stopped go = other_line _ (Checks t before now x (Err checks.Stopped)) go (λ h. h)

    pub checks_starved : Goes t g v x (Tells ears from to t before now x (Err untold.Memory)) w m → Goes t g v x (Checks t before now x (Err checks.Memory)) w m
    checks_starved go = other_line _ (Checks t before now x (Err checks.Memory)) go (λ h. h)

-- A WRITER is told the lines
module _ (t : Operations) (g : Ground) (v w : View g) (k m : Core) (x : Run) (before now : ℕ) where
  -- by the answer
  pub lines_written : {S : Type 0} (name : S → ℕ) (taken : S → Option (List ℕ)) (faults : S → ℕ) (from to : S) (r : Result ℕ Untold)
      → Goes t g v x (Tells (writing name taken faults) from to t before now x r) w m → Goes t g v x (WritesLines (taken from) (taken to) t before now x r) w m
  lines_written name taken faults from to (Ok n) go = other_line t g v w k m x before now _ (WritesLines (taken from) (taken to) t before now x (Ok n)) go
      (λ h. (h.0, h.1, h.2 from [] (Takes-nothing (taken from)), h.3))
  lines_written name taken faults from to (Err untold.DiskFault) go = other_line t g v w k m x before now _ (WritesLines (taken from) (taken to) t before now x (Err untold.DiskFault)) go (λ h. h)
  lines_written name taken faults from to (Err untold.Stopped) go = other_line t g v w k m x before now _ (WritesLines (taken from) (taken to) t before now x (Err untold.Stopped)) go (λ h. h)
  lines_written name taken faults from to (Err untold.Memory) go = other_line t g v w k m x before now _ (WritesLines (taken from) (taken to) t before now x (Err untold.Memory)) go (λ h. h)
  lines_written name taken faults from to (Err untold.Listener) go = other_line t g v w k m x before now _ (WritesLines (taken from) (taken to) t before now x (Err untold.Listener)) go
      (λ h. (h.0, h.1, subst (λ (ps : List Part). TakesFront (taken from) (lines_of ps) (taken to)) (append-nil (parts_of (live_objects t x))) (h.2 from [] [] (Takes-nothing (taken from)))))

  -- and then how many objects there are
  module _ (had mid has : Option (List ℕ)) where
    pub text_done : (law : PartsMakeText) (n : ℕ) → Goes t g v x (WritesLines had mid t before now x (Ok n)) w m → Takes mid (heading (codes "objects") [] None n) has → Goes t g v x (Writes had has t before now x (Ok tt)) w m
    text_done law n go took = other_line t g v w k m x before now _ (Writes had has t before now x (Ok tt)) go (λ h. (
      h.0,
      h.1,
      (let lines = lines_of (parts_of (live_objects t x)) in
          let all = subst (λ i. Takes had (lines ++ heading (codes "objects") [] None i) has) h.3 (Takes-more had lines mid (heading (codes "objects") [] None n) has h.2 took) in
          subst (λ (b : List ℕ). Takes had b has) (sym (law (live_objects t x))) all),
    ))

    pub text_cut : (law : PartsMakeText) (n : ℕ) → Goes t g v x (WritesLines had mid t before now x (Ok n)) w m → TakesFront mid (heading (codes "objects") [] None n) has → Goes t g v x (Writes had has t before now x (Err untold.Listener)) w m
    text_cut law n go cut = other_line t g v w k m x before now _ (Writes had has t before now x (Err untold.Listener)) go (λ h. (
      h.0,
      h.1,
      (let lines = lines_of (parts_of (live_objects t x)) in
          let all = subst (λ i. TakesFront had (lines ++ heading (codes "objects") [] None i) has) h.3 (front_behind had lines mid (heading (codes "objects") [] None n) has h.2 cut) in
          subst (λ (b : List ℕ). TakesFront had b has) (sym (law (live_objects t x))) all),
    ))

    pub text_failed : (law : PartsMakeText) (why : Untold) → Goes t g v x (WritesLines had mid t before now x (Err why)) w m → Goes t g v x (Writes had mid t before now x (Err why)) w m
    text_failed law untold.DiskFault go = other_line t g v w k m x before now _ (Writes had mid t before now x (Err untold.DiskFault)) go (λ h. h)
    text_failed law untold.Stopped go = other_line t g v w k m x before now _ (Writes had mid t before now x (Err untold.Stopped)) go (λ h. h)
    text_failed law untold.Memory go = other_line t g v w k m x before now _ (Writes had mid t before now x (Err untold.Memory)) go (λ h. h)
    text_failed law untold.Listener go = other_line t g v w k m x before now _ (Writes had mid t before now x (Err untold.Listener)) go (λ h. (
      h.0,
      h.1,
      (let lines = lines_of (parts_of (live_objects t x)) in
          let rest = heading (codes "objects") [] None (length (entries (live_objects t x))) in
          subst (λ (b : List ℕ). TakesFront had b mid) (sym (law (live_objects t x))) (front_longer had lines rest mid h.2)),
    ))

-- what was told to a writer, and the store's answer to the text, on any engine
pub failed_before : {basis : Sizes → Ground} (old new : Shown basis) (k m : Core) (why : Untold) → TellsFor {T = ℕ} old new k m (Err why) → TellsFor {T = Unit {0}} old new k m (Err why)
failed_before old new k m untold.DiskFault h = h
failed_before old new k m untold.Stopped h = h
failed_before old new k m untold.Memory h = h
failed_before old new k m untold.Listener h = h

pub counted_before : (before now : ℕ) (why : Untold) → FailsBy {T = ℕ} before now (Err why) → FailsBy {T = Unit {0}} before now (Err why)
counted_before before now untold.DiskFault h = h
counted_before before now untold.Stopped h = h
counted_before before now untold.Memory h = h
counted_before before now untold.Listener h = h
