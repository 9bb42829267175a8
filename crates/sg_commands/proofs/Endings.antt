-- How a run of the program goes and ends.
use Rattle.std.proofs.Common.{◌≡◌, ◌⊎◌, inl, inr, ⊎_elim, ℕ, zero, suc, ◌+◌, ◌<◌, ◌≤◌, ◌^◌, Bool, true, false, IsTrue, List, [], ◌∷◌, Option, Some, None, IfSome, length, refl, sym, ap, ◌∙◌, subst, arith, length-append}
use Rattle.std.proofs.lemmas.Bool.{cases_lt}
use Rattle.sg_base.specs.Ends.{HasRisen}
use Rattle.sg_disk.specs.Accounts.{IsShownEnd}
use Rattle.sg_disk.specs.Disk as disk
use Rattle.sg_disk.proofs.Moments as moments
use Rattle.sg_ops.specs.Table.{Table as Operations}
use Rattle.sg_model.specs.declared.stop.Stop.{Stop}
use Rattle.sg_model.specs.declared.stop.Stop.TheVariants as stops
use Rattle.sg_model.specs.Objects.{Objects}
use Rattle.sg_words.specs.Requests.Asked.{Blank, Wrong, Of}
use Rattle.sg_words.specs.Requests.Request.{Begin, Commit, Abort, Do}
use Rattle.sg_words.specs.Answers.{Answer}
use Rattle.sg_run.specs.Run.{Run, start, committed_objects, objects_after}
use Rattle.sg_run.specs.Numbers.{IsAtEnd}
use Rattle.sg_store.specs.declared.engine.Engine.{Ghosts}
use Rattle.sg_store.specs.Ground.{Ground}
use Rattle.sg_store.specs.Engine.{View, Sizes, led}
use Rattle.sg_store.specs.Heeds.{Heeds}
use Rattle.sg_store.specs.Stands as stores
use Rattle.sg_store.specs.Store as core
use Rattle.sg_session.specs.Shows.{Core, Shows}
use Rattle.sg_session.specs.Lines.{Line, line_of}
use Rattle.sg_session.specs.Lines.Line.{OfStore, OfMarks, Other}
use Rattle.sg_words.specs.declared.marking.Marking.TheVariants as markings
use Rattle.sg_words.specs.declared.upkeep.Upkeep.TheVariants as upkeeps
use Rattle.sg_session.specs.Causes as causes
use Rattle.sg_session.specs.Causes.{Trouble, trouble_in, stop_by}
use Rattle.sg_session.specs.Causes.Trouble.{NoTrouble, OfDisk, OfLog, OfMemory}
use Rattle.sg_script.specs.declared.script.RunEnd as code_end
use Rattle.sg_script.specs.declared.script.RunEnd.TheVariants as ends
use Rattle.sg_script.specs.Script as scripts
use Rattle.sg_script.specs.Script.{span, HasRead, stop_by_all}
use Rattle.sg_script.specs.Ending.{MOST_BYTES, AreExecuted, HasCause}
use Rattle.sg_script.specs.Course as courses
use Rattle.sg_commands.specs.declared.opens.OpenRefused as code_refused
use Rattle.sg_commands.specs.declared.opens.OpenRefused.TheVariants as refusals
use Rattle.sg_commands.specs.declared.status.Status as code_status
use Rattle.sg_commands.specs.declared.status.Status.TheVariants as statuses
use Rattle.sg_commands.specs.Images.{Says, reads_of, StandsFor, StandsForFirst, IsOfStore, IsPresumed, CountRose}
use Rattle.sg_commands.specs.Syncs.{SplitsAt}
use Rattle.sg_commands.specs.Full.{MayBeFull, TailIsShown}
use Rattle.sg_commands.specs.Opening.{IsLeftAlone, IsOpened, IsRefusedFor, IsQuietFor, StaysShut, KeepsAll}
use Rattle.sg_commands.specs.Answers.{IsCaused, AreCaused}
use Rattle.sg_commands.specs.Statuses.{status_of, status_of_refusal}
use Rattle.sg_commands.specs.Top.{Outside, at_first, at_end, Course, Did, IsLogSpent, FaultRose, Ran, NeverRan, HasGone, Tells, IsUnhindered, Completes, Account}

-- what holds at two views holds at equal ones
pub along : (P : disk.View → disk.View → Type 0) (v was w is : disk.View) → was ≡ v → is ≡ w → P was is → P v w
along P v was w is e f h = subst (λ (u : disk.View). P u w) e (subst (λ (u : disk.View). P was u) f h)

-- a run that is done was read to its end, and its store hasn't stopped
ended_done : (end : code_end.RunEnd) (stop : Option Stop) → status_of end stop ≡ statuses.Done → (end ≡ ends.Done) × (stop ≡ None)
ended_done ends.Done None h = (refl, refl)
ended_done ends.Read None h = absurd (cc)
ended_done ends.Write None h = absurd (cc)
ended_done ends.TooLong None h = absurd (cc)
ended_done end (Some stops.Disk) h = absurd (cc)
ended_done end (Some stops.LogEnd) h = absurd (cc)

ended_memory : (end : code_end.RunEnd) (stop : Option Stop) → status_of end stop ≡ statuses.Memory → ⊥
ended_memory ends.Done None h = cc
ended_memory ends.Read None h = cc
ended_memory ends.Write None h = cc
ended_memory ends.TooLong None h = cc
ended_memory end (Some stops.Disk) h = cc
ended_memory end (Some stops.LogEnd) h = cc

-- a count has risen, or hasn't
risen_or : (before now : ℕ) → HasRisen before now ⊎ (HasRisen before now → ⊥)
risen_or before now = ⊎_elim (λ above. inl (λ room. above)) (λ most. ⊎_elim (λ room. inr (λ rose. omega (arith, most, rose room)))
    (λ full. inl (λ room. omega (arith, room, full))) (cases_lt (now + 1) (2 ^ 64))) (cases_lt before now)

-- A fault was counted, where that is so if the disk tells and what is presumed of it holds
pub count_rose : (told : Bool) (presumed : Type 0) (v w : disk.View) → (IsTrue told → presumed → HasRisen v.faults w.faults) → CountRose told presumed v w
count_rose told presumed v w h = ⊎_elim (λ rose. inl rose) (λ not. inr (by_told told h not)) (risen_or v.faults w.faults)
  where
    by_told : (b : Bool) → (IsTrue b → presumed → HasRisen v.faults w.faults) → (HasRisen v.faults w.faults → ⊥) → (b ≡ false) ⊎ (presumed → ⊥)
    by_told true rose not = inr (λ held. not (rose refl held))
    by_told false rose not = inl refl

-- the count of faults behind a fuse rises only where that of the disk inside does, or where a call is refused
pub risen_or_refused : (before now r : ℕ) → HasRisen (before + 0) (now + r) → HasRisen before now ⊎ (0 < r)
risen_or_refused before now zero h = inl (λ room. omega (arith, h (omega arith)))
risen_or_refused before now (suc r) h = inr (omega arith)

-- a fault that was counted behind the fuse
pub risen_inside : (told : Bool) (presumed : Type 0) (old new : Outside) (refused : ℕ) → CountRose told presumed (at_first old) (at_end new refused)
    → FaultRose told presumed old new refused
risen_inside told presumed old new refused (inl rose) = inl (risen_or_refused old.disk.faults new.disk.faults refused rose)
risen_inside told presumed old new refused (inr other) = inr other

-- what was read is no longer than the source's text
long_text : (source left : Option (List ℕ)) (got : List ℕ) (n : ℕ) → HasRead source got left → n < length got → IfSome source (λ text. n < length text)
long_text None left got n h long = tt
long_text (Some text) left got n h long = let e = ap length h.2 ∙ length-append got h.0 in omega arith

-- where the count behind a fuse didn't rise, neither did that of the disk inside, and no call was refused
pub unspent : (before now r : ℕ) → now + r ≡ before + 0 → before ≤ now → (now ≡ before) × (r ≡ 0)
unspent before now r same le = (omega arith, omega arith)

pub clash : {A : Type 0} (why : Stop) → None ≡ Some why → A
clash why e = absurd (cc)

-- a session that stopped in its lines for the log's end did so at it
stop_full : (tail before now : ℕ) (s : Option Stop) (lines : List (List ℕ)) (answers : List Answer) → scripts.AreCaused tail before now lines answers
    → stop_by_all s lines answers ≡ Some stops.LogEnd → (s ≡ Some stops.LogEnd) ⊎ IsAtEnd tail
stop_full tail before now s [] [] h e = inl e
stop_full tail before now s [] (a ∷ answers) h e = absurd h
stop_full tail before now s (l ∷ lines) [] h e = absurd h
stop_full tail before now s (l ∷ lines) (a ∷ answers) h e = ⊎_elim (by_trouble (trouble_in a) h.0) (λ at_end. inr at_end)
    (stop_full tail before now (stop_by s (line_of l) (trouble_in a)) lines answers h.1 e)
  where
    by_line : (line : Line) → causes.IsFullFor tail tail line → causes.stop_at_end s line ≡ Some stops.LogEnd → (s ≡ Some stops.LogEnd) ⊎ IsAtEnd tail
    by_line (OfStore upkeeps.Flush) full is = inl is
    by_line (OfStore upkeeps.Checkpoint) full is = inr full
    by_line (OfStore upkeeps.Truncate) full is = inl is
    by_line (OfMarks name markings.Save) full is = inl is
    by_line (OfMarks name (markings.Back mark)) full is = inr full
    by_line (Other Blank) full is = inl is
    by_line (Other Wrong) full is = inl is
    by_line (Other (Of name Begin)) full is = inl is
    by_line (Other (Of name Commit)) full is = inr full
    by_line (Other (Of name Abort)) full is = inr full
    by_line (Other (Of name (Do op))) full is = inl is

    by_trouble : (d : Trouble) → causes.IsCaused tail tail before now (line_of l) d → stop_by s (line_of l) d ≡ Some stops.LogEnd →
        (s ≡ Some stops.LogEnd) ⊎ IsAtEnd tail
    by_trouble NoTrouble cause is = inl is
    by_trouble OfDisk cause is = absurd (cc)
    by_trouble OfMemory cause is = inl is
    by_trouble OfLog cause is = by_line (line_of l) cause is

-- by the bytes that were handed over
full_shown : (log_end tail : ℕ) (v w : disk.View) (line : Line) → TailIsShown log_end v w tail → causes.IsFullFor tail tail line → MayBeFull log_end v w line
full_shown log_end tail v w line (inl counted) full = inl counted
full_shown log_end tail v w (OfStore upkeeps.Flush) (inr shown) full = absurd full
full_shown log_end tail v w (OfStore upkeeps.Checkpoint) (inr shown) full = inr (omega (arith, shown, full))
full_shown log_end tail v w (OfStore upkeeps.Truncate) (inr shown) full = absurd full
full_shown log_end tail v w (OfMarks name markings.Save) (inr shown) full = inr (omega (arith, shown, full))
full_shown log_end tail v w (OfMarks name (markings.Back mark)) (inr shown) full = inr (omega (arith, shown, full))
full_shown log_end tail v w (Other Blank) (inr shown) full = absurd full
full_shown log_end tail v w (Other Wrong) (inr shown) full = absurd full
full_shown log_end tail v w (Other (Of name Begin)) (inr shown) full = inr (omega (arith, shown, full))
full_shown log_end tail v w (Other (Of name Commit)) (inr shown) full = inr (omega (arith, shown, full))
full_shown log_end tail v w (Other (Of name Abort)) (inr shown) full = inr (omega (arith, shown, full))
full_shown log_end tail v w (Other (Of name (Do op))) (inr shown) full = inr (omega (arith, shown, full))

-- the log's end by bytes, through an opening and what came behind it
tail_shown : (log_end gate gate' tail : ℕ) (v u w : disk.View) → IsShownEnd v u log_end gate → IsShownEnd u w gate gate' → u.handed ≤ w.handed → tail ≤ gate' + 65541
    → TailIsShown log_end v w tail
tail_shown log_end gate gate' tail v u w (inl counted) later le waits = inl (omega (arith, counted, le))
tail_shown log_end gate gate' tail v u w (inr shown) (inl counted) le waits = inl counted
tail_shown log_end gate gate' tail v u w (inr shown) (inr later) le waits = inr (omega (arith, shown, later, waits))

module _ (basis : Sizes → Ground) (says : Says) (t : Operations)
    (sized : (z : Sizes) (c : disk.Image) (m : Objects) → stores.StandsFor t (basis z) c m → says.sizes c ≡ z) where
  -- what an image stands for as a store of some sizes it stands for by its own
  pub its_own : (z : Sizes) (c : disk.Image) (m : Objects) → stores.StandsFor t (basis z) c m → StandsFor basis says t c m
  its_own z c m h = subst (λ (q : Sizes). stores.StandsFor t (basis q) c m) (sym (sized z c m h)) h

  its_own_first : (z : Sizes) (c : disk.Image) (least : ℕ) (x : Run) → stores.StandsForFirst t (basis z) least x c → StandsForFirst basis says t least x c
  its_own_first z c least x h = record { commits = h.commits; enough = h.enough; most = h.most; stands = its_own z c (objects_after t h.commits x) h.stands }

  -- an image of the opening, as a prefix of the run's commits
  opening_stands : (first : Objects) (y : Run) (c : disk.Image) → y.so_far.first ≡ first → StandsFor basis says t c first → StandsForFirst basis says t 0 y c
  opening_stands first y c same h = record { commits = 0; enough = omega arith; most = omega arith; stands = subst (StandsFor basis says t c) (sym same) h }

  none_first : (a b : Option Stop) → ((why : Stop) → a ≡ Some why → b ≡ Some why) → b ≡ None → a ≡ None
  none_first None b stays e = refl
  none_first (Some why) b stays e = absurd (let h = sym (stays why refl) ∙ e in other why h)
    where
      other : (y : Stop) → Some y ≡ None → ⊥
      other y e = cc

  -- what a run did, from its course
  did_of : (old new : Outside) (refused : ℕ) (status : code_status.Status) (run : Course) (synced : disk.View) (by_then : Option Stop) (z : Sizes) (v w : View (basis z))
      (first : Objects) → StandsFor basis says t (reads_of old.disk) first → ((s : Objects) → StandsFor basis says t (reads_of old.disk) s → s ≡ first)
      → courses.Course t (basis z) v (start first) run.lines run.answers run.heard by_then run.stopped w → ((why : Stop) → by_then ≡ Some why → run.stopped ≡ Some why)
      → SplitsAt synced (at_first old) v.disk (λ i. StandsFor basis says t i first) → w.disk ≡ at_end new refused
      → ((a : _) (i : ℕ) → (new.disk.now a).seen i < 256) → status ≡ status_of run.end run.stopped
      → (run.stopped ≡ None → (i : disk.Image) → disk.Leaves w.disk.now i → says.checkpointed i) → Did basis says t old new refused status run
  did_of old new refused status run synced by_then z v w first stands only c stays opening same bytes status_is checkpointed =
      let back : (i : disk.Image) → disk.Leaves new.disk.now i → disk.Leaves w.disk.now i = λ i leaves. subst (λ (u : disk.View). disk.Leaves u.now i)
      (sym same) leaves in
      record {
        to = record { objects = first; synced = synced; after = c.after; span = span v c.shown };
        stands = stands;
        only = only;
        goes = c.goes;
        exit = record {
          images = λ i leaves. its_own_first z i c.after.so_far.answered c.after (c.exit i (back i leaves));
          one_more = omega (arith, c.one_more);
        };
        moments = record {
          until = opening.until;
          behind = subst (λ (u : disk.View). disk.LeavesOnly synced u (StandsForFirst basis says t 0 c.after)) same
              (moments.joined (moments.weaker opening.behind (λ i h. opening_stands first c.after i c.first h))
              (moments.weaker c.moments (λ i h. its_own_first z i 0 c.after h)));
        };
        done = λ is. (let d = ended_done run.end run.stopped (sym status_is ∙ is) in
            let here = back (reads_of new.disk) (moments.seen_image new.disk bytes) in
            record {
              answered = c.answered (none_first by_then run.stopped stays d.1);
              reads = its_own z (reads_of new.disk) (committed_objects t c.after) (c.done d.1 (reads_of new.disk) here);
              checkpointed = λ i leaves. checkpointed d.1 i (back i leaves);
            });
        serial = c.serial;
        stays = λ why e. stays why (c.was ∙ e);
      }

-- a store is open where a session stands over it
pub open_here : {E : Type 0} (ghosts : Ghosts E) (says : Says) (t : Operations) (told : Bool) (presumed : Type 0) (u v : disk.View) (a e : E) (ks : core.Core) (k : Core)
    → u ≡ v → e ≡ a → k ≡ record { store = ks; names = [] }
    → IsOpened ghosts.basis says t told presumed u (ghosts.view a) ks → IsOpened ghosts.basis says t told presumed v (ghosts.view e) k.store
open_here {E = E} ghosts says t told presumed u v a e ks k f g h opened =
    subst (λ (c : Core). IsOpened ghosts.basis says t told presumed v (ghosts.view e) c.store) (sym h)
    (subst (λ (i : E). IsOpened ghosts.basis says t told presumed v (ghosts.view i) ks) (sym g)
    (subst (λ (w : disk.View). IsOpened ghosts.basis says t told presumed w (ghosts.view a) ks) f opened))

-- THE RUN OF A SCRIPT over a disk, from where its store was open
module _ {E : Type 0} (ghosts : Ghosts E) (says : Says) (t : Operations) (told : Bool) (presumed : Type 0) (old new : Outside) (refused : ℕ) (status : code_status.Status)
    (end : code_end.RunEnd) (e f : E) (k : Core) (by_then stopped : Option Stop)
    (opened : IsOpened ghosts.basis says t told presumed (at_first old) (ghosts.view e) k.store) (named : k.names ≡ [])
    (ran : courses.Ran ghosts t end e k old.left new.left old.taken new.taken by_then stopped f)
    (heeds : Heeds k.store.stopped stopped (ghosts.view e) (ghosts.view f)) (waits : (ghosts.view f).tail ≤ (ghosts.view f).gate + 65541)
    (full : stopped ≡ Some stops.LogEnd → (by_then ≡ Some stops.LogEnd) ⊎ IsAtEnd (ghosts.view f).tail)
    (stays : (why : Stop) → by_then ≡ Some why → stopped ≡ Some why) (same : (ghosts.view f).disk ≡ at_end new refused) where
  going : k.store.stopped ≡ None
  going = ap (λ (c : core.Core). c.stopped) opened.core

  -- the disk's own count rose since the opening, and so since the call
  since_first : HasRisen (ghosts.view e).disk.faults (ghosts.view f).disk.faults → HasRisen (at_first old).faults (at_end new refused).faults
  since_first rose = subst (λ (u : disk.View). HasRisen (at_first old).faults u.faults) same
      (subst (λ (n : ℕ). HasRisen n (ghosts.view f).disk.faults) opened.heeded rose)

  -- where a fault of the disk is the cause
  rose : ((ghosts.view e).Told → HasRisen (ghosts.view e).disk.faults (ghosts.view f).disk.faults) → CountRose told presumed (at_first old) (at_end new refused)
  rose h = count_rose told presumed (at_first old) (at_end new refused) (λ is held. since_first (h (opened.tells is held)))

  shown : IsTrue told → TailIsShown (says.log_end (reads_of old.disk)) (at_first old) (at_end new refused) (ghosts.view f).tail
  shown is = subst (λ (u : disk.View). TailIsShown (says.log_end (reads_of old.disk)) (at_first old) u (ghosts.view f).tail) same
      (tail_shown (says.log_end (reads_of old.disk)) (ghosts.view e).gate (ghosts.view f).gate (ghosts.view f).tail (at_first old) (ghosts.view e).disk (ghosts.view f).disk
      (opened.shown is) heeds.shown heeds.handed waits)

  one_caused : (line : Line) (d : Trouble) → causes.IsCaused (ghosts.view f).tail (ghosts.view f).tail (ghosts.view e).faults (ghosts.view f).faults line d
      → ((ghosts.view e).Told → causes.IsCaused (ghosts.view f).tail (ghosts.view f).tail (ghosts.view e).disk.faults (ghosts.view f).disk.faults line d)
      → IsCaused says told presumed (at_first old) (at_end new refused) line d
  one_caused line NoTrouble h own = tt
  one_caused line OfDisk h own = rose own
  one_caused line OfLog h own = λ is. full_shown (says.log_end (reads_of old.disk)) (ghosts.view f).tail (at_first old) (at_end new refused) line (shown is) h
  one_caused line OfMemory h own = h

  all_caused : (lines : List (List ℕ)) (answers : List Answer) → scripts.AreCaused (ghosts.view f).tail (ghosts.view e).faults
      (ghosts.view f).faults lines answers → ((ghosts.view e).Told → scripts.AreCaused (ghosts.view f).tail (ghosts.view e).disk.faults (ghosts.view f).disk.faults lines answers)
      → AreCaused says told presumed (at_first old) (at_end new refused) lines answers
  all_caused [] [] h own = tt
  all_caused [] (a ∷ answers) h own = absurd h
  all_caused (l ∷ lines) [] h own = absurd h
  all_caused (l ∷ lines) (a ∷ answers) h own = (one_caused (line_of l) (trouble_in a) h.0 (λ tells. (own tells).0), all_caused lines answers h.1 (λ tells. (own tells).1))

  -- the store has stopped for what was counted, or where so much was handed over
  broke : stopped ≡ Some stops.Disk → FaultRose told presumed old new refused
  broke is = ⊎_elim (λ was. clash stops.Disk (sym going ∙ was)) (λ h. risen_inside told presumed old new refused (rose h)) (heeds.caused is)

  at_end_so : stopped ≡ Some stops.LogEnd → IsAtEnd (ghosts.view f).tail
  at_end_so is = ⊎_elim (λ was. ⊎_elim (λ first. clash stops.LogEnd (sym going ∙ first)) (λ h. h)
      (stop_full (ghosts.view f).tail (ghosts.view e).faults (ghosts.view f).faults k.store.stopped ran.lines ran.answers ran.caused (sym ran.stop ∙ was)))
      (λ h. h) (full is)

  spent_so : stopped ≡ Some stops.LogEnd → IsLogSpent ghosts.basis says told old new
  spent_so is told_so name = full_shown (says.log_end (reads_of old.disk)) (ghosts.view f).tail (at_first old) (at_end new refused) (Other (Of name Commit))
      (shown told_so) (at_end_so is)

  abbrev the_run : Course
  the_run = record { end = end; text = ran.text; lines = ran.lines; answers = ran.answers; heard = ran.heard; stopped = stopped }

  -- what is said where the disk tells and holds what is presumed
  module _ (sized : (z : Sizes) (c : disk.Image) (m : Objects) → stores.StandsFor t (ghosts.basis z) c m → says.sizes c ≡ z)
      (one : (m other : Objects) → StandsFor ghosts.basis says t (reads_of old.disk) m → StandsFor ghosts.basis says t (reads_of old.disk) other → m ≡ other)
      (given : IsPresumed ghosts.basis says t told presumed old.disk) (bytes : IsTrue told → (a : _) (i : ℕ) → (new.disk.now a).seen i < 256)
      (status_is : status ≡ status_of end stopped)
      (checkpointed : stopped ≡ None → (ghosts.view e).Told → (c : disk.Image) → disk.Leaves (ghosts.view f).disk.now c → says.checkpointed c) where
    did : IsTrue told → presumed → Did ghosts.basis says t old new refused status the_run
    did is held =
        let m : IsOfStore ghosts.basis says t old.disk = given is held in
        let st = opened.starts is held m.0 m.1 in
        let z = says.sizes (reads_of old.disk) in
        let v = led t z st.from (ghosts.view e) in
        let w = led t z st.from (ghosts.view f) in
        let shows : Shows t (ghosts.basis z) v k (start m.0) = record { store = st.shows; names = λ g. named } in
        let opening : (synced : disk.View) × KeepsAll ghosts.basis says t presumed synced (at_first old) (ghosts.view e).disk = opened.moments is in
        did_of ghosts.basis says t sized old new refused status the_run opening.0 by_then z v w m.0 m.1 (λ s stands. one s m.0 stands m.1)
        (ran.course z st.from st.means (opened.tells is held) (start m.0) st.lawful shows) stays
        (record { until = opening.1.until; behind = opening.1.behind held m.0 m.1 }) same (bytes is) status_is (λ going c leaves. checkpointed going (opened.tells is held) c leaves)

    pub ran_of : HasCause end old.source_faults new.source_faults old.sink_faults new.sink_faults → Ran ghosts.basis says t told presumed old new refused status
    ran_of cause = record {
      run = the_run;
      output = record {
        read = ran.read;
        executed = ran.executed;
        ended = cause;
        took = ran.took;
        caused = all_caused ran.lines ran.answers ran.caused ran.own;
      };
      did = did;
      done = λ is. (ended_done end stopped (sym status_is ∙ is)).0;
      status_is = status_is;
      caused = record { disk = broke; log_end = spent_so };
    }

  -- no fault of the disk is passed over
  pub heeded_of : status ≡ status_of end stopped → old.disk.faults ≤ new.disk.faults → (status ≡ statuses.Disk → ⊥) → (new.disk.faults ≡ old.disk.faults) × (refused ≡ 0)
  heeded_of status_is later none =
      unspent old.disk.faults new.disk.faults refused
      (sym (ap (λ (u : disk.View). u.faults) same) ∙ (heeds.heeded (λ is. none (status_is ∙ ap (status_of end) is)) ∙ opened.heeded)) later

-- A run that didn't begin
module _ (basis : Sizes → Ground) (says : Says) (t : Operations) (told : Bool) (presumed : Type 0) where
  pub never_of : (old new : Outside) (refused : ℕ) (status : code_status.Status) (why : code_refused.OpenRefused) → new.left ≡ old.left
      → new.taken ≡ old.taken → (new.source_faults ≡ old.source_faults) × (new.sink_faults ≡ old.sink_faults) → status ≡ status_of_refusal why
      → StaysShut basis says t told presumed (at_first old) (at_end new refused) why → NeverRan basis says t told presumed old new refused status
  never_of old new refused status why unread unwritten quiet is shut = record {
    why = why;
    reason = shut.reason;
    untouched = record { unread = unread; unwritten = unwritten; quiet = quiet; alone = shut.alone };
    status_is = is;
  }

  -- a disk of which no call was made is left alone
  pub alone : (v : disk.View) → IsLeftAlone basis says t presumed v v
  alone v = inl (record { calls = omega arith; failed = inl refl; moments = moments.started v (disk.Leaves v.now) (λ c leaves. leaves) })

  -- one for which not even the first memory was there
  pub never_began : (old : Outside) → NeverRan basis says t told presumed old old 0 statuses.Memory
  never_began old = record {
    why = refusals.Memory;
    reason = tt;
    untouched = record { unread = refl; unwritten = refl; quiet = (refl, refl); alone = λ is. alone (at_first old) };
    status_is = refl;
  }

  module _ (old new : Outside) (refused : ℕ) where
    tells_never : (status : code_status.Status) → NeverRan basis says t told presumed old new refused status → Tells basis says status t told presumed old new refused
    tells_never status h = subst (λ (s : code_status.Status). Tells basis says s t told presumed old new refused) (sym h.status_is) (by_why h.why h.reason)
      where
        by_why : (why : code_refused.OpenRefused) → IsRefusedFor basis says t why told presumed (at_first old) (at_end new refused)
            → Tells basis says (status_of_refusal why) t told presumed old new refused
        by_why refusals.DiskFault r = risen_inside told presumed old new refused (count_rose told presumed (at_first old) (at_end new refused) r)
        by_why refusals.Memory r = (h.untouched.unread, h.untouched.unwritten)
        by_why (refusals.Damaged area at) r = r
        by_why refusals.NotAStore r = r
        by_why (refusals.UnknownOperation code) r = r
        by_why refusals.LogEnd r = λ is name. r is

    tells_ran : (status : code_status.Status) → Ran basis says t told presumed old new refused status → Tells basis says status t told presumed old new refused
    tells_ran status h = subst (λ (s : code_status.Status). Tells basis says s t told presumed old new refused) (sym h.status_is)
        (by_end h.run.end h.run.stopped h.output.ended h.output.executed h.caused.disk h.caused.log_end)
      where
        by_end : (end : code_end.RunEnd) (stop : Option Stop) → HasCause end old.source_faults new.source_faults old.sink_faults new.sink_faults
            → AreExecuted end old.left h.run.text h.run.lines
            → (stop ≡ Some stops.Disk → FaultRose told presumed old new refused) → (stop ≡ Some stops.LogEnd → IsLogSpent basis says told old new)
            → Tells basis says (status_of end stop) t told presumed old new refused
        by_end ends.Done None cause lines broke full = cause
        by_end ends.Read None cause lines broke full = cause.0
        by_end ends.Write None cause lines broke full = cause.1
        by_end ends.TooLong None cause lines broke full = long_text old.left new.left h.run.text MOST_BYTES h.output.read lines.long
        by_end end (Some stops.Disk) cause lines broke full = broke refl
        by_end end (Some stops.LogEnd) cause lines broke full = full refl

    -- what each status tells follows from how the run went
    pub tells_of : (status : code_status.Status) → HasGone basis says t told presumed old new refused status → Tells basis says status t told presumed old new refused
    tells_of status (inl never) = tells_never status never
    tells_of status (inr ran) = tells_ran status ran

    -- a run isn't one of other words
    pub never_usage : (status : code_status.Status) → HasGone basis says t told presumed old new refused status → status ≡ statuses.Usage → ⊥
    never_usage status gone is = subst (λ (s : code_status.Status). Tells basis says s t told presumed old new refused) is (tells_of status gone)

    no_fault : IsUnhindered told presumed old new refused → FaultRose told presumed old new refused → ⊥
    no_fault u (inl (inl rose)) = u.disk rose
    no_fault u (inl (inr some)) = (let none = u.passed in omega (arith, some, none))
    no_fault u (inr (inl untold)) = (let bad : true ≡ false = sym u.is_told ∙ untold in cc)
    no_fault u (inr (inr none)) = none u.is_presumed

    -- and so does how one ends that nothing hinders
    pub completes_of : (status : code_status.Status) → HasGone basis says t told presumed old new refused status → IsUnhindered told presumed old new refused
        → Completes basis says t told presumed old new refused status
    completes_of status gone u = by_status status gone (tells_of status gone)
      where
        by_status : (s : code_status.Status) → HasGone basis says t told presumed old new refused s → Tells basis says s t told presumed old new refused
            → Completes basis says t told presumed old new refused s
        by_status statuses.Done h tells = inl refl
        by_status statuses.NotAStore h tells = absurd ((tells u.is_told).2 u.is_presumed)
        by_status statuses.Usage h tells = absurd tells
        by_status statuses.Memory (inl never) tells = inr (inl (refl, never.untouched))
        by_status statuses.Memory (inr ran) tells = absurd (ended_memory ran.run.end ran.run.stopped (sym ran.status_is))
        by_status statuses.Disk h tells = absurd (no_fault u tells)
        by_status statuses.Read h tells = absurd (u.source tells)
        by_status statuses.Write h tells = absurd (u.sink tells)
        by_status statuses.TooLong h tells = let long = subst (λ (o : Option (List ℕ)). IfSome o (λ text. MOST_BYTES < length text)) u.script tells in absurd
            (omega (arith, long, u.short))
        by_status (statuses.UnknownOperation code) h tells = absurd ((tells u.is_told).1 u.is_presumed)
        by_status (statuses.Damaged area at) h tells = absurd ((tells u.is_told).1 u.is_presumed)
        by_status statuses.Exists h tells = absurd tells
        by_status statuses.BadGeometry h tells = absurd tells
        by_status statuses.LogEnd h tells = inr (inr (refl, tells))

    -- the account of a run by how it went
    pub account_of : (status : code_status.Status) → HasGone basis says t told presumed old new refused status → Account basis says t told presumed old new refused status
    account_of status gone = record {
      gone = gone;
      tells = tells_of status gone;
      completes = completes_of status gone;
    }

  -- a run that didn't begin, and not for a fault of the disk
  pub heeded_never : (v w : disk.View) (refused : ℕ) (why : code_refused.OpenRefused) (status : code_status.Status) → status ≡ status_of_refusal why
      → StaysShut basis says t told presumed (disk.refusing v 0) (disk.refusing w refused) why → v.faults ≤ w.faults
      → (status ≡ statuses.Disk → ⊥) → (w.faults ≡ v.faults) × (refused ≡ 0)
  heeded_never v w refused why status is shut le none = by_why why is shut.quiet
    where
      by_why : (why : code_refused.OpenRefused) → status ≡ status_of_refusal why → IsQuietFor basis says why (disk.refusing v 0) (disk.refusing w refused)
          → (w.faults ≡ v.faults) × (refused ≡ 0)
      by_why refusals.DiskFault is quiet = absurd (none is)
      by_why refusals.Memory is quiet = unspent v.faults w.faults refused quiet le
      by_why (refusals.Damaged area at) is quiet = unspent v.faults w.faults refused quiet le
      by_why refusals.NotAStore is quiet = unspent v.faults w.faults refused quiet le
      by_why (refusals.UnknownOperation code) is quiet = unspent v.faults w.faults refused quiet le
      by_why refusals.LogEnd is quiet = unspent v.faults w.faults refused quiet le
