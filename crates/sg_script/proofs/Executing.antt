-- Lines are executed one after another.
use Rattle.std.proofs.Common.{◌≡◌, ◌⊎◌, inl, inr, ℕ, ◌≤◌, List, [], ◌∷◌, ◌++◌, length, take, Option, Some, None, Result, refl, sym, ap, ◌∙◌, subst, arith, append_assoc, append-nil, length-append}
use Rattle.std.specs.Prelude.{IsSome, Ok, Err, OnOk, OnErr, is_some, true}
use Rattle.std.proofs.lemmas.List.{take-append-le}
use Rattle.sg_base.specs.Ends.{Takes, TakesFront}
use Rattle.sg_disk.specs.Disk.{Image}
use Rattle.sg_disk.proofs.Moments.{started, joined, weaker}
use Rattle.sg_ops.specs.Table.{Table as Operations}
use Rattle.sg_serial.specs.Machine.{run}
use Rattle.sg_serial.specs.Runs.{in_order}
use Rattle.sg_model.specs.declared.stop.Stop.{Stop}
use Rattle.sg_model.specs.Objects.{Objects}
use Rattle.sg_model.specs.Step.{step}
use Rattle.sg_words.specs.Answers.{Answer, text_of_answer, text_of_all}
use Rattle.sg_words.specs.Requests.Asked.{Blank, Wrong, Of}
use Rattle.sg_words.specs.Requests.Request.{Begin, Commit, Abort, Do}
use Rattle.sg_words.specs.declared.marking.Marking.TheVariants as markings
use Rattle.sg_words.specs.declared.upkeep.Upkeep.{Upkeep}
use Rattle.sg_words.specs.declared.upkeep.Upkeep.TheVariants as upkeeps
use Rattle.sg_words.proofs.Steps.{Takes-more}
use Rattle.sg_run.specs.Run.{Run, Event}
use Rattle.sg_run.specs.Numbers.{Refusal, Flushes, Checkpoints}
use Rattle.sg_run.specs.Numbers.Refusal.{Stopped, NoTransaction, TooManyLive, Busy, LocksFull, Because, NoSpace, NoBands, LogEnd, Memory, Disk}
use Rattle.sg_run.specs.Stocked.{Around}
use Rattle.sg_store.specs.declared.engine.Engine.{Ghosts}
use Rattle.sg_store.specs.Ground.{Ground, IsLawful}
use Rattle.sg_store.specs.Engine.{View, KeepsBy, led}
use Rattle.sg_store.specs.Heeds.{Heeds}
use Rattle.sg_store.specs.Stands.{StandsFor, StandsForFirst}
use Rattle.sg_store.proofs.Heeding.{risen_on, heeds_none, heeds_then}
use Rattle.sg_session.specs.Lines.{Line, LineBy, KeepsUp, UnlessStopped, MarkingUnlessStopped, line_of}
use Rattle.sg_session.specs.Lines.Line.{OfStore, OfMarks, Other}
use Rattle.sg_session.specs.Shows.{Core, Shows}
use Rattle.sg_session.specs.Causes.{Trouble, trouble_in, IsFullFor, IsCaused, stop_by}
use Rattle.sg_session.specs.Causes.Trouble.{NoTrouble, OfDisk, OfLog, OfMemory}
use Rattle.sg_session.specs.Goes.{around, Goes, IsAnswered, when_stopped}
use Rattle.sg_session.specs.OneLine.{with_its_commit}
use Rattle.sg_session.proofs.Commits.{AddsItsOwn, adds_its_own, more_with_its}
use Rattle.sg_session.proofs.Steps as steps
use Rattle.sg_script.specs.Script.{Span, span, IsWithin, Lines, AreCaused, stop_by_all, TookAll, CutAtLast, Executed, ExecutedBy, LineGoes}

-- a run goes on: it has the same first objects, more commits or as many, and no fewer that were answered
record Extends (x y : Run) : Type 0 where
  first : y.so_far.first ≡ x.so_far.first
  more : List (List Event)
  commits : y.so_far.commits ≡ x.so_far.commits ++ more
  answered : x.so_far.answered ≤ y.so_far.answered

extends_self : (x y : Run) → y ≡ x → Extends x y
extends_self x y e = record {
  first = ap (λ (r : Run). r.so_far.first) e;
  more = [];
  commits = ap (λ (r : Run). r.so_far.commits) e ∙ sym (append-nil x.so_far.commits);
  answered = (let same = ap (λ (r : Run). r.so_far.answered) e in omega (arith, same));
}

clash : {A : Type 0} (s : Option Stop) (why : Stop) → s ≡ Some why → s ≡ None → A
clash None why e f = absurd (cc)
clash (Some other) why e f = absurd (cc)

-- a run that has stopped stays
flush_stays : (before now : ℕ) (x y : Run) (why : Stop) → x.stopped ≡ Some why → (r : Result (Unit {0}) Refusal) → Flushes before now x r y → y ≡ x
flush_stays before now x y why e (Ok done) h = clash x.stopped why e h.0
flush_stays before now x y why e (Err Stopped) h = h.1
flush_stays before now x y why e (Err NoTransaction) h = absurd h
flush_stays before now x y why e (Err TooManyLive) h = absurd h
flush_stays before now x y why e (Err (Busy holder)) h = absurd h
flush_stays before now x y why e (Err LocksFull) h = absurd h
flush_stays before now x y why e (Err (Because reason)) h = absurd h
flush_stays before now x y why e (Err (NoSpace free reserved need)) h = absurd h
flush_stays before now x y why e (Err (NoBands free need)) h = absurd h
flush_stays before now x y why e (Err LogEnd) h = absurd h
flush_stays before now x y why e (Err Memory) h = absurd h
flush_stays before now x y why e (Err Disk) h = clash x.stopped why e h.0

checkpoint_stays : (tail before now : ℕ) (x y : Run) (why : Stop) → x.stopped ≡ Some why → (r : Result (Unit {0}) Refusal) → Checkpoints tail before now x r y → y ≡ x
checkpoint_stays tail before now x y why e (Ok done) h = clash x.stopped why e h.0
checkpoint_stays tail before now x y why e (Err Stopped) h = h.1
checkpoint_stays tail before now x y why e (Err NoTransaction) h = absurd h
checkpoint_stays tail before now x y why e (Err TooManyLive) h = absurd h
checkpoint_stays tail before now x y why e (Err (Busy holder)) h = absurd h
checkpoint_stays tail before now x y why e (Err LocksFull) h = absurd h
checkpoint_stays tail before now x y why e (Err (Because reason)) h = absurd h
checkpoint_stays tail before now x y why e (Err (NoSpace free reserved need)) h = absurd h
checkpoint_stays tail before now x y why e (Err (NoBands free need)) h = absurd h
checkpoint_stays tail before now x y why e (Err LogEnd) h = clash x.stopped why e h.0
checkpoint_stays tail before now x y why e (Err Memory) h = absurd h
checkpoint_stays tail before now x y why e (Err Disk) h = clash x.stopped why e h.0

upkeep_stays : (a : Around) (upkeep : Upkeep) (x y : Run) (why : Stop) → x.stopped ≡ Some why → (r : Result (Unit {0}) Refusal) → KeepsUp a upkeep x r y → y ≡ x
upkeep_stays a upkeeps.Flush x y why e r h = flush_stays a.before a.now x y why e r h
upkeep_stays a upkeeps.Checkpoint x y why e r h = checkpoint_stays a.begin a.before a.now x y why e r h
upkeep_stays a upkeeps.Truncate x y why e r h = flush_stays a.before a.now x y why e r h

pub line_stays : (t : Operations) (a : Around) (x y : Run) (why : Stop) → x.stopped ≡ Some why → (line : Line) (answer : Answer) → LineBy t a x line answer y → y ≡ x
line_stays t a x y why e (OfStore upkeep) answer h = upkeep_stays a upkeep x y why e h.0 h.2
line_stays t a x y why e (OfMarks name marking) answer h = (subst (λ (s : Option Stop). MarkingUnlessStopped a name s x marking answer y) e h).1
line_stays t a x y why e (Other Blank) answer h = h.1
line_stays t a x y why e (Other Wrong) answer h = h.1
line_stays t a x y why e (Other (Of name request)) answer h = (subst (λ (s : Option Stop). UnlessStopped t a name s x request answer y) e h).1

extends_line : (t : Operations) (a : Around) (x y : Run) (line : Line) (answer : Answer) → x.so_far.answered ≤ length x.so_far.commits → LineBy t a x line answer y → (s : Option Stop) → x.stopped ≡ s → Extends x y
extends_line t a x y line answer le h (Some why) e = extends_self x y (line_stays t a x y why e line answer h)
extends_line t a x y line answer le h None e =
    let own : AddsItsOwn x line y = adds_its_own t a x e y answer line h in
    let p = more_with_its x line in
    by_either own p own.either
  where
    by_either : AddsItsOwn x line y → (more : List (List Event)) × ((with_its_commit x line).so_far.commits ≡ x.so_far.commits ++ more) × (length more ≤ 1)
        → (y.so_far.commits ≡ x.so_far.commits) ⊎ (y.so_far.commits ≡ (with_its_commit x line).so_far.commits) → Extends x y
    by_either own p (inl same) = record { first = own.first; more = []; commits = same ∙ sym (append-nil x.so_far.commits); answered = own.answered le }
    by_either own p (inr same) = record { first = own.first; more = p.0; commits = same ∙ p.1; answered = own.answered le }

-- lines between wider bounds
record IsWider (s r : Span) : Type 0 where
  begin : r.begin ≤ s.begin
  tail : s.tail ≤ r.tail
  before : r.before ≤ s.before
  now : s.now ≤ r.now

within_wider : (s r : Span) (a : Around) → IsWider s r → IsWithin s a → IsWithin r a
within_wider s r a w h = record { begin = omega (arith, w.begin, h.begin); tail = omega (arith, w.tail, h.tail); before = omega (arith, w.before, h.before); now = omega (arith, w.now, h.now) }

lines_wider : (t : Operations) (s r : Span) → IsWider s r → (x : Run) (lines : List (List ℕ)) (answers : List Answer) (y : Run) → Lines t s x lines answers y → Lines t r x lines answers y
lines_wider t s r w x [] [] y h = h
lines_wider t s r w x [] (a ∷ answers) y h = absurd h
lines_wider t s r w x (l ∷ lines) [] y h = absurd h
lines_wider t s r w x (l ∷ lines) (a ∷ answers) y h = (h.0, within_wider s r h.0 w h.1, h.2, h.3, lines_wider t s r w h.2 lines answers y h.4)

-- one line more
lines_more : (t : Operations) (s : Span) (x : Run) (lines : List (List ℕ)) (answers : List Answer) (y : Run) (line : List ℕ) (answer : Answer) (z : Run) (a : Around) → Lines t s x lines answers y → IsWithin s a → LineBy t a y (line_of line) answer z
    → Lines t s x (lines ++ line ∷ []) (answers ++ answer ∷ []) z
lines_more t s x [] [] y line answer z a h within l = (a, within, z, subst (λ (w : Run). LineBy t a w (line_of line) answer z) h l, refl)
lines_more t s x [] (b ∷ answers) y line answer z a h within l = absurd h
lines_more t s x (m ∷ lines) [] y line answer z a h within l = absurd h
lines_more t s x (m ∷ lines) (b ∷ answers) y line answer z a h within l = (h.0, h.1, h.2, h.3, lines_more t s h.2 lines answers y line answer z a h.4 within l)

module _ (t : Operations) (g : Ground) where
  first_along : (x y : Run) (least : ℕ) → Extends x y → (c : Image) → StandsForFirst t g least x c → StandsForFirst t g least y c
  first_along x y least e c s = record {
    commits = s.commits;
    enough = s.enough;
    most = (let long = ap length e.commits ∙ length-append x.so_far.commits e.more in omega (arith, s.most, long));
    stands = subst (StandsFor t g c)
        (ap (λ (cs : List (List Event)). run (step t) x.so_far.first (in_order cs)) (sym (take-append-le s.commits x.so_far.commits e.more s.most) ∙ ap (λ (cs : List (List Event)). take s.commits cs) (sym e.commits))
        ∙ ap (λ (o : Objects). run (step t) o (in_order (take s.commits y.so_far.commits))) (sym e.first)) s.stands;
  }

  pub fewer : (y : Run) (least most : ℕ) → least ≤ most → (c : Image) → StandsForFirst t g most y c → StandsForFirst t g least y c
  fewer y least most le c s = record { commits = s.commits; enough = omega (arith, le, s.enough); most = s.most; stands = s.stands }

  -- before the first line
  executed_none : (v : View g) (k : Core) (x : Run) → Shows t g v k x → Executed t g v x [] [] v k
  executed_none v k x shows = record {
    after = x;
    goes = refl;
    first = refl;
    answered = omega arith;
    shows = shows;
    moments = started v.disk (StandsForFirst t g x.so_far.answered x) shows.store.images;
  }

  -- one line more
  executed_line : (v : View g) (x : Run) (lines : List (List ℕ)) (answers : List Answer) (w u : View g) (m n : Core) (line : List ℕ) (answer : Answer)
      → v.faults ≤ w.faults → v.tail ≤ w.tail → w.faults ≤ u.faults → w.tail ≤ u.tail
      → (e : Executed t g v x lines answers w m) → Goes t g w e.after (line_of line) answer u n → Executed t g v x (lines ++ line ∷ []) (answers ++ answer ∷ []) u n
  executed_line v x lines answers w u m n line answer vf vt wf wt e h =
      let ext : Extends e.after h.after = extends_line t (around w u) e.after h.after (line_of line) answer e.shows.store.answered h.line_goes e.after.stopped refl in
      record {
        after = h.after;
        goes = lines_more t (span v u) x lines answers e.after line answer h.after (around w u)
            (lines_wider t (span v w) (span v u) (record { begin = omega arith; tail = wt; before = omega arith; now = wf }) x lines answers e.after e.goes)
            (record { begin = vt; tail = omega arith; before = vf; now = omega arith }) h.line_goes;
        first = ext.first ∙ e.first;
        answered = omega (arith, e.answered, ext.answered);
        shows = h.shows;
        moments = joined (weaker e.moments (first_along e.after h.after x.so_far.answered ext)) (weaker h.moments (fewer h.after x.so_far.answered e.after.so_far.answered e.answered));
      }

  -- a line of a session that has stopped
  goes_stopped : (v : View g) (k : Core) (x : Run) → is_some k.store.stopped ≡ true → Shows t g v k x → (line : Line) → Goes t g v x line (when_stopped line) v k
  goes_stopped v k x e shows (OfStore upkeep) = steps.upkeep_stopped t g v x k shows upkeep e
  goes_stopped v k x e shows (OfMarks name marking) = steps.marks_stopped t g v x k shows name marking e
  goes_stopped v k x e shows (Other Blank) = steps.silent t g v x k shows
  goes_stopped v k x e shows (Other Wrong) = steps.bad_syntax t g v x k shows
  goes_stopped v k x e shows (Other (Of name request)) = steps.has_stopped t g v x k shows name request e

-- nothing goes wrong in a line of a session that has stopped
no_trouble : (begin tail before now : ℕ) (line : Line) → IsCaused begin tail before now line (trouble_in (when_stopped line))
no_trouble begin tail before now (OfStore upkeep) = tt
no_trouble begin tail before now (OfMarks name marking) = tt
no_trouble begin tail before now (Other Blank) = tt
no_trouble begin tail before now (Other Wrong) = tt
no_trouble begin tail before now (Other (Of name request)) = tt

-- what holds of the cause of an answer holds by wider bounds
caused_wider : (tail before now top bottom last : ℕ) (line : Line) (d : Trouble) → tail ≤ top → bottom ≤ before → before ≤ now → now ≤ last → (begin : ℕ) → begin ≤ top → IsCaused begin tail before now line d → IsCaused top top bottom last line d
caused_wider tail before now top bottom last line NoTrouble wide bb bn nl begin le h = h
caused_wider tail before now top bottom last line OfDisk wide bb bn nl begin le h = risen_on bottom before now last bb bn nl h
caused_wider tail before now top bottom last line OfMemory wide bb bn nl begin le h = h
caused_wider tail before now top bottom last line OfLog wide bb bn nl begin le h = full_wider line h
  where
    full_wider : (l : Line) → IsFullFor begin tail l → IsFullFor top top l
    full_wider (OfStore upkeeps.Flush) h = h
    full_wider (OfStore upkeeps.Checkpoint) h = omega (arith, h, le)
    full_wider (OfStore upkeeps.Truncate) h = h
    full_wider (OfMarks name markings.Save) h = omega (arith, h, le)
    full_wider (OfMarks name (markings.Back mark)) h = omega (arith, h, wide)
    full_wider (Other Blank) h = h
    full_wider (Other Wrong) h = h
    full_wider (Other (Of name Begin)) h = omega (arith, h, le)
    full_wider (Other (Of name Commit)) h = omega (arith, h, wide)
    full_wider (Other (Of name Abort)) h = omega (arith, h, wide)
    full_wider (Other (Of name (Do op))) h = omega (arith, h, le)

pub all_wider : (tail before now top bottom last : ℕ) → tail ≤ top → bottom ≤ before → before ≤ now → now ≤ last → (lines : List (List ℕ)) (answers : List Answer) → AreCaused tail before now lines answers → AreCaused top bottom last lines answers
all_wider tail before now top bottom last wide bb bn nl [] [] h = h
all_wider tail before now top bottom last wide bb bn nl [] (a ∷ answers) h = absurd h
all_wider tail before now top bottom last wide bb bn nl (l ∷ lines) [] h = absurd h
all_wider tail before now top bottom last wide bb bn nl (l ∷ lines) (a ∷ answers) h =
    (caused_wider tail before now top bottom last (line_of l) (trouble_in a) wide bb bn nl tail wide h.0, all_wider tail before now top bottom last wide bb bn nl lines answers h.1)

-- one line more
all_more : (tail before now : ℕ) (lines : List (List ℕ)) (answers : List Answer) (line : List ℕ) (answer : Answer) → AreCaused tail before now lines answers → IsCaused tail tail before now (line_of line) (trouble_in answer) → AreCaused tail before now (lines ++ line ∷ []) (answers ++ answer ∷ [])
all_more tail before now [] [] line answer h c = (c, tt)
all_more tail before now [] (a ∷ answers) line answer h c = absurd h
all_more tail before now (l ∷ lines) [] line answer h c = absurd h
all_more tail before now (l ∷ lines) (a ∷ answers) line answer h c = (h.0, all_more tail before now lines answers line answer h.1 c)

stop_more : (tail before now : ℕ) (s : Option Stop) (lines : List (List ℕ)) (answers : List Answer) (line : List ℕ) (answer : Answer) → AreCaused tail before now lines answers
    → stop_by (stop_by_all s lines answers) (line_of line) (trouble_in answer) ≡ stop_by_all s (lines ++ line ∷ []) (answers ++ answer ∷ [])
stop_more tail before now s [] [] line answer h = refl
stop_more tail before now s [] (a ∷ answers) line answer h = absurd h
stop_more tail before now s (l ∷ lines) [] line answer h = absurd h
stop_more tail before now s (l ∷ lines) (a ∷ answers) line answer h = stop_more tail before now (stop_by s (line_of l) (trouble_in a)) lines answers line answer h.1

module _ {E : Type 0} (ghosts : Ghosts E) (t : Operations) where
  pub executed-none : (e : E) (k : Core) (Took : List Answer → List Answer → Type 0) → Took [] [] → ExecutedBy ghosts t e k [] Took e k
  executed-none e k Took nothing = record {
    means = λ z from m. m;
    heeds = heeds_none k.store.stopped (ghosts.view e);
    answers = [];
    heard = [];
    took = nothing;
    caused = tt;
    own = λ told. tt;
    stop = refl;
    done = λ z from m told x lawful shows. executed_none t (ghosts.basis z) (led t z from (ghosts.view e)) k x shows;
  }

  pub executed-more : (e : E) (k : Core) (lines : List (List ℕ)) (Before After : List Answer → List Answer → Type 0) (f h : E) (m n : Core) (line : List ℕ) (Took : Answer → Type 0)
      → ExecutedBy ghosts t e k lines Before f m → LineGoes ghosts t f m (line_of line) Took h n
      → ((answer : Answer) → Took answer → (answers heard : List Answer) → Before answers heard → (more : List Answer) × After (answers ++ answer ∷ []) more)
      → ExecutedBy ghosts t e k (lines ++ line ∷ []) After h n
  executed-more e k lines Before After f h m n line Took so_far goes takes =
      let a = goes.is in
      let hears = takes a.answer a.took so_far.answers so_far.heard so_far.took in
      let before = so_far.heeds.later in
      let tail = goes.heeds.tail in
      let now = goes.heeds.later in
      let ones = all_wider (ghosts.view f).tail (ghosts.view e).faults (ghosts.view f).faults (ghosts.view h).tail (ghosts.view e).faults (ghosts.view h).faults tail (omega arith) before now lines so_far.answers so_far.caused in
      record {
        means = λ z from r. goes.means z from (so_far.means z from r);
        heeds = heeds_then k.store.stopped m.store.stopped n.store.stopped (ghosts.view e) (ghosts.view f) (ghosts.view h) so_far.heeds goes.heeds;
        answers = so_far.answers ++ a.answer ∷ [];
        heard = hears.0;
        took = hears.1;
        caused = all_more (ghosts.view h).tail (ghosts.view e).faults (ghosts.view h).faults lines so_far.answers line a.answer ones
            (caused_wider (ghosts.view h).tail (ghosts.view f).faults (ghosts.view h).faults (ghosts.view h).tail (ghosts.view e).faults (ghosts.view h).faults (line_of line) (trouble_in a.answer) (omega arith) before now (omega arith) (ghosts.view f).tail tail a.caused.cause);
        own = λ told. all_more (ghosts.view h).tail (ghosts.view e).disk.faults (ghosts.view h).disk.faults lines so_far.answers line a.answer
            (all_wider (ghosts.view f).tail (ghosts.view e).disk.faults (ghosts.view f).disk.faults (ghosts.view h).tail (ghosts.view e).disk.faults (ghosts.view h).disk.faults tail (omega arith) so_far.heeds.disk_later goes.heeds.disk_later lines so_far.answers (so_far.own told))
            (caused_wider (ghosts.view h).tail (ghosts.view f).disk.faults (ghosts.view h).disk.faults (ghosts.view h).tail (ghosts.view e).disk.faults (ghosts.view h).disk.faults (line_of line) (trouble_in a.answer) (omega arith) so_far.heeds.disk_later goes.heeds.disk_later (omega arith) (ghosts.view f).tail tail
            (own_line told m.store.stopped refl));
        stop = a.caused.stop ∙ (ap (λ (s : Option Stop). stop_by s (line_of line) (trouble_in a.answer)) so_far.stop
            ∙ stop_more (ghosts.view h).tail (ghosts.view e).faults (ghosts.view h).faults k.store.stopped lines so_far.answers line a.answer ones);
        done = λ z from r told x lawful shows. by_stop z from r told x lawful shows m.store.stopped refl;
      }
    where
      own_line : (ghosts.view e).Told → (s : Option Stop) → m.store.stopped ≡ s → IsCaused (ghosts.view f).tail (ghosts.view h).tail (ghosts.view f).disk.faults (ghosts.view h).disk.faults (line_of line) (trouble_in goes.is.answer)
      own_line told None is = goes.is.caused.own (so_far.heeds.tells is told)
      own_line told (Some why) is =
          let some : IsSome m.store.stopped = ap is_some is in
          subst (λ (answer : Answer). IsCaused (ghosts.view f).tail (ghosts.view h).tail (ghosts.view f).disk.faults (ghosts.view h).disk.faults (line_of line) (trouble_in answer)) (sym (goes.is.by_stop some))
          (no_trouble (ghosts.view f).tail (ghosts.view h).tail (ghosts.view f).disk.faults (ghosts.view h).disk.faults (line_of line))

      by_stop : (z : _) (from : (ghosts.basis z).X) → (ghosts.view e).means t z from → (ghosts.view e).Told → (x : Run) → IsLawful t (ghosts.basis z) → Shows t (ghosts.basis z) (led t z from (ghosts.view e)) k x
          → (s : Option Stop) → m.store.stopped ≡ s → Executed t (ghosts.basis z) (led t z from (ghosts.view e)) x (lines ++ line ∷ []) (so_far.answers ++ goes.is.answer ∷ []) (led t z from (ghosts.view h)) n
      by_stop z from r told x lawful shows None is =
          let d = so_far.done z from r told x lawful shows in
          let a = goes.is.answers z from (so_far.means z from r) (so_far.heeds.tells is told) d.after lawful d.shows in
          executed_line t (ghosts.basis z) (led t z from (ghosts.view e)) x lines so_far.answers (led t z from (ghosts.view f)) (led t z from (ghosts.view h)) m n line goes.is.answer so_far.heeds.later so_far.heeds.tail goes.heeds.later goes.heeds.tail d a.goes
      by_stop z from r told x lawful shows (Some why) is =
          let d = so_far.done z from r told x lawful shows in
          let some : IsSome m.store.stopped = ap is_some is in
          let p = goes.still some in
          let same : led t z from (ghosts.view f) ≡ led t z from (ghosts.view h) = ap (λ (i : E). led t z from (ghosts.view i)) (sym p.0) in
          let went = goes_stopped t (ghosts.basis z) (led t z from (ghosts.view f)) m d.after some d.shows (line_of line) in
          let there = subst (λ (c : Core). Goes t (ghosts.basis z) (led t z from (ghosts.view f)) d.after (line_of line) goes.is.answer (led t z from (ghosts.view h)) c) (sym p.1)
          (subst (λ (u : View (ghosts.basis z)). Goes t (ghosts.basis z) (led t z from (ghosts.view f)) d.after (line_of line) goes.is.answer u m) same
          (subst (λ (answer : Answer). Goes t (ghosts.basis z) (led t z from (ghosts.view f)) d.after (line_of line) answer (led t z from (ghosts.view f)) m) (sym (goes.is.by_stop some)) went)) in
          executed_line t (ghosts.basis z) (led t z from (ghosts.view e)) x lines so_far.answers (led t z from (ghosts.view f)) (led t z from (ghosts.view h)) m n line goes.is.answer so_far.heeds.later so_far.heeds.tail goes.heeds.later goes.heeds.tail d there

text-more : (answers : List Answer) (answer : Answer) → text_of_all (answers ++ answer ∷ []) ≡ text_of_all answers ++ text_of_answer answer
text-more [] answer = append-nil (text_of_answer answer)
text-more (a ∷ answers) answer = ap (λ (t : List ℕ). text_of_answer a ++ t) (text-more answers answer) ∙ sym (append_assoc (text_of_answer a) (text_of_all answers) (text_of_answer answer))

-- the replies that a sink took, and one more
told-more : (a : Option (List ℕ)) (answers : List Answer) (b : Option (List ℕ)) (answer : Answer) (c : Option (List ℕ)) → Takes a (text_of_all answers) b → Takes b (text_of_answer answer) c → Takes a (text_of_all (answers ++ answer ∷ [])) c
told-more a answers b answer c h k = subst (λ (t : List ℕ). Takes a t c) (sym (text-more answers answer)) (Takes-more a (text_of_all answers) b (text_of_answer answer) c h k)

-- what the sink took so far, and of the next reply
pub takes_more : (before mid now : Option (List ℕ)) (answer : Answer) → Takes mid (text_of_answer answer) now → (answers heard : List Answer) → TookAll before mid answers heard → (more : List Answer) × TookAll before now (answers ++ answer ∷ []) more
takes_more before mid now answer takes answers heard took = (answers ++ answer ∷ [], (refl, told-more before answers mid answer now took.1 takes))

pub takes_cut : (before mid now : Option (List ℕ)) (answer : Answer) → TakesFront mid (text_of_answer answer) now → (answers heard : List Answer) → TookAll before mid answers heard → (more : List Answer) × CutAtLast before now (answers ++ answer ∷ []) more
takes_cut before mid now answer takes answers heard took = (answers, record { last = answer; all = refl; mid = mid; took = took.1; cut = takes })

-- what a call of a session says of a line is how it goes
module _ {E R X : Type 0} (ghosts : Ghosts E) (t : Operations) (r : Result R X) (e : E) (k : Core) (line there : Line) (Took : Answer → Type 0) (f : E) (m : Core) (same : line ≡ there)
    (means : KeepsBy t (ghosts.view e) (ghosts.view f)) (heeds : Heeds k.store.stopped m.store.stopped (ghosts.view e) (ghosts.view f)) (still : IsSome k.store.stopped → (f ≡ e) × (m ≡ k)) where
  went : IsAnswered ghosts t e k line Took f m → LineGoes ghosts t e k there Took f m
  went is = subst (λ (l : Line). LineGoes ghosts t e k l Took f m) same (record { means = means; heeds = heeds; still = still; is = is })

  on_ok : (q : Result R X) → OnOk q (IsAnswered ghosts t e k line Took f m) → OnOk q (LineGoes ghosts t e k there Took f m)
  on_ok (Ok u) a = went a
  on_ok (Err u) a = tt

  on_err : (q : Result R X) → OnErr q (IsAnswered ghosts t e k line Took f m) → OnErr q (LineGoes ghosts t e k there Took f m)
  on_err (Ok u) a = tt
  on_err (Err u) a = went a

  pub went_ok : OnOk r (IsAnswered ghosts t e k line Took f m) → OnOk r (LineGoes ghosts t e k there Took f m)
  went_ok = on_ok r

  pub went_err : OnErr r (IsAnswered ghosts t e k line Took f m) → OnErr r (LineGoes ghosts t e k there Took f m)
  went_err = on_err r
