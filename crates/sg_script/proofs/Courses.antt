-- A whole run: the lines of its script, and its end.
use Rattle.std.proofs.Common.{◌≡◌, inl, ℕ, List, [], ◌∷◌, take, Option, Some, None, refl, sym, ap, ◌∙◌, subst, arith}
use Rattle.std.specs.Prelude.{Err, IsSome, is_some, true}
use Rattle.sg_disk.proofs.Moments.{joined, weaker}
use Rattle.sg_ops.specs.Table.{Table as Operations}
use Rattle.sg_model.specs.declared.stop.Stop.{Stop}
use Rattle.sg_model.specs.Verb.{Op}
use Rattle.sg_serial.specs.Runs.{Live}
use Rattle.sg_words.specs.Answers.{Answer}
use Rattle.sg_words.specs.Requests.{Request}
use Rattle.sg_words.specs.Requests.Asked.{Blank, Wrong, Of}
use Rattle.sg_words.specs.Requests.Request.{Begin, Commit, Abort, Do}
use Rattle.sg_words.specs.declared.marking.Marking.{Marking}
use Rattle.sg_words.specs.declared.marking.Marking.TheVariants as markings
use Rattle.sg_words.specs.declared.upkeep.Upkeep.TheVariants as upkeeps
use Rattle.sg_run.specs.Run.{Run, live_named}
use Rattle.sg_run.specs.Stocked.{Around}
use Rattle.sg_run.proofs.Serial.{UnlessStopped, serial_run}
use Rattle.sg_run.proofs.Numbers.{begin_keeps, does_keep, commit_keeps, abort_keeps, save_keeps, roll_keeps, flush_keeps, checkpoint_keeps}
use Rattle.sg_session.specs.Lines.{Line, LineBy, BeginsAs, CommitsAs, AbortsAs, DoesAs, SavesAs, BacksAs, RequestBy, MarkingUnlessStopped, line_of}
use Rattle.sg_session.specs.Lines as asks
use Rattle.sg_session.specs.Lines.Line.{OfStore, OfMarks, Other}
use Rattle.sg_store.specs.declared.engine.Engine.{Ghosts}
use Rattle.sg_store.specs.declared.fault.Refused.TheVariants as refusals
use Rattle.sg_store.specs.Ground.{Ground, IsLawful}
use Rattle.sg_store.specs.Engine.{View, AsMeantBy, led}
use Rattle.sg_store.specs.Heeds.{Heeds}
use Rattle.sg_store.proofs.Maintaining.{marks_stopped}
use Rattle.sg_session.specs.Shows.{Core, Shows}
use Rattle.sg_session.specs.Ending.{IsEnded}
use Rattle.sg_session.proofs.Ending.{ended_stopped}
use Rattle.sg_script.specs.declared.script.RunEnd as code_end
use Rattle.sg_script.specs.Script.{Span, span, Lines, Executed}
use Rattle.sg_script.specs.Ending.{IsHeard, RunsTo}
use Rattle.sg_script.specs.Course.{IsSerialThroughout, Course, Ran}
use Rattle.sg_script.proofs.Executing.{fewer, all_wider}
use Rattle.sg_script.proofs.Acknowledged.{one_more}

module _ (t : Operations) where
  same : (x y : Run) → y ≡ x → UnlessStopped t x → UnlessStopped t y
  same x y e k = subst (UnlessStopped t) (sym e) k

  begins : (a : Around) (name : List ℕ) (l : Option Live) (x y : Run) (answer : Answer) → BeginsAs a name l x answer y → UnlessStopped t x → UnlessStopped t y
  begins a name (Some l) x y answer h k = same x y h.1 k
  begins a name None x y answer h k = begin_keeps t x y a.begin a.before a.now name h.0 h.2 k

  commits : (a : Around) (l : Option Live) (x y : Run) (answer : Answer) → CommitsAs a l x answer y → UnlessStopped t x → UnlessStopped t y
  commits a None x y answer h k = same x y h.1 k
  commits a (Some l) x y answer h k = commit_keeps t x y a.tail a.before a.now l.transaction h.0 h.2 k

  aborts : (a : Around) (l : Option Live) (x y : Run) (answer : Answer) → AbortsAs a l x answer y → UnlessStopped t x → UnlessStopped t y
  aborts a None x y answer h k = same x y h.1 k
  aborts a (Some l) x y answer h k = abort_keeps t x y a.tail a.before a.now l.transaction h.0 h.2 k

  does : (a : Around) (op : Op) (l : Option Live) (x y : Run) (answer : Answer) → DoesAs t a op l x answer y → UnlessStopped t x → UnlessStopped t y
  does a op None x y answer h k = same x y h.1 k
  does a op (Some l) x y answer h k = does_keep t x y a.begin a.tail a.before a.now l.transaction op h.0 h.2 k

  requests : (a : Around) (name : List ℕ) (x y : Run) (request : Request) (answer : Answer) → RequestBy t a name x request answer y → UnlessStopped t x → UnlessStopped t y
  requests a name x y Begin answer h k = begins a name (live_named x.so_far.live name) x y answer h k
  requests a name x y Commit answer h k = commits a (live_named x.so_far.live name) x y answer h k
  requests a name x y Abort answer h k = aborts a (live_named x.so_far.live name) x y answer h k
  requests a name x y (Do op) answer h k = does a op (live_named x.so_far.live name) x y answer h k

  unless : (a : Around) (name : List ℕ) (s : Option Stop) (x y : Run) (request : Request) (answer : Answer) → asks.UnlessStopped t a name s x request answer y → UnlessStopped t x → UnlessStopped t y
  unless a name (Some why) x y request answer h k = same x y h.1 k
  unless a name None x y request answer h k = requests a name x y request answer h k

  saves : (a : Around) (l : Option Live) (x y : Run) (answer : Answer) → SavesAs a l x answer y → UnlessStopped t x → UnlessStopped t y
  saves a None x y answer h k = same x y h.1 k
  saves a (Some l) x y answer h k = save_keeps t x y a.begin a.before a.now l.transaction h.0 h.2 k

  backs : (a : Around) (mark : ℕ) (l : Option Live) (x y : Run) (answer : Answer) → BacksAs a mark l x answer y → UnlessStopped t x → UnlessStopped t y
  backs a mark None x y answer h k = same x y h.1 k
  backs a mark (Some l) x y answer h k = roll_keeps t x y a.tail a.before a.now l.transaction mark h.0 h.2 k

  markings_keep : (a : Around) (name : List ℕ) (s : Option Stop) (x y : Run) (marking : Marking) (answer : Answer) → MarkingUnlessStopped a name s x marking answer y → UnlessStopped t x → UnlessStopped t y
  markings_keep a name (Some why) x y marking answer h k = same x y h.1 k
  markings_keep a name None x y markings.Save answer h k = saves a (live_named x.so_far.live name) x y answer h k
  markings_keep a name None x y (markings.Back mark) answer h k = backs a mark (live_named x.so_far.live name) x y answer h k

  line_keeps : (a : Around) (x y : Run) (line : Line) (answer : Answer) → LineBy t a x line answer y → UnlessStopped t x → UnlessStopped t y
  line_keeps a x y (OfStore upkeeps.Flush) answer h k = flush_keeps t x y a.before a.now h.0 h.2 k
  line_keeps a x y (OfStore upkeeps.Checkpoint) answer h k = checkpoint_keeps t x y a.begin a.before a.now h.0 h.2 k
  line_keeps a x y (OfStore upkeeps.Truncate) answer h k = flush_keeps t x y a.before a.now h.0 h.2 k
  line_keeps a x y (OfMarks name marking) answer h k = markings_keep a name x.stopped x y marking answer h k
  line_keeps a x y (Other Blank) answer h k = same x y h.1 k
  line_keeps a x y (Other Wrong) answer h k = same x y h.1 k
  line_keeps a x y (Other (Of name request)) answer h k = unless a name x.stopped x y request answer h k

  lines_keep : (s : Span) (x y : Run) (lines : List (List ℕ)) (answers : List Answer) → Lines t s x lines answers y → UnlessStopped t x → UnlessStopped t y
  lines_keep s x y [] [] h k = same x y h k
  lines_keep s x y (line ∷ lines) (answer ∷ answers) h k = lines_keep s h.2 y lines answers h.4 (line_keeps h.0 x h.2 (line_of line) answer h.3 k)
  lines_keep s x y [] (answer ∷ answers) h k = absurd h
  lines_keep s x y (line ∷ lines) [] h k = absurd h

  -- each run to which first lines lead is serial
  throughout : (s : Span) (x : Run) (lines : List (List ℕ)) (answers : List Answer) → UnlessStopped t x → IsSerialThroughout t s x lines answers
  throughout s x lines answers k n mid h running = serial_run t mid (lines_keep s x mid (take n lines) (take n answers) h k running)

module _ (t : Operations) (g : Ground) (lawful : IsLawful t g) where
  -- a session that has stopped ends as it is
  ends_as_it_is : (v : View g) (k : Core) (x : Run) → is_some k.store.stopped ≡ true → Shows t g v k x → IsEnded t g v x k.store.stopped v
  ends_as_it_is v k x is shows = ended_stopped t g v v x k is shows k.store.stopped (record {
    outcome = Err refusals.Stopped;
    store = k.store;
    is_behind = refl;
    goes = marks_stopped t g lawful v k.store x v.faults shows.store is;
  })

  course : (v u w : View g) (k : Core) (m : Core) (x : Run) (end : code_end.RunEnd) (first now : Option (List ℕ)) (lines : List (List ℕ)) (answers heard : List Answer) (stopped : Option Stop) → Shows t g v k x → IsHeard end first now answers heard
      → (d : Executed t g v x lines answers u m) → IsEnded t g u d.after stopped w → Course t g v x lines answers heard m.store.stopped stopped w
  course v u w k m x end first now lines answers heard stopped shows took d ended = record {
    after = d.after;
    was = d.shows.store.stopped;
    answered = λ going. (d.shows.store.runs (sym d.shows.store.stopped ∙ going)).is_kept.answered;
    shown = u;
    goes = d.goes;
    first = d.first;
    serial = throughout t (span v u) x lines answers (λ running. (shows.store.runs running).is_kept.logs.sound);
    ended = ended;
    moments = joined d.moments (weaker ended.moments (fewer t g d.after x.so_far.answered d.after.so_far.answered d.answered));
    exit = λ c leaves. ended.moments.each c (inl leaves);
    one_more = one_more t (span v u) end first now x d.after lines answers heard d.goes took;
    done = ended.kept;
  }

-- the lines of a script, and the end of the session behind them
pub ran_by : {E : Type 0} (ghosts : Ghosts E) (t : Operations) (end : code_end.RunEnd) (e f h : E) (k m : Core) (source left first now : Option (List ℕ)) (by_then stopped : Option Stop)
    → RunsTo ghosts end t e k source left first now f m → by_then ≡ m.store.stopped → Heeds m.store.stopped stopped (ghosts.view f) (ghosts.view h)
    → AsMeantBy t (ghosts.view f) (ghosts.view h) (λ g v w. (x : Run) → IsLawful t g → Shows t g v m x → IsEnded t g v x stopped w) → (IsSome m.store.stopped → (h ≡ f) × (stopped ≡ m.store.stopped))
    → Ran ghosts t end e k source left first now by_then stopped h
ran_by {E = E} ghosts t end e f h k m source left first now by_then stopped r was heeds ends still = record {
  text = r.text;
  read = r.read;
  lines = r.lines;
  executed = r.ended;
  answers = r.executed.answers;
  heard = r.executed.heard;
  took = r.executed.took;
  caused = all_wider (ghosts.view f).tail (ghosts.view e).faults (ghosts.view f).faults (ghosts.view h).tail (ghosts.view e).faults (ghosts.view h).faults heeds.tail (omega arith) r.executed.heeds.later heeds.later r.lines r.executed.answers r.executed.caused;
  own = λ told. all_wider (ghosts.view f).tail (ghosts.view e).disk.faults (ghosts.view f).disk.faults (ghosts.view h).tail (ghosts.view e).disk.faults (ghosts.view h).disk.faults heeds.tail (omega arith) r.executed.heeds.disk_later heeds.disk_later r.lines r.executed.answers (r.executed.own told);
  stop = was ∙ r.executed.stop;
  course = λ z from means told x lawful shows. subst (λ (s : Option Stop). Course t (ghosts.basis z) (led t z from (ghosts.view e)) x r.lines r.executed.answers r.executed.heard s stopped (led t z from (ghosts.view h))) (sym was)
      (by_stop z from means told x lawful shows m.store.stopped refl);
}
  where
    by_stop : (z : _) (from : (ghosts.basis z).X) → (ghosts.view e).means t z from → (ghosts.view e).Told → (x : Run) → IsLawful t (ghosts.basis z) → Shows t (ghosts.basis z) (led t z from (ghosts.view e)) k x
        → (s : Option Stop) → m.store.stopped ≡ s → Course t (ghosts.basis z) (led t z from (ghosts.view e)) x r.lines r.executed.answers r.executed.heard m.store.stopped stopped (led t z from (ghosts.view h))
    by_stop z from means told x lawful shows None is =
        let d = r.executed.done z from means told x lawful shows in
        course t (ghosts.basis z) lawful (led t z from (ghosts.view e)) (led t z from (ghosts.view f)) (led t z from (ghosts.view h)) k m x end first now r.lines r.executed.answers r.executed.heard stopped shows r.executed.took d
        (ends z from (r.executed.means z from means) (r.executed.heeds.tells is told) d.after lawful d.shows)
    by_stop z from means told x lawful shows (Some why) is =
        let d = r.executed.done z from means told x lawful shows in
        let some : is_some m.store.stopped ≡ true = ap is_some is in
        let p = still some in
        let here = ends_as_it_is t (ghosts.basis z) lawful (led t z from (ghosts.view f)) m d.after some d.shows in
        course t (ghosts.basis z) lawful (led t z from (ghosts.view e)) (led t z from (ghosts.view f)) (led t z from (ghosts.view h)) k m x end first now r.lines r.executed.answers r.executed.heard stopped shows r.executed.took d
        (subst (λ (i : E). IsEnded t (ghosts.basis z) (led t z from (ghosts.view f)) d.after stopped (led t z from (ghosts.view i))) (sym p.0)
        (subst (λ (q : Option Stop). IsEnded t (ghosts.basis z) (led t z from (ghosts.view f)) d.after q (led t z from (ghosts.view f))) (sym p.1) here))
