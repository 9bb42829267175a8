-- What a line does to the commits of a run: nothing, or it adds its own.
use Rattle.std.proofs.Common.{◌≡◌, ◌⊎◌, inl, inr, ℕ, ◌+◌, ◌≤◌, Bool, true, false, List, [], ◌∷◌, ◌++◌, length, Option, Some, None, refl, sym, ap, ◌∙◌, subst, arith, length-append, append-nil}
use Rattle.std.specs.Prelude.{Result, Ok, Err, take, nat_le, IsSome}
use Rattle.std.specs.List.{filter}
use Rattle.std.proofs.Math.Seq.{take-append_seam, take-length}
use Rattle.std.proofs.lemmas.Bool.Decides.{nat_tests}
use Rattle.sg_disk.specs.Disk.{Image, Leaves}
use Rattle.sg_disk.proofs.Moments.{weaker}
use Rattle.sg_ops.specs.Table.{Table as Operations}
use Rattle.sg_serial.specs.Machine.{run}
use Rattle.sg_serial.specs.Runs.{Live, is_live, is_own, in_order}
use Rattle.sg_model.specs.declared.stop.Stop.{Stop}
use Rattle.sg_model.specs.declared.stop.Stop.TheVariants as stops
use Rattle.sg_model.specs.Objects.{Objects}
use Rattle.sg_model.specs.Verb.{Op, Reply}
use Rattle.sg_model.specs.Step.{step}
use Rattle.sg_words.specs.Answers.{Answer}
use Rattle.sg_words.specs.Requests.{Request}
use Rattle.sg_words.specs.Requests.Asked.{Blank, Wrong, Of}
use Rattle.sg_words.specs.Requests.Request.{Begin, Commit, Abort, Do}
use Rattle.sg_words.specs.declared.marking.Marking.{Marking}
use Rattle.sg_words.specs.declared.marking.Marking.TheVariants as markings
use Rattle.sg_words.specs.declared.upkeep.Upkeep.{Upkeep}
use Rattle.sg_words.specs.declared.upkeep.Upkeep.TheVariants as upkeeps
use Rattle.sg_run.specs.Run.{Run, Event, live_named, began, committed, aborted, saved, rolled_back, did, with_locks, stop, committed_objects, objects_after}
use Rattle.sg_run.specs.Numbers.{Refusal, MarkRefusal, Begins, Does, Commits, Aborts, Saves, RollsBack, Flushes, Checkpoints, stopped_in, at_log_end}
use Rattle.sg_run.specs.Numbers.Refusal.{Stopped, NoTransaction, TooManyLive, Busy, LocksFull, Because, NoSpace, NoBands, LogEnd, Memory, Disk}
use Rattle.sg_run.specs.Numbers.MarkRefusal.{NoMark, MarksFull, Otherwise}
use Rattle.sg_run.specs.Stocked.{Around}
use Rattle.sg_run.proofs.Serial.{find_live}
use Rattle.sg_store.specs.Ground.{Ground}
use Rattle.sg_store.specs.Engine.{View}
use Rattle.sg_store.specs.Stands.{StandsFor, StandsForFirst}
use Rattle.sg_session.specs.Lines.{Line, LineBy, KeepsUp, RequestBy, UnlessStopped, BeginsAs, CommitsAs, AbortsAs, DoesAs, SavesAs, BacksAs, MarkingBy, MarkingUnlessStopped}
use Rattle.sg_session.specs.Lines.Line.{OfStore, OfMarks, Other}
use Rattle.sg_session.specs.Shows.{Core, Shows}
use Rattle.sg_session.specs.Goes.{Goes}
use Rattle.sg_session.specs.OneLine.{with_commit_of, with_its_commit, OneLine}
use Rattle.sg_session.specs.Ending.{AddsNone}

same : (x y z : Run) → z.so_far.first ≡ x.so_far.first → z.so_far.commits ≡ x.so_far.commits → z.so_far.answered ≡ x.so_far.answered → y ≡ z → AddsNone x y
same x y z first commits answered e = record {
  first = ap (λ (r : Run). r.so_far.first) e ∙ first;
  commits = ap (λ (r : Run). r.so_far.commits) e ∙ commits;
  answered = ap (λ (r : Run). r.so_far.answered) e ∙ answered;
}

pub begin_keeps : (tail before now : ℕ) (name : List ℕ) (x y : Run) (r : Result ℕ Refusal) → Begins tail before now name x r y → AddsNone x y
begin_keeps tail before now name x y (Ok n) h = same x y (began x n name) refl refl refl h.4
begin_keeps tail before now name x y (Err Stopped) h = same x y x refl refl refl h.1
begin_keeps tail before now name x y (Err NoTransaction) h = absurd h
begin_keeps tail before now name x y (Err TooManyLive) h = same x y x refl refl refl h.2
begin_keeps tail before now name x y (Err (Busy holder)) h = absurd h
begin_keeps tail before now name x y (Err LocksFull) h = absurd h
begin_keeps tail before now name x y (Err (Because reason)) h = absurd h
begin_keeps tail before now name x y (Err (NoSpace free reserved need)) h = absurd h
begin_keeps tail before now name x y (Err (NoBands free need)) h = absurd h
begin_keeps tail before now name x y (Err LogEnd) h = same x y x refl refl refl h.3
begin_keeps tail before now name x y (Err Memory) h = absurd h
begin_keeps tail before now name x y (Err Disk) h = same x y (stop stops.Disk x) refl refl refl h.2.after

pub abort_keeps : (tail before now u : ℕ) (x y : Run) (r : Result (Unit {0}) Refusal) → Aborts tail before now u x r y → AddsNone x y
abort_keeps tail before now u x y (Ok done) h = same x y (aborted x u) refl refl refl h.2
abort_keeps tail before now u x y (Err Stopped) h = same x y x refl refl refl h.1
abort_keeps tail before now u x y (Err NoTransaction) h = same x y x refl refl refl h.2
abort_keeps tail before now u x y (Err TooManyLive) h = absurd h
abort_keeps tail before now u x y (Err (Busy holder)) h = absurd h
abort_keeps tail before now u x y (Err LocksFull) h = absurd h
abort_keeps tail before now u x y (Err (Because reason)) h = absurd h
abort_keeps tail before now u x y (Err (NoSpace free reserved need)) h = absurd h
abort_keeps tail before now u x y (Err (NoBands free need)) h = absurd h
abort_keeps tail before now u x y (Err LogEnd) h = same x y (stop stops.LogEnd x) refl refl refl h.2
abort_keeps tail before now u x y (Err Memory) h = absurd h
abort_keeps tail before now u x y (Err Disk) h = same x y (stop stops.Disk x) refl refl refl h.2.after

pub save_keeps : (tail before now u : ℕ) (x y : Run) (r : Result ℕ MarkRefusal) → Saves tail before now u x r y → AddsNone x y
save_keeps tail before now u x y (Ok n) h = same x y (saved x u h.5.0) refl refl refl h.5.2
save_keeps tail before now u x y (Err NoMark) h = absurd h
save_keeps tail before now u x y (Err MarksFull) h = same x y x refl refl refl h.3
save_keeps tail before now u x y (Err (Otherwise Stopped)) h = same x y x refl refl refl h.1
save_keeps tail before now u x y (Err (Otherwise NoTransaction)) h = same x y x refl refl refl h.2
save_keeps tail before now u x y (Err (Otherwise TooManyLive)) h = absurd h
save_keeps tail before now u x y (Err (Otherwise (Busy holder))) h = absurd h
save_keeps tail before now u x y (Err (Otherwise LocksFull)) h = absurd h
save_keeps tail before now u x y (Err (Otherwise (Because reason))) h = absurd h
save_keeps tail before now u x y (Err (Otherwise (NoSpace free reserved need))) h = absurd h
save_keeps tail before now u x y (Err (Otherwise (NoBands free need))) h = absurd h
save_keeps tail before now u x y (Err (Otherwise LogEnd)) h = same x y x refl refl refl h.4
save_keeps tail before now u x y (Err (Otherwise Memory)) h = absurd h
save_keeps tail before now u x y (Err (Otherwise Disk)) h = same x y (stop stops.Disk x) refl refl refl h.3.after

pub back_keeps : (tail before now u mark : ℕ) (x y : Run) (r : Result (Unit {0}) MarkRefusal) → RollsBack tail before now u mark x r y → AddsNone x y
back_keeps tail before now u mark x y (Ok done) h = same x y (rolled_back x u h.2.0.time mark) refl refl refl h.2.2
back_keeps tail before now u mark x y (Err NoMark) h = same x y x refl refl refl h.3
back_keeps tail before now u mark x y (Err MarksFull) h = absurd h
back_keeps tail before now u mark x y (Err (Otherwise Stopped)) h = same x y x refl refl refl h.1
back_keeps tail before now u mark x y (Err (Otherwise NoTransaction)) h = same x y x refl refl refl h.2
back_keeps tail before now u mark x y (Err (Otherwise TooManyLive)) h = absurd h
back_keeps tail before now u mark x y (Err (Otherwise (Busy holder))) h = absurd h
back_keeps tail before now u mark x y (Err (Otherwise LocksFull)) h = absurd h
back_keeps tail before now u mark x y (Err (Otherwise (Because reason))) h = absurd h
back_keeps tail before now u mark x y (Err (Otherwise (NoSpace free reserved need))) h = absurd h
back_keeps tail before now u mark x y (Err (Otherwise (NoBands free need))) h = absurd h
back_keeps tail before now u mark x y (Err (Otherwise LogEnd)) h = same x y (stop stops.LogEnd x) refl refl refl h.3
back_keeps tail before now u mark x y (Err (Otherwise Memory)) h = absurd h
back_keeps tail before now u mark x y (Err (Otherwise Disk)) h = same x y (stop stops.Disk x) refl refl refl h.3.after

pub flush_keeps : (before now : ℕ) (x y : Run) (r : Result (Unit {0}) Refusal) → Flushes before now x r y → AddsNone x y
flush_keeps before now x y (Ok done) h = same x y x refl refl refl h.1
flush_keeps before now x y (Err Stopped) h = same x y x refl refl refl h.1
flush_keeps before now x y (Err NoTransaction) h = absurd h
flush_keeps before now x y (Err TooManyLive) h = absurd h
flush_keeps before now x y (Err (Busy holder)) h = absurd h
flush_keeps before now x y (Err LocksFull) h = absurd h
flush_keeps before now x y (Err (Because reason)) h = absurd h
flush_keeps before now x y (Err (NoSpace free reserved need)) h = absurd h
flush_keeps before now x y (Err (NoBands free need)) h = absurd h
flush_keeps before now x y (Err LogEnd) h = absurd h
flush_keeps before now x y (Err Memory) h = absurd h
flush_keeps before now x y (Err Disk) h = same x y (stop stops.Disk x) refl refl refl h.1.after

pub checkpoint_keeps : (tail before now : ℕ) (x y : Run) (r : Result (Unit {0}) Refusal) → Checkpoints tail before now x r y → AddsNone x y
checkpoint_keeps tail before now x y (Ok done) h = same x y x refl refl refl h.1
checkpoint_keeps tail before now x y (Err Stopped) h = same x y x refl refl refl h.1
checkpoint_keeps tail before now x y (Err NoTransaction) h = absurd h
checkpoint_keeps tail before now x y (Err TooManyLive) h = absurd h
checkpoint_keeps tail before now x y (Err (Busy holder)) h = absurd h
checkpoint_keeps tail before now x y (Err LocksFull) h = absurd h
checkpoint_keeps tail before now x y (Err (Because reason)) h = absurd h
checkpoint_keeps tail before now x y (Err (NoSpace free reserved need)) h = absurd h
checkpoint_keeps tail before now x y (Err (NoBands free need)) h = absurd h
checkpoint_keeps tail before now x y (Err LogEnd) h = same x y (stop stops.LogEnd x) refl refl refl h.1
checkpoint_keeps tail before now x y (Err Memory) h = absurd h
checkpoint_keeps tail before now x y (Err Disk) h = same x y (stop stops.Disk x) refl refl refl h.1.after

pub upkeep_keeps : (a : Around) (upkeep : Upkeep) (x y : Run) (r : Result (Unit {0}) Refusal) → KeepsUp a upkeep x r y → AddsNone x y
upkeep_keeps a upkeeps.Flush x y r h = flush_keeps a.before a.now x y r h
upkeep_keeps a upkeeps.Checkpoint x y r h = checkpoint_keeps a.begin a.before a.now x y r h
upkeep_keeps a upkeeps.Truncate x y r h = flush_keeps a.before a.now x y r h

pub does_keep : (t : Operations) (begin tail before now u : ℕ) (op : Op) (x y : Run) (r : Result Reply Refusal) → Does t begin tail before now u op x r y → AddsNone x y
does_keep t begin tail before now u op x y (Ok reply) h = same x y (did t x u op) refl refl refl h.4
does_keep t begin tail before now u op x y (Err Stopped) h = same x y x refl refl refl h.1
does_keep t begin tail before now u op x y (Err NoTransaction) h = same x y x refl refl refl h.2
does_keep t begin tail before now u op x y (Err TooManyLive) h = absurd h
does_keep t begin tail before now u op x y (Err (Busy holder)) h = same x y x refl refl refl h.3
does_keep t begin tail before now u op x y (Err LocksFull) h = same x y x refl refl refl h.4
does_keep t begin tail before now u op x y (Err (Because reason)) h = same x y (did t x u op) refl refl refl h.3
does_keep t begin tail before now u op x y (Err (NoSpace free reserved need)) h = same x y (with_locks t x u op) refl refl refl h.5
does_keep t begin tail before now u op x y (Err (NoBands free need)) h = same x y (with_locks t x u op) refl refl refl h.4
does_keep t begin tail before now u op x y (Err LogEnd) h = same x y (with_locks t x u op) refl refl refl h.5
does_keep t begin tail before now u op x y (Err Memory) h = same x y (with_locks t x u op) refl refl refl h.4
does_keep t begin tail before now u op x y (Err Disk) h = same x y (stop stops.Disk x) refl refl refl h.2.after

-- A line of a store that hasn't stopped leaves the commits as they were, or adds its own; and it has added it, if it is a commit
-- of a live transaction, unless the store has stopped in it
pub record AddsItsOwn (x : Run) (line : Line) (y : Run) : Type 0 where
  pub first : y.so_far.first ≡ x.so_far.first
  pub either : (y.so_far.commits ≡ x.so_far.commits) ⊎ (y.so_far.commits ≡ (with_its_commit x line).so_far.commits)
  pub done : y.stopped ≡ None → y.so_far.commits ≡ (with_its_commit x line).so_far.commits
  pub answered : x.so_far.answered ≤ length x.so_far.commits → x.so_far.answered ≤ y.so_far.answered

kept : (x y : Run) (line : Line) → (with_its_commit x line).so_far.commits ≡ x.so_far.commits → AddsNone x y → AddsItsOwn x line y
kept x y line e h = record {
  first = h.first;
  either = inl h.commits;
  done = λ going. h.commits ∙ sym e;
  answered = λ le. (let a = h.answered in omega (arith, a));
}

keeps_self : (x y : Run) → y ≡ x → AddsNone x y
keeps_self x y e = same x y x refl refl refl e

abbrev AddsOf : Run → Option Live → Run → Type 0
AddsOf x o y = (y.so_far.first ≡ x.so_far.first) × ((y.so_far.commits ≡ x.so_far.commits) ⊎ (y.so_far.commits ≡ (with_commit_of x o).so_far.commits))
    × (y.stopped ≡ None → y.so_far.commits ≡ (with_commit_of x o).so_far.commits) × (x.so_far.answered ≤ length x.so_far.commits → x.so_far.answered ≤ y.so_far.answered)

adds_by : (x y z : Run) (l : Live) → y ≡ z → AddsOf x (Some l) z → AddsOf x (Some l) y
adds_by x y z l e h = subst (AddsOf x (Some l)) (sym e) h

stays_down : (why : Stop) → Some why ≡ None → ⊥
stays_down why e = cc

commit_adds : (tail before now : ℕ) (l : Live) (x y : Run) (r : Result (Unit {0}) Refusal) → x.stopped ≡ None → is_live x.so_far.live l.transaction ≡ true → Commits tail before now l.transaction x r y → AddsOf x (Some l) y
commit_adds tail before now l x y (Ok done) going live h = adds_by x y (committed x l.transaction) l h.2 (refl, inr refl, (λ e. refl), (λ le. omega (arith, le)))
commit_adds tail before now l x y (Err Stopped) going live h = absurd (never x.stopped h.0 going)
  where
    never : (s : Option Stop) → IsSome s → s ≡ None → ⊥
    never None is e = cc
    never (Some why) is e = cc
commit_adds tail before now l x y (Err NoTransaction) going live h = absurd (never (sym live ∙ h.1))
  where
    never : true ≡ false → ⊥
    never e = cc
commit_adds tail before now l x y (Err TooManyLive) going live h = absurd h
commit_adds tail before now l x y (Err (Busy holder)) going live h = absurd h
commit_adds tail before now l x y (Err LocksFull) going live h = absurd h
commit_adds tail before now l x y (Err (Because reason)) going live h = absurd h
commit_adds tail before now l x y (Err (NoSpace free reserved need)) going live h = absurd h
commit_adds tail before now l x y (Err (NoBands free need)) going live h = absurd h
commit_adds tail before now l x y (Err LogEnd) going live h = adds_by x y (at_log_end x l.transaction) l h.2 (refl, inr refl, (λ e. absurd (stays_down stops.LogEnd e)), (λ le. omega arith))
commit_adds tail before now l x y (Err Memory) going live h = absurd h
commit_adds tail before now l x y (Err Disk) going live h = adds_by x y (stopped_in x l.transaction) l h.2 (refl, inr refl, (λ e. absurd (stays_down stops.Disk e)), (λ le. omega arith))

module _ (t : Operations) (a : Around) (x : Run) (going : x.stopped ≡ None) (y : Run) (answer : Answer) where
  by_begin : (name : List ℕ) (o : Option Live) → BeginsAs a name o x answer y → AddsNone x y
  by_begin name (Some l) h = keeps_self x y h.1
  by_begin name None h = begin_keeps a.begin a.before a.now name x y h.0 h.2

  by_abort : (o : Option Live) → AbortsAs a o x answer y → AddsNone x y
  by_abort None h = keeps_self x y h.1
  by_abort (Some l) h = abort_keeps a.tail a.before a.now l.transaction x y h.0 h.2

  by_do : (op : Op) (o : Option Live) → DoesAs t a op o x answer y → AddsNone x y
  by_do op None h = keeps_self x y h.1
  by_do op (Some l) h = does_keep t a.begin a.tail a.before a.now l.transaction op x y h.0 h.2

  by_save : (o : Option Live) → SavesAs a o x answer y → AddsNone x y
  by_save None h = keeps_self x y h.1
  by_save (Some l) h = save_keeps a.begin a.before a.now l.transaction x y h.0 h.2

  by_back : (mark : ℕ) (o : Option Live) → BacksAs a mark o x answer y → AddsNone x y
  by_back mark None h = keeps_self x y h.1
  by_back mark (Some l) h = back_keeps a.tail a.before a.now l.transaction mark x y h.0 h.2

  by_marking : (name : List ℕ) (marking : Marking) → MarkingBy a name x marking answer y → AddsNone x y
  by_marking name markings.Save h = by_save (live_named x.so_far.live name) h
  by_marking name (markings.Back mark) h = by_back mark (live_named x.so_far.live name) h

  by_commit : (name : List ℕ) (o : Option Live) → live_named x.so_far.live name ≡ o → CommitsAs a o x answer y → AddsOf x o y
  by_commit name None is h = let k = keeps_self x y h.1 in (k.first, inl k.commits, (λ e. k.commits), (λ le. (let same = k.answered in omega (arith, same))))
  by_commit name (Some l) is h = commit_adds a.tail a.before a.now l x y h.0 going (find_live name x.so_far.live l is) h.2

  by_request : (name : List ℕ) (request : Request) → RequestBy t a name x request answer y → AddsItsOwn x (Other (Of name request)) y
  by_request name Begin h = kept x y (Other (Of name Begin)) refl (by_begin name (live_named x.so_far.live name) h)
  by_request name Commit h = let p = by_commit name (live_named x.so_far.live name) refl h in record { first = p.0; either = p.1; done = p.2; answered = p.3 }
  by_request name Abort h = kept x y (Other (Of name Abort)) refl (by_abort (live_named x.so_far.live name) h)
  by_request name (Do op) h = kept x y (Other (Of name (Do op))) refl (by_do op (live_named x.so_far.live name) h)

  pub adds_its_own : (line : Line) → LineBy t a x line answer y → AddsItsOwn x line y
  adds_its_own (OfStore upkeep) h = kept x y (OfStore upkeep) refl (upkeep_keeps a upkeep x y h.0 h.2)
  adds_its_own (OfMarks name marking) h = kept x y (OfMarks name marking) refl (by_marking name marking (subst (λ (s : Option Stop). MarkingUnlessStopped a name s x marking answer y) going h))
  adds_its_own (Other Blank) h = kept x y (Other Blank) refl (keeps_self x y h.1)
  adds_its_own (Other Wrong) h = kept x y (Other Wrong) refl (keeps_self x y h.1)
  adds_its_own (Other (Of name request)) h = by_request name request (subst (λ (s : Option Stop). UnlessStopped t a name s x request answer y) going h)

first_with : (x : Run) (o : Option Live) → (with_commit_of x o).so_far.first ≡ x.so_far.first
first_with x None = refl
first_with x (Some l) = refl

first_with_its : (x : Run) (line : Line) → (with_its_commit x line).so_far.first ≡ x.so_far.first
first_with_its x (OfStore upkeep) = refl
first_with_its x (OfMarks name marking) = refl
first_with_its x (Other Blank) = refl
first_with_its x (Other Wrong) = refl
first_with_its x (Other (Of name Begin)) = refl
first_with_its x (Other (Of name Commit)) = first_with x (live_named x.so_far.live name)
first_with_its x (Other (Of name Abort)) = refl
first_with_its x (Other (Of name (Do op))) = refl

-- so many commits more
abbrev More : Run → Run → Type 0
More x y = (more : List (List Event)) × (y.so_far.commits ≡ x.so_far.commits ++ more) × (length more ≤ 1)

none_more : (x y : Run) → y.so_far.commits ≡ x.so_far.commits → More x y
none_more x y e = ([], e ∙ sym (append-nil x.so_far.commits), omega arith)

more_with : (x : Run) (o : Option Live) → More x (with_commit_of x o)
more_with x None = none_more x x refl
more_with x (Some l) = (filter (is_own l.transaction) x.so_far.history ∷ [], refl, omega arith)

pub more_with_its : (x : Run) (line : Line) → More x (with_its_commit x line)
more_with_its x (OfStore upkeep) = none_more x x refl
more_with_its x (OfMarks name marking) = none_more x x refl
more_with_its x (Other Blank) = none_more x x refl
more_with_its x (Other Wrong) = none_more x x refl
more_with_its x (Other (Of name Begin)) = none_more x x refl
more_with_its x (Other (Of name Commit)) = more_with x (live_named x.so_far.live name)
more_with_its x (Other (Of name Abort)) = none_more x x refl
more_with_its x (Other (Of name (Do op))) = none_more x x refl

module _ (t : Operations) where
  -- the objects by the first ones and the commits
  pub same_objects : (x y : Run) → y.so_far.first ≡ x.so_far.first → y.so_far.commits ≡ x.so_far.commits → committed_objects t y ≡ committed_objects t x
  same_objects x y first commits = ap (λ (cs : List (List Event)). run (step t) y.so_far.first (in_order cs)) commits ∙ ap (λ (s : Objects). run (step t) s (in_order x.so_far.commits)) first

  -- all of them
  pub after_all : (x : Run) → objects_after t (length x.so_far.commits) x ≡ committed_objects t x
  after_all x = ap (λ (cs : List (List Event)). run (step t) x.so_far.first (in_order cs)) (take-length x.so_far.commits)

  -- the objects after so many commits as there were
  pub as_before : (x y : Run) (more : List (List Event)) → y.so_far.first ≡ x.so_far.first → y.so_far.commits ≡ x.so_far.commits ++ more → objects_after t (length x.so_far.commits) y ≡ committed_objects t x
  as_before x y more first commits =
      ap (λ (cs : List (List Event)). run (step t) y.so_far.first (in_order cs)) (ap (λ (cs : List (List Event)). take (length x.so_far.commits) cs) commits ∙ take-append_seam x.so_far.commits more) ∙ ap (λ (s : Objects). run (step t) s (in_order x.so_far.commits)) first

module _ (t : Operations) (g : Ground) (v : View g) (k : Core) (x : Run) (line : Line) (answer : Answer) (w : View g) (m : Core) (shows : Shows t g v k x) (running : k.store.stopped ≡ None) (a : Around) (h : Goes t g v x line answer w m) (by : LineBy t a x line answer h.after) where
  going : x.stopped ≡ None
  going = sym shows.store.stopped ∙ running

  all_answered : x.so_far.answered ≡ length x.so_far.commits
  all_answered = (shows.store.runs going).is_kept.answered

  own : AddsItsOwn x line h.after
  own = adds_its_own t a x going h.after answer line by

  -- all commits of the run after the line
  whole : (c : Image) (n : ℕ) → n ≡ length h.after.so_far.commits → StandsFor t g c (objects_after t n h.after) → StandsFor t g c (committed_objects t h.after)
  whole c n all stand = subst (StandsFor t g c) (ap (λ (i : ℕ). objects_after t i h.after) all ∙ after_all t h.after) stand

  with_its : h.after.so_far.commits ≡ (with_its_commit x line).so_far.commits → committed_objects t h.after ≡ committed_objects t (with_its_commit x line)
  with_its same_commits = same_objects t (with_its_commit x line) h.after (own.first ∙ sym (first_with_its x line)) same_commits

  before_or_with : (c : Image) → StandsForFirst t g x.so_far.answered h.after c → StandsFor t g c (committed_objects t x) ⊎ StandsFor t g c (committed_objects t (with_its_commit x line))
  before_or_with c s = by_commits own.either
    where
      by_count : h.after.so_far.commits ≡ (with_its_commit x line).so_far.commits → (b : Bool) → nat_le s.commits (length x.so_far.commits) ≡ b → StandsFor t g c (committed_objects t x) ⊎ StandsFor t g c (committed_objects t (with_its_commit x line))
      by_count same_commits true e =
          let below : s.commits ≤ length x.so_far.commits = grind (arith, nat_tests, e) in
          let here : s.commits ≡ length x.so_far.commits = omega (arith, s.enough, all_answered, below) in
          let p = more_with_its x line in
          inl (subst (StandsFor t g c) (ap (λ (i : ℕ). objects_after t i h.after) here ∙ as_before t x h.after p.0 own.first (same_commits ∙ p.1)) s.stands)
      by_count same_commits false e =
          let p = more_with_its x line in
          let above : length x.so_far.commits + 1 ≤ s.commits = grind (arith, nat_tests, e) in
          let long : length h.after.so_far.commits ≡ length x.so_far.commits + length p.0 = ap length (same_commits ∙ p.1) ∙ length-append x.so_far.commits p.0 in
          let all : s.commits ≡ length h.after.so_far.commits = omega (arith, above, s.most, long, p.2) in
          inr (subst (StandsFor t g c) (with_its same_commits) (whole c s.commits all s.stands))

      by_commits : (h.after.so_far.commits ≡ x.so_far.commits) ⊎ (h.after.so_far.commits ≡ (with_its_commit x line).so_far.commits) → StandsFor t g c (committed_objects t x) ⊎ StandsFor t g c (committed_objects t (with_its_commit x line))
      by_commits (inl same_commits) =
          let here : s.commits ≡ length x.so_far.commits = omega (arith, s.enough, s.most, all_answered, ap length same_commits) in
          inl (subst (StandsFor t g c) (ap (λ (i : ℕ). objects_after t i h.after) here ∙ as_before t x h.after [] own.first (same_commits ∙ sym (append-nil x.so_far.commits))) s.stands)
      by_commits (inr same_commits) = by_count same_commits (nat_le s.commits (length x.so_far.commits)) refl

  own_there : m.store.stopped ≡ None → (c : Image) → Leaves w.disk.now c → StandsFor t g c (committed_objects t (with_its_commit x line))
  own_there on c leaves =
      let still : h.after.stopped ≡ None = sym h.shows.store.stopped ∙ on in
      let s : StandsForFirst t g h.after.so_far.answered h.after c = h.shows.store.images c leaves in
      let all : h.after.so_far.answered ≡ length h.after.so_far.commits = (h.shows.store.runs still).is_kept.answered in
      subst (StandsFor t g c) (with_its (own.done still)) (whole c s.commits (omega (arith, s.enough, s.most, all)) s.stands)

  pub one_line : OneLine t g v x line w m.store.stopped
  one_line = record { moments = weaker h.moments before_or_with; kept = own_there }
