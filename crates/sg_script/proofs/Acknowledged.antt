-- All commits but the last were acknowledged.
use Rattle.std.proofs.Common.{◌≡◌, ⊎_elim, ℕ, ◌+◌, ◌≤◌, List, [], ◌∷◌, ◌++◌, length, Option, Some, None, Result, refl, sym, ap, ◌∙◌, subst, arith, length-append}
use Rattle.std.specs.Prelude.{Ok, Err}
use Rattle.std.specs.List.{filter}
use Rattle.sg_ops.specs.Table.{Table as Operations}
use Rattle.sg_serial.specs.Runs.{Live, is_own}
use Rattle.sg_model.specs.declared.stop.Stop.{Stop}
use Rattle.sg_model.specs.declared.stop.Stop.TheVariants as stops
use Rattle.sg_words.specs.Answers.{Answer}
use Rattle.sg_words.specs.Requests.Asked.{Blank, Wrong, Of}
use Rattle.sg_words.specs.Requests.Request.{Begin, Commit, Abort, Do}
use Rattle.sg_run.specs.Run.{Run, live_named}
use Rattle.sg_run.specs.Named.{answer_done}
use Rattle.sg_run.specs.Numbers.{Refusal, Commits, stopped_in, at_log_end}
use Rattle.sg_run.specs.Numbers.Refusal.{Stopped, NoTransaction, TooManyLive, Busy, LocksFull, Because, NoSpace, NoBands, LogEnd, Memory, Disk}
use Rattle.sg_run.specs.Stocked.{Around}
use Rattle.sg_session.specs.Lines.{Line, LineBy, CommitsAs, UnlessStopped, line_of}
use Rattle.sg_session.specs.Lines.Line.{OfStore, OfMarks, Other}
use Rattle.sg_session.specs.OneLine.{with_its_commit}
use Rattle.sg_session.proofs.Commits.{adds_its_own}
use Rattle.sg_script.specs.declared.script.RunEnd as code_end
use Rattle.sg_script.specs.declared.script.RunEnd.TheVariants as ends
use Rattle.sg_script.specs.Script.{Span, Lines}
use Rattle.sg_script.specs.Ending.{IsHeard}
use Rattle.sg_script.specs.Course.{acks, acknowledged}
use Rattle.sg_script.proofs.Executing.{line_stays}

-- what a line does to the list of commits, where so many of them were acknowledged
record Step (n : ℕ) (x m : Run) : Type 0 where
  most : length m.so_far.commits ≤ length x.so_far.commits + 1
  running : m.stopped ≡ None → length m.so_far.commits ≤ length x.so_far.commits + n

step_same : (n : ℕ) (x m : Run) → m.so_far.commits ≡ x.so_far.commits → Step n x m
step_same n x m e = (let same = ap length e in record { most = omega (arith, same); running = λ r. omega (arith, same) })

step_self : (n : ℕ) (x m : Run) → m ≡ x → Step n x m
step_self n x m e = step_same n x m (ap (λ (r : Run). r.so_far.commits) e)

never : {A : Type 0} (why : Stop) → Some why ≡ None → A
never why e = absurd (cc)

step_down : (n : ℕ) (x m y : Run) (why : Stop) (l : Live) → m ≡ y → y.stopped ≡ Some why → y.so_far.commits ≡ x.so_far.commits ++ filter (is_own l.transaction) x.so_far.history ∷ [] → Step n x m
step_down n x m y why l e stopped commits =
    let long = ap (λ (r : Run). length r.so_far.commits) e ∙ (ap length commits ∙ length-append x.so_far.commits (filter (is_own l.transaction) x.so_far.history ∷ [])) in
    record { most = omega (arith, long); running = λ r. never why (sym (ap (λ (q : Run). q.stopped) e ∙ stopped) ∙ r) }

commit_step : (name : List ℕ) (tail before now : ℕ) (l : Live) (x y : Run) (answer : Answer) (r : Result (Unit {0}) Refusal) → answer ≡ answer_done x.so_far.live r → Commits tail before now l.transaction x r y → Step (acks (Other (Of name Commit)) answer) x y
commit_step name tail before now l x y answer (Ok done) is h =
    let long = ap (λ (r : Run). length r.so_far.commits) h.2 ∙ length-append x.so_far.commits (filter (is_own l.transaction) x.so_far.history ∷ []) in
    subst (λ (a : Answer). Step (acks (Other (Of name Commit)) a) x y) (sym is) (record { most = omega (arith, long); running = λ e. omega (arith, long) })
commit_step name tail before now l x y answer (Err Stopped) is h = step_self _ x y h.1
commit_step name tail before now l x y answer (Err NoTransaction) is h = step_self _ x y h.2
commit_step name tail before now l x y answer (Err TooManyLive) is h = absurd h
commit_step name tail before now l x y answer (Err (Busy holder)) is h = absurd h
commit_step name tail before now l x y answer (Err LocksFull) is h = absurd h
commit_step name tail before now l x y answer (Err (Because reason)) is h = absurd h
commit_step name tail before now l x y answer (Err (NoSpace free reserved need)) is h = absurd h
commit_step name tail before now l x y answer (Err (NoBands free need)) is h = absurd h
commit_step name tail before now l x y answer (Err LogEnd) is h = step_down _ x y (at_log_end x l.transaction) stops.LogEnd l h.2 refl refl
commit_step name tail before now l x y answer (Err Memory) is h = absurd h
commit_step name tail before now l x y answer (Err Disk) is h = step_down _ x y (stopped_in x l.transaction) stops.Disk l h.2 refl refl

commits_step : (name : List ℕ) (a : Around) (o : Option Live) (x y : Run) (answer : Answer) → CommitsAs a o x answer y → Step (acks (Other (Of name Commit)) answer) x y
commits_step name a None x y answer h = step_self _ x y h.1
commits_step name a (Some l) x y answer h = commit_step name a.tail a.before a.now l x y answer h.0 h.1 h.2

-- every other line leaves the commits
module _ (t : Operations) (a : Around) (x y : Run) (answer : Answer) where
  other_step : (n : ℕ) (line : Line) → with_its_commit x line ≡ x → x.stopped ≡ None → LineBy t a x line answer y → Step n x y
  other_step n line e going h = step_same n x y (⊎_elim (λ same. same) (λ same. same ∙ ap (λ (r : Run). r.so_far.commits) e) (adds_its_own t a x going y answer line h).either)

  going_step : (line : Line) → x.stopped ≡ None → LineBy t a x line answer y → Step (acks line answer) x y
  going_step (OfStore upkeep) going h = other_step _ (OfStore upkeep) refl going h
  going_step (OfMarks name marking) going h = other_step _ (OfMarks name marking) refl going h
  going_step (Other Blank) going h = other_step _ (Other Blank) refl going h
  going_step (Other Wrong) going h = other_step _ (Other Wrong) refl going h
  going_step (Other (Of name Begin)) going h = other_step _ (Other (Of name Begin)) refl going h
  going_step (Other (Of name Commit)) going h = commits_step name a (live_named x.so_far.live name) x y answer (subst (λ (s : Option Stop). UnlessStopped t a name s x Commit answer y) going h)
  going_step (Other (Of name Abort)) going h = other_step _ (Other (Of name Abort)) refl going h
  going_step (Other (Of name (Do op))) going h = other_step _ (Other (Of name (Do op))) refl going h

  line_step : (line : Line) → LineBy t a x line answer y → (s : Option Stop) → x.stopped ≡ s → Step (acks line answer) x y
  line_step line h None e = going_step line e h
  line_step line h (Some why) e = step_self _ x y (line_stays t a x y why e line answer h)

module _ (t : Operations) (s : Span) where
  -- lines of a run that has stopped
  lines_stay : (x y : Run) (why : Stop) (lines : List (List ℕ)) (answers : List Answer) → x.stopped ≡ Some why → Lines t s x lines answers y → y ≡ x
  lines_stay x y why [] [] e h = h
  lines_stay x y why [] (a ∷ answers) e h = absurd h
  lines_stay x y why (l ∷ lines) [] e h = absurd h
  lines_stay x y why (l ∷ lines) (a ∷ answers) e h =
      let same = line_stays t h.0 x h.2 why e (line_of l) a h.3 in
      lines_stay h.2 y why lines answers (ap (λ (r : Run). r.stopped) same ∙ e) h.4 ∙ same

  all_step : (x y : Run) (lines : List (List ℕ)) (answers : List Answer) → Lines t s x lines answers y → length y.so_far.commits ≤ length x.so_far.commits + acknowledged lines answers + 1
  all_step x y [] [] h = (let same = ap (λ (r : Run). length r.so_far.commits) h in omega (arith, same))
  all_step x y [] (a ∷ answers) h = absurd h
  all_step x y (l ∷ lines) [] h = absurd h
  all_step x y (l ∷ lines) (a ∷ answers) h = by_stop h.2.stopped refl (all_step h.2 y lines answers h.4)
    where
      one : Step (acks (line_of l) a) x h.2
      one = line_step t h.0 x h.2 a (line_of l) h.3 x.stopped refl

      by_stop : (o : Option Stop) → h.2.stopped ≡ o → length y.so_far.commits ≤ length h.2.so_far.commits + acknowledged lines answers + 1 → length y.so_far.commits ≤ length x.so_far.commits + (acks (line_of l) a + acknowledged lines answers) + 1
      by_stop None e rest = (let here = one.running e in omega (arith, here, rest))
      by_stop (Some why) e rest = (let same = ap (λ (r : Run). length r.so_far.commits) (lines_stay h.2 y why lines answers e h.4) in let here = one.most in omega (arith, same, here))

  -- without the last answer
  cut_step : (x y : Run) (lines : List (List ℕ)) (heard : List Answer) (last : Answer) → Lines t s x lines (heard ++ last ∷ []) y → length y.so_far.commits ≤ length x.so_far.commits + acknowledged lines heard + 1
  cut_step x y [] [] last h = absurd h
  cut_step x y [] (a ∷ heard) last h = absurd h
  cut_step x y (l ∷ []) [] last h = (let one = line_step t h.0 x h.2 last (line_of l) h.3 x.stopped refl in let most = one.most in let same = ap (λ (r : Run). length r.so_far.commits) h.4 in omega (arith, most, same))
  cut_step x y (l ∷ m ∷ lines) [] last h = absurd h.4
  cut_step x y (l ∷ lines) (a ∷ heard) last h = by_stop h.2.stopped refl (cut_step h.2 y lines heard last h.4)
    where
      one : Step (acks (line_of l) a) x h.2
      one = line_step t h.0 x h.2 a (line_of l) h.3 x.stopped refl

      by_stop : (o : Option Stop) → h.2.stopped ≡ o → length y.so_far.commits ≤ length h.2.so_far.commits + acknowledged lines heard + 1 → length y.so_far.commits ≤ length x.so_far.commits + (acks (line_of l) a + acknowledged lines heard) + 1
      by_stop None e rest = (let here = one.running e in omega (arith, here, rest))
      by_stop (Some why) e rest = (let same = ap (λ (r : Run). length r.so_far.commits) (lines_stay h.2 y why lines (heard ++ last ∷ []) e h.4) in let here = one.most in omega (arith, same, here))

  pub one_more : (end : code_end.RunEnd) (first now : Option (List ℕ)) (x y : Run) (lines : List (List ℕ)) (answers heard : List Answer) → Lines t s x lines answers y → IsHeard end first now answers heard → length y.so_far.commits ≤ length x.so_far.commits + acknowledged lines heard + 1
  one_more ends.Done first now x y lines answers heard h took = subst (λ (said : List Answer). length y.so_far.commits ≤ length x.so_far.commits + acknowledged lines said + 1) (sym took.0) (all_step x y lines answers h)
  one_more ends.Read first now x y lines answers heard h took = subst (λ (said : List Answer). length y.so_far.commits ≤ length x.so_far.commits + acknowledged lines said + 1) (sym took.0) (all_step x y lines answers h)
  one_more ends.TooLong first now x y lines answers heard h took = subst (λ (said : List Answer). length y.so_far.commits ≤ length x.so_far.commits + acknowledged lines said + 1) (sym took.0) (all_step x y lines answers h)
  one_more ends.Write first now x y lines answers heard h took = cut_step x y lines heard took.last (subst (λ (said : List Answer). Lines t s x lines said y) took.all h)
