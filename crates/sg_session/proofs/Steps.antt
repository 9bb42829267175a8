-- How each line goes, by what the call of the store comes to.
use Rattle.std.proofs.Common.{◌≡◌, ℕ, ◌≤◌, true, false, List, [], ◌∷◌, ◌++◌, length, Option, Some, None, refl, sym, ap, ◌∙◌, subst, arith}
use Rattle.std.specs.Prelude.{Vec, Ok, Err, IsSome, nat_le, is_some}
use Rattle.std.specs.Option.{option_map}
use Rattle.std.proofs.lemmas.Bool.Decides.{nat_tests}
use Rattle.sg_base.specs.declared.numbers.TxnId.{TxnId}
use Rattle.sg_disk.proofs.Moments.{started}
use Rattle.sg_ops.specs.Table.{Table as Operations}
use Rattle.sg_serial.specs.Runs.{Live, Mark, nth_mark, without}
use Rattle.sg_model.specs.declared.stop.Stop.{Stop}
use Rattle.sg_model.specs.declared.op.Reply as code_reply
use Rattle.sg_model.specs.SaidReplies.{said_reply}
use Rattle.sg_model.specs.Verb.{Op}
use Rattle.sg_model.specs.Verb.Reply.{Done, Number, Several}
use Rattle.sg_words.specs.Answers.{Answer}
use Rattle.sg_words.specs.Answers.Answer.{Silent, BadSyntax, Stopped, NoTransaction, IsLive, TooManyLive, Said}
use Rattle.sg_words.specs.Requests.{Request}
use Rattle.sg_words.specs.Requests.Asked.{Blank, Wrong, Of}
use Rattle.sg_words.specs.Requests.Request.{Begin, Commit, Abort, Do}
use Rattle.sg_words.specs.declared.marking.Marking.{Marking}
use Rattle.sg_words.specs.declared.marking.Marking.TheVariants as markings
use Rattle.sg_words.specs.declared.upkeep.Upkeep.{Upkeep}
use Rattle.sg_words.specs.declared.upkeep.Upkeep.TheVariants as upkeeps
use Rattle.sg_core.specs.Live as core
use Rattle.sg_room.specs.Bounds.{Sizes}
use Rattle.sg_room.specs.Lines.{committed}
use Rattle.sg_room.specs.Steps.{RunStock, backed}
use Rattle.sg_run.specs.Run.{Run, live_named, live_objects, marks_of}
use Rattle.sg_run.specs.Numbers.Refusal.{TooManyLive as AreTooMany, Stopped as HasStopped}
use Rattle.sg_run.specs.Named.{answer_to}
use Rattle.sg_run.specs.Named as with_names
use Rattle.sg_run.specs.Numbers.{MarkRefusal, IsListing}
use Rattle.sg_run.specs.Stocked.{Stocked, Around, AreNumbers}
use Rattle.sg_store.specs.declared.fault.MarkRefused.{MarkRefused}
use Rattle.sg_store.specs.declared.fault.Refused.{Refused}
use Rattle.sg_store.specs.Refusals.{said_refusal, said_why}
use Rattle.sg_store.specs.Ground.{Ground, IsLawful}
use Rattle.sg_store.specs.Engine.{View}
use Rattle.sg_store.specs.Room.{ShowsStock, LeavesRoom, LeadsStock, is_of, is_behind}
use Rattle.sg_store.specs.Stock.{LeavesStock, NeedsByStock}
use Rattle.sg_store.specs.Stands.{StandsForFirst}
use Rattle.sg_store.specs.Calls as calls
use Rattle.sg_store.specs.Store as stores
use Rattle.sg_store.proofs.Returning.{mark_at}
use Rattle.sg_session.specs.Lines.{Line, LineBy, RequestBy, UnlessStopped, BeginsAs, CommitsAs, AbortsAs, DoesAs, SavesAs, BacksAs, MarkingBy, MarkingUnlessStopped, answer_mark}
use Rattle.sg_session.specs.Lines.Line.{OfStore, OfMarks, Other}
use Rattle.sg_session.specs.Stocked.{StockedLine, SavesStockedAs, BacksStockedAs, MarkingStocked, backed_behind}
use Rattle.sg_session.specs.declared.names.Named as code_named
use Rattle.sg_session.specs.Names.{live_of, unmarked, all_unmarked, IsNamed, IsNamedAtMark}
use Rattle.sg_session.specs.Shows.{Core, Shows}
use Rattle.sg_session.specs.Goes.{around, Goes}
use Rattle.sg_session.proofs.Named as named
use Rattle.sg_session.proofs.Unmarked.{by_name, as_many, answer_unmarked, mark_unmarked, named_unmarked, mark_named_unmarked}
use Rattle.sg_session.proofs.Stocking as stocking
use Rattle.sg_session.proofs.Stocking.{with_stock}

pub none_of : (s : Option Stop) → is_some s ≡ false → s ≡ None
none_of None e = refl
none_of (Some why) e = absurd (cc)

some_of : (s : Option Stop) → is_some s ≡ true → IsSome s
some_of s e = e

-- a way back that is refused undoes nothing
same_behind : (u : ℕ) (o : Option Mark) (why : MarkRefusal) (r : RunStock) → r ≡ backed_behind u o (Err why) r
same_behind u None why r = refl
same_behind u (Some m) why r = refl

-- A line of a transaction goes by its number alone, and not by its marks

begin_marked : (a : Around) (name : List ℕ) (x : Run) (answer : Answer) (y : Run) (o : Option Live) → BeginsAs a name (option_map unmarked o) x answer y → BeginsAs a name o x answer y
begin_marked a name x answer y None h = h
begin_marked a name x answer y (Some l) h = h

commit_marked : (a : Around) (x : Run) (answer : Answer) (y : Run) (o : Option Live) → CommitsAs a (option_map unmarked o) x answer y → CommitsAs a o x answer y
commit_marked a x answer y None h = h
commit_marked a x answer y (Some l) h = h

abort_marked : (a : Around) (x : Run) (answer : Answer) (y : Run) (o : Option Live) → AbortsAs a (option_map unmarked o) x answer y → AbortsAs a o x answer y
abort_marked a x answer y None h = h
abort_marked a x answer y (Some l) h = h

do_marked : (t : Operations) (a : Around) (op : Op) (x : Run) (answer : Answer) (y : Run) (o : Option Live) → DoesAs t a op (option_map unmarked o) x answer y → DoesAs t a op o x answer y
do_marked t a op x answer y None h = h
do_marked t a op x answer y (Some l) h = h

save_marked : (a : Around) (x : Run) (answer : Answer) (y : Run) (o : Option Live) → SavesAs a (option_map unmarked o) x answer y → SavesAs a o x answer y
save_marked a x answer y None h = h
save_marked a x answer y (Some l) h = h

back_marked : (a : Around) (mark : ℕ) (x : Run) (answer : Answer) (y : Run) (o : Option Live) → BacksAs a mark (option_map unmarked o) x answer y → BacksAs a mark o x answer y
back_marked a mark x answer y None h = h
back_marked a mark x answer y (Some l) h = h

begin_stocked : (a : Around) (name : List ℕ) (x : Stocked) (answer : Answer) (y : Stocked) (o : Option Live) → with_names.BeginsAs a name (option_map unmarked o) x answer y → with_names.BeginsAs a name o x answer y
begin_stocked a name x answer y None h = h
begin_stocked a name x answer y (Some l) h = h

commit_stocked : (a : Around) (x : Stocked) (answer : Answer) (y : Stocked) (o : Option Live) → with_names.CommitsAs a (option_map unmarked o) x answer y → with_names.CommitsAs a o x answer y
commit_stocked a x answer y None h = h
commit_stocked a x answer y (Some l) h = h

abort_stocked : (a : Around) (x : Stocked) (answer : Answer) (y : Stocked) (o : Option Live) → with_names.AbortsAs a (option_map unmarked o) x answer y → with_names.AbortsAs a o x answer y
abort_stocked a x answer y None h = h
abort_stocked a x answer y (Some l) h = h

do_stocked : (t : Operations) (z : Sizes) (a : Around) (op : Op) (x : Stocked) (answer : Answer) (y : Stocked) (o : Option Live) → with_names.DoesAs t z a op (option_map unmarked o) x answer y → with_names.DoesAs t z a op o x answer y
do_stocked t z a op x answer y None h = h
do_stocked t z a op x answer y (Some l) h = h

save_stocked : (a : Around) (x : Stocked) (answer : Answer) (y : Stocked) (o : Option Live) → SavesStockedAs a (option_map unmarked o) x answer y → SavesStockedAs a o x answer y
save_stocked a x answer y None h = h
save_stocked a x answer y (Some l) h = h

back_stocked : (a : Around) (mark : ℕ) (x : Stocked) (answer : Answer) (y : Stocked) (o : Option Live) → BacksStockedAs a mark (option_map unmarked o) x answer y → BacksStockedAs a mark o x answer y
back_stocked a mark x answer y None h = h
back_stocked a mark x answer y (Some l) h = h

module _ (t : Operations) (g : Ground) (v : View g) (x : Run) where
  -- a stock that was shown is led on by a call
  record Led (w : View g) (m : stores.Core) (line : Line) (answer : Answer) (Call : Run → Type 0) (r : RunStock) : Type 0 where
    after : RunStock
    goes : (y : Run) → Call y → StockedLine t g.sizes (around v w) (with_stock x r) line answer (with_stock y after)
    shows : m.stopped ≡ None → ShowsStock t g w after

  -- or left alone
  alone : (w : View g) (m : stores.Core) (line : Line) (answer : Answer) (Call : Run → Type 0) → (m.stopped ≡ None → LeavesStock t g v w)
      → (NeedsByStock t g → (r : RunStock) → ShowsStock t g v r → (y : Run) → Call y → StockedLine t g.sizes (around v w) (with_stock x r) line answer (with_stock y r))
      → NeedsByStock t g → (r : RunStock) → ShowsStock t g v r → Led w m line answer Call r
  alone w m line answer Call left by by_stock r shown = record { after = r; goes = by by_stock r shown; shows = λ none. left none r shown }

  -- a call of the store leads to what the session then shows
  from_store : (w : View g) (m : stores.Core) (names : List Live) (line : Line) (answer : Answer) (Call : Run → Type 0) → calls.Goes t g v x Call w m
      → ((y : Run) → Call y → LineBy t (around v w) x line answer y) → ((y : Run) → Call y → names ≡ all_unmarked y.so_far.live) → (NeedsByStock t g → (r : RunStock) → ShowsStock t g v r → Led w m line answer Call r)
      → Goes t g v x line answer w (record { store = m; names = names })
  from_store w m names line answer Call h by are stock = record {
    after = h.after;
    line_goes = by h.after h.goes;
    stocked = λ by_stock r shown. (let l = stock by_stock r shown in record { after = l.after; goes = l.goes h.after h.goes; shows = l.shows });
    shows = record { store = h.shows; names = λ e. are h.after h.goes };
    moments = h.moments;
  }

  -- a line of a transaction where the store hasn't stopped
  unless : (a : Around) (name : List ℕ) (request : Request) (answer : Answer) (y : Run) → x.stopped ≡ None → RequestBy t a name x request answer y → UnlessStopped t a name x.stopped x request answer y
  unless a name request answer y e h = subst (λ (s : Option Stop). UnlessStopped t a name s x request answer y) (sym e) h

  unless_so : (a : Around) (name : List ℕ) (request : Request) (answer : Answer) (r : RunStock) (y : Stocked) → x.stopped ≡ None → with_names.RequestOf t g.sizes a name (with_stock x r) request answer y
      → with_names.UnlessStopped t g.sizes a name x.stopped (with_stock x r) request answer y
  unless_so a name request answer r y e h = subst (λ (s : Option Stop). with_names.UnlessStopped t g.sizes a name s (with_stock x r) request answer y) (sym e) h

  -- the same of its marks
  unless_marked : (a : Around) (name : List ℕ) (marking : Marking) (answer : Answer) (y : Run) → x.stopped ≡ None → MarkingBy a name x marking answer y → MarkingUnlessStopped a name x.stopped x marking answer y
  unless_marked a name marking answer y e h = subst (λ (s : Option Stop). MarkingUnlessStopped a name s x marking answer y) (sym e) h

  unless_marked_so : (a : Around) (name : List ℕ) (marking : Marking) (answer : Answer) (r : RunStock) (y : Stocked) → x.stopped ≡ None → MarkingStocked a name None (with_stock x r) marking answer y → MarkingStocked a name x.stopped (with_stock x r) marking answer y
  unless_marked_so a name marking answer r y e h = subst (λ (s : Option Stop). MarkingStocked a name s (with_stock x r) marking answer y) (sym e) h

  module _ (k : Core) (shows : Shows t g v k x) where
    same : (line : Line) (answer : Answer) → LineBy t (around v v) x line answer x → ((r : RunStock) → StockedLine t g.sizes (around v v) (with_stock x r) line answer (with_stock x r)) → Goes t g v x line answer v k
    same line answer h so = record { after = x; line_goes = h; stocked = λ by_stock r shown. record { after = r; goes = so r; shows = λ none. shown }; shows = shows; moments = started v.disk (StandsForFirst t g x.so_far.answered x) shows.store.images }

    pub silent : Goes t g v x (Other Blank) Silent v k
    silent = same (Other Blank) Silent (refl, refl) (λ r. (refl, refl))

    pub bad_syntax : Goes t g v x (Other Wrong) BadSyntax v k
    bad_syntax = same (Other Wrong) BadSyntax (refl, refl) (λ r. (refl, refl))

    by_stop : (a : Around) (name : List ℕ) (request : Request) (s : Option Stop) → is_some s ≡ true → UnlessStopped t a name s x request Stopped x
    by_stop a name request None e = absurd (cc)
    by_stop a name request (Some why) e = (refl, refl)

    by_stop_so : (a : Around) (name : List ℕ) (request : Request) (r : RunStock) (s : Option Stop) → is_some s ≡ true → with_names.UnlessStopped t g.sizes a name s (with_stock x r) request Stopped (with_stock x r)
    by_stop_so a name request r None e = absurd (cc)
    by_stop_so a name request r (Some why) e = (refl, refl)

    pub has_stopped : (name : List ℕ) (request : Request) → is_some k.store.stopped ≡ true → Goes t g v x (Other (Of name request)) Stopped v k
    has_stopped name request e = same (Other (Of name request)) Stopped (by_stop (around v v) name request x.stopped (ap is_some (sym shows.store.stopped) ∙ e))
        (λ r. by_stop_so (around v v) name request r x.stopped (ap is_some (sym shows.store.stopped) ∙ e))

    pub upkeep_stopped : (upkeep : Upkeep) → is_some k.store.stopped ≡ true → Goes t g v x (OfStore upkeep) Stopped v k
    upkeep_stopped upkeeps.Flush e =
        let some = some_of x.stopped (ap is_some (sym shows.store.stopped) ∙ e) in
        same (OfStore upkeeps.Flush) Stopped (Err HasStopped, refl, (some, refl)) (λ r. (Err HasStopped, refl, record { line = (some, refl); stock = refl }))
    upkeep_stopped upkeeps.Checkpoint e =
        let some = some_of x.stopped (ap is_some (sym shows.store.stopped) ∙ e) in
        same (OfStore upkeeps.Checkpoint) Stopped (Err HasStopped, refl, (some, refl)) (λ r. (Err HasStopped, refl, record { line = (some, refl); stock = refl }))
    upkeep_stopped upkeeps.Truncate e =
        let some = some_of x.stopped (ap is_some (sym shows.store.stopped) ∙ e) in
        same (OfStore upkeeps.Truncate) Stopped (Err HasStopped, refl, (some, refl)) (λ r. (Err HasStopped, refl, record { line = (some, refl); stock = refl }))

    marks_by_stop : (a : Around) (name : List ℕ) (marking : Marking) (s : Option Stop) → is_some s ≡ true → MarkingUnlessStopped a name s x marking Stopped x
    marks_by_stop a name marking None e = absurd (cc)
    marks_by_stop a name marking (Some why) e = (refl, refl)

    marks_by_stop_so : (a : Around) (name : List ℕ) (marking : Marking) (r : RunStock) (s : Option Stop) → is_some s ≡ true → MarkingStocked a name s (with_stock x r) marking Stopped (with_stock x r)
    marks_by_stop_so a name marking r None e = absurd (cc)
    marks_by_stop_so a name marking r (Some why) e = (refl, refl)

    pub marks_stopped : (name : List ℕ) (marking : Marking) → is_some k.store.stopped ≡ true → Goes t g v x (OfMarks name marking) Stopped v k
    marks_stopped name marking e = same (OfMarks name marking) Stopped (marks_by_stop (around v v) name marking x.stopped (ap is_some (sym shows.store.stopped) ∙ e))
        (λ r. marks_by_stop_so (around v v) name marking r x.stopped (ap is_some (sym shows.store.stopped) ∙ e))

    module _ (running : k.store.stopped ≡ None) where
      pub going : x.stopped ≡ None
      going = sym shows.store.stopped ∙ running

      names : k.names ≡ all_unmarked x.so_far.live
      names = shows.names going

      -- who has a name
      known : (name : List ℕ) (o : Option Live) → o ≡ live_named k.names name → option_map unmarked (live_named x.so_far.live name) ≡ o
      known name o e = sym (e ∙ (ap (λ (ls : List Live). live_named ls name) names ∙ by_name name x.so_far.live))

      -- a line of a transaction by the live one with its name
      begin_by : (a : Around) (name : List ℕ) (answer : Answer) (y : Run) (o : Option Live) → o ≡ live_named k.names name → BeginsAs a name o x answer y → LineBy t a x (Other (Of name Begin)) answer y
      begin_by a name answer y o e h = unless a name Begin answer y going (begin_marked a name x answer y (live_named x.so_far.live name) (subst (λ (p : Option Live). BeginsAs a name p x answer y) (sym (known name o e)) h))

      commit_by : (a : Around) (name : List ℕ) (answer : Answer) (y : Run) (o : Option Live) → o ≡ live_named k.names name → CommitsAs a o x answer y → LineBy t a x (Other (Of name Commit)) answer y
      commit_by a name answer y o e h = unless a name Commit answer y going (commit_marked a x answer y (live_named x.so_far.live name) (subst (λ (p : Option Live). CommitsAs a p x answer y) (sym (known name o e)) h))

      abort_by : (a : Around) (name : List ℕ) (answer : Answer) (y : Run) (o : Option Live) → o ≡ live_named k.names name → AbortsAs a o x answer y → LineBy t a x (Other (Of name Abort)) answer y
      abort_by a name answer y o e h = unless a name Abort answer y going (abort_marked a x answer y (live_named x.so_far.live name) (subst (λ (p : Option Live). AbortsAs a p x answer y) (sym (known name o e)) h))

      do_by : (a : Around) (name : List ℕ) (op : Op) (answer : Answer) (y : Run) (o : Option Live) → o ≡ live_named k.names name → DoesAs t a op o x answer y → LineBy t a x (Other (Of name (Do op))) answer y
      do_by a name op answer y o e h = unless a name (Do op) answer y going (do_marked t a op x answer y (live_named x.so_far.live name) (subst (λ (p : Option Live). DoesAs t a op p x answer y) (sym (known name o e)) h))

      save_by : (a : Around) (name : List ℕ) (answer : Answer) (y : Run) (o : Option Live) → o ≡ live_named k.names name → SavesAs a o x answer y → LineBy t a x (OfMarks name markings.Save) answer y
      save_by a name answer y o e h = unless_marked a name markings.Save answer y going (save_marked a x answer y (live_named x.so_far.live name) (subst (λ (p : Option Live). SavesAs a p x answer y) (sym (known name o e)) h))

      back_by : (a : Around) (name : List ℕ) (mark : ℕ) (answer : Answer) (y : Run) (o : Option Live) → o ≡ live_named k.names name → BacksAs a mark o x answer y → LineBy t a x (OfMarks name (markings.Back mark)) answer y
      back_by a name mark answer y o e h = unless_marked a name (markings.Back mark) answer y going (back_marked a mark x answer y (live_named x.so_far.live name) (subst (λ (p : Option Live). BacksAs a mark p x answer y) (sym (known name o e)) h))

      -- the same with the stock
      begin_so : (a : Around) (name : List ℕ) (answer : Answer) (r : RunStock) (y : Stocked) (o : Option Live) → o ≡ live_named k.names name → with_names.BeginsAs a name o (with_stock x r) answer y
          → StockedLine t g.sizes a (with_stock x r) (Other (Of name Begin)) answer y
      begin_so a name answer r y o e h = unless_so a name Begin answer r y going (begin_stocked a name (with_stock x r) answer y (live_named x.so_far.live name) (subst (λ (p : Option Live). with_names.BeginsAs a name p (with_stock x r) answer y) (sym (known name o e)) h))

      commit_so : (a : Around) (name : List ℕ) (answer : Answer) (r : RunStock) (y : Stocked) (o : Option Live) → o ≡ live_named k.names name → with_names.CommitsAs a o (with_stock x r) answer y
          → StockedLine t g.sizes a (with_stock x r) (Other (Of name Commit)) answer y
      commit_so a name answer r y o e h = unless_so a name Commit answer r y going (commit_stocked a (with_stock x r) answer y (live_named x.so_far.live name) (subst (λ (p : Option Live). with_names.CommitsAs a p (with_stock x r) answer y) (sym (known name o e)) h))

      abort_so : (a : Around) (name : List ℕ) (answer : Answer) (r : RunStock) (y : Stocked) (o : Option Live) → o ≡ live_named k.names name → with_names.AbortsAs a o (with_stock x r) answer y
          → StockedLine t g.sizes a (with_stock x r) (Other (Of name Abort)) answer y
      abort_so a name answer r y o e h = unless_so a name Abort answer r y going (abort_stocked a (with_stock x r) answer y (live_named x.so_far.live name) (subst (λ (p : Option Live). with_names.AbortsAs a p (with_stock x r) answer y) (sym (known name o e)) h))

      do_so : (a : Around) (name : List ℕ) (op : Op) (answer : Answer) (r : RunStock) (y : Stocked) (o : Option Live) → o ≡ live_named k.names name → with_names.DoesAs t g.sizes a op o (with_stock x r) answer y
          → StockedLine t g.sizes a (with_stock x r) (Other (Of name (Do op))) answer y
      do_so a name op answer r y o e h = unless_so a name (Do op) answer r y going (do_stocked t g.sizes a op (with_stock x r) answer y (live_named x.so_far.live name) (subst (λ (p : Option Live). with_names.DoesAs t g.sizes a op p (with_stock x r) answer y) (sym (known name o e)) h))

      save_so : (a : Around) (name : List ℕ) (answer : Answer) (r : RunStock) (y : Stocked) (o : Option Live) → o ≡ live_named k.names name → SavesStockedAs a o (with_stock x r) answer y
          → StockedLine t g.sizes a (with_stock x r) (OfMarks name markings.Save) answer y
      save_so a name answer r y o e h = unless_marked_so a name markings.Save answer r y going (save_stocked a (with_stock x r) answer y (live_named x.so_far.live name) (subst (λ (p : Option Live). SavesStockedAs a p (with_stock x r) answer y) (sym (known name o e)) h))

      back_so : (a : Around) (name : List ℕ) (mark : ℕ) (answer : Answer) (r : RunStock) (y : Stocked) (o : Option Live) → o ≡ live_named k.names name → BacksStockedAs a mark o (with_stock x r) answer y
          → StockedLine t g.sizes a (with_stock x r) (OfMarks name (markings.Back mark)) answer y
      back_so a name mark answer r y o e h = unless_marked_so a name (markings.Back mark) answer r y going (back_stocked a mark (with_stock x r) answer y (live_named x.so_far.live name) (subst (λ (p : Option Live). BacksStockedAs a mark p (with_stock x r) answer y) (sym (known name o e)) h))

      -- what a refusal is answered, by the names that the session knows
      words_for : (answer : Answer) (why : Refused) → (IsNamed k.names why → answer ≡ answer_to k.names (said_refusal why)) → IsNamed x.so_far.live why → answer ≡ answer_to x.so_far.live (said_refusal why)
      words_for answer why says is =
          says (subst (λ (ls : List Live). IsNamed ls why) (sym names) (named_unmarked x.so_far.live why is)) ∙ (ap (λ (ls : List Live). answer_to ls (said_refusal why)) names ∙ answer_unmarked x.so_far.live (said_refusal why))

      mark_words_for : (answer : Answer) (why : MarkRefused) → (IsNamedAtMark k.names why → answer ≡ answer_mark k.names (said_why why)) → IsNamedAtMark x.so_far.live why → answer ≡ answer_mark x.so_far.live (said_why why)
      mark_words_for answer why says is =
          says (subst (λ (ls : List Live). IsNamedAtMark ls why) (sym names) (mark_named_unmarked x.so_far.live why is)) ∙ (ap (λ (ls : List Live). answer_mark ls (said_why why)) names ∙ mark_unmarked x.so_far.live (said_why why))

      -- BEGIN
      pub begin_live : (name : List ℕ) (l : Live) → Some l ≡ live_named k.names name → Goes t g v x (Other (Of name Begin)) IsLive v k
      begin_live name l e = same (Other (Of name Begin)) IsLive (begin_by (around v v) name IsLive x (Some l) e (refl, refl)) (λ r. begin_so (around v v) name IsLive r (with_stock x r) (Some l) e (refl, refl))

      pub begin_many : (name : List ℕ) → None ≡ live_named k.names name → nat_le 64 (length k.names) ≡ true → Goes t g v x (Other (Of name Begin)) TooManyLive v k
      begin_many name e full =
          let le : 64 ≤ length x.so_far.live = subst (λ n. 64 ≤ n) (ap length names ∙ as_many x.so_far.live) (grind (arith, nat_tests, full)) in
          same (Other (Of name Begin)) TooManyLive (begin_by (around v v) name TooManyLive x None e (Err AreTooMany, refl, (going, le, refl)))
          (λ r. begin_so (around v v) name TooManyLive r (with_stock x r) None e (Err AreTooMany, refl, record { line = (going, le, refl); stock = refl }))

      pub begin_done : (name : List ℕ) (w : View g) (m : stores.Core) (now : List Live) (u : TxnId) → None ≡ live_named k.names name
          → now ≡ k.names ++ record { name = name; transaction = u.0; marks = [] } ∷ []
          → calls.Goes t g v x (calls.Begins v.tail v.faults w.faults name x (Ok u)) w m → (m.stopped ≡ None → LeavesStock t g v w) → Goes t g v x (Other (Of name Begin)) (Said Done) w (record { store = m; names = now })
      begin_done name w m now u e added h left =
          from_store w m now (Other (Of name Begin)) (Said Done) (calls.Begins v.tail v.faults w.faults name x (Ok u)) h
          (λ y b. begin_by (around v w) name (Said Done) y None e (Ok u.0, refl, b))
          (λ y b. added ∙ (ap (λ (ls : List Live). ls ++ record { name = name; transaction = u.0; marks = [] } ∷ []) names ∙ sym (named.began_live v.tail v.faults w.faults name x y u b)))
          (alone w m (Other (Of name Begin)) (Said Done) (calls.Begins v.tail v.faults w.faults name x (Ok u)) left (λ by_stock r shown y b. begin_so (around v w) name (Said Done) r (with_stock y r) None e (Ok u.0, refl, record { line = b; stock = refl })))

      pub begin_refused : (name : List ℕ) (w : View g) (m : stores.Core) (answer : Answer) (why : Refused) → None ≡ live_named k.names name → (IsNamed k.names why → answer ≡ answer_to k.names (said_refusal why))
          → calls.Goes t g v x (calls.Begins v.tail v.faults w.faults name x (Err why)) w m → (m.stopped ≡ None → LeavesStock t g v w) → Goes t g v x (Other (Of name Begin)) answer w (record { store = m; names = k.names })
      begin_refused name w m answer why e says h left =
          from_store w m k.names (Other (Of name Begin)) answer (calls.Begins v.tail v.faults w.faults name x (Err why)) h
          (λ y b. begin_by (around v w) name answer y None e (Err (said_refusal why), words_for answer why says (named.begin_named v.tail v.faults w.faults name x.so_far.live x why y b), b))
          (λ y b. names ∙ sym (named.begin_live v.tail v.faults w.faults name x y why b))
          (alone w m (Other (Of name Begin)) answer (calls.Begins v.tail v.faults w.faults name x (Err why)) left
          (λ by_stock r shown y b. begin_so (around v w) name answer r (with_stock y r) None e (Err (said_refusal why), words_for answer why says (named.begin_named v.tail v.faults w.faults name x.so_far.live x why y b), record { line = b; stock = refl })))

      -- COMMIT
      pub commit_none : (name : List ℕ) → None ≡ live_named k.names name → Goes t g v x (Other (Of name Commit)) NoTransaction v k
      commit_none name e = same (Other (Of name Commit)) NoTransaction (commit_by (around v v) name NoTransaction x None e (refl, refl)) (λ r. commit_so (around v v) name NoTransaction r (with_stock x r) None e (refl, refl))

      pub commit_done : (name : List ℕ) (l : Live) (w : View g) (m : stores.Core) (now : List Live) → Some l ≡ live_named k.names name → now ≡ without l.transaction k.names
          → calls.Goes t g v x (calls.Commits w.tail v.faults w.faults l.transaction x (Ok tt)) w m → ((r : RunStock) → ShowsStock t g v r → ShowsStock t g w (committed l.transaction r)) → Goes t g v x (Other (Of name Commit)) (Said Done) w (record { store = m; names = now })
      commit_done name l w m now e left h leads =
          from_store w m now (Other (Of name Commit)) (Said Done) (calls.Commits w.tail v.faults w.faults l.transaction x (Ok tt)) h
          (λ y b. commit_by (around v w) name (Said Done) y (Some l) e (Ok tt, refl, b))
          (λ y b. left ∙ (ap (λ (ls : List Live). without l.transaction ls) names ∙ sym (named.committed_live w.tail v.faults w.faults l.transaction x y b)))
          (λ by_stock r shown. record {
            after = committed l.transaction r;
            goes = λ y b. commit_so (around v w) name (Said Done) r (with_stock y (committed l.transaction r)) (Some l) e (Ok tt, refl, record { line = b; stock = refl });
            shows = λ none. leads r shown;
          })

      pub commit_refused : (name : List ℕ) (l : Live) (w : View g) (m : stores.Core) (answer : Answer) (why : Refused) → Some l ≡ live_named k.names name → (IsNamed k.names why → answer ≡ answer_to k.names (said_refusal why))
          → calls.Goes t g v x (calls.Commits w.tail v.faults w.faults l.transaction x (Err why)) w m → (m.stopped ≡ None → LeavesStock t g v w) → Goes t g v x (Other (Of name Commit)) answer w (record { store = m; names = k.names })
      commit_refused name l w m answer why e says h left =
          from_store w m k.names (Other (Of name Commit)) answer (calls.Commits w.tail v.faults w.faults l.transaction x (Err why)) h
          (λ y b. commit_by (around v w) name answer y (Some l) e (Err (said_refusal why), words_for answer why says (named.commit_named w.tail v.faults w.faults l.transaction x.so_far.live x why y b), b))
          (λ y b. names ∙ sym (named.commit_live w.tail v.faults w.faults l.transaction x y why b))
          (alone w m (Other (Of name Commit)) answer (calls.Commits w.tail v.faults w.faults l.transaction x (Err why)) left
          (λ by_stock r shown y b. commit_so (around v w) name answer r (with_stock y r) (Some l) e (Err (said_refusal why), words_for answer why says (named.commit_named w.tail v.faults w.faults l.transaction x.so_far.live x why y b), record { line = b; stock = refl })))

      -- ABORT
      pub abort_none : (name : List ℕ) → None ≡ live_named k.names name → Goes t g v x (Other (Of name Abort)) NoTransaction v k
      abort_none name e = same (Other (Of name Abort)) NoTransaction (abort_by (around v v) name NoTransaction x None e (refl, refl)) (λ r. abort_so (around v v) name NoTransaction r (with_stock x r) None e (refl, refl))

      pub abort_done : (name : List ℕ) (l : Live) (w : View g) (m : stores.Core) (now : List Live) → Some l ≡ live_named k.names name → now ≡ without l.transaction k.names
          → calls.Goes t g v x (calls.Aborts w.tail v.faults w.faults l.transaction x (Ok tt)) w m → ((r : RunStock) → ShowsStock t g v r → ShowsStock t g w (backed (is_of l.transaction) r)) → Goes t g v x (Other (Of name Abort)) (Said Done) w (record { store = m; names = now })
      abort_done name l w m now e left h leads =
          from_store w m now (Other (Of name Abort)) (Said Done) (calls.Aborts w.tail v.faults w.faults l.transaction x (Ok tt)) h
          (λ y b. abort_by (around v w) name (Said Done) y (Some l) e (Ok tt, refl, b))
          (λ y b. left ∙ (ap (λ (ls : List Live). without l.transaction ls) names ∙ sym (named.aborted_live w.tail v.faults w.faults l.transaction x y b)))
          (λ by_stock r shown. record {
            after = backed (is_of l.transaction) r;
            goes = λ y b. abort_so (around v w) name (Said Done) r (with_stock y (backed (is_of l.transaction) r)) (Some l) e (Ok tt, refl, record { line = b; stock = refl });
            shows = λ none. leads r shown;
          })

      pub abort_refused : (name : List ℕ) (l : Live) (w : View g) (m : stores.Core) (answer : Answer) (why : Refused) → Some l ≡ live_named k.names name → (IsNamed k.names why → answer ≡ answer_to k.names (said_refusal why))
          → calls.Goes t g v x (calls.Aborts w.tail v.faults w.faults l.transaction x (Err why)) w m → (m.stopped ≡ None → LeavesStock t g v w) → Goes t g v x (Other (Of name Abort)) answer w (record { store = m; names = k.names })
      abort_refused name l w m answer why e says h left =
          from_store w m k.names (Other (Of name Abort)) answer (calls.Aborts w.tail v.faults w.faults l.transaction x (Err why)) h
          (λ y b. abort_by (around v w) name answer y (Some l) e (Err (said_refusal why), words_for answer why says (named.abort_named w.tail v.faults w.faults l.transaction x.so_far.live x why y b), b))
          (λ y b. names ∙ sym (named.abort_live w.tail v.faults w.faults l.transaction x y why b))
          (alone w m (Other (Of name Abort)) answer (calls.Aborts w.tail v.faults w.faults l.transaction x (Err why)) left
          (λ by_stock r shown y b. abort_so (around v w) name answer r (with_stock y r) (Some l) e (Err (said_refusal why), words_for answer why says (named.abort_named w.tail v.faults w.faults l.transaction x.so_far.live x why y b), record { line = b; stock = refl })))

      -- A MARK
      pub save_none : (name : List ℕ) → None ≡ live_named k.names name → Goes t g v x (OfMarks name markings.Save) NoTransaction v k
      save_none name e = same (OfMarks name markings.Save) NoTransaction (save_by (around v v) name NoTransaction x None e (refl, refl)) (λ r. save_so (around v v) name NoTransaction r (with_stock x r) None e (refl, refl))

      pub save_done : (name : List ℕ) (l : Live) (w : View g) (m : stores.Core) (n said : ℕ) → said ≡ n → Some l ≡ live_named k.names name
          → calls.Goes t g v x (calls.Saves v.tail v.faults w.faults l.transaction x (Ok n)) w m → (m.stopped ≡ None → LeavesStock t g v w) → Goes t g v x (OfMarks name markings.Save) (Said (Number said)) w (record { store = m; names = k.names })
      save_done name l w m n said is e h left =
          from_store w m k.names (OfMarks name markings.Save) (Said (Number said)) (calls.Saves v.tail v.faults w.faults l.transaction x (Ok n)) h
          (λ y b. save_by (around v w) name (Said (Number said)) y (Some l) e (Ok n, ap (λ i. Said (Number i)) is, b))
          (λ y b. names ∙ sym (named.save_live v.tail v.faults w.faults l.transaction x y (Ok n) b))
          (alone w m (OfMarks name markings.Save) (Said (Number said)) (calls.Saves v.tail v.faults w.faults l.transaction x (Ok n)) left
          (λ by_stock r shown y b. save_so (around v w) name (Said (Number said)) r (with_stock y r) (Some l) e (Ok n, ap (λ i. Said (Number i)) is, record { line = b; stock = refl })))

      pub save_refused : (name : List ℕ) (l : Live) (w : View g) (m : stores.Core) (answer : Answer) (why : MarkRefused) → Some l ≡ live_named k.names name → (IsNamedAtMark k.names why → answer ≡ answer_mark k.names (said_why why))
          → calls.Goes t g v x (calls.Saves v.tail v.faults w.faults l.transaction x (Err why)) w m → (m.stopped ≡ None → LeavesStock t g v w) → Goes t g v x (OfMarks name markings.Save) answer w (record { store = m; names = k.names })
      save_refused name l w m answer why e says h left =
          from_store w m k.names (OfMarks name markings.Save) answer (calls.Saves v.tail v.faults w.faults l.transaction x (Err why)) h
          (λ y b. save_by (around v w) name answer y (Some l) e (Err (said_why why), mark_words_for answer why says (named.save_named v.tail v.faults w.faults l.transaction x.so_far.live x why y b), b))
          (λ y b. names ∙ sym (named.save_live v.tail v.faults w.faults l.transaction x y (Err why) b))
          (alone w m (OfMarks name markings.Save) answer (calls.Saves v.tail v.faults w.faults l.transaction x (Err why)) left
          (λ by_stock r shown y b. save_so (around v w) name answer r (with_stock y r) (Some l) e (Err (said_why why), mark_words_for answer why says (named.save_named v.tail v.faults w.faults l.transaction x.so_far.live x why y b), record { line = b; stock = refl })))

      -- A WAY BACK TO A MARK
      -- what is undone behind the number that the store has at the mark, is undone behind the run's mark
      back_leads : (mark : ℕ) (l : Live) (w : View g) → IsSome (nth_mark mark (core.marks_of k.store.live l.transaction))
          → ((at : ℕ) → nth_mark mark (core.marks_of k.store.live l.transaction) ≡ Some at → (r : RunStock) → ShowsStock t g v r → ShowsStock t g w (backed (is_behind l.transaction at) r))
          → (r : RunStock) → ShowsStock t g v r → ShowsStock t g w (backed_behind l.transaction (nth_mark mark (marks_of x l.transaction)) (Ok tt) r)
      back_leads mark l w some leads r shown = go (nth_mark mark (core.marks_of k.store.live l.transaction)) refl some
        where
          go : (o : Option ℕ) → nth_mark mark (core.marks_of k.store.live l.transaction) ≡ o → IsSome o → ShowsStock t g w (backed_behind l.transaction (nth_mark mark (marks_of x l.transaction)) (Ok tt) r)
          go None e is = absurd (cc)
          go (Some at) e is =
              let m = mark_at k.store.live x l.transaction mark at (shows.store.runs going).is_kept.marks e in
              subst (λ (o : Option Mark). ShowsStock t g w (backed_behind l.transaction o (Ok tt) r)) (sym m.is)
              (subst (λ i. ShowsStock t g w (backed (is_behind l.transaction i) r)) (sym m.number) (leads at e r shown))

      pub back_none : (name : List ℕ) (mark : ℕ) → None ≡ live_named k.names name → Goes t g v x (OfMarks name (markings.Back mark)) NoTransaction v k
      back_none name mark e = same (OfMarks name (markings.Back mark)) NoTransaction (back_by (around v v) name mark NoTransaction x None e (refl, refl)) (λ r. back_so (around v v) name mark NoTransaction r (with_stock x r) None e (refl, refl))

      pub back_done : (name : List ℕ) (mark : ℕ) (l : Live) (w : View g) (m : stores.Core) → Some l ≡ live_named k.names name → calls.Goes t g v x (calls.RollsBack w.tail v.faults w.faults l.transaction mark x (Ok tt)) w m
          → IsSome (nth_mark mark (core.marks_of k.store.live l.transaction))
          → ((at : ℕ) → nth_mark mark (core.marks_of k.store.live l.transaction) ≡ Some at → (r : RunStock) → ShowsStock t g v r → ShowsStock t g w (backed (is_behind l.transaction at) r))
          → Goes t g v x (OfMarks name (markings.Back mark)) (Said Done) w (record { store = m; names = k.names })
      back_done name mark l w m e h some leads =
          from_store w m k.names (OfMarks name (markings.Back mark)) (Said Done) (calls.RollsBack w.tail v.faults w.faults l.transaction mark x (Ok tt)) h
          (λ y b. back_by (around v w) name mark (Said Done) y (Some l) e (Ok tt, refl, b))
          (λ y b. names ∙ sym (named.back_live w.tail v.faults w.faults l.transaction mark x y (Ok tt) b))
          (λ by_stock r shown. record {
            after = backed_behind l.transaction (nth_mark mark (marks_of x l.transaction)) (Ok tt) r;
            goes = λ y b. back_so (around v w) name mark (Said Done) r (with_stock y (backed_behind l.transaction (nth_mark mark (marks_of x l.transaction)) (Ok tt) r)) (Some l) e (Ok tt, refl, record { line = b; stock = refl });
            shows = λ none. back_leads mark l w some leads r shown;
          })

      pub back_refused : (name : List ℕ) (mark : ℕ) (l : Live) (w : View g) (m : stores.Core) (answer : Answer) (why : MarkRefused) → Some l ≡ live_named k.names name → (IsNamedAtMark k.names why → answer ≡ answer_mark k.names (said_why why))
          → calls.Goes t g v x (calls.RollsBack w.tail v.faults w.faults l.transaction mark x (Err why)) w m → (m.stopped ≡ None → LeavesStock t g v w) → Goes t g v x (OfMarks name (markings.Back mark)) answer w (record { store = m; names = k.names })
      back_refused name mark l w m answer why e says h left =
          from_store w m k.names (OfMarks name (markings.Back mark)) answer (calls.RollsBack w.tail v.faults w.faults l.transaction mark x (Err why)) h
          (λ y b. back_by (around v w) name mark answer y (Some l) e (Err (said_why why), mark_words_for answer why says (named.back_named w.tail v.faults w.faults l.transaction mark x.so_far.live x why y b), b))
          (λ y b. names ∙ sym (named.back_live w.tail v.faults w.faults l.transaction mark x y (Err why) b))
          (alone w m (OfMarks name (markings.Back mark)) answer (calls.RollsBack w.tail v.faults w.faults l.transaction mark x (Err why)) left
          (λ by_stock r shown y b. back_so (around v w) name mark answer r (with_stock y r) (Some l) e (Err (said_why why), mark_words_for answer why says (named.back_named w.tail v.faults w.faults l.transaction mark x.so_far.live x why y b), record { line = b; stock = same_behind l.transaction (nth_mark mark (marks_of x l.transaction)) (said_why why) r })))

      -- FLUSH
      pub flush_done : (w : View g) (m : stores.Core) → calls.Goes t g v x (calls.Flushes v.faults w.faults x (Ok tt)) w m → (m.stopped ≡ None → LeavesStock t g v w) → Goes t g v x (OfStore upkeeps.Flush) (Said Done) w (record { store = m; names = k.names })
      flush_done w m h left =
          from_store w m k.names (OfStore upkeeps.Flush) (Said Done) (calls.Flushes v.faults w.faults x (Ok tt)) h (λ y b. (Ok tt, refl, b)) (λ y b. names ∙ sym (named.flush_live v.faults w.faults x y (Ok tt) b))
          (alone w m (OfStore upkeeps.Flush) (Said Done) (calls.Flushes v.faults w.faults x (Ok tt)) left (λ by_stock r shown y b. (Ok tt, refl, record { line = b; stock = refl })))

      pub flush_refused : (w : View g) (m : stores.Core) (answer : Answer) (why : Refused) → (IsNamed k.names why → answer ≡ answer_to k.names (said_refusal why))
          → calls.Goes t g v x (calls.Flushes v.faults w.faults x (Err why)) w m → (m.stopped ≡ None → LeavesStock t g v w) → Goes t g v x (OfStore upkeeps.Flush) answer w (record { store = m; names = k.names })
      flush_refused w m answer why says h left =
          from_store w m k.names (OfStore upkeeps.Flush) answer (calls.Flushes v.faults w.faults x (Err why)) h
          (λ y b. (Err (said_refusal why), words_for answer why says (named.flush_named v.faults w.faults x.so_far.live x why y b), b))
          (λ y b. names ∙ sym (named.flush_live v.faults w.faults x y (Err why) b))
          (alone w m (OfStore upkeeps.Flush) answer (calls.Flushes v.faults w.faults x (Err why)) left
          (λ by_stock r shown y b. (Err (said_refusal why), words_for answer why says (named.flush_named v.faults w.faults x.so_far.live x why y b), record { line = b; stock = refl })))

      -- A TRUNCATION, which goes as a flush
      pub truncate_done : (w : View g) (m : stores.Core) → calls.Goes t g v x (calls.Flushes v.faults w.faults x (Ok tt)) w m → (m.stopped ≡ None → LeavesStock t g v w) → Goes t g v x (OfStore upkeeps.Truncate) (Said Done) w (record { store = m; names = k.names })
      truncate_done w m h left =
          from_store w m k.names (OfStore upkeeps.Truncate) (Said Done) (calls.Flushes v.faults w.faults x (Ok tt)) h (λ y b. (Ok tt, refl, b)) (λ y b. names ∙ sym (named.flush_live v.faults w.faults x y (Ok tt) b))
          (alone w m (OfStore upkeeps.Truncate) (Said Done) (calls.Flushes v.faults w.faults x (Ok tt)) left (λ by_stock r shown y b. (Ok tt, refl, record { line = b; stock = refl })))

      pub truncate_refused : (w : View g) (m : stores.Core) (answer : Answer) (why : Refused) → (IsNamed k.names why → answer ≡ answer_to k.names (said_refusal why))
          → calls.Goes t g v x (calls.Flushes v.faults w.faults x (Err why)) w m → (m.stopped ≡ None → LeavesStock t g v w) → Goes t g v x (OfStore upkeeps.Truncate) answer w (record { store = m; names = k.names })
      truncate_refused w m answer why says h left =
          from_store w m k.names (OfStore upkeeps.Truncate) answer (calls.Flushes v.faults w.faults x (Err why)) h
          (λ y b. (Err (said_refusal why), words_for answer why says (named.flush_named v.faults w.faults x.so_far.live x why y b), b))
          (λ y b. names ∙ sym (named.flush_live v.faults w.faults x y (Err why) b))
          (alone w m (OfStore upkeeps.Truncate) answer (calls.Flushes v.faults w.faults x (Err why)) left
          (λ by_stock r shown y b. (Err (said_refusal why), words_for answer why says (named.flush_named v.faults w.faults x.so_far.live x why y b), record { line = b; stock = refl })))

      -- CHECKPOINT
      pub checkpoint_done : (w : View g) (m : stores.Core) → calls.Goes t g v x (calls.Checkpoints v.tail v.faults w.faults x (Ok tt)) w m → (m.stopped ≡ None → LeavesStock t g v w) → Goes t g v x (OfStore upkeeps.Checkpoint) (Said Done) w (record { store = m; names = k.names })
      checkpoint_done w m h left =
          from_store w m k.names (OfStore upkeeps.Checkpoint) (Said Done) (calls.Checkpoints v.tail v.faults w.faults x (Ok tt)) h (λ y b. (Ok tt, refl, b)) (λ y b. names ∙ sym (named.checkpoint_live v.tail v.faults w.faults x y (Ok tt) b))
          (alone w m (OfStore upkeeps.Checkpoint) (Said Done) (calls.Checkpoints v.tail v.faults w.faults x (Ok tt)) left (λ by_stock r shown y b. (Ok tt, refl, record { line = b; stock = refl })))

      pub checkpoint_refused : (w : View g) (m : stores.Core) (answer : Answer) (why : Refused) → (IsNamed k.names why → answer ≡ answer_to k.names (said_refusal why))
          → calls.Goes t g v x (calls.Checkpoints v.tail v.faults w.faults x (Err why)) w m → (m.stopped ≡ None → LeavesStock t g v w) → Goes t g v x (OfStore upkeeps.Checkpoint) answer w (record { store = m; names = k.names })
      checkpoint_refused w m answer why says h left =
          from_store w m k.names (OfStore upkeeps.Checkpoint) answer (calls.Checkpoints v.tail v.faults w.faults x (Err why)) h
          (λ y b. (Err (said_refusal why), words_for answer why says (named.checkpoint_named v.tail v.faults w.faults x.so_far.live x why y b), b))
          (λ y b. names ∙ sym (named.checkpoint_live v.tail v.faults w.faults x y (Err why) b))
          (alone w m (OfStore upkeeps.Checkpoint) answer (calls.Checkpoints v.tail v.faults w.faults x (Err why)) left
          (λ by_stock r shown y b. (Err (said_refusal why), words_for answer why says (named.checkpoint_named v.tail v.faults w.faults x.so_far.live x why y b), record { line = b; stock = refl })))

      -- AN OPERATION
      pub do_none : (name : List ℕ) (op : Op) → None ≡ live_named k.names name → Goes t g v x (Other (Of name (Do op))) NoTransaction v k
      do_none name op e = same (Other (Of name (Do op))) NoTransaction (do_by (around v v) name op NoTransaction x None e (refl, refl)) (λ r. do_so (around v v) name op NoTransaction r (with_stock x r) None e (refl, refl))

      pub do_done : (name : List ℕ) (l : Live) (op : Op) (w : View g) (m : stores.Core) (into : List ℕ) (reply : code_reply.Reply) → Some l ≡ live_named k.names name
          → calls.Goes t g v x (calls.Does t v.tail w.tail v.faults w.faults l.transaction op x into (Ok reply)) w m
          → IsLawful t g → LeavesRoom t g v → calls.Numbers t g v k.store.live op (Ok reply) → LeadsStock t g v w (live_objects t x) l.transaction op
          → Goes t g v x (Other (Of name (Do op))) (Said (said_reply into reply)) w (record { store = m; names = k.names })
      do_done name l op w m into reply e h lawful leaves numbers leads =
          let runs = shows.store.runs going in
          from_store w m k.names (Other (Of name (Do op))) (Said (said_reply into reply)) (calls.Does t v.tail w.tail v.faults w.faults l.transaction op x into (Ok reply)) h
          (λ y b. do_by (around v w) name op (Said (said_reply into reply)) y (Some l) e (Ok (said_reply into reply), refl, b))
          (λ y b. names ∙ sym (named.does_live t v.tail w.tail v.faults w.faults l.transaction op x y into (Ok reply) b))
          (λ by_stock r shown. (let d = leads r shown in record {
            after = d.0;
            goes = λ y b. do_so (around v w) name op (Said (said_reply into reply)) r (with_stock y d.0) (Some l) e (
              Ok (said_reply into reply),
              refl,
              record {
                line = b;
                obeys = λ none. stocking.obeys t g lawful by_stock v w k.store x r runs shown leaves;
                numbers = stocking.numbers_so t g lawful by_stock v w k.store x r runs shown op into (Ok reply) numbers;
                stock = stocking.after_done t (with_stock x r) l.transaction op (said_reply into reply) d.0 d.1;
              },
            );
            shows = λ none. d.2;
          }))

      pub list_done : {A : Type 0} (name : List ℕ) (l : Live) (op : Op) (w : View g) (m : stores.Core) (words : Vec (List ℕ) A) → Some l ≡ live_named k.names name
          → calls.Goes t g v x (calls.Lists t v.tail w.tail v.faults w.faults l.transaction op x (Ok words)) w m
          → IsLawful t g → LeavesRoom t g v → IsListing op → (m.stopped ≡ None → LeavesStock t g v w)
          → Goes t g v x (Other (Of name (Do op))) (Said (Several words.items)) w (record { store = m; names = k.names })
      list_done name l op w m words e h lawful leaves lists left =
          let runs = shows.store.runs going in
          from_store w m k.names (Other (Of name (Do op))) (Said (Several words.items)) (calls.Lists t v.tail w.tail v.faults w.faults l.transaction op x (Ok words)) h
          (λ y b. do_by (around v w) name op (Said (Several words.items)) y (Some l) e (Ok (Several words.items), refl, b))
          (λ y b. names ∙ sym (ap (λ (r : Run). all_unmarked r.so_far.live) b.4))
          (alone w m (Other (Of name (Do op))) (Said (Several words.items)) (calls.Lists t v.tail w.tail v.faults w.faults l.transaction op x (Ok words)) left
          (λ by_stock r shown y b. do_so (around v w) name op (Said (Several words.items)) r (with_stock y r) (Some l) e (
            Ok (Several words.items),
            refl,
            record {
              line = b;
              obeys = λ none. stocking.obeys t g lawful by_stock v w k.store x r runs shown leaves;
              numbers = stocking.list_room t (around v w) (with_stock x r) op lists;
              stock = stocking.list_after t (with_stock x r) l.transaction op (Several words.items) lists b.2;
            },
          )))

      pub do_refused : (name : List ℕ) (l : Live) (op : Op) (w : View g) (m : stores.Core) (into : List ℕ) (answer : Answer) (why : Refused) → Some l ≡ live_named k.names name
          → (IsNamed k.names why → answer ≡ answer_to k.names (said_refusal why))
          → calls.Goes t g v x (calls.Does t v.tail w.tail v.faults w.faults l.transaction op x into (Err why)) w m
          → IsLawful t g → LeavesRoom t g v → (NeedsByStock t g → (r : RunStock) → ShowsStock t g v r → AreNumbers t (around v w) (with_stock x r) op (Err (said_refusal why))) → (m.stopped ≡ None → LeavesStock t g v w)
          → Goes t g v x (Other (Of name (Do op))) answer w (record { store = m; names = k.names })
      do_refused name l op w m into answer why e says h lawful leaves numbers left =
          let runs = shows.store.runs going in
          let sound = runs.is_kept.logs.sound in
          from_store w m k.names (Other (Of name (Do op))) answer (calls.Does t v.tail w.tail v.faults w.faults l.transaction op x into (Err why)) h
          (λ y b. do_by (around v w) name op answer y (Some l) e (Err (said_refusal why), words_for answer why says (named.named_for t x sound v.tail w.tail v.faults w.faults l.transaction op into why y b), b))
          (λ y b. names ∙ sym (named.does_live t v.tail w.tail v.faults w.faults l.transaction op x y into (Err why) b))
          (alone w m (Other (Of name (Do op))) answer (calls.Does t v.tail w.tail v.faults w.faults l.transaction op x into (Err why)) left
          (λ by_stock r shown y b. do_so (around v w) name op answer r (with_stock y r) (Some l) e (
            Err (said_refusal why),
            words_for answer why says (named.named_for t x sound v.tail w.tail v.faults w.faults l.transaction op into why y b),
            record {
              line = b;
              obeys = λ none. stocking.obeys t g lawful by_stock v w k.store x r runs shown leaves;
              numbers = numbers by_stock r shown;
              stock = stocking.after_refused t (with_stock x r) l.transaction op (said_refusal why);
            },
          )))

-- who has a name, as the session's list says
pub by_some : (o : Option code_named.Named) (p : Option Live) → is_some o ≡ true → option_map live_of o ≡ p → (l : Live) × (Some l ≡ p)
by_some None p e h = absurd (cc)
by_some (Some n) p e h = (live_of n, h)

pub by_none : (o : Option code_named.Named) (p : Option Live) → is_some o ≡ false → option_map live_of o ≡ p → None ≡ p
by_none None p e h = h
by_none (Some n) p e h = absurd (cc)
