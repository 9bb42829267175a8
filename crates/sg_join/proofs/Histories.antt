-- The history of a log and that of a run.
use Rattle.std.proofs.Common.{◌≡◌, ℕ, Bool, true, false, cond, not, List, [], ◌∷◌, ◌++◌, refl, sym, ap, ◌∙◌, subst, arith}
use Rattle.std.specs.Prelude.{◌==◌, nat_le, ◌&&◌}
use Rattle.std.specs.List.{filter}
use Rattle.std.proofs.lemmas.List.{map-append}
use Rattle.std.proofs.lemmas.Bool.{le-leb}
use Rattle.sg_serial.specs.Machine.{Entry, run}
use Rattle.sg_serial.specs.Locks.{Touch}
use Rattle.sg_serial.specs.Runs.{State, is_live, is_own, live_state, committed_state, IsSerial}
use Rattle.sg_serial.proofs.Lists.{filter_append}
use Rattle.sg_recovery.specs.Setting.{Setting}
use Rattle.sg_recovery.specs.Log.{is_in}
use Rattle.sg_recovery.specs.Shows.{Entry as LogEntry, left, live_after, all_live, kept, from_on}
use Rattle.sg_join.specs.Join.{told, said, IsOf}

-- operations of transactions, one after another
module _ {S Op : Type 0} (after : S → Op → S) where
  abbrev runs : S → List (ℕ × Op) → S
  runs s [] = s
  runs s (p ∷ ps) = runs (after s p.1) ps

  runs_append : (s : S) (ps qs : List (ℕ × Op)) → runs s (ps ++ qs) ≡ runs (runs s ps) qs
  runs_append s [] qs = refl
  runs_append s (p ∷ ps) qs = runs_append (after s p.1) ps qs

run_said : {S Op Out : Type 0} (step : S → Op → Out × S) (s : S) (es : List (Entry Op Out)) → run step s es ≡ runs (λ t o. (step t o).1) s (said es)
run_said step s [] = refl
run_said step s (e ∷ es) = run_said step (step s e.op).1 es

-- those whose transaction passes
module _ {Op : Type 0} (p : ℕ → Bool) where
  said_filter : {Out : Type 0} (es : List (Entry Op Out)) → said (filter (λ e. p e.transaction) es) ≡ filter (λ q. p q.0) (said es)
  said_filter {Out} [] = refl
  said_filter {Out} (e ∷ es) = go (p e.transaction) (said_filter es)
    where
      go : (b : Bool) → said (filter (λ e. p e.transaction) es) ≡ filter (λ q. p q.0) (said es)
          → said (cond b (e ∷ filter (λ e. p e.transaction) es) (filter (λ e. p e.transaction) es)) ≡ cond b ((e.transaction, e.op) ∷ filter (λ q. p q.0) (said es)) (filter (λ q. p q.0) (said es))
      go true h = ap (λ l. (e.transaction, e.op) ∷ l) h
      go false h = h

  told_filter : {V : Type 0} (op : V → Op) (h : List (LogEntry V)) → told op (filter (λ e. p e.transaction) h) ≡ filter (λ q. p q.0) (told op h)
  told_filter {V} op [] = refl
  told_filter {V} op (e ∷ es) = go (p e.transaction) refl (told_filter op es) ∙ sym (filter_append (λ q. p q.0) (told op es) ((e.transaction, op e.verb) ∷ []))
    where
      none : (l : List (ℕ × Op)) → l ≡ l ++ []
      none [] = refl
      none (x ∷ l) = ap (λ k. x ∷ k) (none l)

      go : (b : Bool) → p e.transaction ≡ b → told op (filter (λ e. p e.transaction) es) ≡ filter (λ q. p q.0) (told op es)
          → told op (cond b (e ∷ filter (λ e. p e.transaction) es) (filter (λ e. p e.transaction) es)) ≡ filter (λ q. p q.0) (told op es) ++ filter (λ q. p q.0) ((e.transaction, op e.verb) ∷ [])
      go true t h = ap (λ l. l ++ (e.transaction, op e.verb) ∷ []) h ∙ ap (λ l. filter (λ q. p q.0) (told op es) ++ l) (sym (ap (λ b. cond b ((e.transaction, op e.verb) ∷ []) []) t))
      go false t h = h ∙ (none (filter (λ q. p q.0) (told op es)) ∙ ap (λ l. filter (λ q. p q.0) (told op es) ++ l) (sym (ap (λ b. cond b ((e.transaction, op e.verb) ∷ []) []) t)))

filter_same : {A : Type 0} (p q : A → Bool) (xs : List A) → ((x : A) → p x ≡ q x) → filter p xs ≡ filter q xs
filter_same p q [] h = refl
filter_same p q (x ∷ xs) h = ap (λ b. cond b (x ∷ filter p xs) (filter p xs)) (h x) ∙ ap (λ l. cond (q x) (x ∷ l) l) (filter_same p q xs h)

-- none that doesn't pass is left of those that do
filter_none : {A : Type 0} (p : A → Bool) (xs : List A) → filter (λ x. not (p x)) (filter p xs) ≡ []
filter_none p [] = refl
filter_none {A} p (x ∷ xs) = go (p x) refl (filter_none p xs)
  where
    go : (b : Bool) → p x ≡ b → filter (λ y. not (p y)) (filter p xs) ≡ [] → filter (λ y. not (p y)) (cond b (x ∷ filter p xs) (filter p xs)) ≡ []
    go true e h = ap (λ b. cond (not b) (x ∷ filter (λ y. not (p y)) (filter p xs)) (filter (λ y. not (p y)) (filter p xs))) e ∙ h
    go false e h = h

-- THE JOIN of a log's theory and the theory of serial runs
module _ (s : Setting) {Op Out Cell Resource : Type 0} (step : s.S → Op → Out × s.S) (touches : s.S → Op → List (Touch Resource)) (covers : Resource → Cell → Bool) (op : s.V → Op)
    (steps : (m : s.S) (v : s.V) → s.step m v ≡ (step m (op v)).1) where
  after_told : (first : s.S) (h : List (LogEntry s.V)) → live_after s first h ≡ runs (λ m o. (step m o).1) first (told op h)
  after_told first [] = refl
  after_told first (e ∷ es) =
      steps (live_after s first es) e.verb
      ∙ (ap (λ m. (step m (op e.verb)).1) (after_told first es)
      ∙ sym (runs_append (λ m o. (step m o).1) first (told op es) ((e.transaction, op e.verb) ∷ [])))

  -- the objects after the history of the log are those after the history of the run
  pub objects_same : (p : State s.S Op Out Resource) (live : List ℕ) (h : List (LogEntry s.V)) → IsOf op live h p → live_after s p.first h ≡ live_state step p
  objects_same p live h i = after_told p.first h ∙ (ap (λ ps. runs (λ m o. (step m o).1) p.first ps) i.same ∙ sym (run_said step p.first p.history))

  -- what the entries of the transactions that aren't live give is what the committed transactions give, one whole one
  -- after another
  pub kept_committed : (p : State s.S Op Out Resource) (live : List ℕ) (h : List (LogEntry s.V)) → IsOf op live h p → IsSerial step touches covers p → kept s p.first live h ≡ committed_state step p
  kept_committed p live h i serial =
      after_told p.first (left (all_live live) h)
      ∙ (ap (λ ps. runs (λ m o. (step m o).1) p.first ps)
      (told_filter (λ t. not (is_in t live)) op h
      ∙ (ap (λ ps. filter (λ q. not (is_in q.0 live)) ps) i.same
      ∙ (sym (said_filter (λ t. not (is_in t live)) p.history)
      ∙ ap (λ es. said es) (filter_same (λ e. not (is_in e.transaction live)) (λ e. not (is_live p.live e.transaction)) p.history (λ e. ap not (i.lives e.transaction))))))
      ∙ (sym (run_said step p.first (filter over p.history))
      ∙ (serial.whole over (λ e f same le f_over. subst (λ t. not (is_live p.live t) ≡ true) (sym same) f_over) (λ e among ended. ap not ended)
      ∙ ap (λ es. run step (committed_state step p) es) (filter_none (λ e. is_live p.live e.transaction) p.history))))
    where
      over : Entry Op Out → Bool
      over e = not (is_live p.live e.transaction)

said_more : {Op Out : Type 0} (es : List (Entry Op Out)) (e : Entry Op Out) → said (es ++ e ∷ []) ≡ said es ++ (e.transaction, e.op) ∷ []
said_more {Op} {Out} es e = map-append (λ (x : Entry Op Out). (x.transaction, x.op)) es (e ∷ [])

-- Each line leaves the two histories the same
module _ {S Op Out Resource V : Type 0} (op : V → Op) where
  -- an entry more
  pub did_same : (p q : State S Op Out Resource) (live : List ℕ) (h : List (LogEntry V)) (e : Entry Op Out) (v : V) (at : ℕ) → IsOf op live h p → q.history ≡ p.history ++ e ∷ [] → q.live ≡ p.live → op v ≡ e.op
      → IsOf op live (record { transaction = e.transaction; at = at; verb = v } ∷ h) q
  did_same p q live h e v at i grown same is = record {
    same = ap (λ l. l ++ (e.transaction, op v) ∷ []) i.same ∙ (ap (λ o. said p.history ++ (e.transaction, o) ∷ []) is ∙ (sym (said_more p.history e) ∙ ap (λ es. said es) (sym grown)));
    lives = λ t. i.lives t ∙ ap (λ ls. is_live ls t) (sym same);
  }

  -- the same transactions and entries
  pub same_state : (p q : State S Op Out Resource) (live : List ℕ) (h : List (LogEntry V)) → IsOf op live h p → q.history ≡ p.history → q.live ≡ p.live → IsOf op live h q
  same_state p q live h i e f = record { same = i.same ∙ ap (λ es. said es) (sym e); lives = λ t. i.lives t ∙ ap (λ ls. is_live ls t) (sym f) }

  -- other transactions are live
  pub lives_same : (p q : State S Op Out Resource) (live new : List ℕ) (h : List (LogEntry V)) → IsOf op live h p → q.history ≡ p.history → ((t : ℕ) → is_in t new ≡ is_live q.live t) → IsOf op new h q
  lives_same p q live new h i e f = record { same = i.same ∙ ap (λ es. said es) (sym e); lives = f }

  -- the entries of a transaction are left out, on both sides
  pub abort_same : (p q : State S Op Out Resource) (live new : List ℕ) (h : List (LogEntry V)) (t : ℕ) → IsOf op live h p → q.history ≡ filter (λ e. not (is_own t e)) p.history
      → ((u : ℕ) → is_in u new ≡ is_live q.live u) → IsOf op new (left (from_on t 0) h) q
  abort_same p q live new h t i e f = record {
    same =
        ap (λ k. told op k) (filter_same (λ x. not (x.transaction == t && nat_le 0 x.at)) (λ x. not (x.transaction == t)) h (λ x. ap not (all (x.transaction == t) (nat_le 0 x.at) (le-leb 0 x.at (omega arith)))))
        ∙ (told_filter (λ u. not (u == t)) op h ∙ (ap (λ ps. filter (λ x. not (x.0 == t)) ps) i.same ∙ (sym (said_filter (λ u. not (u == t)) p.history) ∙ ap (λ es. said es) (sym e))));
    lives = f;
  }
    where
      all : (a b : Bool) → b ≡ true → (a && b) ≡ a
      all true b h = h
      all false b h = refl
