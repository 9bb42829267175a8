-- The stock that a store shows, from one call of its engine to the next.
use Rattle.std.proofs.Common.{◌≡◌, ◌⊎◌, inl, inr, ℕ, ◌<◌, ◌≤◌, ◌==◌, Bool, true, false, not, cond, List, [], ◌∷◌, ◌++◌, map, Some, refl, sym, ap, ◌∙◌, subst, arith}
use Rattle.std.specs.Prelude.{Result, Ok, Err, IfOk, ◌&&◌, nat_lt}
use Rattle.std.proofs.lemmas.Bool.Decides.{nat_tests}
use Rattle.std.proofs.lemmas.List.{map-append}
use Rattle.sg_ops.specs.Table.{Table as Operations}
use Rattle.sg_model.specs.Verb.{Op}
use Rattle.sg_model.specs.declared.op.Reply as code_reply
use Rattle.sg_recovery.specs.Log.{Numbered, Top, tally, is_in, notes_of, notes_not_of, notes_up_to}
use Rattle.sg_recovery.specs.Log.Record.{Commit, End}
use Rattle.sg_recovery.specs.Laws.{Each, Note, bare}
use Rattle.sg_recovery.specs.Setting.{Setting}
use Rattle.sg_recovery.specs.Shows.{Choice, Pairs, Ranks}
use Rattle.sg_recovery.proofs.Basic.{same_number, other_number, number_is}
use Rattle.sg_recovery.specs.Stands.{made}
use Rattle.sg_room.specs.Lines.{IsLeft, UndoesEach, not_of, committed}
use Rattle.sg_room.specs.Marks.{freed}
use Rattle.sg_room.specs.Lines.UndoesEach.{none_is_left}
use Rattle.sg_room.specs.Steps.{Step, RunStock, backed, chosen}
use Rattle.sg_room.proofs.Aborts.{undoes_each}
use Rattle.sg_run.specs.Run.{Run, live_objects}
use Rattle.sg_store.specs.declared.fault.Refused.{Refused}
use Rattle.sg_store.specs.Ground.{Ground, IsLawful, setting}
use Rattle.sg_store.specs.Engine.{View, Rests, Rested, Appends, Appended, pages_of}
use Rattle.sg_store.specs.Room.{step_of, is_of, ShowsStock, LeadsStock, BacksStock, FreesStock}
use Rattle.sg_store.specs.Store.{Core, HasNone}
use Rattle.sg_store.specs.Calls.{Acts, SameRoom}
use Rattle.sg_store.proofs.Aborting.{no_notes}

module _ (t : Operations) (g : Ground) where
  -- the same log leads from the same pages to the same stock
  pub stock_moves : (v w : View g) (r : RunStock) → w.log ≡ v.log → w.first ≡ v.first → ShowsStock t g v r → ShowsStock t g w r
  stock_moves v w r log first h = record {
    marks = λ o e. h.marks o (subst (λ (ls : List (Numbered g.C g.N)). g.reading (made (setting t g) v.first ls) ≡ Some o) log
        (subst (λ q. g.reading (made (setting t g) q w.log) ≡ Some o) first e));
    steps = ap (λ (ls : List (Numbered g.C g.N)). map (step_of g) (tally ls).notes) log ∙ h.steps;
  }

  -- an operation that was done leads it on from the begin of its call
  pub acted_stock : (v w1 w2 w : View g) (k m : Core) (x : Run) (u : ℕ) (op : Op) (into : List ℕ) → SameRoom t g v w1 → SameRoom t g w1 w2
      → (result : Result code_reply.Reply Refused) → Acts t g w2 w k m x u op into result
      → IfOk result (λ reply. LeadsStock t g v w (live_objects t x) u op)
  acted_stock v w1 w2 w k m x u op into one two (Ok reply) h =
      λ r shown. h.3 r (stock_moves w1 w2 r two.log two.first (stock_moves v w1 r one.log one.first shown))
  acted_stock v w1 w2 w k m x u op into one two (Err why) h = tt

  -- NOTES UNDONE, one call behind another
  pub backs_then : (v w z : View g) (f : Choice) → BacksStock t g v w f → BacksStock t g w z f → BacksStock t g v z f
  backs_then v w z f one two r shown =
      let a = one r shown in
      let b = two a.0 a.2 in
      (b.0, (λ after e. a.1 after (b.1 after e)), b.2)

  pub backs_none : (v w : View g) (f : Choice) → Rested t g v w → BacksStock t g v w f
  backs_none v w f rested r shown = (r, (λ after e. e), stock_moves v w r rested.log rested.goes_on.first shown)

  -- the steps of others stay
  pub steps_left : (u : ℕ) (ns : List (Top g.C g.N)) → Each (λ n. n.transaction ≡ u → ⊥) ns → Each (IsLeft (is_of u)) (map (step_of g) ns)
  steps_left u [] h = tt
  steps_left u (n ∷ ns) h = (other_number n.transaction u h.0, steps_left u ns h.1)

  -- a transaction of which no note stands ends: all of it is undone
  pub end_stock : (v w z : View g) (u l p : ℕ) → BacksStock t g v w (is_of u) → notes_of u (tally w.log).notes ≡ []
      → Appended t g w z (record { lsn = l; is = End u p }) → (r : RunStock) → ShowsStock t g v r → ShowsStock t g z (backed (is_of u) r)
  end_stock v w z u l p backs none ended r shown =
      let b = backs r shown in
      let others = no_notes u (tally w.log).notes none in
      let left : Each (IsLeft (is_of u)) b.0.steps = subst (Each (IsLeft (is_of u))) b.2.steps (steps_left u (tally w.log).notes others) in
      let all : b.0 ≡ backed (is_of u) r = undoes_each (is_of u) r b.0 (b.1 b.0 (none_is_left b.0 left)) in
      subst (ShowsStock t g z) all (record {
        marks = λ o e. b.2.marks o (subst (λ (ls : List (Numbered g.C g.N)). g.reading (made (setting t g) w.first ls) ≡ Some o) ended.log
            (subst (λ q. g.reading (made (setting t g) q z.log) ≡ Some o) ended.goes_on.first e));
        steps = ap (λ (ls : List (Numbered g.C g.N)). map (step_of g) (tally ls).notes) ended.log
            ∙ (ap (λ ns. map (step_of g) ns) (still (tally w.log).notes others) ∙ b.2.steps);
      })
    where
      still : (ns : List (Top g.C g.N)) → Each (λ n. n.transaction ≡ u → ⊥) ns → notes_not_of u ns ≡ ns
      still [] h = refl
      still (n ∷ ns) h = ap (λ b. cond (not b) (n ∷ notes_not_of u ns) (notes_not_of u ns)) (other_number n.transaction u h.0) ∙ ap (λ ms. n ∷ ms) (still ns h.1)

  -- FREED, one thing behind another
  pub frees_then : (v w z : View g) (u : ℕ) → FreesStock t g v w u → FreesStock t g w z u → FreesStock t g v z u
  frees_then v w z u one two r shown =
      let a = one r shown in
      let b = two a.0 a.3 in
      (b.0, b.1 ∙ a.1, b.2 ∙ a.2, b.3)

  pub frees_nothing : (v w : View g) (u : ℕ) → w.log ≡ v.log → w.first ≡ v.first → FreesStock t g v w u
  frees_nothing v w u log first r shown = (r, refl, refl, stock_moves v w r log first shown)

  -- the steps of all others
  steps_not_of : (u : ℕ) (ns : List (Top g.C g.N)) → map (step_of g) (notes_not_of u ns) ≡ chosen (not_of u) (map (step_of g) ns)
  steps_not_of u [] = refl
  steps_not_of u (n ∷ ns) = by (not (n.transaction == u)) (steps_not_of u ns)
    where
      by : (b : Bool) → map (step_of g) (notes_not_of u ns) ≡ chosen (not_of u) (map (step_of g) ns)
          → map (step_of g) (cond b (n ∷ notes_not_of u ns) (notes_not_of u ns)) ≡ cond b (step_of g n ∷ chosen (not_of u) (map (step_of g) ns)) (chosen (not_of u) (map (step_of g) ns))
      by true rest = ap (λ ss. step_of g n ∷ ss) rest
      by false rest = rest

  twice : (u : ℕ) (ss : List Step) → chosen (not_of u) (chosen (not_of u) ss) ≡ chosen (not_of u) ss
  twice u [] = refl
  twice u (s ∷ ss) = by (not (s.transaction == u)) refl (twice u ss)
    where
      by : (b : Bool) → not (s.transaction == u) ≡ b → chosen (not_of u) (chosen (not_of u) ss) ≡ chosen (not_of u) ss
          → chosen (not_of u) (cond b (s ∷ chosen (not_of u) ss) (chosen (not_of u) ss)) ≡ cond b (s ∷ chosen (not_of u) ss) (chosen (not_of u) ss)
      by true e rest = ap (λ b. cond b (s ∷ chosen (not_of u) (chosen (not_of u) ss)) (chosen (not_of u) (chosen (not_of u) ss))) e ∙ ap (λ xs. s ∷ xs) rest
      by false e rest = rest

  -- a record that ends a transaction, and changes no page, leaves the steps of the others
  over : (v w : View g) (u : ℕ) (r : RunStock) → ((o : g.O) → g.reading (pages_of t g w) ≡ Some o → g.reading (pages_of t g v) ≡ Some o)
      → (tally w.log).notes ≡ notes_not_of u (tally v.log).notes → ShowsStock t g v r → ShowsStock t g w (record { marks = r.marks; steps = chosen (not_of u) r.steps })
  over v w u r reads notes shown = record {
    marks = λ o e. shown.marks o (reads o e);
    steps = ap (λ ns. map (step_of g) ns) notes ∙ (steps_not_of u (tally v.log).notes ∙ ap (chosen (not_of u)) shown.steps);
  }

  appended_reads : (v w : View g) (r : Numbered g.C g.N) → Appended t g v w r → ((o : g.O) → g.reading (made (setting t g) v.first (r ∷ v.log)) ≡ Some o → g.reading (pages_of t g v) ≡ Some o)
      → (o : g.O) → g.reading (pages_of t g w) ≡ Some o → g.reading (pages_of t g v) ≡ Some o
  appended_reads v w r d still o e = still o (subst (λ (ls : List (Numbered g.C g.N)). g.reading (made (setting t g) v.first ls) ≡ Some o) d.log
      (subst (λ q. g.reading (made (setting t g) q w.log) ≡ Some o) d.goes_on.first e))

  -- A COMMIT: its record, what was dropped freed, and the end
  pub commit_stock : IsLawful t g → (v w y z : View g) (u l p : ℕ) → Appended t g v w (record { lsn = l; is = Commit u p }) → FreesStock t g w y u → HasNone t g y u
      → (o : g.O) → g.reading (pages_of t g y) ≡ Some o
      → ((m : ℕ) × (q : ℕ) × Appends t g y z (record { lsn = m; is = End u q }) × Appended t g y z (record { lsn = m; is = End u q }))
      ⊎ ((is_in u (tally y.log).live ≡ false) × Rests t g y z × Rested t g y z)
      → (r : RunStock) → ShowsStock t g v r → ShowsStock t g z (committed u r)
  commit_stock lawful v w y z u l p did frees none o reads ends r shown = by ends
    where
      then : ShowsStock t g w (record { marks = r.marks; steps = chosen (not_of u) r.steps })
      then = over v w u r (appended_reads v w (record { lsn = l; is = Commit u p }) did (λ b e. e)) (ap (λ (ls : List (Numbered g.C g.N)). (tally ls).notes) did.log) shown

      after_it : (r' : RunStock) × (freed u r'.marks ≡ freed u r.marks) × (r'.steps ≡ chosen (not_of u) r.steps) × ShowsStock t g y r'
      after_it = frees (record { marks = r.marks; steps = chosen (not_of u) r.steps }) then

      marks_are : after_it.0.marks ≡ freed u r.marks
      marks_are = sym (after_it.3.marks o reads) ∙ (sym (lawful.none_freed (pages_of t g y) o reads u (none o reads))
          ∙ (ap (freed u) (after_it.3.marks o reads) ∙ after_it.1))

      here : ShowsStock t g y (committed u r)
      here = subst (ShowsStock t g y) (λ i. record { marks = marks_are i; steps = after_it.2 i }) after_it.3

      by : ((m : ℕ) × (q : ℕ) × Appends t g y z (record { lsn = m; is = End u q }) × Appended t g y z (record { lsn = m; is = End u q }))
          ⊎ ((is_in u (tally y.log).live ≡ false) × Rests t g y z × Rested t g y z) → ShowsStock t g z (committed u r)
      by (inl a) = subst (λ ss. ShowsStock t g z (record { marks = freed u r.marks; steps = ss })) (twice u r.steps)
          (over y z u (committed u r) (appended_reads y z (record { lsn = a.0; is = End u a.1 }) a.3 (λ b e. e)) (ap (λ (ls : List (Numbered g.C g.N)). (tally ls).notes) a.3.log) here)
      by (inr b) = stock_moves y z (committed u r) b.2.log b.2.goes_on.first here

not_above : (after lsn : ℕ) → lsn ≤ after → nat_lt after lsn ≡ false
not_above after lsn le = grind (arith, nat_tests)

-- WHAT A COMP-END LEAVES of the notes: all but the one that was undone
module _ {C N : Type 0} (u after : ℕ) where
  goes_up : (n : Top C N) (ns : List (Top C N)) → (n.transaction == u && nat_lt after n.lsn) ≡ true → notes_up_to u after (n ∷ ns) ≡ notes_up_to u after ns
  goes_up n ns e = ap (λ b. cond (not b) (n ∷ notes_up_to u after ns) (notes_up_to u after ns)) e

  stays_up : (n : Top C N) (ns : List (Top C N)) → (n.transaction == u && nat_lt after n.lsn) ≡ false → notes_up_to u after (n ∷ ns) ≡ n ∷ notes_up_to u after ns
  stays_up n ns e = ap (λ b. cond (not b) (n ∷ notes_up_to u after ns) (notes_up_to u after ns)) e

  up_rest : (ns : List (Top C N)) → Each (λ m. m.transaction ≡ u → m.lsn ≤ after) ns → notes_up_to u after ns ≡ ns
  up_rest [] h = refl
  up_rest (n ∷ ns) h = stays_up n ns (by (n.transaction == u) refl) ∙ ap (λ ms. n ∷ ms) (up_rest ns h.1)
    where
      by : (b : Bool) → (n.transaction == u) ≡ b → (b && nat_lt after n.lsn) ≡ false
      by true e = not_above after n.lsn (h.0 (number_is n.transaction u e))
      by false e = refl

  up_front : (later ns : List (Top C N)) → Each (λ m. m.transaction ≡ u → ⊥) later → notes_up_to u after (later ++ ns) ≡ later ++ notes_up_to u after ns
  up_front [] ns h = refl
  up_front (n ∷ later) ns h = stays_up n (later ++ ns) (ap (λ b. b && nat_lt after n.lsn) (other_number n.transaction u h.0)) ∙ ap (λ ms. n ∷ ms) (up_front later ns h.1)

  pub up_to : (later : List (Top C N)) (n : Top C N) (rest : List (Top C N)) → Each (λ m. m.transaction ≡ u → ⊥) later → n.transaction ≡ u → after < n.lsn
      → Each (λ m. m.transaction ≡ u → m.lsn ≤ after) rest → notes_up_to u after (later ++ n ∷ rest) ≡ later ++ rest
  up_to later n rest others own below behind = up_front later (n ∷ rest) others ∙ ap (λ ms. later ++ ms)
      (goes_up n rest (ap (λ b. b && nat_lt after n.lsn) (ap (λ v. v == u) own ∙ same_number u) ∙ above) ∙ up_rest rest behind)
    where
      above : nat_lt after n.lsn ≡ true
      above = grind (arith, nat_tests)

-- the notes of a log go on to one another
abbrev pub Chained : {C N : Type 0} → (later earlier : Top C N) → Type 0
Chained later earlier = earlier.transaction ≡ later.transaction → earlier.lsn ≤ later.undo_next

pub chained_bare : (s : Setting) (ns : List (Note s)) → Pairs (Ranks s) ns → Pairs Chained (map (bare s) ns)
chained_bare s [] h = tt
chained_bare s (n ∷ ns) h = (one n ns h.0, chained_bare s ns h.1)
  where
    one : (n : Note s) (ms : List (Note s)) → Each (Ranks s n) ms → Each (Chained (bare s n)) (map (bare s) ms)
    one n [] k = tt
    one n (m ∷ ms) k = (k.0.chained, one n ms k.1)

pub chained_back : {C N : Type 0} (later : List (Top C N)) (n : Top C N) (rest : List (Top C N)) → Pairs Chained (later ++ n ∷ rest) → Each (Chained n) rest
chained_back [] n rest h = h.0
chained_back (m ∷ later) n rest h = chained_back later n rest h.1
