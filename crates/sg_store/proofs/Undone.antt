-- One action of a transaction is undone.
use Rattle.std.proofs.Common.{◌≡◌, ℕ, ◌+◌, ◌<◌, ◌≤◌, Bool, true, false, not, cond, List, [], ◌∷◌, ◌++◌, map, Option, Some, refl, sym, ap, ◌∙◌, subst, arith}
use Rattle.std.specs.Prelude.{◌==◌, ◌&&◌, nat_lt, is_some}
use Rattle.std.proofs.lemmas.Bool.{eq-eqb, ne_eqb}
use Rattle.std.proofs.lemmas.Bool.Decides.{nat_tests}
use Rattle.std.proofs.lemmas.List.{append_assoc}
use Rattle.sg_disk.proofs.Moments.{started, weaker, joined}
use Rattle.sg_ops.specs.Table.{Table as Operations}
use Rattle.sg_serial.specs.Locks.{held_of}
use Rattle.sg_serial.specs.Runs.{is_live}
use Rattle.sg_core.specs.Live.{Txn}
use Rattle.sg_run.specs.Run.{Run, committed_objects}
use Rattle.sg_recovery.specs.Setting.{Setting}
use Rattle.sg_recovery.specs.Log.{Numbered, Top, tally, is_in, open_not_of, notes_of, notes_up_to}
use Rattle.sg_recovery.specs.Log.Record.{CompEnd}
use Rattle.sg_recovery.specs.Stands.{made, wants_one}
use Rattle.sg_recovery.specs.Laws.{Each, Note, bare}
use Rattle.sg_recovery.specs.Keeps.{HasUndone}
use Rattle.sg_recovery.specs.Shows.{IsNote}
use Rattle.sg_recovery.specs.Chains.{next_lsn, Formed, IsLast}
use Rattle.sg_recovery.specs.Claims.{Log}
use Rattle.sg_recovery.proofs.Basic.{some_one, each_back, each_more}
use Rattle.sg_recovery.proofs.Meeting.{last_of_own}
use Rattle.sg_join.specs.Join.{Grows, Keeps, FrontsStand}
use Rattle.sg_join.proofs.Fronts.{grows_trans}
use Rattle.sg_recovery.specs.Alike.{TakesTo}
use Rattle.sg_join.proofs.Keeping.{forced}
use Rattle.sg_join.proofs.Undoing.{last_undone, last_free}
use Rattle.sg_store.specs.Ground.{Ground, IsLawful, setting}
use Rattle.sg_store.specs.Engine.{View, Action, AreChanges, Changes, Changed, Rested, Appends, Appended, IsActing, pages_of}
use Rattle.sg_store.specs.Verbs.{CanReverse, Reversed}
use Rattle.sg_store.specs.Store.{Core, IsKept, Undoes, IsUndoing, AreOthersReserved, AreOwned, AreMarked}
use Rattle.sg_store.proofs.Marking.{marks_fewer}
use Rattle.sg_store.proofs.Owning.{grown, fewer, next_after}
use Rattle.sg_store.proofs.Live.{others_all, others_up_to, other_up_to}
use Rattle.sg_store.specs.Calls.{Stays, IsUndone, IsUndoingSince, TookNote}
use Rattle.sg_store.specs.Stands.{StandsFor}
use Rattle.sg_store.proofs.Images.{image_stands}
use Rattle.sg_store.proofs.Actions.{changes_keep, changes_notes, changes_next, reads_at}
use Rattle.sg_store.proofs.Aborting.{undoes_one}
use Rattle.std.proofs.lemmas.List.{map-append}
use Rattle.sg_recovery.specs.Shows.{Pairs}
use Rattle.sg_recovery.proofs.Basic.{same_number}
use Rattle.sg_recovery.specs.Shows.{Choice}
use Rattle.sg_room.specs.Lines.{UndoesEach, IsLeft}
use Rattle.sg_room.specs.Lines.UndoesEach.{and_one}
use Rattle.sg_room.specs.Marks.{undone}
use Rattle.sg_room.specs.Steps.{Step, RunStock}
use Rattle.sg_store.specs.Room.{step_of, is_of, BacksStock}
use Rattle.sg_store.proofs.Stocked.{backs_then, up_to, Chained, chained_bare, chained_back}

-- the last note of a transaction has what each note has
own_last : {C N : Type 0} (P : Top C N → Type 0) (ns : List (Top C N)) (u : ℕ) (n : Top C N) (own : List (Top C N)) → notes_of u ns ≡ n ∷ own → Each P ns → P n × (n.transaction ≡ u)
own_last P ns u n own e h = let l : IsLast ns u n = last_of_own ns u n own e in ((each_back P l.later (n ∷ l.rest) (subst (Each P) l.all h)).0, l.own)

each_bared : (s : Setting) (P : Top s.C s.N → Type 0) (ns : List (Note s)) (ts : List (Top s.C s.N)) → map (bare s) ns ≡ ts → Each (λ n. P (bare s n)) ns → Each P ts
each_bared s P ns ts e h = subst (Each P) e (onto ns h)
  where
    onto : (xs : List (Note s)) → Each (λ n. P (bare s n)) xs → Each P (map (bare s) xs)
    onto [] z = tt
    onto (x ∷ xs) z = (z.0, onto xs z.1)

-- no note of the transaction above a number is left, once those above it are gone
none_above : {C N : Type 0} (u after : ℕ) (ns : List (Top C N)) → Each (λ m. m.transaction ≡ u → m.lsn ≤ after) (notes_up_to u after ns)
none_above u after [] = tt
none_above {C} {N} u after (n ∷ ns) = go (n.transaction == u) (nat_lt after n.lsn) refl refl (none_above u after ns)
  where
    go : (a b : Bool) → (n.transaction == u) ≡ a → nat_lt after n.lsn ≡ b → Each (λ m. m.transaction ≡ u → m.lsn ≤ after) (notes_up_to u after ns) → Each (λ m. m.transaction ≡ u → m.lsn ≤ after) (cond (not (a && b)) (n ∷ notes_up_to u after ns) (notes_up_to u after ns))
    go true true e f h = h
    go true false e f h = ((λ same. grind (arith, nat_tests)), h)
    go false b e f h = ((λ same. absurd (clash (eq-eqb n.transaction u same) e)), h)
      where
        clash : (n.transaction == u) ≡ true → (n.transaction == u) ≡ false → ⊥
        clash y z = absurd (cc)

module _ (t : Operations) (g : Ground) where
  -- some changes of an action behind others of it
  pub changes_join : (first : g.X) (a : Action g) (es ds log : List (Numbered g.C g.N)) → AreChanges t g first a es (ds ++ log) → AreChanges t g first a ds log → AreChanges t g first a (es ++ ds) log
  changes_join first a [] ds log h k = k
  changes_join first a (r ∷ es) ds log h k =
      let e : (es ++ ds) ++ log ≡ es ++ (ds ++ log) = append_assoc es ds log in (
        h.0,
        subst (λ (l : List (Numbered g.C g.N)). next_lsn l ≤ r.lsn) (sym e) h.1,
        subst (λ (l : List (Numbered g.C g.N)). TakesTo (setting t g) g.Alike a.pages (tally (r ∷ l)).opened (made (setting t g) first (r ∷ l))) (sym e) h.2,
        changes_join first a es ds log h.3 k,
      )

  -- a log while a transaction is undone, where more of it is durable
  pub undoes_moved : (pages other : g.X) (durable more log new : Log (setting t g)) (x : Run) (u from : ℕ) → pages ≡ other → log ≡ new → Grows durable more → Undoes t g pages durable log x u from → Undoes t g other more new x u from
  undoes_moved pages other durable more log new x u from e f grows k =
      subst (λ l. Undoes t g other more l x u from) f (subst (λ p. Undoes t g p more log x u from) e (record {
        sound = k.sound;
        next = k.next;
        whole = k.whole;
        same = k.same;
        points = k.points;
        history = k.history;
        rest = k.rest;
        keeps = forced (setting t g) x.so_far.first pages (committed_objects t x) (held_of x.so_far.held) durable more log k.history grows k.keeps;
      }))

module _ (t : Operations) (g : Ground) (lawful : IsLawful t g) (v : View g) (txns : List Txn) (x : Run) (u from at : ℕ) (k : IsUndoing t g v txns x u from at) (live : is_live x.so_far.live u ≡ true) where
  abbrev pub o : g.O
  o = k.undoes.keeps.running.reading

  abbrev pub begun : Action g
  begun = record { transaction = u; pages = pages_of t g v }

  reads_o : g.reading (pages_of t g v) ≡ Some o
  reads_o = reads_at t g lawful v.first v.durable x.so_far.first (committed_objects t x) (held_of x.so_far.held) k.undoes.history v.log k.undoes.keeps k.idle

  going : is_in u (tally v.log).live ≡ true
  going = k.undoes.same.lives u ∙ live

  -- nothing was left
  pub undid_none : (w : View g) → Rested t g v w → IsUndoing t g w txns x u from at
  undid_none w r = record {
    live = k.live;
    answered = k.answered;
    engine = r.goes_on.engine;
    idle = ap (λ (l : List (Numbered g.C g.N)). (tally l).opened) r.log ∙ k.idle;
    undoes = undoes_moved t g v.first w.first v.durable w.durable v.log w.log x u from (sym r.goes_on.first) (sym r.log) r.goes_on.durable k.undoes;
    free = λ b e. r.pages ∙ k.free b (subst (λ (l : List (Numbered g.C g.N)). g.reading (made (setting t g) v.first l) ≡ Some b) r.log (subst (λ p. g.reading (made (setting t g) p w.log) ≡ Some b) r.goes_on.first e));
    most = subst (λ (l : List (Numbered g.C g.N)). Each (λ m. m.transaction ≡ u → m.lsn ≤ at) (tally l).notes) (sym r.log) k.most;
    reserved = subst (λ (l : List (Numbered g.C g.N)). AreOthersReserved (setting t g) txns (tally l).notes u) (sym r.log) k.reserved;
    buried = λ b e. subst (λ (l : List (Numbered g.C g.N)). AreOwned g x.so_far.live x.so_far.held (next_lsn l) b) (sym r.log)
        (k.buried b (subst (λ (l : List (Numbered g.C g.N)). g.reading (made (setting t g) v.first l) ≡ Some b) r.log (subst (λ p. g.reading (made (setting t g) p w.log) ≡ Some b) r.goes_on.first e)));
    marked = λ b e. k.marked b (subst (λ (l : List (Numbered g.C g.N)). g.reading (made (setting t g) v.first l) ≡ Some b) r.log (subst (λ p. g.reading (made (setting t g) p w.log) ≡ Some b) r.goes_on.first e));
    marks = k.marks;
  }

  pub none_still : (w : View g) → Rested t g v w → notes_of u (tally v.log).notes ≡ [] → notes_of u (tally w.log).notes ≡ []
  none_still w r e = ap (λ (l : List (Numbered g.C g.N)). notes_of u (tally l).notes) r.log ∙ e

  keeps_over : (durable : Log (setting t g)) → Grows v.durable durable → (ds : Log (setting t g)) → AreChanges t g v.first begun ds v.log → Keeps (setting t g) x.so_far.first v.first (committed_objects t x) (held_of x.so_far.held) durable (ds ++ v.log) k.undoes.history
  keeps_over durable grows ds are = changes_keep t g lawful v.first durable x.so_far.first (committed_objects t x) (held_of x.so_far.held) k.undoes.history begun o ds v.log reads_o refl k.idle are
      (forced (setting t g) x.so_far.first v.first (committed_objects t x) (held_of x.so_far.held) v.durable durable v.log k.undoes.history grows k.undoes.keeps)

  -- the step back began
  pub step_stays : (w : View g) (c : Changes t g begun v w) → Stays t g v w x
  step_stays w c = weaker c.moments (λ i h. image_stands t g v (committed_objects t x) (c.made ++ v.log) (keeps_over v.durable (record { since = []; all = refl }) c.made c.are).fronts i h)

  module _ (n : Top g.C g.N) (own : List (Top g.C g.N)) (low : from ≤ n.lsn) (stands : notes_of u (tally v.log).notes ≡ n ∷ own) where
    -- undoing goes on below the number
    pub falls : n.undo_next < at
    falls =
        let s = own_last (λ m. IsNote (tally v.log).live (next_lsn v.log) m.transaction m.lsn m.undo_next) (tally v.log).notes u n own stands
        (each_bared (setting t g) (λ m. IsNote (tally v.log).live (next_lsn v.log) m.transaction m.lsn m.undo_next) k.undoes.keeps.running.placed (tally v.log).notes k.undoes.keeps.running.are k.undoes.keeps.running.notes) in
        let m = own_last (λ m. m.transaction ≡ u → m.lsn ≤ at) (tally v.log).notes u n own stands k.most in
        let below : n.undo_next < n.lsn = s.0.before in
        let most : n.lsn ≤ at = m.0 m.1 in
        omega (arith, below, most)

    module _ (w1 : View g) (c1 : Changes t g begun v w1) (changed1 : Changed t g begun v w1 c1.made) (same_free : w1.free_pages ≡ v.free_pages) (back : g.PutsBack t n.note n.changes (tally w1.log).opened begun.pages (pages_of t g w1)) where
      pub can : CanReverse t g begun w1 o n
      can = record {
        reads = reads_o;
        possible = (let p = last_undone (setting t g) x.so_far.first (next_lsn v.log) (held_of x.so_far.held) (tally v.log) (made (setting t g) v.first v.log) k.undoes.history k.undoes.keeps.running u n own stands going in ap (λ (z : Option g.O). is_some z) p.1);
        page = (let f : wants_one (setting t g) n ≤ g.free o = last_free (setting t g) x.so_far.first (next_lsn v.log) (held_of x.so_far.held) (tally v.log) (made (setting t g) v.first v.log) k.undoes.history k.undoes.keeps.running u n own stands in
            subst (λ i. wants_one (setting t g) n ≤ i) (sym (same_free ∙ k.free o reads_o)) f);
        back = back;
      }

      module _ (w2 : View g) (c2 : Changes t g begun w1 w2) where
        abbrev both : Log (setting t g)
        both = c2.made ++ c1.made

        are : AreChanges t g v.first begun both v.log
        are = changes_join t g v.first begun c2.made c1.made v.log
            (subst (λ (l : List (Numbered g.C g.N)). AreChanges t g v.first begun c2.made l) changed1.log (subst (λ p. AreChanges t g p begun c2.made w1.log) changed1.goes_on.first c2.are)) c1.are

        log_is : c2.made ++ w1.log ≡ both ++ v.log
        log_is = ap (λ l. c2.made ++ l) changed1.log ∙ sym (append_assoc c2.made c1.made v.log)

        pub reverse_stays : Stays t g v w2 x
        reverse_stays = joined (step_stays w1 c1) (weaker c2.moments (λ i h. image_stands t g w1 (committed_objects t x) (c2.made ++ w1.log)
            (subst (λ p. FrontsStand (setting t g) p (committed_objects t x) w1.durable (c2.made ++ w1.log)) (sym changed1.goes_on.first)
            (subst (λ l. FrontsStand (setting t g) v.first (committed_objects t x) w1.durable l) (sym log_is) (keeps_over w1.durable changed1.goes_on.durable both are).fronts)) i h))

        -- the note still is the transaction's last
        pub stands_still : Changed t g begun w1 w2 c2.made → notes_of u (tally w2.log).notes ≡ n ∷ own
        stands_still d = ap (λ (ls : List (Numbered g.C g.N)). notes_of u (tally ls).notes) (d.log ∙ log_is) ∙ (ap (λ ns. notes_of u ns) (changes_notes t g lawful v.first v.durable begun both v.log are) ∙ stands)

        module _ (changed2 : Changed t g begun w1 w2 c2.made) (rev : Reversed t g w2 o n) (w3 : View g) (l p after : ℕ) (next : n.undo_next ≡ after) (ends : Appends t g w2 w3 (record { lsn = l; is = CompEnd u p after })) where
          all_log : w2.log ≡ both ++ v.log
          all_log = changed2.log ∙ log_is

          first_is : w2.first ≡ v.first
          first_is = changed2.goes_on.first ∙ changed1.goes_on.first

          grows : Grows v.durable w2.durable
          grows = grows_trans v.durable w1.durable w2.durable changed1.goes_on.durable changed2.goes_on.durable

          before : Undoes t g v.first w2.durable v.log x u from
          before = undoes_moved t g v.first v.first v.durable w2.durable v.log v.log x u from refl refl grows k.undoes

          o_is : before.keeps.running.reading ≡ o
          o_is = some_one before.keeps.running.reading o (sym (reads_at t g lawful v.first w2.durable x.so_far.first (committed_objects t x) (held_of x.so_far.held) before.history v.log before.keeps k.idle) ∙ reads_o)

          alone : open_not_of u (tally (both ++ v.log)).opened ≡ []
          alone = subst (λ (ls : List (Numbered g.C g.N)). open_not_of u (tally ls).opened ≡ []) all_log (subst (IsActing t g w2) changed2.action changed2.goes_on.engine.acting).0

          reads_after : g.reading (made (setting t g) v.first (both ++ v.log)) ≡ Some rev.now
          reads_after = subst (λ (ls : List (Numbered g.C g.N)). g.reading (made (setting t g) v.first ls) ≡ Some rev.now) all_log (subst (λ q. g.reading (made (setting t g) q w2.log) ≡ Some rev.now) first_is rev.reads.reading)

          undone_is : HasUndone (setting t g) n (made (setting t g) v.first (both ++ v.log)) before.keeps.running.reading
          undone_is = subst (λ z. HasUndone (setting t g) n (made (setting t g) v.first (both ++ v.log)) z) (sym o_is)
              (subst (λ (ls : List (Numbered g.C g.N)). HasUndone (setting t g) n (made (setting t g) v.first ls) o) all_log (subst (λ q. HasUndone (setting t g) n (made (setting t g) q w2.log) o) first_is rev.undone))

          then : Undoes t g v.first w2.durable (record { lsn = l; is = CompEnd u p after } ∷ (both ++ v.log)) x u from
          then =
              let formed : Formed (record { lsn = l; is = CompEnd u p after } ∷ (both ++ v.log)) = subst (λ (ls : List (Numbered g.C g.N)). Formed (record { lsn = l; is = CompEnd u p after } ∷ ls)) all_log ends.formed.chained in
              undoes_one t g lawful v.first w2.durable v.log x u from before k.idle begun refl both are l p after n own low stands next formed.0 alone (changes_notes t g lawful v.first w2.durable begun both v.log are) undone_is
              (λ b e. subst (λ z. g.free z ≤ g.free b + wants_one (setting t g) n) (sym o_is) (subst (λ z. g.free o ≤ g.free z + wants_one (setting t g) n) (some_one rev.now b (sym reads_after ∙ e)) rev.took))

          then_now : Undoes t g w2.first w2.durable (record { lsn = l; is = CompEnd u p after } ∷ w2.log) x u from
          then_now = undoes_moved t g v.first w2.first w2.durable w2.durable (record { lsn = l; is = CompEnd u p after } ∷ (both ++ v.log)) (record { lsn = l; is = CompEnd u p after } ∷ w2.log) x u from (sym first_is)
              (ap (λ ls. record { lsn = l; is = CompEnd u p after } ∷ ls) (sym all_log)) (record { since = []; all = refl }) then

          pub end_undo_stays : Stays t g v w3 x
          end_undo_stays = joined reverse_stays (weaker ends.moments (λ i h. image_stands t g w2 (committed_objects t x) (record { lsn = l; is = CompEnd u p after } ∷ w2.log) then_now.keeps.fronts i h))

          last : IsLast (tally v.log).notes u n
          last = last_of_own (tally v.log).notes u n own stands

          before_it : n.undo_next < n.lsn
          before_it = (own_last (λ m. IsNote (tally v.log).live (next_lsn v.log) m.transaction m.lsn m.undo_next) (tally v.log).notes u n own stands
              (each_bared (setting t g) (λ m. IsNote (tally v.log).live (next_lsn v.log) m.transaction m.lsn m.undo_next)
              k.undoes.keeps.running.placed (tally v.log).notes k.undoes.keeps.running.are k.undoes.keeps.running.notes)).0.before

          chained : Each (Chained n) last.rest
          chained = chained_back last.later n last.rest (subst (Pairs Chained) (k.undoes.keeps.running.are ∙ last.all)
              (chained_bare (setting t g) k.undoes.keeps.running.placed k.undoes.keeps.running.ranks))

          less : notes_up_to u after (last.later ++ n ∷ last.rest) ≡ last.later ++ last.rest
          less = up_to u after last.later n last.rest last.others last.own (subst (λ z. z < n.lsn) next before_it)
              (each_more (Chained n) (λ m. m.transaction ≡ u → m.lsn ≤ after) last.rest
              (λ m z e. subst (λ i. m.lsn ≤ i) next (z (e ∙ sym last.own))) chained)

          notes_now : Appended t g w2 w3 (record { lsn = l; is = CompEnd u p after }) → (tally w3.log).notes ≡ notes_up_to u after (tally v.log).notes
          notes_now d = ap (λ (ks : List (Numbered g.C g.N)). (tally ks).notes) d.log
              ∙ (ap (λ (ks : List (Numbered g.C g.N)). notes_up_to u after (tally ks).notes) all_log
              ∙ ap (λ ns. notes_up_to u after ns) (changes_notes t g lawful v.first v.durable begun both v.log are))

          -- of the notes it has left the others, and its transaction's but for the last
          pub undid_note : (into : List ℕ) → g.note into ≡ n.note → Appended t g w2 w3 (record { lsn = l; is = CompEnd u p after }) → TookNote t g v w3 u into
          undid_note into said d = record {
            last = n;
            own = own;
            was = stands;
            said = said;
            left = ap (λ ns. notes_of u ns) (notes_now d ∙ (ap (λ ns. notes_up_to u after ns) last.all ∙ less))
                ∙ own_is (passed_by last.later (last.rest) last.others) (sym (passed_by last.later (n ∷ last.rest) last.others) ∙ (ap (λ ns. notes_of u ns) (sym last.all) ∙ stands));
            others = λ i ne. ap (λ ns. notes_of i ns) (notes_now d) ∙ other_up_to (tally v.log).notes u i after ne;
          }
            where
              passed_by : (ms ns : List (Top g.C g.N)) → Each (λ m. m.transaction ≡ u → ⊥) ms → notes_of u (ms ++ ns) ≡ notes_of u ns
              passed_by [] ns h = refl
              passed_by (m ∷ ms) ns h = ap (λ b. cond b (m ∷ notes_of u (ms ++ ns)) (notes_of u (ms ++ ns))) (ne_eqb m.transaction u h.0) ∙ passed_by ms ns h.1

              own_is : notes_of u (last.later ++ last.rest) ≡ notes_of u last.rest → notes_of u (n ∷ last.rest) ≡ n ∷ own → notes_of u (last.later ++ last.rest) ≡ own
              own_is a b = a ∙ rest_is (ap (λ z. cond z (n ∷ notes_of u last.rest) (notes_of u last.rest)) (sym (ap (λ z. z == u) last.own ∙ same_number u)) ∙ b)
                where
                  rest_is : n ∷ notes_of u last.rest ≡ n ∷ own → notes_of u last.rest ≡ own
                  rest_is e = cc

          -- of the stock it undid what the note's undoing takes
          pub undid_stock : (f : Choice) → ((ns : List (Top g.C g.N)) → Each (λ m. m.transaction ≡ u → ⊥) ns → Each (IsLeft f) (map (step_of g) ns)) → f u n.lsn ≡ true
              → Appended t g w2 w3 (record { lsn = l; is = CompEnd u p after }) → BacksStock t g v w3 f
          undid_stock f passed chosen d r shown = (
            less_it,
            (λ z e. subst (λ ss. UndoesEach f (record { marks = r.marks; steps = ss }) z) (sym steps_are)
                (and_one r.marks ls rs (step_of g n) z (passed last.later last.others) (ap (λ b. f b n.lsn) last.own ∙ chosen) e)),
            record {
              marks = λ b e. ap (λ z. g.marks z) (sym (some_one rev.now b (sym rev.reads.reading
                  ∙ subst (λ (ls : List (Numbered g.C g.N)). g.reading (made (setting t g) w2.first ls) ≡ Some b) d.log
                  (subst (λ q. g.reading (made (setting t g) q w3.log) ≡ Some b) d.goes_on.first e))))
                  ∙ (rev.stock ∙ ap (λ ms. undone (g.kind n.note) (g.named n.note) ms) (shown.marks o reads_o));
              steps = ap (λ (ks : List (Numbered g.C g.N)). map (step_of g) (tally ks).notes) d.log
                  ∙ (ap (λ (ks : List (Numbered g.C g.N)). map (step_of g) (notes_up_to u after (tally ks).notes)) all_log
                  ∙ (ap (λ ns. map (step_of g) (notes_up_to u after ns)) (changes_notes t g lawful v.first v.durable begun both v.log are ∙ last.all)
                  ∙ (ap (λ ns. map (step_of g) ns) less ∙ map-append (step_of g) last.later last.rest)));
            },
          )
            where
              ls : List Step
              ls = map (step_of g) last.later

              rs : List Step
              rs = map (step_of g) last.rest

              steps_are : r.steps ≡ ls ++ step_of g n ∷ rs
              steps_are = sym shown.steps ∙ (ap (λ ns. map (step_of g) ns) last.all ∙ map-append (step_of g) last.later (n ∷ last.rest))

              less_it : RunStock
              less_it = record { marks = undone (g.kind n.note) (g.named n.note) r.marks; steps = ls ++ rs }

          pub undid_one : Appended t g w2 w3 (record { lsn = l; is = CompEnd u p after }) → IsUndoing t g w3 txns x u from after
          undid_one d = record {
            live = k.live;
            answered = k.answered;
            engine = d.goes_on.engine;
            idle = ap (λ (ls : List (Numbered g.C g.N)). (tally ls).opened) d.log ∙ subst (λ (ls : List (Numbered g.C g.N)). open_not_of u (tally ls).opened ≡ []) (sym all_log) alone;
            undoes = undoes_moved t g w2.first w3.first w2.durable w3.durable (record { lsn = l; is = CompEnd u p after } ∷ w2.log) w3.log x u from (sym d.goes_on.first) (sym d.log) d.goes_on.durable then_now;
            free = λ b e. d.pages ∙ (rev.reads.free ∙ ap (λ z. g.free z) (some_one rev.now b (sym rev.reads.reading
                ∙ subst (λ (ls : List (Numbered g.C g.N)). g.reading (made (setting t g) w2.first ls) ≡ Some b) d.log (subst (λ q. g.reading (made (setting t g) q w3.log) ≡ Some b) d.goes_on.first e))));
            most = subst (λ (ls : List (Numbered g.C g.N)). Each (λ m. m.transaction ≡ u → m.lsn ≤ after) (tally ls).notes) (sym d.log) (none_above u after (tally w2.log).notes);
            reserved = subst (λ (ls : List (Numbered g.C g.N)). AreOthersReserved (setting t g) txns (tally ls).notes u) (sym d.log)
                (others_up_to (setting t g) txns (tally w2.log).notes u after (subst (λ ns. AreOthersReserved (setting t g) txns ns u)
                (sym (ap (λ (ls : List (Numbered g.C g.N)). (tally ls).notes) all_log ∙ changes_notes t g lawful v.first v.durable begun both v.log are)) k.reserved));
            buried = λ b e. subst (λ z. AreOwned g x.so_far.live x.so_far.held (next_lsn w3.log) z) (some_one rev.now b (sym rev.reads.reading
                ∙ subst (λ (ls : List (Numbered g.C g.N)). g.reading (made (setting t g) w2.first ls) ≡ Some b) d.log (subst (λ q. g.reading (made (setting t g) q w3.log) ≡ Some b) d.goes_on.first e)))
                (grown t g x.so_far.live x.so_far.held (next_lsn v.log) (next_lsn w3.log) rev.now up (fewer t g x.so_far.live x.so_far.held (next_lsn v.log) o rev.now rev.buried (k.buried o reads_o)));
            marked = λ b e. subst (λ z. AreMarked g txns z) (some_one rev.now b (sym rev.reads.reading
                ∙ subst (λ (ls : List (Numbered g.C g.N)). g.reading (made (setting t g) w2.first ls) ≡ Some b) d.log (subst (λ q. g.reading (made (setting t g) q w3.log) ≡ Some b) d.goes_on.first e)))
                (marks_fewer g txns o rev.now rev.buried (k.marked o reads_o));
            marks = k.marks;
          }
            where
              up : next_lsn v.log ≤ next_lsn w3.log
              up = let a1 : next_lsn v.log ≤ next_lsn (both ++ v.log) = changes_next t g lawful v.first v.durable begun both v.log are in
                  let a2 : next_lsn w2.log ≡ next_lsn (both ++ v.log) = ap (λ (ls : List (Numbered g.C g.N)). next_lsn ls) all_log in
                  let a3 : next_lsn w2.log ≤ next_lsn w3.log = next_after t g w2 w3 (record { lsn = l; is = CompEnd u p after }) d in omega (arith, a1, a2, a3)

-- a transaction of which nothing has been undone
pub kept_undoing : (t : Operations) (g : Ground) (v : View g) (txns : List Txn) (x : Run) (u from : ℕ) → IsKept t g v txns x → IsUndoing t g v txns x u from v.tail
kept_undoing t g v txns x u from k = record {
  live = k.live;
  answered = k.answered;
  engine = k.engine;
  idle = k.idle;
  undoes = record { sound = k.logs.sound; next = k.logs.next; whole = k.logs.history; same = k.logs.same; points = k.logs.points; history = k.logs.history; rest = refl; keeps = k.logs.keeps };
  free = k.free;
  most = each_bared (setting t g) (λ m. m.transaction ≡ u → m.lsn ≤ v.tail) k.logs.keeps.running.placed (tally v.log).notes k.logs.keeps.running.are
      (each_more (λ n. IsNote (tally v.log).live (next_lsn v.log) n.transaction n.lsn n.undo_next) (λ n. n.transaction ≡ u → n.lsn ≤ v.tail) k.logs.keeps.running.placed (λ n z e. let low : n.lsn < next_lsn v.log = z.low in let up : next_lsn v.log ≤ v.tail = k.engine.below in omega (arith, low, up)) k.logs.keeps.running.notes);
  reserved = others_all (setting t g) txns (tally v.log).notes u k.reserved;
  buried = k.buried;
  marked = k.marked;
  marks = k.marks;
}

-- and one more has been
module _ (t : Operations) (g : Ground) (lawful : Type 0) (v w z : View g) (before now : Core) (u at : ℕ) (s : IsUndoingSince t g lawful v w before now u at) where
  pub since_more : (more : Core) (after : ℕ) → more ≡ now → w.faults ≤ z.faults → w.tail ≤ z.tail
      → ((x : Run) → lawful → IsUndoing t g w now.live x u 0 at → is_live x.so_far.live u ≡ true → Stays t g w z x)
      → ((x : Run) → lawful → IsUndoing t g w now.live x u 0 at → is_live x.so_far.live u ≡ true → IsUndoing t g z now.live x u 0 after × BacksStock t g w z (is_of u))
      → IsUndoingSince t g lawful v z before more u after
  since_more more after same later tail stays goes = record {
    stays = λ x l k live. joined (s.stays x l k live) (stays x l (here x (s.undoing x l k live)) live);
    undoing = λ x l k live. subst (λ (c : Core). IsUndoing t g z c.live x u 0 after) s.same (goes x l (here x (s.undoing x l k live)) live).0;
    stock = λ x l k live. backs_then t g v w z (is_of u) (s.stock x l k live) (goes x l (here x (s.undoing x l k live)) live).1;
    later = (let a : v.faults ≤ w.faults = s.later in omega (arith, a, later));
    tail = (let a : v.tail ≤ w.tail = s.tail in omega (arith, a, tail));
    same = same ∙ s.same;
  }
    where
      here : (x : Run) → IsUndoing t g w before.live x u 0 at → IsUndoing t g w now.live x u 0 at
      here x h = subst (λ (c : Core). IsUndoing t g w c.live x u 0 at) (sym s.same) h

  pub since_stays : (x : Run) → lawful → IsKept t g v before.live x → is_live x.so_far.live u ≡ true → (IsUndoing t g w now.live x u 0 at → Stays t g w z x) → Stays t g v z x
  since_stays x l k live stays = joined (s.stays x l k live) (stays (subst (λ (c : Core). IsUndoing t g w c.live x u 0 at) (sym s.same) (s.undoing x l k live)))

  pub since_stock : (x : Run) → lawful → IsKept t g v before.live x → is_live x.so_far.live u ≡ true
      → (IsUndoing t g w now.live x u 0 at → IsUndoing t g z now.live x u 0 at × (notes_of u (tally z.log).notes ≡ []) × BacksStock t g w z (is_of u)) → BacksStock t g v z (is_of u)
  since_stock x l k live goes = backs_then t g v w z (is_of u) (s.stock x l k live)
      (goes (subst (λ (c : Core). IsUndoing t g w c.live x u 0 at) (sym s.same) (s.undoing x l k live))).2

  pub since_done : (x : Run) → lawful → IsKept t g v before.live x → is_live x.so_far.live u ≡ true
      → (IsUndoing t g w now.live x u 0 at → IsUndoing t g z now.live x u 0 at × (notes_of u (tally z.log).notes ≡ []) × BacksStock t g w z (is_of u)) → IsUndone t g z before.live x u
  since_done x l k live goes =
      let h = goes (subst (λ (c : Core). IsUndoing t g w c.live x u 0 at) (sym s.same) (s.undoing x l k live)) in
      record { at = at; undoing = subst (λ (c : Core). IsUndoing t g z c.live x u 0 at) s.same h.0; none = h.1 }

pub since_none : (t : Operations) (g : Ground) (lawful : Type 0) (v : View g) (k : Core) (u at : ℕ) → at ≡ v.tail → IsUndoingSince t g lawful v v k k u at
since_none t g lawful v k u at e = record {
  stays = λ x l h live. started v.disk (λ c. StandsFor t g c (committed_objects t x)) (λ c i. image_stands t g v (committed_objects t x) v.log h.logs.keeps.fronts c (h.engine.images c i));
  undoing = λ x l h live. subst (λ n. IsUndoing t g v k.live x u 0 n) (sym e) (kept_undoing t g v k.live x u 0 h);
  stock = λ x l h live r shown. (r, (λ after e. e), shown);
  later = omega arith;
  tail = omega arith;
  same = refl;
}
