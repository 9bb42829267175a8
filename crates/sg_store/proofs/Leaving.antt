-- Behind a commit: what the transaction dropped is freed, and it ends.
use Rattle.std.proofs.Common.{◌≡◌, ◌⊎◌, inl, inr, ℕ, ◌+◌, ◌<◌, ◌≤◌, Bool, true, false, not, cond, List, [], ◌∷◌, ◌++◌, map, Option, Some, refl, sym, ap, ◌∙◌, subst, arith}
use Rattle.std.specs.Prelude.{◌==◌, ◌&&◌, ◌||◌}
use Rattle.sg_disk.proofs.Moments.{started, weaker, joined}
use Rattle.sg_ops.specs.Table.{Table as Operations}
use Rattle.sg_serial.specs.Locks.{Touch, held_of, released}
use Rattle.sg_serial.specs.Runs.{Live, is_live}
use Rattle.sg_serial.specs.Runs as runs
use Rattle.sg_serial.proofs.Lists.{live-without}
use Rattle.sg_model.specs.Touches.{Cell, Resource}
use Rattle.sg_core.specs.Live.{Txn, without, has_dropped}
use Rattle.sg_core.specs.Live.{is_live as is_listed}
use Rattle.sg_run.specs.Run.{Run, committed, committed_objects}
use Rattle.sg_recovery.specs.Log.{Record, Numbered, Top, Tally, tally, is_in, open_not_of, notes_not_of}
use Rattle.sg_recovery.specs.Log as log
use Rattle.sg_recovery.specs.Log.Record.{Begin, Change, TopEnd, PhysComp, TopVoid, CompEnd, Save, Commit, End}
use Rattle.sg_recovery.specs.Stands.{made, settled}
use Rattle.sg_recovery.specs.Laws.{Each}
use Rattle.sg_recovery.specs.Shows.{IsNote}
use Rattle.sg_recovery.specs.Runs.{DoesFree}
use Rattle.sg_recovery.specs.Runs.Goes.{frees, ends_over}
use Rattle.sg_recovery.specs.Chains.{next_lsn, Formed}
use Rattle.sg_recovery.specs.Claims.{Log}
use Rattle.sg_recovery.proofs.Basic.{some_one, each_more, number_is, same_number}
use Rattle.sg_join.specs.Join.{Grows, Keeps, IsOf}
use Rattle.sg_join.proofs.Keeping as keeping
use Rattle.sg_join.proofs.Histories.{lives_same}
use Rattle.sg_join.proofs.Points.{wider}
use Rattle.sg_store.specs.Ground.{Ground, IsLawful, setting, are_written}
use Rattle.sg_store.specs.Engine.{View, Action, Changes, Rests, Rested, Appends, Appended, IsEngine, IsActing, pages_of, is_going}
use Rattle.sg_store.proofs.Counting.{changes_going}
use Rattle.sg_store.specs.Verbs.{Reads, IsFreed}
use Rattle.sg_store.specs.Store.{Core, IsKept, IsLeaving, HasNone, Logs, AreReserved, AreOwned, AreMarked}
use Rattle.sg_store.specs.Stands.{StandsFor}
use Rattle.sg_store.specs.Calls.{Stays, Frees, IsLeavingSince, MOST}
use Rattle.sg_store.proofs.Images.{image_stands}
use Rattle.sg_store.proofs.Granted.{not_written, others_hold}
use Rattle.sg_store.proofs.Lines.{in_without}
use Rattle.sg_store.proofs.Live.{each_bare}
use Rattle.sg_store.proofs.Actions.{changes_live, changes_notes, changes_next, changes_keep, reads_now, settles}
use Rattle.sg_store.proofs.Calls.{moved, call_stands}
use Rattle.sg_store.proofs.Marking.{marks_fewer, marks_without, none_unmarked}
use Rattle.sg_room.specs.Marks.{freed}
use Rattle.sg_store.specs.Room.{step_of, FreesStock}
use Rattle.sg_store.proofs.Stocked.{frees_then, frees_nothing}
use Rattle.sg_store.proofs.Owning.{Inside, grown, fewer, owned_ended, next_after, differs}

clashing : {A : Type 0} (b : Bool) → b ≡ true → b ≡ false → A
clashing true x y = absurd (cc)
clashing false x y = absurd (cc)

-- each transaction of a formed log is the number of its begin, so none is the system's
above_zero : {C N : Type 0} (rs : List (Numbered C N)) → Formed rs → is_in 0 (tally rs).live ≡ false
above_zero [] h = refl
above_zero {C = C} {N = N} (r ∷ rs) h = by_record r.is h.1 (above_zero rs h.2)
  where
    low : next_lsn rs ≤ r.lsn → 0 < r.lsn
    low le = first rs le
      where
        first : (xs : List (Numbered C N)) → next_lsn xs ≤ r.lsn → 0 < r.lsn
        first [] k = omega (arith, k)
        first (x ∷ xs) k = omega (arith, k)

    gone : (t : ℕ) → is_in 0 (tally rs).live ≡ false → is_in 0 (log.without t (tally rs).live) ≡ false
    gone t e = in_without t 0 (tally rs).live ∙ ap (λ b. b && not (0 == t)) e

    not_first : (t : ℕ) → t ≡ r.lsn → 0 < r.lsn → (t == 0) ≡ false
    not_first t e pos = by_test (t == 0) refl
      where
        by_test : (b : Bool) → (t == 0) ≡ b → b ≡ false
        by_test true f = absurd (let z : t ≡ 0 = number_is t 0 f in omega (arith, z, e, pos))
        by_test false f = refl

    either_false : (a b : Bool) → a ≡ false → b ≡ false → (a || b) ≡ false
    either_false true b x y = x
    either_false false b x y = y

    by_record : (i : Record C N) → (Rattle.sg_recovery.specs.Chains.IsKnown (tally rs) i → Rattle.sg_recovery.specs.Chains.Follows rs r.lsn i) → is_in 0 (tally rs).live ≡ false → is_in 0 (log.said r.lsn i (tally rs)).live ≡ false
    by_record (Begin t p) f e = either_false (t == 0) (is_in 0 (tally rs).live) (not_first t (f tt).0 (low h.0)) e
    by_record (Change t p c) f e = e
    by_record (TopEnd t p u n) f e = e
    by_record (PhysComp t p u c) f e = e
    by_record (TopVoid t p u) f e = e
    by_record (CompEnd t p u) f e = e
    by_record (Save t p m) f e = e
    by_record (Commit t p) f e = gone t e
    by_record (End t p) f e = gone t e

-- notes of others stay
none_own : {C N : Type 0} (u : ℕ) (ns : List (Top C N)) → Each (λ n. n.transaction ≡ u → ⊥) ns → notes_not_of u ns ≡ ns
none_own u [] h = refl
none_own {C = C} {N = N} u (n ∷ ns) h = go (n.transaction == u) refl (none_own u ns h.1)
  where
    go : (b : Bool) → (n.transaction == u) ≡ b → notes_not_of u ns ≡ ns → cond (not b) (n ∷ notes_not_of u ns) (notes_not_of u ns) ≡ n ∷ ns
    go true e f = absurd (h.0 (number_is n.transaction u e))
    go false e f = ap (λ ms. n ∷ ms) f

module _ (t : Operations) (g : Ground) (lawful : IsLawful t g) (v : View g) (txns : List Txn) (x : Run) (u : ℕ) (k : IsLeaving t g v txns x u) where
  abbrev pub o : g.O
  o = k.logs.keeps.running.reading

  abbrev pub begun : Action g
  begun = record { transaction = 0; pages = pages_of t g v }

  reads_o : g.reading (pages_of t g v) ≡ Some o
  reads_o = reads_now t g lawful v.first v.durable v.log (committed x u) k.logs k.idle

  pub reads_so : Reads t g v o
  reads_so = record { reading = reads_o; free = k.free o reads_o }

  -- it isn't live any more
  pub gone : is_live (committed x u).so_far.live u ≡ false
  gone = live-without u x.so_far.live u ∙ (ap (λ b. is_live x.so_far.live u && not b) (same_number u) ∙ none (is_live x.so_far.live u))
    where
      none : (b : Bool) → (b && false) ≡ false
      none true = refl
      none false = refl

  -- nothing is freed of one that isn't marked
  pub unfreed_stays : Stays t g v v (committed x u)
  unfreed_stays = started v.disk (λ c. StandsFor t g c (committed_objects t (committed x u))) (λ c i. image_stands t g v (committed_objects t (committed x u)) v.log k.logs.keeps.fronts c (k.engine.images c i))

  pub unfreed_none : is_listed txns u ≡ true → has_dropped txns u ≡ false → HasNone t g v u
  unfreed_none live none b e f is = none_unmarked g txns u b (k.marked b e) live none f is

  -- nothing is appended
  pub rested_leaving : (w : View g) → Rested t g v w → IsLeaving t g w txns x u
  rested_leaving w r = record {
    was = k.was;
    going = subst (λ (l : List (Numbered g.C g.N)). is_going u l ≡ true) (sym r.log) k.going;
    sound = k.sound;
    live = k.live;
    engine = r.goes_on.engine;
    idle = ap (λ (l : List (Numbered g.C g.N)). (tally l).opened) r.log ∙ k.idle;
    logs = moved t g v.first w.first v.durable w.durable v.log w.log (committed x u) (sym r.goes_on.first) (sym r.log) r.goes_on.durable k.logs;
    free = λ b e. r.pages ∙ k.free b (before b e);
    reserved = subst (λ (l : List (Numbered g.C g.N)). AreReserved (setting t g) (without u txns) (tally l).notes) (sym r.log) k.reserved;
    buried = λ b e. subst (λ (l : List (Numbered g.C g.N)). AreOwned g x.so_far.live x.so_far.held (next_lsn l) b) (sym r.log) (k.buried b (before b e));
    marked = λ b e. k.marked b (before b e);
    marks = k.marks;
  }
    where
      before : (b : g.O) → g.reading (pages_of t g w) ≡ Some b → g.reading (pages_of t g v) ≡ Some b
      before b e = subst (λ (l : List (Numbered g.C g.N)). g.reading (made (setting t g) v.first l) ≡ Some b) r.log (subst (λ p. g.reading (made (setting t g) p w.log) ≡ Some b) r.goes_on.first e)

  pub none_left : (w : View g) → Rested t g v w → ((f : List (Touch Resource)) → g.Buried o u f → ⊥) → HasNone t g w u
  none_left w r none b e f is = none f (subst (λ z. g.Buried z u f) (some_one b o (sym before ∙ reads_o)) is)
    where
      before : g.reading (pages_of t g v) ≡ Some b
      before = subst (λ (l : List (Numbered g.C g.N)). g.reading (made (setting t g) v.first l) ≡ Some b) r.log (subst (λ p. g.reading (made (setting t g) p w.log) ≡ Some b) r.goes_on.first e)

  module _ (w : View g) (c : Changes t g begun v w) where
    keeps_over : (durable : Log (setting t g)) → Grows v.durable durable → Keeps (setting t g) x.so_far.first v.first (committed_objects t (committed x u)) (held_of (released u x.so_far.held)) durable (c.made ++ v.log) k.logs.history
    keeps_over durable grows = changes_keep t g lawful v.first durable x.so_far.first (committed_objects t (committed x u)) (held_of (released u x.so_far.held)) k.logs.history begun o c.made v.log reads_o refl k.idle c.are
        (keeping.forced (setting t g) x.so_far.first v.first (committed_objects t (committed x u)) (held_of (released u x.so_far.held)) v.durable durable v.log k.logs.history grows k.logs.keeps)

    pub freeing_stays : Stays t g v w (committed x u)
    freeing_stays = weaker c.moments (λ i h. image_stands t g v (committed_objects t (committed x u)) (c.made ++ v.log) (keeps_over v.durable (record { since = []; all = refl })).fronts i h)

    module _ (f : IsFreed t g begun (Some (record { 0 = u })) v w o c.made) (w2 : View g) (l p i : ℕ) (note : g.N) (ends : Appends t g w w2 (record { lsn = l; is = TopEnd 0 p i note })) where
      abbrev end : Numbered g.C g.N
      end = record { lsn = l; is = TopEnd 0 p i note }

      lives : (tally (c.made ++ v.log)).live ≡ (tally v.log).live
      lives = changes_live t g lawful v.first v.durable begun c.made v.log c.are

      notes : (tally (c.made ++ v.log)).notes ≡ (tally v.log).notes
      notes = changes_notes t g lawful v.first v.durable begun c.made v.log c.are

      alone : open_not_of 0 (tally (c.made ++ v.log)).opened ≡ []
      alone = subst (λ (ls : List (Numbered g.C g.N)). open_not_of 0 (tally ls).opened ≡ []) f.changed.log (subst (IsActing t g w) f.changed.action f.changed.goes_on.engine.acting).0

      system : is_in 0 (tally (c.made ++ v.log)).live ≡ false
      system = above_zero (c.made ++ v.log) c.formed.chained

      settled_o : settled (setting t g) (tally (c.made ++ v.log)).opened (made (setting t g) v.first (c.made ++ v.log)) ≡ Some o
      settled_o = settles t g lawful v.first v.durable begun o c.made v.log reads_o refl k.idle c.are

      reads_after : g.reading (made (setting t g) v.first (c.made ++ v.log)) ≡ Some f.now
      reads_after = subst (λ (ls : List (Numbered g.C g.N)). g.reading (made (setting t g) v.first ls) ≡ Some f.now) f.changed.log (subst (λ q. g.reading (made (setting t g) q w.log) ≡ Some f.now) f.changed.goes_on.first f.reads.reading)

      freed_is : DoesFree (setting t g) f.place (made (setting t g) v.first (c.made ++ v.log)) o
      freed_is = subst (λ (ls : List (Numbered g.C g.N)). DoesFree (setting t g) f.place (made (setting t g) v.first ls) o) f.changed.log (subst (λ q. DoesFree (setting t g) f.place (made (setting t g) q w.log) o) f.changed.goes_on.first f.freed)

      inside : Inside f.place (held_of x.so_far.held u)
      inside = (k.buried o reads_o u f.place (subst (λ d. g.Buried o d f.place) f.of f.was)).1 k.was

      -- no other live transaction holds the place
      apart : (n : ℕ) → is_in n (tally (c.made ++ v.log)).live ≡ true → (cell : Cell) → are_written (held_of (released u x.so_far.held) n) cell ≡ true → are_written f.place cell ≡ false
      apart n is cell w1 = by_test (n == u) refl
        where
          goes_on : is_live (committed x u).so_far.live n ≡ true
          goes_on = sym (k.logs.same.lives n) ∙ (ap (λ ls. is_in n ls) (sym lives) ∙ is)

          by_place : (b : Bool) → are_written f.place cell ≡ b → are_written (held_of x.so_far.held u) cell ≡ false → b ≡ false
          by_place true e none = clashing (are_written (held_of x.so_far.held u) cell) (inside cell e) none
          by_place false e none = refl

          by_test : (b : Bool) → (n == u) ≡ b → are_written f.place cell ≡ false
          by_test true e = clashing (is_live (committed x u).so_far.live u) (subst (λ z. is_live (committed x u).so_far.live z ≡ true) (number_is n u e) goes_on) gone
          by_test false e =
              let ne : n ≡ u → ⊥ = differs n u e in
              let held : are_written (held_of x.so_far.held n) cell ≡ true = subst (λ hs. are_written hs cell ≡ true) (others_hold x.so_far.held u n ne) w1 in
              by_place (are_written f.place cell) refl (not_written (held_of x.so_far.held u) cell (k.sound.serial.compatible n u ne cell held))

      then : Logs t g v.first w.durable (end ∷ (c.made ++ v.log)) (committed x u)
      then =
          let formed : Formed (end ∷ (c.made ++ v.log)) = subst (λ (ls : List (Numbered g.C g.N)). Formed (end ∷ ls)) f.changed.log ends.formed.chained in
          let le : next_lsn (c.made ++ v.log) ≤ l = formed.0 in
          let up : next_lsn v.log ≤ next_lsn (c.made ++ v.log) = changes_next t g lawful v.first v.durable begun c.made v.log c.are in
          record {
            sound = k.logs.sound;
            next = omega (arith, k.logs.next, up, le);
            history = k.logs.history;
            same = subst (λ ls. IsOf g.op ls k.logs.history (committed x u).so_far) (sym lives) k.logs.same;
            points = wider (next_lsn v.log) (l + 1) x.so_far.clock k.logs.history x.so_far.history (committed x u).so_far.live (omega (arith, up, le)) k.logs.points;
            keeps = keeping.goes (setting t g) lawful.laws x.so_far.first v.first (committed_objects t (committed x u)) (held_of (released u x.so_far.held)) w.durable (c.made ++ v.log) k.logs.history k.logs.history end
                (keeps_over w.durable f.changed.goes_on.durable) le
                (frees 0 p i note f.place system alone (λ b e. subst (λ z. DoesFree (setting t g) f.place (made (setting t g) v.first (c.made ++ v.log)) z) (some_one o b (sym settled_o ∙ e)) freed_is)
                (λ b d e r. takes b d (some_one o b (sym settled_o ∙ e)) (some_one f.now d (sym reads_after ∙ r)))
                apart);
          }
        where
          takes : (b d : g.O) → o ≡ b → f.now ≡ d → g.free b ≤ g.free d + 0
          takes b d e r = let took : g.free b ≤ g.free d = subst (λ z. g.free z ≤ g.free d) e (subst (λ z. g.free o ≤ g.free z) r f.took) in omega (arith, took)

      then_now : Logs t g w.first w.durable (end ∷ w.log) (committed x u)
      then_now = moved t g v.first w.first w.durable w.durable (end ∷ (c.made ++ v.log)) (end ∷ w.log) (committed x u) (sym f.changed.goes_on.first) (ap (λ ls. end ∷ ls) (sym f.changed.log)) (record { since = []; all = refl }) then

      pub freed_stays : Stays t g v w2 (committed x u)
      freed_stays = joined freeing_stays (call_stands t g w w2 (end ∷ w.log) (committed x u) then_now ends.moments)

      pub freed_leaving : Appended t g w w2 end → IsLeaving t g w2 txns x u
      freed_leaving d = record {
        was = k.was;
        going = subst (λ (ls : List (Numbered g.C g.N)). is_going u ls ≡ true) (sym d.log) (subst (λ (ls : List (Numbered g.C g.N)). is_going u ls ≡ true) (sym f.changed.log) (changes_going t g v.first begun u c.made v.log c.are ∙ k.going));
        sound = k.sound;
        live = k.live;
        engine = d.goes_on.engine;
        idle = ap (λ (ls : List (Numbered g.C g.N)). (tally ls).opened) d.log ∙ subst (λ (ls : List (Numbered g.C g.N)). open_not_of 0 (tally ls).opened ≡ []) (sym f.changed.log) alone;
        logs = moved t g w.first w2.first w.durable w2.durable (end ∷ w.log) w2.log (committed x u) (sym d.goes_on.first) (sym d.log) d.goes_on.durable then_now;
        free = λ b e. d.pages ∙ (f.reads.free ∙ ap (λ z. g.free z) (same b e));
        reserved = subst (λ (ls : List (Numbered g.C g.N)). AreReserved (setting t g) (without u txns) (tally ls).notes) (sym d.log)
            (subst (λ (ls : List (Numbered g.C g.N)). AreReserved (setting t g) (without u txns) (tally (end ∷ ls)).notes) (sym f.changed.log)
            (subst (λ ns. AreReserved (setting t g) (without u txns) ns) (sym (ap (λ b. cond b (noted ∷ (tally (c.made ++ v.log)).notes) (tally (c.made ++ v.log)).notes) system ∙ notes)) k.reserved));
        buried = λ b e. subst (λ z. AreOwned g x.so_far.live x.so_far.held (next_lsn w2.log) z) (same b e)
            (grown t g x.so_far.live x.so_far.held (next_lsn v.log) (next_lsn w2.log) f.now up (fewer t g x.so_far.live x.so_far.held (next_lsn v.log) o f.now f.left (k.buried o reads_o)));
        marked = λ b e. subst (λ z. AreMarked g txns z) (same b e) (marks_fewer g txns o f.now f.left (k.marked o reads_o));
        marks = k.marks;
      }
        where
          noted : Top g.C g.N
          noted = record { lsn = l; transaction = 0; undo_next = i; note = note; changes = log.changes_of (log.open_of 0 (tally (c.made ++ v.log)).opened) }

          same : (b : g.O) → g.reading (pages_of t g w2) ≡ Some b → f.now ≡ b
          same b e = some_one f.now b (sym f.reads.reading ∙ subst (λ (ls : List (Numbered g.C g.N)). g.reading (made (setting t g) w.first ls) ≡ Some b) d.log (subst (λ q. g.reading (made (setting t g) q w2.log) ≡ Some b) d.goes_on.first e))

          up : next_lsn v.log ≤ next_lsn w2.log
          up = let a1 : next_lsn v.log ≤ next_lsn (c.made ++ v.log) = changes_next t g lawful v.first v.durable begun c.made v.log c.are in
              let a2 : next_lsn w.log ≡ next_lsn (c.made ++ v.log) = ap (λ (ls : List (Numbered g.C g.N)). next_lsn ls) f.changed.log in
              let a3 : next_lsn w.log ≤ next_lsn w2.log = next_after t g w w2 end d in omega (arith, a1, a2, a3)

      -- of the stock it took what the transaction's commit takes
      pub freed_stock : Appended t g w w2 end → FreesStock t g v w2 u
      freed_stock d r shown = (
        record { marks = g.marks f.now; steps = r.steps },
        subst (λ i. freed i (g.marks f.now) ≡ freed i r.marks) f.of (f.stock ∙ ap (freed f.dropper) (shown.marks o reads_o)),
        refl,
        record {
          marks = λ b e. ap (λ z. g.marks z) (sym (some_one f.now b (sym f.reads.reading
              ∙ subst (λ (ls : List (Numbered g.C g.N)). g.reading (made (setting t g) w.first ls) ≡ Some b) d.log
              (subst (λ q. g.reading (made (setting t g) q w2.log) ≡ Some b) d.goes_on.first e))));
          steps = ap (λ (ls : List (Numbered g.C g.N)). map (step_of g) (tally ls).notes) d.log
              ∙ (ap (λ (ls : List (Numbered g.C g.N)). map (step_of g) (tally (end ∷ ls)).notes) f.changed.log
              ∙ (ap (λ b. map (step_of g) (cond b (system_note ∷ (tally (c.made ++ v.log)).notes) (tally (c.made ++ v.log)).notes)) system
              ∙ (ap (λ ns. map (step_of g) ns) notes ∙ shown.steps)));
        },
      )
        where
          system_note : Top g.C g.N
          system_note = record { lsn = l; transaction = 0; undo_next = i; note = note; changes = log.changes_of (log.open_of 0 (tally (c.made ++ v.log)).opened) }

      pub freed_higher : Appended t g w w2 end → v.tail < w2.tail
      freed_higher d = let a : v.tail ≤ w.tail = f.changed.goes_on.tail in let b : w.tail ≤ l = ends.above in let e : l < w2.tail = d.tail in omega (arith, a, b, e)

  count_is : (committed x u).so_far.answered ≡ Rattle.std.specs.Prelude.length (committed x u).so_far.commits
  count_is = sym (Rattle.std.proofs.lemmas.List.length-append x.so_far.commits (Rattle.std.specs.List.filter (runs.is_own u) x.so_far.history ∷ []))

  -- no note is its
  none_its : is_in u (tally v.log).live ≡ false → Each (λ n. n.transaction ≡ u → ⊥) (tally v.log).notes
  none_its over = each_bare (setting t g) (λ j. j ≡ u → ⊥) k.logs.keeps.running.placed (tally v.log).notes k.logs.keeps.running.are
      (each_more (λ m. IsNote (tally v.log).live (next_lsn v.log) m.transaction m.lsn m.undo_next) (λ m. m.transaction ≡ u → ⊥) k.logs.keeps.running.placed
      (λ m z e. clashing (is_in u (tally v.log).live) (subst (λ i. is_in i (tally v.log).live ≡ true) e z.is_live) over) k.logs.keeps.running.notes)

  -- nothing is appended in place of its end
  pub rested_kept : (w : View g) → Rested t g v w → IsKept t g w (without u txns) (committed x u)
  rested_kept w r = let m = rested_leaving w r in record {
    live = k.live;
    answered = count_is;
    engine = m.engine;
    idle = m.idle;
    logs = m.logs;
    free = m.free;
    reserved = m.reserved;
    buried = λ b e. owned_ended t g x.so_far.live x.so_far.held u (next_lsn w.log) b (m.buried b e);
    marked = λ b e. marks_without g txns u b (m.marked b e);
    marks = m.marks;
  }

  -- it ends
  module _ (w : View g) (l p : ℕ) (ends : Appends t g v w (record { lsn = l; is = End u p })) where
    over : is_in u (tally v.log).live ≡ false
    over = k.logs.same.lives u ∙ gone

    ended : Logs t g v.first v.durable (record { lsn = l; is = End u p } ∷ v.log) (committed x u)
    ended =
        let formed : Formed (record { lsn = l; is = End u p } ∷ v.log) = ends.formed.chained in
        let le : next_lsn v.log ≤ l = formed.0 in
        record {
          sound = k.logs.sound;
          next = omega (arith, k.logs.next, le);
          history = k.logs.history;
          same = lives_same g.op (committed x u).so_far (committed x u).so_far (tally v.log).live (log.without u (tally v.log).live) k.logs.history k.logs.same refl (λ n. in_without u n (tally v.log).live ∙ (still n ∙ k.logs.same.lives n));
          points = wider (next_lsn v.log) (l + 1) x.so_far.clock k.logs.history x.so_far.history (committed x u).so_far.live (omega (arith, le)) k.logs.points;
          keeps = keeping.goes (setting t g) lawful.laws x.so_far.first v.first (committed_objects t (committed x u)) (held_of (released u x.so_far.held)) v.durable v.log k.logs.history k.logs.history (record { lsn = l; is = End u p }) k.logs.keeps le (ends_over u p over);
        }
      where
        still : (n : ℕ) → (is_in n (tally v.log).live && not (n == u)) ≡ is_in n (tally v.log).live
        still n = by_test (n == u) (is_in n (tally v.log).live) refl refl
          where
            by_test : (a b : Bool) → (n == u) ≡ a → is_in n (tally v.log).live ≡ b → (b && not a) ≡ b
            by_test true true e f = clashing (is_in u (tally v.log).live) (subst (λ z. is_in z (tally v.log).live ≡ true) (number_is n u e) f) over
            by_test true false e f = refl
            by_test false true e f = refl
            by_test false false e f = refl

    pub end_stays : Stays t g v w (committed x u)
    end_stays = call_stands t g v w (record { lsn = l; is = End u p } ∷ v.log) (committed x u) ended ends.moments

    module _ (d : Appended t g v w (record { lsn = l; is = End u p })) where
      before : (b : g.O) → g.reading (pages_of t g w) ≡ Some b → g.reading (pages_of t g v) ≡ Some b
      before b e = subst (λ (ls : List (Numbered g.C g.N)). g.reading (made (setting t g) v.first ls) ≡ Some b) d.log (subst (λ q. g.reading (made (setting t g) q w.log) ≡ Some b) d.goes_on.first e)

      pub ended_kept : IsKept t g w (without u txns) (committed x u)
      ended_kept = record {
        live = k.live;
        answered = count_is;
        engine = d.goes_on.engine;
        idle = ap (λ (ls : List (Numbered g.C g.N)). (tally ls).opened) d.log ∙ k.idle;
        logs = moved t g v.first w.first v.durable w.durable (record { lsn = l; is = End u p } ∷ v.log) w.log (committed x u) (sym d.goes_on.first) (sym d.log) d.goes_on.durable ended;
        free = λ b e. d.pages ∙ k.free b (before b e);
        reserved = subst (λ (ls : List (Numbered g.C g.N)). AreReserved (setting t g) (without u txns) (tally ls).notes) (sym d.log)
            (subst (λ ns. AreReserved (setting t g) (without u txns) ns) (sym (none_own u (tally v.log).notes (none_its over))) k.reserved);
        buried = λ b e. grown t g (committed x u).so_far.live (committed x u).so_far.held (next_lsn v.log) (next_lsn w.log) b (next_after t g v w (record { lsn = l; is = End u p }) d)
            (owned_ended t g x.so_far.live x.so_far.held u (next_lsn v.log) b (k.buried b (before b e)));
        marked = λ b e. marks_without g txns u b (k.marked b (before b e));
        marks = k.marks;
      }

      pub ended_none : HasNone t g v u → HasNone t g w u
      ended_none none b e f is = none b (before b e) f is

  -- IT ENDS, or nothing is appended
  pub ends_stay : (w : View g) (P : ℕ → ℕ → Type 0) (Q : Type 0)
      → ((l : ℕ) × (p : ℕ) × Appends t g v w (record { lsn = l; is = End u p }) × P l p) ⊎ ((is_in u (tally v.log).live ≡ false) × Rests t g v w × Q)
      → Stays t g v w (committed x u)
  ends_stay w P Q (inl a) = end_stays w a.0 a.1 a.2
  ends_stay w P Q (inr b) = call_stands t g v w v.log (committed x u) k.logs b.1.moments

  pub ends_kept : (w : View g)
      → ((l : ℕ) × (p : ℕ) × Appends t g v w (record { lsn = l; is = End u p }) × Appended t g v w (record { lsn = l; is = End u p }))
      ⊎ ((is_in u (tally v.log).live ≡ false) × Rests t g v w × Rested t g v w) → IsKept t g w (without u txns) (committed x u)
  ends_kept w (inl a) = ended_kept w a.0 a.1 a.2 a.3
  ends_kept w (inr b) = rested_kept w b.2

  pub ends_none : (w : View g)
      → ((l : ℕ) × (p : ℕ) × Appends t g v w (record { lsn = l; is = End u p }) × Appended t g v w (record { lsn = l; is = End u p }))
      ⊎ ((is_in u (tally v.log).live ≡ false) × Rests t g v w × Rested t g v w) → HasNone t g v u → HasNone t g w u
  ends_none w (inl a) none = ended_none w a.0 a.1 a.2 a.3 none
  ends_none w (inr b) none = λ c e f is. none c
      (subst (λ (ls : List (Numbered g.C g.N)). g.reading (made (setting t g) v.first ls) ≡ Some c) b.2.log
      (subst (λ q. g.reading (made (setting t g) q w.log) ≡ Some c) b.2.goes_on.first e)) f is

-- the end of one that goes on is appended
pub ends_live : (t : Operations) (g : Ground) (v w : View g) (u : ℕ) (P : ℕ → ℕ → Type 0) (Q : Type 0) → is_in u (tally v.log).live ≡ true
    → ((l : ℕ) × (p : ℕ) × Appends t g v w (record { lsn = l; is = End u p }) × P l p) ⊎ ((is_in u (tally v.log).live ≡ false) × Rests t g v w × Q)
    → (l : ℕ) × (p : ℕ) × Appends t g v w (record { lsn = l; is = End u p }) × P l p
ends_live t g v w u P Q live (inl a) = a
ends_live t g v w u P Q live (inr b) = clashing (is_in u (tally v.log).live) live b.0

-- once an action of the system has begun
pub acted_leaving : (t : Operations) (g : Ground) (v v1 : View g) (txns : List Txn) (x : Run) (u : ℕ) (a : Option (Action g)) → IsEngine t g v1 → v1 ≡ record v { action = a } → IsLeaving t g v txns x u → IsLeaving t g v1 txns x u
acted_leaving t g v v1 txns x u a engine is k = subst (λ z. IsLeaving t g z txns x u) (sym is) (record {
  was = k.was;
  going = k.going;
  sound = k.sound;
  live = k.live;
  engine = subst (λ z. IsEngine t g z) is engine;
  idle = k.idle;
  logs = k.logs;
  free = k.free;
  reserved = k.reserved;
  buried = k.buried;
  marked = k.marked;
  marks = k.marks;
})

pub action_is : (t : Operations) (g : Ground) (v w : View g) → w ≡ record v { action = Some (record { transaction = 0; pages = pages_of t g v }) } → w.action ≡ Some (record { transaction = 0; pages = pages_of t g w })
action_is t g v w is = ap (λ (y : View g). y.action) is ∙ ap (λ (y : View g). Some (record { transaction = 0; pages = pages_of t g y })) (sym is)

pub stays_from : (t : Operations) (g : Ground) (v v1 w : View g) (x : Run) (a : Option (Action g)) → v1 ≡ record v { action = a } → Stays t g v1 w x → Stays t g v w x
stays_from t g v v1 w x a is h = subst (λ (z : Rattle.sg_disk.specs.Disk.View). Rattle.sg_disk.specs.Disk.LeavesOnly z w.disk (λ c. StandsFor t g c (committed_objects t x))) (ap (λ (z : View g). z.disk) is) h

pub tail_from : {g : Ground} (v v1 w : View g) (a : Option (Action g)) → v1 ≡ record v { action = a } → v1.tail < w.tail → v.tail < w.tail
tail_from v v1 w a is h = let e : v1.tail ≡ v.tail = ap (λ (z : View _). z.tail) is in omega (arith, e, h)

-- the loop
module _ (t : Operations) (g : Ground) (lawful : Type 0) (v w z : View g) (before now : Core) (u left : ℕ) (s : IsLeavingSince t g lawful v w before now u left) where
  pub since_more : (more : Core) (after : ℕ) → more ≡ now → w.faults ≤ z.faults → w.tail ≤ z.tail → after + z.tail ≡ MOST
      → ((x : Run) → lawful → IsLeaving t g w now.live x u → Stays t g w z (committed x u)) → ((x : Run) → lawful → IsLeaving t g w now.live x u → Frees t g w z now.live x u true) → IsLeavingSince t g lawful v z before more u after
  since_more more after same later tail adds stays goes = record {
    stays = λ x l k. joined (s.stays x l k) (stays x l (here x (s.leaving x l k)));
    leaving = λ x l k. subst (λ (c : Core). IsLeaving t g z c.live x u) s.same (goes x l (here x (s.leaving x l k))).0;
    stock = λ x l k. frees_then t g v w z u (s.stock x l k) (goes x l (here x (s.leaving x l k))).2;
    later = (let a : v.faults ≤ w.faults = s.later in omega (arith, a, later));
    tail = (let a : v.tail ≤ w.tail = s.tail in omega (arith, a, tail));
    sum = adds;
    same = same ∙ s.same;
  }
    where
      here : (x : Run) → IsLeaving t g w before.live x u → IsLeaving t g w now.live x u
      here x h = subst (λ (c : Core). IsLeaving t g w c.live x u) (sym s.same) h

  pub since_stays : (x : Run) → lawful → IsLeaving t g v before.live x u → (IsLeaving t g w now.live x u → Stays t g w z (committed x u)) → Stays t g v z (committed x u)
  since_stays x l k stays = joined (s.stays x l k) (stays (subst (λ (c : Core). IsLeaving t g w c.live x u) (sym s.same) (s.leaving x l k)))

  pub since_done : (x : Run) → lawful → IsLeaving t g v before.live x u → (IsLeaving t g w now.live x u → Frees t g w z now.live x u false) → IsLeaving t g z before.live x u × HasNone t g z u
  since_done x l k goes =
      let h = goes (subst (λ (c : Core). IsLeaving t g w c.live x u) (sym s.same) (s.leaving x l k)) in
      (subst (λ (c : Core). IsLeaving t g z c.live x u) s.same h.0, h.1)

  pub since_stock : (x : Run) → lawful → IsLeaving t g v before.live x u → (IsLeaving t g w now.live x u → Frees t g w z now.live x u false) → FreesStock t g v z u
  since_stock x l k goes = frees_then t g v w z u (s.stock x l k) (goes (subst (λ (c : Core). IsLeaving t g w c.live x u) (sym s.same) (s.leaving x l k))).2

  -- the log grew with what was freed
  pub since_rises : (after : ℕ) → after + z.tail ≡ MOST → left ≤ after → (x : Run) → lawful → IsLeaving t g v before.live x u → (IsLeaving t g w now.live x u → Frees t g w z now.live x u true) → ⊥
  since_rises after sum high x l k goes =
      let h = goes (subst (λ (c : Core). IsLeaving t g w c.live x u) (sym s.same) (s.leaving x l k)) in
      let rises : w.tail < z.tail = h.1 in
      let had : left + w.tail ≡ MOST = s.sum in
      lower sum high rises had
    where
      lower : after + z.tail ≡ MOST → left ≤ after → w.tail < z.tail → left + w.tail ≡ MOST → ⊥
      lower a b c d = omega (arith, a, b, c, d)

pub since_none : (t : Operations) (g : Ground) (lawful : Type 0) (v : View g) (k : Core) (u left : ℕ) → left + v.tail ≡ MOST → IsLeavingSince t g lawful v v k k u left
since_none t g lawful v k u left adds = record {
  stays = λ x l h. started v.disk (λ c. StandsFor t g c (committed_objects t (committed x u))) (λ c i. image_stands t g v (committed_objects t (committed x u)) v.log h.logs.keeps.fronts c (h.engine.images c i));
  leaving = λ x l h. h;
  stock = λ x l h. frees_nothing t g v v u refl refl;
  later = omega arith;
  tail = omega arith;
  sum = adds;
  same = refl;
}

pub none_along : (t : Operations) (g : Ground) (lawful : IsLawful t g) (w z : View g) (u : ℕ) → w ≡ z → HasNone t g w u → HasNone t g z u
none_along t g lawful w z u e h = subst (λ (i : View g). HasNone t g i u) e h

-- the same from the begin of the action on
pub frees_from : (t : Operations) (g : Ground) (v v1 w : View g) (u : ℕ) (a : Option (Action g)) → v1 ≡ record v { action = a } → FreesStock t g v1 w u → FreesStock t g v w u
frees_from t g v v1 w u a e h = frees_then t g v v1 w u (frees_nothing t g v v1 u (ap (λ (i : View g). i.log) e) (ap (λ (i : View g). i.first) e)) h
