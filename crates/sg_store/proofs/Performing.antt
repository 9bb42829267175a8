-- What an operation does in its action.
use Rattle.std.proofs.Common.{◌≡◌, ◌⊎◌, ℕ, ◌+◌, ◌<◌, ◌≤◌, true, cond, List, [], ◌∷◌, ◌++◌, map, Some, refl, sym, ap, ◌∙◌, subst, arith}
use Rattle.std.proofs.Common.{inl, inr}
use Rattle.std.specs.Prelude.{sum_by}
use Rattle.sg_disk.proofs.Moments.{weaker}
use Rattle.sg_ops.specs.Table.{Table as Operations}
use Rattle.sg_serial.specs.Locks.{Touch, held_of, hold_all}
use Rattle.sg_model.specs.Touches.{Resource, same_resource, touches}
use Rattle.sg_store.proofs.Owning.{Inside, owned_locked, owned_done, next_after}
use Rattle.sg_store.proofs.Marking.{numbers_marked, reserved_marked, marks_done, marks_reserving}
use Rattle.sg_store.specs.Drops.{drops, marked_by}
use Rattle.sg_model.specs.Verb.{Op}
use Rattle.sg_model.specs.Step.{step}
use Rattle.sg_core.specs.Live.{Txn, reserving}
use Rattle.sg_core.specs.Live as core
use Rattle.sg_run.specs.Run.{Run, did, live_objects, committed_objects}
use Rattle.sg_recovery.specs.Log.{Numbered, Top, tally, is_in, open_not_of}
use Rattle.sg_recovery.specs.Log.Record.{TopEnd}
use Rattle.sg_recovery.specs.Stands.{made, wanted, wants_one}
use Rattle.sg_recovery.specs.Keeps.{top_of}
use Rattle.sg_recovery.specs.Shows.{IsNote}
use Rattle.sg_recovery.specs.Runs.{note_of, DoesVerb}
use Rattle.sg_recovery.specs.Chains.{Formed, next_lsn}
use Rattle.sg_recovery.proofs.Basic.{some_one, each_more}
use Rattle.sg_store.specs.declared.fault.Needed.{Needed}
use Rattle.sg_store.specs.Ground.{Ground, IsLawful, setting}
use Rattle.sg_store.specs.Engine.{View, Action, Changes, Changed, Appends, Appended, pages_of, IsActing}
use Rattle.sg_store.specs.Verbs.{LeftAlone, IsNotedBy}
use Rattle.sg_store.proofs.Points.{shown_reserving, shown_marked}
use Rattle.sg_store.specs.Store.{shown_txn, IsKept, Logs, AreReserved, AreOwned, AreMarked}
use Rattle.sg_run.specs.Numbers.{IsGranted}
use Rattle.sg_store.specs.Calls.{Stays, HasRoom}
use Rattle.sg_store.proofs.Images.{image_stands}
use Rattle.sg_store.proofs.Actions.{changes_live, changes_notes, changes_next, touched_now, looks_logs, does_logs, changes_keep, reads_now}
use Rattle.sg_store.proofs.Lines.{reads}
use Rattle.sg_store.proofs.Live.{wanted_sum, wanted_one, each_bare, same_live, reserved_note, reserved_none, numbers_reserving}
use Rattle.sg_store.proofs.Calls.{moved, call_stands}
use Rattle.sg_store.proofs.Stocked.{stock_moves}
use Rattle.sg_store.specs.Room.{AcceptsOp, LeadsStock, step_at, step_of}
use Rattle.sg_room.specs.Steps.{RunStock}

module _ (t : Operations) (g : Ground) (lawful : IsLawful t g) (v : View g) (txns : List Txn) (x : Run) (u : ℕ) (op : Op) (needs : Needed) (room : HasRoom t g v txns x op needs) (granted : IsGranted t x u op)
    (a : Action g) (own : a.transaction ≡ u) (begin : a.pages ≡ pages_of t g v) (w : View g) (c : Changes t g a v w) where
  abbrev kept : IsKept t g v txns x
  kept = room.is_kept

  abbrev o : g.O
  o = room.reading

  reads_begin : g.reading a.pages ≡ Some o
  reads_begin = ap g.reading begin ∙ room.reads.reading

  -- the changes of the action leave what a crash leaves
  pub changes_stay : Stays t g v w x
  changes_stay =
      let k = changes_keep t g lawful v.first v.durable x.so_far.first (committed_objects t x) (held_of x.so_far.held) kept.logs.history a o c.made v.log reads_begin begin kept.idle c.are kept.logs.keeps in
      weaker c.moments (λ i h. image_stands t g v (committed_objects t x) (c.made ++ v.log) k.fronts i h)

  module _ (changed : Changed t g a v w c.made) where
    -- the log of before, with what is durable now
    before : Logs t g v.first w.durable v.log x
    before = moved t g v.first v.first v.durable w.durable v.log v.log x refl refl changed.goes_on.durable kept.logs

    o_is : before.keeps.running.reading ≡ o
    o_is = some_one before.keeps.running.reading o (sym (reads_now t g lawful v.first w.durable v.log x before kept.idle) ∙ room.reads.reading)

    objects_are : g.objects o ≡ live_objects t x
    objects_are = sym (ap (λ z. g.objects z) o_is) ∙ reads t g lawful v.first w.durable v.log x before

    -- an operation that left things as they were
    pub looked_kept : LeftAlone t g v w o op → IsKept t g w txns (did t x u op)
    looked_kept l =
        let same : g.objects o ≡ live_objects t x = sym (ap (λ z. g.objects z) o_is) ∙ reads t g lawful v.first w.durable v.log x before in
        let logs = looks_logs t g lawful v.first w.durable v.log x u op before kept.idle granted.live granted.none (ap (λ m. (step t m op).1) (sym same) ∙ (l.same ∙ same)) in
        record {
          live = kept.live;
          answered = kept.answered;
          engine = changed.goes_on.engine;
          idle = ap (λ (ls : List (Numbered g.C g.N)). (tally ls).opened) l.log ∙ kept.idle;
          logs = moved t g v.first w.first w.durable w.durable v.log w.log (did t x u op) (sym changed.goes_on.first) (sym l.log) (record { since = []; all = refl }) logs;
          free = λ b e. l.pages ∙ kept.free b (subst (λ (ls : List (Numbered g.C g.N)). g.reading (made (setting t g) v.first ls) ≡ Some b) l.log (subst (λ q. g.reading (made (setting t g) q w.log) ≡ Some b) changed.goes_on.first e));
          reserved = subst (λ (ls : List (Numbered g.C g.N)). AreReserved (setting t g) txns (tally ls).notes) (sym l.log) kept.reserved;
          buried = λ b e. owned_locked t g x.so_far.live x.so_far.held u (touches (live_objects t x) op) (next_lsn w.log) b (subst (λ (ls : List (Numbered g.C g.N)). AreOwned g x.so_far.live x.so_far.held (next_lsn ls) b) (sym l.log)
              (kept.buried b (subst (λ (ls : List (Numbered g.C g.N)). g.reading (made (setting t g) v.first ls) ≡ Some b) l.log (subst (λ q. g.reading (made (setting t g) q w.log) ≡ Some b) changed.goes_on.first e))));
          marked = λ b e. kept.marked b (subst (λ (ls : List (Numbered g.C g.N)). g.reading (made (setting t g) v.first ls) ≡ Some b) l.log (subst (λ q. g.reading (made (setting t g) q w.log) ≡ Some b) changed.goes_on.first e));
          marks = kept.marks;
        }

    -- and may leave the stock
    pub looked_stock : LeftAlone t g v w o op → LeadsStock t g v w (live_objects t x) u op
    looked_stock l r shown = (
      r,
      subst (λ m. AcceptsOp t m r u op r) objects_are (l.stock u r),
      stock_moves t g v w r l.log changed.goes_on.first shown,
    )

    module _ (note : List ℕ) (n : IsNotedBy t g a w o op note) (w2 : View g) (l p i : ℕ) (ends : Appends t g w w2 (record { lsn = l; is = TopEnd u p i (g.note note) })) where
      abbrev top : Top g.C g.N
      top = top_of (setting t g) l u i (g.note note) (tally (c.made ++ v.log)).opened

      alone : open_not_of u (tally (c.made ++ v.log)).opened ≡ []
      alone = subst (λ (ls : List (Numbered g.C g.N)). open_not_of u (tally ls).opened ≡ []) changed.log
          (subst (λ z. open_not_of z (tally w.log).opened ≡ []) own (subst (IsActing t g w) changed.action changed.goes_on.engine.acting).0)

      wants_is : wants_one (setting t g) top ≡ (g.needs t o op).reserve
      wants_is = n.reserves

      reads_after : g.reading (made (setting t g) v.first (c.made ++ v.log)) ≡ Some n.now
      reads_after = subst (λ (ls : List (Numbered g.C g.N)). g.reading (made (setting t g) v.first ls) ≡ Some n.now) changed.log (subst (λ q. g.reading (made (setting t g) q w.log) ≡ Some n.now) changed.goes_on.first n.reads.reading)

      -- as many pages are free as the notes may take
      enough : wanted (setting t g) (top ∷ (tally v.log).notes) ≤ g.free n.now
      enough =
          let all : wanted (setting t g) (top ∷ (tally v.log).notes) ≡ wanted (setting t g) (tally v.log).notes + wants_one (setting t g) top = wanted_one (setting t g) top (tally v.log).notes in
          let sum : wanted (setting t g) (tally v.log).notes ≤ sum_by (λ (k : Txn). k.reserved) txns
          = wanted_sum (setting t g) txns (tally v.log).notes kept.reserved
          (each_bare (setting t g) (λ j. core.is_live txns j ≡ true) kept.logs.keeps.running.placed (tally v.log).notes kept.logs.keeps.running.are
          (each_more (λ m. IsNote (tally v.log).live _ m.transaction m.lsn m.undo_next) (λ m. core.is_live txns m.transaction ≡ true) kept.logs.keeps.running.placed
          (λ m z. same_live txns x.so_far.live m.transaction kept.live ∙ (sym (kept.logs.same.lives m.transaction) ∙ z.is_live)) kept.logs.keeps.running.notes)) in
          let now : wanted (setting t g) (tally v.log).notes ≤ g.free o = subst (λ z. wanted (setting t g) (tally v.log).notes ≤ g.free z) o_is before.keeps.running.pages in
          go room.pages all sum now wants_is n.took room.need.pages room.reads.free
        where
          go : (needs.pages ≡ 0) ⊎ (sum_by (λ (k : Txn). k.reserved) txns + needs.pages ≤ v.free_pages) → wanted (setting t g) (top ∷ (tally v.log).notes) ≡ wanted (setting t g) (tally v.log).notes + wants_one (setting t g) top
              → wanted (setting t g) (tally v.log).notes ≤ sum_by (λ (k : Txn). k.reserved) txns → wanted (setting t g) (tally v.log).notes ≤ g.free o → wants_one (setting t g) top ≡ (g.needs t o op).reserve
              → g.free o + (g.needs t o op).reserve ≤ g.free n.now + (g.needs t o op).pages → needs.pages ≡ (g.needs t o op).pages → v.free_pages ≡ g.free o → wanted (setting t g) (top ∷ (tally v.log).notes) ≤ g.free n.now
          go (inl none) all sum now one took pages free = omega (arith, none, all, sum, now, one, took, pages, free)
          go (inr some) all sum now one took pages free = omega (arith, some, all, sum, now, one, took, pages, free)

      logs : Logs t g v.first w.durable (record { lsn = l; is = TopEnd u p i (g.note note) } ∷ (c.made ++ v.log)) (did t x u op)
      logs =
          let done : DoesVerb (setting t g) n.verb (note_of (setting t g) l u i (g.note note) (tally (c.made ++ v.log)).opened (g.touched n.verb)) (made (setting t g) v.first (c.made ++ v.log)) before.keeps.running.reading
          = subst (λ z. DoesVerb (setting t g) n.verb (note_of (setting t g) l u i (g.note note) (tally (c.made ++ v.log)).opened (g.touched n.verb)) (made (setting t g) v.first (c.made ++ v.log)) z) (sym o_is)
          (subst (λ (ls : List (Numbered g.C g.N)). DoesVerb (setting t g) n.verb (note_of (setting t g) l u i (g.note note) (tally ls).opened (g.touched n.verb)) (made (setting t g) v.first ls) o) changed.log
          (subst (λ q. DoesVerb (setting t g) n.verb (note_of (setting t g) l u i (g.note note) (tally w.log).opened (g.touched n.verb)) (made (setting t g) q w.log) o) changed.goes_on.first
          (subst (λ z. DoesVerb (setting t g) n.verb (note_of (setting t g) l z i (g.note note) (tally w.log).opened (g.touched n.verb)) (pages_of t g w) o) own (n.does l i)))) in
          does_logs t g lawful v.first w.durable v.log x u op before kept.idle granted.live granted.none a begin c.made c.are l p i (g.note note)
          (subst (λ (ls : List (Numbered g.C g.N)). Formed (record { lsn = l; is = TopEnd u p i (g.note note) } ∷ ls)) changed.log ends.formed.chained) alone n.verb n.is done
          (λ b e. subst (λ z. wanted (setting t g) (top ∷ (tally v.log).notes) ≤ g.free z) (some_one n.now b (sym reads_after ∙ e)) enough)

      logs_now : Logs t g w.first w.durable (record { lsn = l; is = TopEnd u p i (g.note note) } ∷ w.log) (did t x u op)
      logs_now = moved t g v.first w.first w.durable w.durable (record { lsn = l; is = TopEnd u p i (g.note note) } ∷ (c.made ++ v.log)) (record { lsn = l; is = TopEnd u p i (g.note note) } ∷ w.log) (did t x u op)
          (sym changed.goes_on.first) (ap (λ ls. record { lsn = l; is = TopEnd u p i (g.note note) } ∷ ls) (sym changed.log)) (record { since = []; all = refl }) logs

      pub ends_stay : Stays t g w w2 x
      ends_stay = call_stands t g w w2 (record { lsn = l; is = TopEnd u p i (g.note note) } ∷ w.log) (did t x u op) logs_now ends.moments

      module _ (did_end : Appended t g w w2 (record { lsn = l; is = TopEnd u p i (g.note note) })) where
        done_with : (after : List Txn) → map (λ (k : Txn). k.transaction) after ≡ map (λ (k : Txn). k.transaction) txns → AreReserved (setting t g) after (top ∷ (tally v.log).notes) → AreMarked g after n.now → map shown_txn after ≡ map shown_txn txns → IsKept t g w2 after (did t x u op)
        done_with after same reserved marks given = record {
          live = same ∙ kept.live;
          answered = kept.answered;
          engine = did_end.goes_on.engine;
          idle = ap (λ (ls : List (Numbered g.C g.N)). (tally ls).opened) did_end.log ∙ subst (λ (ls : List (Numbered g.C g.N)). open_not_of u (tally ls).opened ≡ []) (sym changed.log) alone;
          logs = moved t g w.first w2.first w.durable w2.durable (record { lsn = l; is = TopEnd u p i (g.note note) } ∷ w.log) w2.log (did t x u op) (sym did_end.goes_on.first) (sym did_end.log) did_end.goes_on.durable logs_now;
          free = λ b e. did_end.pages ∙ (n.reads.free ∙ ap (λ z. g.free z) (some_one n.now b (sym n.reads.reading
              ∙ subst (λ (ls : List (Numbered g.C g.N)). g.reading (made (setting t g) w.first ls) ≡ Some b) did_end.log (subst (λ q. g.reading (made (setting t g) q w2.log) ≡ Some b) did_end.goes_on.first e))));
          reserved = subst (λ (ls : List (Numbered g.C g.N)). AreReserved (setting t g) after (tally ls).notes) (sym did_end.log)
              (subst (λ (ls : List (Numbered g.C g.N)). AreReserved (setting t g) after (tally (record { lsn = l; is = TopEnd u p i (g.note note) } ∷ ls)).notes) (sym changed.log)
              (notes_are (is_in_live) reserved));
          buried = λ b e. subst (λ z. AreOwned g x.so_far.live (hold_all same_resource u (touches (live_objects t x) op) x.so_far.held) (next_lsn w2.log) z) (some_one n.now b (sym n.reads.reading
              ∙ subst (λ (ls : List (Numbered g.C g.N)). g.reading (made (setting t g) w.first ls) ≡ Some b) did_end.log (subst (λ q. g.reading (made (setting t g) q w2.log) ≡ Some b) did_end.goes_on.first e))) owned;
          marked = λ b e. subst (λ z. AreMarked g after z) (some_one n.now b (sym n.reads.reading
              ∙ subst (λ (ls : List (Numbered g.C g.N)). g.reading (made (setting t g) w.first ls) ≡ Some b) did_end.log (subst (λ q. g.reading (made (setting t g) q w2.log) ≡ Some b) did_end.goes_on.first e))) marks;
          marks = given ∙ kept.marks;
        }
          where
            up : next_lsn v.log ≤ next_lsn w2.log
            up = let a1 : next_lsn v.log ≤ next_lsn (c.made ++ v.log) = changes_next t g lawful v.first v.durable a c.made v.log c.are in
                let a2 : next_lsn w.log ≡ next_lsn (c.made ++ v.log) = ap (λ (ls : List (Numbered g.C g.N)). next_lsn ls) changed.log in
                let a3 : next_lsn w.log ≤ next_lsn w2.log = next_after t g w w2 (record { lsn = l; is = TopEnd u p i (g.note note) }) did_end in omega (arith, a1, a2, a3)

            low : u < next_lsn w2.log
            low = let b1 : u < x.so_far.next = kept.logs.sound.serial.numbers u granted.live in let b2 : x.so_far.next ≤ next_lsn v.log = kept.logs.next in let b3 : next_lsn v.log ≤ next_lsn w2.log = up in omega (arith, b1, b2, b3)

            touched_is : g.touched n.verb ≡ touches (live_objects t x) op
            touched_is = touched_now t g lawful v.first w.durable v.log x before op n.verb (n.does l i).now n.is (subst (λ z. g.After t n.verb z (n.does l i).now) (sym o_is) (n.does l i).after)

            its_place : (d : ℕ) (f : List (Touch Resource)) → g.Buried o d f ⊎ ((d ≡ a.transaction) × Inside f (g.touched n.verb) × (drops op ≡ true)) → g.Buried o d f ⊎ ((d ≡ a.transaction) × Inside f (g.touched n.verb))
            its_place d f (inl old) = inl old
            its_place d f (inr new) = inr (new.0, new.1)

            owned : AreOwned g x.so_far.live (hold_all same_resource u (touches (live_objects t x) op) x.so_far.held) (next_lsn w2.log) n.now
            owned = owned_done t g x.so_far.live x.so_far.held u (touches (live_objects t x) op) (next_lsn v.log) (next_lsn w2.log) o n.now up low
                (λ d f is. subst (λ ts. g.Buried o d f ⊎ ((d ≡ u) × Inside f ts)) touched_is (subst (λ z. g.Buried o d f ⊎ ((d ≡ z) × Inside f (g.touched n.verb))) own (its_place d f (n.buried d f is))))
                (kept.buried o room.reads.reading)

            is_in_live : is_in u (tally (c.made ++ v.log)).live ≡ true
            is_in_live = ap (λ ls. is_in u ls) (changes_live t g lawful v.first v.durable a c.made v.log c.are) ∙ (kept.logs.same.lives u ∙ granted.live)

            notes_are : is_in u (tally (c.made ++ v.log)).live ≡ true → AreReserved (setting t g) after (top ∷ (tally v.log).notes)
                → AreReserved (setting t g) after (tally (record { lsn = l; is = TopEnd u p i (g.note note) } ∷ (c.made ++ v.log))).notes
            notes_are live h = subst (AreReserved (setting t g) after) (sym (ap (λ b. cond b (top ∷ (tally (c.made ++ v.log)).notes) (tally (c.made ++ v.log)).notes) live
                ∙ ap (λ ns. top ∷ ns) (changes_notes t g lawful v.first v.durable a c.made v.log c.are))) h

        -- the stock goes on as the operation's line lets it
        pub done_stock : LeadsStock t g v w2 (live_objects t x) u op
        done_stock r shown = (
          record { marks = g.marks n.now; steps = step_at g u l (g.note note) ∷ r.steps },
          subst (λ m. AcceptsOp t m r u op (after_it u)) objects_are (subst (λ z. AcceptsOp t (g.objects o) r z op (after_it z)) own
              (subst (λ ms. AcceptsOp t (g.objects o) (record { marks = ms; steps = r.steps }) a.transaction op (after_it a.transaction))
              (shown.marks o room.reads.reading) (n.stock l r.steps))),
          record {
            marks = λ b e. ap (λ z. g.marks z) (sym (some_one n.now b (sym n.reads.reading
                ∙ subst (λ (ls : List (Numbered g.C g.N)). g.reading (made (setting t g) w.first ls) ≡ Some b) did_end.log
                (subst (λ q. g.reading (made (setting t g) q w2.log) ≡ Some b) did_end.goes_on.first e))));
            steps = ap (λ ns. map (step_of g) ns) notes_now ∙ ap (λ ss. step_at g u l (g.note note) ∷ ss) shown.steps;
          },
        )
          where
            after_it : ℕ → RunStock
            after_it z = record { marks = g.marks n.now; steps = step_at g z l (g.note note) ∷ r.steps }

            in_live : is_in u (tally (c.made ++ v.log)).live ≡ true
            in_live = ap (λ ls. is_in u ls) (changes_live t g lawful v.first v.durable a c.made v.log c.are) ∙ (kept.logs.same.lives u ∙ granted.live)

            notes_now : (tally w2.log).notes ≡ top ∷ (tally v.log).notes
            notes_now = ap (λ (ls : List (Numbered g.C g.N)). (tally ls).notes) did_end.log
                ∙ (ap (λ (ls : List (Numbered g.C g.N)). (tally (record { lsn = l; is = TopEnd u p i (g.note note) } ∷ ls)).notes) changed.log
                ∙ (ap (λ b. cond b (top ∷ (tally (c.made ++ v.log)).notes) (tally (c.made ++ v.log)).notes) in_live
                ∙ ap (λ ns. top ∷ ns) (changes_notes t g lawful v.first v.durable a c.made v.log c.are)))

        -- the transaction is marked where it has dropped something
        marks_now : AreMarked g (marked_by op u txns) n.now
        marks_now = marks_done g op u o n.now (λ d f is. subst (λ z. g.Buried o d f ⊎ ((d ≡ z) × (drops op ≡ true))) own (by_drop d f (n.buried d f is))) txns (kept.marked o room.reads.reading)
          where
            by_drop : (d : ℕ) (f : List (Touch Resource)) → g.Buried o d f ⊎ ((d ≡ a.transaction) × Inside f (g.touched n.verb) × (drops op ≡ true)) → g.Buried o d f ⊎ ((d ≡ a.transaction) × (drops op ≡ true))
            by_drop d f (inl old) = inl old
            by_drop d f (inr new) = inr (new.0, new.2)

        same_marked : map (λ (k : Txn). k.transaction) (marked_by op u txns) ≡ map (λ (k : Txn). k.transaction) txns
        same_marked = numbers_marked op u txns

        -- its note wants a page, which the transaction has reserved
        pub done_reserved : 0 < needs.reserve → IsKept t g w2 (reserving u (marked_by op u txns)) (did t x u op)
        done_reserved some = done_with (reserving u (marked_by op u txns)) (numbers_reserving u (marked_by op u txns) ∙ same_marked)
            (reserved_note (setting t g) (marked_by op u txns) (tally v.log).notes top (reserved_marked (setting t g) op u txns (tally v.log).notes kept.reserved)
            (let one : (g.needs t o op).reserve ≤ 1 = lawful.reserves_one o op in let is : needs.reserve ≡ (g.needs t o op).reserve = room.need.reserve in let w1 : wants_one (setting t g) top ≡ (g.needs t o op).reserve = wants_is in omega (arith, one, is, w1, some)))
            (marks_reserving g u (marked_by op u txns) n.now marks_now)
            (shown_reserving u (marked_by op u txns) ∙ shown_marked op u txns)

        pub done_unreserved : needs.reserve ≡ 0 → IsKept t g w2 (marked_by op u txns) (did t x u op)
        done_unreserved none = done_with (marked_by op u txns) same_marked
            (reserved_none (setting t g) (marked_by op u txns) (tally v.log).notes top (reserved_marked (setting t g) op u txns (tally v.log).notes kept.reserved) (wants_is ∙ (sym room.need.reserve ∙ none)))
            marks_now
            (shown_marked op u txns)
