-- A transaction goes back to a mark: the log, once its notes behind the mark are undone, keeps the run without its entries from there on.
use Rattle.std.proofs.Common.{◌≡◌, ℕ, zero, suc, ◌+◌, ◌-◌, ◌<◌, ◌≤◌, Bool, true, false, cond, List, [], ◌∷◌, ◌++◌, map, take, Some, None, refl, sym, ap, ◌∙◌, subst, arith}
use Rattle.std.specs.Prelude.{◌==◌, ◌&&◌, ◌||◌, nat_lt, if◌then◌else◌, All, slice_index_or}
use Rattle.std.proofs.lemmas.List.Elements.{All-map}
use Rattle.std.proofs.lemmas.Bool.{eq-eqb, eqb-true, ne_eqb, lt-ltb}
use Rattle.sg_disk.proofs.Moments.{started, joined}
use Rattle.sg_ops.specs.Table.{Table as Operations}
use Rattle.sg_serial.specs.Locks.{Hold, held_of}
use Rattle.sg_model.specs.Touches.{Resource}
use Rattle.sg_serial.specs.Runs.{Mark, nth_mark}
use Rattle.sg_serial.specs.Runs as runs
use Rattle.sg_serial.proofs.Theorems.{live-remarking}
use Rattle.sg_core.specs.Live.{Txn, is_of, is_live, remarking, unreserving, one_less}
use Rattle.sg_core.specs.Live as core
use Rattle.sg_recovery.specs.Setting.{Setting}
use Rattle.sg_recovery.specs.Log.{Top, tally, is_in, notes_of}
use Rattle.sg_recovery.specs.Laws.{Each, Note, bare}
use Rattle.sg_recovery.specs.Stands.{wanted, wants_one}
use Rattle.sg_recovery.proofs.Basic.{same_number}
use Rattle.sg_room.specs.Lines.{IsLeft, UndoesEach}
use Rattle.sg_room.specs.Lines.UndoesEach.{none_is_left}
use Rattle.sg_room.specs.Steps.{RunStock, backed}
use Rattle.sg_room.proofs.Aborts.{undoes_each}
use Rattle.sg_recovery.specs.Shows.{from_on, left, Pairs, Ranks}
use Rattle.sg_recovery.specs.Chains.{next_lsn}
use Rattle.sg_recovery.specs.Claims.{Log}
use Rattle.sg_recovery.proofs.Basic.{each_more}
use Rattle.sg_run.specs.Run.{Run, marks_of, rolled_back, committed_objects}
use Rattle.sg_run.proofs.Serial.{roll_stays}
use Rattle.sg_join.specs.Join.{Keeps}
use Rattle.sg_join.proofs.Keeping as keeping
use Rattle.sg_join.proofs.Points.{rolled_points, rolled_told, point_of}
use Rattle.sg_store.specs.Ground.{Ground, IsLawful, setting}
use Rattle.sg_store.specs.Drops.{given_by}
use Rattle.sg_store.specs.Engine.{View, NoneBehind, Rested}
use Rattle.sg_store.specs.Room.{step_of, is_behind, ShowsStock, BacksStock}
use Rattle.sg_store.specs.Stands.{StandsFor}
use Rattle.sg_store.specs.Store.{IsKept, Logs, Undoes, IsUndoing, AreReserved, AreOthersReserved, AreMarked, IsMarked, shown_txn}
use Rattle.sg_store.specs.Calls.{Stays, TookNote, IsBackSince, IsBack}
use Rattle.sg_store.proofs.Holders.{all_hold}
use Rattle.sg_store.proofs.Images.{image_stands}
use Rattle.sg_store.proofs.Live.{numbers, wanted_one}
use Rattle.sg_store.proofs.Stocked.{backs_then}
use Rattle.sg_store.proofs.Undone.{kept_undoing}
use Rattle.sg_store.proofs.Points.{run_numbers_remarking}
use Rattle.sg_store.proofs.Saving.{same_marks_changed, numbers_remarking, reserved_remarking, marked_remarking}

-- THE NOTES FALL: an earlier one has a smaller number
abbrev Falls : {C N : Type 0} → (later earlier : Top C N) → Type 0
Falls later earlier = earlier.lsn < later.lsn

notes_fall : (s : Setting) (ns : List (Note s)) → Pairs (Ranks s) ns → Pairs Falls (map (bare s) ns)
notes_fall s [] h = tt
notes_fall s (n ∷ ns) h = (one n ns h.0, notes_fall s ns h.1)
  where
    one : (n : Note s) (ms : List (Note s)) → Each (Ranks s n) ms → Each (Falls (bare s n)) (map (bare s) ms)
    one n [] k = tt
    one n (m ∷ ms) k = (k.0.lower, one n ms k.1)

-- so that none of a transaction stands behind a number where its last one doesn't
none_of : {C N : Type 0} (u stop : ℕ) (ns : List (Top C N)) → Pairs Falls ns → NoneBehind stop (notes_of u ns) → Each (λ n. n.transaction ≡ u → n.lsn ≤ stop) ns
none_of u stop [] falls h = tt
none_of {C} {N} u stop (n ∷ ns) falls h = go (n.transaction == u) refl h (none_of u stop ns falls.1)
  where
    go : (b : Bool) → (n.transaction == u) ≡ b → NoneBehind stop (cond b (n ∷ notes_of u ns) (notes_of u ns)) → (NoneBehind stop (notes_of u ns) → Each (λ m. m.transaction ≡ u → m.lsn ≤ stop) ns)
        → (n.transaction ≡ u → n.lsn ≤ stop) × Each (λ m. m.transaction ≡ u → m.lsn ≤ stop) ns
    go true e k rest = ((λ own. k), each_more (Falls n) (λ m. m.transaction ≡ u → m.lsn ≤ stop) ns (λ m low own. let z : m.lsn < n.lsn = low in omega (arith, z, k)) falls.0)
    go false e k rest = ((λ own. absurd (clash (eq-eqb n.transaction u own) e)), rest k)
      where
        clash : (n.transaction == u) ≡ true → (n.transaction == u) ≡ false → ⊥
        clash y z = absurd (cc)

map_take : {A B : Type 0} (f : A → B) (n : ℕ) (xs : List A) → map f (take n xs) ≡ take n (map f xs)
map_take f zero xs = refl
map_take f (suc n) [] = refl
map_take f (suc n) (x ∷ xs) = ap (λ ys. f x ∷ ys) (map_take f n xs)

module _ (t : Operations) (g : Ground) (lawful : IsLawful t g) where
  -- the log keeps the run that has gone back
  pub roll_logs : (pages : g.X) (durable log : Log (setting t g)) (x : Run) (u n : ℕ) (m : Mark) → Undoes t g pages durable log x u (m.number + 1) → runs.is_live x.so_far.live u ≡ true → nth_mark n (marks_of x u) ≡ Some m
      → NoneBehind m.number (notes_of u (tally log).notes) → Logs t g pages durable log (rolled_back x u m.time n)
  roll_logs pages durable log x u n m k live is none =
      let point = point_of (next_lsn log) x.so_far.clock k.whole x.so_far.history x.so_far.live u n m k.points is in
      let goes_on : is_in u (tally log).live ≡ true = k.same.lives u ∙ live in
      let low : Each (λ (i : Top g.C g.N). i.transaction ≡ u → i.lsn ≤ m.number) (tally log).notes = none_of u m.number (tally log).notes (subst (Pairs Falls) k.keeps.running.are (notes_fall (setting t g) k.keeps.running.placed k.keeps.running.ranks)) none in
      record {
        sound = roll_stays t x u m.time n live k.sound;
        next = k.next;
        history = left (from_on u (m.number + 1)) k.whole;
        same = record {
          same = rolled_told g.op (next_lsn log) x.so_far.clock k.whole x.so_far.history u m k.same.same point;
          lives = λ v. k.same.lives v ∙ sym (live-remarking u (λ ms. take n ms) x.so_far.live v);
        };
        points = rolled_points (next_lsn log) x.so_far.clock k.whole x.so_far.history x.so_far.live u n m point k.points;
        keeps = subst (λ h. Keeps (setting t g) x.so_far.first pages (committed_objects t x) (held_of x.so_far.held) durable log h) k.rest
            (keeping.forgets (setting t g) x.so_far.first pages (committed_objects t x) (held_of x.so_far.held) durable log k.history u (m.number + 1) k.keeps goes_on
            (each_more (λ (i : Top g.C g.N). i.transaction ≡ u → i.lsn ≤ m.number) (λ i. i.transaction ≡ u → i.lsn < m.number + 1) (tally log).notes (λ i le own. let z : i.lsn ≤ m.number = le own in omega (arith, z)) low));
      }

  -- and so does the engine, once each has reserved what its notes want
  pub roll_kept : (w : View g) (txns : List Txn) (x : Run) (u n at : ℕ) (m : Mark) → IsUndoing t g w txns x u (m.number + 1) at → AreReserved (setting t g) txns (tally w.log).notes → runs.is_live x.so_far.live u ≡ true
      → nth_mark n (marks_of x u) ≡ Some m → NoneBehind m.number (notes_of u (tally w.log).notes) → IsKept t g w (remarking u (λ ms. take n ms) txns) (rolled_back x u m.time n)
  roll_kept w txns x u n at m k reserved live is none = record {
    live = numbers_remarking u (λ ms. take n ms) txns ∙ (k.live ∙ sym (run_numbers_remarking u (λ ms. take n ms) x.so_far.live));
    answered = k.answered;
    engine = k.engine;
    idle = k.idle;
    logs = roll_logs w.first w.durable w.log x u n m k.undoes live is none;
    free = k.free;
    reserved = reserved_remarking (setting t g) u (λ ms. take n ms) txns (tally w.log).notes reserved;
    buried = λ o e d f b. let h = k.buried o e d f b in (h.0, λ lives. h.1 (sym (live-remarking u (λ ms. take n ms) x.so_far.live d) ∙ lives));
    marked = λ o e. marked_remarking g u (λ ms. take n ms) txns o (k.marked o e);
    marks = same_marks_changed txns x.so_far.live u (λ ms. take n ms) (λ ms. take n ms) (λ ms. map_take (λ (i : Mark). i.number) n ms) k.marks;
  }

-- THE STOCK
pub steps_left_to : (g : Ground) (u stop : ℕ) (ns : List (Top g.C g.N)) → Each (λ n. n.transaction ≡ u → ⊥) ns → Each (IsLeft (is_behind u stop)) (map (step_of g) ns)
steps_left_to g u stop [] h = tt
steps_left_to g u stop (n ∷ ns) h = (ap (λ b. b && nat_lt stop n.lsn) (ne_eqb n.transaction u h.0), steps_left_to g u stop ns h.1)

pub behind_own : (u stop i : ℕ) → stop + 1 ≤ i → is_behind u stop u i ≡ true
behind_own u stop i low = ap (λ b. b && nat_lt stop i) (same_number u) ∙ lt-ltb stop i (omega arith)

-- nothing is left to be undone where none stands behind the number
steps_before : (g : Ground) (u stop : ℕ) (ns : List (Top g.C g.N)) → Each (λ n. n.transaction ≡ u → n.lsn ≤ stop) ns → Each (IsLeft (is_behind u stop)) (map (step_of g) ns)
steps_before g u stop [] h = tt
steps_before g u stop (n ∷ ns) h = (go (n.transaction == u) refl (nat_lt stop n.lsn) refl, steps_before g u stop ns h.1)
  where
    go : (a : Bool) → (n.transaction == u) ≡ a → (b : Bool) → nat_lt stop n.lsn ≡ b → (a && b) ≡ false
    go false e b f = refl
    go true e false f = refl
    go true e true f = absurd (let own : n.lsn ≤ stop = h.0 (eqb-true n.transaction u e) in let up : stop < n.lsn = Rattle.std.proofs.lemmas.Bool.ltb-true stop n.lsn f in omega (arith, own, up))

module _ (t : Operations) (g : Ground) where
  -- nothing was undone
  pub none_still : (v w : View g) (u stop : ℕ) → Rested t g v w → NoneBehind stop (notes_of u (tally v.log).notes) → NoneBehind stop (notes_of u (tally w.log).notes)
  none_still v w u stop r h = subst (λ ls. NoneBehind stop (notes_of u (tally ls).notes)) (sym r.log) h

  pub same_notes : (v w : View g) → Rested t g v w → (tally w.log).notes ≡ (tally v.log).notes
  same_notes v w r = ap (λ (ls : Log (setting t g)). (tally ls).notes) r.log

-- WHAT WAS RESERVED falls back
module _ (s : Setting) (u : ℕ) (last : Top s.C s.N) (own ns rest : List (Top s.C s.N)) (was : notes_of u ns ≡ last ∷ own) (left : notes_of u rest ≡ own) (others : (n : ℕ) → (n ≡ u → ⊥) → notes_of n rest ≡ notes_of n ns) where
  one_back : (b : Bool) → s.wants last.note ≡ b → (k : Txn) → k.reserved ≡ wanted s (notes_of k.transaction ns) → (c : Bool) → (k.transaction == u) ≡ c
      → (cond b (cond c (one_less k) k) k).reserved ≡ wanted s (notes_of (cond b (cond c (one_less k) k) k).transaction rest)
  one_back b w k h false e = other b
    where
      same : k.reserved ≡ wanted s (notes_of k.transaction rest)
      same = h ∙ ap (λ l. wanted s l) (sym (others k.transaction (λ f. absurd (clash (eq-eqb k.transaction u f) e))))
        where
          clash : (k.transaction == u) ≡ true → (k.transaction == u) ≡ false → ⊥
          clash y z = absurd (cc)

      other : (d : Bool) → (cond d (cond false (one_less k) k) k).reserved ≡ wanted s (notes_of (cond d (cond false (one_less k) k) k).transaction rest)
      other true = same
      other false = same
  one_back b w k h true e = mine b w
    where
      here : k.transaction ≡ u
      here = eqb-true k.transaction u e

      count : k.reserved ≡ wanted s own + wants_one s last
      count = h ∙ (ap (λ i. wanted s (notes_of i ns)) here ∙ (ap (λ l. wanted s l) was ∙ wanted_one s last own))

      now : wanted s (notes_of k.transaction rest) ≡ wanted s own
      now = ap (λ i. wanted s (notes_of i rest)) here ∙ ap (λ l. wanted s l) left

      mine : (d : Bool) → s.wants last.note ≡ d → (cond d (cond true (one_less k) k) k).reserved ≡ wanted s (notes_of (cond d (cond true (one_less k) k) k).transaction rest)
      mine true f = let one : wants_one s last ≡ 1 = ap (λ (z : Bool). cond z 1 0) f in omega (arith, count, now, one)
      mine false f = let none : wants_one s last ≡ 0 = ap (λ (z : Bool). cond z 1 0) f in omega (arith, count, now, none)

  pub reserved_back : (b : Bool) → s.wants last.note ≡ b → (ks : List Txn) → AreReserved s ks ns → AreReserved s (given_by b u ks) rest
  reserved_back true w [] h = tt
  reserved_back true w (k ∷ ks) h = (one_back true w k h.0 (k.transaction == u) refl, reserved_back true w ks h.1)
  reserved_back false w [] h = tt
  reserved_back false w (k ∷ ks) h = (one_back false w k h.0 (k.transaction == u) refl, reserved_back false w ks h.1)

-- one that has given back a page is as it was besides
pub numbers_given : (b : Bool) (u : ℕ) (ks : List Txn) → numbers (given_by b u ks) ≡ numbers ks
numbers_given false u ks = refl
numbers_given true u [] = refl
numbers_given true u (k ∷ ks) = go (k.transaction == u) (numbers_given true u ks)
  where
    go : (c : Bool) → numbers (unreserving u ks) ≡ numbers ks → (cond c (one_less k) k).transaction ∷ numbers (unreserving u ks) ≡ k.transaction ∷ numbers ks
    go true h = ap (λ ns. k.transaction ∷ ns) h
    go false h = ap (λ ns. k.transaction ∷ ns) h

shown_given : (b : Bool) (u : ℕ) (ks : List Txn) → map shown_txn (given_by b u ks) ≡ map shown_txn ks
shown_given false u ks = refl
shown_given true u [] = refl
shown_given true u (k ∷ ks) = go (k.transaction == u) (shown_given true u ks)
  where
    go : (c : Bool) → map shown_txn (unreserving u ks) ≡ map shown_txn ks → shown_txn (cond c (one_less k) k) ∷ map shown_txn (unreserving u ks) ≡ shown_txn k ∷ map shown_txn ks
    go true h = ap (λ ps. shown_txn k ∷ ps) h
    go false h = ap (λ ps. shown_txn k ∷ ps) h

others_given : (s : Setting) (b : Bool) (u : ℕ) (ks : List Txn) (ns : List (Top s.C s.N)) → AreOthersReserved s ks ns u → AreOthersReserved s (given_by b u ks) ns u
others_given s false u ks ns h = h
others_given s true u [] ns h = tt
others_given s true u (k ∷ ks) ns h = (go (k.transaction == u) refl, others_given s true u ks ns h.1)
  where
    go : (c : Bool) → (k.transaction == u) ≡ c → ((cond c (one_less k) k).transaction ≡ u → ⊥) → (cond c (one_less k) k).reserved ≡ wanted s (notes_of (cond c (one_less k) k).transaction ns)
    go true e ne = absurd (ne (eqb-true k.transaction u e))
    go false e ne = h.0 ne

marked_given : (g : Ground) (b : Bool) (u : ℕ) (ks : List Txn) (o : g.O) → AreMarked g ks o → AreMarked g (given_by b u ks) o
marked_given g false u ks o h = h
marked_given g true u [] o h = tt
marked_given g true u (k ∷ ks) o h = (go (k.transaction == u), marked_given g true u ks o h.1)
  where
    go : (c : Bool) → IsMarked g o (cond c (one_less k) k)
    go true = h.0
    go false = h.0

pub undoing_given : (t : Operations) (g : Ground) (w : View g) (b : Bool) (txns : List Txn) (x : Run) (u from at : ℕ) → IsUndoing t g w txns x u from at → IsUndoing t g w (given_by b u txns) x u from at
undoing_given t g w b txns x u from at k = record {
  live = numbers_given b u txns ∙ k.live;
  answered = k.answered;
  engine = k.engine;
  idle = k.idle;
  undoes = k.undoes;
  free = k.free;
  most = k.most;
  reserved = others_given (setting t g) b u txns (tally w.log).notes k.reserved;
  buried = k.buried;
  marked = λ o e. marked_given g b u txns o (k.marked o e);
  marks = shown_given b u txns ∙ k.marks;
}

-- THE LOOP, from an engine and some live transactions on
module _ (t : Operations) (g : Ground) (lawful : Type 0) (v : View g) (before : List Txn) (u stop : ℕ) where
  pub back_none : (at : ℕ) → at ≡ v.tail → IsBackSince t g lawful v v before before u stop at
  back_none at e = record {
    stays = λ x l h live. started v.disk (λ c. StandsFor t g c (committed_objects t x)) (λ c i. image_stands t g v (committed_objects t x) v.log h.logs.keeps.fronts c (h.engine.images c i));
    undoing = λ x l h live. subst (λ n. IsUndoing t g v before x u (stop + 1) n) (sym e) (kept_undoing t g v before x u (stop + 1) h);
    reserved = λ x l h live. h.reserved;
    stock = λ x l h live r shown. (r, (λ after z. z), shown);
  }

  module _ (w z : View g) (now : List Txn) (at : ℕ) (s : IsBackSince t g lawful v w before now u stop at) where
    pub back_more : (after : ℕ) (note : List ℕ) (next : List Txn) → next ≡ given_by (g.wants (g.note note)) u now
        → ((x : Run) → lawful → IsUndoing t g w now x u (stop + 1) at → runs.is_live x.so_far.live u ≡ true → Stays t g w z x)
        → ((x : Run) → lawful → IsUndoing t g w now x u (stop + 1) at → runs.is_live x.so_far.live u ≡ true → IsUndoing t g z now x u (stop + 1) after × TookNote t g w z u note × BacksStock t g w z (is_behind u stop))
        → IsBackSince t g lawful v z before next u stop after
    back_more after note next is stays goes = record {
      stays = λ x l k live. joined (s.stays x l k live) (stays x l (s.undoing x l k live) live);
      undoing = λ x l k live. subst (λ ks. IsUndoing t g z ks x u (stop + 1) after) (sym is) (undoing_given t g z (g.wants (g.note note)) now x u (stop + 1) after (goes x l (s.undoing x l k live) live).0);
      reserved = λ x l k live.
          (let took = (goes x l (s.undoing x l k live) live).1 in
          subst (λ ks. AreReserved (setting t g) ks (tally z.log).notes) (sym is)
          (reserved_back (setting t g) u took.last took.own (tally w.log).notes (tally z.log).notes took.was took.left took.others (g.wants (g.note note)) (ap g.wants (sym took.said)) now (s.reserved x l k live)));
      stock = λ x l k live. backs_then t g v w z (is_behind u stop) (s.stock x l k live) (goes x l (s.undoing x l k live) live).2;
    }

    pub back_stays : (x : Run) → lawful → IsKept t g v before x → runs.is_live x.so_far.live u ≡ true → (IsUndoing t g w now x u (stop + 1) at → Stays t g w z x) → Stays t g v z x
    back_stays x l k live stays = joined (s.stays x l k live) (stays (s.undoing x l k live))

    pub back_stock : (x : Run) → lawful → IsKept t g v before x → runs.is_live x.so_far.live u ≡ true
        → (IsUndoing t g w now x u (stop + 1) at → IsUndoing t g z now x u (stop + 1) at × NoneBehind stop (notes_of u (tally z.log).notes) × ((tally z.log).notes ≡ (tally w.log).notes) × BacksStock t g w z (is_behind u stop)) → BacksStock t g v z (is_behind u stop)
    back_stock x l k live goes = backs_then t g v w z (is_behind u stop) (s.stock x l k live) (goes (s.undoing x l k live)).3

    pub back_done : (x : Run) → lawful → IsKept t g v before x → runs.is_live x.so_far.live u ≡ true
        → (IsUndoing t g w now x u (stop + 1) at → IsUndoing t g z now x u (stop + 1) at × NoneBehind stop (notes_of u (tally z.log).notes) × ((tally z.log).notes ≡ (tally w.log).notes) × BacksStock t g w z (is_behind u stop)) → IsBack t g z now x u stop
    back_done x l k live goes =
        let h = goes (s.undoing x l k live) in
        record { at = at; undoing = h.0; reserved = subst (λ ns. AreReserved (setting t g) now ns) (sym h.2) (s.reserved x l k live); none = h.1 }

-- ALL THAT IS TO GO of the stock is gone
pub back_all : (t : Operations) (g : Ground) (v w : View g) (u stop : ℕ) (r : RunStock) → BacksStock t g v w (is_behind u stop) → Each (λ n. n.transaction ≡ u → n.lsn ≤ stop) (tally w.log).notes → ShowsStock t g v r
    → ShowsStock t g w (backed (is_behind u stop) r)
back_all t g v w u stop r backs low shown =
    let b = backs r shown in
    let left : Each (IsLeft (is_behind u stop)) b.0.steps = subst (Each (IsLeft (is_behind u stop))) b.2.steps (steps_before g u stop (tally w.log).notes low) in
    let all : b.0 ≡ backed (is_behind u stop) r = undoes_each (is_behind u stop) r b.0 (b.1 b.0 (none_is_left b.0 left)) in
    subst (ShowsStock t g w) all b.2

-- none of the transaction's notes stand behind the number
pub low_notes : (t : Operations) (g : Ground) (w : View g) (txns : List Txn) (x : Run) (u stop : ℕ) → IsBack t g w txns x u stop → Each (λ n. n.transaction ≡ u → n.lsn ≤ stop) (tally w.log).notes
low_notes t g w txns x u stop k = none_of u stop (tally w.log).notes
    (subst (Pairs Falls) k.undoing.undoes.keeps.running.are (notes_fall (setting t g) k.undoing.undoes.keeps.running.placed k.undoing.undoes.keeps.running.ranks)) k.none

-- who is live stays, with a number below what it was
pub live_unreserving : (u v : ℕ) (ks : List Txn) → is_live (unreserving u ks) v ≡ is_live ks v
live_unreserving u v [] = refl
live_unreserving u v (k ∷ ks) = go (is_of u k) (live_unreserving u v ks)
  where
    go : (b : Bool) → is_live (unreserving u ks) v ≡ is_live ks v → (is_of v (cond b (one_less k) k) || is_live (unreserving u ks) v) ≡ (is_of v k || is_live ks v)
    go true e = ap (λ b. is_of v k || b) e
    go false e = ap (λ b. is_of v k || b) e

pub unreserving_holders : (v : ℕ) (ks : List Txn) (hs : List (Hold Resource)) → all_hold (is_live ks) hs ≡ true → all_hold (is_live (unreserving v ks)) hs ≡ true
unreserving_holders v ks [] h = refl
unreserving_holders v ks (x ∷ hs) h = go (is_live ks x.transaction) refl h (unreserving_holders v ks hs)
  where
    go : (b : Bool) → is_live ks x.transaction ≡ b → (b && all_hold (is_live ks) hs) ≡ true → (all_hold (is_live ks) hs ≡ true → all_hold (is_live (unreserving v ks)) hs ≡ true) → (is_live (unreserving v ks) x.transaction && all_hold (is_live (unreserving v ks)) hs) ≡ true
    go true e k r = ap (λ z. z && all_hold (is_live (unreserving v ks)) hs) (live_unreserving v x.transaction ks ∙ e) ∙ r k
    go false e k r = absurd (cc)

pub below_unreserving : (v low : ℕ) (ks : List Txn) → All (λ k. k.transaction < low) ks → All (λ k. k.transaction < low) (unreserving v ks)
below_unreserving v low ks h = All-map (λ (k : Txn). k.transaction < low) (λ (k : Txn). cond (is_of v k) (one_less k) k) ks (λ i d lt. one (is_of v (slice_index_or ks i d)) (slice_index_or ks i d) (h i d lt))
  where
    one : (b : Bool) (k : Txn) → k.transaction < low → (cond b (one_less k) k).transaction < low
    one true k z = z
    one false k z = z
