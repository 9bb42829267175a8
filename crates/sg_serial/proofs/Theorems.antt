-- What holds after each run.
use Rattle.std.proofs.Common.{◌≡◌, ℕ, ◌<◌, Bool, true, false, cond, not, List, [], ◌∷◌, ◌++◌, ◌≤◌, refl, sym, ap, ◌∙◌, subst, arith}
use Rattle.std.proofs.Common.{inl, inr}
use Rattle.std.specs.Prelude.{◌||◌, ◌&&◌, ◌==◌, nat_le, take}
use Rattle.std.specs.List.{filter}
use Rattle.std.proofs.lemmas.Bool.{eqb-true, ne_eqb, leb-true, le-leb}
use Rattle.sg_serial.specs.Machine.{any_touch, HasFootprint, Entry, run, Replays, Held}
use Rattle.sg_serial.specs.Locks.{Touch, Hold, reads, writes, held_of, hold_all}
use Rattle.sg_serial.specs.Runs.{Live, State, is_live, is_own, aborted, committed, locked, saved, back, rolled_back, remarking, Mark, start, LeavesOutEnds, KeepsEnded, AreAbove, AreRising, in_order, open_entries, live_state, committed_state, did, IsSerial, IsFree, Goes, GoesOn, undo_all}
use Rattle.sg_serial.specs.Runs.Goes.{refused, begins, only_locks, does, saves, goes_back, commits, aborts}
use Rattle.sg_serial.specs.Runs.GoesOn.{no_line, and_line}
use Rattle.sg_serial.proofs.Commute.{true_or_false, or_right}
use Rattle.sg_serial.proofs.Leaving.{run-append, left_out, leaving_out, parted_run}
use Rattle.sg_serial.proofs.Lists.{filter_both, filter_same, leaves_ends, order_filter, in_order_last}
use Rattle.sg_serial.proofs.Holding.{reads_merge, writes_merge, any-hold_all}
use Rattle.sg_serial.proofs.Kept.{same_live, begin_keeps, lock_keeps, did_keeps, commit_keeps, abort_keeps, back_keeps, Replays_of_Held, same_bool, and_true, both_true, not_both, not_true, later}

mark_number : (b : Bool) (f : List Mark → List Mark) (l : Live) → (cond b (record l { marks = f l.marks }) l).transaction ≡ l.transaction
mark_number true f l = refl
mark_number false f l = refl

pub live-remarking : (t : ℕ) (f : List Mark → List Mark) (ls : List Live) (u : ℕ) → is_live (remarking t f ls) u ≡ is_live ls u
live-remarking t f [] u = refl
live-remarking t f (l ∷ ls) u = ap (λ k. (k == u) || is_live (remarking t f ls) u) (mark_number (l.transaction == t) f l) ∙ ap (λ b. (l.transaction == u) || b) (live-remarking t f ls u)

above-remarking : (n t : ℕ) (f : List Mark → List Mark) (ls : List Live) → AreAbove n ls → AreAbove n (remarking t f ls)
above-remarking n t f [] h = tt
above-remarking n t f (l ∷ ls) h = (subst (λ (k : ℕ). n < k) (sym (mark_number (l.transaction == t) f l)) h.0, above-remarking n t f ls h.1)

rising-remarking : (t : ℕ) (f : List Mark → List Mark) (ls : List Live) → AreRising ls → AreRising (remarking t f ls)
rising-remarking t f [] h = tt
rising-remarking t f (l ∷ ls) h = (subst (λ (k : ℕ). AreAbove k (remarking t f ls)) (sym (mark_number (l.transaction == t) f l)) (above-remarking l.transaction t f ls h.0), rising-remarking t f ls h.1)

module _ {S Op Out Cell Resource : Type 0} (Value : Cell → Type 0) (step : S → Op → Out × S) (cell : S → (c : Cell) → Value c) (touches : S → Op → List (Touch Resource)) (covers : Resource → Cell → Bool) (same : Resource → Resource → Bool) (same_is : (a b : Resource) → same a b ≡ true → a ≡ b) (law : HasFootprint Value step cell touches (reads covers) (writes covers)) where
  abbrev Serial : State S Op Out Resource → Type 0
  Serial x = IsSerial step touches covers x

  -- other marks of a transaction are no matter
  remarks_keep : (x : State S Op Out Resource) (t : ℕ) (f : List Mark → List Mark) → Serial x → Serial (record x { live = remarking t f x.live })
  remarks_keep x t f k =
      let ls : List Live = remarking t f x.live in
      let alive : (u : ℕ) → is_live ls u ≡ is_live x.live u = λ u. live-remarking t f x.live u in
      let opens : open_entries (record x { live = remarking t f x.live }) ≡ open_entries x = filter_same (λ e. is_live ls e.transaction) (λ e. is_live x.live e.transaction) x.history (λ e i. alive e.transaction) in
      record {
        replays = k.replays;
        held = subst (λ (es : List (Entry Op Out)). Held step touches (reads covers) (writes covers) (held_of x.held) (committed_state step x) es) (sym opens) k.held;
        compatible = k.compatible;
        whole = λ keep ends stays. k.whole keep ends (λ e i n. stays e i (alive e.transaction ∙ n)) ∙ ap (λ (es : List (Entry Op Out)). run step (committed_state step x) (filter keep es)) (sym opens);
        ordered = k.ordered;
        below = k.below;
        numbers = λ u y. k.numbers u (sym (alive u) ∙ y);
        holders = λ u n. k.holders u (sym (alive u) ∙ n);
        rising = rising-remarking t f x.live k.rising;
      }

  -- a live transaction sets a mark
  pub save_keeps : (x : State S Op Out Resource) (t number : ℕ) → Serial x → Serial (saved x t number)
  save_keeps x t number k = remarks_keep x t (λ ms. ms ++ (record { number = number; time = x.clock }) ∷ []) k

  -- and goes back to one
  pub roll_keeps : (x : State S Op Out Resource) (t time n : ℕ) → is_live x.live t ≡ true → Serial x → Serial (rolled_back x t time n)
  roll_keeps x t time n there k = remarks_keep (back x t time) t (λ ms. take n ms) (back_keeps Value step cell touches covers same same_is law x t time there k)

  pub does_keeps : (x : State S Op Out Resource) (t : ℕ) (op : Op) → is_live x.live t ≡ true → IsFree covers x.held t (touches (live_state step x) op) → Serial x → Serial (did step (locked same x t (touches (live_state step x) op)) t op)
  does_keeps x t op there free k =
      let ts : List (Touch Resource) = touches (live_state step x) op in
      let hs : List (Hold Resource) = hold_all same t ts x.held in
      did_keeps Value step cell touches covers same same_is law (locked same x t ts) t op there
      (record {
        reads_more = λ c r. any-hold_all same same_is (reads covers) (reads_merge covers) t ts x.held c ∙ or_right (any_touch (reads covers) (held_of x.held t) c) (any_touch (reads covers) ts c) r;
        writes_more = λ c r. any-hold_all same same_is (writes covers) (writes_merge covers) t ts x.held c ∙ or_right (any_touch (writes covers) (held_of x.held t) c) (any_touch (writes covers) ts c) r;
      })
      (lock_keeps Value step cell touches covers same same_is law x t ts there free k)

  -- each line keeps what holds of each run
  pub line_keeps : {x y : State S Op Out Resource} → Goes step touches covers same x y → Serial x → Serial y
  line_keeps {x = x} refused k = k
  line_keeps {x = x} (begins t name above) k = begin_keeps Value step cell touches covers same same_is law x t name above k
  line_keeps {x = x} (only_locks t op there free) k = lock_keeps Value step cell touches covers same same_is law x t (touches (live_state step x) op) there free k
  line_keeps {x = x} (does t op there free) k = does_keeps x t op there free k
  line_keeps {x = x} (saves t number there) k = save_keeps x t number k
  line_keeps {x = x} (goes_back t time n there) k = roll_keeps x t time n there k
  line_keeps {x = x} (commits t there) k = commit_keeps Value step cell touches covers same same_is law x t there k
  line_keeps {x = x} (aborts t there) k = abort_keeps Value step cell touches covers same same_is law x t there k

  pub start_serial : (s : S) → Serial (start s)
  start_serial s = record {
    replays = tt;
    held = tt;
    compatible = λ t u n c w. refl;
    holders = λ t n. refl;
    rising = tt;
    whole = λ keep ends stays. refl;
    ordered = tt;
    below = tt;
    numbers = λ t y. absurd (not_both false y refl);
  }

  pub run_keeps : {x y : State S Op Out Resource} → GoesOn step touches covers same x y → Serial x → Serial y
  run_keeps no_line k = k
  run_keeps (and_line r g) k = line_keeps g (run_keeps r k)

  -- SERIAL: after each run from s the entries of the committed transactions, one whole transaction after another, give
  -- what they gave; with no live transaction the objects are those of the committed ones
  pub serial : (s : S) (x : State S Op Out Resource) → GoesOn step touches covers same (start s) x → Replays step x.first (in_order x.commits)
  serial s x r = (run_keeps r (start_serial s)).replays

  pub none_live_now : (x : State S Op Out Resource) → Serial x → ((t : ℕ) → is_live x.live t ≡ false) → live_state step x ≡ committed_state step x
  none_live_now x k none =
      same_live Value step cell touches covers same same_is law x k ∙ ap (λ (es : List (Entry Op Out)). run step (committed_state step x) es) (nothing x.history)
    where
      nothing : (es : List (Entry Op Out)) → filter (λ e. is_live x.live e.transaction) es ≡ []
      nothing [] = refl
      nothing (e ∷ es) = ap (λ b. cond b (e ∷ filter (λ f. is_live x.live f.transaction) es) (filter (λ f. is_live x.live f.transaction) es)) (none e.transaction) ∙ nothing es

  pub none_live : (s : S) (x : State S Op Out Resource) → GoesOn step touches covers same (start s) x → ((t : ℕ) → is_live x.live t ≡ false) → live_state step x ≡ committed_state step x
  none_live s x r none = none_live_now x (run_keeps r (start_serial s)) none

  -- the entries of a live transaction are open
  own_open : (x : State S Op Out Resource) (t : ℕ) → is_live x.live t ≡ true → filter (is_own t) (open_entries x) ≡ filter (is_own t) x.history
  own_open x t there = filter_both (is_own t) (λ e. is_live x.live e.transaction) x.history ∙ filter_same (λ e. is_own t e && is_live x.live e.transaction) (is_own t) x.history (λ e i. same_bool (is_own t e && is_live x.live e.transaction) (is_own t e)
      (λ h. (and_true (is_own t e) (is_live x.live e.transaction) h).0)
      (λ h. both_true (is_own t e) (is_live x.live e.transaction) h (ap (λ (u : ℕ). is_live x.live u) (eqb-true e.transaction t h) ∙ there)))

  -- after an abort the objects are the committed ones with the remaining open entries after them
  pub aborted_objects : (x : State S Op Out Resource) (t : ℕ) → is_live x.live t ≡ true → Serial x → live_state step (aborted x t) ≡ run step (committed_state step x) (filter (λ e. not (is_own t e)) (open_entries x))
  aborted_objects x t there k =
      k.whole (λ e. not (is_own t e)) (λ e f q l y. ap (λ (u : ℕ). not (u == t)) q ∙ y)
      (λ e i n. ap not (ne_eqb e.transaction t (λ q. not_both (is_live x.live t) there (ap (λ (u : ℕ). is_live x.live u) (sym q) ∙ n))))

  -- after a transaction went back to a time they are these with the open entries but for its own from that time on
  pub rolled_objects : (x : State S Op Out Resource) (t time n : ℕ) → is_live x.live t ≡ true → Serial x
      → live_state step (rolled_back x t time n) ≡ run step (committed_state step x) (filter (λ e. not (is_own t e && nat_le time e.time)) (open_entries x))
  rolled_objects x t time n there k =
      k.whole (λ e. not (is_own t e && nat_le time e.time))
      (λ e f q l y. later (is_own t e) (nat_le time e.time) (λ a b. not_both (is_own t f && nat_le time f.time) (both_true (is_own t f) (nat_le time f.time) (ap (λ (u : ℕ). u == t) (sym q) ∙ a) (le-leb time f.time (let h : time ≤ e.time = leb-true time e.time b in omega arith))) (not_true (is_own t f && nat_le time f.time) y)))
      (λ e i m. ap (λ b. not (b && nat_le time e.time)) (ne_eqb e.transaction t (λ q. not_both (is_live x.live t) there (ap (λ (u : ℕ). is_live x.live u) (sym q) ∙ m))))

  -- a commit puts the transaction's entries after the committed ones
  pub committed_objects : (x : State S Op Out Resource) (t : ℕ) → is_live x.live t ≡ true → Serial x → committed_state step (committed x t) ≡ run step (committed_state step x) (filter (is_own t) (open_entries x))
  committed_objects x t there k =
      ap (λ (es : List (Entry Op Out)). run step x.first es) (in_order_last x.commits (filter (is_own t) x.history))
      ∙ (run-append step x.first (in_order x.commits) (filter (is_own t) x.history) ∙ ap (λ (es : List (Entry Op Out)). run step (committed_state step x) es) (sym (own_open x t there)))

  -- LEAVING OUT: the live objects are the committed ones with the live entries after them, each giving what it gave,
  -- also once entries of live transactions are left out
  pub leaving_out_folds : (x : State S Op Out Resource) (keep : Entry Op Out → Bool) → LeavesOutEnds keep → KeepsEnded keep x.live x.history → Serial x
      → (run step x.first (filter keep x.history) ≡ run step (committed_state step x) (filter keep (open_entries x))) × Replays step (committed_state step x) (filter keep (open_entries x))
  leaving_out_folds x keep ends stays k = (
    k.whole keep ends stays,
    Replays_of_Held step touches (reads covers) (writes covers) (held_of x.held) (committed_state step x) (filter keep (open_entries x))
        (leaving_out Value step cell touches (reads covers) (writes covers) law (held_of x.held) k.compatible keep (committed_state step x) (open_entries x) (leaves_ends keep (open_entries x) ends (order_filter (λ f. is_live x.live f.transaction) x.history k.ordered)) k.held),
  )

  -- UNDOING: where an undo takes back what was done last, undoing the entries that are left out, the last one first,
  -- leaves what leaving them out leaves
  module _ (unstep : S → Out → S) (takes_back : (s : S) (op : Op) → unstep (step s op).1 (step s op).0 ≡ s) where
    pub undone : (s : S) (es : List (Entry Op Out)) → Replays step s es → undo_all unstep (run step s es) es ≡ s
    undone s [] h = refl
    undone s (e ∷ es) h = ap (λ (t : S). unstep t e.out) (undone (step s e.op).1 es h.1) ∙ (ap (λ (o : Out). unstep (step s e.op).1 o) (sym h.0) ∙ takes_back s e.op)

    pub undoing : (x : State S Op Out Resource) (keep : Entry Op Out → Bool) → LeavesOutEnds keep → KeepsEnded keep x.live x.history → Serial x
        → undo_all unstep (live_state step x) (filter (λ e. not (keep e)) x.history) ≡ run step x.first (filter keep x.history)
    undoing x keep ends stays k =
        let live : Entry Op Out → Bool = λ e. is_live x.live e.transaction in
        let gone : Entry Op Out → Bool = λ e. not (keep e) in
        let base : S = committed_state step x in
        let opened : List (Entry Op Out) = open_entries x in
        let behind : S = run step base (filter keep opened) in
        let order = leaves_ends keep opened ends (order_filter live x.history k.ordered) in
        let gone_same : filter gone x.history ≡ filter gone opened =
        filter_same gone (λ e. gone e && live e) x.history (λ e i. same_bool (gone e) (gone e && live e)
        (λ h. both_true (gone e) (live e) h (elim (true_or_false (live e)) [ inl y ↦ y | inr n ↦ absurd (not_both (keep e) (stays e i n) (not_true (keep e) h)) ]))
        (λ h. (and_true (gone e) (live e) h).0)) ∙ sym (filter_both gone live x.history) in
        let split : live_state step x ≡ run step behind (filter gone opened) = same_live Value step cell touches covers same same_is law x k ∙ parted_run Value step cell touches (reads covers) (writes covers) law (held_of x.held) k.compatible keep base opened order k.held in
        ap (λ (t : S). undo_all unstep t (filter gone x.history)) split
        ∙ (ap (λ (es : List (Entry Op Out)). undo_all unstep (run step behind (filter gone opened)) es) gone_same
        ∙ (undone behind (filter gone opened) (Replays_of_Held step touches (reads covers) (writes covers) (held_of x.held) behind (filter gone opened) (left_out Value step cell touches (reads covers) (writes covers) law (held_of x.held) k.compatible keep base opened order k.held))
        ∙ sym (k.whole keep ends stays)))

    -- undoing all entries of the live transactions, the last one first, leaves the objects after the committed ones alone
    pub losers_undone : (x : State S Op Out Resource) → Serial x → undo_all unstep (live_state step x) (open_entries x) ≡ committed_state step x
    losers_undone x k =
        let live : Entry Op Out → Bool = λ e. is_live x.live e.transaction in
        let keep : Entry Op Out → Bool = λ e. not (live e) in
        let opened : filter (λ e. not (keep e)) x.history ≡ open_entries x = filter_same (λ e. not (keep e)) live x.history (λ e i. twice (live e)) in
        let none : filter keep (open_entries x) ≡ [] = filter_both keep live x.history ∙ nothing x.history in
        ap (λ (es : List (Entry Op Out)). undo_all unstep (live_state step x) es) (sym opened)
        ∙ (undoing x keep (λ e f q l y. ap (λ (u : ℕ). not (is_live x.live u)) q ∙ y) (λ e i n. ap not n) k
        ∙ (k.whole keep (λ e f q l y. ap (λ (u : ℕ). not (is_live x.live u)) q ∙ y) (λ e i n. ap not n) ∙ ap (λ (es : List (Entry Op Out)). run step (committed_state step x) es) none))
      where
        twice : (b : Bool) → not (not b) ≡ b
        twice true = refl
        twice false = refl

        both : (b : Bool) → (not b && b) ≡ false
        both true = refl
        both false = refl

        nothing : (es : List (Entry Op Out)) → filter (λ e. not (is_live x.live e.transaction) && is_live x.live e.transaction) es ≡ []
        nothing [] = refl
        nothing (e ∷ es) = ap (λ b. cond b (e ∷ filter (λ f. not (is_live x.live f.transaction) && is_live x.live f.transaction) es) (filter (λ f. not (is_live x.live f.transaction) && is_live x.live f.transaction) es)) (both (is_live x.live e.transaction)) ∙ nothing es
