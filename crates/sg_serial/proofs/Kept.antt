-- Each kind of line keeps what holds of each run.
use Rattle.std.proofs.Common.{◌≡◌, ℕ, ◌+◌, ◌<◌, ◌≤◌, Bool, true, false, not, List, [], ◌∷◌, ◌++◌, refl, sym, ap, ◌∙◌, subst, arith}
use Rattle.std.proofs.Common.{inl, inr}
use Rattle.std.specs.Prelude.{◌||◌, ◌&&◌, ◌==◌, nat_le}
use Rattle.std.specs.List.{filter}
use Rattle.std.proofs.lemmas.Bool.{eqb-true, eqb-false, eq-eqb, ne_eqb, le-leb, leb-true}
use Rattle.sg_serial.specs.Machine.{Among, any_touch, IsHeldBy, HasFootprint, Entry, run, Replays, Held, AreCompatible}
use Rattle.sg_serial.specs.Locks.{Touch, Hold, reads, writes, held_of, released, hold_all}
use Rattle.sg_serial.specs.Runs
use Rattle.sg_serial.specs.Runs.{Live, State, is_live, without, is_own, began, locked, ended, kept, aborted, back, AreInOrder, AreBelow, LeavesOutEnds, KeepsEnded, in_order, open_entries, live_state, committed_state, did, IsSerial, IsFree}
use Rattle.sg_serial.proofs.Commute.{true_or_false, or_left, or_true, or_false}
use Rattle.sg_serial.proofs.Leaving.{run-append, Held-join, leaving_out, left_out, parted_run}
use Rattle.sg_serial.proofs.Lists.{chosen, filter_both, filter_same, filter_true, filter_append, filter_swap, in_filter, among_filter, among_front, in_order_last, order_filter, order_last, below_filter, below_more, below_last, among_below, leaves_ends, live-without, live-append, rising_filter, rising_last}
use Rattle.sg_serial.proofs.Holding.{held-released, held-released_other, reads_merge, writes_merge, any-hold_all, held-hold_all}

pub and_true : (a b : Bool) → (a && b) ≡ true → (a ≡ true) × (b ≡ true)
and_true true b h = (refl, h)
and_true false b h = absurd (cc)

pub both_true : (a b : Bool) → a ≡ true → b ≡ true → (a && b) ≡ true
both_true true b h i = i
both_true false b h i = absurd (cc)

pub same_bool : (a b : Bool) → (a ≡ true → b ≡ true) → (b ≡ true → a ≡ true) → a ≡ b
same_bool true b h i = sym (h refl)
same_bool false true h i = i refl
same_bool false false h i = refl

pub not_both : (b : Bool) → b ≡ true → b ≡ false → ⊥
not_both b h i = absurd (cc)

pub and_all : (b : Bool) → (b && true) ≡ b
and_all true = refl
and_all false = refl

pub and_none : (b : Bool) → (b && false) ≡ false
and_none true = refl
and_none false = refl

pub and_swapped : (a b : Bool) → (a && b) ≡ (b && a)
and_swapped true true = refl
and_swapped true false = refl
and_swapped false true = refl
and_swapped false false = refl

pub not_true : (b : Bool) → not b ≡ true → b ≡ false
not_true true h = sym h
not_true false h = refl

pub later : (a b : Bool) → (a ≡ true → b ≡ true → ⊥) → not (a && b) ≡ true
later true true h = absurd (h refl refl)
later true false h = refl
later false b h = refl

module _ {S Op Out Cell Touch : Type 0} (step : S → Op → Out × S) (touches : S → Op → List Touch) (looks changes : Touch → Cell → Bool) where
  -- what one keeps of them the other holds too
  pub Held-change : (held more : ℕ → List Touch) (s : S) (es : List (Entry Op Out)) → ((e : Entry Op Out) → Among e es → IsHeldBy looks changes (held e.transaction) (more e.transaction)) → Held step touches looks changes held s es → Held step touches looks changes more s es
  Held-change held more s [] m h = tt
  Held-change held more s (e ∷ es) m h =
      let n = m e (inl refl) in
      (h.0, record { reads_more = λ c r. n.reads_more c (h.1.reads_more c r); writes_more = λ c r. n.writes_more c (h.1.writes_more c r) }, Held-change held more (step s e.op).1 es (λ f i. m f (inr i)) h.2)

  pub Replays_of_Held : (held : ℕ → List Touch) (s : S) (es : List (Entry Op Out)) → Held step touches looks changes held s es → Replays step s es
  Replays_of_Held held s [] h = tt
  Replays_of_Held held s (e ∷ es) h = (h.0, Replays_of_Held held (step s e.op).1 es h.2)

  pub held_same : (xs ys : List Touch) → xs ≡ ys → IsHeldBy looks changes xs ys
  held_same xs ys e = record { reads_more = λ c r. ap (λ (ts : List Touch). any_touch looks ts c) (sym e) ∙ r; writes_more = λ c r. ap (λ (ts : List Touch). any_touch changes ts c) (sym e) ∙ r }

pub Replays-join : {S Op Out : Type 0} (step : S → Op → Out × S) (s : S) (xs ys : List (Entry Op Out)) → Replays step s xs → Replays step (run step s xs) ys → Replays step s (xs ++ ys)
Replays-join step s [] ys h i = i
Replays-join step s (e ∷ xs) ys h i = (h.0, Replays-join step (step s e.op).1 xs ys h.1 i)

module _ {S Op Out Cell Resource : Type 0} (Value : Cell → Type 0) (step : S → Op → Out × S) (cell : S → (c : Cell) → Value c) (touches : S → Op → List (Touch Resource)) (covers : Resource → Cell → Bool) (same : Resource → Resource → Bool) (same_is : (a b : Resource) → same a b ≡ true → a ≡ b) (law : HasFootprint Value step cell touches (reads covers) (writes covers)) where
  abbrev may_read : Touch Resource → Cell → Bool
  may_read = reads covers

  abbrev may_write : Touch Resource → Cell → Bool
  may_write = writes covers

  abbrev Kept : State S Op Out Resource → Type 0
  Kept x = IsSerial step touches covers x

  -- the objects are those of the committed transactions with the live entries after them
  pub same_live : (x : State S Op Out Resource) → Kept x → live_state step x ≡ run step (committed_state step x) (open_entries x)
  same_live x k =
      ap (λ (es : List (Entry Op Out)). run step x.first es) (sym (filter_true x.history))
      ∙ (k.whole (λ e. true) (λ e f q l y. refl) (λ e i n. refl) ∙ ap (λ (es : List (Entry Op Out)). run step (committed_state step x) es) (filter_true (open_entries x)))

  -- a transaction begins, with a number above all
  pub begin_keeps : (x : State S Op Out Resource) (t : ℕ) (name : List ℕ) → x.next ≤ t → Kept x → Kept (began x t name)
  begin_keeps x t name above k =
      let l : Live = record { name = name; transaction = t; marks = [] } in
      let ls : List Live = x.live ++ l ∷ [] in
      let old : (e : Entry Op Out) → Among e x.history → is_live ls e.transaction ≡ is_live x.live e.transaction = λ e i.
      (let small : e.transaction < x.next = among_below x.next x.clock x.history e k.below i in
      let ne : (t == e.transaction) ≡ false = ne_eqb t e.transaction (λ q. absurd (omega (arith, q))) in
      live-append x.live (l ∷ []) e.transaction ∙ (ap (λ b. is_live x.live e.transaction || (b || false)) ne ∙ or_nothing (is_live x.live e.transaction))) in
      let opens : open_entries (began x t name) ≡ open_entries x = filter_same (λ e. is_live ls e.transaction) (λ e. is_live x.live e.transaction) x.history old in
      record {
        replays = k.replays;
        held = subst (λ (es : List (Entry Op Out)). Held step touches (reads covers) (writes covers) (held_of x.held) (committed_state step x) es) (sym opens) k.held;
        compatible = k.compatible;
        whole = λ keep ends stays. k.whole keep ends (λ e i n. stays e i (old e i ∙ n)) ∙ ap (λ (es : List (Entry Op Out)). run step (committed_state step x) (filter keep es)) (sym opens);
        ordered = k.ordered;
        below = below_more x.next x.clock (t + 1) x.clock x.history (omega arith) (omega arith) k.below;
        numbers = λ u y. elim (or_true (is_live x.live u) ((t == u) || false) (sym (live-append x.live (l ∷ []) u) ∙ y)) [
          | inl a ↦ (let b : u < x.next = k.numbers u a in omega arith)
          | inr b ↦ elim (or_true (t == u) false b) [ inl c ↦ (let q : t ≡ u = eqb-true t u c in omega arith) | inr d ↦ absurd (not_both false d refl) ]
        ];
        holders = λ u n. k.holders u (left_false (is_live x.live u) ((t == u) || false) (sym (live-append x.live (l ∷ []) u) ∙ n));
        rising = rising_last x.live l k.rising (λ u y. let b : u < x.next = k.numbers u y in omega arith);
      }
    where
      or_nothing : (b : Bool) → (b || false) ≡ b
      or_nothing true = refl
      or_nothing false = refl

      left_false : (a b : Bool) → (a || b) ≡ false → a ≡ false
      left_false true b h = h
      left_false false b h = refl

  -- a live transaction holds more, which nobody else holds in conflict
  pub lock_keeps : (x : State S Op Out Resource) (t : ℕ) (ts : List (Touch Resource)) → is_live x.live t ≡ true → IsFree covers x.held t ts → Kept x → Kept (locked same x t ts)
  lock_keeps x t ts there free k =
      let hs : List (Hold Resource) = hold_all same t ts x.held in
      let other : (u : ℕ) → (u ≡ t → ⊥) → held_of hs u ≡ held_of x.held u = λ u n. held-hold_all same t ts x.held u n in
      let reads_own : (c : Cell) → any_touch (reads covers) (held_of hs t) c ≡ (any_touch (reads covers) (held_of x.held t) c || any_touch (reads covers) ts c) = λ c. any-hold_all same same_is (reads covers) (reads_merge covers) t ts x.held c in
      let writes_own : (c : Cell) → any_touch (writes covers) (held_of hs t) c ≡ (any_touch (writes covers) (held_of x.held t) c || any_touch (writes covers) ts c) = λ c. any-hold_all same same_is (writes covers) (writes_merge covers) t ts x.held c in
      let more : (u : ℕ) → IsHeldBy (reads covers) (writes covers) (held_of x.held u) (held_of hs u) = λ u. elim (true_or_false (u == t)) [
        | inl y ↦ (let q : u ≡ t = eqb-true u t y in subst (λ (v : ℕ). IsHeldBy (reads covers) (writes covers) (held_of x.held v) (held_of hs v)) (sym q) (record {
          reads_more = λ c r. reads_own c ∙ or_left (any_touch (reads covers) (held_of x.held t) c) (any_touch (reads covers) ts c) r;
          writes_more = λ c r. writes_own c ∙ or_left (any_touch (writes covers) (held_of x.held t) c) (any_touch (writes covers) ts c) r;
        }))
        | inr n ↦ held_same step touches (reads covers) (writes covers) (held_of x.held u) (held_of hs u) (sym (other u (eqb-false u t n)))
      ] in
      record {
        replays = k.replays;
        held = Held-change step touches (reads covers) (writes covers) (held_of x.held) (held_of hs) (committed_state step x) (open_entries x) (λ e i. more e.transaction) k.held;
        compatible = λ u v n c w. elim (true_or_false (u == t)) [
          | inl y ↦ (let q : u ≡ t = eqb-true u t y in
              let nv : v ≡ t → ⊥ = λ p. n (q ∙ sym p) in
              let w' : (any_touch (writes covers) (held_of x.held t) c || any_touch (writes covers) ts c) ≡ true = sym (writes_own c) ∙ (ap (λ (j : ℕ). any_touch (writes covers) (held_of hs j) c) (sym q) ∙ w) in
              ap (λ (ks : List (Touch Resource)). any_touch (reads covers) ks c) (other v nv) ∙ (elim (or_true (any_touch (writes covers) (held_of x.held t) c) (any_touch (writes covers) ts c) w') [
                | inl a ↦ k.compatible t v (λ p. nv (sym p)) c a
                | inr b ↦ (free v nv).1 c b
              ]))
          | inr nu ↦ (let u' : u ≡ t → ⊥ = eqb-false u t nu in
              let w' : any_touch (writes covers) (held_of x.held u) c ≡ true = ap (λ (ks : List (Touch Resource)). any_touch (writes covers) ks c) (sym (other u u')) ∙ w in
              elim (true_or_false (v == t)) [
                | inl y ↦ (let q : v ≡ t = eqb-true v t y in
                    ap (λ (j : ℕ). any_touch (reads covers) (held_of hs j) c) q ∙ (reads_own c ∙ or_false (any_touch (reads covers) (held_of x.held t) c) (any_touch (reads covers) ts c) (k.compatible u t u' c w') ((free u u').0 c w')))
                | inr nv ↦ ap (λ (ks : List (Touch Resource)). any_touch (reads covers) ks c) (other v (eqb-false v t nv)) ∙ k.compatible u v n c w'
              ])
        ];
        whole = k.whole;
        ordered = k.ordered;
        below = k.below;
        numbers = k.numbers;
        holders = λ u n. other u (λ q. not_both (is_live x.live t) there (ap (λ (v : ℕ). is_live x.live v) (sym q) ∙ n)) ∙ k.holders u n;
        rising = k.rising;
      }

  -- a live transaction that holds what an operation touches does it
  pub did_keeps : (x : State S Op Out Resource) (t : ℕ) (op : Op) → is_live x.live t ≡ true → IsHeldBy (reads covers) (writes covers) (touches (live_state step x) op) (held_of x.held t) → Kept x → Kept (did step x t op)
  did_keeps x t op there holds k =
      let small : t < x.next = k.numbers t there in
      let e : Entry Op Out = record { transaction = t; op = op; out = (step (live_state step x) op).0; time = x.clock } in
      let live : Entry Op Out → Bool = λ f. is_live x.live f.transaction in
      let base : S = committed_state step x in
      let opens : open_entries (did step x t op) ≡ open_entries x ++ e ∷ [] = filter_append live x.history (e ∷ []) ∙ ap (λ (es : List (Entry Op Out)). filter live x.history ++ es) (chosen (is_live x.live t) (e ∷ []) [] there) in
      let now : live_state step x ≡ run step base (open_entries x) = same_live x k in
      record {
        replays = k.replays;
        held = subst (λ (es : List (Entry Op Out)). Held step touches (reads covers) (writes covers) (held_of x.held) base es) (sym opens)
            (Held-join step touches (reads covers) (writes covers) (held_of x.held) base (open_entries x) (e ∷ []) k.held
            (subst (λ (s : S). ((step s op).0 ≡ (step (live_state step x) op).0) × IsHeldBy (reads covers) (writes covers) (touches s op) (held_of x.held t) × Unit {0}) now (refl, holds, tt)));
        compatible = k.compatible;
        whole = λ keep ends stays.
            (let before : run step x.first (filter keep x.history) ≡ run step base (filter keep (open_entries x)) = k.whole keep ends (λ f i n. stays f (among_front f x.history (e ∷ []) i) n) in
            let last : List (Entry Op Out) = filter keep (e ∷ []) in
            ap (λ (es : List (Entry Op Out)). run step x.first es) (filter_append keep x.history (e ∷ []))
            ∙ (run-append step x.first (filter keep x.history) last ∙ (ap (λ (s : S). run step s last) before
            ∙ (sym (run-append step base (filter keep (open_entries x)) last)
            ∙ ap (λ (es : List (Entry Op Out)). run step base es) (sym (filter_append keep (open_entries x) (e ∷ [])) ∙ ap (λ (es : List (Entry Op Out)). filter keep es) (sym opens))))));
        ordered = order_last x.next x.history e k.ordered k.below;
        below = below_last x.next (x.clock + 1) x.history e (below_more x.next x.clock x.next (x.clock + 1) x.history (omega arith) (omega arith) k.below) small (omega arith);
        numbers = k.numbers;
        holders = k.holders;
        rising = k.rising;
      }

  -- entries of live transactions are left out of the history, of each an end
  pub kept_keeps : (x : State S Op Out Resource) (keep : Entry Op Out → Bool) → LeavesOutEnds keep → KeepsEnded keep x.live x.history → Kept x → Kept (kept x keep)
  kept_keeps x keep ends stays k =
      let live : Entry Op Out → Bool = λ f. is_live x.live f.transaction in
      let base : S = committed_state step x in
      let opens : open_entries (kept x keep) ≡ filter keep (open_entries x) = filter_swap live keep x.history in
      record {
        replays = k.replays;
        held = subst (λ (es : List (Entry Op Out)). Held step touches (reads covers) (writes covers) (held_of x.held) base es) (sym opens)
            (leaving_out Value step cell touches (reads covers) (writes covers) law (held_of x.held) k.compatible keep base (open_entries x) (leaves_ends keep (open_entries x) ends (order_filter live x.history k.ordered)) k.held);
        compatible = k.compatible;
        whole = λ more more_ends more_stays.
            ap (λ (es : List (Entry Op Out)). run step x.first es) (filter_both more keep x.history)
            ∙ (k.whole (λ f. more f && keep f)
            (λ f g q l y. (let p = and_true (more g) (keep g) y in both_true (more f) (keep f) (more_ends f g q l p.0) (ends f g q l p.1)))
            (λ f i n. both_true (more f) (keep f) (more_stays f (in_filter keep f x.history i (stays f i n)) n) (stays f i n))
            ∙ ap (λ (es : List (Entry Op Out)). run step base es) (sym (filter_both more keep (open_entries x)) ∙ ap (λ (es : List (Entry Op Out)). filter more es) (sym opens)));
        ordered = order_filter keep x.history k.ordered;
        below = below_filter keep x.next x.clock x.history k.below;
        numbers = k.numbers;
        holders = k.holders;
        rising = k.rising;
      }

  compatible_without : (x : State S Op Out Resource) (t : ℕ) → Kept x → AreCompatible (reads covers) (writes covers) (held_of (released t x.held))
  compatible_without x t k u v n c w = elim (true_or_false (v == t)) [
    | inl y ↦ ap (λ (ks : List (Touch Resource)). any_touch (reads covers) ks c) (ap (λ (j : ℕ). held_of (released t x.held) j) (eqb-true v t y) ∙ held-released t x.held)
    | inr nv ↦ ap (λ (ks : List (Touch Resource)). any_touch (reads covers) ks c) (held-released_other t x.held v (eqb-false v t nv)) ∙ (elim (true_or_false (u == t)) [
      | inl y ↦ absurd (not_both false (sym (ap (λ (ks : List (Touch Resource)). any_touch (writes covers) ks c) (ap (λ (j : ℕ). held_of (released t x.held) j) (eqb-true u t y) ∙ held-released t x.held)) ∙ w) refl)
      | inr nu ↦ k.compatible u v n c (ap (λ (ks : List (Touch Resource)). any_touch (writes covers) ks c) (sym (held-released_other t x.held u (eqb-false u t nu))) ∙ w)
    ])
  ]

  holders_without : (x : State S Op Out Resource) (t : ℕ) → Kept x → (u : ℕ) → is_live (without t x.live) u ≡ false → held_of (released t x.held) u ≡ []
  holders_without x t k u n = elim (true_or_false (u == t)) [
    | inl y ↦ ap (λ (j : ℕ). held_of (released t x.held) j) (eqb-true u t y) ∙ held-released t x.held
    | inr nu ↦ held-released_other t x.held u (eqb-false u t nu) ∙ k.holders u (sym (and_all (is_live x.live u)) ∙ (ap (λ b. is_live x.live u && not b) (sym nu) ∙ (sym (live-without t x.live u) ∙ n)))
  ]

  -- a transaction of which no entry is left ends
  pub end_keeps : (x : State S Op Out Resource) (t : ℕ) → ((e : Entry Op Out) → Among e x.history → e.transaction ≡ t → ⊥) → Kept x → Kept (ended x t)
  end_keeps x t none k =
      let ls : List Live = without t x.live in
      let base : S = committed_state step x in
      let alive : (e : Entry Op Out) → Among e x.history → is_live ls e.transaction ≡ is_live x.live e.transaction = λ e i.
      live-without t x.live e.transaction ∙ (ap (λ b. is_live x.live e.transaction && not b) (ne_eqb e.transaction t (none e i)) ∙ and_all (is_live x.live e.transaction)) in
      let opens : open_entries (ended x t) ≡ open_entries x = filter_same (λ e. is_live ls e.transaction) (λ e. is_live x.live e.transaction) x.history alive in
      record {
        replays = k.replays;
        held = subst (λ (es : List (Entry Op Out)). Held step touches (reads covers) (writes covers) (held_of (released t x.held)) base es) (sym opens)
            (Held-change step touches (reads covers) (writes covers) (held_of x.held) (held_of (released t x.held)) base (open_entries x) (λ e i. held_same step touches (reads covers) (writes covers) (held_of x.held e.transaction) (held_of (released t x.held) e.transaction) (sym (held-released_other t x.held e.transaction (none e (among_filter (λ f. is_live x.live f.transaction) e x.history i).0)))) k.held);
        compatible = compatible_without x t k;
        whole = λ keep ends stays. k.whole keep ends (λ e i n. stays e i (alive e i ∙ n)) ∙ ap (λ (es : List (Entry Op Out)). run step base (filter keep es)) (sym opens);
        ordered = k.ordered;
        below = k.below;
        numbers = λ u y. k.numbers u (and_true (is_live x.live u) (not (u == t)) (sym (live-without t x.live u) ∙ y)).0;
        holders = holders_without x t k;
        rising = rising_filter (λ l. not (l.transaction == t)) x.live k.rising;
      }

  -- a live transaction commits
  pub commit_keeps : (x : State S Op Out Resource) (t : ℕ) → is_live x.live t ≡ true → Kept x → Kept (Runs.committed x t)
  commit_keeps x t there k =
      let ls : List Live = without t x.live in
      let base : S = committed_state step x in
      let opened : List (Entry Op Out) = open_entries x in
      let live : Entry Op Out → Bool = λ e. is_live x.live e.transaction in
      let own : List (Entry Op Out) = filter (is_own t) x.history in
      let own_opened : filter (is_own t) opened ≡ own = filter_both (is_own t) live x.history ∙ filter_same (λ e. is_own t e && live e) (is_own t) x.history (λ e i. same_bool (is_own t e && live e) (is_own t e) (λ h. (and_true (is_own t e) (live e) h).0) (λ h. both_true (is_own t e) (live e) h (ap (λ (u : ℕ). is_live x.live u) (eqb-true e.transaction t h) ∙ there))) in
      let base' : run step x.first (in_order (x.commits ++ own ∷ [])) ≡ run step base own = ap (λ (es : List (Entry Op Out)). run step x.first es) (in_order_last x.commits own) ∙ run-append step x.first (in_order x.commits) own in
      let opens : open_entries (Runs.committed x t) ≡ filter (λ e. not (is_own t e)) opened =
      filter_same (λ e. is_live ls e.transaction) (λ e. not (is_own t e) && live e) x.history (λ e i. live-without t x.live e.transaction ∙ and_swapped (live e) (not (is_own t e))) ∙ sym (filter_both (λ e. not (is_own t e)) live x.history) in
      let order : AreInOrder opened = order_filter live x.history k.ordered in
      let own_first : LeavesOutEnds (is_own t) = λ e f q l y. ap (λ (u : ℕ). u == t) q ∙ y in
      let mine : Held step touches (reads covers) (writes covers) (held_of x.held) base (filter (is_own t) opened) = leaving_out Value step cell touches (reads covers) (writes covers) law (held_of x.held) k.compatible (is_own t) base opened (leaves_ends (is_own t) opened own_first order) k.held in
      let rest : Held step touches (reads covers) (writes covers) (held_of x.held) (run step base (filter (is_own t) opened)) (filter (λ e. not (is_own t e)) opened) = left_out Value step cell touches (reads covers) (writes covers) law (held_of x.held) k.compatible (is_own t) base opened (leaves_ends (is_own t) opened own_first order) k.held in
      let rest' : Held step touches (reads covers) (writes covers) (held_of (released t x.held)) (run step base (filter (is_own t) opened)) (filter (λ e. not (is_own t e)) opened) =
      Held-change step touches (reads covers) (writes covers) (held_of x.held) (held_of (released t x.held)) (run step base (filter (is_own t) opened)) (filter (λ e. not (is_own t e)) opened) (λ e i. held_same step touches (reads covers) (writes covers) (held_of x.held e.transaction) (held_of (released t x.held) e.transaction) (sym (held-released_other t x.held e.transaction (λ q. not_both (is_own t e) (eq-eqb e.transaction t q) (not_true (is_own t e) (among_filter (λ f. not (is_own t f)) e opened i).1))))) rest in
      record {
        replays = subst (λ (es : List (Entry Op Out)). Replays step x.first es) (sym (in_order_last x.commits own))
            (Replays-join step x.first (in_order x.commits) own k.replays (subst (λ (es : List (Entry Op Out)). Replays step base es) own_opened (Replays_of_Held step touches (reads covers) (writes covers) (held_of x.held) base (filter (is_own t) opened) mine)));
        held = subst (λ (s : S). Held step touches (reads covers) (writes covers) (held_of (released t x.held)) s (open_entries (Runs.committed x t))) (ap (λ (es : List (Entry Op Out)). run step base es) own_opened ∙ sym base')
            (subst (λ (es : List (Entry Op Out)). Held step touches (reads covers) (writes covers) (held_of (released t x.held)) (run step base (filter (is_own t) opened)) es) (sym opens) rest');
        compatible = compatible_without x t k;
        whole = λ keep ends stays.
            (let stays' : KeepsEnded keep x.live x.history = λ e i n. stays e i (live-without t x.live e.transaction ∙ ap (λ b. b && not (is_own t e)) n) in
            let less : List (Entry Op Out) = filter keep opened in
            let less_held : Held step touches (reads covers) (writes covers) (held_of x.held) base less = leaving_out Value step cell touches (reads covers) (writes covers) law (held_of x.held) k.compatible keep base opened (leaves_ends keep opened ends order) k.held in
            let split : run step base less ≡ run step (run step base (filter (is_own t) less)) (filter (λ e. not (is_own t e)) less) = parted_run Value step cell touches (reads covers) (writes covers) law (held_of x.held) k.compatible (is_own t) base less (leaves_ends (is_own t) less own_first (order_filter keep opened order)) less_held in
            let own_less : filter (is_own t) less ≡ own =
            filter_both (is_own t) keep opened ∙ (filter_same (λ e. is_own t e && keep e) (is_own t) opened (λ e i. same_bool (is_own t e && keep e) (is_own t e) (λ h. (and_true (is_own t e) (keep e) h).0) (λ h. both_true (is_own t e) (keep e) h
            (stays e (among_filter live e x.history i).0 (live-without t x.live e.transaction ∙ (ap (λ b. is_live x.live e.transaction && not b) h ∙ and_none (is_live x.live e.transaction)))))) ∙ own_opened) in
            let rest_less : filter (λ e. not (is_own t e)) less ≡ filter keep (open_entries (Runs.committed x t)) = filter_swap (λ e. not (is_own t e)) keep opened ∙ ap (λ (es : List (Entry Op Out)). filter keep es) (sym opens) in
            k.whole keep ends stays' ∙ (split ∙ (ap (λ (es : List (Entry Op Out)). run step (run step base es) (filter (λ e. not (is_own t e)) less)) own_less
            ∙ (ap (λ (es : List (Entry Op Out)). run step (run step base own) es) rest_less ∙ ap (λ (s : S). run step s (filter keep (open_entries (Runs.committed x t)))) (sym base')))));
        ordered = k.ordered;
        below = k.below;
        numbers = λ u y. k.numbers u (and_true (is_live x.live u) (not (u == t)) (sym (live-without t x.live u) ∙ y)).0;
        holders = holders_without x t k;
        rising = rising_filter (λ l. not (l.transaction == t)) x.live k.rising;
      }

  -- a live transaction aborts
  pub abort_keeps : (x : State S Op Out Resource) (t : ℕ) → is_live x.live t ≡ true → Kept x → Kept (aborted x t)
  abort_keeps x t there k =
      let keep : Entry Op Out → Bool = λ e. not (is_own t e) in
      end_keeps (kept x keep) t (λ e i q. not_both (is_own t e) (eq-eqb e.transaction t q) (not_true (is_own t e) (among_filter keep e x.history i).1))
      (kept_keeps x keep (λ e f q l y. ap (λ (u : ℕ). not (u == t)) q ∙ y) (λ e i n. ap not (ne_eqb e.transaction t (λ q. not_both (is_live x.live t) there (ap (λ (u : ℕ). is_live x.live u) (sym q) ∙ n)))) k)

  -- a live transaction goes back
  pub back_keeps : (x : State S Op Out Resource) (t time : ℕ) → is_live x.live t ≡ true → Kept x → Kept (back x t time)
  back_keeps x t time there k =
      kept_keeps x (λ e. not (is_own t e && nat_le time e.time))
      (λ e f q l y. later (is_own t e) (nat_le time e.time) (λ a b. not_both (is_own t f && nat_le time f.time) (both_true (is_own t f) (nat_le time f.time) (ap (λ (u : ℕ). u == t) (sym q) ∙ a) (le-leb time f.time (let h : time ≤ e.time = leb-true time e.time b in omega arith))) (not_true (is_own t f && nat_le time f.time) y)))
      (λ e i n. ap (λ b. not (b && nat_le time e.time)) (ne_eqb e.transaction t (λ q. not_both (is_live x.live t) there (ap (λ (u : ℕ). is_live x.live u) (sym q) ∙ n)))) k
