-- In a log each of whose records may stand, each one follows those before it as in a formed log.
use Rattle.std.proofs.Common.{◌≡◌, inl, inr, ℕ, ◌<◌, ◌≤◌, ◌==◌, ◌||◌, ◌&&◌, nat_lt, arith, Bool, true, false, cond, not, Option, Some, None, List, [], ◌∷◌, map, refl, sym, ap, ◌∙◌, subst}
use Rattle.std.specs.Bool.{MatchBool}
use Rattle.std.specs.Option.{is_none}
use Rattle.sg_record.specs.Changes.{Change as Changing}
use Rattle.sg_recovery.specs.Log.{Open, Top, said, tally, is_in, open_of, notes_of}
use Rattle.sg_recovery.specs.Log.Record.{Begin, Change, TopEnd, PhysComp, TopVoid, CompEnd, Save, Commit, End}
use Rattle.sg_recovery.specs.Chains.{txn_of, previous_of, last_of, border_of, next_lsn, next_off, Follows, IsKnown, Formed}
use Rattle.sg_recovery.specs.TakeOff.{IsOwned, AreOwned, IsBefore, PrecedesSystem, GoesOnSystem, FollowsSystem, FormedSystem}
use Rattle.sg_recovery.specs.Formed.{IsBetween, AreBetween}
use Rattle.sg_recovery.proofs.Basic.{and_left, and_right, or_cases, lt_is, number_is}
use Rattle.sg_recovery.proofs.Chaining.{clash}
use Rattle.sg_recovery.proofs.Showing.{without_in}
use Rattle.sg_record.specs.Records.{Record}
use Rattle.sg_log.specs.Frames.{numbered_in}
use Rattle.sg_analysis.specs.Sights.{Step, Steps, steps_of}
use Rattle.sg_analysis.specs.Firsts.{first, second}
use Rattle.sg_analysis.specs.Returns.{opens, border_if, is_before, next_is, systems_next_is, takes_next, takes_all, undoes_newest, goes_back}
use Rattle.sg_analysis.specs.Standing.{is_taken_off, is_systems, precedes_system, goes_on, may_step, all_stand, AreInOrder}
use Rattle.sg_analysis.proofs.GoingOn.{IsOn, may_step-on}
use Rattle.sg_analysis.proofs.Rising.{AreStepped, stepped, plausible, above_in}
use Rattle.sg_analysis.proofs.Straight.{on, by_system, by_own, all_straight, all_end_well, all_over}

next_some : (rs : Steps) → 0 < next_lsn rs
next_some [] = omega arith
next_some (r ∷ rs) = omega arith

-- a number is none, or before the log
before_means : (base p : ℕ) → (p == 0 || nat_lt p base) ≡ true → IsBefore base p
before_means base p h = or_cases (p == 0) (nat_lt p base) (IsBefore base p) h (λ e. inl (number_is p 0 e)) (λ e. inr (lt_is p base e))

-- the system never begins
lives_some : (rs : Steps) (t : ℕ) → Formed rs → is_in t (tally rs).live ≡ true → 0 < t
lives_some [] t f live = absurd (cc)
lives_some (r ∷ rs) t f live = by_kind r.is f.1 live (lives_some rs t f.2)
  where
    by_kind : (x : Step) → (IsKnown (tally rs) x → Follows rs r.lsn x) → is_in t (said r.lsn x (tally rs)).live ≡ true → (is_in t (tally rs).live ≡ true → 0 < t) → 0 < t
    by_kind (Begin u p) h l more = or_cases (u == t) (is_in t (tally rs).live) (0 < t) l (λ e. high (number_is u t e) (h tt).0 f.0 (next_some rs)) more
      where
        high : u ≡ t → u ≡ r.lsn → next_lsn rs ≤ r.lsn → 0 < next_lsn rs → 0 < t
        high a b c d = omega (arith, a, b, c, d)
    by_kind (Change u p c) h l more = more l
    by_kind (TopEnd u p w n) h l more = more l
    by_kind (PhysComp u p w c) h l more = more l
    by_kind (TopVoid u p w) h l more = more l
    by_kind (CompEnd u p w) h l more = more l
    by_kind (Save u p m) h l more = more l
    by_kind (Commit u p) h l more = more (without_in u t (tally rs).live l)
    by_kind (End u p) h l more = more (without_in u t (tally rs).live l)

-- what a record that may stand tells of where undoing goes on
back : (base : ℕ) (rs : Steps) (l : ℕ) (x : Step) → IsOn x → may_step base rs l x ≡ true → goes_back base rs x ≡ true
back base rs l x is may = and_right (goes_on base rs x) (goes_back base rs x) (and_right (nat_lt (txn_of x) l) (goes_on base rs x && goes_back base rs x) (sym (may_step-on base rs l x is) ∙ may))

pub back_of : (base : ℕ) (rs : Steps) (l : ℕ) (x : Step) → may_step base rs l x ≡ true → goes_back base rs x ≡ true
back_of base rs l (Begin t p) may = refl
back_of base rs l (Change t p c) may = refl
back_of base rs l (TopEnd t p u n) may = refl
back_of base rs l (PhysComp t p u c) may = back base rs l (PhysComp t p u c) tt may
back_of base rs l (TopVoid t p u) may = back base rs l (TopVoid t p u) tt may
back_of base rs l (CompEnd t p u) may = back base rs l (CompEnd t p u) tt may
back_of base rs l (Save t p m) may = back base rs l (Save t p m) tt may
back_of base rs l (Commit t p) may = back base rs l (Commit t p) tt may
back_of base rs l (End t p) may = back base rs l (End t p) tt may

-- a transaction that goes on is not the system
some : (rs : Steps) (t : ℕ) → Formed rs → is_in t (tally rs).live ≡ true → t ≡ 0 → ⊥
some rs t f live zero = absurd (omega (arith, lives_some rs t f live, zero))

-- the last of some open changes is taken off, and undoing goes on as it has to
next_means : (border u : ℕ) (ds : List (Open Changing)) → next_is border (first (map (λ d. d.lsn) ds)) (second (map (λ d. d.lsn) ds)) u ≡ true
    → (d : Open Changing) × (es : List (Open Changing)) × (ds ≡ d ∷ es) × (u ≡ next_off border es)
next_means border u [] h = absurd (cc)
next_means border u (d ∷ []) h = (d, [], refl, number_is u border h)
next_means border u (d ∷ e ∷ es) h = (d, e ∷ es, refl, number_is u e.lsn h)

own_next : (base border u : ℕ) (system live : Bool) (newest second : Option ℕ) → system ≡ false → live ≡ true → takes_next base system (cond (system || live) (Some border) None) newest second u ≡ true → next_is border newest second u ≡ true
own_next base border u true live newest second s l h = absurd (cc)
own_next base border u false true newest second s l h = h
own_next base border u false false newest second s l h = absurd (cc)

-- none is open
none_of : (ds : List (Open Changing)) → is_none (first (map (λ d. d.lsn) ds)) ≡ true → ds ≡ []
none_of [] h = refl
none_of (d ∷ ds) h = absurd (cc)

all_none : (acts : Bool) (border : ℕ) (ds : List (Open Changing)) → acts ≡ true → takes_all (cond acts (Some border) None) (first (map (λ d. d.lsn) ds)) ≡ true → ds ≡ []
all_none true border ds e h = none_of ds h
all_none false border ds e h = absurd (cc)

acts_live : (rs : Steps) (t : ℕ) → is_in t (tally rs).live ≡ true → (t == 0 || is_in t (tally rs).live) ≡ true
acts_live rs t live = by_test (t == 0) (is_in t (tally rs).live) live
  where
    by_test : (a b : Bool) → b ≡ true → (a || b) ≡ true
    by_test true b e = refl
    by_test false b e = e

-- the newest note is undone
newest_means : (acts : Bool) (border u : ℕ) (ns : List (Top Changing (List ℕ))) → acts ≡ true → undoes_newest (cond acts (Some border) None) (first (map (λ n. n.undo_next) ns)) u ≡ true
    → (n : Top Changing (List ℕ)) × (ms : List (Top Changing (List ℕ))) × (ns ≡ n ∷ ms) × (u ≡ n.undo_next)
newest_means true border u [] e h = absurd (cc)
newest_means true border u (n ∷ ms) e h = (n, ms, refl, number_is u n.undo_next h)
newest_means false border u ns e h = absurd (cc)

differs_zero : (t : ℕ) → (t ≡ 0 → ⊥) → (t == 0) ≡ false
differs_zero t ne = by_test (t == 0) refl
  where
    by_test : (b : Bool) → (t == 0) ≡ b → b ≡ false
    by_test true e = absurd (ne (number_is t 0 e))
    by_test false e = refl

pub follows : (base : ℕ) (rs : Steps) (l : ℕ) (x : Step) → Formed rs → may_step base rs l x ≡ true → IsKnown (tally rs) x → Follows rs l x
follows base rs l (Begin t p) f may live = (number_is t l (and_left (t == l) (p == 0) may), number_is p 0 (and_right (t == l) (p == 0) may))
follows base rs l (Change t p c) f may live = (by_own base rs (Change t p c) (some rs t f live) live (on base rs l (Change t p c) tt may)).0
follows base rs l (TopEnd t p u n) f may live =
    let h = by_own base rs (TopEnd t p u n) (some rs t f live) live (on base rs l (TopEnd t p u n) tt may) in
    (h.0, number_is u (border_of t rs) (and_right (not (is_taken_off t rs)) (u == border_of t rs) h.1))
follows base rs l (PhysComp t p u c) f may live =
    let x : Step = PhysComp t p u c in
    let ne = some rs t f live in (
      (by_own base rs x ne live (on base rs l x tt may)).0,
      next_means (border_of t rs) u (open_of t (tally rs).opened) (own_next base (border_of t rs) u (t == 0) (is_in t (tally rs).live) (first (opens rs t)) (second (opens rs t)) (differs_zero t ne) live (back_of base rs l x may)),
    )
follows base rs l (TopVoid t p u) f may live =
    let x : Step = TopVoid t p u in
    let h = by_own base rs x (some rs t f live) live (on base rs l x tt may) in
    (h.0, all_none (t == 0 || is_in t (tally rs).live) (border_of t rs) (open_of t (tally rs).opened) (acts_live rs t live) (back_of base rs l x may), number_is u (border_of t rs) h.1)
follows base rs l (CompEnd t p u) f may live =
    let x : Step = CompEnd t p u in (
      (by_own base rs x (some rs t f live) live (on base rs l x tt may)).0,
      newest_means (t == 0 || is_in t (tally rs).live) (border_of t rs) u (notes_of t (tally rs).notes) (acts_live rs t live) (back_of base rs l x may),
    )
follows base rs l (Save t p m) f may live =
    let x : Step = Save t p m in
    let h = by_own base rs x (some rs t f live) live (on base rs l x tt may) in
    (h.0, none_of (open_of t (tally rs).opened) (back_of base rs l x may), number_is p (border_of t rs) h.1)
follows base rs l (Commit t p) f may live =
    let x : Step = Commit t p in
    ((by_own base rs x (some rs t f live) live (on base rs l x tt may)).0, none_of (open_of t (tally rs).opened) (back_of base rs l x may))
follows base rs l (End t p) f may live =
    let x : Step = End t p in
    ((by_own base rs x (some rs t f live) live (on base rs l x tt may)).0, none_of (open_of t (tally rs).opened) (back_of base rs l x may))

pub formed_more : (base : ℕ) (rs : Steps) (l : ℕ) (x : Step) → Formed rs → next_lsn rs ≤ l → may_step base rs l x ≡ true → Formed (record { lsn = l; is = x } ∷ rs)
formed_more base rs l x f le may = (le, follows base rs l x f may, f)

pub all_formed : (base : ℕ) (rs : Steps) → AreStepped base rs → Formed rs
all_formed base [] h = tt
all_formed base (r ∷ rs) h = formed_more base rs r.lsn r.is (all_formed base rs h.2) h.0 h.1

-- what the system's record names
precedes_last : (base : ℕ) (rs : Steps) (x : Step) → txn_of x ≡ 0 → goes_on base rs x ≡ true → PrecedesSystem base rs (previous_of x)
precedes_last base rs x zero goes = by_test (last_of 0 rs == border_of 0 rs) (last_of 0 rs == 0) (and_left (precedes_system base (last_of 0 rs) (border_of 0 rs) (previous_of x)) (is_systems (is_taken_off 0 rs) x) (by_zero _ (txn_of x == 0) (ap (λ n. n == 0) zero) goes))
  where
    p : ℕ
    p = previous_of x

    by_zero : (other b : Bool) → b ≡ true → cond b (precedes_system base (last_of 0 rs) (border_of 0 rs) p && is_systems (is_taken_off 0 rs) x) other ≡ true → (precedes_system base (last_of 0 rs) (border_of 0 rs) p && is_systems (is_taken_off 0 rs) x) ≡ true
    by_zero other true e h = h
    by_zero other false e h = absurd (cc)

    by_test : (a b : Bool) → cond a (cond b (p == 0 || nat_lt p base) (p == 0)) (p == last_of 0 rs) ≡ true → MatchBool a (MatchBool b (IsBefore base p) (p ≡ 0)) (p ≡ last_of 0 rs)
    by_test true true h = before_means base p h
    by_test true false h = number_is p 0 h
    by_test false b h = number_is p (last_of 0 rs) h

-- where the system's undoing goes on
systems_means : (base border u : ℕ) (ds : List (Open Changing)) → systems_next_is base border (first (map (λ d. d.lsn) ds)) (second (map (λ d. d.lsn) ds)) u ≡ true → GoesOnSystem base border ds u
systems_means base border u [] h = (number_is border 0 (and_left (border == 0) (is_before base u) h), before_means base u (and_right (border == 0) (is_before base u) h))
systems_means base border u (d ∷ []) h = by_test (border == 0) h
  where
    by_test : (b : Bool) → cond b (is_before base u) (u == 0) ≡ true → MatchBool b (IsBefore base u) (u ≡ 0)
    by_test true e = before_means base u e
    by_test false e = number_is u 0 e
systems_means base border u (d ∷ e ∷ ds) h = number_is u e.lsn h

system_next : (base u : ℕ) (rs : Steps) (t : ℕ) → t ≡ 0 → takes_next base (t == 0) (border_if rs t) (first (opens rs t)) (second (opens rs t)) u ≡ true → systems_next_is base (border_of 0 rs) (first (opens rs 0)) (second (opens rs 0)) u ≡ true
system_next base u rs t zero h = subst (λ a. takes_next base (a == 0) (border_if rs a) (first (opens rs a)) (second (opens rs a)) u ≡ true) zero h

follows_system : (base : ℕ) (rs : Steps) (l : ℕ) (x : Step) → next_lsn rs ≤ l → may_step base rs l x ≡ true → txn_of x ≡ 0 → FollowsSystem base rs x
follows_system base rs l (Begin t p) le may zero = absurd (omega (arith, number_is t l (and_left (t == l) (p == 0) may), zero, le, next_some rs))
follows_system base rs l (Change t p c) le may zero = precedes_last base rs (Change t p c) zero (on base rs l (Change t p c) tt may)
follows_system base rs l (TopEnd t p u n) le may zero =
    let x : Step = TopEnd t p u n in
    let goes = on base rs l x tt may in
    (precedes_last base rs x zero goes, number_is u 0 (and_right (not (is_taken_off 0 rs)) (u == 0) (by_system base rs x zero goes)))
follows_system base rs l (PhysComp t p u c) le may zero =
    let x : Step = PhysComp t p u c in
    (precedes_last base rs x zero (on base rs l x tt may), systems_means base (border_of 0 rs) u (open_of 0 (tally rs).opened) (system_next base u rs t zero (back_of base rs l x may)))
follows_system base rs l (TopVoid t p u) le may zero =
    let x : Step = TopVoid t p u in
    let goes = on base rs l x tt may in
    (precedes_last base rs x zero goes, all_none true (border_of 0 rs) (open_of 0 (tally rs).opened) refl (subst (λ a. takes_all (border_if rs a) (first (opens rs a)) ≡ true) zero (back_of base rs l x may)), number_is u 0 (by_system base rs x zero goes))
follows_system base rs l (CompEnd t p u) le may zero = absurd (clash false refl (by_system base rs (CompEnd t p u) zero (on base rs l (CompEnd t p u) tt may)))
follows_system base rs l (Save t p m) le may zero = absurd (clash false refl (by_system base rs (Save t p m) zero (on base rs l (Save t p m) tt may)))
follows_system base rs l (Commit t p) le may zero = absurd (clash false refl (by_system base rs (Commit t p) zero (on base rs l (Commit t p) tt may)))
follows_system base rs l (End t p) le may zero = absurd (clash false refl (by_system base rs (End t p) zero (on base rs l (End t p) tt may)))

pub all_system : (base : ℕ) (rs : Steps) → AreStepped base rs → FormedSystem base rs
all_system base [] h = tt
all_system base (r ∷ rs) h = (follows_system base rs r.lsn r.is h.0 h.1, all_system base rs h.2)

-- no transaction has a mark, commits or ends within an action
between : (base : ℕ) (rs : Steps) (l : ℕ) (x : Step) → may_step base rs l x ≡ true → IsBetween rs x
between base rs l (Begin t p) may = tt
between base rs l (Change t p c) may = tt
between base rs l (TopEnd t p u n) may = tt
between base rs l (PhysComp t p u c) may = tt
between base rs l (TopVoid t p u) may = tt
between base rs l (CompEnd t p u) may = tt
between base rs l (Save t p m) may = none_of (open_of t (tally rs).opened) (back_of base rs l (Save t p m) may)
between base rs l (Commit t p) may = none_of (open_of t (tally rs).opened) (back_of base rs l (Commit t p) may)
between base rs l (End t p) may = none_of (open_of t (tally rs).opened) (back_of base rs l (End t p) may)

pub all_between : (base : ℕ) (rs : Steps) → AreStepped base rs → AreBetween rs
all_between base [] h = tt
all_between base (r ∷ rs) h = (between base rs r.lsn r.is h.1, all_between base rs h.2)

-- each record is of its transaction
owned : (base : ℕ) (rs : Steps) (l : ℕ) (x : Step) → may_step base rs l x ≡ true → IsOwned l x
owned base rs l (Begin t p) may = number_is t l (and_left (t == l) (p == 0) may)
owned base rs l (Change t p c) may = lt_is t l (and_left (nat_lt t l) _ may)
owned base rs l (TopEnd t p u n) may = lt_is t l (and_left (nat_lt t l) _ may)
owned base rs l (PhysComp t p u c) may = lt_is t l (and_left (nat_lt t l) _ may)
owned base rs l (TopVoid t p u) may = lt_is t l (and_left (nat_lt t l) _ may)
owned base rs l (CompEnd t p u) may = lt_is t l (and_left (nat_lt t l) _ may)
owned base rs l (Save t p m) may = lt_is t l (and_left (nat_lt t l) _ may)
owned base rs l (Commit t p) may = lt_is t l (and_left (nat_lt t l) _ may)
owned base rs l (End t p) may = lt_is t l (and_left (nat_lt t l) _ may)

pub all_owned : (base : ℕ) (rs : Steps) → AreStepped base rs → AreOwned rs
all_owned base [] h = tt
all_owned base (r ∷ rs) h = (owned base rs r.lsn r.is h.1, all_owned base rs h.2)

-- so the records of frames that may stand are in order
pub in_order : (base : ℕ) (frames : List (List Record)) → all_stand base (numbered_in base frames) ≡ true → AreInOrder base (numbered_in base frames)
in_order base frames stand =
    let records = numbered_in base frames in
    let rs : Steps = steps_of records in
    let steps : AreStepped base rs = stepped base frames stand in
    record {
      above = above_in base frames;
      owned = all_owned base rs steps;
      chained = all_formed base rs steps;
      system = all_system base rs steps;
      between = all_between base rs steps;
      straight = all_straight base rs steps;
      ended = all_end_well base rs steps;
      over = all_over base rs steps;
      plausible = plausible base records [] stand;
    }
