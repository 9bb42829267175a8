-- The chain with one record more.
use Rattle.std.proofs.Common.{◌≡◌, ◌≢◌, ◌⊎◌, ℕ, ◌==◌, ◌<◌, ◌≤◌, List, [], ◌∷◌, Option, Some, IsSome, Bool, true, false, not, sym, ap, subst, ◌∙◌, refl, arith, inl, inr}
use Rattle.std.specs.Prelude.{◌&&◌, ◌||◌, if◌then◌else◌}
use Rattle.std.proofs.lemmas.Bool.{cases_Bool, cases_eq}
use Rattle.std.proofs.lemmas.Bool.Decides.{nat_tests}
use Rattle.sg_record.specs.Changes.{Change as Changing}
use Rattle.sg_recovery.specs.Laws.{Each}
use Rattle.sg_recovery.specs.Log.{Open, said, tally, is_in, open_of, open_up_to, open_not_of}
use Rattle.sg_recovery.specs.Log.Record.{Begin, Change, TopEnd, PhysComp, TopVoid, CompEnd, Save, Commit, End}
use Rattle.sg_recovery.specs.Ending.{newest, EndsWell, IsOver}
use Rattle.sg_recovery.specs.Chains.{txn_of, is_border, last_of, border_of, next_lsn, next_off, Formed, Follows, IsKnown}
use Rattle.sg_recovery.specs.Formed.{IsUnfinished, OneAction, IsBetween, IsLog}
use Rattle.sg_recovery.specs.TakeOff.{IsOwned, IsBefore, PrecedesSystem, GoesOnSystem, FollowsSystem}
use Rattle.sg_actions.specs.Acting.{IsChained}
use Rattle.sg_recovery.specs.Formed.{IsStraight}
use Rattle.sg_actions.specs.Rows.{last_in, placed, at_rest}
use Rattle.sg_actions.proofs.Flags.{some_of}
use Rattle.sg_actions.proofs.Placing.{placed_other, placed_own, placed_self, placed_apart}
use Rattle.sg_recovery.proofs.Chaining.{sound, live_below, clash}
use Rattle.sg_recovery.proofs.TakeOff.{all_own}
use Rattle.std.specs.Bool.{MatchBool}
use Rattle.sg_actions.specs.Steps.{Step, Steps, step_at, stepped, ended}
use Rattle.sg_actions.specs.TakingOff.{AreLinked, IsSystemAt, IsRunning, HasCommitted, AreRows}
use Rattle.sg_actions.specs.declared.rows.Actor.{Actor}
use Rattle.sg_actions.specs.declared.rows.Row.{Row}

same : (n : ℕ) → (n == n) ≡ true
same n = grind (arith, nat_tests)

apart : (n m : ℕ) → m ≢ n → (n == m) ≡ false
apart n m ne = grind (arith, nat_tests, ne)

-- the last record, and the last border, behind a step
pub last_here : (l : ℕ) (x : Step) (rs : Steps) → last_of (txn_of x) (stepped rs l x) ≡ l
last_here l x rs = ap (λ (b : Bool). if b then l else last_of (txn_of x) rs) (same (txn_of x))

pub last_there : (l : ℕ) (x : Step) (rs : Steps) (u : ℕ) → u ≢ txn_of x → last_of u (stepped rs l x) ≡ last_of u rs
last_there l x rs u ne = ap (λ (b : Bool). if b then l else last_of u rs) (apart (txn_of x) u ne)

pub border_here : (l : ℕ) (x : Step) (rs : Steps) → is_border x ≡ true → border_of (txn_of x) (stepped rs l x) ≡ l
border_here l x rs e = ap (λ (b : Bool). if b && is_border x then l else border_of (txn_of x) rs) (same (txn_of x)) ∙ ap (λ (b : Bool). if b then l else border_of (txn_of x) rs) e

pub border_stays : (l : ℕ) (x : Step) (rs : Steps) (u : ℕ) → is_border x ≡ false → border_of u (stepped rs l x) ≡ border_of u rs
border_stays l x rs u e = ap (λ (b : Bool). if b then l else border_of u rs) (and_false (txn_of x == u) (is_border x) e)
  where
    and_false : (a b : Bool) → b ≡ false → (a && b) ≡ false
    and_false true b e = e
    and_false false b e = refl

pub border_there : (l : ℕ) (x : Step) (rs : Steps) (u : ℕ) → u ≢ txn_of x → border_of u (stepped rs l x) ≡ border_of u rs
border_there l x rs u ne = ap (λ (b : Bool). if b && is_border x then l else border_of u rs) (apart (txn_of x) u ne)

newest_there : (l : ℕ) (x : Step) (rs : Steps) (u : ℕ) → u ≢ txn_of x → newest u (stepped rs l x) ≡ newest u rs
newest_there l x rs u ne = ap (λ (b : Bool). if b then Some x else newest u rs) (apart (txn_of x) u ne)

-- a transaction has committed, also behind a record of another
pub committed_there : (l : ℕ) (x : Step) (rs : Steps) (u last : ℕ) → u ≢ txn_of x → HasCommitted rs u last → HasCommitted (stepped rs l x) u last
committed_there l x rs u last ne h = record { last_is = h.last_is ∙ sym (last_there l x rs u ne); previous = h.previous; newest_is = newest_there l x rs u ne ∙ h.newest_is }

-- and behind its commit
pub committed_here : (l previous t : ℕ) (rs : Steps) → HasCommitted (stepped rs l (Commit t previous)) t l
committed_here l previous t rs = record {
  last_is = sym (last_here l (Commit t previous) rs);
  previous = previous;
  newest_is = ap (λ (b : Bool). if b then Some (Commit t previous) else newest t rs) (same t);
}

-- who acts, with another last record
abbrev pub later : Actor → ℕ → Actor
later actor lsn = record { txn = actor.txn; last = lsn; before = actor.before }

-- the step that was appended, and those before it
pub step_here : (rs : Steps) (l : ℕ) (x : Step) → step_at (stepped rs l x) l ≡ Some x
step_here rs l x = ap (λ (b : Bool). if b then Some x else step_at rs l) (same l)

pub step_there : (rs : Steps) (l at : ℕ) (x : Step) → at < l → step_at (stepped rs l x) at ≡ step_at rs at
step_there rs l at x less = ap (λ (b : Bool). if b then Some x else step_at rs at) (let e : (l == at) ≡ false = grind (arith, nat_tests, less) in e)

pub linked_more : (rs : Steps) (l before : ℕ) (x : Step) (ds : List (Open Changing)) → next_lsn rs ≤ l → AreLinked rs before ds → AreLinked (stepped rs l x) before ds
linked_more rs l before x [] low h = tt
linked_more rs l before x (d ∷ ds) low h = (step_there rs l d.lsn x (omega (arith, h.2, low)) ∙ h.0, h.1, omega (arith, h.2, low), linked_more rs l before x ds low h.3)

-- the open changes are below what comes next
pub next_low : (rs : Steps) (before tail : ℕ) (ds : List (Open Changing)) → AreLinked rs before ds → next_lsn rs ≤ tail → before < tail → next_off before ds < tail
next_low rs before tail [] h low less = less
next_low rs before tail (d ∷ ds) h low less = omega (arith, h.2, low)

-- a transaction's last record is below what comes next
pub last_low : (rs : Steps) (u : ℕ) → Formed rs → last_of u rs < next_lsn rs
last_low [] u h = omega arith
last_low (r ∷ rs) u h = elim (cases_Bool (txn_of r.is == u)) [
  | inl e ↦ let i : last_of u (r ∷ rs) ≡ r.lsn = ap (λ (b : Bool). if b then r.lsn else last_of u rs) e in omega (arith, i)
  | inr e ↦ let i : last_of u (r ∷ rs) ≡ last_of u rs = ap (λ (b : Bool). if b then r.lsn else last_of u rs) e in let rest = last_low rs u h.2 in omega (arith, i, rest, h.0)
]

none_linked : (rs : Steps) (before : ℕ) (ds : List (Open Changing)) → ds ≡ [] → AreLinked rs before ds
none_linked rs before ds e = subst (λ (xs : List (Open Changing)). AreLinked rs before xs) (sym e) tt

pub one_most : (rs : Steps) → 1 ≤ next_lsn rs
one_most [] = omega arith
one_most (r ∷ rs) = omega arith

-- what goes on is below the tail
pub lives_low : (rs : Steps) (tail : ℕ) → Formed rs → next_lsn rs ≤ tail → (u : ℕ) → is_in u (tally rs).live ≡ true → u < tail
lives_low rs tail formed below u live = let less : u < next_lsn rs = live_below (next_lsn rs) u (tally rs).live (sound rs formed).lives live in omega (arith, less, below)

or_right : (a b : Bool) → a ≡ false → (a || b) ≡ b
or_right true b e = absurd (cc)
or_right false b e = refl

pub no_zero : (rs : Steps) (u : ℕ) → is_in 0 (tally rs).live ≡ false → is_in u (tally rs).live ≡ true → u ≢ 0
no_zero rs u none live e = absurd (let f : false ≡ true = sym none ∙ (ap (λ (k : ℕ). is_in k (tally rs).live) (sym e) ∙ live) in cc)

pub own_gone : {C : Type 0} (t : ℕ) (ds : List (Open C)) → Each (λ d. d.transaction ≡ t) ds → open_not_of t ds ≡ []
own_gone t [] h = refl
own_gone t (d ∷ ds) h = ap (λ (b : Bool). if not b then d ∷ open_not_of t ds else open_not_of t ds) (let e : (d.transaction == t) ≡ true = grind (arith, nat_tests, h.0) in e) ∙ own_gone t ds h.1

-- WHO ACTS

-- no other has an action without an end
pub one_action : (rs : Steps) (actor : Actor) → ((u : ℕ) → u ≢ actor.txn.0 → last_of u rs ≡ border_of u rs) → (actor.txn.0 ≢ 0 → is_in actor.txn.0 (tally rs).live ≡ true) → OneAction rs
one_action rs actor alone acting = record {
  one = λ t u f g. is t f ∙ sym (is u g);
  whose = λ t f. elim (cases_eq t 0) as (λ _. (t ≡ 0) ⊎ (is_in t (tally rs).live ≡ true)) [
    | inl z ↦ inl z
    | inr ne ↦ inr (subst (λ (k : ℕ). is_in k (tally rs).live ≡ true) (sym (is t f)) (acting (λ z. ne (is t f ∙ z))))
  ];
}
  where
    is : (t : ℕ) → IsUnfinished rs t → t ≡ actor.txn.0
    is t f = elim (cases_eq t actor.txn.0) as (λ _. t ≡ actor.txn.0) [
      | inl e ↦ e
      | inr ne ↦ absurd (f (alone t ne))
    ]

-- a record more in a formed log
pub log_more : (base : ℕ) (rs : Steps) (l : ℕ) (x : Step) → IsLog base rs → base ≤ l → next_lsn rs ≤ l → IsOwned l x → (IsKnown (tally rs) x → Follows rs l x) → (txn_of x ≡ 0 → FollowsSystem base rs x) → IsBetween rs x → IsStraight rs x → EndsWell rs x → IsOver base rs x
    → OneAction (stepped rs l x) → IsLog base (stepped rs l x)
log_more base rs l x h low below owned follows system between straight ended over one = record {
  above = (low, h.above);
  owned = (owned, h.owned);
  chained = (below, follows, h.chained);
  system = (system, h.system);
  between = (between, h.between);
  straight = (straight, h.straight);
  ended = (ended, h.ended);
  over = (over, h.over);
  one_action = one;
}

-- a record of the system, or of a transaction that goes on, is behind no end
pub goes_over : (base : ℕ) (rs : Steps) (x : Step) → (txn_of x ≢ 0 → is_in (txn_of x) (tally rs).live ≡ true) → IsOver base rs x
goes_over base rs (Begin t p) acts = tt
goes_over base rs (Change t p c) acts = λ some gone. absurd (clash (is_in t (tally rs).live) gone (acts some))
goes_over base rs (TopEnd t p u n) acts = λ some gone. absurd (clash (is_in t (tally rs).live) gone (acts some))
goes_over base rs (PhysComp t p u c) acts = λ some gone. absurd (clash (is_in t (tally rs).live) gone (acts some))
goes_over base rs (TopVoid t p u) acts = λ some gone. absurd (clash (is_in t (tally rs).live) gone (acts some))
goes_over base rs (CompEnd t p u) acts = λ some gone. absurd (clash (is_in t (tally rs).live) gone (acts some))
goes_over base rs (Save t p m) acts = λ some gone. absurd (clash (is_in t (tally rs).live) gone (acts some))
goes_over base rs (Commit t p) acts = λ some gone. absurd (clash (is_in t (tally rs).live) gone (acts some))
goes_over base rs (End t p) acts = λ some gone. absurd (clash (is_in t (tally rs).live) gone (acts some))

pub own_low : {base : ℕ} {rs : Steps} {tail : ℕ} {actor : Actor} → IsRunning base rs tail actor → actor.txn.0 < tail
own_low {base} {rs} {tail} {actor} h = elim (cases_eq actor.txn.0 0) as (λ _. actor.txn.0 < tail) [
  | inl z ↦ let some = one_most rs in omega (arith, z, some, h.below)
  | inr ne ↦ lives_low rs tail h.log.chained h.below actor.txn.0 (h.acting ne)
]

-- the system's next record names its last one
precedes : {base : ℕ} {rs : Steps} {tail : ℕ} {actor : Actor} → IsRunning base rs tail actor → actor.txn.0 ≡ 0 → PrecedesSystem base rs actor.last
precedes {base} {rs} {tail} {actor} h z = by_first (last_of 0 rs == border_of 0 rs) (h.system_is z).1
  where
    by_zero : (b : Bool) → actor.last ≡ 0 → MatchBool b (IsBefore base actor.last) (actor.last ≡ 0)
    by_zero true e = inl e
    by_zero false e = e

    by_first : (b : Bool) → MatchBool b (actor.last ≡ 0) (actor.last ≡ last_of 0 rs) → MatchBool b (MatchBool (last_of 0 rs == 0) (IsBefore base actor.last) (actor.last ≡ 0)) (actor.last ≡ last_of 0 rs)
    by_first true e = by_zero (last_of 0 rs == 0) e
    by_first false e = e

-- a border is no later than the last record
pub border_le : (rs : Steps) (u : ℕ) → Formed rs → border_of u rs ≤ last_of u rs
border_le [] u f = omega arith
border_le (r ∷ rs) u f = by_own (border_le rs u f.2) (txn_of r.is == u) refl
  where
    by_border : (b : Bool) → (if b then r.lsn else border_of u rs) ≤ r.lsn
    by_border true = omega arith
    by_border false = let low = (sound rs f.2).borders u in omega (arith, low, f.0)

    by_own : border_of u rs ≤ last_of u rs → (b : Bool) → (txn_of r.is == u) ≡ b → border_of u (r ∷ rs) ≤ last_of u (r ∷ rs)
    by_own less true e =
        let last : last_of u (r ∷ rs) ≡ r.lsn = ap (λ (b : Bool). if b then r.lsn else last_of u rs) e in
        let border : border_of u (r ∷ rs) ≡ (if is_border r.is then r.lsn else border_of u rs) = ap (λ (b : Bool). if b && is_border r.is then r.lsn else border_of u rs) e in
        let low = by_border (is_border r.is) in
        omega (arith, last, border, low)
    by_own less false e =
        let last : last_of u (r ∷ rs) ≡ last_of u rs = ap (λ (b : Bool). if b then r.lsn else last_of u rs) e in
        let border : border_of u (r ∷ rs) ≡ border_of u rs = ap (λ (b : Bool). if b && is_border r.is then r.lsn else border_of u rs) e in
        omega (arith, last, border, less)

-- the system's last record is its last open change, or ends an action
pub system_straight : {base : ℕ} {rs : Steps} {tail : ℕ} {actor : Actor} → IsRunning base rs tail actor → actor.last ≡ next_off actor.before (tally rs).opened → actor.txn.0 ≡ 0 → last_of 0 rs ≡ next_off (border_of 0 rs) (tally rs).opened
system_straight {base} {rs} {tail} {actor} h at z = by_list (tally rs).opened h.linked at (last_of 0 rs == border_of 0 rs) refl (h.system_is z).1
  where
    none : actor.before ≡ 0
    none = (h.system_is z).0

    low : border_of 0 rs ≤ last_of 0 rs
    low = border_le rs 0 h.log.chained

    by_list : (ds : List (Open Changing)) → AreLinked rs actor.before ds → actor.last ≡ next_off actor.before ds → (b : Bool) → (last_of 0 rs == border_of 0 rs) ≡ b → MatchBool b (actor.last ≡ 0) (actor.last ≡ last_of 0 rs) → last_of 0 rs ≡ next_off (border_of 0 rs) ds
    by_list [] linked is true e m = grind (arith, nat_tests, e)
    by_list [] linked is false e m = omega (arith, is, m, none, low)
    by_list (d ∷ ds) linked is true e m = absurd (omega (arith, is, m, linked.1))
    by_list (d ∷ ds) linked is false e m = omega (arith, is, m)

-- a change of who acts goes straight on, and its action ends behind its last change
pub straight_on : {base : ℕ} {rs : Steps} {tail : ℕ} {actor : Actor} → IsRunning base rs tail actor → actor.last ≡ next_off actor.before (tally rs).opened → (actor.txn.0 ≡ 0) ⊎ (is_in actor.txn.0 (tally rs).live ≡ true)
    → last_of actor.txn.0 rs ≡ next_off (border_of actor.txn.0 rs) (open_of actor.txn.0 (tally rs).opened)
straight_on {base} {rs} {tail} {actor} h at (inr live) = sym (h.last_is live) ∙ (at ∙ (λ j. next_off (h.before_is live j) (sym (all_own actor.txn.0 (tally rs).opened h.owned) j)))
straight_on {base} {rs} {tail} {actor} h at (inl z) =
    (λ j. last_of (z j) rs) ∙ (system_straight h at z ∙ (λ j. next_off (border_of (sym z j) rs) (sym (all_own actor.txn.0 (tally rs).opened h.owned) j)))

-- the system's last record is in the midst of an action
amidst : (rs : Steps) (l last : ℕ) → last_of 0 rs ≡ l → border_of 0 rs < l → last ≡ l → MatchBool (last_of 0 rs == border_of 0 rs) (last ≡ 0) (last ≡ last_of 0 rs)
amidst rs l last is less e = subst (λ (b : Bool). MatchBool b (last ≡ 0) (last ≡ last_of 0 rs)) (sym apart') (e ∙ sym is)
  where
    apart' : (last_of 0 rs == border_of 0 rs) ≡ false
    apart' = apart (last_of 0 rs) (border_of 0 rs) (λ k. absurd (omega (arith, k, is, less)))

-- or at an action's end
at_end : (rs : Steps) → last_of 0 rs ≡ border_of 0 rs → IsSystemAt rs at_rest
at_end rs e = (refl, subst (λ (b : Bool). MatchBool b (at_rest.last ≡ 0) (at_rest.last ≡ last_of 0 rs)) (sym (let f : (last_of 0 rs == border_of 0 rs) ≡ true = grind (arith, nat_tests, e) in f)) refl)

-- A CHANGE of the open action
pub running_change : {base : ℕ} {rs : Steps} {tail next : ℕ} {actor : Actor} (c : Changing) → tail < next → actor.last ≡ next_off actor.before (tally rs).opened → IsRunning base rs tail actor
    → IsRunning base (stepped rs tail (Change actor.txn.0 actor.last c)) next (later actor tail)
running_change {base} {rs} {tail} {next} {actor} c less at h = record {
  log = log_more base rs tail x h.log h.based h.below (own_low h) h.last_is (λ z. precedes h z) tt (λ acts. straight_on h at acts) tt (goes_over base rs x h.acting) (one_action (stepped rs tail x) actor alone h.acting);
  based = omega (arith, h.based, less);
  below = omega (arith, less);
  system = h.system;
  owned = (refl, h.owned);
  last_is = λ live. sym (last_here tail x rs);
  before_is = λ live. h.before_is live ∙ sym (border_stays tail x rs actor.txn.0 refl);
  system_is = λ z. ((h.system_is z).0, amidst (stepped rs tail x) tail tail (subst (λ (k : ℕ). last_of k (stepped rs tail x) ≡ tail) z (last_here tail x rs)) (let same = border_stays tail x rs 0 refl in let low = (sound rs h.log.chained).borders 0 in omega (arith, same, low, h.below)) refl);
  acting = h.acting;
  alone = alone;
  linked = (
    step_here rs tail x ∙ ap (λ (n : ℕ). Some (Change actor.txn.0 n c)) at,
    next_low rs actor.before tail (tally rs).opened h.linked h.below h.before_low,
    omega arith,
    linked_more rs tail actor.before x (tally rs).opened h.below h.linked,
  );
  before_low = omega (arith, h.before_low, less);
}
  where
    x : Step
    x = Change actor.txn.0 actor.last c

    alone : (u : ℕ) → u ≢ actor.txn.0 → last_of u (stepped rs tail x) ≡ border_of u (stepped rs tail x)
    alone u ne = last_there tail x rs u ne ∙ (h.alone u ne ∙ sym (border_stays tail x rs u refl))

-- A RECORD THAT TAKES the last open change OFF
pub running_comp : {base : ℕ} {rs : Steps} {tail next : ℕ} {actor : Actor} (c : Changing) (d : Open Changing) (ds : List (Open Changing)) → tail < next → (tally rs).opened ≡ d ∷ ds
    → open_up_to actor.txn.0 (next_off actor.before ds) (tally rs).opened ≡ ds → IsRunning base rs tail actor → IsRunning base (stepped rs tail (PhysComp actor.txn.0 actor.last (next_off actor.before ds) c)) next (later actor tail)
running_comp {base} {rs} {tail} {next} {actor} c d ds less is leaves h = record {
  log = log_more base rs tail x h.log h.based h.below (own_low h) (λ known. (h.last_is known, (d, ds, mine, ap (λ (n : ℕ). next_off n ds) (h.before_is known)))) (λ z. (precedes h z, goes z)) tt tt
      tt (goes_over base rs x h.acting) (one_action (stepped rs tail x) actor alone h.acting);
  based = omega (arith, h.based, less);
  below = omega (arith, less);
  system = h.system;
  owned = subst (λ (es : List (Open Changing)). Each (λ e. e.transaction ≡ actor.txn.0) es) (sym leaves) owned.1;
  last_is = λ live. sym (last_here tail x rs);
  before_is = λ live. h.before_is live ∙ sym (border_stays tail x rs actor.txn.0 refl);
  system_is = λ z. ((h.system_is z).0, amidst (stepped rs tail x) tail tail (subst (λ (k : ℕ). last_of k (stepped rs tail x) ≡ tail) z (last_here tail x rs)) (let same = border_stays tail x rs 0 refl in let low = (sound rs h.log.chained).borders 0 in omega (arith, same, low, h.below)) refl);
  acting = h.acting;
  alone = alone;
  linked = subst (λ (es : List (Open Changing)). AreLinked (stepped rs tail x) actor.before es) (sym leaves) (linked_more rs tail actor.before x ds h.below linked.3);
  before_low = omega (arith, h.before_low, less);
}
  where
    x : Step
    x = PhysComp actor.txn.0 actor.last (next_off actor.before ds) c

    owned : Each (λ e. e.transaction ≡ actor.txn.0) (d ∷ ds)
    owned = subst (λ (es : List (Open Changing)). Each (λ e. e.transaction ≡ actor.txn.0) es) is h.owned

    linked : AreLinked rs actor.before (d ∷ ds)
    linked = subst (λ (es : List (Open Changing)). AreLinked rs actor.before es) is h.linked

    mine : open_of actor.txn.0 (tally rs).opened ≡ d ∷ ds
    mine = all_own actor.txn.0 (tally rs).opened h.owned ∙ is

    alone : (u : ℕ) → u ≢ actor.txn.0 → last_of u (stepped rs tail x) ≡ border_of u (stepped rs tail x)
    alone u ne = last_there tail x rs u ne ∙ (h.alone u ne ∙ sym (border_stays tail x rs u refl))

    by_zero : (b : Bool) (n : ℕ) → n ≡ 0 → MatchBool b (IsBefore base n) (n ≡ 0)
    by_zero true n e = inl e
    by_zero false n e = e

    by_rest : (es : List (Open Changing)) → actor.before ≡ 0 → GoesOnSystem base (border_of 0 rs) (d ∷ es) (next_off actor.before es)
    by_rest [] e = by_zero (border_of 0 rs == 0) actor.before e
    by_rest (f ∷ es) e = refl

    goes : actor.txn.0 ≡ 0 → GoesOnSystem base (border_of 0 rs) (open_of 0 (tally rs).opened) (next_off actor.before ds)
    goes z = subst (λ (es : List (Open Changing)). GoesOnSystem base (border_of 0 rs) es (next_off actor.before ds)) (sym (subst (λ (k : ℕ). open_of k (tally rs).opened ≡ d ∷ ds) z mine)) (by_rest ds (h.system_is z).0)

-- each has its last action ended, behind a step that ends one of who acts
all_ended : (rs : Steps) (l : ℕ) (x : Step) (t : ℕ) → txn_of x ≡ t → is_border x ≡ true → ((u : ℕ) → u ≢ t → last_of u rs ≡ border_of u rs) → (u : ℕ) → last_of u (stepped rs l x) ≡ border_of u (stepped rs l x)
all_ended rs l x t of ends alone u = elim (cases_eq u (txn_of x)) as (λ _. last_of u (stepped rs l x) ≡ border_of u (stepped rs l x)) [
  | inl e ↦ subst (λ (k : ℕ). last_of k (stepped rs l x) ≡ border_of k (stepped rs l x)) (sym e) (last_here l x rs ∙ sym (border_here l x rs ends))
  | inr ne ↦ last_there l x rs u ne ∙ (alone u (λ e. ne (e ∙ sym of)) ∙ sym (border_there l x rs u ne))
]

-- THE END OF AN ACTION, of a transaction or of the system
pub running_end : {base : ℕ} {rs : Steps} {tail next : ℕ} {actor : Actor} (x : Step) → txn_of x ≡ actor.txn.0 → is_border x ≡ true → tail < next → (said tail x (tally rs)).live ≡ (tally rs).live → (said tail x (tally rs)).opened ≡ []
    → IsOwned tail x → (IsKnown (tally rs) x → Follows rs tail x) → (actor.txn.0 ≡ 0 → FollowsSystem base rs x) → IsBetween rs x → IsStraight rs x → EndsWell rs x → IsRunning base rs tail actor → IsRunning base (stepped rs tail x) next at_rest
running_end {base} {rs} {tail} {next} {actor} x of ends less lives none owned follows system between straight well h = record {
  log = log_more base rs tail x h.log h.based h.below owned follows (λ z. system (sym of ∙ z)) between straight well (goes_over base rs x acts) (one_action (stepped rs tail x) at_rest (λ u ne. ended_all u) (λ ne. absurd (ne refl)));
  based = omega (arith, h.based, less);
  below = omega (arith, less);
  system = off;
  owned = subst (λ (ds : List (Open Changing)). Each (λ d. d.transaction ≡ 0) ds) (sym none) tt;
  last_is = λ live. absurd (clash (is_in 0 (said tail x (tally rs)).live) off live);
  before_is = λ live. absurd (clash (is_in 0 (said tail x (tally rs)).live) off live);
  system_is = λ z. at_end (stepped rs tail x) (ended_all 0);
  acting = λ ne. absurd (ne refl);
  alone = λ u ne. ended_all u;
  linked = none_linked (stepped rs tail x) 0 (said tail x (tally rs)).opened none;
  before_low = omega (arith, less);
}
  where
    ended_all : (u : ℕ) → last_of u (stepped rs tail x) ≡ border_of u (stepped rs tail x)
    ended_all = all_ended rs tail x actor.txn.0 of ends h.alone

    off : is_in 0 (said tail x (tally rs)).live ≡ false
    off = ap (is_in 0) lives ∙ h.system

    acts : txn_of x ≢ 0 → is_in (txn_of x) (tally rs).live ≡ true
    acts some = subst (λ (u : ℕ). is_in u (tally rs).live ≡ true) (sym of) (h.acting (λ z. some (of ∙ z)))

pub none_open : {base : ℕ} {rs : Steps} {tail : ℕ} {actor : Actor} → IsRunning base rs tail actor → open_not_of actor.txn.0 (tally rs).opened ≡ []
none_open {base} {rs} {tail} {actor} h = own_gone actor.txn.0 (tally rs).opened h.owned

pub running_top : {base : ℕ} {rs : Steps} {tail next : ℕ} {actor : Actor} (note : List ℕ) → tail < next → actor.last ≡ next_off actor.before (tally rs).opened → IsRunning base rs tail actor
    → IsRunning base (stepped rs tail (TopEnd actor.txn.0 actor.last actor.before note)) next at_rest
running_top {base} {rs} {tail} {next} {actor} note less at h =
    running_end (TopEnd actor.txn.0 actor.last actor.before note) refl refl less refl (none_open h) (own_low h) (λ known. (h.last_is known, h.before_is known)) (λ z. (precedes h z, (h.system_is z).0)) tt tt (λ acts. straight_on h at acts) h

pub running_void : {base : ℕ} {rs : Steps} {tail next : ℕ} {actor : Actor} → tail < next → (tally rs).opened ≡ [] → IsRunning base rs tail actor → IsRunning base (stepped rs tail (TopVoid actor.txn.0 actor.last actor.before)) next at_rest
running_void {base} {rs} {tail} {next} {actor} less none h =
    let mine = all_own actor.txn.0 (tally rs).opened h.owned ∙ none in
    running_end (TopVoid actor.txn.0 actor.last actor.before) refl refl less refl (none_open h) (own_low h) (λ known. (h.last_is known, mine, h.before_is known))
    (λ z. (precedes h z, subst (λ (k : ℕ). open_of k (tally rs).opened ≡ []) z mine, (h.system_is z).0)) tt tt tt h

-- A BEGIN, while the system acts and no action is open
pub running_begin : {base : ℕ} {rs : Steps} {tail next : ℕ} {actor : Actor} → tail < next → actor.txn.0 ≡ 0 → IsRunning base rs tail actor → IsRunning base (stepped rs tail (Begin tail 0)) next actor
running_begin {base} {rs} {tail} {next} {actor} less rest h = record {
  log = log_more base rs tail x h.log h.based h.below refl (λ known. (refl, refl)) (λ z. absurd (omega (arith, z, positive))) tt tt tt tt (one_action (stepped rs tail x) actor alone (λ ne. absurd (ne rest)));
  based = omega (arith, h.based, less);
  below = omega (arith, less);
  system = system;
  owned = h.owned;
  last_is = λ live. absurd (clash (is_in actor.txn.0 (tail ∷ (tally rs).live)) off live);
  before_is = λ live. absurd (clash (is_in actor.txn.0 (tail ∷ (tally rs).live)) off live);
  system_is = λ z. ((h.system_is z).0, subst (λ (n : ℕ). MatchBool (n == border_of 0 (stepped rs tail x)) (actor.last ≡ 0) (actor.last ≡ n)) (sym (last_there tail x rs 0 apart_0)) (subst (λ (m : ℕ). MatchBool (last_of 0 rs == m) (actor.last ≡ 0) (actor.last ≡ last_of 0 rs)) (sym (border_there tail x rs 0 apart_0)) (h.system_is z).1));
  acting = λ ne. absurd (ne rest);
  alone = alone;
  linked = linked_more rs tail actor.before x (tally rs).opened h.below h.linked;
  before_low = omega (arith, h.before_low, less);
}
  where
    x : Step
    x = Begin tail 0

    positive : 1 ≤ tail
    positive = let some = one_most rs in omega (arith, some, h.below)

    apart_0 : 0 ≢ tail
    apart_0 e = absurd (omega (arith, e, positive))

    system : is_in 0 (tail ∷ (tally rs).live) ≡ false
    system = or_right (tail == 0) (is_in 0 (tally rs).live) (let e : (tail == 0) ≡ false = grind (arith, nat_tests, positive) in e) ∙ h.system

    off : is_in actor.txn.0 (tail ∷ (tally rs).live) ≡ false
    off = ap (λ (k : ℕ). is_in k (tail ∷ (tally rs).live)) rest ∙ system

    alone : (u : ℕ) → u ≢ actor.txn.0 → last_of u (stepped rs tail x) ≡ border_of u (stepped rs tail x)
    alone u ne = elim (cases_eq u tail) as (λ _. last_of u (stepped rs tail x) ≡ border_of u (stepped rs tail x)) [
      | inl e ↦ subst (λ (k : ℕ). last_of k (stepped rs tail x) ≡ border_of k (stepped rs tail x)) (sym e) (last_here tail x rs ∙ sym (border_here tail x rs refl))
      | inr d ↦ last_there tail x rs u d ∙ (h.alone u ne ∙ sym (border_there tail x rs u d))
    ]

-- A TRANSACTION that goes on ACTS, where the system acted and no action is open
pub running_act : {base : ℕ} {rs : Steps} {tail : ℕ} {actor : Actor} (new : Actor) → actor.txn.0 ≡ 0 → (tally rs).opened ≡ [] → actor.last ≡ next_off actor.before (tally rs).opened → is_in new.txn.0 (tally rs).live ≡ true
    → new.last ≡ last_of new.txn.0 rs → new.before ≡ new.last → IsRunning base rs tail actor → IsRunning base rs tail new
running_act {base} {rs} {tail} {actor} new rest none at live last both h = record {
  log = h.log;
  based = h.based;
  below = h.below;
  system = h.system;
  owned = subst (λ (xs : List (Open Changing)). Each (λ d. d.transaction ≡ new.txn.0) xs) (sym none) tt;
  last_is = λ z. last;
  before_is = λ z. both ∙ (last ∙ h.alone new.txn.0 (λ e. nonzero (e ∙ rest)));
  system_is = λ z. absurd (nonzero z);
  acting = λ z. live;
  alone = λ u ne. elim (cases_eq u 0) as (λ _. last_of u rs ≡ border_of u rs) [
    | inl e ↦ subst (λ (k : ℕ). last_of k rs ≡ border_of k rs) (sym e) (system_straight h at rest ∙ ap (next_off (border_of 0 rs)) none)
    | inr d ↦ h.alone u (λ e. d (e ∙ rest))
  ];
  linked = none_linked rs new.before (tally rs).opened none;
  before_low = let l = last_low rs new.txn.0 h.log.chained in omega (arith, l, both, last, h.below);
}
  where
    nonzero : new.txn.0 ≢ 0
    nonzero = no_zero rs new.txn.0 h.system live

pub running_later : {base : ℕ} {rs : Steps} {tail next : ℕ} {actor : Actor} → tail ≤ next → IsRunning base rs tail actor → IsRunning base rs next actor
running_later {base} {rs} {tail} {next} {actor} le h = record {
  log = h.log;
  based = omega (arith, h.based, le);
  below = omega (arith, h.below, le);
  system = h.system;
  owned = h.owned;
  last_is = h.last_is;
  before_is = h.before_is;
  system_is = h.system_is;
  acting = h.acting;
  alone = h.alone;
  linked = h.linked;
  before_low = omega (arith, h.before_low, le);
}

-- THE ROWS

-- behind a step of who acts that ends no action
pub rows_step : {rs : Steps} {tail next : ℕ} {rows : List Row} {actor : Actor} (x : Step) → txn_of x ≡ actor.txn.0 → (said tail x (tally rs)).live ≡ (tally rs).live → tail < next → AreRows rs tail rows actor → AreRows (stepped rs tail x) next rows (later actor tail)
rows_step {rs} {tail} {next} {rows} {actor} x of lives less h = record {
  own = h.own;
  low = λ u far. h.low u (omega (arith, far, less));
  others = λ u ne live. h.others u ne (sym (ap (is_in u) lives) ∙ live) ∙ ap Some (sym (last_there tail x rs u (λ e. ne (e ∙ of))));
  apart = h.apart;
  past = λ u last some ne there gone. committed_there tail x rs u last (λ e. ne (e ∙ of)) (h.past u last some ne there (sym (ap (is_in u) lives) ∙ gone));
}

pub rows_begin : {rs : Steps} {tail next : ℕ} {rows : List Row} {actor : Actor} (row : Row) (last : ℕ) → 1 ≤ tail → tail < next → actor.txn.0 ≡ 0 → is_in 0 (tally rs).live ≡ false → last_in rows 0 ≡ Some last → row.txn.0 ≡ tail → row.last ≡ tail
    → AreRows rs tail rows actor → AreRows (stepped rs tail (Begin tail 0)) next (placed rows 0 row) actor
rows_begin {rs} {tail} {next} {rows} {actor} row last positive less rest system vacant is_row is_last h = record {
  own = λ ne. absurd (ne rest);
  low = λ u far. placed_other rows 0 u row (λ e. absurd (omega (arith, e, far, less))) (λ e. absurd (omega (arith, e, far, less, is_row))) ∙ h.low u (omega (arith, far, less));
  others = λ u ne live. elim (cases_eq u tail) as (λ _. last_in (placed rows 0 row) u ≡ Some (last_of u (stepped rs tail x))) [
    | inl e ↦ subst (λ (k : ℕ). last_in (placed rows 0 row) k ≡ Some (last_of k (stepped rs tail x))) (sym e)
        (placed_own rows 0 tail last row vacant is_row (λ z. absurd (omega (arith, z, positive))) (h.low tail (omega arith)) ∙ (ap Some is_last ∙ ap Some (sym (last_here tail x rs))))
    | inr d ↦
        let was : is_in u (tally rs).live ≡ true = sym (or_right (tail == u) (is_in u (tally rs).live) (apart tail u d)) ∙ live in
        placed_other rows 0 u row (no_zero rs u system was) (λ e. d (sym e ∙ is_row)) ∙ (h.others u ne was ∙ ap Some (sym (last_there tail x rs u d)))
  ];
  apart = placed_apart rows 0 row h.apart (λ some ne. h.low row.txn.0 (omega (arith, is_row)));
  past = λ u last' some ne there gone. elim (cases_eq u tail) as (λ _. HasCommitted (stepped rs tail x) u last') [
    | inl e ↦ absurd (clash (is_in u (tail ∷ (tally rs).live)) gone (ap (λ (b : Bool). b || is_in u (tally rs).live) (let f : (tail == u) ≡ true = grind (arith, nat_tests, e) in f)))
    | inr d ↦
        let was : is_in u (tally rs).live ≡ false = sym (or_right (tail == u) (is_in u (tally rs).live) (apart tail u d)) ∙ gone in
        committed_there tail x rs u last' d (h.past u last' some ne (sym (placed_other rows 0 u row some (λ e. d (sym e ∙ is_row))) ∙ there) was)
  ];
}
  where
    x : Step
    x = Begin tail 0

pub rows_act : {rs : Steps} {tail : ℕ} {rows : List Row} {actor : Actor} (new : Actor) → actor.txn.0 ≡ 0 → is_in 0 (tally rs).live ≡ false → last_in rows new.txn.0 ≡ Some new.last → AreRows rs tail rows actor → AreRows rs tail rows new
rows_act {rs} {tail} {rows} {actor} new rest system row h = record {
  own = λ z. subst (λ (p : Option ℕ). IsSome p) (sym row) refl;
  low = h.low;
  others = λ u ne z. h.others u (λ e. no_zero rs u system z (e ∙ rest)) z;
  apart = h.apart;
  past = λ u last some ne there gone. h.past u last some (λ e. some (e ∙ rest)) there gone;
}

-- behind one that ends an action of a transaction
pub rows_top : {rs : Steps} {tail next : ℕ} {rows : List Row} {actor : Actor} (x : Step) (row : Row) → txn_of x ≡ actor.txn.0 → (said tail x (tally rs)).live ≡ (tally rs).live → tail < next → actor.txn.0 < tail → actor.txn.0 ≢ 0
    → is_in actor.txn.0 (tally rs).live ≡ true → row.txn.0 ≡ actor.txn.0 → row.last ≡ tail → AreRows rs tail rows actor → AreRows (stepped rs tail x) next (placed rows actor.txn.0 row) at_rest
rows_top {rs} {tail} {next} {rows} {actor} x row of lives less before acts on is_row is_last h =
    let there = some_of (last_in rows actor.txn.0) (h.own acts) in
    record {
      own = λ ne. absurd (ne refl);
      low = λ u far. placed_other rows actor.txn.0 u row (λ e. absurd (omega (arith, e, far, less, before))) (λ e. absurd (omega (arith, e, far, less, before, is_row))) ∙ h.low u (omega (arith, far, less));
      others = λ u ne live. elim (cases_eq u actor.txn.0) as (λ _. last_in (placed rows actor.txn.0 row) u ≡ Some (last_of u (stepped rs tail x))) [
        | inl e ↦ subst (λ (k : ℕ). last_in (placed rows actor.txn.0 row) k ≡ Some (last_of k (stepped rs tail x))) (sym e)
            (placed_self rows actor.txn.0 there.0 row there.1 is_row ∙ (ap Some is_last ∙ ap Some (sym (subst (λ (k : ℕ). last_of k (stepped rs tail x) ≡ tail) of (last_here tail x rs)))))
        | inr d ↦ placed_other rows actor.txn.0 u row d (λ e. d (sym e ∙ is_row)) ∙ (h.others u d (sym (ap (is_in u) lives) ∙ live) ∙ ap Some (sym (last_there tail x rs u (λ e. d (e ∙ of)))))
      ];
      apart = placed_apart rows actor.txn.0 row h.apart (λ some ne. absurd (ne is_row));
      past = λ u last some ne there gone. let was : is_in u (tally rs).live ≡ false = sym (ap (is_in u) lives) ∙ gone in elim (cases_eq u actor.txn.0) as (λ _. HasCommitted (stepped rs tail x) u last) [
        | inl e ↦ absurd (clash (is_in u (tally rs).live) was (subst (λ (k : ℕ). is_in k (tally rs).live ≡ true) (sym e) on))
        | inr d ↦ committed_there tail x rs u last (λ e. d (e ∙ of)) (h.past u last some d (sym (placed_other rows actor.txn.0 u row d (λ e. d (sym e ∙ is_row))) ∙ there) was)
      ];
    }

-- and of the system
pub rows_top_system : {rs : Steps} {tail next : ℕ} {rows : List Row} {actor : Actor} (x : Step) → txn_of x ≡ actor.txn.0 → (said tail x (tally rs)).live ≡ (tally rs).live → tail < next → actor.txn.0 ≡ 0
    → AreRows rs tail rows actor → AreRows (stepped rs tail x) next rows at_rest
rows_top_system {rs} {tail} {next} {rows} {actor} x of lives less acts h = record {
  own = λ ne. absurd (ne refl);
  low = λ u far. h.low u (omega (arith, far, less));
  others = λ u ne live. let d : u ≢ actor.txn.0 = λ e. ne (e ∙ acts) in h.others u d (sym (ap (is_in u) lives) ∙ live) ∙ ap Some (sym (last_there tail x rs u (λ e. d (e ∙ of))));
  apart = h.apart;
  past = λ u last some ne there gone. let d : u ≢ actor.txn.0 = λ e. ne (e ∙ acts) in committed_there tail x rs u last (λ e. d (e ∙ of)) (h.past u last some d there (sym (ap (is_in u) lives) ∙ gone));
}

pub rows_later : {rs : Steps} {tail next : ℕ} {rows : List Row} {actor : Actor} → tail ≤ next → AreRows rs tail rows actor → AreRows rs next rows actor
rows_later {rs} {tail} {next} {rows} {actor} le h = record { own = h.own; low = λ u far. h.low u (omega (arith, far, le)); others = h.others; apart = h.apart; past = h.past }

-- THE CHAIN

pub chain_change : (base : ℕ) (rs : Steps) (tail next : ℕ) (rows : List Row) (actor : Actor) (c : Changing) → tail < next → IsChained base rs tail rows actor → IsChained base (stepped rs tail (Change actor.txn.0 actor.last c)) next rows (later actor tail)
chain_change base rs tail next rows actor c less h = record {
  running = running_change c less h.at h.running;
  rows_are = rows_step (Change actor.txn.0 actor.last c) refl refl less h.rows_are;
  closed = h.closed;
  at = refl;
}

pub chain_begin : (base : ℕ) (rs : Steps) (tail next : ℕ) (rows : List Row) (actor : Actor) (row : Row) (last : ℕ) → tail < next → ended rs ≡ rs → actor.txn.0 ≡ 0 → last_in rows 0 ≡ Some last → row.txn.0 ≡ tail → row.last ≡ tail
    → IsChained base rs tail rows actor → IsChained base (stepped rs tail (Begin tail 0)) next (placed rows 0 row) actor
chain_begin base rs tail next rows actor row last less idle rest vacant is_row is_last h = record {
  running = running_begin less rest h.running;
  rows_are = rows_begin row last (let some = one_most rs in omega (arith, some, h.running.below)) less rest h.running.system vacant is_row is_last h.rows_are;
  closed = none;
  at = h.at;
}
  where
    none : (tally rs).opened ≡ []
    none = sym (ap (λ (xs : Steps). (tally xs).opened) idle) ∙ h.closed

pub chain_act : (base : ℕ) (rs : Steps) (tail : ℕ) (rows : List Row) (actor new : Actor) → ended rs ≡ rs → actor.txn.0 ≡ 0 → is_in new.txn.0 (tally rs).live ≡ true → last_in rows new.txn.0 ≡ Some new.last → new.before ≡ new.last
    → IsChained base rs tail rows actor → IsChained base rs tail rows new
chain_act base rs tail rows actor new idle rest live row both h =
    let nonzero : new.txn.0 ≢ 0 = no_zero rs new.txn.0 h.running.system live in
    let last : new.last ≡ last_of new.txn.0 rs = same_some new.last (last_of new.txn.0 rs) (sym row ∙ h.rows_are.others new.txn.0 (λ e. nonzero (e ∙ rest)) live) in
    record {
      running = running_act new rest none h.at live last both h.running;
      rows_are = rows_act new rest h.running.system row h.rows_are;
      closed = h.closed;
      at = sym both ∙ sym (ap (next_off new.before) none);
    }
  where
    same_some : (a b : ℕ) → Some a ≡ Some b → a ≡ b
    same_some a b e = cc

    none : (tally rs).opened ≡ []
    none = sym (ap (λ (xs : Steps). (tally xs).opened) idle) ∙ h.closed

pub chain_top : (base : ℕ) (rs : Steps) (tail next : ℕ) (rows : List Row) (actor : Actor) (row : Row) (note : List ℕ) → tail < next → actor.txn.0 ≢ 0 → row.txn.0 ≡ actor.txn.0 → row.last ≡ tail
    → IsChained base rs tail rows actor → IsChained base (stepped rs tail (TopEnd actor.txn.0 actor.last actor.before note)) next (placed rows actor.txn.0 row) at_rest
chain_top base rs tail next rows actor row note less acts is_row is_last h = record {
  running = running_top note less h.at h.running;
  rows_are = rows_top (TopEnd actor.txn.0 actor.last actor.before note) row refl refl less (own_low h.running) acts (h.running.acting acts) is_row is_last h.rows_are;
  closed = none_open h.running;
  at = sym (ap (next_off 0) (none_open h.running));
}

pub chain_top_system : (base : ℕ) (rs : Steps) (tail next : ℕ) (rows : List Row) (actor : Actor) (note : List ℕ) → tail < next → actor.txn.0 ≡ 0
    → IsChained base rs tail rows actor → IsChained base (stepped rs tail (TopEnd actor.txn.0 actor.last actor.before note)) next rows at_rest
chain_top_system base rs tail next rows actor note less acts h = record {
  running = running_top note less h.at h.running;
  rows_are = rows_top_system (TopEnd actor.txn.0 actor.last actor.before note) refl refl less acts h.rows_are;
  closed = none_open h.running;
  at = sym (ap (next_off 0) (none_open h.running));
}

-- THE CHAIN at a later tail
pub chain_later : {base : ℕ} {rs : Steps} {tail next : ℕ} {rows : List Row} {actor : Actor} → IsChained base rs tail rows actor → tail ≤ next → IsChained base rs next rows actor
chain_later {base} {rs} {tail} {next} {rows} {actor} h le = record { running = running_later le h.running; rows_are = rows_later le h.rows_are; closed = h.closed; at = h.at }
