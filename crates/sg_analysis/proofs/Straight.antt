-- In a log each of whose records may stand, actions and transactions go on and end as they have to.
use Rattle.std.proofs.Common.{◌≡◌, ◌⊎◌, inl, inr, ℕ, ◌+◌, ◌<◌, ◌≤◌, ◌==◌, ◌&&◌, nat_lt, arith, Bool, true, false, cond, not, List, [], ◌∷◌, Option, Some, None, refl, sym, ap, ◌∙◌, subst, lt_of_lt_of_le}
use Rattle.sg_record.specs.Changes.{Change as Changing}
use Rattle.sg_recovery.specs.Log.{Open, said, tally, is_in, without, open_of, open_up_to}
use Rattle.sg_recovery.specs.Log.Record.{Begin, Change, TopEnd, PhysComp, TopVoid, CompEnd, Save, Commit, End}
use Rattle.sg_recovery.specs.Laws.{Each}
use Rattle.sg_recovery.specs.Chains.{txn_of, previous_of, last_of, border_of, is_border, next_lsn, next_off}
use Rattle.sg_recovery.specs.Formed.{IsStraight, AreStraight}
use Rattle.sg_recovery.proofs.Basic.{and_left, and_right, each_more, each_filter, filter_none, lt_is, not_true, number_is, other_number, same_number}
use Rattle.sg_recovery.proofs.Chaining.{clash, border_here, border_stays, border_other}
use Rattle.sg_recovery.proofs.Showing.{without_not}
use Rattle.sg_recovery.proofs.TakeOff.{own_none, other_open, of_up_to, last_here, last_other}
use Rattle.sg_analysis.specs.Sights.{Step, Steps}
use Rattle.sg_recovery.specs.Ending.{is_end, newest, EndsWell, AllEndWell, MayBeBehind, OverBy, IsOver, AllOver}
use Rattle.sg_analysis.specs.Standing.{takes_off, is_taken_off, goes_right, is_systems, precedes_system, may_be_behind, goes_on, may_step}
use Rattle.sg_analysis.specs.Returns.{goes_back}
use Rattle.sg_analysis.proofs.GoingOn.{IsOn, may_step-on}
use Rattle.sg_analysis.proofs.Kept.{live_other}
use Rattle.sg_analysis.proofs.Rising.{AreStepped}

-- the system, or a transaction that goes on
abbrev Acts : Steps → ℕ → Type 0
Acts rs t = (t ≡ 0) ⊎ (is_in t (tally rs).live ≡ true)

-- a record that may stand goes on,
pub on : (base : ℕ) (rs : Steps) (l : ℕ) (x : Step) → IsOn x → may_step base rs l x ≡ true → goes_on base rs x ≡ true
on base rs l x is may = and_left (goes_on base rs x) (goes_back base rs x) (and_right (nat_lt (txn_of x) l) (goes_on base rs x && goes_back base rs x) (sym (may_step-on base rs l x is) ∙ may))

-- of the system,
pub by_system : (base : ℕ) (rs : Steps) (x : Step) → txn_of x ≡ 0 → goes_on base rs x ≡ true → is_systems (is_taken_off 0 rs) x ≡ true
by_system base rs x zero goes = and_right (precedes_system base (last_of 0 rs) (border_of 0 rs) (previous_of x)) (is_systems (is_taken_off 0 rs) x) (by_test (txn_of x == 0) (ap (λ n. n == 0) zero) goes)
  where
    by_test : (b : Bool) → b ≡ true → cond b (precedes_system base (last_of 0 rs) (border_of 0 rs) (previous_of x) && is_systems (is_taken_off 0 rs) x)
        (cond (is_in (txn_of x) (tally rs).live) (previous_of x == last_of (txn_of x) rs && goes_right (border_of (txn_of x) rs) (is_taken_off (txn_of x) rs) x) (may_be_behind base (last_of (txn_of x) rs) x (newest (txn_of x) rs))) ≡ true
        → (precedes_system base (last_of 0 rs) (border_of 0 rs) (previous_of x) && is_systems (is_taken_off 0 rs) x) ≡ true
    by_test true e h = h
    by_test false e h = absurd (cc)

-- of a transaction that goes on,
pub by_own : (base : ℕ) (rs : Steps) (x : Step) → (txn_of x ≡ 0 → ⊥) → is_in (txn_of x) (tally rs).live ≡ true → goes_on base rs x ≡ true → (previous_of x ≡ last_of (txn_of x) rs) × (goes_right (border_of (txn_of x) rs) (is_taken_off (txn_of x) rs) x ≡ true)
by_own base rs x some live goes =
    let h = by_test (txn_of x == 0) (is_in (txn_of x) (tally rs).live) (other_number (txn_of x) 0 some) live goes in
    (number_is (previous_of x) (last_of (txn_of x) rs) (and_left (previous_of x == last_of (txn_of x) rs) (goes_right (border_of (txn_of x) rs) (is_taken_off (txn_of x) rs) x) h), and_right (previous_of x == last_of (txn_of x) rs) (goes_right (border_of (txn_of x) rs) (is_taken_off (txn_of x) rs) x) h)
  where
    by_test : (b c : Bool) → b ≡ false → c ≡ true → cond b (precedes_system base (last_of 0 rs) (border_of 0 rs) (previous_of x) && is_systems (is_taken_off 0 rs) x)
        (cond c (previous_of x == last_of (txn_of x) rs && goes_right (border_of (txn_of x) rs) (is_taken_off (txn_of x) rs) x) (may_be_behind base (last_of (txn_of x) rs) x (newest (txn_of x) rs))) ≡ true
        → (previous_of x == last_of (txn_of x) rs && goes_right (border_of (txn_of x) rs) (is_taken_off (txn_of x) rs) x) ≡ true
    by_test true c e f h = absurd (cc)
    by_test false true e f h = h
    by_test false false e f h = absurd (cc)

-- and of one that doesn't
by_past : (base : ℕ) (rs : Steps) (x : Step) → (txn_of x ≡ 0 → ⊥) → is_in (txn_of x) (tally rs).live ≡ false → goes_on base rs x ≡ true → may_be_behind base (last_of (txn_of x) rs) x (newest (txn_of x) rs) ≡ true
by_past base rs x some gone goes = by_test (txn_of x == 0) (is_in (txn_of x) (tally rs).live) (other_number (txn_of x) 0 some) gone goes
  where
    by_test : (b c : Bool) → b ≡ false → c ≡ false → cond b (precedes_system base (last_of 0 rs) (border_of 0 rs) (previous_of x) && is_systems (is_taken_off 0 rs) x)
        (cond c (previous_of x == last_of (txn_of x) rs && goes_right (border_of (txn_of x) rs) (is_taken_off (txn_of x) rs) x) (may_be_behind base (last_of (txn_of x) rs) x (newest (txn_of x) rs))) ≡ true
        → may_be_behind base (last_of (txn_of x) rs) x (newest (txn_of x) rs) ≡ true
    by_test true c e f h = absurd (cc)
    by_test false true e f h = absurd (cc)
    by_test false false e f h = h

-- what may be behind a transaction's last record is
behind : (base last : ℕ) (x : Step) (before : Option Step) → may_be_behind base last x before ≡ true → MayBeBehind base last x before
behind base last x None h = (lt_is (txn_of x) base (and_left (nat_lt (txn_of x) base) (nat_lt (previous_of x) base) h), lt_is (previous_of x) base (and_right (nat_lt (txn_of x) base) (nat_lt (previous_of x) base) h))
behind base last x (Some before) h = by_kind before h
  where
    both : (b : Bool) → (previous_of x == last && b) ≡ true → (b ≡ true) × (previous_of x ≡ last)
    both b h = (and_right (previous_of x == last) b h, number_is (previous_of x) last (and_left (previous_of x == last) b h))

    older : (previous_of x == last && nat_lt (txn_of x) base) ≡ true → (txn_of x < base) × (previous_of x ≡ last)
    older h = let k = both (nat_lt (txn_of x) base) h in (lt_is (txn_of x) base k.0, k.1)

    by_kind : (before : Step) → may_be_behind base last x (Some before) ≡ true → MayBeBehind base last x (Some before)
    by_kind (Begin t p) h = older h
    by_kind (Change t p c) h = older h
    by_kind (TopEnd t p u n) h = older h
    by_kind (PhysComp t p u c) h = older h
    by_kind (TopVoid t p u) h = older h
    by_kind (CompEnd t p u) h = older h
    by_kind (Save t p m) h = older h
    by_kind (Commit t p) h = both (is_end x) h
    by_kind (End t p) h = clash false refl (and_right (previous_of x == last) false h)

over_by : (base : ℕ) (rs : Steps) (x : Step) → goes_on base rs x ≡ true → OverBy base rs x
over_by base rs x goes some gone = behind base (last_of (txn_of x) rs) x (newest (txn_of x) rs) (by_past base rs x some gone goes)

is_over : (base : ℕ) (rs : Steps) (l : ℕ) (x : Step) → may_step base rs l x ≡ true → IsOver base rs x
is_over base rs l (Begin t p) may = tt
is_over base rs l (Change t p c) may = over_by base rs (Change t p c) (on base rs l (Change t p c) tt may)
is_over base rs l (TopEnd t p u n) may = over_by base rs (TopEnd t p u n) (on base rs l (TopEnd t p u n) tt may)
is_over base rs l (PhysComp t p u c) may = over_by base rs (PhysComp t p u c) (on base rs l (PhysComp t p u c) tt may)
is_over base rs l (TopVoid t p u) may = over_by base rs (TopVoid t p u) (on base rs l (TopVoid t p u) tt may)
is_over base rs l (CompEnd t p u) may = over_by base rs (CompEnd t p u) (on base rs l (CompEnd t p u) tt may)
is_over base rs l (Save t p m) may = over_by base rs (Save t p m) (on base rs l (Save t p m) tt may)
is_over base rs l (Commit t p) may = over_by base rs (Commit t p) (on base rs l (Commit t p) tt may)
is_over base rs l (End t p) may = over_by base rs (End t p) (on base rs l (End t p) tt may)

-- of transactions that don't go on only those records are there that may be
pub all_over : (base : ℕ) (rs : Steps) → AreStepped base rs → AllOver base rs
all_over base [] h = tt
all_over base (r ∷ rs) h = (is_over base rs r.lsn r.is h.1, all_over base rs h.2)

-- the last record and the last border have numbers below the next
borders_low : (base : ℕ) (rs : Steps) → AreStepped base rs → (t : ℕ) → border_of t rs < next_lsn rs
borders_low base [] h t = omega arith
borders_low base (r ∷ rs) h t = by_test (txn_of r.is == t && is_border r.is) (borders_low base rs h.2 t)
  where
    by_test : (b : Bool) → border_of t rs < next_lsn rs → cond b r.lsn (border_of t rs) < r.lsn + 1
    by_test true lt = omega arith
    by_test false lt = omega (arith, lt, h.0)

-- an open change has a number above its transaction's, and below the next
abbrev IsOwn : ℕ → Open Changing → Type 0
IsOwn next d = (d.transaction < d.lsn) × (d.lsn < next)

opens_own : (base : ℕ) (rs : Steps) → AreStepped base rs → Each (IsOwn (next_lsn rs)) (tally rs).opened
opens_own base [] h = tt
opens_own base (r ∷ rs) h = by_kind r.is h.1 (each_more (IsOwn (next_lsn rs)) (IsOwn (r.lsn + 1)) (tally rs).opened (λ d z. further d z) (opens_own base rs h.2))
  where
    further : (d : Open Changing) → IsOwn (next_lsn rs) d → IsOwn (r.lsn + 1) d
    further d z = (z.0, omega (arith, z.1, h.0))

    by_kind : (x : Step) → may_step base rs r.lsn x ≡ true → Each (IsOwn (r.lsn + 1)) (tally rs).opened → Each (IsOwn (r.lsn + 1)) (said r.lsn x (tally rs)).opened
    by_kind (Begin t p) may k = k
    by_kind (Change t p c) may k = ((lt_is t r.lsn (and_left (nat_lt t r.lsn) (goes_on base rs (Change t p c) && goes_back base rs (Change t p c)) may), omega arith), k)
    by_kind (TopEnd t p u n) may k = each_filter (IsOwn (r.lsn + 1)) (λ d. not (d.transaction == t)) (tally rs).opened k
    by_kind (PhysComp t p u c) may k = each_filter (IsOwn (r.lsn + 1)) (λ d. not (d.transaction == t && nat_lt u d.lsn)) (tally rs).opened k
    by_kind (TopVoid t p u) may k = each_filter (IsOwn (r.lsn + 1)) (λ d. not (d.transaction == t)) (tally rs).opened k
    by_kind (CompEnd t p u) may k = each_filter (IsOwn (r.lsn + 1)) (λ d. not (d.transaction == t)) (tally rs).opened k
    by_kind (Save t p m) may k = k
    by_kind (Commit t p) may k = k
    by_kind (End t p) may k = k

-- a transaction's open changes are behind its last border, the last of them is its last record but where it is being taken off,
-- and it has none where no action is without an end
record IsInLine (rs : Steps) (t : ℕ) : Type 0 where
  pub above : Each (λ d. border_of t rs < d.lsn) (open_of t (tally rs).opened)
  pub line : is_taken_off t rs ≡ false → last_of t rs ≡ next_off (border_of t rs) (open_of t (tally rs).opened)
  pub off : is_taken_off t rs ≡ true → border_of t rs < last_of t rs

-- by the four things that it speaks of
in_line : (rs qs : Steps) (t : ℕ) → last_of t qs ≡ last_of t rs → border_of t qs ≡ border_of t rs → is_taken_off t qs ≡ is_taken_off t rs → open_of t (tally qs).opened ≡ open_of t (tally rs).opened → IsInLine rs t → IsInLine qs t
in_line rs qs t last border off opened_is h = record {
  above = subst (Each (λ d. border_of t qs < d.lsn)) (sym opened_is) (subst (λ b. Each (λ d. b < d.lsn) (open_of t (tally rs).opened)) (sym border) h.above);
  line = λ e. last ∙ (h.line (sym off ∙ e) ∙ (ap (λ b. next_off b (open_of t (tally rs).opened)) (sym border) ∙ ap (next_off (border_of t qs)) (sym opened_is)));
  off = λ e. subst (λ b. b < last_of t qs) (sym border) (subst (λ n. border_of t rs < n) (sym last) (h.off (sym off ∙ e)));
}

other_in_line : (l : ℕ) (x : Step) (rs : Steps) (t : ℕ) → (t ≡ txn_of x → ⊥) → IsInLine rs t → IsInLine (record { lsn = l; is = x } ∷ rs) t
other_in_line l x rs t ne h =
    let differs : (txn_of x == t) ≡ false = other_number (txn_of x) t (λ e. ne (sym e)) in
    in_line rs (record { lsn = l; is = x } ∷ rs) t (last_other l x rs t ne) (border_other l x rs t ne) (ap (λ b. cond b (takes_off x) (is_taken_off t rs)) differs) (other_open l x (tally rs) t ne) h

-- behind a border without open changes
ended_in_line : (rs : Steps) (t l : ℕ) → last_of t rs ≡ l → border_of t rs ≡ l → is_taken_off t rs ≡ false → open_of t (tally rs).opened ≡ [] → IsInLine rs t
ended_in_line rs t l last border off none = record {
  above = subst (Each (λ d. border_of t rs < d.lsn)) (sym none) tt;
  line = λ e. last ∙ (sym border ∙ ap (next_off (border_of t rs)) (sym none));
  off = λ e. absurd (clash (is_taken_off t rs) off e);
}

-- no change is open at a border
none_open : (rs : Steps) (t : ℕ) → IsInLine rs t → last_of t rs ≡ border_of t rs → open_of t (tally rs).opened ≡ []
none_open rs t h at = by_off (is_taken_off t rs) refl
  where
    by_list : (ds : List (Open Changing)) → Each (λ d. border_of t rs < d.lsn) ds → last_of t rs ≡ next_off (border_of t rs) ds → ds ≡ []
    by_list [] above e = refl
    by_list (d ∷ ds) above e = absurd (omega (arith, above.0, e, at))

    by_off : (b : Bool) → is_taken_off t rs ≡ b → open_of t (tally rs).opened ≡ []
    by_off true e = absurd (omega (arith, h.off e, at))
    by_off false e = by_list (open_of t (tally rs).opened) h.above (h.line e)

own_off : (l : ℕ) (x : Step) (rs : Steps) → is_taken_off (txn_of x) (record { lsn = l; is = x } ∷ rs) ≡ takes_off x
own_off l x rs = ap (λ b. cond b (takes_off x) (is_taken_off (txn_of x) rs)) (same_number (txn_of x))

-- a record of its own
own_in_line : (base l : ℕ) (x : Step) (rs : Steps) → next_lsn rs ≤ l → may_step base rs l x ≡ true → AreStepped base rs → (Acts rs (txn_of x) → IsInLine rs (txn_of x)) → Acts (record { lsn = l; is = x } ∷ rs) (txn_of x) → IsInLine (record { lsn = l; is = x } ∷ rs) (txn_of x)
own_in_line base l (Begin t p) rs le may all h acts =
    let is : t ≡ l = number_is t l (and_left (t == l) (p == 0) may) in
    ended_in_line (record { lsn = l; is = Begin t p } ∷ rs) t l (last_here l (Begin t p) rs) (border_here l (Begin t p) rs refl) (own_off l (Begin t p) rs)
    (filter_none (λ d. d.transaction == t) (tally rs).opened (each_more (IsOwn (next_lsn rs)) (λ d. (d.transaction == t) ≡ false) (tally rs).opened (λ d z. other_number d.transaction t (λ e. never d z e is)) (opens_own base rs all)))
  where
    never : (d : Open Changing) → IsOwn (next_lsn rs) d → d.transaction ≡ t → t ≡ l → ⊥
    never d z e is = absurd (omega (arith, z.0, z.1, e, is, le))
own_in_line base l (Change t p c) rs le may all h acts =
    let k = h acts in
    let q : Steps = record { lsn = l; is = Change t p c } ∷ rs in
    let border : border_of t q ≡ border_of t rs = border_stays l (Change t p c) rs t refl in
    let opened_is : open_of t (tally q).opened ≡ record { lsn = l; transaction = t; change = c } ∷ open_of t (tally rs).opened = ap (λ b. cond b (record { lsn = l; transaction = t; change = c } ∷ open_of t (tally rs).opened) (open_of t (tally rs).opened)) (same_number t) in
    let low : border_of t rs < l = lt_of_lt_of_le (borders_low base rs all t) le in
    record {
      above = subst (Each (λ d. border_of t q < d.lsn)) (sym opened_is) (subst (λ b. Each (λ d. b < d.lsn) (record { lsn = l; transaction = t; change = c } ∷ open_of t (tally rs).opened)) (sym border) (low, k.above));
      line = λ e. last_here l (Change t p c) rs ∙ ap (next_off (border_of t q)) (sym opened_is);
      off = λ e. absurd (clash (is_taken_off t q) (own_off l (Change t p c) rs) e);
    }
own_in_line base l (TopEnd t p u n) rs le may all h acts = ended_in_line (record { lsn = l; is = TopEnd t p u n } ∷ rs) t l (last_here l (TopEnd t p u n) rs) (border_here l (TopEnd t p u n) rs refl) (own_off l (TopEnd t p u n) rs) (own_none t (tally rs).opened)
own_in_line base l (PhysComp t p u c) rs le may all h acts =
    let k = h acts in
    let q : Steps = record { lsn = l; is = PhysComp t p u c } ∷ rs in
    let border : border_of t q ≡ border_of t rs = border_stays l (PhysComp t p u c) rs t refl in
    let low : border_of t rs < l = lt_of_lt_of_le (borders_low base rs all t) le in
    record {
      above =
          subst (Each (λ d. border_of t q < d.lsn)) (sym (of_up_to t u (tally rs).opened))
          (subst (λ b. Each (λ d. b < d.lsn) (open_up_to t u (open_of t (tally rs).opened))) (sym border) (each_filter (λ d. border_of t rs < d.lsn) (λ d. not (d.transaction == t && nat_lt u d.lsn)) (open_of t (tally rs).opened) k.above));
      line = λ e. absurd (clash (is_taken_off t q) e (own_off l (PhysComp t p u c) rs));
      off = λ e. subst (λ b. b < last_of t q) (sym border) (subst (λ n. border_of t rs < n) (sym (last_here l (PhysComp t p u c) rs)) low);
    }
own_in_line base l (TopVoid t p u) rs le may all h acts = ended_in_line (record { lsn = l; is = TopVoid t p u } ∷ rs) t l (last_here l (TopVoid t p u) rs) (border_here l (TopVoid t p u) rs refl) (own_off l (TopVoid t p u) rs) (own_none t (tally rs).opened)
own_in_line base l (CompEnd t p u) rs le may all h acts = ended_in_line (record { lsn = l; is = CompEnd t p u } ∷ rs) t l (last_here l (CompEnd t p u) rs) (border_here l (CompEnd t p u) rs refl) (own_off l (CompEnd t p u) rs) (own_none t (tally rs).opened)
own_in_line base l (Save t p m) rs le may all h acts = ended_in_line (record { lsn = l; is = Save t p m } ∷ rs) t l (last_here l (Save t p m) rs) (border_here l (Save t p m) rs refl) (own_off l (Save t p m) rs) (none_open rs t (h acts) (by_whose (t == 0) refl acts))
  where
    goes : goes_on base rs (Save t p m) ≡ true
    goes = on base rs l (Save t p m) tt may

    own : (t ≡ 0 → ⊥) → is_in t (tally rs).live ≡ true → last_of t rs ≡ border_of t rs
    own some live = let k = by_own base rs (Save t p m) some live goes in sym k.0 ∙ number_is p (border_of t rs) k.1

    by_whose : (b : Bool) → (t == 0) ≡ b → Acts rs t → last_of t rs ≡ border_of t rs
    by_whose true e acts = absurd (clash false refl (by_system base rs (Save t p m) (number_is t 0 e) goes))
    by_whose false e (inl zero) = absurd (clash (t == 0) e (ap (λ n. n == 0) zero))
    by_whose false e (inr live) = own (λ zero. clash (t == 0) e (ap (λ n. n == 0) zero)) live
own_in_line base l (Commit t p) rs le may all h (inl zero) = absurd (clash false refl (by_system base rs (Commit t p) zero (on base rs l (Commit t p) tt may)))
own_in_line base l (Commit t p) rs le may all h (inr live) = absurd (clash (is_in t (without t (tally rs).live)) (without_not t (tally rs).live) live)
own_in_line base l (End t p) rs le may all h (inl zero) = absurd (clash false refl (by_system base rs (End t p) zero (on base rs l (End t p) tt may)))
own_in_line base l (End t p) rs le may all h (inr live) = absurd (clash (is_in t (without t (tally rs).live)) (without_not t (tally rs).live) live)

all_in_line : (base : ℕ) (rs : Steps) → AreStepped base rs → (t : ℕ) → Acts rs t → IsInLine rs t
all_in_line base [] h t acts = record { above = tt; line = λ e. refl; off = λ e. absurd (cc) }
all_in_line base (r ∷ rs) h t acts = by_test (txn_of r.is == t) refl (all_in_line base rs h.2 t) acts
  where
    before : (txn_of r.is == t) ≡ false → Acts (r ∷ rs) t → Acts rs t
    before e (inl zero) = inl zero
    before e (inr live) = inr (sym (live_other r.lsn r.is rs t e) ∙ live)

    by_test : (b : Bool) → (txn_of r.is == t) ≡ b → (Acts rs t → IsInLine rs t) → Acts (r ∷ rs) t → IsInLine (r ∷ rs) t
    by_test true e k a =
        let is : txn_of r.is ≡ t = number_is (txn_of r.is) t e in
        subst (IsInLine (r ∷ rs)) is (own_in_line base r.lsn r.is rs h.0 h.1 h.2 (subst (λ u. Acts rs u → IsInLine rs u) (sym is) k) (subst (Acts (r ∷ rs)) (sym is) a))
    by_test false e k a = other_in_line r.lsn r.is rs t (λ is. clash (txn_of r.is == t) e (ap (λ u. txn_of r.is == u) is ∙ same_number (txn_of r.is))) (k (before e a))

-- a change and an end of an action stand in no action that is being taken off
not_off : (base : ℕ) (rs : Steps) (x : Step) → ((off : Bool) → is_systems off x ≡ true → off ≡ false) → ((border : ℕ) (off : Bool) → goes_right border off x ≡ true → off ≡ false) → goes_on base rs x ≡ true → Acts rs (txn_of x) → is_taken_off (txn_of x) rs ≡ false
not_off base rs x system own goes acts = by_test (txn_of x == 0) refl acts
  where
    by_test : (b : Bool) → (txn_of x == 0) ≡ b → Acts rs (txn_of x) → is_taken_off (txn_of x) rs ≡ false
    by_test true e acts = let zero = number_is (txn_of x) 0 e in subst (λ t. is_taken_off t rs ≡ false) (sym zero) (system (is_taken_off 0 rs) (by_system base rs x zero goes))
    by_test false e (inl zero) = absurd (clash (txn_of x == 0) e (ap (λ n. n == 0) zero))
    by_test false e (inr live) = own (border_of (txn_of x) rs) (is_taken_off (txn_of x) rs) (by_own base rs x (λ zero. clash (txn_of x == 0) e (ap (λ n. n == 0) zero)) live goes).1

straight : (base : ℕ) (rs : Steps) (l : ℕ) (x : Step) → may_step base rs l x ≡ true → AreStepped base rs → IsStraight rs x
straight base rs l (Begin t p) may h = tt
straight base rs l (Change t p c) may h = λ acts.
    (all_in_line base rs h t acts).line (not_off base rs (Change t p c) (λ off e. not_true off e) (λ border off e. not_true off e) (on base rs l (Change t p c) tt may) acts)
straight base rs l (TopEnd t p u n) may h = tt
straight base rs l (PhysComp t p u c) may h = tt
straight base rs l (TopVoid t p u) may h = tt
straight base rs l (CompEnd t p u) may h = tt
straight base rs l (Save t p m) may h = tt
straight base rs l (Commit t p) may h = tt
straight base rs l (End t p) may h = tt

-- no change is behind a record that takes one off, within an action
pub all_straight : (base : ℕ) (rs : Steps) → AreStepped base rs → AreStraight rs
all_straight base [] h = tt
all_straight base (r ∷ rs) h = (straight base rs r.lsn r.is h.1 h.2, all_straight base rs h.2)

-- a transaction commits and ends at a border
at_border : (base : ℕ) (rs : Steps) (x : Step) → ((off : Bool) → is_systems off x ≡ true → ⊥) → ((border : ℕ) (off : Bool) → goes_right border off x ≡ true → previous_of x ≡ border) → goes_on base rs x ≡ true → is_in (txn_of x) (tally rs).live ≡ true
    → last_of (txn_of x) rs ≡ border_of (txn_of x) rs
at_border base rs x system own goes live = by_test (txn_of x == 0) refl
  where
    by_test : (b : Bool) → (txn_of x == 0) ≡ b → last_of (txn_of x) rs ≡ border_of (txn_of x) rs
    by_test true e = absurd (system (is_taken_off 0 rs) (by_system base rs x (number_is (txn_of x) 0 e) goes))
    by_test false e = let k = by_own base rs x (λ zero. clash (txn_of x == 0) e (ap (λ n. n == 0) zero)) live goes in sym k.0 ∙ own (border_of (txn_of x) rs) (is_taken_off (txn_of x) rs) k.1

ends_well : (base : ℕ) (rs : Steps) (l : ℕ) (x : Step) → may_step base rs l x ≡ true → AreStepped base rs → EndsWell rs x
ends_well base rs l (Begin t p) may h = tt
ends_well base rs l (Change t p c) may h = tt
ends_well base rs l (TopEnd t p u n) may h = λ acts.
    (all_in_line base rs h t acts).line (not_off base rs (TopEnd t p u n) (λ off e. not_true off (and_left (not off) (u == 0) e)) (λ border off e. not_true off (and_left (not off) (u == border) e)) (on base rs l (TopEnd t p u n) tt may) acts)
ends_well base rs l (PhysComp t p u c) may h = tt
ends_well base rs l (TopVoid t p u) may h = tt
ends_well base rs l (CompEnd t p u) may h = λ acts.
    (all_in_line base rs h t acts).line (not_off base rs (CompEnd t p u) (λ off e. absurd (clash false refl e)) (λ border off e. not_true off e) (on base rs l (CompEnd t p u) tt may) acts)
ends_well base rs l (Save t p m) may h = tt
ends_well base rs l (Commit t p) may h = λ live. at_border base rs (Commit t p) (λ off e. clash false refl e) (λ border off e. number_is p border e) (on base rs l (Commit t p) tt may) live
ends_well base rs l (End t p) may h = λ live. at_border base rs (End t p) (λ off e. clash false refl e) (λ border off e. number_is p border e) (on base rs l (End t p) tt may) live

-- actions and transactions end as they have to
pub all_end_well : (base : ℕ) (rs : Steps) → AreStepped base rs → AllEndWell rs
all_end_well base [] h = tt
all_end_well base (r ∷ rs) h = (ends_well base rs r.lsn r.is h.1 h.2, all_end_well base rs h.2)
