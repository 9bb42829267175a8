-- WHERE A TAKE-OFF GOES ON, of a formed log with an action that has no end.
use Rattle.std.proofs.Common.{◌≡◌, ◌⊎◌, inl, inr, ℕ, ◌<◌, ◌≤◌, ◌==◌, arith, Bool, true, false, cond, List, [], ◌∷◌, Option, Some, None, IsSome, refl, sym, ap, ◌∙◌, subst, lt_of_lt_of_le}
use Rattle.std.specs.Prelude.{◌||◌}
use Rattle.std.specs.Bool.{MatchBool}
use Rattle.sg_record.specs.Changes.{Change as Changing}
use Rattle.sg_recovery.specs.Log.{Open, said, tally, is_in, open_of, open_up_to}
use Rattle.sg_recovery.specs.Log.Record.{Begin, Change, TopEnd, PhysComp, TopVoid, CompEnd, Save, Commit, End}
use Rattle.sg_recovery.specs.Laws.{Each}
use Rattle.sg_recovery.specs.Shows.{Pairs}
use Rattle.sg_recovery.specs.Chains.{txn_of, is_border, last_of, border_of, next_lsn, next_off, Behind, Formed}
use Rattle.sg_recovery.specs.TakeOff.{AreOwned, IsBefore, FollowsSystem, GoesOnSystem, FormedSystem}
use Rattle.sg_recovery.specs.Formed.{IsUnfinished, AreStraight, IsLog}
use Rattle.sg_recovery.specs.Linked as linked
use Rattle.sg_recovery.specs.Linked.{record_at, LinkedSystem}
use Rattle.sg_recovery.proofs.Basic.{cond_true, cond_false, each_filter, same_number, number_is, other_number}
use Rattle.sg_recovery.proofs.Chaining.{clash, other_live, border_here, border_stays, border_other, takes_first, sound}
use Rattle.sg_recovery.proofs.TakeOff.{own_of, of_up_to, all_own, other_open, last_here, last_other, taken}
use Rattle.sg_recovery.proofs.Running.{pairs_filter}
use Rattle.sg_recovery.proofs.Showing.{without_in}
use Rattle.sg_recovery.proofs.Linked.{linked_system, all_linked}
use Rattle.sg_recovery.proofs.Unfinished.{all_found}
use Rattle.sg_actions.specs.Steps.{Step, Steps, stepped, step_at}
use Rattle.sg_actions.specs.TakingOff.{AreLinked}
use Rattle.sg_found.specs.Found.{back_of, back_by, IsBorderAt, IsFrom, IsOpenAt}
use Rattle.sg_found.specs.declared.looking.Back.TheVariants.{Changed, TakenOff, Other}

-- A STEP'S NUMBER
step_here : (lsn : ℕ) (x : Step) (rs : Steps) → step_at (stepped rs lsn x) lsn ≡ Some x
step_here lsn x rs = cond_true (lsn == lsn) (Some x) (step_at rs lsn) (same_number lsn)

step_below : (lsn at : ℕ) (x : Step) (rs : Steps) → at < lsn → step_at (stepped rs lsn x) at ≡ step_at rs at
step_below lsn at x rs less = cond_false (lsn == at) (Some x) (step_at rs at) (other_number lsn at (λ e. absurd (omega (arith, e, less))))

at_is : (rs : Steps) (at : ℕ) → step_at rs at ≡ record_at rs at
at_is [] at = refl
at_is (r ∷ rs) at = ap (λ (o : Option Step). cond (r.lsn == at) (Some r.is) o) (at_is rs at)

pub linked_is : (rs : Steps) (before : ℕ) (ds : List (Open Changing)) → linked.AreLinked rs before ds → AreLinked rs before ds
linked_is rs before [] h = tt
linked_is rs before (d ∷ ds) h = (at_is rs d.lsn ∙ h.0, h.1, h.2, linked_is rs before ds h.3)

some_lsn : (l : ℕ) (rs : Steps) → next_lsn rs ≤ l → 0 < l
some_lsn l [] h = omega (arith, h)
some_lsn l (r ∷ rs) h = omega (arith, h)

-- a step's number is none before the log
there_above : (base at : ℕ) (x : Step) (rs : Steps) → Each (λ r. base ≤ r.lsn) rs → record_at rs at ≡ Some x → base ≤ at
there_above base at x [] a e = absurd (let no : ◌≡◌ {A = Option Step} None (Some x) = e in cc)
there_above base at x (r ∷ rs) a e = by_test (r.lsn == at) refl e (there_above base at x rs a.1)
  where
    by_test : (b : Bool) → (r.lsn == at) ≡ b → cond b (Some r.is) (record_at rs at) ≡ Some x → (record_at rs at ≡ Some x → base ≤ at) → base ≤ at
    by_test true is z rest = let same : r.lsn ≡ at = number_is r.lsn at is in let low : base ≤ r.lsn = a.0 in omega (arith, same, low)
    by_test false is z rest = rest z

-- A BORDER is no change of an action
back_border : (x : Step) → is_border x ≡ true → back_of x ≡ Other
back_border (Begin t p) e = refl
back_border (Change t p c) e = absurd (cc)
back_border (TopEnd t p u n) e = refl
back_border (PhysComp t p u c) e = absurd (cc)
back_border (TopVoid t p u) e = refl
back_border (CompEnd t p u) e = refl
back_border (Save t p m) e = refl
back_border (Commit t p) e = refl
back_border (End t p) e = refl

live_stays : (l : ℕ) (x : Step) (rs : Steps) → is_border x ≡ false → (said l x (tally rs)).live ≡ (tally rs).live
live_stays l (Begin t p) rs e = absurd (cc)
live_stays l (Change t p c) rs e = refl
live_stays l (TopEnd t p u n) rs e = refl
live_stays l (PhysComp t p u c) rs e = refl
live_stays l (TopVoid t p u) rs e = refl
live_stays l (CompEnd t p u) rs e = refl
live_stays l (Save t p m) rs e = refl
live_stays l (Commit t p) rs e = absurd (cc)
live_stays l (End t p) rs e = absurd (cc)

-- and a transaction that goes on has one
pub border_there : (rs : Steps) → Formed rs → (t : ℕ) → is_in t (tally rs).live ≡ true → IsBorderAt rs (border_of t rs)
border_there [] f t live = absurd (let no : false ≡ true = live in cc)
border_there (r ∷ rs) f t live = by_test (border_there rs f.2 t) (txn_of r.is == t) refl (is_border r.is) refl
  where
    here : txn_of r.is ≡ t → is_border r.is ≡ true → IsBorderAt (r ∷ rs) (border_of t (r ∷ rs))
    here own e =
        let at : border_of t (r ∷ rs) ≡ r.lsn = ap (λ (u : ℕ). border_of u (r ∷ rs)) (sym own) ∙ border_here r.lsn r.is rs e in
        let is : step_at (r ∷ rs) (border_of t (r ∷ rs)) ≡ Some r.is = ap (step_at (r ∷ rs)) at ∙ step_here r.lsn r.is rs in
        record { there = subst IsSome (sym is) refl; other = ap back_by is ∙ back_border r.is e }

    below : border_of t (r ∷ rs) ≡ border_of t rs → IsBorderAt rs (border_of t rs) → IsBorderAt (r ∷ rs) (border_of t (r ∷ rs))
    below same h =
        let low : border_of t rs < r.lsn = lt_of_lt_of_le ((sound rs f.2).borders t) f.0 in
        let is : step_at (r ∷ rs) (border_of t (r ∷ rs)) ≡ step_at rs (border_of t rs) = ap (step_at (r ∷ rs)) same ∙ step_below r.lsn (border_of t rs) r.is rs low in
        record { there = subst IsSome (sym is) h.there; other = ap back_by is ∙ h.other }

    by_test : (is_in t (tally rs).live ≡ true → IsBorderAt rs (border_of t rs)) → (b : Bool) → (txn_of r.is == t) ≡ b → (c : Bool) → is_border r.is ≡ c → IsBorderAt (r ∷ rs) (border_of t (r ∷ rs))
    by_test rest true e true k = here (number_is (txn_of r.is) t e) k
    by_test rest true e false k = below (border_stays r.lsn r.is rs t k) (rest (sym (ap (is_in t) (live_stays r.lsn r.is rs k)) ∙ live))
    by_test rest false e c k =
        let ne : t ≡ txn_of r.is → ⊥ = λ is. clash (txn_of r.is == t) e (subst (λ (u : ℕ). (txn_of r.is == u) ≡ true) (sym is) (same_number (txn_of r.is))) in
        below (border_other r.lsn r.is rs t ne) (rest (sym (other_live r.lsn r.is (tally rs) t ne) ∙ live))

-- THE NEWEST RECORD of a transaction, or of the system, and the log behind it
record Newest (base : ℕ) (rs : Steps) (t : ℕ) : Type 0 where
  lsn : ℕ
  is : Step
  behind : Steps
  own : txn_of is ≡ t
  last : last_of t rs ≡ lsn
  here : step_at rs lsn ≡ Some is
  border : border_of t rs ≡ border_of t (stepped behind lsn is)
  opened : open_of t (tally rs).opened ≡ open_of t (said lsn is (tally behind)).opened
  live : is_in t (tally rs).live ≡ is_in t (said lsn is (tally behind)).live
  above : Each (λ r. base ≤ r.lsn) behind
  low : base ≤ lsn
  formed : Formed (stepped behind lsn is)
  owned : AreOwned behind
  system : FormedSystem base (stepped behind lsn is)
  straight : AreStraight behind

newest : (base : ℕ) (rs : Steps) → Each (λ r. base ≤ r.lsn) rs → Formed rs → AreOwned rs → FormedSystem base rs → AreStraight rs → (t : ℕ) → (last_of t rs ≡ border_of t rs → ⊥) → Newest base rs t
newest base [] a f o y z t un = absurd (un refl)
newest base (r ∷ rs) a f o y z t un = by_test (newest base rs a.1 f.2 o.1 y.1 z.1 t) (txn_of r.is == t) refl
  where
    by_test : ((last_of t rs ≡ border_of t rs → ⊥) → Newest base rs t) → (b : Bool) → (txn_of r.is == t) ≡ b → Newest base (r ∷ rs) t
    by_test rest true e =
        let own : txn_of r.is ≡ t = number_is (txn_of r.is) t e in
        record {
          lsn = r.lsn;
          is = r.is;
          behind = rs;
          own = own;
          last = ap (λ (u : ℕ). last_of u (r ∷ rs)) (sym own) ∙ last_here r.lsn r.is rs;
          here = step_here r.lsn r.is rs;
          border = refl;
          opened = refl;
          live = refl;
          above = a.1;
          low = a.0;
          formed = f;
          owned = o.1;
          system = y;
          straight = z.1;
        }
    by_test rest false e =
        let ne : t ≡ txn_of r.is → ⊥ = λ is. clash (txn_of r.is == t) e (subst (λ (u : ℕ). (txn_of r.is == u) ≡ true) (sym is) (same_number (txn_of r.is))) in
        let last_is = last_other r.lsn r.is rs t ne in
        let border_is = border_other r.lsn r.is rs t ne in
        let n = rest (λ same. un (last_is ∙ (same ∙ sym border_is))) in
        let less : last_of t rs < r.lsn = lt_of_lt_of_le ((taken rs f.2 o.1).lasts t) f.0 in
        record {
          lsn = n.lsn;
          is = n.is;
          behind = n.behind;
          own = n.own;
          last = last_is ∙ n.last;
          here = step_below r.lsn n.lsn r.is rs (subst (λ (k : ℕ). k < r.lsn) n.last less) ∙ n.here;
          border = border_is ∙ n.border;
          opened = other_open r.lsn r.is (tally rs) t ne ∙ n.opened;
          live = other_live r.lsn r.is (tally rs) t ne ∙ n.live;
          above = n.above;
          low = n.low;
          formed = n.formed;
          owned = n.owned;
          system = n.system;
          straight = n.straight;
        }

-- the same changes are open, all of them its own
all_open : (base : ℕ) (rs : Steps) (t : ℕ) → IsLog base rs → IsUnfinished rs t → (n : Newest base rs t) → (tally rs).opened ≡ open_of t (said n.lsn n.is (tally n.behind)).opened
all_open base rs t h un n = sym (all_own t (tally rs).opened (all_found base rs h t un).1) ∙ n.opened

-- WHERE IT GOES ON, behind the record before the action
found_at : (base : ℕ) (rs : Steps) (t at before : ℕ) → IsLog base rs → AreLinked rs before (tally rs).opened → at ≡ next_off before (tally rs).opened → IsBefore base before ⊎ IsBorderAt rs before → (is_in t (tally rs).live ≡ true → before ≡ border_of t rs)
    → (b : ℕ) × IsOpenAt rs base t at b
found_at base rs t at before h links is bottom own = (before, record { back = record { linked = links; at_is = is; bottom = bottom }; own = own })

never_live : (base : ℕ) (rs : Steps) → FormedSystem base rs → is_in 0 (tally rs).live ≡ true → ⊥
never_live base [] y live = absurd (let no : false ≡ true = live in cc)
never_live base (r ∷ rs) y live = by_step r.is y.0 (never_live base rs y.1) live
  where
    by_zero : (t : ℕ) (b : Bool) → (t == 0) ≡ b → (t ≡ 0 → ⊥) → (is_in 0 (tally rs).live ≡ true → ⊥) → (b || is_in 0 (tally rs).live) ≡ true → ⊥
    by_zero t true is f rest z = f (number_is t 0 is)
    by_zero t false is f rest z = rest z

    by_step : (x : Step) → (txn_of x ≡ 0 → FollowsSystem base rs x) → (is_in 0 (tally rs).live ≡ true → ⊥) → is_in 0 (said r.lsn x (tally rs)).live ≡ true → ⊥
    by_step (Begin t p) f rest e = by_zero t (t == 0) refl f rest e
    by_step (Change t p c) f rest e = rest e
    by_step (TopEnd t p u n) f rest e = rest e
    by_step (PhysComp t p u c) f rest e = rest e
    by_step (TopVoid t p u) f rest e = rest e
    by_step (CompEnd t p u) f rest e = rest e
    by_step (Save t p m) f rest e = rest e
    by_step (Commit t p) f rest e = rest (without_in t 0 (tally rs).live e)
    by_step (End t p) f rest e = rest (without_in t 0 (tally rs).live e)

pub system_dead : (base : ℕ) (rs : Steps) → IsLog base rs → is_in 0 (tally rs).live ≡ false
system_dead base rs h = by_test (is_in 0 (tally rs).live) refl
  where
    by_test : (b : Bool) → is_in 0 (tally rs).live ≡ b → is_in 0 (tally rs).live ≡ false
    by_test true e = absurd (never_live base rs h.system e)
    by_test false e = e

-- BEHIND A CHANGE it goes on at that change
at_change : (base : ℕ) (rs : Steps) (t at p : ℕ) (c : Changing) → IsLog base rs → IsUnfinished rs t → (n : Newest base rs t) → n.is ≡ Change t p c → at ≡ n.lsn → (b : ℕ) × IsOpenAt rs base t at b
at_change base rs t at p c h un n is here = by_whose (all_linked base rs h t un)
  where
    d : Open Changing
    d = record { lsn = n.lsn; transaction = t; change = c }

    first : (tally rs).opened ≡ d ∷ open_of t (tally n.behind).opened
    first = all_open base rs t h un n ∙ (ap (λ (x : Step). open_of t (said n.lsn x (tally n.behind)).opened) is ∙ cond_true (t == t) (d ∷ open_of t (tally n.behind).opened) (open_of t (tally n.behind).opened) (same_number t))

    goes : (before : ℕ) → at ≡ next_off before (tally rs).opened
    goes before = here ∙ sym (ap (next_off before) first)

    by_whose : ((t ≡ 0) × LinkedSystem base rs (tally rs).opened) ⊎ ((is_in t (tally rs).live ≡ true) × linked.AreLinked rs (border_of t rs) (tally rs).opened) → (b : ℕ) × IsOpenAt rs base t at b
    by_whose (inl (zero, l)) = found_at base rs t at l.before h (linked_is rs l.before (tally rs).opened l.linked) (goes l.before) (inl l.is_before) (λ live. absurd (never_live base rs h.system (subst (λ (u : ℕ). is_in u (tally rs).live ≡ true) zero live)))
    by_whose (inr (live, l)) = found_at base rs t at (border_of t rs) h (linked_is rs (border_of t rs) (tally rs).opened l) (goes (border_of t rs)) (inr (border_there rs h.chained t live)) (λ w. refl)

-- BEHIND A RECORD THAT TOOK ONE OFF it goes on where that points to
comp_opened : (base : ℕ) (rs : Steps) (t p w : ℕ) (c : Changing) → IsLog base rs → IsUnfinished rs t → (n : Newest base rs t) → n.is ≡ PhysComp t p w c → (tally rs).opened ≡ open_up_to t w (open_of t (tally n.behind).opened)
comp_opened base rs t p w c h un n is = all_open base rs t h un n ∙ (ap (λ (x : Step). open_of t (said n.lsn x (tally n.behind)).opened) is ∙ of_up_to t w (tally n.behind).opened)

-- of a transaction
at_comp : (base : ℕ) (rs : Steps) (t p w : ℕ) (c : Changing) → IsLog base rs → IsUnfinished rs t → (n : Newest base rs t) → n.is ≡ PhysComp t p w c → is_in t (tally rs).live ≡ true → linked.AreLinked rs (border_of t rs) (tally rs).opened → (b : ℕ) × IsOpenAt rs base t w b
at_comp base rs t p w c h un n is live links =
    let behind = n.behind in
    let x : Step = PhysComp t p w c in
    let formed : Formed (stepped behind n.lsn x) = subst (λ (y : Step). Formed (stepped behind n.lsn y)) is n.formed in
    let was : is_in t (tally behind).live ≡ true = sym (n.live ∙ ap (λ (y : Step). is_in t (said n.lsn y (tally behind)).live) is) ∙ live in
    let g = formed.1 was in
    let d = g.1.0 in
    let ds = g.1.1 in
    let open_is : open_of t (tally behind).opened ≡ d ∷ ds = g.1.2 in
    let undo : w ≡ next_off (border_of t behind) ds = g.1.3 in
    let s = sound behind formed.2 in
    let k = taken behind formed.2 n.owned in
    let own : Each (λ e. e.transaction ≡ t) (d ∷ ds) = subst (Each (λ e. e.transaction ≡ t)) open_is (own_of t (tally behind).opened) in
    let above : Each (λ e. is_in e.transaction (tally behind).live ≡ true → border_of e.transaction behind < e.lsn) (d ∷ ds) = subst (Each (λ e. is_in e.transaction (tally behind).live ≡ true → border_of e.transaction behind < e.lsn)) open_is (each_filter (λ e. is_in e.transaction (tally behind).live ≡ true → border_of e.transaction behind < e.lsn) (λ e. e.transaction == t) (tally behind).opened k.above) in
    let border : border_of t behind < d.lsn = subst (λ a. border_of a behind < d.lsn) own.0 (above.0 (subst (λ a. is_in a (tally behind).live ≡ true) (sym own.0) was)) in
    let order : Pairs Behind (d ∷ ds) = subst (Pairs Behind) open_is (pairs_filter Behind (λ e. e.transaction == t) (tally behind).opened s.order) in
    let now : (tally rs).opened ≡ ds = comp_opened base rs t p w c h un n is ∙ (ap (open_up_to t w) open_is ∙ takes_first t w (border_of t behind) d ds order own.0 border undo) in
    let same : border_of t rs ≡ border_of t behind = n.border ∙ (ap (λ (y : Step). border_of t (stepped behind n.lsn y)) is ∙ border_stays n.lsn x behind t refl) in
    found_at base rs t w (border_of t rs) h (linked_is rs (border_of t rs) (tally rs).opened links) (undo ∙ sym (ap (next_off (border_of t rs)) now ∙ ap (λ (b : ℕ). next_off b ds) same)) (inr (border_there rs h.chained t live)) (λ z. refl)

-- of the system
module _ (base : ℕ) (rs : Steps) (t : ℕ) (zero : t ≡ 0) (p w : ℕ) (c : Changing) (h : IsLog base rs) (un : IsUnfinished rs t) (n : Newest base rs t) (is : n.is ≡ PhysComp t p w c) (l : LinkedSystem base rs (tally rs).opened) where
  dead : is_in t (tally rs).live ≡ true → ⊥
  dead live = never_live base rs h.system (subst (λ (u : ℕ). is_in u (tally rs).live ≡ true) zero live)

  -- nothing is left
  none_left : (tally rs).opened ≡ [] → IsBefore base w → (b : ℕ) × IsOpenAt rs base t w b
  none_left none low = found_at base rs t w w h (subst (AreLinked rs w) (sym none) tt) (sym (ap (next_off w) none)) (inl low) (λ live. absurd (dead live))

  formed : Formed (stepped n.behind n.lsn (PhysComp t p w c))
  formed = subst (λ (y : Step). Formed (stepped n.behind n.lsn y)) is n.formed

  last_low : (b : Bool) → MatchBool b (IsBefore base w) (w ≡ 0) → IsBefore base w
  last_low true z = z
  last_low false z = inl z

  under : (at : ℕ) → 0 < at → base ≤ at → IsBefore base w → w < at
  under at some low (inl e) = omega (arith, some, e)
  under at some low (inr e) = omega (arith, low, e)

  by_list : (ds : List (Open Changing)) → open_of t (tally n.behind).opened ≡ ds → LinkedSystem base n.behind ds → Pairs Behind ds → Each (λ d. d.transaction ≡ t) ds → GoesOnSystem base (border_of 0 n.behind) ds w → (b : ℕ) × IsOpenAt rs base t w b
  by_list [] e k order own goes = none_left (comp_opened base rs t p w c h un n is ∙ ap (open_up_to t w) e) goes.1
  by_list (d ∷ []) e k order own goes =
      let low : IsBefore base w = last_low (border_of 0 n.behind == 0) goes in
      let some : 0 < d.lsn = let q = k.linked.1 in omega (arith, q) in
      let less : w < d.lsn = under d.lsn some (there_above base d.lsn _ n.behind n.above k.linked.0) low in
      none_left (comp_opened base rs t p w c h un n is ∙ (ap (open_up_to t w) e ∙ takes_first t w w d [] order own.0 less refl)) low
  by_list (d ∷ e1 ∷ ds) e k order own goes =
      let some : 0 < d.lsn = let q = k.linked.1 in omega (arith, q) in
      let now : (tally rs).opened ≡ e1 ∷ ds = comp_opened base rs t p w c h un n is ∙ (ap (open_up_to t w) e ∙ takes_first t w 0 d (e1 ∷ ds) order own.0 some goes) in
      found_at base rs t w l.before h (linked_is rs l.before (tally rs).opened l.linked) (goes ∙ sym (ap (next_off l.before) now)) (inl l.is_before) (λ live. absurd (dead live))

  system_comp : (b : ℕ) × IsOpenAt rs base t w b
  system_comp =
      let system : FormedSystem base (stepped n.behind n.lsn (PhysComp t p w c)) = subst (λ (y : Step). FormedSystem base (stepped n.behind n.lsn y)) is n.system in
      by_list (open_of t (tally n.behind).opened) refl
      (subst (λ (u : ℕ). LinkedSystem base n.behind (open_of u (tally n.behind).opened)) (sym zero) (linked_system base n.behind n.above formed.2 n.owned system.1 n.straight))
      (pairs_filter Behind (λ e. e.transaction == t) (tally n.behind).opened (sound n.behind formed.2).order)
      (own_of t (tally n.behind).opened)
      (subst (λ (u : ℕ). GoesOnSystem base (border_of 0 n.behind) (open_of u (tally n.behind).opened) w) (sym zero) ((system.0 zero).1))

-- the log has the last record of an action without an end
pub last_there : (base : ℕ) (rs : Steps) (t : ℕ) → IsLog base rs → IsUnfinished rs t → IsSome (step_at rs (last_of t rs))
last_there base rs t h un =
    let n = newest base rs h.above h.chained h.owned h.system h.straight t un in
    subst IsSome (sym (ap (step_at rs) n.last ∙ n.here)) refl

-- WHERE THE TAKE-OFF GOES ON, by what is seen at the last record
pub open_at : (base : ℕ) (rs : Steps) (t at : ℕ) → IsLog base rs → IsUnfinished rs t → IsFrom (back_by (step_at rs (last_of t rs))) (last_of t rs) at → (b : ℕ) × IsOpenAt rs base t at b
open_at base rs t at h un from = by_step n.is refl (subst (λ (o : Option Step). IsFrom (back_by o) n.lsn at) seen (subst (λ (k : ℕ). IsFrom (back_by (step_at rs (last_of t rs))) k at) n.last from))
  where
    n : Newest base rs t
    n = newest base rs h.above h.chained h.owned h.system h.straight t un

    seen : step_at rs (last_of t rs) ≡ Some n.is
    seen = ap (step_at rs) n.last ∙ n.here

    comp : (p w : ℕ) (c : Changing) → n.is ≡ PhysComp t p w c → at ≡ w → (b : ℕ) × IsOpenAt rs base t at b
    comp p w c is e = subst (λ (k : ℕ). (b : ℕ) × IsOpenAt rs base t k b) (sym e) (by_whose (all_linked base rs h t un))
      where
        by_whose : ((t ≡ 0) × LinkedSystem base rs (tally rs).opened) ⊎ ((is_in t (tally rs).live ≡ true) × linked.AreLinked rs (border_of t rs) (tally rs).opened) → (b : ℕ) × IsOpenAt rs base t w b
        by_whose (inl (zero, l)) = system_comp base rs t zero p w c h un n is l
        by_whose (inr (live, l)) = at_comp base rs t p w c h un n is live l

    by_step : (x : Step) → n.is ≡ x → IsFrom (back_by (Some x)) n.lsn at → (b : ℕ) × IsOpenAt rs base t at b
    by_step (Begin u p) e f = absurd f
    by_step (Change u p c) e f = at_change base rs t at p c h un n (e ∙ ap (λ (k : ℕ). Change k p c) (own u e)) f
      where
        own : (v : ℕ) → n.is ≡ Change v p c → v ≡ t
        own v z = ap txn_of (sym z) ∙ n.own
    by_step (TopEnd u p w m) e f = absurd f
    by_step (PhysComp u p w c) e f = comp p w c (e ∙ ap (λ (k : ℕ). PhysComp k p w c) (own u e)) f
      where
        own : (v : ℕ) → n.is ≡ PhysComp v p w c → v ≡ t
        own v z = ap txn_of (sym z) ∙ n.own
    by_step (TopVoid u p w) e f = absurd f
    by_step (CompEnd u p w) e f = absurd f
    by_step (Save u p m) e f = absurd f
    by_step (Commit u p) e f = absurd f
    by_step (End u p) e f = absurd f

-- a step of the log has a number in it
pub step_above : (base at : ℕ) (x : Step) (rs : Steps) → Each (λ r. base ≤ r.lsn) rs → step_at rs at ≡ Some x → base ≤ at
step_above base at x rs above e = there_above base at x rs above (sym (at_is rs at) ∙ e)

-- so is the last record of an action without an end
pub last_above : (base : ℕ) (rs : Steps) (t : ℕ) → IsLog base rs → IsUnfinished rs t → base ≤ last_of t rs
last_above base rs t h un =
    let n = newest base rs h.above h.chained h.owned h.system h.straight t un in
    step_above base (last_of t rs) n.is rs h.above (ap (step_at rs) n.last ∙ n.here)

-- what is seen as none of an action's changes is a border
seen_border : (x : Step) → back_of x ≡ Other → is_border x ≡ true
seen_border (Begin u p) e = refl
seen_border (Change u p c) e = absurd (let no : Changed p ≡ Other = e in cc)
seen_border (TopEnd u p w m) e = refl
seen_border (PhysComp u p w c) e = absurd (let no : TakenOff w ≡ Other = e in cc)
seen_border (TopVoid u p w) e = refl
seen_border (CompEnd u p w) e = refl
seen_border (Save u p m) e = refl
seen_border (Commit u p) e = refl
seen_border (End u p) e = refl

-- AN ACTION THAT HAS NO END has a change as its last record, or what takes one off
pub last_inside : (base : ℕ) (rs : Steps) (t : ℕ) → IsLog base rs → IsUnfinished rs t → back_by (step_at rs (last_of t rs)) ≡ Other → ⊥
last_inside base rs t h un other = by_border (seen_border n.is (ap back_by (sym seen) ∙ other))
  where
    n : Newest base rs t
    n = newest base rs h.above h.chained h.owned h.system h.straight t un

    seen : step_at rs (last_of t rs) ≡ Some n.is
    seen = ap (step_at rs) n.last ∙ n.here

    by_border : is_border n.is ≡ true → ⊥
    by_border e = un (n.last ∙ sym (n.border ∙ (ap (λ (u : ℕ). border_of u (stepped n.behind n.lsn n.is)) (sym n.own) ∙ border_here n.lsn n.is n.behind e)))
