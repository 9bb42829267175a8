-- The way back over an action's records passes its changes.
use Rattle.std.proofs.Common.{◌≡◌, ◌≢◌, ℕ, ◌==◌, ◌<◌, ◌≤◌, List, [], ◌∷◌, Some, None, true, false, sym, ap, subst, ◌∙◌, refl, arith, inl, inr}
use Rattle.std.proofs.lemmas.Bool.{cases_Bool, cases_eq}
use Rattle.sg_record.specs.Changes.{Change as Changing}
use Rattle.sg_recovery.specs.Laws.{Each}
use Rattle.sg_recovery.specs.Shows.{Pairs}
use Rattle.sg_recovery.specs.Log.{Open, said, tally, is_in, without, open_of, open_not_of, open_up_to}
use Rattle.sg_recovery.specs.Log.Record.{Begin, Change, TopEnd, PhysComp, TopVoid, CompEnd, Save, Commit, End}
use Rattle.sg_recovery.specs.Chains.{txn_of, is_border, last_of, border_of, next_lsn, next_off, Formed, Follows, IsKnown, Behind}
use Rattle.sg_recovery.specs.TakeOff.{AreOwned}
use Rattle.sg_recovery.proofs.Basic.{cond_true, cond_false, each_filter, same_number, number_is}
use Rattle.sg_recovery.proofs.Chaining.{clash, sound, other_live, takes_first}
use Rattle.sg_recovery.proofs.Running.{pairs_filter}
use Rattle.sg_recovery.proofs.Showing.{without_not}
use Rattle.sg_recovery.proofs.TakeOff.{taken, none_yet, none_of, own_none, own_of, of_up_to, other_open}
use Rattle.sg_actions.specs.Steps.{Step, Steps, step_at, stepped}
use Rattle.sg_actions.specs.Undoing.{Hop, hop_in, Leads, hopped}
use Rattle.sg_actions.proofs.Chained.{step_here, step_there, last_low, last_here, last_there, border_here, border_there, border_stays}
use Rattle.sg_actions.proofs.Walking.{at_low, behind, was_live, same_some, none_some}

-- with one record more the way is the same
pub leads_more : (rs : Steps) (l : ℕ) (x : Step) (border at : ℕ) (hs : List Hop) → at < l → Leads rs border at hs → Leads (stepped rs l x) border at hs
leads_more rs l x border at [] low h = h
leads_more rs l x border at (h ∷ hs) low w = (ap hop_in (step_there rs l at x low) ∙ w.0, w.1, w.2, leads_more rs l x border h.1 hs (omega (arith, low, w.2)) w.3)

-- from where the change before the last one stands, the way passes all but the last
record HasRest (rs : Steps) (border t : ℕ) (ds : List (Open Changing)) : Type 0 where
  pub hops : List Hop
  pub leads : Leads rs border (next_off border ds) hops
  pub are : hopped t (next_off border ds) hops ≡ ds

skips : (rs : Steps) (border t at : ℕ) (hs : List Hop) (ds : List (Open Changing)) → Leads rs border at hs → hopped t at hs ≡ ds → HasRest rs border t ds
skips rs border t at [] ds w e = subst (HasRest rs border t) e (record { hops = []; leads = refl; are = refl })
skips rs border t at ((None, n) ∷ hs) ds w e = skips rs border t n hs ds w.3 e
skips rs border t at ((Some c, n) ∷ hs) ds w e = subst (HasRest rs border t) e (record { hops = (Some c, n) ∷ hs; leads = w; are = refl })

off_first : (rs : Steps) (border t at : ℕ) (hs : List Hop) (d : Open Changing) (ds : List (Open Changing)) → Leads rs border at hs → hopped t at hs ≡ d ∷ ds → HasRest rs border t ds
off_first rs border t at [] d ds w e = absurd (cc)
off_first rs border t at ((None, n) ∷ hs) d ds w e = off_first rs border t n hs d ds w.3 e
off_first rs border t at ((Some c, n) ∷ hs) d ds w e = skips rs border t n hs ds w.3 (tails (hopped t n hs) ds e)
  where
    tails : {a b : Open Changing} (xs ys : List (Open Changing)) → (a ∷ xs) ≡ (b ∷ ys) → xs ≡ ys
    tails xs ys k = cc

-- THE WAY BACK from a transaction's last record passes its open changes, down to its last border
pub record LeadsBack (rs : Steps) (t : ℕ) : Type 0 where
  pub hops : List Hop
  pub leads : Leads rs (border_of t rs) (last_of t rs) hops
  pub are : hopped t (last_of t rs) hops ≡ open_of t (tally rs).opened

-- at a border with nothing open
at_border : (rs : Steps) (l t : ℕ) (x : Step) → is_border x ≡ true → txn_of x ≡ t → open_of t (said l x (tally rs)).opened ≡ [] → LeadsBack (stepped rs l x) t
at_border rs l t x b own none =
    let last : last_of t (stepped rs l x) ≡ l = sym (ap (λ (n : ℕ). last_of n (stepped rs l x)) own) ∙ last_here l x rs in
    let border : border_of t (stepped rs l x) ≡ l = sym (ap (λ (n : ℕ). border_of n (stepped rs l x)) own) ∙ border_here l x rs b in
    record { hops = []; leads = last ∙ sym border; are = sym none }

own_leads : (rs : Steps) (l t : ℕ) (x : Step) → Formed rs → AreOwned rs → next_lsn rs ≤ l → (IsKnown (tally rs) x → Follows rs l x) → txn_of x ≡ t → is_in t (said l x (tally rs)).live ≡ true → (is_in t (tally rs).live ≡ true → LeadsBack rs t) → LeadsBack (stepped rs l x) t
own_leads rs l t (Begin a p) f o le k own live more =
    at_border rs l t (Begin a p) refl own (subst (λ (n : ℕ). open_of n (tally rs).opened ≡ []) own (none_of a rs (none_yet l a rs (k tt).0 (sound rs f) (taken rs f o) le)))
own_leads rs l t (Change a p c) f o le k own live more =
    let x : Step = Change a p c in
    let w = more live in
    let is : p ≡ last_of t rs = k (ap (λ (n : ℕ). is_in n (tally rs).live) own ∙ live) ∙ ap (λ (n : ℕ). last_of n rs) own in
    let low = last_low rs t f in
    let borders = (sound rs f).borders t in
    let last : last_of t (stepped rs l x) ≡ l = sym (ap (λ (n : ℕ). last_of n (stepped rs l x)) own) ∙ last_here l x rs in
    let border : border_of t (stepped rs l x) ≡ border_of t rs = border_stays l x rs t refl in
    let leads : Leads (stepped rs l x) (border_of t rs) l ((Some c, p) ∷ w.hops) = (
      ap hop_in (step_here rs l x),
      omega (arith, borders, le),
      omega (arith, is, low, le),
      leads_more rs l x (border_of t rs) p w.hops (omega (arith, is, low, le)) (subst (λ (n : ℕ). Leads rs (border_of t rs) n w.hops) (sym is) w.leads),
    ) in
    let now : open_of t (said l x (tally rs)).opened ≡ record { lsn = l; transaction = t; change = c } ∷ open_of t (tally rs).opened =
    cond_true (a == t) (record { lsn = l; transaction = a; change = c } ∷ open_of t (tally rs).opened) (open_of t (tally rs).opened) (subst (λ (n : ℕ). (a == n) ≡ true) own (same_number a))
    ∙ ap (λ (n : ℕ). record { lsn = l; transaction = n; change = c } ∷ open_of t (tally rs).opened) own in
    record {
      hops = (Some c, p) ∷ w.hops;
      leads = subst (λ (n : ℕ). Leads (stepped rs l x) n (last_of t (stepped rs l x)) ((Some c, p) ∷ w.hops)) (sym border) (subst (λ (n : ℕ). Leads (stepped rs l x) (border_of t rs) n ((Some c, p) ∷ w.hops)) (sym last) leads);
      are = ap (λ (n : ℕ). hopped t n ((Some c, p) ∷ w.hops)) last ∙ (ap (λ (ds : List (Open Changing)). record { lsn = l; transaction = t; change = c } ∷ ds) (ap (λ (n : ℕ). hopped t n w.hops) is ∙ w.are) ∙ sym now);
    }
own_leads rs l t (TopEnd a p u n) f o le k own live more = at_border rs l t (TopEnd a p u n) refl own (subst (λ (m : ℕ). open_of m (open_not_of a (tally rs).opened) ≡ []) own (own_none a (tally rs).opened))
own_leads rs l t (PhysComp a p u c) f o le k own live more =
    let x : Step = PhysComp a p u c in
    let w = more live in
    let g = k (ap (λ (n : ℕ). is_in n (tally rs).live) own ∙ live) in
    let d : Open Changing = g.1.0 in
    let ds : List (Open Changing) = g.1.1 in
    let is : open_of t (tally rs).opened ≡ d ∷ ds = ap (λ (n : ℕ). open_of n (tally rs).opened) (sym own) ∙ g.1.2 in
    let undo : u ≡ next_off (border_of t rs) ds = g.1.3 ∙ ap (λ (n : ℕ). next_off (border_of n rs) ds) own in
    let r = off_first rs (border_of t rs) t (last_of t rs) w.hops d ds w.leads (w.are ∙ is) in
    let mine : Each (λ e. e.transaction ≡ t) (d ∷ ds) = subst (Each (λ e. e.transaction ≡ t)) is (own_of t (tally rs).opened) in
    let above = (taken rs f o).above in
    let over : Each (λ e. is_in e.transaction (tally rs).live ≡ true → border_of e.transaction rs < e.lsn) (d ∷ ds) = subst (Each (λ e. is_in e.transaction (tally rs).live ≡ true → border_of e.transaction rs < e.lsn)) is (each_filter (λ e. is_in e.transaction (tally rs).live ≡ true → border_of e.transaction rs < e.lsn) (λ e. e.transaction == t) (tally rs).opened above) in
    let border : border_of t rs < d.lsn = subst (λ (n : ℕ). border_of n rs < d.lsn) mine.0 (over.0 (subst (λ (n : ℕ). is_in n (tally rs).live ≡ true) (sym mine.0) live)) in
    let order : Pairs Behind (d ∷ ds) = subst (Pairs Behind) is (pairs_filter Behind (λ e. e.transaction == t) (tally rs).opened (sound rs f).order) in
    let lows : Each (λ e. e.lsn < next_lsn rs) (d ∷ ds) = subst (Each (λ e. e.lsn < next_lsn rs)) is (each_filter (λ e. e.lsn < next_lsn rs) (λ e. e.transaction == t) (tally rs).opened (sound rs f).opens) in
    let borders = (sound rs f).borders t in
    let less : u < l = subst (λ (n : ℕ). n < l) (sym undo) (next_less (border_of t rs) ds borders lows.1) in
    let now : open_of t (open_up_to a u (tally rs).opened) ≡ ds =
    ap (λ (n : ℕ). open_of t (open_up_to n u (tally rs).opened)) own ∙ (of_up_to t u (tally rs).opened ∙ (ap (open_up_to t u) is ∙ takes_first t u (border_of t rs) d ds order mine.0 border undo)) in
    let last : last_of t (stepped rs l x) ≡ l = sym (ap (λ (n : ℕ). last_of n (stepped rs l x)) own) ∙ last_here l x rs in
    let stays : border_of t (stepped rs l x) ≡ border_of t rs = border_stays l x rs t refl in
    let leads : Leads (stepped rs l x) (border_of t rs) l ((None, u) ∷ r.hops) = (
      ap hop_in (step_here rs l x),
      omega (arith, borders, le),
      less,
      leads_more rs l x (border_of t rs) u r.hops less (subst (λ (n : ℕ). Leads rs (border_of t rs) n r.hops) (sym undo) r.leads),
    ) in
    record {
      hops = (None, u) ∷ r.hops;
      leads = subst (λ (n : ℕ). Leads (stepped rs l x) n (last_of t (stepped rs l x)) ((None, u) ∷ r.hops)) (sym stays) (subst (λ (n : ℕ). Leads (stepped rs l x) (border_of t rs) n ((None, u) ∷ r.hops)) (sym last) leads);
      are = ap (λ (n : ℕ). hopped t n r.hops) undo ∙ (r.are ∙ sym now);
    }
  where
    next_less : (border : ℕ) (ds : List (Open Changing)) → border < next_lsn rs → Each (λ e. e.lsn < next_lsn rs) ds → next_off border ds < l
    next_less border [] low h = omega (arith, low, le)
    next_less border (d ∷ ds) low h = omega (arith, h.0, le)
own_leads rs l t (TopVoid a p u) f o le k own live more = at_border rs l t (TopVoid a p u) refl own (subst (λ (m : ℕ). open_of m (open_not_of a (tally rs).opened) ≡ []) own (own_none a (tally rs).opened))
own_leads rs l t (CompEnd a p u) f o le k own live more = at_border rs l t (CompEnd a p u) refl own (subst (λ (m : ℕ). open_of m (open_not_of a (tally rs).opened) ≡ []) own (own_none a (tally rs).opened))
own_leads rs l t (Save a p m) f o le k own live more = at_border rs l t (Save a p m) refl own (subst (λ (n : ℕ). open_of n (tally rs).opened ≡ []) own (k (ap (λ (n : ℕ). is_in n (tally rs).live) own ∙ live)).1)
own_leads rs l t (Commit a p) f o le k own live more = absurd (clash (is_in t (without a (tally rs).live)) (subst (λ (n : ℕ). is_in n (without a (tally rs).live) ≡ false) own (without_not a (tally rs).live)) live)
own_leads rs l t (End a p) f o le k own live more = absurd (clash (is_in t (without a (tally rs).live)) (subst (λ (n : ℕ). is_in n (without a (tally rs).live) ≡ false) own (without_not a (tally rs).live)) live)

other_leads : (rs : Steps) (l t : ℕ) (x : Step) → Formed rs → next_lsn rs ≤ l → t ≢ txn_of x → LeadsBack rs t → LeadsBack (stepped rs l x) t
other_leads rs l t x f le ne w =
    let low = last_low rs t f in
    let last : last_of t (stepped rs l x) ≡ last_of t rs = last_there l x rs t ne in
    let border : border_of t (stepped rs l x) ≡ border_of t rs = border_there l x rs t ne in
    record {
      hops = w.hops;
      leads = subst (λ (n : ℕ). Leads (stepped rs l x) n (last_of t (stepped rs l x)) w.hops) (sym border) (subst (λ (n : ℕ). Leads (stepped rs l x) (border_of t rs) n w.hops) (sym last) (leads_more rs l x (border_of t rs) (last_of t rs) w.hops (omega (arith, low, le)) w.leads));
      are = ap (λ (n : ℕ). hopped t n w.hops) last ∙ (w.are ∙ sym (other_open l x (tally rs) t ne));
    }

pub leads_back : (rs : Steps) (t : ℕ) → Formed rs → AreOwned rs → is_in t (tally rs).live ≡ true → LeadsBack rs t
leads_back [] t f o live = absurd (cc)
leads_back (r ∷ rs) t f o live = elim (cases_eq t (txn_of r.is)) [
  | inl e ↦ own_leads rs r.lsn t r.is f.2 o.1 f.0 f.1 (sym e) live (λ z. leads_back rs t f.2 o.1 z)
  | inr ne ↦ other_leads rs r.lsn t r.is f.2 f.0 ne (leads_back rs t f.2 o.1 (sym (other_live r.lsn r.is (tally rs) t ne) ∙ live))
]

-- a way over the steps before a record is one over all
leads_up : (rs : Steps) (at border from : ℕ) (x : Step) (hs : List Hop) → Formed rs → step_at rs at ≡ Some x → from < at → Leads (behind rs at) border from hs → Leads rs border from hs
leads_up [] at border from x hs f e low w = w
leads_up (r ∷ rs) at border from x hs f e low w = elim (cases_Bool (r.lsn == at)) [
  | inl is ↦
      let num : r.lsn ≡ at = number_is r.lsn at is in
      leads_more rs r.lsn r.is border from hs (omega (arith, low, num)) (subst (λ (ss : Steps). Leads ss border from hs) (cond_true (r.lsn == at) rs (behind rs at) is) w)
  | inr other ↦
      let there : step_at rs at ≡ Some x = sym (cond_false (r.lsn == at) (Some r.is) (step_at rs at) other) ∙ e in
      let less = at_low rs at x f.2 there in
      leads_more rs r.lsn r.is border from hs (omega (arith, low, less, f.0))
      (leads_up rs at border from x hs f.2 there low (subst (λ (ss : Steps). Leads ss border from hs) (cond_false (r.lsn == at) rs (behind rs at) other) w))
]

-- a record of a log behind a transaction's begin followed those before it
record FollowedBy (front : Steps) (at t : ℕ) (x : Step) : Type 0 where
  pub formed : Formed front
  pub owned : AreOwned front
  pub live : is_in t (said at x (tally front)).live ≡ true
  pub below : next_lsn front ≤ at
  pub follows : IsKnown (tally front) x → Follows front at x

followed : (rs : Steps) (at t : ℕ) (x : Step) → Formed rs → AreOwned rs → is_in t (tally rs).live ≡ true → t < at → step_at rs at ≡ Some x → FollowedBy (behind rs at) at t x
followed [] at t x f o live lt e = absurd (none_some x e)
followed (r ∷ rs) at t x f o live lt e = elim (cases_Bool (r.lsn == at)) [
  | inl is ↦
      let num : r.lsn ≡ at = number_is r.lsn at is in
      let same : r.is ≡ x = same_some r.is x (sym (cond_true (r.lsn == at) (Some r.is) (step_at rs at) is) ∙ e) in
      let front : rs ≡ behind (r ∷ rs) at = sym (cond_true (r.lsn == at) rs (behind rs at) is) in
      subst (λ (ss : Steps). FollowedBy ss at t x) front (subst (λ (y : Step). FollowedBy rs at t y) same (subst (λ (n : ℕ). FollowedBy rs n t r.is) num (record { formed = f.2; owned = o.1; live = live; below = f.0; follows = f.1 })))
  | inr other ↦
      let there : step_at rs at ≡ Some x = sym (cond_false (r.lsn == at) (Some r.is) (step_at rs at) other) ∙ e in
      let less : at < next_lsn rs = at_low rs at x f.2 there in
      let front : behind rs at ≡ behind (r ∷ rs) at = sym (cond_false (r.lsn == at) rs (behind rs at) other) in
      subst (λ (ss : Steps). FollowedBy ss at t x) front (followed rs at t x f.2 o.1 (was_live rs r.lsn t r.is f.0 f.1 (omega (arith, lt, less)) live) lt there)
]

-- OVER THE CHANGES OF A NOTE the way back goes from the record before the note's, down to where undoing goes on
pub record LeadsOver (rs : Steps) (at t prev undo_next : ℕ) : Type 0 where
  pub hops : List Hop
  pub leads : Leads rs undo_next prev hops
  pub are : hopped t prev hops ≡ open_of t (tally (behind rs at)).opened

pub leads_over : (rs : Steps) (at t p u : ℕ) (note : List ℕ) → Formed rs → AreOwned rs → is_in t (tally rs).live ≡ true → t < at → step_at rs at ≡ Some (TopEnd t p u note) → LeadsOver rs at t p u
leads_over rs at t p u note f o live lt e =
    let h = followed rs at t (TopEnd t p u note) f o live lt e in
    let k = h.follows h.live in
    let w = leads_back (behind rs at) t h.formed h.owned h.live in
    let low = last_low (behind rs at) t h.formed in
    record {
      hops = w.hops;
      leads = leads_up rs at u p (TopEnd t p u note) w.hops f e (omega (arith, low, k.0, h.below)) (subst (λ (n : ℕ). Leads (behind rs at) u n w.hops) (sym k.0) (subst (λ (n : ℕ). Leads (behind rs at) n (last_of t (behind rs at)) w.hops) (sym k.1) w.leads));
      are = ap (λ (n : ℕ). hopped t n w.hops) k.0 ∙ w.are;
    }
