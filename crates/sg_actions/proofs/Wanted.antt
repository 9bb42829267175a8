-- What an undo and a take-off read is behind the begin of a transaction that goes on, or an open change: a log whose front is cut off still has it.
use Rattle.std.proofs.Common.{◌≡◌, ◌≢◌, ℕ, ◌==◌, ◌<◌, ◌≤◌, nat_lt, cond, List, [], ◌∷◌, Option, Some, None, Bool, true, false, not, refl, sym, ap, subst, ◌∙◌, arith, inl, inr}
use Rattle.std.specs.Prelude.{◌&&◌, if◌then◌else◌}
use Rattle.std.proofs.lemmas.Bool.{cases_eq}
use Rattle.sg_alloc.specs.declared.maps.Maps.{Maps}
use Rattle.sg_record.specs.Changes.{Change as Changing}
use Rattle.sg_recovery.specs.Laws.{Each}
use Rattle.sg_recovery.specs.Log.{Open, said, tally, is_in, without, open_of, notes_of, changes_of}
use Rattle.sg_recovery.specs.Log.Record.{Begin, Change, TopEnd, PhysComp, TopVoid, CompEnd, Save, Commit, End}
use Rattle.sg_recovery.specs.Chains.{border_of, next_lsn, Formed, Follows, IsKnown}
use Rattle.sg_recovery.proofs.Basic.{each_filter, each_kept, number_is, or_cases}
use Rattle.sg_recovery.proofs.Chaining.{border_up, clash, sound}
use Rattle.sg_recovery.proofs.Showing.{without_not, without_same}
use Rattle.sg_action.specs.States.{State}
use Rattle.sg_ops.specs.Table.{Table}
use Rattle.sg_actions.specs.Counts.{Note}
use Rattle.sg_actions.specs.Cutting.{HasWanted}
use Rattle.sg_actions.specs.Engine.{EngineView}
use Rattle.sg_actions.specs.PuttingBack.{IsOwnWay}
use Rattle.sg_actions.specs.Steps.{Step, Steps, stepped}
use Rattle.sg_actions.specs.Undoing.{Hop, Leads, first_behind, HasFound, IsUndoable}
use Rattle.sg_actions.specs.declared.rows.Actor.{Actor}
use Rattle.sg_actions.specs.declared.rows.Row.{Row}
use Rattle.sg_actions.specs.declared.undo.Found.{Found}
use Rattle.sg_actions.proofs.Chained.{border_here, no_zero}
use Rattle.sg_actions.proofs.PuttingBack.{OnWay}
use Rattle.sg_actions.proofs.Walking.{none_some, same_some}

in_without : (a t : ℕ) (live : List ℕ) → is_in t (without a live) ≡ true → is_in t live ≡ true
in_without a t live h = elim (cases_eq t a) [
  | inl e ↦ absurd (clash (is_in t (without a live)) (subst (λ (n : ℕ). is_in n (without a live) ≡ false) (sym e) (without_not a live)) h)
  | inr ne ↦ sym (without_same a t live ne) ∙ h
]

-- A TRANSACTION'S LAST BORDER isn't before its begin, while it goes on
up : (rs : Steps) (t l : ℕ) (x : Step) → Formed rs → next_lsn rs ≤ l → t ≤ border_of t rs → t ≤ border_of t (stepped rs l x)
up rs t l x f le h = let b = border_up l x rs t ((sound rs f).borders t) le in omega (arith, b, h)

high : (rs : Steps) (t l : ℕ) (x : Step) → Formed rs → next_lsn rs ≤ l → (IsKnown (tally rs) x → Follows rs l x) → (is_in t (tally rs).live ≡ true → t ≤ border_of t rs) → is_in t (said l x (tally rs)).live ≡ true
    → t ≤ border_of t (stepped rs l x)
high rs t l (Begin a p) f le k more live = or_cases (a == t) (is_in t (tally rs).live) (t ≤ border_of t (stepped rs l (Begin a p))) live
    (λ e.
    let own : a ≡ t = number_is a t e in
    let at : a ≡ l = (k tt).0 in
    let here : border_of t (stepped rs l (Begin a p)) ≡ l = ap (λ (n : ℕ). border_of n (stepped rs l (Begin a p))) (sym own) ∙ border_here l (Begin a p) rs refl in
    omega (arith, own, at, here))
    (λ e. up rs t l (Begin a p) f le (more e))
high rs t l (Change a p c) f le k more live = up rs t l (Change a p c) f le (more live)
high rs t l (TopEnd a p u n) f le k more live = up rs t l (TopEnd a p u n) f le (more live)
high rs t l (PhysComp a p u c) f le k more live = up rs t l (PhysComp a p u c) f le (more live)
high rs t l (TopVoid a p u) f le k more live = up rs t l (TopVoid a p u) f le (more live)
high rs t l (CompEnd a p u) f le k more live = up rs t l (CompEnd a p u) f le (more live)
high rs t l (Save a p m) f le k more live = up rs t l (Save a p m) f le (more live)
high rs t l (Commit a p) f le k more live = up rs t l (Commit a p) f le (more (in_without a t (tally rs).live live))
high rs t l (End a p) f le k more live = up rs t l (End a p) f le (more (in_without a t (tally rs).live live))

border_high : (t : ℕ) (rs : Steps) → Formed rs → is_in t (tally rs).live ≡ true → t ≤ border_of t rs
border_high t [] f live = absurd (cc)
border_high t (r ∷ rs) f live = high rs t r.lsn r.is f.2 f.0 f.1 (border_high t rs f.2) live

-- so undoing doesn't go on before it behind a note,
notes_high : (rs : Steps) → Formed rs → Each (λ n. n.transaction ≤ n.undo_next) (tally rs).notes
notes_high [] f = tt
notes_high (r ∷ rs) f = by r.is f.1 (notes_high rs f.2)
  where
    by : (x : Step) → (IsKnown (tally rs) x → Follows rs r.lsn x) → Each (λ n. n.transaction ≤ n.undo_next) (tally rs).notes → Each (λ n. n.transaction ≤ n.undo_next) (said r.lsn x (tally rs)).notes
    by (Begin t p) k h = h
    by (Change t p c) k h = h
    by (TopEnd t p u n) k h = by_live (is_in t (tally rs).live) refl
      where
        by_live : (b : Bool) → is_in t (tally rs).live ≡ b
            → Each (λ n. n.transaction ≤ n.undo_next) (cond b (record { lsn = r.lsn; transaction = t; undo_next = u; note = n; changes = changes_of (open_of t (tally rs).opened) } ∷ (tally rs).notes) (tally rs).notes)
        by_live true e = (let b = border_high t rs f.2 e in let is = (k e).1 in omega (arith, b, is), h)
        by_live false e = h
    by (PhysComp t p u c) k h = h
    by (TopVoid t p u) k h = h
    by (CompEnd t p u) k h = each_filter (λ n. n.transaction ≤ n.undo_next) (λ n. not (n.transaction == t && nat_lt u n.lsn)) (tally rs).notes h
    by (Save t p m) k h = h
    by (Commit t p) k h = each_filter (λ n. n.transaction ≤ n.undo_next) (λ n. not (n.transaction == t)) (tally rs).notes h
    by (End t p) k h = each_filter (λ n. n.transaction ≤ n.undo_next) (λ n. not (n.transaction == t)) (tally rs).notes h

-- also behind the one that is undone next
behind_high : (t stop : ℕ) (ns : List Note) (n : Note) → Each (λ m. t ≤ m.undo_next) ns → first_behind stop ns ≡ Some n → t ≤ n.undo_next
behind_high t stop [] n h e = absurd (none_some n e)
behind_high t stop (m ∷ ns) n h e = by (nat_lt stop m.lsn) e
  where
    by : (b : Bool) → (if b then Some m else None) ≡ Some n → t ≤ n.undo_next
    by true k = subst (λ (o : Note). t ≤ o.undo_next) (same_some m n k) h.0
    by false k = absurd (none_some n k)

own_high : (rs : Steps) (t : ℕ) → Formed rs → Each (λ m. t ≤ m.undo_next) (notes_of t (tally rs).notes)
own_high rs t f = each_kept (λ n. n.transaction ≤ n.undo_next) (λ m. t ≤ m.undo_next) (λ m. m.transaction == t) (tally rs).notes
    (λ m h e. subst (λ (u : ℕ). u ≤ m.undo_next) (number_is m.transaction t e) h) (notes_high rs f)

-- WHERE THE WAY BACK over a note's action ends
pub way_is_own : {base : ℕ} {rs : Steps} {tail : ℕ} {unfreed : Maps} {rows : List Row} {actor : Actor} {txn stop : ℕ} {note : List ℕ} {f : Found} (mid : Actor) → IsUndoable base rs tail unfreed rows actor txn stop → HasFound rs txn stop note f → mid.txn.0 ≡ txn
    → IsOwnWay mid f.undo_next
way_is_own {base} {rs} {tail} {unfreed} {rows} {actor} {txn} {stop} {note} {f} mid u h who =
    let low : txn ≤ h.n.undo_next = behind_high txn stop (notes_of txn (tally rs).notes) h.n (own_high rs txn u.chain.running.log.chained) h.next in
    let is = h.undo_next in
    (λ zero. no_zero rs txn u.chain.running.system u.live (sym who ∙ zero), omega (arith, low, is, who))

-- THE FIRST BYTE IS BEFORE each record that is read: of a transaction that goes on,
pub kept_live : {start : ℕ} {rs : Steps} (u at : ℕ) → HasWanted start rs → is_in u (tally rs).live ≡ true → u ≤ at → start ≤ at
kept_live {start} {rs} u at w live le = let low = w.begun u live in omega (arith, low, le)

-- on the way back over an action,
pub way_above : (outside : ℕ) (t : Table) (e e' : EngineView) (txn to at : ℕ) (goal : State) → at ≢ to → OnWay outside t e e' txn to at goal → to < at
way_above outside t e e' txn to at goal ne w = by w.hops w.leads
  where
    by : (hs : List Hop) → Leads e.steps to at hs → to < at
    by [] l = absurd (ne l)
    by (h ∷ hs) l = l.1

-- and the one that is taken off
pub kept_open : {start : ℕ} {rs : Steps} (d : Open Changing) (ds : List (Open Changing)) (at : ℕ) → HasWanted start rs → (tally rs).opened ≡ d ∷ ds → at ≡ d.lsn → start ≤ at
kept_open {start} {rs} d ds at w is here =
    let each : Each (λ (o : Open Changing). start ≤ o.lsn) (d ∷ ds) = subst (Each (λ (o : Open Changing). start ≤ o.lsn)) is w.opened in
    let low = each.0 in omega (arith, low, here)
