-- The table of locks gives what the laws of the log ask.
use Rattle.std.proofs.Common.{◌≡◌, ℕ, Bool, true, false, List, None, refl, sym, ◌∙◌, subst}
use Rattle.std.specs.Prelude.{◌||◌}
use Rattle.sg_serial.specs.Locks.{Touch, Hold, reads, writes, held_of, released, first_holder, hold_all}
use Rattle.sg_serial.proofs.Free.{free_of_none}
use Rattle.sg_serial.proofs.Holding.{writes_merge, any-hold_all, held-hold_all, held-released_other}
use Rattle.sg_serial.proofs.Kept.{and_true}
use Rattle.sg_serial.proofs.Commute.{any_more}
use Rattle.sg_ops.specs.Table.{Table as Operations}
use Rattle.sg_model.specs.Touches.{Cell, Resource, same_resource, covers, conflict}
use Rattle.sg_model.proofs.Meeting.{conflict_law, resource_same}
use Rattle.sg_recovery.specs.Runs.{IsGranted, Locks}
use Rattle.sg_store.specs.Ground.{Ground, setting, are_written, are_covered}

pub not_written : (ts : List (Touch Resource)) (c : Cell) → are_covered ts c ≡ false → are_written ts c ≡ false
not_written ts c h = go (are_written ts c) refl
  where
    go : (b : Bool) → are_written ts c ≡ b → b ≡ false
    go true w = sym (any_more (writes covers) (reads covers) ts c (λ a x. (and_true a.write (covers a.what c) x).1) w) ∙ h
    go false w = refl

-- where no holder is in the way, the verb is granted
pub granted : (t : Operations) (g : Ground) (hs : List (Hold Resource)) (live : List ℕ) (by : ℕ) (v : g.V) → first_holder conflict by (g.touched v) hs ≡ None → IsGranted (setting t g) (held_of hs) live by v
granted t g hs live by v none u is ne c h =
    let clear : are_covered (g.touched v) c ≡ false = (free_of_none covers conflict conflict_law hs by (g.touched v) none u ne).0 c h in
    both (are_covered (g.touched v) c) (are_written (g.touched v) c) clear (not_written (g.touched v) c clear)
  where
    both : (a b : Bool) → a ≡ false → b ≡ false → (a || b) ≡ false
    both true b x y = x
    both false b x y = y

-- what others hold in the way of nothing, they hold so once the transaction holds more itself
pub granted_locked : (t : Operations) (g : Ground) (hs : List (Hold Resource)) (live : List ℕ) (by : ℕ) (v : g.V) → first_holder conflict by (g.touched v) hs ≡ None
    → IsGranted (setting t g) (held_of (hold_all same_resource by (g.touched v) hs)) live by v
granted_locked t g hs live by v none u is ne = subst (λ w. (setting t g).Clear v w) (sym (held-hold_all same_resource by (g.touched v) hs u ne)) (granted t g hs live by v none u is ne)

-- a transaction that was granted something holds it beside all that it held, and the others hold what they held
pub locked : (t : Operations) (g : Ground) (hs : List (Hold Resource)) (by : ℕ) (ts : List (Touch Resource)) → Locks (setting t g) by (held_of hs) (held_of (hold_all same_resource by ts hs))
locked t g hs by ts = record {
  others = λ u ne. held-hold_all same_resource by ts hs u ne;
  more = λ p h c x. any-hold_all same_resource resource_same (writes covers) (writes_merge covers) by ts hs c ∙ one (are_written (held_of hs by) c) (are_written ts c) (h c x);
}
  where
    one : (a b : Bool) → a ≡ true → (a || b) ≡ true
    one true b h = refl
    one false b h = absurd (cc)

pub within_held : (t : Operations) (g : Ground) (hs : List (Hold Resource)) (by : ℕ) (ts : List (Touch Resource)) → (setting t g).Within ts (held_of (hold_all same_resource by ts hs) by)
within_held t g hs by ts c x = any-hold_all same_resource resource_same (writes covers) (writes_merge covers) by ts hs c ∙ two (are_written (held_of hs by) c) (are_written ts c) x
  where
    two : (a b : Bool) → b ≡ true → (a || b) ≡ true
    two true b h = refl
    two false b h = h

pub others_hold : (hs : List (Hold Resource)) (by u : ℕ) → (u ≡ by → ⊥) → held_of (released by hs) u ≡ held_of hs u
others_hold hs by u ne = held-released_other by hs u ne
