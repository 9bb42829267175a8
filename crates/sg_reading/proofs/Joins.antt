-- How the lock table, freeing and the undo of operations meet the laws.
use Rattle.std.proofs.Common.{◌≡◌, ℕ, Bool, true, false, cond, not, List, [], ◌∷◌, Option, Some, None, Ok, Err, refl, sym, ap, ◌∙◌, subst}
use Rattle.std.specs.Prelude.{◌||◌, ◌&&◌}
use Rattle.std.specs.Str.{bytes_eq}
use Rattle.sg_serial.specs.Machine.{any_touch}
use Rattle.sg_serial.specs.Locks.{Touch, Hold, reads, writes, held_of, first_holder, hold_all}
use Rattle.sg_serial.proofs.Free.{free_of_none}
use Rattle.sg_serial.proofs.Holding.{writes_merge, any-hold_all, held-hold_all}
use Rattle.sg_ops.specs.Table.{Table as Operations, record_at}
use Rattle.sg_ops.specs.Meaning.{RecordMeaning}
use Rattle.sg_model.specs.Verb.{Reply, Outcome}
use Rattle.sg_model.specs.Touches.{Part, Cell, Resource, same_part, same_resource, covers, conflict, seen}
use Rattle.sg_model.specs.Touches.Part.{Kind, Length, Item, Key, Body, Buried}
use Rattle.sg_model.specs.Touches.Region.{Everything}
use Rattle.sg_model.specs.Touches.Resource.{Of}
use Rattle.sg_model.proofs.Parts.{bytes_same}
use Rattle.sg_model.proofs.Meeting.{conflict_law, resource_same}
use Rattle.sg_serial.proofs.Kept.{and_true}
use Rattle.sg_serial.proofs.Commute.{any_more}
use Rattle.sg_model.specs.Verb.Reply.{Done}
use Rattle.sg_model.specs.declared.reason.Reason.TheVariants.{Declined}
use Rattle.sg_recovery.specs.Cells.{setting_of}
use Rattle.sg_recovery.specs.Runs.{IsGranted, Locks}
use Rattle.sg_recovery.proofs.Basic.{or_left, or_right}
use Rattle.sg_reading.specs.Reading.{Reading, plain, Slot, slot, bared_tomb, shown, at}
use Rattle.sg_reading.specs.Back.{without_tomb, undone_by}
use Rattle.sg_reading.specs.Did.{Did}
use Rattle.sg_reading.specs.Model.{Ground, is_tomb, model_cells}
use Rattle.sg_reading.specs.Noted.{AreUndone}
use Rattle.sg_reading.specs.Left.{tomb_cell}
use Rattle.sg_reading.specs.Possible.{IsAfter}
use Rattle.sg_reading.proofs.Notes.{never, after}
use Rattle.sg_reading.proofs.Slotted.{slot_tomb}
use Rattle.sg_reading.proofs.Undone.{unapplied, law_of}
use Rattle.sg_base.specs.Bytes.{IsBytes}

-- LOCKS: where the lock table names no holder in conflict, the verb is granted in the sense of the log's laws

no_touch : (ts : List (Touch Resource)) (c : Cell) → any_touch (reads covers) ts c ≡ false → any_touch (writes covers) ts c ≡ false
no_touch ts c h = go (any_touch (writes covers) ts c) refl
  where
    go : (b : Bool) → any_touch (writes covers) ts c ≡ b → b ≡ false
    go true w = never (sym h ∙ any_more (writes covers) (reads covers) ts c (λ a x. (and_true a.write (covers a.what c) x).1) w)
    go false w = refl

pub granted : (t : Operations) (g : Ground) (hs : List (Hold Resource)) (live : List ℕ) (by : ℕ) (d : Did) → first_holder conflict by d.touches hs ≡ None → IsGranted (setting_of (model_cells t g)) (held_of hs) live by d
granted t g hs live by d none u is ne c h =
    let clear = (free_of_none covers conflict conflict_law hs by d.touches none u ne).0 c h in
    both (any_touch (reads covers) d.touches c) (any_touch (writes covers) d.touches c) clear (no_touch d.touches c clear)
  where
    both : (a b : Bool) → a ≡ false → b ≡ false → (a || b) ≡ false
    both true b x y = x
    both false b x y = y

-- FREEING: without a tombstone, the reading is the same but in the tombstone's cell
pub is_freed : (t : Operations) (g : Ground) (o : Reading) (n : List ℕ) (r : ℕ) → (setting_of (model_cells t g)).Freed (tomb_cell n r) o (without_tomb o n (Some r))
is_freed t g o n r = ((λ c z. go c (bytes_eq n c.name) refl (one (bytes_eq n c.name && same_part (Buried r) c.part) z)), (λ c z. tomb c.part (and_true (bytes_eq n c.name) (same_part (Buried r) c.part) (one_true (bytes_eq n c.name && same_part (Buried r) c.part) z)).1))
  where
    one : (b : Bool) → (b || false) ≡ false → b ≡ false
    one true h = h
    one false h = refl

    one_true : (b : Bool) → (b || false) ≡ true → b ≡ true
    one_true true h = refl
    one_true false h = h

    tomb : (p : Part) → same_part (Buried r) p ≡ true → not (is_tomb p) ≡ false
    tomb (Buried q) h = refl
    tomb Kind h = never h
    tomb Length h = never h
    tomb (Item i) h = never h
    tomb (Key k) h = never h
    tomb Body h = never h

    here : (s : Slot) (p : Part) → same_part (Buried r) p ≡ false → shown (after (Some r) s s.thing) p ≡ shown s p
    here s Kind h = refl
    here s Length h = refl
    here s (Item i) h = refl
    here s (Key k) h = refl
    here s Body h = refl
    here s (Buried q) h = λ i. record { sort = seen (plain s.thing) Kind; value = tt; extra = ap (λ b. bared_tomb (cond b None (s.buried q))) h i }

    go : (c : Cell) (b : Bool) → bytes_eq n c.name ≡ b → (bytes_eq n c.name && same_part (Buried r) c.part) ≡ false → at (without_tomb o n (Some r)) c ≡ at o c
    go c true e z = ap (λ s. shown s c.part) (slot_tomb o n (Some r) c.name ∙ ap (λ b. cond b (after (Some r) (slot o n) (slot o n).thing) (slot o c.name)) e)
        ∙ (here (slot o n) c.part (sym (ap (λ b. b && same_part (Buried r) c.part) e) ∙ z) ∙ ap (λ m. shown (slot o m) c.part) (bytes_same n c.name e))
    go c false e z = ap (λ s. shown s c.part) (slot_tomb o n (Some r) c.name ∙ ap (λ b. cond b (after (Some r) (slot o n) (slot o n).thing) (slot o c.name)) e)

-- APPLY: that the item is `after` of an accepted item is what the test says
pub apply_can : (t : Operations) → AreUndone t → (code : ℕ) (m : RecordMeaning) → record_at t code ≡ Some m → (arg item : List ℕ) → IsBytes arg → (k : IsAfter m arg item) → undone_by arg item (Some m) ≡ (Ok Done, Some k.0)
apply_can t law code m is arg item bytes k = subst (λ x. undone_by arg x (Some m) ≡ (Ok Done, Some k.0)) k.3 (unapplied m arg k.0 k.2 ((law_of t law code m is).undoes k.0 arg k.1 bytes k.2))

pub apply_was : (m : RecordMeaning) (arg item : List ℕ) (r : Reply) → IsBytes (m.before item arg) → (undone_by arg item (Some m)).0 ≡ Ok r → IsAfter m arg item
apply_was m arg item r bytes = go (m.accepts (m.before item arg) arg) (bytes_eq (m.after (m.before item arg) arg) item) refl refl
  where
    go : (a b : Bool) → m.accepts (m.before item arg) arg ≡ a → bytes_eq (m.after (m.before item arg) arg) item ≡ b
        → (cond {A = Outcome × Option (List ℕ)} (a && b) (Ok Done, Some (m.before item arg)) (Err Declined, None)).0 ≡ Ok r → IsAfter m arg item
    go true true e f h = (m.before item arg, bytes, e, bytes_same (m.after (m.before item arg) arg) item f)
    go true false e f h = absurd (cc)
    go false b e f h = absurd (cc)

-- what a transaction holds once it was granted these touches: all that it held, and these; the others hold what they held
pub locked : (t : Operations) (g : Ground) (hs : List (Hold Resource)) (by : ℕ) (ts : List (Touch Resource)) → Locks (setting_of (model_cells t g)) by (held_of hs) (held_of (hold_all same_resource by ts hs))
locked t g hs by ts = record {
  others = λ u ne. held-hold_all same_resource by ts hs u ne;
  more = λ p h c x. any-hold_all same_resource resource_same (writes covers) (writes_merge covers) by ts hs c ∙ or_left (any_touch (writes covers) (held_of hs by) c) (any_touch (writes covers) ts c) (h c x);
}

pub within_held : (t : Operations) (g : Ground) (hs : List (Hold Resource)) (by : ℕ) (ts : List (Touch Resource)) → (setting_of (model_cells t g)).Within ts (held_of (hold_all same_resource by ts hs) by)
within_held t g hs by ts c x = any-hold_all same_resource resource_same (writes covers) (writes_merge covers) by ts hs c ∙ or_right (any_touch (writes covers) (held_of hs by) c) (any_touch (writes covers) ts c) x

-- a tombstone's cell is apart from what another holds while its dropper holds all of its name
pub apart_held : (t : Operations) (g : Ground) (hs : List (Hold Resource)) (by u : ℕ) (n : List ℕ) (r : ℕ) → (u ≡ by → ⊥) → first_holder conflict by (record { what = Of n Everything; write = true } ∷ []) hs ≡ None
    → (setting_of (model_cells t g)).Apart (tomb_cell n r) (held_of hs u)
apart_held t g hs by u n r ne none c h =
    let clear = (free_of_none covers conflict conflict_law hs by (record { what = Of n Everything; write = true } ∷ []) none u ne).0 c h in
    go (bytes_eq n c.name) (same_part (Buried r) c.part) clear
  where
    go : (a b : Bool) → ((a && true) || false) ≡ false → ((a && b) || false) ≡ false
    go true b h = never (sym h)
    go false b h = refl
