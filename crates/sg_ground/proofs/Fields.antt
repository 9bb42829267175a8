-- THE FIELDS OF A NOTE that an accepted verb left are in their ranges.
use Rattle.std.proofs.Common.{◌≡◌, ℕ, zero, suc, ◌<◌, ◌≤◌, ◌^◌, ◌==◌, Bool, true, false, cond, inl, inr, List, [], ◌∷◌, length, slice_get, Option, Some, None, option_map, Ok, Err, refl, sym, ap, subst, arith}
use Rattle.std.specs.Prelude.{if◌then◌else◌, nat_lt}
use Rattle.std.specs.FinMap.{get}
use Rattle.std.proofs.lemmas.Bool.{ltb-true, ltb-false}
use Rattle.sg_ops.specs.Table.{Table as Operations, record_at}
use Rattle.sg_catalog.specs.Catalog.{rows, filled, row_at, there, is_there}
use Rattle.sg_catalog.specs.declared.row.ObjectKind.{ObjectKind}
use Rattle.sg_catalog.specs.declared.row.ObjectKind.TheVariants as kinds
use Rattle.sg_catalog.specs.declared.row.Row.{Row}
use Rattle.sg_model.specs.Objects.{Row as Items, Entries}
use Rattle.sg_model.specs.Objects.Object.{Array, Table, Blob}
use Rattle.sg_model.specs.Step.{on, apply, at_found, done_by, record_named, at_key, put_value, del_value, Update, updated}
use Rattle.sg_model.specs.declared.reason.Reason.TheVariants.{OutOfRange, TooLong}
use Rattle.sg_model.specs.Verb.{Verb, Outcome, Reply}
use Rattle.sg_model.specs.Verb.Verb.{MakeArray, MakeTable, MakeBlob, Discard, Push, Pop, Set, Get, Len, Apply, Put, Del, Find, Keys, Write, Read, Size, Paint}
use Rattle.sg_space.specs.View.{Space}
use Rattle.sg_reading.specs.Reading.{Thing, plain}
use Rattle.sg_reading.specs.Reading.Thing.{There}
use Rattle.sg_reading.specs.Back.Undoing.{WasNothing}
use Rattle.sg_reading.specs.Noted.{noted, noted_last, noted_popped, noted_item, noted_put, noted_del}
use Rattle.sg_contents.specs.Standing.{Body, Contents, IsBody, IsAmong, IsContents}
use Rattle.sg_contents.specs.Standing.Body.{AnArray, ATable, ABlob}
use Rattle.sg_contents.specs.Meaning.{thing_of, thing_at, reading}
use Rattle.sg_contents.proofs.Among.{found_among}
use Rattle.sg_contents.proofs.Reading.{get_thing}
use Rattle.sg_objects.specs.Notes.{AreFields}

-- what a note of a thing may say fits its fields
abbrev IsSmall : Thing → Type 0
IsSmall (There (Array row) w) = (length row.items ≤ 1048576) × (w.root < 2 ^ 32)
IsSmall (There (Table m) w) = w.root < 2 ^ 32
IsSmall (There (Blob x) w) = (length x ≤ 16384000) × (w.root < 2 ^ 32)

abbrev IsSmallAt : Option Thing → Type 0
IsSmallAt None = Unit {0}
IsSmallAt (Some th) = IsSmall th

body_small : (space : Space) (kind : ObjectKind) (root : ℕ) (b : Body) → IsBody space kind root b → root < 2 ^ 32 → IsSmall (thing_of root b)
body_small space kinds.Array root (AnArray a) h fit = (let l = h.built.limits in let x = l.below_peak in let y = l.few in (let z : length a.items ≤ 1048576 = omega (arith, x, y) in z), fit)
body_small space kinds.Table root (ATable t) h fit = fit
body_small space kinds.Blob root (ABlob b) h fit = (let x = h.raw.below_peak in let y = h.raw.few in (let z : length b.bytes ≤ 16384000 = omega (arith, x, y) in z), fit)
body_small space kinds.Array root (ATable t) h fit = absurd h
body_small space kinds.Array root (ABlob b) h fit = absurd h
body_small space kinds.Table root (AnArray a) h fit = absurd h
body_small space kinds.Table root (ABlob b) h fit = absurd h
body_small space kinds.Blob root (AnArray a) h fit = absurd h
body_small space kinds.Blob root (ATable t) h fit = absurd h

-- a row has a place
placed : (places : List (Option Row)) (row : Row) → IsAmong (filled places) row → (i : ℕ) × (row_at places i ≡ Some row)
placed [] row a = absurd a
placed (None ∷ ps) row a = let r = placed ps row a in (suc r.0, r.1)
placed (Some x ∷ ps) row (inl e) = (0, ap Some (sym e))
placed (Some x ∷ ps) row (inr a) = let r = placed ps row a in (suc r.0, r.1)

small_at : (space : Space) (s : Contents) → IsContents space s → (name : List ℕ) → IsSmallAt (get (reading s).things name)
small_at space s h name = subst IsSmallAt (sym (get_thing s name)) (go (there name (rows s.catalog)) refl)
  where
    go : (o : Option Row) → there name (rows s.catalog) ≡ o → IsSmallAt (option_map (thing_at s.body) o)
    go None e = tt
    go (Some row) e =
        let among = found_among (is_there name) (rows s.catalog) row e in
        let p = placed s.catalog.places row among in
        body_small space row.kind row.root.0 (s.body row.root.0) (h.body row among) (h.catalog.raw.formed p.0 row p.1).root

below : (xs : List (List ℕ)) (i : ℕ) (x : List ℕ) → slice_get xs i ≡ Some x → i < length xs
below [] i x e = absurd (cc)
below (y ∷ xs) zero x e = omega arith
below (y ∷ xs) (suc i) x e = let h = below xs i x e in omega (arith, h)

last_fields : (n : ℕ) (row : Items) → (noted_last n row ≡ WasNothing → ⊥) → AreFields (noted_last n row)
last_fields zero row some = absurd (some refl)
last_fields (suc n) row some = go (slice_get row.items n) some
  where
    go : (o : Option (List ℕ)) → (noted_popped o ≡ WasNothing → ⊥) → AreFields (noted_popped o)
    go None some = absurd (some refl)
    go (Some item) some = tt

item_fields : (row : Items) (i : ℕ) → length row.items ≤ 1048576 → (o : Option (List ℕ)) → slice_get row.items i ≡ o → (noted_item i o ≡ WasNothing → ⊥) → AreFields (noted_item i o)
item_fields row i few None e some = absurd (some refl)
item_fields row i few (Some item) e some = let h = below row.items i item e in omega (arith, h, few)

-- an accepted application is one of an item that is there, by a code of 16 bits
done_code : (t : Operations) (code : ℕ) (arg item : List ℕ) (reply : Reply) → (done_by arg item (record_named t code)).0 ≡ Ok reply → code < 2 ^ 16
done_code t code arg item reply = go (nat_lt code 65536) refl
  where
    go : (b : Bool) → nat_lt code 65536 ≡ b → (done_by arg item (if b then record_at t code else None)).0 ≡ Ok reply → code < 2 ^ 16
    go true e h = (let l = ltb-true code 65536 e in omega (arith, l))
    go false e h = absurd (let k : ◌≡◌ {A = Outcome} (Err _) (Ok reply) = h in cc)

apply_fields : (t : Operations) (row : Items) (i code : ℕ) (arg : List ℕ) (reply : Reply) → length row.items ≤ 1048576 → (apply t i code arg row).0 ≡ Ok reply → (i < 2 ^ 32) × (code < 2 ^ 16)
apply_fields t row i code arg reply few = by (nat_lt 256 (length arg))
  where
    at : (o : Option (List ℕ)) → slice_get row.items i ≡ o → (at_found i (λ size item. done_by arg item (record_named t code)) row o).0 ≡ Ok reply → (i < 2 ^ 32) × (code < 2 ^ 16)
    at None e h = absurd (let k : ◌≡◌ {A = Outcome} (Err _) (Ok reply) = h in cc)
    at (Some item) e h = ((let b = below row.items i item e in let z : i < 2 ^ 32 = omega (arith, b, few) in z), done_code t code arg item reply h)

    by : (b : Bool) → (cond {A = Outcome × Items} b (Err TooLong, row) (at_found i (λ size item. done_by arg item (record_named t code)) row (slice_get row.items i))).0 ≡ Ok reply → (i < 2 ^ 32) × (code < 2 ^ 16)
    by true h = absurd (let k : ◌≡◌ {A = Outcome} (Err TooLong) (Ok reply) = h in cc)
    by false h = at (slice_get row.items i) refl h

-- and one of a key is of one that is short
key_short : (key : List ℕ) (decide : Option (List ℕ) → Outcome × Update) (m : Entries) (reply : Reply) → (at_key key decide m).0 ≡ Ok reply → length key < 256
key_short key decide m reply = by (length key == 0)
  where
    found : Outcome × Entries
    found = ((decide (get m key)).0, updated m key (decide (get m key)).1)

    go : (b : Bool) → nat_lt 128 (length key) ≡ b → (cond {A = Outcome × Entries} b (Err TooLong, m) found).0 ≡ Ok reply → length key < 256
    go true e h = absurd (let k : ◌≡◌ {A = Outcome} (Err TooLong) (Ok reply) = h in cc)
    go false e h = (let l = ltb-false 128 (length key) e in omega (arith, l))

    by : (b : Bool) → (cond {A = Outcome × Entries} b (Err OutOfRange, m) (cond {A = Outcome × Entries} (nat_lt 128 (length key)) (Err TooLong, m) found)).0 ≡ Ok reply → length key < 256
    by true h = absurd (let k : ◌≡◌ {A = Outcome} (Err OutOfRange) (Ok reply) = h in cc)
    by false h = go (nat_lt 128 (length key)) refl h

put_fields : (k : List ℕ) (o : Option (List ℕ)) → length k < 256 → AreFields (noted_put k o)
put_fields k None short = tt
put_fields k (Some old) short = short

del_fields : (k : List ℕ) (o : Option (List ℕ)) → length k < 256 → (noted_del k o ≡ WasNothing → ⊥) → AreFields (noted_del k o)
del_fields k None short some = absurd (some refl)
del_fields k (Some old) short some = short

fields : (t : Operations) (verb : Verb) (th : Option Thing) (reply : Reply) → IsSmallAt th → (on t verb (plain th)).0 ≡ Ok reply → (noted verb th ≡ WasNothing → ⊥) → AreFields (noted verb th)
fields t (MakeArray size) None reply small said some = tt
fields t (MakeArray size) (Some (There (Array row) w)) reply small said some = absurd (some refl)
fields t (MakeArray size) (Some (There (Table m) w)) reply small said some = absurd (some refl)
fields t (MakeArray size) (Some (There (Blob x) w)) reply small said some = absurd (some refl)
fields t MakeTable None reply small said some = tt
fields t MakeTable (Some (There (Array row) w)) reply small said some = absurd (some refl)
fields t MakeTable (Some (There (Table m) w)) reply small said some = absurd (some refl)
fields t MakeTable (Some (There (Blob x) w)) reply small said some = absurd (some refl)
fields t MakeBlob None reply small said some = tt
fields t MakeBlob (Some (There (Array row) w)) reply small said some = absurd (some refl)
fields t MakeBlob (Some (There (Table m) w)) reply small said some = absurd (some refl)
fields t MakeBlob (Some (There (Blob x) w)) reply small said some = absurd (some refl)
fields t Discard None reply small said some = tt
fields t Discard (Some (There (Array row) w)) reply small said some = small.1
fields t Discard (Some (There (Table m) w)) reply small said some = small
fields t Discard (Some (There (Blob x) w)) reply small said some = small.1
fields t (Push value) None reply small said some = tt
fields t (Push value) (Some (There (Array row) w)) reply small said some = tt
fields t (Push value) (Some (There (Table m) w)) reply small said some = tt
fields t (Push value) (Some (There (Blob x) w)) reply small said some = tt
fields t Pop None reply small said some = tt
fields t Pop (Some (There (Array row) w)) reply small said some = last_fields (length row.items) row some
fields t Pop (Some (There (Table m) w)) reply small said some = absurd (some refl)
fields t Pop (Some (There (Blob x) w)) reply small said some = absurd (some refl)
fields t (Set i v) None reply small said some = tt
fields t (Set i v) (Some (There (Array row) w)) reply small said some = item_fields row i small.0 (slice_get row.items i) refl some
fields t (Set i v) (Some (There (Table m) w)) reply small said some = absurd (some refl)
fields t (Set i v) (Some (There (Blob x) w)) reply small said some = absurd (some refl)
fields t (Get i) None reply small said some = tt
fields t (Get i) (Some (There (Array row) w)) reply small said some = absurd (some refl)
fields t (Get i) (Some (There (Table m) w)) reply small said some = absurd (some refl)
fields t (Get i) (Some (There (Blob x) w)) reply small said some = absurd (some refl)
fields t Len None reply small said some = tt
fields t Len (Some (There (Array row) w)) reply small said some = absurd (some refl)
fields t Len (Some (There (Table m) w)) reply small said some = absurd (some refl)
fields t Len (Some (There (Blob x) w)) reply small said some = absurd (some refl)
fields t (Apply i code arg) None reply small said some = tt
fields t (Apply i code arg) (Some (There (Array row) w)) reply small said some = apply_fields t row i code arg reply small.0 said
fields t (Apply i code arg) (Some (There (Table m) w)) reply small said some = absurd (let k : ◌≡◌ {A = Outcome} (Err _) (Ok reply) = said in cc)
fields t (Apply i code arg) (Some (There (Blob x) w)) reply small said some = absurd (let k : ◌≡◌ {A = Outcome} (Err _) (Ok reply) = said in cc)
fields t (Put k v) None reply small said some = tt
fields t (Put k v) (Some (There (Array row) w)) reply small said some = absurd (some refl)
fields t (Put k v) (Some (There (Table m) w)) reply small said some = put_fields k (get m k) (key_short k (put_value v) m reply said)
fields t (Put k v) (Some (There (Blob x) w)) reply small said some = absurd (some refl)
fields t (Del k) None reply small said some = tt
fields t (Del k) (Some (There (Array row) w)) reply small said some = absurd (some refl)
fields t (Del k) (Some (There (Table m) w)) reply small said some = del_fields k (get m k) (key_short k del_value m reply said) some
fields t (Del k) (Some (There (Blob x) w)) reply small said some = absurd (some refl)
fields t (Find k) None reply small said some = tt
fields t (Find k) (Some (There (Array row) w)) reply small said some = absurd (some refl)
fields t (Find k) (Some (There (Table m) w)) reply small said some = absurd (some refl)
fields t (Find k) (Some (There (Blob x) w)) reply small said some = absurd (some refl)
fields t Keys None reply small said some = tt
fields t Keys (Some (There (Array row) w)) reply small said some = absurd (some refl)
fields t Keys (Some (There (Table m) w)) reply small said some = absurd (some refl)
fields t Keys (Some (There (Blob x) w)) reply small said some = absurd (some refl)
fields t (Write from bytes) None reply small said some = tt
fields t (Write from bytes) (Some (There (Array row) w)) reply small said some = absurd (some refl)
fields t (Write from bytes) (Some (There (Table m) w)) reply small said some = absurd (some refl)
fields t (Write from bytes) (Some (There (Blob x) w)) reply small said some = (let l = small.0 in omega (arith, l))
fields t (Read from count) None reply small said some = tt
fields t (Read from count) (Some (There (Array row) w)) reply small said some = absurd (some refl)
fields t (Read from count) (Some (There (Table m) w)) reply small said some = absurd (some refl)
fields t (Read from count) (Some (There (Blob x) w)) reply small said some = absurd (some refl)
fields t (Size n) None reply small said some = tt
fields t (Size n) (Some (There (Array row) w)) reply small said some = absurd (some refl)
fields t (Size n) (Some (There (Table m) w)) reply small said some = absurd (some refl)
fields t (Size n) (Some (There (Blob x) w)) reply small said some = (let l = small.0 in omega (arith, l))
fields t (Paint from count code arg) None reply small said some = tt
fields t (Paint from count code arg) (Some (There (Array row) w)) reply small said some = absurd (some refl)
fields t (Paint from count code arg) (Some (There (Table m) w)) reply small said some = absurd (some refl)
fields t (Paint from count code arg) (Some (There (Blob x) w)) reply small said some = (let l = small.0 in omega (arith, l))

-- THE FIELDS of what an accepted verb on contents notes
pub noted_fields : (t : Operations) (space : Space) (s : Contents) → IsContents space s → (name : List ℕ) (verb : Verb) (reply : Reply) → (on t verb (plain (get (reading s).things name))).0 ≡ Ok reply → (noted verb (get (reading s).things name) ≡ WasNothing → ⊥) → AreFields (noted verb (get (reading s).things name))
noted_fields t space s h name verb reply said some = fields t verb (get (reading s).things name) reply (small_at space s h name) said some
