-- Each verb can be done in each formed reading: the reading that it leaves is one that it may leave.
use Rattle.std.proofs.Common.{◌≡◌, ℕ, Bool, true, false, cond, List, [], ◌∷◌, length, Option, Some, None, refl, sym, ap, ◌∙◌}
use Rattle.std.specs.Prelude.{◌==◌, ◌&&◌, nat_lt, is_ok}
use Rattle.std.specs.Str.{bytes_eq}
use Rattle.std.specs.FinMap.{get}
use Rattle.sg_serial.specs.Machine.{any_touch}
use Rattle.sg_serial.specs.Locks.{writes}
use Rattle.sg_ops.specs.Table.{Table as Operations}
use Rattle.sg_model.specs.Objects.{Object}
use Rattle.sg_model.specs.Verb.{Verb}
use Rattle.sg_model.specs.Objects.Object.{Array, Table, Blob}
use Rattle.sg_model.specs.Verb.Verb.{MakeArray, MakeTable, MakeBlob, Discard, Push, Pop, Set, Get, Len, Apply, Put, Del, Find, Keys, Write, Read, Size, Paint}
use Rattle.sg_model.specs.Verb.Op.{On}
use Rattle.sg_model.specs.Step.{on, step}
use Rattle.sg_model.specs.Touches.{Part, Cell, to_read, covers, seen, reach_of, touches}
use Rattle.sg_model.specs.Touches.Part.{Kind, Length, Item, Key, Body, Buried}
use Rattle.sg_model.specs.Touches.Region.{Just}
use Rattle.sg_model.proofs.Parts.{writes_part, get_put, bytes_same}
use Rattle.sg_model.proofs.Slots.{verb_law}
use Rattle.sg_model.proofs.Footprint.{any_write}
use Rattle.sg_recovery.specs.Cells.{After}
use Rattle.sg_reading.specs.Reading.{Thing, Reading, around_of, plain, objects, Slot, slot, thing_extra, bared_tomb, extra, shown, at}
use Rattle.sg_reading.specs.Did.{Did, grown, buried_by, slot_after, result_of, IsAt, with_tomb, done_on, done}
use Rattle.sg_reading.specs.Model.{Ground, model_cells}
use Rattle.sg_reading.specs.Noted.{IsFormed}
use Rattle.sg_reading.proofs.Notes.{never}
use Rattle.sg_reading.proofs.Slotted.{get_thing, thing_tombs}
use Rattle.sg_reading.proofs.Middles.{pop_kind, push_kind, set_kind, put_kind, size_kind}
use Rattle.sg_reading.proofs.Did.{grown_plain, root_by, peak_by, room_by, grown_root, grown_length, grown_body, form_kept}
use Rattle.sg_reading.proofs.Looks.{root_stays, peak_stays, room_stays}
use Rattle.sg_reading.proofs.Laws.{touches_at, verb_step}

-- a kind is written with all of its name

get_kind : (i : ℕ) (o : Option Object) → any_touch writes_part (reach_of (Get i) o) Kind ≡ false
get_kind i None = refl
get_kind i (Some (Array row)) = refl
get_kind i (Some (Table m)) = refl
get_kind i (Some (Blob x)) = refl

len_kind : (o : Option Object) → any_touch writes_part (reach_of Len o) Kind ≡ false
len_kind None = refl
len_kind (Some (Array row)) = refl
len_kind (Some (Table m)) = refl
len_kind (Some (Blob x)) = refl

read_key : (b c : Bool) (k : List ℕ) → any_touch writes_part (cond b [] (cond c [] (to_read (Just (Key k)) ∷ []))) Kind ≡ false
read_key true c k = refl
read_key false true k = refl
read_key false false k = refl

find_kind : (k : List ℕ) (o : Option Object) → any_touch writes_part (reach_of (Find k) o) Kind ≡ false
find_kind k None = refl
find_kind k (Some (Array row)) = refl
find_kind k (Some (Table m)) = read_key (length k == 0) (nat_lt 128 (length k)) k
find_kind k (Some (Blob x)) = refl

keys_kind : (o : Option Object) → any_touch writes_part (reach_of Keys o) Kind ≡ false
keys_kind None = refl
keys_kind (Some (Array row)) = refl
keys_kind (Some (Table m)) = refl
keys_kind (Some (Blob x)) = refl

read_kind : (a b : ℕ) (o : Option Object) → any_touch writes_part (reach_of (Read a b) o) Kind ≡ false
read_kind a b None = refl
read_kind a b (Some (Array row)) = refl
read_kind a b (Some (Table m)) = refl
read_kind a b (Some (Blob x)) = refl

kind_too : (verb : Verb) (o : Option Object) (q : Part) → any_touch writes_part (reach_of verb o) q ≡ false → any_touch writes_part (reach_of verb o) Kind ≡ false
kind_too (MakeArray n) o q h = h
kind_too MakeTable o q h = h
kind_too MakeBlob o q h = h
kind_too Discard o q h = h
kind_too (Push v) o q h = push_kind v o
kind_too Pop o q h = pop_kind o
kind_too (Set i v) o q h = set_kind i v o
kind_too (Get i) o q h = get_kind i o
kind_too Len o q h = len_kind o
kind_too (Apply i code arg) o q h = set_kind i [] o
kind_too (Put k v) o q h = put_kind k v o
kind_too (Del k) o q h = put_kind k [] o
kind_too (Find k) o q h = find_kind k o
kind_too Keys o q h = keys_kind o
kind_too (Write from bytes) o q h = size_kind 0 o
kind_too (Read from count) o q h = read_kind from count o
kind_too (Size n) o q h = size_kind n o
kind_too (Paint from count code arg) o q h = size_kind 0 o

tombs_stay : (d : Did) (verb : Verb) (s : Slot) (r : ℕ) → any_touch writes_part (reach_of verb (plain s.thing)) (Buried r) ≡ false → buried_by d verb s r ≡ s.buried r
tombs_stay d Discard s r h = never (sym h)
tombs_stay d verb s r h = refl

-- A verb leaves alone what it doesn't write
pub slot_frame : (t : Operations) (d : Did) (verb : Verb) (s : Slot) → IsFormed s.thing → (any_touch writes_part (reach_of verb (plain s.thing)) Body ≡ false → d.bands ≡ [])
    → (q : Part) → any_touch writes_part (reach_of verb (plain s.thing)) q ≡ false → shown (slot_after t d verb s) q ≡ shown s q
slot_frame t d verb s f e q z =
    λ i. record { sort = framed Kind (kind_too verb (plain s.thing) q z) i; value = framed q z i; extra = extras q z i }
  where
    framed : (q : Part) → any_touch writes_part (reach_of verb (plain s.thing)) q ≡ false → seen (plain (grown d verb (is_ok (on t verb (plain s.thing)).0) s.thing (on t verb (plain s.thing)).1)) q ≡ seen (plain s.thing) q
    framed q z = ap (λ o. seen o q) (grown_plain d verb (is_ok (on t verb (plain s.thing)).0) s.thing (on t verb (plain s.thing)).1) ∙ (verb_law t verb).frame (plain s.thing) q z

    extras : (q : Part) → any_touch writes_part (reach_of verb (plain s.thing)) q ≡ false → extra (slot_after t d verb s) q ≡ extra s q
    extras Kind z = grown_root d verb (is_ok (on t verb (plain s.thing)).0) s.thing (on t verb (plain s.thing)).1
        ∙ (ap (λ x. root_by d.root (seen (plain s.thing) Kind) (thing_extra s.thing Kind) x) ((verb_law t verb).frame (plain s.thing) Kind z) ∙ root_stays d.root s.thing)
    extras Length z = grown_length d verb (is_ok (on t verb (plain s.thing)).0) s.thing (on t verb (plain s.thing)).1 (form_kept t verb (plain s.thing))
        ∙ ((λ i. peak_by ((verb_law t verb).frame (plain s.thing) Kind (kind_too verb (plain s.thing) Length z) i) ((verb_law t verb).frame (plain s.thing) Length z i) (thing_extra s.thing Length)) ∙ peak_stays s.thing f)
    extras (Item i) z = refl
    extras (Key k) z = refl
    extras Body z = grown_body d verb (is_ok (on t verb (plain s.thing)).0) s.thing (on t verb (plain s.thing)).1 (form_kept t verb (plain s.thing))
        ∙ ((λ i. room_by d.bands ((verb_law t verb).frame (plain s.thing) Kind (kind_too verb (plain s.thing) Body z) i) ((verb_law t verb).frame (plain s.thing) Body z i) (thing_extra s.thing Body)) ∙ room_stays d.bands s.thing f (e z))
    extras (Buried r) z = ap bared_tomb (tombs_stay d verb s r z)

-- the slots of the reading that a verb leaves

things_with : (d : Did) (verb : Verb) (n : List ℕ) (a : Option Thing) (o : Reading) → (with_tomb d verb n a o).things ≡ o.things
things_with d Discard n None o = refl
things_with d Discard n (Some th) o = refl
things_with d verb n a o = refl

same_name : (n m : List ℕ) (o : Reading) (r : ℕ) (b : Bool) → bytes_eq n m ≡ b → get o.tombs (r ∷ m) ≡ cond b (get o.tombs (r ∷ n)) (get o.tombs (r ∷ m))
same_name n m o r true e = ap (λ k. get o.tombs (r ∷ k)) (sym (bytes_same n m e))
same_name n m o r false e = refl

tombs_with : (d : Did) (verb : Verb) (n : List ℕ) (a : Option Thing) (o : Reading) (m : List ℕ) (r : ℕ)
    → get (with_tomb d verb n a o).tombs (r ∷ m) ≡ cond (bytes_eq n m) (buried_by d verb (record { thing = a; buried = λ k. get o.tombs (k ∷ n) }) r) (get o.tombs (r ∷ m))
tombs_with d Discard n None o m r = same_name n m o r (bytes_eq n m) refl
tombs_with d Discard n (Some th) o m r = get_put o.tombs ((around_of th).root ∷ n) (record { dropper = d.by; thing = th }) (r ∷ m) ∙ go ((around_of th).root == r) (bytes_eq n m) refl
  where
    go : (a b : Bool) → bytes_eq n m ≡ b → cond (a && b) (Some (record { dropper = d.by; thing = th })) (get o.tombs (r ∷ m)) ≡ cond b (cond a (Some (record { dropper = d.by; thing = th })) (get o.tombs (r ∷ n))) (get o.tombs (r ∷ m))
    go true true e = refl
    go true false e = refl
    go false true e = same_name n m o r true e
    go false false e = refl
tombs_with d verb n a o m r = same_name n m o r (bytes_eq n m) refl

pub slot_done : (t : Operations) (d : Did) (n : List ℕ) (verb : Verb) (o : Reading) (m : List ℕ) → slot (done_on t d (On n verb) o) m ≡ cond (bytes_eq n m) (slot_after t d verb (slot o n)) (slot o m)
slot_done t d n verb o m = go (bytes_eq n m) refl
  where
    th : Option Thing
    th = grown d verb (is_ok (on t verb (plain (slot o n).thing)).0) (slot o n).thing (on t verb (plain (slot o n).thing)).1

    things : get (done_on t d (On n verb) o).things m ≡ cond (bytes_eq n m) (slot_after t d verb (slot o n)).thing (get o.things m)
    things = get_thing (with_tomb d verb n (slot o n).thing o) n (slot_after t d verb (slot o n)).thing m ∙ ap (λ x. cond (bytes_eq n m) (slot_after t d verb (slot o n)).thing (get x m)) (things_with d verb n (slot o n).thing o)

    tombs : (r : ℕ) → get (done_on t d (On n verb) o).tombs (r ∷ m) ≡ cond (bytes_eq n m) (buried_by d verb (slot o n) r) (get o.tombs (r ∷ m))
    tombs r = ap (λ x. get x (r ∷ m)) (thing_tombs (with_tomb d verb n (slot o n).thing o) n (slot_after t d verb (slot o n)).thing) ∙ tombs_with d verb n (slot o n).thing o m r

    go : (b : Bool) → bytes_eq n m ≡ b → slot (done_on t d (On n verb) o) m ≡ cond b (slot_after t d verb (slot o n)) (slot o m)
    go true e = λ i. record { thing = (things ∙ ap (λ b. cond b (slot_after t d verb (slot o n)).thing (get o.things m)) e) i; buried = λ r. (tombs r ∙ ap (λ b. cond b (buried_by d verb (slot o n) r) (get o.tombs (r ∷ m))) e) i }
    go false e = λ i. record { thing = (things ∙ ap (λ b. cond b (slot_after t d verb (slot o n)).thing (get o.things m)) e) i; buried = λ r. (tombs r ∙ ap (λ b. cond b (buried_by d verb (slot o n) r) (get o.tombs (r ∷ m))) e) i }

pub done_after : (t : Operations) (g : Ground) (d : Did) (n : List ℕ) (verb : Verb) (o : Reading) → d.op ≡ On n verb → IsAt d o → IsFormed (slot o n).thing
    → (any_touch writes_part (reach_of verb (plain (slot o n).thing)) Body ≡ false → d.bands ≡ []) → After (model_cells t g) d o (done t d o)
done_after t g d n verb o op is f e = (is, (λ c w. is_result c), (λ c z. is_result c ∙ (ap (λ p. result_of t d p o c) op ∙ rest c (bytes_eq n c.name) refl (sym (writes_are c) ∙ z))))
  where
    writes_are : (c : Cell) → any_touch (writes covers) d.touches c ≡ (bytes_eq n c.name && any_touch writes_part (reach_of verb (plain (slot o n).thing)) c.part)
    writes_are c = ap (λ ts. any_touch (writes covers) ts c) (sym is ∙ (ap (λ p. touches (objects o) p) op ∙ touches_at t o n verb)) ∙ any_write n (reach_of verb (plain (slot o n).thing)) c

    is_result : (c : Cell) → at (done t d o) c ≡ result_of t d d.op o c
    is_result c = ap (λ p. at (done_on t d p o) c) op ∙ (ap (λ s. shown s c.part) (slot_done t d n verb o c.name) ∙ sym (ap (λ p. result_of t d p o c) op))

    rest : (c : Cell) (b : Bool) → bytes_eq n c.name ≡ b → (bytes_eq n c.name && any_touch writes_part (reach_of verb (plain (slot o n).thing)) c.part) ≡ false
        → shown (cond (bytes_eq n c.name) (slot_after t d verb (slot o n)) (slot o c.name)) c.part ≡ at o c
    rest c true x z = ap (λ b. shown (cond b (slot_after t d verb (slot o n)) (slot o c.name)) c.part) x
        ∙ (slot_frame t d verb (slot o n) f e c.part (sym (ap (λ b. b && any_touch writes_part (reach_of verb (plain (slot o n).thing)) c.part) x) ∙ z) ∙ ap (λ m. shown (slot o m) c.part) (bytes_same n c.name x))
    rest c false x z = ap (λ b. shown (cond b (slot_after t d verb (slot o n)) (slot o c.name)) c.part) x

-- so what is done to a reading is the step of its objects
pub done_step : (t : Operations) (g : Ground) (d : Did) (n : List ℕ) (verb : Verb) (o : Reading) → d.op ≡ On n verb → IsAt d o → IsFormed (slot o n).thing
    → (any_touch writes_part (reach_of verb (plain (slot o n).thing)) Body ≡ false → d.bands ≡ []) → objects (done t d o) ≡ (step t (objects o) d.op).1
done_step t g d n verb o op is f e = verb_step t g d o (done t d o) (done_after t g d n verb o op is f e)
