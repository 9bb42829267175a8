-- A note can be undone exactly where `IsPossible` says so.
use Rattle.std.proofs.Common.{◌≡◌, ℕ, zero, suc, ◌<◌, ◌≤◌, Bool, true, false, cond, not, List, [], ◌∷◌, ◌++◌, length, take, drop, Option, Some, None, Ok, Err, refl, sym, ap, ◌∙◌, arith}
use Rattle.std.specs.Prelude.{◌==◌, nat_lt, nat_le, slice_get, slice_set, is_some}
use Rattle.std.specs.FinMap.{get}
use Rattle.std.proofs.lemmas.Bool.{eqb-true, eq-eqb, ne_eqb}
use Rattle.sg_ops.specs.Table.{Table as Operations, record_at}
use Rattle.sg_ops.specs.Meaning.{RecordMeaning}
use Rattle.sg_model.specs.Objects.{Row, Entries}
use Rattle.sg_model.specs.Verb.{Outcome, Reply}
use Rattle.sg_model.specs.Objects.Object.{Array, Table, Blob}
use Rattle.sg_model.specs.Verb.Reply.{Done, Number, Bytes}
use Rattle.sg_model.specs.declared.reason.Reason.TheVariants.{OutOfRange, TooLong, TooMany, Declined}
use Rattle.sg_model.specs.Step.{push, pop, pop_at, pop_item, at_item, set_to, Update, at_key, put_value, put_reply}
use Rattle.sg_model.specs.Step.Update.{Stays, Becomes, Goes}
use Rattle.sg_recovery.proofs.Basic.{le_is, le_true, lt_is, lt_true, lt_false, lt_not}
use Rattle.sg_reading.specs.Reading.{Around, Thing, Tomb, Slot}
use Rattle.sg_reading.specs.Reading.Thing.{There}
use Rattle.sg_reading.specs.Back.{Undoing, Before, Patch, located, padded, all_laid, all_zero, lay, lay_plan, planned, undone_by, unapply, forget, if_done, carried_out, unmade, raised, back}
use Rattle.sg_reading.specs.Back.Undoing.{WasNothing, WasMake, WasDrop, WasPush, WasPop, WasSet, WasApply, WasPut, WasOver, WasBytes}
use Rattle.sg_reading.specs.Back.Plan.{Append, Lay}
use Rattle.sg_reading.specs.Noted.{IsItem, IsFormed, AreUndone, BringsBack}
use Rattle.sg_reading.specs.Possible.{CanReverse, CanLay, CanIn, IsPossible}
use Rattle.sg_reading.proofs.Notes.{never}
use Rattle.sg_reading.proofs.Undone.{push_fits, item_fits, set_fits, key_fits, put_fits, popped, found_item, short_arg, keyed, law_of}
use Rattle.sg_reading.proofs.Formed.{positive}
use Rattle.sg_reading.proofs.Joins.{apply_can, apply_was}
use Rattle.sg_base.specs.Bytes.{IsBytes}

at_index : {A : Type 0} (xs : List A) (i : ℕ) → i < length xs → (x : A) × (slice_get xs i ≡ Some x)
at_index [] i h = absurd (let k : i < 0 = h in omega (arith, k))
at_index (x ∷ xs) zero h = (x, refl)
at_index (x ∷ xs) (suc i) h = at_index xs i (let k : suc i < suc (length xs) = h in omega (arith, k))

below_length : {A : Type 0} (xs : List A) (i : ℕ) (x : A) → slice_get xs i ≡ Some x → i < length xs
below_length [] i x h = absurd (cc)
below_length (y ∷ xs) zero x h = let k : 0 < suc (length xs) = omega arith in k
below_length (y ∷ xs) (suc i) x h = let m = below_length xs i x h in let k : suc i < suc (length xs) = omega (arith, m) in k

abbrev Gives : Option (Option Thing) → Type 0
Gives r = (th : Option Thing) × (r ≡ Some th)

array_gives : (out : Outcome × Row) (r : Reply) (new : Row) (w : Around) → out ≡ (Ok r, new) → Gives (if_done out.0 (Some (There (Array out.1) w)))
array_gives out r new w e = (Some (There (Array new) w), ap (λ (z : Outcome × Row). if_done z.0 (Some (There (Array z.1) w))) e)

table_gives : (out : Outcome × Entries) (r : Reply) (new : Entries) (w : Around) → out ≡ (Ok r, new) → Gives (if_done out.0 (Some (There (Table out.1) w)))
table_gives out r new w e = (Some (There (Table new) w), ap (λ (z : Outcome × Entries). if_done z.0 (Some (There (Table z.1) w))) e)

pop_can : (row : Row) (w : Around) → 0 < length row.items → Gives (if_done (pop row).0 (Some (There (Array (pop row).1) w)))
pop_can row w h = go (length row.items) refl (λ m e. ap (λ n. pop_at row n) e)
  where
    go : (m : ℕ) → length row.items ≡ m → ((m : ℕ) → length row.items ≡ m → pop row ≡ pop_at row m) → Gives (if_done (pop row).0 (Some (There (Array (pop row).1) w)))
    go zero e f = absurd (omega (arith, h, e))
    go (suc n) e f =
        let x = at_index row.items n (omega (arith, e)) in
        array_gives (pop row) (Bytes x.0) (record row { items = take n row.items }) w (f (suc n) e ∙ ap (λ y. pop_item row n y) x.1)

some_key : (k : List ℕ) → 1 ≤ length k → (length k == 0) ≡ false
some_key k h = ne_eqb (length k) 0 (λ e. omega (arith, h, e))

-- where that is so, it can
pub possible_can : (t : Operations) → AreUndone t → (u : Undoing) (cs : List Before) (a : Option Thing) → BringsBack u → IsFormed a → CanIn t u cs a → Gives (carried_out t (planned u cs a) a)
possible_can t law WasPush cs (Some (There (Array row) w)) y f c = pop_can row w c
possible_can t law (WasPop item) cs (Some (There (Array row) w)) y f c =
    let g = array_gives (push item row) (Number (length row.items)) (record row { items = row.items ++ item ∷ [] }) w
    (push_fits item row (eq-eqb (length item) row.size c.1) (lt_true (length row.items) 1048576 (few (length row.items) w.peak c.0 f.1))) in
    (g.0, ap (λ b. carried_out t (cond b (Some (Append item)) None) (Some (There (Array row) w))) (lt_true (length row.items) w.peak c.0) ∙ g.1)
  where
    few : (n m : ℕ) → n < m → m ≤ 1048576 → n < 1048576
    few n m h l = omega (arith, h, l)
possible_can t law (WasSet i item) cs (Some (There (Array row) w)) y f c =
    let x = at_index row.items i c.0 in
    array_gives (at_item i (set_to item) row) Done (record row { items = slice_set row.items i item }) w (item_fits i (set_to item) row x.0 item (Ok Done) x.1 (set_fits item row.size x.0 c.1))
possible_can t law (WasApply i code arg) cs (Some (There (Array row) w)) y f c =
    let undoing = λ (size : ℕ) (item : List ℕ). undone_by arg item (record_at t code) in
    array_gives (unapply t i code arg row) Done (record row { items = slice_set row.items i c.made.0 }) w
    (ap (λ b. cond b (Err TooLong, row) (at_item i undoing row)) (lt_false 256 (length arg) c.short)
    ∙ item_fits i undoing row c.item c.made.0 (Ok Done) c.there (ap (λ m. undone_by arg c.item m) c.registered ∙ apply_can t law code c.by c.registered arg c.item y c.made))
possible_can t law (WasPut q) cs (Some (There (Table m) w)) y f c =
    let l = f q c.0 c.1 in
    table_gives (at_key q forget m) Done _ w (key_fits q forget m (Ok Done) Goes (some_key q l.0) (lt_false 128 (length q) l.1) (ap forget c.1))
possible_can t law (WasOver q v) cs (Some (There (Table m) w)) y f c =
    table_gives (at_key q (put_value v) m) (put_reply (get m q)) _ w (key_fits q (put_value v) m (Ok (put_reply (get m q))) (Becomes v) (some_key q c.0) (lt_false 128 (length q) c.1) (put_fits v (get m q) c.2))
possible_can t law (WasBytes n) cs (Some (There (Blob x) w)) y f c = (
  Some (There (Blob (padded n (all_laid c.patches x))) w),
  ap (λ b. carried_out t (cond b (lay_plan n (located w.bands cs)) None) (Some (There (Blob x) w))) (le_true n w.peak c.low)
      ∙ (ap (λ r. carried_out t (lay_plan n r) (Some (There (Blob x) w))) c.at_bands
      ∙ ap (λ b. let z = cond {A = Outcome × List ℕ} b (Ok Done, padded n (all_laid c.patches x)) (Err OutOfRange, x) in if_done z.0 (Some (There (Blob z.1) w))) c.zeros),
)
possible_can t law u cs a y f c = absurd (c)

-- and only there

said_ok : (out : Outcome) (a th : Option Thing) → if_done out a ≡ Some th → (r : Reply) × (out ≡ Ok r)
said_ok (Ok r) a th h = (r, refl)
said_ok (Err x) a th h = absurd (cc)

push_was : (v : List ℕ) (row : Row) (r : Reply) → (push v row).0 ≡ Ok r → length v ≡ row.size
push_was v row r = go (length v == row.size) (nat_lt (length row.items) 1048576) refl
  where
    go : (x y : Bool) → (length v == row.size) ≡ x → (cond {A = Outcome × Row} (not x) (Err Declined, row) (cond {A = Outcome × Row} (not y) (Err TooMany, row) (Ok (Number (length row.items)), record row { items = row.items ++ v ∷ [] }))).0 ≡ Ok r → length v ≡ row.size
    go true y e h = eqb-true (length v) row.size e
    go false y e h = absurd (cc)

set_was : (v : List ℕ) (size : ℕ) (item : List ℕ) (r : Reply) → (set_to v size item).0 ≡ Ok r → length v ≡ size
set_was v size item r = go (length v == size) refl
  where
    go : (c : Bool) → (length v == size) ≡ c → (cond {A = Outcome × Option (List ℕ)} c (Ok Done, Some v) (Err Declined, None)).0 ≡ Ok r → length v ≡ size
    go true e h = eqb-true (length v) size e
    go false e h = absurd (cc)

put_was : (v : List ℕ) (x : Option (List ℕ)) (r : Reply) → (put_value v x).0 ≡ Ok r → length v ≤ 1024
put_was v x r = go (nat_lt 1024 (length v)) refl
  where
    go : (c : Bool) → nat_lt 1024 (length v) ≡ c → (cond {A = Outcome × Update} c (Err TooLong, Stays) (Ok (put_reply x), Becomes v)).0 ≡ Ok r → length v ≤ 1024
    go true e h = absurd (cc)
    go false e h = lt_not 1024 (length v) e

forget_was : (x : Option (List ℕ)) (r : Reply) → (forget x).0 ≡ Ok r → (v : List ℕ) × (x ≡ Some v)
forget_was None r h = absurd (cc)
forget_was (Some v) r h = (v, refl)

reverse_was : (t : Operations) → AreUndone t → (i code : ℕ) (arg : List ℕ) → IsBytes arg → (row : Row) → ((j : ℕ) (item : List ℕ) → slice_get row.items j ≡ Some item → IsItem row.size item) → (r : Reply) → (unapply t i code arg row).0 ≡ Ok r → CanReverse t i code arg row.items
reverse_was t law i code arg y row are r h =
    let undoing = λ (size : ℕ) (item : List ℕ). undone_by arg item (record_at t code) in
    let s = short_arg (nat_lt 256 (length arg)) row (at_item i undoing row) r h in
    let f = found_item i undoing row r s.1 in
    go (lt_not 256 (length arg) s.0) f.item f.there (record_at t code) refl f.said
  where
    go : length arg ≤ 256 → (item : List ℕ) → slice_get row.items i ≡ Some item → (x : Option RecordMeaning) → record_at t code ≡ x → (undone_by arg item x).0 ≡ Ok r → CanReverse t i code arg row.items
    go l item there None e h = absurd (cc)
    go l item there (Some m) e h = record { short = l; by = m; registered = e; item = item; there = there; made = apply_was m arg item r ((law_of t law code m e).undo_leaves_bytes item arg (are i item there).1 y) h }

zeros_was : (n : ℕ) (ps : List Patch) (x : List ℕ) (r : Reply) → (lay n ps x).0 ≡ Ok r → all_zero (drop n (all_laid ps x)) ≡ true
zeros_was n ps x r = go (all_zero (drop n (all_laid ps x)))
  where
    go : (c : Bool) → (cond {A = Outcome × List ℕ} c (Ok Done, padded n (all_laid ps x)) (Err OutOfRange, x)).0 ≡ Ok r → c ≡ true
    go true h = refl
    go false h = absurd (cc)

pop_only : (t : Operations) (v : List ℕ) (row : Row) (w : Around) (th : Option Thing) (c : Bool) → nat_lt (length row.items) w.peak ≡ c → carried_out t (cond c (Some (Append v)) None) (Some (There (Array row) w)) ≡ Some th
    → (length row.items < w.peak) × (length v ≡ row.size)
pop_only t v row w th true e h = let s = said_ok (push v row).0 (Some (There (Array (push v row).1) w)) th h in (lt_is (length row.items) w.peak e, push_was v row s.0 s.1)
pop_only t v row w th false e h = absurd (cc)

bytes_only : (t : Operations) (n : ℕ) (cs : List Before) (x : List ℕ) (w : Around) (th : Option Thing) (c : Bool) (r : Option (List Patch)) → nat_le n w.peak ≡ c → located w.bands cs ≡ r
    → carried_out t (cond c (lay_plan n r) None) (Some (There (Blob x) w)) ≡ Some th → CanLay n cs x w.peak w.bands
bytes_only t n cs x w th true (Some ps) e f h =
    let s = said_ok (lay n ps x).0 (Some (There (Blob (lay n ps x).1) w)) th h in
    record { low = le_is n w.peak e; patches = ps; at_bands = f; zeros = zeros_was n ps x s.0 s.1 }
bytes_only t n cs x w th true None e f h = absurd (cc)
bytes_only t n cs x w th false r e f h = absurd (cc)

no_bytes : (t : Operations) (n : ℕ) (a th : Option Thing) → ((ps : List Patch) → carried_out t (Some (Lay n ps)) a ≡ None) → (c : Bool) (r : Option (List Patch)) → carried_out t (cond c (lay_plan n r) None) a ≡ Some th → ⊥
no_bytes t n a th f true None h = absurd (cc)
no_bytes t n a th f true (Some ps) h = absurd (let e = f ps in cc)
no_bytes t n a th f false r h = absurd (cc)

pub can_possible : (t : Operations) → AreUndone t → (u : Undoing) (cs : List Before) (a th : Option Thing) → BringsBack u → IsFormed a → carried_out t (planned u cs a) a ≡ Some th → CanIn t u cs a
can_possible t law WasPush cs (Some (There (Array row) w)) th y g h =
    let s = said_ok (pop row).0 (Some (There (Array (pop row).1) w)) th h in let p = popped row s.0 s.1 in more (length row.items) p.n p.many
  where
    more : (m n : ℕ) → m ≡ suc n → 0 < m
    more m n e = omega (arith, e)
can_possible t law (WasPop v) cs (Some (There (Array row) w)) th y g h = pop_only t v row w th (nat_lt (length row.items) w.peak) refl h
can_possible t law (WasSet i v) cs (Some (There (Array row) w)) th y g h =
    let s = said_ok (at_item i (set_to v) row).0 (Some (There (Array (at_item i (set_to v) row).1) w)) th h in
    let f = found_item i (set_to v) row s.0 s.1 in (below_length row.items i f.item f.there, set_was v row.size f.item s.0 f.said)
can_possible t law (WasApply i code arg) cs (Some (There (Array row) w)) th y g h =
    let s = said_ok (unapply t i code arg row).0 (Some (There (Array (unapply t i code arg row).1) w)) th h in reverse_was t law i code arg y row g.2 s.0 s.1
can_possible t law (WasPut q) cs (Some (There (Table m) w)) th y g h =
    let s = said_ok (at_key q forget m).0 (Some (There (Table (at_key q forget m).1) w)) th h in let e = keyed q forget m s.0 s.1 in forget_was (get m q) s.0 e.said
can_possible t law (WasOver q v) cs (Some (There (Table m) w)) th y g h =
    let s = said_ok (at_key q (put_value v) m).0 (Some (There (Table (at_key q (put_value v) m).1) w)) th h in let e = keyed q (put_value v) m s.0 s.1 in
    (positive q e.some, lt_not 128 (length q) e.short, put_was v (get m q) s.0 e.said)
can_possible t law (WasBytes n) cs (Some (There (Blob x) w)) th y g h = bytes_only t n cs x w th (nat_le n w.peak) (located w.bands cs) refl refl h
can_possible t law (WasBytes n) cs None th y g h = no_bytes t n None th (λ ps. refl) (nat_le n 0) (located [] cs) h
can_possible t law (WasBytes n) cs (Some (There (Array row) w)) th y g h = no_bytes t n (Some (There (Array row) w)) th (λ ps. refl) (nat_le n 0) (located [] cs) h
can_possible t law (WasBytes n) cs (Some (There (Table m) w)) th y g h = no_bytes t n (Some (There (Table m) w)) th (λ ps. refl) (nat_le n 0) (located [] cs) h
can_possible t law (WasPop v) cs (Some (There (Table m) w)) th y g h = absurd (cc)
can_possible t law (WasPop v) cs (Some (There (Blob x) w)) th y g h = absurd (cc)
can_possible t law u cs a th y g h = absurd (cc)

unmade_some : (a : Option Thing) → is_some a ≡ true → Gives (unmade a)
unmade_some None h = never h
unmade_some (Some th) h = (None, refl)

unmade_was : (a th : Option Thing) → unmade a ≡ Some th → is_some a ≡ true
unmade_was None th h = absurd (cc)
unmade_was (Some x) th h = refl

raised_some : (a : Option Thing) (d : Option Tomb) (b : Tomb) → is_some a ≡ false → d ≡ Some b → Gives (raised a d)
raised_some None d b h e = (Some b.thing, ap (λ x. raised None x) e)
raised_some (Some th) d b h e = never (sym h)

raised_was : (a : Option Thing) (d : Option Tomb) (th : Option Thing) → raised a d ≡ Some th → (is_some a ≡ false) × ((b : Tomb) × (d ≡ Some b))
raised_was None (Some b) th h = (refl, (b, refl))
raised_was None None th h = absurd (cc)
raised_was (Some x) d th h = absurd (cc)

-- EVERY NOTE
pub possible : (t : Operations) → AreUndone t → (u : Undoing) (cs : List Before) (s : Slot) → BringsBack u → IsFormed s.thing → IsPossible t u cs s → Gives (back t u cs s)
possible t law WasNothing cs s y f c = absurd (nothing s.thing c)
  where
    nothing : (a : Option Thing) → CanIn t WasNothing cs a → ⊥
    nothing None c = c
    nothing (Some (There (Array row) w)) c = c
    nothing (Some (There (Table m) w)) c = c
    nothing (Some (There (Blob x) w)) c = c
possible t law WasMake cs s y f c = unmade_some s.thing c
possible t law (WasDrop r) cs s y f c = raised_some s.thing (s.buried r) c.1.0 c.0 c.1.1
possible t law u cs s y f c = possible_can t law u cs s.thing y f c

pub possible_only : (t : Operations) → AreUndone t → (u : Undoing) (cs : List Before) (s : Slot) (th : Option Thing) → BringsBack u → IsFormed s.thing → back t u cs s ≡ Some th → IsPossible t u cs s
possible_only t law WasMake cs s th y f h = unmade_was s.thing th h
possible_only t law (WasDrop r) cs s th y f h = raised_was s.thing (s.buried r) th h
possible_only t law u cs s th y f h = can_possible t law u cs s.thing th y f h
