-- Verbs and notes keep what undoing rests on.
use Rattle.std.proofs.Common.{◌≡◌, ℕ, zero, suc, ◌<◌, ◌≤◌, Bool, true, false, cond, not, List, [], ◌∷◌, ◌++◌, length, take, Option, Some, None, Ok, Err, refl, sym, ◌∙◌, subst, arith, le_refl, le_trans}
use Rattle.std.specs.Prelude.{◌==◌, ◌&&◌, nat_lt, slice_get, slice_set}
use Rattle.std.specs.Str.{bytes_eq}
use Rattle.std.specs.FinMap.{get}
use Rattle.std.proofs.lemmas.Bool.{eqb-true, eqb-false}
use Rattle.sg_ops.specs.Table.{Table as Operations, record_at}
use Rattle.sg_base.specs.Bytes.{IsBytes}
use Rattle.sg_ops.specs.Meaning.{RecordMeaning}
use Rattle.sg_model.specs.Objects.{Row, Entries}
use Rattle.sg_model.specs.Verb.{Outcome}
use Rattle.sg_model.specs.Verb.Reply.{Done, Number}
use Rattle.sg_model.specs.declared.reason.Reason.TheVariants.{OutOfRange, TooLong, TooMany, Declined}
use Rattle.sg_model.specs.Step.{record_named, put_item, push, pop_item, pop_at, pop, at_found, at_item, set_to, done_by, Update, updated, at_key, put_value, put_reply, del_value, found}
use Rattle.sg_model.specs.Step.Update.{Stays, Becomes, Goes}
use Rattle.sg_model.proofs.Parts.{get_put, get_del, bytes_same, length_pushed, length_set}
use Rattle.sg_recovery.proofs.Basic.{lt_is, lt_not}
use Rattle.sg_reading.specs.Back.{undone_by, forget}
use Rattle.sg_reading.specs.Noted.{IsItem, IsEntry, AreUndone}
use Rattle.sg_reading.proofs.Notes.{some_one}
use Rattle.sg_reading.proofs.Undone.{named_at, law_of}

-- lists

module _ {A : Type 0} (P : A → Type 0) where
  abbrev Each : List A → Type 0
  Each xs = (i : ℕ) (x : A) → slice_get xs i ≡ Some x → P x

  each_rest : (y : A) (xs : List A) → Each (y ∷ xs) → Each xs
  each_rest y xs h i x e = h (suc i) x e

  pub each_pushed : (xs : List A) (v : A) → Each xs → P v → Each (xs ++ v ∷ [])
  each_pushed [] v h p zero x e = subst P (let k : v ≡ x = cc in k) p
  each_pushed [] v h p (suc i) x e = absurd (cc)
  each_pushed (y ∷ xs) v h p zero x e = h zero x e
  each_pushed (y ∷ xs) v h p (suc i) x e = each_pushed xs v (each_rest y xs h) p i x e

  pub each_taken : (n : ℕ) (xs : List A) → Each xs → Each (take n xs)
  each_taken zero xs h i x e = absurd (cc)
  each_taken (suc n) [] h i x e = absurd (cc)
  each_taken (suc n) (y ∷ xs) h zero x e = h zero x e
  each_taken (suc n) (y ∷ xs) h (suc i) x e = each_taken n xs (each_rest y xs h) i x e

  pub each_set : (xs : List A) (j : ℕ) (v : A) → Each xs → P v → Each (slice_set xs j v)
  each_set [] j v h p i x e = absurd (cc)
  each_set (y ∷ xs) zero v h p zero x e = subst P (let k : v ≡ x = cc in k) p
  each_set (y ∷ xs) zero v h p (suc i) x e = h (suc i) x e
  each_set (y ∷ xs) (suc j) v h p zero x e = h zero x e
  each_set (y ∷ xs) (suc j) v h p (suc i) x e = each_set xs j v (each_rest y xs h) p i x e

pub take_less : {A : Type 0} (n : ℕ) (xs : List A) → length (take n xs) ≤ length xs
take_less zero xs = omega arith
take_less (suc n) [] = le_refl 0
take_less (suc n) (x ∷ xs) = let h = take_less n xs in let k : suc (length (take n xs)) ≤ suc (length xs) = omega (arith, h) in k

-- rows

abbrev pub IsRow : Row → Type 0
IsRow row = (length row.items ≤ 1048576) × ((i : ℕ) (item : List ℕ) → slice_get row.items i ≡ Some item → IsItem row.size item)

abbrev pub RowKeeps : (Row → Outcome × Row) → Type 0
RowKeeps f = (row : Row) → IsRow row → IsRow (f row).1

pub push_row : (v : List ℕ) → IsBytes v → RowKeeps (push v)
push_row v bytes row k = go (length v == row.size) (nat_lt (length row.items) 1048576) refl refl
  where
    more : (n : ℕ) → n < 1048576 → suc n ≤ 1048576
    more n h = omega (arith, h)

    go : (b c : Bool) → (length v == row.size) ≡ b → nat_lt (length row.items) 1048576 ≡ c
        → IsRow (cond {A = Outcome × Row} (not b) (Err Declined, row) (cond {A = Outcome × Row} (not c) (Err TooMany, row) (Ok (Number (length row.items)), record row { items = row.items ++ v ∷ [] }))).1
    go true true e f = (subst (λ n. n ≤ 1048576) (sym (length_pushed row.items v)) (more (length row.items) (lt_is (length row.items) 1048576 f)), each_pushed (IsItem row.size) row.items v k.1 (eqb-true (length v) row.size e, bytes))
    go true false e f = k
    go false c e f = k

pub pop_row : RowKeeps pop
pop_row row k = go (length row.items)
  where
    by_item : (n : ℕ) (x : Option (List ℕ)) → IsRow (pop_item row n x).1
    by_item n None = k
    by_item n (Some x) = (le_trans (take_less n row.items) k.0, each_taken (IsItem row.size) n row.items k.1)

    go : (m : ℕ) → IsRow (pop_at row m).1
    go zero = k
    go (suc n) = by_item n (slice_get row.items n)

-- what becomes of an item is one of its size
abbrev pub Sized : (ℕ → List ℕ → Outcome × Option (List ℕ)) → Type 0
Sized decide = (size : ℕ) (item new : List ℕ) → IsItem size item → (decide size item).1 ≡ Some new → IsItem size new

pub item_row : (i : ℕ) (decide : ℕ → List ℕ → Outcome × Option (List ℕ)) → Sized decide → RowKeeps (at_item i decide)
item_row i decide s row k = go (slice_get row.items i) refl
  where
    by_new : (item : List ℕ) → slice_get row.items i ≡ Some item → (y : Option (List ℕ)) → (decide row.size item).1 ≡ y → IsRow (put_item row i y)
    by_new item e None f = k
    by_new item e (Some v) f = (subst (λ n. n ≤ 1048576) (sym (length_set row.items i v)) k.0, each_set (IsItem row.size) row.items i v k.1 (s row.size item v (k.1 i item e) f))

    go : (x : Option (List ℕ)) → slice_get row.items i ≡ x → IsRow (at_found i decide row x).1
    go None e = k
    go (Some item) e = by_new item e (decide row.size item).1 refl

pub set_sized : (v : List ℕ) → IsBytes v → Sized (set_to v)
set_sized v bytes size item new h = go (length v == size) refl
  where
    go : (c : Bool) → (length v == size) ≡ c → (cond {A = Outcome × Option (List ℕ)} c (Ok Done, Some v) (Err Declined, None)).1 ≡ Some new → IsItem size new
    go true e f = subst (IsItem size) (some_one v new f) (eqb-true (length v) size e, bytes)
    go false e f = absurd (cc)

pub done_sized : (t : Operations) → AreUndone t → (code : ℕ) (arg : List ℕ) → IsBytes arg → Sized (λ size item. done_by arg item (record_named t code))
done_sized t law code arg bytes size item new h = by_op (record_named t code) refl
  where
    by_test : (m : RecordMeaning) → record_named t code ≡ Some m → (c : Bool) → m.accepts item arg ≡ c → (cond {A = Outcome × Option (List ℕ)} c (Ok Done, Some (m.after item arg)) (Err Declined, None)).1 ≡ Some new → IsItem size new
    by_test m is true e f =
        let l = law_of t law code m (named_at t code m is) in
        subst (IsItem size) (some_one (m.after item arg) new f) (l.keeps_length item arg h.1 bytes e ∙ h.0, l.leaves_bytes item arg h.1 bytes e)
    by_test m is false e f = absurd (cc)

    by_op : (x : Option RecordMeaning) → record_named t code ≡ x → (done_by arg item x).1 ≡ Some new → IsItem size new
    by_op None is f = absurd (cc)
    by_op (Some m) is f = by_test m is (m.accepts item arg) refl f

pub undone_sized : (t : Operations) → AreUndone t → (code : ℕ) (arg : List ℕ) → IsBytes arg → Sized (λ size item. undone_by arg item (record_at t code))
undone_sized t law code arg bytes size item new h = by_op (record_at t code) refl
  where
    by_test : (m : RecordMeaning) → record_at t code ≡ Some m → (c : Bool)
        → (cond {A = Outcome × Option (List ℕ)} c (Ok Done, Some (m.before item arg)) (Err Declined, None)).1 ≡ Some new → IsItem size new
    by_test m is true g =
        let l = law_of t law code m is in
        subst (IsItem size) (some_one (m.before item arg) new g) (l.undo_keeps_length item arg h.1 bytes ∙ h.0, l.undo_leaves_bytes item arg h.1 bytes)
    by_test m is false g = absurd (cc)

    by_op : (x : Option RecordMeaning) → record_at t code ≡ x → (undone_by arg item x).1 ≡ Some new → IsItem size new
    by_op None is f = absurd (cc)
    by_op (Some m) is f = by_test m is (m.accepts (m.before item arg) arg && bytes_eq (m.after (m.before item arg) arg) item) f

pub short_row : (c : Bool) (f : Row → Outcome × Row) → RowKeeps f → RowKeeps (λ row. cond c (Err TooLong, row) (f row))
short_row true f k row h = h
short_row false f k row h = k row h

-- entries

pub positive : (k : List ℕ) → (length k == 0) ≡ false → 1 ≤ length k
positive k h = go (length k) (eqb-false (length k) 0 h)
  where
    go : (n : ℕ) → (n ≡ 0 → ⊥) → 1 ≤ n
    go zero f = absurd (f refl)
    go (suc n) f = omega arith

abbrev pub IsShort : Entries → Type 0
IsShort m = (k v : List ℕ) → get m k ≡ Some v → IsEntry k v

abbrev pub IsShortUpdate : Update → Type 0
IsShortUpdate Stays = Unit {0}
IsShortUpdate (Becomes v) = length v ≤ 1024
IsShortUpdate Goes = Unit {0}

updated_short : (m : Entries) (k : List ℕ) (u : Update) → 1 ≤ length k → length k ≤ 128 → IsShortUpdate u → IsShort m → IsShort (updated m k u)
updated_short m k Stays low high s h q v e = h q v e
updated_short m k (Becomes x) low high s h q v e = go (bytes_eq k q) refl (sym (get_put m k x q) ∙ e)
  where
    go : (c : Bool) → bytes_eq k q ≡ c → cond c (Some x) (get m q) ≡ Some v → IsEntry q v
    go true same f = subst (λ p. IsEntry p v) (bytes_same k q same) (low, high, subst (λ y. length y ≤ 1024) (some_one x v f) s)
    go false same f = h q v f
updated_short m k Goes low high s h q v e = go (bytes_eq k q) (sym (get_del m k q) ∙ e)
  where
    go : (c : Bool) → cond c None (get m q) ≡ Some v → IsEntry q v
    go true f = absurd (cc)
    go false f = h q v f

pub key_short : (k : List ℕ) (decide : Option (List ℕ) → Outcome × Update) → ((x : Option (List ℕ)) → IsShortUpdate (decide x).1) → (m : Entries) → IsShort m → IsShort (at_key k decide m).1
key_short k decide s m h = go (length k == 0) (nat_lt 128 (length k)) refl refl
  where
    go : (a b : Bool) → (length k == 0) ≡ a → nat_lt 128 (length k) ≡ b → IsShort (cond {A = Outcome × Entries} a (Err OutOfRange, m) (cond {A = Outcome × Entries} b (Err TooLong, m) ((decide (get m k)).0, updated m k (decide (get m k)).1))).1
    go true b e f = h
    go false true e f = h
    go false false e f = updated_short m k (decide (get m k)).1 (positive k e) (lt_not 128 (length k) f) (s (get m k)) h

pub put_short : (v : List ℕ) (x : Option (List ℕ)) → IsShortUpdate (put_value v x).1
put_short v x = go (nat_lt 1024 (length v)) refl
  where
    go : (c : Bool) → nat_lt 1024 (length v) ≡ c → IsShortUpdate (cond {A = Outcome × Update} c (Err TooLong, Stays) (Ok (put_reply x), Becomes v)).1
    go true e = tt
    go false e = lt_not 1024 (length v) e

pub del_short : (x : Option (List ℕ)) → IsShortUpdate (del_value x).1
del_short None = tt
del_short (Some v) = tt

pub find_short : (x : Option (List ℕ)) → IsShortUpdate (found x).1
find_short None = tt
find_short (Some v) = tt

pub forget_short : (x : Option (List ℕ)) → IsShortUpdate (forget x).1
forget_short None = tt
forget_short (Some v) = tt
