-- What the verbs do to one object follows from what they touch of it, and changes nothing else.
use Rattle.std.proofs.Common.{◌≡◌, ℕ, Bool, true, false, cond, List, [], ◌∷◌, length, Option, Some, None, Ok, Err, refl, sym, ap, ◌∙◌, subst}
use Rattle.std.specs.Prelude.{◌||◌, ◌&&◌, ◌==◌, nat_lt}
use Rattle.std.specs.Str.{bytes_eq}
use Rattle.std.specs.FinMap.{get, keys}
use Rattle.sg_serial.specs.Machine.{any_touch}
use Rattle.sg_ops.specs.Table.{Table as Operations}
use Rattle.sg_model.specs.Objects.{Row, Entries, Object}
use Rattle.sg_model.specs.Verb.{Outcome, Verb}
use Rattle.sg_model.specs.Objects.Object.{Array, Table, Blob}
use Rattle.sg_model.specs.Verb.Verb.{MakeArray, MakeTable, MakeBlob, Discard, Push, Pop, Set, Get, Len, Apply, Put, Del, Find, Keys, Write, Read, Size, Paint}
use Rattle.sg_model.specs.Verb.Reply.{Number, Bytes, Several}
use Rattle.sg_model.specs.declared.reason.Reason.TheVariants.{OutOfRange, TooLong}
use Rattle.sg_model.specs.Step.{record_named, push, pop, at_item, set_to, apply, done_by, Update, updated, at_key, put_value, del_value, found, write, read, resize, paint, Change, on_array, on_table, on_blob, len, on}
use Rattle.sg_model.specs.Step.Update.{Stays, Becomes, Goes}
use Rattle.sg_model.specs.Touches.{Part, same_part, covers_part, Reach, to_read, to_write, seen, seen_entries, seen_blob, on_key, array_touches, table_touches, blob_touches, further, reach_of}
use Rattle.sg_model.specs.Touches.Part.{Kind, Length, Item, Key, Body, Buried}
use Rattle.sg_model.specs.Touches.Region.{Just, EachKey, Everything}
use Rattle.sg_model.proofs.Parts.{reads_part, writes_part, get_put, get_del, same_entries, bytes_self, same_lists, part_same}
use Rattle.sg_model.proofs.Items.{RowFollows, RowLaw, one_true, one_false, true_one, item_law, read_law, refusing_law, push_law, pop_law}

pub never : {A : Type 0} → false ≡ true → A
never h = absurd (cc)

never_true : {A : Type 0} → true ≡ false → A
never_true h = absurd (cc)

-- Tables

pub record TableLaw (change : Entries → Outcome × Entries) (ts : List Reach) : Type 0 where
  pub frame : (m : Entries) (q : Part) → any_touch writes_part ts q ≡ false → seen_entries (change m).1 q ≡ seen_entries m q
  pub given : (m n : Entries) → ((q : Part) → any_touch reads_part ts q ≡ true → seen_entries m q ≡ seen_entries n q) → (change n).0 ≡ (change m).0
  pub changed : (m n : Entries) → ((q : Part) → any_touch reads_part ts q ≡ true → seen_entries m q ≡ seen_entries n q) → (q : Part) → any_touch writes_part ts q ≡ true → seen_entries (change n).1 q ≡ seen_entries (change m).1 q

pub key_self : (k : List ℕ) → (same_part (Key k) (Key k) || false) ≡ true
key_self k = true_one (bytes_eq k k) (bytes_self k)

updated_frame : (m : Entries) (k : List ℕ) (u : Update) (q : Part) → (same_part (Key k) q || false) ≡ false → seen_entries (updated m k u) q ≡ seen_entries m q
updated_frame m k Stays q h = refl
updated_frame m k u Kind h = refl
updated_frame m k u Length h = refl
updated_frame m k u (Item i) h = refl
updated_frame m k u Body h = refl
updated_frame m k u (Buried r) h = refl
updated_frame m k (Becomes v) (Key l) h = get_put m k v l ∙ ap (λ b. cond b (Some v) (get m l)) (one_false (bytes_eq k l) h)
updated_frame m k Goes (Key l) h = get_del m k l ∙ ap (λ b. cond b None (get m l)) (one_false (bytes_eq k l) h)

updated_key : (m n : Entries) (k : List ℕ) (u : Update) → get n k ≡ get m k → get (updated n k u) k ≡ get (updated m k u) k
updated_key m n k Stays e = e
updated_key m n k (Becomes v) e = get_put n k v k ∙ (ap (λ b. cond b (Some v) (get n k)) (bytes_self k) ∙ sym (get_put m k v k ∙ ap (λ b. cond b (Some v) (get m k)) (bytes_self k)))
updated_key m n k Goes e = get_del n k k ∙ (ap (λ b. cond b None (get n k)) (bytes_self k) ∙ sym (get_del m k k ∙ ap (λ b. cond b None (get m k)) (bytes_self k)))

module _ (k : List ℕ) (decide : Option (List ℕ) → Outcome × Update) where
  keyed : Bool → Bool → Entries → Outcome × Entries
  keyed b c m = cond b (Err OutOfRange, m) (cond c (Err TooLong, m) (let r = decide (get m k) in (r.0, updated m k r.1)))

  keyed_law : (b c : Bool) → TableLaw (keyed b c) (cond b [] (cond c [] (to_write (Just (Key k)) ∷ [])))
  unfolding keyed
  keyed_law true c = record { frame = λ m q h. refl; given = λ m n a. refl; changed = λ m n a q h. never h }
  keyed_law false true = record { frame = λ m q h. refl; given = λ m n a. refl; changed = λ m n a q h. never h }
  keyed_law false false = record {
    frame = λ m q h. updated_frame m k (decide (get m k)).1 q h;
    given = λ m n a. ap (λ x. (decide x).0) (sym (a (Key k) (key_self k)));
    changed = λ m n a q h. subst (λ (p : Part). seen_entries (keyed false false n).1 p ≡ seen_entries (keyed false false m).1 p) (part_same (Key k) q (one_true (same_part (Key k) q) h))
        (let e : get n k ≡ get m k = sym (a (Key k) (key_self k)) in ap (λ x. get (updated n k (decide x).1) k) e ∙ updated_key m n k (decide (get m k)).1 e);
  }

  pub key_law : TableLaw (at_key k decide) (on_key k (to_write (Just (Key k))))
  unfolding keyed
  key_law = keyed_law (length k == 0) (nat_lt 128 (length k))

  -- where the key always stays as it is
  module _ (stays : (x : Option (List ℕ)) → (decide x).1 ≡ Stays) where
    same_table : (b c : Bool) (m : Entries) → (keyed b c m).1 ≡ m
    unfolding keyed
    same_table true c m = refl
    same_table false true m = refl
    same_table false false m = ap (λ u. updated m k u) (stays (get m k))

    keyed_read : (b c : Bool) → TableLaw (keyed b c) (cond b [] (cond c [] (to_read (Just (Key k)) ∷ [])))
    unfolding keyed
    keyed_read true c = record { frame = λ m q h. refl; given = λ m n a. refl; changed = λ m n a q h. never h }
    keyed_read false true = record { frame = λ m q h. refl; given = λ m n a. refl; changed = λ m n a q h. never h }
    keyed_read false false = record {
      frame = λ m q h. ap (λ (x : Entries). seen_entries x q) (same_table false false m);
      given = λ m n a. ap (λ x. (decide x).0) (sym (a (Key k) (key_self k)));
      changed = λ m n a q h. never h;
    }

    pub key_read_law : TableLaw (at_key k decide) (on_key k (to_read (Just (Key k))))
    unfolding keyed
    key_read_law = keyed_read (length k == 0) (nat_lt 128 (length k))

found_stays : (x : Option (List ℕ)) → (found x).1 ≡ Stays
found_stays None = refl
found_stays (Some v) = refl

keys_law : TableLaw (λ m. (Ok (Several (keys m)), m)) (to_read EachKey ∷ [])
keys_law = record {
  frame = λ m q h. refl;
  given = λ m n a. ap (λ (x : Entries). Ok (Several (keys x))) (same_entries n m (λ k. sym (a (Key k) refl)));
  changed = λ m n a q h. never h;
}

-- Objects

pub record SlotLaw (change : Option Object → Change) (ts : Option Object → List Reach) : Type 0 where
  pub frame : (o : Option Object) (q : Part) → any_touch writes_part (ts o) q ≡ false → seen (change o).1 q ≡ seen o q
  pub touched : (o p : Option Object) → ((q : Part) → any_touch reads_part (ts o) q ≡ true → seen o q ≡ seen p q) → ts p ≡ ts o
  pub given : (o p : Option Object) → ((q : Part) → any_touch reads_part (ts o) q ≡ true → seen o q ≡ seen p q) → (change p).0 ≡ (change o).0
  pub changed : (o p : Option Object) → ((q : Part) → any_touch reads_part (ts o) q ≡ true → seen o q ≡ seen p q) → (q : Part) → any_touch writes_part (ts o) q ≡ true → seen (change p).1 q ≡ seen (change o).1 q

-- objects of one kind
pub data Alike : Option Object → Option Object → Type 0 where
  nothings : Alike None None
  arrays : {a b : Row} → a.size ≡ b.size → Alike (Some (Array a)) (Some (Array b))
  tables : {m n : Entries} → Alike (Some (Table m)) (Some (Table n))
  blobs : {x y : List ℕ} → Alike (Some (Blob x)) (Some (Blob y))

pub alike : (o p : Option Object) → seen o Kind ≡ seen p Kind → Alike o p
alike None None h = nothings
alike (Some (Array a)) (Some (Array b)) h = arrays (cc)
alike (Some (Table m)) (Some (Table n)) h = tables
alike (Some (Blob x)) (Some (Blob y)) h = blobs
alike None (Some (Array b)) h = absurd (cc)
alike None (Some (Table b)) h = absurd (cc)
alike None (Some (Blob b)) h = absurd (cc)
alike (Some (Array a)) None h = absurd (cc)
alike (Some (Array a)) (Some (Table b)) h = absurd (cc)
alike (Some (Array a)) (Some (Blob b)) h = absurd (cc)
alike (Some (Table a)) None h = absurd (cc)
alike (Some (Table a)) (Some (Array b)) h = absurd (cc)
alike (Some (Table a)) (Some (Blob b)) h = absurd (cc)
alike (Some (Blob a)) None h = absurd (cc)
alike (Some (Blob a)) (Some (Array b)) h = absurd (cc)
alike (Some (Blob a)) (Some (Table b)) h = absurd (cc)

row_same : (a b : Row) → a.size ≡ b.size → a.items ≡ b.items → a ≡ b
row_same a b e f = ap (λ n. record { size = n; items = a.items }) e ∙ ap (λ (xs : List (List ℕ)). record { size = b.size; items = xs }) f

-- objects that show the same are the same
pub same_objects : {o p : Option Object} → Alike o p → ((q : Part) → seen o q ≡ seen p q) → o ≡ p
same_objects nothings h = refl
same_objects (arrays {a = a} {b = b} e) h = ap (λ (r : Row). Some (Array r)) (row_same a b e (same_lists a.items b.items (λ i. h (Item i))))
same_objects (tables {m = m} {n = n}) h = ap (λ (x : Entries). Some (Table x)) (same_entries m n (λ k. h (Key k)))
same_objects blobs h = ap (λ (x : List ℕ). Some (Blob x)) (h Body)

pub exact_object : (o p : Option Object) → ((q : Part) → seen o q ≡ seen p q) → o ≡ p
exact_object o p h = same_objects (alike o p (h Kind)) h

-- a verb that touches everything
everything_law : (change : Option Object → Change) → SlotLaw change (λ o. to_write Everything ∷ [])
everything_law change = record {
  frame = λ o q h. never_true h;
  touched = λ o p a. refl;
  given = λ o p a. ap (λ (x : Option Object). (change x).0) (exact_object p o (λ q. sym (a q refl)));
  changed = λ o p a q h. ap (λ (x : Option Object). seen (change x).1 q) (exact_object p o (λ r. sym (a r refl)));
}

module _ (ts : Row → List Reach) where
  abbrev array_reach : Option Object → List Reach
  array_reach None = to_read (Just Kind) ∷ []
  array_reach (Some (Array row)) = to_read (Just Kind) ∷ ts row
  array_reach (Some (Table m)) = to_read (Just Kind) ∷ []
  array_reach (Some (Blob x)) = to_read (Just Kind) ∷ []

abbrev table_reach : List Reach → Option Object → List Reach
table_reach ts None = to_read (Just Kind) ∷ []
table_reach ts (Some (Array row)) = to_read (Just Kind) ∷ []
table_reach ts (Some (Table m)) = to_read (Just Kind) ∷ ts
table_reach ts (Some (Blob x)) = to_read (Just Kind) ∷ []

abbrev blob_reach : List Reach → Option Object → List Reach
blob_reach ts None = to_read (Just Kind) ∷ []
blob_reach ts (Some (Array row)) = to_read (Just Kind) ∷ []
blob_reach ts (Some (Table m)) = to_read (Just Kind) ∷ []
blob_reach ts (Some (Blob x)) = to_read (Just Kind) ∷ ts

more_read : (ts : List Reach) (q : Part) → any_touch reads_part ts q ≡ true → any_touch reads_part (to_read (Just Kind) ∷ ts) q ≡ true
more_read ts q h = more (covers_part (Just Kind) q) (any_touch reads_part ts q) h
  where
    more : (a b : Bool) → b ≡ true → (a || b) ≡ true
    more true b h = refl
    more false b h = h

module _ (f : Row → Outcome × Row) (ts : Row → List Reach) (law : RowLaw f ts) where
  array_frame : (o : Option Object) (q : Part) → any_touch writes_part (array_reach ts o) q ≡ false → seen (on_array f o).1 q ≡ seen o q
  array_frame None q h = refl
  array_frame (Some (Array a)) q h = law.frame a q h
  array_frame (Some (Table m)) q h = refl
  array_frame (Some (Blob x)) q h = refl

  abbrev ArrayFollows : Option Object → Option Object → Type 0
  ArrayFollows o p = (array_reach ts p ≡ array_reach ts o) × ((on_array f p).0 ≡ (on_array f o).0) × ((q : Part) → any_touch writes_part (array_reach ts o) q ≡ true → seen (on_array f p).1 q ≡ seen (on_array f o).1 q)

  array_kind : (o : Option Object) → any_touch reads_part (array_reach ts o) Kind ≡ true
  array_kind None = refl
  array_kind (Some (Array a)) = refl
  array_kind (Some (Table m)) = refl
  array_kind (Some (Blob x)) = refl

  array_follows : {o p : Option Object} → Alike o p → ((q : Part) → any_touch reads_part (array_reach ts o) q ≡ true → seen o q ≡ seen p q) → ArrayFollows o p
  array_follows nothings h = (refl, refl, (λ q w. never w))
  array_follows tables h = (refl, refl, (λ q w. never w))
  array_follows blobs h = (refl, refl, (λ q w. never w))
  array_follows (arrays {a = a} {b = b} e) h =
      let r : RowFollows f ts a b = law.follows a b e (λ q y. h q (more_read (ts a) q y)) in
      (ap (λ rs. to_read (Just Kind) ∷ rs) r.touched, r.given, r.changed)

  array_law : SlotLaw (on_array f) (array_reach ts)
  array_law = record {
    frame = array_frame;
    touched = λ o p h. (array_follows (alike o p (h Kind (array_kind o))) h).0;
    given = λ o p h. (array_follows (alike o p (h Kind (array_kind o))) h).1;
    changed = λ o p h. (array_follows (alike o p (h Kind (array_kind o))) h).2;
  }

module _ (f : Entries → Outcome × Entries) (ts : List Reach) (law : TableLaw f ts) where
  table_frame : (o : Option Object) (q : Part) → any_touch writes_part (table_reach ts o) q ≡ false → seen (on_table f o).1 q ≡ seen o q
  table_frame None q h = refl
  table_frame (Some (Array a)) q h = refl
  table_frame (Some (Table m)) q h = law.frame m q h
  table_frame (Some (Blob x)) q h = refl

  table_kind : (o : Option Object) → any_touch reads_part (table_reach ts o) Kind ≡ true
  table_kind None = refl
  table_kind (Some (Array a)) = refl
  table_kind (Some (Table m)) = refl
  table_kind (Some (Blob x)) = refl

  table_follows : {o p : Option Object} → Alike o p → ((q : Part) → any_touch reads_part (table_reach ts o) q ≡ true → seen o q ≡ seen p q)
      → (table_reach ts p ≡ table_reach ts o) × ((on_table f p).0 ≡ (on_table f o).0) × ((q : Part) → any_touch writes_part (table_reach ts o) q ≡ true → seen (on_table f p).1 q ≡ seen (on_table f o).1 q)
  table_follows nothings h = (refl, refl, (λ q w. never w))
  table_follows (arrays e) h = (refl, refl, (λ q w. never w))
  table_follows blobs h = (refl, refl, (λ q w. never w))
  table_follows (tables {m = m} {n = n}) h = (refl, law.given m n (λ q y. h q (more_read ts q y)), law.changed m n (λ q y. h q (more_read ts q y)))

  table_law : SlotLaw (on_table f) (table_reach ts)
  table_law = record {
    frame = table_frame;
    touched = λ o p h. (table_follows (alike o p (h Kind (table_kind o))) h).0;
    given = λ o p h. (table_follows (alike o p (h Kind (table_kind o))) h).1;
    changed = λ o p h. (table_follows (alike o p (h Kind (table_kind o))) h).2;
  }

-- whether a blob is written or only read, its verb touches all of it
module _ (f : List ℕ → Outcome × List ℕ) (w : Bool) (kept : w ≡ false → (x : List ℕ) → (f x).1 ≡ x) where
  abbrev body : List Reach
  body = record { region = Just Body; write = w } ∷ []

  blob_seen : (v : Bool) → w ≡ v → (x : List ℕ) (q : Part) → ((v && same_part Body q) || false) ≡ false → seen_blob (f x).1 q ≡ seen_blob x q
  blob_seen v e x Kind h = refl
  blob_seen v e x Length h = refl
  blob_seen v e x (Item i) h = refl
  blob_seen v e x (Key k) h = refl
  blob_seen v e x (Buried r) h = refl
  blob_seen true e x Body h = never_true h
  blob_seen false e x Body h = kept e x

  blob_frame : (o : Option Object) (q : Part) → any_touch writes_part (blob_reach body o) q ≡ false → seen (on_blob f o).1 q ≡ seen o q
  blob_frame None q h = refl
  blob_frame (Some (Array a)) q h = refl
  blob_frame (Some (Table m)) q h = refl
  blob_frame (Some (Blob x)) q h = blob_seen w refl x q h

  blob_kind : (o : Option Object) → any_touch reads_part (blob_reach body o) Kind ≡ true
  blob_kind None = refl
  blob_kind (Some (Array a)) = refl
  blob_kind (Some (Table m)) = refl
  blob_kind (Some (Blob x)) = refl

  blob_follows : {o p : Option Object} → Alike o p → ((q : Part) → any_touch reads_part (blob_reach body o) q ≡ true → seen o q ≡ seen p q)
      → (blob_reach body p ≡ blob_reach body o) × ((on_blob f p).0 ≡ (on_blob f o).0) × ((q : Part) → any_touch writes_part (blob_reach body o) q ≡ true → seen (on_blob f p).1 q ≡ seen (on_blob f o).1 q)
  blob_follows nothings h = (refl, refl, (λ q w. never w))
  blob_follows (arrays e) h = (refl, refl, (λ q w. never w))
  blob_follows tables h = (refl, refl, (λ q w. never w))
  blob_follows (blobs {x = x} {y = y}) h = (refl, ap (λ z. (f z).0) (sym (h Body refl)), (λ q w. ap (λ z. seen_blob (f z).1 q) (sym (h Body refl))))

  blob_law : SlotLaw (on_blob f) (blob_reach body)
  blob_law = record {
    frame = blob_frame;
    touched = λ o p h. (blob_follows (alike o p (h Kind (blob_kind o))) h).0;
    given = λ o p h. (blob_follows (alike o p (h Kind (blob_kind o))) h).1;
    changed = λ o p h. (blob_follows (alike o p (h Kind (blob_kind o))) h).2;
  }

no_write : (o : Option Object) (q : Part) → any_touch writes_part (to_read (Just Kind) ∷ further Len o) q ≡ true → ⊥
no_write None q h = never h
no_write (Some (Array a)) q h = never h
no_write (Some (Table a)) q h = never h
no_write (Some (Blob a)) q h = never h

len_follows : {o p : Option Object} → Alike o p → ((q : Part) → any_touch reads_part (to_read (Just Kind) ∷ further Len o) q ≡ true → seen o q ≡ seen p q) → (further Len p ≡ further Len o) × (len p ≡ len o)
len_follows nothings h = (refl, refl)
len_follows (arrays e) h = (refl, ap (λ n. Ok (Number n)) (sym (h Length refl)))
len_follows tables h = (refl, refl)
len_follows blobs h = (refl, ap (λ (x : List ℕ). Ok (Number (length x))) (sym (h Body refl)))

len_law : SlotLaw (λ o. (len o, o)) (λ o. to_read (Just Kind) ∷ further Len o)
len_law = record {
  frame = λ o q h. refl;
  touched = λ o p h. ap (λ rs. to_read (Just Kind) ∷ rs) (len_follows (alike o p (h Kind refl)) h).0;
  given = λ o p h. (len_follows (alike o p (h Kind refl)) h).1;
  changed = λ o p h q w. absurd (no_write o q w);
}

apply_law : (t : Operations) (i code : ℕ) (arg : List ℕ) → RowLaw (apply t i code arg) (λ row. to_write (Just (Item i)) ∷ [])
apply_law t i code arg = refusing_law (nat_lt 256 (length arg)) (Err TooLong) (at_item i (λ size item. done_by arg item (record_named t code))) (λ row. to_write (Just (Item i)) ∷ []) (item_law i (λ size item. done_by arg item (record_named t code))) (λ a b h. refl)

-- touches that are the same at each object
with_touches : (change : Option Object → Change) (ts us : Option Object → List Reach) → ((o : Option Object) → ts o ≡ us o) → SlotLaw change ts → SlotLaw change us
with_touches change ts us e law = subst (λ (rs : Option Object → List Reach). SlotLaw change rs) (λ i o. e o i) law

pub as_array : (verb : Verb) (f : Row → Outcome × Row) → ((m : Option Object) → table_touches verb ≡ []) → blob_touches verb ≡ [] → RowLaw f (array_touches verb) → SlotLaw (on_array f) (λ o. to_read (Just Kind) ∷ further verb o)
as_array verb f no_table no_blob law = with_touches (on_array f) (array_reach (array_touches verb)) (λ o. to_read (Just Kind) ∷ further verb o) same (array_law f (array_touches verb) law)
  where
    same : (o : Option Object) → array_reach (array_touches verb) o ≡ to_read (Just Kind) ∷ further verb o
    same None = refl
    same (Some (Array a)) = refl
    same (Some (Table m)) = ap (λ rs. to_read (Just Kind) ∷ rs) (sym (no_table None))
    same (Some (Blob x)) = ap (λ rs. to_read (Just Kind) ∷ rs) (sym no_blob)

pub as_table : (verb : Verb) (f : Entries → Outcome × Entries) → ((a : Row) → array_touches verb a ≡ []) → blob_touches verb ≡ [] → TableLaw f (table_touches verb) → SlotLaw (on_table f) (λ o. to_read (Just Kind) ∷ further verb o)
as_table verb f no_array no_blob law = with_touches (on_table f) (table_reach (table_touches verb)) (λ o. to_read (Just Kind) ∷ further verb o) same (table_law f (table_touches verb) law)
  where
    same : (o : Option Object) → table_reach (table_touches verb) o ≡ to_read (Just Kind) ∷ further verb o
    same None = refl
    same (Some (Array a)) = ap (λ rs. to_read (Just Kind) ∷ rs) (sym (no_array a))
    same (Some (Table m)) = refl
    same (Some (Blob x)) = ap (λ rs. to_read (Just Kind) ∷ rs) (sym no_blob)

pub as_blob : (verb : Verb) (f : List ℕ → Outcome × List ℕ) (w : Bool) → ((a : Row) → array_touches verb a ≡ []) → table_touches verb ≡ [] → blob_touches verb ≡ record { region = Just Body; write = w } ∷ [] → (w ≡ false → (x : List ℕ) → (f x).1 ≡ x) → SlotLaw (on_blob f) (λ o. to_read (Just Kind) ∷ further verb o)
as_blob verb f w no_array no_table is kept = with_touches (on_blob f) (blob_reach (body f w kept)) (λ o. to_read (Just Kind) ∷ further verb o) same (blob_law f w kept)
  where
    same : (o : Option Object) → blob_reach (body f w kept) o ≡ to_read (Just Kind) ∷ further verb o
    same None = refl
    same (Some (Array a)) = ap (λ rs. to_read (Just Kind) ∷ rs) (sym (no_array a))
    same (Some (Table m)) = ap (λ rs. to_read (Just Kind) ∷ rs) (sym no_table)
    same (Some (Blob x)) = ap (λ rs. to_read (Just Kind) ∷ rs) (sym is)

-- what each verb does to an object follows from what it touches, and changes nothing else
pub verb_law : (t : Operations) (verb : Verb) → SlotLaw (on t verb) (reach_of verb)
verb_law t (MakeArray size) = everything_law (on t (MakeArray size))
verb_law t MakeTable = everything_law (on t MakeTable)
verb_law t MakeBlob = everything_law (on t MakeBlob)
verb_law t Discard = everything_law (on t Discard)
verb_law t (Push v) = as_array (Push v) (push v) (λ m. refl) refl (push_law v)
verb_law t Pop = as_array Pop pop (λ m. refl) refl pop_law
verb_law t (Set i v) = as_array (Set i v) (at_item i (set_to v)) (λ m. refl) refl (item_law i (set_to v))
verb_law t (Get i) = as_array (Get i) (at_item i (λ size item. (Ok (Bytes item), None))) (λ m. refl) refl (read_law i (λ item. Ok (Bytes item)))
verb_law t Len = len_law
verb_law t (Apply i code arg) = as_array (Apply i code arg) (apply t i code arg) (λ m. refl) refl (apply_law t i code arg)
verb_law t (Put k v) = as_table (Put k v) (at_key k (put_value v)) (λ a. refl) refl (key_law k (put_value v))
verb_law t (Del k) = as_table (Del k) (at_key k del_value) (λ a. refl) refl (key_law k del_value)
verb_law t (Find k) = as_table (Find k) (at_key k found) (λ a. refl) refl (key_read_law k found found_stays)
verb_law t Keys = as_table Keys (λ m. (Ok (Several (keys m)), m)) (λ a. refl) refl keys_law
verb_law t (Write at bytes) = as_blob (Write at bytes) (write at bytes) true (λ a. refl) refl refl (λ e x. never_true e)
verb_law t (Read at count) = as_blob (Read at count) (λ blob. (read at count blob, blob)) false (λ a. refl) refl refl (λ e x. refl)
verb_law t (Size n) = as_blob (Size n) (resize n) true (λ a. refl) refl refl (λ e x. never_true e)
verb_law t (Paint at count code arg) = as_blob (Paint at count code arg) (paint t at count code arg) true (λ a. refl) refl refl (λ e x. never_true e)
