-- What the verbs do to an array follows from what they touch of it, and changes nothing else.
use Rattle.std.proofs.Common.{◌≡◌, ℕ, zero, suc, Bool, true, false, cond, not, List, [], ◌∷◌, ◌++◌, length, take, Option, Some, None, Ok, Err, refl, sym, ap, ◌∙◌, ◌⊎◌, subst}
use Rattle.std.proofs.Common.{inl, inr}
use Rattle.std.specs.Prelude.{◌||◌, ◌==◌, nat_lt, slice_get}
use Rattle.std.proofs.lemmas.Bool.{eqb-false, eq-eqb}
use Rattle.sg_serial.specs.Machine.{any_touch}
use Rattle.sg_serial.proofs.Commute.{any_more, or_true}
use Rattle.sg_serial.proofs.Kept.{and_true}
use Rattle.sg_model.specs.Objects.{Row}
use Rattle.sg_model.specs.Verb.{Outcome}
use Rattle.sg_model.specs.Verb.Reply.{Number}
use Rattle.sg_model.specs.declared.reason.Reason.TheVariants.{Declined, TooMany}
use Rattle.sg_model.specs.Step.{put_item, push, pop_item, pop_at, pop, Decision, at_found, at_item}
use Rattle.sg_model.specs.Touches.{Part, same_part, covers_part, Reach, to_read, to_write, seen_row, last_item}
use Rattle.sg_model.specs.Touches.Part.{Kind, Length, Item, Key, Body, Buried}
use Rattle.sg_model.specs.Touches.Region.{Just}
use Rattle.sg_model.proofs.Parts.{reads_part, writes_part, get_set, get_set_other, length_set, get_pushed, get_pushed_other, length_pushed, get_past, length_take, get_taken, get_taken_other, part_same}

abbrev pub AgreeRow : List Reach → Row → Row → Type 0
AgreeRow rs a b = (q : Part) → any_touch reads_part rs q ≡ true → seen_row a q ≡ seen_row b q

pub record RowFollows (change : Row → Outcome × Row) (ts : Row → List Reach) (a b : Row) : Type 0 where
  pub touched : ts b ≡ ts a
  pub given : (change b).0 ≡ (change a).0
  pub changed : (q : Part) → any_touch writes_part (ts a) q ≡ true → seen_row (change b).1 q ≡ seen_row (change a).1 q

pub record RowLaw (change : Row → Outcome × Row) (ts : Row → List Reach) : Type 0 where
  pub size : (a : Row) → (change a).1.size ≡ a.size
  pub frame : (a : Row) (q : Part) → any_touch writes_part (ts a) q ≡ false → seen_row (change a).1 q ≡ seen_row a q
  pub follows : (a b : Row) → a.size ≡ b.size → AgreeRow (ts a) a b → RowFollows change ts a b

-- tests

pub one_true : (b : Bool) → (b || false) ≡ true → b ≡ true
one_true true h = refl
one_true false h = h

pub one_false : (b : Bool) → (b || false) ≡ false → b ≡ false
one_false true h = h
one_false false h = refl

pub true_one : (b : Bool) → b ≡ true → (b || false) ≡ true
true_one true h = refl
true_one false h = h

pub first_false : (a b : Bool) → (a || b) ≡ false → a ≡ false
first_false true b h = h
first_false false b h = refl

pub second_false : (a b : Bool) → (a || b) ≡ false → b ≡ false
second_false true b h = absurd (cc)
second_false false b h = h

-- one item

put_size : (a : Row) (i : ℕ) (v : Option (List ℕ)) → (put_item a i v).size ≡ a.size
put_size a i None = refl
put_size a i (Some v) = refl

put_frame : (a : Row) (i : ℕ) (v : Option (List ℕ)) (q : Part) → (same_part (Item i) q || false) ≡ false → seen_row (put_item a i v) q ≡ seen_row a q
put_frame a i None q h = refl
put_frame a i (Some v) Kind h = refl
put_frame a i (Some v) Length h = length_set a.items i v
put_frame a i (Some v) (Item j) h = get_set_other a.items i j v (eqb-false i j (one_false (i == j) h))
put_frame a i (Some v) (Key k) h = refl
put_frame a i (Some v) Body h = refl
put_frame a i (Some v) (Buried r) h = refl

put_changed : (a b : Row) (i : ℕ) (v : Option (List ℕ)) (item : List ℕ) → slice_get a.items i ≡ Some item → slice_get b.items i ≡ Some item → slice_get (put_item b i v).items i ≡ slice_get (put_item a i v).items i
put_changed a b i None item e f = f ∙ sym e
put_changed a b i (Some v) item e f = get_set b.items i item v f ∙ sym (get_set a.items i item v e)

found_size : (i : ℕ) (d : Decision) (a : Row) (x : Option (List ℕ)) → (at_found i d a x).1.size ≡ a.size
found_size i d a None = refl
found_size i d a (Some item) = put_size a i (d a.size item).1

found_frame : (i : ℕ) (d : Decision) (a : Row) (x : Option (List ℕ)) (q : Part) → (same_part (Item i) q || false) ≡ false → seen_row (at_found i d a x).1 q ≡ seen_row a q
found_frame i d a None q h = refl
found_frame i d a (Some item) q h = put_frame a i (d a.size item).1 q h

found_given : (i : ℕ) (d : Decision) (a b : Row) (x : Option (List ℕ)) → a.size ≡ b.size → (at_found i d b x).0 ≡ (at_found i d a x).0
found_given i d a b None e = refl
found_given i d a b (Some item) e = ap (λ n. (d n item).0) (sym e)

found_changed : (i : ℕ) (d : Decision) (a b : Row) (x : Option (List ℕ)) → a.size ≡ b.size → slice_get a.items i ≡ x → slice_get b.items i ≡ x → slice_get (at_found i d b x).1.items i ≡ slice_get (at_found i d a x).1.items i
found_changed i d a b None s e f = f ∙ sym e
found_changed i d a b (Some item) s e f = ap (λ n. slice_get (put_item b i (d n item).1).items i) (sym s) ∙ put_changed a b i (d a.size item).1 item e f

-- only the item at i
only_item : (i : ℕ) (q : Part) → (same_part (Item i) q || false) ≡ true → Item i ≡ q
only_item i q h = part_same (Item i) q (one_true (same_part (Item i) q) h)

pub item_self : (i : ℕ) → (same_part (Item i) (Item i) || false) ≡ true
item_self i = true_one (i == i) (eq-eqb i i refl)

-- a verb on one item that it writes
pub item_law : (i : ℕ) (d : Decision) → RowLaw (at_item i d) (λ row. to_write (Just (Item i)) ∷ [])
item_law i d = record {
  size = λ a. found_size i d a (slice_get a.items i);
  frame = λ a q h. found_frame i d a (slice_get a.items i) q h;
  follows = λ a b s agree.
      (let x = slice_get a.items i in
      let e : slice_get b.items i ≡ x = sym (agree (Item i) (item_self i)) in
      record {
        touched = refl;
        given = ap (λ y. (at_found i d b y).0) e ∙ found_given i d a b x s;
        changed = λ q h. subst (λ (p : Part). seen_row (at_item i d b).1 p ≡ seen_row (at_item i d a).1 p) (only_item i q h)
            (ap (λ y. slice_get (at_found i d b y).1.items i) e ∙ found_changed i d a b x s refl e);
      });
}

-- a verb on one item that it only reads
read_same : (i : ℕ) (f : List ℕ → Outcome) (a : Row) (x : Option (List ℕ)) → (at_found i (λ size item. (f item, None)) a x).1 ≡ a
read_same i f a None = refl
read_same i f a (Some item) = refl

read_given : (i : ℕ) (f : List ℕ → Outcome) (a b : Row) (x : Option (List ℕ)) → (at_found i (λ size item. (f item, None)) b x).0 ≡ (at_found i (λ size item. (f item, None)) a x).0
read_given i f a b None = refl
read_given i f a b (Some item) = refl

pub read_law : (i : ℕ) (f : List ℕ → Outcome) → RowLaw (at_item i (λ size item. (f item, None))) (λ row. to_read (Just (Item i)) ∷ [])
read_law i f = record {
  size = λ a. ap (λ (r : Row). r.size) (read_same i f a (slice_get a.items i));
  frame = λ a q h. ap (λ (r : Row). seen_row r q) (read_same i f a (slice_get a.items i));
  follows = λ a b s agree. record {
    touched = refl;
    given = ap (λ y. (at_found i (λ size item. (f item, None)) b y).0) (sym (agree (Item i) (item_self i))) ∙ read_given i f a b (slice_get a.items i);
    changed = λ q h. absurd (let e : false ≡ true = h in cc);
  };
}

pub written_read : (r : Reach) (q : Part) → writes_part r q ≡ true → reads_part r q ≡ true
written_read r q h = (and_true r.write (covers_part r.region q) h).1

-- a verb that may refuse before it looks
pub refusing_law : (c : Bool) (out : Outcome) (change : Row → Outcome × Row) (ts : Row → List Reach) → RowLaw change ts → ((a b : Row) → AgreeRow (ts a) a b → ts b ≡ ts a) → RowLaw (λ row. cond c (out, row) (change row)) ts
refusing_law false out change ts law same = law
refusing_law true out change ts law same = record {
  size = λ a. refl;
  frame = λ a q h. refl;
  follows = λ a b s agree. record { touched = same a b agree; given = refl; changed = λ q h. sym (agree q (any_more writes_part reads_part (ts a) q (λ r w. written_read r q w) h)) };
}

-- push

-- the two tests passed or not
pushed : Bool → Bool → List ℕ → Row → Outcome × Row
pushed c d value row = cond c (Err Declined, row) (cond d (Err TooMany, row) (Ok (Number (length row.items)), record row { items = row.items ++ value ∷ [] }))

abbrev push_touches : Row → List Reach
push_touches row = to_write (Just Length) ∷ to_write (Just (Item (length row.items))) ∷ []

pushed_frame : (c d : Bool) (v : List ℕ) (a : Row) (q : Part) → any_touch writes_part (push_touches a) q ≡ false → seen_row (pushed c d v a).1 q ≡ seen_row a q
unfolding pushed
pushed_frame true d v a q h = refl
pushed_frame false true v a q h = refl
pushed_frame false false v a Kind h = refl
pushed_frame false false v a Length h = absurd (let e : true ≡ false = h in cc)
pushed_frame false false v a (Item j) h = get_pushed_other a.items v j (eqb-false (length a.items) j (one_false (length a.items == j) h))
pushed_frame false false v a (Key k) h = refl
pushed_frame false false v a Body h = refl
pushed_frame false false v a (Buried r) h = refl

pushed_size : (c d : Bool) (v : List ℕ) (a : Row) → (pushed c d v a).1.size ≡ a.size
unfolding pushed
pushed_size true d v a = refl
pushed_size false true v a = refl
pushed_size false false v a = refl

pushed_given : (c d : Bool) (v : List ℕ) (a b : Row) → length a.items ≡ length b.items → (pushed c d v b).0 ≡ (pushed c d v a).0
unfolding pushed
pushed_given true d v a b e = refl
pushed_given false true v a b e = refl
pushed_given false false v a b e = ap (λ (n : ℕ). Ok (Number n)) (sym e)

pushed_length : (c d : Bool) (v : List ℕ) (a b : Row) → length a.items ≡ length b.items → length (pushed c d v b).1.items ≡ length (pushed c d v a).1.items
unfolding pushed
pushed_length true d v a b e = sym e
pushed_length false true v a b e = sym e
pushed_length false false v a b e = length_pushed b.items v ∙ (ap suc (sym e) ∙ sym (length_pushed a.items v))

pushed_item : (c d : Bool) (v : List ℕ) (a b : Row) → length a.items ≡ length b.items → slice_get (pushed c d v b).1.items (length a.items) ≡ slice_get (pushed c d v a).1.items (length a.items)
unfolding pushed
pushed_item true d v a b e = ap (λ n. slice_get b.items n) e ∙ (get_past b.items ∙ sym (get_past a.items))
pushed_item false true v a b e = ap (λ n. slice_get b.items n) e ∙ (get_past b.items ∙ sym (get_past a.items))
pushed_item false false v a b e = ap (λ n. slice_get (b.items ++ v ∷ []) n) e ∙ (get_pushed b.items v ∙ sym (get_pushed a.items v))

push_is : (v : List ℕ) (a : Row) → push v a ≡ pushed (not (length v == a.size)) (not (nat_lt (length a.items) 1048576)) v a
unfolding pushed
push_is v a = refl

push_alike : (v : List ℕ) (a b : Row) → a.size ≡ b.size → length a.items ≡ length b.items → push v b ≡ pushed (not (length v == a.size)) (not (nat_lt (length a.items) 1048576)) v b
push_alike v a b s e = push_is v b ∙ (ap (λ n. pushed (not (length v == n)) (not (nat_lt (length b.items) 1048576)) v b) (sym s) ∙ ap (λ n. pushed (not (length v == a.size)) (not (nat_lt n 1048576)) v b) (sym e))

two_parts : (p r q : Part) → (same_part p q || (same_part r q || false)) ≡ true → (p ≡ q) ⊎ (r ≡ q)
two_parts p r q h = elim (or_true (same_part p q) (same_part r q || false) h) [ inl i ↦ inl (part_same p q i) | inr j ↦ inr (part_same r q (one_true (same_part r q) j)) ]

pub push_law : (v : List ℕ) → RowLaw (push v) push_touches
push_law v = record {
  size = λ a. ap (λ (r : Outcome × Row). r.1.size) (push_is v a) ∙ pushed_size (not (length v == a.size)) (not (nat_lt (length a.items) 1048576)) v a;
  frame = λ a q h. ap (λ (r : Outcome × Row). seen_row r.1 q) (push_is v a) ∙ pushed_frame (not (length v == a.size)) (not (nat_lt (length a.items) 1048576)) v a q h;
  follows = λ a b s agree.
      (let e : length a.items ≡ length b.items = agree Length refl in
      let c : Bool = not (length v == a.size) in
      let d : Bool = not (nat_lt (length a.items) 1048576) in
      record {
        touched = ap (λ n. to_write (Just Length) ∷ to_write (Just (Item n)) ∷ []) (sym e);
        given = ap (λ (r : Outcome × Row). r.0) (push_alike v a b s e) ∙ (pushed_given c d v a b e ∙ sym (ap (λ (r : Outcome × Row). r.0) (push_is v a)));
        changed = λ q h. ap (λ (r : Outcome × Row). seen_row r.1 q) (push_alike v a b s e)
            ∙ ((elim (two_parts Length (Item (length a.items)) q h) [
              | inl i ↦ subst (λ (p : Part). seen_row (pushed c d v b).1 p ≡ seen_row (pushed c d v a).1 p) i (pushed_length c d v a b e)
              | inr j ↦ subst (λ (p : Part). seen_row (pushed c d v b).1 p ≡ seen_row (pushed c d v a).1 p) j (pushed_item c d v a b e)
            ])
            ∙ sym (ap (λ (r : Outcome × Row). seen_row r.1 q) (push_is v a)));
      });
}

-- pop

abbrev pop_touches : Row → List Reach
pop_touches row = to_write (Just Length) ∷ last_item (length row.items)

taken_frame : (a : Row) (n : ℕ) (q : Part) → length a.items ≡ suc n → any_touch writes_part (to_write (Just Length) ∷ to_write (Just (Item n)) ∷ []) q ≡ false → seen_row (record a { items = take n a.items }) q ≡ seen_row a q
taken_frame a n Kind e h = refl
taken_frame a n Length e h = absurd (let f : true ≡ false = h in cc)
taken_frame a n (Item j) e h = get_taken_other a.items n j e (eqb-false n j (one_false (n == j) h))
taken_frame a n (Key k) e h = refl
taken_frame a n Body e h = refl
taken_frame a n (Buried r) e h = refl

popped_frame : (a : Row) (n : ℕ) (x : Option (List ℕ)) (q : Part) → length a.items ≡ suc n → any_touch writes_part (to_write (Just Length) ∷ to_write (Just (Item n)) ∷ []) q ≡ false → seen_row (pop_item a n x).1 q ≡ seen_row a q
popped_frame a n None q e h = refl
popped_frame a n (Some item) q e h = taken_frame a n q e h

pop_frame : (a : Row) (m : ℕ) (q : Part) → length a.items ≡ m → any_touch writes_part (to_write (Just Length) ∷ last_item m) q ≡ false → seen_row (pop_at a m).1 q ≡ seen_row a q
pop_frame a zero q e h = refl
pop_frame a (suc n) q e h = popped_frame a n (slice_get a.items n) q e h

pop_item_size : (a : Row) (n : ℕ) (x : Option (List ℕ)) → (pop_item a n x).1.size ≡ a.size
pop_item_size a n None = refl
pop_item_size a n (Some item) = refl

pop_size : (a : Row) (m : ℕ) → (pop_at a m).1.size ≡ a.size
pop_size a zero = refl
pop_size a (suc n) = pop_item_size a n (slice_get a.items n)

popped_given : (a b : Row) (n : ℕ) (x : Option (List ℕ)) → (pop_item b n x).0 ≡ (pop_item a n x).0
popped_given a b n None = refl
popped_given a b n (Some item) = refl

popped_length : (a b : Row) (n : ℕ) (x : Option (List ℕ)) → length a.items ≡ suc n → length b.items ≡ suc n → length (pop_item b n x).1.items ≡ length (pop_item a n x).1.items
popped_length a b n None e f = f ∙ sym e
popped_length a b n (Some item) e f = length_take b.items n f ∙ sym (length_take a.items n e)

popped_item : (a b : Row) (n : ℕ) (x : Option (List ℕ)) → slice_get a.items n ≡ x → slice_get b.items n ≡ x → slice_get (pop_item b n x).1.items n ≡ slice_get (pop_item a n x).1.items n
popped_item a b n None e f = f ∙ sym e
popped_item a b n (Some item) e f = get_taken b.items n ∙ sym (get_taken a.items n)

pop_follows : (a b : Row) (m : ℕ) → length a.items ≡ m → length b.items ≡ m → AgreeRow (to_write (Just Length) ∷ last_item m) a b
    → ((pop_at b m).0 ≡ (pop_at a m).0) × ((q : Part) → any_touch writes_part (to_write (Just Length) ∷ last_item m) q ≡ true → seen_row (pop_at b m).1 q ≡ seen_row (pop_at a m).1 q)
pop_follows a b zero e f agree = (refl, (λ q h. subst (λ (p : Part). seen_row b p ≡ seen_row a p) (part_same Length q (one_true (same_part Length q) h)) (f ∙ sym e)))
pop_follows a b (suc n) e f agree =
    let x = slice_get a.items n in
    let g : slice_get b.items n ≡ x = sym (agree (Item n) (item_self n)) in
    let here : pop_at b (suc n) ≡ pop_item b n x = ap (λ y. pop_item b n y) g in (
      ap (λ (r : Outcome × Row). r.0) here ∙ popped_given a b n x,
      (λ q h. ap (λ (r : Outcome × Row). seen_row r.1 q) here ∙ (elim (two_parts Length (Item n) q h) [
        | inl i ↦ subst (λ (p : Part). seen_row (pop_item b n x).1 p ≡ seen_row (pop_item a n x).1 p) i (popped_length a b n x e f)
        | inr j ↦ subst (λ (p : Part). seen_row (pop_item b n x).1 p ≡ seen_row (pop_item a n x).1 p) j (popped_item a b n x refl g)
      ])),
    )

pub pop_law : RowLaw pop pop_touches
pop_law = record {
  size = λ a. pop_size a (length a.items);
  frame = λ a q h. pop_frame a (length a.items) q refl h;
  follows = λ a b s agree.
      (let e : length b.items ≡ length a.items = sym (agree Length refl) in
      let r = pop_follows a b (length a.items) refl e agree in
      record {
        touched = ap (λ n. to_write (Just Length) ∷ last_item n) e;
        given = ap (λ n. (pop_at b n).0) e ∙ r.0;
        changed = λ q h. ap (λ n. seen_row (pop_at b n).1 q) e ∙ r.1 q h;
      });
}
