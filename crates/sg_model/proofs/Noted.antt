-- What undoes an operation follows from what it touches, and takes back what was done last.
use Rattle.std.proofs.Common.{◌≡◌, ℕ, zero, suc, Bool, true, false, cond, List, [], ◌∷◌, length, Option, Some, Err, refl, sym, ap, ◌∙◌}
use Rattle.std.specs.Prelude.{◌==◌, nat_lt}
use Rattle.std.specs.Str.{bytes_eq}
use Rattle.std.specs.FinMap.{get}
use Rattle.sg_serial.specs.Machine.{any_touch, HasFootprint}
use Rattle.sg_serial.specs.Locks.{reads, writes}
use Rattle.sg_serial.proofs.Kept.{same_bool}
use Rattle.sg_ops.specs.Table.{Table as Operations}
use Rattle.sg_model.specs.Objects.{Row, Entries, Object, Objects}
use Rattle.sg_model.specs.Verb.{Verb, Op, Outcome}
use Rattle.sg_model.specs.Objects.Object.{Array, Table, Blob}
use Rattle.sg_model.specs.Verb.Verb.{MakeArray, MakeTable, MakeBlob, Discard, Push, Pop, Set, Get, Len, Apply, Put, Del, Find, Keys, Write, Read, Size, Paint}
use Rattle.sg_model.specs.Verb.Op.{On, Names}
use Rattle.sg_model.specs.declared.reason.Reason.TheVariants.{OutOfRange, TooLong}
use Rattle.sg_model.specs.Step.{Update, updated, put_value, del_value, on, put_at, step}
use Rattle.sg_model.specs.Touches.{Part, Reach, to_read, to_write, seen, seen_row, seen_entries, cell, last_item, reach_of, touches, covers}
use Rattle.sg_model.specs.Touches.Part.{Kind, Length, Item, Key, Body}
use Rattle.sg_model.specs.Touches.Region.{Just}
use Rattle.sg_model.specs.Undo.{Note, note_item, note_last, note_popped, note_put, note_del, note_blob, note_object, if_replied, note_of, undo, OpNote, note_of_op, noted_step, unstep, undo_on}
use Rattle.sg_model.specs.Laws.{StepsAreUndoable}
use Rattle.sg_model.proofs.Parts.{reads_part, same_entries, bytes_self, bytes_same}
use Rattle.sg_model.proofs.Items.{item_self}
use Rattle.sg_model.proofs.Slots.{verb_law, Alike, alike, exact_object, key_self}
use Rattle.sg_model.proofs.Slots.Alike.{nothings, arrays, tables, blobs}
use Rattle.sg_model.proofs.Footprint.{CellValue, footprint, get_put_at, AgreeOn, agree_part}
use Rattle.sg_model.proofs.Refused.{put_same}
use Rattle.sg_model.proofs.Undoing.{undo_law}

abbrev AgreeReach : List Reach → Option Object → Option Object → Type 0
AgreeReach rs o p = (q : Part) → any_touch reads_part rs q ≡ true → seen o q ≡ seen p q

pop_note : (a b : Row) (m : ℕ) → ((q : Part) → any_touch reads_part (to_read (Just Kind) ∷ to_write (Just Length) ∷ last_item m) q ≡ true → seen_row a q ≡ seen_row b q) → note_last m b ≡ note_last m a
pop_note a b zero h = refl
pop_note a b (suc n) h = ap note_popped (sym (h (Item n) (item_self n)))

array_notes : (t : Operations) (verb : Verb) (a b : Row) → AgreeReach (reach_of verb (Some (Array a))) (Some (Array a)) (Some (Array b)) → note_object verb (Some (Array b)) ≡ note_object verb (Some (Array a))
array_notes t (MakeArray n) a b h = refl
array_notes t MakeTable a b h = refl
array_notes t MakeBlob a b h = refl
array_notes t Discard a b h = ap (λ (o : Option Object). note_object Discard o) (sym (exact_object (Some (Array a)) (Some (Array b)) (λ q. h q refl)))
array_notes t (Push v) a b h = refl
array_notes t Pop a b h = ap (λ n. note_last n b) (sym (h Length refl)) ∙ pop_note a b (length a.items) h
array_notes t (Set i v) a b h = ap (note_item i) (sym (h (Item i) (item_self i)))
array_notes t (Get i) a b h = refl
array_notes t Len a b h = refl
array_notes t (Apply i code arg) a b h = ap (note_item i) (sym (h (Item i) (item_self i)))
array_notes t (Put k v) a b h = refl
array_notes t (Del k) a b h = refl
array_notes t (Find k) a b h = refl
array_notes t Keys a b h = refl
array_notes t (Write at bytes) a b h = refl
array_notes t (Read at count) a b h = refl
array_notes t (Size n) a b h = refl
array_notes t (Paint at count code arg) a b h = refl

blob_notes : (t : Operations) (verb : Verb) (a b : List ℕ) → AgreeReach (reach_of verb (Some (Blob a))) (Some (Blob a)) (Some (Blob b)) → note_object verb (Some (Blob b)) ≡ note_object verb (Some (Blob a))
blob_notes t (MakeArray n) a b h = refl
blob_notes t MakeTable a b h = refl
blob_notes t MakeBlob a b h = refl
blob_notes t Discard a b h = ap (λ (o : Option Object). note_object Discard o) (sym (exact_object (Some (Blob a)) (Some (Blob b)) (λ q. h q refl)))
blob_notes t (Push v) a b h = refl
blob_notes t Pop a b h = refl
blob_notes t (Set i v) a b h = refl
blob_notes t (Get i) a b h = refl
blob_notes t Len a b h = refl
blob_notes t (Apply i code arg) a b h = refl
blob_notes t (Put k v) a b h = refl
blob_notes t (Del k) a b h = refl
blob_notes t (Find k) a b h = refl
blob_notes t Keys a b h = refl
blob_notes t (Write at bytes) a b h = ap (λ x. note_blob (Write at bytes) x) (sym (h Body refl))
blob_notes t (Read at count) a b h = refl
blob_notes t (Size n) a b h = ap (λ x. note_blob (Size n) x) (sym (h Body refl))
blob_notes t (Paint at count code arg) a b h = ap (λ x. note_blob (Paint at count code arg) x) (sym (h Body refl))

keyed_note : (k : List ℕ) (d : Option (List ℕ) → Outcome × Update) (note : Option (List ℕ) → Note) (m n : Entries) (b c : Bool)
    → ((q : Part) → any_touch reads_part (to_read (Just Kind) ∷ cond b [] (cond c [] (to_write (Just (Key k)) ∷ []))) q ≡ true → seen_entries m q ≡ seen_entries n q)
    → if_replied (cond {A = Outcome × Entries} b (Err OutOfRange, n) (cond {A = Outcome × Entries} c (Err TooLong, n) ((d (get n k)).0, updated n k (d (get n k)).1))).0 (note (get n k))
    ≡ if_replied (cond {A = Outcome × Entries} b (Err OutOfRange, m) (cond {A = Outcome × Entries} c (Err TooLong, m) ((d (get m k)).0, updated m k (d (get m k)).1))).0 (note (get m k))
keyed_note k d note m n true c h = refl
keyed_note k d note m n false true h = refl
keyed_note k d note m n false false h = ap (λ x. if_replied (d x).0 (note x)) (sym (h (Key k) (key_self k)))

module _ (t : Operations) where
  by_given : (verb : Verb) (o p : Option Object) → AgreeReach (reach_of verb o) o p → note_object verb p ≡ note_object verb o → note_of t verb p ≡ note_of t verb o
  by_given verb o p h e = ap (λ r. if_replied r (note_object verb p)) ((verb_law t verb).given o p h) ∙ ap (λ n. if_replied (on t verb o).0 n) e

  table_notes : (verb : Verb) (m n : Entries) → AgreeReach (reach_of verb (Some (Table m))) (Some (Table m)) (Some (Table n)) → note_of t verb (Some (Table n)) ≡ note_of t verb (Some (Table m))
  table_notes (MakeArray i) m n h = refl
  table_notes MakeTable m n h = refl
  table_notes MakeBlob m n h = refl
  table_notes Discard m n h = ap (λ (o : Option Object). note_of t Discard o) (sym (exact_object (Some (Table m)) (Some (Table n)) (λ q. h q refl)))
  table_notes (Push v) m n h = refl
  table_notes Pop m n h = refl
  table_notes (Set i v) m n h = refl
  table_notes (Get i) m n h = refl
  table_notes Len m n h = refl
  table_notes (Apply i code arg) m n h = refl
  table_notes (Put k v) m n h = keyed_note k (put_value v) (note_put k) m n (length k == 0) (nat_lt 128 (length k)) h
  table_notes (Del k) m n h = keyed_note k del_value (note_del k) m n (length k == 0) (nat_lt 128 (length k)) h
  table_notes (Find k) m n h = by_given (Find k) (Some (Table m)) (Some (Table n)) h refl
  table_notes Keys m n h = refl
  table_notes (Write at bytes) m n h = refl
  table_notes (Read at count) m n h = refl
  table_notes (Size i) m n h = refl
  table_notes (Paint at count code arg) m n h = refl

  notes_alike : (verb : Verb) {o p : Option Object} → Alike o p → AgreeReach (reach_of verb o) o p → note_of t verb p ≡ note_of t verb o
  notes_alike verb nothings h = refl
  notes_alike verb (arrays {a = a} {b = b} e) h = by_given verb (Some (Array a)) (Some (Array b)) h (array_notes t verb a b h)
  notes_alike verb (tables {m = m} {n = n}) h = table_notes verb m n h
  notes_alike verb (blobs {x = x} {y = y}) h = by_given verb (Some (Blob x)) (Some (Blob y)) h (blob_notes t verb x y h)

  pub kind_read : (verb : Verb) (o : Option Object) → any_touch reads_part (reach_of verb o) Kind ≡ true
  kind_read (MakeArray n) o = refl
  kind_read MakeTable o = refl
  kind_read MakeBlob o = refl
  kind_read Discard o = refl
  kind_read verb o = refl

  note_given : (r s : Objects) (op : Op) → AgreeOn t (touches r op) r s → note_of_op t s op ≡ note_of_op t r op
  unfolding touches
  note_given r s (On n verb) a =
      let h : AgreeReach (reach_of verb (get r n)) (get r n) (get s n) = agree_part t r s n verb a in
      ap (λ k. (n, k)) (notes_alike verb (alike (get r n) (get s n) (h Kind (kind_read verb (get r n)))) h)
  note_given r s Names a = refl

  -- the law of touches, with what undoes among what a step gives
  pub noted_footprint : HasFootprint CellValue (noted_step t) cell touches (reads covers) (writes covers)
  noted_footprint =
      let f = footprint t in
      record {
        exact = f.exact;
        read = f.read;
        frame = f.frame;
        touched = λ r s op a. f.touched r s op a;
        given = λ r s op a. ap (λ o. (o, note_of_op t s op)) (f.given r s op a) ∙ ap (λ n. ((step t r op).0, n)) (note_given r s op a);
        changed = λ r s op a. f.changed r s op a;
      }

  -- what an operation did last is taken back
  put_twice : (s : Objects) (n : List ℕ) (o p : Option Object) → p ≡ get s n → put_at (put_at s n o) n p ≡ s
  put_twice s n o p e = same_entries (put_at (put_at s n o) n p) s (λ q. get_put_at (put_at s n o) n p q ∙ (ap (λ r. cond (bytes_eq n q) p r) (get_put_at s n o q) ∙ go q (bytes_eq n q) refl))
    where
      go : (q : List ℕ) (b : Bool) → bytes_eq n q ≡ b → cond b p (cond b o (get s q)) ≡ get s q
      go q true h = e ∙ ap (λ k. get s k) (bytes_same n q h)
      go q false h = refl

  pub takes_back : (s : Objects) (op : Op) → unstep (noted_step t s op).1 (noted_step t s op).0 ≡ s
  unfolding step
  takes_back s (On n verb) =
      put_twice s n (on t verb (get s n)).1 (undo (note_of t verb (get s n)) (get (put_at s n (on t verb (get s n)).1) n))
      (ap (λ o. undo (note_of t verb (get s n)) o) (get_put_at s n (on t verb (get s n)).1 n ∙ ap (λ b. cond b (on t verb (get s n)).1 (get s n)) (bytes_self n)) ∙ undo_law t verb (get s n))
  takes_back s Names = put_same s []

pub undoable : StepsAreUndoable
undoable t = record { footprint = noted_footprint t; undone = takes_back t }

-- under each name

same_bytes : (m n : List ℕ) → bytes_eq m n ≡ bytes_eq n m
same_bytes m n = same_bool (bytes_eq m n) (bytes_eq n m) (λ h. swapped (bytes_same m n h)) (λ h. swapped (bytes_same n m h))
  where
    swapped : {m n : List ℕ} → m ≡ n → bytes_eq n m ≡ true
    swapped {m} {n} e = ap (λ k. bytes_eq n k) e ∙ bytes_self n

pub get_unstep : (s : Objects) (out : Outcome × OpNote) (name : List ℕ) → get (unstep s out) name ≡ undo_on name out.1 (get s name)
get_unstep s out name =
    let n : List ℕ = out.1.0 in
    get_put_at s n (undo out.1.1 (get s n)) name ∙ (ap (λ b. cond b (undo out.1.1 (get s n)) (get s name)) (same_bytes n name) ∙ go (bytes_eq name n) refl)
  where
    go : (b : Bool) → bytes_eq name out.1.0 ≡ b → cond b (undo out.1.1 (get s out.1.0)) (get s name) ≡ cond b (undo out.1.1 (get s name)) (get s name)
    go true e = ap (λ k. undo out.1.1 (get s k)) (sym (bytes_same name out.1.0 e))
    go false e = refl
