-- An array is a list of items of one size.
use Rattle.std.proofs.Common.{◌≡◌, ℕ, zero, suc, Bool, true, false, cond, List, [], ◌∷◌, ◌++◌, length, Option, Some, None, Ok, Err, refl}
use Rattle.std.specs.Prelude.{◌==◌, nat_lt, nat_le, not, ◌&&◌, slice_get, slice_set}
use Rattle.std.specs.FinMap.{get}
use Rattle.sg_ops.specs.Meaning.{RecordMeaning}
use Rattle.sg_ops.specs.Table.{Table as Operations}
use Rattle.sg_model.specs.declared.reason.Reason.TheVariants.{Declined, OutOfRange, TooLong, TooMany}
use Rattle.sg_model.specs.Objects.{Object, Objects, Row}
use Rattle.sg_model.specs.Objects.Object.{Array}
use Rattle.sg_model.specs.Verb.{Outcome}
use Rattle.sg_model.specs.Verb.Op.{On}
use Rattle.sg_model.specs.Verb.Reply.{Done, Number}
use Rattle.sg_model.specs.Verb.Verb.{Apply, Get, Len, MakeArray, Pop, Push, Set}
use Rattle.sg_model.specs.Step.{Change, Decision, at_found, at_item, done_by, got, make_array, pop_at, pop_item, put_at, put_item, record_named, set_to, step}
use Rattle.stasis.specs.Arrays.{Applies, AreLists, Gets, HasArray, MakesArray, Pops, Pushes, Sets}
use Rattle.stasis.proofs.Tables.{on_there, there}

-- what becomes of an array stands under its name
stands : (s : Objects) (name : List ℕ) (row : Row) → get (put_at s name (Some (Array row))) name ≡ Some (Array row)
stands s name row = there s name (Some (Array row))

-- a verb on an item, by what it decides of it
by_item : (row : Row) (index : ℕ) (decide : Decision) (P : Outcome → Row → Type 0) → P (Err OutOfRange) row
    → ((item : List ℕ) → slice_get row.items index ≡ Some item → let r = decide row.size item in P r.0 (put_item row index r.1))
    → (let r = at_item index decide row in P r.0 r.1)
by_item row index decide P none found = go (slice_get row.items index) refl
  where
    go : (o : Option (List ℕ)) → slice_get row.items index ≡ o → (let r = at_found index decide row o in P r.0 r.1)
    go None is = none
    go (Some item) is = found item is

module _ (t : Operations) (s : Objects) (name : List ℕ) (size : ℕ) where
  made : let r = step t s (On name (MakeArray size)) in MakesArray name size r.0 r.1
  made = on_there t s name (MakeArray size) (get s name) (MakesArray name size) refl (go (get s name))
    where
      fresh : Option Object
      fresh = Some (Array record { size = size; items = [] })

      fits : (b : Bool) → (let r = cond {A = Change} b (Ok Done, Some (Array record { size = size; items = [] })) (Err OutOfRange, None) in
          MakesArray name size r.0 (put_at s name r.1))
      fits true = stands s name record { size = size; items = [] }
      fits false = tt

      go : (o : Option Object) → (let r = make_array size o in MakesArray name size r.0 (put_at s name r.1))
      go None = fits (nat_le 1 size && nat_le size 256)
      go (Some object) = tt

  module _ (items : List (List ℕ)) (is : HasArray s name size items) where
    row : Row
    row = record { size = size; items = items }

    pushed : (item : List ℕ) → (let r = step t s (On name (Push item)) in Pushes name size items item r.0 r.1)
    pushed item = on_there t s name (Push item) (Some (Array record { size = size; items = items })) (Pushes name size items item) is
        (go (not (length item == size)) (not (nat_lt (length items) 1048576)))
      where
        go : (b c : Bool)
            → (let r = cond {A = Outcome × Row} b (Err Declined, record { size = size; items = items })
            (cond {A = Outcome × Row} c (Err TooMany, record { size = size; items = items })
            (Ok (Number (length items)), record { size = size; items = items ++ item ∷ [] }))
            in Pushes name size items item r.0 (put_at s name (Some (Array r.1))))
        go true c = stands s name _
        go false true = stands s name _
        go false false = (refl, stands s name _)

    popped : let r = step t s (On name Pop) in Pops name size items r.0 r.1
    popped = on_there t s name Pop (Some (Array record { size = size; items = items })) (Pops name size items) is (go (length items) refl)
      where
        last : (n : ℕ) → length items ≡ suc n → (o : Option (List ℕ)) → slice_get items n ≡ o
            → (let r = pop_item record { size = size; items = items } n o in Pops name size items r.0 (put_at s name (Some (Array r.1))))
        last n long None found = stands s name _
        last n long (Some item) found = (n, long, found, stands s name _)

        go : (n : ℕ) → length items ≡ n → (let r = pop_at record { size = size; items = items } n in
            Pops name size items r.0 (put_at s name (Some (Array r.1))))
        go zero long = stands s name _
        go (suc n) long = last n long (slice_get items n) refl

    module _ (index : ℕ) where
      was_set : (item : List ℕ) → (let r = step t s (On name (Set index item)) in Sets name size items index item r.0 r.1)
      was_set item = on_there t s name (Set index item) (Some (Array record { size = size; items = items })) (Sets name size items index item) is
          (by_item record { size = size; items = items } index (set_to item) (λ o n. Sets name size items index item o (put_at s name (Some (Array n))))
          (stands s name _)
          (λ old found. go (length item == size)))
        where
          go : (b : Bool) → (let r = cond {A = Outcome × Option (List ℕ)} b (Ok Done, Some item) (Err Declined, None)
              in Sets name size items index item r.0 (put_at s name (Some (Array (put_item record { size = size; items = items } index r.1)))))
          go true = stands s name _
          go false = stands s name _

      looked : let r = step t s (On name (Get index)) in Gets name size items index r.0 r.1
      looked = on_there t s name (Get index) (Some (Array record { size = size; items = items })) (Gets name size items index) is
          (by_item record { size = size; items = items } index got (λ o n. Gets name size items index o (put_at s name (Some (Array n)))) (stands s name _)
          (λ item found. (found, stands s name _)))

      applied : (code : ℕ) (arg : List ℕ) → (let r = step t s (On name (Apply index code arg)) in Applies t name size items index code arg r.0 r.1)
      applied code arg = on_there t s name (Apply index code arg) (Some (Array record { size = size; items = items }))
          (Applies t name size items index code arg) is (short (nat_lt 256 (length arg)))
        where
          Done_by : Outcome × Option (List ℕ) → Type 0
          Done_by r = Applies t name size items index code arg r.0 (put_at s name (Some (Array (put_item record { size = size; items = items } index r.1))))

          accepted : (item : List ℕ) → slice_get items index ≡ Some item → (m : RecordMeaning) → record_named t code ≡ Some m → (b : Bool)
              → m.accepts item arg ≡ b
              → (let r = cond {A = Outcome × Option (List ℕ)} b (Ok Done, Some (m.after item arg)) (Err Declined, None)
              in Applies t name size items index code arg r.0 (put_at s name (Some (Array (put_item record { size = size; items = items } index r.1)))))
          accepted item found m named true takes = (
            slice_set items index (m.after item arg),
            record { operation = m; item = item; registered = named; there = found; accepts = takes; done = refl },
            stands s name _,
          )
          accepted item found m named false takes = stands s name _

          by : (item : List ℕ) → slice_get items index ≡ Some item → (o : Option RecordMeaning) → record_named t code ≡ o
              → (let r = done_by arg item o in Applies t name size items index code arg r.0
              (put_at s name (Some (Array (put_item record { size = size; items = items } index r.1)))))
          by item found None named = stands s name _
          by item found (Some m) named = accepted item found m named (m.accepts item arg) refl

          short : (b : Bool) → (let r = cond {A = Outcome × Row} b (Err TooLong, record { size = size; items = items })
              (at_item index (λ n item. done_by arg item (record_named t code)) record { size = size; items = items })
              in Applies t name size items index code arg r.0 (put_at s name (Some (Array r.1))))
          short true = stands s name _
          short false = by_item record { size = size; items = items } index (λ n item. done_by arg item (record_named t code))
              (λ o n. Applies t name size items index code arg o (put_at s name (Some (Array n))))
              (stands s name _) (λ item found. by item found (record_named t code) refl)

    counted : let r = step t s (On name Len) in (r.0 ≡ Ok (Number (length items))) × HasArray r.1 name size items
    counted = on_there t s name Len (Some (Array record { size = size; items = items }))
        (λ o after. (o ≡ Ok (Number (length items))) × HasArray after name size items) is (refl, stands s name _)

pub are_lists : (t : Operations) → AreLists t
are_lists t = record {
  made = made t;
  pushed = λ s name size items item is. pushed t s name size items is item;
  popped = λ s name size items is. popped t s name size items is;
  was_set = λ s name size items index item is. was_set t s name size items is index item;
  got = λ s name size items index is. looked t s name size items is index;
  applied = λ s name size items index code arg is. applied t s name size items is index code arg;
  counted = λ s name size items is. counted t s name size items is;
}
