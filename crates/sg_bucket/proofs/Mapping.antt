-- What the calls on a bucket do to its map.
use Rattle.std.proofs.Common.{◌≡◌, ℕ, ◌+◌, ◌≤◌, List, [], ◌∷◌, length, Option, Some, None, option_map, sym, ap, subst, ◌∙◌, refl, arith, inl}
use Rattle.std.specs.List.{sum_by}
use Rattle.std.proofs.lemmas.Option.{slice_get_within}
use Rattle.sg_base.specs.Page.{cell_in, bytes_of}
use Rattle.sg_base.specs.Sheet.{Sheet}
use Rattle.sg_base.specs.Slots.{Slots}
use Rattle.sg_space.specs.Units.{HasAt}
use Rattle.sg_space.specs.View.{View, Space, OnlyReads}
use Rattle.sg_space.proofs.Known.{both, same_some}
use Rattle.sg_bucket.specs.Bucket.{Bucket, IsLinked, IsFound, IsPlace, entries_of, part_at}
use Rattle.sg_bucket.specs.Calls.{IsSound, IsPut, IsDeleted}
use Rattle.sg_bucket.specs.Entry.{Entry, entry_in, AreExchanged, value_of, with_value}
use Rattle.sg_bucket.specs.Part.{HasValueAt}
use Rattle.sg_bucket.specs.Steps.{CanSet, Did, HasCellAt, IsAdded, IsHeld, IsReplaced, IsSet, IsStanding, IsTakenOut, Turns}
use Rattle.sg_bucket.specs.declared.room.Held.{Held}
use Rattle.sg_bucket.specs.declared.walk.Place.{Place}
use Rattle.sg_bucket.proofs.Entries.{parts_lack, value_here, exchanged_then, slot_has, part_has, one_sum}
use Rattle.sg_bucket.proofs.Places.{found_lacks}
use Rattle.sg_bucket.proofs.Values.{changed, none_of, put_new, put_over, taken_out}

-- where the entry of a key stands
pub place_stands : {b : Bucket} {key : List ℕ} {place : Place} (is : IsPlace b key place) → IsStanding b place is.key_at.cell
place_stands is = record { index = is.index; page = is.page; before = is.before; is = is.key_at.is }

pub place_has : {b : Bucket} {key : List ℕ} {place : Place} → IsPlace b key place → HasCellAt place b
place_has is = record { was = is.key_at.cell; stands = place_stands is }

-- what a slot's look tells of the cell that stands there
pub held_there : {at : ℕ → Option Sheet} {first : ℕ} {b : Bucket} {place : Place} → IsLinked at first b → HasCellAt place b → HasAt at place.page.0 (HasValueAt place.slot)
held_there {place = place} h k =
    let s = k.stands in
    let part = h.part s.index place.page.0 s.page in
    record { what = part.what; is = part.is; has = record { page = part.has.page; cell = k.was; is = ap (λ (x : Slots). cell_in x place.slot) part.has.slots_are ∙ s.is } }

record IsWeighed (b : Bucket) (place : Place) (was : List ℕ) (s : IsStanding b place was) (held : Held) : Type 0 where
  value : length (entry_in was).value ≡ held.value
  most : bytes_of (part_at b.parts s.index) + held.most ≤ 4072 + length was

weighed : {at : ℕ → Option Sheet} {first : ℕ} {b : Bucket} {place : Place} {held : Held} {was : List ℕ} → IsLinked at first b → (s : IsStanding b place was) → HasAt at place.page.0 (IsHeld place.slot held) → IsWeighed b place was s held
weighed {place = place} {held = held} {was = was} h s seen =
    let part = h.part s.index place.page.0 s.page in
    let x = both part seen in
    let same : x.cell ≡ was = same_some _ _ (sym x.is ∙ (ap (λ (y : Slots). cell_in y place.slot) part.has.slots_are ∙ s.is)) in
    record {
      value = ap (λ (y : List ℕ). length (entry_in y).value) (sym same) ∙ x.value;
      most = subst (λ (y : Slots). bytes_of y + held.most ≤ 4072 + length was) part.has.slots_are (subst (λ (y : List ℕ). bytes_of part.what.slots + held.most ≤ 4072 + length y) same x.most);
    }

pub held_value : {at : ℕ → Option Sheet} {first : ℕ} {b : Bucket} {place : Place} {held : Held} {was : List ℕ} → IsLinked at first b → (s : IsStanding b place was) → HasAt at place.page.0 (IsHeld place.slot held) → length (entry_in was).value ≡ held.value
held_value h s seen = (weighed h s seen).value

-- a cell that is no longer than may be there can be set there
pub held_set : {at : ℕ → Option Sheet} {first : ℕ} {b : Bucket} {place : Place} {held : Held} (cell : List ℕ) → IsLinked at first b → HasCellAt place b → HasAt at place.page.0 (IsHeld place.slot held) → length cell ≤ held.most → CanSet (length cell) place b
held_set cell h k seen short = let w = weighed h k.stands seen in let most = w.most in record { was = k.was; stands = k.stands; fits = omega arith }

pub set_replaces : {b b' : Bucket} {place : Place} {cell : List ℕ} {size : ℕ} → ((was : List ℕ) → IsStanding b place was → length (entry_in was).value ≡ size) → IsSet cell place b b' → IsReplaced cell place size b b'
set_replaces value s = record { exchanged = s.exchanged; value = value; full = s.full; few = let less = s.few in omega arith }

-- an entry that stands in a bucket is one of its entries
standing_had : {at : ℕ → Option Sheet} {first : ℕ} {b : Bucket} {place : Place} {was : List ℕ} → IsLinked at first b → IsStanding b place was → (f : Entry → ℕ) → sum_by f (entry_in was ∷ []) ≤ sum_by f (entries_of b.parts)
standing_had {b = b} {place = place} {was = was} h s f =
    let long = h.long in
    let below = slice_get_within b.pages s.index place.page.0 s.page in
    let part = part_has f b.parts s.index (omega arith) in
    let here = slot_has f (part_at b.parts s.index) place.slot was s.is in
    let one = one_sum f (entry_in was) in
    omega arith

-- added elsewhere, and then taken out
pub moved_replaces : {at : ℕ → Option Sheet} {first : ℕ} {b b' b'' : Bucket} {place : Place} {cell : List ℕ} {size : ℕ} → IsLinked at first b → ((was : List ℕ) → IsStanding b place was → length (entry_in was).value ≡ size) → IsAdded cell b b' → IsTakenOut place b' b'' → IsReplaced cell place size b b''
moved_replaces {place = place} h value a t = record {
  exchanged = λ was s. exchanged_then a.exchanged (t.exchanged was (a.stays place was s)) (standing_had h s);
  value = value;
  full = λ full. t.full (a.full full);
  few = let one = a.few in let less = t.few in omega arith;
}

pub still_has : {b b' : Bucket} {place : Place} {cell : List ℕ} → IsAdded cell b b' → HasCellAt place b → HasCellAt place b'
still_has {place = place} a k = record { was = k.was; stands = a.stays place k.was k.stands }

-- a new key
pub put_adds : {at : ℕ → Option Sheet} {first : ℕ} {b b' : Bucket} {key value cell : List ℕ} {found : Option Place} → IsAdded cell b b' → entry_in cell ≡ record { key = key; value = value } → IsLinked at first b → IsSound b → found ≡ None → IsFound b key found → IsPut key value None b b'
put_adds {b = b} {b' = b'} {key = key} {value = value} {cell = cell} a e h sound none found =
    let d : Entry = record { key = key; value = value } in
    let lacks = found_lacks b key none found in
    let long = h.long in
    let count = parts_lack key b.parts (λ i below. lacks i (omega arith)) in
    let x : AreExchanged (entries_of b.parts) (entries_of b'.parts) [] (d ∷ []) = subst (λ (y : Entry). AreExchanged (entries_of b.parts) (entries_of b'.parts) [] (y ∷ [])) e a.exchanged in
    let m = put_new d (entries_of b.parts) (entries_of b'.parts) x sound.once count in
    record {
      sound = record { once = m.once; full = a.full sound.full };
      values = m.values;
      had = ap (option_map (λ (x : List ℕ). length x)) (none_of key (entries_of b.parts) count);
      entries = record { gone = []; gone_is = refl; exchanged = x };
      few = let less = a.few in omega arith;
    }

-- the value that the key has
here_value : {at : ℕ → Option Sheet} {first : ℕ} {b : Bucket} {key : List ℕ} {place : Place} → IsLinked at first b → IsSound b → (is : IsPlace b key place) → value_of (entries_of b.parts) key ≡ Some (entry_in is.key_at.cell).value
here_value {b = b} {place = place} h sound is =
    let long = h.long in
    let below = slice_get_within b.pages is.index place.page.0 is.page in
    ap (value_of (entries_of b.parts)) (sym is.key_at.key_is) ∙ value_here b.parts is.index place.slot is.key_at.cell (omega arith) is.key_at.is sound.once

entry_is : {key : List ℕ} (cell : List ℕ) → (entry_in cell).key ≡ key → entry_in cell ≡ record { key = key; value = (entry_in cell).value }
entry_is cell e = ap (λ (k : List ℕ). let d : Entry = record { key = k; value = (entry_in cell).value } in d) e

-- a key that was there
pub put_replaces : {at : ℕ → Option Sheet} {first size : ℕ} {b b' : Bucket} {key value cell : List ℕ} {place : Place} → IsReplaced cell place size b b' → entry_in cell ≡ record { key = key; value = value } → IsLinked at first b → IsSound b → IsPlace b key place → IsPut key value (Some size) b b'
put_replaces {size = size} {b = b} {b' = b'} {key = key} {value = value} {cell = cell} r e h sound is =
    let d : Entry = record { key = key; value = value } in
    let was : List ℕ = is.key_at.cell in
    let x : AreExchanged (entries_of b.parts) (entries_of b'.parts) (entry_in was ∷ []) (d ∷ []) = subst (λ (y : Entry). AreExchanged (entries_of b.parts) (entries_of b'.parts) (entry_in was ∷ []) (y ∷ [])) e (r.exchanged was (place_stands is)) in
    let m = put_over (entry_in was) d (entries_of b.parts) (entries_of b'.parts) x is.key_at.key_is sound.once in
    let size_is : length (entry_in was).value ≡ size = r.value was (place_stands is) in
    record {
      sound = record { once = m.once; full = r.full sound.full };
      values = m.values;
      had = ap (option_map (λ (x : List ℕ). length x)) (here_value h sound is) ∙ ap Some size_is;
      entries = record { gone = entry_in was ∷ []; gone_is = ((entry_in was).value, ap (λ (y : Entry). y ∷ []) (entry_is was is.key_at.key_is), size_is); exchanged = x };
      few = let less = r.few in omega arith;
    }

pub del_takes : {at : ℕ → Option Sheet} {first size : ℕ} {b b' : Bucket} {key : List ℕ} {place : Place} → IsLinked at first b → IsSound b → (is : IsPlace b key place) → length (entry_in is.key_at.cell).value ≡ size → IsTakenOut place b b' → IsDeleted key (Some size) b b'
del_takes {size = size} {b = b} {b' = b'} {key = key} h sound is size_is t =
    let was : List ℕ = is.key_at.cell in
    let x : AreExchanged (entries_of b.parts) (entries_of b'.parts) (entry_in was ∷ []) [] = t.exchanged was (place_stands is) in
    let m = taken_out (entry_in was) (entries_of b.parts) (entries_of b'.parts) x sound.once in
    record {
      sound = record { once = m.once; full = t.full sound.full };
      values = m.values ∙ ap (λ (k : List ℕ). with_value (value_of (entries_of b.parts)) k None) is.key_at.key_is;
      had = ap (option_map (λ (x : List ℕ). length x)) (here_value h sound is) ∙ ap Some size_is;
      entries = record { gone = entry_in was ∷ []; gone_is = ((entry_in was).value, ap (λ (y : Entry). y ∷ []) (entry_is was is.key_at.key_is), size_is); exchanged = x };
      few = let less = t.few in omega arith;
    }

pub none_exchanged : (es : List Entry) → AreExchanged es es [] []
none_exchanged es = record { had = λ f. omega arith; sums = λ f. refl }

-- nothing is changed where there was nothing
pub del_none : {at : ℕ → Option Sheet} {first : ℕ} {b : Bucket} {key : List ℕ} {found : Option Place} → IsLinked at first b → IsSound b → found ≡ None → IsFound b key found → IsDeleted key None b b
del_none {b = b} {key = key} h sound none found =
    let lacks = found_lacks b key none found in
    let long = h.long in
    let value = none_of key (entries_of b.parts) (parts_lack key b.parts (λ i below. lacks i (omega arith))) in
    record {
      sound = sound;
      values = changed key None (value_of (entries_of b.parts)) (value_of (entries_of b.parts)) value (λ other ne. refl);
      had = ap (option_map (λ (x : List ℕ). length x)) value;
      entries = record { gone = []; gone_is = refl; exchanged = none_exchanged (entries_of b.parts) };
      few = omega arith;
    }

pub turns_none : {at at' : Space} {first : ℕ} {b : Bucket} → at' ≡ at → IsLinked at.pages.at first b → Turns at at' first b b
turns_none {at} {at'} {first} {b} e h = subst (λ (s : Space). Turns at s first b b) (sym e) (record {
  linked = h;
  pages = record { others = λ n none none'. refl; taken = λ n o. inl o; given = λ n o none. absurd (none o); exactly = refl; all = refl };
  bands = refl;
})

-- reads alone
pub did_none : {v w : View} {first : ℕ} {Can : Bucket → Type 0} {Is : Bucket → Bucket → Type 0} → (v.Told → v.Shows) → OnlyReads v w → (v.Told → (b : Bucket) → IsLinked v.space.pages.at first b → Can b → Is b b) → Did v w first Can Is
did_none shows k so = record {
  told = λ told. k.keeps.told told;
  turns = λ told b h can. (b, turns_none (k.same (shows told)) h, so told b h can);
  may_have = λ told b h can page n none there may. k.keeps.may_have page n may;
}
