-- One page more is lent, replayed beside others, and taken back.
use Rattle.std.proofs.Common.{◌≡◌, ◌≢◌, ◌⊎◌, ⊎_elim, ◌<◌, ◌≤◌, ◌+◌, ◌-◌, ℕ, zero, suc, true, Option, None, Some, List, [], ◌∷◌, ◌++◌, length, get_or, set, take, drop, refl, sym, ◌∙◌, ap, subst, arith, length-take, length-drop, length-set, get_or-take, get_or-drop, get_or-set_same, get_or-set_other, append-nil, length-append}
use Rattle.std.specs.Prelude.{All, slice_index_or, ◌==◌}
use Rattle.std.specs.Ptr.{Ptr, null_ptr}
use Rattle.std.specs.List.Sorted.{IsNonDecreasingBy}
use Rattle.std.proofs.Math.Seq.{take-append-add}
use Rattle.std.proofs.lemmas.Bool.{cases_eq, cases_lt}
use Rattle.std.proofs.lemmas.Bool.Decides.{nat_tests}
use Rattle.std.proofs.lemmas.List.{append_cancel_right, drop-drop, get_or-append-add, get_or_past, take-append-drop}
use Rattle.std.proofs.lemmas.List.Elements.{filter-append, All-append}
use Rattle.sg_base.specs.Page.{IsSlotted}
use Rattle.sg_frames.specs.Held.{Block, Held, IsFrom, IsHere, HasPlace, bytes_at, spot_at, with_bytes}
use Rattle.sg_frames.specs.declared.place.Place as frames
use Rattle.sg_frames.specs.declared.place.Place.TheVariants.{Page}
use Rattle.sg_ops.specs.Table.{Table}
use Rattle.sg_redo.specs.declared.place.Place.{Place}
use Rattle.sg_redo.specs.declared.unit.Unit as code
use Rattle.sg_redo.specs.History.{OnPage, repeated, since_repeated}
use Rattle.sg_redo.specs.Places.{page_records}
use Rattle.sg_redo.specs.Units.{StaysWell, is_page, own_places, replayed_unit}
use Rattle.sg_redo.proofs.Replayed.{lent_same}
use Rattle.sg_pool.specs.declared.slot.Slot.{Slot}
use Rattle.sg_pool.specs.declared.windows.Windows.{Windows}
use Rattle.sg_pool.specs.Frames.{IsShelf}
use Rattle.sg_pool.specs.Held.{no_slot, frame_of, page_in, since_of, AreApart}
use Rattle.sg_pool.specs.Redone.{places_of}
use Rattle.sg_pool.specs.Together.{part_of, IsUnitOf, IsTakenBack, ArePlaced, AreHereFrom, records_for, AreRepeated}
use Rattle.sg_pool.specs.Well.{IsWell}
use Rattle.sg_pool.proofs.Grouped.{IsGroup, take_get}
use Rattle.sg_pool.proofs.Placed.{no_place, none_of, all_of, page_nothing}
use Rattle.sg_pool.proofs.Slots.{none_is_some, none_or_some, some_same, frame_some, frame_none, frame_nowhere, frame_is}
use Rattle.sg_pool.proofs.Welling.{repeated_well, well_of}

-- a slot of these
abbrev slot_of : Option ℕ → Option ℕ → Slot
slot_of number since = record { number = number; since = since }

-- the last of a list is one
pub last_same : {X : Type 0} (us xs : List X) (u x : X) → us ++ u ∷ [] ≡ xs ++ x ∷ [] → (us ≡ xs) × (u ≡ x)
last_same us xs u x e =
    let long : length us ≡ length xs = let size = ap (λ (l : List _). length l) e in let a = length-append us (u ∷ []) in let b = length-append xs (x ∷ []) in omega (arith, size, a, b) in
    let same : u ≡ x = sym (get_or-append-add us (u ∷ []) 0 u) ∙ (ap (λ (l : List _). get_or l (length us + 0) u) e ∙ (ap (λ (n : ℕ). get_or (xs ++ x ∷ []) (n + 0) u) long ∙ get_or-append-add xs (x ∷ []) 0 u)) in
    (append_cancel_right us xs (u ∷ []) (e ∙ ap (λ z. xs ++ z ∷ []) (sym same)), same)

pub one_more : {X : Type 0} (P : X → Type 0) (us : List X) (u : X) → All P us → P u → All P (us ++ u ∷ [])
one_more P us u all its = All-append P us (u ∷ []) all (only P u its)
  where
    only : {X : Type 0} (P : X → Type 0) (u : X) → P u → All P (u ∷ [])
    only P u its zero d lt = its
    only P u its (suc k) d lt = absurd (omega (arith, lt))

-- no places
pub part_none : (places : List Place) (from : ℕ) → part_of places from from ≡ []
part_none places from = let e : from - from ≡ 0 = omega arith in ap (λ (n : ℕ). take n (drop from places)) e

pub records_none : (t : Table) (text : List ℕ) (o : Option ℕ) → records_for t text [] o ≡ []
records_none t text None = refl
records_none t text (Some n) = page_nothing t text

-- from the first place on
pub part_front : (places : List Place) (to : ℕ) → part_of places 0 to ≡ take to places
part_front places to = let e : to - 0 ≡ to = omega arith in ap (λ (n : ℕ). take n places) e

-- no unit behind a number has places where all are below it
pub none_high : (places : List Place) (bound to n : ℕ) → All (λ p. p.unit < bound) places → bound ≤ n → places_of n (take to places) ≡ []
none_high places bound to n all high = none_of n (take to places) (λ k d lt is.
    let it = take_get to k places d lt in
    let low = all k d it.1 in
    let here : (get_or places k d).unit ≡ n = sym (ap (λ (p : Place). p.unit) it.2) ∙ is in
    absurd (omega (arith, low, here, high)))

-- a frame that isn't there holds nothing
pub nothing_past : (slots : List Slot) (f n : ℕ) → page_in slots f ≡ Some n → f < length slots
nothing_past slots f n is = ⊎_elim (λ low. low) (λ high. absurd (none_is_some n (sym (ap (λ (s : Slot). s.number) (get_or_past slots f no_slot high)) ∙ is))) (cases_lt f (length slots))

-- NO PAGE IS LENT YET
pub none_repeated_yet : (t : Table) (text : List ℕ) (part : List Place) (slots : List Slot) (held : Held) → part ≡ [] → AreRepeated t text part slots slots held held
none_repeated_yet t text part slots held none =
    let nothing : (o : Option ℕ) → records_for t text part o ≡ [] = λ o. ap (λ (l : List Place). records_for t text l o) none ∙ records_none t text o in
    record {
      slot = λ f. ap (λ (rs : List OnPage). slot_of (page_in slots f) (since_repeated rs (get_or held.pages f []) (since_of slots (Some f)))) (sym (nothing (page_in slots f)));
      bytes = λ f. ap (λ (rs : List OnPage). repeated rs (get_or held.pages f [])) (sym (nothing (page_in slots f)));
      count = refl;
      many = refl;
      windows = refl;
      block = refl;
      here = λ f is. is;
      well = λ f is well. well;
    }

-- what replay leaves of a page
module _ (t : Table) (text : List ℕ) (places : List Place) (u : code.Unit) where
  unit_bytes : is_page u ≡ true → (replayed_unit t text places u).loan.bytes ≡ repeated (page_records t text (own_places places u)) u.loan.bytes
  unfolding replayed_unit
  unit_bytes is = rw is refl

  unit_since : is_page u ≡ true → (replayed_unit t text places u).since ≡ since_repeated (page_records t text (own_places places u)) u.loan.bytes u.since
  unfolding replayed_unit
  unit_since is = rw is refl

-- THE PAGE OF ONE UNIT, in frame f
module _ (t : Table) (text : List ℕ) (places : List Place) (up : IsNonDecreasingBy (λ (p : Place). p.unit) places) (slots : List Slot) (index : List (Option ℕ)) (held : Held) (placed : ArePlaced slots index held)
    (unit f from to : ℕ) (here_from : AreHereFrom places from slots held) (group : IsGroup places unit from to) (listed : unit < length index) (found : get_or index unit None ≡ Some f) where
  pub at : frame_of slots unit ≡ Some f
  at = sym (placed.found unit listed) ∙ found

  pub there : f < length slots
  there = (frame_some unit slots f at).0

  holds : page_in slots f ≡ Some unit
  holds = (frame_some unit slots f at).1

  pub long : f < length held.pages
  long = let lt = there in let many = placed.many in omega (arith, lt, many)

  inside : from < length places
  inside = let some = group.some in let within = group.within in omega (arith, some, within)

  first_is : (d : Place) → (get_or places from d).unit ≡ unit
  first_is d = let some = group.some in group.same from d (omega arith) (omega (arith, some))

  pub is_here : IsHere held (Page f)
  is_here = let first = first_is no_place in here_from f unit no_place there inside holds (omega (arith, first))

  -- once it is lent
  pub placed_lent : ArePlaced slots index (with_bytes held (Page f) [])
  placed_lent = record { many = length-set held.pages f [] ∙ placed.many; apart = placed.apart; found = placed.found }

  not_it : (g n : ℕ) → page_in slots g ≡ Some n → n ≢ unit → g ≢ f
  not_it g n is differ same = differ (some_same n unit (sym is ∙ (ap (page_in slots) same ∙ holds)))

  pub here_lent : AreHereFrom places to slots (with_bytes held (Page f) [])
  here_lent g n d lt within is least =
      let some = group.some in
      let first = first_is d in
      let rises = up from to d (omega (arith, some)) within in
      let other = group.border d within in
      let differ : n ≢ unit = λ e. other (omega (arith, rises, first, least, e)) in
      ap length (get_or-set_other held.pages f g [] [] (not_it g n is differ)) ∙ here_from g n d lt inside is (omega (arith, rises, least))

  -- its places are those of the group
  of_it : All (λ p. p.unit ≡ unit) (part_of places from to)
  of_it k d lt =
      let size = length-take (to - from) (drop from places) in
      let rest = length-drop from places in
      let low : k < to - from = omega (arith, lt, size) in
      ap (λ (p : Place). p.unit) (get_or-take (to - from) (drop from places) k d low ∙ get_or-drop from places k d) ∙ group.same (from + k) d (omega arith) (omega (arith, low))

  its_own : places_of unit (part_of places from to) ≡ part_of places from to
  its_own = all_of unit (part_of places from to) of_it

  not_others : (n : ℕ) → n ≢ unit → places_of n (part_of places from to) ≡ []
  not_others n differ = none_of n (part_of places from to) (λ k d lt is. differ (sym is ∙ of_it k d lt))

  module _ (end : ℕ) where
    none_behind : places_of unit (part_of places to end) ≡ []
    none_behind = none_of unit (part_of places to end) (λ k d lt is.
        let size = length-take (end - to) (drop to places) in
        let rest = length-drop to places in
        let low : k < end - to = omega (arith, lt, size) in
        let there_too : to + k < length places = omega (arith, lt, size, rest) in
        let same : (get_or places (to + k) d).unit ≡ unit = sym (ap (λ (p : Place). p.unit) (get_or-take (end - to) (drop to places) k d low ∙ get_or-drop to places k d)) ∙ is in
        let some = group.some in
        let before = up from to d (omega (arith, some)) (omega (arith, there_too)) in
        let after = up to (to + k) d (omega arith) there_too in
        let first = first_is d in
        group.border d (omega (arith, there_too)) (omega (arith, before, after, first, same)))

    module _ (le : to ≤ end) where
      part_sum : part_of places from end ≡ part_of places from to ++ part_of places to end
      part_sum =
          let some = group.some in let within = group.within in
          let size : length (part_of places from to) ≡ to - from = let long = length-take (to - from) (drop from places) in let rest = length-drop from places in omega (arith, long, rest, some, within) in
          let count : end - from ≡ length (part_of places from to) + (end - to) = omega (arith, size, some, le) in
          let behind : drop (to - from) (drop from places) ≡ drop to places = drop-drop (to - from) from places ∙ ap (λ (n : ℕ). drop n places) (let e : from + (to - from) ≡ to = omega (arith, some) in e) in
          ap (λ (l : List Place). take (end - from) l) (sym (take-append-drop (to - from) (drop from places)))
          ∙ (ap (λ (n : ℕ). take n (part_of places from to ++ drop (to - from) (drop from places))) count
          ∙ (take-append-add (part_of places from to) (drop (to - from) (drop from places)) (end - to)
          ∙ ap (λ (l : List Place). part_of places from to ++ take (end - to) l) behind))

      places_sum : (n : ℕ) → places_of n (part_of places from end) ≡ places_of n (part_of places from to) ++ places_of n (part_of places to end)
      places_sum n = ap (places_of n) part_sum ∙ filter-append (λ p. p.unit == n) (part_of places from to) (part_of places to end)

      pub its_all : places_of unit (part_of places from end) ≡ part_of places from to
      its_all = places_sum unit ∙ (ap (λ (l : List Place). places_of unit (part_of places from to) ++ l) none_behind ∙ (append-nil (places_of unit (part_of places from to)) ∙ its_own))

      pub others_all : (n : ℕ) → n ≢ unit → places_of n (part_of places from end) ≡ places_of n (part_of places to end)
      others_all n differ = places_sum n ∙ ap (λ (l : List Place). l ++ places_of n (part_of places to end)) (not_others n differ)

      other_records : (o : Option ℕ) → (o ≡ Some unit → ⊥) → records_for t text (part_of places to end) o ≡ records_for t text (part_of places from end) o
      other_records None differ = refl
      other_records (Some n) differ = ap (page_records t text) (sym (others_all n (λ e. differ (ap Some e))))

      its_records : records_for t text (part_of places from end) (page_in slots f) ≡ page_records t text (part_of places from to)
      its_records = ap (records_for t text (part_of places from end)) holds ∙ ap (page_records t text) its_all

      no_records : records_for t text (part_of places to end) (page_in slots f) ≡ []
      no_records = ap (records_for t text (part_of places to end)) holds ∙ (ap (page_records t text) none_behind ∙ page_nothing t text)

      elsewhere : (g : ℕ) → g ≢ f → records_for t text (part_of places to end) (page_in slots g) ≡ records_for t text (part_of places from end) (page_in slots g)
      elsewhere g differ = other_records (page_in slots g) (λ is. differ (placed.apart g f unit (nothing_past slots g unit is) there is holds))

      -- a page of a place from `from` on is in a frame, where those from `to` on are
      pub held_more : ((n : ℕ) → frame_of slots n ≡ None → places_of n (part_of places to end) ≡ []) → (n : ℕ) → frame_of slots n ≡ None → places_of n (part_of places from end) ≡ []
      held_more rest n away = others_all n (λ e. none_is_some f (sym away ∙ (ap (frame_of slots) e ∙ at))) ∙ rest n away

      -- the unit that was lent, and what the others left
      module _ (since : Option ℕ) (since_is : since ≡ since_of slots (Some f)) (u : code.Unit) (is : IsUnitOf held f since from (to - from) u) (slots1 : List Slot) (held1 : Held) (rest : AreRepeated t text (part_of places to end) slots slots1 (with_bytes held (Page f) []) held1) where
        abbrev v : code.Unit
        v = replayed_unit t text places u

        place_is : (replayed_unit t text places u).loan.place ≡ Page f
        place_is = ap (λ (x : Ptr × frames.Place). x.1) (lent_same t text places u) ∙ is.place

        own_is : own_places places u ≡ part_of places from to
        own_is = ap (λ (n : ℕ). take n (drop u.first places)) is.count ∙ ap (λ (n : ℕ). take (to - from) (drop n places)) is.first

        page_is : is_page u ≡ true
        page_is = let size : length u.loan.bytes ≡ 4096 = ap (λ (l : List ℕ). length l) is.bytes ∙ is_here in grind (arith, nat_tests, size)

        bytes_are : (replayed_unit t text places u).loan.bytes ≡ repeated (page_records t text (part_of places from to)) (get_or held.pages f [])
        bytes_are = unit_bytes t text places u page_is ∙ (ap (λ (l : List Place). repeated (page_records t text l) u.loan.bytes) own_is ∙ ap (repeated (page_records t text (part_of places from to))) is.bytes)

        since_are : (replayed_unit t text places u).since ≡ since_repeated (page_records t text (part_of places from to)) (get_or held.pages f []) (since_of slots (Some f))
        since_are = unit_since t text places u page_is ∙ (ap (λ (l : List Place). since_repeated (page_records t text l) u.loan.bytes u.since) own_is
            ∙ (ap (λ (l : List ℕ). since_repeated (page_records t text (part_of places from to)) l u.since) is.bytes ∙ ap (since_repeated (page_records t text (part_of places from to)) (get_or held.pages f [])) (is.since ∙ since_is)))

        lent_long : f < length held1.pages
        lent_long = let lt = long in let many = rest.many in let e = length-set held.pages f [] in omega (arith, lt, many, e)

        still_lent : get_or held1.pages f [] ≡ []
        still_lent = rest.bytes f ∙ (ap (λ (rs : List OnPage). repeated rs (get_or (set held.pages f []) f [])) no_records ∙ get_or-set_same held.pages f [] [] long)

        pub from_it : IsFrom held1 (replayed_unit t text places u).loan
        from_it = record {
          same_spot = ap (λ (x : Ptr × frames.Place). x.0) (lent_same t text places u) ∙ (is.spot ∙ (ap (λ (b : Block). slice_index_or b.pages f null_ptr) (sym rest.block) ∙ ap (spot_at held1) (sym place_is)));
          has_place = subst (HasPlace held1) (sym place_is) lent_long;
          lent = ap (bytes_at held1) place_is ∙ still_lent;
        }

        module _ (slots2 : List Slot) (held2 : Held) (back : IsTakenBack f (replayed_unit t text places u) slots1 slots2 held1 held2) (stays : StaysWell t text places u) where
          frames_are : held2 ≡ with_bytes held1 (Page f) (replayed_unit t text places u).loan.bytes
          frames_are = back.frames ∙ ap (λ (p : frames.Place). with_bytes held1 p (replayed_unit t text places u).loan.bytes) place_is

          its_bytes : get_or held2.pages f [] ≡ (replayed_unit t text places u).loan.bytes
          its_bytes = ap (λ (h : Held). get_or h.pages f []) frames_are ∙ get_or-set_same held1.pages f (replayed_unit t text places u).loan.bytes [] lent_long

          other_bytes : (g : ℕ) → g ≢ f → get_or held2.pages g [] ≡ get_or held1.pages g []
          other_bytes g differ = ap (λ (h : Held). get_or h.pages g []) frames_are ∙ get_or-set_other held1.pages f g (replayed_unit t text places u).loan.bytes [] differ

          others_lent : (g : ℕ) → g ≢ f → get_or (with_bytes held (Page f) []).pages g [] ≡ get_or held.pages g []
          others_lent g differ = get_or-set_other held.pages f g [] [] differ

          long1 : f < length slots1
          long1 = let lt = there in let many = rest.count in omega (arith, lt, many)

          its_slot : get_or slots2 f no_slot ≡ slot_of (page_in slots1 f) (replayed_unit t text places u).since
          its_slot = ap (λ (l : List Slot). get_or l f no_slot) back.slots ∙ get_or-set_same slots1 f (slot_of (page_in slots1 f) (replayed_unit t text places u).since) no_slot long1

          other_slot : (g : ℕ) → g ≢ f → get_or slots2 g no_slot ≡ get_or slots1 g no_slot
          other_slot g differ = ap (λ (l : List Slot). get_or l g no_slot) back.slots ∙ get_or-set_other slots1 f g (slot_of (page_in slots1 f) (replayed_unit t text places u).since) no_slot differ

          well_is : IsWell (get_or held.pages f []) → IsWell (get_or held2.pages f [])
          well_is well = subst IsWell (sym (its_bytes ∙ bytes_are)) (repeated_well (get_or held.pages f []) (repeated (page_records t text (part_of places from to)) (get_or held.pages f [])) well
              (subst (λ (l : List Place). (repeated (page_records t text l) (get_or held.pages f []) ≡ get_or held.pages f []) ⊎ IsSlotted (repeated (page_records t text l) (get_or held.pages f []))) own_is
              (subst (λ (l : List ℕ). (repeated (page_records t text (own_places places u)) l ≡ l) ⊎ IsSlotted (repeated (page_records t text (own_places places u)) l)) is.bytes
              (stays (ap (λ (l : List ℕ). length l) is.bytes ∙ is_here)))))

          pub page_more : AreRepeated t text (part_of places from end) slots slots2 held held2
          page_more = record {
            slot = λ g. ⊎_elim
                (λ same. subst (λ (x : ℕ). get_or slots2 x no_slot ≡ slot_of (page_in slots x) (since_repeated (records_for t text (part_of places from end) (page_in slots x)) (get_or held.pages x []) (since_of slots (Some x)))) (sym same)
                (its_slot ∙ (ap (λ (n : Option ℕ). slot_of n (replayed_unit t text places u).since) (ap (λ (s : Slot). s.number) (rest.slot f))
                ∙ ap (slot_of (page_in slots f)) (since_are ∙ ap (λ (rs : List OnPage). since_repeated rs (get_or held.pages f []) (since_of slots (Some f))) (sym its_records)))))
                (λ differ. other_slot g differ ∙ (rest.slot g
                ∙ (ap (λ (l : List ℕ). slot_of (page_in slots g) (since_repeated (records_for t text (part_of places to end) (page_in slots g)) l (since_of slots (Some g)))) (others_lent g differ)
                ∙ ap (λ (rs : List OnPage). slot_of (page_in slots g) (since_repeated rs (get_or held.pages g []) (since_of slots (Some g)))) (elsewhere g differ))))
                (cases_eq g f);
            bytes = λ g. ⊎_elim
                (λ same. subst (λ (x : ℕ). get_or held2.pages x [] ≡ repeated (records_for t text (part_of places from end) (page_in slots x)) (get_or held.pages x [])) (sym same)
                (its_bytes ∙ (bytes_are ∙ ap (λ (rs : List OnPage). repeated rs (get_or held.pages f [])) (sym its_records))))
                (λ differ. other_bytes g differ ∙ (rest.bytes g
                ∙ (ap (repeated (records_for t text (part_of places to end) (page_in slots g))) (others_lent g differ)
                ∙ ap (λ (rs : List OnPage). repeated rs (get_or held.pages g [])) (elsewhere g differ))))
                (cases_eq g f);
            count = ap (λ (l : List Slot). length l) back.slots ∙ (length-set slots1 f (slot_of (page_in slots1 f) (replayed_unit t text places u).since) ∙ rest.count);
            many = ap (λ (h : Held). length h.pages) frames_are ∙ (length-set held1.pages f (replayed_unit t text places u).loan.bytes ∙ (rest.many ∙ length-set held.pages f []));
            windows = ap (λ (h : Held). h.windows) frames_are ∙ rest.windows;
            block = ap (λ (h : Held). h.block) frames_are ∙ rest.block;
            here = λ g here. ⊎_elim
                (λ same. subst (λ (x : ℕ). IsHere held2 (Page x)) (sym same) (subst (λ (p : frames.Place). IsHere held2 p) place_is back.here))
                (λ differ. ap length (other_bytes g differ) ∙ rest.here g (ap length (others_lent g differ) ∙ here))
                (cases_eq g f);
            well = λ g here well. ⊎_elim
                (λ same. subst (λ (x : ℕ). IsWell (get_or held2.pages x [])) (sym same) (well_is (subst (λ (x : ℕ). IsWell (get_or held.pages x [])) same well)))
                (λ differ. subst IsWell (sym (other_bytes g differ)) (rest.well g (ap length (others_lent g differ) ∙ here) (subst IsWell (sym (others_lent g differ)) well)))
                (cases_eq g f);
          }

-- THE SHELF once that was done
module _ (t : Table) (text : List ℕ) (part : List Place) (slots slots' : List Slot) (held held' : Held) (rep : AreRepeated t text part slots slots' held held') where
  pub number_same : (f : ℕ) → page_in slots' f ≡ page_in slots f
  number_same f = ap (λ (s : Slot). s.number) (rep.slot f)

  pub apart_same : AreApart slots → AreApart slots'
  apart_same apart i j n li lj a b = let count = rep.count in apart i j n (omega (arith, li, count)) (omega (arith, lj, count)) (sym (number_same i) ∙ a) (sym (number_same j) ∙ b)

  -- each page is in the frame that it was in
  pub frame_same : AreApart slots → (n : ℕ) → frame_of slots' n ≡ frame_of slots n
  frame_same apart n = ⊎_elim
      (λ none. frame_nowhere slots' n (λ j lt is. let count = rep.count in frame_none n slots none j (omega (arith, lt, count)) (sym (number_same j) ∙ is)) ∙ sym none)
      (λ some.
      let at = frame_some n slots some.0 some.1 in
      let lt = at.0 in let count = rep.count in
      frame_is slots' some.0 n (apart_same apart) (omega (arith, lt, count)) (number_same some.0 ∙ at.1) ∙ sym some.1)
      (none_or_some (frame_of slots n))

  pub shelf_repeated : (pages bands : ℕ) (index : List (Option ℕ)) (wins : Windows) → IsShelf pages bands slots index wins held → IsShelf pages bands slots' index wins held'
  shelf_repeated pages bands index wins shelf = let count = rep.count in let many = rep.many in record {
    here = record {
      pages = λ f lt. rep.here f (shelf.here.pages f (omega (arith, lt, many)));
      windows = λ w lt. subst (λ (ws : List (List ℕ)). length (get_or ws w []) ≡ 32768) (sym rep.windows) (shelf.here.windows w (subst (λ (ws : List (List ℕ)). w < length ws) rep.windows lt));
    };
    many = rep.many ∙ (shelf.many ∙ sym rep.count);
    wide = ap (λ (ws : List (List ℕ)). length ws) rep.windows ∙ shelf.wide;
    few = let few = shelf.few in omega (arith, few, count);
    apart = apart_same shelf.apart;
    within = λ f n lt is. shelf.within f n (omega (arith, lt, count)) (sym (number_same f) ∙ is);
    owned = λ f none.
        let was : page_in slots f ≡ None = sym (number_same f) ∙ none in
        ap (λ (s : Slot). s.since) (rep.slot f) ∙ (ap (λ (o : Option ℕ). since_repeated (records_for t text part o) (get_or held.pages f []) (since_of slots (Some f))) was ∙ shelf.owned f was);
    most = shelf.most;
    listed = shelf.listed;
    found = λ n lt. shelf.found n lt ∙ sym (frame_same shelf.apart n);
    most_bands = shelf.most_bands;
    listed_bands = shelf.listed_bands;
    well = λ f n lt is.
        let low : f < length slots = omega (arith, lt, count) in
        let was : page_in slots f ≡ Some n = sym (number_same f) ∙ is in
        ∣ rep.well f (shelf.here.pages f (let same = shelf.many in omega (arith, low, same))) (well_of _ (shelf.well f n low was)) ∣₁;
  }
