use Rattle.std.proofs.Common.{◌≡◌, ◌<◌, ◌≤◌, ◌+◌, ◌-◌, ℕ, Some, List, [], ◌∷◌, ◌++◌, length, refl, sym, ◌∙◌, ap, subst, le_trans, le_of_lt, arith}
use Rattle.std.specs.Prelude.{All, map, sum_by}
use Rattle.std.proofs.lemmas.List.Sums.{sum_by-append}
use Rattle.std.proofs.lemmas.List.{map-append}
use Rattle.sg_frames.specs.Held.{Held, IsFrom}
use Rattle.sg_ops.specs.Table.{Table, fresh_table}
use Rattle.sg_redo.specs.declared.unit.Unit as code
use Rattle.sg_redo.specs.Units.{Lies, StaysWell, replayed_unit}
use Rattle.sg_pool.specs.Held.{since_of}
use Rattle.sg_pool.specs.Redone.{places_of}
use Rattle.sg_pool.specs.Together.{part_of, ArePlaced, AreHereFrom, AreRepeated}
use Rattle.sg_pool.proofs.Grouped.{IsGroup, next_border}
use Rattle.sg_pool.proofs.Placed.{no_place, all_left, all_right}
use Rattle.sg_pool.proofs.OneMore.{last_same, one_more, part_none, none_repeated_yet, there, is_here, placed_lent, here_lent, held_more, from_it, page_more}
use Rattle.sg_pool.proofs.together.+repeat_from.Goals as goal

pub lend-requires-clause-there : goal.lend-requires-clause-there
lend-requires-clause-there g r c =
    let to = c.end_of_unit-to in
    let group : IsGroup c.args.places.now _ c.args.from to.result = record { some = to.ensures.some; within = to.ensures.within; same = to.ensures.same; border = to.ensures.border } in
    let inside : c.args.from < length c.args.places.now = let some = to.ensures.some in let within = to.ensures.within in omega (arith, some, within) in
    let listed : _ < length c.args.index.now.items = let low = c.requires.listed c.args.from no_place inside in let is = to.ensures.same c.args.from no_place (omega arith) to.ensures.some in omega (arith, low, is) in
    let found = sym c.frame_in.ensures ∙ c.in-Some.is in
    there fresh_table [] c.args.places.now c.requires.grouped c.args.slots.now.items c.args.index.now.items c.args.frames.now c.requires.placed _ c.in-Some.f c.args.from to.result c.requires.here group listed found

pub lend-requires-clause-here : goal.lend-requires-clause-here
lend-requires-clause-here g r c =
    let to = c.end_of_unit-to in
    let group : IsGroup c.args.places.now _ c.args.from to.result = record { some = to.ensures.some; within = to.ensures.within; same = to.ensures.same; border = to.ensures.border } in
    let inside : c.args.from < length c.args.places.now = let some = to.ensures.some in let within = to.ensures.within in omega (arith, some, within) in
    let listed : _ < length c.args.index.now.items = let low = c.requires.listed c.args.from no_place inside in let is = to.ensures.same c.args.from no_place (omega arith) to.ensures.some in omega (arith, low, is) in
    let found = sym c.frame_in.ensures ∙ c.in-Some.is in
    is_here fresh_table [] c.args.places.now c.requires.grouped c.args.slots.now.items c.args.index.now.items c.args.frames.now c.requires.placed _ c.in-Some.f c.args.from to.result c.requires.here group listed found

pub repeat_from-end-requires-clause-placed : goal.repeat_from-end-requires-clause-placed
repeat_from-end-requires-clause-placed g r c ls lf =
    let to = c.end_of_unit-to in
    let group : IsGroup c.args.places.now _ c.args.from to.result = record { some = to.ensures.some; within = to.ensures.within; same = to.ensures.same; border = to.ensures.border } in
    let inside : c.args.from < length c.args.places.now = let some = to.ensures.some in let within = to.ensures.within in omega (arith, some, within) in
    let listed : _ < length c.args.index.now.items = let low = c.requires.listed c.args.from no_place inside in let is = to.ensures.same c.args.from no_place (omega arith) to.ensures.some in omega (arith, low, is) in
    let found = sym c.frame_in.ensures ∙ c.in-Some.is in
    subst (λ (h : Held). ArePlaced c.args.slots.now.items c.args.index.now.items h) (sym c.lend.ensures.left) (placed_lent fresh_table [] c.args.places.now c.requires.grouped c.args.slots.now.items c.args.index.now.items c.args.frames.now c.requires.placed _ c.in-Some.f c.args.from to.result c.requires.here group listed found)

pub repeat_from-end-requires-clause-here : goal.repeat_from-end-requires-clause-here
repeat_from-end-requires-clause-here g r c ls lf =
    let to = c.end_of_unit-to in
    let group : IsGroup c.args.places.now _ c.args.from to.result = record { some = to.ensures.some; within = to.ensures.within; same = to.ensures.same; border = to.ensures.border } in
    let inside : c.args.from < length c.args.places.now = let some = to.ensures.some in let within = to.ensures.within in omega (arith, some, within) in
    let listed : _ < length c.args.index.now.items = let low = c.requires.listed c.args.from no_place inside in let is = to.ensures.same c.args.from no_place (omega arith) to.ensures.some in omega (arith, low, is) in
    let found = sym c.frame_in.ensures ∙ c.in-Some.is in
    subst (λ (h : Held). AreHereFrom c.args.places.now to.result c.args.slots.now.items h) (sym c.lend.ensures.left) (here_lent fresh_table [] c.args.places.now c.requires.grouped c.args.slots.now.items c.args.index.now.items c.args.frames.now c.requires.placed _ c.in-Some.f c.args.from to.result c.requires.here group listed found)

pub repeat_from-end-requires-clause-lie : goal.repeat_from-end-requires-clause-lie
repeat_from-end-requires-clause-lie g r c ls lf =
    let to = c.end_of_unit-to in
    let lent = c.lend.ensures.lent in
    let lies : Lies c.args.places.now lent.0 =
    let first = lent.1.first in let count = lent.1.count in let some = to.ensures.some in let within = to.ensures.within in omega (arith, first, count, some, within) in
    subst (All (λ u. Lies c.args.places.now u)) (sym lent.2) (one_more (λ u. Lies c.args.places.now u) c.args.units.now.items lent.0 c.requires.lie lies)

pub take_back-requires-clause-there : goal.take_back-requires-clause-there
take_back-requires-clause-there g r c =
    let to = c.end_of_unit-to in
    let group : IsGroup c.args.places.now _ c.args.from to.result = record { some = to.ensures.some; within = to.ensures.within; same = to.ensures.same; border = to.ensures.border } in
    let inside : c.args.from < length c.args.places.now = let some = to.ensures.some in let within = to.ensures.within in omega (arith, some, within) in
    let listed : _ < length c.args.index.now.items = let low = c.requires.listed c.args.from no_place inside in let is = to.ensures.same c.args.from no_place (omega arith) to.ensures.some in omega (arith, low, is) in
    let found = sym c.frame_in.ensures ∙ c.in-Some.is in
    let lt = there fresh_table [] c.args.places.now c.requires.grouped c.args.slots.now.items c.args.index.now.items c.args.frames.now c.requires.placed _ c.in-Some.f c.args.from to.result c.requires.here group listed found in
    let count = c.repeat_from-end.ensures.repeated.count in
    omega (arith, lt, count)

pub take_back-requires-clause-lent : goal.take_back-requires-clause-lent
take_back-requires-clause-lent g r c us u is =
    let t : Table = _ in
    let to = c.end_of_unit-to in
    let group : IsGroup c.args.places.now _ c.args.from to.result = record { some = to.ensures.some; within = to.ensures.within; same = to.ensures.same; border = to.ensures.border } in
    let inside : c.args.from < length c.args.places.now = let some = to.ensures.some in let within = to.ensures.within in omega (arith, some, within) in
    let listed : _ < length c.args.index.now.items = let low = c.requires.listed c.args.from no_place inside in let is = to.ensures.same c.args.from no_place (omega arith) to.ensures.some in omega (arith, low, is) in
    let found = sym c.frame_in.ensures ∙ c.in-Some.is in
    let lent = c.lend.ensures.lent in
    let end = c.repeat_from-end.result in
    let le = c.repeat_from-end.ensures.within.0 in
    let rest = subst (λ (h : Held). AreRepeated t c.args.text.now (part_of c.args.places.now to.result end) c.args.slots.now.items c.repeat_from-end.new.slots.items h c.repeat_from-end.new.frames) c.lend.ensures.left c.repeat_from-end.ensures.repeated in
    let f : code.Unit → code.Unit = replayed_unit t c.args.text.now c.args.places.now in
    let all : c.repeat_from-end.new.units.items ≡ map f c.args.units.now.items ++ f lent.0 ∷ [] = c.repeat_from-end.ensures.units ∙ (ap (λ (l : List code.Unit). map f l) lent.2 ∙ map-append f c.args.units.now.items (lent.0 ∷ [])) in
    subst (λ (x : code.Unit). IsFrom c.repeat_from-end.new.frames x.loan) (last_same (map f c.args.units.now.items) us (f lent.0) u (sym all ∙ is)).1
    (from_it t c.args.text.now c.args.places.now c.requires.grouped c.args.slots.now.items c.args.index.now.items c.args.frames.now c.requires.placed _ c.in-Some.f c.args.from to.result c.requires.here group listed found end le (since_of c.args.slots.now.items (Some c.in-Some.f)) refl lent.0 lent.1 c.repeat_from-end.new.slots.items c.repeat_from-end.new.frames rest)

pub returns-in-Some-clause-well : goal.returns-in-Some-clause-well
returns-in-Some-clause-well g r c =
    let t : Table = _ in
    let lent = c.lend.ensures.lent in
    let stays = subst (All (StaysWell t c.args.text.now c.args.places.now)) lent.2 c.repeat_from-end.ensures.well in
    all_left (StaysWell t c.args.text.now c.args.places.now) c.args.units.now.items (lent.0 ∷ []) stays

pub returns-in-Some-clause-repeated : goal.returns-in-Some-clause-repeated
returns-in-Some-clause-repeated g r c =
    let t : Table = _ in
    let to = c.end_of_unit-to in
    let group : IsGroup c.args.places.now _ c.args.from to.result = record { some = to.ensures.some; within = to.ensures.within; same = to.ensures.same; border = to.ensures.border } in
    let inside : c.args.from < length c.args.places.now = let some = to.ensures.some in let within = to.ensures.within in omega (arith, some, within) in
    let listed : _ < length c.args.index.now.items = let low = c.requires.listed c.args.from no_place inside in let is = to.ensures.same c.args.from no_place (omega arith) to.ensures.some in omega (arith, low, is) in
    let found = sym c.frame_in.ensures ∙ c.in-Some.is in
    let lent = c.lend.ensures.lent in
    let end = c.repeat_from-end.result in
    let le = c.repeat_from-end.ensures.within.0 in
    let rest = subst (λ (h : Held). AreRepeated t c.args.text.now (part_of c.args.places.now to.result end) c.args.slots.now.items c.repeat_from-end.new.slots.items h c.repeat_from-end.new.frames) c.lend.ensures.left c.repeat_from-end.ensures.repeated in
    let f : code.Unit → code.Unit = replayed_unit t c.args.text.now c.args.places.now in
    let all : c.repeat_from-end.new.units.items ≡ map f c.args.units.now.items ++ f lent.0 ∷ [] = c.repeat_from-end.ensures.units ∙ (ap (λ (l : List code.Unit). map f l) lent.2 ∙ map-append f c.args.units.now.items (lent.0 ∷ [])) in
    let stays = subst (All (StaysWell t c.args.text.now c.args.places.now)) lent.2 c.repeat_from-end.ensures.well in
    page_more t c.args.text.now c.args.places.now c.requires.grouped c.args.slots.now.items c.args.index.now.items c.args.frames.now c.requires.placed _ c.in-Some.f c.args.from to.result c.requires.here group listed found end le (since_of c.args.slots.now.items (Some c.in-Some.f)) refl lent.0 lent.1 c.repeat_from-end.new.slots.items c.repeat_from-end.new.frames rest
    c.take_back.new.slots.items c.take_back.new.frames (c.take_back.ensures.back (map f c.args.units.now.items) (f lent.0) all).0
    (all_right (StaysWell t c.args.text.now c.args.places.now) c.args.units.now.items (lent.0 ∷ []) stays 0 lent.0 (omega arith))

pub returns-in-Some-clause-held : goal.returns-in-Some-clause-held
returns-in-Some-clause-held g r c =
    let to = c.end_of_unit-to in
    let group : IsGroup c.args.places.now _ c.args.from to.result = record { some = to.ensures.some; within = to.ensures.within; same = to.ensures.same; border = to.ensures.border } in
    let inside : c.args.from < length c.args.places.now = let some = to.ensures.some in let within = to.ensures.within in omega (arith, some, within) in
    let listed : _ < length c.args.index.now.items = let low = c.requires.listed c.args.from no_place inside in let is = to.ensures.same c.args.from no_place (omega arith) to.ensures.some in omega (arith, low, is) in
    let found = sym c.frame_in.ensures ∙ c.in-Some.is in
    held_more fresh_table [] c.args.places.now c.requires.grouped c.args.slots.now.items c.args.index.now.items c.args.frames.now c.requires.placed _ c.in-Some.f c.args.from to.result c.requires.here group listed found c.repeat_from-end.result c.repeat_from-end.ensures.within.0 c.repeat_from-end.ensures.held

pub returns-clause-repeated : goal.returns-clause-repeated
returns-clause-repeated g r c =
    let t : Table = _ in
    none_repeated_yet t c.args.text.now (part_of c.args.places.now c.args.from c.args.from) c.args.slots.now.items c.args.frames.now (part_none c.args.places.now c.args.from)

pub returns-in-Some-clause-within : goal.returns-in-Some-clause-within
returns-in-Some-clause-within g r c = let it = c.repeat_from-end.ensures.within in (le_trans (le_of_lt c.end_of_unit-to.ensures.some) it.0, it.1)

pub returns-in-Some-clause-border : goal.returns-in-Some-clause-border
returns-in-Some-clause-border g r c before =
    let to = c.end_of_unit-to in
    let group : IsGroup c.args.places.now _ c.args.from to.result = record { some = to.ensures.some; within = to.ensures.within; same = to.ensures.same; border = to.ensures.border } in
    c.repeat_from-end.ensures.border (next_border c.args.places.now c.requires.grouped _ c.args.from to.result before group)

pub returns-in-Some-clause-units : goal.returns-in-Some-clause-units
returns-in-Some-clause-units g r c =
    let t : Table = _ in
    let lent = c.lend.ensures.lent in
    let f : code.Unit → code.Unit = replayed_unit t c.args.text.now c.args.places.now in
    let all : c.repeat_from-end.new.units.items ≡ map f c.args.units.now.items ++ f lent.0 ∷ [] = c.repeat_from-end.ensures.units ∙ (ap (λ (l : List code.Unit). map f l) lent.2 ∙ map-append f c.args.units.now.items (lent.0 ∷ [])) in
    (c.take_back.ensures.back (map f c.args.units.now.items) (f lent.0) all).1

-- the steps of the units that were there before, and one for each place of the unit's and of those behind it
steps_more : (units : List code.Unit) (u : code.Unit) (all : List code.Unit) (from to end before after : ℕ) → all ≡ units ++ u ∷ [] → u.count ≡ to - from → from < to → to ≤ end
    → after ≡ before + sum_by (λ (v : code.Unit). v.count) all + (end - to) → after ≡ before + sum_by (λ (v : code.Unit). v.count) units + (end - from)
steps_more units u all from to end before after is count some within steps =
    let sum = ap (sum_by (λ (v : code.Unit). v.count)) is ∙ sum_by-append (λ (v : code.Unit). v.count) units (u ∷ []) in
    omega (arith, sum, count, some, within, steps)

pub returns-in-Some-clause-steps : goal.returns-in-Some-clause-steps
returns-in-Some-clause-steps g r c =
    let to = c.end_of_unit-to in let end = c.repeat_from-end in let lent = c.lend.ensures.lent in
    steps_more c.args.units.now.items lent.0 _ c.args.from to.result end.result c.args.steps.now end.new.steps lent.2 lent.1.count to.ensures.some end.ensures.within.0 end.ensures.steps

pub returns-clause-held : goal.returns-clause-held
returns-clause-held g r c n absent = ap (places_of n) (part_none c.args.places.now c.args.from)
