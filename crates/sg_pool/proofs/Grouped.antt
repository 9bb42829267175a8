-- The places of a part, those of one unit side by side, one unit after another.
use Rattle.std.proofs.Common.{◌≡◌, ◌≢◌, ◌⊎◌, inl, inr, ⊎_elim, ◌<◌, ◌≤◌, ◌+◌, ◌-◌, ◌++◌, ℕ, Bool, IsTrue, Result, Ok, Err, List, [], length, get_or, take, drop, sym, ◌∙◌, ap, subst, arith, length-take, length-drop, get_or-take, get_or-drop}
use Rattle.std.specs.Prelude.{All}
use Rattle.std.specs.List.Sorted.{IsNonDecreasingBy}
use Rattle.std.proofs.lemmas.Bool.{cases_lt}
use Rattle.std.proofs.lemmas.List.{take-append-drop, take_all, get_or_default}
use Rattle.std.proofs.lemmas.List.Elements.{All-take, All-drop}
use Rattle.std.proofs.Math.Seq.{take-append-add}
use Rattle.sg_base.specs.declared.area.Area.{Area}
use Rattle.sg_disk.specs.Disk.{View}
use Rattle.sg_log.specs.Held.{Tail}
use Rattle.sg_ops.specs.Table.{Table}
use Rattle.sg_redo.specs.declared.place.Place.{Place}
use Rattle.sg_redo.specs.Places.{change_at, IsKnown}
use Rattle.sg_redo.specs.Units.{AreKnown}
use Rattle.sg_pool.specs.declared.fault.PoolFault.{PoolFault}
use Rattle.sg_pool.specs.declared.pool.Pool.{Pool}
use Rattle.sg_pool.specs.Pooled.{sizes}
use Rattle.sg_pool.specs.Redone.{places_of}
use Rattle.sg_pool.specs.Redoing.{IsRun}
use Rattle.sg_pool.specs.Together.{IsBorder}
use Rattle.sg_pool.specs.Units.{Geometry}
use Rattle.sg_pool.proofs.Placed.{AreParts, no_place, none_of, joined_held, joined_parts}
use Rattle.sg_pool.proofs.Redoing.{run_then}
use Rattle.sg_pool.proofs.RedoRuns.{run_cut, run_starts}

-- the places from `from` to `to` are of one unit, and so are no others
pub record IsGroup (places : List Place) (unit from to : ℕ) : Type 0 where
  pub some : from < to
  pub within : to ≤ length places
  pub same : (k : ℕ) (d : Place) → from ≤ k → k < to → (get_or places k d).unit ≡ unit
  pub border : (d : Place) → to < length places → (get_or places to d).unit ≢ unit

pub take_get : (n k : ℕ) (xs : List Place) (d : Place) → k < length (take n xs) → (k < n) × (k < length xs) × (get_or (take n xs) k d ≡ get_or xs k d)
take_get n k xs d lt =
    let size = length-take n xs in
    let low : k < n = omega (arith, lt, size) in
    (low, omega (arith, lt, size), get_or-take n xs k d low)

-- all places from one on
pub rest_all : (places : List Place) (from : ℕ) → take (length places - from) (drop from places) ≡ drop from places
rest_all places from = take_all (length places - from) (drop from places) (let size = length-drop from places in omega (arith, size))

-- what holds of each place holds of those of a part, and a part is no longer than all
module _ (places : List Place) (n from : ℕ) where
  pub part_all : (P : Place → Type 0) → All P places → All P (take n (drop from places))
  part_all P all = All-take P n (drop from places) (All-drop P from places all)

  pub part_known : (t : Table) (text : List ℕ) → AreKnown t text places → AreKnown t text (take n (drop from places))
  part_known t text = part_all (λ p. IsKnown t (change_at text p.at))

  pub part_few : (most : ℕ) → length places < most → length (take n (drop from places)) < most
  part_few most few = let size = length-take n (drop from places) in let rest = length-drop from places in omega (arith, size, rest, few)

-- the places from one on to another: so many, and what holds at each of their numbers holds of each
module _ (places : List Place) (from to : ℕ) where
  pub span_some : from < to → to ≤ length places → 0 < length (take (to - from) (drop from places))
  span_some some within = let size = length-take (to - from) (drop from places) in let rest = length-drop from places in omega (arith, size, rest, some, within)

  pub span_all : (P : Place → Type 0) → ((k : ℕ) (d : Place) → from ≤ k → k < to → P (get_or places k d)) → All P (take (to - from) (drop from places))
  span_all P each k d lt =
      let size = length-take (to - from) (drop from places) in
      let low : k < to - from = omega (arith, lt, size) in
      subst P (sym (get_or-take (to - from) (drop from places) k d low ∙ get_or-drop from places k d)) (each (from + k) d (omega arith) (omega (arith, low)))

  pub span_same : (unit : ℕ) → ((k : ℕ) (d : Place) → from ≤ k → k < to → (get_or places k d).unit ≡ unit) → All (λ p. p.unit ≡ unit) (take (to - from) (drop from places))
  span_same unit same = span_all (λ p. p.unit ≡ unit) same

module _ (places : List Place) (up : IsNonDecreasingBy (λ (p : Place). p.unit) places) where
  -- at a border
  module _ (to : ℕ) (border : IsBorder places to) where
    cut_apart : (n : ℕ) → (places_of n (drop to places) ≡ []) ⊎ (places_of n (take to places) ≡ [])
    cut_apart n = ⊎_elim
        (λ inside. ⊎_elim
        (λ low. inl (none_of n (drop to places) (λ k d lt is.
        let size = length-drop to places in
        let at : get_or (drop to places) k d ≡ get_or places (to + k) d = get_or-drop to places k d in
        let rises = up to (to + k) d (omega arith) (omega (arith, lt, size)) in
        let here : (get_or places (to + k) d).unit ≡ n = sym (ap (λ (p : Place). p.unit) at) ∙ is in
        let first : (get_or places to d).unit ≡ (get_or places to no_place).unit = ap (λ (p : Place). p.unit) (get_or_default places to d no_place inside) in
        absurd (omega (arith, rises, here, low, first)))))
        (λ high. inr (none_of n (take to places) (λ k d lt is.
        let it = take_get to k places d lt in
        let less = border k d it.0 inside in
        let here : (get_or places k d).unit ≡ n = sym (ap (λ (p : Place). p.unit) it.2) ∙ is in
        let first : (get_or places to d).unit ≡ (get_or places to no_place).unit = ap (λ (p : Place). p.unit) (get_or_default places to d no_place inside) in
        absurd (omega (arith, less, here, high, first)))))
        (cases_lt n (get_or places to no_place).unit))
        (λ past. inl (none_of n (drop to places) (λ k d lt is. let size = length-drop to places in absurd (omega (arith, lt, size, past)))))
        (cases_lt to (length places))

    pub cut_parts : AreParts places (take to places) (drop to places)
    cut_parts = record { sum = sym (take-append-drop to places); apart = cut_apart }

  -- ONE GROUP MORE
  module _ (unit from to : ℕ) (before : IsBorder places from) (group : IsGroup places unit from to) where
    first_is : (d : Place) → (get_or places from d).unit ≡ unit
    first_is d = let some = group.some in group.same from d (omega arith) (omega (arith, some))

    there : from < length places
    there = let some = group.some in let within = group.within in omega (arith, some, within)

    pub next_border : IsBorder places to
    next_border k d low inside =
        let some = group.some in
        let least = up from to d (omega (arith, some)) inside in
        let first = first_is d in
        let other = group.border d inside in
        ⊎_elim
        (λ less. let lt = before k d less there in omega (arith, least, first, other, lt))
        (λ high. let is = group.same k d high low in omega (arith, least, first, other, is))
        (cases_lt k from)

    pub group_all : All (λ p. p.unit ≡ unit) (take (to - from) (drop from places))
    group_all = span_same places from to unit group.same

  -- PLACES FROM ONE BORDER ON are of other units than those before it
  module _ (from to : ℕ) (before : IsBorder places from) (some : from < to) (within : to ≤ length places) where
    span_sum : take to places ≡ take from places ++ take (to - from) (drop from places)
    span_sum =
        let size : length (take from places) ≡ from = let long = length-take from places in omega (arith, long, some, within) in
        let at : to ≡ length (take from places) + (to - from) = omega (arith, size, some) in
        ap (λ (l : List Place). take to l) (sym (take-append-drop from places)) ∙ (ap (λ (n : ℕ). take n (take from places ++ drop from places)) at ∙ take-append-add (take from places) (drop from places) (to - from))

    span_get : (k : ℕ) (d : Place) → k < length (take (to - from) (drop from places)) → (from + k < length places) × (get_or (take (to - from) (drop from places)) k d ≡ get_or places (from + k) d)
    span_get k d lt =
        let size = length-take (to - from) (drop from places) in
        let rest = length-drop from places in
        (omega (arith, lt, size, rest), get_or-take (to - from) (drop from places) k d (omega (arith, lt, size)) ∙ get_or-drop from places k d)

    span_apart : (n : ℕ) → (places_of n (take (to - from) (drop from places)) ≡ []) ⊎ (places_of n (take from places) ≡ [])
    span_apart n = ⊎_elim
        (λ low. inl (none_of n (take (to - from) (drop from places)) (λ k d lt is.
        let it = span_get k d lt in
        let least = up from (from + k) no_place (omega arith) it.0 in
        let here : (get_or places (from + k) no_place).unit ≡ n = ap (λ (p : Place). p.unit) (get_or_default places (from + k) no_place d it.0 ∙ sym it.1) ∙ is in
        absurd (omega (arith, low, least, here)))))
        (λ high. inr (none_of n (take from places) (λ k d lt is.
        let it = take_get from k places d lt in
        let less = before k no_place it.0 (omega (arith, some, within)) in
        let here : (get_or places k no_place).unit ≡ n = ap (λ (p : Place). p.unit) (get_or_default places k no_place d it.1 ∙ sym it.2) ∙ is in
        absurd (omega (arith, high, less, here)))))
        (cases_lt n (get_or places from no_place).unit)

    pub span_parts : AreParts (take to places) (take from places) (take (to - from) (drop from places))
    span_parts = record { sum = span_sum; apart = span_apart }

  -- a part of them is ordered, too
  pub up_part : (n from : ℕ) → IsNonDecreasingBy (λ (p : Place). p.unit) (take n (drop from places))
  up_part n from i j d le lt =
      let size = length-take n (drop from places) in
      let rest = length-drop from places in
      let one = get_or-take n (drop from places) i d (omega (arith, le, lt, size)) ∙ get_or-drop from places i d in
      let two = get_or-take n (drop from places) j d (omega (arith, lt, size)) ∙ get_or-drop from places j d in
      let least = up (from + i) (from + j) d (omega (arith, le)) (omega (arith, lt, size, rest)) in
      subst (λ (p : Place). p.unit ≤ (get_or (take n (drop from places)) j d).unit) (sym one) (subst (λ (p : Place). (get_or places (from + i) d).unit ≤ p.unit) (sym two) least)

-- SO MANY PAGES' PLACES, and no part of another unit's
pub record IsFront (places : List Place) (pages from to : ℕ) : Type 0 where
  pub some : from < to
  pub within : to ≤ length places
  pub border : IsBorder places to
  pub below : (k : ℕ) (d : Place) → from ≤ k → k < to → (get_or places k d).unit < pages

module _ (places : List Place) (up : IsNonDecreasingBy (λ (p : Place). p.unit) places) (pages unit from : ℕ) where
  pub front_first : (to : ℕ) → IsBorder places from → unit < pages → IsGroup places unit from to → IsFront places pages from to
  front_first to before small group = record {
    some = group.some;
    within = group.within;
    border = next_border places up unit from to before group;
    below = λ k d least less. let is = group.same k d least less in omega (arith, is, small);
  }

  pub front_next : (to end : ℕ) → IsFront places pages from to → ((d : Place) → (get_or places to d).unit < pages) → IsGroup places unit to end → IsFront places pages from end
  front_next to end front small group = record {
    some = let one = front.some in let two = group.some in omega (arith, one, two);
    within = group.within;
    border = next_border places up unit to end front.border group;
    below = λ k d least less. ⊎_elim
        (λ low. front.below k d least low)
        (λ high. let is = group.same k d high less in let first = group.same to d (omega arith) group.some in let low = small d in omega (arith, is, first, low))
        (cases_lt k to);
  }

-- THE GROUPS BEFORE `from` ARE DONE
pub record IsThrough (told : Bool) (t : Table) (text : List ℕ) (places : List Place) (v w : View) (log log1 : Tail) (old new : Pool) (from before after : ℕ) : Type 0 where
  pub within : from ≤ length places
  pub border : IsBorder places from
  pub run : IsRun {T = Unit {0}} (sizes old) told t text (take from places) v w log log1 old new (Ok tt)
  pub steps : after ≡ before + from

pub through_starts : (told : Bool) (t : Table) (text : List ℕ) (places : List Place) (v : View) (log : Tail) (p : Pool) (steps : ℕ) → (IsTrue told → (a : Area) (i : ℕ) → (v.now a).seen i < 256) → IsThrough told t text places v v log log p p 0 steps steps
through_starts told t text places v log p steps bytes = record { within = omega arith; border = λ k d low inside. absurd (omega (arith, low)); run = run_starts told t text v log p tt bytes; steps = omega arith }

module _ (told : Bool) (t : Table) (text : List ℕ) (places : List Place) (up : IsNonDecreasingBy (λ (p : Place). p.unit) places) (v w z : View) (log log1 log2 : Tail) (old mid new : Pool) (from before now : ℕ) (through : IsThrough told t text places v w log log1 old mid from before now) where
  -- a span more, up to a border
  module _ (to : ℕ) (some : from < to) (within : to ≤ length places) (next : IsBorder places to) where
    module _ {T : Type 0} (r : Result T PoolFault) (run : IsRun (sizes mid) told t text (take (to - from) (drop from places)) w z log1 log2 mid new r) where
      pub front_run : IsRun (sizes old) told t text (take to places) v z log log2 old new r
      front_run = run_then (sizes old) told t text text (take to places) (take from places) (take (to - from) (drop from places))
          (joined_parts (take to places) (take from places) (take (to - from) (drop from places)) (span_parts places up from to through.border some within) (sizes old) t text) v w z log log1 log2 old mid new tt r through.run
          (subst (λ (g : Geometry). IsRun g told t text (take (to - from) (drop from places)) w z log1 log2 mid new r) through.run.size run)

    pub through_next : (after : ℕ) → IsRun {T = Unit {0}} (sizes mid) told t text (take (to - from) (drop from places)) w z log1 log2 mid new (Ok tt) → after ≡ now + length (take (to - from) (drop from places))
        → IsThrough told t text places v z log log2 old new to before after
    through_next after run steps = record {
      within = within;
      border = next;
      run = front_run {T = Unit {0}} (Ok tt) run;
      steps =
          let was = through.steps in
          let size = length-take (to - from) (drop from places) in let rest = length-drop from places in
          omega (arith, steps, was, size, rest, some, within);
    }

    pub through_cut : {T : Type 0} (e : PoolFault) → IsRun {T = T} (sizes mid) told t text (take (to - from) (drop from places)) w z log1 log2 mid new (Err e) → IsRun {T = T} (sizes old) told t text places v z log log2 old new (Err e)
    through_cut {T} e run = run_cut {T = T} (sizes old) told t text text places (take to places) (drop to places) (joined_parts places (take to places) (drop to places) (cut_parts places up to next) (sizes old) t text) v z log log2 old new e (front_run {T = T} (Err e) run)

  -- all that are left
  pub through_rest : {T : Type 0} (r : Result T PoolFault) → IsRun (sizes mid) told t text (take (length places - from) (drop from places)) w z log1 log2 mid new r → IsRun (sizes old) told t text places v z log log2 old new r
  through_rest {T} r rest = let run : IsRun (sizes mid) told t text (drop from places) w z log1 log2 mid new r = subst (λ (l : List Place). IsRun (sizes mid) told t text l w z log1 log2 mid new r) (rest_all places from) rest in run_then (sizes old) told t text text places (take from places) (drop from places) (joined_parts places (take from places) (drop from places) (cut_parts places up from through.border) (sizes old) t text) v w z log log1 log2 old mid new tt r through.run
      (subst (λ (g : Geometry). IsRun g told t text (drop from places) w z log1 log2 mid new r) through.run.size run)

pub through_ends : (told : Bool) (t : Table) (text : List ℕ) (places : List Place) (v w : View) (log log1 : Tail) (old new : Pool) (from before after : ℕ) → IsThrough told t text places v w log log1 old new from before after → length places ≤ from
    → IsRun {T = Unit {0}} (sizes old) told t text places v w log log1 old new (Ok tt)
through_ends told t text places v w log log1 old new from before after through all =
    subst (λ (l : List Place). IsRun {T = Unit {0}} (sizes old) told t text l v w log log1 old new (Ok tt)) (take_all from places all) through.run

-- the steps of a part behind those of the groups before `from`: those of all the places that are left, or fewer
module _ (places : List Place) (from n before now after : ℕ) (within : from ≤ length places) (was : now ≡ before + from) where
  pub steps_through : length places - from ≤ n → after ≡ now + length (take n (drop from places)) → after ≡ before + length places
  steps_through all is = let size = length-take n (drop from places) in let rest = length-drop from places in omega (arith, all, is, size, rest, was, within)

  pub fewer_through : (now ≤ after) × (after < now + length (take n (drop from places))) → (before ≤ after) × (after < before + length places)
  fewer_through fewer =
      let least = fewer.0 in let less = fewer.1 in
      let size = length-take n (drop from places) in let rest = length-drop from places in
      (omega (arith, least, was), omega (arith, less, size, rest, was, within))

  -- no step was done where it ended
  pub fewer_there : from < length places → after ≡ now → (before ≤ after) × (after < before + length places)
  fewer_there left same = (omega (arith, same, was), omega (arith, same, was, left))

-- UNITS ARE HELD, then the records of a front of their places are repeated, and then those of the rest
module _ (told : Bool) (t : Table) (text : List ℕ) (places : List Place) (up : IsNonDecreasingBy (λ (p : Place). p.unit) places) (v w z : View) (log log1 log2 : Tail) (p0 p1 p2 p3 : Pool) (held : IsRun {T = Unit {0}} (sizes p0) told t [] places v w log log1 p0 p1 (Ok tt))
    (to : ℕ) (border : IsBorder places to) (front : IsRun {T = Unit {0}} (sizes p1) told t text (take to places) w w log1 log1 p1 p2 (Ok tt)) where
  pub held_then : {T : Type 0} (r : Result T PoolFault) → IsRun (sizes p2) told t text (take (length places - to) (drop to places)) w z log1 log2 p2 p3 r → IsRun (sizes p0) told t text places v z log log2 p0 p3 r
  held_then {T} r last =
      let rest : IsRun (sizes p2) told t text (drop to places) w z log1 log2 p2 p3 r = subst (λ (l : List Place). IsRun (sizes p2) told t text l w z log1 log2 p2 p3 r) (rest_all places to) last in
      let both : IsRun (sizes p1) told t text places w z log1 log2 p1 p3 r = run_then (sizes p1) told t text text places (take to places) (drop to places) (joined_parts places (take to places) (drop to places) (cut_parts places up to border) (sizes p1) t text) w w z log1 log1 log2 p1 p2 p3 tt r front
      (subst (λ (g : Geometry). IsRun g told t text (drop to places) w z log1 log2 p2 p3 r) front.size rest) in
      run_then (sizes p0) told t [] text places places places (joined_held (sizes p0) t text places) v w z log log1 log2 p0 p1 p3 tt r held (subst (λ (g : Geometry). IsRun g told t text places w z log1 log2 p1 p3 r) held.size both)

-- or a page isn't held
pub held_cut : {T : Type 0} (told : Bool) (t : Table) (text : List ℕ) (places : List Place) (v w : View) (log log1 : Tail) (p0 p1 : Pool) (e : PoolFault) → IsRun {T = T} (sizes p0) told t [] places v w log log1 p0 p1 (Err e) → IsRun {T = T} (sizes p0) told t text places v w log log1 p0 p1 (Err e)
held_cut {T} told t text places v w log log1 p0 p1 e run = run_cut {T = T} (sizes p0) told t [] text places places places (joined_held (sizes p0) t text places) v w log log1 p0 p1 e run
