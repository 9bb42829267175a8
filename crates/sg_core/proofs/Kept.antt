-- What each change of the slab makes of the live transactions, and that it keeps what is known of it.
use Rattle.std.proofs.Common.{◌≡◌, ℕ, zero, suc, get_or, ◌+◌, ◌-◌, ◌<◌, ◌≤◌, Bool, true, false, cond, not, List, [], ◌∷◌, ◌++◌, map, length, set, Option, Some, None, refl, sym, ap, ◌∙◌, subst, arith, length-append}
use Rattle.std.specs.Prelude.{◌||◌, ◌&&◌, ◌==◌, nat_lt, slice_get, All, is_some, IfSome, IfNone}
use Rattle.std.specs.List.{list_any, find}
use Rattle.std.proofs.lemmas.Bool.{eq-eqb, ltb-true}
use Rattle.std.proofs.lemmas.List.{length-map}
use Rattle.std.proofs.lemmas.List.Sums.{sum_by-cons, sum_by-append, length-filter, count_by-le-length}
use Rattle.sg_serial.specs.Runs.{nth_mark}
use Rattle.slab.specs.Slab.{Slab, get, Updates, with_value}
use Rattle.sg_core.specs.declared.txns.Live.{Live}
use Rattle.sg_core.specs.Live.{Txn, is_of, is_live, without, has_reserved, has_dropped, one_less, marks_of, marks_in, with_marks}
use Rattle.sg_core.specs.Order.{in_order, placed}
use Rattle.sg_core.specs.Slots.{shown, live_of, AreDistinct, IsKept, HasAt, kept_marks}
use Rattle.sg_core.proofs.Order.{is_late, first_false, ordered_any, ordered_last, ordered_filter, ordered_map, ordered_length}
use Rattle.sg_core.proofs.Slots.{added, IsAdded, in_live, is_other, live-removed, live-replaced, sum-changed, sum_of, distinct-added, distinct-filter, distinct-map, none_late}

-- the list of those that are live
abbrev list_of : Slab Live → List Txn
list_of live = in_order (live_of live.slots)

-- a transaction with a number above all others was added
module _ (old new : Slab Live) (key : ℕ) (l : Live) (was : get old key ≡ None) (updates : Updates old new key (Some l)) (above : All (λ x. x.transaction < l.transaction.0) (list_of old)) where
  split : IsAdded old.slots new.slots l
  split = added old.slots new.slots key l was updates.changed updates.others

  late : list_any (is_late (shown l)) (split.front ++ split.back) ≡ false
  late = ap (list_any (is_late (shown l))) (sym split.before) ∙ (sym (ordered_any (is_late (shown l)) (live_of old.slots)) ∙ none_late (shown l) (list_of old) above)

  pub add_order : list_of new ≡ list_of old ++ shown l ∷ []
  add_order = ap in_order split.after ∙ (ordered_last (shown l) split.front split.back late ∙ ap (λ xs. in_order xs ++ shown l ∷ []) (sym split.before))

  pub add_keeps : (reserved : ℕ) → IsKept old reserved → new.capacity ≡ old.capacity → l.reserved ≡ 0 → length (list_of old) < 64 → IsKept new reserved
  add_keeps reserved kept room none few = record {
    room = (let r = kept.room in omega (arith, r, room));
    few = (let a = ap length split.after in let b = ap length split.before in let c = length-append split.front (shown l ∷ split.back) in let d = length-append split.front split.back in let e = ordered_length (live_of old.slots) in omega (arith, a, b, c, d, e, few));
    distinct = subst AreDistinct (sym split.after) (distinct-added split.front (shown l) split.back late (subst AreDistinct split.before kept.distinct));
    total =
        kept.total ∙ (ap sum_of split.before ∙ (sum_by-append (λ x. x.reserved) split.front split.back
        ∙ ((let a = sum_by-cons (λ x. x.reserved) (shown l) split.back in let t : sum_of split.front + sum_of split.back ≡ sum_of split.front + sum_of (shown l ∷ split.back) = omega (arith, a, none) in t)
        ∙ (sym (sum_by-append (λ x. x.reserved) split.front (shown l ∷ split.back)) ∙ ap sum_of (sym split.after)))));
  }

-- no entry has more than all together
pub part_fits : (live : Slab Live) (key : ℕ) (l : Live) (reserved : ℕ) → get live key ≡ Some l → IsKept live reserved → l.reserved ≤ reserved
part_fits live key l reserved there kept = let e = sum-changed live.slots key l None there in let t = kept.total in omega (arith, e, t)

-- a transaction was taken out
module _ (old new : Slab Live) (key : ℕ) (l : Live) (there : get old key ≡ Some l) (slots : new.slots ≡ set old.slots key None) where
  pub remove_order : AreDistinct (live_of old.slots) → list_of new ≡ without l.transaction.0 (list_of old)
  remove_order distinct = ap (λ s. in_order (live_of s)) slots ∙ (ap in_order (live-removed old.slots key l there distinct) ∙ ordered_filter (λ x. not (is_of l.transaction.0 x)) (live_of old.slots))

  pub remove_keeps : (reserved : ℕ) → IsKept old reserved → new.capacity ≡ old.capacity → IsKept new (reserved - l.reserved)
  remove_keeps reserved kept room =
      let left = ap live_of slots ∙ live-removed old.slots key l there kept.distinct in
      record {
        room = (let r = kept.room in omega (arith, r, room));
        few = (let a = ap length left in let b = length-filter (λ x. not (is_of l.transaction.0 x)) (live_of old.slots) in let c = count_by-le-length (λ x. not (is_of l.transaction.0 x)) (live_of old.slots) in let f = kept.few in omega (arith, a, b, c, f));
        distinct = subst AreDistinct (sym left) (distinct-filter (λ x. not (is_of l.transaction.0 x)) (live_of old.slots) kept.distinct);
        total = (let e = sum-changed old.slots key l None there in let t = kept.total in let s = ap (λ xs. sum_of (live_of xs)) slots in omega (arith, e, t, s));
      }

-- a transaction's entry was replaced
module _ (old new : Slab Live) (key : ℕ) (l next : Live) (f : Txn → Txn) (there : get old key ≡ Some l) (changed : new ≡ with_value old key next) (made : shown next ≡ f (shown l)) where
  abbrev change : Txn → Txn
  change x = cond (is_of l.transaction.0 x) (f x) x

  made_list : AreDistinct (live_of old.slots) → live_of new.slots ≡ map change (live_of old.slots)
  made_list distinct = ap (λ (s : Slab Live). live_of s.slots) changed ∙ live-replaced f old.slots key l next there distinct made

  module _ (same : (x : Txn) → (f x).transaction ≡ x.transaction) where
    same_number : (x : Txn) → (change x).transaction ≡ x.transaction
    same_number x = go (is_of l.transaction.0 x)
      where
        go : (b : Bool) → (cond b (f x) x).transaction ≡ x.transaction
        go true = same x
        go false = refl

    pub change_order : AreDistinct (live_of old.slots) → list_of new ≡ map change (list_of old)
    change_order distinct = ap in_order (made_list distinct) ∙ ordered_map change same_number (live_of old.slots)

    pub change_keeps : (reserved now : ℕ) → IsKept old reserved → now + l.reserved ≡ reserved + next.reserved → IsKept new now
    change_keeps reserved now kept sum = record {
      room = (let r = kept.room in let e = ap (λ (s : Slab Live). s.capacity) changed in omega (arith, r, e));
      few = (let a = ap length (made_list kept.distinct) in let b = length-map (live_of old.slots) change in let r = kept.few in omega (arith, a, b, r));
      distinct = subst AreDistinct (sym (made_list kept.distinct)) (distinct-map change same_number (live_of old.slots) kept.distinct);
      total = (let e = sum-changed old.slots key l (Some next) there in let t = kept.total in let s = ap (λ (s : Slab Live). sum_of (live_of s.slots)) changed in omega (arith, e, t, s, sum));
    }

-- the search for a transaction tells whether it is live
pub found_is : (live : Slab Live) (t : ℕ) (r : Option (ℕ × Live)) → IfSome r (λ f. HasAt live t f.0 f.1) → IfNone r (list_any (is_of t) (live_of live.slots) ≡ false) → is_some r ≡ is_live (list_of live) t
found_is live t None found absent = sym (ordered_any (is_of t) (live_of live.slots) ∙ absent)
found_is live t (Some f) found absent = sym (ordered_any (is_of t) (live_of live.slots) ∙ in_live (is_of t) live.slots f.0 f.1 found.entry_is (eq-eqb f.1.transaction.0 t found.number_is))

-- a transaction that isn't found isn't live
pub not_found : (live : Slab Live) (t : ℕ) → list_any (is_of t) (live_of live.slots) ≡ false → is_live (list_of live) t ≡ true → ⊥
not_found live t absent is = let e = ordered_any (is_of t) (live_of live.slots) in cc

-- one that has reserved some is live
pub reserved_lives : (t : ℕ) (xs : List Txn) → has_reserved xs t ≡ true → is_live xs t ≡ true
reserved_lives t [] h = h
reserved_lives t (x ∷ xs) h = go (is_of t x) (nat_lt 0 x.reserved) h (reserved_lives t xs)
  where
    go : (a b : Bool) → ((a && b) || has_reserved xs t) ≡ true → (has_reserved xs t ≡ true → is_live xs t ≡ true) → (a || is_live xs t) ≡ true
    go true b h rest = refl
    go false b h rest = rest h

-- a transaction that isn't there is none that passes
none_with : (p : Txn → Bool) (t : ℕ) (xs : List Txn) → list_any (is_of t) xs ≡ false → list_any (λ x. is_of t x && p x) xs ≡ false
none_with p t [] h = refl
none_with p t (x ∷ xs) h = go (is_of t x) h (none_with p t xs)
  where
    go : (a : Bool) → (a || list_any (is_of t) xs) ≡ false → (list_any (is_of t) xs ≡ false → list_any (λ y. is_of t y && p y) xs ≡ false) → ((a && p x) || list_any (λ y. is_of t y && p y) xs) ≡ false
    go true h rest = absurd (cc)
    go false h rest = rest h

-- and one that is passes where its entry does
none_here : (p : Txn → Bool) (slots : List (Option Live)) (key : ℕ) (l : Live) → get_or slots key None ≡ Some l → AreDistinct (live_of slots) → p (shown l) ≡ false → list_any (λ x. is_of l.transaction.0 x && p x) (live_of slots) ≡ false
none_here p [] key l there distinct none = absurd (cc)
none_here p (None ∷ rest) zero l there distinct none = absurd (cc)
none_here p (Some a ∷ rest) zero l there distinct none =
    let q : a ≡ l = cc in
    let alone : list_any (is_of l.transaction.0) (live_of rest) ≡ false = ap (λ (b : Live). list_any (is_of b.transaction.0) (live_of rest)) (sym q) ∙ distinct.0 in
    go (is_of l.transaction.0 (shown a)) (p (shown a)) (ap (λ (b : Live). p (shown b)) q ∙ none) (none_with p l.transaction.0 (live_of rest) alone)
  where
    go : (a b : Bool) → b ≡ false → list_any (λ x. is_of l.transaction.0 x && p x) (live_of rest) ≡ false → ((a && b) || list_any (λ x. is_of l.transaction.0 x && p x) (live_of rest)) ≡ false
    go true true e h = absurd (cc)
    go true false e h = h
    go false b e h = h
none_here p (None ∷ rest) (suc key) l there distinct none = none_here p rest key l there distinct none
none_here p (Some a ∷ rest) (suc key) l there distinct none =
    ap (λ b. (b && p (shown a)) || list_any (λ x. is_of l.transaction.0 x && p x) (live_of rest)) (is_other rest a l key distinct.0 there) ∙ none_here p rest key l there distinct.1 none

-- an entry with one less reserved, if any was
pub one_given : (l next : Live) (t : ℕ) → l.transaction.0 ≡ t → next.transaction.0 ≡ t → next.reserved ≡ l.reserved - 1 → next.dropped ≡ l.dropped → next.marks ≡ l.marks → shown next ≡ one_less (shown l)
one_given l next t own other reserved dropped marks =
    let same : next.transaction.0 ≡ l.transaction.0 = other ∙ sym own in
    let places : kept_marks next.marks ≡ kept_marks l.marks = ap kept_marks marks in cc

-- whether a transaction has dropped something, by its entry
pub dropped_is : (live : Slab Live) (t key : ℕ) (l : Live) → HasAt live t key l → AreDistinct (live_of live.slots) → has_dropped (list_of live) t ≡ l.dropped
dropped_is live t key l at distinct = ordered_any (λ x. is_of t x && x.dropped) (live_of live.slots) ∙ go l.dropped refl
  where
    go : (b : Bool) → l.dropped ≡ b → has_dropped (live_of live.slots) t ≡ b
    go true e = in_live (λ x. is_of t x && x.dropped) live.slots key l at.entry_is (ap (λ b. b && l.dropped) (eq-eqb l.transaction.0 t at.number_is) ∙ e)
    go false e = ap (λ n. has_dropped (live_of live.slots) n) (sym at.number_is) ∙ none_here (λ x. x.dropped) live.slots key l at.entry_is distinct e

pub none_dropped : (live : Slab Live) (t : ℕ) → list_any (is_of t) (live_of live.slots) ≡ false → has_dropped (list_of live) t ≡ false
none_dropped live t absent = ordered_any (λ x. is_of t x && x.dropped) (live_of live.slots) ∙ none_with (λ x. x.dropped) t (live_of live.slots) absent

-- no transaction that passes is found where none does
find_none : (p : Txn → Bool) (xs : List Txn) → list_any p xs ≡ false → find p xs ≡ None
find_none p [] h = refl
find_none p (x ∷ xs) h = go (p x) h (find_none p xs)
  where
    go : (b : Bool) → (b || list_any p xs) ≡ false → (list_any p xs ≡ false → find p xs ≡ None) → cond b (Some x) (find p xs) ≡ None
    go true h rest = absurd (cc)
    go false h rest = rest h

-- one that passes is found at its place, where no other does
find_placed : (p : Txn → Bool) (x : Txn) (ys : List Txn) → p x ≡ true → list_any p ys ≡ false → find p (placed x ys) ≡ Some x
find_placed p x [] here none = ap (λ b. cond b (Some x) None) here
find_placed p x (y ∷ ys) here none = go (nat_lt y.transaction x.transaction) (p y) none (find_placed p x ys here)
  where
    go : (b c : Bool) → (c || list_any p ys) ≡ false → (list_any p ys ≡ false → find p (placed x ys) ≡ Some x) → find p (cond b (y ∷ placed x ys) (x ∷ y ∷ ys)) ≡ Some x
    go b true n rest = absurd (cc)
    go true false n rest = ap (λ c. cond c (Some y) (find p (placed x ys))) (first_false (p y) (list_any p ys) none) ∙ rest n
    go false false n rest = ap (λ c. cond c (Some x) (find p (y ∷ ys))) here

-- and one that doesn't pass is passed by
find_other : (p : Txn → Bool) (x : Txn) (ys : List Txn) → p x ≡ false → find p (placed x ys) ≡ find p ys
find_other p x [] other = ap (λ b. cond b (Some x) None) other
find_other p x (y ∷ ys) other = go (nat_lt y.transaction x.transaction) (find_other p x ys other)
  where
    go : (b : Bool) → find p (placed x ys) ≡ find p ys → find p (cond b (y ∷ placed x ys) (x ∷ y ∷ ys)) ≡ find p (y ∷ ys)
    go true rest = ap (λ r. cond (p y) (Some y) r) rest
    go false rest = ap (λ b. cond b (Some x) (find p (y ∷ ys))) other

found_at : (slots : List (Option Live)) (key : ℕ) (l : Live) → get_or slots key None ≡ Some l → AreDistinct (live_of slots) → find (is_of l.transaction.0) (in_order (live_of slots)) ≡ Some (shown l)
found_at [] key l there distinct = absurd (cc)
found_at (None ∷ rest) zero l there distinct = absurd (cc)
found_at (Some a ∷ rest) zero l there distinct =
    let q : a ≡ l = cc in
    let alone : list_any (is_of l.transaction.0) (live_of rest) ≡ false = ap (λ (b : Live). list_any (is_of b.transaction.0) (live_of rest)) (sym q) ∙ distinct.0 in
    find_placed (is_of l.transaction.0) (shown a) (in_order (live_of rest)) (eq-eqb a.transaction.0 l.transaction.0 (ap (λ (b : Live). b.transaction.0) q)) (ordered_any (is_of l.transaction.0) (live_of rest) ∙ alone)
    ∙ ap (λ (b : Live). Some (shown b)) q
found_at (None ∷ rest) (suc key) l there distinct = found_at rest key l there distinct
found_at (Some a ∷ rest) (suc key) l there distinct =
    find_other (is_of l.transaction.0) (shown a) (in_order (live_of rest)) (is_other rest a l key distinct.0 there) ∙ found_at rest key l there distinct.1

-- the marks of a transaction are those of its entry, and none where it has no entry
pub marks_here : (live : Slab Live) (t key : ℕ) (l : Live) → HasAt live t key l → AreDistinct (live_of live.slots) → marks_of (list_of live) t ≡ kept_marks l.marks
marks_here live t key l at distinct =
    ap marks_in (ap (λ n. find (is_of n) (list_of live)) (sym at.number_is) ∙ found_at live.slots key l at.entry_is distinct)

pub marks_none : (live : Slab Live) (t : ℕ) → list_any (is_of t) (live_of live.slots) ≡ false → marks_of (list_of live) t ≡ []
marks_none live t absent = ap marks_in (find_none (is_of t) (list_of live) (ordered_any (is_of t) (live_of live.slots) ∙ absent))

-- an entry with other marks
pub remarked : (l next : Live) (t : ℕ) (f : List ℕ → List ℕ) → l.transaction.0 ≡ t → next.transaction.0 ≡ t → next.reserved ≡ l.reserved → next.dropped ≡ l.dropped → kept_marks next.marks ≡ f (kept_marks l.marks) → shown next ≡ with_marks f (shown l)
remarked l next t f own other reserved dropped marks =
    let same : next.transaction.0 ≡ l.transaction.0 = other ∙ sym own in cc

pub nth_none : (number : ℕ) → None ≡ nth_mark {A = ℕ} number []
nth_none number = go (number == 0)
  where
    go : (b : Bool) → None ≡ cond {A = Option ℕ} b None (slice_get [] (number - 1))
    go true = refl
    go false = refl
