-- A new bucket gets entries one behind another.
use Rattle.std.proofs.Common.{◌≡◌, ℕ, ◌+◌, ◌-◌, ◌<◌, ◌≤◌, ◌==◌, true, List, [], ◌∷◌, ◌++◌, length, set, Option, Some, None, IsSome, IfSome, sym, ap, subst, ◌∙◌, refl, arith, inl, inr}
use Rattle.std.proofs.lemmas.Bool.{cases_lt}
use Rattle.std.proofs.lemmas.Bool.Decides.{nat_tests}
use Rattle.std.proofs.lemmas.List.{get_or-set_same, get_or_past, get_or_push, length_push}
use Rattle.std.proofs.lemmas.Option.{slice_get_within}
use Rattle.sg_base.specs.Page.{bytes_of}
use Rattle.sg_base.specs.Slots.{Slots, with_cell}
use Rattle.sg_slotted.proofs.Room.{bytes_of-push}
use Rattle.sg_space.specs.View.{View, Space, Keeps, OnlyReads, MayFill}
use Rattle.sg_space.proofs.Known.{still, keeps_then, same_some}
use Rattle.sg_space.proofs.Putting.{slice_get-push_same, slice_get-push_other}
use Rattle.sg_bucket.specs.Branch.{CanExtend, Ends, IsExtended, last_part, taken, used}
use Rattle.sg_bucket.specs.Bucket.{Bucket, IsLinked, OwnsPage, entries_of, part_at}
use Rattle.sg_bucket.specs.Steps.{CanAppend, CanPut, CanPutAt, DidKeep, IsAppended, IsFull, IsLast, IsPutAt, Turns, with_page, with_part}
use Rattle.sg_bucket.specs.declared.branching.Tail.{Tail}
use Rattle.sg_bucket.proofs.Filters.{pages_more, part_more}
use Rattle.sg_bucket.proofs.Owning.{turns_then}
use Rattle.sg_bucket.proofs.Rooms.{keep_told}

-- a step before reads
pub keep_reads : {u v w : View} {first : ℕ} {Can : Bucket → Type 0} {Is : Bucket → Bucket → Type 0} → DidKeep u v first Can Is → (v.Told → v.Shows) → OnlyReads v w → DidKeep u w first Can Is
keep_reads {u} {v} {w} {first} f shows k = record {
  keeps = λ told. keeps_then (f.keeps told) k.keeps;
  turns = λ told b h can.
      let one = f.turns told b h can in
      (one.0, still (λ (s : Space). Turns u.space s first b one.0) k (shows ((f.keeps told).told told)) one.1, one.2);
}

-- two steps, one after the other
pub keep_then : {u v w : View} {first : ℕ} {Can Then : Bucket → Type 0} {Is Next All : Bucket → Bucket → Type 0} → DidKeep u v first Can Is → DidKeep v w first Then Next → (u.Told → (b b' : Bucket) → IsLinked u.space.pages.at first b → Can b → Turns u.space v.space first b b' → Is b b' → Then b') → (u.Told → (b b' b'' : Bucket) → IsLinked u.space.pages.at first b → Can b → Turns u.space v.space first b b' → Is b b' → Next b' b'' → All b b'') → DidKeep u w first Can All
keep_then f g so all = record {
  keeps = λ told. let k = f.keeps told in keeps_then k (g.keeps (k.told told));
  turns = λ told b h can.
      let one = f.turns told b h can in
      let two = g.turns ((f.keeps told).told told) one.0 one.1.linked (so told b one.0 h can one.1 one.2) in
      (two.0, turns_then b one.0 two.0 one.1 two.1, all told b one.0 two.0 h can one.1 one.2 two.2);
}

-- the slots of the last page, by its place
pub last_slots : {last : ℕ} (b : Bucket) (l : IsLast last b) → last_part b ≡ part_at b.parts l.index
last_slots b l = let ends = l.ends in ap (part_at b.parts) (let e : length b.pages - 1 ≡ l.index = omega arith in e)

pub cell_behind : (slots : Slots) (slot : ℕ) (cell : List ℕ) → slot ≡ length slots → with_cell slots slot cell ≡ slots ++ (Some cell ∷ [])
cell_behind slots slot cell e = let last : (slot == length slots) ≡ true = grind (arith, nat_tests, e) in rw last refl

-- what is known of an open page
slot_behind : {tail : Tail} {b : Bucket} {slot : ℕ} → Ends tail b → tail.slot ≡ Some slot → slot ≡ length (last_part b)
slot_behind {b = b} ends e = subst (λ (o : Option ℕ). IfSome o (λ n. n ≡ length (last_part b))) e ends.slot

used_open : (tail : Tail) {slot : ℕ} (b : Bucket) → tail.slot ≡ Some slot → used tail.slot b ≡ bytes_of (last_part b)
used_open tail b e = ap (λ (o : Option ℕ). used o b) e

pub can_put : {v : View} {tail : Tail} {size slot : ℕ} {b : Bucket} → tail.slot ≡ Some slot → CanExtend v tail size b → CanPutAt v size tail.page.0 slot b
can_put {tail = tail} {size = size} {slot = slot} {b = b} e k = record {
  may_fill = k.grow.may_fill;
  index = k.ends.last.index;
  there = k.ends.last.page;
  room = subst (CanPut size slot) (last_slots b k.ends.last) (record {
    free = record { next = let at = slot_behind k.ends e in omega arith; empty = get_or_past (last_part b) slot None (let at = slot_behind k.ends e in omega arith) };
    fits = λ cell long.
        let all : bytes_of (with_cell (last_part b) slot cell) ≡ bytes_of (last_part b ++ (Some cell ∷ [])) = ap bytes_of (cell_behind (last_part b) slot cell (slot_behind k.ends e)) in
        let sum : bytes_of (last_part b ++ (Some cell ∷ [])) ≡ bytes_of (last_part b) + (4 + length cell) = bytes_of-push (last_part b) (Some cell) in
        let now = used_open tail b e in
        let fits = k.fits in
        omega arith;
  });
}

pub can_append : {v : View} {tail : Tail} {size : ℕ} {b : Bucket} → tail.slot ≡ None → CanExtend v tail size b → CanAppend v tail.page.0 b
can_append e k = record {
  add = record {
    free = let one : taken _ ≡ 1 = ap taken e in let free = k.free in omega arith;
    may_take = k.grow.may_take;
    may_fill = k.grow.may_fill;
    zero = k.grow.zero;
  };
  ending = k.ends.last;
}

within_last : {at : ℕ → _} {first last : ℕ} {b : Bucket} → IsLinked at first b → (l : IsLast last b) → l.index < length b.parts
within_last h l = let long = h.long in let ends = l.ends in omega arith

-- a cell put on the last page
put_there : {v w : View} {new slot : ℕ} {tail end : Tail} {cell : List ℕ} {b : Bucket} → IsLinked v.space.pages.at new b → (k : CanExtend v tail (length cell) b) → Keeps v w → tail.slot ≡ Some slot → end.page.0 ≡ tail.page.0 → end.slot ≡ Some (slot + 1) → (IsFull b → IsFull (with_part k.ends.last.index (with_cell (part_at b.parts k.ends.last.index) slot cell) b)) → IsExtended w cell tail end b (with_part k.ends.last.index (with_cell (part_at b.parts k.ends.last.index) slot cell) b)
put_there {w = w} {slot = slot} {tail = tail} {end = end} {cell = cell} {b = b} h k keeps e page_is slot_is full = record {
  entries = ap (λ (s : Slots). entries_of (set b.parts l.index s)) more ∙ part_more b.parts l.index cell (let long = h.long in let ends = l.ends in omega arith);
  ends = record {
    last = record { index = l.index; page = l.page ∙ ap Some (sym page_is); ends = l.ends };
    slot = subst (λ (o : Option ℕ). IfSome o (λ n. n ≡ length (last_part now))) (sym slot_is) (let at = slot_behind k.ends e in let is = ap (λ (s : Slots). length s) part_is in let long : length (last_part b ++ (Some cell ∷ [])) ≡ length (last_part b) + 1 = length_push (last_part b) (Some cell) in omega arith);
  };
  goes_on = subst (λ (o : Option ℕ). IsSome o) (sym slot_is) refl;
  used_is =
      let left : used end.slot now ≡ bytes_of (last_part now) = used_open end now slot_is in
      let is : bytes_of (last_part now) ≡ bytes_of (last_part b ++ (Some cell ∷ [])) = ap bytes_of part_is in
      let sum : bytes_of (last_part b ++ (Some cell ∷ [])) ≡ bytes_of (last_part b) + (4 + length cell) = bytes_of-push (last_part b) (Some cell) in
      let right : used tail.slot b ≡ bytes_of (last_part b) = used_open tail b e in
      omega arith;
  full = full;
  few = let none : taken tail.slot ≡ 0 = ap taken e in omega arith;
  more = λ p o. o;
  may_fill = λ p o n le. keeps.may_have p n (k.grow.may_fill p o n le);
}
  where
    l : IsLast tail.page.0 b
    l = k.ends.last

    now : Bucket
    now = with_part k.ends.last.index (with_cell (part_at b.parts k.ends.last.index) slot cell) b

    more : with_cell (part_at b.parts k.ends.last.index) slot cell ≡ part_at b.parts k.ends.last.index ++ (Some cell ∷ [])
    more = cell_behind (part_at b.parts k.ends.last.index) slot cell (slot_behind k.ends e ∙ ap (λ (s : Slots). length s) (last_slots b k.ends.last))

    part_is : last_part now ≡ last_part b ++ (Some cell ∷ [])
    part_is =
        last_slots now (record { index = k.ends.last.index; page = k.ends.last.page; ends = k.ends.last.ends })
        ∙ (get_or-set_same b.parts k.ends.last.index (with_cell (part_at b.parts k.ends.last.index) slot cell) [] (within_last h k.ends.last)
        ∙ (more ∙ ap (λ (s : Slots). s ++ (Some cell ∷ [])) (sym (last_slots b k.ends.last))))

pub extended_put : {v w : View} {new slot : ℕ} {tail end : Tail} {cell : List ℕ} → tail.slot ≡ Some slot → end.page.0 ≡ tail.page.0 → end.slot ≡ Some (slot + 1) → DidKeep v w new (CanPutAt v (length cell) tail.page.0 slot) (IsPutAt cell tail.page.0 slot) → DidKeep v w new (CanExtend v tail (length cell)) (IsExtended w cell tail end)
extended_put {v} {w} {slot = slot} {tail = tail} {end = end} {cell = cell} e page_is slot_is d = keep_told d (λ told b h k. can_put e k) (λ told b b' h k t put.
    let is = put.is k.ends.last.index k.ends.last.page in
    subst (λ (x : Bucket). IsExtended w cell tail end b x) (sym is) (put_there h k (d.keeps told) e page_is slot_is (λ full. subst IsFull is (put.added.full full))))

-- a cell on a page of its own
more_there : {v w : View} {new page : ℕ} {tail end : Tail} {cell : List ℕ} {b : Bucket} → IsLinked v.space.pages.at new b → CanExtend v tail (length cell) b → Keeps v w → tail.slot ≡ None → end.page.0 ≡ page → end.slot ≡ Some 1 → MayFill w page 1018 → (IsFull b → IsFull (with_page page cell b)) → IsExtended w cell tail end b (with_page page cell b)
more_there {w = w} {page = page} {tail = tail} {end = end} {cell = cell} {b = b} h k keeps e page_is slot_is may full = record {
  entries = pages_more b.parts (Some cell ∷ []);
  ends = record {
    last = last_is;
    slot = subst (λ (o : Option ℕ). IfSome o (λ n. n ≡ length (last_part (with_page page cell b)))) (sym slot_is) (ap (λ (s : Slots). length s) (sym part_is));
  };
  goes_on = subst (λ (o : Option ℕ). IsSome o) (sym slot_is) refl;
  used_is =
      let left : used end.slot (with_page page cell b) ≡ bytes_of (last_part (with_page page cell b)) = used_open end (with_page page cell b) slot_is in
      let is : bytes_of (last_part (with_page page cell b)) ≡ bytes_of (Some cell ∷ []) = ap bytes_of part_is in
      let sum : bytes_of (Some cell ∷ []) ≡ bytes_of [] + (4 + length cell) = bytes_of-push [] (Some cell) in
      let right : used tail.slot b ≡ 0 = ap (λ (o : Option ℕ). used o b) e in
      omega arith;
  full = full;
  few = let one : taken tail.slot ≡ 1 = ap taken e in let long = length_push b.pages page in omega arith;
  more = λ p o. (o.0, let below = slice_get_within b.pages o.0 p o.1 in slice_get-push_other b.pages o.0 page (λ same. absurd (omega arith)) ∙ o.1);
  may_fill = λ p o n le. elim (cases_lt o.0 (length b.pages)) as (λ _. w.MayHave p n) [
    | inl below ↦ keeps.may_have p n (k.grow.may_fill p (o.0, sym (slice_get-push_other b.pages o.0 page (λ same. absurd (omega arith))) ∙ o.1) n le)
    | inr past ↦ subst (λ (x : ℕ). w.MayHave x n) (sym (new_is p o past)) (may n le)
  ];
}
  where
    last_is : IsLast end.page.0 (with_page page cell b)
    last_is = record { index = length b.pages; page = slice_get-push_same b.pages (length b.pages) page refl ∙ ap Some (sym page_is); ends = length_push b.pages page }

    part_is : last_part (with_page page cell b) ≡ Some cell ∷ []
    part_is = last_slots (with_page page cell b) last_is ∙ get_or_push b.parts (Some cell ∷ []) [] (length b.pages) h.long

    new_is : (p : ℕ) (o : OwnsPage (with_page page cell b) p) → length b.pages ≤ o.0 → p ≡ page
    new_is p o past =
        let within = slice_get_within (b.pages ++ (page ∷ [])) o.0 p o.1 in
        let long = length_push b.pages page in
        same_some _ _ (sym o.1 ∙ slice_get-push_same b.pages o.0 page (omega arith))

pub extended_more : {v w : View} {new page : ℕ} {tail end : Tail} {cell : List ℕ} → tail.slot ≡ None → end.page.0 ≡ page → end.slot ≡ Some 1 → DidKeep v w new (CanAppend v tail.page.0) (IsAppended w cell page) → DidKeep v w new (CanExtend v tail (length cell)) (IsExtended w cell tail end)
extended_more {v} {w} {page = page} {tail = tail} {end = end} {cell = cell} e page_is slot_is d = keep_told d (λ told b h k. can_append e k) (λ told b b' h k t more.
    subst (λ (x : Bucket). IsExtended w cell tail end b x) (sym more.is) (more_there h k (d.keeps told) e page_is slot_is more.may_fill (λ full. subst IsFull more.is (more.added.full full))))
