-- Room on a page.
use Rattle.std.proofs.Common.{◌≡◌, ℕ, ◌+◌, ◌<◌, ◌≤◌, ◌==◌, false, List, length, set, Option, Some, None, IsSome, slice_index, sym, ap, subst, ◌∙◌, refl, arith}
use Rattle.std.proofs.lemmas.Bool.Decides.{nat_tests}
use Rattle.std.proofs.lemmas.Option.{slice_get_within}
use Rattle.sg_base.specs.Page.{cell_in, cell_size, bytes_of, room_of, slots_of, IsSlotted}
use Rattle.sg_base.specs.Sheet.{Sheet}
use Rattle.sg_base.specs.Slots.{Slots, with_cell}
use Rattle.sg_base.specs.declared.numbers.PageNo.{PageNo}
use Rattle.sg_slotted.proofs.Room.{bytes_of-set, enough_room}
use Rattle.sg_space.specs.Units.{HasAt}
use Rattle.sg_space.specs.View.{View, Space, OnlyReads}
use Rattle.sg_space.proofs.Known.{both, still, before, keeps_then}
use Rattle.sg_bucket.specs.Bucket.{Bucket, IsLinked, IsPart}
use Rattle.sg_bucket.specs.Steps.{CanPut, CanPutAt, CanAdd, CanAppend, IsAdded, IsPutAt, IsAppended, IsLast, IsRoom, Turns, DidKeep}
use Rattle.sg_bucket.specs.declared.room.Room.{Room}
use Rattle.sg_bucket.specs.declared.room.Room.TheVariants as room
use Rattle.sg_bucket.proofs.Walking.{IsWalked, index_past}

-- a cell may be put into an empty slot
pub put_empty : (page : List ℕ) (room size slot : ℕ) → IsSlotted page → room ≡ room_of (slots_of page) → size ≤ room → slot < length (slots_of page) → cell_in (slots_of page) slot ≡ None → CanPut size slot (slots_of page)
put_empty page room size slot g is enough below empty = record {
  free = record { next = omega arith; empty = empty };
  fits = λ cell long.
      let other : (slot == length (slots_of page)) ≡ false = grind (arith, nat_tests, below) in
      let same : with_cell (slots_of page) slot cell ≡ set (slots_of page) slot (Some cell) = rw other refl in
      let all : bytes_of (with_cell (slots_of page) slot cell) ≡ bytes_of (set (slots_of page) slot (Some cell)) = ap bytes_of same in
      let sum = bytes_of-set (slots_of page) slot (Some cell) below in
      let none : cell_size (cell_in (slots_of page) slot) ≡ 0 = ap cell_size empty in
      let fits = enough_room page room size g is enough in
      omega arith;
}

-- what a look at a page of the chain tells of its part
pub room_at : {at : ℕ → Option Sheet} {p n size slot : ℕ} {slots : Slots} {l : Room} → l ≡ room.At slot → HasAt at p (IsPart n slots) → HasAt at p (IsRoom size l) → CanPut size slot slots
room_at {at} {p} {size = size} {slot = slot} e h seen =
    let here : HasAt at p (IsRoom size (room.At slot)) = subst (λ (l : Room). HasAt at p (IsRoom size l)) e seen in
    subst (CanPut size slot) h.has.slots_are (both h here)

pub room_next : (size : ℕ) {at : ℕ → Option Sheet} {p n : ℕ} {next : PageNo} {slots : Slots} {l : Room} → l ≡ room.Full next → HasAt at p (IsPart n slots) → HasAt at p (IsRoom size l) → n ≡ next.0
room_next size {at} {p} {next = next} e h seen =
    let here : HasAt at p (IsRoom size (room.Full next)) = subst (λ (l : Room). HasAt at p (IsRoom size l)) e seen in
    sym h.has.next_is ∙ both h here

-- what may be added may be added after reads
pub can_add_still : {v w : View} {b : Bucket} → OnlyReads v w → v.Shows → CanAdd v b → CanAdd w b
can_add_still {v} {w} {b} k shows a = record {
  free = still (λ (s : Space). 0 < s.pages.free) k shows a.free;
  may_take = k.keeps.may_take a.may_take;
  may_fill = λ p o n le. k.keeps.may_have p n (a.may_fill p o n le);
  zero = still (λ (s : Space). IsSome (s.pages.at 0)) k shows a.zero;
}

-- a step after reads
pub keep_after : {v w x : View} {first : ℕ} {Can Then : Bucket → Type 0} {Is : Bucket → Bucket → Type 0} → (v.Told → v.Shows) → OnlyReads v w → DidKeep w x first Then Is → (v.Told → (b : Bucket) → IsLinked v.space.pages.at first b → Can b → Then b) → DidKeep v x first Can Is
keep_after {v} {w} {x} {first} shows k d so = record {
  keeps = λ told. keeps_then k.keeps (d.keeps (k.keeps.told told));
  turns = λ told b h can.
      let one = d.turns (k.keeps.told told) b (still (λ (s : Space). IsLinked s.pages.at first b) k (shows told) h) (so told b h can) in
      (one.0, before (λ (s : Space). Turns s x.space first b one.0) k (shows told) one.1, one.2);
}

-- the same step, told otherwise
pub keep_told : {v w : View} {first : ℕ} {Can Then : Bucket → Type 0} {Is Now : Bucket → Bucket → Type 0} → DidKeep v w first Then Is → (v.Told → (b : Bucket) → IsLinked v.space.pages.at first b → Can b → Then b) → (v.Told → (b b' : Bucket) → IsLinked v.space.pages.at first b → Can b → Turns v.space w.space first b b' → Is b b' → Now b b') → DidKeep v w first Can Now
keep_told d so now = record {
  keeps = d.keeps;
  turns = λ told b h can. let one = d.turns told b h (so told b h can) in (one.0, one.1, now told b one.0 h can one.1 one.2);
}

-- a cell put is one added, and so is one on a page of its own
pub put_added : {v w : View} {first size p slot : ℕ} {cell : List ℕ} → DidKeep v w first (CanPutAt v size p slot) (IsPutAt cell p slot) → DidKeep v w first (CanPutAt v size p slot) (IsAdded cell)
put_added d = keep_told d (λ told b h can. can) (λ told b b' h can t put. put.added)

pub append_added : {v w : View} {first last p : ℕ} {cell : List ℕ} → DidKeep v w first (CanAppend v last) (IsAppended w cell p) → DidKeep v w first (CanAppend v last) (IsAdded cell)
append_added d = keep_told d (λ told b h can. can) (λ told b b' h can t more. more.added)

-- the last page of the chain
pub last_here : {at : ℕ → Option Sheet} {first i page before : ℕ} {b : Bucket} {P : Slots → Type 0} → IsLinked at first b → IsWalked b i page before P → slice_index b.pages (i + 1) ≡ 0 → IsLast page b
last_here {i = i} {page = page} {b = b} h w none =
    let past = index_past b.pages (i + 1) none (h.behind i) in
    let within = slice_get_within b.pages i page w.there in
    record { index = i; page = w.there; ends = omega arith }
