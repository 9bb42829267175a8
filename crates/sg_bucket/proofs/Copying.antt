-- The entries of a page at an address are copied to a new bucket, one after another.
use Rattle.std.proofs.Common.{◌≡◌, ℕ, ◌+◌, ◌<◌, ◌≤◌, List, [], ◌∷◌, ◌++◌, length, take, true, false, Option, Some, None, IsSome, sym, ap, subst, ◌∙◌, refl, arith, inl, inr}
use Rattle.std.proofs.Math.Seq.{take-length}
use Rattle.std.proofs.lemmas.List.{append_assoc, append-nil, take_more}
use Rattle.sg_base.specs.Page.{cell_in, cell_size, bytes_of}
use Rattle.sg_base.specs.Sheet.{Sheet}
use Rattle.sg_base.specs.Slots.{Slots}
use Rattle.sg_linear.specs.Address.{is_at}
use Rattle.sg_linear.specs.declared.address.Address.{Address}
use Rattle.sg_slotted.proofs.Room.{bytes_of-push, bytes_of-take}
use Rattle.sg_space.specs.Units.{HasAt}
use Rattle.sg_space.specs.View.{View, Space, Keeps, OnlyReads, MayFill}
use Rattle.sg_space.proofs.Known.{keeps_then, same_some, still}
use Rattle.sg_bucket.specs.Branch.{CanCopy, CanExtend, Ends, AreCopied, HasThere, IsExtended, IsOutline, IsPartCopied, IsPicked, LacksThere, filled, taken, used}
use Rattle.sg_bucket.specs.Bucket.{Bucket, IsLinked, OwnsPage, entries_of}
use Rattle.sg_bucket.specs.Division.{those_at}
use Rattle.sg_bucket.specs.Entry.{Entry, entry_in}
use Rattle.sg_bucket.specs.Part.{IsBucketPage, entries_in}
use Rattle.sg_bucket.specs.Steps.{DidKeep, IsFull, IsLast, Turns}
use Rattle.sg_bucket.specs.declared.branching.Copied.{Copied}
use Rattle.sg_bucket.specs.declared.branching.Tail.{Tail}
use Rattle.sg_bucket.specs.declared.pick.Outline.{Outline}
use Rattle.sg_bucket.proofs.Extending.{keep_reads, keep_then}
use Rattle.sg_bucket.proofs.Filters.{one_more_fails, one_more_passes, slots_on, slots_past}
use Rattle.sg_bucket.proofs.Mapping.{turns_none}
use Rattle.sg_bucket.proofs.Owning.{owns_or, still_other}
use Rattle.sg_bucket.proofs.Rooms.{keep_told}

-- those of the entries in the slots so far stand behind the others, and the bucket goes on at the tail
pub record Copying (w : View) (there : Address) (passed : Slots) (start tail : Tail) (b b' : Bucket) : Type 0 where
  pub entries : entries_of b'.parts ≡ entries_of b.parts ++ those_at there (entries_in passed)
  pub ends : Ends tail b'
  pub used_le : used tail.slot b' ≤ bytes_of passed
  pub full : IsFull b → IsFull b'
  pub few : length b'.pages + taken tail.slot ≤ length b.pages + taken start.slot
  pub more : (p : ℕ) → OwnsPage b p → OwnsPage b' p
  pub may_fill : (p : ℕ) → OwnsPage b' p → MayFill w p 1018

-- the same of so many slots of a page
abbrev pub IsCopying : View → View → Address → ℕ → ℕ → Tail → Tail → Bucket → Bucket → Type 0
IsCopying u v there from s start tail b b' = (sheet : Sheet) → u.space.pages.at from ≡ Some sheet → Copying v there (take s sheet.slots) start tail b b'

pub record Copies (u v : View) (new : ℕ) (there : Address) (from s : ℕ) (start tail : Tail) : Type 0 where
  pub back : v.Told → u.Told
  pub later : u.faults ≤ v.faults
  pub room : filled tail.slot ≤ s
  pub did : DidKeep u v new (CanCopy u start from) (IsCopying u v there from s start tail)

-- what the page of this number says
here_is : {at : ℕ → Option Sheet} {p : ℕ} {sheet : Sheet} {P : Sheet → Type 0} → at p ≡ Some sheet → HasAt at p P → P sheet
here_is {sheet = sheet} {P = P} e h = subst P (same_some h.what sheet (sym h.is ∙ e)) h.has

-- a page of somebody else is what it was
pub same_beside : {x y : Space} {first q : ℕ} {a b : Bucket} {sheet : Sheet} → Turns x y first a b → ¬ OwnsPage a q → x.pages.at q ≡ Some sheet → y.pages.at q ≡ Some sheet
same_beside {q = q} t none e = t.pages.others q none (still_other t none (λ gone. let some = e in cc)).0 ∙ e

-- and so is page 0, whosever it is
still_zero : {x y : Space} {first : ℕ} {a b : Bucket} → Turns x y first a b → ((p : ℕ) → OwnsPage a p → OwnsPage b p) → IsSome (x.pages.at 0) → IsSome (y.pages.at 0)
still_zero {y = y} {a = a} {b = b} t more some = elim (owns_or b 0) as (λ _. IsSome (y.pages.at 0)) [
  | inl mine ↦ subst (λ (o : Option Sheet). IsSome o) (sym (t.linked.part mine.0 0 mine.1).is) refl
  | inr other ↦ subst (λ (o : Option Sheet). IsSome o) (sym (t.pages.others 0 (λ mine. other (more 0 mine)) other)) some
]

pub copies_none : {u v : View} {new from : ℕ} {there : Address} {tail : Tail} → (u.Told → u.Shows) → OnlyReads u v → (v.Told → u.Told) → u.faults ≤ v.faults → filled tail.slot ≡ 0 → Copies u v new there from 0 tail tail
copies_none shows k back later none = record {
  back = back;
  later = later;
  room = omega arith;
  did = record {
    keeps = λ told. k.keeps;
    turns = λ told b h can. (
      b,
      turns_none (k.same (shows told)) h,
      λ sheet e. record {
        entries = sym (append-nil (entries_of b.parts));
        ends = can.ends;
        used_le = let bare = can.bare in omega arith;
        full = λ full. full;
        few = omega arith;
        more = λ p o. o;
        may_fill = λ p o n le. k.keeps.may_have p n (can.grow.may_fill p o n le);
      },
    );
  };
}

-- one slot further
grown_bytes : (slots : Slots) (s : ℕ) → s < length slots → bytes_of (take (s + 1) slots) ≡ bytes_of (take s slots) + (4 + cell_size (cell_in slots s))
grown_bytes slots s below = ap bytes_of (take_more slots s None below) ∙ bytes_of-push (take s slots) (cell_in slots s)

none_further : (there : Address) (slots : Slots) (s : ℕ) (o : Option (List ℕ)) → cell_in slots s ≡ o → s < length slots → ((cell : List ℕ) → cell_in slots s ≡ Some cell → is_at there (entry_in cell).key ≡ false) → those_at there (entries_in (take (s + 1) slots)) ≡ those_at there (entries_in (take s slots))
none_further there slots s None e below lacks = ap (λ (es : List Entry). those_at there es) (slots_past slots s below e)
none_further there slots s (Some cell) e below lacks =
    ap (λ (es : List Entry). those_at there es) (slots_on slots s cell below e) ∙ one_more_fails (λ (x : Entry). is_at there x.key) (entries_in (take s slots)) (entry_in cell) (lacks cell e)

past_one : {v x : View} {there : Address} (slots : Slots) {s : ℕ} {start tail : Tail} {b b' : Bucket} → Keeps v x → s < length slots → ((cell : List ℕ) → cell_in slots s ≡ Some cell → is_at there (entry_in cell).key ≡ false) → Copying v there (take s slots) start tail b b' → Copying x there (take (s + 1) slots) start tail b b'
past_one {there = there} slots {s = s} {b = b} keeps below lacks c = record {
  entries = c.entries ∙ ap (λ (es : List Entry). entries_of b.parts ++ es) (sym (none_further there slots s (cell_in slots s) refl below lacks));
  ends = c.ends;
  used_le = let grown = grown_bytes slots s below in let le = c.used_le in omega arith;
  full = c.full;
  few = c.few;
  more = c.more;
  may_fill = λ p o n le. keeps.may_have p n (c.may_fill p o n le);
}

pub copies_past : {u v x : View} {new from s : ℕ} {there : Address} {start tail : Tail} {seen : Outline} → Copies u v new there from s start tail → (v.Told → v.Shows) → OnlyReads v x → (x.Told → v.Told) → v.faults ≤ x.faults → (u.Told → HasAt u.space.pages.at from (IsOutline seen)) → s < seen.slots → (v.Shows → HasAt v.space.pages.at from (LacksThere there s)) → Copies u x new there from (s + 1) start tail
copies_past {u} {v} {x} {from = from} {s = s} i shows k back later outline below read = record {
  back = λ t. i.back (back t);
  later = let first = i.later in omega arith;
  room = let room = i.room in omega arith;
  did = keep_told (keep_reads i.did shows k) (λ told b h can. can) (λ told b b' h can t c. λ sheet e.
      let sh = shows ((i.did.keeps told).told told) in
      let in_v : v.space.pages.at from ≡ Some sheet = sym (ap (λ (y : Space). y.pages.at from) (k.same sh)) ∙ same_beside t can.other e in
      let out = here_is e (outline told) in
      past_one sheet.slots k.keeps (let long = out.slots in omega arith) (here_is in_v (read sh)) (c sheet e));
}

-- and a cell more
ready : {u v x : View} {new from s : ℕ} {there : Address} {start tail : Tail} {cell : List ℕ} (sheet : Sheet) {b b' : Bucket} → Keeps u x → Keeps v x → Turns u.space x.space new b b' → CanCopy u start from b → s < length sheet.slots → bytes_of sheet.slots ≤ 4072 → cell_in sheet.slots s ≡ Some cell → Copying v there (take s sheet.slots) start tail b b' → CanExtend x tail (length cell) b'
ready {s = s} {cell = cell} sheet from_u from_v t can below fits is c = record {
  ends = c.ends;
  grow = record {
    may_take = from_u.may_take can.grow.may_take;
    may_fill = λ p o n le. from_v.may_have p n (c.may_fill p o n le);
    zero = still_zero t c.more can.grow.zero;
  };
  free = let all = t.pages.exactly in let few = c.few in let free = can.free in omega arith;
  fits =
      let grown = grown_bytes sheet.slots s below in
      let size : cell_size (cell_in sheet.slots s) ≡ length cell = ap cell_size is in
      let part : bytes_of (take (s + 1) sheet.slots) ≤ bytes_of sheet.slots = bytes_of-take sheet.slots (s + 1) (omega arith) in
      let le = c.used_le in
      omega arith;
}

copied_one : {v y : View} {there : Address} (slots : Slots) {s : ℕ} {start tail end : Tail} {cell : List ℕ} {b b' b'' : Bucket} → s < length slots → cell_in slots s ≡ Some cell → is_at there (entry_in cell).key ≡ true → Copying v there (take s slots) start tail b b' → IsExtended y cell tail end b' b'' → Copying y there (take (s + 1) slots) start end b b''
copied_one {there = there} slots {s = s} {start = start} {tail = tail} {end = end} {cell = cell} {b = b} {b' = b'} {b'' = b''} below is at c e = record {
  entries = e.entries ∙ (ap (λ (es : List Entry). es ++ (entry_in cell ∷ [])) c.entries ∙ (append_assoc (entries_of b.parts) (those_at there (entries_in (take s slots))) (entry_in cell ∷ []) ∙ ap (λ (es : List Entry). entries_of b.parts ++ es) (sym further)));
  ends = e.ends;
  used_le =
      let grown = grown_bytes slots s below in
      let size : cell_size (cell_in slots s) ≡ length cell = ap cell_size is in
      let le = c.used_le in
      let sum = e.used_is in
      omega arith;
  full = λ full. e.full (c.full full);
  few = let here = none_taken end.slot e.goes_on in let one = e.few in let few = c.few in omega arith;
  more = λ p o. e.more p (c.more p o);
  may_fill = e.may_fill;
}
  where
    further : those_at there (entries_in (take (s + 1) slots)) ≡ those_at there (entries_in (take s slots)) ++ (entry_in cell ∷ [])
    further = ap (λ (es : List Entry). those_at there es) (slots_on slots s cell below is) ∙ one_more_passes (λ (x : Entry). is_at there x.key) (entries_in (take s slots)) (entry_in cell) at

    none_taken : (o : Option ℕ) → IsSome o → taken o ≡ 0
    none_taken None h = absurd (cc)
    none_taken (Some n) h = refl

-- what is known where a cell is copied
record Found (there : Address) (s : ℕ) (cell : List ℕ) (sheet : Sheet) : Type 0 where
  below : s < length sheet.slots
  fits : bytes_of sheet.slots ≤ 4072
  has : HasThere there s cell sheet

found : {u v x : View} {new from s : ℕ} {there : Address} {start : Tail} {cell : List ℕ} {sheet : Sheet} {b b' : Bucket} {seen : Outline} → v.Shows → OnlyReads v x → Turns u.space x.space new b b' → CanCopy u start from b → HasAt u.space.pages.at from (IsOutline seen) → s < seen.slots → HasAt v.space.pages.at from (HasThere there s cell) → u.space.pages.at from ≡ Some sheet → Found there s cell sheet
found {v = v} {from = from} {sheet = sheet} sh k t can outline below read e =
    let in_v : v.space.pages.at from ≡ Some sheet = sym (ap (λ (y : Space). y.pages.at from) (k.same sh)) ∙ same_beside t can.other e in
    let out = here_is e outline in
    record { below = let long = out.slots in omega arith; fits = out.fits; has = here_is in_v read }

pub can_extend : {u v x : View} {new from s : ℕ} {there : Address} {start tail : Tail} {cell : List ℕ} {b b' : Bucket} {seen : Outline} → v.Shows → Keeps u v → OnlyReads v x → Turns u.space x.space new b b' → CanCopy u start from b → HasAt u.space.pages.at from (IsOutline seen) → s < seen.slots → HasAt v.space.pages.at from (HasThere there s cell) → IsCopying u v there from s start tail b b' → CanExtend x tail (length cell) b'
can_extend sh keeps k t can outline below read c =
    let sheet = can.page.what in
    let f = found sh k t can outline below read can.page.is in
    ready sheet (keeps_then keeps k.keeps) k.keeps t can f.below f.fits f.has.is (c sheet can.page.is)

pub copies_on : {u v x y : View} {new from s : ℕ} {there : Address} {start tail end : Tail} {cell : List ℕ} {seen : Outline} → Copies u v new there from s start tail → (v.Told → v.Shows) → OnlyReads v x → (x.Told → v.Told) → v.faults ≤ x.faults → (y.Told → x.Told) → x.faults ≤ y.faults → (u.Told → HasAt u.space.pages.at from (IsOutline seen)) → s < seen.slots → (v.Shows → HasAt v.space.pages.at from (HasThere there s cell)) → filled end.slot ≤ filled tail.slot + 1 → DidKeep x y new (CanExtend x tail (length cell)) (IsExtended y cell tail end) → Copies u y new there from (s + 1) start end
copies_on i shows k back later back' later' outline below read room d = record {
  back = λ t. i.back (back (back' t));
  later = let first = i.later in omega arith;
  room = let before = i.room in omega arith;
  did = keep_then (keep_reads i.did shows k) d
      (λ told b b' h can t c. let keeps = i.did.keeps told in let sh = shows (keeps.told told) in can_extend sh keeps k t can (outline told) below (read sh) c)
      (λ told b b' b'' h can t c e. λ sheet is.
      let sh = shows ((i.did.keeps told).told told) in
      let f = found sh k t can (outline told) below (read sh) is in
      copied_one sheet.slots f.below f.has.is f.has.at (c sheet is) e);
}

-- all slots of the page
whole : {v : View} {there : Address} {slots : Slots} {n : ℕ} {start tail : Tail} {last : ℕ} {b b' : Bucket} → length slots ≡ n → last ≡ tail.page.0 → Copying v there (take n slots) start tail b b' → AreCopied v there slots start last b b'
whole {there = there} {slots = slots} {n = n} {tail = tail} {b = b} {b' = b'} long last c = record {
  entries = c.entries ∙ ap (λ (s : Slots). entries_of b.parts ++ those_at there (entries_in s)) (ap (λ (k : ℕ). take k slots) (sym long) ∙ take-length slots);
  last_is = subst (λ (p : ℕ). IsLast p b') (sym last) c.ends.last;
  full = c.full;
  few = let few = c.few in omega arith;
  more = c.more;
  may_fill = c.may_fill;
}

pub copied_all : {u v : View} {new from : ℕ} {there : Address} {start tail : Tail} (copied : Copied) {seen : Outline} → Copies u v new there from seen.slots start tail → (u.Told → HasAt u.space.pages.at from (IsOutline seen)) → copied.last.0 ≡ tail.page.0 → DidKeep u v new (CanCopy u start from) (IsPartCopied u v there from start copied)
copied_all copied i outline last = keep_told i.did (λ told b h can. can) (λ told b b' h can t c. λ sheet e. let out = here_is e (outline told) in whole out.slots last (c sheet e))

-- what the calls in between want
pub page_still : {u v : View} {new from s : ℕ} {there : Address} {start tail : Tail} → Copies u v new there from s start tail → (u.Told → (b : Bucket) × IsLinked u.space.pages.at new b × CanCopy u start from b) → u.Told → HasAt v.space.pages.at from IsBucketPage
page_still i can told =
    let h = can told in
    let one = i.did.turns told h.0 h.1 h.2 in
    record { what = h.2.page.what; is = same_beside one.1 h.2.other h.2.page.is; has = h.2.page.has }

pub extend_ready : {u v x : View} {new from s : ℕ} {there : Address} {start tail : Tail} {cell : List ℕ} {seen : Outline} → Copies u v new there from s start tail → (v.Told → v.Shows) → OnlyReads v x → (u.Told → (b : Bucket) × IsLinked u.space.pages.at new b × CanCopy u start from b) → (u.Told → HasAt u.space.pages.at from (IsOutline seen)) → s < seen.slots → (v.Shows → HasAt v.space.pages.at from (HasThere there s cell)) → u.Told → (b : Bucket) × IsLinked x.space.pages.at new b × CanExtend x tail (length cell) b
extend_ready {u} {new = new} i shows k can outline below read told =
    let keeps = i.did.keeps told in
    let sh = shows (keeps.told told) in
    let h = can told in
    let one = i.did.turns told h.0 h.1 h.2 in
    let turns = still (λ (y : Space). Turns u.space y new h.0 one.0) k sh one.1 in
    (one.0, turns.linked, can_extend sh keeps k turns h.2 (outline told) below (read sh) one.2)

-- what was read of a slot
pub picked_some : {at : ℕ → Option Sheet} {p n : ℕ} (there : Address) (s : ℕ) (into : List ℕ) {o : Option ℕ} → o ≡ Some n → HasAt at p (IsPicked there s o into) → HasAt at p (HasThere there s (take n into))
picked_some {at} {p} there s into e h = subst (λ (o : Option ℕ). HasAt at p (IsPicked there s o into)) e h

pub picked_none : {at : ℕ → Option Sheet} {p : ℕ} (there : Address) (s : ℕ) (into : List ℕ) {o : Option ℕ} → o ≡ None → HasAt at p (IsPicked there s o into) → HasAt at p (LacksThere there s)
picked_none {at} {p} there s into e h = subst (λ (o : Option ℕ). HasAt at p (IsPicked there s o into)) e h
