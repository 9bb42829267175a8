-- The entries of a bucket at an address are removed, one page after another.
use Rattle.std.proofs.Common.{◌≡◌, ◌≢◌, ℕ, zero, suc, ◌+◌, ◌<◌, ◌≤◌, Bool, true, false, not, List, [], ◌∷◌, length, set, Option, Some, None, slice_get, slice_index, sym, ap, subst, ◌∙◌, refl, arith, inl, inr}
use Rattle.std.specs.List.{filter, remove}
use Rattle.std.proofs.lemmas.Bool.{cases_lt, cases_eq}
use Rattle.std.proofs.lemmas.List.{get_or-set_same, get_or-set_other, length-set}
use Rattle.std.proofs.lemmas.List.Edits.{get_or-remove_below, get_or-remove_above, length-remove}
use Rattle.std.proofs.lemmas.Option.{slice_get_within}
use Rattle.sg_base.specs.Page.{cell_in}
use Rattle.sg_base.specs.Sheet.{Sheet}
use Rattle.sg_base.specs.Slots.{Slots}
use Rattle.sg_base.specs.declared.numbers.PageNo.{PageNo}
use Rattle.sg_linear.specs.Address.{is_at}
use Rattle.sg_linear.specs.declared.address.Address.{Address}
use Rattle.sg_slotted.proofs.Room.{full_below}
use Rattle.sg_space.specs.Units.{HasAt, IsExact}
use Rattle.sg_space.specs.View.{View, Space, OnlyReads}
use Rattle.sg_space.proofs.Known.{both, same_some, still}
use Rattle.sg_space.proofs.Putting.{cell-set_same, cell-set_other}
use Rattle.sg_bucket.specs.Branch.{IsOutline, LacksThere, IsTold}
use Rattle.sg_bucket.specs.Bucket.{Bucket, IsLinked, HasEntry, OwnsPage, entries_of, part_at}
use Rattle.sg_bucket.specs.Calls.{IsSound}
use Rattle.sg_bucket.specs.Division.{IsPruned, those_not_at}
use Rattle.sg_bucket.specs.Entry.{Entry, AreOnce, entry_in}
use Rattle.sg_bucket.specs.Part.{IsBucketPage, entries_in}
use Rattle.sg_bucket.specs.Prune.{IsBehind, IsPageCut, IsPageLeft, IsPagePruned, IsStripped}
use Rattle.sg_bucket.specs.Steps.{CanCut, Did, HasCellAt, IsBare, IsCut, IsEmptied, IsFull, IsRemoved, IsStanding, with_part, without}
use Rattle.sg_bucket.specs.declared.pick.Outline.{Outline}
use Rattle.sg_bucket.specs.declared.walk.Place.{Place}
use Rattle.sg_bucket.proofs.Changing.{within_parts}
use Rattle.sg_bucket.proofs.Entries.{no_entries}
use Rattle.sg_bucket.proofs.Filters.{all_parts_pass, all_pass, cut_passes, fails, once-filter, passes, set_passes, without_failing}
use Rattle.sg_bucket.proofs.Fuel.{few_pages}
use Rattle.sg_bucket.proofs.Linking.{slice_get-remove_below, slice_get-remove_above, was_at}
use Rattle.sg_bucket.proofs.Mapping.{turns_none}
use Rattle.sg_bucket.proofs.Owning.{did_as, did_reads, did_then}
use Rattle.sg_bucket.proofs.Removing.{cut_ready_at}
use Rattle.sg_bucket.proofs.Walking.{index_past, index_there, part_page, still_linked}

-- the test of an entry that stays
abbrev pub is_left : Address → Entry → Bool
is_left there e = not (is_at there e.key)

-- a list with an element set twice
pub set-set : {X : Type 0} (xs : List X) (i : ℕ) (x y : X) → set (set xs i x) i y ≡ set xs i y
set-set [] i x y = refl
set-set (z ∷ xs) zero x y = refl
set-set (z ∷ xs) (suc i) x y = ap (λ ys. z ∷ ys) (set-set xs i x y)

remove-set : {X : Type 0} (xs : List X) (i : ℕ) (x : X) → remove (set xs i x) i ≡ remove xs i
remove-set [] i x = refl
remove-set (z ∷ xs) zero x = refl
remove-set (z ∷ xs) (suc i) x = ap (λ ys. z ∷ ys) (remove-set xs i x)

-- So many slots of the page have no entry at the address any more, and all else is as it was.
pub record IsStripping (there : Address) (page s : ℕ) (b c : Bucket) : Type 0 where
  pub index : ℕ
  pub page_is : slice_get b.pages index ≡ Some page
  pub slots : Slots
  pub is : c ≡ with_part index slots b
  pub long : length slots ≡ length (part_at b.parts index)
  pub same : those_not_at there (entries_in slots) ≡ those_not_at there (entries_in (part_at b.parts index))
  pub clean : (k : ℕ) (cell : List ℕ) → k < s → cell_in slots k ≡ Some cell → is_at there (entry_in cell).key ≡ false

pub record Strips (u v : View) (first before page : ℕ) (there : Address) (s : ℕ) : Type 0 where
  pub back : v.Told → u.Told
  pub later : u.faults ≤ v.faults
  pub did : Did u v first (IsBehind before page) (IsStripping there page s)

pub strips_none : {u v : View} {first before page : ℕ} {there : Address} → (u.Told → u.Shows) → OnlyReads u v → (v.Told → u.Told) → u.faults ≤ v.faults → Strips u v first before page there 0
strips_none shows k back later = record {
  back = back;
  later = later;
  did = record {
    told = λ told. k.keeps.told told;
    turns = λ told b h behind. (
      b,
      turns_none (k.same (shows told)) h,
      record {
        index = behind.index;
        page_is = behind.page_is;
        slots = part_at b.parts behind.index;
        is = ap (λ (parts : List Slots). let x : Bucket = record { pages = b.pages; parts = parts } in x) (sym (same_set b.parts behind.index (within_parts h behind.page_is)));
        long = refl;
        same = refl;
        clean = λ k cell less e. absurd (omega arith);
      },
    );
    may_have = λ told b h can page n none there may. k.keeps.may_have page n may;
  };
}
  where
    same_set : (parts : List Slots) (i : ℕ) → i < length parts → set parts i (part_at parts i) ≡ parts
    same_set [] i below = refl
    same_set (slots ∷ parts) zero below = refl
    same_set (slots ∷ parts) (suc i) below = ap (λ (xs : List Slots). slots ∷ xs) (same_set parts i (omega arith))

-- the page's slots now
slots_now : {at : ℕ → Option Sheet} {first page s : ℕ} {there : Address} {b c : Bucket} {sheet : Sheet} → IsLinked at first c → (r : IsStripping there page s b c) → r.index < length b.parts → at page ≡ Some sheet → sheet.slots ≡ r.slots
slots_now {page = page} {b = b} {c = c} h r below e =
    let part = h.part r.index page (ap (λ (x : Bucket). slice_get x.pages r.index) r.is ∙ r.page_is) in
    ap (λ (x : Sheet). x.slots) (same_some _ _ (sym e ∙ part.is)) ∙ (part.has.slots_are ∙ (ap (λ (x : Bucket). part_at x.parts r.index) r.is ∙ get_or-set_same b.parts r.index r.slots [] below))

-- a slot passed
pub past_slot : {s page : ℕ} {there : Address} {b c : Bucket} → (r : IsStripping there page s b c) → ((cell : List ℕ) → cell_in r.slots s ≡ Some cell → is_at there (entry_in cell).key ≡ false) → IsStripping there page (s + 1) b c
past_slot {s = s} {there = there} r lacks = record {
  index = r.index;
  page_is = r.page_is;
  slots = r.slots;
  is = r.is;
  long = r.long;
  same = r.same;
  clean = λ k cell less e. elim (cases_eq k s) as (λ _. is_at there (entry_in cell).key ≡ false) [
    | inl here ↦ lacks cell (ap (cell_in r.slots) (sym here) ∙ e)
    | inr other ↦ r.clean k cell (omega arith) e
  ];
}

-- where the cell stands that is to be removed
pub strip_stands : {at : ℕ → Option Sheet} {first before page s : ℕ} {there : Address} {b c : Bucket} {place : Place} {cell : List ℕ} → IsLinked at first b → IsBehind before page b → (r : IsStripping there page s b c) → cell_in r.slots s ≡ Some cell → place.before.0 ≡ before → place.page.0 ≡ page → place.slot ≡ s → IsStanding c place cell
strip_stands {page = page} {s = s} {b = b} {c = c} {place = place} h behind r e before_is page_is slot_is =
    let at : behind.index ≡ r.index = h.apart behind.index r.index page behind.page_is r.page_is in
    let pages : c.pages ≡ b.pages = ap (λ (x : Bucket). x.pages) r.is in
    record {
      index = r.index;
      page = ap (λ (xs : List ℕ). slice_get xs r.index) pages ∙ (r.page_is ∙ ap Some (sym page_is));
      before = λ i e'. ap (λ (xs : List ℕ). slice_get xs i) pages ∙ (behind.before_is i (at ∙ e') ∙ ap Some (sym before_is));
      is = ap (λ (x : Bucket). cell_in (part_at x.parts r.index) place.slot) r.is ∙ (ap (λ (slots : Slots). cell_in slots place.slot) (get_or-set_same b.parts r.index r.slots [] (within_parts h r.page_is)) ∙ (ap (cell_in r.slots) slot_is ∙ e));
    }

-- a cell removed
pub strip_one : {at : ℕ → Option Sheet} {first before page s : ℕ} {there : Address} {b c d : Bucket} {place : Place} {cell : List ℕ} → IsLinked at first b → IsBehind before page b → (r : IsStripping there page s b c) → cell_in r.slots s ≡ Some cell → is_at there (entry_in cell).key ≡ true → place.before.0 ≡ before → place.page.0 ≡ page → place.slot ≡ s → IsRemoved place c d → IsStripping there page (s + 1) b d
unfolding strip_stands
strip_one {page = page} {s = s} {there = there} {b = b} {c = c} {d = d} {place = place} {cell = cell} h behind r e at before_is page_is slot_is gone = record {
  index = r.index;
  page_is = r.page_is;
  slots = set r.slots s None;
  is = now;
  long = length-set r.slots s None ∙ r.long;
  same = without_failing (is_left there) r.slots s cell e (ap not at) ∙ r.same;
  clean = λ k other less f. elim (cases_eq k s) as (λ _. is_at there (entry_in other).key ≡ false) [
    | inl here ↦ absurd (let none : cell_in (set r.slots s None) k ≡ None = ap (cell_in (set r.slots s None)) here ∙ cell-set_same r.slots s None (full_below r.slots s cell (sym e)) in cc)
    | inr ne ↦ r.clean k other (omega arith) (sym (cell-set_other r.slots s k None ne) ∙ f)
  ];
}
  where
    stands : IsStanding c place cell
    stands = strip_stands h behind r e before_is page_is slot_is

    part_is : part_at c.parts r.index ≡ r.slots
    part_is = ap (λ (x : Bucket). part_at x.parts r.index) r.is ∙ get_or-set_same b.parts r.index r.slots [] (within_parts h r.page_is)

    slots_is : set (part_at c.parts r.index) place.slot None ≡ set r.slots s None
    slots_is = ap (λ (slots : Slots). set slots place.slot None) part_is ∙ ap (λ (k : ℕ). set r.slots k None) slot_is

    now : d ≡ with_part r.index (set r.slots s None) b
    now =
        gone.is cell stands
        ∙ (ap (λ (slots : Slots). with_part r.index slots c) slots_is
        ∙ (ap (λ (x : Bucket). with_part r.index (set r.slots s None) x) r.is
        ∙ ap (λ (parts : List Slots). let x : Bucket = record { pages = b.pages; parts = parts } in x) (set-set b.parts r.index r.slots (set r.slots s None))))

-- all slots of the page
pub stripped : {at : ℕ → Option Sheet} {first page s : ℕ} {there : Address} {b c : Bucket} → IsLinked at first b → (r : IsStripping there page s b c) → length (part_at b.parts r.index) ≤ s → IsStripped there page b c
stripped {s = s} {there = there} {b = b} h r all = record {
  index = r.index;
  page_is = r.page_is;
  slots = r.slots;
  is = r.is;
  left = sym (all_pass (is_left there) r.slots (λ i cell e. ap not (r.clean i cell (let below = full_below r.slots i cell (sym e) in let long = r.long in omega arith) e))) ∙ r.same;
}

-- the page is one of entries
strip_page_at : {at : ℕ → Option Sheet} {first page : ℕ} (i : ℕ) {c : Bucket} → IsLinked at first c → slice_get c.pages i ≡ Some page → HasAt at page IsBucketPage
strip_page_at {page = page} i h e = part_page (h.part i page e)

pub strip_page : {u v : View} {first before page s : ℕ} {there : Address} → Strips u v first before page there s → (u.Told → (b : Bucket) × IsLinked u.space.pages.at first b × IsBehind before page b) → u.Told → HasAt v.space.pages.at page IsBucketPage
strip_page i can told =
    let h = can told in
    let one = i.did.turns told h.0 h.1 h.2 in
    let r = one.2 in
    strip_page_at r.index one.1.linked (ap (λ (x : Bucket). slice_get x.pages r.index) r.is ∙ r.page_is)

pub strips_past : {u v x : View} {first before page s : ℕ} {there : Address} → Strips u v first before page there s → (v.Told → v.Shows) → OnlyReads v x → (x.Told → v.Told) → v.faults ≤ x.faults → (v.Shows → HasAt v.space.pages.at page (LacksThere there s)) → Strips u x first before page there (s + 1)
strips_past {page = page} {s = s} {there = there} i shows k back later read = record {
  back = λ t. i.back (back t);
  later = let first = i.later in omega arith;
  did = did_as (did_reads i.did shows k) (λ told b c h can t r.
      let sh = shows (i.did.told told) in
      let here = still (λ (y : Space). HasAt y.pages.at page (LacksThere there s)) k sh (read sh) in
      past_slot r (λ cell e. here.has cell (ap (λ (xs : Slots). cell_in xs s) (slots_now t.linked r (within_parts h r.page_is) here.is) ∙ e)));
}

-- the cell that is to be removed
record IsFoundAt (there : Address) (s : ℕ) (slots : Slots) : Type 0 where
  cell : List ℕ
  is : cell_in slots s ≡ Some cell
  at : is_at there (entry_in cell).key ≡ true

found_at : {v x : View} {at : ℕ → Option Sheet} {first page s : ℕ} {there : Address} {b c : Bucket} → v.Shows → OnlyReads v x → IsLinked at first b → IsLinked x.space.pages.at first c → (r : IsStripping there page s b c) → (v.Shows → HasAt v.space.pages.at page (IsTold there s true)) → IsFoundAt there s r.slots
found_at {page = page} {s = s} {there = there} sh k h h' r read =
    let here = still (λ (y : Space). HasAt y.pages.at page (IsTold there s true)) k sh (read sh) in
    let has = here.has in
    record { cell = has.0; is = ap (λ (xs : Slots). cell_in xs s) (sym (slots_now h' r (within_parts h r.page_is) here.is)) ∙ has.1.is; at = has.1.at }

pub strip_ready : {u v x : View} {first before page s : ℕ} {there : Address} {place : Place} → Strips u v first before page there s → (v.Told → v.Shows) → OnlyReads v x → (u.Told → (b : Bucket) × IsLinked u.space.pages.at first b × IsBehind before page b) → (v.Shows → HasAt v.space.pages.at page (IsTold there s true)) → place.before.0 ≡ before → place.page.0 ≡ page → place.slot ≡ s → u.Told → (c : Bucket) × IsLinked x.space.pages.at first c × HasCellAt place c
strip_ready i shows k can read before_is page_is slot_is told =
    let sh = shows (i.did.told told) in
    let h = can told in
    let one = i.did.turns told h.0 h.1 h.2 in
    let linked = still_linked k sh one.1.linked in
    let found = found_at sh k h.1 linked one.2 read in
    (one.0, linked, record { was = found.cell; stands = strip_stands h.1 h.2 one.2 found.is before_is page_is slot_is })

pub strips_on : {u v x y : View} {first before page s : ℕ} {there : Address} {place : Place} → Strips u v first before page there s → (v.Told → v.Shows) → OnlyReads v x → (x.Told → v.Told) → v.faults ≤ x.faults → (y.Told → x.Told) → x.faults ≤ y.faults → (v.Shows → HasAt v.space.pages.at page (IsTold there s true)) → place.before.0 ≡ before → place.page.0 ≡ page → place.slot ≡ s → Did x y first (HasCellAt place) (IsRemoved place) → Strips u y first before page there (s + 1)
strips_on i shows k back later back' later' read before_is page_is slot_is d = record {
  back = λ t. i.back (back (back' t));
  later = let first = i.later in omega arith;
  did = did_then (did_reads i.did shows k) d
      (λ told b c h can t r. let found = found_at (shows (i.did.told told)) k h t.linked r read in record { was = found.cell; stands = strip_stands h can r found.is before_is page_is slot_is })
      (λ told b c c' h can t r gone. let found = found_at (shows (i.did.told told)) k h t.linked r read in strip_one h can r found.is found.at before_is page_is slot_is gone);
}

pub strips_all : {u v : View} {first before page : ℕ} {there : Address} {seen : Outline} → Strips u v first before page there seen.slots → (u.Told → HasAt u.space.pages.at page (IsOutline seen)) → Did u v first (IsBehind before page) (IsStripped there page)
strips_all {page = page} i outline = did_as i.did (λ told b c h can t r.
    let part = h.part r.index page r.page_is in
    let out = both part (outline told) in
    let long = ap (λ (xs : Slots). length xs) part.has.slots_are in
    let all = out.slots in
    stripped h r (omega arith))

pub stripped_page : {at : ℕ → Option Sheet} {first page : ℕ} {there : Address} {b c : Bucket} → IsLinked at first c → IsStripped there page b c → HasAt at page IsBucketPage
stripped_page h r = strip_page_at r.index h (ap (λ (x : Bucket). slice_get x.pages r.index) r.is ∙ r.page_is)

-- a page that stays: the first one, or one that has an entry
pub left_first : {at : ℕ → Option Sheet} {first page : ℕ} {there : Address} {b c : Bucket} → IsLinked at first b → page ≡ first → IsStripped there page b c → IsPageLeft there page b c
left_first {first = first} h same r = record {
  stripped = r;
  entry = λ more. absurd (let zero_is : r.index ≡ 0 = h.apart r.index 0 first (r.page_is ∙ ap Some same) h.starts in omega arith);
}

pub left_some : {at at' : ℕ → Option Sheet} {first page : ℕ} {there : Address} {b c : Bucket} {o : Option PageNo} → IsLinked at first b → IsLinked at' first c → o ≡ None → HasAt at' page (IsEmptied o) → IsStripped there page b c → IsPageLeft there page b c
left_some {at' = at'} {page = page} {b = b} {c = c} h h' e seen r = record { stripped = r; entry = λ more. some }
  where
    some : HasEntry r.slots
    some =
        let part = h'.part r.index page (ap (λ (x : Bucket). slice_get x.pages r.index) r.is ∙ r.page_is) in
        let here : HasAt at' page (IsEmptied None) = subst (λ (o : Option PageNo). HasAt at' page (IsEmptied o)) e seen in
        subst HasEntry (part.has.slots_are ∙ (ap (λ (x : Bucket). part_at x.parts r.index) r.is ∙ get_or-set_same b.parts r.index r.slots [] (within_parts h r.page_is))) (both part here)

-- and one that goes
pub strip_cuts : {at at' : ℕ → Option Sheet} {first before page : ℕ} {there : Address} {b c : Bucket} {next : PageNo} {o : Option PageNo} → IsLinked at first b → IsBehind before page b → page ≢ first → IsStripped there page b c → IsLinked at' first c → o ≡ Some next → HasAt at' page (IsEmptied o) → CanCut before page next.0 c
strip_cuts {before = before} {page = page} {b = b} h behind other r h' e seen =
    let at = h.apart behind.index r.index page behind.page_is r.page_is in
    cut_ready_at r.slots h r.page_is (λ i f. behind.before_is i (at ∙ f)) other r.is h' e seen

pub page_cut : {at at' : ℕ → Option Sheet} {first before page next : ℕ} {there : Address} {b c d : Bucket} → IsLinked at first b → IsLinked at' first c → IsStripped there page b c → CanCut before page next c → IsCut page c d → IsPageCut there page b d
page_cut {page = page} {there = there} {b = b} {c = c} {d = d} h h' r can cut = record {
  index = r.index;
  behind = omega (arith, at);
  page_is = r.page_is;
  is =
      cut.is r.index page_now
      ∙ (ap (λ (x : Bucket). without r.index x) r.is
      ∙ ap (λ (parts : List Slots). let x : Bucket = record { pages = remove b.pages r.index; parts = parts } in x) (remove-set b.parts r.index r.slots));
  none_left = sym r.left ∙ no_entries r.slots (subst IsBare (ap (part_at c.parts) (sym at) ∙ (ap (λ (x : Bucket). part_at x.parts r.index) r.is ∙ get_or-set_same b.parts r.index r.slots [] (within_parts h r.page_is))) can.bare);
}
  where
    page_now : slice_get c.pages r.index ≡ Some page
    page_now = ap (λ (x : Bucket). slice_get x.pages r.index) r.is ∙ r.page_is

    at : r.index ≡ can.index + 1
    at = h'.apart r.index (can.index + 1) page page_now can.page_is

-- those that pass a test pass it again
twice_by : (p : Entry → Bool) (e : Entry) (es : List Entry) (b : Bool) → p e ≡ b → filter p (filter p es) ≡ filter p es → filter p (filter p (e ∷ es)) ≡ filter p (e ∷ es)
twice_by p e es true t rest = ap (λ (xs : List Entry). filter p xs) (passes p e es t) ∙ (passes p e (filter p es) t ∙ (ap (λ (xs : List Entry). e ∷ xs) rest ∙ sym (passes p e es t)))
twice_by p e es false t rest = ap (λ (xs : List Entry). filter p xs) (fails p e es t) ∙ (rest ∙ sym (fails p e es t))

twice : (p : Entry → Bool) (es : List Entry) → filter p (filter p es) ≡ filter p es
twice p [] = refl
twice p (e ∷ es) = twice_by p e es (p e) refl (twice p es)

-- all entries of these slots stay
abbrev IsClean : Address → Slots → Type 0
IsClean there slots = those_not_at there (entries_in slots) ≡ entries_in slots

clean_left : (there : Address) (slots : Slots) (es : List Entry) → entries_in slots ≡ those_not_at there es → IsClean there slots
clean_left there slots es e = ap (λ (xs : List Entry). those_not_at there xs) e ∙ (twice (is_left there) es ∙ sym e)

-- So many pages were passed, and so many of them are left: those have no entry at the address.
pub record IsPrunedTo (there : Address) (passed left : ℕ) (b c : Bucket) : Type 0 where
  pub clean : (j : ℕ) → j < left → those_not_at there (entries_in (part_at c.parts j)) ≡ entries_in (part_at c.parts j)
  pub same : those_not_at there (entries_of c.parts) ≡ those_not_at there (entries_of b.parts)
  pub full : IsFull b → IsFull c
  pub long : length c.pages + passed ≡ length b.pages + left
  pub most : left ≤ passed
  pub among : (p : ℕ) → OwnsPage c p → OwnsPage b p

pub record IsPruning (there : Address) (passed page before : ℕ) (b c : Bucket) : Type 0 where
  pub left : ℕ
  pub to : IsPrunedTo there passed left b c
  pub page_is : slice_get c.pages left ≡ Some page
  pub before_is : (i : ℕ) → left ≡ i + 1 → slice_get c.pages i ≡ Some before

pub record Prunes (u v : View) (first before page : ℕ) (there : Address) (passed : ℕ) : Type 0 where
  pub back : v.Told → u.Told
  pub later : u.faults ≤ v.faults
  pub did : Did u v first IsSound (IsPruning there passed page before)

pub prunes_none : {v : View} {first : ℕ} {there : Address} → Prunes v v first first first there 0
prunes_none = record {
  back = λ t. t;
  later = omega arith;
  did = record {
    told = λ told. told;
    turns = λ told b h can. (
      b,
      turns_none refl h,
      record {
        left = 0;
        to = record { clean = λ j less. absurd (omega arith); same = refl; full = λ full. full; long = refl; most = omega arith; among = λ p o. o };
        page_is = h.starts;
        before_is = λ i e. absurd (omega arith);
      },
    );
    may_have = λ told b h can page n none there may. may;
  };
}

pub pruning_behind : {there : Address} {passed page before : ℕ} {b c : Bucket} → IsPruning there passed page before b c → IsBehind before page c
pruning_behind r = record { index = r.left; page_is = r.page_is; before_is = r.before_is }

-- one page further that stays
left_to : {at : ℕ → Option Sheet} {first passed page before : ℕ} {there : Address} {b c d : Bucket} → IsLinked at first c → (m : IsPruning there passed page before b c) → IsPageLeft there page c d → IsPrunedTo there (passed + 1) (m.left + 1) b d × (d.pages ≡ c.pages)
left_to {page = page} {there = there} {b = b} {c = c} {d = d} h m stays = (
  record {
    clean = λ j less. elim (cases_eq j r.index) as (λ _. IsClean there (part_at d.parts j)) [
      | inl here ↦ subst (IsClean there) (sym (ap (part_at d.parts) here ∙ part_here)) (clean_left there r.slots (entries_in (part_at c.parts r.index)) r.left)
      | inr ne ↦ subst (IsClean there) (sym (part_other j ne)) (m.to.clean j (let e = at in omega arith))
    ];
    same = ap (λ (x : Bucket). those_not_at there (entries_of x.parts)) r.is ∙ (set_passes (is_left there) c.parts r.index r.slots (ap (λ (xs : List Entry). those_not_at there xs) r.left ∙ twice (is_left there) (entries_in (part_at c.parts r.index))) ∙ m.to.same);
    full = λ full j less. elim (cases_eq (j + 1) r.index) as (λ _. HasEntry (part_at d.parts (j + 1))) [
      | inl here ↦ subst HasEntry (sym (ap (part_at d.parts) here ∙ part_here)) (stays.entry (omega arith))
      | inr ne ↦ subst HasEntry (sym (part_other (j + 1) ne)) (m.to.full full j (let same : length d.pages ≡ length c.pages = ap (λ (x : Bucket). length x.pages) r.is in omega arith))
    ];
    long = let same : length d.pages ≡ length c.pages = ap (λ (x : Bucket). length x.pages) r.is in let long = m.to.long in omega arith;
    most = let most = m.to.most in omega arith;
    among = λ p o. m.to.among p (o.0, sym (ap (λ (x : Bucket). slice_get x.pages o.0) r.is) ∙ o.1);
  },
  ap (λ (x : Bucket). x.pages) r.is,
)
  where
    r : IsStripped there page c d
    r = stays.stripped

    at : r.index ≡ m.left
    at = h.apart r.index m.left page r.page_is m.page_is

    part_here : part_at d.parts r.index ≡ r.slots
    part_here = ap (λ (x : Bucket). part_at x.parts r.index) r.is ∙ get_or-set_same c.parts r.index r.slots [] (within_parts h r.page_is)

    part_other : (j : ℕ) → j ≢ r.index → part_at d.parts j ≡ part_at c.parts j
    part_other j ne = ap (λ (x : Bucket). part_at x.parts j) r.is ∙ get_or-set_other c.parts r.index j r.slots [] ne

-- and one that goes
cut_to : {at : ℕ → Option Sheet} {first passed page before : ℕ} {there : Address} {b c d : Bucket} → IsLinked at first c → (m : IsPruning there passed page before b c) → IsPageCut there page c d → IsPrunedTo there (passed + 1) m.left b d × (d ≡ without m.left c) × (0 < m.left)
cut_to {page = page} {there = there} {b = b} {c = c} {d = d} h m goes = (
  record {
    clean = λ j less. subst (IsClean there) (sym (ap (λ (x : Bucket). part_at x.parts j) is ∙ get_or-remove_below c.parts m.left [] j less within_part)) (m.to.clean j less);
    same = ap (λ (x : Bucket). those_not_at there (entries_of x.parts)) is ∙ (cut_passes (is_left there) c.parts m.left (ap (λ (i : ℕ). those_not_at there (entries_in (part_at c.parts i))) (sym at) ∙ goes.none_left) ∙ m.to.same);
    full = λ full j less. full_cut (m.to.full full) j (let one = shorter in omega arith);
    long = let one = shorter in let long = m.to.long in omega arith;
    most = let most = m.to.most in omega arith;
    among = λ p o. let w = was_at c.pages m.left o.0 p within (sym (ap (λ (x : Bucket). slice_get x.pages o.0) is) ∙ o.1) in m.to.among p (w.place, w.is);
  },
  is,
  (let e = at in let behind = goes.behind in omega arith),
)
  where
    at : goes.index ≡ m.left
    at = h.apart goes.index m.left page goes.page_is m.page_is

    is : d ≡ without m.left c
    is = goes.is ∙ ap (λ (i : ℕ). without i c) at

    within : m.left < length c.pages
    within = slice_get_within c.pages m.left page m.page_is

    within_part : m.left < length c.parts
    within_part = within_parts h m.page_is

    shorter : length d.pages + 1 ≡ length c.pages
    shorter = let same : length d.pages ≡ length (remove c.pages m.left) = ap (λ (x : Bucket). length x.pages) is in let one = length-remove c.pages m.left within in let more = within in omega arith

    full_cut : IsFull c → (j : ℕ) → j + 1 + 1 < length c.pages → HasEntry (part_at d.parts (j + 1))
    full_cut full j less = elim (cases_lt (j + 1) m.left) as (λ _. HasEntry (part_at d.parts (j + 1))) [
      | inl early ↦ subst HasEntry (sym (ap (λ (x : Bucket). part_at x.parts (j + 1)) is ∙ get_or-remove_below c.parts m.left [] (j + 1) early within_part)) (full j (let w = within in omega arith))
      | inr late ↦ subst HasEntry (sym (ap (λ (x : Bucket). part_at x.parts (j + 1)) is ∙ get_or-remove_above c.parts m.left [] (j + 1) late within_part)) (full (j + 1) (omega arith))
    ]

-- the next page
pruning_on : {at : ℕ → Option Sheet} {first passed page before next end : ℕ} {there : Address} {b c d : Bucket} → IsLinked at first c → IsPagePruned there before page end c d → (m : IsPruning there passed page before b c) → slice_index c.pages (m.left + 1) ≡ next → next ≢ 0 → IsPruning there (passed + 1) next end b d
pruning_on {page = page} {next = next} {end = end} {c = c} {d = d} h done m next_is some = elim done [
  | inl stays ↦
      let to = left_to h m stays.0 in
      record {
        left = m.left + 1;
        to = to.0;
        page_is = ap (λ (xs : List ℕ). slice_get xs (m.left + 1)) to.1 ∙ index_there c.pages (m.left + 1) next next_is some;
        before_is = λ i e. ap (λ (xs : List ℕ). slice_get xs i) to.1 ∙ (ap (slice_get c.pages) (let same : i ≡ m.left = omega arith in same) ∙ (m.page_is ∙ ap Some (sym stays.1)));
      }
  | inr goes ↦
      let to = cut_to h m goes.0 in
      let within = slice_get_within c.pages m.left page m.page_is in
      record {
        left = m.left;
        to = to.0;
        page_is = ap (λ (x : Bucket). slice_get x.pages m.left) to.1 ∙ (slice_get-remove_above c.pages m.left m.left (omega arith) within ∙ index_there c.pages (m.left + 1) next next_is some);
        before_is = λ i e. ap (λ (x : Bucket). slice_get x.pages i) to.1 ∙ (slice_get-remove_below c.pages m.left i (omega arith) within ∙ (m.before_is i e ∙ ap Some (sym goes.1)));
      }
]

-- all pages
all_pruned : {at : ℕ → Option Sheet} {first passed left : ℕ} {there : Address} {b d : Bucket} → IsLinked at first d → IsPrunedTo there passed left b d → length d.pages ≤ left → IsSound b → IsPruned there b d
all_pruned {there = there} {b = b} {d = d} h to all sound = record {
  entries = entries;
  sound = record { once = subst AreOnce (sym entries) (once-filter (is_left there) (entries_of b.parts) sound.once); full = to.full sound.full };
  few = let long = to.long in let most = to.most in omega arith;
  among = to.among;
}
  where
    entries : entries_of d.parts ≡ those_not_at there (entries_of b.parts)
    entries = sym (all_parts_pass (is_left there) d.parts (λ j below. to.clean j (let long = h.long in omega arith))) ∙ to.same

-- what is left where the last page was passed
record AreAllPassed (there : Address) (b d : Bucket) : Type 0 where
  passed : ℕ
  left : ℕ
  to : IsPrunedTo there passed left b d
  all : length d.pages ≤ left

last_passed : {at : ℕ → Option Sheet} {first passed page before end : ℕ} {there : Address} {b c d : Bucket} → IsLinked at first c → IsPagePruned there before page end c d → (m : IsPruning there passed page before b c) → slice_index c.pages (m.left + 1) ≡ 0 → AreAllPassed there b d
last_passed {passed = passed} {page = page} {c = c} {d = d} h done m none =
    let past : length c.pages ≤ m.left + 1 = index_past c.pages (m.left + 1) none (h.behind m.left) in
    elim done [
      | inl stays ↦
          let to = left_to h m stays.0 in
          record { passed = passed + 1; left = m.left + 1; to = to.0; all = let same : length d.pages ≡ length c.pages = ap (λ (xs : List ℕ). length xs) to.1 in omega arith }
      | inr goes ↦
          let to = cut_to h m goes.0 in
          let within = slice_get_within c.pages m.left page m.page_is in
          record { passed = passed + 1; left = m.left; to = to.0; all = let same : length d.pages ≡ length (remove c.pages m.left) = ap (λ (x : Bucket). length x.pages) to.1 in let one = length-remove c.pages m.left within in omega arith }
    ]

-- the next page, as it was read
next_read : {v x : View} {first page next : ℕ} {c : Bucket} (left : ℕ) → v.Shows → OnlyReads v x → IsLinked x.space.pages.at first c → slice_get c.pages left ≡ Some page → (v.Shows → HasAt v.space.pages.at page (λ sheet. sheet.links.0 ≡ next)) → slice_index c.pages (left + 1) ≡ next
next_read {page = page} {next = next} left sh k h there read =
    let part = h.part left page there in
    let here = still (λ (s : Space). HasAt s.pages.at page (λ sheet. sheet.links.0 ≡ next)) k sh (read sh) in
    sym part.has.next_is ∙ both part here

pub prunes_on : {u v x y : View} {first before page next end passed : ℕ} {there : Address} → Prunes u v first before page there passed → (v.Told → v.Shows) → OnlyReads v x → (x.Told → v.Told) → v.faults ≤ x.faults → (y.Told → x.Told) → x.faults ≤ y.faults → Did x y first (IsBehind before page) (IsPagePruned there before page end) → (v.Shows → HasAt v.space.pages.at page (λ sheet. sheet.links.0 ≡ next)) → next ≢ 0 → Prunes u y first end next there (passed + 1)
prunes_on m shows k back later back' later' d read some = record {
  back = λ t. m.back (back (back' t));
  later = let first = m.later in omega arith;
  did = did_then (did_reads m.did shows k) d (λ told b b' h can t r. pruning_behind r) (λ told b b' b'' h can t r done. pruning_on t.linked done r (next_read r.left (shows (m.did.told told)) k t.linked r.page_is read) some);
}

pub pruned : {u v x y : View} {first before page next end passed : ℕ} {there : Address} → Prunes u v first before page there passed → (v.Told → v.Shows) → OnlyReads v x → Did x y first (IsBehind before page) (IsPagePruned there before page end) → (v.Shows → HasAt v.space.pages.at page (λ sheet. sheet.links.0 ≡ next)) → next ≡ 0 → Did u y first IsSound (IsPruned there)
pruned {u} {v} {x} {y} {first} {there = there} m shows k d read none = did_as all (λ told b b' h sound t r. all_pruned t.linked r.to r.all sound)
  where
    all : Did u y first IsSound (AreAllPassed there)
    all = did_then (did_reads m.did shows k) d (λ told b b' h can t r. pruning_behind r) (λ told b b' b'' h can t r done. last_passed t.linked done r (next_read r.left (shows (m.did.told told)) k t.linked r.page_is read ∙ none))

-- what the calls in between want
pub prune_page_there : {u v : View} {first before page passed : ℕ} {there : Address} → Prunes u v first before page there passed → (u.Told → (b : Bucket) × IsLinked u.space.pages.at first b × IsSound b) → u.Told → HasAt v.space.pages.at page IsBucketPage
prune_page_there m can told =
    let h = can told in
    let one = m.did.turns told h.0 h.1 h.2 in
    strip_page_at one.2.left one.1.linked one.2.page_is

pub prune_ready : {u v x : View} {first before page passed : ℕ} {there : Address} → Prunes u v first before page there passed → (v.Told → v.Shows) → OnlyReads v x → (u.Told → (b : Bucket) × IsLinked u.space.pages.at first b × IsSound b) → u.Told → (c : Bucket) × IsLinked x.space.pages.at first c × IsBehind before page c
prune_ready m shows k can told =
    let h = can told in
    let one = m.did.turns told h.0 h.1 h.2 in
    (one.0, still_linked k (shows (m.did.told told)) one.1.linked, pruning_behind one.2)

-- the page that is next is one of the bucket's
pub pruning_within : {u v : View} {first before page passed : ℕ} {there : Address} → Prunes u v first before page there passed → u.Told → (b : Bucket) → IsLinked u.space.pages.at first b → IsSound b → passed < length b.pages
pruning_within {page = page} m told b h sound =
    let one = m.did.turns told b h sound in
    let r = one.2 in
    let long = r.to.long in
    let within = slice_get_within (one.0).pages r.left page r.page_is in
    omega arith

-- a bucket has no more pages than its space
pub still_pruning : {u v : View} {first before page passed : ℕ} {there : Address} → Prunes u v first before page there passed → IsExact u.space.pages → (u.Told → (b : Bucket) × IsLinked u.space.pages.at first b × IsSound b) → u.Told → passed < u.space.pages.count
still_pruning {page = page} m exact can told =
    let h = can told in
    let one = m.did.turns told h.0 h.1 h.2 in
    let r = one.2 in
    let few = few_pages exact h.1 in
    let long = r.to.long in
    let within = slice_get_within (one.0).pages r.left page r.page_is in
    omega arith

-- what was read of a slot
pub told_yes : {at : ℕ → Option Sheet} {p : ℕ} (there : Address) (s : ℕ) {yes : Bool} → yes ≡ true → HasAt at p (IsTold there s yes) → HasAt at p (IsTold there s true)
told_yes {at} {p} there s e h = subst (λ (b : Bool). HasAt at p (IsTold there s b)) e h

pub told_no : {at : ℕ → Option Sheet} {p : ℕ} (there : Address) (s : ℕ) {yes : Bool} → yes ≡ false → HasAt at p (IsTold there s yes) → HasAt at p (LacksThere there s)
told_no {at} {p} there s e h = subst (λ (b : Bool). HasAt at p (IsTold there s b)) e h
