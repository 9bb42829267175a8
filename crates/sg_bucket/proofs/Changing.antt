-- The steps of a change of a bucket: a cell put, set or removed, a page appended, a page cut.
use Rattle.std.proofs.Common.{◌≡◌, ◌≢◌, ℕ, ◌+◌, ◌<◌, ◌≤◌, ◌==◌, true, false, List, [], ◌∷◌, ◌++◌, length, set, Option, Some, None, IsSome, slice_get, sym, ap, subst, ◌∙◌, refl, arith, inl, inr}
use Rattle.std.proofs.lemmas.Bool.{cases_lt, cases_eq}
use Rattle.std.proofs.lemmas.Bool.Decides.{nat_tests}
use Rattle.std.proofs.lemmas.List.{get_or-set_same, get_or-set_other, length_push, get_or_push, get_or_append_left}
use Rattle.std.proofs.lemmas.Option.{slice_get_within}
use Rattle.sg_base.specs.Op.{Op, shrinks}
use Rattle.sg_base.specs.Op.Op.{Put, Set, Remove, Links}
use Rattle.sg_base.specs.Page.{cell_in, bytes_of}
use Rattle.sg_base.specs.Sheet.{Sheet}
use Rattle.sg_base.specs.Slots.{Slots, IsFree, with_cell}
use Rattle.sg_ops.specs.Steps.{step, with_slots}
use Rattle.sg_ops.specs.Table.{Table}
use Rattle.sg_slotted.proofs.Room.{full_below, bytes_with}
use Rattle.sg_step.proofs.Back.{removes}
use Rattle.sg_space.specs.Pages.{IsPossible, Changed, Freed}
use Rattle.sg_space.specs.Reads.{TookWith}
use Rattle.sg_space.specs.Units.{HasAt, Units, IsTaken}
use Rattle.sg_space.specs.View.{View, Keeps}
use Rattle.sg_space.proofs.Known.{moved, same_some, keeps_then}
use Rattle.sg_space.proofs.Putting.{cell-set_same, cell-set_other, cell-with_same, cell-with_other, put_step, set_step, slice_get-push_other}
use Rattle.sg_bucket.specs.Bucket.{Bucket, IsLinked, part_at, HasEntry}
use Rattle.sg_bucket.specs.Entry.{IsEntryCell, entry_in}
use Rattle.sg_bucket.specs.Part.{AreEntries}
use Rattle.sg_bucket.specs.Steps.{CanPut, CanPutAt, CanAppend, CanSet, IsSet, CanCut, IsCut, IsStanding, HasCellAt, IsFull, IsLast, Did, DidKeep, with_page, with_part, without, IsRemoved, IsPutAt, IsAppended}
use Rattle.sg_bucket.specs.declared.walk.Place.{Place}
use Rattle.sg_bucket.proofs.Entries.{put_exchanges, set_exchanges, part_exchanges, push_exchanges}
use Rattle.sg_bucket.proofs.Linking.{part_changed, same_owned, appended, append_owned, cut_linked, cut_owned}

-- an operation that doesn't shrink its page keeps what a caller relies on
keeps_but : {t : Table} {v w : View} {p : ℕ} {op : Op} → Changed t v w p op → ((sheet : Sheet) → shrinks op sheet ≡ false) → Keeps v w
keeps_but {t} {v} {w} {p} c same = record {
  told = c.told;
  may_take = c.may_take;
  may_have = λ q n h. elim (cases_eq q p) as (λ _. w.MayHave q n) [
    | inl is ↦ subst (λ (k : ℕ). w.MayHave k n) (sym is) (c.may_still n (λ sheet e. same sheet) (subst (λ (k : ℕ). v.MayHave k n) is h))
    | inr ne ↦ c.may_have q n ne h
  ];
}

no : false ≡ true → ⊥
no e = cc

pub within_parts : {at : ℕ → Option Sheet} {first i p : ℕ} {b : Bucket} → IsLinked at first b → slice_get b.pages i ≡ Some p → i < length b.parts
within_parts {i = i} {p = p} {b = b} h e = let long = h.long in let below = slice_get_within b.pages i p e in omega arith

-- the cells of changed slots are entries
with_entries : (slots : Slots) (slot : ℕ) (cell : List ℕ) → slot ≤ length slots → IsEntryCell cell → AreEntries slots → AreEntries (with_cell slots slot cell)
with_entries slots slot cell next entry all other c e = elim (cases_eq other slot) as (λ _. IsEntryCell c) [
  | inl same ↦ subst (λ (x : List ℕ). IsEntryCell x) (same_some _ _ (sym (cell-with_same slots slot cell next) ∙ (ap (cell_in (with_cell slots slot cell)) (sym same) ∙ e))) entry
  | inr ne ↦ all other c (sym (cell-with_other slots slot other cell next ne) ∙ e)
]

set_entries : (slots : Slots) (slot : ℕ) (cell : List ℕ) → slot < length slots → IsEntryCell cell → AreEntries slots → AreEntries (set slots slot (Some cell))
set_entries slots slot cell below entry all other c e = elim (cases_eq other slot) as (λ _. IsEntryCell c) [
  | inl same ↦ subst (λ (x : List ℕ). IsEntryCell x) (same_some _ _ (sym (cell-set_same slots slot (Some cell) below) ∙ (ap (cell_in (set slots slot (Some cell))) (sym same) ∙ e))) entry
  | inr ne ↦ all other c (sym (cell-set_other slots slot other (Some cell) ne) ∙ e)
]

remove_entries : (slots : Slots) (slot : ℕ) → slot < length slots → AreEntries slots → AreEntries (set slots slot None)
remove_entries slots slot below all other c e = elim (cases_eq other slot) as (λ _. IsEntryCell c) [
  | inl same ↦ absurd (let none : cell_in (set slots slot None) other ≡ None = ap (cell_in (set slots slot None)) same ∙ cell-set_same slots slot None below in cc)
  | inr ne ↦ all other c (sym (cell-set_other slots slot other None ne) ∙ e)
]

part_entries : (i : ℕ) {at : ℕ → Option Sheet} {first p : ℕ} {b : Bucket} → IsLinked at first b → slice_get b.pages i ≡ Some p → AreEntries (part_at b.parts i)
part_entries i {p = p} h e = let part = h.part i p e in subst AreEntries part.has.slots_are part.has.page.cells

-- a chain stays full where the changed part has an entry
pub full_with : (b : Bucket) (i : ℕ) (slots : Slots) → i < length b.parts → HasEntry slots → IsFull b → IsFull (with_part i slots b)
full_with b i slots below some full j less = elim (cases_eq (j + 1) i) as (λ _. HasEntry (part_at (set b.parts i slots) (j + 1))) [
  | inl same ↦ subst HasEntry (sym (ap (part_at (set b.parts i slots)) same ∙ get_or-set_same b.parts i slots [] below)) some
  | inr ne ↦ subst HasEntry (sym (get_or-set_other b.parts i (j + 1) slots [] ne)) (full j less)
]

-- a cell may be put
small_directory : (slots : Slots) (slot : ℕ) (cell : List ℕ) → (slot == length slots) ≡ true → CanPut (length cell) slot slots → length slots + 1 ≤ 1018
small_directory slots slot cell last can =
    let at : slot ≡ length slots = grind (arith, nat_tests, last) in
    let bytes : bytes_of (with_cell slots slot cell) ≤ 4072 = can.fits cell refl in
    let same : with_cell slots slot cell ≡ slots ++ (Some cell ∷ []) = rw last refl in
    let sum : bytes_of (with_cell slots slot cell) ≡ bytes_of (slots ++ (Some cell ∷ [])) = ap bytes_of same in
    let long : length (slots ++ (Some cell ∷ [])) ≡ length slots + 1 = length_push slots (Some cell) in
    omega arith

pub put_can : {t : Table} {v : View} {first p slot : ℕ} {b : Bucket} {cell : List ℕ} → IsLinked v.space.pages.at first b → CanPutAt v (length cell) p slot b → HasAt v.space.pages.at p (IsPossible t v p (Put slot cell))
put_can {t} {v} {p = p} {slot = slot} {b = b} {cell = cell} h k =
    let part = h.part k.index p k.there in
    let can : CanPut (length cell) slot part.what.slots = subst (CanPut (length cell) slot) (sym part.has.slots_are) k.room in
    record {
      what = part.what;
      is = part.is;
      has = record {
        plain = refl;
        fits = subst (λ (o : Option Sheet). IsSome o) (sym (put_step t part.what slot cell can.free (can.fits cell refl))) refl;
        done = tt;
        short = omega arith;
        place = λ e. k.may_fill p (k.index, k.there) (length part.what.slots + 1) (small_directory part.what.slots slot cell e can);
      };
    }

stays_put : (b : Bucket) (i slot : ℕ) (cell : List ℕ) → i < length b.parts → IsFree (part_at b.parts i) slot → (place : Place) (other : List ℕ) → IsStanding b place other → IsStanding (with_part i (with_cell (part_at b.parts i) slot cell) b) place other
stays_put b i slot cell below free place other s = record {
  index = s.index;
  page = s.page;
  before = s.before;
  is = elim (cases_eq s.index i) as (λ _. cell_in (part_at (set b.parts i (with_cell (part_at b.parts i) slot cell)) s.index) place.slot ≡ Some other) [
    | inl same ↦
        let there : cell_in (part_at b.parts i) place.slot ≡ Some other = ap (λ (n : ℕ). cell_in (part_at b.parts n) place.slot) (sym same) ∙ s.is in
        ap (λ (n : ℕ). cell_in (part_at (set b.parts i (with_cell (part_at b.parts i) slot cell)) n) place.slot) same
        ∙ (ap (λ (x : Slots). cell_in x place.slot) (get_or-set_same b.parts i (with_cell (part_at b.parts i) slot cell) [] below)
        ∙ (cell-with_other (part_at b.parts i) slot place.slot cell free.next (other_slot there) ∙ there))
    | inr ne ↦ ap (λ (x : Slots). cell_in x place.slot) (get_or-set_other b.parts i s.index (with_cell (part_at b.parts i) slot cell) [] ne) ∙ s.is
  ];
}
  where
    other_slot : cell_in (part_at b.parts i) place.slot ≡ Some other → place.slot ≢ slot
    other_slot there same = let none : cell_in (part_at b.parts i) place.slot ≡ None = ap (cell_in (part_at b.parts i)) same ∙ free.empty in cc

pub put_did : {t : Table} {v w : View} {first p slot : ℕ} {cell : List ℕ} → IsEntryCell cell → Changed t v w p (Put slot cell) → DidKeep v w first (CanPutAt v (length cell) p slot) (IsPutAt cell p slot)
put_did {t} {v} {w} {first} {p} {slot} {cell} entry c = record {
  keeps = λ told. keeps_but c (λ sheet. refl);
  turns = λ told b h k.
      let slots : Slots = part_at b.parts k.index in
      let below = within_parts h k.there in (
        with_part k.index (with_cell slots slot cell) b,
        record {
          linked = part_changed k.index h k.there (c.pages told) (makes b k) (with_entries slots slot cell k.room.free.next entry (part_entries k.index h k.there));
          pages = same_owned k.index b (with_part k.index (with_cell slots slot cell) b) refl k.there (c.pages told);
          bands = c.bands told;
        },
        record {
          added = record {
            exchanged = part_exchanges b.parts k.index (with_cell slots slot cell) [] (entry_in cell ∷ []) below (put_exchanges slots slot cell k.room.free);
            full = full_with b k.index (with_cell slots slot cell) below (record { slot = slot; cell = cell; is = cell-with_same slots slot cell k.room.free.next });
            stays = stays_put b k.index slot cell below k.room.free;
            few = omega arith;
          };
          is = λ i e. ap (λ (n : ℕ). with_part n (with_cell (part_at b.parts n) slot cell) b) (h.apart k.index i p k.there e);
        },
      );
}
  where
    makes : (b : Bucket) (k : CanPutAt v (length cell) p slot b) (sheet : Sheet) → sheet.slots ≡ part_at b.parts k.index → step t (Put slot cell) sheet ≡ Some (record sheet { slots = with_cell (part_at b.parts k.index) slot cell })
    makes b k sheet e =
        let can : CanPut (length cell) slot sheet.slots = subst (CanPut (length cell) slot) (sym e) k.room in
        put_step t sheet slot cell can.free (can.fits cell refl) ∙ ap (λ (x : Slots). Some (record sheet { slots = with_cell x slot cell })) e

-- a cell may be set
set_fits : (slots : Slots) (slot : ℕ) (was cell : List ℕ) → cell_in slots slot ≡ Some was → bytes_of slots + length cell ≤ 4072 + length was → bytes_of (set slots slot (Some cell)) ≤ 4072
set_fits slots slot was cell e fits = let sum = bytes_with slots slot was cell (sym e) in omega arith

pub set_can : {t : Table} {v : View} {first : ℕ} {place : Place} {b : Bucket} {cell : List ℕ} → IsLinked v.space.pages.at first b → CanSet (length cell) place b → HasAt v.space.pages.at place.page.0 (IsPossible t v place.page.0 (Set place.slot cell))
set_can {t} {v} {place = place} {b = b} {cell = cell} h k =
    let s = k.stands in
    let part = h.part s.index place.page.0 s.page in
    let is : cell_in part.what.slots place.slot ≡ Some k.was = ap (λ (x : Slots). cell_in x place.slot) part.has.slots_are ∙ s.is in
    let fits : bytes_of part.what.slots + length cell ≤ 4072 + length k.was = subst (λ (x : Slots). bytes_of x + length cell ≤ 4072 + length k.was) (sym part.has.slots_are) k.fits in
    record {
      what = part.what;
      is = part.is;
      has = record {
        plain = refl;
        fits = subst (λ (o : Option Sheet). IsSome o) (sym (set_step t part.what place.slot k.was cell is (set_fits part.what.slots place.slot k.was cell is fits))) refl;
        done = tt;
        short = omega arith;
        place = λ e. absurd (no e);
      };
    }

-- where a cell stands is where another account says that it stands
same_standing : {at : ℕ → Option Sheet} {first : ℕ} {b : Bucket} {place : Place} {cell other : List ℕ} → IsLinked at first b → (s : IsStanding b place cell) (r : IsStanding b place other) → (r.index ≡ s.index) × (other ≡ cell)
same_standing {b = b} {place = place} h s r =
    let at = h.apart r.index s.index place.page.0 r.page s.page in
    (at, same_some _ _ (sym r.is ∙ (ap (λ (n : ℕ). cell_in (part_at b.parts n) place.slot) at ∙ s.is)))

pub set_did : {t : Table} {v w : View} {first : ℕ} {place : Place} {cell : List ℕ} → IsEntryCell cell → Changed t v w place.page.0 (Set place.slot cell) → Did v w first (CanSet (length cell) place) (IsSet cell place)
set_did {t} {v} {w} {first} {place} {cell} entry c = record {
  told = c.told;
  turns = λ told b h k.
      let s = k.stands in
      let slots : Slots = part_at b.parts s.index in
      let below = within_parts h s.page in
      let full_slot = full_below slots place.slot k.was (sym s.is) in (
        with_part s.index (set slots place.slot (Some cell)) b,
        record {
          linked = part_changed s.index h s.page (c.pages told) (makes b k) (set_entries slots place.slot cell full_slot entry (part_entries s.index h s.page));
          pages = same_owned s.index b (with_part s.index (set slots place.slot (Some cell)) b) refl s.page (c.pages told);
          bands = c.bands told;
        },
        record {
          exchanged = λ was r.
              let same = (same_standing h s r).1 in
              part_exchanges b.parts s.index (set slots place.slot (Some cell)) (entry_in was ∷ []) (entry_in cell ∷ []) below (set_exchanges slots place.slot was cell (s.is ∙ ap Some (sym same)));
          full = full_with b s.index (set slots place.slot (Some cell)) below (record { slot = place.slot; cell = cell; is = cell-set_same slots place.slot (Some cell) full_slot });
          few = omega arith;
        },
      );
  may_have = λ told b h k page n none there may. c.may_have page n (λ same. none (k.stands.index, k.stands.page ∙ ap Some (sym same))) may;
}
  where
    makes : (b : Bucket) (k : CanSet (length cell) place b) (sheet : Sheet) → sheet.slots ≡ part_at b.parts k.stands.index → step t (Set place.slot cell) sheet ≡ Some (record sheet { slots = set (part_at b.parts k.stands.index) place.slot (Some cell) })
    makes b k sheet e =
        let is : cell_in sheet.slots place.slot ≡ Some k.was = ap (λ (x : Slots). cell_in x place.slot) e ∙ k.stands.is in
        let fits : bytes_of sheet.slots + length cell ≤ 4072 + length k.was = subst (λ (x : Slots). bytes_of x + length cell ≤ 4072 + length k.was) (sym e) k.fits in
        set_step t sheet place.slot k.was cell is (set_fits sheet.slots place.slot k.was cell is fits) ∙ ap (λ (x : Slots). Some (record sheet { slots = set x place.slot (Some cell) })) e

-- a cell may be removed
pub remove_can : {t : Table} {v : View} {first : ℕ} {place : Place} {b : Bucket} → IsLinked v.space.pages.at first b → HasCellAt place b → HasAt v.space.pages.at place.page.0 (IsPossible t v place.page.0 (Remove place.slot))
remove_can {t} {v} {place = place} {b = b} h k =
    let s = k.stands in
    let part = h.part s.index place.page.0 s.page in
    let is : cell_in part.what.slots place.slot ≡ Some k.was = ap (λ (x : Slots). cell_in x place.slot) part.has.slots_are ∙ s.is in
    record {
      what = part.what;
      is = part.is;
      has = record {
        plain = refl;
        fits = subst (λ (o : Option Slots). IsSome (with_slots part.what o)) (sym (removes part.what.slots place.slot k.was is)) refl;
        done = tt;
        short = omega arith;
        place = λ e. absurd (no e);
      };
    }

pub remove_did : {t : Table} {v w : View} {first : ℕ} {place : Place} → Changed t v w place.page.0 (Remove place.slot) → Did v w first (HasCellAt place) (IsRemoved place)
remove_did {t} {v} {w} {first} {place} c = record {
  told = c.told;
  turns = λ told b h k.
      let s = k.stands in
      let slots : Slots = part_at b.parts s.index in
      let full_slot = full_below slots place.slot k.was (sym s.is) in (
        with_part s.index (set slots place.slot None) b,
        record {
          linked = part_changed s.index h s.page (c.pages told) (makes b k) (remove_entries slots place.slot full_slot (part_entries s.index h s.page));
          pages = same_owned s.index b (with_part s.index (set slots place.slot None) b) refl s.page (c.pages told);
          bands = c.bands told;
        },
        record { is = λ was r. ap (λ (i : ℕ). with_part i (set (part_at b.parts i) place.slot None) b) (sym (same_standing h s r).0) },
      );
  may_have = λ told b h k page n none there may. c.may_have page n (λ same. none (k.stands.index, k.stands.page ∙ ap Some (sym same))) may;
}
  where
    makes : (b : Bucket) (k : HasCellAt place b) (sheet : Sheet) → sheet.slots ≡ part_at b.parts k.stands.index → step t (Remove place.slot) sheet ≡ Some (record sheet { slots = set (part_at b.parts k.stands.index) place.slot None })
    makes b k sheet e =
        let is : cell_in sheet.slots place.slot ≡ Some k.was = ap (λ (x : Slots). cell_in x place.slot) e ∙ k.stands.is in
        ap (with_slots sheet) (removes sheet.slots place.slot k.was is) ∙ ap (λ (x : Slots). Some (record sheet { slots = set x place.slot None })) e

-- a page may be linked to another
pub links_can : {t : Table} {v : View} {p : ℕ} {links : ℕ × ℕ} {P : Sheet → Type 0} → HasAt v.space.pages.at p P → HasAt v.space.pages.at p (IsPossible t v p (Links links))
links_can h = record {
  what = h.what;
  is = h.is;
  has = record { plain = refl; fits = refl; done = tt; short = omega arith; place = λ e. absurd (no e) };
}

-- the last page is still there after a page was taken
pub link_last : {t : Table} {v : View} {old : Units Sheet} {first last q : ℕ} {links : ℕ × ℕ} {b : Bucket} {P : Sheet → Type 0} → IsLinked old.at first b → IsLast last b → IsTaken old v.space.pages q P → HasAt v.space.pages.at last (IsPossible t v last (Links links))
link_last {old = old} {last = last} h l took =
    let part = h.part l.index last l.page in
    links_can (moved (took.others last (λ same. differs old.at part.is took.was_free same)) part)
  where
    differs : (at : ℕ → Option Sheet) {p q : ℕ} {x : Sheet} → at p ≡ Some x → at q ≡ None → p ≢ q
    differs at some none same = let e = ap at same in cc

full_more : (b : Bucket) (q : ℕ) (cell : List ℕ) → length b.parts ≡ length b.pages → IsFull b → IsFull (with_page q cell b)
full_more b q cell long full i less = elim (cases_lt (i + 1) (length b.pages)) as (λ _. HasEntry (part_at (b.parts ++ ((Some cell ∷ []) ∷ [])) (i + 1))) [
  | inl below ↦ subst HasEntry (sym (get_or_append_left b.parts ((Some cell ∷ []) ∷ []) [] (i + 1) (omega arith))) (full i below)
  | inr past ↦
      let more = length_push b.pages q in
      subst HasEntry (sym (get_or_push b.parts (Some cell ∷ []) [] (i + 1) (omega arith))) (record { slot = 0; cell = cell; is = refl })
]

stays_more : {at : ℕ → Option Sheet} {first : ℕ} (b : Bucket) (q : ℕ) (cell : List ℕ) → IsLinked at first b → (place : Place) (other : List ℕ) → IsStanding b place other → IsStanding (with_page q cell b) place other
stays_more b q cell h place other s =
    let below = slice_get_within b.pages s.index place.page.0 s.page in
    let long = h.long in
    record {
      index = s.index;
      page = slice_get-push_other b.pages s.index q (λ same. absurd (omega arith)) ∙ s.page;
      before = λ i e. slice_get-push_other b.pages i q (λ same. absurd (omega arith)) ∙ s.before i e;
      is = ap (λ (x : Slots). cell_in x place.slot) (get_or_append_left b.parts ((Some cell ∷ []) ∷ []) [] s.index (omega arith)) ∙ s.is;
    }

took_keeps : {v w : View} {kind p : ℕ} {cell : List ℕ} → TookWith v w kind cell p → Keeps v w
took_keeps t = record { told = t.told; may_take = t.may_take; may_have = t.may_have }

pub append_did : {t : Table} {v x w : View} {first last q : ℕ} {cell : List ℕ} → IsEntryCell cell → TookWith v x 6 cell q → Changed t x w last (Links (q, 0)) → DidKeep v w first (CanAppend v last) (IsAppended w cell q)
append_did {t} {v} {x} {w} {first} {last} {q} {cell} entry took c = record {
  keeps = λ told. keeps_then (took_keeps took) (keeps_but c (λ sheet. refl));
  turns = λ told b h k.
      let there = took.told told in (
        with_page q cell b,
        record {
          linked = appended h k.ending (took.pages told) (c.pages there) (λ sheet. refl) k.add.zero took.small entry;
          pages = append_owned b cell k.ending (took.pages told) (c.pages there);
          bands = c.bands there ∙ took.bands told;
        },
        record {
          added = record {
            exchanged = push_exchanges b.parts cell;
            full = full_more b q cell h.long;
            stays = stays_more b q cell h;
            few = let long = length_push b.pages q in omega arith;
          };
          is = refl;
          may_fill = λ n le. (keeps_but c (λ sheet. refl)).may_have q n (took.may_fill told n le);
        },
      );
}

pub cut_did : {t : Table} {v x w : View} {first before page next : ℕ} → Changed t v x before (Links (next, 0)) → Freed x w page → Did v w first (CanCut before page next) (IsCut page)
cut_did {t} {v} {x} {w} {first} {before} {page} {next} c f = record {
  told = λ told. f.told (c.told told);
  turns = λ told b h k. (
    without (k.index + 1) b,
    record {
      linked = cut_linked h k (c.pages told) (λ sheet. refl) (f.pages (c.told told));
      pages = cut_owned b k (c.pages told) (f.pages (c.told told));
      bands = f.bands (c.told told) ∙ c.bands told;
    },
    record { is = λ i e. ap (λ (n : ℕ). without n b) (h.apart (k.index + 1) i page k.page_is e) },
  );
  may_have = λ told b h k q n none there may.
      f.may_have q n (λ same. none (k.index + 1, k.page_is ∙ ap Some (sym same))) (c.may_have q n (λ same. none (k.index, k.before_is ∙ ap Some (sym same))) may);
}
