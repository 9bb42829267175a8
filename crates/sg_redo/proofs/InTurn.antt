-- Records at places, one place after another.
use Rattle.std.proofs.Common.{◌≡◌, ◌<◌, ◌+◌, ◌-◌, ◌⊎◌, ◌↔◌, ◌&&◌, ℕ, Bool, Option, Some, arith, if◌then◌else◌, nat_lt, nat_le, List, [], ◌∷◌, ◌++◌, length, take, get_or, slice_index, refl, sym, ◌∙◌, ap, subst, inl, inr, ⊎_elim, append_assoc}
use Rattle.std.proofs.lemmas.List.{take_more, flat_map_more}
use Rattle.std.specs.List.{flat_map}
use Rattle.std.specs.Prelude.{unwrap_or, IfSome, None, option_map}
use Rattle.sg_base.specs.declared.page.TheConstants.{BAND_SIZE}
use Rattle.sg_base.specs.Overwritten.{overwritten}
use Rattle.sg_base.specs.Page.{IsSlotted}
use Rattle.sg_ops.specs.Table.{Table, range_at}
use Rattle.sg_ops.proofs.Rendering.{length-rendered}
use Rattle.sg_record.specs.Changes.{Change}
use Rattle.sg_record.specs.Changes.Change.{Page, SegWrite, SegOp}
use Rattle.sg_segment.specs.Runs.{IsMarked, IsWithin}
use Rattle.sg_redo.specs.declared.place.Place.{Place}
use Rattle.sg_redo.specs.History.{OnPage, OnByte, redone, repeated, since_after, since_repeated, IsCovered}
use Rattle.sg_redo.specs.Window.{OnWindow, replayed, since_replayed, on_byte, AllLie}
use Rattle.sg_redo.specs.Places.{change_at, page_part, page_records, window_part, window_records, IsInRange}
use Rattle.sg_redo.proofs.Bytes.{part_in, part_out, place_or}

pub repeated-append : (rs more : List OnPage) (page : List ℕ) → repeated (rs ++ more) page ≡ repeated more (repeated rs page)
repeated-append [] more page = refl
repeated-append (r ∷ rs) more page = repeated-append rs more (redone r page)

pub replayed-append : (ws more : List OnWindow) (window : List ℕ) → replayed (ws ++ more) window ≡ replayed more (replayed ws window)
replayed-append [] more window = refl
replayed-append (w ∷ ws) more window = replayed-append ws more (overwritten window w.at w.bytes)

since_repeated-append : (rs more : List OnPage) (page : List ℕ) (since : Option ℕ) → since_repeated (rs ++ more) page since ≡ since_repeated more (repeated rs page) (since_repeated rs page since)
since_repeated-append [] more page since = refl
since_repeated-append (r ∷ rs) more page since = since_repeated-append rs more (redone r page) (since_after r page since)

since_replayed-append : (ws more : List OnWindow) (since : Option ℕ) → since_replayed (ws ++ more) since ≡ since_replayed more (since_replayed ws since)
since_replayed-append [] more since = refl
since_replayed-append (w ∷ ws) more since = since_replayed-append ws more (Some (unwrap_or since w.lsn))

-- the parts of one place more
parts_more : {A : Type 0} (part : Place → List A) (places : List Place) (k : ℕ) (d : Place) → k < length places → flat_map part (take k places) ++ part (get_or places k d) ≡ flat_map part (take (k + 1) places)
parts_more part places k d lt = flat_map_more part [] (take k places) (get_or places k d) ∙ ap (flat_map part) (sym (take_more places k d lt))

abbrev page_at : Table → List ℕ → Place → List OnPage
page_at t text p = page_part t p.lsn (change_at text p.at)

abbrev window_at : Table → List ℕ → Place → List OnWindow
window_at t text p = window_part t p.lsn (change_at text p.at)

page_more : (t : Table) (text : List ℕ) (places : List Place) (k : ℕ) (d : Place) → k < length places → page_records t text (take k places) ++ page_at t text (get_or places k d) ≡ page_records t text (take (k + 1) places)
unfolding page_records
page_more t text places k d lt = parts_more (page_at t text) places k d lt

window_more : (t : Table) (text : List ℕ) (places : List Place) (k : ℕ) (d : Place) → k < length places → window_records t text (take k places) ++ window_at t text (get_or places k d) ≡ window_records t text (take (k + 1) places)
unfolding window_records
window_more t text places k d lt = parts_more (window_at t text) places k d lt

pub page_none : (t : Table) (text : List ℕ) (page : List ℕ) → repeated (page_records t text []) page ≡ page
unfolding page_records
page_none t text page = refl

pub window_none : (t : Table) (text : List ℕ) (window : List ℕ) → replayed (window_records t text []) window ≡ window
unfolding window_records
window_none t text window = refl

in_range : {A : Type 0} (f : A → Change) (o : Option A) (c : Change) → option_map f o ≡ Some c → IfSome o (λ a. IsInRange (f a)) → IsInRange c
in_range f None c is range = absurd cc
in_range f (Some a) c is range = subst (λ (x : Option Change). IfSome x IsInRange) is range

-- a page after one place more
pub page_turn : (t : Table) (text : List ℕ) (places : List Place) (k : ℕ) (d : Place) (page : List ℕ) → k < length places
    → repeated (page_part t (get_or places k d).lsn (change_at text (get_or places k d).at)) (repeated (page_records t text (take k places)) page) ≡ repeated (page_records t text (take (k + 1) places)) page
page_turn t text places k d page lt =
    sym (repeated-append (page_records t text (take k places)) (page_at t text (get_or places k d)) page) ∙ ap (λ (rs : List OnPage). repeated rs page) (page_more t text places k d lt)

-- the oldest change of a page, and of a window
pub page_since_none : (t : Table) (text : List ℕ) (page : List ℕ) (since : Option ℕ) → since_repeated (page_records t text []) page since ≡ since
unfolding page_records
page_since_none t text page since = refl

pub window_since_none : (t : Table) (text : List ℕ) (since : Option ℕ) → since_replayed (window_records t text []) since ≡ since
unfolding window_records
window_since_none t text since = refl

-- after one place more
pub page_since_turn : (t : Table) (text : List ℕ) (places : List Place) (k : ℕ) (d : Place) (page mid : List ℕ) (since had : Option ℕ) → k < length places
    → mid ≡ repeated (page_records t text (take k places)) page → had ≡ since_repeated (page_records t text (take k places)) page since
    → since_repeated (page_part t (get_or places k d).lsn (change_at text (get_or places k d).at)) mid had ≡ since_repeated (page_records t text (take (k + 1) places)) page since
page_since_turn t text places k d page mid since had lt is was =
    let front = page_records t text (take k places) in
    let part = page_at t text (get_or places k d) in
    ap (λ (p : List ℕ). since_repeated part p had) is ∙ (ap (since_repeated part (repeated front page)) was
    ∙ (sym (since_repeated-append front part page since) ∙ ap (λ (rs : List OnPage). since_repeated rs page since) (page_more t text places k d lt)))

pub window_since_turn : (t : Table) (text : List ℕ) (places : List Place) (k : ℕ) (d : Place) (since had : Option ℕ) → k < length places → had ≡ since_replayed (window_records t text (take k places)) since
    → since_replayed (window_part t (get_or places k d).lsn (change_at text (get_or places k d).at)) had ≡ since_replayed (window_records t text (take (k + 1) places)) since
window_since_turn t text places k d since had lt was =
    let front = window_records t text (take k places) in
    let part = window_at t text (get_or places k d) in
    ap (since_replayed part) was ∙ (sym (since_replayed-append front part since) ∙ ap (λ (ws : List OnWindow). since_replayed ws since) (window_more t text places k d lt))

-- each change of a window lies in it
pub part_lies : {A : Type 0} (f : A → Change) (o : Option A) (t : Table) (lsn : ℕ) (c : Option Change) → option_map f o ≡ c → IfSome o (λ a. IsInRange (f a)) → AllLie BAND_SIZE (window_part t lsn c)
unfolding window_part
part_lies f o t lsn None is range = tt
part_lies f o t lsn (Some (Page c)) is range = tt
part_lies f o t lsn (Some (SegWrite c)) is range = (in_range f o (SegWrite c) is range, tt)
part_lies f o t lsn (Some (SegOp c)) is range = (let size = length-rendered (range_at t c.code) c.arg c.position c.count in let lies = (in_range f o (SegOp c) is range).0 in omega (arith, size, lies), tt)

lie-append : (size : ℕ) (ws more : List OnWindow) → AllLie size ws → AllLie size more → AllLie size (ws ++ more)
lie-append size [] more first second = second
lie-append size (w ∷ ws) more first second = (first.0, lie-append size ws more first.1 second)

pub lie_none : (t : Table) (text : List ℕ) → AllLie BAND_SIZE (window_records t text [])
unfolding window_records
lie_none t text = tt

pub lie_turn : (t : Table) (text : List ℕ) (places : List Place) (k : ℕ) (d : Place) → k < length places → AllLie BAND_SIZE (window_records t text (take k places))
    → AllLie BAND_SIZE (window_part t (get_or places k d).lsn (change_at text (get_or places k d).at)) → AllLie BAND_SIZE (window_records t text (take (k + 1) places))
lie_turn t text places k d lt first second =
    subst (λ (ws : List OnWindow). AllLie BAND_SIZE ws) (window_more t text places k d lt) (lie-append BAND_SIZE (window_records t text (take k places)) (window_at t text (get_or places k d)) first second)

-- and a window
pub window_turn : (t : Table) (text : List ℕ) (places : List Place) (k : ℕ) (d : Place) (window : List ℕ) → k < length places
    → replayed (window_part t (get_or places k d).lsn (change_at text (get_or places k d).at)) (replayed (window_records t text (take k places)) window) ≡ replayed (window_records t text (take (k + 1) places)) window
window_turn t text places k d window lt =
    sym (replayed-append (window_records t text (take k places)) (window_at t text (get_or places k d)) window) ∙ ap (λ (ws : List OnWindow). replayed ws window) (window_more t text places k d lt)

pub on_byte-append : (i : ℕ) (ws more : List OnWindow) → on_byte i (ws ++ more) ≡ on_byte i ws ++ on_byte i more
on_byte-append i [] more = refl
on_byte-append i (w ∷ ws) more =
    let here : List OnByte = if nat_le w.at i && nat_lt i (w.at + length w.bytes) then (record { lsn = w.lsn; value = slice_index w.bytes (i - w.at) } ∷ []) else [] in
    ap (λ (l : List OnByte). here ++ l) (on_byte-append i ws more) ∙ sym (append_assoc here (on_byte i ws) (on_byte i more))

covered_front : (xs ys : List OnByte) → IsCovered xs → IsCovered (xs ++ ys)
covered_front [] ys covered = absurd covered
covered_front (x ∷ xs) ys covered = tt

covered_back : (xs ys : List OnByte) → IsCovered ys → IsCovered (xs ++ ys)
covered_back [] ys covered = covered
covered_back (x ∷ xs) ys covered = tt

covered_either : (xs ys : List OnByte) → IsCovered (xs ++ ys) → IsCovered xs ⊎ IsCovered ys
covered_either [] ys covered = inr covered
covered_either (x ∷ xs) ys covered = inl tt

-- exactly those bytes are marked besides that the records cover
abbrev pub Marks : List OnWindow → List Bool → List Bool → Type 0
Marks ws old new = (k : ℕ) → IsMarked new k ↔ (IsMarked old k ⊎ IsCovered (on_byte k ws))

pub marks_none : (marks : List Bool) → Marks [] marks marks
marks_none marks k = (λ is. inl is, λ is. ⊎_elim (λ had. had) (λ none. absurd none) is)

pub marks_start : (t : Table) (text : List ℕ) (marks : List Bool) → Marks (window_records t text []) marks marks
unfolding window_records
marks_start t text marks = marks_none marks

pub marks_then : (ws more : List OnWindow) (old mid new : List Bool) → Marks ws old mid → Marks more mid new → Marks (ws ++ more) old new
marks_then ws more old mid new first second k =
    let both = on_byte-append k ws more in (
      λ is. ⊎_elim
          (λ was. ⊎_elim (λ had. inl had) (λ covered. inr (subst (λ (l : List OnByte). IsCovered l) (sym both) (covered_front (on_byte k ws) (on_byte k more) covered))) ((first k).0 was))
          (λ covered. inr (subst (λ (l : List OnByte). IsCovered l) (sym both) (covered_back (on_byte k ws) (on_byte k more) covered)))
          ((second k).0 is),
      λ is. ⊎_elim
          (λ had. (second k).1 (inl ((first k).1 (inl had))))
          (λ covered. ⊎_elim (λ front. (second k).1 (inl ((first k).1 (inr front)))) (λ back. (second k).1 (inr back)) (covered_either (on_byte k ws) (on_byte k more) (subst (λ (l : List OnByte). IsCovered l) both covered)))
          is,
    )

-- of one record these are the bytes that it writes
covered_one : (w : OnWindow) (k : ℕ) → IsCovered (on_byte k (w ∷ [])) ↔ IsWithin w.at (length w.bytes) k
covered_one w k = ⊎_elim
    (λ is. (λ covered. is, λ within. subst (λ (l : List OnByte). IsCovered l) (sym (part_in w k [] is.0 is.1)) tt))
    (λ out. (λ covered. absurd (subst (λ (l : List OnByte). IsCovered l) (part_out w k [] out) covered), λ within. ⊎_elim (λ before. absurd (omega arith)) (λ behind. absurd (omega arith)) out))
    (place_or w k)

pub marks_one : (w : OnWindow) (old new : List Bool) → ((k : ℕ) → IsMarked new k ↔ (IsMarked old k ⊎ IsWithin w.at (length w.bytes) k)) → Marks (w ∷ []) old new
marks_one w old new marked k = (
  λ is. ⊎_elim (λ had. inl had) (λ within. inr ((covered_one w k).1 within)) ((marked k).0 is),
  λ is. (marked k).1 (⊎_elim (λ had. inl had) (λ covered. inr ((covered_one w k).0 covered)) is),
)

-- the marks after one place more
pub marks_turn : (t : Table) (text : List ℕ) (places : List Place) (k : ℕ) (d : Place) (old mid new : List Bool) → k < length places
    → Marks (window_records t text (take k places)) old mid → Marks (window_part t (get_or places k d).lsn (change_at text (get_or places k d).at)) mid new → Marks (window_records t text (take (k + 1) places)) old new
marks_turn t text places k d old mid new lt first second =
    subst (λ (ws : List OnWindow). Marks ws old new) (window_more t text places k d lt)
    (marks_then (window_records t text (take k places)) (window_at t text (get_or places k d)) old mid new first second)

-- what records leave of a page is as it was, or a page of slots
pub well_more : (first page next : List ℕ) → (page ≡ first) ⊎ IsSlotted page → (next ≡ page) ⊎ IsSlotted next → (next ≡ first) ⊎ IsSlotted next
well_more first page next before after = ⊎_elim
    (λ same. ⊎_elim (λ was. inl (same ∙ was)) (λ slotted. inr (subst IsSlotted (sym same) slotted)) before)
    (λ slotted. inr slotted)
    after

abbrev pub IsWellDone : List OnPage → List ℕ → Type 0
IsWellDone rs page = (repeated rs page ≡ page) ⊎ IsSlotted (repeated rs page)

pub well_done : (rs : List OnPage) (page done : List ℕ) → done ≡ repeated rs page → (done ≡ page) ⊎ IsSlotted done → IsWellDone rs page
well_done rs page done is well = ⊎_elim (λ same. inl (sym is ∙ same)) (λ slotted. inr (subst IsSlotted is slotted)) well
