-- The records at the places of a log's text are those of each page and each band.
use Rattle.std.proofs.Common.{◌≡◌, ◌≢◌, ◌⊎◌, inl, inr, ⊎_elim, ◌<◌, ◌≤◌, ◌+◌, ◌-◌, ◌==◌, ◌&&◌, nat_lt, ℕ, suc, Bool, true, false, Option, Some, None, Ok, List, [], ◌∷◌, ◌++◌, length, take, drop, cond, filter, map, refl, sym, ◌∙◌, ap, subst, arith}
use Rattle.std.specs.List.{All, flat_map, slice_get}
use Rattle.std.proofs.lemmas.Bool.{cases_lt}
use Rattle.std.proofs.lemmas.Bool.Decides.{nat_tests}
use Rattle.std.proofs.lemmas.List.{drop-drop}
use Rattle.std.proofs.Math.Seq.{drop-append_seam}
use Rattle.byteorder.specs.Endian.{little_bytes}
use Rattle.sg_ops.specs.Table.{Table, range_at, rendered}
use Rattle.sg_record.specs.Changes.{Change, PageChange, BandBytes, BandOp}
use Rattle.sg_record.specs.Changes.Change.{Page, SegWrite, SegOp}
use Rattle.sg_record.specs.Records.{Record, spelled}
use Rattle.sg_record.specs.Reading.{parse}
use Rattle.sg_record.proofs.Parsing.{parse_back}
use Rattle.sg_log.specs.Texts.{AreRecords, spelled_all}
use Rattle.sg_log.specs.Frames.{Numbered, numbered_from, numbered_in, text_of}
use Rattle.sg_redo.specs.declared.place.Place.{Place}
use Rattle.sg_redo.specs.History.{OnPage, number_of}
use Rattle.sg_redo.specs.Page.{made}
use Rattle.sg_redo.specs.Places.{change_at, change_read, changed_by, op_said, page_part, window_part, page_records, window_records}
use Rattle.sg_redo.specs.Window.{OnWindow}
use Rattle.sg_pool.specs.Units.{Geometry}
use Rattle.sg_pool.specs.Redone.{PartRecords, places_of, records_of}
use Rattle.sg_pool.specs.Repeated.{last_lsn, lsn_in}
use Rattle.sg_engine.specs.Numbers.{onward}
use Rattle.sg_engine.specs.History.{Effect, Entry, window_number, page_change, band_change, of_page, of_band}
use Rattle.sg_engine.specs.Effects.{effect_of, effect_in}
use Rattle.sg_engine.specs.Engine.{Origin, entry_of, entries, geometry}
use Rattle.sg_engine.proofs.Pages.{onward_in, onward_out}
use Rattle.sg_engine.proofs.Units.{page_one, band_one}
use Rattle.sg_places.specs.Text.{framed, framed_all, AreFrames, IsText}
use Rattle.sg_places.specs.Asked.{is_there}
use Rattle.sg_places.specs.Placed.{unit_of, place_with, place_in, places_in}
use Rattle.sg_opening.specs.Opening.{AreFrom, AreThere, last_number}

-- THE RECORD STANDS in the text of a log whose first byte has this number
abbrev pub IsInText : (text : List ℕ) (base : ℕ) → Numbered → Type 0
IsInText text base n = change_at text (n.lsn - base) ≡ changed_by n.is.says

abbrev pub AreInText : (text : List ℕ) (base : ℕ) → List Numbered → Type 0
AreInText text base [] = Unit {0}
AreInText text base (n ∷ ns) = IsInText text base n × AreInText text base ns

pub in_text_append : (text : List ℕ) (base : ℕ) (ns ms : List Numbered) → AreInText text base ns → AreInText text base ms → AreInText text base (ns ++ ms)
in_text_append text base [] ms one two = two
in_text_append text base (n ∷ ns) ms one two = (one.0, in_text_append text base ns ms one.1 two)

append_assoc : (xs ys zs : List ℕ) → (xs ++ ys) ++ zs ≡ xs ++ (ys ++ zs)
append_assoc [] ys zs = refl
append_assoc (x ∷ xs) ys zs = ap (λ l. x ∷ l) (append_assoc xs ys zs)

-- what is read where a record stands
change_there : (text : List ℕ) (at : ℕ) (r : Record) (rest : List ℕ) → AreRecords (r ∷ []) → drop at text ≡ spelled r ++ rest → change_at text at ≡ changed_by r.says
unfolding change_at
change_there text at r rest fields is = ap change_read (ap parse is ∙ parse_back r rest fields.0)

-- the records of a body
body_in_text : (text : List ℕ) (base at : ℕ) (rs : List Record) (rest : List ℕ) → AreRecords rs → drop at text ≡ spelled_all rs ++ rest → AreInText text base (numbered_from (base + at) rs)
body_in_text text base at [] rest fields is = tt
body_in_text text base at (r ∷ rs) rest fields is =
    let split : drop at text ≡ spelled r ++ (spelled_all rs ++ rest) = is ∙ append_assoc (spelled r) (spelled_all rs) rest in
    let behind : drop (at + length (spelled r)) text ≡ spelled_all rs ++ rest = sym (drop-drop (length (spelled r)) at text) ∙ (ap (drop (length (spelled r))) split ∙ drop-append_seam (spelled r) (spelled_all rs ++ rest)) in
    let place : base + at - base ≡ at = omega arith in
    let next : base + (at + length (spelled r)) ≡ base + at + length (spelled r) = omega arith in (
      ap (change_at text) place ∙ change_there text at r (spelled_all rs ++ rest) (fields.0, tt) split,
      subst (λ k. AreInText text base (numbered_from k rs)) next (body_in_text text base (at + length (spelled r)) rs rest fields.1 behind),
    )

-- and of frames
frames_in_text : (text : List ℕ) (base at : ℕ) (frames : List (List Record)) → AreFrames frames → drop at text ≡ framed_all frames → AreInText text base (numbered_in (base + at) frames)
frames_in_text text base at [] all is = tt
frames_in_text text base at (rs ∷ frames) all is =
    let head : List ℕ = 1 ∷ little_bytes 4 (length (spelled_all rs)) in
    let body : List ℕ = spelled_all rs in
    let split : drop at text ≡ head ++ (body ++ framed_all frames) = is ∙ append_assoc head body (framed_all frames) in
    let behind : drop (at + 5) text ≡ body ++ framed_all frames = sym (drop-drop 5 at text) ∙ (ap (drop 5) split ∙ drop-append_seam head (body ++ framed_all frames)) in
    let last : drop (at + 5 + length body) text ≡ framed_all frames = sym (drop-drop (length body) (at + 5) text) ∙ (ap (drop (length body)) behind ∙ drop-append_seam body (framed_all frames)) in
    let first : base + (at + 5) ≡ base + at + 5 = omega arith in
    let next : base + (at + 5 + length body) ≡ base + at + 1 + length (text_of body) = omega (arith, text_long body) in
    in_text_append text base (numbered_from (base + at + 5) rs) (numbered_in (base + at + 1 + length (text_of body)) frames)
    (subst (λ k. AreInText text base (numbered_from k rs)) first (body_in_text text base (at + 5) rs (framed_all frames) all.0.fields behind))
    (subst (λ k. AreInText text base (numbered_in k frames)) next (frames_in_text text base (at + 5 + length body) frames all.1 last))
  where
    text_long : (body : List ℕ) → length (text_of body) ≡ 4 + length body
    text_long body = omega arith

pub text_holds : (text : List ℕ) (base : ℕ) (frames : List (List Record)) → IsText frames text → AreInText text base (numbered_in base frames)
text_holds text base frames is = subst (λ k. AreInText text base (numbered_in k frames)) (none base) (frames_in_text text base 0 frames is.all is.bytes)
  where
    none : (n : ℕ) → n + 0 ≡ n
    none n = omega arith

-- places of two lists, one behind the other
filter_both : (p : Place → Bool) (xs ys : List Place) → filter p (xs ++ ys) ≡ filter p xs ++ filter p ys
filter_both p [] ys = refl
filter_both p (x ∷ xs) ys = elim (p x) as (λ b. cond b (x ∷ filter p (xs ++ ys)) (filter p (xs ++ ys)) ≡ cond b (x ∷ filter p xs) (filter p xs) ++ filter p ys) [
  | true ↦ ap (λ l. x ∷ l) (filter_both p xs ys)
  | false ↦ filter_both p xs ys
]

flat_both : {X : Type 0} (f : Place → List X) (xs ys : List Place) → flat_map f (xs ++ ys) ≡ flat_map f xs ++ flat_map f ys
flat_both f [] ys = refl
flat_both f (x ∷ xs) ys = ap (λ l. f x ++ l) (flat_both f xs ys) ∙ sym (assoc (f x) (flat_map f xs) (flat_map f ys))
  where
    assoc : {X : Type 0} (xs ys zs : List X) → (xs ++ ys) ++ zs ≡ xs ++ (ys ++ zs)
    assoc [] ys zs = refl
    assoc (x ∷ xs) ys zs = ap (λ (l : List _). x ∷ l) (assoc xs ys zs)

page_both : (t : Table) (text : List ℕ) (n : ℕ) (xs ys : List Place) → page_records t text (places_of n (xs ++ ys)) ≡ page_records t text (places_of n xs) ++ page_records t text (places_of n ys)
unfolding page_records
page_both t text n xs ys = ap (flat_map (λ p. page_part t p.lsn (change_at text p.at))) (filter_both (λ p. p.unit == n) xs ys) ∙ flat_both (λ p. page_part t p.lsn (change_at text p.at)) (places_of n xs) (places_of n ys)

window_both : (t : Table) (text : List ℕ) (u : ℕ) (xs ys : List Place) → window_records t text (places_of u (xs ++ ys)) ≡ window_records t text (places_of u xs) ++ window_records t text (places_of u ys)
unfolding window_records
window_both t text u xs ys = ap (flat_map (λ p. window_part t p.lsn (change_at text p.at))) (filter_both (λ p. p.unit == u) xs ys) ∙ flat_both (λ p. window_part t p.lsn (change_at text p.at)) (places_of u xs) (places_of u ys)

pub onward_both : {X : Type 0} (key : X → ℕ) (r : ℕ) (xs ys : List X) → onward key r (xs ++ ys) ≡ onward key r xs ++ onward key r ys
onward_both key r [] ys = refl
onward_both key r (x ∷ xs) ys = ⊎_elim
    (λ lt. onward_out key r x (xs ++ ys) lt ∙ (onward_both key r xs ys ∙ ap (λ (l : List _). l ++ onward key r ys) (sym (onward_out key r x xs lt))))
    (λ le. onward_in key r x (xs ++ ys) le ∙ (ap (λ (l : List _). x ∷ l) (onward_both key r xs ys) ∙ ap (λ (l : List _). l ++ onward key r ys) (sym (onward_in key r x xs le))))
    (cases_lt (key x) r)

-- one place alone
page_in : (t : Table) (text : List ℕ) (n : ℕ) (x : Place) → (x.unit == n) ≡ true → page_records t text (places_of n (x ∷ [])) ≡ page_part t x.lsn (change_at text x.at) ++ []
unfolding page_records
page_in t text n x is = ap (λ (b : Bool). flat_map {X = Place} (λ p. page_part t p.lsn (change_at text p.at)) (cond b (x ∷ []) [])) is

page_out : (t : Table) (text : List ℕ) (n : ℕ) (x : Place) → (x.unit == n) ≡ false → page_records t text (places_of n (x ∷ [])) ≡ []
unfolding page_records
page_out t text n x is = ap (λ (b : Bool). flat_map {X = Place} (λ p. page_part t p.lsn (change_at text p.at)) (cond b (x ∷ []) [])) is

window_in : (t : Table) (text : List ℕ) (n : ℕ) (x : Place) → (x.unit == n) ≡ true → window_records t text (places_of n (x ∷ [])) ≡ window_part t x.lsn (change_at text x.at) ++ []
unfolding window_records
window_in t text n x is = ap (λ (b : Bool). flat_map {X = Place} (λ p. window_part t p.lsn (change_at text p.at)) (cond b (x ∷ []) [])) is

window_out : (t : Table) (text : List ℕ) (n : ℕ) (x : Place) → (x.unit == n) ≡ false → window_records t text (places_of n (x ∷ [])) ≡ []
unfolding window_records
window_out t text n x is = ap (λ (b : Bool). flat_map {X = Place} (λ p. window_part t p.lsn (change_at text p.at)) (cond b (x ∷ []) [])) is

page_nothing : (t : Table) (text : List ℕ) (n : ℕ) → page_records t text (places_of n []) ≡ []
unfolding page_records
page_nothing t text n = refl

window_nothing : (t : Table) (text : List ℕ) (n : ℕ) → window_records t text (places_of n []) ≡ []
unfolding window_records
window_nothing t text n = refl

page_of_part : (t : Table) (lsn : ℕ) (c : PageChange) (x : Option Change) → x ≡ Some (Page c) → page_part t lsn x ++ [] ≡ record { lsn = lsn; makes = made t lsn (op_said c) } ∷ []
unfolding page_part
page_of_part t lsn c x is = ap (λ (y : Option Change). page_part t lsn y ++ []) is

band_of_write : (t : Table) (lsn : ℕ) (c : BandBytes) (x : Option Change) → x ≡ Some (SegWrite c) → window_part t lsn x ++ [] ≡ record { lsn = lsn; at = c.at; bytes = c.after } ∷ []
unfolding window_part
band_of_write t lsn c x is = ap (λ (y : Option Change). window_part t lsn y ++ []) is

band_of_op : (t : Table) (lsn : ℕ) (c : BandOp) (x : Option Change) → x ≡ Some (SegOp c) → window_part t lsn x ++ [] ≡ record { lsn = lsn; at = c.at; bytes = rendered (range_at t c.code) c.arg c.position c.count } ∷ []
unfolding window_part
band_of_op t lsn c x is = ap (λ (y : Option Change). window_part t lsn y ++ []) is

test_or : (b : Bool) → (b ≡ true) ⊎ (b ≡ false)
test_or true = inl refl
test_or false = inr refl

-- THE RECORDS FROM THE REDO POINT ON, as a page has them: at their places, and in the log
module _ (t : Table) (text : List ℕ) (pages bands base r : ℕ) where
  abbrev spot : (unit lsn : ℕ) → Place
  spot unit lsn = record { unit = unit; lsn = lsn; at = lsn - base }

  one_page : (n : ℕ) → n < pages → (lsn : ℕ) (c : Option Change) → change_at text (lsn - base) ≡ c → page_records t text (places_of n (place_with pages base lsn c)) ≡ page_change n lsn (effect_of t lsn c)
  one_page n lt lsn None is = page_nothing t text n
  one_page n lt lsn (Some (Page c)) is = ⊎_elim
      (λ yes. page_in t text n (spot c.page lsn) yes ∙ (page_of_part t lsn c (change_at text (lsn - base)) is ∙ sym (ap (λ (b : Bool). cond b (record { lsn = lsn; makes = made t lsn (op_said c) } ∷ []) []) yes)))
      (λ not. page_out t text n (spot c.page lsn) not ∙ sym (ap (λ (b : Bool). cond b (record { lsn = lsn; makes = made t lsn (op_said c) } ∷ []) []) not))
      (test_or (c.page == n))
  one_page n lt lsn (Some (SegWrite c)) is = let far : (pages + c.band == n) ≡ false = grind (arith, nat_tests) in page_out t text n (spot (pages + c.band) lsn) far
  one_page n lt lsn (Some (SegOp c)) is = let far : (pages + c.band == n) ≡ false = grind (arith, nat_tests) in page_out t text n (spot (pages + c.band) lsn) far

  one_band : (b : ℕ) (lsn : ℕ) (c : Option Change) → is_there pages bands c ≡ true → change_at text (lsn - base) ≡ c → window_records t text (places_of (pages + b) (place_with pages base lsn c)) ≡ band_change b lsn (effect_of t lsn c)
  one_band b lsn None there is = window_nothing t text (pages + b)
  one_band b lsn (Some (Page c)) there is =
      let low : nat_lt c.page pages ≡ true = there in
      let far : (c.page == pages + b) ≡ false = grind (arith, nat_tests) in
      window_out t text (pages + b) (spot c.page lsn) far
  one_band b lsn (Some (SegWrite c)) there is =
      let same : (pages + c.band == pages + b) ≡ (c.band == b) = moved pages c.band b in
      ⊎_elim
      (λ yes. window_in t text (pages + b) (spot (pages + c.band) lsn) (same ∙ yes) ∙ (band_of_write t lsn c (change_at text (lsn - base)) is ∙ sym (ap (λ (x : Bool). cond x (record { lsn = lsn; at = c.at; bytes = c.after } ∷ []) []) yes)))
      (λ not. window_out t text (pages + b) (spot (pages + c.band) lsn) (same ∙ not) ∙ sym (ap (λ (x : Bool). cond x (record { lsn = lsn; at = c.at; bytes = c.after } ∷ []) []) not))
      (test_or (c.band == b))
    where
      moved : (p x y : ℕ) → (p + x == p + y) ≡ (x == y)
      moved p x y = grind (arith, nat_tests)
  one_band b lsn (Some (SegOp c)) there is =
      let same : (pages + c.band == pages + b) ≡ (c.band == b) = moved pages c.band b in
      ⊎_elim
      (λ yes. window_in t text (pages + b) (spot (pages + c.band) lsn) (same ∙ yes) ∙ (band_of_op t lsn c (change_at text (lsn - base)) is ∙ sym (ap (λ (x : Bool). cond x (record { lsn = lsn; at = c.at; bytes = rendered (range_at t c.code) c.arg c.position c.count } ∷ []) []) yes)))
      (λ not. window_out t text (pages + b) (spot (pages + c.band) lsn) (same ∙ not) ∙ sym (ap (λ (x : Bool). cond x (record { lsn = lsn; at = c.at; bytes = rendered (range_at t c.code) c.arg c.position c.count } ∷ []) []) not))
      (test_or (c.band == b))
    where
      moved : (p x y : ℕ) → (p + x == p + y) ≡ (x == y)
      moved p x y = grind (arith, nat_tests)

  -- a record below the point is at no place, and from the point on at one
  early : (n : Numbered) → n.lsn < r → place_in pages base r n ≡ []
  early n lt = let low : nat_lt n.lsn r ≡ true = grind (arith, nat_tests) in ap (λ (b : Bool). cond b [] (place_with pages base n.lsn (changed_by n.is.says))) low

  late : (n : Numbered) → r ≤ n.lsn → place_in pages base r n ≡ place_with pages base n.lsn (changed_by n.is.says)
  late n le = let low : nat_lt n.lsn r ≡ false = grind (arith, nat_tests) in ap (λ (b : Bool). cond b [] (place_with pages base n.lsn (changed_by n.is.says))) low

  page_point : (n lsn : ℕ) (e : Effect) → r ≤ lsn → onward number_of r (page_change n lsn e) ≡ page_change n lsn e
  page_point n lsn e le = ⊎_elim
      (λ none. ap (onward number_of r) none ∙ sym none)
      (λ one. ap (onward number_of r) one.2 ∙ (onward_in number_of r one.0 [] (subst (λ k. r ≤ k) (sym one.1) le) ∙ sym one.2))
      (page_one n lsn e)

  page_before : (n lsn : ℕ) (e : Effect) → lsn < r → onward number_of r (page_change n lsn e) ≡ []
  page_before n lsn e lt = ⊎_elim
      (λ none. ap (onward number_of r) none)
      (λ one. ap (onward number_of r) one.2 ∙ onward_out number_of r one.0 [] (subst (λ k. k < r) (sym one.1) lt))
      (page_one n lsn e)

  band_point : (b lsn : ℕ) (e : Effect) → r ≤ lsn → onward window_number r (band_change b lsn e) ≡ band_change b lsn e
  band_point b lsn e le = ⊎_elim
      (λ none. ap (onward window_number r) none ∙ sym none)
      (λ one. ap (onward window_number r) one.2 ∙ (onward_in window_number r one.0 [] (subst (λ k. r ≤ k) (sym one.1) le) ∙ sym one.2))
      (band_one b lsn e)

  band_before : (b lsn : ℕ) (e : Effect) → lsn < r → onward window_number r (band_change b lsn e) ≡ []
  band_before b lsn e lt = ⊎_elim
      (λ none. ap (onward window_number r) none)
      (λ one. ap (onward window_number r) one.2 ∙ onward_out window_number r one.0 [] (subst (λ k. k < r) (sym one.1) lt))
      (band_one b lsn e)

  module _ (o : Origin) (effect : (lsn : ℕ) (x : Record) → o.effect lsn x ≡ effect_in t lsn x) where
    page_from : (n : ℕ) → n < pages → (ns : List Numbered) → AreInText text base ns → page_records t text (places_of n (places_in pages base r ns)) ≡ onward number_of r (of_page n (entries o ns))
    page_from n lt [] there = page_nothing t text n
    page_from n lt (x ∷ ns) there =
        let e = o.effect x.lsn x.is in
        let same : page_change n x.lsn (effect_in t x.lsn x.is) ≡ page_change n x.lsn e = ap (page_change n x.lsn) (sym (effect x.lsn x.is)) in
        let one : page_records t text (places_of n (place_in pages base r x)) ≡ onward number_of r (page_change n x.lsn e) = ⊎_elim
        (λ low. ap (λ (l : List Place). page_records t text (places_of n l)) (early x low) ∙ (page_nothing t text n ∙ sym (page_before n x.lsn e low)))
        (λ high. ap (λ (l : List Place). page_records t text (places_of n l)) (late x high) ∙ (one_page n lt x.lsn (changed_by x.is.says) there.0 ∙ (same ∙ sym (page_point n x.lsn e high))))
        (cases_lt x.lsn r) in
        page_both t text n (place_in pages base r x) (places_in pages base r ns)
        ∙ (ap (λ (l : List OnPage). l ++ page_records t text (places_of n (places_in pages base r ns))) one
        ∙ (ap (λ (l : List OnPage). onward number_of r (page_change n x.lsn e) ++ l) (page_from n lt ns there.1)
        ∙ sym (onward_both number_of r (page_change n x.lsn e) (of_page n (entries o ns)))))

    band_from : (b : ℕ) (ns : List Numbered) → AreThere pages bands ns → AreInText text base ns → window_records t text (places_of (pages + b) (places_in pages base r ns)) ≡ onward window_number r (of_band b (entries o ns))
    band_from b [] within there = window_nothing t text (pages + b)
    band_from b (x ∷ ns) within there =
        let e = o.effect x.lsn x.is in
        let same : band_change b x.lsn (effect_in t x.lsn x.is) ≡ band_change b x.lsn e = ap (band_change b x.lsn) (sym (effect x.lsn x.is)) in
        let one : window_records t text (places_of (pages + b) (place_in pages base r x)) ≡ onward window_number r (band_change b x.lsn e) = ⊎_elim
        (λ low. ap (λ (l : List Place). window_records t text (places_of (pages + b) l)) (early x low) ∙ (window_nothing t text (pages + b) ∙ sym (band_before b x.lsn e low)))
        (λ high. ap (λ (l : List Place). window_records t text (places_of (pages + b) l)) (late x high) ∙ (one_band b x.lsn (changed_by x.is.says) within.0 there.0 ∙ (same ∙ sym (band_point b x.lsn e high))))
        (cases_lt x.lsn r) in
        window_both t text (pages + b) (place_in pages base r x) (places_in pages base r ns)
        ∙ (ap (λ (l : List OnWindow). l ++ window_records t text (places_of (pages + b) (places_in pages base r ns))) one
        ∙ (ap (λ (l : List OnWindow). onward window_number r (band_change b x.lsn e) ++ l) (band_from b ns within.1 there.1)
        ∙ sym (onward_both window_number r (band_change b x.lsn e) (of_band b (entries o ns)))))

-- so the records of the places are those that are to be repeated
pub are_from : (o : Origin) (t : Table) (text : List ℕ) (base r : ℕ) (ns : List Numbered) → ((lsn : ℕ) (x : Record) → o.effect lsn x ≡ effect_in t lsn x) → AreThere o.super.pages o.super.bands ns → AreInText text base ns
    → AreFrom (geometry o.super) r (entries o ns) (records_of (geometry o.super) t text (places_in o.super.pages base r ns))
are_from o t text base r ns effect within there = record {
  page = λ n lt. page_from t text o.super.pages o.super.bands base r o effect n lt ns there;
  band = λ b lt. band_from t text o.super.pages o.super.bands base r o effect b ns within there;
}

-- each place is that of one change of a window
abbrev OneEach : Table → (text : List ℕ) → List Place → Type 0
OneEach t text [] = Unit {0}
OneEach t text (p ∷ ps) = ((w : OnWindow) × (w.lsn ≡ p.lsn) × (window_part t p.lsn (change_at text p.at) ≡ w ∷ [])) × OneEach t text ps

one_both : (t : Table) (text : List ℕ) (xs ys : List Place) → OneEach t text xs → OneEach t text ys → OneEach t text (xs ++ ys)
one_both t text [] ys one two = two
one_both t text (x ∷ xs) ys one two = (one.0, one_both t text xs ys one.1 two)

records_more : (t : Table) (text : List ℕ) (p : Place) (w : OnWindow) (ps : List Place) → window_part t p.lsn (change_at text p.at) ≡ w ∷ [] → window_records t text (p ∷ ps) ≡ w ∷ window_records t text ps
unfolding window_records
records_more t text p w ps is = ap (λ (l : List OnWindow). l ++ flat_map {X = Place} (λ q. window_part t q.lsn (change_at text q.at)) ps) is

last_more : (p q : Place) (ps : List Place) → last_lsn (p ∷ q ∷ ps) ≡ last_lsn (q ∷ ps)
last_more p q ps =
    let n : length (p ∷ q ∷ ps) - 1 ≡ suc (length (q ∷ ps) - 1) = omega arith in
    ap (λ k. lsn_in (slice_get (p ∷ q ∷ ps) k)) n

-- THE LAST of the places of a band is its last change
last_place : (t : Table) (text : List ℕ) (ps : List Place) → OneEach t text ps → last_lsn ps ≡ last_number (window_records t text ps)
last_place t text [] each = sym (ap last_number (window_nothing t text 0))
last_place t text (p ∷ []) each = sym (ap last_number (records_more t text p each.0.0 [] each.0.2 ∙ ap (λ (l : List OnWindow). each.0.0 ∷ l) (window_nothing t text 0)) ∙ each.0.1)
last_place t text (p ∷ q ∷ ps) each =
    let rest = last_place t text (q ∷ ps) each.1 in
    let behind = records_more t text q each.1.0.0 ps each.1.0.2 in
    last_more p q ps ∙ (rest ∙ (ap last_number behind ∙ sym (ap last_number (records_more t text p each.0.0 (q ∷ ps) each.0.2 ∙ ap (λ (l : List OnWindow). each.0.0 ∷ l) behind))))

module _ (t : Table) (text : List ℕ) (pages bands base r : ℕ) where
  one_there : (b lsn : ℕ) (c : Option Change) → is_there pages bands c ≡ true → change_at text (lsn - base) ≡ c → OneEach t text (places_of (pages + b) (place_with pages base lsn c))
  unfolding window_part
  one_there b lsn None there is = tt
  one_there b lsn (Some (Page c)) there is =
      let low : nat_lt c.page pages ≡ true = there in
      let far : (c.page == pages + b) ≡ false = grind (arith, nat_tests) in
      let x : Place = record { unit = c.page; lsn = lsn; at = lsn - base } in
      subst (λ (y : Bool). OneEach t text (cond y (x ∷ []) [])) (sym far) tt
  one_there b lsn (Some (SegWrite c)) there is =
      let x : Place = record { unit = pages + c.band; lsn = lsn; at = lsn - base } in
      let w : OnWindow = record { lsn = lsn; at = c.at; bytes = c.after } in
      let one : OneEach t text (x ∷ []) = ((w, refl, ap (window_part t lsn) is), tt) in
      ⊎_elim
      (λ yes. subst (λ (y : Bool). OneEach t text (cond y (x ∷ []) [])) (sym yes) one)
      (λ not. subst (λ (y : Bool). OneEach t text (cond y (x ∷ []) [])) (sym not) tt)
      (test_or (pages + c.band == pages + b))
  one_there b lsn (Some (SegOp c)) there is =
      let x : Place = record { unit = pages + c.band; lsn = lsn; at = lsn - base } in
      let w : OnWindow = record { lsn = lsn; at = c.at; bytes = rendered (range_at t c.code) c.arg c.position c.count } in
      let one : OneEach t text (x ∷ []) = ((w, refl, ap (window_part t lsn) is), tt) in
      ⊎_elim
      (λ yes. subst (λ (y : Bool). OneEach t text (cond y (x ∷ []) [])) (sym yes) one)
      (λ not. subst (λ (y : Bool). OneEach t text (cond y (x ∷ []) [])) (sym not) tt)
      (test_or (pages + c.band == pages + b))

  all_there : (b : ℕ) (ns : List Numbered) → AreThere pages bands ns → AreInText text base ns → OneEach t text (places_of (pages + b) (places_in pages base r ns))
  all_there b [] within there = tt
  all_there b (x ∷ ns) within there =
      let one : OneEach t text (places_of (pages + b) (place_in pages base r x)) = ⊎_elim
      (λ low. subst (λ (l : List Place). OneEach t text (places_of (pages + b) l)) (sym (early t text pages bands base r x low)) tt)
      (λ high. subst (λ (l : List Place). OneEach t text (places_of (pages + b) l)) (sym (late t text pages bands base r x high)) (one_there b x.lsn (changed_by x.is.says) within.0 there.0))
      (cases_lt x.lsn r) in
      subst (λ (l : List Place). OneEach t text l) (sym (filter_both (λ p. p.unit == pages + b) (place_in pages base r x) (places_in pages base r ns)))
      (one_both t text (places_of (pages + b) (place_in pages base r x)) (places_of (pages + b) (places_in pages base r ns)) one (all_there b ns within.1 there.1))

  pub last_of_places : (b : ℕ) (ns : List Numbered) → AreThere pages bands ns → AreInText text base ns
      → last_lsn (places_of (pages + b) (places_in pages base r ns)) ≡ last_number (window_records t text (places_of (pages + b) (places_in pages base r ns)))
  last_of_places b ns within there = last_place t text (places_of (pages + b) (places_in pages base r ns)) (all_there b ns within there)

  -- a band without places has no change
  pub none_of_places : (b : ℕ) (ns : List Numbered) → places_of (pages + b) (places_in pages base r ns) ≡ [] → window_records t text (places_of (pages + b) (places_in pages base r ns)) ≡ []
  none_of_places b ns none = ap (window_records t text) none ∙ window_nothing t text 0

records_some : (t : Table) (text : List ℕ) (ps : List Place) → OneEach t text ps → (ps ≡ [] → ⊥) → window_records t text ps ≡ [] → ⊥
records_some t text [] each some none = some refl
records_some t text (p ∷ ps) each some none = not_nil (sym (records_more t text p each.0.0 ps each.0.2) ∙ none)
  where
    not_nil : each.0.0 ∷ window_records t text ps ≡ [] → ⊥
    not_nil e = cc

-- and one with places has some
pub some_of_places : (t : Table) (text : List ℕ) (pages bands base r b : ℕ) (ns : List Numbered) → AreThere pages bands ns → AreInText text base ns
    → (places_of (pages + b) (places_in pages base r ns) ≡ [] → ⊥) → window_records t text (places_of (pages + b) (places_in pages base r ns)) ≡ [] → ⊥
some_of_places t text pages bands base r b ns within there some = records_some t text (places_of (pages + b) (places_in pages base r ns)) (all_there t text pages bands base r b ns within there) some

pub some_or_none : (ps : List Place) → (ps ≡ []) ⊎ (ps ≢ [])
some_or_none [] = inl refl
some_or_none (p ∷ ps) = inr (λ is. absurd (cc))
