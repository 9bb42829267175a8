-- What a check of a log's text says of its records, and of the places of those that are repeated.
use Rattle.std.proofs.Common.{◌≡◌, ◌⊎◌, inl, inr, ⊎_elim, ◌<◌, ◌≤◌, ◌+◌, ◌-◌, ◌==◌, ◌&&◌, ◌||◌, not, nat_lt, nat_le, ℕ, zero, suc, Bool, true, false, IsTrue, is_some, Option, Some, None, List, [], ◌∷◌, ◌++◌, length, cond, map, get_or, refl, sym, ◌∙◌, ap, subst, arith, add-one, length-append}
use Rattle.std.specs.List.{All}
use Rattle.std.specs.List.Sorted.{IsStrictlyIncreasing}
use Rattle.std.proofs.lemmas.List.Elements.{All-nil, All-cons, All-append}
use Rattle.std.proofs.lemmas.Bool.{cases_lt}
use Rattle.std.proofs.lemmas.Bool.Decides.{nat_tests}
use Rattle.byteorder.specs.Endian.{little_bytes}
use Rattle.sg_ops.specs.Table.{Table, record_at, range_at}
use Rattle.sg_record.specs.Changes.{Change}
use Rattle.sg_record.specs.Changes.Change.{Page, SegWrite, SegOp}
use Rattle.sg_record.specs.Records.{Record, spelled}
use Rattle.sg_log.specs.Texts.{spelled_all}
use Rattle.sg_log.specs.Frames.{Numbered, numbered_from, numbered_in, text_of, gate_after, IsFrame}
use Rattle.sg_log.proofs.Texts.{spelled-long}
use Rattle.sg_redo.specs.declared.place.Place.{Place}
use Rattle.sg_redo.specs.Places.{change_at, changed_by, IsKnown}
use Rattle.sg_engine.specs.Numbers.{Rises, AllUnder}
use Rattle.sg_engine.proofs.Pages.{rises_less}
use Rattle.sg_analysis.specs.Analysis.{is_number}
use Rattle.sg_places.specs.Asked.{Undone, is_there, all_there, first_outside, unknown_in, unknown_by, first_unknown, is_needed, is_among, or_else}
use Rattle.sg_places.specs.Placed.{unit_of, place_with, place_in, places_in}
use Rattle.sg_opening.specs.Opening.{AreThere}
use Rattle.sg_opening.proofs.Placed.{AreInText}

left_true : (a b : Bool) → (a && b) ≡ true → a ≡ true
left_true true b x = refl
left_true false b x = absurd (cc)

right_true : (a b : Bool) → (a && b) ≡ true → b ≡ true
right_true true b x = x
right_true false b x = absurd (cc)

there_both : (pages bands : ℕ) (ns ms : List Numbered) → AreThere pages bands ns → AreThere pages bands ms → AreThere pages bands (ns ++ ms)
there_both pages bands [] ms one two = two
there_both pages bands (n ∷ ns) ms one two = (one.0, there_both pages bands ns ms one.1 two)

body_there : (pages bands lsn : ℕ) (rs : List Record) → all_there pages bands rs ≡ true → AreThere pages bands (numbered_from lsn rs)
body_there pages bands lsn [] all = tt
body_there pages bands lsn (r ∷ rs) all =
    (left_true (is_there pages bands (changed_by r.says)) (all_there pages bands rs) all, body_there pages bands (lsn + length (spelled r)) rs (right_true (is_there pages bands (changed_by r.says)) (all_there pages bands rs) all))

none_outside : (b : Bool) (o : Option ℕ) (at : ℕ) → cond b o (Some at) ≡ None → (b ≡ true) × (o ≡ None)
none_outside true o at h = (refl, h)
none_outside false o at h = absurd (cc)

-- where no frame has a record of a page or band that isn't there, all records are of those that are
pub frames_there : (pages bands at gate : ℕ) (frames : List (List Record)) → first_outside pages bands at frames ≡ None → AreThere pages bands (numbered_in gate frames)
frames_there pages bands at gate [] none = tt
frames_there pages bands at gate (rs ∷ frames) none =
    let both = none_outside (all_there pages bands rs) (first_outside pages bands (at + 1 + length (text_of (spelled_all rs))) frames) at none in
    there_both pages bands (numbered_from (gate + 5) rs) (numbered_in (gate + 1 + length (text_of (spelled_all rs))) frames) (body_there pages bands (gate + 5) rs both.0) (frames_there pages bands (at + 1 + length (text_of (spelled_all rs))) (gate + 1 + length (text_of (spelled_all rs))) frames both.1)

-- a record's number
abbrev pub record_number : Numbered → ℕ
record_number n = n.lsn

abbrev pub place_number : Place → ℕ
place_number p = p.lsn

module _ (pages bands base r : ℕ) where
  one_within : (lsn : ℕ) (c : Option Change) → is_there pages bands c ≡ true → All (λ (p : Place). p.unit < pages + bands) (place_with pages base lsn c)
  one_within lsn None there = All-nil (λ (p : Place). p.unit < pages + bands)
  one_within lsn (Some (Page c)) there = All-cons (λ (p : Place). p.unit < pages + bands) (record { unit = c.page; lsn = lsn; at = lsn - base }) [] (let low : c.page < pages = grind (arith, nat_tests, there) in omega arith) (All-nil (λ (p : Place). p.unit < pages + bands))
  one_within lsn (Some (SegWrite c)) there = All-cons (λ (p : Place). p.unit < pages + bands) (record { unit = pages + c.band; lsn = lsn; at = lsn - base }) [] (let low : c.band < bands = grind (arith, nat_tests, there) in omega arith) (All-nil (λ (p : Place). p.unit < pages + bands))
  one_within lsn (Some (SegOp c)) there = All-cons (λ (p : Place). p.unit < pages + bands) (record { unit = pages + c.band; lsn = lsn; at = lsn - base }) [] (let low : c.band < bands = grind (arith, nat_tests, there) in omega arith) (All-nil (λ (p : Place). p.unit < pages + bands))

  early : (n : Numbered) → n.lsn < r → place_in pages base r n ≡ []
  early n lt = let low : nat_lt n.lsn r ≡ true = grind (arith, nat_tests) in ap (λ (b : Bool). cond b [] (place_with pages base n.lsn (changed_by n.is.says))) low

  late : (n : Numbered) → r ≤ n.lsn → place_in pages base r n ≡ place_with pages base n.lsn (changed_by n.is.says)
  late n le = let low : nat_lt n.lsn r ≡ false = grind (arith, nat_tests) in ap (λ (b : Bool). cond b [] (place_with pages base n.lsn (changed_by n.is.says))) low

  -- what holds of the place of each record from the point on holds of all places
  each_place : (P : Place → Type 0) (n : Numbered) → (r ≤ n.lsn → All P (place_with pages base n.lsn (changed_by n.is.says))) → All P (place_in pages base r n)
  each_place P n all = ⊎_elim (λ lt. subst (All P) (sym (early n lt)) (All-nil P)) (λ le. subst (All P) (sym (late n le)) (all le)) (cases_lt n.lsn r)

  -- EACH PLACE is of a page or a band of the store
  pub places_within : (ns : List Numbered) → AreThere pages bands ns → All (λ (p : Place). p.unit < pages + bands) (places_in pages base r ns)
  places_within [] there = All-nil (λ (p : Place). p.unit < pages + bands)
  places_within (n ∷ ns) there = All-append (λ (p : Place). p.unit < pages + bands) (place_in pages base r n) (places_in pages base r ns)
      (each_place (λ (p : Place). p.unit < pages + bands) n (λ le. one_within n.lsn (changed_by n.is.says) there.0)) (places_within ns there.1)

  -- below a number, where the records are
  one_below : (d lsn : ℕ) (c : Option Change) → lsn < d → All (λ (p : Place). p.lsn < d) (place_with pages base lsn c)
  one_below d lsn None lt = All-nil (λ (p : Place). p.lsn < d)
  one_below d lsn (Some c) lt = All-cons (λ (p : Place). p.lsn < d) (record { unit = unit_of pages c; lsn = lsn; at = lsn - base }) [] lt (All-nil (λ (p : Place). p.lsn < d))

  pub places_below : (d : ℕ) (ns : List Numbered) → AllUnder record_number d ns → All (λ (p : Place). p.lsn < d) (places_in pages base r ns)
  places_below d [] under = All-nil (λ (p : Place). p.lsn < d)
  places_below d (n ∷ ns) under = All-append (λ (p : Place). p.lsn < d) (place_in pages base r n) (places_in pages base r ns) (each_place (λ (p : Place). p.lsn < d) n (λ le. one_below d n.lsn (changed_by n.is.says) under.0)) (places_below d ns under.1)

  -- of an operation that is registered, where it is a range operation
  unknown_none : (t : Table) (c : Option Change) → unknown_in t c ≡ None → IsKnown t c
  unknown_none t None none = tt
  unknown_none t (Some (Page c)) none = tt
  unknown_none t (Some (SegWrite c)) none = tt
  unknown_none t (Some (SegOp c)) none = by_test (is_some (range_at t c.code)) none
    where
      by_test : (b : Bool) → cond b None (Some c.code) ≡ None → IsTrue b
      by_test true h = refl
      by_test false h = absurd (cc)

  pub both_none : (a b : Option ℕ) → or_else a b ≡ None → (a ≡ None) × (b ≡ None)
  both_none None b h = (refl, h)
  both_none (Some x) b h = absurd (cc)

  needed : (undone : Undone) (lsn : ℕ) (x : Record) → r ≤ lsn → is_needed r undone lsn x ≡ true
  needed undone lsn x le = let low : nat_le r lsn ≡ true = grind (arith, nat_tests) in ap (λ b. b || (is_among x.transaction undone.0 || (x.transaction == 0 && is_number lsn undone.1))) low

  module _ (t : Table) (undone : Undone) (text : List ℕ) where
    one_known : (lsn : ℕ) (c x : Option Change) → change_at text (lsn - base) ≡ c → unknown_in t c ≡ None → All (λ (p : Place). IsKnown t (change_at text p.at)) (place_with pages base lsn c)
    one_known lsn None x there none = All-nil (λ (p : Place). IsKnown t (change_at text p.at))
    one_known lsn (Some c) x there none = All-cons (λ (p : Place). IsKnown t (change_at text p.at)) (record { unit = unit_of pages c; lsn = lsn; at = lsn - base }) []
        (subst (IsKnown t) (sym there) (unknown_none t (Some c) none)) (All-nil (λ (p : Place). IsKnown t (change_at text p.at)))

    pub places_known : (ns : List Numbered) → AreInText text base ns → first_unknown t r undone ns ≡ None → All (λ (p : Place). IsKnown t (change_at text p.at)) (places_in pages base r ns)
    places_known [] there none = All-nil (λ (p : Place). IsKnown t (change_at text p.at))
    places_known (n ∷ ns) there none =
        let both = both_none (unknown_by t r undone n.lsn n.is) (first_unknown t r undone ns) none in
        All-append (λ (p : Place). IsKnown t (change_at text p.at)) (place_in pages base r n) (places_in pages base r ns)
        (each_place (λ (p : Place). IsKnown t (change_at text p.at)) n (λ le.
        let asked : unknown_in t (changed_by n.is.says) ≡ None = sym (ap (λ b. cond b (unknown_in t (changed_by n.is.says)) None) (needed undone n.lsn n.is le)) ∙ both.0 in
        one_known n.lsn (changed_by n.is.says) None there.0 asked))
        (places_known ns there.1 both.1)

  -- THEIR NUMBERS RISE, as those of the records do
  one_rises : (low lsn : ℕ) (c : Option Change) (ps : List Place) → low ≤ lsn → Rises place_number (suc lsn) ps → Rises place_number low (place_with pages base lsn c ++ ps)
  one_rises low lsn None ps le rises = rises_less place_number low (suc lsn) ps (omega arith) rises
  one_rises low lsn (Some c) ps le rises = (le, rises)

  places_rise : (low : ℕ) (ns : List Numbered) → Rises record_number low ns → Rises place_number low (places_in pages base r ns)
  places_rise low [] rises = tt
  places_rise low (n ∷ ns) rises =
      let rest = places_rise (suc n.lsn) ns rises.1 in
      ⊎_elim
      (λ lt. subst (λ (l : List Place). Rises place_number low (l ++ places_in pages base r ns)) (sym (early n lt)) (rises_less place_number low (suc n.lsn) (places_in pages base r ns) (let h = rises.0 in omega arith) rest))
      (λ le. subst (λ (l : List Place). Rises place_number low (l ++ places_in pages base r ns)) (sym (late n le)) (one_rises low n.lsn (changed_by n.is.says) (places_in pages base r ns) rises.0 rest))
      (cases_lt n.lsn r)

  increasing : (low : ℕ) (ps : List Place) → Rises place_number low ps → (k : ℕ) → suc k < length (map place_number ps) → get_or (map place_number ps) k 0 < get_or (map place_number ps) (suc k) 0
  increasing low [] rises k lt = absurd (omega arith)
  increasing low (p ∷ []) rises k lt = absurd (omega arith)
  increasing low (p ∷ q ∷ ps) rises zero lt = let h = rises.1.0 in omega arith
  increasing low (p ∷ q ∷ ps) rises (suc k) lt = increasing (suc p.lsn) (q ∷ ps) rises.1 k (omega arith)

  pub places_in_order : (low : ℕ) (ns : List Numbered) → Rises record_number low ns → IsStrictlyIncreasing (map place_number (places_in pages base r ns))
  places_in_order low ns rises k lt =
      let lt' : suc k < length (map place_number (places_in pages base r ns)) = omega arith in
      subst (λ j. get_or (map place_number (places_in pages base r ns)) k 0 < get_or (map place_number (places_in pages base r ns)) j 0) (sym (add-one k)) (increasing low (places_in pages base r ns) (places_rise low ns rises) k lt')

-- THE NUMBERS OF A LOG'S RECORDS rise, and are below its gate
body_rises : (low lsn : ℕ) (rs : List Record) (ns : List Numbered) → low ≤ lsn → Rises record_number (lsn + length (spelled_all rs)) ns → Rises record_number low (numbered_from lsn rs ++ ns)
body_rises low lsn [] ns le rises = rises_less record_number low (lsn + 0) ns (omega arith) rises
body_rises low lsn (r ∷ rs) ns le rises =
    let next : lsn + length (spelled r) + length (spelled_all rs) ≡ lsn + length (spelled_all (r ∷ rs)) = omega (arith, spelled_both r rs) in
    let long = spelled-long r in
    (le, body_rises (suc lsn) (lsn + length (spelled r)) rs ns (omega arith) (subst (λ k. Rises record_number k ns) (sym next) rises))
  where
    spelled_both : (r : Record) (rs : List Record) → length (spelled_all (r ∷ rs)) ≡ length (spelled r) + length (spelled_all rs)
    spelled_both r rs = length-append (spelled r) (spelled_all rs)

text_long : (body : List ℕ) → length (text_of body) ≡ 4 + length body
text_long body = omega arith

pub frames_rise : (gate : ℕ) (frames : List (List Record)) → Rises record_number (suc gate) (numbered_in gate frames)
frames_rise gate [] = tt
frames_rise gate (rs ∷ frames) =
    let rest = frames_rise (gate + 1 + length (text_of (spelled_all rs))) frames in
    body_rises (suc gate) (gate + 5) rs (numbered_in (gate + 1 + length (text_of (spelled_all rs))) frames) (omega arith)
    (rises_less record_number (gate + 5 + length (spelled_all rs)) (suc (gate + 1 + length (text_of (spelled_all rs)))) (numbered_in (gate + 1 + length (text_of (spelled_all rs))) frames) (omega (arith, text_long (spelled_all rs))) rest)

body_under : (d lsn : ℕ) (rs : List Record) (ns : List Numbered) → lsn + length (spelled_all rs) ≤ d → AllUnder record_number d ns → AllUnder record_number d (numbered_from lsn rs ++ ns)
body_under d lsn [] ns le under = under
body_under d lsn (r ∷ rs) ns le under =
    let long = spelled-long r in
    let both = length-append (spelled r) (spelled_all rs) in
    (omega arith, body_under d (lsn + length (spelled r)) rs ns (omega arith) under)

later : (at : ℕ) (frames : List (List Record)) → at ≤ gate_after at frames
later at [] = omega arith
later at (rs ∷ frames) = let more = later (at + 1 + length (text_of (spelled_all rs))) frames in omega arith

pub frames_under : (gate d : ℕ) (frames : List (List Record)) → gate_after gate frames ≤ d → AllUnder record_number d (numbered_in gate frames)
frames_under gate d [] le = tt
frames_under gate d (rs ∷ frames) le =
    let more = later (gate + 1 + length (text_of (spelled_all rs))) frames in
    body_under d (gate + 5) rs (numbered_in (gate + 1 + length (text_of (spelled_all rs))) frames) (omega (arith, text_long (spelled_all rs))) (frames_under (gate + 1 + length (text_of (spelled_all rs))) d frames le)
