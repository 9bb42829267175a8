-- The places of one unit in a part of the log.
use Rattle.std.proofs.Common.{◌≡◌, ◌≢◌, ◌⊎◌, inl, inr, ⊎_elim, ◌<◌, ◌+◌, ◌==◌, ℕ, suc, true, false, List, [], ◌∷◌, ◌++◌, length, refl, sym, ◌∙◌, ap, subst, arith, append-nil, length-append}
use Rattle.std.specs.Prelude.{All}
use Rattle.std.proofs.Math.ListN.{get_or-append}
use Rattle.std.proofs.lemmas.Bool.Decides.{nat_tests}
use Rattle.std.proofs.lemmas.List.{get_or-append-add}
use Rattle.std.proofs.lemmas.List.Elements.{filter-append}
use Rattle.sg_ops.specs.Table.{Table}
use Rattle.sg_redo.specs.declared.place.Place.{Place}
use Rattle.sg_redo.specs.Places.{page_part, page_records, window_part, window_records}
use Rattle.sg_redo.proofs.Said.{nothing_behind}
use Rattle.sg_pool.specs.Units.{Geometry}
use Rattle.sg_pool.specs.Redone.{ArePlacesBelow, places_of, records_of}
use Rattle.sg_pool.proofs.Redone.{AreTogether, IsOfPage, IsOfBand}

-- what stands for a place that isn't there
abbrev pub no_place : Place
no_place = record { unit = 0; lsn = 0; at = 0 }

pub all_left : {X : Type 0} (P : X → Type 0) (xs ys : List X) → All P (xs ++ ys) → All P xs
all_left P xs ys all k d lt = subst P (get_or-append xs ys d k lt) (all k d (let size = length-append xs ys in omega (arith, lt, size)))

pub all_right : {X : Type 0} (P : X → Type 0) (xs ys : List X) → All P (xs ++ ys) → All P ys
all_right P xs ys all k d lt = subst P (get_or-append-add xs ys k d) (all (length xs + k) d (let size = length-append xs ys in omega (arith, lt, size)))

-- where none is of the unit, it has none
pub none_of : (unit : ℕ) (places : List Place) → All (λ p. p.unit ≢ unit) places → places_of unit places ≡ []
none_of unit [] differ = refl
none_of unit (p ∷ places) differ =
    let not : p.unit ≢ unit = differ 0 p (omega arith) in
    let test : (p.unit == unit) ≡ false = grind (arith, nat_tests, not) in
    rw test (none_of unit places (λ k d lt. differ (suc k) d (omega (arith, lt))))

-- and where all are, it has all
pub all_of : (unit : ℕ) (places : List Place) → All (λ p. p.unit ≡ unit) places → places_of unit places ≡ places
all_of unit [] same = refl
all_of unit (p ∷ places) same =
    let is : p.unit ≡ unit = same 0 p (omega arith) in
    let test : (p.unit == unit) ≡ true = grind (arith, nat_tests, is) in
    rw test (ap (λ (l : List Place). p ∷ l) (all_of unit places (λ k d lt. same (suc k) d (omega (arith, lt)))))

pub page_nothing : (t : Table) (text : List ℕ) → page_records t text [] ≡ []
unfolding page_records
page_nothing t text = refl

pub window_nothing : (t : Table) (text : List ℕ) → window_records t text [] ≡ []
unfolding window_records
window_nothing t text = refl

-- PLACES OF ONE UNIT ALONE
module _ (g : Geometry) (t : Table) (text : List ℕ) (unit : ℕ) (places : List Place) (same : All (λ p. p.unit ≡ unit) places) where
  other_unit : (n : ℕ) → n ≢ unit → places_of n places ≡ []
  other_unit n differ = none_of n places (λ k d lt is. differ (sym is ∙ same k d lt))

  pub of_page : unit < g.pages → IsOfPage g unit (page_records t text places) (records_of g t text places)
  of_page lt = record {
    its = ap (page_records t text) (all_of unit places same);
    pages = λ n differ. ap (page_records t text) (other_unit n differ) ∙ page_nothing t text;
    bands = λ b. ap (window_records t text) (other_unit (g.pages + b) (λ is. absurd (omega (arith, is, lt)))) ∙ window_nothing t text;
  }

  pub of_band : (b : ℕ) → unit ≡ g.pages + b → IsOfBand g b (window_records t text places) (records_of g t text places)
  of_band b is = record {
    its = ap (λ (n : ℕ). window_records t text (places_of n places)) (sym is) ∙ ap (window_records t text) (all_of unit places same);
    bands = λ c differ. ap (window_records t text) (other_unit (g.pages + c) (λ e. differ (omega (arith, e, is)))) ∙ window_nothing t text;
    pages = λ n lt. ap (page_records t text) (other_unit n (λ e. absurd (omega (arith, e, is, lt)))) ∙ page_nothing t text;
  }

-- in no bytes stands no record
pub blank_page : (t : Table) (places : List Place) → page_records t [] places ≡ []
unfolding page_records page_part
blank_page t [] = refl
blank_page t (p ∷ places) = ap (λ c. page_part t p.lsn c ++ page_records t [] places) (sym (nothing_behind [] p.at (omega arith))) ∙ blank_page t places

pub blank_window : (t : Table) (places : List Place) → window_records t [] places ≡ []
unfolding window_records window_part
blank_window t [] = refl
blank_window t (p ∷ places) = ap (λ c. window_part t p.lsn c ++ window_records t [] places) (sym (nothing_behind [] p.at (omega arith))) ∙ blank_window t places

-- TWO RUNS ARE ONE: over places `a` of the first text, and then over places `b` of the text itself, as over all of this text
pub record AreJoined (g : Geometry) (t : Table) (first text : List ℕ) (all a b : List Place) : Type 0 where
  pub together : AreTogether (records_of g t text all) (records_of g t first a) (records_of g t text b)
  pub neither : (n : ℕ) → places_of n all ≡ [] → (places_of n a ≡ []) × (places_of n b ≡ [])
  pub either : (n : ℕ) → ((places_of n b ≡ []) × (places_of n all ≡ places_of n a)) ⊎ ((page_records t first (places_of n a) ≡ []) × (places_of n all ≡ places_of n b))
  pub first_below : (tail : ℕ) → ArePlacesBelow tail all → ArePlacesBelow tail a
  pub second_below : (tail : ℕ) → ArePlacesBelow tail all → ArePlacesBelow tail b

-- units are held first, and then all records are repeated on them
pub joined_held : (g : Geometry) (t : Table) (text : List ℕ) (places : List Place) → AreJoined g t [] text places places places
joined_held g t text places = record {
  together = record { page = λ n. inr (blank_page t (places_of n places), refl); band = λ n. inr (blank_window t (places_of (g.pages + n) places), refl) };
  neither = λ n none. (none, none);
  either = λ n. inr (blank_page t (places_of n places), refl);
  first_below = λ tail every. every;
  second_below = λ tail every. every;
}

-- TWO PARTS, one after the other, of which no unit has places in both
pub record AreParts (all a b : List Place) : Type 0 where
  pub sum : all ≡ a ++ b
  pub apart : (n : ℕ) → (places_of n b ≡ []) ⊎ (places_of n a ≡ [])

module _ (all a b : List Place) (parts : AreParts all a b) where
  pub places_sum : (n : ℕ) → places_of n all ≡ places_of n a ++ places_of n b
  places_sum n = ap (places_of n) parts.sum ∙ filter-append (λ p. p.unit == n) a b

  pub places_first : (n : ℕ) → places_of n b ≡ [] → places_of n all ≡ places_of n a
  places_first n none = places_sum n ∙ (ap (λ (l : List Place). places_of n a ++ l) none ∙ append-nil (places_of n a))

  pub places_second : (n : ℕ) → places_of n a ≡ [] → places_of n all ≡ places_of n b
  places_second n none = places_sum n ∙ ap (λ (l : List Place). l ++ places_of n b) none

  pub are_together : (g : Geometry) (t : Table) (text : List ℕ) → AreTogether (records_of g t text all) (records_of g t text a) (records_of g t text b)
  are_together g t text = record {
    page = λ n. ⊎_elim
        (λ none. inl (ap (page_records t text) none ∙ page_nothing t text, ap (page_records t text) (places_first n none)))
        (λ none. inr (ap (page_records t text) none ∙ page_nothing t text, ap (page_records t text) (places_second n none)))
        (parts.apart n);
    band = λ n. ⊎_elim
        (λ none. inl (ap (window_records t text) none ∙ window_nothing t text, ap (window_records t text) (places_first (g.pages + n) none)))
        (λ none. inr (ap (window_records t text) none ∙ window_nothing t text, ap (window_records t text) (places_second (g.pages + n) none)))
        (parts.apart (g.pages + n));
  }

  pub all_first : (P : Place → Type 0) → All P all → All P a
  all_first P every = all_left P a b (subst (All P) parts.sum every)

  pub all_second : (P : Place → Type 0) → All P all → All P b
  all_second P every = all_right P a b (subst (All P) parts.sum every)

  pub joined_parts : (g : Geometry) (t : Table) (text : List ℕ) → AreJoined g t text text all a b
  joined_parts g t text = record {
    together = are_together g t text;
    neither = λ n none. ⊎_elim
        (λ no_b. (sym (places_first n no_b) ∙ none, no_b))
        (λ no_a. (no_a, sym (places_second n no_a) ∙ none))
        (parts.apart n);
    either = λ n. ⊎_elim
        (λ no_b. inl (no_b, places_first n no_b))
        (λ no_a. inr (ap (page_records t text) no_a ∙ page_nothing t text, places_second n no_a))
        (parts.apart n);
    first_below = λ tail. all_first (λ p. p.lsn < tail);
    second_below = λ tail. all_second (λ p. p.lsn < tail);
  }
