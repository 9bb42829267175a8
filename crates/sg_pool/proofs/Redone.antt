-- What runs of redo leave of the units, one run after another.
use Rattle.std.proofs.Common.{◌≡◌, ◌≢◌, ◌⊎◌, inl, inr, ⊎_elim, ◌<◌, ◌≤◌, ◌^◌, ℕ, suc, Bool, true, false, if◌then◌else◌, Option, Some, None, IfSome, List, [], ◌∷◌, ◌++◌, refl, sym, ◌∙◌, ap, subst, arith, append-nil}
use Rattle.std.specs.Prelude.{◌&&◌, ◌||◌, nat_lt, is_some, unwrap_or}
use Rattle.std.proofs.lemmas.Bool.{cases_eq}
use Rattle.sg_base.specs.Page.{lsn_of}
use Rattle.sg_base.specs.declared.page.TheConstants.{BAND_SIZE}
use Rattle.sg_disk.specs.Disk.{Part}
use Rattle.sg_ops.specs.Table.{Table}
use Rattle.sg_record.specs.Changes.{Change}
use Rattle.sg_record.specs.Changes.Change.{Page, SegWrite, SegOp}
use Rattle.sg_redo.specs.declared.place.Place.{Place}
use Rattle.sg_redo.specs.History.{OnPage, redone, repeated, rewritten, applies, since_after, since_repeated, is_covered, SetsNumber}
use Rattle.sg_redo.specs.Places.{change_at, op_said, page_part, page_records}
use Rattle.sg_redo.specs.Window.{OnWindow, on_byte, since_replayed}
use Rattle.sg_redo.proofs.Numbers.{record_sets}
use Rattle.sg_pool.specs.Units.{Geometry, Units, IsBacked, IsCleaned, IsBelow}
use Rattle.sg_pool.specs.Repeated.{IsPageRepeated, IsBandRepeated}
use Rattle.sg_pool.specs.Redone.{PartRecords, IsPageRedone, HasOnly, IsBandRedone, IsRedone, AreWhole, ArePartlyRedone, AreHomesKnown, ArePlacesBelow}
use Rattle.sg_pool.proofs.Changes.{bool_cases, redone_same}
use Rattle.sg_pool.proofs.Slots.{none_is_some, none_or_some}

-- the records of two runs together: no unit has some in both
pub record AreTogether (all a b : PartRecords) : Type 0 where
  pub page : (n : ℕ) → ((b.page n ≡ []) × (all.page n ≡ a.page n)) ⊎ ((a.page n ≡ []) × (all.page n ≡ b.page n))
  pub band : (n : ℕ) → ((b.band n ≡ []) × (all.band n ≡ a.band n)) ⊎ ((a.band n ≡ []) × (all.band n ≡ b.band n))

-- no records
abbrev pub none : PartRecords
none = record { page = λ n. []; band = λ b. [] }

not_covered : false ≡ true → ⊥
not_covered e = cc

-- A PAGE that has records in one of two runs
module _ (n : ℕ) (rs : List OnPage) (m m1 m2 : Units) where
  page_after : IsPageRedone n rs m m1 → IsPageRedone n [] m1 m2 → IsPageRedone n rs m m2
  page_after is rest = record {
    page = rest.page ∙ is.page;
    since = ⊎_elim
        (λ same. ⊎_elim (λ e. inl (same ∙ e)) (λ gone. inr (⊎_elim (λ e. inl (same ∙ e)) (λ e. inr (same ∙ e)) gone)) is.since)
        (λ gone. inr (inr (⊎_elim (λ e. e) (λ e. e) gone)))
        rest.since;
  }

  page_before : IsPageRedone n [] m m1 → IsPageRedone n rs m1 m2 → IsPageRedone n rs m m2
  page_before first is = record {
    page = is.page ∙ ap (repeated rs) first.page;
    since = ⊎_elim
        (λ same.
        let here : (s : Option ℕ) → m1.page_since n ≡ s → m2.page_since n ≡ since_repeated rs (m.page n) s = λ s e. same ∙ (ap (λ (x : List ℕ). since_repeated rs x (m1.page_since n)) first.page ∙ ap (since_repeated rs (m.page n)) e) in
        ⊎_elim (λ e. inl (here (m.page_since n) e)) (λ gone. inr (inl (here None (⊎_elim (λ e. e) (λ e. e) gone)))) first.since)
        (λ gone. inr (⊎_elim (λ e. inl (e ∙ ap (λ (x : List ℕ). since_repeated rs x None) first.page)) (λ e. inr e) gone))
        is.since;
  }

-- A BAND
module _ (b : ℕ) (ws : List OnWindow) (m m1 m2 : Units) where
  still_marked : IsBandRedone b [] m1 m2 → (i : ℕ) → i < BAND_SIZE → m2.marked b i ≡ true → m1.marked b i ≡ true
  still_marked rest i small on = ⊎_elim (λ e. e) (λ e. absurd (not_covered e)) (rest.marked i small on)

  band_after : IsBandRedone b ws m m1 → IsBandRedone b [] m1 m2 → IsBandRedone b ws m m2
  band_after is rest = record {
    byte = λ i small. rest.byte i small ∙ is.byte i small;
    marked = λ i small on. is.marked i small (still_marked rest i small on);
    since = ⊎_elim
        (λ same. ⊎_elim
        (λ e. inl (same ∙ e))
        (λ gone. inr (⊎_elim (λ only. inl (record { since = same ∙ only.since; marked = λ i small on. only.marked i small (still_marked rest i small on) })) (λ e. inr (same ∙ e)) gone))
        is.since)
        (λ gone. inr (inr (⊎_elim (λ only. only.since) (λ e. e) gone)))
        rest.since;
  }

  band_before : ((i : ℕ) → m1.band_since b ≡ None → m1.marked b i ≡ false) → IsBandRedone b [] m m1 → IsBandRedone b ws m1 m2 → IsBandRedone b ws m m2
  band_before clean first is = record {
    byte = λ i small. is.byte i small ∙ ap (rewritten (on_byte i ws)) (first.byte i small);
    marked = λ i small on. ⊎_elim (λ e. ⊎_elim (λ was. inl was) (λ no_one. absurd (not_covered no_one)) (first.marked i small e)) (λ e. inr e) (is.marked i small on);
    since = ⊎_elim
        (λ same.
        let anew : m1.band_since b ≡ None → HasOnly b ws m2 = λ gone. record {
          since = same ∙ ap (since_replayed ws) gone;
          marked = λ i small on. ⊎_elim (λ e. absurd (not_covered (sym (clean i gone) ∙ e))) (λ e. e) (is.marked i small on);
        } in
        ⊎_elim (λ e. inl (same ∙ ap (since_replayed ws) e)) (λ gone. inr (inl (anew (⊎_elim (λ only. only.since) (λ e. e) gone)))) first.since)
        (λ gone. inr gone)
        is.since;
  }

-- ONE RUN AFTER ANOTHER
module _ (g : Geometry) (all a b : PartRecords) (together : AreTogether all a b) where
  pub redone_then : (m m1 m2 : Units) → ((c i : ℕ) → m1.band_since c ≡ None → m1.marked c i ≡ false) → IsRedone g a m m1 → IsRedone g b m1 m2 → IsRedone g all m m2
  redone_then m m1 m2 clean first second = record {
    pages = λ n lt. ⊎_elim
        (λ is. subst (λ (rs : List OnPage). IsPageRedone n rs m m2) (sym is.1) (page_after n (a.page n) m m1 m2 (first.pages n lt) (subst (λ (rs : List OnPage). IsPageRedone n rs m1 m2) is.0 (second.pages n lt))))
        (λ is. subst (λ (rs : List OnPage). IsPageRedone n rs m m2) (sym is.1) (page_before n (b.page n) m m1 m2 (subst (λ (rs : List OnPage). IsPageRedone n rs m m1) is.0 (first.pages n lt)) (second.pages n lt)))
        (together.page n);
    bands = λ n lt. ⊎_elim
        (λ is. subst (λ (ws : List OnWindow). IsBandRedone n ws m m2) (sym is.1) (band_after n (a.band n) m m1 m2 (first.bands n lt) (subst (λ (ws : List OnWindow). IsBandRedone n ws m1 m2) is.0 (second.bands n lt))))
        (λ is. subst (λ (ws : List OnWindow). IsBandRedone n ws m m2) (sym is.1) (band_before n (b.band n) m m1 m2 (clean n) (subst (λ (ws : List OnWindow). IsBandRedone n ws m m1) is.0 (first.bands n lt)) (second.bands n lt)))
        (together.band n);
  }

-- where the second run came to an end in its midst
module _ (g : Geometry) (all a b : PartRecords) (together : AreTogether all a b) (some : PartRecords) (whole : AreWhole some b) where
  page_less : (n : ℕ) → b.page n ≡ [] → some.page n ≡ []
  page_less n is = ⊎_elim (λ s. s ∙ is) (λ s. s) (whole.page n)

  band_less : (n : ℕ) → b.band n ≡ [] → some.band n ≡ []
  band_less n is = ⊎_elim (λ s. s ∙ is) (λ s. s) (whole.band n)

  abbrev sum : PartRecords
  sum = record { page = λ n. a.page n ++ some.page n; band = λ n. a.band n ++ some.band n }

  page_alone : (n : ℕ) → some.page n ≡ [] → a.page n ++ some.page n ≡ a.page n
  page_alone n e = ap (λ (l : List OnPage). a.page n ++ l) e ∙ append-nil (a.page n)

  band_alone : (n : ℕ) → some.band n ≡ [] → a.band n ++ some.band n ≡ a.band n
  band_alone n e = ap (λ (l : List OnWindow). a.band n ++ l) e ∙ append-nil (a.band n)

  page_late : (n : ℕ) → a.page n ≡ [] → a.page n ++ some.page n ≡ some.page n
  page_late n e = ap (λ (l : List OnPage). l ++ some.page n) e

  band_late : (n : ℕ) → a.band n ≡ [] → a.band n ++ some.band n ≡ some.band n
  band_late n e = ap (λ (l : List OnWindow). l ++ some.band n) e

  sum_together : AreTogether sum a some
  sum_together = record {
    page = λ n. ⊎_elim (λ is. let e = page_less n is.0 in inl (e, page_alone n e)) (λ is. inr (is.0, page_late n is.0)) (together.page n);
    band = λ n. ⊎_elim (λ is. let e = band_less n is.0 in inl (e, band_alone n e)) (λ is. inr (is.0, band_late n is.0)) (together.band n);
  }

  sum_whole : AreWhole sum all
  sum_whole = record {
    page = λ n. ⊎_elim
        (λ is. inl (page_alone n (page_less n is.0) ∙ sym is.1))
        (λ is. ⊎_elim (λ s. inl (page_late n is.0 ∙ (s ∙ sym is.1))) (λ s. inr (page_late n is.0 ∙ s)) (whole.page n))
        (together.page n);
    band = λ n. ⊎_elim
        (λ is. inl (band_alone n (band_less n is.0) ∙ sym is.1))
        (λ is. ⊎_elim (λ s. inl (band_late n is.0 ∙ (s ∙ sym is.1))) (λ s. inr (band_late n is.0 ∙ s)) (whole.band n))
        (together.band n);
  }

  pub partly_then : (m m1 m2 : Units) → ((c i : ℕ) → m1.band_since c ≡ None → m1.marked c i ≡ false) → IsRedone g a m m1 → IsRedone g some m1 m2 → ArePartlyRedone g all m m2
  partly_then m m1 m2 clean first second = (sum, sum_whole, redone_then g sum a some sum_together m m1 m2 clean first second)

-- the records of either run are whole among those of both
module _ (all a b : PartRecords) (together : AreTogether all a b) where
  pub first_whole : AreWhole a all
  first_whole = record {
    page = λ n. ⊎_elim (λ is. inl (sym is.1)) (λ is. inr is.0) (together.page n);
    band = λ n. ⊎_elim (λ is. inl (sym is.1)) (λ is. inr is.0) (together.band n);
  }

  pub second_whole : AreWhole b all
  second_whole = record {
    page = λ n. ⊎_elim (λ is. inr is.0) (λ is. inl (sym is.1)) (together.page n);
    band = λ n. ⊎_elim (λ is. inr is.0) (λ is. inl (sym is.1)) (together.band n);
  }

pub whole_of_whole : (some part all : PartRecords) → AreWhole some part → AreWhole part all → AreWhole some all
whole_of_whole some part all first second = record {
  page = λ n. ⊎_elim (λ e. ⊎_elim (λ f. inl (e ∙ f)) (λ f. inr (e ∙ f)) (second.page n)) (λ e. inr e) (first.page n);
  band = λ n. ⊎_elim (λ e. ⊎_elim (λ f. inl (e ∙ f)) (λ f. inr (e ∙ f)) (second.band n)) (λ e. inr e) (first.band n);
}

pub none_whole : (all : PartRecords) → AreWhole none all
none_whole all = record { page = λ n. inr refl; band = λ b. inr refl }

-- UNITS THAT WENT HOME are repeated with no records
pub cleaned_redone : (g : Geometry) (m m' : Units) → IsCleaned g m m' → IsRedone g none m m'
cleaned_redone g m m' cleaned = record {
  pages = λ n lt. record { page = cleaned.page n lt; since = ⊎_elim (λ e. inl e) (λ e. inr (inr e)) (cleaned.page_since n lt) };
  bands = λ b lt. record {
    byte = λ i small. cleaned.byte b i lt small;
    marked = λ i small on. ⊎_elim (λ e. inl (sym e ∙ on)) (λ e. absurd (not_covered (sym e ∙ on))) (cleaned.marked b i);
    since = ⊎_elim (λ e. inl e) (λ e. inr (inr e)) (cleaned.band_since b);
  };
}

-- these are all records of page p, and there are no others
pub record IsOfPage (g : Geometry) (p : ℕ) (rs : List OnPage) (only : PartRecords) : Type 0 where
  pub its : only.page p ≡ rs
  pub pages : (n : ℕ) → n ≢ p → only.page n ≡ []
  pub bands : (b : ℕ) → only.band b ≡ []

-- of band b
pub record IsOfBand (g : Geometry) (b : ℕ) (ws : List OnWindow) (only : PartRecords) : Type 0 where
  pub its : only.band b ≡ ws
  pub bands : (c : ℕ) → c ≢ b → only.band c ≡ []
  pub pages : (n : ℕ) → n < g.pages → only.page n ≡ []

same_page : (n : ℕ) (m m' : Units) → m'.page n ≡ m.page n → m'.page_since n ≡ m.page_since n → IsPageRedone n [] m m'
same_page n m m' page since = record { page = page; since = inl since }

same_band : (b : ℕ) (m m' : Units) → ((i : ℕ) → m'.byte b i ≡ m.byte b i) → ((i : ℕ) → m'.marked b i ≡ m.marked b i) → m'.band_since b ≡ m.band_since b → IsBandRedone b [] m m'
same_band b m m' byte marked since = record { byte = λ i small. byte i; marked = λ i small on. inl (sym (marked i) ∙ on); since = inl since }

pub page_redone : (g : Geometry) (p : ℕ) (rs : List OnPage) (only : PartRecords) (m m' : Units) → IsOfPage g p rs only → IsPageRepeated p rs m m' → IsRedone g only m m'
page_redone g p rs only m m' of_page is = record {
  pages = λ n lt. ⊎_elim
      (λ same. subst (λ (k : ℕ). IsPageRedone k (only.page k) m m') (sym same) (subst (λ (l : List OnPage). IsPageRedone p l m m') (sym of_page.its) (record { page = is.page; since = inl is.since })))
      (λ differ. subst (λ (l : List OnPage). IsPageRedone n l m m') (sym (of_page.pages n differ)) (same_page n m m' (is.other_pages n differ) (is.other_sinces n differ)))
      (cases_eq n p);
  bands = λ b lt. subst (λ (l : List OnWindow). IsBandRedone b l m m') (sym (of_page.bands b)) (same_band b m m' (is.byte b) (is.marked b) (is.band_since b));
}

either_true : (x y : Bool) → (x || y) ≡ true → (x ≡ true) ⊎ (y ≡ true)
either_true true y e = inl refl
either_true false y e = inr e

pub band_redone : (g : Geometry) (b : ℕ) (ws : List OnWindow) (only : PartRecords) (m m' : Units) → IsOfBand g b ws only → IsBandRepeated b ws m m' → IsRedone g only m m'
band_redone g b ws only m m' of_band is = record {
  pages = λ n lt. subst (λ (l : List OnPage). IsPageRedone n l m m') (sym (of_band.pages n lt)) (same_page n m m' (is.page n) (is.page_since n));
  bands = λ c lt. ⊎_elim
      (λ same. subst (λ (k : ℕ). IsBandRedone k (only.band k) m m') (sym same) (subst (λ (l : List OnWindow). IsBandRedone b l m m') (sym of_band.its)
      (record { byte = is.byte; marked = λ i small on. either_true (m.marked b i) (is_covered (on_byte i ws)) (sym (is.marked i small) ∙ on); since = inl is.since })))
      (λ differ. subst (λ (l : List OnWindow). IsBandRedone c l m m') (sym (of_band.bands c differ)) (same_band c m m' (λ i. is.other_bytes c i differ) (λ i. is.other_marks c i differ) (is.other_sinces c differ)))
      (cases_eq c b);
}

-- units that went home before
pub cleaned_then : (g : Geometry) (only : PartRecords) (m mid m' : Units) → ((b i : ℕ) → mid.band_since b ≡ None → mid.marked b i ≡ false) → IsCleaned g m mid → IsRedone g only mid m' → IsRedone g only m m'
cleaned_then g only m mid m' clean cleaned is = redone_then g only none only (record { page = λ n. inr (refl, refl); band = λ b. inr (refl, refl) }) m mid m' clean (cleaned_redone g m mid cleaned) is

-- THE HOMES: units went home, where this home area has them, and then no page lost its oldest change
pub homes_known : (g : Geometry) (home : Part) (rs : PartRecords) (m mid m' : Units) → IsCleaned g m mid → IsBacked g home mid → ((n x : ℕ) → n < g.pages → mid.page_since n ≡ Some x → m'.page_since n ≡ Some x) → AreHomesKnown g home rs m m'
homes_known g home rs m mid m' cleaned backed kept n lt = ⊎_elim
    (λ gone. inr (inl (backed.pages n lt gone ∙ cleaned.page n lt)))
    (λ some. ⊎_elim
    (λ same. inl (kept n some.0 lt some.1 ∙ (sym some.1 ∙ same)))
    (λ gone. absurd (none_is_some some.0 (sym gone ∙ some.1)))
    (cleaned.page_since n lt))
    (none_or_some (mid.page_since n))

-- a page that has an oldest change keeps it
pub since_kept : (rs : List OnPage) (page : List ℕ) (x : ℕ) → since_repeated rs page (Some x) ≡ Some x
since_kept [] page x = refl
since_kept (r ∷ rs) page x = ap (since_repeated rs (redone r page)) (either (applies r page)) ∙ since_kept rs (redone r page) x
  where
    either : (b : Bool) → (if b then Some x else Some x) ≡ Some x
    either true = refl
    either false = refl

pub page_kept : (p : ℕ) (rs : List OnPage) (m m' : Units) → IsPageRepeated p rs m m' → (n x : ℕ) → m.page_since n ≡ Some x → m'.page_since n ≡ Some x
page_kept p rs m m' is n x some = ⊎_elim
    (λ same. ap m'.page_since same ∙ (is.since ∙ (ap (since_repeated rs (m.page p)) (ap m.page_since (sym same) ∙ some) ∙ since_kept rs (m.page p) x)))
    (λ differ. is.other_sinces n differ ∙ some)
    (cases_eq n p)

-- THE NUMBERS: what each record makes of a page has its number, which is below the tail
abbrev pub AreNumbered : ℕ → List OnPage → Type 0
AreNumbered tail [] = Unit {0}
AreNumbered tail (r ∷ rs) = (SetsNumber r × (r.lsn < tail)) × AreNumbered tail rs

numbered-append : (tail : ℕ) (rs more : List OnPage) → AreNumbered tail rs → AreNumbered tail more → AreNumbered tail (rs ++ more)
numbered-append tail [] more first second = second
numbered-append tail (r ∷ rs) more first second = (first.0, numbered-append tail rs more first.1 second)

part_numbered : (t : Table) (tail lsn : ℕ) (change : Option Change) → tail ≤ 2 ^ 64 → lsn < tail → AreNumbered tail (page_part t lsn change)
unfolding page_part
part_numbered t tail lsn None most small = tt
part_numbered t tail lsn (Some (Page c)) most small = ((record_sets t lsn (op_said c) (omega (arith, most, small)), small), tt)
part_numbered t tail lsn (Some (SegWrite c)) most small = tt
part_numbered t tail lsn (Some (SegOp c)) most small = tt

pub records_numbered : (t : Table) (text : List ℕ) (tail : ℕ) (places : List Place) → tail ≤ 2 ^ 64 → ArePlacesBelow tail places → AreNumbered tail (page_records t text places)
unfolding page_records
records_numbered t text tail [] most below = tt
records_numbered t text tail (p ∷ places) most below =
    numbered-append tail (page_part t p.lsn (change_at text p.at)) (page_records t text places) (part_numbered t tail p.lsn (change_at text p.at) most (below 0 p (omega arith))) (records_numbered t text tail places most (λ k d lt. below (suc k) d (omega (arith, lt))))

-- a record that is done sets it
done_number : (r : OnPage) (page : List ℕ) → SetsNumber r → applies r page ≡ true → lsn_of (redone r page) ≡ r.lsn
unfolding redone
done_number r page sets is = either (nat_lt (lsn_of page) r.lsn) (r.makes page) (sets.sets page) is
  where
    either : (b : Bool) (o : Option (List ℕ)) → IfSome o (λ new. lsn_of new ≡ r.lsn) → (b && is_some o) ≡ true → lsn_of (if b then unwrap_or o page else page) ≡ r.lsn
    either true None set so = absurd (not_covered so)
    either true (Some new) set so = set
    either false o set so = absurd (not_covered so)

pub below_repeated : (tail : ℕ) (rs : List OnPage) (page : List ℕ) (since : Option ℕ) → AreNumbered tail rs → ((o : ℕ) → since ≡ Some o → lsn_of page < tail) → (o : ℕ) → since_repeated rs page since ≡ Some o → lsn_of (repeated rs page) < tail
below_repeated tail [] page since numbered below o some = below o some
below_repeated tail (r ∷ rs) page since numbered below o some =
    let next : (x : ℕ) → since_after r page since ≡ Some x → lsn_of (redone r page) < tail = λ x is. ⊎_elim
    (λ done. subst (λ (n : ℕ). n < tail) (sym (done_number r page numbered.0.0 done)) numbered.0.1)
    (λ not. subst (λ (p : List ℕ). lsn_of p < tail) (sym (redone_same r page not)) (below x (sym (ap (λ (b : Bool). if b then Some (unwrap_or since r.lsn) else since) not) ∙ is)))
    (bool_cases (applies r page)) in
    below_repeated tail rs (redone r page) (since_after r page since) numbered.1 next o some

pub cleaned_below : (g : Geometry) (tail : ℕ) (m m' : Units) → IsCleaned g m m' → IsBelow g tail m → IsBelow g tail m'
cleaned_below g tail m m' cleaned below n o lt some = ⊎_elim
    (λ same. subst (λ (p : List ℕ). lsn_of p < tail) (sym (cleaned.page n lt)) (below n o lt (sym same ∙ some)))
    (λ gone. absurd (none_is_some o (sym gone ∙ some)))
    (cleaned.page_since n lt)

pub page_below : (g : Geometry) (tail p : ℕ) (rs : List OnPage) (m m' : Units) → IsPageRepeated p rs m m' → AreNumbered tail rs → p < g.pages → IsBelow g tail m → IsBelow g tail m'
page_below g tail p rs m m' is numbered within below n o lt some = ⊎_elim
    (λ same. subst (λ (k : ℕ). lsn_of (m'.page k) < tail) (sym same) (subst (λ (x : List ℕ). lsn_of x < tail) (sym is.page)
    (below_repeated tail rs (m.page p) (m.page_since p) numbered (λ x e. below p x within e) o (sym is.since ∙ (ap m'.page_since (sym same) ∙ some)))))
    (λ differ. subst (λ (x : List ℕ). lsn_of x < tail) (sym (is.other_pages n differ)) (below n o lt (sym (is.other_sinces n differ) ∙ some)))
    (cases_eq n p)

pub band_below : (g : Geometry) (tail b : ℕ) (ws : List OnWindow) (m m' : Units) → IsBandRepeated b ws m m' → IsBelow g tail m → IsBelow g tail m'
band_below g tail b ws m m' is below n o lt some = subst (λ (x : List ℕ). lsn_of x < tail) (sym (is.page n)) (below n o lt (sym (is.page_since n) ∙ some))
