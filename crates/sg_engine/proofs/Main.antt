-- Each home that is repeatable is sound, and comes to what the records make.
use Rattle.std.proofs.Common.{◌≡◌, ◌⊎◌, inl, inr, ⊎_elim, ◌<◌, ◌≤◌, ℕ, List, ◌++◌, sym, ◌∙◌, ap, subst, arith}
use Rattle.sg_redo.specs.History.{OnPage, OnByte, number_of, repeated, rewritten, AllSetNumber, AllFit}
use Rattle.sg_engine.specs.Numbers.{below, onward, Rises, AllFrom, IsDurable}
use Rattle.sg_base.specs.declared.page.TheConstants.{BAND_SIZE}
use Rattle.sg_pool.specs.Units.{Geometry, EachPage}
use Rattle.sg_pool.specs.Well.{IsWell}
use Rattle.sg_engine.specs.History.{Entry, Homes, entry_number, byte_number, page_change, byte_change, of_page, of_byte, RepeatsTo, IsNumbered, IsIn, IsCoveredFrom, IsSound, AllWell, AllThere, IsHistory}
use Rattle.sg_engine.specs.Kept.{IsKept}
use Rattle.sg_engine.proofs.Pages.{version_repeats, version_fits, version_is_in, from_there, well_version, well_front, version_well}
use Rattle.sg_engine.proofs.Bytes.{byte_repeats, byte_is_last, covered_less}
use Rattle.sg_engine.proofs.Units.{page_one, byte_one, rises_parts, from_parts, append_parts, rises_front, sets_front, fit_front, durable_front, below_front, durable_self, covered_below, number_within, fit_onward, there_front}

module _ (g : Geometry) (first h : Homes) (all ds more : List Entry) (d r tail : ℕ) (ep eb : ℕ → ℕ) (history : IsHistory g first all) (kept : IsKept g first all d ep eb h)
    (front : all ≡ ds ++ more) (later : AllFrom entry_number d more) (early_pages : EachPage g (λ n. r ≤ ep n)) (early_bands : (b : ℕ) → b < g.bands → r ≤ eb b) (within : d ≤ tail) (start : EachPage g (λ n. IsNumbered d (first.page n))) where
  -- one page
  module _ (n : ℕ) (lt : n < g.pages) where
    part : List Entry → List OnPage
    part es = of_page n es

    split : of_page n all ≡ of_page n ds ++ of_page n more
    split = ap (of_page n) front ∙ append_parts number_of (λ e. page_change n e.lsn e.effect) (λ e. page_one n e.lsn e.effect) ds more

    from : AllFrom number_of d (of_page n more)
    from = from_parts number_of (λ e. page_change n e.lsn e.effect) (λ e. page_one n e.lsn e.effect) d more later

    rises : Rises number_of 1 (of_page n ds)
    rises = rises_front number_of 1 (of_page n ds) (of_page n more) (rw split at (rises_parts number_of (λ e. page_change n e.lsn e.effect) (λ e. page_one n e.lsn e.effect) 1 all history.rises))

    sets : AllSetNumber (of_page n ds)
    sets = sets_front (of_page n ds) (of_page n more) (rw split at (history.sets n lt))

    fit : AllFit (of_page n ds) (first.page n)
    fit = fit_front (of_page n ds) (of_page n more) (first.page n) (rw split at (history.fits n lt))

    well : AllWell (of_page n ds) (first.page n)
    well = well_front (of_page n ds) (of_page n more) (first.page n) (rw split at (history.well n lt))

    cut : ℕ
    cut = (kept.pages n lt).cut

    durable : IsDurable number_of d (kept.pages n lt).cut (of_page n ds ++ of_page n more)
    durable = rw split at ((kept.pages n lt).durable)

    is : h.page n ≡ repeated (below number_of (kept.pages n lt).cut (of_page n ds)) (first.page n)
    is = (kept.pages n lt).is ∙ ap (λ (l : List OnPage). repeated (below number_of (kept.pages n lt).cut l) (first.page n)) split
        ∙ ap (λ (l : List OnPage). repeated l (first.page n)) (below_front number_of d (kept.pages n lt).cut (of_page n ds) (of_page n more) durable from)

    late : r ≤ (kept.pages n lt).cut
    late = let low = (kept.pages n lt).late in let more_low = early_pages n lt in omega arith

    pub page_is_in : IsIn r (of_page n ds) (h.page n)
    page_is_in = subst (λ (p : List ℕ). IsIn r (of_page n ds) p) (sym is) (version_is_in r (kept.pages n lt).cut 1 (of_page n ds) (first.page n) late sets rises fit)

    page_fits : AllFit (of_page n ds) (h.page n)
    page_fits = subst (λ (p : List ℕ). AllFit (of_page n ds) p) (sym is) (version_fits (kept.pages n lt).cut 1 (of_page n ds) (first.page n) sets rises fit)

    pub page_fits_onward : AllFit (onward number_of r (of_page n ds)) (h.page n)
    page_fits_onward = fit_onward r (of_page n ds) (h.page n) sets page_fits page_is_in

    pub page_comes : repeated (onward number_of r (of_page n ds)) (h.page n) ≡ repeated (of_page n ds) (first.page n)
    page_comes = from_there r (of_page n ds) (h.page n) sets page_fits page_is_in ∙ ap (repeated (of_page n ds)) is ∙ version_repeats (kept.pages n lt).cut 1 (of_page n ds) (first.page n) sets rises fit

    pub page_well : IsWell (h.page n)
    page_well = subst IsWell (sym is) (well_version (kept.pages n lt).cut 1 (of_page n ds) (first.page n) rises well)

    pub page_all_fit : AllFit (of_page n ds) (h.page n)
    page_all_fit = page_fits

    pub page_all_set : AllSetNumber (of_page n ds)
    page_all_set = sets

    pub page_all_well : AllWell (of_page n ds) (h.page n)
    page_all_well = subst (λ (p : List ℕ). AllWell (of_page n ds) p) (sym is) (version_well (kept.pages n lt).cut 1 (of_page n ds) (first.page n) sets rises fit well)

    pub page_within : IsNumbered tail (h.page n)
    page_within =
        let low = number_within d (kept.pages n lt).cut (of_page n ds) (first.page n) sets (durable_front number_of d (kept.pages n lt).cut (of_page n ds) (of_page n more) durable) (start n lt) in
        subst (λ (p : List ℕ). IsNumbered tail p) (sym is) (⊎_elim (λ none. inl none) (λ below. inr (omega arith)) low)

  -- one byte
  module _ (b i : ℕ) (is_band : b < g.bands) (is_byte : i < BAND_SIZE) where
    split_byte : of_byte b i all ≡ of_byte b i ds ++ of_byte b i more
    split_byte = ap (of_byte b i) front ∙ append_parts byte_number (λ e. byte_change b i e.lsn e.effect) (λ e. byte_one b i e.lsn e.effect) ds more

    from_byte : AllFrom byte_number d (of_byte b i more)
    from_byte = from_parts byte_number (λ e. byte_change b i e.lsn e.effect) (λ e. byte_one b i e.lsn e.effect) d more later

    rises_byte : Rises byte_number 1 (of_byte b i ds)
    rises_byte = rises_front byte_number 1 (of_byte b i ds) (of_byte b i more) (rw split_byte at (rises_parts byte_number (λ e. byte_change b i e.lsn e.effect) (λ e. byte_one b i e.lsn e.effect) 1 all history.rises))

    -- a version of the durable records, or covered by them
    either : (cut : ℕ) × (r ≤ cut) × ((h.byte b i ≡ rewritten (below byte_number cut (of_byte b i ds)) (first.byte b i)) ⊎ IsCoveredFrom r (of_byte b i ds))
    either = ⊎_elim
        (λ v. let low = v.late in let more_low = early_bands b is_band in (
          v.cut,
          omega arith,
          inl (v.is ∙ ap (λ (l : List OnByte). rewritten (below byte_number v.cut l) (first.byte b i)) split_byte
              ∙ ap (λ (l : List OnByte). rewritten l (first.byte b i)) (below_front byte_number d v.cut (of_byte b i ds) (of_byte b i more) (subst (λ (l : List OnByte). IsDurable byte_number d v.cut l) split_byte v.durable) from_byte)),
        ))
        (λ covered. (
          r,
          omega arith,
          inr (covered_less r (eb b) (of_byte b i ds) (early_bands b is_band) (covered_below (eb b) d (of_byte b i ds)
              (subst (λ (l : List OnByte). IsCoveredFrom (eb b) l) (ap (below byte_number d) split_byte ∙ below_front byte_number d d (of_byte b i ds) (of_byte b i more) (durable_self byte_number d (of_byte b i ds ++ of_byte b i more)) from_byte) covered))),
        ))
        (kept.bytes b i is_band is_byte)

    pub byte_comes : rewritten (onward byte_number r (of_byte b i ds)) (h.byte b i) ≡ rewritten (of_byte b i ds) (first.byte b i)
    byte_comes = byte_repeats r either.0 1 (of_byte b i ds) (h.byte b i) (first.byte b i) rises_byte either.1 either.2

    pub byte_last : (IsCoveredFrom r (of_byte b i ds) → ⊥) → rewritten (of_byte b i ds) (h.byte b i) ≡ h.byte b i
    byte_last bare = byte_is_last r either.0 (of_byte b i ds) (h.byte b i) (first.byte b i) either.1 either.2 bare

  pub sound : IsSound g r tail ds h
  sound = record { is_in = page_is_in; well = page_well; within = page_within; fits = page_fits_onward; last = byte_last }

  pub comes : RepeatsTo g r ds first h
  comes = record { pages = page_comes; bytes = byte_comes }

  -- the home is a first home of these records
  pub again : IsHistory g h ds
  again = record {
    rises = rises_front entry_number 1 ds more (subst (λ (l : List Entry). Rises entry_number 1 l) front history.rises);
    sets = page_all_set;
    fits = page_all_fit;
    well = page_all_well;
    there = there_front g ds more (subst (λ (l : List Entry). AllThere g l) front history.there);
  }
