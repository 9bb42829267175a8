-- What a space over an engine has, of the contents that its pages read as.
use Rattle.std.proofs.Common.{◌≡◌, ℕ, ◌+◌, ◌<◌, Bool, true, false, List, length, Option, Some, None, inl, inr, refl, sym, ap, ◌∙◌, subst, arith}
use Rattle.std.specs.Prelude.{if◌then◌else◌}
use Rattle.std.proofs.lemmas.Bool.{cases_Bool, cases_lt}
use Rattle.sg_alloc.specs.Flags.{free_of, map_bands_of}
use Rattle.sg_ops.specs.Table.{Table}
use Rattle.sg_action.specs.States.{State}
use Rattle.sg_actions.specs.Exact.{past}
use Rattle.sg_actions.specs.Steps.{repeated}
use Rattle.sg_actions.specs.Taken.{is_set, is_there, units_there}
use Rattle.sg_actions.proofs.Flags.{and_left, at_there}
use Rattle.sg_space.specs.View.{Space}
use Rattle.sg_contents.specs.Standing.{Contents, IsContents, AreInRange, map_bands}
use Rattle.sg_contents.specs.Meaning.{reading, IsCounted}
use Rattle.sg_reading.specs.Reading.{Reading}
use Rattle.sg_reader.specs.Alike.{ReadsAs, IsPartOf, space_of}
use Rattle.sg_reader.proofs.Decide.{reader}
use Rattle.sg_reader.proofs.Spaces.{state_reads, space_reads, reached_page, reached_band}
use Rattle.sg_store.specs.Engine.{Sizes, led, pages_of}
use Rattle.sg_ground.proofs.Lawful.{mapped}
use Rattle.sg_ground.specs.Clauses.{Shows}
use Rattle.sg_ground.specs.Recovers.{Recovering}
use Rattle.sg_shown.specs.Taken.{AreTaken, AreCounted, with_bytes}
use Rattle.sg_shown.specs.Shown.{Over, basis, basis_at, has_page, has_band, shown_of}
use Rattle.sg_shown.proofs.History.{made_is}
use Rattle.sg_shown.proofs.Places.{reached_page_too, reached_band_too, page_totals, band_totals}

-- the pages and bands that it has
abbrev pub space_in : Over → Space
space_in a = record {
  pages = units_there a.maps.pages a.unfreed.pages a.engine.now.pages;
  bands = units_there a.maps.bands a.unfreed.bands (λ b. Some (a.engine.now.bands b));
}

abbrev pub free_in : Over → ℕ
free_in a = free_of a.maps.pages + free_of a.unfreed.pages

abbrev pub free_bands_in : Over → ℕ
free_bands_in a = free_of a.maps.bands + free_of a.unfreed.bands

-- FLAGS

there_not : {A : Type 0} (taken unfreed : List Bool) (contents : ℕ → Option A) (n : ℕ) → ((units_there taken unfreed contents).at n ≡ None → ⊥) → is_there taken unfreed n ≡ true
there_not taken unfreed contents n h = elim (cases_Bool (is_there taken unfreed n)) [
  | inl e ↦ e
  | inr e ↦ absurd (h (ap (λ (b : Bool). if b then contents n else None) e))
]

below_of : (taken unfreed : List Bool) (n : ℕ) → is_there taken unfreed n ≡ true → n < length taken
below_of taken unfreed n e = elim (cases_lt n (length taken)) [
  | inl less ↦ less
  | inr far ↦ absurd (let z : true ≡ false = sym (and_left (is_set taken n) (is_set unfreed n) e) ∙ past taken n far in cc)
]

-- what it has of pages and bands is what the engine holds
pub part_of : (a : Over) → IsPartOf (space_in a) a.engine.now
part_of a = record {
  pages = λ p h. sym (at_there a.maps.pages a.unfreed.pages a.engine.now.pages p (there_not a.maps.pages a.unfreed.pages a.engine.now.pages p h));
  bands = λ b h. sym (at_there a.maps.bands a.unfreed.bands (λ n. Some (a.engine.now.bands n)) b (there_not a.maps.bands a.unfreed.bands (λ n. Some (a.engine.now.bands n)) b h));
}

pub page_below : (a : Over) (p : ℕ) → ((space_in a).pages.at p ≡ None → ⊥) → p < length a.maps.pages
page_below a p h = below_of a.maps.pages a.unfreed.pages p (there_not a.maps.pages a.unfreed.pages a.engine.now.pages p h)

pub band_below : (a : Over) (b : ℕ) → ((space_in a).bands.at b ≡ None → ⊥) → b < length a.maps.bands
band_below a b h = below_of a.maps.bands a.unfreed.bands b (there_not a.maps.bands a.unfreed.bands (λ n. Some (a.engine.now.bands n)) b h)

pub in_range : (a : Over) (s : Contents) → IsContents (space_in a) s → AreInRange (length a.maps.pages) (length a.maps.bands) s
in_range a s h = record {
  page = λ p o. page_below a p (reached_page (space_in a) s h p o);
  band = λ b o. band_below a b (reached_band (space_in a) s h b o);
}

moved : (x : State) (s : Contents) (p p' q q' : ℕ) → p ≡ p' → q ≡ q' → ReadsAs p q x s → ReadsAs p' q' x s
moved x s p p' q q' e f r = subst (λ (n : ℕ). ReadsAs p' n x s) f (subst (λ (n : ℕ). ReadsAs n q x s) e r)

-- WHAT IT SHOWS THE STORE is what it has
module _ (recovers : Recovering) (a : Over) (t : Table) (z : Sizes) (from : State) (pages : length a.maps.pages ≡ z.pages) (bands : length a.maps.bands ≡ z.bands) (now : a.engine.now ≡ repeated t from a.engine.steps) where
  -- what the store says that the engine's pages and bands hold
  pub holds : pages_of t (basis recovers z) (led t z from (shown_of recovers a)) ≡ a.engine.now
  holds = made_is recovers t z from a.engine.steps ∙ sym now

  pub shows : Shows (basis_at recovers z) t (led t z from (shown_of recovers a)) (space_in a)
  shows = record {
    pages = pages;
    bands = bands;
    part = subst (λ (x : State). IsPartOf (space_in a) x) (sym holds) (part_of a);
    page_below = page_below a;
    band_below = band_below a;
    free_pages = refl;
    free_bands = refl;
  }

  -- CONTENTS IN THE SPACE, of what the pages read as
  pub contents_in : (r : Reading) → (basis recovers z).reading (pages_of t (basis recovers z) (led t z from (shown_of recovers a))) ≡ Some r → AreTaken z (has_page a) (has_band a) a.engine.now.pages → AreCounted z (free_in a) (free_bands_in a) a.engine.now.pages
      → ((b : ℕ) → b < map_bands_of z.pages z.bands → has_band a b ≡ true) → (s : Contents) × IsContents (space_in a) s × IsCounted (space_in a) s × (reading s ≡ r)
  contents_in r e taken counted map =
      let x : State = a.engine.now in
      let m = mapped reading ((reader z.pages z.bands).contents x) r (sym (ap (basis recovers z).reading holds) ∙ e) in
      let k : ReadsAs z.pages z.bands x m.0 = (reader z.pages z.bands).sound x m.0 m.1 in
      let k' : ReadsAs (length a.maps.pages) (length a.maps.bands) x m.0 = moved x m.0 z.pages (length a.maps.pages) z.bands (length a.maps.bands) (sym pages) (sym bands) k in
      let same : map_bands (space_in a) ≡ map_bands_of z.pages z.bands = λ i. map_bands_of (pages i) (bands i) in (
        m.0,
        space_reads (space_in a) x m.0 k' (record {
          pages = λ p o. at_there a.maps.pages a.unfreed.pages x.pages p (taken.pages x.size x.bands m.0 k p o);
          bands = λ b o. at_there a.maps.bands a.unfreed.bands (λ n. Some (x.bands n)) b (taken.bands x.size x.bands m.0 k b o);
          map = λ b less none. some_there b (map b (subst (λ (n : ℕ). b < n) same less)) none;
        }),
        record {
          pages = (let c = counted.pages x.size x.bands m.0 k in omega (arith, c, pages));
          bands = (let c = counted.bands x.size x.bands m.0 k in omega (arith, c, bands, same));
        },
        m.2,
      )
    where
      some_there : (b : ℕ) → has_band a b ≡ true → (space_in a).bands.at b ≡ None → ⊥
      some_there b there none = let z : ◌≡◌ {A = Option (List ℕ)} (Some (a.engine.now.bands b)) None = sym (at_there a.maps.bands a.unfreed.bands (λ n. Some (a.engine.now.bands n)) b there) ∙ none in cc

-- AND THE OTHER WAY ROUND: where contents stand in it, what the pages reach is taken, and nothing else
module _ (a : Over) (z : Sizes) (s : Contents) (pages : length a.maps.pages ≡ z.pages) (bands : length a.maps.bands ≡ z.bands) (h : IsContents (space_in a) s) where
  pub own_reads : ReadsAs z.pages z.bands a.engine.now s
  own_reads = moved a.engine.now s (length a.maps.pages) z.pages (length a.maps.bands) z.bands pages bands (state_reads (space_in a) a.engine.now s h (part_of a) (in_range a s h))

  pub taken_now : AreTaken z (has_page a) (has_band a) a.engine.now.pages
  taken_now = record {
    pages = λ size bytes s' k p o. there_not a.maps.pages a.unfreed.pages a.engine.now.pages p (reached_page (space_in a) s h p
        (reached_page_too (space_of z.pages z.bands a.engine.now) (space_of z.pages z.bands (with_bytes size a.engine.now.pages bytes)) s s' own_reads.contents k.contents refl p o));
    bands = λ size bytes s' k b o. there_not a.maps.bands a.unfreed.bands (λ n. Some (a.engine.now.bands n)) b (reached_band (space_in a) s h b
        (reached_band_too (space_of z.pages z.bands a.engine.now) (space_of z.pages z.bands (with_bytes size a.engine.now.pages bytes)) s s' own_reads.contents k.contents refl b o));
  }

  pub counted_now : IsCounted (space_in a) s → AreCounted z (free_in a) (free_bands_in a) a.engine.now.pages
  counted_now c = record {
    pages = λ size bytes s' k.
        let total = page_totals (space_of z.pages z.bands a.engine.now) (space_of z.pages z.bands (with_bytes size a.engine.now.pages bytes)) s s' own_reads.contents k.contents refl in
        let l = c.pages in omega (arith, total, l, pages);
    bands = λ size bytes s' k.
        let total = band_totals (space_of z.pages z.bands a.engine.now) (space_of z.pages z.bands (with_bytes size a.engine.now.pages bytes)) s s' own_reads.contents k.contents refl in
        let same : map_bands (space_in a) ≡ map_bands_of z.pages z.bands = λ i. map_bands_of (pages i) (bands i) in
        let l = c.bands in omega (arith, total, l, same, bands);
  }

  pub map_now : (b : ℕ) → b < map_bands_of z.pages z.bands → has_band a b ≡ true
  map_now b less =
      let same : map_bands (space_in a) ≡ map_bands_of z.pages z.bands = λ i. map_bands_of (pages i) (bands i) in
      there_not a.maps.bands a.unfreed.bands (λ n. Some (a.engine.now.bands n)) b (h.map b (subst (λ (n : ℕ). b < n) (sym same) less))
