-- What a space of an engine reads as, its state reads as; and what a taken-off action leaves can't be told from its begin.
use Rattle.std.proofs.Common.{◌≡◌, ℕ, ◌<◌, ◌≤◌, inl, inr, List, Option, Some, None, refl, sym, ap, ◌∙◌, subst}
use Rattle.sg_action.specs.States.{State, Kept, Alike, leaf_count}
use Rattle.sg_space.specs.View.{Space}
use Rattle.sg_contents.specs.Standing.{Contents, IsContents, IsReachedPage, IsReachedBand, AreInRange, map_bands}
use Rattle.sg_contents.proofs.Standing.{body_stays, catalog_stays, page_there, band_there, not_there}
use Rattle.sg_contents.specs.Limits.{limit}
use Rattle.sg_reader.specs.Alike.{space_of, ReadsAs, IsAlike, IsPartOf, HasReached}
use Rattle.sg_reader.specs.Reader.{Reader, limits_in, KeepsReached}

-- contents move to a space that says the same of what they reach
pub contents_move : (old new : Space) (s : Contents) → IsContents old s → map_bands new ≡ map_bands old → ((p : ℕ) → IsReachedPage s p → new.pages.at p ≡ old.pages.at p) → ((b : ℕ) → IsReachedBand s b → new.bands.at b ≡ old.bands.at b)
    → ((b : ℕ) → b < map_bands new → new.bands.at b ≡ None → ⊥) → IsContents new s
contents_move old new s h counts pages bands map = record {
  catalog = catalog_stays h.catalog (λ p o. pages p (inl o));
  body = λ row a. body_stays old new row.kind row.root.0 (s.body row.root.0) (h.body row a) (λ p o. pages p (inr (record { row = row; among = a; is = o }))) (λ n o. bands n (record { row = row; among = a; is = o }));
  once = h.once;
  beside = h.beside;
  apart = h.apart;
  bands_apart = h.bands_apart;
  behind_map = λ row a n o. subst (λ k. k ≤ n) (sym counts) (h.behind_map row a n o);
  map = map;
}

-- what is reached is there
pub reached_page : (space : Space) (s : Contents) → IsContents space s → (p : ℕ) → IsReachedPage s p → space.pages.at p ≡ None → ⊥
reached_page space s h p (inl o) none = not_there none (h.catalog.raw.page o.0 p o.1) refl
reached_page space s h p (inr o) none = page_there space o.row.kind o.row.root.0 (s.body o.row.root.0) (h.body o.row o.among) p o.is none

pub reached_band : (space : Space) (s : Contents) → IsContents space s → (b : ℕ) → IsReachedBand s b → space.bands.at b ≡ None → ⊥
reached_band space s h b o none = band_there space o.row.kind o.row.root.0 (s.body o.row.root.0) (h.body o.row o.among) b o.is none

-- WHAT A SPACE READS AS, its state reads as,
pub state_reads : (space : Space) (x : State) (s : Contents) → IsContents space s → IsPartOf space x → AreInRange space.pages.count space.bands.count s → ReadsAs space.pages.count space.bands.count x s
state_reads space x s h part range = record {
  contents = contents_move space (space_of space.pages.count space.bands.count x) s h refl
      (λ p o. part.pages p (reached_page space s h p o)) (λ b o. part.bands b (reached_band space s h b o))
      (λ b less none. absurd (let z : ◌≡◌ {A = Option (List ℕ)} (Some (x.bands b)) None = none in cc));
  range = range;
}

-- and what a state reads as, a space that has what is reached
pub space_reads : (space : Space) (x : State) (s : Contents) → ReadsAs space.pages.count space.bands.count x s → HasReached space x s → IsContents space s
space_reads space x s r has = contents_move (space_of space.pages.count space.bands.count x) space s r.contents refl has.pages has.bands has.map

-- WHAT A TAKEN-OFF ACTION LEAVES can't be told from its begin, where all that was reached was taken then, with these limits
pub kept_alike : (pages bands : ℕ) (reader : Reader pages bands) (kept : Kept) (begin end : State) (s : Contents) → reader.contents begin ≡ Some s → KeepsReached reader kept begin s → Alike kept end begin → IsAlike s begin end
kept_alike pages bands reader kept begin end s e k h = record {
  pages = record {
    seen_same = λ p o. h.pages p (k.pages p o);
    slots = λ p o few.
        let same : kept.slots p ≡ limit s begin.pages p = k.slots p o ∙ ap (λ (c : Option Contents). limits_in c begin p) e in
        subst (λ n. leaf_count (end.pages p) ≤ n) same (h.slots p (k.pages p o) (subst (λ n. leaf_count (begin.pages p) ≤ n) (sym same) few));
  };
  bands = λ b o. h.bands b (k.bands b o);
}
