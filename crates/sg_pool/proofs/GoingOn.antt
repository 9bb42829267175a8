-- Units go home one after another: each moment goes as it may, from what stood at first.
use Rattle.std.proofs.Common.{◌≡◌, ◌⊎◌, inl, inr, ⊎_elim, ◌<◌, ◌≤◌, ◌+◌, ℕ, true, List, length, get_or, refl, ◌∙◌, subst, arith}
use Rattle.sg_base.specs.Page.{lsn_of}
use Rattle.sg_disk.specs.Disk.{Bytes, State, Image}
use Rattle.sg_base.specs.declared.area.Area.TheVariants.{Home}
use Rattle.sg_gate.specs.Layout.{PAGE, HOMES, place_at, home_at}
use Rattle.sg_gate.specs.Batch.{over, laid, IsBatch, IsWhole}
use Rattle.sg_gate.proofs.Over.{over_out}
use Rattle.sg_pool.specs.Units.{Geometry, EachByte, page_at, band_byte, Units, IsGoing}
use Rattle.sg_pool.proofs.Homes.{page_same, batch_page, other_page, page_in_batch, homes_below}

module _ (g : Geometry) (d : ℕ) (last : ℕ → ℕ) (seen : Bytes) (m : Units) where
  -- at the entry
  pub going_starts : IsGoing g d last seen m seen
  going_starts = record { pages = λ n lt. inl refl; bytes = λ b i is_band is_byte. inl refl }

  -- the same homes
  pub going_same : (f f' : Bytes) → ((i : ℕ) → HOMES ≤ i → f' i ≡ f i) → IsGoing g d last seen m f → IsGoing g d last seen m f'
  going_same f f' same going = record {
    pages = λ n lt.
        let here = page_same f' f (home_at n) (home_at n) (λ k small. same (home_at n + k) (omega arith)) in
        ⊎_elim (λ as_was. inl (here ∙ as_was)) (λ gone. inr (here ∙ gone.0, gone.1)) (going.pages n lt);
    bytes = λ b i is_band is_byte. ⊎_elim (λ as_was. inl (same (band_byte g b i) (omega arith) ∙ as_was)) (λ marked. inr marked) (going.bytes b i is_band is_byte);
  }

  -- one batch more, of pages as their units hold them, whose numbers are below d
  pub going_batch : (f : Bytes) (ns : List ℕ) → IsBatch g.pages ns → ((k : ℕ) → k < length ns → (page_at f (place_at k) ≡ m.page (get_or ns k 0)) × (lsn_of (m.page (get_or ns k 0)) < d)) → IsGoing g d last seen m f → IsGoing g d last seen m (over ns 0 f f)
  going_batch f ns batch may going = record {
    pages = λ n lt. ⊎_elim
        (λ there. subst (λ (j : ℕ). (page_at (over ns 0 f f) (home_at j) ≡ page_at seen (home_at j)) ⊎ ((page_at (over ns 0 f f) (home_at j) ≡ m.page j) × (lsn_of (m.page j) < d))) there.2
        (inr (batch_page ns f batch.different there.0 there.1 ∙ (may there.0 there.1).0, (may there.0 there.1).1)))
        (λ nowhere. let here = other_page ns f batch.different n nowhere in ⊎_elim (λ as_was. inl (here ∙ as_was)) (λ gone. inr (here ∙ gone.0, gone.1)) (going.pages n lt))
        (page_in_batch ns n);
    bytes = λ b i is_band is_byte.
        let here = over_out ns 0 f f (band_byte g b i) (λ is. let low = homes_below ns g.pages (band_byte g b i) batch.each is in absurd (omega arith)) in
        ⊎_elim (λ as_was. inl (here ∙ as_was)) (λ marked. inr marked) (going.bytes b i is_band is_byte);
  }

  -- and an image that is whole with such a store goes so
  pub going_whole : (s : State) (store : Bytes) (c : Image) → IsWhole s g.pages store c → IsGoing g d last seen m store → IsGoing g d last seen m (laid (c Home))
  going_whole s store c whole going = going_same store (laid (c Home)) (λ i high. whole.home i (inr high)) going

  -- bytes that are marked, and forced, may be anything
  pub going_torn : (f f' : Bytes) → ((n : ℕ) → n < g.pages → (k : ℕ) → k < PAGE → f' (home_at n + k) ≡ f (home_at n + k)) → EachByte g (λ b i. (f' (band_byte g b i) ≡ f (band_byte g b i)) ⊎ ((m.marked b i ≡ true) × (last b < d)))
      → IsGoing g d last seen m f → IsGoing g d last seen m f'
  going_torn f f' pages bytes going = record {
    pages = λ n lt. let here = page_same f' f (home_at n) (home_at n) (pages n lt) in ⊎_elim (λ as_was. inl (here ∙ as_was)) (λ gone. inr (here ∙ gone.0, gone.1)) (going.pages n lt);
    bytes = λ b i is_band is_byte. ⊎_elim (λ same. ⊎_elim (λ as_was. inl (same ∙ as_was)) (λ marked. inr marked) (going.bytes b i is_band is_byte)) (λ marked. inr marked) (bytes b i is_band is_byte);
  }
