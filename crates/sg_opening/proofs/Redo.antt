-- Redo over a sound home area: pages and marked bytes go home meanwhile, and a home is a version from its unit's oldest change on.
use Rattle.std.proofs.Common.{◌≡◌, ◌⊎◌, inr, ⊎_elim, ℕ, List, sym, subst}
use Rattle.sg_pool.specs.Units.{Geometry, EachPage, EachByte}
use Rattle.sg_engine.specs.Numbers.{below}
use Rattle.sg_engine.specs.History.{Entry, Homes, byte_number, of_byte, IsCoveredFrom}
use Rattle.sg_engine.specs.Kept.{IsPageVersion, IsByteKept, IsKept}

-- pages go home as versions from the redo point on, bytes that are covered from there on as anything
pub redo_written : (g : Geometry) (first : Homes) (all : List Entry) (d : ℕ) (ep eb : ℕ → ℕ) (h h' : Homes)
    → EachPage g (λ n. (h'.page n ≡ h.page n) ⊎ IsPageVersion all d (ep n) n (first.page n) (h'.page n))
    → EachByte g (λ b i. (h'.byte b i ≡ h.byte b i) ⊎ IsCoveredFrom (eb b) (below byte_number d (of_byte b i all)))
    → IsKept g first all d ep eb h → IsKept g first all d ep eb h'
redo_written g first all d ep eb h h' pages bytes kept = record {
  pages = λ n lt. ⊎_elim (λ same. subst (λ (p : List ℕ). IsPageVersion all d (ep n) n (first.page n) p) (sym same) (kept.pages n lt)) (λ version. version) (pages n lt);
  bytes = λ b i is_band is_byte. ⊎_elim (λ same. subst (λ (x : ℕ). IsByteKept all d (eb b) b i (first.byte b i) x) (sym same) (kept.bytes b i is_band is_byte)) (λ covered. inr covered) (bytes b i is_band is_byte);
}
