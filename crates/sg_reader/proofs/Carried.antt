-- What stands in pages stands in pages that can't be told from them.
use Rattle.std.proofs.Common.{◌≡◌, ℕ, ◌+◌, ◌≤◌, List, length, Option, Some, None, option_map, refl, sym, ap, ◌∙◌, subst, inl, inr}
use Rattle.sg_base.specs.Sheet.{Sheet, Seen, seen}
use Rattle.sg_action.specs.States.{leaf_count}
use Rattle.sg_array.specs.Array.{Array, IsArray, IsRoot, IsIndex, IsLeaf, per_page}
use Rattle.sg_array.specs.Array as array
use Rattle.sg_blob.specs.Blob.{Blob, IsBlob}
use Rattle.sg_blob.specs.Blob as blob
use Rattle.sg_blob.specs.Raw as raw_blob
use Rattle.sg_catalog.specs.Catalog.{Catalog, IsCatalog, IsPage, SaysPeak}
use Rattle.sg_catalog.specs.Catalog as listing
use Rattle.sg_catalog.specs.declared.row.Row.{Row}
use Rattle.sg_space.specs.Units.{HasAt}
use Rattle.sg_space.proofs.Known.{moved}
use Rattle.sg_contents.specs.Limits.{ArrayLimits}
use Rattle.sg_reader.specs.Alike.{AreAlikeOn}

-- one page
pub carry : {at at' : ℕ → Option Sheet} {p : ℕ} {P Q : Sheet → Type 0} (n : ℕ) → HasAt at p P → option_map seen (at' p) ≡ option_map seen (at p) → (leaf_count (at p) ≤ n → leaf_count (at' p) ≤ n)
    → ((x y : Sheet) → seen y ≡ seen x → (length x.slots ≤ n → length y.slots ≤ n) → P x → Q y) → HasAt at' p Q
carry {at} {at'} {p} {P} {Q} n h e c f = go (at' p) refl
  where
    same : (a b : Seen) → Some a ≡ Some b → a ≡ b
    same a b k = cc

    go : (o : Option Sheet) → at' p ≡ o → HasAt at' p Q
    go None g = absurd (let k : ◌≡◌ {A = Option Seen} None (Some (seen h.what)) = sym (ap (λ o. option_map seen o) g) ∙ (e ∙ ap (λ o. option_map seen o) h.is) in cc)
    go (Some y) g =
        let k : seen y ≡ seen h.what = same (seen y) (seen h.what) (sym (ap (λ o. option_map seen o) g) ∙ (e ∙ ap (λ o. option_map seen o) h.is)) in
        record { what = y; is = g; has = f h.what y k (λ few. subst (λ o. leaf_count o ≤ n) g (c (subst (λ o. leaf_count o ≤ n) (sym h.is) few))) h.has }

-- less is owned
pub less_alike : {limit : ℕ → ℕ} {own less : ℕ → Type 0} {at at' : ℕ → Option Sheet} → ((p : ℕ) → less p → own p) → AreAlikeOn limit own at at' → AreAlikeOn limit less at at'
less_alike f h = record { seen_same = λ p o. h.seen_same p (f p o); slots = λ p o. h.slots p (f p o) }

-- a page with its limit
pub carry_on : {limit : ℕ → ℕ} {own : ℕ → Type 0} {at at' : ℕ → Option Sheet} {p : ℕ} {P Q : Sheet → Type 0} (n : ℕ) → AreAlikeOn limit own at at' → own p → limit p ≡ n → HasAt at p P
    → ((x y : Sheet) → seen y ≡ seen x → (length x.slots ≤ n → length y.slots ≤ n) → P x → Q y) → HasAt at' p Q
carry_on {limit} {own} {at} {at'} {p} n k o e h f = carry n h (k.seen_same p o) (subst (λ m. leaf_count (at p) ≤ m → leaf_count (at' p) ≤ m) e (k.slots p o)) f

-- AN ARRAY
root_alike : (size count peak : ℕ) (index : List ℕ) (x y : Sheet) → seen y ≡ seen x → (length x.slots ≤ 139 → length y.slots ≤ 139) → IsRoot size count peak index x → IsRoot size count peak index y
root_alike size count peak index x y e c h = record { kind = ap (λ (s : Seen). s.kind) e ∙ h.kind; first = ap (λ (s : Seen). s.cells 0) e ∙ h.first; links = λ j. ap (λ (s : Seen). s.cells (j + 1)) e ∙ h.links j; few = c h.few }

index_alike : (leaves : List ℕ) (j : ℕ) (x y : Sheet) → seen y ≡ seen x → (length x.slots ≤ 509 → length y.slots ≤ 509) → IsIndex leaves j x → IsIndex leaves j y
index_alike leaves j x y e c h = record { kind = ap (λ (s : Seen). s.kind) e ∙ h.kind; cells = λ k less. ap (λ (s : Seen). s.cells k) e ∙ h.cells k less; few = c h.few }

leaf_alike : (size : ℕ) (items : List (List ℕ)) (d : ℕ) (x y : Sheet) → seen y ≡ seen x → (length x.slots ≤ per_page size → length y.slots ≤ per_page size) → IsLeaf size items d x → IsLeaf size items d y
leaf_alike size items d x y e c h = record { kind = ap (λ (s : Seen). s.kind) e ∙ h.kind; cells = λ k less. ap (λ (s : Seen). s.cells k) e ∙ h.cells k less; few = c h.few }

pub array_alike : {limit : ℕ → ℕ} {at at' : ℕ → Option Sheet} {root : ℕ} {a : Array} → IsArray at root a → AreAlikeOn limit (array.Owns root a) at at' → ArrayLimits limit root a → IsArray at' root a
array_alike {root = root} {a = a} h k l =
    let b = h.built in
    let names = b.names in
    record {
      built = record {
        names = record {
          first = carry_on 139 k (inl refl) l.first names.first (root_alike a.size (length a.items) a.peak a.index);
          index = λ j p e. carry_on 509 k (inr (inl (j, e))) (l.index p (j, e)) (names.index j p e) (index_alike a.leaves j);
          index_pages = names.index_pages;
          leaf_pages = names.leaf_pages;
          index_least = names.index_least;
        };
        leaf = λ d p e. carry_on (per_page a.size) k (inr (inr (d, e))) (l.leaf p (d, e)) (b.leaf d p e) (leaf_alike a.size a.items d);
        leaf_least = b.leaf_least;
        limits = b.limits;
      };
      index_most = h.index_most;
      leaf_most = h.leaf_most;
    }

-- A BLOB
blob_root_alike : (count peak : ℕ) (bands : List ℕ) (x y : Sheet) → seen y ≡ seen x → (length x.slots ≤ 501 → length y.slots ≤ 501) → raw_blob.IsRoot count peak bands x → raw_blob.IsRoot count peak bands y
blob_root_alike count peak bands x y e c h = record { kind = ap (λ (s : Seen). s.kind) e ∙ h.kind; first = ap (λ (s : Seen). s.cells 0) e ∙ h.first; links = λ j. ap (λ (s : Seen). s.cells (j + 1)) e ∙ h.links j; few = c h.few }

pub blob_alike : {limit : ℕ → ℕ} {at at' : ℕ → Option Sheet} {bands bands' : ℕ → Option (List ℕ)} {root : ℕ} {b : Blob} → IsBlob at bands root b → AreAlikeOn limit (blob.OwnsPage root) at at' → limit root ≡ 501
    → ((n : ℕ) → blob.OwnsBand b.bands n → bands' n ≡ bands n) → IsBlob at' bands' root b
blob_alike {b = b} h k l same =
    let raw = h.raw in
    record {
      raw = record {
        first = carry_on 501 k refl l raw.first (blob_root_alike (length b.bytes) b.peak b.bands);
        part = λ j n e. moved (same n (j, e)) (raw.part j n e);
        fit = raw.fit;
        apart = raw.apart;
        below_peak = raw.below_peak;
        few = raw.few;
        enough = raw.enough;
      };
      least = h.least;
      most = h.most;
    }

-- THE CATALOGUE
page_alike : (next : ℕ) (places : List (Option Row)) (j : ℕ) (x y : Sheet) → seen y ≡ seen x → (length x.slots ≤ 79 → length y.slots ≤ 79) → IsPage next places j x → IsPage next places j y
page_alike next places j x y e c h = record { kind = ap (λ (s : Seen). s.kind) e ∙ h.kind; link = ap (λ (s : Seen). s.links.0) e ∙ h.link; few = c h.few; cells = λ k less. ap (λ (s : Seen). s.cells k) e ∙ h.cells k less }

pub catalog_alike : {limit : ℕ → ℕ} {at at' : ℕ → Option Sheet} {c : Catalog} → IsCatalog at c → AreAlikeOn limit (listing.Owns c) at at' → ((p : ℕ) → listing.Owns c p → limit p ≡ 79) → IsCatalog at' c
catalog_alike {c = c} h k l =
    let raw = h.raw in
    record {
      raw = record {
        first = raw.first;
        page = λ j p e. carry_on 79 k (j, e) (l p (j, e)) (raw.page j p e) (page_alike _ c.places j);
        says_peak = carry_on 79 k (0, raw.first) (l 0 (0, raw.first)) raw.says_peak (λ x y e q z. record { says = ap (λ (s : Seen). s.links.1) e ∙ z.says });
        fit = raw.fit;
        apart = raw.apart;
        long = raw.long;
        formed = raw.formed;
      };
      once = h.once;
      below_peak = h.below_peak;
      exactly = h.exactly;
    }
