-- How many slots the pages of contents may have.
use Rattle.std.proofs.Common.{◌≡◌, ◌≢◌, ℕ, zero, suc, ◌==◌, ◌⊎◌, inl, inr, Bool, true, false, cond, ◌||◌, List, [], ◌∷◌, slice_get, Option, Some, None, refl, sym, ap, ◌∙◌}
use Rattle.std.specs.Prelude.{if◌then◌else◌}
use Rattle.std.specs.List.{list_any}
use Rattle.std.proofs.lemmas.Bool.{eqb-true, eq-eqb, cases_eq}
use Rattle.sg_base.specs.Sheet.{Sheet}
use Rattle.sg_array.specs.Array.{Array, IsArray}
use Rattle.sg_catalog.specs.Catalog.{rows}
use Rattle.sg_catalog.specs.Catalog as listing
use Rattle.sg_catalog.specs.declared.row.ObjectKind.{ObjectKind}
use Rattle.sg_catalog.specs.declared.row.ObjectKind.TheVariants as kinds
use Rattle.sg_catalog.specs.declared.row.Row.{Row}
use Rattle.sg_space.specs.Units.{HasAt}
use Rattle.sg_space.specs.View.{Space}
use Rattle.sg_contents.specs.Standing.{Body, Contents, IsBody, OwnsPage, IsAmong, Holds, IsContents}
use Rattle.sg_contents.specs.Standing.Body.{AnArray, ATable, ABlob}
use Rattle.sg_contents.specs.Limits.{size_in, or_else, size_among, items_for, limit_of, kind_at, limit, IsIn, ArrayLimits, BodyLimits}

-- A number in a list
any_in : (ns : List ℕ) (n : ℕ) → list_any (λ p. p == n) ns ≡ true → IsIn ns n
any_in [] n e = absurd (cc)
any_in (m ∷ ns) n e = go (m == n) refl e (any_in ns n)
  where
    go : (b : Bool) → (m == n) ≡ b → (b || list_any (λ p. p == n) ns) ≡ true → (list_any (λ p. p == n) ns ≡ true → IsIn ns n) → IsIn (m ∷ ns) n
    go true f h rest = (0, ap Some (eqb-true m n f))
    go false f h rest = let r = rest h in (suc r.0, r.1)

in_any : (ns : List ℕ) (j n : ℕ) → slice_get ns j ≡ Some n → list_any (λ p. p == n) ns ≡ true
in_any [] j n e = absurd (cc)
in_any (m ∷ ns) zero n e = ap (λ b. b || list_any (λ p. p == n) ns) (eq-eqb m n (let k : m ≡ n = cc in k))
in_any (m ∷ ns) (suc j) n e = go (m == n) (in_any ns j n e)
  where
    go : (b : Bool) → list_any (λ p. p == n) ns ≡ true → (b || list_any (λ p. p == n) ns) ≡ true
    go true h = refl
    go false h = h

cond_some : (c : Bool) (n v : ℕ) → cond c (Some n) None ≡ Some v → (c ≡ true) × (n ≡ v)
cond_some true n v e = (refl, (let k : n ≡ v = cc in k))
cond_some false n v e = absurd (cc)

-- THE SIZE OF ITEMS on an item page is that of the one array that has it
size_owned : (root : ℕ) (b : Body) (page v : ℕ) → size_in b page ≡ Some v → OwnsPage root b page
size_owned root (AnArray a) page v e = let c = cond_some (list_any (λ p. p == page) a.leaves) a.size v e in inr (inr (any_in a.leaves page c.0))
size_owned root (ATable t) page v e = let c = cond_some (list_any (λ p. p == page) t.names.leaves) t.names.size v e in inr (inl (inr (inr (any_in t.names.leaves page c.0))))
size_owned root (ABlob b) page v e = absurd (cc)

module _ {kept : ℕ} {space : Space} {s : Contents} {all : List Row} (h : Holds kept space s all) where
  one_owner : (row x : Row) → IsAmong all row → IsAmong all x → (page : ℕ) → OwnsPage row.root.0 (s.body row.root.0) page → OwnsPage x.root.0 (s.body x.root.0) page → row.root.0 ≡ x.root.0
  one_owner row x a b page o q = go (cases_eq row.root.0 x.root.0)
    where
      go : (row.root.0 ≡ x.root.0) ⊎ (row.root.0 ≢ x.root.0) → row.root.0 ≡ x.root.0
      go (inl e) = e
      go (inr ne) = absurd (h.apart row x a b ne page o q)

  size_found : (xs : List Row) → ((x : Row) → IsAmong xs x → IsAmong all x) → (row : Row) → IsAmong xs row → (page v : ℕ) → size_in (s.body row.root.0) page ≡ Some v → size_among s.body xs page ≡ Some v
  size_found [] within row a page v e = absurd a
  size_found (x ∷ xs) within row a page v e = by_size (size_in (s.body x.root.0) page) refl a (λ m. size_found xs (λ y n. within y (inr n)) row m page v e)
    where
      mine : (n : ℕ) → size_in (s.body x.root.0) page ≡ Some n → n ≡ v
      mine n f =
          let one = one_owner x row (within x (inl refl)) (within row a) page (size_owned x.root.0 (s.body x.root.0) page n f) (size_owned row.root.0 (s.body row.root.0) page v e) in
          let k : Some n ≡ Some v = sym f ∙ (ap (λ (r : ℕ). size_in (s.body r) page) one ∙ e) in
          (let m : n ≡ v = cc in m)

      by_size : (o : Option ℕ) → size_in (s.body x.root.0) page ≡ o → (row ≡ x) ⊎ IsAmong xs row → (IsAmong xs row → size_among s.body xs page ≡ Some v) → or_else (size_in (s.body x.root.0) page) (size_among s.body xs page) ≡ Some v
      by_size (Some n) f i rest = ap (λ o. or_else o (size_among s.body xs page)) f ∙ ap Some (mine n f)
      by_size None f (inl is) rest = absurd (let k : ◌≡◌ {A = Option ℕ} None (Some v) = sym f ∙ (ap (λ (r : Row). size_in (s.body r.root.0) page) (sym is) ∙ e) in cc)
      by_size None f (inr m) rest = ap (λ o. or_else o (size_among s.body xs page)) f ∙ rest m

-- LIMITS by kinds
pub kind_is : {at : ℕ → Option Sheet} {p : ℕ} {P : Sheet → Type 0} (n : ℕ) → HasAt at p P → ((x : Sheet) → P x → x.kind ≡ n) → kind_at (at p) ≡ n
kind_is n h f = ap kind_at h.is ∙ f h.what h.has

module _ {space : Space} {s : Contents} (h : IsContents space s) where
  at_kind : (p n : ℕ) → kind_at (space.pages.at p) ≡ n → limit s space.pages.at p ≡ limit_of n (items_for (size_among s.body (rows s.catalog) p))
  at_kind p n e = ap (λ k. limit_of k (items_for (size_among s.body (rows s.catalog) p))) e

  array_limits : (row : Row) → IsAmong (rows s.catalog) row → (root : ℕ) (a : Array) → IsArray space.pages.at root a → ((p : ℕ) → IsIn a.leaves p → size_in (s.body row.root.0) p ≡ Some a.size) → ArrayLimits (limit s space.pages.at) root a
  array_limits row among root a k sizes = record {
    first = at_kind root 2 (kind_is 2 k.built.names.first (λ y z. z.kind));
    index = λ p i. at_kind p 3 (kind_is 3 (k.built.names.index i.0 p i.1) (λ y z. z.kind));
    leaf = λ p i. at_kind p 4 (kind_is 4 (k.built.leaf i.0 p i.1) (λ y z. z.kind)) ∙ ap items_for (size_found h (rows s.catalog) (λ y m. m) row among p a.size (sizes p i));
  }

  leaf_size : (ns : List ℕ) (size p : ℕ) → IsIn ns p → (if list_any (λ q. q == p) ns then Some size else None) ≡ Some size
  leaf_size ns size p i = ap (λ b. if b then Some size else None) (in_any ns i.0 p i.1)

  pub body_limits : (row : Row) → IsAmong (rows s.catalog) row → (kind : ObjectKind) (b : Body) → s.body row.root.0 ≡ b → IsBody space kind row.root.0 b → BodyLimits (limit s space.pages.at) row.root.0 b
  body_limits row among kinds.Array (AnArray a) e k = array_limits row among row.root.0 a k (λ p i. ap (λ (c : Body). size_in c p) e ∙ leaf_size a.leaves a.size p i)
  body_limits row among kinds.Table (ATable t) e k = record {
    first = at_kind row.root.0 5 (ap kind_at k.table.built.trunk.first);
    names = array_limits row among t.directory t.names k.table.built.trunk.names (λ p i. ap (λ (c : Body). size_in c p) e ∙ leaf_size t.names.leaves t.names.size p i);
    buckets = λ p o. at_kind p 6 (kind_is 6 ((k.table.built.bucket o.index o.bucket o.is).linked.part o.owns.0 p o.owns.1) (λ y z. z.page.kind));
  }
  body_limits row among kinds.Blob (ABlob b) e k = at_kind row.root.0 7 (kind_is 7 k.raw.first (λ y z. z.kind))
  body_limits row among kinds.Array (ATable t) e k = absurd k
  body_limits row among kinds.Array (ABlob b) e k = absurd k
  body_limits row among kinds.Table (AnArray a) e k = absurd k
  body_limits row among kinds.Table (ABlob b) e k = absurd k
  body_limits row among kinds.Blob (AnArray a) e k = absurd k
  body_limits row among kinds.Blob (ATable t) e k = absurd k

  pub catalog_limits : (p : ℕ) → listing.Owns s.catalog p → limit s space.pages.at p ≡ 79
  catalog_limits p o = at_kind p 1 (kind_is 1 (h.catalog.raw.page o.0 p o.1) (λ y z. z.kind))
