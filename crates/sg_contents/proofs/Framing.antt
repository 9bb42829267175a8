-- WHERE ONE BODY CHANGES, OR THE CATALOGUE, ALL ELSE STANDS AS IT DID.
use Rattle.std.proofs.Common.{◌≡◌, ◌≢◌, ℕ, ◌+◌, ◌<◌, ◌≤◌, ◌==◌, inl, inr, Bool, true, false, cond, List, ◌∷◌, Option, Some, None, refl, sym, ap, ◌∙◌, subst, arith}
use Rattle.std.specs.List.{count_by}
use Rattle.std.proofs.lemmas.Bool.{cases_eq, cases_lt, eqb-true}
use Rattle.std.proofs.lemmas.List.Sums.{sum_by-cons}
use Rattle.sg_alloc.specs.Flags.{map_bands_of}
use Rattle.sg_base.specs.Sheet.{Sheet}
use Rattle.sg_space.specs.Owned.{Becomes, AreApart}
use Rattle.sg_space.specs.View.{Space}
use Rattle.sg_space.proofs.Owners.{stays, two_stay}
use Rattle.sg_catalog.specs.Calls as catalog
use Rattle.sg_catalog.specs.Catalog.{Catalog, IsCatalog, Owns}
use Rattle.sg_catalog.specs.declared.row.ObjectKind.{ObjectKind}
use Rattle.sg_catalog.specs.declared.row.Row.{Row}
use Rattle.sg_contents.specs.Standing.{Body, Contents, Holds, IsBody, OwnsPage, OwnsBand, IsAmong, is_at, map_bands}
use Rattle.sg_contents.specs.Changes.{with_body, BodyTurns, BodyMade, BodyGone, IsNamedIn, AreWithin}
use Rattle.sg_contents.proofs.Among.{eq_self, one_at, counted, none_counted}
use Rattle.sg_contents.proofs.Standing.{body_stays, catalog_stays, page_there, band_there, root_owned, nothing_owned}

pub not_same : (a b : ℕ) → a ≢ b → (a == b) ≡ false
not_same a b ne = by (a == b) refl
  where
    by : (t : Bool) → (a == b) ≡ t → t ≡ false
    by true e = absurd (ne (eqb-true a b e))
    by false e = refl

-- the body at the root, and those at others
pub body_here : (root : ℕ) (b : Body) (s : Contents) (r : ℕ) → r ≡ root → (with_body root b s).body r ≡ b
body_here root b s r e = ap (λ (t : Bool). cond t b (s.body r)) (ap (λ (n : ℕ). n == root) e ∙ eq_self root)

pub body_there : (root : ℕ) (b : Body) (s : Contents) (r : ℕ) → r ≢ root → (with_body root b s).body r ≡ s.body r
body_there root b s r ne = ap (λ (t : Bool). cond t b (s.body r)) (not_same r root ne)

some_not_none : {A : Type 0} (o : Option A) (x : A) → o ≡ Some x → o ≡ None → ⊥
some_not_none o x a b = cc

catalog_there : {pages : ℕ → Option Sheet} {c : Catalog} → IsCatalog pages c → (p : ℕ) → Owns c p → pages p ≡ None → ⊥
catalog_there {pages} h p o none = let one = (h.raw).page o.0 p o.1 in some_not_none (pages p) one.what one.is none

-- the bands of the map are as many as before
pub map_same : (old new : Space) → new.pages.count ≡ old.pages.count → new.bands.count ≡ old.bands.count → map_bands new ≡ map_bands old
map_same old new p b = ap (λ (n : ℕ). map_bands_of n new.bands.count) p ∙ ap (λ (n : ℕ). map_bands_of old.pages.count n) b

-- A change of what some own, where the rows' bodies own nothing of it, leaves these as they are. `own` and `own'` are what
-- it owned and owns of the pages, `bown` and `bown'` of the bands.
module _ {old new : Space} {s : Contents} {xs : List Row} {kept : ℕ} {own own' bown bown' : ℕ → Type 0} {m m' n n' : ℕ} (h : Holds kept old s xs) (pages : Becomes old.pages new.pages own own' m m') (bands : Becomes old.bands new.bands bown bown' n n') where
  page_apart : (row : Row) → IsAmong xs row → ((p : ℕ) → own p → ¬ OwnsPage row.root.0 (s.body row.root.0) p) → AreApart old.pages own (OwnsPage row.root.0 (s.body row.root.0))
  page_apart row a off = record { apart = off; there = page_there old row.kind row.root.0 (s.body row.root.0) (h.body row a) }

  band_apart : (row : Row) → IsAmong xs row → ((b : ℕ) → bown b → ¬ OwnsBand (s.body row.root.0) b) → AreApart old.bands bown (OwnsBand (s.body row.root.0))
  band_apart row a off = record { apart = off; there = band_there old row.kind row.root.0 (s.body row.root.0) (h.body row a) }

  -- such a body stays
  pub other_stays : (row : Row) → IsAmong xs row → ((p : ℕ) → own p → ¬ OwnsPage row.root.0 (s.body row.root.0) p) → ((b : ℕ) → bown b → ¬ OwnsBand (s.body row.root.0) b) → IsBody new row.kind row.root.0 (s.body row.root.0)
  other_stays row a off nob = body_stays old new row.kind row.root.0 (s.body row.root.0) (h.body row a) (stays pages (page_apart row a off)) (stays bands (band_apart row a nob))

  -- and is apart from what is owned now
  pub other_apart : (row : Row) → IsAmong xs row → ((p : ℕ) → own p → ¬ OwnsPage row.root.0 (s.body row.root.0) p) → (p : ℕ) → own' p → ¬ OwnsPage row.root.0 (s.body row.root.0) p
  other_apart row a off = (two_stay pages (page_apart row a off)).apart

  pub other_bands : (row : Row) → IsAmong xs row → ((b : ℕ) → bown b → ¬ OwnsBand (s.body row.root.0) b) → (b : ℕ) → bown' b → ¬ OwnsBand (s.body row.root.0) b
  other_bands row a nob = (two_stay bands (band_apart row a nob)).apart

  -- the map's bands are still taken, and what is owned is behind them
  pub map_there : ((b : ℕ) → bown b → kept ≤ b) → (b : ℕ) → b < kept → new.bands.at b ≡ None → ⊥
  map_there behind b below = map_apart.there b below
    where
      map_apart : AreApart new.bands bown' (λ b. b < kept)
      map_apart = two_stay bands (record { apart = λ b o below. (let x = behind b o in omega arith); there = h.map })

  pub map_behind : ((b : ℕ) → bown b → kept ≤ b) → (b : ℕ) → bown' b → kept ≤ b
  map_behind behind b o = elim (cases_lt b kept) [
    | inl below ↦ absurd ((two_stay bands (record { apart = λ b o below. (let x = behind b o in omega arith); there = h.map })).apart b o below)
    | inr past ↦ past
  ]

  -- the catalogue stays, where it owns nothing of it
  catalog_apart : ((p : ℕ) → own p → ¬ Owns s.catalog p) → AreApart old.pages own (Owns s.catalog)
  catalog_apart off = record { apart = off; there = catalog_there h.catalog }

  pub catalog_still : ((p : ℕ) → own p → ¬ Owns s.catalog p) → IsCatalog new.pages.at s.catalog
  catalog_still off = catalog_stays h.catalog (stays pages (catalog_apart off))

  pub catalog_beside : ((p : ℕ) → own p → ¬ Owns s.catalog p) → (p : ℕ) → own' p → ¬ Owns s.catalog p
  catalog_beside off = (two_stay pages (catalog_apart off)).apart

-- ONE BODY TURNS
module _ {kept : ℕ} {old new : Space} {s : Contents} {xs : List Row} (row : Row) (among : IsAmong xs row) (b' : Body) (h : Holds kept old s xs) (t : BodyTurns old new row.kind row.root.0 (s.body row.root.0) b') where
  abbrev pub root : ℕ
  root = row.root.0

  abbrev pub now : Contents
  now = with_body root b' s

  no_page : (other : Row) → IsAmong xs other → other.root.0 ≢ root → (p : ℕ) → OwnsPage root (s.body root) p → ¬ OwnsPage other.root.0 (s.body other.root.0) p
  no_page other a ne = h.apart row other among a (λ e. ne (sym e))

  no_band : (other : Row) → IsAmong xs other → other.root.0 ≢ root → (b : ℕ) → OwnsBand (s.body root) b → ¬ OwnsBand (s.body other.root.0) b
  no_band other a ne = h.bands_apart row other among a (λ e. ne (sym e))

  body_now : (other : Row) → IsAmong xs other → IsBody new other.kind other.root.0 (now.body other.root.0)
  body_now other a = elim (cases_eq other.root.0 root) [
    | inl e ↦
        let same : row ≡ other = one_at xs row other h.once among a (sym e) in
        subst (λ (x : Row). IsBody new x.kind x.root.0 (now.body x.root.0)) same (subst (λ (b : Body). IsBody new row.kind root b) (sym (body_here root b' s root refl)) t.body)
    | inr ne ↦ subst (λ (b : Body). IsBody new other.kind other.root.0 b) (sym (body_there root b' s other.root.0 ne)) (other_stays h t.pages t.bands other a (no_page other a ne) (no_band other a ne))
  ]

  -- what a row's body owns now, where it is the one that turned and where it isn't
  pages_here : (other : Row) → other.root.0 ≡ root → (p : ℕ) → OwnsPage other.root.0 (now.body other.root.0) p → OwnsPage root b' p
  pages_here other e p o = subst (λ (b : Body). OwnsPage root b p) (body_here root b' s root refl) (subst (λ (r : ℕ). OwnsPage r (now.body r) p) e o)

  pages_there : (other : Row) → other.root.0 ≢ root → (p : ℕ) → OwnsPage other.root.0 (now.body other.root.0) p → OwnsPage other.root.0 (s.body other.root.0) p
  pages_there other ne p o = subst (λ (b : Body). OwnsPage other.root.0 b p) (body_there root b' s other.root.0 ne) o

  bands_here : (other : Row) → other.root.0 ≡ root → (p : ℕ) → OwnsBand (now.body other.root.0) p → OwnsBand b' p
  bands_here other e p o = subst (λ (b : Body). OwnsBand b p) (body_here root b' s other.root.0 e) o

  bands_there : (other : Row) → other.root.0 ≢ root → (p : ℕ) → OwnsBand (now.body other.root.0) p → OwnsBand (s.body other.root.0) p
  bands_there other ne p o = subst (λ (b : Body). OwnsBand b p) (body_there root b' s other.root.0 ne) o

  beside_now : (other : Row) → IsAmong xs other → (p : ℕ) → OwnsPage other.root.0 (now.body other.root.0) p → ¬ Owns s.catalog p
  beside_now other a p o = elim (cases_eq other.root.0 root) [
    | inl e ↦ catalog_beside h t.pages t.bands (h.beside row among) p (pages_here other e p o)
    | inr ne ↦ h.beside other a p (pages_there other ne p o)
  ]

  apart_now : (x y : Row) → IsAmong xs x → IsAmong xs y → x.root.0 ≢ y.root.0 → (p : ℕ) → OwnsPage x.root.0 (now.body x.root.0) p → ¬ OwnsPage y.root.0 (now.body y.root.0) p
  apart_now x y a b ne p o o' = elim (cases_eq x.root.0 root) [
    | inl e ↦
        let far : y.root.0 ≢ root = λ f. ne (e ∙ sym f) in
        other_apart h t.pages t.bands y b (no_page y b far) p (pages_here x e p o) (pages_there y far p o')
    | inr xn ↦ elim (cases_eq y.root.0 root) [
      | inl f ↦ other_apart h t.pages t.bands x a (no_page x a xn) p (pages_here y f p o') (pages_there x xn p o)
      | inr yn ↦ h.apart x y a b ne p (pages_there x xn p o) (pages_there y yn p o')
    ]
  ]

  bands_apart_now : (x y : Row) → IsAmong xs x → IsAmong xs y → x.root.0 ≢ y.root.0 → (p : ℕ) → OwnsBand (now.body x.root.0) p → ¬ OwnsBand (now.body y.root.0) p
  bands_apart_now x y a b ne p o o' = elim (cases_eq x.root.0 root) [
    | inl e ↦
        let far : y.root.0 ≢ root = λ f. ne (e ∙ sym f) in
        other_bands h t.pages t.bands y b (no_band y b far) p (bands_here x e p o) (bands_there y far p o')
    | inr xn ↦ elim (cases_eq y.root.0 root) [
      | inl f ↦ other_bands h t.pages t.bands x a (no_band x a xn) p (bands_here y f p o') (bands_there x xn p o)
      | inr yn ↦ h.bands_apart x y a b ne p (bands_there x xn p o) (bands_there y yn p o')
    ]
  ]

  behind_now : (x : Row) → IsAmong xs x → (b : ℕ) → OwnsBand (now.body x.root.0) b → kept ≤ b
  behind_now x a b o = elim (cases_eq x.root.0 root) [
    | inl e ↦ map_behind h t.pages t.bands (h.behind_map row among) b (bands_here x e b o)
    | inr ne ↦ h.behind_map x a b (bands_there x ne b o)
  ]

  pub body_turned : Holds kept new now xs
  body_turned = record {
    catalog = catalog_still h t.pages t.bands (h.beside row among);
    body = body_now;
    once = h.once;
    beside = beside_now;
    apart = apart_now;
    bands_apart = bands_apart_now;
    behind_map = behind_now;
    map = map_there h t.pages t.bands (h.behind_map row among);
  }

-- THE CATALOGUE TURNS, and the rows stay
pub catalog_turned : {kept : ℕ} {old new : Space} {s : Contents} {xs : List Row} {c : Catalog} → Holds kept old s xs → catalog.Turns old new s.catalog c → Holds kept new (record s { catalog = c }) xs
catalog_turned {kept} {old} {new} {s} {xs} {c} h t =
    let off : (row : Row) → IsAmong xs row → (p : ℕ) → Owns s.catalog p → ¬ OwnsPage row.root.0 (s.body row.root.0) p = λ row a p o o'. h.beside row a p o' o in
    let bands : Becomes old.bands new.bands (λ _. ⊥) (λ _. ⊥) 0 0 = nothing_owned t.bands in
    record {
      catalog = t.catalog;
      body = λ row a. other_stays h t.pages bands row a (off row a) (λ b none o. none);
      once = h.once;
      beside = λ row a p o o'. other_apart h t.pages bands row a (off row a) p o' o;
      apart = h.apart;
      bands_apart = h.bands_apart;
      behind_map = h.behind_map;
      map = map_there h t.pages bands (λ b none. absurd none);
    }

-- FEWER ROWS, or the same ones in another order
pub holds_within : {kept : ℕ} {space : Space} {s : Contents} {xs ys : List Row} → Holds kept space s ys → AreWithin xs ys → Holds kept space s xs
holds_within {kept} {space} {s} {xs} {ys} h w = record {
  catalog = h.catalog;
  body = λ row a. body_of row (w.each row a);
  once = λ root. (let x = h.once root in let y = w.counts root in omega arith);
  beside = λ row a p o. beside_of row (w.each row a) p o;
  apart = λ x y a b ne p o o'. apart_of x y (w.each x a) (w.each y b) ne p o o';
  bands_apart = λ x y a b ne p o o'. bands_of x y (w.each x a) (w.each y b) ne p o o';
  behind_map = λ x a b o. behind_of x (w.each x a) b o;
  map = h.map;
}
  where
    body_of : (row : Row) → IsNamedIn ys row → IsBody space row.kind row.root.0 (s.body row.root.0)
    body_of row w = subst (λ (r : ℕ). IsBody space row.kind r (s.body r)) w.root_is (subst (λ (k : ObjectKind). IsBody space k (w.was).root.0 (s.body (w.was).root.0)) w.kind_is (h.body w.was w.among))

    owned : (row was : Row) → was.root.0 ≡ row.root.0 → (p : ℕ) → OwnsPage row.root.0 (s.body row.root.0) p → OwnsPage was.root.0 (s.body was.root.0) p
    owned row was e p o = subst (λ (r : ℕ). OwnsPage r (s.body r) p) (sym e) o

    owned_band : (row was : Row) → was.root.0 ≡ row.root.0 → (p : ℕ) → OwnsBand (s.body row.root.0) p → OwnsBand (s.body was.root.0) p
    owned_band row was e p o = subst (λ (r : ℕ). OwnsBand (s.body r) p) (sym e) o

    beside_of : (row : Row) → IsNamedIn ys row → (p : ℕ) → OwnsPage row.root.0 (s.body row.root.0) p → ¬ Owns s.catalog p
    beside_of row w p o = h.beside w.was w.among p (owned row w.was w.root_is p o)

    apart_of : (x y : Row) → IsNamedIn ys x → IsNamedIn ys y → x.root.0 ≢ y.root.0 → (p : ℕ) → OwnsPage x.root.0 (s.body x.root.0) p → ¬ OwnsPage y.root.0 (s.body y.root.0) p
    apart_of x y v w ne p o o' = h.apart v.was w.was v.among w.among (λ e. ne (sym v.root_is ∙ (e ∙ w.root_is))) p (owned x v.was v.root_is p o) (owned y w.was w.root_is p o')

    bands_of : (x y : Row) → IsNamedIn ys x → IsNamedIn ys y → x.root.0 ≢ y.root.0 → (p : ℕ) → OwnsBand (s.body x.root.0) p → ¬ OwnsBand (s.body y.root.0) p
    bands_of x y v w ne p o o' = h.bands_apart v.was w.was v.among w.among (λ e. ne (sym v.root_is ∙ (e ∙ w.root_is))) p (owned_band x v.was v.root_is p o) (owned_band y w.was w.root_is p o')

    behind_of : (x : Row) → IsNamedIn ys x → (b : ℕ) → OwnsBand (s.body x.root.0) b → kept ≤ b
    behind_of x w b o = h.behind_map w.was w.among b (owned_band x w.was w.root_is b o)

-- A BODY IS MADE
module _ {kept : ℕ} {old new : Space} {s : Contents} {xs : List Row} (row : Row) (b : Body) (h : Holds kept old s xs) (m : BodyMade old new row.kind row.root.0 b) where
  abbrev pub made_now : Contents
  made_now = with_body row.root.0 b s

  -- the root is none of those that there were
  pub new_root : (x : Row) → IsAmong xs x → x.root.0 ≢ row.root.0
  new_root x a e = elim (m.pages.taken row.root.0 (root_owned row.root.0 b)) [
    | inl none ↦ none
    | inr free ↦ page_there old x.kind x.root.0 (s.body x.root.0) (h.body x a) row.root.0 (subst (λ (r : ℕ). OwnsPage x.root.0 (s.body x.root.0) r) e (root_owned x.root.0 (s.body x.root.0))) free
  ]

  here : (x : Row) → x.root.0 ≡ row.root.0 → made_now.body x.root.0 ≡ b
  here x e = body_here row.root.0 b s x.root.0 e

  there : (x : Row) → IsAmong xs x → made_now.body x.root.0 ≡ s.body x.root.0
  there x a = body_there row.root.0 b s x.root.0 (new_root x a)

  old_pages : (x : Row) → IsAmong xs x → (p : ℕ) → OwnsPage x.root.0 (made_now.body x.root.0) p → OwnsPage x.root.0 (s.body x.root.0) p
  old_pages x a p o = subst (λ (c : Body). OwnsPage x.root.0 c p) (there x a) o

  old_bands : (x : Row) → IsAmong xs x → (p : ℕ) → OwnsBand (made_now.body x.root.0) p → OwnsBand (s.body x.root.0) p
  old_bands x a p o = subst (λ (c : Body). OwnsBand c p) (there x a) o

  new_pages : (x : Row) → x ≡ row → (p : ℕ) → OwnsPage x.root.0 (made_now.body x.root.0) p → OwnsPage row.root.0 b p
  new_pages x e p o = subst (λ (c : Body). OwnsPage row.root.0 c p) (here row refl) (subst (λ (y : Row). OwnsPage y.root.0 (made_now.body y.root.0) p) e o)

  new_bands : (x : Row) → x ≡ row → (p : ℕ) → OwnsBand (made_now.body x.root.0) p → OwnsBand b p
  new_bands x e p o = subst (λ (c : Body). OwnsBand c p) (here row refl) (subst (λ (y : Row). OwnsBand (made_now.body y.root.0) p) e o)

  made_body : (x : Row) → IsAmong (row ∷ xs) x → IsBody new x.kind x.root.0 (made_now.body x.root.0)
  made_body x (inl e) = subst (λ (y : Row). IsBody new y.kind y.root.0 (made_now.body y.root.0)) (sym e) (subst (λ (c : Body). IsBody new row.kind row.root.0 c) (sym (here row refl)) m.body)
  made_body x (inr a) = subst (λ (c : Body). IsBody new x.kind x.root.0 c) (sym (there x a)) (other_stays h m.pages m.bands x a (λ p none o. none) (λ p none o. none))

  made_once : (root : ℕ) → count_by (is_at root) (row ∷ xs) ≤ 1
  made_once root =
      let sum : count_by (is_at root) (row ∷ xs) ≡ cond {A = ℕ} (is_at root row) 1 0 + count_by (is_at root) xs = sum_by-cons (λ (r : Row). cond {A = ℕ} (is_at root r) 1 0) row xs in
      elim (cases_eq row.root.0 root) [
        | inl e ↦
            let none : count_by (is_at root) xs ≡ 0 = none_counted (is_at root) xs (λ x a. not_same x.root.0 root (λ f. new_root x a (f ∙ sym e))) in
            let one : cond {A = ℕ} (is_at root row) 1 0 ≡ 1 = ap (λ (t : Bool). cond {A = ℕ} t 1 0) (ap (λ (n : ℕ). n == root) e ∙ eq_self root) in
            omega arith
        | inr ne ↦
            let zero_here : cond {A = ℕ} (is_at root row) 1 0 ≡ 0 = ap (λ (t : Bool). cond {A = ℕ} t 1 0) (not_same row.root.0 root ne) in
            let before = h.once root in
            omega arith
      ]

  made_beside : (x : Row) → IsAmong (row ∷ xs) x → (p : ℕ) → OwnsPage x.root.0 (made_now.body x.root.0) p → ¬ Owns s.catalog p
  made_beside x (inl e) p o = catalog_beside h m.pages m.bands (λ p none o. none) p (new_pages x e p o)
  made_beside x (inr a) p o = h.beside x a p (old_pages x a p o)

  made_apart : (x y : Row) → IsAmong (row ∷ xs) x → IsAmong (row ∷ xs) y → x.root.0 ≢ y.root.0 → (p : ℕ) → OwnsPage x.root.0 (made_now.body x.root.0) p → ¬ OwnsPage y.root.0 (made_now.body y.root.0) p
  made_apart x y (inl e) (inl f) ne p o o' = ne (ap (λ (r : Row). r.root.0) (e ∙ sym f))
  made_apart x y (inl e) (inr b) ne p o o' = other_apart h m.pages m.bands y b (λ p none o. none) p (new_pages x e p o) (old_pages y b p o')
  made_apart x y (inr a) (inl f) ne p o o' = other_apart h m.pages m.bands x a (λ p none o. none) p (new_pages y f p o') (old_pages x a p o)
  made_apart x y (inr a) (inr b) ne p o o' = h.apart x y a b ne p (old_pages x a p o) (old_pages y b p o')

  made_bands : (x y : Row) → IsAmong (row ∷ xs) x → IsAmong (row ∷ xs) y → x.root.0 ≢ y.root.0 → (p : ℕ) → OwnsBand (made_now.body x.root.0) p → ¬ OwnsBand (made_now.body y.root.0) p
  made_bands x y (inl e) (inl f) ne p o o' = ne (ap (λ (r : Row). r.root.0) (e ∙ sym f))
  made_bands x y (inl e) (inr b) ne p o o' = other_bands h m.pages m.bands y b (λ p none o. none) p (new_bands x e p o) (old_bands y b p o')
  made_bands x y (inr a) (inl f) ne p o o' = other_bands h m.pages m.bands x a (λ p none o. none) p (new_bands y f p o') (old_bands x a p o)
  made_bands x y (inr a) (inr b) ne p o o' = h.bands_apart x y a b ne p (old_bands x a p o) (old_bands y b p o')

  made_behind : (x : Row) → IsAmong (row ∷ xs) x → (p : ℕ) → OwnsBand (made_now.body x.root.0) p → kept ≤ p
  made_behind x (inl e) p o = map_behind h m.pages m.bands (λ b none. absurd none) p (new_bands x e p o)
  made_behind x (inr a) p o = h.behind_map x a p (old_bands x a p o)

  pub body_made : Holds kept new (with_body row.root.0 b s) (row ∷ xs)
  body_made = record {
    catalog = catalog_still h m.pages m.bands (λ p none o. none);
    body = made_body;
    once = made_once;
    beside = made_beside;
    apart = made_apart;
    bands_apart = made_bands;
    behind_map = made_behind;
    map = map_there h m.pages m.bands (λ b none. absurd none);
  }

-- A BODY IS GONE
pub body_gone : {kept : ℕ} {old new : Space} {s : Contents} {xs : List Row} (row : Row) → Holds kept old s (row ∷ xs) → BodyGone old new row.root.0 (s.body row.root.0) → Holds kept new s xs
body_gone {kept} {old} {new} {s} {xs} row h g = record {
  catalog = catalog_still h g.pages g.bands (h.beside row (inl refl));
  body = λ x a. other_stays h g.pages g.bands x (inr a) (off x a) (no_band x a);
  once = λ root. (let sum : count_by (is_at root) (row ∷ xs) ≡ cond {A = ℕ} (is_at root row) 1 0 + count_by (is_at root) xs = sum_by-cons (λ (r : Row). cond {A = ℕ} (is_at root r) 1 0) row xs in let x = h.once root in omega arith);
  beside = λ x a. h.beside x (inr a);
  apart = λ x y a b. h.apart x y (inr a) (inr b);
  bands_apart = λ x y a b. h.bands_apart x y (inr a) (inr b);
  behind_map = λ x a. h.behind_map x (inr a);
  map = map_there h g.pages g.bands (h.behind_map row (inl refl));
}
  where
    far : (x : Row) → IsAmong xs x → row.root.0 ≢ x.root.0
    far x a e =
        let sum : count_by (is_at row.root.0) (row ∷ xs) ≡ cond {A = ℕ} (is_at row.root.0 row) 1 0 + count_by (is_at row.root.0) xs = sum_by-cons (λ (r : Row). cond {A = ℕ} (is_at row.root.0 r) 1 0) row xs in
        let one : cond {A = ℕ} (is_at row.root.0 row) 1 0 ≡ 1 = ap (λ (t : Bool). cond {A = ℕ} t 1 0) (eq_self row.root.0) in
        let more = counted (is_at row.root.0) xs x a (ap (λ (n : ℕ). n == row.root.0) (sym e) ∙ eq_self row.root.0) in
        let once = h.once row.root.0 in
        omega arith

    off : (x : Row) → IsAmong xs x → (p : ℕ) → OwnsPage row.root.0 (s.body row.root.0) p → ¬ OwnsPage x.root.0 (s.body x.root.0) p
    off x a = h.apart row x (inl refl) (inr a) (far x a)

    no_band : (x : Row) → IsAmong xs x → (b : ℕ) → OwnsBand (s.body row.root.0) b → ¬ OwnsBand (s.body x.root.0) b
    no_band x a = h.bands_apart row x (inl refl) (inr a) (far x a)
