-- An item behind the others of a list.
use Rattle.std.proofs.Common.{◌≡◌, ℕ, zero, suc, ◌+◌, ◌≤◌, ◌==◌, if◌then◌else◌, Bool, true, List, [], ◌∷◌, ◌++◌, length, map, set, slice_get, Option, Some, None, IsSome, refl, sym, ap, subst, ◌∙◌, inl, inr, arith}
use Rattle.std.proofs.lemmas.Bool.{cases_eq}
use Rattle.std.proofs.lemmas.Bool.Decides.{nat_tests}
use Rattle.std.proofs.lemmas.List.{length-map, map-append, get_or_past}
use Rattle.sg_base.specs.Op.Op.{Put}
use Rattle.sg_base.specs.Page.{cell_in, bytes_of}
use Rattle.sg_base.specs.Sheet.{Sheet}
use Rattle.sg_base.specs.Slots.{IsFree, with_cell}
use Rattle.sg_ops.specs.Steps.{step}
use Rattle.sg_ops.specs.Table.{Table}
use Rattle.sg_space.specs.Pages.{IsPossible, Changed}
use Rattle.sg_space.specs.Units.{HasAt}
use Rattle.sg_space.specs.View.{View, OnlyReads}
use Rattle.sg_space.proofs.Known.{both, keeps_then}
use Rattle.sg_space.proofs.Putting.{put_step}
use Rattle.sg_list.specs.Items.{IsList, Stands, HasList, IfList, CanPush, Pushed}

pub cell_in-map : (items : List (List ℕ)) (i : ℕ) → cell_in (map Some items) i ≡ slice_get items i
cell_in-map [] i = refl
cell_in-map (x ∷ xs) zero = refl
cell_in-map (x ∷ xs) (suc i) = cell_in-map xs i

-- the slots with one cell more are those of the items with one more
with_next : (items : List (List ℕ)) (item : List ℕ) → with_cell (map Some items) (length items) item ≡ map Some (items ++ item ∷ [])
with_next items item =
    let long : length (map {B = Option (List ℕ)} Some items) ≡ length items = length-map items Some in
    let test : (length items == length (map {B = Option (List ℕ)} Some items)) ≡ true = grind (arith, nat_tests, long) in
    ap (λ (b : Bool). if b then map Some items ++ (Some item ∷ []) else set (map Some items) (length items) (Some item)) test ∙ sym (map-append Some items (item ∷ []))

some_injective : (xs ys : List (List ℕ)) → map {B = Option (List ℕ)} Some xs ≡ map Some ys → xs ≡ ys
some_injective [] [] e = refl
some_injective [] (y ∷ ys) e = cc
some_injective (x ∷ xs) [] e = cc
some_injective (x ∷ xs) (y ∷ ys) e =
    let rest : map {B = Option (List ℕ)} Some xs ≡ map Some ys = cc in
    let more : xs ≡ ys = some_injective xs ys rest in
    cc

-- a page is one list
pub same_list : {pages : ℕ → Option Sheet} {root : ℕ} {xs ys : List (List ℕ)} → HasAt pages root (IsList xs) → HasAt pages root (IsList ys) → xs ≡ ys
same_list {pages} {root} {xs} {ys} a b = some_injective xs ys (sym a.has.slots ∙ (both a b).slots)

-- the sheet of the list with one item more
abbrev pub sheet_with : List (List ℕ) → Sheet → Sheet
sheet_with items sheet = record sheet { slots = map Some items }

free_behind : (items : List (List ℕ)) → IsFree (map Some items) (length items)
free_behind items =
    let long : length (map {B = Option (List ℕ)} Some items) ≡ length items = length-map items Some in
    record { next = omega arith; empty = get_or_past (map Some items) (length items) None (omega arith) }

-- the operation makes the list longer by the item
pub push_step : (t : Table) (items : List (List ℕ)) (item : List ℕ) (sheet : Sheet) → IsList items sheet → bytes_of (map Some (items ++ item ∷ [])) ≤ 4072 → step t (Put (length items) item) sheet ≡ Some (sheet_with (items ++ item ∷ []) sheet)
push_step t items item sheet h fits =
    let free : IsFree sheet.slots (length items) = subst (λ (s : List (Option (List ℕ))). IsFree s (length items)) (sym h.slots) (free_behind items) in
    let is : with_cell sheet.slots (length items) item ≡ map Some (items ++ item ∷ []) = ap (λ (s : List (Option (List ℕ))). with_cell s (length items) item) h.slots ∙ with_next items item in
    put_step t sheet (length items) item free (rw is fits) ∙ ap (λ (s : List (Option (List ℕ))). Some (record sheet { slots = s })) is

-- the operation may be done
pub push_possible : (t : Table) (v w : View) (root slot : ℕ) (items : List (List ℕ)) (item : List ℕ) → slot ≡ length items → OnlyReads v w → v.Shows → Stands v.space root items → CanPush v root item items → HasAt w.space.pages.at root (IsPossible t w root (Put slot item))
push_possible t v w root slot items item is reads shows stands can =
    subst (λ (n : ℕ). HasAt w.space.pages.at root (IsPossible t w root (Put n item))) (sym is) (record {
      what = stands.what;
      is = ap (λ (s : _). s.pages.at root) (reads.same shows) ∙ stands.is;
      has = record {
        plain = refl;
        fits = subst (λ (o : Option Sheet). IsSome o) (sym (push_step t items item stands.what stands.has can.fits)) refl;
        done = tt;
        short = omega arith;
        place = λ e. subst (λ (n : ℕ). w.MayHave root n) long (reads.keeps.may_have root (length items + 1) can.may);
      };
    })
  where
    long : length items + 1 ≡ length stands.what.slots + 1
    long = ap (λ (n : ℕ). n + 1) (sym (ap (λ (s : List (Option (List ℕ))). length s) stands.has.slots ∙ length-map items Some))

-- what it leaves
pub pushed : (t : Table) (u v w : View) (root slot : ℕ) (item : List ℕ) → OnlyReads u v → (u.Told → u.Shows) → IfList u root (λ items. slot ≡ length items) → HasList u root (CanPush u root item) → Changed t v w root (Put slot item) → Pushed u w root item
pushed t u v w root slot item reads shows is can did = record {
  keeps = λ told. keeps_then reads.keeps (record {
    told = did.told;
    may_take = did.may_take;
    may_have = λ p n h. by_page p n h;
  });
  done = λ told items stands.
      let same = reads.same (shows told) in
      let changed = did.pages (reads.keeps.told told) in
      let there : v.space.pages.at root ≡ Some stands.what = ap (λ (s : _). s.pages.at root) same ∙ stands.is in
      let made = push_step t items item stands.what stands.has (fits told items stands) in
      record {
        list = record {
          what = sheet_with (items ++ item ∷ []) stands.what;
          is = changed.here stands.what there ∙ (ap (λ (n : ℕ). step t (Put n item) stands.what) (is (shows told) items stands) ∙ made);
          has = record { kind = stands.has.kind; slots = refl };
        };
        others = λ p ne. changed.others p ne ∙ ap (λ (s : _). s.pages.at p) same;
        free = changed.free ∙ ap (λ (s : _). s.pages.free) same;
        bands = did.bands (reads.keeps.told told) ∙ ap (λ (s : _). s.bands) same;
      };
}
  where
    by_page : (p n : ℕ) → v.MayHave p n → w.MayHave p n
    by_page p n h = elim (cases_eq p root) as (λ _. w.MayHave p n) [
      | inl same ↦ subst (λ (k : ℕ). w.MayHave k n) (sym same) (did.may_still n (λ sheet e. refl) (subst (λ (k : ℕ). v.MayHave k n) same h))
      | inr other ↦ did.may_have p n other h
    ]

    fits : u.Told → (items : List (List ℕ)) → Stands u.space root items → bytes_of (map Some (items ++ item ∷ [])) ≤ 4072
    fits told items stands =
        let h = can told in
        subst (λ (xs : List (List ℕ)). bytes_of (map Some (xs ++ item ∷ [])) ≤ 4072) (same_list h.1 stands) h.2.fits
