-- Rows whose objects are reached one after another.
use Rattle.std.proofs.Common.{◌≡◌, ℕ, suc, ◌+◌, ◌*◌, ◌<◌, ◌≤◌, List, [], ◌∷◌, ◌++◌, length, take, drop, get_or, Option, Some, None, slice_get, append_assoc, append-nil, refl, sym, ap, subst, ◌∙◌, arith, add-one}
use Rattle.std.specs.List.{filter_map}
use Rattle.std.proofs.Math.Seq.{take-suc}
use Rattle.std.proofs.lemmas.List.{take_all, take-append-drop}
use Rattle.std.proofs.lemmas.List.Elements.{filter_map-append}
use Rattle.sg_alloc.specs.declared.maps.Maps.{Maps}
use Rattle.sg_base.specs.Page.{cell_in}
use Rattle.sg_base.specs.Sheet.{Sheet}
use Rattle.sg_catalog.specs.Catalog.{Catalog, filled, row_at}
use Rattle.sg_catalog.specs.Steps.{part}
use Rattle.sg_catalog.specs.declared.row.Row.{Row}
use Rattle.sg_catalog.proofs.Lists.{split_at}
use Rattle.sg_catalog.proofs.Pages.{slot_read}
use Rattle.sg_catalog.proofs.Parts.{page_here, part_inside, length-part, part_at}
use Rattle.sg_space.specs.Units.{HasAt}
use Rattle.sg_space.specs.View.{View, Space, OnlyReads}
use Rattle.sg_space.proofs.Known.{reads_then}
use Rattle.sg_names.specs.Tally.{IsChain}
use Rattle.sg_reach.proofs.Walking.{reads_same}
use Rattle.sg_walk.specs.Bodies.{body_pages, body_bands, CanReachBody, ReachesBody}
use Rattle.sg_walk.specs.Marks.{CanSetBoth, AreSetBoth}
use Rattle.sg_walk.specs.Rows.{AreBodies, all_pages, all_bands, CanReachRows, ReachesRows, IsRowAt}
use Rattle.sg_contents.specs.Standing.{Body}
use Rattle.sg_walk.proofs.Both.{both_none, both_then, both_rest, both_front}
use Rattle.sg_walk.proofs.OneBody.{one_body}

pages_both : (s : Space) (xs ys : List Row) (ds bs : List Body) → AreBodies s xs ds → all_pages (xs ++ ys) (ds ++ bs) ≡ all_pages xs ds ++ all_pages ys bs
pages_both s [] ys [] bs h = refl
pages_both s [] ys (a ∷ ds) bs h = absurd h
pages_both s (x ∷ xs) ys [] bs h = absurd h
pages_both s (x ∷ xs) ys (a ∷ ds) bs h =
    ap (λ (ns : List ℕ). body_pages x.root.0 a ++ ns) (pages_both s xs ys ds bs h.1)
    ∙ sym (append_assoc (body_pages x.root.0 a) (all_pages xs ds) (all_pages ys bs))

bands_both : (ds bs : List Body) → all_bands (ds ++ bs) ≡ all_bands ds ++ all_bands bs
bands_both [] bs = refl
bands_both (a ∷ ds) bs = ap (λ (ns : List ℕ). body_bands a ++ ns) (bands_both ds bs) ∙ sym (append_assoc (body_bands a) (all_bands ds) (all_bands bs))

are_both : (s : Space) (xs ys : List Row) (ds bs : List Body) → AreBodies s xs ds → AreBodies s ys bs → AreBodies s (xs ++ ys) (ds ++ bs)
are_both s [] ys [] bs a b = b
are_both s [] ys (c ∷ ds) bs a b = absurd a
are_both s (x ∷ xs) ys [] bs a b = absurd a
are_both s (x ∷ xs) ys (c ∷ ds) bs a b = (a.0, are_both s xs ys ds bs a.1 b)

-- the bodies of the first rows, and of the others
record IsSplit (s : Space) (xs ys : List Row) (cs : List Body) : Type 0 where
  front : List Body
  back : List Body
  is : cs ≡ front ++ back
  front_are : AreBodies s xs front
  back_are : AreBodies s ys back

split_bodies : (s : Space) (xs ys : List Row) (cs : List Body) → AreBodies s (xs ++ ys) cs → IsSplit s xs ys cs
split_bodies s [] ys cs h = record { front = []; back = cs; is = refl; front_are = tt; back_are = h }
split_bodies s (x ∷ xs) ys [] h = absurd h
split_bodies s (x ∷ xs) ys (c ∷ cs) h =
    let r = split_bodies s xs ys cs h.1 in
    record { front = c ∷ r.front; back = r.back; is = ap (λ (bs : List Body). c ∷ bs) r.is; front_are = (h.0, r.front_are); back_are = r.back_are }

-- the bodies are these
bodies_same : (s : Space) (xs : List Row) (ds bs : List Body) → AreBodies s xs ds → AreBodies s xs bs → ds ≡ bs
bodies_same s [] [] [] h k = refl
bodies_same s [] (a ∷ ds) bs h k = absurd h
bodies_same s [] [] (b ∷ bs) h k = absurd k
bodies_same s (x ∷ xs) [] bs h k = absurd h
bodies_same s (x ∷ xs) (a ∷ ds) [] h k = absurd k
bodies_same s (x ∷ xs) (a ∷ ds) (b ∷ bs) h k =
    let e : a ≡ b = one_body s x.kind x.root.0 a b h.0 k.0 in
    ap (λ (c : Body). c ∷ ds) e ∙ ap (λ (cs : List Body). b ∷ cs) (bodies_same s xs ds bs h.1 k.1)

-- rows are reached, and then others
pub reaches_none : (s : Space) (flags : Maps) → ReachesRows s flags flags []
reaches_none s flags = record { bodies = []; are = tt; set = both_none flags }

pub reaches_then : {s : Space} {old mid new : Maps} (xs ys : List Row) → ReachesRows s old mid xs → ReachesRows s mid new ys → ReachesRows s old new (xs ++ ys)
reaches_then {s} {old} {mid} {new} xs ys a b =
    let set : AreSetBoth old new (all_pages xs a.bodies ++ all_pages ys b.bodies) (all_bands a.bodies ++ all_bands b.bodies) = both_then a.set b.set in
    record {
      bodies = a.bodies ++ b.bodies;
      are = are_both s xs ys a.bodies b.bodies a.are b.are;
      set = subst (λ (ns : List ℕ). AreSetBoth old new ns (all_bands (a.bodies ++ b.bodies))) (sym (pages_both s xs ys a.bodies b.bodies a.are))
          (subst (AreSetBoth old new (all_pages xs a.bodies ++ all_pages ys b.bodies)) (sym (bands_both a.bodies b.bodies)) set);
    }

pub reaches_row : {s : Space} {old new : Maps} (row : Row) → ReachesBody s row.kind row.root.0 old new → ReachesRows s old new (row ∷ [])
reaches_row {s} {old} {new} row h = record {
  bodies = h.body ∷ [];
  are = (h.is, tt);
  set = subst (λ (ns : List ℕ). AreSetBoth old new ns (body_bands h.body ++ [])) (sym (append-nil (body_pages row.root.0 h.body)))
      (subst (AreSetBoth old new (body_pages row.root.0 h.body)) (sym (append-nil (body_bands h.body))) h.set);
}

both_lists : (s : Space) (taken : Maps) (xs ys : List Row) (ds bs : List Body) → AreBodies s xs ds → CanSetBoth taken (all_pages (xs ++ ys) (ds ++ bs)) (all_bands (ds ++ bs)) → CanSetBoth taken (all_pages xs ds ++ all_pages ys bs) (all_bands ds ++ all_bands bs)
both_lists s taken xs ys ds bs h can =
    subst (λ (ns : List ℕ). CanSetBoth taken ns (all_bands ds ++ all_bands bs)) (pages_both s xs ys ds bs h)
    (subst (CanSetBoth taken (all_pages (xs ++ ys) (ds ++ bs))) (bands_both ds bs) can)

-- those that come later may still be reached
pub rest_rows : {s : Space} {old mid : Maps} (xs ys : List Row) → CanReachRows s old (xs ++ ys) → ReachesRows s old mid xs → CanReachRows s mid ys
rest_rows {s} {old} {mid} xs ys h r =
    let p = split_bodies s xs ys h.bodies h.are in
    let same : p.front ≡ r.bodies = bodies_same s xs p.front r.bodies p.front_are r.are in
    let can : CanSetBoth old (all_pages (xs ++ ys) (p.front ++ p.back)) (all_bands (p.front ++ p.back)) = subst (λ (bs : List Body). CanSetBoth old (all_pages (xs ++ ys) bs) (all_bands bs)) p.is h.can in
    let mine : CanSetBoth old (all_pages (xs ++ ys) (r.bodies ++ p.back)) (all_bands (r.bodies ++ p.back)) = subst (λ (bs : List Body). CanSetBoth old (all_pages (xs ++ ys) (bs ++ p.back)) (all_bands (bs ++ p.back))) same can in
    record { bodies = p.back; are = p.back_are; can = both_rest r.set (both_lists s old xs ys r.bodies p.back r.are mine) }

pub front_rows : {s : Space} {taken : Maps} (xs ys : List Row) → CanReachRows s taken (xs ++ ys) → CanReachRows s taken xs
front_rows {s} {taken} xs ys h =
    let p = split_bodies s xs ys h.bodies h.are in
    let can : CanSetBoth taken (all_pages (xs ++ ys) (p.front ++ p.back)) (all_bands (p.front ++ p.back)) = subst (λ (bs : List Body). CanSetBoth taken (all_pages (xs ++ ys) bs) (all_bands bs)) p.is h.can in
    record { bodies = p.front; are = p.front_are; can = both_front (all_pages ys p.back) (all_bands p.back) (both_lists s taken xs ys p.front p.back p.front_are can) }

pub can_row : {s : Space} {taken : Maps} (row : Row) (rest : List Row) → CanReachRows s taken (row ∷ rest) → CanReachBody s row.kind row.root.0 taken
can_row {s} {taken} row rest h = by_bodies h.bodies h.are h.can
  where
    by_bodies : (bs : List Body) → AreBodies s (row ∷ rest) bs → CanSetBoth taken (all_pages (row ∷ rest) bs) (all_bands bs) → CanReachBody s row.kind row.root.0 taken
    by_bodies [] are can = absurd are
    by_bodies (b ∷ bs) are can = record { body = b; is = are.0; can = both_front (all_pages rest bs) (all_bands bs) can }

-- the rows of one place more
pub filled_step : (places : List (Option Row)) (k : ℕ) → k < length places → filled (take (k + 1) places) ≡ filled (take k places) ++ filled (get_or places k None ∷ [])
filled_step places k below = ap (λ (n : ℕ). filled (take n places)) (add-one k) ∙ (ap filled (take-suc places k None below) ∙ filter_map-append (λ (x : Option Row). x) (take k places) (get_or places k None ∷ []))

pub filled_split : (places : List (Option Row)) (k : ℕ) → k < length places → filled places ≡ filled (take k places) ++ (filled (get_or places k None ∷ []) ++ filled (drop (suc k) places))
filled_split places k below =
    ap filled (split_at places k None below)
    ∙ (filter_map-append (λ (x : Option Row). x) (take k places) (get_or places k None ∷ drop (suc k) places)
    ∙ ap (λ (rs : List Row). filled (take k places) ++ rs) (filter_map-append (λ (x : Option Row). x) (get_or places k None ∷ []) (drop (suc k) places)))

-- the row in a slot is that of the place
pub row_here : {at : ℕ → Option Sheet} {count : ℕ} (c : Catalog) (j p k : ℕ) (row : Option Row) → IsChain at count c → slice_get c.pages j ≡ Some p → k < 79 → HasAt at p (IsRowAt k row) → row ≡ get_or (part j c.places) k None
row_here c j p k row h at small seen =
    let page = page_here j p seen.what h.raw at seen.is in
    seen.has ∙ (slot_read (cell_in (seen.what).slots k) (row_at c.places (79 * j + k)) (page.cells k small) (h.raw.formed (79 * j + k)) ∙ sym (part_at c.places j k small))

pub part_long : {at : ℕ → Option Sheet} {count : ℕ} (c : Catalog) (j p : ℕ) → IsChain at count c → slice_get c.pages j ≡ Some p → length (part j c.places) ≡ 79
part_long c j p h at = length-part c.places j (part_inside j h.raw at)

-- a walk over the rows of a page that has come to slot k
pub record RowsTo (v w : View) (count p : ℕ) (old now : Maps) (k : ℕ) : Type 0 where
  pub told : w.Told → v.Told
  pub later : v.faults ≤ w.faults
  pub kept : OnlyReads v w
  pub rows : v.Shows → (c : Catalog) (j : ℕ) → IsChain v.space.pages.at count c → slice_get c.pages j ≡ Some p → ReachesRows v.space old now (filled (take k (part j c.places)))

pub rows_start : (v : View) (count p : ℕ) (flags : Maps) → RowsTo v v count p flags flags 0
rows_start v count p flags = record { told = λ t. t; later = omega arith; kept = reads_same v; rows = λ s c j h at. reaches_none v.space flags }

pub rows_on : {u v w : View} {count p k : ℕ} {old mid new : Maps} (row : Option Row) → RowsTo u v count p old mid k → k < 79 → (w.Told → v.Told) → v.faults ≤ w.faults → OnlyReads v w → (u.Shows → HasAt u.space.pages.at p (IsRowAt k row)) → (u.Shows → ReachesRows u.space mid new (filled (row ∷ []))) → RowsTo u w count p old new (k + 1)
rows_on {u} {v} {w} {count} {p} {k} {old} {mid} {new} row i small told later kept seen reached =
    let first = i.later in
    record {
      told = λ t. i.told (told t);
      later = omega arith;
      kept = reads_then i.kept kept;
      rows = λ s c j h at.
          let long = part_long c j p h at in
          let here = row_here c j p k row h at small (seen s) in
          subst (ReachesRows u.space old new) (sym (filled_step (part j c.places) k (omega arith) ∙ ap (λ (o : Option Row). filled (take k (part j c.places)) ++ filled (o ∷ [])) (sym here)))
          (reaches_then (filled (take k (part j c.places))) (filled (row ∷ [])) (i.rows s c j h at) (reached s));
    }

-- what the next row reaches may be set
pub row_may : {u v : View} {count p k : ℕ} {old mid : Maps} (row : Row) (c : Catalog) (j : ℕ) → RowsTo u v count p old mid k → k < 79 → u.Shows → IsChain u.space.pages.at count c → slice_get c.pages j ≡ Some p → HasAt u.space.pages.at p (IsRowAt k (Some row)) → CanReachRows u.space old (filled (part j c.places)) → CanReachBody u.space row.kind row.root.0 mid
row_may {u} {v} {count} {p} {k} {old} {mid} row c j i small s h at seen can =
    let long = part_long c j p h at in
    let here = row_here c j p k (Some row) h at small seen in
    let split = filled_split (part j c.places) k (omega arith) ∙ ap (λ (o : Option Row). filled (take k (part j c.places)) ++ (filled (o ∷ []) ++ filled (drop (suc k) (part j c.places)))) (sym here) in
    can_row row (filled (drop (suc k) (part j c.places))) (rest_rows (filled (take k (part j c.places))) (row ∷ filled (drop (suc k) (part j c.places))) (subst (CanReachRows u.space old) split can) (i.rows s c j h at))

pub rows_all : {s : Space} {count : ℕ} (c : Catalog) (j p k : ℕ) (old new : Maps) → IsChain s.pages.at count c → slice_get c.pages j ≡ Some p → 79 ≤ k → ReachesRows s old new (filled (take k (part j c.places))) → ReachesRows s old new (filled (part j c.places))
rows_all {s} c j p k old new h page past r = let long = part_long c j p h page in subst (λ (xs : List (Option Row)). ReachesRows s old new (filled xs)) (take_all k (part j c.places) (omega arith)) r
