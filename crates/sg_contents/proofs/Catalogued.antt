-- What contents are, and mean, once the catalogue is another one.
use Rattle.std.proofs.Common.{◌≡◌, ◌≢◌, ℕ, zero, suc, ◌+◌, ◌≤◌, ◌==◌, ◌&&◌, inl, inr, Bool, true, false, cond, List, [], ◌∷◌, ◌++◌, length, map, Option, Some, None, option_map, refl, sym, ap, ◌∙◌, subst, arith, slice_get}
use Rattle.std.specs.Prelude.{option_and_then}
use Rattle.std.specs.List.{find, count_by}
use Rattle.std.specs.Str.{bytes_eq}
use Rattle.std.specs.FinMap.{get}
use Rattle.std.proofs.lemmas.List.{length-map}
use Rattle.std.proofs.lemmas.List.Sums.{sum_by-cons}
use Rattle.std.proofs.lemmas.Slice.Eq.{bytes_eq-Decides}
use Rattle.sg_base.specs.declared.numbers.TxnId.{TxnId}
use Rattle.sg_space.specs.Units.{IsExact}
use Rattle.sg_space.specs.View.{Space}
use Rattle.sg_space.proofs.Few.{AreApart, few_units}
use Rattle.sg_catalog.specs.Calls as catalog
use Rattle.sg_catalog.specs.Calls.{IsOneMore, IsInPlace, IsAdded, IsBuried, IsRaised, IsRemoved, tomb_by, object}
use Rattle.sg_catalog.specs.Catalog.{Catalog, rows, there, is_there, is_tomb, is_tomb_of}
use Rattle.sg_catalog.specs.declared.row.Row.{Row}
use Rattle.sg_catalog.proofs.Lists.{found_passes}
use Rattle.sg_catalog.proofs.Maps.{there_named, there_object, not_tomb}
use Rattle.sg_catalog.proofs.Rows.{count_more, count_place}
use Rattle.sg_reading.specs.Reading.{Tomb}
use Rattle.sg_contents.specs.Standing.{Body, Contents, Holds, IsAmong, OwnsPage, is_at}
use Rattle.sg_contents.specs.Changes.{with_body, BodyMade, BodyGone, IsNamedIn, AreWithin}
use Rattle.sg_contents.specs.Meaning.{thing_of, thing_at, tomb_at, reading}
use Rattle.sg_contents.proofs.Among.{eq_self, found_among, among_less, among_more, among_mid, counted}
use Rattle.sg_contents.proofs.Finding.{same_tombs, tomb_comes, tomb_goes, tomb_is, tomb_root, tomb_name}
use Rattle.sg_contents.proofs.Framing.{body_here, body_there, body_made, new_root, body_gone, catalog_turned, holds_within}
use Rattle.sg_contents.proofs.Reading.{get_thing, get_tomb, tomb_of, tomb_in}
use Rattle.sg_contents.proofs.Standing.{page_there, root_owned}

-- ROWS WITHIN OTHERS
itself : (ys : List Row) (x : Row) → IsAmong ys x → IsNamedIn ys x
itself ys x a = record { was = x; among = a; kind_is = refl; root_is = refl }

cons_counted : (p : Row → Bool) (x : Row) (xs : List Row) → count_by p (x ∷ xs) ≡ cond {A = ℕ} (p x) 1 0 + count_by p xs
cons_counted p x xs = sum_by-cons (λ (r : Row). cond {A = ℕ} (p r) 1 0) x xs

-- one row more is that row beside the others
pub within_more : {row : Row} {xs ys : List Row} → IsOneMore row xs ys → AreWithin ys (row ∷ xs)
within_more {row} {xs} {ys} h = record {
  each = λ x a. itself (row ∷ xs) x (elim (among_less h.front h.back row x (subst (λ (zs : List Row). IsAmong zs x) h.more_is a)) [
    | inl e ↦ inl e
    | inr b ↦ inr (subst (λ (zs : List Row). IsAmong zs x) (sym h.less_is) b)
  ]);
  counts = λ root. (let a = count_more (is_at root) h in let b = cons_counted (is_at root) row xs in omega arith);
}

-- and the other way round
pub within_less : {row : Row} {xs ys : List Row} → IsOneMore row xs ys → AreWithin (row ∷ xs) ys
within_less {row} {xs} {ys} h = record {
  each = λ x a. itself ys x (subst (λ (zs : List Row). IsAmong zs x) (sym h.more_is) (elim a [
    | inl e ↦ subst (λ (r : Row). IsAmong (h.front ++ (row ∷ h.back)) r) (sym e) (among_mid h.front h.back row)
    | inr b ↦ among_more h.front h.back row x (subst (λ (zs : List Row). IsAmong zs x) h.less_is b)
  ]));
  counts = λ root. (let a = count_more (is_at root) h in let b = cons_counted (is_at root) row xs in omega arith);
}

-- a row in the place of another one that names the same
pub within_place : {was now : Row} {xs ys : List Row} → IsInPlace was now xs ys → was.kind ≡ now.kind → was.root.0 ≡ now.root.0 → AreWithin ys xs
within_place {was} {now} {xs} {ys} h kind root = record {
  each = λ x a. elim (among_less h.front h.back now x (subst (λ (zs : List Row). IsAmong zs x) h.after_is a)) [
    | inl e ↦ record {
      was = was;
      among = subst (λ (zs : List Row). IsAmong zs was) (sym h.before_is) (among_mid h.front h.back was);
      kind_is = kind ∙ ap (λ (r : Row). r.kind) (sym e);
      root_is = root ∙ ap (λ (r : Row). r.root.0) (sym e);
    }
    | inr b ↦ itself xs x (subst (λ (zs : List Row). IsAmong zs x) (sym h.before_is) (among_more h.front h.back was x b))
  ];
  counts = λ r. (let a = count_place (is_at r) h in let same : cond {A = ℕ} (is_at r was) 1 0 ≡ cond {A = ℕ} (is_at r now) 1 0 = ap (λ (n : ℕ). cond {A = ℕ} (n == r) 1 0) root in omega arith);
}

-- HOW MANY ROWS: fewer than there are pages
root_at : (xs : List Row) (i x : ℕ) → slice_get (map (λ (r : Row). r.root.0) xs) i ≡ Some x → (row : Row) × IsAmong xs row × (row.root.0 ≡ x)
root_at [] i x e = absurd (cc)
root_at (r ∷ xs) zero x e = (r, inl refl, cc)
root_at (r ∷ xs) (suc i) x e = let one = root_at xs i x e in (one.0, inr one.1, one.2)

twice : (r : Row) (xs : List Row) → ((root : ℕ) → count_by (is_at root) (r ∷ xs) ≤ 1) → (j x : ℕ) → Some r.root.0 ≡ Some x → slice_get (map (λ (r : Row). r.root.0) xs) j ≡ Some x → ⊥
twice r xs once j x e f =
    let one = root_at xs j x f in
    let here : r.root.0 ≡ x = cc in
    let sum = cons_counted (is_at x) r xs in
    let first : cond {A = ℕ} (is_at x r) 1 0 ≡ 1 = ap (λ (t : Bool). cond {A = ℕ} t 1 0) (ap (λ (n : ℕ). n == x) here ∙ eq_self x) in
    let later = counted (is_at x) xs one.0 one.1 (ap (λ (n : ℕ). n == x) one.2 ∙ eq_self x) in
    let most = once x in
    omega arith

pub roots_apart : (xs : List Row) → ((root : ℕ) → count_by (is_at root) xs ≤ 1) → AreApart (map (λ (r : Row). r.root.0) xs)
roots_apart [] once i j x e f = absurd (cc)
roots_apart (r ∷ xs) once zero zero x e f = refl
roots_apart (r ∷ xs) once zero (suc j) x e f = absurd (twice r xs once j x e f)
roots_apart (r ∷ xs) once (suc i) zero x e f = absurd (twice r xs once i x f e)
roots_apart (r ∷ xs) once (suc i) (suc j) x e f =
    let rest = roots_apart xs (λ root. (let a = once root in let b = cons_counted (is_at root) r xs in omega arith)) i j x e f in
    ap suc rest

pub few_rows : {kept : ℕ} {space : Space} {s : Contents} {xs : List Row} → Holds kept space s xs → IsExact space.pages → length xs + 1 ≤ space.pages.count
few_rows {kept} {space} {s} {xs} h exact =
    let all : length (0 ∷ map (λ (r : Row). r.root.0) xs) ≤ space.pages.count = few_units (0 ∷ map (λ (r : Row). r.root.0) xs) exact apart there in
    let same : length (map (λ (r : Row). r.root.0) xs) ≡ length xs = length-map xs (λ (r : Row). r.root.0) in
    omega arith
  where
    first : (row : Row) → IsAmong xs row → row.root.0 ≡ 0 → ⊥
    first row a e = h.beside row a 0 (subst (λ (n : ℕ). OwnsPage row.root.0 (s.body row.root.0) n) e (root_owned row.root.0 (s.body row.root.0))) (0, ((h.catalog).raw).first)

    apart : AreApart (0 ∷ map (λ (r : Row). r.root.0) xs)
    apart zero zero x e f = refl
    apart zero (suc j) x e f = let one = root_at xs j x f in absurd (first one.0 one.1 (one.2 ∙ cc))
    apart (suc i) zero x e f = let one = root_at xs i x e in absurd (first one.0 one.1 (one.2 ∙ cc))
    apart (suc i) (suc j) x e f = ap suc (roots_apart xs h.once i j x e f)

    there : (i x : ℕ) → slice_get (0 ∷ map (λ (r : Row). r.root.0) xs) i ≡ Some x → space.pages.at x ≡ None → ⊥
    there zero x e none = let page = ((h.catalog).raw).page 0 0 ((h.catalog).raw).first in let z : 0 ≡ x = cc in let all = sym page.is ∙ (ap space.pages.at z ∙ none) in (cc)
    there (suc i) x e none =
        let one = root_at xs i x e in
        page_there space (one.0).kind (one.0).root.0 (s.body (one.0).root.0) (h.body one.0 one.1) x (subst (λ (n : ℕ). OwnsPage (one.0).root.0 (s.body (one.0).root.0) n) one.2 (root_owned (one.0).root.0 (s.body (one.0).root.0))) none

-- BODIES THAT ARE THE SAME WHERE ROWS ARE FOUND
pub same_thing : (body body' : ℕ → Body) (o : Option Row) → ((x : Row) → o ≡ Some x → body' x.root.0 ≡ body x.root.0) → option_map (thing_at body') o ≡ option_map (thing_at body) o
same_thing body body' None same = refl
same_thing body body' (Some x) same = ap (λ (c : Body). Some (thing_of x.root.0 c)) (same x refl)

tomb_same : (body body' : ℕ → Body) (x : Row) (d : Option TxnId) → body' x.root.0 ≡ body x.root.0 → tomb_of body' x d ≡ tomb_of body x d
tomb_same body body' x None e = refl
tomb_same body body' x (Some by) e = ap (λ (c : Body). Some (record { dropper = by.0; thing = thing_of x.root.0 c })) e

pub same_tomb : (body body' : ℕ → Body) (o : Option Row) → ((x : Row) → o ≡ Some x → body' x.root.0 ≡ body x.root.0) → option_and_then (tomb_in body') o ≡ option_and_then (tomb_in body) o
same_tomb body body' None same = refl
same_tomb body body' (Some x) same = tomb_same body body' x x.dropper (same x refl)

-- A BODY IS MADE, AND THEN ITS ROW
module _ {kept : ℕ} {old mid new : Space} {s : Contents} {row : Row} {b : Body} {c : Catalog} (h : Holds kept old s (rows s.catalog)) (m : BodyMade old mid row.kind row.root.0 b) (t : catalog.Turns mid new s.catalog c) (a : IsAdded row s.catalog c) where
  abbrev pub with_row : Contents
  with_row = record { catalog = c; body = (with_body row.root.0 b s).body }

  pub row_made : Holds kept new with_row (rows c)
  row_made = holds_within (catalog_turned (body_made row b h m) t) (within_more a.rows_are)

  far : (x : Row) → IsAmong (rows s.catalog) x → with_row.body x.root.0 ≡ s.body x.root.0
  far x among = body_there row.root.0 b s x.root.0 (new_root row b h m x among)

  pub made_thing : get (reading with_row).things row.name ≡ Some (thing_of row.root.0 b)
  made_thing = get_thing with_row row.name ∙ (ap (option_map (thing_at with_row.body)) (a.map).here ∙ ap (λ (d : Body). Some (thing_of row.root.0 d)) (body_here row.root.0 b s row.root.0 refl))

  pub made_others : (other : List ℕ) → other ≢ row.name → get (reading with_row).things other ≡ get (reading s).things other
  made_others other ne =
      get_thing with_row other
      ∙ (ap (option_map (thing_at with_row.body)) ((a.map).others other ne)
      ∙ (same_thing s.body with_row.body (there other (rows s.catalog)) (λ x e. far x (found_among (is_there other) (rows s.catalog) x e))
      ∙ sym (get_thing s other)))

  pub made_tombs : is_tomb row ≡ false → (root : ℕ) (other : List ℕ) → get (reading with_row).tombs (root ∷ other) ≡ get (reading s).tombs (root ∷ other)
  made_tombs object root other =
      get_tomb with_row root other
      ∙ (ap (option_and_then (tomb_in with_row.body)) (same_tombs other root a.rows_are object)
      ∙ (same_tomb s.body with_row.body (find (is_tomb_of other root) (rows s.catalog)) (λ x e. far x (found_among (is_tomb_of other root) (rows s.catalog) x e))
      ∙ sym (get_tomb s root other)))

-- AN OBJECT IS BURIED
module _ {kept : ℕ} {old new : Space} {s : Contents} {c : Catalog} (name : List ℕ) (by : TxnId) (h : Holds kept old s (rows s.catalog)) (t : catalog.Turns old new s.catalog c) (a : IsBuried name by s.catalog c) where
  abbrev pub without : Contents
  without = record s { catalog = c }

  abbrev pub gone : Row
  gone = (a.change).row

  pub row_buried : Holds kept new without (rows c)
  row_buried = holds_within (catalog_turned h t) (within_place (a.change).rows_are refl refl)

  pub buried_thing : get (reading without).things name ≡ None
  buried_thing = get_thing without name ∙ ap (option_map (thing_at s.body)) (a.map).here

  pub buried_others : (other : List ℕ) → other ≢ name → get (reading without).things other ≡ get (reading s).things other
  buried_others other ne = get_thing without other ∙ (ap (option_map (thing_at s.body)) ((a.map).others other ne) ∙ sym (get_thing s other))

  named : gone.name ≡ name
  named = there_named name (rows s.catalog) gone (a.change).was

  plain : is_tomb gone ≡ false
  plain = not_tomb gone (there_object name (rows s.catalog) gone (a.change).was)

  picked : (t : Bool) (o : Option Row) → option_and_then (tomb_in s.body) (cond t (Some (tomb_by by gone)) o) ≡ cond t (Some (tomb_at s.body by gone)) (option_and_then (tomb_in s.body) o)
  picked true o = refl
  picked false o = refl

  tomb_then : (root : ℕ) (other : List ℕ) (t : Bool) → is_tomb_of other root (tomb_by by gone) ≡ t → get (reading without).tombs (root ∷ other) ≡ cond t (Some (tomb_at s.body by gone)) (get (reading s).tombs (root ∷ other))
  tomb_then root other t e =
      get_tomb without root other
      ∙ (ap (option_and_then (tomb_in s.body)) (tomb_comes other root (a.change).rows_are h.once plain refl ∙ ap (λ (b : Bool). cond b (Some (tomb_by by gone)) (find (is_tomb_of other root) (rows s.catalog))) e)
      ∙ (picked t (find (is_tomb_of other root) (rows s.catalog))
      ∙ ap (λ (o : Option Tomb). cond t (Some (tomb_at s.body by gone)) o) (sym (get_tomb s root other))))

  pub buried_tomb : (root : ℕ) → get (reading without).tombs (root ∷ name) ≡ cond (gone.root.0 == root) (Some (tomb_at s.body by gone)) (get (reading s).tombs (root ∷ name))
  buried_tomb root = tomb_then root name (gone.root.0 == root) (ap (λ (b : Bool). (gone.root.0 == root) && b) ((bytes_eq-Decides gone.name name).1 named) ∙ and_true (gone.root.0 == root))
    where
      and_true : (b : Bool) → (b && true) ≡ b
      and_true true = refl
      and_true false = refl

  pub buried_tombs : (root : ℕ) (other : List ℕ) → other ≢ name → get (reading without).tombs (root ∷ other) ≡ get (reading s).tombs (root ∷ other)
  buried_tombs root other ne = tomb_then root other false (ap (λ (b : Bool). (gone.root.0 == root) && b) (fails (bytes_eq gone.name other) refl) ∙ and_false (gone.root.0 == root))
    where
      and_false : (b : Bool) → (b && false) ≡ false
      and_false true = refl
      and_false false = refl

      fails : (b : Bool) → bytes_eq gone.name other ≡ b → b ≡ false
      fails true e = absurd (ne (sym ((bytes_eq-Decides gone.name other).0 e) ∙ named))
      fails false e = refl

-- A TOMBSTONE IS AN OBJECT AGAIN
module _ {kept : ℕ} {old new : Space} {s : Contents} {c : Catalog} (name : List ℕ) (root : ℕ) (h : Holds kept old s (rows s.catalog)) (t : catalog.Turns old new s.catalog c) (a : IsRaised name root s.catalog c) where
  abbrev pub with_object : Contents
  with_object = record s { catalog = c }

  abbrev pub back : Row
  back = (a.change).row

  pub row_raised : Holds kept new with_object (rows c)
  row_raised = holds_within (catalog_turned h t) (within_place (a.change).rows_are refl refl)

  pub raised_thing : get (reading with_object).things name ≡ Some (thing_at s.body back)
  raised_thing = get_thing with_object name ∙ ap (option_map (thing_at s.body)) (a.map).here

  pub raised_others : (other : List ℕ) → other ≢ name → get (reading with_object).things other ≡ get (reading s).things other
  raised_others other ne = get_thing with_object other ∙ (ap (option_map (thing_at s.body)) ((a.map).others other ne) ∙ sym (get_thing s other))

  passes : is_tomb_of name root back ≡ true
  passes = found_passes (is_tomb_of name root) (rows s.catalog) back (a.change).was

  chosen : (t : Bool) (o : Option Row) → option_and_then (tomb_in s.body) (cond t None o) ≡ cond t None (option_and_then (tomb_in s.body) o)
  chosen true o = refl
  chosen false o = refl

  tomb_now : (r : ℕ) (other : List ℕ) (t : Bool) → is_tomb_of other r back ≡ t → get (reading with_object).tombs (r ∷ other) ≡ cond t None (get (reading s).tombs (r ∷ other))
  tomb_now r other t e =
      get_tomb with_object r other
      ∙ (ap (option_and_then (tomb_in s.body)) (tomb_goes other r (a.change).rows_are h.once refl ∙ ap (λ (b : Bool). cond b None (find (is_tomb_of other r) (rows s.catalog))) e)
      ∙ (chosen t (find (is_tomb_of other r) (rows s.catalog))
      ∙ ap (λ (o : Option Tomb). cond t None o) (sym (get_tomb s r other))))

  tested : (r : ℕ) (other : List ℕ) → is_tomb_of other r back ≡ ((root == r) && bytes_eq name other)
  tested r other =
      ap (λ (b : Bool). (b && (back.root.0 == r)) && bytes_eq back.name other) (tomb_is name root back passes)
      ∙ (ap (λ (n : ℕ). (n == r) && bytes_eq back.name other) (tomb_root name root back passes)
      ∙ ap (λ (n : List ℕ). (root == r) && bytes_eq n other) (tomb_name name root back passes))

  pub raised_tomb : (r : ℕ) → get (reading with_object).tombs (r ∷ name) ≡ cond (root == r) None (get (reading s).tombs (r ∷ name))
  raised_tomb r = tomb_now r name (root == r) (tested r name ∙ (ap (λ (b : Bool). (root == r) && b) ((bytes_eq-Decides name name).1 refl) ∙ and_true (root == r)))
    where
      and_true : (b : Bool) → (b && true) ≡ b
      and_true true = refl
      and_true false = refl

  pub raised_tombs : (r : ℕ) (other : List ℕ) → other ≢ name → get (reading with_object).tombs (r ∷ other) ≡ get (reading s).tombs (r ∷ other)
  raised_tombs r other ne = tomb_now r other false (tested r other ∙ (ap (λ (b : Bool). (root == r) && b) (fails (bytes_eq name other) refl) ∙ and_false (root == r)))
    where
      and_false : (b : Bool) → (b && false) ≡ false
      and_false true = refl
      and_false false = refl

      fails : (b : Bool) → bytes_eq name other ≡ b → b ≡ false
      fails true e = absurd (ne (sym ((bytes_eq-Decides name other).0 e)))
      fails false e = refl

-- AN OBJECT IS UNMADE: its row goes, and then its body
module _ {kept : ℕ} {old mid : Space} {s : Contents} {c : Catalog} (name : List ℕ) (h : Holds kept old s (rows s.catalog)) (t : catalog.Turns old mid s.catalog c) (a : IsRemoved name s.catalog c) where
  abbrev pub without_row : Contents
  without_row = record s { catalog = c }

  abbrev pub unmade : Row
  unmade = (a.change).row

  -- between the two the body stands beside the rows
  pub body_left : Holds kept mid without_row (unmade ∷ rows c)
  body_left = holds_within (catalog_turned h t) (within_less (a.change).rows_are)

  pub row_gone : {new : Space} → BodyGone mid new unmade.root.0 (s.body unmade.root.0) → Holds kept new without_row (rows c)
  row_gone g = body_gone unmade body_left g

  pub unmade_thing : get (reading without_row).things name ≡ None
  unmade_thing = get_thing without_row name ∙ ap (option_map (thing_at s.body)) (a.map).here

  pub unmade_others : (other : List ℕ) → other ≢ name → get (reading without_row).things other ≡ get (reading s).things other
  unmade_others other ne = get_thing without_row other ∙ (ap (option_map (thing_at s.body)) ((a.map).others other ne) ∙ sym (get_thing s other))

  pub unmade_tombs : (root : ℕ) (other : List ℕ) → get (reading without_row).tombs (root ∷ other) ≡ get (reading s).tombs (root ∷ other)
  unmade_tombs root other =
      get_tomb without_row root other
      ∙ (ap (option_and_then (tomb_in s.body)) (sym (same_tombs other root (a.change).rows_are (not_tomb unmade (there_object name (rows s.catalog) unmade (a.change).was))))
      ∙ sym (get_tomb s root other))
