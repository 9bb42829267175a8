-- Two touches are in conflict exactly where one of them is a write and they cover a common cell.
use Rattle.std.proofs.Common.{◌≡◌, ℕ, Bool, true, false, List, [], refl, sym, ap, ◌∙◌, subst}
use Rattle.std.proofs.Common.{inl, inr}
use Rattle.std.specs.Prelude.{◌||◌, IsTrue, ◌↔◌}
use Rattle.std.specs.Str.{bytes_eq}
use Rattle.std.proofs.lemmas.Bool.{eq-eqb}
use Rattle.sg_serial.specs.Locks.{Touch}
use Rattle.sg_serial.proofs.Free.{IsConflict}
use Rattle.sg_serial.proofs.Commute.{true_or_false, or_left, or_right}
use Rattle.sg_serial.proofs.Kept.{and_true, both_true, not_both}
use Rattle.sg_model.specs.Touches.{Part, Cell, Region, Resource, covers_part, covers, is_key, is_kind, same_part, same_region, same_resource, meet_regions, has_kind, meet, conflict, AreInConflict}
use Rattle.sg_model.specs.Touches.Part.{Kind, Length, Item, Key, Body, Buried}
use Rattle.sg_model.specs.Touches.Region.{Just, EachKey, Everything}
use Rattle.sg_model.specs.Touches.Resource.{Of, Names}
use Rattle.sg_model.proofs.Parts.{part_same, bytes_self, bytes_same}

pub part_self : (p : Part) → same_part p p ≡ true
part_self Kind = refl
part_self Length = refl
part_self (Item i) = eq_self i
  where
    eq_self : (i : ℕ) → same_part (Item i) (Item i) ≡ true
    eq_self i = eq-eqb i i refl
part_self (Key k) = bytes_self k
part_self Body = refl
part_self (Buried r) = eq-eqb r r refl

-- regions that cover a common part meet
met : (r s : Region) (p : Part) → covers_part r p ≡ true → covers_part s p ≡ true → meet_regions r s ≡ true
met (Just q) s p h i = subst (λ (x : Part). covers_part s x ≡ true) (sym (part_same q p h)) i
met EachKey (Just q) p h i = subst (λ (x : Part). is_key x ≡ true) (sym (part_same q p i)) h
met EachKey EachKey p h i = refl
met EachKey Everything p h i = refl
met Everything s p h i = refl

kind_covered : (r : Region) (p : Part) → covers_part r p ≡ true → is_kind p ≡ true → has_kind r ≡ true
kind_covered (Just q) p h i = subst (λ (x : Part). is_kind x ≡ true) (sym (part_same q p h)) i
kind_covered EachKey Kind h i = h
kind_covered EachKey Length h i = h
kind_covered EachKey (Item j) h i = h
kind_covered EachKey (Key k) h i = absurd (not_both false i refl)
kind_covered EachKey Body h i = h
kind_covered EachKey (Buried s) h i = h
kind_covered Everything p h i = refl

pub met_resources : (a b : Resource) (c : Cell) → covers a c ≡ true → covers b c ≡ true → meet a b ≡ true
met_resources (Of m r) (Of n s) c h i =
    let x = and_true (bytes_eq m c.name) (covers_part r c.part) h in
    let y = and_true (bytes_eq n c.name) (covers_part s c.part) i in
    both_true (bytes_eq m n) (meet_regions r s) (ap (λ (k : List ℕ). bytes_eq m k) (bytes_same n c.name y.0) ∙ x.0) (met r s c.part x.1 y.1)
met_resources (Of m r) Names c h i = kind_covered r c.part (and_true (bytes_eq m c.name) (covers_part r c.part) h).1 i
met_resources Names (Of n s) c h i = kind_covered s c.part (and_true (bytes_eq n c.name) (covers_part s c.part) i).1 h
met_resources Names Names c h i = refl

-- and those that meet cover one
abbrev Common : Region → Region → Type 0
Common r s = (p : Part) × (covers_part r p ≡ true) × (covers_part s p ≡ true)

common : (r s : Region) → meet_regions r s ≡ true → Common r s
common (Just p) s h = (p, part_self p, h)
common EachKey (Just p) h = (p, h, part_self p)
common EachKey EachKey h = (Key [], refl, refl)
common EachKey Everything h = (Key [], refl, refl)
common Everything (Just p) h = (p, refl, part_self p)
common Everything EachKey h = (Key [], refl, refl)
common Everything Everything h = (Kind, refl, refl)

kind_in : (r : Region) → has_kind r ≡ true → covers_part r Kind ≡ true
kind_in (Just Kind) h = refl
kind_in (Just Length) h = h
kind_in (Just (Item i)) h = h
kind_in (Just (Key k)) h = h
kind_in (Just Body) h = h
kind_in (Just (Buried s)) h = h
kind_in EachKey h = h
kind_in Everything h = refl

pub common_cell : (a b : Resource) → meet a b ≡ true → (c : Cell) × (covers a c ≡ true) × (covers b c ≡ true)
common_cell (Of m r) (Of n s) h =
    let x = and_true (bytes_eq m n) (meet_regions r s) h in
    let k = common r s x.1 in
    (record { name = m; part = k.0 }, both_true (bytes_eq m m) (covers_part r k.0) (bytes_self m) k.1, both_true (bytes_eq n m) (covers_part s k.0) (subst (λ (j : List ℕ). bytes_eq j m ≡ true) (bytes_same m n x.0) (bytes_self m)) k.2)
common_cell (Of m r) Names h = (record { name = m; part = Kind }, both_true (bytes_eq m m) (covers_part r Kind) (bytes_self m) (kind_in r h), refl)
common_cell Names (Of n s) h = (record { name = n; part = Kind }, refl, both_true (bytes_eq n n) (covers_part s Kind) (bytes_self n) (kind_in s h))
common_cell Names Names h = (record { name = []; part = Kind }, refl, refl)

pub conflict_exact : (a b : Touch Resource) → (conflict a b ≡ true → AreInConflict a b) × (AreInConflict a b → conflict a b ≡ true)
conflict_exact a b = (
  (λ h. (let x = and_true (a.write || b.write) (meet a.what b.what) h in (x.0, common_cell a.what b.what x.1))),
  (λ h. both_true (a.write || b.write) (meet a.what b.what) h.0 (met_resources a.what b.what h.1.0 h.1.1 h.1.2)),
)

-- the test of a conflict tells exactly whether there is one
pub conflict_is : (r : Bool) (a b : Touch Resource) → r ≡ conflict a b → IsTrue r ↔ AreInConflict a b
conflict_is r a b e = ((λ h. (conflict_exact a b).0 (sym e ∙ h)), (λ h. e ∙ (conflict_exact a b).1 h))

not_covered : (a b : Touch Resource) → conflict a b ≡ false → (a.write || b.write) ≡ true → (c : Cell) → covers a.what c ≡ true → covers b.what c ≡ false
not_covered a b n w c h = elim (true_or_false (covers b.what c)) [
  | inl y ↦ absurd (not_both (conflict a b) (both_true (a.write || b.write) (meet a.what b.what) w (met_resources a.what b.what c h y)) n)
  | inr z ↦ z
]

pub conflict_law : IsConflict covers conflict
conflict_law = record {
  first = λ a b n c w. (let x = and_true a.write (covers a.what c) w in not_covered a b n (or_left a.write b.write x.0) c x.1);
  second = λ a b n c w. (let x = and_true b.write (covers b.what c) w in elim (true_or_false (covers a.what c)) [
    | inl y ↦ absurd (not_both (covers b.what c) x.1 (not_covered a b n (or_right a.write b.write x.0) c y))
    | inr z ↦ z
  ]);
}

-- resources that are the same by the test are one
region_same : (r s : Region) → same_region r s ≡ true → r ≡ s
region_same (Just p) (Just q) h = ap Just (part_same p q h)
region_same EachKey EachKey h = refl
region_same Everything Everything h = refl
region_same r s h = absurd (cc)

pub resource_same : (a b : Resource) → same_resource a b ≡ true → a ≡ b
resource_same (Of m r) (Of n s) h = let x = and_true (bytes_eq m n) (same_region r s) h in ap (λ (k : List ℕ). Of k r) (bytes_same m n x.0) ∙ ap (λ (q : Region). Of n q) (region_same r s x.1)
resource_same Names Names h = refl
resource_same a b h = absurd (cc)

-- and a resource is the same as itself
region_self : (r : Region) → same_region r r ≡ true
region_self (Just p) = part_self p
region_self EachKey = refl
region_self Everything = refl

pub resource_self : (a : Resource) → same_resource a a ≡ true
resource_self (Of n r) = both_true (bytes_eq n n) (same_region r r) (bytes_self n) (region_self r)
resource_self Names = refl
