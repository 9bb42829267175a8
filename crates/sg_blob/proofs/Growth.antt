-- A blob gets more bands.
use Rattle.std.proofs.Common.{◌≡◌, ◌≢◌, ℕ, ◌+◌, ◌*◌, ◌<◌, ◌≤◌, ◌^◌, ◌++◌, ◌⊎◌, List, [], ◌∷◌, length, Some, sym, ap, ◌∙◌, refl, arith, slice_get, inl, inr, subst, append_assoc}
use Rattle.std.proofs.lemmas.Bool.{cases_eq}
use Rattle.std.proofs.lemmas.List.{length_push, get_or_past}
use Rattle.std.proofs.lemmas.Option.{slice_get_within}
use Rattle.byteorder.specs.Endian.{little_bytes}
use Rattle.sg_base.specs.Op.Op.{Put}
use Rattle.sg_base.specs.Sheet.{Sheet}
use Rattle.sg_ops.specs.Steps.{step}
use Rattle.sg_ops.specs.Table.{Table}
use Rattle.sg_space.specs.Bands.{IsEmptyBand}
use Rattle.sg_space.specs.Units.{Units, HasAt, IsChanged, IsTaken}
use Rattle.sg_space.specs.View.{View, Space}
use Rattle.sg_space.proofs.Known.{moved, same_some, keeps_same, keeps_then, writes_none, writes_then, writes_less}
use Rattle.sg_space.proofs.Putting.{slice_get-push_same, slice_get-push_other}
use Rattle.sg_blob.specs.Blob.{OwnsBand}
use Rattle.sg_blob.specs.Raw.{Raw, IsRaw, IsRoot, IsPart}
use Rattle.sg_blob.specs.Steps.{RawTurns, DidSome, CanAdd, CanGrow, IsGrown, Extends}
use Rattle.sg_blob.proofs.Roots.{root_with, band_step, sheet_with_band}
use Rattle.sg_blob.proofs.Turned.{band_not_none, root_changed, turns_same, turns_then}

abbrev pub with_band : ℕ → Raw → Raw
with_band q r = record r { bands = r.bands ++ (q ∷ []) }

pub pushed : (ps : List ℕ) (q i p : ℕ) → slice_get (ps ++ (q ∷ [])) i ≡ Some p → (slice_get ps i ≡ Some p) ⊎ ((i ≡ length ps) × (p ≡ q))
pushed ps q i p e = elim (cases_eq i (length ps)) [
  | inl is ↦ inr (is, same_some p q (sym e ∙ slice_get-push_same ps i q is))
  | inr ne ↦ inl (sym (slice_get-push_other ps i q ne) ∙ e)
]

pub in_front : (ps : List ℕ) (q i p : ℕ) → slice_get ps i ≡ Some p → slice_get (ps ++ (q ∷ [])) i ≡ Some p
in_front ps q i p e =
    let below : i < length ps = slice_get_within ps i p e in
    slice_get-push_other ps i q (λ is. omega arith) ∙ e

-- the last one is one of them
pub last_band : (ps : List ℕ) (n q : ℕ) → n ≡ q → OwnsBand (ps ++ (q ∷ [])) n
last_band ps n q same = (length ps, slice_get-push_same ps (length ps) q refl ∙ ap (λ (m : ℕ). Some m) (sym same))

-- an empty band has what is past the end
empty_part : (bytes band : List ℕ) (j : ℕ) → length bytes ≤ 32768 * j → IsEmptyBand band → IsPart bytes j band
empty_part bytes band j past h = record { size = h.size; each = λ m below. h.zero_at m ∙ sym (get_or_past bytes (32768 * j + m) 0 (omega arith)) }

-- a band that was free, and its number behind those of the root
pub record AddsBand (t : Table) (old mid new : Space) (root q : ℕ) (slot : ℕ) (cell : List ℕ) : Type 0 where
  pub took : IsTaken old.bands mid.bands q IsEmptyBand
  pub same_pages : mid.pages ≡ old.pages
  pub put : IsChanged mid.pages new.pages root (step t (Put slot cell))
  pub same_bands : new.bands ≡ mid.bands

module _ (t : Table) (old mid new : Space) (root q : ℕ) (r : Raw) (h : IsRaw old.pages.at old.bands.at root r) (below : length r.bands < 500) (small : q < 2 ^ 32) (a : AddsBand t old mid new root q (length r.bands + 1) (little_bytes 4 q)) where
  first : HasAt mid.pages.at root (IsRoot r.count r.peak r.bands)
  first = moved (ap (λ (u : Units Sheet). u.at root) a.same_pages) h.first

  mine : (b : ℕ) → OwnsBand r.bands b → b ≢ q
  mine b o same = band_not_none h b o (ap old.bands.at same ∙ a.took.was_free)

  stays : (b : ℕ) → b ≢ q → new.bands.at b ≡ old.bands.at b
  stays b ne = ap (λ (u : Units (List ℕ)). u.at b) a.same_bands ∙ a.took.others b ne

  fresh : (b i : ℕ) → b ≡ q → i ≡ length r.bands → HasAt new.bands.at b (IsPart r.bytes i)
  fresh b i same last = let enough = h.enough in record {
    what = a.took.fresh.what;
    is = ap (λ (u : Units (List ℕ)). u.at b) a.same_bands ∙ (ap mid.bands.at same ∙ a.took.fresh.is);
    has = empty_part r.bytes a.took.fresh.what i (omega arith) a.took.fresh.has;
  }

  raw : IsRaw new.pages.at new.bands.at root (with_band q r)
  raw = let enough = h.enough in let long : length (r.bands ++ (q ∷ [])) ≡ length r.bands + 1 = length_push r.bands q in record {
    first = record { what = sheet_with_band (length r.bands) q first.what; is = a.put.here first.what first.is ∙ band_step t q below first.has; has = root_with q below first.has };
    part = λ i b x. elim (pushed r.bands q i b x) [
      | inl y ↦ moved (stays b (mine b (i, y))) (h.part i b y)
      | inr y ↦ fresh b i y.1 y.0
    ];
    fit = λ i b x. elim (pushed r.bands q i b x) [ inl y ↦ h.fit i b y | inr y ↦ (let same = y.1 in omega arith) ];
    apart = λ i l b x z. elim (pushed r.bands q i b x) [
      | inl y ↦ elim (pushed r.bands q l b z) [ inl w ↦ h.apart i l b y w | inr w ↦ absurd (mine b (i, y) w.1) ]
      | inr y ↦ elim (pushed r.bands q l b z) [ inl w ↦ absurd (mine b (l, w) y.1) | inr w ↦ y.0 ∙ sym w.0 ]
    ];
    below_peak = h.below_peak;
    few = h.few;
    enough = omega arith;
  }

  added : RawTurns old new root r (with_band q r)
  added = record {
    raw = raw;
    pages = root_changed (λ p ne. a.put.others p ne ∙ ap (λ (u : Units Sheet). u.at p) a.same_pages) (a.put.free ∙ ap (λ (u : Units Sheet). u.free) a.same_pages) (a.put.count ∙ ap (λ (u : Units Sheet). u.count) a.same_pages);
    bands = record {
      others = λ b no. stays b (λ same. no (length r.bands, slice_get-push_same r.bands (length r.bands) q refl ∙ ap Some (sym same)));
      more = λ b o. (o.0, in_front r.bands q o.0 b o.1);
      taken = λ b o. elim (pushed r.bands q o.0 b o.1) [ inl y ↦ inl (o.0, y) | inr y ↦ inr (ap old.bands.at y.1 ∙ a.took.was_free) ];
      exactly = let long : length (r.bands ++ (q ∷ [])) ≡ length r.bands + 1 = length_push r.bands q in let free = a.took.free in let same : new.bands.free ≡ mid.bands.free = ap (λ (u : Units (List ℕ)). u.free) a.same_bands in omega arith;
      all = ap (λ (u : Units (List ℕ)). u.count) a.same_bands ∙ a.took.count;
    };
  }

pub add_turns : {t : Table} {old mid new : Space} {root q j : ℕ} {r : Raw} (cell : List ℕ) → cell ≡ little_bytes 4 q → length r.bands ≡ j → j < 500 → q < 2 ^ 32 → IsRaw old.pages.at old.bands.at root r → AddsBand t old mid new root q (j + 1) cell → RawTurns old new root r (with_band q r)
add_turns {t} {old} {mid} {new} {root} {q} {j} {r} cell e is below small h a =
    added t old mid new root q r h (omega arith) small (subst (λ (n : ℕ). AddsBand t old mid new root q (n + 1) (little_bytes 4 q)) (sym is) (subst (λ (c : List ℕ). AddsBand t old mid new root q (j + 1) c) e a))

append_nil : (xs : List ℕ) → xs ≡ xs ++ []
append_nil [] = refl
append_nil (x ∷ xs) = ap (λ (ys : List ℕ). x ∷ ys) (append_nil xs)

extends_then : {xs ys zs : List ℕ} → Extends xs ys → Extends ys zs → Extends xs zs
extends_then {xs} f g = record { more = f.more ++ g.more; is = g.is ∙ (ap (λ (ys : List ℕ). ys ++ g.more) f.is ∙ append_assoc xs f.more g.more) }

-- so many bands are there
pub record GrowsTo (v w : View) (root have next want : ℕ) : Type 0 where
  pub back : w.Told → v.Told
  pub later : v.faults ≤ w.faults
  pub from : have ≤ next
  pub within : next ≤ want
  pub did : DidSome v w root (CanGrow v root have want) (IsGrown next)

pub grows_none : {v : View} {root have want : ℕ} → have ≤ want → GrowsTo v v root have have want
grows_none {v} {root} {have} {want} order = record {
  back = λ t. t;
  later = omega arith;
  from = omega arith;
  within = order;
  did = record {
    keeps = λ t. keeps_same;
    turns = λ t r h can. (r, turns_same refl h, record { same_count = refl; same_peak = refl; same_bytes = refl; long = can.behind; extends = record { more = []; is = append_nil r.bands } }, writes_none (λ b was. was));
  };
}

pub can_add : {u v : View} {root have next want : ℕ} {r r' : Raw} → CanGrow u root have want r → have ≤ next → next < want → RawTurns u.space v.space root r r' → IsGrown next r r' → (u.MayTake → v.MayTake) → ((n : ℕ) → u.MayHave root n → v.MayHave root n) → CanAdd v root next r'
can_add can from below t g may_take may_have =
    let behind = can.behind in
    let free = can.free in
    let long = g.long in
    let exactly = t.bands.exactly in
    record {
      behind = g.long;
      free = omega arith;
      may_take = may_take (can.may_take (omega arith));
      may_fill = λ n le. may_have n (can.may_fill (omega arith) n le);
    }

pub grows_on : {u v w : View} {root have next want : ℕ} → GrowsTo u v root have next want → next < want → (w.Told → v.Told) → v.faults ≤ w.faults → DidSome v w root (CanAdd v root next) (IsGrown (next + 1)) → GrowsTo u w root have (next + 1) want
grows_on {u} {v} {w} {root} {have} {next} {want} i below told later d =
    let from = i.from in
    let before = i.later in
    record {
      back = λ t. i.back (told t);
      later = omega arith;
      from = omega arith;
      within = omega arith;
      did = record {
        keeps = λ t. keeps_then (i.did.keeps t) (d.keeps ((i.did.keeps t).told t));
        turns = λ t r h can.
            let kept = i.did.keeps t in
            let one = i.did.turns t r h can in
            let two = d.turns (kept.told t) one.0 (one.1).raw (can_add can i.from below one.1 one.2 kept.may_take (kept.may_have root)) in (
              two.0,
              turns_then one.1 two.1,
              record {
                same_count = (two.2).same_count ∙ (one.2).same_count;
                same_peak = (two.2).same_peak ∙ (one.2).same_peak;
                same_bytes = (two.2).same_bytes ∙ (one.2).same_bytes;
                long = (two.2).long;
                extends = extends_then (one.2).extends (two.2).extends;
              },
              writes_then (writes_less (two.1).bands.more one.3) two.3,
            );
      };
    }
