-- A redo point that the pool's changes allow stays one.
use Rattle.std.proofs.Common.{◌≡◌, ◌⊎◌, ⊎_elim, ◌<◌, ◌≤◌, ℕ, Bool, true, false, Option, Some, None, unwrap_or, if◌then◌else◌, List, refl, sym, subst, arith}
use Rattle.std.proofs.lemmas.Bool.{cases_eq}
use Rattle.sg_redo.specs.History.{applies}
use Rattle.sg_pool.specs.Units.{Geometry, Units, IsCleaned}
use Rattle.sg_pool.specs.Changed.{IsChanged, IsWritten}
use Rattle.sg_engine.specs.Kept.{AreBehind, IsEarly}

-- it is at or before the tail
at_tail : (k t : ℕ) (o : Option ℕ) → k ≤ unwrap_or o t → ((j : ℕ) → o ≡ Some j → j < t) → k ≤ t
at_tail k t None early low = early
at_tail k t (Some j) early low = let lt = low j refl in omega arith

later : (k t t' : ℕ) (o : Option ℕ) → t ≤ t' → k ≤ unwrap_or o t → k ≤ unwrap_or o t'
later k t t' None le early = omega arith
later k t t' (Some j) le early = early

cleaned : (k t : ℕ) (o o' : Option ℕ) → k ≤ unwrap_or o t → ((j : ℕ) → o ≡ Some j → j < t) → (o' ≡ o) ⊎ (o' ≡ None) → k ≤ unwrap_or o' t
cleaned k t o o' early low which = ⊎_elim
    (λ same. subst (λ (x : Option ℕ). k ≤ unwrap_or x t) (sym same) early)
    (λ none. subst (λ (x : Option ℕ). k ≤ unwrap_or x t) (sym none) (at_tail k t o early low))
    which

-- units that went home
pub early_cleaned : (g : Geometry) (t k : ℕ) (m m' : Units) → IsEarly g t k m → AreBehind g t m → IsCleaned g m m' → IsEarly g t k m'
early_cleaned g t k m m' early behind is = record {
  pages = λ n lt. cleaned k t (m.page_since n) (m'.page_since n) (early.pages n lt) (λ j had. behind.pages n j lt had) (is.page_since n lt);
  bands = λ b lt. cleaned k t (m.band_since b) (m'.band_since b) (early.bands b lt) (λ j had. behind.bands b j lt had) (is.band_since b);
}

pub early_at : (g : Geometry) (t t' k : ℕ) (m : Units) → t ≤ t' → IsEarly g t k m → IsEarly g t' k m
early_at g t t' k m le early = record { pages = λ n lt. later k t t' (m.page_since n) le (early.pages n lt); bands = λ b lt. later k t t' (m.band_since b) le (early.bands b lt) }

first_or : (k t l t' : ℕ) (o : Option ℕ) → k ≤ unwrap_or o t → t ≤ l → k ≤ unwrap_or (Some (unwrap_or o l)) t'
first_or k t l t' None early le = omega arith
first_or k t l t' (Some j) early le = early

changed : (k t l t' : ℕ) (o : Option ℕ) (b : Bool) → k ≤ unwrap_or o t → t ≤ l → l ≤ t' → k ≤ unwrap_or (if b then Some (unwrap_or o l) else o) t'
changed k t l t' o true early le low = first_or k t l t' o early le
changed k t l t' o false early le low = later k t t' o (omega arith) early

-- a page that was changed
pub early_changed : (g : Geometry) (t t' k p l : ℕ) (makes : List ℕ → Option (List ℕ)) (m m' : Units) → t ≤ l → l ≤ t' → IsEarly g t k m → IsChanged p (record { lsn = l; makes = makes }) m m' → IsEarly g t' k m'
early_changed g t t' k p l makes m m' le low early is = record {
  pages = λ n lt. ⊎_elim
      (λ same. subst (λ (x : ℕ). k ≤ unwrap_or (m'.page_since x) t') (sym same) (subst (λ (o : Option ℕ). k ≤ unwrap_or o t') (sym is.since)
      (changed k t l t' (m.page_since p) (applies (record { lsn = l; makes = makes }) (m.page p)) (subst (λ (x : ℕ). k ≤ unwrap_or (m.page_since x) t) same (early.pages n lt)) le low)))
      (λ differ. subst (λ (o : Option ℕ). k ≤ unwrap_or o t') (sym (is.other_sinces n differ)) (later k t t' (m.page_since n) (omega arith) (early.pages n lt)))
      (cases_eq n p);
  bands = λ b lt. subst (λ (o : Option ℕ). k ≤ unwrap_or o t') (sym (is.band_since b)) (later k t t' (m.band_since b) (omega arith) (early.bands b lt));
}

-- a band that was written
pub early_written : (g : Geometry) (t t' k b l at : ℕ) (bytes : List ℕ) (m m' : Units) → t ≤ l → l ≤ t' → IsEarly g t k m → IsWritten b l at bytes m m' → IsEarly g t' k m'
early_written g t t' k b l at bytes m m' le low early is = record {
  pages = λ n lt. subst (λ (o : Option ℕ). k ≤ unwrap_or o t') (sym (is.page_since n)) (later k t t' (m.page_since n) (omega arith) (early.pages n lt));
  bands = λ c lt. ⊎_elim
      (λ same. subst (λ (x : ℕ). k ≤ unwrap_or (m'.band_since x) t') (sym same) (subst (λ (o : Option ℕ). k ≤ unwrap_or o t') (sym is.since)
      (first_or k t l t' (m.band_since b) (subst (λ (x : ℕ). k ≤ unwrap_or (m.band_since x) t) same (early.bands c lt)) le)))
      (λ differ. subst (λ (o : Option ℕ). k ≤ unwrap_or o t') (sym (is.other_sinces c differ)) (later k t t' (m.band_since c) (omega arith) (early.bands c lt)))
      (cases_eq c b);
}
