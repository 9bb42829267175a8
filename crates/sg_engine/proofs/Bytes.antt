-- Repeating history over a byte of a segment.
use Rattle.std.proofs.Common.{◌≡◌, ◌⊎◌, inl, inr, ⊎_elim, ◌≤◌, ℕ, suc, List, [], ◌∷◌, refl, sym, ◌∙◌, ap, arith}
use Rattle.std.proofs.lemmas.Bool.{cases_lt}
use Rattle.sg_redo.specs.History.{OnByte, rewritten}
use Rattle.sg_engine.specs.Numbers.{below, onward, Rises}
use Rattle.sg_engine.specs.History.{byte_number, IsCoveredFrom}
use Rattle.sg_engine.proofs.Pages.{below_in, onward_in, onward_out}

pub all_onward : {X : Type 0} (key : X → ℕ) (e low : ℕ) (xs : List X) → e ≤ low → Rises key low xs → onward key e xs ≡ xs
all_onward key e low [] le rises = refl
all_onward key e low (x ∷ xs) le rises = onward_in key e x xs (omega arith) ∙ ap (λ (l : List _). x ∷ l) (all_onward key e (suc (key x)) xs (omega arith) rises.1)

-- where it is covered, the byte before makes no difference
pub covered_same : (e low : ℕ) (ws : List OnByte) (x y : ℕ) → Rises byte_number low ws → IsCoveredFrom e ws → rewritten (onward byte_number e ws) x ≡ rewritten ws y
covered_same e low [] x y rises covered = absurd covered
covered_same e low (w ∷ ws) x y rises covered = ⊎_elim
    (λ lt. ap (λ (l : List OnByte). rewritten l x) (onward_out byte_number e w ws lt) ∙ covered_same e (suc w.lsn) ws x w.value rises.1 (⊎_elim (λ le. absurd (omega arith)) (λ there. there) covered))
    (λ le. ap (λ (l : List OnByte). rewritten l x) (onward_in byte_number e w ws le) ∙ ap (λ (l : List OnByte). rewritten l w.value) (all_onward byte_number e (suc w.lsn) ws (omega arith) rises.1))
    (cases_lt w.lsn e)

-- and where it isn't, no record is from there on
pub uncovered_none : (e : ℕ) (ws : List OnByte) → (IsCoveredFrom e ws → ⊥) → onward byte_number e ws ≡ []
uncovered_none e [] bare = refl
uncovered_none e (w ∷ ws) bare = ⊎_elim
    (λ lt. onward_out byte_number e w ws lt ∙ uncovered_none e ws (λ there. bare (inr there)))
    (λ le. absurd (bare (inl le)))
    (cases_lt w.lsn e)

pub uncovered_all : (e c : ℕ) (ws : List OnByte) → e ≤ c → (IsCoveredFrom e ws → ⊥) → below byte_number c ws ≡ ws
uncovered_all e c [] le bare = refl
uncovered_all e c (w ∷ ws) le bare = ⊎_elim
    (λ lt. below_in byte_number c w ws (omega arith) ∙ ap (λ (l : List OnByte). w ∷ l) (uncovered_all e c ws le (λ there. bare (inr there))))
    (λ high. absurd (bare (inl high)))
    (cases_lt w.lsn e)

pub covered_or : (e : ℕ) (ws : List OnByte) → IsCoveredFrom e ws ⊎ (IsCoveredFrom e ws → ⊥)
covered_or e [] = inr (λ none. none)
covered_or e (w ∷ ws) = ⊎_elim
    (λ lt. ⊎_elim (λ there. inl (inr there)) (λ bare. inr (λ is. ⊎_elim (λ le. absurd (omega arith)) (λ there. bare there) is)) (covered_or e ws))
    (λ le. inl (inl le))
    (cases_lt w.lsn e)

-- Convergence: two bytes that are equal unless covered are the same after the records from there on
pub converge : (e low : ℕ) (ws : List OnByte) (x y : ℕ) → Rises byte_number low ws → ((IsCoveredFrom e ws → ⊥) → x ≡ y) → rewritten (onward byte_number e ws) x ≡ rewritten (onward byte_number e ws) y
converge e low ws x y rises same = ⊎_elim
    (λ is. covered_same e low ws x x rises is ∙ sym (covered_same e low ws y x rises is))
    (λ bare. ap (rewritten (onward byte_number e ws)) (same bare))
    (covered_or e ws)

pub covered_less : (r e : ℕ) (ws : List OnByte) → r ≤ e → IsCoveredFrom e ws → IsCoveredFrom r ws
covered_less r e [] le covered = covered
covered_less r e (w ∷ ws) le covered = ⊎_elim (λ here. inl (omega arith)) (λ there. inr (covered_less r e ws le there)) covered

-- a byte that is covered from r on, or is a version at or after r, becomes the byte that all records make
pub byte_repeats : (r cut low : ℕ) (ws : List OnByte) (x s : ℕ) → Rises byte_number low ws → r ≤ cut → (x ≡ rewritten (below byte_number cut ws) s) ⊎ IsCoveredFrom r ws → rewritten (onward byte_number r ws) x ≡ rewritten ws s
byte_repeats r cut low ws x s rises le is = ⊎_elim
    (λ covered. covered_same r low ws x s rises covered)
    (λ bare. ap (λ (l : List OnByte). rewritten l x) (uncovered_none r ws bare)
    ∙ ⊎_elim (λ version. version ∙ ap (λ (l : List OnByte). rewritten l s) (uncovered_all r cut ws le bare)) (λ covered. absurd (bare covered)) is)
    (covered_or r ws)

-- and where it isn't covered, it already is the byte of the last record that covers it
again : (ws : List OnByte) (s : ℕ) → rewritten ws (rewritten ws s) ≡ rewritten ws s
again [] s = refl
again (w ∷ ws) s = refl

pub byte_is_last : (r cut : ℕ) (ws : List OnByte) (x s : ℕ) → r ≤ cut → (x ≡ rewritten (below byte_number cut ws) s) ⊎ IsCoveredFrom r ws → (IsCoveredFrom r ws → ⊥) → rewritten ws x ≡ x
byte_is_last r cut ws x s le is bare = ⊎_elim
    (λ version. let all = version ∙ ap (λ (l : List OnByte). rewritten l s) (uncovered_all r cut ws le bare) in ap (rewritten ws) all ∙ again ws s ∙ sym all)
    (λ covered. absurd (bare covered)) is
