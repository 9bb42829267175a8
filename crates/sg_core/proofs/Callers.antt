-- What callers that ask first may rest on.
use Rattle.std.proofs.Common.{◌≡◌, ℕ, zero, suc, ◌+◌, ◌<◌, Bool, true, false, cond, List, [], ◌∷◌, length, get_or, Some, refl, ap, ◌∙◌, arith}
use Rattle.std.specs.Prelude.{◌||◌, ◌&&◌, nat_lt, All}
use Rattle.std.specs.Option.{option_map, is_some}
use Rattle.std.specs.List.{find}
use Rattle.std.proofs.lemmas.Bool.{eqb-false, ltb-false, lt-ltb}
use Rattle.sg_core.specs.Live.{Txn, is_of, is_live, has_reserved, reserving, number_of}

-- a number that isn't live, and above which none is, is above all
pub above_all : (t : ℕ) (xs : List Txn) → is_live xs t ≡ false → is_some (option_map number_of (find (λ x. nat_lt t x.transaction) xs)) ≡ false → All (λ x. x.transaction < t) xs
above_all t [] alone none k d h = absurd (omega arith)
above_all t (x ∷ xs) alone none k d h = go (is_of t x) refl (nat_lt t x.transaction) refl alone none k h (above_all t xs)
  where
    go : (a : Bool) → is_of t x ≡ a → (b : Bool) → nat_lt t x.transaction ≡ b → (a || is_live xs t) ≡ false → is_some (option_map number_of (cond b (Some x) (find (λ y. nat_lt t y.transaction) xs))) ≡ false
        → (k : ℕ) → k < suc (length xs) → (is_live xs t ≡ false → is_some (option_map number_of (find (λ y. nat_lt t y.transaction) xs)) ≡ false → All (λ y. y.transaction < t) xs) → (get_or (x ∷ xs) k d).transaction < t
    go true e b f alone none k h rest = absurd (cc)
    go false e true f alone none k h rest = absurd (cc)
    go false e false f alone none zero h rest = let p = eqb-false x.transaction t e in let q = ltb-false t x.transaction f in omega (arith, p, q)
    go false e false f alone none (suc k) h rest = rest alone none k d (omega arith)

-- a live transaction has reserved some once it has reserved one more
pub reserved_one : (t : ℕ) (xs : List Txn) → is_live xs t ≡ true → has_reserved (reserving t xs) t ≡ true
reserved_one t [] h = h
reserved_one t (x ∷ xs) h = go (is_of t x) refl h (reserved_one t xs)
  where
    go : (a : Bool) → is_of t x ≡ a → (a || is_live xs t) ≡ true → (is_live xs t ≡ true → has_reserved (reserving t xs) t ≡ true)
        → ((is_of t (cond a (record x { reserved = x.reserved + 1 }) x) && nat_lt 0 (cond a (record x { reserved = x.reserved + 1 }) x).reserved) || has_reserved (reserving t xs) t) ≡ true
    go true e h rest = ap (λ b. (b && nat_lt 0 (x.reserved + 1)) || has_reserved (reserving t xs) t) e ∙ ap (λ b. b || has_reserved (reserving t xs) t) (lt-ltb 0 (x.reserved + 1) (omega arith))
    go false e h rest = ap (λ b. (b && nat_lt 0 x.reserved) || has_reserved (reserving t xs) t) e ∙ rest h
