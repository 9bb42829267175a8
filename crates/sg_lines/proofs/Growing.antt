-- Lists that grow by one piece at a time.
use Rattle.std.proofs.Common.{◌≡◌, ℕ, zero, suc, ◌+◌, ◌-◌, ◌<◌, List, [], ◌++◌, sym, ap, ◌∙◌, append_assoc, append-nil, arith}

zero_right : (n : ℕ) → n ≡ n + 0
zero_right n = omega arith

next_right : (n k : ℕ) → suc (n + k) ≡ n + suc k
next_right n k = omega arith

module _ {A : Type 0} (all piece : ℕ → List A) (more : (n : ℕ) → all (suc n) ≡ all n ++ piece n) where
  -- that of fewer pieces is the front of that of more
  front_of_more : (n k : ℕ) → (rest : List A) × (all n ++ rest ≡ all (n + k))
  front_of_more n zero = ([], append-nil (all n) ∙ ap all (zero_right n))
  front_of_more n (suc k) =
      let before = front_of_more n k in
      (before.0 ++ piece (n + k), sym (append_assoc (all n) before.0 (piece (n + k))) ∙ (ap (λ (t : List A). t ++ piece (n + k)) before.1 ∙ (sym (more (n + k)) ∙ ap all (next_right n k))))

  -- what is behind one of the pieces
  pub rest_behind : (n total : ℕ) → n < total → (rest : List A) × ((all n ++ piece n) ++ rest ≡ all total)
  rest_behind n total lt =
      let behind = front_of_more (suc n) (total - suc n) in
      let whole : suc n + (total - suc n) ≡ total = omega arith in
      (behind.0, ap (λ (t : List A). t ++ behind.0) (sym (more n)) ∙ (behind.1 ∙ ap all whole))
