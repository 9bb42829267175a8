-- The newest number of a stack, and the stack without it.
use Rattle.std.proofs.Common.{◌≡◌, ℕ, ◌-◌, ◌<◌, ◌≤◌, cond, List, [], ◌∷◌, ◌++◌, length, get_or, take, refl, ap, ◌∙◌, arith, length-append}
use Rattle.std.proofs.Math.Seq.{take-append_seam, get_or-append_seam}
use Rattle.sg_recovery.proofs.Basic.{lt_true, lt_false}
use Rattle.sg_analysis.specs.Analysis.{oldest_first}
use Rattle.sg_analysis.specs.Firsts.{cut_to}

-- what stands at the end of some numbers, of which there are any
pub record HasTop (xs : List ℕ) (n : ℕ) (ms : List ℕ) : Type 0 where
  pub top : ℕ
  pub more : List ℕ
  pub all : ms ≡ top ∷ more
  pub here : (d : ℕ) → get_or xs (n - 1) d ≡ top
  pub others : take (n - 1) xs ≡ oldest_first more

pub top_of : (xs : List ℕ) (n : ℕ) (ms : List ℕ) → xs ≡ oldest_first ms → n ≡ length xs → 0 < n → HasTop xs n ms
top_of xs n [] is long some = absurd (omega (arith, long, some, ap length is))
top_of xs n (m ∷ ms) is long some =
    let at : n - 1 ≡ length (oldest_first ms) = omega (arith, long, ap length is, length-append (oldest_first ms) (m ∷ [])) in
    record {
      top = m;
      more = ms;
      all = refl;
      here = λ d. ap (λ ys. get_or ys (n - 1) d) is ∙ (ap (λ k. get_or (oldest_first ms ++ m ∷ []) k d) at ∙ get_or-append_seam (oldest_first ms) m [] d);
      others = ap (take (n - 1)) is ∙ (ap (λ k. take k (oldest_first ms ++ m ∷ [])) at ∙ take-append_seam (oldest_first ms) (m ∷ []));
    }

-- where the newest one is no more than a number, none is cut off; and where it is above it, it is
pub cut_none : (least m : ℕ) (ms : List ℕ) → m ≤ least → cut_to least (m ∷ ms) ≡ m ∷ ms
cut_none least m ms le = ap (λ b. cond b (cut_to least ms) (m ∷ ms)) (lt_false least m le)

pub cut_one : (least m : ℕ) (ms : List ℕ) → least < m → cut_to least (m ∷ ms) ≡ cut_to least ms
cut_one least m ms lt = ap (λ b. cond b (cut_to least ms) (m ∷ ms)) (lt_true least m lt)

-- no number stands in no list
pub none_kept : (xs ms : List ℕ) → xs ≡ oldest_first ms → length xs ≡ 0 → ms ≡ []
none_kept xs [] is none = refl
none_kept xs (m ∷ ms) is none = absurd (omega (arith, none, ap length is, length-append (oldest_first ms) (m ∷ [])))
