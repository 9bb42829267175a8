-- What objects come to, summed one after another.
use Rattle.std.proofs.Common.{◌≡◌, ℕ, ◌+◌, ◌%◌, ◌^◌, arith, List, ◌++◌, length, length-append, ap, ◌∙◌}
use Rattle.std.specs.List.{sum_by}
use Rattle.std.proofs.lemmas.List.Sums.{sum_by-append}
use Rattle.sg_model.specs.Objects.{Object}
use Rattle.sg_lines.specs.declared.summary.Summary.{Summary}
use Rattle.sg_lines.specs.Summed.{items_of, entries_of, bytes_of, sum_of, counted, summary_of_all, both}

counted_both : (a b c : ℕ) → c ≡ a + b → counted (counted a + counted b) ≡ counted c
counted_both a b c e = omega (arith, e)

-- summaries that are equal in each part
pub same_summary : (o p i j k l b d s t : ℕ) → o ≡ p → i ≡ j → k ≡ l → b ≡ d → s ≡ t → ◌≡◌ {A = Summary} (record { objects = o; items = i; entries = k; bytes = b; sum = s }) (record { objects = p; items = j; entries = l; bytes = d; sum = t })
same_summary o p i j k l b d s t eo ei ek eb es =
    ap (λ n. record { objects = n; items = i; entries = k; bytes = b; sum = s }) eo
    ∙ ap (λ n. record { objects = p; items = n; entries = k; bytes = b; sum = s }) ei
    ∙ ap (λ n. record { objects = p; items = j; entries = n; bytes = b; sum = s }) ek
    ∙ ap (λ n. record { objects = p; items = j; entries = l; bytes = n; sum = s }) eb
    ∙ ap (λ n. record { objects = p; items = j; entries = l; bytes = d; sum = n }) es

-- the summary of some objects and others is that of all of them
pub summary_both : (xs ys : List (List ℕ × Object)) → both (summary_of_all xs) (summary_of_all ys) ≡ summary_of_all (xs ++ ys)
summary_both xs ys =
    let n = counted_both (length xs) (length ys) (length (xs ++ ys)) (length-append xs ys) in
    let i = counted_both (sum_by (λ e. items_of e.1) xs) (sum_by (λ e. items_of e.1) ys) (sum_by (λ e. items_of e.1) (xs ++ ys)) (sum_by-append (λ (e : List ℕ × Object). items_of e.1) xs ys) in
    let k = counted_both (sum_by (λ e. entries_of e.1) xs) (sum_by (λ e. entries_of e.1) ys) (sum_by (λ e. entries_of e.1) (xs ++ ys)) (sum_by-append (λ (e : List ℕ × Object). entries_of e.1) xs ys) in
    let b = counted_both (sum_by (λ e. bytes_of e.1) xs) (sum_by (λ e. bytes_of e.1) ys) (sum_by (λ e. bytes_of e.1) (xs ++ ys)) (sum_by-append (λ (e : List ℕ × Object). bytes_of e.1) xs ys) in
    let s = modulo (sum_by (λ e. sum_of e.1) xs) (sum_by (λ e. sum_of e.1) ys) (sum_by (λ e. sum_of e.1) (xs ++ ys)) (sum_by-append (λ (e : List ℕ × Object). sum_of e.1) xs ys) in
    same_summary _ _ _ _ _ _ _ _ _ _ n i k b s
  where
    modulo : (a b c : ℕ) → c ≡ a + b → (a % 2 ^ 64 + b % 2 ^ 64) % 2 ^ 64 ≡ c % 2 ^ 64
    modulo a b c e = omega (arith, e)
