-- Pages of a home area, and the homes after a batch.
use Rattle.std.proofs.Common.{◌≡◌, ◌≢◌, ◌⊎◌, inl, inr, ⊎_elim, ◌<◌, ◌≤◌, ◌+◌, ◌-◌, ◌*◌, ℕ, zero, suc, List, [], ◌∷◌, length, get_or, sym, ◌∙◌, ap, arith}
use Rattle.std.proofs.lemmas.Bool.{cases_eq}
use Rattle.sg_disk.specs.Disk.{Bytes}
use Rattle.sg_gate.specs.Layout.{PAGE, HOMES, place_at, home_at}
use Rattle.sg_gate.specs.Batch.{over, InHomes}
use Rattle.sg_gate.proofs.Over.{step, step_in, over_out}
use Rattle.sg_gate.proofs.Windows.{window_shift}
use Rattle.sg_pool.specs.Units.{page_at}

pub page_same : (f g : Bytes) (a b : ℕ) → ((k : ℕ) → k < PAGE → f (a + k) ≡ g (b + k)) → page_at f a ≡ page_at g b
unfolding page_at
page_same f g a b same = window_shift f g a b PAGE same

-- a byte of a page's home lies in the homes of a batch only where that page does
pub found : (ns : List ℕ) (n i : ℕ) → InHomes ns i → home_at n ≤ i → i < home_at n + PAGE → (k : ℕ) × (k < length ns) × (get_or ns k 0 ≡ n)
found [] n i is low high = absurd is
found (m ∷ ns) n i is low high = ⊎_elim
    (λ here. let a = here.0 in let b = here.1 in (0, omega arith, omega arith))
    (λ there. let rest = found ns n i there low high in (suc rest.0, let lt = rest.1 in omega arith, rest.2))
    is

-- laid over, the home of page k of the batch has the bytes of place k
pub over_in : (ns : List ℕ) (k from : ℕ) (f g : Bytes) (j : ℕ) → k < length ns → ((a b : ℕ) → a < b → b < length ns → get_or ns a 0 ≢ get_or ns b 0) → j < PAGE
    → over ns from f g (home_at (get_or ns k 0) + j) ≡ f (place_at (from + k) + j)
over_in [] k from f g j lt different small = absurd (omega arith)
over_in (n ∷ ns) zero from f g j lt different small =
    let nowhere : InHomes ns (home_at n + j) → ⊥ = λ is. let at = found ns n (home_at n + j) is (omega arith) (omega arith) in different 0 (suc at.0) (omega arith) (let lt = at.1 in omega arith) (sym at.2) in
    let place : place_at from + (home_at n + j - home_at n) ≡ place_at (from + 0) + j = omega arith in
    over_out ns (suc from) f (step n from f g) (home_at n + j) nowhere ∙ step_in n from f g (home_at n + j) (omega arith) (omega arith) ∙ ap f place
over_in (n ∷ ns) (suc k) from f g j lt different small =
    let place : place_at (suc from + k) + j ≡ place_at (from + suc k) + j = omega arith in
    over_in ns k (suc from) f (step n from f g) j (omega arith) (λ a b less in_it. different (suc a) (suc b) (omega arith) (omega arith)) small ∙ ap f place

elsewhere : (m : ℕ) (ns : List ℕ) (n : ℕ) → m ≢ n → ((k : ℕ) → k < length ns → get_or ns k 0 ≢ n) → (k : ℕ) → k < suc (length ns) → get_or (m ∷ ns) k 0 ≢ n
elsewhere m ns n not nowhere zero lt is = not is
elsewhere m ns n not nowhere (suc k) lt is = nowhere k (omega arith) is

pub page_in_batch : (ns : List ℕ) (n : ℕ) → ((k : ℕ) × (k < length ns) × (get_or ns k 0 ≡ n)) ⊎ ((k : ℕ) → k < length ns → get_or ns k 0 ≢ n)
page_in_batch [] n = inr (λ k lt is. absurd (omega arith))
page_in_batch (m ∷ ns) n = ⊎_elim
    (λ is. inl (0, omega arith, is))
    (λ not. ⊎_elim
    (λ there. inl (suc there.0, let lt = there.1 in omega arith, there.2))
    (λ nowhere. inr (elsewhere m ns n not nowhere))
    (page_in_batch ns n))
    (cases_eq m n)

-- THE HOMES AFTER A BATCH: a page of the batch is the one at its place, and all else is as before
module _ (ns : List ℕ) (f : Bytes) (different : (a b : ℕ) → a < b → b < length ns → get_or ns a 0 ≢ get_or ns b 0) where
  pub batch_page : (k : ℕ) → k < length ns → page_at (over ns 0 f f) (home_at (get_or ns k 0)) ≡ page_at f (place_at k)
  batch_page k lt = page_same (over ns 0 f f) f (home_at (get_or ns k 0)) (place_at k) (λ j small. let place : place_at (0 + k) + j ≡ place_at k + j = omega arith in over_in ns k 0 f f j lt different small ∙ ap f place)

  pub other_page : (n : ℕ) → ((k : ℕ) → k < length ns → get_or ns k 0 ≢ n) → page_at (over ns 0 f f) (home_at n) ≡ page_at f (home_at n)
  other_page n nowhere = page_same (over ns 0 f f) f (home_at n) (home_at n) (λ j small. over_out ns 0 f f (home_at n + j) (λ is. let at = found ns n (home_at n + j) is (omega arith) (omega arith) in nowhere at.0 at.1 at.2))

-- below the bands
pub homes_below : (ns : List ℕ) (pages i : ℕ) → ((k : ℕ) → k < length ns → get_or ns k 0 < pages) → InHomes ns i → i < HOMES + PAGE * pages
homes_below [] pages i each is = absurd is
homes_below (n ∷ ns) pages i each is = ⊎_elim
    (λ here. let high = here.1 in let lt : n < pages = each 0 (omega arith) in omega arith)
    (λ there. homes_below ns pages i (λ k lt. each (suc k) (omega arith)) there)
    is
