-- Flags of what is freed.
use Rattle.std.proofs.Common.{◌≡◌, ℕ, suc, ◌+◌, ◌<◌, ◌≤◌, ◌^◌, List, [], ◌∷◌, length, Option, Some, None, Bool, true, false, not, sym, ap, subst, ◌∙◌, refl, arith, slice_get, slice_set, inl, inr, cond}
use Rattle.std.specs.Prelude.{◌&&◌, if◌then◌else◌}
use Rattle.std.proofs.lemmas.Bool.{cases_eq}
use Rattle.std.proofs.lemmas.List.{length-set}
use Rattle.std.proofs.lemmas.List.Sums.{sum_by-cons}
use Rattle.std.proofs.lemmas.Option.{slice_get_within}
use Rattle.sg_alloc.specs.Flags.{free_of}
use Rattle.sg_alloc.specs.declared.maps.Maps.{Maps}
use Rattle.sg_alloc.proofs.Counted.{one_more}
use Rattle.sg_action.specs.States.{State}
use Rattle.sg_space.specs.Pages.{Freed}
use Rattle.sg_space.specs.Bands.{FreedBand}
use Rattle.sg_space.specs.Units.{IsFreed}
use Rattle.sg_actions.specs.Engine.{EngineSeen}
use Rattle.sg_actions.specs.Taken.{is_set, is_there, units_there, AreFlags}
use Rattle.sg_actions.specs.View.{acts_view}
use Rattle.sg_actions.proofs.Flags.{get_set, and_left, and_right}
use Rattle.sg_actions.proofs.Taking.{set_here, set_there}

free_cons : (x : Bool) (xs : List Bool) → free_of (x ∷ xs) ≡ cond {A = ℕ} (not x) 1 0 + free_of xs
free_cons x xs = sum_by-cons (λ (b : Bool). cond {A = ℕ} (not b) 1 0) x xs

at_most : (x y : Bool) → (y ≡ false → x ≡ true) → cond {A = ℕ} (not x) 1 0 + cond {A = ℕ} (not y) 1 0 ≤ 1
at_most true true h = omega arith
at_most true false h = omega arith
at_most false true h = omega arith
at_most false false h = absurd (let e : false ≡ true = h refl in cc)

few : (taken unfreed : List Bool) → length unfreed ≡ length taken → ((n : ℕ) → n < length taken → is_set unfreed n ≡ false → is_set taken n ≡ true) → free_of taken + free_of unfreed ≤ length taken
few [] [] long inside = omega arith
few [] (y ∷ ys) long inside = absurd (omega arith)
few (x ∷ xs) [] long inside = absurd (omega arith)
few (x ∷ xs) (y ∷ ys) long inside =
    let rest : free_of xs + free_of ys ≤ length xs = few xs ys (omega arith) (λ n below e. inside (suc n) (omega arith) e) in
    let a = free_cons x xs in
    let b = free_cons y ys in
    let one = at_most x y (λ e. inside 0 (omega arith) e) in
    omega (arith, rest, a, b, one)

-- the free ones and the freed ones are no more than there are
pub few_free : (taken unfreed : List Bool) → AreFlags taken unfreed → free_of taken + free_of unfreed < 2 ^ 32
few_free taken unfreed h = let most = few taken unfreed h.long h.inside in omega (arith, most, h.few)

-- one that is there is freed
pub freed_flags : (taken unfreed : List Bool) (p : ℕ) → AreFlags taken unfreed → is_there taken unfreed p ≡ true → AreFlags taken (slice_set unfreed p false)
freed_flags taken unfreed p h there = record {
  long = length-set unfreed p false ∙ h.long;
  inside = λ n below e. elim (cases_eq n p) [
    | inl same ↦ ap (is_set taken) same ∙ and_left (is_set taken p) (is_set unfreed p) there
    | inr ne ↦ h.inside n below (sym (set_there unfreed p n false ne) ∙ e)
  ];
  few = h.few;
}

pub there_flag : (taken unfreed : List Bool) (p : ℕ) → is_there taken unfreed p ≡ true → slice_get unfreed p ≡ Some true
there_flag taken unfreed p there = get_set unfreed p (and_right (is_set taken p) (is_set unfreed p) there)

and_false : (a b : Bool) → b ≡ false → (a && b) ≡ false
and_false true b e = e
and_false false b e = refl

pub freed_unit : {A : Type 0} (taken unfreed unfreed' : List Bool) (contents : ℕ → Option A) (p : ℕ) → unfreed' ≡ slice_set unfreed p false → is_there taken unfreed p ≡ true → IsFreed (units_there taken unfreed contents) (units_there taken unfreed' contents) p
freed_unit taken unfreed unfreed' contents p is there = subst (λ (xs : List Bool). IsFreed (units_there taken unfreed contents) (units_there taken xs contents) p) (sym is) (record {
  gone = ap (λ (b : Bool). if b then contents p else None) (and_false (is_set taken p) (is_set (slice_set unfreed p false) p) (set_here unfreed p false (slice_get_within unfreed p true flag)));
  others = λ q ne. ap (λ (b : Bool). if is_set taken q && b then contents q else None) (set_there unfreed p q false ne);
  free = let more = one_more unfreed p flag in omega (arith, more);
  count = refl;
})
  where
    flag : slice_get unfreed p ≡ Some true
    flag = there_flag taken unfreed p there

-- THE SPACE SHOWS THE PAGE THAT IS FREED
pub shows_free : {begun : Bool} (limits : State → ℕ → ℕ) (e : EngineSeen) (begin : State) (breaks : ℕ) (maps unfreed unfreed' : Maps) (p : ℕ) → unfreed'.pages ≡ slice_set unfreed.pages p false → unfreed'.bands ≡ unfreed.bands → is_there maps.pages unfreed.pages p ≡ true
    → Freed (acts_view limits e begun begin breaks maps unfreed) (acts_view limits e begun begin breaks maps unfreed') p
shows_free {begun} limits e begin breaks maps unfreed unfreed' p is_pages is_bands there = record {
  told = λ t. t;
  pages = λ told. freed_unit maps.pages unfreed.pages unfreed'.pages e.now.pages p is_pages there;
  bands = λ told j. units_there maps.bands (is_bands j) (λ b. Some (e.now.bands b));
  may_have = λ q n ne h. h;
  wrote = λ b h. h;
}

-- and the band that is freed
pub shows_free_band : {begun : Bool} (limits : State → ℕ → ℕ) (e : EngineSeen) (begin : State) (breaks : ℕ) (maps unfreed unfreed' : Maps) (b : ℕ) → unfreed'.bands ≡ slice_set unfreed.bands b false → unfreed'.pages ≡ unfreed.pages → is_there maps.bands unfreed.bands b ≡ true
    → FreedBand (acts_view limits e begun begin breaks maps unfreed) (acts_view limits e begun begin breaks maps unfreed') b
shows_free_band {begun} limits e begin breaks maps unfreed unfreed' b is_bands is_pages there = record {
  told = λ t. t;
  bands = λ told. freed_unit maps.bands unfreed.bands unfreed'.bands (λ n. Some (e.now.bands n)) b is_bands there;
  pages = λ told j. units_there maps.pages (is_pages j) e.now.pages;
  may_have = λ q n h. h;
  wrote = λ n h. h;
}
