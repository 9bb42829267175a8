-- No transaction is twice among those of a log that go on, so they are no more than a store counts.
use Rattle.std.proofs.Common.{◌≡◌, ℕ, ◌<◌, ◌≤◌, Bool, true, false, not, cond, List, [], ◌∷◌, ◌++◌, length, map, refl, sym, ap, ◌∙◌, subst, arith}
use Rattle.std.specs.Prelude.{◌==◌, ◌||◌, ◌&&◌}
use Rattle.std.proofs.lemmas.Bool.{eqb-true, ne_eqb}
use Rattle.std.proofs.lemmas.List.{length-map}
use Rattle.sg_ops.specs.Table.{Table as Operations}
use Rattle.sg_core.specs.Live.{Txn}
use Rattle.sg_core.specs.Live as core
use Rattle.sg_recovery.specs.Log.{Record, Numbered, tally, said, is_in, without}
use Rattle.sg_recovery.specs.Log.Record.{Begin, Change, TopEnd, PhysComp, TopVoid, CompEnd, Save, Commit, End}
use Rattle.sg_recovery.specs.Laws.{Each}
use Rattle.sg_recovery.specs.Claims.{Log}
use Rattle.sg_recovery.specs.Chains.{Formed, IsKnown, Follows, next_lsn}
use Rattle.sg_recovery.proofs.Basic.{each_more}
use Rattle.sg_recovery.proofs.Chaining.{sound}
use Rattle.sg_run.specs.Run.{Run}
use Rattle.sg_store.specs.Ground.{Ground, setting}
use Rattle.sg_store.specs.Engine.{View, Action, AreChanges, is_going, goes_behind, AreDistinct}
use Rattle.sg_store.specs.Store.{IsKept}
use Rattle.sg_store.proofs.Live.{same_live}
use Rattle.sg_store.proofs.Lines.{in_without}

without_distinct : (u : ℕ) (ns : List ℕ) → AreDistinct ns → AreDistinct (without u ns)
without_distinct u [] d = tt
without_distinct u (n ∷ ns) d = go (n == u) (without_distinct u ns d.1)
  where
    go : (b : Bool) → AreDistinct (without u ns) → AreDistinct (cond (not b) (n ∷ without u ns) (without u ns))
    go true h = h
    go false h = (in_without u n ns ∙ ap (λ b. b && not (n == u)) d.0, h)

low_absent : (n : ℕ) (ns : List ℕ) → Each (λ m. m < n) ns → is_in n ns ≡ false
low_absent n [] low = refl
low_absent n (m ∷ ms) low = ap (λ b. b || is_in n ms) (ne_eqb m n (λ e. let lt : m < n = low.0 in absurd (omega (arith, lt, e)))) ∙ low_absent n ms low.1

pub live_distinct : {C N : Type 0} (rs : List (Numbered C N)) → Formed rs → AreDistinct (tally rs).live
live_distinct [] f = tt
live_distinct {C} {N} (r ∷ rs) f = go r.is f.1 (live_distinct rs f.2)
  where
    go : (x : Record C N) → (IsKnown (tally rs) x → Follows rs r.lsn x) → AreDistinct (tally rs).live → AreDistinct (said r.lsn x (tally rs)).live
    go (Begin t p) h d = (low_absent t (tally rs).live (each_more (λ m. m < next_lsn rs) (λ m. m < t) (tally rs).live (λ m lt. let le : next_lsn rs ≤ r.lsn = f.0 in let own : t ≡ r.lsn = (h tt).0 in omega (arith, lt, le, own)) (sound rs f.2).lives), d)
    go (Change t p c) h d = d
    go (TopEnd t p u n) h d = d
    go (PhysComp t p u c) h d = d
    go (TopVoid t p u) h d = d
    go (CompEnd t p u) h d = d
    go (Save t p m) h d = d
    go (Commit t p) h d = without_distinct t (tally rs).live d
    go (End t p) h d = without_distinct t (tally rs).live d

length_without : (x : ℕ) (ys : List ℕ) → length (without x ys) ≤ length ys
length_without x [] = omega arith
length_without x (y ∷ ys) = go (y == x) (length_without x ys)
  where
    go : (b : Bool) → length (without x ys) ≤ length ys → length (cond (not b) (y ∷ without x ys) (without x ys)) ≤ length (y ∷ ys)
    go true h = omega (arith, h)
    go false h = omega (arith, h)

shorter : (x : ℕ) (ys : List ℕ) → is_in x ys ≡ true → length (without x ys) < length ys
shorter x [] e = absurd (cc)
shorter x (y ∷ ys) e = go (y == x) e (length_without x ys) (λ z. shorter x ys z)
  where
    go : (b : Bool) → (b || is_in x ys) ≡ true → length (without x ys) ≤ length ys → (is_in x ys ≡ true → length (without x ys) < length ys) → length (cond (not b) (y ∷ without x ys) (without x ys)) < length (y ∷ ys)
    go true h le more = omega (arith, le)
    go false h le more = let lt = more h in omega (arith, lt)

fewer : (xs ys : List ℕ) → AreDistinct xs → ((u : ℕ) → is_in u xs ≡ true → is_in u ys ≡ true) → length xs ≤ length ys
fewer [] ys d h = omega arith
fewer (x ∷ xs) ys d h =
    let less : length (without x ys) < length ys = shorter x ys (h x (ap (λ b. b || is_in x xs) (same x))) in
    let rest : length xs ≤ length (without x ys) = fewer xs (without x ys) d.1 (λ u e. in_without x u ys ∙ both (is_in u ys) (u == x) (h u (later (x == u) (is_in u xs) e)) (λ z. clash (is_in x xs) (subst (λ n. is_in n xs ≡ true) (eqb-true u x z) e) d.0)) in
    omega (arith, less, rest)
  where
    same : (n : ℕ) → (n == n) ≡ true
    same n = Rattle.sg_recovery.proofs.Basic.same_number n

    later : (a b : Bool) → b ≡ true → (a || b) ≡ true
    later true b e = refl
    later false b e = e

    clash : (b : Bool) → b ≡ true → b ≡ false → ⊥
    clash b e f = cc

    both : (a b : Bool) → a ≡ true → (b ≡ true → ⊥) → (a && not b) ≡ true
    both true true e f = absurd (f refl)
    both true false e f = refl
    both false b e f = e

listed : (ks : List Txn) (u : ℕ) → core.is_live ks u ≡ is_in u (map (λ l. l.transaction) ks)
listed [] u = refl
listed (k ∷ ks) u = ap (λ b. (k.transaction == u) || b) (listed ks u)

-- fewer go on in the log than a store counts, or as many
pub few_live : (t : Operations) (g : Ground) (v : View g) (txns : List Txn) (x : Run) → IsKept t g v txns x → length (tally v.log).live ≤ length txns
few_live t g v txns x k =
    subst (λ n. length (tally v.log).live ≤ n) (length-map txns (λ (l : Txn). l.transaction))
    (fewer (tally v.log).live (map (λ l. l.transaction) txns) (live_distinct v.log k.engine.formed.chained) (λ u e. sym (listed txns u) ∙ (same_live txns x.so_far.live u k.live ∙ (sym (k.logs.same.lives u) ∙ e))))

either : (a b c : Bool) → (b ≡ true → c ≡ true) → (a || b) ≡ true → (a || c) ≡ true
either true b c h e = refl
either false b c h e = h e

still : (a b c : Bool) → (a ≡ true → c ≡ true) → (a && b) ≡ true → (c && b) ≡ true
still true b c h e = ap (λ z. z && b) (h refl) ∙ e
still false b c h e = absurd (cc)

first : (a b : Bool) → (a && b) ≡ true → a ≡ true
first true b e = refl
first false b e = e

-- a transaction that goes on has begun and not ended
pub live_going : {C N : Type 0} (u : ℕ) (rs : List (Numbered C N)) → is_in u (tally rs).live ≡ true → is_going u rs ≡ true
live_going u [] e = e
live_going {C} {N} u (r ∷ rs) e = go r.is (live_going u rs) e
  where
    go : (x : Record C N) → (is_in u (tally rs).live ≡ true → is_going u rs ≡ true) → is_in u (said r.lsn x (tally rs)).live ≡ true → goes_behind u x (is_going u rs) ≡ true
    go (Begin t p) h e = either (t == u) (is_in u (tally rs).live) (is_going u rs) h e
    go (Change t p c) h e = h e
    go (TopEnd t p i n) h e = h e
    go (PhysComp t p i c) h e = h e
    go (TopVoid t p i) h e = h e
    go (CompEnd t p i) h e = h e
    go (Save t p m) h e = h e
    go (Commit t p) h e = h (first (is_in u (tally rs).live) (not (u == t)) (sym (in_without t u (tally rs).live) ∙ e))
    go (End t p) h e = still (is_in u (tally rs).live) (not (u == t)) (is_going u rs) h (sym (in_without t u (tally rs).live) ∙ e)

-- and does so behind changes
pub changes_going : (t : Operations) (g : Ground) (pages : g.X) (a : Action g) (u : ℕ) (ds log : Log (setting t g)) → AreChanges t g pages a ds log → is_going u (ds ++ log) ≡ is_going u log
changes_going t g pages a u [] log h = refl
changes_going t g pages a u (r ∷ ds) log h = ap (λ (x : Record g.C g.N). goes_behind u x (is_going u (ds ++ log))) h.0.2 ∙ changes_going t g pages a u ds log h.3
