-- What is buried belongs to those that dropped it.
use Rattle.std.proofs.Common.{◌≡◌, ◌⊎◌, ℕ, ◌+◌, ◌<◌, ◌≤◌, Bool, true, false, not, List, [], ◌∷◌, ◌++◌, refl, sym, ap, ◌∙◌, subst, arith}
use Rattle.std.proofs.Common.{inl, inr}
use Rattle.std.specs.Prelude.{◌==◌, ◌||◌, ◌&&◌}
use Rattle.sg_ops.specs.Table.{Table as Operations}
use Rattle.sg_serial.specs.Locks.{Touch, Hold, held_of, hold_all, released}
use Rattle.sg_serial.specs.Runs.{Live, is_live, without}
use Rattle.sg_serial.proofs.Lists.{live-append, live-without}
use Rattle.sg_model.specs.Touches.{Cell, Resource, same_resource}
use Rattle.sg_recovery.specs.Log.{Numbered}
use Rattle.sg_recovery.specs.Chains.{next_lsn, Formed}
use Rattle.sg_recovery.specs.Claims.{Log}
use Rattle.sg_recovery.proofs.Basic.{same_number, number_is}
use Rattle.sg_store.specs.Ground.{Ground, setting, are_written}
use Rattle.sg_store.specs.Engine.{View, Appended}
use Rattle.sg_store.specs.Store.{AreOwned}
use Rattle.sg_store.proofs.Granted.{locked, within_held, others_hold}

abbrev pub Inside : List (Touch Resource) → List (Touch Resource) → Type 0
Inside a b = (c : Cell) → are_written a c ≡ true → are_written b c ≡ true

either_true : (a b : Bool) → (a || b) ≡ true → (a ≡ true) ⊎ (b ≡ true)
either_true true b h = inl refl
either_true false b h = inr h

and_first : (a b : Bool) → (a && b) ≡ true → a ≡ true
and_first true b h = refl
and_first false b h = absurd (cc)

and_not : (a b : Bool) → (a && not b) ≡ true → b ≡ false
and_not true true h = absurd (cc)
and_not true false h = refl
and_not false b h = absurd (cc)

pub differs : (d u : ℕ) → (d == u) ≡ false → d ≡ u → ⊥
differs d u e same = absurd (clash (ap (λ z. z == u) same ∙ same_number u) e)
  where
    clash : (d == u) ≡ true → (d == u) ≡ false → ⊥
    clash x y = absurd (cc)

module _ (t : Operations) (g : Ground) where
  -- the log has grown
  pub grown : (live : List Live) (held : List (Hold Resource)) (a b : ℕ) (o : g.O) → a ≤ b → AreOwned g live held a o → AreOwned g live held b o
  grown live held a b o le h d f is = let p = h d f is in let low : d < a = p.0 in (omega (arith, low, le), p.1)

  -- another reading, in which nothing is buried that wasn't
  pub fewer : (live : List Live) (held : List (Hold Resource)) (b : ℕ) (o p : g.O) → ((d : ℕ) (f : List (Touch Resource)) → g.Buried p d f → g.Buried o d f) → AreOwned g live held b o → AreOwned g live held b p
  fewer live held b o p was h d f is = h d f (was d f is)

  -- a transaction holds more
  pub owned_locked : (live : List Live) (held : List (Hold Resource)) (u : ℕ) (ts : List (Touch Resource)) (b : ℕ) (o : g.O) → AreOwned g live held b o → AreOwned g live (hold_all same_resource u ts held) b o
  owned_locked live held u ts b o h d f is = ((h d f is).0, λ lives. go (d == u) refl ((h d f is).1 lives))
    where
      go : (q : Bool) → (d == u) ≡ q → Inside f (held_of held d) → Inside f (held_of (hold_all same_resource u ts held) d)
      go true e w = subst (λ z. Inside f (held_of (hold_all same_resource u ts held) z)) (sym (number_is d u e)) ((locked t g held u ts).more f (subst (λ z. Inside f (held_of held z)) (number_is d u e) w))
      go false e w = subst (λ hs. Inside f hs) (sym ((locked t g held u ts).others d (differs d u e))) w

  -- a transaction has dropped something, of which it was granted the place
  pub owned_done : (live : List Live) (held : List (Hold Resource)) (u : ℕ) (ts : List (Touch Resource)) (a b : ℕ) (o p : g.O) → a ≤ b → u < b → ((d : ℕ) (f : List (Touch Resource)) → g.Buried p d f → g.Buried o d f ⊎ ((d ≡ u) × Inside f ts))
      → AreOwned g live held a o → AreOwned g live (hold_all same_resource u ts held) b p
  owned_done live held u ts a b o p le low was h d f is = go (was d f is)
    where
      go : g.Buried o d f ⊎ ((d ≡ u) × Inside f ts) → (d < b) × (is_live live d ≡ true → Inside f (held_of (hold_all same_resource u ts held) d))
      go (inl old) = grown live (hold_all same_resource u ts held) a b o le (owned_locked live held u ts a o h) d f old
      go (inr new) = (let e : d ≡ u = new.0 in omega (arith, e, low), λ lives. subst (λ z. Inside f (held_of (hold_all same_resource u ts held) z)) (sym new.0) (λ c w. within_held t g held u ts c (new.1 c w)))

  -- a transaction begins
  pub owned_begun : (live : List Live) (held : List (Hold Resource)) (n : ℕ) (name : List ℕ) (a b : ℕ) (o : g.O) → a ≤ n → a ≤ b → AreOwned g live held a o → AreOwned g (live ++ record { name = name; transaction = n; marks = [] } ∷ []) held b o
  owned_begun live held n name a b o le more h d f is =
      let p = h d f is in
      let low : d < a = p.0 in
      (omega (arith, low, more), λ lives. go p.1 low (either_true (is_live live d) ((n == d) || false) (sym (live-append live (record { name = name; transaction = n; marks = [] } ∷ []) d) ∙ lives)))
    where
      go : (is_live live d ≡ true → Inside f (held_of held d)) → d < a → (is_live live d ≡ true) ⊎ (((n == d) || false) ≡ true) → Inside f (held_of held d)
      go k low (inl e) = k e
      go k low (inr e) = absurd (let same : n ≡ d = number_is n d (first (n == d) e) in omega (arith, same, low, le))
        where
          first : (q : Bool) → (q || false) ≡ true → q ≡ true
          first true z = refl
          first false z = z

  -- a transaction is no more
  pub owned_ended : (live : List Live) (held : List (Hold Resource)) (u : ℕ) (b : ℕ) (o : g.O) → AreOwned g live held b o → AreOwned g (without u live) (released u held) b o
  owned_ended live held u b o h d f is =
      let p = h d f is in (
        p.0,
        λ lives. let both : (is_live live d && not (d == u)) ≡ true = sym (live-without u live d) ∙ lives in
            subst (λ hs. Inside f hs) (sym (others_hold held u d (differs d u (and_not (is_live live d) (d == u) both)))) (p.1 (and_first (is_live live d) (not (d == u)) both)),
      )

  -- the log's next number rises with each record
  pub next_after : (v w : View g) (r : Numbered g.C g.N) → Appended t g v w r → next_lsn v.log ≤ next_lsn w.log
  next_after v w r d =
      let f : Formed (r ∷ v.log) = subst (λ (ls : Log (setting t g)). Formed ls) d.log d.goes_on.engine.formed.chained in
      let low : next_lsn v.log ≤ r.lsn = f.0 in
      let e : next_lsn w.log ≡ r.lsn + 1 = ap (λ (ls : Log (setting t g)). next_lsn ls) d.log in
      omega (arith, low, e)
