-- What the live transactions have reserved is what the stock keeps for their undoing.
use Rattle.std.proofs.Common.{◌≡◌, ℕ, ◌+◌, ◌<◌, Bool, true, false, not, cond, List, [], ◌∷◌, map, refl, sym, ap, ◌∙◌, subst, arith}
use Rattle.std.specs.Prelude.{◌==◌, ◌||◌, sum_by}
use Rattle.std.proofs.lemmas.Bool.{eqb-true, eq-eqb, ne_eqb}
use Rattle.std.proofs.lemmas.List.Sums.{sum_by-cons}
use Rattle.sg_ops.specs.Table.{Table as Operations}
use Rattle.sg_serial.specs.Runs.{Live}
use Rattle.sg_serial.specs.Runs as runs
use Rattle.sg_core.specs.Live.{Txn, is_live, without}
use Rattle.sg_recovery.specs.Setting.{Setting}
use Rattle.sg_recovery.specs.Log.{Top, tally, notes_of, notes_not_of}
use Rattle.sg_recovery.specs.Laws.{Each}
use Rattle.sg_recovery.specs.Shows.{IsNote}
use Rattle.sg_recovery.specs.Stands.{wanted, wants_one}
use Rattle.sg_recovery.proofs.Basic.{each_more, same_number}
use Rattle.sg_room.specs.Steps.{RunStock, one_kept, reserved_in}
use Rattle.sg_run.specs.Run.{Run}
use Rattle.sg_store.specs.Ground.{Ground, setting}
use Rattle.sg_store.specs.Engine.{View}
use Rattle.sg_store.specs.Room.{step_of, ShowsStock}
use Rattle.sg_store.specs.Stock.{NeedsByStock}
use Rattle.sg_store.specs.Store.{AreReserved, IsKept}
use Rattle.sg_store.proofs.Live.{numbers, run_numbers, each_bare, same_live, wanted_one, reserved_without}

-- no live transaction is there twice
abbrev AreOnce : List Txn → Type 0
AreOnce [] = Unit {0}
AreOnce (k ∷ ks) = (is_live ks k.transaction ≡ false) × AreOnce ks

none_above : (n : ℕ) (ls : List Live) → runs.AreAbove n ls → runs.is_live ls n ≡ false
none_above n [] h = refl
none_above n (l ∷ ls) h = ap (λ b. b || runs.is_live ls n) (ne_eqb l.transaction n (λ e. let lt : n < l.transaction = h.0 in absurd (omega (arith, lt, e)))) ∙ none_above n ls h.1

-- so it is where they stand in the order of their numbers
rising_once : (ks : List Txn) (ls : List Live) → numbers ks ≡ run_numbers ls → runs.AreRising ls → AreOnce ks
rising_once [] ls e h = tt
rising_once (k ∷ ks) [] e h = absurd (cc)
rising_once (k ∷ ks) (l ∷ ls) e h =
    let first : k.transaction ≡ l.transaction = cc in
    let rest : numbers ks ≡ run_numbers ls = cc in
    (same_live ks ls k.transaction rest ∙ (ap (λ n. runs.is_live ls n) first ∙ none_above l.transaction ls h.0), rising_once ks ls rest h.1)

-- without one that isn't there they are the same
without_none : (ks : List Txn) (u : ℕ) → is_live ks u ≡ false → without u ks ≡ ks
without_none [] u h = refl
without_none (k ∷ ks) u h = go (k.transaction == u) h (λ e. without_none ks u e)
  where
    go : (b : Bool) → (b || is_live ks u) ≡ false → (is_live ks u ≡ false → without u ks ≡ ks) → cond (not b) (k ∷ without u ks) (without u ks) ≡ k ∷ ks
    go true e rest = absurd (cc)
    go false e rest = ap (λ (xs : List Txn). k ∷ xs) (rest e)

without_first : (k : Txn) (ks : List Txn) → is_live ks k.transaction ≡ false → without k.transaction (k ∷ ks) ≡ ks
without_first k ks h = ap (λ b. cond (not b) (k ∷ without k.transaction ks) (without k.transaction ks)) (same_number k.transaction) ∙ without_none ks k.transaction h

module _ (s : Setting) where
  -- the notes of a transaction, and those of the others
  wanted_split : (u : ℕ) (ns : List (Top s.C s.N)) → wanted s ns ≡ wanted s (notes_of u ns) + wanted s (notes_not_of u ns)
  wanted_split u [] = refl
  wanted_split u (n ∷ ns) = go (n.transaction == u) (wanted_split u ns)
    where
      go : (b : Bool) → wanted s ns ≡ wanted s (notes_of u ns) + wanted s (notes_not_of u ns)
          → cond (s.wants n.note) (wanted s ns + 1) (wanted s ns) ≡ wanted s (cond b (n ∷ notes_of u ns) (notes_of u ns)) + wanted s (cond (not b) (n ∷ notes_not_of u ns) (notes_not_of u ns))
      go true h = by_test (s.wants n.note)
        where
          by_test : (d : Bool) → cond d (wanted s ns + 1) (wanted s ns) ≡ cond d (wanted s (notes_of u ns) + 1) (wanted s (notes_of u ns)) + wanted s (notes_not_of u ns)
          by_test true = omega (arith, h)
          by_test false = h
      go false h = by_test (s.wants n.note)
        where
          by_test : (d : Bool) → cond d (wanted s ns + 1) (wanted s ns) ≡ wanted s (notes_of u ns) + cond d (wanted s (notes_not_of u ns) + 1) (wanted s (notes_not_of u ns))
          by_test true = omega (arith, h)
          by_test false = h

  -- the others' are of the others
  others_live : (k : Txn) (ks : List Txn) (ns : List (Top s.C s.N)) → Each (λ m. is_live (k ∷ ks) m.transaction ≡ true) ns → Each (λ m. is_live ks m.transaction ≡ true) (notes_not_of k.transaction ns)
  others_live k ks [] h = tt
  others_live k ks (n ∷ ns) h = go (n.transaction == k.transaction) refl (k.transaction == n.transaction) refl h.0 (others_live k ks ns h.1)
    where
      go : (b : Bool) → (n.transaction == k.transaction) ≡ b → (c : Bool) → (k.transaction == n.transaction) ≡ c → (c || is_live ks n.transaction) ≡ true
          → Each (λ m. is_live ks m.transaction ≡ true) (notes_not_of k.transaction ns) → Each (λ m. is_live ks m.transaction ≡ true) (cond (not b) (n ∷ notes_not_of k.transaction ns) (notes_not_of k.transaction ns))
      go true e c f live rest = rest
      go false e true f live rest = absurd (let same : (n.transaction == k.transaction) ≡ true = eq-eqb n.transaction k.transaction (sym (eqb-true k.transaction n.transaction f)) in let no : false ≡ true = sym e ∙ same in cc)
      go false e false f live rest = (live, rest)

  -- WHERE EACH IS THERE ONCE the notes want exactly what is reserved
  wanted_exactly : (ks : List Txn) (ns : List (Top s.C s.N)) → AreReserved s ks ns → Each (λ m. is_live ks m.transaction ≡ true) ns → AreOnce ks → sum_by (λ (x : Txn). x.reserved) ks ≡ wanted s ns
  wanted_exactly [] [] h live once = refl
  wanted_exactly [] (n ∷ ns) h live once = absurd (let no : false ≡ true = live.0 in cc)
  wanted_exactly (k ∷ ks) ns h live once =
      let own : k.reserved ≡ wanted s (notes_of k.transaction ns) = h.0 in
      let rest : sum_by (λ (x : Txn). x.reserved) ks ≡ wanted s (notes_not_of k.transaction ns)
      = wanted_exactly ks (notes_not_of k.transaction ns) (subst (λ (xs : List Txn). AreReserved s xs (notes_not_of k.transaction ns)) (without_first k ks once.0) (reserved_without s (k ∷ ks) ns k.transaction h))
      (others_live k ks ns live) once.1 in
      let all : wanted s ns ≡ wanted s (notes_of k.transaction ns) + wanted s (notes_not_of k.transaction ns) = wanted_split k.transaction ns in
      let sum : sum_by (λ (x : Txn). x.reserved) (k ∷ ks) ≡ k.reserved + sum_by (λ (x : Txn). x.reserved) ks = sum_by-cons (λ (x : Txn). x.reserved) k ks in
      omega (arith, own, rest, all, sum)

module _ (t : Operations) (g : Ground) where
  -- each standing note is of a live transaction
  notes_live : (v : View g) (txns : List Txn) (x : Run) → IsKept t g v txns x → Each (λ m. is_live txns m.transaction ≡ true) (tally v.log).notes
  notes_live v txns x kept =
      each_bare (setting t g) (λ j. is_live txns j ≡ true) kept.logs.keeps.running.placed (tally v.log).notes kept.logs.keeps.running.are
      (each_more (λ m. IsNote (tally v.log).live _ m.transaction m.lsn m.undo_next) (λ m. is_live txns m.transaction ≡ true) kept.logs.keeps.running.placed
      (λ m z. same_live txns x.so_far.live m.transaction kept.live ∙ (sym (kept.logs.same.lives m.transaction) ∙ z.is_live)) kept.logs.keeps.running.notes)

  kept_in : NeedsByStock t g → (ns : List (Top g.C g.N)) → reserved_in (map (step_of g) ns) ≡ wanted (setting t g) ns
  kept_in needs [] = refl
  kept_in needs (n ∷ ns) =
      let a : one_kept (g.kind n.note) ≡ wants_one (setting t g) n = needs.kept n.note in
      let b : reserved_in (map (step_of g) ns) ≡ wanted (setting t g) ns = kept_in needs ns in
      let c : wanted (setting t g) (n ∷ ns) ≡ wanted (setting t g) ns + wants_one (setting t g) n = wanted_one (setting t g) n ns in
      omega (arith, a, b, c)

  pub reserved_is : NeedsByStock t g → (v : View g) (txns : List Txn) (x : Run) (r : RunStock) → IsKept t g v txns x → ShowsStock t g v r → sum_by (λ (k : Txn). k.reserved) txns ≡ reserved_in r.steps
  reserved_is needs v txns x r kept shown =
      wanted_exactly (setting t g) txns (tally v.log).notes kept.reserved (notes_live v txns x kept) (rising_once txns x.so_far.live kept.live kept.logs.sound.serial.rising)
      ∙ (sym (kept_in needs (tally v.log).notes) ∙ ap reserved_in shown.steps)
