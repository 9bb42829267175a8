-- What is buried of a live transaction is buried of one that is marked.
use Rattle.std.proofs.Common.{◌≡◌, ◌⊎◌, ℕ, ◌<◌, Bool, true, false, not, cond, List, [], ◌∷◌, ◌++◌, refl, sym, ap, subst}
use Rattle.std.proofs.Common.{inl, inr}
use Rattle.std.specs.Prelude.{◌==◌, ◌||◌, ◌&&◌, All, if◌then◌else◌, sum_by, slice_index_or}
use Rattle.std.proofs.lemmas.List.Elements.{All-map}
use Rattle.std.proofs.lemmas.List.Sums.{sum_by-cons}
use Rattle.std.proofs.Common.{◌∙◌, ◌+◌}
use Rattle.sg_serial.specs.Locks.{Touch}
use Rattle.sg_model.specs.Touches.{Resource}
use Rattle.sg_model.specs.Verb.{Op}
use Rattle.sg_core.specs.Live.{Txn, is_of, is_live, without, begun, reserving, one_more, has_dropped, dropping, a_dropper}
use Rattle.sg_recovery.specs.Log.{Top}
use Rattle.sg_recovery.specs.Setting.{Setting}
use Rattle.sg_recovery.proofs.Basic.{each_more, each_append, each_filter, number_is}
use Rattle.sg_store.specs.Drops.{drops, marked_by, MarksOnly}
use Rattle.sg_store.specs.Ground.{Ground}
use Rattle.sg_store.specs.Store.{AreReserved, IsMarked, AreMarked}
use Rattle.sg_store.proofs.Live.{numbers}
use Rattle.sg_store.proofs.Owning.{differs}

-- THE MARK of a transaction changes nothing else of the list
numbers_dropping : (u : ℕ) (ks : List Txn) → numbers (dropping u ks) ≡ numbers ks
numbers_dropping u [] = refl
numbers_dropping u (k ∷ ks) = go (is_of u k) (numbers_dropping u ks)
  where
    go : (b : Bool) → numbers (dropping u ks) ≡ numbers ks → (cond b (a_dropper k) k).transaction ∷ numbers (dropping u ks) ≡ k.transaction ∷ numbers ks
    go true e = ap (λ ns. k.transaction ∷ ns) e
    go false e = ap (λ ns. k.transaction ∷ ns) e

pub numbers_marked : (op : Op) (u : ℕ) (ks : List Txn) → numbers (marked_by op u ks) ≡ numbers ks
numbers_marked op u ks = go (drops op)
  where
    go : (b : Bool) → numbers (if b then dropping u ks else ks) ≡ numbers ks
    go true = numbers_dropping u ks
    go false = refl

live_dropping : (u v : ℕ) (ks : List Txn) → is_live (dropping u ks) v ≡ is_live ks v
live_dropping u v [] = refl
live_dropping u v (k ∷ ks) = go (is_of u k) (live_dropping u v ks)
  where
    go : (b : Bool) → is_live (dropping u ks) v ≡ is_live ks v → (is_of v (cond b (a_dropper k) k) || is_live (dropping u ks) v) ≡ (is_of v k || is_live ks v)
    go true e = ap (λ b. is_of v k || b) e
    go false e = ap (λ b. is_of v k || b) e

pub live_marked : (op : Op) (u v : ℕ) (ks : List Txn) → is_live (marked_by op u ks) v ≡ is_live ks v
live_marked op u v ks = go (drops op)
  where
    go : (b : Bool) → is_live (if b then dropping u ks else ks) v ≡ is_live ks v
    go true = live_dropping u v ks
    go false = refl

sum_dropping : (u : ℕ) (ks : List Txn) → sum_by (λ x. x.reserved) (dropping u ks) ≡ sum_by (λ x. x.reserved) ks
sum_dropping u [] = refl
sum_dropping u (k ∷ ks) = sum_by-cons (λ (x : Txn). x.reserved) (cond (is_of u k) (a_dropper k) k) (dropping u ks) ∙ (go (is_of u k) (sum_dropping u ks) ∙ sym (sum_by-cons (λ (x : Txn). x.reserved) k ks))
  where
    go : (b : Bool) → sum_by (λ x. x.reserved) (dropping u ks) ≡ sum_by (λ x. x.reserved) ks → (cond b (a_dropper k) k).reserved + sum_by (λ x. x.reserved) (dropping u ks) ≡ k.reserved + sum_by (λ x. x.reserved) ks
    go true e = ap (λ n. k.reserved + n) e
    go false e = ap (λ n. k.reserved + n) e

pub sum_marked : (op : Op) (u : ℕ) (ks : List Txn) → sum_by (λ x. x.reserved) (marked_by op u ks) ≡ sum_by (λ x. x.reserved) ks
sum_marked op u ks = go (drops op)
  where
    go : (b : Bool) → sum_by (λ x. x.reserved) (if b then dropping u ks else ks) ≡ sum_by (λ x. x.reserved) ks
    go true = sum_dropping u ks
    go false = refl

pub below_marked : (op : Op) (u low : ℕ) (ks : List Txn) → All (λ k. k.transaction < low) ks → All (λ k. k.transaction < low) (marked_by op u ks)
below_marked op u low ks h = go (drops op)
  where
    one : (b : Bool) (k : Txn) → k.transaction < low → (cond b (a_dropper k) k).transaction < low
    one true k z = z
    one false k z = z

    go : (b : Bool) → All (λ k. k.transaction < low) (if b then dropping u ks else ks)
    go true = All-map (λ (k : Txn). k.transaction < low) (λ (k : Txn). cond (is_of u k) (a_dropper k) k) ks (λ i d lt. one (is_of u (slice_index_or ks i d)) (slice_index_or ks i d) (h i d lt))
    go false = h

reserved_dropping : (s : Setting) (u : ℕ) (ks : List Txn) (ns : List (Top s.C s.N)) → AreReserved s ks ns → AreReserved s (dropping u ks) ns
reserved_dropping s u [] ns h = tt
reserved_dropping s u (k ∷ ks) ns h = go (is_of u k) (reserved_dropping s u ks ns h.1)
  where
    go : (b : Bool) → AreReserved s (dropping u ks) ns → AreReserved s (cond b (a_dropper k) k ∷ dropping u ks) ns
    go true e = (h.0, e)
    go false e = (h.0, e)

pub reserved_marked : (s : Setting) (op : Op) (u : ℕ) (ks : List Txn) (ns : List (Top s.C s.N)) → AreReserved s ks ns → AreReserved s (marked_by op u ks) ns
reserved_marked s op u ks ns h = go (drops op)
  where
    go : (b : Bool) → AreReserved s (if b then dropping u ks else ks) ns
    go true = reserved_dropping s u ks ns h
    go false = h

-- NO OTHER is marked by it
pub marks_same : (op : Op) (u : ℕ) (ks ls : List Txn) → ls ≡ ks → MarksOnly u op ks ls
marks_same op u ks ls e v h = inl (subst (λ (xs : List Txn). has_dropped xs v ≡ true) e h)

others_unmarked : (u v : ℕ) (ks : List Txn) → (v == u) ≡ false → has_dropped (dropping u ks) v ≡ true → has_dropped ks v ≡ true
others_unmarked u v [] ne h = h
others_unmarked u v (k ∷ ks) ne h = go (is_of u k) refl (is_of v k) refl h (others_unmarked u v ks ne)
  where
    fin : (c : Bool) → (c || has_dropped (dropping u ks) v) ≡ true → (has_dropped (dropping u ks) v ≡ true → has_dropped ks v ≡ true) → (c || has_dropped ks v) ≡ true
    fin true z r = refl
    fin false z r = r z

    go : (a : Bool) → is_of u k ≡ a → (b : Bool) → is_of v k ≡ b → ((is_of v (cond a (a_dropper k) k) && (cond a (a_dropper k) k).dropped) || has_dropped (dropping u ks) v) ≡ true
        → (has_dropped (dropping u ks) v ≡ true → has_dropped ks v ≡ true) → ((b && k.dropped) || has_dropped ks v) ≡ true
    go true e true f z r = absurd (differs v u ne (sym (number_is k.transaction v f) ∙ number_is k.transaction u e))
    go true e false f z r = r (sym (ap (λ c. (c && true) || has_dropped (dropping u ks) v) f) ∙ z)
    go false e b f z r = fin (b && k.dropped) (sym (ap (λ c. (c && k.dropped) || has_dropped (dropping u ks) v) f) ∙ z) r

pub marks_only : (op : Op) (u : ℕ) (ks ls : List Txn) → ls ≡ marked_by op u ks → MarksOnly u op ks ls
marks_only op u ks ls e v h = go (drops op) refl (v == u) refl (subst (λ (xs : List Txn). has_dropped xs v ≡ true) e h)
  where
    go : (b : Bool) → drops op ≡ b → (c : Bool) → (v == u) ≡ c → has_dropped (if b then dropping u ks else ks) v ≡ true → (has_dropped ks v ≡ true) ⊎ ((v ≡ u) × (drops op ≡ true))
    go false d c f z = inl z
    go true d true f z = inr (number_is v u f, d)
    go true d false f z = inl (others_unmarked u v ks f z)

dropped_reserving : (u v : ℕ) (ks : List Txn) → has_dropped (reserving u ks) v ≡ has_dropped ks v
dropped_reserving u v [] = refl
dropped_reserving u v (k ∷ ks) = go (is_of u k) (dropped_reserving u v ks)
  where
    go : (b : Bool) → has_dropped (reserving u ks) v ≡ has_dropped ks v → ((is_of v (cond b (one_more k) k) && (cond b (one_more k) k).dropped) || has_dropped (reserving u ks) v) ≡ ((is_of v k && k.dropped) || has_dropped ks v)
    go true e = ap (λ x. (is_of v k && k.dropped) || x) e
    go false e = ap (λ x. (is_of v k && k.dropped) || x) e

pub marks_reserved : (op : Op) (u : ℕ) (ks ls ms : List Txn) → ls ≡ marked_by op u ks → ms ≡ reserving u ls → MarksOnly u op ks ms
marks_reserved op u ks ls ms e r v h = marks_only op u ks ls e v (sym (dropped_reserving u v ls) ∙ subst (λ (xs : List Txn). has_dropped xs v ≡ true) r h)

-- WHAT IS BURIED
module _ (g : Ground) where
  -- another reading, in which nothing is buried that wasn't
  pub marks_fewer : (ks : List Txn) (o p : g.O) → ((d : ℕ) (f : List (Touch Resource)) → g.Buried p d f → g.Buried o d f) → AreMarked g ks o → AreMarked g ks p
  marks_fewer ks o p was h = each_more (IsMarked g o) (IsMarked g p) ks (λ k z none f is. z none f (was k.transaction f is)) h

  -- a transaction begins, of which nothing is buried
  pub marks_begun : (ks : List Txn) (n : ℕ) (o : g.O) → ((f : List (Touch Resource)) → g.Buried o n f → ⊥) → AreMarked g ks o → AreMarked g (ks ++ begun n ∷ []) o
  marks_begun ks n o none h = each_append (IsMarked g o) ks (begun n ∷ []) h ((λ e f is. none f is), tt)

  -- one is no more
  pub marks_without : (ks : List Txn) (u : ℕ) (o : g.O) → AreMarked g ks o → AreMarked g (without u ks) o
  marks_without ks u o h = each_filter (IsMarked g o) (λ k. not (is_of u k)) ks h

  -- one has reserved more
  pub marks_reserving : (u : ℕ) (ks : List Txn) (o : g.O) → AreMarked g ks o → AreMarked g (reserving u ks) o
  marks_reserving u [] o h = tt
  marks_reserving u (k ∷ ks) o h = (go (is_of u k), marks_reserving u ks o h.1)
    where
      go : (b : Bool) → IsMarked g o (cond b (one_more k) k)
      go true = h.0
      go false = h.0

  -- an operation of one was done, which is marked if that drops something
  module _ (op : Op) (u : ℕ) (o p : g.O) (was : (d : ℕ) (f : List (Touch Resource)) → g.Buried p d f → g.Buried o d f ⊎ ((d ≡ u) × (drops op ≡ true))) where
    still : (k : Txn) → IsMarked g o k → (k.transaction ≡ u → drops op ≡ true → ⊥) → IsMarked g p k
    still k h other none f is = go (was k.transaction f is)
      where
        go : g.Buried o k.transaction f ⊎ ((k.transaction ≡ u) × (drops op ≡ true)) → ⊥
        go (inl old) = h none f old
        go (inr new) = other new.0 new.1

    dropped_all : (ks : List Txn) → AreMarked g ks o → AreMarked g (dropping u ks) p
    dropped_all [] h = tt
    dropped_all (k ∷ ks) h = (go (is_of u k) refl, dropped_all ks h.1)
      where
        go : (b : Bool) → is_of u k ≡ b → IsMarked g p (cond b (a_dropper k) k)
        go true e = λ none f is. absurd cc
        go false e = still k h.0 (λ same yes. differs k.transaction u e same)

    pub marks_done : (ks : List Txn) → AreMarked g ks o → AreMarked g (marked_by op u ks) p
    marks_done ks h = go (drops op) refl
      where
        go : (b : Bool) → drops op ≡ b → AreMarked g (if b then dropping u ks else ks) p
        go true e = dropped_all ks h
        go false e = each_more (IsMarked g o) (IsMarked g p) ks (λ k z. still k z (λ same yes. clash yes e)) h
          where
            clash : drops op ≡ true → drops op ≡ false → ⊥
            clash a b = absurd cc

  -- SO NOTHING IS BURIED of a live one that isn't marked
  pub none_unmarked : (ks : List Txn) (u : ℕ) (o : g.O) → AreMarked g ks o → is_live ks u ≡ true → has_dropped ks u ≡ false → (f : List (Touch Resource)) → g.Buried o u f → ⊥
  none_unmarked [] u o h live none f is = absurd cc
  none_unmarked (k ∷ ks) u o h live none f is = go (is_of u k) refl k.dropped refl live none (λ l n. none_unmarked ks u o h.1 l n f is)
    where
      go : (a : Bool) → is_of u k ≡ a → (b : Bool) → k.dropped ≡ b → (a || is_live ks u) ≡ true → ((a && b) || has_dropped ks u) ≡ false → (is_live ks u ≡ true → has_dropped ks u ≡ false → ⊥) → ⊥
      go true e true d l n r = absurd cc
      go true e false d l n r = h.0 d f (subst (λ z. g.Buried o z f) (sym (number_is k.transaction u e)) is)
      go false e b d l n r = r l n
