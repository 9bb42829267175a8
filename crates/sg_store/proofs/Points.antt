-- The marks of a store's live transactions and those of the run's.
use Rattle.std.proofs.Common.{◌≡◌, ℕ, Bool, true, false, not, cond, List, [], ◌∷◌, ◌++◌, map, refl, sym, ap, ◌∙◌}
use Rattle.std.specs.Prelude.{◌==◌, if◌then◌else◌}
use Rattle.std.specs.List.{filter}
use Rattle.std.proofs.lemmas.List.{map-append}
use Rattle.sg_serial.specs.Runs.{Live, Mark}
use Rattle.sg_serial.specs.Runs as runs
use Rattle.sg_model.specs.Verb.{Op}
use Rattle.sg_core.specs.Live.{Txn, is_of, without, begun, reserving, one_more, dropping, a_dropper}
use Rattle.sg_store.specs.Drops.{drops, marked_by}
use Rattle.sg_store.proofs.Live.{run_numbers}
use Rattle.sg_store.specs.Store.{shown_txn, shown_live, HaveMarks}

-- a transaction begins, with no mark
pub same_marks_begun : (ks : List Txn) (ls : List Live) (n : ℕ) (name : List ℕ) → HaveMarks ks ls → HaveMarks (ks ++ begun n ∷ []) (ls ++ (record { name = name; transaction = n; marks = [] }) ∷ [])
same_marks_begun ks ls n name e =
    map-append shown_txn ks (begun n ∷ []) ∙ (ap (λ ps. ps ++ (n, []) ∷ []) e ∙ sym (map-append shown_live ls ((record { name = name; transaction = n; marks = [] }) ∷ [])))

-- one is no more
left_of : {A : Type 0} (f : A → ℕ × List ℕ) (u : ℕ) (xs : List A) → map f (filter (λ x. not ((f x).0 == u)) xs) ≡ filter (λ p. not (p.0 == u)) (map f xs)
left_of f u [] = refl
left_of {A} f u (x ∷ xs) = go (not ((f x).0 == u)) (left_of f u xs)
  where
    go : (b : Bool) → map f (filter (λ y. not ((f y).0 == u)) xs) ≡ filter (λ p. not (p.0 == u)) (map f xs)
        → map f (cond b (x ∷ filter (λ y. not ((f y).0 == u)) xs) (filter (λ y. not ((f y).0 == u)) xs)) ≡ cond b (f x ∷ filter (λ p. not (p.0 == u)) (map f xs)) (filter (λ p. not (p.0 == u)) (map f xs))
    go true h = ap (λ ps. f x ∷ ps) h
    go false h = h

pub same_marks_without : (ks : List Txn) (ls : List Live) (u : ℕ) → HaveMarks ks ls → HaveMarks (without u ks) (runs.without u ls)
same_marks_without ks ls u e = left_of shown_txn u ks ∙ (ap (λ ps. filter (λ p. not (p.0 == u)) ps) e ∙ sym (left_of shown_live u ls))

-- one has reserved more
pub shown_reserving : (u : ℕ) (ks : List Txn) → map shown_txn (reserving u ks) ≡ map shown_txn ks
shown_reserving u [] = refl
shown_reserving u (k ∷ ks) = go (is_of u k) (shown_reserving u ks)
  where
    go : (b : Bool) → map shown_txn (reserving u ks) ≡ map shown_txn ks → shown_txn (cond b (one_more k) k) ∷ map shown_txn (reserving u ks) ≡ shown_txn k ∷ map shown_txn ks
    go true e = ap (λ ps. shown_txn k ∷ ps) e
    go false e = ap (λ ps. shown_txn k ∷ ps) e

-- or has dropped something
shown_dropping : (u : ℕ) (ks : List Txn) → map shown_txn (dropping u ks) ≡ map shown_txn ks
shown_dropping u [] = refl
shown_dropping u (k ∷ ks) = go (is_of u k) (shown_dropping u ks)
  where
    go : (b : Bool) → map shown_txn (dropping u ks) ≡ map shown_txn ks → shown_txn (cond b (a_dropper k) k) ∷ map shown_txn (dropping u ks) ≡ shown_txn k ∷ map shown_txn ks
    go true e = ap (λ ps. shown_txn k ∷ ps) e
    go false e = ap (λ ps. shown_txn k ∷ ps) e

pub shown_marked : (op : Op) (u : ℕ) (ks : List Txn) → map shown_txn (marked_by op u ks) ≡ map shown_txn ks
shown_marked op u ks = go (drops op)
  where
    go : (b : Bool) → map shown_txn (if b then dropping u ks else ks) ≡ map shown_txn ks
    go true = shown_dropping u ks
    go false = refl

-- marks of a run's transactions change nothing of who is live
pub run_numbers_remarking : (u : ℕ) (f : List Mark → List Mark) (ls : List Live) → run_numbers (runs.remarking u f ls) ≡ run_numbers ls
run_numbers_remarking u f [] = refl
run_numbers_remarking u f (l ∷ ls) = go (l.transaction == u) (run_numbers_remarking u f ls)
  where
    go : (b : Bool) → run_numbers (runs.remarking u f ls) ≡ run_numbers ls → (cond b (record l { marks = f l.marks }) l).transaction ∷ run_numbers (runs.remarking u f ls) ≡ l.transaction ∷ run_numbers ls
    go true h = ap (λ ns. l.transaction ∷ ns) h
    go false h = ap (λ ns. l.transaction ∷ ns) h
