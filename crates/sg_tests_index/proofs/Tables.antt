-- A table in memory, whose records are put and taken away.
use Rattle.std.proofs.Common.{◌≡◌, ◌≢◌, ℕ, zero, suc, ◌+◌, ◌<◌, ◌≤◌, Bool, true, false, List, [], ◌∷◌, length, set, Option, Some, None, Result, Ok, Err, refl, sym, ap, ◌∙◌, subst, arith}
use Rattle.std.specs.Prelude.{◌==◌, if◌then◌else◌, slice_get}
use Rattle.std.specs.Option.{option_and_then}
use Rattle.std.specs.Result.{OnOk}
use Rattle.std.specs.Cmp.Lexicographic.{pointwise, same_text}
use Rattle.std.proofs.lemmas.Option.{slice_get_past}
use Rattle.byteorder.specs.Endian.{little_bytes}
use Rattle.sg_index.specs.Records.{Puts, Dels}
use Rattle.sg_tests_index.specs.declared.table.Place.{Place}
use Rattle.sg_tests_index.specs.declared.table.Place.TheVariants.{Header, Node, Other}
use Rattle.sg_tests_index.specs.Table.{number_in, place_of, some_bytes, record_at, record_in}

abbrev choose : Bool → Bool → ℕ → Place
choose a b n = if a then Header else (if b then Node n else Other)

choose_header : (a b : Bool) (n : ℕ) → choose a b n ≡ Header → a ≡ true
choose_header true b n e = refl
choose_header false true n e = cc
choose_header false false n e = cc

record IsNode (b : Bool) (n m : ℕ) : Type 0 where
  pub test : b ≡ true
  pub same : n ≡ m

choose_node : (a b : Bool) (n m : ℕ) → choose a b n ≡ Node m → IsNode b n m
choose_node true b n m e = absurd (no e)
  where
    no : Header ≡ Node m → ⊥
    no f = cc
choose_node false true n m e = record { test = refl; same = cc }
choose_node false false n m e = absurd (no e)
  where
    no : Other ≡ Node m → ⊥
    no f = cc

is_header : (k : List ℕ) → place_of k ≡ Header → k ≡ 104 ∷ []
is_header k e = same_text k (104 ∷ []) (sym (choose_header (pointwise ◌==◌ k (104 ∷ [])) (pointwise ◌==◌ k (110 ∷ little_bytes 4 (number_in k))) (number_in k) e))

is_node : (k : List ℕ) (m : ℕ) → place_of k ≡ Node m → k ≡ 110 ∷ little_bytes 4 m
is_node k m e =
    let h = choose_node (pointwise ◌==◌ k (104 ∷ [])) (pointwise ◌==◌ k (110 ∷ little_bytes 4 (number_in k))) (number_in k) m e in
    same_text k (110 ∷ little_bytes 4 (number_in k)) (sym h.test) ∙ ap (λ (n : ℕ). let key : List ℕ = 110 ∷ little_bytes 4 n in key) h.same

some_is : (v : List ℕ) → 1 ≤ length v → some_bytes v ≡ Some v
some_is [] h = absurd (omega (arith, h))
some_is (b ∷ bs) h = refl

get_set : {X : Type 0} (xs : List X) (n : ℕ) (x : X) → n < length xs → slice_get (set xs n x) n ≡ Some x
get_set [] n x h = absurd (omega (arith, h))
get_set (y ∷ ys) zero x h = refl
get_set (y ∷ ys) (suc n) x h = get_set ys n x (omega (arith, h))

get_other : {X : Type 0} (xs : List X) (n m : ℕ) (x : X) → m ≢ n → slice_get (set xs n x) m ≡ slice_get xs m
get_other [] n m x h = refl
get_other (y ∷ ys) zero zero x h = absurd (h refl)
get_other (y ∷ ys) zero (suc m) x h = refl
get_other (y ∷ ys) (suc n) zero x h = refl
get_other (y ∷ ys) (suc n) (suc m) x h = get_other ys n m x (λ e. h (ap suc e))

module _ {V : Type 0} (bytes_of : V → List ℕ) (header : List ℕ) (nodes : List V) (key : List ℕ) where
  header_others : (bytes : List ℕ) → place_of key ≡ Header → (k : List ℕ) → k ≢ key → record_in bytes_of bytes nodes k ≡ record_in bytes_of header nodes k
  header_others bytes e k other = by (place_of k) refl
    where
      by : (p : Place) → place_of k ≡ p → record_in bytes_of bytes nodes k ≡ record_in bytes_of header nodes k
      by Header f = absurd (other (is_header k f ∙ sym (is_header key e)))
      by (Node n) f = ap (record_at bytes_of bytes nodes) f ∙ sym (ap (record_at bytes_of header nodes) f)
      by Other f = ap (record_at bytes_of bytes nodes) f ∙ sym (ap (record_at bytes_of header nodes) f)

  pub header_put : (bytes : List ℕ) → 1 ≤ length bytes → place_of key ≡ Header → Puts (record_in bytes_of header nodes) key bytes (record_in bytes_of bytes nodes)
  header_put bytes some e = record {
    there = ap (record_at bytes_of bytes nodes) e ∙ some_is bytes some;
    others = header_others bytes e;
  }

  pub header_gone : (bytes : List ℕ) → bytes ≡ [] → place_of key ≡ Header → Dels (record_in bytes_of header nodes) key (record_in bytes_of bytes nodes)
  header_gone bytes none e = record {
    gone = ap (record_at bytes_of bytes nodes) e ∙ ap some_bytes none;
    others = header_others bytes e;
  }

  module _ (after : List V) (n : ℕ) (e : place_of key ≡ Node n) (same : (m : ℕ) → m ≢ n → slice_get after m ≡ slice_get nodes m) where
    node_others : (k : List ℕ) → k ≢ key → record_in bytes_of header after k ≡ record_in bytes_of header nodes k
    node_others k other = by (place_of k) refl
      where
        by : (p : Place) → place_of k ≡ p → record_in bytes_of header after k ≡ record_in bytes_of header nodes k
        by Header f = ap (record_at bytes_of header after) f ∙ sym (ap (record_at bytes_of header nodes) f)
        by (Node m) f =
            let apart : m ≢ n = λ g. other (is_node k m f ∙ (ap (λ (q : ℕ). let key : List ℕ = 110 ∷ little_bytes 4 q in key) g ∙ sym (is_node key n e))) in
            ap (record_at bytes_of header after) f ∙ (ap (λ (o : Option V). option_and_then (λ v. some_bytes (bytes_of v)) o) (same m apart) ∙ sym (ap (record_at bytes_of header nodes) f))
        by Other f = ap (record_at bytes_of header after) f ∙ sym (ap (record_at bytes_of header nodes) f)

    pub node_put : (v : V) → 1 ≤ length (bytes_of v) → slice_get after n ≡ Some v → Puts (record_in bytes_of header nodes) key (bytes_of v) (record_in bytes_of header after)
    node_put v some here = record {
      there = ap (record_at bytes_of header after) e ∙ (ap (λ (o : Option V). option_and_then (λ v. some_bytes (bytes_of v)) o) here ∙ some_is (bytes_of v) some);
      others = node_others;
    }

  pub node_gone : (n : ℕ) → place_of key ≡ Node n → (v : V) → bytes_of v ≡ [] → n < length nodes → Dels (record_in bytes_of header nodes) key (record_in bytes_of header (set nodes n v))
  node_gone n e v none within = record {
    gone = ap (record_at bytes_of header (set nodes n v)) e ∙ (ap (λ (o : Option V). option_and_then (λ v. some_bytes (bytes_of v)) o) (get_set nodes n v within) ∙ ap some_bytes none);
    others = node_others (set nodes n v) n e (λ m other. get_other nodes n m v other);
  }

  pub node_absent : (n : ℕ) → place_of key ≡ Node n → length nodes ≤ n → Dels (record_in bytes_of header nodes) key (record_in bytes_of header nodes)
  node_absent n e past = record {
    gone = ap (record_at bytes_of header nodes) e ∙ ap (λ (o : Option V). option_and_then (λ v. some_bytes (bytes_of v)) o) (slice_get_past nodes n past);
    others = λ k other. refl;
  }

-- a node's record was written, or the call failed
pub node_written : {V F : Type 0} (bytes_of : V → List ℕ) (header header_after : List ℕ) (nodes after : List V) (key : List ℕ) (n : ℕ) (v : V) (r : Result (Unit {0}) F) → place_of key ≡ Node n → 1 ≤ length (bytes_of v) → header_after ≡ header → OnOk r (slice_get after n ≡ Some v) → ((m : ℕ) → m ≢ n → OnOk r (slice_get after m ≡ slice_get nodes m)) → OnOk r (Puts (record_in bytes_of header nodes) key (bytes_of v) (record_in bytes_of header_after after))
node_written bytes_of header header_after nodes after key n v (Ok x) e some same here others =
    subst (λ (h : List ℕ). Puts (record_in bytes_of header nodes) key (bytes_of v) (record_in bytes_of h after)) (sym same) (node_put bytes_of header nodes key after n e others v some here)
node_written bytes_of header header_after nodes after key n v (Err x) e some same here others = tt
