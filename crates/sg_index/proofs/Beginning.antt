-- The first entry of an index.
use Rattle.std.proofs.Common.{◌≡◌, ◌≢◌, ℕ, ◌<◌, ◌≤◌, ◌^◌, Bool, true, false, List, [], ◌∷◌, length, Option, Some, None, refl, sym, ap, ◌∙◌, subst, arith, inl, inr}
use Rattle.std.specs.Prelude.{◌==◌, is_some, not, option_and_then}
use Rattle.std.proofs.lemmas.Bool.Decides.{nat_tests}
use Rattle.sg_index.specs.Node.{entry}
use Rattle.sg_index.specs.Order.{IsBelow, Entry, value_in, with_entry}
use Rattle.sg_index.specs.Records.{Map}
use Rattle.sg_index.specs.Tree.{separator, node_key, times}
use Rattle.sg_index.specs.Index.{header_key, header_at, read_header, count_at, IsEmpty, IsIndex}
use Rattle.sg_index.specs.Change.{IsBegun, IsFull}
use Rattle.sg_index.proofs.Loading.{put_there}
use Rattle.sg_index.proofs.Counting.{one, one_other, other_key, header_other, count_none, count_some, node_same}
use Rattle.sg_index.proofs.Headers.{header_written}
use Rattle.sg_index.proofs.Trees.{TreeAt, index_at, entry_one}

header_none : (records : Map) → records header_key ≡ None → header_at records ≡ None
unfolding header_at
header_none records e = ap (λ (o : Option (List ℕ)). option_and_then read_header o) e

unlike : {X : Type 0} (o : Option X) (x : X) → o ≡ None → o ≡ Some x → ⊥
unlike o x e f = cc

-- an index without the record `h` is empty
pub no_header : (records : Map) (entries : List Entry) → IsIndex records entries → records header_key ≡ None → IsEmpty records entries
no_header records entries (inl empty) e = empty
no_header records entries (inr tree) e = absurd (unlike (header_at records) tree.header (header_none records e) tree.header_is)

pub begun_fits : (records : Map) (key : List ℕ) → records header_key ≡ None → IsFull records key → ⊥
begun_fits records key e full = unlike (header_at records) full.0 (header_none records e) full.2

pub begun_new : (records : Map) (entries : List Entry) (key : List ℕ) → IsIndex records entries → records header_key ≡ None → true ≡ not (is_some (value_in entries key))
unfolding value_in
begun_new records entries key index e = ap (λ (es : List Entry). not (is_some (value_in es key))) (sym (no_header records entries index e).entries_are)

module _ (old new : Map) (key value : List ℕ) (b : IsBegun old new key value) (none : (k : List ℕ) → old k ≡ None) (some : 1 ≤ length key) (few : length key ≤ 64) (short : length value ≤ 64) where
  one_there : new (node_key 1) ≡ b.between (node_key 1)
  one_there = b.header.others (node_key 1) (λ e. header_other 1 (sym e))

  others_none : (k : List ℕ) → k ≢ header_key → k ≢ node_key 1 → new k ≡ None
  others_none k p q = b.header.others k p ∙ (b.node.others k q ∙ none k)

  counts : (q : ℕ) → q < 2 ^ 32 → times q (1 ∷ []) ≡ count_at new q
  counts q small = by (q == 1) refl
    where
      by : (t : Bool) → (q == 1) ≡ t → times q (1 ∷ []) ≡ count_at new q
      by true e =
          let is : q ≡ 1 = grind (arith, nat_tests, e) in
          omega (arith, ap (λ (k : ℕ). one k 1) is, ap (count_at new) is, count_some new 1 _ (one_there ∙ b.node.there))
      by false e =
          let other : q ≢ 1 = grind (arith, nat_tests, e) in
          omega (arith, one_other q 1 (λ f. other (sym f)), count_none new q (others_none (node_key q) (λ f. header_other q (sym f)) (other_key q 1 small (omega arith) other)))

  begun_tree : TreeAt new ((key, value) ∷ []) (record { root = 1; next = 2; height = 1 })
  begun_tree = record {
    header_is = header_written b.between new (record { root = 1; next = 2; height = 1 }) (record { root = omega arith; next = omega arith; low = omega arith; high = omega arith }) b.header;
    items = entry key value ∷ [];
    marks = separator [] ∷ (record { key = key; value = Some value } ∷ []);
    numbers = [];
    root = node_same b.between new true 1 one_there ∙ put_there old b.between true 1 (entry key value ∷ []) (record { key = few; value = short; child = refl }, tt) (omega arith) b.node;
    enough = omega arith;
    holds = record { marks_are = refl; numbers_are = refl };
    rises = ((inl (key_above key some), tt), (tt, tt));
    entries_are = refl;
    each = entry_one key value some few short;
    once = counts;
    below = λ q on. omega (arith, one_other q 1 (λ e. absurd (omega (arith, e, on))));
    from_one = refl;
    others = λ k not_header not_node. others_none k not_header (not_node 1 (omega arith));
  }
    where
      key_above : (k : List ℕ) → 1 ≤ length k → IsBelow [] k
      key_above [] h = absurd (omega (arith, h))
      key_above (x ∷ xs) h = refl

pub begun : (old new : Map) (entries : List Entry) (key value : List ℕ) → IsIndex old entries → old header_key ≡ None → IsBegun old new key value → 1 ≤ length key → length key ≤ 64 → length value ≤ 64 → IsIndex new (with_entry entries key value)
unfolding with_entry
begun old new entries key value index e b some few short =
    let empty = no_header old entries index e in
    subst (λ (es : List Entry). IsIndex new (with_entry es key value)) (sym empty.entries_are) (index_at new ((key, value) ∷ []) (record { root = 1; next = 2; height = 1 }) (begun_tree old new key value b empty.none some few short))
