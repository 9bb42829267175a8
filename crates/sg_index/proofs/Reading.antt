-- Entries and branches taken off the front of some bytes, step by step.
use Rattle.std.proofs.Common.{◌≡◌, ℕ, ◌<◌, ◌≤◌, true, false, List, [], ◌∷◌, ◌++◌, length, Some, None, refl, arith}
use Rattle.std.specs.Prelude.{nat_le, ◌&&◌}
use Rattle.std.proofs.lemmas.Bool.Decides.{nat_tests}
use Rattle.sg_base.specs.Forms.{read_number, read_text}
use Rattle.sg_index.specs.declared.item.Item.{Item}
use Rattle.sg_index.specs.Node.{entry, branch, read_entry, read_branch}

module _ (items : List Item) (bytes : List ℕ) where
  pub entry_none_1 : None ≡ read_number 1 bytes → None ≡ read_entry items bytes
  unfolding read_entry
  entry_none_1 e = rw (← e) refl

  module _ (k : ℕ) (one : List ℕ) (e : Some (k, one) ≡ read_number 1 bytes) where
    pub entry_none_2 : None ≡ read_number 1 one → None ≡ read_entry items bytes
    unfolding read_entry
    entry_none_2 f = rw (← e, ← f) refl

    pub branch_none_2 : (child : ℕ) → None ≡ read_text k one → None ≡ read_branch items child bytes
    unfolding read_branch
    branch_none_2 child f = rw (← e, ← f) refl

    module _ (child : ℕ) (key rest : List ℕ) (f : Some (key, rest) ≡ read_text k one) where
      pub branch_long : 64 < length key → None ≡ read_branch items child bytes
      unfolding read_branch
      branch_long long = let no : nat_le (length key) 64 ≡ false = grind (arith, nat_tests, long) in rw (← e, ← f, no) refl

      pub branch_some : length key ≤ 64 → Some (items ++ branch key child ∷ [], rest) ≡ read_branch items child bytes
      unfolding read_branch
      branch_some short = let yes : nat_le (length key) 64 ≡ true = grind (arith, nat_tests, short) in rw (← e, ← f, yes) refl

    module _ (v : ℕ) (two : List ℕ) (f : Some (v, two) ≡ read_number 1 one) where
      pub entry_none_3 : None ≡ read_text k two → None ≡ read_entry items bytes
      unfolding read_entry
      entry_none_3 g = rw (← e, ← f, ← g) refl

      module _ (key three : List ℕ) (g : Some (key, three) ≡ read_text k two) where
        pub entry_none_4 : None ≡ read_text v three → None ≡ read_entry items bytes
        unfolding read_entry
        entry_none_4 h = rw (← e, ← f, ← g, ← h) refl

        module _ (value rest : List ℕ) (h : Some (value, rest) ≡ read_text v three) where
          pub entry_key_long : 64 < length key → None ≡ read_entry items bytes
          unfolding read_entry
          entry_key_long long = let no : (nat_le (length key) 64 && nat_le (length value) 64) ≡ false = grind (arith, nat_tests, long) in rw (← e, ← f, ← g, ← h, no) refl

          pub entry_value_long : 64 < length value → None ≡ read_entry items bytes
          unfolding read_entry
          entry_value_long long = let no : (nat_le (length key) 64 && nat_le (length value) 64) ≡ false = grind (arith, nat_tests, long) in rw (← e, ← f, ← g, ← h, no) refl

          pub entry_some : length key ≤ 64 → length value ≤ 64 → Some (items ++ entry key value ∷ [], rest) ≡ read_entry items bytes
          unfolding read_entry
          entry_some short few = let yes : (nat_le (length key) 64 && nat_le (length value) 64) ≡ true = grind (arith, nat_tests, short, few) in rw (← e, ← f, ← g, ← h, yes) refl

  pub branch_none_1 : (child : ℕ) → None ≡ read_number 1 bytes → None ≡ read_branch items child bytes
  unfolding read_branch
  branch_none_1 child e = rw (← e) refl
