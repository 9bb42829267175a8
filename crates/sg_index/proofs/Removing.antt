-- A whole tree once an entry was taken from below its root: the root is written, or its only child takes its place.
use Rattle.std.proofs.Common.{◌≡◌, ◌≢◌, ℕ, suc, ◌+◌, ◌-◌, ◌<◌, ◌≤◌, ◌^◌, Bool, true, false, List, [], ◌∷◌, length, get_or, Some, None, refl, sym, ap, ◌∙◌, subst, arith, inl, append-nil}
use Rattle.std.specs.Prelude.{◌==◌, is_some, if◌then◌else◌}
use Rattle.std.specs.List.{flat_map}
use Rattle.std.proofs.lemmas.Bool.Decides.{nat_tests}
use Rattle.std.proofs.lemmas.List.{get_or_default}
use Rattle.std.proofs.lemmas.Option.{same_Some}
use Rattle.sg_index.specs.declared.header.Header.{Header}
use Rattle.sg_index.specs.declared.item.Item.{Item}
use Rattle.sg_index.specs.Node.{spelled, AreFit, CanBe}
use Rattle.sg_index.specs.Order.{Entry, value_in, without_key}
use Rattle.sg_index.specs.Records.{Map}
use Rattle.sg_index.specs.Tree.{Mark, Rises, entries_in, Child, branches, marks_in, numbers_in, IsChild, Holds, fewest, first_key, node_key, node_at, times}
use Rattle.sg_index.specs.Index.{IsEntry, header_key, count_at, root_fewest, IsIndex}
use Rattle.sg_index.specs.Change.{edited, AreNumbered, AreRenumbered, IsWritten, IsHeaded, IsChanged, IsLowered}
use Rattle.sg_index.proofs.Every.{Every}
use Rattle.sg_index.proofs.Seeking.{length-branches}
use Rattle.sg_index.proofs.Counting.{one_same, other_key, count_most, node_same, numbered_after, renumbered_within, renumbered_then, renumbered_del}
use Rattle.sg_index.proofs.Moving.{AreSame, holds_kept}
use Rattle.sg_index.proofs.Headers.{header_written}
use Rattle.sg_index.proofs.Beginning.{no_header}
use Rattle.sg_index.proofs.Trees.{TreeAt, all_numbered, tree_now, each_edited}
use Rattle.sg_index.proofs.Inserting.{tree_kept}

-- no number is new, whatever the next one is
pub renumbered_at : {old mid : Map} {before after : List ℕ} (n : ℕ) → AreRenumbered old mid (2 ^ 32) (2 ^ 32) before after → AreRenumbered old mid n n before after
renumbered_at n h = record {
  counts = h.counts;
  kept = λ q small none at. h.kept q small none (inl small);
  others = h.others;
  later = omega arith;
}

pub changed_at : {key : List ℕ} {middle : List Entry} {known : Bool} {old mid : Map} {level : ℕ} {sep : List ℕ} {marks : List Mark} {numbers : List ℕ} {items : List Item} (n : ℕ) → IsChanged key middle known old mid (2 ^ 32) (2 ^ 32) level sep marks numbers items → IsChanged key middle known old mid n n level sep marks numbers items
changed_at n c = record {
  marks_now = c.marks_now;
  numbers_now = c.numbers_now;
  holds = c.holds;
  edited = c.edited;
  renumbered = renumbered_at n c.renumbered;
}

pub none_numbered : (records : Map) (entries : List Entry) (h : Header) (t : TreeAt records entries h) → AreNumbered records (2 ^ 32) t.numbers
none_numbered records entries h t = record {
  once = λ q small. omega (arith, t.once q small);
  free = λ q small on. absurd (omega (arith, small, on));
}

-- an empty index without a key is empty
pub removed_none : (records now : Map) → now ≡ records → (entries : List Entry) (key : List ℕ) → IsIndex records entries → records header_key ≡ None → IsIndex now (without_key entries key)
unfolding without_key
removed_none records now same entries key index e =
    let empty = no_header records entries index e in
    subst (λ (m : Map). IsIndex m (without_key entries key)) (sym same) (subst (λ (es : List Entry). IsIndex records (without_key es key)) (sym empty.entries_are) (inl (record { none = empty.none; entries_are = refl })))

pub there_none : (records : Map) (entries : List Entry) (key : List ℕ) → IsIndex records entries → records header_key ≡ None → false ≡ is_some (value_in entries key)
unfolding value_in
there_none records entries key index e = ap (λ (es : List Entry). is_some (value_in es key)) (sym (no_header records entries index e).entries_are)

module _ (old mid : Map) (entries : List Entry) (h : Header) (t : TreeAt old entries h) (key : List ℕ) (middle : List Entry) (known : Bool) (items : List Item) (changed : IsChanged key middle known old mid (2 ^ 32) (2 ^ 32) (h.height - 1) [] t.marks t.numbers items) (root_small : h.root < 2 ^ 32) (each_middle : Every IsEntry middle) where
  -- the root is written, and the header stays
  pub tree_less : (new : Map) (flag : Bool) (held : List Item) → node_at old ((h.height - 1) == 0) h.root ≡ Some held → IsWritten flag mid new h.root (spelled ((h.height - 1) == 0) items) → (flag ≡ false → items ≡ held) → AreFit ((h.height - 1) == 0) items → CanBe ((h.height - 1) == 0) (length items) → root_fewest ((h.height - 1) == 0) ≤ length items → TreeAt new (edited entries key middle) h
  tree_less new flag held read written same fit can enough =
      tree_kept old mid entries h t key middle known h.next items (changed_at h.next changed) root_small new new flag held read written same fit can enough (λ is. record { header_is = is; others = λ k other. refl }) each_middle

  module _ (below : ℕ) (level_is : h.height - 1 ≡ suc below) (one_item : length items ≡ 1) (new : Map) (child : ℕ) (child_is : (d : Item) → child ≡ (get_or items 0 d).child) (lowered : IsLowered mid new h child) (low : h.height ≤ 16) (next_small : h.next < 2 ^ 32) where
    whole : Holds mid (suc below) [] items changed.marks_now changed.numbers_now
    whole = subst (λ (l : ℕ). Holds mid l [] items changed.marks_now changed.numbers_now) level_is changed.holds

    below_ren : AreRenumbered old mid h.next h.next (h.root ∷ t.numbers) (h.root ∷ changed.numbers_now)
    below_ren = renumbered_within (λ q. if h.root == q then 1 else 0) (h.root ∷ t.numbers) (h.root ∷ changed.numbers_now) (λ q. refl) (λ q. refl) (renumbered_at h.next changed.renumbered)

    below_numbered : AreNumbered mid h.next (h.root ∷ changed.numbers_now)
    below_numbered = numbered_after below_ren (all_numbered old entries h t)

    root_count : count_at mid h.root ≡ 1
    root_count = omega (arith, below_numbered.once h.root root_small, one_same h.root, count_most mid h.root)

    root_apart : times h.root changed.numbers_now ≡ 0
    root_apart = omega (arith, below_numbered.once h.root root_small, one_same h.root, count_most mid h.root)

    gone_ren : AreRenumbered mid lowered.between h.next h.next (h.root ∷ changed.numbers_now) changed.numbers_now
    gone_ren = renumbered_del mid lowered.between h.root root_small lowered.gone h.next (h.root ∷ changed.numbers_now) changed.numbers_now root_count (λ q. omega arith)

    others_same : AreSame mid lowered.between changed.numbers_now
    others_same = λ q small some. lowered.gone.others (node_key q) (other_key q h.root small root_small (λ e. absurd (omega (arith, some, root_apart, ap (λ (k : ℕ). times k changed.numbers_now) e))))

    with_child : (c : Child) → whole.children ≡ c ∷ [] → TreeAt new (edited entries key middle) (record { root = child; next = h.next; height = h.height - 1 })
    with_child c is =
        let all : Every (IsChild mid (below == 0) (Holds mid below)) (c ∷ []) = subst (Every (IsChild mid (below == 0) (Holds mid below))) is whole.each in
        let ch = all.0 in
        let items_are : items ≡ branches (c ∷ []) = whole.items_are ∙ ap branches is in
        let number_is : child ≡ c.number = child_is (record { key = []; value = []; child = 0 }) ∙ ap (λ (xs : List Item). (get_or xs 0 (record { key = []; value = []; child = 0 })).child) items_are in
        let key_is : c.key ≡ [] = same_Some c.key [] (ap first_key (sym is) ∙ whole.first) in
        let numbers_are : changed.numbers_now ≡ c.number ∷ ch.below = whole.numbers_are ∙ (ap (flat_map numbers_in) is ∙ (append-nil c.numbers ∙ ch.numbers_are)) in
        let marks_are : changed.marks_now ≡ c.marks = whole.marks_are ∙ (ap (flat_map marks_in) is ∙ append-nil c.marks) in
        let same : AreSame mid lowered.between (c.number ∷ ch.below) = subst (AreSame mid lowered.between) numbers_are others_same in
        let below_same : AreSame mid lowered.between ch.below = λ q small some. same q small (omega (arith, some)) in
        let lower_is : below ≡ (h.height - 1) - 1 = omega (arith, level_is) in
        let there : node_at lowered.between (below == 0) child ≡ Some ch.items = ap (node_at lowered.between (below == 0)) number_is ∙ (node_same mid lowered.between (below == 0) c.number (same c.number ch.small (omega (arith, one_same c.number))) ∙ ch.there) in
        let holds : Holds lowered.between below [] ch.items c.marks ch.below = subst (λ (k : List ℕ). Holds lowered.between below k ch.items c.marks ch.below) key_is (holds_kept mid lowered.between below c.key ch.items c.marks ch.below ch.holds below_same) in
        let small : child < 2 ^ 32 = subst (λ (q : ℕ). q < 2 ^ 32) (sym number_is) ch.small in
        let says : IsHeaded lowered.between new (record { root = child; next = h.next; height = h.height - 1 }) = record {
          header_is = header_written lowered.between new (record { root = child; next = h.next; height = h.height - 1 }) (record { root = small; next = next_small; low = omega (arith, level_is); high = omega (arith, low) }) lowered.header;
          others = lowered.header.others;
        } in
        tree_now old lowered.between new entries h t changed.numbers_now (record { root = child; next = h.next; height = h.height - 1 }) (renumbered_then below_ren gone_ren) says ch.items c.marks ch.below
        (subst (λ (l : ℕ). node_at lowered.between (l == 0) child ≡ Some ch.items) lower_is there)
        (subst (λ (l : ℕ). root_fewest (l == 0) ≤ length ch.items) lower_is (root_enough (below == 0) (length ch.items) ch.enough))
        (subst (λ (l : ℕ). Holds lowered.between l [] ch.items c.marks ch.below) lower_is holds)
        (subst Rises marks_are changed.edited.rises)
        (λ q. ap (times q) (numbers_are ∙ ap (λ (k : ℕ). k ∷ ch.below) (sym number_is))) small (edited entries key middle)
        (ap (λ (es : List Entry). edited es key middle) t.entries_are ∙ (sym changed.edited.entries ∙ ap entries_in marks_are)) (each_edited entries key middle t.each each_middle)
      where
        root_enough : (leaf : Bool) (n : ℕ) → fewest leaf ≤ n → root_fewest leaf ≤ n
        root_enough true n le = omega arith
        root_enough false n le = omega (arith, le)

    -- the root's only child is the root
    pub tree_lowered : TreeAt new (edited entries key middle) (record { root = child; next = h.next; height = h.height - 1 })
    tree_lowered = by whole.children refl
      where
        by : (cs : List Child) → whole.children ≡ cs → TreeAt new (edited entries key middle) (record { root = child; next = h.next; height = h.height - 1 })
        by [] e = absurd (omega (arith, one_item, ap length whole.items_are, length-branches whole.children, ap length e))
        by (c ∷ []) e = with_child c e
        by (c ∷ (d ∷ ds)) e = absurd (omega (arith, one_item, ap length whole.items_are, length-branches whole.children, ap length e))

-- a root with too few items is one of two children that lost one
pub one_left : (level len before : ℕ) → root_fewest (level == 0) ≤ before → before ≤ len + 1 → len < root_fewest (level == 0) → (len ≡ 1) × (level ≡ suc (level - 1))
one_left level len before enough few less = by (level == 0) refl
  where
    by : (b : Bool) → (level == 0) ≡ b → (len ≡ 1) × (level ≡ suc (level - 1))
    by true e = absurd (omega (arith, less, ap root_fewest e))
    by false e = let high : level ≢ 0 = grind (arith, nat_tests, e) in (omega (arith, less, enough, few, ap root_fewest e), omega (arith, high))

pub can_left : (leaf : Bool) (n m : ℕ) → CanBe leaf n → m ≤ n → root_fewest leaf ≤ m → CanBe leaf m
can_left true n m can le enough = omega (arith, can, le)
can_left false n m can le enough = (omega (arith, enough), omega (arith, can.1, le))

pub only_child : (slice items : List Item) (i : Item) → slice ≡ items → length items ≡ 1 → (d : Item) → (get_or slice 0 i).child ≡ (get_or items 0 d).child
only_child slice items i is len d = ap (λ (xs : List Item). (get_or xs 0 i).child) is ∙ ap (λ (x : Item). x.child) (get_or_default items 0 i d (omega (arith, len)))
