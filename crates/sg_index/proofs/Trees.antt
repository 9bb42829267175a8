-- A whole tree after a change.
use Rattle.std.proofs.Common.{◌≡◌, ◌≢◌, ℕ, ◌+◌, ◌-◌, ◌<◌, ◌≤◌, ◌^◌, Bool, true, false, cond, List, [], ◌∷◌, ◌++◌, length, Some, None, refl, sym, ap, ◌∙◌, subst, arith, inl, inr, add-zero}
use Rattle.std.specs.Prelude.{◌==◌, ◌⊎◌, nat_lt, filter, if◌then◌else◌}
use Rattle.std.specs.Ordering.{is_lt, is_gt}
use Rattle.std.proofs.lemmas.Bool.Decides.{nat_tests}
use Rattle.std.proofs.lemmas.Option.{same_Some}
use Rattle.sg_index.specs.declared.header.Header.{Header}
use Rattle.sg_index.specs.declared.item.Item.{Item}
use Rattle.sg_index.specs.Order.{key_cmp, IsBelow, Entry, with_entry, without_key}
use Rattle.sg_index.specs.Records.{Map}
use Rattle.sg_index.specs.Tree.{Mark, Rises, entries_in, Holds, node_key, node_at, times, IsNoNode}
use Rattle.sg_index.specs.Index.{IsEntry, header_key, header_at, count_at, root_fewest, IsIndex}
use Rattle.sg_index.specs.Change.{edited, knows, AreNumbered, AreRenumbered, IsHeaded, IsFull, most, put_new, put_size, all_new}
use Rattle.sg_index.proofs.Every.{Every, every_join}
use Rattle.sg_index.proofs.Looking.{has_tree}
use Rattle.sg_index.proofs.Replacing.{less_or}
use Rattle.sg_index.proofs.Counting.{one_same, one_other, count_same, node_same, header_other, still_none}
use Rattle.sg_index.proofs.Moving.{holds_kept, holds_small}

-- a tree that a header tells of
pub record TreeAt (records : Map) (entries : List Entry) (h : Header) : Type 0 where
  pub header_is : header_at records ≡ Some h
  pub items : List Item
  pub marks : List Mark
  pub numbers : List ℕ
  pub root : node_at records ((h.height - 1) == 0) h.root ≡ Some items
  pub enough : root_fewest ((h.height - 1) == 0) ≤ length items
  pub holds : Holds records (h.height - 1) [] items marks numbers
  pub rises : Rises marks
  pub entries_are : entries ≡ entries_in marks
  pub each : Every IsEntry entries
  pub once : (q : ℕ) → q < 2 ^ 32 → times q (h.root ∷ numbers) ≡ count_at records q
  pub below : (q : ℕ) → h.next ≤ q → times q (h.root ∷ numbers) ≡ 0
  pub from_one : times 0 (h.root ∷ numbers) ≡ 0
  pub others : (key : List ℕ) → key ≢ header_key → ((q : ℕ) → q < 2 ^ 32 → key ≢ node_key q) → records key ≡ None

pub tree_at : (records : Map) (entries : List Entry) (h : Header) → IsIndex records entries → header_at records ≡ Some h → TreeAt records entries h
tree_at records entries h index is =
    let t = has_tree records entries h index is in
    let at : TreeAt records entries t.tree.header = record {
      header_is = t.tree.header_is;
      items = t.tree.items;
      marks = t.tree.marks;
      numbers = t.tree.numbers;
      root = t.tree.root;
      enough = t.tree.enough;
      holds = t.tree.holds;
      rises = t.tree.rises;
      entries_are = t.tree.entries_are;
      each = t.tree.each;
      once = t.tree.once;
      below = t.tree.below;
      from_one = t.tree.from_one;
      others = t.tree.others;
    } in
    subst (TreeAt records entries) t.header at

pub index_at : (records : Map) (entries : List Entry) (h : Header) → TreeAt records entries h → IsIndex records entries
index_at records entries h t = inr (record {
  header = h;
  header_is = t.header_is;
  items = t.items;
  marks = t.marks;
  numbers = t.numbers;
  root = t.root;
  enough = t.enough;
  holds = t.holds;
  rises = t.rises;
  entries_are = t.entries_are;
  each = t.each;
  once = t.once;
  below = t.below;
  from_one = t.from_one;
  others = t.others;
})

-- no key is below the empty one
pub not_below_none : (key : List ℕ) → IsBelow key [] → ⊥
not_below_none [] e = cc
not_below_none (b ∷ key) e = cc

module _ (records : Map) (entries : List Entry) (h : Header) (t : TreeAt records entries h) where
  root_here : 1 ≤ times h.root (h.root ∷ t.numbers)
  root_here = omega (arith, one_same h.root)

  pub root_below : h.root < h.next
  root_below = by (less_or h.root h.next)
    where
      by : ((h.root < h.next) ⊎ (h.next ≤ h.root)) → h.root < h.next
      by (inl f) = f
      by (inr f) = absurd (omega (arith, t.below h.root f, root_here))

  pub all_numbered : AreNumbered records h.next (h.root ∷ t.numbers)
  all_numbered = record {
    once = λ q small. omega (arith, t.once q small);
    free = λ q small on. omega (arith, t.once q small, t.below q on);
  }

  pub tree_numbered : AreNumbered records h.next t.numbers
  tree_numbered = record {
    once = λ q small. omega (arith, t.once q small);
    free = λ q small on. omega (arith, t.once q small, t.below q on);
  }

  -- the root has a node
  pub root_has_node : (few : ℕ) → few ≡ root_fewest ((h.height - 1) == 0) → IsNoNode records ((h.height - 1) == 0) few h.root → ⊥
  root_has_node few few_is none = absurd (omega (arith, none t.items t.root, t.enough, few_is))

  module _ (held : List Item) (read : node_at records ((h.height - 1) == 0) h.root ≡ Some held) where
    is_held : t.items ≡ held
    is_held = same_Some t.items held (sym t.root ∙ read)

    -- what is said of each tree below the root is said of this one
    pub says_tree : (Says : List ℕ → List Mark → List ℕ → Type 0) → ((sep : List ℕ) (marks : List Mark) (numbers : List ℕ) → Holds records (h.height - 1) sep held marks numbers → Rises marks → AreNumbered records h.next numbers → (IsBelow [] sep → ⊥) → Says sep marks numbers) → Says [] t.marks t.numbers
    says_tree Says all = all [] t.marks t.numbers (subst (λ (xs : List Item). Holds records (h.height - 1) [] xs t.marks t.numbers) is_held t.holds) t.rises tree_numbered (not_below_none [])

    pub says_key : (key : List ℕ) (next : ℕ) (Says : List ℕ → List Mark → List ℕ → Type 0) → AreNumbered records next t.numbers → ((sep : List ℕ) (marks : List Mark) (numbers : List ℕ) → Holds records (h.height - 1) sep held marks numbers → Rises marks → AreNumbered records next numbers → (IsBelow key sep → ⊥) → Says sep marks numbers) → Says [] t.marks t.numbers
    says_key key next Says numbered all = all [] t.marks t.numbers (subst (λ (xs : List Item). Holds records (h.height - 1) [] xs t.marks t.numbers) is_held t.holds) t.rises numbered (not_below_none key)

every_filter : (p : Entry → Bool) (es : List Entry) → Every IsEntry es → Every IsEntry (filter p es)
every_filter p [] all = tt
every_filter p (e ∷ es) all = by (every_filter p es all.1) (p e)
  where
    by : Every IsEntry (filter p es) → (b : Bool) → Every IsEntry (cond b (e ∷ filter p es) (filter p es))
    by rest true = (all.0, rest)
    by rest false = rest

pub each_edited : (entries : List Entry) (key : List ℕ) (middle : List Entry) → Every IsEntry entries → Every IsEntry middle → Every IsEntry (edited entries key middle)
each_edited entries key middle all new =
    every_join IsEntry (filter (λ e. is_lt (key_cmp e.0 key)) entries) (middle ++ filter (λ e. is_gt (key_cmp e.0 key)) entries) (every_filter (λ e. is_lt (key_cmp e.0 key)) entries all)
    (every_join IsEntry middle (filter (λ e. is_gt (key_cmp e.0 key)) entries) new (every_filter (λ e. is_gt (key_cmp e.0 key)) entries all))

-- A tree changed below its root, and perhaps in its header: the new one from its parts.
module _ (old mid new : Map) (entries : List Entry) (h : Header) (t : TreeAt old entries h) (after : List ℕ) (headed : Header) (ren : AreRenumbered old mid h.next headed.next (h.root ∷ t.numbers) after) (says : IsHeaded mid new headed) (items : List Item) (marks : List Mark) (numbers : List ℕ) (root : node_at mid ((headed.height - 1) == 0) headed.root ≡ Some items) (enough : root_fewest ((headed.height - 1) == 0) ≤ length items) (holds : Holds mid (headed.height - 1) [] items marks numbers) (rises : Rises marks) (after_is : (q : ℕ) → times q after ≡ times q (headed.root ∷ numbers)) (root_small : headed.root < 2 ^ 32) (entries_now : List Entry) (entries_are : entries_now ≡ entries_in marks) (each : Every IsEntry entries_now) where
  nodes_same : (q : ℕ) → new (node_key q) ≡ mid (node_key q)
  nodes_same q = says.others (node_key q) (λ e. header_other q (sym e))

  counts_now : (q : ℕ) → q < 2 ^ 32 → times q (headed.root ∷ numbers) ≡ count_at new q
  counts_now q small = omega (arith, ren.counts q small, t.once q small, count_same mid new q (nodes_same q), after_is q)

  past : (q : ℕ) → headed.next ≤ q → times q (headed.root ∷ numbers) ≡ 0
  past q on = by (less q)
    where
      less : (q : ℕ) → (q < 2 ^ 32) ⊎ (2 ^ 32 ≤ q)
      less q = less_or q (2 ^ 32)

      by : ((q < 2 ^ 32) ⊎ (2 ^ 32 ≤ q)) → times q (headed.root ∷ numbers) ≡ 0
      by (inl small) = sym (after_is q) ∙ still_none ren q small (t.below q (omega (arith, on, ren.later))) (inr on)
      by (inr large) = omega (arith, one_other q headed.root (λ e. absurd (omega (arith, e, large, root_small))), holds_small mid (headed.height - 1) [] items marks numbers holds q large)

  pub tree_now : TreeAt new entries_now headed
  tree_now = record {
    header_is = says.header_is;
    items = items;
    marks = marks;
    numbers = numbers;
    root = node_same mid new ((headed.height - 1) == 0) headed.root (nodes_same headed.root) ∙ root;
    enough = enough;
    holds = holds_kept mid new (headed.height - 1) [] items marks numbers holds (λ q small some. nodes_same q);
    rises = rises;
    entries_are = entries_are;
    each = each;
    once = counts_now;
    below = past;
    from_one =
        let low : 0 < h.next = omega (arith, root_below old entries h t) in
        sym (after_is 0) ∙ still_none ren 0 (omega arith) t.from_one (inl low);
    others = λ key not_header not_node. says.others key not_header ∙ (ren.others key not_node ∙ t.others key not_header not_node);
  }

pub with_edited : (entries : List Entry) (key value : List ℕ) → edited entries key ((key, value) ∷ []) ≡ with_entry entries key value
unfolding with_entry
with_edited entries key value = refl

pub without_edited : (entries : List Entry) (key : List ℕ) → edited entries key [] ≡ without_key entries key
unfolding without_key
without_edited entries key = refl

pub entry_one : (key value : List ℕ) → 1 ≤ length key → length key ≤ 64 → length value ≤ 64 → Every IsEntry ((key, value) ∷ [])
entry_one key value some few short = (record { some = some; key = few; value = short }, tt)

-- what was told of the entries of a tree was told of the index
pub told_all : {records : Map} {entries : List Entry} {h : Header} (t : TreeAt records entries h) (key : List ℕ) (known : Bool) → known ≡ knows (entries_in t.marks) key → known ≡ knows entries key
told_all t key known told = told ∙ ap (λ (es : List Entry). knows es key) (sym t.entries_are)

-- there was a number for each new node, where the root wasn't divided
pub not_full : (records : Map) (key : List ℕ) (h : Header) (items : List Item) (next len : ℕ) → header_at records ≡ Some h → node_at records ((h.height - 1) == 0) h.root ≡ Some items → next ≡ h.next + put_new records (h.height - 1) items key → len ≡ put_size records (h.height - 1) items key → len ≤ most ((h.height - 1) == 0) → next < 2 ^ 32 → IsFull records key → ⊥
not_full records key h items next len header_is there next_is len_is few small full =
    let same_h : full.0 ≡ h = same_Some full.0 h (sym full.2 ∙ header_is) in
    let there_full : node_at records ((h.height - 1) == 0) h.root ≡ Some full.1 = subst (λ (x : Header). node_at records ((x.height - 1) == 0) x.root ≡ Some full.1) same_h full.3 in
    let same_items : full.1 ≡ items = same_Some full.1 items (sym there_full ∙ there) in
    let more : 4294967295 < h.next + all_new records (h.height - 1) full.1 key = subst (λ (x : Header). 4294967295 < x.next + all_new records (x.height - 1) full.1 key) same_h full.4 in
    let at : 4294967295 < h.next + all_new records (h.height - 1) items key = subst (λ (xs : List Item). 4294967295 < h.next + all_new records (h.height - 1) xs key) same_items more in
    let none : all_new records (h.height - 1) items key ≡ put_new records (h.height - 1) items key = not_more (put_new records (h.height - 1) items key) (most ((h.height - 1) == 0)) (put_size records (h.height - 1) items key) (omega (arith, few, len_is)) in
    absurd (omega (arith, at, none, next_is, small))
  where
    not_more : (n most size : ℕ) → size ≤ most → n + (if nat_lt most size then 2 else 0) ≡ n
    not_more n most size le = let e : nat_lt most size ≡ false = grind (arith, nat_tests, le) in rw e (add-zero n)
