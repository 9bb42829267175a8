-- A whole tree once what is below its root was changed: the root is written, or divided.
use Rattle.std.proofs.Common.{◌≡◌, ℕ, suc, ◌+◌, ◌-◌, ◌<◌, ◌≤◌, ◌^◌, Bool, true, false, List, [], ◌∷◌, length, Option, Some, refl, sym, ap, ◌∙◌, subst, arith, inl}
use Rattle.std.specs.Prelude.{◌==◌, if◌then◌else◌}
use Rattle.std.specs.List.{flat_map}
use Rattle.sg_index.specs.declared.header.Header.{Header}
use Rattle.sg_index.specs.declared.item.Item.{Item}
use Rattle.sg_index.specs.Node.{spelled, AreFit, CanBe}
use Rattle.sg_index.specs.Order.{Entry}
use Rattle.sg_index.specs.Records.{Map, Puts}
use Rattle.sg_index.specs.Tree.{entries_in, Child, item_of, branches, marks_in, numbers_in, Holds, first_key, node_key, node_at, times}
use Rattle.sg_index.specs.Index.{IsEntry, header_key, header_at, count_at, root_fewest}
use Rattle.sg_index.specs.Change.{edited, AreNumbered, AreRenumbered, AreStored, IsWritten, IsHeaded, IsChanged, IsGrown, most, half}
use Rattle.sg_index.proofs.Every.{Every}
use Rattle.sg_index.proofs.Loading.{put_there}
use Rattle.sg_index.proofs.Counting.{one_same, count_most, header_other, other_key, node_same, numbered_after, numbered_part, renumbered_within, renumbered_then, renumbered_new}
use Rattle.sg_index.proofs.Moving.{AreSame, holds_kept, children_kept}
use Rattle.sg_index.proofs.Parting.{not_low}
use Rattle.sg_index.proofs.Halves.{half_within}
use Rattle.sg_index.proofs.Fitting.{separator_fits}
use Rattle.sg_index.proofs.Storing.{AreTwo, child_of, two, stored_two, written_one}
use Rattle.sg_index.proofs.Headers.{header_kept, header_written}
use Rattle.sg_index.proofs.Trees.{TreeAt, root_below, all_numbered, tree_now, each_edited}
use Rattle.sg_index.proofs.Pigeons.{is_low}

module _ (old mid : Map) (entries : List Entry) (h : Header) (t : TreeAt old entries h) (key : List ℕ) (middle : List Entry) (known : Bool) (next : ℕ) (items : List Item) (changed : IsChanged key middle known old mid h.next next (h.height - 1) [] t.marks t.numbers items) (root_small : h.root < 2 ^ 32) where
  below_ren : AreRenumbered old mid h.next next (h.root ∷ t.numbers) (h.root ∷ changed.numbers_now)
  below_ren = renumbered_within (λ q. if h.root == q then 1 else 0) (h.root ∷ t.numbers) (h.root ∷ changed.numbers_now) (λ q. refl) (λ q. refl) changed.renumbered

  below_numbered : AreNumbered mid next (h.root ∷ changed.numbers_now)
  below_numbered = numbered_after below_ren (all_numbered old entries h t)

  root_kept : node_at mid ((h.height - 1) == 0) h.root ≡ node_at old ((h.height - 1) == 0) h.root
  root_kept =
      let here : times h.root (h.root ∷ t.numbers) ≤ count_at old h.root = (all_numbered old entries h t).once h.root root_small in
      let none : times h.root t.numbers ≡ 0 = omega (arith, here, one_same h.root, count_most old h.root) in
      node_same old mid ((h.height - 1) == 0) h.root (changed.renumbered.kept h.root root_small none (inl (root_below old entries h t)))

  entries_now : edited entries key middle ≡ entries_in changed.marks_now
  entries_now = ap (λ (es : List Entry). edited es key middle) t.entries_are ∙ sym changed.edited.entries

  -- The root was written, or it stands in its record as it is.
  pub tree_kept : (written new : Map) (flag : Bool) (held : List Item) → node_at old ((h.height - 1) == 0) h.root ≡ Some held → IsWritten flag mid written h.root (spelled ((h.height - 1) == 0) items) → (flag ≡ false → items ≡ held) → AreFit ((h.height - 1) == 0) items → CanBe ((h.height - 1) == 0) (length items) → root_fewest ((h.height - 1) == 0) ≤ length items → (header_at written ≡ Some h → IsHeaded written new (record { root = h.root; next = next; height = h.height })) → Every IsEntry middle → TreeAt new (edited entries key middle) (record { root = h.root; next = next; height = h.height })
  tree_kept written new flag held read is_written same fit can enough headed each_middle =
      let w = written_one mid written next (h.height - 1) [] items changed.marks_now changed.numbers_now h.root changed.holds below_numbered root_small changed.edited.rises flag is_written fit can (λ e. root_kept ∙ (read ∙ ap (λ (xs : List Item). let o : Option (List Item) = Some xs in o) (sym (same e)))) in
      let ren = renumbered_then below_ren w.renumbered in
      let says = headed (header_kept old written (ren.others header_key (λ q small. header_other q)) ∙ t.header_is) in
      tree_now old written new entries h t (h.root ∷ changed.numbers_now) (record { root = h.root; next = next; height = h.height }) ren says items changed.marks_now changed.numbers_now w.there enough (holds_kept mid written (h.height - 1) [] items changed.marks_now changed.numbers_now changed.holds w.same) changed.edited.rises (λ q. refl) root_small (edited entries key middle) entries_now (each_edited entries key middle t.each each_middle)

  -- The root was divided, and a new one stands above both halves.
  module _ (new : Map) (low : 1 ≤ h.height) (high : h.height ≤ 16) (fit : AreFit ((h.height - 1) == 0) items) (many : most ((h.height - 1) == 0) < length items) (few : length items ≤ 24) (grown : IsGrown mid new ((h.height - 1) == 0) items h next) (each_middle : Every IsEntry middle) where
    small : next < 2 ^ 32
    small = omega (arith, grown.small)

    t2 : AreTwo grown.between (h.height - 1) [] grown.branch.key changed.marks_now changed.numbers_now h.root next
    t2 = two mid grown.between next (h.height - 1) [] grown.branch.key items changed.marks_now changed.numbers_now h.root changed.holds below_numbered root_small small changed.edited.rises fit many few grown.halves

    cs : List Child
    cs = child_of [] h.root t2.marks_left t2.numbers_left ∷ (child_of grown.branch.key next t2.marks_right t2.numbers_right ∷ [])

    stored : AreStored mid grown.between next (suc next) (h.height - 1) [] changed.marks_now (h.root ∷ changed.numbers_now) cs
    unfolding cs t2
    stored = stored_two mid grown.between next (h.height - 1) [] grown.branch.key items changed.marks_now changed.numbers_now h.root changed.holds below_numbered root_small small changed.edited.rises fit many few grown.halves

    ren_two : AreRenumbered old grown.between h.next (suc next) (h.root ∷ t.numbers) (flat_map numbers_in cs)
    ren_two = renumbered_then below_ren stored.renumbered

    numbered_two : AreNumbered grown.between (suc next) (flat_map numbers_in cs)
    numbered_two = numbered_after ren_two (all_numbered old entries h t)

    top_small : suc next < 2 ^ 32
    top_small = omega (arith, grown.small)

    next_is : next + 1 ≡ suc next
    next_is = omega arith

    top_items : List Item
    top_items = record { key = []; value = []; child = h.root } ∷ (grown.branch ∷ [])

    top_put : Puts grown.between (node_key (suc next)) (spelled false top_items) grown.above
    unfolding top_items
    top_put = subst (λ (n : ℕ). Puts grown.between (node_key n) (spelled false (record { key = []; value = []; child = h.root } ∷ (grown.branch ∷ []))) grown.above) next_is grown.top

    ren_top : AreRenumbered grown.between grown.above (suc next) (suc (suc next)) (flat_map numbers_in cs) (suc next ∷ flat_map numbers_in cs)
    ren_top = renumbered_new grown.between grown.above (suc next) top_small (spelled false top_items) top_put (flat_map numbers_in cs) (suc next ∷ flat_map numbers_in cs) (numbered_two.free (suc next) top_small (omega arith)) (λ q. omega arith)

    top_apart : times (suc next) (flat_map numbers_in cs) ≡ 0
    top_apart = omega (arith, numbered_two.once (suc next) top_small, numbered_two.free (suc next) top_small (omega arith))

    two_same : AreSame grown.between grown.above (flat_map numbers_in cs)
    two_same = λ q within some. top_put.others (node_key q) (other_key q (suc next) within top_small (λ e. absurd (omega (arith, some, top_apart, ap (λ (k : ℕ). times k (flat_map numbers_in cs)) e))))

    branch_is : grown.branch ≡ item_of (child_of grown.branch.key next t2.marks_right t2.numbers_right)
    branch_is =
        ap (λ (v : List ℕ). let i : Item = record { key = grown.branch.key; value = v; child = grown.branch.child } in i) grown.value
        ∙ ap (λ (q : ℕ). let i : Item = record { key = grown.branch.key; value = []; child = q } in i) grown.child

    items_are : top_items ≡ branches cs
    unfolding cs top_items
    items_are = ap (λ (i : Item). let first : Item = record { key = []; value = []; child = h.root } in first ∷ (i ∷ [])) branch_is

    first_is : first_key cs ≡ Some []
    unfolding cs
    first_is = refl

    top_holds : Holds grown.above (suc (h.height - 1)) [] top_items (flat_map marks_in cs) (flat_map numbers_in cs)
    top_holds = record {
      children = cs;
      items_are = items_are;
      first = first_is;
      each = children_kept grown.between grown.above (h.height - 1) cs stored.each two_same;
      marks_are = refl;
      numbers_are = refl;
    }

    top_fit : AreFit false top_items
    unfolding top_items
    top_fit =
        let short = separator_fits ((h.height - 1) == 0) items (half items) grown.branch.key fit (half_within ((h.height - 1) == 0) items many few) grown.halves.separator_is in
        (refl, record { key = omega arith; value = refl; child = root_small }, (record { key = short; value = grown.value; child = omega (arith, grown.child, small) }, tt))

    top_two : length top_items ≡ 2
    unfolding top_items
    top_two = refl

    top_there : node_at grown.above false (suc next) ≡ Some top_items
    top_there = put_there grown.between grown.above false (suc next) top_items top_fit (omega (arith, top_two), omega (arith, top_two)) top_put

    eight : 8 ≤ length items
    eight = by ((h.height - 1) == 0) many
      where
        by : (b : Bool) → most b < length items → 8 ≤ length items
        by true f = omega (arith, f)
        by false f = omega (arith, f)

    lower : h.height - 1 ≤ 14
    lower = is_low mid (h.height - 1) next [] items changed.marks_now changed.numbers_now changed.holds eight (numbered_part changed.numbers_now (λ q. omega arith) below_numbered) (omega (arith, high))

    abbrev pub now : Header
    now = record { root = next + 1; next = next + 2; height = h.height + 1 }

    says : IsHeaded grown.above new now
    says = record {
      header_is = header_written grown.above new (record { root = next + 1; next = next + 2; height = h.height + 1 }) (record { root = omega (arith, grown.small); next = omega (arith, grown.small); low = omega arith; high = omega (arith, lower, low) }) grown.header;
      others = grown.header.others;
    }

    level_is : suc (h.height - 1) ≡ now.height - 1
    level_is = omega (arith, low)

    ren_all : AreRenumbered old grown.above h.next now.next (h.root ∷ t.numbers) (suc next ∷ flat_map numbers_in cs)
    ren_all = subst (λ (n : ℕ). AreRenumbered old grown.above h.next n (h.root ∷ t.numbers) (suc next ∷ flat_map numbers_in cs)) (omega arith) (renumbered_then ren_two ren_top)

    there_now : node_at grown.above ((now.height - 1) == 0) now.root ≡ Some top_items
    there_now =
        let leaf : false ≡ ((now.height - 1) == 0) = not_low (h.height - 1) ∙ ap (λ (l : ℕ). l == 0) level_is in
        subst (λ (b : Bool). node_at grown.above b (next + 1) ≡ Some top_items) leaf (subst (λ (n : ℕ). node_at grown.above false n ≡ Some top_items) (sym next_is) top_there)

    enough_now : root_fewest ((now.height - 1) == 0) ≤ length top_items
    enough_now =
        let leaf : false ≡ ((now.height - 1) == 0) = not_low (h.height - 1) ∙ ap (λ (l : ℕ). l == 0) level_is in
        subst (λ (b : Bool). root_fewest b ≤ length top_items) leaf (omega (arith, top_two))

    holds_now : Holds grown.above (now.height - 1) [] top_items (flat_map marks_in cs) (flat_map numbers_in cs)
    holds_now = subst (λ (l : ℕ). Holds grown.above l [] top_items (flat_map marks_in cs) (flat_map numbers_in cs)) level_is top_holds

    numbers_now : (q : ℕ) → times q (suc next ∷ flat_map numbers_in cs) ≡ times q (now.root ∷ flat_map numbers_in cs)
    numbers_now q = ap (λ (n : ℕ). times q (n ∷ flat_map numbers_in cs)) (sym next_is)

    root_now : now.root < 2 ^ 32
    root_now = omega (arith, grown.small)

    pub tree_grown : TreeAt new (edited entries key middle) now
    tree_grown = tree_now old grown.above new entries h t (suc next ∷ flat_map numbers_in cs) now ren_all says top_items (flat_map marks_in cs) (flat_map numbers_in cs) there_now enough_now holds_now stored.anew.rises numbers_now root_now (edited entries key middle) (entries_now ∙ sym stored.anew.entries) (each_edited entries key middle t.each each_middle)
