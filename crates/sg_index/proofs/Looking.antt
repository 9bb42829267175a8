-- What the calls that read an index answer.
use Rattle.std.proofs.Common.{◌≡◌, ℕ, ◌-◌, ◌<◌, ◌≤◌, Bool, true, false, List, [], ◌∷◌, length, take, Option, Some, None, refl, sym, ap, ◌∙◌, subst, arith, inl, inr}
use Rattle.std.specs.Prelude.{⊤, ◌==◌, ◌&&◌, nat_le, IsSome, find, not, if◌then◌else◌}
use Rattle.std.specs.Option.{option_map, option_and_then}
use Rattle.std.specs.Ordering.{is_eq}
use Rattle.std.specs.Cmp.Lexicographic.{texts_ties, pointwise}
use Rattle.std.specs.declared.cmp.Ordering.{Ordering}
use Rattle.std.specs.declared.cmp.Ordering.TheVariants.{Less, Equal, Greater}
use Rattle.std.proofs.lemmas.Bool.Decides.{nat_tests}
use Rattle.std.proofs.lemmas.Option.{same_Some}
use Rattle.sg_base.specs.Forms.{read_number, ended}
use Rattle.sg_index.specs.declared.header.Header.{Header}
use Rattle.sg_index.specs.declared.fault.IndexFault.{IndexFault}
use Rattle.sg_index.specs.declared.fault.IndexFault.TheVariants.{Records, NotAnIndex, TooMany}
use Rattle.sg_index.specs.Fault.{MatchFault}
use Rattle.sg_index.specs.Index.{header_key, read_header, header_at, IsTree, IsIndex, HasNoHeader, root_fewest}
use Rattle.sg_index.specs.Order.{IsBelow, Entry, AreRising, key_cmp, is_from, next_in, value_in}
use Rattle.sg_index.specs.Records.{Map, IsFound}
use Rattle.sg_index.specs.declared.item.Item.{Item}
use Rattle.sg_index.specs.Tree.{Mark, IsBefore, Rises, with_value, entries_in, entry_of}
use Rattle.sg_index.proofs.Seeking.{Below}
use Rattle.sg_index.proofs.Every.{Every, every_weaker}
use Rattle.sg_index.proofs.Keys.{below_trans, above_back, greater_back, find_none}
use Rattle.sg_index.proofs.Loading.{found_some}

-- the header's record, field by field
module _ (bytes : List ℕ) where
  pub header_none_1 : None ≡ read_number 4 bytes → None ≡ read_header bytes
  unfolding read_header
  header_none_1 e = rw (← e) refl

  module _ (root : ℕ) (one : List ℕ) (e : Some (root, one) ≡ read_number 4 bytes) where
    pub header_none_2 : None ≡ read_number 4 one → None ≡ read_header bytes
    unfolding read_header
    header_none_2 f = rw (← e, ← f) refl

    module _ (next : ℕ) (two : List ℕ) (f : Some (next, two) ≡ read_number 4 one) where
      pub header_none_3 : None ≡ read_number 1 two → None ≡ read_header bytes
      unfolding read_header
      header_none_3 g = rw (← e, ← f, ← g) refl

      module _ (height : ℕ) (rest : List ℕ) (g : Some (height, rest) ≡ read_number 1 two) where
        pub header_low : height < 1 → None ≡ read_header bytes
        unfolding read_header
        header_low low = let no : (nat_le 1 height && nat_le height 16) ≡ false = grind (arith, nat_tests, low) in rw (← e, ← f, ← g, no) refl

        pub header_high : 16 < height → None ≡ read_header bytes
        unfolding read_header
        header_high high = let no : (nat_le 1 height && nat_le height 16) ≡ false = grind (arith, nat_tests, high) in rw (← e, ← f, ← g, no) refl

        ended_by : (b : Bool) (h : Header) → (length rest == 0) ≡ false → None ≡ (if b then ended h rest else None)
        ended_by true h more = rw more refl
        ended_by false h more = refl

        pub header_more : (length rest == 0) ≡ false → None ≡ read_header bytes
        unfolding read_header
        header_more more = ended_by (nat_le 1 height && nat_le height 16) (record { root = root; next = next; height = height }) more ∙ rw (← e, ← f, ← g) refl

        pub header_some : 1 ≤ height → height ≤ 16 → (length rest == 0) ≡ true → Some (record { root = root; next = next; height = height }) ≡ read_header bytes
        unfolding read_header
        header_some low high all = let yes : (nat_le 1 height && nat_le height 16) ≡ true = grind (arith, nat_tests, low, high) in rw (← e, ← f, ← g, yes, all) refl

unlike : {X : Type 0} (o : Option X) (x : X) → o ≡ None → o ≡ Some x → ⊥
unlike o x e f = cc

pub header_found : (records : Map) (found : Option ℕ) (size : ℕ) (into : List ℕ) (h : Header) → found ≡ Some size → IsFound (records header_key) found into → read_header (take size into) ≡ Some h → header_at records ≡ Some h
unfolding header_at
header_found records found size into h e look read = ap (λ (o : Option (List ℕ)). option_and_then read_header o) (found_some (records header_key) found size into e look) ∙ read

header_of : (records : Map) (bytes : List ℕ) → records header_key ≡ Some bytes → header_at records ≡ read_header bytes
unfolding header_at
header_of records bytes e = ap (λ (o : Option (List ℕ)). option_and_then read_header o) e

header_none : (records : Map) → records header_key ≡ None → header_at records ≡ None
unfolding header_at
header_none records e = ap (λ (o : Option (List ℕ)). option_and_then read_header o) e

-- an index has no record `h` that isn't one
pub has_header : (records : Map) (entries : List Entry) → IsIndex records entries → HasNoHeader records → ⊥
has_header records entries (inl empty) bad = unlike (records header_key) bad.0 (empty.none header_key) bad.1
has_header records entries (inr tree) bad = unlike (header_at records) tree.header (header_of records bad.0 bad.1 ∙ bad.2) tree.header_is

pub none_in_empty : (records : Map) (entries : List Entry) (from : List ℕ) (strict : Bool) → IsIndex records entries → records header_key ≡ None → None ≡ next_in entries from strict
unfolding next_in
none_in_empty records entries from strict (inl empty) e = ap (find (λ e. is_from from strict e.0)) (sym empty.entries_are)
none_in_empty records entries from strict (inr tree) e = absurd (unlike (header_at records) tree.header (header_none records e) tree.header_is)

-- where there is a header, there is a tree
pub record HasTree (records : Map) (entries : List Entry) (h : Header) : Type 0 where
  pub tree : IsTree records entries
  pub header : tree.header ≡ h

pub has_tree : (records : Map) (entries : List Entry) (h : Header) → IsIndex records entries → header_at records ≡ Some h → HasTree records entries h
has_tree records entries h (inl empty) e = absurd (unlike (header_at records) h (header_none records (empty.none header_key)) e)
has_tree records entries h (inr tree) e = record { tree = tree; header = same_Some tree.header h (sym tree.header_is ∙ e) }

module _ {F : Type 0} where
  -- two facts of one fault
  pub no_other_fault : (e : IndexFault F) (A B : Type 0) → MatchFault e ⊤ ⊥ ⊤ → MatchFault e A B ⊥ → MatchFault e ⊤ ⊥ ⊥
  no_other_fault (Records f) A B h g = tt
  no_other_fault NotAnIndex A B h g = h
  no_other_fault TooMany A B h g = g

-- entries of marks that rise have rising keys
pub entries_rise : (marks : List Mark) → Rises marks → AreRising (entries_in marks)
entries_rise [] h = tt
entries_rise (m ∷ ms) h = with_rising m.key m.value ms (above_all m ms h.0) (entries_rise ms h.1)
  where
    above_all : (m : Mark) (ms : List Mark) → Every (IsBefore m) ms → IsSome m.value → Every (λ e. IsBelow m.key e.0) (entries_in ms)
    above_all m [] h some = tt
    above_all m (n ∷ ns) h some = with_above n.key n.value (entries_in ns) (before_entry m n h.0 some) (above_all m ns h.1 some)
      where
        before_entry : (m n : Mark) → IsBefore m n → IsSome m.value → IsBelow m.key n.key
        before_entry m n (inl below) some = below
        before_entry m n (inr same) some = absurd (unlike_value m.value same.1 some)
          where
            unlike_value : (v : Option (List ℕ)) → v ≡ None → IsSome v → ⊥
            unlike_value None e some = absurd (no some)
              where
                no : false ≡ true → ⊥
                no f = cc
            unlike_value (Some x) e some = no x e
              where
                no : (x : List ℕ) → Some x ≡ None → ⊥
                no x f = cc

        with_above : (key : List ℕ) (value : Option (List ℕ)) (es : List Entry) → IsBelow m.key key → Every (λ e. IsBelow m.key e.0) es → Every (λ e. IsBelow m.key e.0) (with_value key value es)
        with_above key None es below all = all
        with_above key (Some v) es below all = (below, all)

    with_rising : (key : List ℕ) (value : Option (List ℕ)) (ms : List Mark) → (IsSome value → Every (λ e. IsBelow key e.0) (entries_in ms)) → AreRising (entries_in ms) → AreRising (with_value key value (entries_in ms))
    with_rising key None ms above all = all
    with_rising key (Some v) ms above all = (above refl, all)

-- what the first entry at or above a key says of that key's value
pub record Says (entries : List Entry) (key : List ℕ) : Type 0 where
  pub none : next_in entries key false ≡ None → value_in entries key ≡ None
  pub same : (e : Entry) → next_in entries key false ≡ Some e → is_eq (key_cmp e.0 key) ≡ true → value_in entries key ≡ Some e.1
  pub other : (e : Entry) → next_in entries key false ≡ Some e → is_eq (key_cmp e.0 key) ≡ false → value_in entries key ≡ None

module _ (e : Entry) (es : List Entry) (key : List ℕ) where
  skip_value : key_cmp e.0 key ≡ Less → value_in (e ∷ es) key ≡ value_in es key
  unfolding value_in
  skip_value o = rw o refl

  skip_next : key_cmp e.0 key ≡ Less → next_in (e ∷ es) key false ≡ next_in es key false
  unfolding next_in
  skip_next o = rw o refl

  stop_equal : key_cmp e.0 key ≡ Equal → next_in (e ∷ es) key false ≡ Some e
  unfolding next_in
  stop_equal o = rw o refl

  stop_greater : key_cmp e.0 key ≡ Greater → next_in (e ∷ es) key false ≡ Some e
  unfolding next_in
  stop_greater o = rw o refl

  equal_value : key_cmp e.0 key ≡ Equal → value_in (e ∷ es) key ≡ Some e.1
  unfolding value_in
  equal_value o = rw o refl

  none_value : key_cmp e.0 key ≡ Greater → Every (λ f. IsBelow e.0 f.0) es → value_in (e ∷ es) key ≡ None
  unfolding value_in
  none_value o above =
      let later : Every (λ f. is_eq (key_cmp f.0 key) ≡ false) es = every_weaker (λ f. IsBelow e.0 f.0) (λ f. is_eq (key_cmp f.0 key) ≡ false) (λ f below. ap is_eq (above_back key f.0 (below_trans key e.0 f.0 (greater_back e.0 key o) below))) es above in
      rw (o, find_none (λ f. is_eq (key_cmp f.0 key)) es later) refl

  no_false : (b : Bool) → b ≡ true → b ≡ false → ⊥
  no_false b p q = cc

  same_entry : (x : Entry) → next_in (e ∷ es) key false ≡ Some e → next_in (e ∷ es) key false ≡ Some x → e ≡ x
  same_entry x a b = same_Some e x (sym a ∙ b)

  says_step : (o : Ordering) → key_cmp e.0 key ≡ o → Every (λ f. IsBelow e.0 f.0) es → Says es key → Says (e ∷ es) key
  says_step Less o above rest = record {
    none = λ h. skip_value o ∙ rest.none (sym (skip_next o) ∙ h);
    same = λ x h q. skip_value o ∙ rest.same x (sym (skip_next o) ∙ h) q;
    other = λ x h q. skip_value o ∙ rest.other x (sym (skip_next o) ∙ h) q;
  }
  says_step Equal o above rest = record {
    none = λ h. absurd (unlike (next_in (e ∷ es) key false) e h (stop_equal o));
    same = λ x h q. equal_value o ∙ ap (λ (y : Entry). let v : Option (List ℕ) = Some y.1 in v) (same_entry x (stop_equal o) h);
    other = λ x h q. absurd (no_false (is_eq (key_cmp x.0 key)) (ap (λ (y : Entry). is_eq (key_cmp y.0 key)) (sym (same_entry x (stop_equal o) h)) ∙ ap is_eq o) q);
  }
  says_step Greater o above rest = record {
    none = λ h. absurd (unlike (next_in (e ∷ es) key false) e h (stop_greater o));
    same = λ x h q. absurd (no_false (is_eq (key_cmp x.0 key)) q (ap (λ (y : Entry). is_eq (key_cmp y.0 key)) (sym (same_entry x (stop_greater o) h)) ∙ ap is_eq o));
    other = λ x h q. none_value o above;
  }

empty_says : (key : List ℕ) → Says [] key
unfolding value_in next_in
empty_says key = record { none = λ h. refl; same = λ e h q. absurd (unlike None e refl h); other = λ e h q. refl }

pub value_says : (entries : List Entry) (key : List ℕ) → AreRising entries → Says entries key
value_says [] key rising = empty_says key
value_says (e ∷ es) key rising = says_step e es key (key_cmp e.0 key) refl rising.0 (value_says es key rising.1)

index_rises : (records : Map) (entries : List Entry) → IsIndex records entries → AreRising entries
index_rises records entries (inl empty) = subst AreRising (sym empty.entries_are) tt
index_rises records entries (inr tree) = subst AreRising (sym tree.entries_are) (entries_rise tree.marks tree.rises)

pub index_says : (records : Map) (entries : List Entry) (key : List ℕ) → IsIndex records entries → Says entries key
index_says records entries key index = value_says entries key (index_rises records entries index)

-- two keys that are told to be the same, or not to be
pub same_keys : (a b : List ℕ) → pointwise ◌==◌ a b ≡ is_eq (key_cmp a b)
same_keys a b = texts_ties a b

-- what is said of each tree below the root is said of the index
pub tree_says : (records now : Map) → now ≡ records → (entries : List Entry) (h : Header) → IsIndex records entries → header_at records ≡ Some h → (least : ℕ) → least ≡ root_fewest ((h.height - 1) == 0) → (Says : List Entry → Type 0) → Below now (h.height - 1) h.root least (λ marks. Says (entries_in marks)) → Says entries
tree_says records now kept entries h index is least least_is Says below =
    let t = has_tree records entries h index is in
    let at_old : Below records (h.height - 1) h.root (root_fewest ((h.height - 1) == 0)) (λ marks. Says (entries_in marks)) =
    subst (λ (k : ℕ). Below records (h.height - 1) h.root k (λ marks. Says (entries_in marks))) least_is (subst (λ (m : Map). Below m (h.height - 1) h.root least (λ marks. Says (entries_in marks))) kept below) in
    let of_tree : Below records (t.tree.header.height - 1) t.tree.header.root (root_fewest ((t.tree.header.height - 1) == 0)) (λ marks. Says (entries_in marks)) =
    subst (λ (k : Header). Below records (k.height - 1) k.root (root_fewest ((k.height - 1) == 0)) (λ marks. Says (entries_in marks))) (sym t.header) at_old in
    subst Says (sym t.tree.entries_are) (of_tree [] t.tree.items t.tree.marks t.tree.numbers t.tree.root t.tree.enough t.tree.holds t.tree.rises)

module _ (records : Map) (entries : List Entry) (key into : List ℕ) (index : IsIndex records entries) (found : Option Item) (next : option_map entry_of found ≡ next_in entries key false) where
  absent_value : value_in entries key ≡ None → IsFound (value_in entries key) None into
  absent_value e = subst (λ (v : Option (List ℕ)). IsFound v None into) (sym e) refl

  pub got_none : found ≡ None → IsFound (value_in entries key) None into
  got_none e = absent_value ((index_says records entries key index).none (sym next ∙ ap (option_map entry_of) e))

  module _ (item : Item) (is : found ≡ Some item) (bytes : List ℕ) (same : bytes ≡ item.key) where
    test : (b : Bool) → b ≡ not (pointwise ◌==◌ bytes key) → is_eq (key_cmp item.key key) ≡ not b
    test b e = sym (same_keys item.key key) ∙ (ap (λ (xs : List ℕ). pointwise ◌==◌ xs key) (sym same) ∙ (not_not (pointwise ◌==◌ bytes key) ∙ ap not (sym e)))
      where
        not_not : (c : Bool) → c ≡ not (not c)
        not_not true = refl
        not_not false = refl

    pub got_other : true ≡ not (pointwise ◌==◌ bytes key) → IsFound (value_in entries key) None into
    got_other e = absent_value ((index_says records entries key index).other (entry_of item) (sym next ∙ ap (option_map entry_of) is) (test true e))

    pub got_same : false ≡ not (pointwise ◌==◌ bytes key) → (size : ℕ) → size ≡ length item.value → take (length item.value) into ≡ item.value → IsFound (value_in entries key) (Some size) into
    got_same e size size_is copied =
        subst (λ (v : Option (List ℕ)). IsFound v (Some size) into) (sym ((index_says records entries key index).same (entry_of item) (sym next ∙ ap (option_map entry_of) is) (test false e)))
        (ap (λ (n : ℕ). let o : Option ℕ = Some n in o) size_is, copied)
