-- A node that was looked for among the records.
use Rattle.std.proofs.Common.{◌≡◌, ℕ, ◌<◌, Bool, List, length, take, Option, Some, None, refl, sym, ap, ◌∙◌, subst}
use Rattle.std.proofs.lemmas.Option.{same_Some}
use Rattle.std.specs.Option.{option_and_then}
use Rattle.sg_index.specs.declared.item.Item.{Item}
use Rattle.sg_index.specs.Node.{read_node, spelled, AreFit, CanBe}
use Rattle.sg_index.specs.Records.{Map, IsFound, Puts}
use Rattle.sg_index.specs.Tree.{node_key, node_at, IsNoNode}
use Rattle.sg_index.proofs.Back.{node_back}

found_none : (o : Option (List ℕ)) (found : Option ℕ) (into : List ℕ) → found ≡ None → IsFound o found into → o ≡ None
found_none None found into e h = refl
found_none (Some v) found into e h = absurd (no (length v) (sym e ∙ h.0))
  where
    no : (n : ℕ) → None ≡ Some n → ⊥
    no n e = cc

pub found_some : (o : Option (List ℕ)) (found : Option ℕ) (size : ℕ) (into : List ℕ) → found ≡ Some size → IsFound o found into → o ≡ Some (take size into)
found_some None found size into e h = absurd (no size (sym h ∙ e))
  where
    no : (n : ℕ) → None ≡ Some n → ⊥
    no n e = cc
found_some (Some v) found size into e h = ap Some (sym h.1 ∙ ap (λ (n : ℕ). take n into) (sym (same_Some size (length v) (sym e ∙ h.0))))

unlike : (items : List Item) (o : Option (List Item)) → o ≡ None → o ≡ Some items → ⊥
unlike items o e f = cc

module _ (records : Map) (leaf : Bool) (number : ℕ) (key : List ℕ) (is : key ≡ node_key number) (found : Option ℕ) (into : List ℕ) (h : IsFound (records key) found into) where
  absent : found ≡ None → node_at records leaf number ≡ None
  unfolding node_at
  absent e = ap (λ (o : Option (List ℕ)). option_and_then (read_node leaf) o) (ap records (sym is) ∙ found_none (records key) found into e h)

  pub there : (size : ℕ) → found ≡ Some size → node_at records leaf number ≡ read_node leaf (take size into)
  unfolding node_at
  there size e = ap (λ (o : Option (List ℕ)). option_and_then (read_node leaf) o) (ap records (sym is) ∙ found_some (records key) found size into e h)

  pub no_record : found ≡ None → (least : ℕ) → IsNoNode records leaf least number
  no_record e least items some = absurd (unlike items (node_at records leaf number) (absent e) some)

  pub no_node : (size : ℕ) → found ≡ Some size → None ≡ read_node leaf (take size into) → (least : ℕ) → IsNoNode records leaf least number
  no_node size e none least items some = absurd (unlike items (node_at records leaf number) (there size e ∙ sym none) some)

  pub few_items : (size : ℕ) → found ≡ Some size → (held : List Item) → Some held ≡ read_node leaf (take size into) → (least : ℕ) → length held < least → IsNoNode records leaf least number
  few_items size e held read least few items some =
      let same : held ≡ items = same_Some held items (read ∙ (sym (there size e) ∙ some)) in
      subst (λ (xs : List Item). length xs < least) same few

-- a node that was put stands there
pub put_there : (old new : Map) (leaf : Bool) (number : ℕ) (items : List Item) → AreFit leaf items → CanBe leaf (length items) → Puts old (node_key number) (spelled leaf items) new → node_at new leaf number ≡ Some items
unfolding node_at
put_there old new leaf number items fit can put = ap (λ (o : Option (List ℕ)). option_and_then (read_node leaf) o) put.there ∙ node_back leaf items fit can
