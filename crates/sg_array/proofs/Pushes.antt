-- An array that gets one more item: the page for it.
use Rattle.std.proofs.Common.{◌≡◌, ◌≢◌, ℕ, ◌+◌, ◌*◌, ◌/◌, ◌%◌, ◌<◌, ◌≤◌, ◌⊎◌, ◌^◌, ◌++◌, List, [], ◌∷◌, length, Option, Some, sym, ap, ◌∙◌, refl, arith, slice_get, inl, inr, subst}
use Rattle.std.proofs.lemmas.Bool.{cases_lt}
use Rattle.std.proofs.lemmas.List.{length_push}
use Rattle.std.proofs.lemmas.Nat.{div_below, div-mul-add}
use Rattle.std.proofs.Math.Nat.{mul-le-mul_left, mul-div-le}
use Rattle.sg_base.specs.Sheet.{Sheet}
use Rattle.sg_space.specs.View.{Space, View, Keeps, OnlyReads, MayFill}
use Rattle.sg_space.proofs.Owners.{grows_same, grows_then, grown}
use Rattle.sg_space.proofs.Putting.{slice_get-push_same}
use Rattle.sg_array.specs.Array.{Array, IsArray, IsBuilt, per_page}
use Rattle.sg_array.specs.Calls.{Turns, CanPush, IsRoomy, IsPushed}
use Rattle.sg_array.specs.Steps.{Builds, CanGrow, CanPutLast, HasIndexFor, HasRoomFor, IsLinked, IsNext, pushed, with_pages}
use Rattle.sg_array.proofs.Places.{per_page-least, item_place}
use Rattle.sg_array.proofs.Growth.{add_index, add_leaf, index_grows, leaf_grows, owns_there, roomy_index, roomy_leaf, roomy_still}

-- a page has no more items than it has slots
pub per_page-most : (size : ℕ) → per_page size ≤ 1018
per_page-most size =
    let all : (size + 4) * (4072 / (size + 4)) ≤ 4072 = mul-div-le 4072 (size + 4) in
    let more : 4 * (4072 / (size + 4)) ≤ (size + 4) * (4072 / (size + 4)) = mul-le-right (4072 / (size + 4)) in
    omega arith
  where
    mul-le-right : (n : ℕ) → 4 * n ≤ (size + 4) * n
    mul-le-right n = let e : (size + 4) * n ≡ n * (size + 4) = omega arith in let f : n * 4 ≤ n * (size + 4) = mul-le-mul_left n (omega arith) in omega arith

-- nothing was built
pub builds_same : {old new : Space} {root : ℕ} {a : Array} → new ≡ old → IsBuilt old.pages.at root a → Builds old new root a a
builds_same {root = root} {a = a} e h = record {
  built = subst (λ (s : Space). IsBuilt s.pages.at root a) (sym e) h;
  pages = grows_same (ap (λ (s : Space). s.pages) e);
  bands = ap (λ (s : Space). s.bands) e;
}

-- an array that stays as it is has an index page
pub old_index : {old : Space} {w : View} {root q : ℕ} {a : Array} → w.space ≡ old → IsArray old.pages.at root a → slice_get a.index (length a.leaves / 509) ≡ Some q → IsRoomy w root a → HasIndexFor old w root q a
old_index {a = a} e h at roomy =
    let most = h.index_most in
    record {
      index = a.index;
      builds = builds_same e h.built;
      at = at;
      index_most = omega arith;
      free = let same = ap (λ (s : Space). s.pages.free) e in omega arith;
      roomy = roomy;
    }

pub new_index : {v w : View} {root q slot : ℕ} {a : Array} → IsArray v.space.pages.at root a → length a.leaves % 509 ≡ 0 → slot ≡ length a.leaves / 509 + 1 → length a.leaves < 70000 → q < 2 ^ 32 → IsLinked v.space w.space 3 q root slot → IsRoomy v root a → Keeps v w → MayFill w q 1018 → HasIndexFor v.space w root q a
new_index {v} {w} {root} {q} {slot} {a} h zero_is slot_is few small l' roomy keeps fill =
    let least = h.built.names.index_least in
    let most = h.index_most in
    let count : length a.index ≡ length a.leaves / 509 = omega arith in
    let place : slot ≡ length a.index + 1 = omega arith in
    let l : IsLinked v.space w.space 3 q root (length a.index + 1) = subst (λ (n : ℕ). IsLinked v.space w.space 3 q root n) place l' in
    let long : length (a.index ++ (q ∷ [])) ≡ length a.index + 1 = length_push a.index q in
    record {
      index = a.index ++ (q ∷ []);
      builds = record { built = add_index q h.built l small (omega arith); pages = index_grows a l; bands = l.bands };
      at = slice_get-push_same a.index (length a.leaves / 509) q (sym count);
      index_most = omega arith;
      free = let free = l.free in omega arith;
      roomy = roomy_index roomy keeps fill;
    }

-- as many pages as are full
pub count_is : (k n pages : ℕ) → 0 < k → k * pages ≡ n → n / k ≡ pages
count_is k n pages some full = ap (λ (x : ℕ). x / k) (let e : n ≡ pages * k + 0 = omega arith in e) ∙ div-mul-add pages k 0 some

-- a new item page behind the others
pub new_leaf : {old : Space} {v w : View} {root q p slot : ℕ} {a : Array} → IsArray old.pages.at root a → length a.items ≡ a.peak → per_page a.size * length a.leaves ≡ length a.items → (x : HasIndexFor old v root q a) → slot ≡ length a.leaves % 509 → p < 2 ^ 32 → IsLinked v.space w.space 4 p q slot → Keeps v w → MayFill w p 1018 → HasRoomFor old w root p a
new_leaf {old} {v} {w} {root} {q} {p} {slot} {a} h peak full x slot_is small l' keeps fill =
    let k15 : 15 ≤ per_page a.size = per_page-least a.size h.built.limits.small in
    let l : IsLinked v.space w.space 4 p q (length a.leaves % 509) = subst (λ (n : ℕ). IsLinked v.space w.space 4 p q n) slot_is l' in
    let built = x.builds.built in
    let long : length (a.leaves ++ (p ∷ [])) ≡ length a.leaves + 1 = length_push a.leaves p in
    let more : per_page a.size * length (a.leaves ++ (p ∷ [])) ≡ per_page a.size * length a.leaves + per_page a.size = rw long (omega arith) in
    let index_most = x.index_most in
    record {
      index = x.index;
      leaves = a.leaves ++ (p ∷ []);
      builds = record {
        built = add_leaf p q built x.at l small (omega arith);
        pages = grows_then x.builds.pages (owns_there built) (leaf_grows (with_pages a x.index a.leaves) x.at l);
        bands = l.bands ∙ x.builds.bands;
      };
      at = slice_get-push_same a.leaves (length a.items / per_page a.size) p (count_is (per_page a.size) (length a.items) (length a.leaves) (omega arith) full);
      index_most = omega arith;
      leaf_most = omega arith;
      room = omega arith;
      roomy = roomy_leaf x.roomy keeps (per_page-most a.size) fill;
    }

-- an item page that is there
pub old_leaf : {old : Space} {w : View} {root leaf : ℕ} {a : Array} → w.space ≡ old → IsArray old.pages.at root a → length a.items / per_page a.size < length a.leaves → slice_get a.leaves (length a.items / per_page a.size) ≡ Some leaf → IsRoomy w root a → HasRoomFor old w root leaf a
old_leaf {a = a} e h below at roomy =
    let k15 : 15 ≤ per_page a.size = per_page-least a.size h.built.limits.small in
    let most = h.leaf_most in
    let place : per_page a.size * (length a.items / per_page a.size) + length a.items % per_page a.size ≡ length a.items = item_place (per_page a.size) (length a.items) in
    let less : length a.items % per_page a.size < per_page a.size = omega arith in
    let more : per_page a.size * (length a.items / per_page a.size + 1) ≤ per_page a.size * length a.leaves = mul-le-mul_left (per_page a.size) (omega arith) in
    record {
      index = a.index;
      leaves = a.leaves;
      builds = builds_same e h.built;
      at = at;
      index_most = h.index_most;
      leaf_most = omega arith;
      room = omega arith;
      roomy = roomy;
    }

-- the page of the next item is there, where the array was longer or the page isn't full
pub next_below : {pages : ℕ → Option Sheet} {root : ℕ} {a : Array} → IsArray pages root a → (length a.items < a.peak) ⊎ (length a.items % per_page a.size ≢ 0) → length a.items / per_page a.size < length a.leaves
next_below {a = a} h why =
    let k15 : 15 ≤ per_page a.size = per_page-least a.size h.built.limits.small in
    let least = h.built.leaf_least in
    let below = h.built.limits.below_peak in
    elim why [
      | inl shorter ↦ div_below (length a.items) (per_page a.size) (length a.leaves) (omega arith) (omega arith)
      | inr part ↦
          let place : per_page a.size * (length a.items / per_page a.size) + length a.items % per_page a.size ≡ length a.items = item_place (per_page a.size) (length a.items) in
          elim (cases_lt (length a.items / per_page a.size) (length a.leaves)) [
            | inl b ↦ b
            | inr b ↦
                let more : per_page a.size * length a.leaves ≤ per_page a.size * (length a.items / per_page a.size) = mul-le-mul_left (per_page a.size) b in
                absurd (omega arith)
          ]
    ]

-- an array whose pages are full
pub is_full : {pages : ℕ → Option Sheet} {root : ℕ} {a : Array} → IsArray pages root a → length a.items ≡ a.peak → length a.items % per_page a.size ≡ 0 → per_page a.size * length a.leaves ≡ length a.items
is_full {a = a} h peak part =
    let k15 : 15 ≤ per_page a.size = per_page-least a.size h.built.limits.small in
    let least = h.built.leaf_least in
    let most = h.leaf_most in
    let place : per_page a.size * (length a.items / per_page a.size) + length a.items % per_page a.size ≡ length a.items = item_place (per_page a.size) (length a.items) in
    elim (cases_lt (length a.items / per_page a.size) (length a.leaves)) [
      | inl b ↦
          let more : per_page a.size * (length a.items / per_page a.size + 1) ≤ per_page a.size * length a.leaves = mul-le-mul_left (per_page a.size) (omega arith) in
          absurd (omega arith)
      | inr b ↦
          let more : per_page a.size * length a.leaves ≤ per_page a.size * (length a.items / per_page a.size) = mul-le-mul_left (per_page a.size) b in
          omega arith
    ]

pub grow_ready : {v : View} {root size count peak : ℕ} {a : Array} (d : ℕ) → IsArray v.space.pages.at root a → IsNext v root size count peak a → count ≡ peak → length a.items % per_page a.size ≡ 0 → d ≡ length a.items / per_page a.size → CanGrow v root d a
grow_ready {a = a} d h next longest part d_is =
    let k15 : 15 ≤ per_page a.size = per_page-least a.size h.built.limits.small in
    let peak : length a.items ≡ a.peak = sym next.count_is ∙ (longest ∙ next.peak_is) in
    record {
      behind = sym (d_is ∙ count_is (per_page a.size) (length a.items) (length a.leaves) (omega arith) (is_full h peak part));
      roomy = next.can.roomy;
      free = next.can.free peak;
      may_take = next.can.may_take peak;
    }

-- what may be pushed may be pushed after reads
pub push_still : {v w : View} {root size size' count peak : ℕ} {a : Array} → OnlyReads v w → v.Shows → size' ≡ size → count ≡ length a.items → peak ≡ a.peak → CanPush v root size a → IsNext w root size' count peak a
push_still {v} {w} k shows e count_is peak_is can = record {
  can = record {
    fits = e ∙ can.fits;
    few = can.few;
    roomy = roomy_still can.roomy k.keeps;
    free = λ p. subst (λ (s : Space). 2 ≤ s.pages.free) (sym (k.same shows)) (can.free p);
    may_take = λ p. k.keeps.may_take (can.may_take p);
  };
  count_is = count_is;
  peak_is = peak_is;
}

-- the item may be put into the page that there is for it
pub can_put : {old : Space} {v w : View} {root leaf size count peak : ℕ} {a : Array} → (x : HasRoomFor old w root leaf a) → IsNext v root size count peak a → CanPutLast w leaf size count peak (with_pages a x.index x.leaves)
can_put x next = record {
  size_is = next.can.fits;
  count_is = next.count_is;
  peak_is = next.peak_is;
  at = x.at;
  room = x.room;
  may_fill = x.roomy.leaf _ _ x.at;
}

pub push_turns : {old new : Space} {v : View} {root leaf : ℕ} {a : Array} (item : List ℕ) → (x : HasRoomFor old v root leaf a) → Builds v.space new root (with_pages a x.index x.leaves) (pushed item (with_pages a x.index x.leaves)) → Turns old new root a (pushed item (with_pages a x.index x.leaves))
push_turns item x b = record {
  array = record { built = b.built; index_most = x.index_most; leaf_most = x.leaf_most };
  pages = grown (grows_then x.builds.pages (owns_there x.builds.built) b.pages);
  bands = b.bands ∙ x.builds.bands;
}

pub is_pushed : {old : Space} {v w : View} {root leaf : ℕ} {a : Array} (item : List ℕ) → (x : HasRoomFor old v root leaf a) → Keeps v w → IsPushed w root item a (pushed item (with_pages a x.index x.leaves))
is_pushed {w = w} {root = root} item x k =
    let roomy = roomy_still x.roomy k in
    record { items = refl; size = refl; peak = refl; roomy = record { first = roomy.first; index = roomy.index; leaf = roomy.leaf } }
