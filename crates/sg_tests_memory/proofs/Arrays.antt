-- What a caller in memory may do with an array that it knows.
use Rattle.std.proofs.Common.{◌≡◌, ℕ, ◌+◌, ◌*◌, ◌<◌, ◌≤◌, List, [], ◌∷◌, ◌++◌, length, sym, ap, subst, ◌∙◌, refl, arith}
use Rattle.sg_space.specs.Memory.{memory_view}
use Rattle.sg_space.specs.View.{View}
use Rattle.sg_space.specs.declared.memory.MemSpace.{MemSpace}
use Rattle.sg_array.specs.Array.{Array, IsArray, page_count, per_page}
use Rattle.sg_array.specs.Calls.{CanPush, IsPushed, Turns, empty_array}

pub can_push : (s : MemSpace) (root size : ℕ) (a : Array) → size ≡ a.size → length a.items < 1048576 → 2 ≤ (memory_view s).space.pages.free → CanPush (memory_view s) root size a
can_push s root size a fits few free = record {
  fits = fits;
  few = few;
  roomy = record { first = λ n le. tt; index = λ j p at n le. tt; leaf = λ d p at n le. tt };
  free = λ e. free;
  may_take = λ e. tt;
}

-- an array of items of 2 bytes that never had more than one has at most three pages
few_pages : (v : View) {root : ℕ} {a : Array} → IsArray v.space.pages.at root a → a.size ≡ 2 → a.peak ≡ 1 → page_count a ≤ 3
few_pages v {a = a} h size one =
    let leaf : 678 * length a.leaves < a.peak + 678 = subst (λ (n : ℕ). per_page n * length a.leaves < a.peak + per_page n) size h.leaf_most in
    let index = h.index_most in
    omega arith

-- a second item may be pushed
pub can_again : (s t : MemSpace) (root : ℕ) (a : Array) (item : List ℕ) → Turns (memory_view s).space (memory_view t).space root (empty_array 2) a → IsPushed (memory_view t) root item (empty_array 2) a → 4 ≤ (memory_view s).space.pages.free → CanPush (memory_view t) root 2 a
can_again s t root a item turns pushed some =
    let few = few_pages (memory_view t) turns.array pushed.size pushed.peak in
    let free = turns.pages.exactly in
    let one : length a.items ≡ 1 = ap (λ (xs : List (List ℕ)). length xs) pushed.items in
    can_push t root 2 a (sym pushed.size) (omega arith) (omega arith)
