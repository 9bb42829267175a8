-- An array of which one page was changed, and then its root.
use Rattle.std.proofs.Common.{◌≡◌, ◌≢◌, ℕ, ◌+◌, ◌*◌, ◌/◌, ◌%◌, ◌<◌, ◌≤◌, List, length, Option, Some, refl, sym, ap, ◌∙◌, subst, arith, slice_get, inl, inr}
use Rattle.std.proofs.lemmas.Bool.{cases_eq}
use Rattle.std.proofs.lemmas.Nat.{div-mul-add}
use Rattle.std.proofs.Math.Nat.{div-add-mod}
use Rattle.sg_base.specs.Sheet.{Sheet}
use Rattle.sg_space.specs.Owned.{Grows}
use Rattle.sg_space.specs.Units.{Units, HasAt, IsChanged}
use Rattle.sg_space.specs.View.{Space, View, OnlyReads}
use Rattle.sg_space.proofs.Known.{moved, same_some, before}
use Rattle.sg_space.proofs.Owners.{grown}
use Rattle.sg_array.specs.Array.{Array, IsBuilt, IsArray, IsInLimits, IsRoot, IsLeaf, Owns, per_page, page_count}
use Rattle.sg_array.specs.Calls.{Turns}
use Rattle.sg_array.specs.Steps.{Rewrites, Builds}

-- two pages of two kinds are two pages
pub other_kind : {pages : ℕ → Option Sheet} {p q : ℕ} {P Q : Sheet → Type 0} (h : HasAt pages p P) (k : HasAt pages q Q) (m n : ℕ) → (h.what).kind ≡ m → (k.what).kind ≡ n → m ≢ n → q ≢ p
other_kind {pages} h k m n hm kn ne e =
    let same : h.what ≡ k.what = same_some _ _ (sym h.is ∙ (ap pages (sym e) ∙ k.is)) in
    ne (sym hm ∙ (ap (λ (x : Sheet). x.kind) same ∙ kn))

-- a page that is changed says what the change makes of it
pub rewrites : {old new : Units Sheet} {p : ℕ} {f : Sheet → Option Sheet} {P Q : Sheet → Type 0} (h : HasAt old.at p P) (y : Sheet) → IsChanged old new p f → f h.what ≡ Some y → Q y → Rewrites old new p Q
rewrites h y c made has = record { here = record { what = y; is = c.here h.what h.is ∙ made; has = has }; others = c.others; free = c.free; count = c.count }

-- a page that says the same in other words, where nothing has changed
pub rewrites_same : {units : Units Sheet} {p : ℕ} {P : Sheet → Type 0} → HasAt units.at p P → Rewrites units units p P
rewrites_same h = record { here = h; others = λ q ne. refl; free = refl; count = refl }

-- the place of an item is its own
pub place_is : (k d m i : ℕ) → m < k → k * d + m ≡ i → (d ≡ i / k) × (m ≡ i % k)
place_is k d m i h e =
    let q : (d * k + m) / k ≡ d = div-mul-add d k m h in
    let same : d * k + m ≡ i = omega arith in
    let quotient : d ≡ i / k = sym q ∙ ap (λ (n : ℕ). n / k) same in
    let back : k * (i / k) + i % k ≡ i = div-add-mod i k in
    let less : k * d + m ≡ k * d + i % k = e ∙ (sym back ∙ ap (λ (n : ℕ). k * n + i % k) (sym quotient)) in
    (quotient, omega arith)

-- the item pages, where the page of one item was changed, and no other item was
pub leaf_step : {old new : Units Sheet} {root : ℕ} {a : Array} (h : IsBuilt old.at root a) (items : List (List ℕ)) (n p : ℕ) → slice_get a.leaves (n / per_page a.size) ≡ Some p
    → Rewrites old new p (IsLeaf a.size items (n / per_page a.size))
    → ((i : ℕ) → i ≢ n → slice_get items i ≡ slice_get a.items i)
    → (d q : ℕ) → slice_get a.leaves d ≡ Some q → HasAt new.at q (IsLeaf a.size items d)
leaf_step {old} {new} {root} {a} h items n p at changed same d q e = elim (cases_eq d (n / per_page a.size)) [
  | inl is ↦
      let same_number : p ≡ q = same_some p q (sym at ∙ (ap (λ (x : ℕ). slice_get a.leaves x) (sym is) ∙ e)) in
      subst (λ (x : ℕ). HasAt new.at x (IsLeaf a.size items d)) same_number (subst (λ (x : ℕ). HasAt new.at p (IsLeaf a.size items x)) (sym is) changed.here)
  | inr ne ↦
      let page = h.leaf d q e in
      let other : q ≢ p = λ (i : q ≡ p). ne (h.names.leaf_pages.apart d (n / per_page a.size) q e (at ∙ ap Some (sym i))) in
      record {
        what = page.what;
        is = changed.others q other ∙ page.is;
        has = record {
          kind = page.has.kind;
          cells = λ m below. page.has.cells m below ∙ sym (same (per_page a.size * d + m) (λ (i : per_page a.size * d + m ≡ n). ne (place_is (per_page a.size) d m n below i).0));
          few = page.has.few;
        };
      }
]

-- the array with other items and another peak, in the same pages
abbrev pub with_end : Array → List (List ℕ) → ℕ → Array
with_end a items peak = record a { items = items; peak = peak }

-- An array of which the page of one item was changed, and then its root.
pub leaf_and_root : {old mid new : Units Sheet} {root p : ℕ} {a : Array} (n : ℕ) (items : List (List ℕ)) (peak : ℕ) (h : IsBuilt old.at root a) → slice_get a.leaves (n / per_page a.size) ≡ Some p
    → Rewrites old mid p (IsLeaf a.size items (n / per_page a.size))
    → ((i : ℕ) → i ≢ n → slice_get items i ≡ slice_get a.items i)
    → Rewrites mid new root (IsRoot a.size (length items) peak a.index)
    → IsInLimits (with_end a items peak)
    → peak ≤ per_page a.size * length a.leaves
    → IsBuilt new.at root (with_end a items peak)
leaf_and_root {old} {mid} {new} {root} {p} {a} n items peak h e c same r limits most =
    let names = h.names in
    let page = h.leaf (n / per_page a.size) p e in
    let root_other : root ≢ p = other_kind page names.first 4 2 page.has.kind names.first.has.kind (omega arith) in
    let first : HasAt mid.at root (IsRoot a.size (length a.items) a.peak a.index) = moved (c.others root root_other) names.first in
    record {
      names = record {
        first = r.here;
        index = λ j q i.
            let k = names.index j q i in
            moved (r.others q (other_kind names.first k 2 3 names.first.has.kind k.has.kind (omega arith)) ∙ c.others q (other_kind page k 4 3 page.has.kind k.has.kind (omega arith))) k;
        index_pages = names.index_pages;
        leaf_pages = names.leaf_pages;
        index_least = names.index_least;
      };
      leaf = λ d q i.
          let k = leaf_step h items n p e c same d q i in
          moved (r.others q (other_kind first k 2 4 first.has.kind k.has.kind (omega arith))) k;
      leaf_least = most;
      limits = limits;
    }

-- a change within the pages that are owned
pub same_own : {old mid new : Units Sheet} {root p : ℕ} {P Q : Sheet → Type 0} (a b : Array) (n : ℕ) → b.index ≡ a.index → b.leaves ≡ a.leaves → slice_get a.leaves n ≡ Some p → Rewrites old mid p P → Rewrites mid new root Q → Grows old new (Owns root a) (Owns root b) (page_count a) (page_count b)
same_own {old} {mid} {new} {root} {p} a b n index leaves e c r = record {
  others = λ q no. r.others q (λ (is : q ≡ root). no (inl is)) ∙ c.others q (λ (is : q ≡ p). no (inr (inr (n, ap (λ (ps : List ℕ). slice_get ps n) leaves ∙ (e ∙ ap Some (sym is))))));
  more = λ q o. elim o as (λ _. Owns root b q) [
    | inl is ↦ inl is
    | inr s ↦ elim s as (λ _. Owns root b q) [
      | inl x ↦ inr (inl (x.0, ap (λ (ps : List ℕ). slice_get ps x.0) index ∙ x.1))
      | inr x ↦ inr (inr (x.0, ap (λ (ps : List ℕ). slice_get ps x.0) leaves ∙ x.1))
    ]
  ];
  taken = λ q o. inl (elim o as (λ _. Owns root a q) [
    | inl is ↦ inl is
    | inr s ↦ elim s as (λ _. Owns root a q) [
      | inl x ↦ inr (inl (x.0, ap (λ (ps : List ℕ). slice_get ps x.0) (sym index) ∙ x.1))
      | inr x ↦ inr (inr (x.0, ap (λ (ps : List ℕ). slice_get ps x.0) (sym leaves) ∙ x.1))
    ]
  ]);
  exactly =
      let i : length b.index ≡ length a.index = ap (λ (ps : List ℕ). length ps) index in
      let l : length b.leaves ≡ length a.leaves = ap (λ (ps : List ℕ). length ps) leaves in
      let x = c.free in
      let y = r.free in
      omega arith;
  all = r.count ∙ c.count;
}

-- what was done after reads
pub after_reads : {v w : View} {new : Space} {root : ℕ} {a a' : Array} → OnlyReads v w → v.Shows → Turns w.space new root a a' → Turns v.space new root a a'
after_reads {new = new} {root = root} {a = a} {a' = a'} k shows h = before (λ s. Turns s new root a a') k shows h

-- a change that leaves as many pages as before
pub builds_turns : {old new : Space} {root : ℕ} {a b : Array} → IsArray old.pages.at root a → Builds old new root a b → length b.index ≡ length a.index → length b.leaves ≡ length a.leaves → b.size ≡ a.size → b.peak ≡ a.peak → Turns old new root a b
builds_turns {a = a} {b = b} h c index leaves size peak = record {
  array = record {
    built = c.built;
    index_most = let most = h.index_most in omega arith;
    leaf_most = rw (leaves, size, peak) h.leaf_most;
  };
  pages = grown c.pages;
  bands = c.bands;
}
