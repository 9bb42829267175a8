-- The pages of an array are freed: its item pages, its index pages, and then its root.
use Rattle.std.proofs.Common.{◌≡◌, ◌≢◌, ℕ, ◌+◌, ◌≤◌, List, length, Option, Some, None, IsSome, sym, ap, subst, ◌∙◌, refl, arith, slice_get, inl, inr}
use Rattle.std.proofs.lemmas.Option.{slice_get_within}
use Rattle.sg_base.specs.Sheet.{Sheet}
use Rattle.sg_space.specs.Owned.{Becomes, IsFirst, AreFreed}
use Rattle.sg_space.specs.Pages.{Freed}
use Rattle.sg_space.specs.Units.{Units, HasAt, IsFreed}
use Rattle.sg_space.specs.View.{Space, View, OnlyReads}
use Rattle.sg_space.proofs.Freeing.{freed_none, next_stays, one_freed}
use Rattle.sg_space.proofs.Known.{moved}
use Rattle.sg_array.specs.Array.{Array, IsBuilt, NamesPages, IsRoot, Owns, page_count}
use Rattle.sg_array.specs.Steps.{Frees, NamesIndex, IsOfKind}
use Rattle.sg_array.proofs.Links.{leaf_kind, index_kind}
use Rattle.sg_array.proofs.Turned.{other_kind}

-- so many pages of a list are free, of each array that stood there
pub record FreesTo (v w : View) (Is : Array → Type 0) (list : Array → List ℕ) (done : Array → ℕ) : Type 0 where
  pub back : w.Told → v.Told
  pub later : v.faults ≤ w.faults
  pub frees : Frees v w Is list done

pub frees_none : (v : View) (Is : Array → Type 0) (list : Array → List ℕ) → FreesTo v v Is list (λ _. 0)
frees_none v Is list = record {
  back = λ t. t;
  later = omega arith;
  frees = record {
    told = λ t. t;
    pages = λ t a h. freed_none (list a) refl;
    bands = λ t. refl;
    may_have = λ t a h p n no m. m;
  };
}

-- one page more, after a read
pub frees_on : {u v w x : View} {Is : Array → Type 0} {list : Array → List ℕ} (j n : ℕ) → FreesTo u v Is list (λ _. j) → (u.Told → v.Shows) → OnlyReads v w → (w.Told → v.Told) → v.faults ≤ w.faults → (x.Told → w.Told) → w.faults ≤ x.faults → Freed w x n → (u.Told → (a : Array) → Is a → slice_get (list a) j ≡ Some n) → FreesTo u x Is list (λ _. j + 1)
frees_on {u} {v} {w} {x} {Is} {list} j n i shows k back later back' later' f is = record {
  back = λ t. i.back (back (back' t));
  later = let first = i.later in omega arith;
  frees = record {
    told = λ t. f.told (k.keeps.told (i.frees.told t));
    pages = λ t a h.
        let now : AreFreed u.space.pages w.space.pages (list a) j = subst (λ (s : Space). AreFreed u.space.pages s.pages (list a) j) (sym (k.same (shows t))) (i.frees.pages t a h) in
        one_freed now (is t a h) (f.pages (k.keeps.told (i.frees.told t)));
    bands = λ t. f.bands (k.keeps.told (i.frees.told t)) ∙ (ap (λ (s : Space). s.bands) (k.same (shows t)) ∙ i.frees.bands t);
    may_have = λ t a h p m no had. f.may_have p m (λ (same : p ≡ n). no (j, is t a h ∙ ap Some (sym same))) (k.keeps.may_have p m (i.frees.may_have t a h p m no had));
  };
}

-- all of a list
pub frees_all : {v w : View} {Is : Array → Type 0} {list : Array → List ℕ} (done : ℕ) → FreesTo v w Is list (λ _. done) → ((a : Array) → Is a → done ≡ length (list a)) → Frees v w Is list (λ a. length (list a))
frees_all {v} {w} {Is} {list} done i so = record {
  told = i.frees.told;
  pages = λ t a h. subst (λ (n : ℕ). AreFreed v.space.pages w.space.pages (list a) n) (so a h) (i.frees.pages t a h);
  bands = i.frees.bands;
  may_have = i.frees.may_have;
}

-- no page of another kind is one of those that are freed
pub not_leaf : {pages : ℕ → Option Sheet} {root p count : ℕ} {a : Array} {P : Sheet → Type 0} → IsBuilt pages root a → (k : HasAt pages p P) (m : ℕ) → (k.what).kind ≡ m → m ≢ 4 → ¬ IsFirst a.leaves count p
not_leaf h k m is ne first = let page = h.leaf first.0 _ first.2 in other_kind page k 4 m page.has.kind is (λ e. ne (sym e)) refl

-- the root and the index pages are there while item pages are freed
pub names_still : {old new : Units Sheet} {root count : ℕ} {a : Array} → IsBuilt old.at root a → AreFreed old new a.leaves count → NamesPages new.at root a
names_still h f =
    let names = h.names in
    record {
      first = moved (f.others _ (not_leaf h names.first 2 names.first.has.kind (λ e. omega arith))) names.first;
      index = λ j p e. let k = names.index j p e in moved (f.others p (not_leaf h k 3 k.has.kind (λ e. omega arith))) k;
      index_pages = names.index_pages;
      leaf_pages = names.leaf_pages;
      index_least = names.index_least;
    }

-- the next item page is still there
pub leaf_still : {old new : Units Sheet} {root j n : ℕ} {a : Array} → IsBuilt old.at root a → AreFreed old new a.leaves j → slice_get a.leaves j ≡ Some n → HasAt new.at n (IsOfKind 4)
leaf_still {j = j} {n = n} h f e = moved (next_stays h.names.leaf_pages.apart f e) (leaf_kind h j e)

-- what is left of an array without its item pages
pub index_left : {old new : Units Sheet} {root count n : ℕ} {a : Array} → IsBuilt old.at root a → AreFreed old new a.leaves n → length a.index ≡ count → NamesIndex new.at root count a
index_left h f many =
    let names = names_still h f in
    record {
      first = names.first;
      index = λ j p e. index_kind names j e;
      are = names.index_pages;
      many = many;
    }

-- the root is there while index pages are freed
pub root_left : {old new : Units Sheet} {root count n : ℕ} {a : Array} → NamesIndex old.at root count a → AreFreed old new a.index n → HasAt new.at root (IsRoot a.size (length a.items) a.peak a.index)
root_left h f =
    let first = h.first in
    moved (f.others _ (λ one. let page = h.index one.0 _ one.2 in other_kind page first 3 2 page.has first.has.kind (λ e. omega arith) refl)) first

pub next_index : {old new : Units Sheet} {root count j n : ℕ} {a : Array} → NamesIndex old.at root count a → AreFreed old new a.index j → slice_get a.index j ≡ Some n → HasAt new.at n (IsOfKind 3)
next_index {j = j} {n = n} h f e = moved (next_stays h.are.apart f e) (h.index j n e)

pub is_some : {pages : ℕ → Option Sheet} {n : ℕ} {P : Sheet → Type 0} → HasAt pages n P → IsSome (pages n)
is_some h = subst IsSome (sym h.is) refl

-- what all three have left
pub all_gone : {old mid last new : Units Sheet} {root count : ℕ} {a : Array} → IsBuilt old.at root a → NamesIndex mid.at root count a → AreFreed old mid a.leaves (length a.leaves) → AreFreed mid last a.index (length a.index) → IsFreed last new root → Becomes old new (Owns root a) (λ _. ⊥) (page_count a) 0
all_gone {old} {mid} {last} {new} {root} {count} {a} h left f g k = record {
  others = λ n no none. k.others n (λ is. no (inl is)) ∙ (g.others n (λ one. no (inr (inl (one.0, one.2)))) ∙ f.others n (λ one. no (inr (inr (one.0, one.2)))));
  taken = λ n none. absurd none;
  given = λ n o none. elim o as (λ _. new.at n ≡ None) [
    | inl is ↦ ap new.at is ∙ k.gone
    | inr s ↦ elim s as (λ _. new.at n ≡ None) [
      | inl x ↦
          let page = left.index x.0 n x.1 in
          k.others n (other_kind left.first page 2 3 left.first.has.kind page.has (λ e. omega arith)) ∙ g.gone n (x.0, slice_get_within a.index x.0 n x.1, x.1)
      | inr x ↦
          let page = h.leaf x.0 n x.1 in
          let first = h.names.first in
          k.others n (other_kind first page 2 4 first.has.kind page.has.kind (λ e. omega arith))
          ∙ (g.others n (λ one. let index = h.names.index one.0 n one.2 in other_kind index page 3 4 index.has.kind page.has.kind (λ e. omega arith) refl)
          ∙ f.gone n (x.0, slice_get_within a.leaves x.0 n x.1, x.1))
    ]
  ];
  exactly = let x = f.free in let y = g.free in let z = k.free in omega arith;
  all = k.count ∙ (g.all ∙ f.all);
}
