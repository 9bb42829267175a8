-- The pages of a bucket are freed, one after another.
use Rattle.std.proofs.Common.{◌≡◌, ◌≢◌, ℕ, ◌+◌, ◌<◌, ◌≤◌, List, Some, None, slice_get, slice_index, sym, ap, subst, ◌∙◌, refl, arith, inl, inr}
use Rattle.std.proofs.lemmas.Bool.{cases_eq}
use Rattle.std.proofs.lemmas.Option.{slice_get_within}
use Rattle.sg_space.specs.Pages.{Freed}
use Rattle.sg_space.specs.Units.{HasAt, IsFreed}
use Rattle.sg_space.specs.View.{View, Space, OnlyReads}
use Rattle.sg_space.proofs.Known.{moved, same_some}
use Rattle.sg_bucket.specs.Bucket.{Bucket, IsLinked, IsPart, OwnsPage, part_at}
use Rattle.sg_bucket.specs.Calls.{Gone}
use Rattle.sg_bucket.proofs.Walking.{index_there, index_past}

-- the page is one of the first of a list
abbrev pub IsFirst : List ℕ → ℕ → ℕ → Type 0
IsFirst pages count p = (j : ℕ) × (j < count) × (slice_get pages j ≡ Some p)

-- the first pages of a chain are free, and nothing else has changed
pub record AreFreed (old new : Space) (pages : List ℕ) (count : ℕ) : Type 0 where
  pub gone : (p : ℕ) → IsFirst pages count p → new.pages.at p ≡ None
  pub others : (p : ℕ) → ¬ IsFirst pages count p → new.pages.at p ≡ old.pages.at p
  pub free : new.pages.free ≡ old.pages.free + count
  pub all : new.pages.count ≡ old.pages.count

-- so many pages of the chains that stood there are free, and this one is the next
pub record FreesTo (v w : View) (first done page : ℕ) : Type 0 where
  pub back : w.Told → v.Told
  pub later : v.faults ≤ w.faults
  pub told : v.Told → w.Told
  pub next : v.Told → (b : Bucket) → IsLinked v.space.pages.at first b → slice_get b.pages done ≡ Some page
  pub freed : v.Told → (b : Bucket) → IsLinked v.space.pages.at first b → AreFreed v.space w.space b.pages done
  pub bands : v.Told → w.space.bands ≡ v.space.bands
  pub may_have : v.Told → (b : Bucket) → IsLinked v.space.pages.at first b → (page slots : ℕ) → ¬ OwnsPage b page → v.MayHave page slots → w.MayHave page slots

pub frees_none : {v : View} {first : ℕ} → FreesTo v v first 0 first
frees_none = record {
  back = λ t. t;
  later = omega arith;
  told = λ t. t;
  next = λ t b h. h.starts;
  freed = λ t b h. record { gone = λ p f. absurd (let less = f.1 in omega arith); others = λ p none. refl; free = omega arith; all = refl };
  bands = λ t. refl;
  may_have = λ t b h p n none m. m;
}

-- the next page is still there
pub next_part : {v w : View} {first done page : ℕ} {b : Bucket} → FreesTo v w first done page → v.Told → IsLinked v.space.pages.at first b → HasAt w.space.pages.at page (IsPart (slice_index b.pages (done + 1)) (part_at b.parts done))
next_part {done = done} {page = page} {b = b} i t h =
    let at = i.next t b h in
    moved ((i.freed t b h).others page (λ f. let same = h.apart f.0 done page f.2 at in let less = f.1 in omega arith)) (h.part done page at)

one_freed : {a b c : Space} {pages : List ℕ} {done p : ℕ} → ((i j q : ℕ) → slice_get pages i ≡ Some q → slice_get pages j ≡ Some q → i ≡ j) → slice_get pages done ≡ Some p → AreFreed a b pages done → IsFreed b.pages c.pages p → AreFreed a c pages (done + 1)
one_freed {b = b} {c = c} {pages = pages} {done = done} {p = p} apart e f g = record {
  gone = λ k first. elim (cases_eq k p) as (λ _. c.pages.at k ≡ None) [
    | inl same ↦ ap c.pages.at same ∙ g.gone
    | inr other ↦ g.others k other ∙ f.gone k (first.0, before k first other, first.2)
  ];
  others = λ k none. g.others k (λ same. none (done, (omega arith), e ∙ ap Some (sym same))) ∙ f.others k (λ first. none (first.0, (let less = first.1 in omega arith), first.2));
  free = let x = f.free in let y = g.free in omega arith;
  all = g.count ∙ f.all;
}
  where
    before : (k : ℕ) → (first : IsFirst pages (done + 1) k) → k ≢ p → first.0 < done
    before k first other = elim (cases_eq first.0 done) as (λ _. first.0 < done) [
      | inl last ↦ absurd (other (same_some k p (sym first.2 ∙ (ap (slice_get pages) last ∙ e))))
      | inr less ↦ (let x = first.1 in omega arith)
    ]

-- the state after a read and one page more
record OneMore (u x : View) (first done : ℕ) : Type 0 where
  freed : u.Told → (b : Bucket) → IsLinked u.space.pages.at first b → AreFreed u.space x.space b.pages (done + 1)
  bands : u.Told → x.space.bands ≡ u.space.bands
  may_have : u.Told → (b : Bucket) → IsLinked u.space.pages.at first b → (page slots : ℕ) → ¬ OwnsPage b page → u.MayHave page slots → x.MayHave page slots

one_more : {u v w x : View} {first done page : ℕ} → FreesTo u v first done page → (u.Told → v.Shows) → OnlyReads v w → Freed w x page → OneMore u x first done
one_more {u} {v} {w} {x} {first} {done} {page} i shows k f = record {
  freed = λ t b h.
      let now : AreFreed u.space w.space b.pages done = subst (λ (s : Space). AreFreed u.space s b.pages done) (sym (k.same (shows t))) (i.freed t b h) in
      let told = k.keeps.told (i.told t) in
      one_freed h.apart (i.next t b h) now (f.pages told);
  bands = λ t. f.bands (k.keeps.told (i.told t)) ∙ (ap (λ (s : Space). s.bands) (k.same (shows t)) ∙ i.bands t);
  may_have = λ t b h p n none m. f.may_have p n (λ same. none (done, i.next t b h ∙ ap Some (sym same))) (k.keeps.may_have p n (i.may_have t b h p n none m));
}

pub frees_on : {u v w x : View} {first done page next : ℕ} → FreesTo u v first done page → (u.Told → v.Shows) → OnlyReads v w → (w.Told → v.Told) → v.faults ≤ w.faults → (x.Told → w.Told) → w.faults ≤ x.faults → Freed w x page → (u.Told → (b : Bucket) → IsLinked u.space.pages.at first b → slice_index b.pages (done + 1) ≡ next) → next ≢ 0 → FreesTo u x first (done + 1) next
frees_on {done = done} {next = next} i shows k back later back' later' f is some =
    let m = one_more i shows k f in
    record {
      back = λ t. i.back (back (back' t));
      later = let first = i.later in omega arith;
      told = λ t. f.told (k.keeps.told (i.told t));
      next = λ t b h. index_there b.pages (done + 1) next (is t b h) some;
      freed = m.freed;
      bands = m.bands;
      may_have = m.may_have;
    }

pub all_gone : {u v w x : View} {first done page : ℕ} → FreesTo u v first done page → (u.Told → v.Shows) → OnlyReads v w → Freed w x page → (u.Told → (b : Bucket) → IsLinked u.space.pages.at first b → slice_index b.pages (done + 1) ≡ 0) → Gone u x first
all_gone {u} {v} {w} {x} {first} {done} {page} i shows k f is =
    let m = one_more i shows k f in
    record {
      told = λ t. f.told (k.keeps.told (i.told t));
      pages = λ t b h.
          let a = m.freed t b h in
          let past = index_past b.pages (done + 1) (is t b h) (h.behind done) in
          let within = slice_get_within b.pages done page (i.next t b h) in
          record {
            others = λ p none never. a.others p (λ f. none (f.0, f.2));
            taken = λ p never. absurd never;
            given = λ p mine never. a.gone p (mine.0, (let below = slice_get_within b.pages mine.0 p mine.1 in omega arith), mine.1);
            exactly = let free = a.free in omega arith;
            all = a.all;
          };
      bands = m.bands;
      may_have = m.may_have;
    }
