-- Walks along the chain of a bucket.
use Rattle.std.proofs.Common.{◌≡◌, ◌≢◌, ℕ, zero, suc, ◌+◌, ◌<◌, ◌≤◌, List, [], ◌∷◌, length, Option, Some, slice_get, slice_index, sym, ap, subst, ◌∙◌, refl, arith, inl, inr}
use Rattle.std.proofs.lemmas.Bool.{cases_eq}
use Rattle.sg_base.specs.Sheet.{Sheet}
use Rattle.sg_base.specs.Slots.{Slots}
use Rattle.sg_space.specs.Units.{HasAt}
use Rattle.sg_space.specs.View.{View, Space, OnlyReads}
use Rattle.sg_space.proofs.Known.{still, keeps_same, reads_then, both}
use Rattle.sg_bucket.specs.Bucket.{Bucket, IsLinked, IsPart, part_at}
use Rattle.sg_bucket.specs.Part.{IsBucketPage, HasKeyAt, HasNoKey, IsLook}
use Rattle.sg_bucket.specs.declared.page.Look.{Look}
use Rattle.sg_bucket.specs.declared.page.Look.TheVariants as look
use Rattle.sg_base.specs.declared.numbers.PageNo.{PageNo}

-- so many pages of the chain were passed, and what was looked for holds of none of them
pub record IsWalked (b : Bucket) (i page before : ℕ) (P : Slots → Type 0) : Type 0 where
  pub there : slice_get b.pages i ≡ Some page
  pub before_is : (j : ℕ) → i ≡ j + 1 → slice_get b.pages j ≡ Some before
  pub passed : (j : ℕ) → j < i → P (part_at b.parts j)

pub record Walks (v w : View) (first i page before : ℕ) (P : Slots → Type 0) : Type 0 where
  pub back : w.Told → v.Told
  pub later : v.faults ≤ w.faults
  pub kept : OnlyReads v w
  pub walked : v.Shows → (b : Bucket) → IsLinked v.space.pages.at first b → IsWalked b i page before P

pub start_walk : {b : Bucket} {at : ℕ → Option Sheet} {first : ℕ} {P : Slots → Type 0} → IsLinked at first b → IsWalked b 0 first first P
start_walk h = record { there = h.starts; before_is = λ j e. absurd (omega arith); passed = λ j e. absurd (omega arith) }

-- a number that isn't 0 is an element
pub index_there : (xs : List ℕ) (i n : ℕ) → slice_index xs i ≡ n → n ≢ 0 → slice_get xs i ≡ Some n
index_there [] i n e some = absurd (some (sym e))
index_there (x ∷ xs) zero n e some = ap Some e
index_there (x ∷ xs) (suc i) n e some = index_there xs i n e some

-- and where there is 0, the list ends, if none of its elements there is 0
pub index_past : (xs : List ℕ) (i : ℕ) → slice_index xs i ≡ 0 → ((p : ℕ) → slice_get xs i ≡ Some p → 0 < p) → length xs ≤ i
index_past [] i e some = omega arith
index_past (x ∷ xs) zero e some = absurd (let more : 0 < x = some x refl in omega arith)
index_past (x ∷ xs) (suc i) e some = let h : length xs ≤ i = index_past xs i e some in omega arith

-- one page further
pub walk_on : {b : Bucket} {at : ℕ → Option Sheet} {first i page before next : ℕ} {P : Slots → Type 0} → IsLinked at first b → IsWalked b i page before P → P (part_at b.parts i) → slice_index b.pages (i + 1) ≡ next → next ≢ 0 → IsWalked b (i + 1) next page P
walk_on {b = b} {i = i} {page = page} {next = next} {P = P} h w here is some = record {
  there = index_there b.pages (i + 1) next is some;
  before_is = λ j e. ap (slice_get b.pages) (let s : j ≡ i = omega arith in s) ∙ w.there;
  passed = λ j less. elim (cases_eq j i) as (λ _. P (part_at b.parts j)) [
    | inl same ↦ subst (λ (k : ℕ). P (part_at b.parts k)) (sym same) here
    | inr other ↦ w.passed j (omega arith)
  ];
}

-- the end of the chain: all its pages were passed
pub walk_end : {b : Bucket} {at : ℕ → Option Sheet} {first i page before : ℕ} {P : Slots → Type 0} → IsLinked at first b → IsWalked b i page before P → P (part_at b.parts i) → slice_index b.pages (i + 1) ≡ 0 → (j : ℕ) → j < length b.pages → P (part_at b.parts j)
walk_end {b = b} {i = i} {page = page} {P = P} h w here is j less =
    let end : length b.pages ≤ i + 1 = index_past b.pages (i + 1) is (h.behind i) in
    elim (cases_eq j i) as (λ _. P (part_at b.parts j)) [
      | inl same ↦ subst (λ (k : ℕ). P (part_at b.parts k)) (sym same) here
      | inr other ↦ w.passed j (omega arith)
    ]

pub reads_same : {v : View} → OnlyReads v v
reads_same = record { keeps = keeps_same; shows = λ s. s; same = λ s. refl; wrote = λ b h. h; still = λ s. s }

-- what is read in between is what stood there
pub still_linked : {v w : View} {first : ℕ} {b : Bucket} → OnlyReads v w → v.Shows → IsLinked v.space.pages.at first b → IsLinked w.space.pages.at first b
still_linked {first = first} {b = b} k shows h = still (λ (s : Space). IsLinked s.pages.at first b) k shows h

pub part_there : {at : ℕ → Option Sheet} {first i page before : ℕ} {b : Bucket} {P : Slots → Type 0} → IsLinked at first b → IsWalked b i page before P → HasAt at page (IsPart (slice_index b.pages (i + 1)) (part_at b.parts i))
part_there {i = i} {page = page} h w = h.part i page w.there

pub part_page : {at : ℕ → Option Sheet} {p n : ℕ} {slots : Slots} → HasAt at p (IsPart n slots) → HasAt at p IsBucketPage
part_page h = record { what = h.what; is = h.is; has = h.has.page }

-- what a look at a page of the chain tells of its part
pub look_here : {at : ℕ → Option Sheet} {p n slot : ℕ} {slots : Slots} {key : List ℕ} {l : Look} → l ≡ look.Here slot → HasAt at p (IsPart n slots) → HasAt at p (IsLook key l) → HasKeyAt slots slot key
look_here {at} {p} {slot = slot} {key = key} e h seen =
    let here : HasAt at p (IsLook key (look.Here slot)) = subst (λ (l : Look). HasAt at p (IsLook key l)) e seen in
    subst (λ (s : Slots). HasKeyAt s slot key) h.has.slots_are (both h here)

pub look_next : {at : ℕ → Option Sheet} {p n : ℕ} {next : PageNo} {slots : Slots} {key : List ℕ} {l : Look} → l ≡ look.Next next → HasAt at p (IsPart n slots) → HasAt at p (IsLook key l) → HasNoKey slots key × (n ≡ next.0)
look_next {at} {p} {next = next} {key = key} e h seen =
    let here : HasAt at p (IsLook key (look.Next next)) = subst (λ (l : Look). HasAt at p (IsLook key l)) e seen in
    let is = both h here in
    (subst (λ (s : Slots). HasNoKey s key) h.has.slots_are is.0, sym h.has.next_is ∙ is.1)

-- a walk begins
pub walks_none : {v : View} {first : ℕ} {P : Slots → Type 0} → Walks v v first 0 first first P
walks_none = record { back = λ t. t; later = omega arith; kept = reads_same; walked = λ shows b h. start_walk h }

-- and goes on by a read
pub walks_on : {u v w : View} {first i page before next : ℕ} {P : Slots → Type 0} → Walks u v first i page before P → (w.Told → v.Told) → v.faults ≤ w.faults → OnlyReads v w → (v.Shows → (b : Bucket) → HasAt v.space.pages.at page (IsPart (slice_index b.pages (i + 1)) (part_at b.parts i)) → P (part_at b.parts i) × (slice_index b.pages (i + 1) ≡ next)) → next ≢ 0 → Walks u w first (i + 1) next page P
walks_on {v = v} i told later kept read some = record {
  back = λ t. i.back (told t);
  later = let first = i.later in omega arith;
  kept = reads_then i.kept kept;
  walked = λ shows b h.
      let w = i.walked shows b h in
      let seen = read (i.kept.shows shows) b (part_there (still_linked i.kept shows h) w) in
      walk_on h w seen.0 seen.1 some;
}

-- the part that is looked at
pub part_seen : {v w : View} {first i page before : ℕ} {b : Bucket} {P : Slots → Type 0} → Walks v w first i page before P → v.Shows → IsLinked v.space.pages.at first b → HasAt w.space.pages.at page (IsPart (slice_index b.pages (i + 1)) (part_at b.parts i))
part_seen {b = b} i shows h = part_there (still_linked i.kept shows h) (i.walked shows b h)

-- the reads of a walk, and one more
pub reads_on : {u v w : View} {first i page before : ℕ} {P : Slots → Type 0} → Walks u v first i page before P → OnlyReads v w → OnlyReads u w
reads_on i k = reads_then i.kept k
