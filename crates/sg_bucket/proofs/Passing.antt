-- The pages of a bucket, one after another, whose entries at an address are copied to a new bucket.
use Rattle.std.proofs.Common.{◌≡◌, ◌≢◌, ℕ, zero, suc, ◌+◌, ◌<◌, ◌≤◌, List, [], ◌∷◌, ◌++◌, length, take, Option, Some, None, IsSome, IfSome, slice_get, slice_index, sym, ap, subst, ◌∙◌, refl, arith, inl, inr}
use Rattle.std.proofs.Math.Seq.{take-length}
use Rattle.std.proofs.lemmas.List.Elements.{filter-append}
use Rattle.std.proofs.lemmas.Option.{slice_get_within}
use Rattle.sg_base.specs.Sheet.{Sheet}
use Rattle.sg_base.specs.Slots.{Slots}
use Rattle.sg_linear.specs.Address.{is_at}
use Rattle.sg_linear.specs.declared.address.Address.{Address}
use Rattle.sg_space.specs.Owned.{Becomes}
use Rattle.sg_space.specs.Units.{HasAt, IsExact, IsTaken, Units}
use Rattle.sg_space.specs.View.{View, Keeps, MayFill}
use Rattle.sg_space.proofs.Known.{keeps_then, moved, same_some}
use Rattle.sg_bucket.specs.Branch.{CanCopy, Ends, IsPartCopied, filled, last_part, taken, used}
use Rattle.sg_bucket.specs.Bucket.{Bucket, IsLinked, IsPart, OwnsPage, entries_of, part_at}
use Rattle.sg_bucket.specs.Calls.{Made, empty_bucket}
use Rattle.sg_bucket.specs.Division.{Branched, CanBranch, those_at}
use Rattle.sg_bucket.specs.Entry.{Entry, AreOnce}
use Rattle.sg_bucket.specs.Part.{entries_in}
use Rattle.sg_bucket.specs.Steps.{DidKeep, IsFull, IsLast, Turns}
use Rattle.sg_bucket.specs.declared.branching.Copied.{Copied}
use Rattle.sg_bucket.specs.declared.branching.Tail.{Tail}
use Rattle.sg_bucket.proofs.Filters.{once-filter, parts_on}
use Rattle.sg_bucket.proofs.Fuel.{few_pages}
use Rattle.sg_bucket.proofs.Owning.{becomes_then, owns_or}
use Rattle.sg_bucket.proofs.Walking.{index_there, index_past, part_page}

-- So many pages of the bucket were passed, and this one is next: its entries at the address stand in the new bucket.
pub record HasPassed (u : View) (first : ℕ) (there : Address) (i page : ℕ) (c b : Bucket) : Type 0 where
  pub next : slice_get b.pages i ≡ Some page
  pub entries : entries_of c.parts ≡ those_at there (entries_of (take i b.parts))

-- the new bucket, on pages that were free
pub record Stands (u v : View) (first new : ℕ) (there : Address) (i page : ℕ) (tail : Tail) (c : Bucket) : Type 0 where
  pub linked : IsLinked v.space.pages.at new c
  pub pages : Becomes u.space.pages v.space.pages (λ _. ⊥) (OwnsPage c) 0 (length c.pages)
  pub bands : v.space.bands ≡ u.space.bands
  pub ends : Ends tail c
  pub bare : used tail.slot c ≡ 0
  pub full : IsFull c
  pub few : length c.pages + taken tail.slot ≤ i + 1
  pub may_fill : (p : ℕ) → OwnsPage c p → MayFill v p 1018
  pub passed : (b : Bucket) → IsLinked u.space.pages.at first b → HasPassed u first there i page c b

pub record Branches (u v : View) (first new : ℕ) (there : Address) (i page : ℕ) (tail : Tail) : Type 0 where
  pub back : v.Told → u.Told
  pub later : u.faults ≤ v.faults
  pub keeps : u.Told → Keeps u v
  pub room : filled tail.slot ≡ 0
  pub stands : u.Told → (c : Bucket) × Stands u v first new there i page tail c

-- a bucket that was made owns its page alone
one_page : {old new : Units Sheet} {p : ℕ} {P : Sheet → Type 0} → IsTaken old new p P → Becomes old new (λ _. ⊥) (OwnsPage (empty_bucket p)) 0 1
one_page {old} {new} {p} t = record {
  others = λ n none none'. t.others n (λ same. none' (0, ap Some (sym same)));
  taken = λ n o. inr (ap old.at (at o.0 n o.1) ∙ t.was_free);
  given = λ n never none. absurd never;
  exactly = let free = t.free in omega arith;
  all = t.count;
}
  where
    at : (i n : ℕ) → slice_get (p ∷ []) i ≡ Some n → n ≡ p
    at zero n e = same_some _ _ (sym e)
    at (suc i) n e = absurd (cc)

pub branches_none : {u v : View} {first : ℕ} {new : ℕ} {there : Address} {tail : Tail} → (v.Told → u.Told) → u.faults ≤ v.faults → Made u v new → tail.page.0 ≡ new → tail.slot ≡ Some 0 → Branches u v first new there 0 first tail
branches_none {u} {v} {first} {new} {there} {tail} back later made page_is slot_is = record {
  back = back;
  later = later;
  keeps = λ told. made.keeps;
  room = ap filled slot_is;
  stands = λ told. (
    empty_bucket new,
    record {
      linked = (made.bucket told).linked;
      pages = one_page (made.pages told);
      bands = made.bands told;
      ends = record {
        last = record { index = 0; page = ap Some (sym page_is); ends = refl };
        slot = subst (λ (o : Option ℕ). IfSome o (λ n. n ≡ 0)) (sym slot_is) refl;
      };
      bare = ap (λ (o : Option ℕ). used o (empty_bucket new)) slot_is;
      full = (made.bucket told).full;
      few = let none : taken tail.slot ≡ 0 = ap taken slot_is in omega arith;
      may_fill = λ p o n le. subst (λ (q : ℕ). v.MayHave q n) (sym (at o.0 p o.1)) (made.may_fill told n le);
      passed = λ b h. record { next = h.starts; entries = refl };
    },
  );
}
  where
    at : (i n : ℕ) → slice_get (new ∷ []) i ≡ Some n → n ≡ new
    at zero n e = same_some _ _ (sym e)
    at (suc i) n e = absurd (cc)

-- a page of the old bucket is none of the new, and is what it was
not_new : {u v : View} {first new i page p : ℕ} {there : Address} {tail : Tail} {b c : Bucket} (k : ℕ) → Stands u v first new there i page tail c → IsLinked u.space.pages.at first b → slice_get b.pages k ≡ Some p → ¬ OwnsPage c p
not_new {p = p} k s h e mine = elim (s.pages.taken p mine) as (λ _. ⊥) [
  | inl never ↦ never
  | inr free ↦ let some = (h.part k p e).is in cc
]

old_page : {u v : View} {first new i page p : ℕ} {there : Address} {tail : Tail} {b c : Bucket} (k : ℕ) → Stands u v first new there i page tail c → IsLinked u.space.pages.at first b → slice_get b.pages k ≡ Some p → v.space.pages.at p ≡ u.space.pages.at p
old_page {p = p} k s h e = s.pages.others p (λ never. never) (not_new k s h e)

-- so the old bucket stands where it stood
old_stands : {u v : Units Sheet} {first n m : ℕ} {b : Bucket} (c : Bucket) → Becomes u v (λ _. ⊥) (OwnsPage c) n m → IsLinked u.at first b → IsLinked v.at first b
old_stands c becomes h = record {
  starts = h.starts;
  long = h.long;
  part = λ i p e. moved (becomes.others p (λ never. never) (λ mine. elim (becomes.taken p mine) as (λ _. ⊥) [
    | inl never ↦ never
    | inr free ↦ let some = (h.part i p e).is in cc
  ])) (h.part i p e);
  fit = h.fit;
  behind = h.behind;
  apart = h.apart;
}

-- the next page's entries may be copied
pub can_copy : {u v : View} {first new i page : ℕ} {there : Address} {tail : Tail} {b c : Bucket} → Keeps u v → IsLinked u.space.pages.at first b → CanBranch u b → Stands u v first new there i page tail c → CanCopy v tail page c
can_copy {u} {v} {i = i} {page = page} {b = b} keeps h can s =
    let at = (s.passed b h).next in
    record {
      ends = s.ends;
      grow = record {
        may_take = keeps.may_take can.may_take;
        may_fill = s.may_fill;
        zero = zero_there;
      };
      free =
          let all = s.pages.exactly in
          let enough = can.free in
          let few = s.few in
          let within = slice_get_within b.pages i page at in
          omega arith;
      bare = s.bare;
      page = moved (old_page i s h at) (part_page (h.part i page at));
      other = not_new i s h at;
    }
  where
    zero_there : IsSome (v.space.pages.at 0)
    zero_there = subst (λ (o : Option Sheet). IsSome o) (sym (s.pages.others 0 (λ never. never) (λ mine. elim (s.pages.taken 0 mine) as (λ _. ⊥) [
      | inl never ↦ never
      | inr free ↦ let some = can.zero in let none : IsSome {T = Sheet} None = subst (λ (o : Option Sheet). IsSome o) free some in cc
    ]))) can.zero

-- the entries of one page more
copied_on : {u v w : View} {first new i page : ℕ} {there : Address} {tail : Tail} (copied : Copied) {b c c' : Bucket} → Stands u v first new there i page tail c → IsLinked u.space.pages.at first b → IsPartCopied v w there page tail copied c c' → entries_of c'.parts ≡ those_at there (entries_of (take (i + 1) b.parts))
copied_on {v = v} {i = i} {page = page} {there = there} copied {b = b} {c = c} s h copies =
    let passed = s.passed b h in
    let part : HasAt v.space.pages.at page (IsPart (slice_index b.pages (i + 1)) (part_at b.parts i)) = moved (old_page i s h passed.next) (h.part i page passed.next) in
    let long = h.long in
    let within = slice_get_within b.pages i page passed.next in
    let p : Entry → _ = λ (e : Entry). is_at there e.key in
    (copies part.what part.is).entries
    ∙ (ap (λ (s : Slots). entries_of c.parts ++ those_at there (entries_in s)) part.has.slots_are
    ∙ (ap (λ (es : List Entry). es ++ those_at there (entries_in (part_at b.parts i))) passed.entries
    ∙ (sym (filter-append p (entries_of (take i b.parts)) (entries_in (part_at b.parts i)))
    ∙ ap (λ (es : List Entry). those_at there es) (sym (parts_on b.parts i (omega arith))))))

-- the next page
copied_next : {u v : View} {first new i page next : ℕ} {there : Address} {tail : Tail} {b c : Bucket} → Stands u v first new there i page tail c → IsLinked u.space.pages.at first b → HasAt v.space.pages.at page (λ sheet. sheet.links.0 ≡ next) → slice_index b.pages (i + 1) ≡ next
copied_next {v = v} {i = i} {page = page} {next = next} {b = b} s h read =
    let passed = s.passed b h in
    let part : HasAt v.space.pages.at page (IsPart (slice_index b.pages (i + 1)) (part_at b.parts i)) = moved (old_page i s h passed.next) (h.part i page passed.next) in
    sym part.has.next_is ∙ subst (λ (sheet : Sheet). sheet.links.0 ≡ next) (same_some read.what part.what (sym read.is ∙ part.is)) read.has

-- the new bucket after one page more, whichever is next
record Further (u w : View) (first new : ℕ) (there : Address) (i last : ℕ) (c' : Bucket) : Type 0 where
  linked : IsLinked w.space.pages.at new c'
  pages : Becomes u.space.pages w.space.pages (λ _. ⊥) (OwnsPage c') 0 (length c'.pages)
  bands : w.space.bands ≡ u.space.bands
  last_is : IsLast last c'
  full : IsFull c'
  few : length c'.pages ≤ i + 1
  may_fill : (p : ℕ) → OwnsPage c' p → MayFill w p 1018
  entries : (b : Bucket) → IsLinked u.space.pages.at first b → entries_of c'.parts ≡ those_at there (entries_of (take (i + 1) b.parts))

further : {u v w : View} {first new i page : ℕ} {there : Address} {tail : Tail} (copied : Copied) {b c c' : Bucket} → Stands u v first new there i page tail c → IsLinked u.space.pages.at first b → Turns v.space w.space new c c' → IsPartCopied v w there page tail copied c c' → Further u w first new there i copied.last.0 c'
further {v = v} {i = i} {page = page} copied {b = b} {c = c} s h t copies =
    let passed = s.passed b h in
    let part : HasAt v.space.pages.at page (IsPart (slice_index b.pages (i + 1)) (part_at b.parts i)) = moved (old_page i s h passed.next) (h.part i page passed.next) in
    let one = copies part.what part.is in
    record {
      linked = t.linked;
      pages = becomes_then (λ k. inr (λ never. never)) (owns_or c) s.pages t.pages;
      bands = t.bands ∙ s.bands;
      last_is = one.last_is;
      full = one.full s.full;
      few = let few = one.few in let before = s.few in omega arith;
      may_fill = one.may_fill;
      entries = λ b' h'. copied_on copied s h' copies;
    }

pub branches_on : {u v w : View} {first new i page next : ℕ} {there : Address} {tail end : Tail} (copied : Copied) → Branches u v first new there i page tail → (u.Told → v.Shows) → (u.Told → (b : Bucket) × IsLinked u.space.pages.at first b × CanBranch u b) → (w.Told → v.Told) → v.faults ≤ w.faults → DidKeep v w new (CanCopy v tail page) (IsPartCopied v w there page tail copied) → (v.Shows → HasAt v.space.pages.at page (λ sheet. sheet.links.0 ≡ next)) → next ≢ 0 → end.page.0 ≡ copied.last.0 → end.slot ≡ None → Branches u w first new there (i + 1) next end
branches_on {u} {v} {w} {first} {new} {i} {page} {next} {there} {tail} {end} copied m shows can back later d read some page_is slot_is = record {
  back = λ t. m.back (back t);
  later = let first = m.later in omega arith;
  keeps = λ told. let k = m.keeps told in keeps_then k (d.keeps (k.told told));
  room = ap filled slot_is;
  stands = λ told.
      let k = m.keeps told in
      let here = m.stands told in
      let old = can told in
      let one = d.turns (k.told told) here.0 here.1.linked (can_copy k old.1 old.2 here.1) in
      let f = further copied here.1 old.1 one.1 one.2 in (
        one.0,
        record {
          linked = f.linked;
          pages = f.pages;
          bands = f.bands;
          ends = record { last = subst (λ (p : ℕ). IsLast p one.0) (sym page_is) f.last_is; slot = subst (λ (o : Option ℕ). IfSome o (λ n. n ≡ length (last_part one.0))) (sym slot_is) tt };
          bare = ap (λ (o : Option ℕ). used o one.0) slot_is;
          full = f.full;
          few = let one : taken end.slot ≡ 1 = ap taken slot_is in let few = f.few in omega arith;
          may_fill = f.may_fill;
          passed = λ b h. record { next = index_there b.pages (i + 1) next (copied_next here.1 h (read (shows told))) some; entries = f.entries b h };
        },
      );
}

pub branched : {u v w : View} {first new i page next : ℕ} {there : Address} {tail : Tail} (copied : Copied) → Branches u v first new there i page tail → (u.Told → v.Shows) → DidKeep v w new (CanCopy v tail page) (IsPartCopied v w there page tail copied) → (v.Shows → HasAt v.space.pages.at page (λ sheet. sheet.links.0 ≡ next)) → next ≡ 0 → (u.Told → (b : Bucket) × IsLinked u.space.pages.at first b × CanBranch u b) → Branched u w first new there
branched {u} {v} {w} {first} {new} {i} {page} {next} {there} copied m shows d read none can = record {
  keeps = λ told. let k = m.keeps told in keeps_then k (d.keeps (k.told told));
  bands = λ told.
      let k = m.keeps told in
      let here = m.stands told in
      let old = can told in
      let one = d.turns (k.told told) here.0 here.1.linked (can_copy k old.1 old.2 here.1) in
      (further copied here.1 old.1 one.1 one.2).bands;
  bucket = λ told b h may.
      let k = m.keeps told in
      let here = m.stands told in
      let one = d.turns (k.told told) here.0 here.1.linked (can_copy k h may here.1) in
      let f = further copied here.1 h one.1 one.2 in
      let past = index_past b.pages (i + 1) (copied_next here.1 h (read (shows told)) ∙ none) (h.behind i) in
      let within = slice_get_within b.pages i page (here.1.passed b h).next in
      let long = h.long in
      let all : take (i + 1) b.parts ≡ b.parts = ap (λ (n : ℕ). take n b.parts) (let e : i + 1 ≡ length b.parts = omega arith in e) ∙ take-length b.parts in
      let entries : entries_of (one.0).parts ≡ those_at there (entries_of b.parts) = f.entries b h ∙ ap (λ (parts : List Slots). those_at there (entries_of parts)) all in (
        one.0,
        record {
          linked = f.linked;
          entries = entries;
          sound = record { once = subst AreOnce (sym entries) (once-filter (λ (e : Entry). is_at there e.key) (entries_of b.parts) may.sound.once); full = f.full };
          few = let few = f.few in omega arith;
          pages = f.pages;
          old = old_stands one.0 f.pages h;
          may_fill = f.may_fill;
        },
      );
}

-- what the copying of the next page wants
pub copy_ready : {u v : View} {first new i page : ℕ} {there : Address} {tail : Tail} → Branches u v first new there i page tail → (u.Told → (b : Bucket) × IsLinked u.space.pages.at first b × CanBranch u b) → u.Told → (c : Bucket) × IsLinked v.space.pages.at new c × CanCopy v tail page c
copy_ready m can told =
    let here = m.stands told in
    let h = can told in
    (here.0, here.1.linked, can_copy (m.keeps told) h.1 h.2 here.1)

-- the page that is next is one of the bucket's
pub passing_within : {u v : View} {first new i page : ℕ} {there : Address} {tail : Tail} → Branches u v first new there i page tail → u.Told → (b : Bucket) → IsLinked u.space.pages.at first b → i < length b.pages
passing_within {i = i} {page = page} m told b h = slice_get_within b.pages i page ((m.stands told).1.passed b h).next

-- a bucket has no more pages than its space
pub still_passing : {u v : View} {first new i page : ℕ} {there : Address} {tail : Tail} → Branches u v first new there i page tail → IsExact u.space.pages → (b : Bucket) → IsLinked u.space.pages.at first b → u.Told → i < u.space.pages.count
still_passing {i = i} {page = page} m exact b h told =
    let few = few_pages exact h in
    let within = slice_get_within b.pages i page ((m.stands told).1.passed b h).next in
    omega arith
