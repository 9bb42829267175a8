-- The split of a bucket where it is due, and a put that may lead to one.
use Rattle.std.proofs.Common.{◌≡◌, ◌≢◌, ℕ, zero, suc, ◌+◌, ◌*◌, ◌<◌, ◌≤◌, ◌⊎◌, ◌^◌, max, Bool, true, List, length, Option, Some, None, IsSome, sym, ap, subst, ◌∙◌, refl, arith, slice_get, inl, inr}
use Rattle.std.proofs.Math.Pow.{pow_mono}
use Rattle.std.proofs.lemmas.Bool.{cases_lt}
use Rattle.sg_base.specs.Sheet.{Sheet}
use Rattle.byteorder.specs.Endian.{little_bytes}
use Rattle.sg_array.specs.Array.{Array}
use Rattle.sg_array.specs.Array as array
use Rattle.sg_array.specs.Calls.{IsRoomy}
use Rattle.sg_bucket.specs.Bucket.{Bucket, IsLinked, OwnsPage}
use Rattle.sg_bucket.specs.Entry.{entry_size}
use Rattle.sg_linear.specs.Extent.{buckets_of, shape_of}
use Rattle.sg_space.specs.View.{Space, View, Keeps, OnlyReads}
use Rattle.std.proofs.lemmas.Option.{slice_get_within}
use Rattle.sg_space.proofs.Known.{before, same_some, still}
use Rattle.sg_space.proofs.Links.{number_is}
use Rattle.sg_hash.specs.Table.{HashTable, Numbers, IsHashTable, IsInBuckets, Owns, first_page, name_of, byte_count, entries, numbers_of, page_count, value_at}
use Rattle.sg_hash.specs.Calls.{Turns, Did, CanPut, IsDue, IsEntered, IsGrown, IsPut}
use Rattle.sg_hash.specs.Splits.{CanGrow, CanSplit, IsSplit}
use Rattle.sg_hash.specs.Steps.{DidEnter, IsFirstOf, numbers_in}
use Rattle.sg_hash.specs.declared.root.Root.{Root}
use Rattle.sg_hash.proofs.Deciding.{table_or}
use Rattle.sg_hash.proofs.Calling.{none_is}
use Rattle.sg_hash.proofs.Owning.{first_is, owns_there}
use Rattle.sg_hash.proofs.Trunks.{names_long, one_there, still_table}
use Rattle.sg_bucket.proofs.Owning.{becomes_then}

-- a table that was only looked at
turns_same : {old new : Space} {root : ℕ} {t : HashTable} → new ≡ old → IsHashTable old.pages.at root t → Turns old new root t t
turns_same {root = root} {t = t} e h = record {
  table = subst (λ (s : Space). IsHashTable s.pages.at root t) (sym e) h;
  pages = record {
    others = λ p no no'. ap (λ (s : Space). s.pages.at p) e;
    taken = λ p o. inl o;
    given = λ p o no. absurd (no o);
    exactly = ap (λ (s : Space). s.pages.free + page_count t) e;
    all = ap (λ (s : Space). s.pages.count) e;
  };
  bands = ap (λ (s : Space). s.bands) e;
}

pub did_same : {u w : View} {root : ℕ} {Can : HashTable → Type 0} {Is : HashTable → HashTable → Type 0} → (u.Told → u.Shows) → OnlyReads u w → (u.Told → (t : HashTable) → IsHashTable u.space.pages.at root t → Can t → Is t t) → Did u w root Can Is
did_same shows k is = record {
  told = k.keeps.told;
  turns = λ told t h can. (t, turns_same (k.same (shows told)) h, is told t h can);
  may_have = λ told t h can p n no some had. k.keeps.may_have p n had;
}

-- a call after calls that only read
pub did_after : {u v w : View} {root : ℕ} {Can Then : HashTable → Type 0} {Is Now : HashTable → HashTable → Type 0} → (u.Told → u.Shows) → OnlyReads u v → Did v w root Then Is → (u.Told → (t : HashTable) → IsHashTable u.space.pages.at root t → Can t → Then t) → (u.Told → (t t' : HashTable) → IsHashTable u.space.pages.at root t → Can t → Is t t' → Now t t') → Did u w root Can Now
did_after {u} {v} {w} {root} shows k d so is = record {
  told = λ told. d.told (k.keeps.told told);
  turns = λ told t h can.
      let one = d.turns (k.keeps.told told) t (still_table k (shows told) h) (so told t h can) in
      (one.0, before (λ (s : Space). Turns s w.space root t one.0) k (shows told) one.1, is told t one.0 h can one.2);
  may_have = λ told t h can p n no some had. d.may_have (k.keeps.told told) t (still_table k (shows told) h) (so told t h can) p n no (still (λ (s : Space). s.pages.at p ≢ None) k (shows told) some) (k.keeps.may_have p n had);
}

-- no split is due
pub undue_grown : (t : HashTable) → ¬ IsDue t → IsGrown t t
undue_grown t no_split = record {
  due = λ d. absurd (no_split d);
  undue = λ n. refl;
  values = refl;
  sums = λ f. refl;
  peak = refl;
  few = omega arith;
}

pub not_crowded : {at : ℕ → Option Sheet} {root : ℕ} (found : Root) (t : HashTable) → IsHashTable at root t → numbers_in found ≡ numbers_of t → (524288 < found.extent.low) ⊎ (found.bytes ≤ 2048 * buckets_of (shape_of found.extent)) → ¬ IsDue t
not_crowded found t h same (inl large) d =
    let low : found.extent.low ≡ 2 ^ t.shape.level = found.extent.power ∙ ap (λ (n : Numbers). 2 ^ n.shape.level) same in
    let room = d.room in
    let most : 2 ^ t.shape.level ≤ 2 ^ 19 = pow_mono {i = t.shape.level} {j = 19} (omega arith) in
    omega arith
not_crowded found t h same (inr few) d =
    let bytes : found.bytes ≡ byte_count (entries t) = ap (λ (n : Numbers). n.bytes) same in
    let buckets : buckets_of (shape_of found.extent) ≡ buckets_of t.shape = ap (λ (n : Numbers). buckets_of n.shape) same in
    let many = h.many in
    let above = d.bytes in
    omega arith

pub too_long : {t : HashTable} {page pages : ℕ} → (f : IsFirstOf t t.shape.split page) → pages ≡ length f.bucket.pages → 8 < pages → ¬ IsDue t
too_long f is long d = let short = d.short f.bucket f.is in omega arith

small_level : (k : ℕ) → 2 ^ k ≤ 524288 → k < 20
small_level k h = elim (cases_lt 19 k) as (λ _. k < 20) [
  | inl more ↦ absurd (let large : 2 ^ 20 ≤ 2 ^ k = pow_mono {i = 20} {j = k} (omega arith) in omega arith)
  | inr few ↦ omega arith
]

-- one is
pub is_due : {at : ℕ → Option Sheet} {root page pages : ℕ} (found : Root) (t : HashTable) → IsHashTable at root t → numbers_in found ≡ numbers_of t → found.extent.low ≤ 524288 → 2048 * buckets_of (shape_of found.extent) < found.bytes → (f : IsFirstOf t t.shape.split page) → pages ≡ length f.bucket.pages → pages ≤ 8 → IsDue t
is_due found t h same most above f is short =
    let low : found.extent.low ≡ 2 ^ t.shape.level = found.extent.power ∙ ap (λ (n : Numbers). 2 ^ n.shape.level) same in
    let bytes : found.bytes ≡ byte_count (entries t) = ap (λ (n : Numbers). n.bytes) same in
    let buckets : buckets_of (shape_of found.extent) ≡ buckets_of t.shape = ap (λ (n : Numbers). buckets_of n.shape) same in
    let many = h.many in
    record {
      bytes = omega arith;
      short = λ b e. let long : length b.pages ≡ length f.bucket.pages = ap (λ (x : Bucket). length x.pages) (same_some b f.bucket (sym e ∙ f.is)) in omega arith;
      room = small_level t.shape.level (omega arith);
    }

pub can_split : {u v : View} (found : Root) {t : HashTable} → OnlyReads u v → u.Shows → numbers_in found ≡ numbers_of t → IsDue t → CanGrow u t → CanSplit v found t
can_split found k shows same due can = record {
  numbers = same;
  bytes = due.bytes;
  raised = can.raised;
  short = due.short;
  free = still (λ (s : Space). 10 ≤ s.pages.free) k shows can.free;
  may_take = k.keeps.may_take can.may_take;
  names = record {
    first = λ n le. k.keeps.may_have _ n (can.names.first n le);
    index = λ j p e n le. k.keeps.may_have p n (can.names.index j p e n le);
    leaf = λ d p e n le. k.keeps.may_have p n (can.names.leaf d p e n le);
  };
  zero = still (λ (s : Space). IsSome (s.pages.at 0)) k shows can.zero;
}

pub split_grown : {t t' : HashTable} → IsDue t → IsSplit t t' → IsGrown t t'
split_grown due s = record {
  due = λ d. s.shape;
  undue = λ n. absurd (n due);
  values = s.values;
  sums = s.sums;
  peak = s.peak;
  few = s.few;
}

-- the next bucket is one of those there are, and begins in the page that was found
pub split_below : {at : ℕ → Option Sheet} {root : ℕ} (found : Root) (t : HashTable) → IsHashTable at root t → numbers_in found ≡ numbers_of t → found.extent.split < length t.buckets
split_below found t h same =
    let split : found.extent.split ≡ t.shape.split = ap (λ (n : Numbers). n.shape.split) same in
    let within = h.built.trunk.range.split in
    let many = h.many in
    omega arith

pub first_of : {page : ℕ} (found : Root) (t : HashTable) → numbers_in found ≡ numbers_of t → IsFirstOf t found.extent.split page → IsFirstOf t t.shape.split page
first_of {page} found t same f = subst (λ (k : ℕ). IsFirstOf t k page) (ap (λ (n : Numbers). n.shape.split) same) f

pub did_as : {v w : View} {root : ℕ} {Can : HashTable → Type 0} {Is Now : HashTable → HashTable → Type 0} → Did v w root Can Is → ((t t' : HashTable) → Is t t' → Now t t') → Did v w root Can Now
did_as d is = record {
  told = d.told;
  turns = λ told t h can. let one = d.turns told t h can in (one.0, one.1, is t one.0 one.2);
  may_have = d.may_have;
}

-- a put that may lead to no split
pub entered_put : {key value : List ℕ} {split new : Bool} (t t' : HashTable) → (split ≡ true → new ≡ true → ⊥) → IsEntered key value split new t t' → IsPut key value split new t t'
entered_put t t' whole e = record {
  values = e.values;
  was_new = e.was_new;
  peak = e.peak;
  before_split = t';
  entered = e;
  grown = λ s n. absurd (whole s n);
  whole = λ _. refl;
  few = let few = e.few in omega arith;
}

-- page 0 stays taken, also where a bucket of the table begins in it
first_zero : {at : ℕ → Option Sheet} {first : ℕ} {b : Bucket} → IsLinked at first b → OwnsPage b 0 → first_page b ≡ 0
first_zero {b = b} h (zero, e) = first_is b.pages 0 e
first_zero {b = b} h (suc i, e) = absurd (let some = h.behind i 0 (subst (λ (n : ℕ). slice_get b.pages n ≡ Some 0) (let s : suc i ≡ i + 1 = omega arith in s) e) in omega arith)

begins_too : {old new : ℕ → Option Sheet} {root : ℕ} {t m : HashTable} → IsHashTable old root t → IsHashTable new root m → m.names ≡ t.names → (o : IsInBuckets t.buckets 0) → IsInBuckets m.buckets 0
begins_too {t = t} {m = m} h k names o =
    let b = h.built.bucket o.index o.bucket o.is in
    let zero_is : first_page o.bucket ≡ 0 = first_zero b.linked o.owns in
    let long = names_long h.built.trunk in
    let long' = names_long k.built.trunk in
    let items : m.names.items ≡ t.names.items = ap (λ (a : Array). a.items) names in
    let count : length m.names.items ≡ length t.names.items = ap (λ (xs : List (List ℕ)). length xs) items in
    let below = slice_get_within t.buckets o.index o.bucket o.is in
    let c = one_there m.buckets o.index (omega arith) in
    let name : little_bytes 4 (first_page c.0) ≡ little_bytes 4 (first_page o.bucket) = same_some _ _ (sym (k.built.trunk.named o.index ∙ ap name_of c.1) ∙ (ap (λ (xs : List (List ℕ)). slice_get xs o.index) items ∙ (h.built.trunk.named o.index ∙ ap name_of o.is))) in
    let same : first_page c.0 ≡ first_page o.bucket = number_is _ _ (k.built.trunk.fit o.index c.0 c.1) (h.built.trunk.fit o.index o.bucket o.is) name in
    record { index = o.index; bucket = c.0; is = c.1; owns = (0, (k.built.bucket o.index c.0 c.1).linked.starts ∙ ap Some (same ∙ zero_is)) }

some_there : {A : Type 0} (o : Option A) → o ≢ None → IsSome o
some_there None h = absurd (h refl)
some_there (Some x) h = refl

pub zero_stays : {v w : Space} {root : ℕ} {t m : HashTable} → IsHashTable v.pages.at root t → Turns v w root t m → m.directory ≡ t.directory → m.names ≡ t.names → IsSome (v.pages.at 0) → IsSome (w.pages.at 0)
zero_stays {v} {w} {root} {t} {m} h x directory names some = elim (table_or root t 0) as (λ _. IsSome (w.pages.at 0)) [
  | inl mine ↦ some_there (w.pages.at 0) (owns_there x.table.built 0 (elim mine as (λ _. Owns root m 0) [
    | inl is ↦ inl is
    | inr r ↦ elim r as (λ _. Owns root m 0) [
      | inl a ↦ inr (inl (subst (λ (n : Array). array.Owns m.directory n 0) (sym names) (subst (λ (d : ℕ). array.Owns d t.names 0) (sym directory) a)))
      | inr b ↦ inr (inr (begins_too h x.table names b))
    ]
  ]))
  | inr none ↦ elim (table_or root m 0) as (λ _. IsSome (w.pages.at 0)) [
    | inl mine ↦ some_there (w.pages.at 0) (owns_there x.table.built 0 mine)
    | inr other ↦ subst IsSome (sym (x.pages.others 0 none other)) some
  ]
]

-- a bucket may be split after a new key was put
pub can_grow : {v w : View} {root : ℕ} {key value : List ℕ} {t m : HashTable} → Keeps v w → IsHashTable v.space.pages.at root t → CanPut v key true t → Turns v.space w.space root t m → IsEntered key value true true t m → CanGrow w m
can_grow {v} {w} {root} {key} {value} {t} {m} keeps h can x e =
    let peak = e.peak in
    let few = e.few in
    let exactly = x.pages.exactly in
    let free = can.free_split refl (none_is (value_at t key) (sym e.was_new)) in
    let roomy : IsRoomy v m.directory m.names = subst (λ (d : ℕ). IsRoomy v d m.names) (sym e.directory) (subst (λ (n : Array). IsRoomy v t.directory n) (sym e.names) can.may_grow.names) in
    record {
      raised = omega arith;
      free = omega arith;
      may_take = keeps.may_take can.may_take;
      names = record {
        first = λ n le. keeps.may_have _ n (roomy.first n le);
        index = λ j p i n le. keeps.may_have p n (roomy.index j p i n le);
        leaf = λ d p i n le. keeps.may_have p n (roomy.leaf d p i n le);
      };
      zero = zero_stays h x e.directory e.names can.zero;
    }

-- what nobody else's page was, and what was there, stays so
other_still : {v w : Space} {root q : ℕ} {t m : HashTable} → Turns v w root t m → ¬ Owns root t q → v.pages.at q ≢ None → (¬ Owns root m q) × (w.pages.at q ≢ None)
other_still {v} {w} {root} {q} {t} {m} x none some = (apart, λ e. some (sym (x.pages.others q none apart) ∙ e))
  where
    apart : ¬ Owns root m q
    apart mine = elim (x.pages.taken q mine) as (λ _. ⊥) [ inl before ↦ none before | inr free ↦ some free ]

pub put_grown : {v w x : View} {root : ℕ} {key value : List ℕ} → DidEnter v w root key value true true → Did w x root (CanGrow w) IsGrown → Did v x root (CanPut v key true) (IsPut key value true true)
put_grown {v} {w} {x} {root} {key} {value} d g = record {
  told = λ told. g.told (d.did.told told);
  turns = λ told t h can.
      let one = d.did.turns told t h can in
      let two = g.turns (d.did.told told) one.0 one.1.table (can_grow (d.keeps refl told) h can one.1 one.2) in
      let few = one.2.few in
      let more = two.2.few in
      let bytes : byte_count (entries two.0) ≡ byte_count (entries one.0) = two.2.sums entry_size in (
        two.0,
        record { table = two.1.table; pages = becomes_then (table_or root t) (table_or root one.0) one.1.pages two.1.pages; bands = two.1.bands ∙ one.1.bands },
        record {
          values = two.2.values ∙ one.2.values;
          was_new = one.2.was_new;
          peak = two.2.peak ∙ (one.2.peak ∙ ap (λ (n : ℕ). max t.peak n) (sym bytes));
          before_split = one.0;
          entered = one.2;
          grown = λ s n. two.2;
          whole = λ no_split. absurd (no_split refl refl);
          few = omega arith;
        },
      );
  may_have = λ told t h can q m none some had.
      let one = d.did.turns told t h can in
      let other = other_still one.1 none some in
      g.may_have (d.did.told told) one.0 one.1.table (can_grow (d.keeps refl told) h can one.1 one.2) q m other.0 other.1 (d.did.may_have told t h can q m none some had);
}
