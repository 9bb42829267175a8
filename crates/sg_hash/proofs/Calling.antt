-- The calls that put an entry or remove one, after they have found its bucket.
use Rattle.std.proofs.Common.{◌≡◌, ◌≢◌, ℕ, ◌+◌, ◌<◌, ◌≤◌, ◌^◌, List, [], length, Option, Some, None, IsSome, is_none, is_some, Bool, true, ap, refl, arith, set, inr}
use Rattle.sg_base.specs.Sheet.{Sheet}
use Rattle.sg_bucket.specs.Bucket.{Bucket, OwnsPage}
use Rattle.sg_bucket.specs.Calls.{IsSound, CanPutEntry, DidPut}
use Rattle.sg_bucket.specs.Calls as bucket_calls
use Rattle.sg_bucket.specs.Entry.{Entry}
use Rattle.sg_bucket.specs.Steps as bucket
use Rattle.sg_space.specs.View.{Space, View, Keeps, OnlyReads}
use Rattle.sg_space.proofs.Known.{before, still, keeps_then}
use Rattle.sg_hash.specs.Table.{HashTable, Numbers, IsInRange, IsHashTable, Owns, entries, byte_count, home_of, numbers_of, root_cell, root_sheet}
use Rattle.sg_hash.specs.Calls.{Turns, Did, CanPut, IsDeleted}
use Rattle.sg_hash.specs.Steps.{Rewrites, SetsRoot, IsFirstOf, IsCounted, DidEnter, gone_bytes}
use Rattle.sg_hash.proofs.Changing.{AreCounted, AreNumbers, gone_count, changed_turns, counted, found_bucket, found_turns, is_deleted, is_entered, put_numbers, root_there, with_change}
use Rattle.sg_hash.proofs.Small.{table_small}
use Rattle.sg_hash.proofs.Trunks.{still_table}

pub none_is : {A : Type 0} (o : Option A) → is_none o ≡ true → o ≡ None
none_is None e = refl
none_is (Some x) e = absurd (cc)

-- the bucket may have an entry more
pub can_enter : {v w : View} {root i page : ℕ} {key : List ℕ} {split : Bool} {t : HashTable} → OnlyReads v w → v.Shows → IsHashTable v.space.pages.at root t → CanPut v key split t → (f : IsFirstOf t i page) → CanPutEntry w f.bucket
can_enter {v} {w} {i = i} k shows h can f =
    let b = h.built.bucket i f.bucket f.is in
    record {
      sound = record { once = b.once; full = b.full };
      add = record {
        free = still (λ (s : Space). 1 ≤ s.pages.free) k shows can.free;
        may_take = k.keeps.may_take can.may_take;
        may_fill = λ p o n few. k.keeps.may_have p n (can.may_grow.buckets p (record { index = i; bucket = f.bucket; is = f.is; owns = o }) n few);
        zero = still (λ (s : Space). IsSome (s.pages.at 0)) k shows can.zero;
      };
    }

pub not_in : {t : HashTable} {root i page p : ℕ} (f : IsFirstOf t i page) → ¬ Owns root t p → ¬ OwnsPage f.bucket p
not_in {i = i} f apart o = apart (inr (inr (record { index = i; bucket = f.bucket; is = f.is; owns = o })))

pub did_enter : {u v w x : View} {root page : ℕ} {key value : List ℕ} {split : Bool} {old : Option ℕ} {n : Numbers} → (u.Told → u.Shows) → OnlyReads u v → DidPut v w page key value old → SetsRoot w x root n → IsInRange n
    → (u.Shows → (t : HashTable) → IsHashTable u.space.pages.at root t → IsFirstOf t (home_of t.shape key) page)
    → (u.Told → (t : HashTable) → IsHashTable u.space.pages.at root t → IsCounted (length key) (length value) old split (numbers_of t) n)
    → DidEnter u x root key value split (is_none old)
did_enter {u} {v} {w} {x} {root} {page} {key} {value} {split} {old} {n} shows k p s range first count = record {
  did = record {
    told = λ told. let there = p.did.told (k.keeps.told told) in (s.keeps there).told there;
    turns = λ told t h can.
        let there = k.keeps.told told in
        let f = first (shows told) t h in
        let now = still_table k (shows told) h in
        let one = p.did.turns there f.bucket (found_bucket now f).linked (can_enter k (shows told) h can f) in
        let rewrites = s.pages (p.did.told there) (numbers_of t) t.directory (root_there now f one.1) in
        let are = put_numbers old (counted t.buckets (home_of t.shape key) f.is one.2.entries) (count told t h) in
        let turns = changed_turns (home_of t.shape key) f.bucket one.0 key (Some value) now f.is refl (found_turns f one.1) one.2.sound one.2.values rewrites (s.bands (p.did.told there)) range are in
        (_, before (λ (z : Space). Turns z x.space root t (with_change (home_of t.shape key) one.0 n.peak t)) k (shows told) turns, is_entered (home_of t.shape key) f.bucket one.0 h f.is refl one.2 (count told t h) are);
    may_have = λ told t h can q m no some had.
        let there = k.keeps.told told in
        let f = first (shows told) t h in
        let now = still_table k (shows told) h in
        (s.keeps (p.did.told there)).may_have q m (p.did.may_have there f.bucket (found_bucket now f).linked (can_enter k (shows told) h can f) q m (not_in f no) (still (λ (z : Space). z.pages.at q ≢ None) k (shows told) some) (k.keeps.may_have q m had));
  };
  keeps = λ new told. let there = k.keeps.told told in keeps_then k.keeps (keeps_then (p.keeps (none_is old new) there) (s.keeps (p.did.told there)));
}

-- the counts after a put fit
pub put_fits : {at : ℕ → Option Sheet} {root count bytes : ℕ} {key : List ℕ} {old : Option ℕ} {come : List Entry} {cs : List Bucket} {t : HashTable} → IsHashTable at root t → count ≡ length (entries t) → bytes ≡ byte_count (entries t) → length (entries t) + 1 < 2 ^ 32 → AreCounted key old come t.buckets cs → (count + 1 < 2 ^ 32) × ((gone_bytes (length key) old ≤ bytes) × (bytes + 1156 < 2 ^ 64))
put_fits h c b few are =
    let small = table_small h.built in
    let had = are.had in
    (omega arith, (omega arith, omega arith))

pub did_delete : {u v w x : View} {root page : ℕ} {key : List ℕ} {old : Option ℕ} (n : HashTable → Numbers) → (u.Told → u.Shows) → OnlyReads u v → bucket.Did v w page IsSound (bucket_calls.IsDeleted key old) → (w.Told → Keeps w x) → (w.Told → x.space.bands ≡ w.space.bands)
    → (w.Told → (t : HashTable) → w.space.pages.at root ≡ Some (root_sheet (root_cell (numbers_of t)) t.directory) → Rewrites w.space.pages x.space.pages root (root_sheet (root_cell (n t)) t.directory))
    → (u.Shows → (t : HashTable) → IsHashTable u.space.pages.at root t → IsFirstOf t (home_of t.shape key) page)
    → (u.Told → (t : HashTable) → IsHashTable u.space.pages.at root t → IsInRange (n t))
    → (u.Told → (t : HashTable) → IsHashTable u.space.pages.at root t → (cs : List Bucket) → AreCounted key old [] t.buckets cs → AreNumbers (n t) t cs)
    → (u.Told → (t : HashTable) → IsHashTable u.space.pages.at root t → (n t).peak ≡ t.peak)
    → Did u x root (λ _. Unit {0}) (IsDeleted key (is_some old))
did_delete {u} {v} {w} {x} {root} {page} {key} {old} n shows k d keeps bands writes first ranges are_numbers peaks = record {
  told = λ told. let there = d.told (k.keeps.told told) in (keeps there).told there;
  turns = λ told t h can.
      let there = k.keeps.told told in
      let f = first (shows told) t h in
      let now = still_table k (shows told) h in
      let b = found_bucket now f in
      let one = d.turns there f.bucket b.linked (record { once = b.once; full = b.full }) in
      let rewrites = writes (d.told there) t (root_there now f one.1) in
      let are = are_numbers told t h (set t.buckets (home_of t.shape key) one.0) (counted t.buckets (home_of t.shape key) f.is one.2.entries) in
      let turns = changed_turns (home_of t.shape key) f.bucket one.0 key None now f.is refl (found_turns f one.1) one.2.sound one.2.values rewrites (bands (d.told there)) (ranges told t h) are in
      (_, before (λ (z : Space). Turns z x.space root t (with_change (home_of t.shape key) one.0 (n t).peak t)) k (shows told) turns, is_deleted (n t) (home_of t.shape key) f.bucket one.0 h f.is refl one.2 (peaks told t h));
  may_have = λ told t h can q m no some had.
      let there = k.keeps.told told in
      let f = first (shows told) t h in
      let now = still_table k (shows told) h in
      let b = found_bucket now f in
      (keeps (d.told there)).may_have q m (d.may_have there f.bucket b.linked (record { once = b.once; full = b.full }) q m (not_in f no) (still (λ (z : Space). z.pages.at q ≢ None) k (shows told) some) (k.keeps.may_have q m had));
}

-- the counts after a removal fit
pub del_fits : {count bytes size : ℕ} {key : List ℕ} {old : Option ℕ} {cs : List Bucket} (t : HashTable) → old ≡ Some size → count ≡ length (entries t) → bytes ≡ byte_count (entries t) → AreCounted key old [] t.buckets cs → (1 ≤ count) × (4 + (length key + size) ≤ bytes)
del_fits {count} {bytes} {size} {key} {old} {cs} t e c b are =
    let one : gone_count old ≡ 1 = ap gone_count e in
    let long : gone_bytes (length key) old ≡ 4 + (length key + size) = ap (gone_bytes (length key)) e in
    let had = are.had in
    let some = are.some in
    (omega arith, omega arith)

-- where nothing has gone the root stays as it was
pub same_rewrites : (v : View) {root : ℕ} {sheet : Sheet} → v.space.pages.at root ≡ Some sheet → Rewrites v.space.pages v.space.pages root sheet
same_rewrites v e = record { here = e; others = λ q ne. refl; free = refl; count = refl }

pub same_counts : {key : List ℕ} {old : Option ℕ} {cs : List Bucket} {t : HashTable} → old ≡ None → AreCounted key old [] t.buckets cs → AreNumbers (numbers_of t) t cs
same_counts {key} {old} e are =
    let none : gone_count old ≡ 0 = ap gone_count e in
    let empty : gone_bytes (length key) old ≡ 0 = ap (gone_bytes (length key)) e in
    record {
      shape = refl;
      entries = let x = are.count in omega arith;
      bytes = let x = are.bytes in omega arith;
      peak = omega arith;
    }
