-- What putting an entry comes to, and putting one back.
use Rattle.std.proofs.Common.{◌≡◌, ℕ, ◌+◌, ◌<◌, ◌≤◌, max, Bool, true, false, cond, List, [], ◌∷◌, length, map, Option, Some, None, IsSome, Ok, Err, refl, sym, ap, ◌∙◌, subst, arith, inl, inr}
use Rattle.std.specs.Prelude.{nat_lt, is_none}
use Rattle.std.specs.List.{count_by}
use Rattle.std.specs.Ordering.{nat_cmp, is_eq}
use Rattle.std.specs.declared.cmp.Ordering.TheVariants.{Less, Equal, Greater}
use Rattle.std.specs.Cmp.Lexicographic.{slice_cmp, nat_list_cmp_total}
use Rattle.std.specs.FinMap.{get, insert, empty, entries, from_entries, get-from_entries, entries-insert, get-entries, len-entries, len-empty}
use Rattle.std.specs.FinMap as finmap
use Rattle.std.specs.FinMap.Entries.{by_order}
use Rattle.std.specs.Str.{bytes_eq}
use Rattle.std.proofs.lemmas.Bool.{cases_lt, cases_eq}
use Rattle.std.proofs.lemmas.Bool.Decides.{nat_tests}
use Rattle.std.proofs.lemmas.List.Sums.{sum_by-cons}
use Rattle.sg_base.specs.Sheet.{Sheet}
use Rattle.sg_ops.specs.Table.{Table as Operations}
use Rattle.sg_bucket.specs.Entry.{Entry, AreOnce, entry_size, value_of}
use Rattle.sg_catalog.specs.Catalog.{Catalog, IsCatalog}
use Rattle.sg_catalog.specs.declared.row.ObjectKind.TheVariants as kinds
use Rattle.sg_hash.specs.Calls as table
use Rattle.sg_hash.specs.Table.{HashTable, IsHashTable, byte_count, value_at, page_count}
use Rattle.sg_hash.specs.Table as hash
use Rattle.sg_hash.proofs.Onces.{once}
use Rattle.sg_model.specs.declared.reason.Reason.TheVariants.{TooLong, OutOfRange}
use Rattle.sg_model.specs.Objects.{Entries}
use Rattle.sg_model.specs.Objects.Object.{Table as AsTable}
use Rattle.sg_model.specs.Step.{on, at_key, put_value, put_reply, Update, updated, Change}
use Rattle.sg_model.specs.Step.Update.{Stays, Becomes}
use Rattle.sg_model.specs.Verb.{Outcome, Reply}
use Rattle.sg_model.specs.Verb.Verb.{Put}
use Rattle.sg_model.proofs.Parts.{get_put, same_entries, bytes_self}
use Rattle.sg_space.specs.View.{View, Space}
use Rattle.sg_reading.specs.Reading.{Thing, plain}
use Rattle.sg_reading.specs.Reading.Thing.{There}
use Rattle.sg_reading.specs.Did.{bytes_of, entry_bytes}
use Rattle.sg_reading.specs.Back.Undoing.{WasPut, WasOver}
use Rattle.sg_reading.specs.Noted.{noted_put}
use Rattle.sg_contents.specs.Standing.{Body, Contents, IsContents}
use Rattle.sg_contents.specs.Standing.Body.{ATable}
use Rattle.sg_contents.specs.Changes.{with_body, BodyTurns}
use Rattle.sg_contents.specs.Meaning.{reading, thing_of, pair_of, map_of}
use Rattle.sg_contents.proofs.Reading.{get_map, find_pair}
use Rattle.sg_objects.specs.Done.{IsDone, IsFresh, HasRoomFor}
use Rattle.sg_objects.specs.Found.{IsAt}
use Rattle.sg_objects.specs.Needs.{needed, needed_put, pages_alone, HasTaken}
use Rattle.sg_objects.specs.Notes.{note_bytes}
use Rattle.sg_objects.specs.Undone.{IsUndone}
use Rattle.sg_objects.proofs.Bodies.{noted_some, pages_taken, body_undone}
use Rattle.sg_objects.proofs.Doing.{ok_is}
use Rattle.sg_objects.proofs.Forgetting.{carried_table}
use Rattle.sg_objects.proofs.Fresh.{fresh_grow}
use Rattle.sg_objects.proofs.Tables.{table_under, table_turns, table_thing, table_done, changed_table, at_this_key, empty_key, long_key}
use Rattle.sg_objects.proofs.Undoing.{was_done, not_both}

-- HOW MANY BYTES A MAP'S ENTRIES HAVE
put_bytes : (k v : List ℕ) (es : List (List ℕ × List ℕ)) → finmap.find (slice_cmp nat_cmp) k es ≡ None → bytes_of (finmap.put (slice_cmp nat_cmp) k v es) ≡ (4 + length k + length v) + bytes_of es
put_bytes k v [] none = refl
put_bytes k v (e ∷ es) none =
    elim (slice_cmp nat_cmp k e.0) as (λ r. cond (is_eq r) (Some e.1) (finmap.find (slice_cmp nat_cmp) k es) ≡ None → bytes_of (by_order r ((k, v) ∷ e ∷ es) ((e.0, v) ∷ es) (e ∷ finmap.put (slice_cmp nat_cmp) k v es)) ≡ (4 + length k + length v) + ((4 + length e.0 + length e.1) + bytes_of es)) [
      | Less ↦ λ n. refl
      | Equal ↦ λ n. absurd (cc)
      | Greater ↦ λ n. let rest = put_bytes k v es n in omega arith
    ] none

none_bytes : (es : List (List ℕ × List ℕ)) → length es ≡ 0 → bytes_of es ≡ 0
none_bytes [] e = refl
none_bytes (x ∷ es) e = absurd (omega (arith, e))

no_bytes : bytes_of (entries (empty {X = List ℕ} {R = slice_cmp nat_cmp})) ≡ 0
no_bytes = none_bytes _ (sym (len-entries (empty {X = List ℕ} {R = slice_cmp nat_cmp})) ∙ len-empty (slice_cmp nat_cmp) (List ℕ))

-- an entry whose key no other one has
counts_none : (key : List ℕ) (es : List Entry) → count_by (λ e. bytes_eq e.key key) es ≡ 0 → value_of es key ≡ None
counts_none key [] n = refl
counts_none key (e ∷ es) n = by (bytes_eq e.key key) refl (counts_none key es)
  where
    sum : count_by (λ x. bytes_eq x.key key) (e ∷ es) ≡ cond {A = ℕ} (bytes_eq e.key key) 1 0 + count_by (λ x. bytes_eq x.key key) es
    sum = sum_by-cons (λ (x : Entry). cond {A = ℕ} (bytes_eq x.key key) 1 0) e es

    by : (b : Bool) → bytes_eq e.key key ≡ b → (count_by (λ x. bytes_eq x.key key) es ≡ 0 → value_of es key ≡ None) → value_of (e ∷ es) key ≡ None
    by true is rest = let one : cond {A = ℕ} (bytes_eq e.key key) 1 0 ≡ 1 = ap (λ (b : Bool). cond {A = ℕ} b 1 0) is in absurd (omega (arith, n, sum, one))
    by false is rest = ap (λ (b : Bool). cond b (Some e.value) (value_of es key)) is ∙ rest (let one : cond {A = ℕ} (bytes_eq e.key key) 1 0 ≡ 0 = ap (λ (b : Bool). cond {A = ℕ} b 1 0) is in omega (arith, n, sum, one))

pub map_bytes : (es : List Entry) → AreOnce es → bytes_of (entries (from_entries {R = slice_cmp nat_cmp} (map pair_of es))) ≡ byte_count es
map_bytes [] o = no_bytes
map_bytes (e ∷ es) o =
    let count = o e.key in
    let sum : count_by (λ x. bytes_eq x.key e.key) (e ∷ es) ≡ cond {A = ℕ} (bytes_eq e.key e.key) 1 0 + count_by (λ x. bytes_eq x.key e.key) es = sum_by-cons (λ (x : Entry). cond {A = ℕ} (bytes_eq x.key e.key) 1 0) e es in
    let self : cond {A = ℕ} (bytes_eq e.key e.key) 1 0 ≡ 1 = ap (λ (b : Bool). cond {A = ℕ} b 1 0) (bytes_self e.key) in
    let alone : value_of es e.key ≡ None = counts_none e.key es (omega (arith, count, sum, self)) in
    let m = from_entries {R = slice_cmp nat_cmp} (map pair_of es) in
    let none : finmap.find (slice_cmp nat_cmp) e.key (entries m) ≡ None = sym (get-entries m e.key) ∙ (get-from_entries nat_list_cmp_total (map pair_of es) e.key ∙ (find_pair es e.key ∙ alone)) in
    let here = ap bytes_of (entries-insert nat_list_cmp_total m e.key e.value) ∙ put_bytes e.key e.value (entries m) none in
    let rest = map_bytes es (λ key. (let all = o key in let add : count_by (λ x. bytes_eq x.key key) (e ∷ es) ≡ cond {A = ℕ} (bytes_eq e.key key) 1 0 + count_by (λ x. bytes_eq x.key key) es = sum_by-cons (λ (x : Entry). cond {A = ℕ} (bytes_eq x.key key) 1 0) e es in omega (arith, all, add))) in
    let bytes : byte_count (e ∷ es) ≡ entry_size e + byte_count es = sum_by-cons entry_size e es in
    omega (arith, here, rest, bytes)

-- THE ROOT COUNTS THE BYTES OF THE MAP'S ENTRIES
pub bytes_are : {at : ℕ → Option Sheet} {root : ℕ} (a : HashTable) → IsHashTable at root a → entry_bytes (map_of a) ≡ byte_count (hash.entries a)
unfolding map_of
bytes_are a h = map_bytes (hash.entries a) (once h)

-- PUT
put_is : (value : List ℕ) (m : Entries) (key : List ℕ) (o : Option (List ℕ)) → length value ≤ 1024 → ◌≡◌ {A = Outcome × Entries} (let r = put_value value o in (r.0, updated m key r.1)) (Ok (put_reply o), insert m key value)
put_is value m key o short =
    let test : nat_lt 1024 (length value) ≡ false = grind (arith, nat_tests) in
    ap (λ (b : Bool). (let r : Outcome × Update = cond b (Err TooLong, Stays) (Ok (put_reply o), Becomes value) in (r.0, updated m key r.1))) test

pub put_at : (m : Entries) (key value : List ℕ) → 1 ≤ length key → length key ≤ 128 → length value ≤ 1024 → at_key key (put_value value) m ≡ (Ok (put_reply (get m key)), insert m key value)
put_at m key value some few short = at_this_key key (put_value value) m some few ∙ put_is value m key (get m key) short

pub put_long : (m : Entries) (key value : List ℕ) → 1 ≤ length key → length key ≤ 128 → 1024 < length value → (at_key key (put_value value) m).0 ≡ Err TooLong
put_long m key value some few long =
    let test : nat_lt 1024 (length value) ≡ true = grind (arith, nat_tests) in
    ap (λ (r : Outcome × Entries). r.0) (at_this_key key (put_value value) m some few)
    ∙ ap (λ (b : Bool). (let r : Outcome × Update = cond b (Err TooLong, Stays) (Ok (put_reply (get m key)), Becomes value) in r.0)) test

pub put_on : (t : Operations) (a : HashTable) (key value : List ℕ) → 1 ≤ length key → length key ≤ 128 → length value ≤ 1024 → on t (Put key value) (Some (AsTable (map_of a))) ≡ (Ok (put_reply (value_at a key)), Some (AsTable (insert (map_of a) key value)))
put_on t a key value some few short =
    changed_table (at_key key (put_value value) (map_of a)) (Ok (put_reply (value_at a key))) (insert (map_of a) key value)
    (put_at (map_of a) key value some few short ∙ ap (λ (o : Option (List ℕ)). (let r : Outcome × Entries = (Ok (put_reply o), insert (map_of a) key value) in r)) (get_map a key))

-- the map with the entry
pub with_entry : {split new : Bool} (a a' : HashTable) (key value : List ℕ) → table.IsPut key value split new a a' → map_of a' ≡ insert (map_of a) key value
with_entry a a' key value p = same_entries (map_of a') (insert (map_of a) key value) (λ q.
    get_map a' q
    ∙ (ap (λ (f : List ℕ → Option (List ℕ)). f q) p.values
    ∙ sym (get_put (map_of a) key value q ∙ ap (λ (o : Option (List ℕ)). cond (bytes_eq key q) (Some value) o) (get_map a q))))

no_empty : (key : List ℕ) → 1 ≤ length key → bytes_eq key [] ≡ false
no_empty [] some = absurd (omega arith)
no_empty (x ∷ key) some = refl

pub none_with : {split new : Bool} (a a' : HashTable) (key value : List ℕ) → 1 ≤ length key → table.IsPut key value split new a a' → value_at a [] ≡ None → value_at a' [] ≡ None
none_with a a' key value some p none = ap (λ (f : List ℕ → Option (List ℕ)). f []) p.values ∙ (ap (λ (b : Bool). cond b (Some value) (value_at a [])) (no_empty key some) ∙ none)

-- what it takes
pub put_taken : {old new : Space} {root : ℕ} {key value : List ℕ} {was : Bool} {a a' : HashTable} (o : Option (List ℕ)) → value_at a key ≡ o → table.Turns old new root a a' → table.IsPut key value true was a a' → HasTaken (needed_put o) old new
put_taken {a = a} {a' = a'} None is turns p = let few = p.few in pages_taken (pages_alone 12) (page_count a) (page_count a') (turns.pages).exactly turns.bands (omega arith)
put_taken {a = a} {a' = a'} (Some old) is turns p =
    let few = (p.entered).few in
    let old_key = p.was_new ∙ ap (λ (o : Option (List ℕ)). is_none o) is in
    let same : page_count a' ≡ page_count p.before_split = ap page_count (p.whole (λ s n. (let e : true ≡ false = sym n ∙ old_key in cc))) in
    pages_taken (record { pages = 2; bands = 0; reserve = 1 }) (page_count a) (page_count a') (turns.pages).exactly turns.bands (omega (arith, few, same))

some_put : (name key : List ℕ) (o : Option (List ℕ)) (note : List ℕ) → note ≡ note_bytes name (noted_put key o) → note ≡ [] → ⊥
some_put name key None note is = noted_some name (WasPut key) tt is
some_put name key (Some old) note is = noted_some name (WasOver key old) tt is

pub put_done : {old new : Space} {s : Contents} {root : ℕ} {a a' : HashTable} (t : Operations) (by : ℕ) (name key value note : List ℕ) (was : Bool) (o : Option (List ℕ)) → IsContents old s → (f : IsAt kinds.Table s name root) → s.body root ≡ ATable a → 1 ≤ length key → length key ≤ 128 → length value ≤ 1024 → value_at a [] ≡ None → value_at a key ≡ o → table.Turns old new root a a' → table.IsPut key value true was a a' → note ≡ note_bytes name (noted_put key o) → IsDone t by name (Put key value) (Ok (put_reply o)) note old new s (with_body root (ATable a') s)
put_done {old} {new} {s} {root} {a} {a'} t by name key value note was o h f is some few short none there_is turns p noted_is =
    let found = get_map a key ∙ there_is in
    table_done t by name (Put key value) (put_reply o) (insert (map_of a) key value) note h f is turns (none_with a a' key value some p none)
    (put_on t a key value some few short ∙ ap (λ (x : Option (List ℕ)). (let c : Change = (Ok (put_reply x), Some (AsTable (insert (map_of a) key value))) in c)) there_is)
    (with_entry a a' key value p)
    (p.peak ∙ ap (λ (n : ℕ). max a.peak n) (sym (bytes_are a' turns.table) ∙ ap entry_bytes (with_entry a a' key value p)))
    (λ r. refl)
    (subst (λ (x : Option (List ℕ)). HasTaken (needed_put x) old new) (sym found) (put_taken o there_is turns p))
    (noted_is ∙ ap (λ (x : Option (List ℕ)). note_bytes name (noted_put key x)) (sym found))
    (some_put name key o note noted_is)

-- an entry may be put
page_zero : {at : ℕ → Option Sheet} {c : Catalog} → IsCatalog at c → IsSome (at 0)
page_zero h = let page = h.raw.page 0 0 h.raw.first in subst (λ (o : Option Sheet). IsSome o) (sym page.is) refl

two_pages : (o : Option (List ℕ)) → 2 ≤ (needed_put o).pages
two_pages None = omega arith
two_pages (Some old) = omega arith

pub can_put : {v : View} {s : Contents} {name : List ℕ} {root : ℕ} {a : HashTable} (t : Operations) (key value : List ℕ) → IsContents v.space s → (f : IsAt kinds.Table s name root) → s.body root ≡ ATable a → IsHashTable v.space.pages.at root a → 1 ≤ length key → length key ≤ 128 → length value ≤ 1024 → IsFresh v → HasRoomFor t v name (Put key value) s → table.CanPut v key true a
can_put {v} {s} {name} {root} {a} t key value h f is table some few short fresh room =
    let under = table_under f is in
    let ok = ap (λ (th : Option Thing). (on t (Put key value) (plain th)).0) under ∙ ap (λ (c : Change). c.0) (put_on t a key value some few short) in
    let free : (needed_put (get (map_of a) key)).pages ≤ v.space.pages.free = subst (λ (th : Option Thing). (needed (Put key value) th).pages ≤ v.space.pages.free) under (room.room (ok_is _ _ ok)).pages in
    let here : (needed_put (value_at a key)).pages ≤ v.space.pages.free = subst (λ (o : Option (List ℕ)). (needed_put o).pages ≤ v.space.pages.free) (get_map a key) free in
    let two = two_pages (value_at a key) in
    record {
      free = omega (arith, here, two);
      free_split = λ split none. (let twelve : 12 ≤ v.space.pages.free = subst (λ (o : Option (List ℕ)). (needed_put o).pages ≤ v.space.pages.free) none here in omega (arith, twelve));
      may_take = fresh.may_take;
      may_grow = fresh_grow fresh h f is table;
      zero = page_zero h.catalog;
    }

-- PUTTING BACK
pub can_put_back : {v : View} {s : Contents} {name : List ℕ} {root : ℕ} {a : HashTable} (key : List ℕ) → IsContents v.space s → IsAt kinds.Table s name root → s.body root ≡ ATable a → IsHashTable v.space.pages.at root a → IsFresh v → 1 ≤ v.space.pages.free → table.CanPut v key false a
can_put_back {s = s} key h f is table fresh free = record {
  free = free;
  free_split = λ split none. absurd (cc);
  may_take = fresh.may_take;
  may_grow = fresh_grow fresh h f is table;
  zero = page_zero h.catalog;
}

-- where the entry was put back, its key is one and the map has it now
pub put_back : (m : Entries) (key value : List ℕ) (reply : Reply) → (at_key key (put_value value) m).0 ≡ Ok reply → length value ≤ 1024 → (1 ≤ length key) × ((at_key key (put_value value) m).1 ≡ insert m key value)
put_back m key value reply ok small = elim (cases_eq (length key) 0) [
  | inl e ↦ absurd (not_both (at_key key (put_value value) m).0 reply OutOfRange ok (empty_key key (put_value value) m e))
  | inr ne ↦ elim (cases_lt 128 (length key)) [
    | inl long ↦ absurd (not_both (at_key key (put_value value) m).0 reply TooLong ok (long_key key (put_value value) m long))
    | inr short ↦ (omega (arith, ne), ap (λ (r : Outcome × Entries). r.1) (put_at m key value (omega (arith, ne)) short small))
  ]
]

pub undo_over_done : {old new : Space} {s : Contents} {root : ℕ} {a a' : HashTable} (name key value : List ℕ) (was : Bool) (th : Option Thing) → IsContents old s → (f : IsAt kinds.Table s name root) → s.body root ≡ ATable a → value_at a [] ≡ None → length value ≤ 1024 → carried_table (at_key key (put_value value)) (get (reading s).things name) ≡ Some th → table.Turns old new root a a' → table.IsPut key value false was a a' → IsUndone (WasOver key value) name old new s th (with_body root (ATable a') s)
undo_over_done {old} {new} {s} {root} {a} {a'} name key value was th h f is none small e turns p =
    let here : carried_table (at_key key (put_value value)) (Some (thing_of root (ATable a))) ≡ Some th = ap (carried_table (at_key key (put_value value))) (sym (table_under f is)) ∙ e in
    let w = was_done (at_key key (put_value value) (map_of a)).0 (Some (There (AsTable (at_key key (put_value value) (map_of a)).1) (record { root = root; peak = a.peak; bands = [] }))) th here in
    let one = put_back (map_of a) key value w.0 w.1 small in
    let map = one.1 ∙ sym (with_entry a a' key value p) in
    let few = (p.entered).few in
    let same : page_count a' ≡ page_count p.before_split = ap page_count (p.whole (λ s n. cc)) in
    body_undone (WasOver key value) refl name th (ATable a') h f
    (subst (λ (b : Body). BodyTurns old new kinds.Table root b (ATable a')) (sym is) (table_turns turns (none_with a a' key value one.0 p none)))
    (w.2 ∙ table_thing root a.peak a'.peak (at_key key (put_value value) (map_of a)).1 (map_of a') map (sym p.peak))
    (pages_taken (pages_alone 1) (page_count a) (page_count a') (turns.pages).exactly turns.bands (omega (arith, few, same)))
