-- What the verbs on tables come to.
use Rattle.std.proofs.Common.{◌≡◌, ◌≢◌, ℕ, ◌<◌, ◌≤◌, ◌==◌, Bool, true, false, cond, List, [], ◌∷◌, length, Option, Some, None, option_map, Ok, Err, refl, sym, ap, ◌∙◌, subst, arith}
use Rattle.std.specs.Prelude.{nat_lt, is_ok}
use Rattle.std.specs.Str.{bytes_eq}
use Rattle.std.specs.FinMap.{get, remove}
use Rattle.std.proofs.lemmas.Bool.Decides.{nat_tests}
use Rattle.sg_ops.specs.Table.{Table as Operations}
use Rattle.sg_hash.specs.Table.{HashTable, value_at, page_count}
use Rattle.sg_hash.specs.Calls as table
use Rattle.sg_catalog.specs.Catalog.{rows, is_there}
use Rattle.sg_catalog.specs.declared.row.ObjectKind.{ObjectKind}
use Rattle.sg_catalog.specs.declared.row.ObjectKind.TheVariants as kinds
use Rattle.sg_model.specs.declared.reason.Reason.{Reason}
use Rattle.sg_model.specs.declared.reason.Reason.TheVariants.{NoObject, WrongKind, Exists, OutOfRange, NoOperation, Declined, TooLong, TooMany}
use Rattle.sg_model.specs.Objects.{Entries}
use Rattle.sg_model.specs.Objects.Object.{Table as AsTable}
use Rattle.sg_model.specs.Step.{on, on_table, at_key, Update, updated, found, del_value, Change}
use Rattle.sg_model.specs.Verb.{Verb, Outcome, Reply}
use Rattle.sg_model.specs.Verb.Verb.{Find, Del}
use Rattle.sg_model.specs.Verb.Reply.{Done, Absent, Bytes}
use Rattle.sg_model.proofs.Parts.{get_del, same_entries}
use Rattle.sg_space.specs.View.{Space}
use Rattle.sg_reading.specs.Reading.{Thing, Reading, plain, slot}
use Rattle.sg_reading.specs.Reading.Thing.{There}
use Rattle.sg_reading.specs.Did.{slot_after, grown, risen}
use Rattle.sg_reading.specs.Did as model
use Rattle.sg_reading.specs.Back.Undoing.{WasOver}
use Rattle.sg_reading.specs.Noted.{noted, noted_del}
use Rattle.sg_contents.specs.Standing.{Body, Contents, IsContents, IsBody, IsTable}
use Rattle.sg_contents.specs.Standing.Body.{AnArray, ATable, ABlob}
use Rattle.sg_contents.specs.Changes.{with_body, BodyTurns}
use Rattle.sg_contents.specs.Meaning.{reading, thing_of, thing_at, object_of, map_of}
use Rattle.sg_contents.proofs.Among.{found_among}
use Rattle.sg_contents.proofs.Reading.{get_thing, get_map}
use Rattle.sg_contents.proofs.Standing.{nothing_owned}
use Rattle.sg_objects.specs.Done.{IsDone, done_by}
use Rattle.sg_objects.specs.Found.{IsAt, IsMissing}
use Rattle.sg_objects.specs.Needs.{needed, needed_del, HasTaken}
use Rattle.sg_objects.specs.Notes.{note_bytes}
use Rattle.sg_objects.proofs.Bodies.{read_done, body_done, none_taken, noted_some, pages_taken}
use Rattle.sg_objects.proofs.Located.{thing_under, body_at}
use Rattle.sg_objects.proofs.Refused.{nothing_under}

-- THE TABLE UNDER A NAME
pub table_body : (space : Space) (root : ℕ) (b : Body) → IsBody space kinds.Table root b → (t : HashTable) × (b ≡ ATable t) × IsTable space.pages.at root t
table_body space root (ATable t) h = (t, refl, h)
table_body space root (AnArray a) h = absurd h
table_body space root (ABlob b) h = absurd h

pub table_there : {space : Space} {s : Contents} {name : List ℕ} {root : ℕ} → IsContents space s → IsAt kinds.Table s name root → (t : HashTable) × (s.body root ≡ ATable t) × IsTable space.pages.at root t
table_there {space} {s} {name} {root} h f = table_body space root (s.body root) (body_at h f)

pub table_under : {s : Contents} {name : List ℕ} {root : ℕ} {t : HashTable} → IsAt kinds.Table s name root → s.body root ≡ ATable t → get (reading s).things name ≡ Some (thing_of root (ATable t))
table_under {s} {name} {root} {t} f is = thing_under f ∙ ap (λ (b : Body). Some (thing_of root b)) is

-- A VERB ON A TABLE, WHERE THERE IS NONE
not_table : (space : Space) (root : ℕ) (kind : ObjectKind) (b : Body) (change : Entries → Outcome × Entries) → kind ≢ kinds.Table → IsBody space kind root b → (on_table change (Some (object_of b))).0 ≡ Err WrongKind
not_table space root kinds.Table b change ne h = absurd (ne refl)
not_table space root kind (AnArray a) change ne h = refl
not_table space root kind (ABlob b) change ne h = refl
not_table space root kinds.Array (ATable t) change ne h = absurd h
not_table space root kinds.Blob (ATable t) change ne h = absurd h

pub missing_table : {space : Space} (s : Contents) (name : List ℕ) (change : Entries → Outcome × Entries) (reason : Reason) → IsContents space s → IsMissing kinds.Table s name reason → (on_table change (plain (get (reading s).things name))).0 ≡ Err reason
missing_table s name change NoObject h m = ap (λ (th : Option Thing). (on_table change (plain th)).0) (nothing_under s name m)
missing_table {space} s name change WrongKind h m =
    ap (λ (th : Option Thing). (on_table change (plain th)).0) (get_thing s name ∙ ap (option_map (thing_at s.body)) m.found)
    ∙ not_table space (m.row).root.0 (m.row).kind (s.body (m.row).root.0) change m.kind_is (h.body m.row (found_among (is_there name) (rows s.catalog) m.row m.found))
missing_table s name change Exists h m = absurd m
missing_table s name change OutOfRange h m = absurd m
missing_table s name change NoOperation h m = absurd m
missing_table s name change Declined h m = absurd m
missing_table s name change TooLong h m = absurd m
missing_table s name change TooMany h m = absurd m

-- KEYS
module _ (key : List ℕ) (decide : Option (List ℕ) → Outcome × Update) (m : Entries) where
  pub empty_key : length key ≡ 0 → (at_key key decide m).0 ≡ Err OutOfRange
  empty_key e =
      let test : (length key == 0) ≡ true = grind (arith, nat_tests) in
      ap (λ (b : Bool). (cond {A = Outcome × Entries} b (Err OutOfRange, m) (cond {A = Outcome × Entries} (nat_lt 128 (length key)) (Err TooLong, m) (let r = decide (get m key) in (r.0, updated m key r.1)))).0) test

  some_key : 1 ≤ length key → at_key key decide m ≡ cond {A = Outcome × Entries} (nat_lt 128 (length key)) (Err TooLong, m) (let r = decide (get m key) in (r.0, updated m key r.1))
  some_key some =
      let test : (length key == 0) ≡ false = grind (arith, nat_tests) in
      ap (λ (b : Bool). cond {A = Outcome × Entries} b (Err OutOfRange, m) (cond {A = Outcome × Entries} (nat_lt 128 (length key)) (Err TooLong, m) (let r = decide (get m key) in (r.0, updated m key r.1)))) test

  pub long_key : 128 < length key → (at_key key decide m).0 ≡ Err TooLong
  long_key long =
      let test : nat_lt 128 (length key) ≡ true = grind (arith, nat_tests) in
      ap (λ (r : Outcome × Entries). r.0) (some_key (omega arith)) ∙ ap (λ (b : Bool). (cond {A = Outcome × Entries} b (Err TooLong, m) (let r = decide (get m key) in (r.0, updated m key r.1))).0) test

  pub at_this_key : 1 ≤ length key → length key ≤ 128 → at_key key decide m ≡ (let r = decide (get m key) in (r.0, updated m key r.1))
  at_this_key some few =
      let test : nat_lt 128 (length key) ≡ false = grind (arith, nat_tests) in
      some_key some ∙ ap (λ (b : Bool). cond {A = Outcome × Entries} b (Err TooLong, m) (let r = decide (get m key) in (r.0, updated m key r.1))) test

pub refuses_table : (name : List ℕ) {s : Contents} {root : ℕ} {t : HashTable} (change : Entries → Outcome × Entries) (reason : Reason) → IsAt kinds.Table s name root → s.body root ≡ ATable t → (change (map_of t)).0 ≡ Err reason → (on_table change (plain (get (reading s).things name))).0 ≡ Err reason
refuses_table name change reason f is e = ap (λ (th : Option Thing). (on_table change (plain th)).0) (table_under f is) ∙ e

-- WHAT A VERB LEAVES OF A TABLE
pub table_thing : (root peak peak' : ℕ) (m m' : Entries) → m ≡ m' → peak ≡ peak' → ◌≡◌ {A = Option Thing} (Some (There (AsTable m) (record { root = root; peak = peak; bands = [] }))) (Some (There (AsTable m') (record { root = root; peak = peak'; bands = [] })))
table_thing root peak peak' m m' e p = λ k. Some (There (AsTable (e k)) (record { root = root; peak = p k; bands = [] }))

pub changed_table : (r : Outcome × Entries) (o : Outcome) (m : Entries) → r ≡ (o, m) → ◌≡◌ {A = Change} (r.0, Some (AsTable r.1)) (o, Some (AsTable m))
changed_table r o m e = ap (λ (q : Outcome × Entries). (let c : Change = (q.0, Some (AsTable q.1)) in c)) e

table_left : (t : Operations) (d : model.Did) (name : List ℕ) (verb : Verb) (root : ℕ) (r : Reading) (a a' : HashTable) (reply : Reply) (m : Entries) → d.bands ≡ [] → get r.things name ≡ Some (thing_of root (ATable a)) → on t verb (Some (AsTable (map_of a))) ≡ (Ok reply, Some (AsTable m)) → map_of a' ≡ m → a'.peak ≡ risen verb true (AsTable m) a.peak → (slot_after t d verb (slot r name)).thing ≡ Some (thing_of root (ATable a'))
table_left t d name verb root r a a' reply m none under is map peak =
    ap (λ (th : Option Thing). (let c : Change = on t verb (plain th) in grown d verb (is_ok c.0) th c.1)) under
    ∙ (ap (λ (c : Change). grown d verb (is_ok c.0) (Some (thing_of root (ATable a))) c.1) is
    ∙ (ap (λ (bs : List ℕ). (let o : Option Thing = Some (There (AsTable m) (record { root = root; peak = risen verb true (AsTable m) a.peak; bands = bs })) in o)) none
    ∙ table_thing root (risen verb true (AsTable m) a.peak) a'.peak m (map_of a') (sym map) (sym peak)))

-- a verb that got a reply and has changed nothing
pub table_read : {old new : Space} {s : Contents} {root : ℕ} {a : HashTable} (t : Operations) (by : ℕ) (name : List ℕ) (verb : Verb) (reply : Reply) (note : List ℕ) → new ≡ old → IsContents old s → (f : IsAt kinds.Table s name root) → s.body root ≡ ATable a → on t verb (Some (AsTable (map_of a))) ≡ (Ok reply, Some (AsTable (map_of a))) → a.peak ≡ risen verb true (AsTable (map_of a)) a.peak → ((r : ℕ) → (slot_after t (done_by (reading s) by name verb 0 []) verb (slot (reading s) name)).buried r ≡ get (reading s).tombs (r ∷ name)) → HasTaken (needed verb (Some (thing_of root (ATable a)))) old new → note ≡ note_bytes name (noted verb (Some (thing_of root (ATable a)))) → IsDone t by name verb (Ok reply) note old new s s
table_read {old} {new} {s} {root} {a} t by name verb reply note same h f is on_is peak buried taken noted_is =
    let under = table_under f is in
    read_done t by name verb reply note same h
    (ap (λ (th : Option Thing). (on t verb (plain th)).0) under ∙ ap (λ (c : Change). c.0) on_is)
    (table_left t (done_by (reading s) by name verb 0 []) name verb root (reading s) a a reply (map_of a) refl under on_is refl peak ∙ sym under)
    buried
    (subst (λ (th : Option Thing). HasTaken (needed verb th) old new) (sym under) taken)
    (noted_is ∙ ap (λ (th : Option Thing). note_bytes name (noted verb th)) (sym under))

-- a table that turned
pub table_turns : {old new : Space} {root : ℕ} {a a' : HashTable} → table.Turns old new root a a' → value_at a' [] ≡ None → BodyTurns old new kinds.Table root (ATable a) (ATable a')
table_turns turns none = record { body = record { table = turns.table; no_empty_key = none }; pages = turns.pages; bands = nothing_owned turns.bands }

pub table_done : {old new : Space} {s : Contents} {root : ℕ} {a a' : HashTable} (t : Operations) (by : ℕ) (name : List ℕ) (verb : Verb) (reply : Reply) (m : Entries) (note : List ℕ) → IsContents old s → (f : IsAt kinds.Table s name root) → s.body root ≡ ATable a → table.Turns old new root a a' → value_at a' [] ≡ None → on t verb (Some (AsTable (map_of a))) ≡ (Ok reply, Some (AsTable m)) → map_of a' ≡ m → a'.peak ≡ risen verb true (AsTable m) a.peak → ((r : ℕ) → (slot_after t (done_by (reading s) by name verb 0 []) verb (slot (reading s) name)).buried r ≡ get (reading s).tombs (r ∷ name)) → HasTaken (needed verb (Some (thing_of root (ATable a)))) old new → note ≡ note_bytes name (noted verb (Some (thing_of root (ATable a)))) → (note ≡ [] → ⊥) → IsDone t by name verb (Ok reply) note old new s (with_body root (ATable a') s)
table_done {old} {new} {s} {root} {a} {a'} t by name verb reply m note h f is turns none on_is map peak buried taken noted_is some =
    let under = table_under f is in
    body_done t by name verb reply (ATable a') [] note h f
    (subst (λ (b : Body). BodyTurns old new kinds.Table root b (ATable a')) (sym is) (table_turns turns none))
    (ap (λ (th : Option Thing). (on t verb (plain th)).0) under ∙ ap (λ (c : Change). c.0) on_is)
    (λ z. refl)
    (table_left t (done_by (reading s) by name verb 0 []) name verb root (reading s) a a' reply m refl under on_is map peak)
    buried
    (subst (λ (th : Option Thing). HasTaken (needed verb th) old new) (sym under) taken)
    (noted_is ∙ ap (λ (th : Option Thing). note_bytes name (noted verb th)) (sym under))
    some

-- FIND
find_absent : (t : Operations) (a : HashTable) (key : List ℕ) → 1 ≤ length key → length key ≤ 128 → value_at a key ≡ None → on t (Find key) (Some (AsTable (map_of a))) ≡ (Ok Absent, Some (AsTable (map_of a)))
find_absent t a key some few none = changed_table (at_key key found (map_of a)) (Ok Absent) (map_of a) (at_this_key key found (map_of a) some few ∙ ap (λ (o : Option (List ℕ)). (let r = found o in (r.0, updated (map_of a) key r.1))) (get_map a key ∙ none))

find_value : (t : Operations) (a : HashTable) (key value : List ℕ) → 1 ≤ length key → length key ≤ 128 → value_at a key ≡ Some value → on t (Find key) (Some (AsTable (map_of a))) ≡ (Ok (Bytes value), Some (AsTable (map_of a)))
find_value t a key value some few is = changed_table (at_key key found (map_of a)) (Ok (Bytes value)) (map_of a) (at_this_key key found (map_of a) some few ∙ ap (λ (o : Option (List ℕ)). (let r = found o in (r.0, updated (map_of a) key r.1))) (get_map a key ∙ is))

pub found_none : {old new : Space} {s : Contents} {root : ℕ} {a : HashTable} (t : Operations) (by : ℕ) (name key note : List ℕ) → new ≡ old → IsContents old s → (f : IsAt kinds.Table s name root) → s.body root ≡ ATable a → 1 ≤ length key → length key ≤ 128 → value_at a key ≡ None → note ≡ [] → IsDone t by name (Find key) (Ok Absent) note old new s s
found_none {a = a} t by name key note same h f is some few none empty = table_read t by name (Find key) Absent note same h f is (find_absent t a key some few none) refl (λ r. refl) (none_taken same) empty

pub found_some : {old new : Space} {s : Contents} {root : ℕ} {a : HashTable} (t : Operations) (by : ℕ) (name key value note : List ℕ) → new ≡ old → IsContents old s → (f : IsAt kinds.Table s name root) → s.body root ≡ ATable a → 1 ≤ length key → length key ≤ 128 → value_at a key ≡ Some value → note ≡ [] → IsDone t by name (Find key) (Ok (Bytes value)) note old new s s
found_some {a = a} t by name key value note same h f is some few there_is empty = table_read t by name (Find key) (Bytes value) note same h f is (find_value t a key value some few there_is) refl (λ r. refl) (none_taken same) empty

-- DEL
del_absent : (t : Operations) (a : HashTable) (key : List ℕ) → 1 ≤ length key → length key ≤ 128 → value_at a key ≡ None → on t (Del key) (Some (AsTable (map_of a))) ≡ (Ok Absent, Some (AsTable (map_of a)))
del_absent t a key some few none = changed_table (at_key key del_value (map_of a)) (Ok Absent) (map_of a) (at_this_key key del_value (map_of a) some few ∙ ap (λ (o : Option (List ℕ)). (let r = del_value o in (r.0, updated (map_of a) key r.1))) (get_map a key ∙ none))

del_there : (t : Operations) (a : HashTable) (key value : List ℕ) → 1 ≤ length key → length key ≤ 128 → value_at a key ≡ Some value → on t (Del key) (Some (AsTable (map_of a))) ≡ (Ok Done, Some (AsTable (remove (map_of a) key)))
del_there t a key value some few is = changed_table (at_key key del_value (map_of a)) (Ok Done) (remove (map_of a) key) (at_this_key key del_value (map_of a) some few ∙ ap (λ (o : Option (List ℕ)). (let r = del_value o in (r.0, updated (map_of a) key r.1))) (get_map a key ∙ is))

pub deleted_none : {old new : Space} {s : Contents} {root : ℕ} {a : HashTable} (t : Operations) (by : ℕ) (name key note : List ℕ) → new ≡ old → IsContents old s → (f : IsAt kinds.Table s name root) → s.body root ≡ ATable a → 1 ≤ length key → length key ≤ 128 → value_at a key ≡ None → note ≡ [] → IsDone t by name (Del key) (Ok Absent) note old new s s
deleted_none {old} {new} {a = a} t by name key note same h f is some few none empty = table_read t by name (Del key) Absent note same h f is (del_absent t a key some few none) refl (λ r. refl) (subst (λ (o : Option (List ℕ)). HasTaken (needed_del o) old new) (sym (get_map a key ∙ none)) (none_taken same)) (empty ∙ ap (λ (o : Option (List ℕ)). note_bytes name (noted_del key o)) (sym (get_map a key ∙ none)))

-- the map without the key
pub without_key : (a a' : HashTable) (key : List ℕ) (was : Bool) → table.IsDeleted key was a a' → map_of a' ≡ remove (map_of a) key
without_key a a' key was d = same_entries (map_of a') (remove (map_of a) key) (λ q.
    get_map a' q
    ∙ (ap (λ (f : List ℕ → Option (List ℕ)). f q) d.values
    ∙ sym (get_del (map_of a) key q ∙ ap (λ (o : Option (List ℕ)). cond (bytes_eq key q) None o) (get_map a q))))

pub none_still : (a a' : HashTable) (key : List ℕ) (was : Bool) → table.IsDeleted key was a a' → value_at a [] ≡ None → value_at a' [] ≡ None
none_still a a' key was d none = ap (λ (f : List ℕ → Option (List ℕ)). f []) d.values ∙ by (bytes_eq key [])
  where
    by : (b : Bool) → cond b None (value_at a []) ≡ None
    by true = refl
    by false = none

-- the page that a deleted entry's undoing wants is kept
deleted_taken : {old new : Space} {root : ℕ} {key : List ℕ} {was : Bool} {a a' : HashTable} → table.Turns old new root a a' → table.IsDeleted key was a a' → HasTaken (record { pages = 1; bands = 0; reserve = 1 }) old new
deleted_taken {a = a} {a' = a'} turns d = let few = d.few in pages_taken (record { pages = 1; bands = 0; reserve = 1 }) (page_count a) (page_count a') (turns.pages).exactly turns.bands (omega arith)

pub deleted_done : {old new : Space} {s : Contents} {root : ℕ} {a a' : HashTable} (t : Operations) (by : ℕ) (name key value note : List ℕ) (was : Bool) → IsContents old s → (f : IsAt kinds.Table s name root) → s.body root ≡ ATable a → 1 ≤ length key → length key ≤ 128 → value_at a [] ≡ None → value_at a key ≡ Some value → table.Turns old new root a a' → table.IsDeleted key was a a' → note ≡ note_bytes name (WasOver key value) → IsDone t by name (Del key) (Ok Done) note old new s (with_body root (ATable a') s)
deleted_done {old} {new} {a = a} {a' = a'} t by name key value note was h f is some few none there_is turns d noted_is =
    table_done t by name (Del key) Done (remove (map_of a) key) note h f is turns (none_still a a' key was d none) (del_there t a key value some few there_is) (without_key a a' key was d) d.peak (λ r. refl)
    (subst (λ (o : Option (List ℕ)). HasTaken (needed_del o) old new) (sym (get_map a key ∙ there_is)) (deleted_taken turns d))
    (noted_is ∙ ap (λ (o : Option (List ℕ)). note_bytes name (noted_del key o)) (sym (get_map a key ∙ there_is)))
    (noted_some name (WasOver key value) tt noted_is)
