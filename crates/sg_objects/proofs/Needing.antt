-- What verbs need, and that they are accepted.
use Rattle.std.proofs.Common.{◌≡◌, ℕ, ◌-◌, ◌<◌, ◌≤◌, true, false, List, length, Option, Some, None, option_map, is_some, Result, Ok, Err, IsOk, IfOk, refl, sym, ap, ◌∙◌, subst, arith}
use Rattle.std.specs.FinMap.{get}
use Rattle.sg_ops.specs.Table.{Table as Operations}
use Rattle.sg_catalog.specs.Catalog.{rows, there}
use Rattle.sg_catalog.specs.declared.row.ObjectKind.TheVariants as kinds
use Rattle.sg_catalog.specs.declared.row.Row.{Row}
use Rattle.sg_hash.specs.Table.{HashTable, value_at}
use Rattle.sg_model.specs.declared.reason.Reason.TheVariants.{NoObject}
use Rattle.sg_model.specs.Objects.{Row as Items, Entries}
use Rattle.sg_model.specs.Step.{on, found, del_value, len}
use Rattle.sg_model.specs.Verb.{Verb, Outcome, Reply}
use Rattle.sg_model.specs.Verb.Verb.{MakeArray, MakeTable, Discard, Push, Pop, Set, Get, Len, Apply, Put, Del, Find}
use Rattle.sg_model.specs.Verb.Reply.{Number}
use Rattle.sg_model.specs.SaidOps.{name_of, verb_of}
use Rattle.sg_model.specs.declared.op.Op.{Op}
use Rattle.sg_model.specs.declared.reason.Reason.{Reason}
use Rattle.sg_space.specs.declared.space.SpaceFault.{SpaceFault}
use Rattle.sg_space.specs.View.{View}
use Rattle.sg_reading.specs.Reading.{Thing, plain}
use Rattle.sg_contents.specs.Standing.{Contents, IfContents}
use Rattle.sg_contents.specs.Standing.Body.{AnArray, ATable}
use Rattle.sg_contents.specs.Meaning.{reading, thing_of, thing_at, map_of}
use Rattle.sg_contents.proofs.Reading.{get_map, get_thing}
use Rattle.sg_objects.specs.Found.{IsAt, IsArrayAt, CanPushTo, CanPopOf, HasItem, CanSetIn, CanApplyTo, CheckedBy}
use Rattle.sg_objects.specs.Needs.{needed, needed_put, needed_del, pages_alone}
use Rattle.sg_objects.specs.Needing.{HasNeed, needed_of}
use Rattle.sg_objects.specs.declared.need.Needs as code
use Rattle.sg_objects.proofs.Applying.{apply_row, can_apply, checked_err}
use Rattle.sg_objects.proofs.Doing.{ok_is, push_accepted}
use Rattle.sg_objects.proofs.Items.{some_there, pop_row, get_row, set_row}
use Rattle.sg_objects.proofs.Located.{array_under}
use Rattle.sg_objects.proofs.Making.{make_accepted}
use Rattle.sg_objects.proofs.Pushing.{items_of}
use Rattle.sg_objects.proofs.Putting.{put_on}
use Rattle.sg_objects.proofs.Refused.{nothing_under}
use Rattle.sg_objects.proofs.Tabled.{table_accepted}
use Rattle.sg_objects.proofs.Tables.{table_under, at_this_key}

pub need_by : {t : Operations} {name : List ℕ} {verb : Verb} {s : Contents} {n : code.Needs} (th : Option Thing) → get (reading s).things name ≡ th → IsOk (on t verb (plain th)).0 → needed_of n ≡ needed verb th → HasNeed t name verb s n
need_by {t} {name} {verb} th under ok e = record { accepted = subst (λ (x : Option Thing). IsOk (on t verb (plain x)).0) (sym under) ok; needs = e ∙ ap (needed verb) (sym under) }

-- MAKING AND DROPPING
pub array_need : {s : Contents} {name : List ℕ} {n : code.Needs} (t : Operations) (size : ℕ) → there name (rows s.catalog) ≡ None → 1 ≤ size → size ≤ 256 → needed_of n ≡ pages_alone 2 → HasNeed t name (MakeArray size) s n
array_need {s} {name} t size none some few e = record { accepted = ok_is _ _ (make_accepted s name t size none some few); needs = e }

pub table_need : {s : Contents} {name : List ℕ} {n : code.Needs} (t : Operations) → there name (rows s.catalog) ≡ None → needed_of n ≡ pages_alone 6 → HasNeed t name MakeTable s n
table_need {s} {name} t none e = record { accepted = ok_is _ _ (table_accepted s name t none); needs = e }

pub discard_need : {s : Contents} {name : List ℕ} {n : code.Needs} (t : Operations) → (row : Row) × (there name (rows s.catalog) ≡ Some row) → needed_of n ≡ pages_alone 0 → HasNeed t name Discard s n
discard_need {s} {name} t f e = need_by (Some (thing_at s.body f.0)) (get_thing s name ∙ ap (option_map (thing_at s.body)) f.1) refl e

pub discard_refused : (s : Contents) (name : List ℕ) (t : Operations) → there name (rows s.catalog) ≡ None → (on t Discard (plain (get (reading s).things name))).0 ≡ Err NoObject
discard_refused s name t none = ap (λ (x : Option Thing). (on t Discard (plain x)).0) (nothing_under s name none)

-- ARRAYS
on_row : {s : Contents} {name : List ℕ} {n : code.Needs} {x : _} (t : Operations) (verb : Verb) (reply : Reply) (f : IsArrayAt name s x) → (on t verb (plain (Some (thing_of (x.root).0 (AnArray f.array))))).0 ≡ Ok reply → needed_of n ≡ needed verb (Some (thing_of (x.root).0 (AnArray f.array))) → HasNeed t name verb s n
on_row {x = x} t verb reply f is e = need_by (Some (thing_of (x.root).0 (AnArray f.array))) (array_under f) (ok_is _ reply is) e

pub push_need : {s : Contents} {name value : List ℕ} {n : code.Needs} {x : _} (t : Operations) → CanPushTo name (length value) s x → needed_of n ≡ pages_alone 2 → HasNeed t name (Push value) s n
push_need {value = value} t f e = record { accepted = ok_is _ _ (push_accepted t value f); needs = e }

pub pop_need : {s : Contents} {name : List ℕ} {n : code.Needs} {x : _} (t : Operations) → CanPopOf name s x → needed_of n ≡ pages_alone 0 → HasNeed t name Pop s n
pop_need t f e =
    let a = f.at.array in
    let some : 0 < length a.items = (let e = f.at.len_is in let some = f.some in omega arith) in
    let last = some_there a.items (length a.items - 1) (omega arith) in
    on_row t Pop _ f.at (ap (λ (r : Outcome × Items). r.0) (pop_row (items_of a) last.0 some last.1)) e

pub get_need : {s : Contents} {name : List ℕ} {i : ℕ} {n : code.Needs} {x : _} (t : Operations) → HasItem name i s x → needed_of n ≡ pages_alone 0 → HasNeed t name (Get i) s n
get_need {i = i} t f e =
    let a = f.at.array in
    let one = some_there a.items i (let e = f.at.len_is in let below = f.below in omega arith) in
    on_row t (Get i) _ f.at (ap (λ (r : Outcome × Items). r.0) (get_row (items_of a) i one.0 one.1)) e

pub set_need : {s : Contents} {name value : List ℕ} {i : ℕ} {n : code.Needs} {x : _} (t : Operations) → CanSetIn name i (length value) s x → needed_of n ≡ pages_alone 0 → HasNeed t name (Set i value) s n
set_need {value = value} {i = i} t f e =
    let a = f.at.array in
    let one = some_there a.items i (let e = f.at.len_is in let below = f.below in omega arith) in
    on_row t (Set i value) _ f.at (ap (λ (r : Outcome × Items). r.0) (set_row (items_of a) i one.0 value one.1 (f.fits ∙ f.at.size_is))) e

pub apply_need : {s : Contents} {name arg : List ℕ} {i number : ℕ} {n : code.Needs} {x : _} (t : Operations) → CanApplyTo t name i number arg s x → needed_of n ≡ pages_alone 0 → HasNeed t name (Apply i number arg) s n
apply_need {arg = arg} {i = i} {number = number} t f e =
    let a = f.at.array in
    let can = can_apply f in
    on_row t (Apply i number arg) _ f.at (ap (λ (r : Outcome × Items). r.0) (apply_row t i number arg (items_of a) can.item f.short can.is f.small can.accepted)) e

-- LENGTHS
pub len_need : {s : Contents} {name : List ℕ} {n : code.Needs} (t : Operations) (m : ℕ) → len (plain (get (reading s).things name)) ≡ Ok (Number m) → needed_of n ≡ pages_alone 0 → HasNeed t name Len s n
len_need t m is e = record { accepted = ok_is _ _ is; needs = e }

-- TABLES
found_ok : (o : Option (List ℕ)) → IsOk (found o).0
found_ok None = refl
found_ok (Some v) = refl

del_ok : (o : Option (List ℕ)) → IsOk (del_value o).0
del_ok None = refl
del_ok (Some v) = refl

pub find_need : {s : Contents} {name key : List ℕ} {root : ℕ} {a : HashTable} {n : code.Needs} (t : Operations) → IsAt kinds.Table s name root → s.body root ≡ ATable a → 1 ≤ length key → length key ≤ 128 → needed_of n ≡ pages_alone 0 → HasNeed t name (Find key) s n
find_need {key = key} {root = root} {a = a} t f is some few e =
    need_by (Some (thing_of root (ATable a))) (table_under f is)
    (subst (λ (r : Outcome × Entries). IsOk r.0) (sym (at_this_key key found (map_of a) some few)) (found_ok (get (map_of a) key))) e

pub del_need : {s : Contents} {name key : List ℕ} {root : ℕ} {a : HashTable} {n : code.Needs} (t : Operations) → IsAt kinds.Table s name root → s.body root ≡ ATable a → 1 ≤ length key → length key ≤ 128 → needed_of n ≡ needed_del (value_at a key) → HasNeed t name (Del key) s n
del_need {key = key} {root = root} {a = a} t f is some few e =
    need_by (Some (thing_of root (ATable a))) (table_under f is)
    (subst (λ (r : Outcome × Entries). IsOk r.0) (sym (at_this_key key del_value (map_of a) some few)) (del_ok (get (map_of a) key)))
    (e ∙ ap needed_del (sym (get_map a key)))

pub put_need : {s : Contents} {name key value : List ℕ} {root : ℕ} {a : HashTable} {n : code.Needs} (t : Operations) → IsAt kinds.Table s name root → s.body root ≡ ATable a → 1 ≤ length key → length key ≤ 128 → length value ≤ 1024 → needed_of n ≡ needed_put (value_at a key) → HasNeed t name (Put key value) s n
put_need {key = key} {value = value} {root = root} {a = a} t f is some few short e =
    need_by (Some (thing_of root (ATable a))) (table_under f is)
    (ok_is _ _ (ap (λ c. c.0) (put_on t a key value some few short)))
    (e ∙ ap needed_put (sym (get_map a key)))

-- by whether an entry was found
pub put_some : {v : Option (List ℕ)} (o : Option ℕ) (f : ℕ → List ℕ) → v ≡ option_map f o → is_some o ≡ true → needed_put v ≡ record { pages = 2; bands = 0; reserve = 1 }
put_some None f e s = cc
put_some (Some n) f e s = ap needed_put e

pub put_none : {v : Option (List ℕ)} (o : Option ℕ) (f : ℕ → List ℕ) → v ≡ option_map f o → is_some o ≡ false → needed_put v ≡ pages_alone 12
put_none None f e s = ap needed_put e
put_none (Some n) f e s = cc

pub del_some : {v : Option (List ℕ)} (o : Option ℕ) (f : ℕ → List ℕ) → v ≡ option_map f o → is_some o ≡ true → needed_del v ≡ record { pages = 1; bands = 0; reserve = 1 }
del_some None f e s = cc
del_some (Some n) f e s = ap needed_del e

pub del_none : {v : Option (List ℕ)} (o : Option ℕ) (f : ℕ → List ℕ) → v ≡ option_map f o → is_some o ≡ false → needed_del v ≡ pages_alone 0
del_none None f e s = ap needed_del e
del_none (Some n) f e s = cc

-- the same of an operation that is another way to say the verb and its name
pub need_as : (v : View) (t : Operations) (r : Result (Result code.Needs Reason) SpaceFault) {o p : Op} → o ≡ p → IfOk r (λ x. IfContents v (λ s. CheckedBy t (name_of o) (verb_of o) s (HasNeed t (name_of o) (verb_of o) s) x)) → IfOk r (λ x. IfContents v (λ s. CheckedBy t (name_of p) (verb_of p) s (HasNeed t (name_of p) (verb_of p) s) x))
need_as v t r e d = subst (λ (y : Op). IfOk r (λ x. IfContents v (λ s. CheckedBy t (name_of y) (verb_of y) s (HasNeed t (name_of y) (verb_of y) s) x))) e d

-- refused whatever the table of operations is
pub checked_all : {X : Type 0} {t : Operations} {name : List ℕ} {verb : Verb} {s : Contents} {Is : X → Type 0} (reason : Reason) → ((u : Operations) → (on u verb (plain (get (reading s).things name))).0 ≡ Err reason) → CheckedBy t name verb s Is (Err reason)
checked_all {t = t} reason h = checked_err reason (h t)
