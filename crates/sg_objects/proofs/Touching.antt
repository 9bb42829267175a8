-- What stands there says what is touched.
use Rattle.std.proofs.Common.{◌≡◌, ℕ, Bool, true, false, cond, List, [], ◌∷◌, length, map, Option, Some, None, refl, sym, ap, ◌∙◌, subst, arith}
use Rattle.std.specs.Prelude.{nat_lt, ◌==◌, if◌then◌else◌}
use Rattle.std.specs.FinMap.{get}
use Rattle.std.proofs.lemmas.Bool.Decides.{nat_tests}
use Rattle.sg_serial.specs.Locks.{Touch}
use Rattle.sg_catalog.specs.Catalog.{rows, there}
use Rattle.sg_catalog.specs.declared.row.ObjectKind.{ObjectKind}
use Rattle.sg_model.specs.Keys.{is_table_key}
use Rattle.sg_model.specs.Objects.{Row, Entries, Object, Objects}
use Rattle.sg_model.specs.Objects.Object.{Array as AsArray, Table as AsTable, Blob as AsBlob}
use Rattle.sg_model.specs.SaidOps.{name_of, verb_of, said_op}
use Rattle.sg_model.specs.Touches.{Reach, Resource, on_key, reach_of, touch_of, touches}
use Rattle.sg_model.specs.Verb.{Verb}
use Rattle.sg_model.specs.Verb.Op.{On}
use Rattle.sg_model.specs.Verb.Verb.{MakeArray, MakeTable, MakeBlob, Discard, Push, Pop, Set, Get, Len, Apply, Put, Del, Find, Keys, Write, Read, Size, Paint}
use Rattle.sg_model.specs.declared.op.Op.{Op}
use Rattle.sg_reading.specs.Reading.{Thing, objects, plain}
use Rattle.sg_reading.proofs.Slotted.{get_objects}
use Rattle.sg_contents.specs.Standing.{Body, Contents}
use Rattle.sg_contents.specs.Meaning.{reading, thing_of, object_of}
use Rattle.sg_objects.specs.Found.{IsAt}
use Rattle.sg_objects.specs.Touching.{IsSeen, reach_at}
use Rattle.sg_objects.specs.declared.touch.Seen.{Seen}
use Rattle.sg_objects.specs.declared.touch.Seen.TheVariants as seen
use Rattle.sg_objects.proofs.Located.{thing_under}
use Rattle.sg_objects.proofs.Refused.{nothing_under}

pub nothing_seen : (s : Contents) (name : List ℕ) → there name (rows s.catalog) ≡ None → IsSeen seen.Nothing (plain (get (reading s).things name))
nothing_seen s name none = subst (λ (th : Option Thing). IsSeen seen.Nothing (plain th)) (sym (nothing_under s name none)) tt

pub body_seen : {kind : ObjectKind} {s : Contents} {name : List ℕ} {root : ℕ} (x : Seen) (b : Body) → IsAt kind s name root → s.body root ≡ b → IsSeen x (Some (object_of b)) → IsSeen x (plain (get (reading s).things name))
body_seen {root = root} x b f is e = subst (λ (th : Option Thing). IsSeen x (plain th)) (sym (thing_under f ∙ ap (λ (y : Body). Some (thing_of root y)) is)) e

-- WHAT STANDS THERE SAYS WHAT IS TOUCHED
none_reach : (verb : Verb) → reach_at seen.Nothing verb ≡ reach_of verb None
none_reach (MakeArray size) = refl
none_reach MakeTable = refl
none_reach MakeBlob = refl
none_reach Discard = refl
none_reach (Push value) = refl
none_reach Pop = refl
none_reach (Set index value) = refl
none_reach (Get index) = refl
none_reach Len = refl
none_reach (Apply index code arg) = refl
none_reach (Put key value) = refl
none_reach (Del key) = refl
none_reach (Find key) = refl
none_reach Keys = refl
none_reach (Write at bytes) = refl
none_reach (Read at count) = refl
none_reach (Size n) = refl
none_reach (Paint at count code arg) = refl

module _ (row : Row) where
  array_reach : (verb : Verb) → reach_at (seen.Array (length row.items)) verb ≡ reach_of verb (Some (AsArray row))
  array_reach (MakeArray size) = refl
  array_reach MakeTable = refl
  array_reach MakeBlob = refl
  array_reach Discard = refl
  array_reach (Push value) = refl
  array_reach Pop = refl
  array_reach (Set index value) = refl
  array_reach (Get index) = refl
  array_reach Len = refl
  array_reach (Apply index code arg) = refl
  array_reach (Put key value) = refl
  array_reach (Del key) = refl
  array_reach (Find key) = refl
  array_reach Keys = refl
  array_reach (Write at bytes) = refl
  array_reach (Read at count) = refl
  array_reach (Size n) = refl
  array_reach (Paint at count code arg) = refl

module _ (m : Entries) where
  table_reach : (verb : Verb) → reach_at seen.Table verb ≡ reach_of verb (Some (AsTable m))
  table_reach (MakeArray size) = refl
  table_reach MakeTable = refl
  table_reach MakeBlob = refl
  table_reach Discard = refl
  table_reach (Push value) = refl
  table_reach Pop = refl
  table_reach (Set index value) = refl
  table_reach (Get index) = refl
  table_reach Len = refl
  table_reach (Apply index code arg) = refl
  table_reach (Put key value) = refl
  table_reach (Del key) = refl
  table_reach (Find key) = refl
  table_reach Keys = refl
  table_reach (Write at bytes) = refl
  table_reach (Read at count) = refl
  table_reach (Size n) = refl
  table_reach (Paint at count code arg) = refl

module _ (bytes : List ℕ) where
  blob_reach : (verb : Verb) → reach_at seen.Blob verb ≡ reach_of verb (Some (AsBlob bytes))
  blob_reach (MakeArray size) = refl
  blob_reach MakeTable = refl
  blob_reach MakeBlob = refl
  blob_reach Discard = refl
  blob_reach (Push value) = refl
  blob_reach Pop = refl
  blob_reach (Set index value) = refl
  blob_reach (Get index) = refl
  blob_reach Len = refl
  blob_reach (Apply index code arg) = refl
  blob_reach (Put key value) = refl
  blob_reach (Del key) = refl
  blob_reach (Find key) = refl
  blob_reach Keys = refl
  blob_reach (Write at bytes') = refl
  blob_reach (Read at count) = refl
  blob_reach (Size n) = refl
  blob_reach (Paint at count code arg) = refl

pub seen_reach : (x : Seen) (o : Option Object) → IsSeen x o → (verb : Verb) → reach_at x verb ≡ reach_of verb o
seen_reach seen.Nothing None h verb = none_reach verb
seen_reach seen.Nothing (Some (AsArray row)) h verb = absurd h
seen_reach seen.Nothing (Some (AsTable m)) h verb = absurd h
seen_reach seen.Nothing (Some (AsBlob bytes)) h verb = absurd h
seen_reach (seen.Array n) None h verb = absurd h
seen_reach (seen.Array n) (Some (AsArray row)) h verb = ap (λ (k : ℕ). reach_at (seen.Array k) verb) h ∙ array_reach row verb
seen_reach (seen.Array n) (Some (AsTable m)) h verb = absurd h
seen_reach (seen.Array n) (Some (AsBlob bytes)) h verb = absurd h
seen_reach seen.Table None h verb = absurd h
seen_reach seen.Table (Some (AsArray row)) h verb = absurd h
seen_reach seen.Table (Some (AsTable m)) h verb = table_reach m verb
seen_reach seen.Table (Some (AsBlob bytes)) h verb = absurd h
seen_reach seen.Blob None h verb = absurd h
seen_reach seen.Blob (Some (AsArray row)) h verb = absurd h
seen_reach seen.Blob (Some (AsTable m)) h verb = absurd h
seen_reach seen.Blob (Some (AsBlob bytes)) h verb = blob_reach bytes verb

unfolded : (o : Objects) (name : List ℕ) (verb : Verb) → touches o (On name verb) ≡ map (touch_of name) (reach_of verb (get o name))
unfolding touches
unfolded o name verb = refl

-- what was found under the name of an operation
pub touched_by : (s : Contents) (x : Seen) (op : Op) (all : List (Touch Resource)) (name : List ℕ) → name ≡ name_of op → IsSeen x (plain (get (reading s).things name)) → all ≡ map (touch_of (name_of op)) (reach_at x (verb_of op)) → all ≡ touches (objects (reading s)) (said_op op)
touched_by s x op all name n h e =
    let under : IsSeen x (get (objects (reading s)) (name_of op)) = subst (λ (o : Option Object). IsSeen x o) (sym (get_objects (reading s) (name_of op))) (subst (λ (m : List ℕ). IsSeen x (plain (get (reading s).things m))) n h) in
    e ∙ (ap (λ (rs : List Reach). map (touch_of (name_of op)) rs) (seen_reach x (get (objects (reading s)) (name_of op)) under (verb_of op)) ∙ sym (unfolded (objects (reading s)) (name_of op) (verb_of op)))

-- of a list of keys
pub keys_touched : (s : Contents) (x : Seen) (name : List ℕ) (all : List (Touch Resource)) → IsSeen x (plain (get (reading s).things name)) → all ≡ map (touch_of name) (reach_at x Keys) → all ≡ touches (objects (reading s)) (On name Keys)
keys_touched s x name all h e =
    let under : IsSeen x (get (objects (reading s)) name) = subst (λ (o : Option Object). IsSeen x o) (sym (get_objects (reading s) name)) h in
    e ∙ (ap (λ (rs : List Reach). map (touch_of name) rs) (seen_reach x (get (objects (reading s)) name) under Keys) ∙ sym (unfolded (objects (reading s)) name Keys))

-- the same of an operation that is another way to say it
pub touch_as : (x : Seen) (all : List (Touch Resource)) {o p : Op} → o ≡ p → all ≡ map (touch_of (name_of o)) (reach_at x (verb_of o)) → all ≡ map (touch_of (name_of p)) (reach_at x (verb_of p))
touch_as x all e h = subst (λ (y : Op). all ≡ map (touch_of (name_of y)) (reach_at x (verb_of y))) e h

-- the same of another way to say what stands there
pub seen_as : (name : List ℕ) (f : Seen → List Reach) (all : List (Touch Resource)) {x y : Seen} → x ≡ y → all ≡ map (touch_of name) (f x) → all ≡ map (touch_of name) (f y)
seen_as name f all e h = subst (λ (z : Seen). all ≡ map (touch_of name) (f z)) e h

-- a key of a table
pub one_key : (key : List ℕ) (r : Reach) (k : List ℕ) → Some k ≡ (if is_table_key key then Some key else None) → (k ≡ key) × (on_key key r ≡ r ∷ [])
one_key key r k e = (go (is_table_key key) refl e)
  where
    go : (b : Bool) → is_table_key key ≡ b → Some k ≡ cond b (Some key) None → (k ≡ key) × (on_key key r ≡ r ∷ [])
    go false p f = absurd (cc)
    go true p f =
        let some : (length key == 0) ≡ false = grind (arith, nat_tests, p) in
        let few : nat_lt 128 (length key) ≡ false = grind (arith, nat_tests, p) in
        (cc, ap (λ (b : Bool). cond {A = List Reach} b [] (cond {A = List Reach} (nat_lt 128 (length key)) [] (r ∷ []))) some ∙ ap (λ (b : Bool). cond {A = List Reach} b [] (r ∷ [])) few)

pub no_key : (key : List ℕ) (r : Reach) → None ≡ (if is_table_key key then Some key else None) → on_key key r ≡ []
no_key key r e = go (is_table_key key) refl e
  where
    go : (b : Bool) → is_table_key key ≡ b → None ≡ cond b (Some key) None → on_key key r ≡ []
    go true p f = absurd (cc)
    go false p f = grind (arith, nat_tests, p)
