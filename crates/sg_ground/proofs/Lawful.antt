-- THE GROUND IS LAWFUL.
use Rattle.std.proofs.Common.{◌≡◌, ℕ, ◌≤◌, cond, List, [], Option, Some, None, option_map, refl, sym, ap, ◌∙◌, subst, arith}
use Rattle.std.specs.FinMap.{get}
use Rattle.sg_ops.specs.Table.{Table as Operations}
use Rattle.sg_action.specs.States.{State}
use Rattle.sg_model.specs.Objects.{Objects, Object}
use Rattle.sg_model.specs.Objects.Object.{Array, Table, Blob}
use Rattle.sg_model.specs.Step.{on, put_at, step}
use Rattle.sg_model.specs.Verb.{Verb, Op}
use Rattle.sg_model.specs.Verb.Verb.{MakeArray, MakeTable, MakeBlob, Discard, Push, Pop, Set, Get, Len, Apply, Put, Del, Find, Keys, Write, Read, Size, Paint}
use Rattle.sg_model.specs.Verb.Op.{On, Names}
use Rattle.sg_model.specs.Touches.{touches}
use Rattle.sg_model.proofs.Footprint.{get_put_at}
use Rattle.sg_model.proofs.Parts.{bytes_self}
use Rattle.sg_recovery.specs.Cells.{After, setting_of}
use Rattle.sg_recovery.proofs.Cells.{cells_laws}
use Rattle.sg_recovery.proofs.Renaming.{read_laws}
use Rattle.sg_reading.specs.Reading.{Thing, Reading, objects, plain, slot}
use Rattle.sg_reading.specs.Reading.Thing.{There}
use Rattle.sg_reading.specs.Did.{Did}
use Rattle.sg_reading.specs.Left.{done_by}
use Rattle.sg_reading.specs.Model.{model_cells}
use Rattle.sg_reading.proofs.Laws.{model_laws}
use Rattle.sg_reading.proofs.Looks.{looks_on, looks_list}
use Rattle.sg_reading.specs.Noted.{IsFormed}
use Rattle.sg_ground.proofs.Graves.{none_there}
use Rattle.sg_ground.proofs.Freed.{no_empty, unfreed}
use Rattle.sg_room.specs.Marks.{NamesRoots}
use Rattle.sg_reading.proofs.Slotted.{get_objects}
use Rattle.sg_contents.specs.Standing.{Contents}
use Rattle.sg_contents.specs.Meaning.{reading}
use Rattle.sg_store.specs.Ground.{Needs, IsLawful}
use Rattle.sg_objects.specs.Needs.{needed, needed_put, needed_del}
use Rattle.sg_objects.specs.Notes.{note_said}
use Rattle.sg_reader.specs.Alike.{space_of, IsAlike}
use Rattle.sg_reader.specs.Reader.{Reader}
use Rattle.sg_reader.proofs.Formed.{contents_formed}
use Rattle.sg_reader.proofs.SameReading.{alike_contents, alike_reads}
use Rattle.sg_ground.specs.Ground.{pages_ground, ground, as_needs, needs}
use Rattle.sg_ground.specs.Recovers.{Recovering}

-- NEEDS
record IsSmall (n : Needs) : Type 0 where
  one : n.reserve ≤ 1
  needed : n.reserve ≤ n.pages

none_small : (pages bands : ℕ) → IsSmall (record { pages = pages; bands = bands; reserve = 0 })
none_small pages bands = record { one = omega arith; needed = omega arith }

put_small : (o : Option (List ℕ)) → IsSmall (as_needs (needed_put o))
put_small None = none_small 12 0
put_small (Some old) = record { one = omega arith; needed = omega arith }

del_small : (o : Option (List ℕ)) → IsSmall (as_needs (needed_del o))
del_small None = none_small 0 0
del_small (Some old) = record { one = omega arith; needed = omega arith }

needs_small : (verb : Verb) (th : Option Thing) → IsSmall (as_needs (needed verb th))
needs_small (MakeArray size) th = none_small 2 0
needs_small MakeTable th = none_small 6 0
needs_small MakeBlob th = none_small 2 0
needs_small (Push value) th = none_small 2 0
needs_small (Put key value) (Some (There (Table m) w)) = put_small (get m key)
needs_small (Del key) (Some (There (Table m) w)) = del_small (get m key)
needs_small (Write from bytes) (Some (There (Blob x) w)) = none_small 0 _
needs_small (Size n) (Some (There (Blob x) w)) = none_small 0 _
needs_small (Put key value) None = none_small 0 0
needs_small (Put key value) (Some (There (Array row) w)) = none_small 0 0
needs_small (Put key value) (Some (There (Blob x) w)) = none_small 0 0
needs_small (Del key) None = none_small 0 0
needs_small (Del key) (Some (There (Array row) w)) = none_small 0 0
needs_small (Del key) (Some (There (Blob x) w)) = none_small 0 0
needs_small (Write from bytes) None = none_small 0 0
needs_small (Write from bytes) (Some (There (Array row) w)) = none_small 0 0
needs_small (Write from bytes) (Some (There (Table m) w)) = none_small 0 0
needs_small (Size n) None = none_small 0 0
needs_small (Size n) (Some (There (Array row) w)) = none_small 0 0
needs_small (Size n) (Some (There (Table m) w)) = none_small 0 0
needs_small Discard th = none_small 0 0
needs_small Pop th = none_small 0 0
needs_small (Set i v) th = none_small 0 0
needs_small (Get i) th = none_small 0 0
needs_small Len th = none_small 0 0
needs_small (Apply i code arg) th = none_small 0 0
needs_small (Find k) th = none_small 0 0
needs_small Keys th = none_small 0 0
needs_small (Read from count) th = none_small 0 0
needs_small (Paint from count code arg) th = none_small 0 0

op_small : (o : Reading) (op : Op) → IsSmall (needs o op)
op_small o (On name verb) = needs_small verb (get o.things name)
op_small o Names = none_small 0 0

-- THE READING
pub mapped : {A B : Type 0} (f : A → B) (o : Option A) (b : B) → option_map f o ≡ Some b → (a : A) × (o ≡ Some a) × (f a ≡ b)
mapped f None b e = absurd (cc)
mapped f (Some a) b e = (a, refl, (let k : f a ≡ b = cc in k))

-- a step that changes nothing leaves what stands under its name
pub unchanged : (t : Operations) (o : Reading) (name : List ℕ) (verb : Verb) → (step t (objects o) (On name verb)).1 ≡ objects o → (on t verb (plain (slot o name).thing)).1 ≡ plain (slot o name).thing
unfolding step
unchanged t o name verb e =
    let new : Option Object = (on t verb (get (objects o) name)).1 in
    let here : get (put_at (objects o) name new) name ≡ new = get_put_at (objects o) name new name ∙ ap (λ b. cond b new (get (objects o) name)) (bytes_self name) in
    ap (λ x. (on t verb x).1) (sym (get_objects o name)) ∙ (sym here ∙ (ap (λ (s : Objects). get s name) e ∙ get_objects o name))

module _ (pages bands : ℕ) (reader : Reader pages bands) (recovers : Recovering) (t : Operations) where
  formed_at : (x : State) (o : Reading) → option_map reading (reader.contents x) ≡ Some o → (name : List ℕ) → IsFormed (slot o name).thing
  formed_at x o e name =
      let m = mapped reading (reader.contents x) o e in
      subst (λ (p : Reading). IsFormed (slot p name).thing) m.2 (contents_formed (space_of pages bands x) m.0 (reader.sound x m.0 m.1).contents name)

  -- what changes nothing leaves the reading as it is
  looks : (x : State) (o : Reading) (op : Op) → option_map reading (reader.contents x) ≡ Some o → (step t (objects o) op).1 ≡ objects o
      → (v : Did) × (v.op ≡ op) × After (model_cells t (pages_ground pages bands reader t)) v o o
  looks x o (On name verb) e same =
      let v : Did = done_by o 0 name verb 0 [] in
      (v, refl, looks_on t (pages_ground pages bands reader t) v name verb o refl refl (formed_at x o e name) refl (unchanged t o name verb same))
  looks x o Names e same =
      let v : Did = record { op = Names; touches = touches (objects o) Names; by = 0; root = 0; bands = [] } in
      (v, refl, looks_list t (pages_ground pages bands reader t) v o refl refl)

  -- pages that can't be told apart read as the same
  reads_alike : (x y : State) (o : Reading) → option_map reading (reader.contents x) ≡ Some o → ((s : Contents) → reader.contents x ≡ Some s → IsAlike s x y) → option_map reading (reader.contents y) ≡ Some o
  reads_alike x y o e alike =
      let m = mapped reading (reader.contents x) o e in
      let r = reader.sound x m.0 m.1 in
      let k = alike m.0 m.1 in
      let f = reader.finds y _ (alike_contents pages bands x y m.0 r k) in
      ap (option_map reading) f.1 ∙ ap Some (f.2 ∙ (alike_reads pages bands x y m.0 r k ∙ m.2))

  pub ground_is_lawful : IsLawful t (ground pages bands reader recovers)
  ground_is_lawful = record {
    laws = read_laws (setting_of (model_cells t (pages_ground pages bands reader t))) (List ℕ) note_said (cells_laws (model_cells t (pages_ground pages bands reader t)) (model_laws t (pages_ground pages bands reader t)));
    touches = λ v o p a. a.0;
    looks = looks;
    reserves_one = λ o op. (op_small o op).one;
    reserves_needed = λ o op. (op_small o op).needed;
    none_buried = λ o e u f h. none_there o e u f h;
    none_freed = λ x o e u none. (let m = mapped reading (reader.contents x) o e in unfreed o (subst NamesRoots m.2 (no_empty m.0)) u none);
    reads_alike = reads_alike;
    alike_same = λ x s e. record {
      pages = record { seen_same = λ p o. refl; slots = λ p o few. few };
      bands = λ b o. refl;
    };
  }
