-- THE STORE'S CLAUSES, one by one.
use Rattle.std.proofs.Common.{◌≡◌, ℕ, suc, ◌+◌, ◌-◌, ◌≤◌, true, false, Bool, cond, List, [], ◌∷◌, ◌++◌, length, zero, Option, Some, None, option_map, is_some, Err, refl, sym, ap, ◌∙◌, subst, arith}
use Rattle.std.specs.FinMap.{FinMap, get, len, remove, contains_key, from_entries, get-empty, len-remove, empty_of_len}
use Rattle.std.specs.Cmp.Lexicographic.{slice_cmp, nat_list_cmp_total}
use Rattle.std.specs.Ordering.{nat_cmp}
use Rattle.std.specs.Prelude.{IsSome, if◌then◌else◌, slice_get, is_ok}
use Rattle.std.specs.Str.{bytes_eq}
use Rattle.sg_alloc.specs.Flags.{map_bands_of}
use Rattle.sg_ops.specs.Table.{Table as Operations}
use Rattle.sg_action.specs.States.{State}
use Rattle.sg_base.specs.declared.numbers.TxnId.{TxnId}
use Rattle.sg_catalog.specs.Catalog.{rows}
use Rattle.sg_catalog.specs.declared.row.Row.{Row}
use Rattle.sg_model.specs.Objects.{Objects, Object}
use Rattle.sg_model.specs.Objects.Object.{Array, Table, Blob}
use Rattle.sg_model.specs.Step.{on, step}
use Rattle.sg_model.specs.Verb.{Verb, Outcome}
use Rattle.sg_model.specs.Verb.Verb.{MakeArray, MakeTable, MakeBlob, Discard, Push, Pop, Set, Get, Len, Apply, Put, Del, Find, Keys, Write, Read, Size, Paint}
use Rattle.sg_model.specs.Verb.Op.{On}
use Rattle.sg_model.proofs.Parts.{get_put, get_del, same_entries, bytes_same, bytes_self}
use Rattle.sg_record.specs.Changes.{Change}
use Rattle.sg_recovery.specs.Log.{Numbered, tally, said, changes_of, open_of}
use Rattle.sg_recovery.specs.Log as log
use Rattle.sg_recovery.specs.Stands.{wants_one}
use Rattle.sg_reading.specs.Reading.{Thing, Tomb, Reading, objects, plain, Slot, slot}
use Rattle.sg_reading.specs.Reading.Thing.{There}
use Rattle.sg_reading.specs.Back.{Undoing, UndoNote, Before, back, put_back, planned}
use Rattle.sg_reading.specs.Back.Undoing.{WasNothing, WasMake, WasDrop, WasPush, WasPop, WasSet, WasApply, WasPut, WasOver, WasBytes}
use Rattle.sg_reading.specs.Model.{wants_page, model_cells}
use Rattle.sg_reading.specs.Left.{done_by, tomb_cell}
use Rattle.sg_reading.specs.Noted.{noted}
use Rattle.sg_reading.proofs.Left.{leaves_after}
use Rattle.sg_reading.proofs.Slotted.{get_objects}
use Rattle.sg_space.specs.View.{Space}
use Rattle.sg_before.proofs.Forgot.{forgot_frees}
use Rattle.sg_recovery.proofs.Renaming.{read_frees}
use Rattle.sg_recovery.specs.Cells.{setting_of}
use Rattle.sg_base.specs.Sheet.{Sheet}
use Rattle.sg_before.specs.Laying.{put_on}
use Rattle.sg_before.specs.Forgot.{Forgets}
use Rattle.sg_contents.specs.Standing.{Body, Contents, IsContents, AreInRange}
use Rattle.sg_contents.specs.Meaning.{reading, tomb_at, if_tomb, tombs_of, page_total, IsCounted}
use Rattle.sg_objects.specs.Needs.{needed, needed_back, needed_put, needed_del}
use Rattle.sg_objects.specs.Notes.{note_bytes, note_said}
use Rattle.sg_store.specs.Ground.{setting}
use Rattle.sg_store.specs.Engine.{View, Action, pages_of, AreChanges}
use Rattle.sg_reader.specs.Alike.{ReadsAs}
use Rattle.sg_reader.proofs.Slots.{slot_formed}
use Rattle.sg_reader.proofs.Spaces.{state_reads, space_reads, reached_page, reached_band}
use Rattle.sg_ground.specs.Ground.{pages_ground, found_by, bytes_of, found_of, PutsBack}
use Rattle.sg_ground.specs.Theorem.{Basis, ground_of}
use Rattle.sg_ground.specs.Clauses.{Shows, ContentsAreThere, RoomIsThere, ContentsAreRead, IsLeftAlone, IsNotedSo, IsRefusedSo, ReverseIsPossible, with_bands, BytesAreBack, IsReversedSo, IsFreedSo, NoneIsBuried}
use Rattle.sg_ground.proofs.Lawful.{mapped, ground_is_lawful}
use Rattle.sg_ground.proofs.Done.{left_does, left_undone}
use Rattle.sg_ground.proofs.Notes.{note_back}
use Rattle.sg_ground.proofs.Freed.{no_empty, not_both, forgot_freed}
use Rattle.sg_ground.proofs.Stocked.{looked_stock, verb_stock}
use Rattle.sg_room.specs.Marks.{kind_of, marks_of}
use Rattle.sg_room.specs.Most.{Accepts}
use Rattle.sg_room.proofs.Lefts.{undone_marks}
use Rattle.sg_ground.proofs.Fields.{noted_fields}
use Rattle.sg_ground.proofs.Buried.{tomb_there, none_buried, tomb_dropped}
use Rattle.sg_ground.proofs.Graves.{after_verb, after_undo, after_free, none_of}

-- what a reading says is taken, is what the contents have
pages_are : (s : Contents) → (reading s).pages ≡ page_total s
unfolding reading
pages_are s = refl

counted_free : (n : ℕ) (space : Space) (s : Contents) → space.pages.count ≡ n → IsCounted space s → space.pages.free ≡ n - (reading s).pages
counted_free n space s e h =
    let a = h.pages in
    let p = pages_are s in
    omega (arith, e, a, p)

counted_sum : (n : ℕ) (space : Space) (s : Contents) → space.pages.count ≡ n → IsCounted space s → space.pages.free + (reading s).pages ≡ n
counted_sum n space s e h =
    let a = h.pages in
    let p = pages_are s in
    omega (arith, e, a, p)

-- CHANGES of an action of which none waits for its end are none
no_cons : {C : Type 0} (d : log.Open C) (ds : List (log.Open C)) → ◌≡◌ {A = List (log.Open C)} [] (d ∷ ds) → ⊥
no_cons d ds e = cc

-- A NOTE WANTS A PAGE exactly where its verb reserved one
abbrev one_if : Bool → ℕ
one_if true = 1
one_if false = 0

wants_put : (k : List ℕ) (o : Option (List ℕ)) → one_if (wants_page (Rattle.sg_reading.specs.Noted.noted_put k o)) ≡ (needed_put o).reserve
wants_put k None = refl
wants_put k (Some old) = refl

wants_del : (k : List ℕ) (o : Option (List ℕ)) → one_if (wants_page (Rattle.sg_reading.specs.Noted.noted_del k o)) ≡ (needed_del o).reserve
wants_del k None = refl
wants_del k (Some old) = refl

wants_last : (n : ℕ) (row : Rattle.sg_model.specs.Objects.Row) → one_if (wants_page (Rattle.sg_reading.specs.Noted.noted_last n row)) ≡ 0
wants_last zero row = refl
wants_last (suc n) row = go (slice_get row.items n)
  where
    go : (o : Option (List ℕ)) → one_if (wants_page (Rattle.sg_reading.specs.Noted.noted_popped o)) ≡ 0
    go None = refl
    go (Some item) = refl

wants_item : (i : ℕ) (o : Option (List ℕ)) → one_if (wants_page (Rattle.sg_reading.specs.Noted.noted_item i o)) ≡ 0
wants_item i None = refl
wants_item i (Some item) = refl

wants_so : (verb : Verb) (th : Option Thing) → one_if (wants_page (noted verb th)) ≡ (needed verb th).reserve
wants_so (MakeArray size) None = refl
wants_so (MakeArray size) (Some (There (Array row) w)) = refl
wants_so (MakeArray size) (Some (There (Table m) w)) = refl
wants_so (MakeArray size) (Some (There (Blob x) w)) = refl
wants_so MakeTable None = refl
wants_so MakeTable (Some (There (Array row) w)) = refl
wants_so MakeTable (Some (There (Table m) w)) = refl
wants_so MakeTable (Some (There (Blob x) w)) = refl
wants_so MakeBlob None = refl
wants_so MakeBlob (Some (There (Array row) w)) = refl
wants_so MakeBlob (Some (There (Table m) w)) = refl
wants_so MakeBlob (Some (There (Blob x) w)) = refl
wants_so Discard None = refl
wants_so Discard (Some (There (Array row) w)) = refl
wants_so Discard (Some (There (Table m) w)) = refl
wants_so Discard (Some (There (Blob x) w)) = refl
wants_so (Push value) None = refl
wants_so (Push value) (Some (There (Array row) w)) = refl
wants_so (Push value) (Some (There (Table m) w)) = refl
wants_so (Push value) (Some (There (Blob x) w)) = refl
wants_so Pop None = refl
wants_so Pop (Some (There (Array row) w)) = wants_last (length row.items) row
wants_so Pop (Some (There (Table m) w)) = refl
wants_so Pop (Some (There (Blob x) w)) = refl
wants_so (Set i v) None = refl
wants_so (Set i v) (Some (There (Array row) w)) = wants_item i (slice_get row.items i)
wants_so (Set i v) (Some (There (Table m) w)) = refl
wants_so (Set i v) (Some (There (Blob x) w)) = refl
wants_so (Get i) None = refl
wants_so (Get i) (Some (There (Array row) w)) = refl
wants_so (Get i) (Some (There (Table m) w)) = refl
wants_so (Get i) (Some (There (Blob x) w)) = refl
wants_so Len None = refl
wants_so Len (Some (There (Array row) w)) = refl
wants_so Len (Some (There (Table m) w)) = refl
wants_so Len (Some (There (Blob x) w)) = refl
wants_so (Apply i code arg) None = refl
wants_so (Apply i code arg) (Some (There (Array row) w)) = refl
wants_so (Apply i code arg) (Some (There (Table m) w)) = refl
wants_so (Apply i code arg) (Some (There (Blob x) w)) = refl
wants_so (Put k v) None = refl
wants_so (Put k v) (Some (There (Array row) w)) = refl
wants_so (Put k v) (Some (There (Table m) w)) = wants_put k (get m k)
wants_so (Put k v) (Some (There (Blob x) w)) = refl
wants_so (Del k) None = refl
wants_so (Del k) (Some (There (Array row) w)) = refl
wants_so (Del k) (Some (There (Table m) w)) = wants_del k (get m k)
wants_so (Del k) (Some (There (Blob x) w)) = refl
wants_so (Find k) None = refl
wants_so (Find k) (Some (There (Array row) w)) = refl
wants_so (Find k) (Some (There (Table m) w)) = refl
wants_so (Find k) (Some (There (Blob x) w)) = refl
wants_so Keys None = refl
wants_so Keys (Some (There (Array row) w)) = refl
wants_so Keys (Some (There (Table m) w)) = refl
wants_so Keys (Some (There (Blob x) w)) = refl
wants_so (Write from bytes) None = refl
wants_so (Write from bytes) (Some (There (Array row) w)) = refl
wants_so (Write from bytes) (Some (There (Table m) w)) = refl
wants_so (Write from bytes) (Some (There (Blob x) w)) = refl
wants_so (Read from count) None = refl
wants_so (Read from count) (Some (There (Array row) w)) = refl
wants_so (Read from count) (Some (There (Table m) w)) = refl
wants_so (Read from count) (Some (There (Blob x) w)) = refl
wants_so (Size n) None = refl
wants_so (Size n) (Some (There (Array row) w)) = refl
wants_so (Size n) (Some (There (Table m) w)) = refl
wants_so (Size n) (Some (There (Blob x) w)) = refl
wants_so (Paint from count code arg) None = refl
wants_so (Paint from count code arg) (Some (There (Array row) w)) = refl
wants_so (Paint from count code arg) (Some (There (Table m) w)) = refl
wants_so (Paint from count code arg) (Some (There (Blob x) w)) = refl

wants_back : (u : Undoing) → one_if (wants_page u) ≡ (needed_back u).pages
wants_back WasNothing = refl
wants_back WasMake = refl
wants_back (WasDrop root) = refl
wants_back WasPush = refl
wants_back (WasPop item) = refl
wants_back (WasSet index item) = refl
wants_back (WasApply index code arg) = refl
wants_back (WasPut key) = refl
wants_back (WasOver key value) = refl
wants_back (WasBytes size) = refl

none_else : (u : Undoing) → ((needed_back u).bands ≡ 0) × ((needed_back u).reserve ≡ 0)
none_else WasNothing = (refl, refl)
none_else WasMake = (refl, refl)
none_else (WasDrop root) = (refl, refl)
none_else WasPush = (refl, refl)
none_else (WasPop item) = (refl, refl)
none_else (WasSet index item) = (refl, refl)
none_else (WasApply index code arg) = (refl, refl)
none_else (WasPut key) = (refl, refl)
none_else (WasOver key value) = (refl, refl)
none_else (WasBytes size) = (refl, refl)

wanted_one : (b : Basis) (t : Operations) (n : log.Top Change (List ℕ)) → wants_one (setting t (ground_of b)) n ≡ one_if (wants_page (note_said n.note).undoes)
wanted_one b t n = by (wants_page (note_said n.note).undoes)
  where
    by : (c : Bool) → (if c then 1 else 0) ≡ one_if c
    by true = refl
    by false = refl

-- before bytes are looked at by a note of bytes alone
planned_plain : (u : Undoing) (cs : List Before) (th : Option Thing) → ((size : ℕ) → u ≡ WasBytes size → ⊥) → planned u cs th ≡ planned u [] th
planned_plain WasNothing cs th h = refl
planned_plain WasMake cs th h = refl
planned_plain (WasDrop root) cs th h = refl
planned_plain WasPush cs th h = refl
planned_plain (WasPop item) cs th h = refl
planned_plain (WasSet index item) cs th h = refl
planned_plain (WasApply index code arg) cs th h = refl
planned_plain (WasPut key) cs th h = refl
planned_plain (WasOver key value) cs th h = refl
planned_plain (WasBytes size) cs th h = absurd (h size refl)

back_plain : (t : Operations) (u : Undoing) (cs : List Before) (s : Slot) → ((size : ℕ) → u ≡ WasBytes size → ⊥) → back t u cs s ≡ back t u [] s
back_plain t WasNothing cs s h = refl
back_plain t WasMake cs s h = refl
back_plain t (WasDrop root) cs s h = refl
back_plain t WasPush cs s h = refl
back_plain t (WasPop item) cs s h = refl
back_plain t (WasSet index item) cs s h = refl
back_plain t (WasApply index code arg) cs s h = refl
back_plain t (WasPut key) cs s h = refl
back_plain t (WasOver key value) cs s h = refl
back_plain t (WasBytes size) cs s h = absurd (h size refl)

bytes_plain : (u : Undoing) (cs : List Before) → ((size : ℕ) → u ≡ WasBytes size → ⊥) → bytes_of u cs ≡ []
bytes_plain WasNothing cs h = refl
bytes_plain WasMake cs h = refl
bytes_plain (WasDrop root) cs h = refl
bytes_plain WasPush cs h = refl
bytes_plain (WasPop item) cs h = refl
bytes_plain (WasSet index item) cs h = refl
bytes_plain (WasApply index code arg) cs h = refl
bytes_plain (WasPut key) cs h = refl
bytes_plain (WasOver key value) cs h = refl
bytes_plain (WasBytes size) cs h = absurd (h size refl)

some_back : (o : Reading) (n : UndoNote) (r : Option (Option Thing)) → IsSome (put_back o n r) → (th : Option Thing) × (r ≡ Some th)
some_back o n None h = absurd (let z : false ≡ true = h in cc)
some_back o n (Some th) h = (th, refl)

-- a band with other bytes
none_back : (bytes : List ℕ) (o : Option (List ℕ)) → option_map (λ _. bytes) o ≡ None → o ≡ None
none_back bytes None e = refl
none_back bytes (Some xs) e = absurd (let z : ◌≡◌ {A = Option (List ℕ)} (Some bytes) None = e in cc)

some_there : (bytes : List ℕ) (o : Option (List ℕ)) (xs : List ℕ) → option_map (λ _. bytes) o ≡ Some xs → (o ≡ None → ⊥) × (bytes ≡ xs)
some_there bytes None xs e = absurd (let z : ◌≡◌ {A = Option (List ℕ)} None (Some xs) = e in cc)
some_there bytes (Some ys) xs e = ((λ f. let z : ◌≡◌ {A = Option (List ℕ)} (Some ys) None = f in cc), (let z : bytes ≡ xs = cc in z))

-- two maps of tombstones, of which the second is the first without one
one_less : (n m : ℕ) (c : Bool) → c ≡ true → (c ≡ true → 1 ≤ n) → m ≡ cond c (n - 1) n → n ≡ m + 1
one_less n m true e f h = let k = f e in omega (arith, h, k)
one_less n m false e f h = absurd (cc)

some_is : {A : Type 0} (o : Option A) (x : A) → o ≡ Some x → is_some o ≡ true
some_is o x e = ap is_some e

-- A TOMBSTONE that is forgotten leaves one less
forgets_one : (name : List ℕ) (root : ℕ) (s s' : Contents) (tomb : Tomb) → Forgets name root (reading s) (reading s') → get (reading s).tombs (root ∷ name) ≡ Some tomb → len (reading s).tombs ≡ len (reading s').tombs + 1
forgets_one name root s s' tomb f there =
    let old = (reading s).tombs in
    let new = (reading s').tombs in
    let same : new ≡ remove old (root ∷ name) = same_entries new (remove old (root ∷ name)) key in
    one_less (len old) (len new) (contains_key old (root ∷ name)) (some_is (get old (root ∷ name)) tomb there) (λ e. at_least (len old) refl) (ap len same ∙ len-remove nat_list_cmp_total old (root ∷ name))
  where
    at_least : (n : ℕ) → len (reading s).tombs ≡ n → 1 ≤ len (reading s).tombs
    at_least zero e = absurd (let z : ◌≡◌ {A = Option Tomb} None (Some tomb) = sym (ap (λ (m : FinMap (slice_cmp nat_cmp) Tomb). get m (root ∷ name)) (empty_of_len (reading s).tombs e) ∙ get-empty (slice_cmp nat_cmp) (root ∷ name)) ∙ there in cc)
    at_least (suc n) e = omega (arith, e)

    key : (q : List ℕ) → get (reading s').tombs q ≡ get (remove (reading s).tombs (root ∷ name)) q
    key [] = no_empty s' ∙ sym (get_del (reading s).tombs (root ∷ name) [] ∙ no_empty s)
    key (r ∷ other) = go (bytes_eq (root ∷ name) (r ∷ other)) refl
      where
        go : (b : Bool) → bytes_eq (root ∷ name) (r ∷ other) ≡ b → get (reading s').tombs (r ∷ other) ≡ get (remove (reading s).tombs (root ∷ name)) (r ∷ other)
        go true e = ap (get (reading s').tombs) (sym (bytes_same (root ∷ name) (r ∷ other) e)) ∙ (f.gone ∙ sym (get_del (reading s).tombs (root ∷ name) (r ∷ other) ∙ ap (λ (b : Bool). cond b None (get (reading s).tombs (r ∷ other))) e))
        go false e = f.tombs r other (λ same. not_both (bytes_eq (root ∷ name) (r ∷ other)) ((λ i. bytes_eq (root ∷ name) (same.0 i ∷ same.1 i)) ∙ bytes_self (root ∷ name)) e)
            ∙ sym (get_del (reading s).tombs (root ∷ name) (r ∷ other) ∙ ap (λ (b : Bool). cond b None (get (reading s).tombs (r ∷ other))) e)

module _ (b : Basis) (t : Operations) where
  moved : (x : State) (s : Contents) (p p' q q' : ℕ) → p ≡ p' → q ≡ q' → ReadsAs p q x s → ReadsAs p' q' x s
  moved x s p p' q q' e f r = subst (λ (n : ℕ). ReadsAs p' n x s) f (subst (λ (n : ℕ). ReadsAs n q x s) e r)

  -- what contents mean, the engine's pages read as
  pub read_so : (v : View (ground_of b)) (space : Space) (s : Contents) → Shows b t v space → IsContents space s → (ground_of b).reading (pages_of t (ground_of b) v) ≡ Some (reading s)
  read_so v space s shows h =
      let x : State = pages_of t (ground_of b) v in
      let range : AreInRange space.pages.count space.bands.count s = record {
        page = λ p o. shows.page_below p (reached_page space s h p o);
        band = λ n o. shows.band_below n (reached_band space s h n o);
      } in
      let f = b.reader.finds x s (moved x s space.pages.count b.pages space.bands.count b.bands shows.pages shows.bands (state_reads space x s h shows.part range)) in
      ap (option_map reading) f.1 ∙ ap Some f.2

  step_said : (o : Reading) (name : List ℕ) (verb : Verb) (outcome : Outcome) → (on t verb (plain (get o.things name))).0 ≡ outcome → (step t (objects o) (On name verb)).0 ≡ outcome
  unfolding step
  step_said o name verb outcome e = ap (λ (x : Option Object). (on t verb x).0) (get_objects o name) ∙ e

  nothing_made : (first : State) (a : Action (ground_of b)) (made log : List (Numbered Change (List ℕ))) → AreChanges t (ground_of b) first a made log → (tally (made ++ log)).opened ≡ [] → made ≡ []
  nothing_made first a [] log h e = refl
  nothing_made first a (r ∷ ds) log h e =
      let opened = ap (λ (is : Rattle.sg_recovery.specs.Log.Record Change (List ℕ)). (said r.lsn is (tally (ds ++ log))).opened) h.0.2 in
      absurd (no_cons _ _ (sym e ∙ opened))

module _ (b : Basis) where
  pub contents_there : ContentsAreThere b
  contents_there t v space o shows taken e =
      let x : State = pages_of t (ground_of b) v in
      let m = mapped reading (b.reader.contents x) o e in
      let r = moved b t x m.0 b.pages space.pages.count b.bands space.bands.count (sym shows.pages) (sym shows.bands) (b.reader.sound x m.0 m.1) in
      (m.0, space_reads space x m.0 r (taken m.0 r), m.2)

  pub room_there : RoomIsThere b
  room_there t v space o name verb shows can = record {
    pages = subst (λ (n : ℕ). (needed verb (get o.things name)).pages ≤ n) shows.free_pages can.pages;
    bands = subst (λ (n : ℕ). (needed verb (get o.things name)).bands ≤ n) shows.free_bands can.bands;
  }

  pub contents_read : ContentsAreRead b
  contents_read t v space s shows h counted = record {
    reading = read_so b t v space s shows h;
    free = shows.free_pages ∙ counted_free b.pages space s shows.pages counted;
  }

  pub left_alone : IsLeftAlone b
  left_alone t lawful a v w old new s s' by name verb reply shows shows' h d c changed idle =
      let same = d.alone refl in
      let l = d.effect in
      let g = ground_is_lawful b.pages b.bands b.reader b.recovers t in
      let after = leaves_after t (pages_ground b.pages b.bands b.reader t) by name verb (reading s) (reading s') l (slot_formed old s h name).0 in
      let objects_are : objects (reading s') ≡ (step t (objects (reading s)) (On name verb)).1 = g.laws.after_objects (done_by (reading s) by name verb l.root l.bands) (reading s) (reading s') after in
      let nothing_else : (step t (objects (reading s)) (On name verb)).1 ≡ objects (reading s) = sym objects_are ∙ ap (λ (x : Contents). objects (reading x)) same.1 in
      let none : c.made ≡ [] = nothing_made b t v.first a c.made v.log c.are (subst (λ (l : List (Numbered Change (List ℕ))). (tally l).opened ≡ []) changed.log idle) in
      record {
        log = changed.log ∙ ap (λ (rs : List (Numbered Change (List ℕ))). rs ++ v.log) none;
        pages = shows'.free_pages ∙ (ap (λ (x : Space). x.pages.free) same.0 ∙ sym shows.free_pages);
        same = nothing_else;
        stock = looked_stock t (reading s) name verb (sym d.note_is) (ap is_ok d.outcome_is) nothing_else;
      }

  pub refused_so : IsRefusedSo b
  refused_so t a v w old new s s' by name verb reason note shows shows' d c changed idle =
      let same = d.alone d.note_is in
      let none : c.made ≡ [] = nothing_made b t v.first a c.made v.log c.are (subst (λ (l : List (Numbered Change (List ℕ))). (tally l).opened ≡ []) changed.log idle) in
      record {
        said = step_said b t (reading s) name verb (Err reason) d.outcome_is;
        log = changed.log ∙ ap (λ (rs : List (Numbered Change (List ℕ))). rs ++ v.log) none;
        pages = shows'.free_pages ∙ (ap (λ (x : Space). x.pages.free) same.0 ∙ sym shows.free_pages);
      }

  pub noted_so : IsNotedSo b
  noted_so t lawful a w old new s s' name verb reply note count shows' h counted d some named bytes puts =
      let l = d.effect in
      let th : Option Thing = get (reading s).things name in
      let by : ℕ = a.transaction in
      let reads = read_so b t w new s' shows' d.contents in
      let nothing : noted verb th ≡ WasNothing → ⊥ = λ e. some (d.note_is ∙ ap (note_bytes name) e) in
      let back = note_back (record { is = d.note_is; named = named; fields = noted_fields t old s h name verb reply d.outcome_is nothing }) in
      let counted' = d.counted counted in
      let sum = counted_sum b.pages old s count counted in
      let sum' = counted_sum b.pages new s' shows'.pages counted' in
      let took = d.taken.pages in
      record {
        verb = done_by (reading s) by name verb l.root l.bands;
        is = refl;
        now = reading s';
        reads = contents_read t w new s' shows' d.contents counted';
        does = λ lsn undo_next. left_does b.pages b.bands b.reader b.recovers t lawful old s h by name verb (reading s') reply bytes l d.outcome_is nothing (tally w.log).opened (puts l) (pages_of t (ground_of b) w) reads note back lsn undo_next;
        stock = λ at steps. subst (λ (k : UndoNote). Accepts t (objects (reading s)) (record { marks = marks_of (reading s); steps = steps }) by name verb
            (record { marks = marks_of (reading s'); steps = record { transaction = by; at = at; name = k.name; kind = kind_of k.undoes } ∷ steps })) (sym back)
            (verb_stock t old new s s' by name verb (no_empty s) (no_empty s') h d.contents l d.peak (ap is_ok d.outcome_is) (noted verb th) refl at steps);
        took = (let z : (b.pages - (reading s).pages) + (needed verb th).reserve ≤ (b.pages - (reading s').pages) + (needed verb th).pages = omega (arith, sum, sum', took) in z);
        buried = after_verb t by name verb (reading s) (reading s') l;
        reserves = wanted_one b t (record { lsn = 0; transaction = 0; undo_next = 0; note = (ground_of b).note note; changes = [] }) ∙ (ap (λ (n : UndoNote). one_if (wants_page n.undoes)) back ∙ wants_so verb th);
      }

  pub reverse_possible : ReverseIsPossible b
  reverse_possible t a v space o n shows can =
      let cs = found_by (map_bands_of b.pages b.bands) n.changes in
      let p = some_back o (note_said n.note) (back t (note_said n.note).undoes cs (slot o (note_said n.note).name)) can.possible in
      let rest = none_else (note_said n.note).undoes in
      record {
        th = p.0;
        possible = p.1;
        plain = λ other. (
          (let found : found_of (map_bands_of b.pages b.bands) (note_said n.note) n.changes ≡ [] = bytes_plain (note_said n.note).undoes cs other in
              let back : PutsBack [] a.pages (pages_of t (ground_of b) v) = subst (λ (f : List Before). PutsBack f a.pages (pages_of t (ground_of b) v)) found can.back.puts in
              let same : pages_of t (ground_of b) v ≡ a.pages = λ i. record { size = back.size i; pages = back.pages i; bands = λ k. back.bands k i } in
              ap (ground_of b).reading same ∙ can.reads),
          sym (back_plain t (note_said n.note).undoes cs (slot o (note_said n.note).name) other) ∙ p.1,
        );
        free = record {
          pages = (let e = wanted_one b t n in let f = wants_back (note_said n.note).undoes in let k = can.page in let z = shows.free_pages in omega (arith, e, f, k, z));
          bands = (let e = rest.0 in omega (arith, e));
        };
      }

  pub bytes_back : BytesAreBack b
  bytes_back t a v space o n shows taken can =
      let x : State = pages_of t (ground_of b) v in
      let m = mapped reading (b.reader.contents a.pages) o can.reads in
      let r = moved b t a.pages m.0 b.pages space.pages.count b.bands space.bands.count (sym shows.pages) (sym shows.bands) (b.reader.sound a.pages m.0 m.1) in
      let has = taken m.0 r in
      record {
        contents = m.0;
        reads = space_reads (with_bands space a.pages.bands) a.pages m.0 r (record {
          pages = λ p i. has.pages p i ∙ ap (λ (f : ℕ → Option Sheet). f p) can.back.puts.pages;
          bands = λ k i. ap (λ (o : Option (List ℕ)). option_map (λ _. a.pages.bands k) o) (has.bands k i);
          map = λ k less e. has.map k less (none_back (a.pages.bands k) (space.bands.at k) e);
        });
        same = m.2;
        put_back = λ k bytes e. (let z = some_there (a.pages.bands k) (space.bands.at k) bytes e in
            sym (shows.part.bands k z.0) ∙ ap (λ (xs : List ℕ). Some xs) (can.back.puts.bands k ∙ ap (λ (xs : List ℕ). put_on (found_of (map_bands_of b.pages b.bands) (note_said n.note) n.changes) k xs) z.1));
        none = λ k e. none_back (a.pages.bands k) (space.bands.at k) e;
      }

  pub reversed_so : IsReversedSo b
  reversed_so t w was new s s' n th count shows' counted possible d =
      let reads = read_so b t w new s' shows' d.contents in
      let counted' = d.counted counted in
      let sum = counted_sum b.pages was s count counted in
      let sum' = counted_sum b.pages new s' shows'.pages counted' in
      let took = d.taken.pages in
      let wants = wanted_one b t n ∙ wants_back (note_said n.note).undoes in
      record {
        undone = left_undone b.pages b.bands b.reader b.recovers t n (pages_of t (ground_of b) w) (reading s) (reading s') th reads possible d.leaves;
        now = reading s';
        reads = contents_read t w new s' shows' d.contents counted';
        stock = undone_marks t (found_by (map_bands_of b.pages b.bands) n.changes) (note_said n.note).name (note_said n.note).undoes th (reading s) (reading s')
            possible d.leaves (no_empty s) (no_empty s') d.peak;
        took = (let z : (b.pages - (reading s).pages) ≤ (b.pages - (reading s').pages) + wants_one (setting t (ground_of b)) n = omega (arith, sum, sum', took, wants) in z);
        buried = after_undo (note_said n.note).undoes (note_said n.note).name th (reading s) (reading s') d.leaves;
      }

  pub freed_so : IsFreedSo b
  freed_so t w old new s s' by row was shows' h found f =
      let x : State = pages_of t (ground_of b) w in
      let reads = read_so b t w new s' shows' h in
      let there = tomb_there s by row found in
      let dropped = tomb_dropped s by row was.once found in
      record {
        dropper = dropped.0.dropper;
        was = record { root = row.root.0; name = row.name; tomb = dropped.0; there = dropped.1; dropper = refl; cell = refl };
        of = dropped.2;
        freed = read_frees (setting_of (model_cells t (pages_ground b.pages b.bands b.reader t))) (List ℕ) note_said (tomb_cell row.name row.root.0) x (reading s) (forgot_frees t (pages_ground b.pages b.bands b.reader t) row.name row.root.0 x (reading s) (reading s') reads f);
        stock = forgot_freed row.name row.root.0 (reading s) (reading s') dropped.0 (no_empty s) (no_empty s') dropped.1 f;
        fewer = forgets_one row.name row.root.0 s s' there.0 f there.1;
        left = after_free row.name row.root.0 (reading s) (reading s') f;
      }

  pub nothing_buried : NoneIsBuried b
  nothing_buried s None e = none_buried no_empty s e
  nothing_buried s (Some u) e = none_of s u e
