-- The operation of a change that may be made is registered.
use Rattle.std.proofs.Common.{◌≡◌, ◌⊎◌, ⊎_elim, ℕ, ◌==◌, Bool, true, false, cond, List, ◌∷◌, Option, Some, None, IsSome, is_some, filter, map, refl, sym, ap, ◌∙◌, subst, arith}
use Rattle.std.specs.Prelude.{◌||◌, ◌&&◌, not, nat_le, if◌then◌else◌, option_map, option_and_then, slice_set}
use Rattle.std.proofs.lemmas.Bool.{cases_eq}
use Rattle.std.proofs.lemmas.Bool.Decides.{nat_tests}
use Rattle.sg_base.specs.Op.{Op}
use Rattle.sg_base.specs.Op.Op.{Item, ItemBack}
use Rattle.sg_base.specs.Sheet.{Sheet}
use Rattle.sg_log.specs.Frames.{Numbered}
use Rattle.sg_ops.specs.Meaning.{RecordMeaning, RangeMeaning}
use Rattle.sg_ops.specs.Steps.{item_after, item_before, change_in, with_slots}
use Rattle.sg_ops.specs.Table.{Table, record_at, range_at, accepts_of, after_of}
use Rattle.sg_record.specs.Changes.{Change as Changing, PageChange, BandOp}
use Rattle.sg_record.specs.Changes.Change.{Page, SegOp}
use Rattle.sg_record.specs.Records.{Record, Says}
use Rattle.sg_record.specs.Records.Says.{Begin, Changed, TopEnd, PhysComp, TopVoid, CompEnd, Save, Commit, End, Checkpoint}
use Rattle.sg_recovery.specs.Log.{Open, tally, is_in}
use Rattle.sg_recovery.specs.Log.Record.{Change as StepChange}
use Rattle.sg_recovery.proofs.Basic.{or_left, or_right}
use Rattle.sg_redo.specs.Places.{op_said, changed_by}
use Rattle.sg_action.specs.States.{step_leaf}
use Rattle.sg_places.specs.Asked.{unknown_in}
use Rattle.sg_actions.specs.Steps.{Steps, step_by, step_at}
use Rattle.sg_phys_laws.specs.Known.{IsEnough}
use Rattle.sg_phys_laws.specs.Points.{redo_point}
use Rattle.sg_phys_laws.specs.States.{steps_of}
use Rattle.sg_phys_laws.proofs.Backward.{system_opens}
use Rattle.sg_phys_laws.proofs.Enough.{needed_by, needed_registered}
use Rattle.sg_phys_laws.proofs.Found.{found}

-- a change of an item that is defined of none fits no page
no_item : (sheet : Sheet) (slot : ℕ) (change : List ℕ → Option (List ℕ)) (o : Option (List ℕ)) → ((item : List ℕ) → change item ≡ None)
    → is_some (with_slots sheet (option_map (λ cell. slice_set sheet.slots slot (Some cell)) (option_and_then change o))) ≡ false
no_item sheet slot change None none = refl
no_item sheet slot change (Some item) none = ap (λ (o : Option (List ℕ)). is_some (with_slots sheet (option_map (λ cell. slice_set sheet.slots slot (Some cell)) o))) (none item)

both : {P : Type 0} (b : Bool) → b ≡ true → b ≡ false → P
both b t f = absurd cc

-- an operation that isn't registered accepts no item
none_accepts : (item arg : List ℕ) → accepts_of None item arg ≡ false
unfolding accepts_of
none_accepts item arg = refl

-- WHERE AN OPERATION ON AN ITEM FITS, or its undo, it is registered
fits_item : (t : Table) (slot code : ℕ) (arg : List ℕ) (x : Option Sheet) → is_some (step_leaf t (Item slot code arg) x) ≡ true → is_some (record_at t code) ≡ true
fits_item t slot code arg None e = absurd cc
fits_item t slot code arg (Some sheet) e = by (record_at t code) e
  where
    by : (o : Option RecordMeaning) → is_some (with_slots sheet (change_in sheet.slots slot (item_after o arg))) ≡ true → is_some o ≡ true
    by None fits = both _ fits (no_item sheet slot (item_after None arg) _ (λ item. ap (λ (b : Bool). if b then Some (after_of None item arg) else None) (none_accepts item arg)))
    by (Some m) fits = refl

fits_back : (t : Table) (slot code : ℕ) (arg : List ℕ) (x : Option Sheet) → is_some (step_leaf t (ItemBack slot code arg) x) ≡ true → is_some (record_at t code) ≡ true
fits_back t slot code arg None e = absurd cc
fits_back t slot code arg (Some sheet) e = by (record_at t code) e
  where
    by : (o : Option RecordMeaning) → is_some (with_slots sheet (change_in sheet.slots slot (item_before o arg))) ≡ true → is_some o ≡ true
    by None fits = both _ fits (no_item sheet slot (item_before None arg) _ (λ item. refl))
    by (Some m) fits = refl

-- SO THE OPERATION of a change that fits its page is registered,
pub page_known : (t : Table) (c : PageChange) (x : Option Sheet) → is_some (step_leaf t (op_said c) x) ≡ true → unknown_in t (Some (Page c)) ≡ None
page_known t c x fits = ⊎_elim
    (λ six. named (c.operation == 6 || c.operation == 7) (is_some (record_at t c.code)) (fits_item t c.slot c.code c.after x (sym (ap (λ (n : ℕ). is_some (step_leaf t (said n) x)) six) ∙ fits)))
    (λ no_item. ⊎_elim
    (λ seven. named (c.operation == 6 || c.operation == 7) (is_some (record_at t c.code)) (fits_back t c.slot c.code c.after x (sym (ap (λ (n : ℕ). is_some (step_leaf t (said n) x)) seven) ∙ fits)))
    (λ no_back. neither (c.operation == 6) (c.operation == 7) (not (is_some (record_at t c.code))) (grind (arith, nat_tests, no_item)) (grind (arith, nat_tests, no_back)))
    (cases_eq c.operation 7))
    (cases_eq c.operation 6)
  where
    said : ℕ → Op
    said n = op_said (record c { operation = n })

    named : (b k : Bool) → k ≡ true → (if b && not k then Some c.code else None) ≡ None
    named true true is = refl
    named false true is = refl
    named b false is = absurd cc

    neither : (a b k : Bool) → a ≡ false → b ≡ false → (if (a || b) && k then Some c.code else None) ≡ None
    neither true b k first second = absurd cc
    neither false true k first second = absurd cc
    neither false false k first second = refl

-- and one of a range of which it is said
pub range_known : (t : Table) (c : BandOp) → IsSome (range_at t c.code) → unknown_in t (Some (SegOp c)) ≡ None
range_known t c some = by (range_at t c.code) some
  where
    by : (o : Option RangeMeaning) → IsSome o → (if is_some o then None else Some c.code) ≡ None
    by None h = absurd cc
    by (Some m) h = refl

-- a record that is a step of a change says that change
said_change : (u p : ℕ) (says : Says) (v q : ℕ) (c : Changing) → step_by u p says ≡ Some (StepChange v q c) → (u ≡ v) × (changed_by says ≡ Some c)
said_change u p Begin v q c e = absurd cc
said_change u p (Changed d) v q c e = (cc, cc)
said_change u p (TopEnd w n) v q c e = absurd cc
said_change u p (PhysComp w d) v q c e = absurd cc
said_change u p (TopVoid w) v q c e = absurd cc
said_change u p (CompEnd w) v q c e = absurd cc
said_change u p (Save m) v q c e = absurd cc
said_change u p Commit v q c e = absurd cc
said_change u p End v q c e = absurd cc
said_change u p (Checkpoint x l) v q c e = absurd cc

-- THE OPERATION OF THE LAST OPEN CHANGE, of a transaction that goes on or of the system, is registered where enough is
module _ (t : Table) (base : ℕ) (ns : List Numbered) (d : Open Changing) (others : List (Open Changing)) (p : ℕ) (c : Changing) (last : (tally (steps_of ns)).opened ≡ d ∷ others) (goes : (d.transaction ≡ 0) ⊎ (is_in d.transaction (tally (steps_of ns)).live ≡ true)) where
  abbrev rs : Steps
  rs = steps_of ns

  is_system : d.transaction ≡ 0 → is_in d.lsn (system_opens (tally rs).opened) ≡ true
  is_system is =
      subst (λ (ds : List (Open Changing)). is_in d.lsn (system_opens ds) ≡ true) (sym last)
      (by_test (d.transaction == 0) (grind (arith, nat_tests, is)))
    where
      itself : (d.lsn == d.lsn) ≡ true
      itself = grind (arith, nat_tests)

      by_test : (b : Bool) → b ≡ true → is_in d.lsn (map (λ e. e.lsn) (cond b (d ∷ filter (λ e. e.transaction == 0) others) (filter (λ e. e.transaction == 0) others))) ≡ true
      by_test true h = or_left (d.lsn == d.lsn) _ itself
      by_test false h = absurd cc

  need : (r : Record) → r.transaction ≡ d.transaction → needed_by (redo_point base ns) rs d.lsn r ≡ true
  need r whose = or_right (nat_le (redo_point base ns) d.lsn) (is_in r.transaction (tally rs).live || (r.transaction == 0 && is_in d.lsn (system_opens (tally rs).opened)))
      (⊎_elim
      (λ system. or_right (is_in r.transaction (tally rs).live) (r.transaction == 0 && is_in d.lsn (system_opens (tally rs).opened)) (two (r.transaction == 0) (is_in d.lsn (system_opens (tally rs).opened)) (grind (arith, nat_tests, whose, system)) (is_system system)))
      (λ lives. or_left (is_in r.transaction (tally rs).live) (r.transaction == 0 && is_in d.lsn (system_opens (tally rs).opened)) (ap (λ (u : ℕ). is_in u (tally rs).live) whose ∙ lives))
      goes)
    where
      two : (a b : Bool) → a ≡ true → b ≡ true → (a && b) ≡ true
      two true b h k = k
      two false b h k = absurd cc

  pub open_known : IsEnough t base ns → step_at rs d.lsn ≡ Some (StepChange d.transaction p c) → unknown_in t (Some c) ≡ None
  open_known enough stands =
      let f = found ns d.lsn (StepChange d.transaction p c) stands in
      let said = said_change f.r.transaction f.r.previous f.r.says d.transaction p c f.is in
      subst (λ (x : Option Changing). unknown_in t x ≡ None) said.1 (needed_registered t base ns d.lsn f.r enough f.stands (need f.r said.0))
