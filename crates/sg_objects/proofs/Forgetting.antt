-- What undoes a put of a new key.
use Rattle.std.proofs.Common.{◌≡◌, Bool, ℕ, List, [], length, Option, Some, None, Ok, refl, sym, ap, ◌∙◌, subst, arith, inl, inr}
use Rattle.std.specs.FinMap.{get, remove}
use Rattle.std.proofs.lemmas.Bool.{cases_lt, cases_eq}
use Rattle.sg_hash.specs.Table.{HashTable, value_at, page_count}
use Rattle.sg_hash.specs.Calls as table
use Rattle.sg_catalog.specs.declared.row.ObjectKind.TheVariants as kinds
use Rattle.sg_model.specs.declared.reason.Reason.{Reason}
use Rattle.sg_model.specs.declared.reason.Reason.TheVariants.{OutOfRange, TooLong}
use Rattle.sg_model.specs.Objects.{Entries}
use Rattle.sg_model.specs.Objects.Object.{Table as AsTable}
use Rattle.sg_model.specs.Step.{on_table, at_key, updated}
use Rattle.sg_model.specs.Verb.{Outcome, Reply}
use Rattle.sg_space.specs.View.{Space}
use Rattle.sg_reading.specs.Reading.{Thing, plain}
use Rattle.sg_reading.specs.Reading.Thing.{There}
use Rattle.sg_reading.specs.Back.{rebuilt, if_done, forget}
use Rattle.sg_reading.specs.Back.Undoing.{WasPut}
use Rattle.sg_contents.specs.Standing.{Body, Contents, IsContents}
use Rattle.sg_contents.specs.Standing.Body.{ATable}
use Rattle.sg_contents.specs.Changes.{with_body, BodyTurns}
use Rattle.sg_contents.specs.Meaning.{reading, thing_of, map_of}
use Rattle.sg_objects.specs.Found.{IsAt, IsMissing}
use Rattle.sg_objects.specs.Undone.{IsUndone}
use Rattle.sg_objects.specs.Needs.{pages_alone}
use Rattle.sg_objects.proofs.Bodies.{body_undone, pages_taken}
use Rattle.sg_objects.proofs.Tables.{table_under, table_turns, missing_table, empty_key, long_key, at_this_key, table_thing, without_key, none_still}
use Rattle.sg_objects.proofs.Undoing.{refused_none, was_done, not_both}

-- a change of a table, carried out
abbrev pub carried_table : (Entries → Outcome × Entries) → Option Thing → Option (Option Thing)
carried_table change th = let r = on_table change (plain th) in if_done r.0 (rebuilt th r.1)

pub no_table : {space : Space} {s : Contents} (name : List ℕ) (change : Entries → Outcome × Entries) (reason : Reason) (th : Option Thing) → IsContents space s → IsMissing kinds.Table s name reason → carried_table change (get (reading s).things name) ≡ Some th → ⊥
no_table {space} {s} name change reason th h m e = refused_none _ reason _ th (missing_table s name change reason h m) e

forgotten : (o : Option (List ℕ)) (m : Entries) (key : List ℕ) (reply : Reply) → (forget o).0 ≡ Ok reply → updated m key (forget o).1 ≡ remove m key
forgotten None m key reply e = absurd (cc)
forgotten (Some v) m key reply e = refl

-- where the key was forgotten, the map lacks it now
pub forgot : (key : List ℕ) (m : Entries) (reply : Reply) → (at_key key forget m).0 ≡ Ok reply → (at_key key forget m).1 ≡ remove m key
forgot key m reply ok = elim (cases_eq (length key) 0) [
  | inl e ↦ absurd (not_both (at_key key forget m).0 reply OutOfRange ok (empty_key key forget m e))
  | inr ne ↦ elim (cases_lt 128 (length key)) [
    | inl long ↦ absurd (not_both (at_key key forget m).0 reply TooLong ok (long_key key forget m long))
    | inr short ↦ (
        let all = at_this_key key forget m (omega (arith, ne)) short in
        ap (λ (r : Outcome × Entries). r.1) all ∙ forgotten (get m key) m key reply (sym (ap (λ (r : Outcome × Entries). r.0) all) ∙ ok))
  ]
]

pub undo_put_done : {old new : Space} {s : Contents} {root : ℕ} {a a' : HashTable} (name key : List ℕ) (was : Bool) (th : Option Thing) → IsContents old s → (f : IsAt kinds.Table s name root) → s.body root ≡ ATable a → value_at a [] ≡ None → carried_table (at_key key forget) (get (reading s).things name) ≡ Some th → table.Turns old new root a a' → table.IsDeleted key was a a' → IsUndone (WasPut key) name old new s th (with_body root (ATable a') s)
undo_put_done {old} {new} {s} {root} {a} {a'} name key was th h f is none e turns d =
    let here : carried_table (at_key key forget) (Some (thing_of root (ATable a))) ≡ Some th = ap (carried_table (at_key key forget)) (sym (table_under f is)) ∙ e in
    let w = was_done (at_key key forget (map_of a)).0 (Some (There (AsTable (at_key key forget (map_of a)).1) (record { root = root; peak = a.peak; bands = [] }))) th here in
    let map = forgot key (map_of a) w.0 w.1 ∙ sym (without_key a a' key was d) in
    let few = d.few in
    body_undone (WasPut key) refl name th (ATable a') h f
    (subst (λ (b : Body). BodyTurns old new kinds.Table root b (ATable a')) (sym is) (table_turns turns (none_still a a' key was d none)))
    (w.2 ∙ table_thing root a.peak a'.peak (at_key key forget (map_of a)).1 (map_of a') map (sym d.peak))
    (pages_taken (pages_alone 0) (page_count a) (page_count a') (turns.pages).exactly turns.bands (omega arith))
