-- A verb that is refused.
use Rattle.std.proofs.Common.{◌≡◌, ◌≢◌, ℕ, List, [], Option, Some, None, option_map, Err, refl, sym, ap, ◌∙◌, subst}
use Rattle.std.specs.FinMap.{get}
use Rattle.sg_ops.specs.Table.{Table as Operations}
use Rattle.sg_catalog.specs.Catalog.{rows, there, is_there}
use Rattle.sg_catalog.specs.declared.row.ObjectKind.{ObjectKind}
use Rattle.sg_catalog.specs.declared.row.ObjectKind.TheVariants as kinds
use Rattle.sg_model.specs.declared.reason.Reason.{Reason}
use Rattle.sg_model.specs.declared.reason.Reason.TheVariants.{NoObject, WrongKind, Exists, OutOfRange, NoOperation, Declined, TooLong, TooMany}
use Rattle.sg_model.specs.Objects.{Row as Items}
use Rattle.sg_model.specs.Step.{on, on_array}
use Rattle.sg_model.specs.Verb.{Verb, Outcome}
use Rattle.sg_space.specs.View.{View, Space, OnlyReads}
use Rattle.sg_reading.specs.Reading.{Thing, plain}
use Rattle.sg_contents.specs.Standing.{Body, Contents, IsContents, IsBody}
use Rattle.sg_contents.specs.Standing.Body.{AnArray, ATable, ABlob}
use Rattle.sg_contents.specs.Meaning.{thing_at, object_of, reading, IsCounted}
use Rattle.sg_contents.proofs.Among.{found_among}
use Rattle.sg_contents.proofs.Reading.{get_thing}
use Rattle.sg_objects.specs.Done.{IsDone}
use Rattle.sg_objects.specs.Found.{IsMissing, IsOther}
use Rattle.sg_objects.proofs.Located.{still_contents, peak_kept}

pub nothing_under : (s : Contents) (name : List ℕ) → there name (rows s.catalog) ≡ None → get (reading s).things name ≡ None
nothing_under s name none = get_thing s name ∙ ap (option_map (thing_at s.body)) none

not_array : (space : Space) (root : ℕ) (kind : ObjectKind) (b : Body) (change : Items → Outcome × Items) → kind ≢ kinds.Array → IsBody space kind root b → (on_array change (Some (object_of b))).0 ≡ Err WrongKind
not_array space root kinds.Array b change ne h = absurd (ne refl)
not_array space root kind (ATable t) change ne h = refl
not_array space root kind (ABlob b) change ne h = refl
not_array space root kinds.Table (AnArray a) change ne h = absurd h
not_array space root kinds.Blob (AnArray a) change ne h = absurd h

other_under : {space : Space} {s : Contents} (name : List ℕ) (change : Items → Outcome × Items) → IsContents space s → IsOther kinds.Array s name → (on_array change (plain (get (reading s).things name))).0 ≡ Err WrongKind
other_under {space} {s} name change h f =
    let row = f.row in
    let under = get_thing s name ∙ ap (option_map (thing_at s.body)) f.found in
    ap (λ (th : Option Thing). (on_array change (plain th)).0) under
    ∙ not_array space row.root.0 row.kind (s.body row.root.0) change f.kind_is (h.body row (found_among (is_there name) (rows s.catalog) row f.found))

-- a verb on an array, where there is none
pub missing_array : {space : Space} (s : Contents) (name : List ℕ) (change : Items → Outcome × Items) (reason : Reason) → IsContents space s → IsMissing kinds.Array s name reason → (on_array change (plain (get (reading s).things name))).0 ≡ Err reason
missing_array s name change NoObject h m = ap (λ (th : Option Thing). (on_array change (plain th)).0) (nothing_under s name m)
missing_array s name change WrongKind h m = other_under name change h m
missing_array s name change Exists h m = absurd m
missing_array s name change OutOfRange h m = absurd m
missing_array s name change NoOperation h m = absurd m
missing_array s name change Declined h m = absurd m
missing_array s name change TooLong h m = absurd m
missing_array s name change TooMany h m = absurd m

-- nothing has changed
pub refused : {v w : View} {s : Contents} (t : Operations) (by : ℕ) (name : List ℕ) (verb : Verb) (reason : Reason) (note : List ℕ) → OnlyReads v w → v.Shows → IsContents v.space s → (on t verb (plain (get (reading s).things name))).0 ≡ Err reason → note ≡ [] → IsDone t by name verb (Err reason) note v.space w.space s s
refused {s = s} t by name verb reason note k shows h is none = record {
  contents = still_contents k shows h;
  outcome_is = is;
  effect = refl;
  note_is = none;
  alone = λ e. (k.same shows, refl);
  counted = λ c. subst (λ (x : Space). IsCounted x s) (sym (k.same shows)) c;
  peak = peak_kept h.catalog;
  taken = tt;
}
