-- Why a verb on an array is refused, and the bytes of a note.
use Rattle.std.proofs.Common.{◌≡◌, ◌≢◌, ℕ, ◌≤◌, Bool, false, cond, not, List, [], ◌∷◌, ◌++◌, length, take, Option, Ok, Err, ap, ◌∙◌, arith}
use Rattle.std.specs.Prelude.{nat_lt, ◌==◌}
use Rattle.std.specs.FinMap.{get}
use Rattle.std.proofs.Math.Seq.{take-append_seam}
use Rattle.std.proofs.lemmas.Bool.Decides.{nat_tests}
use Rattle.sg_base.specs.Overwritten.{Wrote}
use Rattle.sg_base.proofs.Overwriting.{wrote_front}
use Rattle.sg_array.specs.Array.{Array, IsArray}
use Rattle.sg_catalog.specs.declared.row.ObjectKind.TheVariants as kinds
use Rattle.sg_model.specs.declared.reason.Reason.{Reason}
use Rattle.sg_model.specs.declared.reason.Reason.TheVariants.{Declined, TooMany}
use Rattle.sg_model.specs.Objects.{Row as Items}
use Rattle.sg_model.specs.Step.{push, on_array}
use Rattle.sg_model.specs.Verb.{Outcome}
use Rattle.sg_model.specs.Verb.Reply.{Number}
use Rattle.sg_space.specs.View.{Space}
use Rattle.sg_reading.specs.Reading.{Thing, plain}
use Rattle.sg_contents.specs.Standing.{Contents, IsContents}
use Rattle.sg_contents.specs.Standing.Body.{AnArray}
use Rattle.sg_contents.specs.Meaning.{reading}
use Rattle.sg_objects.specs.Found.{IsAt, IsArrayAt}
use Rattle.sg_objects.specs.declared.find.ArrayAt.{ArrayAt}
use Rattle.sg_objects.proofs.Located.{body_at, array_body, array_under}
use Rattle.sg_objects.proofs.Pushing.{items_of, same_size}

-- bytes that were written at the front are the first
pub wrote_taken : {old new bytes : List ℕ} {next : ℕ} → Wrote old 0 bytes new next → take next new ≡ bytes
wrote_taken {old} {new} {bytes} {next} w =
    let size : next ≡ length bytes = w.place ∙ omega arith in
    ap (λ (n : ℕ). take n new) size ∙ (ap (λ (xs : List ℕ). take (length bytes) xs) (wrote_front w) ∙ take-append_seam bytes _)

pub array_there : {space : Space} {s : Contents} {name : List ℕ} {root : ℕ} → IsContents space s → IsAt kinds.Array s name root → (a : Array) × (s.body root ≡ AnArray a) × IsArray space.pages.at root a
array_there {space} {s} {name} {root} h f = array_body space root (s.body root) (body_at h f)

-- a change of an array that refuses
pub refuses_array : (name : List ℕ) {s : Contents} {x : ArrayAt} (change : Items → Outcome × Items) (reason : Reason) (f : IsArrayAt name s x) → (change (items_of f.array)).0 ≡ Err reason → (on_array change (plain (get (reading s).things name))).0 ≡ Err reason
refuses_array name change reason f is = ap (λ (th : Option Thing). (on_array change (plain th)).0) (array_under f) ∙ is

pub push_unfit : (value : List ℕ) (row : Items) → length value ≢ row.size → (push value row).0 ≡ Err Declined
push_unfit value row ne =
    let unfit : (length value == row.size) ≡ false = grind (arith, nat_tests, ne) in
    ap (λ (b : Bool). (cond {A = Outcome × Items} (not b) (Err Declined, row) (cond {A = Outcome × Items} (not (nat_lt (length row.items) 1048576)) (Err TooMany, row) (Ok (Number (length row.items)), record row { items = row.items ++ value ∷ [] }))).0) unfit

pub push_full : (value : List ℕ) (row : Items) → length value ≡ row.size → 1048576 ≤ length row.items → (push value row).0 ≡ Err TooMany
push_full value row fits full =
    let many : nat_lt (length row.items) 1048576 ≡ false = grind (arith, nat_tests) in
    ap (λ (b : Bool). (cond {A = Outcome × Items} (not b) (Err Declined, row) (cond {A = Outcome × Items} (not (nat_lt (length row.items) 1048576)) (Err TooMany, row) (Ok (Number (length row.items)), record row { items = row.items ++ value ∷ [] }))).0) (same_size (length value) row.size fits)
    ∙ ap (λ (b : Bool). (cond {A = Outcome × Items} (not b) (Err TooMany, row) (Ok (Number (length row.items)), record row { items = row.items ++ value ∷ [] })).0) many
