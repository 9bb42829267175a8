-- A record that is read back is the step with its number.
use Rattle.std.proofs.Common.{◌≡◌, inl, inr, ℕ, List, [], ◌∷◌, ◌++◌, length, Option, Some, None, IsSome, refl, sym, ap, ◌∙◌}
use Rattle.std.specs.Prelude.{Ok}
use Rattle.sg_disk.specs.Disk.{View}
use Rattle.sg_log.specs.Frames.{Numbered}
use Rattle.sg_log.specs.Held.{Tail, Holds}
use Rattle.sg_log.specs.Places.{StandsAt, IsRecordText, IsThere}
use Rattle.sg_log.proofs.Standing.{there}
use Rattle.sg_record.specs.Ranges.{IsRecord}
use Rattle.sg_record.specs.Reading.{parse}
use Rattle.sg_record.specs.Records.{Record, spelled}
use Rattle.sg_record.proofs.Parsing.{parse_back, spelled_first}
use Rattle.sg_actions.specs.Steps.{Step, step_of, step_at}
use Rattle.sg_phys_laws.specs.States.{steps_of}
use Rattle.sg_phys_laws.proofs.Found.{found}

no_more : (xs : List ℕ) → xs ++ [] ≡ xs
no_more [] = refl
no_more (x ∷ xs) = ap (λ (l : List ℕ). x ∷ l) (no_more xs)

pub parse_text : (bytes : List ℕ) (n : ℕ) (w : IsRecordText bytes n) → parse bytes ≡ Ok (w.is, length bytes)
parse_text bytes n w =
    ap parse (w.text ∙ sym (no_more (spelled w.is))) ∙ (parse_back w.is [] w.fields ∙ ap (λ (l : ℕ). Ok (w.is, l)) (ap length (sym w.text)))

some_of : (o : Option Step) → IsSome o → (x : Step) × (o ≡ Some x)
some_of None h = absurd cc
some_of (Some x) h = (x, refl)

fields_there : (v : View) (log : Tail) (at : ℕ) (r : Record) → IsThere v log at r → IsRecord r
fields_there v log at r (inl d) = d.fields
fields_there v log at r (inr w) = w.fields

pub read_step : (v : View) (log : Tail) (ds ps : List Numbered) (at : ℕ) (bytes : List ℕ) (n : ℕ) (w : IsRecordText bytes n) → Holds v log ds ps → IsSome (step_at (steps_of (ds ++ ps)) at)
    → ((r : Record) → StandsAt (ds ++ ps) at r → bytes ≡ spelled r) → step_at (steps_of (ds ++ ps)) at ≡ step_of w.is
read_step v log ds ps at bytes n w holds some reads =
    let x = some_of (step_at (steps_of (ds ++ ps)) at) some in
    let f = found (ds ++ ps) at x.0 x.1 in
    let range = fields_there v log at f.r (there holds at f.r f.stands) in
    let same = (spelled_first f.r w.is [] [] range w.fields (no_more (spelled f.r) ∙ (sym (reads f.r f.stands) ∙ (w.text ∙ sym (no_more (spelled w.is)))))).0 in
    x.1 ∙ (sym f.is ∙ ap step_of same)

-- a step is a record that stands in the log
pub step_stands : (ns : List Numbered) (at : ℕ) → IsSome (step_at (steps_of ns) at) → (r : Record) × StandsAt ns at r
step_stands ns at some = let x = some_of (step_at (steps_of ns) at) some in let f = found ns at x.0 x.1 in (f.r, f.stands)
