-- The clauses of what was read.
use Rattle.std.proofs.Common.{◌≡◌, ℕ, ◌++◌, List, length, take, Result, Ok, Err, IfOk, sym, ap, ◌∙◌}
use Rattle.std.proofs.lemmas.Result.{IfOk-weaker}
use Rattle.sg_base.specs.Bytes.{IsBytes}
use Rattle.sg_record.specs.Records.{Record, spelled}
use Rattle.sg_record.specs.Ranges.{IsRecord}
use Rattle.sg_record.specs.Reading.{parse}
use Rattle.sg_record.specs.Shown.{shown, shown_read}
use Rattle.sg_record.specs.declared.record.Rec as code
use Rattle.sg_record.specs.declared.record.RecError.{RecError}
use Rattle.sg_record.proofs.Parsing.{Spells, parse_only, parse_back}

abbrev pub Outcome : Type 0
Outcome = Result (code.Rec × ℕ) RecError

all : (bytes : List ℕ) (r : Outcome) → IsBytes bytes → shown_read r ≡ parse bytes → IfOk r (λ p. Spells (shown p.0) p.1 (take p.1 bytes))
all bytes (Ok p) are h = parse_only bytes (shown p.0) p.1 are (sym h)
all bytes (Err e) are h = tt

pub spelling : (bytes : List ℕ) (r : Outcome) → IsBytes bytes → shown_read r ≡ parse bytes → IfOk r (λ p. take p.1 bytes ≡ spelled (shown p.0))
spelling bytes r are h = IfOk-weaker r (λ p. Spells (shown p.0) p.1 (take p.1 bytes)) _ (λ p s. s.text_is) (all bytes r are h)

pub size : (bytes : List ℕ) (r : Outcome) → IsBytes bytes → shown_read r ≡ parse bytes → IfOk r (λ p. p.1 ≡ length (spelled (shown p.0)))
size bytes r are h = IfOk-weaker r (λ p. Spells (shown p.0) p.1 (take p.1 bytes)) _ (λ p s. s.size_is) (all bytes r are h)

pub range : (bytes : List ℕ) (r : Outcome) → IsBytes bytes → shown_read r ≡ parse bytes → IfOk r (λ p. IsRecord (shown p.0))
range bytes r are h = IfOk-weaker r (λ p. Spells (shown p.0) p.1 (take p.1 bytes)) _ (λ p s. s.fields) (all bytes r are h)

pub back : (bytes : List ℕ) (r : Outcome) → shown_read r ≡ parse bytes → (x : Record) (rest : List ℕ) → IsRecord x → bytes ≡ spelled x ++ rest → shown_read r ≡ Ok (x, length (spelled x))
back bytes r h x rest is e = h ∙ (ap parse e ∙ parse_back x rest is)
