-- The bytes of records.
use Rattle.std.proofs.Common.{◌≡◌, ◌≤◌, ◌+◌, List, [], ◌∷◌, length, refl, ◌∙◌, ap, arith, length-append}
use Rattle.sg_record.specs.Records.{Record, HEADER, header, code_of, kind_of, body_of, spelled}
use Rattle.sg_record.proofs.Parsing.{spelled_first}
use Rattle.sg_log.specs.Texts.{spelled_all, AreRecords}

-- a record has a header
pub spelled-long : (r : Record) → HEADER ≤ length (spelled r)
unfolding spelled
spelled-long r = omega (arith, length-append (header (code_of (kind_of r.says)) (HEADER + length (body_of r.says)) r.transaction r.previous) (body_of r.says))

-- the records of a text are one list at most
pub spelled_all-one : (rs ss : List Record) → AreRecords rs → AreRecords ss → spelled_all rs ≡ spelled_all ss → rs ≡ ss
spelled_all-one [] [] h k e = refl
spelled_all-one [] (s ∷ ss) h k e = absurd (omega (arith, ap length e, length-append (spelled s) (spelled_all ss), spelled-long s))
spelled_all-one (r ∷ rs) [] h k e = absurd (omega (arith, ap length e, length-append (spelled r) (spelled_all rs), spelled-long r))
spelled_all-one (r ∷ rs) (s ∷ ss) h k e =
    let first = spelled_first r s (spelled_all rs) (spelled_all ss) h.0 k.0 e in
    let P : Record → List Record → List Record = λ x xs. x ∷ xs in
    ap (λ (x : Record). P x rs) first.0 ∙ ap (P s) (spelled_all-one rs ss h.1 k.1 first.1)
