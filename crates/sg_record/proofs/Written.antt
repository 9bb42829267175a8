-- The bytes of a record that was written.
use Rattle.std.proofs.Common.{◌≡◌, ℕ, ◌+◌, List, ◌++◌, length, drop, ap, ◌∙◌, subst}
use Rattle.sg_base.specs.Overwritten.{Wrote}
use Rattle.sg_base.proofs.Overwriting.{wrote_front}
use Rattle.sg_record.specs.Records.{Record, Says, HEADER, header, kind_of, code_of, body_of, spelled}

pub encoded : (old new : List ℕ) (next : ℕ) (r : Record) (says : Says) (code size t p : ℕ) → says ≡ r.says → code ≡ code_of (kind_of says) → size ≡ HEADER + length (body_of says) → t ≡ r.transaction → p ≡ r.previous
    → Wrote old 0 (header code size t p ++ body_of says) new next → new ≡ spelled r ++ drop (length (spelled r)) old
unfolding spelled
encoded old new next r says code size t p says_is code_is size_is t_is p_is w =
    let is : header code size t p ++ body_of says ≡ header (code_of (kind_of r.says)) (HEADER + length (body_of r.says)) r.transaction r.previous ++ body_of r.says =
    ap (λ (k : ℕ). header k size t p ++ body_of says) code_is
    ∙ (ap (λ (n : ℕ). header (code_of (kind_of says)) n t p ++ body_of says) size_is
    ∙ (ap (λ (n : ℕ). header (code_of (kind_of says)) (HEADER + length (body_of says)) n p ++ body_of says) t_is
    ∙ (ap (λ (n : ℕ). header (code_of (kind_of says)) (HEADER + length (body_of says)) r.transaction n ++ body_of says) p_is
    ∙ ap (λ (s : Says). header (code_of (kind_of s)) (HEADER + length (body_of s)) r.transaction r.previous ++ body_of s) says_is))) in
    subst (λ (xs : List ℕ). new ≡ xs ++ drop (length xs) old) is (wrote_front w)
