-- The bytes of a note say it.
use Rattle.std.proofs.Common.{◌≡◌, ℕ, Bool, List, [], take, drop, ap, ◌∙◌}
use Rattle.std.specs.Prelude.{if◌then◌else◌}
use Rattle.sg_reading.specs.Back.{Undoing}
use Rattle.sg_objects.specs.Notes.{byte_at, undoing_said, rest_said, note_said, IsNote}
use Rattle.sg_objects.proofs.Parsing.{parts, name_read, rest_read, said, whole_said}

-- THE BYTES OF A NOTE say its name and what it undoes
pub note_back : {bytes name : List ℕ} {u : Undoing} → IsNote bytes name u → note_said bytes ≡ record { name = name; undoes = u }
note_back {bytes} {name} {u} n =
    let p = parts n in
    let undoes : undoing_said (byte_at bytes 0) (rest_said bytes) ≡ u = (λ i. undoing_said (p.code i) (rest_read p i)) ∙ said u n.fields in
    let named = ap (λ (b : Bool). if b then take (byte_at bytes 1) (drop 2 bytes) else []) (whole_said n) ∙ name_read p in
    λ i. record { name = named i; undoes = undoes i }
