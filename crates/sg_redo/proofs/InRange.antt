-- A record whose fields are in their ranges makes a change that is in its range.
use Rattle.std.proofs.Common.{◌≡◌, ◌≤◌, ◌+◌, ℕ, Bool, true, false, if◌then◌else◌, nat_le, List, [], ◌∷◌, length, Option, Some, None, IfSome, refl, arith}
use Rattle.std.proofs.lemmas.Bool.Decides.{nat_tests}
use Rattle.sg_record.specs.Changes.{PageChange, BandBytes, BandOp}
use Rattle.sg_record.specs.Changes.Change.{Page, SegWrite, SegOp}
use Rattle.sg_record.specs.Ranges.{Field, first_out, change_fields, says_fields, is_part, position_fits, GREATEST, IsRecord}
use Rattle.sg_record.specs.Records.{Record, Says, HEADER, body_of, SaysFits}
use Rattle.sg_record.specs.Records.Says.{Changed, PhysComp}
use Rattle.sg_redo.specs.Places.{changed_by, IsInRange}

either : (b : Bool) (at : ℕ) (rest : Option ℕ) → (if b then rest else Some at) ≡ None → (b ≡ true) × (rest ≡ None)
either true at rest e = (refl, e)
either false at rest e = absurd cc

-- each field is in its range
abbrev AllIn : List Field → Type 0
AllIn [] = Unit {0}
AllIn (f ∷ fs) = (f.1 ≡ true) × AllIn fs

all_in : (fs : List Field) → first_out fs ≡ None → AllIn fs
all_in [] e = tt
all_in (f ∷ fs) e = let first = either f.1 f.0 (first_out fs) e in (first.0, all_in fs first.1)

part_lies : (at count : ℕ) → is_part at count ≡ true → at + count ≤ 32768
part_lies at count e = grind (arith, nat_tests, e)

positions_lie : (position count : ℕ) → position_fits position count ≡ true → position + count ≤ 16384000
positions_lie position count e = grind (arith, nat_tests, e)

page_in : (taking_off : Bool) (offset : ℕ) (c : PageChange) → first_out (change_fields taking_off offset (Page c)) ≡ None → IsInRange (Page c)
page_in taking_off offset c e = (all_in (change_fields taking_off offset (Page c)) e).1.1.1.0

write_in : (taking_off : Bool) (offset : ℕ) (c : BandBytes) → first_out (change_fields taking_off offset (SegWrite c)) ≡ None → length c.after ≡ c.count → IsInRange (SegWrite c)
write_in taking_off offset c e long =
    let lies : c.at + c.count ≤ 32768 = part_lies c.at c.count (all_in (change_fields taking_off offset (SegWrite c)) e).1.1.0 in
    omega (arith, long)

op_in : (taking_off : Bool) (offset : ℕ) (c : BandOp) → first_out (change_fields taking_off offset (SegOp c)) ≡ None → IsInRange (SegOp c)
op_in taking_off offset c e =
    let all = all_in (change_fields taking_off offset (SegOp c)) e in
    (part_lies c.at c.count all.1.1.0, positions_lie c.position c.count all.1.1.1.1.0)

says_in : (transaction previous : ℕ) (says : Says) → first_out (says_fields transaction previous says) ≡ None → SaysFits says → IfSome (changed_by says) IsInRange
says_in transaction previous (Changed (Page c)) e fits = page_in false 21 c e
says_in transaction previous (Changed (SegWrite c)) e fits = write_in false 21 c e fits.1.1
says_in transaction previous (Changed (SegOp c)) e fits = op_in false 21 c e
says_in transaction previous (PhysComp undo_next (Page c)) e fits = page_in true 30 c e
says_in transaction previous (PhysComp undo_next (SegWrite c)) e fits = write_in true 30 c e fits.1.1.1
says_in transaction previous (PhysComp undo_next (SegOp c)) e fits = op_in true 30 c e
says_in transaction previous _ e fits = tt

pub record_in : (r : Record) → IsRecord r → IfSome (changed_by r.says) IsInRange
record_in r is = says_in r.transaction r.previous r.says (either (nat_le (HEADER + length (body_of r.says)) GREATEST) 1 (first_out (says_fields r.transaction r.previous r.says)) is.ranges).1 is.fits
