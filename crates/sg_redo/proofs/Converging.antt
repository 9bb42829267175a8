-- Replay of a unit that is lent in one of several versions.
use Rattle.std.proofs.Common.{◌≡◌, ◌<◌, ◌^◌, ℕ, suc, arith, true, false, List, [], ◌∷◌, ◌++◌, length, Option, Some, None, refl, sym, ap, ◌∙◌}
use Rattle.std.specs.List.{All}
use Rattle.sg_ops.specs.Table.{Table}
use Rattle.sg_record.specs.Changes.{Change}
use Rattle.sg_record.specs.Changes.Change.{Page, SegWrite, SegOp}
use Rattle.sg_redo.specs.declared.place.Place.{Place}
use Rattle.sg_redo.specs.declared.unit.Unit as code
use Rattle.sg_redo.specs.History.{OnPage, repeated, below, Rises, AllSetNumber, AllFit}
use Rattle.sg_redo.specs.Window.{replayed, AllLie, IsSameBut}
use Rattle.sg_redo.specs.Places.{change_at, op_said, page_part, page_records, window_records}
use Rattle.sg_redo.specs.Units.{own_places, is_page, replayed_unit}
use Rattle.sg_redo.proofs.Bytes.{converge}
use Rattle.sg_redo.proofs.Numbers.{record_sets}
use Rattle.sg_redo.proofs.Versions.{version_repeats}

page_bytes : (t : Table) (text : List ℕ) (places own : List Place) (u : code.Unit) → is_page u ≡ true → own_places places u ≡ own → (replayed_unit t text places u).loan.bytes ≡ repeated (page_records t text own) u.loan.bytes
unfolding replayed_unit
page_bytes t text places own u is same = rw is (ap (λ (ps : List Place). repeated (page_records t text ps) u.loan.bytes) same)

window_bytes : (t : Table) (text : List ℕ) (places own : List Place) (u : code.Unit) → is_page u ≡ false → own_places places u ≡ own → (replayed_unit t text places u).loan.bytes ≡ replayed (window_records t text own) u.loan.bytes
unfolding replayed_unit
window_bytes t text places own u is same = rw is (ap (λ (ps : List Place). replayed (window_records t text ps) u.loan.bytes) same)

-- what each record makes of a page has its number
part_sets : (t : Table) (lsn : ℕ) (change : Option Change) → lsn < 2 ^ 64 → AllSetNumber (page_part t lsn change)
unfolding page_part
part_sets t lsn None small = tt
part_sets t lsn (Some (Page c)) small = (record_sets t lsn (op_said c) small, tt)
part_sets t lsn (Some (SegWrite c)) small = tt
part_sets t lsn (Some (SegOp c)) small = tt

sets-append : (rs more : List OnPage) → AllSetNumber rs → AllSetNumber more → AllSetNumber (rs ++ more)
sets-append [] more first second = second
sets-append (r ∷ rs) more first second = (first.0, sets-append rs more first.1 second)

records_set : (t : Table) (text : List ℕ) (places : List Place) → All (λ p. p.lsn < 2 ^ 64) places → AllSetNumber (page_records t text places)
unfolding page_records
records_set t text [] small = tt
records_set t text (p ∷ places) small = sets-append (page_part t p.lsn (change_at text p.at)) (page_records t text places) (part_sets t p.lsn (change_at text p.at) (small 0 p (omega arith))) (records_set t text places (λ k d lt. small (suc k) d (omega (arith, lt))))

pub pages_converge : (t : Table) (text : List ℕ) (places : List Place) (c : ℕ) (one other : code.Unit) → is_page one ≡ true → is_page other ≡ true
    → own_places places other ≡ own_places places one → All (λ p. p.lsn < 2 ^ 64) (own_places places one)
    → Rises 1 (page_records t text (own_places places one)) → AllFit (page_records t text (own_places places one)) one.loan.bytes
    → other.loan.bytes ≡ repeated (below c (page_records t text (own_places places one))) one.loan.bytes
    → (replayed_unit t text places other).loan.bytes ≡ (replayed_unit t text places one).loan.bytes
pages_converge t text places c one other is_one is_other same small rises fit version =
    let own : List Place = own_places places one in
    page_bytes t text places own other is_other same
    ∙ (ap (repeated (page_records t text own)) version
    ∙ (version_repeats c 1 (page_records t text own) one.loan.bytes (records_set t text own small) rises fit ∙ sym (page_bytes t text places own one is_one refl)))

pub windows_meet : (t : Table) (text : List ℕ) (places : List Place) (one other : code.Unit) → is_page one ≡ false → is_page other ≡ false
    → own_places places other ≡ own_places places one → AllLie (length one.loan.bytes) (window_records t text (own_places places one))
    → IsSameBut (window_records t text (own_places places one)) one.loan.bytes other.loan.bytes
    → (replayed_unit t text places other).loan.bytes ≡ (replayed_unit t text places one).loan.bytes
windows_meet t text places one other is_one is_other same lie but =
    let own : List Place = own_places places one in
    window_bytes t text places own other is_other same
    ∙ (sym (converge (window_records t text own) one.loan.bytes other.loan.bytes lie but) ∙ sym (window_bytes t text places own one is_one refl))
