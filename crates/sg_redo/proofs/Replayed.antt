-- What replay of a unit leaves of it, and of all units.
use Rattle.std.proofs.Common.{◌≡◌, ◌≢◌, ◌<◌, ◌+◌, ◌-◌, ◌==◌, ℕ, suc, Bool, true, false, if◌then◌else◌, List, Option, [], ◌∷◌, length, map, sum_by, take, drop, slice_index_or, refl, sym, ap, ◌∙◌, arith}
use Rattle.std.proofs.lemmas.Bool.Decides.{nat_tests}
use Rattle.std.proofs.lemmas.List.Sums.{sum_by-cons}
use Rattle.sg_frames.proofs.Lent.{rewritten_whole}
use Rattle.sg_frames.specs.Pieces.{rewritten}
use Rattle.sg_ops.specs.Table.{Table}
use Rattle.sg_redo.specs.declared.place.Place.{Place}
use Rattle.sg_redo.specs.declared.unit.Unit as code
use Rattle.sg_redo.specs.History.{repeated, since_repeated}
use Rattle.sg_redo.specs.Window.{replayed, since_replayed}
use Rattle.sg_redo.specs.Places.{page_records, window_records, marks_with}
use Rattle.sg_redo.specs.Units.{own_places, with_bytes, lent_at, is_page, replayed_unit}

-- the places from one on, so many
pub these : (u : code.Unit) (places : List Place) → take (u.first + u.count - u.first) (drop u.first places) ≡ own_places places u
these u places = let many : u.first + u.count - u.first ≡ u.count = omega arith in ap (λ (n : ℕ). take n (drop u.first places)) many

-- a page, whose bytes were lent as `memory`
pub page_done : (t : Table) (text : List ℕ) (places own : List Place) (u : code.Unit) (memory page : List ℕ) (since : Option ℕ) → memory ≡ u.loan.bytes → length memory ≡ 4096 → own ≡ own_places places u → length page ≡ length memory
    → page ≡ repeated (page_records t text own) memory → since ≡ since_repeated (page_records t text own) memory u.since → record (with_bytes u (rewritten u.loan.bytes page)) { since = since } ≡ replayed_unit t text places u
unfolding replayed_unit
page_done t text places own u memory page since lent size is long done oldest =
    let same : length memory ≡ length u.loan.bytes = ap (λ (bytes : List ℕ). length bytes) lent in
    let test : (length u.loan.bytes == 4096) ≡ true = grind (arith, nat_tests, size, same) in
    rw test
    (ap (λ (bytes : List ℕ). record (with_bytes u bytes) { since = since })
    (rewritten_whole u.loan.bytes page (long ∙ same) ∙ (done ∙ (ap (repeated (page_records t text own)) lent ∙ ap (λ (ps : List Place). repeated (page_records t text ps) u.loan.bytes) is)))
    ∙ ap (λ (o : Option ℕ). record (with_bytes u (repeated (page_records t text (own_places places u)) u.loan.bytes)) { since = o })
    (oldest ∙ (ap (λ (p : List ℕ). since_repeated (page_records t text own) p u.since) lent ∙ ap (λ (ps : List Place). since_repeated (page_records t text ps) u.loan.bytes u.since) is)))

-- a window
pub window_done : (t : Table) (text : List ℕ) (places own : List Place) (u : code.Unit) (memory window : List ℕ) (marks : List Bool) (since : Option ℕ) → memory ≡ u.loan.bytes → length memory ≢ 4096 → own ≡ own_places places u → length window ≡ length memory
    → window ≡ replayed (window_records t text own) memory → marks ≡ marks_with (window_records t text own) u.dirty → since ≡ since_replayed (window_records t text own) u.since
    → record (with_bytes u (rewritten u.loan.bytes window)) { dirty = marks; since = since } ≡ replayed_unit t text places u
unfolding replayed_unit
window_done t text places own u memory window marks since lent size is long done marked oldest =
    let same : length memory ≡ length u.loan.bytes = ap (λ (bytes : List ℕ). length bytes) lent in
    let test : (length u.loan.bytes == 4096) ≡ false = grind (arith, nat_tests, size, same) in
    rw test
    (ap (λ (bytes : List ℕ). record (with_bytes u bytes) { dirty = marks; since = since })
    (rewritten_whole u.loan.bytes window (long ∙ same) ∙ (done ∙ (ap (replayed (window_records t text own)) lent ∙ ap (λ (ps : List Place). replayed (window_records t text ps) u.loan.bytes) is)))
    ∙ (ap (λ (ms : List Bool). record (with_bytes u (replayed (window_records t text (own_places places u)) u.loan.bytes)) { dirty = ms; since = since }) (marked ∙ ap (λ (ps : List Place). marks_with (window_records t text ps) u.dirty) is)
    ∙ ap (λ (o : Option ℕ). record (with_bytes u (replayed (window_records t text (own_places places u)) u.loan.bytes)) { dirty = marks_with (window_records t text (own_places places u)) u.dirty; since = o })
    (oldest ∙ ap (λ (ps : List Place). since_replayed (window_records t text ps) u.since) is)))

-- the loans stay where they are
pub lent_same : (t : Table) (text : List ℕ) (places : List Place) (u : code.Unit) → lent_at (replayed_unit t text places u) ≡ lent_at u
unfolding replayed_unit
lent_same t text places u = either (is_page u)
  where
    own : List Place
    own = own_places places u

    either : (b : Bool)
        → lent_at (if b then record (with_bytes u (repeated (page_records t text own) u.loan.bytes)) { since = since_repeated (page_records t text own) u.loan.bytes u.since }
        else record (with_bytes u (replayed (window_records t text own) u.loan.bytes)) { dirty = marks_with (window_records t text own) u.dirty; since = since_replayed (window_records t text own) u.since }) ≡ lent_at u
    either true = refl
    either false = refl

pub lent_kept : (t : Table) (text : List ℕ) (places : List Place) (old new : List code.Unit) → new ≡ map (replayed_unit t text places) old → map lent_at new ≡ map lent_at old
lent_kept t text places old new is = ap (map lent_at) is ∙ each old
  where
    each : (us : List code.Unit) → map lent_at (map (replayed_unit t text places) us) ≡ map lent_at us
    each [] = refl
    each (u ∷ us) = λ i. lent_same t text places u i ∷ each us i

-- and so do the counts of their places
pub count_same : (t : Table) (text : List ℕ) (places : List Place) (u : code.Unit) → (replayed_unit t text places u).count ≡ u.count
unfolding replayed_unit
count_same t text places u = either (is_page u)
  where
    own : List Place
    own = own_places places u

    either : (b : Bool)
        → (if b then record (with_bytes u (repeated (page_records t text own) u.loan.bytes)) { since = since_repeated (page_records t text own) u.loan.bytes u.since }
        else record (with_bytes u (replayed (window_records t text own) u.loan.bytes)) { dirty = marks_with (window_records t text own) u.dirty; since = since_replayed (window_records t text own) u.since }).count ≡ u.count
    either true = refl
    either false = refl

pub counts_kept : (t : Table) (text : List ℕ) (places : List Place) (old new : List code.Unit) → new ≡ map (replayed_unit t text places) old → sum_by (λ (u : code.Unit). u.count) new ≡ sum_by (λ (u : code.Unit). u.count) old
counts_kept t text places old new is = ap (sum_by (λ (u : code.Unit). u.count)) is ∙ each old
  where
    each : (us : List code.Unit) → sum_by (λ (u : code.Unit). u.count) (map (replayed_unit t text places) us) ≡ sum_by (λ (u : code.Unit). u.count) us
    each [] = refl
    each (u ∷ us) =
        let count : code.Unit → ℕ = λ (u : code.Unit). u.count in
        sum_by-cons count (replayed_unit t text places u) (map (replayed_unit t text places) us)
        ∙ (ap (λ n. n + sum_by count (map (replayed_unit t text places) us)) (count_same t text places u) ∙ (ap (λ n. u.count + n) (each us) ∙ sym (sum_by-cons count u us)))

-- units that were each replayed are all replayed
pub all_done : (f : code.Unit → code.Unit) (old new : List code.Unit) → length new ≡ length old → ((i : ℕ) (d : code.Unit) → i < length old → slice_index_or new i d ≡ f (slice_index_or old i d)) → new ≡ map f old
all_done f [] [] same each = refl
all_done f [] (y ∷ ys) same each = absurd (omega (arith, same))
all_done f (x ∷ xs) [] same each = absurd (omega (arith, same))
all_done f (x ∷ xs) (y ∷ ys) same each =
    ap (λ (u : code.Unit). u ∷ ys) (each 0 x (omega arith)) ∙ ap (λ (us : List code.Unit). f x ∷ us) (all_done f xs ys (omega (arith, same)) (λ i d h. each (suc i) d (omega (arith, h))))
