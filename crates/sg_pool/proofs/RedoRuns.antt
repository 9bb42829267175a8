-- One call of redo is a run over its places, and so is none.
use Rattle.std.proofs.Common.{◌≡◌, ◌≢◌, ◌⊎◌, inl, inr, ⊎_elim, ◌<◌, ◌≤◌, ◌+◌, ◌-◌, ◌^◌, ℕ, Bool, IsTrue, Option, None, Some, Result, Ok, Err, List, [], ◌∷◌, length, refl, sym, ◌∙◌, ap, subst, arith}
use Rattle.std.specs.Prelude.{All, nat_eq, OnOk, OnErr, IfOk, IfErr}
use Rattle.std.specs.Map.{lookup}
use Rattle.std.proofs.lemmas.Bool.{cases_eq, cases_lt}
use Rattle.std.proofs.lemmas.List.{get_or_past}
use Rattle.std.proofs.lemmas.Option.{slice_get-get_or}
use Rattle.std.proofs.lemmas.Result.{on_ok_weaker}
use Rattle.sg_base.specs.Ends.{HasRisen}
use Rattle.sg_base.specs.declared.area.Area.{Area}
use Rattle.sg_base.specs.declared.area.Area.TheVariants.{Home}
use Rattle.sg_disk.specs.Disk.{Image, Leaves, View, LeavesOnly}
use Rattle.sg_disk.specs.Heeds.{Heeds}
use Rattle.sg_disk.proofs.Moments.{started, weaker}
use Rattle.sg_gate.specs.Batch.{IsReady}
use Rattle.sg_log.specs.Frames.{Numbered}
use Rattle.sg_log.specs.Held.{Tail, Holds, tail_of, forced}
use Rattle.sg_log.proofs.Holding.{holds_image}
use Rattle.sg_ops.specs.Table.{Table}
use Rattle.sg_redo.specs.declared.place.Place.{Place}
use Rattle.sg_redo.specs.History.{OnPage, repeated, since_repeated}
use Rattle.sg_redo.specs.Places.{page_records, window_records}
use Rattle.sg_pool.specs.declared.fault.PoolFault.{PoolFault}
use Rattle.sg_pool.specs.declared.fault.PoolFault.TheVariants.{Disk, Damaged, Memory}
use Rattle.sg_pool.specs.declared.pool.Pool.{Pool}
use Rattle.sg_pool.specs.declared.slot.Slot.{Slot}
use Rattle.sg_pool.specs.declared.windows.Windows.{Windows}
use Rattle.sg_pool.specs.Counts.{HasGrown, is_disk}
use Rattle.sg_pool.specs.Frames.{AreBelow}
use Rattle.sg_pool.specs.Held.{no_slot, frame_of, page_in}
use Rattle.sg_pool.specs.Lending.{IsBrought}
use Rattle.sg_pool.specs.Moments.{IsSameOrForced}
use Rattle.sg_pool.specs.Pooled.{sizes, contents, frame_holding, uses, window_count, Backs, SameContents, IsLogged, IsPoolMoment, SameWindows, SameFrames, last_of, OthersKeepLasts}
use Rattle.sg_pool.specs.Redone.{ArePlacesBelow, AreWhole, PartRecords, places_of, records_of, IsRedone, ArePartlyRedone, AreHomesKnown, IsRedoMoment}
use Rattle.sg_pool.specs.Redoing.{AreLastsRedone, IsDurable, RedoFails, AreRedone, IsRun}
use Rattle.sg_pool.specs.Repeated.{lsn_in, last_lsn, IsPageRepeated, IsCleanedThenPageRepeated, IsCleanedThenBandRepeated}
use Rattle.sg_pool.specs.Shelves.{OnTold, BringFails, AreLogged, lasts}
use Rattle.sg_pool.specs.Units.{Geometry, Units, IsBelow}
use Rattle.sg_pool.specs.Untouched.{IsUntouched}
use Rattle.sg_pool.specs.Well.{IsWell}
use Rattle.sg_pool.proofs.BandsHome.{lasts_same}
use Rattle.sg_pool.proofs.Bringing.{on_told_weaker}
use Rattle.sg_pool.proofs.Changing.{cleaned_refl}
use Rattle.sg_pool.proofs.Counting.{grown_same}
use Rattle.sg_pool.proofs.HomesKept.{untouched_same}
use Rattle.sg_pool.proofs.Ordering.{used_pins}
use Rattle.sg_pool.proofs.RedoHomes.{exact_here, exact_whole}
use Rattle.sg_pool.proofs.Placed.{AreJoined, blank_page, all_of, none_of, of_page, of_band}
use Rattle.sg_pool.proofs.Redone.{none, none_whole, first_whole, whole_of_whole, cleaned_redone, cleaned_then, page_redone, band_redone, homes_known, page_kept, records_numbered, cleaned_below, page_below, band_below}
use Rattle.sg_pool.proofs.RedoMoments.{tail_is_gate, own_moment, moment_whole, version_whole}
use Rattle.sg_pool.proofs.Redoing.{on_told_two, if_err_weaker, on_err_told}
use Rattle.sg_pool.proofs.Slots.{some_same, none_is_some, none_or_some, frame_some, frame_is}

-- A RUN THAT WAS CUT OFF is one of all the places
module _ {T : Type 0} (g : Geometry) (told : Bool) (t : Table) (start text : List ℕ) (all a b : List Place) (joined : AreJoined g t start text all a b) (v w : View) (log log1 : Tail) (p0 p1 : Pool) (e : PoolFault) (run : IsRun {T = T} g told t start a v w log log1 p0 p1 (Err e)) where
  named_still : (n : ℕ) → places_of n a ≢ [] → places_of n all ≢ []
  named_still n some empty = some (joined.neither n empty).0

  whole : AreWhole (records_of g t start a) (records_of g t text all)
  whole = first_whole (records_of g t text all) (records_of g t start a) (records_of g t text b) joined.together

  fails_still : (x : PoolFault) → RedoFails told log.area g v w p0 a x → RedoFails told log.area g v w p0 all x
  fails_still Disk risen = risen
  fails_still (Damaged page) is = (is.0, named_still page.0 is.1, is.2)
  fails_still Memory is = is

  pub run_cut : IsRun {T = T} g told t text all v w log log1 p0 p1 (Err e)
  run_cut = record {
    size = run.size;
    log_kept = run.log_kept;
    later = run.later;
    heeded = run.heeded;
    kept = run.kept;
    grown = run.grown;
    pins = run.pins;
    count = run.count;
    bytes = run.bytes;
    below = λ tail logged every. run.below tail logged (joined.first_below tail every);
    lasts = tt;
    absent = tt;
    faults = fails_still e run.faults;
    units_are = λ is_told apart backs. let it = run.units_are is_told apart backs in record {
      backed = it.backed;
      redone = tt;
      partly = on_err_told {T = T} (Err e) _ _ (λ (x : ArePartlyRedone g (records_of g t start a) (contents v p0) (contents w p1)).
          (x.0, whole_of_whole x.0 (records_of g t start a) (records_of g t text all) x.1 whole, x.2)) it.partly;
      untouched = on_told_weaker {T = T} (Err e) _ _ (exact_whole g (v.now Home).seen (w.now Home).seen (records_of g t start a) (records_of g t text all) (contents v p0) (contents w p1)
          whole) it.untouched;
      well = tt;
    };
    log_is = run.log_is;
    durable = λ ds is_told apart backs durable.
        let it = run.durable ds is_told apart backs (record { holds = durable.holds; logged = durable.logged; below = joined.first_below log.gate durable.below }) in
        record {
          logged = it.logged;
          homes = on_told_weaker {T = T} (Err e) (AreHomesKnown g (w.now Home) (records_of g t start a) (contents v p0) (contents w p1)) (AreHomesKnown g (w.now Home) (records_of g t text all) (contents v p0) (contents w p1))
              (λ known n lt. ⊎_elim (λ same. inl same) (λ version. inr (version_whole _ _ ((contents v p0).page n) _ (whole.page n) version)) (known n lt)) it.homes;
          moments = weaker it.moments (moment_whole g v log ds (lasts p0.shelf) (records_of g t start a) (records_of g t text all) (contents v p0) whole);
        };
  }

-- NO RUN YET
none_redone : (g : Geometry) (t : Table) (text : List ℕ) (m : Units) → IsRedone g (records_of g t text []) m m
unfolding page_records window_records
none_redone g t text m = cleaned_redone g m m (cleaned_refl g m)

module _ {U : Type 0} (told : Bool) (t : Table) (text : List ℕ) (v : View) (log : Tail) (p : Pool) (u : U) (bytes : IsTrue told → (a : Area) (i : ℕ) → (v.now a).seen i < 256) where
  no_named : (n : ℕ) → places_of n [] ≢ [] → ⊥
  no_named n some = some refl

  pub run_starts : IsRun {T = U} (sizes p) told t text [] v v log log p p (Ok u)
  run_starts = record {
    size = refl;
    log_kept = inl refl;
    later = omega arith;
    heeded = refl;
    kept = omega arith;
    grown = grown_same log v v (omega arith);
    pins = λ f. refl;
    count = refl;
    bytes = bytes;
    below = λ tail logged every. logged;
    lasts = record { its = λ b o some since. absurd (no_named ((sizes p).pages + b) some); others = λ b o empty since. (since, refl) };
    absent = λ n empty away. away;
    faults = tt;
    units_are = λ is_told apart backs. record { backed = backs; redone = none_redone (sizes p) t text (contents v p); partly = tt; untouched = exact_here (sizes p) (v.now Home).seen (v.now Home).seen _ _ _ (untouched_same (sizes p) (v.now Home).seen (v.now Home).seen (contents v p) refl); well = λ n lt some away. absurd (no_named n some) };
    log_is = λ ds ps is_told apart backs holds. inl (refl, holds);
    durable = λ ds is_told apart backs durable. record {
      logged = durable.logged;
      homes = λ n lt. inl refl;
      moments = started v _ (λ (c : Image) (leaves : Leaves v.now c). own_moment (sizes p) v log ds (lasts p.shelf) (records_of (sizes p) t text []) (contents v p) apart backs.ready (tail_is_gate v log ds durable.holds) c
          (inl (record { held = inl (holds_image durable.holds c leaves); others = λ b other. leaves b })));
    };
  }

-- what holds of either end
pub on_told_cases : {T : Type 0} (r : Result T PoolFault) (A B P : Type 0) → (A → P) → (B → P) → OnOk r A → OnErr r (OnTold r B) → OnTold r P
on_told_cases (Ok x) A B P f h a b = f a
on_told_cases (Err Disk) A B P f h a b = tt
on_told_cases (Err (Damaged n)) A B P f h a b = h b
on_told_cases (Err Memory) A B P f h a b = h b

-- no record is repeated on a page
pub nothing_repeated : (p : ℕ) (t : Table) (places : List Place) (m : Units) → IsPageRepeated p (page_records t [] places) m m
nothing_repeated p t places m = record {
  page = ap (λ (rs : List OnPage). repeated rs (m.page p)) (sym (blank_page t places));
  since = ap (λ (rs : List OnPage). since_repeated rs (m.page p) (m.page_since p)) (sym (blank_page t places));
  other_pages = λ n differ. refl;
  other_sinces = λ n differ. refl;
  byte = λ b i. refl;
  band_since = λ b. refl;
  marked = λ b i. refl;
}

last_below : (tail : ℕ) (places : List Place) → 0 < length places → ArePlacesBelow tail places → last_lsn places < tail
last_below tail [] some below = absurd (omega (arith, some))
last_below tail (p ∷ places) some below =
    let all : List Place = p ∷ places in
    let k : ℕ = length (p ∷ places) - 1 in
    let lt : length (p ∷ places) - 1 < length (p ∷ places) = omega (arith, some) in
    subst (λ (o : Option Place). lsn_in o < tail) (sym (slice_get-get_or (p ∷ places) (length (p ∷ places) - 1) p lt)) (below (length (p ∷ places) - 1) p lt)

-- ONE CALL OF REDO
module _ {T : Type 0} (told : Bool) (t : Table) (text : List ℕ) (unit : ℕ) (places : List Place) (same : All (λ p. p.unit ≡ unit) places) (some : 0 < length places) (v w : View) (log log' : Tail) (old new : Pool) (r : Result T PoolFault)
    (bytes : IsTrue told → (a : Area) (i : ℕ) → (w.now a).seen i < 256) (size : sizes new ≡ sizes old) (log_kept : (log' ≡ log) ⊎ (log' ≡ forced log)) (later : v.faults ≤ w.faults)
    (heeded : Heeds is_disk r v w) (kept : v.handed ≤ w.handed) (grown : HasGrown log log' v w)
    (log_is : (ds ps : List Numbered) → IsTrue told → log.area ≢ Home → IsReady (v.now Home) → Holds v log ds ps → OnTold r (IsSameOrForced w log log' ds ps))
    (moments : (ds ps : List Numbered) → IsTrue told → log.area ≢ Home → IsReady (v.now Home) → Holds v log ds ps → IsLogged (tail_of log) v old → LeavesOnly v w (IsPoolMoment v old log ds ps)) where
  abbrev g : Geometry
  g = sizes old

  abbrev rs : PartRecords
  rs = records_of (sizes old) t text places

  others_unnamed : (n : ℕ) → places_of n places ≡ [] → n ≢ unit
  others_unnamed n empty is =
      let long : length places ≡ 0 = ap (λ (l : List Place). length l) (sym (all_of unit places same) ∙ (ap (λ (k : ℕ). places_of k places) (sym is) ∙ empty)) in
      omega (arith, long, some)

  named : (n : ℕ) → places_of n places ≢ [] → n ≡ unit
  named n some_places = ⊎_elim (λ is. is) (λ differ. absurd (some_places (none_of n places (λ k d lt is. differ (sym is ∙ same k d lt))))) (cases_eq n unit)

  its_named : places_of unit places ≢ []
  its_named empty = others_unnamed unit empty refl

  always : {A : Type 0} (x : Result T PoolFault) → A → OnOk x A
  always (Ok x) a = a
  always (Err e) a = tt

  call_moments : (ds : List Numbered) → IsTrue told → log.area ≢ Home → Backs (sizes old) v old → IsDurable v log ds old places → LeavesOnly v w (IsRedoMoment (sizes old) v log ds (lasts old.shelf) (records_of (sizes old) t text places) (contents v old))
  call_moments ds is_told apart backs durable = weaker (moments ds [] is_told apart backs.ready durable.holds durable.logged)
      (own_moment (sizes old) v log ds (lasts old.shelf) (records_of (sizes old) t text places) (contents v old) apart backs.ready (tail_is_gate v log ds durable.holds))

  sized : {tail : ℕ} → IsBelow (sizes old) tail (contents w new) → IsBelow (sizes new) tail (contents w new)
  sized {tail} below = subst (λ (h : Geometry). IsBelow h tail (contents w new)) (sym size) below

  -- of a page
  module _ (lt : unit < (sizes old).pages) (windows : SameWindows old new) (brought : IfOk r (λ _. (f : ℕ) × IsBrought unit old new f)) (unused : OnErr r (uses new ≡ uses old))
      (untouched : IsTrue told → log.area ≢ Home → Backs (sizes old) v old → OnTold r (IsUntouched (sizes old) (v.now Home).seen (w.now Home).seen (contents w new)))
      (backed : IsTrue told → log.area ≢ Home → Backs (sizes old) v old → OnTold r (Backs (sizes old) w new))
      (repeated : IsTrue told → log.area ≢ Home → Backs (sizes old) v old → OnOk r (IsCleanedThenPageRepeated (sizes old) (w.now Home) unit (page_records t text places) (contents v old) (contents w new)))
      (refused : IsTrue told → log.area ≢ Home → Backs (sizes old) v old → OnErr r (OnTold r (SameContents v old w new)))
      (well : IsTrue told → log.area ≢ Home → Backs (sizes old) v old → frame_holding old unit ≡ None → OnOk r (IsWell ((contents v old).page unit)))
      (faults : IfErr r (BringFails told log.area unit v w old.shelf)) where
    held_in : (p : Pool) (h n : ℕ) → page_in p.shelf.slots.items h ≡ Some n → h < length p.shelf.slots.items
    held_in p h n is = ⊎_elim (λ low. low) (λ high. absurd (none_is_some n (sym (ap (λ (s : Slot). s.number) (get_or_past p.shelf.slots.items h no_slot high)) ∙ is))) (cases_lt h (length p.shelf.slots.items))

    away_still : (f : ℕ) → IsBrought unit old new f → (n : ℕ) → n ≢ unit → frame_holding old n ≡ None → frame_holding new n ≡ None
    away_still f is n differ away = ⊎_elim
        (λ none. none)
        (λ held.
        let there = frame_some n new.shelf.slots.items held.0 held.1 in
        ⊎_elim
        (λ here. absurd (differ (some_same n unit (sym there.1 ∙ (ap (page_in new.shelf.slots.items) here ∙ (frame_some unit new.shelf.slots.items f is.held).1)))))
        (λ other.
        let before : page_in old.shelf.slots.items held.0 ≡ Some n = sym (is.others held.0 other) ∙ there.1 in
        absurd (none_is_some held.0 (sym away ∙ frame_is old.shelf.slots.items held.0 n old.shelf.shelf.apart (held_in old held.0 n before) before)))
        (cases_eq held.0 f))
        (none_or_some (frame_holding new n))

    page_fails : (e : PoolFault) → BringFails told log.area unit v w old.shelf e → RedoFails told log.area (sizes old) v w old places e
    page_fails Disk risen = risen
    page_fails (Damaged page) is = (
      subst (λ (n : ℕ). n < (sizes old).pages) (sym is.0) lt,
      subst (λ (n : ℕ). places_of n places ≢ []) (sym is.0) its_named,
      λ is_told apart backs well_page. is.1 is_told apart backs (subst (λ (n : ℕ). IsWell ((contents v old).page n)) is.0 well_page),
    )
    page_fails Memory is = is

    windows_below : (tail : ℕ) → AreLogged tail old.shelf → AreLogged tail new.shelf
    windows_below tail logged = subst (λ (x : Windows). AreBelow tail x) (sym windows.windows) logged

    page_units : IsTrue told → log.area ≢ Home → Backs (sizes old) v old → AreRedone (sizes old) t text places v w old new r
    page_units is_told apart backs = record {
      backed = backed is_told apart backs;
      redone = on_ok_weaker r (λ (it : IsCleanedThenPageRepeated (sizes old) (w.now Home) unit (page_records t text places) (contents v old) (contents w new)).
          cleaned_then (sizes old) (records_of (sizes old) t text places) (contents v old) it.0 (contents w new) it.2.clean it.1
          (page_redone (sizes old) unit (page_records t text places) (records_of (sizes old) t text places) it.0 (contents w new) (of_page (sizes old) t text unit places same lt) it.3)) (repeated is_told apart backs);
      partly = on_err_told r _ _ (λ (it : SameContents v old w new). (none, none_whole (records_of (sizes old) t text places), cleaned_redone (sizes old) (contents v old) (contents w new) it)) (refused is_told apart backs);
      untouched = on_told_weaker r _ _ (exact_here (sizes old) (v.now Home).seen (w.now Home).seen (records_of (sizes old) t text places) (contents v old) (contents w new)) (untouched is_told apart backs);
      well = page_well is_told apart backs r (well is_told apart backs);
    }
      where
        page_well : IsTrue told → log.area ≢ Home → Backs (sizes old) v old → (x : Result T PoolFault) → (frame_holding old unit ≡ None → OnOk x (IsWell ((contents v old).page unit)))
            → OnOk x ((n : ℕ) → n < (sizes old).pages → places_of n places ≢ [] → frame_holding old n ≡ None → IsWell ((contents v old).page n))
        page_well is_told apart backs (Ok x) is = λ n small some_places away.
            let here = named n some_places in subst (λ (k : ℕ). IsWell ((contents v old).page k)) (sym here) (is (ap (frame_holding old) (sym here) ∙ away))
        page_well is_told apart backs (Err e) is = tt

    page_logged : (ds : List Numbered) → IsTrue told → log.area ≢ Home → Backs (sizes old) v old → IsDurable v log ds old places → OnTold r (IsLogged (tail_of log) w new)
    page_logged ds is_told apart backs durable =
        let places_below : ArePlacesBelow (tail_of log) places = subst (λ (d : ℕ). ArePlacesBelow d places) (sym (tail_is_gate v log ds durable.holds)) durable.below in
        let most : tail_of log ≤ 2 ^ 64 = let within = durable.holds.within in omega (arith, within) in
        on_told_cases r (IsCleanedThenPageRepeated (sizes old) (w.now Home) unit (page_records t text places) (contents v old) (contents w new)) (SameContents v old w new) (IsLogged (tail_of log) w new)
        (λ it. record {
          pages = sized (page_below (sizes old) (tail_of log) unit (page_records t text places) it.0 (contents w new) it.3 (records_numbered t text (tail_of log) places most places_below) lt
              (cleaned_below (sizes old) (tail_of log) (contents v old) it.0 it.1 durable.logged.pages));
          bands = windows_below (tail_of log) durable.logged.bands;
        })
        (λ it. record { pages = sized (cleaned_below (sizes old) (tail_of log) (contents v old) (contents w new) it durable.logged.pages); bands = windows_below (tail_of log) durable.logged.bands })
        (repeated is_told apart backs) (refused is_told apart backs)

    page_homes : IsTrue told → log.area ≢ Home → Backs (sizes old) v old → OnTold r (AreHomesKnown (sizes old) (w.now Home) (records_of (sizes old) t text places) (contents v old) (contents w new))
    page_homes is_told apart backs = on_told_two r (Backs (sizes old) w new) (Backs (sizes old) w new → AreHomesKnown (sizes old) (w.now Home) (records_of (sizes old) t text places) (contents v old) (contents w new)) _
        (λ there known. known there) (backed is_told apart backs)
        (on_told_cases r (IsCleanedThenPageRepeated (sizes old) (w.now Home) unit (page_records t text places) (contents v old) (contents w new)) (SameContents v old w new) _
        (λ it there. homes_known (sizes old) (w.now Home) (records_of (sizes old) t text places) (contents v old) it.0 (contents w new) it.1 it.2 (λ n x small is. page_kept unit (page_records t text places) it.0 (contents w new) it.3 n x is))
        (λ it there. homes_known (sizes old) (w.now Home) (records_of (sizes old) t text places) (contents v old) (contents w new) (contents w new) it there (λ n x small is. is))
        (repeated is_told apart backs) (refused is_told apart backs))

    pub page_run : IsRun (sizes old) told t text places v w log log' old new r
    page_run = record {
      size = size;
      log_kept = log_kept;
      later = later;
      heeded = heeded;
      kept = kept;
      grown = grown;
      pins = page_pins r brought unused;
      count = ap (λ (x : Windows). length x.slots.items) windows.windows;
      bytes = bytes;
      below = λ tail logged every. windows_below tail logged;
      lasts = always r (record {
        its = λ b o some_places since. let here = named ((sizes old).pages + b) some_places in absurd (omega (arith, here, lt));
        others = λ b o empty since. lasts_same old.shelf.wins new.shelf.wins windows.windows b o since;
      });
      absent = page_absent r brought;
      faults = if_err_weaker r (BringFails told log.area unit v w old.shelf) (RedoFails told log.area (sizes old) v w old places) page_fails faults;
      units_are = page_units;
      log_is = λ ds ps is_told apart backs holds. log_is ds ps is_told apart backs.ready holds;
      durable = λ ds is_told apart backs durable. record { logged = page_logged ds is_told apart backs durable; homes = page_homes is_told apart backs; moments = call_moments ds is_told apart backs durable };
    }
      where
        page_absent : (x : Result T PoolFault) → IfOk x (λ _. (f : ℕ) × IsBrought unit old new f) → OnOk x ((n : ℕ) → places_of n places ≡ [] → frame_holding old n ≡ None → frame_holding new n ≡ None)
        page_absent (Ok x) is = λ n empty away. away_still is.0 is.1 n (others_unnamed n empty) away
        page_absent (Err e) is = tt

        page_pins : (x : Result T PoolFault) → IfOk x (λ _. (f : ℕ) × IsBrought unit old new f) → OnErr x (uses new ≡ uses old) → (f : ℕ) → lookup (nat_eq f) (uses new) ≡ lookup (nat_eq f) (uses old)
        page_pins (Ok x) is same f = used_pins is.0 (uses old) (uses new) is.1.used f
        page_pins (Err e) is same f = ap (lookup (nat_eq f)) same

  -- of a band
  module _ (b : ℕ) (is_band : unit ≡ (sizes old).pages + b) (frames : SameFrames old new) (logged : (tail : ℕ) → AreLogged tail old.shelf → last_lsn places < tail → AreLogged tail new.shelf)
      (backed : IsTrue told → log.area ≢ Home → Backs (sizes old) v old → OnOk r (Backs (sizes old) w new))
      (repeated : IsTrue told → log.area ≢ Home → Backs (sizes old) v old → OnOk r (IsCleanedThenBandRepeated (sizes old) (w.now Home) b (window_records t text places) (contents v old) (contents w new)))
      (last : OnOk r (last_of new b ≡ last_lsn places)) (lasts : OthersKeepLasts b old new) (count : window_count new ≡ window_count old)
      (untouched : IsTrue told → log.area ≢ Home → Backs (sizes old) v old → OnOk r (IsUntouched (sizes old) (v.now Home).seen (w.now Home).seen (contents w new))) (fault : IfErr r (λ e. e ≡ Disk)) (failed : OnErr r (HasRisen v.faults w.faults)) where
    told_ok : (x : Result T PoolFault) (P : Type 0) → IfErr x (λ e. e ≡ Disk) → OnOk x P → OnTold x P
    told_ok (Ok x) P is p = p
    told_ok (Err e) P is p = subst (λ (f : PoolFault). OnTold {T = T} (Err f) P) (sym is) tt

    band_fails : (x : Result T PoolFault) → IfErr x (λ e. e ≡ Disk) → OnErr x (HasRisen v.faults w.faults) → IfErr x (RedoFails told log.area (sizes old) v w old places)
    band_fails (Ok x) is risen = tt
    band_fails (Err e) is risen = subst (RedoFails told log.area (sizes old) v w old places) (sym is) risen

    band_partly : (x : Result T PoolFault) (P : Type 0) → IfErr x (λ e. e ≡ Disk) → OnErr x (OnTold x P)
    band_partly (Ok x) P is = tt
    band_partly (Err e) P is = subst (λ (f : PoolFault). OnTold {T = T} (Err f) P) (sym is) tt

    band_logged : (tail : ℕ) → AreLogged tail old.shelf → ArePlacesBelow tail places → AreLogged tail new.shelf
    band_logged tail below every = logged tail below (last_below tail places some every)

    band_lasts : (x : Result T PoolFault) → OnOk x (last_of new b ≡ last_lsn places) → OnOk x (AreLastsRedone (sizes old) places old new)
    band_lasts (Ok x) is = record {
      its = λ c o some_places since.
          let here = named ((sizes old).pages + c) some_places in
          let this : c ≡ b = omega (arith, here, is_band) in
          ap (last_of new) this ∙ (is ∙ ap (λ (l : List Place). last_lsn l) (sym (ap (λ (n : ℕ). places_of n places) here ∙ all_of unit places same)));
      others = λ c o empty since.
          let differ = others_unnamed ((sizes old).pages + c) empty in
          lasts c o (λ this. differ (ap (λ (n : ℕ). (sizes old).pages + n) this ∙ sym is_band)) since;
    }
    band_lasts (Err e) is = tt

    band_units : IsTrue told → log.area ≢ Home → Backs (sizes old) v old → AreRedone (sizes old) t text places v w old new r
    band_units is_told apart backs = record {
      backed = told_ok r (Backs (sizes old) w new) fault (backed is_told apart backs);
      redone = on_ok_weaker r (λ (it : IsCleanedThenBandRepeated (sizes old) (w.now Home) b (window_records t text places) (contents v old) (contents w new)).
          cleaned_then (sizes old) (records_of (sizes old) t text places) (contents v old) it.0 (contents w new) it.2.clean it.1
          (band_redone (sizes old) b (window_records t text places) (records_of (sizes old) t text places) it.0 (contents w new) (of_band (sizes old) t text unit places same b is_band) it.3)) (repeated is_told apart backs);
      partly = band_partly r _ fault;
      untouched = told_ok r _ fault (on_ok_weaker r (exact_here (sizes old) (v.now Home).seen (w.now Home).seen (records_of (sizes old) t text places) (contents v old) (contents w new)) (untouched is_told apart backs));
      well = always r (λ n small some_places away. let here = named n some_places in absurd (omega (arith, here, is_band, small)));
    }

    pub band_run : IsRun (sizes old) told t text places v w log log' old new r
    band_run = record {
      size = size;
      log_kept = log_kept;
      later = later;
      heeded = heeded;
      kept = kept;
      grown = grown;
      pins = λ f. ap (lookup (nat_eq f)) frames.uses;
      count = count;
      bytes = bytes;
      below = band_logged;
      lasts = band_lasts r last;
      absent = always r (λ n empty away. ap (λ (l : List Slot). frame_of l n) frames.slots ∙ away);
      faults = band_fails r fault failed;
      units_are = band_units;
      log_is = λ ds ps is_told apart backs holds. log_is ds ps is_told apart backs.ready holds;
      durable = λ ds is_told apart backs durable.
          let places_below : ArePlacesBelow (tail_of log) places = subst (λ (d : ℕ). ArePlacesBelow d places) (sym (tail_is_gate v log ds durable.holds)) durable.below in
          record {
            logged = told_ok r (IsLogged (tail_of log) w new) fault (on_ok_weaker r (λ (it : IsCleanedThenBandRepeated (sizes old) (w.now Home) b (window_records t text places) (contents v old) (contents w new)). record {
              pages = sized (band_below (sizes old) (tail_of log) b (window_records t text places) it.0 (contents w new) it.3 (cleaned_below (sizes old) (tail_of log) (contents v old) it.0 it.1 durable.logged.pages));
              bands = band_logged (tail_of log) durable.logged.bands places_below;
            }) (repeated is_told apart backs));
            homes = told_ok r _ fault (on_ok_weaker r (λ (it : IsCleanedThenBandRepeated (sizes old) (w.now Home) b (window_records t text places) (contents v old) (contents w new)).
                homes_known (sizes old) (w.now Home) (records_of (sizes old) t text places) (contents v old) it.0 (contents w new) it.1 it.2 (λ n x small is. it.3.page_since n ∙ is)) (repeated is_told apart backs));
            moments = call_moments ds is_told apart backs durable;
          };
    }
