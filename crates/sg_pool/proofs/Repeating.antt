-- A unit that is lent, replayed and given back.
use Rattle.sg_redo.proofs.InTurn.{IsWellDone}
use Rattle.std.proofs.Common.{◌≡◌, ◌≢◌, ◌<◌, ℕ, Bool, true, false, List, [], length, take, drop, get_or, set, sym, ◌∙◌, ap, subst, arith, get_or-set_same, length-set}
use Rattle.std.proofs.Math.Seq.{take-length}
use Rattle.std.proofs.lemmas.Bool.Decides.{nat_tests}
use Rattle.sg_base.specs.declared.page.TheConstants.{BAND_SIZE}
use Rattle.sg_frames.proofs.Lent.{with_bytes-twice}
use Rattle.sg_frames.specs.declared.place.Place as frames
use Rattle.sg_frames.specs.declared.place.Place.TheVariants.{Page, Window}
use Rattle.sg_frames.specs.Held.{Held, Lent, IsFrom, HasPlace, bytes_at, size_of, spot_at, with_bytes}
use Rattle.std.specs.Ptr.{Ptr}
use Rattle.sg_ops.specs.Table.{Table}
use Rattle.sg_redo.proofs.Replayed.{lent_same}
use Rattle.sg_redo.specs.declared.place.Place.{Place}
use Rattle.sg_redo.specs.declared.unit.Unit as code
use Rattle.sg_redo.specs.History.{repeated, since_repeated}
use Rattle.sg_redo.specs.Window.{replayed, since_replayed, AllLie}
use Rattle.sg_redo.specs.Places.{page_records, window_records, marks_with}
use Rattle.sg_redo.specs.History.{is_covered}
use Rattle.sg_redo.specs.Window.{OnWindow, on_byte}
use Rattle.sg_redo.proofs.Marking.{mark_at, length-marks_with}
use Rattle.std.proofs.lemmas.List.{get_or_past}
use Rattle.std.specs.Prelude.{◌||◌, ◌≤◌}
use Rattle.sg_pool.specs.declared.windows.Marks.{Marks}
use Rattle.sg_pool.specs.Windows.{no_marks}
use Rattle.sg_redo.specs.Units.{own_places, lent_at, is_page, replayed_unit}

module _ (t : Table) (text : List ℕ) (places : List Place) (u : code.Unit) (own : (u.first ≡ 0) × (u.count ≡ length places)) where
  own_all : own_places places u ≡ places
  own_all = ap (λ (n : ℕ). take n (drop u.first places)) own.1 ∙ (ap (λ (n : ℕ). take (length places) (drop n places)) own.0 ∙ take-length places)

  -- a page has the history of all places repeated
  page_bytes : is_page u ≡ true → (replayed_unit t text places u).loan.bytes ≡ repeated (page_records t text places) u.loan.bytes
  unfolding replayed_unit
  page_bytes is = rw is (ap (λ (ps : List Place). repeated (page_records t text ps) u.loan.bytes) own_all)

  page_since : is_page u ≡ true → (replayed_unit t text places u).since ≡ since_repeated (page_records t text places) u.loan.bytes u.since
  unfolding replayed_unit
  page_since is = rw is (ap (λ (ps : List Place). since_repeated (page_records t text ps) u.loan.bytes u.since) own_all)

  -- a window has all changes written over it
  window_bytes : is_page u ≡ false → (replayed_unit t text places u).loan.bytes ≡ replayed (window_records t text places) u.loan.bytes
  unfolding replayed_unit
  window_bytes is = rw is (ap (λ (ps : List Place). replayed (window_records t text ps) u.loan.bytes) own_all)

  window_since : is_page u ≡ false → (replayed_unit t text places u).since ≡ since_replayed (window_records t text places) u.since
  unfolding replayed_unit
  window_since is = rw is (ap (λ (ps : List Place). since_replayed (window_records t text ps) u.since) own_all)

  window_marks : is_page u ≡ false → (replayed_unit t text places u).dirty ≡ marks_with (window_records t text places) u.dirty
  unfolding replayed_unit
  window_marks is = rw is (ap (λ (ps : List Place). marks_with (window_records t text ps) u.dirty) own_all)

  -- a loan of a frame, or of a window
  module _ (old taken : Held) (v : code.Unit) (is : v ≡ replayed_unit t text places u) (loan : Lent) (same : u.loan ≡ loan) where
    lent : lent_at v ≡ (loan.spot, loan.place)
    lent = ap lent_at is ∙ (lent_same t text places u ∙ ap (λ (l : Lent). (l.spot, l.place)) same)

    place_is : (place : frames.Place) → loan.place ≡ place → v.loan.place ≡ place
    place_is place there = ap (λ (x : Ptr × frames.Place). x.1) lent ∙ there

    module _ (f : ℕ) (lt : f < length old.pages) (left : taken ≡ with_bytes old (Page f) []) (spot : loan.spot ≡ spot_at old (Page f)) (there : loan.place ≡ Page f) where
      pub frame_from : IsFrom taken v.loan
      frame_from = record {
        same_spot = ap (λ (x : Ptr × frames.Place). x.0) lent ∙ (spot ∙ sym (ap (spot_at taken) (place_is (Page f) there) ∙ ap (λ (h : Held). spot_at h (Page f)) left));
        has_place = subst (HasPlace taken) (sym (place_is (Page f) there)) (subst (λ (h : Held). f < length h.pages) (sym left) (let e = length-set old.pages f [] in omega (arith, e, lt)));
        lent = ap (bytes_at taken) (place_is (Page f) there) ∙ (ap (λ (h : Held). bytes_at h (Page f)) left ∙ get_or-set_same old.pages f [] [] lt);
      }

      module _ (bytes : loan.bytes ≡ get_or old.pages f []) (here : length (get_or old.pages f []) ≡ 4096) where
        all : u.loan.bytes ≡ get_or old.pages f []
        all = ap (λ (l : Lent). l.bytes) same ∙ bytes

        test : is_page u ≡ true
        test = let size : length u.loan.bytes ≡ 4096 = ap (λ (l : List ℕ). length l) all ∙ here in grind (arith, nat_tests, size)

        pub frame_since : v.since ≡ since_repeated (page_records t text places) (get_or old.pages f []) u.since
        frame_since = ap (λ (x : code.Unit). x.since) is ∙ (page_since test ∙ ap (λ (l : List ℕ). since_repeated (page_records t text places) l u.since) all)

        pub frame_given : (new : Held) → new ≡ with_bytes taken v.loan.place v.loan.bytes → new ≡ with_bytes old (Page f) (repeated (page_records t text places) (get_or old.pages f []))
        frame_given new back = back ∙ (ap (λ (p : frames.Place). with_bytes taken p v.loan.bytes) (place_is (Page f) there) ∙ (ap (λ (h : Held). with_bytes h (Page f) v.loan.bytes) left
            ∙ (with_bytes-twice old (Page f) [] v.loan.bytes ∙ ap (with_bytes old (Page f)) (ap (λ (x : code.Unit). x.loan.bytes) is ∙ (page_bytes test ∙ ap (repeated (page_records t text places)) all)))))

        pub frame_here : (new : Held) → length (bytes_at new v.loan.place) ≡ size_of v.loan.place → length (bytes_at new (Page f)) ≡ 4096
        frame_here new is_here = subst (λ (p : frames.Place). length (bytes_at new p) ≡ size_of p) (place_is (Page f) there) is_here

        pub frame_well : (length u.loan.bytes ≡ 4096 → IsWellDone (page_records t text (own_places places u)) u.loan.bytes) → IsWellDone (page_records t text places) (get_or old.pages f [])
        frame_well well = subst (λ (ps : List Place). IsWellDone (page_records t text ps) (get_or old.pages f [])) own_all
            (subst (λ (l : List ℕ). IsWellDone (page_records t text (own_places places u)) l) all (well (ap (λ (l : List ℕ). length l) all ∙ here)))

    module _ (w : ℕ) (lt : w < length old.windows) (left : taken ≡ with_bytes old (Window w) []) (spot : loan.spot ≡ spot_at old (Window w)) (there : loan.place ≡ Window w) where
      pub window_from : IsFrom taken v.loan
      window_from = record {
        same_spot = ap (λ (x : Ptr × frames.Place). x.0) lent ∙ (spot ∙ sym (ap (spot_at taken) (place_is (Window w) there) ∙ ap (λ (h : Held). spot_at h (Window w)) left));
        has_place = subst (HasPlace taken) (sym (place_is (Window w) there)) (subst (λ (h : Held). w < length h.windows) (sym left) (let e = length-set old.windows w [] in omega (arith, e, lt)));
        lent = ap (bytes_at taken) (place_is (Window w) there) ∙ (ap (λ (h : Held). bytes_at h (Window w)) left ∙ get_or-set_same old.windows w [] [] lt);
      }

      module _ (bytes : loan.bytes ≡ get_or old.windows w []) (here : length (get_or old.windows w []) ≡ BAND_SIZE) where
        whole : u.loan.bytes ≡ get_or old.windows w []
        whole = ap (λ (l : Lent). l.bytes) same ∙ bytes

        size : length u.loan.bytes ≡ 32768
        size = ap (λ (l : List ℕ). length l) whole ∙ here

        not_page : is_page u ≡ false
        not_page = let long = size in grind (arith, nat_tests, long)

        pub window_oldest : v.since ≡ since_replayed (window_records t text places) u.since
        window_oldest = ap (λ (x : code.Unit). x.since) is ∙ window_since not_page

        pub window_marked : v.dirty ≡ marks_with (window_records t text places) u.dirty
        window_marked = ap (λ (x : code.Unit). x.dirty) is ∙ window_marks not_page

        pub window_lie : (length u.loan.bytes ≢ 4096 → AllLie BAND_SIZE (window_records t text (own_places places u))) → AllLie BAND_SIZE (window_records t text places)
        window_lie lie = subst (λ (ps : List Place). AllLie BAND_SIZE (window_records t text ps)) own_all (lie (λ e. let long = size in absurd (omega (arith, long, e))))

        pub window_given : (new : Held) → new ≡ with_bytes taken v.loan.place v.loan.bytes → new ≡ with_bytes old (Window w) (replayed (window_records t text places) (get_or old.windows w []))
        window_given new back = back ∙ (ap (λ (p : frames.Place). with_bytes taken p v.loan.bytes) (place_is (Window w) there) ∙ (ap (λ (h : Held). with_bytes h (Window w) v.loan.bytes) left
            ∙ (with_bytes-twice old (Window w) [] v.loan.bytes ∙ ap (with_bytes old (Window w)) (ap (λ (x : code.Unit). x.loan.bytes) is ∙ (window_bytes not_page ∙ ap (replayed (window_records t text places)) whole)))))

        pub window_here : (new : Held) → length (bytes_at new v.loan.place) ≡ size_of v.loan.place → length (bytes_at new (Window w)) ≡ 32768
        window_here new is_here = subst (λ (p : frames.Place). length (bytes_at new p) ≡ size_of p) (place_is (Window w) there) is_here

-- the marks of a window after replay of its band
module _ (marks : List Marks) (w : ℕ) (m m' : Marks) (ws : List OnWindow) (lt : w < length marks) (was : m ≡ get_or marks w no_marks) (is : m'.dirty ≡ marks_with ws m.dirty) (many : length m.dirty ≡ BAND_SIZE) (k : ℕ) where
  now : get_or (get_or (set marks w m') w no_marks).dirty k false ≡ get_or (marks_with ws m.dirty) k false
  now = ap (λ (x : Marks). get_or x.dirty k false) (get_or-set_same marks w m' no_marks lt) ∙ ap (λ (l : List Bool). get_or l k false) is

  pub marked_after : k < BAND_SIZE → get_or (get_or (set marks w m') w no_marks).dirty k false ≡ (get_or (get_or marks w no_marks).dirty k false || is_covered (on_byte k ws))
  marked_after small = now ∙ (mark_at ws m.dirty k (omega (arith, small, many)) ∙ ap (λ (x : Marks). get_or x.dirty k false || is_covered (on_byte k ws)) was)

  pub unmarked_after : BAND_SIZE ≤ k → get_or (get_or (set marks w m') w no_marks).dirty k false ≡ false
  unmarked_after high = now ∙ get_or_past (marks_with ws m.dirty) k false (let e = length-marks_with ws m.dirty in omega (arith, high, many, e))
