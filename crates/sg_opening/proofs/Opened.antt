-- Each image of opening stands.
use Rattle.std.proofs.Common.{◌≡◌, ◌⊎◌, inl, inr, ⊎_elim, ◌<◌, ◌≤◌, ◌+◌, ◌-◌, ℕ, suc, Bool, true, false, Some, None, Ok, List, [], ◌∷◌, ◌++◌, get_or, cond, refl, sym, ◌∙◌, ap, subst, arith}
use Rattle.std.proofs.lemmas.Bool.{cases_lt, cases_eq}
use Rattle.std.proofs.lemmas.Option.{same_Some}
use Rattle.sg_base.specs.declared.area.Area.TheVariants.{Home}
use Rattle.sg_disk.specs.Disk.{Bytes, Image, State, LeavesPart}
use Rattle.sg_log.specs.Frames.{Numbered, HasRecords}
use Rattle.sg_gate.specs.Layout.{HEADER, HOMES, home_at}
use Rattle.sg_gate.specs.Batch.{laid, numbers_of, IsBatch, IsWhole}
use Rattle.sg_gate.specs.Superblock.{superblock}
use Rattle.sg_gate.proofs.Over.{laid_open, laid_shut, over_low}
use Rattle.sg_gate.proofs.Slots.{superblock_agree}
use Rattle.sg_redo.specs.History.{OnPage, OnByte, number_of, redone, applies, since_repeated, is_covered}
use Rattle.sg_redo.specs.Window.{OnWindow, on_byte, since_replayed}
use Rattle.sg_redo.proofs.Bytes.{part_in, part_out, place_or}
use Rattle.sg_pool.specs.Units.{Geometry, EachPage, EachByte, page_at, band_byte}
use Rattle.sg_pool.proofs.Homes.{page_same}
use Rattle.sg_engine.specs.Numbers.{below, onward, Rises, AllFrom, AllUnder}
use Rattle.sg_engine.specs.History.{Entry, Homes, byte_number, window_number, band_change, byte_change, of_band, of_byte, RepeatsTo, IsHistory, IsCoveredFrom}
use Rattle.sg_engine.specs.Kept.{home_in, IsKept}
use Rattle.sg_engine.specs.Engine.{Origin, entries, geometry, log_area, IsStanding}
use Rattle.sg_engine.proofs.Pages.{onward_in, onward_out}
use Rattle.sg_engine.proofs.Steps as hist
use Rattle.sg_engine.proofs.Main as main
use Rattle.sg_engine.proofs.Logs.{none_more}
use Rattle.sg_engine.proofs.Standing.{stands_kept}
use Rattle.sg_opening.specs.Opening.{IsOpenable, last_number}
use Rattle.sg_opening.proofs.Redo.{redo_written}

-- below the homes of pages a batch lays nothing over
pub laid_low : (f : Bytes) (i : ℕ) → i < HOMES → laid f i ≡ f i
laid_low f i low = ⊎_elim
    (λ is. laid_open f i is ∙ over_low (numbers_of f) 0 f f i low)
    (λ not. laid_shut f i not)
    (cases_eq (f HEADER) 1)

-- a byte of a band, by its records as the band has them
pub of_byte_band : (b i : ℕ) (es : List Entry) → of_byte b i es ≡ on_byte i (of_band b es)
of_byte_band b i [] = refl
of_byte_band b i (e ∷ es) = ap (λ (l : List OnByte). byte_change b i e.lsn e.effect ++ l) (of_byte_band b i es) ∙ sym (on_byte_both i (band_change b e.lsn e.effect) (of_band b es))
  where
    assoc : (xs ys zs : List OnByte) → (xs ++ ys) ++ zs ≡ xs ++ (ys ++ zs)
    assoc [] ys zs = refl
    assoc (x ∷ xs) ys zs = ap (λ l. x ∷ l) (assoc xs ys zs)

    none : (xs : List OnByte) → xs ++ [] ≡ xs
    none [] = refl
    none (x ∷ xs) = ap (λ l. x ∷ l) (none xs)

    first : (i : ℕ) (w : OnWindow) (ws : List OnWindow) → on_byte i (w ∷ ws) ≡ on_byte i (w ∷ []) ++ on_byte i ws
    first i w ws = ap (λ (l : List OnByte). l ++ on_byte i ws) (sym (none _))

    on_byte_both : (i : ℕ) (xs ys : List OnWindow) → on_byte i (xs ++ ys) ≡ on_byte i xs ++ on_byte i ys
    on_byte_both i [] ys = refl
    on_byte_both i (x ∷ xs) ys = first i x (xs ++ ys) ∙ (ap (λ (l : List OnByte). on_byte i (x ∷ []) ++ l) (on_byte_both i xs ys) ∙ (sym (assoc (on_byte i (x ∷ [])) (on_byte i xs) (on_byte i ys)) ∙ ap (λ (l : List OnByte). l ++ on_byte i ys) (sym (first i x xs))))

abbrev byte_of : ℕ → OnWindow → OnByte
byte_of i w = record { lsn = w.lsn; value = get_or w.bytes (i - w.at) 0 }

-- the changes of a band from a number on, as a byte has them
pub on_byte_onward : (i r : ℕ) (ws : List OnWindow) → on_byte i (onward window_number r ws) ≡ onward byte_number r (on_byte i ws)
on_byte_onward i r [] = refl
on_byte_onward i r (w ∷ ws) = ⊎_elim
    (λ lt. ⊎_elim
    (λ here. ap (on_byte i) (onward_out window_number r w ws lt) ∙ (on_byte_onward i r ws ∙ (sym (onward_out byte_number r (byte_of i w) (on_byte i ws) lt) ∙ ap (onward byte_number r) (sym (part_in w i ws here.0 here.1)))))
    (λ out. ap (on_byte i) (onward_out window_number r w ws lt) ∙ (on_byte_onward i r ws ∙ ap (onward byte_number r) (sym (part_out w i ws out))))
    (place_or w i))
    (λ le. ⊎_elim
    (λ here. ap (on_byte i) (onward_in window_number r w ws le) ∙ (part_in w i (onward window_number r ws) here.0 here.1
    ∙ (ap (λ (l : List OnByte). byte_of i w ∷ l) (on_byte_onward i r ws) ∙ (sym (onward_in byte_number r (byte_of i w) (on_byte i ws) le) ∙ ap (onward byte_number r) (sym (part_in w i ws here.0 here.1))))))
    (λ out. ap (on_byte i) (onward_in window_number r w ws le) ∙ (part_out w i (onward window_number r ws) out ∙ (on_byte_onward i r ws ∙ ap (onward byte_number r) (sym (part_out w i ws out)))))
    (place_or w i))
    (cases_lt w.lsn r)

-- what some change from a number on covers is covered from there
pub covered_onward : (r : ℕ) (xs : List OnByte) → is_covered (onward byte_number r xs) ≡ true → IsCoveredFrom r xs
covered_onward r [] covered = absurd (cc)
covered_onward r (x ∷ xs) covered = ⊎_elim
    (λ lt. inr (covered_onward r xs (ap is_covered (sym (onward_out byte_number r x xs lt)) ∙ covered)))
    (λ le. inl le)
    (cases_lt x.lsn r)

-- the oldest change is kept
pub since_kept : (us : List OnPage) (p : List ℕ) (x : ℕ) → since_repeated us p (Some x) ≡ Some x
since_kept [] p x = refl
since_kept (u ∷ us) p x =
    elim (applies u p) as (λ b. since_repeated us (redone u p) (cond b (Some x) (Some x)) ≡ Some x) [ true ↦ since_kept us (redone u p) x | false ↦ since_kept us (redone u p) x ]

-- it is one of them
pub since_under : (d l : ℕ) (us : List OnPage) (p : List ℕ) → AllUnder number_of d us → since_repeated us p None ≡ Some l → l < d
since_under d l [] p under is = absurd (cc)
since_under d l (u ∷ us) p under is =
    let by_test : (b : Bool) → since_repeated us (redone u p) (cond b (Some u.lsn) None) ≡ Some l → l < d = λ b. elim b as (λ b. since_repeated us (redone u p) (cond b (Some u.lsn) None) ≡ Some l → l < d) [
      | true ↦ λ done.
          let same : u.lsn ≡ l = same_Some u.lsn l (sym (since_kept us (redone u p) u.lsn) ∙ done) in
          let low = under.0 in omega arith
      | false ↦ λ done. since_under d l us (redone u p) under.1 done
    ] in
    by_test (applies u p) is

-- and not below a number that all have passed
pub since_from : (r l : ℕ) (us : List OnPage) (p : List ℕ) → AllFrom number_of r us → since_repeated us p None ≡ Some l → r ≤ l
since_from r l [] p from is = absurd (cc)
since_from r l (u ∷ us) p from is =
    let by_test : (b : Bool) → since_repeated us (redone u p) (cond b (Some u.lsn) None) ≡ Some l → r ≤ l = λ b. elim b as (λ b. since_repeated us (redone u p) (cond b (Some u.lsn) None) ≡ Some l → r ≤ l) [
      | true ↦ λ done.
          let same : u.lsn ≡ l = same_Some u.lsn l (sym (since_kept us (redone u p) u.lsn) ∙ done) in
          let low = from.0 in omega arith
      | false ↦ λ done. since_from r l us (redone u p) from.1 done
    ] in
    by_test (applies u p) is

pub onward_from : {X : Type 0} (key : X → ℕ) (r : ℕ) (xs : List X) → AllFrom key r (onward key r xs)
onward_from key r [] = tt
onward_from key r (x ∷ xs) = ⊎_elim
    (λ lt. subst (λ (l : List _). AllFrom key r l) (sym (onward_out key r x xs lt)) (onward_from key r xs))
    (λ le. subst (λ (l : List _). AllFrom key r l) (sym (onward_in key r x xs le)) (le, onward_from key r xs))
    (cases_lt (key x) r)

-- the same of a band: its oldest change is its first
pub replayed_kept : (ws : List OnWindow) (x : ℕ) → since_replayed ws (Some x) ≡ Some x
replayed_kept [] x = refl
replayed_kept (w ∷ ws) x = replayed_kept ws x

pub replayed_from : (r l : ℕ) (ws : List OnWindow) → AllFrom window_number r ws → since_replayed ws None ≡ Some l → r ≤ l
replayed_from r l [] from is = absurd (cc)
replayed_from r l (w ∷ ws) from is =
    let same : w.lsn ≡ l = same_Some w.lsn l (sym (replayed_kept ws w.lsn) ∙ is) in
    let low = from.0 in omega arith

pub replayed_under : (d l : ℕ) (ws : List OnWindow) → AllUnder window_number d ws → since_replayed ws None ≡ Some l → l < d
replayed_under d l [] under is = absurd (cc)
replayed_under d l (w ∷ ws) under is =
    let same : w.lsn ≡ l = same_Some w.lsn l (sym (replayed_kept ws w.lsn) ∙ is) in
    let low = under.0 in omega arith

-- where the last change from r on is below a number, all are
last_under : (d low : ℕ) (ws : List OnWindow) → Rises window_number low ws → last_number ws < d → AllUnder window_number d ws
last_under d low [] rises lt = tt
last_under d low (w ∷ []) rises lt = (lt, tt)
last_under d low (w ∷ x ∷ ws) rises lt =
    let rest = last_under d (suc w.lsn) (x ∷ ws) rises.1 lt in
    let high = rises.1.0 in
    let first = rest.0 in
    (omega arith, rest)

pub onward_under : (r d low : ℕ) (ws : List OnWindow) → Rises window_number low ws → last_number (onward window_number r ws) < d → (onward window_number r ws ≡ [] → ⊥) → AllUnder window_number d ws
onward_under r d low [] rises lt some = absurd (some refl)
onward_under r d low (w ∷ ws) rises lt some = ⊎_elim
    (λ early.
    let out = onward_out window_number r w ws early in
    let rest = onward_under r d (suc w.lsn) ws rises.1 (subst (λ (ys : List OnWindow). last_number ys < d) out lt) (λ none. some (out ∙ none)) in
    (first_low d w ws rest (λ none. some (out ∙ ap (onward window_number r) none)) rises.1, rest))
    (λ le.
    let here = onward_in window_number r w ws le in
    let same : onward window_number r ws ≡ ws = all_onward r (suc w.lsn) ws (omega arith) rises.1 in
    last_under d low (w ∷ ws) rises (subst (λ (ys : List OnWindow). last_number ys < d) (here ∙ ap (λ (l : List OnWindow). w ∷ l) same) lt))
    (cases_lt w.lsn r)
  where
    all_onward : (r low : ℕ) (ws : List OnWindow) → r ≤ low → Rises window_number low ws → onward window_number r ws ≡ ws
    all_onward r low [] le rises = refl
    all_onward r low (w ∷ ws) le rises = onward_in window_number r w ws (let h = rises.0 in omega arith) ∙ ap (λ (l : List OnWindow). w ∷ l) (all_onward r (suc w.lsn) ws (let h = rises.0 in omega arith) rises.1)

    first_low : (d : ℕ) (w : OnWindow) (ws : List OnWindow) → AllUnder window_number d ws → (ws ≡ [] → ⊥) → Rises window_number (suc w.lsn) ws → w.lsn < d
    first_low d w [] under some rises = absurd (some refl)
    first_low d w (x ∷ ws) under some rises = let low = under.0 in let high = rises.0 in omega arith

module _ (o : Origin) (r d : ℕ) (ds : List Numbered) (read : Image) (is : IsOpenable o r d ds read) where
  abbrev pub g : Geometry
  g = geometry o.super

  abbrev pub all : List Entry
  all = entries o ds

  pub history : IsHistory g o.first all
  history = hist.opens g r d all o.first is.sound is.rises is.ends is.sets is.well is.within

  pub starts : IsKept g o.first all d (λ n. r) (λ b. r) o.first
  starts = hist.starts g r d all o.first is.sound is.rises is.ends is.sets is.well is.within

  pub comes : RepeatsTo g r all o.first o.first
  comes = main.comes g o.first o.first all all [] d r d (λ n. r) (λ b. r) history starts (none_more all) tt (λ n lt. omega arith) (λ b lt. omega arith) (omega arith) is.sound.within

  -- AN IMAGE STANDS whose log and superblock are those that were read, and whose home area keeps the invariant
  pub stands : (c : Image) → superblock (c Home) ≡ Ok o.super → HasRecords (c (log_area o.super)) o.super.base d ds → (c Home HEADER ≡ 1 → IsBatch o.super.pages (numbers_of (c Home)))
      → IsKept g o.first all d (λ n. r) (λ b. r) (home_in g (laid (c Home))) → IsStanding o ds ds r c
  stands c super held header kept = stands_kept o ds ds ds [] [] r d d (λ n. r) (λ b. r) c history is.sound.within super held (none_more ds) (none_more ds) tt (omega arith) header kept (λ n lt. omega arith) (λ b lt. omega arith)

  -- homes that are as they were read
  same_kept : (f : Bytes) → EachPage g (λ n. page_at f (home_at n) ≡ o.first.page n) → EachByte g (λ b i. f (band_byte g b i) ≡ o.first.byte b i) → IsKept g o.first all d (λ n. r) (λ b. r) (home_in g f)
  same_kept f pages bytes = redo_written g o.first all d (λ n. r) (λ b. r) o.first (home_in g f) (λ n lt. inl (pages n lt)) (λ b i is_band is_byte. inl (bytes b i is_band is_byte)) starts

  first_page : (n : ℕ) → o.first.page n ≡ page_at (laid (read Home)) (home_at n)
  first_page n = ap (λ (h : Homes). h.page n) is.first

  first_byte : (b i : ℕ) → o.first.byte b i ≡ laid (read Home) (band_byte g b i)
  first_byte b i = ap (λ (h : Homes). h.byte b i) is.first

  -- where opening sees the store with the bytes that were read
  pub seen_pages : (f : Bytes) → ((i : ℕ) → HOMES ≤ i → f i ≡ laid (read Home) i) → EachPage g (λ n. page_at f (home_at n) ≡ o.first.page n)
  seen_pages f same n lt = page_same f (laid (read Home)) (home_at n) (home_at n) (λ k small. same (home_at n + k) (omega arith)) ∙ sym (first_page n)

  pub seen_bytes : (f : Bytes) → ((i : ℕ) → HOMES ≤ i → f i ≡ laid (read Home) i) → EachByte g (λ b i. f (band_byte g b i) ≡ o.first.byte b i)
  seen_bytes f same b i is_band is_byte = same (band_byte g b i) (omega arith) ∙ sym (first_byte b i)

  -- the image that was read
  pub read_stands : IsStanding o ds ds r read
  read_stands = stands read is.super is.held is.header (same_kept (laid (read Home)) (seen_pages (laid (read Home)) (λ i high. refl)) (seen_bytes (laid (read Home)) (λ i high. refl)))

  -- while an open batch is laid over
  pub whole_stands : (s : State) → (s Home).seen ≡ read Home → ((x : Bytes) → LeavesPart (s (log_area o.super)) x → HasRecords x o.super.base d ds) → (Home ≡ log_area o.super → ⊥) → (c : Image) → IsWhole s o.super.pages (laid (s Home).seen) c → IsStanding o ds ds r c
  whole_stands s same held apart c whole =
      let store : (i : ℕ) → (i < HEADER) ⊎ (HOMES ≤ i) → laid (c Home) i ≡ laid (read Home) i = λ i there. whole.home i there ∙ ap (λ (f : Bytes). laid f i) same in
      let slots : (i : ℕ) → i < HEADER → c Home i ≡ read Home i = λ i low. sym (laid_low (c Home) i (omega arith)) ∙ (store i (inl low) ∙ laid_low (read Home) i (omega arith)) in
      stands c (superblock_agree (read Home) (c Home) slots ∙ is.super) (held (c (log_area o.super)) (whole.others (log_area o.super) (λ at. apart (sym at)))) whole.header
      (same_kept (laid (c Home)) (seen_pages (laid (c Home)) (λ i high. store i (inr high))) (seen_bytes (laid (c Home)) (λ i high. store i (inr high))))
