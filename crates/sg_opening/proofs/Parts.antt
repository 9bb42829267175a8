-- Parts of a history are repeated one after another: each image of it stands, and behind each part the units are what the front makes.
use Rattle.std.proofs.Common.{◌≡◌, ◌⊎◌, inl, inr, ⊎_elim, ◌<◌, ◌≤◌, ◌+◌, ◌&&◌, nat_lt, ℕ, suc, Bool, true, false, Option, Some, None, Ok, List, [], ◌∷◌, ◌++◌, cond, is_some, unwrap_or, refl, sym, ◌∙◌, ap, subst, arith}
use Rattle.std.proofs.lemmas.Bool.{cases_lt}
use Rattle.std.proofs.lemmas.Option.{same_Some}
use Rattle.std.proofs.lemmas.Bool.Decides.{nat_tests}
use Rattle.sg_base.specs.Page.{lsn_of}
use Rattle.sg_base.specs.declared.page.TheConstants.{BAND_SIZE}
use Rattle.sg_base.specs.declared.area.Area.{Area}
use Rattle.sg_base.specs.declared.area.Area.TheVariants.{Home}
use Rattle.sg_disk.specs.Disk.{Bytes, Image, Part, View}
use Rattle.sg_log.specs.Frames.{Numbered, HasRecords}
use Rattle.sg_log.specs.Held.{Tail, Holds, tail_of}
use Rattle.sg_gate.specs.Layout.{HEADER, home_at}
use Rattle.sg_gate.specs.Batch.{laid}
use Rattle.sg_gate.specs.Superblock.{superblock}
use Rattle.sg_gate.proofs.Slots.{superblock_agree}
use Rattle.sg_redo.specs.History.{OnPage, OnByte, number_of, redone, repeated, rewritten, applies, since_repeated, is_covered}
use Rattle.sg_redo.specs.Window.{OnWindow, on_byte, since_replayed}
use Rattle.sg_redo.proofs.Versions.{stays, refused}
use Rattle.sg_redo.proofs.Bytes.{part_in, part_out, place_or}
use Rattle.sg_pool.specs.Units.{Geometry, Units, EachPage, IsBacked, IsBelow, page_at, band_byte}
use Rattle.sg_pool.specs.Redone.{PartRecords, IsRedone, AreHomesKnown, AreHomesExact, IsRedoing, IsRedoMoment}
use Rattle.sg_engine.specs.Numbers.{below, onward, Rises, AllFrom, AllUnder}
use Rattle.sg_engine.specs.History.{Entry, byte_number, window_number, page_change, band_change, byte_change, of_page, of_band, of_byte, made, RepeatsTo, IsHistory, IsNumbered, IsIn, IsCoveredFrom}
use Rattle.sg_engine.specs.Kept.{IsPageVersion, IsByteKept, IsKept, PageHome, ByteHome, IsJoined, AreLast, AreBehind, IsEarly, page_estimate, band_estimate}
use Rattle.sg_engine.specs.Engine.{Origin, entries, geometry, log_area, IsLogOf, IsStanding, IsEngineOf}
use Rattle.sg_engine.proofs.Pages.{below_in, below_out, onward_in, onward_out, none_below, rises_less}
use Rattle.sg_engine.proofs.Logs.{none_more}
use Rattle.sg_engine.proofs.Bytes.{all_onward, covered_or, covered_less, uncovered_none}
use Rattle.sg_engine.proofs.Units.{page_one, byte_one, band_one, rises_parts, from_parts, append_parts, rises_front, below_front, durable_self, under_split}
use Rattle.sg_engine.proofs.Steps as hist
use Rattle.sg_opening.specs.Opening.{IsOpenable, IsFresh, AreFrom, last_number}
use Rattle.sg_opening.specs.Parts.{IsRepeatedTo, AreRepeated}
use Rattle.sg_opening.proofs.Placed.{onward_both}
use Rattle.sg_opening.proofs.Opened as opened
use Rattle.sg_opening.proofs.Opened.{since_kept, since_under, since_from, onward_from, replayed_kept, replayed_from, replayed_under, onward_under, of_byte_band, on_byte_onward, covered_onward}

in_front : (e : ℕ) (xs ys : List OnPage) (p : List ℕ) → IsIn e (xs ++ ys) p → IsIn e xs p
in_front e [] ys p in_it = tt
in_front e (x ∷ xs) ys p in_it = (in_it.0, in_front e xs ys p in_it.1)

-- the records below a number that a page has in it change nothing
from_point : (r low : ℕ) (xs : List OnPage) (p : List ℕ) → Rises number_of low xs → IsIn r xs p → repeated xs p ≡ repeated (onward number_of r xs) p
from_point r low [] p rises in_it = refl
from_point r low (x ∷ xs) p rises in_it = ⊎_elim
    (λ lt. ap (repeated xs) (stays x p (in_it.0 lt)) ∙ (from_point r (suc x.lsn) xs p rises.1 in_it.1 ∙ sym (ap (λ (l : List OnPage). repeated l p) (onward_out number_of r x xs lt))))
    (λ le. sym (ap (λ (l : List OnPage). repeated l p) (all_onward number_of r x.lsn (x ∷ xs) le (omega arith, rises.1))))
    (cases_lt x.lsn r)

none_onward : {X : Type 0} (key : X → ℕ) (q r : ℕ) (xs : List X) → q ≤ r → AllUnder key q xs → onward key r xs ≡ []
none_onward key q r [] le under = refl
none_onward key q r (x ∷ xs) le under = onward_out key r x xs (let lt = under.0 in omega arith) ∙ none_onward key q r xs le under.1

no_value : {X : Type 0} (x : Option X) → is_some x ≡ false → x ≡ None
no_value None is = refl
no_value (Some x) is = absurd cc

-- a record that isn't done to a page leaves it
not_done : (u : OnPage) (p : List ℕ) → applies u p ≡ false → redone u p ≡ p
not_done u p is = ⊎_elim
    (λ lt.
    let low : nat_lt (lsn_of p) u.lsn ≡ true = grind (arith, nat_tests) in
    refused u p (no_value (u.makes p) (sym (ap (λ b. b && is_some (u.makes p)) low) ∙ is)))
    (λ le. stays u p le)
    (cases_lt (lsn_of p) u.lsn)

-- and those below the first one that is done aren't
unchanged : (l low : ℕ) (us : List OnPage) (p : List ℕ) → Rises number_of low us → since_repeated us p None ≡ Some l → repeated (below number_of l us) p ≡ p
unchanged l low [] p rises is = refl
unchanged l low (u ∷ us) p rises is = by_test u us p l rises.1 (applies u p) refl is (λ h. unchanged l (suc u.lsn) us p rises.1 h)
  where
    by_test : (u : OnPage) (us : List OnPage) (p : List ℕ) (l : ℕ) → Rises number_of (suc u.lsn) us → (b : Bool) → applies u p ≡ b → since_repeated us (redone u p) (cond b (Some u.lsn) None) ≡ Some l
        → (since_repeated us p None ≡ Some l → repeated (below number_of l us) p ≡ p) → repeated (below number_of l (u ∷ us)) p ≡ p
    by_test u us p l rises true test done more =
        let same : u.lsn ≡ l = same_Some u.lsn l (sym (since_kept us (redone u p) u.lsn) ∙ done) in
        ap (λ (ys : List OnPage). repeated ys p) (none_below number_of l u.lsn (u ∷ us) (omega arith) (omega arith, rises))
    by_test u us p l rises false test rest more =
        let kept = not_done u p test in
        let idle = more (ap (λ (q : List ℕ). since_repeated us q None) (sym kept) ∙ rest) in
        ⊎_elim
        (λ lt. ap (λ (ys : List OnPage). repeated ys p) (below_in number_of l u us lt) ∙ (ap (repeated (below number_of l us)) kept ∙ idle))
        (λ le. ap (λ (ys : List OnPage). repeated ys p) (below_out number_of l u us le) ∙ idle)
        (cases_lt u.lsn l)

below_both : {X : Type 0} (key : X → ℕ) (q : ℕ) (xs ys : List X) → AllUnder key q xs → AllFrom key q ys → below key q (xs ++ ys) ≡ xs
below_both key q xs ys under from = below_front key q q xs ys (durable_self key q (xs ++ ys)) from ∙ hist.under_below key q q xs under (omega arith)

-- below a number that is behind the first list, all of it and what of the second is below
below_behind : {X : Type 0} (key : X → ℕ) (q l : ℕ) (xs ys : List X) → AllUnder key q xs → q ≤ l → below key l (xs ++ ys) ≡ xs ++ below key l ys
below_behind key q l [] ys under le = refl
below_behind key q l (x ∷ xs) ys under le = below_in key l x (xs ++ ys) (let lt = under.0 in omega arith) ∙ ap (λ (zs : List _). x ∷ zs) (below_behind key q l xs ys under.1 le)

from_first : {X : Type 0} (key : X → ℕ) (q : ℕ) (xs ys : List X) → AllFrom key q (xs ++ ys) → AllFrom key q xs
from_first key q [] ys from = tt
from_first key q (x ∷ xs) ys from = (from.0, from_first key q xs ys from.1)

append_assoc : {X : Type 0} (xs ys zs : List X) → (xs ++ ys) ++ zs ≡ xs ++ (ys ++ zs)
append_assoc [] ys zs = refl
append_assoc (x ∷ xs) ys zs = ap (λ (l : List _). x ∷ l) (append_assoc xs ys zs)

rises_back : {X : Type 0} (key : X → ℕ) (low : ℕ) (xs ys : List X) → Rises key low (xs ++ ys) → (k : ℕ) × Rises key k ys
rises_back key low [] ys rises = (low, rises)
rises_back key low (x ∷ xs) ys rises = rises_back key (suc (key x)) xs ys rises.1

covered_back : (e : ℕ) (xs ys : List OnByte) → IsCoveredFrom e ys → IsCoveredFrom e (xs ++ ys)
covered_back e [] ys covered = covered
covered_back e (x ∷ xs) ys covered = inr (covered_back e xs ys covered)

covered_all : (q : ℕ) (ws : List OnByte) → AllFrom byte_number q ws → is_covered ws ≡ true → IsCoveredFrom q ws
covered_all q [] from is = absurd cc
covered_all q (w ∷ ws) from is = inl from.0

onward_front : {X : Type 0} (key : X → ℕ) (q r : ℕ) (xs : List X) → AllFrom key q xs → AllFrom key q (onward key r xs)
onward_front key q r [] from = tt
onward_front key q r (x ∷ xs) from = ⊎_elim
    (λ lt. subst (λ (l : List _). AllFrom key q l) (sym (onward_out key r x xs lt)) (onward_front key q r xs from.1))
    (λ le. subst (λ (l : List _). AllFrom key q l) (sym (onward_in key r x xs le)) (from.0, onward_front key q r xs from.1))
    (cases_lt (key x) r)

onward_low : {X : Type 0} (key : X → ℕ) (d r : ℕ) (xs : List X) → AllUnder key d xs → AllUnder key d (onward key r xs)
onward_low key d r [] under = tt
onward_low key d r (x ∷ xs) under = ⊎_elim
    (λ lt. subst (λ (l : List _). AllUnder key d l) (sym (onward_out key r x xs lt)) (onward_low key d r xs under.1))
    (λ le. subst (λ (l : List _). AllUnder key d l) (sym (onward_in key r x xs le)) (under.0, onward_low key d r xs under.1))
    (cases_lt (key x) r)

onward_rises : {X : Type 0} (key : X → ℕ) (r low : ℕ) (xs : List X) → Rises key low xs → Rises key low (onward key r xs)
onward_rises key r low [] rises = tt
onward_rises key r low (x ∷ xs) rises = ⊎_elim
    (λ lt. subst (λ (l : List _). Rises key low l) (sym (onward_out key r x xs lt)) (rises_less key low (suc (key x)) (onward key r xs) (let h = rises.0 in omega arith) (onward_rises key r (suc (key x)) xs rises.1)))
    (λ le. subst (λ (l : List _). Rises key low l) (sym (onward_in key r x xs le)) (rises.0, onward_rises key r (suc (key x)) xs rises.1))
    (cases_lt (key x) r)

pub rises_from : {X : Type 0} (key : X → ℕ) (low : ℕ) (xs : List X) → Rises key low xs → AllFrom key low xs
rises_from key low [] rises = tt
rises_from key low (x ∷ xs) rises = (rises.0, less key low (suc (key x)) xs (let h = rises.0 in omega arith) (rises_from key (suc (key x)) xs rises.1))
  where
    less : {X : Type 0} (key : X → ℕ) (c d : ℕ) (xs : List X) → c ≤ d → AllFrom key d xs → AllFrom key c xs
    less key c d [] le from = tt
    less key c d (x ∷ xs) le from = (let h = from.0 in omega arith, less key c d xs le from.1)

-- where a band's first change has this number, each is from there on
first_from : (l low : ℕ) (ws : List OnWindow) → Rises window_number low ws → since_replayed ws None ≡ Some l → AllFrom window_number l ws
first_from l low [] rises is = tt
first_from l low (w ∷ ws) rises is =
    let same : w.lsn ≡ l = same_Some w.lsn l (sym (replayed_kept ws w.lsn) ∙ is) in
    subst (λ (k : ℕ). AllFrom window_number k (w ∷ ws)) same (rises_from window_number w.lsn (w ∷ ws) (omega arith, rises.1))

-- as a byte has them
windows_from : (i q : ℕ) (ws : List OnWindow) → AllFrom window_number q ws → AllFrom byte_number q (on_byte i ws)
windows_from i q [] from = tt
windows_from i q (w ∷ ws) from = ⊎_elim
    (λ here. subst (λ (l : List OnByte). AllFrom byte_number q l) (sym (part_in w i ws here.0 here.1)) (from.0, windows_from i q ws from.1))
    (λ out. subst (λ (l : List OnByte). AllFrom byte_number q l) (sym (part_out w i ws out)) (windows_from i q ws from.1))
    (place_or w i)

below_onward : {X : Type 0} (key : X → ℕ) (l r : ℕ) (xs : List X) → below key l (onward key r xs) ≡ onward key r (below key l xs)
below_onward key l r [] = refl
below_onward key l r (x ∷ xs) = ⊎_elim
    (λ early. ⊎_elim
    (λ low. ap (below key l) (onward_out key r x xs early) ∙ (below_onward key l r xs ∙ (sym (onward_out key r x (below key l xs) early) ∙ ap (onward key r) (sym (below_in key l x xs low)))))
    (λ high. ap (below key l) (onward_out key r x xs early) ∙ (below_onward key l r xs ∙ ap (onward key r) (sym (below_out key l x xs high))))
    (cases_lt (key x) l))
    (λ late. ⊎_elim
    (λ low. ap (below key l) (onward_in key r x xs late) ∙ (below_in key l x (onward key r xs) low ∙ (ap (λ (zs : List _). x ∷ zs) (below_onward key l r xs) ∙ (sym (onward_in key r x (below key l xs) late) ∙ ap (onward key r) (sym (below_in key l x xs low))))))
    (λ high. ap (below key l) (onward_in key r x xs late) ∙ (below_out key l x (onward key r xs) high ∙ (below_onward key l r xs ∙ ap (onward key r) (sym (below_out key l x xs high)))))
    (cases_lt (key x) l))
    (cases_lt (key x) r)

-- none of the second list is below a number at which it begins
below_first : {X : Type 0} (key : X → ℕ) (q l : ℕ) (xs ys : List X) → l ≤ q → AllFrom key q ys → below key l (xs ++ ys) ≡ below key l xs
below_first key q l [] [] le from = refl
below_first key q l [] (y ∷ ys) le from = below_out key l y ys (let high = from.0 in omega arith) ∙ below_first key q l [] ys le from.1
below_first key q l (x ∷ xs) ys le from = ⊎_elim
    (λ lt. below_in key l x (xs ++ ys) lt ∙ (ap (λ (zs : List _). x ∷ zs) (below_first key q l xs ys le from) ∙ sym (below_in key l x xs lt)))
    (λ high. below_out key l x (xs ++ ys) high ∙ (below_first key q l xs ys le from ∙ sym (below_out key l x xs high)))
    (cases_lt (key x) l)

rises_below : {X : Type 0} (key : X → ℕ) (l low : ℕ) (xs : List X) → Rises key low xs → Rises key low (below key l xs)
rises_below key l low [] rises = tt
rises_below key l low (x ∷ xs) rises = ⊎_elim
    (λ lt. subst (λ (zs : List _). Rises key low zs) (sym (below_in key l x xs lt)) (rises.0, rises_below key l (suc (key x)) xs rises.1))
    (λ high. subst (λ (zs : List _). Rises key low zs) (sym (below_out key l x xs high)) (rises_less key low (suc (key x)) (below key l xs) (let h = rises.0 in omega arith) (rises_below key l (suc (key x)) xs rises.1)))
    (cases_lt (key x) l)

in_below : (e l : ℕ) (xs : List OnPage) (p : List ℕ) → IsIn e xs p → IsIn e (below number_of l xs) p
in_below e l [] p in_it = tt
in_below e l (x ∷ xs) p in_it = ⊎_elim
    (λ lt. subst (λ (zs : List OnPage). IsIn e zs p) (sym (below_in number_of l x xs lt)) (in_it.0, in_below e l xs p in_it.1))
    (λ high. subst (λ (zs : List OnPage). IsIn e zs p) (sym (below_out number_of l x xs high)) (in_below e l xs p in_it.1))
    (cases_lt x.lsn l)

covered_onward_all : (r e : ℕ) (ws : List OnByte) → IsCoveredFrom e (onward byte_number r ws) → IsCoveredFrom e ws
covered_onward_all r e [] covered = covered
covered_onward_all r e (w ∷ ws) covered = ⊎_elim
    (λ lt. inr (covered_onward_all r e ws (subst (λ (l : List OnByte). IsCoveredFrom e l) (onward_out byte_number r w ws lt) covered)))
    (λ le. ⊎_elim (λ here. inl here) (λ there. inr (covered_onward_all r e ws there)) (subst (λ (l : List OnByte). IsCoveredFrom e l) (onward_in byte_number r w ws le) covered))
    (cases_lt w.lsn r)

last_both : (xs ys : List OnWindow) → (ys ≡ [] → ⊥) → last_number (xs ++ ys) ≡ last_number ys
last_both [] ys some = refl
last_both (x ∷ []) [] some = absurd (some refl)
last_both (x ∷ []) (y ∷ ys) some = refl
last_both (x ∷ z ∷ xs) ys some = last_both (z ∷ xs) ys some

not_nil : {X : Type 0} (xs ys : List X) → ((xs ≡ []) → ⊥) ⊎ ((ys ≡ []) → ⊥) → xs ++ ys ≡ [] → ⊥
not_nil [] ys some is = ⊎_elim (λ left. left refl) (λ right. right is) some
not_nil (x ∷ xs) ys some is = absurd cc

append_nil : {X : Type 0} (xs ys : List X) → ys ≡ [] → xs ++ ys ≡ xs
append_nil [] ys is = is
append_nil (x ∷ xs) ys is = ap (λ (l : List _). x ∷ l) (append_nil xs ys is)

nothing : (l : ℕ) → None ≡ Some l → ⊥
nothing l e = cc

differ : (x : Bool) → x ≡ false → x ≡ true → ⊥
differ x a b = cc

module _ (o : Origin) (r d : ℕ) (ds : List Numbered) (read : Image) (is : IsOpenable o r d ds read) where
  abbrev g : Geometry
  g = geometry o.super

  abbrev all : List Entry
  all = entries o ds

  starts : IsKept g o.first all d (λ n. r) (λ b. r) o.first
  starts = opened.starts o r d ds read is

  under_page : (n : ℕ) → AllUnder number_of d (of_page n all)
  under_page n = hist.under_parts number_of (λ e. page_change n e.lsn e.effect) (λ e. page_one n e.lsn e.effect) d all is.ends

  under_byte : (b i : ℕ) → AllUnder byte_number d (of_byte b i all)
  under_byte b i = hist.under_parts byte_number (λ e. byte_change b i e.lsn e.effect) (λ e. byte_one b i e.lsn e.effect) d all is.ends

  durable_covered : (b i : ℕ) → IsCoveredFrom r (of_byte b i all) → IsCoveredFrom r (below byte_number d (of_byte b i all))
  durable_covered b i there = subst (λ (l : List OnByte). IsCoveredFrom r l) (sym (hist.under_below byte_number d d (of_byte b i all) (under_byte b i) (omega arith))) there

  rises_page : (n : ℕ) → Rises number_of 1 (of_page n all)
  rises_page n = rises_parts number_of (λ e. page_change n e.lsn e.effect) (λ e. page_one n e.lsn e.effect) 1 all is.rises

  page_split : (n : ℕ) (xs ys : List Entry) → of_page n (xs ++ ys) ≡ of_page n xs ++ of_page n ys
  page_split n xs ys = append_parts number_of (λ e. page_change n e.lsn e.effect) (λ e. page_one n e.lsn e.effect) xs ys

  byte_split : (b i : ℕ) (xs ys : List Entry) → of_byte b i (xs ++ ys) ≡ of_byte b i xs ++ of_byte b i ys
  byte_split b i xs ys = append_parts byte_number (λ e. byte_change b i e.lsn e.effect) (λ e. byte_one b i e.lsn e.effect) xs ys

  band_split : (b : ℕ) (xs ys : List Entry) → of_band b (xs ++ ys) ≡ of_band b xs ++ of_band b ys
  band_split b xs ys = append_parts window_number (λ e. band_change b e.lsn e.effect) (λ e. band_one b e.lsn e.effect) xs ys

  page_onward : (n : ℕ) (xs ys : List Entry) → onward number_of r (of_page n (xs ++ ys)) ≡ onward number_of r (of_page n xs) ++ onward number_of r (of_page n ys)
  page_onward n xs ys = ap (onward number_of r) (page_split n xs ys) ∙ onward_both number_of r (of_page n xs) (of_page n ys)

  byte_onward : (b i : ℕ) (xs ys : List Entry) → onward byte_number r (of_byte b i (xs ++ ys)) ≡ onward byte_number r (of_byte b i xs) ++ onward byte_number r (of_byte b i ys)
  byte_onward b i xs ys = ap (onward byte_number r) (byte_split b i xs ys) ∙ onward_both byte_number r (of_byte b i xs) (of_byte b i ys)

  band_onward : (b : ℕ) (xs ys : List Entry) → onward window_number r (of_band b (xs ++ ys)) ≡ onward window_number r (of_band b xs) ++ onward window_number r (of_band b ys)
  band_onward b xs ys = ap (onward window_number r) (band_split b xs ys) ∙ onward_both window_number r (of_band b xs) (of_band b ys)

  -- the changes of a part, as a byte has them
  byte_of_band : (b i : ℕ) (xs : List Entry) (ws : List OnWindow) → ws ≡ onward window_number r (of_band b xs) → on_byte i ws ≡ onward byte_number r (of_byte b i xs)
  byte_of_band b i xs ws from = ap (on_byte i) from ∙ (on_byte_onward i r (of_band b xs) ∙ ap (onward byte_number r) (sym (of_byte_band b i xs)))

  -- A FRONT of the records
  module _ (front back : List Entry) (to : ℕ) (split : IsRepeatedTo all front back to) where
    pub of_page_all : (n : ℕ) → of_page n all ≡ of_page n front ++ of_page n back
    of_page_all n = ap (of_page n) split.is_all ∙ page_split n front back

    front_under : (n : ℕ) → AllUnder number_of to (of_page n front)
    front_under n = hist.under_parts number_of (λ e. page_change n e.lsn e.effect) (λ e. page_one n e.lsn e.effect) to front split.under

    back_from : (n : ℕ) → AllFrom number_of to (of_page n back)
    back_from n = from_parts number_of (λ e. page_change n e.lsn e.effect) (λ e. page_one n e.lsn e.effect) to back split.behind

    below_to : (n : ℕ) → below number_of to (of_page n all) ≡ of_page n front
    below_to n = ap (below number_of to) (of_page_all n) ∙ below_both number_of to (of_page n front) (of_page n back) (front_under n) (back_from n)

    -- what the whole front makes of a page it makes from the redo point on
    pub front_made : (n : ℕ) → n < g.pages → repeated (of_page n front) (o.first.page n) ≡ repeated (onward number_of r (of_page n front)) (o.first.page n)
    front_made n lt = from_point r 1 (of_page n front) (o.first.page n)
        (rises_front number_of 1 (of_page n front) (of_page n back) (subst (λ (l : List OnPage). Rises number_of 1 l) (of_page_all n) (rises_page n)))
        (in_front r (of_page n front) (of_page n back) (o.first.page n) (subst (λ (l : List OnPage). IsIn r l (o.first.page n)) (of_page_all n) (is.sound.is_in n lt)))

    -- and that is a version from each number of the front on
    made_version : (n e : ℕ) → n < g.pages → e ≤ to → (p : List ℕ) → p ≡ repeated (onward number_of r (of_page n front)) (o.first.page n) → IsPageVersion all d e n (o.first.page n) p
    made_version n e lt le p made = record {
      cut = to;
      late = le;
      is = made ∙ (sym (front_made n lt) ∙ ap (λ (l : List OnPage). repeated l (o.first.page n)) (sym (below_to n)));
      durable = hist.under_durable number_of d to (of_page n all) (under_page n);
    }

    pub front_version : (n : ℕ) → n < g.pages → (p : List ℕ) → p ≡ repeated (onward number_of r (of_page n front)) (o.first.page n) → IsPageVersion all d r n (o.first.page n) p
    front_version n lt p made = ⊎_elim
        (λ early.
        let none : onward number_of r (of_page n front) ≡ [] = none_onward number_of to r (of_page n front) (omega arith) (front_under n) in
        subst (λ (q : List ℕ). IsPageVersion all d r n (o.first.page n) q) (sym (made ∙ ap (λ (l : List OnPage). repeated l (o.first.page n)) none)) (starts.pages n lt))
        (λ le. made_version n r lt le p made)
        (cases_lt to r)

    front_covered : (b i e : ℕ) → IsCoveredFrom e (of_byte b i front) → IsCoveredFrom e (of_byte b i all)
    front_covered b i e there = subst (λ (l : List OnByte). IsCoveredFrom e l) (sym (ap (of_byte b i) split.is_all ∙ byte_split b i front back)) (hist.covered_front e (of_byte b i front) (of_byte b i back) there)

    -- so is a byte, or it is covered
    front_byte : (b i : ℕ) → b < g.bands → i < BAND_SIZE → (x : ℕ) → x ≡ rewritten (onward byte_number r (of_byte b i front)) (o.first.byte b i) → IsByteKept all d r b i (o.first.byte b i) x
    front_byte b i is_band is_byte x made = ⊎_elim
        (λ there. inr (durable_covered b i (front_covered b i r there)))
        (λ bare. subst (λ (y : ℕ). IsByteKept all d r b i (o.first.byte b i) y) (sym (made ∙ ap (λ (l : List OnByte). rewritten l (o.first.byte b i)) (uncovered_none r (of_byte b i front) bare))) (starts.bytes b i is_band is_byte))
        (covered_or r (of_byte b i front))

    -- THE UNITS behind it
    module _ (home : Part) (last : ℕ → ℕ) (m : Units) (backed : IsBacked g home m) (half : AreRepeated g o.first all front r to d home.seen last m) where
      page_home_of : (n : ℕ) → n < g.pages → (x : Option ℕ) → m.page_since n ≡ x → IsPageVersion all d r n (o.first.page n) (page_at home.seen (home_at n))
      page_home_of n lt None e = front_version n lt (page_at home.seen (home_at n)) (backed.pages n lt e ∙ half.page n lt)
      page_home_of n lt (Some l) e =
          let v = half.page_home n l lt e in
          let low = (half.page_since n l lt e).0 in
          record { cut = v.cut; late = (let late = v.late in omega arith); is = v.is; durable = v.durable }

      home_page : (n : ℕ) → n < g.pages → IsPageVersion all d r n (o.first.page n) (page_at home.seen (home_at n))
      home_page n lt = page_home_of n lt (m.page_since n) refl

      marked_covered : (b i : ℕ) → b < g.bands → i < BAND_SIZE → m.marked b i ≡ true → (x : Option ℕ) → m.band_since b ≡ x → IsCoveredFrom r (of_byte b i all)
      marked_covered b i is_band is_byte marked None e = absurd (differ (m.marked b i) (backed.clean b i e) marked)
      marked_covered b i is_band is_byte marked (Some l) e = covered_less r l (of_byte b i all) (half.band_since b l is_band e).0 (half.marked b i l is_band is_byte e marked)

      byte_home_of : (b i : ℕ) → b < g.bands → i < BAND_SIZE → (y : Bool) → m.marked b i ≡ y → IsByteKept all d r b i (o.first.byte b i) (home.seen (band_byte g b i))
      byte_home_of b i is_band is_byte false bare = front_byte b i is_band is_byte (home.seen (band_byte g b i)) (backed.bytes b i is_band is_byte bare ∙ half.byte b i is_band is_byte)
      byte_home_of b i is_band is_byte true marked = inr (durable_covered b i (marked_covered b i is_band is_byte marked (m.band_since b) refl))

      home_byte : (b i : ℕ) → b < g.bands → i < BAND_SIZE → IsByteKept all d r b i (o.first.byte b i) (home.seen (band_byte g b i))
      home_byte b i is_band is_byte = byte_home_of b i is_band is_byte (m.marked b i) refl

  -- A PART behind the front
  module _ (front part rest : List Entry) (to to' : ℕ) (split : IsRepeatedTo all front (part ++ rest) to) (split' : IsRepeatedTo all (front ++ part) rest to') (later : to ≤ to')
      (home : Part) (last : ℕ → ℕ) (m : Units) (backed : IsBacked g home m) (half : AreRepeated g o.first all front r to d home.seen last m) (rs : PartRecords) (from : AreFrom g r part rs) where
    page_next : (n : ℕ) → n < g.pages → repeated (rs.page n) (m.page n) ≡ repeated (onward number_of r (of_page n (front ++ part))) (o.first.page n)
    page_next n lt = ap (λ (us : List OnPage). repeated us (m.page n)) (from.page n lt)
        ∙ (ap (repeated (onward number_of r (of_page n part))) (half.page n lt)
        ∙ (sym (hist.repeated_append (onward number_of r (of_page n front)) (onward number_of r (of_page n part)) (o.first.page n))
        ∙ ap (λ (us : List OnPage). repeated us (o.first.page n)) (sym (page_onward n front part))))

    byte_next : (b i : ℕ) → b < g.bands → i < BAND_SIZE → rewritten (on_byte i (rs.band b)) (m.byte b i) ≡ rewritten (onward byte_number r (of_byte b i (front ++ part))) (o.first.byte b i)
    byte_next b i is_band is_byte = ap (λ (ws : List OnByte). rewritten ws (m.byte b i)) (byte_of_band b i part (rs.band b) (from.band b is_band))
        ∙ (ap (rewritten (onward byte_number r (of_byte b i part))) (half.byte b i is_band is_byte)
        ∙ (sym (hist.rewritten_append (onward byte_number r (of_byte b i front)) (onward byte_number r (of_byte b i part)) (o.first.byte b i))
        ∙ ap (λ (ws : List OnByte). rewritten ws (o.first.byte b i)) (sym (byte_onward b i front part))))

    -- what a record of the part covers is covered in all
    in_all : (b i e : ℕ) → IsCoveredFrom e (of_byte b i part) → IsCoveredFrom e (of_byte b i all)
    in_all b i e there = front_covered (front ++ part) rest to' split' b i e
        (subst (λ (l : List OnByte). IsCoveredFrom e l) (sym (byte_split b i front part)) (covered_back e (of_byte b i front) (of_byte b i part) there))

    part_covered : (b i : ℕ) → b < g.bands → is_covered (on_byte i (rs.band b)) ≡ true → IsCoveredFrom r (of_byte b i all)
    part_covered b i is_band here = in_all b i r (covered_onward r (of_byte b i part) (ap is_covered (sym (byte_of_band b i part (rs.band b) (from.band b is_band))) ∙ here))

    -- EACH IMAGE while the part is repeated
    page_going : (now : Bytes) → IsRedoing g d last rs home.seen m now → (n : ℕ) → n < g.pages → IsPageVersion all d r n (o.first.page n) (page_at now (home_at n))
    page_going now going n lt = ⊎_elim
        (λ same. subst (λ (p : List ℕ). IsPageVersion all d r n (o.first.page n) p) (sym same) (home_page front (part ++ rest) to split home last m backed half n lt))
        (λ gone. ⊎_elim
        (λ was. front_version front (part ++ rest) to split n lt (page_at now (home_at n)) (was ∙ half.page n lt))
        (λ made. front_version (front ++ part) rest to' split' n lt (page_at now (home_at n)) (made ∙ page_next n lt))
        gone.0)
        (going.pages n lt)

    byte_going : (now : Bytes) → IsRedoing g d last rs home.seen m now → (b i : ℕ) → b < g.bands → i < BAND_SIZE → IsByteKept all d r b i (o.first.byte b i) (now (band_byte g b i))
    byte_going now going b i is_band is_byte = ⊎_elim
        (λ same. subst (λ (x : ℕ). IsByteKept all d r b i (o.first.byte b i) x) (sym same) (home_byte front (part ++ rest) to split home last m backed half b i is_band is_byte))
        (λ gone. ⊎_elim
        (λ marked. inr (durable_covered b i (marked_covered front (part ++ rest) to split home last m backed half b i is_band is_byte marked.0 (m.band_since b) refl)))
        (λ here. inr (durable_covered b i (part_covered b i is_band here.0)))
        gone)
        (going.bytes b i is_band is_byte)

    pub part_stands : (v : View) (log : Tail) → v.now Home ≡ home → IsLogOf o.super log → log.gate ≡ d → superblock home.seen ≡ Ok o.super → (c : Image) → IsRedoMoment g v log ds last rs m c → IsStanding o ds ds r c
    part_stands v log at place gate super c moment =
        let slots : (i : ℕ) → i < HEADER → c Home i ≡ home.seen i = λ i low. moment.superblock i low ∙ ap (λ (p : Part). p.seen i) at in
        let going : IsRedoing g d last rs home.seen m (laid (c Home)) = subst (λ (k : ℕ). IsRedoing g k last rs home.seen m (laid (c Home))) gate (subst (λ (p : Part). IsRedoing g log.gate last rs p.seen m (laid (c Home))) at moment.going) in
        let held : HasRecords (c (log_area o.super)) o.super.base log.gate ds = subst (λ (b : ℕ). HasRecords (c (log_area o.super)) b log.gate ds) place.base (subst (λ (a : Area). HasRecords (c a) log.base log.gate ds) place.area moment.held) in
        opened.stands o r d ds read is c (superblock_agree home.seen (c Home) slots ∙ super) (subst (λ (k : ℕ). HasRecords (c (log_area o.super)) o.super.base k ds) gate held) moment.header
        (record { pages = page_going (laid (c Home)) going; bytes = byte_going (laid (c Home)) going })

    -- BEHIND IT
    module _ (home' : Part) (last' : ℕ → ℕ) (m' : Units) (redone : IsRedone g rs m m') (known : AreHomesKnown g home' rs m m') (exact : AreHomesExact g home.seen home'.seen rs m m')
        (lasts : (b l : ℕ) → b < g.bands → m'.band_since b ≡ Some l → ((rs.band b ≡ []) × (m.band_since b ≡ Some l) × (last' b ≡ last b)) ⊎ ((rs.band b ≡ [] → ⊥) × (last' b ≡ last_number (rs.band b)))) where
      part_under : (n : ℕ) → AllUnder number_of to' (of_page n part)
      part_under n = (under_split number_of to' (of_page n front) (of_page n part) (subst (λ (l : List OnPage). AllUnder number_of to' l) (page_split n front part) (front_under (front ++ part) rest to' split' n))).1

      part_rises : (n : ℕ) → (k : ℕ) × Rises number_of k (of_page n part)
      part_rises n =
          let both : Rises number_of 1 ((of_page n front ++ of_page n part) ++ of_page n rest) = subst (λ (l : List OnPage). Rises number_of 1 l) (of_page_all (front ++ part) rest to' split' n ∙ ap (λ (l : List OnPage). l ++ of_page n rest) (page_split n front part)) (rises_page n) in
          rises_back number_of 1 (of_page n front) (of_page n part) (rises_front number_of 1 (of_page n front ++ of_page n part) (of_page n rest) both)

      -- a page's oldest change is the one that it had, or the first of the part that was done
      page_which : (n l : ℕ) → n < g.pages → m'.page_since n ≡ Some l → (m.page_since n ≡ Some l) ⊎ (since_repeated (rs.page n) (m.page n) None ≡ Some l)
      page_which n l lt some = ⊎_elim
          (λ kept. by_since (m.page_since n) refl (sym kept ∙ some))
          (λ more. ⊎_elim (λ new. inr (sym new ∙ some)) (λ none. absurd (nothing l (sym none ∙ some))) more)
          (redone.pages n lt).since
        where
          by_since : (x : Option ℕ) → m.page_since n ≡ x → since_repeated (rs.page n) (m.page n) (m.page_since n) ≡ Some l → (m.page_since n ≡ Some l) ⊎ (since_repeated (rs.page n) (m.page n) None ≡ Some l)
          by_since None e h = inr (ap (since_repeated (rs.page n) (m.page n)) (sym e) ∙ h)
          by_since (Some x) e h = inl (e ∙ (sym (since_kept (rs.page n) (m.page n) x) ∙ (ap (since_repeated (rs.page n) (m.page n)) (sym e) ∙ h)))

      page_new : (n l : ℕ) → n < g.pages → since_repeated (rs.page n) (m.page n) None ≡ Some l → (r ≤ l) × (l < to')
      page_new n l lt new =
          let here : since_repeated (onward number_of r (of_page n part)) (m.page n) None ≡ Some l = ap (λ (us : List OnPage). since_repeated us (m.page n) None) (sym (from.page n lt)) ∙ new in (
            since_from r l (onward number_of r (of_page n part)) (m.page n) (onward_from number_of r (of_page n part)) here,
            since_under to' l (onward number_of r (of_page n part)) (m.page n) (onward_low number_of to' r (of_page n part) (part_under n)) here,
          )

      page_range : (n l : ℕ) → n < g.pages → m'.page_since n ≡ Some l → (r ≤ l) × (l < to')
      page_range n l lt some = ⊎_elim
          (λ old. let h = half.page_since n l lt old in let high = h.1 in (h.0, omega arith))
          (λ new. page_new n l lt new)
          (page_which n l lt some)

      -- of a page's records below l, where the part's first one that was done has that number, those from the redo point on are the front's and
      -- some of the part's
      below_parts : (n l : ℕ) → to ≤ l → l < to' → onward number_of r (below number_of l (of_page n all)) ≡ onward number_of r (of_page n front) ++ below number_of l (onward number_of r (of_page n part))
      below_parts n l le lt =
          let x : List OnPage = onward number_of r (of_page n front) in
          let y : List OnPage = onward number_of r (of_page n part) in
          let z : List OnPage = onward number_of r (of_page n rest) in
          let whole : onward number_of r (of_page n all) ≡ (x ++ y) ++ z
          = ap (onward number_of r) (of_page_all (front ++ part) rest to' split' n) ∙ (onward_both number_of r (of_page n (front ++ part)) (of_page n rest) ∙ ap (λ (l : List OnPage). l ++ z) (page_onward n front part)) in
          sym (below_onward number_of l r (of_page n all))
          ∙ (ap (below number_of l) whole
          ∙ (below_first number_of to' l (x ++ y) z (omega arith) (onward_front number_of to' r (of_page n rest) (back_from (front ++ part) rest to' split' n))
          ∙ below_behind number_of to l x y (onward_low number_of to r (of_page n front) (front_under front (part ++ rest) to split n)) le))

      -- the page that the front made, from the first change of the part that was done on
      lacking : (n l : ℕ) → n < g.pages → since_repeated (rs.page n) (m.page n) None ≡ Some l → (p : List ℕ) → p ≡ m.page n → IsPageVersion all d l n (o.first.page n) p
      lacking n l lt new p same = ⊎_elim
          (λ early. made_version front (part ++ rest) to split n l lt (omega arith) p (same ∙ half.page n lt))
          (λ late. record {
            cut = l;
            late = omega arith;
            is = same ∙ sym (behind late);
            durable = hist.under_durable number_of d l (of_page n all) (under_page n);
          })
          (cases_lt l to)
        where
          new_here : since_repeated (onward number_of r (of_page n part)) (m.page n) None ≡ Some l
          new_here = ap (λ (xs : List OnPage). since_repeated xs (m.page n) None) (sym (from.page n lt)) ∙ new

          idle : repeated (below number_of l (onward number_of r (of_page n part))) (m.page n) ≡ m.page n
          idle = let rises = part_rises n in unchanged l rises.0 (onward number_of r (of_page n part)) (m.page n) (onward_rises number_of r rises.0 (of_page n part) rises.1) new_here

          behind : to ≤ l → repeated (below number_of l (of_page n all)) (o.first.page n) ≡ m.page n
          behind late =
              let x : List OnPage = onward number_of r (of_page n front) in
              let y : List OnPage = below number_of l (onward number_of r (of_page n part)) in
              from_point r 1 (below number_of l (of_page n all)) (o.first.page n) (rises_below number_of l 1 (of_page n all) (rises_page n)) (in_below r l (of_page n all) (o.first.page n) (is.sound.is_in n lt))
              ∙ (ap (λ (us : List OnPage). repeated us (o.first.page n)) (below_parts n l late (page_new n l lt new).1)
              ∙ (hist.repeated_append x y (o.first.page n) ∙ (ap (repeated y) (sym (half.page n lt)) ∙ idle)))

      home_old : (n l : ℕ) → n < g.pages → m'.page_since n ≡ Some l → m.page_since n ≡ Some l → IsPageVersion all d l n (o.first.page n) (page_at home'.seen (home_at n))
      home_old n l lt some old = ⊎_elim
          (λ same. subst (λ (p : List ℕ). IsPageVersion all d l n (o.first.page n) p) (sym same) (half.page_home n l lt old))
          (λ gone. made_version front (part ++ rest) to split n l lt (let low = (half.page_since n l lt old).1 in omega arith) (page_at home'.seen (home_at n)) (gone.1 ∙ half.page n lt))
          (exact.pages n l lt some)

      home_then : (n l : ℕ) → n < g.pages → m'.page_since n ≡ Some l → IsPageVersion all d l n (o.first.page n) (page_at home'.seen (home_at n))
      home_then n l lt some = ⊎_elim
          (λ old. home_old n l lt some old)
          (λ new. ⊎_elim
          (λ kept. home_old n l lt some (sym kept ∙ some))
          (λ version. ⊎_elim
          (λ was. lacking n l lt new (page_at home'.seen (home_at n)) was)
          (λ made. made_version (front ++ part) rest to' split' n l lt (let low = (page_new n l lt new).1 in omega arith) (page_at home'.seen (home_at n)) (made ∙ page_next n lt))
          version)
          (known n lt))
          (page_which n l lt some)

      -- a band's oldest change is the one that it had, or the first of the part, and then the part covers what is marked
      band_which : (b l : ℕ) → b < g.bands → m'.band_since b ≡ Some l
          → (m.band_since b ≡ Some l) ⊎ ((since_replayed (rs.band b) None ≡ Some l) × ((i : ℕ) → i < BAND_SIZE → m'.marked b i ≡ true → is_covered (on_byte i (rs.band b)) ≡ true))
      band_which b l is_band some = ⊎_elim
          (λ kept. by_since (m.band_since b) refl (sym kept ∙ some))
          (λ more. ⊎_elim (λ only. inr (sym only.since ∙ some, λ i is_byte marked. only.marked i is_byte marked)) (λ none. absurd (nothing l (sym none ∙ some))) more)
          (redone.bands b is_band).since
        where
          by_since : (x : Option ℕ) → m.band_since b ≡ x → since_replayed (rs.band b) (m.band_since b) ≡ Some l
              → (m.band_since b ≡ Some l) ⊎ ((since_replayed (rs.band b) None ≡ Some l) × ((i : ℕ) → i < BAND_SIZE → m'.marked b i ≡ true → is_covered (on_byte i (rs.band b)) ≡ true))
          by_since None e h = inr (
            ap (since_replayed (rs.band b)) (sym e) ∙ h,
            λ i is_byte marked. ⊎_elim (λ was. absurd (differ (m.marked b i) (backed.clean b i e) was)) (λ here. here) ((redone.bands b is_band).marked i is_byte marked),
          )
          by_since (Some x) e h = inl (e ∙ (sym (replayed_kept (rs.band b) x) ∙ (ap (since_replayed (rs.band b)) (sym e) ∙ h)))

      part_band_under : (b : ℕ) → AllUnder window_number to' (of_band b part)
      part_band_under b = (under_split window_number to' (of_band b front) (of_band b part)
          (subst (λ (l : List OnWindow). AllUnder window_number to' l) (band_split b front part) (hist.under_parts window_number (λ e. band_change b e.lsn e.effect) (λ e. band_one b e.lsn e.effect) to' (front ++ part) split'.under))).1

      part_band_rises : (b : ℕ) → (k : ℕ) × Rises window_number k (of_band b part)
      part_band_rises b =
          let whole : Rises window_number 1 (of_band b all) = rises_parts window_number (λ e. band_change b e.lsn e.effect) (λ e. band_one b e.lsn e.effect) 1 all is.rises in
          let both : Rises window_number 1 ((of_band b front ++ of_band b part) ++ of_band b rest)
          = subst (λ (l : List OnWindow). Rises window_number 1 l) ((ap (of_band b) split'.is_all ∙ band_split b (front ++ part) rest) ∙ ap (λ (l : List OnWindow). l ++ of_band b rest) (band_split b front part)) whole in
          rises_back window_number 1 (of_band b front) (of_band b part) (rises_front window_number 1 (of_band b front ++ of_band b part) (of_band b rest) both)

      band_range : (b l : ℕ) → b < g.bands → m'.band_since b ≡ Some l → (r ≤ l) × (l < to')
      band_range b l is_band some = ⊎_elim
          (λ old. let h = half.band_since b l is_band old in let high = h.1 in (h.0, omega arith))
          (λ new.
          let here : since_replayed (onward window_number r (of_band b part)) None ≡ Some l = ap (λ (ws : List OnWindow). since_replayed ws None) (sym (from.band b is_band)) ∙ new.0 in (
            replayed_from r l (onward window_number r (of_band b part)) (onward_from window_number r (of_band b part)) here,
            replayed_under to' l (onward window_number r (of_band b part)) (onward_low window_number to' r (of_band b part) (part_band_under b)) here,
          ))
          (band_which b l is_band some)

      -- what the part covers is covered from each number on that its changes have
      covered_here : (b i e : ℕ) → b < g.bands → AllFrom byte_number e (on_byte i (rs.band b)) → is_covered (on_byte i (rs.band b)) ≡ true → IsCoveredFrom e (of_byte b i all)
      covered_here b i e is_band high here = in_all b i e (covered_onward_all r e (of_byte b i part) (subst (λ (l : List OnByte). IsCoveredFrom e l) (byte_of_band b i part (rs.band b) (from.band b is_band)) (covered_all e (on_byte i (rs.band b)) high here)))

      part_from : (b : ℕ) → b < g.bands → AllFrom window_number to (rs.band b)
      part_from b is_band = subst (λ (l : List OnWindow). AllFrom window_number to l) (sym (from.band b is_band)) (onward_front window_number to r (of_band b part)
          (from_first window_number to (of_band b part) (of_band b rest) (subst (λ (l : List OnWindow). AllFrom window_number to l) (band_split b part rest)
          (from_parts window_number (λ e. band_change b e.lsn e.effect) (λ e. band_one b e.lsn e.effect) to (part ++ rest) split.behind))))

      marked_then : (b i l : ℕ) → b < g.bands → i < BAND_SIZE → m'.band_since b ≡ Some l → m'.marked b i ≡ true → IsCoveredFrom l (of_byte b i all)
      marked_then b i l is_band is_byte some marked = ⊎_elim
          (λ old. ⊎_elim
          (λ was. half.marked b i l is_band is_byte old was)
          (λ here. covered_less l to (of_byte b i all) (let high = (half.band_since b l is_band old).1 in omega arith) (covered_here b i to is_band (windows_from i to (rs.band b) (part_from b is_band)) here))
          ((redone.bands b is_band).marked i is_byte marked))
          (λ new.
          let rises = part_band_rises b in
          let its : Rises window_number rises.0 (rs.band b) = subst (λ (l : List OnWindow). Rises window_number rises.0 l) (sym (from.band b is_band)) (onward_rises window_number r rises.0 (of_band b part) rises.1) in
          covered_here b i l is_band (windows_from i l (rs.band b) (first_from l rises.0 (rs.band b) its new.0)) (new.1 i is_byte marked))
          (band_which b l is_band some)

      band_is : (b : ℕ) → b < g.bands → onward window_number r (of_band b (front ++ part)) ≡ onward window_number r (of_band b front) ++ rs.band b
      band_is b is_band = band_onward b front part ∙ ap (λ (ws : List OnWindow). onward window_number r (of_band b front) ++ ws) (sym (from.band b is_band))

      last_then : (b l : ℕ) → b < g.bands → m'.band_since b ≡ Some l → last' b ≡ last_number (onward window_number r (of_band b (front ++ part)))
      last_then b l is_band some = ⊎_elim
          (λ (none, old, same). same ∙ (half.lasts b l is_band old ∙ ap last_number (sym (band_is b is_band ∙ append_nil (onward window_number r (of_band b front)) (rs.band b) none))))
          (λ (some_here, its). its ∙ (sym (last_both (onward window_number r (of_band b front)) (rs.band b) some_here) ∙ ap last_number (sym (band_is b is_band))))
          (lasts b l is_band some)

      some_then : (b l : ℕ) → b < g.bands → m'.band_since b ≡ Some l → onward window_number r (of_band b (front ++ part)) ≡ [] → ⊥
      some_then b l is_band some none = not_nil (onward window_number r (of_band b front)) (rs.band b)
          (⊎_elim (λ (none_here, old, same). inl (half.some b l is_band old)) (λ (some_here, its). inr some_here) (lasts b l is_band some))
          (sym (band_is b is_band) ∙ none)

      -- THE FRONT is longer by the part
      pub part_repeated : AreRepeated g o.first all (front ++ part) r to' d home'.seen last' m'
      part_repeated = record {
        page = λ n lt. (redone.pages n lt).page ∙ page_next n lt;
        byte = λ b i is_band is_byte. (redone.bands b is_band).byte i is_byte ∙ byte_next b i is_band is_byte;
        page_since = page_range;
        page_home = home_then;
        band_since = band_range;
        marked = marked_then;
        lasts = last_then;
        some = some_then;
      }

  -- BEFORE THE FIRST PART, over fresh units
  pub none_repeated : (to : ℕ) (seen : Bytes) (last : ℕ → ℕ) (m : Units) → IsFresh g o.first seen m → AreRepeated g o.first all [] r to d seen last m
  none_repeated to seen last m fresh = record {
    page = fresh.page;
    byte = fresh.byte;
    page_since = λ n l lt some. absurd (nothing l (sym (fresh.page_since n lt) ∙ some));
    page_home = λ n l lt some. absurd (nothing l (sym (fresh.page_since n lt) ∙ some));
    band_since = λ b l lt some. absurd (nothing l (sym (fresh.band_since b lt) ∙ some));
    marked = λ b i l is_band is_byte some marked. absurd (nothing l (sym (fresh.band_since b is_band) ∙ some));
    lasts = λ b l lt some. absurd (nothing l (sym (fresh.band_since b lt) ∙ some));
    some = λ b l lt some none. nothing l (sym (fresh.band_since b lt) ∙ some);
  }

  -- BEHIND THE LAST PART the engine runs
  module _ (to : ℕ) (le : to ≤ d) (w : View) (last : ℕ → ℕ) (m : Units) (backed : IsBacked g (w.now Home) m) (half : AreRepeated g o.first all all r to d (w.now Home).seen last m)
      (log : Tail) (place : IsLogOf o.super log) (gate : log.gate ≡ d) (tail : tail_of log ≡ d) (super : superblock (w.now Home).seen ≡ Ok o.super) (held : Holds w log ds []) (low : IsBelow g (tail_of log) m) where
    comes : RepeatsTo g r all o.first o.first
    comes = opened.comes o r d ds read is

    page_is : (n : ℕ) → n < g.pages → m.page n ≡ (made all o.first).page n
    page_is n lt = half.page n lt ∙ comes.pages n lt

    byte_is : (b i : ℕ) → b < g.bands → i < BAND_SIZE → m.byte b i ≡ (made all o.first).byte b i
    byte_is b i is_band is_byte = half.byte b i is_band is_byte ∙ comes.bytes b i is_band is_byte

    end_page : (n : ℕ) → n < g.pages → (x : Option ℕ) → m.page_since n ≡ x → PageHome all d n x (o.first.page n) (page_at (w.now Home).seen (home_at n))
    end_page n lt None e = under_page n
    end_page n lt (Some l) e = half.page_home n l lt e

    end_byte : (b i : ℕ) → b < g.bands → i < BAND_SIZE → (x : Option ℕ) → m.band_since b ≡ x → (y : Bool) → m.marked b i ≡ y → ByteHome all d b i x (m.marked b i) (o.first.byte b i) ((w.now Home).seen (band_byte g b i))
    end_byte b i is_band is_byte None e y marked = under_byte b i
    end_byte b i is_band is_byte (Some l) e false bare = (
      inl (hist.current_byte all d l b i (o.first.byte b i) ((w.now Home).seen (band_byte g b i)) (record { is = backed.bytes b i is_band is_byte bare ∙ byte_is b i is_band is_byte; durable = under_byte b i })),
      λ marked. half.marked b i l is_band is_byte e marked,
    )
    end_byte b i is_band is_byte (Some l) e true marked = (
      inr (subst (λ (xs : List OnByte). IsCoveredFrom l xs) (sym (hist.under_below byte_number d d (of_byte b i all) (under_byte b i) (omega arith))) (half.marked b i l is_band is_byte e marked)),
      λ again. half.marked b i l is_band is_byte e again,
    )

    joined : IsJoined g o.first all d (w.now Home).seen m
    joined = record {
      page = page_is;
      byte = byte_is;
      page_home = λ n lt. end_page n lt (m.page_since n) refl;
      byte_home = λ b i is_band is_byte. end_byte b i is_band is_byte (m.band_since b) refl (m.marked b i) refl;
    }

    last_is : AreLast g all last m
    last_is b l lt e k below_k =
        onward_under r k 1 (of_band b all) (rises_parts window_number (λ e. band_change b e.lsn e.effect) (λ e. band_one b e.lsn e.effect) 1 all is.rises)
        (subst (λ (x : ℕ). x < k) (half.lasts b l lt e) below_k) (half.some b l lt e)

    behind_end : AreBehind g (tail_of log) m
    behind_end = record {
      pages = λ n l lt e. let high = (half.page_since n l lt e).1 in omega (arith, high, tail);
      bands = λ b l lt e. let high = (half.band_since b l lt e).1 in omega (arith, high, tail);
    }

    early_page : r ≤ d → (n : ℕ) → n < g.pages → (x : Option ℕ) → m.page_since n ≡ x → r ≤ page_estimate (tail_of log) m n
    early_page point n lt None e = subst (λ (x : Option ℕ). r ≤ unwrap_or x (tail_of log)) (sym e) (subst (λ (t : ℕ). r ≤ t) (sym tail) point)
    early_page point n lt (Some l) e = subst (λ (x : Option ℕ). r ≤ unwrap_or x (tail_of log)) (sym e) (half.page_since n l lt e).0

    early_band : r ≤ d → (b : ℕ) → b < g.bands → (x : Option ℕ) → m.band_since b ≡ x → r ≤ band_estimate (tail_of log) m b
    early_band point b lt None e = subst (λ (x : Option ℕ). r ≤ unwrap_or x (tail_of log)) (sym e) (subst (λ (t : ℕ). r ≤ t) (sym tail) point)
    early_band point b lt (Some l) e = subst (λ (x : Option ℕ). r ≤ unwrap_or x (tail_of log)) (sym e) (half.band_since b l lt e).0

    -- the redo point is one that the units allow, where it isn't behind the log's tail
    pub early : r ≤ d → IsEarly g (tail_of log) r m
    early point = record { pages = λ n lt. early_page point n lt (m.page_since n) refl; bands = λ b lt. early_band point b lt (m.band_since b) refl }

    pub runs : IsEngineOf o w log ds [] last m
    runs =
        let same : all ≡ entries o (ds ++ []) = ap (entries o) (none_more ds) in
        record {
          super = super;
          place = place;
          held = held;
          backed = backed;
          history = subst (λ (l : List Entry). IsHistory g o.first l) same (opened.history o r d ds read is);
          started = subst (λ (t : ℕ). EachPage g (λ n. IsNumbered t (o.first.page n))) (sym gate) is.sound.within;
          joined = subst (λ (t : ℕ). IsJoined g o.first (entries o (ds ++ [])) t (w.now Home).seen m) (sym gate) (subst (λ (l : List Entry). IsJoined g o.first l d (w.now Home).seen m) same joined);
          lasts = subst (λ (l : List Entry). AreLast g l last m) same last_is;
          below = low;
          behind = behind_end;
        }
