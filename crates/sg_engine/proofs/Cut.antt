-- A log is cut: the invariant goes over.
use Rattle.std.proofs.Common.{◌≡◌, ◌⊎◌, inl, inr, ⊎_elim, ◌<◌, ◌≤◌, ◌+◌, ℕ, suc, Bool, true, Option, Some, None, unwrap_or, List, [], ◌∷◌, ◌++◌, refl, sym, ◌∙◌, ap, subst, arith, append_assoc}
use Rattle.std.proofs.lemmas.Bool.{cases_lt}
use Rattle.sg_base.specs.declared.page.TheConstants.{BAND_SIZE}
use Rattle.sg_disk.specs.Disk.{Bytes, Part}
use Rattle.sg_gate.specs.Layout.{home_at}
use Rattle.sg_redo.specs.History.{OnPage, OnByte, number_of, redone, repeated, rewritten, AllSetNumber, AllFit}
use Rattle.sg_redo.specs.Window.{OnWindow}
use Rattle.sg_log.specs.Frames.{Numbered}
use Rattle.sg_pool.specs.Units.{Geometry, EachPage, EachByte, Units, page_at, band_byte}
use Rattle.sg_engine.specs.Numbers.{below, Rises, AllFrom, AllUnder, IsDurable}
use Rattle.sg_engine.specs.History.{Entry, Homes, entry_number, byte_number, window_number, page_change, band_change, byte_change, of_page, of_band, of_byte, made, IsNumbered, IsCoveredFrom, AllWell, AllThere, IsHistory}
use Rattle.sg_engine.specs.Kept.{IsPageVersion, IsByteVersion, IsByteKept, PageHome, ByteHome, IsJoined, AreLast, IsEarly}
use Rattle.sg_engine.specs.Engine.{Origin, entry_of, entries, geometry}
use Rattle.sg_engine.proofs.Logs.{entries_append}
use Rattle.sg_engine.proofs.Pages.{below_in, below_out, rises_less}
use Rattle.sg_engine.proofs.Units.{page_one, band_one, byte_one, parts, append_parts, number_within, under_split}
use Rattle.sg_engine.proofs.Steps.{repeated_append, rewritten_append, under_parts, under_below, under_durable, band_parts_are}
use Rattle.sg_engine.specs.Cut.{Stand, cut_at, IsMade}

-- the records of a store without some are what they were
pub entries_cut : (o : Origin) (a : Stand) (gone ns : List Numbered) → entries (cut_at o a gone) ns ≡ entries o ns
entries_cut o a gone [] = refl
entries_cut o a gone (n ∷ ns) = ap (λ (l : List Entry). entry_of o n ∷ l) (entries_cut o a gone ns)

-- back parts
pub rises_back : {X : Type 0} (key : X → ℕ) (low : ℕ) (xs ys : List X) → Rises key low (xs ++ ys) → Rises key low ys
rises_back key low [] ys h = h
rises_back key low (x ∷ xs) ys h = rises_less key low (suc (key x)) ys (let le = h.0 in omega arith) (rises_back key (suc (key x)) xs ys h.1)

sets_back : (xs ys : List OnPage) → AllSetNumber (xs ++ ys) → AllSetNumber ys
sets_back [] ys h = h
sets_back (x ∷ xs) ys h = sets_back xs ys h.1

fit_back : (xs ys : List OnPage) (p : List ℕ) → AllFit (xs ++ ys) p → AllFit ys (repeated xs p)
fit_back [] ys p h = h
fit_back (x ∷ xs) ys p h = fit_back xs ys (redone x p) h.1

well_back : (xs ys : List OnPage) (p : List ℕ) → AllWell (xs ++ ys) p → AllWell ys (repeated xs p)
well_back [] ys p h = h
well_back (x ∷ xs) ys p h = well_back xs ys (redone x p) h.1

there_back : (g : Geometry) (xs ys : List Entry) → AllThere g (xs ++ ys) → AllThere g ys
there_back g [] ys h = h
there_back g (x ∷ xs) ys h = there_back g xs ys h.1

-- those below a cut that is at or behind all of the first
below_behind : {X : Type 0} (key : X → ℕ) (p c : ℕ) (xs ys : List X) → AllUnder key p xs → p ≤ c → below key c (xs ++ ys) ≡ xs ++ below key c ys
below_behind key p c [] ys under le = refl
below_behind key p c (x ∷ xs) ys under le = below_in key c x (xs ++ ys) (let lt = under.0 in omega arith) ∙ ap (λ (l : List _). x ∷ l) (below_behind key p c xs ys under.1 le)

durable_back : {X : Type 0} (key : X → ℕ) (d c : ℕ) (xs ys : List X) → IsDurable key d c (xs ++ ys) → IsDurable key d c ys
durable_back key d c [] ys h = h
durable_back key d c (x ∷ xs) ys h = durable_back key d c xs ys h.1

-- a record from a number on that covers the byte isn't among those below it
covered_back : (p e : ℕ) (xs ys : List OnByte) → p ≤ e → AllUnder byte_number p xs → IsCoveredFrom e (xs ++ ys) → IsCoveredFrom e ys
covered_back p e [] ys le under h = h
covered_back p e (x ∷ xs) ys le under h = ⊎_elim (λ here. absurd (let lt = under.0 in omega (arith, here, lt, le))) (λ there. covered_back p e xs ys le under.1 there) h

-- what is covered, of those below d
covered_below_back : (p e d : ℕ) (xs ys : List OnByte) → p ≤ e → AllUnder byte_number p xs → IsCoveredFrom e (below byte_number d (xs ++ ys)) → IsCoveredFrom e (below byte_number d ys)
covered_below_back p e d [] ys le under h = h
covered_below_back p e d (x ∷ xs) ys le under h = ⊎_elim
    (λ lt. ⊎_elim (λ here. absurd (let low = under.0 in omega (arith, here, low, le))) (λ there. covered_below_back p e d xs ys le under.1 there) (subst (λ (l : List OnByte). IsCoveredFrom e l) (below_in byte_number d x (xs ++ ys) lt) h))
    (λ high. covered_below_back p e d xs ys le under.1 (subst (λ (l : List OnByte). IsCoveredFrom e l) (below_out byte_number d x (xs ++ ys) high) h))
    (cases_lt x.lsn d)

module _ (o : Origin) (gone kept : List Numbered) where
  pub page_split : (n : ℕ) → of_page n (entries o (gone ++ kept)) ≡ of_page n (entries o gone) ++ of_page n (entries o kept)
  page_split n = ap (of_page n) (entries_append o gone kept) ∙ append_parts number_of (λ e. page_change n e.lsn e.effect) (λ e. page_one n e.lsn e.effect) (entries o gone) (entries o kept)

  pub byte_split : (b i : ℕ) → of_byte b i (entries o (gone ++ kept)) ≡ of_byte b i (entries o gone) ++ of_byte b i (entries o kept)
  byte_split b i = ap (of_byte b i) (entries_append o gone kept) ∙ append_parts byte_number (λ e. byte_change b i e.lsn e.effect) (λ e. byte_one b i e.lsn e.effect) (entries o gone) (entries o kept)

  pub band_split : (b : ℕ) → of_band b (entries o (gone ++ kept)) ≡ of_band b (entries o gone) ++ of_band b (entries o kept)
  band_split b = ap (of_band b) (entries_append o gone kept) ∙ split (entries o gone) (entries o kept)
    where
      split : (xs ys : List Entry) → of_band b (xs ++ ys) ≡ of_band b xs ++ of_band b ys
      split [] ys = refl
      split (x ∷ xs) ys = ap (λ (l : List OnWindow). band_change b x.lsn x.effect ++ l) (split xs ys) ∙ sym (append_assoc (band_change b x.lsn x.effect) (of_band b xs) (of_band b ys))

  -- what the kept ones make of what the others made is what all make
  pub page_made : (n : ℕ) (h : Homes) → (made (entries o kept) (made (entries o gone) h)).page n ≡ (made (entries o (gone ++ kept)) h).page n
  page_made n h = sym (ap (λ (l : List OnPage). repeated l (h.page n)) (page_split n) ∙ repeated_append (of_page n (entries o gone)) (of_page n (entries o kept)) (h.page n))

  pub byte_made : (b i : ℕ) (h : Homes) → (made (entries o kept) (made (entries o gone) h)).byte b i ≡ (made (entries o (gone ++ kept)) h).byte b i
  byte_made b i h = sym (ap (λ (l : List OnByte). rewritten l (h.byte b i)) (byte_split b i) ∙ rewritten_append (of_byte b i (entries o gone)) (of_byte b i (entries o kept)) (h.byte b i))

  module _ (p : ℕ) (low : AllUnder entry_number p (entries o gone)) where
    page_low : (n : ℕ) → AllUnder number_of p (of_page n (entries o gone))
    page_low n = under_parts number_of (λ e. page_change n e.lsn e.effect) (λ e. page_one n e.lsn e.effect) p (entries o gone) low

    byte_low : (b i : ℕ) → AllUnder byte_number p (of_byte b i (entries o gone))
    byte_low b i = under_parts byte_number (λ e. byte_change b i e.lsn e.effect) (λ e. byte_one b i e.lsn e.effect) p (entries o gone) low

    -- a history goes on from what its front made
    pub history_cut : IsHistory (geometry o.super) o.first (entries o (gone ++ kept)) → IsHistory (geometry o.super) (made (entries o gone) o.first) (entries o kept)
    history_cut h = record {
      rises = rises_back entry_number 1 (entries o gone) (entries o kept) (subst (λ (l : List Entry). Rises entry_number 1 l) (entries_append o gone kept) h.rises);
      sets = λ n lt. sets_back (of_page n (entries o gone)) (of_page n (entries o kept)) (subst (λ (l : List OnPage). AllSetNumber l) (page_split n) (h.sets n lt));
      fits = λ n lt. fit_back (of_page n (entries o gone)) (of_page n (entries o kept)) (o.first.page n) (subst (λ (l : List OnPage). AllFit l (o.first.page n)) (page_split n) (h.fits n lt));
      well = λ n lt. well_back (of_page n (entries o gone)) (of_page n (entries o kept)) (o.first.page n) (subst (λ (l : List OnPage). AllWell l (o.first.page n)) (page_split n) (h.well n lt));
      there = there_back (geometry o.super) (entries o gone) (entries o kept) (subst (λ (l : List Entry). AllThere (geometry o.super) l) (entries_append o gone kept) h.there);
    }

    -- a version from the cut on is one of what the front made
    page_version : (d e n : ℕ) (s q : List ℕ) → p ≤ e → IsPageVersion (entries o (gone ++ kept)) d e n s q → IsPageVersion (entries o kept) d e n (repeated (of_page n (entries o gone)) s) q
    page_version d e n s q le v = record {
      cut = v.cut;
      late = v.late;
      is = v.is ∙ (ap (λ (l : List OnPage). repeated (below number_of v.cut l) s) (page_split n)
          ∙ (ap (λ (l : List OnPage). repeated l s) (below_behind number_of p v.cut (of_page n (entries o gone)) (of_page n (entries o kept)) (page_low n) (let late = v.late in omega (arith, late, le)))
          ∙ repeated_append (of_page n (entries o gone)) (below number_of v.cut (of_page n (entries o kept))) s));
      durable = durable_back number_of d v.cut (of_page n (entries o gone)) (of_page n (entries o kept)) (subst (λ (l : List OnPage). IsDurable number_of d v.cut l) (page_split n) v.durable);
    }

    byte_version : (d e b i s x : ℕ) → p ≤ e → IsByteKept (entries o (gone ++ kept)) d e b i s x → IsByteKept (entries o kept) d e b i (rewritten (of_byte b i (entries o gone)) s) x
    byte_version d e b i s x le = ⊎_elim
        (λ v. inl (record {
          cut = v.cut;
          late = v.late;
          is = v.is ∙ (ap (λ (l : List OnByte). rewritten (below byte_number v.cut l) s) (byte_split b i)
              ∙ (ap (λ (l : List OnByte). rewritten l s) (below_behind byte_number p v.cut (of_byte b i (entries o gone)) (of_byte b i (entries o kept)) (byte_low b i) (let late = v.late in omega (arith, late, le)))
              ∙ rewritten_append (of_byte b i (entries o gone)) (below byte_number v.cut (of_byte b i (entries o kept))) s));
          durable = durable_back byte_number d v.cut (of_byte b i (entries o gone)) (of_byte b i (entries o kept)) (subst (λ (l : List OnByte). IsDurable byte_number d v.cut l) (byte_split b i) v.durable);
        }))
        (λ covered. inr (covered_below_back p e d (of_byte b i (entries o gone)) (of_byte b i (entries o kept)) le (byte_low b i) (subst (λ (l : List OnByte). IsCoveredFrom e (below byte_number d l)) (byte_split b i) covered)))

    page_home : (d n tail : ℕ) (since : Option ℕ) (s q : List ℕ) → p ≤ unwrap_or since tail → PageHome (entries o (gone ++ kept)) d n since s q → PageHome (entries o kept) d n since (repeated (of_page n (entries o gone)) s) q
    page_home d n tail None s q le home = (under_split number_of d (of_page n (entries o gone)) (of_page n (entries o kept)) (subst (λ (l : List OnPage). AllUnder number_of d l) (page_split n) home)).1
    page_home d n tail (Some e) s q le home = page_version d e n s q le home

    byte_home : (d b i tail : ℕ) (since : Option ℕ) (marked : Bool) (s x : ℕ) → p ≤ unwrap_or since tail → ByteHome (entries o (gone ++ kept)) d b i since marked s x → ByteHome (entries o kept) d b i since marked (rewritten (of_byte b i (entries o gone)) s) x
    byte_home d b i tail None marked s x le home = (under_split byte_number d (of_byte b i (entries o gone)) (of_byte b i (entries o kept)) (subst (λ (l : List OnByte). AllUnder byte_number d l) (byte_split b i) home)).1
    byte_home d b i tail (Some e) marked s x le home = (
      byte_version d e b i s x le home.0,
      λ is. covered_back p e (of_byte b i (entries o gone)) (of_byte b i (entries o kept)) le (byte_low b i) (subst (λ (l : List OnByte). IsCoveredFrom e l) (byte_split b i) (home.1 is)),
    )

    pub joined_cut : (d tail : ℕ) (seen : Bytes) (m : Units) → IsEarly (geometry o.super) tail p m → IsJoined (geometry o.super) o.first (entries o (gone ++ kept)) d seen m → IsJoined (geometry o.super) (made (entries o gone) o.first) (entries o kept) d seen m
    joined_cut d tail seen m early j = record {
      page = λ n lt. j.page n lt ∙ sym (page_made n o.first);
      byte = λ b i is_band is_byte. j.byte b i is_band is_byte ∙ sym (byte_made b i o.first);
      page_home = λ n lt. page_home d n tail (m.page_since n) (o.first.page n) (page_at seen (home_at n)) (early.pages n lt) (j.page_home n lt);
      byte_home = λ b i is_band is_byte. byte_home d b i tail (m.band_since b) (m.marked b i) (o.first.byte b i) (seen (band_byte (geometry o.super) b i)) (early.bands b is_band) (j.byte_home b i is_band is_byte);
    }

    started_cut : (d : ℕ) → p ≤ d → IsHistory (geometry o.super) o.first (entries o (gone ++ kept)) → EachPage (geometry o.super) (λ n. IsNumbered d (o.first.page n)) → EachPage (geometry o.super) (λ n. IsNumbered d ((made (entries o gone) o.first).page n))
    started_cut d le h start n lt =
        let us = of_page n (entries o gone) in
        subst (λ (l : List OnPage). IsNumbered d (repeated l (o.first.page n))) (under_below number_of p d (of_page n (entries o gone)) (page_low n) le)
        (number_within d d (of_page n (entries o gone)) (o.first.page n) (sets_first (of_page n (entries o gone)) (of_page n (entries o kept)) (subst (λ (l : List OnPage). AllSetNumber l) (page_split n) (h.sets n lt)))
        (under_durable number_of d d (of_page n (entries o gone)) (under_more p d (of_page n (entries o gone)) le (page_low n))) (start n lt))
      where
        sets_first : (xs ys : List OnPage) → AllSetNumber (xs ++ ys) → AllSetNumber xs
        sets_first [] ys h = tt
        sets_first (x ∷ xs) ys h = (h.0, sets_first xs ys h.1)

        under_more : (a b : ℕ) (xs : List OnPage) → a ≤ b → AllUnder number_of a xs → AllUnder number_of b xs
        under_more a b [] le h = tt
        under_more a b (x ∷ xs) le h = (let lt = h.0 in omega (arith, lt, le), under_more a b xs le h.1)

    -- THE CUT of what a store made: it is what the kept records made of what the others did
    pub cut_made : (a : Stand) (q : Part) (gate : ℕ) (last : ℕ → ℕ) (m : Units) → p ≤ gate → IsEarly (geometry o.super) gate p m → IsMade o q gate (gone ++ kept) last m → IsMade (cut_at o a gone) q gate kept last m
    cut_made a q gate last m le early h =
        let same = sym (entries_cut o a gone kept) in
        record {
          backed = h.backed;
          history = subst (λ (l : List Entry). IsHistory (geometry o.super) (made (entries o gone) o.first) l) same (history_cut h.history);
          started = started_cut gate le h.history h.started;
          joined = subst (λ (l : List Entry). IsJoined (geometry o.super) (made (entries o gone) o.first) l gate q.seen m) same (joined_cut gate gate q.seen m early h.joined);
          lasts = subst (λ (l : List Entry). AreLast (geometry o.super) l last m) same
              (λ b e is_band is d lt. (under_split window_number d (of_band b (entries o gone)) (of_band b (entries o kept)) (subst (λ (l : List OnWindow). AllUnder window_number d l) (band_split b) (h.lasts b e is_band is d lt))).1);
          below = h.below;
          behind = h.behind;
        }
