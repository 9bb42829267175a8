-- The units follow a record of a page, of a band, or of neither, and the engine's invariant holds again.
use Rattle.std.proofs.Common.{◌≡◌, ◌⊎◌, ◌↔◌, inl, inr, ⊎_elim, ◌<◌, ◌≤◌, ◌==◌, ℕ, Bool, true, false, Option, Some, None, unwrap_or, if◌then◌else◌, List, [], ◌∷◌, ◌++◌, length, refl, sym, ◌∙◌, ap, subst, arith}
use Rattle.std.proofs.lemmas.Bool.{cases_eq}
use Rattle.std.proofs.lemmas.Bool.Decides.{nat_tests}
use Rattle.sg_base.specs.Page.{lsn_of}
use Rattle.sg_base.specs.declared.page.TheConstants.{BAND_SIZE}
use Rattle.sg_base.specs.declared.area.Area.TheVariants.{Home}
use Rattle.sg_disk.specs.Disk.{View}
use Rattle.sg_disk.proofs.Images.{put_outside}
use Rattle.sg_disk.proofs.Vectors.{put_within}
use Rattle.sg_segment.specs.Runs.{IsWithin}
use Rattle.sg_log.specs.Frames.{Numbered}
use Rattle.sg_log.specs.Held.{Tail, tail_of}
use Rattle.sg_log.proofs.Holding.{tail_at_gate}
use Rattle.sg_redo.specs.History.{OnPage, OnByte, number_of, redone, repeated, rewritten, applies}
use Rattle.sg_redo.specs.Window.{OnWindow, on_byte}
use Rattle.sg_redo.proofs.Bytes.{part_in, part_out, place_or}
use Rattle.sg_pool.specs.Units.{Geometry, Units, IsBacked}
use Rattle.sg_pool.specs.Changed.{IsChanged, IsWritten}
use Rattle.sg_engine.specs.Numbers.{Rises, AllUnder}
use Rattle.sg_engine.specs.History.{ChangesPage, ChangesBand, ChangesNothing, Entry, Homes, entry_number, window_number, page_change, byte_change, of_page, of_band, IsHistory, IsNumbered}
use Rattle.sg_engine.specs.Kept.{IsJoined}
use Rattle.sg_engine.specs.Engine.{Origin, entry_of, entries, geometry, IsEngineOf}
use Rattle.sg_engine.proofs.Logs.{entries_append}
use Rattle.sg_engine.proofs.Units.{page_one, number_within, under_append}
use Rattle.sg_engine.proofs.Joined.{since, changed_page, IsFollowed, joined_followed}
use Rattle.sg_engine.proofs.GoingOn.{IsHalf}
use Rattle.sg_engine.proofs.Steps as hist

some_since : (l : ℕ) (o : Option ℕ) → Some (unwrap_or o l) ≡ since l o
some_since l None = refl
some_since l (Some o) = refl

pub same_test : (m n : ℕ) → m ≡ n → (m == n) ≡ true
same_test m n is = grind (arith, nat_tests, is)

pub other_test : (m n : ℕ) → (m ≡ n → ⊥) → (m == n) ≡ false
other_test m n not = grind (arith, nat_tests, not)

-- A RECORD OF PAGE p
module _ (g : Geometry) (l p : ℕ) (makes : List ℕ → Option (List ℕ)) (m m' : Units) (done : applies (record { lsn = l; makes = makes }) (m.page p) ≡ true) (is : IsChanged p (record { lsn = l; makes = makes }) m m') where
  abbrev x : Entry
  x = record { lsn = l; effect = ChangesPage p makes }

  since_is : m'.page_since p ≡ since l (m.page_since p)
  since_is = is.since ∙ ap (λ (b : Bool). if b then Some (unwrap_or (m.page_since p) l) else m.page_since p) done ∙ some_since l (m.page_since p)

  pub page_followed : IsFollowed g x m m'
  page_followed = record {
    page = λ n lt. ⊎_elim
        (λ same. let t = same_test p n same in rw t (subst (λ (k : ℕ). m'.page k ≡ redone (record { lsn = l; makes = makes }) (m.page k)) same is.page))
        (λ not. let t = other_test p n not in rw t (is.other_pages n (λ e. not (sym e))))
        (cases_eq p n);
    byte = λ b i is_band is_byte. is.byte b i;
    page_since = λ n lt. ⊎_elim
        (λ same. let t = same_test p n same in rw t (subst (λ (k : ℕ). m'.page_since k ≡ since l (m.page_since k)) same since_is))
        (λ not. let t = other_test p n not in rw t (is.other_sinces n (λ e. not (sym e))))
        (cases_eq p n);
    band_since = λ b is_band. inr (is.band_since b, λ i. refl);
    marked = λ b i is_band is_byte. inl (is.marked b i, refl);
  }

-- A RECORD OF BAND b
marked_same : (a c : Bool) (P : Type 0) → (P → ⊥) → (a ≡ true ↔ ((c ≡ true) ⊎ P)) → a ≡ c
marked_same true true P not iff = refl
marked_same false false P not iff = refl
marked_same true false P not iff = ⊎_elim (λ e. sym e) (λ is. absurd (not is)) (iff.0 refl)
marked_same false true P not iff = iff.1 (inl refl)

module _ (g : Geometry) (l b at : ℕ) (bytes : List ℕ) (m m' : Units) (is : IsWritten b l at bytes m m') where
  abbrev w : OnWindow
  w = record { lsn = l; at = at; bytes = bytes }

  abbrev y : Entry
  y = record { lsn = l; effect = ChangesBand b at bytes }

  on_it : (c i : ℕ) → b ≡ c → byte_change c i l (ChangesBand b at bytes) ≡ on_byte i (w ∷ [])
  on_it c i same = let t = same_test b c same in rw t refl

  on_other : (c i : ℕ) → (b ≡ c → ⊥) → byte_change c i l (ChangesBand b at bytes) ≡ []
  on_other c i not = let t = other_test b c not in rw t refl

  byte_is : (i : ℕ) → i < BAND_SIZE → m'.byte b i ≡ rewritten (on_byte i (w ∷ [])) (m.byte b i)
  byte_is i small = is.byte i small ∙ ⊎_elim
      (λ here. put_within at bytes (m.byte b) i 0 here.0 here.1 ∙ sym (ap (λ (l : List OnByte). rewritten l (m.byte b i)) (part_in w i [] here.0 here.1)))
      (λ out. put_outside at bytes (m.byte b) i (λ low high. ⊎_elim (λ lt. absurd (omega arith)) (λ le. absurd (omega arith)) out) ∙ sym (ap (λ (l : List OnByte). rewritten l (m.byte b i)) (part_out w i [] out)))
      (place_or w i)

  mark_is : (i : ℕ) → i < BAND_SIZE → ((m'.marked b i ≡ m.marked b i) × (on_byte i (w ∷ []) ≡ [])) ⊎ ((m'.marked b i ≡ true) × ((on_byte i (w ∷ []) ≡ []) → ⊥))
  mark_is i small = ⊎_elim
      (λ here. inr ((is.marked i).1 (inr here), λ none. let some = sym (part_in w i [] here.0 here.1) ∙ none in let no : ⊥ = cc in absurd no))
      (λ out. inl (marked_same (m'.marked b i) (m.marked b i) (IsWithin at (length bytes) i) (λ within. let a = within.0 in let z = within.1 in ⊎_elim (λ lt. absurd (omega arith)) (λ le. absurd (omega arith)) out) (is.marked i), part_out w i [] out))
      (place_or w i)

  pub band_followed : IsFollowed g y m m'
  band_followed = record {
    page = λ n lt. is.page n;
    byte = λ c i is_band is_byte. ⊎_elim
        (λ same. subst (λ (k : ℕ). m'.byte k i ≡ rewritten (byte_change k i l (ChangesBand b at bytes)) (m.byte k i)) same (byte_is i is_byte ∙ sym (ap (λ (r : List OnByte). rewritten r (m.byte b i)) (on_it b i refl))))
        (λ not. is.other_bytes c i (λ e. not (sym e)) ∙ sym (ap (λ (r : List OnByte). rewritten r (m.byte c i)) (on_other c i not)))
        (cases_eq b c);
    page_since = λ n lt. is.page_since n;
    band_since = λ c is_band. ⊎_elim
        (λ same. inl (subst (λ (k : ℕ). m'.band_since k ≡ since l (m.band_since k)) same (is.since ∙ some_since l (m.band_since b))))
        (λ not. inr (is.other_sinces c (λ e. not (sym e)), λ i. on_other c i not))
        (cases_eq b c);
    marked = λ c i is_band is_byte. ⊎_elim
        (λ same. subst (λ (k : ℕ). ((m'.marked k i ≡ m.marked k i) × (byte_change k i l (ChangesBand b at bytes) ≡ [])) ⊎ ((m'.marked k i ≡ true) × ((byte_change k i l (ChangesBand b at bytes) ≡ []) → ⊥))) same
        (subst (λ (r : List OnByte). ((m'.marked b i ≡ m.marked b i) × (r ≡ [])) ⊎ ((m'.marked b i ≡ true) × ((r ≡ []) → ⊥))) (sym (on_it b i refl)) (mark_is i is_byte)))
        (λ not. inl (is.other_marks c i (λ e. not (sym e)), on_other c i not))
        (cases_eq b c);
  }

-- a record of neither
pub nothing_followed : (g : Geometry) (l : ℕ) (m : Units) → IsFollowed g (record { lsn = l; effect = ChangesNothing }) m m
nothing_followed g l m = record {
  page = λ n lt. refl;
  byte = λ b i is_band is_byte. refl;
  page_since = λ n lt. refl;
  band_since = λ b is_band. inr (refl, λ i. refl);
  marked = λ b i is_band is_byte. inl (refl, refl);
}

-- NUMBERS: those of a history's pages are below a number that is above all of its records and its first pages' numbers
pub page_below : (g : Geometry) (first : Homes) (all : List Entry) (d n : ℕ) → IsHistory g first all → n < g.pages → 0 < d → IsNumbered d (first.page n) → AllUnder entry_number d all → lsn_of (repeated (of_page n all) (first.page n)) < d
page_below g first all d n history lt some start under =
    let its = hist.under_parts number_of (λ e. page_change n e.lsn e.effect) (λ e. page_one n e.lsn e.effect) d all under in
    let same = hist.under_below number_of d d (of_page n all) its (omega arith) in
    let number = number_within d d (of_page n all) (first.page n) (history.sets n lt) (hist.under_durable number_of d d (of_page n all) its) start in
    let e = ap (λ (rs : List OnPage). lsn_of (repeated rs (first.page n))) same in
    ⊎_elim (λ zero. omega arith) (λ low. omega arith) number

low_since : (x : ℕ) (o : Option ℕ) → ((k : ℕ) → o ≡ Some k → k < x) → unwrap_or o x ≤ x
low_since x None low = omega arith
low_since x (Some o) low = let lt = low o refl in omega arith

since_low : (l t : ℕ) (o : Option ℕ) (k : ℕ) → ((j : ℕ) → o ≡ Some j → j < l) → l < t → since l o ≡ Some k → k < t
since_low l t None k low lt is = let e : l ≡ k = cc in omega arith
since_low l t (Some o) k low lt is = let e : o ≡ k = cc in let le = low o refl in omega arith

page_since_low : (x : Entry) (n t : ℕ) (o : Option ℕ) (rs : List OnPage) (k : ℕ) → ((j : ℕ) → o ≡ Some j → j < x.lsn) → x.lsn < t → changed_page x n o rs ≡ Some k → k < t
page_since_low x n t o [] k low lt is = let le = low k is in omega arith
page_since_low x n t o (r ∷ rs) k low lt is = since_low x.lsn t o k low lt is

pub under_more : {X : Type 0} (key : X → ℕ) (d d' : ℕ) (xs : List X) → d ≤ d' → AllUnder key d xs → AllUnder key d' xs
under_more key d d' [] le under = tt
under_more key d d' (x ∷ xs) le under = (let lt = under.0 in omega arith, under_more key d d' xs le under.1)

-- the last record has the greatest number
pub last_under : (es : List Entry) (e : Entry) (t : ℕ) → Rises entry_number 1 (es ++ e ∷ []) → e.lsn < t → AllUnder entry_number t (es ++ e ∷ [])
last_under es e t rises lt = under_append entry_number t es (e ∷ []) (under_more entry_number e.lsn t es (omega arith) (hist.rises_under entry_number 1 es e rises)) (lt, tt)

-- THE ENGINE'S INVARIANT, once the units follow the record that was appended
pub engine_followed : (o : Origin) (v : View) (log : Tail) (ds ps done : List Numbered) (x : Numbered) (last last' : ℕ → ℕ) (m m' : Units) → IsHalf o v log ds ps done (x ∷ []) x.lsn last m → x.lsn < tail_of log
    → IsFollowed (geometry o.super) (entry_of o x) m m' → IsBacked (geometry o.super) (v.now Home) m'
    → ((b k : ℕ) → b < o.super.bands → m'.band_since b ≡ Some k → (d : ℕ) → last' b < d → AllUnder window_number d (of_band b (entries o done ++ entry_of o x ∷ []))) → IsEngineOf o v log ds ps last' m'
engine_followed o v log ds ps done x last last' m m' h lt followed backed lasts =
    let split : entries o (ds ++ ps) ≡ entries o done ++ entry_of o x ∷ [] = ap (entries o) h.all ∙ entries_append o done (x ∷ []) in
    let whole : IsHistory (geometry o.super) o.first (entries o (ds ++ ps)) = subst (λ (l : List Numbered). IsHistory (geometry o.super) o.first (entries o l)) (sym h.all) h.history in
    let rises : Rises entry_number 1 (entries o done ++ entry_of o x ∷ []) = subst (λ (l : List Entry). Rises entry_number 1 l) split whole.rises in
    let under : AllUnder entry_number (tail_of log) (entries o (ds ++ ps)) = subst (λ (l : List Entry). AllUnder entry_number (tail_of log) l) (sym split) (last_under (entries o done) (entry_of o x) (tail_of log) rises lt) in
    let joined : IsJoined (geometry o.super) o.first (entries o (ds ++ ps)) log.gate (v.now Home).seen m' =
    subst (λ (l : List Entry). IsJoined (geometry o.super) o.first l log.gate (v.now Home).seen m') (sym split)
    (joined_followed (geometry o.super) o.first (entries o done) (entry_of o x) log.gate (v.now Home) m m' h.backed h.joined rises
    (λ n small. low_since x.lsn (m.page_since n) (λ k is. h.behind.pages n k small is)) (λ b small. low_since x.lsn (m.band_since b) (λ k is. h.behind.bands b k small is)) followed) in
    record {
      super = h.super;
      place = h.place;
      held = h.held;
      backed = backed;
      history = whole;
      started = h.started;
      joined = joined;
      lasts = λ b k small is d low. subst (λ (l : List Entry). AllUnder window_number d (of_band b l)) (sym split) (lasts b k small is d low);
      below = λ n k small is. subst (λ (p : List ℕ). lsn_of p < tail_of log) (sym (joined.page n small))
          (page_below (geometry o.super) o.first (entries o (ds ++ ps)) (tail_of log) n whole small (omega arith) (⊎_elim (λ none. inl none) (λ low. inr (let le = tail_at_gate log in omega arith)) (h.started n small)) under);
      behind = record {
        pages = λ n k small is. page_since_low (entry_of o x) n (tail_of log) (m.page_since n) (page_change n x.lsn (o.effect x.lsn x.is)) k (λ j had. h.behind.pages n j small had) lt (sym (followed.page_since n small) ∙ is);
        bands = λ b k small is. ⊎_elim
            (λ new. since_low x.lsn (tail_of log) (m.band_since b) k (λ j had. h.behind.bands b j small had) lt (sym new ∙ is))
            (λ same. let low = h.behind.bands b k small (sym same.0 ∙ is) in omega arith)
            (followed.band_since b small);
      };
    }
