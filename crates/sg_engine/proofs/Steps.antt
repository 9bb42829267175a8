-- What the engine does, and that each image keeps the invariant.
use Rattle.std.proofs.Common.{◌≡◌, ◌⊎◌, inl, inr, ⊎_elim, ◌<◌, ◌≤◌, ◌+◌, ℕ, suc, min, List, [], ◌∷◌, ◌++◌, refl, sym, ◌∙◌, ap, subst, arith, append_assoc}
use Rattle.std.proofs.lemmas.Bool.{cases_lt}
use Rattle.sg_base.specs.Page.{lsn_of}
use Rattle.sg_redo.specs.History.{OnPage, OnByte, number_of, redone, repeated, rewritten, AllSetNumber, AllFit}
use Rattle.sg_redo.specs.Window.{OnWindow}
use Rattle.sg_redo.proofs.Versions.{stays}
use Rattle.sg_engine.specs.Numbers.{below, onward, Rises, AllFrom, AllUnder, IsDurable}
use Rattle.sg_pool.specs.Units.{Geometry, EachPage, EachByte}
use Rattle.sg_engine.specs.History.{Entry, Homes, entry_number, byte_number, window_number, page_change, band_change, byte_change, of_page, of_band, of_byte, IsNumbered, IsIn, IsCoveredFrom, IsSound, AllWell, AllThere, IsHistory, Appends}
use Rattle.sg_engine.specs.Kept.{IsPageVersion, IsByteVersion, IsByteKept, IsKept}
use Rattle.sg_engine.proofs.Pages.{below_in, below_out, onward_in, onward_out, has, grows, more_in, well_append}
use Rattle.sg_engine.proofs.Bytes.{covered_or, uncovered_all, covered_less}
use Rattle.sg_engine.proofs.Units.{page_one, band_one, byte_one, parts, append_parts, rises_parts, number_within, there_append}

-- the page is as all records make it, and all of its records are durable
pub record IsPageCurrent (all : List Entry) (d n : ℕ) (s p : List ℕ) : Type 0 where
  pub is : p ≡ repeated (of_page n all) s
  pub durable : AllUnder number_of d (of_page n all)

pub record IsByteCurrent (all : List Entry) (d b i s x : ℕ) : Type 0 where
  pub is : x ≡ rewritten (of_byte b i all) s
  pub durable : AllUnder byte_number d (of_byte b i all)

pub append_none : {X : Type 0} (xs : List X) → xs ++ [] ≡ xs
append_none [] = refl
append_none (x ∷ xs) = ap (λ (l : List _). x ∷ l) (append_none xs)

-- all below
pub under_below : {X : Type 0} (key : X → ℕ) (d c : ℕ) (xs : List X) → AllUnder key d xs → d ≤ c → below key c xs ≡ xs
under_below key d c [] under le = refl
under_below key d c (x ∷ xs) under le = below_in key c x xs (let low = under.0 in omega arith) ∙ ap (λ (l : List _). x ∷ l) (under_below key d c xs under.1 le)

pub under_durable : {X : Type 0} (key : X → ℕ) (d c : ℕ) (xs : List X) → AllUnder key d xs → IsDurable key d c xs
under_durable key d c [] under = tt
under_durable key d c (x ∷ xs) under = (λ lt. under.0, under_durable key d c xs under.1)

first_under : {X : Type 0} (key : X → ℕ) (low : ℕ) (xs : List X) (y : X) → Rises key (suc low) (xs ++ y ∷ []) → low < key y
first_under key low [] y rises = let le = rises.0 in omega arith
first_under key low (x ∷ xs) y rises = let le = rises.0 in let more = first_under key (key x) xs y rises.1 in omega arith

pub rises_under : {X : Type 0} (key : X → ℕ) (low : ℕ) (xs : List X) (y : X) → Rises key low (xs ++ y ∷ []) → AllUnder key (key y) xs
rises_under key low [] y rises = tt
rises_under key low (x ∷ xs) y rises = (first_under key (key x) xs y rises.1, rises_under key (suc (key x)) xs y rises.1)

-- one entry more, as one page or byte sees it
module _ {X : Type 0} (key : X → ℕ) (part : Entry → List X) (one : (e : Entry) → (part e ≡ []) ⊎ ((x : X) × (key x ≡ e.lsn) × (part e ≡ x ∷ []))) where
  pub under_parts : (d : ℕ) (es : List Entry) → AllUnder entry_number d es → AllUnder key d (parts key part one es)
  under_parts d [] under = tt
  under_parts d (e ∷ es) under = ⊎_elim
      (λ none. subst (λ (l : List X). AllUnder key d (l ++ parts key part one es)) (sym none) (under_parts d es under.1))
      (λ is. subst (λ (l : List X). AllUnder key d (l ++ parts key part one es)) (sym is.2) (let same = is.1 in let lt = under.0 in omega arith, under_parts d es under.1))
      (one e)

  -- the last entry's part is from its number on
  last_from : (d : ℕ) (e : Entry) → d ≤ e.lsn → AllFrom key d (part e)
  last_from d e le = ⊎_elim
      (λ none. subst (λ (l : List X). AllFrom key d l) (sym none) tt)
      (λ is. subst (λ (l : List X). AllFrom key d l) (sym is.2) (let same = is.1 in omega arith, tt))
      (one e)

  pub none_from : (d : ℕ) (ys : List X) → AllFrom key d ys → below key d ys ≡ []
  none_from d [] from = refl
  none_from d (y ∷ ys) from = below_out key d y ys from.0 ∙ none_from d ys from.1

  less_from : (c d : ℕ) (ys : List X) → c ≤ d → AllFrom key d ys → AllFrom key c ys
  less_from c d [] le from = tt
  less_from c d (y ∷ ys) le from = (let high = from.0 in omega arith, less_from c d ys le from.1)

  below_min : (c l : ℕ) (us ys : List X) → AllUnder key l us → AllFrom key l ys → below key (min c l) (us ++ ys) ≡ below key c us
  below_min c l [] ys under from = none_from (min c l) ys (less_from (min c l) l ys (omega arith) from)
  below_min c l (u ∷ us) ys under from = ⊎_elim
      (λ lt. below_in key (min c l) u (us ++ ys) (let low = under.0 in omega arith) ∙ ap (λ (m : List X). u ∷ m) (below_min c l us ys under.1 from) ∙ sym (below_in key c u us lt))
      (λ le. below_out key (min c l) u (us ++ ys) (omega arith) ∙ below_min c l us ys under.1 from ∙ sym (below_out key c u us le))
      (cases_lt (key u) c)

  durable_min : (c d l : ℕ) (us ys : List X) → AllFrom key l ys → IsDurable key d c us → IsDurable key d (min c l) (us ++ ys)
  durable_min c d l [] [] from durable = tt
  durable_min c d l [] (y ∷ ys) from durable = (λ lt. let high = from.0 in absurd (omega arith), durable_min c d l [] ys from.1 durable)
  durable_min c d l (u ∷ us) ys from durable = (λ lt. durable.0 (omega arith), durable_min c d l us ys from durable.1)

  module _ (all : List Entry) (x : Entry) (rises : Rises entry_number 1 (all ++ x ∷ [])) where
    split : parts key part one (all ++ x ∷ []) ≡ parts key part one all ++ (part x ++ [])
    split = append_parts key part one all (x ∷ [])

    last : AllFrom key x.lsn (part x ++ [])
    last = subst (λ (l : List X). AllFrom key x.lsn l) (sym (append_none (part x))) (last_from x.lsn x (omega arith))

    under : AllUnder key x.lsn (parts key part one all)
    under = under_parts x.lsn all (rises_under entry_number 1 all x rises)

    pub version_append : (c : ℕ) → below key (min c x.lsn) (parts key part one (all ++ x ∷ [])) ≡ below key c (parts key part one all)
    version_append c = ap (below key (min c x.lsn)) split ∙ below_min c x.lsn (parts key part one all) (part x ++ []) under last

    pub durable_append : (c d : ℕ) → IsDurable key d c (parts key part one all) → IsDurable key d (min c x.lsn) (parts key part one (all ++ x ∷ []))
    durable_append c d durable = subst (λ (l : List X). IsDurable key d (min c x.lsn) l) (sym split) (durable_min c d x.lsn (parts key part one all) (part x ++ []) last durable)

    pub below_append : (d : ℕ) → d ≤ x.lsn → below key d (parts key part one (all ++ x ∷ [])) ≡ below key d (parts key part one all)
    below_append d le = let same : min d x.lsn ≡ d = omega arith in ap (λ (c : ℕ). below key c (parts key part one (all ++ x ∷ []))) (sym same) ∙ version_append d

pub split_byte : (b i : ℕ) (all : List Entry) (x : Entry) → of_byte b i (all ++ x ∷ []) ≡ of_byte b i all ++ byte_change b i x.lsn x.effect
split_byte b i all x = append_parts byte_number (λ e. byte_change b i e.lsn e.effect) (λ e. byte_one b i e.lsn e.effect) all (x ∷ []) ∙ ap (λ (l : List OnByte). of_byte b i all ++ l) (append_none (byte_change b i x.lsn x.effect))

pub covered_front : (e : ℕ) (xs ys : List OnByte) → IsCoveredFrom e xs → IsCoveredFrom e (xs ++ ys)
covered_front e [] ys covered = absurd covered
covered_front e (x ∷ xs) ys covered = ⊎_elim (λ here. inl here) (λ there. inr (covered_front e xs ys there)) covered

-- 1. A record is appended.
pub page_appended : (all : List Entry) (x : Entry) (d e n : ℕ) (s p : List ℕ) → Rises entry_number 1 (all ++ x ∷ []) → e ≤ x.lsn → IsPageVersion all d e n s p → IsPageVersion (all ++ x ∷ []) d e n s p
page_appended all x d e n s p rises low v = let late = v.late in record {
  cut = min v.cut x.lsn;
  late = omega arith;
  is = v.is ∙ ap (λ (l : List OnPage). repeated l s) (sym (version_append number_of (λ e. page_change n e.lsn e.effect) (λ e. page_one n e.lsn e.effect) all x rises v.cut));
  durable = durable_append number_of (λ e. page_change n e.lsn e.effect) (λ e. page_one n e.lsn e.effect) all x rises v.cut d v.durable;
}

-- more is covered with more records
below_front : (d : ℕ) (xs ys : List OnByte) → below byte_number d (xs ++ ys) ≡ below byte_number d xs ++ below byte_number d ys
below_front d [] ys = refl
below_front d (x ∷ xs) ys = ⊎_elim
    (λ lt. below_in byte_number d x (xs ++ ys) lt ∙ ap (λ (l : List OnByte). x ∷ l) (below_front d xs ys) ∙ sym (ap (λ (l : List OnByte). l ++ below byte_number d ys) (below_in byte_number d x xs lt)))
    (λ le. below_out byte_number d x (xs ++ ys) le ∙ below_front d xs ys ∙ sym (ap (λ (l : List OnByte). l ++ below byte_number d ys) (below_out byte_number d x xs le)))
    (cases_lt x.lsn d)

pub byte_appended : (all : List Entry) (x : Entry) (d e b i s y : ℕ) → Rises entry_number 1 (all ++ x ∷ []) → e ≤ x.lsn → IsByteKept all d e b i s y → IsByteKept (all ++ x ∷ []) d e b i s y
byte_appended all x d e b i s y rises low kept = ⊎_elim
    (λ v. let late = v.late in inl (record {
      cut = min v.cut x.lsn;
      late = omega arith;
      is = v.is ∙ ap (λ (l : List OnByte). rewritten l s) (sym (version_append byte_number (λ e. byte_change b i e.lsn e.effect) (λ e. byte_one b i e.lsn e.effect) all x rises v.cut));
      durable = durable_append byte_number (λ e. byte_change b i e.lsn e.effect) (λ e. byte_one b i e.lsn e.effect) all x rises v.cut d v.durable;
    }))
    (λ covered. inr (subst (λ (l : List OnByte). IsCoveredFrom e l) (sym (ap (below byte_number d) (split_byte b i all x) ∙ below_front d (of_byte b i all) (byte_change b i x.lsn x.effect)))
    (covered_front e (below byte_number d (of_byte b i all)) (below byte_number d (byte_change b i x.lsn x.effect)) covered)))
    kept

pub appended : (g : Geometry) (first : Homes) (all : List Entry) (x : Entry) (d : ℕ) (ep eb : ℕ → ℕ) (h : Homes) → Rises entry_number 1 (all ++ x ∷ []) → EachPage g (λ n. ep n ≤ x.lsn) → ((b : ℕ) → b < g.bands → eb b ≤ x.lsn)
    → IsKept g first all d ep eb h → IsKept g first (all ++ x ∷ []) d ep eb h
appended g first all x d ep eb h rises ep_low eb_low kept = record {
  pages = λ n lt. page_appended all x d (ep n) n (first.page n) (h.page n) rises (ep_low n lt) (kept.pages n lt);
  bytes = λ b i is_band is_byte. byte_appended all x d (eb b) b i (first.byte b i) (h.byte b i) rises (eb_low b is_band) (kept.bytes b i is_band is_byte);
}

-- 2. The log is forced.
durable_more : {X : Type 0} (key : X → ℕ) (d d' c : ℕ) (xs : List X) → d ≤ d' → IsDurable key d c xs → IsDurable key d' c xs
durable_more key d d' c [] le durable = tt
durable_more key d d' c (x ∷ xs) le durable = (λ lt. let low = durable.0 lt in omega arith, durable_more key d d' c xs le durable.1)

covered_more : (e d d' : ℕ) (ws : List OnByte) → d ≤ d' → IsCoveredFrom e (below byte_number d ws) → IsCoveredFrom e (below byte_number d' ws)
covered_more e d d' [] le covered = covered
covered_more e d d' (w ∷ ws) le covered = ⊎_elim
    (λ lt. subst (λ (l : List OnByte). IsCoveredFrom e l) (sym (below_in byte_number d' w ws (omega arith))) (⊎_elim (λ here. inl here) (λ there. inr (covered_more e d d' ws le there)) (subst (λ (l : List OnByte). IsCoveredFrom e l) (below_in byte_number d w ws lt) covered)))
    (λ high. let there = covered_more e d d' ws le (subst (λ (l : List OnByte). IsCoveredFrom e l) (below_out byte_number d w ws high) covered) in ⊎_elim
    (λ lt. subst (λ (l : List OnByte). IsCoveredFrom e l) (sym (below_in byte_number d' w ws lt)) (inr there))
    (λ out. subst (λ (l : List OnByte). IsCoveredFrom e l) (sym (below_out byte_number d' w ws out)) there)
    (cases_lt w.lsn d'))
    (cases_lt w.lsn d)

pub page_forced : (all : List Entry) (d d' e n : ℕ) (s p : List ℕ) → d ≤ d' → IsPageVersion all d e n s p → IsPageVersion all d' e n s p
page_forced all d d' e n s p le v = record { cut = v.cut; late = v.late; is = v.is; durable = durable_more number_of d d' v.cut (of_page n all) le v.durable }

pub byte_forced : (all : List Entry) (d d' e b i s x : ℕ) → d ≤ d' → IsByteKept all d e b i s x → IsByteKept all d' e b i s x
byte_forced all d d' e b i s x le kept = ⊎_elim
    (λ v. inl (record { cut = v.cut; late = v.late; is = v.is; durable = durable_more byte_number d d' v.cut (of_byte b i all) le v.durable }))
    (λ covered. inr (covered_more e d d' (of_byte b i all) le covered))
    kept

pub forced : (g : Geometry) (first : Homes) (all : List Entry) (d d' : ℕ) (ep eb : ℕ → ℕ) (h : Homes) → d ≤ d' → IsKept g first all d ep eb h → IsKept g first all d' ep eb h
forced g first all d d' ep eb h le kept = record {
  pages = λ n lt. page_forced all d d' (ep n) n (first.page n) (h.page n) le (kept.pages n lt);
  bytes = λ b i is_band is_byte. byte_forced all d d' (eb b) b i (first.byte b i) (h.byte b i) le (kept.bytes b i is_band is_byte);
}

-- 3. What is current and durable is a version from any number on.
pub current_page : (all : List Entry) (d e n : ℕ) (s p : List ℕ) → IsPageCurrent all d n s p → IsPageVersion all d e n s p
current_page all d e n s p current = record {
  cut = e + d;
  late = omega arith;
  is = current.is ∙ ap (λ (l : List OnPage). repeated l s) (sym (under_below number_of d (e + d) (of_page n all) current.durable (omega arith)));
  durable = under_durable number_of d (e + d) (of_page n all) current.durable;
}

pub current_byte : (all : List Entry) (d e b i s x : ℕ) → IsByteCurrent all d b i s x → IsByteVersion all d e b i s x
current_byte all d e b i s x current = record {
  cut = e + d;
  late = omega arith;
  is = current.is ∙ ap (λ (l : List OnByte). rewritten l s) (sym (under_below byte_number d (e + d) (of_byte b i all) current.durable (omega arith)));
  durable = under_durable byte_number d (e + d) (of_byte b i all) current.durable;
}

-- Pages go home, and dirty bytes, torn in any way: a page is as before or current, a byte is as before or covered from the estimate on.
pub written : (g : Geometry) (first : Homes) (all : List Entry) (d : ℕ) (ep eb : ℕ → ℕ) (h h' : Homes)
    → EachPage g (λ n. (h'.page n ≡ h.page n) ⊎ IsPageCurrent all d n (first.page n) (h'.page n))
    → EachByte g (λ b i. (h'.byte b i ≡ h.byte b i) ⊎ IsCoveredFrom (eb b) (below byte_number d (of_byte b i all)))
    → IsKept g first all d ep eb h → IsKept g first all d ep eb h'
written g first all d ep eb h h' pages bytes kept = record {
  pages = λ n lt. ⊎_elim
      (λ same. subst (λ (p : List ℕ). IsPageVersion all d (ep n) n (first.page n) p) (sym same) (kept.pages n lt))
      (λ current. current_page all d (ep n) n (first.page n) (h'.page n) current)
      (pages n lt);
  bytes = λ b i is_band is_byte. ⊎_elim
      (λ same. subst (λ (x : ℕ). IsByteKept all d (eb b) b i (first.byte b i) x) (sym same) (kept.bytes b i is_band is_byte))
      (λ covered. inr covered)
      (bytes b i is_band is_byte);
}

-- After the sync the estimates of what is current rise, as far as one likes.
pub raised : (g : Geometry) (first : Homes) (all : List Entry) (d : ℕ) (ep eb ep' eb' : ℕ → ℕ) (h : Homes)
    → EachPage g (λ n. (ep' n ≤ ep n) ⊎ IsPageCurrent all d n (first.page n) (h.page n))
    → EachByte g (λ b i. (eb' b ≤ eb b) ⊎ IsByteCurrent all d b i (first.byte b i) (h.byte b i))
    → IsKept g first all d ep eb h → IsKept g first all d ep' eb' h
raised g first all d ep eb ep' eb' h pages bytes kept = record {
  pages = λ n lt. ⊎_elim
      (λ le. let v = kept.pages n lt in let late = v.late in record { cut = v.cut; late = omega arith; is = v.is; durable = v.durable })
      (λ current. current_page all d (ep' n) n (first.page n) (h.page n) current)
      (pages n lt);
  bytes = λ b i is_band is_byte. ⊎_elim
      (λ le. ⊎_elim
      (λ v. let late = v.late in inl (record { cut = v.cut; late = omega arith; is = v.is; durable = v.durable }))
      (λ covered. inr (covered_less (eb' b) (eb b) (below byte_number d (of_byte b i all)) le covered))
      (kept.bytes b i is_band is_byte))
      (λ current. inl (current_byte all d (eb' b) b i (first.byte b i) (h.byte b i) current))
      (bytes b i is_band is_byte);
}

-- 4. Opening: a sound image is a first home, for which the invariant holds.
pub no_ops : (r : ℕ) (us : List OnPage) (p : List ℕ) → IsIn r us p → repeated (below number_of r us) p ≡ p
no_ops r [] p in_it = refl
no_ops r (u ∷ us) p in_it = ⊎_elim
    (λ lt. ap (λ (l : List OnPage). repeated l p) (below_in number_of r u us lt) ∙ ap (repeated (below number_of r us)) (stays u p (in_it.0 lt)) ∙ no_ops r us p in_it.1)
    (λ le. ap (λ (l : List OnPage). repeated l p) (below_out number_of r u us le) ∙ no_ops r us p in_it.1)
    (cases_lt u.lsn r)

fit_back : (r : ℕ) (us : List OnPage) (p : List ℕ) → AllSetNumber us → IsIn r us p → AllFit (onward number_of r us) p → AllFit us p
fit_back r [] p sets in_it fit = tt
fit_back r (u ∷ us) p sets in_it fit = ⊎_elim
    (λ lt. let low = in_it.0 lt in (λ above. absurd (omega arith), subst (λ (q : List ℕ). AllFit us q) (sym (stays u p low)) (fit_back r us p sets.1 in_it.1 (subst (λ (l : List OnPage). AllFit l p) (onward_out number_of r u us lt) fit))))
    (λ le. let more = subst (λ (l : List OnPage). AllFit l p) (onward_in number_of r u us le) fit in
    (more.0, fit_back r us (redone u p) sets.1 (more_in r us p (redone u p) (has u p sets.0 more.0).1 in_it.1) more.1))
    (cases_lt u.lsn r)

module _ (g : Geometry) (r tail : ℕ) (ds : List Entry) (h : Homes) (sound : IsSound g r tail ds h)
    (rises : Rises entry_number 1 ds) (ends : AllUnder entry_number tail ds) (sets : EachPage g (λ n. AllSetNumber (of_page n ds))) (well : EachPage g (λ n. AllWell (of_page n ds) (h.page n))) (there : AllThere g ds) where
  pub opens : IsHistory g h ds
  opens = record {
    rises = rises;
    sets = sets;
    fits = λ n lt. fit_back r (of_page n ds) (h.page n) (sets n lt) (sound.is_in n lt) (sound.fits n lt);
    well = well;
    there = there;
  }

  under_page : (n : ℕ) → AllUnder number_of tail (of_page n ds)
  under_page n = under_parts number_of (λ e. page_change n e.lsn e.effect) (λ e. page_one n e.lsn e.effect) tail ds ends

  under_byte : (b i : ℕ) → AllUnder byte_number tail (of_byte b i ds)
  under_byte b i = under_parts byte_number (λ e. byte_change b i e.lsn e.effect) (λ e. byte_one b i e.lsn e.effect) tail ds ends

  pub starts : IsKept g h ds tail (λ n. r) (λ b. r) h
  starts = record {
    pages = λ n lt. record {
      cut = r;
      late = omega arith;
      is = sym (no_ops r (of_page n ds) (h.page n) (sound.is_in n lt));
      durable = under_durable number_of tail r (of_page n ds) (under_page n);
    };
    bytes = λ b i is_band is_byte. ⊎_elim
        (λ covered. inr (subst (λ (l : List OnByte). IsCoveredFrom r l) (sym (under_below byte_number tail tail (of_byte b i ds) (under_byte b i) (omega arith))) covered))
        (λ bare. inl (record {
          cut = r;
          late = omega arith;
          is = sym (ap (λ (l : List OnByte). rewritten l (h.byte b i)) (uncovered_all r r (of_byte b i ds) (omega arith) bare) ∙ sound.last b i is_band is_byte bare);
          durable = under_durable byte_number tail r (of_byte b i ds) (under_byte b i);
        }))
        (covered_or r (of_byte b i ds));
  }

-- The history goes on.
sets_append : (xs ys : List OnPage) → AllSetNumber xs → AllSetNumber ys → AllSetNumber (xs ++ ys)
sets_append [] ys one two = two
sets_append (x ∷ xs) ys one two = (one.0, sets_append xs ys one.1 two)

fit_append : (xs ys : List OnPage) (p : List ℕ) → AllFit xs p → AllFit ys (repeated xs p) → AllFit (xs ++ ys) p
fit_append [] ys p one two = two
fit_append (x ∷ xs) ys p one two = (one.0, fit_append xs ys (redone x p) one.1 two)

pub split_page : (n : ℕ) (all : List Entry) (x : Entry) → of_page n (all ++ x ∷ []) ≡ of_page n all ++ page_change n x.lsn x.effect
split_page n all x = append_parts number_of (λ e. page_change n e.lsn e.effect) (λ e. page_one n e.lsn e.effect) all (x ∷ []) ∙ ap (λ (l : List OnPage). of_page n all ++ l) (append_none (page_change n x.lsn x.effect))

pub history_appended : (g : Geometry) (first : Homes) (all : List Entry) (x : Entry) → IsHistory g first all → Appends g first all x → IsHistory g first (all ++ x ∷ [])
history_appended g first all x history next = record {
  rises = next.rises;
  sets = λ n lt. subst (λ (l : List OnPage). AllSetNumber l) (sym (split_page n all x)) (sets_append (of_page n all) (page_change n x.lsn x.effect) (history.sets n lt) (next.sets n lt));
  fits = λ n lt. subst (λ (l : List OnPage). AllFit l (first.page n)) (sym (split_page n all x)) (fit_append (of_page n all) (page_change n x.lsn x.effect) (first.page n) (history.fits n lt) (next.fits n lt));
  well = λ n lt. subst (λ (l : List OnPage). AllWell l (first.page n)) (sym (split_page n all x)) (well_append (of_page n all) (page_change n x.lsn x.effect) (first.page n) (history.well n lt) (next.well n lt));
  there = there_append g all (x ∷ []) history.there (next.there, tt);
}

pub repeated_append : (xs ys : List OnPage) (p : List ℕ) → repeated (xs ++ ys) p ≡ repeated ys (repeated xs p)
repeated_append [] ys p = refl
repeated_append (x ∷ xs) ys p = repeated_append xs ys (redone x p)

pub rewritten_append : (xs ys : List OnByte) (x : ℕ) → rewritten (xs ++ ys) x ≡ rewritten ys (rewritten xs x)
rewritten_append [] ys x = refl
rewritten_append (w ∷ ws) ys x = rewritten_append ws ys w.value

pub covered_last : (e : ℕ) (xs : List OnByte) (y : OnByte) → e ≤ y.lsn → IsCoveredFrom e (xs ++ y ∷ [])
covered_last e [] y le = inl le
covered_last e (x ∷ xs) y le = inr (covered_last e xs y le)

-- Where each record fits, the page that all of them made has a number at or above each: so one test of its number tells that all are durable.
under_number : (us : List OnPage) (p : List ℕ) (d : ℕ) → AllSetNumber us → AllFit us p → lsn_of (repeated us p) < d → AllUnder number_of d us
under_number [] p d sets fit lt = tt
under_number (u ∷ us) p d sets fit lt =
    let one = has u p sets.0 fit.0 in
    let more = grows us (redone u p) sets.1 fit.1 in
    (let low = one.0 in omega arith, under_number us (redone u p) d sets.1 fit.1 lt)

pub may_go : (g : Geometry) (first : Homes) (all : List Entry) (d n : ℕ) (p : List ℕ) → IsHistory g first all → n < g.pages → p ≡ repeated (of_page n all) (first.page n) → lsn_of p < d → AllUnder number_of d (of_page n all)
may_go g first all d n p history lt is low = under_number (of_page n all) (first.page n) d (history.sets n lt) (history.fits n lt) (subst (λ (q : List ℕ). lsn_of q < d) is low)

-- a page of number 0 has no record
under_zero : (us : List OnPage) (p : List ℕ) (d : ℕ) → AllSetNumber us → AllFit us p → Rises number_of 1 us → lsn_of (repeated us p) ≡ 0 → AllUnder number_of d us
under_zero [] p d sets fit rises zero = tt
under_zero (u ∷ us) p d sets fit rises zero =
    let one = has u p sets.0 fit.0 in
    let more = grows us (redone u p) sets.1 fit.1 in
    let low = rises.0 in
    let lt = one.0 in
    absurd (omega arith)

-- a version that is the page which all records made has all of them
pub under_version : (g : Geometry) (first : Homes) (all : List Entry) (d o n : ℕ) (p : List ℕ) → IsHistory g first all → n < g.pages → IsNumbered d (first.page n) → IsPageVersion all d o n (first.page n) p → p ≡ repeated (of_page n all) (first.page n)
    → AllUnder number_of d (of_page n all)
under_version g first all d o n p history lt start v is =
    let e = ap lsn_of (sym v.is ∙ is) in
    ⊎_elim
    (λ zero. under_zero (of_page n all) (first.page n) d (history.sets n lt) (history.fits n lt) (rises_parts number_of (λ e. page_change n e.lsn e.effect) (λ e. page_one n e.lsn e.effect) 1 all history.rises) (sym e ∙ zero))
    (λ low. under_number (of_page n all) (first.page n) d (history.sets n lt) (history.fits n lt) (let same : lsn_of (repeated (of_page n all) (first.page n)) ≡ lsn_of (repeated (below number_of v.cut (of_page n all)) (first.page n)) = sym e in omega arith))
    (number_within d v.cut (of_page n all) (first.page n) (history.sets n lt) v.durable start)

-- a band's records
pub band_parts_are : (b : ℕ) (es : List Entry) → parts window_number (λ e. band_change b e.lsn e.effect) (λ e. band_one b e.lsn e.effect) es ≡ of_band b es
band_parts_are b [] = refl
band_parts_are b (e ∷ es) = ap (λ (l : List OnWindow). band_change b e.lsn e.effect ++ l) (band_parts_are b es)

pub split_band : (b : ℕ) (all : List Entry) (x : Entry) → of_band b (all ++ x ∷ []) ≡ of_band b all ++ band_change b x.lsn x.effect
split_band b [] x = append_none (band_change b x.lsn x.effect)
split_band b (e ∷ all) x = ap (λ (l : List OnWindow). band_change b e.lsn e.effect ++ l) (split_band b all x) ∙ sym (append_assoc (band_change b e.lsn e.effect) (of_band b all) (band_change b x.lsn x.effect))

pub last_above : {X : Type 0} (key : X → ℕ) (low : ℕ) (xs : List X) (y : X) → Rises key low (xs ++ y ∷ []) → low ≤ key y
last_above key low [] y rises = rises.0
last_above key low (x ∷ xs) y rises = let a = rises.0 in let b = last_above key (suc (key x)) xs y rises.1 in omega arith
