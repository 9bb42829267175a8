-- From a log to one page or byte, and from a log to its front.
use Rattle.std.proofs.Common.{◌≡◌, ◌⊎◌, inl, inr, ⊎_elim, ◌<◌, ◌-◌, ◌==◌, ℕ, suc, Bool, true, false, nat_lt, if◌then◌else◌, List, [], ◌∷◌, ◌++◌, get_or, Option, Some, None, IfSome, unwrap_or, refl, sym, ◌∙◌, ap, subst, arith, append_assoc}
use Rattle.std.proofs.lemmas.Bool.{cases_lt}
use Rattle.sg_base.specs.Page.{lsn_of}
use Rattle.sg_redo.specs.History.{OnPage, OnByte, number_of, redone, repeated, AllSetNumber, AllFit}
use Rattle.sg_redo.specs.Window.{OnWindow, on_byte}
use Rattle.sg_redo.proofs.Versions.{stays}
use Rattle.sg_redo.proofs.Bytes.{part_in, part_out, place_or}
use Rattle.sg_engine.specs.Numbers.{below, onward, Rises, AllFrom, AllUnder, IsDurable}
use Rattle.sg_pool.specs.Units.{Geometry}
use Rattle.sg_engine.specs.History.{Effect, ChangesPage, ChangesBand, ChangesNothing, Entry, entry_number, byte_number, window_number, page_change, band_change, byte_change, of_band, of_byte, IsNumbered, IsIn, IsCoveredFrom, AllThere}
use Rattle.sg_engine.proofs.Pages.{below_in, below_out, onward_in, onward_out, rises_less, has, more_in}

-- none or one
if_one : {X : Type 0} (b : Bool) (x : X) → ((if b then (x ∷ []) else []) ≡ []) ⊎ ((if b then (x ∷ []) else []) ≡ x ∷ [])
if_one true x = inr refl
if_one false x = inl refl

pub page_one : (n lsn : ℕ) (e : Effect) → (page_change n lsn e ≡ []) ⊎ ((r : OnPage) × (r.lsn ≡ lsn) × (page_change n lsn e ≡ r ∷ []))
page_one n lsn (ChangesPage m makes) = ⊎_elim (λ none. inl none) (λ one. inr (record { lsn = lsn; makes = makes }, refl, one)) (if_one (m == n) (record { lsn = lsn; makes = makes }))
page_one n lsn (ChangesBand c at bytes) = inl refl
page_one n lsn ChangesNothing = inl refl

pub band_one : (b lsn : ℕ) (e : Effect) → (band_change b lsn e ≡ []) ⊎ ((w : OnWindow) × (w.lsn ≡ lsn) × (band_change b lsn e ≡ w ∷ []))
band_one b lsn (ChangesPage m makes) = inl refl
band_one b lsn (ChangesBand c at bytes) = ⊎_elim (λ none. inl none) (λ one. inr (record { lsn = lsn; at = at; bytes = bytes }, refl, one)) (if_one (c == b) (record { lsn = lsn; at = at; bytes = bytes }))
band_one b lsn ChangesNothing = inl refl

-- a window's change as one byte has it
window_one : (i : ℕ) (w : OnWindow) → (on_byte i (w ∷ []) ≡ []) ⊎ ((x : OnByte) × (x.lsn ≡ w.lsn) × (on_byte i (w ∷ []) ≡ x ∷ []))
window_one i w = ⊎_elim
    (λ low. inr (record { lsn = w.lsn; value = get_or w.bytes (i - w.at) 0 }, refl, part_in w i [] low.0 low.1))
    (λ out. inl (part_out w i [] out))
    (place_or w i)

pub byte_one : (b i lsn : ℕ) (e : Effect) → (byte_change b i lsn e ≡ []) ⊎ ((w : OnByte) × (w.lsn ≡ lsn) × (byte_change b i lsn e ≡ w ∷ []))
byte_one b i lsn e = ⊎_elim
    (λ none. inl (ap (on_byte i) none))
    (λ one. ⊎_elim
    (λ out. inl (ap (on_byte i) one.2 ∙ out))
    (λ is. inr (is.0, is.1 ∙ one.1, ap (on_byte i) one.2 ∙ is.2))
    (window_one i one.0))
    (band_one b lsn e)

-- a part of each entry, at most one with the entry's number
module _ {X : Type 0} (key : X → ℕ) (part : Entry → List X) (one : (e : Entry) → (part e ≡ []) ⊎ ((x : X) × (key x ≡ e.lsn) × (part e ≡ x ∷ []))) where
  abbrev pub parts : List Entry → List X
  parts [] = []
  parts (e ∷ es) = part e ++ parts es

  pub rises_parts : (low : ℕ) (es : List Entry) → Rises entry_number low es → Rises key low (parts es)
  rises_parts low [] rises = tt
  rises_parts low (e ∷ es) rises = ⊎_elim
      (λ none. subst (λ (l : List X). Rises key low (l ++ parts es)) (sym none) (rises_less key low (suc e.lsn) (parts es) (omega arith) (rises_parts (suc e.lsn) es rises.1)))
      (λ is. subst (λ (l : List X). Rises key low (l ++ parts es)) (sym is.2) (let same = is.1 in omega arith, rises_less key (suc (key is.0)) (suc e.lsn) (parts es) (let same = is.1 in omega arith) (rises_parts (suc e.lsn) es rises.1)))
      (one e)

  pub from_parts : (d : ℕ) (es : List Entry) → AllFrom entry_number d es → AllFrom key d (parts es)
  from_parts d [] from = tt
  from_parts d (e ∷ es) from = ⊎_elim
      (λ none. subst (λ (l : List X). AllFrom key d (l ++ parts es)) (sym none) (from_parts d es from.1))
      (λ is. subst (λ (l : List X). AllFrom key d (l ++ parts es)) (sym is.2) (let same = is.1 in let le = from.0 in omega arith, from_parts d es from.1))
      (one e)

  pub append_parts : (xs ys : List Entry) → parts (xs ++ ys) ≡ parts xs ++ parts ys
  append_parts [] ys = refl
  append_parts (e ∷ xs) ys = ap (λ (l : List X). part e ++ l) (append_parts xs ys) ∙ sym (append_assoc (part e) (parts xs) (parts ys))

-- records of pages and bands of the store
pub there_front : (g : Geometry) (xs ys : List Entry) → AllThere g (xs ++ ys) → AllThere g xs
there_front g [] ys there = tt
there_front g (x ∷ xs) ys there = (there.0, there_front g xs ys there.1)

pub there_append : (g : Geometry) (xs ys : List Entry) → AllThere g xs → AllThere g ys → AllThere g (xs ++ ys)
there_append g [] ys one two = two
there_append g (x ∷ xs) ys one two = (one.0, there_append g xs ys one.1 two)

-- the front of a list
pub rises_front : {X : Type 0} (key : X → ℕ) (low : ℕ) (xs ys : List X) → Rises key low (xs ++ ys) → Rises key low xs
rises_front key low [] ys rises = tt
rises_front key low (x ∷ xs) ys rises = (rises.0, rises_front key (suc (key x)) xs ys rises.1)

pub sets_front : (xs ys : List OnPage) → AllSetNumber (xs ++ ys) → AllSetNumber xs
sets_front [] ys sets = tt
sets_front (x ∷ xs) ys sets = (sets.0, sets_front xs ys sets.1)

pub fit_front : (xs ys : List OnPage) (p : List ℕ) → AllFit (xs ++ ys) p → AllFit xs p
fit_front [] ys p fit = tt
fit_front (x ∷ xs) ys p fit = (fit.0, fit_front xs ys (redone x p) fit.1)

pub durable_front : {X : Type 0} (key : X → ℕ) (d cut : ℕ) (xs ys : List X) → IsDurable key d cut (xs ++ ys) → IsDurable key d cut xs
durable_front key d cut [] ys durable = tt
durable_front key d cut (x ∷ xs) ys durable = (durable.0, durable_front key d cut xs ys durable.1)

-- what isn't durable isn't below the cut
none_left : {X : Type 0} (key : X → ℕ) (d cut : ℕ) (ys : List X) → IsDurable key d cut ys → AllFrom key d ys → below key cut ys ≡ []
none_left key d cut [] durable from = refl
none_left key d cut (y ∷ ys) durable from = ⊎_elim
    (λ lt. let low = durable.0 lt in let high = from.0 in absurd (omega arith))
    (λ le. below_out key cut y ys le ∙ none_left key d cut ys durable.1 from.1)
    (cases_lt (key y) cut)

pub below_front : {X : Type 0} (key : X → ℕ) (d cut : ℕ) (xs ys : List X) → IsDurable key d cut (xs ++ ys) → AllFrom key d ys → below key cut (xs ++ ys) ≡ below key cut xs
below_front key d cut [] ys durable from = none_left key d cut ys durable from
below_front key d cut (x ∷ xs) ys durable from = ⊎_elim
    (λ lt. below_in key cut x (xs ++ ys) lt ∙ ap (λ (l : List _). x ∷ l) (below_front key d cut xs ys durable.1 from) ∙ sym (below_in key cut x xs lt))
    (λ le. below_out key cut x (xs ++ ys) le ∙ below_front key d cut xs ys durable.1 from ∙ sym (below_out key cut x xs le))
    (cases_lt (key x) cut)

pub durable_self : {X : Type 0} (key : X → ℕ) (d : ℕ) (xs : List X) → IsDurable key d d xs
durable_self key d [] = tt
durable_self key d (x ∷ xs) = (λ lt. lt, durable_self key d xs)

pub covered_below : (e d : ℕ) (ws : List OnByte) → IsCoveredFrom e (below byte_number d ws) → IsCoveredFrom e ws
covered_below e d [] covered = covered
covered_below e d (w ∷ ws) covered = ⊎_elim
    (λ lt. ⊎_elim (λ here. inl here) (λ there. inr (covered_below e d ws there)) (subst (λ (l : List OnByte). IsCoveredFrom e l) (below_in byte_number d w ws lt) covered))
    (λ le. inr (covered_below e d ws (subst (λ (l : List OnByte). IsCoveredFrom e l) (below_out byte_number d w ws le) covered)))
    (cases_lt w.lsn d)

-- an operation keeps what is said of a page
abbrev pub AllKeep : (List ℕ → Type 0) → List OnPage → Type 0
AllKeep good [] = Unit {0}
AllKeep good (r ∷ rs) = ((p : List ℕ) → good p → IfSome (r.makes p) good) × AllKeep good rs

well_some : (good : List ℕ → Type 0) (o : Option (List ℕ)) (p : List ℕ) → IfSome o good → good p → good (unwrap_or o p)
well_some good None p some well = well
well_some good (Some q) p some well = some

well_if : (good : List ℕ → Type 0) (b : Bool) (p q : List ℕ) → good p → good q → good (if b then q else p)
well_if good true p q old new = new
well_if good false p q old new = old

well_once : (good : List ℕ → Type 0) (r : OnPage) (p : List ℕ) → IfSome (r.makes p) good → good p → good (redone r p)
unfolding redone
well_once good r p keep well = well_if good (nat_lt (lsn_of p) r.lsn) p (unwrap_or (r.makes p) p) well (well_some good (r.makes p) p keep well)

pub well_made : (good : List ℕ → Type 0) (rs : List OnPage) (p : List ℕ) → AllKeep good rs → good p → good (repeated rs p)
well_made good [] p keep well = well
well_made good (r ∷ rs) p keep well = well_made good rs (redone r p) keep.1 (well_once good r p (keep.0 p well) well)

-- a version's number is below d, where the first one's is and each record of it
some_within : (d l : ℕ) (o : Option (List ℕ)) → l < d → IfSome o (λ q. lsn_of q ≡ l) → IfSome o (IsNumbered d)
some_within d l None lt is = tt
some_within d l (Some q) lt is = inr (subst (λ (n : ℕ). n < d) (sym is) lt)

keep_within : (d c : ℕ) (rs : List OnPage) → AllSetNumber rs → IsDurable number_of d c rs → AllKeep (IsNumbered d) (below number_of c rs)
keep_within d c [] sets durable = tt
keep_within d c (r ∷ rs) sets durable = ⊎_elim
    (λ lt. subst (λ (l : List OnPage). AllKeep (IsNumbered d) l) (sym (below_in number_of c r rs lt)) (λ p before. some_within d r.lsn (r.makes p) (durable.0 lt) (sets.0.sets p), keep_within d c rs sets.1 durable.1))
    (λ le. subst (λ (l : List OnPage). AllKeep (IsNumbered d) l) (sym (below_out number_of c r rs le)) (keep_within d c rs sets.1 durable.1))
    (cases_lt r.lsn c)

pub number_within : (d c : ℕ) (rs : List OnPage) (p : List ℕ) → AllSetNumber rs → IsDurable number_of d c rs → IsNumbered d p → IsNumbered d (repeated (below number_of c rs) p)
number_within d c rs p sets durable within = well_made (IsNumbered d) (below number_of c rs) p (keep_within d c rs sets durable) within

-- the records from there on fit a page that has those before
pub fit_onward : (r : ℕ) (us : List OnPage) (p : List ℕ) → AllSetNumber us → AllFit us p → IsIn r us p → AllFit (onward number_of r us) p
fit_onward r [] p sets fit in_it = tt
fit_onward r (u ∷ us) p sets fit in_it = ⊎_elim
    (λ lt. let same = stays u p (in_it.0 lt) in
    subst (λ (l : List OnPage). AllFit l p) (sym (onward_out number_of r u us lt)) (fit_onward r us p sets.1 (subst (λ (q : List ℕ). AllFit us q) same fit.1) in_it.1))
    (λ le. subst (λ (l : List OnPage). AllFit l p) (sym (onward_in number_of r u us le)) (fit.0, fit_onward r us (redone u p) sets.1 fit.1 (more_in r us p (redone u p) (has u p sets.0 fit.0).1 in_it.1)))
    (cases_lt u.lsn r)

-- where all of a band's records are below a number, those of each of its bytes are
one_under : (i d : ℕ) (w : OnWindow) (ws : List OnWindow) → w.lsn < d → AllUnder byte_number d (on_byte i ws) → AllUnder byte_number d (on_byte i (w ∷ ws))
one_under i d w ws lt under = ⊎_elim
    (λ here. subst (λ (l : List OnByte). AllUnder byte_number d l) (sym (part_in w i ws here.0 here.1)) (lt, under))
    (λ out. subst (λ (l : List OnByte). AllUnder byte_number d l) (sym (part_out w i ws out)) under)
    (place_or w i)

windows_under : (i d : ℕ) (ws : List OnWindow) → AllUnder window_number d ws → AllUnder byte_number d (on_byte i ws)
windows_under i d [] under = tt
windows_under i d (w ∷ ws) under = one_under i d w ws under.0 (windows_under i d ws under.1)

pub under_split : {X : Type 0} (key : X → ℕ) (d : ℕ) (xs ys : List X) → AllUnder key d (xs ++ ys) → AllUnder key d xs × AllUnder key d ys
under_split key d [] ys under = (tt, under)
under_split key d (x ∷ xs) ys under = let more = under_split key d xs ys under.1 in ((under.0, more.0), more.1)

pub under_append : {X : Type 0} (key : X → ℕ) (d : ℕ) (xs ys : List X) → AllUnder key d xs → AllUnder key d ys → AllUnder key d (xs ++ ys)
under_append key d [] ys one two = two
under_append key d (x ∷ xs) ys one two = (one.0, under_append key d xs ys one.1 two)

pub byte_under : (b i d : ℕ) (es : List Entry) → AllUnder window_number d (of_band b es) → AllUnder byte_number d (of_byte b i es)
byte_under b i d [] under = tt
byte_under b i d (e ∷ es) under =
    let both = under_split window_number d (band_change b e.lsn e.effect) (of_band b es) under in
    under_append byte_number d (byte_change b i e.lsn e.effect) (of_byte b i es) (windows_under i d (band_change b e.lsn e.effect) both.0) (byte_under b i d es both.1)
