-- Repeating history over a page.
use Rattle.std.proofs.Common.{◌≡◌, ⊎_elim, ◌<◌, ◌≤◌, ℕ, suc, List, [], ◌∷◌, ◌++◌, Option, Some, IfSome, refl, sym, ◌∙◌, ap, subst, arith}
use Rattle.std.proofs.lemmas.Bool.{cases_lt}
use Rattle.std.proofs.lemmas.Bool.Decides.{nat_tests}
use Rattle.sg_base.specs.Page.{lsn_of}
use Rattle.sg_redo.specs.History.{OnPage, number_of, redone, repeated, SetsNumber, AllSetNumber, AllFit}
use Rattle.sg_redo.proofs.Versions.{stays, made_is}
use Rattle.sg_pool.specs.Well.{IsWell}
use Rattle.sg_engine.specs.Numbers.{below, onward, Rises}
use Rattle.sg_engine.specs.History.{IsIn, AllWell}

pub below_in : {X : Type 0} (key : X → ℕ) (c : ℕ) (x : X) (xs : List X) → key x < c → below key c (x ∷ xs) ≡ x ∷ below key c xs
below_in key c x xs lt = grind (arith, nat_tests)

pub below_out : {X : Type 0} (key : X → ℕ) (c : ℕ) (x : X) (xs : List X) → c ≤ key x → below key c (x ∷ xs) ≡ below key c xs
below_out key c x xs le = grind (arith, nat_tests)

pub onward_out : {X : Type 0} (key : X → ℕ) (c : ℕ) (x : X) (xs : List X) → key x < c → onward key c (x ∷ xs) ≡ onward key c xs
onward_out key c x xs lt = grind (arith, nat_tests)

pub onward_in : {X : Type 0} (key : X → ℕ) (c : ℕ) (x : X) (xs : List X) → c ≤ key x → onward key c (x ∷ xs) ≡ x ∷ onward key c xs
onward_in key c x xs le = grind (arith, nat_tests)

-- where all rise from there on, none is below
pub none_below : {X : Type 0} (key : X → ℕ) (c low : ℕ) (xs : List X) → c ≤ low → Rises key low xs → below key c xs ≡ []
none_below key c low [] le rises = refl
none_below key c low (x ∷ xs) le rises = below_out key c x xs (omega arith) ∙ none_below key c (suc (key x)) xs (omega arith) rises.1

pub rises_less : {X : Type 0} (key : X → ℕ) (low high : ℕ) (xs : List X) → low ≤ high → Rises key high xs → Rises key low xs
rises_less key low high [] le rises = tt
rises_less key low high (x ∷ xs) le rises = (omega arith, rises.1)

-- after a record that fits, the page has it
pub has : (r : OnPage) (p : List ℕ) → SetsNumber r → (lsn_of p < r.lsn → (q : List ℕ) × (r.makes p ≡ Some q)) → (r.lsn ≤ lsn_of (redone r p)) × (lsn_of p ≤ lsn_of (redone r p))
has r p sets fits = ⊎_elim
    (λ lt. let q = (fits lt).0 in
    let number : lsn_of q ≡ r.lsn = subst (λ (o : Option (List ℕ)). IfSome o (λ q. lsn_of q ≡ r.lsn)) (fits lt).1 (sets.sets p) in
    let is = ap lsn_of (made_is r p q lt (fits lt).1) in
    (omega arith, omega arith))
    (λ le. let is = ap lsn_of (stays r p le) in (omega arith, omega arith))
    (cases_lt (lsn_of p) r.lsn)

-- and keeps it
pub grows : (rs : List OnPage) (p : List ℕ) → AllSetNumber rs → AllFit rs p → lsn_of p ≤ lsn_of (repeated rs p)
grows [] p sets fit = omega arith
grows (r ∷ rs) p sets fit =
    let one = has r p sets.0 fit.0 in
    let more = grows rs (redone r p) sets.1 fit.1 in omega arith

fit_below : (c : ℕ) (rs : List OnPage) (p : List ℕ) (low : ℕ) → Rises number_of low rs → AllFit rs p → AllFit (below number_of c rs) p
fit_below c [] p low rises fit = tt
fit_below c (r ∷ rs) p low rises fit = ⊎_elim
    (λ lt. subst (λ (l : List OnPage). AllFit l p) (sym (below_in number_of c r rs lt)) (fit.0, fit_below c rs (redone r p) (suc r.lsn) rises.1 fit.1))
    (λ le. subst (λ (l : List OnPage). AllFit l p) (sym (none_below number_of c r.lsn (r ∷ rs) le (omega arith, rises.1))) tt)
    (cases_lt r.lsn c)

sets_below : (c : ℕ) (rs : List OnPage) → AllSetNumber rs → AllSetNumber (below number_of c rs)
sets_below c [] sets = tt
sets_below c (r ∷ rs) sets = ⊎_elim
    (λ lt. subst (λ (l : List OnPage). AllSetNumber l) (sym (below_in number_of c r rs lt)) (sets.0, sets_below c rs sets.1))
    (λ le. subst (λ (l : List OnPage). AllSetNumber l) (sym (below_out number_of c r rs le)) (sets_below c rs sets.1))
    (cases_lt r.lsn c)

-- A version of a page: the first page with the records below a number.
abbrev pub version : ℕ → List OnPage → List ℕ → List ℕ
version c rs s = repeated (below number_of c rs) s

version_in : (c : ℕ) (r : OnPage) (rs : List OnPage) (s : List ℕ) → r.lsn < c → version c (r ∷ rs) s ≡ version c rs (redone r s)
version_in c r rs s lt = ap (λ (l : List OnPage). repeated l s) (below_in number_of c r rs lt)

version_first : (c : ℕ) (r : OnPage) (rs : List OnPage) (s : List ℕ) → Rises number_of (suc r.lsn) rs → c ≤ r.lsn → version c (r ∷ rs) s ≡ s
version_first c r rs s rises le = ap (λ (l : List OnPage). repeated l s) (none_below number_of c r.lsn (r ∷ rs) le (omega arith, rises))

-- a version has each record below its number
version_has : (c : ℕ) (r : OnPage) (rs : List OnPage) (s : List ℕ) → SetsNumber r → AllSetNumber rs → Rises number_of (suc r.lsn) rs → AllFit (r ∷ rs) s → r.lsn < c → r.lsn ≤ lsn_of (version c (r ∷ rs) s)
version_has c r rs s set sets rises fit lt =
    let is = ap lsn_of (version_in c r rs s lt) in
    let one = has r s set fit.0 in
    let more = grows (below number_of c rs) (redone r s) (sets_below c rs sets) (fit_below c rs (redone r s) (suc r.lsn) rises fit.1) in
    omega arith

-- Repeated over any of its versions, history makes the same page.
pub version_repeats : (c low : ℕ) (rs : List OnPage) (s : List ℕ) → AllSetNumber rs → Rises number_of low rs → AllFit rs s → repeated rs (version c rs s) ≡ repeated rs s
version_repeats c low [] s sets rises fit = refl
version_repeats c low (r ∷ rs) s sets rises fit = ⊎_elim
    (λ lt. ap (repeated rs) (stays r (version c (r ∷ rs) s) (version_has c r rs s sets.0 sets.1 rises.1 fit lt)) ∙ ap (repeated rs) (version_in c r rs s lt) ∙ version_repeats c (suc r.lsn) rs (redone r s) sets.1 rises.1 fit.1)
    (λ le. ap (repeated (r ∷ rs)) (version_first c r rs s rises.1 le))
    (cases_lt r.lsn c)

-- and each record above its number fits it
pub version_fits : (c low : ℕ) (rs : List OnPage) (s : List ℕ) → AllSetNumber rs → Rises number_of low rs → AllFit rs s → AllFit rs (version c rs s)
version_fits c low [] s sets rises fit = tt
version_fits c low (r ∷ rs) s sets rises fit = ⊎_elim
    (λ lt.
    let in_it = version_has c r rs s sets.0 sets.1 rises.1 fit lt in
    let same = stays r (version c (r ∷ rs) s) in_it ∙ version_in c r rs s lt in
    (λ above. absurd (omega arith), subst (λ (p : List ℕ). AllFit rs p) (sym same) (version_fits c (suc r.lsn) rs (redone r s) sets.1 rises.1 fit.1)))
    (λ le. subst (λ (p : List ℕ). AllFit (r ∷ rs) p) (sym (version_first c r rs s rises.1 le)) fit)
    (cases_lt r.lsn c)

pub none_in : (e low : ℕ) (rs : List OnPage) (p : List ℕ) → e ≤ low → Rises number_of low rs → IsIn e rs p
none_in e low [] p le rises = tt
none_in e low (r ∷ rs) p le rises = (λ lt. absurd (omega arith), none_in e (suc r.lsn) rs p (omega arith) rises.1)

pub more_in : (e : ℕ) (rs : List OnPage) (p q : List ℕ) → lsn_of p ≤ lsn_of q → IsIn e rs p → IsIn e rs q
more_in e [] p q le in_it = tt
more_in e (r ∷ rs) p q le in_it = (λ lt. let was = in_it.0 lt in omega arith, more_in e rs p q le in_it.1)

-- each record below a number up to the version's is in it
pub version_is_in : (e c low : ℕ) (rs : List OnPage) (s : List ℕ) → e ≤ c → AllSetNumber rs → Rises number_of low rs → AllFit rs s → IsIn e rs (version c rs s)
version_is_in e c low [] s le sets rises fit = tt
version_is_in e c low (r ∷ rs) s le sets rises fit = ⊎_elim
    (λ lt. (λ low. version_has c r rs s sets.0 sets.1 rises.1 fit lt, subst (λ (p : List ℕ). IsIn e rs p) (sym (version_in c r rs s lt)) (version_is_in e c (suc r.lsn) rs (redone r s) le sets.1 rises.1 fit.1)))
    (λ high. none_in e r.lsn (r ∷ rs) (version c (r ∷ rs) s) (omega arith) (omega arith, rises.1))
    (cases_lt r.lsn c)

-- from a number on: the records below it make nothing of a page that has them
pub from_there : (e : ℕ) (rs : List OnPage) (p : List ℕ) → AllSetNumber rs → AllFit rs p → IsIn e rs p → repeated (onward number_of e rs) p ≡ repeated rs p
from_there e [] p sets fit in_it = refl
from_there e (r ∷ rs) p sets fit in_it = ⊎_elim
    (λ lt. let same = stays r p (in_it.0 lt) in
    ap (λ (l : List OnPage). repeated l p) (onward_out number_of e r rs lt)
    ∙ from_there e rs p sets.1 (subst (λ (q : List ℕ). AllFit rs q) same fit.1) in_it.1 ∙ ap (repeated rs) (sym same))
    (λ le. ap (λ (l : List OnPage). repeated l p) (onward_in number_of e r rs le)
    ∙ from_there e rs (redone r p) sets.1 fit.1 (more_in e rs p (redone r p) (has r p sets.0 fit.0).1 in_it.1))
    (cases_lt r.lsn e)

-- what is a page at each of its records is one at each version
pub well_first : (rs : List OnPage) (p : List ℕ) → AllWell rs p → IsWell p
well_first [] p well = well
well_first (r ∷ rs) p well = well.0

pub well_version : (c low : ℕ) (rs : List OnPage) (s : List ℕ) → Rises number_of low rs → AllWell rs s → IsWell (version c rs s)
well_version c low [] s rises well = well
well_version c low (r ∷ rs) s rises well = ⊎_elim
    (λ lt. subst IsWell (sym (version_in c r rs s lt)) (well_version c (suc r.lsn) rs (redone r s) rises.1 well.1))
    (λ le. subst IsWell (sym (version_first c r rs s rises.1 le)) well.0)
    (cases_lt r.lsn c)

-- and so is what the records make of a version
pub version_well : (c low : ℕ) (rs : List OnPage) (s : List ℕ) → AllSetNumber rs → Rises number_of low rs → AllFit rs s → AllWell rs s → AllWell rs (version c rs s)
version_well c low [] s sets rises fit well = well
version_well c low (r ∷ rs) s sets rises fit well = ⊎_elim
    (λ lt.
    let in_it = version_has c r rs s sets.0 sets.1 rises.1 fit lt in
    let same = stays r (version c (r ∷ rs) s) in_it ∙ version_in c r rs s lt in
    (well_version c low (r ∷ rs) s rises well, subst (λ (p : List ℕ). AllWell rs p) (sym same) (version_well c (suc r.lsn) rs (redone r s) sets.1 rises.1 fit.1 well.1)))
    (λ le. subst (λ (p : List ℕ). AllWell (r ∷ rs) p) (sym (version_first c r rs s rises.1 le)) well)
    (cases_lt r.lsn c)

pub well_front : (xs ys : List OnPage) (p : List ℕ) → AllWell (xs ++ ys) p → AllWell xs p
well_front [] ys p well = well_first ys p well
well_front (x ∷ xs) ys p well = (well.0, well_front xs ys (redone x p) well.1)

pub well_append : (xs ys : List OnPage) (p : List ℕ) → AllWell xs p → AllWell ys (repeated xs p) → AllWell (xs ++ ys) p
well_append [] ys p one two = two
well_append (x ∷ xs) ys p one two = (one.0, well_append xs ys (redone x p) one.1 two)
