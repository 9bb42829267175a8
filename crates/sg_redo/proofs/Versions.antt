-- History repeated over a page, and over a version of it.
use Rattle.std.proofs.Common.{◌≡◌, ⊎_elim, ◌<◌, ◌≤◌, ℕ, suc, Bool, if◌then◌else◌, true, false, nat_lt, List, [], ◌∷◌, Option, Some, None, IfSome, refl, sym, ◌∙◌, ap, subst, arith}
use Rattle.std.proofs.lemmas.Bool.{cases_lt}
use Rattle.std.proofs.lemmas.Bool.Decides.{nat_tests}
use Rattle.sg_base.specs.Page.{lsn_of}
use Rattle.sg_redo.specs.History.{OnPage, below, Rises, redone, repeated, SetsNumber, AllSetNumber, AllFit}

below_in : (c : ℕ) (r : OnPage) (rs : List OnPage) → r.lsn < c → below c (r ∷ rs) ≡ r ∷ below c rs
below_in c r rs lt = let t : nat_lt r.lsn c ≡ true = grind (arith, nat_tests, lt) in rw t refl

below_out : (c : ℕ) (r : OnPage) (rs : List OnPage) → c ≤ r.lsn → below c (r ∷ rs) ≡ below c rs
below_out c r rs le = let t : nat_lt r.lsn c ≡ false = grind (arith, nat_tests, le) in rw t refl

-- where all rise from there on, none is below
none_below : (c low : ℕ) (rs : List OnPage) → c ≤ low → Rises low rs → below c rs ≡ []
none_below c low [] le rises = refl
none_below c low (r ∷ rs) le rises = below_out c r rs (omega arith) ∙ none_below c (suc r.lsn) rs (omega arith) rises.1

-- a page that has the record stays
pub stays : (r : OnPage) (p : List ℕ) → r.lsn ≤ lsn_of p → redone r p ≡ p
unfolding redone
stays r p le = let t : nat_lt (lsn_of p) r.lsn ≡ false = grind (arith, nat_tests, le) in rw t refl

-- and so does one that the operation doesn't fit
pub refused : (r : OnPage) (p : List ℕ) → r.makes p ≡ None → redone r p ≡ p
unfolding redone
refused r p none = rw none (either (nat_lt (lsn_of p) r.lsn))
  where
    either : (b : Bool) → (if b then p else p) ≡ p
    either true = refl
    either false = refl

pub made_is : (r : OnPage) (p q : List ℕ) → lsn_of p < r.lsn → r.makes p ≡ Some q → redone r p ≡ q
unfolding redone
made_is r p q lt is = let t : nat_lt (lsn_of p) r.lsn ≡ true = grind (arith, nat_tests, lt) in rw (t, is) refl

-- after a record that fits, the page has it
has : (r : OnPage) (p : List ℕ) → SetsNumber r → (lsn_of p < r.lsn → (q : List ℕ) × (r.makes p ≡ Some q)) → (r.lsn ≤ lsn_of (redone r p)) × (lsn_of p ≤ lsn_of (redone r p))
has r p sets fits = ⊎_elim
    (λ lt. let q = (fits lt).0 in
    let number : lsn_of q ≡ r.lsn = subst (λ (o : Option (List ℕ)). IfSome o (λ q. lsn_of q ≡ r.lsn)) (fits lt).1 (sets.sets p) in
    let is = ap lsn_of (made_is r p q lt (fits lt).1) in
    (omega arith, omega arith))
    (λ le. let is = ap lsn_of (stays r p le) in (omega arith, omega arith))
    (cases_lt (lsn_of p) r.lsn)

-- and keeps it
grows : (rs : List OnPage) (p : List ℕ) → AllSetNumber rs → AllFit rs p → lsn_of p ≤ lsn_of (repeated rs p)
grows [] p sets fit = omega arith
grows (r ∷ rs) p sets fit =
    let one = has r p sets.0 fit.0 in
    let more = grows rs (redone r p) sets.1 fit.1 in
    omega arith

fit_below : (c low : ℕ) (rs : List OnPage) (p : List ℕ) → Rises low rs → AllFit rs p → AllFit (below c rs) p
fit_below c low [] p rises fit = tt
fit_below c low (r ∷ rs) p rises fit = ⊎_elim
    (λ lt. subst (λ (l : List OnPage). AllFit l p) (sym (below_in c r rs lt)) (fit.0, fit_below c (suc r.lsn) rs (redone r p) rises.1 fit.1))
    (λ le. subst (λ (l : List OnPage). AllFit l p) (sym (none_below c r.lsn (r ∷ rs) le (omega arith, rises.1))) tt)
    (cases_lt r.lsn c)

sets_below : (c : ℕ) (rs : List OnPage) → AllSetNumber rs → AllSetNumber (below c rs)
sets_below c [] sets = tt
sets_below c (r ∷ rs) sets = ⊎_elim
    (λ lt. subst (λ (l : List OnPage). AllSetNumber l) (sym (below_in c r rs lt)) (sets.0, sets_below c rs sets.1))
    (λ le. subst (λ (l : List OnPage). AllSetNumber l) (sym (below_out c r rs le)) (sets_below c rs sets.1))
    (cases_lt r.lsn c)

-- a version: the first page with the records below a number
abbrev version : ℕ → List OnPage → List ℕ → List ℕ
version c rs first = repeated (below c rs) first

version_in : (c : ℕ) (r : OnPage) (rs : List OnPage) (s : List ℕ) → r.lsn < c → version c (r ∷ rs) s ≡ version c rs (redone r s)
version_in c r rs s lt = ap (λ (l : List OnPage). repeated l s) (below_in c r rs lt)

version_first : (c : ℕ) (r : OnPage) (rs : List OnPage) (s : List ℕ) → Rises (suc r.lsn) rs → c ≤ r.lsn → version c (r ∷ rs) s ≡ s
version_first c r rs s rises le = ap (λ (l : List OnPage). repeated l s) (none_below c r.lsn (r ∷ rs) le (omega arith, rises))

-- a version has each record below its number
version_has : (c : ℕ) (r : OnPage) (rs : List OnPage) (s : List ℕ) → SetsNumber r → AllSetNumber rs → Rises (suc r.lsn) rs → AllFit (r ∷ rs) s → r.lsn < c → r.lsn ≤ lsn_of (version c (r ∷ rs) s)
version_has c r rs s set sets rises fit lt =
    let is = ap lsn_of (version_in c r rs s lt) in
    let one = has r s set fit.0 in
    let more = grows (below c rs) (redone r s) (sets_below c rs sets) (fit_below c (suc r.lsn) rs (redone r s) rises fit.1) in
    omega arith

-- ANY VERSION REPEATS to what all records make
pub version_repeats : (c low : ℕ) (rs : List OnPage) (s : List ℕ) → AllSetNumber rs → Rises low rs → AllFit rs s → repeated rs (repeated (below c rs) s) ≡ repeated rs s
version_repeats c low [] s sets rises fit = refl
version_repeats c low (r ∷ rs) s sets rises fit = ⊎_elim
    (λ lt. ap (repeated rs) (stays r (version c (r ∷ rs) s) (version_has c r rs s sets.0 sets.1 rises.1 fit lt)) ∙ (ap (repeated rs) (version_in c r rs s lt) ∙ version_repeats c (suc r.lsn) rs (redone r s) sets.1 rises.1 fit.1))
    (λ le. ap (repeated (r ∷ rs)) (version_first c r rs s rises.1 le))
    (cases_lt r.lsn c)
