-- Pages and bands of a store's size, and the steps that change them.
use Rattle.std.proofs.Common.{◌≡◌, ◌≢◌, ⊎_elim, ◌<◌, ◌==◌, ℕ, Bool, true, false, nat_lt, List, [], ◌∷◌, Option, Some, None, is_some, refl, ap, ◌∙◌, subst, arith}
use Rattle.std.specs.Prelude.{if◌then◌else◌}
use Rattle.std.proofs.lemmas.Bool.{cases_eq}
use Rattle.std.proofs.lemmas.Bool.Decides.{nat_tests}
use Rattle.sg_base.specs.Op.{Op}
use Rattle.sg_base.specs.Op.Op.{Format, Put, Remove, Set, Links, Item, ItemBack}
use Rattle.sg_base.specs.Overwritten.{overwritten}
use Rattle.sg_base.specs.Sheet.{Sheet}
use Rattle.sg_gate.specs.declared.superblock.Super.{Super}
use Rattle.sg_log.specs.Frames.{Numbered}
use Rattle.sg_ops.specs.Table.{Table, range_at, rendered}
use Rattle.sg_record.specs.Changes.{Change as Changing}
use Rattle.sg_record.specs.Changes.Change.{Page as PageChanged, SegWrite, SegOp}
use Rattle.sg_record.specs.Records.{Says}
use Rattle.sg_record.specs.Records.Says.{Begin, Changed, TopEnd, PhysComp, TopVoid, CompEnd, Save, Commit, End, Checkpoint}
use Rattle.sg_redo.specs.Places.{op_said, changed_by}
use Rattle.sg_recovery.specs.Log.Record.{Begin as StepBegin, Change as StepChange, TopEnd as StepTopEnd, PhysComp as StepPhysComp, TopVoid as StepTopVoid, CompEnd as StepCompEnd, Save as StepSave, Commit as StepCommit, End as StepEnd}
use Rattle.sg_action.specs.States.{State, apply, step_leaf, or_same, with_one}
use Rattle.sg_engine.specs.Effects.{IsBy, effect_of}
use Rattle.sg_engine.specs.Engine.{Origin, geometry, entries}
use Rattle.sg_engine.specs.History.{AllThere, IsThere}
use Rattle.sg_actions.specs.Changes.{meaning}
use Rattle.sg_actions.specs.Steps.{Step, Steps, step_of, step_by, with_step, redo, repeated}
use Rattle.sg_phys_laws.specs.Logged.{IsFor, IsPageFor}
use Rattle.sg_phys_laws.specs.Recovers.{cut_at, extent_by, no_band, IsIn, StepIn, AllIn}
use Rattle.sg_phys_laws.specs.States.{steps_on, steps_of}

abbrev state : Super → (ℕ → Option Sheet) → (ℕ → List ℕ) → State
state s f bs = record { size = extent_by s; pages = f; bands = bs }

same_state : (s : Super) (f g : ℕ → Option Sheet) (bs cs : ℕ → List ℕ) → f ≡ g → bs ≡ cs → state s f bs ≡ state s g cs
same_state s f g bs cs a b = ap (λ (h : ℕ → Option Sheet). state s h bs) a ∙ ap (λ (ds : ℕ → List ℕ). state s g ds) b

pub below_test : (m n : ℕ) → m < n → nat_lt m n ≡ true
below_test m n lt = grind (arith, nat_tests, lt)

same_test : (m n : ℕ) → m ≡ n → (m == n) ≡ true
same_test m n e = grind (arith, nat_tests, e)

other_test : (m n : ℕ) → m ≢ n → (m == n) ≡ false
other_test m n e = grind (arith, nat_tests, e)

-- a page or a band of the store is as it is,
pub page_kept : (s : Super) (x : State) (n : ℕ) → n < s.pages → (cut_at s x).pages n ≡ x.pages n
page_kept s x n lt = let b = below_test n s.pages lt in rw b refl

pub band_kept : (s : Super) (x : State) (b : ℕ) → b < s.bands → (cut_at s x).bands b ≡ x.bands b
band_kept s x n lt = let b = below_test n s.bands lt in rw b refl

-- and one that says something is one of the store
pub page_in : (s : Super) (x : State) (n : ℕ) (sheet : Sheet) → (cut_at s x).pages n ≡ Some sheet → x.pages n ≡ Some sheet
page_in s x n sheet e = by (nat_lt n s.pages) e
  where
    by : (b : Bool) → (if b then x.pages n else None) ≡ Some sheet → x.pages n ≡ Some sheet
    by true h = h
    by false h = absurd cc

-- the same where the parts are the same below
cut_pages : (s : Super) (f g : ℕ → Option Sheet) → ((n : ℕ) → n < s.pages → f n ≡ g n) → (n : ℕ) → (if nat_lt n s.pages then f n else None) ≡ (if nat_lt n s.pages then g n else None)
cut_pages s f g same n = by (nat_lt n s.pages) refl
  where
    by : (b : Bool) → nat_lt n s.pages ≡ b → (if b then f n else None) ≡ (if b then g n else None)
    by true is = same n (grind (arith, nat_tests, is))
    by false is = refl

cut_bands : (s : Super) (f g : ℕ → List ℕ) → ((n : ℕ) → n < s.bands → f n ≡ g n) → (n : ℕ) → (if nat_lt n s.bands then f n else no_band) ≡ (if nat_lt n s.bands then g n else no_band)
cut_bands s f g same n = by (nat_lt n s.bands) refl
  where
    by : (b : Bool) → nat_lt n s.bands ≡ b → (if b then f n else no_band) ≡ (if b then g n else no_band)
    by true is = same n (grind (arith, nat_tests, is))
    by false is = refl

pub cut_same : (s : Super) (x y : State) → ((n : ℕ) → n < s.pages → x.pages n ≡ y.pages n) → ((b : ℕ) → b < s.bands → x.bands b ≡ y.bands b) → cut_at s x ≡ cut_at s y
cut_same s x y pages bands = same_state s (cut_at s x).pages (cut_at s y).pages (cut_at s x).bands (cut_at s y).bands (λ k n. cut_pages s x.pages y.pages pages n k) (λ k b. cut_bands s x.bands y.bands bands b k)

-- A CHANGE of a page or a band of the store
change_cut : (s : Super) (t : Table) (x : State) (c : Changing) → IsIn s c → apply t (cut_at s x) (meaning c) ≡ cut_at s (apply t x (meaning c))
change_cut s t x (PageChanged c) lt = same_state s (apply t (cut_at s x) (meaning (PageChanged c))).pages (cut_at s (apply t x (meaning (PageChanged c)))).pages (cut_at s x).bands (cut_at s x).bands (λ k n. at n k) refl
  where
    made_by : Option Sheet → Option Sheet
    made_by leaf = or_same (step_leaf t (op_said c) leaf) leaf

    at : (n : ℕ) → with_one (cut_at s x).pages c.page (made_by ((cut_at s x).pages c.page)) n ≡ (if nat_lt n s.pages then with_one x.pages c.page (made_by (x.pages c.page)) n else None)
    at n = ⊎_elim
        (λ same. let this = same_test n c.page same in let low = below_test n s.pages (omega (arith, same, lt)) in
        rw this (rw low (ap made_by (page_kept s x c.page lt))))
        (λ other. let this = other_test n c.page other in rw this refl)
        (cases_eq n c.page)
change_cut s t x (SegWrite c) lt = same_state s (cut_at s x).pages (cut_at s x).pages (apply t (cut_at s x) (meaning (SegWrite c))).bands (cut_at s (apply t x (meaning (SegWrite c)))).bands refl (λ k n. at n k)
  where
    at : (n : ℕ) → with_one (cut_at s x).bands c.band (overwritten ((cut_at s x).bands c.band) c.at c.after) n ≡ (if nat_lt n s.bands then with_one x.bands c.band (overwritten (x.bands c.band) c.at c.after) n else no_band)
    at n = ⊎_elim
        (λ same. let this = same_test n c.band same in let low = below_test n s.bands (omega (arith, same, lt)) in
        rw this (rw low (ap (λ (l : List ℕ). overwritten l c.at c.after) (band_kept s x c.band lt))))
        (λ other. let this = other_test n c.band other in rw this refl)
        (cases_eq n c.band)
change_cut s t x (SegOp c) lt = same_state s (cut_at s x).pages (cut_at s x).pages (apply t (cut_at s x) (meaning (SegOp c))).bands (cut_at s (apply t x (meaning (SegOp c)))).bands refl (λ k n. at n k)
  where
    bytes : List ℕ
    bytes = rendered (range_at t c.code) c.arg c.position c.count

    at : (n : ℕ) → with_one (cut_at s x).bands c.band (overwritten ((cut_at s x).bands c.band) c.at bytes) n ≡ (if nat_lt n s.bands then with_one x.bands c.band (overwritten (x.bands c.band) c.at bytes) n else no_band)
    at n = ⊎_elim
        (λ same. let this = same_test n c.band same in let low = below_test n s.bands (omega (arith, same, lt)) in
        rw this (rw low (ap (λ (l : List ℕ). overwritten l c.at bytes) (band_kept s x c.band lt))))
        (λ other. let this = other_test n c.band other in rw this refl)
        (cases_eq n c.band)

redo_cut : (s : Super) (t : Table) (x : State) (k : Step) → StepIn s k → redo t k (cut_at s x) ≡ cut_at s (redo t k x)
redo_cut s t x (StepBegin u p) lt = refl
redo_cut s t x (StepChange u p c) lt = change_cut s t x c lt
redo_cut s t x (StepTopEnd u p w n) lt = refl
redo_cut s t x (StepPhysComp u p w c) lt = change_cut s t x c lt
redo_cut s t x (StepTopVoid u p w) lt = refl
redo_cut s t x (StepCompEnd u p w) lt = refl
redo_cut s t x (StepSave u p m) lt = refl
redo_cut s t x (StepCommit u p) lt = refl
redo_cut s t x (StepEnd u p) lt = refl

-- HISTORY REPEATED in the store
pub repeated_cut : (s : Super) (t : Table) (x : State) (rs : Steps) → AllIn s rs → repeated t (cut_at s x) rs ≡ cut_at s (repeated t x rs)
repeated_cut s t x [] lt = refl
repeated_cut s t x (r ∷ rs) lt = ap (redo t r.is) (repeated_cut s t x rs lt.1) ∙ redo_cut s t (repeated t x rs) r.is lt.0

-- THE RECORDS of a history are of the store
change_in : (o : Origin) (t : Table) (lsn : ℕ) (c : Changing) → IsThere (geometry o.super) (effect_of t lsn (Some c)) → IsIn o.super c
change_in o t lsn (PageChanged c) h = h
change_in o t lsn (SegWrite c) h = h
change_in o t lsn (SegOp c) h = h

says_in : (o : Origin) (t : Table) (lsn u p : ℕ) (says : Says) (rs : Steps) → IsThere (geometry o.super) (effect_of t lsn (changed_by says)) → AllIn o.super rs → AllIn o.super (with_step rs lsn (step_by u p says))
says_in o t lsn u p Begin rs h more = (tt, more)
says_in o t lsn u p (Changed c) rs h more = (change_in o t lsn c h, more)
says_in o t lsn u p (TopEnd w n) rs h more = (tt, more)
says_in o t lsn u p (PhysComp w c) rs h more = (change_in o t lsn c h, more)
says_in o t lsn u p (TopVoid w) rs h more = (tt, more)
says_in o t lsn u p (CompEnd w) rs h more = (tt, more)
says_in o t lsn u p (Save m) rs h more = (tt, more)
says_in o t lsn u p Commit rs h more = (tt, more)
says_in o t lsn u p End rs h more = (tt, more)
says_in o t lsn u p (Checkpoint e l) rs h more = more

on_in : (o : Origin) (t : Table) (rs : Steps) (ns : List Numbered) → IsBy t o → AllThere (geometry o.super) (entries o ns) → AllIn o.super rs → AllIn o.super (steps_on rs ns)
on_in o t rs [] by there more = more
on_in o t rs (n ∷ ns) by there more =
    on_in o t (with_step rs n.lsn (step_of n.is)) ns by there.1
    (says_in o t n.lsn n.is.transaction n.is.previous n.is.says rs (subst (IsThere (geometry o.super)) (by.says n.lsn n.is) there.0) more)

pub all_in : (o : Origin) (t : Table) (ns : List Numbered) → IsBy t o → AllThere (geometry o.super) (entries o ns) → AllIn o.super (steps_of ns)
all_in o t ns by there = on_in o t [] ns by there tt

-- A format that fits a page of nothing fits each
fits_each : (t : Table) (op : Op) (leaf : Option Sheet) → is_some (step_leaf t op None) ≡ true → is_some (step_leaf t op leaf) ≡ true
fits_each t (Format kind) None h = refl
fits_each t (Format kind) (Some sheet) h = refl
fits_each t (Put slot cell) leaf h = absurd cc
fits_each t (Remove slot) leaf h = absurd cc
fits_each t (Set slot cell) leaf h = absurd cc
fits_each t (Links ls) leaf h = absurd cc
fits_each t (Item slot code arg) leaf h = absurd cc
fits_each t (ItemBack slot code arg) leaf h = absurd cc

page_for : (own given : Table) (s : Super) (x : State) (p : ℕ) (op : Op) → IsPageFor own given (cut_at s x) p op → IsPageFor own given x p op
page_for own given s x p op f = record { fits = by (nat_lt p s.pages) f.fits; means = f.means }
  where
    by : (b : Bool) → is_some (step_leaf own op (if b then x.pages p else None)) ≡ true → is_some (step_leaf own op (x.pages p)) ≡ true
    by true h = h
    by false h = fits_each own op (x.pages p) h

-- so what a change asks of the store's pages it asks of all
pub for_cut : (own given : Table) (s : Super) (x : State) (c : Option Changing) → IsFor own given (cut_at s x) c → IsFor own given x c
for_cut own given s x None f = tt
for_cut own given s x (Some (PageChanged c)) f = page_for own given s x c.page (op_said c) f
for_cut own given s x (Some (SegWrite c)) f = tt
for_cut own given s x (Some (SegOp c)) f = f
