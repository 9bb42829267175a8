-- WHAT A TAKE-OFF HAS APPENDED, with looks behind it.
use Rattle.std.proofs.Common.{◌≡◌, ℕ, Bool, true, false, [], ◌∷◌, ◌++◌, sym, ap, subst, ◌∙◌, refl}
use Rattle.std.proofs.Common.{◌⊎◌, inl, inr, Result, Ok, Err}
use Rattle.std.specs.Prelude.{OnOk}
use Rattle.sg_ops.specs.Table.{Table}
use Rattle.sg_recovery.specs.Formed.{IsLog, IsUnfinished}
use Rattle.sg_recovery.specs.Log.{tally}
use Rattle.sg_action.specs.States.{State}
use Rattle.sg_actions.specs.Engine.{EngineSeen, EngineView, Moments, StandsNow, led}
use Rattle.sg_actions.specs.Growing.{grows_same, grows_then, moments_then, moments_same, moments_stop}
use Rattle.sg_actions.specs.Images.{Recovering}
use Rattle.sg_actions.specs.Steps.{Step, Steps, stepped}
use Rattle.sg_actions.specs.WentOff.{TakesLast, IsOver, AreOffSteps, WentOff}
use Rattle.sg_unread.specs.Unread.{LooksOn}
use Rattle.sg_regained.specs.Regained.{TookOff, HasStopped}

-- nothing was taken off
pub took_none : (recovers : Recovering) (t : Table) (txn : ℕ) (from : State) (e : EngineSeen) → e.Told → IsLog e.base e.steps → StandsNow recovers t (led from e)
    → TookOff recovers t txn (led from e) (led from e)
took_none recovers t txn from e told log images = record {
  went = record {
    made = [];
    are = tt;
    formed = log;
    moments = moments_same (led from e) images;
    gone = λ z. record { told = told; base = refl; first = refl; steps = refl; durable = grows_same e.durable };
  };
  owed = λ all. refl;
}

-- an action without its end was
pub took_some : {recovers : Recovering} {t : Table} {txn : ℕ} {a b : EngineView} → IsUnfinished a.steps txn → WentOff recovers t txn a b → TookOff recovers t txn a b
took_some {recovers} {t} {txn} {a} {b} un w = record { went = w; owed = λ all. absurd (un (all txn)) }

-- looks take nothing off
pub took_then : {recovers : Table → Recovering} {t : Table} {txn : ℕ} (from : State) (a b c : EngineSeen) {m n : Table → State → Type 0}
    → TookOff (recovers t) t txn (led from a) (led from b) → LooksOn recovers t b c m n → m t from → TookOff (recovers t) t txn (led from a) (led from c)
took_then {recovers} {t} {txn} from a b c {m} {n} w l stands = by_failed b.failed refl
  where
    by_failed : (f : Bool) → b.failed ≡ f → TookOff (recovers t) t txn (led from a) (led from c)
    by_failed true e =
        let s = l.stops e in
        record {
          went = record {
            made = w.went.made;
            are = w.went.are;
            formed = w.went.formed;
            moments = moments_stop (led from a) (led from b) (led from c) s.1 w.went.moments;
            gone = λ z. absurd (let no : true ≡ false = sym s.0 ∙ z in cc);
          };
          owed = w.owed;
        }
    by_failed false e =
        let h = w.went.gone e in
        let r = l.reads from stands h.told in
        record {
          went = record {
            made = w.went.made;
            are = w.went.are;
            formed = w.went.formed;
            moments = moments_then (led from a) (led from b) (led from c) refl h.durable (grows_same (w.went.made ++ a.steps)) w.went.moments
                (subst (λ (rs : Steps). Moments (recovers t) t (led from b) (led from c) rs) h.steps r.moments);
            gone = λ z. let y = r.stays z in record {
              told = r.told z;
              base = l.base ∙ h.base;
              first = refl;
              steps = y.steps ∙ h.steps;
              durable = grows_then h.durable y.durable;
            };
          };
          owed = w.owed;
        }

-- nor do looks behind which it is stopped
pub took_stopped : {recovers : Table → Recovering} {t : Table} {txn : ℕ} (from : State) (a b c : EngineSeen) {m : Table → State → Type 0}
    → TookOff (recovers t) t txn (led from a) (led from b) → HasStopped recovers t b c m → m t from → TookOff (recovers t) t txn (led from a) (led from c)
took_stopped {recovers} {t} {txn} from a b c {m} w l stands = record {
  went = record {
    made = w.went.made;
    are = w.went.are;
    formed = w.went.formed;
    moments = by_failed b.failed refl;
    gone = λ z. absurd (let no : true ≡ false = sym l.failed ∙ z in cc);
  };
  owed = w.owed;
}
  where
    by_failed : (f : Bool) → b.failed ≡ f → Moments (recovers t) t (led from a) (led from c) (w.went.made ++ a.steps)
    by_failed true e = moments_stop (led from a) (led from b) (led from c) (l.stops e) w.went.moments
    by_failed false e =
        let h = w.went.gone e in
        moments_then (led from a) (led from b) (led from c) refl h.durable (grows_same (w.went.made ++ a.steps)) w.went.moments
        (subst (λ (rs : Steps). Moments (recovers t) t (led from b) (led from c) rs) h.steps (l.reads from stands h.told))

-- WHICH TRANSACTIONS GO ON doesn't change
one_lives : (txn : ℕ) (log : Steps) (lsn : ℕ) (x : Step) → TakesLast log txn x ⊎ IsOver log txn x → (tally (stepped log lsn x)).live ≡ (tally log).live
one_lives txn log lsn x (inl h) = ap (λ (y : Step). (tally (stepped log lsn y)).live) h.is
one_lives txn log lsn x (inr h) = ap (λ (y : Step). (tally (stepped log lsn y)).live) h.is

pub offs_live : (txn : ℕ) (made log : Steps) → AreOffSteps txn made log → (tally (made ++ log)).live ≡ (tally log).live
offs_live txn [] log h = refl
offs_live txn (r ∷ made) log h = one_lives txn (made ++ log) r.lsn r.is h.0 ∙ offs_live txn made log h.1

-- what holds where it ends well, of two clauses
pub both_ok : {T E : Type 0} {P Q R : Type 0} (r : Result T E) → OnOk r P → OnOk r Q → (P → Q → R) → OnOk r R
both_ok (Ok x) p q f = f p q
both_ok (Err e) p q f = tt

-- and which notes stand
one_notes : (txn : ℕ) (log : Steps) (lsn : ℕ) (x : Step) → TakesLast log txn x ⊎ IsOver log txn x → (tally (stepped log lsn x)).notes ≡ (tally log).notes
one_notes txn log lsn x (inl h) = ap (λ (y : Step). (tally (stepped log lsn y)).notes) h.is
one_notes txn log lsn x (inr h) = ap (λ (y : Step). (tally (stepped log lsn y)).notes) h.is

pub offs_notes : (txn : ℕ) (made log : Steps) → AreOffSteps txn made log → (tally (made ++ log)).notes ≡ (tally log).notes
offs_notes txn [] log h = refl
offs_notes txn (r ∷ made) log h = one_notes txn (made ++ log) r.lsn r.is h.0 ∙ offs_notes txn made log h.1
