-- A WAY BACK over an action, and looks on it.
use mathlib.Core.Logic.{∥∥₁_elim}
use Rattle.std.proofs.Common.{◌≡◌, false, ◌⊎◌, inl, inr, ℕ, ◌<◌, ◌≤◌, List, [], ◌∷◌, Option, Some, None, IsSome, Result, Ok, Err, sym, ap, subst, ◌∙◌, refl, arith}
use Rattle.std.specs.Prelude.{IfSome}
use Rattle.std.proofs.Props.{props}
use Rattle.sg_ops.specs.Table.{Table, fresh_table}
use Rattle.sg_record.specs.Changes.{Change as Changing}
use Rattle.sg_recovery.specs.Chains.{last_of, next_off}
use Rattle.sg_recovery.specs.Formed.{IsUnfinished, IsLog}
use Rattle.sg_recovery.specs.Log.{Open}
use Rattle.sg_recovery.specs.Laws.{Each}
use Rattle.sg_recovery.specs.TakeOff.{IsBefore}
use Rattle.sg_space.specs.declared.space.SpaceFault.{SpaceFault}
use Rattle.sg_action.specs.States.{State}
use Rattle.sg_actions.specs.Engine.{EngineSeen, StandsNow, led, now_of}
use Rattle.sg_actions.specs.Images.{Recovering}
use Rattle.sg_actions.specs.Steps.{Steps, step_at, repeated}
use Rattle.sg_actions.proofs.Calling.{LooksBy}
use Rattle.sg_unread.specs.Looks.{looks_same, looks_then}
use Rattle.sg_unread.proofs.Looking.{looks_once}
use Rattle.sg_found.specs.Found.{back_by, IsBorderAt, IsBack, IsFrom, IsOpenAt}
use Rattle.sg_found.specs.Looks.{HasLooked}
use Rattle.sg_found.proofs.Newest.{open_at, step_above, last_inside}
use Rattle.sg_found.specs.declared.looking.Back.TheVariants.{Changed, TakenOff, Other}

-- THE WAY BACK. Nothing is left where it is at the record before the action, which isn't in the log or is no change
under : (base start before at : ℕ) → base ≤ start → start ≤ at → at ≡ before → (at ≡ 0 → ⊥) → IsBefore base before → ⊥
under base start before at low here e some (inl z) = some (e ∙ z)
under base start before at low here e some (inr z) = absurd (omega (arith, low, here, e, z))

-- the log has a record where it goes on
pub back_there : {rs : Steps} {base before at start : ℕ} (ds : List (Open Changing)) → IsBack rs base before at ds → base ≤ start → start ≤ at → (at ≡ 0 → ⊥) → IsSome (step_at rs at)
back_there {rs} {base} {before} {at} {start} [] h low here some = by_bottom h.bottom
  where
    by_bottom : IsBefore base before ⊎ IsBorderAt rs before → IsSome (step_at rs at)
    by_bottom (inl z) = absurd (under base start before at low here h.at_is some z)
    by_bottom (inr z) = subst (λ (n : ℕ). IsSome (step_at rs n)) (sym h.at_is) z.there
back_there {rs} {base} {before} {at} {start} (d ∷ ds) h low here some = subst IsSome (sym (ap (step_at rs) h.at_is ∙ h.linked.0)) refl

-- what is left of these stands behind what all of them stand behind
abbrev pub AreOf : (all left : List (Open Changing)) → Type 0
AreOf all left = (low : ℕ) → Each (λ d. low ≤ d.lsn) all → Each (λ d. low ≤ d.lsn) left

-- a change leads on
pub back_on : {rs : Steps} {base before at start prev : ℕ} (ds : List (Open Changing)) → IsBack rs base before at ds → base ≤ start → start ≤ at → (at ≡ 0 → ⊥) → Changed prev ≡ back_by (step_at rs at) → (es : List (Open Changing)) × IsBack rs base before prev es × AreOf ds es
back_on {rs} {base} {before} {at} {start} {prev} [] h low here some e = by_bottom h.bottom
  where
    by_bottom : IsBefore base before ⊎ IsBorderAt rs before → (es : List (Open Changing)) × IsBack rs base before prev es × AreOf [] es
    by_bottom (inl z) = absurd (under base start before at low here h.at_is some z)
    by_bottom (inr z) = absurd (let no : Changed prev ≡ Other = e ∙ (ap (λ (n : ℕ). back_by (step_at rs n)) h.at_is ∙ z.other) in cc)
back_on {rs} {base} {before} {at} {start} {prev} (d ∷ ds) h low here some e =
    let is : Changed prev ≡ Changed (next_off before ds) = e ∙ ap back_by (ap (step_at rs) h.at_is ∙ h.linked.0) in
    let same : prev ≡ next_off before ds = cc in
    (ds, record { linked = h.linked.3; at_is = same; bottom = h.bottom }, λ lo w. w.1)

-- before what all open changes stand behind nothing is left
pub back_cut : {rs : Steps} {base before at : ℕ} (low : ℕ) (ds : List (Open Changing)) → IsBack rs base before at ds → Each (λ d. low ≤ d.lsn) ds → at < low → at ≡ before
back_cut {rs} {base} {before} {at} low [] h w less = h.at_is
back_cut {rs} {base} {before} {at} low (d ∷ ds) h w less = let is = h.at_is in let up = w.0 in absurd (omega (arith, is, up, less))

-- below the log's begin nothing is left
pub back_below : {rs : Steps} {base before at start : ℕ} (ds : List (Open Changing)) → IsBack rs base before at ds → base ≡ start → Each (λ r. base ≤ r.lsn) rs → at < start → at ≡ before
back_below {rs} {base} {before} {at} {start} [] h begins above low = h.at_is
back_below {rs} {base} {before} {at} {start} (d ∷ ds) h begins above low = let up = step_above base d.lsn _ rs above h.linked.0 in let is = h.at_is in absurd (omega (arith, begins, low, up, is))

-- the way goes down, and over changes alone
pub back_lower : {rs : Steps} {base before at prev start : ℕ} (ds : List (Open Changing)) → IsBack rs base before at ds → base ≡ start → start ≤ at → (at ≡ 0 → ⊥) → Changed prev ≡ back_by (step_at rs at) → prev < at
back_lower {rs} {base} {before} {at} {prev} {start} [] h begins here some e = by_bottom h.bottom
  where
    by_bottom : IsBefore base before ⊎ IsBorderAt rs before → prev < at
    by_bottom (inl z) = absurd (under base start before at (omega (arith, begins)) here h.at_is some z)
    by_bottom (inr z) = absurd (let no : Changed prev ≡ Other = e ∙ (ap (λ (n : ℕ). back_by (step_at rs n)) h.at_is ∙ z.other) in cc)
back_lower {rs} {base} {before} {at} {prev} {start} (d ∷ ds) h begins here some e =
    let is : Changed prev ≡ Changed (next_off before ds) = e ∙ ap back_by (ap (step_at rs) h.at_is ∙ h.linked.0) in
    let same : prev ≡ next_off before ds = cc in
    let q = h.linked.1 in let z = h.at_is in omega (arith, same, q, z)

pub back_never : {rs : Steps} {base before at w start : ℕ} (ds : List (Open Changing)) → IsBack rs base before at ds → base ≡ start → start ≤ at → (at ≡ 0 → ⊥) → TakenOff w ≡ back_by (step_at rs at) → ⊥
back_never {rs} {base} {before} {at} {w} {start} [] h begins here some e = by_bottom h.bottom
  where
    by_bottom : IsBefore base before ⊎ IsBorderAt rs before → ⊥
    by_bottom (inl z) = under base start before at (omega (arith, begins)) here h.at_is some z
    by_bottom (inr z) = absurd (let no : TakenOff w ≡ Other = e ∙ (ap (λ (n : ℕ). back_by (step_at rs n)) h.at_is ∙ z.other) in cc)
back_never {rs} {base} {before} {at} {w} {start} (d ∷ ds) h begins here some e = absurd (let no : TakenOff w ≡ Changed (next_off before ds) = e ∙ ap back_by (ap (step_at rs) h.at_is ∙ h.linked.0) in cc)

-- and what is no change is the record before the action
pub back_ends : {rs : Steps} {base before at : ℕ} (ds : List (Open Changing)) → IsBack rs base before at ds → Other ≡ back_by (step_at rs at) → at ≡ before
back_ends {rs} {base} {before} {at} [] h e = h.at_is
back_ends {rs} {base} {before} {at} (d ∷ ds) h e = absurd (let no : Other ≡ Changed (next_off before ds) = e ∙ ap back_by (ap (step_at rs) h.at_is ∙ h.linked.0) in cc)

-- so is none
pub back_none : {rs : Steps} {base before : ℕ} (ds : List (Open Changing)) → IsBack rs base before 0 ds → 0 ≡ before
back_none {rs} {base} {before} [] h = h.at_is
back_none {rs} {base} {before} (d ∷ ds) h = let is = h.at_is in let less = h.linked.1 in absurd (omega (arith, is, less))

-- LOOKS. None,
pub looked_none : {T : Type 0} {recovers : Table → Recovering} {e : EngineSeen} {m : Table → State → Type 0} (x : T) → (e.Told → e.failed ≡ false) → ((t : Table) (from : State) → m t from → e.Told → StandsNow (recovers t) t (led from e)) → HasLooked {T = T} recovers e e m m (Ok x)
looked_none {T} {recovers} {e} {m} x whole images = record { looks = λ t. looks_same recovers t e m whole (images t); tells = λ h. h; quiet = refl; disk = tt; risen = tt; failed = tt }

-- one after those before,
pub looked_then : {T U : Type 0} {recovers : Table → Recovering} {a b c : EngineSeen} {m n o : Table → State → Type 0} {x : T} (r : Result U SpaceFault) → HasLooked {T = T} recovers a b m n (Ok x) → HasLooked recovers b c n o r → HasLooked recovers a c m o r
looked_then {T} {U} {recovers} {a} {b} {c} {m} {n} {o} {x} (Ok y) f g = record {
  looks = λ t. looks_then (f.looks t) (g.looks t);
  tells = λ h. g.tells (f.tells h);
  quiet = g.quiet ∙ f.quiet;
  disk = tt;
  risen = tt;
  failed = tt;
}
looked_then {T} {U} {recovers} {a} {b} {c} {m} {n} {o} {x} (Err y) f g = record {
  looks = λ t. looks_then (f.looks t) (g.looks t);
  tells = tt;
  quiet = tt;
  disk = g.disk;
  risen = λ few. let q = f.quiet in let r : b.faults < c.faults = g.risen few in omega (arith, q, r);
  failed = g.failed;
}

-- the same with another answer
pub looked_ok : {T U : Type 0} {recovers : Table → Recovering} {a b : EngineSeen} {m n : Table → State → Type 0} {x : T} (y : U) → HasLooked {T = T} recovers a b m n (Ok x) → HasLooked {T = U} recovers a b m n (Ok y)
looked_ok {T} {U} {recovers} {a} {b} {m} {n} {x} y f = record { looks = f.looks; tells = f.tells; quiet = f.quiet; disk = tt; risen = tt; failed = tt }

pub looked_err : {T U : Type 0} {recovers : Table → Recovering} {a b : EngineSeen} {m n : Table → State → Type 0} {x y : SpaceFault} → x ≡ y → HasLooked {T = T} recovers a b m n (Err x) → HasLooked {T = U} recovers a b m n (Err y)
looked_err {T} {U} {recovers} {a} {b} {m} {n} {x} {y} e f = record { looks = f.looks; tells = tt; quiet = tt; disk = sym e ∙ f.disk; risen = f.risen; failed = f.failed }

-- one
pub looked_once : {T : Type 0} {recovers : Table → Recovering} {e e' : EngineSeen} {m m' : Table → State → Type 0} (r : Result T SpaceFault) → ((t : Table) → LooksBy recovers t e e' m m' r) → (t : Table) → HasLooked recovers e e' m m' r
looked_once {T} {recovers} {e} {e'} {m} {m'} (Ok x) h t = record { looks = λ u. looks_once (h u); tells = (h t).rests.counts.tells; quiet = (h t).rests.counts.quiet; disk = tt; risen = tt; failed = tt }
looked_once {T} {recovers} {e} {e'} {m} {m'} (Err x) h t = record { looks = λ u. looks_once (h u); tells = tt; quiet = tt; disk = (h t).rests.only_disk; risen = (h t).rests.counts.disk (h t).rests.only_disk; failed = (h t).rests.counts.failed }

-- what an engine that tells after looks holds
pub looked_steps : {T : Type 0} {recovers : Table → Recovering} {a b : EngineSeen} {m n : Table → State → Type 0} {r : Result T SpaceFault} → HasLooked recovers a b m n r → (t : Table) (from : State) → m t from → a.Told → (b.Told → b.failed ≡ false) → b.Told → b.steps ≡ a.steps
looked_steps {T} {recovers} {a} {b} {m} {n} {r} h t from s told whole told' = (((h.looks t).reads from s told).stays (whole told')).steps

-- and each record that it had
pub looked_there : {T : Type 0} {recovers : Table → Recovering} {a b : EngineSeen} {m n : Table → State → Type 0} {r : Result T SpaceFault} (at : ℕ) → HasLooked recovers a b m n r → (a.Told → ∥ ((t : Table) × (from : State) × m t from) ∥₁) → (b.Told → b.failed ≡ false)
    → ((t : Table) (from : State) → m t from → a.Told → IsSome (step_at a.steps at)) → b.Told → IsSome (step_at b.steps at)
looked_there {T} {recovers} {a} {b} {m} {n} {r} at h some whole there told' =
    let told = (h.looks fresh_table).told told' in
    ∥∥₁_elim (some told) (hlevel props) (λ x. subst (λ (rs : Steps). IsSome (step_at rs at)) (sym (looked_steps h x.0 x.1 x.2 told whole told')) (there x.0 x.1 x.2 told))

-- the same answer by another name
pub looked_fails : {T U : Type 0} {recovers : Table → Recovering} {a b : EngineSeen} {m n : Table → State → Type 0} (q : Result U SpaceFault) (f h : SpaceFault) → q ≡ Err h → h ≡ f → HasLooked {T = T} recovers a b m n (Err f) → HasLooked {T = U} recovers a b m n q
looked_fails {T} {U} {recovers} {a} {b} {m} {n} q f h is same k = subst (λ (r : Result U SpaceFault). HasLooked {T = U} recovers a b m n r) (sym is) (looked_err {T = T} {U = U} (sym same) k)

-- the pages and bands are as before
pub looked_now : {T : Type 0} {recovers : Table → Recovering} {a b : EngineSeen} {m n : Table → State → Type 0} {r : Result T SpaceFault} → HasLooked recovers a b m n r → (t : Table) (from : State) → m t from → a.Told → (b.Told → b.failed ≡ false) → b.Told
    → a.now ≡ now_of t (led from a) → b.now ≡ now_of t (led from b) → b.now ≡ a.now
looked_now h t from s told whole told' e f = f ∙ (ap (repeated t from) (looked_steps h t from s told whole told') ∙ sym e)

-- where the take-off goes on, by what was answered
pub open_of : {base txn last : ℕ} {rs : Steps} {first : ℕ} → IsLog base rs → IsUnfinished rs txn → last ≡ last_of txn rs → (r : Option ℕ) → IfSome r (IsFrom (back_by (step_at rs last)) last) → r ≡ Some first → (b : ℕ) × IsOpenAt rs base txn first b
open_of {base} {txn} {last} {rs} {first} h un is r found e =
    open_at base rs txn first h un (subst (λ (n : ℕ). IsFrom (back_by (step_at rs n)) n first) is (subst (λ (q : Option ℕ). IfSome q (IsFrom (back_by (step_at rs last)) last)) e found))

-- AN ACTION WITHOUT AN END has one
pub from_some : {base last : ℕ} {rs : Steps} (txn : ℕ) → IsLog base rs → IsUnfinished rs txn → last ≡ last_of txn rs → (r : Option ℕ) → (r ≡ None → back_by (step_at rs last) ≡ Other) → r ≡ None → ⊥
from_some {base} {last} {rs} txn h un is r none e = last_inside base rs txn h un (subst (λ (n : ℕ). back_by (step_at rs n) ≡ Other) is (none e))
