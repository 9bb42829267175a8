-- The end of an action.
use Rattle.std.proofs.Common.{◌≡◌, ℕ, ◌+◌, ◌*◌, ◌==◌, ◌≤◌, List, [], ◌∷◌, length, Some, Bool, true, false, sym, ap, subst, ◌∙◌, refl, arith, inl, inr}
use Rattle.std.specs.Prelude.{◌&&◌, if◌then◌else◌, Result}
use Rattle.std.proofs.lemmas.Bool.{cases_Bool, cases_eq}
use Rattle.std.proofs.lemmas.Bool.Decides.{nat_tests}
use Rattle.sg_alloc.specs.declared.maps.Maps.{Maps}
use Rattle.sg_base.specs.Op.{is_format}
use Rattle.sg_base.specs.Page.{stored}
use Rattle.sg_ops.specs.Laws.{IsLawful}
use Rattle.sg_ops.specs.Table.{Table}
use Rattle.sg_record.specs.Records.Says.{TopEnd as SaysTopEnd}
use Rattle.sg_record.specs.Shown.{by}
use Rattle.sg_recovery.specs.Log.Record.{TopEnd}
use Rattle.sg_action.specs.States.{State, Change, Kept, made, step_leaf, leaf_count, leaf_stored}
use Rattle.sg_action.specs.States.Change.{Page, Write, Paint}
use Rattle.sg_action.specs.Opened.{in_use, IsOpened, IsBegun, AreFit}
use Rattle.sg_action.proofs.Opened.{formatted, made_here, made_there, use_there, good}
use Rattle.sg_step.proofs.Sizes.{sizes}
use Rattle.sg_actions.specs.Acting.{IsWell, IsChained}
use Rattle.sg_actions.specs.Calls.{Appends, AreSettled, ActionEnded}
use Rattle.sg_actions.specs.Engine.{EngineView, Moments}
use Rattle.sg_actions.specs.Led.{Appended, HasLogged, LogCall}
use Rattle.sg_actions.specs.Images.{Recovering}
use Rattle.sg_actions.specs.Onward.{acting_to}
use Rattle.sg_space.specs.declared.space.SpaceFault.{SpaceFault}
use Rattle.sg_actions.specs.Rows.{placed, rows_after, at_rest}
use Rattle.sg_actions.specs.Steps.{stepped, opened, begin_of}
use Rattle.sg_actions.specs.Taken.{is_set, kept_of}
use Rattle.sg_actions.specs.View.{IsKept}
use Rattle.sg_actions.specs.declared.rows.Actor.{Actor}
use Rattle.sg_actions.specs.declared.rows.Row.{Row}
use Rattle.sg_actions.proofs.Chained.{chain_top, chain_top_system, chain_later, running_top, running_later}
use Rattle.sg_actions.proofs.Flags.{and_left}
use Rattle.sg_actions.proofs.Going.{set_in_use}
use Rattle.sg_actions.proofs.Led.{call_gone}
use Rattle.sg_actions.proofs.Repeating.{made_opened}

-- each page in use has no more than its bytes, from the begin on
pub fit_made : (t : Table) → IsLawful t → (kept : Kept) (begin : State) → IsBegun kept begin → AreFit kept [] begin → (ds : List Change) → IsOpened t kept begin ds → (n : ℕ) → in_use kept ds n ≡ true
    → 4 * leaf_count ((made t begin ds).pages n) + leaf_stored ((made t begin ds).pages n) ≤ 4072
fit_made t law kept begin first fit [] h n used = fit n used
fit_made t law kept begin first fit (Write b at before after ∷ ds) h n used = fit_made t law kept begin first fit ds h.0 n used
fit_made t law kept begin first fit (Paint b at count code position arg before ∷ ds) h n used = fit_made t law kept begin first fit ds h.0 n used
fit_made t law kept begin first fit (Page m op back ∷ ds) h n used = elim (cases_eq n m) [
  | inl same ↦
      let e : (made t begin (Page m op back ∷ ds)).pages n ≡ (made t begin (Page m op back ∷ ds)).pages m = ap (λ (k : ℕ). (made t begin (Page m op back ∷ ds)).pages k) same in
      elim (cases_Bool (is_format op)) [
        | inl f ↦
            let g = formatted t op ((made t begin ds).pages m) f in
            let at : (made t begin (Page m op back ∷ ds)).pages n ≡ Some g.0 = e ∙ made_here t (made t begin ds) m op back g.0 g.1 in
            let none : stored g.0.slots ≡ 0 = ap stored g.2 in
            let short : length g.0.slots ≡ 0 = ap length g.2 in
            let a : leaf_count ((made t begin (Page m op back ∷ ds)).pages n) ≡ length g.0.slots = ap leaf_count at in
            let b : leaf_stored ((made t begin (Page m op back ∷ ds)).pages n) ≡ stored g.0.slots = ap leaf_stored at in
            omega (arith, none, short, a, b)
        | inr f ↦
            let g = good t law kept begin first ds h.0 m (h.1.changes f) in
            let new = h.1.fits f g.0 g.1 in
            let at : (made t begin (Page m op back ∷ ds)).pages n ≡ Some new.0 = e ∙ made_here t (made t begin ds) m op back new.0 (ap (step_leaf t op) g.1 ∙ new.1) in
            let was : 4 * leaf_count ((made t begin ds).pages m) + leaf_stored ((made t begin ds).pages m) ≤ 4072 = fit_made t law kept begin first fit ds h.0 m (h.1.changes f) in
            let c : leaf_count ((made t begin ds).pages m) ≡ length g.0.slots = ap leaf_count g.1 in
            let d : leaf_stored ((made t begin ds).pages m) ≡ stored g.0.slots = ap leaf_stored g.1 in
            let fits : 4 * length new.0.slots + stored new.0.slots ≤ 4072 = (sizes t law op g.0 new.0 f g.2 (h.1.proper f g.0 g.1) new.1).fit (omega (arith, was, c, d)) in
            let a : leaf_count ((made t begin (Page m op back ∷ ds)).pages n) ≡ length new.0.slots = ap leaf_count at in
            let b : leaf_stored ((made t begin (Page m op back ∷ ds)).pages n) ≡ stored new.0.slots = ap leaf_stored at in
            omega (arith, fits, a, b)
      ]
  | inr other ↦
      let e : (made t begin (Page m op back ∷ ds)).pages n ≡ (made t begin ds).pages n = made_there t (made t begin ds) m n op back other in
      let was : 4 * leaf_count ((made t begin ds).pages n) + leaf_stored ((made t begin ds).pages n) ≤ 4072 = fit_made t law kept begin first fit ds h.0 n (sym (use_there kept ds m n op back other) ∙ used) in
      let a : leaf_count ((made t begin (Page m op back ∷ ds)).pages n) ≡ leaf_count ((made t begin ds).pages n) = ap leaf_count e in
      let b : leaf_stored ((made t begin (Page m op back ∷ ds)).pages n) ≡ leaf_stored ((made t begin ds).pages n) = ap leaf_stored e in
      omega (arith, was, a, b)
]

-- WHAT AN ACTION LEAVES is the begin of another
pub well_ended : (t : Table) → IsLawful t → (limits : State → ℕ → ℕ) (begin : State) (ds : List Change) (pages pages' bands bands' : List Bool) → ((n : ℕ) → is_set pages' n ≡ true → is_set pages n ≡ true)
    → IsWell t limits begin ds pages bands → IsWell t limits (made t begin ds) [] pages' bands'
well_ended t law limits begin ds pages pages' bands bands' fewer w = record {
  begun = λ n h. good t law (kept_of limits pages bands begin ds) begin w.begun ds w.opens n (used n h);
  fit = λ n h. fit_made t law (kept_of limits pages bands begin ds) begin w.begun w.fit ds w.opens n (used n h);
  opens = tt;
  well = tt;
  used = λ n h. absurd (let e : false ≡ true = h in cc);
}
  where
    used : (n : ℕ) → (is_set pages' n && true) ≡ true → in_use (kept_of limits pages bands begin ds) ds n ≡ true
    used n h = set_in_use limits begin pages bands ds n (fewer n (and_left (is_set pages' n) true h))

-- the end of an action may be appended
pub end_appends : (recovers : Recovering) (t : Table) (limits : State → ℕ → ℕ) (e e' : EngineView) (maps : Maps) (rows : List Row) (actor : Actor) (note bytes : List ℕ) (r : Result ℕ SpaceFault) → bytes ≡ note → LogCall recovers t e e' (by actor.txn.0 actor.last (SaysTopEnd actor.before bytes)) r
    → (e'.Told → e'.failed ≡ false) → e.Told → IsKept t limits e maps rows actor → Appends recovers t e e' (TopEnd actor.txn.0 actor.last actor.before note)
end_appends recovers t limits e e' maps rows actor note bytes r is h whole told k = record {
  above = h.above told;
  formed = (running_top {tail = e'.tried} {next = e'.tried + 1} note (omega arith) k.chain.at (running_later (h.above told) k.chain.running)).log;
  moments = subst (λ (n : List ℕ). Moments recovers t e e' (stepped e.steps e'.tried (TopEnd actor.txn.0 actor.last actor.before n))) is (h.moments told);
  gone = λ told'. call_gone e e' (by actor.txn.0 actor.last (SaysTopEnd actor.before bytes)) (TopEnd actor.txn.0 actor.last actor.before bytes) r refl h whole told'
      ∙ ap (λ (n : List ℕ). stepped e.steps e'.tried (TopEnd actor.txn.0 actor.last actor.before n)) is;
}

pub action_ended : (t : Table) (limits : State → ℕ → ℕ) (e e' : EngineView) (maps maps' unfreed unfreed' : Maps) (rows rows' : List Row) (actor : Actor) (note : List ℕ) (lsn : ℕ)
    → HasLogged e e' (by actor.txn.0 actor.last (SaysTopEnd actor.before note)) lsn → rows' ≡ rows_after rows actor.txn lsn
    → AreSettled maps.pages unfreed.pages maps'.pages unfreed'.pages → AreSettled maps.bands unfreed.bands maps'.bands unfreed'.bands
    → ActionEnded t limits e e' maps maps' unfreed unfreed' rows rows' actor at_rest note
action_ended t limits e e' maps maps' unfreed unfreed' rows rows' actor note lsn h is_rows pages bands = record {
  lsn = lsn;
  told = h.told;
  logged = h.logged;
  rest = refl;
  rows_are = is_rows;
  pages = pages;
  bands = bands;
  kept = λ law told k. let g = h.logged told in acting_to g.base g.first g.steps (record { chain = chain g k.chain; well = well law k.well });
}
  where
    chain_by : Appended e e' (by actor.txn.0 actor.last (SaysTopEnd actor.before note)) lsn → (b : Bool) → (actor.txn.0 == 0) ≡ b → IsChained e.base e.steps lsn rows actor
        → IsChained e.base (stepped e.steps lsn (TopEnd actor.txn.0 actor.last actor.before note)) e'.tail (if b then rows else placed rows actor.txn.0 (record { txn = actor.txn; last = lsn })) at_rest
    chain_by g true z h = chain_top_system e.base e.steps lsn e'.tail rows actor note g.tail (grind (arith, nat_tests, z)) h
    chain_by g false z h = chain_top e.base e.steps lsn e'.tail rows actor (record { txn = actor.txn; last = lsn }) note g.tail (λ k. absurd (let one : (actor.txn.0 == 0) ≡ true = grind (arith, nat_tests, k) in let two : true ≡ false = sym one ∙ z in cc)) refl refl h

    chain : Appended e e' (by actor.txn.0 actor.last (SaysTopEnd actor.before note)) lsn → IsChained e.base e.steps e.tail rows actor → IsChained e.base (stepped e.steps lsn (TopEnd actor.txn.0 actor.last actor.before note)) e'.tail rows' at_rest
    chain g h = subst (λ (xs : List Row). IsChained e.base (stepped e.steps lsn (TopEnd actor.txn.0 actor.last actor.before note)) e'.tail xs at_rest) (sym is_rows) (chain_by g (actor.txn.0 == 0) refl (chain_later h g.number))

    well : IsLawful t → IsWell t limits (begin_of t e.first e.steps) (opened e.steps) maps.pages maps.bands
        → IsWell t limits (begin_of t e.first (stepped e.steps lsn (TopEnd actor.txn.0 actor.last actor.before note))) (opened (stepped e.steps lsn (TopEnd actor.txn.0 actor.last actor.before note))) maps'.pages maps'.bands
    well law w =
        subst (λ (x : State). IsWell t limits x [] maps'.pages maps'.bands) (made_opened t e.first e.steps)
        (well_ended t law limits (begin_of t e.first e.steps) (opened e.steps) maps.pages maps'.pages maps.bands maps'.bands (λ n h. and_left (is_set maps.pages n) (is_set unfreed.pages n) (sym (pages.there n) ∙ h)) w)
