-- A take-off that goes on.
use Rattle.std.proofs.Common.{◌≡◌, ◌≢◌, ◌⊎◌, ℕ, zero, suc, ◌+◌, ◌<◌, List, [], ◌∷◌, Option, Some, IsSome, Bool, true, false, not, sym, ap, subst, ◌∙◌, refl, arith, inl, inr}
use Rattle.std.proofs.Props.{props}
use mathlib.Core.Logic.{∥∥₁_prop}
use Rattle.std.specs.Prelude.{◌&&◌, ◌||◌, map, Result, Ok}
use Rattle.std.proofs.lemmas.Bool.{cases_Bool}
use Rattle.std.proofs.lemmas.Option.{slice_get_within}
use Rattle.sg_alloc.specs.Flags.{free_of}
use Rattle.sg_alloc.specs.declared.maps.Maps.{Maps}
use Rattle.sg_ops.specs.Table.{Table}
use Rattle.sg_record.specs.Changes.{Change as Changing, BandOp}
use Rattle.sg_record.specs.Changes.Change.{Page, SegWrite, SegOp}
use Rattle.sg_record.specs.Records.{Record}
use Rattle.sg_record.specs.Records.Says.{PhysComp as SaysPhysComp}
use Rattle.sg_record.specs.Shown.{by}
use Rattle.sg_recovery.specs.Laws.{Each}
use Rattle.sg_recovery.specs.Log.{Open, tally, is_in, changes_of}
use Rattle.sg_recovery.specs.Log.Record.{Change, PhysComp}
use Rattle.sg_recovery.specs.Chains.{next_off}
use Rattle.sg_action.specs.States.{State, Kept, Change as Changed, apply, fits}
use Rattle.sg_action.specs.Opened.{formats}
use Rattle.sg_actions.specs.Changes.{meaning, comp_of, op_off, IsChangeOf}
use Rattle.sg_actions.specs.Engine.{EngineSeen, EngineView, IsOfOpen, KnowsOff, led, now_of}
use Rattle.sg_actions.proofs.Led.{now_stays}
use Rattle.sg_actions.specs.Led.{Appended, HasLogged, Stayed, HasStayed}
use Rattle.sg_actions.specs.Steps.{Step, Steps, stepped, step_at, step_of, step_by, repeated}
use Rattle.sg_actions.specs.Taken.{is_set, is_there, takes_page, takes_band, fills, AreFlags, IsUntaken, IsUntakenBand}
use Rattle.sg_actions.specs.TakingOff.{IsTakingOff, AreLinked, AreOnce, IsOff, IsGoing, CanGoOff, NextStep, TookOff, left_of}
use Rattle.sg_actions.specs.declared.rows.Actor.{Actor}
use Rattle.sg_actions.specs.declared.rows.Row.{Row}
use Rattle.sg_actions.proofs.Chained.{later}
use Rattle.sg_actions.proofs.Flags.{get_set, and_both}
use Rattle.sg_actions.proofs.Taking.{none_freed}
use Rattle.sg_actions.proofs.TakenOff.{takes_one_off, comp_step, taking_later}

-- some change is left, where the take-off isn't at its end
pub record IsNext (rs : Steps) (actor : Actor) (at : ℕ) : Type 0 where
  pub d : Open Changing
  pub ds : List (Open Changing)
  pub is : (tally rs).opened ≡ d ∷ ds
  pub here : at ≡ d.lsn
  pub step : step_at rs at ≡ Some (Change d.transaction (next_off actor.before ds) d.change)

pub going_of : {t : Table} {kept : Kept} {begin : State} {e : EngineView} {maps unfreed : Maps} {rows : List Row} {actor : Actor} {at : ℕ} → IsOff t kept begin e maps unfreed rows actor at → IsGoing t kept begin e rows actor at
going_of h = record { taking = h.taking; at_is = h.at_is }

pub next_one : (t : Table) (kept : Kept) (begin : State) (e : EngineView) (rows : List Row) (actor : Actor) (at : ℕ) → at ≢ actor.before → IsGoing t kept begin e rows actor at → IsNext e.steps actor at
next_one t kept begin e rows actor at ne h = by_list (tally e.steps).opened refl
  where
    by_list : (es : List (Open Changing)) → (tally e.steps).opened ≡ es → IsNext e.steps actor at
    by_list [] is = absurd (ne (h.at_is ∙ ap (next_off actor.before) is))
    by_list (d ∷ ds) is =
        let here : at ≡ d.lsn = h.at_is ∙ ap (next_off actor.before) is in
        let linked : AreLinked e.steps actor.before (d ∷ ds) = subst (λ (es : List (Open Changing)). AreLinked e.steps actor.before es) is h.taking.running.linked in
        record { d = d; ds = ds; is = is; here = here; step = ap (step_at e.steps) here ∙ linked.0 }

-- it names a record below it
pub next_low : (t : Table) (kept : Kept) (begin : State) (e : EngineView) (rows : List Row) (actor : Actor) (at : ℕ) → IsGoing t kept begin e rows actor at → (n : IsNext e.steps actor at) → next_off actor.before n.ds < at
next_low t kept begin e rows actor at h n =
    let linked : AreLinked e.steps actor.before (n.d ∷ n.ds) = subst (λ (es : List (Open Changing)). AreLinked e.steps actor.before es) n.is h.taking.running.linked in
    let low = linked.1 in
    let here = n.here in
    omega (arith, low, here)

-- a look leaves a take-off as it is
pub going_stays : {t : Table} {kept : Kept} {begin : State} {e e' : EngineView} {rows : List Row} {actor : Actor} {at : ℕ} → Stayed e e' → IsGoing t kept begin e rows actor at → IsGoing t kept begin e' rows actor at
going_stays {t} {kept} {begin} {e} {e'} {rows} {actor} {at} s h = record {
  taking = taking_later (subst (λ (b : ℕ). IsTakingOff t kept begin b e'.steps (now_of t e') e.tail rows actor) (sym s.base) (subst (λ (x : State). IsTakingOff t kept begin e.base e'.steps x e.tail rows actor) (sym (now_stays t s)) (subst (λ (rs : Steps). IsTakingOff t kept begin e.base rs (now_of t e) e.tail rows actor) (sym s.steps) h.taking))) s.tail;
  at_is = h.at_is ∙ ap (λ (rs : Steps). next_off actor.before (tally rs).opened) (sym s.steps);
}

pub off_stays : {t : Table} {kept : Kept} {begin : State} {e e' : EngineView} {maps unfreed : Maps} {rows : List Row} {actor : Actor} {at : ℕ} → Stayed e e' → IsOff t kept begin e maps unfreed rows actor at → IsOff t kept begin e' maps unfreed rows actor at
off_stays {t} {kept} {begin} {e} {e'} {maps} {unfreed} {rows} {actor} {at} s h = record {
  taking = (going_stays s (going_of h)).taking;
  pages = λ n. subst (λ (rs : Steps). (is_set maps.pages n && not (takes_page (left_of rs) n)) ≡ kept.pages n) (sym s.steps) (h.pages n);
  used = λ n. subst (λ (rs : Steps). takes_page (left_of rs) n ≡ true → is_set maps.pages n ≡ true) (sym s.steps) (h.used n);
  once = subst (λ (rs : Steps). AreOnce (left_of rs)) (sym s.steps) h.once;
  whole = h.whole;
  bands = λ n. subst (λ (rs : Steps). (is_set maps.bands n && not (takes_band (left_of rs) n)) ≡ kept.bands n) (sym s.steps) (h.bands n);
  whole_bands = h.whole_bands;
  at_is = h.at_is ∙ ap (λ (rs : Steps). next_off actor.before (tally rs).opened) (sym s.steps);
}

-- the flags of the pages go on with it
flags_on : (taken unfreed taken' : List Bool) (d : Changed) (ds : List Changed) (kept : Kept) → AreFlags taken unfreed → free_of unfreed ≡ 0 → IsUntaken taken unfreed taken' d → ((n : ℕ) → takes_page (d ∷ ds) n ≡ true → is_set taken n ≡ true)
    → ((n : ℕ) → (is_set taken n && not (takes_page (d ∷ ds) n)) ≡ kept.pages n) → ((n : ℕ) → takes_page ds n ≡ true → formats d n ≡ false)
    → ((n : ℕ) → (is_set taken' n && not (takes_page ds n)) ≡ kept.pages n) × ((n : ℕ) → takes_page ds n ≡ true → is_set taken' n ≡ true)
flags_on taken unfreed taken' d ds kept flags whole u used same once = (
  (λ n. elim (cases_Bool (formats d n)) [
    | inl f ↦
        let set : is_set taken n ≡ true = used n (λ j. f j || takes_page ds n) in
        let within = slice_get_within taken n true (get_set taken n set) in
        let there : is_there taken unfreed n ≡ true = and_both (is_set taken n) (is_set unfreed n) set (none_freed unfreed n whole (omega (arith, within, flags.long))) in
        ap (λ (b : Bool). b && not (takes_page ds n)) (u.here n f there) ∙ sym (ap (λ (b : Bool). is_set taken n && not (b || takes_page ds n)) f ∙ and_false (is_set taken n)) ∙ same n
    | inr f ↦ ap (λ (b : Bool). b && not (takes_page ds n)) (u.there n f) ∙ (sym (ap (λ (b : Bool). is_set taken n && not (b || takes_page ds n)) f) ∙ same n)
  ]),
  (λ n k. u.there n (once n k) ∙ used n (or_right (formats d n) (takes_page ds n) k)),
)
  where
    and_false : (a : Bool) → (a && false) ≡ false
    and_false true = refl
    and_false false = refl

    or_right : (a b : Bool) → b ≡ true → (a || b) ≡ true
    or_right true b e = refl
    or_right false b e = e

-- and those of the bands
bands_on : (taken unfreed taken' : List Bool) (d : Changed) (ds : List Changed) (kept : Kept) → AreFlags taken unfreed → free_of unfreed ≡ 0 → IsUntakenBand taken unfreed taken' d
    → ((n : ℕ) → (is_set taken n && not (takes_band (d ∷ ds) n)) ≡ kept.bands n) → (n : ℕ) → (is_set taken' n && not (takes_band ds n)) ≡ kept.bands n
bands_on taken unfreed taken' d ds kept flags whole u same n = elim (cases_Bool (fills d n)) [
  | inl f ↦
      let gone : is_set taken' n ≡ false = elim (cases_Bool (is_set taken' n)) [
        | inl s ↦
            let set : is_set taken n ≡ true = u.less n s in
            let within = slice_get_within taken n true (get_set taken n set) in
            u.here n f (and_both (is_set taken n) (is_set unfreed n) set (none_freed unfreed n whole (omega (arith, within, flags.long))))
        | inr s ↦ s
      ] in
      ap (λ (b : Bool). b && not (takes_band ds n)) gone ∙ (sym (ap (λ (b : Bool). is_set taken n && not (b || takes_band ds n)) f ∙ and_false (is_set taken n)) ∙ same n)
  | inr f ↦ ap (λ (b : Bool). b && not (takes_band ds n)) (u.there n f) ∙ (sym (ap (λ (b : Bool). is_set taken n && not (b || takes_band ds n)) f) ∙ same n)
]
  where
    and_false : (a : Bool) → (a && false) ≡ false
    and_false true = refl
    and_false false = refl

-- what a record that was read says of the change
pub record IsRead (c : Changing) (previous : ℕ) (d : Open Changing) (next : ℕ) : Type 0 where
  pub change : c ≡ d.change
  pub before_is : previous ≡ next

pub read_is : (rs : Steps) (at : ℕ) (what r : Record) (c : Changing) (previous next : ℕ) (d : Open Changing) → step_at rs at ≡ step_of what → r ≡ what → IsChangeOf r c previous → step_at rs at ≡ Some (Change d.transaction next d.change) → IsRead c previous d next
read_is rs at what r c previous next d e f g h =
    let says : step_of r ≡ Some (Change r.transaction r.previous c) = ap (step_by r.transaction r.previous) g.says in
    let same : Some (Change r.transaction r.previous c) ≡ Some (Change d.transaction next d.change) = sym says ∙ (ap step_of f ∙ (sym e ∙ h)) in
    record { change = parts same; before_is = sym g.before_is ∙ numbers same }
  where
    parts : {t p u q : ℕ} {a b : Changing} → (let x : Option Step = Some (Change t p a) in x) ≡ Some (Change u q b) → a ≡ b
    parts k = cc

    numbers : {t p u q : ℕ} {a b : Changing} → (let x : Option Step = Some (Change t p a) in x) ≡ Some (Change u q b) → p ≡ q
    numbers k = cc

-- THE TAKE-OFF GOES ON behind the record,
pub going_on : (t : Table) (kept : Kept) (begin : State) (e e' : EngineView) (rows : List Row) (actor : Actor) (at prev lsn : ℕ) (c : Changing) → (n : IsNext e.steps actor at) → IsRead c prev n.d (next_off actor.before n.ds)
    → Appended e e' (by actor.txn.0 actor.last (SaysPhysComp prev (comp_of c))) lsn → IsGoing t kept begin e rows actor at → IsGoing t kept begin e' rows (later actor lsn) prev
going_on t kept begin e e' rows actor at prev lsn c n r g h =
    let one = takes_one_off t kept begin e.base e.steps (now_of t e) lsn e'.tail rows actor n.d n.ds g.tail n.is (taking_later h.taking g.number) in
    let steps : e'.steps ≡ stepped e.steps lsn (comp_step actor n.d n.ds) = g.steps ∙ (λ j. stepped e.steps lsn (PhysComp actor.txn.0 actor.last (r.before_is j) (comp_of (r.change j)))) in
    let now : now_of t e' ≡ apply t (now_of t e) (meaning (comp_of n.d.change)) = (λ j. repeated t (g.first j) (steps j)) in
    record {
      taking = subst (λ (b : ℕ). IsTakingOff t kept begin b e'.steps (now_of t e') e'.tail rows (later actor lsn)) (sym g.base) (subst (λ (rs : Steps). IsTakingOff t kept begin e.base rs (now_of t e') e'.tail rows (later actor lsn)) (sym steps)
          (subst (λ (x : State). IsTakingOff t kept begin e.base (stepped e.steps lsn (comp_step actor n.d n.ds)) x e'.tail rows (later actor lsn)) (sym now)
          one.goes_on));
      at_is = r.before_is ∙ sym (ap (λ (rs : Steps). next_off actor.before (tally rs).opened) steps ∙ ap (next_off actor.before) one.leaves);
    }

-- and so do the flags
pub off_goes_on : (t : Table) (kept : Kept) (begin : State) (e e' : EngineView) (maps maps' unfreed : Maps) (rows : List Row) (actor : Actor) (at prev lsn : ℕ) (c : Changing) → AreFlags maps.pages unfreed.pages → AreFlags maps.bands unfreed.bands → (n : IsNext e.steps actor at) → IsRead c prev n.d (next_off actor.before n.ds)
    → Appended e e' (by actor.txn.0 actor.last (SaysPhysComp prev (comp_of c))) lsn → IsUntaken maps.pages unfreed.pages maps'.pages (meaning c) → IsUntakenBand maps.bands unfreed.bands maps'.bands (meaning c) → IsOff t kept begin e maps unfreed rows actor at → IsOff t kept begin e' maps' unfreed rows (later actor lsn) prev
off_goes_on t kept begin e e' maps maps' unfreed rows actor at prev lsn c flags band_flags n r g u ub h =
    let one = takes_one_off t kept begin e.base e.steps (now_of t e) lsn e'.tail rows actor n.d n.ds g.tail n.is (taking_later h.taking g.number) in
    let gone = going_on t kept begin e e' rows actor at prev lsn c n r g (going_of h) in
    let steps : e'.steps ≡ stepped e.steps lsn (comp_step actor n.d n.ds) = g.steps ∙ (λ j. stepped e.steps lsn (PhysComp actor.txn.0 actor.last (r.before_is j) (comp_of (r.change j)))) in
    let left : left_of e'.steps ≡ map meaning (changes_of n.ds) = ap left_of steps ∙ ap (λ (es : List (Open Changing)). map meaning (changes_of es)) one.leaves in
    let was : left_of e.steps ≡ meaning n.d.change ∷ map meaning (changes_of n.ds) = ap (λ (es : List (Open Changing)). map meaning (changes_of es)) n.is in
    let used : (k : ℕ) → takes_page (meaning n.d.change ∷ map meaning (changes_of n.ds)) k ≡ true → is_set maps.pages k ≡ true = λ k. subst (λ (ds : List Changed). takes_page ds k ≡ true → is_set maps.pages k ≡ true) was (h.used k) in
    let pages : (k : ℕ) → (is_set maps.pages k && not (takes_page (meaning n.d.change ∷ map meaning (changes_of n.ds)) k)) ≡ kept.pages k = λ k. subst (λ (ds : List Changed). (is_set maps.pages k && not (takes_page ds k)) ≡ kept.pages k) was (h.pages k) in
    let once : AreOnce (meaning n.d.change ∷ map meaning (changes_of n.ds)) = subst AreOnce was h.once in
    let un : IsUntaken maps.pages unfreed.pages maps'.pages (meaning n.d.change) = subst (λ (x : Changing). IsUntaken maps.pages unfreed.pages maps'.pages (meaning x)) r.change u in
    let un_bands : IsUntakenBand maps.bands unfreed.bands maps'.bands (meaning n.d.change) = subst (λ (x : Changing). IsUntakenBand maps.bands unfreed.bands maps'.bands (meaning x)) r.change ub in
    let on_bands = bands_on maps.bands unfreed.bands maps'.bands (meaning n.d.change) (map meaning (changes_of n.ds)) kept band_flags h.whole_bands un_bands (λ k. subst (λ (ds : List Changed). (is_set maps.bands k && not (takes_band ds k)) ≡ kept.bands k) was (h.bands k)) in
    let on = flags_on maps.pages unfreed.pages maps'.pages (meaning n.d.change) (map meaning (changes_of n.ds)) kept flags h.whole un used pages once.0 in
    record {
      taking = gone.taking;
      pages = λ k. subst (λ (ds : List Changed). (is_set maps'.pages k && not (takes_page ds k)) ≡ kept.pages k) (sym left) (on.0 k);
      used = λ k. subst (λ (ds : List Changed). takes_page ds k ≡ true → is_set maps'.pages k ≡ true) (sym left) (on.1 k);
      once = subst AreOnce (sym left) once.1;
      whole = h.whole;
      bands = λ k. subst (λ (ds : List Changed). (is_set maps'.bands k && not (takes_band ds k)) ≡ kept.bands k) (sym left) (on_bands k);
      whole_bands = h.whole_bands;
      at_is = gone.at_is;
    }

-- the record that takes it off may be appended
pub off_fits : (t : Table) (kept : Kept) (begin : State) (e : EngineView) (rows : List Row) (actor : Actor) (at prev : ℕ) (c comp : Changing) (x : State) → x ≡ now_of t e → (n : IsNext e.steps actor at) → IsRead c prev n.d (next_off actor.before n.ds) → comp ≡ comp_of c
    → IsGoing t kept begin e rows actor at → fits t x (meaning comp) ≡ true
off_fits t kept begin e rows actor at prev c comp x now n r is h =
    let one = takes_one_off t kept begin e.base e.steps (now_of t e) e.tail (e.tail + 1) rows actor n.d n.ds (omega arith) n.is h.taking in
    ap (λ (y : State). fits t y (meaning comp)) now ∙ (ap (λ (y : Changing). fits t (now_of t e) (meaning y)) is ∙ (ap (λ (y : Changing). fits t (now_of t e) (meaning (comp_of y))) r.change ∙ one.fits_it))

pub known_off_prop : (s : EngineSeen) (c : Changing) → IsProp (KnowsOff s c)
known_off_prop s (Page w) = hlevel props
known_off_prop s (SegWrite w) = hlevel props
known_off_prop s (SegOp w) = ∥∥₁_prop

-- its range operation is that of the change that it takes off
pub off_known : (t : Table) (kept : Kept) (begin from : State) (s : EngineSeen) (rows : List Row) (actor : Actor) (at prev : ℕ) (c comp : Changing) → (n : IsNext s.steps actor at) → IsRead c prev n.d (next_off actor.before n.ds) → comp ≡ comp_of c
    → IsGoing t kept begin (led from s) rows actor at → KnowsOff s comp
off_known t kept begin from s rows actor at prev c comp n r is h = subst (KnowsOff s) (sym is) (by c r.change)
  where
    goes : (u v : ℕ) → u ≡ v → (v ≢ 0 → is_in v (tally s.steps).live ≡ true) → (u ≡ 0) ⊎ (is_in u (tally s.steps).live ≡ true)
    goes u zero e acts = inl e
    goes u (suc v) e acts = inr (subst (λ (k : ℕ). is_in k (tally s.steps).live ≡ true) (sym e) (acts (λ z. omega (arith, z))))

    owned : Each (λ (d : Open Changing). d.transaction ≡ actor.txn.0) (n.d ∷ n.ds)
    owned = subst (λ (ds : List (Open Changing)). Each (λ (d : Open Changing). d.transaction ≡ actor.txn.0) ds) n.is h.taking.running.owned

    of_open : (w : BandOp) → SegOp w ≡ n.d.change → IsOfOpen s (SegOp w)
    of_open w e = record {
      log = h.taking.running.log;
      change = n.d;
      others = n.ds;
      last = n.is;
      previous = next_off actor.before n.ds;
      stands = ap (step_at s.steps) (sym n.here) ∙ (n.step ∙ ap (λ (d : Changing). Some (Change n.d.transaction (next_off actor.before n.ds) d)) (sym e));
      goes_on = goes n.d.transaction actor.txn.0 owned.0 h.taking.running.acting;
    }

    by_list : (w : BandOp) (xs : List ℕ) → SegOp w ≡ n.d.change → KnowsOff s (op_off w xs)
    by_list w [] e = ∣ of_open w e ∣₁
    by_list w (x ∷ xs) e = tt

    by : (d : Changing) → d ≡ n.d.change → KnowsOff s (comp_of d)
    by (Page w) e = tt
    by (SegWrite w) e = tt
    by (SegOp w) e = by_list w w.before e

-- the pages that are taken still say something
pub said_less : {A : Type 0} (taken taken' : List Bool) (contents : ℕ → Option A) → ((n : ℕ) → is_set taken' n ≡ true → is_set taken n ≡ true) → ((n : ℕ) → is_set taken n ≡ true → IsSome (contents n)) → (n : ℕ) → is_set taken' n ≡ true → IsSome (contents n)
said_less taken taken' contents less said n h = said n (less n h)

pub shown_is : {E : Type 0} (r what : Record) (m n : ℕ) (x : Result (Record × ℕ) E) → Ok (r, m) ≡ x → x ≡ Ok (what, n) → r ≡ what
shown_is {E} r what m n x e f = ap (λ (p : Record × ℕ). p.0) (ok_parts (r, m) (what, n) (e ∙ f))
  where
    ok_parts : (a b : Record × ℕ) → (let y : Result (Record × ℕ) E = Ok a in y) ≡ Ok b → a ≡ b
    ok_parts a b h = cc

-- WHAT WAS TAKEN OFF, all in one
pub took_off : (t : Table) (e e1 e' : EngineView) (maps maps' unfreed : Maps) (rows : List Row) (actor : Actor) (at prev lsn : ℕ) (c comp : Changing) (r : Record) → AreFlags maps.pages unfreed.pages → AreFlags maps.bands unfreed.bands → (e.Told → step_at e.steps at ≡ step_of r) → IsChangeOf r c prev → comp ≡ comp_of c
    → HasStayed e e1 → (e1.Told → e.Told) → HasLogged e1 e' (by actor.txn.0 actor.last (SaysPhysComp prev comp)) lsn → (e'.Told → e1.Told) → IsUntaken maps.pages unfreed.pages maps'.pages (meaning c) → IsUntakenBand maps.bands unfreed.bands maps'.bands (meaning c) → prev < at
    → TookOff t e e' maps maps' unfreed rows actor (later actor lsn) at prev
took_off t e e1 e' maps maps' unfreed rows actor at prev lsn c comp r flags band_flags what says is stays back g back' u ub low = record {
  lower = low;
  who = refl;
  same_before = refl;
  told = λ told. back (back' told);
  still = λ told. g.told (stays.told told);
  goes_on = λ told kept begin more h. on told kept begin more h;
  keeps_on = λ told kept begin more h. keeps told kept begin more h;
  steps = λ told k. steps told k;
}
  where
    g' : e.Told → Appended e1 e' (by actor.txn.0 actor.last (SaysPhysComp prev (comp_of c))) lsn
    g' told = subst (λ (x : Changing). Appended e1 e' (by actor.txn.0 actor.last (SaysPhysComp prev x)) lsn) is (g.logged (stays.told told))

    step1 : e.Told → step_at e1.steps at ≡ step_of r
    step1 told = ap (λ (rs : Steps). step_at rs at) (stays.stays told).steps ∙ what told

    on : e.Told → (kept : Kept) (begin : State) → at ≢ actor.before → IsOff t kept begin e maps unfreed rows actor at → IsOff t kept begin e' maps' unfreed rows (later actor lsn) prev
    on told kept begin more h =
        let off = off_stays (stays.stays told) h in
        let n = next_one t kept begin e1 rows actor at more (going_of off) in
        off_goes_on t kept begin e1 e' maps maps' unfreed rows actor at prev lsn c flags band_flags n (read_is e1.steps at r r c prev (next_off actor.before n.ds) n.d (step1 told) refl says n.step) (g' told) u ub off

    keeps : e.Told → (kept : Kept) (begin : State) → at ≢ actor.before → IsGoing t kept begin e rows actor at → IsGoing t kept begin e' rows (later actor lsn) prev
    keeps told kept begin more h =
        let going = going_stays (stays.stays told) h in
        let n = next_one t kept begin e1 rows actor at more going in
        going_on t kept begin e1 e' rows actor at prev lsn c n (read_is e1.steps at r r c prev (next_off actor.before n.ds) n.d (step1 told) refl says n.step) (g' told) going

    steps : e.Told → CanGoOff t e rows actor at → NextStep e e' actor
    steps told k =
        let n = next_one t k.kept k.begin e rows actor at k.more k.going in
        let q = read_is e.steps at r r c prev (next_off actor.before n.ds) n.d (what told) refl says n.step in
        record { d = n.d; ds = n.ds; opened_is = n.is; lsn = lsn; steps_are = logged_steps n.d n.ds q }
      where
        logged_steps : (d : Open Changing) (ds : List (Open Changing)) → IsRead c prev d (next_off actor.before ds) → e'.steps ≡ stepped e.steps lsn (PhysComp actor.txn.0 actor.last (next_off actor.before ds) (comp_of d.change))
        logged_steps d ds q = (g' told).steps ∙ (λ j. stepped ((stays.stays told).steps j) lsn (PhysComp actor.txn.0 actor.last (q.before_is j) (comp_of (q.change j))))
