-- The begin and the end of a take-off.
use Rattle.std.proofs.Common.{◌≡◌, ℕ, ◌+◌, ◌*◌, ◌==◌, ◌≤◌, List, [], ◌∷◌, length, Option, Some, None, Bool, true, false, not, sym, ap, subst, ◌∙◌, refl, arith, inl, inr}
use Rattle.std.specs.Prelude.{◌&&◌, if◌then◌else◌, map, Result, Ok, Err, OnOk}
use Rattle.std.proofs.lemmas.Bool.{cases_Bool}
use Rattle.std.proofs.lemmas.Bool.Decides.{nat_tests}
use Rattle.sg_alloc.specs.Flags.{free_of}
use Rattle.sg_alloc.specs.declared.maps.Maps.{Maps}
use Rattle.sg_base.specs.Op.{is_format}
use Rattle.sg_base.specs.Page.{stored}
use Rattle.sg_base.specs.Sheet.{Sheet}
use Rattle.sg_ops.specs.Table.{Table}
use Rattle.sg_record.specs.Changes.{Change as Changing}
use Rattle.sg_recovery.specs.Log.{Open, tally, changes_of}
use Rattle.sg_recovery.specs.Chains.{next_off}
use Rattle.sg_action.specs.States.{State, Kept, Change, Alike, leaf_count, leaf_stored}
use Rattle.sg_action.specs.States.Change.{Page, Write, Paint}
use Rattle.sg_action.specs.Opened.{IsOpened, IsBegun, formats, in_use}
use Rattle.sg_action.proofs.Taking.{begun_again}
use Rattle.sg_actions.specs.Acting.{IsWell, IsChained}
use Rattle.sg_actions.specs.Changes.{meaning}
use Rattle.sg_record.specs.Records.Says.{TopVoid as SaysTopVoid}
use Rattle.sg_record.specs.Shown.{by}
use Rattle.sg_actions.specs.Engine.{EngineView, now_of, ArePagesFit}
use Rattle.sg_actions.specs.Led.{Appended}
use Rattle.sg_actions.specs.Offed.{kept_in, CanTakeOff, TakenOff, ActionOff, IsResumable, AllOff}
use Rattle.sg_actions.specs.Rows.{placed, rows_after, at_rest}
use Rattle.sg_actions.specs.Steps.{Steps, stepped, opened, begin_of, repeated}
use Rattle.sg_actions.specs.Taken.{is_set, takes_page, takes_band}
use Rattle.sg_actions.specs.TakingOff.{AreLinked, AreOnce, IsOff, IsGoing, Voided, left_of}
use Rattle.sg_actions.specs.declared.rows.Actor.{Actor}
use Rattle.sg_actions.specs.declared.rows.Row.{Row}
use Rattle.sg_actions.proofs.Flags.{and_left, and_right}
use Rattle.sg_actions.proofs.Going.{taken_in}
use Rattle.sg_actions.proofs.Offing.{going_of}
use Rattle.sg_actions.proofs.TakenOff.{take_off_begins, changes_are, before_below, off_alike, chain_void, chain_void_system, void_step, taking_later}

-- an open action takes no page twice
pub once_opened : (t : Table) (kept : Kept) (begin : State) (ds : List Change) → IsOpened t kept begin ds → AreOnce ds
once_opened t kept begin [] h = tt
once_opened t kept begin (Write b at before after ∷ ds) h = ((λ n k. refl), once_opened t kept begin ds h.0)
once_opened t kept begin (Paint b at count code position arg before ∷ ds) h = ((λ n k. refl), once_opened t kept begin ds h.0)
once_opened t kept begin (Page m op back ∷ ds) h = (
  (λ n k. elim (cases_Bool (formats (Page m op back) n)) [
    | inl f ↦
        let is : is_format op ≡ true = and_left (is_format op) (n == m) f in
        let same : n ≡ m = (let e : (n == m) ≡ true = and_right (is_format op) (n == m) f in grind (arith, nat_tests, e)) in
        let used : in_use kept ds m ≡ true = taken_in kept ds m (ap (takes_page ds) (sym same) ∙ k) in
        absurd (let e : true ≡ false = sym used ∙ (h.1.takes is).0 in cc)
    | inr f ↦ f
  ]),
  once_opened t kept begin ds h.0,
)

-- the take-off begins
pub off_begins : (t : Table) (limits : State → ℕ → ℕ) (e : EngineView) (maps unfreed : Maps) (rows : List Row) (actor : Actor) → free_of unfreed.pages ≡ 0 → free_of unfreed.bands ≡ 0 → CanTakeOff t limits e maps rows actor
    → IsOff t (kept_in limits t e maps) (begin_of t e.first e.steps) e maps unfreed rows actor actor.last
off_begins t limits e maps unfreed rows actor whole whole_bands can =
    let left : left_of e.steps ≡ opened e.steps = ap (λ (cs : List Changing). map meaning cs) (changes_are e.steps can.chain.closed) in
    record {
      taking = take_off_begins t can.law limits e.base e.first e.steps maps.pages maps.bands e.tail rows actor can.chain can.well;
      pages = λ n. ap (λ (ds : List Change). is_set maps.pages n && not (takes_page ds n)) left;
      used = λ n h. can.well.used n (sym (ap (λ (ds : List Change). takes_page ds n) left) ∙ h);
      once = subst AreOnce (sym left) (once_opened t (kept_in limits t e maps) (begin_of t e.first e.steps) (opened e.steps) can.well.opens);
      whole = whole;
      bands = λ n. ap (λ (ds : List Change). is_set maps.bands n && not (takes_band ds n)) left;
      whole_bands = whole_bands;
      at_is = can.chain.at;
    }

-- and ends where no change is left
pub none_left : (rs : Steps) (actor : Actor) (at : ℕ) → AreLinked rs actor.before (tally rs).opened → at ≡ next_off actor.before (tally rs).opened → at ≡ actor.before → (tally rs).opened ≡ []
none_left rs actor at linked is ends = by_list (tally rs).opened refl
  where
    by_list : (es : List (Open Changing)) → (tally rs).opened ≡ es → (tally rs).opened ≡ []
    by_list [] e = e
    by_list (d ∷ ds) e =
        let below = before_below rs actor.before d ds (subst (λ (es : List (Open Changing)). AreLinked rs actor.before es) e linked) in
        let here : at ≡ d.lsn = is ∙ ap (next_off actor.before) e in
        absurd (omega (arith, below, here, ends))

fit_leaf : (o : Option Sheet) → ((p : Sheet) → o ≡ Some p → 4 * length p.slots + stored p.slots ≤ 4072) → 4 * leaf_count o + leaf_stored o ≤ 4072
fit_leaf None h = omega arith
fit_leaf (Some p) h = h p refl

-- the chain behind the record that all is off
voided_chain : (e1 e' : EngineView) (rows rows' : List Row) (now new : Actor) (lsn : ℕ) → Appended e1 e' (by now.txn.0 now.last (SaysTopVoid now.before)) lsn → new ≡ at_rest → rows' ≡ rows_after rows now.txn lsn
    → IsChained e1.base (stepped e1.steps lsn (void_step now)) e'.tail (rows_after rows now.txn lsn) at_rest → IsChained e'.base e'.steps e'.tail rows' new
voided_chain e1 e' rows rows' now new lsn g rest is_rows h =
    subst (λ (x : Actor). IsChained e'.base e'.steps e'.tail rows' x) (sym rest)
    (subst (λ (n : ℕ). IsChained n e'.steps e'.tail rows' at_rest) (sym g.base)
    (subst (λ (rs : Steps). IsChained e1.base rs e'.tail rows' at_rest) (sym g.steps)
    (subst (λ (xs : List Row). IsChained e1.base (stepped e1.steps lsn (void_step now)) e'.tail xs at_rest) (sym is_rows) h)))

pub taken_off : (t : Table) (limits : State → ℕ → ℕ) (e e1 e' : EngineView) (maps maps' unfreed' : Maps) (entry rows rows' : List Row) (actor now new : Actor) (at : ℕ) → (e.Told → CanTakeOff t limits e maps entry actor) → (e1.Told → e.Told) → now.txn ≡ actor.txn
    → (e.Told → e1.Told → IsOff t (kept_in limits t e maps) (begin_of t e.first e.steps) e1 maps' unfreed' rows now at) → at ≡ now.before → free_of unfreed'.pages ≡ 0 → free_of unfreed'.bands ≡ 0 → Voided e1 e' rows rows' now new → (e'.Told → ArePagesFit (now_of t e'))
    → TakenOff t limits e e' maps maps' unfreed' rows' actor new
taken_off t limits e e1 e' maps maps' unfreed' entry rows rows' actor now new at can back who off ends whole whole_bands v fit = record {
  told = λ told. back (v.told told);
  alike = λ told. alike (back (v.told told)) (v.told told);
  pages = λ told n. sym (flag n (back (v.told told)) (v.told told));
  bands = λ told n. sym (flag_bands n (back (v.told told)) (v.told told));
  rest = v.rest;
  none = whole;
  none_bands = whole_bands;
  chain = λ told. chain (back (v.told told)) (v.told told);
  well = λ told. well told (back (v.told told)) (v.told told);
}
  where
    kept : Kept
    kept = kept_in limits t e maps

    none : e.Told → e1.Told → (tally e1.steps).opened ≡ []
    none a b = let h = off a b in none_left e1.steps now at h.taking.running.linked h.at_is ends

    same_now : e1.Told → now_of t e' ≡ now_of t e1
    same_now b = λ j. repeated t ((v.logged b).first j) ((v.logged b).steps j)

    alike : e.Told → e1.Told → Alike (kept_in limits t e maps) (now_of t e') (begin_of t e.first e.steps)
    alike a b = subst (λ (x : State). Alike (kept_in limits t e maps) x (begin_of t e.first e.steps)) (sym (same_now b))
        (off_alike t (kept_in limits t e maps) (begin_of t e.first e.steps) e1.base e1.steps (now_of t e1) e1.tail rows now (none a b) (off a b).taking)

    flag : (n : ℕ) → e.Told → e1.Told → (kept_in limits t e maps).pages n ≡ is_set maps'.pages n
    flag n a b = sym ((off a b).pages n) ∙ (ap (λ (es : List (Open Changing)). is_set maps'.pages n && not (takes_page (map meaning (changes_of es)) n)) (none a b) ∙ and_true (is_set maps'.pages n))
      where
        and_true : (c : Bool) → (c && true) ≡ c
        and_true true = refl
        and_true false = refl

    flag_bands : (n : ℕ) → e.Told → e1.Told → (kept_in limits t e maps).bands n ≡ is_set maps'.bands n
    flag_bands n a b = sym ((off a b).bands n) ∙ (ap (λ (es : List (Open Changing)). is_set maps'.bands n && not (takes_band (map meaning (changes_of es)) n)) (none a b) ∙ and_true (is_set maps'.bands n))
      where
        and_true : (c : Bool) → (c && true) ≡ c
        and_true true = refl
        and_true false = refl

    chain_by : (b : Bool) → (now.txn.0 == 0) ≡ b → e.Told → e1.Told → IsChained e1.base (stepped e1.steps v.lsn (void_step now)) e'.tail (if b then rows else placed rows now.txn.0 (record { txn = now.txn; last = v.lsn })) at_rest
    chain_by true z a b = chain_void_system t (kept_in limits t e maps) (begin_of t e.first e.steps) e1.base e1.steps (now_of t e1) v.lsn e'.tail rows now (v.logged b).tail (grind (arith, nat_tests, z)) (none a b) (taking_later (off a b).taking (v.logged b).number)
    chain_by false z a b = chain_void t (kept_in limits t e maps) (begin_of t e.first e.steps) e1.base e1.steps (now_of t e1) v.lsn e'.tail rows now (record { txn = now.txn; last = v.lsn }) (v.logged b).tail
        (λ k. absurd (let one : (now.txn.0 == 0) ≡ true = grind (arith, nat_tests, k) in let two : true ≡ false = sym one ∙ z in cc)) refl refl (none a b) (taking_later (off a b).taking (v.logged b).number)

    chain : e.Told → e1.Told → IsChained e'.base e'.steps e'.tail rows' new
    chain a b = voided_chain e1 e' rows rows' now new v.lsn (v.logged b) v.rest v.rows_are (chain_by (now.txn.0 == 0) refl a b)

    well : e'.Told → e.Told → e1.Told → IsWell t limits (begin_of t e'.first e'.steps) (opened e'.steps) maps'.pages maps'.bands
    well told a b =
        let begun : IsBegun (kept_in limits t e maps) (now_of t e') = begun_again (kept_in limits t e maps) (begin_of t e.first e.steps) (now_of t e') (can a).well.begun (alike a b) in
        let void : IsWell t limits (now_of t e') [] maps'.pages maps'.bands = record {
          begun = λ n h. begun n (flag n a b ∙ and_left (is_set maps'.pages n) true h);
          fit = λ n h. fit_leaf ((now_of t e').pages n) (λ p is. fit told n p is);
          opens = tt;
          well = tt;
          used = λ n h. absurd (let z : false ≡ true = h in cc);
        } in
        subst (λ (rs : Steps). IsWell t limits (begin_of t e'.first rs) (opened rs) maps'.pages maps'.bands) (sym (v.logged b).steps)
        (subst (λ (rs : Steps). IsWell t limits (repeated t e'.first rs) [] maps'.pages maps'.bands) (v.logged b).steps void)

pub on_ok : {T F : Type 0} {P Q : Type 0} (r : Result T F) → (P → Q) → OnOk r P → OnOk r Q
on_ok (Ok x) f h = f h
on_ok (Err e) f h = tt

-- all of it is off
pub action_off : (t : Table) (kept : Kept) (begin : State) (e1 e' : EngineView) (rows rows' : List Row) (now new : Actor) (at : ℕ) → e1.Told → IsGoing t kept begin e1 rows now at → at ≡ now.before → Voided e1 e' rows rows' now new
    → ActionOff t kept begin e' rows' new
action_off t kept begin e1 e' rows rows' now new at told h ends v = record {
  alike = subst (λ (x : State). Alike kept x begin) (sym (λ j. repeated t ((v.logged told).first j) ((v.logged told).steps j))) (off_alike t kept begin e1.base e1.steps (now_of t e1) e1.tail rows now none h.taking);
  chain = voided_chain e1 e' rows rows' now new v.lsn (v.logged told) v.rest v.rows_are (chain_by (now.txn.0 == 0) refl);
  rest = v.rest;
}
  where
    none : (tally e1.steps).opened ≡ []
    none = none_left e1.steps now at h.taking.running.linked h.at_is ends

    chain_by : (b : Bool) → (now.txn.0 == 0) ≡ b → IsChained e1.base (stepped e1.steps v.lsn (void_step now)) e'.tail (if b then rows else placed rows now.txn.0 (record { txn = now.txn; last = v.lsn })) at_rest
    chain_by true z = chain_void_system t kept begin e1.base e1.steps (now_of t e1) v.lsn e'.tail rows now (v.logged told).tail (grind (arith, nat_tests, z)) none (taking_later h.taking (v.logged told).number)
    chain_by false z = chain_void t kept begin e1.base e1.steps (now_of t e1) v.lsn e'.tail rows now (record { txn = now.txn; last = v.lsn }) (v.logged told).tail
        (λ k. absurd (let one : (now.txn.0 == 0) ≡ true = grind (arith, nat_tests, k) in let two : true ≡ false = sym one ∙ z in cc)) refl refl none (taking_later h.taking (v.logged told).number)

pub all_off_now : (t : Table) (limits : State → ℕ → ℕ) (kept : Kept) (begin : State) (e1 e' : EngineView) (maps unfreed : Maps) (rows rows' : List Row) (now new : Actor) (at : ℕ) → e1.Told → IsResumable t kept begin e1 maps unfreed rows now at → at ≡ now.before → Voided e1 e' rows rows' now new → ArePagesFit (now_of t e')
    → AllOff t limits kept begin e' maps rows' new
all_off_now t limits kept begin e1 e' maps unfreed rows rows' now new at told h ends v fit = record {
  alike = gone.alike;
  pages = flag;
  bands = flag_bands;
  chain = gone.chain;
  well =
      let begun : IsBegun kept (now_of t e') = begun_again kept begin (now_of t e') h.begun gone.alike in
      let void : IsWell t limits (now_of t e') [] maps.pages maps.bands = record {
        begun = λ n k. begun n (sym (flag n) ∙ and_left (is_set maps.pages n) true k);
        fit = λ n k. fit_leaf ((now_of t e').pages n) (λ p is. fit n p is);
        opens = tt;
        well = tt;
        used = λ n k. absurd (let z : false ≡ true = k in cc);
      } in
      subst (λ (rs : Steps). IsWell t limits (begin_of t e'.first rs) (opened rs) maps.pages maps.bands) (sym (v.logged told).steps)
      (subst (λ (rs : Steps). IsWell t limits (repeated t e'.first rs) [] maps.pages maps.bands) (v.logged told).steps void);
}
  where
    gone : ActionOff t kept begin e' rows' new
    gone = action_off t kept begin e1 e' rows rows' now new at told (going_of h.off) ends v

    none : (tally e1.steps).opened ≡ []
    none = none_left e1.steps now at h.off.taking.running.linked h.off.at_is ends

    and_true : (c : Bool) → (c && true) ≡ c
    and_true true = refl
    and_true false = refl

    flag : (n : ℕ) → is_set maps.pages n ≡ kept.pages n
    flag n = sym (sym (h.off.pages n) ∙ (ap (λ (es : List (Open Changing)). is_set maps.pages n && not (takes_page (map meaning (changes_of es)) n)) none ∙ and_true (is_set maps.pages n)))

    flag_bands : (n : ℕ) → is_set maps.bands n ≡ kept.bands n
    flag_bands n = sym (sym (h.off.bands n) ∙ (ap (λ (es : List (Open Changing)). is_set maps.bands n && not (takes_band (map meaning (changes_of es)) n)) none ∙ and_true (is_set maps.bands n)))

-- the same of equal parts
pub off_same : {t : Table} {kept : Kept} {begin : State} {e : EngineView} {maps unfreed unfreed' : Maps} {rows rows' : List Row} {actor : Actor} {at : ℕ} → unfreed' ≡ unfreed → rows' ≡ rows → IsOff t kept begin e maps unfreed rows actor at → IsOff t kept begin e maps unfreed' rows' actor at
off_same {t} {kept} {begin} {e} {maps} {unfreed} {unfreed'} {rows} {rows'} {actor} {at} a b h =
    subst (λ (m : Maps). IsOff t kept begin e maps m rows' actor at) (sym a) (subst (λ (rs : List Row). IsOff t kept begin e maps unfreed rs actor at) (sym b) h)

pub taken_same : {t : Table} {limits : State → ℕ → ℕ} {e e' : EngineView} {maps m m' u u' : Maps} {rows : List Row} {actor new : Actor} → m' ≡ m → u' ≡ u → TakenOff t limits e e' maps m u rows actor new → TakenOff t limits e e' maps m' u' rows actor new
taken_same {t} {limits} {e} {e'} {maps} {m} {m'} {u} {u'} {rows} {actor} {new} a b h =
    subst (λ (x : Maps). TakenOff t limits e e' maps x u' rows actor new) (sym a) (subst (λ (x : Maps). TakenOff t limits e e' maps m x rows actor new) (sym b) h)

pub going_same : {t : Table} {kept : Kept} {begin : State} {e : EngineView} {rows rows' : List Row} {actor : Actor} {at : ℕ} → rows' ≡ rows → IsGoing t kept begin e rows actor at → IsGoing t kept begin e rows' actor at
going_same {t} {kept} {begin} {e} {rows} {rows'} {actor} {at} b h = subst (λ (rs : List Row). IsGoing t kept begin e rs actor at) (sym b) h

pub all_same : {t : Table} {limits : State → ℕ → ℕ} {kept : Kept} {begin : State} {e : EngineView} {m m' : Maps} {rows : List Row} {actor : Actor} → m' ≡ m → AllOff t limits kept begin e m rows actor → AllOff t limits kept begin e m' rows actor
all_same {t} {limits} {kept} {begin} {e} {m} {m'} {rows} {actor} a h = subst (λ (x : Maps). AllOff t limits kept begin e x rows actor) (sym a) h
