-- A band that is taken, with zeros filled in.
use Rattle.std.proofs.Common.{◌≡◌, ◌≢◌, ◌⊎◌, ◌==◌, ℕ, ◌+◌, ◌-◌, ◌<◌, ◌≤◌, List, [], ◌∷◌, ◌++◌, length, take, drop, slice_index, slice_get, slice_set, Option, Some, None, Bool, true, false, not, sym, ap, subst, ◌∙◌, refl, arith, inl, inr}
use Rattle.std.specs.Prelude.{◌&&◌, ◌||◌, if◌then◌else◌, Result, Ok, IfOk, is_some, get_or}
use mathlib.Core.Logic.{∥∥₁_elim}
use Rattle.std.proofs.Props.{props}
use Rattle.std.proofs.lemmas.Bool.{cases_eq, cases_lt}
use Rattle.std.proofs.lemmas.Bool.Decides.{nat_tests}
use Rattle.std.proofs.lemmas.List.{length-take-le, get_or-take, get_or_append_left, get_or-append_right, get_or_past, append_assoc, length-set}
use Rattle.std.proofs.lemmas.List.FromFn.{get_or-map-range_with_len}
use Rattle.std.proofs.lemmas.Option.{slice_get_within, slice_get-get_or}
use Rattle.sg_alloc.specs.Flags.{free_of}
use Rattle.sg_alloc.specs.declared.maps.Maps.{Maps}
use Rattle.sg_alloc.proofs.Counted.{one_less}
use Rattle.sg_base.specs.Overwritten.{overwritten}
use Rattle.sg_base.specs.Sheet.{Sheet}
use Rattle.sg_ops.proofs.Rendering.{length-rendered}
use Rattle.sg_ops.specs.Laws.{IsLawful}
use Rattle.sg_ops.specs.Meaning.{RangeMeaning}
use Rattle.sg_ops.specs.Shipped.{fill_meaning}
use Rattle.sg_ops.specs.Table.{Table, fresh_table, range_at, rendered, byte_of}
use Rattle.sg_recovery.specs.Log.Record.{Change as ChangeStep}
use Rattle.sg_record.specs.Changes.Change.{SegOp}
use Rattle.sg_record.specs.Ranges.{IsRecord}
use Rattle.sg_record.specs.Records.Says.{Changed as SaysChanged}
use Rattle.sg_record.specs.Shown.{by}
use Rattle.sg_action.specs.States.{State, Change, Kept, apply}
use Rattle.sg_action.specs.Opened.{IsOpened, IsBegun, AreFit, OpenWell}
use Rattle.sg_action.proofs.Opened.{one_here, one_there}
use Rattle.sg_space.specs.Bands.{TookBand}
use Rattle.sg_actions.specs.Acting.{IsWell}
use Rattle.sg_actions.specs.Engine.{EngineView, EngineSeen, EngineCounts, led}
use Rattle.sg_actions.specs.Images.{Recovering}
use Rattle.sg_actions.specs.Later.{Later, acts_at}
use Rattle.sg_actions.specs.Onward.{later_on}
use Rattle.sg_space.specs.declared.space.SpaceFault.{SpaceFault}
use Rattle.sg_actions.specs.Painting.{AreBandsWhole, fill_with}
use Rattle.sg_actions.specs.Steps.{Steps, stepped, opened, begin_of}
use Rattle.sg_actions.specs.Taken.{is_set, is_there, takes_band, fills, kept_of, units_there, writes_band, AreFlags}
use Rattle.sg_actions.specs.View.{acts_view, MayGive, MayGiveNow, IsKept, HasFreedNone}
use Rattle.sg_actions.specs.declared.rows.Actor.{Actor}
use Rattle.sg_actions.specs.declared.rows.Row.{Row}
use Rattle.sg_actions.proofs.Acting.{acting_change}
use Rattle.sg_actions.proofs.Banded.{Fill}
use Rattle.sg_actions.proofs.Calling.{MayGoOn, LogsBy, later_log, made_log}
use Rattle.sg_actions.proofs.Chained.{later}
use Rattle.sg_actions.proofs.Flags.{set_by, at_there, and_both, written_in}
use Rattle.sg_actions.proofs.Going.{kept_same}
use Rattle.sg_actions.proofs.Led.{Made}
use Rattle.sg_actions.proofs.Sets.{leaf_set, bytes_set, steps_set}
use Rattle.sg_actions.proofs.Taking.{set_here, set_there, none_freed}

-- ZEROS

fill_at : (op : Option RangeMeaning) → op ≡ Some fill_meaning → (pos count k : ℕ) → k < count → slice_index (rendered op [] pos count) k ≡ 0
unfolding rendered byte_of
fill_at op e pos count k below = get_or-map-range_with_len _ 0 count k k 0 below (omega arith) ∙ ap (λ (o : Option RangeMeaning). byte_of o [] (pos + k)) e

shape : (xs ys : List ℕ) (at : ℕ) → overwritten xs at ys ≡ take at xs ++ (ys ++ drop (at + length ys) xs)
shape xs ys at = append_assoc (take at xs) ys (drop (at + length ys) xs)

over_before : (xs ys : List ℕ) (at k : ℕ) → at ≤ length xs → k < at → slice_index (overwritten xs at ys) k ≡ slice_index xs k
over_before xs ys at k h below =
    let f : length (take at xs) ≡ at = length-take-le at xs h in
    ap (λ (zs : List ℕ). slice_index zs k) (shape xs ys at) ∙ get_or_append_left (take at xs) (ys ++ drop (at + length ys) xs) 0 k (omega (arith, f, below)) ∙ get_or-take at xs k 0 below

over_inside : (xs ys : List ℕ) (at k : ℕ) → at ≤ length xs → k < length ys → slice_index (overwritten xs at ys) (at + k) ≡ slice_index ys k
over_inside xs ys at k h below =
    let e : at + k - at ≡ k = omega arith in
    ap (λ (zs : List ℕ). slice_index zs (at + k)) (shape xs ys at) ∙ get_or-append_right (take at xs) (ys ++ drop (at + length ys) xs) at (at + k) 0 (length-take-le at xs h) (omega arith)
    ∙ (ap (λ (n : ℕ). slice_index (ys ++ drop (at + length ys) xs) n) e
    ∙ get_or_append_left ys (drop (at + length ys) xs) 0 k below)

zeros_on : (op : Option RangeMeaning) → op ≡ Some fill_meaning → (xs : List ℕ) (at count : ℕ) → at ≤ length xs → ((k : ℕ) → k < at → slice_index xs k ≡ 0) → (k : ℕ) → k < at + count → slice_index (overwritten xs at (rendered op [] 0 count)) k ≡ 0
zeros_on op e xs at count low zero k below = elim (cases_lt k at) [
  | inl a ↦ over_before xs (rendered op [] 0 count) at k low a ∙ zero k a
  | inr a ↦
      let j : ℕ = k - at in
      let is : at + j ≡ k = omega (arith, a) in
      let less : j < count = omega (arith, a, below) in
      let long : length (rendered op [] 0 count) ≡ count = length-rendered op [] 0 count in
      ap (slice_index (overwritten xs at (rendered op [] 0 count))) (sym is) ∙ (over_inside xs (rendered op [] 0 count) at j low (omega (arith, less, long)) ∙ fill_at op e 0 count j less)
]

-- WHAT IS KEPT of the flags

fills_here : (b at : ℕ) → fills (Fill b at) b ≡ true
fills_here b at = grind (arith, nat_tests)

fills_there : (b at q : ℕ) → q ≢ b → fills (Fill b at) q ≡ false
fills_there b at q ne = grind (arith, nat_tests, ne)

and_false : (a b : Bool) → b ≡ false → (a && b) ≡ false
and_false true b e = e
and_false false b e = refl

no : true ≡ false → ⊥
no e = cc

takes_here : (b at : ℕ) (ds : List Change) → takes_band (Fill b at ∷ ds) b ≡ true
takes_here b at ds = ap (λ (x : Bool). x || takes_band ds b) (fills_here b at)

takes_there : (b at q : ℕ) (ds : List Change) → q ≢ b → takes_band (Fill b at ∷ ds) q ≡ takes_band ds q
takes_there b at q ds ne = ap (λ (x : Bool). x || takes_band ds q) (fills_there b at q ne)

kept_first : (limits : State → ℕ → ℕ) (begin : State) (pages bands : List Bool) (ds : List Change) (b at : ℕ) → slice_get bands b ≡ Some false
    → kept_of limits pages (slice_set bands b true) begin (Fill b at ∷ ds) ≡ kept_of limits pages bands begin ds
kept_first limits begin pages bands ds b at free = kept_same limits begin pages pages bands (slice_set bands b true) ds (Fill b at ∷ ds) (λ n. refl) each
  where
    each : (n : ℕ) → (is_set (slice_set bands b true) n && not (takes_band (Fill b at ∷ ds) n)) ≡ (is_set bands n && not (takes_band ds n))
    each n = elim (cases_eq n b) [
      | inl same ↦
          let gone : not (takes_band (Fill b at ∷ ds) n) ≡ false = ap (λ (k : ℕ). not (takes_band (Fill b at ∷ ds) k)) same ∙ ap not (takes_here b at ds) in
          let was : is_set bands n ≡ false = ap (is_set bands) same ∙ set_by bands b false free in
          and_false (is_set (slice_set bands b true) n) (not (takes_band (Fill b at ∷ ds) n)) gone ∙ sym (ap (λ (x : Bool). x && not (takes_band ds n)) was)
      | inr ne ↦ λ j. set_there bands b n true ne j && not (takes_there b at n ds ne j)
    ]

kept_next : (limits : State → ℕ → ℕ) (begin : State) (pages bands : List Bool) (ds : List Change) (b at : ℕ) → takes_band ds b ≡ true
    → kept_of limits pages bands begin (Fill b at ∷ ds) ≡ kept_of limits pages bands begin ds
kept_next limits begin pages bands ds b at taken = kept_same limits begin pages pages bands bands ds (Fill b at ∷ ds) (λ n. refl) each
  where
    each : (n : ℕ) → (is_set bands n && not (takes_band (Fill b at ∷ ds) n)) ≡ (is_set bands n && not (takes_band ds n))
    each n = elim (cases_eq n b) [
      | inl same ↦ ap (λ (x : Bool). is_set bands n && not x) ((ap (takes_band (Fill b at ∷ ds)) same ∙ takes_here b at ds) ∙ sym (ap (takes_band ds) same ∙ taken))
      | inr ne ↦ ap (λ (x : Bool). is_set bands n && not x) (takes_there b at n ds ne)
    ]

-- THE OPEN ACTION GOES ON with a fill, by what is kept
goes_on_fill : (t : Table) (limits : State → ℕ → ℕ) (begin : State) (ds : List Change) (pages bands bands' : List Bool) (b at : ℕ) → kept_of limits pages bands' begin (Fill b at ∷ ds) ≡ kept_of limits pages bands begin ds → (is_set bands b && not (takes_band ds b)) ≡ false
    → IsWell t limits begin ds pages bands → IsWell t limits begin (Fill b at ∷ ds) pages bands'
goes_on_fill t limits begin ds pages bands bands' b at same free w = record {
  begun = subst (λ (k : Kept). IsBegun k begin) (sym same) w.begun;
  fit = subst (λ (k : Kept). AreFit k [] begin) (sym same) w.fit;
  opens = subst (λ (k : Kept). IsOpened t k begin (Fill b at ∷ ds)) (sym same) (w.opens, free);
  well = subst (λ (k : Kept). OpenWell t k begin (Fill b at ∷ ds)) (sym same) (w.well, tt);
  used = w.used;
}

may_fill : (limits : State → ℕ → ℕ) (begin : State) (ds : List Change) (pages bands bands' : List Bool) (b at q n : ℕ) → kept_of limits pages bands' begin (Fill b at ∷ ds) ≡ kept_of limits pages bands begin ds → MayGive (kept_of limits pages bands begin ds) ds q n
    → MayGive (kept_of limits pages bands' begin (Fill b at ∷ ds)) (Fill b at ∷ ds) q n
may_fill limits begin ds pages bands bands' b at q n same h = record { grown = h.grown; within = subst (λ (k : Kept). k.pages q ≡ true → n ≤ k.slots q) (sym same) h.within }

-- what is kept goes on with a fill, whatever number its record has
fill_on : (t : Table) (limits : State → ℕ → ℕ) (e : EngineView) (maps maps' : Maps) (rows : List Row) (actor : Actor) (b at : ℕ) → maps'.pages ≡ maps.pages
    → kept_of limits maps.pages maps'.bands (begin_of t e.first e.steps) (Fill b at ∷ opened e.steps) ≡ kept_of limits maps.pages maps.bands (begin_of t e.first e.steps) (opened e.steps) → (is_set maps.bands b && not (takes_band (opened e.steps) b)) ≡ false
    → IsKept t limits e maps rows actor → MayGoOn t limits e maps' rows actor (SegOp (fill_with b at))
fill_on t limits e maps maps' rows actor b at pages same free k lsn next above below = acting_change (SegOp (fill_with b at)) lsn next above below
    (λ w. subst (λ (ps : List Bool). IsWell t limits (begin_of t e.first e.steps) (Fill b at ∷ opened e.steps) ps maps'.bands) (sym pages)
    (goes_on_fill t limits (begin_of t e.first e.steps) (opened e.steps) maps.pages maps.bands maps'.bands b at same free w)) k

-- what is known of the call that logs a fill
pub record FillCall (recovers : Table → Recovering) (e e' : EngineSeen) (m m' : Table → State → Type 0) (actor : Actor) (b at : ℕ) (r : Result ℕ SpaceFault) : Type 0 where
  pub logs : (t : Table) → LogsBy recovers t e e' m m' (by actor.txn.0 actor.last (SaysChanged (SegOp (fill_with b at)))) r
  pub range : IsRecord (by actor.txn.0 actor.last (SaysChanged (SegOp (fill_with b at))))
  pub some : e.Told → ∥ ((t : Table) × (from : State) × m t from) ∥₁
  pub wide : (t : Table) (from : State) → m t from → e.Told → AreBandsWhole e.now

-- what was taken at the begin is the same with a fill, and the band wasn't taken then
pub record FillsIn (limits : State → ℕ → ℕ) (e : EngineSeen) (maps maps' : Maps) (b at : ℕ) : Type 0 where
  pub pages : maps'.pages ≡ maps.pages
  pub bands : length maps'.bands ≡ length maps.bands
  pub same : e.Told → (start : State) → kept_of limits maps.pages maps'.bands start (Fill b at ∷ opened e.steps) ≡ kept_of limits maps.pages maps.bands start (opened e.steps)
  pub free : e.Told → (is_set maps.bands b && not (takes_band (opened e.steps) b)) ≡ false

-- one fill, also one that fails
fill_later : {recovers : Table → Recovering} {limits : State → ℕ → ℕ} {e e' : EngineSeen} {m m' : Table → State → Type 0} (begin : State) {maps maps' : Maps} (rows : List Row) {actor new : Actor} {begun : Bool} {b at : ℕ} {r : Result ℕ SpaceFault} → begun ≡ true → FillCall recovers e e' m m' actor b at r
    → IfOk r (λ lsn. new ≡ later actor lsn) → FillsIn limits e maps maps' b at → (t : Table) → Later recovers limits t (acts_at e m begin maps rows actor begun) (acts_at e' m' begin maps' rows new begun)
fill_later {recovers} {limits} {e} {e'} {m} {m'} begin {maps} {maps'} rows {actor} {new} {begun} {b} {at} {r} opens h is f t =
    later_log recovers limits t e e' m m' begin maps maps' rows actor new begun (SegOp (fill_with b at)) r opens h.range (h.logs t) is (record {
      on = λ from s told k. fill_on t limits (led from e) maps maps' rows actor b at f.pages (f.same told (begin_of t from e.steps)) (f.free told) k;
      same = λ from s told. (λ j. kept_of limits (f.pages j) maps'.bands (begin_of t from e.steps) (Fill b at ∷ opened e.steps)) ∙ f.same told (begin_of t from e.steps);
      pages = ap length f.pages;
      bands = f.bands;
      holds = λ o. absurd (no (sym o));
    })

-- WHAT THE ENGINE SHOWS behind a fill
record FilledNow (e e' : EngineSeen) (b at txn last : ℕ) : Type 0 where
  pub pages : e'.now.pages ≡ e.now.pages
  pub others : (q : ℕ) → q ≢ b → e'.now.bands q ≡ e.now.bands q
  pub zero : ((k : ℕ) → k < at → slice_index (e.now.bands b) k ≡ 0) → (k : ℕ) → k < at + 8192 → slice_index (e'.now.bands b) k ≡ 0
  pub steps : e'.steps ≡ stepped e.steps e'.tried (ChangeStep txn last (SegOp (fill_with b at)))

filled_prop : (e e' : EngineSeen) (b at txn last : ℕ) → IsProp (FilledNow e e' b at txn last)
filled_prop e e' b at txn last = hlevel (props, leaf_set, bytes_set, steps_set)

filled_by : {t : Table} {e e' : EngineSeen} {b at txn last : ℕ} → IsLawful t → AreBandsWhole e.now → at ≤ 32768 → Made t e e' (ChangeStep txn last (SegOp (fill_with b at))) e'.tried → FilledNow e e' b at txn last
filled_by {t} {e} {e'} {b} {at} law wide within m = record {
  pages = ap (λ (x : State). x.pages) now;
  others = λ q ne. ap (λ (x : State). x.bands q) now ∙ one_there e.now.bands b q (overwritten (e.now.bands b) at (rendered (range_at t 1) [] 0 8192)) ne;
  zero = λ low k below.
      let size = wide b in
      ap (λ (x : State). slice_index (x.bands b) k) now ∙ (ap (λ (xs : List ℕ). slice_index xs k) (one_here e.now.bands b (overwritten (e.now.bands b) at (rendered (range_at t 1) [] 0 8192)))
      ∙ zeros_on (range_at t 1) law.has_fill (e.now.bands b) at 8192 (omega (arith, size, within)) low k below);
  steps = m.steps;
}
  where
    now : e'.now ≡ apply t e.now (Fill b at)
    now = m.now

filled_now : {recovers : Table → Recovering} {e e' : EngineSeen} {m m' : Table → State → Type 0} {actor : Actor} {b at : ℕ} {r : Result ℕ SpaceFault} → FillCall recovers e e' m m' actor b at r → at ≤ 32768 → e.Told → e'.Told → FilledNow e e' b at actor.txn.0 actor.last
filled_now {recovers} {e} {e'} {m} {m'} {actor} {b} {at} h within told told' = ∥∥₁_elim (h.some told) (filled_prop e e' b at actor.txn.0 actor.last) (λ x.
    filled_by ((h.logs x.0).law x.1 x.2) (h.wide x.0 x.1 x.2 told) within (made_log recovers m m' ∣ (x.1, x.2) ∣₁ (h.logs x.0) refl told told'))

-- so the open action goes on with it
pub opens_one : {recovers : Table → Recovering} {e e' : EngineSeen} {m m' : Table → State → Type 0} {actor : Actor} {b at lsn : ℕ} → FillCall recovers e e' m m' actor b at (Ok lsn) → at ≤ 32768 → e'.Told → opened e'.steps ≡ Fill b at ∷ opened e.steps
opens_one {recovers} {e} {e'} h within told' = ap opened (filled_now h within ((h.logs fresh_table).grows.counts.told told') told').steps

-- A BAND IS BEING FILLED, up to that byte
pub record Filling (recovers : Table → Recovering) (limits : State → ℕ → ℕ) (e0 e : EngineSeen) (m0 m : Table → State → Type 0) (begin : State) (maps0 maps : Maps) (rows : List Row) (actor0 actor : Actor) (begun : Bool) (b to : ℕ) : Type 0 where
  pub told : e0.Told → e.Told
  pub back : e.Told → e0.Told
  pub takes : e.Told → takes_band (opened e.steps) b ≡ true
  pub may : e.Told → (q n : ℕ) → MayGiveNow limits begin e0.steps maps0.pages maps0.bands q n → MayGiveNow limits begin e.steps maps.pages maps.bands q n
  pub pages : e.Told → e.now.pages ≡ e0.now.pages
  pub others : e.Told → (q : ℕ) → q ≢ b → e.now.bands q ≡ e0.now.bands q
  pub zero : e.Told → (k : ℕ) → k < to → slice_index (e.now.bands b) k ≡ 0
  pub wrote : e.Told → (n : ℕ) → writes_band (opened e.steps) n ≡ true → (writes_band (opened e0.steps) n ≡ true) ⊎ (n ≡ b)
  pub later : (t : Table) → Later recovers limits t (acts_at e0 m0 begin maps0 rows actor0 begun) (acts_at e m begin maps rows actor begun)

in_one : (b n : ℕ) (ds : List Change) → ((n == b) || writes_band ds n) ≡ true → (writes_band ds n ≡ true) ⊎ (n ≡ b)
in_one b n ds h = elim (written_in {T = ℕ} b n ds 0 h) as (λ _. (writes_band ds n ≡ true) ⊎ (n ≡ b)) [
  | inl w ↦ inl w.1
  | inr e ↦ inr e
]

written_before : (b n : ℕ) (ds es : List Change) → (writes_band es n ≡ true → (writes_band ds n ≡ true) ⊎ (n ≡ b)) → (writes_band es n ≡ true) ⊎ (n ≡ b) → (writes_band ds n ≡ true) ⊎ (n ≡ b)
written_before b n ds es f (inl w) = f w
written_before b n ds es f (inr e) = inr e

with_told : {T : Type 0} (b n : ℕ) (ds : List Change) → T → (writes_band ds n ≡ true) ⊎ (n ≡ b) → (T × (writes_band ds n ≡ true)) ⊎ (n ≡ b)
with_told b n ds told (inl w) = inl (told, w)
with_told b n ds told (inr e) = inr e

-- one fill more
fills_on : {recovers : Table → Recovering} {limits : State → ℕ → ℕ} {e e' : EngineSeen} {m m' : Table → State → Type 0} (begin : State) {maps maps' : Maps} (rows : List Row) {actor new : Actor} {begun : Bool} {b at lsn : ℕ} → begun ≡ true → FillCall recovers e e' m m' actor b at (Ok lsn)
    → new ≡ later actor lsn → FillsIn limits e maps maps' b at → at ≤ 32768 → (e.Told → (k : ℕ) → k < at → slice_index (e.now.bands b) k ≡ 0) → Filling recovers limits e e' m m' begin maps maps' rows actor new begun b (at + 8192)
fills_on {recovers} {limits} {e} {e'} {m} {m'} begin {maps} {maps'} rows {actor} {new} {begun} {b} {at} {lsn} opens h is f within zero = record {
  told = counts.tells;
  back = counts.told;
  takes = λ told'. subst (λ (rs : Steps). takes_band (opened rs) b ≡ true) (sym (now told').steps) (takes_here b at (opened e.steps));
  may = λ told' q n k. subst (λ (rs : Steps). MayGiveNow limits begin rs maps'.pages maps'.bands q n) (sym (now told').steps)
      (subst (λ (ps : List Bool). MayGive (kept_of limits ps maps'.bands begin (Fill b at ∷ opened e.steps)) (Fill b at ∷ opened e.steps) q n) (sym f.pages)
      (may_fill limits begin (opened e.steps) maps.pages maps.bands maps'.bands b at q n (f.same (counts.told told') begin) k));
  pages = λ told'. (now told').pages;
  others = λ told'. (now told').others;
  zero = λ told'. (now told').zero (zero (counts.told told'));
  wrote = λ told' n w. in_one b n (opened e.steps) (sym (ap (λ (rs : Steps). writes_band (opened rs) n) (now told').steps) ∙ w);
  later = fill_later begin rows opens h is f;
}
  where
    counts : EngineCounts e e' (let r : Result ℕ SpaceFault = Ok lsn in r)
    counts = (h.logs fresh_table).grows.counts

    now : e'.Told → FilledNow e e' b at actor.txn.0 actor.last
    now told' = filled_now h within (counts.told told') told'

-- what was taken at the begin, behind the first fill
same_first : (limits : State → ℕ → ℕ) (begin : State) (maps maps' : Maps) (ds : List Change) (b at : ℕ) → slice_get maps.bands b ≡ Some false → maps'.bands ≡ slice_set maps.bands b true
    → kept_of limits maps.pages maps'.bands begin (Fill b at ∷ ds) ≡ kept_of limits maps.pages maps.bands begin ds
same_first limits begin maps maps' ds b at free bands = ap (λ (bs : List Bool). kept_of limits maps.pages bs begin (Fill b at ∷ ds)) bands ∙ kept_first limits begin maps.pages maps.bands ds b at free

clear_first : (bands : List Bool) (ds : List Change) (b : ℕ) → slice_get bands b ≡ Some false → (is_set bands b && not (takes_band ds b)) ≡ false
clear_first bands ds b free = ap (λ (x : Bool). x && not (takes_band ds b)) (set_by bands b false free)

clear_next : (bands : List Bool) (ds : List Change) (b : ℕ) → takes_band ds b ≡ true → (is_set bands b && not (takes_band ds b)) ≡ false
clear_next bands ds b takes = and_false (is_set bands b) (not (takes_band ds b)) (ap not takes)

-- THE FIRST FILL, also one that fails
pub first_in : (limits : State → ℕ → ℕ) (e : EngineSeen) (maps maps' : Maps) (b : ℕ) → slice_get maps.bands b ≡ Some false → maps'.bands ≡ slice_set maps.bands b true → maps'.pages ≡ maps.pages → FillsIn limits e maps maps' b 0
first_in limits e maps maps' b free bands pages = record {
  pages = pages;
  bands = ap length bands ∙ length-set maps.bands b true;
  same = λ told start. same_first limits start maps maps' (opened e.steps) b 0 free bands;
  free = λ told. clear_first maps.bands (opened e.steps) b free;
}

pub first_later : {recovers : Table → Recovering} {limits : State → ℕ → ℕ} {e e' : EngineSeen} {m m' : Table → State → Type 0} (begin : State) {maps maps' : Maps} (rows : List Row) {actor new : Actor} {begun : Bool} {b : ℕ} {r : Result ℕ SpaceFault} → begun ≡ true → FillCall recovers e e' m m' actor b 0 r
    → IfOk r (λ lsn. new ≡ later actor lsn) → FillsIn limits e maps maps' b 0 → (t : Table) → Later recovers limits t (acts_at e m begin maps rows actor begun) (acts_at e' m' begin maps' rows new begun)
first_later begin rows opens h is f = fill_later begin rows opens h is f

pub filling_first : {recovers : Table → Recovering} {limits : State → ℕ → ℕ} {e e' : EngineSeen} {m m' : Table → State → Type 0} (begin : State) {maps maps' : Maps} (rows : List Row) {actor new : Actor} {begun : Bool} {b lsn : ℕ} → begun ≡ true → FillCall recovers e e' m m' actor b 0 (Ok lsn)
    → new ≡ later actor lsn → FillsIn limits e maps maps' b 0 → Filling recovers limits e e' m m' begin maps maps' rows actor new begun b 8192
filling_first begin rows opens h is f = fills_on begin rows opens h is f (omega arith) (λ told k below. absurd (omega (arith, below)))

-- AND ANOTHER, also one that fails
next_in : {recovers : Table → Recovering} {limits : State → ℕ → ℕ} {e0 e : EngineSeen} {m0 m : Table → State → Type 0} {begin : State} {maps0 maps : Maps} {rows : List Row} {actor0 actor : Actor} {begun : Bool} {b at : ℕ} → Filling recovers limits e0 e m0 m begin maps0 maps rows actor0 actor begun b at → FillsIn limits e maps maps b at
next_in {recovers} {limits} {e0} {e} {m0} {m} {begin} {maps0} {maps} {rows} {actor0} {actor} {begun} {b} {at} h = record {
  pages = refl;
  bands = refl;
  same = λ told start. kept_next limits start maps.pages maps.bands (opened e.steps) b at (h.takes told);
  free = λ told. clear_next maps.bands (opened e.steps) b (h.takes told);
}

pub next_later : {recovers : Table → Recovering} {limits : State → ℕ → ℕ} {e0 e e' : EngineSeen} {m0 m m' : Table → State → Type 0} (begin : State) {maps0 maps : Maps} (rows : List Row) {actor0 actor new : Actor} {begun : Bool} {b at : ℕ} {r : Result ℕ SpaceFault} → begun ≡ true → FillCall recovers e e' m m' actor b at r
    → IfOk r (λ lsn. new ≡ later actor lsn) → Filling recovers limits e0 e m0 m begin maps0 maps rows actor0 actor begun b at → (t : Table) → Later recovers limits t (acts_at e0 m0 begin maps0 rows actor0 begun) (acts_at e' m' begin maps rows new begun)
next_later {recovers} {limits} {e0} {e} {e'} {m0} {m} {m'} begin {maps0} {maps} rows {actor0} {actor} {new} {begun} opens call is h t =
    later_on recovers limits t (acts_at e0 m0 begin maps0 rows actor0 begun) (acts_at e m begin maps rows actor begun) (acts_at e' m' begin maps rows new begun) (h.later t) (fill_later begin rows opens call is (next_in h) t)

pub filling_next : {recovers : Table → Recovering} {limits : State → ℕ → ℕ} {e0 e e' : EngineSeen} {m0 m m' : Table → State → Type 0} (begin : State) {maps0 maps : Maps} (rows : List Row) {actor0 actor new : Actor} {begun : Bool} {b at lsn : ℕ} → begun ≡ true → FillCall recovers e e' m m' actor b at (Ok lsn)
    → new ≡ later actor lsn → at ≤ 32768 → Filling recovers limits e0 e m0 m begin maps0 maps rows actor0 actor begun b at → Filling recovers limits e0 e' m0 m' begin maps0 maps rows actor0 new begun b (at + 8192)
filling_next {recovers} {limits} {e0} {e} {e'} {m0} {m} {m'} begin {maps0} {maps} rows {actor0} {actor} {new} {begun} {b} {at} opens call is within h =
    let f : Filling recovers limits e e' m m' begin maps maps rows actor new begun b (at + 8192) = fills_on begin rows opens call is (next_in h) within h.zero in
    record {
      told = λ z. f.told (h.told z);
      back = λ z. h.back (f.back z);
      takes = f.takes;
      may = λ z q n k. f.may z q n (h.may (f.back z) q n k);
      pages = λ z. f.pages z ∙ h.pages (f.back z);
      others = λ z q ne. f.others z q ne ∙ h.others (f.back z) q ne;
      zero = f.zero;
      wrote = λ z n w. written_before b n (opened e0.steps) (opened e.steps) (h.wrote (f.back z) n) (f.wrote z n w);
      later = λ t. later_on recovers limits t (acts_at e0 m0 begin maps0 rows actor0 begun) (acts_at e m begin maps rows actor begun) (acts_at e' m' begin maps rows new begun) (h.later t) (f.later t);
    }

-- THE SPACE SHOWS THE BAND THAT IS TAKEN
pub shows_take_band : {recovers : Table → Recovering} (limits limits' : State → ℕ → ℕ) (e e' : EngineSeen) {m m' : Table → State → Type 0} (begin : State) (breaks : ℕ) (maps maps' unfreed : Maps) {rows : List Row} {actor actor' : Actor} {begun : Bool} (b at : ℕ) → limits' ≡ limits → AreFlags maps.bands unfreed.bands → slice_get maps.bands b ≡ Some false
    → maps'.bands ≡ slice_set maps.bands b true → maps'.pages ≡ maps.pages → (e.Told → HasFreedNone unfreed) → 32768 ≤ at → (e'.Told → AreBandsWhole e'.now) → Filling recovers limits e e' m m' begin maps maps' rows actor actor' begun b at
    → TookBand (acts_view limits e begun begin breaks maps unfreed) (acts_view limits' e' begun begin breaks maps' unfreed) b
shows_take_band {recovers} limits limits' e e' {m} {m'} begin breaks maps maps' unfreed {rows} {actor} {actor'} {begun} b at same flags free is_bands is_pages freed whole wide h = subst (λ (l : State → ℕ → ℕ). TookBand (acts_view limits e begun begin breaks maps unfreed) (acts_view l e' begun begin breaks maps' unfreed) b) (sym same) (record {
  keeps = record { told = h.told; may_take = λ z. z; may_have = λ q n z told'. h.may told' q n (z (h.back told')) };
  bands = λ told. record {
    was_free = ap (λ (x : Bool). if x && is_set unfreed.bands b then Some (e.now.bands b) else None) (set_by maps.bands b false free);
    fresh = record {
      what = e'.now.bands b;
      is = at_there maps'.bands unfreed.bands (λ n. Some (e'.now.bands n)) b (and_both (is_set maps'.bands b) (is_set unfreed.bands b) (ap (λ (xs : List Bool). is_set xs b) is_bands ∙ set_here maps.bands b true below) (none_freed unfreed.bands b (freed told).bands (omega (arith, below, flags.long))));
      has = record {
        size = wide (h.told told) b;
        zero_at = λ k. elim (cases_lt k at) [
          | inl less ↦ h.zero (h.told told) k less
          | inr far ↦ get_or_past (e'.now.bands b) k 0 (let l = wide (h.told told) b in omega (arith, l, far, whole))
        ];
      };
    };
    others = λ q ne.
        ap (λ (x : Bool). if x && is_set unfreed.bands q then Some (e'.now.bands q) else None) (ap (λ (xs : List Bool). is_set xs q) is_bands ∙ set_there maps.bands b q true ne)
        ∙ ap (λ (xs : List ℕ). if is_there maps.bands unfreed.bands q then Some xs else None) (h.others (h.told told) q ne);
    free = let less = one_less maps.bands b free in let e1 : free_of maps'.bands ≡ free_of (slice_set maps.bands b true) = ap free_of is_bands in omega (arith, less, e1);
    count = ap length is_bands ∙ length-set maps.bands b true;
  };
  pages = λ told. (λ j. units_there (is_pages j) unfreed.pages e'.now.pages) ∙ ap (λ (ps : ℕ → Option Sheet). units_there maps.pages unfreed.pages ps) (h.pages (h.told told));
  small = omega (arith, below, flags.few);
  writes = record { wrote = λ n w. with_told b n (opened e.steps) (h.back w.0) (h.wrote w.0 n w.1) };
})
  where
    below : b < length maps.bands
    below = slice_get_within maps.bands b false free

-- a flag that is set
pub set_flags : (taken unfreed taken' : List Bool) (b : ℕ) → AreFlags taken unfreed → slice_get taken b ≡ Some false → taken' ≡ slice_set taken b true → AreFlags taken' unfreed
set_flags taken unfreed taken' b h free e = subst (λ (xs : List Bool). AreFlags xs unfreed) (sym e) (record {
  long = h.long ∙ sym (length-set taken b true);
  inside = λ n less clear. elim (cases_eq n b) [
    | inl k ↦ ap (is_set (slice_set taken b true)) k ∙ set_here taken b true (slice_get_within taken b false free)
    | inr k ↦ set_there taken b n true k ∙ h.inside n (let l = length-set taken b true in omega (arith, less, l)) clear
  ];
  few = let l = length-set taken b true in omega (arith, l, h.few);
})

-- a record has room for the band, where there aren't more
pub few_band : (bands : List Bool) (b : ℕ) (o : Option Bool) → o ≡ slice_get bands 65536 → is_some o ≡ false → slice_get bands b ≡ Some false → b < 65536
few_band bands b o is none free = elim (cases_lt b 65536) [
  | inl less ↦ less
  | inr far ↦
      let below : b < length bands = slice_get_within bands b false free in
      let there : slice_get bands 65536 ≡ Some (get_or bands 65536 false) = slice_get-get_or bands 65536 false (omega (arith, far, below)) in
      absurd (no (sym (ap is_some (is ∙ there)) ∙ none))
]

pub wide_any : (e : EngineSeen) (m : Table → State → Type 0) → ∥ ((t : Table) × (from : State) × m t from) ∥₁ → ((t : Table) (from : State) → m t from → AreBandsWhole e.now) → AreBandsWhole e.now
wide_any e m some wide b = ∥∥₁_elim some (hlevel props) (λ x. wide x.0 x.1 x.2 b)
