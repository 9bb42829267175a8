-- What a space over an engine shows once a piece of a band is painted.
use Rattle.std.proofs.Common.{◌≡◌, ℕ, ◌+◌, ◌≤◌, List, [], ◌∷◌, length, take, drop, Some, None, Bool, true, sym, ap, subst, ◌∙◌, refl, arith}
use Rattle.std.specs.Prelude.{if◌then◌else◌, IsSome}
use Rattle.std.proofs.lemmas.List.{length-take-le, length-drop}
use Rattle.sg_alloc.specs.declared.maps.Maps.{Maps}
use Rattle.sg_base.specs.Overwritten.{overwritten}
use Rattle.sg_ops.specs.Table.{Table, range_at, rendered}
use Rattle.sg_record.specs.Changes.{BandOp}
use Rattle.sg_record.specs.Changes.Change.{SegOp}
use Rattle.sg_recovery.specs.Log.Record.{Change as ChangeStep}
use Rattle.sg_action.specs.States.{State, Change, apply, made}
use Rattle.sg_action.specs.States.Change.{Paint}
use Rattle.sg_action.specs.Opened.{StoodThere}
use Rattle.sg_action.proofs.Opened.{one_here, one_there}
use Rattle.sg_space.specs.Bands.{Wrote}
use Rattle.sg_actions.specs.Acting.{IsWell}
use Rattle.sg_actions.specs.Painting.{op_with}
use Rattle.sg_actions.specs.Engine.{EngineView, EngineSeen, now_of}
use Rattle.sg_actions.specs.Steps.{Steps, opened, begin_of}
use Rattle.sg_actions.specs.Taken.{is_there, kept_of, units_there, writes_band}
use Rattle.sg_actions.specs.View.{IsKept, acts_view, MayGive, MayGiveNow}
use Rattle.sg_actions.specs.declared.rows.Actor.{Actor}
use Rattle.sg_actions.specs.declared.rows.Row.{Row}
use Rattle.sg_actions.proofs.Acting.{acting_change}
use Rattle.sg_actions.proofs.Calling.{MayGoOn}
use Rattle.sg_actions.proofs.Flags.{there_is, at_there, written_in}
use Rattle.sg_actions.proofs.Led.{Made}
use Rattle.sg_actions.proofs.Repeating.{made_opened}

-- what stood there isn't nothing
pub some_stood : (band : List ℕ) (at count : ℕ) (before : List ℕ) → StoodThere band at count before → 1 ≤ count → 1 ≤ length before
some_stood band at count before s some = let l : length before ≡ length (take count (drop at band)) = ap length s.is in let m : length (take count (drop at band)) ≡ count = length-take-le count (drop at band) (let d = length-drop at band in omega (arith, d, s.within)) in omega (arith, l, m, some)

pub stood_some : (before band : List ℕ) (at count : ℕ) → before ≡ take count (drop at band) → at + count ≤ length band → 1 ≤ count → 1 ≤ length before
stood_some before band at count is within some = some_stood band at count before (record { within = within; is = is }) some

-- THE OPEN ACTION GOES ON with a piece that is painted
pub goes_on_paint : (t : Table) (limits : State → ℕ → ℕ) (begin : State) (ds : List Change) (pages bands : List Bool) (b at count code position : ℕ) (arg before : List ℕ) → StoodThere ((made t begin ds).bands b) at count before → 1 ≤ length before
    → IsWell t limits begin ds pages bands → IsWell t limits begin (Paint b at count code position arg before ∷ ds) pages bands
goes_on_paint t limits begin ds pages bands b at count code position arg [] stood some w = absurd (omega (arith, some))
goes_on_paint t limits begin ds pages bands b at count code position arg (y ∷ before) stood some w = record { begun = w.begun; fit = w.fit; opens = (w.opens, stood); well = (w.well, tt); used = w.used }

may_paint : (limits : State → ℕ → ℕ) (begin : State) (ds : List Change) (pages bands : List Bool) (b at count code position : ℕ) (arg before : List ℕ) (q n : ℕ) → 1 ≤ length before → MayGive (kept_of limits pages bands begin ds) ds q n
    → MayGive (kept_of limits pages bands begin (Paint b at count code position arg before ∷ ds)) (Paint b at count code position arg before ∷ ds) q n
may_paint limits begin ds pages bands b at count code position arg [] q n some h = absurd (omega (arith, some))
may_paint limits begin ds pages bands b at count code position arg (y ∷ before) q n some h = record { grown = h.grown; within = h.within }

same_some : {A : Type 0} (x y : A) → Some x ≡ Some y → x ≡ y
same_some x y h = cc

-- what is kept goes on with it, whatever number its record has
pub paint_on : (t : Table) (limits : State → ℕ → ℕ) (e : EngineView) (maps : Maps) (rows : List Row) (actor : Actor) (b at count code position : ℕ) (arg before : List ℕ) → StoodThere ((now_of t e).bands b) at count before → 1 ≤ length before
    → IsKept t limits e maps rows actor → MayGoOn t limits e maps rows actor (SegOp (op_with b at count code position arg before))
paint_on t limits e maps rows actor b at count code position arg before stood some k lsn next above below = acting_change (SegOp (op_with b at count code position arg before)) lsn next above below
    (goes_on_paint t limits (begin_of t e.first e.steps) (opened e.steps) maps.pages maps.bands b at count code position arg before (subst (λ (x : State). StoodThere (x.bands b) at count before) (sym (made_opened t e.first e.steps)) stood) some) k

-- and what was taken at the begin stays
pub paint_same : (limits : State → ℕ → ℕ) (begin : State) (ds : List Change) (pages bands : List Bool) (b at count code position : ℕ) (arg before : List ℕ) → 1 ≤ length before → kept_of limits pages bands begin (Paint b at count code position arg before ∷ ds) ≡ kept_of limits pages bands begin ds
paint_same limits begin ds pages bands b at count code position arg [] some = absurd (omega (arith, some))
paint_same limits begin ds pages bands b at count code position arg (y ∷ before) some = refl

pub shows_paint : {begun : Bool} (t : Table) (limits : State → ℕ → ℕ) (e e' : EngineSeen) (begin : State) (breaks : ℕ) (maps unfreed : Maps) (txn last b at count code position lsn : ℕ) (arg before : List ℕ) → is_there maps.bands unfreed.bands b ≡ true
    → 1 ≤ length before → (e.Told → e'.Told) → (e'.Told → e.Told) → (e.Told → Made t e e' (ChangeStep txn last (SegOp (op_with b at count code position arg before))) lsn)
    → Wrote (acts_view limits e begun begin breaks maps unfreed) (acts_view limits e' begun begin breaks maps unfreed) b at (rendered (range_at t code) arg position count)
shows_paint {begun} t limits e e' begin breaks maps unfreed txn last b at count code position lsn arg before there some still back made = record {
  keeps = record {
    told = still;
    may_take = λ h. h;
    may_have = λ q n h told'. let told = back told' in subst (λ (rs : Steps). MayGiveNow limits begin rs maps.pages maps.bands q n) (sym (made told).steps)
        (may_paint limits begin (opened e.steps) maps.pages maps.bands b at count code position arg before q n some (h told));
  };
  bands = λ told. record {
    here = λ x is.
        let old : e.now.bands b ≡ x = same_some (e.now.bands b) x (there_is maps.bands unfreed.bands (λ n. Some (e.now.bands n)) b x is).is in
        at_there maps.bands unfreed.bands (λ n. Some (e'.now.bands n)) b there
        ∙ ap Some (ap (λ (y : State). y.bands b) (now told) ∙ (one_here e.now.bands b (overwritten (e.now.bands b) at (rendered (range_at t code) arg position count))
        ∙ ap (λ (xs : List ℕ). overwritten xs at (rendered (range_at t code) arg position count)) old));
    others = λ q ne. ap (λ (xs : List ℕ). if is_there maps.bands unfreed.bands q then Some xs else None) (ap (λ (y : State). y.bands q) (now told) ∙ one_there e.now.bands b q (overwritten (e.now.bands b) at (rendered (range_at t code) arg position count)) ne);
    free = refl;
    count = refl;
  };
  pages = λ told. ap (λ (y : State). units_there maps.pages unfreed.pages y.pages) (now told);
  writes = record { wrote = λ n h. let told = back h.0 in written_in b n (opened e.steps) told (sym (ap (λ (rs : Steps). writes_band (opened rs) n) (made told).steps) ∙ h.1) };
}
  where
    now : e.Told → e'.now ≡ apply t e.now (Paint b at count code position arg before)
    now told = (made told).now

-- the operation is registered, where the records are one
pub known_by : (t : Table) (x y : BandOp) → x ≡ y → IsSome (range_at t y.code) → IsSome (range_at t x.code)
known_by t x y is h = subst (λ (z : BandOp). IsSome (range_at t z.code)) (sym is) h
