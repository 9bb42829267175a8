use Rattle.std.proofs.Common.{◌≡◌, ◌⊎◌, ⊎_elim, length, ◌+◌, ◌-◌, ◌<◌, ◌≤◌, ◌++◌, ℕ, List, [], None, IsTrue, Bool, true, false, Result, Ok, Err, OnErr, OnOk, take, sym, ap, ◌∙◌, subst, arith, length-take, refl}
use Rattle.std.specs.Result.{is_err}
use Rattle.sg_base.specs.declared.area.Area.{Area}
use Rattle.sg_disk.specs.Disk.{View}
use Rattle.sg_disk.proofs.Moments.{weaker, joined}
use Rattle.sg_gate.specs.declared.superblock.Super.{Super}
use Rattle.sg_ops.specs.Table.{Table, table_of}
use Rattle.sg_record.specs.Records.{Record}
use Rattle.sg_log.specs.Frames.{Numbered, Frames, gate_after, numbered_in}
use Rattle.sg_log.specs.Held.{Tail, forced}
use Rattle.sg_log.proofs.Holding.{forced_empty}
use Rattle.sg_pool.specs.Counts.{HasGrown}
use Rattle.sg_pool.proofs.Counting.{grown_same, grown_then}
use Rattle.sg_pool.specs.declared.pool.Pool.{Pool}
use Rattle.sg_pool.specs.Units.{Geometry}
use Rattle.sg_pool.specs.Pooled.{sizes}
use Rattle.sg_pool.specs.Redone.{AreInOrder}
use Rattle.sg_redo.specs.declared.place.Place.{Place}
use Rattle.sg_redo.specs.Units.{AreKnown}
use Rattle.std.specs.List.{All}
use Rattle.sg_places.specs.Asked.{first_outside}
use Rattle.sg_places.specs.Placed.{places_in}
use Rattle.sg_engine.specs.Engine.{Origin, log_area}
use Rattle.sg_find.specs.Stretch.{IsRead}
use Rattle.sg_find.specs.declared.fault.OpenFault.TheVariants.{Disk}
use Rattle.sg_pool.specs.Redoing.{RedoFails}
use Rattle.sg_pool.specs.declared.fault.PoolFault.{PoolFault}
use Rattle.sg_pool.specs.declared.fault.PoolFault.TheVariants as pools
use Rattle.sg_open.specs.Refusals.{IsPageFault, of_pool}
use Rattle.sg_find.specs.declared.fault.OpenFault.{OpenFault}
use Rattle.sg_open.specs.Repeatable.{MayRepeat, IsRepeating}
use Rattle.sg_open.proofs.Going as going
use Rattle.sg_open.proofs.Going.{read_again}
use Rattle.sg_open.proofs.repeating.repeat_stretch.Goals as goal
use Rattle.sg_open.proofs.repeating.repeat_stretch.Goals.{then-not-can_redo-via-then-not-can_redo, then-not-can_redo-via-else-not-can_redo+then-not-are_known}

-- the log stands where the superblock says
area_is : (o : Origin) (s : Super) (area there : Area) → area ≡ log_area s → o.super ≡ s → there ≡ log_area o.super → area ≡ there
area_is o s area there is same place = is ∙ (sym (ap log_area same) ∙ sym place)

-- while the log is read
module _ (told : Bool) (t : Table) (o : Origin) (point : ℕ) (ds : List Numbered) (front back : List (List Record)) (v w0 : View) (log : Tail) (pool : Pool) (s : Super) (area : Area) (at end size : ℕ) (space : List ℕ)
    (sure : IsTrue told) (same : o.super ≡ s) (may : MayRepeat t o point log.gate ds) (h : IsRepeating o point ds front back v log pool) (at_is : at ≡ gate_after 0 front) (end_is : end ≡ gate_after 0 (front ++ back)) (area_of : area ≡ log_area s) where
  area_same : area ≡ log.area
  area_same = area_of ∙ (sym (ap log_area same) ∙ sym h.place.area)

  stand : Frames (v.now area).seen at back
  stand = subst (λ (a : Area). Frames (v.now a).seen at back) (sym area_same) (going.back_stands t o point ds front back v log pool may h at at_is)

  reach : end ≡ gate_after at back
  reach = going.back_reaches t o point ds front back v log pool may h at at_is end end_is

  module _ (now : w0.now ≡ v.now) (read : IsRead at back (take size space) size) where
    h0 : IsRepeating o point ds front back w0 log pool
    h0 = read_again o point ds front back v w0 log pool now h

    base_is : o.super.base ≡ s.base
    base_is = ap (λ (x : Super). x.base) same

    pages_is : o.super.pages ≡ s.pages
    pages_is = ap (λ (x : Super). x.pages) same

    -- the places of the stretch can be found,
    outside : first_outside s.pages s.bands 0 read.part ≡ None
    outside = subst (λ (x : Super). first_outside x.pages x.bands 0 read.part ≡ None) same (going.none_outside t o point ds front back w0 log pool may h0 at at_is (take size space) size read)

    module _ (places : List Place) (are : places ≡ places_in s.pages (s.base + at) point (numbered_in (s.base + at) read.part)) where
      are_here : places ≡ places_in o.super.pages (o.super.base + at) point (numbered_in (o.super.base + at) read.part)
      are_here = subst (λ (x : Super). places ≡ places_in x.pages (x.base + at) point (numbered_in (x.base + at) read.part)) (sym same) are

      -- and may be repeated
      units_within : All (λ p. p.unit < (sizes pool).pages + (sizes pool).bands) places
      units_within = subst (λ (x : Geometry). All (λ p. p.unit < x.pages + x.bands) places) (sym h.size)
          (subst (λ (l : List Place). All (λ p. p.unit < o.super.pages + o.super.bands) l) (sym are_here) (going.within t o point ds front back w0 log pool may h0 at at_is (take size space) size read))

      in_order : AreInOrder places
      in_order = subst (λ (l : List Place). AreInOrder l) (sym are_here) (going.in_order t o point ds front back w0 log pool may h0 at at_is (take size space) size read)

      known : AreKnown t (take size space) places
      known = subst (λ (l : List Place). AreKnown t (take size space) l) (sym are_here) (going.are_known t o point ds front back w0 log pool may h0 at at_is (take size space) size read)

-- what a call gave that succeeded
on_ok : {T E : Type 0} {P : Type 0} (r : Result T E) → false ≡ is_err r → OnOk r P → P
on_ok (Ok x) e p = p
on_ok (Err x) e p = absurd cc

not_true : (b : Bool) → IsTrue b → b ≡ false → ⊥
not_true b h e = let differ : false ≡ true = sym e ∙ h in cc

not_err : {T E : Type 0} (r : Result T E) → true ≡ is_err r → OnErr r ⊥ → ⊥
not_err (Ok x) e p = cc
not_err (Err x) e p = p

pub returns-in-Err-clause-refused : goal.returns-in-Err-clause-refused
returns-in-Err-clause-refused g c o ds front back told same may h at end =
    let t : Table = table_of (λ p. (goal.RecordOp-dyn g p).record_meaning p.1) (λ p. (goal.RangeOp-dyn g p).range_meaning p.1) c.args.ops.now in
    let v = g.D.Disk.view c.args.disk.now in
    let log = c.args.log.now in
    let pool = c.args.pool.now in
    let s = c.args.s.now in
    let w0 = g.D.Disk.view c.read_stretch.new.disk in
    let there = stand g.D.Disk.told t o c.args.point ds front back v w0 log pool s c.log_area.result c.args.at c.args.end 0 [] told same may h at end c.log_area.ensures.area in
    let to = reach g.D.Disk.told t o c.args.point ds front back v w0 log pool s c.log_area.result c.args.at c.args.end 0 [] told same may h at end c.log_area.ensures.area in
    (c.in-Err.ensures.fault, c.in-Err.ensures.refused back told there to c.requires.great)

pub returns-in-Err-clause-moments : goal.returns-in-Err-clause-moments
returns-in-Err-clause-moments g c o ds front back told same may h at end = weaker (c.read_stretch.ensures.reads.any_moment told) h.rests

pub returns-then-is_err-clause-moments : goal.returns-then-is_err-clause-moments
returns-then-is_err-clause-moments g c o ds front back told same may h at end = weaker (c.read_stretch.ensures.reads.any_moment told) h.rests

pub returns-then-not-can_redo-clause-moments : goal.returns-then-not-can_redo-clause-moments
returns-then-not-can_redo-clause-moments g c o ds front back told same may h at end = weaker (c.read_stretch.ensures.reads.any_moment told) h.rests

pub returns-then-is_err-clause-refused : goal.returns-then-is_err-clause-refused
returns-then-is_err-clause-refused g c o ds front back told same may h at end =
    let t : Table = table_of (λ p. (goal.RecordOp-dyn g p).record_meaning p.1) (λ p. (goal.RangeOp-dyn g p).range_meaning p.1) c.args.ops.now in
    let v = g.D.Disk.view c.args.disk.now in
    let log = c.args.log.now in
    let pool = c.args.pool.now in
    let s = c.args.s.now in
    let w0 = g.D.Disk.view c.read_stretch.new.disk in
    let space = c.read_stretch.new.space in
    let size = c.in-Ok.size in
    let now = c.read_stretch.ensures.reads.unchanged told in
    let there = stand g.D.Disk.told t o c.args.point ds front back v w0 log pool s c.log_area.result c.args.at c.args.end size space told same may h at end c.log_area.ensures.area in
    let to = reach g.D.Disk.told t o c.args.point ds front back v w0 log pool s c.log_area.result c.args.at c.args.end size space told same may h at end c.log_area.ensures.area in
    let read = c.in-Ok.ensures.stretch back told there to c.requires.great in
    let none = outside g.D.Disk.told t o c.args.point ds front back v w0 log pool s c.log_area.result c.args.at c.args.end size space told same may h at end c.log_area.ensures.area now read in
    absurd (not_err c.collect.result (sym c.if-is_err.true ∙ c.is_err.ensures.value) (c.collect.ensures.there read.part read.whole none))

pub returns-then-not-can_redo-clause-refused : goal.returns-then-not-can_redo-clause-refused
returns-then-not-can_redo-clause-refused g c o ds front back told same may h at end =
    let t : Table = table_of (λ p. (goal.RecordOp-dyn g p).record_meaning p.1) (λ p. (goal.RangeOp-dyn g p).range_meaning p.1) c.args.ops.now in
    let v = g.D.Disk.view c.args.disk.now in
    let log = c.args.log.now in
    let pool = c.args.pool.now in
    let s = c.args.s.now in
    let w0 = g.D.Disk.view c.read_stretch.new.disk in
    let space = c.read_stretch.new.space in
    let size = c.in-Ok.size in
    let now = c.read_stretch.ensures.reads.unchanged told in
    let there = stand g.D.Disk.told t o c.args.point ds front back v w0 log pool s c.log_area.result c.args.at c.args.end size space told same may h at end c.log_area.ensures.area in
    let to = reach g.D.Disk.told t o c.args.point ds front back v w0 log pool s c.log_area.result c.args.at c.args.end size space told same may h at end c.log_area.ensures.area in
    let read = c.in-Ok.ensures.stretch back told there to c.requires.great in
    let none = outside g.D.Disk.told t o c.args.point ds front back v w0 log pool s c.log_area.result c.args.at c.args.end size space told same may h at end c.log_area.ensures.area now read in
    let are = on_ok c.collect.result (sym c.if-is_err.false ∙ c.is_err.ensures.value) (c.collect.ensures.places read.part read.whole) in
    elim c.then-not-can_redo.branch [
      | then-not-can_redo-via-then-not-can_redo w ↦ absurd (not_true c.can_redo.result
          (c.can_redo.ensures.1 (units_within g.D.Disk.told t o c.args.point ds front back v w0 log pool s c.log_area.result c.args.at c.args.end size space told same may h at end c.log_area.ensures.area now read c.deref.result.now (c.deref.ensures.value ∙ are), in_order g.D.Disk.told t o c.args.point ds front back v w0 log pool s c.log_area.result c.args.at c.args.end size space told same may h at end c.log_area.ensures.area now read c.deref.result.now (c.deref.ensures.value ∙ are))) w.if-not-can_redo.true)
      | then-not-can_redo-via-else-not-can_redo+then-not-are_known w ↦ absurd (not_true w.are_known.result
          (w.are_known.ensures.1 (known g.D.Disk.told t o c.args.point ds front back v w0 log pool s c.log_area.result c.args.at c.args.end size space told same may h at end c.log_area.ensures.area now read w.deref-else-not-can_redo.result.now (w.deref-else-not-can_redo.ensures.value ∙ are))) w.if-not-are_known.true)
    ]

pub redo-requires-clause-few : goal.redo-requires-clause-few
redo-requires-clause-few g c =
    let most = c.collect.ensures.most in
    let long = c.read_stretch.ensures.long in
    let some = c.in-Ok.ensures.some.1 in
    let len = c.deref_mut.ensures.len in
    omega (arith, most, long, some, len, c.requires.few, length-take c.in-Ok.size c.read_stretch.new.space)

pub returns-in-Ok-redo-clause-moments : goal.returns-in-Ok-redo-clause-moments
returns-in-Ok-redo-clause-moments g c o ds front back told same may h at end =
    let t : Table = table_of (λ p. (goal.RecordOp-dyn g p).record_meaning p.1) (λ p. (goal.RangeOp-dyn g p).range_meaning p.1) c.args.ops.now in
    let v = g.D.Disk.view c.args.disk.now in
    let log = c.args.log.now in
    let pool = c.args.pool.now in
    let s = c.args.s.now in
    let w0 = g.D.Disk.view c.read_stretch.new.disk in
    let space = c.read_stretch.new.space in
    let size = c.in-Ok.size in
    let now = c.read_stretch.ensures.reads.unchanged told in
    let there = stand g.D.Disk.told t o c.args.point ds front back v w0 log pool s c.log_area.result c.args.at c.args.end size space told same may h at end c.log_area.ensures.area in
    let to = reach g.D.Disk.told t o c.args.point ds front back v w0 log pool s c.log_area.result c.args.at c.args.end size space told same may h at end c.log_area.ensures.area in
    let read = c.in-Ok.ensures.stretch back told there to c.requires.great in
    let none = outside g.D.Disk.told t o c.args.point ds front back v w0 log pool s c.log_area.result c.args.at c.args.end size space told same may h at end c.log_area.ensures.area now read in
    let are = on_ok c.collect.result (sym c.if-is_err.false ∙ c.is_err.ensures.value) (c.collect.ensures.places read.part read.whole) in
    let rep = h0 g.D.Disk.told t o c.args.point ds front back v w0 log pool s c.log_area.result c.args.at c.args.end size space told same may h at end c.log_area.ensures.area now read in
    let places = c.deref_mut.result.now in
    let which = are_here g.D.Disk.told t o c.args.point ds front back v w0 log pool s c.log_area.result c.args.at c.args.end size space told same may h at end c.log_area.ensures.area now read c.deref_mut.result.now (c.deref_mut.ensures.value ∙ are) in
    let dur = going.durable t o c.args.point ds front back w0 log pool may rep c.args.at at (take size space) size read c.deref_mut.result.now which in
    let apart = going.apart t o c.args.point ds front back w0 log pool may rep c.args.at at in
    let w = g.D.Disk.view c.redo.new.disk in
    let run = joined (weaker (c.read_stretch.ensures.reads.any_moment told) h.rests) (weaker (c.redo.ensures.moments ds told apart rep.backed dur) (going.stretch_stands t o c.args.point ds front back w0 log pool may rep c.args.at at (take size space) size read c.deref_mut.result.now which)) in
    run

pub returns-in-Err-redo-clause-moments : goal.returns-in-Err-redo-clause-moments
returns-in-Err-redo-clause-moments g c o ds front back told same may h at end =
    let t : Table = table_of (λ p. (goal.RecordOp-dyn g p).record_meaning p.1) (λ p. (goal.RangeOp-dyn g p).range_meaning p.1) c.args.ops.now in
    let v = g.D.Disk.view c.args.disk.now in
    let log = c.args.log.now in
    let pool = c.args.pool.now in
    let s = c.args.s.now in
    let w0 = g.D.Disk.view c.read_stretch.new.disk in
    let space = c.read_stretch.new.space in
    let size = c.in-Ok.size in
    let now = c.read_stretch.ensures.reads.unchanged told in
    let there = stand g.D.Disk.told t o c.args.point ds front back v w0 log pool s c.log_area.result c.args.at c.args.end size space told same may h at end c.log_area.ensures.area in
    let to = reach g.D.Disk.told t o c.args.point ds front back v w0 log pool s c.log_area.result c.args.at c.args.end size space told same may h at end c.log_area.ensures.area in
    let read = c.in-Ok.ensures.stretch back told there to c.requires.great in
    let none = outside g.D.Disk.told t o c.args.point ds front back v w0 log pool s c.log_area.result c.args.at c.args.end size space told same may h at end c.log_area.ensures.area now read in
    let are = on_ok c.collect.result (sym c.if-is_err.false ∙ c.is_err.ensures.value) (c.collect.ensures.places read.part read.whole) in
    let rep = h0 g.D.Disk.told t o c.args.point ds front back v w0 log pool s c.log_area.result c.args.at c.args.end size space told same may h at end c.log_area.ensures.area now read in
    let places = c.deref_mut.result.now in
    let which = are_here g.D.Disk.told t o c.args.point ds front back v w0 log pool s c.log_area.result c.args.at c.args.end size space told same may h at end c.log_area.ensures.area now read c.deref_mut.result.now (c.deref_mut.ensures.value ∙ are) in
    let dur = going.durable t o c.args.point ds front back w0 log pool may rep c.args.at at (take size space) size read c.deref_mut.result.now which in
    let apart = going.apart t o c.args.point ds front back w0 log pool may rep c.args.at at in
    let w = g.D.Disk.view c.redo.new.disk in
    let run = joined (weaker (c.read_stretch.ensures.reads.any_moment told) h.rests) (weaker (c.redo.ensures.moments ds told apart rep.backed dur) (going.stretch_stands t o c.args.point ds front back w0 log pool may rep c.args.at at (take size space) size read c.deref_mut.result.now which)) in
    run

pub returns-in-Err-redo-clause-refused : goal.returns-in-Err-redo-clause-refused
returns-in-Err-redo-clause-refused g c o ds front back told same may h at end =
    let t : Table = table_of (λ p. (goal.RecordOp-dyn g p).record_meaning p.1) (λ p. (goal.RangeOp-dyn g p).range_meaning p.1) c.args.ops.now in
    let v = g.D.Disk.view c.args.disk.now in
    let log = c.args.log.now in
    let pool = c.args.pool.now in
    let s = c.args.s.now in
    let w0 = g.D.Disk.view c.read_stretch.new.disk in
    let space = c.read_stretch.new.space in
    let size = c.in-Ok.size in
    let now = c.read_stretch.ensures.reads.unchanged told in
    let there = stand g.D.Disk.told t o c.args.point ds front back v w0 log pool s c.log_area.result c.args.at c.args.end size space told same may h at end c.log_area.ensures.area in
    let to = reach g.D.Disk.told t o c.args.point ds front back v w0 log pool s c.log_area.result c.args.at c.args.end size space told same may h at end c.log_area.ensures.area in
    let read = c.in-Ok.ensures.stretch back told there to c.requires.great in
    let none = outside g.D.Disk.told t o c.args.point ds front back v w0 log pool s c.log_area.result c.args.at c.args.end size space told same may h at end c.log_area.ensures.area now read in
    let are = on_ok c.collect.result (sym c.if-is_err.false ∙ c.is_err.ensures.value) (c.collect.ensures.places read.part read.whole) in
    let rep = h0 g.D.Disk.told t o c.args.point ds front back v w0 log pool s c.log_area.result c.args.at c.args.end size space told same may h at end c.log_area.ensures.area now read in
    let which = are_here g.D.Disk.told t o c.args.point ds front back v w0 log pool s c.log_area.result c.args.at c.args.end size space told same may h at end c.log_area.ensures.area now read c.deref_mut.result.now (c.deref_mut.ensures.value ∙ are) in
    going.stretch_refused t o c.args.point ds front back w0 log pool may rep c.args.at at (take size space) size read c.deref_mut.result.now which g.D.Disk.told v (g.D.Disk.view c.redo.new.disk) c.in-Err-redo.fault c.of_pool.result c.of_pool.ensures told c.read_stretch.ensures.reads.later c.in-Err-redo.ensures.faults

pub returns-in-Ok-redo-clause-repeats : goal.returns-in-Ok-redo-clause-repeats
returns-in-Ok-redo-clause-repeats g c o ds front back told same may h at end =
    let t : Table = table_of (λ p. (goal.RecordOp-dyn g p).record_meaning p.1) (λ p. (goal.RangeOp-dyn g p).range_meaning p.1) c.args.ops.now in
    let v = g.D.Disk.view c.args.disk.now in
    let log = c.args.log.now in
    let pool = c.args.pool.now in
    let s = c.args.s.now in
    let w0 = g.D.Disk.view c.read_stretch.new.disk in
    let space = c.read_stretch.new.space in
    let size = c.in-Ok.size in
    let now = c.read_stretch.ensures.reads.unchanged told in
    let there = stand g.D.Disk.told t o c.args.point ds front back v w0 log pool s c.log_area.result c.args.at c.args.end size space told same may h at end c.log_area.ensures.area in
    let to = reach g.D.Disk.told t o c.args.point ds front back v w0 log pool s c.log_area.result c.args.at c.args.end size space told same may h at end c.log_area.ensures.area in
    let read = c.in-Ok.ensures.stretch back told there to c.requires.great in
    let none = outside g.D.Disk.told t o c.args.point ds front back v w0 log pool s c.log_area.result c.args.at c.args.end size space told same may h at end c.log_area.ensures.area now read in
    let are = on_ok c.collect.result (sym c.if-is_err.false ∙ c.is_err.ensures.value) (c.collect.ensures.places read.part read.whole) in
    let rep = h0 g.D.Disk.told t o c.args.point ds front back v w0 log pool s c.log_area.result c.args.at c.args.end size space told same may h at end c.log_area.ensures.area now read in
    let places = c.deref_mut.result.now in
    let which = are_here g.D.Disk.told t o c.args.point ds front back v w0 log pool s c.log_area.result c.args.at c.args.end size space told same may h at end c.log_area.ensures.area now read c.deref_mut.result.now (c.deref_mut.ensures.value ∙ are) in
    let dur = going.durable t o c.args.point ds front back w0 log pool may rep c.args.at at (take size space) size read c.deref_mut.result.now which in
    let apart = going.apart t o c.args.point ds front back w0 log pool may rep c.args.at at in
    let w = g.D.Disk.view c.redo.new.disk in
    let run = joined (weaker (c.read_stretch.ensures.reads.any_moment told) h.rests) (weaker (c.redo.ensures.moments ds told apart rep.backed dur) (going.stretch_stands t o c.args.point ds front back w0 log pool may rep c.args.at at (take size space) size read c.deref_mut.result.now which)) in
    let more = c.in-Ok-redo.ensures.steps in
    going.stretch_done t o c.args.point ds front back w0 log pool may rep c.args.at at (take size space) size read c.deref_mut.result.now which w c.redo.new.log (c.in-Ok-redo.ensures.log ds [] told apart rep.backed rep.held) c.redo.new.self c.redo.ensures.size
    (c.in-Ok-redo.ensures.backed told apart rep.backed) (c.in-Ok-redo.ensures.logged ds told apart rep.backed dur) (c.in-Ok-redo.ensures.redone told apart rep.backed)
    (c.in-Ok-redo.ensures.homes ds told apart rep.backed dur) (c.in-Ok-redo.ensures.untouched told apart rep.backed) c.in-Ok-redo.ensures.lasts
    (weaker (c.redo.ensures.moments ds told apart rep.backed dur) (going.stretch_stands t o c.args.point ds front back w0 log pool may rep c.args.at at (take size space) size read c.deref_mut.result.now which))
    (c.redo.new.steps - c.args.steps.now) (omega (arith, more))

page_fault : (told : Bool) (area : Area) (geometry : Geometry) (v w : View) (pool : Pool) (places : List Place) (fault : PoolFault) → RedoFails told area geometry v w pool places fault → IsPageFault geometry (of_pool fault)
page_fault told area geometry v w pool places pools.Disk h = tt
page_fault told area geometry v w pool places (pools.Damaged page) h = (refl, (page.0, h.0, refl))
page_fault told area geometry v w pool places pools.Memory h = h

pub returns-in-Err-redo-clause-late : goal.returns-in-Err-redo-clause-late
returns-in-Err-redo-clause-late g c =
    subst (λ (e : OpenFault). IsPageFault (sizes c.args.pool.now) e) (sym c.of_pool.ensures)
    (page_fault g.D.Disk.told c.args.log.now.area (sizes c.args.pool.now) (g.D.Disk.view c.read_stretch.new.disk) (g.D.Disk.view c.redo.new.disk) c.args.pool.now c.deref_mut.result.now c.in-Err-redo.fault c.in-Err-redo.ensures.faults)

pub returns-in-Err-clause-late : goal.returns-in-Err-clause-late
returns-in-Err-clause-late g c = subst (λ (e : OpenFault). IsPageFault (sizes c.args.pool.now) e) (sym c.in-Err.ensures.fault) tt

pub returns-in-Err-clause-grown : goal.returns-in-Err-clause-grown
returns-in-Err-clause-grown g c = let e = c.read_stretch.ensures.reads.handed in grown_same c.args.log.now (g.D.Disk.view c.args.disk.now) (g.D.Disk.view c.read_stretch.new.disk) (omega (arith, e))

pub returns-then-is_err-clause-grown : goal.returns-then-is_err-clause-grown
returns-then-is_err-clause-grown g c = let e = c.read_stretch.ensures.reads.handed in grown_same c.args.log.now (g.D.Disk.view c.args.disk.now) (g.D.Disk.view c.read_stretch.new.disk) (omega (arith, e))

pub returns-then-not-can_redo-clause-grown : goal.returns-then-not-can_redo-clause-grown
returns-then-not-can_redo-clause-grown g c = let e = c.read_stretch.ensures.reads.handed in grown_same c.args.log.now (g.D.Disk.view c.args.disk.now) (g.D.Disk.view c.read_stretch.new.disk) (omega (arith, e))

-- what is read before redo
grown_behind : (log log' : Tail) (v w z : View) → w.handed ≡ v.handed → HasGrown log log' w z → w.handed ≤ z.handed → HasGrown log log' v z
grown_behind log log' v w z same grown kept = grown_then log log log' v w z (grown_same log v w (omega (arith, same))) grown kept

pub returns-in-Ok-redo-clause-grown : goal.returns-in-Ok-redo-clause-grown
returns-in-Ok-redo-clause-grown g c = grown_behind c.args.log.now c.redo.new.log (g.D.Disk.view c.args.disk.now) (g.D.Disk.view c.read_stretch.new.disk) (g.D.Disk.view c.redo.new.disk) c.read_stretch.ensures.reads.handed c.redo.ensures.grown c.redo.ensures.kept

pub returns-in-Err-redo-clause-grown : goal.returns-in-Err-redo-clause-grown
returns-in-Err-redo-clause-grown g c = grown_behind c.args.log.now c.redo.new.log (g.D.Disk.view c.args.disk.now) (g.D.Disk.view c.read_stretch.new.disk) (g.D.Disk.view c.redo.new.disk) c.read_stretch.ensures.reads.handed c.redo.ensures.grown c.redo.ensures.kept

pub returns-in-Err-clause-kept : goal.returns-in-Err-clause-kept
returns-in-Err-clause-kept g c = let e = c.read_stretch.ensures.reads.handed in omega (arith, e)

pub returns-then-is_err-clause-kept : goal.returns-then-is_err-clause-kept
returns-then-is_err-clause-kept g c = let e = c.read_stretch.ensures.reads.handed in omega (arith, e)

pub returns-then-not-can_redo-clause-kept : goal.returns-then-not-can_redo-clause-kept
returns-then-not-can_redo-clause-kept g c = let e = c.read_stretch.ensures.reads.handed in omega (arith, e)

pub returns-in-Ok-redo-clause-kept : goal.returns-in-Ok-redo-clause-kept
returns-in-Ok-redo-clause-kept g c = let e = c.read_stretch.ensures.reads.handed in let k = c.redo.ensures.kept in omega (arith, e, k)

pub returns-in-Err-redo-clause-kept : goal.returns-in-Err-redo-clause-kept
returns-in-Err-redo-clause-kept g c = let e = c.read_stretch.ensures.reads.handed in let k = c.redo.ensures.kept in omega (arith, e, k)

-- where nothing waited nothing does
kept_empty : (log log' : Tail) → (log' ≡ log) ⊎ (log' ≡ forced log) → length log.buffer ≡ 0 → length log'.buffer ≡ 0
kept_empty log log' kept none = ⊎_elim (λ same. ap (λ (l : Tail). length l.buffer) same ∙ none) (λ all. ap (λ (l : Tail). length l.buffer) all ∙ forced_empty log) kept

pub returns-in-Ok-redo-clause-empty : goal.returns-in-Ok-redo-clause-empty
returns-in-Ok-redo-clause-empty g c = kept_empty c.args.log.now c.redo.new.log c.redo.ensures.log_kept

pub returns-in-Err-redo-clause-empty : goal.returns-in-Err-redo-clause-empty
returns-in-Err-redo-clause-empty g c = kept_empty c.args.log.now c.redo.new.log c.redo.ensures.log_kept
