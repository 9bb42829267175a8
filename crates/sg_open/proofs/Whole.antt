-- From what was found to a running engine.
use Rattle.std.proofs.Common.{◌≡◌, ◌⊎◌, inr, ⊎_elim, max, ℕ, true, false, Ok, Err, Result, OnOk, List, refl, sym, ◌∙◌, ap, subst}
use Rattle.std.specs.Result.{is_err}
use Rattle.sg_places.specs.Asked.{undone_of}
use Rattle.sg_base.specs.declared.area.Area.TheVariants.{Home}
use Rattle.sg_disk.specs.Disk.{Bytes, Image, State, View, Leaves, LeavesOnly, Range, Spoils}
use Rattle.sg_disk.proofs.Moments.{weaker, joined}
use Rattle.sg_gate.specs.Layout.{HEADER}
use Rattle.sg_gate.specs.Batch.{laid, IsBatch, numbers_of}
use Rattle.sg_gate.specs.Superblock.{superblock}
use Rattle.sg_gate.specs.declared.superblock.Super.{Super}
use Rattle.sg_gate.proofs.Laid.{rest_moments}
use Rattle.sg_ops.specs.Table.{Table}
use Rattle.sg_record.specs.Records.{Record}
use Rattle.sg_log.specs.Frames.{Numbered, HasRecords}
use Rattle.sg_analysis.specs.Analysis.{analysis_of}
use Rattle.sg_pool.specs.declared.pool.Pool.{Pool}
use Rattle.sg_engine.specs.Effects.{effect_in}
use Rattle.sg_engine.specs.Engine.{Origin, geometry, log_area, IsStanding}
use Rattle.sg_engine.specs.Kept.{home_in}
use Rattle.sg_engine.proofs.Logs.{home_apart}
use Rattle.sg_find.specs.Synced.{AreSynced, SplitsAtSync, reads, redo_point}
use Rattle.sg_opening.specs.Opening.{IsOpenable}
use Rattle.sg_opening.proofs.Opened as opened
use Rattle.sg_open.specs.declared.found.Found.{Found}
use Rattle.sg_open.specs.Repeatable.{IsNew, IsRepeatable}
use Rattle.sg_open.specs.Found.{IsSettledAll, Opens, IsFound, AreOpening, IsGoingOn}
use Rattle.sg_open.proofs.Over.{settled_records}

-- images with the same home area and the same log open alike
openable_same : (o : Origin) (r tail : ℕ) (ds : List Numbered) (c c' : Image) → c' Home ≡ c Home → c' (log_area o.super) ≡ c (log_area o.super) → IsOpenable o r tail ds c → IsOpenable o r tail ds c'
openable_same o r tail ds c c' home log is = record {
  super = subst (λ (f : Bytes). superblock f ≡ Ok o.super) (sym home) is.super;
  held = subst (λ (f : Bytes). HasRecords f o.super.base tail ds) (sym log) is.held;
  header = subst (λ (f : Bytes). f HEADER ≡ 1 → IsBatch o.super.pages (numbers_of f)) (sym home) is.header;
  there = is.there;
  first = subst (λ (f : Bytes). o.first ≡ home_in (geometry o.super) (laid f)) (sym home) is.first;
  sound = is.sound;
  rises = is.rises;
  ends = is.ends;
  sets = is.sets;
  well = is.well;
  within = is.within;
}

pub opens_synced : (o : Origin) (tail : ℕ) (ds : List Numbered) (v w : View) → AreSynced v.now w.now → Opens o tail ds v → Opens o tail ds w
opens_synced o tail ds v w synced opens = openable_same o (redo_point o.super.base ds) tail ds (reads v) (reads w) (synced.seen Home) (synced.seen (log_area o.super)) opens

pub opens_same : (o : Origin) (tail : ℕ) (ds : List Numbered) (v w : View) → w.now ≡ v.now → Opens o tail ds v → Opens o tail ds w
opens_same o tail ds v w same opens = openable_same o (redo_point o.super.base ds) tail ds (reads v) (reads w) (ap (λ (s : State). (s Home).seen) same) (ap (λ (s : State). (s (log_area o.super)).seen) same) opens

pub settled_same : (v w : View) → w.now ≡ v.now → IsSettledAll v → IsSettledAll w
settled_same v w same settled a = ap (λ (s : State). (s a).pending) same ∙ settled a

-- while a settled disk is read, each image stands
pub reading_stands : (o : Origin) (tail : ℕ) (ds : List Numbered) (v w : View) → IsSettledAll v → Opens o tail ds v → LeavesOnly v w (Leaves v.now) → LeavesOnly v w (IsStanding o ds ds (redo_point o.super.base ds))
reading_stands o tail ds v w settled opens run =
    weaker (rest_moments o.super.pages (λ i spoils. subst (λ (l : List Range). Spoils l i) (settled Home) spoils) opens.header run)
    (λ c whole. opened.whole_stands o (redo_point o.super.base ds) tail ds (reads v) opens v.now refl
    (λ x leaves. settled_records (v.now (log_area o.super)) x o.super.base tail ds (settled (log_area o.super)) leaves opens.held) (home_apart o) c whole)

-- what was found can be repeated over a new pool
pub repeatable : (t : Table) (o : Origin) (tail : ℕ) (ds : List Numbered) (v : View) (f : Found) (pool : Pool) → IsSettledAll v → Opens o tail ds v → ((lsn : ℕ) (x : Record) → o.effect lsn x ≡ effect_in t lsn x)
    → IsFound t v o tail ds f → IsNew f.geometry pool → IsRepeatable t o (redo_point o.super.base ds) ds v f.log pool
repeatable t o tail ds v f pool settled opens effect found new = record {
  settled = settled;
  openable = subst (λ (n : ℕ). IsOpenable o (redo_point o.super.base ds) n ds (reads v)) (sym found.gate) opens;
  effect = effect;
  undone = undone_of (analysis_of o.super.base ds);
  known = found.known;
  place = found.place;
  held = found.held;
  new = subst (λ (s : Super). IsNew s pool) found.super new;
}

-- what a call gave that succeeded
pub on_ok : {T E : Type 0} {P : Type 0} (r : Result T E) → false ≡ is_err r → OnOk r P → P
on_ok (Ok x) e p = p
on_ok (Err x) e p = absurd (differ e)
  where
    differ : false ≡ true → ⊥
    differ e = cc

-- what is at hand before the first write
module _ (t : Table) (o : Origin) (tail : ℕ) (ds : List Numbered) (v v1 v2 : View) (synced : AreSynced v.now v1.now) (opens : Opens o tail ds v) where
  pub opens1 : Opens o tail ds v1
  opens1 = opens_synced o tail ds v v1 synced opens

  -- while the store is read
  pub opening_reads : LeavesOnly v v1 (Leaves v.now) → LeavesOnly v1 v2 (Leaves v1.now) → AreOpening o ds v v2
  opening_reads first run = inr (v1, synced, first, reading_stands o tail ds v1 v2 synced.settled opens1 run)

  -- and while it is repeated
  pub opening_all : (w : View) → LeavesOnly v v1 (Leaves v.now) → LeavesOnly v1 v2 (Leaves v1.now) → LeavesOnly v2 w (IsStanding o ds ds (redo_point o.super.base ds)) → AreOpening o ds v w
  opening_all w first run more = inr (v1, synced, first, joined (reading_stands o tail ds v1 v2 synced.settled opens1 run) more)

  -- the same of what comes behind the syncs
  pub reads_on : LeavesOnly v1 v2 (Leaves v1.now) → LeavesOnly v1 v2 (IsStanding o ds ds (redo_point o.super.base ds))
  reads_on run = reading_stands o tail ds v1 v2 synced.settled opens1 run

  pub goes_on : (w : View) → LeavesOnly v1 v2 (Leaves v1.now) → LeavesOnly v2 w (IsStanding o ds ds (redo_point o.super.base ds)) → LeavesOnly v1 w (IsStanding o ds ds (redo_point o.super.base ds))
  goes_on w run more = joined (reading_stands o tail ds v1 v2 synced.settled opens1 run) more

  pub at_hand : (f : Found) (pool : Pool) (point : ℕ) → v2.now ≡ v1.now → ((lsn : ℕ) (x : Record) → o.effect lsn x ≡ effect_in t lsn x)
      → IsFound t v2 o tail ds f → IsNew f.geometry pool → point ≡ max f.geometry.base f.analysis.estimate → IsRepeatable t o point ds v2 f.log pool
  at_hand f pool point same effect found new at =
      subst (λ (k : ℕ). IsRepeatable t o k ds v2 f.log pool) (sym (at ∙ found.point))
      (repeatable t o tail ds v2 f pool (settled_same v1 v2 same synced.settled) (opens_same o tail ds v1 v2 same opens1) effect found new)

-- nothing but reads behind the syncs
pub reads_behind : (t : Table) (v v1 v2 : View) → AreSynced v.now v1.now → LeavesOnly v v1 (Leaves v.now) → LeavesOnly v1 v2 (Leaves v1.now) → SplitsAtSync v (IsGoingOn t v v2)
reads_behind t v v1 v2 synced first run = record {
  mid = v1;
  synced = synced;
  before = first;
  behind = λ o tail ds does opens. reads_on t o tail ds v v1 v2 synced opens run;
}

ok_err : {T E : Type 0} (x : T) (e : E) → Ok x ≡ Err e → ⊥
ok_err x e is = cc

-- where both gates are closed nothing is found
pub not_found : {T E : Type 0} (v w : View) (x : T) (d e : E) → AreSynced v.now w.now → ((v.now Home).seen 0 ≡ 1 → ⊥) → ((v.now Home).seen 4096 ≡ 1 → ⊥)
    → (((w.now Home).seen 0 ≡ 1 → ⊥) → ((w.now Home).seen 4096 ≡ 1 → ⊥) → (Ok x ≡ Err d) ⊎ (Ok x ≡ Err e)) → ⊥
not_found v w x d e synced first second shut =
    ⊎_elim (λ is. ok_err x d is) (λ is. ok_err x e is)
    (shut (λ is. first (sym (ap (λ (f : Bytes). f 0) (synced.seen Home)) ∙ is)) (λ is. second (sym (ap (λ (f : Bytes). f 4096) (synced.seen Home)) ∙ is)))
