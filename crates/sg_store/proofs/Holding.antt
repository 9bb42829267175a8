-- An operation asks for what it touches.
use Rattle.std.proofs.Common.{◌≡◌, ℕ, Bool, true, false, cond, List, [], ◌∷◌, length, Option, Some, None, refl, sym, ap, ◌∙◌, subst, arith}
use Rattle.std.specs.Prelude.{nat_lt}
use Rattle.sg_base.specs.declared.numbers.TxnId.{TxnId}
use Rattle.sg_ops.specs.Table.{Table as Operations}
use Rattle.sg_serial.specs.Locks.{Touch, Hold, first_holder, hold_all}
use Rattle.sg_serial.specs.Runs.{is_live}
use Rattle.sg_model.specs.Verb.{Op}
use Rattle.sg_model.specs.Verb.Op.{Names as AllNames}
use Rattle.sg_model.specs.Objects.{Objects}
use Rattle.sg_model.specs.Touches.Resource.{Names}
use Rattle.sg_model.specs.Touches.{Resource, touches, same_resource, conflict}
use Rattle.sg_locks.specs.declared.table.LockAnswer.{LockAnswer}
use Rattle.sg_locks.specs.declared.table.LockAnswer.TheVariants.{Granted, Busy, LocksFull}
use Rattle.sg_locks.specs.Answers.{answer_by, lock_answer, held_after, locks_after}
use Rattle.sg_core.specs.Live.{Txn}
use Rattle.sg_run.specs.Run.{Run, live_objects}
use Rattle.sg_recovery.specs.Log.{Numbered, tally}
use Rattle.sg_recovery.specs.Stands.{made}
use Rattle.sg_store.specs.declared.fault.Refused.TheVariants as refusals
use Rattle.std.specs.Prelude.{Ok, Err, Result, OnOk}
use Rattle.sg_store.specs.declared.fault.Refused.{Refused}
use Rattle.sg_store.specs.Refusals.{said_lock}
use Rattle.sg_recovery.specs.Chains.{next_lsn}
use Rattle.sg_store.specs.Ground.{Ground, IsLawful, setting}
use Rattle.sg_disk.proofs.Moments.{started}
use Rattle.sg_store.specs.Engine.{View, IsImageOf, Rests, Rested}
use Rattle.sg_store.specs.Verbs.{Reads}
use Rattle.sg_store.specs.Store.{Core, IsKept, AreReserved, AreOwned}
use Rattle.sg_store.specs.Calls.{Stays, Holds, SameRoom}
use Rattle.sg_store.proofs.Lines.{reads}
use Rattle.sg_store.proofs.Actions.{reads_now}
use Rattle.sg_store.proofs.Calls.{moved, call_stands}

pub record IsLocked (u : ℕ) (asked : List (Touch Resource)) (hs : List (Hold Resource)) : Type 0 where
  pub free : first_holder conflict u asked hs ≡ None
  pub few : nat_lt 4096 (length (hold_all same_resource u asked hs)) ≡ false
  pub after : locks_after u asked hs ≡ hold_all same_resource u asked hs

by_count : (b : Bool) → Granted ≡ cond b LocksFull Granted → b ≡ false
by_count true e = absurd (cc)
by_count false e = refl

by_holder : (o : Option ℕ) (count : ℕ) → Granted ≡ answer_by o count → (o ≡ None) × (nat_lt 4096 count ≡ false)
by_holder (Some h) count e = absurd (cc)
by_holder None count e = (refl, by_count (nat_lt 4096 count) e)

locked_is : (u : ℕ) (asked : List (Touch Resource)) (hs : List (Hold Resource)) → Granted ≡ lock_answer u asked hs → IsLocked u asked hs
locked_is u asked hs e =
    let p = by_holder (first_holder conflict u asked hs) (length (hold_all same_resource u asked hs)) e in
    record { free = p.0; few = p.1; after = ap (λ (a : LockAnswer). held_after a u asked hs) (sym e) }

busy_count : (holder : TxnId) (b : Bool) → Busy holder ≡ cond b LocksFull Granted → ⊥
busy_count holder true e = cc
busy_count holder false e = cc

pub busy_holder : (holder : TxnId) (o : Option ℕ) (count : ℕ) → Busy holder ≡ answer_by o count → o ≡ Some holder.0
busy_holder holder (Some h) count e = let p : holder ≡ record { 0 = h } = cc in ap Some (sym (ap (λ (n : TxnId). n.0) p))
busy_holder holder None count e = absurd (busy_count holder (nat_lt 4096 count) e)

full_count : (b : Bool) → LocksFull ≡ cond b LocksFull Granted → b ≡ true
full_count true e = refl
full_count false e = absurd (cc)

full_holder : (o : Option ℕ) (count : ℕ) → LocksFull ≡ answer_by o count → (o ≡ None) × (nat_lt 4096 count ≡ true)
full_holder (Some h) count e = absurd (cc)
full_holder None count e = (refl, full_count (nat_lt 4096 count) e)

module _ (t : Operations) (g : Ground) (lawful : IsLawful t g) (v : View g) (x : Run) (txns : List Txn) (kept : IsKept t g v txns x) where
  -- the engine's pages read as the run's objects
  pub reading : g.O
  reading = kept.logs.keeps.running.reading

  pub reads_so : Reads t g v reading
  unfolding reading
  reads_so =
      let r = reads_now t g lawful v.first v.durable v.log x kept.logs kept.idle in
      record { reading = r; free = kept.free kept.logs.keeps.running.reading r }

  pub objects_so : g.objects reading ≡ live_objects t x
  unfolding reading
  objects_so = reads t g lawful v.first v.durable v.log x kept.logs

  -- a call that appends nothing
  pub rests_stays : (w : View g) → Rests t g v w → Stays t g v w x
  rests_stays w r = call_stands t g v w v.log x kept.logs r.moments

  pub rested_kept : (w : View g) → Rested t g v w → IsKept t g w txns x
  rested_kept w r = record {
    live = kept.live;
    answered = kept.answered;
    engine = r.goes_on.engine;
    idle = ap (λ (l : List (Numbered g.C g.N)). (tally l).opened) r.log ∙ kept.idle;
    logs = moved t g v.first w.first v.durable w.durable v.log w.log x (sym r.goes_on.first) (sym r.log) r.goes_on.durable kept.logs;
    free = λ o e. r.pages ∙ kept.free o (subst (λ (l : List (Numbered g.C g.N)). g.reading (made (setting t g) v.first l) ≡ Some o) r.log
        (subst (λ p. g.reading (made (setting t g) p w.log) ≡ Some o) r.goes_on.first e));
    reserved = subst (λ (l : List (Numbered g.C g.N)). AreReserved (setting t g) txns (tally l).notes) (sym r.log) kept.reserved;
    buried = λ o e. subst (λ (l : List (Numbered g.C g.N)). AreOwned g x.so_far.live x.so_far.held (next_lsn l) o) (sym r.log)
        (kept.buried o (subst (λ (l : List (Numbered g.C g.N)). g.reading (made (setting t g) v.first l) ≡ Some o) r.log (subst (λ p. g.reading (made (setting t g) p w.log) ≡ Some o) r.goes_on.first e)));
    marked = λ o e. kept.marked o (subst (λ (l : List (Numbered g.C g.N)). g.reading (made (setting t g) v.first l) ≡ Some o) r.log (subst (λ p. g.reading (made (setting t g) p w.log) ≡ Some o) r.goes_on.first e));
    marks = kept.marks;
  }

  module _ (w : View g) (k m : Core) (u : ℕ) (op : Op) (asked : List (Touch Resource)) (same : k.live ≡ txns) (held : k.held ≡ x.so_far.held) (r : Rested t g v w) (are : asked ≡ touches (g.objects reading) op) (after : m ≡ record k { held = locks_after u asked k.held }) where
    asks : asked ≡ touches (live_objects t x) op
    asks = are ∙ ap (λ o. touches o op) objects_so

    now : IsKept t g w k.live x
    now = subst (λ ls. IsKept t g w ls x) (sym same) (rested_kept w r)

    pub holds_granted : is_live x.so_far.live u ≡ true → Granted ≡ lock_answer u asked k.held → Holds t g v w k m x u op (Ok tt)
    holds_granted live e =
        let l = locked_is u asked k.held e in
        let to : (P : List (Touch Resource) → List (Hold Resource) → Type 0) → P asked k.held → P (touches (live_objects t x) op) x.so_far.held = λ P p. subst (λ ts. P ts x.so_far.held) asks (subst (λ hs. P asked hs) held p) in (
          now,
          record { live = live; none = to (λ ts hs. first_holder conflict u ts hs ≡ None) l.free; few = to (λ ts hs. nat_lt 4096 (length (hold_all same_resource u ts hs)) ≡ false) l.few },
          after ∙ ap (λ hs. record k { held = hs }) (to (λ ts hs. locks_after u asked k.held ≡ hold_all same_resource u ts hs) l.after),
        )

    pub holds_busy : (holder : TxnId) → Busy holder ≡ lock_answer u asked k.held → Holds t g v w k m x u op (Err (refusals.Busy holder))
    holds_busy holder e =
        let f = busy_holder holder (first_holder conflict u asked k.held) (length (hold_all same_resource u asked k.held)) e in (
          now,
          subst (λ ts. first_holder conflict u ts x.so_far.held ≡ Some holder.0) asks (subst (λ hs. first_holder conflict u asked hs ≡ Some holder.0) held f),
          after ∙ ap (λ (a : LockAnswer). record k { held = held_after a u asked k.held }) (sym e),
        )

    pub holds_full : LocksFull ≡ lock_answer u asked k.held → Holds t g v w k m x u op (Err refusals.LocksFull)
    holds_full e =
        let f = full_holder (first_holder conflict u asked k.held) (length (hold_all same_resource u asked k.held)) e in (
          now,
          subst (λ ts. first_holder conflict u ts x.so_far.held ≡ None) asks (subst (λ hs. first_holder conflict u asked hs ≡ None) held f.0),
          subst (λ ts. nat_lt 4096 (length (hold_all same_resource u ts x.so_far.held)) ≡ true) asks (subst (λ hs. nat_lt 4096 (length (hold_all same_resource u asked hs)) ≡ true) held f.1),
          after ∙ ap (λ (a : LockAnswer). record k { held = held_after a u asked k.held }) (sym e),
        )

    -- whatever asking for them came to
    pub holds_by : is_live x.so_far.live u ≡ true → (result : Result (Unit {0}) Refused) → result ≡ said_lock (lock_answer u asked k.held) → Holds t g v w k m x u op result
    holds_by live result e = subst (Holds t g v w k m x u op) (sym e) (go (lock_answer u asked k.held) refl)
      where
        go : (a : LockAnswer) → a ≡ lock_answer u asked k.held → Holds t g v w k m x u op (said_lock a)
        go Granted f = holds_granted live f
        go (Busy holder) f = holds_busy holder f
        go LocksFull f = holds_full f

  -- a part of a call that doesn't ask the engine
  pub rests_still : Rests t g v v
  rests_still = record { moments = started v.disk (IsImageOf t g v v.log) kept.engine.images }

  pub rested_still : Rested t g v v
  rested_still = record {
    goes_on = record { engine = kept.engine; base = refl; first = refl; tail = omega arith; durable = record { since = []; all = refl } };
    log = refl;
    action = refl;
    pages = refl;
    bands = refl;
  }

-- what holds anyway holds where a call is answered
pub always_ok : (result : Result (Unit {0}) Refused) (P : Type 0) → P → OnOk result P
always_ok (Ok done) P p = p
always_ok (Err why) P p = tt

-- what the list of all names touches
pub names_touched : (o : Objects) → (record { what = Names; write = false }) ∷ [] ≡ touches o AllNames
unfolding touches
names_touched o = refl

-- a call that appends nothing leaves what is free
pub rested_same : (t : Operations) (g : Ground) (v w : View g) → Rested t g v w → SameRoom t g v w
rested_same t g v w r = record {
  reads = λ o e. subst (λ p. g.reading (made (setting t g) p w.log) ≡ Some o) (sym r.goes_on.first) (subst (λ (l : List (Numbered g.C g.N)). g.reading (made (setting t g) v.first l) ≡ Some o) (sym r.log) e);
  first = r.goes_on.first;
  log = r.log;
  pages = r.pages;
  bands = r.bands;
}
