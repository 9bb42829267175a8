-- What is known of a store behind each call that was answered.
use Rattle.std.proofs.Common.{◌≡◌, ℕ, Bool, true, false, not, cond, List, [], ◌∷◌, ◌++◌, map, Option, Some, None, Ok, Err, refl, sym, ap, ◌∙◌, subst, inl, inr}
use Rattle.std.specs.Prelude.{◌==◌, ◌||◌, ◌⊎◌, Result, IfOk, IfErr, IsSome, OnOk}
use Rattle.std.proofs.lemmas.Bool.{eq-eqb}
use Rattle.sg_base.specs.declared.numbers.TxnId.{TxnId}
use Rattle.sg_ops.specs.Table.{Table as Operations}
use Rattle.sg_serial.proofs.Leaving.{run-append}
use Rattle.sg_core.specs.Live.{Txn, is_live, without as left_live}
use Rattle.sg_model.specs.Objects.{Objects}
use Rattle.sg_model.specs.declared.stop.Stop.{Stop}
use Rattle.sg_model.specs.declared.stop.Stop.TheVariants as stops
use Rattle.sg_model.specs.declared.reason.Reason.{Reason}
use Rattle.sg_model.specs.declared.op.Reply as code_reply
use Rattle.sg_model.specs.SaidReplies.{said_reply}
use Rattle.sg_model.specs.Verb.{Op, Reply}
use Rattle.sg_model.specs.Step.{step}
use Rattle.sg_model.proofs.Refused.{replied, step_refused}
use Rattle.sg_recovery.specs.Log.{without}
use Rattle.sg_run.specs.Run.{Run, did, with_locks, stop, live_objects, committed_objects}
use Rattle.sg_run.specs.Numbers.{Refusal, Does}
use Rattle.sg_run.specs.Numbers.Refusal.{Stopped, NoTransaction, TooManyLive, Busy, LocksFull, Because, NoSpace, NoBands, LogEnd, Memory, Disk}
use Rattle.sg_store.specs.declared.engine.Engine.{Ghosts}
use Rattle.sg_store.specs.declared.fault.Refused.{Refused}
use Rattle.sg_store.specs.declared.fault.Refused.TheVariants as refusals
use Rattle.sg_store.specs.declared.store.Store.{Store}
use Rattle.sg_store.specs.Calls as calls
use Rattle.sg_store.specs.Calls.{Goes}
use Rattle.sg_store.specs.Ground.{Ground, IsLawful}
use Rattle.sg_store.specs.Engine.{AsMeantBy, AskedBy, KeepsBy, Shown, Sizes, View, led}
use Rattle.sg_store.specs.Causes.{BeginsFor, DoesFor, EndsFor}
use Rattle.sg_store.specs.Heeds.{Heeds}
use Rattle.sg_store.specs.Refusals.{said_refusal}
use Rattle.sg_store.specs.Rests.{Has, HasObjects, HasDone, HasCommitted, HasAborted}
use Rattle.sg_store.specs.Seen.{core_of}
use Rattle.sg_store.specs.Store.{Core, Shows}
use Rattle.sg_store.proofs.Resting.{has_objects}
use Rattle.stasis.specs.Telling.{TellsObjects}

-- what is said of an engine may say less
pub asked_less : {basis : Sizes → Ground} (t : Operations) (e : Shown basis) {P Q : (g : Ground) → View g → Type 0} → ((g : Ground) (v : View g) → P g v → Q g v) → AskedBy t e P → AskedBy t e Q
asked_less {basis} t e weaker a = record {
  sizes = a.sizes;
  from = a.from;
  means = a.means;
  can = λ told. weaker (basis a.sizes) (led t a.sizes (a.from told) e) (a.can told);
}

-- where one transaction alone was live none is behind its end
alone : (u : ℕ) → without u (u ∷ []) ≡ []
alone u = ap (λ b. cond (not b) (u ∷ []) []) (eq-eqb u u refl)

-- where none is live the objects are the durable ones
module _ (t : Operations) (k : Core) (u : ℕ) (objects durable : Objects) (g : Ground) (v : View g) (h : HasObjects (without u (u ∷ [])) objects durable k t g v) where
  none_live : HasObjects [] objects durable k t g v
  none_live = subst (λ live. HasObjects live objects durable k t g v) (alone u) h

  pub all_durable : HasObjects [] objects objects k t g v
  all_durable = subst (λ m. HasObjects [] objects m k t g v) (sym (none_live.at_rest refl)) none_live

  pub all_back : HasObjects [] durable durable k t g v
  all_back = subst (λ m. HasObjects [] m durable k t g v) (none_live.at_rest refl) none_live

-- TWO RUNS HAVE DONE THE SAME: the same are live, and the objects are the same, and the durable ones
record HaveSame (t : Operations) (x y : Run) : Type 0 where
  lives : map (λ l. l.transaction) y.so_far.live ≡ map (λ l. l.transaction) x.so_far.live
  are : live_objects t y ≡ live_objects t x
  stand : committed_objects t y ≡ committed_objects t x

module _ (t : Operations) (x : Run) where
  same_by : (y z : Run) → y ≡ z → HaveSame t x z → HaveSame t x y
  same_by y z e h = subst (HaveSame t x) (sym e) h

  own : HaveSame t x x
  own = record { lives = refl; are = refl; stand = refl }

  -- but for what is held
  more_held : (u : ℕ) (op : Op) → HaveSame t x (with_locks t x u op)
  more_held u op = record { lives = refl; are = refl; stand = refl }

  -- an operation that gave its reason has changed nothing
  no_step : (u : ℕ) (op : Op) (reason : Reason) → (step t (live_objects t x) op).0 ≡ Err reason → HaveSame t x (did t x u op)
  no_step u op reason e =
      let s : Objects = live_objects t x in
      record {
        lives = refl;
        are = run-append (step t) x.so_far.first x.so_far.history (record { transaction = u; op = op; out = (step t s op).0; time = x.so_far.clock } ∷ [])
            ∙ step_refused t s op (ap replied e);
        stand = refl;
      }

  -- a refused operation leaves all but what is held
  refused_same : (begin tail before now u : ℕ) (op : Op) (why : Refusal) (y : Run) → Does t begin tail before now u op x (Err why) y → HaveSame t x y
  refused_same begin tail before now u op Stopped y d = same_by y x d.1 own
  refused_same begin tail before now u op NoTransaction y d = same_by y x d.2 own
  refused_same begin tail before now u op TooManyLive y d = absurd d
  refused_same begin tail before now u op (Busy holder) y d = same_by y x d.3 own
  refused_same begin tail before now u op LocksFull y d = same_by y x d.4 own
  refused_same begin tail before now u op (Because reason) y d = same_by y (did t x u op) d.3 (no_step u op reason d.2)
  refused_same begin tail before now u op (NoSpace free reserved need) y d = same_by y (with_locks t x u op) d.5 (more_held u op)
  refused_same begin tail before now u op (NoBands free need) y d = same_by y (with_locks t x u op) d.4 (more_held u op)
  refused_same begin tail before now u op LogEnd y d = same_by y (with_locks t x u op) d.5 (more_held u op)
  refused_same begin tail before now u op Memory y d = same_by y (with_locks t x u op) d.4 (more_held u op)
  refused_same begin tail before now u op Disk y d = same_by y (stop stops.Disk x) d.2.after (record { lives = refl; are = refl; stand = refl })

-- so what it had it has
module _ (t : Operations) (g : Ground) (v w : View g) (k m : Core) (live : List ℕ) (objects durable : Objects) (h : HasObjects live objects durable k t g v) where
  same_had : (y : Run) → HaveSame t h.run y → Shows t g w m y → m.stopped ≡ None → HasObjects live objects durable m t g w
  same_had y same shows on =
      has_objects t g h.lawful w m y shows (sym shows.stopped ∙ on) live objects durable (same.lives ∙ h.live_are) (same.are ∙ h.objects_are) (same.stand ∙ h.durable_are)

-- the numbers of a store's live transactions are those of its run's
live_numbers : (t : Operations) (g : Ground) (v : View g) (k : Core) (live : List ℕ) (objects durable : Objects) (h : HasObjects live objects durable k t g v) → map (λ l. l.transaction) k.live ≡ live
live_numbers t g v k live objects durable h = (h.shows.runs h.running).is_kept.live ∙ h.live_are

-- one that alone is live is live
one_live : (u : ℕ) (ks : List Txn) → map (λ l. l.transaction) ks ≡ u ∷ [] → is_live ks u ≡ true
one_live u [] e = absurd (cc)
one_live u (k ∷ ks) e = let same : k.transaction ≡ u = cc in ap (λ b. b || is_live ks u) (eq-eqb k.transaction u same)

-- none is live behind its end
ended_live : (u : ℕ) (ks : List Txn) → is_live (left_live u ks) u ≡ false
ended_live u [] = refl
ended_live u (k ∷ ks) = go (k.transaction == u) refl (ended_live u ks)
  where
    go : (b : Bool) → (k.transaction == u) ≡ b → is_live (left_live u ks) u ≡ false → is_live (cond (not b) (k ∷ left_live u ks) (left_live u ks)) u ≡ false
    go true e h = h
    go false e h = ap (λ b. b || is_live (left_live u ks) u) e ∙ h

some_stop : (o : Option Stop) (why : Stop) → o ≡ Some why → IsSome o
some_stop o why e = subst IsSome (sym e) refl

-- a refused begin has changed nothing, unless the store has stopped
module _ {E : Type 0} {ghosts : Ghosts E} (old new : Store E ghosts) where
  unbegun : (why : Refused) → BeginsFor (ghosts.view old.engine) (ghosts.view new.engine) (core_of old) (core_of new) (Err why) → ((why ≡ refusals.DiskFault → ⊥) → new ≡ old)
      → (new ≡ old) ⊎ IsSome new.stop
  unbegun refusals.NoTxn c h = absurd c
  unbegun refusals.TooManyLive c h = inl (h (λ e. cc))
  unbegun (refusals.Busy holder) c h = absurd c
  unbegun refusals.LocksFull c h = absurd c
  unbegun (refusals.Model reason) c h = absurd c
  unbegun (refusals.NoSpace free reserved need) c h = absurd c
  unbegun (refusals.NoBands free need) c h = absurd c
  unbegun refusals.LogEnd c h = inl (h (λ e. cc))
  unbegun refusals.Memory c h = absurd c
  unbegun refusals.DiskFault c h = inr (some_stop new.stop stops.Disk (ap (λ (k : Core). k.stopped) c.3.1))
  unbegun refusals.Stopped c h = inl (h (λ e. cc))

  pub unbegun_if : (r : Result TxnId Refused) → BeginsFor (ghosts.view old.engine) (ghosts.view new.engine) (core_of old) (core_of new) r
      → IfErr r (λ why. (why ≡ refusals.DiskFault → ⊥) → new ≡ old) → IfErr r (λ why. (new ≡ old) ⊎ IsSome new.stop)
  unbegun_if (Ok u) causes h = tt
  unbegun_if (Err why) causes h = unbegun why causes h

module _ {E : Type 0} {ghosts : Ghosts E} (t : Operations) (old new : Store E ghosts) (heeds : Heeds old.stop new.stop (ghosts.view old.engine) (ghosts.view new.engine)) where
  -- a begin
  pub begun : (u : TxnId) → BeginsFor (ghosts.view old.engine) (ghosts.view new.engine) (core_of old) (core_of new) (Ok u) → (live : List ℕ) (m durable : Objects)
      → (Has t old live m durable → Has t new (live ++ u.0 ∷ []) m durable) → TellsObjects t old live m durable → TellsObjects t new (live ++ u.0 ∷ []) m durable
  begun u causes live m durable rests h = record { tells = heeds.tells (ap (λ (k : Core). k.stopped) causes.3 ∙ causes.0) h.tells; has = rests h.has }

  pub begun_if : (r : Result TxnId Refused) → BeginsFor (ghosts.view old.engine) (ghosts.view new.engine) (core_of old) (core_of new) r → (live : List ℕ) (m durable : Objects)
      → (Has t old live m durable → IfOk r (λ u. Has t new (live ++ u.0 ∷ []) m durable)) → TellsObjects t old live m durable → IfOk r (λ u. TellsObjects t new (live ++ u.0 ∷ []) m durable)
  begun_if (Ok u) causes live m durable rests h = begun u causes live m durable rests h
  begun_if (Err why) causes live m durable rests h = tt

  -- an operation that got a reply
  pub done : {A : Type 0} (changes : Bool) (u : ℕ) (answer : A) → DoesFor changes u (ghosts.view old.engine) (ghosts.view new.engine) (core_of old) (core_of new) (Ok answer) → (live : List ℕ) (m durable : Objects) (op : Op) (reply : Reply)
      → (Has t old live m durable → AskedBy t (ghosts.view new.engine) (HasDone live m durable op reply (core_of new) t))
      → TellsObjects t old live m durable → ((step t m op).0 ≡ Ok reply) × TellsObjects t new live (step t m op).1 durable
  done changes u answer causes live m durable op reply rests h =
      let a = rests h.has in
      let told = heeds.tells causes.3 h.tells in
      ((a.can told).replied, record { tells = told; has = asked_less t (ghosts.view new.engine) (λ g v d. d.has) a })

  -- one that was refused, where the store hasn't stopped
  pub undone : (u : ℕ) (op : Op) (into : List ℕ) (why : Refused) → KeepsBy t (ghosts.view old.engine) (ghosts.view new.engine)
      → AsMeantBy t (ghosts.view old.engine) (ghosts.view new.engine) (λ g v w. (x : Run) → IsLawful t g → Shows t g v (core_of old) x
      → Goes t g v x (calls.Does t v.tail w.tail v.faults w.faults u op x into (Err why)) w (core_of new))
      → (live : List ℕ) (m durable : Objects) → TellsObjects t old live m durable → new.stop ≡ None → TellsObjects t new live m durable
  undone u op into why keeps goes live m durable h on = record {
    tells = heeds.tells on h.tells;
    has = record {
      sizes = z;
      from = λ told. from;
      means = λ told. keeps z from means;
      can = λ told. same_had t (ghosts.basis z) v w (core_of old) (core_of new) live m durable had go.after
          (refused_same t had.run v.tail w.tail v.faults w.faults u op (said_refusal why) go.after go.goes) go.shows on;
    };
  }
    where
      z : Sizes
      z = h.has.sizes

      from : (ghosts.basis z).X
      from = h.has.from h.tells

      means : (ghosts.view old.engine).means t z from
      means = h.has.means h.tells

      v : View (ghosts.basis z)
      v = led t z from (ghosts.view old.engine)

      w : View (ghosts.basis z)
      w = led t z from (ghosts.view new.engine)

      had : HasObjects live m durable (core_of old) t (ghosts.basis z) v
      had = h.has.can h.tells

      go : Goes t (ghosts.basis z) v had.run (calls.Does t v.tail w.tail v.faults w.faults u op had.run into (Err why)) w (core_of new)
      go = goes z from means h.tells had.run had.lawful had.shows

  pub done_if : (changes : Bool) (u : ℕ) (op : Op) (into : List ℕ) (r : Result code_reply.Reply Refused) → DoesFor changes u (ghosts.view old.engine) (ghosts.view new.engine) (core_of old) (core_of new) r
      → (live : List ℕ) (m durable : Objects)
      → (Has t old live m durable → IfOk r (λ a. AskedBy t (ghosts.view new.engine) (HasDone live m durable op (said_reply into a) (core_of new) t)))
      → TellsObjects t old live m durable → IfOk r (λ a. ((step t m op).0 ≡ Ok (said_reply into a)) × TellsObjects t new live (step t m op).1 durable)
  done_if changes u op into (Ok a) causes live m durable rests h = done changes u a causes live m durable op (said_reply into a) rests h
  done_if changes u op into (Err why) causes live m durable rests h = tt

  pub undone_if : (u : ℕ) (op : Op) (into : List ℕ) (r : Result code_reply.Reply Refused) → KeepsBy t (ghosts.view old.engine) (ghosts.view new.engine)
      → AsMeantBy t (ghosts.view old.engine) (ghosts.view new.engine) (λ g v w. (x : Run) → IsLawful t g → Shows t g v (core_of old) x
      → Goes t g v x (calls.Does t v.tail w.tail v.faults w.faults u op x into r) w (core_of new))
      → (live : List ℕ) (m durable : Objects) → TellsObjects t old live m durable → IfErr r (λ why. new.stop ≡ None → TellsObjects t new live m durable)
  undone_if u op into (Ok a) keeps goes live m durable h = tt
  undone_if u op into (Err why) keeps goes live m durable h = undone u op into why keeps goes live m durable h

  -- a commit of the transaction that alone is live: all is durable
  pub committed : (u : ℕ) → EndsFor u (ghosts.view old.engine) (ghosts.view new.engine) (core_of old) (core_of new) (Ok tt) → (m durable : Objects)
      → (Has t old (u ∷ []) m durable → AskedBy t (ghosts.view new.engine) (HasCommitted u (u ∷ []) m durable (core_of new) t))
      → TellsObjects t old (u ∷ []) m durable → TellsObjects t new [] m m
  committed u causes m durable rests h = record {
    tells = heeds.tells (ap (λ (k : Core). k.stopped) causes.2 ∙ causes.0) h.tells;
    has = asked_less t (ghosts.view new.engine) (λ g v c. all_durable t (core_of new) u m c.after g v c.has) (rests h.has);
  }

  -- its abort: all is as it was
  pub aborted : (u : ℕ) → EndsFor u (ghosts.view old.engine) (ghosts.view new.engine) (core_of old) (core_of new) (Ok tt) → (m durable : Objects)
      → (Has t old (u ∷ []) m durable → AskedBy t (ghosts.view new.engine) (HasAborted u (u ∷ []) durable (core_of new) t))
      → TellsObjects t old (u ∷ []) m durable → TellsObjects t new [] durable durable
  aborted u causes m durable rests h = record {
    tells = heeds.tells (ap (λ (k : Core). k.stopped) causes.2 ∙ causes.0) h.tells;
    has = asked_less t (ghosts.view new.engine) (λ g v a. all_back t (core_of new) u a.after durable g v a.has) (rests h.has);
  }

  -- the number of one that isn't live isn't that of the one that is
  live_alone : (u : ℕ) (m durable : Objects) → TellsObjects t old (u ∷ []) m durable → is_live old.txns u ≡ true
  live_alone u m durable h =
      one_live u old.txns (live_numbers t (ghosts.basis h.has.sizes) (led t h.has.sizes (h.has.from h.tells) (ghosts.view old.engine)) (core_of old) (u ∷ []) m durable (h.has.can h.tells))

  -- where its end was refused the store has stopped
  pub unended : (u : ℕ) (why : Refused) → EndsFor u (ghosts.view old.engine) (ghosts.view new.engine) (core_of old) (core_of new) (Err why) → (m durable : Objects)
      → TellsObjects t old (u ∷ []) m durable → IsSome new.stop
  unended u why causes m durable h = go why causes
    where
      go : (e : Refused) → EndsFor u (ghosts.view old.engine) (ghosts.view new.engine) (core_of old) (core_of new) (Err e) → IsSome new.stop
      go refusals.NoTxn c = absurd (let live : is_live old.txns u ≡ true = live_alone u m durable h in let none : is_live old.txns u ≡ false = c.1 in cc)
      go refusals.TooManyLive c = absurd c
      go (refusals.Busy holder) c = absurd c
      go refusals.LocksFull c = absurd c
      go (refusals.Model reason) c = absurd c
      go (refusals.NoSpace free reserved need) c = absurd c
      go (refusals.NoBands free need) c = absurd c
      go refusals.LogEnd c = some_stop new.stop stops.LogEnd (ap (λ (k : Core). k.stopped) c.3)
      go refusals.Memory c = absurd c
      go refusals.DiskFault c = some_stop new.stop stops.Disk (ap (λ (k : Core). k.stopped) c.2.1)
      go refusals.Stopped c = subst IsSome (ap (λ (k : Core). k.stopped) (sym c.1)) c.0

-- behind an end, whatever it was answered, the transaction isn't live, or the store has stopped
pub ends : {basis : Sizes → Ground} (old new : Shown basis) (k m : Core) (u : ℕ) (r : Result (Unit {0}) Refused) → EndsFor u old new k m r → (is_live m.live u ≡ false) ⊎ IsSome m.stopped
ends old new k m u (Ok done) c = inl (ap (λ (q : Core). is_live q.live u) c.2 ∙ ended_live u k.live)
ends old new k m u (Err refusals.NoTxn) c = inl (ap (λ (q : Core). is_live q.live u) c.2 ∙ c.1)
ends old new k m u (Err refusals.TooManyLive) c = absurd c
ends old new k m u (Err (refusals.Busy holder)) c = absurd c
ends old new k m u (Err refusals.LocksFull) c = absurd c
ends old new k m u (Err (refusals.Model reason)) c = absurd c
ends old new k m u (Err (refusals.NoSpace free reserved need)) c = absurd c
ends old new k m u (Err (refusals.NoBands free need)) c = absurd c
ends old new k m u (Err refusals.LogEnd) c = inr (some_stop m.stopped stops.LogEnd (ap (λ (q : Core). q.stopped) c.3))
ends old new k m u (Err refusals.Memory) c = absurd c
ends old new k m u (Err refusals.DiskFault) c = inr (some_stop m.stopped stops.Disk (ap (λ (q : Core). q.stopped) c.2.1))
ends old new k m u (Err refusals.Stopped) c = inr (subst IsSome (ap (λ (q : Core). q.stopped) (sym c.1)) c.0)

-- what holds of each answer holds of this one
pub on_ok : {A E : Type 0} {P : A → Type 0} (r : Result A E) → ((a : A) → P a) → IfOk r P
on_ok (Ok a) h = h a
on_ok (Err e) h = tt

pub on_err : {A E : Type 0} {P : E → Type 0} (r : Result A E) → ((e : E) → P e) → IfErr r P
on_err (Ok a) h = tt
on_err (Err e) h = h e

-- what was answered is what it was
pub answered_so : {A E P : Type 0} (S : Type 0) (r : Result A E) (why : E) → r ≡ Err why → P → IfErr r (λ e. (◌≡◌ {A = Result A E} (Err why) (Err e) × P) ⊎ S)
answered_so S (Ok a) why is p = tt
answered_so S (Err e) why is p = inl (sym is, p)

-- an operation was a live transaction's
pub live_if : {A : Type 0} {basis : Sizes → Ground} (changes : Bool) (u : ℕ) (old new : Shown basis) (k m : Core) (r : Result A Refused) → DoesFor changes u old new k m r → OnOk r (is_live k.live u ≡ true)
live_if changes u old new k m (Ok a) c = c.1
live_if changes u old new k m (Err why) c = tt
