-- What an application may rest on follows from how a call goes.
use Rattle.std.proofs.Common.{◌≡◌, ℕ, Bool, true, false, not, cond, List, [], ◌∷◌, ◌++◌, map, None, refl, sym, ap, ◌∙◌, subst}
use Rattle.std.specs.Prelude.{◌==◌, Vec, Result, Ok, Err, IfOk}
use Rattle.std.specs.List.{filter}
use Rattle.std.proofs.lemmas.List.{map-append}
use Rattle.sg_base.specs.declared.numbers.TxnId.{TxnId}
use Rattle.sg_ops.specs.Table.{Table as Operations}
use Rattle.sg_serial.specs.Machine.{run}
use Rattle.sg_serial.specs.Runs.{Live, is_live, is_own, open_entries}
use Rattle.sg_serial.specs.Runs as runs
use Rattle.sg_serial.proofs.Leaving.{run-append}
use Rattle.sg_model.specs.Objects.{Objects}
use Rattle.sg_model.specs.Verb.{Op, Reply}
use Rattle.sg_model.specs.Verb.Reply.{Several}
use Rattle.sg_model.specs.Step.{step}
use Rattle.sg_model.specs.declared.op.Reply as code_reply
use Rattle.sg_model.specs.SaidReplies.{said_reply}
use Rattle.sg_recovery.specs.Log as log
use Rattle.sg_run.specs.Run.{Run, Event, did, committed, aborted, rolled_back, live_objects, committed_objects}
use Rattle.sg_run.proofs.Serial.{serial_run}
use Rattle.sg_store.specs.Ground.{Ground, IsLawful}
use Rattle.sg_store.specs.Engine.{View, Sizes, Shown, led, AskedBy}
use Rattle.sg_store.specs.declared.fault.Refused.{Refused}
use Rattle.sg_store.specs.Stands.{StandsFor}
use Rattle.sg_store.specs.Store.{Core, Shows}
use Rattle.sg_run.specs.Numbers as calls
use Rattle.sg_store.specs.Calls.{Goes, Begins, Does, Lists, Saves, RollsBack, Commits, Aborts}
use Rattle.sg_store.specs.Rests.{HasObjects, HasDone, HasCommitted, HasGoneBack, HasAborted}
use Rattle.sg_store.proofs.Images.{image_stands}
use Rattle.sg_store.proofs.Points.{run_numbers_remarking}

abbrev pub numbers : List Live → List ℕ
numbers ls = map (λ l. l.transaction) ls

none_live : (ls : List Live) (u : ℕ) → numbers ls ≡ [] → is_live ls u ≡ false
none_live [] u e = refl
none_live (l ∷ ls) u e = absurd (cc)

numbers_without : (u : ℕ) (ls : List Live) → numbers (runs.without u ls) ≡ log.without u (numbers ls)
numbers_without u [] = refl
numbers_without u (l ∷ ls) = go (not (l.transaction == u)) (numbers_without u ls)
  where
    go : (b : Bool) → numbers (runs.without u ls) ≡ log.without u (numbers ls) → numbers (cond b (l ∷ runs.without u ls) (runs.without u ls)) ≡ cond b (l.transaction ∷ log.without u (numbers ls)) (log.without u (numbers ls))
    go true h = ap (λ ns. l.transaction ∷ ns) h
    go false h = h

own_twice : (u : ℕ) (es : List Event) → filter (is_own u) (filter (is_own u) es) ≡ filter (is_own u) es
own_twice u [] = refl
own_twice u (e ∷ es) = go (is_own u e) refl (own_twice u es)
  where
    go : (b : Bool) → is_own u e ≡ b → filter (is_own u) (filter (is_own u) es) ≡ filter (is_own u) es → filter (is_own u) (cond b (e ∷ filter (is_own u) es) (filter (is_own u) es)) ≡ cond b (e ∷ filter (is_own u) es) (filter (is_own u) es)
    go true is h = ap (λ b. cond b (e ∷ filter (is_own u) (filter (is_own u) es)) (filter (is_own u) (filter (is_own u) es))) is ∙ ap (λ xs. e ∷ xs) h
    go false is h = h

module _ (t : Operations) (g : Ground) where
  pub has_objects : (lawful : IsLawful t g) (v : View g) (k : Core) (y : Run) → Shows t g v k y → y.stopped ≡ None → (live : List ℕ) (objects durable : Objects)
      → numbers y.so_far.live ≡ live → live_objects t y ≡ objects → committed_objects t y ≡ durable → HasObjects live objects durable k t g v
  has_objects lawful v k y s none live objects durable lives are stand =
      let kept = (s.runs none).is_kept in
      record {
        lawful = lawful;
        run = y;
        shows = s;
        running = none;
        live_are = lives;
        objects_are = are;
        durable_are = stand;
        images = λ c leaves. subst (λ m. StandsFor t g c m) stand (image_stands t g v (committed_objects t y) v.log kept.logs.keeps.fronts c (kept.engine.images c leaves));
        at_rest = λ e. sym are ∙ ((serial_run t y kept.logs.sound).alone (λ u. none_live y.so_far.live u (lives ∙ e)) ∙ stand);
      }

  module _ (v w : View g) (k m : Core) (live : List ℕ) (objects durable : Objects) (h : HasObjects live objects durable k t g v) where
    -- nothing has changed
    pub same_has : (Line : Run → Type 0) (go : Goes t g v h.run Line w m) → go.after ≡ h.run → HasObjects live objects durable m t g w
    same_has Line go eq = has_objects h.lawful w m go.after go.shows (ap (λ (z : Run). z.stopped) eq ∙ h.running) live objects durable
        (ap (λ (z : Run). numbers z.so_far.live) eq ∙ h.live_are) (ap (λ (z : Run). live_objects t z) eq ∙ h.objects_are) (ap (λ (z : Run). committed_objects t z) eq ∙ h.durable_are)

    pub begun_has : (tail before now : ℕ) (name : List ℕ) (n : TxnId) → Goes t g v h.run (Begins tail before now name h.run (Ok n)) w m → HasObjects (live ++ n.0 ∷ []) objects durable m t g w
    begun_has tail before now name n go =
        let eq = go.goes.4 in
        has_objects h.lawful w m go.after go.shows (ap (λ (z : Run). z.stopped) eq ∙ h.running) (live ++ n.0 ∷ []) objects durable
        (ap (λ (z : Run). numbers z.so_far.live) eq ∙ (map-append (λ (l : Live). l.transaction) h.run.so_far.live (record { name = name; transaction = n.0; marks = [] } ∷ []) ∙ ap (λ ns. ns ++ n.0 ∷ []) h.live_are))
        (ap (λ (z : Run). live_objects t z) eq ∙ h.objects_are) (ap (λ (z : Run). committed_objects t z) eq ∙ h.durable_are)

    -- a mark was set
    pub saved_has : (tail before now u n : ℕ) → Goes t g v h.run (Saves tail before now u h.run (Ok n)) w m → HasObjects live objects durable m t g w
    saved_has tail before now u n go =
        let eq = go.goes.5.2 in
        has_objects h.lawful w m go.after go.shows (ap (λ (z : Run). z.stopped) eq ∙ h.running) live objects durable
        (ap (λ (z : Run). numbers z.so_far.live) eq ∙ (run_numbers_remarking u (λ ms. ms ++ (record { number = go.goes.5.0; time = h.run.so_far.clock }) ∷ []) h.run.so_far.live ∙ h.live_are))
        (ap (λ (z : Run). live_objects t z) eq ∙ h.objects_are) (ap (λ (z : Run). committed_objects t z) eq ∙ h.durable_are)

    did_objects : (u : ℕ) (op : Op) → live_objects t (did t h.run u op) ≡ (step t (live_objects t h.run) op).1
    did_objects u op = run-append (step t) h.run.so_far.first h.run.so_far.history (record { transaction = u; op = op; out = (step t (live_objects t h.run) op).0; time = h.run.so_far.clock } ∷ [])

    pub done_has : (begin tail before now u : ℕ) (op : Op) (reply : Reply) → Goes t g v h.run (calls.Does t begin tail before now u op h.run (Ok reply)) w m → HasDone live objects durable op reply m t g w
    done_has begin tail before now u op reply go =
        let eq = go.goes.4 in
        record {
          replied = subst (λ s. (step t s op).0 ≡ Ok reply) h.objects_are go.goes.2;
          has = has_objects h.lawful w m go.after go.shows (ap (λ (z : Run). z.stopped) eq ∙ h.running) live (step t objects op).1 durable
              (ap (λ (z : Run). numbers z.so_far.live) eq ∙ h.live_are)
              (ap (λ (z : Run). live_objects t z) eq ∙ (did_objects u op ∙ ap (λ s. (step t s op).1) h.objects_are))
              (ap (λ (z : Run). committed_objects t z) eq ∙ h.durable_are);
        }

    pub committed_has : (tail before now u : ℕ) → Goes t g v h.run (Commits tail before now u h.run (Ok tt)) w m → HasCommitted u live objects durable m t g w
    committed_has tail before now u go =
        let eq = go.goes.2 in
        let sound = (h.shows.runs h.running).is_kept.logs.sound in
        record {
          after = committed_objects t (committed h.run u);
          has = has_objects h.lawful w m go.after go.shows (ap (λ (z : Run). z.stopped) eq ∙ h.running) (log.without u live) objects (committed_objects t (committed h.run u))
              (ap (λ (z : Run). numbers z.so_far.live) eq ∙ (numbers_without u h.run.so_far.live ∙ ap (λ ns. log.without u ns) h.live_are))
              (ap (λ (z : Run). live_objects t z) eq ∙ h.objects_are) (ap (λ (z : Run). committed_objects t z) eq);
          added = record {
            done = filter (is_own u) (open_entries h.run.so_far);
            own = own_twice u (open_entries h.run.so_far);
            adds = (serial_run t h.run sound).adds u go.goes.1 ∙ ap (λ s. run (step t) s (filter (is_own u) (open_entries h.run.so_far))) h.durable_are;
          };
        }

    pub aborted_has : (tail before now u : ℕ) → Goes t g v h.run (Aborts tail before now u h.run (Ok tt)) w m → HasAborted u live durable m t g w
    aborted_has tail before now u go =
        let eq = go.goes.2 in
        record {
          after = live_objects t (aborted h.run u);
          has = has_objects h.lawful w m go.after go.shows (ap (λ (z : Run). z.stopped) eq ∙ h.running) (log.without u live) (live_objects t (aborted h.run u)) durable
              (ap (λ (z : Run). numbers z.so_far.live) eq ∙ (numbers_without u h.run.so_far.live ∙ ap (λ ns. log.without u ns) h.live_are))
              (ap (λ (z : Run). live_objects t z) eq) (ap (λ (z : Run). committed_objects t z) eq ∙ h.durable_are);
        }

    pub rolled_has : (tail before now u n : ℕ) → Goes t g v h.run (RollsBack tail before now u n h.run (Ok tt)) w m → HasGoneBack live durable m t g w
    rolled_has tail before now u n go =
        let mark = go.goes.2.0 in
        let eq = go.goes.2.2 in
        record {
          after = live_objects t (rolled_back h.run u mark.time n);
          has = has_objects h.lawful w m go.after go.shows (ap (λ (z : Run). z.stopped) eq ∙ h.running) live (live_objects t (rolled_back h.run u mark.time n)) durable
              (ap (λ (z : Run). numbers z.so_far.live) eq ∙ (run_numbers_remarking u (λ ms. Rattle.std.proofs.Common.take n ms) h.run.so_far.live ∙ h.live_are))
              (ap (λ (z : Run). live_objects t z) eq) (ap (λ (z : Run). committed_objects t z) eq ∙ h.durable_are);
        }

-- an operation that got a reply, whatever it was answered
module _ {basis : Sizes → Ground} (t : Operations) (old new : Shown basis) (k m : Core) (live : List ℕ) (objects durable : Objects) (begin tail before now u : ℕ) (op : Op) (keeps : (z : Sizes) (from : (basis z).X) → old.means t z from → new.means t z from) (back : new.Told → old.Told) (s : AskedBy t old (HasObjects live objects durable k t)) where
  done_with : (reply : Reply) → ((z : Sizes) (from : (basis z).X) → old.means t z from → old.Told → (x : Run) → IsLawful t (basis z) → Shows t (basis z) (led t z from old) k x
      → Goes t (basis z) (led t z from old) x (calls.Does t begin tail before now u op x (Ok reply)) (led t z from new) m)
      → AskedBy t new (HasDone live objects durable op reply m t)
  done_with reply goes = record {
    sizes = s.sizes;
    from = λ tells. s.from (back tells);
    means = λ tells. keeps s.sizes (s.from (back tells)) (s.means (back tells));
    can = λ tells.
        (let h = s.can (back tells) in
        done_has t (basis s.sizes) (led t s.sizes (s.from (back tells)) old) (led t s.sizes (s.from (back tells)) new) k m live objects durable h begin tail before now u op reply (goes s.sizes (s.from (back tells)) (s.means (back tells)) (back tells) h.run h.lawful h.shows));
  }

  pub done_if : (into : List ℕ) (result : Result code_reply.Reply Refused) → ((z : Sizes) (from : (basis z).X) → old.means t z from → old.Told → (x : Run) → IsLawful t (basis z) → Shows t (basis z) (led t z from old) k x
      → Goes t (basis z) (led t z from old) x (Does t begin tail before now u op x into result) (led t z from new) m)
      → IfOk result (λ r. AskedBy t new (HasDone live objects durable op (said_reply into r) m t))
  done_if into (Ok r) goes = done_with (said_reply into r) goes
  done_if into (Err e) goes = tt

  -- a list
  pub listed_if : {A : Type 0} (result : Result (Vec (List ℕ) A) Refused) → ((z : Sizes) (from : (basis z).X) → old.means t z from → old.Told → (x : Run) → IsLawful t (basis z) → Shows t (basis z) (led t z from old) k x
      → Goes t (basis z) (led t z from old) x (Lists t begin tail before now u op x result) (led t z from new) m)
      → IfOk result (λ v. AskedBy t new (HasDone live objects durable op (Several v.items) m t))
  listed_if (Ok v) goes = done_with (Several v.items) goes
  listed_if (Err e) goes = tt
