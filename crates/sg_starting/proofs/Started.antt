-- A store that has been opened shows a run that begins with the objects that its image stood for.
use Rattle.std.proofs.Common.{◌≡◌, ◌==◌, ◌≤◌, ℕ, Bool, true, false, not, cond, List, [], map, Option, Some, None, Result, Ok, Err, OnOk, refl, sym, ap, ◌∙◌, subst, arith}
use Rattle.std.specs.FinMap.{get}
use Rattle.sg_ops.specs.Table.{Table as Operations}
use Rattle.sg_model.specs.Objects.{Objects}
use Rattle.sg_run.specs.Run.{start}
use Rattle.sg_serial.specs.Locks.{held_of}
use Rattle.sg_recovery.specs.Log.{tally}
use Rattle.sg_recovery.specs.Chains.{Formed}
use Rattle.sg_recovery.specs.Claims.{Log}
use Rattle.sg_join.proofs.Keeping.{forced}
use Rattle.sg_store.specs.Ground.{Ground, IsLawful, setting}
use Rattle.sg_store.specs.Engine.{View, pages_of}
use Rattle.sg_recovery.specs.Stands.{made, settled}
use Rattle.sg_recovery.proofs.Basic.{some_one, same_number}
use Rattle.sg_room.specs.Marks.{Grave, Marks, isnt_of, freed}
use Rattle.sg_room.proofs.Freed.{get_freed}
use Rattle.sg_store.specs.Room.{step_of}
use Rattle.sg_starting.proofs.Undoing.{read_o}
use Rattle.sg_store.specs.Store.{Logs, IsKept, Shows}
use Rattle.sg_store.proofs.Opened.{opened_logs}
use Rattle.sg_starting.specs.Starting.{IsStarting, IsSettled, AreBuried, AreKept, BeginsStock, marks_left}
use Rattle.sg_starting.proofs.Steps.{now_stands}

module _ (t : Operations) (g : Ground) (lawful : IsLawful t g) (v : View g) (down : Log (setting t g)) (m : Objects) (k : IsStarting t g v down m) (none : (tally v.log).notes ≡ []) (over : (tally v.log).live ≡ []) (clear : AreBuried t g v 0) where
  found_logs : Logs t g v.first down v.log (start m)
  found_logs = subst (λ (l : Log (setting t g)). Logs t g v.first down l (start m)) (sym k.opens.all)
      (opened_logs t g v.first m lawful k.opens.more down (subst (λ (l : Log (setting t g)). Formed l) k.opens.all k.engine.formed.chained) k.opens.steps k.stood
      (ap (λ (l : Log (setting t g)). (tally l).opened) (sym k.opens.all) ∙ k.idle)
      (ap (λ (l : Log (setting t g)). (tally l).live) (sym k.opens.all) ∙ over)
      (ap (λ (l : Log (setting t g)). (tally l).notes) (sym k.opens.all) ∙ none))

  logs : Logs t g v.first v.durable v.log (start m)
  logs =
      let f = found_logs in
      record { sound = f.sound; next = f.next; history = f.history; same = f.same; points = f.points; keeps = forced (setting t g) (start m).so_far.first v.first (Rattle.sg_run.specs.Run.committed_objects t (start m)) (held_of (start m).so_far.held) down v.durable v.log f.history k.found f.keeps }

  pub kept : IsKept t g v [] (start m)
  kept = record { live = refl; answered = refl; engine = k.engine; idle = k.idle; logs = logs; free = k.free; reserved = tt; marked = λ o e. tt; marks = refl; buried = λ o e d f is. absurd (lawful.none_buried o (let few : g.buried o ≤ 0 = clear o e in omega (arith, few)) d f is) }

  pub shows : Shows t g v (record { live = []; held = []; stopped = None }) (start m)
  shows = record {
    stopped = refl;
    runs = λ go. record { is_kept = kept; held = refl };
    answered = omega arith;
    one_more = omega arith;
    images = λ c leaves. record { commits = 0; enough = omega arith; most = omega arith; stands = now_stands t g lawful v down m k c leaves };
  }

pub starts_ok : {T E : Type 0} (t : Operations) (g : Ground) (lawful : IsLawful t g) (v : View g) (down : Log (setting t g)) (m : Objects) (r : Result T E) → OnOk r (IsStarting t g v down m × ((tally v.log).notes ≡ []) × ((tally v.log).live ≡ [])) → OnOk r (IsStarting t g v down m × IsSettled v)
starts_ok t g lawful v down m (Ok x) is = (is.0, record { undone = is.1; over = is.2 })
starts_ok t g lawful v down m (Err e) is = tt

pub settled_ok : {T E : Type 0} (t : Operations) (g : Ground) (lawful : IsLawful t g) (v : View g) (down : Log (setting t g)) (m : Objects) (r : Result T E) → OnOk r (IsStarting t g v down m × IsSettled v × AreBuried t g v 0)
    → OnOk r (Shows t g v (record { live = []; held = []; stopped = None }) (start m) × AreBuried t g v 0)
settled_ok t g lawful v down m (Ok x) is = (shows t g lawful v down m is.0 is.1.undone is.1.over is.2, is.2)
settled_ok t g lawful v down m (Err e) is = tt

-- where no commit takes a tombstone there is none
no_graves : (m : Marks) → ((u : ℕ) → freed u m ≡ m) → (key : List ℕ) → get m.graves key ≡ None
no_graves m none key = go (get m.graves key) refl
  where
    gone : (b : Bool) → b ≡ true → (d : Grave) → Some d ≡ cond (not b) (Some d) None → ⊥
    gone true e d h = cc
    gone false e d h = absurd (cc)

    go : (x : Option Grave) → get m.graves key ≡ x → x ≡ None
    go None e = refl
    go (Some d) e = absurd (gone (d.dropper == d.dropper) (same_number d.dropper) d
        (subst (λ x. x ≡ cond (isnt_of d.dropper x) x None) e (sym (ap (λ (z : Marks). get z.graves key) (none d.dropper)) ∙ get_freed d.dropper m key)))

-- THE STOCK that it shows
stock_at : (t : Operations) (g : Ground) (lawful : IsLawful t g) (v : View g) (down : Log (setting t g)) (m : Objects) (o : g.O) → settled (setting t g) (tally down).opened (made (setting t g) v.first down) ≡ Some o
    → IsStarting t g v down m → IsSettled v → AreBuried t g v 0 → BeginsStock t g o (tally down).notes v
stock_at t g lawful v down m o e k s clear =
    let p = read_o t g lawful v down m k in
    record {
      marks = g.marks p.0;
      shows = record { marks = λ b i. ap g.marks (some_one b p.0 (sym i ∙ p.1)); steps = ap (map (step_of g)) s.undone };
      kept = subst (λ ns. AreKept (marks_left g ns (g.marks p.0)) (marks_left g (tally down).notes (g.marks o))) s.undone (k.marks o p.0 e p.1);
      none = no_graves (g.marks p.0) (λ u. lawful.none_freed (pages_of t g v) p.0 p.1 u
          (λ f is. lawful.none_buried p.0 (let few : g.buried p.0 ≤ 0 = clear p.0 p.1 in omega (arith, few)) u f is));
    }

pub stock_ok : {T E : Type 0} (t : Operations) (g : Ground) (lawful : IsLawful t g) (v : View g) (down : Log (setting t g)) (m : Objects) (o : g.O) → settled (setting t g) (tally down).opened (made (setting t g) v.first down) ≡ Some o
    → (r : Result T E) → OnOk r (IsStarting t g v down m × IsSettled v × AreBuried t g v 0) → OnOk r (BeginsStock t g o (tally down).notes v)
stock_ok t g lawful v down m o e (Ok x) is = stock_at t g lawful v down m o e is.0 is.1 is.2
stock_ok t g lawful v down m o e (Err x) is = tt
