-- A store that has just been opened keeps a run that begins with the objects that its image stood for.
use Rattle.std.proofs.Common.{◌≡◌, [], ◌∷◌, ◌++◌, refl, sym, ap, subst, arith}
use Rattle.sg_ops.specs.Table.{Table as Operations}
use Rattle.sg_model.specs.Objects.{Objects}
use Rattle.sg_run.specs.Run.{start}
use Rattle.sg_run.proofs.Serial.{start_stays}
use Rattle.sg_recovery.specs.Log.{tally, is_in}
use Rattle.sg_recovery.specs.Stands.{made, StandsFor as LogStands}
use Rattle.sg_recovery.specs.Runs.{AllStand}
use Rattle.sg_recovery.specs.Opens.{AreOpening}
use Rattle.sg_recovery.specs.Chains.{Formed, next_lsn}
use Rattle.sg_recovery.specs.Claims.{Log}
use Rattle.sg_recovery.proofs.Telling.{fresh_runs}
use Rattle.sg_recovery.proofs.Opening.{opening_stands, opened_reads}
use Rattle.sg_join.specs.Join.{FrontsStand}
use Rattle.sg_recovery.specs.Shows.{Running}
use Rattle.sg_serial.specs.Locks.{held_of}
use Rattle.sg_join.proofs.Fronts.{front_one, front_only}
use Rattle.sg_store.specs.Ground.{Ground, IsLawful, setting}
use Rattle.sg_store.specs.Store.{Logs}

module _ (t : Operations) (g : Ground) (pages : g.X) (m : Objects) where
  -- all fronts of a log down to one of them
  pub all_fronts : (more down : Log (setting t g)) → AllStand (setting t g) pages m more down → FrontsStand (setting t g) pages m down (more ++ down)
  all_fronts [] down h front f = subst (λ (l : Log (setting t g)). LogStands (setting t g) pages l m) (sym (front_only down front f)) h
  all_fronts (r ∷ more) down h front f = front_one (λ l. LogStands (setting t g) pages l m) down (more ++ down) front r h.0 (λ l i. all_fronts more down h.1 l i) f

  -- THE END OF AN OPENING: from a log that stood for these objects, by the steps of an opening, to one with no loser and nothing open
  pub opened_logs : (lawful : IsLawful t g) (more down : Log (setting t g)) → Formed (more ++ down) → AreOpening (setting t g) pages more down → LogStands (setting t g) pages down m
      → (tally (more ++ down)).opened ≡ [] → (tally (more ++ down)).live ≡ [] → (tally (more ++ down)).notes ≡ [] → Logs t g pages down (more ++ down) (start m)
  opened_logs lawful more down formed opening stood idle none clear =
      let stand = opening_stands (setting t g) lawful.laws pages m more down formed opening stood in
      let reads = opened_reads (setting t g) pages m (more ++ down) formed idle none (now more stand) in
      record {
        sound = start_stays t m;
        next = omega arith;
        history = [];
        same = record { same = refl; lives = λ u. ap (λ ls. is_in u ls) none };
        points = record { entries = tt; marks = tt };
        keeps = record {
          running = subst (λ z. Running (setting t g) z (next_lsn (more ++ down)) (held_of []) (tally (more ++ down)) (made (setting t g) pages (more ++ down)) []) reads.2
              (fresh_runs (setting t g) pages (more ++ down) (held_of []) reads.0 formed idle none clear reads.1);
          left = refl;
          fronts = all_fronts more down stand;
        };
      }
    where
      now : (ls : Log (setting t g)) → AllStand (setting t g) pages m ls down → LogStands (setting t g) pages (ls ++ down) m
      now [] h = h
      now (r ∷ ls) h = h.0
