-- What a crash may leave of a run at any moment.
use Rattle.std.proofs.Common.{◌≡◌, ℕ, ◌<◌, ◌≤◌, arith, List, [], ◌∷◌, ◌++◌, Some, refl, sym, subst}
use Rattle.sg_recovery.specs.Setting.{Setting}
use Rattle.sg_recovery.specs.Log.{Numbered, said, tally}
use Rattle.sg_recovery.specs.Log.Record.{Commit}
use Rattle.sg_recovery.specs.Stands.{made, settled, wanted, StandsFor}
use Rattle.sg_recovery.specs.Laws.{Each, Laws}
use Rattle.sg_recovery.specs.Shows.{Entry, from_on, left, Running, kept}
use Rattle.sg_recovery.specs.Runs.{AllStand}
use Rattle.sg_recovery.specs.Chains.{next_lsn, Formed}
use Rattle.sg_recovery.specs.Opens.{Run}
use Rattle.sg_recovery.specs.Opens.Run.{starts, goes, commits, looks, forgets, locks, releases}
use Rattle.sg_recovery.proofs.Running as running
use Rattle.sg_recovery.proofs.Showing.{kept_entry, kept_undone}

-- a run keeps what a running store keeps
pub run_keeps : (s : Setting) → Laws s → (first : s.S) (x : s.X) (more down : List (Numbered s.C s.N)) (held : ℕ → s.W) (h : List (Entry s.V)) → Run s first x more down held h
    → Running s first (next_lsn (more ++ down)) held (tally (more ++ down)) (made s x (more ++ down)) h
run_keeps s w first x more down held h (starts d e g i) = i
run_keeps s w first x more down held h (goes ms d e g g2 r run le step) =
    running.goes_on s w first (next_lsn (ms ++ d)) r.lsn e (tally (ms ++ d)) (made s x (ms ++ d)) g g2 r.is (run_keeps s w first x ms d e g run) le step
run_keeps s w first x more down held h (commits ms d e g l t p run le) =
    running.commits s first (next_lsn (ms ++ d)) l t p e (tally (ms ++ d)) (made s x (ms ++ d)) g (run_keeps s w first x ms d e g run) le
run_keeps s w first x more down held h (looks ms d e g t v run live after granted) =
    let i = run_keeps s w first x ms d e g run in
    running.looks s w first (next_lsn (ms ++ d)) t e v (tally (ms ++ d)) (made s x (ms ++ d)) g i live (after i.reading i.reads) granted
run_keeps s w first x more down held h (forgets ms d e g t from run live low) =
    running.forgets s first (next_lsn (ms ++ d)) t from e (tally (ms ++ d)) (made s x (ms ++ d)) g (run_keeps s w first x ms d e g run) live low
run_keeps s w first x more down held h (locks ms d e new g t run more_locks) =
    running.locks s first (next_lsn (ms ++ d)) t e new (tally (ms ++ d)) (made s x (ms ++ d)) g (run_keeps s w first x ms d e g run) more_locks
run_keeps s w first x more down held h (releases ms d e new g t run less) =
    running.releases s first (next_lsn (ms ++ d)) t e new (tally (ms ++ d)) (made s x (ms ++ d)) g (run_keeps s w first x ms d e g run) less

all_same : (s : Setting) (x : s.X) (m n : s.S) (more down : List (Numbered s.C s.N)) → n ≡ m → AllStand s x m more down → AllStand s x n more down
all_same s x m n more down e h = subst (λ a. AllStand s x a more down) (sym e) h

now_stands : (s : Setting) → Laws s → (first : s.S) (x : s.X) (more down : List (Numbered s.C s.N)) (held : ℕ → s.W) (h : List (Entry s.V)) → Run s first x more down held h
    → StandsFor s x (more ++ down) (kept s first (tally (more ++ down)).live h)
now_stands s w first x more down held h run =
    running.running_stands s first (next_lsn (more ++ down)) held (tally (more ++ down)) (made s x (more ++ down)) h (run_keeps s w first x more down held h run)

-- Whatever front of the log a crash leaves, down to the last commit, it stands for what the entries of the transactions that
-- aren't live give.
pub run_stands : (s : Setting) → Laws s → (first : s.S) (x : s.X) (more down : List (Numbered s.C s.N)) (held : ℕ → s.W) (h : List (Entry s.V)) → Run s first x more down held h
    → AllStand s x (kept s first (tally (more ++ down)).live h) more down
run_stands s w first x more down held h (starts d e g i) = running.running_stands s first (next_lsn d) e (tally d) (made s x d) g i
run_stands s w first x more down held h (goes ms d e g g2 r run le step) = (
  now_stands s w first x (r ∷ ms) d e g2 (goes ms d e g g2 r run le step),
  all_same s x (kept s first (tally (ms ++ d)).live g) (kept s first (said r.lsn r.is (tally (ms ++ d))).live g2) ms d
      (running.goes_same s first (next_lsn (ms ++ d)) r.lsn e (tally (ms ++ d)) (made s x (ms ++ d)) g g2 r.is (run_keeps s w first x ms d e g run) le step) (run_stands s w first x ms d e g run),
)
run_stands s w first x more down held h (commits ms d e g l t p run le) = now_stands s w first x [] (record { lsn = l; is = Commit t p } ∷ (ms ++ d)) e g (commits ms d e g l t p run le)
run_stands s w first x more down held h (looks ms d e g t v run live after granted) =
    all_same s x (kept s first (tally (ms ++ d)).live g) (kept s first (tally (ms ++ d)).live (record { transaction = t; at = next_lsn (ms ++ d); verb = v } ∷ g)) ms d
    (kept_entry s first (tally (ms ++ d)).live (record { transaction = t; at = next_lsn (ms ++ d); verb = v }) g live) (run_stands s w first x ms d e g run)
run_stands s w first x more down held h (forgets ms d e g t from run live low) =
    all_same s x (kept s first (tally (ms ++ d)).live g) (kept s first (tally (ms ++ d)).live (left (from_on t from) g)) ms d
    (kept_undone s first (tally (ms ++ d)).live t from g live) (run_stands s w first x ms d e g run)
run_stands s w first x more down held h (locks ms d e new g t run more_locks) = run_stands s w first x ms d e g run
run_stands s w first x more down held h (releases ms d e new g t run less) = run_stands s w first x ms d e g run

-- a store that has just been opened is running, with no history
pub fresh_runs : (s : Setting) (x : s.X) (rs : List (Numbered s.C s.N)) (held : ℕ → s.W) (o : s.O) → Formed rs → (tally rs).opened ≡ [] → (tally rs).live ≡ [] → (tally rs).notes ≡ [] → s.reading (made s x rs) ≡ Some o
    → Running s (s.objects o) (next_lsn rs) held (tally rs) (made s x rs) []
fresh_runs s x rs held o f none over clear reads = record {
  reading = o;
  reads = subst (λ ds. settled s ds (made s x rs) ≡ Some o) (sym none) reads;
  pages = subst (λ ns. wanted s ns ≤ s.free o) (sym clear) (omega arith);
  placed = [];
  are = sym clear;
  shows = λ c up of. (o, refl, refl);
  lives = subst (Each (λ t. t < next_lsn rs)) (sym over) tt;
  notes = tt;
  locked = tt;
  ranks = tt;
  entries = tt;
}
