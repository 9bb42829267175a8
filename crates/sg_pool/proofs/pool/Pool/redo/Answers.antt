use Rattle.std.proofs.Common.{rules, ◌≡◌, ◌≤◌, ◌<◌, ◌+◌, ℕ, length, ◌∙◌, ap, subst, arith}
use Rattle.std.proofs.lemmas.Result.{on_ok_weaker, on_err_weaker}
use Rattle.std.proofs.lemmas.List.Sorted.{answers_always, All-permutation}
use Rattle.sg_ops.specs.Table.{Table, table_of}
use Rattle.sg_redo.specs.declared.place.Place.{Place}
use Rattle.sg_redo.specs.Places.{change_at, IsKnown}
use Rattle.sg_pool.specs.Pooled.{sizes, last_of}
use Rattle.sg_pool.proofs.RedoMoments.{tail_is_gate}
use Rattle.sg_pool.proofs.Regrouped.{run_regrouped}
use Rattle.sg_pool.proofs.Sorted.{sorted_up, sorted_same}
use Rattle.sg_pool.proofs.pool.Pool.redo.Goals as goal

pub redo_sorted-requires-clause-within : goal.redo_sorted-requires-clause-within
redo_sorted-requires-clause-within g c ls lf = All-permutation (λ (p : Place). p.unit < c.args.self.now.shelf.pages + c.args.self.now.shelf.bands) c.args.places.now c.sort_unstable_by_key.new.self c.sort_unstable_by_key.ensures.permutation c.requires.within

pub redo_sorted-requires-clause-known : goal.redo_sorted-requires-clause-known
redo_sorted-requires-clause-known g c ls lf =
    let t : Table = table_of (λ p. (goal.RecordOp-dyn g p).record_meaning p.1) (λ p. (goal.RangeOp-dyn g p).range_meaning p.1) c.args.ops.now in
    All-permutation (λ (p : Place). IsKnown t (change_at c.args.text.now p.at)) c.args.places.now c.sort_unstable_by_key.new.self c.sort_unstable_by_key.ensures.permutation c.requires.known

pub redo_sorted-requires-clause-grouped : goal.redo_sorted-requires-clause-grouped
redo_sorted-requires-clause-grouped g c ls lf =
    let key : Place → ℕ × ℕ = λ p. (p.unit, p.lsn) in
    sorted_up c.sort_unstable_by_key.new.self (c.sort_unstable_by_key.ensures.sorted key (answers_always _ _ _ (λ f a r h k. search rules)))

pub returns : goal.returns
returns g c =
    let key : Place → ℕ × ℕ = λ p. (p.unit, p.lsn) in
    let moved = c.sort_unstable_by_key.ensures.permutation in
    let sorted = c.sort_unstable_by_key.ensures.sorted key (answers_always _ _ _ (λ f a r h k. search rules)) in
    let long = c.sort_unstable_by_key.ensures.len in
    let run = run_regrouped (sizes c.args.self.now) g.D.Disk.told _ c.args.text.now c.args.places.now c.sort_unstable_by_key.new.self moved (sorted_same c.args.places.now c.sort_unstable_by_key.new.self c.requires.order moved sorted)
    (g.D.Disk.view c.args.disk.now) (g.D.Disk.view c.redo_sorted.new.disk) c.args.log.now c.redo_sorted.new.log c.args.self.now c.redo_sorted.new.self c.redo_sorted.result c.redo_sorted.ensures.run in
    record {
      places = moved;
      size = run.size;
      backed = λ is_told apart backs. (run.units_are is_told apart backs).backed;
      redone = λ is_told apart backs. (run.units_are is_told apart backs).redone;
      refused = λ is_told apart backs. (run.units_are is_told apart backs).partly;
      homes = λ ds is_told apart backs durable. (run.durable ds is_told apart backs durable).homes;
      logged = λ ds is_told apart backs durable. (run.durable ds is_told apart backs durable).logged;
      lasts = run.lasts;
      log_kept = run.log_kept;
      pins = run.pins;
      count = run.count;
      untouched = λ is_told apart backs. (run.units_are is_told apart backs).untouched;
      gone = λ ds is_told apart backs durable b o had none. subst (λ (d : ℕ). last_of c.args.self.now b < d) (tail_is_gate (g.D.Disk.view c.args.disk.now) c.args.log.now ds durable.holds) (durable.logged.bands b o had);
      log = run.log_is;
      moments = λ ds is_told apart backs durable. (run.durable ds is_told apart backs durable).moments;
      well = λ is_told apart backs. (run.units_are is_told apart backs).well;
      faults = run.faults;
      later = run.later;
      heeded = run.heeded;
      kept = run.kept;
      grown = run.grown;
      steps = on_ok_weaker c.redo_sorted.result (λ (e : c.redo_sorted.new.steps ≡ c.args.steps.now + length c.sort_unstable_by_key.new.self). e ∙ ap (λ (n : ℕ). c.args.steps.now + n) long) c.redo_sorted.ensures.steps;
      fewer_steps = on_err_weaker c.redo_sorted.result (λ (e : (c.args.steps.now ≤ c.redo_sorted.new.steps) × (c.redo_sorted.new.steps < c.args.steps.now + length c.sort_unstable_by_key.new.self)). (e.0, let less = e.1 in omega (arith, less, long))) c.redo_sorted.ensures.fewer_steps;
    }
