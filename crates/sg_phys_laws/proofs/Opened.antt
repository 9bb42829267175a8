-- An engine that was opened, or made.
use Rattle.std.proofs.Common.{◌≡◌, ◌≤◌, ℕ, List, [], ◌++◌, sym, ap, ◌∙◌, subst, arith}
use Rattle.sg_disk.specs.Disk.{Image, View}
use Rattle.sg_log.specs.Frames.{Numbered}
use Rattle.sg_log.specs.Held.{Tail}
use Rattle.sg_ops.specs.Table.{Table}
use Rattle.sg_pool.specs.declared.pool.Pool.{Pool}
use Rattle.sg_action.specs.States.{State}
use Rattle.sg_engine.specs.Engine.{Origin}
use Rattle.sg_engine.specs.Running.{IsEngine, IsAllowed}
use Rattle.sg_actions.specs.Steps.{Steps}
use Rattle.sg_recovery.specs.Formed.{IsLog}
use Rattle.sg_phys_laws.specs.Formed.{AreFormed}
use Rattle.sg_phys_laws.specs.Known.{IsEnough, AllEnough}
use Rattle.sg_phys_laws.specs.Poised.{IsPoised, AreSaid}
use Rattle.sg_phys_laws.specs.Points.{redo_point, AreMarked, ArePoints}
use Rattle.sg_phys_laws.specs.Reading.{durable_in, waiting_in}
use Rattle.sg_phys_laws.specs.Recovers.{Recovers, RecoversBy, extent_by, super_in}
use Rattle.sg_phys_laws.specs.States.{AllAgree, steps_of}
use Rattle.sg_phys_laws.proofs.Agreeing.{all_agree_none}
use Rattle.sg_phys_laws.proofs.Enough.{all_enough_none}
use Rattle.sg_phys_laws.proofs.Forming.{formed_none}
use Rattle.sg_phys_laws.proofs.Reading.{held_are}
use Rattle.sg_phys_laws.proofs.Wrapped.{now_again, all_are, append_none}

-- a lower point is allowed too
pub allowed_less : (o : Origin) (v : View) (log : Tail) (pool : Pool) (j k : ℕ) → j ≤ k → IsAllowed o v log pool k → IsAllowed o v log pool j
allowed_less o v log pool j k le allowed = record {
  pages = λ n lt. let more = allowed.pages n lt in omega arith;
  bands = λ b lt. let more = allowed.bands b lt in omega arith;
}

pub opened_poised : (t : Table) (from : State) (o : Origin) (v : View) (log : Tail) (rs : List Numbered) (pool : Pool) → IsEngine o v log rs [] pool → AreSaid t from o rs → ∥ IsLog o.super.base (steps_of rs) ∥₁ → IsEnough t o.super.base rs → AreMarked (λ k. Unit {0}) rs → IsAllowed o v log pool (redo_point o.super.base rs) → IsPoised t from o v log pool
opened_poised t from o v log rs pool e said formed enough low allowed =
    let held = held_are v log rs [] e.engine.held in
    let whole : durable_in v log ++ waiting_in log ≡ rs = all_are o v log rs [] pool e ∙ append_none rs in
    let points : ArePoints o (IsAllowed o v log pool) rs rs = record {
      more = [];
      is_all = sym (append_none rs);
      low = low;
      start = allowed_less o v log pool o.super.base (redo_point o.super.base rs) (omega arith) allowed;
      now = allowed;
      marked = tt;
    } in
    record {
      now = now_again t o v log rs [] pool e (subst (AllAgree t o rs) (sym (append_none rs)) (all_agree_none t o rs));
      points = subst (λ (l : List Numbered). ArePoints o (IsAllowed o v log pool) (durable_in v log) l) (sym whole) (subst (λ (l : List Numbered). ArePoints o (IsAllowed o v log pool) l rs) (sym held.0) points);
      said = subst (AreSaid t from o) (sym held.0) said;
      formed = subst (λ (l : List Numbered). AreFormed o.super.base (durable_in v log) l) (sym whole)
          (subst (λ (l : List Numbered). AreFormed o.super.base l rs) (sym held.0) (formed_none o.super.base rs formed));
      enough = subst (λ (l : List Numbered). AllEnough t o.super.base (durable_in v log) l) (sym whole)
          (subst (λ (l : List Numbered). AllEnough t o.super.base l rs) (sym held.0) (all_enough_none t o.super.base rs enough));
    }

-- an image holds one list of steps, and one state
pub recovers_same : (t : Table) (o : Origin) (c : Image) (l m : Steps) (x y : State) → Recovers t o c l x → Recovers t o c m y → (l ≡ m) × (x ≡ y)
recovers_same t o c l m x y a b = (a.records ∙ sym b.records, a.state ∙ sym b.state)

-- which has as many pages and bands as the superblock says
pub recovered_sized : (t : Table) (c : Image) (log : Steps) (x : State) → RecoversBy t c log x → x.size ≡ extent_by (super_in c)
recovered_sized t c log x r = ap (λ (y : State). y.size) r.holds.state
