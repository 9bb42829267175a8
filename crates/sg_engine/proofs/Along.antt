-- Where nothing was written.
use Rattle.std.proofs.Common.{◌≡◌, ℕ, List, sym, subst}
use Rattle.sg_disk.specs.Disk.{State, View}
use Rattle.sg_log.specs.Frames.{Numbered}
use Rattle.sg_log.specs.Held.{Tail}
use Rattle.sg_log.proofs.Holding.{holds_along}
use Rattle.sg_pool.specs.declared.pool.Pool.{Pool}
use Rattle.sg_pool.specs.Pooled.{contents}
use Rattle.sg_pool.specs.Shelves.{lasts}
use Rattle.sg_engine.specs.Engine.{Origin, IsEngineOf}
use Rattle.sg_engine.specs.Running.{IsEngine, IsAllowed}

seen_as : (o : Origin) (v : View) (s : State) (log : Tail) (ds ps : List Numbered) (last : ℕ → ℕ) (pool : Pool) → s ≡ v.now → IsEngineOf o v log ds ps last (contents v pool) → IsEngineOf o (record v { now = s }) log ds ps last (contents (record v { now = s }) pool)
seen_as o v s log ds ps last pool same e = subst (λ (z : State). IsEngineOf o (record v { now = z }) log ds ps last (contents (record v { now = z }) pool)) (sym same) e

-- THE ENGINE IS WHAT IT WAS
pub engine_along : (o : Origin) (v w : View) (log : Tail) (ds ps : List Numbered) (pool : Pool) → w.now ≡ v.now → IsEngine o v log ds ps pool → IsEngine o w log ds ps pool
engine_along o v w log ds ps pool same e =
    let f = seen_as o v w.now log ds ps (lasts pool.shelf) pool same e.engine in
    record {
      sizes = e.sizes;
      engine = record { super = f.super; place = f.place; held = holds_along {v = v} {w = w} {log = log} same e.engine.held; backed = f.backed; history = f.history; started = f.started; joined = f.joined; lasts = f.lasts; below = f.below; behind = f.behind };
      logged = e.logged;
    }

pub allowed_along : (o : Origin) (v w : View) (log : Tail) (pool : Pool) (k : ℕ) → w.now ≡ v.now → IsAllowed o v log pool k → IsAllowed o w log pool k
allowed_along o v w log pool k same early = subst (λ (z : State). IsAllowed o (record v { now = z }) log pool k) (sym same) early
