-- The latest point that is allowed, which a checkpoint estimates: no redo point of the log is behind it.
use Rattle.std.proofs.Common.{◌≡◌, ◌⊎◌, ⊎_elim, ◌<◌, ◌≤◌, ◌+◌, ◌==◌, ℕ, false, List, [], ◌∷◌, ◌++◌, unwrap_or, length, refl, sym, ap, ◌∙◌, subst, arith, length-append}
use Rattle.std.proofs.lemmas.Bool.Decides.{nat_tests}
use Rattle.sg_disk.specs.Disk.{View}
use Rattle.sg_log.specs.Frames.{Numbered, numbered_from, gate_after}
use Rattle.sg_log.specs.Held.{Tail, Holds, tail_of}
use Rattle.sg_log.specs.Texts.{spelled_all}
use Rattle.sg_log.proofs.Holding.{gate_moved, tail_at_gate}
use Rattle.sg_log.proofs.Texts.{spelled-long}
use Rattle.sg_pool.specs.Pooled.{IsUnwritten}
use Rattle.sg_pool.specs.Units.{Geometry}
use Rattle.sg_pool.specs.declared.pool.Pool.{Pool}
use Rattle.sg_record.specs.Records.{Record, Says, spelled}
use Rattle.sg_record.specs.Records.Says.{Begin, Changed, TopEnd, PhysComp, TopVoid, CompEnd, Save, Commit, End, Checkpoint}
use Rattle.sg_engine.specs.Engine.{Origin, entries}
use Rattle.sg_engine.specs.History.{entry_number}
use Rattle.sg_engine.specs.Numbers.{AllUnder}
use Rattle.sg_engine.specs.Running.{IsEngine, IsAllowed}
use Rattle.sg_engine.proofs.May.{in_under}
use Rattle.sg_phys_laws.specs.Points.{estimate_or, last_estimate, redo_point, IsMarked, AreMarked, ArePoints, NoneLater, IsLatest}
use Rattle.sg_phys_laws.proofs.Points.{behind_both, mark_allow, marks_allow, marks_front, marks_back, marks_both, point_both}

-- of any number a checkpoint may estimate it, if that is no more than its own
abbrev Any : ℕ → Type 0
Any k = Unit {0}

-- a checkpoint below a number estimates none above it,
estimate_below : (d e lsn : ℕ) (x : Says) → e ≤ d → lsn ≤ d → IsMarked Any lsn x → estimate_or e x ≤ d
estimate_below d e lsn (Checkpoint estimate l) le low mark = let own = mark.1 in omega (arith, own, low)
estimate_below d e lsn Begin le low mark = le
estimate_below d e lsn (Changed c) le low mark = le
estimate_below d e lsn (TopEnd w n) le low mark = le
estimate_below d e lsn (PhysComp w c) le low mark = le
estimate_below d e lsn (TopVoid w) le low mark = le
estimate_below d e lsn (CompEnd w) le low mark = le
estimate_below d e lsn (Save m) le low mark = le
estimate_below d e lsn Commit le low mark = le
estimate_below d e lsn End le low mark = le

-- so do those of records that are below it,
pub under_below : (o : Origin) (d e : ℕ) (ns : List Numbered) → e ≤ d → AllUnder entry_number d (entries o ns) → AreMarked Any ns → last_estimate e ns ≤ d
under_below o d e [] le under marks = le
under_below o d e (n ∷ ns) le under marks =
    let low = under.0 in
    under_below o d (estimate_or e n.is.says) ns (estimate_below d e n.lsn n.is.says le (omega (arith, low)) marks.0) under.1 marks.1

-- and those of a text that ends there
text_below : (d e lsn : ℕ) (rs : List Record) → e ≤ d → lsn + length (spelled_all rs) ≤ d → AreMarked Any (numbered_from lsn rs) → last_estimate e (numbered_from lsn rs) ≤ d
text_below d e lsn [] le low marks = le
text_below d e lsn (r ∷ rs) le low marks =
    let long : length (spelled_all (r ∷ rs)) ≡ length (spelled r) + length (spelled_all rs) = length-append (spelled r) (spelled_all rs) in
    text_below d (estimate_or e r.says) (lsn + length (spelled r)) rs (estimate_below d e lsn r.says le (omega (arith, low, long)) marks.0) (omega (arith, low, long)) marks.1

-- where something waits at a log's end, its tail is behind that
tail_behind : (log : Tail) → 1 ≤ length log.buffer → tail_of log ≡ log.gate + 5 + length log.buffer
tail_behind log some = let b : (length log.buffer == 0) ≡ false = grind (arith, nat_tests, some) in rw b refl

-- THE REDO POINT of a log is none behind its tail
module _ (o : Origin) (v : View) (log : Tail) (ds ps : List Numbered) (h : Holds v log ds ps) (base : log.base ≡ o.super.base) (marks : AreMarked Any (ds ++ ps)) where
  gate_is : log.gate ≡ gate_after log.base h.frames
  gate_is =
      let zero : log.base + 0 ≡ log.base = omega arith in
      h.at_gate ∙ (sym (gate_moved log.base 0 h.frames) ∙ ap (λ (n : ℕ). gate_after n h.frames) zero)

  durable_below : last_estimate o.super.base ds ≤ log.gate
  durable_below =
      let at = h.at_gate in
      under_below o log.gate o.super.base ds (omega (arith, at, base))
      (subst (λ (d : ℕ). AllUnder entry_number d (entries o ds)) (sym gate_is) (subst (λ (ns : List Numbered). AllUnder entry_number (gate_after log.base h.frames) (entries o ns)) h.all (in_under o log.base h.frames)))
      (marks_front Any ds ps marks)

  waiting_below : (body : List Record) → log.buffer ≡ spelled_all body → AreMarked Any (numbered_from (log.gate + 5) body) → last_estimate (last_estimate o.super.base ds) (numbered_from (log.gate + 5) body) ≤ tail_of log
  waiting_below [] e m = let low = durable_below in let t = tail_at_gate log in omega (arith, low, t)
  waiting_below (r ∷ rs) e m =
      let long : length log.buffer ≡ length (spelled_all (r ∷ rs)) = ap length e in
      let parts : length (spelled_all (r ∷ rs)) ≡ length (spelled r) + length (spelled_all rs) = length-append (spelled r) (spelled_all rs) in
      let some = spelled-long r in
      let tail = tail_behind log (omega (arith, long, parts, some)) in
      let low = durable_below in
      text_below (tail_of log) (last_estimate o.super.base ds) (log.gate + 5) (r ∷ rs) (omega (arith, low, tail)) (omega (arith, tail, long)) m

  pub point_tail : redo_point o.super.base (ds ++ ps) ≤ tail_of log
  point_tail =
      let back : AreMarked Any (numbered_from (log.gate + 5) h.body) = subst (λ (ns : List Numbered). AreMarked Any ns) (sym h.numbers) (marks_back Any ds ps marks) in
      let rest : last_estimate (last_estimate o.super.base ds) ps ≤ tail_of log =
      subst (λ (ns : List Numbered). last_estimate (last_estimate o.super.base ds) ns ≤ tail_of log) h.numbers (waiting_below h.body h.waiting back) in
      let both : last_estimate o.super.base (ds ++ ps) ≡ last_estimate (last_estimate o.super.base ds) ps = behind_both o.super.base ds ps in
      let t = tail_at_gate log in
      let at = h.at_gate in
      omega (arith, rest, both, t, at, base)

-- THE LEAST CHANGE THAT ISN'T ON THE DISK, or the tail where there is none, is the latest point that is allowed
pub exact_latest : (o : Origin) (v : View) (log : Tail) (ds ps : List Numbered) (pool : Pool) (k : ℕ) → IsEngine o v log ds ps pool → IsUnwritten pool k ⊎ (((lsn : ℕ) → IsUnwritten pool lsn → ⊥) × (k ≡ tail_of log)) → IsAllowed o v log pool k
    → IsLatest (IsAllowed o v log pool) (tail_of log) k
exact_latest o v log ds ps pool k e exact allowed = record {
  is = allowed;
  latest = λ j early within. ⊎_elim
      (λ unwritten. ⊎_elim
      (λ page. let le = early.pages page.0 (subst (λ (g : Geometry). page.0 < g.pages) e.sizes page.1) in let is = ap (λ x. unwrap_or x (tail_of log)) page.2 in omega (arith, le, is))
      (λ band. let le = early.bands band.0 (subst (λ (g : Geometry). band.0 < g.bands) e.sizes band.1) in let is = ap (λ x. unwrap_or x (tail_of log)) band.2 in omega (arith, le, is))
      unwritten)
      (λ none. let is = none.1 in omega (arith, is, within))
      exact;
}

-- SO A CHECKPOINT THAT ESTIMATES that, or what is no earlier, estimates no less than the redo point of the log
pub marks_later : (o : Origin) (v : View) (log : Tail) (ds ps : List Numbered) (pool : Pool) (lsn : ℕ) (x : Says) → IsEngine o v log ds ps pool → ArePoints o (IsAllowed o v log pool) ds (ds ++ ps) → IsMarked (NoneLater (IsAllowed o v log pool) (tail_of log)) lsn x
    → IsMarked (λ k. redo_point o.super.base (ds ++ ps) ≤ k) lsn x
marks_later o v log ds ps pool lsn x e points mark =
    let allowed : IsAllowed o v log pool (redo_point o.super.base (ds ++ ps)) =
    subst (λ (l : List Numbered). IsAllowed o v log pool (redo_point o.super.base l)) (sym points.is_all) (point_both (IsAllowed o v log pool) o.super.base points.start ds points.more points.now points.marked) in
    let marks : AreMarked Any (ds ++ ps) =
    subst (λ (l : List Numbered). AreMarked Any l) (sym points.is_all) (marks_both Any ds points.more points.low (marks_allow (IsAllowed o v log pool) Any points.more (λ k a. tt) points.marked)) in
    let within = point_tail o v log ds ps e.engine.held e.engine.place.base marks in
    mark_allow (NoneLater (IsAllowed o v log pool) (tail_of log)) (λ k. redo_point o.super.base (ds ++ ps) ≤ k) lsn x (λ k none. none (redo_point o.super.base (ds ++ ps)) allowed within) mark
