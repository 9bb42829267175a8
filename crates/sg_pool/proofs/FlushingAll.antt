-- A flush: a force of the log, batches of pages, and then bands.
use Rattle.std.proofs.Common.{◌≡◌, inl, inr, ◌<◌, ◌++◌, [], ℕ, Some, List, length, sym, ◌∙◌, ap, subst}
use Rattle.sg_base.specs.Page.{lsn_of}
use Rattle.sg_base.specs.declared.area.Area.TheVariants.{Home}
use Rattle.sg_disk.specs.Disk.{Part, View, LeavesOnly}
use Rattle.sg_disk.proofs.Moments.{weaker, joined}
use Rattle.sg_log.specs.Frames.{Numbered, SameElsewhere}
use Rattle.sg_log.specs.Held.{Tail, Holds, tail_of, forced, IsBeforeOrAfter}
use Rattle.sg_frames.specs.Held.{Held}
use Rattle.sg_gate.specs.Batch.{IsReady, SameLogs}
use Rattle.sg_window.specs.Runs.{IsTorn}
use Rattle.sg_pool.specs.declared.slot.Slot.{Slot}
use Rattle.sg_pool.specs.declared.windows.Windows.{Windows}
use Rattle.sg_pool.specs.Units.{Geometry, Units, IsBacked, IsBelow}
use Rattle.sg_pool.specs.Frames.{units_of, lasts_of}
use Rattle.sg_pool.specs.Held.{frame_of, since_of, AreApart}
use Rattle.sg_pool.specs.Windows.{last_in}
use Rattle.sg_pool.specs.Batches.{IsPartly, IsBatchMoment}
use Rattle.sg_pool.specs.Bands.{IsDirty}
use Rattle.sg_pool.specs.Moments.{IsMoment}
use Rattle.sg_pool.proofs.BandsHome.{torn_goes, marked_below}
use Rattle.sg_pool.proofs.Flushed.{batch_goes, partly_goes}
use Rattle.sg_pool.proofs.Settling.{along, stands, gate_forced}

module _ (g : Geometry) (slots : List Slot) (wins : Windows) (frames : Held) (apart : AreApart slots) (v w : View) (log log' : Tail) (ds ps : List Numbered) (not_home : log.area ≡ Home → ⊥) (same : SameElsewhere log.area v.now w.now) (log_is : log' ≡ forced log)
    (holds : Holds w (forced log) (ds ++ ps) []) (backed : IsBacked g (v.now Home) (units_of g (v.now Home).seen slots wins frames)) (below : IsBelow g (tail_of log) (units_of g (v.now Home).seen slots wins frames)) where
  abbrev m : Units
  m = units_of g (v.now Home).seen slots wins frames

  home : w.now Home ≡ v.now Home
  home = same Home (λ e. not_home (sym e))

  d_is : log'.gate ≡ tail_of log
  d_is = ap (λ (t : Tail). t.gate) log_is ∙ gate_forced log

  below_gate : IsBelow g log'.gate m
  below_gate n o small since = subst (λ (k : ℕ). lsn_of (m.page n) < k) (sym d_is) (below n o small since)

  pub force_then_pages : (z : View) → LeavesOnly v w (IsBeforeOrAfter v.now log ds ps) → LeavesOnly w z (IsBatchMoment g slots frames.pages w.now) → LeavesOnly v z (IsMoment g v log ds ps (lasts_of wins) m)
  force_then_pages z force run = joined (weaker force (λ c before. inl before))
      (weaker run (λ c moment. inr (batch_goes g slots wins frames apart v w log ds ps (lasts_of wins) log'.gate not_home same (stands w log log' ds ps (inr (log_is, holds))) backed below_gate home c moment)))

  pub then_windows : (z y : View) → LeavesOnly v z (IsMoment g v log ds ps (lasts_of wins) m) → SameLogs w.now z.now → IsReady (z.now Home) → IsPartly g slots frames.pages (w.now Home).seen (z.now Home).seen
      → ((b o : ℕ) → since_of wins.slots.items (frame_of wins.slots.items b) ≡ Some o → last_in wins.marks.items (frame_of wins.slots.items b) < tail_of log)
      → LeavesOnly z y (IsTorn z.now (IsDirty g wins 0 (length wins.slots.items))) → LeavesOnly v y (IsMoment g v log ds ps (lasts_of wins) m)
  then_windows z y so_far logs ready partly logged run =
      let from_v = subst (λ (p : Part). IsPartly g slots frames.pages p.seen (z.now Home).seen) home partly in
      let going = partly_goes g slots wins frames apart (v.now Home) (lasts_of wins) log'.gate backed.pages below_gate (z.now Home).seen from_v in
      let at_z = stands z log log' ds ps (along w z log log' ds ps not_home logs (inr (log_is, holds))) in
      joined so_far (weaker run (λ c torn. inr (torn_goes g wins 0 (length wins.slots.items) slots frames v z log ds ps log'.gate (v.now Home).seen not_home (λ b other not_log. logs b other ∙ same b not_log) at_z ready
      (λ x b k low high held marked. subst (λ (n : ℕ). last_in wins.marks.items (Some x) < n) (sym d_is) (marked_below wins (tail_of log) logged backed.clean x b k high held marked)) c torn from_v.superblock going)))
