use Rattle.std.proofs.Common.{◌≡◌, ℕ, ◌≤◌, ◌<◌, ◌+◌, ◌-◌, refl, sym, ◌∙◌, ap, subst, take, drop, le_trans, le_of_eq, arith}
use Rattle.std.proofs.lemmas.Result.{err_from_is_err_and}
use Rattle.sg_disk.specs.Disk.{LeavesOnly}
use Rattle.sg_log.specs.Held.{Tail, Holds}
use Rattle.sg_log.specs.Cut.{IsSplit, gate_of, kept_of, Spares, other_log}
use Rattle.sg_log.proofs.Cutting.{spares_drop, spares_copy, spares_sync, copied_all, cut_holds, whole_holds, apart}
use Rattle.sg_log.proofs.Runs.{risen_later}
use Rattle.sg_log.proofs.log.Log.cut.Goals as goal

-- what the calls of a cut hand over, and what was there already
module _ (inside : Tail) (log : Tail) (is : inside ≡ log) (point at : ℕ) (front : log.base ≤ point) (before : point < log.gate) (h h1 h2 : ℕ) (same : h1 ≡ h) (drop : h2 ≤ h1 + 0) where
  base_is : inside.base ≡ log.base
  base_is = ap (λ (t : Tail). t.base) is

  gate_is : inside.gate ≡ log.gate
  gate_is = ap (λ (t : Tail). t.gate) is

  dropped_handed : h2 + log.base ≤ h + log.gate + 1
  dropped_handed = omega (arith, same, drop, front, before)

  copied_handed : (h3 : ℕ) → inside.base + at ≤ point → h3 ≤ h2 + (inside.gate - inside.base - at + 1) → h3 + log.base ≤ h + log.gate + 1
  copied_handed h3 low copy = omega (arith, same, drop, low, copy, front, before, base_is, gate_is)

  synced_handed : (h3 h4 : ℕ) → inside.base + at ≤ point → h3 ≤ h2 + (inside.gate - inside.base - at + 1) → h4 ≤ h3 + 0 → h4 + log.base ≤ h + log.gate + 1
  synced_handed h3 h4 low copy sync = omega (arith, copied_handed h3 low copy, sync)

pub returns-in_err-drop_from : goal.returns-in_err-drop_from
returns-in_err-drop_from g c =
    let v = g.D.Disk.view c.args.disk.now in let i = c.self.inside in
    let log : Tail = record { area = i.area; base = i.base; gate = i.gate; buffer = take i.used (drop 4 i.frame.items) } in
    let reads = c.find_holding.ensures.reads in
    let counts = c.drop_from.ensures.counts in
    let p = err_from_is_err_and c.from_residual-in_err-drop_from.result c.from_residual-in_err-drop_from.ensures.1 in
    rw (p.1, p.2) (record {
      log = tt;
      base = tt;
      within = tt;
      fault = refl;
      holds = tt;
      none = λ same. tt;
      unwritten = λ same. tt;
      unchanged = λ told same. tt;
      any_moment = λ told.
          let to = c.other_area-to.ensures ∙ ap (λ (t : Tail). other_log t.area) c.self.view_is in
          subst (λ a. LeavesOnly v (g.D.Disk.view c.drop_from.new.self) (Spares a v.now)) to
          (spares_drop c.other_area-to.result v (g.D.Disk.view c.find_holding.new.disk) (g.D.Disk.view c.drop_from.new.self) c.drop_from.result told reads (c.drop_from.ensures.does told));
      elsewhere = λ told. tt;
      failed = λ ds ps told h. risen_later _ _ _ reads.later c.in_err-drop_from.ensures.counts.failed;
      heeded = tt;
      later = le_trans reads.later counts.later;
      handed = dropped_handed log c.args.self.now c.self.view_is c.args.point c.in_ok-at.at c.requires.front c.requires.before _ _ _ reads.handed counts.handed_most;
      kept = le_trans (le_of_eq (sym reads.handed)) counts.handed_least;
    })

pub returns-in_err-copy : goal.returns-in_err-copy
returns-in_err-copy g c =
    let v = g.D.Disk.view c.args.disk.now in let i = c.self.inside in
    let log : Tail = record { area = i.area; base = i.base; gate = i.gate; buffer = take i.used (drop 4 i.frame.items) } in
    let reads = c.find_holding.ensures.reads in
    let counts = c.drop_from.ensures.counts in
    let p = err_from_is_err_and c.from_residual-in_err-copy.result c.from_residual-in_err-copy.ensures.1 in
    rw (p.1, p.2) (record {
      log = tt;
      base = tt;
      within = tt;
      fault = refl;
      holds = tt;
      none = λ same. tt;
      unwritten = λ same. tt;
      unchanged = λ told same. tt;
      any_moment = λ told.
          let to = c.other_area-to.ensures ∙ ap (λ (t : Tail). other_log t.area) c.self.view_is in
          let from = subst (λ a. i.area ≡ a → ⊥) (sym c.other_area-to.ensures) (apart i.area) in
          subst (λ a. LeavesOnly v (g.D.Disk.view c.copy.new.disk) (Spares a v.now)) to
          (spares_copy c.other_area-to.result v (g.D.Disk.view c.find_holding.new.disk) (g.D.Disk.view c.drop_from.new.self) (g.D.Disk.view c.copy.new.disk) told reads (c.in_ok-drop_from.ensures.does told) (c.copy.ensures.any_moment told from));
      elsewhere = λ told. tt;
      failed = λ ds ps told h. risen_later _ _ _ (le_trans reads.later counts.later) c.in_err-copy.ensures.failed;
      heeded = tt;
      later = le_trans reads.later (le_trans counts.later c.copy.ensures.later);
      handed = copied_handed log c.args.self.now c.self.view_is c.args.point c.in_ok-at.at c.requires.front c.requires.before _ _ _ reads.handed counts.handed_most _ c.in_ok-at.ensures.low c.copy.ensures.handed;
      kept = le_trans (le_of_eq (sym reads.handed)) (le_trans counts.handed_least c.copy.ensures.kept);
    })

pub returns-in_err-sync : goal.returns-in_err-sync
returns-in_err-sync g c =
    let v = g.D.Disk.view c.args.disk.now in let i = c.self.inside in
    let log : Tail = record { area = i.area; base = i.base; gate = i.gate; buffer = take i.used (drop 4 i.frame.items) } in
    let reads = c.find_holding.ensures.reads in
    let counts = c.drop_from.ensures.counts in
    let p = err_from_is_err_and c.from_residual-in_err-sync.result c.from_residual-in_err-sync.ensures.1 in
    rw (p.1, p.2) (record {
      log = tt;
      base = tt;
      within = tt;
      fault = refl;
      holds = tt;
      none = λ same. tt;
      unwritten = λ same. tt;
      unchanged = λ told same. tt;
      any_moment = λ told.
          let to = c.other_area-to.ensures ∙ ap (λ (t : Tail). other_log t.area) c.self.view_is in
          let from = subst (λ a. i.area ≡ a → ⊥) (sym c.other_area-to.ensures) (apart i.area) in
          subst (λ a. LeavesOnly v (g.D.Disk.view c.sync.new.self) (Spares a v.now)) to
          (spares_sync i.area c.in_ok-at.at (i.gate - i.base - c.in_ok-at.at + 1) c.other_area-to.result v (g.D.Disk.view c.find_holding.new.disk) (g.D.Disk.view c.drop_from.new.self) (g.D.Disk.view c.copy.new.disk) (g.D.Disk.view c.sync.new.self) c.sync.result told
          reads (c.in_ok-drop_from.ensures.does told) (c.copy.ensures.any_moment told from) (c.in_ok-copy.ensures.copied told from) (c.sync.ensures.does told));
      elsewhere = λ told. tt;
      failed = λ ds ps told h. risen_later _ _ _ (le_trans reads.later (le_trans counts.later c.copy.ensures.later)) c.in_err-sync.ensures.counts.failed;
      heeded = tt;
      later = le_trans reads.later (le_trans counts.later (le_trans c.copy.ensures.later c.sync.ensures.counts.later));
      handed = synced_handed log c.args.self.now c.self.view_is c.args.point c.in_ok-at.at c.requires.front c.requires.before _ _ _ reads.handed counts.handed_most _ _ c.in_ok-at.ensures.low c.copy.ensures.handed c.sync.ensures.counts.handed_most;
      kept = le_trans (le_of_eq (sym reads.handed)) (le_trans counts.handed_least (le_trans c.copy.ensures.kept c.sync.ensures.counts.handed_least));
    })

pub returns-clause-any_moment : goal.returns-clause-any_moment
returns-clause-any_moment g c told =
    let v = g.D.Disk.view c.args.disk.now in
    let to = c.other_area-to.ensures ∙ ap (λ (t : Tail). other_log t.area) c.self.view_is in
    let from = subst (λ a. c.self.inside.area ≡ a → ⊥) (sym c.other_area-to.ensures) (apart c.self.inside.area) in
    subst (λ a. LeavesOnly v (g.D.Disk.view c.sync.new.self) (Spares a v.now)) to
    (spares_sync c.self.inside.area c.in_ok-at.at (c.self.inside.gate - c.self.inside.base - c.in_ok-at.at + 1) c.other_area-to.result v (g.D.Disk.view c.find_holding.new.disk) (g.D.Disk.view c.drop_from.new.self) (g.D.Disk.view c.copy.new.disk) (g.D.Disk.view c.sync.new.self) c.sync.result told
    c.find_holding.ensures.reads (c.in_ok-drop_from.ensures.does told) (c.copy.ensures.any_moment told from) (c.in_ok-copy.ensures.copied told from) (c.sync.ensures.does told))

pub returns-clause-elsewhere : goal.returns-clause-elsewhere
returns-clause-elsewhere g c told =
    let v = g.D.Disk.view c.args.disk.now in
    let to = c.other_area-to.ensures ∙ ap (λ (t : Tail). other_log t.area) c.self.view_is in
    let from = subst (λ a. c.self.inside.area ≡ a → ⊥) (sym c.other_area-to.ensures) (apart c.self.inside.area) in
    let all = copied_all c.self.inside.area c.in_ok-at.at (c.self.inside.gate - c.self.inside.base - c.in_ok-at.at + 1) c.other_area-to.result v (g.D.Disk.view c.find_holding.new.disk) (g.D.Disk.view c.drop_from.new.self) (g.D.Disk.view c.copy.new.disk) (g.D.Disk.view c.sync.new.self) told from
    c.find_holding.ensures.reads (c.in_ok-drop_from.ensures.does told) (c.in_ok-copy.ensures.copied told from) (c.in_ok-sync.ensures.does told) in
    λ b other. all.0.others b (λ is. other (is ∙ to))

pub returns-then-at-eq0-clause-holds : goal.returns-then-at-eq0-clause-holds
returns-then-at-eq0-clause-holds g c ds ps told h0 =
    let v = g.D.Disk.view c.args.disk.now in
    let w = g.D.Disk.view c.find_holding.new.disk in
    let i = c.self.inside in
    let log : Tail = record { area = i.area; base = i.base; gate = i.gate; buffer = take i.used (drop 4 i.frame.items) } in
    let h = subst (λ (t : Tail). Holds v t ds ps) (sym c.self.view_is) h0 in
    subst (λ (t : Tail). (s : IsSplit t.base c.args.point ds) × (t.base ≡ gate_of s) × Holds w t (kept_of s) ps) c.self.view_is
    (whole_holds log c.args.point c.in_ok-at.at w h (c.in_ok-at.ensures.found h.frames told h.stand h.at_gate) c.if-at-eq0.true (c.find_holding.ensures.reads.unchanged told))

pub returns-clause-holds : goal.returns-clause-holds
returns-clause-holds g c ds ps told h0 =
    let v = g.D.Disk.view c.args.disk.now in
    let w = g.D.Disk.view c.sync.new.self in
    let i = c.self.inside in
    let log : Tail = record { area = i.area; base = i.base; gate = i.gate; buffer = take i.used (drop 4 i.frame.items) } in
    let h = subst (λ (t : Tail). Holds v t ds ps) (sym c.self.view_is) h0 in
    let from = subst (λ a. c.self.inside.area ≡ a → ⊥) (sym c.other_area-to.ensures) (apart c.self.inside.area) in
    subst (λ (t : Tail). (s : IsSplit t.base c.args.point ds) × (i.base + c.in_ok-at.at ≡ gate_of s) × Holds w (record log { area = c.other_area-to.result; base = i.base + c.in_ok-at.at }) (kept_of s) ps) c.self.view_is
    (cut_holds log c.args.point c.in_ok-at.at c.other_area-to.result w h (c.in_ok-at.ensures.found h.frames told h.stand h.at_gate) c.other_area-to.ensures
    (copied_all i.area c.in_ok-at.at (i.gate - i.base - c.in_ok-at.at + 1) c.other_area-to.result v (g.D.Disk.view c.find_holding.new.disk) (g.D.Disk.view c.drop_from.new.self) (g.D.Disk.view c.copy.new.disk) w told from
    c.find_holding.ensures.reads (c.in_ok-drop_from.ensures.does told) (c.in_ok-copy.ensures.copied told from) (c.in_ok-sync.ensures.does told)))

pub returns-clause-within : goal.returns-clause-within
returns-clause-within g c = omega (arith, c.in_ok-at.ensures.low, c.requires.before, ap (λ (t : Tail). t.gate) c.self.view_is, c.self.invariant.0.gate_within)

pub returns-then-at-eq0-clause-within : goal.returns-then-at-eq0-clause-within
returns-then-at-eq0-clause-within g c = omega (arith, c.requires.front, c.requires.before, ap (λ (t : Tail). t.gate) c.self.view_is, c.self.invariant.0.gate_within)

pub returns-clause-heeded : goal.returns-clause-heeded
returns-clause-heeded g c = c.in_ok-sync.ensures.counts.quiet ∙ (c.in_ok-copy.ensures.quiet ∙ (c.in_ok-drop_from.ensures.counts.quiet ∙ c.in_ok-at.ensures.quiet))

pub returns-clause-later : goal.returns-clause-later
returns-clause-later g c = le_trans c.find_holding.ensures.reads.later (le_trans c.drop_from.ensures.counts.later (le_trans c.copy.ensures.later c.sync.ensures.counts.later))

pub returns-clause-handed : goal.returns-clause-handed
returns-clause-handed g c =
    let i = c.self.inside in let log : Tail = record { area = i.area; base = i.base; gate = i.gate; buffer = take i.used (drop 4 i.frame.items) } in
    synced_handed log c.args.self.now c.self.view_is c.args.point c.in_ok-at.at c.requires.front c.requires.before _ _ _ c.find_holding.ensures.reads.handed c.drop_from.ensures.counts.handed_most _ _ c.in_ok-at.ensures.low c.copy.ensures.handed c.sync.ensures.counts.handed_most

pub returns-clause-kept : goal.returns-clause-kept
returns-clause-kept g c = le_trans (le_of_eq (sym c.find_holding.ensures.reads.handed)) (le_trans c.drop_from.ensures.counts.handed_least (le_trans c.copy.ensures.kept c.sync.ensures.counts.handed_least))
