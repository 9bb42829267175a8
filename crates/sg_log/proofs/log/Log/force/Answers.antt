use Rattle.std.proofs.Common.{◌≡◌, ℕ, List, ◌≤◌, ◌<◌, ◌+◌, ◌++◌, length, take, drop, subst, sym, ap, ◌∙◌, arith}
use Rattle.sg_disk.specs.Disk.{Image, Leaves, LeavesOnly}
use Rattle.std.proofs.lemmas.List.{with_items_is}
use Rattle.sg_disk.proofs.Moments.{weaker}
use Rattle.sg_log.specs.Frames.{HasRecords, SameElsewhere}
use Rattle.sg_log.specs.Held.{Tail, Holds, tail_of, IsBeforeOrAfter}
use Rattle.sg_log.proofs.Holding.{holds_image, no_call_moments, force_nothing, buffer_none, buffer_size, waiting_rest, waiting_frame, force_moment, force_done, force_text, tail_behind, tail_empty}
use Rattle.sg_log.proofs.Runs.{on_err}
use Rattle.sg_log.proofs.log.Log.force.Goals as goal

pub returns-then-self-eq0-clause-holds : goal.returns-then-self-eq0-clause-holds
returns-then-self-eq0-clause-holds g c ds ps told h =
    force_nothing h (ap (λ (t : Tail). length t.buffer) (sym c.self.view_is) ∙ buffer_none c.self.inside.used c.self.inside.frame.items c.if-self-eq0.true)

pub returns-then-self-eq0-clause-after : goal.returns-then-self-eq0-clause-after
returns-then-self-eq0-clause-after g c ds ps told h =
    let t = c.args.self.now in
    let none : length t.buffer ≡ 0 = ap (λ (t : Tail). length t.buffer) (sym c.self.view_is) ∙ buffer_none c.self.inside.used c.self.inside.frame.items c.if-self-eq0.true in
    subst (λ (n : ℕ). (image : Image) → Leaves (g.D.Disk.view c.args.disk.now).now image → HasRecords (image t.area) t.base n (ds ++ ps)) (sym (tail_empty t none)) (holds_image (force_nothing h none))

pub returns-then-self-eq0-clause-any_moment : goal.returns-then-self-eq0-clause-any_moment
returns-then-self-eq0-clause-any_moment g c ds ps told h = no_call_moments h

pub returns-in_err-write_frame-clause-any_moment : goal.returns-in_err-write_frame-clause-any_moment
returns-in_err-write_frame-clause-any_moment g c ds ps told h0 =
    let i = c.self.inside in
    let log : Tail = record { area = i.area; base = i.base; gate = i.gate; buffer = take i.used (drop 4 i.frame.items) } in
    let h = subst (λ (t : Tail). Holds (g.D.Disk.view c.args.disk.now) t ds ps) (sym c.self.view_is) h0 in
    let size : length log.buffer ≡ i.used = buffer_size i.used i.frame.items c.self.invariant.0.short c.self.invariant.1 in
    let some : 0 < length log.buffer = omega arith in
    let most : length log.buffer ≤ 65536 = omega (arith, c.self.invariant.0.short) in
    let text = force_text i.used i.frame.items c.deref_mut.result.now c.seal.new.frame c.deref.result.now h.body c.seal.ensures.text c.deref_mut.ensures.value (c.deref.ensures.value ∙ with_items_is i.frame c.seal.new.frame (omega (arith, c.seal.auto.frame, ap length c.deref_mut.ensures.value, i.frame.ok.0))) h.waiting in
    let moments = c.write_frame.ensures.any_moment h.frames h.body told (waiting_rest h) (waiting_frame h some most) text in
    subst (λ (t : Tail). LeavesOnly (g.D.Disk.view c.args.disk.now) (g.D.Disk.view c.write_frame.new.disk) (IsBeforeOrAfter (g.D.Disk.view c.args.disk.now).now t ds ps)) c.self.view_is (weaker moments (force_moment h some))

pub returns-clause-any_moment : goal.returns-clause-any_moment
returns-clause-any_moment g c ds ps told h0 =
    let i = c.self.inside in
    let log : Tail = record { area = i.area; base = i.base; gate = i.gate; buffer = take i.used (drop 4 i.frame.items) } in
    let h = subst (λ (t : Tail). Holds (g.D.Disk.view c.args.disk.now) t ds ps) (sym c.self.view_is) h0 in
    let size : length log.buffer ≡ i.used = buffer_size i.used i.frame.items c.self.invariant.0.short c.self.invariant.1 in
    let some : 0 < length log.buffer = omega arith in
    let most : length log.buffer ≤ 65536 = omega (arith, c.self.invariant.0.short) in
    let text = force_text i.used i.frame.items c.deref_mut.result.now c.seal.new.frame c.deref.result.now h.body c.seal.ensures.text c.deref_mut.ensures.value (c.deref.ensures.value ∙ with_items_is i.frame c.seal.new.frame (omega (arith, c.seal.auto.frame, ap length c.deref_mut.ensures.value, i.frame.ok.0))) h.waiting in
    let moments = c.write_frame.ensures.any_moment h.frames h.body told (waiting_rest h) (waiting_frame h some most) text in
    subst (λ (t : Tail). LeavesOnly (g.D.Disk.view c.args.disk.now) (g.D.Disk.view c.write_frame.new.disk) (IsBeforeOrAfter (g.D.Disk.view c.args.disk.now).now t ds ps)) c.self.view_is (weaker moments (force_moment h some))

pub returns-clause-holds : goal.returns-clause-holds
returns-clause-holds g c ds ps told h0 =
    let i = c.self.inside in
    let log : Tail = record { area = i.area; base = i.base; gate = i.gate; buffer = take i.used (drop 4 i.frame.items) } in
    let h = subst (λ (t : Tail). Holds (g.D.Disk.view c.args.disk.now) t ds ps) (sym c.self.view_is) h0 in
    let size : length log.buffer ≡ i.used = buffer_size i.used i.frame.items c.self.invariant.0.short c.self.invariant.1 in
    let some : 0 < length log.buffer = omega arith in
    let most : length log.buffer ≤ 65536 = omega (arith, c.self.invariant.0.short) in
    let text = force_text i.used i.frame.items c.deref_mut.result.now c.seal.new.frame c.deref.result.now h.body c.seal.ensures.text c.deref_mut.ensures.value (c.deref.ensures.value ∙ with_items_is i.frame c.seal.new.frame (omega (arith, c.seal.auto.frame, ap length c.deref_mut.ensures.value, i.frame.ok.0))) h.waiting in
    let done = c.in_ok-write_frame.ensures.done h.frames h.body told (waiting_rest h) (waiting_frame h some most) text in
    force_done h some (g.D.Disk.view c.write_frame.new.disk) (take (i.used + 5) c.deref.result.now) (i.gate + (i.used + 5)) text (omega arith) done

pub returns-clause-after : goal.returns-clause-after
returns-clause-after g c ds ps told h0 =
    let i = c.self.inside in
    let log : Tail = record { area = i.area; base = i.base; gate = i.gate; buffer = take i.used (drop 4 i.frame.items) } in
    let h = subst (λ (t : Tail). Holds (g.D.Disk.view c.args.disk.now) t ds ps) (sym c.self.view_is) h0 in
    let size : length log.buffer ≡ i.used = buffer_size i.used i.frame.items c.self.invariant.0.short c.self.invariant.1 in
    let some : 0 < length log.buffer = omega arith in
    let most : length log.buffer ≤ 65536 = omega (arith, c.self.invariant.0.short) in
    let text = force_text i.used i.frame.items c.deref_mut.result.now c.seal.new.frame c.deref.result.now h.body c.seal.ensures.text c.deref_mut.ensures.value (c.deref.ensures.value ∙ with_items_is i.frame c.seal.new.frame (omega (arith, c.seal.auto.frame, ap length c.deref_mut.ensures.value, i.frame.ok.0))) h.waiting in
    let done = c.in_ok-write_frame.ensures.done h.frames h.body told (waiting_rest h) (waiting_frame h some most) text in
    let held = force_done h some (g.D.Disk.view c.write_frame.new.disk) (take (i.used + 5) c.deref.result.now) (i.gate + (i.used + 5)) text (omega arith) done in
    subst (λ (t : Tail). (image : Image) → Leaves (g.D.Disk.view c.write_frame.new.disk).now image → HasRecords (image t.area) t.base (tail_of t) (ds ++ ps)) c.self.view_is (subst (λ (n : ℕ). (image : Image) → Leaves (g.D.Disk.view c.write_frame.new.disk).now image → HasRecords (image log.area) log.base n (ds ++ ps)) (omega (arith, tail_behind log some)) (holds_image held))

pub returns-clause-elsewhere : goal.returns-clause-elsewhere
returns-clause-elsewhere g c told =
    subst (λ (t : Tail). SameElsewhere t.area (g.D.Disk.view c.args.disk.now).now (g.D.Disk.view c.write_frame.new.disk).now) c.self.view_is (c.in_ok-write_frame.ensures.elsewhere told)

pub returns-in_err-write_frame-clause-same : goal.returns-in_err-write_frame-clause-same
returns-in_err-write_frame-clause-same g c =
    let i = c.self.inside in
    let log : List ℕ → Tail = λ body. record { area = i.area; base = i.base; gate = i.gate; buffer = body } in
    let body : List ℕ → List ℕ = λ items. take i.used (drop 4 items) in
    let items = with_items_is i.frame c.seal.new.frame (omega (arith, c.seal.auto.frame, ap length c.deref_mut.ensures.value, i.frame.ok.0)) in
    on_err c.from_residual.result (ap log (ap body items ∙ (c.seal.ensures.body ∙ ap body c.deref_mut.ensures.value)) ∙ c.self.view_is)
