use Rattle.std.proofs.Common.{◌≡◌, inl, inr, List, ℕ, ◌+◌, ◌<◌, ◌≤◌, sym, ap, subst, ◌∙◌, refl, arith}
use Rattle.sg_recovery.specs.Log.Record.{End}
use Rattle.sg_shown.specs.Shown.{over}
use Rattle.sg_actions.specs.Rows.{HasRow}
use Rattle.sg_actions.specs.declared.rows.Row.{Row}
use Rattle.sg_shown.proofs.Calls.{appends_of, room_then, going_some, row_after}
use Rattle.sg_paged.proofs.Unended.{ended_none}
use Rattle.sg_paged.proofs.Behind.{done_appended, on_ok2}
use Rattle.sg_paged.proofs.Recorded.{Stays, room_stays, end_means}
use Rattle.sg_paged.proofs.records.end.Goals as goal

-- it asked for no row, and nothing was done
pub quiet-requires : goal.quiet-requires
quiet-requires g c = record { idle = λ told. (c.requires.can.can told).rest.idle }

pub returns-then-not-has_row-clause-ends : goal.returns-then-not-has_row-clause-ends
returns-then-not-has_row-clause-ends g c = λ t z from m told e idle.
    let none = c.has_row.ensures.no c.if-not-has_row.true in
    inr (ended_none g.E.Engine.recovers (over c.args.acts.now) t z from c.args.txn.0 m told e none)

pub end-requires-clause-can : goal.end-requires-clause-can
end-requires-clause-can g c = λ told1.
    let can = c.requires.can in
    let told = subst (λ y. (g.E.Engine.view y).Told) c.quiet.ensures.engine told1 in
    let mm = c.quiet.ensures.means can.by can.sizes (can.from told) (can.means told) in
    let k = mm.keeps told1 in
    let rest = k.rest c.quiet.ensures.begun in
    let at = can.can told in
    let going = subst (λ y. Rattle.sg_store.specs.Engine.is_going c.args.txn.0 (g.E.Engine.view y).steps ≡ Rattle.std.proofs.Common.true) (sym c.quiet.ensures.engine) at.going in
    let row = subst (λ (rows : List Row). HasRow rows c.args.txn.0) (sym c.quiet.ensures.rows) (row_after c.args.acts.now.rows.items c.args.acts.now.actor.txn c.args.acts.now.actor.last c.args.txn.0 (c.has_row.ensures.yes c.if-not-has_row.false)) in
    record { rest = rest; row = row; some = λ zero. absurd (let one = ap (λ (n : ℕ). Rattle.sg_store.specs.Engine.is_going n (g.E.Engine.view c.quiet.new.acts.engine).steps) (sym zero) ∙ going in let two = sym one ∙ going_some (g.E.Engine.view c.quiet.new.acts.engine).steps k.kept.chain.running.log.chained in cc) }

pub returns-clause-means : goal.returns-clause-means
returns-clause-means g c = λ t z from m.
    let mm = c.quiet.ensures.means t z from m in
    let k = c.end.ensures in
    end_means (over c.quiet.new.acts) (over c.end.new.self) t z from c.args.txn c.end.result mm c.quiet.ensures.begun (record { maps = k.maps; unfreed = k.unfreed; actor = k.actor; begun = k.begun ∙ c.quiet.ensures.begun; limits = refl }) (k.means t from mm.since.stands) k.counts.told k.counts.silent
    (k.did (g.E.Engine.limits z.pages z.bands) t from mm.since.stands)

pub returns-clause-ends : goal.returns-clause-ends
returns-clause-ends g c = λ t z from m told e idle.
    let mm = c.quiet.ensures.means t z from m in
    let told1 = subst (λ y. (g.E.Engine.view y).Told) (sym c.quiet.ensures.engine) told in
    let k = c.end.ensures in
    let mid = over c.quiet.new.acts in
    let new = over c.end.new.self in
    let s : Stays mid new = record { maps = k.maps; unfreed = k.unfreed; actor = k.actor; begun = k.begun ∙ c.quiet.ensures.begun; limits = refl } in
    let did = k.did (g.E.Engine.limits z.pages z.bands) t from mm.since.stands in
    let stands = k.means t from mm.since.stands in
    let means = end_means mid new t z from c.args.txn c.end.result mm c.quiet.ensures.begun s stands k.counts.told k.counts.silent did in
    let may = k.appends (g.E.Engine.limits z.pages z.bands) t from mm.since.stands told1 (mm.keeps told1).kept in
    let at = ap g.E.Engine.view c.quiet.ensures.engine in inl (
      may.lsn,
      may.last,
      appends_of g.E.Engine.recovers (over c.args.acts.now) new t z from may.lsn (End c.args.txn.0 may.last) mid.engine at mm.size (record { above = may.above; formed = may.formed; moments = may.moments }),
      on_ok2 c.end.result (λ tells d. let w = tells told1 in done_appended {recovers = g.E.Engine.recovers} {a = over c.args.acts.now} {b = new} mid.engine may.lsn (End c.args.txn.0 may.last) at (record {
        told = w;
        come = record { base = (d.logged told1).base; steps = may.gone w; tail = k.counts.tail; durable = (d.logged told1).durable };
        means = means;
        facts = record { law = g.met.E.Engine.lawful _ t from stands; first = g.met.E.Engine.durable_first _ w; images = g.met.E.Engine.images _ t from stands w };
        room = room_then c.quiet.ensures.room (room_stays mid new s);
        begun = s.begun;
      })) k.counts.tells did,
    )

pub returns-clause-hands : goal.returns-clause-hands
returns-clause-hands g c = subst (λ y. (g.E.Engine.view c.end.new.self.engine).disk.handed ≤ (g.E.Engine.view y).disk.handed + g.E.Engine.waiting y + 6) c.quiet.ensures.engine c.end.ensures.hands

pub end-requires-clause-chain : goal.end-requires-clause-chain
end-requires-clause-chain g c = λ told1.
    let can = c.requires.can in
    let told = subst (λ y. (g.E.Engine.view y).Told) c.quiet.ensures.engine told1 in
    let mm = c.quiet.ensures.means can.by can.sizes (can.from told) (can.means told) in
    ∣ (mm.keeps told1).kept.chain ∣₁
