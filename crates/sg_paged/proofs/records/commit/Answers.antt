use Rattle.std.proofs.Common.{◌≡◌, ◌+◌, ◌≤◌, true, sym, ap, subst, ◌∙◌, refl}
use Rattle.sg_recovery.specs.Log.{tally, is_in}
use Rattle.sg_recovery.specs.Log.Record.{Commit}
use Rattle.sg_shown.specs.Shown.{over}
use Rattle.sg_shown.proofs.Calls.{MayCome, HasCome, appends_of, room_then}
use Rattle.sg_paged.proofs.Behind.{done_appended, live_row}
use Rattle.sg_paged.proofs.Rested.{untold_means}
use Rattle.sg_paged.proofs.Recorded.{Stays, room_stays, commit_means}
use Rattle.sg_paged.proofs.records.commit.Goals as goal

pub quiet-requires : goal.quiet-requires
quiet-requires g c = record { idle = λ told. (c.requires.can.can told).rest.idle }

pub commit-requires-clause-can : goal.commit-requires-clause-can
commit-requires-clause-can g c = λ told1.
    let can = c.requires.can in
    let told = subst (λ y. (g.E.Engine.view y).Told) c.quiet.ensures.engine told1 in
    let mm = c.quiet.ensures.means can.by can.sizes (can.from told) (can.means told) in
    let k = mm.keeps told1 in
    let rest = k.rest c.quiet.ensures.begun in
    let at = can.can told in
    record { rest = rest; row = live_row {a = over c.quiet.new.acts} c.args.txn.0 k rest.system (subst (λ y. is_in c.args.txn.0 (tally (g.E.Engine.view y).steps).live ≡ true) (sym c.quiet.ensures.engine) at.live); live = subst (λ y. is_in c.args.txn.0 (tally (g.E.Engine.view y).steps).live ≡ true) (sym c.quiet.ensures.engine) at.live }

pub returns-in-Ok-clause-means : goal.returns-in-Ok-clause-means
returns-in-Ok-clause-means g c = λ t z from m.
    let mm = c.quiet.ensures.means t z from m in
    let k = c.in-Ok.ensures in
    let l = c.leave.ensures in
    commit_means (over c.quiet.new.acts) (over c.commit.new.self) (over c.leave.new.self) t z from c.args.txn mm c.quiet.ensures.begun
    (record { maps = l.maps ∙ k.maps; unfreed = l.unfreed ∙ k.unfreed; actor = l.actor ∙ k.actor; begun = l.begun ∙ (k.begun ∙ c.quiet.ensures.begun); limits = refl })
    (record { engine = ap g.E.Engine.view l.engine; rows = l.rows })
    (λ told1. subst (λ y. is_in c.args.txn.0 (tally (g.E.Engine.view y).steps).live ≡ true) (sym c.quiet.ensures.engine) (c.requires.can.can (subst (λ y. (g.E.Engine.view y).Told) c.quiet.ensures.engine told1)).live)
    (k.did (g.E.Engine.limits z.pages z.bands) t from mm.since.stands)
    (subst (λ y. g.E.Engine.means y t from) (sym l.engine) (k.means t from mm.since.stands))
    (λ told2. k.counts.told (subst (λ y. (g.E.Engine.view y).Told) l.engine told2))

pub returns-in-Ok-clause-commits : goal.returns-in-Ok-clause-commits
returns-in-Ok-clause-commits g c = λ t z from m told e idle.
    let mm = c.quiet.ensures.means t z from m in
    let told1 = subst (λ y. (g.E.Engine.view y).Told) (sym c.quiet.ensures.engine) told in
    let k = c.in-Ok.ensures in
    let l = c.leave.ensures in
    let mid = over c.quiet.new.acts in
    let new = over c.leave.new.self in
    let s : Stays mid new = record { maps = l.maps ∙ k.maps; unfreed = l.unfreed ∙ k.unfreed; actor = l.actor ∙ k.actor; begun = l.begun ∙ (k.begun ∙ c.quiet.ensures.begun); limits = refl } in
    let d = k.did (g.E.Engine.limits z.pages z.bands) t from mm.since.stands in
    let stands = subst (λ y. g.E.Engine.means y t from) (sym l.engine) (k.means t from mm.since.stands) in
    let means = commit_means mid (over c.commit.new.self) new t z from c.args.txn mm c.quiet.ensures.begun s (record { engine = ap g.E.Engine.view l.engine; rows = l.rows })
    (λ w. subst (λ y. is_in c.args.txn.0 (tally (g.E.Engine.view y).steps).live ≡ true) (sym c.quiet.ensures.engine) (c.requires.can.can told).live)
    d stands (λ told2. k.counts.told (subst (λ y. (g.E.Engine.view y).Told) l.engine told2)) in
    let may = k.appends (g.E.Engine.limits z.pages z.bands) t from mm.since.stands told1 (mm.keeps told1).kept in
    let at = ap g.E.Engine.view c.quiet.ensures.engine in
    let w = k.counts.tells told1 in
    let w2 = subst (λ y. (g.E.Engine.view y).Told) (sym l.engine) w in (
      may.lsn,
      may.last,
      appends_of g.E.Engine.recovers (over c.args.acts.now) new t z from may.lsn (Commit c.args.txn.0 may.last) mid.engine at mm.size
          (subst (λ y. MayCome g.E.Engine.recovers t from mid.engine (g.E.Engine.view y) may.lsn (Commit c.args.txn.0 may.last)) (sym l.engine) (record { above = may.above; formed = may.formed; moments = may.moments })),
      (
        done_appended {recovers = g.E.Engine.recovers} {a = over c.args.acts.now} {b = new} mid.engine may.lsn (Commit c.args.txn.0 may.last) at (record {
          told = w2;
          come = subst (λ y. HasCome mid.engine (g.E.Engine.view y) may.lsn (Commit c.args.txn.0 may.last)) (sym l.engine)
              (record { base = (d.logged told1).base; steps = may.gone w; tail = k.counts.tail; durable = (d.logged told1).durable });
          means = means;
          facts = record { law = g.met.E.Engine.lawful _ t from stands; first = g.met.E.Engine.durable_first _ w2; images = g.met.E.Engine.images _ t from stands w2 };
          room = room_then c.quiet.ensures.room (room_stays mid new s);
          begun = s.begun;
        }),
        subst (λ y. (g.E.Engine.view y).durable ≡ (g.E.Engine.view y).steps) (sym l.engine) (d.durable w),
      ),
    )

pub returns-in-Ok-clause-hands : goal.returns-in-Ok-clause-hands
returns-in-Ok-clause-hands g c =
    subst (λ y. (g.E.Engine.view y).disk.handed ≤ (g.E.Engine.view c.args.acts.now.engine).disk.handed + g.E.Engine.waiting c.args.acts.now.engine + 33) (sym c.leave.ensures.engine)
    (subst (λ y. (g.E.Engine.view c.commit.new.self.engine).disk.handed ≤ (g.E.Engine.view y).disk.handed + g.E.Engine.waiting y + 33) c.quiet.ensures.engine c.in-Ok.ensures.hands)

pub returns-in-Err-clause-means : goal.returns-in-Err-clause-means
returns-in-Err-clause-means g c = λ t z from m.
    let mm = c.quiet.ensures.means t z from m in
    let k = c.in-Err.ensures in
    untold_means (over c.quiet.new.acts) (over c.commit.new.self) t z from mm k.maps refl (k.means t from mm.since.stands) k.counts.silent

pub returns-in-Err-clause-commits : goal.returns-in-Err-clause-commits
returns-in-Err-clause-commits g c = λ t z from m told e idle.
    let mm = c.quiet.ensures.means t z from m in
    let told1 = subst (λ y. (g.E.Engine.view y).Told) (sym c.quiet.ensures.engine) told in
    let may = c.in-Err.ensures.appends (g.E.Engine.limits z.pages z.bands) t from mm.since.stands told1 (mm.keeps told1).kept in (
      may.lsn,
      may.last,
      appends_of g.E.Engine.recovers (over c.args.acts.now) (over c.commit.new.self) t z from may.lsn (Commit c.args.txn.0 may.last) (g.E.Engine.view c.quiet.new.acts.engine) (ap g.E.Engine.view c.quiet.ensures.engine) mm.size
          (record { above = may.above; formed = may.formed; moments = may.moments }),
      tt,
    )

pub returns-in-Err-clause-hands : goal.returns-in-Err-clause-hands
returns-in-Err-clause-hands g c = subst (λ y. (g.E.Engine.view c.commit.new.self.engine).disk.handed ≤ (g.E.Engine.view y).disk.handed + g.E.Engine.waiting y + 33) c.quiet.ensures.engine c.in-Err.ensures.hands

pub commit-requires-clause-chain : goal.commit-requires-clause-chain
commit-requires-clause-chain g c = λ told1.
    let can = c.requires.can in
    let told = subst (λ y. (g.E.Engine.view y).Told) c.quiet.ensures.engine told1 in
    let mm = c.quiet.ensures.means can.by can.sizes (can.from told) (can.means told) in
    ∣ (mm.keeps told1).kept.chain ∣₁
