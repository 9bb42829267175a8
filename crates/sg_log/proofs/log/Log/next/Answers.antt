use Rattle.std.proofs.Common.{⊎_elim, ◌≡◌, ◌≤◌, ◌<◌, ◌+◌, ℕ, [], length, refl, subst, sym, ap, ◌∙◌, arith}
use Rattle.sg_record.specs.Records.{spelled}
use Rattle.sg_log.specs.Held.{tail_of}
use Rattle.sg_log.specs.Places.{StandBehind, first_of}
use Rattle.sg_log.proofs.Runs.{reads_more, failed_later}
use Rattle.sg_log.proofs.Standing.{stands, behind_along, next_is}
use Rattle.sg_log.proofs.log.Log.next.Goals as goal
use Rattle.sg_log.proofs.log.Log.next.Goals.{then-lsn-place-2-via-then-lsn-place-2, then-lsn-place-2-via-else-lsn-place-2+then-place-tail}

pub returns-in-Err-clause-failed : goal.returns-in-Err-clause-failed
returns-in-Err-clause-failed g c ds ps front rest r told h =
    let s = stands h front (c.args.place, r) rest refl in
    c.in-Err.ensures.failed r told s.there

pub returns-then-lsn-place-clause-reads : goal.returns-then-lsn-place-clause-reads
returns-then-lsn-place-clause-reads g c = reads_more c.size_at.ensures.reads c.first_behind.ensures.reads

pub returns-then-lsn-place-clause-next : goal.returns-then-lsn-place-clause-next
returns-then-lsn-place-clause-next g c ds ps front rest r told h =
    let s = stands h front (c.args.place, r) rest refl in
    let size : c.in-Ok.size ≡ length (spelled r) = c.in-Ok.ensures.size r told s.there in
    let end = c.if-lsn-place.true in
    ⊎_elim
    (λ i. let before : c.args.place.lsn + length (spelled r) < c.args.place.frame_end = i.before in absurd (omega arith))
    (λ l. ⊎_elim
    (λ b. c.first_behind.ensures.first rest told (subst (λ (n : ℕ). StandBehind (g.D.Disk.view c.size_at.new.disk) c.args.self.now n rest) (sym end) (behind_along (c.size_at.ensures.reads.unchanged told) b)))
    (λ (e : (c.args.place.frame_end ≡ tail_of c.args.self.now) × (rest ≡ [])). let none = c.first_behind.ensures.end (end ∙ e.0) in rw none (ap first_of (sym e.1)))
    l.behind)
    s.goes_on

pub returns-then-lsn-place-clause-failed : goal.returns-then-lsn-place-clause-failed
returns-then-lsn-place-clause-failed g c ds ps front rest r told h =
    let s = stands h front (c.args.place, r) rest refl in
    let size : c.in-Ok.size ≡ length (spelled r) = c.in-Ok.ensures.size r told s.there in
    let end = c.if-lsn-place.true in
    ⊎_elim
    (λ i. let before : c.args.place.lsn + length (spelled r) < c.args.place.frame_end = i.before in absurd (omega arith))
    (λ l. ⊎_elim
    (λ b. failed_later (g.D.Disk.view c.args.disk.now).faults (g.D.Disk.view c.size_at.new.disk).faults (g.D.Disk.view c.first_behind.new.disk).faults c.first_behind.result c.size_at.ensures.reads.later
    (c.first_behind.ensures.failed rest told (subst (λ (n : ℕ). StandBehind (g.D.Disk.view c.size_at.new.disk) c.args.self.now n rest) (sym end) (behind_along (c.size_at.ensures.reads.unchanged told) b))))
    (λ e. let none = c.first_behind.ensures.end (end ∙ e.0) in rw none tt)
    l.behind)
    s.goes_on

pub returns-then-lsn-place-2-clause-failed : goal.returns-then-lsn-place-2-clause-failed
returns-then-lsn-place-2-clause-failed g c ds ps front rest r told h =
    let s = stands h front (c.args.place, r) rest refl in
    let size : c.in-Ok.size ≡ length (spelled r) = c.in-Ok.ensures.size r told s.there in
    ⊎_elim
    (λ i.
    let before : c.args.place.lsn + length (spelled r) < c.args.place.frame_end = i.before in
    let within : c.args.place.frame_end ≤ tail_of c.args.self.now = i.within in
    elim c.then-lsn-place-2.branch [ then-lsn-place-2-via-then-lsn-place-2 w ↦ absurd (omega arith) | then-lsn-place-2-via-else-lsn-place-2+then-place-tail w ↦ absurd (omega arith) ])
    (λ l. let ends : c.args.place.lsn + length (spelled r) ≡ c.args.place.frame_end = l.ends in let other = c.if-lsn-place.false in absurd (omega arith))
    s.goes_on

pub returns-clause-next : goal.returns-clause-next
returns-clause-next g c ds ps front rest r told h =
    let s = stands h front (c.args.place, r) rest refl in
    let size : c.in-Ok.size ≡ length (spelled r) = c.in-Ok.ensures.size r told s.there in
    ⊎_elim
    (λ i. next_is c.args.self.now (c.args.place, r) rest i (c.args.place.lsn + c.in-Ok.size) (ap (λ (n : ℕ). c.args.place.lsn + n) size))
    (λ l. let ends : c.args.place.lsn + length (spelled r) ≡ c.args.place.frame_end = l.ends in let other = c.if-lsn-place.false in absurd (omega arith))
    s.goes_on
