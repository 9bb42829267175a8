use Rattle.std.proofs.Common.{◌≡◌, ◌≤◌, ◌+◌, ◌++◌, ◌∙◌, List, ℕ, length, take, drop, refl, sym, ap, subst, le_trans, arith, length-take}
use Rattle.std.proofs.lemmas.Result.{err_from_is_err_and}
use Rattle.std.proofs.lemmas.List.{length-take-le}
use Rattle.std.specs.Prelude.{replicate}
use Rattle.std.proofs.lemmas.List.{length-replicate}
use Rattle.sg_disk.specs.Disk.{window, State}
use Rattle.sg_disk.proofs.Moments.{goes_on}
use Rattle.sg_log.proofs.Cutting.{spare_now, spare_written, same_now, copied_more, copied_now}
use Rattle.sg_log.proofs.Runs.{risen_later}
use Rattle.sg_log.proofs.Windows.{front_read, read_there}
use Rattle.sg_log.proofs.copying.copy_piece.Goals as goal

-- so many bytes and no more
take_most : (n : ℕ) (xs : List ℕ) → length (take n xs) ≤ n
take_most n xs = let size = length-take n xs in omega (arith, size)

-- what a read and then a write hand over
handed_read : (before after count : ℕ) → after ≤ before + 0 → after ≤ before + count
handed_read before after count most = omega (arith, most)

handed_written : (before mid after size count : ℕ) → mid ≤ before + 0 → after ≤ mid + size → size ≤ count → after ≤ before + count
handed_written before mid after size count first second short = omega (arith, first, second, short)

-- the read failed, and nothing else was done
pub returns-in_err-read_at : goal.returns-in_err-read_at
returns-in_err-read_at g c =
    let counts = c.in_err-read_at.ensures.counts in
    let p = err_from_is_err_and c.from_residual.result c.from_residual.ensures.1 in
    rw p.1 (record {
      copied = λ v told apart so_far. tt;
      any_moment = λ v told run so_far. goes_on run (c.in_err-read_at.ensures.does told) (λ im leaves. spare_now c.args.to v.now (g.D.Disk.view c.args.disk.now).now im so_far.others leaves);
      failed = counts.failed;
      quiet = tt;
      handed = handed_read _ _ c.args.count counts.handed_most;
      kept = counts.handed_least;
      later = counts.later;
    })

-- the write failed behind the read
pub returns-in_err-write_at : goal.returns-in_err-write_at
returns-in_err-write_at g c =
    let read = c.in_ok-read_at.ensures.counts in let counts = c.in_err-write_at.ensures.counts in
    let p = err_from_is_err_and c.from_residual-in_err-write_at.result c.from_residual-in_err-write_at.ensures.1 in
    rw p.1 (record {
      copied = λ v told apart so_far. tt;
      any_moment = λ v told run so_far.
          goes_on (goes_on run (c.in_ok-read_at.ensures.does told) (λ im leaves. spare_now c.args.to v.now (g.D.Disk.view c.args.disk.now).now im so_far.others leaves))
          (c.in_err-write_at.ensures.does told)
          (λ im leaves. spare_written c.args.to c.args.at _ v.now (g.D.Disk.view c.read_at.new.self).now im (same_now so_far.others (c.in_ok-read_at.ensures.unchanged told)) leaves);
      failed = risen_later _ _ _ read.later counts.failed;
      quiet = tt;
      handed = handed_written _ _ _ _ c.args.count read.handed_most counts.handed_most (take_most c.args.count _);
      kept = le_trans read.handed_least counts.handed_least;
      later = le_trans read.later counts.later;
    })

pub returns-clause-any_moment : goal.returns-clause-any_moment
returns-clause-any_moment g c v told run so_far =
    goes_on (goes_on run (c.in_ok-read_at.ensures.does told) (λ im leaves. spare_now c.args.to v.now (g.D.Disk.view c.args.disk.now).now im so_far.others leaves))
    (c.in_ok-write_at.ensures.does told)
    (λ im leaves. spare_written c.args.to c.args.at _ v.now (g.D.Disk.view c.read_at.new.self).now im (same_now so_far.others (c.in_ok-read_at.ensures.unchanged told)) leaves)

pub returns-clause-copied : goal.returns-clause-copied
returns-clause-copied g c v told apart so_far =
    let zeros : List ℕ = replicate 4096 0 in
    let room : c.args.count ≤ length zeros = subst (λ (n : ℕ). c.args.count ≤ n) (sym (length-replicate {A = ℕ} 4096 0)) c.requires.short in
    let long : length c.read_at.new.into ≡ c.args.count = c.read_at.auto.into ∙ length-take-le c.args.count zeros room in
    let bytes = read_there {t = (g.D.Disk.view c.args.disk.now).now} c.args.from (c.args.start + c.args.at) c.args.count zeros (c.in_ok-read_at.ensures.bytes told) refl room in
    let front = front_read c.read_at.new.into (drop c.args.count zeros) c.args.count long in
    let same = c.in_ok-read_at.ensures.unchanged told in
    copied_more c.args.from c.args.start c.args.to c.args.at c.args.count v (g.D.Disk.view c.read_at.new.self) (g.D.Disk.view c.write_at.new.self) (take c.args.count (c.read_at.new.into ++ drop c.args.count zeros)) apart
    (copied_now c.args.from c.args.start c.args.to c.args.at v (g.D.Disk.view c.args.disk.now) (g.D.Disk.view c.read_at.new.self) same so_far)
    (front ∙ (bytes ∙ ap (λ (s : State). window (s c.args.from).seen (c.args.start + c.args.at) c.args.count) (sym same)))
    (ap length front ∙ long)
    ((c.in_ok-write_at.ensures.does told).ok)

pub returns-clause-quiet : goal.returns-clause-quiet
returns-clause-quiet g c = c.in_ok-write_at.ensures.counts.quiet ∙ c.in_ok-read_at.ensures.counts.quiet

pub returns-clause-handed : goal.returns-clause-handed
returns-clause-handed g c = handed_written _ _ _ _ c.args.count c.read_at.ensures.counts.handed_most c.write_at.ensures.counts.handed_most (take_most c.args.count _)

pub returns-clause-kept : goal.returns-clause-kept
returns-clause-kept g c = le_trans c.read_at.ensures.counts.handed_least c.write_at.ensures.counts.handed_least

pub returns-clause-later : goal.returns-clause-later
returns-clause-later g c = le_trans c.read_at.ensures.counts.later c.write_at.ensures.counts.later
