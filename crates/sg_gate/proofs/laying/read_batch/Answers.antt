use Rattle.std.proofs.Common.{◌≡◌, ◌<◌, ◌+◌, ◌-◌, ℕ, length, take, drop, sym, ◌∙◌, ap, arith}
use Rattle.sg_base.specs.declared.area.Area.TheVariants.{Home}
use Rattle.sg_disk.specs.Memory.{bytes_of}
use Rattle.sg_gate.specs.Layout.{HEADER}
use Rattle.sg_gate.proofs.Windows.{behind_first, first_of}
use Rattle.sg_gate.proofs.Reading.{only_read}
use Rattle.sg_gate.proofs.Laid.{numbers_there, wrong_there}
use Rattle.sg_gate.proofs.laying.read_batch.Goals as goal

pub returns-in_err-read_at-clause-reads : goal.returns-in_err-read_at-clause-reads
returns-in_err-read_at-clause-reads g c = only_read c.read_at.ensures.counts c.read_at.ensures.does c.read_at.ensures.unchanged

pub returns-then-header-ne1-clause-reads : goal.returns-then-header-ne1-clause-reads
returns-then-header-ne1-clause-reads g c = only_read c.read_at.ensures.counts c.read_at.ensures.does c.read_at.ensures.unchanged

pub returns-in-Ok-clause-reads : goal.returns-in-Ok-clause-reads
returns-in-Ok-clause-reads g c = only_read c.read_at.ensures.counts c.read_at.ensures.does c.read_at.ensures.unchanged

pub returns-in-Err-clause-reads : goal.returns-in-Err-clause-reads
returns-in-Err-clause-reads g c = only_read c.read_at.ensures.counts c.read_at.ensures.does c.read_at.ensures.unchanged

pub returns-in-Ok-clause-open : goal.returns-in-Ok-clause-open
returns-in-Ok-clause-open g c told =
    let f = ((g.D.Disk.view c.args.disk.now).now Home).seen in
    let n = length c.args.header.now in
    let read = c.read_at.new.into in
    let is = c.in_ok-read_at.ensures.bytes told in
    let text = take (length read - 1) (drop 1 read) in
    let there : (k : ℕ) → k < 132 → bytes_of text k ≡ f (HEADER + 1 + k) = λ k lt. behind_first f HEADER n read is k (omega arith) in
    let batch = c.in-Ok.ensures.batch in
    let short = ap length c.in-Ok.ensures.numbers in
    (sym (first_of f HEADER n read is (omega arith)) ∙ c.if-header-ne1.false, c.in-Ok.ensures.numbers ∙ numbers_there f (HEADER + 1) text there (let most = batch.most in omega arith))

pub returns-in-Err-clause-faults : goal.returns-in-Err-clause-faults
returns-in-Err-clause-faults g c told =
    let f = ((g.D.Disk.view c.args.disk.now).now Home).seen in
    let n = length c.args.header.now in
    let read = c.read_at.new.into in
    let is = c.in_ok-read_at.ensures.bytes told in
    let text = take (length read - 1) (drop 1 read) in
    let there : (k : ℕ) → k < 132 → bytes_of text k ≡ f (HEADER + 1 + k) = λ k lt. behind_first f HEADER n read is k (omega arith) in
    (sym (first_of f HEADER n read is (omega arith)) ∙ c.if-header-ne1.false, wrong_there f (HEADER + 1) text there c.args.pages c.in-Err.at c.in-Err.ensures.wrong)
