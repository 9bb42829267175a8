use Rattle.std.proofs.Common.{◌≡◌, ◌<◌, inr, ◌+◌, ◌-◌, ◌*◌, length, sym, ◌∙◌, arith, length-take, get_or-take}
use Rattle.sg_disk.specs.Memory.{bytes_of}
use Rattle.sg_gate.specs.Batch.{count_at, number_at}
use Rattle.sg_gate.proofs.Windows.{number_read, number_part}
use Rattle.sg_gate.proofs.Texts.{too_great, comes_twice, fit_more, numbers_read_more, all_read, read_batch}
use Rattle.sg_gate.proofs.header.read_header.Goals as goal
use Rattle.sg_gate.proofs.header.read_header.Goals.{then-number-pages-via-then-number-pages, then-number-pages-via-else-number-pages+then-is_among}

pub returns-then-number-pages-clause-wrong : goal.returns-then-number-pages-clause-wrong
returns-then-number-pages-clause-wrong c =
    let text = c.args.text.now in
    let k = c.numbers.k in
    let into = c.numbers.into in
    let counted : c.read_u32-count.result ≡ count_at (bytes_of text) 0 = c.read_u32-count.ensures.value ∙ number_read 4 text 0 in
    let is : c.read_u32-number.result ≡ number_at (bytes_of text) 0 k = c.read_u32-number.ensures.value ∙ number_part 4 text (4 + 4 * k) (length text - (4 + 4 * k)) (omega arith) in
    inr (
      k,
      omega arith,
      record {
        count = omega arith;
        there = omega arith;
        before = c.numbers.invariant.fit;
        unfit = elim c.then-number-pages.branch [
          | then-number-pages-via-then-number-pages w ↦ too_great c.args.pages (bytes_of text) k c.read_u32-number.result into c.numbers.invariant.numbers is w.if-number-pages.true
          | then-number-pages-via-else-number-pages+then-is_among w ↦
              let twice = w.if-is_among.ensures in
              let size = length-take k into in
              let less : twice.0 < k = let lt = twice.1 in omega arith in
              comes_twice c.args.pages (bytes_of text) k c.read_u32-number.result into c.numbers.invariant.numbers is twice.0 less (omega arith) (sym (get_or-take k into twice.0 0 less) ∙ twice.2)
        ];
      },
    )

pub numbers-preserved : goal.numbers-preserved
numbers-preserved c =
    let text = c.args.text.now in
    let k = c.numbers.k in
    let is : c.read_u32-number.result ≡ number_at (bytes_of text) 0 k = c.read_u32-number.ensures.value ∙ number_part 4 text (4 + 4 * k) (length text - (4 + 4 * k)) (omega arith) in
    record {
      numbers = numbers_read_more c.args.pages (bytes_of text) k c.read_u32-number.result c.numbers.into c.numbers.invariant.numbers is (omega arith);
      fit = fit_more c.args.pages (bytes_of text) k c.read_u32-number.result c.numbers.into c.numbers.invariant.numbers is (omega arith) (omega arith) c.if-is_among.ensures c.numbers.invariant.fit;
    }

pub returns-clause-numbers : goal.returns-clause-numbers
returns-clause-numbers c =
    let at_end : c.numbers.k ≡ c.read_u32-count.result = omega arith in
    let text = c.args.text.now in
    all_read c.args.pages (bytes_of text) c.read_u32-count.result c.numbers.into (c.read_u32-count.ensures.value ∙ number_read 4 text 0) (omega arith) (omega arith) (rw at_end at c.numbers.invariant.numbers)

pub returns-clause-batch : goal.returns-clause-batch
returns-clause-batch c =
    let at_end : c.numbers.k ≡ c.read_u32-count.result = omega arith in
    let text = c.args.text.now in
    read_batch c.args.pages (bytes_of text) c.read_u32-count.result c.numbers.into (c.read_u32-count.ensures.value ∙ number_read 4 text 0) (omega arith) (omega arith) (rw at_end at c.numbers.invariant.numbers) (omega arith) (λ j lt. c.numbers.invariant.fit j (omega arith))
