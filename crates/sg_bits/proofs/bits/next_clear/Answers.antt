use Rattle.std.proofs.Common.{◌≡◌, ◌+◌, ◌*◌, ◌/◌, refl, arith}
use Rattle.sg_bits.specs.Bits.{IsSet}
use Rattle.sg_bits.proofs.RowBits.{reach_more, word_filled, word_clear, set_past}
use Rattle.sg_bits.proofs.bits.next_clear.Goals as goal

pub returns-then-bit-lt-WORD_BITS-clause-skipped :
    goal.returns-then-bit-lt-WORD_BITS-clause-skipped
returns-then-bit-lt-WORD_BITS-clause-skipped c =
    reach_more (λ k. IsSet c.args.words.now k) c.args.from c.words.here _ c.words.invariant.passed
    (word_filled c.args.words.now c.words.here c.lowest_from-bit.result _ (c.type_inv.words (c.words.here / 64)).fits c.lowest_from-bit.ensures.bound refl c.lowest_from-bit.ensures.skipped)

pub returns-then-bit-lt-WORD_BITS-clause-found : goal.returns-then-bit-lt-WORD_BITS-clause-found
returns-then-bit-lt-WORD_BITS-clause-found c =
    word_clear c.args.words.now (c.words.here / 64) c.lowest_from-bit.result _ (c.type_inv.words (c.words.here / 64)).fits c.if-bit-lt-WORD_BITS.true refl (c.lowest_from-bit.ensures.found c.if-bit-lt-WORD_BITS.true)

pub words-preserved : goal.words-preserved
words-preserved c =
    let whole : c.words.here / 64 * 64 + c.lowest_from-bit.result ≡ (c.words.here / 64 + 1) * 64 = omega arith in
    record {
      after = omega arith;
      within = omega arith;
      passed =
          reach_more (λ k. IsSet c.args.words.now k) c.args.from c.words.here _ c.words.invariant.passed
          (word_filled c.args.words.now c.words.here c.lowest_from-bit.result _ (c.type_inv.words (c.words.here / 64)).fits c.lowest_from-bit.ensures.bound whole c.lowest_from-bit.ensures.skipped);
    }

pub returns-clause-found : goal.returns-clause-found
returns-clause-found c = set_past c.args.words.now _ (omega arith)
