use Rattle.std.proofs.Common.{◌≡◌, ◌+◌, ◌*◌, ◌/◌, ◌<◌, ◌≤◌, ◌^◌, length, arith}
use Rattle.sg_alloc.proofs.Summaries.{top_look, word_look, bit_look}
use Rattle.sg_alloc.proofs.rows.find_clear.Goals as goal

pub overflow_mul-top : goal.overflow_mul-top
overflow_mul-top c =
    let top = top_look c.args.words.now c.args.full.now c.args.all_full.now c.next_clear-top.result c.requires.rows c.requires.some (λ w less. c.next_clear-top.ensures.skipped w (omega arith) less) in
    let least = top.least in
    let less = (c.requires.some).1 in
    let few = c.requires.rows.few in
    omega arith

pub next_clear-word-requires-clause-fits : goal.next_clear-word-requires-clause-fits
next_clear-word-requires-clause-fits c =
    let top = top_look c.args.words.now c.args.full.now c.args.all_full.now c.next_clear-top.result c.requires.rows c.requires.some (λ w less. c.next_clear-top.ensures.skipped w (omega arith) less) in
    let least = top.least in
    let less = (c.requires.some).1 in
    let enough = c.requires.rows.first.enough in
    omega arith

pub overflow_mul-word : goal.overflow_mul-word
overflow_mul-word c =
    let top = top_look c.args.words.now c.args.full.now c.args.all_full.now c.next_clear-top.result c.requires.rows c.requires.some (λ w less. c.next_clear-top.ensures.skipped w (omega arith) less) in
    let word = word_look c.args.words.now c.args.full.now c.args.all_full.now c.next_clear-top.result c.next_clear-word.result c.requires.rows c.requires.some top c.next_clear-word.ensures.skipped in
    let least = word.least in
    let less = (c.requires.some).1 in
    let few = c.requires.rows.few in
    omega arith

pub next_clear-requires-clause-fits : goal.next_clear-requires-clause-fits
next_clear-requires-clause-fits c =
    let top = top_look c.args.words.now c.args.full.now c.args.all_full.now c.next_clear-top.result c.requires.rows c.requires.some (λ w less. c.next_clear-top.ensures.skipped w (omega arith) less) in
    let word = word_look c.args.words.now c.args.full.now c.args.all_full.now c.next_clear-top.result c.next_clear-word.result c.requires.rows c.requires.some top c.next_clear-word.ensures.skipped in
    let least = word.least in
    let less = (c.requires.some).1 in
    omega arith

pub returns : goal.returns
returns c =
    let top = top_look c.args.words.now c.args.full.now c.args.all_full.now c.next_clear-top.result c.requires.rows c.requires.some (λ w less. c.next_clear-top.ensures.skipped w (omega arith) less) in
    let word = word_look c.args.words.now c.args.full.now c.args.all_full.now c.next_clear-top.result c.next_clear-word.result c.requires.rows c.requires.some top c.next_clear-word.ensures.skipped in
    bit_look c.args.words.now c.args.full.now c.args.all_full.now c.next_clear-word.result c.next_clear.result c.requires.rows c.requires.some word c.next_clear.ensures.skipped c.next_clear.ensures.found
