use Rattle.std.proofs.Common.{ℕ, ◌+◌, List, take, drop, get_or, refl, sym, ◌∙◌, arith, append-nil, subst, rules}
use Rattle.hex.specs.Hex.{encode_with, encode_lower}
use Rattle.sg_base.specs.Ends.{HasRisen}
use Rattle.sg_words.proofs.Waits.{passes_none, passes_piece, cut_piece, piece_more, piece_rest, encode-append}
use Rattle.sg_words.proofs.several.add_digits.Goals as goal

pub bytes-init : goal.bytes-init
unfolding encode_with
bytes-init g c = record {
  within = c.requires;
  so_far = passes_none (g.K.Sink.taken c.args.out.now) _ (take c.args.end c.args.waiting.now) (sym (append-nil (take c.args.end c.args.waiting.now)));
  quiet = refl;
}

pub bytes-preserved : goal.bytes-preserved
bytes-preserved g c =
    let bytes : List ℕ = c.args.bytes.now in
    let i : ℕ = c.bytes.byte-index in
    let more = piece_more encode_lower encode-append bytes i (get_or bytes i 0) 0 (take c.append_hex-written.result c.append_hex-written.new.into) (omega arith) refl c.append_hex-written.ensures.front in
    record {
      within = c.in-Ok.ensures.within;
      so_far = passes_piece (g.K.Sink.taken c.args.out.now) (take c.args.end c.args.waiting.now) (encode_lower (take i bytes)) (take c.append_hex-written.result c.append_hex-written.new.into) (encode_lower (take (i + 1) bytes)) (g.K.Sink.taken c.bytes.out) (take c.bytes.count c.bytes.waiting) (g.K.Sink.taken c.add.new.out) (take c.in-Ok.more c.add.new.waiting) more c.bytes.invariant.so_far c.in-Ok.ensures.added;
      quiet = c.in-Ok.ensures.quiet ∙ c.bytes.invariant.quiet;
    }

pub returns-in-Err : goal.returns-in-Err
returns-in-Err g c =
    let bytes : List ℕ = c.args.bytes.now in
    let i : ℕ = c.bytes.byte-index in
    let rest = piece_rest encode_lower encode-append bytes i (get_or bytes i 0) 0 (take c.append_hex-written.result c.append_hex-written.new.into) (omega arith) refl c.append_hex-written.ensures.front in
    record {
      within = tt;
      added = tt;
      cut = cut_piece (g.K.Sink.taken c.args.out.now) (take c.args.end c.args.waiting.now) (encode_lower (take i bytes)) (take c.append_hex-written.result c.append_hex-written.new.into) (encode_lower (drop (i + 1) bytes)) (encode_lower bytes) (g.K.Sink.taken c.bytes.out) (take c.bytes.count c.bytes.waiting) (g.K.Sink.taken c.add.new.out) rest c.bytes.invariant.so_far c.in-Err.ensures.cut;
      later = search rules;
      quiet = tt;
      failed = subst (λ (n : ℕ). HasRisen n (g.K.Sink.faults c.add.new.out)) c.bytes.invariant.quiet c.in-Err.ensures.failed;
    }
