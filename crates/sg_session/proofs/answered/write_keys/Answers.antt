use Rattle.std.proofs.Common.{◌≡◌, ℕ, ◌+◌, List, [], ◌∷◌, ◌++◌, length, take, drop, codes, decimal, sym, ap, ◌∙◌, append-nil, arith, subst, rules}
use Rattle.std.specs.List.{flat_map}
use Rattle.std.proofs.lemmas.List.Concat.{flat_map-append}
use Rattle.std.proofs.Math.Seq.{take_all}
use Rattle.sg_base.specs.Ends.{HasRisen}
use Rattle.sg_words.specs.Answers.{behind_space}
use Rattle.sg_words.specs.Waiting.{Passes}
use Rattle.sg_words.proofs.Waits.{front_longer, passes_piece, cut_piece, piece_more, piece_rest, end_cut, end_took}
use Rattle.sg_session.proofs.answered.write_keys.Goals as goal

pub keys-preserved : goal.keys-preserved
keys-preserved g c =
    let i : ℕ = c.keys.key-index in
    let piece : behind_space c.bytes.result.now ≡ flat_map behind_space (c.key-item.result ∷ []) = ap behind_space c.bytes.ensures ∙ sym (append-nil (behind_space c.key-item.result)) in
    let more = piece_more (flat_map behind_space) (flat_map-append behind_space) c.args.keys.now i c.key-item.result c.key-item.result (behind_space c.bytes.result.now) (omega arith) c.key-item.is piece in
    record {
      within = c.in-Ok.ensures.within;
      so_far = passes_piece (g.K.Sink.taken c.args.out.now) (codes "ok " ++ decimal (length c.args.keys.now)) (flat_map behind_space (take i c.args.keys.now)) (behind_space c.bytes.result.now) (flat_map behind_space (take (i + 1) c.args.keys.now)) (g.K.Sink.taken c.keys.out) (take c.keys.end c.keys.waiting) (g.K.Sink.taken c.add_word.new.out) (take c.in-Ok.more c.add_word.new.waiting) more c.keys.invariant.so_far c.in-Ok.ensures.added;
      quiet = c.in-Ok.ensures.quiet ∙ c.keys.invariant.quiet;
    }

pub returns-in-Err : goal.returns-in-Err
returns-in-Err g c =
    let i : ℕ = c.keys.key-index in
    let piece : behind_space c.bytes.result.now ≡ flat_map behind_space (c.key-item.result ∷ []) = ap behind_space c.bytes.ensures ∙ sym (append-nil (behind_space c.key-item.result)) in
    let rest = piece_rest (flat_map behind_space) (flat_map-append behind_space) c.args.keys.now i c.key-item.result c.key-item.result (behind_space c.bytes.result.now) (omega arith) c.key-item.is piece in
    record {
      took = tt;
      cut =
          front_longer (g.K.Sink.taken c.args.out.now) ((codes "ok " ++ decimal (length c.args.keys.now)) ++ flat_map behind_space c.args.keys.now) (codes "\n") (g.K.Sink.taken c.add_word.new.out)
          (cut_piece (g.K.Sink.taken c.args.out.now) (codes "ok " ++ decimal (length c.args.keys.now)) (flat_map behind_space (take i c.args.keys.now)) (behind_space c.bytes.result.now) (flat_map behind_space (drop (i + 1) c.args.keys.now)) (flat_map behind_space c.args.keys.now) (g.K.Sink.taken c.keys.out) (take c.keys.end c.keys.waiting) (g.K.Sink.taken c.add_word.new.out) rest c.keys.invariant.so_far c.in-Err.ensures.cut);
      later = search rules;
      quiet = tt;
      failed = subst (λ (n : ℕ). HasRisen n (g.K.Sink.faults c.add_word.new.out)) c.keys.invariant.quiet c.in-Err.ensures.failed;
    }

pub returns : goal.returns
returns g c =
    let count : List ℕ = codes "ok " ++ decimal (length c.args.keys.now) in
    let all : take c.keys.key-index c.args.keys.now ≡ c.args.keys.now = take_all c.keys.key-index c.args.keys.now c.keys-test.false in
    let P : List (List ℕ) → Type 0 = λ ws. Passes (g.K.Sink.taken c.args.out.now) (count ++ flat_map behind_space ws) (g.K.Sink.taken c.keys.out) (take c.keys.end c.keys.waiting) in
    let passes = subst P all c.keys.invariant.so_far in
    record {
      took = end_took c.finish.result (g.K.Sink.taken c.args.out.now) (count ++ flat_map behind_space c.args.keys.now) (codes "\n") (g.K.Sink.taken c.keys.out) (take c.keys.end c.keys.waiting) (g.K.Sink.taken c.finish.new.out) passes c.finish.ensures.took;
      cut = end_cut c.finish.result (g.K.Sink.taken c.args.out.now) (count ++ flat_map behind_space c.args.keys.now) (codes "\n") (g.K.Sink.taken c.keys.out) (take c.keys.end c.keys.waiting) (g.K.Sink.taken c.finish.new.out) passes c.finish.ensures.cut;
      later = search rules;
      quiet = search rules;
      failed = search rules;
    }
