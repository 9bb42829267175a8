use Rattle.std.proofs.Common.{◌≡◌, ℕ, ◌+◌, List, [], ◌∷◌, ◌++◌, length, take, drop, codes, decimal, sym, ap, ◌∙◌, append-nil, arith, subst, rules}
use Rattle.std.specs.List.{flat_map}
use Rattle.std.proofs.lemmas.List.Concat.{flat_map-append}
use Rattle.std.proofs.Math.Seq.{take_all}
use Rattle.sg_base.specs.Ends.{HasRisen}
use Rattle.sg_words.specs.Answers.{behind_space}
use Rattle.sg_words.specs.Waiting.{Passes}
use Rattle.sg_words.proofs.Waits.{front_longer, passes_piece, cut_piece, piece_more, piece_rest, end_cut, end_took}
use Rattle.sg_words.proofs.several.write_words.Goals as goal

pub words-preserved : goal.words-preserved
words-preserved g c =
    let said : g.row.W.Denot → List ℕ = λ w. behind_space (g.W.Word.bytes_of w) in
    let i : ℕ = c.words.word-index in
    let piece : behind_space c.bytes.result.now ≡ flat_map said (c.word-item.result ∷ []) = ap behind_space c.bytes.ensures ∙ sym (append-nil (said c.word-item.result)) in
    let more = piece_more (flat_map said) (flat_map-append said) c.args.words.now i c.word-item.result c.word-item.result (behind_space c.bytes.result.now) (omega arith) c.word-item.is piece in
    record {
      within = c.in-Ok.ensures.within;
      so_far = passes_piece (g.K.Sink.taken c.args.out.now) (codes "ok " ++ decimal (length c.args.words.now)) (flat_map said (take i c.args.words.now)) (behind_space c.bytes.result.now) (flat_map said (take (i + 1) c.args.words.now)) (g.K.Sink.taken c.words.out) (take c.words.end c.words.waiting) (g.K.Sink.taken c.add_word.new.out) (take c.in-Ok.more c.add_word.new.waiting) more c.words.invariant.so_far c.in-Ok.ensures.added;
      quiet = c.in-Ok.ensures.quiet ∙ c.words.invariant.quiet;
    }

pub returns-in-Err : goal.returns-in-Err
returns-in-Err g c =
    let said : g.row.W.Denot → List ℕ = λ w. behind_space (g.W.Word.bytes_of w) in
    let i : ℕ = c.words.word-index in
    let piece : behind_space c.bytes.result.now ≡ flat_map said (c.word-item.result ∷ []) = ap behind_space c.bytes.ensures ∙ sym (append-nil (said c.word-item.result)) in
    let rest = piece_rest (flat_map said) (flat_map-append said) c.args.words.now i c.word-item.result c.word-item.result (behind_space c.bytes.result.now) (omega arith) c.word-item.is piece in
    record {
      took = tt;
      cut =
          front_longer (g.K.Sink.taken c.args.out.now) ((codes "ok " ++ decimal (length c.args.words.now)) ++ flat_map said c.args.words.now) (codes "\n") (g.K.Sink.taken c.add_word.new.out)
          (cut_piece (g.K.Sink.taken c.args.out.now) (codes "ok " ++ decimal (length c.args.words.now)) (flat_map said (take i c.args.words.now)) (behind_space c.bytes.result.now) (flat_map said (drop (i + 1) c.args.words.now)) (flat_map said c.args.words.now) (g.K.Sink.taken c.words.out) (take c.words.end c.words.waiting) (g.K.Sink.taken c.add_word.new.out) rest c.words.invariant.so_far c.in-Err.ensures.cut);
      later = search rules;
      quiet = tt;
      failed = subst (λ (n : ℕ). HasRisen n (g.K.Sink.faults c.add_word.new.out)) c.words.invariant.quiet c.in-Err.ensures.failed;
    }

pub returns : goal.returns
returns g c =
    let said : g.row.W.Denot → List ℕ = λ w. behind_space (g.W.Word.bytes_of w) in
    let count : List ℕ = codes "ok " ++ decimal (length c.args.words.now) in
    let all : take c.words.word-index c.args.words.now ≡ c.args.words.now = take_all c.words.word-index c.args.words.now c.words-test.false in
    let P : List g.row.W.Denot → Type 0 = λ ws. Passes (g.K.Sink.taken c.args.out.now) (count ++ flat_map said ws) (g.K.Sink.taken c.words.out) (take c.words.end c.words.waiting) in
    let passes = subst P all c.words.invariant.so_far in
    record {
      took = end_took c.finish.result (g.K.Sink.taken c.args.out.now) (count ++ flat_map said c.args.words.now) (codes "\n") (g.K.Sink.taken c.words.out) (take c.words.end c.words.waiting) (g.K.Sink.taken c.finish.new.out) passes c.finish.ensures.took;
      cut = end_cut c.finish.result (g.K.Sink.taken c.args.out.now) (count ++ flat_map said c.args.words.now) (codes "\n") (g.K.Sink.taken c.words.out) (take c.words.end c.words.waiting) (g.K.Sink.taken c.finish.new.out) passes c.finish.ensures.cut;
      later = search rules;
      quiet = search rules;
      failed = search rules;
    }
