use Rattle.std.proofs.Common.{◌≡◌, ℕ, List, take, codes, ◌++◌, sym, subst, IfOk, OnErr, ◌∙◌, rules}
use Rattle.hex.specs.Hex.{encode_lower}
use Rattle.sg_base.specs.Ends.{TakesFront}
use Rattle.sg_words.specs.Text.{printed}
use Rattle.sg_words.specs.Waiting.{Passes}
use Rattle.sg_words.proofs.Waits.{last_added, last_cut, cut_first, printed_hex}
use Rattle.sg_words.proofs.several.add_printed.Goals as goal

pub returns-in-Ok : goal.returns-in-Ok
returns-in-Ok g c =
    let waited : List ℕ = take c.args.end c.args.waiting.now in
    let bytes : List ℕ = c.args.bytes.now in
    let hex : printed bytes ≡ codes "x:" ++ encode_lower bytes = printed_hex bytes (sym c.prints_plain.ensures ∙ c.if-prints_plain.false) in
    let Added : List ℕ → Type 0 = λ t. IfOk c.add_digits.result (λ n. Passes (g.K.Sink.taken c.args.out.now) (waited ++ t) (g.K.Sink.taken c.add_digits.new.out) (take n c.add_digits.new.waiting)) in
    let Cut : List ℕ → Type 0 = λ t. OnErr c.add_digits.result (TakesFront (g.K.Sink.taken c.args.out.now) (waited ++ t) (g.K.Sink.taken c.add_digits.new.out)) in
    record {
      within = search rules;
      added = subst Added (sym hex) (last_added c.add_digits.result (g.K.Sink.taken c.args.out.now) waited (codes "x:") (encode_lower bytes) (g.K.Sink.taken c.add-2.new.out) (take c.in-Ok.end c.add-2.new.waiting) (g.K.Sink.taken c.add_digits.new.out) (λ n. take n c.add_digits.new.waiting) c.in-Ok.ensures.added c.add_digits.ensures.added);
      cut = subst Cut (sym hex) (last_cut c.add_digits.result (g.K.Sink.taken c.args.out.now) waited (codes "x:") (encode_lower bytes) (g.K.Sink.taken c.add-2.new.out) (take c.in-Ok.end c.add-2.new.waiting) (g.K.Sink.taken c.add_digits.new.out) c.in-Ok.ensures.added c.add_digits.ensures.cut);
      later = search rules;
      quiet = search rules;
      failed = search rules;
    }

pub returns-in-Err : goal.returns-in-Err
returns-in-Err g c =
    let waited : List ℕ = take c.args.end c.args.waiting.now in
    let bytes : List ℕ = c.args.bytes.now in
    let hex : printed bytes ≡ codes "x:" ++ encode_lower bytes = printed_hex bytes (sym c.prints_plain.ensures ∙ c.if-prints_plain.false) in
    let P : List ℕ → Type 0 = λ t. TakesFront (g.K.Sink.taken c.args.out.now) (waited ++ t) (g.K.Sink.taken c.add-2.new.out) in
    record {
      within = tt;
      added = tt;
      cut = subst P (sym hex) (cut_first (g.K.Sink.taken c.args.out.now) waited (codes "x:") (encode_lower bytes) (g.K.Sink.taken c.add-2.new.out) c.in-Err.ensures.cut);
      later = search rules;
      quiet = tt;
      failed = search rules;
    }
