use Rattle.std.specs.Prelude.{◌≡◌, ◌++◌, ℕ, List, length, take, codes, min}
use Rattle.std.proofs.Common.{sym, subst, ap, ◌∙◌}
use Rattle.std.proofs.lemmas.List.{take_min}
use Rattle.sg_model.specs.declared.op.Reply.{Reply}
use Rattle.sg_model.specs.SaidReplies.{said_reply}
use Rattle.sg_words.specs.Answers.{text_of_reply}
use Rattle.sg_words.specs.Text.{printed}
use Rattle.sg_words.specs.Writing.{Writes}
use Rattle.sg_words.proofs.reply.write_reply.Goals as goal

-- the line of a value, of which no more is printed than there is
value_line : (bytes : List ℕ) (n end : ℕ) (reply : Reply) → end ≡ min n (length bytes) → reply ≡ Reply.Bytes n
    → codes "ok " ++ printed (take end bytes) ++ codes "\n" ≡ text_of_reply (said_reply bytes reply)
value_line bytes n end reply e is =
    ap (λ x. codes "ok " ++ printed x ++ codes "\n") (ap (λ m. take m bytes) e ∙ take_min n bytes) ∙ ap (λ r. text_of_reply (said_reply bytes r)) (sym is)

pub returns-in-Replaced : goal.returns-in-Replaced
returns-in-Replaced g c =
    subst (λ r. Writes (g.K.Sink.taken c.args.out.now) (text_of_reply (said_reply c.args.bytes.now r)) (g.K.Sink.taken c.write-in-Replaced.new.self) (g.K.Sink.faults c.args.out.now) (g.K.Sink.faults c.write-in-Replaced.new.self) c.write-in-Replaced.result)
    (sym c.in-Replaced.is)
    (record { took = c.write-in-Replaced.ensures.took; cut = c.write-in-Replaced.ensures.cut; later = c.write-in-Replaced.ensures.later; quiet = c.write-in-Replaced.ensures.quiet; failed = c.write-in-Replaced.ensures.failed })

pub returns-in-Bytes : goal.returns-in-Bytes
returns-in-Bytes g c =
    subst (λ line. Writes (g.K.Sink.taken c.args.out.now) line (g.K.Sink.taken c.write_value.new.out) (g.K.Sink.faults c.args.out.now) (g.K.Sink.faults c.write_value.new.out) c.write_value.result)
    (value_line c.args.bytes.now c.in-Bytes.n c.min.result c.args.reply.now c.min.ensures c.in-Bytes.is) c.write_value.ensures
