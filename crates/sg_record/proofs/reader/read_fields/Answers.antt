use Rattle.std.proofs.Common.{◌≡◌, ℕ, ◌-◌, take, drop, Some, None, Err, sym, ap, ◌∙◌, arith}
use Rattle.sg_base.specs.Bytes.{IsBytes}
use Rattle.sg_record.specs.Records.{Record, HEADER}
use Rattle.sg_record.specs.Ranges.{out_of_range}
use Rattle.sg_record.specs.Reading.{Parsed, unread_at, transaction_at, previous_at, body_at, in_range, read_says, parse_says}
use Rattle.sg_record.specs.Shown.{shown_says, by}
use Rattle.sg_record.specs.declared.record.RecError.TheVariants.{BadField}
use Rattle.sg_record.proofs.Parsing.{read_size, read_args}
use Rattle.sg_record.proofs.reader.read_fields.Goals as goal

pub returns-in-None : goal.returns-in-None
unfolding parse_says
returns-in-None c =
    let bytes = c.args.bytes.now in
    let body : take (c.args.size - HEADER) (drop HEADER bytes) ≡ body_at bytes = ap (λ n. take (n - HEADER) (drop HEADER bytes)) c.requires.stated in
    let none : None ≡ read_says c.args.kind (body_at bytes) = c.in-None.ensures ∙ ap (read_says c.args.kind) body in
    ap (λ (n : ℕ). let o : Parsed = Err (BadField n) in o) (c.unread_at.ensures ∙ ap (unread_at c.args.kind) body) ∙ ap (parse_says c.args.kind bytes) none

pub returns-in-Some : goal.returns-in-Some
unfolding parse_says
returns-in-Some c =
    let bytes = c.args.bytes.now in
    let body : take (c.args.size - HEADER) (drop HEADER bytes) ≡ body_at bytes = ap (λ n. take (n - HEADER) (drop HEADER bytes)) c.requires.stated in
    let some : Some (shown_says c.in-Some.says) ≡ read_says c.args.kind (body_at bytes) = c.in-Some.ensures ∙ ap (read_says c.args.kind) body in
    let r : Record = by (transaction_at bytes) (previous_at bytes) (shown_says c.in-Some.says) in
    c.checked.ensures ∙ (ap (λ n. in_range r n (out_of_range r)) c.requires.stated ∙ ap (parse_says c.args.kind bytes) some)

pub checked-requires-clause-size : goal.checked-requires-clause-size
checked-requires-clause-size c =
    let bytes = c.args.bytes.now in
    let are : IsBytes bytes = c.are_bytes.ensures in
    let body : take (c.args.size - HEADER) (drop HEADER bytes) ≡ body_at bytes = ap (λ n. take (n - HEADER) (drop HEADER bytes)) c.requires.stated in
    let some : read_says c.args.kind (body_at bytes) ≡ Some (shown_says c.in-Some.says) = sym (c.in-Some.ensures ∙ ap (read_says c.args.kind) body) in
    c.requires.stated ∙ read_size c.args.kind bytes (shown_says c.in-Some.says) are (omega (arith, c.requires.stated, c.requires.least)) (omega (arith, c.requires.stated, c.requires.within)) some

pub checked-requires-clause-args : goal.checked-requires-clause-args
checked-requires-clause-args c =
    let bytes = c.args.bytes.now in
    let are : IsBytes bytes = c.are_bytes.ensures in
    let body : take (c.args.size - HEADER) (drop HEADER bytes) ≡ body_at bytes = ap (λ n. take (n - HEADER) (drop HEADER bytes)) c.requires.stated in
    let some : read_says c.args.kind (body_at bytes) ≡ Some (shown_says c.in-Some.says) = sym (c.in-Some.ensures ∙ ap (read_says c.args.kind) body) in
    read_args c.args.kind bytes (shown_says c.in-Some.says) are some
