use Rattle.std.proofs.Common.{◌≡◌, Ok, ap, ◌∙◌}
use Rattle.std.proofs.lemmas.List.{take_rest}
use Rattle.byteorder.specs.Endian.{little_number}
use Rattle.sg_record.specs.Records.{Record}
use Rattle.sg_record.specs.Ranges.{out_of_range}
use Rattle.sg_record.specs.Reading.{Parsed, transaction_at, previous_at, in_range}
use Rattle.sg_record.specs.Shown.{shown_says, by}
use Rattle.sg_record.proofs.reader.checked.Goals as goal

pub returns-in-Some : goal.returns-in-Some
returns-in-Some c =
    let says = shown_says c.args.says in
    let r : Record = by (transaction_at c.args.bytes.now) (previous_at c.args.bytes.now) says in
    let same : by c.read_u64.result c.read_u64-prev.result says ≡ r = ap (λ n. by n c.read_u64-prev.result says) (c.read_u64.ensures.value ∙ ap (little_number 8) (take_rest c.args.bytes.now 5)) ∙ ap (λ n. by (transaction_at c.args.bytes.now) n says) (c.read_u64-prev.ensures.value ∙ ap (little_number 8) (take_rest c.args.bytes.now 13)) in
    ap (in_range r c.args.size) (c.in-Some.ensures ∙ ap out_of_range same)

pub returns-in-None : goal.returns-in-None
returns-in-None c =
    let says = shown_says c.args.says in
    let r : Record = by (transaction_at c.args.bytes.now) (previous_at c.args.bytes.now) says in
    let same : by c.read_u64.result c.read_u64-prev.result says ≡ r = ap (λ n. by n c.read_u64-prev.result says) (c.read_u64.ensures.value ∙ ap (little_number 8) (take_rest c.args.bytes.now 5)) ∙ ap (λ n. by (transaction_at c.args.bytes.now) n says) (c.read_u64-prev.ensures.value ∙ ap (little_number 8) (take_rest c.args.bytes.now 13)) in
    ap (λ (x : Record). let o : Parsed = Ok (x, c.args.size) in o) (c.rec.ensures ∙ same) ∙ ap (in_range r c.args.size) (c.in-None.ensures ∙ ap out_of_range same)
