use Rattle.std.proofs.Common.{◌≡◌, [], Bool, Some, rules, sym, ap, ◌∙◌}
use Rattle.sg_words.specs.Parse.{words_of}
use Rattle.sg_words.specs.Verbs.{number_if}
use Rattle.sg_words.proofs.Counts.{named_read}
use Rattle.sg_words.proofs.request.on_name.Goals as goal

pub returns : goal.returns
returns c =
    let words = words_of c.in-Some.rest.now in
    let more = words_of c.in-Some-number_if.rest.now in
    let end : words_of c.in-Some-number_if-2.rest.now ≡ [] = search rules in
    ap Some c.request_on.ensures
    ∙ sym (named_read c.args.verb _ words more _ c.in-Some.name.now c.in-Some-new.name c.in-Some-number_if.first c.in-Some-number_if-2.second c.in-Some.ensures.words
    (ap (λ (wanted : Bool). number_if wanted words) (sym c.has_number.ensures) ∙ c.in-Some-number_if.ensures.number)
    (ap (λ (wanted : Bool). number_if wanted more) (sym c.has_two.ensures) ∙ c.in-Some-number_if-2.ensures.number) end (sym c.new.ensures ∙ c.in-Some-new.is))
