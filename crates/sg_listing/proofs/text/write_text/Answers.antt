use Rattle.std.proofs.Common.{ℕ, List, [], ◌++◌, codes, length, None, Result, Err, sym, subst}
use Rattle.std.specs.FinMap.{entries}
use Rattle.sg_base.specs.Ends.{Takes, TakesFront}
use Rattle.sg_contents.specs.Meaning.{reading}
use Rattle.sg_reading.specs.Reading.{objects}
use Rattle.sg_words.proofs.Steps.{Takes-more, front_behind}
use Rattle.sg_lines.specs.Parts.{lines_of, parts_of}
use Rattle.sg_lines.specs.Text.{heading, text_of}
use Rattle.sg_listing.specs.Telling.{IsWritten}
use Rattle.sg_listing.specs.declared.fault.TellFault.{TellFault}
use Rattle.sg_listing.specs.declared.fault.TellFault.TheVariants.{Listener}
use Rattle.sg_listing.proofs.Telling.{handed}
use Rattle.sg_listing.proofs.Written.{written_before}
use Rattle.sg_listing.proofs.text.write_text.Goals as goal

pub returns-in_err-count-clause-text : goal.returns-in_err-count-clause-text
returns-in_err-count-clause-text g c = λ shows s h.
    let had = g.K.Sink.taken c.args.out.now in
    let has = g.K.Sink.taken c.write_lines.new.out in
    let all = objects (reading s) in
    let f = c.in_err-count.field-0.0 in
    let lines = lines_of (parts_of all) in
    let last = heading (codes "objects") [] None (length (entries all)) in
    handed (λ (r : Result (Unit {0}) TellFault). IsWritten had (text_of all) has r) c.from_residual.result f c.from_residual.ensures.1
    (subst (λ (t : List ℕ). IsWritten {T = Unit {0}} had t has (Err f)) (sym (c.parts_make_the_text.ensures all)) (written_before ℕ (Unit {0}) had lines last has f (c.in_err-count.ensures.lines shows s h)))

pub returns-in_err-write_heading-clause-text : goal.returns-in_err-write_heading-clause-text
returns-in_err-write_heading-clause-text g c = λ shows s h.
    let had = g.K.Sink.taken c.args.out.now in
    let mid = g.K.Sink.taken c.write_lines.new.out in
    let has = g.K.Sink.taken c.write_heading.new.out in
    let all = objects (reading s) in
    let lines = lines_of (parts_of all) in
    let cut = front_behind had lines mid (heading (codes "objects") [] None c.in_ok-count.count) has (c.in_ok-count.ensures.lines shows s h) c.in_err-write_heading.ensures.cut in
    let all_cut = subst (λ (n : ℕ). TakesFront had (lines ++ heading (codes "objects") [] None n) has) (c.in_ok-count.ensures.count shows s h) cut in
    handed (λ (r : Result (Unit {0}) TellFault). IsWritten had (text_of all) has r) c.from_residual-in_err-write_heading.result Listener c.from_residual-in_err-write_heading.ensures.1
    (subst (λ (t : List ℕ). TakesFront had t has) (sym (c.parts_make_the_text.ensures all)) all_cut)

pub returns-clause-text : goal.returns-clause-text
returns-clause-text g c = λ shows s h.
    let had = g.K.Sink.taken c.args.out.now in
    let mid = g.K.Sink.taken c.write_lines.new.out in
    let has = g.K.Sink.taken c.write_heading.new.out in
    let all = objects (reading s) in
    let lines = lines_of (parts_of all) in
    let took = Takes-more had lines mid (heading (codes "objects") [] None c.in_ok-count.count) has (c.in_ok-count.ensures.lines shows s h) c.in_ok-write_heading.ensures.took in
    let all_took = subst (λ (n : ℕ). Takes had (lines ++ heading (codes "objects") [] None n) has) (c.in_ok-count.ensures.count shows s h) took in
    subst (λ (t : List ℕ). Takes had t has) (sym (c.parts_make_the_text.ensures all)) all_took
