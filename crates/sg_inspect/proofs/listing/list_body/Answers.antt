use Rattle.std.proofs.Common.{take, refl, sym, ap, ◌∙◌, arith}
use Rattle.std.proofs.lemmas.List.{take_rest}
use Rattle.sg_record.specs.Shown.{shown}
use Rattle.sg_log.proofs.Texts.{spelled-long}
use Rattle.sg_log.proofs.Whole.{from_front, one_further, next_begins}
use Rattle.sg_inspect.proofs.Bodies.{listing_starts, listing_goes_on, listing_cut, listing_ends, listed_front}
use Rattle.sg_inspect.proofs.listing.list_body.Goals as goal

pub records-init : goal.records-init
records-init g c = record {
  listed = λ rs fields text. listing_starts c.args.body.now c.args.lsn rs (g.K.Sink.taken c.args.out.now) fields text;
  whole = from_front c.args.body.now;
  quiet = refl;
}

pub records-smaller : goal.records-smaller
records-smaller g c = omega (arith, c.in-Ok.ensures.size, spelled-long (shown c.in-Ok.rec))

pub records-preserved : goal.records-preserved
records-preserved g c = record {
  listed = λ rs fields text.
      listing_goes_on (c.records.invariant.listed rs fields text) c.in-Ok.size (shown c.in-Ok.rec) c.records-test.true c.in-Ok.ensures.range
      (ap (take c.in-Ok.size) (sym (take_rest c.args.body.now c.records.from)) ∙ c.in-Ok.ensures.spelling) c.in-Ok.ensures.size
      (g.K.Sink.taken c.write_line.new.out) c.in-Ok-write_line.ensures.took;
  whole = one_further c.in-Ok.size (shown c.in-Ok.rec) c.records.invariant.whole c.in-Ok.ensures.range c.in-Ok.ensures.spelling c.in-Ok.ensures.size;
  quiet = c.in-Ok-write_line.ensures.quiet ∙ c.records.invariant.quiet;
}

pub returns-in_default-clause-cut : goal.returns-in_default-clause-cut
returns-in_default-clause-cut g c rs fields text = listed_front (c.records.invariant.listed rs fields text)

pub returns-in_default-clause-faults : goal.returns-in_default-clause-faults
returns-in_default-clause-faults g c = (
  c.records.invariant.quiet,
  λ w. let first = next_begins c.records.invariant.whole c.records-test.true w in absurd (cc (c.in_default.ensures.back first.is first.rest first.fields first.text)),
)

pub returns-in-Err-clause-cut : goal.returns-in-Err-clause-cut
returns-in-Err-clause-cut g c rs fields text =
    listing_cut (c.records.invariant.listed rs fields text) c.in-Ok.size (shown c.in-Ok.rec) c.records-test.true c.in-Ok.ensures.range
    (ap (take c.in-Ok.size) (sym (take_rest c.args.body.now c.records.from)) ∙ c.in-Ok.ensures.spelling) c.in-Ok.ensures.size
    (g.K.Sink.taken c.write_line.new.out) c.in-Err.ensures.cut

pub returns-clause-took : goal.returns-clause-took
returns-clause-took g c rs fields text = listing_ends (c.records.invariant.listed rs fields text) c.records-test.false
