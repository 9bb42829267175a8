use Rattle.std.proofs.Common.{◌∙◌, ℕ, List, length, Result, Err, refl, sym, ap, subst, arith}
use Rattle.std.proofs.lemmas.List.{length-map}
use Rattle.std.specs.FinMap.{entries}
use Rattle.sg_contents.specs.Meaning.{reading}
use Rattle.sg_lines.specs.Heard.{HasHeard}
use Rattle.sg_lines.specs.Parts.{parts_of_object, parts_of}
use Rattle.sg_model.specs.Objects.{Object}
use Rattle.sg_objects.proofs.Located.{still_contents}
use Rattle.sg_reading.specs.Reading.{objects}
use Rattle.sg_listing.specs.Telling.{OnlyTold, CountsEars, IsTold}
use Rattle.sg_listing.specs.declared.fault.TellFault.{TellFault}
use Rattle.sg_listing.proofs.Entries.{key_at}
use Rattle.sg_listing.proofs.Named.{row_there}
use Rattle.sg_listing.proofs.Telling.{handed, read_nothing, read_on, told_read, told_then, heard_nothing, counts_on}
use Rattle.sg_listing.proofs.Told.{next_heard, next_failed, all_heard}
use Rattle.sg_listing.proofs.objects.tell_named.Goals as goal

pub names-init : goal.names-init
names-init g c = record {
  read = read_nothing;
  later = λ t. g.met.P.PageSpace.later_same t _;
  means = λ t m. m;
  heard = λ shows s h same. heard_nothing g.L.Listener.ears c.args.to.now;
  quiet = refl;
  same = refl;
}

pub tell_object-requires : goal.tell_object-requires
tell_object-requires g c = λ told.
    let i = c.names.invariant in
    let back = i.read.back told in
    let shows = g.met.P.PageSpace.told_shows _ back in
    let h = c.requires back in
    let k = key_at (objects (reading h.0)) c.args.names.now c.names.name-index c.name-item.result h.2 c.names-test.true c.name-item.is in
    (h.0, still_contents i.read.kept shows h.1, row_there h.0 c.name-item.result k.0.1 k.3)

pub names-preserved : goal.names-preserved
names-preserved g c =
    let i = c.names.invariant in
    let ok = c.in_ok-tell_object.ensures in
    let ears = g.L.Listener.ears in
    record {
      read = read_on i.read (told_read _ ok.space);
      later = λ t. g.met.P.PageSpace.later_then t _ _ _ (i.later t) (c.tell_object.ensures.later t);
      means = λ t m. c.tell_object.ensures.means t (i.means t m);
      heard = λ shows s h same.
          let k = key_at (objects (reading s)) c.args.names.now c.names.name-index c.name-item.result same c.names-test.true c.name-item.is in
          let one = ok.heard (i.read.kept.shows shows) s (still_contents i.read.kept shows h) k.0.1 k.3 in
          next_heard ears (λ (e : List ℕ × Object). parts_of_object e.0 e.1) (entries (objects (reading s))) c.names.name-index k.0 k.1 (i.heard shows s h same)
          (subst (λ (n : List ℕ). HasHeard ears c.names.to (parts_of_object n k.0.1) c.tell_object.new.to) (sym k.2) one);
      quiet = ok.listener.counted ∙ i.quiet;
      same = ok.listener.same ∙ i.same;
    }

pub returns-in_err-tell_object-clause-space : goal.returns-in_err-tell_object-clause-space
returns-in_err-tell_object-clause-space g c =
    handed (λ (r : Result (Unit {0}) TellFault). OnlyTold (g.P.PageSpace.view c.args.space.now) (g.P.PageSpace.view c.tell_object.new.space) r) c.from_residual.result c.in_err-tell_object.field-0.0 c.from_residual.ensures.1
    (told_then (Err c.in_err-tell_object.field-0.0) c.names.invariant.read c.in_err-tell_object.ensures.space)

pub returns-in_err-tell_object-clause-heard : goal.returns-in_err-tell_object-clause-heard
returns-in_err-tell_object-clause-heard g c = λ shows s h same.
    let i = c.names.invariant in
    let ears = g.L.Listener.ears in
    let f = c.in_err-tell_object.field-0.0 in
    let k = key_at (objects (reading s)) c.args.names.now c.names.name-index c.name-item.result same c.names-test.true c.name-item.is in
    let one = c.in_err-tell_object.ensures.heard (i.read.kept.shows shows) s (still_contents i.read.kept shows h) k.0.1 k.3 in
    handed (λ (r : Result (Unit {0}) TellFault). IsTold ears c.args.to.now (parts_of (objects (reading s))) c.tell_object.new.to r) c.from_residual.result f c.from_residual.ensures.1
    (next_failed ears (λ (e : List ℕ × Object). parts_of_object e.0 e.1) (entries (objects (reading s))) (Unit {0}) (Unit {0}) c.names.name-index k.0 k.1 c.args.to.now c.names.to c.tell_object.new.to f (i.heard shows s h same)
    (subst (λ (n : List ℕ). IsTold {T = Unit {0}} ears c.names.to (parts_of_object n k.0.1) c.tell_object.new.to (Err f)) (sym k.2) one))

pub returns-in_err-tell_object-clause-listener : goal.returns-in_err-tell_object-clause-listener
returns-in_err-tell_object-clause-listener g c =
    handed (λ (r : Result (Unit {0}) TellFault). CountsEars g.L.Listener.ears c.args.to.now c.tell_object.new.to r) c.from_residual.result c.in_err-tell_object.field-0.0 c.from_residual.ensures.1
    (counts_on g.L.Listener.ears (Err c.in_err-tell_object.field-0.0) c.names.invariant.quiet c.names.invariant.same c.in_err-tell_object.ensures.listener)

pub returns-in_err-tell_object-clause-later : goal.returns-in_err-tell_object-clause-later
returns-in_err-tell_object-clause-later g c = λ t. g.met.P.PageSpace.later_then t _ _ _ (c.names.invariant.later t) (c.tell_object.ensures.later t)

pub returns-clause-heard : goal.returns-clause-heard
returns-clause-heard g c = λ shows s h same.
    let es = entries (objects (reading s)) in
    let past = c.names-test.false in
    let long = ap length same in
    all_heard g.L.Listener.ears (λ (e : List ℕ × Object). parts_of_object e.0 e.1) es c.names.name-index (omega (arith, past, long, length-map es (λ (e : List ℕ × Object). e.0))) (c.names.invariant.heard shows s h same)
