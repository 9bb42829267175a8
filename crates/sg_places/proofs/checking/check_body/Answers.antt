use Rattle.std.proofs.Common.{ℕ, ◌+◌, ◌++◌, take, Option, refl, sym, ap, ◌∙◌, subst, arith}
use Rattle.std.proofs.lemmas.List.{take_rest}
use Rattle.sg_ops.specs.Table.{Table, table_of}
use Rattle.sg_record.specs.Shown.{shown}
use Rattle.sg_log.proofs.Texts.{spelled-long}
use Rattle.sg_log.specs.Texts.{spelled_all}
use Rattle.sg_places.proofs.Rest.{IsChecked, check_starts, check_goes_on, outside, check_ends, some_left}
use Rattle.sg_places.proofs.checking.check_body.Goals as goal

pub records-init : goal.records-init
records-init g c rs fields text = check_starts (table_of (λ p. (goal.RecordOp-dyn g p).record_meaning p.1) (λ p. (goal.RangeOp-dyn g p).range_meaning p.1) c.args.ops.now) c.args.pages c.args.bands c.args.point (c.args.losers.now, c.args.opened.now) c.args.lsn c.args.body.now rs fields text

pub records-smaller : goal.records-smaller
records-smaller g c = omega (arith, c.in-Ok.ensures.size, spelled-long (shown c.in-Ok.rec))

pub records-preserved : goal.records-preserved
records-preserved g c rs fields text =
    let t : Table = table_of (λ p. (goal.RecordOp-dyn g p).record_meaning p.1) (λ p. (goal.RangeOp-dyn g p).range_meaning p.1) c.args.ops.now in
    let bytes = c.args.body.now in
    subst (λ (o : Option ℕ). IsChecked t c.args.pages c.args.bands c.args.point (c.args.losers.now, c.args.opened.now) c.args.lsn bytes rs (c.records.from + c.in-Ok.size) o) (sym c.or_else-unknown.ensures)
    (check_goes_on t c.args.pages c.args.bands c.args.point (c.args.losers.now, c.args.opened.now) c.args.lsn bytes rs c.records.from c.records.unknown (c.records.invariant rs fields text)
    c.in-Ok.size (shown c.in-Ok.rec) c.records-test.true c.in-Ok.ensures.range (ap (take c.in-Ok.size) (sym (take_rest bytes c.records.from)) ∙ c.in-Ok.ensures.spelling)
    c.unknown_by-code.result (sym c.is_there.ensures ∙ c.if-not-is_there.false) c.unknown_by-code.ensures c.in-Ok.ensures.size)

pub returns-in_default-clause-refused : goal.returns-in_default-clause-refused
returns-in_default-clause-refused g c rs fields text =
    let h = c.records.invariant rs fields text in
    let first = some_left c.args.body.now c.records.from h.rest h.left c.records-test.true in
    let back = c.in_default.ensures.back first.0 (spelled_all first.1) first.2 (take_rest c.args.body.now c.records.from ∙ first.3) in
    absurd cc

pub returns-then-not-is_there-clause-refused : goal.returns-then-not-is_there-clause-refused
returns-then-not-is_there-clause-refused g c rs fields text =
    let t : Table = table_of (λ p. (goal.RecordOp-dyn g p).record_meaning p.1) (λ p. (goal.RangeOp-dyn g p).range_meaning p.1) c.args.ops.now in
    let bytes = c.args.body.now in (
      refl,
      outside t c.args.pages c.args.bands c.args.point (c.args.losers.now, c.args.opened.now) c.args.lsn bytes rs c.records.from c.records.unknown (c.records.invariant rs fields text)
          c.in-Ok.size (shown c.in-Ok.rec) c.records-test.true c.in-Ok.ensures.range (ap (take c.in-Ok.size) (sym (take_rest bytes c.records.from)) ∙ c.in-Ok.ensures.spelling)
          (sym c.is_there.ensures ∙ c.if-not-is_there.true),
    )

pub returns-clause-there : goal.returns-clause-there
returns-clause-there g c rs fields text = (check_ends (c.records.invariant rs fields text) c.records-test.false).0

pub returns-clause-unknown : goal.returns-clause-unknown
returns-clause-unknown g c rs fields text = (check_ends (c.records.invariant rs fields text) c.records-test.false).1
