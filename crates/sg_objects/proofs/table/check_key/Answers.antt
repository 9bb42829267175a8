use Rattle.std.proofs.Common.{Result, subst}
use Rattle.sg_base.specs.declared.numbers.PageNo.{PageNo}
use Rattle.sg_catalog.specs.declared.row.ObjectKind.TheVariants as kinds
use Rattle.sg_model.specs.declared.reason.Reason.{Reason}
use Rattle.sg_model.specs.Step.{at_key}
use Rattle.sg_contents.specs.Meaning.{map_of}
use Rattle.sg_objects.specs.Found.{IsLocated}
use Rattle.sg_objects.proofs.Tables.{missing_table, table_there, refuses_table, empty_key, long_key}
use Rattle.sg_objects.proofs.table.check_key.Goals as goal

pub returns-in-Err-clause-read : goal.returns-in-Err-clause-read
returns-in-Err-clause-read g c = λ shows s h decide.
    let m = subst (λ (r : Result PageNo Reason). IsLocated kinds.Table c.args.name s r) c.in-Err.is (c.in_ok-reason.ensures.read shows s h) in
    missing_table s c.args.name (at_key c.args.key.now decide) c.in-Err.reason h m

pub returns-then-key-eq0-clause-read : goal.returns-then-key-eq0-clause-read
returns-then-key-eq0-clause-read g c = λ shows s h decide.
    let f = subst (λ (r : Result PageNo Reason). IsLocated kinds.Table c.args.name s r) c.in-Ok.is (c.in_ok-reason.ensures.read shows s h) in
    let t = table_there h f in
    refuses_table c.args.name (at_key c.args.key.now decide) _ f t.1 (empty_key c.args.key.now decide (map_of t.0) c.if-key-eq0.true)

pub returns-then-key-gt128-clause-read : goal.returns-then-key-gt128-clause-read
returns-then-key-gt128-clause-read g c = λ shows s h decide.
    let f = subst (λ (r : Result PageNo Reason). IsLocated kinds.Table c.args.name s r) c.in-Ok.is (c.in_ok-reason.ensures.read shows s h) in
    let t = table_there h f in
    refuses_table c.args.name (at_key c.args.key.now decide) _ f t.1 (long_key c.args.key.now decide (map_of t.0) c.if-key-gt128.true)
