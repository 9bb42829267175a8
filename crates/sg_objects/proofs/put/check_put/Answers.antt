use Rattle.std.proofs.Common.{Result, subst}
use Rattle.sg_base.specs.declared.numbers.PageNo.{PageNo}
use Rattle.sg_model.specs.declared.reason.Reason.{Reason}
use Rattle.sg_model.specs.Step.{at_key, put_value}
use Rattle.sg_contents.specs.Meaning.{map_of}
use Rattle.sg_objects.specs.Found.{KeyChecked}
use Rattle.sg_objects.proofs.Tables.{table_there, refuses_table}
use Rattle.sg_objects.proofs.Putting.{put_long}
use Rattle.sg_objects.proofs.put.check_put.Goals as goal

pub returns-in-Err-clause-read : goal.returns-in-Err-clause-read
returns-in-Err-clause-read g c = λ shows s h.
    subst (λ (r : Result PageNo Reason). KeyChecked c.args.name c.args.key.now s r) c.in-Err.is (c.in_ok-reason.ensures.read shows s h) (put_value c.args.value.now)

pub returns-then-value-gt1024-clause-read : goal.returns-then-value-gt1024-clause-read
returns-then-value-gt1024-clause-read g c = λ shows s h.
    let f = subst (λ (r : Result PageNo Reason). KeyChecked c.args.name c.args.key.now s r) c.in-Ok.is (c.in_ok-reason.ensures.read shows s h) in
    let t = table_there h f.0 in
    refuses_table c.args.name (at_key c.args.key.now (put_value c.args.value.now)) _ f.0 t.1 (put_long (map_of t.0) c.args.key.now c.args.value.now f.1 f.2 c.if-value-gt1024.true)
