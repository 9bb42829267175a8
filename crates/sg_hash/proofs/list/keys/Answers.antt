use Rattle.std.proofs.Common.{◌≡◌, ◌∙◌, sym}
use Rattle.std.specs.Prelude.{Result, Ok, Err, IfErr}
use Rattle.std.specs.Result.{IsErrAnd}
use Rattle.sg_space.specs.declared.space.ListFault.{ListFault}
use Rattle.sg_space.specs.declared.space.ListFault.TheVariants.{Memory}
use Rattle.sg_hash.proofs.list.keys.Goals as goal

-- a fault that is handed on
handed_on : {T : Type 0} (result : Result T ListFault) (fault : ListFault) (P : Type 0) → IsErrAnd result (λ e. e ≡ fault) → (fault ≡ Memory → P) → IfErr result (λ e. e ≡ Memory → P)
handed_on (Ok done) fault P h kept = tt
handed_on (Err e) fault P h kept = λ m. kept (sym h ∙ m)

pub returns-in_err-all-clause-memory : goal.returns-in_err-all-clause-memory
returns-in_err-all-clause-memory g c = handed_on c.from_residual.result c.in_err-all.field-0.0 _ c.from_residual.ensures.1 c.in_err-all.ensures.memory

pub returns-in_err-all-clause-quiet : goal.returns-in_err-all-clause-quiet
returns-in_err-all-clause-quiet g c = handed_on c.from_residual.result c.in_err-all.field-0.0 _ c.from_residual.ensures.1 c.in_err-all.ensures.quiet
