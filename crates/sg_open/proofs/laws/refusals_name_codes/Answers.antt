use Rattle.sg_open.proofs.Needed.{cause_names, cause_never, refusal_names, refusal_never}
use Rattle.sg_open.proofs.Registered.{accepted_knows}
use Rattle.sg_open.proofs.laws.refusals_name_codes.Goals as goal

pub returns : goal.returns
returns c = record { named = cause_names; never = cause_never; late = λ im code h. h; accepted = accepted_knows; store = refusal_names; never_store = refusal_never }
