use Rattle.std.proofs.Common.{ap, ◌∙◌}
use Rattle.sg_core.specs.Live.{has_reserved}
use Rattle.sg_core.proofs.Callers.{reserved_one}
use Rattle.sg_core.proofs.Kept.{reserved_lives}
use Rattle.sg_tests_objects.proofs.txns.reserve_none.Goals as goal

pub unreserve-requires : goal.unreserve-requires
unreserve-requires c = reserved_lives c.args.t _ (ap (λ xs. has_reserved xs c.args.t) c.reserve.ensures ∙ reserved_one c.args.t c.args.txns.now (c.may_reserve.ensures.live c.if-not-may_reserve.false))
