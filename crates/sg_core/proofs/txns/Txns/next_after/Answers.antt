use Rattle.std.proofs.Common.{sym, ap, ◌∙◌}
use Rattle.std.specs.Prelude.{nat_lt}
use Rattle.std.specs.Option.{option_map}
use Rattle.std.specs.List.{find}
use Rattle.sg_core.specs.Live.{number_of}
use Rattle.sg_core.specs.Slots.{live_of}
use Rattle.sg_core.proofs.Order.{next_is}
use Rattle.sg_core.proofs.txns.Txns.next_after.Goals as goal

pub returns : goal.returns
returns c =
    c.as_number.ensures ∙ (ap (option_map (λ n. record { 0 = n })) c.least_above.ensures
    ∙ (sym (next_is (λ x. nat_lt c.args.t.0 x.transaction) (live_of c.self.inside.live.slots)) ∙ ap (λ xs. option_map number_of (find (λ x. nat_lt c.args.t.0 x.transaction) xs)) c.self.view_is))
