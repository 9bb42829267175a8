use Rattle.std.proofs.Common.{sym, ap, ◌∙◌}
use Rattle.std.specs.Prelude.{slice_get}
use Rattle.std.specs.Option.{option_map}
use Rattle.sg_core.specs.Live.{number_of}
use Rattle.sg_core.specs.Slots.{live_of}
use Rattle.sg_core.proofs.Order.{first_is}
use Rattle.sg_core.proofs.txns.Txns.oldest.Goals as goal

pub returns : goal.returns
returns c =
    c.as_number.ensures ∙ (ap (option_map (λ n. record { 0 = n })) c.least_above.ensures
    ∙ (sym (first_is (live_of c.self.inside.live.slots)) ∙ ap (λ xs. option_map number_of (slice_get xs 0)) c.self.view_is))
