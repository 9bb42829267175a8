use Rattle.sg_objects.proofs.Touching.{keys_touched}
use Rattle.sg_objects.proofs.touch.touches_keys.Goals as goal

pub returns-clause-read : goal.returns-clause-read
returns-clause-read g c = λ shows s h. keys_touched s c.in_ok-seen.seen c.args.name _ (c.in_ok-seen.ensures.read shows s h) c.of_keys.ensures
