use Rattle.sg_objects.proofs.Touching.{touched_by}
use Rattle.sg_objects.proofs.touch.touches.Goals as goal

pub returns-clause-read : goal.returns-clause-read
returns-clause-read g c = λ shows s h. touched_by s c.in_ok-seen.seen c.args.op.now _ _ c.name.ensures (c.in_ok-seen.ensures.read shows s h) c.touch_verb.ensures
