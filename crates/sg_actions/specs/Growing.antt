-- Logs that grow, and the images of a run of calls.
use Rattle.std.proofs.Common.{◌≡◌, [], ◌++◌, sym, ap, subst, ◌∙◌, refl, append_assoc}
use Rattle.sg_disk.specs.Disk as disk
use Rattle.sg_disk.specs.Disk.{Image, LeavesOnly}
use Rattle.sg_disk.proofs.Moments.{started, joined, weaker}
use Rattle.sg_ops.specs.Table.{Table}
use Rattle.sg_action.specs.States.{State}
use Rattle.sg_actions.specs.Engine.{EngineView, Moments, StandsNow}
use Rattle.sg_actions.specs.Images.{Grows, Recovering, IsImageOf}
use Rattle.sg_actions.specs.Steps.{Steps, repeated}

pub grows_same : (rs : Steps) → Grows rs rs
grows_same rs = record { since = []; all = refl }

pub grows_by : (more rs : Steps) → Grows rs (more ++ rs)
grows_by more rs = record { since = more; all = refl }

pub grows_then : {a b c : Steps} → Grows a b → Grows b c → Grows a c
grows_then {a} {b} {c} f g = record {
  since = g.since ++ f.since;
  all = g.all ∙ (ap (λ (xs : Steps). g.since ++ xs) f.all ∙ sym (append_assoc g.since f.since a));
}

-- an image of a log is one of a longer log, with less that was durable
pub image_on : {recovers : Recovering} {t : Table} {first first' : State} {durable durable' log log' : Steps} {c : Image} → first' ≡ first → Grows durable durable' → Grows log log' → IsImageOf recovers t first' durable' log c → IsImageOf recovers t first durable log' c
image_on {recovers} {t} {first} {first'} {durable} {durable'} {log} {log'} {c} e d g h = record {
  front = h.front;
  is_front = record { within = grows_then h.is_front.within g; whole = grows_then d h.is_front.whole };
  left = h.left;
  says = h.says;
  recovers = subst (λ (x : State). recovers c h.left (repeated t x h.front)) e h.recovers;
}

-- MOMENTS ONE AFTER ANOTHER
pub moments_then : {recovers : Recovering} {t : Table} (a b c : EngineView) {log log' : Steps} → b.first ≡ a.first → Grows a.durable b.durable → Grows log log' → Moments recovers t a b log → Moments recovers t b c log' → Moments recovers t a c log'
moments_then {recovers} {t} a b c {log} {log'} e d g m n =
    joined (weaker m (λ i h. image_on refl (grows_same a.durable) g h)) (weaker n (λ i h. image_on e d (grows_same log') h))

-- of no call, and of one that makes none of the disk
pub moments_same : {recovers : Recovering} {t : Table} (a : EngineView) → StandsNow recovers t a → Moments recovers t a a a.steps
moments_same {recovers} {t} a h = started a.disk (IsImageOf recovers t a.first a.durable a.steps) h

pub moments_stop : {recovers : Recovering} {t : Table} (a b c : EngineView) {log : Steps} → c.disk ≡ b.disk → Moments recovers t a b log → Moments recovers t a c log
moments_stop {recovers} {t} a b c {log} e m = subst (λ (v : disk.View). LeavesOnly a.disk v (IsImageOf recovers t a.first a.durable log)) (sym e) m
