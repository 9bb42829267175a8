use Rattle.std.proofs.Common.{◌≡◌, ℕ, List, [], ◌∷◌, ◌++◌, map, Option, Some, None, sym, ap, ◌∙◌}
use Rattle.std.specs.FinMap.{get}
use Rattle.sg_serial.specs.Locks.{Touch}
use Rattle.sg_model.specs.Objects.{Object}
use Rattle.sg_model.specs.Resources.{shown_touch}
use Rattle.sg_model.specs.SaidOps.{verb_of, name_of}
use Rattle.sg_model.specs.TouchList.{shown_touches}
use Rattle.sg_model.specs.Touches.{Resource, touch_of, to_read, further}
use Rattle.sg_model.specs.Touches.Part.{Kind}
use Rattle.sg_model.specs.Touches.Region.{Just}
use Rattle.sg_plain.specs.Shown.{shown}
use Rattle.sg_plain.proofs.objects.Objects.reach_in.Goals as goal

pub returns-in-None : goal.returns-in-None
returns-in-None c =
    let none : get c.args.self.now c.args.name.now ≡ None = sym c.in-None.ensures in
    let first : shown_touches c.push.new.self ≡ touch_of (name_of c.args.op.now) (to_read (Just Kind)) ∷ [] =
    c.push.ensures ∙ (ap (λ (ts : List (Touch Resource)). ts ++ shown_touch c.only_read.result ∷ []) c.clear.ensures
    ∙ ap (λ (a : Touch Resource). a ∷ []) (c.only_read.ensures ∙ ap (λ (n : List ℕ). touch_of n (to_read (Just Kind))) c.requires.named)) in
    first ∙ ap (λ (o : Option Object). touch_of (name_of c.args.op.now) (to_read (Just Kind)) ∷ map (touch_of (name_of c.args.op.now)) (further (verb_of c.args.op.now) o)) (sym none)

pub returns-in-Some : goal.returns-in-Some
returns-in-Some c =
    let there : get c.args.self.now c.args.name.now ≡ Some (shown c.in-Some.object.now) = sym c.in-Some.ensures in
    let first : shown_touches c.push.new.self ≡ touch_of (name_of c.args.op.now) (to_read (Just Kind)) ∷ [] =
    c.push.ensures ∙ (ap (λ (ts : List (Touch Resource)). ts ++ shown_touch c.only_read.result ∷ []) c.clear.ensures
    ∙ ap (λ (a : Touch Resource). a ∷ []) (c.only_read.ensures ∙ ap (λ (n : List ℕ). touch_of n (to_read (Just Kind))) c.requires.named)) in
    c.reach.ensures ∙ (ap (λ (ts : List (Touch Resource)). ts ++ map (touch_of (name_of c.args.op.now)) (further (verb_of c.args.op.now) (Some (shown c.in-Some.object.now)))) first
    ∙ ap (λ (o : Option Object). touch_of (name_of c.args.op.now) (to_read (Just Kind)) ∷ map (touch_of (name_of c.args.op.now)) (further (verb_of c.args.op.now) o)) (sym there))
