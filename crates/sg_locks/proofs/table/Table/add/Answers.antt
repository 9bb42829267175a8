use Rattle.std.proofs.Common.{sym, ap, ◌∙◌, [], ◌∷◌, ◌++◌, map, length, length-append, arith, List, ℕ, subst}
use Rattle.std.proofs.lemmas.List.{map-append}
use Rattle.sg_model.specs.Resources.{shown_touch}
use Rattle.sg_locks.specs.declared.table.Hold as code
use Rattle.sg_locks.specs.Buckets.{resource_bucket, name_bucket}
use Rattle.sg_locks.specs.Held.{AreCompatible}
use Rattle.sg_locks.specs.Shown.{shown_hold}
use Rattle.sg_locks.proofs.Held.{compatible_kept}
use Rattle.sg_serial.specs.Locks.{AreOnce}
use Rattle.sg_serial.proofs.Once.{once_all}
use Rattle.sg_model.specs.Touches.{same_resource}
use Rattle.sg_model.proofs.Meeting.{resource_same, resource_self}
use Rattle.sg_locks.proofs.Indexed.{more_buckets}
use Rattle.sg_locks.proofs.Places.{hold_last}
use Rattle.sg_locks.proofs.table.Table.add.Goals as goal

pub returns : goal.returns
returns c =
    let items = c.args.self.now.holds.items in
    let hold : code.Hold = record { transaction = c.args.t; touch = c.args.touch.now } in
    let pushed = c.push_hold.ensures.items in
    ap (map shown_hold) pushed
    ∙ (map-append shown_hold items (hold ∷ []) ∙ hold_last c.args.t.0 (shown_touch c.args.touch.now) (map shown_hold items) c.requires.place)

pub invariant_of-self : goal.invariant_of-self
invariant_of-self c =
    let items = c.args.self.now.holds.items in
    let hs = map shown_hold items in
    let hold : code.Hold = record { transaction = c.args.t; touch = c.args.touch.now } in
    let pushed = c.push_hold.ensures.items in
    let held = ap (map shown_hold) pushed ∙ (map-append shown_hold items (hold ∷ []) ∙ hold_last c.args.t.0 (shown_touch c.args.touch.now) hs c.requires.place) in
    record {
      room = omega (arith, c.args.self.now.room, c.push_hold.ensures.capacity);
      few = omega (arith, c.requires.room, ap length pushed, length-append {A = code.Hold});
      resources =
          c.add_links.ensures.resources ∙ (ap (λ (bs : List ℕ). bs ++ c.args.buckets.resource ∷ []) c.args.self.now.resources ∙ (ap (λ n. map (λ h. resource_bucket h.touch.what) hs ++ n ∷ []) c.requires.buckets.1
          ∙ (sym (more_buckets (λ h. resource_bucket h.touch.what) items hold) ∙ ap (λ xs. map (λ h. resource_bucket h.touch.what) (map shown_hold xs)) (sym pushed))));
      names =
          c.add_links.ensures.names ∙ (ap (λ (bs : List ℕ). bs ++ c.args.buckets.name ∷ []) c.args.self.now.names ∙ (ap (λ n. map (λ h. name_bucket h.touch.what) hs ++ n ∷ []) c.requires.buckets.0
          ∙ (sym (more_buckets (λ h. name_bucket h.touch.what) items hold) ∙ ap (λ xs. map (λ h. name_bucket h.touch.what) (map shown_hold xs)) (sym pushed))));
      compatible = subst AreCompatible (sym held) (compatible_kept c.args.t.0 (shown_touch c.args.touch.now) hs c.args.self.now.compatible c.requires.clear);
      once = subst (AreOnce same_resource) (sym held) (once_all same_resource resource_same resource_self c.args.t.0 (shown_touch c.args.touch.now ∷ []) hs c.args.self.now.once);
    }
