use Rattle.std.proofs.Common.{rules, ◌≤◌, sym, ap, ◌∙◌, map, not, take, drop, length, arith, subst, List}
use Rattle.std.specs.Prelude.{◌==◌}
use Rattle.std.proofs.lemmas.Fn.{filter_same}
use Rattle.sg_locks.specs.declared.table.Hold as code
use Rattle.sg_locks.specs.Buckets.{resource_bucket, name_bucket}
use Rattle.sg_locks.specs.Places.{first_place}
use Rattle.sg_locks.specs.Shown.{shown_hold}
use Rattle.sg_locks.specs.Held.{AreCompatible}
use Rattle.sg_locks.proofs.Held.{compatible_released}
use Rattle.sg_serial.specs.Locks.{Hold, AreOnce}
use Rattle.sg_serial.proofs.Once.{once_released}
use Rattle.sg_model.specs.Touches.{Resource, same_resource}
use Rattle.sg_locks.proofs.Counting.{map_released}
use Rattle.sg_locks.proofs.Indexed.{front_buckets}
use Rattle.sg_locks.proofs.Places.{kept_front, front_left, all_kept}
use Rattle.sg_locks.proofs.OnChain.{front_length}
use Rattle.std.specs.List.{list_all}
use Rattle.sg_locks.proofs.table.Table.release.Goals as goal

pub returns : goal.returns
returns c = ap (map shown_hold) (filter_same _ (λ h. not (h.transaction.0 == c.args.t.0)) _ (λ x b f r. search rules) _ _ c.retain.ensures.filtered) ∙ map_released c.args.t.0 c.args.self.now.holds.items

pub returns-in_default : goal.returns-in_default
returns-in_default c =
    sym (all_kept (λ h. h.transaction == c.args.t.0) (map shown_hold c.args.self.now.holds.items) (ap (λ (hs : List code.Hold). first_place (λ h. h.transaction == c.args.t.0) (map shown_hold hs)) (sym c.as_slice.ensures.value) ∙ (sym c.first_hold.ensures ∙ c.in_default.is)))

pub returns-then-are_its : goal.returns-then-are_its
returns-then-are_its c =
    let items = c.args.self.now.holds.items in
    let p = λ (h : Hold Resource). h.transaction == c.args.t.0 in
    let placed = ap (λ (hs : List code.Hold). first_place p (map shown_hold hs)) (sym c.as_slice.ensures.value) ∙ (sym c.first_hold.ensures ∙ c.in-Some.is) in
    let all = ap (λ (hs : List code.Hold). list_all p (map shown_hold (drop c.in-Some.first hs))) (sym c.as_slice-2.ensures.value) ∙ (sym c.are_its.ensures ∙ c.if-are_its.true) in
    ap (map shown_hold) c.truncate-then-are_its.ensures.items ∙ front_left shown_hold p items c.in-Some.first placed all

pub invariant_of-self : goal.invariant_of-self
invariant_of-self c =
    let items = c.args.self.now.holds.items in
    let p = λ (h : Hold Resource). h.transaction == c.args.t.0 in
    let placed = ap (λ (hs : List code.Hold). first_place p (map shown_hold hs)) (sym c.as_slice.ensures.value) ∙ (sym c.first_hold.ensures ∙ c.in-Some.is) in
    let all = ap (λ (hs : List code.Hold). list_all p (map shown_hold (drop c.in-Some.first hs))) (sym c.as_slice-2.ensures.value) ∙ (sym c.are_its.ensures ∙ c.if-are_its.true) in
    let g = λ (h : Hold Resource). resource_bucket h.touch.what in
    let f = λ (h : Hold Resource). name_bucket h.touch.what in
    record {
      room = omega (arith, c.args.self.now.room, c.truncate-then-are_its.ensures.capacity);
      few = omega (arith, c.args.self.now.few, ap length c.truncate-then-are_its.ensures.items, front_length c.in-Some.first items);
      resources = c.truncate.ensures ∙ (ap (take c.in-Some.first) c.args.self.now.resources ∙ (front_buckets g items c.in-Some.first ∙ ap (λ (hs : List code.Hold). map g (map shown_hold hs)) (sym c.truncate-then-are_its.ensures.items)));
      names = c.truncate-2.ensures ∙ (ap (take c.in-Some.first) c.args.self.now.names ∙ (front_buckets f items c.in-Some.first ∙ ap (λ (hs : List code.Hold). map f (map shown_hold hs)) (sym c.truncate-then-are_its.ensures.items)));
      compatible =
          subst AreCompatible (sym (ap (map shown_hold) c.truncate-then-are_its.ensures.items ∙ front_left shown_hold p items c.in-Some.first placed all))
          (compatible_released c.args.t.0 (map shown_hold items) c.args.self.now.compatible);
      once =
          subst (AreOnce same_resource) (sym (ap (map shown_hold) c.truncate-then-are_its.ensures.items ∙ front_left shown_hold p items c.in-Some.first placed all))
          (once_released same_resource c.args.t.0 (map shown_hold items) c.args.self.now.once);
    }

pub link_from-requires-clause-within : goal.link_from-requires-clause-within
link_from-requires-clause-within c =
    let items = c.args.self.now.holds.items in
    let left = filter_same _ (λ h. not (h.transaction.0 == c.args.t.0)) _ (λ x b f r. search rules) _ _ c.retain.ensures.filtered in
    let placed = ap (λ (hs : List code.Hold). first_place (λ h. h.transaction == c.args.t.0) (map shown_hold hs)) (sym c.as_slice.ensures.value) ∙ (sym c.first_hold.ensures ∙ c.in-Some.is) in
    let front = kept_front shown_hold (λ h. h.transaction == c.args.t.0) items c.in-Some.first placed in
    subst (λ (hs : List code.Hold). c.in-Some.first ≤ length hs) (sym (c.as_slice-3.ensures.value ∙ left)) front.0

pub link_from-requires-clause-resources : goal.link_from-requires-clause-resources
link_from-requires-clause-resources c =
    let items = c.args.self.now.holds.items in
    let left = filter_same _ (λ h. not (h.transaction.0 == c.args.t.0)) _ (λ x b f r. search rules) _ _ c.retain.ensures.filtered in
    let placed = ap (λ (hs : List code.Hold). first_place (λ h. h.transaction == c.args.t.0) (map shown_hold hs)) (sym c.as_slice.ensures.value) ∙ (sym c.first_hold.ensures ∙ c.in-Some.is) in
    let front = kept_front shown_hold (λ h. h.transaction == c.args.t.0) items c.in-Some.first placed in
    let g = λ (h : Hold Resource). resource_bucket h.touch.what in
    c.truncate.ensures ∙ (ap (take c.in-Some.first) c.args.self.now.resources ∙ (front_buckets g items c.in-Some.first
    ∙ ap (λ (hs : List code.Hold). map g (map shown_hold hs)) (sym (ap (take c.in-Some.first) (c.as_slice-3.ensures.value ∙ left) ∙ front.1))))

pub link_from-requires-clause-names : goal.link_from-requires-clause-names
link_from-requires-clause-names c =
    let items = c.args.self.now.holds.items in
    let left = filter_same _ (λ h. not (h.transaction.0 == c.args.t.0)) _ (λ x b f r. search rules) _ _ c.retain.ensures.filtered in
    let placed = ap (λ (hs : List code.Hold). first_place (λ h. h.transaction == c.args.t.0) (map shown_hold hs)) (sym c.as_slice.ensures.value) ∙ (sym c.first_hold.ensures ∙ c.in-Some.is) in
    let front = kept_front shown_hold (λ h. h.transaction == c.args.t.0) items c.in-Some.first placed in
    let g = λ (h : Hold Resource). name_bucket h.touch.what in
    c.truncate-2.ensures ∙ (ap (take c.in-Some.first) c.args.self.now.names ∙ (front_buckets g items c.in-Some.first
    ∙ ap (λ (hs : List code.Hold). map g (map shown_hold hs)) (sym (ap (take c.in-Some.first) (c.as_slice-3.ensures.value ∙ left) ∙ front.1))))

pub invariant_of-self-2 : goal.invariant_of-self-2
invariant_of-self-2 c = record {
  room = omega (arith, c.args.self.now.room, c.retain.ensures.capacity);
  few = omega (arith, c.args.self.now.few, c.retain.ensures.bound, c.args.self.now.holds.ok.0, c.retain.new.self.ok.0);
  resources = c.link_from.ensures.resources ∙ ap (λ (hs : List code.Hold). map (λ (h : Hold Resource). resource_bucket h.touch.what) (map shown_hold hs)) c.as_slice-3.ensures.value;
  names = c.link_from.ensures.names ∙ ap (λ (hs : List code.Hold). map (λ (h : Hold Resource). name_bucket h.touch.what) (map shown_hold hs)) c.as_slice-3.ensures.value;
  compatible =
      subst AreCompatible (sym (ap (map shown_hold) (filter_same _ (λ h. not (h.transaction.0 == c.args.t.0)) _ (λ x b f r. search rules) _ _ c.retain.ensures.filtered) ∙ map_released c.args.t.0 c.args.self.now.holds.items))
      (compatible_released c.args.t.0 (map shown_hold c.args.self.now.holds.items) c.args.self.now.compatible);
  once =
      subst (AreOnce same_resource) (sym (ap (map shown_hold) (filter_same _ (λ h. not (h.transaction.0 == c.args.t.0)) _ (λ x b f r. search rules) _ _ c.retain.ensures.filtered) ∙ map_released c.args.t.0 c.args.self.now.holds.items))
      (once_released same_resource c.args.t.0 (map shown_hold c.args.self.now.holds.items) c.args.self.now.once);
}
