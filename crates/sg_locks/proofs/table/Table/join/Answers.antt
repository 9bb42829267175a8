use Rattle.std.proofs.Common.{◌≡◌, [], ◌∷◌, arith, sym, ap, ◌∙◌, map, set, get_or, length, subst, ◌<◌}
use Rattle.std.proofs.lemmas.List.{map-set, length-map, length-set, get_or-map}
use Rattle.sg_serial.specs.Locks.{Hold, is_pair, AreOnce}
use Rattle.sg_model.specs.Touches.{Resource, same_resource}
use Rattle.sg_model.specs.Resources.{shown_touch}
use Rattle.sg_locks.specs.Buckets.{resource_bucket, name_bucket}
use Rattle.sg_locks.specs.Held.{AreCompatible}
use Rattle.sg_locks.specs.Places.{joined}
use Rattle.sg_locks.specs.Shown.{shown_hold}
use Rattle.sg_locks.proofs.Held.{compatible_kept}
use Rattle.sg_serial.proofs.Once.{once_all}
use Rattle.sg_model.proofs.Meeting.{resource_same, resource_self}
use Rattle.sg_locks.proofs.Indexed.{same_buckets}
use Rattle.sg_locks.proofs.Places.{place_within, hold_at}
use Rattle.sg_locks.proofs.table.Table.join.Goals as goal

pub index-requires : goal.index-requires
index-requires c =
    let there = place_within (is_pair same_resource c.args.t.0 (shown_touch c.args.touch.now).what) (map shown_hold c.args.self.now.holds.items) c.args.at c.requires.place in
    omega (arith, there, length-map c.args.self.now.holds.items shown_hold, c.args.self.now.holds.ok.0)

pub index_mut-requires : goal.index_mut-requires
index_mut-requires c =
    let there = place_within (is_pair same_resource c.args.t.0 (shown_touch c.args.touch.now).what) (map shown_hold c.args.self.now.holds.items) c.args.at c.requires.place in
    omega (arith, there, length-map c.args.self.now.holds.items shown_hold, c.args.self.now.holds.ok.0)

pub returns : goal.returns
returns c =
    let items = c.args.self.now.holds.items in
    let hs = map shown_hold items in
    let held = c.index.result.now in
    let there = place_within (is_pair same_resource c.args.t.0 (shown_touch c.args.touch.now).what) hs c.args.at c.requires.place in
    let within : c.args.at < length items = omega (arith, there, length-map items shown_hold) in
    let same : shown_hold held ≡ get_or hs c.args.at (shown_hold held) = ap shown_hold c.index.ensures ∙ sym (get_or-map shown_hold items c.args.at held (shown_hold held) within) in
    map-set shown_hold items c.args.at c.joined-held.result
    ∙ (ap (set hs c.args.at) (c.joined-held.ensures ∙ ap (λ h. joined h (shown_touch c.args.touch.now)) same)
    ∙ hold_at c.args.t.0 (shown_touch c.args.touch.now) hs c.args.at (shown_hold held) c.requires.place)

pub invariant_of-self : goal.invariant_of-self
invariant_of-self c =
    let items = c.args.self.now.holds.items in
    let hs = map shown_hold items in
    let held = c.joined-held.result in
    let there = place_within (is_pair same_resource c.args.t.0 (shown_touch c.args.touch.now).what) hs c.args.at c.requires.place in
    let within : c.args.at < length items = omega (arith, there, length-map items shown_hold) in
    let by_resource = λ (h : Hold Resource). resource_bucket h.touch.what in
    let by_name = λ (h : Hold Resource). name_bucket h.touch.what in
    let same : shown_hold c.index.result.now ≡ get_or hs c.args.at (shown_hold c.index.result.now) = ap shown_hold c.index.ensures ∙ sym (get_or-map shown_hold items c.args.at c.index.result.now (shown_hold c.index.result.now) within) in
    let now = map-set shown_hold items c.args.at held ∙ (ap (set hs c.args.at) (c.joined-held.ensures ∙ ap (λ h. joined h (shown_touch c.args.touch.now)) same) ∙ hold_at c.args.t.0 (shown_touch c.args.touch.now) hs c.args.at (shown_hold c.index.result.now) c.requires.place) in
    record {
      room = c.args.self.now.room;
      few = omega (arith, c.args.self.now.few, length-set items c.args.at held);
      resources = c.args.self.now.resources ∙ sym (same_buckets by_resource items c.args.at c.index.result.now held within c.index.ensures (ap by_resource c.joined-held.ensures));
      names = c.args.self.now.names ∙ sym (same_buckets by_name items c.args.at c.index.result.now held within c.index.ensures (ap by_name c.joined-held.ensures));
      compatible = subst AreCompatible (sym now) (compatible_kept c.args.t.0 (shown_touch c.args.touch.now) hs c.args.self.now.compatible c.requires.clear);
      once = subst (AreOnce same_resource) (sym now) (once_all same_resource resource_same resource_self c.args.t.0 (shown_touch c.args.touch.now ∷ []) hs c.args.self.now.once);
    }
