use Rattle.std.proofs.Common.{ap, ◌∙◌, map, refl, inl, inr}
use Rattle.std.specs.Prelude.{◌==◌, ◌&&◌}
use Rattle.sg_model.specs.Resources.{shown_resource, shown_touch}
use Rattle.sg_model.specs.Touches.Part.{Length, Item, Body}
use Rattle.sg_locks.specs.Buckets.{resource_bucket, name_bucket}
use Rattle.sg_locks.specs.Places.{blocks, lesser_of, least_of}
use Rattle.sg_locks.specs.Shown.{shown_hold}
use Rattle.sg_locks.proofs.Covering.{one_walk, two_walks, three_walks, part_found, kind_found, key_found, keys_found, whole_found}
use Rattle.sg_locks.proofs.table.Table.least_in_way.Goals as goal

pub returns-in-Keys : goal.returns-in-Keys
returns-in-Keys c =
    let w = blocks c.args.t.0 (shown_touch c.args.touch.now) in
    let hs = map shown_hold c.args.self.now.holds.items in
    let is = ap shown_resource c.in-Keys.is in
    let of = c.requires.0 ∙ ap name_bucket is in
    c.least_under.ensures
    ∙ one_walk w hs c.args.least (λ h. name_bucket h.touch.what == c.args.buckets.name) (λ h e. keys_found c.args.t.0 (shown_touch c.args.touch.now) c.in-Keys.field-0 c.args.buckets.name of h e is)

pub returns-in-AllOf : goal.returns-in-AllOf
returns-in-AllOf c =
    let w = blocks c.args.t.0 (shown_touch c.args.touch.now) in
    let hs = map shown_hold c.args.self.now.holds.items in
    let is = ap shown_resource c.in-AllOf.is in
    let of = c.requires.0 ∙ ap name_bucket is in
    c.least_at.ensures
    ∙ (ap (λ r. lesser_of r (least_of (λ h. (resource_bucket h.touch.what == 0) && w h) hs)) c.least_under-least.ensures
    ∙ two_walks w hs c.args.least (λ h. name_bucket h.touch.what == c.args.buckets.name) (λ h. resource_bucket h.touch.what == 0)
    (λ h e. whole_found c.args.t.0 (shown_touch c.args.touch.now) c.in-AllOf.field-0 c.args.buckets.name of h e is))

pub returns-in-Len : goal.returns-in-Len
returns-in-Len c =
    let w = blocks c.args.t.0 (shown_touch c.args.touch.now) in
    let hs = map shown_hold c.args.self.now.holds.items in
    let a = shown_touch c.args.touch.now in
    let name = c.args.buckets.name in
    let own = c.args.buckets.resource in
    let whole = c.whole_bucket-in-Len.result in
    c.least_at-in-Len.ensures
    ∙ (ap (λ r. lesser_of r (least_of (λ h. (resource_bucket h.touch.what == whole) && w h) hs)) c.least_at-least-in-Len.ensures
    ∙ two_walks w hs c.args.least (λ h. resource_bucket h.touch.what == own) (λ h. resource_bucket h.touch.what == whole)
    (λ h e. elim c.in-Len.is [
      | inl len ↦ part_found c.args.t.0 a len.0 name own whole (c.requires.0 ∙ ap (λ r. name_bucket (shown_resource r)) len.1) c.requires.1 c.whole_bucket-in-Len.ensures.value h e Length (ap shown_resource len.1) refl refl
      | inr rest ↦ elim rest [
        | inl item ↦ part_found c.args.t.0 a item.0 name own whole (c.requires.0 ∙ ap (λ r. name_bucket (shown_resource r)) item.2) c.requires.1 c.whole_bucket-in-Len.ensures.value h e (Item item.1) (ap shown_resource item.2) refl refl
        | inr body ↦ part_found c.args.t.0 a body.0 name own whole (c.requires.0 ∙ ap (λ r. name_bucket (shown_resource r)) body.1) c.requires.1 c.whole_bucket-in-Len.ensures.value h e Body (ap shown_resource body.1) refl refl
      ]
    ]))

pub returns-in-Key : goal.returns-in-Key
returns-in-Key c =
    let w = blocks c.args.t.0 (shown_touch c.args.touch.now) in
    let hs = map shown_hold c.args.self.now.holds.items in
    let own = c.args.buckets.resource in
    let whole = c.whole_bucket-in-Key.result in
    let keys = c.keys_bucket.result in
    let is = ap shown_resource c.in-Key.is in
    c.least_at-in-Key.ensures
    ∙ (ap (λ r. lesser_of r (least_of (λ h. (resource_bucket h.touch.what == keys) && w h) hs))
    (c.least_at-least-in-Key-2.ensures ∙ ap (λ r. lesser_of r (least_of (λ h. (resource_bucket h.touch.what == whole) && w h) hs)) c.least_at-least-in-Key.ensures)
    ∙ three_walks w hs c.args.least (λ h. resource_bucket h.touch.what == own) (λ h. resource_bucket h.touch.what == whole) (λ h. resource_bucket h.touch.what == keys)
    (λ h e. key_found c.args.t.0 (shown_touch c.args.touch.now) c.in-Key.field-0 c.args.buckets.name own whole (c.requires.0 ∙ ap name_bucket is) c.requires.1 c.whole_bucket-in-Key.ensures.value h e keys c.keys_bucket.ensures.value c.in-Key.field-1 is))

pub returns-in-Name : goal.returns-in-Name
returns-in-Name c =
    let w = blocks c.args.t.0 (shown_touch c.args.touch.now) in
    let hs = map shown_hold c.args.self.now.holds.items in
    let own = c.args.buckets.resource in
    let whole = c.whole_bucket.result in
    let is = ap shown_resource c.in-Name.is in
    c.least_at-in-Name.ensures
    ∙ (ap (λ r. lesser_of r (least_of (λ h. (resource_bucket h.touch.what == 0) && w h) hs))
    (c.least_at-least-in-Name.ensures ∙ ap (λ r. lesser_of r (least_of (λ h. (resource_bucket h.touch.what == whole) && w h) hs)) c.least_at-least.ensures)
    ∙ three_walks w hs c.args.least (λ h. resource_bucket h.touch.what == own) (λ h. resource_bucket h.touch.what == whole) (λ h. resource_bucket h.touch.what == 0)
    (λ h e. kind_found c.args.t.0 (shown_touch c.args.touch.now) c.in-Name.field-0 c.args.buckets.name own whole (c.requires.0 ∙ ap name_bucket is) c.requires.1 c.whole_bucket.ensures.value h e is))
