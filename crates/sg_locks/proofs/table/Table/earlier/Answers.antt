use Rattle.std.proofs.Common.{sym, ap, ◌∙◌, map, take, get_or, arith}
use Rattle.std.proofs.lemmas.List.{length-map, length-take-le}
use Rattle.sg_locks.specs.declared.table.Chain.{Chain}
use Rattle.sg_locks.specs.Buckets.{resource_bucket, name_bucket}
use Rattle.sg_locks.specs.Chain.{is_on}
use Rattle.sg_locks.specs.Places.{last_place}
use Rattle.sg_locks.specs.Shown.{shown_hold}
use Rattle.sg_locks.proofs.OnChain.{earlier_on, every_last}
use Rattle.sg_locks.proofs.table.Table.earlier.Goals as goal

pub returns-in-Resource : goal.returns-in-Resource
returns-in-Resource c =
    let items = c.args.self.now.holds.items in
    c.earlier.ensures
    ∙ (earlier_on (λ h. resource_bucket h.touch.what) shown_hold items c.args.self.now.by_resource c.args.at c.in-Resource.field-0 c.requires.within c.args.self.now.resources
    (λ h. sym (ap (λ (k : Chain). is_on k (shown_hold (get_or items c.args.at h))) c.in-Resource.is) ∙ c.requires.on h)
    ∙ ap (λ (k : Chain). last_place (is_on k) (map shown_hold (take c.args.at items))) (sym c.in-Resource.is))

pub returns-in-Name : goal.returns-in-Name
returns-in-Name c =
    let items = c.args.self.now.holds.items in
    c.earlier-in-Name.ensures
    ∙ (earlier_on (λ h. name_bucket h.touch.what) shown_hold items c.args.self.now.by_name c.args.at c.in-Name.field-0 c.requires.within c.args.self.now.names
    (λ h. sym (ap (λ (k : Chain). is_on k (shown_hold (get_or items c.args.at h))) c.in-Name.is) ∙ c.requires.on h)
    ∙ ap (λ (k : Chain). last_place (is_on k) (map shown_hold (take c.args.at items))) (sym c.in-Name.is))

pub returns-in-Every : goal.returns-in-Every
returns-in-Every c =
    let items = c.args.self.now.holds.items in
    let front = take c.args.at items in
    let e = length-map front shown_hold in let f = length-take-le c.args.at items (omega (arith, c.requires.within)) in
    every_last (map shown_hold front) c.args.at c.checked_sub.result (omega (arith, e, f)) c.checked_sub.ensures
    ∙ ap (λ (k : Chain). last_place (is_on k) (map shown_hold front)) (sym c.in-Every.is)
