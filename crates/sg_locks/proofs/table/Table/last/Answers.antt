use Rattle.std.proofs.Common.{sym, ap, ◌∙◌, map, arith}
use Rattle.std.proofs.lemmas.List.{length-map}
use Rattle.sg_locks.specs.declared.table.Chain.{Chain}
use Rattle.sg_locks.specs.Buckets.{resource_bucket, name_bucket}
use Rattle.sg_locks.specs.Chain.{is_on}
use Rattle.sg_locks.specs.Places.{last_place}
use Rattle.sg_locks.specs.Shown.{shown_hold}
use Rattle.sg_locks.proofs.OnChain.{last_on, every_last}
use Rattle.sg_locks.proofs.table.Table.last.Goals as goal

pub returns-in-Resource : goal.returns-in-Resource
returns-in-Resource c =
    let hs = map shown_hold c.args.self.now.holds.items in
    c.last.ensures ∙ (last_on (λ h. resource_bucket h.touch.what) c.in-Resource.bucket hs c.args.self.now.by_resource c.args.self.now.resources ∙ ap (λ (k : Chain). last_place (is_on k) hs) (sym c.in-Resource.is))

pub returns-in-Name : goal.returns-in-Name
returns-in-Name c =
    let hs = map shown_hold c.args.self.now.holds.items in
    c.last-in-Name.ensures ∙ (last_on (λ h. name_bucket h.touch.what) c.in-Name.bucket hs c.args.self.now.by_name c.args.self.now.names ∙ ap (λ (k : Chain). last_place (is_on k) hs) (sym c.in-Name.is))

pub returns-in-Every : goal.returns-in-Every
returns-in-Every c =
    let items = c.args.self.now.holds.items in let e = length-map items shown_hold in
    every_last (map shown_hold items) c.len.result c.checked_sub.result (omega (arith, e, c.len.ensures, c.args.self.now.holds.ok.0)) c.checked_sub.ensures
    ∙ ap (λ (k : Chain). last_place (is_on k) (map shown_hold items)) (sym c.in-Every.is)
