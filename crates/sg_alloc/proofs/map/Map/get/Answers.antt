use Rattle.std.proofs.Common.{◌≡◌, ◌≤◌, ◌<◌, List, Bool, length, slice_get, sym, ap, ◌∙◌, arith}
use Rattle.std.proofs.lemmas.Option.{slice_get_past}
use Rattle.sg_alloc.specs.Rows.{flags_of}
use Rattle.sg_alloc.proofs.Marks.{length-flags_of, get_is}
use Rattle.sg_alloc.proofs.map.Map.get.Goals as goal

pub returns-then-n-self : goal.returns-then-n-self
returns-then-n-self c =
    let past = c.if-n-self.true in
    sym (ap (λ (xs : List Bool). slice_get xs c.args.n) (sym c.self.view_is) ∙ slice_get_past (flags_of c.self.inside.rows c.self.inside.count) c.args.n (omega (arith, length-flags_of c.self.inside.rows c.self.inside.count)))

pub returns : goal.returns
returns c = get_is c.self.inside.rows c.self.inside.count c.args.n c.is_set.result c.if-n-self.false c.is_set.ensures ∙ ap (λ (xs : List Bool). slice_get xs c.args.n) c.self.view_is
