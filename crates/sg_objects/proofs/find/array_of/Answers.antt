use Rattle.std.proofs.Common.{Result, subst}
use Rattle.sg_array.proofs.Links.{still_array}
use Rattle.sg_base.specs.declared.numbers.PageNo.{PageNo}
use Rattle.sg_catalog.specs.declared.row.ObjectKind.TheVariants as kinds
use Rattle.sg_model.specs.declared.reason.Reason.{Reason}
use Rattle.sg_objects.specs.Found.{IsLocated}
use Rattle.sg_objects.proofs.Located.{still_contents}
use Rattle.sg_objects.proofs.Checks.{array_there}
use Rattle.sg_objects.proofs.find.array_of.Goals as goal

pub size-requires : goal.size-requires
size-requires g c = λ told.
    let back = c.root_of.ensures.counts.told told in
    let shows = g.met.P.PageSpace.told_shows _ back in
    let h = c.requires back in
    let f = subst (λ (r : Result PageNo Reason). IsLocated kinds.Array c.args.name h.0 r) c.in-Ok.is (c.in_ok-reason.ensures.read shows h.0 h.1) in
    let a = array_there (still_contents c.in_ok-reason.ensures.kept shows h.1) f in
    (a.0, a.2, tt)

pub len-requires : goal.len-requires
len-requires g c = λ told.
    let mid = c.size.ensures.counts.told told in
    let back = c.root_of.ensures.counts.told mid in
    let shows = g.met.P.PageSpace.told_shows _ back in
    let h = c.requires back in
    let f = subst (λ (r : Result PageNo Reason). IsLocated kinds.Array c.args.name h.0 r) c.in-Ok.is (c.in_ok-reason.ensures.read shows h.0 h.1) in
    let a = array_there (still_contents c.in_ok-reason.ensures.kept shows h.1) f in
    (a.0, still_array c.in_ok-size-in-Ok.ensures.kept (g.met.P.PageSpace.told_shows _ mid) a.2, tt)

pub returns-in_ok-len-in-Ok-clause-read : goal.returns-in_ok-len-in-Ok-clause-read
returns-in_ok-len-in-Ok-clause-read g c = λ shows s h.
    let k1 = c.in_ok-reason.ensures.kept in
    let k2 = c.in_ok-size-in-Ok.ensures.kept in
    let f = subst (λ (r : Result PageNo Reason). IsLocated kinds.Array c.args.name s r) c.in-Ok.is (c.in_ok-reason.ensures.read shows s h) in
    let a = array_there (still_contents k1 shows h) f in
    let shows1 = k1.shows shows in
    record {
      at = f;
      array = a.0;
      body_is = a.1;
      size_is = c.in_ok-size-in-Ok.ensures.read shows1 a.0 a.2;
      len_is = c.in_ok-len-in-Ok.ensures.read (k2.shows shows1) a.0 (still_array k2 shows1 a.2);
    }

-- later
pub returns-in_err-size-in-Ok-clause-later : goal.returns-in_err-size-in-Ok-clause-later
returns-in_err-size-in-Ok-clause-later g c = λ t. let then = g.met.P.PageSpace.later_then t in then _ _ _ (c.root_of.ensures.later t) (c.size.ensures.later t)

pub returns-in_err-len-in-Ok-clause-later : goal.returns-in_err-len-in-Ok-clause-later
returns-in_err-len-in-Ok-clause-later g c = λ t. let then = g.met.P.PageSpace.later_then t in then _ _ _ (c.root_of.ensures.later t) (then _ _ _ (c.size.ensures.later t) (c.len.ensures.later t))

pub returns-in_ok-len-in-Ok-clause-later : goal.returns-in_ok-len-in-Ok-clause-later
returns-in_ok-len-in-Ok-clause-later g c = λ t. let then = g.met.P.PageSpace.later_then t in then _ _ _ (c.root_of.ensures.later t) (then _ _ _ (c.size.ensures.later t) (c.len.ensures.later t))
