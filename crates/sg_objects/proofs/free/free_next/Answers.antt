use Rattle.std.proofs.Common.{◌∙◌, sym, arith}
use Rattle.sg_objects.proofs.Located.{still_contents}
use Rattle.sg_objects.proofs.Freeing.{was_buried, can_forget, body_kept, freed_done, freed_from}
use Rattle.sg_objects.proofs.free.free_next.Goals as goal

pub next_buried-requires : goal.next_buried-requires
next_buried-requires g c = λ told. let h = c.requires.can told in ((h.0).catalog, (h.1).catalog, tt)

pub forget-requires-clause-can : goal.forget-requires-clause-can
forget-requires-clause-can g c = λ told.
    let back = c.next_buried.ensures.counts.told told in
    let shows = g.met.P.PageSpace.told_shows _ back in
    let h = c.requires.can back in
    let w = was_buried c.args.by h.0 c.in-Some.entry (sym c.in-Some.is ∙ c.in_ok-sought.ensures.read shows (h.0).catalog (h.1).catalog) in
    ((h.0).catalog, (still_contents c.in_ok-sought.ensures.kept shows h.1).catalog, can_forget w)

pub free_body-requires : goal.free_body-requires
free_body-requires g c = λ told.
    let mid = c.forget.ensures.counts.told told in
    let back = c.next_buried.ensures.counts.told mid in
    let shows = g.met.P.PageSpace.told_shows _ back in
    let h = c.requires.can back in
    let w = was_buried c.args.by h.0 c.in-Some.entry (sym c.in-Some.is ∙ c.in_ok-sought.ensures.read shows (h.0).catalog (h.1).catalog) in
    let now = still_contents c.in_ok-sought.ensures.kept shows h.1 in
    let one = c.in_ok-forget.ensures.did.turns mid (h.0).catalog now.catalog (can_forget w) in
    (_, body_kept w now one.1 one.2)

pub returns-clause-did : goal.returns-clause-did
returns-clause-did g c =
    let k = c.in_ok-sought.ensures.kept in
    let forgot = c.in_ok-forget.ensures.did in
    let freed = c.in_ok-free_body.ensures.did in
    record {
      told = λ told. freed.told (forgot.told (k.keeps.told told));
      done = λ told s h.
          let shows = g.met.P.PageSpace.told_shows _ told in
          let mid = k.keeps.told told in
          let w = was_buried c.args.by s c.in-Some.entry (sym c.in-Some.is ∙ c.in_ok-sought.ensures.read shows s.catalog h.catalog) in
          let now = still_contents k shows h in
          let one = forgot.turns mid s.catalog now.catalog (can_forget w) in
          (_, freed_from k shows (freed_done w now one.1 one.2 (freed.gone (forgot.told mid) _ (body_kept w now one.1 one.2))));
    }

-- few records
pub returns-in_err-free_body-clause-few : goal.returns-in_err-free_body-clause-few
returns-in_err-free_body-clause-few g c = λ told.
    let mid = c.in_ok-forget.ensures.did.told (c.in_ok-sought.ensures.kept.keeps.told told) in
    let freed = c.free_body.ensures.few mid in
    let forgot = c.forget.ensures.few in
    let read = c.next_buried.ensures.writes.records in
    omega (arith, freed, forgot, read)

pub returns-clause-few : goal.returns-clause-few
returns-clause-few g c = λ told.
    let mid = c.in_ok-forget.ensures.did.told (c.in_ok-sought.ensures.kept.keeps.told told) in
    let freed = c.free_body.ensures.few mid in
    let forgot = c.forget.ensures.few in
    let read = c.next_buried.ensures.writes.records in
    omega (arith, freed, forgot, read)

pub returns-in_err-forget-clause-later : goal.returns-in_err-forget-clause-later
returns-in_err-forget-clause-later g c = g.met.P.PageSpace.later_then _ _ _ _ (c.next_buried.ensures.later _) c.forget.ensures.later

pub returns-in_err-free_body-clause-later : goal.returns-in_err-free_body-clause-later
returns-in_err-free_body-clause-later g c =
    let then = g.met.P.PageSpace.later_then _ in
    then _ _ _ (c.next_buried.ensures.later _) (then _ _ _ c.forget.ensures.later (c.free_body.ensures.later _))

pub returns-clause-later : goal.returns-clause-later
returns-clause-later g c =
    let then = g.met.P.PageSpace.later_then _ in
    then _ _ _ (c.next_buried.ensures.later _) (then _ _ _ c.forget.ensures.later (c.free_body.ensures.later _))
