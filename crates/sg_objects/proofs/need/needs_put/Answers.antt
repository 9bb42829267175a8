use Rattle.std.proofs.Common.{◌∙◌, sym, subst, Result, take}
use Rattle.sg_model.specs.declared.reason.Reason.{Reason}
use Rattle.sg_base.specs.declared.numbers.PageNo.{PageNo}
use Rattle.sg_objects.specs.Found.{PutChecked}
use Rattle.sg_objects.proofs.Applying.{checked_ok, checked_err}
use Rattle.sg_objects.proofs.Located.{still_contents}
use Rattle.sg_objects.proofs.Needing.{put_need, put_some, put_none}
use Rattle.sg_objects.proofs.Tables.{table_there}
use Rattle.sg_objects.proofs.need.needs_put.Goals as goal

pub returns-in-Err-clause-read : goal.returns-in-Err-clause-read
returns-in-Err-clause-read g c = λ shows s h. checked_err c.in-Err.reason (subst (λ (r : Result PageNo Reason). PutChecked c.args.name c.args.key.now c.args.value.now s r) c.in-Err.is (c.in_ok-reason.ensures.read shows s h))

pub find-requires-clause-there : goal.find-requires-clause-there
find-requires-clause-there g c = λ told.
    let back = c.check_put.ensures.counts.told told in
    let shows = g.met.P.PageSpace.told_shows _ back in
    let h = c.requires back in
    let f = subst (λ (r : Result PageNo Reason). PutChecked c.args.name c.args.key.now c.args.value.now h.0 r) c.in-Ok.is (c.in_ok-reason.ensures.read shows h.0 h.1) in
    let t = table_there (still_contents c.in_ok-reason.ensures.kept shows h.1) f.0 in
    (t.0, (t.2).table, tt)

pub returns-then-is_some-clause-read : goal.returns-then-is_some-clause-read
returns-then-is_some-clause-read g c = λ shows s h.
    let k = c.in_ok-reason.ensures.kept in
    let f = subst (λ (r : Result PageNo Reason). PutChecked c.args.name c.args.key.now c.args.value.now s r) c.in-Ok.is (c.in_ok-reason.ensures.read shows s h) in
    let t = table_there (still_contents k shows h) f.0 in
    let answer = c.in_ok-sought-in-Ok.ensures.read (k.shows shows) t.0 (t.2).table in
    checked_ok _ (put_need _ f.0 t.1 (f.1).0 (f.1).1 f.2 (c.of_kept.ensures ∙ sym (put_some c.in_ok-sought-in-Ok.sought (λ n. take n c.find.new.into) answer (sym c.is_some.ensures ∙ c.if-is_some.true))))

pub returns-else-is_some-clause-read : goal.returns-else-is_some-clause-read
returns-else-is_some-clause-read g c = λ shows s h.
    let k = c.in_ok-reason.ensures.kept in
    let f = subst (λ (r : Result PageNo Reason). PutChecked c.args.name c.args.key.now c.args.value.now s r) c.in-Ok.is (c.in_ok-reason.ensures.read shows s h) in
    let t = table_there (still_contents k shows h) f.0 in
    let answer = c.in_ok-sought-in-Ok.ensures.read (k.shows shows) t.0 (t.2).table in
    checked_ok _ (put_need _ f.0 t.1 (f.1).0 (f.1).1 f.2 (c.of_pages.ensures ∙ sym (put_none c.in_ok-sought-in-Ok.sought (λ n. take n c.find.new.into) answer (sym c.is_some.ensures ∙ c.if-is_some.false))))

-- later
pub returns-in_err-sought-in-Ok-clause-later : goal.returns-in_err-sought-in-Ok-clause-later
returns-in_err-sought-in-Ok-clause-later g c = λ t. g.met.P.PageSpace.later_then t _ _ _ (c.check_put.ensures.later t) (c.find.ensures.later t)

pub returns-then-is_some-clause-later : goal.returns-then-is_some-clause-later
returns-then-is_some-clause-later g c = λ t. g.met.P.PageSpace.later_then t _ _ _ (c.check_put.ensures.later t) (c.find.ensures.later t)

pub returns-else-is_some-clause-later : goal.returns-else-is_some-clause-later
returns-else-is_some-clause-later g c = λ t. g.met.P.PageSpace.later_then t _ _ _ (c.check_put.ensures.later t) (c.find.ensures.later t)
