use Rattle.std.proofs.Common.{◌∙◌, Result, subst}
use Rattle.sg_base.specs.declared.numbers.PageNo.{PageNo}
use Rattle.sg_catalog.specs.declared.row.ObjectKind.TheVariants as kinds
use Rattle.sg_model.specs.declared.reason.Reason.{Reason}
use Rattle.sg_hash.proofs.Onces.{once}
use Rattle.sg_objects.specs.Found.{IsLocated}
use Rattle.sg_objects.proofs.Listing.{table_keys, keys_said, keys_reply, keys_refused, handed_on}
use Rattle.sg_space.proofs.Known.{reads_then}
use Rattle.sg_objects.proofs.Located.{still_contents}
use Rattle.sg_objects.proofs.Tables.{table_there}
use Rattle.sg_objects.proofs.words.keys.Goals as goal

pub returns-in-Err-clause-read : goal.returns-in-Err-clause-read
returns-in-Err-clause-read g c = λ shows s h t.
    keys_refused t c.args.name c.in-Err.reason h (subst (λ (r : Result PageNo Reason). IsLocated kinds.Table c.args.name s r) c.in-Err.is (c.in_ok-reason.ensures.read shows s h))

pub keys-requires : goal.keys-requires
keys-requires g c = λ told.
    let back = c.root_of.ensures.counts.told told in
    let shows = g.met.P.PageSpace.told_shows _ back in
    let h = c.requires back in
    let f = subst (λ (r : Result PageNo Reason). IsLocated kinds.Table c.args.name h.0 r) c.in-Ok.is (c.in_ok-reason.ensures.read shows h.0 h.1) in
    let t = table_there (still_contents c.in_ok-reason.ensures.kept shows h.1) f in
    (t.0, (t.2).table, tt)

pub returns-in_ok-all-in-Ok-clause-read : goal.returns-in_ok-all-in-Ok-clause-read
returns-in_ok-all-in-Ok-clause-read g c = λ shows s h t.
    let k = c.in_ok-reason.ensures.kept in
    let f = subst (λ (r : Result PageNo Reason). IsLocated kinds.Table c.args.name s r) c.in-Ok.is (c.in_ok-reason.ensures.read shows s h) in
    let a = table_there (still_contents k shows h) f in
    keys_said t _ f a.1 (table_keys a.0 _ (once (a.2).table) (c.in_ok-all-in-Ok.ensures.read (k.shows shows) a.0 (a.2).table) c.in_ok-all-in-Ok.ensures.order)

-- later
pub returns-in_err-all-in-Ok-clause-later : goal.returns-in_err-all-in-Ok-clause-later
returns-in_err-all-in-Ok-clause-later g c = λ t. let then = g.met.P.PageSpace.later_then t in then _ _ _ (c.root_of.ensures.later t) (c.keys.ensures.later t)

pub returns-in_ok-all-in-Ok-clause-later : goal.returns-in_ok-all-in-Ok-clause-later
returns-in_ok-all-in-Ok-clause-later g c = λ t. let then = g.met.P.PageSpace.later_then t in then _ _ _ (c.root_of.ensures.later t) (c.keys.ensures.later t)

-- where memory is refused
pub returns-in_err-all-in-Ok-clause-memory : goal.returns-in_err-all-in-Ok-clause-memory
returns-in_err-all-in-Ok-clause-memory g c = handed_on c.from_residual-in_err-all-in-Ok.result c.in_err-all-in-Ok.field-0.0 _ c.from_residual-in_err-all-in-Ok.ensures.1
    (λ e. reads_then c.in_ok-reason.ensures.kept (c.in_err-all-in-Ok.ensures.memory e))

pub returns-in_err-all-in-Ok-clause-lacks : goal.returns-in_err-all-in-Ok-clause-lacks
returns-in_err-all-in-Ok-clause-lacks g c = handed_on c.from_residual-in_err-all-in-Ok.result c.in_err-all-in-Ok.field-0.0 _ c.from_residual-in_err-all-in-Ok.ensures.1
    (λ e shows s h t.
    let k = c.in_ok-reason.ensures.kept in
    let f = subst (λ (r : Result PageNo Reason). IsLocated kinds.Table c.args.name s r) c.in-Ok.is (c.in_ok-reason.ensures.read shows s h) in
    keys_reply t f (table_there (still_contents k shows h) f).1)

pub returns-in_err-all-in-Ok-clause-quiet : goal.returns-in_err-all-in-Ok-clause-quiet
returns-in_err-all-in-Ok-clause-quiet g c = handed_on c.from_residual-in_err-all-in-Ok.result c.in_err-all-in-Ok.field-0.0 _ c.from_residual-in_err-all-in-Ok.ensures.1
    (λ e. c.in_err-all-in-Ok.ensures.quiet e ∙ c.in_ok-reason.ensures.counts.quiet)
