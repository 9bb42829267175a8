use mathlib.Core.Logic.{∥∥₁_elim, ∥∥₁_prop}
use Rattle.std.proofs.Common.{false, refl, sym, ap, subst, ◌∙◌, length, Option}
use Rattle.sg_alloc.specs.Flags.{map_bands_of}
use Rattle.sg_alloc.specs.declared.maps.Maps.{Maps}
use Rattle.std.proofs.lemmas.Result.{err_from_is_err_and}
use Rattle.sg_actions.specs.Engine.{EngineView, led}
use Rattle.sg_actions.specs.PuttingBack.{UndoBegun, PutAll}
use Rattle.sg_actions.specs.Undoing.{is_of_bytes}
use Rattle.sg_actions.specs.Later.{acts_at}
use Rattle.sg_actions.specs.Onward.{later_same}
use Rattle.sg_actions.proofs.PuttingBack.{acts_at as acting_at, all_at, can_put, begun_those, begun_no, found_is, run_by, run_then, run_ok, run_err, err_is, counts_from, counts_at, undone_none, undone_run, can_act, actable_at}
use Rattle.sg_actions.proofs.Sets.{steps_set}
use Rattle.sg_actions.proofs.Wanted.{way_is_own}
use Rattle.std.proofs.Props.{props}
use Rattle.sg_actions.proofs.GoingOn.{chain_look}
use Rattle.sg_actions.specs.declared.undo.Found.{Found}
use Rattle.sg_actions.proofs.acts.Acts.undo_step.Goals as goal

pub act-requires-clause-can : goal.act-requires-clause-can
act-requires-clause-can g c = λ told1.
    let k = c.in_ok-found.ensures in
    let told = k.counts.told told1 in
    let steps = ∥∥₁_elim (g.met.E.Engine.some c.args.self.now.engine told) (steps_set (g.E.Engine.view c.find_note.new.self.engine).steps (g.E.Engine.view c.args.self.now.engine).steps) (λ x. ((k.stays x.0 x.1 x.2).stays told).steps) in
    actable_at steps k.unfreed k.rows k.actor (can_act (c.requires told))

pub put_back-requires-clause-can : goal.put_back-requires-clause-can
put_back-requires-clause-can g c = λ told2.
    let k = c.in_ok-found.ensures in
    let told = k.counts.told (subst (λ y. (g.E.Engine.view y).Told) c.act.ensures.engine told2) in
    ∥∥₁_elim (g.met.E.Engine.some c.args.self.now.engine told) ∥∥₁_prop (λ x. ∣ can_put {t = x.0} {limits = (λ y n. 0)} {e = (led x.1 (g.E.Engine.view c.args.self.now.engine))} {e1 = (led x.1 (g.E.Engine.view c.find_note.new.self.engine))} {maps = c.args.self.now.maps} {actor = c.args.self.now.actor} {txn = c.args.txn.0} {stop = c.args.stop} {note = c.find_note.new.into} {f = c.in-Some.found}
    (ap (λ y. led x.1 (g.E.Engine.view y)) c.act.ensures.engine) (c.act.ensures.rows ∙ k.rows) c.requires (found_is (led x.1 (g.E.Engine.view c.args.self.now.engine)) c.in-Some.is (k.finds x.0 x.1 x.2)) (k.stays x.0 x.1 x.2) k.counts.told (acting_at k.maps k.rows k.actor (c.act.ensures.acts (λ y n. 0) x.0 x.1 (k.means x.0 x.1 x.2))) told2 ∣₁)

pub put_back-requires-clause-own : goal.put_back-requires-clause-own
put_back-requires-clause-own g c = λ told2.
    let k = c.in_ok-found.ensures in
    let told1 = subst (λ y. (g.E.Engine.view y).Told) c.act.ensures.engine told2 in
    let told = k.counts.told told1 in
    ∥∥₁_elim (g.met.E.Engine.some c.args.self.now.engine told) (hlevel props) (λ x.
    way_is_own c.act.new.self.actor (c.requires told) (found_is (led x.1 (g.E.Engine.view c.args.self.now.engine)) c.in-Some.is (k.finds x.0 x.1 x.2) told) ((c.act.ensures.acts (λ y n. 0) x.0 x.1 (k.means x.0 x.1 x.2)).is told1))

pub returns-in_err-put_back-clause-counts : goal.returns-in_err-put_back-clause-counts
returns-in_err-put_back-clause-counts g c =
    let k = c.in_ok-found.ensures in
    let p = err_from_is_err_and c.from_residual-in_err-put_back.result c.from_residual-in_err-put_back.ensures.1 in
    let from = counts_from (ap g.E.Engine.view c.act.ensures.engine) c.act.ensures.breaks c.in_err-put_back.ensures.counts in
    err_is {T = Unit {0}} c.from_residual-in_err-put_back.result c.in_err-put_back.field-0.0 p.0 p.1 p.2 (run_err (run_by k.counts) from)

pub returns-in_ok-put_back-clause-counts : goal.returns-in_ok-put_back-clause-counts
returns-in_ok-put_back-clause-counts g c = run_ok _ (run_then (run_by c.in_ok-found.ensures.counts) (run_by (counts_from (ap g.E.Engine.view c.act.ensures.engine) c.act.ensures.breaks c.in_ok-put_back.ensures.counts)))

pub returns-else-is_of_bytes-clause-counts : goal.returns-else-is_of_bytes-clause-counts
returns-else-is_of_bytes-clause-counts g c = counts_at (ap g.E.Engine.view c.act.ensures.engine) c.act.ensures.breaks (run_ok _ (run_by c.in_ok-found.ensures.counts))

pub returns-in_ok-put_back-clause-did : goal.returns-in_ok-put_back-clause-did
returns-in_ok-put_back-clause-did g c = λ t from m.
    let rows = c.in_ok-put_back.ensures.rows ∙ (c.act.ensures.rows ∙ c.in_ok-found.ensures.rows) in
    let all = all_at (ap (λ y. led from (g.E.Engine.view y)) c.act.ensures.engine) (c.act.ensures.rows ∙ c.in_ok-found.ensures.rows) (subst (λ (n : Maps). PutAll (map_bands_of (length n.pages) (length n.bands)) t (led from (g.E.Engine.view c.act.new.self.engine)) (led from (g.E.Engine.view c.put_back.new.self.engine)) c.act.new.self.rows.items c.act.new.self.actor c.put_back.new.self.actor c.in-Some.found.undo_next c.in-Some.found.prev) (c.act.ensures.maps ∙ c.in_ok-found.ensures.maps) (c.in_ok-put_back.ensures.did t from (subst (λ y. g.E.Engine.means y t from) (sym c.act.ensures.engine) (c.in_ok-found.ensures.means t from m)))) in
    begun_those (map_bands_of (length c.args.self.now.maps.pages) (length c.args.self.now.maps.bands)) t (λ y n. 0) (led from (g.E.Engine.view c.args.self.now.engine)) (led from (g.E.Engine.view c.find_note.new.self.engine)) (led from (g.E.Engine.view c.put_back.new.self.engine)) c.args.self.now.maps c.args.self.now.unfreed c.args.self.now.rows.items c.args.self.now.actor c.act.new.self.actor c.put_back.new.self.actor
    c.args.txn.0 c.args.stop c.find_note.new.into c.in-Some.found c.requires (found_is (led from (g.E.Engine.view c.args.self.now.engine)) c.in-Some.is (c.in_ok-found.ensures.finds t from m)) (c.in_ok-found.ensures.stays t from m) c.in_ok-found.ensures.counts.told (acting_at c.in_ok-found.ensures.maps c.in_ok-found.ensures.rows c.in_ok-found.ensures.actor (c.act.ensures.acts (λ y n. 0) t from (c.in_ok-found.ensures.means t from m)))
    (ap is_of_bytes (sym c.bytes.ensures) ∙ (sym c.is_of_bytes.ensures ∙ c.if-is_of_bytes.true)) all

pub returns-else-is_of_bytes-clause-did : goal.returns-else-is_of_bytes-clause-did
returns-else-is_of_bytes-clause-did g c = λ t from m.
    let begun = begun_no (map_bands_of (length c.args.self.now.maps.pages) (length c.args.self.now.maps.bands)) t (λ y n. 0) (led from (g.E.Engine.view c.args.self.now.engine)) (led from (g.E.Engine.view c.find_note.new.self.engine)) c.args.self.now.maps c.args.self.now.unfreed c.args.self.now.rows.items c.args.self.now.actor c.act.new.self.actor c.args.txn.0 c.args.stop c.find_note.new.into c.in-Some.found
    c.requires (found_is (led from (g.E.Engine.view c.args.self.now.engine)) c.in-Some.is (c.in_ok-found.ensures.finds t from m)) (c.in_ok-found.ensures.stays t from m) c.in_ok-found.ensures.counts.told (acting_at c.in_ok-found.ensures.maps c.in_ok-found.ensures.rows c.in_ok-found.ensures.actor (c.act.ensures.acts (λ y n. 0) t from (c.in_ok-found.ensures.means t from m))) (ap is_of_bytes (sym c.bytes.ensures) ∙ (sym c.is_of_bytes.ensures ∙ c.if-is_of_bytes.false)) in
    subst (λ (x : EngineView). x.Told → UndoBegun (map_bands_of (length c.args.self.now.maps.pages) (length c.args.self.now.maps.bands)) t (led from (g.E.Engine.view c.args.self.now.engine)) x c.args.self.now.rows.items c.act.new.self.actor c.args.txn.0 c.args.stop c.find_note.new.into c.in-Some.found.undo_next) (sym (ap (λ y. led from (g.E.Engine.view y)) c.act.ensures.engine)) begun

pub returns-in_err-found-clause-undoes : goal.returns-in_err-found-clause-undoes
returns-in_err-found-clause-undoes g c = λ limits t from m told k.
    let f = c.in_err-found.ensures in
    undone_none (g.E.Engine.recovers t) t limits (led from (g.E.Engine.view c.args.self.now.engine)) (led from (g.E.Engine.view c.find_note.new.self.engine)) c.args.self.now.maps c.args.self.now.rows.items c.find_note.new.self.rows.items c.args.self.now.actor c.find_note.new.self.actor c.args.txn.0 f.rows f.actor k (f.moments t from m told) (λ told'. absurd (f.counts.silent told')) told

pub returns-in_default-clause-undoes : goal.returns-in_default-clause-undoes
returns-in_default-clause-undoes g c = λ limits t from m told k.
    let f = c.in_ok-found.ensures in
    undone_none (g.E.Engine.recovers t) t limits (led from (g.E.Engine.view c.args.self.now.engine)) (led from (g.E.Engine.view c.find_note.new.self.engine)) c.args.self.now.maps c.args.self.now.rows.items c.find_note.new.self.rows.items c.args.self.now.actor c.find_note.new.self.actor c.args.txn.0 f.rows f.actor k (f.moments t from m told) (λ told'. f.stays t from m) told

pub returns-in_err-put_back-clause-undoes : goal.returns-in_err-put_back-clause-undoes
returns-in_err-put_back-clause-undoes g c = λ limits t from m told kept.
    let k = c.in_ok-found.ensures in
    undone_run (g.E.Engine.recovers t) t limits (led from (g.E.Engine.view c.args.self.now.engine)) (led from (g.E.Engine.view c.find_note.new.self.engine)) (led from (g.E.Engine.view c.act.new.self.engine)) (led from (g.E.Engine.view c.put_back.new.self.engine))
    c.args.self.now.maps c.find_note.new.self.maps c.act.new.self.maps c.put_back.new.self.maps c.args.self.now.rows.items c.find_note.new.self.rows.items c.act.new.self.rows.items c.put_back.new.self.rows.items c.args.self.now.actor c.find_note.new.self.actor c.act.new.self.actor c.put_back.new.self.actor
    c.act.new.self.begun c.put_back.new.self.begun c.args.txn.0 told (c.requires told).rest.idle (k.stays t from m) (k.moments t from m told) k.maps k.rows k.actor kept (c.act.ensures.acts limits t from (c.in_ok-found.ensures.means t from m)) (ap (λ y. led from (g.E.Engine.view y)) c.act.ensures.engine) c.act.ensures.maps c.act.ensures.rows c.act.ensures.begun c.in_err-put_back.ensures.maps c.in_err-put_back.ensures.rows c.in_err-put_back.ensures.begun
    (λ told' k'. (c.in_err-put_back.ensures.later limits t).goes from (c.act.ensures.since t from (c.in_ok-found.ensures.means t from m)) told' k') (λ z. g.met.E.Engine.told_whole _ z)

pub returns-in_err-put_back-clause-means : goal.returns-in_err-put_back-clause-means
returns-in_err-put_back-clause-means g c = λ t from m. c.in_err-put_back.ensures.means t from (subst (λ y. g.E.Engine.means y t from) (sym c.act.ensures.engine) (c.in_ok-found.ensures.means t from m))

pub returns-in_ok-put_back-clause-undoes : goal.returns-in_ok-put_back-clause-undoes
returns-in_ok-put_back-clause-undoes g c = λ limits t from m told kept.
    let k = c.in_ok-found.ensures in
    undone_run (g.E.Engine.recovers t) t limits (led from (g.E.Engine.view c.args.self.now.engine)) (led from (g.E.Engine.view c.find_note.new.self.engine)) (led from (g.E.Engine.view c.act.new.self.engine)) (led from (g.E.Engine.view c.put_back.new.self.engine))
    c.args.self.now.maps c.find_note.new.self.maps c.act.new.self.maps c.put_back.new.self.maps c.args.self.now.rows.items c.find_note.new.self.rows.items c.act.new.self.rows.items c.put_back.new.self.rows.items c.args.self.now.actor c.find_note.new.self.actor c.act.new.self.actor c.put_back.new.self.actor
    c.act.new.self.begun c.put_back.new.self.begun c.args.txn.0 told (c.requires told).rest.idle (k.stays t from m) (k.moments t from m told) k.maps k.rows k.actor kept (c.act.ensures.acts limits t from (c.in_ok-found.ensures.means t from m)) (ap (λ y. led from (g.E.Engine.view y)) c.act.ensures.engine) c.act.ensures.maps c.act.ensures.rows c.act.ensures.begun c.in_ok-put_back.ensures.maps c.in_ok-put_back.ensures.rows c.in_ok-put_back.ensures.begun
    (λ told' k'. (c.in_ok-put_back.ensures.later limits t).goes from (c.act.ensures.since t from (c.in_ok-found.ensures.means t from m)) told' k') (λ z. g.met.E.Engine.told_whole _ z)

pub returns-in_ok-put_back-clause-means : goal.returns-in_ok-put_back-clause-means
returns-in_ok-put_back-clause-means g c = λ t from m. c.in_ok-put_back.ensures.means t from (subst (λ y. g.E.Engine.means y t from) (sym c.act.ensures.engine) (c.in_ok-found.ensures.means t from m))

pub returns-else-is_of_bytes-clause-undoes : goal.returns-else-is_of_bytes-clause-undoes
returns-else-is_of_bytes-clause-undoes g c = λ limits t from m told kept.
    let k = c.in_ok-found.ensures in
    undone_run (g.E.Engine.recovers t) t limits (led from (g.E.Engine.view c.args.self.now.engine)) (led from (g.E.Engine.view c.find_note.new.self.engine)) (led from (g.E.Engine.view c.act.new.self.engine)) (led from (g.E.Engine.view c.act.new.self.engine))
    c.args.self.now.maps c.find_note.new.self.maps c.act.new.self.maps c.act.new.self.maps c.args.self.now.rows.items c.find_note.new.self.rows.items c.act.new.self.rows.items c.act.new.self.rows.items c.args.self.now.actor c.find_note.new.self.actor c.act.new.self.actor c.act.new.self.actor
    c.act.new.self.begun c.act.new.self.begun c.args.txn.0 told (c.requires told).rest.idle (k.stays t from m) (k.moments t from m told) k.maps k.rows k.actor kept (c.act.ensures.acts limits t from (c.in_ok-found.ensures.means t from m)) (ap (λ y. led from (g.E.Engine.view y)) c.act.ensures.engine) c.act.ensures.maps c.act.ensures.rows c.act.ensures.begun refl refl refl
    (λ told' k'. (later_same {strict = false} g.E.Engine.recovers limits t (acts_at (g.E.Engine.view c.act.new.self.engine) (g.E.Engine.means c.act.new.self.engine) (g.E.Engine.view c.act.new.self.begun_at.value).now c.act.new.self.maps c.act.new.self.rows.items c.act.new.self.actor c.act.new.self.begun) (g.met.E.Engine.told_whole _) (λ start s z. g.met.E.Engine.images _ t start s.stands z)).goes from (c.act.ensures.since t from (c.in_ok-found.ensures.means t from m)) told' k') (λ z. g.met.E.Engine.told_whole _ z)

pub returns-else-is_of_bytes-clause-means : goal.returns-else-is_of_bytes-clause-means
returns-else-is_of_bytes-clause-means g c = λ t from m. (subst (λ y. g.E.Engine.means y t from) (sym c.act.ensures.engine) (c.in_ok-found.ensures.means t from m))

pub returns-in_ok-put_back-clause-since : goal.returns-in_ok-put_back-clause-since
returns-in_ok-put_back-clause-since g c = λ t from m some. (c.in_ok-put_back.ensures.later (λ y n. 0) t).means from (c.act.ensures.since t from (c.in_ok-found.ensures.means t from m))

pub returns-else-is_of_bytes-clause-since : goal.returns-else-is_of_bytes-clause-since
returns-else-is_of_bytes-clause-since g c = λ t from m some. (c.act.ensures.since t from (c.in_ok-found.ensures.means t from m))

pub act-requires-clause-chain : goal.act-requires-clause-chain
act-requires-clause-chain g c =
    let k = c.in_ok-found.ensures in
    chain_look (g.E.Engine.view c.args.self.now.engine) (g.E.Engine.view c.find_note.new.self.engine) c.args.self.now.rows.items c.find_note.new.self.rows.items c.args.self.now.actor c.find_note.new.self.actor k.counts.told
    (λ told. ∥∥₁_elim (g.met.E.Engine.some c.args.self.now.engine told) ∥∥₁_prop (λ x. ∣ (x.0, x.1, k.stays x.0 x.1 x.2) ∣₁)) k.rows k.actor (λ told. ∣ (c.requires told).chain ∣₁)

pub returns-in_err-found-clause-counts : goal.returns-in_err-found-clause-counts
returns-in_err-found-clause-counts g c =
    let p = err_from_is_err_and c.from_residual.result c.from_residual.ensures.1 in
    err_is {T = Option Found} c.from_residual.result c.in_err-found.field-0.0 p.0 p.1 p.2 c.in_err-found.ensures.counts

pub returns-in_default-clause-counts : goal.returns-in_default-clause-counts
returns-in_default-clause-counts g c = run_ok _ (run_by c.in_ok-found.ensures.counts)
