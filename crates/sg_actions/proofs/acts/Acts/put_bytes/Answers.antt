use Rattle.std.proofs.Common.{◌≡◌, false, true, ℕ, List, length, take, drop, refl, sym, ap, subst, ◌∙◌, arith}
use Rattle.sg_action.specs.States.{State}
use Rattle.sg_record.specs.Changes.{BandBytes}
use Rattle.sg_record.specs.Changes.Change.{SegWrite}
use Rattle.sg_record.specs.Records.Says.{Changed}
use Rattle.sg_record.specs.Shown.{by, shown_bytes}
use Rattle.sg_actions.specs.Changes.{bytes_with}
use Rattle.sg_actions.specs.Engine.{led, Extent}
use Rattle.sg_actions.specs.Led.{HasLogged}
use Rattle.sg_actions.specs.Onward.{later_on}
use Rattle.sg_actions.proofs.Accounting.{within_by}
use Rattle.sg_actions.proofs.Calling.{later_look, later_log_as, said_any, said_log_any}
use Rattle.sg_actions.proofs.InRange.{write_in}
use Rattle.sg_actions.proofs.Led.{log_call, look_call, logged_after}
use Rattle.sg_actions.proofs.PuttingBack.{put_bytes, stood_long, err_engine, err_is}
use Rattle.sg_actions.proofs.Writing.{write_on}
use Rattle.sg_actions.proofs.GoingOn.{can_look, formed_change, can_change}
use Rattle.std.proofs.lemmas.Result.{err_from_is_err_and}
use Rattle.sg_actions.proofs.Counting.{looked_ok, looked_then, looked_engine, looked_err}
use Rattle.sg_actions.proofs.acts.Acts.put_bytes.Goals as goal

clash : false ≡ true → ⊥
clash e = cc

pub log-requires-clause-range : goal.log-requires-clause-range
log-requires-clause-range g c =
    let piece = c.requires.piece in
    write_in _ _ c.args.b.0 c.args.at _ _ c.args.bytes.now (shown_bytes c.spell_bytes.result) c.spell_bytes.ensures c.is_number.ensures c.is_number-2.ensures c.requires.band piece
    (stood_long _ _ c.args.at (length c.args.bytes.now) c.copy_piece.ensures (let size = c.band.ensures.size in omega (arith, size, piece.within))) refl

pub invariant_of-self-2-clause-pages_said : goal.invariant_of-self-2-clause-pages_said
invariant_of-self-2-clause-pages_said g c = said_log_any g.E.Engine.recovers (g.E.Engine.means c.load_band.new.self) (g.E.Engine.means c.log.new.self) c.args.self.now.maps.pages (g.met.E.Engine.some c.load_band.new.self) (λ t. (record { grows = c.log.ensures.grows; keeps = λ from m. c.log.ensures.means t from m; logs = λ from m. c.log.ensures.logs t from m; whole = g.met.E.Engine.told_whole _; full = g.met.E.Engine.full_failed _; now = λ from m. g.met.E.Engine.now_is _ t from m; now' = λ from m. g.met.E.Engine.now_is _ t from m; law = λ from m. g.met.E.Engine.lawful _ t from m })) refl (said_any c.args.self.now.maps.pages (g.met.E.Engine.some c.args.self.now.engine) (λ t. (record { rests = c.load_band.ensures.rests; keeps = λ from m. c.load_band.ensures.means t from m; looks = λ from m. c.load_band.ensures.looks t from m; whole = g.met.E.Engine.told_whole _; full = g.met.E.Engine.full_failed _; now = λ from m. g.met.E.Engine.now_is _ t from m; now' = λ from m. g.met.E.Engine.now_is _ t from m })) c.load_band.ensures.rests.counts.told c.args.self.now.pages_said)

pub invariant_of-self-2-clause-within : goal.invariant_of-self-2-clause-within
invariant_of-self-2-clause-within g c = within_by c.log.ensures.grows.counts (within_by c.load_band.ensures.rests.counts c.args.self.now.within)

pub invariant_of-self-2-clause-unbroken : goal.invariant_of-self-2-clause-unbroken
invariant_of-self-2-clause-unbroken g c = λ told. c.args.self.now.unbroken (c.load_band.ensures.rests.counts.told (c.log.ensures.grows.counts.told told))

pub returns-clause-did : goal.returns-clause-did
returns-clause-did g c = λ t from m.
    let k1 = c.in_ok-load_band.ensures in
    let k2 = c.in_ok-self.ensures in
    let first = k1.rests.counts in
    let second = k2.grows.counts in
    let stays = (look_call from k1.rests (k1.looks t from m)).stays in
    let actor = c.args.self.now.actor in
    let did = subst (λ (x : BandBytes). HasLogged (led from (g.E.Engine.view c.load_band.new.self)) (led from (g.E.Engine.view c.log.new.self)) (by actor.txn.0 actor.last (Changed (SegWrite x))) c.in_ok-self.field-0) c.spell_bytes.ensures (log_call from k2.grows (k2.logs t from (k1.means t from m))).did in
    put_bytes t (led from (g.E.Engine.view c.args.self.now.engine)) (led from (g.E.Engine.view c.log.new.self)) c.args.self.now.rows.items actor c.args.b.0 c.args.at _ c.in_ok-self.field-0 _ c.args.bytes.now (c.args.b.0, (c.args.at, c.args.bytes.now)) refl
    (λ told. did.told (stays.told told)) (λ t. first.told (second.told t)) (λ told. logged_after (stays.stays told) (did.logged (stays.told told)))

pub returns-clause-later : goal.returns-clause-later
returns-clause-later g c = λ limits t. later_on {strict = false} g.E.Engine.recovers limits t _ _ _
    (later_look {strict = false} g.E.Engine.recovers limits t (g.E.Engine.view c.args.self.now.engine) (g.E.Engine.view c.load_band.new.self) (g.E.Engine.means c.args.self.now.engine) (g.E.Engine.means c.load_band.new.self) (g.E.Engine.view c.args.self.now.begun_at.value).now c.args.self.now.maps c.args.self.now.rows.items c.args.self.now.actor c.args.self.now.begun _ (record { rests = c.in_ok-load_band.ensures.rests; keeps = λ from m. c.in_ok-load_band.ensures.means t from m; looks = λ from m. c.in_ok-load_band.ensures.looks t from m; whole = g.met.E.Engine.told_whole _; full = g.met.E.Engine.full_failed _; now = λ from m. g.met.E.Engine.now_is _ t from m; now' = λ from m. g.met.E.Engine.now_is _ t from m }))
    (later_log_as {strict = false} g.E.Engine.recovers limits t (g.E.Engine.view c.load_band.new.self) (g.E.Engine.view c.log.new.self) (g.E.Engine.means c.load_band.new.self) (g.E.Engine.means c.log.new.self) (g.E.Engine.view c.args.self.now.begun_at.value).now c.args.self.now.maps c.args.self.now.maps c.args.self.now.rows.items c.args.self.now.actor (record { txn = c.args.self.now.actor.txn; last = c.in_ok-self.field-0; before = c.args.self.now.actor.before }) c.args.self.now.begun (SegWrite (shown_bytes c.spell_bytes.result)) (SegWrite (bytes_with c.args.b.0 c.args.at _ _ c.args.bytes.now)) _ c.requires.begun (ap SegWrite c.spell_bytes.ensures) (let piece = c.requires.piece in write_in _ _ c.args.b.0 c.args.at _ _ c.args.bytes.now (shown_bytes c.spell_bytes.result) c.spell_bytes.ensures c.is_number.ensures c.is_number-2.ensures c.requires.band piece (stood_long _ _ c.args.at (length c.args.bytes.now) c.copy_piece.ensures (let size = c.band.ensures.size in omega (arith, size, piece.within))) refl) (record { grows = c.in_ok-self.ensures.grows; keeps = λ from m. c.in_ok-self.ensures.means t from m; logs = λ from m. c.in_ok-self.ensures.logs t from m; whole = g.met.E.Engine.told_whole _; full = g.met.E.Engine.full_failed _; now = λ from m. g.met.E.Engine.now_is _ t from m; now' = λ from m. g.met.E.Engine.now_is _ t from m; law = λ from m. g.met.E.Engine.lawful _ t from m }) refl
    (record {
      on = λ from since told1 k.
          let now = ap (λ (x : State). x.bands c.args.b.0) (sym (g.met.E.Engine.now_is _ t from since.stands told1)) ∙ c.band.ensures.looked in
          let long = ap length now ∙ c.band.ensures.size in
          let piece = c.requires.piece in
          write_on t limits (led from (g.E.Engine.view c.load_band.new.self)) c.args.self.now.maps _ _ c.args.b.0 c.args.at _ _ c.args.bytes.now (record { within = omega (arith, long, piece.within); is = c.copy_piece.ensures ∙ ap (λ (xs : List ℕ). take (length c.args.bytes.now) (drop c.args.at xs)) (sym now) }) k;
      same = λ from m told1. refl;
      pages = refl;
      bands = refl;
      holds = λ o. absurd (clash o);
    }))

pub returns-in_err-self-clause-later : goal.returns-in_err-self-clause-later
returns-in_err-self-clause-later g c = λ limits t. later_on {strict = false} g.E.Engine.recovers limits t _ _ _
    (later_look {strict = false} g.E.Engine.recovers limits t (g.E.Engine.view c.args.self.now.engine) (g.E.Engine.view c.load_band.new.self) (g.E.Engine.means c.args.self.now.engine) (g.E.Engine.means c.load_band.new.self) (g.E.Engine.view c.args.self.now.begun_at.value).now c.args.self.now.maps c.args.self.now.rows.items c.args.self.now.actor c.args.self.now.begun _ (record { rests = c.in_ok-load_band.ensures.rests; keeps = λ from m. c.in_ok-load_band.ensures.means t from m; looks = λ from m. c.in_ok-load_band.ensures.looks t from m; whole = g.met.E.Engine.told_whole _; full = g.met.E.Engine.full_failed _; now = λ from m. g.met.E.Engine.now_is _ t from m; now' = λ from m. g.met.E.Engine.now_is _ t from m }))
    (later_log_as {strict = false} g.E.Engine.recovers limits t (g.E.Engine.view c.load_band.new.self) (g.E.Engine.view c.log.new.self) (g.E.Engine.means c.load_band.new.self) (g.E.Engine.means c.log.new.self) (g.E.Engine.view c.args.self.now.begun_at.value).now c.args.self.now.maps c.args.self.now.maps c.args.self.now.rows.items c.args.self.now.actor c.args.self.now.actor c.args.self.now.begun (SegWrite (shown_bytes c.spell_bytes.result)) (SegWrite (bytes_with c.args.b.0 c.args.at _ _ c.args.bytes.now)) _ c.requires.begun (ap SegWrite c.spell_bytes.ensures) (let piece = c.requires.piece in write_in _ _ c.args.b.0 c.args.at _ _ c.args.bytes.now (shown_bytes c.spell_bytes.result) c.spell_bytes.ensures c.is_number.ensures c.is_number-2.ensures c.requires.band piece (stood_long _ _ c.args.at (length c.args.bytes.now) c.copy_piece.ensures (let size = c.band.ensures.size in omega (arith, size, piece.within))) refl) (record { grows = c.in_err-self.ensures.grows; keeps = λ from m. c.in_err-self.ensures.means t from m; logs = λ from m. c.in_err-self.ensures.logs t from m; whole = g.met.E.Engine.told_whole _; full = g.met.E.Engine.full_failed _; now = λ from m. g.met.E.Engine.now_is _ t from m; now' = λ from m. g.met.E.Engine.now_is _ t from m; law = λ from m. g.met.E.Engine.lawful _ t from m }) tt
    (record {
      on = λ from since told1 k.
          let now = ap (λ (x : State). x.bands c.args.b.0) (sym (g.met.E.Engine.now_is _ t from since.stands told1)) ∙ c.band.ensures.looked in
          let long = ap length now ∙ c.band.ensures.size in
          let piece = c.requires.piece in
          write_on t limits (led from (g.E.Engine.view c.load_band.new.self)) c.args.self.now.maps _ _ c.args.b.0 c.args.at _ _ c.args.bytes.now (record { within = omega (arith, long, piece.within); is = c.copy_piece.ensures ∙ ap (λ (xs : List ℕ). take (length c.args.bytes.now) (drop c.args.at xs)) (sym now) }) k;
      same = λ from m told1. refl;
      pages = refl;
      bands = refl;
      holds = λ o. absurd (clash o);
    }))

pub returns-in_err-load_band-clause-later : goal.returns-in_err-load_band-clause-later
returns-in_err-load_band-clause-later g c = λ limits t. (later_look {strict = false} g.E.Engine.recovers limits t (g.E.Engine.view c.args.self.now.engine) (g.E.Engine.view c.load_band.new.self) (g.E.Engine.means c.args.self.now.engine) (g.E.Engine.means c.load_band.new.self) (g.E.Engine.view c.args.self.now.begun_at.value).now c.args.self.now.maps c.args.self.now.rows.items c.args.self.now.actor c.args.self.now.begun _ (record { rests = c.in_err-load_band.ensures.rests; keeps = λ from m. c.in_err-load_band.ensures.means t from m; looks = λ from m. c.in_err-load_band.ensures.looks t from m; whole = g.met.E.Engine.told_whole _; full = g.met.E.Engine.full_failed _; now = λ from m. g.met.E.Engine.now_is _ t from m; now' = λ from m. g.met.E.Engine.now_is _ t from m }))

pub log-requires-clause-can : goal.log-requires-clause-can
log-requires-clause-can g c = λ t from m told1.
    let k = c.in_ok-load_band.ensures.rests.counts in
    record {
      there = let e = ap (λ (x : BandBytes). x.band) c.spell_bytes.ensures in let b = c.requires.there (k.told told1) in let x = ap (λ (y : Extent). y.bands) k.extent in omega (arith, e, b, x);
      fits = refl;
      known = tt;
      formed = formed_change (g.E.Engine.view c.load_band.new.self) c.args.self.now.begun c.args.self.now.actor _ c.requires.begun (can_look c.args.self.now.begun c.args.self.now.actor (g.met.E.Engine.some c.args.self.now.engine) (λ t. (record { rests = c.load_band.ensures.rests; keeps = λ from m. c.load_band.ensures.means t from m; looks = λ from m. c.load_band.ensures.looks t from m; whole = g.met.E.Engine.told_whole _; full = g.met.E.Engine.full_failed _; now = λ from m. g.met.E.Engine.now_is _ t from m; now' = λ from m. g.met.E.Engine.now_is _ t from m })) c.args.self.now.goes_on) told1;
      means = λ u. u;
    }

pub invariant_of-self-2-clause-goes_on : goal.invariant_of-self-2-clause-goes_on
invariant_of-self-2-clause-goes_on g c = can_change g.E.Engine.recovers (g.E.Engine.means c.load_band.new.self) (g.E.Engine.means c.log.new.self) c.args.self.now.begun c.args.self.now.actor _ _ (g.met.E.Engine.some c.load_band.new.self) (λ t. (record { grows = c.in_ok-self.ensures.grows; keeps = λ from m. c.in_ok-self.ensures.means t from m; logs = λ from m. c.in_ok-self.ensures.logs t from m; whole = g.met.E.Engine.told_whole _; full = g.met.E.Engine.full_failed _; now = λ from m. g.met.E.Engine.now_is _ t from m; now' = λ from m. g.met.E.Engine.now_is _ t from m; law = λ from m. g.met.E.Engine.lawful _ t from m })) refl refl (can_look c.args.self.now.begun c.args.self.now.actor (g.met.E.Engine.some c.args.self.now.engine) (λ t. (record { rests = c.load_band.ensures.rests; keeps = λ from m. c.load_band.ensures.means t from m; looks = λ from m. c.load_band.ensures.looks t from m; whole = g.met.E.Engine.told_whole _; full = g.met.E.Engine.full_failed _; now = λ from m. g.met.E.Engine.now_is _ t from m; now' = λ from m. g.met.E.Engine.now_is _ t from m })) c.args.self.now.goes_on)

pub returns-in_err-load_band-clause-counts : goal.returns-in_err-load_band-clause-counts
returns-in_err-load_band-clause-counts g c =
    let p = err_from_is_err_and c.from_residual.result c.from_residual.ensures.1 in
    err_is {T = Unit {0}} c.from_residual.result c.in_err-load_band.field-0.0 p.0 p.1 p.2 (err_engine c.args.self.now.breaks (g.met.E.Engine.told_whole _) c.in_err-load_band.ensures.rests.counts)

pub returns-in_err-self-clause-counts : goal.returns-in_err-self-clause-counts
returns-in_err-self-clause-counts g c =
    let p = err_from_is_err_and c.from_residual-in_err-self.result c.from_residual-in_err-self.ensures.1 in
    err_is {T = ℕ} c.from_residual-in_err-self.result c.in_err-self.field-0.0 p.0 p.1 p.2 (looked_err (looked_engine c.args.self.now.breaks c.in_ok-load_band.ensures.rests.counts) (err_engine c.args.self.now.breaks (g.met.E.Engine.told_whole _) c.in_err-self.ensures.grows.counts))

pub returns-clause-counts : goal.returns-clause-counts
returns-clause-counts g c = looked_ok _ (looked_then {T = ℕ} {x = c.in_ok-self.field-0} (looked_engine c.args.self.now.breaks c.in_ok-load_band.ensures.rests.counts) (looked_ok c.in_ok-self.field-0 (looked_engine c.args.self.now.breaks c.in_ok-self.ensures.grows.counts)))
