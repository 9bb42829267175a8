use mathlib.Core.Logic.{∥∥₁_elim}
use Rattle.std.proofs.Common.{false, sym, ap, subst, ◌∙◌, arith, ℕ, ◌<◌}
use Rattle.std.specs.Prelude.{option_map}
use Rattle.std.proofs.lemmas.Result.{err_from_is_err_and}
use Rattle.sg_record.specs.Shown.{shown_change}
use Rattle.sg_actions.specs.Engine.{led, Extent}
use Rattle.sg_actions.specs.Onward.{later_on}
use Rattle.sg_alloc.specs.Flags.{map_bands_of}
use Rattle.sg_actions.specs.PuttingBack.{shown_stood, PutOne}
use Rattle.sg_actions.specs.Steps.{step_of}
use Rattle.sg_actions.proofs.Accounting.{within_by}
use Rattle.sg_actions.proofs.Calling.{later_look, said_any}
use Rattle.sg_actions.proofs.Led.{look_call}
use Rattle.sg_actions.proofs.Offing.{shown_is}
use Rattle.sg_actions.proofs.PuttingBack.{put_one, put_some, put_none, goes_same, part_within, part_band, hop_there, err_engine, err_is}
use Rattle.sg_actions.proofs.Counting.{looked_break, looked_engine, looked_err, looked_ok, looked_then, never_any}
use Rattle.sg_actions.proofs.ReadBack.{hop_reads}
use Rattle.sg_actions.proofs.Untold.{part_on, on_at}
use Rattle.std.proofs.Props.{props}
use Rattle.sg_actions.proofs.GoingOn.{can_look}
use Rattle.sg_actions.proofs.acts.Acts.put_one_back.Goals as goal

pub read-requires-clause-there : goal.read-requires-clause-there
read-requires-clause-there g c = λ told. hop_there _ c.args.at (c.requires.hop told)

pub put_bytes-requires-clause-band : goal.put_bytes-requires-clause-band
put_bytes-requires-clause-band g c = part_band c.map_bands-outside.result c.in-Some.ensures.reads.what c.in-Some.next (option_map shown_change c.in-Some.change) (shown_stood c.in-Some-part_of.part) (c.in-Some.ensures.range c.in-Some.ensures.reads.what c.in-Some.ensures.reads.size c.in-Some.ensures.reads.is) c.in-Some.ensures.reads.hops c.in-Some-part_of.ensures

pub put_bytes-requires-clause-piece : goal.put_bytes-requires-clause-piece
put_bytes-requires-clause-piece g c = part_within c.map_bands-outside.result c.in-Some.ensures.reads.what c.in-Some.next (option_map shown_change c.in-Some.change) (shown_stood c.in-Some-part_of.part) (c.in-Some.ensures.range c.in-Some.ensures.reads.what c.in-Some.ensures.reads.size c.in-Some.ensures.reads.is) c.in-Some.ensures.reads.hops c.in-Some-part_of.ensures

pub returns-clause-did : goal.returns-clause-did
returns-clause-did g c = λ t from m.
    let k = c.in_ok-size.ensures in
    let did = c.in_ok-put_bytes.ensures.did t from (k.means t from m) in
    subst (λ (n : ℕ). PutOne n t (led from (g.E.Engine.view c.args.self.now.engine)) (led from (g.E.Engine.view c.put_bytes.new.self.engine)) c.args.self.now.rows.items c.args.self.now.actor c.put_bytes.new.self.actor c.args.at c.in-Some.next) (c.map_bands-outside.ensures ∙ (λ j. map_bands_of (c.args.self.now.count_is j) (c.args.self.now.bands_are j)))
    (put_one c.map_bands-outside.result t (led from (g.E.Engine.view c.args.self.now.engine)) (led from (g.E.Engine.view c.read.new.self)) (led from (g.E.Engine.view c.put_bytes.new.self.engine)) c.args.self.now.rows.items c.args.self.now.actor c.put_bytes.new.self.actor c.args.at c.in-Some.next
    (option_map shown_change c.in-Some.change) c.in-Some.ensures.reads.what c.in-Some.ensures.reads.lower (look_call from c.in_ok-size.ensures.rests (c.in_ok-size.ensures.looks t from m)).stays k.rests.counts.told (λ told. let read = c.in_ok-size.ensures.read t from m told in read.step ∙ ap step_of (sym (shown_is _ _ _ _ _ (sym c.in-Some.ensures.reads.is) read.is)))
    c.in-Some.ensures.reads.hops did.goes
    (λ told. put_some c.map_bands-outside.result t (led from (g.E.Engine.view c.read.new.self)) (led from (g.E.Engine.view c.put_bytes.new.self.engine)) c.args.self.now.rows.items c.args.self.now.actor c.put_bytes.new.self.actor (shown_stood c.in-Some-part_of.part) (option_map shown_change c.in-Some.change) c.in-Some-part_of.ensures did told))

pub returns-in_default-part_of-clause-did : goal.returns-in_default-part_of-clause-did
returns-in_default-part_of-clause-did g c = λ t from m.
    let k = c.in_ok-size.ensures in
    subst (λ (n : ℕ). PutOne n t (led from (g.E.Engine.view c.args.self.now.engine)) (led from (g.E.Engine.view c.read.new.self)) c.args.self.now.rows.items c.args.self.now.actor c.args.self.now.actor c.args.at c.in-Some.next) (c.map_bands-outside.ensures ∙ (λ j. map_bands_of (c.args.self.now.count_is j) (c.args.self.now.bands_are j)))
    (put_one c.map_bands-outside.result t (led from (g.E.Engine.view c.args.self.now.engine)) (led from (g.E.Engine.view c.read.new.self)) (led from (g.E.Engine.view c.read.new.self)) c.args.self.now.rows.items c.args.self.now.actor c.args.self.now.actor c.args.at c.in-Some.next
    (option_map shown_change c.in-Some.change) c.in-Some.ensures.reads.what c.in-Some.ensures.reads.lower (look_call from c.in_ok-size.ensures.rests (c.in_ok-size.ensures.looks t from m)).stays k.rests.counts.told (λ told. let read = c.in_ok-size.ensures.read t from m told in read.step ∙ ap step_of (sym (shown_is _ _ _ _ _ (sym c.in-Some.ensures.reads.is) read.is)))
    c.in-Some.ensures.reads.hops (goes_same (led from (g.E.Engine.view c.read.new.self)) c.args.self.now.rows.items c.args.self.now.actor)
    (λ told. put_none c.map_bands-outside.result t (led from (g.E.Engine.view c.read.new.self)) c.args.self.now.actor.txn.0 (option_map shown_change c.in-Some.change) c.in_default-part_of.ensures))

pub returns-clause-later : goal.returns-clause-later
returns-clause-later g c = λ limits t. later_on {strict = false} g.E.Engine.recovers limits t _ _ _ (later_look {strict = false} g.E.Engine.recovers limits t (g.E.Engine.view c.args.self.now.engine) (g.E.Engine.view c.read.new.self) (g.E.Engine.means c.args.self.now.engine) (g.E.Engine.means c.read.new.self) (g.E.Engine.view c.args.self.now.begun_at.value).now c.args.self.now.maps c.args.self.now.rows.items c.args.self.now.actor c.args.self.now.begun _ (record { rests = c.in_ok-size.ensures.rests; keeps = λ from m. c.in_ok-size.ensures.means t from m; looks = λ from m. c.in_ok-size.ensures.looks t from m; whole = g.met.E.Engine.told_whole _; full = g.met.E.Engine.full_failed _; now = λ from m. g.met.E.Engine.now_is _ t from m; now' = λ from m. g.met.E.Engine.now_is _ t from m })) (c.in_ok-put_bytes.ensures.later limits t)

pub returns-in_err-put_bytes-clause-later : goal.returns-in_err-put_bytes-clause-later
returns-in_err-put_bytes-clause-later g c = λ limits t. later_on {strict = false} g.E.Engine.recovers limits t _ _ _ (later_look {strict = false} g.E.Engine.recovers limits t (g.E.Engine.view c.args.self.now.engine) (g.E.Engine.view c.read.new.self) (g.E.Engine.means c.args.self.now.engine) (g.E.Engine.means c.read.new.self) (g.E.Engine.view c.args.self.now.begun_at.value).now c.args.self.now.maps c.args.self.now.rows.items c.args.self.now.actor c.args.self.now.begun _ (record { rests = c.in_ok-size.ensures.rests; keeps = λ from m. c.in_ok-size.ensures.means t from m; looks = λ from m. c.in_ok-size.ensures.looks t from m; whole = g.met.E.Engine.told_whole _; full = g.met.E.Engine.full_failed _; now = λ from m. g.met.E.Engine.now_is _ t from m; now' = λ from m. g.met.E.Engine.now_is _ t from m })) (c.in_err-put_bytes.ensures.later limits t)

pub returns-in_err-size-clause-later : goal.returns-in_err-size-clause-later
returns-in_err-size-clause-later g c = λ limits t. (later_look {strict = false} g.E.Engine.recovers limits t (g.E.Engine.view c.args.self.now.engine) (g.E.Engine.view c.read.new.self) (g.E.Engine.means c.args.self.now.engine) (g.E.Engine.means c.read.new.self) (g.E.Engine.view c.args.self.now.begun_at.value).now c.args.self.now.maps c.args.self.now.rows.items c.args.self.now.actor c.args.self.now.begun _ (record { rests = c.in_err-size.ensures.rests; keeps = λ from m. c.in_err-size.ensures.means t from m; looks = λ from m. c.in_err-size.ensures.looks t from m; whole = g.met.E.Engine.told_whole _; full = g.met.E.Engine.full_failed _; now = λ from m. g.met.E.Engine.now_is _ t from m; now' = λ from m. g.met.E.Engine.now_is _ t from m }))

pub returns-in_default-part_of-clause-later : goal.returns-in_default-part_of-clause-later
returns-in_default-part_of-clause-later g c = λ limits t. (later_look {strict = false} g.E.Engine.recovers limits t (g.E.Engine.view c.args.self.now.engine) (g.E.Engine.view c.read.new.self) (g.E.Engine.means c.args.self.now.engine) (g.E.Engine.means c.read.new.self) (g.E.Engine.view c.args.self.now.begun_at.value).now c.args.self.now.maps c.args.self.now.rows.items c.args.self.now.actor c.args.self.now.begun _ (record { rests = c.in_ok-size.ensures.rests; keeps = λ from m. c.in_ok-size.ensures.means t from m; looks = λ from m. c.in_ok-size.ensures.looks t from m; whole = g.met.E.Engine.told_whole _; full = g.met.E.Engine.full_failed _; now = λ from m. g.met.E.Engine.now_is _ t from m; now' = λ from m. g.met.E.Engine.now_is _ t from m }))

pub returns-in_default-clause-later : goal.returns-in_default-clause-later
returns-in_default-clause-later g c = λ limits t. (later_look {strict = false} g.E.Engine.recovers limits t (g.E.Engine.view c.args.self.now.engine) (g.E.Engine.view c.read.new.self) (g.E.Engine.means c.args.self.now.engine) (g.E.Engine.means c.read.new.self) (g.E.Engine.view c.args.self.now.begun_at.value).now c.args.self.now.maps c.args.self.now.rows.items c.args.self.now.actor c.args.self.now.begun _ (record { rests = c.in_ok-size.ensures.rests; keeps = λ from m. c.in_ok-size.ensures.means t from m; looks = λ from m. c.in_ok-size.ensures.looks t from m; whole = g.met.E.Engine.told_whole _; full = g.met.E.Engine.full_failed _; now = λ from m. g.met.E.Engine.now_is _ t from m; now' = λ from m. g.met.E.Engine.now_is _ t from m }))

pub invariant_of-self-in_default-clause-pages_said : goal.invariant_of-self-in_default-clause-pages_said
invariant_of-self-in_default-clause-pages_said g c = said_any c.args.self.now.maps.pages (g.met.E.Engine.some c.args.self.now.engine) (λ t. (record { rests = c.read.ensures.rests; keeps = λ from m. c.read.ensures.means t from m; looks = λ from m. c.read.ensures.looks t from m; whole = g.met.E.Engine.told_whole _; full = g.met.E.Engine.full_failed _; now = λ from m. g.met.E.Engine.now_is _ t from m; now' = λ from m. g.met.E.Engine.now_is _ t from m })) c.read.ensures.rests.counts.told c.args.self.now.pages_said

pub invariant_of-self-in_default-clause-within : goal.invariant_of-self-in_default-clause-within
invariant_of-self-in_default-clause-within g c = within_by c.read.ensures.rests.counts c.args.self.now.within

pub returns-in_default-clause-counts : goal.returns-in_default-clause-counts
returns-in_default-clause-counts g c = looked_break c.count_break.result c.count_break.ensures.answer (looked_engine c.args.self.now.breaks c.in_ok-size.ensures.rests.counts) c.count_break.ensures.risen c.count_break.ensures.later
    (λ told1. let told = c.in_ok-size.ensures.rests.counts.told told1 in never_any _ (g.met.E.Engine.some c.args.self.now.engine told) (λ t from m. let hop = hop_reads _ _ _ (c.requires.hop told) (c.in_ok-size.ensures.read t from m told) in c.in_default.ensures.none hop.0 hop.1))

pub invariant_of-self-in_default-clause-unbroken : goal.invariant_of-self-in_default-clause-unbroken
invariant_of-self-in_default-clause-unbroken g c = λ told1. absurd (let told = c.in_ok-size.ensures.rests.counts.told told1 in never_any _ (g.met.E.Engine.some c.args.self.now.engine told) (λ t from m. let hop = hop_reads _ _ _ (c.requires.hop told) (c.in_ok-size.ensures.read t from m told) in c.in_default.ensures.none hop.0 hop.1))

pub put_bytes-requires-clause-there : goal.put_bytes-requires-clause-there
put_bytes-requires-clause-there g c = λ told1.
    let told = c.in_ok-size.ensures.rests.counts.told told1 in
    let x = ap (λ (y : Extent). y.bands) c.in_ok-size.ensures.rests.counts.extent in
    let below : c.in-Some-part_of.part.band.0 < (g.E.Engine.view c.args.self.now.engine).extent.bands = ∥∥₁_elim (g.met.E.Engine.some c.args.self.now.engine told) (hlevel props) (λ z.
    let read = c.in_ok-size.ensures.read z.0 z.1 z.2 told in
    part_on c.map_bands-outside.result (g.E.Engine.view c.args.self.now.engine).extent _ c.in-Some.next (option_map shown_change c.in-Some.change) (shown_stood c.in-Some-part_of.part)
    (λ s is. on_at (g.E.Engine.view c.args.self.now.engine).extent (g.E.Engine.view c.args.self.now.engine).steps c.args.at s (g.met.E.Engine.changes_on _ told) (read.step ∙ (ap step_of (sym (shown_is _ _ _ _ _ (sym c.in-Some.ensures.reads.is) read.is)) ∙ is)))
    c.in-Some.ensures.reads.hops c.in-Some-part_of.ensures) in
    omega (arith, x, below)

pub invariant_of-self-in_default-clause-goes_on : goal.invariant_of-self-in_default-clause-goes_on
invariant_of-self-in_default-clause-goes_on g c = can_look c.args.self.now.begun c.args.self.now.actor (g.met.E.Engine.some c.args.self.now.engine) (λ t. (record { rests = c.read.ensures.rests; keeps = λ from m. c.read.ensures.means t from m; looks = λ from m. c.read.ensures.looks t from m; whole = g.met.E.Engine.told_whole _; full = g.met.E.Engine.full_failed _; now = λ from m. g.met.E.Engine.now_is _ t from m; now' = λ from m. g.met.E.Engine.now_is _ t from m })) c.args.self.now.goes_on

pub invariant_of-self-in-Some-1 : goal.invariant_of-self-in-Some-1
invariant_of-self-in-Some-1 g c = record {
  count_is = c.args.self.now.count_is;
  bands_are = c.args.self.now.bands_are;
  few = c.args.self.now.few;
  page_flags = c.args.self.now.page_flags;
  band_flags = c.args.self.now.band_flags;
  pages_said = said_any c.args.self.now.maps.pages (g.met.E.Engine.some c.args.self.now.engine) (λ t. (record { rests = c.read.ensures.rests; keeps = λ from m. c.read.ensures.means t from m; looks = λ from m. c.read.ensures.looks t from m; whole = g.met.E.Engine.told_whole _; full = g.met.E.Engine.full_failed _; now = λ from m. g.met.E.Engine.now_is _ t from m; now' = λ from m. g.met.E.Engine.now_is _ t from m })) c.read.ensures.rests.counts.told c.args.self.now.pages_said;
  within = within_by c.read.ensures.rests.counts c.args.self.now.within;
  unbroken = λ told. c.args.self.now.unbroken (c.read.ensures.rests.counts.told told);
  goes_on = can_look c.args.self.now.begun c.args.self.now.actor (g.met.E.Engine.some c.args.self.now.engine) (λ t. (record { rests = c.read.ensures.rests; keeps = λ from m. c.read.ensures.means t from m; looks = λ from m. c.read.ensures.looks t from m; whole = g.met.E.Engine.told_whole _; full = g.met.E.Engine.full_failed _; now = λ from m. g.met.E.Engine.now_is _ t from m; now' = λ from m. g.met.E.Engine.now_is _ t from m })) c.args.self.now.goes_on;
}

pub returns-in_err-size-clause-counts : goal.returns-in_err-size-clause-counts
returns-in_err-size-clause-counts g c =
    let p = err_from_is_err_and c.from_residual.result c.from_residual.ensures.1 in
    err_is {T = ℕ} c.from_residual.result c.in_err-size.field-0.0 p.0 p.1 p.2 (err_engine c.args.self.now.breaks (g.met.E.Engine.told_whole _) c.in_err-size.ensures.rests.counts)

pub returns-in_default-part_of-clause-counts : goal.returns-in_default-part_of-clause-counts
returns-in_default-part_of-clause-counts g c = looked_ok _ (looked_engine c.args.self.now.breaks c.in_ok-size.ensures.rests.counts)

pub returns-in_err-put_bytes-clause-counts : goal.returns-in_err-put_bytes-clause-counts
returns-in_err-put_bytes-clause-counts g c =
    let p = err_from_is_err_and c.from_residual-in_err-put_bytes.result c.from_residual-in_err-put_bytes.ensures.1 in
    err_is {T = Unit {0}} c.from_residual-in_err-put_bytes.result c.in_err-put_bytes.field-0.0 p.0 p.1 p.2 (looked_err (looked_engine c.args.self.now.breaks c.in_ok-size.ensures.rests.counts) c.in_err-put_bytes.ensures.counts)

pub returns-clause-counts : goal.returns-clause-counts
returns-clause-counts g c = looked_ok _ (looked_then (looked_engine c.args.self.now.breaks c.in_ok-size.ensures.rests.counts) c.in_ok-put_bytes.ensures.counts)
