use Rattle.sg_actions.specs.Growing.{moments_same, grows_same, moments_then}
use Rattle.std.proofs.lemmas.Result.{on_ok_weaker, err_from_is_err_and}
use Rattle.std.proofs.Common.{◌≡◌, ◌*◌, ℕ, List, refl, ap, subst, ◌∙◌, length, take, min, length-take, IsPermutation, arith}
use Rattle.std.proofs.lemmas.List.{take_min}
use Rattle.std.specs.List.Sorted.{IsNonDecreasingBy}
use Rattle.sg_actions.specs.Checkpoints.{rows_bytes}
use Rattle.sg_actions.specs.declared.rows.Row.{Row}
use Rattle.sg_actions.specs.Engine.{Moments, led}
use Rattle.sg_actions.specs.Steps.{Steps}
use Rattle.sg_actions.proofs.Accounting.{within_by}
use Rattle.sg_actions.proofs.Calling.{said_any}
use Rattle.sg_actions.proofs.Closing.{on_ok2}
use Rattle.sg_actions.proofs.Handing.{forced_hands, long_checkpoint}
use Rattle.sg_actions.proofs.Counting.{looked_break, looked_none, stayed_then, kept_looked, looked_engine}
use Rattle.sg_actions.proofs.Led.{look_call}
use Rattle.sg_actions.proofs.Pointing.{mark_stays, said_mark}
use Rattle.sg_actions.proofs.Rowed.{length_taken, rows_sized, spelled_is, rows_fit, take_short}
use Rattle.sg_actions.proofs.GoingOn.{can_rest_told}
use Rattle.sg_actions.proofs.Counted.{acts_err, acts_last}
use Rattle.sg_actions.proofs.acts.Acts.checkpoint.Goals as goal

pub checkpoint-requires-clause-rows : goal.checkpoint-requires-clause-rows
checkpoint-requires-clause-rows g c =
    let rows = take c.min-count.result c.in_order-ordered.result in
    let is : take c.in-Some.size c.spell_rows.new.into ≡ rows_bytes rows = spelled_is c.spell_rows.result c.in-Some.size c.spell_rows.new.into rows rows c.in-Some.is c.spell_rows.ensures.spelled refl in
    let sized = rows_sized rows in
    let long : length (take c.in-Some.size c.spell_rows.new.into) ≡ 16 * sized.many = ap length is ∙ sized.is in
    omega (arith, long)

pub returns-in_default-clause-counts : goal.returns-in_default-clause-counts
returns-in_default-clause-counts g c =
    let rows = take c.min-count.result c.in_order-ordered.result in
    looked_break c.count_break.result c.count_break.ensures.answer (looked_none (g.E.Engine.view c.args.self.now.engine) c.args.self.now.breaks) c.count_break.ensures.risen c.count_break.ensures.later
    (λ told. rows_fit rows rows refl (let short = take_short c.min-count.result c.in_order-ordered.result in let m = c.min-count.ensures in omega (arith, short, m)) c.in_default.ensures.many)

pub returns-in_default-clause-moments : goal.returns-in_default-clause-moments
returns-in_default-clause-moments g c = λ t from m told. moments_same (led from (g.E.Engine.view c.args.self.now.engine)) (g.met.E.Engine.images _ t from m told)

pub returns-clause-moments : goal.returns-clause-moments
returns-clause-moments g c = λ t from m told.
    let k = c.in_ok-checkpoint.ensures in
    let e = led from (g.E.Engine.view c.args.self.now.engine) in
    let e1 = led from (g.E.Engine.view c.checkpoint.new.self) in
    let e2 = led from (g.E.Engine.view c.force.new.self) in
    let s = mark_stays from _ k.grows (k.looks t from m) in
    let st = s.stays told in
    moments_then e e1 e2 st.first st.durable (grows_same e.steps) ((k.looks t from m).moments told) (subst (λ (rs : Steps). Moments (g.E.Engine.recovers t) t e1 e2 rs) st.steps ((c.force.ensures.looks t from (k.means t from m)).moments (s.told told)))

pub invariant_of-self-2-clause-pages_said : goal.invariant_of-self-2-clause-pages_said
invariant_of-self-2-clause-pages_said g c = said_any c.args.self.now.maps.pages (g.met.E.Engine.some c.checkpoint.new.self) (λ t. (record { rests = c.force.ensures.rests; keeps = λ from m. c.force.ensures.means t from m; looks = λ from m. c.force.ensures.looks t from m; whole = g.met.E.Engine.told_whole _; full = g.met.E.Engine.full_failed _; now = λ from m. g.met.E.Engine.now_is _ t from m; now' = λ from m. g.met.E.Engine.now_is _ t from m })) c.force.ensures.rests.counts.told
    (said_mark {recovers = g.E.Engine.recovers} c.checkpoint.result c.args.self.now.maps.pages (g.met.E.Engine.some c.args.self.now.engine) c.checkpoint.ensures.grows c.checkpoint.ensures.means c.checkpoint.ensures.looks (λ z. g.met.E.Engine.told_whole _ z) (λ t from m. g.met.E.Engine.now_is _ t from m) (λ t from m. g.met.E.Engine.now_is _ t from m) c.args.self.now.pages_said)

pub invariant_of-self-2-clause-within : goal.invariant_of-self-2-clause-within
invariant_of-self-2-clause-within g c = within_by c.force.ensures.rests.counts (within_by c.checkpoint.ensures.grows.counts c.args.self.now.within)

pub invariant_of-self-2-clause-unbroken : goal.invariant_of-self-2-clause-unbroken
invariant_of-self-2-clause-unbroken g c = λ told. c.args.self.now.unbroken (c.checkpoint.ensures.grows.counts.told (c.force.ensures.rests.counts.told told))

pub invariant_of-self-clause-unbroken : goal.invariant_of-self-clause-unbroken
invariant_of-self-clause-unbroken g c = λ told.
    let rows = take c.min-count.result c.in_order-ordered.result in
    absurd (rows_fit rows rows refl (let short = take_short c.min-count.result c.in_order-ordered.result in let m = c.min-count.ensures in omega (arith, short, m)) c.in_default.ensures.many)

pub returns-clause-kept : goal.returns-clause-kept
returns-clause-kept g c = λ limits t from m.
    let k = c.in_ok-checkpoint.ensures in
    let e = led from (g.E.Engine.view c.args.self.now.engine) in
    let e2 = led from (g.E.Engine.view c.force.new.self) in
    let s = mark_stays from _ k.grows (k.looks t from m) in
    let f = (look_call from c.force.ensures.rests (c.force.ensures.looks t from (k.means t from m))).stays in
    on_ok2 c.force.result (λ h h' told kept. kept_looked t limits e e2 c.args.self.now.maps _ c.args.self.now.rows.items _ c.args.self.now.actor _ (stayed_then s h) refl refl refl told kept) f f

pub invariant_of-self-2-clause-goes_on : goal.invariant_of-self-2-clause-goes_on
invariant_of-self-2-clause-goes_on g c = can_rest_told (g.E.Engine.view c.args.self.now.engine) (g.E.Engine.view c.force.new.self) _ _ (λ told. c.checkpoint.ensures.grows.counts.told (c.force.ensures.rests.counts.told told)) c.requires.quiet

pub returns-in_err-checkpoint-clause-hands : goal.returns-in_err-checkpoint-clause-hands
returns-in_err-checkpoint-clause-hands g c = let h = c.in_err-checkpoint.ensures.hands.most in omega (arith, h)

pub returns-clause-hands : goal.returns-clause-hands
returns-clause-hands g c =
    let text = take c.in-Some.size c.spell_rows.new.into in
    let short = length_taken c.in-Some.size c.spell_rows.new.into c.spell_rows.ensures.long in
    let long = long_checkpoint 0 text in
    forced_hands 1055 _ _ _ _ _ _ _ (omega (arith, short, long)) c.in_ok-checkpoint.ensures.hands c.force.ensures.hands

pub returns-clause-none_waits : goal.returns-clause-none_waits
returns-clause-none_waits g c = c.force.ensures.none_waits

pub returns-clause-marks : goal.returns-clause-marks
returns-clause-marks g c =
    let k = c.in_ok-checkpoint.ensures in
    on_ok_weaker c.force.result (λ stays told. (let m = k.marks told in record {
      ends = record { lsn = c.in_ok-checkpoint.field-0; estimate = m.estimate; appended = k.grows.placed.above; still = stays (k.grows.counts.tells told) c.in_ok-checkpoint.field-0 m.estimate m.last };
      estimates = m.estimates;
    })) c.force.ensures.marked

pub returns-clause-names : goal.returns-clause-names
returns-clause-names g c =
    let items = c.args.self.now.rows.items in
    let n = c.min-count.result in
    let rows = take n c.in_order-ordered.result in
    let least : n ≡ min 64 (length items) = (let m = c.min-count.ensures in omega (arith, m)) in
    let slice = c.as_slice.result.now in
    let is_all : slice ≡ items = c.as_slice.ensures.value in
    let front : take n slice ≡ take 64 items = ap (λ (xs : List Row). take n xs) is_all ∙ (ap (λ (k : ℕ). take k items) least ∙ take_min 64 items) in
    let long : length (take n slice) ≡ n = ap (λ (xs : List Row). length (take n xs)) is_all ∙ (let l = length-take n items in omega (arith, l, least)) in
    let is : take c.in-Some.size c.spell_rows.new.into ≡ rows_bytes rows = spelled_is c.spell_rows.result c.in-Some.size c.spell_rows.new.into rows rows c.in-Some.is c.spell_rows.ensures.spelled refl in
    let k = c.in_ok-checkpoint.ensures in
    let ordered = c.in_order-ordered.ensures in
    on_ok_weaker c.force.result (λ keeps told. (record {
      ordered = rows;
      same = subst (λ (xs : List Row). IsPermutation xs rows) front (subst (λ (m : ℕ). IsPermutation (take n slice) (take m c.in_order-ordered.result)) long ordered.same);
      rising = subst (λ (m : ℕ). IsNonDecreasingBy (λ r. r.txn.0) (take m c.in_order-ordered.result)) long ordered.rising;
      named = keeps (k.grows.counts.tells told) _ (subst (g.E.Engine.names _) is (k.names told));
    })) c.force.ensures.names

pub returns-in_err-checkpoint-clause-counts : goal.returns-in_err-checkpoint-clause-counts
returns-in_err-checkpoint-clause-counts g c =
    let p = err_from_is_err_and c.from_residual.result c.from_residual.ensures.1 in
    acts_err {T = ℕ} c.from_residual.result c.in_err-checkpoint.field-0.0 p.0 p.1 p.2 (g.met.E.Engine.told_whole _) (looked_none (g.E.Engine.view c.args.self.now.engine) c.args.self.now.breaks) c.in_err-checkpoint.ensures.grows.counts

pub returns-clause-counts : goal.returns-clause-counts
returns-clause-counts g c = acts_last c.force.result (g.met.E.Engine.told_whole _) (looked_engine c.args.self.now.breaks c.in_ok-checkpoint.ensures.grows.counts) c.force.ensures.rests.counts
