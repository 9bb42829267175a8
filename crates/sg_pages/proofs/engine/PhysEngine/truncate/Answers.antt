use Rattle.sg_phys.specs.Phys.{IsGiven}
use Rattle.sg_phys_laws.proofs.Waiting.{waits_then, waits_old, hands_read, on_err}
use Rattle.sg_phys.proofs.Causes.{failed_by, failed_read, page_kept}
use Rattle.sg_pool.specs.Pooled.{sizes}
use Rattle.sg_engine.proofs.Waits.{waits_forced, waits_kept}
use Rattle.sg_engine.specs.Calls.{WaitsFrame}
use Rattle.std.specs.Prelude.{Err}
use Rattle.std.proofs.Common.{rules, true, ap, ◌∙◌, Ok, Err, arith, ℕ, max}
use Rattle.sg_space.specs.declared.space.SpaceFault.{SpaceFault}
use Rattle.sg_space.specs.declared.space.SpaceFault.TheVariants.{Disk}
use Rattle.sg_pages.specs.Parts.{parts}
use Rattle.sg_log.proofs.Holding.{tail_forced}
use Rattle.sg_log.specs.Held.{tail_of}
use Rattle.sg_phys.proofs.Seen.{forced_then, hands_none, keeps_broken, keeps_look, looks_err, looks_ok, looks_stopped, rests_err, rests_ok, rests_stopped, some_broken, some_kept}
use Rattle.sg_phys.specs.Phys.{looked}
use Rattle.sg_phys_laws.proofs.Handing.{hands_forced, none_waits}
use Rattle.sg_phys_laws.proofs.Poised.{rested_forced}
use Rattle.sg_pages.proofs.Marking.{forced_ends}
use Rattle.std.proofs.Common.{◌≡◌, [], Option, refl, sym, subst, length}
use Rattle.sg_log.specs.Held.{Tail}
use Rattle.sg_pool.specs.Pooled.{IsUnwritten}
use Rattle.sg_pool.specs.declared.pool.Pool.{Pool}
use Rattle.sg_recovery.specs.Log.{tally}
use Rattle.sg_actions.specs.Cutting.{IsOldest}
use Rattle.sg_checkpoints.specs.Cutting.{IsCut}
use Rattle.sg_actions.specs.Steps.{Steps}
use Rattle.sg_phys_laws.specs.Recovers.{RecoversBy}
use Rattle.sg_phys.specs.Phys.{StandsForSome, IsSpent, first_end, last_in, seen_by}
use Rattle.sg_phys_laws.specs.Reading.{durable_in}
use Rattle.sg_phys.proofs.Cutting.{none_buffered, told_last, told_steps}
use Rattle.sg_phys.proofs.Then.{ok_more, looks_then, rests_then}
use Rattle.sg_pages.proofs.engine.PhysEngine.truncate.Goals as goal

pub returns-then-self-clause-rests : goal.returns-then-self-clause-rests
returns-then-self-clause-rests g c = rests_stopped (IsGiven g.D.Disk.told g.D.Presumed.presumed) (parts g.D.Disk.view c.args.self.now) _ c.if-self.true (let b = c.saturating_add-self.ensures in search rules) (let b = c.saturating_add-self.ensures in search rules)

pub returns-then-self-clause-looks : goal.returns-then-self-clause-looks
returns-then-self-clause-looks g c = λ t from m. looks_stopped (IsGiven g.D.Disk.told g.D.Presumed.presumed) (parts g.D.Disk.view c.args.self.now) _ c.if-self.true (let b = c.saturating_add-self.ensures in search rules) (let b = c.saturating_add-self.ensures in search rules) t from

pub returns-then-self-clause-means : goal.returns-then-self-clause-means
returns-then-self-clause-means g c = λ t from m. m

pub invariant_of-self-in-Ok-clause-ends : goal.invariant_of-self-in-Ok-clause-ends
invariant_of-self-in-Ok-clause-ends g c = λ whole. c.max-self.ensures ∙ ap (λ (n : ℕ). max n 1) c.tail.ensures

pub invariant_of-self-in-Ok-clause-some : goal.invariant_of-self-in-Ok-clause-some
invariant_of-self-in-Ok-clause-some g c = some_kept (IsGiven g.D.Disk.told g.D.Presumed.presumed) c.args.self.now.failed (parts g.D.Disk.view c.args.self.now).past (g.D.Disk.view c.args.self.now.engine.disk) (g.D.Disk.view c.force.new.self.disk) c.args.self.now.engine.log c.force.new.self.log c.args.self.now.engine.pool c.force.new.self.pool (λ t from m. keeps_look (IsGiven g.D.Disk.told g.D.Presumed.presumed) (parts g.D.Disk.view c.args.self.now) (g.D.Disk.view c.force.new.self.disk) c.force.new.self.log c.force.new.self.pool t from m (λ o tells e. rested_forced o (g.D.Disk.view c.args.self.now.engine.disk) (g.D.Disk.view c.force.new.self.disk) c.args.self.now.engine.log c.force.new.self.log c.args.self.now.engine.pool c.force.new.self.pool _ _ (c.in-Ok.ensures.goes_on o _ _ tells.0 e) (λ k early. c.in-Ok.ensures.allowed o _ _ k tells.0 e early))) c.args.self.now.some

pub returns-in-Err-clause-rests : goal.returns-in-Err-clause-rests
returns-in-Err-clause-rests g c = rests_err (IsGiven g.D.Disk.told g.D.Presumed.presumed) (parts g.D.Disk.view c.args.self.now) (g.D.Disk.view c.force.new.self.disk) c.force.new.self.log c.force.new.self.pool {S = Unit {0}} _ c.if-self.false (let b = c.saturating_add-self-in-Err.ensures in search rules) (let b = c.saturating_add-self-in-Err.ensures in search rules) (record { later = c.force.ensures.later; heeded = tt; hands = c.force.ensures.grown; size = ap sizes c.force.ensures.pool }) (λ tell. c.force.ensures.failed (c.in-Err.is ∙ ap Err c.in-Err.ensures.fault))

pub returns-in-Err-clause-looks : goal.returns-in-Err-clause-looks
returns-in-Err-clause-looks g c = λ t from m. looks_err (IsGiven g.D.Disk.told g.D.Presumed.presumed) (parts g.D.Disk.view c.args.self.now) (g.D.Disk.view c.force.new.self.disk) c.force.new.self.log c.force.new.self.pool t from m _ (λ o tells e k early. c.force.ensures.moments o _ _ k tells.0 e early)

pub returns-in-Err-clause-means : goal.returns-in-Err-clause-means
returns-in-Err-clause-means g c = λ t from m. keeps_broken (IsGiven g.D.Disk.told g.D.Presumed.presumed) (parts g.D.Disk.view c.args.self.now) (g.D.Disk.view c.force.new.self.disk) c.force.new.self.log c.force.new.self.pool t from m

pub invariant_of-self-in-Err-clause-some : goal.invariant_of-self-in-Err-clause-some
invariant_of-self-in-Err-clause-some g c = some_broken (IsGiven g.D.Disk.told g.D.Presumed.presumed) (parts g.D.Disk.view c.args.self.now).past (g.D.Disk.view c.force.new.self.disk) c.force.new.self.log c.force.new.self.pool

pub cut_front-requires-clause-whole : goal.cut_front-requires-clause-whole
cut_front-requires-clause-whole g c = c.if-self.false

pub cut_front-requires-clause-empty : goal.cut_front-requires-clause-empty
cut_front-requires-clause-empty g c = ap (λ (l : Tail). length l.buffer) c.in-Ok.ensures.log ∙ none_buffered c.args.self.now.engine.log

pub cut_front-requires-clause-idle : goal.cut_front-requires-clause-idle
cut_front-requires-clause-idle g c = λ tell. subst (λ (rs : Steps). (tally rs).opened ≡ []) (told_steps (IsGiven g.D.Disk.told g.D.Presumed.presumed) (parts g.D.Disk.view c.args.self.now) (g.D.Disk.view c.force.new.self.disk) c.force.new.self.log c.force.new.self.pool c.max-self.result c.durable-self.result c.args.self.now.some (λ o tells e. rested_forced o (g.D.Disk.view c.args.self.now.engine.disk) (g.D.Disk.view c.force.new.self.disk) c.args.self.now.engine.log c.force.new.self.log c.args.self.now.engine.pool c.force.new.self.pool _ _ (c.in-Ok.ensures.goes_on o _ _ tells.0 e) (λ k early. c.in-Ok.ensures.allowed o _ _ k tells.0 e early)) (λ o tells e k early. c.force.ensures.moments o _ _ k tells.0 e early) tell) (c.requires.idle tell)

pub cut_front-requires-clause-oldest : goal.cut_front-requires-clause-oldest
cut_front-requires-clause-oldest g c = λ tell. subst (λ (rs : Steps). IsOldest c.args.oldest (tally rs).live) (told_steps (IsGiven g.D.Disk.told g.D.Presumed.presumed) (parts g.D.Disk.view c.args.self.now) (g.D.Disk.view c.force.new.self.disk) c.force.new.self.log c.force.new.self.pool c.max-self.result c.durable-self.result c.args.self.now.some (λ o tells e. rested_forced o (g.D.Disk.view c.args.self.now.engine.disk) (g.D.Disk.view c.force.new.self.disk) c.args.self.now.engine.log c.force.new.self.log c.args.self.now.engine.pool c.force.new.self.pool _ _ (c.in-Ok.ensures.goes_on o _ _ tells.0 e) (λ k early. c.in-Ok.ensures.allowed o _ _ k tells.0 e early)) (λ o tells e k early. c.force.ensures.moments o _ _ k tells.0 e early) tell) (c.requires.oldest tell)

pub returns-in-Ok-clause-rests : goal.returns-in-Ok-clause-rests
returns-in-Ok-clause-rests g c = rests_then {S = Unit {0}} (seen_by (IsGiven g.D.Disk.told g.D.Presumed.presumed) (parts g.D.Disk.view c.args.self.now)) (seen_by (IsGiven g.D.Disk.told g.D.Presumed.presumed) (looked (parts g.D.Disk.view c.args.self.now) (g.D.Disk.view c.force.new.self.disk) c.force.new.self.log c.force.new.self.pool c.max-self.result c.durable-self.result)) _ tt c.cut_front.result refl (rests_ok (IsGiven g.D.Disk.told g.D.Presumed.presumed) (parts g.D.Disk.view c.args.self.now) (g.D.Disk.view c.force.new.self.disk) c.force.new.self.log c.force.new.self.pool {S = Unit {0}} _ tt c.max-self.result _ (c.args.self.now.gates c.if-self.false) c.durable-self.ensures (record { later = c.force.ensures.later; heeded = c.in-Ok.ensures.heeded; hands = c.force.ensures.grown; size = ap sizes c.force.ensures.pool }) c.if-self.false (let e = c.args.self.now.ends c.if-self.false in let n = c.max-self.ensures ∙ ap (λ (k : ℕ). max k 1) c.tail.ensures in let k = ap tail_of c.in-Ok.ensures.log ∙ tail_forced c.args.self.now.engine.log in omega (arith, e, n, k))) c.cut_front.ensures.rests

pub returns-in-Ok-clause-means : goal.returns-in-Ok-clause-means
returns-in-Ok-clause-means g c = λ t from m. c.cut_front.ensures.means t from (keeps_look (IsGiven g.D.Disk.told g.D.Presumed.presumed) (parts g.D.Disk.view c.args.self.now) (g.D.Disk.view c.force.new.self.disk) c.force.new.self.log c.force.new.self.pool t from m (λ o tells e. rested_forced o (g.D.Disk.view c.args.self.now.engine.disk) (g.D.Disk.view c.force.new.self.disk) c.args.self.now.engine.log c.force.new.self.log c.args.self.now.engine.pool c.force.new.self.pool _ _ (c.in-Ok.ensures.goes_on o _ _ tells.0 e) (λ k early. c.in-Ok.ensures.allowed o _ _ k tells.0 e early)))

pub returns-in-Ok-clause-looks : goal.returns-in-Ok-clause-looks
returns-in-Ok-clause-looks g c = λ t from m. looks_then {S = Unit {0}} (RecoversBy t) t from (seen_by (IsGiven g.D.Disk.told g.D.Presumed.presumed) (parts g.D.Disk.view c.args.self.now)) (seen_by (IsGiven g.D.Disk.told g.D.Presumed.presumed) (looked (parts g.D.Disk.view c.args.self.now) (g.D.Disk.view c.force.new.self.disk) c.force.new.self.log c.force.new.self.pool c.max-self.result c.durable-self.result)) _ tt c.cut_front.result (λ s. s) (looks_ok (IsGiven g.D.Disk.told g.D.Presumed.presumed) (parts g.D.Disk.view c.args.self.now) (g.D.Disk.view c.force.new.self.disk) c.force.new.self.log c.force.new.self.pool t from m _ c.max-self.result _ (λ o tells e. rested_forced o (g.D.Disk.view c.args.self.now.engine.disk) (g.D.Disk.view c.force.new.self.disk) c.args.self.now.engine.log c.force.new.self.log c.args.self.now.engine.pool c.force.new.self.pool _ _ (c.in-Ok.ensures.goes_on o _ _ tells.0 e) (λ k early. c.in-Ok.ensures.allowed o _ _ k tells.0 e early)) (λ o tells e k early. c.force.ensures.moments o _ _ k tells.0 e early)) (c.cut_front.ensures.looks t from (keeps_look (IsGiven g.D.Disk.told g.D.Presumed.presumed) (parts g.D.Disk.view c.args.self.now) (g.D.Disk.view c.force.new.self.disk) c.force.new.self.log c.force.new.self.pool t from m (λ o tells e. rested_forced o (g.D.Disk.view c.args.self.now.engine.disk) (g.D.Disk.view c.force.new.self.disk) c.args.self.now.engine.log c.force.new.self.log c.args.self.now.engine.pool c.force.new.self.pool _ _ (c.in-Ok.ensures.goes_on o _ _ tells.0 e) (λ k early. c.in-Ok.ensures.allowed o _ _ k tells.0 e early))))

pub returns-in-Ok-clause-forced : goal.returns-in-Ok-clause-forced
returns-in-Ok-clause-forced g c = λ t from m. c.cut_front.ensures.forced t from (keeps_look (IsGiven g.D.Disk.told g.D.Presumed.presumed) (parts g.D.Disk.view c.args.self.now) (g.D.Disk.view c.force.new.self.disk) c.force.new.self.log c.force.new.self.pool t from m (λ o tells e. rested_forced o (g.D.Disk.view c.args.self.now.engine.disk) (g.D.Disk.view c.force.new.self.disk) c.args.self.now.engine.log c.force.new.self.log c.args.self.now.engine.pool c.force.new.self.pool _ _ (c.in-Ok.ensures.goes_on o _ _ tells.0 e) (λ k early. c.in-Ok.ensures.allowed o _ _ k tells.0 e early)))

pub returns-in-Ok-clause-cuts : goal.returns-in-Ok-clause-cuts
returns-in-Ok-clause-cuts g c =
    let some : StandsForSome (IsGiven g.D.Disk.told g.D.Presumed.presumed) c.args.self.now.failed (parts g.D.Disk.view c.args.self.now).past (g.D.Disk.view c.force.new.self.disk) c.force.new.self.log c.force.new.self.pool = some_kept (IsGiven g.D.Disk.told g.D.Presumed.presumed) c.args.self.now.failed (parts g.D.Disk.view c.args.self.now).past (g.D.Disk.view c.args.self.now.engine.disk) (g.D.Disk.view c.force.new.self.disk) c.args.self.now.engine.log c.force.new.self.log c.args.self.now.engine.pool c.force.new.self.pool (λ t from m. keeps_look (IsGiven g.D.Disk.told g.D.Presumed.presumed) (parts g.D.Disk.view c.args.self.now) (g.D.Disk.view c.force.new.self.disk) c.force.new.self.log c.force.new.self.pool t from m (λ o tells e. rested_forced o (g.D.Disk.view c.args.self.now.engine.disk) (g.D.Disk.view c.force.new.self.disk) c.args.self.now.engine.log c.force.new.self.log c.args.self.now.engine.pool c.force.new.self.pool _ _ (c.in-Ok.ensures.goes_on o _ _ tells.0 e) (λ k early. c.in-Ok.ensures.allowed o _ _ k tells.0 e early))) c.args.self.now.some in
    ok_more c.cut_front.result
    (λ does tell.
    let last : last_in (g.D.Disk.view c.force.new.self.disk) c.force.new.self.log ≡ last_in (g.D.Disk.view c.args.self.now.engine.disk) c.args.self.now.engine.log =
    sym (told_last (IsGiven g.D.Disk.told g.D.Presumed.presumed) (looked (parts g.D.Disk.view c.args.self.now) (g.D.Disk.view c.force.new.self.disk) c.force.new.self.log c.force.new.self.pool c.max-self.result c.durable-self.result) some tell) ∙ told_last (IsGiven g.D.Disk.told g.D.Presumed.presumed) (parts g.D.Disk.view c.args.self.now) c.args.self.now.some tell in
    subst (λ (b : Pool). IsCut (IsUnwritten b) c.args.oldest (last_in (g.D.Disk.view c.args.self.now.engine.disk) c.args.self.now.engine.log) (IsSpent c.args.self.now.superblock) c.args.self.now.superblock.base c.cut_front.new.self.superblock.base (first_end c.cut_front.new.self.superblock.base (durable_in (g.D.Disk.view c.cut_front.new.self.engine.disk) c.cut_front.new.self.engine.log))) c.force.ensures.pool
    (subst (λ (k : Option ℕ). IsCut (IsUnwritten c.force.new.self.pool) c.args.oldest k (IsSpent c.args.self.now.superblock) c.args.self.now.superblock.base c.cut_front.new.self.superblock.base (first_end c.cut_front.new.self.superblock.base (durable_in (g.D.Disk.view c.cut_front.new.self.engine.disk) c.cut_front.new.self.engine.log))) last (does tell)))
    c.cut_front.ensures.cuts
