use Rattle.std.proofs.Common.{◌≡◌, List, false}
use Rattle.sg_base.specs.Slotted.{is_slotted}
use Rattle.sg_phys_laws.proofs.Counted.{not_called}
use Rattle.sg_phys.proofs.Causes.{page_there, lost_leaf}
use Rattle.sg_phys.specs.Phys.{IsGiven}
use Rattle.sg_phys_laws.proofs.Waiting.{waits_then, waits_old, hands_read, on_err}
use Rattle.sg_phys.proofs.Causes.{failed_by, failed_read, page_kept}
use Rattle.sg_pool.specs.Pooled.{sizes}
use Rattle.sg_engine.proofs.Waits.{waits_forced, waits_kept}
use Rattle.sg_engine.specs.Calls.{WaitsFrame}
use Rattle.std.specs.Prelude.{Err}
use Rattle.std.proofs.Common.{rules, ◌<◌, true, sym, subst, arith, ℕ, max, ap, ◌∙◌}
use Rattle.sg_pages.specs.Parts.{parts}
use Rattle.sg_base.specs.Page.{IsSlotted}
use Rattle.sg_phys.proofs.Seen.{keeps_broken, keeps_look, looks_err, looks_ok, looks_stopped, none_made, rests_err, rests_ok, rests_stopped, some_broken, some_kept}
use Rattle.sg_phys_laws.proofs.Numbers.{kept_tail}
use Rattle.sg_pool.specs.Units.{Geometry}
use Rattle.sg_pages.proofs.engine.PhysEngine.load.Goals as goal

pub returns-then-self-clause-rests : goal.returns-then-self-clause-rests
returns-then-self-clause-rests g c = rests_stopped (IsGiven g.D.Disk.told g.D.Presumed.presumed) (parts g.D.Disk.view c.args.self.now) _ c.if-self.true (let b = c.saturating_add-self.ensures in search rules) (let b = c.saturating_add-self.ensures in search rules)

pub returns-then-self-clause-looks : goal.returns-then-self-clause-looks
returns-then-self-clause-looks g c = λ t from m. looks_stopped (IsGiven g.D.Disk.told g.D.Presumed.presumed) (parts g.D.Disk.view c.args.self.now) _ c.if-self.true (let b = c.saturating_add-self.ensures in search rules) (let b = c.saturating_add-self.ensures in search rules) t from

pub returns-then-self-clause-means : goal.returns-then-self-clause-means
returns-then-self-clause-means g c = λ t from m. m

pub returns-then-p-pages-clause-rests : goal.returns-then-p-pages-clause-rests
returns-then-p-pages-clause-rests g c = rests_err (IsGiven g.D.Disk.told g.D.Presumed.presumed) (parts g.D.Disk.view c.args.self.now) (g.D.Disk.view c.args.self.now.engine.disk) c.args.self.now.engine.log c.args.self.now.engine.pool {S = Unit {0}} _ c.if-self.false (let b = c.saturating_add-self-then-p-pages.ensures in search rules) (let b = c.saturating_add-self-then-p-pages.ensures in search rules) (not_called (g.D.Disk.view c.args.self.now.engine.disk) c.args.self.now.engine.log c.args.self.now.engine.pool) (λ tell. let here = page_there (g.D.Disk.view c.args.self.now.engine.disk) c.args.self.now.engine.pool c.args.p.0 (c.requires.there tell) in let lt = here.0 in absurd (omega (arith, lt, c.if-p-pages.true, c.pages.ensures)))

pub returns-then-p-pages-clause-looks : goal.returns-then-p-pages-clause-looks
returns-then-p-pages-clause-looks g c = λ t from m. looks_err (IsGiven g.D.Disk.told g.D.Presumed.presumed) (parts g.D.Disk.view c.args.self.now) (g.D.Disk.view c.args.self.now.engine.disk) c.args.self.now.engine.log c.args.self.now.engine.pool t from m _ (none_made (IsGiven g.D.Disk.told g.D.Presumed.presumed) (parts g.D.Disk.view c.args.self.now))

pub returns-then-p-pages-clause-means : goal.returns-then-p-pages-clause-means
returns-then-p-pages-clause-means g c = λ t from m. keeps_broken (IsGiven g.D.Disk.told g.D.Presumed.presumed) (parts g.D.Disk.view c.args.self.now) (g.D.Disk.view c.args.self.now.engine.disk) c.args.self.now.engine.log c.args.self.now.engine.pool t from m

pub invariant_of-self-then-p-pages-clause-some : goal.invariant_of-self-then-p-pages-clause-some
invariant_of-self-then-p-pages-clause-some g c = some_broken (IsGiven g.D.Disk.told g.D.Presumed.presumed) (parts g.D.Disk.view c.args.self.now).past (g.D.Disk.view c.args.self.now.engine.disk) c.args.self.now.engine.log c.args.self.now.engine.pool

pub returns-in-Err-clause-rests : goal.returns-in-Err-clause-rests
returns-in-Err-clause-rests g c = rests_err (IsGiven g.D.Disk.told g.D.Presumed.presumed) (parts g.D.Disk.view c.args.self.now) (g.D.Disk.view c.load_page.new.self.disk) c.load_page.new.self.log c.load_page.new.self.pool {S = Unit {0}} _ c.if-self.false (let b = c.saturating_add-self-in-Err.ensures in search rules) (let b = c.saturating_add-self-in-Err.ensures in search rules) (record { later = c.load_page.ensures.later; heeded = tt; hands = c.load_page.ensures.grown; size = c.load_page.ensures.size }) (failed_by (IsGiven g.D.Disk.told g.D.Presumed.presumed) (parts g.D.Disk.view c.args.self.now) c.args.self.now.some (g.D.Disk.view c.load_page.new.self.disk) (λ o ds ps given e. c.load_page.ensures.failed o ds ps given.0 e (c.in-Err.is ∙ ap Err c.in-Err.ensures.fault)))

pub returns-in-Err-clause-looks : goal.returns-in-Err-clause-looks
returns-in-Err-clause-looks g c = λ t from m. looks_err (IsGiven g.D.Disk.told g.D.Presumed.presumed) (parts g.D.Disk.view c.args.self.now) (g.D.Disk.view c.load_page.new.self.disk) c.load_page.new.self.log c.load_page.new.self.pool t from m _ (λ o tells e k early. c.load_page.ensures.moments o _ _ k tells.0 e early)

pub returns-in-Err-clause-means : goal.returns-in-Err-clause-means
returns-in-Err-clause-means g c = λ t from m. keeps_broken (IsGiven g.D.Disk.told g.D.Presumed.presumed) (parts g.D.Disk.view c.args.self.now) (g.D.Disk.view c.load_page.new.self.disk) c.load_page.new.self.log c.load_page.new.self.pool t from m

pub invariant_of-self-in-Err-clause-some : goal.invariant_of-self-in-Err-clause-some
invariant_of-self-in-Err-clause-some g c = some_broken (IsGiven g.D.Disk.told g.D.Presumed.presumed) (parts g.D.Disk.view c.args.self.now).past (g.D.Disk.view c.load_page.new.self.disk) c.load_page.new.self.log c.load_page.new.self.pool

pub page-requires-clause-page : goal.page-requires-clause-page
page-requires-clause-page g c = subst (λ (n : Geometry). c.args.p.0 < n.pages) (sym c.load_page.ensures.size) (omega (arith, c.if-p-pages.false, c.pages.ensures))

pub returns-then-is_none-clause-rests : goal.returns-then-is_none-clause-rests
returns-then-is_none-clause-rests g c = rests_err (IsGiven g.D.Disk.told g.D.Presumed.presumed) (parts g.D.Disk.view c.args.self.now) (g.D.Disk.view c.load_page.new.self.disk) c.load_page.new.self.log c.load_page.new.self.pool {S = Unit {0}} _ c.if-self.false (let b = c.saturating_add-self-then-is_none.ensures in search rules) (let b = c.saturating_add-self-then-is_none.ensures in search rules) (record { later = c.load_page.ensures.later; heeded = tt; hands = c.load_page.ensures.grown; size = c.load_page.ensures.size }) (λ tell. absurd (page_kept (IsGiven g.D.Disk.told g.D.Presumed.presumed) (parts g.D.Disk.view c.args.self.now) (g.D.Disk.view c.load_page.new.self.disk) c.load_page.new.self.log c.load_page.new.self.pool c.args.p.0 c.args.self.now.some (λ o tells e. record { gone = c.in-Ok.ensures.goes_on o _ _ tells.0 e; allowed = λ k early. c.in-Ok.ensures.allowed o _ _ k tells.0 e early }) (λ o tells e k early. c.load_page.ensures.moments o _ _ k tells.0 e early) c.requires.there (lost_leaf _ (subst (λ (page : List ℕ). is_slotted page ≡ false) c.page.ensures.held (let h = c.view.ensures.answer in let n = c.is_none.ensures in let f = c.if-is_none.true in search rules))) tell))

pub returns-then-is_none-clause-looks : goal.returns-then-is_none-clause-looks
returns-then-is_none-clause-looks g c = λ t from m. looks_err (IsGiven g.D.Disk.told g.D.Presumed.presumed) (parts g.D.Disk.view c.args.self.now) (g.D.Disk.view c.load_page.new.self.disk) c.load_page.new.self.log c.load_page.new.self.pool t from m _ (λ o tells e k early. c.load_page.ensures.moments o _ _ k tells.0 e early)

pub returns-then-is_none-clause-means : goal.returns-then-is_none-clause-means
returns-then-is_none-clause-means g c = λ t from m. keeps_broken (IsGiven g.D.Disk.told g.D.Presumed.presumed) (parts g.D.Disk.view c.args.self.now) (g.D.Disk.view c.load_page.new.self.disk) c.load_page.new.self.log c.load_page.new.self.pool t from m

pub invariant_of-self-then-is_none-clause-some : goal.invariant_of-self-then-is_none-clause-some
invariant_of-self-then-is_none-clause-some g c = some_broken (IsGiven g.D.Disk.told g.D.Presumed.presumed) (parts g.D.Disk.view c.args.self.now).past (g.D.Disk.view c.load_page.new.self.disk) c.load_page.new.self.log c.load_page.new.self.pool

pub returns-clause-loaded : goal.returns-clause-loaded
returns-clause-loaded g c = record { page = subst (λ (n : Geometry). c.args.p.0 < n.pages) (sym c.load_page.ensures.size) (omega (arith, c.if-p-pages.false, c.pages.ensures)); held = c.in-Ok.ensures.held; slotted = subst IsSlotted c.page.ensures.held (let h = c.view.ensures in let n = c.is_none.ensures in let f = c.if-is_none.false in search rules) }

pub invariant_of-self-2-clause-ends : goal.invariant_of-self-2-clause-ends
invariant_of-self-2-clause-ends g c = λ whole. c.max-self.ensures ∙ ap (λ (n : ℕ). max n 1) c.tail.ensures

pub returns-clause-means : goal.returns-clause-means
returns-clause-means g c = λ t from m. keeps_look (IsGiven g.D.Disk.told g.D.Presumed.presumed) (parts g.D.Disk.view c.args.self.now) (g.D.Disk.view c.load_page.new.self.disk) c.load_page.new.self.log c.load_page.new.self.pool t from m (λ o tells e. record { gone = c.in-Ok.ensures.goes_on o _ _ tells.0 e; allowed = λ k early. c.in-Ok.ensures.allowed o _ _ k tells.0 e early })

pub invariant_of-self-2-clause-some : goal.invariant_of-self-2-clause-some
invariant_of-self-2-clause-some g c = some_kept (IsGiven g.D.Disk.told g.D.Presumed.presumed) c.args.self.now.failed (parts g.D.Disk.view c.args.self.now).past (g.D.Disk.view c.args.self.now.engine.disk) (g.D.Disk.view c.load_page.new.self.disk) c.args.self.now.engine.log c.load_page.new.self.log c.args.self.now.engine.pool c.load_page.new.self.pool (λ t from m. keeps_look (IsGiven g.D.Disk.told g.D.Presumed.presumed) (parts g.D.Disk.view c.args.self.now) (g.D.Disk.view c.load_page.new.self.disk) c.load_page.new.self.log c.load_page.new.self.pool t from m (λ o tells e. record { gone = c.in-Ok.ensures.goes_on o _ _ tells.0 e; allowed = λ k early. c.in-Ok.ensures.allowed o _ _ k tells.0 e early })) c.args.self.now.some

pub returns-clause-rests : goal.returns-clause-rests
returns-clause-rests g c = rests_ok (IsGiven g.D.Disk.told g.D.Presumed.presumed) (parts g.D.Disk.view c.args.self.now) (g.D.Disk.view c.load_page.new.self.disk) c.load_page.new.self.log c.load_page.new.self.pool {S = Unit {0}} _ tt c.max-self.result _ (c.args.self.now.gates c.if-self.false) c.durable-self.ensures (record { later = c.load_page.ensures.later; heeded = c.in-Ok.ensures.heeded; hands = c.load_page.ensures.grown; size = c.load_page.ensures.size }) c.if-self.false (let e = c.args.self.now.ends c.if-self.false in let n = c.max-self.ensures ∙ ap (λ (k : ℕ). max k 1) c.tail.ensures in let k = kept_tail c.args.self.now.engine.log c.load_page.new.self.log c.in-Ok.ensures.log_kept in omega (arith, e, n, k))

pub returns-clause-looks : goal.returns-clause-looks
returns-clause-looks g c = λ t from m. looks_ok (IsGiven g.D.Disk.told g.D.Presumed.presumed) (parts g.D.Disk.view c.args.self.now) (g.D.Disk.view c.load_page.new.self.disk) c.load_page.new.self.log c.load_page.new.self.pool t from m _ c.max-self.result _ (λ o tells e. record { gone = c.in-Ok.ensures.goes_on o _ _ tells.0 e; allowed = λ k early. c.in-Ok.ensures.allowed o _ _ k tells.0 e early }) (λ o tells e k early. c.load_page.ensures.moments o _ _ k tells.0 e early)
