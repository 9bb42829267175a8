use Rattle.std.proofs.Common.{true, sym, length, arith, refl}
use Rattle.sg_actions.proofs.Freeing.{there_flag}
use Rattle.sg_actions.specs.Onward.{later_same}
use Rattle.sg_actions.proofs.Untold.{none_there}
use Rattle.sg_actions.proofs.Counted.{shown_break}
use Rattle.sg_actions.proofs.acts.ActsPageSpace.free_page.Goals as goal

pub free_page-requires : goal.free_page-requires
free_page-requires g c = there_flag c.args.self.now.maps.pages c.args.self.now.unfreed.pages c.args.p.0 (sym c.if-not-has_page.ensures)

pub returns-clause-later : goal.returns-clause-later
returns-clause-later g c = λ t. later_same {strict = true} g.E.Engine.recovers (g.E.Engine.limits (length c.args.self.now.maps.pages) (length c.args.self.now.maps.bands)) t _ (g.met.E.Engine.told_whole _) (λ from m told. g.met.E.Engine.images _ t from m.stands told)

pub invariant_of-self-clause-unbroken : goal.invariant_of-self-clause-unbroken
invariant_of-self-clause-unbroken g c = λ told. absurd (none_there c.args.self.now.maps.pages c.args.self.now.unfreed.pages (g.E.Engine.view c.args.self.now.engine).now.pages c.args.p.0 (sym c.if-not-has_page.ensures) (c.requires told))

pub returns-then-not-has_page-clause-counts : goal.returns-then-not-has_page-clause-counts
returns-then-not-has_page-clause-counts g c = shown_break (g.E.Engine.limits (length c.args.self.now.maps.pages) (length c.args.self.now.maps.bands)) (g.E.Engine.limits (length c.args.self.now.maps.pages) (length c.args.self.now.maps.bands)) (g.E.Engine.view c.args.self.now.engine) (g.E.Engine.view c.args.self.now.engine) c.args.self.now.begun c.args.self.now.begun (g.E.Engine.view c.args.self.now.begun_at.value).now (g.E.Engine.view c.args.self.now.begun_at.value).now c.args.self.now.breaks c.count_break.new.breaks c.args.self.now.maps c.args.self.now.maps c.args.self.now.unfreed c.args.self.now.unfreed c.count_break.result c.count_break.ensures.answer (λ t. t) refl c.count_break.ensures.risen c.count_break.ensures.later

pub returns-clause-counts : goal.returns-clause-counts
returns-clause-counts g c = record { told = λ t. t; later = omega arith; quiet = refl; disk = tt; log_end = tt }
