use Rattle.std.proofs.Common.{◌≡◌, false, true, sym, ap, ◌∙◌}
use Rattle.sg_record.specs.Shown.{shown_page}
use Rattle.sg_record.specs.Changes.Change.{Page}
use Rattle.sg_actions.specs.Changes.{meaning}
use Rattle.sg_actions.specs.Taken.{is_set, is_there}
use Rattle.sg_actions.proofs.Flags.{get_set, and_left}
use Rattle.sg_actions.proofs.Untaken.{untaken_none, untaken_page, no_page, taken_only}
use Rattle.sg_actions.proofs.settling.untake_page.Goals as goal

no : false ≡ true → ⊥
no e = cc

pub returns-then-c-ne1-clause-pages : goal.returns-then-c-ne1-clause-pages
returns-then-c-ne1-clause-pages c = untaken_none c.args.maps.now.pages c.args.unfreed.now.pages (meaning (Page (shown_page c.args.c.now))) c.requires (λ n f there. no (sym (no_page (shown_page c.args.c.now) c.if-c-ne1.true n) ∙ f))

pub returns-then-not-is_there-clause-pages : goal.returns-then-not-is_there-clause-pages
returns-then-not-is_there-clause-pages c = untaken_none c.args.maps.now.pages c.args.unfreed.now.pages (meaning (Page (shown_page c.args.c.now))) c.requires
    (λ n f there. no (c.if-not-is_there.ensures ∙ (ap (is_there c.args.maps.now.pages c.args.unfreed.now.pages) (sym (taken_only (shown_page c.args.c.now) n f)) ∙ there)))

pub free_page-requires : goal.free_page-requires
free_page-requires c = get_set c.args.maps.now.pages c.args.c.now.page.0 (and_left (is_set c.args.maps.now.pages c.args.c.now.page.0) (is_set c.args.unfreed.now.pages c.args.c.now.page.0) (sym c.if-not-is_there.ensures))

pub returns-clause-pages : goal.returns-clause-pages
returns-clause-pages c = untaken_page c.args.maps.now.pages c.args.unfreed.now.pages c.free_page.new.self.pages (shown_page c.args.c.now) c.requires (sym c.if-not-is_there.ensures)
    (get_set c.args.maps.now.pages c.args.c.now.page.0 (and_left (is_set c.args.maps.now.pages c.args.c.now.page.0) (is_set c.args.unfreed.now.pages c.args.c.now.page.0) (sym c.if-not-is_there.ensures))) c.free_page.ensures.pages c.if-c-ne1.false
