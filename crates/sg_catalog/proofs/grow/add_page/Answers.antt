use Rattle.std.proofs.Common.{◌≡◌, List, ℕ, subst, ◌∙◌}
use Rattle.sg_base.specs.Sheet.{Sheet}
use Rattle.sg_space.specs.Reads.{one_cell}
use Rattle.sg_space.specs.Units.{IsTaken}
use Rattle.sg_space.proofs.Known.{keeps_then}
use Rattle.sg_catalog.proofs.Growth.{last_there, page_turns}
use Rattle.sg_catalog.proofs.grow.add_page.Goals as goal

pub take_page_with-requires-clause-free : goal.take_page_with-requires-clause-free
take_page_with-requires-clause-free g c = λ told. (c.requires.can told).2.free

pub set_next-requires-clause-can : goal.set_next-requires-clause-can
set_next-requires-clause-can g c = λ told.
    let back = c.take_page_with.ensures.counts.told told in
    let h = c.requires.can back in
    last_there h.1 (h.2).at_last (c.in_ok-page.ensures.did.pages back)

pub returns-clause-did : goal.returns-clause-did
returns-clause-did g c =
    let took = c.in_ok-page.ensures.did in
    let linked = c.in_ok-set_next.ensures.did in
    record {
      keeps = λ t. keeps_then (record { told = took.told; may_take = took.may_take; may_have = took.may_have }) (linked.keeps (took.told t));
      turns = λ t d h can. (
        c.in_ok-page.page.0,
        page_turns h (record {
          at_last = can.at_last;
          took = subst (λ (cell : List ℕ). IsTaken (g.P.PageSpace.view c.args.space.now).space.pages (g.P.PageSpace.view c.take_page_with.new.space).space.pages c.in_ok-page.page.0 (λ (sheet : Sheet). sheet ≡ one_cell 1 cell)) c.spell_row-size.ensures.bytes (took.pages t);
          linked = linked.pages (took.told t);
          bands = linked.bands (took.told t) ∙ took.bands t;
          small = took.small;
          formed = c.spell_row-size.ensures.formed;
        }),
      );
    }

pub returns-in_err-set_next-clause-later : goal.returns-in_err-set_next-clause-later
returns-in_err-set_next-clause-later g c = g.met.P.PageSpace.later_then _ _ _ _ c.take_page_with.ensures.later c.set_next.ensures.later

pub returns-clause-later : goal.returns-clause-later
returns-clause-later g c = g.met.P.PageSpace.later_then _ _ _ _ c.take_page_with.ensures.later c.set_next.ensures.later
