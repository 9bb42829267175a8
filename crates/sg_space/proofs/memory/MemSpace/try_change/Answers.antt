use Rattle.std.proofs.Common.{Some, ap, sym, ◌∙◌}
use Rattle.std.proofs.lemmas.Option.{get_or_from_slice_get}
use Rattle.sg_base.specs.Sheet.{Sheet, sheet_of}
use Rattle.sg_space.specs.Memory.{sheet_in, bytes_in}
use Rattle.sg_space.specs.Flagged.{units_of}
use Rattle.sg_space.specs.Units.{Units}
use Rattle.sg_space.proofs.InMemory.{is_there}
use Rattle.sg_space.proofs.Tried.{tried_did, tried_same, on_false_then}
use Rattle.sg_space.proofs.memory.MemSpace.try_change.Goals as goal

pub returns-clause-did : goal.returns-clause-did
returns-clause-did g c =
    let s = c.args.self.now in
    let there = is_there sheet_in s.maps.pages s.pages.items c.args.p.0 c.requires in
    let at = there.at ∙ ap Some (sym (c.index_mut-page.ensures.value ∙ get_or_from_slice_get s.pages.items c.args.p.0 there.item c.index_mut-page.result.now there.at)) in
    tried_did sheet_in s.maps.pages s.pages.items c.args.p.0 c.index_mut-page.result.now c.try_change.new.self _ c.try_change.result c.requires at c.try_change.ensures.done

pub returns-clause-same : goal.returns-clause-same
returns-clause-same g c =
    let s = c.args.self.now in
    let there = is_there sheet_in s.maps.pages s.pages.items c.args.p.0 c.requires in
    let at = there.at ∙ ap Some (sym (c.index_mut-page.ensures.value ∙ get_or_from_slice_get s.pages.items c.args.p.0 there.item c.index_mut-page.result.now there.at)) in
    on_false_then c.try_change.result (λ e. ap (λ (pages : Units Sheet). record { pages = pages; bands = units_of bytes_in s.maps.bands s.bands.items }) e)
    (tried_same sheet_in s.maps.pages s.pages.items c.args.p.0 c.index_mut-page.result.now c.try_change.new.self c.try_change.result at (on_false_then c.try_change.result (λ e. ap sheet_of e) c.try_change.ensures.same))
