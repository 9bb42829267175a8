use Rattle.std.proofs.Common.{◌∙◌, ◌∷◌, [], List, Result, Err, refl, sym, subst, slice_index_or, arith}
use Rattle.sg_array.proofs.Links.{still_array}
use Rattle.sg_lines.specs.Heard.{HasHeard}
use Rattle.sg_lines.specs.Parts.{Part, item_parts}
use Rattle.sg_lines.specs.Parts.Part.{AnItem}
use Rattle.sg_listing.specs.Telling.{OnlyTold, CountsEars, IsTold}
use Rattle.sg_listing.specs.declared.fault.TellFault.{TellFault}
use Rattle.sg_listing.proofs.Parts.{no_items, more_items, items_behind}
use Rattle.sg_listing.proofs.Telling.{handed, read_nothing, read_on, told_read, told_then, heard_nothing, heard_on, told_on, told_before, counts_on}
use Rattle.sg_listing.proofs.array.tell_items.Goals as goal

pub items-init : goal.items-init
items-init g c = record {
  read = read_nothing;
  later = λ t. g.met.P.PageSpace.later_same t _;
  means = λ t m. m;
  heard = λ shows a is size. subst (λ (ps : List Part). HasHeard g.L.Listener.ears c.args.to.now ps c.args.to.now) (sym (no_items a.items)) (heard_nothing g.L.Listener.ears c.args.to.now);
  quiet = refl;
  same = refl;
}

pub tell_item-requires-clause-there : goal.tell_item-requires-clause-there
tell_item-requires-clause-there g c = λ told.
    let i = c.items.invariant in
    let back = i.read.back told in
    let h = c.requires.there back in
    let test = c.items-test.true in
    (h.0, still_array i.read.kept (g.met.P.PageSpace.told_shows _ back) h.1, omega arith)

pub items-preserved : goal.items-preserved
items-preserved g c =
    let i = c.items.invariant in
    let ok = c.in_ok-tell_item.ensures in
    record {
      read = read_on i.read (told_read _ ok.space);
      later = λ t. g.met.P.PageSpace.later_then t _ _ _ (i.later t) (c.tell_item.ensures.later t);
      means = λ t m. c.tell_item.ensures.means t (i.means t m);
      heard = λ shows a is size.
          let one = ok.heard (i.read.kept.shows shows) a (still_array i.read.kept shows is) size in
          subst (λ (ps : List Part). HasHeard g.L.Listener.ears c.args.to.now ps c.tell_item.new.to) (sym (more_items c.items.index a.items))
          (heard_on g.L.Listener.ears (item_parts c.items.index a.items) (AnItem c.items.index (slice_index_or a.items c.items.index []) ∷ []) (i.heard shows a is size) one);
      quiet = ok.listener.counted ∙ i.quiet;
      same = ok.listener.same ∙ i.same;
    }

pub returns-in_err-tell_item-clause-space : goal.returns-in_err-tell_item-clause-space
returns-in_err-tell_item-clause-space g c =
    handed (λ (r : Result (Unit {0}) TellFault). OnlyTold (g.P.PageSpace.view c.args.space.now) (g.P.PageSpace.view c.tell_item.new.space) r) c.from_residual.result c.in_err-tell_item.field-0.0 c.from_residual.ensures.1
    (told_then (Err c.in_err-tell_item.field-0.0) c.items.invariant.read c.in_err-tell_item.ensures.space)

pub returns-in_err-tell_item-clause-heard : goal.returns-in_err-tell_item-clause-heard
returns-in_err-tell_item-clause-heard g c = λ shows a is size.
    let i = c.items.invariant in
    let ears = g.L.Listener.ears in
    let f = c.in_err-tell_item.field-0.0 in
    let one = c.in_err-tell_item.ensures.heard (i.read.kept.shows shows) a (still_array i.read.kept shows is) size in
    let behind = items_behind c.items.index c.args.len a.items c.items-test.true in
    let item = AnItem c.items.index (slice_index_or a.items c.items.index []) ∷ [] in
    handed (λ (r : Result (Unit {0}) TellFault). IsTold ears c.args.to.now (item_parts c.args.len a.items) c.tell_item.new.to r) c.from_residual.result f c.from_residual.ensures.1
    (subst (λ (ps : List Part). IsTold {T = Unit {0}} ears c.args.to.now ps c.tell_item.new.to (Err f)) behind.1
    (told_on ears (Unit {0}) c.args.to.now c.items.to c.tell_item.new.to (item_parts c.items.index a.items) _ (Err f) (i.heard shows a is size) (told_before ears (Unit {0}) (Unit {0}) c.items.to c.tell_item.new.to item behind.0 f one)))

pub returns-in_err-tell_item-clause-listener : goal.returns-in_err-tell_item-clause-listener
returns-in_err-tell_item-clause-listener g c =
    handed (λ (r : Result (Unit {0}) TellFault). CountsEars g.L.Listener.ears c.args.to.now c.tell_item.new.to r) c.from_residual.result c.in_err-tell_item.field-0.0 c.from_residual.ensures.1
    (counts_on g.L.Listener.ears (Err c.in_err-tell_item.field-0.0) c.items.invariant.quiet c.items.invariant.same c.in_err-tell_item.ensures.listener)

pub returns-in_err-tell_item-clause-later : goal.returns-in_err-tell_item-clause-later
returns-in_err-tell_item-clause-later g c = λ t. g.met.P.PageSpace.later_then t _ _ _ (c.items.invariant.later t) (c.tell_item.ensures.later t)
