use Rattle.std.proofs.Common.{◌≡◌, ◌∙◌, ℕ, false, true, take, Option, option_map, is_some, Result, Err, sym, ap, subst}
use Rattle.sg_space.specs.declared.space.SpaceFault.{SpaceFault}
use Rattle.sg_space.specs.declared.space.SpaceFault.TheVariants.{Disk}
use Rattle.sg_listing.specs.Telling.{OnlyTold}
use Rattle.sg_listing.specs.declared.fault.TellFault.{TellFault}
use Rattle.sg_listing.specs.declared.fault.TellFault.TheVariants.{Space}
use Rattle.sg_listing.proofs.Telling.{one_read, told_broken, told_then}
use Rattle.sg_listing.proofs.table.tell_entry.Goals as goal

pub broken-requires : goal.broken-requires
broken-requires g c = λ told.
    let back = c.find.ensures.counts.told told in
    let h = c.requires back in
    let none = ap (λ (n : Option ℕ). is_some (option_map (λ m. take m c.find.new.into) n)) (sym c.in_default.is) in
    let not : true ≡ false = sym h.2 ∙ (ap is_some (c.in_ok-sought.ensures.read (g.met.P.PageSpace.told_shows _ back) h.0 h.1) ∙ sym none) in
    absurd (cc)

pub returns-in_default-clause-space : goal.returns-in_default-clause-space
returns-in_default-clause-space g c =
    let q = c.broken.ensures in
    subst (λ (f : SpaceFault). OnlyTold (g.P.PageSpace.view c.args.space.now) (g.P.PageSpace.view c.broken.new.self) (let r : Result (Unit {0}) TellFault = Err (Space f) in r)) (sym q.answer)
    (told_then (Err (Space Disk)) (one_read c.in_ok-sought.sought c.in_ok-sought.ensures.counts c.in_ok-sought.ensures.kept c.find.ensures.writes.records) (told_broken q.told q.rising q.writes_none q.risen))

pub returns-in_default-clause-later : goal.returns-in_default-clause-later
returns-in_default-clause-later g c = λ t. g.met.P.PageSpace.later_then t _ _ _ (c.find.ensures.later t) (c.broken.ensures.later t)
