use Rattle.std.proofs.Common.{refl, arith}
use Rattle.sg_space.proofs.Known.{keeps_then}
use Rattle.sg_hash.proofs.Changing.{numbers_are}
use Rattle.sg_hash.proofs.Making.{first_table, made, may_grow, no_numbers}
use Rattle.sg_hash.proofs.create.make.Goals as goal

pub take_root-requires-clause-can : goal.take_root-requires-clause-can
take_root-requires-clause-can g c = λ told.
    let back = c.start.ensures.counts.told told in
    let h = c.requires.can back in
    let did = c.in_ok-directory.ensures.did in
    let s = (did.done back).2 in
    record { some = (let f = h.free in let x = s.pages.exactly in omega arith); may = (did.keeps back).may_take h.may_take }

pub returns-clause-did : goal.returns-clause-did
returns-clause-did g c =
    let start = c.in_ok-directory.ensures.did in
    let took = c.in_ok-root.ensures.did in
    record {
      keeps = λ told. let k = start.keeps told in keeps_then k (took.keeps (k.told told));
      done = λ told.
          let there = (start.keeps told).told told in
          let d = start.done told in
          (first_table c.in_ok-directory.directory.0 d.0 d.1, made (numbers_are _ no_numbers c.first.ensures refl refl refl) d.2 (took.pages there) (took.bands there), may_grow (took.keeps there) d.3 d.4);
    }

pub returns-in_err-root-clause-later : goal.returns-in_err-root-clause-later
returns-in_err-root-clause-later g c = g.met.P.PageSpace.later_then _ _ _ _ c.start.ensures.later c.take_root.ensures.later

pub returns-clause-later : goal.returns-clause-later
returns-clause-later g c = g.met.P.PageSpace.later_then _ _ _ _ c.start.ensures.later c.take_root.ensures.later
