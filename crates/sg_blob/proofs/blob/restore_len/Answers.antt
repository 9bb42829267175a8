use Rattle.std.proofs.Common.{ℕ, arith, subst}
use Rattle.sg_blob.specs.Steps.{RawTurns, with_root}
use Rattle.sg_space.proofs.Known.{keeps_then, writes_none, writes_then}
use Rattle.sg_blob.proofs.Parts.{still_raw, StandsRaw}
use Rattle.sg_blob.proofs.Turned.{after_reads}
use Rattle.sg_blob.proofs.Wholes.{restored_blob}
use Rattle.sg_blob.proofs.blob.restore_len.Goals as goal

pub broken-requires : goal.broken-requires
broken-requires g c = λ told.
    let back = c.read_root.ensures.counts.told told in
    let shows = g.met.P.PageSpace.told_shows _ back in
    let h = c.requires.can back in
    let peak = (c.in_ok-found.ensures.read shows h.0 h.1).1 in
    let below = h.2.below in
    let test = c.if-size-found.true in
    omega arith

pub returns-clause-did : goal.returns-clause-did
returns-clause-did g c =
    let kept = c.in_ok-found.ensures.kept in
    let set = c.in_ok-set_root.ensures.did in
    record {
      did = record {
        keeps = λ t. keeps_then kept.keeps (set.keeps (kept.keeps.told t));
        turns = λ t r h can.
            let shows = g.met.P.PageSpace.told_shows _ t in
            let peak = (c.in_ok-found.ensures.read shows r h).1 in
            subst (λ (n : ℕ). RawTurns (g.P.PageSpace.view c.args.space.now).space (g.P.PageSpace.view c.set_root.new.space).space c.args.root.0 r (with_root c.args.size n r)) peak
            (after_reads kept shows (set.turns (kept.keeps.told t) r (still_raw kept shows h) tt));
        wrote = λ t r h can. writes_then (writes_none kept.wrote) (set.wrote (kept.keeps.told t) r (still_raw kept (g.met.P.PageSpace.told_shows _ t) h) tt);
      };
      blob = λ t r h can.
          let shows = g.met.P.PageSpace.told_shows _ t in
          let peak = (c.in_ok-found.ensures.read shows r h).1 in
          restored_blob can (subst (λ (n : ℕ). StandsRaw c.args.root.0 (with_root c.args.size n r) (g.P.PageSpace.view c.set_root.new.space).space) peak (set.turns (kept.keeps.told t) r (still_raw kept shows h) tt).raw);
    }

pub returns-clause-within : goal.returns-clause-within
returns-clause-within g c = λ shows r h.
    let peak = (c.in_ok-found.ensures.read shows r h).1 in
    let test = c.if-size-found.false in
    omega arith

pub returns-then-size-found-clause-later : goal.returns-then-size-found-clause-later
returns-then-size-found-clause-later g c = g.met.P.PageSpace.later_then _ _ _ _ (c.read_root.ensures.later _) (c.broken.ensures.later _)

pub returns-in_err-set_root-clause-later : goal.returns-in_err-set_root-clause-later
returns-in_err-set_root-clause-later g c = g.met.P.PageSpace.later_then _ _ _ _ (c.read_root.ensures.later _) c.set_root.ensures.later

pub returns-clause-later : goal.returns-clause-later
returns-clause-later g c = g.met.P.PageSpace.later_then _ _ _ _ (c.read_root.ensures.later _) c.set_root.ensures.later
