use Rattle.std.proofs.Common.{◌<◌, refl, arith, ◌∙◌}
use Rattle.std.proofs.lemmas.List.{set_comm}
use Rattle.sg_frames.specs.Pieces.{no_piece}
use Rattle.sg_frames.proofs.Halves.{set_halves, read_front, read_back}
use Rattle.sg_frames.proofs.slot.Slot.two.Goals as goal

pub returns-then-i-j : goal.returns-then-i-j
returns-then-i-j c =
    let xs = c.args.slots.now in let i = c.args.i in let j = c.args.j in
    let halves = c.split_at_mut-front.ensures in (
      ((refl, refl), λ x y. rw (halves.front, halves.back) (set_halves xs i j x y c.if-i-j.true)),
      record {
        writes_back = tt;
        first = read_front xs i j _ no_piece c.if-i-j.true c.requires.second (rw halves.front at c.index-front-i.is);
        second = read_back xs j _ no_piece c.requires.second (rw halves.back at c.index-back-0.is);
      },
    )

pub returns : goal.returns
returns c =
    let xs = c.args.slots.now in let i = c.args.i in let j = c.args.j in
    let halves = c.split_at_mut-front-2.ensures in
    let below : j < i = omega arith in (
      ((refl, refl), λ x y. rw (halves.front, halves.back) (set_halves xs j i y x below ∙ set_comm xs j i y x (omega arith))),
      record {
        writes_back = tt;
        first = read_back xs i _ no_piece c.requires.first (rw halves.back at c.index-back-0-2.is);
        second = read_front xs j i _ no_piece below c.requires.first (rw halves.front at c.index-front-j.is);
      },
    )
