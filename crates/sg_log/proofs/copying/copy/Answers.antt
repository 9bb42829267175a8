use Rattle.std.proofs.Common.{◌∙◌, arith}
use Rattle.sg_log.proofs.copying.copy.Goals as goal
use Rattle.sg_log.proofs.copying.copy.Goals.{then-left-lt4096, else-left-lt4096}

pub pieces-preserved : goal.pieces-preserved
pieces-preserved g c = (
  elim c.if-left-lt4096.branch [ then-left-lt4096 w ↦ omega (arith, w.size-is, c.pieces-test.true) | else-left-lt4096 w ↦ omega (arith, w.size-is, w.if-left-lt4096.false, c.pieces-test.true) ],
  λ told apart. c.in_ok-copy_piece.ensures.copied (g.D.Disk.view c.args.disk.now) told apart (c.pieces.invariant.1 told apart),
  λ told apart. c.in_ok-copy_piece.ensures.any_moment (g.D.Disk.view c.args.disk.now) told (c.pieces.invariant.2 told apart) (c.pieces.invariant.1 told apart),
  c.in_ok-copy_piece.ensures.quiet ∙ c.pieces.invariant.3,
  omega (arith, c.in_ok-copy_piece.ensures.handed, c.pieces.invariant.4),
  omega (arith, c.in_ok-copy_piece.ensures.kept, c.pieces.invariant.5),
)
