use Rattle.std.proofs.Common.{◌∙◌, ◌+◌, ◌*◌, ◌/◌, take, drop, List, Result, Err, refl, sym, subst}
use Rattle.sg_blob.proofs.Parts.{still_blob}
use Rattle.sg_lines.specs.Heard.{HasHeard}
use Rattle.sg_lines.specs.Parts.{Part, piece_part, piece_parts}
use Rattle.sg_listing.specs.Telling.{OnlyTold, CountsEars, IsTold}
use Rattle.sg_listing.specs.declared.fault.TellFault.{TellFault}
use Rattle.sg_listing.proofs.Parts.{no_pieces, more_pieces, pieces_behind}
use Rattle.sg_listing.proofs.Telling.{handed, read_nothing, read_on, told_read, told_then, heard_nothing, heard_on, told_on, told_before, counts_on}
use Rattle.sg_listing.proofs.blob.tell_pieces.Goals as goal

pub pieces-init : goal.pieces-init
pieces-init g c = record {
  read = read_nothing;
  later = λ t. g.met.P.PageSpace.later_same t _;
  means = λ t m. m;
  heard = λ shows b is len. subst (λ (ps : List Part). HasHeard g.L.Listener.ears c.args.to.now ps c.args.to.now) (sym (no_pieces b.bytes)) (heard_nothing g.L.Listener.ears c.args.to.now);
  quiet = refl;
  same = refl;
}

pub tell_piece-requires-clause-there : goal.tell_piece-requires-clause-there
tell_piece-requires-clause-there g c = λ told.
    let i = c.pieces.invariant in
    let back = i.read.back told in
    let h = c.requires.there back in
    (h.0, still_blob i.read.kept (g.met.P.PageSpace.told_shows _ back) h.1, h.2)

pub pieces-preserved : goal.pieces-preserved
pieces-preserved g c =
    let i = c.pieces.invariant in
    let n = c.pieces.number in
    let ok = c.in_ok-tell_piece.ensures in
    record {
      read = read_on i.read (told_read _ ok.space);
      later = λ t. g.met.P.PageSpace.later_then t _ _ _ (i.later t) (c.tell_piece.ensures.later t);
      means = λ t m. c.tell_piece.ensures.means t (i.means t m);
      heard = λ shows b is len.
          let one = ok.heard (i.read.kept.shows shows) b (still_blob i.read.kept shows is) len in
          subst (λ (ps : List Part). HasHeard g.L.Listener.ears c.args.to.now ps c.tell_piece.new.to) (sym (more_pieces n b.bytes))
          (heard_on g.L.Listener.ears (piece_parts n b.bytes) (piece_part (32 * n) (take 32 (drop (32 * n) b.bytes))) (i.heard shows b is len) one);
      quiet = ok.listener.counted ∙ i.quiet;
      same = ok.listener.same ∙ i.same;
    }

pub returns-in_err-tell_piece-clause-space : goal.returns-in_err-tell_piece-clause-space
returns-in_err-tell_piece-clause-space g c =
    handed (λ (r : Result (Unit {0}) TellFault). OnlyTold (g.P.PageSpace.view c.args.space.now) (g.P.PageSpace.view c.tell_piece.new.space) r) c.from_residual.result c.in_err-tell_piece.field-0.0 c.from_residual.ensures.1
    (told_then (Err c.in_err-tell_piece.field-0.0) c.pieces.invariant.read c.in_err-tell_piece.ensures.space)

pub returns-in_err-tell_piece-clause-heard : goal.returns-in_err-tell_piece-clause-heard
returns-in_err-tell_piece-clause-heard g c = λ shows b is len.
    let i = c.pieces.invariant in
    let n = c.pieces.number in
    let ears = g.L.Listener.ears in
    let f = c.in_err-tell_piece.field-0.0 in
    let one = c.in_err-tell_piece.ensures.heard (i.read.kept.shows shows) b (still_blob i.read.kept shows is) len in
    let behind = pieces_behind n ((c.args.len + 31) / 32) b.bytes c.pieces-test.true in
    let piece = piece_part (32 * n) (take 32 (drop (32 * n) b.bytes)) in
    handed (λ (r : Result (Unit {0}) TellFault). IsTold ears c.args.to.now (piece_parts ((c.args.len + 31) / 32) b.bytes) c.tell_piece.new.to r) c.from_residual.result f c.from_residual.ensures.1
    (subst (λ (ps : List Part). IsTold {T = Unit {0}} ears c.args.to.now ps c.tell_piece.new.to (Err f)) behind.1
    (told_on ears (Unit {0}) c.args.to.now c.pieces.to c.tell_piece.new.to (piece_parts n b.bytes) _ (Err f) (i.heard shows b is len) (told_before ears (Unit {0}) (Unit {0}) c.pieces.to c.tell_piece.new.to piece behind.0 f one)))

pub returns-in_err-tell_piece-clause-listener : goal.returns-in_err-tell_piece-clause-listener
returns-in_err-tell_piece-clause-listener g c =
    handed (λ (r : Result (Unit {0}) TellFault). CountsEars g.L.Listener.ears c.args.to.now c.tell_piece.new.to r) c.from_residual.result c.in_err-tell_piece.field-0.0 c.from_residual.ensures.1
    (counts_on g.L.Listener.ears (Err c.in_err-tell_piece.field-0.0) c.pieces.invariant.quiet c.pieces.invariant.same c.in_err-tell_piece.ensures.listener)

pub returns-in_err-tell_piece-clause-later : goal.returns-in_err-tell_piece-clause-later
returns-in_err-tell_piece-clause-later g c = λ t. g.met.P.PageSpace.later_then t _ _ _ (c.pieces.invariant.later t) (c.tell_piece.ensures.later t)
