use Rattle.std.proofs.Common.{◌≡◌, ◌+◌, ◌/◌, ℕ, ◌∷◌, [], length, Result, subst, arith}
use Rattle.sg_blob.proofs.Parts.{still_blob}
use Rattle.sg_lines.specs.Heard.{HasHeard, WasCut}
use Rattle.sg_lines.specs.Parts.{piece_parts}
use Rattle.sg_lines.specs.Parts.Part.{BlobBegins}
use Rattle.sg_listing.specs.Telling.{IsTold}
use Rattle.sg_listing.specs.declared.fault.TellFault.{TellFault}
use Rattle.sg_listing.specs.declared.fault.TellFault.TheVariants.{Listener}
use Rattle.sg_listing.proofs.Telling.{handed, told_on, cut_before}
use Rattle.sg_listing.proofs.blob.tell_blob.Goals as goal

pub returns-in_err-blob-clause-heard : goal.returns-in_err-blob-clause-heard
returns-in_err-blob-clause-heard g c = λ shows b is.
    let ears = g.L.Listener.ears in
    let name = c.args.name.now in
    let n = length b.bytes in
    let len : c.from.result ≡ n = omega (arith, c.in_ok-len.ensures.read shows b is) in
    handed (λ (r : Result (Unit {0}) TellFault). IsTold ears c.args.to.now (BlobBegins name n ∷ piece_parts ((n + 31) / 32) b.bytes) c.blob.new.self r) c.from_residual-in_err-blob.result Listener c.from_residual-in_err-blob.ensures.1
    (cut_before ears (BlobBegins name n ∷ []) (piece_parts ((n + 31) / 32) b.bytes)
    (subst (λ (m : ℕ). WasCut ears c.args.to.now (BlobBegins name m ∷ []) c.blob.new.self) len c.in_err-blob.ensures.cut))

pub returns-clause-heard : goal.returns-clause-heard
returns-clause-heard g c = λ shows b is.
    let ears = g.L.Listener.ears in
    let name = c.args.name.now in
    let n = length b.bytes in
    let k = c.in_ok-len.ensures.kept in
    let at_len = c.in_ok-len.ensures.read shows b is in
    let len : c.from.result ≡ n = omega (arith, at_len) in
    told_on ears (Unit {0}) c.args.to.now c.blob.new.self c.tell_pieces.new.to (BlobBegins name n ∷ []) (piece_parts ((n + 31) / 32) b.bytes) c.tell_pieces.result
    (subst (λ (m : ℕ). HasHeard ears c.args.to.now (BlobBegins name m ∷ []) c.blob.new.self) len c.in_ok-blob.ensures.heard)
    (subst (λ (m : ℕ). IsTold ears c.blob.new.self (piece_parts ((m + 31) / 32) b.bytes) c.tell_pieces.new.to c.tell_pieces.result) at_len
    (c.tell_pieces.ensures.heard (k.shows shows) b (still_blob k shows is) at_len))
