use Rattle.std.proofs.Common.{◌≡◌, ℕ, ◌∷◌, [], length, Result, subst, arith}
use Rattle.sg_array.proofs.Links.{still_array}
use Rattle.sg_lines.specs.Heard.{HasHeard, WasCut}
use Rattle.sg_lines.specs.Parts.{item_parts}
use Rattle.sg_lines.specs.Parts.Part.{ArrayBegins}
use Rattle.sg_listing.specs.Telling.{IsTold}
use Rattle.sg_listing.specs.declared.fault.TellFault.{TellFault}
use Rattle.sg_listing.specs.declared.fault.TellFault.TheVariants.{Listener}
use Rattle.sg_listing.proofs.Telling.{handed, told_on, cut_before}
use Rattle.sg_listing.proofs.array.tell_array.Goals as goal

pub returns-in_err-array-clause-heard : goal.returns-in_err-array-clause-heard
returns-in_err-array-clause-heard g c = λ shows a is.
    let ears = g.L.Listener.ears in
    let name = c.args.name.now in
    let one = c.in_ok-size.ensures.kept in
    let size : c.from.result ≡ a.size = omega (arith, c.in_ok-size.ensures.read shows a is) in
    let len : c.from-2.result ≡ length a.items = omega (arith, c.in_ok-len.ensures.read (one.shows shows) a (still_array one shows is)) in
    handed (λ (r : Result (Unit {0}) TellFault). IsTold ears c.args.to.now (ArrayBegins name a.size (length a.items) ∷ item_parts (length a.items) a.items) c.array.new.self r) c.from_residual-in_err-array.result Listener c.from_residual-in_err-array.ensures.1
    (cut_before ears (ArrayBegins name a.size (length a.items) ∷ []) (item_parts (length a.items) a.items)
    (subst (λ (n : ℕ). WasCut ears c.args.to.now (ArrayBegins name a.size n ∷ []) c.array.new.self) len
    (subst (λ (n : ℕ). WasCut ears c.args.to.now (ArrayBegins name n c.from-2.result ∷ []) c.array.new.self) size c.in_err-array.ensures.cut)))

pub returns-clause-heard : goal.returns-clause-heard
returns-clause-heard g c = λ shows a is.
    let ears = g.L.Listener.ears in
    let name = c.args.name.now in
    let one = c.in_ok-size.ensures.kept in
    let two = c.in_ok-len.ensures.kept in
    let there = one.shows shows in
    let at_size = c.in_ok-size.ensures.read shows a is in
    let at_len = c.in_ok-len.ensures.read there a (still_array one shows is) in
    let size : c.from.result ≡ a.size = omega (arith, at_size) in
    let len : c.from-2.result ≡ length a.items = omega (arith, at_len) in
    let items = c.tell_items.ensures.heard (two.shows there) a (still_array two there (still_array one shows is)) at_size in
    told_on ears (Unit {0}) c.args.to.now c.array.new.self c.tell_items.new.to (ArrayBegins name a.size (length a.items) ∷ []) (item_parts (length a.items) a.items) c.tell_items.result
    (subst (λ (n : ℕ). HasHeard ears c.args.to.now (ArrayBegins name a.size n ∷ []) c.array.new.self) len
    (subst (λ (n : ℕ). HasHeard ears c.args.to.now (ArrayBegins name n c.from-2.result ∷ []) c.array.new.self) size c.in_ok-array.ensures.heard))
    (subst (λ (n : ℕ). IsTold ears c.array.new.self (item_parts n a.items) c.tell_items.new.to c.tell_items.result) at_len items)
