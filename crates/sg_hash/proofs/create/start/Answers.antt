use Rattle.std.proofs.Common.{ℕ, List, [], ◌∷◌, length, ap, arith, ◌∙◌}
use Rattle.sg_array.specs.Calls.{empty_array}
use Rattle.sg_space.proofs.Known.{keeps_then}
use Rattle.sg_hash.proofs.Making.{push_ready, started, array_taken}
use Rattle.sg_hash.proofs.create.start.Goals as goal

pub make-requires-clause-free : goal.make-requires-clause-free
make-requires-clause-free g c = λ told. let h = c.requires.can told in record { some = (let f = h.free in omega arith); may = h.may_take }

pub make-requires-2 : goal.make-requires-2
make-requires-2 g c = λ told.
    let back = c.make.ensures.counts.told told in
    let h = c.requires.can back in
    let made = c.in_ok-directory.ensures.did in
    let pages = (made.done back).pages in
    record { some = (let f = h.free in let x = pages.exactly in omega arith); may = (made.keeps back).may_take h.may_take }

pub push-requires-clause-can : goal.push-requires-clause-can
push-requires-clause-can g c = λ told.
    let mid = c.make-2.ensures.counts.told told in
    let back = c.make.ensures.counts.told mid in
    let made = c.in_ok-directory.ensures.did in
    let took = c.in_ok-first.ensures.did in
    (empty_array 4, array_taken (made.done back).array (took.pages mid), push_ready (ap (λ (x : List ℕ). length x) c.write_u32.ensures.bytes) (c.requires.can back) back made c.make.ensures.counts.told took)

pub returns-clause-did : goal.returns-clause-did
returns-clause-did g c =
    let made = c.in_ok-directory.ensures.did in
    let took = c.in_ok-first.ensures.did in
    let push = c.in_ok-push.ensures.did in
    record {
      keeps = λ told.
          let k = made.keeps told in
          let there = k.told told in
          keeps_then k (keeps_then took.keeps (push.keeps (took.keeps.told there)));
      done = λ told.
          let k = made.keeps told in
          let there = k.told told in
          let last = took.keeps.told there in
          let one = push.turns last (empty_array 4) (array_taken (made.done told).array (took.pages there)) (push_ready (ap (λ (x : List ℕ). length x) c.write_u32.ensures.bytes) (c.requires.can told) told made c.make.ensures.counts.told took) in (
            one.0,
            c.in_ok-first.first.0,
            started (made.done told) (took.pages there) (took.bucket there) (took.bands there) took.small one.1 (one.2.items ∙ ap (λ (x : List ℕ). x ∷ []) c.write_u32.ensures.bytes) one.2.size one.2.peak,
            one.2.roomy,
            λ n few. (push.keeps last).may_have _ n (took.may_fill there n few),
          );
    }

pub returns-in_err-push-clause-later : goal.returns-in_err-push-clause-later
returns-in_err-push-clause-later g c =
    let then = g.met.P.PageSpace.later_then _ in
    then _ _ _ c.make.ensures.later (then _ _ _ (c.make-2.ensures.later _) c.push.ensures.later)

pub returns-clause-later : goal.returns-clause-later
returns-clause-later g c =
    let then = g.met.P.PageSpace.later_then _ in
    then _ _ _ c.make.ensures.later (then _ _ _ (c.make-2.ensures.later _) c.push.ensures.later)

pub returns-in_err-first-clause-later : goal.returns-in_err-first-clause-later
returns-in_err-first-clause-later g c = g.met.P.PageSpace.later_then _ _ _ _ c.make.ensures.later (c.make-2.ensures.later _)
