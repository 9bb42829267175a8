use Rattle.std.proofs.Common.{◌≡◌, ℕ, ◌+◌, ◌/◌, length, ap, sym, subst, arith}
use Rattle.sg_array.specs.Steps.{HasRoom}
use Rattle.sg_array.proofs.Growth.{root_room}
use Rattle.sg_array.proofs.Pushes.{new_index}
use Rattle.sg_array.proofs.extend.new_index.Goals as goal

pub link_new-requires-clause-can : goal.link_new-requires-clause-can
link_new-requires-clause-can g c = λ told.
    let h = c.requires.there told in
    let least = h.1.built.names.index_least in
    let most = h.1.index_most in
    let behind = h.2.behind in
    let below = c.requires.below in
    let full = c.requires.full in
    let count : length h.0.index ≡ c.args.d / 509 = omega arith in
    let free = h.2.free in
    let first = h.1.built.names.first in
    record {
      page = record { what = first.what; is = first.is; has = subst (λ (n : ℕ). HasRoom (n + 1) first.what) count (root_room first.has (omega arith)) };
      some = omega arith;
      may_take = h.2.may_take;
      may_have = h.2.roomy.first _ (omega arith);
    }

pub returns-clause-did : goal.returns-clause-did
returns-clause-did g c =
    let did = c.in_ok-found.ensures.did in
    record {
      keeps = did.keeps;
      done = λ t a h can.
          let behind = can.behind in
          let full = c.requires.full in
          let below = c.requires.below in
          new_index h (omega arith) (ap (λ (n : ℕ). n / 509 + 1) (sym behind)) (omega arith) did.small (did.done t) can.roomy (did.keeps t) (did.may_fill t);
    }
