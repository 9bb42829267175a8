use Rattle.std.proofs.Common.{ℕ, ◌+◌, max, ap, ◌∙◌, arith}
use Rattle.sg_ops.specs.Table.{Table, table_of}
use Rattle.sg_space.proofs.Changing.{put_keeps}
use Rattle.sg_space.proofs.Known.{keeps_then}
use Rattle.sg_array.specs.Steps.{root_of}
use Rattle.sg_array.proofs.Ends.{put_possible_at, root_there, put_builds, root_still}
use Rattle.sg_array.proofs.Places.{same_rest}
use Rattle.sg_array.proofs.grow.put_last.Goals as goal

pub change-requires-clause-can : goal.change-requires-clause-can
change-requires-clause-can g c = λ told.
    let h = c.requires.there told in
    put_possible_at _ _ c.args.item.now h.1 h.2 (same_rest h.2.count_is c.per_page.ensures h.2.size_is) (record { sized = c.requires.fits ∙ h.2.size_is; bytes = c.are_bytes.ensures })

pub set_root-requires-clause-can : goal.set_root-requires-clause-can
set_root-requires-clause-can g c = λ told.
    let back = c.change.ensures.counts.told told in
    let h = c.requires.there back in
    root_there _ _ h.1 h.2.at (c.in_ok-change.ensures.did.pages back)

pub returns-clause-did : goal.returns-clause-did
returns-clause-did g c =
    let t : Table = table_of (λ p. (goal.RecordOp-dyn g p).record_meaning p.1) (λ p. (goal.RangeOp-dyn g p).range_meaning p.1) c.args.ops.now in
    let first = c.in_ok-change.ensures.did in
    let then = c.in_ok-set_root.ensures.did in
    record {
      keeps = λ told. keeps_then (put_keeps first) (then.keeps (first.told told));
      done = λ told a h can.
          let mid = first.told told in
          let count = ap (λ (n : ℕ). n + 1) can.count_is in
          let peak = c.max.ensures ∙ (ap (λ (n : ℕ). max n (c.args.found.count + 1)) can.peak_is ∙ ap (λ (n : ℕ). max a.peak n) count) in
          let below = c.requires.few in
          let count_is = can.count_is in
          put_builds t c.args.item.now _ _ h can (same_rest can.count_is c.per_page.ensures can.size_is) (record { sized = c.requires.fits ∙ can.size_is; bytes = c.are_bytes.ensures }) (omega arith) count peak
          (first.pages told) (first.bands told) (then.pages mid (root_of a) a.index (root_still _ h can.at (first.pages told))) (then.bands mid);
    }

pub returns-in_err-set_root-clause-later : goal.returns-in_err-set_root-clause-later
returns-in_err-set_root-clause-later g c = g.met.P.PageSpace.later_then _ _ _ _ c.change.ensures.later c.set_root.ensures.later

pub returns-clause-later : goal.returns-clause-later
returns-clause-later g c = g.met.P.PageSpace.later_then _ _ _ _ c.change.ensures.later c.set_root.ensures.later
