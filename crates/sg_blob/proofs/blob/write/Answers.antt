use Rattle.std.proofs.Common.{◌≡◌, ℕ, ◌+◌, ◌/◌, ◌≤◌, List, length, ap, ◌∙◌, arith, refl}
use Rattle.sg_base.specs.Overwritten.{overwritten}
use Rattle.sg_space.proofs.Known.{keeps_then, writes_none, writes_then}
use Rattle.sg_blob.specs.Blob.{raw_of}
use Rattle.sg_blob.specs.Steps.{with_bytes, with_root}
use Rattle.sg_blob.proofs.Over.{length_over}
use Rattle.sg_blob.proofs.Parts.{still_blob}
use Rattle.sg_blob.proofs.Turned.{after_reads, turns_then}
use Rattle.sg_blob.proofs.Wholes.{whole, blob_of, can_grow, has_still, place_grown}
use Rattle.sg_blob.proofs.blob.write.Goals as goal

pub broken-requires : goal.broken-requires
broken-requires g c = λ told.
    let back = c.read_root.ensures.counts.told told in
    let shows = g.met.P.PageSpace.told_shows _ back in
    let h = c.requires.there back in
    let count = (c.in_ok-found.ensures.read shows (raw_of h.0) h.1.raw).0 in
    let from = h.2.from in
    let test = c.if-at-found.true in
    omega arith

pub grow_to-requires-clause-there : goal.grow_to-requires-clause-there
grow_to-requires-clause-there g c = λ told.
    let back = c.read_root.ensures.counts.told told in
    let shows = g.met.P.PageSpace.told_shows _ back in
    let h = c.requires.there back in
    let kept = c.in_ok-found.ensures.kept in
    let b = still_blob kept shows h.1 in
    let is = c.in_ok-found.ensures.read shows (raw_of h.0) h.1.raw in
    let want = c.bands_for-2.ensures ∙ ap (λ (n : ℕ). (n + 32767) / 32768) c.max-peak.ensures in
    let grow = can_grow b.least b.most (has_still kept shows h.2.bands) is.1 c.bands_for.ensures want (raw_of h.0) refl in
    (raw_of h.0, b.raw, grow)

pub write_all-requires-clause-there : goal.write_all-requires-clause-there
write_all-requires-clause-there g c = λ told.
    let back2 = c.grow_to.ensures.counts.told told in
    let back = c.read_root.ensures.counts.told back2 in
    let shows = g.met.P.PageSpace.told_shows _ back in
    let h = c.requires.there back in
    let kept = c.in_ok-found.ensures.kept in
    let b = still_blob kept shows h.1 in
    let is = c.in_ok-found.ensures.read shows (raw_of h.0) h.1.raw in
    let want = c.bands_for-2.ensures ∙ ap (λ (n : ℕ). (n + 32767) / 32768) c.max-peak.ensures in
    let grow = can_grow b.least b.most (has_still kept shows h.2.bands) is.1 c.bands_for.ensures want (raw_of h.0) refl in
    let one = c.in_ok-grow_to.ensures.did.turns back2 (raw_of h.0) b.raw grow in
    (one.0, (one.1).raw, place_grown h.0 c.in_ok-found.found.peak one.2 want refl h.2.from)

pub set_root-requires-clause-there : goal.set_root-requires-clause-there
set_root-requires-clause-there g c = λ told.
    let back3 = c.write_all.ensures.counts.told told in
    let back2 = c.grow_to.ensures.counts.told back3 in
    let back = c.read_root.ensures.counts.told back2 in
    let shows = g.met.P.PageSpace.told_shows _ back in
    let h = c.requires.there back in
    let kept = c.in_ok-found.ensures.kept in
    let b = still_blob kept shows h.1 in
    let is = c.in_ok-found.ensures.read shows (raw_of h.0) h.1.raw in
    let want = c.bands_for-2.ensures ∙ ap (λ (n : ℕ). (n + 32767) / 32768) c.max-peak.ensures in
    let grow = can_grow b.least b.most (has_still kept shows h.2.bands) is.1 c.bands_for.ensures want (raw_of h.0) refl in
    let one = c.in_ok-grow_to.ensures.did.turns back2 (raw_of h.0) b.raw grow in
    (_, (c.in_ok-write_all.ensures.did.turns back3 one.0 (one.1).raw (place_grown h.0 c.in_ok-found.found.peak one.2 want refl h.2.from)).raw, tt)

pub returns-clause-did : goal.returns-clause-did
returns-clause-did g c =
    let kept = c.in_ok-found.ensures.kept in
    let grown = c.in_ok-grow_to.ensures.did in
    let wrote = c.in_ok-write_all.ensures.did in
    let set = c.in_ok-set_root.ensures.did in
    record {
      keeps = λ t.
          let t1 = kept.keeps.told t in
          let t2 = (grown.keeps t1).told t1 in
          let t3 = (wrote.keeps t2).told t2 in
          keeps_then kept.keeps (keeps_then (grown.keeps t1) (keeps_then (wrote.keeps t2) (set.keeps t3)));
      turns = λ t b h can.
          let shows = g.met.P.PageSpace.told_shows _ t in
          let t1 = kept.keeps.told t in
          let t2 = (grown.keeps t1).told t1 in
          let t3 = (wrote.keeps t2).told t2 in
          let k = still_blob kept shows h in
          let is = c.in_ok-found.ensures.read shows (raw_of b) h.raw in
          let want = c.bands_for-2.ensures ∙ ap (λ (n : ℕ). (n + 32767) / 32768) c.max-peak.ensures in
          let grow = can_grow k.least k.most (has_still kept shows can.bands) is.1 c.bands_for.ensures want (raw_of b) refl in
          let one = grown.turns t1 (raw_of b) k.raw grow in
          let two = wrote.turns t2 one.0 (one.1).raw (place_grown b c.in_ok-found.found.peak one.2 want refl can.from) in
          let three = set.turns t3 _ two.raw tt in
          let all = after_reads kept shows (turns_then one.1 (turns_then two three)) in
          let same : length (one.0).bytes ≡ length b.bytes = ap (λ (xs : List ℕ). length xs) (one.2).same_bytes in
          let from : c.args.at ≤ length (one.0).bytes = let f = can.from in omega arith in
          let long = length_over (one.0).bytes c.args.bytes.now c.args.at from in
          let bands = (one.2).long in
          let count = is.0 in
          let peak = is.1 in
          let count_is = c.max-count.ensures in
          let peak_is = c.max-peak.ensures in (
            blob_of (with_root c.max-count.result c.max-peak.result (with_bytes c.args.at c.args.bytes.now one.0)),
            whole _ all (omega arith) (omega arith) (omega arith),
            record { bytes = ap (λ (xs : List ℕ). overwritten xs c.args.at c.args.bytes.now) (one.2).same_bytes; peak = omega arith; bands = (one.2).extends },
            writes_then (writes_none kept.wrote) (writes_then one.3 (writes_then (wrote.wrote t2 one.0 (one.1).raw (place_grown b c.in_ok-found.found.peak one.2 want refl can.from)) (set.wrote t3 _ two.raw tt))),
          );
    }

pub returns-clause-within : goal.returns-clause-within
returns-clause-within g c = λ shows b h.
    let count = (c.in_ok-found.ensures.read shows (raw_of b) h.raw).0 in
    let test = c.if-at-found.false in
    omega arith

pub returns-then-at-found-clause-later : goal.returns-then-at-found-clause-later
returns-then-at-found-clause-later g c = g.met.P.PageSpace.later_then _ _ _ _ (c.read_root.ensures.later _) (c.broken.ensures.later _)

pub returns-in_err-grow_to-clause-later : goal.returns-in_err-grow_to-clause-later
returns-in_err-grow_to-clause-later g c = g.met.P.PageSpace.later_then _ _ _ _ (c.read_root.ensures.later _) c.grow_to.ensures.later

pub returns-in_err-write_all-clause-later : goal.returns-in_err-write_all-clause-later
returns-in_err-write_all-clause-later g c =
    let then = g.met.P.PageSpace.later_then _ in
    then _ _ _ (c.read_root.ensures.later _) (then _ _ _ c.grow_to.ensures.later (c.write_all.ensures.later _))

pub returns-in_err-set_root-clause-later : goal.returns-in_err-set_root-clause-later
returns-in_err-set_root-clause-later g c =
    let then = g.met.P.PageSpace.later_then _ in
    then _ _ _ (c.read_root.ensures.later _) (then _ _ _ c.grow_to.ensures.later (then _ _ _ (c.write_all.ensures.later _) c.set_root.ensures.later))

pub returns-clause-later : goal.returns-clause-later
returns-clause-later g c =
    let then = g.met.P.PageSpace.later_then _ in
    then _ _ _ (c.read_root.ensures.later _) (then _ _ _ c.grow_to.ensures.later (then _ _ _ (c.write_all.ensures.later _) c.set_root.ensures.later))
