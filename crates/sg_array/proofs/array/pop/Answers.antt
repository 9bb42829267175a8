use Rattle.std.proofs.Common.{◌≡◌, ℕ, Some, sym, ap, ◌∙◌, ◌-◌, length, take, arith, refl, inr, slice_get}
use Rattle.std.proofs.lemmas.List.{length-take-le}
use Rattle.sg_space.proofs.Known.{still, before, reads_then}
use Rattle.sg_space.specs.Reads.{HasCell, HasSized}
use Rattle.sg_space.specs.Units.{HasAt}
use Rattle.sg_space.specs.View.{Space}
use Rattle.sg_array.proofs.Places.{item_sized, item_read, front_is}
use Rattle.sg_array.proofs.Links.{still_array}
use Rattle.sg_array.proofs.Turned.{after_reads, builds_turns}
use Rattle.sg_array.proofs.array.pop.Goals as goal

pub read_cell-requires : goal.read_cell-requires
read_cell-requires g c = λ told.
    let back = c.last_of.ensures.counts.told told in
    let shows = g.met.P.PageSpace.told_shows _ back in
    let h = c.requires.can back in
    let at = (c.in_ok-last.ensures.read shows h.0 h.1).place in
    let room = length-take-le c.in_ok-last.last.place.size c.args.into.now c.if-into-size.false ∙ at.size_is in
    still (λ (s : Space). HasAt s.pages.at c.in_ok-last.last.place.leaf.0 (HasSized 4 c.in_ok-last.last.place.slot (length (take c.in_ok-last.last.place.size c.args.into.now)))) c.in_ok-last.ensures.kept shows (rw room (item_sized h.1.built at))

pub take_last-requires-clause-can : goal.take_last-requires-clause-can
take_last-requires-clause-can g c = λ told.
    let middle = c.read_cell.ensures.counts.told told in
    let back = c.last_of.ensures.counts.told middle in
    let shows = g.met.P.PageSpace.told_shows _ back in
    let h = c.requires.can back in
    let kept = reads_then c.in_ok-last.ensures.kept c.in_ok-read_cell.ensures.kept in
    (h.0, (still_array kept shows h.1).built, c.in_ok-last.ensures.read shows h.0 h.1)

pub returns-clause-did : goal.returns-clause-did
returns-clause-did g c =
    let kept = reads_then c.in_ok-last.ensures.kept c.in_ok-read_cell.ensures.kept in
    let did = c.in_ok-take_last.ensures.did in
    record {
      told = λ t. (did.keeps (kept.keeps.told t)).told (kept.keeps.told t);
      keeps = λ t a h.
          let shows = g.met.P.PageSpace.told_shows _ t in
          let at = (c.in_ok-last.ensures.read shows a h).place in
          let rest = did.keeps (kept.keeps.told t) in
          record {
            told = λ x. rest.told (kept.keeps.told x);
            may_take = λ x. rest.may_take (kept.keeps.may_take x);
            may_have = λ q n no x. rest.may_have q n (λ (is : q ≡ c.in_ok-last.last.place.leaf.0). no (inr (inr (_, at.leaf_is ∙ ap Some (sym is))))) (kept.keeps.may_have q n x);
          };
      turns = λ t a h can.
          let shows = g.met.P.PageSpace.told_shows _ t in
          let last = c.in_ok-last.ensures.read shows a h in
          let array = still_array kept shows h in
          let long = last.count_is in
          let last_is : c.in_ok-last.last.count ≡ length a.items - 1 = omega arith in (
            _,
            after_reads kept shows (builds_turns array (did.done (kept.keeps.told t) a array.built last) refl refl refl refl),
            record { items = ap (λ (n : ℕ). take n a.items) last_is; same = record { size = refl; peak = refl; index = refl; leaves = refl } },
          );
    }

pub returns-clause-item : goal.returns-clause-item
returns-clause-item g c = λ shows a h.
    let kept = c.in_ok-last.ensures.kept in
    let last = c.in_ok-last.ensures.read shows a h in
    let at = last.place in
    let read = before (λ (s : Space). HasAt s.pages.at c.in_ok-last.last.place.leaf.0 (HasCell 4 c.in_ok-last.last.place.slot c.read_cell.new.into)) kept shows (c.in_ok-read_cell.ensures.read (kept.shows shows)) in
    let item = item_read h.built at read in
    let long = last.count_is in
    let last_is : length a.items - 1 ≡ c.in_ok-last.last.count = omega arith in
    ap (λ (n : ℕ). slice_get a.items n) last_is ∙ (item ∙ ap Some (sym (front_is a.size c.read_cell.new.into _ (h.built.limits.each c.in_ok-last.last.count _ item).sized)))

pub returns-then-into-size-clause-later : goal.returns-then-into-size-clause-later
returns-then-into-size-clause-later g c = g.met.P.PageSpace.later_then _ _ _ _ (c.last_of.ensures.later _) (c.broken.ensures.later _)

pub returns-in_err-read_cell-clause-later : goal.returns-in_err-read_cell-clause-later
returns-in_err-read_cell-clause-later g c = g.met.P.PageSpace.later_then _ _ _ _ (c.last_of.ensures.later _) (c.read_cell.ensures.later _)

pub returns-in_err-take_last-clause-later : goal.returns-in_err-take_last-clause-later
returns-in_err-take_last-clause-later g c =
    let then = g.met.P.PageSpace.later_then _ in
    then _ _ _ (c.last_of.ensures.later _) (then _ _ _ (c.read_cell.ensures.later _) c.take_last.ensures.later)

pub returns-clause-later : goal.returns-clause-later
returns-clause-later g c =
    let then = g.met.P.PageSpace.later_then _ in
    then _ _ _ (c.last_of.ensures.later _) (then _ _ _ (c.read_cell.ensures.later _) c.take_last.ensures.later)
