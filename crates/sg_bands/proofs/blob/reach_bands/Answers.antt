use Rattle.std.proofs.Common.{◌≡◌, ℕ, ◌+◌, ◌-◌, ◌*◌, ◌<◌, IsSome, arith, rules, refl, sym, subst, ◌∙◌}
use Rattle.std.proofs.lemmas.Result.{err_from_is_err_and}
use Rattle.byteorder.specs.Endian.{little_bytes}
use Rattle.sg_base.specs.declared.page.TheConstants.{BAND_SIZE}
use Rattle.sg_space.proofs.Known.{still, before, reads_then}
use Rattle.sg_space.specs.Reads.{HasSized, HasCell}
use Rattle.sg_space.specs.Units.{HasAt}
use Rattle.sg_space.specs.View.{Space}
use Rattle.sg_bands.specs.Parts.{band_no, band_count, HasTail, HasBand}
use Rattle.sg_bands.specs.Reached.{numbers_in}
use Rattle.sg_reach.proofs.Faults.{broken_by, broken_so}
use Rattle.sg_reach.proofs.Walking.{walk_on, walk_free, link_sized, link_read}
use Rattle.sg_bands.proofs.blob.reach_bands.Goals as goal

pub link_at-requires : goal.link_at-requires
link_at-requires g c = λ told.
    let i = c.loop-j.invariant.so_far.0 in
    let test = c.loop-j-test.true in
    let count = c.bands-j-end.ensures.bands in
    let back = i.told told in
    let shows = g.met.P.PageSpace.told_shows _ back in
    still (λ (s : Space). HasAt s.pages.at c.args.root.0 (HasSized 7 (c.loop-j.j + 1) 4)) i.kept shows (link_sized (c.loop-j.j + 1) (c.requires back).root_page (omega arith) (omega arith))

pub check_band-requires : goal.check_band-requires
check_band-requires g c = λ told.
    let i = c.loop-j.invariant.so_far.0 in
    let test = c.loop-j-test.true in
    let count = c.bands-j-end.ensures.bands in
    let at : (g.P.PageSpace.view c.args.space.now).Shows → band_no (g.P.PageSpace.view c.args.space.now).space.pages.at c.args.root.0 c.loop-j.j ≡ c.in_ok-band.band.0 = λ shows.
    let read = before (λ (s : Space). HasAt s.pages.at c.args.root.0 (HasCell 7 (c.loop-j.j + 1) (little_bytes 4 c.in_ok-band.band.0))) i.kept shows (c.in_ok-band.ensures.read (i.kept.shows shows)) in
    link_read (g.P.PageSpace.view c.args.space.now).space.pages.at c.args.root.0 7 (c.loop-j.j + 1) c.in_ok-band.band.0 read c.in_ok-band.ensures.small in
    let kept = reads_then i.kept c.in_ok-band.ensures.kept in
    let back = i.told (c.link_at.ensures.counts.told told) in
    let shows = g.met.P.PageSpace.told_shows _ back in
    let band = (c.requires back).walk.is c.loop-j.j (omega arith) in
    let there = subst (λ (n : ℕ). HasAt (g.P.PageSpace.view c.args.space.now).space.bands.at n (HasTail ((numbers_in c.args.found).count - BAND_SIZE * c.loop-j.j))) (at shows) band in
    let now = still (λ (s : Space). HasAt s.bands.at c.in_ok-band.band.0 (HasTail ((numbers_in c.args.found).count - BAND_SIZE * c.loop-j.j))) kept shows there in
    subst IsSome (sym now.is) refl

pub returns-in_err-set_band-clause-broken : goal.returns-in_err-set_band-clause-broken
returns-in_err-set_band-clause-broken g c =
    let i = c.loop-j.invariant.so_far.0 in
    let test = c.loop-j-test.true in
    let count = c.bands-j-end.ensures.bands in
    let at : (g.P.PageSpace.view c.args.space.now).Shows → band_no (g.P.PageSpace.view c.args.space.now).space.pages.at c.args.root.0 c.loop-j.j ≡ c.in_ok-band.band.0 = λ shows.
    let read = before (λ (s : Space). HasAt s.pages.at c.args.root.0 (HasCell 7 (c.loop-j.j + 1) (little_bytes 4 c.in_ok-band.band.0))) i.kept shows (c.in_ok-band.ensures.read (i.kept.shows shows)) in
    link_read (g.P.PageSpace.view c.args.space.now).space.pages.at c.args.root.0 7 (c.loop-j.j + 1) c.in_ok-band.band.0 read c.in_ok-band.ensures.small in
    let p = err_from_is_err_and c.from_residual-in_err-set_band.result c.from_residual-in_err-set_band.ensures.1 in
    rw (p.1, p.2) (broken_by c.in_err-set_band.field-0.0 (λ no_more shows can.
    no_more (walk_free (band_no (g.P.PageSpace.view c.args.space.now).space.pages.at c.args.root.0) c.in_ok-band.band.0 (band_count (numbers_in c.args.found)) i can.walk (omega arith) shows (at shows))) c.in_err-set_band.ensures.broken)

pub returns-in_err-check_band-clause-broken : goal.returns-in_err-check_band-clause-broken
returns-in_err-check_band-clause-broken g c =
    let i = c.loop-j.invariant.so_far.0 in
    let test = c.loop-j-test.true in
    let count = c.bands-j-end.ensures.bands in
    let at : (g.P.PageSpace.view c.args.space.now).Shows → band_no (g.P.PageSpace.view c.args.space.now).space.pages.at c.args.root.0 c.loop-j.j ≡ c.in_ok-band.band.0 = λ shows.
    let read = before (λ (s : Space). HasAt s.pages.at c.args.root.0 (HasCell 7 (c.loop-j.j + 1) (little_bytes 4 c.in_ok-band.band.0))) i.kept shows (c.in_ok-band.ensures.read (i.kept.shows shows)) in
    link_read (g.P.PageSpace.view c.args.space.now).space.pages.at c.args.root.0 7 (c.loop-j.j + 1) c.in_ok-band.band.0 read c.in_ok-band.ensures.small in
    let kept = reads_then i.kept c.in_ok-band.ensures.kept in
    let p = err_from_is_err_and c.from_residual-in_err-check_band.result c.from_residual-in_err-check_band.ensures.1 in
    rw (p.1, p.2) (broken_so c.in_err-check_band.field-0.0 (λ no_tail shows can.
    let band = can.walk.is c.loop-j.j (omega arith) in
    let there = subst (λ (n : ℕ). HasAt (g.P.PageSpace.view c.args.space.now).space.bands.at n (HasTail ((numbers_in c.args.found).count - BAND_SIZE * c.loop-j.j))) (at shows) band in
    let now = still (λ (s : Space). HasAt s.bands.at c.in_ok-band.band.0 (HasTail ((numbers_in c.args.found).count - BAND_SIZE * c.loop-j.j))) kept shows there in
    no_tail (kept.shows shows) (subst (λ (n : ℕ). HasAt (g.P.PageSpace.view c.link_at.new.space).space.bands.at c.in_ok-band.band.0 (HasTail n)) (sym c.tail_from.ensures) now)) c.in_err-check_band.ensures.broken)

pub loop-j-preserved : goal.loop-j-preserved
loop-j-preserved g c = record {
  so_far =
      let i = c.loop-j.invariant.so_far.0 in
      let test = c.loop-j-test.true in
      let count = c.bands-j-end.ensures.bands in
      let at : (g.P.PageSpace.view c.args.space.now).Shows → band_no (g.P.PageSpace.view c.args.space.now).space.pages.at c.args.root.0 c.loop-j.j ≡ c.in_ok-band.band.0 = λ shows.
      let read = before (λ (s : Space). HasAt s.pages.at c.args.root.0 (HasCell 7 (c.loop-j.j + 1) (little_bytes 4 c.in_ok-band.band.0))) i.kept shows (c.in_ok-band.ensures.read (i.kept.shows shows)) in
      link_read (g.P.PageSpace.view c.args.space.now).space.pages.at c.args.root.0 7 (c.loop-j.j + 1) c.in_ok-band.band.0 read c.in_ok-band.ensures.small in
      let kept = reads_then i.kept c.in_ok-band.ensures.kept in
      let first = c.link_at.ensures.counts in
      let second = c.check_band.ensures.counts in
      let one = first.later in
      let two = second.later in (
        walk_on (band_no (g.P.PageSpace.view c.args.space.now).space.pages.at c.args.root.0) c.in_ok-band.band.0 i (λ t. first.told (second.told t)) (omega arith) (reads_then c.in_ok-band.ensures.kept c.in_ok-check_band.ensures.kept) at c.in_ok-set_band.ensures.set
            (λ shows.
            let now = c.in_ok-check_band.ensures.read (kept.shows shows) in
            let tail = subst (λ (n : ℕ). HasAt (g.P.PageSpace.view c.link_at.new.space).space.bands.at c.in_ok-band.band.0 (HasTail n)) c.tail_from.ensures now in
            let then = before (λ (s : Space). HasAt s.bands.at c.in_ok-band.band.0 (HasTail ((numbers_in c.args.found).count - BAND_SIZE * c.loop-j.j))) kept shows tail in
            subst (λ (n : ℕ). HasAt (g.P.PageSpace.view c.args.space.now).space.bands.at n (HasTail ((numbers_in c.args.found).count - BAND_SIZE * c.loop-j.j))) (sym (at shows)) then),
        search rules,
      );
  later = λ t. g.met.P.PageSpace.later_then t _ _ _ (c.loop-j.invariant.later t) (g.met.P.PageSpace.later_then t _ _ _ (c.link_at.ensures.later t) (c.check_band.ensures.later t));
  means = λ t m. c.check_band.ensures.means t (c.link_at.ensures.means t (c.loop-j.invariant.means t m));
  quiet = c.in_ok-check_band.ensures.counts.quiet ∙ (c.in_ok-band.ensures.counts.quiet ∙ c.loop-j.invariant.quiet);
  records = c.check_band.ensures.writes.records ∙ (c.link_at.ensures.writes.records ∙ c.loop-j.invariant.records);
}

pub returns-in_err-set_band-clause-later : goal.returns-in_err-set_band-clause-later
returns-in_err-set_band-clause-later g c = λ t. g.met.P.PageSpace.later_then t _ _ _ (c.loop-j.invariant.later t) (c.link_at.ensures.later t)

pub returns-in_err-set_band-clause-means : goal.returns-in_err-set_band-clause-means
returns-in_err-set_band-clause-means g c = λ t m. c.link_at.ensures.means t (c.loop-j.invariant.means t m)

pub returns-in_err-check_band-clause-later : goal.returns-in_err-check_band-clause-later
returns-in_err-check_band-clause-later g c = λ t. g.met.P.PageSpace.later_then t _ _ _ (c.loop-j.invariant.later t) (g.met.P.PageSpace.later_then t _ _ _ (c.link_at.ensures.later t) (c.check_band.ensures.later t))

pub returns-in_err-check_band-clause-means : goal.returns-in_err-check_band-clause-means
returns-in_err-check_band-clause-means g c = λ t m. c.check_band.ensures.means t (c.link_at.ensures.means t (c.loop-j.invariant.means t m))

-- the page that is said to be broken
pub returns-in_err-set_band-clause-names : goal.returns-in_err-set_band-clause-names
returns-in_err-set_band-clause-names g c =
    let p = err_from_is_err_and c.from_residual-in_err-set_band.result c.from_residual-in_err-set_band.ensures.1 in
    rw (p.1, p.2) c.in_err-set_band.ensures.names

pub returns-in_err-check_band-clause-names : goal.returns-in_err-check_band-clause-names
returns-in_err-check_band-clause-names g c =
    let p = err_from_is_err_and c.from_residual-in_err-check_band.result c.from_residual-in_err-check_band.ensures.1 in
    rw (p.1, p.2) c.in_err-check_band.ensures.names
