use Rattle.sg_space.proofs.Known.{before}
use Rattle.sg_space.specs.Units.{HasAt}
use Rattle.sg_space.specs.View.{Space}
use Rattle.sg_bucket.specs.Part.{IsCopied}
use Rattle.sg_bucket.proofs.Places.{found_none, found_place, place_value, value_copied}
use Rattle.sg_bucket.proofs.Walking.{still_linked}
use Rattle.sg_bucket.proofs.walk.find.Goals as goal

pub copy_value-requires-clause-there : goal.copy_value-requires-clause-there
copy_value-requires-clause-there g c = λ told.
    let back = c.seek.ensures.counts.told told in
    let shows = g.met.P.PageSpace.told_shows _ back in
    let h = c.requires.there back in
    place_value (still_linked c.in_ok-seek.ensures.kept shows h.1.linked) (found_place h.0 c.args.key.now c.in-Some.is (c.in_ok-seek.ensures.read shows h.0 h.1.linked))

pub returns-in-None-clause-read : goal.returns-in-None-clause-read
returns-in-None-clause-read g c = λ shows b h. found_none b c.args.key.now c.in-None.is h (c.in_ok-seek.ensures.read shows b h.linked)

pub returns-in_ok-n-in-Some-clause-read : goal.returns-in_ok-n-in-Some-clause-read
returns-in_ok-n-in-Some-clause-read g c = λ shows b h.
    let kept = c.in_ok-seek.ensures.kept in
    let copied = before (λ (s : Space). HasAt s.pages.at c.in-Some.place.page.0 (IsCopied c.in-Some.place.slot c.in_ok-n-in-Some.n c.copy_value.new.into)) kept shows (c.in_ok-n-in-Some.ensures.read (kept.shows shows)) in
    value_copied h (found_place b c.args.key.now c.in-Some.is (c.in_ok-seek.ensures.read shows b h.linked)) copied

pub returns-in_err-n-in-Some-clause-later : goal.returns-in_err-n-in-Some-clause-later
returns-in_err-n-in-Some-clause-later g c = λ t. g.met.P.PageSpace.later_then t _ _ _ (c.seek.ensures.later t) (c.copy_value.ensures.later t)

pub returns-in_ok-n-in-Some-clause-later : goal.returns-in_ok-n-in-Some-clause-later
returns-in_ok-n-in-Some-clause-later g c = λ t. g.met.P.PageSpace.later_then t _ _ _ (c.seek.ensures.later t) (c.copy_value.ensures.later t)
