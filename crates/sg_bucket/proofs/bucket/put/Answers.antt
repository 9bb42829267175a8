use Rattle.std.proofs.Common.{◌≡◌, Some, None}
use Rattle.sg_space.proofs.Known.{keeps_then}
use Rattle.sg_bucket.proofs.Cells.{front_entry, front_is}
use Rattle.sg_bucket.proofs.Mapping.{place_has, put_adds, put_replaces}
use Rattle.sg_bucket.proofs.Owning.{did_as, did_of, reads_did}
use Rattle.sg_bucket.proofs.Places.{found_place}
use Rattle.sg_bucket.proofs.Rooms.{can_add_still}
use Rattle.sg_bucket.proofs.Walking.{still_linked}
use Rattle.sg_bucket.proofs.bucket.put.Goals as goal

some_is_none : {A : Type 0} (x : A) → Some x ≡ None → ⊥
some_is_none x e = cc

pub add-requires-clause-cell : goal.add-requires-clause-cell
add-requires-clause-cell g c = front_entry c.spell-size.result c.spell-size.new.into (record { key = c.args.key.now; value = c.args.value.now }) (record { key = c.requires.key; value = c.requires.value }) c.spell-size.ensures.spelled

pub add-requires-clause-there : goal.add-requires-clause-there
add-requires-clause-there g c = λ told.
    let back = c.seek.ensures.counts.told told in
    let shows = g.met.P.PageSpace.told_shows _ back in
    let kept = c.in_ok-seek.ensures.kept in
    let h = c.requires.there back in
    (h.0, still_linked kept shows h.1, can_add_still kept shows h.2.add)

pub replace-requires-clause-cell : goal.replace-requires-clause-cell
replace-requires-clause-cell g c = front_entry c.spell-size.result c.spell-size.new.into (record { key = c.args.key.now; value = c.args.value.now }) (record { key = c.requires.key; value = c.requires.value }) c.spell-size.ensures.spelled

pub replace-requires-clause-there : goal.replace-requires-clause-there
replace-requires-clause-there g c = λ told.
    let back = c.seek.ensures.counts.told told in
    let shows = g.met.P.PageSpace.told_shows _ back in
    let kept = c.in_ok-seek.ensures.kept in
    let h = c.requires.there back in (
      h.0,
      still_linked kept shows h.1,
      record { add = can_add_still kept shows h.2.add; has = place_has (found_place h.0 c.args.key.now c.in-Some.is (c.in_ok-seek.ensures.read shows h.0 h.1)) },
    )

pub returns-in_ok-add-in-None-clause-did : goal.returns-in_ok-add-in-None-clause-did
returns-in_ok-add-in-None-clause-did g c =
    let kept = c.in_ok-seek.ensures.kept in
    let added = c.in_ok-add-in-None.ensures.did in
    record {
      did = did_as (reads_did (λ t. g.met.P.PageSpace.told_shows _ t) kept (did_of added) (λ told b h k. can_add_still kept (g.met.P.PageSpace.told_shows _ told) k.add))
          (λ told b b' h k t a. put_adds a (front_is c.spell-size.result c.spell-size.new.into (record { key = c.args.key.now; value = c.args.value.now }) (record { key = c.requires.key; value = c.requires.value }) c.spell-size.ensures.spelled) h k.sound c.in-None.is (c.in_ok-seek.ensures.read (g.met.P.PageSpace.told_shows _ told) b h));
      keeps = λ none told. keeps_then kept.keeps (added.keeps (kept.keeps.told told));
    }

pub returns-in_ok-old-in-Some-clause-did : goal.returns-in_ok-old-in-Some-clause-did
returns-in_ok-old-in-Some-clause-did g c =
    let kept = c.in_ok-seek.ensures.kept in
    record {
      did = did_as (reads_did (λ t. g.met.P.PageSpace.told_shows _ t) kept c.in_ok-old-in-Some.ensures.did (λ told b h k.
          let shows = g.met.P.PageSpace.told_shows _ told in
          record { add = can_add_still kept shows k.add; has = place_has (found_place b c.args.key.now c.in-Some.is (c.in_ok-seek.ensures.read shows b h)) }))
          (λ told b b' h k t r. put_replaces r (front_is c.spell-size.result c.spell-size.new.into (record { key = c.args.key.now; value = c.args.value.now }) (record { key = c.requires.key; value = c.requires.value }) c.spell-size.ensures.spelled) h k.sound (found_place b c.args.key.now c.in-Some.is (c.in_ok-seek.ensures.read (g.met.P.PageSpace.told_shows _ told) b h)));
      keeps = λ e. absurd (some_is_none _ e);
    }

pub returns-in_err-add-in-None-clause-later : goal.returns-in_err-add-in-None-clause-later
returns-in_err-add-in-None-clause-later g c = g.met.P.PageSpace.later_then _ _ _ _ (c.seek.ensures.later _) c.add.ensures.later

pub returns-in_ok-add-in-None-clause-later : goal.returns-in_ok-add-in-None-clause-later
returns-in_ok-add-in-None-clause-later g c = g.met.P.PageSpace.later_then _ _ _ _ (c.seek.ensures.later _) c.add.ensures.later

pub returns-in_err-old-in-Some-clause-later : goal.returns-in_err-old-in-Some-clause-later
returns-in_err-old-in-Some-clause-later g c = g.met.P.PageSpace.later_then _ _ _ _ (c.seek.ensures.later _) c.replace.ensures.later

pub returns-in_ok-old-in-Some-clause-later : goal.returns-in_ok-old-in-Some-clause-later
returns-in_ok-old-in-Some-clause-later g c = g.met.P.PageSpace.later_then _ _ _ _ (c.seek.ensures.later _) c.replace.ensures.later
