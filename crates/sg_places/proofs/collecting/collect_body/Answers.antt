use Rattle.std.proofs.Common.{◌≡◌, ◌+◌, ◌*◌, ◌≤◌, ◌<◌, ◌++◌, length, take, refl, sym, ap, ◌∙◌, arith, vec_len, vec_capacity}
use Rattle.std.proofs.lemmas.List.{take_rest}
use Rattle.sg_record.specs.Shown.{shown}
use Rattle.sg_log.specs.Texts.{spelled_all}
use Rattle.sg_log.proofs.Texts.{spelled-long}
use Rattle.sg_places.proofs.Rest.{body_placed_none, body_placed_more, placed_there, body_placed, some_left, lies}
use Rattle.sg_places.proofs.collecting.collect_body.Goals as goal

pub records-init : goal.records-init
records-init c = (omega arith, omega arith, refl, λ rs fields text. body_placed_none c.args.pages c.args.bands c.args.base c.args.point c.args.lsn c.args.body.now rs c.args.places.now.items fields text)

pub records-smaller : goal.records-smaller
records-smaller c = omega (arith, c.in-Ok.ensures.size, spelled-long (shown c.in-Ok.rec))

pub add_place-requires-clause-room : goal.add_place-requires-clause-room
add_place-requires-clause-room c =
    let low = c.records-test.true in
    let most = c.records.invariant.1 in
    let same = c.records.invariant.2 in
    let bytes = c.args.body.now in
    let within = lies bytes c.records.from c.in-Ok.size (shown c.in-Ok.rec) low (ap (take c.in-Ok.size) (sym (take_rest bytes c.records.from)) ∙ c.in-Ok.ensures.spelling) c.in-Ok.ensures.size in
    omega (arith, low, most, same, c.requires.room, c.in-Ok.ensures.size, spelled-long (shown c.in-Ok.rec), within)

pub records-preserved : goal.records-preserved
records-preserved c =
    let bytes = c.args.body.now in
    let most = c.records.invariant.1 in
    let one = c.add_place.ensures.most in
    let long = spelled-long (shown c.in-Ok.rec) in
    let size = c.in-Ok.ensures.size in (
      lies bytes c.records.from c.in-Ok.size (shown c.in-Ok.rec) c.records-test.true (ap (take c.in-Ok.size) (sym (take_rest bytes c.records.from)) ∙ c.in-Ok.ensures.spelling) c.in-Ok.ensures.size,
      omega (arith, most, one, long, size),
      c.add_place.ensures.room ∙ c.records.invariant.2,
      λ rs fields text. body_placed_more c.args.pages c.args.bands c.args.base c.args.point c.args.lsn bytes rs c.args.places.now.items c.records.places.items c.records.from (c.records.invariant.3 rs fields text)
          c.in-Ok.size (shown c.in-Ok.rec) c.records-test.true c.in-Ok.ensures.range (ap (take c.in-Ok.size) (sym (take_rest bytes c.records.from)) ∙ c.in-Ok.ensures.spelling)
          c.add_place.new.places.items c.in-Ok-add_place.ensures.places c.in-Ok.ensures.size,
    )

pub returns-in_default-clause-there : goal.returns-in_default-clause-there
returns-in_default-clause-there c rs fields text all =
    let h = c.records.invariant.3 rs fields text in
    let first = some_left c.args.body.now c.records.from h.rest h.left c.records-test.true in
    let back = c.in_default.ensures.back first.0 (spelled_all first.1) first.2 (take_rest c.args.body.now c.records.from ∙ first.3) in
    absurd cc

pub returns-in-Err-clause-there : goal.returns-in-Err-clause-there
returns-in-Err-clause-there c rs fields text all =
    let bytes = c.args.body.now in
    c.in-Err.ensures.there (placed_there c.args.pages c.args.bands c.args.base c.args.point c.args.lsn bytes rs c.args.places.now.items c.records.places.items c.records.from (c.records.invariant.3 rs fields text)
    c.in-Ok.size (shown c.in-Ok.rec) c.records-test.true c.in-Ok.ensures.range (ap (take c.in-Ok.size) (sym (take_rest bytes c.records.from)) ∙ c.in-Ok.ensures.spelling) all)

pub returns-clause-places : goal.returns-clause-places
returns-clause-places c rs fields text = body_placed (c.records.invariant.3 rs fields text) c.records-test.false

pub returns-in-Err-clause-most : goal.returns-in-Err-clause-most
returns-in-Err-clause-most c =
    let low = c.records-test.true in
    let most = c.records.invariant.1 in
    let one = c.add_place.ensures.most in
    let bytes = c.args.body.now in
    let within = lies bytes c.records.from c.in-Ok.size (shown c.in-Ok.rec) low (ap (take c.in-Ok.size) (sym (take_rest bytes c.records.from)) ∙ c.in-Ok.ensures.spelling) c.in-Ok.ensures.size in
    omega (arith, most, one, c.in-Ok.ensures.size, spelled-long (shown c.in-Ok.rec), within)
