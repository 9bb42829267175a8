use Rattle.sg_catalog.proofs.Adding.{can_put, free_found, can_link, placed_in, placed_behind}
use Rattle.sg_catalog.proofs.grow.place_row.Goals as goal

pub fill_place-requires-clause-can : goal.fill_place-requires-clause-can
fill_place-requires-clause-can g c = λ told.
    let h = c.requires.can told in
    let free = free_found c.in-Some.spot (h.2).survey c.in-Some.is in
    (h.0, (h.1).raw, free.place, can_put c.in-Some.spot free (h.2).grow)

pub add_page-requires-clause-can : goal.add_page-requires-clause-can
add_page-requires-clause-can g c = λ told. let h = c.requires.can told in (h.0, (h.1).raw, can_link h.2 c.in-None.is)

pub returns-in_ok-fill_place-in-Some-clause-did : goal.returns-in_ok-fill_place-in-Some-clause-did
returns-in_ok-fill_place-in-Some-clause-did g c = record {
  keeps = λ t. c.in_ok-fill_place-in-Some.ensures.keeps t;
  turns = λ t d h can. placed_in c.args.row c.in-Some.spot h can c.in-Some.is c.in_ok-fill_place-in-Some.ensures.did t;
}

pub returns-in_ok-add_page-in-None-clause-did : goal.returns-in_ok-add_page-in-None-clause-did
returns-in_ok-add_page-in-None-clause-did g c =
    let did = c.in_ok-add_page-in-None.ensures.did in
    record { keeps = λ t. did.keeps t; turns = λ t d h can. placed_behind c.args.row h can c.in-None.is did t }
