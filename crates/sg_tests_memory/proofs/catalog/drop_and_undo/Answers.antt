use Rattle.std.proofs.Common.{ap, refl, ◌∙◌, option_map}
use Rattle.sg_catalog.specs.Calls.{object}
use Rattle.sg_catalog.specs.Row.{entry_of}
use Rattle.sg_catalog.proofs.Parts.{still_catalog}
use Rattle.sg_tests_memory.proofs.Fresh.{empty_catalog, new_catalog}
use Rattle.sg_tests_memory.proofs.OneRow.{can_add, can_bury, can_raise, added_one, buried_one, raised_one, finds_tomb}
use Rattle.sg_tests_memory.proofs.catalog.drop_and_undo.Goals as goal

pub add-requires-clause-can : goal.add-requires-clause-can
add-requires-clause-can g c = λ t. (empty_catalog, new_catalog c.requires, can_add c.args.space.now c.args.name)

pub bury-requires-clause-can : goal.bury-requires-clause-can
bury-requires-clause-can g c = λ t.
    let a = c.in_ok-add.ensures.did.turns tt empty_catalog (new_catalog c.requires) (can_add c.args.space.now c.args.name) in
    (a.0, a.1.catalog, can_bury a.2)

pub find-requires : goal.find-requires
find-requires g c = λ t.
    let a = c.in_ok-add.ensures.did.turns tt empty_catalog (new_catalog c.requires) (can_add c.args.space.now c.args.name) in
    let b = c.in_ok-bury.ensures.did.turns tt a.0 a.1.catalog (can_bury a.2) in
    (b.0, b.1.catalog, tt)

pub next_buried-requires : goal.next_buried-requires
next_buried-requires g c = λ t.
    let a = c.in_ok-add.ensures.did.turns tt empty_catalog (new_catalog c.requires) (can_add c.args.space.now c.args.name) in
    let b = c.in_ok-bury.ensures.did.turns tt a.0 a.1.catalog (can_bury a.2) in
    (b.0, still_catalog c.in_ok-dropped.ensures.kept tt b.1.catalog, tt)

pub unbury-requires-clause-can : goal.unbury-requires-clause-can
unbury-requires-clause-can g c = λ t.
    let a = c.in_ok-add.ensures.did.turns tt empty_catalog (new_catalog c.requires) (can_add c.args.space.now c.args.name) in
    let b = c.in_ok-bury.ensures.did.turns tt a.0 a.1.catalog (can_bury a.2) in
    let there = still_catalog c.in_ok-tomb.ensures.kept tt (still_catalog c.in_ok-dropped.ensures.kept tt b.1.catalog) in
    (b.0, there, can_raise c.args.name c.args.object c.args.by b.0 (buried_one (added_one refl a.2) b.2) b.2.map.here)

pub find-requires-2 : goal.find-requires-2
find-requires-2 g c = λ t.
    let a = c.in_ok-add.ensures.did.turns tt empty_catalog (new_catalog c.requires) (can_add c.args.space.now c.args.name) in
    let b = c.in_ok-bury.ensures.did.turns tt a.0 a.1.catalog (can_bury a.2) in
    let there = still_catalog c.in_ok-tomb.ensures.kept tt (still_catalog c.in_ok-dropped.ensures.kept tt b.1.catalog) in
    let u = c.in_ok-unbury.ensures.did.turns tt b.0 there (can_raise c.args.name c.args.object c.args.by b.0 (buried_one (added_one refl a.2) b.2) b.2.map.here) in
    (u.0, u.1.catalog, tt)

pub returns-clause-dropped : goal.returns-clause-dropped
returns-clause-dropped g c =
    let a = c.in_ok-add.ensures.did.turns tt empty_catalog (new_catalog c.requires) (can_add c.args.space.now c.args.name) in
    let b = c.in_ok-bury.ensures.did.turns tt a.0 a.1.catalog (can_bury a.2) in
    c.in_ok-dropped.ensures.read tt b.0 b.1.catalog ∙ ap (option_map entry_of) b.2.map.here

pub returns-clause-tomb : goal.returns-clause-tomb
returns-clause-tomb g c =
    let a = c.in_ok-add.ensures.did.turns tt empty_catalog (new_catalog c.requires) (can_add c.args.space.now c.args.name) in
    let b = c.in_ok-bury.ensures.did.turns tt a.0 a.1.catalog (can_bury a.2) in
    c.in_ok-tomb.ensures.read tt b.0 (still_catalog c.in_ok-dropped.ensures.kept tt b.1.catalog) ∙ ap (option_map entry_of) (finds_tomb c.args.by (object c.args.name c.args.object) b.0 (buried_one (added_one refl a.2) b.2))

pub returns-clause-back : goal.returns-clause-back
returns-clause-back g c =
    let a = c.in_ok-add.ensures.did.turns tt empty_catalog (new_catalog c.requires) (can_add c.args.space.now c.args.name) in
    let b = c.in_ok-bury.ensures.did.turns tt a.0 a.1.catalog (can_bury a.2) in
    let there = still_catalog c.in_ok-tomb.ensures.kept tt (still_catalog c.in_ok-dropped.ensures.kept tt b.1.catalog) in
    let u = c.in_ok-unbury.ensures.did.turns tt b.0 there (can_raise c.args.name c.args.object c.args.by b.0 (buried_one (added_one refl a.2) b.2) b.2.map.here) in
    c.in_ok-back.ensures.read tt u.0 u.1.catalog ∙ raised_one c.args.name c.args.object c.args.by b.0 u.0 (buried_one (added_one refl a.2) b.2) u.2
