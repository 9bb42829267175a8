use Rattle.sg_objects.proofs.Raising.{was_tomb, can_raise, undo_drop_done}
use Rattle.sg_objects.proofs.Counting.{went, counts_ok, counts_handed}
use Rattle.sg_objects.proofs.back.undo_drop.Goals as goal

pub unbury-requires-clause-can : goal.unbury-requires-clause-can
unbury-requires-clause-can g c = λ told.
    let h = c.requires.can told in
    ((h.0).catalog, (h.1).catalog, can_raise (was_tomb h.0 c.args.name c.args.root.0 (h.2).th (h.2).possible))

pub returns-clause-did : goal.returns-clause-did
returns-clause-did g c =
    let did = c.in_ok-unbury.ensures.did in
    record {
      told = λ told. (did.keeps told).told told;
      done = λ told s h th e.
          let w = was_tomb s c.args.name c.args.root.0 th e in
          let one = did.turns told s.catalog h.catalog (can_raise w) in
          (_, undo_drop_done c.args.name c.args.root.0 th h one.1 one.2 w);
    }

-- the call says the rest of it
pub unbury-requires-clause-means : goal.unbury-requires-clause-means
unbury-requires-clause-means g c = c.requires.means

pub returns-in_err-unbury-clause-counts : goal.returns-in_err-unbury-clause-counts
returns-in_err-unbury-clause-counts g c =
    counts_handed c.from_residual.result _ c.from_residual.ensures.1 (c.in_err-unbury.ensures.counts)

pub returns-clause-counts : goal.returns-clause-counts
returns-clause-counts g c = counts_ok _ (went c.in_ok-unbury.ensures.counts)

pub returns-in_err-unbury-clause-later : goal.returns-in_err-unbury-clause-later
returns-in_err-unbury-clause-later g c = c.unbury.ensures.later

pub returns-in_err-unbury-clause-means : goal.returns-in_err-unbury-clause-means
returns-in_err-unbury-clause-means g c = c.unbury.ensures.means

pub returns-in_err-unbury-clause-few : goal.returns-in_err-unbury-clause-few
returns-in_err-unbury-clause-few g c = c.unbury.ensures.few

pub returns-clause-later : goal.returns-clause-later
returns-clause-later g c = c.unbury.ensures.later

pub returns-clause-means : goal.returns-clause-means
returns-clause-means g c = c.unbury.ensures.means

pub returns-clause-few : goal.returns-clause-few
returns-clause-few g c = c.unbury.ensures.few
