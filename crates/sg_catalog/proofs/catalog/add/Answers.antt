use Rattle.std.proofs.Common.{ℕ, ◌+◌, max, length, refl, sym, ◌∙◌, subst, arith}
use Rattle.sg_space.proofs.Known.{keeps_then, reads_then}
use Rattle.sg_catalog.specs.Catalog.{rows}
use Rattle.sg_catalog.specs.Steps.{RawTurns}
use Rattle.sg_catalog.proofs.Adding.{added_turns, can_place, still_grow}
use Rattle.sg_catalog.proofs.Few.{few_rows}
use Rattle.sg_catalog.proofs.Parts.{still_catalog}
use Rattle.sg_catalog.proofs.Turned.{after_reads, turns_then}
use Rattle.sg_catalog.proofs.catalog.add.Goals as goal

pub broken-requires-then-survey-ge-MOST_ROWS : goal.broken-requires-then-survey-ge-MOST_ROWS
broken-requires-then-survey-ge-MOST_ROWS g c = λ told.
    let told1 = c.survey_pages.ensures.counts.told told in
    let told0 = c.search.ensures.counts.told told1 in
    let shows0 = g.met.P.PageSpace.told_shows _ told0 in
    let shows1 = g.met.P.PageSpace.told_shows _ told1 in
    let h = c.requires.can told0 in
    let one = still_catalog c.in_ok-search.ensures.kept shows0 h.1 in
    let count = (c.in_ok-survey.ensures.read shows1 h.0 one).count in
    let few = few_rows h.0 (g.met.P.PageSpace.pages_exact _ told0) (g.met.P.PageSpace.few_pages _ told0) h.1 in
    let many = c.if-survey-ge-MOST_ROWS.true in
    omega arith

pub place_row-requires-clause-can : goal.place_row-requires-clause-can
place_row-requires-clause-can g c = λ told.
    let told1 = c.survey_pages.ensures.counts.told told in
    let told0 = c.search.ensures.counts.told told1 in
    let shows0 = g.met.P.PageSpace.told_shows _ told0 in
    let shows1 = g.met.P.PageSpace.told_shows _ told1 in
    let k1 = c.in_ok-search.ensures.kept in
    let k2 = c.in_ok-survey.ensures.kept in
    let h = c.requires.can told0 in
    let one = still_catalog k1 shows0 h.1 in
    (h.0, still_catalog k2 shows1 one, can_place k2 shows1 (c.in_ok-survey.ensures.read shows1 h.0 one) (still_grow k1 shows0 (h.2).grow))

pub raise_peak-requires-clause-can : goal.raise_peak-requires-clause-can
raise_peak-requires-clause-can g c = λ told.
    let told2 = c.place_row.ensures.counts.told told in
    let told1 = c.survey_pages.ensures.counts.told told2 in
    let told0 = c.search.ensures.counts.told told1 in
    let shows0 = g.met.P.PageSpace.told_shows _ told0 in
    let shows1 = g.met.P.PageSpace.told_shows _ told1 in
    let k1 = c.in_ok-search.ensures.kept in
    let k2 = c.in_ok-survey.ensures.kept in
    let h = c.requires.can told0 in
    let one = still_catalog k1 shows0 h.1 in
    let survey = c.in_ok-survey.ensures.read shows1 h.0 one in
    let placed = c.in_ok-place_row.ensures.did.turns told2 h.0 (still_catalog k2 shows1 one) (can_place k2 shows1 survey (still_grow k1 shows0 (h.2).grow)) in
    (placed.0, (placed.1).raw, (placed.2).peak ∙ sym survey.peak)

pub returns-clause-did : goal.returns-clause-did
returns-clause-did g c =
    let k1 = c.in_ok-search.ensures.kept in
    let k2 = c.in_ok-survey.ensures.kept in
    let place = c.in_ok-place_row.ensures.did in
    let raise = c.in_ok-raise_peak.ensures.did in
    record {
      keeps = λ t.
          let told1 = k1.keeps.told t in
          let told2 = k2.keeps.told told1 in
          let told3 = (place.keeps told2).told told2 in
          keeps_then k1.keeps (keeps_then k2.keeps (keeps_then (place.keeps told2) (raise.keeps told3)));
      turns = λ t d h can.
          let told1 = k1.keeps.told t in
          let told2 = k2.keeps.told told1 in
          let told3 = (place.keeps told2).told told2 in
          let shows0 = g.met.P.PageSpace.told_shows _ t in
          let shows1 = g.met.P.PageSpace.told_shows _ told1 in
          let one = still_catalog k1 shows0 h in
          let survey = c.in_ok-survey.ensures.read shows1 d one in
          let placed = place.turns told2 d (still_catalog k2 shows1 one) (can_place k2 shows1 survey (still_grow k1 shows0 can.grow)) in
          let peak = (placed.2).peak ∙ sym survey.peak in
          let raised = raise.turns told3 placed.0 (placed.1).raw peak in
          let two = subst (λ (n : ℕ). RawTurns (g.P.PageSpace.view c.place_row.new.space).space (g.P.PageSpace.view c.raise_peak.new.space).space placed.0 (record (placed.0) { peak = max n (c.in_ok-survey.survey.rows + 1) })) (sym peak) raised in
          let three = subst (λ (n : ℕ). RawTurns (g.P.PageSpace.view c.place_row.new.space).space (g.P.PageSpace.view c.raise_peak.new.space).space placed.0 (record (placed.0) { peak = max (placed.0).peak (n + 1) })) survey.count two in
          let all = after_reads (reads_then k1 k2) shows0 (turns_then placed.1 three) in
          let added = added_turns h placed.2 can.absent refl all in
          (record (placed.0) { peak = max (placed.0).peak (length (rows d) + 1) }, added.0, added.1);
    }

pub returns-then-is_some-clause-later : goal.returns-then-is_some-clause-later
returns-then-is_some-clause-later g c = g.met.P.PageSpace.later_then _ _ _ _ (c.search.ensures.later _) (c.broken.ensures.later _)

pub returns-in_err-survey-clause-later : goal.returns-in_err-survey-clause-later
returns-in_err-survey-clause-later g c = g.met.P.PageSpace.later_then _ _ _ _ (c.search.ensures.later _) (c.survey_pages.ensures.later _)

pub returns-then-survey-ge-MOST_ROWS-clause-later : goal.returns-then-survey-ge-MOST_ROWS-clause-later
returns-then-survey-ge-MOST_ROWS-clause-later g c =
    let then = g.met.P.PageSpace.later_then _ in
    then _ _ _ (c.search.ensures.later _) (then _ _ _ (c.survey_pages.ensures.later _) (c.broken-then-survey-ge-MOST_ROWS.ensures.later _))

pub returns-in_err-place_row-clause-later : goal.returns-in_err-place_row-clause-later
returns-in_err-place_row-clause-later g c =
    let then = g.met.P.PageSpace.later_then _ in
    then _ _ _ (c.search.ensures.later _) (then _ _ _ (c.survey_pages.ensures.later _) c.place_row.ensures.later)

pub returns-in_err-raise_peak-clause-later : goal.returns-in_err-raise_peak-clause-later
returns-in_err-raise_peak-clause-later g c =
    let then = g.met.P.PageSpace.later_then _ in
    then _ _ _ (c.search.ensures.later _) (then _ _ _ (c.survey_pages.ensures.later _) (then _ _ _ c.place_row.ensures.later c.raise_peak.ensures.later))

pub returns-clause-later : goal.returns-clause-later
returns-clause-later g c =
    let then = g.met.P.PageSpace.later_then _ in
    then _ _ _ (c.search.ensures.later _) (then _ _ _ (c.survey_pages.ensures.later _) (then _ _ _ c.place_row.ensures.later c.raise_peak.ensures.later))

pub returns-clause-counts : goal.returns-clause-counts
returns-clause-counts g c =
    let sought = c.search.ensures.counts in
    let seen = c.survey_pages.ensures.counts in
    let placed = c.place_row.ensures.counts in
    let raised = c.raise_peak.ensures.counts in
    let a = sought.later in
    let b = seen.later in
    let d = placed.later in
    let e = raised.later in
    record {
      told = λ t. sought.told (seen.told (placed.told (raised.told t)));
      later = omega arith;
      quiet = c.in_ok-raise_peak.ensures.counts.quiet ∙ (c.in_ok-place_row.ensures.counts.quiet ∙ (c.in_ok-survey.ensures.counts.quiet ∙ c.in_ok-search.ensures.counts.quiet));
      disk = tt;
      log_end = tt;
    }

pub returns-clause-few : goal.returns-clause-few
returns-clause-few g c =
    let a = c.search.ensures.writes.records in
    let b = c.survey_pages.ensures.writes.records in
    let d = c.place_row.ensures.few in
    let e = c.raise_peak.ensures.few in
    omega arith

pub returns-in_err-raise_peak-clause-few : goal.returns-in_err-raise_peak-clause-few
returns-in_err-raise_peak-clause-few g c =
    let a = c.search.ensures.writes.records in
    let b = c.survey_pages.ensures.writes.records in
    let d = c.place_row.ensures.few in
    let e = c.raise_peak.ensures.few in
    omega arith
