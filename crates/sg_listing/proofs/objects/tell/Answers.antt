use Rattle.std.proofs.Common.{◌≡◌, ◌∙◌, ℕ, List, length, Result, ap}
use Rattle.std.proofs.lemmas.List.{length-map}
use Rattle.std.specs.FinMap.{entries, keys}
use Rattle.sg_contents.specs.Meaning.{reading}
use Rattle.sg_contents.specs.Standing.{Contents}
use Rattle.sg_lines.specs.Parts.{parts_of}
use Rattle.sg_model.specs.Objects.{Object}
use Rattle.sg_objects.proofs.Located.{still_contents}
use Rattle.sg_reading.specs.Reading.{objects}
use Rattle.sg_listing.specs.Telling.{list_fault, OnlyTold, CountsEars, IsTold}
use Rattle.sg_listing.specs.declared.fault.TellFault.{TellFault}
use Rattle.sg_listing.proofs.Telling.{handed, told_list, list_untold, list_counts, told_again}
use Rattle.sg_listing.proofs.objects.tell.Goals as goal

pub tell_named-requires : goal.tell_named-requires
tell_named-requires g c = λ told.
    let back = c.list.ensures.counts.told told in
    let shows = g.met.P.PageSpace.told_shows _ back in
    let h = c.requires back in
    let q = c.in_ok-all.ensures in
    (h.0, still_contents q.kept shows h.1, c.as_slice-names.ensures.value ∙ q.read shows h.0 h.1)

pub returns-in_err-all-clause-space : goal.returns-in_err-all-clause-space
returns-in_err-all-clause-space g c =
    let q = c.in_err-all.ensures in
    let f = c.in_err-all.field-0.0 in
    handed (λ (r : Result ℕ TellFault). OnlyTold (g.P.PageSpace.view c.args.space.now) (g.P.PageSpace.view c.list.new.space) r) c.from_residual.result (list_fault f) c.from_residual.ensures.1
    (told_list f q.counts q.memory q.quiet q.writes)

pub returns-in_err-all-clause-heard : goal.returns-in_err-all-clause-heard
returns-in_err-all-clause-heard g c = λ shows s h.
    let f = c.in_err-all.field-0.0 in
    handed (λ (r : Result ℕ TellFault). IsTold g.L.Listener.ears c.args.to.now (parts_of (objects (reading s))) c.args.to.now r) c.from_residual.result (list_fault f) c.from_residual.ensures.1
    (list_untold g.L.Listener.ears ℕ c.args.to.now _ c.args.to.now f)

pub returns-in_err-all-clause-listener : goal.returns-in_err-all-clause-listener
returns-in_err-all-clause-listener g c =
    let f = c.in_err-all.field-0.0 in
    handed (λ (r : Result ℕ TellFault). CountsEars g.L.Listener.ears c.args.to.now c.args.to.now r) c.from_residual.result (list_fault f) c.from_residual.ensures.1
    (list_counts g.L.Listener.ears c.args.to.now f)

-- as many names as objects
many : (s : Contents) (names : List (List ℕ)) → names ≡ keys (objects (reading s)) → length names ≡ length (entries (objects (reading s)))
many s names e = ap length e ∙ length-map (entries (objects (reading s))) (λ (x : List ℕ × Object). x.0)

pub returns-in_err-tell_named-clause-heard : goal.returns-in_err-tell_named-clause-heard
returns-in_err-tell_named-clause-heard g c = λ shows s h.
    let k = c.in_ok-all.ensures.kept in
    let same = c.as_slice-names.ensures.value ∙ c.in_ok-all.ensures.read shows s h in
    let f = c.in_err-tell_named.field-0.0 in
    let parts = parts_of (objects (reading s)) in
    handed (λ (r : Result ℕ TellFault). IsTold g.L.Listener.ears c.args.to.now parts c.tell_named.new.to r) c.from_residual-in_err-tell_named.result f c.from_residual-in_err-tell_named.ensures.1
    (told_again g.L.Listener.ears (Unit {0}) ℕ c.args.to.now c.tell_named.new.to parts f (c.in_err-tell_named.ensures.heard (k.shows shows) s (still_contents k shows h) same))

pub returns-clause-heard : goal.returns-clause-heard
returns-clause-heard g c = λ shows s h.
    let k = c.in_ok-all.ensures.kept in
    c.in_ok-tell_named.ensures.heard (k.shows shows) s (still_contents k shows h) (c.as_slice-names.ensures.value ∙ c.in_ok-all.ensures.read shows s h)

pub returns-clause-count : goal.returns-clause-count
returns-clause-count g c = λ shows s h. many s c.as_slice-names.result.now (c.as_slice-names.ensures.value ∙ c.in_ok-all.ensures.read shows s h)
