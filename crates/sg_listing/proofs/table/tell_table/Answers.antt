use Rattle.std.proofs.Common.{◌≡◌, ◌∙◌, ℕ, ◌∷◌, [], List, length, map, Result, ap, subst}
use Rattle.std.proofs.lemmas.List.{length-map}
use Rattle.std.specs.FinMap.{entries, keys}
use Rattle.sg_contents.specs.Meaning.{map_of}
use Rattle.sg_hash.specs.Table.{HashTable}
use Rattle.sg_hash.proofs.Onces.{once}
use Rattle.sg_hash.proofs.Trunks.{still_table}
use Rattle.sg_lines.specs.Heard.{HasHeard, WasCut}
use Rattle.sg_lines.specs.Parts.{entry_part, parts_of_object}
use Rattle.sg_lines.specs.Parts.Part.{TableBegins}
use Rattle.sg_model.specs.Objects.Object.{Table as as_object}
use Rattle.sg_objects.proofs.Listing.{table_keys}
use Rattle.sg_listing.specs.Telling.{list_fault, OnlyTold, CountsEars, IsTold}
use Rattle.sg_listing.specs.declared.fault.TellFault.{TellFault}
use Rattle.sg_listing.specs.declared.fault.TellFault.TheVariants.{Listener}
use Rattle.sg_listing.proofs.Telling.{handed, told_list, list_untold, list_counts, told_on, cut_before}
use Rattle.sg_listing.proofs.table.tell_table.Goals as goal

-- as many keys as entries
many : (t : HashTable) (ks : List (List ℕ)) → ks ≡ keys (map_of t) → length ks ≡ length (entries (map_of t))
many t ks e = ap length e ∙ length-map (entries (map_of t)) (λ (x : List ℕ × List ℕ). x.0)

pub tell_entries-requires : goal.tell_entries-requires
tell_entries-requires g c = λ told.
    let back = c.keys.ensures.counts.told told in
    let shows = g.met.P.PageSpace.told_shows _ back in
    let h = c.requires back in
    let q = c.in_ok-keys.ensures in
    (h.0, still_table q.kept shows h.1, c.as_slice-sorted.ensures.value ∙ table_keys h.0 c.in_ok-keys.keys.items (once h.1) (q.read shows h.0 h.1) q.order)

pub returns-in_err-keys-clause-space : goal.returns-in_err-keys-clause-space
returns-in_err-keys-clause-space g c =
    let q = c.in_err-keys.ensures in
    let f = c.in_err-keys.field-0.0 in
    handed (λ (r : Result (Unit {0}) TellFault). OnlyTold (g.P.PageSpace.view c.args.space.now) (g.P.PageSpace.view c.keys.new.space) r) c.from_residual.result (list_fault f) c.from_residual.ensures.1
    (told_list f q.counts q.memory q.quiet q.writes)

pub returns-in_err-keys-clause-heard : goal.returns-in_err-keys-clause-heard
returns-in_err-keys-clause-heard g c = λ shows t is.
    let f = c.in_err-keys.field-0.0 in
    handed (λ (r : Result (Unit {0}) TellFault). IsTold g.L.Listener.ears c.args.to.now (parts_of_object c.args.name.now (as_object (map_of t))) c.args.to.now r) c.from_residual.result (list_fault f) c.from_residual.ensures.1
    (list_untold g.L.Listener.ears (Unit {0}) c.args.to.now _ c.args.to.now f)

pub returns-in_err-keys-clause-listener : goal.returns-in_err-keys-clause-listener
returns-in_err-keys-clause-listener g c =
    let f = c.in_err-keys.field-0.0 in
    handed (λ (r : Result (Unit {0}) TellFault). CountsEars g.L.Listener.ears c.args.to.now c.args.to.now r) c.from_residual.result (list_fault f) c.from_residual.ensures.1
    (list_counts g.L.Listener.ears c.args.to.now f)

pub returns-in_err-table-clause-heard : goal.returns-in_err-table-clause-heard
returns-in_err-table-clause-heard g c = λ shows t is.
    let ears = g.L.Listener.ears in
    let name = c.args.name.now in
    let es = entries (map_of t) in
    let q = c.in_ok-keys.ensures in
    let n = many t c.as_slice-sorted.result.now (c.as_slice-sorted.ensures.value ∙ table_keys t c.in_ok-keys.keys.items (once is) (q.read shows t is) q.order) in
    handed (λ (r : Result (Unit {0}) TellFault). IsTold ears c.args.to.now (TableBegins name (length es) ∷ map entry_part es) c.table.new.self r) c.from_residual-in_err-table.result Listener c.from_residual-in_err-table.ensures.1
    (cut_before ears (TableBegins name (length es) ∷ []) (map entry_part es)
    (subst (λ (m : ℕ). WasCut ears c.args.to.now (TableBegins name m ∷ []) c.table.new.self) n c.in_err-table.ensures.cut))

pub returns-clause-heard : goal.returns-clause-heard
returns-clause-heard g c = λ shows t is.
    let ears = g.L.Listener.ears in
    let name = c.args.name.now in
    let es = entries (map_of t) in
    let q = c.in_ok-keys.ensures in
    let same = c.as_slice-sorted.ensures.value ∙ table_keys t c.in_ok-keys.keys.items (once is) (q.read shows t is) q.order in
    told_on ears (Unit {0}) c.args.to.now c.table.new.self c.tell_entries.new.to (TableBegins name (length es) ∷ []) (map entry_part es) c.tell_entries.result
    (subst (λ (m : ℕ). HasHeard ears c.args.to.now (TableBegins name m ∷ []) c.table.new.self) (many t c.as_slice-sorted.result.now same) c.in_ok-table.ensures.heard)
    (c.tell_entries.ensures.heard (q.kept.shows shows) t (still_table q.kept shows is) same)
