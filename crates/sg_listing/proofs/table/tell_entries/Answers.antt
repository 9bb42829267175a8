use Rattle.std.proofs.Common.{◌≡◌, ◌∙◌, ℕ, List, [], ◌∷◌, length, map, is_some, Some, Result, Err, refl, sym, ap, subst, arith}
use Rattle.std.proofs.lemmas.List.{length-map}
use Rattle.std.specs.Prelude.{IsSome}
use Rattle.std.specs.FinMap.{get, entries}
use Rattle.std.proofs.lemmas.List.Concat.{flat_map_single}
use Rattle.sg_contents.specs.Meaning.{map_of}
use Rattle.sg_contents.proofs.Reading.{get_map}
use Rattle.sg_hash.specs.Table.{value_at}
use Rattle.sg_hash.proofs.Trunks.{still_table}
use Rattle.sg_lines.specs.Heard.{HasHeard}
use Rattle.sg_lines.specs.Parts.{Part, entry_part}
use Rattle.sg_lines.specs.Parts.Part.{AnEntry}
use Rattle.sg_listing.specs.Telling.{OnlyTold, CountsEars, IsTold}
use Rattle.sg_listing.specs.declared.fault.TellFault.{TellFault}
use Rattle.sg_listing.proofs.Entries.{key_at}
use Rattle.sg_listing.proofs.Telling.{handed, read_nothing, read_on, told_read, told_then, heard_nothing, counts_on}
use Rattle.sg_listing.proofs.Told.{one_entry, next_heard, next_failed, all_heard}
use Rattle.sg_listing.proofs.table.tell_entries.Goals as goal

pub keys-init : goal.keys-init
keys-init g c = record {
  read = read_nothing;
  later = λ t. g.met.P.PageSpace.later_same t _;
  means = λ t m. m;
  heard = λ shows t is same. heard_nothing g.L.Listener.ears c.args.to.now;
  quiet = refl;
  same = refl;
}

pub tell_entry-requires : goal.tell_entry-requires
tell_entry-requires g c = λ told.
    let i = c.keys.invariant in
    let back = i.read.back told in
    let shows = g.met.P.PageSpace.told_shows _ back in
    let h = c.requires back in
    let k = key_at (map_of h.0) c.args.sorted.now c.keys.key-index c.key-item.result h.2 c.keys-test.true c.key-item.is in
    let there = ap is_some (sym (get_map h.0 c.key-item.result) ∙ k.3) in
    (h.0, still_table i.read.kept shows h.1, subst (λ (q : List ℕ). IsSome (value_at h.0 q)) (sym c.bytes.ensures) there)

pub keys-preserved : goal.keys-preserved
keys-preserved g c =
    let i = c.keys.invariant in
    let ok = c.in_ok-tell_entry.ensures in
    let ears = g.L.Listener.ears in
    record {
      read = read_on i.read (told_read _ ok.space);
      later = λ t. g.met.P.PageSpace.later_then t _ _ _ (i.later t) (c.tell_entry.ensures.later t);
      means = λ t m. c.tell_entry.ensures.means t (i.means t m);
      heard = λ shows t is same.
          let k = key_at (map_of t) c.args.sorted.now c.keys.key-index c.key-item.result same c.keys-test.true c.key-item.is in
          let own = c.bytes.ensures ∙ sym k.2 in
          let one = ok.heard (i.read.kept.shows shows) t (still_table i.read.kept shows is) k.0.1 (sym (get_map t c.bytes.result.now) ∙ subst (λ (q : List ℕ). get (map_of t) q ≡ Some k.0.1) (sym c.bytes.ensures) k.3) in
          next_heard ears one_entry (entries (map_of t)) c.keys.key-index k.0 k.1 (i.heard shows t is same)
          (subst (λ (n : List ℕ). HasHeard ears c.keys.to (AnEntry n k.0.1 ∷ []) c.tell_entry.new.to) own one);
      quiet = ok.listener.counted ∙ i.quiet;
      same = ok.listener.same ∙ i.same;
    }

pub returns-in_err-tell_entry-clause-space : goal.returns-in_err-tell_entry-clause-space
returns-in_err-tell_entry-clause-space g c =
    handed (λ (r : Result (Unit {0}) TellFault). OnlyTold (g.P.PageSpace.view c.args.space.now) (g.P.PageSpace.view c.tell_entry.new.space) r) c.from_residual.result c.in_err-tell_entry.field-0.0 c.from_residual.ensures.1
    (told_then (Err c.in_err-tell_entry.field-0.0) c.keys.invariant.read c.in_err-tell_entry.ensures.space)

pub returns-in_err-tell_entry-clause-heard : goal.returns-in_err-tell_entry-clause-heard
returns-in_err-tell_entry-clause-heard g c = λ shows t is same.
    let i = c.keys.invariant in
    let ears = g.L.Listener.ears in
    let f = c.in_err-tell_entry.field-0.0 in
    let es = entries (map_of t) in
    let k = key_at (map_of t) c.args.sorted.now c.keys.key-index c.key-item.result same c.keys-test.true c.key-item.is in
    let own = c.bytes.ensures ∙ sym k.2 in
    let one = c.in_err-tell_entry.ensures.heard (i.read.kept.shows shows) t (still_table i.read.kept shows is) k.0.1 (sym (get_map t c.bytes.result.now) ∙ subst (λ (q : List ℕ). get (map_of t) q ≡ Some k.0.1) (sym c.bytes.ensures) k.3) in
    handed (λ (r : Result (Unit {0}) TellFault). IsTold ears c.args.to.now (map entry_part es) c.tell_entry.new.to r) c.from_residual.result f c.from_residual.ensures.1
    (subst (λ (ps : List Part). IsTold {T = Unit {0}} ears c.args.to.now ps c.tell_entry.new.to (Err f)) (flat_map_single entry_part es)
    (next_failed ears one_entry es (Unit {0}) (Unit {0}) c.keys.key-index k.0 k.1 c.args.to.now c.keys.to c.tell_entry.new.to f (i.heard shows t is same)
    (subst (λ (n : List ℕ). IsTold {T = Unit {0}} ears c.keys.to (AnEntry n k.0.1 ∷ []) c.tell_entry.new.to (Err f)) own one)))

pub returns-in_err-tell_entry-clause-listener : goal.returns-in_err-tell_entry-clause-listener
returns-in_err-tell_entry-clause-listener g c =
    handed (λ (r : Result (Unit {0}) TellFault). CountsEars g.L.Listener.ears c.args.to.now c.tell_entry.new.to r) c.from_residual.result c.in_err-tell_entry.field-0.0 c.from_residual.ensures.1
    (counts_on g.L.Listener.ears (Err c.in_err-tell_entry.field-0.0) c.keys.invariant.quiet c.keys.invariant.same c.in_err-tell_entry.ensures.listener)

pub returns-in_err-tell_entry-clause-later : goal.returns-in_err-tell_entry-clause-later
returns-in_err-tell_entry-clause-later g c = λ t. g.met.P.PageSpace.later_then t _ _ _ (c.keys.invariant.later t) (c.tell_entry.ensures.later t)

pub returns-clause-heard : goal.returns-clause-heard
returns-clause-heard g c = λ shows t is same.
    let es = entries (map_of t) in
    let past = c.keys-test.false in
    let long = ap length same in
    subst (λ (ps : List Part). HasHeard g.L.Listener.ears c.args.to.now ps c.keys.to) (flat_map_single entry_part es)
    (all_heard g.L.Listener.ears one_entry es c.keys.key-index (omega (arith, past, long, length-map es (λ (e : List ℕ × List ℕ). e.0))) (c.keys.invariant.heard shows t is same))
