use Rattle.std.proofs.Common.{◌≡◌, ℕ, ◌+◌, ◌*◌, ◌<◌, ◌≤◌, Bool, true, false, List, Option, Some, None, length, set, get_or, refl, sym, ap, subst, ◌∙◌, arith, rules}
use Rattle.std.proofs.Math.ListN.{length-set}
use Rattle.sg_catalog.specs.Catalog.{Catalog, row_at}
use Rattle.sg_space.proofs.Known.{still, before, reads_then}
use Rattle.sg_space.specs.Units.{HasAt}
use Rattle.sg_space.specs.View.{Space}
use Rattle.sg_names.specs.Marked.{mark_of, IsMarked}
use Rattle.sg_names.specs.Tally.{IsChain, IsNameAt, name_of}
use Rattle.sg_names.proofs.Marking.{marked_skip, marked_new, marked_counted}
use Rattle.sg_names.proofs.Onces.{sees_on, name_here}
use Rattle.sg_names.proofs.Tallies.{place_in}
use Rattle.sg_names.proofs.marked.check_marked.Goals as goal

one_further : (c : Catalog) (j k : ℕ) (marks : List Bool) → IsMarked c (79 * j + k + 1) marks → IsMarked c (79 * j + (k + 1)) marks
one_further c j k marks h = subst (λ (n : ℕ). IsMarked c n marks) (let e : 79 * j + k + 1 ≡ 79 * j + (k + 1) = omega arith in e) h

pub loop-slot-preserved-in_default : goal.loop-slot-preserved-in_default
loop-slot-preserved-in_default g c =
    let i = c.loop-slot.invariant.so_far in
    let test = c.loop-slot-test.true in
    let counts = c.name_at.ensures.counts in
    record {
      so_far = sees_on i counts.told counts.later c.in_ok-name.ensures.kept (λ shows all cat h j at m.
          let seen = before (λ (s : Space). HasAt s.pages.at c.args.p.0 (IsNameAt c.loop-slot.slot c.in_ok-name.field-0)) i.kept shows (c.in_ok-name.ensures.read (i.kept.shows shows)) in
          let name = name_here cat j c.args.p.0 c.loop-slot.slot c.in_ok-name.field-0 h at (omega arith) seen in
          one_further cat j c.loop-slot.slot c.loop-slot.marks (marked_skip cat (79 * j + c.loop-slot.slot) c.loop-slot.marks (place_in cat j c.args.p.0 c.loop-slot.slot h at (omega arith)) (sym name ∙ c.in_default.is) (all cat h j at m)));
      long = c.loop-slot.invariant.long;
      later = λ t. g.met.P.PageSpace.later_then t _ _ _ (c.loop-slot.invariant.later t) (c.name_at.ensures.later t);
      means = λ t m. c.name_at.ensures.means t (c.loop-slot.invariant.means t m);
      quiet = c.in_ok-name.ensures.counts.quiet ∙ c.loop-slot.invariant.quiet;
      records = c.name_at.ensures.writes.records ∙ c.loop-slot.invariant.records;
    }

pub returns-then-branch-gt1-clause-broken : goal.returns-then-branch-gt1-clause-broken
returns-then-branch-gt1-clause-broken g c = λ shows cat h once.
    let kept = reads_then c.loop-slot.invariant.so_far.kept c.in_ok-name.ensures.kept in
    let now = still (λ (s : Space). IsChain s.pages.at c.args.pages cat) kept shows h in
    let counted = c.in_ok-count.ensures.read (kept.shows shows) cat now in
    let one = once c.in-Some.name in
    let more = c.if-branch-gt1.true in
    omega (arith, counted, one, more)

pub returns-in_err-count-clause-later : goal.returns-in_err-count-clause-later
returns-in_err-count-clause-later g c = λ t. g.met.P.PageSpace.later_then t _ _ _ (c.loop-slot.invariant.later t) (g.met.P.PageSpace.later_then t _ _ _ (c.name_at.ensures.later t) (c.count.ensures.later t))

pub returns-in_err-count-clause-means : goal.returns-in_err-count-clause-means
returns-in_err-count-clause-means g c = λ t m. c.count.ensures.means t (c.name_at.ensures.means t (c.loop-slot.invariant.means t m))

pub returns-then-branch-gt1-clause-later : goal.returns-then-branch-gt1-clause-later
returns-then-branch-gt1-clause-later g c = λ t. g.met.P.PageSpace.later_then t _ _ _ (c.loop-slot.invariant.later t) (g.met.P.PageSpace.later_then t _ _ _ (c.name_at.ensures.later t) (c.count.ensures.later t))

pub returns-then-branch-gt1-clause-means : goal.returns-then-branch-gt1-clause-means
returns-then-branch-gt1-clause-means g c = λ t m. c.count.ensures.means t (c.name_at.ensures.means t (c.loop-slot.invariant.means t m))

pub returns-clause-read : goal.returns-clause-read
returns-clause-read g c = λ shows cat h j at m.
    let i = c.loop-slot.invariant.so_far in
    let test = c.loop-slot-test.false in
    let end = c.loop-slot.auto.slot-end in
    subst (λ (n : ℕ). IsMarked cat (79 * j + n) c.loop-slot.marks) (let e : c.loop-slot.slot ≡ 79 = omega arith in e) (i.so shows cat h j at m)

pub loop-slot-preserved-then-not-marks-mark : goal.loop-slot-preserved-then-not-marks-mark
loop-slot-preserved-then-not-marks-mark g c =
    let i = c.loop-slot.invariant.so_far in
    let test = c.loop-slot-test.true in
    let counts = c.name_at.ensures.counts in
    let value : c.mark_of-mark.result ≡ mark_of (length c.loop-slot.marks) c.in-Some.name = c.mark_of-mark.ensures.value in
    record {
      so_far = sees_on i counts.told counts.later c.in_ok-name.ensures.kept (λ shows all cat h j at m.
          let seen = before (λ (s : Space). HasAt s.pages.at c.args.p.0 (IsNameAt c.loop-slot.slot c.in_ok-name.field-0)) i.kept shows (c.in_ok-name.ensures.read (i.kept.shows shows)) in
          let name = name_here cat j c.args.p.0 c.loop-slot.slot c.in_ok-name.field-0 h at (omega arith) seen in
          one_further cat j c.loop-slot.slot (set c.loop-slot.marks c.mark_of-mark.result true)
          (subst (λ (n : ℕ). IsMarked cat (79 * j + c.loop-slot.slot + 1) (set c.loop-slot.marks n true)) (sym value)
          (marked_new cat (79 * j + c.loop-slot.slot) c.loop-slot.marks c.in-Some.name (place_in cat j c.args.p.0 c.loop-slot.slot h at (omega arith)) (sym name ∙ c.in-Some.is)
          (subst (λ (n : ℕ). n < length c.loop-slot.marks) value c.mark_of-mark.ensures.within)
          (ap (λ (n : ℕ). get_or c.loop-slot.marks n false) (sym value) ∙ c.if-not-marks-mark.true)
          (all cat h j at m))));
      long = length-set c.loop-slot.marks c.mark_of-mark.result true ∙ c.loop-slot.invariant.long;
      later = λ t. g.met.P.PageSpace.later_then t _ _ _ (c.loop-slot.invariant.later t) (c.name_at.ensures.later t);
      means = λ t m. c.name_at.ensures.means t (c.loop-slot.invariant.means t m);
      quiet = c.in_ok-name.ensures.counts.quiet ∙ c.loop-slot.invariant.quiet;
      records = c.name_at.ensures.writes.records ∙ c.loop-slot.invariant.records;
    }

pub loop-slot-preserved : goal.loop-slot-preserved
loop-slot-preserved g c =
    let i = c.loop-slot.invariant.so_far in
    let test = c.loop-slot-test.true in
    let first = c.name_at.ensures.counts in
    let second = c.count.ensures.counts in
    let one = first.later in
    let two = second.later in
    let few = c.if-branch-gt1.false in
    let value : c.mark_of-mark.result ≡ mark_of (length c.loop-slot.marks) c.in-Some.name = c.mark_of-mark.ensures.value in
    record {
      so_far = sees_on i (λ t. first.told (second.told t)) (omega arith) (reads_then c.in_ok-name.ensures.kept c.in_ok-count.ensures.kept) (λ shows all cat h j at m.
          let seen = before (λ (s : Space). HasAt s.pages.at c.args.p.0 (IsNameAt c.loop-slot.slot c.in_ok-name.field-0)) i.kept shows (c.in_ok-name.ensures.read (i.kept.shows shows)) in
          let name = name_here cat j c.args.p.0 c.loop-slot.slot c.in_ok-name.field-0 h at (omega arith) seen in
          let kept = reads_then i.kept c.in_ok-name.ensures.kept in
          let now = still (λ (s : Space). IsChain s.pages.at c.args.pages cat) kept shows h in
          let counted = c.in_ok-count.ensures.read (kept.shows shows) cat now in
          one_further cat j c.loop-slot.slot c.loop-slot.marks
          (marked_counted cat (79 * j + c.loop-slot.slot) c.loop-slot.marks c.in-Some.name (place_in cat j c.args.p.0 c.loop-slot.slot h at (omega arith)) (sym name ∙ c.in-Some.is)
          (ap (λ (n : ℕ). get_or c.loop-slot.marks n false) (sym value) ∙ c.if-not-marks-mark.false)
          (omega (arith, counted, few))
          (all cat h j at m)));
      long = c.loop-slot.invariant.long;
      later = λ t. g.met.P.PageSpace.later_then t _ _ _ (c.loop-slot.invariant.later t) (g.met.P.PageSpace.later_then t _ _ _ (c.name_at.ensures.later t) (c.count.ensures.later t));
      means = λ t m. c.count.ensures.means t (c.name_at.ensures.means t (c.loop-slot.invariant.means t m));
      quiet = c.in_ok-count.ensures.counts.quiet ∙ (c.in_ok-name.ensures.counts.quiet ∙ c.loop-slot.invariant.quiet);
      records = c.count.ensures.writes.records ∙ (c.name_at.ensures.writes.records ∙ c.loop-slot.invariant.records);
    }
