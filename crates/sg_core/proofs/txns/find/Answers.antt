use Rattle.std.proofs.Common.{◌≡◌, false, sym, ap, ◌∙◌, arith, refl, map}
use Rattle.std.specs.Prelude.{◌||◌}
use Rattle.std.specs.List.{list_any}
use Rattle.std.proofs.lemmas.Bool.{eqb-true}
use Rattle.slab.proofs.SlabLemmas.{Contains-cons, Contains-entries}
use Rattle.sg_core.specs.Live.{is_of}
use Rattle.sg_core.specs.Slots.{shown}
use Rattle.sg_core.proofs.Slots.{live-entries}
use Rattle.sg_core.proofs.txns.find.Goals as goal

pub loop-key-init : goal.loop-key-init
loop-key-init c =
    let left = c.into_iter-key-iterator.ensures.into_iter_gives ∙ c.iter-key-items.ensures.rest in (
      tt,
      tt,
      λ key entry there. (Contains-entries c.args.live.now key entry).0 (rw left at there),
      ap (λ es. list_any (is_of c.args.t.0) (map (λ e. shown e.1) es)) left ∙ ap (list_any (is_of c.args.t.0)) (live-entries 0 c.args.live.now.slots),
    )

pub loop-key-preserved : goal.loop-key-preserved
loop-key-preserved c =
    let at = c.in-Some.ensures.steps in
    let other : is_of c.args.t.0 (shown c.in-Some.entry.now) ≡ false = sym c.eq.ensures ∙ c.if-eq.false in (
      tt,
      tt,
      λ key entry there. c.loop-key.invariant.2 key entry (rw at (Contains-cons _ _ _ there)),
      sym (ap (λ b. b || list_any (is_of c.args.t.0) (map (λ e. shown e.1) c.next.new.self)) other)
          ∙ (sym (ap (λ es. list_any (is_of c.args.t.0) (map (λ e. shown e.1) es)) at) ∙ c.loop-key.invariant.3),
    )

pub returns-then-eq-clause-found : goal.returns-then-eq-clause-found
returns-then-eq-clause-found c =
    let at = c.in-Some.ensures.steps in
    record {
      entry_is = c.loop-key.invariant.2 c.in-Some.key c.in-Some.entry.now (rw at (0, omega arith, refl));
      number_is = eqb-true c.in-Some.entry.now.transaction.0 c.args.t.0 (sym c.eq.ensures ∙ c.if-eq.true);
    }
