use mathlib.Core.Logic.{∥∥₁_elim}
use Rattle.std.proofs.Common.{◌≡◌, sym, subst, ◌≤◌, ℕ, true}
use Rattle.std.proofs.Props.{props}
use Rattle.std.specs.Prelude.{OnOk, IfErr}
use Rattle.sg_alloc.specs.Flags.{map_bands_of}
use Rattle.sg_base.specs.Sheet.{sheet_of}
use Rattle.sg_contents.specs.Standing.{Contents}
use Rattle.sg_reach.specs.Fault.{IfBroken}
use Rattle.sg_reach.specs.declared.fault.ReachFault.TheVariants.{Space}
use Rattle.sg_space.specs.declared.space.SpaceFault.TheVariants.{Disk}
use Rattle.sg_reader.specs.Alike.{ReadsAs}
use Rattle.sg_unread.specs.Unread.{IsReadable, LooksOn}
use Rattle.sg_walked.specs.Walked.{AllSay, AreFirst, IsWalked}
use Rattle.sg_walked.proofs.Reached.{walked, all_say, reach_reads, none_reads, fails_reading, on_ok, on_err, on_broken}
use Rattle.sg_walked.proofs.walking.walk.Goals as goal

pub reach_objects-found-requires-clause-there : goal.reach_objects-found-requires-clause-there
reach_objects-found-requires-clause-there g c = λ w.
    let s = c.new-space.result in
    let first = subst (λ (p : ℕ). AreFirst p s.bands c.args.into.now) (sym c.new-space.ensures.pages) (subst (λ (b : ℕ). AreFirst c.args.pages b c.args.into.now) (sym c.new-space.ensures.bands) c.requires.first) in
    let few = subst (λ (p : ℕ). map_bands_of p s.bands ≤ s.bands) (sym c.new-space.ensures.pages) (subst (λ (b : ℕ). map_bands_of c.args.pages b ≤ b) (sym c.new-space.ensures.bands) c.requires.map) in
    reach_reads (sheet_of s.blank) s.pages s.bands (g.E.Engine.view s.engine).now c.args.into.now first few w.contents w.reads

pub returns-clause-looks : goal.returns-clause-looks
returns-clause-looks g c t =
    subst (λ e. LooksOn g.E.Engine.recovers t (g.E.Engine.view c.args.engine) (g.E.Engine.view e) (g.E.Engine.means c.args.engine) (g.E.Engine.means e)) (sym c.into_parts-engine.ensures.engine)
    (subst (λ e. LooksOn g.E.Engine.recovers t (g.E.Engine.view e) (g.E.Engine.view c.reach_objects-found.new.space.engine) (g.E.Engine.means e) (g.E.Engine.means c.reach_objects-found.new.space.engine)) c.new-space.ensures.engine
    (c.reach_objects-found.ensures.later t).0)

pub returns-clause-walked : goal.returns-clause-walked
returns-clause-walked g c =
    let s = c.new-space.result in
    let into = c.reach_objects-found.new.into in
    let at = λ (p b : ℕ). OnOk c.reach_objects-found.result ((g.E.Engine.view s.engine).Told → AllSay p (g.E.Engine.view s.engine).now into.pages → IsWalked p b (g.E.Engine.view s.engine).now into) in
    let first = subst (λ (p : ℕ). AreFirst p s.bands c.args.into.now) (sym c.new-space.ensures.pages) (subst (λ (b : ℕ). AreFirst c.args.pages b c.args.into.now) (sym c.new-space.ensures.bands) c.requires.first) in
    let few = subst (λ (p : ℕ). map_bands_of p s.bands ≤ s.bands) (sym c.new-space.ensures.pages) (subst (λ (b : ℕ). map_bands_of c.args.pages b ≤ b) (sym c.new-space.ensures.bands) c.requires.map) in
    subst (λ e. OnOk c.reach_objects-found.result ((g.E.Engine.view e).Told → AllSay c.args.pages (g.E.Engine.view e).now into.pages → IsWalked c.args.pages c.args.bands (g.E.Engine.view e).now into)) c.new-space.ensures.engine
    (subst (λ (p : ℕ). at p c.args.bands) c.new-space.ensures.pages (subst (λ (b : ℕ). at s.pages b) c.new-space.ensures.bands
    (on_ok c.reach_objects-found.result (λ f told say. walked (sheet_of s.blank) s.pages s.bands (g.E.Engine.view s.engine).now c.args.into.now into first few (f told) say) c.reach_objects-found.ensures.reached)))

pub returns-clause-say : goal.returns-clause-say
returns-clause-say g c =
    let s = c.new-space.result in
    let into = c.reach_objects-found.new.into in
    let at = λ (p b : ℕ). OnOk c.reach_objects-found.result ((g.E.Engine.view s.engine).Told → (q : Contents) → ReadsAs p b (g.E.Engine.view s.engine).now q → AllSay p (g.E.Engine.view s.engine).now into.pages) in
    let first = subst (λ (p : ℕ). AreFirst p s.bands c.args.into.now) (sym c.new-space.ensures.pages) (subst (λ (b : ℕ). AreFirst c.args.pages b c.args.into.now) (sym c.new-space.ensures.bands) c.requires.first) in
    let few = subst (λ (p : ℕ). map_bands_of p s.bands ≤ s.bands) (sym c.new-space.ensures.pages) (subst (λ (b : ℕ). map_bands_of c.args.pages b ≤ b) (sym c.new-space.ensures.bands) c.requires.map) in
    subst (λ e. OnOk c.reach_objects-found.result ((g.E.Engine.view e).Told → (q : Contents) → ReadsAs c.args.pages c.args.bands (g.E.Engine.view e).now q → AllSay c.args.pages (g.E.Engine.view e).now into.pages)) c.new-space.ensures.engine
    (subst (λ (p : ℕ). at p c.args.bands) c.new-space.ensures.pages (subst (λ (b : ℕ). at s.pages b) c.new-space.ensures.bands
    (on_ok c.reach_objects-found.result (λ f told q h. all_say (sheet_of s.blank) s.pages s.bands (g.E.Engine.view s.engine).now c.args.into.now into first few (f told) q h) c.reach_objects-found.ensures.reached)))

pub returns-clause-broken : goal.returns-clause-broken
returns-clause-broken g c =
    let s = c.new-space.result in
    let at = λ (p b : ℕ). IfErr c.reach_objects-found.result (IfBroken ((g.E.Engine.view s.engine).Told → (q : Contents) → ReadsAs p b (g.E.Engine.view s.engine).now q → ⊥)) in
    let first = subst (λ (p : ℕ). AreFirst p s.bands c.args.into.now) (sym c.new-space.ensures.pages) (subst (λ (b : ℕ). AreFirst c.args.pages b c.args.into.now) (sym c.new-space.ensures.bands) c.requires.first) in
    let few = subst (λ (p : ℕ). map_bands_of p s.bands ≤ s.bands) (sym c.new-space.ensures.pages) (subst (λ (b : ℕ). map_bands_of c.args.pages b ≤ b) (sym c.new-space.ensures.bands) c.requires.map) in
    subst (λ e. IfErr c.reach_objects-found.result (IfBroken ((g.E.Engine.view e).Told → (q : Contents) → ReadsAs c.args.pages c.args.bands (g.E.Engine.view e).now q → ⊥))) c.new-space.ensures.engine
    (subst (λ (p : ℕ). at p c.args.bands) c.new-space.ensures.pages (subst (λ (b : ℕ). at s.pages b) c.new-space.ensures.bands
    (on_broken c.reach_objects-found.result (λ f told. none_reads (sheet_of s.blank) s.pages s.bands (g.E.Engine.view s.engine).now c.args.into.now first few (f told)) c.reach_objects-found.ensures.broken)))

pub returns-clause-failed : goal.returns-clause-failed
returns-clause-failed g c =
    let s = c.new-space.result in
    let s1 = c.reach_objects-found.new.space in
    let at = λ (p b : ℕ). IfErr c.reach_objects-found.result (λ f. f ≡ Space Disk → IsReadable (g.E.Engine.view s.engine) p b → (g.E.Engine.view s1.engine).failed ≡ true) in
    subst (λ e. IfErr c.reach_objects-found.result (λ f. f ≡ Space Disk → IsReadable (g.E.Engine.view c.args.engine) c.args.pages c.args.bands → (g.E.Engine.view e).failed ≡ true)) (sym c.into_parts-engine.ensures.engine)
    (subst (λ e. IfErr c.reach_objects-found.result (λ f. f ≡ Space Disk → IsReadable (g.E.Engine.view e) c.args.pages c.args.bands → (g.E.Engine.view s1.engine).failed ≡ true)) c.new-space.ensures.engine
    (subst (λ (p : ℕ). at p c.args.bands) c.new-space.ensures.pages (subst (λ (b : ℕ). at s.pages b) c.new-space.ensures.bands
    (on_err c.reach_objects-found.result (λ f risen disk read.
    ∥∥₁_elim (g.met.E.Engine.some s.engine read.told) (hlevel props) (λ x.
    let q = c.reach_objects-found.ensures.later x.0 in
    fails_reading (g.E.Engine.view s.engine) (g.E.Engine.view s1.engine) s.pages s.bands s1.breaks s.breaks x.1 q.0 x.2 (g.met.E.Engine.told_whole s.engine) (g.met.E.Engine.told_whole s1.engine) (g.met.E.Engine.unfailed s.engine) (g.met.E.Engine.unfailed s1.engine)
    (g.met.E.Engine.now_is s.engine x.0 x.1 x.2) (g.met.E.Engine.now_is s1.engine x.0 x.1 (q.0.means x.1 x.2))
    (λ w. s1.unbroken (subst (λ (p : ℕ). IsReadable (g.E.Engine.view s1.engine) p s1.bands) (sym q.1) (subst (λ (b : ℕ). IsReadable (g.E.Engine.view s1.engine) s.pages b) (sym q.2) w)))
    c.new-space.ensures.breaks (risen disk) read)) c.reach_objects-found.ensures.counts.disk))))
