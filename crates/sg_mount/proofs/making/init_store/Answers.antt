use Rattle.std.proofs.Common.{inl, inr, refl}
use Rattle.sg_disk.proofs.Moments.{weaker}
use Rattle.sg_engine.specs.Effects.{effect_in}
use Rattle.sg_making.specs.Making.{super_of}
use Rattle.sg_reopen.specs.Making.{origin_of}
use Rattle.sg_mount.proofs.Empty.{new_store, some_pages, on_ok}
use Rattle.sg_mount.proofs.making.init_store.Goals as goal

pub returns-clause-moments : goal.returns-clause-moments
returns-clause-moments g c = λ t told blank. weaker (c.init_store.ensures.moments told blank) (λ i h. elim h [
  | inl shut ↦ inl shut
  | inr e ↦ inr (new_store t (super_of c.args.g.now) e.0 i e.2.super e.1 (c.standing_is_of.ensures.none t (origin_of (effect_in t) (super_of c.args.g.now) e.0) i (record { says = λ lsn r. refl }) (c.empty_stands.ensures.again (effect_in t) (super_of c.args.g.now) e.0 i e.1 e.2 refl (some_pages (super_of c.args.g.now) i e.2.super))))
])

pub returns-clause-done : goal.returns-clause-done
returns-clause-done g c = λ t told blank. on_ok c.init_store.result (λ h i leaves.
    let empty = h.2 i leaves in
    new_store t (super_of c.args.g.now) h.0 i empty.super h.1 (c.standing_is_of.ensures.none t (origin_of (effect_in t) (super_of c.args.g.now) h.0) i (record { says = λ lsn r. refl }) (c.empty_stands.ensures.again (effect_in t) (super_of c.args.g.now) h.0 i h.1 empty refl (some_pages (super_of c.args.g.now) i empty.super))))
    (c.init_store.ensures.done told blank)
