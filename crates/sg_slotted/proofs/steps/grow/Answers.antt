use Rattle.std.proofs.Common.{◌≡◌, ℕ, List, ◌++◌, ◌∷◌, [], None}
use Rattle.sg_base.specs.Page.{slots_of, lost_of}
use Rattle.sg_slotted.proofs.Changes.{grown, IsChanged}
use Rattle.sg_slotted.proofs.Layouts.{grown_is}
use Rattle.sg_slotted.proofs.steps.grow.Goals as goal

pub returns : goal.returns
returns c =
    let p0 : List ℕ = c.args.page.now in
    let p2 : List ℕ = c.put_u16-2.new.page in
    let all : IsChanged p0 p2 (slots_of p0 ++ (None ∷ [])) × (lost_of p2 ≡ lost_of p0) =
    grown p0 c.put_u16.new.page p2 c.number_u16-count.result c.number_u16-count.ensures c.requires.slotted c.requires.room c.put_u16.ensures.written c.put_u16.ensures.others c.put_u16-2.ensures.written c.put_u16-2.ensures.others in
    record { slotted = all.0.slotted; slots = all.0.slots; header = all.0.header; lost = all.1; bytes = grown_is p0 c.put_u16.new.page p2 c.number_u16-count.result c.number_u16-count.ensures c.put_u16.ensures.bytes c.put_u16-2.ensures.bytes }
