use Rattle.std.proofs.Common.{◌+◌, ◌*◌, ◌≡◌, ℕ, List, ◌++◌, length, sym, ap, ◌∙◌, subst}
use denote.RawPtr.{◌+ₚ◌}
use Rattle.sg_frames.specs.Pieces.{Piece, start_of}
use Rattle.sg_frames.proofs.Cutting.{MakeRun, last_full, last_beside, make_run-less}
use Rattle.sg_frames.proofs.Entries.{make_run-all}
use Rattle.sg_frames.proofs.table.Table.into_run.Goals as goal

pub prove-unreachable-requires : goal.prove-unreachable-requires
prove-unreachable-requires c =
    let spot = start_of c.args.self.spots c.args.run.ptr in let total = length c.args.run.items + length c.args.self.spots * c.args.size in
    let make = subst (λ (xs : List Piece). MakeRun c.args.size spot total xs c.slots.run) c.in-Some.ensures.items c.slots.invariant in
    c.if-prove.true (ap length c.bytes.ensures ∙ last_full c.args.size spot total c.pop.new.self.items c.slots.run c.in-Some.slot make)

pub join-run-requires : goal.join-run-requires
join-run-requires c =
    let spot = start_of c.args.self.spots c.args.run.ptr in let total = length c.args.run.items + length c.args.self.spots * c.args.size in
    let make = subst (λ (xs : List Piece). MakeRun c.args.size spot total xs c.slots.run) c.in-Some.ensures.items c.slots.invariant in
    let long : length c.into_run.result.items ≡ c.args.size = ap length c.into_run.ensures.bytes ∙ last_full c.args.size spot total c.pop.new.self.items c.slots.run c.in-Some.slot make in
    sym (last_beside c.args.size spot total c.pop.new.self.items c.slots.run c.in-Some.slot make) ∙ λ k. (sym c.into_run.ensures.spot k) +ₚ (sym long k)

pub slots-preserved : goal.slots-preserved
slots-preserved c =
    let spot = start_of c.args.self.spots c.args.run.ptr in let total = length c.args.run.items + length c.args.self.spots * c.args.size in
    let make = subst (λ (xs : List Piece). MakeRun c.args.size spot total xs c.slots.run) c.in-Some.ensures.items c.slots.invariant in
    make_run-less c.args.size spot total c.pop.new.self.items c.slots.run c.in-Some.slot make c.join-run.result
    (c.join-run.ensures.0 ∙ c.into_run.ensures.spot) (c.join-run.ensures.1 ∙ ap (λ (xs : List ℕ). xs ++ c.slots.run.items) c.into_run.ensures.bytes)

pub slots-init : goal.slots-init
slots-init c = make_run-all c.self.inside.start c.self.inside.size c.self.inside.slots.items c.args.self c.self.view_is c.args.size c.args.run c.requires.some c.requires.none_lent c.requires.spots
