-- WHAT IS FREE IS WHAT THE OBJECTS LEAVE.
use Rattle.std.proofs.Common.{◌≡◌, ◌+◌, Some, refl, sym, ap, ◌∙◌, subst}
use Rattle.sg_alloc.specs.Flags.{free_of}
use Rattle.sg_ops.specs.Table.{Table}
use Rattle.sg_action.specs.States.{State}
use Rattle.sg_actions.specs.Steps.{repeated}
use Rattle.sg_actions.specs.declared.acts.Acts.{Acts}
use Rattle.sg_actions.specs.declared.engine.Engine.{Ghosts}
use Rattle.sg_space.specs.View.{Space}
use Rattle.sg_contents.specs.Standing.{IsContents}
use Rattle.sg_contents.specs.Meaning.{reading, IsCounted}
use Rattle.sg_reading.specs.Reading.{Reading}
use Rattle.sg_room.specs.Bounds.{ObeysStock}
use Rattle.sg_room.specs.Marks.{stock_of}
use Rattle.sg_stock.specs.Laws.{sizes_of}
use Rattle.sg_stock.proofs.Leaving.{leaves_room}
use Rattle.sg_reader.specs.Alike.{ReadsAs, space_of}
use Rattle.sg_reader.proofs.Decide.{reader}
use Rattle.sg_reader.proofs.Spaces.{contents_move}
use Rattle.sg_store.specs.Engine.{Sizes, IfMeant, led}
use Rattle.sg_store.specs.Room.{LeavesRoom}
use Rattle.sg_ground.proofs.Lawful.{mapped}
use Rattle.sg_ground.specs.Recovers.{Recovering}
use Rattle.sg_shown.specs.Shown.{Over, Means, basis, over, shown, shown_of}
use Rattle.sg_shown.proofs.History.{made_is}

-- of a space over an engine, by what its maps have of what its pages read as
pub leaves_of : (recovers : Recovering) (a : Over) (t : Table) (z : Sizes) (from : State) → Means a t z from → a.engine.Told
    → LeavesRoom t (basis recovers z) (led t z from (shown_of recovers a))
leaves_of recovers a t z from m told o e =
    let x : State = repeated t from a.engine.steps in
    let k = m.keeps told in
    let found = mapped reading ((reader z.pages z.bands).contents x) o (sym (ap (basis recovers z).reading (made_is recovers t z from a.engine.steps)) ∙ e) in
    let r : ReadsAs z.pages z.bands x found.0 = (reader z.pages z.bands).sound x found.0 found.1 in
    let space : Space = record {
      pages = record { at = x.pages; free = free_of a.maps.pages + free_of a.unfreed.pages; count = z.pages };
      bands = record { at = λ b. Some (x.bands b); free = free_of a.maps.bands + free_of a.unfreed.bands; count = z.bands };
    } in
    let h : IsContents space found.0 = contents_move (space_of z.pages z.bands x) space found.0 r.contents refl (λ p owned. refl) (λ b owned. refl) r.contents.map in
    let counted : IsCounted space found.0 = record { pages = k.counted.pages x.size x.bands found.0 r; bands = k.counted.bands x.size x.bands found.0 r } in
    subst (λ (q : Reading). ObeysStock (sizes_of space) space.pages.free space.bands.free (stock_of q)) found.2 (leaves_room space found.0 h counted)

-- and of a value
pub leaves : {E : Type 0} {g : Ghosts E} (s : Acts E g) → IfMeant (shown s) LeavesRoom
leaves {g = g} s t z from m told = leaves_of g.recovers (over s) t z from m told
