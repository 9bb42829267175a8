-- Where what makes room is durable.
use Rattle.std.proofs.Common.{◌≡◌, ⊎_elim, ◌<◌, ℕ, Option, Some, None, List, [], length, get_or, sym, ◌∙◌, ap, subst}
use Rattle.sg_base.specs.Page.{lsn_of}
use Rattle.sg_disk.specs.Disk.{Bytes}
use Rattle.sg_frames.specs.Held.{Held}
use Rattle.sg_gate.specs.Layout.{home_at}
use Rattle.sg_pool.specs.declared.slot.Slot.{Slot}
use Rattle.sg_pool.specs.declared.windows.Windows.{Windows}
use Rattle.sg_pool.specs.Frames.{units_of, IsShelf}
use Rattle.sg_pool.specs.Held.{page_in, since_of, bytes_of}
use Rattle.sg_pool.specs.Units.{Geometry, IsBelow, page_at}
use Rattle.sg_pool.proofs.Slots.{none_is_some, none_or_some, frame_is}

-- a look that found nothing
pub nowhere : (found at : Option ℕ) → found ≡ at → ((f : ℕ) → found ≡ Some f → ⊥) → at ≡ None
nowhere found at is none = ⊎_elim (λ e. e) (λ some. absurd (none some.0 (is ∙ some.1))) (none_or_some at)

-- where the last change of each page is below a number, that of a frame's page is
pub frame_durable : (g : Geometry) (slots : List Slot) {index : List (Option ℕ)} (wins : Windows) (frames : Held) (shelf : IsShelf g.pages g.bands slots index wins frames) (seen : Bytes) (gate f : ℕ) → f < length slots → IsBelow g gate (units_of g seen slots wins frames)
    → (o : ℕ) → since_of slots (Some f) ≡ Some o → lsn_of (get_or frames.pages f []) < gate
frame_durable g slots wins frames shelf seen gate f lt below o since = ⊎_elim
    (λ empty. absurd (none_is_some o (sym (shelf.owned f empty) ∙ since)))
    (λ held.
    let here = frame_is slots f held.0 shelf.apart lt held.1 in
    subst (λ (page : List ℕ). lsn_of page < gate) (ap (λ (at : Option ℕ). bytes_of frames.pages at (page_at seen (home_at held.0))) here)
    (below held.0 o (shelf.within f held.0 lt held.1) (ap (since_of slots) here ∙ since)))
    (none_or_some (page_in slots f))
