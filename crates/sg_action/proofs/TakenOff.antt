-- The laws of open actions.
use Rattle.std.proofs.Common.{◌≡◌, ℕ, List, [], ◌∷◌, ◌++◌, refl}
use Rattle.sg_ops.specs.Laws.{IsLawful}
use Rattle.sg_ops.specs.Table.{Table}
use Rattle.sg_action.specs.States.{State, Change, Kept, made}
use Rattle.sg_action.specs.States.Change.{Page, Write, Paint}
use Rattle.sg_action.specs.Opened.{IsOpened, IsBegun, ArePlaced, HasPlaceFor, OpensWell, OpenWell, TakesTo, TakesOff, GoesOn, IsNotFilled, put_back}
use Rattle.sg_action.proofs.Grown.{place_unless_shrunk}
use Rattle.sg_action.proofs.Room.{takes_front}
use Rattle.sg_action.proofs.Segments.{bytes_back}
use Rattle.sg_action.proofs.Taking.{less_fits, takes_less}

-- a change that opens its slot so has its place
place : (t : Table) → IsLawful t → (kept : Kept) (begin : State) → IsBegun kept begin → (ds : List Change) (d : Change) → IsOpened t kept begin (d ∷ ds) → OpensWell t kept begin ds d → HasPlaceFor t kept begin ds d
place t law kept begin first ds (Page m op back) h w = (λ f p is o. place_unless_shrunk t law kept begin first ds m op back h (λ q e opened. (w f q e opened).0) f p is o, λ k f p is o. (w f p is o).1 k)
place t law kept begin first ds (Write b at before after) h w = tt
place t law kept begin first ds (Paint b at count code position arg before) h w = tt

placed : (t : Table) → IsLawful t → (kept : Kept) (begin : State) → IsBegun kept begin → (ds : List Change) → IsOpened t kept begin ds → OpenWell t kept begin ds → ArePlaced t kept begin ds
placed t law kept begin first [] h w = tt
placed t law kept begin first (d ∷ ds) h w = (placed t law kept begin first ds h.0 w.0, place t law kept begin first ds d h w.1)

pub takes_off : (t : Table) → IsLawful t → TakesOff t
takes_off t law kept begin later ds first fit h w = takes_front t law kept begin first fit later ds h (placed t law kept begin first (later ++ ds) h w)

pub goes_on : (t : Table) (kept : Kept) (begin : State) (ds : List Change) (d : Change) (x : State) → TakesTo t kept begin (d ∷ ds) x → GoesOn t kept begin ds d x
goes_on t kept begin ds d x h = record { fits = less_fits t kept begin ds d x h; rest = takes_less t kept begin ds d x h }

pub bytes_come_back : (t : Table) (kept : Kept) (begin : State) (later ds : List Change) (b : ℕ) → IsOpened t kept begin (later ++ ds) → IsNotFilled later b → (put_back t later (made t begin (later ++ ds))).bands b ≡ (made t begin ds).bands b
bytes_come_back t kept begin later ds b h none = bytes_back t kept begin later ds h b none (made t begin (later ++ ds)) refl
