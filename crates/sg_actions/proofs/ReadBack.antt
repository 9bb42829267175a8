-- What an undo reads on its way back.
use Rattle.std.proofs.Common.{◌≡◌, ℕ, List, Option, Some, None, IsSome, length, sym, ap, subst, ◌∙◌, refl}
use Rattle.sg_actions.specs.Engine.{IsStepAt}
use Rattle.sg_actions.specs.PuttingBack.{IsHopAt, HasHop}
use Rattle.sg_actions.specs.Reads.{ReadsHop, ReadsSeen}
use Rattle.sg_actions.specs.Steps.{Step, Steps, step_at, step_of}
use Rattle.sg_actions.specs.Undoing.{Hop, hop_in, SeesAt, SeesBy}
use Rattle.sg_actions.specs.declared.undo.Seen.{Seen}
use Rattle.sg_actions.proofs.Walking.{see_some}

-- AN UNDO SEES SOMETHING at a record that it has read,
pub seen_some : (rs : Steps) (at : ℕ) (bytes note : List ℕ) → IsSome (step_at rs at) → IsStepAt rs at bytes → ReadsSeen bytes note None → ⊥
seen_some rs at bytes note there read sees = see_some (step_of read.what) note (subst (λ (o : Option Step). IsSome o) read.step there) (sees read.what (length bytes) read.is)

-- and what it sees is that record's
pub seen_at : (rs : Steps) (at : ℕ) (bytes note : List ℕ) (s : Seen) → IsSome (step_at rs at) → IsStepAt rs at bytes → ReadsSeen bytes note (Some s) → SeesAt rs at note s
seen_at rs at bytes note s there read sees = by (step_at rs at) refl there (subst (λ (o : Option Step). SeesBy o note (Some s)) (sym read.step) (sees read.what (length bytes) read.is))
  where
    by : (o : Option Step) → step_at rs at ≡ o → IsSome o → SeesBy o note (Some s) → SeesAt rs at note s
    by None e some k = absurd (let z = some in cc)
    by (Some x) e some k = record { step = x; there = e; sees = k }

-- A WAY BACK GOES ON behind a record that it has read
pub hop_reads : (rs : Steps) (at : ℕ) (bytes : List ℕ) → HasHop rs at → IsStepAt rs at bytes → (hop : Hop) × ReadsHop bytes at hop
hop_reads rs at bytes has read = by (hop_in (step_at rs at)) refl has
  where
    by : (o : Option Hop) → hop_in (step_at rs at) ≡ o → IsHopAt at o → (hop : Hop) × ReadsHop bytes at hop
    by None e k = absurd k
    by (Some hop) e k = (hop, record { what = read.what; size = length bytes; is = read.is; hops = sym e ∙ ap hop_in read.step; lower = k })
