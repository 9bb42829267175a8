-- A command for whose beginning there is no memory leaves all as it was.
use Rattle.std.proofs.Common.{◌≡◌, ℕ, Bool, Option, Some, None, IfSome, refl, sym, subst, inl, arith}
use Rattle.sg_disk.specs.Disk as disk
use Rattle.sg_disk.specs.Disk.{Spent}
use Rattle.sg_ops.specs.Table.{Table as Operations}
use Rattle.sg_store.specs.Ground.{Ground}
use Rattle.sg_store.specs.Engine.{Sizes}
use Rattle.sg_commands.specs.declared.status.Status as code_status
use Rattle.sg_commands.specs.declared.status.Status.TheVariants as statuses
use Rattle.sg_commands.specs.Images.{Says}
use Rattle.sg_commands.specs.Top.{Outside, outside, HasGone, Account}
use Rattle.sg_commands.specs.Words.{Drawn}
use Rattle.sg_commands.specs.Drawing.{Draws, Sunk}
use Rattle.sg_commands.proofs.Endings.{never_began, account_of}

-- a run
pub not_begun : (basis : Sizes → Ground) (says : Says) (t : Operations) (told : Bool) (presumed : Type 0) (old : Outside) (v : disk.View) (refused : ℕ)
    (status : code_status.Status) → v ≡ old.disk → refused ≡ 0 → status ≡ statuses.Memory
    → Account basis says t told presumed old (outside v old.left old.source_faults old.taken old.sink_faults) refused status
not_begun basis says t told presumed old v refused status same none is =
    account_of basis says t told presumed old _ refused status
    (subst (λ (s : code_status.Status). HasGone basis says t told presumed old (outside v old.left old.source_faults old.taken old.sink_faults) refused s) (sym is)
    (subst (λ (n : ℕ). HasGone basis says t told presumed old (outside v old.left old.source_faults old.taken old.sink_faults) n statuses.Memory) (sym none)
    (subst (λ (w : disk.View). HasGone basis says t told presumed old (outside w old.left old.source_faults old.taken old.sink_faults) 0 statuses.Memory) (sym same)
    (inl (never_began basis says t told presumed old)))))

-- a workload
pub not_drawn : (o : Option Drawn) (status : code_status.Status) (s : Sunk) → status ≡ statuses.Memory → IfSome o (λ d. Draws status d s s)
not_drawn None status s is = _
not_drawn (Some d) status s is = subst (λ (it : code_status.Status). Draws it d s s) (sym is) (refl, refl)

-- a disk that isn't called has spent nothing of what its fuse lets pass
pub not_spent : (passes : Option ℕ) (before now refused : ℕ) → now ≡ before → refused ≡ 0 → Spent passes before now refused
not_spent None before now refused same none = record { most = _; all = λ some. absurd (omega (arith, none, some)) }
not_spent (Some n) before now refused same none = record { most = omega (arith, same); all = λ some. absurd (omega (arith, none, some)) }
