-- Which sizes a new store is to have, and what comes of making it.
use Rattle.std.specs.Prelude.{Err}
use Rattle.std.proofs.Common.{◌≡◌, ◌⊎◌, inl, inr, ◌<◌, ℕ, Bool, true, false, IsTrue, List, drop, Option, Some, None, IfSome, Result, refl, sym, ap, ◌∙◌, subst, arith}
use Rattle.sg_base.specs.Ends.{HasRisen}
use Rattle.sg_command.specs.File.{IsTakenOf, IsAtEnd, SaysNone}
use Rattle.sg_command.specs.declared.file.SizesFault.{SizesFault}
use Rattle.sg_command.specs.declared.file.SizesFault.TheVariants as sizes
use Rattle.sg_disk.specs.Disk as disk
use Rattle.sg_disk.proofs.Moments as moments
use Rattle.sg_geometry.specs.declared.geometry.Geometry.{Geometry}
use Rattle.sg_store.specs.Ground.{Ground}
use Rattle.sg_store.specs.Engine.{Sizes}
use Rattle.sg_commands.specs.declared.status.Status as code_status
use Rattle.sg_commands.specs.declared.status.Status.TheVariants as statuses
use Rattle.sg_commands.specs.Images.{Says}
use Rattle.sg_commands.specs.Making.{HasOpenGate, IsBlank, SaysMade, TellsMade, MakesOf}
use Rattle.sg_commands.specs.Drawing.{Sunk, sunk}
use Rattle.sg_commands.specs.Sized.{AreAsked, HasNoSizes, NeverMade, IsMakeable, Made, Makes}
use Rattle.sg_commands.specs.Statuses.{status_of_sizes}
use Rattle.sg_commands.specs.Top.{Outside}

-- a source that isn't read
pub not_read : (n : ℕ) (left : Option (List ℕ)) → IsTakenOf n left left
not_read n None = refl
not_read n (Some text) = (0, omega arith, refl)

-- what was read of one, where sizes aren't had
pub said_unsized : (why : SizesFault) (status : code_status.Status) (old : Sunk) → status ≡ status_of_sizes why → SaysMade status old old
said_unsized why status old is = subst (λ (s : code_status.Status). SaysMade s old old) (sym is) (by_why why)
  where
    by_why : (w : SizesFault) → SaysMade (status_of_sizes w) old old
    by_why sizes.Read = (refl, refl)
    by_why sizes.Bad = (refl, refl)
    by_why sizes.Memory = (refl, refl)

-- why there are no sizes
pub record Unsized (r : Result Geometry SizesFault) (by_file : Bool) (old new : Outside) : Type 0 where
  pub bad : r ≡ Err sizes.Bad → (by_file ≡ true) × IfSome old.left SaysNone
  pub failed : r ≡ Err sizes.Read → (by_file ≡ true) × HasRisen old.source_faults new.source_faults
  pub heeded : (r ≡ Err sizes.Read → ⊥) → new.source_faults ≡ old.source_faults

bad_is_read : {A : Type 0} → (let r : Result Geometry SizesFault = Err sizes.Bad in r ≡ Err sizes.Read) → A
bad_is_read e = absurd cc

memory_is_read : {A : Type 0} → (let r : Result Geometry SizesFault = Err sizes.Memory in r ≡ Err sizes.Read) → A
memory_is_read e = absurd cc

memory_is_bad : {A : Type 0} → (let r : Result Geometry SizesFault = Err sizes.Memory in r ≡ Err sizes.Bad) → A
memory_is_bad e = absurd cc

has_none : (why : SizesFault) (by_file : Bool) (old new : Outside) → Unsized (Err why) by_file old new → HasNoSizes (status_of_sizes why) by_file old new
has_none sizes.Read by_file old new h = h.failed refl
has_none sizes.Bad by_file old new h = (let bad = h.bad refl in (bad.0, bad.1, h.heeded bad_is_read))
has_none sizes.Memory by_file old new h = h.heeded memory_is_read

-- a text that says sizes isn't one that says none
not_bad : (by_file told : Bool) (old new : Outside) (refused : ℕ) → IsMakeable by_file told old new refused → by_file ≡ true → IfSome old.left SaysNone → ⊥
not_bad by_file told old new refused u by none =
    let said = u.sizes by in
    subst (λ (left : Option (List ℕ)). IfSome left SaysNone) said.2 none said.1 said.3

-- the moments of a disk that isn't called
still : (basis : Sizes → Ground) (says : Says) → ((g : Geometry) (c : disk.Image) → says.blank g c → says.no_store c) → (v w : disk.View) (refused : ℕ) → w ≡ v → refused ≡ 0
    → (g : Geometry) → IsBlank basis says g v → disk.LeavesOnly (disk.refusing v 0) (disk.refusing w refused) says.no_store
still basis says bare v w refused same none g blank =
    subst (λ (n : ℕ). disk.LeavesOnly (disk.refusing v 0) (disk.refusing w n) says.no_store) (sym none)
    (subst (λ (u : disk.View). disk.LeavesOnly (disk.refusing v 0) (disk.refusing u 0) says.no_store) (sym same)
    (moments.started (disk.refusing v 0) says.no_store (λ c leaves. bare g c (blank c leaves))))

module _ (basis : Sizes → Ground) (says : Says) (told by_file : Bool) (old new : Outside) (refused : ℕ) where
  completes_never : (status : code_status.Status) → HasNoSizes status by_file old new → IsMakeable by_file told old new refused
      → (status ≡ statuses.Done) ⊎ (status ≡ statuses.Memory)
  completes_never statuses.Memory why u = inr refl
  completes_never statuses.Read why u = absurd (u.source why.1)
  completes_never statuses.BadGeometry why u = absurd (not_bad by_file told old new refused u why.0 why.1)
  completes_never statuses.Done why u = absurd why
  completes_never statuses.NotAStore why u = absurd why
  completes_never statuses.Usage why u = absurd why
  completes_never statuses.Disk why u = absurd why
  completes_never statuses.Write why u = absurd why
  completes_never statuses.TooLong why u = absurd why
  completes_never (statuses.UnknownOperation code) why u = absurd why
  completes_never (statuses.Damaged area at) why u = absurd why
  completes_never statuses.Exists why u = absurd why
  completes_never statuses.LogEnd why u = absurd why

  no_fault : IsMakeable by_file told old new refused → HasRisen old.disk.faults new.disk.faults ⊎ (0 < refused) → ⊥
  no_fault u (inl rose) = u.disk rose
  no_fault u (inr some) = (let none = u.passed in omega (arith, some, none))

  completes_made : (g : Geometry) (status : code_status.Status) → TellsMade basis says g status told old.disk new.disk refused
      → SaysMade status (sunk old.taken old.sink_faults) (sunk new.taken new.sink_faults) → IsMakeable by_file told old new refused
      → (status ≡ statuses.Done) ⊎ (status ≡ statuses.Memory)
  completes_made g statuses.Done tells said u = inl refl
  completes_made g statuses.Write tells said u = absurd (u.sink said.1)
  completes_made g statuses.Disk tells said u = absurd (no_fault u tells)
  completes_made g statuses.Exists tells said u = absurd (u.none (tells.0 u.is_told))
  completes_made g statuses.Memory tells said u = absurd tells
  completes_made g statuses.Read tells said u = absurd tells
  completes_made g statuses.BadGeometry tells said u = absurd tells
  completes_made g statuses.NotAStore tells said u = absurd tells
  completes_made g statuses.Usage tells said u = absurd tells
  completes_made g statuses.TooLong tells said u = absurd tells
  completes_made g (statuses.UnknownOperation code) tells said u = absurd tells
  completes_made g (statuses.Damaged area at) tells said u = absurd tells
  completes_made g statuses.LogEnd tells said u = absurd tells

  never : ((g : Geometry) (c : disk.Image) → says.blank g c → says.no_store c) → (status : code_status.Status) → HasNoSizes status by_file old new
      → IsTakenOf 65537 old.left new.left → new.disk ≡ old.disk → refused ≡ 0 → Makes basis says status by_file told old new refused
  never bare status why read same none = record {
    gone = inl (record { why = why; uncalled = same; passed = none; moments = λ g is blank. still basis says bare old.disk new.disk refused same none g blank });
    read = read;
    completes = completes_never status why;
  }

  -- without sizes
  pub makes_unsized : ((g : Geometry) (c : disk.Image) → says.blank g c → says.no_store c) → (why : SizesFault) (status : code_status.Status) → status ≡ status_of_sizes why → Unsized (Err why) by_file old new
      → IsTakenOf 65537 old.left new.left → new.disk ≡ old.disk → refused ≡ 0 → Makes basis says status by_file told old new refused
  makes_unsized bare why status is h read same none =
      never bare status (subst (λ (s : code_status.Status). HasNoSizes s by_file old new) (sym is) (has_none why by_file old new h)) read same none

  -- with these
  pub makes_sized : (g : Geometry) (status : code_status.Status) → AreAsked by_file old.left g → (by_file ≡ true → IsAtEnd new.left)
      → new.source_faults ≡ old.source_faults → IsTakenOf 65537 old.left new.left
      → MakesOf basis says g status told old.disk new.disk refused → SaysMade status (sunk old.taken old.sink_faults) (sunk new.taken new.sink_faults)
      → Makes basis says status by_file told old new refused
  makes_sized g status asked whole quiet read makes said = record {
    gone = inr (record { sizes = g; asked = asked; whole = whole; quiet = quiet; makes = makes });
    read = read;
    completes = completes_made g status makes.tells said;
  }

-- for want of memory for the words
pub makes_none : (basis : Sizes → Ground) (says : Says) (told by_file : Bool) (old : Outside) (v : disk.View) (refused : ℕ) (status : code_status.Status)
    → ((g : Geometry) (c : disk.Image) → says.blank g c → says.no_store c) → status ≡ statuses.Memory → v ≡ old.disk → refused ≡ 0
    → Makes basis says status by_file told old (record old { disk = v }) refused
makes_none basis says told by_file old v refused status bare is same none =
    makes_unsized basis says told by_file old (record old { disk = v }) refused bare sizes.Memory status is
    (record { bad = memory_is_bad; failed = memory_is_read; heeded = λ e. refl })
    (not_read 65537 old.left) same none
