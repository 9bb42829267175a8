-- Words as they are written are taken, whatever folder they name that doesn't begin with a minus.
use Rattle.std.proofs.Common.{◌≡◌, ◌==◌, Bool, not, [], ◌∷◌, codes, true, false, refl, Some, None}
use Rattle.std.proofs.lemmas.Bool.{false≢true}
use Rattle.clap.specs.Words.{Text}
use Rattle.clap.proofs.OnLiterals.{clap_on_literals}
use Rattle.sg_command.specs.Asked.{asked, named, run_of, gen_of, begins_plain}
use Rattle.sg_command.specs.declared.words.Command.TheVariants.{Init, Dump, Check, Log}

no_minus : (b : Bool) → not b ≡ true → b ≡ false
no_minus true h = cc
no_minus false h = refl

pub run-asked : (dir : Text) → begins_plain dir ≡ true → asked (codes "run" ∷ dir ∷ []) ≡ run_of None
unfolding clap_on_literals
run-asked [] h = absurd (false≢true h)
run-asked (x ∷ rest) h = let e : (x == 45) ≡ false = no_minus (x == 45) h in simp e refl

pub dump-asked : (dir : Text) → begins_plain dir ≡ true → asked (codes "dump" ∷ dir ∷ []) ≡ Some Dump
unfolding clap_on_literals
dump-asked [] h = absurd (false≢true h)
dump-asked (x ∷ rest) h = let e : (x == 45) ≡ false = no_minus (x == 45) h in simp e refl

pub check-asked : (dir : Text) → begins_plain dir ≡ true → asked (codes "check" ∷ dir ∷ []) ≡ Some Check
unfolding clap_on_literals
check-asked [] h = absurd (false≢true h)
check-asked (x ∷ rest) h = let e : (x == 45) ≡ false = no_minus (x == 45) h in simp e refl

pub log-asked : (dir : Text) → begins_plain dir ≡ true → asked (codes "log" ∷ dir ∷ []) ≡ Some Log
unfolding clap_on_literals
log-asked [] h = absurd (false≢true h)
log-asked (x ∷ rest) h = let e : (x == 45) ≡ false = no_minus (x == 45) h in simp e refl

pub init-asked : (dir : Text) → begins_plain dir ≡ true → asked (codes "init" ∷ dir ∷ []) ≡ Some (Init false)
unfolding clap_on_literals
init-asked [] h = absurd (false≢true h)
init-asked (x ∷ rest) h = let e : (x == 45) ≡ false = no_minus (x == 45) h in simp e refl

pub sized_init-asked : (dir file : Text) → begins_plain dir ≡ true → begins_plain file ≡ true → asked (codes "init" ∷ dir ∷ codes "--geometry" ∷ file ∷ []) ≡ Some (Init true)
unfolding clap_on_literals
sized_init-asked [] file h k = absurd (false≢true h)
sized_init-asked (x ∷ rest) [] h k = absurd (false≢true k)
sized_init-asked (x ∷ rest) (y ∷ more) h k =
    let e : (x == 45) ≡ false = no_minus (x == 45) h in
    let f : (y == 45) ≡ false = no_minus (y == 45) k in
    simp (e, f) refl

pub stopped_run-asked : (dir number : Text) → begins_plain dir ≡ true → begins_plain number ≡ true
    → asked (codes "run" ∷ dir ∷ codes "--stop-after" ∷ number ∷ []) ≡ run_of (Some number)
unfolding clap_on_literals
stopped_run-asked [] number h k = absurd (false≢true h)
stopped_run-asked (x ∷ rest) [] h k = absurd (false≢true k)
stopped_run-asked (x ∷ rest) (y ∷ more) h k =
    let e : (x == 45) ≡ false = no_minus (x == 45) h in
    let f : (y == 45) ≡ false = no_minus (y == 45) k in
    simp (e, f) refl

pub gen-asked : (seed count : Text) → begins_plain seed ≡ true → begins_plain count ≡ true → asked (codes "gen" ∷ seed ∷ count ∷ []) ≡ gen_of (Some seed) (Some count)
unfolding clap_on_literals
gen-asked [] count h k = absurd (false≢true h)
gen-asked (x ∷ rest) [] h k = absurd (false≢true k)
gen-asked (x ∷ rest) (y ∷ more) h k =
    let e : (x == 45) ≡ false = no_minus (x == 45) h in
    let f : (y == 45) ≡ false = no_minus (y == 45) k in
    simp (e, f) refl

-- and so are the folder and the file that they name
pub run-named : (dir : Text) → begins_plain dir ≡ true → named (codes "run" ∷ dir ∷ []) ≡ record { dir = Some dir; file = None }
unfolding clap_on_literals
run-named [] h = absurd (false≢true h)
run-named (x ∷ rest) h = let e : (x == 45) ≡ false = no_minus (x == 45) h in simp e refl

pub stopped_run-named : (dir number : Text) → begins_plain dir ≡ true → begins_plain number ≡ true
    → named (codes "run" ∷ dir ∷ codes "--stop-after" ∷ number ∷ []) ≡ record { dir = Some dir; file = None }
unfolding clap_on_literals
stopped_run-named [] number h k = absurd (false≢true h)
stopped_run-named (x ∷ rest) [] h k = absurd (false≢true k)
stopped_run-named (x ∷ rest) (y ∷ more) h k =
    let e : (x == 45) ≡ false = no_minus (x == 45) h in
    let f : (y == 45) ≡ false = no_minus (y == 45) k in
    simp (e, f) refl

pub sized_init-named : (dir file : Text) → begins_plain dir ≡ true → begins_plain file ≡ true
    → named (codes "init" ∷ dir ∷ codes "--geometry" ∷ file ∷ []) ≡ record { dir = Some dir; file = Some file }
unfolding clap_on_literals
sized_init-named [] file h k = absurd (false≢true h)
sized_init-named (x ∷ rest) [] h k = absurd (false≢true k)
sized_init-named (x ∷ rest) (y ∷ more) h k =
    let e : (x == 45) ≡ false = no_minus (x == 45) h in
    let f : (y == 45) ≡ false = no_minus (y == 45) k in
    simp (e, f) refl
