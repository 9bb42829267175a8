-- The gates and texts of slots that were read.
use Rattle.std.proofs.Common.{refl, ◌≡◌, ◌↔◌, ◌+◌, ◌==◌, ℕ, Bool, true, false, if◌then◌else◌, min, IsTrue, Option, Some, None, Result, IfErr, List, length, take, drop, get_or, sym, ◌∙◌, ap, subst, arith}
use Rattle.std.proofs.lemmas.Bool.Decides.{nat_tests}
use Rattle.std.proofs.Math.Seq.{take-length}
use Rattle.sg_base.specs.declared.area.Area.TheVariants.{Home}
use Rattle.sg_disk.specs.Disk.{Bytes, State, View, LeavesOnly, window}
use Rattle.sg_disk.proofs.Counted.{raised_twice}
use Rattle.sg_gate.specs.Faults.{ReadFails}
use Rattle.sg_gate.specs.Superblock.{start_of, text_at, counting, spare, spare_of, spelled, read_with, read_text, superblock, wrong_in, IsSuper, IsText, IsNewer, IsSpare, IsRenewing, IsRenewed, renewing_calls, renewing_bytes}
use Rattle.sg_gate.specs.declared.fault.GateFault.{GateFault}
use Rattle.sg_gate.specs.declared.slot.Slot.{Slot}
use Rattle.sg_gate.specs.declared.superblock.Super.{Super}
use Rattle.sg_gate.proofs.Windows.{first_of, window_size}
use Rattle.sg_gate.proofs.Fields.{slot_text, spelled_text}
use Rattle.sg_gate.proofs.Slots.{superblock_is, is_spare}

pub gate_same : (f : Bytes) (at n : ℕ) (read : List ℕ) → read ≡ window f at n → n ≡ 44 → (get_or read 0 0 == 1) ≡ (f at == 1)
gate_same f at n read is size = ap (λ (x : ℕ). x == 1) (first_of f at n read is (omega arith))

is_one : (x : ℕ) → IsTrue (x == 1) ↔ (x ≡ 1)
is_one x = (λ yes. grind (arith, nat_tests), λ is. grind (arith, nat_tests))

pub gate_open : (f : Bytes) (at n : ℕ) (read : List ℕ) → read ≡ window f at n → n ≡ 44 → IsTrue (get_or read 0 0 == 1) ↔ (f at ≡ 1)
gate_open f at n read is size = subst (λ (b : Bool). IsTrue b ↔ (f at ≡ 1)) (sym (gate_same f at n read is size)) (is_one (f at))

-- What a reader answers of the slot that counts.
text_long : (f : Bytes) (at : ℕ) → length (text_at f at) ≡ 43
unfolding text_at
text_long f at = window_size f (at + 1) 43

pub read_there : (f : Bytes) (slot : Slot) (at n m : ℕ) (read : List ℕ) → counting f ≡ Some slot → start_of slot ≡ at → read ≡ window f at n → n ≡ 44 → m ≡ 43 → superblock f ≡ read_text (start_of slot) (take m (drop 1 read))
read_there f slot at n m read counts start is size part =
    let text = text_at f at in
    let long : m ≡ length text = part ∙ sym (text_long f at) in
    let whole : take m (drop 1 read) ≡ text = ap (take m) (slot_text f at n read is size) ∙ ap (λ (k : ℕ). take k text) long ∙ take-length text in
    superblock_is f slot counts ∙ ap (read_text (start_of slot)) (ap (text_at f) start ∙ sym whole)

faults_with : (told : Bool) (old new : View) (at : ℕ) (text : List ℕ) (o : Option ℕ) (r : Result Super GateFault) → r ≡ read_with at text o → (IsTrue told → r ≡ superblock (old.now Home).seen) → IfErr r (λ e. ReadFails told old new e)
faults_with told old new at text None r is found = subst (λ (q : Result Super GateFault). IfErr q (λ e. ReadFails told old new e)) (sym is) tt
faults_with told old new at text (Some wrong) r is found = subst (λ (q : Result Super GateFault). IfErr q (λ e. ReadFails told old new e)) (sym is) (λ sure. sym (found sure) ∙ is)

-- when it answers which fault
pub text_faults : (told : Bool) (old new : View) (at : ℕ) (text : List ℕ) (r : Result Super GateFault) → r ≡ read_text at text → (IsTrue told → r ≡ superblock (old.now Home).seen) → IfErr r (λ e. ReadFails told old new e)
text_faults told old new at text r is found = faults_with told old new at text (wrong_in text) r is found

-- THE SLOT THAT DOESN'T COUNT, as it was found.
pub spare_text : (f : Bytes) (s : Super) (text : List ℕ) → text ≡ spelled s → IsSuper s → IsNewer f s → IsSpare f s text (spare_of f)
spare_text f s text is range newer = is_spare f s text (subst (λ (t : List ℕ). IsText s t) (sym is) (spelled_text s range)) (counting f) refl newer

spare_at : (f : Bytes) (slot : Slot) (o : Option Slot) (found : Slot) → o ≡ counting f → found ≡ spare o → found ≡ slot → spare_of f ≡ start_of slot
spare_at f slot o found counted is arm = ap (λ (p : Option Slot). start_of (spare p)) (sym counted) ∙ ap start_of (sym is ∙ arm)

pub spare_here : (f : Bytes) (s : Super) (text : List ℕ) → text ≡ spelled s → IsSuper s → IsNewer f s → (slot : Slot) (o : Option Slot) (found : Slot) → o ≡ counting f → found ≡ spare o → found ≡ slot → IsSpare f s text (start_of slot)
spare_here f s text spells range newer slot o found counted is arm = subst (λ (at : ℕ). IsSpare f s text at) (spare_at f slot o found counted is arm) (spare_text f s text spells range newer)

pub moments_there : (v z : View) (s : Super) (slot : Slot) (o : Option Slot) (found : Slot) → o ≡ counting (v.now Home).seen → found ≡ spare o → found ≡ slot
    → LeavesOnly v z (IsRenewing v.now s (start_of slot)) → LeavesOnly v z (IsRenewing v.now s (spare_of (v.now Home).seen))
moments_there v z s slot o found counted is arm run = subst (λ (at : ℕ). LeavesOnly v z (IsRenewing v.now s at)) (sym (spare_at (v.now Home).seen slot o found counted is arm)) run

pub renewed_there : (r s t : State) (new : Super) (slot : Slot) (o : Option Slot) (found : Slot) → o ≡ counting (r Home).seen → found ≡ spare o → found ≡ slot → s ≡ r → IsRenewed s t new (start_of slot) → IsRenewed r t new (spare_of (r Home).seen)
renewed_there r s t new slot o found counted is arm same done =
    subst (λ (at : ℕ). IsRenewed r t new at) (sym (spare_at (r Home).seen slot o found counted is arm)) (subst (λ (u : State). IsRenewed u t new (start_of slot)) same done)

-- What a renewal calls and hands over: both slots are read, and the one that doesn't count is written, and closed before where it is open.
module _ (f : Bytes) (slot : Slot) (o : Option Slot) (found : Slot) (counted : o ≡ counting f) (is : found ≡ spare o) (arm : found ≡ slot) (is_open : Bool) (same : is_open ≡ (f (start_of slot) == 1)) (before mid now top : ℕ) where
  open_there : is_open ≡ (f (spare_of f) == 1)
  open_there = same ∙ ap (λ (at : ℕ). f at == 1) (sym (spare_at f slot o found counted is arm))

  calls_by : mid ≡ min (before + 2) top → (b : Bool) → now ≡ min (mid + (if b then 6 else 4)) top → now ≡ min (before + (if b then 8 else 6)) top
  calls_by read true wrote = raised_twice before mid now 2 6 top read wrote
  calls_by read false wrote = raised_twice before mid now 2 4 top read wrote

  pub renewed_calls : mid ≡ min (before + 2) top → now ≡ min (mid + (if is_open then 6 else 4)) top → now ≡ min (before + renewing_calls f) top
  renewed_calls read wrote = subst (λ (b : Bool). now ≡ min (before + (if b then 8 else 6)) top) open_there (calls_by read is_open wrote)

  pub renewed_bytes : mid ≡ before → now ≡ min (mid + (if is_open then 45 else 44)) top → now ≡ min (before + renewing_bytes f) top
  renewed_bytes read wrote = subst (λ (b : Bool). now ≡ min (before + (if b then 45 else 44)) top) open_there (subst (λ (n : ℕ). now ≡ min (n + (if is_open then 45 else 44)) top) read wrote)
