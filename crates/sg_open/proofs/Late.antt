-- An open batch of an image that can be opened is refused by the disk alone.
use Rattle.std.proofs.Common.{◌≡◌, ◌⊎◌, inl, inr, ⊎_elim, ◌<◌, ◌+◌, ℕ, Bool, length, get_or, IsTrue, sym, ◌∙◌, subst, arith}
use Rattle.sg_base.specs.Ends.{HasRisen}
use Rattle.sg_base.specs.declared.area.Area.TheVariants.{Home}
use Rattle.sg_disk.specs.Disk.{Bytes, View}
use Rattle.sg_gate.specs.Layout.{HEADER}
use Rattle.sg_gate.specs.Batch.{IsBatch, IsWrongAt, numbers_of, numbers_at, number_at, count_at}
use Rattle.sg_gate.specs.Faults.{LayFails}
use Rattle.sg_gate.proofs.Over.{numbers_length}
use Rattle.sg_gate.proofs.Texts.{number_there}
use Rattle.sg_gate.specs.declared.fault.GateFault.{GateFault}
use Rattle.sg_gate.specs.declared.fault.GateFault.TheVariants as gates
use Rattle.sg_find.specs.Refused.{of_gate}
use Rattle.sg_find.specs.declared.fault.OpenFault.{OpenFault}
use Rattle.sg_find.specs.declared.fault.OpenFault.TheVariants.{Disk, NotAStore, Damaged}

-- a batch has no field that is out of its range
batch_fit : (pages : ℕ) (f : Bytes) (at wrong : ℕ) → IsBatch pages (numbers_at f at) → IsWrongAt pages f at wrong → ⊥
unfolding numbers_at
batch_fit pages f at wrong batch (inl (e, h)) =
    let long = numbers_length f (at + 4) (count_at f at) in
    ⊎_elim (λ none. omega (arith, batch.some, long, none)) (λ more. omega (arith, batch.most, long, more)) h
batch_fit pages f at wrong batch (inr (k, e, first)) =
    let long = numbers_length f (at + 4) (count_at f at) in
    let here : (j : ℕ) → j < count_at f at → get_or (numbers_at f at) j 0 ≡ number_at f at j = λ j lt. number_there f (at + 4) (count_at f at) j lt in
    let there : k < length (numbers_at f at) = omega (arith, long, first.there) in
    first.unfit (record {
      below = subst (λ (x : ℕ). x < pages) (here k first.there) (batch.each k there);
      fresh = λ j lt is. batch.different j k lt there (here j (omega (arith, lt, first.there)) ∙ is ∙ sym (here k first.there));
    })

pub lay_refused : (told : Bool) (pages : ℕ) (v w : View) (e : GateFault) (x : OpenFault) → x ≡ of_gate e → IsTrue told → ((v.now Home).seen HEADER ≡ 1 → IsBatch pages (numbers_of (v.now Home).seen)) → LayFails told pages v w e
    → (x ≡ Disk) × HasRisen v.faults w.faults
lay_refused told pages v w gates.Disk x is is_told header fails = (is, fails)
lay_refused told pages v w gates.NotAStore x is is_told header fails = absurd fails
lay_refused told pages v w (gates.Damaged at) x is is_told header fails =
    let h = fails is_told in absurd (batch_fit pages (v.now Home).seen (HEADER + 1) at (header h.0) h.1)
