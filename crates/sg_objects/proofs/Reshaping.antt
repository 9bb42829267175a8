-- How far tables have grown behind an undoing.
use Rattle.std.proofs.Common.{◌≡◌, ℕ, Bool, true, false, List, Result, Ok, Err, OnOk, sym, ap, ◌∙◌, subst}
use Rattle.std.specs.Prelude.{⊤}
use Rattle.sg_hash.specs.Calls.{IsPut}
use Rattle.sg_hash.specs.Table.{HashTable}
use Rattle.sg_ops.specs.Table.{Table as Operations}
use Rattle.sg_reading.specs.Back.{Undoing}
use Rattle.sg_reading.specs.Back.Undoing.{WasNothing, WasMake, WasDrop, WasPush, WasPop, WasSet, WasApply, WasPut, WasOver, WasBytes}
use Rattle.sg_space.specs.declared.space.SpaceFault.{SpaceFault}
use Rattle.sg_space.specs.View.{View, Space}
use Rattle.byteorder.specs.Endian.{little_number}
use Rattle.sg_contents.specs.Standing.{Contents}
use Rattle.sg_objects.specs.Notes.{undoing_said, note_said}
use Rattle.sg_objects.specs.Reshaped.{ShapesBack, Reshapes}
use Rattle.sg_objects.specs.Reversing.{HasNote}
use Rattle.sg_objects.proofs.Reversing.{IsRead, said_undoes, said_name, possible_whole}

-- an entry that is put where no bucket may be split
unsplit : false ≡ true → ⊥
unsplit e = cc

pub put_back_shape : {key value : List ℕ} {fresh : Bool} {a a' : HashTable} → IsPut key value false fresh a a' → a'.shape ≡ a.shape
put_back_shape p = ap (λ (x : HashTable). x.shape) (p.whole (λ e new. unsplit e)) ∙ (p.entered).shape

-- AN UNDOING THAT IS OF NO ENTRY
abbrev pub IsNoEntry : Undoing → Type 0
IsNoEntry (WasPut key) = ⊥
IsNoEntry (WasOver key value) = ⊥
IsNoEntry other = Unit {0}

unshaped_back : (u : Undoing) → IsNoEntry u → (name : List ℕ) (s : Contents) (new : Space) → ShapesBack u name s new
unshaped_back (WasPut key) n name s new = absurd n
unshaped_back (WasOver key value) n name s new = absurd n
unshaped_back WasNothing n name s new = tt
unshaped_back WasMake n name s new = tt
unshaped_back (WasDrop root) n name s new = tt
unshaped_back WasPush n name s new = tt
unshaped_back (WasPop item) n name s new = tt
unshaped_back (WasSet index item) n name s new = tt
unshaped_back (WasApply index code arg) n name s new = tt
unshaped_back (WasBytes size) n name s new = tt

pub reshapes_as : (v w : View) (name : List ℕ) (r : Result ⊤ SpaceFault) {u u' : Undoing} → u ≡ u' → OnOk r (Reshapes v w u name) → OnOk r (Reshapes v w u' name)
reshapes_as v w name r e d = subst (λ (x : Undoing). OnOk r (Reshapes v w x name)) e d

pub no_entry : (v w : View) (name : List ℕ) (r : Result ⊤ SpaceFault) {u u' : Undoing} → IsNoEntry u → u ≡ u' → OnOk r (Reshapes v w u' name)
no_entry v w name (Ok x) {u = u} n e = reshapes_as v w name (Ok x) e (record { shaped = λ told s h. unshaped_back u n name s w.space })
no_entry v w name (Err x) n e = tt

-- so it is of what was read, and so of what the bytes say
pub reshapes_by : (v w : View) (t : Operations) (bytes : List ℕ) (code : ℕ) (who rest : List ℕ) (r : Result ⊤ SpaceFault) → HasNote t v bytes
    → IsRead bytes code who rest → OnOk r (Reshapes v w (undoing_said code rest) who)
    → OnOk r (Reshapes v w (note_said bytes).undoes (note_said bytes).name)
reshapes_by v w t bytes code who rest (Ok x) h read d = record {
  shaped = λ told s is.
      let n = said_name (possible_whole bytes (h told)) read in
      subst (λ (m : List ℕ). ShapesBack (note_said bytes).undoes m s w.space) (sym n)
      (subst (λ (u : Undoing). ShapesBack u who s w.space) (sym (said_undoes read)) (d.shaped told s is));
}
reshapes_by v w t bytes code who rest (Err e) h read d = d

-- a note of bytes
pub bytes_unshaped : (v w : View) (bytes : List ℕ) (code : ℕ) (who rest : List ℕ) (r : Result ⊤ SpaceFault) → code ≡ 9 → IsRead bytes code who rest
    → OnOk r (Reshapes v w (note_said bytes).undoes (note_said bytes).name)
bytes_unshaped v w bytes code who rest r nine read =
    no_entry v w (note_said bytes).name r tt (sym (said_undoes read ∙ ap (λ (c : ℕ). undoing_said c rest) nine))
