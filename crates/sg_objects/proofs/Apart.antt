-- The further fields of a note, which are read one after another.
use Rattle.std.proofs.Common.{◌≡◌, ℕ, ◌-◌, ◌<◌, ◌≤◌, List, length, take, drop, sym, ap, ◌∙◌, subst, refl, arith}
use Rattle.byteorder.specs.Endian.{little_number}
use Rattle.sg_ops.specs.Table.{Table as Operations}
use Rattle.sg_space.specs.View.{View}
use Rattle.sg_reading.specs.Back.{Undoing}
use Rattle.sg_reading.specs.Back.Undoing.{WasDrop, WasSet, WasApply, WasPut, WasOver}
use Rattle.sg_contents.specs.Standing.{HasContents}
use Rattle.sg_objects.specs.Notes.{byte_at, over_said, undoing_said}
use Rattle.sg_objects.specs.Reversing.{IsWhole, CanReverseBy}
use Rattle.sg_objects.specs.Undone.{CanUndo}
use Rattle.sg_objects.proofs.Reversing.{left_long, to_end, whole_of, put_short, over_short}

-- WHAT IS UNDONE, as it was read
abbrev pub behind : ℕ → List ℕ → List ℕ
behind n xs = take (length xs - n) (drop n xs)

pub said_drop : (code root : ℕ) (rest : List ℕ) → code ≡ 2 → root ≡ little_number 4 rest → undoing_said code rest ≡ WasDrop root
said_drop code root rest two is = ap (λ (n : ℕ). undoing_said n rest) two ∙ ap WasDrop (sym is)

pub said_set : (code index : ℕ) (rest : List ℕ) → code ≡ 5 → index ≡ little_number 4 rest → undoing_said code rest ≡ WasSet index (behind 4 rest)
said_set code index rest five is =
    let read : WasSet index (behind 4 rest) ≡ WasSet (little_number 4 rest) (drop 4 rest) = λ i. WasSet (is i) (to_end 4 rest i) in
    ap (λ (n : ℕ). undoing_said n rest) five ∙ sym read

pub said_apply : (code index op : ℕ) (rest : List ℕ) → code ≡ 6 → index ≡ little_number 4 rest → op ≡ little_number 2 (behind 4 rest)
    → undoing_said code rest ≡ WasApply index op (behind 2 (behind 4 rest))
said_apply code index op rest six is op_is =
    let number : op ≡ little_number 2 (drop 4 rest) = op_is ∙ ap (λ (xs : List ℕ). little_number 2 xs) (to_end 4 rest) in
    let arg : behind 2 (behind 4 rest) ≡ drop 2 (drop 4 rest) = to_end 2 (behind 4 rest) ∙ ap (λ (xs : List ℕ). drop 2 xs) (to_end 4 rest) in
    let read : WasApply index op (behind 2 (behind 4 rest)) ≡ WasApply (little_number 4 rest) (little_number 2 (drop 4 rest)) (drop 2 (drop 4 rest))
    = λ i. WasApply (is i) (number i) (arg i) in
    ap (λ (n : ℕ). undoing_said n rest) six ∙ sym read

pub said_over : (rest : List ℕ) → over_said rest ≡ WasOver (take (byte_at rest 0) (behind 1 rest)) (behind (byte_at rest 0) (behind 1 rest))
said_over rest =
    let size = byte_at rest 0 in
    let value : behind size (behind 1 rest) ≡ drop size (drop 1 rest) = to_end size (behind 1 rest) ∙ ap (λ (xs : List ℕ). drop size xs) (to_end 1 rest) in
    let read : WasOver (take size (behind 1 rest)) (behind size (behind 1 rest)) ≡ WasOver (take size (drop 1 rest)) (drop size (drop 1 rest))
    = λ i. WasOver (take size (to_end 1 rest i)) (value i) in
    sym read

pub can_said : (v : View) (t : Operations) (code : ℕ) (name rest : List ℕ) {u : Undoing} → undoing_said code rest ≡ u
    → HasContents v (CanReverseBy t v code name rest) → HasContents v (CanUndo t u name)
can_said v t code name rest e there told = let h = there told in (h.0, h.1, subst (λ (x : Undoing). CanUndo t x name h.0) e (h.2).undo)

pub can_at : (v : View) (t : Operations) (code code' : ℕ) (name rest : List ℕ) → code ≡ code' → HasContents v (CanReverseBy t v code name rest)
    → HasContents v (CanReverseBy t v code' name rest)
can_at v t code code' name rest e there = subst (λ (n : ℕ). HasContents v (CanReverseBy t v n name rest)) e there

-- WHAT CAN BE UNDONE is read to its end
pub never_short_of : (v : View) (t : Operations) (code : ℕ) (name rest : List ℕ) (n : ℕ) → HasContents v (CanReverseBy t v code name rest)
    → (IsWhole code rest → n ≤ length rest) → length rest < n → v.Told → ⊥
never_short_of v t code name rest n there long short told = let size = long (whole_of v t code name rest there told) in omega (arith, size, short)

pub never_other : (v : View) (t : Operations) (code : ℕ) (name rest : List ℕ) → HasContents v (CanReverseBy t v code name rest)
    → (code ≡ 1 → ⊥) → (code ≡ 2 → ⊥) → (code ≡ 3 → ⊥) → (code ≡ 4 → ⊥) → (code ≡ 5 → ⊥) → (code ≡ 6 → ⊥)
    → (code ≡ 7 → ⊥) → (code ≡ 8 → ⊥) → v.Told → ⊥
never_other v t code name rest there n1 n2 n3 n4 n5 n6 n7 n8 told =
    let w = whole_of v t code name rest there told in
    let least = w.least in
    let most = w.most in
    omega (arith, least, most, n1, n2, n3, n4, n5, n6, n7, n8)

pub never_long : (v : View) (t : Operations) (name key : List ℕ) → HasContents v (CanUndo t (WasPut key) name) → 128 < length key → v.Told → ⊥
never_long v t name key there long told = let h = there told in let short = put_short h.2 in omega (arith, short, long)

-- an entry that is put back
pub never_keyless : (v : View) (t : Operations) (name rest : List ℕ) → HasContents v (CanReverseBy t v 8 name rest) → length rest ≡ 0 → v.Told → ⊥
never_keyless v t name rest there none told = let long = (whole_of v t 8 name rest there told).key refl in omega (arith, long, none)

pub never_cut_key : (v : View) (t : Operations) (name rest : List ℕ) → HasContents v (CanReverseBy t v 8 name rest)
    → length (behind 1 rest) < byte_at rest 0 → v.Told → ⊥
never_cut_key v t name rest there cut told =
    let long = (whole_of v t 8 name rest there told).key refl in
    let size : length (behind 1 rest) ≡ length rest - 1 = ap length (to_end 1 rest) ∙ left_long 1 rest in
    omega (arith, long, size, cut)

pub never_long_over : (v : View) (t : Operations) (name key value : List ℕ) → HasContents v (CanUndo t (WasOver key value) name) → 128 < length key
    → v.Told → ⊥
never_long_over v t name key value there long told = let h = there told in let short = (over_short h.2).0 in omega (arith, short, long)

pub never_large_over : (v : View) (t : Operations) (name key value : List ℕ) → HasContents v (CanUndo t (WasOver key value) name) → 1024 < length value
    → v.Told → ⊥
never_large_over v t name key value there large told = let h = there told in let small = (over_short h.2).1 in omega (arith, small, large)

pub one_free : (v : View) (t : Operations) (name rest : List ℕ) → HasContents v (CanReverseBy t v 8 name rest) → v.Told → 1 ≤ v.space.pages.free
one_free v t name rest there told = let h = there told in ((h.2).free).pages
