-- What a list's elements come to, told one behind another.
use Rattle.std.proofs.Common.{◌≡◌, ℕ, suc, ◌+◌, ◌≤◌, List, [], ◌∷◌, ◌++◌, length, take, drop, slice_get, Some, Result, Err, sym, subst}
use Rattle.std.specs.List.{flat_map}
use Rattle.std.proofs.lemmas.List.{take_all}
use Rattle.sg_lines.specs.Heard.{Ears, HasHeard}
use Rattle.sg_lines.specs.Parts.{Part, entry_part}
use Rattle.sg_listing.specs.Telling.{IsTold}
use Rattle.sg_listing.specs.declared.fault.TellFault.{TellFault}
use Rattle.sg_listing.proofs.Entries.{up_to, with_behind}
use Rattle.sg_listing.proofs.Telling.{heard_on, told_on, told_before}

-- the part of an entry, as a list
abbrev pub one_entry : List ℕ × List ℕ → List Part
one_entry e = entry_part e ∷ []

module _ {S : Type 0} (ears : Ears S) {A : Type 0} (f : A → List Part) (xs : List A) where
  pub next_heard : (i : ℕ) (x : A) → slice_get xs i ≡ Some x → {old mid new : S} → HasHeard ears old (flat_map f (take i xs)) mid → HasHeard ears mid (f x) new → HasHeard ears old (flat_map f (take (i + 1) xs)) new
  next_heard i x at {old} {mid} {new} first last = subst (λ (ps : List Part). HasHeard ears old ps new) (sym (up_to f xs i x at)) (heard_on ears (flat_map f (take i xs)) (f x) first last)

  pub next_failed : (T U : Type 0) (i : ℕ) (x : A) → slice_get xs i ≡ Some x → (old mid new : S) (fault : TellFault) → HasHeard ears old (flat_map f (take i xs)) mid → IsTold {T = T} ears mid (f x) new (Err fault) → IsTold {T = U} ears old (flat_map f xs) new (Err fault)
  next_failed T U i x at old mid new fault first last =
      let rest = flat_map f (drop (suc i) xs) in
      let r : Result U TellFault = Err fault in
      subst (λ (ps : List Part). IsTold ears old ps new r) (with_behind f xs i x at)
      (told_on ears U old mid new (flat_map f (take i xs)) (f x ++ rest) r first (told_before ears T U mid new (f x) rest fault last))

  pub all_heard : (i : ℕ) → length xs ≤ i → {old new : S} → HasHeard ears old (flat_map f (take i xs)) new → HasHeard ears old (flat_map f xs) new
  all_heard i past {old} {new} h = subst (λ (ys : List A). HasHeard ears old (flat_map f ys) new) (take_all i xs past) h
