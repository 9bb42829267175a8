-- What is said at a place of a text.
use Rattle.std.proofs.Common.{◌≡◌, ◌≤◌, ◌-◌, ℕ, List, [], length, take, drop, length-drop, Option, Some, None, IfSome, option_map, Err, refl, sym, ap, ◌∙◌}
use Rattle.std.proofs.lemmas.List.{drop_all}
use Rattle.std.proofs.Math.Seq.{take-length}
use Rattle.sg_record.specs.Changes.{Change}
use Rattle.sg_record.specs.Reading.{Parsed, parse}
use Rattle.sg_record.specs.declared.record.RecError.TheVariants.{Short}
use Rattle.sg_redo.specs.Places.{change_read, change_at}

short : parse [] ≡ Err Short
unfolding parse
short = refl

-- behind the text nothing stands
pub nothing_behind : (text : List ℕ) (at : ℕ) → length text ≤ at → None ≡ change_at text at
unfolding change_at
nothing_behind text at le = sym (ap (λ (bytes : List ℕ). change_read (parse bytes)) (drop_all at text le) ∙ ap change_read short)

rest_whole : (text : List ℕ) (at : ℕ) → take (length text - at) (drop at text) ≡ drop at text
rest_whole text at = ap (λ (n : ℕ). take n (drop at text)) (sym (length-drop at text)) ∙ take-length (drop at text)

-- what was read of the rest
pub read_there : (text : List ℕ) (at : ℕ) (r : Parsed) → r ≡ parse (take (length text - at) (drop at text)) → change_read r ≡ change_at text at
unfolding change_at
read_there text at r is = ap change_read is ∙ ap (λ (bytes : List ℕ). change_read (parse bytes)) (rest_whole text at)

-- a fact of a value is one of what it stands for
pub of_shown : {A : Type 0} (f : A → Change) (P : Change → Type 0) (o : Option A) → IfSome (option_map f o) P → IfSome o (λ a. P (f a))
of_shown f P None h = tt
of_shown f P (Some a) h = h
