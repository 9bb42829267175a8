-- The first value of an id, by the rows and by the entries of what a parse found.
use Rattle.std.proofs.Common.{◌≡◌, ◌∙◌, Option, Some, None, option_map, option_and_then, refl, ap, sym}
use Rattle.std.specs.List.{find, slice_get}
use Rattle.std.specs.Str.{bytes_eq}
use Rattle.std.proofs.lemmas.Option.{slice_get-map}
use Rattle.clap.specs.Words.{Text, first_of, first_value, rows_of}
use Rattle.clap.specs.Walk.{row_of}
use Rattle.clap.specs.Facts.{Entry}
use Rattle.clap.specs.declared.parser.matches.Found.{Found}
use Rattle.clap.proofs.WalkLemmas.{find_row}

of_entry : (found : Option Entry) → option_and_then (λ r. slice_get r.values 0) (option_map row_of found)
    ≡ option_and_then (λ a. option_map (λ s. s.now) (slice_get a.vals.items 0)) (option_map (λ e. e.1) found)
of_entry None = refl
of_entry (Some e) = slice_get-map (λ s. s.now) e.1.vals.items 0

pub first_by_rows : (f : Found) (id : Text) → first_value f id ≡ first_of id (rows_of f)
first_by_rows f id = sym (ap (λ o. option_and_then (λ r. slice_get r.values 0) o) (find_row f.entries.items id) ∙ of_entry (find (λ e. bytes_eq e.0.now id) f.entries.items))
