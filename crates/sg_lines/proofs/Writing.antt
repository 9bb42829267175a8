-- A part is written as its line.
use Rattle.std.proofs.Common.{◌≡◌, ℕ, List, [], ◌∷◌, ◌++◌, Option, Result, Ok, Err, sym, ap, ◌∙◌, subst, append-nil}
use Rattle.std.proofs.lemmas.List.Concat.{flat_map-append}
use Rattle.sg_base.specs.Ends.{Takes, TakesFront}
use Rattle.sg_words.specs.Writing.{Writes}
use Rattle.sg_words.proofs.Steps.{Takes-more, front_behind}
use Rattle.sg_words.proofs.Waits.{front_longer}
use Rattle.sg_lines.specs.Heard.{Ears, Hears}
use Rattle.sg_lines.specs.Parts.{Part, line_of, lines_of}

-- the lines of some parts, and of one more
one_line : (parts : List Part) (part : Part) → lines_of (parts ++ part ∷ []) ≡ lines_of parts ++ line_of part
one_line parts part = flat_map-append line_of parts (part ∷ []) ∙ ap (λ (t : List ℕ). lines_of parts ++ t) (append-nil (line_of part))

-- a listener that writes to a sink by this name, which has taken these bytes, and failed so often
abbrev pub writing : {S : Type 0} → (S → ℕ) → (S → Option (List ℕ)) → (S → ℕ) → Ears S
writing name taken faults = record {
  heard = λ from parts to. Takes (taken from) (lines_of parts) (taken to);
  cut = λ from parts to. TakesFront (taken from) (lines_of parts) (taken to);
  faults = faults;
  who = name;
}

pub heard_line : {S T E : Type 0} (name : S → ℕ) (taken : S → Option (List ℕ)) (faults : S → ℕ) (old : S) (part : Part) (new : S) (result : Result T E) → name new ≡ name old → Writes (taken old) (line_of part) (taken new) (faults old) (faults new) result
    → Hears (writing name taken faults) old (part ∷ []) new result
heard_line name taken faults old part new (Ok x) same w = record {
  heard = λ from before h. subst (λ (t : List ℕ). Takes (taken from) t (taken new)) (sym (one_line before part)) (Takes-more (taken from) (lines_of before) (taken old) (line_of part) (taken new) h w.took);
  cut = tt;
  later = w.later;
  quiet = w.quiet;
  failed = tt;
  same = same;
}
heard_line name taken faults old part new (Err e) same w = record {
  heard = tt;
  cut = λ from before behind h.
      let all = flat_map-append line_of (before ++ part ∷ []) behind ∙ ap (λ (t : List ℕ). t ++ lines_of behind) (one_line before part) in
      subst (λ (t : List ℕ). TakesFront (taken from) t (taken new)) (sym all)
      (front_longer (taken from) (lines_of before ++ line_of part) (lines_of behind) (taken new) (front_behind (taken from) (lines_of before) (taken old) (line_of part) (taken new) h w.cut));
  later = w.later;
  quiet = tt;
  failed = w.failed;
  same = same;
}
