-- The lines of a workload: a script of three transactions that is drawn from a seed.
use Rattle.std.specs.Prelude.{ℕ, zero, suc, Bool, false, if◌then◌else◌, List, [], ◌∷◌, ◌++◌, codes, replicate}
use Rattle.std.specs.List.{flat_map}
use Rattle.rand_pcg.specs.Lcg.{Lcg, started, increment_of}
use Rattle.rand_pcg.specs.Pcg.{multiplier_64}
use Rattle.sg_workload.specs.declared.drawn.Verb.{Verb}
use Rattle.sg_workload.specs.declared.drawn.Verb.TheVariants.{Begin, Commit}
use Rattle.sg_workload.specs.Draws.{draw, drawn_verb, is_live, live_after}
use Rattle.sg_workload.specs.Texts.{text_of}

-- the objects, made by one transaction: an array of 64 items of 8 bytes, a table, and a blob of 100,000 bytes
abbrev pub opening : List (List ℕ)
opening =
    codes "s begin" ∷ codes "s make array a 8" ∷ codes "s make table h" ∷ codes "s make blob b" ∷ codes "s size b 100000"
    ∷ (replicate 64 (codes "s push a x:0000000000000000") ++ codes "s commit" ∷ [])

-- the verb of the next line, of the transaction with this number: it begins where it isn't live
abbrev pub next_verb : Bool → Lcg → Verb × Lcg
next_verb live random = if live then drawn_verb random else (Begin, random)

-- the commit of a transaction, if it is live
abbrev pub commit_of : List Bool → ℕ → List (List ℕ)
commit_of live w = if is_live live w then text_of w Commit ∷ [] else []

-- the commits of the transactions that are live, in the order of their numbers
abbrev pub closing : List Bool → List (List ℕ)
closing live = commit_of live 0 ++ commit_of live 1 ++ commit_of live 2

-- so many lines that are drawn, and the closing
unfoldable pub drawn_lines : ℕ → List Bool → Lcg → List (List ℕ)
drawn_lines zero live random = closing live
drawn_lines (suc n) live random =
    let of = draw 3 random in
    let verb = next_verb (is_live live of.0) of.1 in
    text_of of.0 verb.0 ∷ drawn_lines n (live_after verb.0 of.0 live) verb.1

-- none of the three is live
abbrev pub none_live : List Bool
none_live = false ∷ false ∷ false ∷ []

-- the generator that a workload of this seed is drawn from
abbrev pub seeded : ℕ → Lcg
seeded seed = started 64 multiplier_64 seed (increment_of 64 54)

-- the lines of the workload of this seed with so many lines that are drawn
abbrev pub workload : ℕ → ℕ → List (List ℕ)
workload seed count = opening ++ drawn_lines count none_live (seeded seed)

-- lines as a text, each with its LF
abbrev pub text_of_lines : List (List ℕ) → List ℕ
text_of_lines lines = flat_map (λ line. line ++ codes "\n") lines
