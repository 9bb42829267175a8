-- What is drawn of a generator, one word a draw.
use Rattle.std.specs.Prelude.{ℕ, ◌+◌, ◌%◌, ◌==◌, nat_le, Bool, true, false, if◌then◌else◌, List, unwrap_or, slice_get}
use Rattle.std.proofs.Math.ListN.{set}
use Rattle.rand_pcg.specs.Lcg.{Lcg}
use Rattle.rand_pcg.specs.Pcg.{pcg32}
use Rattle.sg_workload.specs.declared.drawn.Verb.{Verb}
use Rattle.sg_workload.specs.declared.drawn.Verb.TheVariants.{Begin, Commit, Abort, Apply, Put, Find, Del, Paint, Get}

-- a word, and the generator behind it
unfoldable pub word : Lcg → ℕ × Lcg
word random = pcg32 random

-- a number below n, and the generator behind it
abbrev pub draw : ℕ → Lcg → ℕ × Lcg
draw n random = ((word random).0 % n, (word random).1)

abbrev pub drawn_apply : Lcg → Verb × Lcg
drawn_apply random =
    let index = draw 64 random in
    let amount = draw 1000 index.1 in
    (Apply index.0 amount.0, amount.1)

abbrev pub drawn_put : Lcg → Verb × Lcg
drawn_put random =
    let key = draw 2000 random in
    let value = word key.1 in
    (Put key.0 value.0, value.1)

abbrev pub drawn_find : Lcg → Verb × Lcg
drawn_find random =
    let key = draw 2000 random in
    (Find key.0, key.1)

abbrev pub drawn_del : Lcg → Verb × Lcg
drawn_del random =
    let key = draw 2000 random in
    (Del key.0, key.1)

abbrev pub drawn_paint : Lcg → Verb × Lcg
drawn_paint random =
    let at = draw 90000 random in
    let length = draw 10000 at.1 in
    let byte = draw 256 length.1 in
    (Paint at.0 (1 + length.0) byte.0, byte.1)

abbrev pub drawn_get : Lcg → Verb × Lcg
drawn_get random =
    let index = draw 64 random in
    (Get index.0, index.1)

-- the verb that a number below 16 chooses, with what is drawn for it
abbrev pub drawn_of : ℕ → Lcg → Verb × Lcg
drawn_of choice random =
    if nat_le choice 1 then (Commit, random)
    else if choice == 2 then (Abort, random)
    else if nat_le choice 5 then drawn_apply random
    else if nat_le choice 10 then drawn_put random
    else if nat_le choice 12 then drawn_find random
    else if choice == 13 then drawn_del random
    else if choice == 14 then drawn_paint random
    else drawn_get random

-- the verb of a live transaction
abbrev pub drawn_verb : Lcg → Verb × Lcg
drawn_verb random =
    let choice = draw 16 random in
    drawn_of choice.0 choice.1

-- whether one of the three transactions is live
abbrev pub is_live : List Bool → ℕ → Bool
is_live live w = unwrap_or (slice_get live w) false

-- which are live once one of them did this
abbrev pub live_after : Verb → ℕ → List Bool → List Bool
live_after Begin w live = set live w true
live_after Commit w live = set live w false
live_after Abort w live = set live w false
live_after (Apply index amount) w live = live
live_after (Put key value) w live = live
live_after (Find key) w live = live
live_after (Del key) w live = live
live_after (Paint at length byte) w live = live
live_after (Get index) w live = live
