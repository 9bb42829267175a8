-- Small actions, computed.
use Rattle.std.proofs.Common.{◌≡◌, ℕ, List, [], ◌∷◌, replicate, Some, None, refl}
use Rattle.sg_ops.specs.Table.{fresh_table}
use Rattle.sg_base.specs.Sheet.{Sheet}
use Rattle.sg_base.specs.Op.Op.{Put, Remove}
use Rattle.sg_action.specs.States.{State, Change, made, all_off}
use Rattle.sg_action.specs.States.Change.{Page, Write}
use Rattle.std.specs.Prelude.{Option, option_map}

-- pages that say the same, and bands of 8 bytes
one_page : Sheet → State
one_page p = record { size = record { pages = 6; bands = 6 }; pages = λ n. Some p; bands = λ b. 1 ∷ 2 ∷ 3 ∷ 4 ∷ 5 ∷ 6 ∷ 7 ∷ 8 ∷ [] }

after : List Change → State → Option (Option Sheet)
after ds x = option_map (λ (s : State). s.pages 5) (all_off fresh_table ds (made fresh_table x ds))

bands_after : List Change → State → Option (List ℕ)
bands_after ds x = option_map (λ (s : State). s.bands 5) (all_off fresh_table ds (made fresh_table x ds))

-- a Put at the end and its Remove leave an empty slot
leaves_a_slot : after (Page 5 (Put 0 (9 ∷ [])) (Remove 0) ∷ []) (one_page (record { kind = 4; links = (0, 0); slots = [] })) ≡ Some (Some (record { kind = 4; links = (0, 0); slots = None ∷ [] }))
unfolding after one_page
leaves_a_slot = refl

-- a Remove, and then a Put that opens a slot, on a full page: the cell doesn't go back
full : Sheet
full = record { kind = 4; links = (0, 0); slots = Some (replicate 4068 0) ∷ [] }

stays_away : all_off fresh_table (Page 5 (Put 1 (9 ∷ [])) (Remove 1) ∷ Page 5 (Remove 0) (Put 0 (replicate 4068 0)) ∷ []) (made fresh_table (one_page full) (Page 5 (Put 1 (9 ∷ [])) (Remove 1) ∷ Page 5 (Remove 0) (Put 0 (replicate 4068 0)) ∷ [])) ≡ None
unfolding one_page full
stays_away = refl

-- into the emptied slot it does
goes_back : after (Page 5 (Put 0 (9 ∷ [])) (Remove 0) ∷ Page 5 (Remove 0) (Put 0 (replicate 4068 0)) ∷ []) (one_page full) ≡ Some (Some full)
unfolding after one_page full
goes_back = refl

-- writes that overlap
overlap : bands_after (Write 5 2 (3 ∷ 9 ∷ []) (8 ∷ 8 ∷ []) ∷ Write 5 3 (4 ∷ 5 ∷ 6 ∷ []) (9 ∷ 9 ∷ 9 ∷ []) ∷ []) (one_page full) ≡ Some (1 ∷ 2 ∷ 3 ∷ 4 ∷ 5 ∷ 6 ∷ 7 ∷ 8 ∷ [])
unfolding bands_after one_page full
overlap = refl
