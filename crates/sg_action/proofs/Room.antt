-- Room for all inverses.
use Rattle.std.proofs.Common.{◌≡◌, ℕ, ◌+◌, ◌*◌, ◌≤◌, ◌==◌, max, Bool, true, false, if◌then◌else◌, List, [], ◌∷◌, ◌++◌, length, set, Some, refl, sym, ap, ◌∙◌, subst, arith, inl, inr}
use Rattle.std.proofs.lemmas.Bool.{cases_eq, cases_Bool}
use Rattle.std.proofs.lemmas.List.{length_push}
use Rattle.sg_base.specs.Page.{stored, bytes_of}
use Rattle.sg_slotted.proofs.Room.{bytes_of-push}
use Rattle.sg_ops.specs.Laws.{IsLawful}
use Rattle.sg_ops.specs.Table.{Table}
use Rattle.sg_base.specs.Slots.{put_in}
use Rattle.sg_base.specs.Sheet.{Sheet, HasBytes}
use Rattle.sg_base.specs.Op.{Op, is_format, opens, shrinks}
use Rattle.sg_ops.specs.Steps.{step, IsProper}
use Rattle.sg_base.specs.Op.Op.{Format, Put, Remove, Set, Links, Item, ItemBack}
use Rattle.sg_action.specs.States.{State, Change, Kept, step_leaf, made, leaf_count, leaf_stored}
use Rattle.sg_action.specs.States.Change.{Page, Write, Paint}
use Rattle.sg_action.specs.Opened.{formats, in_use, most, IsOpened, IsBegun, HasRoom, AreSmall, HasPlace, HasPlaceFor, ArePlaced, HasGrown, AreFit, TakesTo}
use Rattle.sg_step.proofs.Steps.{slots_some, put_is}
use Rattle.sg_step.proofs.Sizes.{sizes}
use Rattle.sg_action.proofs.Opened.{formats_here, formats_there, formatted, made_here, made_there, use_there, good, most_formatted, most_changed, most_now}
use Rattle.sg_action.proofs.Taking.{takes}

-- A structure that only adds to a page may open slots as they fit
pub grown_has_place : (t : Table) (op : Op) (p new : Sheet) (most : ℕ) → HasGrown most (Some p) → step t op p ≡ Some new → HasPlace most op (Some p)
grown_has_place t (Put slot cell) p new most grown e = λ f q is o.
    let h = slots_some p new (put_in p.slots slot cell) e in
    let g = put_is p.slots new.slots slot cell h.slots in
    let same : p ≡ q = same_sheet p q is in
    let slots : q.slots ≡ p.slots = ap (λ (s : Sheet). s.slots) (sym same) in
    let count : length q.slots ≡ length p.slots = ap length slots in
    let last : (slot == length p.slots) ≡ true = ap (λ (n : ℕ). slot == n) (sym count) ∙ o in
    let pushed : new.slots ≡ p.slots ++ (Some cell ∷ []) = g.is ∙ ap (λ (b : Bool). if b then p.slots ++ (Some cell ∷ []) else set p.slots slot (Some cell)) last in
    let long : length new.slots ≡ length p.slots + 1 = ap length pushed ∙ length_push p.slots (Some cell) in
    let b : bytes_of new.slots ≡ bytes_of p.slots + (4 + length cell) = ap bytes_of pushed ∙ bytes_of-push p.slots (Some cell) in
    let room : bytes_of new.slots ≤ 4072 = g.room in
    omega arith
  where
    same_sheet : (a b : Sheet) → Some a ≡ Some b → a ≡ b
    same_sheet a b e = cc
grown_has_place t (Format kind) p new most grown e = λ f q is o. absurd (cc)
grown_has_place t (Remove slot) p new most grown e = λ f q is o. absurd (cc)
grown_has_place t (Set slot cell) p new most grown e = λ f q is o. absurd (cc)
grown_has_place t (Links ab) p new most grown e = λ f q is o. absurd (cc)
grown_has_place t (Item slot code arg) p new most grown e = λ f q is o. absurd (cc)
grown_has_place t (ItemBack slot code arg) p new most grown e = λ f q is o. absurd (cc)

-- and stays one that only adds
pub grown_grows : (t : Table) → IsLawful t → (op : Op) (p new : Sheet) (most : ℕ) → is_format op ≡ false → HasBytes p → IsProper t op p → step t op p ≡ Some new → shrinks op p ≡ false → HasGrown most (Some p)
    → HasGrown (max most (stored new.slots)) (Some new)
grown_grows t law op p new most plain bytes ok e keeps grown = let s = sizes t law op p new plain bytes ok e in let m : stored p.slots ≤ stored new.slots = s.no_less keeps in omega arith

module _ (t : Table) (law : IsLawful t) (kept : Kept) (begin : State) (first : IsBegun kept begin) where
  -- at the begin
  pub room_first : AreFit kept [] begin → HasRoom t kept begin [] begin
  room_first fit = fit

  -- a page whose number of slots and most bytes don't change
  still : (ds : List Change) (d : Change) (n : ℕ) → HasRoom t kept begin ds (made t begin ds) → in_use kept ds n ≡ true → formats d n ≡ false → (made t begin (d ∷ ds)).pages n ≡ (made t begin ds).pages n
      → 4 * leaf_count ((made t begin (d ∷ ds)).pages n) + most t begin (d ∷ ds) n ≤ 4072
  still ds d n room used plain same =
      let r : 4 * leaf_count ((made t begin ds).pages n) + most t begin ds n ≤ 4072 = room n used in
      let m : most t begin (d ∷ ds) n ≡ max (most t begin ds n) (leaf_stored ((made t begin (d ∷ ds)).pages n)) = most_changed t begin ds d n plain in
      let c : leaf_count ((made t begin (d ∷ ds)).pages n) ≡ leaf_count ((made t begin ds).pages n) = ap leaf_count same in
      let s : leaf_stored ((made t begin (d ∷ ds)).pages n) ≡ leaf_stored ((made t begin ds).pages n) = ap leaf_stored same in
      let had : leaf_stored ((made t begin ds).pages n) ≤ most t begin ds n = most_now t begin ds n in
      omega arith

  -- room is kept by each change that has place
  pub room_more : (ds : List Change) (d : Change) → IsOpened t kept begin (d ∷ ds) → HasRoom t kept begin ds (made t begin ds) → HasPlaceFor t kept begin ds d → HasRoom t kept begin (d ∷ ds) (made t begin (d ∷ ds))
  room_more ds (Write b at before after) h room place n used = still ds (Write b at before after) n room used refl refl
  room_more ds (Paint b at count code position arg before) h room place n used = still ds (Paint b at count code position arg before) n room used refl refl
  room_more ds (Page m op back) h room place n used = elim (cases_eq n m) [
    | inl same ↦ subst (λ (k : ℕ). 4 * leaf_count ((made t begin (Page m op back ∷ ds)).pages k) + most t begin (Page m op back ∷ ds) k ≤ 4072) (sym same) here
    | inr other ↦ still ds (Page m op back) n room (sym (use_there kept ds m n op back other) ∙ used) (formats_there m n op back other) (made_there t (made t begin ds) m n op back other)
  ]
    where
      by_format : is_format op ≡ true → 4 * leaf_count ((made t begin (Page m op back ∷ ds)).pages m) + most t begin (Page m op back ∷ ds) m ≤ 4072
      by_format f =
          let g = formatted t op ((made t begin ds).pages m) f in
          let none : leaf_count ((made t begin (Page m op back ∷ ds)).pages m) ≡ 0 = ap leaf_count (made_here t (made t begin ds) m op back g.0 g.1) ∙ ap length g.2 in
          let zero_most : most t begin (Page m op back ∷ ds) m ≡ 0 = most_formatted t begin ds (Page m op back) m (formats_here m op back ∙ f) in
          omega arith

      by_other : is_format op ≡ false → 4 * leaf_count ((made t begin (Page m op back ∷ ds)).pages m) + most t begin (Page m op back ∷ ds) m ≤ 4072
      by_other f =
          let g = good t law kept begin first ds h.0 m (h.1.changes f) in
          let p : Sheet = g.0 in
          let fit = h.1.fits f p g.1 in
          let new : Sheet = fit.0 in
          let s = sizes t law op p new f g.2 (h.1.proper f p g.1) fit.1 in
          let now : (made t begin (Page m op back ∷ ds)).pages m ≡ Some new = made_here t (made t begin ds) m op back new (ap (step_leaf t op) g.1 ∙ fit.1) in
          let r : 4 * leaf_count ((made t begin ds).pages m) + most t begin ds m ≤ 4072 = room m (h.1.changes f) in
          let had : leaf_stored ((made t begin ds).pages m) ≤ most t begin ds m = most_now t begin ds m in
          let c : leaf_count ((made t begin ds).pages m) ≡ length p.slots = ap leaf_count g.1 in
          let z : leaf_stored ((made t begin ds).pages m) ≡ stored p.slots = ap leaf_stored g.1 in
          let c_new : leaf_count ((made t begin (Page m op back ∷ ds)).pages m) ≡ length new.slots = ap leaf_count now in
          let z_new : leaf_stored ((made t begin (Page m op back ∷ ds)).pages m) ≡ stored new.slots = ap leaf_stored now in
          let more : most t begin (Page m op back ∷ ds) m ≡ max (most t begin ds m) (leaf_stored ((made t begin (Page m op back ∷ ds)).pages m)) = most_changed t begin ds (Page m op back) m (formats_here m op back ∙ f) in
          let fits : 4 * length new.slots + stored new.slots ≤ 4072 = s.fit (omega arith) in
          let enough : 4 * length new.slots + most t begin ds m ≤ 4072 = elim (cases_Bool (opens op p)) [
            | inl o ↦ let q : 4 * (length p.slots + 1) + most t begin ds m ≤ 4072 = place.0 f p g.1 o in let l : length new.slots ≡ length p.slots + 1 = s.opened o in omega arith
            | inr o ↦ let l : length new.slots ≡ length p.slots = s.none_opened o in omega arith
          ] in
          omega arith

      here : 4 * leaf_count ((made t begin (Page m op back ∷ ds)).pages m) + most t begin (Page m op back ∷ ds) m ≤ 4072
      here = elim (cases_Bool (is_format op)) [
        | inl f ↦ by_format f
        | inr f ↦ by_other f
      ]

  -- the number of slots of each page stays one that it may have
  small_more : (ds : List Change) (d : Change) → IsOpened t kept begin (d ∷ ds) → AreSmall kept begin (made t begin ds) → HasPlaceFor t kept begin ds d → AreSmall kept begin (made t begin (d ∷ ds))
  small_more ds (Write b at before after) h small place n k b_small = small n k b_small
  small_more ds (Paint b at count code position arg before) h small place n k b_small = small n k b_small
  small_more ds (Page m op back) h small place n k b_small = elim (cases_eq n m) [
    | inl same ↦ subst (λ (j : ℕ). leaf_count ((made t begin (Page m op back ∷ ds)).pages j) ≤ kept.slots j) (sym same) (here (ap kept.pages (sym same) ∙ k) (small m (ap kept.pages (sym same) ∙ k) (subst (λ (j : ℕ). leaf_count (begin.pages j) ≤ kept.slots j) same b_small)))
    | inr other ↦ subst (λ (c : ℕ). c ≤ kept.slots n) (sym (ap leaf_count (made_there t (made t begin ds) m n op back other))) (small n k b_small)
  ]
    where
      here : kept.pages m ≡ true → leaf_count ((made t begin ds).pages m) ≤ kept.slots m → leaf_count ((made t begin (Page m op back ∷ ds)).pages m) ≤ kept.slots m
      here k before = elim (cases_Bool (is_format op)) [
        | inl f ↦
            let g = formatted t op ((made t begin ds).pages m) f in
            let none : leaf_count ((made t begin (Page m op back ∷ ds)).pages m) ≡ 0 = ap leaf_count (made_here t (made t begin ds) m op back g.0 g.1) ∙ ap length g.2 in
            omega arith
        | inr f ↦
            let g = good t law kept begin first ds h.0 m (h.1.changes f) in
            let fit = h.1.fits f g.0 g.1 in
            let s = sizes t law op g.0 fit.0 f g.2 (h.1.proper f g.0 g.1) fit.1 in
            let now : leaf_count ((made t begin (Page m op back ∷ ds)).pages m) ≡ length fit.0.slots = ap leaf_count (made_here t (made t begin ds) m op back fit.0 (ap (step_leaf t op) g.1 ∙ fit.1)) in
            let was : leaf_count ((made t begin ds).pages m) ≡ length g.0.slots = ap leaf_count g.1 in
            elim (cases_Bool (opens op g.0)) [
              | inl o ↦ let l : length fit.0.slots ≡ length g.0.slots + 1 = s.opened o in let q : length g.0.slots + 1 ≤ kept.slots m = place.1 k f g.0 g.1 o in omega arith
              | inr o ↦ let l : length fit.0.slots ≡ length g.0.slots = s.none_opened o in omega arith
            ]
      ]

  -- what holds of an action whose changes had their places
  pub record Goes (ds : List Change) : Type 0 where
    pub room : HasRoom t kept begin ds (made t begin ds)
    pub small : AreSmall kept begin (made t begin ds)

  pub goes_first : AreFit kept [] begin → Goes []
  goes_first fit = record { room = fit; small = λ n k b. b }

  pub goes_more : (ds : List Change) (d : Change) → IsOpened t kept begin (d ∷ ds) → Goes ds → HasPlaceFor t kept begin ds d → Goes (d ∷ ds)
  goes_more ds d h g place = record { room = room_more ds d h g.room place; small = small_more ds d h g.small place }

  -- one change more keeps the promise
  pub takes_more : (ds : List Change) (d : Change) → IsOpened t kept begin (d ∷ ds) → Goes ds → HasPlaceFor t kept begin ds d → TakesTo t kept begin (d ∷ ds) (made t begin (d ∷ ds))
  takes_more ds d h g place = let m = goes_more ds d h g place in takes t law kept begin first (d ∷ ds) h m.room m.small

  -- so EACH ACTION whose changes had their places is taken off
  pub goes_all : (ds : List Change) → IsOpened t kept begin ds → AreFit kept [] begin → ArePlaced t kept begin ds → Goes ds
  goes_all [] h fit placed = goes_first fit
  goes_all (d ∷ ds) h fit placed = goes_more ds d h (goes_all ds h.0 fit placed.0) placed.1

  pub takes_all : (ds : List Change) → IsOpened t kept begin ds → AreFit kept [] begin → ArePlaced t kept begin ds → TakesTo t kept begin ds (made t begin ds)
  takes_all ds h fit placed = let g = goes_all ds h fit placed in takes t law kept begin first ds h g.room g.small

-- the clause of a space, with actions or without: what the page had most is between what it has now and the greater of that and what it had. So a page that has only grown stays one.
pub grown_keeps : (most next : ℕ) (p new : Sheet) → HasGrown most (Some p) → stored p.slots ≤ stored new.slots → stored new.slots ≤ next → next ≤ max most (stored new.slots) → HasGrown next (Some new)
grown_keeps most next p new grown more low high = omega arith

-- each front of the log within the action keeps the promise
pub takes_front : (t : Table) → IsLawful t → (kept : Kept) (begin : State) → IsBegun kept begin → AreFit kept [] begin → (later ds : List Change) → IsOpened t kept begin (later ++ ds) → ArePlaced t kept begin (later ++ ds)
    → TakesTo t kept begin ds (made t begin ds)
takes_front t law kept begin first fit [] ds h placed = takes_all t law kept begin first ds h fit placed
takes_front t law kept begin first fit (d ∷ later) ds h placed = takes_front t law kept begin first fit later ds h.0 placed.0
