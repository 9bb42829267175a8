-- An open action is taken off.
use Rattle.std.proofs.Common.{◌≡◌, ◌≢◌, ℕ, ◌+◌, ◌*◌, ◌≤◌, max, Bool, true, false, cond, if◌then◌else◌, List, [], ◌∷◌, length, Option, Some, None, is_some, option_map, IfSome, refl, sym, ap, ◌∙◌, subst, arith, inl, inr}
use Rattle.std.proofs.lemmas.Bool.{cases_eq, cases_Bool}
use Rattle.sg_base.specs.Page.{stored}
use Rattle.sg_base.specs.Bytes.{IsBytes}
use Rattle.sg_ops.specs.Laws.{IsLawful}
use Rattle.sg_ops.specs.Table.{Table, range_at, rendered}
use Rattle.sg_base.specs.Overwritten.{overwritten}
use Rattle.sg_base.specs.Sheet.{Sheet, Seen, seen}
use Rattle.sg_base.specs.Op.{Op, is_format}
use Rattle.sg_ops.specs.Steps.{step}
use Rattle.sg_base.specs.Op.Op.{Format}
use Rattle.sg_action.specs.States.{State, Change, Kept, Alike, with_one, step_leaf, made, apply, fits, inverse_of, all_off, leaf_count, leaf_stored}
use Rattle.sg_action.specs.States.Change.{Page, Write, Paint}
use Rattle.sg_action.specs.Opened.{formats, in_use, most, IsPageChange, StoodThere, IsOpened, IsBegun, HasRoom, AreSmall, TakesTo}
use Rattle.sg_step.proofs.Back.{back as back_fits}
use Rattle.sg_step.proofs.Sizes.{sizes}
use Rattle.sg_ops.proofs.Rendering.{length-rendered}
use Rattle.sg_action.proofs.WrittenBack.{overwritten_back}
use Rattle.sg_action.proofs.Opened.{one_here, one_there, formats_here, formats_there, formatted, made_here, made_there, use_there, use_more, good, most_changed, most_now}

-- a page that is as another, with no fewer slots
pub record IsWide (p q : Sheet) : Type 0 where
  pub alike : seen q ≡ seen p
  pub long : length p.slots ≤ length q.slots

-- so is each page in use, and the bands are the same
pub record AreWide (kept : Kept) (ds : List Change) (x y : State) : Type 0 where
  pub pages : (n : ℕ) → in_use kept ds n ≡ true → (p : Sheet) → x.pages n ≡ Some p → (q : Sheet) × (y.pages n ≡ Some q) × IsWide p q
  pub bands : (b : ℕ) → kept.bands b ≡ true → y.bands b ≡ x.bands b

-- what taking off leaves
pub record IsOff (t : Table) (kept : Kept) (begin : State) (ds : List Change) (y : State) : Type 0 where
  pub end : State
  pub off : all_off t ds y ≡ Some end
  pub wide : AreWide kept [] begin end
  pub slots : (n : ℕ) → kept.pages n ≡ true → leaf_count (end.pages n) ≡ leaf_count (y.pages n)

kept_used : (kept : Kept) (ds : List Change) (n : ℕ) → kept.pages n ≡ true → in_use kept ds n ≡ true
kept_used kept [] n e = e
kept_used kept (d ∷ ds) n e = use_more kept ds d n (kept_used kept ds n e)

same_some : (a b : Sheet) → Some a ≡ Some b → a ≡ b
same_some a b e = cc

module _ (t : Table) (law : IsLawful t) (kept : Kept) (begin : State) (first : IsBegun kept begin) where
  -- one inverse that fits, and the rest
  one_off : (ds : List Change) (d : Change) (y : State) → fits t y (inverse_of d) ≡ true → ((n : ℕ) → kept.pages n ≡ true → leaf_count ((apply t y (inverse_of d)).pages n) ≡ leaf_count (y.pages n))
      → IsOff t kept begin ds (apply t y (inverse_of d)) → IsOff t kept begin (d ∷ ds) y
  one_off ds d y f slots r =
      record { end = r.end; off = ap (λ (b : Bool). if b then all_off t ds (apply t y (inverse_of d)) else None) f ∙ r.off; wide = r.wide; slots = λ n k. r.slots n k ∙ slots n k }

  -- what the inverse of one page's record does to a state that is as the one after it
  pub record IsPageOff (ds : List Change) (x : State) (m : ℕ) (op back : Op) (y : State) : Type 0 where
    pub fits : is_some (step_leaf t back (y.pages m)) ≡ true
    pub wide : AreWide kept ds x (apply t y (Page m back op))
    pub slots : (n : ℕ) → in_use kept ds n ≡ true → leaf_count ((apply t y (Page m back op)).pages n) ≡ leaf_count (y.pages n)

  -- the page's directory has room for the cells before the record
  abbrev pub HasRoomBack : Op → Option Sheet → Option Sheet → Type 0
  HasRoomBack op before now = is_format op ≡ false → (p : Sheet) → before ≡ Some p → 4 * leaf_count now + stored p.slots ≤ 4072

  page_off : (ds : List Change) → IsOpened t kept begin ds → (m : ℕ) (op back : Op) → IsPageChange t (in_use kept ds m) op back ((made t begin ds).pages m) → (y : State)
      → AreWide kept (Page m op back ∷ ds) (made t begin (Page m op back ∷ ds)) y → HasRoomBack op ((made t begin ds).pages m) (y.pages m) → IsPageOff ds (made t begin ds) m op back y
  page_off ds h m op back c y wide room = elim (cases_Bool (is_format op)) [
    | inl f ↦ at_format f
    | inr f ↦ at_other f
  ]
    where
      other_page : (n : ℕ) → in_use kept ds n ≡ true → n ≢ m → (p : Sheet) → (made t begin ds).pages n ≡ Some p → (q : Sheet) × ((apply t y (Page m back op)).pages n ≡ Some q) × IsWide p q
      other_page n used other p e =
          let w = wide.pages n (use_there kept ds m n op back other ∙ used) p (made_there t (made t begin ds) m n op back other ∙ e) in
          (w.0, made_there t y m n back op other ∙ w.1, w.2)

      at_format : is_format op ≡ true → IsPageOff ds (made t begin ds) m op back y
      at_format f =
          let fresh : in_use kept ds m ≡ false = (c.takes f).0 in
          let is : back ≡ Format 0 = (c.takes f).1 in
          let g = formatted t back (y.pages m) (ap is_format is) in
          let apart : (n : ℕ) → in_use kept ds n ≡ true → n ≢ m = λ n used same. absurd (two_ways (in_use kept ds m) fresh (ap (in_use kept ds) (sym same) ∙ used)) in
          record {
            fits = ap is_some g.1;
            wide = record { pages = λ n used p e. other_page n used (apart n used) p e; bands = wide.bands };
            slots = λ n used. ap leaf_count (made_there t y m n back op (apart n used));
          }
        where
          two_ways : (b : Bool) → b ≡ false → b ≡ true → ⊥
          two_ways b e f = cc

      at_other : is_format op ≡ false → IsPageOff ds (made t begin ds) m op back y
      at_other f =
          let g = good t law kept begin first ds h m (c.changes f) in
          let p : Sheet = g.0 in
          let fit = c.fits f p g.1 in
          let new : Sheet = fit.0 in
          let proper = c.proper f p g.1 in
          let after : (made t begin (Page m op back ∷ ds)).pages m ≡ Some new = made_here t (made t begin ds) m op back new (ap (step_leaf t op) g.1 ∙ fit.1) in
          let used : in_use kept (Page m op back ∷ ds) m ≡ true = use_more kept ds (Page m op back) m (c.changes f) in
          let w = wide.pages m used new after in
          let q : Sheet = w.0 in
          let s = sizes t law op p new f g.2 proper fit.1 in
          let no_fewer : length p.slots ≤ length new.slots = s.no_fewer in
          let longer : length new.slots ≤ length q.slots = w.2.long in
          let enough : 4 * leaf_count (y.pages m) + stored p.slots ≤ 4072 = room f p g.1 in
          let count : leaf_count (y.pages m) ≡ length q.slots = ap leaf_count w.1 in
          let b = back_fits t law op p new q f g.2 proper fit.1 w.2.alike (omega arith) (omega arith) in
          let does : step_leaf t back (y.pages m) ≡ Some b.end = ap (step_leaf t back) w.1 ∙ (ap (λ (o : Op). step t o q) (c.holds f p g.1) ∙ b.done) in
          let size : length b.end.slots ≡ length q.slots = b.long in
          let wider : length p.slots ≤ length b.end.slots = omega arith in
          let there : (apply t y (Page m back op)).pages m ≡ Some b.end = made_here t y m back op b.end does in
          record {
            fits = ap is_some does;
            wide = record { pages = λ n u r e. each n u r e b.end there p b.alike wider g.1; bands = wide.bands };
            slots = λ n u. each_slots n b.end there (b.long ∙ sym count);
          }
        where
          each : (n : ℕ) → in_use kept ds n ≡ true → (r : Sheet) → (made t begin ds).pages n ≡ Some r → (end : Sheet) → (apply t y (Page m back op)).pages m ≡ Some end
              → (p : Sheet) → seen end ≡ seen p → length p.slots ≤ length end.slots → (made t begin ds).pages m ≡ Some p
              → (q : Sheet) × ((apply t y (Page m back op)).pages n ≡ Some q) × IsWide r q
          each n u r e end there p alike long was = elim (cases_eq n m) [
            | inl same ↦
                let rp : r ≡ p = same_some r p (sym e ∙ (ap (λ (k : ℕ). (made t begin ds).pages k) same ∙ was)) in
                let size : length r.slots ≡ length p.slots = ap (λ (z : Sheet). length z.slots) rp in
                (end, ap (λ (k : ℕ). (apply t y (Page m back op)).pages k) same ∙ there, record { alike = alike ∙ ap seen (sym rp); long = omega arith })
            | inr other ↦ other_page n u other r e
          ]

          each_slots : (n : ℕ) (end : Sheet) → (apply t y (Page m back op)).pages m ≡ Some end → length end.slots ≡ leaf_count (y.pages m) → leaf_count ((apply t y (Page m back op)).pages n) ≡ leaf_count (y.pages n)
          each_slots n end there long = elim (cases_eq n m) [
            | inl same ↦ ap (λ (k : ℕ). leaf_count ((apply t y (Page m back op)).pages k)) same ∙ (ap leaf_count there ∙ (long ∙ ap (λ (k : ℕ). leaf_count (y.pages k)) (sym same)))
            | inr other ↦ ap leaf_count (made_there t y m n back op other)
          ]

  -- the room of the earlier records
  room_less : (ds : List Change) (d : Change) (y z : State) → HasRoom t kept begin (d ∷ ds) y → ((n : ℕ) → in_use kept ds n ≡ true → leaf_count (z.pages n) ≡ leaf_count (y.pages n)) → ((n : ℕ) → in_use kept ds n ≡ true → formats d n ≡ false)
      → HasRoom t kept begin ds z
  room_less ds d y z room slots plain n used =
      let r : 4 * leaf_count (y.pages n) + most t begin (d ∷ ds) n ≤ 4072 = room n (use_more kept ds d n used) in
      let s : leaf_count (z.pages n) ≡ leaf_count (y.pages n) = slots n used in
      let m : most t begin (d ∷ ds) n ≡ max (most t begin ds n) (leaf_stored ((made t begin (d ∷ ds)).pages n)) = most_changed t begin ds d n (plain n used) in
      omega arith

  -- no page in use is taken
  never_taken : (ds : List Change) (m : ℕ) (op back : Op) → IsPageChange t (in_use kept ds m) op back ((made t begin ds).pages m) → (n : ℕ) → in_use kept ds n ≡ true → formats (Page m op back) n ≡ false
  never_taken ds m op back c n used = elim (cases_eq n m) [
    | inl same ↦ elim (cases_Bool (is_format op)) [
      | inl f ↦ let fresh : in_use kept ds m ≡ false = (c.takes f).0 in let there : in_use kept ds m ≡ true = ap (in_use kept ds) (sym same) ∙ used in absurd (cc)
      | inr f ↦ ap (formats (Page m op back)) same ∙ (formats_here m op back ∙ f)
    ]
    | inr other ↦ formats_there m n op back other
  ]

  -- the bands once a write is taken off
  band_off : (x y : State) (b : ℕ) (after before : List ℕ) (at count : ℕ) → length after ≡ count → StoodThere (x.bands b) at count before
      → ((c : ℕ) → kept.bands c ≡ true → y.bands c ≡ with_one x.bands b (overwritten (x.bands b) at after) c) → (c : ℕ) → kept.bands c ≡ true → with_one y.bands b (overwritten (y.bands b) at before) c ≡ x.bands c
  band_off x y b after before at count size h same c k = elim (cases_eq c b) [
    | inl is ↦
        let now : y.bands b ≡ overwritten (x.bands b) at after = same b (ap kept.bands (sym is) ∙ k) ∙ one_here x.bands b (overwritten (x.bands b) at after) in
        ap (λ (n : ℕ). with_one y.bands b (overwritten (y.bands b) at before) n) is
        ∙ (one_here y.bands b (overwritten (y.bands b) at before)
        ∙ (ap (λ (xs : List ℕ). overwritten xs at before) now ∙ (overwritten_back (x.bands b) after before at count size h ∙ ap x.bands (sym is))))
    | inr other ↦ one_there y.bands b c (overwritten (y.bands b) at before) other ∙ (same c k ∙ one_there x.bands b c (overwritten (x.bands b) at after) other)
  ]

  -- one inverse, on a state that is as the one that the open records left
  pub record IsOneBack (ds : List Change) (d : Change) (y : State) : Type 0 where
    pub fits : fits t y (inverse_of d) ≡ true
    pub wide : AreWide kept ds (made t begin ds) (apply t y (inverse_of d))
    pub slots : (n : ℕ) → in_use kept ds n ≡ true → leaf_count ((apply t y (inverse_of d)).pages n) ≡ leaf_count (y.pages n)
    pub plain : (n : ℕ) → in_use kept ds n ≡ true → formats d n ≡ false

  -- the room for it
  abbrev pub IsRoomy : List Change → Change → State → Type 0
  IsRoomy ds (Page m op back) y = HasRoomBack op ((made t begin ds).pages m) (y.pages m)
  IsRoomy ds (Write b at before after) y = Unit {0}
  IsRoomy ds (Paint b at count code position arg before) y = Unit {0}

  pub one_back : (ds : List Change) (d : Change) → IsOpened t kept begin (d ∷ ds) → (y : State) → AreWide kept (d ∷ ds) (made t begin (d ∷ ds)) y → IsRoomy ds d y → IsOneBack ds d y
  one_back ds (Page m op back) h y wide room =
      let o = page_off ds h.0 m op back h.1 y wide room in
      record { fits = o.fits; wide = o.wide; slots = o.slots; plain = never_taken ds m op back h.1 }
  one_back ds (Write b at before after) h y wide room =
      record { fits = refl; wide = record { pages = wide.pages; bands = band_off (made t begin ds) y b after before at (length after) refl h.1 wide.bands }; slots = λ n u. refl; plain = λ n u. refl }
  one_back ds (Paint b at count code position arg []) h y wide room =
      record {
        fits = refl;
        slots = λ n u. refl;
        plain = λ n u. refl;
        wide = record {
          pages = wide.pages;
          bands = λ c k.
              let other : c ≢ b = λ same. absurd (two_ways (kept.bands b) h.1 (ap kept.bands (sym same) ∙ k)) in
              one_there y.bands b c (overwritten (y.bands b) at (rendered (range_at t code) arg position count)) other
              ∙ (wide.bands c k ∙ one_there (made t begin ds).bands b c (overwritten ((made t begin ds).bands b) at (rendered (range_at t code) arg position count)) other);
        };
      }
    where
      two_ways : (b : Bool) → b ≡ false → b ≡ true → ⊥
      two_ways b e f = cc
  one_back ds (Paint b at count code position arg (v ∷ before)) h y wide room =
      record {
        fits = refl;
        slots = λ n u. refl;
        plain = λ n u. refl;
        wide = record { pages = wide.pages; bands = band_off (made t begin ds) y b (rendered (range_at t code) arg position count) (v ∷ before) at count (length-rendered (range_at t code) arg position count) h.1 wide.bands };
      }

  -- the room of all records is room for the last one's inverse
  pub room_last : (ds : List Change) (d : Change) (y : State) → IsOpened t kept begin (d ∷ ds) → HasRoom t kept begin (d ∷ ds) y → IsRoomy ds d y
  room_last ds (Write b at before after) y h room = tt
  room_last ds (Paint b at count code position arg before) y h room = tt
  room_last ds (Page m op back) y h room = λ f p e.
      let r : 4 * leaf_count (y.pages m) + most t begin (Page m op back ∷ ds) m ≤ 4072 = room m (use_more kept ds (Page m op back) m (h.1.changes f)) in
      let had : leaf_stored ((made t begin ds).pages m) ≤ most t begin ds m = most_now t begin ds m in
      let cells : leaf_stored ((made t begin ds).pages m) ≡ stored p.slots = ap leaf_stored e in
      let more : most t begin (Page m op back ∷ ds) m ≡ max (most t begin ds m) (leaf_stored ((made t begin (Page m op back ∷ ds)).pages m)) = most_changed t begin ds (Page m op back) m (formats_here m op back ∙ f) in
      omega arith

  -- a stop within a TAKE-OFF: what is left to take off stands as before, after each phys-comp
  pub record IsWithin (ds : List Change) (y : State) : Type 0 where
    pub wide : AreWide kept ds (made t begin ds) y
    pub room : HasRoom t kept begin ds y
    pub small : AreSmall kept begin y

  pub comp_fits : (ds : List Change) (d : Change) (y : State) → IsOpened t kept begin (d ∷ ds) → IsWithin (d ∷ ds) y → fits t y (inverse_of d) ≡ true
  comp_fits ds d y h w = (one_back ds d h y w.wide (room_last ds d y h w.room)).fits

  pub comp_keeps : (ds : List Change) (d : Change) (y : State) → IsOpened t kept begin (d ∷ ds) → IsWithin (d ∷ ds) y → IsWithin ds (apply t y (inverse_of d))
  comp_keeps ds d y h w =
      let o = one_back ds d h y w.wide (room_last ds d y h w.room) in
      record {
        wide = o.wide;
        room = room_less ds d y (apply t y (inverse_of d)) w.room o.slots o.plain;
        small = λ n k b. subst (λ (c : ℕ). c ≤ kept.slots n) (sym (o.slots n (kept_used kept ds n k))) (w.small n k b);
      }

  -- all inverses fit, from the last back, on each state that is as the one that the action left and has its room; they leave the pages as they were at its begin
  pub all_fit : (ds : List Change) → IsOpened t kept begin ds → (y : State) → IsWithin ds y → IsOff t kept begin ds y
  all_fit [] h y w = record { end = y; off = refl; wide = w.wide; slots = λ n k. refl }
  all_fit (d ∷ ds) h y w =
      let o = one_back ds d h y w.wide (room_last ds d y h w.room) in
      one_off ds d y o.fits (λ n k. o.slots n (kept_used kept ds n k)) (all_fit ds h.0 (apply t y (inverse_of d)) (comp_keeps ds d y h w))

  same_wide : (ds : List Change) (x : State) → AreWide kept ds x x
  same_wide ds x = record { pages = λ n u p e. (p, e, record { alike = refl; long = omega arith }); bands = λ b k. refl }

  -- the promise holds of what an open action left, and also of what a stop within its take-off left
  pub within_takes : (ds : List Change) → IsOpened t kept begin ds → (y : State) → IsWithin ds y → TakesTo t kept begin ds y
  within_takes ds h y w =
      let o = all_fit ds h y w in
      record {
        end = o.end;
        off = o.off;
        alike = record {
          pages = λ n k. let g = first n k in let v = o.wide.pages n k g.0 g.1 in ap (option_map seen) v.1 ∙ (ap (λ (s : Seen). Some s) v.2.alike ∙ ap (option_map seen) (sym g.1));
          slots = λ n k b. subst (λ (c : ℕ). c ≤ kept.slots n) (sym (o.slots n k)) (w.small n k b);
          bands = o.wide.bands;
        };
      }

  pub open_within : (ds : List Change) → HasRoom t kept begin ds (made t begin ds) → AreSmall kept begin (made t begin ds) → IsWithin ds (made t begin ds)
  open_within ds room small = record { wide = same_wide ds (made t begin ds); room = room; small = small }

  pub takes : (ds : List Change) → IsOpened t kept begin ds → HasRoom t kept begin ds (made t begin ds) → AreSmall kept begin (made t begin ds) → TakesTo t kept begin ds (made t begin ds)
  takes ds h room small = within_takes ds h (made t begin ds) (open_within ds room small)

then_rest : {X : Type 0} (b : Bool) (o : Option X) (y : X) → cond b o None ≡ Some y → (b ≡ true) × (o ≡ Some y)
then_rest true o y e = (refl, e)
then_rest false o y e = absurd (cc)

-- one PHYS-COMP LESS TO WRITE: from the promise alone, as an opening has it. It fits, and the promise stands for the rest.
pub less_fits : (t : Table) (kept : Kept) (begin : State) (ds : List Change) (d : Change) (x : State) → TakesTo t kept begin (d ∷ ds) x → fits t x (inverse_of d) ≡ true
less_fits t kept begin ds d x h = (then_rest (fits t x (inverse_of d)) (all_off t ds (apply t x (inverse_of d))) h.end h.off).0

pub takes_less : (t : Table) (kept : Kept) (begin : State) (ds : List Change) (d : Change) (x : State) → TakesTo t kept begin (d ∷ ds) x → TakesTo t kept begin ds (apply t x (inverse_of d))
takes_less t kept begin ds d x h = record { end = h.end; off = (then_rest (fits t x (inverse_of d)) (all_off t ds (apply t x (inverse_of d))) h.end h.off).1; alike = h.alike }

some_seen : (o : Option Sheet) (s : Seen) → option_map seen o ≡ Some s → (q : Sheet) × (o ≡ Some q) × (seen q ≡ s)
some_seen None s e = absurd (cc)
some_seen (Some q) s e = (q, refl, cc)

-- what a take-off leaves is a begin for the next action
pub begun_again : (kept : Kept) (begin end : State) → IsBegun kept begin → Alike kept end begin → IsBegun kept end
begun_again kept begin end first alike n k =
    let g = first n k in
    let q = some_seen (end.pages n) (seen g.0) (alike.pages n k ∙ ap (option_map seen) g.1) in
    (q.0, q.1, subst (λ (s : Seen). (slot : ℕ) → IfSome (s.cells slot) IsBytes) (sym q.2) g.2)
