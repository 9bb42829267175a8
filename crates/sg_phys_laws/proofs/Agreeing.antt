-- THE JOINT of pages with numbers and pages without.
use Rattle.std.proofs.Common.{◌≡◌, ◌≢◌, ℕ, ◌+◌, ◌≤◌, ◌==◌, ◌⊎◌, inl, inr, ⊎_elim, true, false, List, [], ◌∷◌, ◌++◌, length, Option, Some, None, refl, sym, ap, ◌∙◌, subst, arith}
use Rattle.std.proofs.lemmas.Bool.{cases_eq}
use Rattle.std.proofs.lemmas.List.{append_assoc, append_cancel_left}
use Rattle.std.proofs.lemmas.Bool.Decides.{nat_tests}
use Rattle.sg_base.specs.Op.{Op}
use Rattle.sg_base.specs.Overwritten.{overwritten}
use Rattle.sg_base.specs.Sheet.{Sheet}
use Rattle.sg_base.specs.declared.page.TheConstants.{BAND_SIZE}
use Rattle.sg_log.specs.Frames.{Numbered}
use Rattle.sg_ops.specs.Table.{Table, range_at, rendered}
use Rattle.sg_record.specs.Changes.{Change as Changing}
use Rattle.sg_record.specs.Changes.Change.{Page as PageChanged, SegWrite, SegOp}
use Rattle.sg_record.specs.Records.{Says}
use Rattle.sg_record.specs.Records.Says.{Begin, Changed, TopEnd, PhysComp, TopVoid, CompEnd, Save, Commit, End, Checkpoint}
use Rattle.sg_redo.specs.History.{OnPage, OnByte, redone, repeated as page_repeated, rewritten}
use Rattle.sg_redo.specs.Page.{made, on_page}
use Rattle.sg_redo.specs.Places.{op_said, changed_by}
use Rattle.sg_redo.specs.Window.{OnWindow, on_byte}
use Rattle.sg_action.specs.States.{State, apply, step_leaf, or_same, with_one}
use Rattle.sg_action.specs.States.Change.{Page}
use Rattle.sg_engine.specs.Effects.{IsBy, effect_of}
use Rattle.sg_engine.specs.Engine.{Origin, entry_of, entries}
use Rattle.sg_engine.specs.History.{Effect, ChangesPage, ChangesBand, ChangesNothing, Entry, Homes, of_page, of_byte, page_change, byte_change}
use Rattle.sg_engine.proofs.Logs.{entries_append}
use Rattle.sg_engine.proofs.Steps.{split_page, split_byte, repeated_append, rewritten_append}
use Rattle.sg_actions.specs.Changes.{meaning, back_said}
use Rattle.sg_actions.specs.Steps.{Step, Steps, step_of, step_by, with_step, repeated}
use Rattle.sg_redo.specs.Leaf.{leaf_of}
use Rattle.sg_redo.proofs.Saying.{leaf_follows}
use Rattle.sg_phys_laws.specs.Listed.{listed}
use Rattle.sg_phys_laws.specs.States.{state_of, steps_of, steps_on, homes_of, unsaid, Agrees, IsDoable, AllAgree, IsChangeable, IsNext}
use Rattle.sg_phys_laws.proofs.Listing.{same-listed, listed_after}
use Rattle.sg_phys_laws.proofs.Stepping.{steps_more}

abbrev state : (ℕ → Option Sheet) → (ℕ → List ℕ) → State
state f bs = record { size = unsaid; pages = f; bands = bs }

same_state : (f g : ℕ → Option Sheet) (bs cs : ℕ → List ℕ) → f ≡ g → bs ≡ cs → state f bs ≡ state g cs
same_state f g bs cs a b = ap (λ (h : ℕ → Option Sheet). state h bs) a ∙ ap (λ (ds : ℕ → List ℕ). state g ds) b

same_test : (m n : ℕ) → m ≡ n → (m == n) ≡ true
same_test m n e = grind (arith, nat_tests, e)

other_test : (m n : ℕ) → m ≢ n → (m == n) ≡ false
other_test m n e = grind (arith, nat_tests, e)

module _ (o : Origin) (ns : List Numbered) (x : Numbered) where
  abbrev es : List Entry
  es = entries o ns

  abbrev before : Homes
  before = homes_of o ns

  abbrev after : Homes
  after = homes_of o (ns ++ x ∷ [])

  page_after : (n : ℕ) (e : Effect) → o.effect x.lsn x.is ≡ e → after.page n ≡ page_repeated (page_change n x.lsn e) (before.page n)
  page_after n e is =
      ap (λ (l : List Entry). page_repeated (of_page n l) (o.first.page n)) (entries_append o ns (x ∷ []))
      ∙ (ap (λ (rs : List OnPage). page_repeated rs (o.first.page n)) (split_page n es (entry_of o x))
      ∙ (repeated_append (of_page n es) (page_change n x.lsn (o.effect x.lsn x.is)) (o.first.page n)
      ∙ ap (λ (f : Effect). page_repeated (page_change n x.lsn f) (before.page n)) is))

  byte_after : (b i : ℕ) (e : Effect) → o.effect x.lsn x.is ≡ e → after.byte b i ≡ rewritten (byte_change b i x.lsn e) (before.byte b i)
  byte_after b i e is =
      ap (λ (l : List Entry). rewritten (of_byte b i l) (o.first.byte b i)) (entries_append o ns (x ∷ []))
      ∙ (ap (λ (rs : List OnByte). rewritten rs (o.first.byte b i)) (split_byte b i es (entry_of o x))
      ∙ (rewritten_append (of_byte b i es) (byte_change b i x.lsn (o.effect x.lsn x.is)) (o.first.byte b i)
      ∙ ap (λ (f : Effect). rewritten (byte_change b i x.lsn f) (before.byte b i)) is))

  -- A CHANGE OF A PAGE
  page_step : (t : Table) (p : ℕ) (op back : Op) → o.effect x.lsn x.is ≡ ChangesPage p (made t x.lsn op) → IsDoable t x.lsn op (before.page p) → state_of after ≡ apply t (state_of before) (Page p op back)
  page_step t p op back is ok = same_state (state_of after).pages (apply t (state_of before) (Page p op back)).pages (state_of after).bands (state_of before).bands (λ k n. at n k) (λ k b. band b k)
    where
      at : (n : ℕ) → leaf_of (after.page n) ≡ with_one (state_of before).pages p (or_same (step_leaf t op (leaf_of (before.page p))) (leaf_of (before.page p))) n
      at n = ⊎_elim
          (λ same. let this = same_test p n same in let that = same_test n p (sym same) in
          rw that (ap leaf_of (page_after n (ChangesPage p (made t x.lsn op)) is ∙ rw this (ap (λ (m : ℕ). redone (on_page t x.lsn op) (before.page m)) (sym same)))
          ∙ leaf_follows t x.lsn op (before.page p) ok.lawful ok.brings ok.links ok.bytes ok.size ok.due))
          (λ other. let this = other_test p n other in let that = other_test n p (λ e. other (sym e)) in
          rw that (ap leaf_of (page_after n (ChangesPage p (made t x.lsn op)) is ∙ rw this refl)))
          (cases_eq p n)

      band : (b : ℕ) → listed BAND_SIZE (after.byte b) ≡ listed BAND_SIZE (before.byte b)
      band b = same-listed BAND_SIZE (after.byte b) (before.byte b) (λ i lt. byte_after b i (ChangesPage p (made t x.lsn op)) is)

  -- BYTES OF A BAND
  band_step : (b at : ℕ) (bytes : List ℕ) → o.effect x.lsn x.is ≡ ChangesBand b at bytes → at + length bytes ≤ BAND_SIZE → state_of after ≡ record (state_of before) { bands = with_one (state_of before).bands b (overwritten ((state_of before).bands b) at bytes) }
  band_step b at bytes is lies = same_state (state_of after).pages (state_of before).pages (state_of after).bands (with_one (state_of before).bands b (overwritten ((state_of before).bands b) at bytes)) (λ k n. page n k) (λ k c. band c k)
    where
      page : (n : ℕ) → leaf_of (after.page n) ≡ leaf_of (before.page n)
      page n = ap leaf_of (page_after n (ChangesBand b at bytes) is)

      w : OnWindow
      w = record { lsn = x.lsn; at = at; bytes = bytes }

      band : (c : ℕ) → listed BAND_SIZE (after.byte c) ≡ with_one (state_of before).bands b (overwritten ((state_of before).bands b) at bytes) c
      band c = ⊎_elim
          (λ same. let this = same_test b c same in let that = same_test c b (sym same) in
          rw that (same-listed BAND_SIZE (after.byte c) (λ i. rewritten (on_byte i (w ∷ [])) (before.byte b i))
          (λ i lt. byte_after c i (ChangesBand b at bytes) is ∙ rw this (ap (λ (m : ℕ). rewritten (on_byte i (w ∷ [])) (before.byte m i)) (sym same)))
          ∙ listed_after BAND_SIZE (before.byte b) w lies))
          (λ other. let this = other_test b c other in let that = other_test c b (λ e. other (sym e)) in
          rw that (same-listed BAND_SIZE (after.byte c) (before.byte c) (λ i lt. byte_after c i (ChangesBand b at bytes) is ∙ rw this refl)))
          (cases_eq b c)

  -- NEITHER
  same_step : o.effect x.lsn x.is ≡ ChangesNothing → state_of after ≡ state_of before
  same_step is = same_state (state_of after).pages (state_of before).pages (state_of after).bands (state_of before).bands
      (λ k n. page n k) (λ k b. band b k)
    where
      page : (n : ℕ) → leaf_of (after.page n) ≡ leaf_of (before.page n)
      page n = ap leaf_of (page_after n ChangesNothing is)

      band : (b : ℕ) → listed BAND_SIZE (after.byte b) ≡ listed BAND_SIZE (before.byte b)
      band b = same-listed BAND_SIZE (after.byte b) (before.byte b) (λ i lt. byte_after b i ChangesNothing is)

  -- the change of a record, whichever it is
  change_step : (t : Table) (c : Changing) → o.effect x.lsn x.is ≡ effect_of t x.lsn (Some c) → IsChangeable t x.lsn before (Some c) → state_of after ≡ apply t (state_of before) (meaning c)
  change_step t (PageChanged c) is ok = page_step t c.page (op_said c) (back_said c) is ok
  change_step t (SegWrite c) is ok = band_step c.band c.at c.after is ok
  change_step t (SegOp c) is ok = band_step c.band c.at (rendered (range_at t c.code) c.arg c.position c.count) is ok

  says_step : (t : Table) (u p : ℕ) (says : Says) (from : State) (rs : Steps) → o.effect x.lsn x.is ≡ effect_of t x.lsn (changed_by says) → IsChangeable t x.lsn before (changed_by says) → state_of before ≡ repeated t from rs
      → state_of after ≡ repeated t from (with_step rs x.lsn (step_by u p says))
  says_step t u p Begin from rs is ok agrees = same_step is ∙ agrees
  says_step t u p (Changed c) from rs is ok agrees = change_step t c is ok ∙ ap (λ (s : State). apply t s (meaning c)) agrees
  says_step t u p (TopEnd w n) from rs is ok agrees = same_step is ∙ agrees
  says_step t u p (PhysComp w c) from rs is ok agrees = change_step t c is ok ∙ ap (λ (s : State). apply t s (meaning c)) agrees
  says_step t u p (TopVoid w) from rs is ok agrees = same_step is ∙ agrees
  says_step t u p (CompEnd w) from rs is ok agrees = same_step is ∙ agrees
  says_step t u p (Save m) from rs is ok agrees = same_step is ∙ agrees
  says_step t u p Commit from rs is ok agrees = same_step is ∙ agrees
  says_step t u p End from rs is ok agrees = same_step is ∙ agrees
  says_step t u p (Checkpoint e l) from rs is ok agrees = same_step is ∙ agrees

  -- THE NEXT RECORD keeps the joint
  pub agrees_more : (t : Table) (ds rest : List Numbered) → ns ≡ ds ++ rest → IsBy t o → IsNext t o ns x → Agrees t o ds rest → Agrees t o ds (rest ++ x ∷ [])
  agrees_more t ds rest has by next agrees = record {
    is = ap (λ (l : List Numbered). state_of (homes_of o l)) (sym (append_assoc ds rest (x ∷ [])) ∙ ap (λ (l : List Numbered). l ++ x ∷ []) (sym has))
        ∙ (says_step t x.is.transaction x.is.previous x.is.says (state_of (homes_of o ds)) (steps_of rest) (by.says x.lsn x.is) next (ap (λ (l : List Numbered). state_of (homes_of o l)) has ∙ agrees.is)
        ∙ ap (λ (rs : Steps). repeated t (state_of (homes_of o ds)) rs) (sym (steps_more rest x)));
  }

append_none : (xs : List Numbered) → xs ++ [] ≡ xs
append_none [] = refl
append_none (x ∷ xs) = ap (λ (l : List Numbered). x ∷ l) (append_none xs)

-- without a record more
pub agrees_none : (t : Table) (o : Origin) (ds : List Numbered) → Agrees t o ds []
agrees_none t o ds = record { is = ap (λ (l : List Numbered). state_of (homes_of o l)) (append_none ds) }

-- a front of a list with one more at its end is all of it, or a front of the list
pub nothing : (xs ys : List Numbered) → xs ++ ys ≡ [] → xs ≡ []
nothing [] ys e = refl
nothing (x ∷ xs) ys e = absurd cc

pub front_or : (front more ns : List Numbered) (x : Numbered) → front ++ more ≡ ns ++ x ∷ [] → (front ≡ ns ++ x ∷ []) ⊎ ((rest : List Numbered) × (front ++ rest ≡ ns))
front_or [] more ns x e = inr (ns, refl)
front_or (f ∷ front) more [] x e =
    let head : f ≡ x = cc in
    let tail : front ++ more ≡ [] = cc in
    inl (ap (λ (n : Numbered). n ∷ front) head ∙ ap (λ (l : List Numbered). x ∷ l) (nothing front more tail))
front_or (f ∷ front) more (n ∷ ns) x e =
    let head : f ≡ n = cc in
    let tail : front ++ more ≡ ns ++ x ∷ [] = cc in
    ⊎_elim
    (λ all. inl (ap (λ (m : Numbered). m ∷ front) head ∙ ap (λ (l : List Numbered). n ∷ l) all))
    (λ less. inr (less.0, ap (λ (m : Numbered). m ∷ (front ++ less.0)) head ∙ ap (λ (l : List Numbered). n ∷ l) less.1))
    (front_or front more ns x tail)

-- THE NEXT RECORD keeps the joint of each front
pub all_agree_more : (o : Origin) (ds rest ns : List Numbered) (x : Numbered) (t : Table) → ns ≡ ds ++ rest → IsBy t o → IsNext t o ns x → AllAgree t o ds ns → AllAgree t o ds (ns ++ x ∷ [])
all_agree_more o ds rest ns x t has by next all front more e = ⊎_elim
    (λ is_all. subst (Agrees t o ds) (sym (append_cancel_left ds front (rest ++ x ∷ []) (is_all ∙ (ap (λ (l : List Numbered). l ++ x ∷ []) has ∙ append_assoc ds rest (x ∷ [])))))
    (agrees_more o ns x t ds rest has by next (all rest [] (append_none (ds ++ rest) ∙ sym has))))
    (λ less. all front less.0 less.1)
    (front_or (ds ++ front) more ns x e)

pub all_agree_none : (t : Table) (o : Origin) (ds : List Numbered) → AllAgree t o ds ds
all_agree_none t o ds front more e =
    let none : front ++ more ≡ [] = append_cancel_left ds (front ++ more) [] (sym (append_assoc ds front more) ∙ (e ∙ sym (append_none ds))) in
    subst (Agrees t o ds) (sym (nothing front more none)) (agrees_none t o ds)

-- HISTORY REPEATED in two parts
one_both : (t : Table) (x : State) (rs : Steps) (lsn : ℕ) (s : Option Step) → repeated t x (with_step rs lsn s) ≡ repeated t (repeated t x rs) (with_step [] lsn s)
one_both t x rs lsn None = refl
one_both t x rs lsn (Some s) = refl

on_both : (t : Table) (x : State) (rs : Steps) (ns : List Numbered) → repeated t x (steps_on rs ns) ≡ repeated t (repeated t x rs) (steps_of ns)
on_both t x rs [] = refl
on_both t x rs (n ∷ ns) =
    on_both t x (with_step rs n.lsn (step_of n.is)) ns
    ∙ (ap (λ (y : State). repeated t y (steps_of ns)) (one_both t x rs n.lsn (step_of n.is))
    ∙ sym (on_both t (repeated t x rs) (with_step [] n.lsn (step_of n.is)) ns))

steps_join : (rs : Steps) (ms ns : List Numbered) → steps_on rs (ms ++ ns) ≡ steps_on (steps_on rs ms) ns
steps_join rs [] ns = refl
steps_join rs (m ∷ ms) ns = steps_join (with_step rs m.lsn (step_of m.is)) ms ns

pub repeated_both : (t : Table) (x : State) (ms ns : List Numbered) → repeated t x (steps_of (ms ++ ns)) ≡ repeated t (repeated t x (steps_of ms)) (steps_of ns)
repeated_both t x ms ns = ap (λ (rs : Steps). repeated t x rs) (steps_join [] ms ns) ∙ on_both t x (steps_of ms) ns

-- with more that is durable the rest agrees still
pub all_agree_durable : (t : Table) (o : Origin) (ds since all : List Numbered) → AllAgree t o ds all → (rest : List Numbered) → all ≡ (ds ++ since) ++ rest → AllAgree t o (ds ++ since) all
all_agree_durable t o ds since all agree rest has front more e = record {
  is = ap (λ (l : List Numbered). state_of (homes_of o l)) (append_assoc ds since front)
      ∙ ((agree (since ++ front) more (ap (λ (l : List Numbered). l ++ more) (sym (append_assoc ds since front)) ∙ e)).is
      ∙ (repeated_both t (state_of (homes_of o ds)) since front
      ∙ ap (λ (x : State). repeated t x (steps_of front)) (sym (agree since rest (sym has)).is)));
}
