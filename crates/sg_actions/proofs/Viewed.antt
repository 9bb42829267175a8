-- What a space over an engine shows once a change of a page is logged.
use Rattle.std.proofs.Common.{Bool, ◌≡◌, ◌≢◌, ℕ, ◌+◌, ◌<◌, List, ◌∷◌, length, Option, Some, None, true, false, sym, ap, subst, ◌∙◌, refl}
use Rattle.std.specs.Prelude.{⊤, is_some, if◌then◌else◌}
use Rattle.sg_alloc.specs.declared.maps.Maps.{Maps}
use Rattle.sg_base.specs.Op.{Op, is_format, opens}
use Rattle.sg_base.specs.Sheet.{Sheet}
use Rattle.sg_ops.specs.Steps.{step, inverse, IsProper, BringsBytes}
use Rattle.sg_ops.specs.Table.{Table}
use Rattle.sg_record.specs.Changes.{PageChange}
use Rattle.sg_record.specs.Changes.Change.{Page as PageHeld}
use Rattle.sg_recovery.specs.Log.Record.{Change as ChangeStep}
use Rattle.sg_action.specs.States.{State, Change, apply, made, or_same, step_leaf, fits}
use Rattle.sg_action.specs.States.Change.{Page}
use Rattle.sg_action.proofs.Opened.{one_here, one_there}
use Rattle.sg_space.specs.Pages.{Changed, IsPossible}
use Rattle.sg_space.specs.Units.{HasAt}
use Rattle.sg_actions.specs.Acting.{IsWell}
use Rattle.sg_actions.specs.declared.rows.Actor.{Actor}
use Rattle.sg_actions.specs.declared.rows.Row.{Row}
use Rattle.sg_actions.proofs.Acting.{acting_change}
use Rattle.sg_actions.proofs.Calling.{MayGoOn}
use Rattle.sg_actions.specs.Changes.{back_said, meaning}
use Rattle.sg_actions.specs.Engine.{EngineSeen, now_of, IsLoggable, led, IsFormedWith}
use Rattle.sg_actions.specs.Steps.{Steps, stepped, opened, begin_of}
use Rattle.sg_actions.specs.Taken.{is_set, is_there, kept_of, units_there, writes_band, lessens}
use Rattle.sg_actions.specs.View.{IsKept, acts_view, MayGive, MayGiveNow}
use Rattle.sg_actions.proofs.Flags.{there_is, at_there, some_of}
use Rattle.sg_actions.proofs.Going.{goes_on, kept_changed, may_after, lessens_other, lessens_none, lessens_back}
use Rattle.sg_actions.proofs.Led.{Made, Same}
use Rattle.sg_actions.proofs.Repeating.{made_opened}
use Rattle.sg_actions.proofs.Said.{IsSaid}

pub means_page : {c : PageChange} {p : ℕ} {op : Op} → IsSaid c p op → meaning (PageHeld c) ≡ Page p op (back_said c)
means_page {c} s = λ j. Page (s.page_is j) (s.said j) (back_said c)

-- what a change makes of the pages
changed_here : (t : Table) (x : State) (p : ℕ) (op back : Op) (sheet new : Sheet) → x.pages p ≡ Some sheet → step t op sheet ≡ Some new → (apply t x (Page p op back)).pages p ≡ Some new
changed_here t x p op back sheet new is fit = one_here x.pages p (or_same (step_leaf t op (x.pages p)) (x.pages p)) ∙ (ap (λ (o : Option Sheet). or_same (step_leaf t op o) o) is ∙ ap (λ (o : Option Sheet). or_same o (Some sheet)) fit)

changed_there : (t : Table) (x : State) (p q : ℕ) (op back : Op) → q ≢ p → (apply t x (Page p op back)).pages q ≡ x.pages q
changed_there t x p q op back ne = one_there x.pages p q (or_same (step_leaf t op (x.pages p)) (x.pages p)) ne

-- the open action behind the record
pub opened_after : {rs rs' : Steps} {txn last lsn : ℕ} {c : PageChange} {p : ℕ} {op : Op} → IsSaid c p op → rs' ≡ stepped rs lsn (ChangeStep txn last (PageHeld c)) → opened rs' ≡ Page p op (back_said c) ∷ opened rs
opened_after {rs} s is = ap opened is ∙ ap (λ (d : Change). d ∷ opened rs) (means_page s)

same_some : {A : Type 0} (x y : A) → Some x ≡ Some y → x ≡ y
same_some x y h = cc

-- what is known of the page that changes
pub record IsReady (t : Table) (x : State) (p : ℕ) (op : Op) (c : PageChange) : Type 0 where
  pub sheet : Sheet
  pub new : Sheet
  pub is : x.pages p ≡ Some sheet
  pub fit : step t op sheet ≡ Some new
  pub back : back_said c ≡ inverse op sheet
  pub proper : IsProper t op sheet

pub ready : {begun : Bool} (t : Table) (limits : State → ℕ → ℕ) (e : EngineSeen) (begin : State) (breaks : ℕ) (maps unfreed : Maps) (p : ℕ) (op : Op) (c : PageChange) (shown : Sheet)
    → e.now.pages p ≡ Some shown → back_said c ≡ inverse op shown → BringsBytes op
    → HasAt (acts_view limits e begun begin breaks maps unfreed).space.pages.at p (IsPossible t (acts_view limits e begun begin breaks maps unfreed) p op) → IsReady t e.now p op c
ready {begun} t limits e begin breaks maps unfreed p op c shown looked back bytes h =
    let there = there_is maps.pages unfreed.pages e.now.pages p h.what h.is in
    let same : shown ≡ h.what = same_some shown h.what (sym looked ∙ there.is) in
    let fit = some_of (step t op h.what) h.has.fits in
    record { sheet = h.what; new = fit.0; is = there.is; fit = fit.1; back = back ∙ ap (inverse op) same; proper = record { bytes = bytes; done = h.has.done } }

pub ready_same : {t : Table} {e e' : EngineSeen} {p : ℕ} {op : Op} {c : PageChange} → Same e e' → IsReady t e.now p op c → IsReady t e'.now p op c
ready_same {t} {e} {e'} {p} same r = record { sheet = r.sheet; new = r.new; is = ap (λ (x : State). x.pages p) same.now ∙ r.is; fit = r.fit; back = r.back; proper = r.proper }

-- so its record may be appended
pub loggable : (t : Table) (e : EngineSeen) (txn last p : ℕ) (op : Op) (c : PageChange) → IsSaid c p op → IsReady t e.now p op c → p < e.extent.pages → ∥ IsFormedWith e (ChangeStep txn last (PageHeld c)) ∥₁ → IsLoggable t ⊤ e (ChangeStep txn last (PageHeld c))
loggable t e txn last p op c s r below formed = record {
  there = subst (λ (n : ℕ). n < e.extent.pages) (sym s.page_is) below;
  fits = ap (fits t e.now) (means_page s) ∙ (ap (λ (o : Option Sheet). is_some (step_leaf t op o)) r.is ∙ ap is_some r.fit);
  known = tt;
  formed = formed;
  means = λ u. tt;
}

-- the page that changed
here_is : (t : Table) (x y : State) (maps unfreed : Maps) (p : ℕ) (op : Op) (c : PageChange) → is_there maps.pages unfreed.pages p ≡ true → IsReady t x p op c
    → y.pages p ≡ (apply t x (Page p op (back_said c))).pages p → (was : Sheet) → (units_there maps.pages unfreed.pages x.pages).at p ≡ Some was
    → (units_there maps.pages unfreed.pages y.pages).at p ≡ step t op was
here_is t x y maps unfreed p op c there r at was is =
    let same : r.sheet ≡ was = same_some r.sheet was (sym r.is ∙ (there_is maps.pages unfreed.pages x.pages p was is).is) in
    let fit : step t op was ≡ Some r.new = ap (step t op) (sym same) ∙ r.fit in
    at_there maps.pages unfreed.pages y.pages p there ∙ (at ∙ (changed_here t x p op (back_said c) r.sheet r.new r.is r.fit ∙ sym fit))

-- the page is taken, and the open action may give it the slot that the operation opens
pub record IsPlaced (limits : State → ℕ → ℕ) (begin : State) (rs : Steps) (maps : Maps) (p : ℕ) (op : Op) (sheet : Sheet) : Type 0 where
  pub set : is_set maps.pages p ≡ true
  pub place : opens op sheet ≡ true → MayGiveNow limits begin rs maps.pages maps.bands p (length sheet.slots + 1)

pub placed_now : {begun : Bool} (t : Table) (limits : State → ℕ → ℕ) (e : EngineSeen) (begin : State) (breaks : ℕ) (maps unfreed : Maps) (p : ℕ) (op : Op) (sheet : Sheet) → e.Told → e.now.pages p ≡ Some sheet
    → HasAt (acts_view limits e begun begin breaks maps unfreed).space.pages.at p (IsPossible t (acts_view limits e begun begin breaks maps unfreed) p op) → IsPlaced limits begin e.steps maps p op sheet
placed_now {begun} t limits e begin breaks maps unfreed p op sheet told is h =
    let there = there_is maps.pages unfreed.pages e.now.pages p h.what h.is in
    let same : h.what ≡ sheet = same_some h.what sheet (sym there.is ∙ is) in
    record {
      set = there.taken_is;
      place = subst (λ (q : Sheet). opens op q ≡ true → MayGiveNow limits begin e.steps maps.pages maps.bands p (length q.slots + 1)) same (λ o. h.has.place o told);
    }

-- the open action goes on with it
well_on : (t : Table) (limits : State → ℕ → ℕ) (x begin start : State) (rs : Steps) (maps : Maps) (p : ℕ) (op : Op) (c : PageChange) → is_format op ≡ false → IsSaid c p op → made t start (opened rs) ≡ x → start ≡ begin → (r : IsReady t x p op c) → IsPlaced limits begin rs maps p op r.sheet
    → IsWell t limits start (opened rs) maps.pages maps.bands → IsWell t limits start (meaning (PageHeld c) ∷ opened rs) maps.pages maps.bands
well_on t limits x begin start rs maps p op c plain s is same r h w =
    subst (λ (d : Change). IsWell t limits start (d ∷ opened rs) maps.pages maps.bands) (sym (means_page s))
    (goes_on t limits start (opened rs) maps.pages maps.bands p op (back_said c) r.sheet r.new plain h.set (ap (λ (y : State). y.pages p) is ∙ r.is) r.back r.proper r.fit
    (λ o. subst (λ (y : State). MayGiveNow limits y rs maps.pages maps.bands p (length r.sheet.slots + 1)) (sym same) (h.place o)) w)

-- what is kept goes on with it, whatever number its record has
pub page_on : (t : Table) (limits : State → ℕ → ℕ) (from : State) (e : EngineSeen) (begin : State) (maps : Maps) (rows : List Row) (actor : Actor) (p : ℕ) (op : Op) (c : PageChange) → is_format op ≡ false → IsSaid c p op → e.now ≡ now_of t (led from e) → begin_of t from e.steps ≡ begin
    → (r : IsReady t e.now p op c) → IsPlaced limits begin e.steps maps p op r.sheet → IsKept t limits (led from e) maps rows actor → MayGoOn t limits (led from e) maps rows actor (PageHeld c)
page_on t limits from e begin maps rows actor p op c plain s now since r h k lsn next above below =
    acting_change (PageHeld c) lsn next above below (well_on t limits e.now begin (begin_of t from e.steps) e.steps maps p op c plain s (made_opened t from e.steps ∙ sym now) since r h) k

-- the same behind a look
pub change_on : {begun : Bool} (t : Table) (limits : State → ℕ → ℕ) (from : State) (e e1 : EngineSeen) (begin : State) (breaks : ℕ) (maps unfreed : Maps) (rows : List Row) (actor : Actor) (p : ℕ) (op : Op) (c : PageChange) (shown : Sheet) → is_format op ≡ false → IsSaid c p op → e.Told → Same e e1
    → e1.now.pages p ≡ Some shown → back_said c ≡ inverse op shown → BringsBytes op → HasAt (acts_view limits e begun begin breaks maps unfreed).space.pages.at p (IsPossible t (acts_view limits e begun begin breaks maps unfreed) p op)
    → e1.now ≡ now_of t (led from e1) → begin_of t from e1.steps ≡ begin → IsKept t limits (led from e1) maps rows actor → MayGoOn t limits (led from e1) maps rows actor (PageHeld c)
unfolding ready ready_same
change_on {begun} t limits from e e1 begin breaks maps unfreed rows actor p op c shown plain s told same looked back bytes h now since k =
    let r = ready t limits e begin breaks maps unfreed p op c shown (ap (λ (x : State). x.pages p) (sym same.now) ∙ looked) back bytes h in
    page_on t limits from e1 begin maps rows actor p op c plain s now since (ready_same same r)
    (subst (λ (rs : Steps). IsPlaced limits begin rs maps p op r.sheet) (sym same.steps) (placed_now t limits e begin breaks maps unfreed p op r.sheet told r.is h)) k

-- what was taken at the begin is the same
pub page_same : (limits : State → ℕ → ℕ) (start : State) (rs : Steps) (maps : Maps) (p : ℕ) (op : Op) (c : PageChange) → is_format op ≡ false → IsSaid c p op
    → kept_of limits maps.pages maps.bands start (meaning (PageHeld c) ∷ opened rs) ≡ kept_of limits maps.pages maps.bands start (opened rs)
page_same limits start rs maps p op c plain s =
    ap (λ (d : Change). kept_of limits maps.pages maps.bands start (d ∷ opened rs)) (means_page s) ∙ kept_changed limits start maps.pages maps.bands (opened rs) p op (back_said c) plain

-- a change of a page writes no band
pub unwritten : {rs rs' : Steps} {txn last lsn : ℕ} {c : PageChange} → rs' ≡ stepped rs lsn (ChangeStep txn last (PageHeld c)) → (b : ℕ) → writes_band (opened rs') b ≡ true → writes_band (opened rs) b ≡ true
unwritten is b h = sym (ap (λ (rs : Steps). writes_band (opened rs) b) is) ∙ h

-- THE SPACE SHOWS THE CHANGE
pub shows_change : {begun : Bool} (t : Table) (limits : State → ℕ → ℕ) (e e' : EngineSeen) (begin : State) (breaks : ℕ) (maps unfreed : Maps) (p : ℕ) (op : Op) (c : PageChange) (txn last lsn : ℕ) → is_there maps.pages unfreed.pages p ≡ true
    → is_format op ≡ false → IsSaid c p op → (e.Told → IsReady t e.now p op c) → (e.Told → e'.Told) → (e'.Told → e.Told) → (e.Told → Made t e e' (ChangeStep txn last (PageHeld c)) lsn)
    → Changed t (acts_view limits e begun begin breaks maps unfreed) (acts_view limits e' begun begin breaks maps unfreed) p op
shows_change {begun} t limits e e' begin breaks maps unfreed p op c txn last lsn there plain s ready still back made = record {
  told = still;
  pages = λ told. record {
    here = λ x is. here_is t e.now e'.now maps unfreed p op c there (ready told) (ap (λ (y : State). y.pages p) (now told)) x is;
    others = λ q ne. ap (λ (o : Option Sheet). if is_there maps.pages unfreed.pages q then o else None) (ap (λ (y : State). y.pages q) (now told) ∙ changed_there t e.now p q op (back_said c) ne);
    free = refl;
    count = refl;
  };
  bands = λ told. ap (λ (x : State). units_there maps.bands unfreed.bands (λ b. Some (x.bands b))) (now told);
  may_take = λ h. h;
  wrote = λ b h. let told = back h.0 in (told, unwritten (made told).steps b h.1);
  may_have = λ q n ne h told'. let told = back told' in gives told q n (lessens_other p op (back_said c) q ne) (h told);
  may_still = λ n same h told'. let told = back told' in
      let r = ready told in
      gives told p n (lessens_none p op (back_said c) (lessens_back op (back_said c) r.sheet r.back (same r.sheet (at_there maps.pages unfreed.pages e.now.pages p there ∙ r.is)))) (h told);
}
  where
    now : e.Told → e'.now ≡ apply t e.now (Page p op (back_said c))
    now told = (made told).now ∙ ap (apply t e.now) (means_page s)

    gives : e.Told → (q n : ℕ) → lessens (Page p op (back_said c)) q ≡ false → MayGiveNow limits begin e.steps maps.pages maps.bands q n → MayGiveNow limits begin e'.steps maps.pages maps.bands q n
    gives told q n grows h = subst (λ (ds : List Change). MayGive (kept_of limits maps.pages maps.bands begin ds) ds q n) (sym (opened_after s (made told).steps))
        (may_after limits begin (opened e.steps) maps.pages maps.bands p op (back_said c) q n plain grows h)
