-- The open action, and what a space shows, once a page is taken.
use Rattle.std.proofs.Common.{◌≡◌, ◌≢◌, ℕ, zero, suc, ◌+◌, ◌<◌, ◌≤◌, List, [], ◌∷◌, length, Option, Some, None, Bool, true, false, not, sym, ap, subst, ◌∙◌, refl, arith, slice_get, slice_set, inl, inr, cond}
use Rattle.std.specs.Prelude.{◌&&◌, ◌||◌, if◌then◌else◌, is_some, unwrap_or, IsSome}
use Rattle.std.proofs.Props.{props}
use Rattle.std.proofs.lemmas.Bool.{cases_Bool, cases_eq}
use Rattle.std.proofs.lemmas.Bool.Decides.{nat_tests}
use Rattle.std.proofs.lemmas.List.{length-set}
use Rattle.std.proofs.lemmas.List.Sums.{sum_by-cons}
use Rattle.std.proofs.lemmas.Option.{slice_get_within}
use Rattle.sg_alloc.specs.Flags.{free_of}
use Rattle.sg_alloc.specs.declared.maps.Maps.{Maps}
use Rattle.sg_alloc.proofs.Counted.{one_less}
use Rattle.sg_base.specs.Op.{Op}
use Rattle.sg_base.specs.Op.Op.{Format}
use Rattle.sg_base.specs.Sheet.{Sheet}
use Rattle.sg_ops.specs.Steps.{uses_table}
use Rattle.sg_ops.specs.Table.{Table}
use Rattle.sg_record.specs.Changes.{PageChange}
use Rattle.sg_record.specs.Changes.Change.{Page as PageHeld}
use Rattle.sg_recovery.specs.Log.Record.{Change as ChangeStep}
use Rattle.sg_action.specs.States.{State, Change, Kept, apply, made, or_same, step_leaf}
use Rattle.sg_action.specs.States.Change.{Page}
use Rattle.sg_action.specs.Opened.{formats, in_use, IsLogged, IsOpened, IsBegun, AreFit, OpenWell}
use Rattle.sg_action.proofs.Opened.{one_here, one_there}
use Rattle.sg_space.specs.Pages.{Took, empty_sheet}
use Rattle.sg_space.proofs.InMemory.{slice_get-set_same, slice_get-set_other}
use Rattle.sg_actions.specs.Acting.{IsWell}
use Rattle.sg_actions.specs.Changes.{back_said, meaning}
use Rattle.sg_actions.specs.Engine.{EngineView, EngineSeen, IsLoggable, IsFormedWith}
use Rattle.sg_actions.specs.Steps.{stepped, opened, begin_of}
use Rattle.sg_actions.specs.Taken.{AreSaid, is_set, is_there, takes_page, kept_of, units_there, lessens, has_lessened, AreFlags}
use Rattle.sg_actions.specs.View.{IsKept, acts_view, MayGive, HasFreedNone}
use Rattle.sg_actions.proofs.Flags.{set_is, set_by, some_is, at_there, and_both}
use Rattle.sg_actions.proofs.Going.{kept_same, not_in, lessens_other}
use Rattle.sg_actions.proofs.Said.{IsSaid}
use Rattle.sg_actions.proofs.Acting.{acting_change}
use Rattle.sg_actions.proofs.Calling.{MayGoOn}
use Rattle.sg_actions.proofs.Viewed.{means_page, opened_after, unwritten}
use Rattle.sg_actions.proofs.Led.{Made}
use Rattle.sg_actions.proofs.Sets.{leaf_set, bytes_set, steps_set}
use Rattle.sg_actions.specs.declared.rows.Actor.{Actor}
use Rattle.sg_actions.specs.declared.rows.Row.{Row}

pub set_here : (flags : List Bool) (n : ℕ) (b : Bool) → n < length flags → is_set (slice_set flags n b) n ≡ b
set_here flags n b below = set_by (slice_set flags n b) n b (slice_get-set_same flags n b below)

pub set_there : (flags : List Bool) (n m : ℕ) (b : Bool) → m ≢ n → is_set (slice_set flags n b) m ≡ is_set flags m
set_there flags n m b ne = set_is (slice_set flags n b) m ∙ (ap (λ (o : Option Bool). unwrap_or o false) (slice_get-set_other flags n m b ne) ∙ sym (set_is flags m))

and_false : (a b : Bool) → b ≡ false → (a && b) ≡ false
and_false true b e = e
and_false false b e = refl

taken_here : (p kind : ℕ) → formats (Page p (Format kind) (Format 0)) p ≡ true
taken_here p kind = grind (arith, nat_tests)

taken_there : (p kind n : ℕ) → n ≢ p → formats (Page p (Format kind) (Format 0)) n ≡ false
taken_there p kind n ne = grind (arith, nat_tests, ne)

takes_here : (p kind : ℕ) (ds : List Change) → takes_page (Page p (Format kind) (Format 0) ∷ ds) p ≡ true
takes_here p kind ds = ap (λ (b : Bool). b || takes_page ds p) (taken_here p kind)

takes_there : (p kind n : ℕ) (ds : List Change) → n ≢ p → takes_page (Page p (Format kind) (Format 0) ∷ ds) n ≡ takes_page ds n
takes_there p kind n ds ne = ap (λ (b : Bool). b || takes_page ds n) (taken_there p kind n ne)

pub kept_taking : (limits : State → ℕ → ℕ) (begin : State) (pages bands : List Bool) (ds : List Change) (p kind : ℕ) → slice_get pages p ≡ Some false
    → kept_of limits (slice_set pages p true) bands begin (Page p (Format kind) (Format 0) ∷ ds) ≡ kept_of limits pages bands begin ds
kept_taking limits begin pages bands ds p kind free = kept_same limits begin pages (slice_set pages p true) bands bands ds (Page p (Format kind) (Format 0) ∷ ds) each (λ b. refl)
  where
    each : (n : ℕ) → (is_set (slice_set pages p true) n && not (takes_page (Page p (Format kind) (Format 0) ∷ ds) n)) ≡ (is_set pages n && not (takes_page ds n))
    each n = elim (cases_eq n p) [
      | inl same ↦
          let gone : not (takes_page (Page p (Format kind) (Format 0) ∷ ds) n) ≡ false = ap (λ (k : ℕ). not (takes_page (Page p (Format kind) (Format 0) ∷ ds) k)) same ∙ ap not (takes_here p kind ds) in
          let was : is_set pages n ≡ false = ap (is_set pages) same ∙ set_by pages p false free in
          and_false (is_set (slice_set pages p true) n) (not (takes_page (Page p (Format kind) (Format 0) ∷ ds) n)) gone ∙ sym (ap (λ (b : Bool). b && not (takes_page ds n)) was)
      | inr ne ↦ λ j. set_there pages p n true ne j && not (takes_there p kind n ds ne j)
    ]

no : true ≡ false → ⊥
no e = cc

-- THE OPEN ACTION GOES ON with a page that it takes
pub goes_on_taking : (t : Table) (limits : State → ℕ → ℕ) (begin : State) (ds : List Change) (pages bands : List Bool) (p kind : ℕ) → slice_get pages p ≡ Some false
    → IsWell t limits begin ds pages bands → IsWell t limits begin (Page p (Format kind) (Format 0) ∷ ds) (slice_set pages p true) bands
goes_on_taking t limits begin ds pages bands p kind free w =
    let same = kept_taking limits begin pages bands ds p kind free in
    let old : Kept = kept_of limits pages bands begin ds in
    let clear : is_set pages p ≡ false = set_by pages p false free in
    let untaken : takes_page ds p ≡ false = elim (cases_Bool (takes_page ds p)) [
      | inl h ↦ absurd (no (sym (w.used p h) ∙ clear))
      | inr h ↦ h
    ] in
    let unused : in_use old ds p ≡ false = not_in old ds p (ap (λ (b : Bool). b && not (takes_page ds p)) clear) untaken in
    let logged : IsLogged t old ds (made t begin ds) (Page p (Format kind) (Format 0)) = record {
      takes = λ f. (unused, refl);
      changes = λ f. absurd (no f);
      holds = λ f. absurd (no f);
      proper = λ f. absurd (no f);
      fits = λ f. absurd (no f);
    } in
    record {
      begun = subst (λ (k : Kept). IsBegun k begin) (sym same) w.begun;
      fit = subst (λ (k : Kept). AreFit k [] begin) (sym same) w.fit;
      opens = subst (λ (k : Kept). IsOpened t k begin (Page p (Format kind) (Format 0) ∷ ds)) (sym same) (w.opens, logged);
      well = subst (λ (k : Kept). OpenWell t k begin (Page p (Format kind) (Format 0) ∷ ds)) (sym same) (w.well, λ f. absurd (no f));
      used = λ n h. used n h (w.used n);
    }
  where
    below : p < length pages
    below = slice_get_within pages p false free

    used : (n : ℕ) → takes_page (Page p (Format kind) (Format 0) ∷ ds) n ≡ true → (takes_page ds n ≡ true → is_set pages n ≡ true) → is_set (slice_set pages p true) n ≡ true
    used n h before = elim (cases_eq n p) [
      | inl same ↦ ap (is_set (slice_set pages p true)) same ∙ set_here pages p true below
      | inr ne ↦ set_there pages p n true ne ∙ before (sym (takes_there p kind n ds ne) ∙ h)
    ]

-- what it may give: as much as it may have for the page that it took, and what it could for others
pub may_take_new : (limits : State → ℕ → ℕ) (begin : State) (ds : List Change) (pages bands : List Bool) (p kind n : ℕ)
    → MayGive (kept_of limits pages bands begin (Page p (Format kind) (Format 0) ∷ ds)) (Page p (Format kind) (Format 0) ∷ ds) p n
may_take_new limits begin ds pages bands p kind n = record {
  grown = ap (λ (b : Bool). if b then false else lessens (Page p (Format kind) (Format 0)) p || has_lessened ds p) (taken_here p kind);
  within = λ h. absurd (no (sym h ∙ and_false (is_set pages p) (not (takes_page (Page p (Format kind) (Format 0) ∷ ds) p)) (ap not (takes_here p kind ds))));
}

pub may_take_other : (limits : State → ℕ → ℕ) (begin : State) (ds : List Change) (pages bands : List Bool) (p kind q n : ℕ) → slice_get pages p ≡ Some false → q ≢ p → MayGive (kept_of limits pages bands begin ds) ds q n
    → MayGive (kept_of limits (slice_set pages p true) bands begin (Page p (Format kind) (Format 0) ∷ ds)) (Page p (Format kind) (Format 0) ∷ ds) q n
may_take_other limits begin ds pages bands p kind q n free ne may = record {
  grown =
      ap (λ (b : Bool). if b then false else lessens (Page p (Format kind) (Format 0)) q || has_lessened ds q) (taken_there p kind q ne)
      ∙ (ap (λ (b : Bool). b || has_lessened ds q) (lessens_other p (Format kind) (Format 0) q ne) ∙ may.grown);
  within = subst (λ (k : Kept). k.pages q ≡ true → n ≤ k.slots q) (sym (kept_taking limits begin pages bands ds p kind free)) may.within;
}

-- where nothing is freed, all are set
pub none_freed : (flags : List Bool) (n : ℕ) → free_of flags ≡ 0 → n < length flags → is_set flags n ≡ true
none_freed [] n e below = absurd (omega arith)
none_freed (true ∷ xs) zero e below = refl
none_freed (false ∷ xs) zero e below = let c : free_of (false ∷ xs) ≡ 1 + free_of xs = sum_by-cons (λ (b : Bool). cond {A = ℕ} (not b) 1 0) false xs in absurd (omega (arith, c, e))
none_freed (x ∷ xs) (suc n) e below = none_freed xs n (let c : free_of (x ∷ xs) ≡ cond {A = ℕ} (not x) 1 0 + free_of xs = sum_by-cons (λ (b : Bool). cond {A = ℕ} (not b) 1 0) x xs in omega (arith, c, e)) (omega arith)

-- the format of any page
formatted : (t : Table) (kind : ℕ) (leaf : Option Sheet) → step_leaf t (Format kind) leaf ≡ Some (empty_sheet kind)
formatted t kind None = refl
formatted t kind (Some sheet) = refl

pub format_loggable : (t : Table) (e : EngineSeen) (txn last p kind : ℕ) (c : PageChange) → IsSaid c p (Format kind) → p < e.extent.pages → ∥ IsFormedWith e (ChangeStep txn last (PageHeld c)) ∥₁ → IsLoggable t ⊥ e (ChangeStep txn last (PageHeld c))
format_loggable t e txn last p kind c s below formed = record {
  there = subst (λ (n : ℕ). n < e.extent.pages) (sym s.page_is) below;
  fits = (λ j. is_some (step_leaf t (s.said j) (e.now.pages (s.page_is j)))) ∙ ap is_some (formatted t kind (e.now.pages p));
  known = tt;
  formed = formed;
  means = λ u. absurd (no (sym u ∙ ap uses_table s.said));
}

-- what is said of the flags with the page set is so of those that are these
with_flags : (maps maps' : Maps) (p : ℕ) (Q : (pages bands : List Bool) → Type 0) → maps'.pages ≡ slice_set maps.pages p true → maps'.bands ≡ maps.bands → Q (slice_set maps.pages p true) maps.bands → Q maps'.pages maps'.bands
with_flags maps maps' p Q e f h = subst (λ (xs : List Bool). Q xs maps'.bands) (sym e) (subst (λ (ys : List Bool). Q (slice_set maps.pages p true) ys) (sym f) h)

formatted_here : (t : Table) (x : State) (p kind : ℕ) (back : Op) → (apply t x (Page p (Format kind) back)).pages p ≡ Some (empty_sheet kind)
formatted_here t x p kind back = one_here x.pages p (or_same (step_leaf t (Format kind) (x.pages p)) (x.pages p)) ∙ ap (λ (o : Option Sheet). or_same o (x.pages p)) (formatted t kind (x.pages p))

formatted_there : (t : Table) (x : State) (p q kind : ℕ) (back : Op) → q ≢ p → (apply t x (Page p (Format kind) back)).pages q ≡ x.pages q
formatted_there t x p q kind back ne = one_there x.pages p q (or_same (step_leaf t (Format kind) (x.pages p)) (x.pages p)) ne

-- what is kept goes on with the page that is taken, whatever number the record has
pub take_on : (t : Table) (limits : State → ℕ → ℕ) (e : EngineView) (maps maps' : Maps) (rows : List Row) (actor : Actor) (p kind : ℕ) (c : PageChange) → slice_get maps.pages p ≡ Some false → maps'.pages ≡ slice_set maps.pages p true → maps'.bands ≡ maps.bands
    → IsSaid c p (Format kind) → back_said c ≡ Format 0 → IsKept t limits e maps rows actor → MayGoOn t limits e maps' rows actor (PageHeld c)
take_on t limits e maps maps' rows actor p kind c free is_pages is_bands s back k lsn next above below = acting_change (PageHeld c) lsn next above below well k
  where
    means : meaning (PageHeld c) ≡ Page p (Format kind) (Format 0)
    means = means_page s ∙ ap (Page p (Format kind)) back

    well : IsWell t limits (begin_of t e.first e.steps) (opened e.steps) maps.pages maps.bands → IsWell t limits (begin_of t e.first e.steps) (meaning (PageHeld c) ∷ opened e.steps) maps'.pages maps'.bands
    well w = subst (λ (d : Change). IsWell t limits (begin_of t e.first e.steps) (d ∷ opened e.steps) maps'.pages maps'.bands) (sym means)
        (with_flags maps maps' p (λ xs ys. IsWell t limits (begin_of t e.first e.steps) (Page p (Format kind) (Format 0) ∷ opened e.steps) xs ys) is_pages is_bands
        (goes_on_taking t limits (begin_of t e.first e.steps) (opened e.steps) maps.pages maps.bands p kind free w))

pub take_same : (t : Table) (limits : State → ℕ → ℕ) (e : EngineView) (maps maps' : Maps) (p kind : ℕ) (c : PageChange) → slice_get maps.pages p ≡ Some false → maps'.pages ≡ slice_set maps.pages p true → maps'.bands ≡ maps.bands
    → IsSaid c p (Format kind) → back_said c ≡ Format 0
    → kept_of limits maps'.pages maps'.bands (begin_of t e.first e.steps) (meaning (PageHeld c) ∷ opened e.steps) ≡ kept_of limits maps.pages maps.bands (begin_of t e.first e.steps) (opened e.steps)
take_same t limits e maps maps' p kind c free is_pages is_bands s back =
    ap (λ (d : Change). kept_of limits maps'.pages maps'.bands (begin_of t e.first e.steps) (d ∷ opened e.steps)) (means_page s ∙ ap (Page p (Format kind)) back)
    ∙ ((λ j. kept_of limits (is_pages j) (is_bands j) (begin_of t e.first e.steps) (Page p (Format kind) (Format 0) ∷ opened e.steps))
    ∙ kept_taking limits (begin_of t e.first e.steps) maps.pages maps.bands (opened e.steps) p kind free)

-- WHAT THE ENGINE SHOWS behind the format of a page
pub record TookNow (e e' : EngineSeen) (p kind : ℕ) (c : PageChange) (txn last lsn : ℕ) : Type 0 where
  pub page : e'.now.pages p ≡ Some (empty_sheet kind)
  pub others : (q : ℕ) → q ≢ p → e'.now.pages q ≡ e.now.pages q
  pub bands : e'.now.bands ≡ e.now.bands
  pub steps : e'.steps ≡ stepped e.steps lsn (ChangeStep txn last (PageHeld c))

pub took_prop : (e e' : EngineSeen) (p kind : ℕ) (c : PageChange) (txn last lsn : ℕ) → IsProp (TookNow e e' p kind c txn last lsn)
took_prop e e' p kind c txn last lsn = hlevel (props, leaf_set, bytes_set, steps_set)

pub took_by : {t : Table} {e e' : EngineSeen} {p kind : ℕ} {c : PageChange} {txn last lsn : ℕ} → IsSaid c p (Format kind) → Made t e e' (ChangeStep txn last (PageHeld c)) lsn → TookNow e e' p kind c txn last lsn
took_by {t} {e} {e'} {p} {kind} {c} s m =
    let now : e'.now ≡ apply t e.now (Page p (Format kind) (back_said c)) = m.now ∙ ap (apply t e.now) (means_page s) in
    record {
      page = ap (λ (x : State). x.pages p) now ∙ formatted_here t e.now p kind (back_said c);
      others = λ q ne. ap (λ (x : State). x.pages q) now ∙ formatted_there t e.now p q kind (back_said c) ne;
      bands = ap (λ (x : State). x.bands) now;
      steps = m.steps;
    }

-- THE SPACE SHOWS THE PAGE THAT IS TAKEN
pub shows_take : {begun : Bool} (limits limits' : State → ℕ → ℕ) (e e' : EngineSeen) (begin : State) (breaks : ℕ) (maps maps' unfreed : Maps) (p kind : ℕ) (c : PageChange) (txn last lsn : ℕ) → limits' ≡ limits → AreFlags maps.pages unfreed.pages
    → slice_get maps.pages p ≡ Some false → maps'.pages ≡ slice_set maps.pages p true → maps'.bands ≡ maps.bands → IsSaid c p (Format kind) → back_said c ≡ Format 0 → (e.Told → HasFreedNone unfreed)
    → (e.Told → e'.Told) → (e'.Told → e.Told) → (e.Told → TookNow e e' p kind c txn last lsn) → Took (acts_view limits e begun begin breaks maps unfreed) (acts_view limits' e' begun begin breaks maps' unfreed) kind p
shows_take {begun} limits limits' e e' begin breaks maps maps' unfreed p kind c txn last lsn same_limits flags free is_pages is_bands s back freed still told_back took = subst (λ (l : State → ℕ → ℕ). Took (acts_view limits e begun begin breaks maps unfreed) (acts_view l e' begun begin breaks maps' unfreed) kind p) (sym same_limits) (record {
  keeps = record {
    told = still;
    may_take = λ h. h;
    may_have = λ q n h told'. let told = told_back told' in elim (cases_eq q p) [
      | inl same ↦ subst (λ (k : ℕ). MayGive (kept_of limits maps'.pages maps'.bands begin (opened e'.steps)) (opened e'.steps) k n) (sym same) (may_new told n)
      | inr ne ↦ subst (λ (ds : List Change). MayGive (kept_of limits maps'.pages maps'.bands begin ds) ds q n) (sym (opened_is told))
          (with_flags maps maps' p (λ xs ys. MayGive (kept_of limits xs ys begin (Page p (Format kind) (Format 0) ∷ opened e.steps)) (Page p (Format kind) (Format 0) ∷ opened e.steps) q n) is_pages is_bands
          (may_take_other limits begin (opened e.steps) maps.pages maps.bands p kind q n free ne (h told)))
    ];
  };
  pages = λ told. record {
    was_free = ap (λ (b : Bool). if b && is_set unfreed.pages p then e.now.pages p else None) (set_by maps.pages p false free);
    fresh = record {
      what = empty_sheet kind;
      is =
          at_there maps'.pages unfreed.pages e'.now.pages p (and_both (is_set maps'.pages p) (is_set unfreed.pages p) (ap (λ (xs : List Bool). is_set xs p) is_pages ∙ set_here maps.pages p true below) (none_freed unfreed.pages p (freed told).pages (omega (arith, below, flags.long))))
          ∙ (took told).page;
      has = refl;
    };
    others = λ q ne.
        ap (λ (b : Bool). if b && is_set unfreed.pages q then e'.now.pages q else None) (ap (λ (xs : List Bool). is_set xs q) is_pages ∙ set_there maps.pages p q true ne)
        ∙ ap (λ (o : Option Sheet). if is_there maps.pages unfreed.pages q then o else None) ((took told).others q ne);
    free = let less = one_less maps.pages p free in let e1 : free_of maps'.pages ≡ free_of (slice_set maps.pages p true) = ap free_of is_pages in omega (arith, less, e1);
    count = ap length is_pages ∙ length-set maps.pages p true;
  };
  bands = λ told. (λ j. units_there (is_bands j) unfreed.bands (λ b. Some (e'.now.bands b))) ∙ ap (λ (x : ℕ → List ℕ). units_there maps.bands unfreed.bands (λ b. Some (x b))) (took told).bands;
  may_fill = λ told n h told'. may_new told n;
  small = omega (arith, below, flags.few);
  wrote = λ b h. let told = told_back h.0 in (told, unwritten (took told).steps b h.1);
})
  where
    below : p < length maps.pages
    below = slice_get_within maps.pages p false free

    opened_is : e.Told → opened e'.steps ≡ Page p (Format kind) (Format 0) ∷ opened e.steps
    opened_is told = opened_after s (took told).steps ∙ ap (λ (o : Op). Page p (Format kind) o ∷ opened e.steps) back

    may_new : e.Told → (n : ℕ) → MayGive (kept_of limits maps'.pages maps'.bands begin (opened e'.steps)) (opened e'.steps) p n
    may_new told n = subst (λ (ds : List Change). MayGive (kept_of limits maps'.pages maps'.bands begin ds) ds p n) (sym (opened_is told)) (may_take_new limits begin (opened e.steps) maps'.pages maps'.bands p kind n)

-- each that is taken says something, and so does the one that was taken
pub said_take : {e e' : EngineSeen} {p kind : ℕ} {c : PageChange} {txn last lsn : ℕ} (pages pages' : List Bool) → pages' ≡ slice_set pages p true → (e'.Told → e.Told) → (e.Told → AreSaid pages e.now.pages) → (e.Told → e'.Told → TookNow e e' p kind c txn last lsn) → e'.Told → AreSaid pages' e'.now.pages
said_take {e} {e'} {p} {kind} pages pages' is back said took told' n set = elim (cases_eq n p) [
  | inl same ↦ subst (λ (k : ℕ). IsSome (e'.now.pages k)) (sym same) (some_is (took (back told') told').page)
  | inr ne ↦ subst (λ (o : Option Sheet). IsSome o) (sym ((took (back told') told').others n ne)) (said (back told') n (sym (ap (λ (xs : List Bool). is_set xs n) is ∙ set_there pages p n true ne) ∙ set))
]
