-- What holds of an engine that tells.
use Rattle.std.proofs.Common.{◌≡◌, ◌≤◌, ◌<◌, ◌+◌, ◌*◌, ℕ, get_or, Bool, true, false, List, [], ◌++◌, length, Some, None, refl, sym, ap, ◌∙◌, subst, arith}
use Rattle.std.specs.Prelude.{if◌then◌else◌, nat_lt}
use Rattle.std.proofs.lemmas.List.{ext_get_or}
use Rattle.std.proofs.Props.{props}
use mathlib.Core.Logic.{∥∥₁_elim, ∥∥₁_prop}
use Rattle.sg_base.specs.Page.{stored, IsSlotted}
use Rattle.sg_base.specs.Sheet.{Sheet, sheet_of}
use Rattle.sg_base.specs.Slotted.{is_slotted}
use Rattle.sg_base.specs.declared.page.TheConstants.{BAND_SIZE}
use Rattle.sg_base.proofs.Testing.{is_slotted_page}
use Rattle.sg_disk.specs.Disk.{View}
use Rattle.sg_log.specs.Frames.{Numbered}
use Rattle.sg_log.specs.Held.{Tail}
use Rattle.sg_ops.specs.Table.{Table}
use Rattle.sg_pool.specs.declared.pool.Pool.{Pool}
use Rattle.sg_pool.specs.Pooled.{sizes, contents}
use Rattle.sg_pool.specs.Units.{Geometry}
use Rattle.sg_redo.specs.Leaf.{leaf_of}
use Rattle.sg_redo.proofs.Saying.{leaf_slotted}
use Rattle.sg_slotted.proofs.Room.{bytes_fit}
use Rattle.sg_recovery.specs.Log.{tally, is_in}
use Rattle.sg_recovery.specs.Laws.{Each}
use Rattle.sg_action.specs.States.{State}
use Rattle.sg_engine.specs.Effects.{IsBy}
use Rattle.sg_engine.specs.Engine.{Origin}
use Rattle.sg_engine.specs.Running.{IsEngine}
use Rattle.sg_engine.proofs.Pools.{page_bytes, band_bytes}
use Rattle.sg_actions.specs.Engine.{led, now_of, ArePagesFit, StandsNow}
use Rattle.sg_actions.specs.Cutting.{HasWanted}
use Rattle.sg_actions.specs.Images.{Grows}
use Rattle.sg_actions.specs.Painting.{AreBandsWhole}
use Rattle.sg_actions.specs.Steps.{repeated}
use Rattle.sg_phys_laws.specs.Listed.{listed}
use Rattle.sg_phys_laws.specs.Poised.{AreSaid, IsPoised}
use Rattle.sg_phys_laws.specs.Reading.{durable_in, waiting_in}
use Rattle.sg_phys_laws.specs.Recovers.{cut_at, no_band, RecoversBy}
use Rattle.sg_phys_laws.specs.States.{state_of, steps_of, homes_of, unsaid}
use Rattle.sg_phys_laws.proofs.Cutting.{cut_same, below_test}
use Rattle.sg_phys_laws.proofs.Fronting.{front_grows}
use Rattle.sg_phys_laws.proofs.Going.{said_more}
use Rattle.sg_phys_laws.proofs.Listing.{length-listed, get_or-listed, same-listed}
use Rattle.sg_phys_laws.proofs.Poised.{all_in_log, rest_images, none_stood}
use Rattle.sg_phys_laws.proofs.Fore.{repeated_behind}
use Rattle.sg_phys_laws.proofs.Recovered.{image_fix}
use Rattle.sg_phys_laws.proofs.Sets.{state_set, tally_set}
use Rattle.sg_phys_laws.proofs.Wrapped.{append_none}
use Rattle.sg_phys.specs.Phys.{Parts, StandsBy, StandsForSome, Tells, origin_at, pool_says, seen_by}
use Rattle.sg_phys.proofs.Behind.{grows_behind, image_behind, still_wanted, each_prop}
use Rattle.sg_phys.proofs.Images.{by_past, image_by}

-- WHAT THE STEPS MAKE is what the bytes say
now_is : (t : Table) (from : State) (o : Origin) (v : View) (log : Tail) (pool : Pool) → IsBy t o → IsPoised t from o v log pool → AreSaid t from o (all_in_log v log)
now_is t from o v log pool by p = said_more t from o (durable_in v log) (waiting_in log) by p.now.engine.engine.history.there (p.now.agrees (waiting_in log) [] (append_none (all_in_log v log))) p.said

-- WHAT A POOL SAYS is what the records made
pub pool_is : (o : Origin) (v : View) (log : Tail) (pool : Pool) (ds ps : List Numbered) → IsEngine o v log ds ps pool → pool_says v pool ≡ cut_at o.super (state_of (homes_of o (ds ++ ps)))
pool_is o v log pool ds ps e =
    let said : State = state_of (homes_of o (ds ++ ps)) in
    let held : State = record { size = unsaid; pages = λ n. leaf_of ((contents v pool).page n); bands = λ b. listed BAND_SIZE ((contents v pool).byte b) } in
    ap (λ (g : Geometry). record { size = record { pages = g.pages; bands = g.bands }; pages = λ n. if nat_lt n g.pages then held.pages n else None; bands = λ b. if nat_lt b g.bands then held.bands b else no_band }) e.sizes
    ∙ cut_same o.super held said
    (λ n lt. ap leaf_of (page_bytes o v v log ds ps pool n e (subst (λ (g : Geometry). n < g.pages) (sym e.sizes) lt)))
    (λ b lt. same-listed BAND_SIZE ((contents v pool).byte b) ((homes_of o (ds ++ ps)).byte b) (λ i small. band_bytes o v v log ds ps pool b i e (subst (λ (g : Geometry). b < g.bands) (sym e.sizes) lt) small))

-- a page that says something has cells that fit
leaf_fits : (page : List ℕ) (sheet : Sheet) → leaf_of page ≡ Some sheet → 4 * length sheet.slots + stored sheet.slots ≤ 4072
leaf_fits page sheet e = by (is_slotted page) refl e
  where
    some_is : (a b : Sheet) → Some a ≡ Some b → a ≡ b
    some_is a b h = cc

    by : (b : Bool) → is_slotted page ≡ b → (if b then Some (sheet_of page) else None) ≡ Some sheet → 4 * length sheet.slots + stored sheet.slots ≤ 4072
    by true is h = subst (λ (s : Sheet). 4 * length s.slots + stored s.slots ≤ 4072) (some_is (sheet_of page) sheet h) (bytes_fit page (is_slotted_page page is))
    by false is h = absurd cc

-- a page that a pool holds has cells that fit
pub says_fit : (v : View) (pool : Pool) → ArePagesFit (pool_says v pool)
says_fit v pool n sheet e = by (nat_lt n (sizes pool).pages) e
  where
    by : (b : Bool) → (if b then leaf_of ((contents v pool).page n) else None) ≡ Some sheet → 4 * length sheet.slots + stored sheet.slots ≤ 4072
    by true h = leaf_fits ((contents v pool).page n) sheet h
    by false h = absurd cc

-- each band that a pool holds has all its bytes
pub says_whole : (v : View) (pool : Pool) → AreBandsWhole (pool_says v pool)
says_whole v pool b = by (nat_lt b (sizes pool).bands)
  where
    by : (c : Bool) → length (if c then listed BAND_SIZE ((contents v pool).byte b) else no_band) ≡ BAND_SIZE
    by true = length-listed BAND_SIZE ((contents v pool).byte b)
    by false = length-listed BAND_SIZE (λ i. 0)

-- what is durable is a front
pub told_front : (Given : Type 0) (p : Parts) → Grows (seen_by Given p).durable (seen_by Given p).steps
told_front Given p = grows_behind (steps_of p.past.gone) (steps_of (durable_in p.disk p.log)) (steps_of (all_in_log p.disk p.log)) (front_grows (durable_in p.disk p.log) (waiting_in p.log))

-- WHERE IT TELLS, what it holds is what its steps make,
pub told_now : (Given : Type 0) (p : Parts) (t : Table) (from : State) → StandsBy Given p t from → Tells Given p.failed → (seen_by Given p).now ≡ now_of t (led from (seen_by Given p))
told_now Given p t from m tell = ∥∥₁_elim m.known (state_set (pool_says p.disk p.pool) (repeated t from (steps_of (all_in_log p.disk p.log) ++ steps_of p.past.gone))) (λ k.
    let o : Origin = origin_at t p.past in
    let q = (k tell.whole tell.tells).poised in
    pool_is o p.disk p.log p.pool (durable_in p.disk p.log) (waiting_in p.log) q.now.engine
    ∙ (now_is t (repeated t from (steps_of p.past.gone)) o p.disk p.log p.pool (by_past t p.past) q
    ∙ repeated_behind t from (steps_of (all_in_log p.disk p.log)) (steps_of p.past.gone)))

-- and each image that a crash leaves has a front of them
pub told_images : (Given : Type 0) (p : Parts) (t : Table) (from : State) → StandsBy Given p t from → Tells Given p.failed → StandsNow (RecoversBy t) t (led from (seen_by Given p))
told_images Given p t from m tell c leaves =
    let o : Origin = origin_at t p.past in
    let from' : State = repeated t from (steps_of p.past.gone) in
    let by : IsBy t o = by_past t p.past in
    let ds : List Numbered = durable_in p.disk p.log in
    let all : List Numbered = all_in_log p.disk p.log in
    let says : tally (steps_of ds) ≡ tally (steps_of ds ++ steps_of p.past.gone) = ∥∥₁_elim m.known (tally_set _ _) (λ k. (k tell.whole tell.tells).says) in
    image_behind t from (steps_of p.past.gone) (steps_of ds) (steps_of all) c says
    (image_by t o from' (steps_of ds) (steps_of all) c by
    (image_fix o t from' (steps_of ds) (steps_of all) c
    (∥∥₁_elim m.known ∥∥₁_prop (λ k. let q = (k tell.whole tell.tells).poised in ∣ (rest_images t from' o p.disk p.disk p.log p.pool by q (none_stood o p.disk p.log ds (waiting_in p.log) p.pool q.now.engine)).first c leaves ∣₁))))

-- bytes by their places
listed_is : (n : ℕ) (f : ℕ → ℕ) (xs : List ℕ) → length xs ≡ n → ((i : ℕ) → i < n → get_or xs i 0 ≡ f i) → listed n f ≡ xs
listed_is n f xs long same = ext_get_or 0 (listed n f) xs (length-listed n f ∙ sym long)
    (λ i below. let lt : i < n = (let e = length-listed n f in omega (arith, below, e)) in get_or-listed n f i lt ∙ sym (same i lt))

-- A LOOK AT A PAGE that is held, on any engine
pub shown_page : (v : View) (pool : Pool) (p : ℕ) (bytes : List ℕ) → p < (sizes pool).pages → IsSlotted bytes → bytes ≡ (contents v pool).page p → (pool_says v pool).pages p ≡ Some (sheet_of bytes)
shown_page v pool p bytes lt slotted is = let b = below_test p (sizes pool).pages lt in (rw b refl) ∙ (ap leaf_of (sym is) ∙ leaf_slotted bytes slotted)

-- and at a band
pub shown_band : (v : View) (pool : Pool) (n : ℕ) (bytes : List ℕ) → n < (sizes pool).bands → length bytes ≡ BAND_SIZE → ((i : ℕ) → i < BAND_SIZE → get_or bytes i 0 ≡ (contents v pool).byte n i) → (pool_says v pool).bands n ≡ bytes
shown_band v pool n bytes lt long is = let b = below_test n (sizes pool).bands lt in (rw b refl) ∙ listed_is BAND_SIZE ((contents v pool).byte n) bytes long is

-- WHAT IS STILL WANTED of the log stands at its first byte or behind it
pub told_wanted : (Given : Type 0) (p : Parts) → StandsForSome Given p.failed p.past p.disk p.log p.pool → Tells Given p.failed → HasWanted p.past.super.base (seen_by Given p).steps
told_wanted Given p some tell = record {
  begun = λ u live. ∥∥₁_elim (some tell) (hlevel props) (λ x. ∥∥₁_elim x.2.known (hlevel props) (λ k. (still_wanted x.0 x.1 p.past p.disk p.log p.pool (k tell.whole tell.tells)).begun u live));
  opened = let prop = each_prop p.past.super.base (λ d. d.lsn) (tally (seen_by Given p).steps).opened in
      ∥∥₁_elim (some tell) prop (λ x. ∥∥₁_elim x.2.known prop (λ k. (still_wanted x.0 x.1 p.past p.disk p.log p.pool (k tell.whole tell.tells)).opened));
}
