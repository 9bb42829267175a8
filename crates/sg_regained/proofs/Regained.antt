-- AN ENGINE THAT AN OPENING FOUND, as the engine of a store: before a take-off, behind it, and behind the walk.
use Rattle.std.proofs.Common.{◌≡◌, ℕ, true, false, List, [], ◌++◌, length, Option, Some, Result, Ok, sym, ap, subst, ◌∙◌, refl, arith}
use Rattle.std.specs.Prelude.{OnOk, map}
use Rattle.sg_alloc.specs.declared.maps.Maps.{Maps}
use Rattle.sg_ops.specs.Table.{Table}
use Rattle.sg_record.specs.Changes.{Change as Changing}
use Rattle.sg_recovery.specs.Log.{Open, tally, changes_of}
use Rattle.sg_recovery.specs.Stands as stands
use Rattle.sg_action.specs.States.{State, all_off}
use Rattle.sg_actions.specs.Acting.{IsChained, IsWell}
use Rattle.sg_actions.specs.Changes.{meaning}
use Rattle.sg_actions.specs.Engine.{EngineSeen, ArePagesFit, led}
use Rattle.sg_actions.specs.Steps.{Steps, ended, opened, begin_of, repeated}
use Rattle.sg_actions.specs.Taken.{AreFlags}
use Rattle.sg_actions.specs.View.{HasFreedNone}
use Rattle.sg_actions.specs.declared.rows.Actor.{Actor}
use Rattle.sg_actions.specs.declared.rows.Row.{Row}
use Rattle.sg_actions.proofs.Beginning.{idle_opened}
use Rattle.sg_actions.proofs.Reverting.{off_is}
use Rattle.sg_contents.specs.Standing.{Contents}
use Rattle.sg_contents.specs.Meaning.{reading}
use Rattle.sg_reading.specs.Reading.{Reading}
use Rattle.sg_reader.specs.Alike.{ReadsAs}
use Rattle.sg_found.specs.Looks.{AreBytes}
use Rattle.sg_found.proofs.Running.{rest_idle}
use Rattle.sg_unread.specs.Unread.{LooksOn}
use Rattle.sg_walked.specs.Walked.{IsWalked}
use Rattle.sg_resumed.specs.Taking.{LeadsOff}
use Rattle.sg_resumed.proofs.Counted.{looks_now}
use Rattle.sg_store.specs.Engine as store
use Rattle.sg_store.specs.Engine.{Sizes, pages_of}
use Rattle.sg_ground.specs.Recovers.{Recovering}
use Rattle.sg_resuming.proofs.Offs.{offs_open, offs_lead}
use Rattle.sg_resuming.proofs.Walks.{walks_read, walks_free, none_read}
use Rattle.sg_shown.specs.Shown.{basis, basis_at, Over, AsFound, Finds, Keeping, Means, extent_of, lent, opened_of, shown_of}
use Rattle.sg_shown.proofs.History.{own, made_is, moments_are, grows_is}
use Rattle.sg_shown.proofs.Holding.{Facts, taken_same, counted_same, keeping_at_rest, idle_ended, engine_is}
use Rattle.sg_starting.specs.Starting.{CanResume, IsRead, TakesOff, TakenOff, IfBroken}
use Rattle.sg_starting.specs.declared.opening.StartFault.{StartFault}
use Rattle.sg_starting.specs.declared.opening.StartFault.TheVariants.{Space, Broken, Memory}
use Rattle.sg_regained.specs.Regained.{TookOff, RestsAt, EndVacant, CanGoOver}
use Rattle.sg_regained.proofs.Spared.{spare_of}
use Rattle.sg_regained.proofs.Taking.{offs_live, offs_notes}
use Rattle.sg_regained.proofs.Flagged.{well_now, walked_taken, walked_counted, walked_map}

-- WHAT CAN BE TAKEN OFF of pages that one run of steps makes can be of those that another makes, where both are what is held
pub leads_off : (recovers : Recovering) (a : Over) (t : Table) (z : Sizes) (from from' : State) → CanResume t (basis recovers z) (store.led t z from (opened_of recovers a))
    → a.engine.now ≡ repeated t from a.engine.steps → a.engine.now ≡ repeated t from' a.engine.steps → LeadsOff t (led from' a.engine)
leads_off recovers a t z from from' k is is' =
    let s = own recovers t z in
    let ds : List (Open Changing) = (tally a.engine.steps).opened in
    let y : State = stands.made s from a.engine.steps in
    let same : y ≡ repeated t from' a.engine.steps = made_is recovers t z from a.engine.steps ∙ (sym is ∙ is') in
    record {
      end = k.off.0;
      off = subst (λ (x : State). all_off t (map meaning (changes_of ds)) x ≡ Some k.off.0) same (sym (off_is t s s.reading s.unstep s.can_undo ds y) ∙ k.off.1);
    }

-- and the other way round
pub off_leads : (recovers : Recovering) (e : EngineSeen) (t : Table) (z : Sizes) (from : State) (l : LeadsOff t (led from e))
    → stands.all_off (own recovers t z) (tally e.steps).opened (stands.made (own recovers t z) from e.steps) ≡ Some l.end
off_leads recovers e t z from l =
    let s = own recovers t z in
    let ds : List (Open Changing) = (tally e.steps).opened in
    off_is t s s.reading s.unstep s.can_undo ds (stands.made s from e.steps)
    ∙ (ap (λ (x : State). all_off t (map meaning (changes_of ds)) x) (made_is recovers t z from e.steps) ∙ l.off)

-- BEHIND LOOKS no action is open, and the system acts, as before
pub rests_on : {recovers : Table → Rattle.sg_actions.specs.Images.Recovering} {t : Table} {b c : EngineSeen} {m n : Table → State → Type 0} {rows : List Row} {actor : Actor} (from : State)
    → LooksOn recovers t b c m n → m t from → (c.Told → c.failed ≡ false) → RestsAt b rows actor → c.Told → RestsAt c rows actor
rests_on {recovers} {t} {b} {c} {m} {n} {rows} {actor} from l stands whole r told =
    let y = (l.reads from stands (l.told told)).stays (whole told) in
    record {
      chain = subst (λ (k : ℕ). IsChained k c.steps c.tail rows actor) (sym l.base)
          (subst (λ (rs : Steps). IsChained b.base rs c.tail rows actor) (sym y.steps)
          (subst (λ (k : ℕ). IsChained b.base b.steps k rows actor) (sym l.tail) r.chain));
      rest = r.rest;
    }

-- WHAT THE RECORDS MEAN behind the walk
pub record IsRegained (c : Over) (t : Table) (z : Sizes) (from : State) : Type 0 where
  pub rests : RestsAt c.engine c.rows c.actor
  pub walked : IsWalked z.pages z.bands c.engine.now c.maps
  pub bytes : AreBytes c.maps.pages (length c.maps.pages) c.engine.now
  pub fit : ArePagesFit c.engine.now
  pub now : c.engine.now ≡ repeated t from c.engine.steps
  pub freed : HasFreedNone c.unfreed
  pub page_flags : AreFlags c.maps.pages c.unfreed.pages
  pub band_flags : AreFlags c.maps.bands c.unfreed.bands
  pub spare : EndVacant c.rows

-- no change is open
pub none_open : {c : Over} {t : Table} {z : Sizes} {from : State} → IsRegained c t z from → (tally c.engine.steps).opened ≡ []
none_open {c} h = rest_idle c.engine.base c.engine.steps c.engine.tail c.rows (subst (λ (x : Actor). IsChained c.engine.base c.engine.steps c.engine.tail c.rows x) h.rests.rest h.rests.chain)

pub keeps_now : (c : Over) (t : Table) (z : Sizes) (from : State) → IsRegained c t z from → Keeping c t z from
keeps_now c t z from h =
    let rs : Steps = c.engine.steps in
    let idle : ended rs ≡ rs = idle_ended rs h.rests.chain.closed (none_open h) in
    let begin : c.engine.now ≡ begin_of t from rs = h.now ∙ ap (repeated t from) (sym idle) in
    let well : IsWell t (c.limits z.pages z.bands) (begin_of t from rs) (opened rs) c.maps.pages c.maps.bands =
    subst (λ (ds : List Rattle.sg_action.specs.States.Change). IsWell t (c.limits z.pages z.bands) (begin_of t from rs) ds c.maps.pages c.maps.bands) (sym (idle_opened rs idle))
    (subst (λ (x : State). IsWell t (c.limits z.pages z.bands) x [] c.maps.pages c.maps.bands) begin (well_now t (c.limits z.pages z.bands) c.engine.now c.maps.pages c.maps.bands h.bytes h.fit)) in
    let same : (repeated t from rs).pages ≡ c.engine.now.pages = ap (λ (x : State). x.pages) (sym h.now) in
    keeping_at_rest c t z from (record { chain = h.rests.chain; well = well })
    (record { idle = idle; system = ap (λ (x : Actor). x.txn.0) h.rests.rest; freed = h.freed })
    (taken_same same (λ p e. e) (λ b e. e) (walked_taken z c.engine.now c.maps c.unfreed h.walked h.freed h.page_flags h.band_flags))
    (counted_same refl refl same (walked_counted z c.engine.now c.maps c.unfreed h.walked h.freed h.page_flags h.band_flags))
    (walked_map z c.engine.now c.maps c.unfreed h.walked h.freed h.page_flags h.band_flags)
    (spare_of c.engine c.rows c.actor h.spare h.rests)

pub means_now : (a c : Over) (t : Table) (z : Sizes) (from : State) → Finds a t z from → c.means t from → c.limits ≡ a.limits → c.begun ≡ false
    → length c.maps.pages ≡ length a.maps.pages → length c.maps.bands ≡ length a.maps.bands → (c.engine.Told → IsRegained c t z from) → Means c t z from
means_now a c t z from f stands limits begun pages bands h = record {
  since = record { stands = stands; since = λ e. absurd (let x : false ≡ true = sym begun ∙ e in cc) };
  size = f.size;
  pages = pages ∙ f.pages;
  bands = bands ∙ f.bands;
  limits = ap (λ (l : (pages bands : ℕ) → State → ℕ → ℕ). l z.pages z.bands) limits ∙ f.limits;
  keeps = λ told. keeps_now c t z from (h told);
}

-- WHAT IS TAKEN OFF, as an opening of a store says it
module _ (recovers : Recovering) (a c : Over) (t : Table) (z : Sizes) (from : State) (txn : ℕ) (w : TookOff (recovers t) t txn (led from a.engine) (led from c.engine)) where
  abbrev pub takes_off : from.size ≡ extent_of z → TakesOff t (basis recovers z) (store.led t z from (opened_of recovers a)) (store.led t z from (shown_of recovers c))
  takes_off size = record {
    made = w.went.made;
    steps = offs_open (basis_at recovers z) t txn from w.went.made a.engine.steps w.went.are;
    formed = w.went.formed;
    moments = moments_are recovers t z (store.led t z from (opened_of recovers a)) c.engine.disk (w.went.made ++ a.engine.steps) size w.went.moments;
    owed = w.owed;
  }

  module _ (h : IsRegained c t z from) (told : c.engine.Told) (whole : c.engine.failed ≡ false) (l : LeadsOff t (led from a.engine)) where
    steps : c.engine.steps ≡ w.went.made ++ a.engine.steps
    steps = (w.went.gone whole).steps

    none : (tally (w.went.made ++ a.engine.steps)).opened ≡ []
    none = ap (λ (rs : Steps). (tally rs).opened) (sym steps) ∙ none_open h

    led_to : (stands.made (own recovers t z) from (w.went.made ++ a.engine.steps) ≡ l.end)
        × (stands.settled (own recovers t z) (tally a.engine.steps).opened (stands.made (own recovers t z) from a.engine.steps) ≡ (own recovers t z).reading l.end)
    led_to = offs_lead (basis_at recovers z) t txn from l.end w.went.made a.engine.steps w.went.are (off_leads recovers a.engine t z from l) none

    -- what the pages hold is what is left once the open changes are taken off
    end_is : l.end ≡ c.engine.now
    end_is = sym led_to.0 ∙ (made_is recovers t z from (w.went.made ++ a.engine.steps) ∙ (ap (repeated t from) (sym steps) ∙ sym h.now))

    pub settled_is : stands.settled (own recovers t z) (tally a.engine.steps).opened (stands.made (own recovers t z) from a.engine.steps) ≡ (basis recovers z).reading c.engine.now
    settled_is = led_to.1 ∙ ap (basis recovers z).reading end_is

    pub reads : (o : Reading) × IsRead t (basis recovers z) (store.led t z from (opened_of recovers a)) o
    reads = (reading h.walked.contents, settled_is ∙ walks_read (basis_at recovers z) c.engine.now c.maps h.walked)

    pages_now : pages_of t (basis recovers z) (store.led t z from (shown_of recovers c)) ≡ c.engine.now
    pages_now = made_is recovers t z from c.engine.steps ∙ sym h.now

    pub taken_off : (m : Means c t z from) → Facts recovers c t from → c.begun ≡ false
        → TakenOff t (basis recovers z) (store.led t z from (opened_of recovers a)) (store.led t z from (shown_of recovers c)) w.went.made
    taken_off m facts begun = record {
      engine = engine_is recovers c t z from m told facts;
      first = refl;
      log = steps;
      durable = grows_is (w.went.gone whole).durable;
      idle = none_open h;
      live = ap (λ (rs : Steps). (tally rs).live) steps ∙ offs_live txn w.went.made a.engine.steps w.went.are;
      notes = ap (λ (rs : Steps). (tally rs).notes) steps ∙ offs_notes txn w.went.made a.engine.steps w.went.are;
      reads = λ o is. ap (basis recovers z).reading pages_now ∙ (sym settled_is ∙ is);
      free = λ o e.
          let f = walks_free (basis_at recovers z) c.engine.now c.maps h.walked o (ap (basis recovers z).reading (sym pages_now) ∙ e) in
          let none = h.freed.pages in omega (arith, f, none);
    }

-- WHERE THE PAGES ARE BROKEN behind the take-off they read as nothing
pub none_read_of : (recovers : Recovering) (a b : Over) (t : Table) (z : Sizes) (from : State) (txn : ℕ) (w : TookOff (recovers t) t txn (led from a.engine) (led from b.engine))
    → b.engine.failed ≡ false → (tally b.engine.steps).opened ≡ [] → b.engine.now ≡ repeated t from b.engine.steps → LeadsOff t (led from a.engine)
    → ((s : Contents) → ReadsAs z.pages z.bands b.engine.now s → ⊥) → (o : Reading) → IsRead t (basis recovers z) (store.led t z from (opened_of recovers a)) o → ⊥
none_read_of recovers a b t z from txn w whole idle now l none o is =
    let steps : b.engine.steps ≡ w.went.made ++ a.engine.steps = (w.went.gone whole).steps in
    let led_to = offs_lead (basis_at recovers z) t txn from l.end w.went.made a.engine.steps w.went.are (off_leads recovers a.engine t z from l) (ap (λ (rs : Steps). (tally rs).opened) (sym steps) ∙ idle) in
    let end_is : l.end ≡ b.engine.now = sym led_to.0 ∙ (made_is recovers t z from (w.went.made ++ a.engine.steps) ∙ (ap (repeated t from) (sym steps) ∙ sym now)) in
    none_read (basis_at recovers z) b.engine.now none o (sym (ap (basis recovers z).reading end_is) ∙ (sym led_to.1 ∙ is))

-- THE WALK behind a take-off
pub record HasReached (recovers : Table → Rattle.sg_actions.specs.Images.Recovering) (b c : Over) (t : Table) (from : State) : Type 0 where
  pub looks : LooksOn recovers t b.engine c.engine b.means c.means
  pub stands : b.means t from
  pub whole : c.engine.failed ≡ false
  pub rests : RestsAt b.engine b.rows b.actor
  pub rows : c.rows ≡ b.rows
  pub actor : c.actor ≡ b.actor
  pub walked : IsWalked (length b.maps.pages) (length b.maps.bands) b.engine.now c.maps
  pub bytes : AreBytes c.maps.pages (length b.maps.pages) b.engine.now
  pub pages : length c.maps.pages ≡ length b.maps.pages
  pub was : b.engine.now ≡ repeated t from b.engine.steps
  pub now : c.engine.now ≡ repeated t from c.engine.steps
  pub fit : ArePagesFit c.engine.now
  pub freed : HasFreedNone c.unfreed
  pub page_flags : AreFlags c.maps.pages c.unfreed.pages
  pub band_flags : AreFlags c.maps.bands c.unfreed.bands
  pub spare : EndVacant b.rows

pub regained_by : {recovers : Table → Rattle.sg_actions.specs.Images.Recovering} {b c : Over} {t : Table} (z : Sizes) {from : State} → length b.maps.pages ≡ z.pages → length b.maps.bands ≡ z.bands
    → c.engine.Told → HasReached recovers b c t from → IsRegained c t z from
regained_by {recovers} {b} {c} {t} z {from} pages bands told h =
    let same : c.engine.now ≡ b.engine.now = looks_now h.looks from h.stands (h.looks.told told) (λ k. h.whole) told h.was h.now in
    let rests : RestsAt c.engine b.rows b.actor = rests_on from h.looks h.stands (λ k. h.whole) h.rests told in
    record {
      rests = subst (λ (xs : List Row). RestsAt c.engine xs c.actor) (sym h.rows) (subst (λ (x : Actor). RestsAt c.engine b.rows x) (sym h.actor) rests);
      walked = subst (λ (x : State). IsWalked z.pages z.bands x c.maps) (sym same)
          (subst (λ (n : ℕ). IsWalked z.pages n b.engine.now c.maps) bands (subst (λ (n : ℕ). IsWalked n (length b.maps.bands) b.engine.now c.maps) pages h.walked));
      bytes = subst (λ (n : ℕ). AreBytes c.maps.pages n c.engine.now) (sym h.pages) (subst (λ (x : State). AreBytes c.maps.pages (length b.maps.pages) x) (sym same) h.bytes);
      fit = h.fit;
      now = h.now;
      freed = h.freed;
      page_flags = h.page_flags;
      band_flags = h.band_flags;
      spare = subst (λ (xs : List Row). EndVacant xs) (sym h.rows) h.spare;
    }

-- AS MANY PAGES AND BANDS, where the same flags say what is freed
pub long_same : (a b : Over) → b.unfreed ≡ a.unfreed → AreFlags a.maps.pages a.unfreed.pages → AreFlags b.maps.pages b.unfreed.pages → length b.maps.pages ≡ length a.maps.pages
long_same a b u f g = sym g.long ∙ (ap (λ (m : Maps). length m.pages) u ∙ f.long)

pub wide_same : (a b : Over) → b.unfreed ≡ a.unfreed → AreFlags a.maps.bands a.unfreed.bands → AreFlags b.maps.bands b.unfreed.bands → length b.maps.bands ≡ length a.maps.bands
wide_same a b u f g = sym g.long ∙ (ap (λ (m : Maps). length m.bands) u ∙ f.long)

-- WHAT HOLDS WHERE A PAGE IS BROKEN
pub broken_then : {P Q : Type 0} (w : StartFault) → (P → Q) → IfBroken w P → IfBroken w Q
broken_then (Space fault) f h = tt
broken_then (Broken page) f h = f h
broken_then Memory f h = tt

-- what holds of a result that is none of a failure
pub on_ok_at : {T F P : Type 0} (r : Result T F) (x : T) → r ≡ Ok x → OnOk r P → P
on_ok_at {T} {F} {P} r x is h = subst (λ (q : Result T F). OnOk q P) is h

-- WHAT WAS FOUND doesn't depend on the flags that are lent
pub found_with : (a : Over) (room room' : Option Maps) → AsFound (lent a room) → AsFound (lent a room')
found_with a room room' f = record { based = f.based; start = f.start; clear = f.clear; freed = f.freed; rows = f.rows; low = f.low; apart = f.apart; known = f.known; quiet = f.quiet; rest = f.rest; acts = f.acts }

-- A WALK MAY GO over so many pages and bands
pub can_go_over : (room : Option Maps) (unfreed unfreed' : Maps) (pages bands pages' bands' : ℕ) → pages ≡ pages' → bands ≡ bands' → unfreed ≡ unfreed' → CanGoOver room unfreed' pages' bands' → CanGoOver room unfreed pages bands
can_go_over room unfreed unfreed' pages bands pages' bands' p b u h =
    subst (λ (n : ℕ). CanGoOver room unfreed n bands) (sym p) (subst (λ (n : ℕ). CanGoOver room unfreed pages' n) (sym b) (subst (λ (m : Maps). CanGoOver room m pages' bands') (sym u) h))

pub can_found : (a b : Over) (t : Table) (z : Sizes) (from : State) → Finds a t z from → HasFreedNone a.unfreed → b.unfreed ≡ a.unfreed → length b.maps.pages ≡ length a.maps.pages → length b.maps.bands ≡ length a.maps.bands
    → CanGoOver a.room b.unfreed (length b.maps.pages) (length b.maps.bands)
can_found a b t z from f freed u long wide =
    can_go_over a.room b.unfreed a.unfreed (length b.maps.pages) (length b.maps.bands) z.pages z.bands (long ∙ f.pages) (wide ∙ f.bands) u (record { room_is = f.room; first = f.first; map = f.map; freed = freed })
