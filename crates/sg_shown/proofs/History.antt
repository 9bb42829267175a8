-- THE ENGINE'S HISTORY IS THE STORE'S: what steps make of pages and bands, which image is whose, and what an open action is taken off to.
use Rattle.std.proofs.Common.{◌≡◌, ℕ, suc, List, [], ◌∷◌, ◌++◌, length, drop, Some, sym, ap, subst, ◌∙◌, refl}
use Rattle.std.specs.Prelude.{map}
use Rattle.sg_disk.specs.Disk as disk
use Rattle.sg_disk.specs.Disk.{Image, LeavesOnly}
use Rattle.sg_disk.proofs.Moments.{weaker}
use Rattle.sg_ops.specs.Table.{Table}
use Rattle.sg_recovery.specs.Alike.{TakesTo}
use Rattle.sg_recovery.specs.Log.{Open, tally, changes_of}
use Rattle.sg_recovery.specs.Log.Record.{Begin, Change, TopEnd, PhysComp, TopVoid, CompEnd, Save, Commit, End}
use Rattle.sg_recovery.specs.Setting.{Setting}
use Rattle.sg_recovery.specs.Stands as stands
use Rattle.sg_record.specs.Changes.{Change as Changing}
use Rattle.sg_action.specs.Opened as opened
use Rattle.sg_action.specs.States.{State, Kept}
use Rattle.sg_actions.specs.Changes.{meaning}
use Rattle.sg_actions.specs.Images as images
use Rattle.sg_actions.specs.Later as later
use Rattle.sg_actions.specs.Steps.{Step, Steps, stepped, redo, repeated, ended}
use Rattle.sg_actions.proofs.Reverting.{takes_is}
use Rattle.sg_actions.proofs.Sized.{repeated_sized}
use Rattle.sg_contents.specs.Standing.{Contents}
use Rattle.sg_reader.specs.Reader.{KeepsReached, limits}
use Rattle.sg_reader.proofs.Decide.{reader}
use Rattle.sg_reader.proofs.Spaces.{kept_alike}
use Rattle.sg_join.specs.Join.{Grows, IsFront}
use Rattle.sg_store.specs.Engine.{Sizes, View, Action, IsImageOf, AreChanges, before_open}
use Rattle.sg_store.specs.Ground.{setting}
use Rattle.sg_ground.specs.Recovers.{Recovering}
use Rattle.sg_shown.specs.Shown.{RecoversSized, basis, extent_of}
use Rattle.sg_shown.specs.Taken.{AreTaken}

-- the setting of a log over so many pages and bands
abbrev pub own : Recovering → Table → Sizes → Setting
own recovers t z = setting t (basis recovers z)

-- REDO
redo_is : (recovers : Recovering) (t : Table) (z : Sizes) (x : Step) (y : State) → stands.redo (own recovers t z) x y ≡ redo t x y
redo_is recovers t z (Begin u p) y = refl
redo_is recovers t z (Change u p c) y = refl
redo_is recovers t z (TopEnd u p w n) y = refl
redo_is recovers t z (PhysComp u p w c) y = refl
redo_is recovers t z (TopVoid u p w) y = refl
redo_is recovers t z (CompEnd u p w) y = refl
redo_is recovers t z (Save u p m) y = refl
redo_is recovers t z (Commit u p) y = refl
redo_is recovers t z (End u p) y = refl

-- and history repeated
pub made_is : (recovers : Recovering) (t : Table) (z : Sizes) (from : State) (rs : Steps) → stands.made (own recovers t z) from rs ≡ repeated t from rs
made_is recovers t z from [] = refl
made_is recovers t z from (r ∷ rs) = redo_is recovers t z r.is (stands.made (own recovers t z) from rs) ∙ ap (redo t r.is) (made_is recovers t z from rs)

-- of as many pages and bands as before
pub made_sized : (recovers : Recovering) (t : Table) (z : Sizes) (from : State) (rs : Steps) → (stands.made (own recovers t z) from rs).size ≡ from.size
made_sized recovers t z from rs = ap (λ (x : State). x.size) (made_is recovers t z from rs) ∙ repeated_sized t from rs

-- LOGS
pub grows_is : {earlier more : Steps} → images.Grows earlier more → Grows earlier more
grows_is h = record { since = h.since; all = h.all }

front_is : {durable log front : Steps} → images.IsFront durable log front → IsFront durable log front
front_is h = record { within = grows_is h.within; whole = grows_is h.whole }

-- IMAGES
pub image_is : (recovers : Recovering) (t : Table) (z : Sizes) (v : View (basis recovers z)) (log : Steps) (c : Image) → v.first.size ≡ extent_of z
    → images.IsImageOf (recovers t) t v.first v.durable log c → IsImageOf t (basis recovers z) v log c
image_is recovers t z v log c size h = record {
  front = h.front;
  is_front = front_is h.is_front;
  left = h.left;
  says = h.says;
  recovers = record {
    image = subst (λ (x : State). recovers t c h.left x) (sym (made_is recovers t z v.first h.front)) h.recovers;
    size = made_sized recovers t z v.first h.front ∙ size;
  };
}

pub moments_are : (recovers : Recovering) (t : Table) (z : Sizes) (v : View (basis recovers z)) (new : disk.View) (log : Steps) → v.first.size ≡ extent_of z
    → LeavesOnly v.disk new (images.IsImageOf (recovers t) t v.first v.durable log) → LeavesOnly v.disk new (IsImageOf t (basis recovers z) v log)
moments_are recovers t z v new log size m = weaker m (λ c h. image_is recovers t z v log c size h)

-- AN ACTION

-- what was reached at its begin was taken then
pub kept_reached : (z : Sizes) (kept : Kept) (begin : State) → kept.slots ≡ limits (reader z.pages z.bands) begin
    → AreTaken z kept.pages kept.bands begin.pages → (s : Contents) → (reader z.pages z.bands).contents begin ≡ Some s
    → KeepsReached (reader z.pages z.bands) kept begin s
kept_reached z kept begin slots h s e =
    let r = (reader z.pages z.bands).sound begin s e in record {
      pages = λ p q. h.pages begin.size begin.bands s r p q;
      slots = λ p q. ap (λ (f : ℕ → ℕ). f p) slots;
      bands = λ b q. h.bands begin.size begin.bands s r b q;
    }

-- so it is taken off to what reads the same
pub takes_to : (recovers : Recovering) (t : Table) (z : Sizes) (kept : Kept) (begin : State) (ds : List (Open Changing)) (x : State)
    → kept.slots ≡ limits (reader z.pages z.bands) begin → AreTaken z kept.pages kept.bands begin.pages
    → opened.TakesTo t kept begin (map meaning (changes_of ds)) x → TakesTo (own recovers t z) (basis recovers z).Alike begin ds x
takes_to recovers t z kept begin ds x slots taken h =
    let s : Setting = own recovers t z in
    let k = takes_is t s s.reading s.unstep s.can_undo kept begin ds x h in record {
      end = k.end;
      off = k.off;
      alike = λ r e. kept_alike z.pages z.bands (reader z.pages z.bands) kept begin k.end r e (kept_reached z kept begin slots taken r e) k.alike;
    }

-- and its changes are
pub changes_are : (recovers : Recovering) (t : Table) (z : Sizes) (kept : Kept) (from : State) (a : Action (basis recovers z))
    → kept.slots ≡ limits (reader z.pages z.bands) a.pages → AreTaken z kept.pages kept.bands a.pages.pages
    → (ds log : Steps) → later.AreChanges t kept a.pages from a.transaction ds log → AreChanges t (basis recovers z) from a ds log
changes_are recovers t z kept from a slots taken [] log h = tt
changes_are recovers t z kept from a slots taken (r ∷ ds) log h = (
  h.0,
  h.1,
  subst (λ (x : State). TakesTo (own recovers t z) (basis recovers z).Alike a.pages (tally (r ∷ (ds ++ log))).opened x) (sym (made_is recovers t z from (r ∷ (ds ++ log))))
      (takes_to recovers t z kept a.pages (tally (r ∷ (ds ++ log))).opened (repeated t from (r ∷ (ds ++ log))) slots taken h.2),
  changes_are recovers t z kept from a slots taken ds log h.3,
)

-- THE STEPS BEFORE THE OPEN ACTION are those but its changes
pub before_is : (rs : Steps) → (tally (ended rs)).opened ≡ [] → before_open rs ≡ ended rs
before_is [] h = refl
before_is (r ∷ rs) h = by_step r.lsn r.is (λ k. before_is rs k) h
  where
    at_border : (lsn : ℕ) (x : Step) → ended (stepped rs lsn x) ≡ stepped rs lsn x → (tally (ended (stepped rs lsn x))).opened ≡ [] → before_open (stepped rs lsn x) ≡ ended (stepped rs lsn x)
    at_border lsn x same none =
        let e : (tally (stepped rs lsn x)).opened ≡ [] = sym (ap (λ (xs : Steps). (tally xs).opened) same) ∙ none in
        ap (λ (ds : List (Open Changing)). drop (length ds) (stepped rs lsn x)) e ∙ sym same

    by_step : (lsn : ℕ) (x : Step) → ((tally (ended rs)).opened ≡ [] → before_open rs ≡ ended rs) → (tally (ended (stepped rs lsn x))).opened ≡ [] → before_open (stepped rs lsn x) ≡ ended (stepped rs lsn x)
    by_step lsn (Begin u p) rest none = at_border lsn (Begin u p) refl none
    by_step lsn (Change u p c) rest none =
        let one : length (tally (stepped rs lsn (Change u p c))).opened ≡ suc (length (tally rs).opened) = refl in
        ap (λ (n : ℕ). drop n (stepped rs lsn (Change u p c))) one ∙ rest none
    by_step lsn (TopEnd u p w n) rest none = at_border lsn (TopEnd u p w n) refl none
    by_step lsn (PhysComp u p w c) rest none = at_border lsn (PhysComp u p w c) refl none
    by_step lsn (TopVoid u p w) rest none = at_border lsn (TopVoid u p w) refl none
    by_step lsn (CompEnd u p w) rest none = at_border lsn (CompEnd u p w) refl none
    by_step lsn (Save u p m) rest none = at_border lsn (Save u p m) refl none
    by_step lsn (Commit u p) rest none = at_border lsn (Commit u p) refl none
    by_step lsn (End u p) rest none = at_border lsn (End u p) refl none
