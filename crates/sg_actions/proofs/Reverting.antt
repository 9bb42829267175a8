-- What the recovery of a log takes from pages and bands: each change of an open action reverts.
use Rattle.std.proofs.Common.{◌≡◌, List, [], ◌∷◌, Option, Some, None, Bool, true, false, ap, ◌∙◌, refl}
use Rattle.std.specs.Prelude.{if◌then◌else◌, map}
use Rattle.sg_ops.specs.Table.{Table}
use Rattle.sg_record.specs.Changes.{Change as Changing}
use Rattle.sg_recovery.specs.Alike as recovery
use Rattle.sg_recovery.specs.Keeps.{Reverts}
use Rattle.sg_recovery.specs.Log.{Open, changes_of}
use Rattle.sg_recovery.specs.Setting.{Setting}
use Rattle.sg_recovery.specs.Stands as stands
use Rattle.sg_recovery.proofs.Alike.{takes_reverts}
use Rattle.sg_action.specs.States.{State, Kept, Alike, apply, fits, all_off, inverse_of}
use Rattle.sg_action.specs.Opened.{TakesTo}
use Rattle.sg_actions.specs.Changes.{meaning, comp_of}
use Rattle.sg_actions.proofs.TakenOff.{comp_applies, comp_fits}

-- the setting of pages and bands, with what is read of them; the rest is another's
abbrev pub pages_setting : Table → (s : Setting) → (State → Option s.O) → (s.O → s.N → List Changing → Option s.O) → (s.O → s.N → List Changing → s.W → Bool) → Setting
pages_setting t s reading unstep can_undo = record {
  X = State;
  C = Changing;
  O = s.O;
  S = s.S;
  N = s.N;
  V = s.V;
  apply = λ x c. apply t x (meaning c);
  fits = λ x c. fits t x (meaning c);
  inverse = comp_of;
  reading = reading;
  unstep = unstep;
  free = s.free;
  wants = s.wants;
  objects = s.objects;
  step = s.step;
  Below = s.Below;
  After = s.After;
  W = s.W;
  Freed = s.Freed;
  can_undo = can_undo;
  Within = s.Within;
  Clear = s.Clear;
  Apart = s.Apart;
  Writes = s.Writes;
}

-- the same changes are taken off, by what the records say
pub off_is : (t : Table) (s : Setting) (reading : State → Option s.O) (unstep : s.O → s.N → List Changing → Option s.O) (can_undo : s.O → s.N → List Changing → s.W → Bool) (ds : List (Open Changing)) (x : State)
    → stands.all_off (pages_setting t s reading unstep can_undo) ds x ≡ all_off t (map meaning (changes_of ds)) x
off_is t s reading unstep can_undo [] x = refl
off_is t s reading unstep can_undo (d ∷ ds) x =
    by_test (fits t x (meaning (comp_of d.change)))
    ∙ ((λ j. if comp_fits t x d.change j then stands.all_off (pages_setting t s reading unstep can_undo) ds (comp_applies t x d.change j) else None)
    ∙ ap (λ (o : Option State). if fits t x (inverse_of (meaning d.change)) then o else None) (off_is t s reading unstep can_undo ds (apply t x (inverse_of (meaning d.change)))))
  where
    by_test : (b : Bool) → stands.and_then (if b then Some (apply t x (meaning (comp_of d.change))) else None) (stands.all_off (pages_setting t s reading unstep can_undo) ds)
        ≡ (if b then stands.all_off (pages_setting t s reading unstep can_undo) ds (apply t x (meaning (comp_of d.change))) else None)
    by_test true = refl
    by_test false = refl

-- THE PROMISE OF THE PAGES' LAYER, in the words of a log's recovery
pub takes_is : (t : Table) (s : Setting) (reading : State → Option s.O) (unstep : s.O → s.N → List Changing → Option s.O) (can_undo : s.O → s.N → List Changing → s.W → Bool) (kept : Kept) (begin : State) (ds : List (Open Changing)) (x : State)
    → TakesTo t kept begin (map meaning (changes_of ds)) x → recovery.TakesTo (pages_setting t s reading unstep can_undo) (Alike kept) begin ds x
takes_is t s reading unstep can_undo kept begin ds x h = record { end = h.end; off = off_is t s reading unstep can_undo ds x ∙ h.off; alike = h.alike }

-- so each change reverts, where pages alike to those of the begin read as these
pub reverts : (t : Table) (s : Setting) (reading : State → Option s.O) (unstep : s.O → s.N → List Changing → Option s.O) (can_undo : s.O → s.N → List Changing → s.W → Bool) (kept : Kept) (begin : State) (ds : List (Open Changing)) (x : State) (d : Open Changing)
    → TakesTo t kept begin (map meaning (changes_of ds)) x → TakesTo t kept begin (meaning d.change ∷ map meaning (changes_of ds)) (apply t x (meaning d.change)) → ((y : State) → Alike kept y begin → reading y ≡ reading begin)
    → Reverts (pages_setting t s reading unstep can_undo) ds x d
reverts t s reading unstep can_undo kept begin ds x d h k reads =
    takes_reverts (pages_setting t s reading unstep can_undo) (Alike kept) begin ds x d (takes_is t s reading unstep can_undo kept begin ds x h) (takes_is t s reading unstep can_undo kept begin (d ∷ ds) (apply t x (meaning d.change)) k) reads
