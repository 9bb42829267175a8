-- What a space over an engine shows once a piece of a band is written.
use Rattle.std.proofs.Common.{◌≡◌, ℕ, List, ◌∷◌, length, Some, None, Bool, true, sym, ap, subst, ◌∙◌, refl}
use Rattle.std.specs.Prelude.{if◌then◌else◌}
use Rattle.sg_alloc.specs.declared.maps.Maps.{Maps}
use Rattle.sg_base.specs.Overwritten.{overwritten}
use Rattle.sg_ops.specs.Table.{Table}
use Rattle.sg_record.specs.Changes.Change.{SegWrite}
use Rattle.sg_recovery.specs.Log.Record.{Change as ChangeStep}
use Rattle.sg_action.specs.States.{State, Change, apply, made}
use Rattle.sg_action.specs.States.Change.{Write}
use Rattle.sg_action.specs.Opened.{StoodThere}
use Rattle.sg_action.proofs.Opened.{one_here, one_there}
use Rattle.sg_space.specs.Bands.{Wrote}
use Rattle.sg_actions.specs.Acting.{IsWell}
use Rattle.sg_actions.specs.Changes.{bytes_with}
use Rattle.sg_actions.specs.Engine.{EngineView, EngineSeen, now_of}
use Rattle.sg_actions.specs.Steps.{Steps, opened, begin_of}
use Rattle.sg_actions.specs.Taken.{is_there, units_there, writes_band}
use Rattle.sg_actions.specs.View.{IsKept, acts_view, MayGiveNow}
use Rattle.sg_actions.specs.declared.rows.Actor.{Actor}
use Rattle.sg_actions.specs.declared.rows.Row.{Row}
use Rattle.sg_actions.proofs.Acting.{acting_change}
use Rattle.sg_actions.proofs.Calling.{MayGoOn}
use Rattle.sg_actions.proofs.Flags.{there_is, at_there, written_in}
use Rattle.sg_actions.proofs.Led.{Made}
use Rattle.sg_actions.proofs.Repeating.{made_opened}

-- THE OPEN ACTION GOES ON with a write
pub goes_on_write : (t : Table) (limits : State → ℕ → ℕ) (begin : State) (ds : List Change) (pages bands : List Bool) (b at : ℕ) (before after : List ℕ) → StoodThere ((made t begin ds).bands b) at (length after) before
    → IsWell t limits begin ds pages bands → IsWell t limits begin (Write b at before after ∷ ds) pages bands
goes_on_write t limits begin ds pages bands b at before after stood w = record { begun = w.begun; fit = w.fit; opens = (w.opens, stood); well = (w.well, tt); used = w.used }

same_some : {A : Type 0} (x y : A) → Some x ≡ Some y → x ≡ y
same_some x y h = cc

-- what is kept goes on with it, whatever number its record has
pub write_on : (t : Table) (limits : State → ℕ → ℕ) (e : EngineView) (maps : Maps) (rows : List Row) (actor : Actor) (b at' count : ℕ) (before after : List ℕ) → StoodThere ((now_of t e).bands b) at' (length after) before
    → IsKept t limits e maps rows actor → MayGoOn t limits e maps rows actor (SegWrite (bytes_with b at' count before after))
write_on t limits e maps rows actor b at' count before after stood k lsn next above below = acting_change (SegWrite (bytes_with b at' count before after)) lsn next above below
    (goes_on_write t limits (begin_of t e.first e.steps) (opened e.steps) maps.pages maps.bands b at' before after (subst (λ (x : State). StoodThere (x.bands b) at' (length after) before) (sym (made_opened t e.first e.steps)) stood)) k

pub shows_write : {begun : Bool} (t : Table) (limits : State → ℕ → ℕ) (e e' : EngineSeen) (begin : State) (breaks : ℕ) (maps unfreed : Maps) (b at count txn last lsn : ℕ) (before after : List ℕ) → is_there maps.bands unfreed.bands b ≡ true
    → (e.Told → e'.Told) → (e'.Told → e.Told) → (e.Told → Made t e e' (ChangeStep txn last (SegWrite (bytes_with b at count before after))) lsn)
    → Wrote (acts_view limits e begun begin breaks maps unfreed) (acts_view limits e' begun begin breaks maps unfreed) b at after
shows_write {begun} t limits e e' begin breaks maps unfreed b at count txn last lsn before after there still back made = record {
  keeps = record {
    told = still;
    may_take = λ h. h;
    may_have = λ q n h told'. let told = back told' in subst (λ (rs : Steps). MayGiveNow limits begin rs maps.pages maps.bands q n) (sym (made told).steps) (record { grown = (h told).grown; within = (h told).within });
  };
  bands = λ told. record {
    here = λ x is.
        let old : e.now.bands b ≡ x = same_some (e.now.bands b) x (there_is maps.bands unfreed.bands (λ n. Some (e.now.bands n)) b x is).is in
        at_there maps.bands unfreed.bands (λ n. Some (e'.now.bands n)) b there
        ∙ ap Some (ap (λ (y : State). y.bands b) (now told) ∙ (one_here e.now.bands b (overwritten (e.now.bands b) at after) ∙ ap (λ (xs : List ℕ). overwritten xs at after) old));
    others = λ q ne. ap (λ (xs : List ℕ). if is_there maps.bands unfreed.bands q then Some xs else None) (ap (λ (y : State). y.bands q) (now told) ∙ one_there e.now.bands b q (overwritten (e.now.bands b) at after) ne);
    free = refl;
    count = refl;
  };
  pages = λ told. ap (λ (y : State). units_there maps.pages unfreed.pages y.pages) (now told);
  writes = record { wrote = λ n h. let told = back h.0 in written_in b n (opened e.steps) told (sym (ap (λ (rs : Steps). writes_band (opened rs) n) (made told).steps) ∙ h.1) };
}
  where
    now : e.Told → e'.now ≡ apply t e.now (Write b at before after)
    now told = (made told).now
