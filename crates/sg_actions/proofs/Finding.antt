-- The walk of an undo comes to the note that is undone next.
use Rattle.std.proofs.Common.{◌≡◌, ◌≢◌, ℕ, ◌<◌, ◌≤◌, List, Option, Some, None, sym, ap, subst, ◌∙◌, refl, arith, inl, inr}
use Rattle.std.specs.Prelude.{option_map}
use Rattle.sg_record.specs.Changes.{Change as Changing}
use Rattle.sg_recovery.specs.Log.{Open, tally, open_of, changes_of}
use Rattle.sg_recovery.specs.Log.Record.{TopEnd}
use Rattle.sg_recovery.specs.Chains.{txn_of, last_of, walk}
use Rattle.sg_alloc.specs.declared.maps.Maps.{Maps}
use Rattle.sg_actions.specs.Rows.{last_in}
use Rattle.sg_actions.specs.Steps.{Step, Steps, step_at}
use Rattle.sg_actions.specs.Undoing.{next_note, goes_to, SeesAt, HasFound, FindsNote, IsUndoable}
use Rattle.sg_actions.specs.declared.rows.Actor.{Actor}
use Rattle.sg_actions.specs.declared.rows.Row.{Row}
use Rattle.sg_actions.specs.Counts.{Note}
use Rattle.sg_actions.specs.declared.undo.Found.{Found}
use Rattle.sg_actions.specs.declared.undo.Seen.TheVariants as seen
use Rattle.sg_actions.proofs.Chained.{no_zero}
use Rattle.sg_actions.proofs.Leading.{leads_over}
use Rattle.sg_actions.proofs.Walking.{IsPlace, IsWalking, behind, same_some, goes_well, last_place, walk_next, walk_on, walk_note, walk_begin, walk_stops}

-- a record of the transaction stands there
pub record IsThere (rs : Steps) (txn at : ℕ) : Type 0 where
  pub step : Step
  pub there : step_at rs at ≡ Some step
  pub own : txn_of step ≡ txn

-- at or below the stop there is none
pub walk_ends : {rs : Steps} {txn stop : ℕ} (at : ℕ) → IsWalking rs txn stop at → at ≤ stop → next_note txn stop rs ≡ None
walk_ends {rs} {txn} {stop} at w le = sym w.comes ∙ walk_stops rs stop at le

module _ {base : ℕ} {rs : Steps} {tail : ℕ} {unfreed : Maps} {rows : List Row} {actor : Actor} {txn stop : ℕ} where
  -- THE WALK BEGINS at the transaction's last record
  pub walk_begins : (last : ℕ) → IsUndoable base rs tail unfreed rows actor txn stop → last_in rows txn ≡ Some last → IsWalking rs txn stop last
  walk_begins last h row =
      let nonzero : txn ≢ 0 = no_zero rs txn h.chain.running.system h.live in
      let ne : txn ≢ actor.txn.0 = λ e. nonzero (e ∙ h.rest.system) in
      let is : last ≡ last_of txn rs = same_some last (last_of txn rs) (sym row ∙ h.chain.rows_are.others txn ne h.live) in
      record {
        place = subst (λ (n : ℕ). IsPlace rs txn n) (sym is) (last_place rs txn h.chain.running.log.chained);
        comes = ap (λ (n : ℕ). walk stop n rs) (is ∙ h.chain.running.alone txn ne) ∙ walk_next rs txn stop h.chain.running.log.chained h.live h.within;
      }

  pub is_there : (at : ℕ) → IsUndoable base rs tail unfreed rows actor txn stop → IsWalking rs txn stop at → stop < at → IsThere rs txn at
  is_there at h w lt = by w.place
    where
      by : IsPlace rs txn at → IsThere rs txn at
      by (inl low) = absurd (omega (arith, low, lt, h.within))
      by (inr p) = record { step = p.0; there = p.1; own = p.2 }

  -- IT GOES ON LOWER
  pub walk_goes : (at next : ℕ) (note : List ℕ) → IsUndoable base rs tail unfreed rows actor txn stop → IsWalking rs txn stop at → stop < at → SeesAt rs at note (seen.On next) → (next < at) × IsWalking rs txn stop next
  walk_goes at next note h w lt s =
      let i = is_there at h w lt in
      let on : goes_to i.step ≡ Some next = ap goes_to (same_some i.step s.step (sym i.there ∙ s.there)) ∙ s.sees in
      let g = goes_well rs txn at next i.step h.chain.running.log.chained h.live (omega (arith, lt, h.within)) i.there i.own on in
      (g.0, record { place = g.1; comes = sym (walk_on rs stop at next i.step h.chain.running.log.chained i.there lt on g.0) ∙ w.comes })

  -- IT FINDS THE NOTE
  pub walk_finds : (at prev undo_next : ℕ) (note : List ℕ) → IsUndoable base rs tail unfreed rows actor txn stop → IsWalking rs txn stop at → stop < at → SeesAt rs at note (seen.Note prev undo_next)
      → HasFound rs txn stop note (record { at = at; prev = prev; undo_next = undo_next })
  walk_finds at prev undo_next note h w lt s =
      let i = is_there at h w lt in
      let own : s.sees.0 ≡ txn = ap (λ (x : Step). txn_of x) (sym s.sees.1) ∙ (ap (λ (x : Step). txn_of x) (same_some s.step i.step (sym s.there ∙ i.there)) ∙ i.own) in
      let there : step_at rs at ≡ Some (TopEnd txn prev undo_next note) = s.there ∙ (ap Some s.sees.1 ∙ ap (λ (t : ℕ). Some (TopEnd t prev undo_next note)) own) in
      let over = leads_over rs at txn prev undo_next note h.chain.running.log.chained h.chain.running.log.owned h.live (omega (arith, lt, h.within)) there in
      record {
        n = record { lsn = at; transaction = txn; undo_next = undo_next; note = note; changes = changes_of (open_of txn (tally (behind rs at)).opened) };
        next = sym w.comes ∙ walk_note rs stop at txn prev undo_next note h.chain.running.log.chained there lt;
        lsn = refl;
        undo_next = refl;
        note_is = refl;
        hops = over.hops;
        leads = over.leads;
        changes = ap (λ (ds : List (Open Changing)). changes_of ds) over.are;
      }

  -- at the begin there is none
  pub walk_over : (at : ℕ) (note : List ℕ) → IsUndoable base rs tail unfreed rows actor txn stop → IsWalking rs txn stop at → SeesAt rs at note seen.Begin → next_note txn stop rs ≡ None
  walk_over at note h w s = sym w.comes ∙ walk_begin rs stop at s.sees.0 s.sees.1 h.chain.running.log.chained (s.there ∙ ap Some s.sees.2)

-- what is found is what is undone next
pub next_at : (rs : Steps) (txn stop : ℕ) (note : List ℕ) (o : Option Found) (f : Found) → o ≡ Some f → FindsNote rs txn stop note o → Some f.at ≡ option_map (λ n. n.lsn) (next_note txn stop rs)
next_at rs txn stop note o f is h =
    let found : HasFound rs txn stop note f = subst (λ (p : Option Found). FindsNote rs txn stop note p) is h in
    sym (ap (option_map (λ (n : Note). n.lsn)) found.next ∙ ap Some found.lsn)

pub next_none : (rs : Steps) (txn stop : ℕ) (note : List ℕ) (o : Option Found) → o ≡ None → FindsNote rs txn stop note o → None ≡ option_map (λ n. n.lsn) (next_note txn stop rs)
next_none rs txn stop note o is h =
    let none : next_note txn stop rs ≡ None = subst (λ (p : Option Found). FindsNote rs txn stop note p) is h in
    sym (ap (option_map (λ (n : Note). n.lsn)) none)
