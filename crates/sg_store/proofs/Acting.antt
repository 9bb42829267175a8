-- An action of an operation, from its begin on.
use Rattle.std.proofs.Common.{◌≡◌, ◌⊎◌, ℕ, ◌+◌, ◌<◌, ◌≤◌, List, [], ◌∷◌, Option, Some, refl, sym, ap, ◌∙◌, subst, arith}
use Rattle.std.proofs.Common.{inl, inr}
use Rattle.std.specs.Prelude.{sum_by, IsOk, Result, Ok, Err, nat_lt, ◌&&◌}
use Rattle.sg_disk.specs.Disk.{LeavesOnly}
use Rattle.sg_disk.specs.Disk as disk
use Rattle.sg_disk.proofs.Moments.{joined}
use Rattle.sg_ops.specs.Table.{Table as Operations}
use Rattle.sg_model.specs.declared.reason.Reason.{Reason}
use Rattle.sg_model.specs.Verb.{Op, Outcome}
use Rattle.sg_model.specs.Step.{step}
use Rattle.sg_core.specs.Live.{Txn, reserving}
use Rattle.sg_run.specs.Run.{Run, did, live_objects, committed_objects}
use Rattle.sg_store.specs.declared.fault.ObjFault.{ObjFault}
use Rattle.sg_store.specs.declared.fault.ObjFault.TheVariants as faults
use Rattle.sg_store.specs.declared.fault.Needed.{Needed}
use Rattle.sg_store.specs.Ground.{Ground, IsLawful}
use Rattle.sg_store.specs.Engine.{View, Action, IsEngine, Changes, Changed, Appends, Appended, pages_of}
use Rattle.sg_store.specs.Verbs.{CanPerform, HasPerformed, LeftAlone, IsNoted, IsNotedBy}
use Rattle.sg_store.specs.Drops.{marked_by}
use Rattle.sg_store.specs.Store.{IsKept}
use Rattle.sg_store.specs.Stands.{StandsFor}
use Rattle.sg_run.specs.Numbers.{IsGranted}
use Rattle.sg_store.specs.Calls.{Stays, HasRoom}
use Rattle.sg_store.proofs.Lines.{reads}
use Rattle.sg_store.proofs.Actions.{reads_now}
use Rattle.sg_store.proofs.Performing as performing
use Rattle.sg_store.proofs.Stocked.{stock_moves}
use Rattle.sg_store.specs.Room.{LeadsStock}
use Rattle.sg_recovery.proofs.Basic.{some_one}

-- the view of an engine in which this action has begun
abbrev pub with_action : {g : Ground} → View g → Action g → View g
with_action v a = record v { action = Some a }

module _ (t : Operations) (g : Ground) (lawful : IsLawful t g) (v : View g) (txns : List Txn) (x : Run) (u : ℕ) (op : Op) (needs : Needed) (room : HasRoom t g v txns x op needs) (granted : IsGranted t x u op) where
  abbrev pub begun : Action g
  begun = record { transaction = u; pages = pages_of t g v }

  pub reserve_needed : needs.reserve ≤ needs.pages
  reserve_needed =
      let a : (g.needs t room.reading op).reserve ≤ (g.needs t room.reading op).pages = lawful.reserves_needed room.reading op in
      let b : needs.reserve ≡ (g.needs t room.reading op).reserve = room.need.reserve in
      let d : needs.pages ≡ (g.needs t room.reading op).pages = room.need.pages in
      omega (arith, a, b, d)

  module _ (v1 : View g) (began : IsEngine t g v1 × (v1 ≡ with_action v begun)) where
    pub room_then : HasRoom t g v1 txns x op needs
    room_then = subst (λ z. HasRoom t g z txns x op needs) (sym began.1) (record {
      is_kept = record {
        live = room.is_kept.live;
        answered = room.is_kept.answered;
        engine = subst (λ z. IsEngine t g z) began.1 began.0;
        idle = room.is_kept.idle;
        logs = room.is_kept.logs;
        free = room.is_kept.free;
        reserved = room.is_kept.reserved;
        buried = room.is_kept.buried;
        marked = room.is_kept.marked;
        marks = room.is_kept.marks;
      };
      reading = room.reading;
      reads = record { reading = room.reads.reading; free = room.reads.free };
      need = room.need;
      pages = room.pages;
      bands = room.bands;
    })

    pub acts_so : v1.action ≡ Some begun
    acts_so = ap (λ (z : View g). z.action) began.1

    pub begin_so : begun.pages ≡ pages_of t g v1
    begin_so = ap (λ (z : View g). pages_of t g z) (sym began.1)

    pub can_so : CanPerform t g v1 room_then.reading op
    can_so = record {
      reads = room_then.reads;
      idle = room_then.is_kept.idle;
      acts = ap (λ (z : Option (Action g)). Rattle.std.specs.Prelude.is_some z) acts_so;
      pages = least room_then.pages room_then.need.pages;
      bands = (let b : needs.bands ≡ (g.needs t room_then.reading op).bands = room_then.need.bands in let l : needs.bands ≤ v1.free_bands = room_then.bands in omega (arith, b, l));
    }
      where
        least : (needs.pages ≡ 0) ⊎ (sum_by (λ (k : Txn). k.reserved) txns + needs.pages ≤ v1.free_pages) → needs.pages ≡ (g.needs t room_then.reading op).pages → (g.needs t room_then.reading op).pages ≤ v1.free_pages
        least (inl e) is = omega (arith, e, is)
        least (inr l) is = omega (arith, l, is)

    pub stays_on : (w z : View g) → w ≡ z → Stays t g v w x → Stays t g v z x
    stays_on w z e h = subst (λ y. Stays t g v y x) e h

    -- what leads the stock on from there leads it on from the begin
    from_begin : (w : View g) → LeadsStock t g v1 w (live_objects t x) u op → LeadsStock t g v w (live_objects t x) u op
    from_begin w h r shown = h r (stock_moves t g v v1 r (ap (λ (z : View g). z.log) began.1) (ap (λ (z : View g). z.first) began.1) shown)

    module _ (w : View g) (c : Changes t g begun v1 w) where
      pub looked_stock : Changed t g begun v1 w c.made → LeftAlone t g v1 w room_then.reading op → LeadsStock t g v w (live_objects t x) u op
      looked_stock changed l = from_begin w (performing.looked_stock t g lawful v1 txns x u op needs room_then granted begun refl begin_so w c changed l)

      -- whatever it came to
      pub perform_stays : Stays t g v w x
      perform_stays = subst (λ (z : disk.View). LeavesOnly z w.disk (λ i. StandsFor t g i (committed_objects t x))) (ap (λ (z : View g). z.disk) began.1)
          (performing.changes_stay t g lawful v1 txns x u op needs room_then granted begun refl begin_so w c)

      -- it isn't refused, since it gets a reply
      pub never_refused : (reason : Reason) → (step t (g.objects room_then.reading) op).0 ≡ Err reason → ⊥
      never_refused reason e = go ((step t (g.objects room_then.reading) op).0) e room_then.need.replies
        where
          go : (r : Outcome) → r ≡ Err reason → IsOk r → ⊥
          go (Ok reply) f h = cc
          go (Err other) f h = cc

      pub refused_never : (reason : Reason) (f : ObjFault) (into note : List ℕ) → f ≡ faults.Model reason → HasPerformed t g begun v1 w room_then.reading op c.made into note (Err f) → ⊥
      refused_never reason f into note e h = never_refused reason (subst (λ z. HasPerformed t g begun v1 w room_then.reading op c.made into note (Err z)) e h).1.said

      pub stays_to : (z : View g) → w ≡ z → Stays t g v w x → Stays t g v z x
      stays_to z e h = subst (λ y. Stays t g v y x) e h

      pub said_so : (reply : Rattle.sg_model.specs.Verb.Reply) → (step t (g.objects room_then.reading) op).0 ≡ Ok reply → (step t (live_objects t x) op).0 ≡ Ok reply
      said_so reply e =
          let k = room_then.is_kept in
          let same : g.objects room_then.reading ≡ live_objects t x = ap (λ o. g.objects o) (some_one room_then.reading k.logs.keeps.running.reading (sym room_then.reads.reading ∙ reads_now t g lawful v1.first v1.durable v1.log x k.logs k.idle)) ∙ reads t g lawful v1.first v1.durable v1.log x k.logs in
          ap (λ m. (step t m op).0) (sym same) ∙ e

      module _ (changed : Changed t g begun v1 w c.made) (note : List ℕ) (n : IsNotedBy t g begun w room_then.reading op note) (w2 : View g) (l p i : ℕ) (ends : Appends t g w w2 (record { lsn = l; is = Rattle.sg_recovery.specs.Log.Record.TopEnd u p i (g.note note) })) where
        pub end_stays : Stays t g v w2 x
        end_stays = joined perform_stays (performing.ends_stay t g lawful v1 txns x u op needs room_then granted begun refl begin_so w c changed note n w2 l p i ends)

        pub end_stock : Appended t g w w2 (record { lsn = l; is = Rattle.sg_recovery.specs.Log.Record.TopEnd u p i (g.note note) }) → LeadsStock t g v w2 (live_objects t x) u op
        end_stock d = from_begin w2 (performing.done_stock t g lawful v1 txns x u op needs room_then granted begun refl begin_so w c changed note n w2 l p i ends d)

        pub end_kept : (after : List Txn) → ((0 < needs.reserve) × (after ≡ reserving u (marked_by op u txns))) ⊎ ((needs.reserve ≡ 0) × (after ≡ marked_by op u txns)) → Appended t g w w2 (record { lsn = l; is = Rattle.sg_recovery.specs.Log.Record.TopEnd u p i (g.note note) }) → IsKept t g w2 after (did t x u op)
        end_kept after (inl (some, is)) d = subst (λ ks. IsKept t g w2 ks (did t x u op)) (sym is) (performing.done_reserved t g lawful v1 txns x u op needs room_then granted begun refl begin_so w c changed note n w2 l p i ends d some)
        end_kept after (inr (none, is)) d = subst (λ ks. IsKept t g w2 ks (did t x u op)) (sym is) (performing.done_unreserved t g lawful v1 txns x u op needs room_then granted begun refl begin_so w c changed note n w2 l p i ends d none)

-- a note has bytes, or not
pub noted_none : (t : Operations) (g : Ground) (a : Action g) (v w : View g) (o : g.O) (op : Op) (note : List ℕ) → note ≡ [] → IsNoted t g a v w o op note → LeftAlone t g v w o op
noted_none t g a v w o op note e h = subst (IsNoted t g a v w o op) e h

pub noted_some : (t : Operations) (g : Ground) (a : Action g) (v w : View g) (o : g.O) (op : Op) (note : List ℕ) → (note ≡ [] → ⊥) → IsNoted t g a v w o op note → IsNotedBy t g a w o op note
noted_some t g a v w o op [] ne h = absurd (ne refl)
noted_some t g a v w o op (b ∷ bs) ne h = h
