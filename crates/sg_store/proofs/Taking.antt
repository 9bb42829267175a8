-- The last action of a transaction is undone, call by call.
use Rattle.std.proofs.Common.{◌≡◌, ℕ, ◌≤◌, true, List, ◌∷◌, map, Some, refl, arith}
use Rattle.sg_ops.specs.Table.{Table as Operations}
use Rattle.sg_serial.specs.Runs.{is_live}
use Rattle.sg_core.specs.Live.{Txn}
use Rattle.sg_recovery.specs.Log.{Top, tally, notes_of}
use Rattle.sg_recovery.specs.Log.Record.{CompEnd}
use Rattle.sg_run.specs.Run.{Run}
use Rattle.sg_store.specs.Ground.{Ground, IsLawful}
use Rattle.sg_store.specs.Engine.{View, Action, IsEngine, IsIdle, pages_of, Changes, Changed, Appends, Appended, ActsBack}
use Rattle.sg_recovery.specs.Laws.{Each}
use Rattle.sg_recovery.specs.Shows.{Choice}
use Rattle.sg_room.specs.Lines.{IsLeft}
use Rattle.sg_store.specs.Room.{BacksStock, step_of}
use Rattle.sg_store.specs.Verbs.{CanReverse, CanTakeBack, Reversed}
use Rattle.sg_store.specs.Store.{IsUndoing}
use Rattle.sg_store.specs.Calls.{Stays, TookNote}
use Rattle.sg_store.proofs.Undone as undone

-- the step back of a note has begun: the note, those below it, and what the note asks for
abbrev pub Found : (t : Operations) (g : Ground) → (v w : View g) → (u : ℕ) → (into : List ℕ) → (after : ℕ) → (a : Action g) → Changes t g a v w → Type 0
Found t g v w u into after a c = (n : Top g.C g.N) × (ns : List (Top g.C g.N)) × (notes_of u (tally v.log).notes ≡ n ∷ ns) × (n.undo_next ≡ after) × (g.note into ≡ n.note)
    × g.PutsBack t n.note n.changes (tally w.log).opened a.pages (pages_of t g w) × (w.free_pages ≡ v.free_pages) × Changed t g a v w c.made

-- and the note stands behind this number
abbrev pub Noted : (t : Operations) (g : Ground) → (v w : View g) → (u from : ℕ) → (into : List ℕ) → (after : ℕ) → (a : Action g) → Changes t g a v w → Type 0
Noted t g v w u from into after a c = (n : Top g.C g.N) × (ns : List (Top g.C g.N)) × (from ≤ n.lsn) × (notes_of u (tally v.log).notes ≡ n ∷ ns) × (n.undo_next ≡ after) × (g.note into ≡ n.note)
    × g.PutsBack t n.note n.changes (tally w.log).opened a.pages (pages_of t g w) × (w.free_pages ≡ v.free_pages) × Changed t g a v w c.made

-- each note stands behind the begin
pub all_low : (t : Operations) (g : Ground) (v w : View g) (u : ℕ) (into : List ℕ) (after : ℕ)
    → ((a : Action g) → IsEngine t g v → IsIdle v → a ≡ record { transaction = u; pages = pages_of t g v } → (c : Changes t g a v w) × Found t g v w u into after a c)
    → (a : Action g) → IsEngine t g v → IsIdle v → a ≡ record { transaction = u; pages = pages_of t g v } → (c : Changes t g a v w) × Noted t g v w u 0 into after a c
all_low t g v w u into after steps a e i same = let q = steps a e i same in (q.0, (q.1.0, q.1.1, omega arith, q.1.2, q.1.3, q.1.4, q.1.5, q.1.6, q.1.7))

-- the note was reversed
abbrev pub IsBack : (t : Operations) (g : Ground) (a : Action g) (w1 w2 : View g) (o : g.O) (n : Top g.C g.N) → Changes t g a w1 w2 → Type 0
IsBack t g a w1 w2 o n c = Changed t g a w1 w2 c.made × Reversed t g w2 o n

module _ (t : Operations) (g : Ground) (lawful : IsLawful t g) (v : View g) (txns : List Txn) (x : Run) (u from at : ℕ) (k : IsUndoing t g v txns x u from at) (live : is_live x.so_far.live u ≡ true) (w1 : View g) (into : List ℕ) (after : ℕ)
    (steps : (a : Action g) → IsEngine t g v → IsIdle v → a ≡ record { transaction = u; pages = pages_of t g v } → (c : Changes t g a v w1) × Noted t g v w1 u from into after a c) where
  abbrev begun : Action g
  begun = undone.begun t g lawful v txns x u from at k live

  b : (c : Changes t g begun v w1) × Noted t g v w1 u from into after begun c
  b = steps begun k.engine k.idle refl

  -- undoing goes on below
  pub never_up : at ≤ after → ⊥
  never_up le = let falls = undone.falls t g lawful v txns x u from at k live b.1.0 b.1.1 b.1.2 b.1.3 in let next = b.1.4 in absurd (omega (arith, falls, next, le))

  can : CanReverse t g begun w1 (undone.o t g lawful v txns x u from at k live) b.1.0
  can = undone.can t g lawful v txns x u from at k live b.1.0 b.1.1 b.1.2 b.1.3 w1 b.0 b.1.8 b.1.7 b.1.6

  pub takes_back : CanTakeBack into t g w1
  takes_back = record { engine = b.1.8.goes_on.engine; action = begun; acting = b.1.8.action; reading = undone.o t g lawful v txns x u from at k live; top = b.1.0; said = b.1.5; can = can }

  pub reversing_stays : (w2 : View g) → ((o : g.O) (a : Action g) (n : Top g.C g.N) → IsEngine t g w1 → w1.action ≡ Some a → g.note into ≡ n.note → CanReverse t g a w1 o n → Changes t g a w1 w2) → Stays t g v w2 x
  reversing_stays w2 reverses = undone.reverse_stays t g lawful v txns x u from at k live b.1.0 b.1.1 b.1.2 b.1.3 w1 b.0 b.1.8 b.1.7 b.1.6 w2 (reverses (undone.o t g lawful v txns x u from at k live) begun b.1.0 b.1.8.goes_on.engine b.1.8.action b.1.5 can)

  module _ (w2 : View g) (reverses : (o : g.O) (a : Action g) (n : Top g.C g.N) → IsEngine t g w1 → w1.action ≡ Some a → g.note into ≡ n.note → CanReverse t g a w1 o n → (c : Changes t g a w1 w2) × IsBack t g a w1 w2 o n c) where
    r : (c : Changes t g begun w1 w2) × IsBack t g begun w1 w2 (undone.o t g lawful v txns x u from at k live) b.1.0 c
    r = reverses (undone.o t g lawful v txns x u from at k live) begun b.1.0 b.1.8.goes_on.engine b.1.8.action b.1.5 can

    still : notes_of u (tally w2.log).notes ≡ b.1.0 ∷ b.1.1
    still = undone.stands_still t g lawful v txns x u from at k live b.1.0 b.1.1 b.1.2 b.1.3 w1 b.0 b.1.8 b.1.7 b.1.6 w2 r.0 r.1.0

    pub acts_back : ActsBack u after t g w2
    acts_back = record { acts = record { engine = r.1.0.goes_on.engine; action = begun; acting = r.1.0.action; own = refl }; top = b.1.0; rest = b.1.1; last = still; next = b.1.4 }

    module _ (w3 : View g) where
      pub ending_stays : ((a : Action g) → IsEngine t g w2 → w2.action ≡ Some a → a.transaction ≡ u → (n : Top g.C g.N) (ns : List (Top g.C g.N)) → notes_of u (tally w2.log).notes ≡ n ∷ ns → n.undo_next ≡ after
          → (lsn : ℕ) × (previous : ℕ) × Appends t g w2 w3 (record { lsn = lsn; is = CompEnd u previous after })) → Stays t g v w3 x
      ending_stays ends =
          let e = ends begun r.1.0.goes_on.engine r.1.0.action refl b.1.0 b.1.1 still b.1.4 in
          undone.end_undo_stays t g lawful v txns x u from at k live b.1.0 b.1.1 b.1.2 b.1.3 w1 b.0 b.1.8 b.1.7 b.1.6 w2 r.0 r.1.0 r.1.1 w3 e.0 e.1 after b.1.4 e.2

      pub ended_undid : ((a : Action g) → IsEngine t g w2 → w2.action ≡ Some a → a.transaction ≡ u → (n : Top g.C g.N) (ns : List (Top g.C g.N)) → notes_of u (tally w2.log).notes ≡ n ∷ ns → n.undo_next ≡ after
          → (lsn : ℕ) × (previous : ℕ) × Appends t g w2 w3 (record { lsn = lsn; is = CompEnd u previous after }) × Appended t g w2 w3 (record { lsn = lsn; is = CompEnd u previous after }))
          → (f : Choice) → ((ns : List (Top g.C g.N)) → Each (λ m. m.transaction ≡ u → ⊥) ns → Each (IsLeft f) (map (step_of g) ns)) → ((i : ℕ) → from ≤ i → f u i ≡ true)
          → IsUndoing t g w3 txns x u from after × BacksStock t g v w3 f × TookNote t g v w3 u into
      ended_undid ends f passed chosen =
          let e = ends begun r.1.0.goes_on.engine r.1.0.action refl b.1.0 b.1.1 still b.1.4 in (
            undone.undid_one t g lawful v txns x u from at k live b.1.0 b.1.1 b.1.2 b.1.3 w1 b.0 b.1.8 b.1.7 b.1.6 w2 r.0 r.1.0 r.1.1 w3 e.0 e.1 after b.1.4 e.2 e.3,
            undone.undid_stock t g lawful v txns x u from at k live b.1.0 b.1.1 b.1.2 b.1.3 w1 b.0 b.1.8 b.1.7 b.1.6 w2 r.0 r.1.0 r.1.1 w3 e.0 e.1 after b.1.4 e.2 f passed (chosen b.1.0.lsn b.1.2) e.3,
            undone.undid_note t g lawful v txns x u from at k live b.1.0 b.1.1 b.1.2 b.1.3 w1 b.0 b.1.8 b.1.7 b.1.6 w2 r.0 r.1.0 r.1.1 w3 e.0 e.1 after b.1.4 e.2 into b.1.5 e.3,
          )
