-- The numbers of a refusal.
use Rattle.std.proofs.Common.{◌≡◌, ◌⊎◌, ◌+◌, ◌≤◌, ℕ, List, inl, inr, refl, sym, ap, ◌∙◌, subst, arith}
use Rattle.std.specs.Prelude.{Result, Ok, Err, sum_by}
use Rattle.sg_recovery.proofs.Basic.{some_one}
use Rattle.sg_store.specs.declared.fault.Needed.{Needed}
use Rattle.sg_ops.specs.Table.{Table as Operations}
use Rattle.sg_model.specs.Verb.{Op}
use Rattle.sg_model.specs.declared.op.Reply as code_reply
use Rattle.sg_core.specs.Live.{Txn}
use Rattle.sg_run.specs.Run.{Run}
use Rattle.sg_store.specs.declared.fault.Refused.{Refused}
use Rattle.sg_store.specs.declared.fault.Refused.TheVariants as refusals
use Rattle.sg_store.specs.Ground.{Ground, IsLawful}
use Rattle.sg_store.specs.Engine.{View}
use Rattle.sg_store.specs.Store.{Core}
use Rattle.sg_store.specs.Calls.{Holds, Rooms, Acts, Numbers, SameRoom, ArePages, HadPages, HadRoom, HasRoom}

pub unheld_numbers : (t : Operations) (g : Ground) (lawful : IsLawful t g) (b : View g) (bs : List Txn) (v w : View g) (k m : Core) (x : Run) (u : ℕ) (op : Op) (why : Refused) → Holds t g v w k m x u op (Err why) → Numbers t g b bs op (Err why)
unheld_numbers t g lawful b bs v w k m x u op (refusals.Busy holder) h = tt
unheld_numbers t g lawful b bs v w k m x u op refusals.LocksFull h = tt
unheld_numbers t g lawful b bs v w k m x u op refusals.DiskFault h = tt
unheld_numbers t g lawful b bs v w k m x u op refusals.NoTxn h = tt
unheld_numbers t g lawful b bs v w k m x u op refusals.TooManyLive h = tt
unheld_numbers t g lawful b bs v w k m x u op (refusals.Model reason) h = tt
unheld_numbers t g lawful b bs v w k m x u op (refusals.NoSpace f r n) h = absurd h
unheld_numbers t g lawful b bs v w k m x u op (refusals.NoBands f n) h = absurd h
unheld_numbers t g lawful b bs v w k m x u op refusals.LogEnd h = absurd h
unheld_numbers t g lawful b bs v w k m x u op refusals.Memory h = tt
unheld_numbers t g lawful b bs v w k m x u op refusals.Stopped h = tt

-- the same pages and bands were free before a call that changes nothing
before_pages : (t : Operations) (g : Ground) (b v : View g) (txns : List Txn) (op : Op) → SameRoom t g b v → HadPages t g v txns op → HadPages t g b txns op
before_pages t g b v txns op s h o e = subst (λ n. ((g.needs t o op).pages ≡ 0) ⊎ (sum_by (λ (k : Txn). k.reserved) txns + (g.needs t o op).pages ≤ n)) s.pages (h o (s.reads o e))

pub unroomed_numbers : (t : Operations) (g : Ground) (lawful : IsLawful t g) (b : View g) (bs : List Txn) (v w : View g) (k m : Core) (x : Run) (op : Op) → k.live ≡ bs → SameRoom t g b v → (why : Refused) → Rooms t g v w k m x op (Err why) → Numbers t g b bs op (Err why)
unroomed_numbers t g lawful b bs v w k m x op e s (refusals.Busy holder) h = tt
unroomed_numbers t g lawful b bs v w k m x op e s refusals.LocksFull h = tt
unroomed_numbers t g lawful b bs v w k m x op e s refusals.DiskFault h = tt
unroomed_numbers t g lawful b bs v w k m x op e s refusals.NoTxn h = tt
unroomed_numbers t g lawful b bs v w k m x op e s refusals.TooManyLive h = tt
unroomed_numbers t g lawful b bs v w k m x op e s (refusals.Model reason) h = tt
unroomed_numbers t g lawful b bs v w k m x op e s (refusals.NoSpace f r n) h = subst (λ z. ArePages t g b z op f r n) e (record { is_free = h.5.is_free ∙ s.pages; is_left = λ o i. h.5.is_left o (s.reads o i); are_reserved = h.5.are_reserved; is_needed = λ o i. h.5.is_needed o (s.reads o i) })
unroomed_numbers t g lawful b bs v w k m x op e s (refusals.NoBands f n) h = (subst (λ z. HadPages t g b z op) e (before_pages t g b v k.live op s h.4.0), record { is_free = h.4.1.is_free ∙ s.bands; is_left = λ o i. h.4.1.is_left o (s.reads o i); is_needed = λ o i. h.4.1.is_needed o (s.reads o i) })
unroomed_numbers t g lawful b bs v w k m x op e s refusals.LogEnd h = record { pages = subst (λ z. HadPages t g b z op) e (before_pages t g b v k.live op s h.5.pages); bands = λ o i. subst (λ n. (g.needs t o op).bands ≤ n) s.bands (h.5.bands o (s.reads o i)) }
unroomed_numbers t g lawful b bs v w k m x op e s refusals.Memory h = tt
unroomed_numbers t g lawful b bs v w k m x op e s refusals.Stopped h = tt

pub acted_numbers : (t : Operations) (g : Ground) (lawful : IsLawful t g) (b : View g) (bs : List Txn) (v w : View g) (k m : Core) (x : Run) (u : ℕ) (op : Op) (into : List ℕ) → HadRoom t g b bs op → (r : Result code_reply.Reply Refused) → Acts t g v w k m x u op into r → Numbers t g b bs op r
acted_numbers t g lawful b bs v w k m x u op into had (Ok reply) h = had
acted_numbers t g lawful b bs v w k m x u op into had (Err (refusals.Busy holder)) h = tt
acted_numbers t g lawful b bs v w k m x u op into had (Err refusals.LocksFull) h = tt
acted_numbers t g lawful b bs v w k m x u op into had (Err refusals.DiskFault) h = tt
acted_numbers t g lawful b bs v w k m x u op into had (Err refusals.NoTxn) h = tt
acted_numbers t g lawful b bs v w k m x u op into had (Err refusals.TooManyLive) h = tt
acted_numbers t g lawful b bs v w k m x u op into had (Err (refusals.Model reason)) h = tt
acted_numbers t g lawful b bs v w k m x u op into had (Err (refusals.NoSpace f r n)) h = absurd h
acted_numbers t g lawful b bs v w k m x u op into had (Err (refusals.NoBands f n)) h = absurd h
acted_numbers t g lawful b bs v w k m x u op into had (Err refusals.LogEnd) h = had
acted_numbers t g lawful b bs v w k m x u op into had (Err refusals.Memory) h = tt
acted_numbers t g lawful b bs v w k m x u op into had (Err refusals.Stopped) h = tt

-- the tests of room, said of the call's begin
pub had_room : (t : Operations) (g : Ground) (lawful : IsLawful t g) (v w1 w : View g) (ks ls : List Txn) (x : Run) (op : Op) (needs : Needed) → ls ≡ ks → SameRoom t g v w1 → SameRoom t g w1 w → HasRoom t g w ls x op needs → HadRoom t g v ks op
had_room t g lawful v w1 w ks ls x op needs e s1 s2 room = record {
  pages = λ o r. subst (λ (z : List Txn). ((g.needs t o op).pages ≡ 0) ⊎ (sum_by (λ (k : Txn). k.reserved) z + (g.needs t o op).pages ≤ v.free_pages)) e
      (go (g.needs t o op).pages (sym (room.need.pages ∙ ap (λ z. (g.needs t z op).pages) (same o r))) (s2.pages ∙ s1.pages) room.pages);
  bands = λ o r. (let n : needs.bands ≡ (g.needs t o op).bands = room.need.bands ∙ ap (λ z. (g.needs t z op).bands) (same o r) in
      let f : w.free_bands ≡ v.free_bands = s2.bands ∙ s1.bands in let le : needs.bands ≤ w.free_bands = room.bands in omega (arith, n, f, le));
}
  where
    same : (o : g.O) → g.reading (Rattle.sg_store.specs.Engine.pages_of t g v) ≡ Rattle.std.proofs.Common.Some o → room.reading ≡ o
    same o r = some_one room.reading o (sym room.reads.reading ∙ s2.reads o (s1.reads o r))

    go : (n : ℕ) → n ≡ needs.pages → w.free_pages ≡ v.free_pages → (needs.pages ≡ 0) ⊎ (sum_by (λ (k : Txn). k.reserved) ls + needs.pages ≤ w.free_pages) → (n ≡ 0) ⊎ (sum_by (λ (k : Txn). k.reserved) ls + n ≤ v.free_pages)
    go n is f (inl z) = inl (is ∙ z)
    go n is f (inr le) = inr (omega (arith, is, f, le))
