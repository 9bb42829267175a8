-- The numbers of an answer, by the stock that is shown.
use Rattle.std.proofs.Common.{◌≡◌, ◌⊎◌, inl, ℕ, ◌+◌, ◌≤◌, true, List, Option, Some, None, refl, sym, ap, ◌∙◌, subst, arith}
use Rattle.std.specs.Prelude.{Result, Ok, Err, sum_by, is_ok}
use Rattle.std.specs.FinMap.{get}
use Rattle.sg_ops.specs.Table.{Table as Operations}
use Rattle.sg_core.specs.Live.{Txn}
use Rattle.sg_model.specs.Objects.{Objects, Object}
use Rattle.sg_model.specs.Objects.Object.{Array, Table, Blob}
use Rattle.sg_model.specs.Step.{step, on}
use Rattle.sg_model.specs.Verb.{Op, Reply}
use Rattle.sg_model.specs.Verb.Op.{On, Names}
use Rattle.sg_model.specs.Verb.Verb.{MakeArray, MakeTable, MakeBlob, Discard, Push, Pop, Set, Get, Len, Apply, Put, Del, Find, Keys, Write, Read, Size, Paint}
use Rattle.sg_model.specs.declared.op.Reply as code_reply
use Rattle.sg_room.specs.Bounds.{ObeysStock}
use Rattle.sg_room.specs.Marks.{Marks, stock_with}
use Rattle.sg_room.specs.Most.Accepts.{looked}
use Rattle.sg_room.specs.Steps.{RunStock}
use Rattle.sg_run.specs.Numbers.{Refusal, IsListing}
use Rattle.sg_run.specs.Run.{Run, live_objects}
use Rattle.sg_run.specs.Stocked.{Stocked, Around, HasPages, HasRoom, AreNumbers, StockAfter, needed_by, needs, reserved, stock_now}
use Rattle.sg_store.specs.declared.fault.Refused.{Refused}
use Rattle.sg_store.specs.declared.fault.Refused.TheVariants as refusals
use Rattle.sg_store.specs.Refusals.{said_refusal, said_outcome}
use Rattle.sg_store.specs.Ground.{Ground, IsLawful}
use Rattle.sg_store.specs.declared.engine.Engine.{Ghosts}
use Rattle.sg_store.specs.declared.store.Store as code_store
use Rattle.sg_store.specs.Engine.{View, Sizes, Shown, led, pages_of}
use Rattle.sg_store.specs.Room.{ShowsStock, LeavesRoom, AcceptsOp}
use Rattle.sg_store.specs.Stock.{LeavesStock, NeedsByStock}
use Rattle.sg_store.specs.Calls as calls
use Rattle.sg_store.specs.Causes.{UnlistedFor}
use Rattle.sg_store.specs.Store as stores
use Rattle.sg_store.proofs.Holding as holding
use Rattle.sg_store.proofs.Reserved.{reserved_is}
use Rattle.sg_session.specs.Goes.{around}

abbrev pub with_stock : Run → RunStock → Stocked
with_stock x r = record { run = x; stock = r }

module _ (t : Operations) (g : Ground) (lawful : IsLawful t g) (by_stock : NeedsByStock t g) (v w : View g) (k : stores.Core) (x : Run) (r : RunStock) (runs : stores.Runs t g v k x) (shown : ShowsStock t g v r) where
  o : g.O
  o = holding.reading t g lawful v x k.live runs.is_kept

  reads : g.reading (pages_of t g v) ≡ Some o
  unfolding o
  reads = (holding.reads_so t g lawful v x k.live runs.is_kept).reading

  objects : g.objects o ≡ live_objects t x
  unfolding o
  objects = holding.objects_so t g lawful v x k.live runs.is_kept

  marks : g.marks o ≡ r.marks
  marks = shown.marks o reads

  pages_needed : (op : Op) → (g.needs t o op).pages ≡ (needs t (with_stock x r) op).pages
  pages_needed op = by_stock.pages (pages_of t g v) o op reads ∙ (ap (λ (s : Objects). (needed_by s (g.marks o) op).pages) objects ∙ ap (λ (m : Marks). (needed_by (live_objects t x) m op).pages) marks)

  bands_needed : (op : Op) → (g.needs t o op).bands ≡ (needs t (with_stock x r) op).bands
  bands_needed op = by_stock.bands (pages_of t g v) o op reads ∙ (ap (λ (s : Objects). (needed_by s (g.marks o) op).bands) objects ∙ ap (λ (m : Marks). (needed_by (live_objects t x) m op).bands) marks)

  are_reserved : sum_by (λ (i : Txn). i.reserved) k.live ≡ reserved (with_stock x r)
  are_reserved = reserved_is t g by_stock v k.live x r runs.is_kept shown

  had_pages : (op : Op) → calls.HadPages t g v k.live op → HasPages (around v w) (reserved (with_stock x r)) (needs t (with_stock x r) op).pages
  had_pages op h =
      subst (λ n. (n ≡ 0) ⊎ (reserved (with_stock x r) + n ≤ v.free_pages)) (pages_needed op)
      (subst (λ n. ((g.needs t o op).pages ≡ 0) ⊎ (n + (g.needs t o op).pages ≤ v.free_pages)) are_reserved (h o reads))

  had_room : (op : Op) → calls.HadRoom t g v k.live op → HasRoom (around v w) (reserved (with_stock x r)) (needs t (with_stock x r) op)
  had_room op h = record { pages = had_pages op h.pages; bands = subst (λ n. n ≤ v.free_bands) (bands_needed op) (h.bands o reads) }

  -- THE NUMBERS of an operation's answer
  pub numbers_so : (op : Op) (into : List ℕ) (q : Result code_reply.Reply Refused) → calls.Numbers t g v k.live op q → AreNumbers t (around v w) (with_stock x r) op (said_outcome into q)
  numbers_so op into (Ok reply) h = had_room op h
  numbers_so op into (Err refusals.NoTxn) h = tt
  numbers_so op into (Err refusals.TooManyLive) h = tt
  numbers_so op into (Err (refusals.Busy holder)) h = tt
  numbers_so op into (Err refusals.LocksFull) h = tt
  numbers_so op into (Err (refusals.Model reason)) h = tt
  numbers_so op into (Err (refusals.NoSpace free kept need)) h = (h.is_free, h.are_reserved ∙ are_reserved, h.is_needed o reads ∙ pages_needed op)
  numbers_so op into (Err (refusals.NoBands free need)) h = (h.1.is_free, h.1.is_needed o reads ∙ bands_needed op, had_pages op h.0)
  numbers_so op into (Err refusals.LogEnd) h = had_room op h
  numbers_so op into (Err refusals.Memory) h = tt
  numbers_so op into (Err refusals.DiskFault) h = tt
  numbers_so op into (Err refusals.Stopped) h = tt

  -- what is free obeys the stock
  pub obeys : LeavesRoom t g v → ObeysStock g.sizes v.free_pages v.free_bands (stock_now t (with_stock x r))
  obeys leaves =
      subst (λ (s : Objects). ObeysStock g.sizes v.free_pages v.free_bands (stock_with s r.marks)) objects
      (subst (λ (m : Marks). ObeysStock g.sizes v.free_pages v.free_bands (stock_with (g.objects o) m)) marks (leaves o reads))

-- what is accepted leads the stock on as it may
pub after_done : (t : Operations) (x : Stocked) (u : ℕ) (op : Op) (reply : Reply) (r : RunStock) → AcceptsOp t (live_objects t x.run) x.stock u op r → StockAfter t x u op (Ok reply) r
after_done t x u (On name verb) reply r h = h
after_done t x u Names reply r h = h

-- what is refused leaves it
pub after_refused : (t : Operations) (x : Stocked) (u : ℕ) (op : Op) (why : Refusal) → StockAfter t x u op (Err why) x.stock
after_refused t x u (On name verb) why = refl
after_refused t x u Names why = refl

-- what holds of both lists, of keys and of names
by_list : (P : Op → Type 0) → ((name : List ℕ) → P (On name Keys)) → P Names → (op : Op) → IsListing op → P op
by_list P keys names (On name Keys) is = keys name
by_list P keys names Names is = names
by_list P keys names (On name (MakeArray size)) is = absurd is
by_list P keys names (On name MakeTable) is = absurd is
by_list P keys names (On name MakeBlob) is = absurd is
by_list P keys names (On name Discard) is = absurd is
by_list P keys names (On name (Push value)) is = absurd is
by_list P keys names (On name Pop) is = absurd is
by_list P keys names (On name (Set index value)) is = absurd is
by_list P keys names (On name (Get index)) is = absurd is
by_list P keys names (On name Len) is = absurd is
by_list P keys names (On name (Apply index code arg)) is = absurd is
by_list P keys names (On name (Put key value)) is = absurd is
by_list P keys names (On name (Del key)) is = absurd is
by_list P keys names (On name (Find key)) is = absurd is
by_list P keys names (On name (Write at bytes)) is = absurd is
by_list P keys names (On name (Read at count)) is = absurd is
by_list P keys names (On name (Size length)) is = absurd is
by_list P keys names (On name (Paint at count code arg)) is = absurd is

-- A LIST needs nothing
pub list_room : (t : Operations) (a : Around) (x : Stocked) (op : Op) → IsListing op → HasRoom a (reserved x) (needs t x op)
list_room t a x op is = by_list (λ o. HasRoom a (reserved x) (needs t x o)) (λ name. record { pages = inl refl; bands = omega arith }) (record { pages = inl refl; bands = omega arith }) op is

-- it isn't refused for want of room
pub list_numbers : {basis : Sizes → Ground} (t : Operations) (a : Around) (x : Stocked) (op : Op) (u : ℕ) (old new : Shown basis) (k m : stores.Core) (why : Refused)
    → UnlistedFor u old new k m why → AreNumbers t a x op (Err (said_refusal why))
list_numbers t a x op u old new k m refusals.NoTxn h = tt
list_numbers t a x op u old new k m refusals.TooManyLive h = tt
list_numbers t a x op u old new k m (refusals.Busy holder) h = tt
list_numbers t a x op u old new k m refusals.LocksFull h = tt
list_numbers t a x op u old new k m (refusals.Model reason) h = tt
list_numbers t a x op u old new k m (refusals.NoSpace free kept need) h = absurd h
list_numbers t a x op u old new k m (refusals.NoBands free need) h = absurd h
list_numbers t a x op u old new k m refusals.LogEnd h = absurd h
list_numbers t a x op u old new k m refusals.Memory h = tt
list_numbers t a x op u old new k m refusals.DiskFault h = tt
list_numbers t a x op u old new k m refusals.Stopped h = tt

-- keys are listed of what stays as it is
keys_leave : (t : Operations) (o : Option Object) → (on t Keys o).1 ≡ o
keys_leave t None = refl
keys_leave t (Some (Array row)) = refl
keys_leave t (Some (Table m)) = refl
keys_leave t (Some (Blob x)) = refl

keys_ok : (t : Operations) (s : Objects) (name : List ℕ) (reply : Reply) → (step t s (On name Keys)).0 ≡ Ok reply → is_ok (on t Keys (get s name)).0 ≡ true
unfolding step
keys_ok t s name reply e = ap is_ok e

-- and it leaves the stock
pub list_after : (t : Operations) (x : Stocked) (u : ℕ) (op : Op) (reply : Reply) → IsListing op → (step t (live_objects t x.run) op).0 ≡ Ok reply → StockAfter t x u op (Ok reply) x.stock
list_after t x u op reply is e =
    by_list (λ o. (step t (live_objects t x.run) o).0 ≡ Ok reply → StockAfter t x u o (Ok reply) x.stock)
    (λ name z. looked (keys_ok t (live_objects t x.run) name reply z) tt (keys_leave t (get (live_objects t x.run) name))) (λ z. refl) op is e

-- a call that asked nothing of its engine leaves the stock
pub asked_none : {E : Type 0} (ghosts : Ghosts E) (t : Operations) (z : Sizes) (from : (ghosts.basis z).X) (s u : code_store.Store E ghosts) → u ≡ s
    → LeavesStock t (ghosts.basis z) (led t z from (ghosts.view s.engine)) (led t z from (ghosts.view u.engine))
asked_none {E = E} ghosts t z from s u same =
    subst (λ (i : code_store.Store E ghosts). LeavesStock t (ghosts.basis z) (led t z from (ghosts.view s.engine)) (led t z from (ghosts.view i.engine))) (sym same) (λ r shown. shown)
