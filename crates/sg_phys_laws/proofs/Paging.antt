-- The record of an operation on a page, from what the page says.
use Rattle.std.proofs.Common.{◌≡◌, inl, inr, ⊎_elim, ◌<◌, ◌≤◌, ◌+◌, ℕ, Bool, true, false, Option, Some, None, is_some, List, [], ◌∷◌, ◌++◌, length, refl, sym, ◌∙◌, ap, subst, arith}
use Rattle.std.specs.Prelude.{Result, Ok, Err, OnOk, IfOk}
use Rattle.std.proofs.lemmas.List.{append_assoc}
use Rattle.sg_base.specs.Bytes.{IsBytes}
use Rattle.sg_base.specs.Op.{Op}
use Rattle.sg_base.specs.Op.Op.{Format, Put, Remove, Set, Links, Item, ItemBack}
use Rattle.sg_base.specs.Page.{lsn_of}
use Rattle.sg_base.specs.Sheet.{Sheet}
use Rattle.sg_disk.specs.Disk.{View}
use Rattle.sg_disk.proofs.Moments.{joined, weaker}
use Rattle.sg_log.specs.Frames.{Numbered}
use Rattle.sg_log.specs.Held.{Tail, place_of, has_room, numbered}
use Rattle.sg_log.proofs.Holding.{end_near}
use Rattle.sg_ops.specs.Laws.{IsLawful}
use Rattle.sg_ops.specs.Steps.{BringsBytes, uses_table}
use Rattle.sg_ops.specs.Table.{Table}
use Rattle.sg_pool.specs.declared.pool.Pool.{Pool}
use Rattle.sg_pool.specs.Pooled.{sizes}
use Rattle.sg_record.specs.Changes.{Change}
use Rattle.sg_record.specs.Records.{Record}
use Rattle.sg_record.specs.Ranges.{IsRecord}
use Rattle.sg_redo.specs.Page.{made, fits}
use Rattle.sg_redo.specs.Places.{op_said, changed_by}
use Rattle.sg_slotted.specs.Layout.{lsn_layout}
use Rattle.sg_step.specs.Changed.{changed}
use Rattle.sg_action.specs.States.{State, step_leaf}
use Rattle.sg_engine.specs.Effects.{IsBy, effect_of}
use Rattle.sg_engine.specs.Engine.{Origin, entries}
use Rattle.sg_engine.specs.Numbers.{AllUnder}
use Rattle.sg_engine.specs.History.{ChangesPage, IsNumbered, entry_number}
use Rattle.sg_engine.specs.Running.{IsEngine, IsAllowed, HasGoneOn, DoesToPage}
use Rattle.sg_engine.specs.declared.fault.EngineFault.{EngineFault}
use Rattle.sg_engine.proofs.Calls.{standing_weaker}
use Rattle.sg_engine.proofs.Followed.{page_below}
use Rattle.sg_engine.proofs.May.{page_may, all_under}
use Rattle.sg_redo.specs.Leaf.{leaf_of, LinksFit}
use Rattle.sg_redo.proofs.Saying.{made_slotted}
use Rattle.sg_phys_laws.specs.Known.{IsRegistered}
use Rattle.sg_phys_laws.specs.States.{homes_of, state_of, AllAgree, IsDoable, IsChangeable, IsNext}
use Rattle.sg_phys_laws.specs.Logged.{SaysPage, HasLogged, IsFor, IsPageFor, IsAsked, HasRun, Stood, StillAllowed, at_number}
use Rattle.sg_phys_laws.proofs.Agreeing.{all_agree_more}

place_late : (log : Tail) (r : Record) (c : Bool) → has_room log r ≡ c → log.gate + 5 + length log.buffer ≤ place_of log r
place_late log r true is = rw is (omega arith)
place_late log r false is = rw is (omega arith)

there : (o : Option Sheet) → is_some o ≡ true → (new : Sheet) × (o ≡ Some new)
there None e = absurd cc
there (Some new) e = (new, refl)

module _ (t : Table) (o : Origin) (v : View) (log : Tail) (ds ps : List Numbered) (pool : Pool) (r : Record) (p : ℕ) (op : Op)
    (e : IsEngine o v log ds ps pool) (is : IsBy t o) (range : IsRecord r) (lt : p < (sizes pool).pages) (page : SaysPage r p op)
    (lawful : IsLawful t) (brings : BringsBytes op) (links : LinksFit op) (bytes : IsBytes ((homes_of o (ds ++ ps)).page p)) (size : length ((homes_of o (ds ++ ps)).page p) ≡ 4096)
    (fits : is_some (step_leaf t op (leaf_of ((homes_of o (ds ++ ps)).page p))) ≡ true) where
  abbrev x : Numbered
  x = numbered log r

  late : log.gate + 5 + length log.buffer ≤ x.lsn
  late = place_late log r (has_room log r) refl

  below_pages : p < o.super.pages
  below_pages = let s = ap (λ g. g.pages) e.sizes in omega (arith, lt, s)

  due : lsn_of ((homes_of o (ds ++ ps)).page p) < x.lsn
  due =
      let started : IsNumbered x.lsn (o.first.page p) = ⊎_elim (λ none. inl none) (λ low. inr (omega (arith, low, late))) (e.engine.started p below_pages) in
      page_below _ o.first (entries o (ds ++ ps)) x.lsn p e.engine.history below_pages (omega (arith, late)) started (all_under o r e.engine.held)

  pub doable : IsDoable t x.lsn op ((homes_of o (ds ++ ps)).page p)
  doable = record { lawful = lawful; brings = brings; links = links; bytes = bytes; size = size; due = due }

  effect : o.effect x.lsn r ≡ ChangesPage p (made t x.lsn op)
  effect =
      is.says x.lsn r ∙ (ap (effect_of t x.lsn) page.says
      ∙ (ap (λ (n : ℕ). ChangesPage n (made t x.lsn (op_said page.c))) page.page ∙ ap (λ (q : Op). ChangesPage p (made t x.lsn q)) page.op_is))

  -- IT MAY BE APPENDED
  pub may : DoesToPage o t (ds ++ ps) x p op
  may =
      let step = there (step_leaf t op (leaf_of ((homes_of o (ds ++ ps)).page p))) fits in
      let left = made_slotted t x.lsn op ((homes_of o (ds ++ ps)).page p) step.0 lawful brings links bytes size step.1 in
      let near = end_near log r range in
      let within = e.engine.held.within in
      page_may o v log ds ps pool r e t p op (lsn_layout (changed t op ((homes_of o (ds ++ ps)).page p)) x.lsn) (omega (arith, near, within)) effect lt
      (ap (made t x.lsn op) (e.engine.joined.page p below_pages) ∙ left.0) (inl left.1)

  next : IsNext t o (ds ++ ps) x
  next = subst (λ (c : Option Change). IsChangeable t x.lsn (homes_of o (ds ++ ps)) c) (sym page.says)
      (subst (λ (n : ℕ). IsDoable t x.lsn (op_said page.c) ((homes_of o (ds ++ ps)).page n)) (sym page.page) (subst (λ (q : Op). IsDoable t x.lsn q ((homes_of o (ds ++ ps)).page p)) (sym page.op_is) doable))

  -- and the steps go on as the records do
  pub agrees : (from since : List Numbered) → ds ++ ps ≡ from ++ since → AllAgree t o from (ds ++ ps) → AllAgree t o from ((ds ++ ps) ++ x ∷ [])
  agrees from since has a = all_agree_more o from since (ds ++ ps) x t has is next a

-- an answer of each point
pub each_ok : {E : Type 0} (P Q : ℕ → Type 0) (res : Result ℕ E) → ((k : ℕ) → P k → OnOk res (Q k)) → OnOk res ((k : ℕ) → P k → Q k)
each_ok P Q (Ok n) f = f
each_ok P Q (Err e) f = tt

-- the number that was foreseen
pub number_ok : {E : Type 0} {n tried : ℕ} (res : Result ℕ E) → IfOk res (λ lsn. lsn ≡ n) → tried ≡ n → IfOk res (λ lsn. lsn ≡ tried)
number_ok (Ok n) is same = is ∙ sym same
number_ok (Err e) is same = tt

-- and what follows from one
pub on_ok : {E : Type 0} {A B : Type 0} {T : Type 0} (res : Result T E) → OnOk res A → (A → B) → OnOk res B
on_ok (Ok n) a f = f a
on_ok (Err e) a f = tt

-- ONE CALL AFTER ANOTHER: the records of the first go on in the second
pub gone_further : (t : Table) (o : Origin) (v w : View) (log log' : Tail) (ds all : List Numbered) (pool pool' : Pool) (r : Record) (lsn : ℕ) (h : HasGoneOn o v log ds all pool) → lsn ≡ place_of log r
    → HasGoneOn o w log' h.durable ((h.durable ++ h.waiting) ++ numbered log r ∷ []) pool' → AllAgree t o ds ((h.durable ++ h.waiting) ++ numbered log r ∷ []) → HasLogged t o w log' ds all r lsn pool'
gone_further t o v w log log' ds all pool pool' r lsn h number g a =
    let same : (h.durable ++ h.waiting) ++ numbered log r ∷ [] ≡ all ++ at_number lsn r ∷ [] = ap (λ (l : List Numbered). l ++ numbered log r ∷ []) h.is_all ∙ ap (λ (n : ℕ). all ++ at_number n r ∷ []) (sym number) in
    record {
      gone = record { durable = g.durable; waiting = g.waiting; is_all = g.is_all ∙ same; since = h.since ++ g.since; later = g.later ∙ (ap (λ (l : List Numbered). l ++ g.since) h.later ∙ append_assoc ds h.since g.since); engine = g.engine };
      agrees = subst (AllAgree t o ds) same a;
      above = subst (λ (n : ℕ). AllUnder entry_number n (entries o all)) (sym number)
          (subst (λ (l : List Numbered). AllUnder entry_number (place_of log r) (entries o l)) h.is_all (all_under o r h.engine.engine.held));
    }

append_none : (xs : List Numbered) → xs ++ [] ≡ xs
append_none [] = refl
append_none (x ∷ xs) = ap (λ (l : List Numbered). x ∷ l) (append_none xs)

-- an operation that uses no registered one does the same by each table
made_same : (own given : Table) (lsn : ℕ) (op : Op) → (uses_table op ≡ true → given ≡ own) → made own lsn op ≡ made given lsn op
unfolding made fits changed
made_same own given lsn (Format kind) means = refl
made_same own given lsn (Put slot cell) means = refl
made_same own given lsn (Remove slot) means = refl
made_same own given lsn (Set slot cell) means = refl
made_same own given lsn (Links ls) means = refl
made_same own given lsn (Item slot code arg) means = ap (λ (t : Table). made t lsn (Item slot code arg)) (sym (means refl))
made_same own given lsn (ItemBack slot code arg) means = ap (λ (t : Table). made t lsn (ItemBack slot code arg)) (sym (means refl))

-- what a record of a page asks, by its operation
pub page_asked : (own given : Table) (x : State) (r : Record) (p : ℕ) (op : Op) → SaysPage r p op → IsFor own given x (changed_by r.says) → IsPageFor own given x p op
page_asked own given x r p op page f =
    subst (λ (n : ℕ). IsPageFor own given x n op) page.page
    (subst (λ (q : Op). IsPageFor own given x page.c.page q) page.op_is (subst (IsFor own given x) page.says f))

-- WHAT THE SECOND CALL IS ASKED, after one that appended nothing
pub record MayGo (own given : Table) (o : Origin) (ds ns : List Numbered) (x : Numbered) (p : ℕ) (op : Op) : Type 0 where
  pub may : DoesToPage o given ns x p op
  pub agrees : AllAgree own o ds (ns ++ x ∷ [])

pub may_go : (own given : Table) (o : Origin) (v m : View) (log log' : Tail) (ds ps : List Numbered) (pool pool' : Pool) (r : Record) (p : ℕ) (op : Op) (buffer : List ℕ) → IsAsked own given o v log ds ps pool r → (h : HasGoneOn o m log' ds (ds ++ ps) pool') → IsRecord r → SaysPage r p op
    → BringsBytes op → LinksFit op → IsBytes buffer → length buffer ≡ 4096 → buffer ≡ (homes_of o (ds ++ ps)).page p → p < (sizes pool').pages
    → MayGo own given o ds (h.durable ++ h.waiting) (numbered log' r) p op
may_go own given o v m log log' ds ps pool pool' r p op buffer a h range page brings links bytes size are lt =
    let all : List Numbered = ds ++ ps in
    let asked = page_asked own given (state_of (homes_of o all)) r p op page a.fits in
    let back : all ≡ h.durable ++ h.waiting = sym h.is_all in
    let here : buffer ≡ (homes_of o (h.durable ++ h.waiting)).page p = are ∙ ap (λ (l : List Numbered). (homes_of o l).page p) back in
    let fits_here : is_some (step_leaf own op (leaf_of ((homes_of o (h.durable ++ h.waiting)).page p))) ≡ true = ap (λ (l : List Numbered). is_some (step_leaf own op (leaf_of ((homes_of o l).page p)))) h.is_all ∙ asked.fits in
    let bytes_here : IsBytes ((homes_of o (h.durable ++ h.waiting)).page p) = subst IsBytes here bytes in
    let size_here : length ((homes_of o (h.durable ++ h.waiting)).page p) ≡ 4096 = ap length (sym here) ∙ size in
    let does = may own o m log' h.durable h.waiting pool' r p op h.engine a.by range lt page a.lawful brings links bytes_here size_here fits_here in
    record {
      may = record { effect = does.effect ∙ ap (ChangesPage p) (made_same own given (place_of log' r) op asked.means); appends = does.appends };
      agrees = agrees own o m log' h.durable h.waiting pool' r p op h.engine a.by range lt page a.lawful brings links bytes_here size_here fits_here ds ps (sym back) (subst (AllAgree own o ds) back a.phys.agrees);
    }

-- one record's list, after a call that appended nothing
one_list : (o : Origin) (m : View) (log' : Tail) (ds all : List Numbered) (pool' : Pool) (r : Record) (lsn : ℕ) (h : HasGoneOn o m log' ds all pool') → lsn ≡ place_of log' r → (h.durable ++ h.waiting) ++ numbered log' r ∷ [] ≡ all ++ at_number lsn r ∷ []
one_list o m log' ds all pool' r lsn h number = ap (λ (l : List Numbered). l ++ numbered log' r ∷ []) h.is_all ∙ ap (λ (n : ℕ). all ++ at_number n r ∷ []) (sym number)

-- THE CALL FOR A PAGE'S RECORD: a look, then the record
pub page_run : (own : Table) (o : Origin) (v m w : View) (log log' log'' : Tail) (ds ps : List Numbered) (pool pool' pool'' : Pool) (r : Record) (lsn : ℕ) (result : Result ℕ EngineFault) (h : HasGoneOn o m log' ds (ds ++ ps) pool') → lsn ≡ place_of log' r
    → IsRegistered own r → AllAgree own o ds ((h.durable ++ h.waiting) ++ numbered log' r ∷ []) → Stood o v m log pool ds (ds ++ ps) → StillAllowed o v m log log' pool pool'
    → Stood o m w log' pool' h.durable ((h.durable ++ h.waiting) ++ numbered log' r ∷ []) → ((k : ℕ) → IsAllowed o m log' pool' k → OnOk result (IsAllowed o w log'' pool'' k))
    → HasRun own o v w log log'' pool pool'' ds (ds ++ ps) r lsn result
page_run own o v m w log log' log'' ds ps pool pool' pool'' r lsn result h number registered agree first still second allowed =
    let all : List Numbered = ds ++ ps in
    let y : Numbered = at_number lsn r in
    let same = one_list o m log' ds all pool' r lsn h number in
    record {
      moments = inr (
        subst (AllAgree own o ds) same agree,
        λ k early. joined
            (weaker (first k early) (λ c stands. standing_weaker o ds (all ++ y ∷ []) ds all [] (y ∷ []) k c (sym (append_none ds)) refl stands))
            (weaker (second k (still k early)) (λ c stands. standing_weaker o ds (all ++ y ∷ []) h.durable ((h.durable ++ h.waiting) ++ numbered log' r ∷ []) h.since [] k c h.later (sym same ∙ sym (append_none ((h.durable ++ h.waiting) ++ numbered log' r ∷ []))) stands)),
      );
      allowed = each_ok (IsAllowed o v log pool) (IsAllowed o w log'' pool'') result (λ k early. allowed k (still k early));
      registered = registered;
    }

-- what holds of an answer by two facts of it
pub if_both : {E : Type 0} {A : Type 0} {P Q : ℕ → Type 0} (res : Result ℕ E) → OnOk res A → IfOk res P → ((x : ℕ) → P x → A → Q x) → IfOk res Q
if_both (Ok x) a p f = f x p a
if_both (Err e) a p f = tt
