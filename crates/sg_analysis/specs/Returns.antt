-- Where undoing goes on behind a record, by the changes that are open and the notes that stand.
use Rattle.std.specs.Prelude.{ℕ, ◌==◌, ◌&&◌, ◌||◌, nat_lt, if◌then◌else◌, Bool, true, false, List, [], ◌∷◌, map, Option, Some, None}
use Rattle.std.specs.Option.{is_none}
use Rattle.sg_recovery.specs.Log.{tally, is_in, open_of, notes_of}
use Rattle.sg_recovery.specs.Log.Record.{Begin, Change, TopEnd, PhysComp, TopVoid, CompEnd, Save, Commit, End}
use Rattle.sg_recovery.specs.Chains.{txn_of, border_of}
use Rattle.sg_analysis.specs.Sights.{Step, Steps, Sight}
use Rattle.sg_analysis.specs.Sights.Sight.{Stepped}
use Rattle.sg_analysis.specs.Firsts.{first, second, rest, cut_to}
use Rattle.sg_analysis.specs.declared.progress.Progress.{Progress}

-- the numbers of a transaction's open changes, the newest first
abbrev pub opens : Steps → ℕ → List ℕ
opens rs t = map (λ d. d.lsn) (open_of t (tally rs).opened)

-- where undoing goes on behind each of a transaction's standing notes, the newest first
abbrev pub returns : Steps → ℕ → List ℕ
returns rs t = map (λ n. n.undo_next) (notes_of t (tally rs).notes)

-- the last border of the system, or of a transaction that goes on
abbrev pub border_if : Steps → ℕ → Option ℕ
border_if rs t = if t == 0 || is_in t (tally rs).live then Some (border_of t rs) else None

-- how far a transaction has come
abbrev pub progress_of : Steps → ℕ → Progress
progress_of rs t = record { border = border_if rs t; newest = first (opens rs t); second = second (opens rs t); returning = first (returns rs t) }

-- none, or a number before those of the log
abbrev pub is_before : (base at : ℕ) → Bool
is_before base at = at == 0 || nat_lt at base

-- The newest open change of a transaction is taken off, and undoing goes on at the one before it, or else at the border behind the action.
abbrev pub next_is : (border : ℕ) → (newest second : Option ℕ) → (undo_next : ℕ) → Bool
next_is border None second undo_next = false
next_is border (Some d) None undo_next = undo_next == border
next_is border (Some d) (Some e) undo_next = undo_next == e

-- The same of the system, where it goes on nowhere behind an action. Where no action of the system has ended in the log, this one may have changes before it.
abbrev pub systems_next_is : (base border : ℕ) → (newest second : Option ℕ) → (undo_next : ℕ) → Bool
systems_next_is base border None second undo_next = border == 0 && is_before base undo_next
systems_next_is base border (Some d) None undo_next = if border == 0 then is_before base undo_next else undo_next == 0
systems_next_is base border (Some d) (Some e) undo_next = undo_next == e

-- of the system and of transactions that go on, a change is taken off as it has to be,
abbrev pub takes_next : (base : ℕ) → (system : Bool) → (border newest second : Option ℕ) → (undo_next : ℕ) → Bool
takes_next base system None newest second undo_next = true
takes_next base true (Some border) newest second undo_next = systems_next_is base border newest second undo_next
takes_next base false (Some border) newest second undo_next = next_is border newest second undo_next

-- all changes of the action are taken off,
abbrev pub takes_all : (border newest : Option ℕ) → Bool
takes_all None newest = true
takes_all (Some border) newest = is_none newest

-- and the newest standing note is undone, and undoing goes on where that one says
abbrev pub undoes_newest : (border returning : Option ℕ) → (undo_next : ℕ) → Bool
undoes_newest None returning undo_next = true
undoes_newest (Some border) None undo_next = false
undoes_newest (Some border) (Some n) undo_next = undo_next == n

-- A record fits the changes that are open and the notes that stand, of which the progress of its transaction tells. No transaction, also none that had begun
-- before the log, has a mark, commits or ends while changes of it are open.
abbrev pub fits_progress : (base : ℕ) → (system : Bool) → Progress → Step → Bool
fits_progress base system p (Begin t q) = true
fits_progress base system p (Change t q c) = true
fits_progress base system p (TopEnd t q u n) = true
fits_progress base system p (PhysComp t q u c) = takes_next base system p.border p.newest p.second u
fits_progress base system p (TopVoid t q u) = takes_all p.border p.newest
fits_progress base system p (CompEnd t q u) = undoes_newest p.border p.returning u
fits_progress base system p (Save t q m) = is_none p.newest
fits_progress base system p (Commit t q) = is_none p.newest
fits_progress base system p (End t q) = is_none p.newest

abbrev pub progress_by : (base : ℕ) → (system : Bool) → Progress → Sight → Bool
progress_by base system p (Stepped x) = fits_progress base system p x
progress_by base system p _ = true

-- undoing goes on where it has to behind this step
abbrev pub goes_back : (base : ℕ) → Steps → Step → Bool
goes_back base rs x = fits_progress base (txn_of x == 0) (progress_of rs (txn_of x)) x

-- the numbers of open changes behind a step of the transaction with this number
abbrev pub opens_behind : Step → (lsn : ℕ) → List ℕ → List ℕ
opens_behind (Begin t q) lsn ns = ns
opens_behind (Change t q c) lsn ns = lsn ∷ ns
opens_behind (TopEnd t q u n) lsn ns = []
opens_behind (PhysComp t q u c) lsn ns = cut_to u ns
opens_behind (TopVoid t q u) lsn ns = []
opens_behind (CompEnd t q u) lsn ns = []
opens_behind (Save t q m) lsn ns = ns
opens_behind (Commit t q) lsn ns = ns
opens_behind (End t q) lsn ns = ns

abbrev pub opens_by : Sight → (lsn : ℕ) → List ℕ → List ℕ
opens_by (Stepped x) lsn ns = opens_behind x lsn ns
opens_by _ lsn ns = ns

-- and where undoing goes on behind its standing notes, if it goes on or not
abbrev pub returns_behind : (lives : Bool) → Step → List ℕ → List ℕ
returns_behind lives (Begin t q) ns = ns
returns_behind lives (Change t q c) ns = ns
returns_behind lives (TopEnd t q u n) ns = if lives then u ∷ ns else ns
returns_behind lives (PhysComp t q u c) ns = ns
returns_behind lives (TopVoid t q u) ns = ns
returns_behind lives (CompEnd t q u) ns = rest ns
returns_behind lives (Save t q m) ns = ns
returns_behind lives (Commit t q) ns = []
returns_behind lives (End t q) ns = []

abbrev pub returns_by : (lives : Bool) → Sight → List ℕ → List ℕ
returns_by lives (Stepped x) ns = returns_behind lives x ns
returns_by lives _ ns = ns
