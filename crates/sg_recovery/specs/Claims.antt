-- What is proved of a log over any pages, readings and notes. Each is about a setting; those that rest on its laws say so.
use Rattle.std.specs.Prelude.{◌≡◌, ◌⊎◌, ℕ, ◌+◌, ◌<◌, ◌≤◌, true, false, List, [], ◌∷◌, ◌++◌, Option, Some, None}
use Rattle.sg_recovery.specs.Setting.{Setting}
use Rattle.sg_recovery.specs.Log.{Record, Numbered, Open, Top, Tally, said, tally, is_in, open_not_of, open_up_to, notes_of, notes_not_of, notes_up_to}
use Rattle.sg_recovery.specs.Log.Record.{Begin, Change, TopEnd, PhysComp, TopVoid, CompEnd, Save, Commit, End}
use Rattle.sg_recovery.specs.Stands.{redo, made, taken_off, all_off, settled, stands_at, stands_with, undoes, wanted, wants_one, HasPages, StandsFor}
use Rattle.sg_recovery.specs.Laws.{Each, Laws, Note, bare, all_gone_back}
use Rattle.sg_recovery.specs.Keeps.{Keeps, Reverts, top_of, IsDone, HasUndone, IsAside}
use Rattle.sg_recovery.specs.Shows.{Entry, from_on, left, live_after, behind, picked, Shows, Running, kept}
use Rattle.sg_recovery.specs.Runs.{Goes, AllStand, IsGranted, Locks, Releases}
use Rattle.sg_recovery.specs.Chains.{last_of, border_of, next_lsn, next_off, Formed, Sound, IsGone, IsLast, walk}
use Rattle.sg_recovery.specs.Opens.{Opens, AreOpening, Run}
use Rattle.sg_recovery.specs.TakeOff.{FindsOff}
use Rattle.sg_recovery.specs.Formed.{IsUnfinished, IsLog}
use Rattle.sg_recovery.specs.Linked.{AreLinked, LinkedSystem}
use Rattle.sg_recovery.specs.Words.{standing_in}
use Rattle.sg_recovery.specs.Alike.{AreAlike, TakesTo}

abbrev pub Log : Setting → Type 0
Log s = List (Numbered s.C s.N)

abbrev pub Says : Setting → Type 0
Says s = Tally s.C s.N

abbrev pub History : Setting → Type 0
History s = List (Entry s.V)

-- THE FOLD AND THE SENTENCE. The standing notes are those that no later record undoes
abbrev pub FoldSaysTheSentence : Setting → Type 0
FoldSaysTheSentence s = (rs : Log s) → standing_in [] rs ≡ (tally rs).notes

-- WALKS. A formed log keeps its chains, and a walk back from each border finds the standing notes, down to any stop
abbrev pub ChainsHold : Setting → Type 0
ChainsHold s = (rs : Log s) → Formed rs → Sound rs

-- an undo of a transaction down to its begin comes to its last standing note,
abbrev pub WalkFinds : Setting → Type 0
WalkFinds s = (rs : Log s) → Formed rs → (transaction : ℕ) (n : Top s.C s.N) (ns : List (Top s.C s.N)) → is_in transaction (tally rs).live ≡ true → notes_of transaction (tally rs).notes ≡ n ∷ ns
    → walk transaction (border_of transaction rs) rs ≡ Some n

-- and to none where none is left
abbrev pub WalkEnds : Setting → Type 0
WalkEnds s = (rs : Log s) → Formed rs → (transaction : ℕ) → is_in transaction (tally rs).live ≡ true → notes_of transaction (tally rs).notes ≡ [] → walk transaction (border_of transaction rs) rs ≡ None

-- the greatest of the notes to which the walks come is the greatest of all that stand
abbrev pub GreatestIsFound : Setting → Type 0
GreatestIsFound s = (rs : Log s) → Formed rs → (transaction : ℕ) (n : Top s.C s.N) (ns : List (Top s.C s.N)) → notes_of transaction (tally rs).notes ≡ n ∷ ns → Each (λ m. m.lsn ≤ n.lsn) (tally rs).notes
    → (rest : List (Top s.C s.N)) × ((tally rs).notes ≡ n ∷ rest)

-- THE TAKE-OFF of the one action without an end finds from its transaction's last record on all changes that are open, the last
-- one first, also where a stop came in the middle of it; and all of them are that transaction's
abbrev pub TakeOffFindsAll : Setting → Type 0
TakeOffFindsAll s = (base : ℕ) (rs : Log s) → IsLog base rs → (transaction : ℕ) → IsUnfinished rs transaction
    → FindsOff rs (last_of transaction rs) (tally rs).opened × Each (λ d. d.transaction ≡ transaction) (tally rs).opened

-- and these are linked: each names the one before it, and the first one the record before the action
abbrev pub OpenChangesAreLinked : Setting → Type 0
OpenChangesAreLinked s = (base : ℕ) (rs : Log s) → IsLog base rs → (transaction : ℕ) → IsUnfinished rs transaction
    → ((transaction ≡ 0) × LinkedSystem base rs (tally rs).opened) ⊎ ((is_in transaction (tally rs).live ≡ true) × AreLinked rs (border_of transaction rs) (tally rs).opened)

-- where no action of the system or of a transaction that goes on lacks an end, no change is open
abbrev pub NothingIsOpen : Setting → Type 0
NothingIsOpen s = (base : ℕ) (rs : Log s) → IsLog base rs → last_of 0 rs ≡ border_of 0 rs → ((transaction : ℕ) → is_in transaction (tally rs).live ≡ true → last_of transaction rs ≡ border_of transaction rs)
    → (tally rs).opened ≡ []

-- a record that takes the last open change off, and goes on at the one before it, leaves the others open
abbrev pub TakesOffOne : Setting → Type 0
TakesOffOne s = (rs : Log s) (undo_next border : ℕ) (d : Open s.C) (ds : List (Open s.C)) → Formed rs → (tally rs).opened ≡ d ∷ ds → border < d.lsn → undo_next ≡ next_off border ds
    → open_up_to d.transaction undo_next (d ∷ ds) ≡ ds

-- UNDOING TWICE. The greatest note is gone once the end of its undoing is there,
abbrev pub GreatestGoes : Setting → Type 0
GreatestGoes s = (rs : Log s) (n : Top s.C s.N) (rest : List (Top s.C s.N)) (lsn previous : ℕ) → Formed rs → (tally rs).notes ≡ n ∷ rest
    → IsGone n.lsn (record { lsn = lsn; is = CompEnd n.transaction previous n.undo_next } ∷ rs)

-- and whatever is appended behind that, the greatest note is another: a second opening undoes none again
abbrev pub NoneIsUndoneTwice : Setting → Type 0
NoneIsUndoneTwice s = (rs more : Log s) (n : Top s.C s.N) (rest : List (Top s.C s.N)) (lsn previous : ℕ) (m : Top s.C s.N) (others : List (Top s.C s.N))
    → Formed (more ++ (record { lsn = lsn; is = CompEnd n.transaction previous n.undo_next } ∷ rs)) → (tally rs).notes ≡ n ∷ rest
    → (tally (more ++ (record { lsn = lsn; is = CompEnd n.transaction previous n.undo_next } ∷ rs))).notes ≡ m ∷ others → m.lsn ≡ n.lsn → ⊥

-- WHAT A RECORD DOES to what a log stands for, one for each kind. A begin and a mark change nothing
abbrev pub BeginKeeps : Setting → Type 0
BeginKeeps s = (lsn transaction previous : ℕ) (k : Says s) (x : s.X) → stands_at s (said lsn (Begin transaction previous) k) x ≡ stands_at s k x

abbrev pub SaveKeeps : Setting → Type 0
SaveKeeps s = (lsn transaction previous mark : ℕ) (k : Says s) (x : s.X) → stands_at s (said lsn (Save transaction previous mark) k) x ≡ stands_at s k x

-- a change changes nothing where it reverts,
abbrev pub ChangeKeeps : Setting → Type 0
ChangeKeeps s = (lsn transaction previous : ℕ) (c : s.C) (k : Says s) (x : s.X) → Reverts s k.opened x (record { lsn = lsn; transaction = transaction; change = c })
    → stands_at s (said lsn (Change transaction previous c) k) (s.apply x c) ≡ stands_at s k x

-- as one does whose inverse gives the pages back
abbrev pub ExactReverts : Setting → Type 0
ExactReverts s = (ds : List (Open s.C)) (x : s.X) (d : Open s.C) → taken_off s d.change (s.apply x d.change) ≡ Some x → Reverts s ds x d

-- the end of an action of a transaction that goes on, whose note undoes it, keeps the objects
abbrev pub TopEndKeeps : Setting → Type 0
TopEndKeeps s = Laws s → (lsn transaction previous undo_next : ℕ) (n : s.N) (k : Says s) (x : s.X) → open_not_of transaction k.opened ≡ [] → is_in transaction k.live ≡ true
    → ((o : s.O) → settled s k.opened x ≡ Some o → IsDone s (top_of s lsn transaction undo_next n k.opened) x o) → Keeps s lsn (TopEnd transaction previous undo_next n) k x

-- and so does that of an action of the system which left aside what the notes undo
abbrev pub SystemKeeps : Setting → Type 0
SystemKeeps s = (lsn transaction previous undo_next : ℕ) (n : s.N) (k : Says s) (x : s.X) → open_not_of transaction k.opened ≡ [] → is_in transaction k.live ≡ false
    → ((o : s.O) → settled s k.opened x ≡ Some o → IsAside s k.notes x o) → Keeps s lsn (TopEnd transaction previous undo_next n) k x

-- taking the last open change off changes nothing
abbrev pub PhysCompKeeps : Setting → Type 0
PhysCompKeeps s = (lsn transaction previous undo_next : ℕ) (d : Open s.C) (ds : List (Open s.C)) (k : Says s) (x : s.X) (o : s.O) → k.opened ≡ d ∷ ds → open_up_to transaction undo_next (d ∷ ds) ≡ ds
    → stands_at s k x ≡ Some o → stands_at s (said lsn (PhysComp transaction previous undo_next (s.inverse d.change)) k) (s.apply x (s.inverse d.change)) ≡ Some o

-- nor does the end of a take-off, once all is taken off
abbrev pub TopVoidKeeps : Setting → Type 0
TopVoidKeeps s = (lsn transaction previous undo_next : ℕ) (k : Says s) (x : s.X) → open_not_of transaction k.opened ≡ k.opened → stands_at s (said lsn (TopVoid transaction previous undo_next) k) x ≡ stands_at s k x

-- the end of an undoing of the greatest note keeps the objects
abbrev pub CompEndKeeps : Setting → Type 0
CompEndKeeps s = Laws s → (lsn transaction previous undo_next : ℕ) (n : Top s.C s.N) (rest : List (Top s.C s.N)) (k : Says s) (x : s.X) → k.notes ≡ n ∷ rest → notes_up_to transaction undo_next (n ∷ rest) ≡ rest
    → open_not_of transaction k.opened ≡ [] → ((o : s.O) → settled s k.opened x ≡ Some o → HasUndone s n x o) → Keeps s lsn (CompEnd transaction previous undo_next) k x

-- an end changes nothing where no note of the transaction stands
abbrev pub EndKeeps : Setting → Type 0
EndKeeps s = (lsn transaction previous : ℕ) (k : Says s) (x : s.X) → notes_not_of transaction k.notes ≡ k.notes → stands_at s (said lsn (End transaction previous) k) x ≡ stands_at s k x

-- behind a commit the log stands for what the notes of the others give
abbrev pub CommitLeaves : Setting → Type 0
CommitLeaves s = (lsn transaction previous : ℕ) (k : Says s) (x : s.X) → stands_at s (said lsn (Commit transaction previous) k) x ≡ stands_with s k.opened (notes_not_of transaction k.notes) x

-- FREE PAGES are enough for the notes that want one, behind each kind of record: a change,
abbrev pub ChangePages : Setting → Type 0
ChangePages s = (lsn transaction previous : ℕ) (c : s.C) (k : Says s) (x : s.X) → Reverts s k.opened x (record { lsn = lsn; transaction = transaction; change = c }) → HasPages s k x
    → HasPages s (said lsn (Change transaction previous c) k) (s.apply x c)

-- the end of an action, where what it left free is enough with its own note,
abbrev pub TopEndPages : Setting → Type 0
TopEndPages s = (lsn transaction previous undo_next : ℕ) (n : s.N) (k : Says s) (x : s.X) → open_not_of transaction k.opened ≡ []
    → ((o : s.O) → s.reading x ≡ Some o → wanted s (top_of s lsn transaction undo_next n k.opened ∷ k.notes) ≤ s.free o) → HasPages s (said lsn (TopEnd transaction previous undo_next n) k) x

-- that of an undoing, which took a page only where its note wants one,
abbrev pub CompEndPages : Setting → Type 0
CompEndPages s = (lsn transaction previous undo_next : ℕ) (later : List (Top s.C s.N)) (n : Top s.C s.N) (rest : List (Top s.C s.N)) (k : Says s) (x : s.X) (old : s.O) → k.notes ≡ later ++ n ∷ rest
    → notes_up_to transaction undo_next (later ++ n ∷ rest) ≡ later ++ rest → open_not_of transaction k.opened ≡ [] → settled s k.opened x ≡ Some old
    → ((o : s.O) → s.reading x ≡ Some o → s.free old ≤ s.free o + wants_one s n) → HasPages s k x → HasPages s (said lsn (CompEnd transaction previous undo_next) k) x

-- the taking off of the last open change,
abbrev pub PhysCompPages : Setting → Type 0
PhysCompPages s = (lsn transaction previous undo_next : ℕ) (d : Open s.C) (ds : List (Open s.C)) (k : Says s) (x : s.X) (old : s.O) → k.opened ≡ d ∷ ds → open_up_to transaction undo_next (d ∷ ds) ≡ ds → settled s k.opened x ≡ Some old
    → HasPages s k x → HasPages s (said lsn (PhysComp transaction previous undo_next (s.inverse d.change)) k) (s.apply x (s.inverse d.change))

-- and the ends of a take-off and of a transaction
abbrev pub TopVoidPages : Setting → Type 0
TopVoidPages s = (lsn transaction previous undo_next : ℕ) (k : Says s) (x : s.X) → open_not_of transaction k.opened ≡ k.opened → HasPages s k x → HasPages s (said lsn (TopVoid transaction previous undo_next) k) x

abbrev pub EndPages : Setting → Type 0
EndPages s = (lsn transaction previous : ℕ) (k : Says s) (x : s.X) → HasPages s k x → HasPages s (said lsn (End transaction previous) k) x

abbrev pub CommitPages : Setting → Type 0
CommitPages s = (lsn transaction previous : ℕ) (k : Says s) (x : s.X) → HasPages s k x → HasPages s (said lsn (Commit transaction previous) k) x

-- THE RUNNING STORE keeps its invariant at each record but a commit,
abbrev pub RunningGoesOn : Setting → Type 0
RunningGoesOn s = Laws s → (first : s.S) (bound lsn : ℕ) (held : ℕ → s.W) (k : Says s) (x : s.X) (h g : History s) (r : Record s.C s.N) → Running s first bound held k x h → bound ≤ lsn → Goes s k x h held lsn r g
    → Running s first (lsn + 1) held (said lsn r k) (redo s r x) g

-- and such a record leaves what a crash would leave
abbrev pub RunningKeeps : Setting → Type 0
RunningKeeps s = (first : s.S) (bound lsn : ℕ) (held : ℕ → s.W) (k : Says s) (x : s.X) (h g : History s) (r : Record s.C s.N) → Running s first bound held k x h → bound ≤ lsn → Goes s k x h held lsn r g
    → kept s first (said lsn r k).live g ≡ kept s first k.live h

-- It keeps it at a commit,
abbrev pub RunningCommits : Setting → Type 0
RunningCommits s = (first : s.S) (bound lsn transaction previous : ℕ) (held : ℕ → s.W) (k : Says s) (x : s.X) (h : History s) → Running s first bound held k x h → bound ≤ lsn
    → Running s first (lsn + 1) held (said lsn (Commit transaction previous) k) x h

-- with a verb that logs nothing,
abbrev pub RunningLooks : Setting → Type 0
RunningLooks s = Laws s → (first : s.S) (bound transaction : ℕ) (held : ℕ → s.W) (v : s.V) (k : Says s) (x : s.X) (h : History s) → (running : Running s first bound held k x h) → is_in transaction k.live ≡ true
    → s.After v running.reading running.reading → IsGranted s held k.live transaction v → Running s first bound held k x (record { transaction = transaction; at = bound; verb = v } ∷ h)

-- where the entries of a transaction from a number on are forgotten, once no note of theirs stands,
abbrev pub RunningForgets : Setting → Type 0
RunningForgets s = (first : s.S) (bound transaction from : ℕ) (held : ℕ → s.W) (k : Says s) (x : s.X) (h : History s) → Running s first bound held k x h → is_in transaction k.live ≡ true
    → Each (λ n. n.transaction ≡ transaction → n.lsn < from) k.notes → Running s first bound held k x (left (from_on transaction from) h)

-- and where a transaction gets more locks
abbrev pub RunningLocks : Setting → Type 0
RunningLocks s = (first : s.S) (bound transaction : ℕ) (held new : ℕ → s.W) (k : Says s) (x : s.X) (h : History s) → Running s first bound held k x h → Locks s transaction held new → Running s first bound new k x h

-- or gives them back, once no note of its stands
abbrev pub RunningReleases : Setting → Type 0
RunningReleases s = (first : s.S) (bound transaction : ℕ) (held new : ℕ → s.W) (k : Says s) (x : s.X) (h : History s) → Running s first bound held k x h → Releases s k.notes transaction held new → Running s first bound new k x h

-- What a crash leaves stands for what the entries of the transactions that don't go on give,
abbrev pub RunningStands : Setting → Type 0
RunningStands s = (first : s.S) (bound : ℕ) (held : ℕ → s.W) (k : Says s) (x : s.X) (h : History s) → Running s first bound held k x h
    → (o : s.O) × (stands_at s k x ≡ Some o) × (s.objects o ≡ kept s first k.live h) × HasPages s k x

-- at each front of the log down to the last commit
abbrev pub RunStands : Setting → Type 0
RunStands s = Laws s → (first : s.S) (x : s.X) (more down : Log s) (held : ℕ → s.W) (h : History s) → Run s first x more down held h → AllStand s x (kept s first (tally (more ++ down)).live h) more down

abbrev pub RunKeeps : Setting → Type 0
RunKeeps s = Laws s → (first : s.S) (x : s.X) (more down : Log s) (held : ℕ → s.W) (h : History s) → Run s first x more down held h
    → Running s first (next_lsn (more ++ down)) held (tally (more ++ down)) (made s x (more ++ down)) h

-- a store that has just been opened is running, with no history
abbrev pub FreshRuns : Setting → Type 0
FreshRuns s = (x : s.X) (rs : Log s) (held : ℕ → s.W) (o : s.O) → Formed rs → (tally rs).opened ≡ [] → (tally rs).live ≡ [] → (tally rs).notes ≡ [] → s.reading (made s x rs) ≡ Some o
    → Running s (s.objects o) (next_lsn rs) held (tally rs) (made s x rs) []

-- GOING BACK. The last note of a transaction that goes on can be undone now, whatever later notes of others stand,
abbrev pub LastCanBeUndone : Setting → Type 0
LastCanBeUndone s = (first : s.S) (live : List ℕ) (later : List (Note s)) (n : Note s) (rest : List (Note s)) (h : History s) (o : s.O) → Shows s first live (later ++ n ∷ rest) h o → is_in n.transaction live ≡ true
    → Each (λ m. m.transaction ≡ n.transaction → ⊥) later → Each (λ m. m.lsn < n.lsn) rest → (p : s.O) × (undoes s (bare s n) o ≡ Some p)

-- what is left from an earlier point on is what is left from there on alone,
abbrev pub LeftTwice : Setting → Type 0
LeftTwice s = (transaction earlier later : ℕ) (h : History s) → earlier ≤ later → left (from_on transaction earlier) (left (from_on transaction later) h) ≡ left (from_on transaction earlier) h

-- a transaction that is undone from its begin on has no entries left,
abbrev pub NobodyIsLeft : Setting → Type 0
NobodyIsLeft s = (transaction : ℕ) (h : History s) → Each (λ e. e.transaction ≡ transaction → ⊥) (left (from_on transaction 0) h)

-- the reading of a running store shows the objects after its whole history,
abbrev pub ReadingShows : Setting → Type 0
ReadingShows s = (first : s.S) (live : List ℕ) (ns : List (Note s)) (h : History s) (o : s.O) → Shows s first live ns h o → s.objects o ≡ live_after s first h

-- and with some transactions undone, each from its begin or a mark on, there is what the history without these entries gives
abbrev pub MarksShow : Setting → Type 0
MarksShow s = (first : s.S) (live : List ℕ) (ns : List (Note s)) (h : History s) (o : s.O) (from : ℕ → Option ℕ) → Shows s first live ns h o → ((t b : ℕ) → from t ≡ Some b → is_in t live ≡ true)
    → (q : s.O) × (all_gone_back s (picked s (behind from) ns) o ≡ Some q) × (s.objects q ≡ live_after s first (left (behind from) h))

-- What the log's form gives a step: the notes of a transaction are at or below its border, where the next action goes on,
abbrev pub NotesAreBelow : Setting → Type 0
NotesAreBelow s = (rs : Log s) → Formed rs → (transaction undo_next : ℕ) → undo_next ≡ border_of transaction rs → Each (λ m. m.transaction ≡ transaction → m.lsn ≤ undo_next) (tally rs).notes × (undo_next < next_lsn rs)

-- and the first of its own notes is its last one among those of all
abbrev pub LastOfOwn : Setting → Type 0
LastOfOwn s = (ns : List (Top s.C s.N)) (transaction : ℕ) (n : Top s.C s.N) (own : List (Top s.C s.N)) → notes_of transaction ns ≡ n ∷ own → IsLast ns transaction n

-- OPENING. Each of its steps keeps the objects,
abbrev pub OpeningKeeps : Setting → Type 0
OpeningKeeps s = Laws s → (x : s.X) (rs : Log s) (lsn : ℕ) (r : Record s.C s.N) → Sound rs → Opens s (tally rs) (made s x rs) lsn r → Keeps s lsn r (tally rs) (made s x rs)

-- and the free pages;
abbrev pub OpeningPages : Setting → Type 0
OpeningPages s = (x : s.X) (rs : Log s) (lsn : ℕ) (r : Record s.C s.N) (o : s.O) → Sound rs → Opens s (tally rs) (made s x rs) lsn r → stands_at s (tally rs) (made s x rs) ≡ Some o → HasPages s (tally rs) (made s x rs)
    → HasPages s (said lsn r (tally rs)) (redo s r (made s x rs))

-- so each front of its log stands for what the log stood for that it found, and a second opening finds that again.
abbrev pub OpeningStands : Setting → Type 0
OpeningStands s = Laws s → (x : s.X) (m : s.S) (more down : Log s) → Formed (more ++ down) → AreOpening s x more down → StandsFor s x down m → AllStand s x m more down

-- Once nothing is open and no transaction goes on, the pages read as that
abbrev pub OpenedReads : Setting → Type 0
OpenedReads s = (x : s.X) (m : s.S) (rs : Log s) → Formed rs → (tally rs).opened ≡ [] → (tally rs).live ≡ [] → StandsFor s x rs m → (o : s.O) × (s.reading (made s x rs) ≡ Some o) × (s.objects o ≡ m)

-- PAGES THAT CAN'T BE TOLD APART. A change reverts where all inverses fit from the last back, with it and without it, its own
-- inverse gives pages alike to those before it, and pages alike to those of the action's begin read as these
abbrev pub AlikeReverts : (s : Setting) → (s.X → s.X → Type 0) → Type 0
AlikeReverts s R = AreAlike s R → (ds : List (Open s.C)) (x a b : s.X) (d : Open s.C) → all_off s (d ∷ ds) (s.apply x d.change) ≡ Some a → all_off s ds x ≡ Some b
    → R (s.apply (s.apply x d.change) (s.inverse d.change)) x → ((y : s.X) → R y b → s.reading y ≡ s.reading b) → Reverts s ds x d

-- An action without changes is taken off to its begin; so is one with a change more, whose inverse gives pages alike to those
-- before it, where all inverses fit; and one from which the last change is taken off
abbrev pub TakesNone : (s : Setting) → (s.X → s.X → Type 0) → Type 0
TakesNone s R = AreAlike s R → (x : s.X) → TakesTo s R x [] x

abbrev pub TakesMore : (s : Setting) → (s.X → s.X → Type 0) → Type 0
TakesMore s R = AreAlike s R → ((x y z : s.X) → R x y → R y z → R x z) → (begin : s.X) (ds : List (Open s.C)) (x a : s.X) (d : Open s.C) → TakesTo s R begin ds x → all_off s (d ∷ ds) (s.apply x d.change) ≡ Some a
    → R (s.apply (s.apply x d.change) (s.inverse d.change)) x → TakesTo s R begin (d ∷ ds) (s.apply x d.change)

abbrev pub TakesLess : (s : Setting) → (s.X → s.X → Type 0) → Type 0
TakesLess s R = (begin : s.X) (ds : List (Open s.C)) (x : s.X) (d : Open s.C) → TakesTo s R begin (d ∷ ds) x → TakesTo s R begin ds (s.apply x (s.inverse d.change))

-- Then what is read once the action is taken off is what was read at its begin, and each of its changes reverts
abbrev pub TakesReads : (s : Setting) → (s.X → s.X → Type 0) → Type 0
TakesReads s R = (begin : s.X) (ds : List (Open s.C)) (x : s.X) → TakesTo s R begin ds x → ((y : s.X) → R y begin → s.reading y ≡ s.reading begin) → settled s ds x ≡ s.reading begin

abbrev pub TakesReverts : (s : Setting) → (s.X → s.X → Type 0) → Type 0
TakesReverts s R = (begin : s.X) (ds : List (Open s.C)) (x : s.X) (d : Open s.C) → TakesTo s R begin ds x → TakesTo s R begin (d ∷ ds) (s.apply x d.change) → ((y : s.X) → R y begin → s.reading y ≡ s.reading begin) → Reverts s ds x d
