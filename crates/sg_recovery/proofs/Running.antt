-- The steps of a running store keep what it keeps.
use Rattle.std.proofs.Common.{◌≡◌, ℕ, ◌+◌, ◌<◌, ◌≤◌, ◌==◌, nat_lt, arith, Bool, true, false, cond, not, ◌&&◌, ◌||◌, List, [], ◌∷◌, ◌++◌, filter, map, Some, refl, sym, ap, ◌∙◌, subst, le_trans}
use Rattle.sg_recovery.specs.Setting.{Setting}
use Rattle.sg_recovery.specs.Log.{Record, Open, Top, Tally, said, is_in, without, open_not_of, notes_not_of, notes_up_to}
use Rattle.sg_recovery.specs.Log.Record.{Commit}
use Rattle.std.proofs.lemmas.List.{map-append}
use Rattle.sg_recovery.specs.Stands.{redo, all_undone, settled, stands_at, wanted, wants_one, HasPages}
use Rattle.sg_recovery.specs.Laws.{Each, Note, bare, Carries, Laws, Swaps, Passes}
use Rattle.sg_recovery.specs.Keeps.{top_of, HasUndone}
use Rattle.sg_recovery.specs.Shows.{Entry, from_on, left, Shows, Ranks, Pairs, IsNote, Running, kept}
use Rattle.sg_recovery.specs.Runs.{note_of, TakesPages, IsGranted, Locks, Releases, Goes}
use Rattle.sg_recovery.specs.Runs.Goes.{begins, saves, changes, does, undoes_last, ends, ends_over, frees}
use Rattle.sg_recovery.proofs.Basic.{then_of, some_one, cond_true, cond_false, each_more, each_both, each_append, each_front, each_back, each_filter, each_kept, filter_all, filter_append, same_number, number_is, other_number, lt_true, lt_false, or_cases}
use Rattle.sg_recovery.proofs.Pages.{wanted_less, wanted_but}
use Rattle.sg_recovery.proofs.Undoing.{back_undoes, all_back_undoes}
use Rattle.sg_recovery.proofs.Showing.{others, verb_shows, looked_shows, begin_shows, commit_shows, end_shows, forget_shows, undo_shows, freed_shows, crash_shows, kept_entry, kept_undone, kept_begun, kept_ended, kept_over, without_same}

note_later : (live : List ℕ) (b c t l u : ℕ) → b ≤ c → IsNote live b t l u → IsNote live c t l u
note_later live b c t l u le h = record { is_live = h.is_live; number = omega (arith, h.number); low = omega (arith, h.low); before = h.before }

-- more is live
note_more : (live : List ℕ) (b t l u a : ℕ) → IsNote live b t l u → IsNote (a ∷ live) b t l u
note_more live b t l u a h = record { is_live = more (a == t) h.is_live; number = h.number; low = h.low; before = h.before }
  where
    more : (c : Bool) → is_in t live ≡ true → (c || is_in t live) ≡ true
    more true e = refl
    more false e = e

pub pairs_filter : {A : Type 0} (R : A → A → Type 0) (p : A → Bool) (xs : List A) → Pairs R xs → Pairs R (filter p xs)
pairs_filter R p [] h = tt
pairs_filter R p (x ∷ xs) h = by_test (p x) (each_filter (R x) p xs h.0) (pairs_filter R p xs h.1)
  where
    by_test : (b : Bool) → Each (R x) (filter p xs) → Pairs R (filter p xs) → Pairs R (cond b (x ∷ filter p xs) (filter p xs))
    by_test true e k = (e, k)
    by_test false e k = k

-- but for one of them
pairs_but : {A : Type 0} (R : A → A → Type 0) (xs : List A) (y : A) (ys : List A) → Pairs R (xs ++ y ∷ ys) → Pairs R (xs ++ ys)
pairs_but R [] y ys h = h.1
pairs_but R (x ∷ xs) y ys h = (each_append (R x) xs ys (each_front (R x) xs (y ∷ ys) h.0) (each_back (R x) xs (y ∷ ys) h.0).1, pairs_but R xs y ys h.1)

pairs_back : {A : Type 0} (R : A → A → Type 0) (xs ys : List A) → Pairs R (xs ++ ys) → Pairs R ys
pairs_back R [] ys h = h
pairs_back R (x ∷ xs) ys h = pairs_back R xs ys h.1

-- what stands before an element is a pair with it
pairs_front : {A : Type 0} (R : A → A → Type 0) (xs : List A) (y : A) (ys : List A) → Pairs R (xs ++ y ∷ ys) → Each (λ x. R x y) xs
pairs_front R [] y ys h = tt
pairs_front R (x ∷ xs) y ys h = ((each_back (R x) xs (y ∷ ys) h.0).0, pairs_front R xs y ys h.1)

-- the notes that stand after a comp-end
pub left_notes : (s : Setting) (later : List (Note s)) (n : Note s) (rest : List (Note s)) → Each (λ m. m.transaction ≡ n.transaction → ⊥) later → n.undo_next < n.lsn
    → Each (λ m. m.transaction ≡ n.transaction → m.lsn ≤ n.undo_next) rest → filter (λ m. not (m.transaction == n.transaction && nat_lt n.undo_next m.lsn)) (later ++ n ∷ rest) ≡ later ++ rest
left_notes s later n rest other before chained =
    filter_append test later (n ∷ rest)
    ∙ (ap (λ l. l ++ filter test (n ∷ rest)) (filter_all test later (each_more (λ m. m.transaction ≡ n.transaction → ⊥) (λ m. test m ≡ true) later (λ m ne. ap (λ b. not (b && nat_lt n.undo_next m.lsn)) (other_number m.transaction n.transaction ne)) other))
    ∙ ap (λ l. later ++ l) (cond_false (test n) (n ∷ filter test rest) (filter test rest) (ap (λ b. not (b && nat_lt n.undo_next n.lsn)) (same_number n.transaction) ∙ ap not (lt_true n.undo_next n.lsn before))
    ∙ filter_all test rest (each_more (λ m. m.transaction ≡ n.transaction → m.lsn ≤ n.undo_next) (λ m. test m ≡ true) rest (λ m le. by_test m (m.transaction == n.transaction) refl le) chained)))
  where
    test : Note s → Bool
    test m = not (m.transaction == n.transaction && nat_lt n.undo_next m.lsn)

    by_test : (m : Note s) (b : Bool) → (m.transaction == n.transaction) ≡ b → (m.transaction ≡ n.transaction → m.lsn ≤ n.undo_next) → not (b && nat_lt n.undo_next m.lsn) ≡ true
    by_test m true e le = ap not (lt_false n.undo_next m.lsn (le (number_is m.transaction n.transaction e)))
    by_test m false e le = refl

-- with these parts of what the log says
abbrev pub RunningWith : (s : Setting) → s.S → ℕ → (ℕ → s.W) → List ℕ → List (Open s.C) → List (Top s.C s.N) → s.X → List (Entry s.V) → Type 0
RunningWith s first b held live ds ns x h = Running s first b held (record { live = live; opened = ds; notes = ns }) x h

run_with : (s : Setting) (first : s.S) (b : ℕ) (held : ℕ → s.W) (live : List ℕ) (ds es : List (Open s.C)) (ns ms : List (Top s.C s.N)) (x : s.X) (h : List (Entry s.V))
    → ds ≡ es → ns ≡ ms → RunningWith s first b held live es ms x h → RunningWith s first b held live ds ns x h
run_with s first b held live ds es ns ms x h d n i =
    subst (λ a. RunningWith s first b held live a ns x h) (sym d) (subst (λ a. RunningWith s first b held live es a x h) (sym n) i)

live_low : (b t : ℕ) (live : List ℕ) → Each (λ u. u < b) live → is_in t live ≡ true → t < b
live_low b t [] h is = absurd (cc)
live_low b t (u ∷ live) h is = or_cases (u == t) (is_in t live) (t < b) is (λ e. subst (λ z. z < b) (number_is u t e) h.0) (live_low b t live h.1)

-- later on
lives_later : (b c : ℕ) (live : List ℕ) → b ≤ c → Each (λ u. u < b) live → Each (λ u. u < c) live
lives_later b c live le h = each_more (λ u. u < b) (λ u. u < c) live (λ u z. omega arith) h

notes_later : (s : Setting) (live : List ℕ) (b c : ℕ) (ns : List (Note s)) → b ≤ c → Each (λ n. IsNote live b n.transaction n.lsn n.undo_next) ns → Each (λ n. IsNote live c n.transaction n.lsn n.undo_next) ns
notes_later s live b c ns le h = each_more (λ n. IsNote live b n.transaction n.lsn n.undo_next) (λ n. IsNote live c n.transaction n.lsn n.undo_next) ns (λ n z. note_later live b c n.transaction n.lsn n.undo_next le z) h

entries_later : (s : Setting) (b c : ℕ) (h : List (Entry s.V)) → b ≤ c → Each (λ e. e.transaction < b) h → Each (λ e. e.transaction < c) h
entries_later s b c h le k = each_more (λ e. e.transaction < b) (λ e. e.transaction < c) h (λ e z. omega arith) k

-- later on nothing else is lost
abbrev running_later : (s : Setting) (first : s.S) (b c : ℕ) (held : ℕ → s.W) (k : Tally s.C s.N) (x : s.X) (h : List (Entry s.V)) → b ≤ c → Running s first b held k x h → Running s first c held k x h
running_later s first b c held k x h le i = record {
  reading = i.reading;
  reads = i.reads;
  pages = i.pages;
  placed = i.placed;
  are = i.are;
  shows = i.shows;
  lives = lives_later b c k.live le i.lives;
  notes = notes_later s k.live b c i.placed le i.notes;
  locked = i.locked;
  ranks = i.ranks;
  entries = entries_later s b c h le i.entries;
}

-- the notes of others than a transaction
others_same : (s : Setting) (t : ℕ) (ns : List (Note s)) → Each (λ n. n.transaction ≡ t → ⊥) ns → others s t ns ≡ ns
others_same s t ns h = filter_all (λ n. not (n.transaction == t)) ns (each_more (λ n. n.transaction ≡ t → ⊥) (λ n. not (n.transaction == t) ≡ true) ns (λ n ne. ap not (other_number n.transaction t ne)) h)

note_without : (live : List ℕ) (b t l u a : ℕ) → (t ≡ a → ⊥) → IsNote live b t l u → IsNote (without a live) b t l u
note_without live b t l u a ne h = record { is_live = without_same a t live ne ∙ h.is_live; number = h.number; low = h.low; before = h.before }

-- a test of what is mapped
filter_mapped : {A B : Type 0} (f : A → B) (p : B → Bool) (xs : List A) → filter p (map f xs) ≡ map f (filter (λ x. p (f x)) xs)
filter_mapped f p [] = refl
filter_mapped f p (x ∷ xs) = ap (λ l. cond (p (f x)) (f x ∷ l) l) (filter_mapped f p xs) ∙ by_test (p (f x)) (filter (λ x. p (f x)) xs)
  where
    by_test : (b : Bool) (ys : List _) → cond b (f x ∷ map f ys) (map f ys) ≡ map f (cond b (x ∷ ys) ys)
    by_test true ys = refl
    by_test false ys = refl

each_mapped : {A B : Type 0} (f : A → B) (P : B → Type 0) (xs : List A) → Each P (map f xs) → Each (λ x. P (f x)) xs
each_mapped f P [] h = tt
each_mapped f P (x ∷ xs) h = (h.0, each_mapped f P xs h.1)

-- a list whose map is split
record IsSplit {A B : Type 0} (f : A → B) (xs : List A) (later : List B) (n : B) (rest : List B) : Type 0 where
  front : List A
  mid : A
  back : List A
  all : xs ≡ front ++ mid ∷ back
  is_front : map f front ≡ later
  is_mid : f mid ≡ n
  is_back : map f back ≡ rest

split_mapped : {A B : Type 0} (f : A → B) (xs : List A) (later : List B) (n : B) (rest : List B) → map f xs ≡ later ++ n ∷ rest → IsSplit f xs later n rest
split_mapped f [] [] n rest e = absurd (cc)
split_mapped f [] (m ∷ later) n rest e = absurd (cc)
split_mapped f (x ∷ xs) [] n rest e = record { front = []; mid = x; back = xs; all = refl; is_front = refl; is_mid = cc; is_back = cc }
split_mapped f (x ∷ xs) (m ∷ later) n rest e =
    let i = split_mapped f xs later n rest (cc) in
    record { front = x ∷ i.front; mid = i.mid; back = i.back; all = ap (λ l. x ∷ l) i.all; is_front = first i.front i.is_front; is_mid = i.is_mid; is_back = i.is_back }
  where
    head_is : f x ≡ m
    head_is = cc

    first : (front : List _) → map f front ≡ later → map f (x ∷ front) ≡ m ∷ later
    first front h = cc

more_free : (a b c : ℕ) → a ≤ b → b ≤ c + 0 → a ≤ c
more_free a b c h k = omega arith

fewer : (a b c d : ℕ) → a + b ≤ c → c ≤ d + b → a ≤ d
fewer a b c d h k = omega arith

-- a note is undone in its action
undoes_one : (s : Setting) → Laws s → (first : s.S) (b l : ℕ) (held : ℕ → s.W) (k : Tally s.C s.N) (x : s.X) (h : List (Entry s.V)) (i : Running s first b held k x h) → b ≤ l
    → (later : List (Note s)) (n : Note s) (rest : List (Note s)) → i.placed ≡ later ++ n ∷ rest → Each (λ m. m.transaction ≡ n.transaction → ⊥) later → open_not_of n.transaction k.opened ≡ []
    → ((o : s.O) → settled s k.opened x ≡ Some o → HasUndone s (bare s n) x o) → TakesPages s k x (wants_one s (bare s n))
    → Running s first (l + 1) held (record { live = k.live; opened = open_not_of n.transaction k.opened; notes = notes_up_to n.transaction n.undo_next k.notes }) x (left (from_on n.transaction n.lsn) h)
undoes_one s w first b l held k x h i le later n rest notes aside alone undone takes =
    let j = running_later s first b (l + 1) held k x h (omega arith) i in
    let all : Each (λ m. IsNote k.live (l + 1) m.transaction m.lsn m.undo_next) (later ++ n ∷ rest) = subst (Each (λ m. IsNote k.live (l + 1) m.transaction m.lsn m.undo_next)) notes j.notes in
    let ranks : Pairs (Ranks s) (later ++ n ∷ rest) = subst (Pairs (Ranks s)) notes i.ranks in
    let locked : Each (λ m. s.Within m.place (held m.transaction)) (later ++ n ∷ rest) = subst (Each (λ m. s.Within m.place (held m.transaction))) notes i.locked in
    let behind = pairs_back (Ranks s) later (n ∷ rest) ranks in
    let own = each_back (λ m. IsNote k.live (l + 1) m.transaction m.lsn m.undo_next) later (n ∷ rest) all in
    let d = undone i.reading i.reads in
    let test : Top s.C s.N → Bool = λ m. not (m.transaction == n.transaction && nat_lt n.undo_next m.lsn) in
    let still : notes_up_to n.transaction n.undo_next k.notes ≡ map (bare s) (later ++ rest) =
    ap (filter test) (sym i.are) ∙ (filter_mapped (bare s) test i.placed ∙ ap (map (bare s)) (ap (filter (λ m. not (m.transaction == n.transaction && nat_lt n.undo_next m.lsn))) notes
    ∙ left_notes s later n rest aside own.0.before (each_more (Ranks s n) (λ m. m.transaction ≡ n.transaction → m.lsn ≤ n.undo_next) rest (λ m z. z.chained) behind.0))) in
    let still_wanted : wanted s (map (bare s) later ++ bare s n ∷ map (bare s) rest) ≡ wanted s k.notes = ap (wanted s) (sym (map-append (bare s) later (n ∷ rest)) ∙ (ap (map (bare s)) (sym notes) ∙ i.are)) in
    run_with s first (l + 1) held k.live (open_not_of n.transaction k.opened) [] (notes_up_to n.transaction n.undo_next k.notes) (map (bare s) (later ++ rest)) x (left (from_on n.transaction n.lsn) h) alone still
    (record {
      reading = d.now;
      reads = d.reads;
      pages = fewer (wanted s (map (bare s) (later ++ rest))) (wants_one s (bare s n)) (s.free i.reading) (s.free d.now) (subst (λ a. a ≤ s.free i.reading) (sym still_wanted ∙ wanted_but s (map (bare s) later) (bare s n) (map (bare s) rest) ∙ ap (λ a. wanted s a + wants_one s (bare s n)) (sym (map-append (bare s) later rest))) i.pages) (takes i.reading d.now i.reads d.reads);
      placed = later ++ rest;
      are = refl;
      shows = undo_shows s w first k.live later n rest h i.reading d.now own.0.is_live
          (each_more (λ m. (m.transaction ≡ n.transaction → ⊥) × Ranks s m n) (λ m. (m.transaction ≡ n.transaction → ⊥) × Swaps s m n) later (λ m z. (z.0, z.1.apart (λ e. z.0 (sym e))))
          (each_both (λ m. m.transaction ≡ n.transaction → ⊥) (λ m. Ranks s m n) later aside (pairs_front (Ranks s) later n rest ranks)))
          (each_more (Ranks s n) (λ m. m.lsn < n.lsn) rest (λ m z. z.lower) behind.0)
          (λ back is. d.above back (back_undoes s n i.reading back is)) (subst (λ a. Shows s first k.live a h i.reading) notes i.shows);
      lives = j.lives;
      notes = each_append (λ m. IsNote k.live (l + 1) m.transaction m.lsn m.undo_next) later rest (each_front (λ m. IsNote k.live (l + 1) m.transaction m.lsn m.undo_next) later (n ∷ rest) all) own.1;
      locked = each_append (λ m. s.Within m.place (held m.transaction)) later rest (each_front (λ m. s.Within m.place (held m.transaction)) later (n ∷ rest) locked) (each_back (λ m. s.Within m.place (held m.transaction)) later (n ∷ rest) locked).1;
      ranks = pairs_but (Ranks s) later n rest ranks;
      entries = each_filter (λ e. e.transaction < l + 1) (λ e. not (from_on n.transaction n.lsn e.transaction e.at)) h j.entries;
    })

not_live : (live : List ℕ) (t u : ℕ) → is_in t live ≡ false → is_in u live ≡ true → u ≡ t → ⊥
not_live live t u over is e = clash (is_in t live) over (subst (λ a. is_in a live ≡ true) e is)
  where
    clash : (c : Bool) → c ≡ false → c ≡ true → ⊥
    clash c x y = absurd (cc)

-- one record more
pub goes_on : (s : Setting) → Laws s → (first : s.S) (b l : ℕ) (held : ℕ → s.W) (k : Tally s.C s.N) (x : s.X) (h g : List (Entry s.V)) (r : Record s.C s.N) → Running s first b held k x h → b ≤ l → Goes s k x h held l r g
    → Running s first (l + 1) held (said l r k) (redo s r x) g
goes_on s w first b l held k x h g r i le (begins p) =
    let j = running_later s first b (l + 1) held k x h (omega arith) i in
    record {
      reading = i.reading;
      reads = i.reads;
      pages = i.pages;
      placed = i.placed;
      are = i.are;
      shows = begin_shows s first k.live i.placed h i.reading l i.shows
          (each_more (λ n. IsNote k.live b n.transaction n.lsn n.undo_next) (λ n. n.transaction ≡ l → ⊥) i.placed (λ n z e. absurd (omega (arith, z.number))) i.notes)
          (each_more (λ e. e.transaction < b) (λ e. e.transaction ≡ l → ⊥) h (λ e z is. absurd (omega arith)) i.entries);
      lives = (omega arith, j.lives);
      notes = each_more (λ n. IsNote k.live (l + 1) n.transaction n.lsn n.undo_next) (λ n. IsNote (l ∷ k.live) (l + 1) n.transaction n.lsn n.undo_next) i.placed
          (λ n z. note_more k.live (l + 1) n.transaction n.lsn n.undo_next l z) j.notes;
      locked = i.locked;
      ranks = i.ranks;
      entries = j.entries;
    }
goes_on s w first b l held k x h g r i le (saves t p m) = running_later s first b (l + 1) held k x h (omega arith) i
goes_on s w first b l held k x h g r i le (changes t p c reverts) =
    let j = running_later s first b (l + 1) held k x h (omega arith) i in
    record { reading = i.reading; reads = reverts ∙ i.reads; pages = i.pages; placed = i.placed; are = i.are; shows = i.shows; lives = j.lives; notes = j.notes; locked = j.locked; ranks = j.ranks; entries = j.entries }
goes_on s w first b l held k x h g r i le (does t p u n v place live alone before chained granted within verb enough) =
    let j = running_later s first b (l + 1) held k x h (omega arith) i in
    let top = top_of s l t u n k.opened in
    let note = note_of s l t u n k.opened place in
    let d = verb i.reading i.reads in
    let below = live_low b t k.live i.lives live in
    let known : Each (λ m. IsNote k.live b m.transaction m.lsn m.undo_next × s.Within m.place (held m.transaction)) i.placed = each_both (λ m. IsNote k.live b m.transaction m.lsn m.undo_next) (λ m. s.Within m.place (held m.transaction)) i.placed i.notes i.locked in
    let order : Each (λ m. m.transaction ≡ t → m.lsn ≤ u) i.placed = each_mapped (bare s) (λ m. m.transaction ≡ t → m.lsn ≤ u) i.placed (subst (Each (λ m. m.transaction ≡ t → m.lsn ≤ u)) (sym i.are) chained) in
    run_with s first (l + 1) held k.live (open_not_of t k.opened) [] (cond (is_in t k.live) (top ∷ k.notes) k.notes) (top ∷ k.notes) x (record { transaction = t; at = l; verb = v } ∷ h) alone (cond_true (is_in t k.live) (top ∷ k.notes) k.notes live)
    (record {
      reading = d.now;
      reads = d.reads;
      pages = enough d.now d.reads;
      placed = note ∷ i.placed;
      are = ap (λ z. top ∷ z) i.are;
      shows = verb_shows s w first k.live i.placed h i.reading d.now d.back note v i.shows d.after d.undone d.above
          (each_more (λ m. IsNote k.live b m.transaction m.lsn m.undo_next × s.Within m.place (held m.transaction)) (λ m. (m.lsn ≤ l) × ((m.transaction ≡ t → ⊥) → Passes s v m)) i.placed
          (λ m z. (low m.transaction m.lsn m.undo_next z.0, λ ne. w.clear_passes v (held m.transaction) m (granted m.transaction z.0.is_live ne) z.1)) known);
      lives = j.lives;
      notes = (record { is_live = live; number = omega arith; low = omega arith; before = before }, j.notes);
      locked = (within, i.locked);
      ranks = (
        each_more (λ m. (m.transaction ≡ t → m.lsn ≤ u) × (IsNote k.live b m.transaction m.lsn m.undo_next × s.Within m.place (held m.transaction))) (Ranks s note) i.placed
            (λ m z. record { lower = omega (arith, z.1.0.low); chained = z.0; apart = λ ne. w.clear_swaps v (held m.transaction) note m (granted m.transaction z.1.0.is_live ne) d.writes z.1.1 })
            (each_both (λ m. m.transaction ≡ t → m.lsn ≤ u) (λ m. IsNote k.live b m.transaction m.lsn m.undo_next × s.Within m.place (held m.transaction)) i.placed order known),
        i.ranks,
      );
      entries = (omega arith, j.entries);
    })
  where
    low : (mt ml mu : ℕ) → IsNote k.live b mt ml mu → ml ≤ l
    low mt ml mu z = omega (arith, z.low)
goes_on s w first b l held k x h g r i le (undoes_last p later n rest notes aside alone undone takes) =
    let c = split_mapped (bare s) i.placed later n rest (i.are ∙ notes) in
    let other : Each (λ m. m.transaction ≡ n.transaction → ⊥) c.front = each_mapped (bare s) (λ m. m.transaction ≡ n.transaction → ⊥) c.front (subst (Each (λ m. m.transaction ≡ n.transaction → ⊥)) (sym c.is_front) aside) in
    subst (λ z. Running s first (l + 1) held (record { live = k.live; opened = open_not_of z.transaction k.opened; notes = notes_up_to z.transaction z.undo_next k.notes }) x (left (from_on z.transaction z.lsn) h)) c.is_mid
    (undoes_one s w first b l held k x h i le c.front c.mid c.back c.all
    (subst (λ z. Each (λ m. m.transaction ≡ z.transaction → ⊥) c.front) (sym c.is_mid) other)
    (subst (λ z. open_not_of z.transaction k.opened ≡ []) (sym c.is_mid) alone)
    (subst (λ z. (o : s.O) → settled s k.opened x ≡ Some o → HasUndone s z x o) (sym c.is_mid) undone)
    (subst (λ z. TakesPages s k x (wants_one s z)) (sym c.is_mid) takes))
goes_on s w first b l held k x h g r i le (ends t p none nobody) =
    let j = running_later s first b (l + 1) held k x h (omega arith) i in
    let no_notes : Each (λ n. n.transaction ≡ t → ⊥) i.placed = each_mapped (bare s) (λ n. n.transaction ≡ t → ⊥) i.placed (subst (Each (λ n. n.transaction ≡ t → ⊥)) (sym i.are) none) in
    let same : notes_not_of t k.notes ≡ map (bare s) i.placed =
    ap (filter (λ n. not (n.transaction == t))) (sym i.are) ∙ (filter_mapped (bare s) (λ n. not (n.transaction == t)) i.placed ∙ ap (map (bare s)) (others_same s t i.placed no_notes)) in
    run_with s first (l + 1) held (without t k.live) k.opened k.opened (notes_not_of t k.notes) (map (bare s) i.placed) x h refl same
    (record {
      reading = i.reading;
      reads = i.reads;
      pages = subst (λ a. wanted s a ≤ s.free i.reading) (sym i.are) i.pages;
      placed = i.placed;
      are = refl;
      shows = end_shows s first k.live i.placed h i.reading t i.shows;
      lives = each_filter (λ u. u < l + 1) (λ u. not (u == t)) k.live j.lives;
      notes = each_more (λ n. (n.transaction ≡ t → ⊥) × IsNote k.live (l + 1) n.transaction n.lsn n.undo_next) (λ n. IsNote (without t k.live) (l + 1) n.transaction n.lsn n.undo_next) i.placed
          (λ n z. note_without k.live (l + 1) n.transaction n.lsn n.undo_next t z.0 z.1) (each_both (λ n. n.transaction ≡ t → ⊥) (λ n. IsNote k.live (l + 1) n.transaction n.lsn n.undo_next) i.placed no_notes j.notes);
      locked = i.locked;
      ranks = i.ranks;
      entries = j.entries;
    })
goes_on s w first b l held k x h g r i le (ends_over t p over) =
    let j = running_later s first b (l + 1) held k x h (omega arith) i in
    let no_notes : Each (λ n. n.transaction ≡ t → ⊥) i.placed = each_more (λ n. IsNote k.live b n.transaction n.lsn n.undo_next) (λ n. n.transaction ≡ t → ⊥) i.placed (λ n z e. not_live k.live t n.transaction over z.is_live e) i.notes in
    let same : notes_not_of t k.notes ≡ map (bare s) i.placed =
    ap (filter (λ n. not (n.transaction == t))) (sym i.are) ∙ (filter_mapped (bare s) (λ n. not (n.transaction == t)) i.placed ∙ ap (map (bare s)) (others_same s t i.placed no_notes)) in
    run_with s first (l + 1) held (without t k.live) k.opened k.opened (notes_not_of t k.notes) (map (bare s) i.placed) x h refl same
    (record {
      reading = i.reading;
      reads = i.reads;
      pages = subst (λ a. wanted s a ≤ s.free i.reading) (sym i.are) i.pages;
      placed = i.placed;
      are = refl;
      shows = end_shows s first k.live i.placed h i.reading t i.shows;
      lives = each_filter (λ u. u < l + 1) (λ u. not (u == t)) k.live j.lives;
      notes = each_more (λ n. (n.transaction ≡ t → ⊥) × IsNote k.live (l + 1) n.transaction n.lsn n.undo_next) (λ n. IsNote (without t k.live) (l + 1) n.transaction n.lsn n.undo_next) i.placed
          (λ n z. note_without k.live (l + 1) n.transaction n.lsn n.undo_next t z.0 z.1) (each_both (λ n. n.transaction ≡ t → ⊥) (λ n. IsNote k.live (l + 1) n.transaction n.lsn n.undo_next) i.placed no_notes j.notes);
      locked = i.locked;
      ranks = i.ranks;
      entries = j.entries;
    })
goes_on s w first b l held k x h g r i le (frees t p u n tombs live alone freed takes apart) =
    let j = running_later s first b (l + 1) held k x h (omega arith) i in
    let top = top_of s l t u n k.opened in
    let d = freed i.reading i.reads in
    run_with s first (l + 1) held k.live (open_not_of t k.opened) [] (cond (is_in t k.live) (top ∷ k.notes) k.notes) k.notes x h alone (cond_false (is_in t k.live) (top ∷ k.notes) k.notes live)
    (record {
      reading = d.now;
      reads = d.reads;
      pages = more_free (wanted s k.notes) (s.free i.reading) (s.free d.now) i.pages (takes i.reading d.now i.reads d.reads);
      placed = i.placed;
      are = i.are;
      shows = freed_shows s w first k.live i.placed h i.reading d.now tombs d.freed
          (each_more (λ m. IsNote k.live b m.transaction m.lsn m.undo_next × s.Within m.place (held m.transaction)) (Carries s (s.Freed tombs)) i.placed (λ m z. w.apart_passes tombs (held m.transaction) m (apart m.transaction z.0.is_live) z.1)
          (each_both (λ m. IsNote k.live b m.transaction m.lsn m.undo_next) (λ m. s.Within m.place (held m.transaction)) i.placed i.notes i.locked)) i.shows;
      lives = j.lives;
      notes = j.notes;
      locked = j.locked;
      ranks = j.ranks;
      entries = j.entries;
    })

-- a commit
pub commits : (s : Setting) (first : s.S) (b l t p : ℕ) (held : ℕ → s.W) (k : Tally s.C s.N) (x : s.X) (h : List (Entry s.V)) → Running s first b held k x h → b ≤ l → Running s first (l + 1) held (said l (Commit t p) k) x h
commits s first b l t p held k x h i le =
    let j = running_later s first b (l + 1) held k x h (omega arith) i in
    record {
      reading = i.reading;
      reads = i.reads;
      pages = le_trans (wanted_less s (λ n. not (n.transaction == t)) k.notes) i.pages;
      placed = others s t i.placed;
      are = sym (filter_mapped (bare s) (λ n. not (n.transaction == t)) i.placed) ∙ ap (filter (λ n. not (n.transaction == t))) i.are;
      shows = commit_shows s first k.live i.placed h i.reading t i.shows;
      lives = each_filter (λ u. u < l + 1) (λ u. not (u == t)) k.live j.lives;
      notes = each_kept (λ n. IsNote k.live (l + 1) n.transaction n.lsn n.undo_next) (λ n. IsNote (without t k.live) (l + 1) n.transaction n.lsn n.undo_next) (λ n. not (n.transaction == t)) i.placed
          (λ n z is. note_without k.live (l + 1) n.transaction n.lsn n.undo_next t (λ e. other n.transaction is e) z) j.notes;
      locked = each_filter (λ n. s.Within n.place (held n.transaction)) (λ n. not (n.transaction == t)) i.placed i.locked;
      ranks = pairs_filter (Ranks s) (λ n. not (n.transaction == t)) i.placed i.ranks;
      entries = j.entries;
    }
  where
    same_not : (c : Bool) → c ≡ true → not c ≡ true → ⊥
    same_not true a z = absurd (cc)
    same_not false a z = absurd (cc)

    other : (u : ℕ) → not (u == t) ≡ true → u ≡ t → ⊥
    other u is e = same_not (u == t) (subst (λ z. (u == z) ≡ true) e (same_number u)) is

-- a verb that leaves no note
pub looks : (s : Setting) → Laws s → (first : s.S) (b t : ℕ) (held : ℕ → s.W) (v : s.V) (k : Tally s.C s.N) (x : s.X) (h : List (Entry s.V)) → (i : Running s first b held k x h) → is_in t k.live ≡ true
    → s.After v i.reading i.reading → IsGranted s held k.live t v → Running s first b held k x (record { transaction = t; at = b; verb = v } ∷ h)
looks s w first b t held v k x h i live after granted = record {
  reading = i.reading;
  reads = i.reads;
  pages = i.pages;
  placed = i.placed;
  are = i.are;
  shows = looked_shows s w first k.live i.placed h i.reading t b v i.shows after
      (each_more (λ m. IsNote k.live b m.transaction m.lsn m.undo_next × s.Within m.place (held m.transaction)) (λ m. (m.lsn ≤ b) × ((m.transaction ≡ t → ⊥) → Passes s v m)) i.placed
      (λ m z. (low m.transaction m.lsn m.undo_next z.0, λ ne. w.clear_passes v (held m.transaction) m (granted m.transaction z.0.is_live ne) z.1)) (each_both (λ m. IsNote k.live b m.transaction m.lsn m.undo_next) (λ m. s.Within m.place (held m.transaction)) i.placed i.notes i.locked));
  lives = i.lives;
  notes = i.notes;
  locked = i.locked;
  ranks = i.ranks;
  entries = (live_low b t k.live i.lives live, i.entries);
}
  where
    low : (mt ml mu : ℕ) → IsNote k.live b mt ml mu → ml ≤ b
    low mt ml mu z = omega (arith, z.low)

-- a transaction gets more locks
pub locks : (s : Setting) (first : s.S) (b t : ℕ) (held new : ℕ → s.W) (k : Tally s.C s.N) (x : s.X) (h : List (Entry s.V)) → Running s first b held k x h → Locks s t held new → Running s first b new k x h
locks s first b t held new k x h i more = record {
  reading = i.reading;
  reads = i.reads;
  pages = i.pages;
  placed = i.placed;
  are = i.are;
  shows = i.shows;
  lives = i.lives;
  notes = i.notes;
  locked = each_more (λ n. s.Within n.place (held n.transaction)) (λ n. s.Within n.place (new n.transaction)) i.placed (λ n z. by_test n.transaction n.place (n.transaction == t) refl z) i.locked;
  ranks = i.ranks;
  entries = i.entries;
}
  where
    by_test : (u : ℕ) (p : s.W) (c : Bool) → (u == t) ≡ c → s.Within p (held u) → s.Within p (new u)
    by_test u p true e z = subst (λ a. s.Within p (new a)) (sym (number_is u t e)) (more.more p (subst (λ a. s.Within p (held a)) (number_is u t e) z))
    by_test u p false e z = subst (s.Within p) (sym (more.others u (λ is. differ u e is))) z
      where
        differ : (u : ℕ) → (u == t) ≡ false → u ≡ t → ⊥
        differ u e is = clash (u == t) e (subst (λ a. (u == a) ≡ true) is (same_number u))
          where
            clash : (c : Bool) → c ≡ false → c ≡ true → ⊥
            clash c a z = absurd (cc)

bare_each : (s : Setting) (P : ℕ → Type 0) (ns : List (Note s)) (ts : List (Top s.C s.N)) → map (bare s) ns ≡ ts → Each (λ n. P n.transaction) ts → Each (λ n. P n.transaction) ns
bare_each s P [] ts e h = tt
bare_each s P (n ∷ ns) [] e h = absurd (cc)
bare_each s P (n ∷ ns) (u ∷ us) e h =
    let same : bare s n ≡ u = cc in
    let rest : map (bare s) ns ≡ us = cc in
    (subst P (ap (λ (x : Top s.C s.N). x.transaction) (sym same)) h.0, bare_each s P ns us rest h.1)

with_held : (s : Setting) (held new : ℕ → s.W) (t : ℕ) (ns : List (Note s)) → ((u : ℕ) → (u ≡ t → ⊥) → new u ≡ held u) → Each (λ n. n.transaction ≡ t → ⊥) ns → Each (λ n. s.Within n.place (held n.transaction)) ns
    → Each (λ n. s.Within n.place (new n.transaction)) ns
with_held s held new t [] same none h = tt
with_held s held new t (n ∷ ns) same none h = (subst (λ w. s.Within n.place w) (sym (same n.transaction none.0)) h.0, with_held s held new t ns same none.1 h.1)

-- or gives them back, once no note of its stands
pub releases : (s : Setting) (first : s.S) (b t : ℕ) (held new : ℕ → s.W) (k : Tally s.C s.N) (x : s.X) (h : List (Entry s.V)) → Running s first b held k x h → Releases s k.notes t held new → Running s first b new k x h
releases s first b t held new k x h i less = record {
  reading = i.reading;
  reads = i.reads;
  pages = i.pages;
  placed = i.placed;
  are = i.are;
  shows = i.shows;
  lives = i.lives;
  notes = i.notes;
  locked = with_held s held new t i.placed less.others (bare_each s (λ u. u ≡ t → ⊥) i.placed k.notes i.are less.none) i.locked;
  ranks = i.ranks;
  entries = i.entries;
}

-- the entries from an LSN on are forgotten, once no note of theirs stands
pub forgets : (s : Setting) (first : s.S) (b t from : ℕ) (held : ℕ → s.W) (k : Tally s.C s.N) (x : s.X) (h : List (Entry s.V)) → Running s first b held k x h → is_in t k.live ≡ true → Each (λ n. n.transaction ≡ t → n.lsn < from) k.notes
    → Running s first b held k x (left (from_on t from) h)
forgets s first b t from held k x h i live low = record {
  reading = i.reading;
  reads = i.reads;
  pages = i.pages;
  placed = i.placed;
  are = i.are;
  shows = forget_shows s first k.live i.placed h i.reading t from live (each_mapped (bare s) (λ n. n.transaction ≡ t → n.lsn < from) i.placed (subst (Each (λ n. n.transaction ≡ t → n.lsn < from)) (sym i.are) low)) i.shows;
  lives = i.lives;
  notes = i.notes;
  locked = i.locked;
  ranks = i.ranks;
  entries = each_filter (λ e. e.transaction < b) (λ e. not (from_on t from e.transaction e.at)) h i.entries;
}

-- what a crash leaves stands for
pub running_stands : (s : Setting) (first : s.S) (b : ℕ) (held : ℕ → s.W) (k : Tally s.C s.N) (x : s.X) (h : List (Entry s.V)) → Running s first b held k x h
    → (o : s.O) × (stands_at s k x ≡ Some o) × (s.objects o ≡ kept s first k.live h) × HasPages s k x
running_stands s first b held k x h i =
    let c = crash_shows s first k.live i.placed h i.reading i.shows (each_more (λ n. IsNote k.live b n.transaction n.lsn n.undo_next) (λ n. is_in n.transaction k.live ≡ true) i.placed (λ n z. z.is_live) i.notes) in
    (c.0, then_of (settled s k.opened x) (all_undone s k.notes) i.reading i.reads ∙ (ap (λ (l : List (Top s.C s.N)). all_undone s l i.reading) (sym i.are) ∙ all_back_undoes s i.placed i.reading c.0 c.1), c.2, λ o is. subst (λ a. wanted s k.notes ≤ s.free a) (some_one i.reading o (sym i.reads ∙ is)) i.pages)

-- and each step but a commit leaves that
pub goes_same : (s : Setting) (first : s.S) (b l : ℕ) (held : ℕ → s.W) (k : Tally s.C s.N) (x : s.X) (h g : List (Entry s.V)) (r : Record s.C s.N) → Running s first b held k x h → b ≤ l → Goes s k x h held l r g
    → kept s first (said l r k).live g ≡ kept s first k.live h
goes_same s first b l held k x h g r i le (begins p) = kept_begun s first k.live l h (each_more (λ e. e.transaction < b) (λ e. e.transaction ≡ l → ⊥) h (λ e z is. absurd (omega arith)) i.entries)
goes_same s first b l held k x h g r i le (saves t p m) = refl
goes_same s first b l held k x h g r i le (changes t p c reverts) = refl
goes_same s first b l held k x h g r i le (does t p u n v place live alone before chained granted within verb enough) = kept_entry s first k.live (record { transaction = t; at = l; verb = v }) h live
goes_same s first b l held k x h g r i le (undoes_last p later n rest notes aside alone undone takes) =
    let all : Each (λ m. is_in m.transaction k.live ≡ true) (later ++ n ∷ rest) = subst (Each (λ m. is_in m.transaction k.live ≡ true)) (i.are ∙ notes)
    (each_onto (bare s) (λ m. is_in m.transaction k.live ≡ true) i.placed (each_more (λ m. IsNote k.live b m.transaction m.lsn m.undo_next) (λ m. is_in m.transaction k.live ≡ true) i.placed (λ m z. z.is_live) i.notes)) in
    kept_undone s first k.live n.transaction n.lsn h (each_back (λ m. is_in m.transaction k.live ≡ true) later (n ∷ rest) all).0
  where
    each_onto : {A B : Type 0} (f : A → B) (P : B → Type 0) (xs : List A) → Each (λ x. P (f x)) xs → Each P (map f xs)
    each_onto f P [] h = tt
    each_onto f P (x ∷ xs) h = (h.0, each_onto f P xs h.1)
goes_same s first b l held k x h g r i le (ends t p none nobody) = kept_ended s first k.live t h nobody
goes_same s first b l held k x h g r i le (ends_over t p over) = kept_over s first k.live t h over
goes_same s first b l held k x h g r i le (frees t p u n tombs live alone freed takes apart) = refl
