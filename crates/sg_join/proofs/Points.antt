-- Each line leaves the marks of the live transactions points of the log's history and of the run's.
use Rattle.std.proofs.Common.{◌≡◌, ℕ, zero, suc, ◌+◌, ◌-◌, ◌<◌, ◌≤◌, Bool, true, false, cond, not, List, [], ◌∷◌, ◌++◌, map, Option, Some, None, refl, sym, ap, ◌∙◌, subst, arith}
use Rattle.std.specs.Prelude.{◌==◌, nat_le, ◌&&◌, slice_get, take}
use Rattle.std.specs.List.{filter, find}
use Rattle.std.proofs.lemmas.List.{map-append}
use Rattle.std.proofs.lemmas.Bool.{eqb-true, le-leb, lt-leb}
use Rattle.sg_serial.specs.Machine.{Entry}
use Rattle.sg_serial.specs.Runs.{Live, Mark, is_own, without, remarking, marks_in, marks_of, nth_mark, AreBelow}
use Rattle.sg_serial.proofs.Lists.{filter_append}
use Rattle.sg_recovery.specs.Laws.{Each}
use Rattle.sg_recovery.specs.Shows.{Entry as LogEntry, left, from_on}
use Rattle.sg_recovery.proofs.Basic.{each_more, each_append, each_filter}
use Rattle.sg_join.specs.Join.{told, said}
use Rattle.sg_join.specs.Points.{told_from, said_from, IsPoint, ArePoints}

-- what is made of the entries of a log's history, the oldest first
abbrev oldest : {V A : Type 0} → (LogEntry V → A) → List (LogEntry V) → List A
oldest f [] = []
oldest f (e ∷ es) = oldest f es ++ f e ∷ []

abbrev in_turn : {V : Type 0} → List (LogEntry V) → List (LogEntry V)
in_turn h = oldest (λ e. e) h

oldest_map : {V A : Type 0} (f : LogEntry V → A) (h : List (LogEntry V)) → oldest f h ≡ map f (in_turn h)
oldest_map f [] = refl
oldest_map f (e ∷ es) = ap (λ l. l ++ f e ∷ []) (oldest_map f es) ∙ sym (map-append f (in_turn es) (e ∷ []))

told_is : {V Op : Type 0} (op : V → Op) (h : List (LogEntry V)) → told op h ≡ oldest (λ e. (e.transaction, op e.verb)) h
told_is op [] = refl
told_is op (e ∷ es) = ap (λ l. l ++ (e.transaction, op e.verb) ∷ []) (told_is op es)

from_is : {V : Type 0} (t n : ℕ) (h : List (LogEntry V)) → told_from t n h ≡ oldest (λ e. from_on t n e.transaction e.at) h
from_is t n [] = refl
from_is t n (e ∷ es) = ap (λ l. l ++ from_on t n e.transaction e.at ∷ []) (from_is t n es)

turn_filter : {V : Type 0} (p : LogEntry V → Bool) (h : List (LogEntry V)) → in_turn (filter p h) ≡ filter p (in_turn h)
turn_filter p [] = refl
turn_filter {V} p (e ∷ es) = go (p e) refl (turn_filter p es) ∙ sym (filter_append p (in_turn es) (e ∷ []))
  where
    none : (l : List (LogEntry V)) → l ≡ l ++ []
    none [] = refl
    none (x ∷ l) = ap (λ k. x ∷ k) (none l)

    go : (b : Bool) → p e ≡ b → in_turn (filter p es) ≡ filter p (in_turn es) → in_turn (cond b (e ∷ filter p es) (filter p es)) ≡ filter p (in_turn es) ++ filter p (e ∷ [])
    go true t h = ap (λ l. l ++ e ∷ []) h ∙ ap (λ l. filter p (in_turn es) ++ l) (sym (ap (λ b. cond b (e ∷ []) []) t))
    go false t h = h ∙ (none (filter p (in_turn es)) ∙ ap (λ l. filter p (in_turn es) ++ l) (sym (ap (λ b. cond b (e ∷ []) []) t)))

map_map : {A B C : Type 0} (g : B → C) (f : A → B) (xs : List A) → map g (map f xs) ≡ map (λ x. g (f x)) xs
map_map g f [] = refl
map_map g f (x ∷ xs) = ap (λ l. g (f x) ∷ l) (map_map g f xs)

map_same : {A B : Type 0} (f g : A → B) (xs : List A) → ((x : A) → f x ≡ g x) → map f xs ≡ map g xs
map_same f g [] h = refl
map_same f g (x ∷ xs) h = ap (λ y. y ∷ map f xs) (h x) ∙ ap (λ l. g x ∷ l) (map_same f g xs h)

-- two lists of which the same are chosen, and from which the same is made, are left with the same
together : {A B C : Type 0} (q : B → Bool) (q' : C → Bool) (f : B → A) (f' : C → A) (xs : List B) (ys : List C) → map q xs ≡ map q' ys → map f xs ≡ map f' ys
    → map f (filter (λ x. not (q x)) xs) ≡ map f' (filter (λ y. not (q' y)) ys)
together q q' f f' [] [] e g = refl
together q q' f f' [] (y ∷ ys) e g = absurd (cc)
together q q' f f' (x ∷ xs) [] e g = absurd (cc)
together {A} q q' f f' (x ∷ xs) (y ∷ ys) e g =
    let chosen : q x ≡ q' y = cc in
    let others : map q xs ≡ map q' ys = cc in
    let made : f x ≡ f' y = cc in
    let rest : map f xs ≡ map f' ys = cc in
    go (q x) (q' y) chosen made (together q q' f f' xs ys others rest)
  where
    go : (b c : Bool) → b ≡ c → f x ≡ f' y → map f (filter (λ z. not (q z)) xs) ≡ map f' (filter (λ z. not (q' z)) ys)
        → map f (cond (not b) (x ∷ filter (λ z. not (q z)) xs) (filter (λ z. not (q z)) xs)) ≡ map f' (cond (not c) (y ∷ filter (λ z. not (q' z)) ys) (filter (λ z. not (q' z)) ys))
    go true true e made h = h
    go true false e made h = absurd (cc)
    go false true e made h = absurd (cc)
    go false false e made h = ap (λ a. a ∷ map f (filter (λ z. not (q z)) xs)) made ∙ ap (λ l. f' y ∷ l) h

-- of entries with smaller numbers, and of earlier times, none are
none_told : {V : Type 0} (t n : ℕ) (h : List (LogEntry V)) → Each (λ e. e.at < n) h → told_from t n h ≡ map (λ (i : ℕ). false) (oldest (λ e. e.transaction) h)
none_told t n [] k = refl
none_told t n (e ∷ es) k =
    ap (λ l. l ++ from_on t n e.transaction e.at ∷ []) (none_told t n es k.1)
    ∙ (ap (λ b. map (λ (i : ℕ). false) (oldest (λ x. x.transaction) es) ++ b ∷ []) (early (e.transaction == t) (nat_le n e.at) (lt-leb n e.at k.0))
    ∙ sym (map-append (λ (i : ℕ). false) (oldest (λ x. x.transaction) es) (e.transaction ∷ [])))
  where
    early : (a b : Bool) → b ≡ false → (a && b) ≡ false
    early true b h = h
    early false b h = refl

none_said : {Op Out : Type 0} (t next clock : ℕ) (es : List (Entry Op Out)) → AreBelow next clock es → said_from t clock es ≡ map (λ (i : ℕ). false) (map (λ e. e.transaction) es)
none_said t next clock [] k = refl
none_said t next clock (e ∷ es) k =
    ap (λ b. b ∷ said_from t clock es) (early (e.transaction == t) (nat_le clock e.time) (lt-leb clock e.time k.0.1))
    ∙ ap (λ l. false ∷ l) (none_said t next clock es k.1)
  where
    early : (a b : Bool) → b ≡ false → (a && b) ≡ false
    early true b h = h
    early false b h = refl

-- other marks of one transaction
remarked : (t : ℕ) (f : List Mark → List Mark) (P : ℕ → Mark → Type 0) (ls : List Live) → ((l : Live) → l.transaction ≡ t → Each (P l.transaction) l.marks → Each (P l.transaction) (f l.marks))
    → Each (λ l. Each (P l.transaction) l.marks) ls → Each (λ l. Each (P l.transaction) l.marks) (remarking t f ls)
remarked t f P [] g h = tt
remarked t f P (l ∷ ls) g h = (one (l.transaction == t) refl, remarked t f P ls g h.1)
  where
    one : (b : Bool) → (l.transaction == t) ≡ b → Each (P (cond b (record l { marks = f l.marks }) l).transaction) (cond b (record l { marks = f l.marks }) l).marks
    one true e = g l (eqb-true l.transaction t e) h.0
    one false e = h.0

first_marks : (P : Mark → Type 0) (n : ℕ) (ms : List Mark) → Each P ms → Each P (take n ms)
first_marks P zero ms h = tt
first_marks P (suc n) [] h = tt
first_marks P (suc n) (m ∷ ms) h = (h.0, first_marks P n ms h.1)

each_nth : (P : Mark → Type 0) (ms : List Mark) (k : ℕ) (m : Mark) → slice_get ms k ≡ Some m → Each P ms → P m
each_nth P [] k m e h = absurd (cc)
each_nth P (x ∷ ms) zero m e h = let q : x ≡ m = cc in subst P q h.0
each_nth P (x ∷ ms) (suc k) m e h = each_nth P ms k m e h.1

each_marked : (P : ℕ → Mark → Type 0) (ls : List Live) (t : ℕ) → Each (λ l. Each (P l.transaction) l.marks) ls → Each (P t) (marks_of ls t)
each_marked P [] t h = tt
each_marked P (l ∷ ls) t h = one (l.transaction == t) refl (each_marked P ls t h.1)
  where
    one : (b : Bool) → (l.transaction == t) ≡ b → Each (P t) (marks_of ls t) → Each (P t) (marks_in (cond b (Some l) (find (λ x. x.transaction == t) ls)))
    one true e rest = subst (λ i. Each (P i) l.marks) (eqb-true l.transaction t e) h.0
    one false e rest = rest

module _ {V Op Out : Type 0} where
  -- where a transaction's entries from a point on are left out on both sides, what was made of both is made of what is left
  left_both : {A : Type 0} (t n : ℕ) (q : Entry Op Out → Bool) (f : LogEntry V → A) (f' : Entry Op Out → A) (h : List (LogEntry V)) (es : List (Entry Op Out))
      → oldest (λ e. from_on t n e.transaction e.at) h ≡ map q es → oldest f h ≡ map f' es → oldest f (left (from_on t n) h) ≡ map f' (filter (λ e. not (q e)) es)
  left_both t n q f f' h es e g =
      oldest_map f (left (from_on t n) h)
      ∙ (ap (λ l. map f l) (turn_filter (λ x. not (from_on t n x.transaction x.at)) h)
      ∙ together (λ x. from_on t n x.transaction x.at) q f f' (in_turn h) es (sym (oldest_map (λ x. from_on t n x.transaction x.at) h) ∙ e) (sym (oldest_map f h) ∙ g))

  -- the transactions of both are the same
  owners : (op : V → Op) (h : List (LogEntry V)) (es : List (Entry Op Out)) → told op h ≡ said es → oldest (λ e. e.transaction) h ≡ map (λ e. e.transaction) es
  owners op h es e =
      oldest_map (λ x. x.transaction) h
      ∙ (sym (map_map (λ (p : ℕ × Op). p.0) (λ (x : LogEntry V). (x.transaction, op x.verb)) (in_turn h))
      ∙ (ap (λ (ps : List (ℕ × Op)). map (λ p. p.0) ps) (sym (oldest_map (λ x. (x.transaction, op x.verb)) h) ∙ (sym (told_is op h) ∙ e))
      ∙ map_map (λ (p : ℕ × Op). p.0) (λ (x : Entry Op Out). (x.transaction, x.op)) es))

  -- from its begin on all entries of a transaction are
  all_own : (op : V → Op) (t : ℕ) (h : List (LogEntry V)) (es : List (Entry Op Out)) → told op h ≡ said es → oldest (λ e. from_on t 0 e.transaction e.at) h ≡ map (is_own t) es
  all_own op t h es e =
      oldest_map (λ x. from_on t 0 x.transaction x.at) h
      ∙ (map_same (λ (x : LogEntry V). from_on t 0 x.transaction x.at) (λ x. x.transaction == t) (in_turn h) (λ x. all (x.transaction == t) (nat_le 0 x.at) (le-leb 0 x.at (omega arith)))
      ∙ (sym (map_map (λ (i : ℕ). i == t) (λ (x : LogEntry V). x.transaction) (in_turn h))
      ∙ (ap (λ (is : List ℕ). map (λ i. i == t) is) (sym (oldest_map (λ x. x.transaction) h) ∙ owners op h es e)
      ∙ map_map (λ (i : ℕ). i == t) (λ (x : Entry Op Out). x.transaction) es)))
    where
      all : (a b : Bool) → b ≡ true → (a && b) ≡ a
      all true b h = h
      all false b h = refl

  -- of a later record and a later time all own ones are
  point_more : (t : ℕ) (m : Mark) (a b c : ℕ) (h : List (LogEntry V)) (es : List (Entry Op Out)) (e : LogEntry V) (e' : Entry Op Out) → e.transaction ≡ e'.transaction → a ≤ e.at → a ≤ b → e'.time ≡ c → IsPoint a c h es t m → IsPoint b (c + 1) (e ∷ h) (es ++ e' ∷ []) t m
  point_more t m a b c h es e e' own low up time k = record {
    begun = k.begun;
    below = (let x : m.number < a = k.below in omega (arith, x, up));
    early = (let x : m.time ≤ c = k.early in omega (arith, x));
    same =
        ap (λ l. l ++ from_on t (m.number + 1) e.transaction e.at ∷ []) k.same
        ∙ (ap (λ b. said_from t m.time es ++ b ∷ []) both
        ∙ sym (map-append (λ (x : Entry Op Out). is_own t x && nat_le m.time x.time) es (e' ∷ [])));
  }
    where
      behind : nat_le (m.number + 1) e.at ≡ true
      behind = le-leb (m.number + 1) e.at (let x : m.number < a = k.below in omega (arith, x, low))

      later : nat_le m.time e'.time ≡ true
      later = le-leb m.time e'.time (let x : m.time ≤ c = k.early in omega (arith, x, time))

      both : from_on t (m.number + 1) e.transaction e.at ≡ (is_own t e' && nat_le m.time e'.time)
      both = ap (λ i. (i == t) && nat_le (m.number + 1) e.at) own ∙ (ap (λ b. (e'.transaction == t) && b) behind ∙ sym (ap (λ b. (e'.transaction == t) && b) later))

  -- MORE RECORDS that change no history
  pub wider : (a b c : ℕ) (h : List (LogEntry V)) (es : List (Entry Op Out)) (ls : List Live) → a ≤ b → ArePoints a c h es ls → ArePoints b c h es ls
  wider a b c h es ls up k = record {
    entries = each_more (λ e. e.at ≤ a) (λ e. e.at ≤ b) h (λ e low. omega (arith, low, up)) k.entries;
    marks = each_more (λ l. Each (IsPoint a c h es l.transaction) l.marks) (λ l. Each (IsPoint b c h es l.transaction) l.marks) ls
        (λ l x. each_more (IsPoint a c h es l.transaction) (IsPoint b c h es l.transaction) l.marks (λ m y. record { begun = y.begun; below = (let z : m.number < a = y.below in omega (arith, z, up)); early = y.early; same = y.same }) x) k.marks;
  }

  -- a transaction begins
  pub begun_points : (b c : ℕ) (h : List (LogEntry V)) (es : List (Entry Op Out)) (ls : List Live) (name : List ℕ) (t : ℕ) → ArePoints b c h es ls → ArePoints b c h es (ls ++ (record { name = name; transaction = t; marks = [] }) ∷ [])
  begun_points b c h es ls name t k = record { entries = k.entries; marks = each_append (λ l. Each (IsPoint b c h es l.transaction) l.marks) ls ((record { name = name; transaction = t; marks = [] }) ∷ []) k.marks (tt, tt) }

  -- or is no more
  pub ended_points : (b c : ℕ) (h : List (LogEntry V)) (es : List (Entry Op Out)) (ls : List Live) (t : ℕ) → ArePoints b c h es ls → ArePoints b c h es (without t ls)
  ended_points b c h es ls t k = record { entries = k.entries; marks = each_filter (λ l. Each (IsPoint b c h es l.transaction) l.marks) (λ l. not (l.transaction == t)) ls k.marks }

  -- an entry more
  pub did_points : (a b c : ℕ) (h : List (LogEntry V)) (es : List (Entry Op Out)) (ls : List Live) (e : LogEntry V) (e' : Entry Op Out) → e.transaction ≡ e'.transaction → a ≤ e.at → e.at ≤ b → e'.time ≡ c → ArePoints a c h es ls → ArePoints b (c + 1) (e ∷ h) (es ++ e' ∷ []) ls
  did_points a b c h es ls e e' own low high time k = record {
    entries = (high, each_more (λ x. x.at ≤ a) (λ x. x.at ≤ b) h (λ x y. omega (arith, y, low, high)) k.entries);
    marks = each_more (λ l. Each (IsPoint a c h es l.transaction) l.marks) (λ l. Each (IsPoint b (c + 1) (e ∷ h) (es ++ e' ∷ []) l.transaction) l.marks) ls
        (λ l x. each_more (IsPoint a c h es l.transaction) (IsPoint b (c + 1) (e ∷ h) (es ++ e' ∷ []) l.transaction) l.marks (λ m y. point_more l.transaction m a b c h es e e' own low (omega (arith, low, high)) time y) x) k.marks;
  }

  -- A MARK IS SET at a record behind all others
  pub saved_points : (op : V → Op) (a b c next : ℕ) (h : List (LogEntry V)) (es : List (Entry Op Out)) (ls : List Live) (t number : ℕ) → told op h ≡ said es → AreBelow next c es → t ≤ number → a ≤ number → number < b
      → ArePoints a c h es ls → ArePoints b c h es (remarking t (λ ms. ms ++ (record { number = number; time = c }) ∷ []) ls)
  saved_points op a b c next h es ls t number told_said early begun low high k =
      let w = wider a b c h es ls (omega (arith, low, high)) k in
      record {
        entries = w.entries;
        marks = remarked t (λ ms. ms ++ (record { number = number; time = c }) ∷ []) (IsPoint b c h es) ls
            (λ l own x. each_append (IsPoint b c h es l.transaction) l.marks ((record { number = number; time = c }) ∷ []) x (subst (λ i. IsPoint b c h es i (record { number = number; time = c })) (sym own) point, tt)) w.marks;
      }
    where
      behind : Each (λ (e : LogEntry V). e.at < number + 1) h
      behind = each_more (λ e. e.at ≤ a) (λ e. e.at < number + 1) h (λ e x. omega (arith, x, low)) k.entries

      point : IsPoint b c h es t (record { number = number; time = c })
      point = record {
        begun = begun;
        below = high;
        early = omega arith;
        same = none_told t (number + 1) h behind ∙ (ap (λ (is : List ℕ). map (λ i. false) is) (owners op h es told_said) ∙ sym (none_said t next c es early));
      }

  left_points : (t n : ℕ) (q : Entry Op Out → Bool) (b c : ℕ) (h : List (LogEntry V)) (es : List (Entry Op Out)) (ls : List Live) → oldest (λ e. from_on t n e.transaction e.at) h ≡ map q es → ArePoints b c h es ls
      → ArePoints b c (left (from_on t n) h) (filter (λ e. not (q e)) es) ls
  left_points t n q b c h es ls e k = record {
    entries = each_filter (λ x. x.at ≤ b) (λ x. not (from_on t n x.transaction x.at)) h k.entries;
    marks = each_more (λ l. Each (IsPoint b c h es l.transaction) l.marks) (λ l. Each (IsPoint b c (left (from_on t n) h) (filter (λ x. not (q x)) es) l.transaction) l.marks) ls
        (λ l x. each_more (IsPoint b c h es l.transaction) (IsPoint b c (left (from_on t n) h) (filter (λ x. not (q x)) es) l.transaction) l.marks (λ m y. record {
          begun = y.begun;
          below = y.below;
          early = y.early;
          same = from_is l.transaction (m.number + 1) (left (from_on t n) h)
              ∙ left_both t n q (λ z. from_on l.transaction (m.number + 1) z.transaction z.at) (λ z. is_own l.transaction z && nat_le m.time z.time) h es e (sym (from_is l.transaction (m.number + 1) h) ∙ y.same);
        }) x) k.marks;
  }

  -- A TRANSACTION GOES BACK to a mark: on both sides the same entries are left out, and it has its first marks
  pub rolled_points : (b c : ℕ) (h : List (LogEntry V)) (es : List (Entry Op Out)) (ls : List Live) (t n : ℕ) (m : Mark) → IsPoint b c h es t m → ArePoints b c h es ls
      → ArePoints b c (left (from_on t (m.number + 1)) h) (filter (λ e. not (is_own t e && nat_le m.time e.time)) es) (remarking t (λ ms. take n ms) ls)
  rolled_points b c h es ls t n m point k =
      let r = left_points t (m.number + 1) (λ e. is_own t e && nat_le m.time e.time) b c h es ls (sym (from_is t (m.number + 1) h) ∙ point.same) k in
      record {
        entries = r.entries;
        marks = remarked t (λ ms. take n ms) (IsPoint b c (left (from_on t (m.number + 1)) h) (filter (λ e. not (is_own t e && nat_le m.time e.time)) es)) ls
            (λ l own x. first_marks (IsPoint b c (left (from_on t (m.number + 1)) h) (filter (λ e. not (is_own t e && nat_le m.time e.time)) es) l.transaction) n l.marks x) r.marks;
      }

  pub rolled_told : (op : V → Op) (b c : ℕ) (h : List (LogEntry V)) (es : List (Entry Op Out)) (t : ℕ) (m : Mark) → told op h ≡ said es → IsPoint b c h es t m
      → told op (left (from_on t (m.number + 1)) h) ≡ said (filter (λ e. not (is_own t e && nat_le m.time e.time)) es)
  rolled_told op b c h es t m e point =
      told_is op (left (from_on t (m.number + 1)) h)
      ∙ left_both t (m.number + 1) (λ x. is_own t x && nat_le m.time x.time) (λ x. (x.transaction, op x.verb)) (λ x. (x.transaction, x.op)) h es (sym (from_is t (m.number + 1) h) ∙ point.same) (sym (told_is op h) ∙ e)

  -- it is taken back as a whole
  pub aborted_points : (op : V → Op) (b c : ℕ) (h : List (LogEntry V)) (es : List (Entry Op Out)) (ls : List Live) (t : ℕ) → told op h ≡ said es → ArePoints b c h es ls
      → ArePoints b c (left (from_on t 0) h) (filter (λ e. not (is_own t e)) es) (without t ls)
  aborted_points op b c h es ls t e k =
      ended_points b c (left (from_on t 0) h) (filter (λ x. not (is_own t x)) es) ls t (left_points t 0 (is_own t) b c h es ls (all_own op t h es e) k)

  -- each mark that a transaction has is a point
  pub point_of : (b c : ℕ) (h : List (LogEntry V)) (es : List (Entry Op Out)) (ls : List Live) (t n : ℕ) (m : Mark) → ArePoints b c h es ls → nth_mark n (marks_of ls t) ≡ Some m → IsPoint b c h es t m
  point_of b c h es ls t n m k e = by (n == 0) e
    where
      by : (z : Bool) → cond {A = Option Mark} z None (slice_get (marks_of ls t) (n - 1)) ≡ Some m → IsPoint b c h es t m
      by true f = absurd (cc)
      by false f = each_nth (IsPoint b c h es t) (marks_of ls t) (n - 1) m f (each_marked (IsPoint b c h es) ls t k.marks)
