-- Where the records stand that a log holds.
use Rattle.std.proofs.Common.{add-zero, map, ◌≡◌, ◌⊎◌, inl, inr, ⊎_elim, ℕ, ◌+◌, ◌-◌, ◌<◌, ◌≤◌, List, [], ◌∷◌, ◌++◌, length, Option, Some, refl, sym, ◌∙◌, ap, subst, arith, length-append, append_assoc}
use Rattle.std.proofs.lemmas.List.{map-append}
use Rattle.sg_disk.specs.Disk.{Bytes, State, View, window}
use Rattle.sg_record.specs.Records.{Record, spelled}
use Rattle.sg_log.specs.Texts.{spelled_all, AreRecords}
use Rattle.sg_record.specs.Ranges.{IsRecord}
use Rattle.sg_log.proofs.Texts.{spelled-long}
use Rattle.sg_log.specs.Formed.{IsFormed}
use Rattle.sg_log.specs.Frames.{Numbered, numbered_from, numbered_in, text_of, Frames, gate_after}
use Rattle.sg_log.specs.Held.{Tail, Holds, tail_of}
use Rattle.sg_log.specs.declared.place.Place.{Place}
use Rattle.sg_log.specs.Places.{Placed, places_from, places_in, HoldsAt, first_of, StandsAt, IsDurable, IsWaiting, IsThere, IsSizeBehind, StandBehind}
use Rattle.sg_log.proofs.Formed.{formed_body}
use Rattle.sg_log.proofs.Holding.{text-length, tail_at_gate, tail_behind, tail_empty, forced_all}
use Rattle.sg_log.proofs.Steps.{gate_later}
use Rattle.sg_log.proofs.Windows.{window_front, window_back}

pub spelled_all-append : (rs ss : List Record) → spelled_all (rs ++ ss) ≡ spelled_all rs ++ spelled_all ss
spelled_all-append [] ss = refl
spelled_all-append (r ∷ rs) ss = ap (λ (xs : List ℕ). spelled r ++ xs) (spelled_all-append rs ss) ∙ sym (append_assoc (spelled r) (spelled_all rs) (spelled_all ss))

pub AreRecords-at : (before : List Record) (r : Record) (after : List Record) → AreRecords (before ++ r ∷ after) → IsRecord r
AreRecords-at [] r after h = h.0
AreRecords-at (s ∷ before) r after h = AreRecords-at before r after h.1

-- the frames behind others
pub Frames-behind : (f : Bytes) (at : ℕ) (before after : List (List Record)) → Frames f at (before ++ after) → Frames f (gate_after at before) after
Frames-behind f at [] after h = h
Frames-behind f at (rs ∷ before) after h = Frames-behind f (at + 1 + length (text_of (spelled_all rs))) before after h.3

pub gate_behind : (at : ℕ) (before after : List (List Record)) → gate_after at (before ++ after) ≡ gate_after (gate_after at before) after
gate_behind at [] after = refl
gate_behind at (rs ∷ before) after = gate_behind (at + 1 + length (text_of (spelled_all rs))) before after

-- an entry of one list or of another behind it
pub record IsInFirst {X : Type 0} (xs ys front : List X) (x : X) (rest : List X) : Type 0 where
  pub more : List X
  pub split : xs ≡ front ++ x ∷ more
  pub are : rest ≡ more ++ ys

pub record IsInSecond {X : Type 0} (xs ys front : List X) (x : X) (rest : List X) : Type 0 where
  pub left : List X
  pub split : ys ≡ left ++ x ∷ rest

tail_is : {X : Type 0} (x y : X) (xs ys : List X) → x ∷ xs ≡ y ∷ ys → xs ≡ ys
tail_is x y xs ys e = cc

head_is : {X : Type 0} (x y : X) (xs ys : List X) → x ∷ xs ≡ y ∷ ys → x ≡ y
head_is x y xs ys e = cc

pub in_either : {X : Type 0} (xs ys front : List X) (x : X) (rest : List X) → xs ++ ys ≡ front ++ x ∷ rest → IsInFirst xs ys front x rest ⊎ IsInSecond xs ys front x rest
in_either [] ys front x rest e = inr (record { left = front; split = e })
in_either {X = X} (y ∷ xs) ys [] x rest e = let P : X → List X → List X = λ z zs. z ∷ zs in inl (record { more = xs; split = ap (λ (z : X). P z xs) (head_is y x (xs ++ ys) rest e); are = sym (tail_is y x (xs ++ ys) rest e) })
in_either {X = X} (y ∷ xs) ys (z ∷ front) x rest e =
    let P : X → List X → List X = λ z zs. z ∷ zs in
    ⊎_elim
    (λ a. inl (record { more = a.more; split = ap (λ (w : X). P w xs) (head_is y z (xs ++ ys) (front ++ x ∷ rest) e) ∙ ap (P z) a.split; are = a.are }))
    (λ b. inr (record { left = b.left; split = b.split }))
    (in_either xs ys front x rest (tail_is y z (xs ++ ys) (front ++ x ∷ rest) e))

-- a record's place in its frame
pub record IsInFrame (base end at : ℕ) (rs : List Record) (p : Placed) (rest : List Placed) : Type 0 where
  pub before : List Record
  pub after : List Record
  pub split : rs ≡ before ++ p.1 ∷ after
  pub lsn : p.0.lsn ≡ base + (at + length (spelled_all before))
  pub frame_end : p.0.frame_end ≡ base + end
  pub are : rest ≡ places_from base end (at + length (spelled_all before) + length (spelled p.1)) after

pub in_frame : (base end at : ℕ) (rs : List Record) (front : List Placed) (p : Placed) (rest : List Placed) → places_from base end at rs ≡ front ++ p ∷ rest → IsInFrame base end at rs p rest
in_frame base end at [] [] p rest e = absurd (cc)
in_frame base end at [] (q ∷ front) p rest e = absurd (cc)
in_frame base end at (r ∷ rs) [] p rest e =
    let first = head_is (record { lsn = base + at; frame_end = base + end }, r) p (places_from base end (at + length (spelled r)) rs) rest e in
    let same : r ≡ p.1 = ap (λ (q : Placed). q.1) first in
    let zero_more : at + 0 + length (spelled p.1) ≡ at + length (spelled r) = omega (arith, ap (λ (x : Record). length (spelled x)) same) in
    record {
      before = [];
      after = rs;
      split = ap (λ (x : Record). x ∷ rs) same;
      lsn = ap (λ (q : Placed). q.0.lsn) (sym first) ∙ omega arith;
      frame_end = ap (λ (q : Placed). q.0.frame_end) (sym first);
      are = sym (tail_is (record { lsn = base + at; frame_end = base + end }, r) p (places_from base end (at + length (spelled r)) rs) rest e) ∙ ap (λ (k : ℕ). places_from base end k rs) (sym zero_more);
    }
in_frame base end at (r ∷ rs) (q ∷ front) p rest e =
    let h = in_frame base end (at + length (spelled r)) rs front p rest (tail_is (record { lsn = base + at; frame_end = base + end }, r) q (places_from base end (at + length (spelled r)) rs) (front ++ p ∷ rest) e) in
    let sum : at + length (spelled r) + length (spelled_all h.before) ≡ at + length (spelled r ++ spelled_all h.before) = omega (arith, length-append (spelled r) (spelled_all h.before)) in
    record {
      before = r ∷ h.before;
      after = h.after;
      split = ap (λ (xs : List Record). r ∷ xs) h.split;
      lsn = h.lsn ∙ ap (λ (k : ℕ). base + k) sum;
      frame_end = h.frame_end;
      are = h.are ∙ ap (λ (k : ℕ). places_from base end (k + length (spelled p.1)) h.after) sum;
    }

-- and in the frames
pub record IsInFrames (base at : ℕ) (frames : List (List Record)) (p : Placed) (rest : List Placed) : Type 0 where
  pub before : List (List Record)
  pub rs : List Record
  pub after : List (List Record)
  pub split : frames ≡ before ++ rs ∷ after
  pub more : List Placed
  pub frame : IsInFrame base (gate_after at before + 1 + length (text_of (spelled_all rs))) (gate_after at before + 5) rs p more
  pub are : rest ≡ more ++ places_in base (gate_after at before + 1 + length (text_of (spelled_all rs))) after

pub in_frames : (base at : ℕ) (frames : List (List Record)) (front : List Placed) (p : Placed) (rest : List Placed) → places_in base at frames ≡ front ++ p ∷ rest → IsInFrames base at frames p rest
in_frames base at [] [] p rest e = absurd (cc)
in_frames base at [] (q ∷ front) p rest e = absurd (cc)
in_frames base at (rs ∷ frames) front p rest e =
    let end = at + 1 + length (text_of (spelled_all rs)) in
    ⊎_elim
    (λ a. record { before = []; rs = rs; after = frames; split = refl; more = a.more; frame = in_frame base end (at + 5) rs front p a.more a.split; are = a.are })
    (λ b.
    let h = in_frames base end frames b.left p rest b.split in
    record { before = rs ∷ h.before; rs = h.rs; after = h.after; split = ap (λ (xs : List (List Record)). rs ∷ xs) h.split; more = h.more; frame = h.frame; are = h.are })
    (in_either (places_from base end (at + 5) rs) (places_in base end frames) front p rest e)

-- one of a list and a last one more
pub record IsNotLast {X : Type 0} (before : List X) (x : X) (after xs : List X) (y : X) : Type 0 where
  pub more : List X
  pub split : xs ≡ before ++ x ∷ more
  pub are : after ≡ more ++ y ∷ []

pub record IsTheLast {X : Type 0} (before : List X) (x : X) (after xs : List X) (y : X) : Type 0 where
  pub split : xs ≡ before
  pub same : y ≡ x
  pub none : after ≡ []

pub last_or_not : {X : Type 0} (xs : List X) (y : X) (before : List X) (x : X) (after : List X) → xs ++ y ∷ [] ≡ before ++ x ∷ after → IsNotLast before x after xs y ⊎ IsTheLast before x after xs y
last_or_not {X = X} [] y [] x after e = inr (record { split = refl; same = head_is y x [] after e; none = sym (tail_is y x [] after e) })
last_or_not {X = X} [] y (z ∷ []) x after e = absurd (let t = tail_is y z [] (x ∷ after) e in cc)
last_or_not {X = X} [] y (z ∷ w ∷ before) x after e = absurd (let t = tail_is y z [] (w ∷ before ++ x ∷ after) e in cc)
last_or_not {X = X} (v ∷ xs) y [] x after e = let P : X → List X → List X = λ z zs. z ∷ zs in inl (record { more = xs; split = ap (λ (z : X). P z xs) (head_is v x (xs ++ y ∷ []) after e); are = sym (tail_is v x (xs ++ y ∷ []) after e) })
last_or_not {X = X} (v ∷ xs) y (z ∷ before) x after e =
    let P : X → List X → List X = λ z zs. z ∷ zs in
    let first = head_is v z (xs ++ y ∷ []) (before ++ x ∷ after) e in
    ⊎_elim
    (λ a. inl (record { more = a.more; split = ap (λ (w : X). P w xs) first ∙ ap (P z) a.split; are = a.are }))
    (λ b. inr (record { split = ap (λ (w : X). P w xs) first ∙ ap (P z) b.split; same = b.same; none = b.none }))
    (last_or_not xs y before x after (tail_is v z (xs ++ y ∷ []) (before ++ x ∷ after) e))

split_text : (before : List Record) (r : Record) (after : List Record) → spelled_all (before ++ r ∷ after) ≡ spelled_all before ++ (spelled r ++ spelled_all after)
split_text before r after = spelled_all-append before (r ∷ after)

split_length : (rs before : List Record) (r : Record) (after : List Record) → rs ≡ before ++ r ∷ after → length (spelled_all rs) ≡ length (spelled_all before) + (length (spelled r) + length (spelled_all after))
split_length rs before r after split =
    ap (λ (xs : List Record). length (spelled_all xs)) split ∙ (ap length (split_text before r after) ∙ omega (arith, length-append (spelled_all before) (spelled r ++ spelled_all after), length-append (spelled r) (spelled_all after)))

-- a record of a formed frame stands there
pub there_durable : (v : View) (log : Tail) (gate : ℕ) (rs before : List Record) (r : Record) (after : List Record) (lsn : ℕ) → IsFormed (v.now log.area).seen gate rs → rs ≡ before ++ r ∷ after → lsn ≡ log.base + (gate + 5 + length (spelled_all before))
    → log.base + (gate + 1 + length (text_of (spelled_all rs))) ≤ log.gate → IsDurable v log lsn r
there_durable v log gate rs before r after lsn formed split place within =
    let f = (v.now log.area).seen in
    let P : List ℕ → Type 0 = λ xs. window f (gate + 5) (length xs) ≡ xs in
    let all : P (spelled_all before ++ (spelled r ++ spelled_all after)) = subst P (ap spelled_all split ∙ split_text before r after) (formed_body f gate rs formed) in
    let back = window_back f (gate + 5) (spelled_all before) (spelled r ++ spelled_all after) all in
    let text = window_front f (gate + 5 + length (spelled_all before)) (spelled r) (spelled_all after) back in
    let offset : gate + 5 + length (spelled_all before) ≡ lsn - log.base = omega arith in
    record {
      fields = AreRecords-at before r after (subst AreRecords split formed.frame.fields);
      front = omega arith;
      before = omega (arith, split_length rs before r after split, text-length (spelled_all rs));
      text = subst (λ (k : ℕ). window f k (length (spelled r)) ≡ spelled r) offset text;
    }

-- and a waiting one in the buffer
pub there_waiting : {v : View} {log : Tail} {ds ps : List Numbered} (h : Holds v log ds ps) (gate : ℕ) (before : List Record) (r : Record) (after : List Record) (lsn : ℕ) → h.body ≡ before ++ r ∷ after → lsn ≡ log.base + (gate + 5 + length (spelled_all before))
    → log.gate ≡ log.base + gate → IsWaiting log lsn r
there_waiting h gate before r after lsn split place at_gate = record {
  fields = AreRecords-at before r after (subst AreRecords split h.fields);
  front = spelled_all before;
  back = spelled_all after;
  buffer = h.waiting ∙ (ap spelled_all split ∙ split_text before r after);
  place = omega arith;
}

-- another record follows in the frame
pub record IsInside (log : Tail) (p : Placed) (rest : List Placed) : Type 0 where
  pub before : p.0.lsn + length (spelled p.1) < p.0.frame_end
  pub within : p.0.frame_end ≤ tail_of log
  pub next : first_of rest ≡ Some (record { lsn = p.0.lsn + length (spelled p.1); frame_end = p.0.frame_end })

-- or none
pub record IsLast (v : View) (log : Tail) (p : Placed) (rest : List Placed) : Type 0 where
  pub ends : p.0.lsn + length (spelled p.1) ≡ p.0.frame_end
  pub behind : StandBehind v log p.0.frame_end rest ⊎ ((p.0.frame_end ≡ tail_of log) × (rest ≡ []))

pub first_inside : (base end at : ℕ) (r : Record) (rs : List Record) (more : List Placed) (lsn frame_end : ℕ) → lsn ≡ base + at → frame_end ≡ base + end → first_of (places_from base end at (r ∷ rs) ++ more) ≡ Some (record { lsn = lsn; frame_end = frame_end })
first_inside base end at r rs more lsn frame_end a b =
    let P : ℕ → ℕ → Option Place = λ m n. Some (record { lsn = m; frame_end = n }) in
    ap (λ (m : ℕ). P m (base + end)) (sym a) ∙ ap (P lsn) (sym b)

pub inside_or_last : (log : Tail) (p : Placed) (rest more behind : List Placed) (end at : ℕ) (rs : List Record) → IsInFrame log.base end at rs p more → end ≡ at + length (spelled_all rs) → rest ≡ more ++ behind → log.base + end ≤ tail_of log
    → IsInside log p rest ⊎ ((p.0.lsn + length (spelled p.1) ≡ p.0.frame_end) × (rest ≡ behind))
inside_or_last log p rest more behind end at rs f long are within = by_after f.after (split_length rs f.before p.1 f.after f.split) f.are where
  by_after : (after : List Record) → length (spelled_all rs) ≡ length (spelled_all f.before) + (length (spelled p.1) + length (spelled_all after)) → more ≡ places_from log.base end (at + length (spelled_all f.before) + length (spelled p.1)) after
      → IsInside log p rest ⊎ ((p.0.lsn + length (spelled p.1) ≡ p.0.frame_end) × (rest ≡ behind))
  by_after [] size is = inr (omega (arith, f.lsn, f.frame_end), are ∙ ap (λ (xs : List Placed). xs ++ behind) is)
  by_after (s ∷ after) size is = inl (record {
    before = omega (arith, f.lsn, f.frame_end, length-append (spelled s) (spelled_all after), spelled-long s);
    within = omega (arith, f.frame_end);
    next = ap first_of (are ∙ ap (λ (xs : List Placed). xs ++ behind) is) ∙ first_inside log.base end (at + length (spelled_all f.before) + length (spelled p.1)) s after behind (p.0.lsn + length (spelled p.1)) p.0.frame_end (omega (arith, f.lsn)) f.frame_end;
  })

-- what a log says of one of its records
pub record Stands (v : View) (log : Tail) (p : Placed) (rest : List Placed) : Type 0 where
  pub there : IsThere v log p.0.lsn p.1
  pub goes_on : IsInside log p rest ⊎ IsLast v log p rest

frame_long : (gate : ℕ) (rs : List Record) → gate + 1 + length (text_of (spelled_all rs)) ≡ gate + 5 + length (spelled_all rs)
frame_long gate rs = omega (arith, text-length (spelled_all rs))

pub stands : {v : View} {log : Tail} {ds ps : List Numbered} {held : List Placed} (h : HoldsAt v log ds ps held) (front : List Placed) (p : Placed) (rest : List Placed) → held ≡ front ++ p ∷ rest → Stands v log p rest
stands {v = v} {log = log} h front p rest e =
    let f = (v.now log.area).seen in
    let ps : List Record = h.holds.body in
    let w = in_frames log.base 0 (h.holds.frames ++ ps ∷ []) front p rest (sym h.places ∙ e) in
    let gate = gate_after 0 w.before in
    let end = gate + 1 + length (text_of (spelled_all w.rs)) in
    ⊎_elim
    (λ a.
    let k = Frames-behind f 0 w.before (w.rs ∷ a.more) (subst (Frames f 0) a.split h.holds.stand) in
    let formed : IsFormed f gate w.rs = record { gate = k.0; frame = k.1; text = k.2 } in
    let last : log.gate ≡ log.base + gate_after end a.more = h.holds.at_gate ∙ ap (λ (n : ℕ). log.base + n) (ap (gate_after 0) a.split ∙ gate_behind 0 w.before (w.rs ∷ a.more)) in
    let within : log.base + end ≤ log.gate = omega (arith, gate_later end a.more) in
    record {
      there = inl (there_durable v log gate w.rs w.frame.before p.1 w.frame.after p.0.lsn formed w.frame.split w.frame.lsn within);
      goes_on = ⊎_elim
          (λ i. inl i)
          (λ l. inr (record {
            ends = l.0;
            behind = inl (record { at = end; gate_is = w.frame.frame_end; frames = a.more; stand = k.3; last_gate = last; ps = ps; waiting = h.holds.waiting; are = l.1 ∙ ap (places_in log.base end) a.are });
          }))
          (inside_or_last log p rest w.more (places_in log.base end w.after) end (gate + 5) w.rs w.frame (frame_long gate w.rs) w.are (omega (arith, tail_at_gate log)));
    })
    (λ b.
    let at_gate : log.gate ≡ log.base + gate = h.holds.at_gate ∙ ap (λ (xs : List (List Record)). log.base + gate_after 0 xs) b.split in
    let size : length log.buffer ≡ length (spelled_all w.rs) = ap length h.holds.waiting ∙ ap (λ (xs : List Record). length (spelled_all xs)) b.same in
    let some : 0 < length log.buffer = omega (arith, split_length w.rs w.frame.before p.1 w.frame.after w.frame.split, spelled-long p.1) in
    let whole : log.base + end ≡ tail_of log = omega (arith, frame_long gate w.rs, tail_behind log some) in
    record {
      there = inr (there_waiting h.holds gate w.frame.before p.1 w.frame.after p.0.lsn (b.same ∙ w.frame.split) w.frame.lsn at_gate);
      goes_on = ⊎_elim
          (λ i. inl i)
          (λ l. inr (record { ends = l.0; behind = inr (w.frame.frame_end ∙ whole, l.1 ∙ ap (places_in log.base end) b.none) }))
          (inside_or_last log p rest w.more (places_in log.base end w.after) end (gate + 5) w.rs w.frame (frame_long gate w.rs) w.are (omega arith));
    })
    (last_or_not h.holds.frames ps w.before w.rs w.after w.split)

-- the records at these places, with their numbers
abbrev pub numbers_of : List Placed → List Numbered
numbers_of held = map (λ p. record { lsn = p.0.lsn; is = p.1 }) held

numbers-from : (base end at : ℕ) (rs : List Record) → numbers_of (places_from base end at rs) ≡ numbered_from (base + at) rs
numbers-from base end at [] = refl
numbers-from base end at (r ∷ rs) =
    let next : base + (at + length (spelled r)) ≡ base + at + length (spelled r) = omega arith in
    ap (λ (xs : List Numbered). record { lsn = base + at; is = r } ∷ xs) (numbers-from base end (at + length (spelled r)) rs ∙ ap (λ (n : ℕ). numbered_from n rs) next)

pub numbers-in : (base at : ℕ) (frames : List (List Record)) → numbers_of (places_in base at frames) ≡ numbered_in (base + at) frames
numbers-in base at [] = refl
numbers-in base at (rs ∷ frames) =
    let end : ℕ = at + 1 + length (text_of (spelled_all rs)) in
    let first : base + (at + 5) ≡ base + at + 5 = omega arith in
    let next : base + end ≡ base + at + 1 + length (text_of (spelled_all rs)) = omega arith in
    map-append (λ (p : Placed). record { lsn = p.0.lsn; is = p.1 }) (places_from base end (at + 5) rs) (places_in base end frames)
    ∙ ap (λ (xs : List Numbered). xs ++ numbers_of (places_in base end frames)) (numbers-from base end (at + 5) rs ∙ ap (λ (n : ℕ). numbered_from n rs) first)
    ∙ ap (λ (xs : List Numbered). numbered_from (base + at + 5) rs ++ xs) (numbers-in base end frames ∙ ap (λ (n : ℕ). numbered_in n frames) next)

-- an entry with this number and record
pub record IsEntry (held : List Placed) (lsn : ℕ) (r : Record) : Type 0 where
  pub front : List Placed
  pub entry : Placed
  pub rest : List Placed
  pub split : held ≡ front ++ entry ∷ rest
  pub number : entry.0.lsn ≡ lsn
  pub same : entry.1 ≡ r

pub entry_of : (held : List Placed) (lsn : ℕ) (r : Record) → StandsAt (numbers_of held) lsn r → IsEntry held lsn r
entry_of [] lsn r h = absurd h
entry_of (p ∷ held) lsn r (inl h) = record { front = []; entry = p; rest = held; split = refl; number = h.0; same = h.1 }
entry_of (p ∷ held) lsn r (inr h) =
    let e = entry_of held lsn r h in
    record { front = p ∷ e.front; entry = e.entry; rest = e.rest; split = ap (λ (xs : List Placed). p ∷ xs) e.split; number = e.number; same = e.same }

-- where the records stand that a log holds
pub held_places : {v : View} {log : Tail} {ds ps : List Numbered} (h : Holds v log ds ps) → numbers_of (places_in log.base 0 (h.frames ++ h.body ∷ [])) ≡ ds ++ ps
held_places {log = log} h = numbers-in log.base 0 (h.frames ++ h.body ∷ []) ∙ ap (λ (n : ℕ). numbered_in n (h.frames ++ h.body ∷ [])) (add-zero log.base) ∙ forced_all h

pub there : {v : View} {log : Tail} {ds ps : List Numbered} → Holds v log ds ps → (lsn : ℕ) (r : Record) → StandsAt (ds ++ ps) lsn r → IsThere v log lsn r
there {v = v} {log = log} {ds = ds} {ps = ps} h lsn r among =
    let held : List Placed = places_in log.base 0 (h.frames ++ h.body ∷ []) in
    let e = entry_of held lsn r (subst (λ (ns : List Numbered). StandsAt ns lsn r) (sym (held_places h)) among) in
    let all : HoldsAt v log ds ps held = record { holds = h; places = refl } in
    subst (λ (x : Record). IsThere v log lsn x) e.same (subst (λ (n : ℕ). IsThere v log n e.entry.1) e.number (stands {held = held} all e.front e.entry e.rest e.split).there)

-- the first frame behind a gate, the buffer's included
pub record IsNextFrame (v : View) (log : Tail) (gate : ℕ) (rest : List Placed) : Type 0 where
  pub size : ℕ
  pub some : 0 < size
  pub within : gate + 5 + size ≤ tail_of log
  pub is : IsSizeBehind v log gate size
  pub first : first_of rest ≡ Some (record { lsn = gate + 5; frame_end = gate + 5 + size })

-- or there is none
pub record IsEnd (log : Tail) (gate : ℕ) (rest : List Placed) : Type 0 where
  pub tail : gate ≡ tail_of log
  pub none : rest ≡ []

pub next_frame : {v : View} {log : Tail} {gate : ℕ} {rest : List Placed} → StandBehind v log gate rest → IsNextFrame v log gate rest ⊎ IsEnd log gate rest
next_frame {v = v} {log = log} {gate = gate} {rest = rest} h = by_frames h.frames h.ps h.stand h.last_gate h.waiting h.are where
  by_frames : (frames : List (List Record)) (ps : List Record) → Frames (v.now log.area).seen h.at frames → log.gate ≡ log.base + gate_after h.at frames → log.buffer ≡ spelled_all ps → rest ≡ places_in log.base h.at (frames ++ ps ∷ []) → IsNextFrame v log gate rest ⊎ IsEnd log gate rest
  by_frames [] [] stand last waiting are = inr (record { tail = omega (arith, h.gate_is, tail_empty log (ap length waiting)); none = are })
  by_frames [] (p ∷ ps) stand last waiting are =
      let size : length log.buffer ≡ length (spelled p ++ spelled_all ps) = ap length waiting in
      let some : 0 < length log.buffer = omega (arith, length-append (spelled p) (spelled_all ps), spelled-long p) in
      inl (record {
        size = length log.buffer;
        some = some;
        within = omega (arith, h.gate_is, tail_behind log some);
        is = inl (h.gate_is ∙ sym last, refl);
        first = ap first_of are ∙ first_inside log.base (h.at + 1 + length (text_of (spelled_all (p ∷ ps)))) (h.at + 5) p ps [] (gate + 5) (gate + 5 + length log.buffer) (omega (arith, h.gate_is)) (omega (arith, h.gate_is, frame_long h.at (p ∷ ps)));
      })
  by_frames (rs ∷ frames) ps stand last waiting are = by_records rs stand last are where
    by_records : (rs : List Record) → Frames (v.now log.area).seen h.at (rs ∷ frames) → log.gate ≡ log.base + gate_after h.at (rs ∷ frames) → rest ≡ places_in log.base h.at ((rs ∷ frames) ++ ps ∷ []) → IsNextFrame v log gate rest ⊎ IsEnd log gate rest
    by_records [] stand last are = absurd (stand.1.some refl)
    by_records (r ∷ rs) stand last are =
        let end = h.at + 1 + length (text_of (spelled_all (r ∷ rs))) in
        let long = frame_long h.at (r ∷ rs) in
        let place : h.at ≡ gate - log.base = omega (arith, h.gate_is) in
        inl (record {
          size = length (spelled_all (r ∷ rs));
          some = omega (arith, length-append (spelled r) (spelled_all rs), spelled-long r);
          within = omega (arith, h.gate_is, gate_later end frames, tail_at_gate log);
          is = inr (record {
            rs = r ∷ rs;
            front = omega (arith, h.gate_is);
            before = omega (arith, h.gate_is, gate_later end frames);
            formed = subst (λ (k : ℕ). IsFormed (v.now log.area).seen k (r ∷ rs)) place (record { gate = stand.0; frame = stand.1; text = stand.2 });
            long = refl;
          });
          first = ap first_of are ∙ first_inside log.base end (h.at + 5) r rs (places_in log.base end (frames ++ ps ∷ [])) (gate + 5) (gate + 5 + length (spelled_all (r ∷ rs))) (omega (arith, h.gate_is)) (omega (arith, h.gate_is));
        })

-- all of them stand behind the first gate
pub all_behind : {v : View} {log : Tail} {ds ps : List Numbered} {held : List Placed} → HoldsAt v log ds ps held → StandBehind v log log.base held
all_behind h = record { at = 0; gate_is = omega arith; frames = h.holds.frames; stand = h.holds.stand; last_gate = h.holds.at_gate; ps = h.holds.body; waiting = h.holds.waiting; are = h.places }

-- a disk in the same state
pub behind_along : {v w : View} {log : Tail} {gate : ℕ} {rest : List Placed} → w.now ≡ v.now → StandBehind v log gate rest → StandBehind w log gate rest
behind_along {log = log} same h = record {
  at = h.at;
  gate_is = h.gate_is;
  frames = h.frames;
  stand = subst (λ (s : State). Frames (s log.area).seen h.at h.frames) (sym same) h.stand;
  last_gate = h.last_gate;
  ps = h.ps;
  waiting = h.waiting;
  are = h.are;
}

pub held_along : {v w : View} {log : Tail} {ds ps : List Numbered} {held : List Placed} → w.now ≡ v.now → HoldsAt v log ds ps held → HoldsAt w log ds ps held
held_along {v = v} {w = w} {log = log} same h = record {
  holds = record {
    frames = h.holds.frames;
    stand = subst (λ (s : State). Frames (s log.area).seen 0 h.holds.frames) (sym same) h.holds.stand;
    all = h.holds.all;
    settled = subst (λ (s : State). (s log.area).pending ≡ []) (sym same) h.holds.settled;
    at_gate = h.holds.at_gate;
    body = h.holds.body;
    waiting = h.holds.waiting;
    fields = h.holds.fields;
    numbers = h.holds.numbers;
    within = h.holds.within;
  };
  places = h.places;
}

-- where the first record stands, by the size that was read
pub first_is : (v : View) (log : Tail) (gate : ℕ) (rest : List Placed) (h : IsNextFrame v log gate rest) (size : ℕ) → size ≡ h.size → Some (record { lsn = gate + 5; frame_end = gate + 5 + size }) ≡ first_of rest
first_is v log gate rest h size is =
    let P : ℕ → Option Place = λ n. Some (record { lsn = gate + 5; frame_end = gate + 5 + n }) in
    ap P is ∙ sym h.first

pub next_is : (log : Tail) (p : Placed) (rest : List Placed) (h : IsInside log p rest) (lsn : ℕ) → lsn ≡ p.0.lsn + length (spelled p.1) → Some (record { lsn = lsn; frame_end = p.0.frame_end }) ≡ first_of rest
next_is log p rest h lsn is =
    let P : ℕ → Option Place = λ n. Some (record { lsn = n; frame_end = p.0.frame_end }) in
    ap P is ∙ sym h.next

-- the first record's number is the base and 5
pub first_number : {v : View} {log : Tail} {ds ps : List Numbered} {held : List Placed} → HoldsAt v log ds ps held → (p : Placed) (rest : List Placed) → held ≡ p ∷ rest → p.0.lsn ≡ log.base + 5
first_number {log = log} h p rest e =
    let some : (q : Place) → Some q ≡ Some p.0 → q.lsn ≡ p.0.lsn = λ q is. ap (λ (x : Place). x.lsn) (let s : q ≡ p.0 = cc in s) in
    ⊎_elim
    (λ n. sym (some (record { lsn = log.base + 5; frame_end = log.base + 5 + n.size }) (sym n.first ∙ ap first_of e)))
    (λ none. let is : p ∷ rest ≡ [] = sym e ∙ none.none in absurd (cc))
    (next_frame (all_behind h))
