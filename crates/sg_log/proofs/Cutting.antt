-- Frames that are copied to another area, and what is left of a log there.
use Rattle.std.proofs.Common.{add-zero, ◌≡◌, ⊎_elim, Bool, ℕ, zero, suc, ◌+◌, ◌-◌, ◌<◌, ◌≤◌, List, [], ◌∷◌, ◌++◌, Result, Ok, length, get_or, IsTrue, refl, sym, ◌∙◌, ap, subst, arith, append_assoc}
use Rattle.std.proofs.lemmas.Bool.{cases_lt}
use Rattle.sg_base.specs.declared.area.Area.{Area}
use Rattle.sg_base.specs.declared.area.Area.TheVariants.{Home, Log0, Log1}
use Rattle.sg_disk.specs.Disk.{Bytes, Image, Part, State, LeavesPart, Leaves, View, Dropped, Synced, LeavesOnly, window, put, dropped_part, written, dropped}
use Rattle.sg_disk.proofs.Parts.{part_written, part_synced, leaves_other, other_written, other_synced, put_inside, at_area_other}
use Rattle.sg_disk.proofs.Images.{put_outside}
use Rattle.sg_disk.proofs.Moments.{goes_on, joined, weaker}
use Rattle.sg_log.specs.Reads.{OnlyReads}
use Rattle.sg_record.specs.Records.{Record}
use Rattle.sg_log.specs.Texts.{spelled_all}
use Rattle.sg_log.specs.Formed.{IsFormed}
use Rattle.sg_log.specs.Frames.{Numbered, numbered_from, numbered_in, text_of, Frames, gate_after, SameElsewhere}
use Rattle.sg_log.specs.Held.{Tail, Holds}
use Rattle.sg_log.specs.Cut.{other_log, IsHolding, IsSplit, gate_of, kept_of, Spares, IsCopied, cut_to}
use Rattle.sg_log.proofs.Steps.{gate_later}
use Rattle.sg_log.proofs.Standing.{Frames-behind, gate_behind}
use Rattle.sg_log.proofs.Holding.{gate_moved, text-length}

-- images in which the other areas are as before
pub spare_now : (to : Area) (s t : State) (c : Image) → SameElsewhere to s t → Leaves t c → Spares to s c
spare_now to s t c same leaves b other = subst (λ (p : Part). LeavesPart p (c b)) (same b other) (leaves b)

pub spare_written : (to : Area) (at : ℕ) (bytes : List ℕ) (s t : State) (c : Image) → SameElsewhere to s t → Leaves (written to at bytes t) c → Spares to s c
spare_written to at bytes s t c same leaves b other = subst (λ (p : Part). LeavesPart p (c b)) (same b other) (leaves_other t to b at bytes c other leaves)

pub spare_dropped : (to : Area) (at : ℕ) (s t : State) (c : Image) → SameElsewhere to s t → Leaves (dropped to at t) c → Spares to s c
spare_dropped to at s t c same leaves b other = subst (λ (p : Part). LeavesPart p (c b)) (at_area_other to b (dropped_part at (t to)) t other ∙ same b other) (leaves b)

pub other_dropped : {t : State} (s : State) (a b : Area) (at : ℕ) → (b ≡ a → ⊥) → t ≡ dropped a at s → t b ≡ s b
other_dropped s a b at other is = ap (λ (u : State). u b) is ∙ at_area_other a b (dropped_part at (s a)) s other

pub same_then : {to : Area} {s t u : State} → SameElsewhere to s t → SameElsewhere to t u → SameElsewhere to s u
same_then a c b other = c b other ∙ a b other

pub same_now : {to : Area} {s t u : State} → SameElsewhere to s t → u ≡ t → SameElsewhere to s u
same_now a is b other = ap (λ (w : State). w b) is ∙ a b other

-- a byte of what was read
pub read_byte : (f : Bytes) (at n k : ℕ) → k < n → get_or (window f at n) k 0 ≡ f (at + k)
read_byte f at zero k lt = absurd (omega arith)
read_byte f at (suc n) zero lt = ap f (sym (add-zero at))
read_byte f at (suc n) (suc k) lt = read_byte f (suc at) n k (omega arith) ∙ ap f (let e : suc at + k ≡ at + suc k = omega arith in e)

-- one piece more is copied
pub copied_more : (from : Area) (start : ℕ) (to : Area) (at count : ℕ) (v w x : View) (bytes : List ℕ) → (from ≡ to → ⊥) → IsCopied from start to at v w → bytes ≡ window (w.now from).seen (start + at) count → length bytes ≡ count → x.now ≡ written to at bytes w.now
    → IsCopied from start to (at + count) v x
copied_more from start to at count v w x bytes apart so_far is long now = record {
  others = λ b other. other_written w.now to b at bytes other now ∙ so_far.others b other;
  bytes = λ i lt. ⊎_elim
      (λ low. ap (λ (p : Part). p.seen i) (part_written w.now to at bytes now) ∙ (put_outside at bytes (w.now to).seen i (λ a b. absurd (omega (arith, a, low))) ∙ so_far.bytes i low))
      (λ high.
      let k : ℕ = i - at in
      let e : at + k ≡ i = omega (arith, high) in
      let there : k < count = omega (arith, lt, high) in
      let within : k < length bytes = omega (arith, there, long) in
      ap (λ (p : Part). p.seen i) (part_written w.now to at bytes now)
      ∙ (ap (put at bytes (w.now to).seen) (sym e)
      ∙ (put_inside at bytes (w.now to).seen k 0 within
      ∙ (ap (λ (l : List ℕ). get_or l k 0) is
      ∙ (read_byte (w.now from).seen (start + at) count k there
      ∙ (ap (w.now from).seen (let f : start + at + k ≡ start + i = omega (arith, e) in f)
      ∙ ap (λ (p : Part). p.seen (start + i)) (so_far.others from apart)))))))
      (cases_lt i at);
}

pub copied_now : (from : Area) (start : ℕ) (to : Area) (count : ℕ) (v w x : View) → x.now ≡ w.now → IsCopied from start to count v w → IsCopied from start to count v x
copied_now from start to count v w x same h = record {
  others = λ b other. ap (λ (s : State). s b) same ∙ h.others b other;
  bytes = λ i lt. ap (λ (s : State). (s to).seen i) same ∙ h.bytes i lt;
}

pub copied_none : (from : Area) (start : ℕ) (to : Area) (v : View) → IsCopied from start to 0 v v
copied_none from start to v = record { others = λ b other. refl; bytes = λ i lt. absurd (omega (arith, lt)) }

-- FRAMES that stand behind others stand at the front of an area to which their bytes were copied
pub moved : (f h : Bytes) (d at : ℕ) (frames : List (List Record)) → ((i : ℕ) → at ≤ i → i ≤ gate_after at frames → h i ≡ f (d + i)) → Frames f (d + at) frames → Frames h at frames
moved f h d at [] same stand = λ is_open. stand (sym (same at (omega arith) (omega arith)) ∙ is_open)
moved f h d at (rs ∷ frames) same stand =
    let size = length (text_of (spelled_all rs)) in
    let more = gate_later (at + 1 + size) frames in (
      same at (omega arith) (omega (arith, more)) ∙ stand.0,
      stand.1,
      window_moved (at + 1) (d + at + 1) size (omega arith) (λ i low high. same i (omega (arith, low)) (omega (arith, high, more))) ∙ stand.2,
      moved f h d (at + 1 + size) frames (λ i low high. same i (omega (arith, low)) high) (subst (λ (n : ℕ). Frames f n frames) (let e : d + at + 1 + size ≡ d + (at + 1 + size) = omega arith in e) stand.3),
    )
  where
    window_moved : (a b n : ℕ) → b ≡ d + a → ((i : ℕ) → a ≤ i → i < a + n → h i ≡ f (d + i)) → window h a n ≡ window f b n
    window_moved a b zero e each = refl
    window_moved a b (suc n) e each = let P : ℕ → List ℕ → List ℕ = λ x xs. x ∷ xs in
        ap (λ (x : ℕ). P x (window h (suc a) n)) (each a (omega arith) (omega arith) ∙ ap f (sym e))
        ∙ ap (P (f b)) (window_moved (suc a) (suc b) n (omega (arith, e)) (λ i low high. each i (omega (arith, low)) (omega (arith, high))))

pub numbered_both : (gate : ℕ) (xs ys : List (List Record)) → numbered_in gate (xs ++ ys) ≡ numbered_in gate xs ++ numbered_in (gate_after gate xs) ys
numbered_both gate [] ys = refl
numbered_both gate (rs ∷ xs) ys = ap (λ (l : List Numbered). numbered_from (gate + 5) rs ++ l) (numbered_both (gate + 1 + length (text_of (spelled_all rs))) xs ys)
    ∙ sym (append_assoc (numbered_from (gate + 5) rs) (numbered_in (gate + 1 + length (text_of (spelled_all rs))) xs) (numbered_in (gate_after (gate + 1 + length (text_of (spelled_all rs))) xs) ys))

pub gate_from : (base : ℕ) (xs : List (List Record)) → gate_after base xs ≡ base + gate_after 0 xs
gate_from base xs = ap (λ (n : ℕ). gate_after n xs) (sym (add-zero base)) ∙ gate_moved base 0 xs

-- where the search for the frame is
pub record IsSought (base point : ℕ) (frames : List (List Record)) (at : ℕ) : Type 0 where
  pub front : List (List Record)
  pub rest : List (List Record)
  pub split : frames ≡ front ++ rest
  pub place : at ≡ gate_after 0 front

pub sought_first : (base point : ℕ) (frames : List (List Record)) → IsSought base point frames 0
sought_first base point frames = record { front = []; rest = frames; split = refl; place = refl }

-- where it hasn't come to the end, a frame follows
pub record IsNext (f : Bytes) (base point : ℕ) (frames : List (List Record)) (at : ℕ) : Type 0 where
  pub front : List (List Record)
  pub next : List Record
  pub back : List (List Record)
  pub split : frames ≡ front ++ next ∷ back
  pub place : at ≡ gate_after 0 front
  pub formed : IsFormed f at next
  pub within : at + 5 + length (spelled_all next) ≤ gate_after 0 frames

pub sought_next : (f : Bytes) (base point gate at : ℕ) (frames : List (List Record)) → Frames f 0 frames → gate ≡ base + gate_after 0 frames → base + at ≤ point → point < gate → IsSought base point frames at → IsNext f base point frames at
sought_next f base point gate at frames stand last low lt s = go s.rest s.split
  where
    go : (rest : List (List Record)) → frames ≡ s.front ++ rest → IsNext f base point frames at
    go [] e =
        let ends : gate_after 0 frames ≡ gate_after 0 s.front = ap (gate_after 0) e ∙ gate_behind 0 s.front [] in
        let at_end : at ≡ gate_after 0 s.front = s.place in
        absurd (omega (arith, ends, at_end, last, low, lt))
    go (rs ∷ back) e =
        let k = Frames-behind f 0 s.front (rs ∷ back) (subst (Frames f 0) e stand) in
        let ends : gate_after 0 frames ≡ gate_after (gate_after 0 s.front) (rs ∷ back) = ap (gate_after 0) e ∙ gate_behind 0 s.front (rs ∷ back) in
        let later = gate_later (gate_after 0 s.front + 1 + length (text_of (spelled_all rs))) back in
        let at_end : at ≡ gate_after 0 s.front = s.place in
        record {
          front = s.front;
          next = rs;
          back = back;
          split = e;
          place = s.place;
          formed = subst (λ (n : ℕ). IsFormed f n rs) (sym s.place) (record { gate = k.0; frame = k.1; text = k.2 });
          within = omega (arith, ends, later, at_end, text-length (spelled_all rs));
        }

pub next_sought : (f : Bytes) (base point at size : ℕ) (frames : List (List Record)) (n : IsNext f base point frames at) → size ≡ length (spelled_all n.next) → IsSought base point frames (at + 5 + size)
next_sought f base point at size frames n is = record {
  front = n.front ++ n.next ∷ [];
  rest = n.back;
  split = n.split ∙ sym (append_assoc n.front (n.next ∷ []) n.back);
  place =
      let e : gate_after 0 (n.front ++ n.next ∷ []) ≡ gate_after 0 n.front + 1 + length (text_of (spelled_all n.next)) = gate_behind 0 n.front (n.next ∷ []) in
      let at_end : at ≡ gate_after 0 n.front = n.place in
      omega (arith, e, at_end, is, text-length (spelled_all n.next));
}

pub next_holds : (f : Bytes) (base point at size : ℕ) (frames : List (List Record)) (n : IsNext f base point frames at) → size ≡ length (spelled_all n.next) → base + at ≤ point → point < base + (at + 5 + size) → IsHolding base point frames at
next_holds f base point at size frames n is low high = record {
  front = n.front;
  holding = n.next;
  back = n.back;
  split = n.split;
  place = n.place;
  within = low;
  behind = omega (arith, high, is, text-length (spelled_all n.next));
}

-- THE CUT by the frame that was found
abbrev pub split_by : (base point : ℕ) (frames : List (List Record)) (ds : List Numbered) (at : ℕ) → numbered_in base frames ≡ ds → IsHolding base point frames at → IsSplit base point ds
split_by base point frames ds at is h =
    let place : gate_after base h.front ≡ base + at = gate_from base h.front ∙ ap (λ (n : ℕ). base + n) (sym h.place) in
    record {
      front = h.front;
      holding = h.holding;
      back = h.back;
      all = sym is ∙ (ap (numbered_in base) h.split ∙ numbered_both base h.front (h.holding ∷ h.back));
      within = let w = h.within in omega (arith, place, w);
      behind = let w = h.behind in omega (arith, place, w);
    }

-- and there is one
record IsFound (point at : ℕ) (frames : List (List Record)) : Type 0 where
  front : List (List Record)
  holding : List Record
  back : List (List Record)
  split : frames ≡ front ++ holding ∷ back
  within : gate_after at front ≤ point
  behind : point < gate_after at front + 1 + length (text_of (spelled_all holding))

find_in : (point at : ℕ) (frames : List (List Record)) → at ≤ point → point < gate_after at frames → IsFound point at frames
find_in point at [] low lt = absurd (omega (arith, low, lt))
find_in point at (rs ∷ frames) low lt = ⊎_elim
    (λ here. record { front = []; holding = rs; back = frames; split = refl; within = low; behind = here })
    (λ later. let r = find_in point (at + 1 + length (text_of (spelled_all rs))) frames later lt in
    record { front = rs ∷ r.front; holding = r.holding; back = r.back; split = ap (λ (l : List (List Record)). rs ∷ l) r.split; within = r.within; behind = r.behind })
    (cases_lt point (at + 1 + length (text_of (spelled_all rs))))

pub split_of : (base point : ℕ) (frames : List (List Record)) (ds : List Numbered) → numbered_in base frames ≡ ds → base ≤ point → point < base + gate_after 0 frames → IsSplit base point ds
split_of base point frames ds is low lt =
    let r = find_in point base frames low (let e = gate_from base frames in omega (arith, e, lt)) in
    record { front = r.front; holding = r.holding; back = r.back; all = sym is ∙ (ap (numbered_in base) r.split ∙ numbered_both base r.front (r.holding ∷ r.back)); within = r.within; behind = r.behind }

-- WHAT THE LOG HOLDS once its frames from that one on were copied, with the closed gate behind them
pub holds_cut : {v : View} {log : Tail} {ds ps : List Numbered} (point at : ℕ) (w : View) (h : Holds v log ds ps) (k : IsHolding log.base point h.frames at) → IsCopied log.area at (other_log log.area) (log.gate - log.base - at + 1) v w → (w.now (other_log log.area)).pending ≡ []
    → Holds w (cut_to (log.base + at) log) (kept_of (split_by log.base point h.frames ds at h.all k)) ps
holds_cut {v = v} {log = log} {ds = ds} {ps = ps} point at w h k copied settled =
    let ends : gate_after 0 h.frames ≡ gate_after at (k.holding ∷ k.back) = ap (gate_after 0) k.split ∙ (gate_behind 0 k.front (k.holding ∷ k.back) ∙ ap (λ (n : ℕ). gate_after n (k.holding ∷ k.back)) (sym k.place)) in
    let off : gate_after at (k.holding ∷ k.back) ≡ at + gate_after 0 (k.holding ∷ k.back) = gate_from at (k.holding ∷ k.back) in
    let last : log.gate ≡ log.base + gate_after 0 h.frames = h.at_gate in
    let base : gate_after log.base k.front ≡ log.base + at = gate_from log.base k.front ∙ ap (λ (n : ℕ). log.base + n) (sym k.place) in
    let there : Frames (v.now log.area).seen at (k.holding ∷ k.back) = subst (λ (n : ℕ). Frames (v.now log.area).seen n (k.holding ∷ k.back)) (sym k.place) (Frames-behind (v.now log.area).seen 0 k.front (k.holding ∷ k.back) (subst (Frames (v.now log.area).seen 0) k.split h.stand)) in
    record {
      frames = k.holding ∷ k.back;
      stand = moved (v.now log.area).seen (w.now (other_log log.area)).seen at 0 (k.holding ∷ k.back) (λ i low high. copied.bytes i (omega (arith, high, ends, off, last)))
          (subst (λ (n : ℕ). Frames (v.now log.area).seen n (k.holding ∷ k.back)) (sym (add-zero at)) there);
      all = ap (λ (n : ℕ). numbered_in n (k.holding ∷ k.back)) (sym base);
      settled = settled;
      at_gate = omega (arith, ends, off, last);
      body = h.body;
      waiting = h.waiting;
      fields = h.fields;
      numbers = h.numbers;
      within = h.within;
    }

-- where the frame is the first one nothing is cut off
pub holds_whole : {v : View} {log : Tail} {ds ps : List Numbered} (point at : ℕ) (w : View) (h : Holds v log ds ps) (k : IsHolding log.base point h.frames at) → at ≡ 0 → w.now ≡ v.now
    → (log.base ≡ gate_of (split_by log.base point h.frames ds at h.all k)) × Holds w log (kept_of (split_by log.base point h.frames ds at h.all k)) ps
holds_whole {v = v} {log = log} {ds = ds} {ps = ps} point at w h k none same = go k.front k.split k.place
  where
    go : (front : List (List Record)) (split : h.frames ≡ front ++ k.holding ∷ k.back) (place : at ≡ gate_after 0 front) → (log.base ≡ gate_after log.base front) × Holds w log (numbered_in (gate_after log.base front) (k.holding ∷ k.back)) ps
    go [] split place = (
      refl,
      record {
        frames = h.frames;
        stand = subst (λ (s : State). Frames (s log.area).seen 0 h.frames) (sym same) h.stand;
        all = ap (numbered_in log.base) split;
        settled = subst (λ (s : State). (s log.area).pending ≡ []) (sym same) h.settled;
        at_gate = h.at_gate;
        body = h.body;
        waiting = h.waiting;
        fields = h.fields;
        numbers = h.numbers;
        within = h.within;
      },
    )
    go (rs ∷ front) split place = absurd (let later = gate_later (0 + 1 + length (text_of (spelled_all rs))) front in omega (arith, place, later, none))

pub gate_is : (base point at : ℕ) (frames : List (List Record)) (ds : List Numbered) (is : numbered_in base frames ≡ ds) (k : IsHolding base point frames at) → base + at ≡ gate_of (split_by base point frames ds at is k)
gate_is base point at frames ds is k = ap (λ (n : ℕ). base + n) k.place ∙ sym (gate_from base k.front)

pub apart : (a : Area) → a ≡ other_log a → ⊥
apart Home e = cc
apart Log0 e = cc
apart Log1 e = cc

-- the length that was read is that of the frame there
pub size_there : (area : Area) (at : ℕ) (s t : State) (rs : List Record) (size : ℕ) → t ≡ s → IsFormed (s area).seen at rs → (IsFormed (t area).seen at rs → size ≡ length (spelled_all rs)) → size ≡ length (spelled_all rs)
size_there area at s t rs size same formed says = says (subst (λ (u : State). IsFormed (u area).seen at rs) (sym same) formed)

-- the moments of a cut: the frames are read,
pub spares_read : {told : Bool} (to : Area) (v w : View) → IsTrue told → OnlyReads told v w → LeavesOnly v w (Spares to v.now)
spares_read to v w sure reads = weaker (reads.any_moment sure) (λ c leaves b other. leaves b)

-- the other area is emptied,
pub spares_drop : {T E : Type 0} {told : Bool} (to : Area) (v w x : View) (r : Result T E) → IsTrue told → OnlyReads told v w → Dropped to 0 w x r → LeavesOnly v x (Spares to v.now)
spares_drop to v w x r sure reads does = goes_on (spares_read to v w sure reads) does (λ c leaves. spare_dropped to 0 v.now w.now c (λ b other. ap (λ (s : State). s b) (reads.unchanged sure)) leaves)

-- filled,
dropped_same : {T E : Type 0} {told : Bool} {u : T} (to : Area) (v w x : View) → IsTrue told → OnlyReads told v w → Dropped {E = E} to 0 w x (Ok u) → SameElsewhere to v.now x.now
dropped_same to v w x sure reads does b other = other_dropped w.now to b 0 other does.ok ∙ ap (λ (s : State). s b) (reads.unchanged sure)

pub spares_copy : {T E : Type 0} {told : Bool} {u : T} (to : Area) (v w x y : View) → IsTrue told → OnlyReads told v w → Dropped {E = E} to 0 w x (Ok u) → LeavesOnly x y (Spares to x.now) → LeavesOnly v y (Spares to v.now)
spares_copy to v w x y sure reads does run =
    joined (spares_drop to v w x (Ok _) sure reads does) (weaker run (λ c spares b other. subst (λ (p : Part). LeavesPart p (c b)) (dropped_same to v w x sure reads does b other) (spares b other)))

-- and made durable
copied_same : {T E : Type 0} {told : Bool} {u : T} (from : Area) (start count : ℕ) (to : Area) (v w x y : View) → IsTrue told → OnlyReads told v w → Dropped {E = E} to 0 w x (Ok u) → IsCopied from start to count x y → SameElsewhere to v.now y.now
copied_same from start count to v w x y sure reads does copied b other = copied.others b other ∙ dropped_same to v w x sure reads does b other

pub spares_sync : {T E S F : Type 0} {told : Bool} {u : T} (from : Area) (start count : ℕ) (to : Area) (v w x y z : View) (r : Result S F) → IsTrue told → OnlyReads told v w → Dropped {E = E} to 0 w x (Ok u) → LeavesOnly x y (Spares to x.now) → IsCopied from start to count x y → Synced to y z r
    → LeavesOnly v z (Spares to v.now)
spares_sync from start count to v w x y z r sure reads does run copied synced = goes_on (spares_copy to v w x y sure reads does run) synced (λ c leaves. spare_now to v.now y.now c (copied_same from start count to v w x y sure reads does copied) leaves)

-- what is there then
pub copied_all : {T E S F : Type 0} {told : Bool} {u : T} {q : S} (from : Area) (start count : ℕ) (to : Area) (v w x y z : View) → IsTrue told → (from ≡ to → ⊥) → OnlyReads told v w → Dropped {E = E} to 0 w x (Ok u) → IsCopied from start to count x y → Synced {E = F} to y z (Ok q)
    → IsCopied from start to count v z × ((z.now to).pending ≡ [])
copied_all from start count to v w x y z sure apart reads does copied synced = (
  record {
    others = λ b other. other_synced y.now to b other synced.ok ∙ copied_same from start count to v w x y sure reads does copied b other;
    bytes = λ i lt. ap (λ (p : Part). p.seen i) (part_synced y.now to synced.ok) ∙ (copied.bytes i lt ∙ ap (λ (p : Part). p.seen (start + i)) (dropped_same to v w x sure reads does from apart));
  },
  ap (λ (p : Part). p.pending) (part_synced y.now to synced.ok),
)

pub cut_holds : {v : View} {ds ps : List Numbered} (log : Tail) (point at : ℕ) (to : Area) (w : View) (h : Holds v log ds ps) (k : IsHolding log.base point h.frames at) → to ≡ other_log log.area → IsCopied log.area at to (log.gate - log.base - at + 1) v w × ((w.now to).pending ≡ [])
    → (s : IsSplit log.base point ds) × (log.base + at ≡ gate_of s) × Holds w (record log { area = to; base = log.base + at }) (kept_of s) ps
cut_holds {v = v} {ds = ds} {ps = ps} log point at to w h k is copied =
    let s = split_by log.base point h.frames ds at h.all k in (
      s,
      gate_is log.base point at h.frames ds h.all k,
      subst (λ (a : Area). Holds w (record log { area = a; base = log.base + at }) (kept_of s) ps) (sym is)
          (holds_cut point at w h k (subst (λ (a : Area). IsCopied log.area at a (log.gate - log.base - at + 1) v w) is copied.0) (subst (λ (a : Area). (w.now a).pending ≡ []) is copied.1)),
    )

pub whole_holds : {v : View} {ds ps : List Numbered} (log : Tail) (point at : ℕ) (w : View) (h : Holds v log ds ps) (k : IsHolding log.base point h.frames at) → at ≡ 0 → w.now ≡ v.now → (s : IsSplit log.base point ds) × (log.base ≡ gate_of s) × Holds w log (kept_of s) ps
whole_holds {ds = ds} log point at w h k none same = let r = holds_whole point at w h k none same in (split_by log.base point h.frames ds at h.all k, r.0, r.1)
