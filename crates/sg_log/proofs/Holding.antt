-- What a log holds, before and after its calls.
use Rattle.std.proofs.Common.{add-zero, ◌≡◌, ◌⊎◌, inl, inr, ⊎_elim, ℕ, ◌+◌, ◌-◌, ◌<◌, ◌≤◌, Bool, true, false, if◌then◌else◌, List, [], ◌∷◌, ◌++◌, Result, length, take, drop, refl, sym, ◌∙◌, ap, subst, arith, length-append, length-take, length-drop, append_assoc, append-nil}
use Rattle.std.proofs.lemmas.List.{length-take-le, drop-append-le, drop-take}
use Rattle.std.proofs.Math.Seq.{take-append-add, take-append_seam}
use Rattle.std.proofs.lemmas.Bool.Decides.{nat_tests}
use Rattle.sg_base.specs.declared.area.Area.{Area}
use Rattle.sg_disk.specs.Disk.{Bytes, Image, State, Leaves, View, LeavesOnly, ReadBytes}
use Rattle.sg_disk.proofs.Moments.{started, goes_on}
use Rattle.sg_record.specs.Records.{header}
use Rattle.sg_record.specs.Records.{Record, spelled, HEADER, kind_of, body_of, code_of}
use Rattle.sg_log.specs.Texts.{spelled_all, AreRecords}
use Rattle.sg_record.specs.Ranges.{GREATEST, IsRecord}
use borrow.Rule.Slice.PartMut.{put_mid}
use Rattle.sg_log.proofs.Laid.{placed}
use Rattle.sg_record.proofs.Parsing.{body_most}
use Rattle.sg_log.proofs.Texts.{spelled-long}
use Rattle.sg_log.specs.Frames.{GREATEST_BODY, LOG_END, Numbered, numbered_from, numbered_in, gate_after, text_of, IsFrame, Frames, IsAtRest, IsWithOrWithout, HasRecords}
use Rattle.sg_log.specs.Held.{Tail, Holds, tail_of, has_room, place_of, end_of, numbered, forced, buffered, durable_after, waiting_after, IsBeforeOrAfter}
use Rattle.sg_log.proofs.Steps.{frame_text, gate_more, rest_image}

-- a record has at most these bytes
pub spelled_most : (r : Record) → IsRecord r → length (spelled r) ≤ GREATEST
unfolding spelled
spelled_most r h = let size = length-append (header (code_of (kind_of r.says)) (HEADER + length (body_of r.says)) r.transaction r.previous) (body_of r.says) in omega (arith, body_most r h)

pub numbered_in-more : (gate : ℕ) (frames : List (List Record)) (rs : List Record) → numbered_in gate (frames ++ rs ∷ []) ≡ numbered_in gate frames ++ numbered_from (gate_after gate frames + 5) rs
numbered_in-more gate [] rs = append-nil (numbered_from (gate + 5) rs)
numbered_in-more gate (r ∷ frames) rs =
    let next : ℕ = gate + 1 + length (text_of (spelled_all r)) in
    ap (λ (xs : List Numbered). numbered_from (gate + 5) r ++ xs) (numbered_in-more next frames rs) ∙ sym (append_assoc (numbered_from (gate + 5) r) (numbered_in next frames) (numbered_from (gate_after next frames + 5) rs))

pub numbered_from-append : (lsn : ℕ) (rs ss : List Record) → numbered_from lsn (rs ++ ss) ≡ numbered_from lsn rs ++ numbered_from (lsn + length (spelled_all rs)) ss
numbered_from-append lsn [] ss = ap (λ (n : ℕ). numbered_from n ss) (sym (add-zero lsn))
numbered_from-append lsn (r ∷ rs) ss =
    let there : lsn + length (spelled r) + length (spelled_all rs) ≡ lsn + length (spelled r ++ spelled_all rs) = omega (arith, length-append (spelled r) (spelled_all rs)) in
    ap (λ (xs : List Numbered). record { lsn = lsn; is = r } ∷ xs)
    (numbered_from-append (lsn + length (spelled r)) rs ss ∙ ap (λ (n : ℕ). numbered_from (lsn + length (spelled r)) rs ++ numbered_from n ss) there)

-- the gate behind frames, counted from another number
pub gate_moved : (base at : ℕ) (frames : List (List Record)) → gate_after (base + at) frames ≡ base + gate_after at frames
gate_moved base at [] = refl
gate_moved base at (rs ∷ frames) =
    let next : base + at + 1 + length (text_of (spelled_all rs)) ≡ base + (at + 1 + length (text_of (spelled_all rs))) = omega arith in
    ap (λ (n : ℕ). gate_after n frames) next ∙ gate_moved base (at + 1 + length (text_of (spelled_all rs))) frames

pub spelled_all-more : (ps : List Record) (r : Record) → spelled_all (ps ++ r ∷ []) ≡ spelled_all ps ++ spelled r
spelled_all-more [] r = append-nil (spelled r)
spelled_all-more (p ∷ ps) r = ap (λ (xs : List ℕ). spelled p ++ xs) (spelled_all-more ps r) ∙ sym (append_assoc (spelled p) (spelled_all ps) (spelled r))

pub AreRecords-more : (ps : List Record) (r : Record) → AreRecords ps → IsRecord r → AreRecords (ps ++ r ∷ [])
AreRecords-more [] r h k = (k, tt)
AreRecords-more (p ∷ ps) r h k = (h.0, AreRecords-more ps r h.1 k)

-- where no bytes wait, no record does
pub none_waiting : (ps : List Record) → length (spelled_all ps) ≡ 0 → ps ≡ []
none_waiting [] none = refl
none_waiting (p ∷ ps) none = absurd (omega (arith, length-append (spelled p) (spelled_all ps), spelled-long p))

pub text-length : (body : List ℕ) → length (text_of body) ≡ length body + 4
text-length body = omega arith

pub tail_at_gate : (log : Tail) → log.gate ≤ tail_of log
tail_at_gate log = grind (arith, nat_tests)

pub tail_behind : (log : Tail) → 0 < length log.buffer → tail_of log ≡ log.gate + 5 + length log.buffer
tail_behind log some = grind (arith, nat_tests)

-- where a log holds records, each image that a crash may leave has its durable ones
pub holds_image : {v : View} {log : Tail} {ds ps : List Numbered} → Holds v log ds ps → (c : Image) → Leaves v.now c → HasRecords (c log.area) log.base log.gate ds
holds_image {v = v} {log = log} h c leaves = record {
  frames = h.frames;
  stand = rest_image v.now log.area h.frames c h.stand h.settled leaves;
  all = h.all;
  at_gate = h.at_gate;
  within = omega (arith, h.within, tail_at_gate log);
}

-- and so has what reads give
pub holds_seen : {v : View} {log : Tail} {ds ps : List Numbered} → Holds v log ds ps → HasRecords (v.now log.area).seen log.base log.gate ds
holds_seen {v = v} {log = log} h = record { frames = h.frames; stand = h.stand; all = h.all; at_gate = h.at_gate; within = omega (arith, h.within, tail_at_gate log) }

-- a disk in the same state
pub holds_along : {v w : View} {log : Tail} {ds ps : List Numbered} → w.now ≡ v.now → Holds v log ds ps → Holds w log ds ps
holds_along {v = v} {w = w} {log = log} same h = record {
  frames = h.frames;
  stand = subst (λ (s : State). Frames (s log.area).seen 0 h.frames) (sym same) h.stand;
  all = h.all;
  settled = subst (λ (s : State). (s log.area).pending ≡ []) (sym same) h.settled;
  at_gate = h.at_gate;
  body = h.body;
  waiting = h.waiting;
  fields = h.fields;
  numbers = h.numbers;
  within = h.within;
}

-- before any call, a crash leaves the durable records
pub image_now : {v : View} {log : Tail} {ds ps : List Numbered} → Holds v log ds ps → (c : Image) → Leaves v.now c → IsBeforeOrAfter v.now log ds ps c
image_now h c leaves = record { held = inl (holds_image h c leaves); others = λ b other. leaves b }

pub no_call_moments : {v : View} {log : Tail} {ds ps : List Numbered} → Holds v log ds ps → LeavesOnly v v (IsBeforeOrAfter v.now log ds ps)
no_call_moments {v = v} {log = log} {ds = ds} {ps = ps} h = started v (IsBeforeOrAfter v.now log ds ps) (image_now h)

-- an empty log
pub empty_holds : (v : View) (area : Area) (base : ℕ) → base ≤ LOG_END → (v.now area).pending ≡ [] → ((v.now area).seen 0 ≡ 1 → ⊥) → Holds v (record { area = area; base = base; gate = base; buffer = [] }) [] []
empty_holds v area base within settled shut = record {
  frames = [];
  stand = shut;
  all = refl;
  settled = settled;
  at_gate = omega arith;
  body = [];
  waiting = refl;
  fields = tt;
  numbers = refl;
  within = within;
}

-- the waiting records are a frame
pub waiting_frame : {v : View} {log : Tail} {ds ps : List Numbered} (h : Holds v log ds ps) → 0 < length log.buffer → length log.buffer ≤ GREATEST_BODY → IsFrame h.body
waiting_frame {log = log} h some most = record {
  some = λ none. let e : length log.buffer ≡ 0 = ap length (h.waiting ∙ ap spelled_all none) in absurd (omega arith);
  most = omega (arith, ap length h.waiting);
  fields = h.fields;
}

-- the area as its next frame finds it
pub waiting_rest : {v : View} {log : Tail} {ds ps : List Numbered} (h : Holds v log ds ps) → IsAtRest v.now log.area (log.gate - log.base) h.frames
waiting_rest {log = log} h = record { stand = h.stand; at_gate = omega (arith, h.at_gate); settled = h.settled }

-- the records of all frames, once the waiting ones are one
pub forced_all : {v : View} {log : Tail} {ds ps : List Numbered} (h : Holds v log ds ps) → numbered_in log.base (h.frames ++ h.body ∷ []) ≡ ds ++ ps
forced_all {log = log} {ds = ds} {ps = ps} h =
    let gate : gate_after log.base h.frames ≡ log.gate = ap (λ (n : ℕ). gate_after n h.frames) (sym (add-zero log.base)) ∙ gate_moved log.base 0 h.frames ∙ sym h.at_gate in
    let numbers : numbered_from (gate_after log.base h.frames + 5) h.body ≡ ps = ap (λ (n : ℕ). numbered_from (n + 5) h.body) gate ∙ h.numbers in
    numbered_in-more log.base h.frames h.body ∙ ap (λ (xs : List Numbered). xs ++ numbered_from (gate_after log.base h.frames + 5) h.body) h.all ∙ ap (λ (xs : List Numbered). ds ++ xs) numbers

-- a moment of a force
pub force_moment : {v : View} {log : Tail} {ds ps : List Numbered} (h : Holds v log ds ps) → 0 < length log.buffer → (c : Image) → IsWithOrWithout v.now log.area h.frames h.body c → IsBeforeOrAfter v.now log ds ps c
force_moment {log = log} {ds = ds} {ps = ps} h some c m = record {
  held = ⊎_elim
      (λ without. inl (record { frames = h.frames; stand = without; all = h.all; at_gate = h.at_gate; within = omega (arith, h.within, tail_at_gate log) }))
      (λ with. inr (record {
        frames = h.frames ++ h.body ∷ [];
        stand = with;
        all = forced_all h;
        at_gate = omega (arith, gate_more 0 h.frames h.body, h.at_gate, tail_behind log some, ap length h.waiting, text-length (spelled_all h.body));
        within = h.within;
      }))
      m.log;
  others = m.others;
}

-- after a force that wrote this text
pub force_done : {v : View} {log : Tail} {ds ps : List Numbered} (h : Holds v log ds ps) → 0 < length log.buffer → (w : View) (text : List ℕ) (gate : ℕ) → text ≡ frame_text h.body ++ 0 ∷ [] → gate ≡ log.gate + 5 + length log.buffer → IsAtRest w.now log.area (log.gate - log.base + length text) (h.frames ++ h.body ∷ [])
    → Holds w (record { area = log.area; base = log.base; gate = gate; buffer = [] }) (ds ++ ps) []
force_done {log = log} {ds = ds} {ps = ps} h some w text gate is next rest = record {
  frames = h.frames ++ h.body ∷ [];
  stand = rest.stand;
  all = forced_all h;
  settled = rest.settled;
  at_gate = omega (arith, rest.at_gate, h.at_gate, ap length is, ap length h.waiting, length-append (frame_text h.body) (0 ∷ []), text-length (spelled_all h.body));
  body = [];
  waiting = refl;
  fields = tt;
  numbers = refl;
  within = omega (arith, h.within, tail_behind log some);
}

-- the buffer, among the bytes of a log
pub buffer_size : (used : ℕ) (items : List ℕ) → used ≤ GREATEST_BODY → length items ≡ 65541 → length (take used (drop 4 items)) ≡ used
buffer_size used items short full = length-take-le used (drop 4 items) (omega (arith, length-drop 4 items))

pub buffer_none : (used : ℕ) (items : List ℕ) → used ≡ 0 → length (take used (drop 4 items)) ≡ 0
buffer_none used items none = omega (arith, length-take used (drop 4 items))

-- what is written for a frame
pub force_text : (used : ℕ) (items got sealed whole : List ℕ) (ps : List Record) → take (4 + used + 1) sealed ≡ text_of (take used (drop 4 got)) ++ 0 ∷ [] → got ≡ items → whole ≡ sealed → take used (drop 4 items) ≡ spelled_all ps
    → take (used + 5) whole ≡ frame_text ps ++ 0 ∷ []
force_text used items got sealed whole ps text same is waiting =
    let n : used + 5 ≡ 4 + used + 1 = omega arith in
    ap (take (used + 5)) is ∙ ap (λ (k : ℕ). take k sealed) n ∙ text ∙ ap (λ (xs : List ℕ). text_of (take used (drop 4 xs)) ++ 0 ∷ []) same ∙ ap (λ (xs : List ℕ). text_of xs ++ 0 ∷ []) waiting

-- a force that finds no record
pub force_nothing : {v : View} {log : Tail} {ds ps : List Numbered} → Holds v log ds ps → length log.buffer ≡ 0 → Holds v log (ds ++ ps) []
force_nothing {log = log} {ds = ds} {ps = ps} h none =
    let empty : h.body ≡ [] = none_waiting h.body (sym (ap length h.waiting) ∙ none) in
    let no_number : ps ≡ [] = sym h.numbers ∙ ap (numbered_from (log.gate + 5)) empty in
    record {
      frames = h.frames;
      stand = h.stand;
      all = h.all ∙ sym (append-nil ds) ∙ ap (λ (xs : List Numbered). ds ++ xs) (sym no_number);
      settled = h.settled;
      at_gate = h.at_gate;
      body = [];
      waiting = h.waiting ∙ ap spelled_all empty;
      fields = tt;
      numbers = refl;
      within = h.within;
    }

-- a record more in the buffer
pub buffer_holds : {v : View} {log : Tail} {ds ps : List Numbered} (r : Record) (lsn : ℕ) → Holds v log ds ps → IsRecord r → log.gate + 5 + length log.buffer + length (spelled r) ≤ LOG_END → lsn ≡ log.gate + 5 + length log.buffer
    → Holds v (buffered log r) ds (ps ++ record { lsn = lsn; is = r } ∷ [])
buffer_holds {log = log} {ps = ps} r lsn h good within place = record {
  frames = h.frames;
  stand = h.stand;
  all = h.all;
  settled = h.settled;
  at_gate = h.at_gate;
  body = h.body ++ r ∷ [];
  waiting = ap (λ (xs : List ℕ). xs ++ spelled r) h.waiting ∙ sym (spelled_all-more h.body r);
  fields = AreRecords-more h.body r h.fields good;
  numbers =
      let there : log.gate + 5 + length (spelled_all h.body) ≡ lsn = omega (arith, ap length h.waiting) in
      numbered_from-append (log.gate + 5) h.body (r ∷ [])
      ∙ ap (λ (xs : List Numbered). xs ++ record { lsn = log.gate + 5 + length (spelled_all h.body); is = r } ∷ []) h.numbers
      ∙ ap (λ (n : ℕ). ps ++ record { lsn = n; is = r } ∷ []) there;
  within = let some : 0 < length (log.buffer ++ spelled r) = omega (arith, length-append log.buffer (spelled r), spelled-long r) in
      omega (arith, tail_behind (buffered log r) some, length-append log.buffer (spelled r));
}

-- a forced log's buffer is empty
pub forced_empty : (log : Tail) → length (forced log).buffer ≡ 0
forced_empty log = grind (arith, nat_tests)

forced_next : (log : Tail) → 0 < length log.buffer → (forced log).gate ≡ log.gate + 5 + length log.buffer
forced_next log some = grind (arith, nat_tests)

-- what doesn't fit finds a buffer that isn't empty
pub no_room : (log : Tail) (r : Record) → IsRecord r → has_room log r ≡ false → 0 < length log.buffer
no_room log r good none = let most = spelled_most r good in grind (arith, nat_tests)

-- where a record goes once the buffer is forced
pub place_forced : (log : Tail) (r : Record) → IsRecord r → has_room log r ≡ false → (forced log).gate + 5 + length (forced log).buffer ≡ place_of log r
place_forced log r good none = by_room (has_room log r) none where
  by_room : (b : Bool) → b ≡ false → (forced log).gate + 5 + length (forced log).buffer ≡ (if b then log.gate + 5 + length log.buffer else log.gate + 5 + length log.buffer + 5)
  by_room true is = absurd (cc)
  by_room false is = omega (arith, forced_empty log, forced_next log (no_room log r good none))

pub tail_buffered : (log : Tail) (r : Record) → tail_of (buffered log r) ≡ log.gate + 5 + length log.buffer + length (spelled r)
tail_buffered log r =
    let size = length-append log.buffer (spelled r) in
    let some : 0 < length (log.buffer ++ spelled r) = omega (arith, size, spelled-long r) in
    omega (arith, tail_behind (buffered log r) some, size)

-- an append's last byte is the log's
pub tail_room : (log : Tail) (r : Record) → has_room log r ≡ true → tail_of (buffered log r) ≡ end_of log r
tail_room log r is = subst (λ (b : Bool). tail_of (buffered log r) ≡ (if b then log.gate + 5 + length log.buffer else log.gate + 5 + length log.buffer + 5) + length (spelled r)) (sym is) (tail_buffered log r)

pub tail_no_room : (log : Tail) (r : Record) → IsRecord r → has_room log r ≡ false → tail_of (buffered (forced log) r) ≡ end_of log r
tail_no_room log r good is = omega (arith, tail_buffered (forced log) r, place_forced log r good is)

-- where a record goes that has room
pub place_room : (log : Tail) (r : Record) → has_room log r ≡ true → place_of log r ≡ log.gate + 5 + length log.buffer
place_room log r is = ap (λ (b : Bool). if b then log.gate + 5 + length log.buffer else log.gate + 5 + length log.buffer + 5) is

-- what is held after an append
pub holds_room : {v : View} {log : Tail} {ds ps : List Numbered} (r : Record) → Holds v log ds ps → IsRecord r → has_room log r ≡ true → end_of log r ≤ LOG_END → Holds v (buffered log r) (durable_after log r ds ps) (waiting_after log r ps)
holds_room {v = v} {log = log} {ds = ds} {ps = ps} r h good is within =
    let there : log.gate + 5 + length log.buffer + length (spelled r) ≤ LOG_END = omega (arith, tail_room log r is, tail_buffered log r) in
    subst (λ (b : Bool). Holds v (buffered log r) (if b then ds else ds ++ ps) (if b then ps ++ numbered log r ∷ [] else numbered log r ∷ [])) (sym is) (buffer_holds r (place_of log r) h good there (place_room log r is))

pub holds_no_room : (v : View) (log : Tail) (ds ps : List Numbered) (r : Record) → Holds v (forced log) (ds ++ ps) [] → IsRecord r → has_room log r ≡ false → end_of log r ≤ LOG_END → Holds v (buffered (forced log) r) (durable_after log r ds ps) (waiting_after log r ps)
holds_no_room v log ds ps r h good is within =
    let there : (forced log).gate + 5 + length (forced log).buffer + length (spelled r) ≤ LOG_END = omega (arith, place_forced log r good is) in
    subst (λ (b : Bool). Holds v (buffered (forced log) r) (if b then ds else ds ++ ps) (if b then ps ++ numbered log r ∷ [] else numbered log r ∷ [])) (sym is)
    (buffer_holds {log = forced log} {ds = ds ++ ps} {ps = []} r (place_of log r) h good there (sym (place_forced log r good is)))

-- a record written behind a buffer
module _ (used : ℕ) (s ys text : List ℕ) (fits : 4 + used + length text ≤ length s) (e : ys ≡ text ++ drop (length text) (take (length s - (4 + used)) (drop (4 + used) s))) where
  rest : List ℕ
  rest = drop (4 + used + length text) s

  pub size_stays : length (put_mid (4 + used) (length s - (4 + used)) s ys) ≡ length s
  unfolding rest
  size_stays =
      ap length (placed (4 + used) s ys text fits e)
      ∙ omega (arith, length-append (take (4 + used) s) (text ++ rest), length-append text rest, length-take-le (4 + used) s (omega arith), length-drop (4 + used + length text) s)

  pub buffer_grows : take (used + length text) (drop 4 (put_mid (4 + used) (length s - (4 + used)) s ys)) ≡ take used (drop 4 s) ++ text
  unfolding rest
  buffer_grows =
      let long : 4 ≤ length (take (4 + used) s) = omega (arith, length-take-le (4 + used) s (omega arith)) in
      let short : length (take used (drop 4 s)) ≡ used = length-take-le used (drop 4 s) (omega (arith, length-drop 4 s)) in
      let front : drop 4 (put_mid (4 + used) (length s - (4 + used)) s ys) ≡ take used (drop 4 s) ++ (text ++ rest) =
      ap (drop 4) (placed (4 + used) s ys text fits e) ∙ drop-append-le 4 (take (4 + used) s) (text ++ rest) long ∙ ap (λ (xs : List ℕ). xs ++ (text ++ rest)) (drop-take 4 used s) in
      ap (take (used + length text)) front
      ∙ ap (λ (n : ℕ). take (n + length text) (take used (drop 4 s) ++ (text ++ rest))) (sym short)
      ∙ take-append-add (take used (drop 4 s)) (text ++ rest) (length text)
      ∙ ap (λ (xs : List ℕ). take used (drop 4 s) ++ xs) (take-append_seam text rest)

-- an append loses nothing, and adds its record, in either case
pub all_appended : (log : Tail) (r : Record) (ds ps : List Numbered) → durable_after log r ds ps ++ waiting_after log r ps ≡ (ds ++ ps) ++ numbered log r ∷ []
all_appended log r ds ps = by_room (has_room log r) where
  by_room : (b : Bool) → (if b then ds else ds ++ ps) ++ (if b then ps ++ numbered log r ∷ [] else numbered log r ∷ []) ≡ (ds ++ ps) ++ numbered log r ∷ []
  by_room true = sym (append_assoc ds ps (numbered log r ∷ []))
  by_room false = refl

-- it makes durable what waited, or nothing
pub durable_either : (log : Tail) (r : Record) (ds ps : List Numbered) → (durable_after log r ds ps ≡ ds) ⊎ (durable_after log r ds ps ≡ ds ++ ps)
durable_either log r ds ps = by_room (has_room log r) where
  by_room : (b : Bool) → ((if b then ds else ds ++ ps) ≡ ds) ⊎ ((if b then ds else ds ++ ps) ≡ ds ++ ps)
  by_room true = inl refl
  by_room false = inr refl

-- a read changes no image
pub moments_read : {T E : Type 0} {v w : View} {r : Result T E} → ReadBytes v w r → LeavesOnly v w (Leaves v.now)
moments_read {v = v} read = goes_on (started v (Leaves v.now) (λ c leaves. leaves)) read (λ c leaves. leaves)

-- an area whose first gate is closed holds no records
pub no_records : (f : Bytes) (base : ℕ) → base ≤ LOG_END → (f 0 ≡ 1 → ⊥) → HasRecords f base base []
no_records f base within shut = record { frames = []; stand = shut; all = refl; at_gate = omega arith; within = within }

-- a force moves no number
pub tail_forced : (log : Tail) → tail_of (forced log) ≡ tail_of log
tail_forced log = grind (arith, nat_tests)

-- an append ends near the tail before it
pub end_near : (log : Tail) (r : Record) → IsRecord r → end_of log r ≤ tail_of log + 10 + GREATEST
end_near log r good = let most = spelled_most r good in grind (arith, nat_tests)

pub tail_empty : (log : Tail) → length log.buffer ≡ 0 → tail_of log ≡ log.gate
tail_empty log none = grind (arith, nat_tests)
