-- The records that a log holds are those that are read from its bytes.
use Rattle.std.proofs.Common.{◌≡◌, ℕ, zero, suc, ◌+◌, ◌<◌, ◌≤◌, ◌==◌, ◌^◌, true, false, List, [], ◌∷◌, ◌++◌, length, drop, refl, sym, ap, ◌∙◌, subst, arith, length-append}
use Rattle.std.proofs.Math.Seq.{drop-append_seam}
use Rattle.std.proofs.lemmas.Bool.Decides.{nat_tests}
use Rattle.byteorder.specs.Endian.{little_bytes, little_number}
use Rattle.byteorder.specs.Numbers.{little_number-reads_back}
use Rattle.sg_disk.specs.Disk.{Bytes, View, window}
use Rattle.sg_record.specs.Records.{Record, spelled}
use Rattle.sg_record.specs.Reading.{Parsed}
use Rattle.sg_record.proofs.Parsing.{parse_back}
use Rattle.sg_log.specs.Texts.{spelled_all, AreRecords}
use Rattle.sg_log.specs.Frames.{Numbered, text_of, numbered_from, numbered_in, Frames, gate_after}
use Rattle.sg_log.specs.Held.{Tail, Holds}
use Rattle.sg_log.proofs.Texts.{spelled-long}
use Rattle.sg_log.proofs.Holding.{text-length}
use Rattle.sg_log.proofs.Windows.{window-length, window-add}
use Rattle.sg_phys_laws.specs.Reading.{read_with, records_read, frames_read, durable_in, waiting_in}

some_text : (xs : List ℕ) → 1 ≤ length xs → (length xs == 0) ≡ false
some_text xs h = grind (arith, nat_tests, h)

pub records_are : (most lsn : ℕ) (rs : List Record) → AreRecords rs → length rs ≤ most → records_read most (spelled_all rs) lsn ≡ numbered_from lsn rs
unfolding records_read
records_are zero lsn [] fields few = refl
records_are (suc n) lsn [] fields few = refl
records_are zero lsn (r ∷ rs) fields few = absurd (omega arith)
records_are (suc n) lsn (r ∷ rs) fields few =
    let long = spelled-long r in
    let all : length (spelled_all (r ∷ rs)) ≡ length (spelled r) + length (spelled_all rs) = length-append (spelled r) (spelled_all rs) in
    let some : (length (spelled_all (r ∷ rs)) == 0) ≡ false = some_text (spelled_all (r ∷ rs)) (omega arith) in
    let rest : drop (length (spelled r)) (spelled r ++ spelled_all rs) ≡ spelled_all rs = drop-append_seam (spelled r) (spelled_all rs) in
    rw some
    (ap (λ (p : Parsed). read_with (λ (text : List ℕ) (next : ℕ). records_read n text next) lsn (spelled_all (r ∷ rs)) p) (parse_back r (spelled_all rs) fields.0)
    ∙ (ap (λ (text : List ℕ). record { lsn = lsn; is = r } ∷ records_read n text (lsn + length (spelled r))) rest
    ∙ ap (λ (l : List Numbered). record { lsn = lsn; is = r } ∷ l) (records_are n (lsn + length (spelled r)) rs fields.1 (omega arith))))

few_records : (rs : List Record) → length rs ≤ length (spelled_all rs)
few_records [] = omega arith
few_records (r ∷ rs) =
    let long = spelled-long r in
    let all : length (spelled_all (r ∷ rs)) ≡ length (spelled r) + length (spelled_all rs) = length-append (spelled r) (spelled_all rs) in
    let more = few_records rs in
    omega arith

length-text_of : (rs : List Record) → length (text_of (spelled_all rs)) ≡ 4 + length (spelled_all rs)
length-text_of rs = text-length (spelled_all rs) ∙ omega arith

four_back : (n : ℕ) (rest : List ℕ) → n < 256 ^ 4 → little_number 4 (little_bytes 4 n) ≡ n
four_back n rest small = little_number-reads_back 4 n [] small

-- two texts of the same lengths in front are the same in front
fronts : (a b c d : List ℕ) → length a ≡ length c → a ++ b ≡ c ++ d → (a ≡ c) × (b ≡ d)
fronts [] b [] d long same = (refl, same)
fronts [] b (y ∷ c) d long same = absurd (omega arith)
fronts (x ∷ a) b [] d long same = absurd (omega arith)
fronts (x ∷ a) b (y ∷ c) d long same =
    let heads : x ≡ y = cc in
    let tails : a ++ b ≡ c ++ d = cc in
    let rest = fronts a b c d (omega arith) tails in
    (ap (λ (l : List ℕ). x ∷ l) rest.0 ∙ ap (λ (z : ℕ). z ∷ c) heads, rest.1)

-- what stands behind an open gate: the length and the body
frame_parts : (f : Bytes) (at : ℕ) (rs : List Record) → window f (at + 1) (length (text_of (spelled_all rs))) ≡ text_of (spelled_all rs)
    → (window f (at + 1) 4 ≡ little_bytes 4 (length (spelled_all rs))) × (window f (at + 1 + 4) (length (spelled_all rs)) ≡ spelled_all rs)
frame_parts f at rs text =
    let n : ℕ = length (spelled_all rs) in
    let split : window f (at + 1) (4 + n) ≡ window f (at + 1) 4 ++ window f (at + 1 + 4) n = window-add f (at + 1) 4 n in
    let whole : window f (at + 1) (4 + n) ≡ text_of (spelled_all rs) = ap (window f (at + 1)) (sym (length-text_of rs)) ∙ text in
    let long : length (window f (at + 1) 4) ≡ length (little_bytes 4 n) = window-length f (at + 1) 4 in
    fronts (window f (at + 1) 4) (window f (at + 1 + 4) n) (little_bytes 4 n) (spelled_all rs) long (sym split ∙ whole)

open_gate : (x : ℕ) → x ≡ 1 → (x == 1) ≡ true
open_gate x e = grind (arith, nat_tests, e)

closed_gate : (x : ℕ) → (x ≡ 1 → ⊥) → (x == 1) ≡ false
closed_gate x e = grind (arith, nat_tests, e)

abbrev both_read : (ℕ → List Numbered) → (f : Bytes) → (base at size : ℕ) → List Numbered
both_read more f base at size = records_read size (window f (at + 5) size) (base + at + 5) ++ more (at + 5 + size)

pub frames_are : (most base at : ℕ) (f : Bytes) (frames : List (List Record)) → Frames f at frames → length frames ≤ most → frames_read most f base at ≡ numbered_in (base + at) frames
unfolding frames_read
frames_are zero base at f [] stand few = refl
frames_are zero base at f (rs ∷ frames) stand few = absurd (omega arith)
frames_are (suc n) base at f [] stand few = let shut = closed_gate (f at) stand in rw shut refl
frames_are (suc n) base at f (rs ∷ frames) stand few =
    let gate = open_gate (f at) stand.0 in
    let size : ℕ = length (spelled_all rs) in
    let parts = frame_parts f at rs stand.2 in
    let most = stand.1.most in
    let is_size : little_number 4 (window f (at + 1) 4) ≡ size = ap (little_number 4) parts.0 ∙ four_back size [] (omega arith) in
    let here : at + 1 + 4 ≡ at + 5 = omega arith in
    let body : window f (at + 5) size ≡ spelled_all rs = ap (λ (a : ℕ). window f a size) (sym here) ∙ parts.1 in
    let next : at + 5 + size ≡ at + 1 + length (text_of (spelled_all rs)) = (let l = length-text_of rs in omega arith) in
    let first : base + at + 5 ≡ (base + at) + 5 = omega arith in
    let behind : base + (at + 5 + size) ≡ (base + at) + 1 + length (text_of (spelled_all rs)) = (let l = length-text_of rs in omega arith) in
    rw gate
    (ap (both_read (λ a. frames_read n f base a) f base at) is_size
    ∙ (ap (λ (text : List ℕ). records_read size text (base + at + 5) ++ frames_read n f base (at + 5 + size)) body
    ∙ (ap (λ (l : List Numbered). l ++ frames_read n f base (at + 5 + size)) (records_are size (base + at + 5) rs stand.1.fields (few_records rs) ∙ ap (λ (m : ℕ). numbered_from m rs) first)
    ∙ ap (λ (l : List Numbered). numbered_from ((base + at) + 5) rs ++ l)
    (frames_are n base (at + 5 + size) f frames (subst (λ (a : ℕ). Frames f a frames) (sym next) stand.3) (omega arith) ∙ ap (λ (m : ℕ). numbered_in m frames) behind))))

pub few_frames : (at : ℕ) (frames : List (List Record)) → at + length frames ≤ gate_after at frames
few_frames at [] = omega arith
few_frames at (rs ∷ frames) = let more = few_frames (at + 1 + length (text_of (spelled_all rs))) frames in omega arith

-- THE RECORDS THAT A LOG HOLDS are those that its bytes read as
pub held_are : (v : View) (log : Tail) (ds ps : List Numbered) → Holds v log ds ps → (durable_in v log ≡ ds) × (waiting_in log ≡ ps)
unfolding durable_in waiting_in
held_are v log ds ps h =
    let few = few_frames 0 h.frames in
    let gate = h.at_gate in
    let base : log.base + 0 ≡ log.base = omega arith in (
      frames_are log.gate log.base 0 (v.now log.area).seen h.frames h.stand (omega arith) ∙ (ap (λ (m : ℕ). numbered_in m h.frames) base ∙ h.all),
      ap (λ (text : List ℕ). records_read (length text) text (log.gate + 5)) h.waiting ∙ (records_are (length (spelled_all h.body)) (log.gate + 5) h.body h.fields (few_records h.body) ∙ h.numbers),
    )
