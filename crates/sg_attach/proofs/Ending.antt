-- Where a log ends is a function of its bytes.
use Rattle.std.proofs.Common.{◌≡◌, ℕ, zero, suc, ◌+◌, ◌<◌, ◌≤◌, ◌==◌, ◌^◌, true, false, List, [], ◌∷◌, ◌++◌, length, refl, sym, ap, ◌∙◌, subst, arith}
use Rattle.std.proofs.lemmas.Bool.Decides.{nat_tests}
use Rattle.byteorder.specs.Endian.{little_bytes, little_number}
use Rattle.byteorder.specs.Numbers.{little_number-reads_back}
use Rattle.sg_disk.specs.Accounts.{IsShownEnd}
use Rattle.sg_disk.specs.Disk.{Bytes, Image, View, window}
use Rattle.sg_analysis.specs.Shown.{IsAnalysed}
use Rattle.sg_analysis.specs.declared.analysis.Analysis as code
use Rattle.sg_find.specs.Synced.{log_area, reads}
use Rattle.sg_gate.specs.declared.superblock.Super.{Super}
use Rattle.sg_open.specs.Refusals.{IsAccepted}
use Rattle.sg_ops.specs.Table.{Table}
use Rattle.sg_record.specs.Records.{Record}
use Rattle.sg_log.specs.Texts.{spelled_all}
use Rattle.sg_log.specs.Frames.{Numbered, LOG_END, HasRecords, text_of, Frames, gate_after}
use Rattle.sg_log.proofs.Holding.{text-length}
use Rattle.sg_log.proofs.Windows.{window-length, window-add}
use Rattle.sg_attach.specs.Ended.{end_in, frames_end}
use Rattle.sg_attach.proofs.Analysed.{accepted_super}

long_text : (rs : List Record) → length (text_of (spelled_all rs)) ≡ 4 + length (spelled_all rs)
long_text rs = text-length (spelled_all rs) ∙ omega arith

number_back : (n : ℕ) (rest : List ℕ) → n < 256 ^ 4 → little_number 4 (little_bytes 4 n) ≡ n
number_back n rest small = little_number-reads_back 4 n [] small

-- texts with fronts of the same length are the same in front
same_front : (a b c d : List ℕ) → length a ≡ length c → a ++ b ≡ c ++ d → a ≡ c
same_front [] b [] d long same = refl
same_front [] b (y ∷ c) d long same = absurd (omega arith)
same_front (x ∷ a) b [] d long same = absurd (omega arith)
same_front (x ∷ a) b (y ∷ c) d long same =
    let heads : x ≡ y = cc in
    let tails : a ++ b ≡ c ++ d = cc in
    ap (λ (l : List ℕ). x ∷ l) (same_front a b c d (omega arith) tails) ∙ ap (λ (z : ℕ). z ∷ c) heads

-- behind an open gate stands the length of the frame
frame_size : (f : Bytes) (at : ℕ) (rs : List Record) → window f (at + 1) (length (text_of (spelled_all rs))) ≡ text_of (spelled_all rs) → window f (at + 1) 4 ≡ little_bytes 4 (length (spelled_all rs))
frame_size f at rs text =
    let n : ℕ = length (spelled_all rs) in
    let split : window f (at + 1) (4 + n) ≡ window f (at + 1) 4 ++ window f (at + 1 + 4) n = window-add f (at + 1) 4 n in
    let whole : window f (at + 1) (4 + n) ≡ text_of (spelled_all rs) = ap (window f (at + 1)) (sym (long_text rs)) ∙ text in
    let long : length (window f (at + 1) 4) ≡ length (little_bytes 4 n) = window-length f (at + 1) 4 in
    same_front (window f (at + 1) 4) (window f (at + 1 + 4) n) (little_bytes 4 n) (spelled_all rs) long (sym split ∙ whole)

open_gate : (x : ℕ) → x ≡ 1 → (x == 1) ≡ true
open_gate x e = grind (arith, nat_tests, e)

closed_gate : (x : ℕ) → (x ≡ 1 → ⊥) → (x == 1) ≡ false
closed_gate x e = grind (arith, nat_tests, e)

frames_end_at : (most base at : ℕ) (f : Bytes) (frames : List (List Record)) → Frames f at frames → length frames ≤ most → frames_end most f base at ≡ base + gate_after at frames
unfolding frames_end
frames_end_at zero base at f [] stand few = refl
frames_end_at zero base at f (rs ∷ frames) stand few = absurd (omega arith)
frames_end_at (suc n) base at f [] stand few = let shut = closed_gate (f at) stand in rw shut refl
frames_end_at (suc n) base at f (rs ∷ frames) stand few =
    let gate = open_gate (f at) stand.0 in
    let size : ℕ = length (spelled_all rs) in
    let most = stand.1.most in
    let is_size : little_number 4 (window f (at + 1) 4) ≡ size = ap (little_number 4) (frame_size f at rs stand.2) ∙ number_back size [] (omega arith) in
    let next : at + 5 + size ≡ at + 1 + length (text_of (spelled_all rs)) = (let l = long_text rs in omega arith) in
    rw gate
    (ap (λ (s : ℕ). frames_end n f base (at + 5 + s)) is_size
    ∙ (frames_end_at n base (at + 5 + size) f frames (subst (λ (a : ℕ). Frames f a frames) (sym next) stand.3) (omega arith) ∙ ap (λ (a : ℕ). base + gate_after a frames) next))

few_frames : (at : ℕ) (frames : List (List Record)) → at + length frames ≤ gate_after at frames
few_frames at [] = omega arith
few_frames at (rs ∷ frames) = let more = few_frames (at + 1 + length (text_of (spelled_all rs))) frames in omega arith

-- AN AREA THAT HOLDS SOME RECORDS ends at the gate behind them
pub held_end : (f : Bytes) (base gate : ℕ) (ns : List Numbered) → HasRecords f base gate ns → frames_end LOG_END f base 0 ≡ gate
held_end f base gate ns h =
    let few = few_frames 0 h.frames in
    let at = h.at_gate in
    let within = h.within in
    frames_end_at LOG_END base 0 f h.frames h.stand (omega (arith, few, at, within)) ∙ sym h.at_gate

-- THE LOG OF AN IMAGE that is accepted ends there
pub end_is : (t : Table) (c : Image) (s : Super) (gate : ℕ) (ns : List Numbered) → IsAccepted t c s → HasRecords (c (log_area s)) s.base gate ns → end_in c ≡ gate
end_is t c s gate ns accepted has =
    ap (λ (u : Super). frames_end LOG_END (c (log_area u)) u.base 0) (accepted_super t c s accepted) ∙ held_end (c (log_area s)) s.base gate ns has

-- so where what was opened ends is shown from there
pub end_shown : (t : Table) (v w : View) (s : Super) (a : code.Analysis) (end : ℕ) → IsAccepted t (reads v) s → (is : IsAnalysed (reads v (log_area s)) s.base a)
    → ((ds : List Numbered) (gate : ℕ) → HasRecords (reads v (log_area s)) s.base gate ds → IsShownEnd v w gate end) → IsShownEnd v w (end_in (reads v)) end
end_shown t v w s a end accepted is shown = subst (λ (g : ℕ). IsShownEnd v w g end) (sym (end_is t (reads v) s is.gate is.records accepted is.has)) (shown is.records is.gate is.has)
