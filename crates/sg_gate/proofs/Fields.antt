-- The fields of a superblock, as they are written and as they are read.
use Rattle.std.proofs.Common.{◌≡◌, ◌≢◌, ◌<◌, ◌≤◌, ◌+◌, ◌-◌, ◌==◌, ℕ, suc, Bool, false, Some, None, List, [], ◌∷◌, length, drop, take, get_or, ◌++◌, ◌&&◌, ◌^◌, nat_le, nat_lt, true, append-nil, lit<, refl, sym, ◌∙◌, ap, arith, add-zero, add-one}
use Rattle.std.proofs.lemmas.Bool.Decides.{nat_tests}
use Rattle.std.proofs.lemmas.List.{take_rest, drop-drop, get_or-drop}
use Rattle.std.proofs.Math.ListN.{drop_of_length-le}
use Rattle.byteorder.specs.Endian.{little_bytes, little_number}
use Rattle.byteorder.specs.Numbers.{little_number-reads_back}
use Rattle.sg_base.specs.Overwritten.{Wrote}
use Rattle.sg_base.proofs.Overwriting.{wrote_on, wrote_front}
use Rattle.sg_disk.specs.Disk.{Bytes, window}
use Rattle.sg_gate.specs.Superblock.{MAGIC, field, said, spelled, is_within, map_bands, fields, first_out, wrong_in, text_at, sequence_of, which, counting, IsSuper, AreInRange, IsText}
use Rattle.sg_gate.specs.declared.superblock.Super.{Super}
use Rattle.sg_gate.proofs.Windows.{first_of}

-- the first field of a text that is out of its range
pub wrong_magic : (text : List ℕ) → field text 1 8 ≢ MAGIC → wrong_in text ≡ Some 1
unfolding wrong_in
wrong_magic text not = grind (arith, nat_tests)

pub wrong_version : (text : List ℕ) → field text 1 8 ≡ MAGIC → field text 9 2 ≢ 1 → wrong_in text ≡ Some 9
unfolding wrong_in
wrong_version text magic not =
    let tested : (field text 9 2 == 1) ≡ false = grind (arith, nat_tests) in
    ap (λ (m : ℕ). first_out ((1, m == MAGIC) ∷ (9, field text 9 2 == 1) ∷ fields (said text))) magic
    ∙ ap (λ (v : Bool). first_out ((1, MAGIC == MAGIC) ∷ (9, v) ∷ fields (said text))) tested

pub wrong_field : (text : List ℕ) (s : Super) → field text 1 8 ≡ MAGIC → field text 9 2 ≡ 1 → said text ≡ s → wrong_in text ≡ first_out (fields s)
unfolding wrong_in
wrong_field text s magic version is =
    ap (λ (m : ℕ). first_out ((1, m == MAGIC) ∷ (9, field text 9 2 == 1) ∷ fields (said text))) magic
    ∙ ap (λ (v : ℕ). first_out ((1, MAGIC == MAGIC) ∷ (9, v == 1) ∷ fields (said text))) version
    ∙ ap (λ (u : Super). first_out ((1, MAGIC == MAGIC) ∷ (9, 1 == 1) ∷ fields u)) is

-- a text whose fields are those of a superblock
pub is_text : (s : Super) (text : List ℕ) → IsSuper s → field text 1 8 ≡ MAGIC → field text 9 2 ≡ 1 → said text ≡ s → IsText s text
is_text s text range magic version is = record { fits = wrong_field text s magic version is ∙ range; says = is }

-- a number of one byte
pub one_byte : (text : List ℕ) (at : ℕ) → get_or text at 0 ≡ little_number 1 (drop at text)
one_byte text at = ap (λ (i : ℕ). get_or text i 0) (sym (add-zero at)) ∙ sym (get_or-drop at text 0 0) ∙ sym (add-zero (get_or (drop at text) 0 0))

-- a number behind some bytes of a text
pub behind : (n : ℕ) (text : List ℕ) (at : ℕ) → little_number n (take (length text - at) (drop at text)) ≡ little_number n (drop at text)
behind n text at = ap (little_number n) (take_rest text at)

-- What a superblock's range says of its fields.
fits_first : (at : ℕ) (fits : Bool) (rest : List (ℕ × Bool)) → first_out ((at, fits) ∷ rest) ≡ None → (fits ≡ true) × (first_out rest ≡ None)
fits_first at true rest none = (refl, none)
fits_first at false rest none = absurd cc

within : (least most x : ℕ) → is_within least most x ≡ true → (least ≤ x) × (x ≤ most)
within least most x is = (grind (arith, nat_tests), grind (arith, nat_tests))

at_most : (x most : ℕ) → nat_le x most ≡ true → x ≤ most
at_most x most is = grind (arith, nat_tests)

enough : (a b : Bool) → (a && b) ≡ true → (a ≡ true) × (b ≡ true)
enough true b is = (refl, is)
enough false b is = absurd cc

below : (x y : ℕ) → nat_lt x y ≡ true → x < y
below x y is = grind (arith, nat_tests)

pub in_range : (s : Super) → IsSuper s → AreInRange s
in_range s none =
    let bands = is_within 4 65536 s.bands && nat_lt (map_bands s.pages s.bands) s.bands in
    let windows_on = (31, is_within 4 256 s.windows) ∷ (35, nat_le s.log 1) ∷ (36, nat_le s.base (2 ^ 63)) ∷ [] in
    let frames_on = (27, is_within 32 16384 s.frames) ∷ windows_on in
    let f1 = fits_first 11 (is_within 1 (2 ^ 64 - 2) s.sequence) ((19, is_within 64 1048576 s.pages) ∷ (23, bands) ∷ frames_on) none in
    let f2 = fits_first 19 (is_within 64 1048576 s.pages) ((23, bands) ∷ frames_on) f1.1 in
    let f3 = fits_first 23 bands frames_on f2.1 in
    let f4 = fits_first 27 (is_within 32 16384 s.frames) windows_on f3.1 in
    let f5 = fits_first 31 (is_within 4 256 s.windows) ((35, nat_le s.log 1) ∷ (36, nat_le s.base (2 ^ 63)) ∷ []) f4.1 in
    let f6 = fits_first 35 (nat_le s.log 1) ((36, nat_le s.base (2 ^ 63)) ∷ []) f5.1 in
    let f7 = fits_first 36 (nat_le s.base (2 ^ 63)) [] f6.1 in
    let both = enough (is_within 4 65536 s.bands) (nat_lt (map_bands s.pages s.bands) s.bands) f3.0 in
    let size = within 4 65536 s.bands both.0 in
    record {
      sequence = within 1 (2 ^ 64 - 2) s.sequence f1.0;
      pages = within 64 1048576 s.pages f2.0;
      bands = (size.0, size.1, below (map_bands s.pages s.bands) s.bands both.1);
      frames = within 32 16384 s.frames f4.0;
      windows = within 4 256 s.windows f5.0;
      log = at_most s.log 1 f6.0;
      base = at_most s.base (2 ^ 63) f7.0;
    }

-- WHAT WAS SPELLED IS READ
pub spelled_text : (s : Super) → IsSuper s → IsText s (spelled s)
unfolding spelled
spelled_text s none =
    let range = in_range s none in
    let base_on = little_bytes 8 s.base in
    let log_on = little_bytes 1 s.log ++ base_on in
    let windows_on = little_bytes 4 s.windows ++ log_on in
    let frames_on = little_bytes 4 s.frames ++ windows_on in
    let bands_on = little_bytes 4 s.bands ++ frames_on in
    let pages_on = little_bytes 4 s.pages ++ bands_on in
    let sequence_on = little_bytes 8 s.sequence ++ pages_on in
    let version_on = little_bytes 2 1 ++ sequence_on in
    let sequence = little_number-reads_back 8 s.sequence pages_on (let r = range.sequence.1 in omega arith) in
    let pages = little_number-reads_back 4 s.pages bands_on (let r = range.pages.1 in omega arith) in
    let bands = little_number-reads_back 4 s.bands frames_on (let r = range.bands.1 in omega arith) in
    let frames = little_number-reads_back 4 s.frames windows_on (let r = range.frames.1 in omega arith) in
    let windows = little_number-reads_back 4 s.windows log_on (let r = range.windows.1 in omega arith) in
    let log = little_number-reads_back 1 s.log base_on (let r = range.log in omega arith) in
    let base = ap (little_number 8) (sym (append-nil base_on)) ∙ little_number-reads_back 8 s.base [] (let r = range.base in omega arith) in
    is_text s (little_bytes 8 MAGIC ++ version_on) none
    (little_number-reads_back 8 MAGIC version_on (lit< tt))
    (little_number-reads_back 2 1 sequence_on (lit< tt))
    (λ i. record { sequence = sequence i; pages = pages i; bands = bands i; frames = frames i; windows = windows i; log = log i; base = base i })

-- nine fields that are written one behind another
pub all_written : {t0 t1 t2 t3 t4 t5 t6 t7 t8 t9 : List ℕ} {a1 a2 a3 a4 a5 a6 a7 a8 a9 : ℕ} (s : Super) → length t0 ≡ 43
    → Wrote t0 0 (little_bytes 8 MAGIC) t1 a1 → Wrote t1 a1 (little_bytes 2 1) t2 a2 → Wrote t2 a2 (little_bytes 8 s.sequence) t3 a3 → Wrote t3 a3 (little_bytes 4 s.pages) t4 a4
    → Wrote t4 a4 (little_bytes 4 s.bands) t5 a5 → Wrote t5 a5 (little_bytes 4 s.frames) t6 a6 → Wrote t6 a6 (little_bytes 4 s.windows) t7 a7 → Wrote t7 a7 (little_bytes 1 s.log) t8 a8 → Wrote t8 a8 (little_bytes 8 s.base) t9 a9
    → length t1 ≡ 43 → length t2 ≡ 43 → length t3 ≡ 43 → length t4 ≡ 43 → length t5 ≡ 43 → length t6 ≡ 43 → length t7 ≡ 43
    → t9 ≡ spelled s
unfolding spelled
all_written {t0 = t0} s long w1 w2 w3 w4 w5 w6 w7 w8 w9 l1 l2 l3 l4 l5 l6 l7 =
    let p1 = w1.place in
    let p2 = w2.place in
    let p3 = w3.place in
    let p4 = w4.place in
    let p5 = w5.place in
    let p6 = w6.place in
    let p7 = w7.place in
    let x8 = wrote_on (omega arith) w8 w9 in
    let x7 = wrote_on (omega arith) w7 x8 in
    let x6 = wrote_on (omega arith) w6 x7 in
    let x5 = wrote_on (omega arith) w5 x6 in
    let x4 = wrote_on (omega arith) w4 x5 in
    let x3 = wrote_on (omega arith) w3 x4 in
    let x2 = wrote_on (omega arith) w2 x3 in
    let x1 = wrote_on (omega arith) w1 x2 in
    let none : drop 43 t0 ≡ [] = drop_of_length-le t0 {i = 43} (omega arith) in
    wrote_front x1 ∙ ap (λ (l : List ℕ). spelled s ++ l) none ∙ append-nil (spelled s)

-- READING a slot
drop_first : (f : Bytes) (at m : ℕ) → drop 1 (window f at (suc m)) ≡ window f (at + 1) m
drop_first f at m = ap (λ (a : ℕ). window f a m) (sym (add-one at))

pub slot_text : (f : Bytes) (at n : ℕ) (read : List ℕ) → read ≡ window f at n → n ≡ 44 → drop 1 read ≡ text_at f at
unfolding text_at
slot_text f at n read is size = ap (drop 1) is ∙ ap (λ (m : ℕ). drop 1 (window f at m)) size ∙ drop_first f at 43

-- which of two slots that were read counts
pub chosen : (f : Bytes) (n m : ℕ) (first second : List ℕ) → first ≡ window f 0 n → n ≡ 44 → second ≡ window f 4096 m → m ≡ 44
    → which (get_or first 0 0) (get_or second 0 0) (sequence_of (drop 1 first)) (sequence_of (drop 1 second)) ≡ counting f
chosen f n m first second one size1 two size2 =
    ap (λ (g : ℕ). which g (get_or second 0 0) (sequence_of (drop 1 first)) (sequence_of (drop 1 second))) (first_of f 0 n first one (omega arith))
    ∙ ap (λ (g : ℕ). which (f 0) g (sequence_of (drop 1 first)) (sequence_of (drop 1 second))) (first_of f 4096 m second two (omega arith))
    ∙ ap (λ (t : List ℕ). which (f 0) (f 4096) (sequence_of t) (sequence_of (drop 1 second))) (slot_text f 0 n first one size1)
    ∙ ap (λ (t : List ℕ). which (f 0) (f 4096) (sequence_of (text_at f 0)) (sequence_of t)) (slot_text f 4096 m second two size2)

-- the sequence behind the gate
pub sequence_behind : (read : List ℕ) → little_number 8 (take (length read - 11) (drop 11 read)) ≡ sequence_of (drop 1 read)
sequence_behind read = ap (little_number 8) (take_rest read 11 ∙ sym (drop-drop 10 1 read))
