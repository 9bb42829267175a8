-- Records that are in their ranges by what they are.
use Rattle.std.proofs.Common.{rules, ◌≡◌, ℕ, ◌+◌, ◌*◌, ◌/◌, ◌<◌, ◌≤◌, ◌^◌, List, [], ◌∷◌, ◌++◌, length, Bool, true, false, None, refl, sym, subst, ◌∙◌, arith}
use Rattle.std.specs.Prelude.{nat_le, nat_lt, ◌&&◌}
use Rattle.std.proofs.lemmas.Bool.Decides.{nat_tests}
use Rattle.byteorder.specs.Endian.{little_bytes}
use Rattle.std.proofs.lemmas.List.{length-append}
use Rattle.byteorder.specs.Numbers.{length-bytes_low_first}
use Rattle.sg_record.specs.Ranges.{Field, IsRecord, first_out, says_fields}
use Rattle.sg_record.specs.Records.{body_of, header, code_of, kind_of, spelled}
use Rattle.sg_record.specs.Records.Says.{TopEnd, TopVoid, Changed, Save, Commit, End, CompEnd, Checkpoint}
use Rattle.sg_record.specs.Changes.{Change, PageChange, BandBytes}
use Rattle.sg_record.specs.Changes.Change.{Page, SegWrite, SegOp}
use Rattle.sg_actions.specs.Painting.{fill_with}
use Rattle.sg_record.specs.Shown.{by}
use Rattle.sg_space.specs.Bands.{IsPiece}
use Rattle.sg_actions.specs.Changes.{change_with, bytes_with}

le_true : (a b : ℕ) → a ≤ b → nat_le a b ≡ true
le_true a b h = grind (arith, nat_tests)

-- so many bytes of a number
length-bytes : (n x : ℕ) → length (little_bytes n x) ≡ n
length-bytes n x = length-bytes_low_first 0 n x

size_top : (u : ℕ) (note : List ℕ) → length (body_of (TopEnd u note)) ≡ 10 + length note
size_top u note = search rules

one_in : (o : ℕ) (a : Bool) → a ≡ true → first_out ((o, a) ∷ []) ≡ None
one_in o a e = λ j. first_out ((o, e j) ∷ [])

two_in : (o p : ℕ) (a b : Bool) → a ≡ true → b ≡ true → first_out ((o, a) ∷ (p, b) ∷ []) ≡ None
two_in o p a b e f = λ j. first_out ((o, e j) ∷ (p, f j) ∷ [])

pub top_end_in : (t p u : ℕ) (note : List ℕ) → t < 2 ^ 64 → p < 2 ^ 64 → u < 2 ^ 64 → length note ≤ 2400 → IsRecord (by t p (TopEnd u note))
top_end_in t p u note a b c few = record {
  transaction = a;
  previous = b;
  fits = (c, (omega (arith, few), refl));
  ranges = two_in 1 29 (nat_le (21 + length (body_of (TopEnd u note))) 16417) (nat_le (length note) 2400) (let s = size_top u note in le_true (21 + length (body_of (TopEnd u note))) 16417 (omega (arith, s, few))) (le_true (length note) 2400 few);
}

pub top_void_in : (t p u : ℕ) → t < 2 ^ 64 → p < 2 ^ 64 → u < 2 ^ 64 → IsRecord (by t p (TopVoid u))
top_void_in t p u a b c = record {
  transaction = a;
  previous = b;
  fits = c;
  ranges = one_in 1 (nat_le (21 + length (little_bytes 8 u)) 16417) (let s = length-bytes 8 u in le_true (21 + length (little_bytes 8 u)) 16417 (omega (arith, s)));
}

lt_true : (a b : ℕ) → a < b → nat_lt a b ≡ true
lt_true a b h = grind (arith, nat_tests)

size_format : (p kind : ℕ) → length (body_of (Changed (Page (change_with p 1 0 0 (0 ∷ []) (kind ∷ []))))) ≡ 15
size_format p kind = search rules

five_in : (o p q r s : ℕ) (a b : Bool) → a ≡ true → b ≡ true → first_out ((o, a) ∷ (p, b) ∷ (q, true) ∷ (r, true) ∷ (s, true) ∷ []) ≡ None
five_in o p q r s a b e f = λ j. first_out ((o, e j) ∷ (p, f j) ∷ (q, true) ∷ (r, true) ∷ (s, true) ∷ [])

format_of : (t p page kind : ℕ) → t < 2 ^ 64 → p < 2 ^ 64 → page < 1048576 → IsRecord (by t p (Changed (Page (change_with page 1 0 0 (0 ∷ []) (kind ∷ [])))))
format_of t p page kind a b c = record {
  transaction = a;
  previous = b;
  fits = (omega (arith, c), (omega arith, (omega arith, (omega arith, ((omega arith, omega arith), (refl, refl))))));
  ranges = five_in 1 21 25 30 32 (nat_le (21 + length (body_of (Changed (Page (change_with page 1 0 0 (0 ∷ []) (kind ∷ [])))))) 16417) (nat_lt page 1048576)
      (let s = size_format page kind in le_true (21 + length (body_of (Changed (Page (change_with page 1 0 0 (0 ∷ []) (kind ∷ [])))))) 16417 (omega (arith, s))) (lt_true page 1048576 c);
}

pub format_in : (t p page kind : ℕ) (c : PageChange) → c ≡ change_with page 1 0 0 (0 ∷ []) (kind ∷ []) → t < 2 ^ 64 → p < 2 ^ 64 → page < 1048576 → IsRecord (by t p (Changed (Page c)))
format_in t p page kind c is a b small = subst (λ (x : PageChange). IsRecord (by t p (Changed (Page x)))) (sym is) (format_of t p page kind a b small)

and_true : (a b : Bool) → a ≡ true → b ≡ true → (a && b) ≡ true
and_true a b e f = (λ j. e j && b) ∙ f

pub save_in : (t p mark : ℕ) → t < 2 ^ 64 → p < 2 ^ 64 → 1 ≤ mark → mark ≤ 16 → IsRecord (by t p (Save mark))
save_in t p mark a b some most = record {
  transaction = a;
  previous = b;
  fits = omega (arith, most);
  ranges = two_in 1 21 (nat_le (21 + length (little_bytes 2 mark)) 16417) (nat_le 1 mark && nat_le mark 16) (let s = length-bytes 2 mark in le_true (21 + length (little_bytes 2 mark)) 16417 (omega (arith, s))) (and_true (nat_le 1 mark) (nat_le mark 16) (le_true 1 mark some) (le_true mark 16 most));
}

pub commit_in : (t p : ℕ) → t < 2 ^ 64 → p < 2 ^ 64 → IsRecord (by t p Commit)
commit_in t p a b = record { transaction = a; previous = b; fits = tt; ranges = refl }

pub end_in : (t p : ℕ) → t < 2 ^ 64 → p < 2 ^ 64 → IsRecord (by t p End)
end_in t p a b = record { transaction = a; previous = b; fits = tt; ranges = refl }

pub comp_end_in : (t p u : ℕ) → t < 2 ^ 64 → p < 2 ^ 64 → u < 2 ^ 64 → IsRecord (by t p (CompEnd u))
comp_end_in t p u a b c = record {
  transaction = a;
  previous = b;
  fits = c;
  ranges = one_in 1 (nat_le (21 + length (little_bytes 8 u)) 16417) (let s = length-bytes 8 u in le_true (21 + length (little_bytes 8 u)) 16417 (omega (arith, s)));
}

size_point : (u : ℕ) (live : List ℕ) → length (body_of (Checkpoint u live)) ≡ 10 + length live
size_point u live = search rules

four_in : (o p q r : ℕ) (a b : Bool) → a ≡ true → b ≡ true → first_out ((o, a) ∷ (p, true) ∷ (q, true) ∷ (r, b) ∷ []) ≡ None
four_in o p q r a b e f = λ j. first_out ((o, e j) ∷ (p, true) ∷ (q, true) ∷ (r, f j) ∷ [])

by_sixteen : (n m : ℕ) → n ≡ 16 * m → n ≡ 16 * (n / 16)
by_sixteen n m e = omega (arith, e)

pub point_in : (u : ℕ) (live : List ℕ) (many : ℕ) → u < 2 ^ 64 → length live ≤ 1024 → length live ≡ 16 * many → IsRecord (by 0 0 (Checkpoint u live))
point_in u live many c few sized = record {
  transaction = omega arith;
  previous = omega arith;
  fits = (c, (omega (arith, few), by_sixteen (length live) many sized));
  ranges = four_in 1 5 13 29 (nat_le (21 + length (body_of (Checkpoint u live))) 16417) (nat_le (length live) 1024) (let s = size_point u live in le_true (21 + length (body_of (Checkpoint u live))) 16417 (omega (arith, s, few))) (le_true (length live) 1024 few);
}

size_fill : (b at : ℕ) → length (body_of (Changed (SegOp (fill_with b at)))) ≡ 24
size_fill b at = search rules

fill_fields : (a b c d : Bool) → a ≡ true → b ≡ true → c ≡ true → d ≡ true → first_out ((1, a) ∷ (21, b) ∷ (25, c) ∷ (29, true && (true && d)) ∷ (33, true) ∷ (35, true) ∷ (39, true) ∷ (41, true) ∷ []) ≡ None
fill_fields a b c d e f g h = λ j. first_out ((1, e j) ∷ (21, f j) ∷ (25, g j) ∷ (29, true && (true && h j)) ∷ (33, true) ∷ (35, true) ∷ (39, true) ∷ (41, true) ∷ [])

pub fill_in : (t p b at : ℕ) → t < 2 ^ 64 → p < 2 ^ 64 → b < 65536 → at ≤ 24576 → IsRecord (by t p (Changed (SegOp (fill_with b at))))
fill_in t p b at small low few within = record {
  transaction = small;
  previous = low;
  fits = (omega (arith, few), (omega (arith, within), (omega arith, (omega arith, (omega arith, ((omega arith, refl), (omega arith, refl)))))));
  ranges = fill_fields (nat_le (21 + length (body_of (Changed (SegOp (fill_with b at))))) 16417) (nat_lt b 65536) (nat_lt at 32768) (nat_le (at + 8192) 32768)
      (let s = size_fill b at in le_true (21 + length (body_of (Changed (SegOp (fill_with b at))))) 16417 (omega (arith, s))) (lt_true b 65536 few) (lt_true at 32768 (omega (arith, within))) (le_true (at + 8192) 32768 (omega (arith, within)));
}

size_write : (b at count : ℕ) (before after : List ℕ) → length (body_of (Changed (SegWrite (bytes_with b at count before after)))) ≡ 12 + length (before ++ after)
size_write b at count before after = search rules

write_fields : (a b c d e f : Bool) → a ≡ true → b ≡ true → c ≡ true → d ≡ true → e ≡ true → f ≡ true → first_out ((1, a) ∷ (21, b) ∷ (25, c) ∷ (29, d && (e && f)) ∷ []) ≡ None
write_fields a b c d e f g h i j k l = λ n. first_out ((1, g n) ∷ (21, h n) ∷ (25, i n) ∷ (29, j n && (k n && l n)) ∷ [])

-- a write of a piece of a band, with as many bytes before
write_of : (t p b at count : ℕ) (before after : List ℕ) → t < 2 ^ 64 → p < 2 ^ 64 → b < 65536 → IsPiece at count → length before ≡ count → length after ≡ count → IsRecord (by t p (Changed (SegWrite (bytes_with b at count before after))))
write_of t p b at count before after small low few piece m n =
    let some = piece.some in
    let most = piece.most in
    let within = piece.within in
    record {
      transaction = small;
      previous = low;
      fits = ((omega (arith, few), (omega (arith, within, some), omega (arith, most))), (m, n));
      ranges = write_fields (nat_le (21 + length (body_of (Changed (SegWrite (bytes_with b at count before after))))) 16417) (nat_lt b 65536) (nat_lt at 32768) (nat_le 1 count) (nat_le count 8192) (nat_le (at + count) 32768)
          (let s = size_write b at count before after in let l = length-append before after in le_true (21 + length (body_of (Changed (SegWrite (bytes_with b at count before after))))) 16417 (omega (arith, s, l, m, n, most))) (lt_true b 65536 few) (lt_true at 32768 (omega (arith, within, some))) (le_true 1 count some) (le_true count 8192 most) (le_true (at + count) 32768 within);
    }

pub write_in : (t p b at count : ℕ) (before after : List ℕ) (c : BandBytes) → c ≡ bytes_with b at count before after → t < 2 ^ 64 → p < 2 ^ 64 → b < 65536 → IsPiece at count → length before ≡ count → length after ≡ count → IsRecord (by t p (Changed (SegWrite c)))
write_in t p b at count before after c is small low few piece m n = subst (λ (x : BandBytes). IsRecord (by t p (Changed (SegWrite x)))) (sym is) (write_of t p b at count before after small low few piece m n)

-- HOW LONG a record of a change is, with the head of a frame

pub first_true : (o : ℕ) (a : Bool) (fs : List Field) → first_out ((o, a) ∷ fs) ≡ None → a ≡ true
first_true o true fs e = refl
first_true o false fs e = absurd (cc)

length_header : (k s t p : ℕ) → length (header k s t p) ≡ 21
length_header k s t p = search rules

pub le_of : (a b : ℕ) → nat_le a b ≡ true → a ≤ b
le_of a b h = grind (arith, nat_tests, h)

pub change_short : (t p : ℕ) (c : Change) → IsRecord (by t p (Changed c)) → 5 + length (spelled (by t p (Changed c))) ≤ 16422
unfolding spelled
change_short t p c is =
    let test = first_true 1 (nat_le (21 + length (body_of (Changed c))) 16417) (says_fields t p (Changed c)) is.ranges in
    let most = le_of (21 + length (body_of (Changed c))) 16417 test in
    let head = length_header (code_of (kind_of (Changed c))) (21 + length (body_of (Changed c))) t p in
    let all : length (spelled (by t p (Changed c))) ≡ length (header (code_of (kind_of (Changed c))) (21 + length (body_of (Changed c))) t p) + length (body_of (Changed c)) = length-append (header (code_of (kind_of (Changed c))) (21 + length (body_of (Changed c))) t p) (body_of (Changed c)) in
    omega (arith, most, head, all)
