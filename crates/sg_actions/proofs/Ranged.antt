-- The records of an action's changes, and of those that take them off, are in their ranges.
use Rattle.std.proofs.Common.{rules, ◌≡◌, ℕ, zero, suc, ◌+◌, ◌<◌, ◌≤◌, ◌^◌, ◌==◌, List, [], ◌∷◌, ◌++◌, length, take, Bool, true, false, None, Some, Option, refl, sym, ap, subst, ◌∙◌, arith}
use Rattle.std.specs.Prelude.{nat_le, nat_lt, ◌&&◌, ◌||◌, if◌then◌else◌, unwrap_or, is_some}
use Rattle.std.proofs.lemmas.Bool.Decides.{nat_tests}
use Rattle.byteorder.specs.Endian.{little_bytes}
use Rattle.byteorder.specs.Numbers.{length-bytes_low_first}
use Rattle.std.proofs.lemmas.List.{length-append}
use Rattle.sg_base.specs.Op.{Op, is_format}
use Rattle.sg_base.specs.Sheet.{Sheet}
use Rattle.sg_base.specs.Op.Op.{Format, Put, Remove, Set, Links, Item, ItemBack}
use Rattle.sg_record.specs.Ranges.{IsRecord, first_out, before_fits, after_fits, is_part, position_fits}
use Rattle.sg_record.specs.Records.{body_of, Record, Says}
use Rattle.sg_record.specs.Records.Says.{Changed, PhysComp}
use Rattle.sg_record.specs.Changes.{Change, PageChange, BandOp}
use Rattle.sg_record.specs.Changes.Change.{Page, SegWrite, SegOp}
use Rattle.sg_record.specs.Shown.{by}
use Rattle.sg_space.specs.Bands.{IsPiece}
use Rattle.sg_actions.specs.Changes.{change_with, number_of, brought, BringsLinks, BringsFew, taken_away, comp_of, page_off, instead, bytes_off, op_off, IsBrief, IsChangeOf, back_said, meaning}
use Rattle.sg_actions.specs.Painting.{op_with, IsPaint}
use Rattle.sg_actions.proofs.Flags.{and_left, and_right}
use Rattle.sg_actions.proofs.InRange.{le_of}
use Rattle.sg_actions.proofs.PuttingBack.{fields_of, part_is, op_count}
use Rattle.sg_actions.proofs.TakenOff.{off_said}
use Rattle.sg_actions.proofs.Untold.{fits_few}
use Rattle.sg_ops.specs.Steps.{step}
use Rattle.sg_ops.specs.Table.{Table}
use Rattle.sg_space.specs.Pages.{arg_size}
use Rattle.sg_action.specs.States.{State, fits, step_leaf, blank}

le_true : (a b : ℕ) → a ≤ b → nat_le a b ≡ true
le_true a b h = grind (arith, nat_tests)

lt_true : (a b : ℕ) → a < b → nat_lt a b ≡ true
lt_true a b h = grind (arith, nat_tests)

eq_true : (a b : ℕ) → a ≡ b → (a == b) ≡ true
eq_true a b h = grind (arith, nat_tests)

four : (n : ℕ) → length (little_bytes 4 n) ≡ 4
four n = length-bytes_low_first 0 4 n

size_page : (c : PageChange) → length (body_of (Changed (Page c))) ≡ 13 + length (c.before ++ c.after)
size_page c = search rules

-- a change of a page with bytes that its operation may have
pub record IsSized (c : PageChange) : Type 0 where
  pub page : c.page < 1048576
  pub slot : c.slot < 2 ^ 16
  pub code : c.code < 2 ^ 16
  pub some : 1 ≤ c.operation
  pub most : c.operation ≤ 7
  pub before : length c.before ≤ 4096
  pub after : length c.after ≤ 4096
  pub before_fits : before_fits false c.operation (length c.before) ≡ true
  pub after_fits : after_fits c.operation (length c.after) ≡ true

five_in : (a b c d e f : Bool) → a ≡ true → b ≡ true → c ≡ true → d ≡ true → e ≡ true → f ≡ true → first_out ((1, a) ∷ (21, b) ∷ (25, c && d) ∷ (30, e) ∷ (32, f) ∷ []) ≡ None
five_in a b c d e f g h i j k l = λ n. first_out ((1, g n) ∷ (21, h n) ∷ (25, i n && j n) ∷ (30, k n) ∷ (32, l n) ∷ [])

pub sized_in : (t p : ℕ) (c : PageChange) → t < 2 ^ 64 → p < 2 ^ 64 → IsSized c → IsRecord (by t p (Changed (Page c)))
sized_in t p c small low s =
    let page = s.page in let slot = s.slot in let code = s.code in let most = s.most in let before = s.before in let after = s.after in
    record {
      transaction = small;
      previous = low;
      fits = (omega (arith, page), (omega (arith, most), (slot, (code, ((omega (arith, before), omega (arith, after)), (refl, refl))))));
      ranges = five_in (nat_le (21 + length (body_of (Changed (Page c)))) 16417) (nat_lt c.page 1048576) (nat_le 1 c.operation) (nat_le c.operation 7) (before_fits false c.operation (length c.before)) (after_fits c.operation (length c.after))
          (let z = size_page c in let l = length-append c.before c.after in le_true (21 + length (body_of (Changed (Page c)))) 16417 (omega (arith, z, l, before, after))) (lt_true c.page 1048576 page) (le_true 1 c.operation s.some) (le_true c.operation 7 most) s.before_fits s.after_fits;
    }

-- the size of a list that is this
size_is : {xs ys : List ℕ} (most : ℕ) → xs ≡ ys → length ys ≤ most → length xs ≤ most
size_is {xs} {ys} most e h = omega (arith, ap length e, h)

none_of : {xs : List ℕ} → xs ≡ [] → (length xs == 0) ≡ true
none_of {xs} e = eq_true (length xs) 0 (ap length e)

eight_of : {xs : List ℕ} (m n : ℕ) → xs ≡ little_bytes 4 m ++ little_bytes 4 n → length xs ≡ 8
eight_of {xs} m n e = ap length e ∙ (length-append (little_bytes 4 m) (little_bytes 4 n) ∙ (let a = four m in let b = four n in omega (arith, a, b)))

-- so is the change that is an operation, with the bytes that it takes away
pub op_sized : (page : ℕ) (op : Op) (before after links : List ℕ) (sheet : Sheet) → page < 1048576 → (number_of op).1 < 2 ^ 16 → (number_of op).2 < 2 ^ 16 → is_format op ≡ false → BringsFew op → BringsLinks op links
    → length before ≤ 4096 → before ≡ taken_away op sheet → after ≡ unwrap_or (brought op) links → IsSized (change_with page (number_of op).0 (number_of op).1 (number_of op).2 before after)
op_sized page (Format kind) before after links sheet few slot code plain short given long b a = absurd (cc)
op_sized page (Put s bytes) before after links sheet few slot code plain short given long b a = record {
  page = few;
  slot = slot;
  code = code;
  some = omega arith;
  most = omega arith;
  before = long;
  after = size_is 4096 a short;
  before_fits = none_of b;
  after_fits = refl;
}
op_sized page (Remove s) before after links sheet few slot code plain short given long b a = record {
  page = few;
  slot = slot;
  code = code;
  some = omega arith;
  most = omega arith;
  before = long;
  after = size_is 4096 a (omega arith);
  before_fits = refl;
  after_fits = none_of a;
}
op_sized page (Set s bytes) before after links sheet few slot code plain short given long b a = record {
  page = few;
  slot = slot;
  code = code;
  some = omega arith;
  most = omega arith;
  before = long;
  after = size_is 4096 a short;
  before_fits = refl;
  after_fits = refl;
}
op_sized page (Links l) before after links sheet few slot code plain short given long b a = record {
  page = few;
  slot = slot;
  code = code;
  some = omega arith;
  most = omega arith;
  before = long;
  after = let e = eight_of l.0 l.1 (a ∙ given.0) in omega (arith, e);
  before_fits = eq_true (length before) 8 (eight_of sheet.links.0 sheet.links.1 b);
  after_fits = eq_true (length after) 8 (eight_of l.0 l.1 (a ∙ given.0));
}
op_sized page (Item s k arg) before after links sheet few slot code plain short given long b a = record {
  page = few;
  slot = slot;
  code = code;
  some = omega arith;
  most = omega arith;
  before = long;
  after = size_is 4096 a (omega (arith, short));
  before_fits = none_of b;
  after_fits = le_true (length after) 256 (size_is 256 a short);
}
op_sized page (ItemBack s k arg) before after links sheet few slot code plain short given long b a = record {
  page = few;
  slot = slot;
  code = code;
  some = omega arith;
  most = omega arith;
  before = long;
  after = size_is 4096 a (omega (arith, short));
  before_fits = none_of b;
  after_fits = le_true (length after) 256 (size_is 256 a short);
}

-- A RECORD OF THE OPERATION
pub page_in : (t p : ℕ) (c : PageChange) (page : ℕ) (op : Op) (code : ℕ × ℕ × ℕ) (before after links : List ℕ) (sheet : Sheet) → t < 2 ^ 64 → p < 2 ^ 64 → c ≡ change_with page code.0 code.1 code.2 before after → code ≡ number_of op → page < 1048576
    → code.1 < 2 ^ 16 → code.2 < 2 ^ 16 → is_format op ≡ false → BringsFew op → BringsLinks op links → length before ≤ 4096 → before ≡ taken_away op sheet → after ≡ unwrap_or (brought op) links → IsRecord (by t p (Changed (Page c)))
page_in t p c page op code before after links sheet small low e f few slot num plain short given long b a = sized_in t p c small low
    (subst IsSized (sym (e ∙ ap (λ (n : ℕ × ℕ × ℕ). change_with page n.0 n.1 n.2 before after) f))
    (op_sized page op before after links sheet few (let s : code.1 ≡ (number_of op).1 = ap (λ (n : ℕ × ℕ × ℕ). n.1) f in omega (arith, slot, s)) (let s : code.2 ≡ (number_of op).2 = ap (λ (n : ℕ × ℕ × ℕ). n.2) f in omega (arith, num, s)) plain short given long b a))

-- A RECORD THAT PAINTS
size_paint : (b at count code position : ℕ) (arg before : List ℕ) → length (body_of (Changed (SegOp (op_with b at count code position arg before)))) ≡ 20 + length (arg ++ (little_bytes 4 (length before) ++ before))
size_paint b at count code position arg before = search rules

paint_fields : (a b c d e f g h i : Bool) → a ≡ true → b ≡ true → c ≡ true → d ≡ true → e ≡ true → f ≡ true → g ≡ true → h ≡ true → i ≡ true → (n : ℕ)
    → first_out ((1, a) ∷ (21, b) ∷ (25, c) ∷ (29, d && (e && f)) ∷ (33, true) ∷ (35, g) ∷ (39, h) ∷ (n, i) ∷ []) ≡ None
paint_fields a b c d e f g h i p q r s t u v w x n = λ j. first_out ((1, p j) ∷ (21, q j) ∷ (25, r j) ∷ (29, s j && (t j && u j)) ∷ (33, true) ∷ (35, v j) ∷ (39, w j) ∷ (n, x j) ∷ [])

or_true : (a b : Bool) → a ≡ true → (a || b) ≡ true
or_true a b e = (λ j. e j || b)

paint_of : (t p b at count code position : ℕ) (arg before : List ℕ) → t < 2 ^ 64 → p < 2 ^ 64 → b < 65536 → IsPiece at count → code < 2 ^ 16 → IsPaint position count arg → length before ≡ count → IsRecord (by t p (Changed (SegOp (op_with b at count code position arg before))))
paint_of t p b at count code position arg before small low few piece num paint long =
    let some = piece.some in let most = piece.most in let within = piece.within in let short = paint.short in let ends = paint.ends in
    record {
      transaction = small;
      previous = low;
      fits = (omega (arith, few), (omega (arith, within, some), (omega (arith, most), (num, (omega (arith, ends), ((omega (arith, short), refl), (omega (arith, long, most), refl)))))));
      ranges = paint_fields (nat_le (21 + length (body_of (Changed (SegOp (op_with b at count code position arg before))))) 16417) (nat_lt b 65536) (nat_lt at 32768) (nat_le 1 count) (nat_le count 8192) (nat_le (at + count) 32768) (nat_le (position + count) 16384000) (nat_le (length arg) 256) (length before == count || (length before == 0 && (code == 1 && length arg == 0)))
          (let z = size_paint b at count code position arg before in let l = length-append arg (little_bytes 4 (length before) ++ before) in let m = length-append (little_bytes 4 (length before)) before in let k = four (length before) in le_true (21 + length (body_of (Changed (SegOp (op_with b at count code position arg before))))) 16417 (omega (arith, z, l, m, k, short, long, most))) (lt_true b 65536 few) (lt_true at 32768 (omega (arith, within, some))) (le_true 1 count some) (le_true count 8192 most) (le_true (at + count) 32768 within)
          (le_true (position + count) 16384000 ends) (le_true (length arg) 256 short) (or_true (length before == count) (length before == 0 && (code == 1 && length arg == 0)) (eq_true (length before) count long)) (41 + length arg);
    }

pub paint_in : (t p b at count code position : ℕ) (arg before : List ℕ) (c : BandOp) → c ≡ op_with b at count code position arg before → t < 2 ^ 64 → p < 2 ^ 64 → b < 65536 → IsPiece at count → code < 2 ^ 16 → IsPaint position count arg → length before ≡ count → IsRecord (by t p (Changed (SegOp c)))
paint_in t p b at count code position arg before c is small low few piece num paint long = subst (λ (x : BandOp). IsRecord (by t p (Changed (SegOp x)))) (sym is) (paint_of t p b at count code position arg before small low few piece num paint long)

-- a front is no longer than what it is a front of
pub take_le : (n : ℕ) (xs : List ℕ) → length (take n xs) ≤ length xs
take_le zero xs = omega arith
take_le (suc n) [] = omega arith
take_le (suc n) (x ∷ xs) = let h = take_le n xs in omega (arith, h)

-- A RECORD THAT TAKES A CHANGE OFF, of a page,
size_off : (u : ℕ) (c : PageChange) → length (body_of (PhysComp u (Page c))) ≡ 22 + length (c.before ++ c.after)
size_off u c = search rules

off_fields : (a b c d e : Bool) → a ≡ true → b ≡ true → c ≡ true → d ≡ true → e ≡ true → first_out ((1, a) ∷ (30, b) ∷ (34, c && d) ∷ (39, true) ∷ (41, e) ∷ []) ≡ None
off_fields a b c d e f g h i j = λ n. first_out ((1, f n) ∷ (30, g n) ∷ (34, h n && i n) ∷ (39, true) ∷ (41, j n) ∷ [])

-- what is known of the change that is taken off
record IsPageHeld (c : PageChange) : Type 0 where
  pub page : c.page < 1048576
  pub slot : c.slot < 2 ^ 16
  pub code : c.code < 2 ^ 16
  pub some : 1 ≤ c.operation
  pub most : c.operation ≤ 7
  pub brief : length c.before ≤ 4096
  pub before : before_fits false c.operation (length c.before) ≡ true
  pub after : after_fits c.operation (length c.after) ≡ true

instead_in : (t p u : ℕ) (c : PageChange) (n : ℕ) (after : List ℕ) → t < 2 ^ 64 → p < 2 ^ 64 → u < 2 ^ 64 → IsPageHeld c → 1 ≤ n → n ≤ 7 → length after ≤ 4096 → after_fits n (length after) ≡ true → IsRecord (by t p (PhysComp u (Page (instead c n after))))
instead_in t p u c n after small low next h some most short fits =
    let page = h.page in let slot = h.slot in let code = h.code in
    record {
      transaction = small;
      previous = low;
      fits = (next, (omega (arith, page), (omega (arith, most), (slot, (code, ((omega arith, omega (arith, short)), (refl, refl)))))));
      ranges = off_fields (nat_le (21 + length (body_of (PhysComp u (Page (instead c n after))))) 16417) (nat_lt c.page 1048576) (nat_le 1 n) (nat_le n 7) (after_fits n (length after))
          (let z = size_off u (instead c n after) in le_true (21 + length (body_of (PhysComp u (Page (instead c n after))))) 16417 (omega (arith, z, short))) (lt_true c.page 1048576 page) (le_true 1 n some) (le_true n 7 most) fits;
    }

is_of : (a b : ℕ) → (a == b) ≡ true → a ≡ b
is_of a b h = grind (arith, nat_tests, h)

not_of : (a b : ℕ) → (a == b) ≡ false → (a ≡ b) → ⊥
not_of a b h e = let k : (a == b) ≡ true = eq_true a b e in cc

page_comp : (t p u : ℕ) (c : PageChange) → t < 2 ^ 64 → p < 2 ^ 64 → u < 2 ^ 64 → IsPageHeld c → IsRecord (by t p (PhysComp u (Page (page_off c))))
page_comp t p u c small low next h = one (c.operation == 1) refl
  where
    In : PageChange → Type 0
    In d = IsRecord (by t p (PhysComp u (Page d)))

    made : (n : ℕ) (after : List ℕ) → 1 ≤ n → n ≤ 7 → length after ≤ 4096 → after_fits n (length after) ≡ true → In (instead c n after)
    made n after some most short fits = instead_in t p u c n after small low next h some most short fits

    before_short : length c.before ≤ 4096
    before_short = h.brief

    after_short : (n : ℕ) → (after_fits n (length c.after) ≡ true → nat_le (length c.after) 256 ≡ true) → c.operation ≡ n → length c.after ≤ 4096
    after_short n k e = let z = le_of (length c.after) 256 (k (subst (λ (m : ℕ). after_fits m (length c.after) ≡ true) e h.after)) in omega (arith, z)

    six : (b : Bool) → (c.operation == 6) ≡ b → ((k : ℕ) → 1 ≤ k → k ≤ 5 → c.operation ≡ k → ⊥) → In (if b then instead c 7 c.after else instead c 6 c.after)
    six true e nay = made 7 c.after (omega arith) (omega arith) (after_short 6 (λ k. k) (is_of c.operation 6 e)) (subst (λ (n : ℕ). after_fits n (length c.after) ≡ true) (is_of c.operation 6 e) h.after)
    six false e nay = made 6 c.after (omega arith) (omega arith) (after_short 7 (λ k. k) seven) (subst (λ (n : ℕ). after_fits n (length c.after) ≡ true) seven h.after)
      where
        seven : c.operation ≡ 7
        seven = let some = h.some in let most = h.most in let a = nay 1 (omega arith) (omega arith) in let b = nay 2 (omega arith) (omega arith) in let d = nay 3 (omega arith) (omega arith) in let f = nay 4 (omega arith) (omega arith) in let g = nay 5 (omega arith) (omega arith) in let k = not_of c.operation 6 e in omega (arith, some, most, a, b, d, f, g, k)

    below : (m : ℕ) → ((k : ℕ) → 1 ≤ k → k < m → c.operation ≡ k → ⊥) → (c.operation ≡ m → ⊥) → (k : ℕ) → 1 ≤ k → k ≤ m → c.operation ≡ k → ⊥
    below m nay ne k some most e = by (k == m) refl
      where
        by : (b : Bool) → (k == m) ≡ b → ⊥
        by true f = ne (e ∙ is_of k m f)
        by false f = nay k some (let g = not_of k m f in omega (arith, most, g)) e

    five : (b : Bool) → (c.operation == 5) ≡ b → ((k : ℕ) → 1 ≤ k → k < 5 → c.operation ≡ k → ⊥) → In (if b then instead c 5 c.before else (if c.operation == 6 then instead c 7 c.after else instead c 6 c.after))
    five true e nay = made 5 c.before (omega arith) (omega arith) before_short (subst (λ (n : ℕ). before_fits false n (length c.before) ≡ true) (is_of c.operation 5 e) h.before)
    five false e nay = six (c.operation == 6) refl (below 5 nay (not_of c.operation 5 e))

    four_by : (b : Bool) → (c.operation == 4) ≡ b → ((k : ℕ) → 1 ≤ k → k < 4 → c.operation ≡ k → ⊥) → In (if b then instead c 4 c.before else (if c.operation == 5 then instead c 5 c.before else (if c.operation == 6 then instead c 7 c.after else instead c 6 c.after)))
    four_by true e nay = made 4 c.before (omega arith) (omega arith) before_short refl
    four_by false e nay = five (c.operation == 5) refl (λ k some less. below 4 nay (not_of c.operation 4 e) k some (omega (arith, less)))

    three : (b : Bool) → (c.operation == 3) ≡ b → ((k : ℕ) → 1 ≤ k → k < 3 → c.operation ≡ k → ⊥) → In (if b then instead c 2 c.before else (if c.operation == 4 then instead c 4 c.before else (if c.operation == 5 then instead c 5 c.before else (if c.operation == 6 then instead c 7 c.after else instead c 6 c.after))))
    three true e nay = made 2 c.before (omega arith) (omega arith) before_short refl
    three false e nay = four_by (c.operation == 4) refl (λ k some less. below 3 nay (not_of c.operation 3 e) k some (omega (arith, less)))

    two : (b : Bool) → (c.operation == 2) ≡ b → ((k : ℕ) → 1 ≤ k → k < 2 → c.operation ≡ k → ⊥)
        → In (if b then instead c 3 [] else (if c.operation == 3 then instead c 2 c.before else (if c.operation == 4 then instead c 4 c.before else (if c.operation == 5 then instead c 5 c.before else (if c.operation == 6 then instead c 7 c.after else instead c 6 c.after)))))
    two true e nay = made 3 [] (omega arith) (omega arith) (omega arith) refl
    two false e nay = three (c.operation == 3) refl (λ k some less. below 2 nay (not_of c.operation 2 e) k some (omega (arith, less)))

    one : (b : Bool) → (c.operation == 1) ≡ b
        → In (if b then instead c 1 (0 ∷ []) else (if c.operation == 2 then instead c 3 [] else (if c.operation == 3 then instead c 2 c.before else (if c.operation == 4 then instead c 4 c.before else (if c.operation == 5 then instead c 5 c.before else (if c.operation == 6 then instead c 7 c.after else instead c 6 c.after))))))
    one true e = made 1 (0 ∷ []) (omega arith) (omega arith) (omega arith) refl
    one false e = two (c.operation == 2) refl (λ k some less. let z : k ≡ 1 = omega (arith, some, less) in λ f. not_of c.operation 1 e (f ∙ z))

page_held : (a b : ℕ) (c : PageChange) → length c.before ≤ 4096 → IsRecord (by a b (Changed (Page c))) → IsPageHeld c
page_held a b c brief h =
    let f = fields_of a b (Changed (Page c)) h in
    record {
      page = lt_of c.page 1048576 f.0;
      slot = h.fits.1.1.0;
      code = h.fits.1.1.1.0;
      some = le_of 1 c.operation (and_left (nat_le 1 c.operation) (nat_le c.operation 7) f.1.0);
      most = le_of c.operation 7 (and_right (nat_le 1 c.operation) (nat_le c.operation 7) f.1.0);
      brief = brief;
      before = f.1.1.0;
      after = f.1.1.1.0;
    }
  where
    lt_of : (m n : ℕ) → nat_lt m n ≡ true → m < n
    lt_of m n e = grind (arith, nat_tests, e)

-- of bytes of a band,
size_bytes : (u band at count : ℕ) (after : List ℕ) → length (body_of (PhysComp u (bytes_off band at count after))) ≡ 21 + length after
size_bytes u band at count after = search rules

bytes_in_fields : (a b c d e f : Bool) → a ≡ true → b ≡ true → c ≡ true → d ≡ true → e ≡ true → f ≡ true → first_out ((1, a) ∷ (30, b) ∷ (34, c) ∷ (38, d && (e && f)) ∷ []) ≡ None
bytes_in_fields a b c d e f g h i j k l = λ n. first_out ((1, g n) ∷ (30, h n) ∷ (34, i n) ∷ (38, j n && (k n && l n)) ∷ [])

bytes_comp : (t p u band at count : ℕ) (after : List ℕ) → t < 2 ^ 64 → p < 2 ^ 64 → u < 2 ^ 64 → band < 65536 → IsPiece at count → length after ≡ count → IsRecord (by t p (PhysComp u (bytes_off band at count after)))
bytes_comp t p u band at count after small low next few piece long =
    let some = piece.some in let most = piece.most in let within = piece.within in
    record {
      transaction = small;
      previous = low;
      fits = (next, ((omega (arith, few), (omega (arith, within, some), omega (arith, most))), (refl, long)));
      ranges = bytes_in_fields (nat_le (21 + length (body_of (PhysComp u (bytes_off band at count after)))) 16417) (nat_lt band 65536) (nat_lt at 32768) (nat_le 1 count) (nat_le count 8192) (nat_le (at + count) 32768)
          (let z = size_bytes u band at count after in le_true (21 + length (body_of (PhysComp u (bytes_off band at count after)))) 16417 (omega (arith, z, long, most))) (lt_true band 65536 few) (lt_true at 32768 (omega (arith, within, some))) (le_true 1 count some) (le_true count 8192 most) (le_true (at + count) 32768 within);
    }

lt_is : (m n : ℕ) → nat_lt m n ≡ true → m < n
lt_is m n e = grind (arith, nat_tests, e)

-- and of a band that was taken
size_fill_off : (u : ℕ) (c : BandOp) → length (body_of (PhysComp u (SegOp c))) ≡ 29 + length (c.arg ++ (little_bytes 4 (length c.before) ++ c.before))
size_fill_off u c = search rules

fill_off_fields : (a b c d e f g : Bool) (n : ℕ) (h i : Bool) → a ≡ true → b ≡ true → c ≡ true → d ≡ true → e ≡ true → f ≡ true → g ≡ true → h ≡ true → i ≡ true
    → first_out ((1, a) ∷ (30, b) ∷ (34, c) ∷ (38, d) ∷ (42, e) ∷ (44, f) ∷ (48, g) ∷ (n, h) ∷ []) ≡ None
fill_off_fields a b c d e f g n h i p q r s t u v w x = λ j. first_out ((1, p j) ∷ (30, q j) ∷ (34, r j) ∷ (38, s j) ∷ (42, t j) ∷ (44, u j) ∷ (48, v j) ∷ (n, w j) ∷ [])

fill_comp : (t p u : ℕ) (c : BandOp) (a b : ℕ) → t < 2 ^ 64 → p < 2 ^ 64 → u < 2 ^ 64 → IsRecord (by a b (Changed (SegOp c))) → c.before ≡ [] → IsRecord (by t p (PhysComp u (SegOp c)))
fill_comp t p u c a b small low next h none =
    let f = fields_of a b (Changed (SegOp c)) h in
    let part = part_is c.at c.count f.1.1.0 in
    let some = part.some in
    let empty : length c.before ≡ 0 = ap length none in
    let differ : (length c.before == c.count) ≡ false = grind (arith, nat_tests, empty, some) in
    let zero_is : (length c.before == 0) ≡ true = eq_true (length c.before) 0 empty in
    let both : (length c.before == 0 && (c.code == 1 && length c.arg == 0)) ≡ true = sym (ap (λ (x : Bool). x || (length c.before == 0 && (c.code == 1 && length c.arg == 0))) differ) ∙ f.1.1.1.1.1.1.0 in
    let fill : (c.code == 1 && length c.arg == 0) ≡ true = and_right (length c.before == 0) (c.code == 1 && length c.arg == 0) both in
    let code : (c.code == 1) ≡ true = and_left (c.code == 1) (length c.arg == 0) fill in
    let arg : (length c.arg == 0) ≡ true = and_right (c.code == 1) (length c.arg == 0) fill in
    let few : length c.arg ≡ 0 = is_of (length c.arg) 0 arg in
    record {
      transaction = small;
      previous = low;
      fits = (next, h.fits);
      ranges = fill_off_fields (nat_le (21 + length (body_of (PhysComp u (SegOp c)))) 16417) (nat_lt c.band 65536) (nat_lt c.at 32768) (is_part c.at c.count) (c.code == 1) (position_fits c.position c.count) (length c.arg == 0) (50 + length c.arg) (length c.before == 0) true
          (let z = size_fill_off u c in let l = length-append c.arg (little_bytes 4 (length c.before) ++ c.before) in let m = length-append (little_bytes 4 (length c.before)) c.before in let k = four (length c.before) in le_true (21 + length (body_of (PhysComp u (SegOp c)))) 16417 (omega (arith, z, l, m, k, empty, few))) f.0 f.1.0 f.1.1.0 code f.1.1.1.1.0 arg zero_is refl;
    }

pub comp_in : (t p u : ℕ) (r : Record) (c comp : Change) (previous : ℕ) → t < 2 ^ 64 → p < 2 ^ 64 → u < 2 ^ 64 → IsRecord r → IsChangeOf r c previous → IsBrief c → comp ≡ comp_of c → IsRecord (by t p (PhysComp u comp))
comp_in t p u r c comp previous small low next h is brief same = subst (λ (x : Change). IsRecord (by t p (PhysComp u x))) (sym same) (by_change c brief (subst (λ (s : Says). IsRecord (by r.transaction r.previous s)) is.says h))
  where
    by_list : (w : BandOp) (xs : List ℕ) → w.before ≡ xs → IsRecord (by r.transaction r.previous (Changed (SegOp w))) → IsRecord (by t p (PhysComp u (op_off w xs)))
    by_list w [] e k = fill_comp t p u w r.transaction r.previous small low next k e
    by_list w (x ∷ xs) e k =
        let f = fields_of r.transaction r.previous (Changed (SegOp w)) k in
        bytes_comp t p u w.band w.at w.count (x ∷ xs) small low next (lt_is w.band 65536 f.0) (part_is w.at w.count f.1.1.0) (sym (ap length e) ∙ op_count w f.1.1.1.1.1.1.0 (let z = ap length e in omega (arith, z)))

    by_change : (w : Change) → IsBrief w → IsRecord (by r.transaction r.previous (Changed w)) → IsRecord (by t p (PhysComp u (comp_of w)))
    by_change (Page w) b k = page_comp t p u w small low next (page_held r.transaction r.previous w b k)
    by_change (SegWrite w) b k =
        let f = fields_of r.transaction r.previous (Changed (SegWrite w)) k in
        bytes_comp t p u w.band w.at w.count w.before small low next (lt_is w.band 65536 f.0) (part_is w.at w.count f.1.1.0) k.fits.1.0
    by_change (SegOp w) b k = by_list w w.before refl k

-- WHAT IS TAKEN OFF KEEPS FEW BYTES, where the change that takes it off fits
leaf_few : (t : Table) (op : Op) (leaf : Option Sheet) → is_format op ≡ false → arg_size op ≤ 256 → is_some (step_leaf t op leaf) ≡ true → BringsFew op
leaf_few t op None plain short e = absurd (let f : is_some (step_leaf t op None) ≡ false = ap (λ (b : Bool). is_some (if b then step t op blank else None)) plain in let z : true ≡ false = sym e ∙ f in cc)
leaf_few t op (Some sheet) plain short e = let s = some_by (step t op sheet) e in fits_few t op sheet s.0 short s.1
  where
    some_by : (o : Option Sheet) → is_some o ≡ true → (y : Sheet) × (o ≡ Some y)
    some_by None z = absurd (cc)
    some_by (Some y) z = (y, refl)

back_at : (c : PageChange) (n : ℕ) → c.operation ≡ n → back_said c ≡ back_said (record c { operation = n })
back_at c n e = ap (λ (m : ℕ). back_said (record c { operation = m })) e

page_brief : (t : Table) (x : State) (a b : ℕ) (c : PageChange) → 1 ≤ c.operation → c.operation ≤ 7 → before_fits false c.operation (length c.before) ≡ true → fits t x (meaning (Page (page_off c))) ≡ true → length c.before ≤ 4096
page_brief t x a b c some most before f = three (c.operation == 3) refl
  where
    fit : (op : Op) → back_said c ≡ op → is_format op ≡ false → arg_size op ≤ 256 → BringsFew op
    fit op e plain short = leaf_few t op (x.pages (page_off c).page) plain short (subst (λ (o : Op). is_some (step_leaf t o (x.pages (page_off c).page)) ≡ true) (off_said c ∙ e) f)

    small : (n m : ℕ) → c.operation ≡ n → (before_fits false n (length c.before) ≡ true → (length c.before == m) ≡ true) → m ≤ 4096 → length c.before ≤ 4096
    small n m e k few = let z = is_of (length c.before) m (k (subst (λ (q : ℕ). before_fits false q (length c.before) ≡ true) e before)) in omega (arith, z, few)

    seven : (y : Bool) → (c.operation == 7) ≡ y → (c.operation ≡ 1 → ⊥) → (c.operation ≡ 2 → ⊥) → (c.operation ≡ 3 → ⊥) → (c.operation ≡ 4 → ⊥) → (c.operation ≡ 5 → ⊥) → (c.operation ≡ 6 → ⊥) → length c.before ≤ 4096
    seven true e n1 n2 n3 n4 n5 n6 = small 7 0 (is_of c.operation 7 e) (λ k. k) (omega arith)
    seven false e n1 n2 n3 n4 n5 n6 = let n7 = not_of c.operation 7 e in absurd (omega (arith, some, most, n1, n2, n3, n4, n5, n6, n7))

    six : (y : Bool) → (c.operation == 6) ≡ y → (c.operation ≡ 1 → ⊥) → (c.operation ≡ 2 → ⊥) → (c.operation ≡ 3 → ⊥) → (c.operation ≡ 4 → ⊥) → (c.operation ≡ 5 → ⊥) → length c.before ≤ 4096
    six true e n1 n2 n3 n4 n5 = small 6 0 (is_of c.operation 6 e) (λ k. k) (omega arith)
    six false e n1 n2 n3 n4 n5 = seven (c.operation == 7) refl n1 n2 n3 n4 n5 (not_of c.operation 6 e)

    five : (y : Bool) → (c.operation == 5) ≡ y → (c.operation ≡ 1 → ⊥) → (c.operation ≡ 2 → ⊥) → (c.operation ≡ 3 → ⊥) → (c.operation ≡ 4 → ⊥) → length c.before ≤ 4096
    five true e n1 n2 n3 n4 = small 5 8 (is_of c.operation 5 e) (λ k. k) (omega arith)
    five false e n1 n2 n3 n4 = six (c.operation == 6) refl n1 n2 n3 n4 (not_of c.operation 5 e)

    two : (y : Bool) → (c.operation == 2) ≡ y → (c.operation ≡ 1 → ⊥) → (c.operation ≡ 3 → ⊥) → (c.operation ≡ 4 → ⊥) → length c.before ≤ 4096
    two true e n1 n3 n4 = small 2 0 (is_of c.operation 2 e) (λ k. k) (omega arith)
    two false e n1 n3 n4 = five (c.operation == 5) refl n1 (not_of c.operation 2 e) n3 n4

    one : (y : Bool) → (c.operation == 1) ≡ y → (c.operation ≡ 3 → ⊥) → (c.operation ≡ 4 → ⊥) → length c.before ≤ 4096
    one true e n3 n4 = small 1 1 (is_of c.operation 1 e) (λ k. k) (omega arith)
    one false e n3 n4 = two (c.operation == 2) refl (not_of c.operation 1 e) n3 n4

    four_is : (y : Bool) → (c.operation == 4) ≡ y → (c.operation ≡ 3 → ⊥) → length c.before ≤ 4096
    four_is true e n3 = fit (Set c.slot c.before) (back_at c 4 (is_of c.operation 4 e)) refl (omega arith)
    four_is false e n3 = one (c.operation == 1) refl n3 (not_of c.operation 4 e)

    three : (y : Bool) → (c.operation == 3) ≡ y → length c.before ≤ 4096
    three true e = fit (Put c.slot c.before) (back_at c 3 (is_of c.operation 3 e)) refl (omega arith)
    three false e = four_is (c.operation == 4) refl (not_of c.operation 3 e)

pub brief_off : (t : Table) (x : State) (r : Record) (c comp : Change) (previous : ℕ) → IsRecord r → IsChangeOf r c previous → comp ≡ comp_of c → fits t x (meaning comp) ≡ true → IsBrief c
brief_off t x r c comp previous h is same f = by_change c (subst (λ (s : Says). IsRecord (by r.transaction r.previous s)) is.says h) (subst (λ (d : Change). fits t x (meaning d) ≡ true) same f)
  where
    by_change : (w : Change) → IsRecord (by r.transaction r.previous (Changed w)) → fits t x (meaning (comp_of w)) ≡ true → IsBrief w
    by_change (SegWrite w) k g = tt
    by_change (SegOp w) k g = tt
    by_change (Page w) k g =
        let z = fields_of r.transaction r.previous (Changed (Page w)) k in
        page_brief t x r.transaction r.previous w (le_of 1 w.operation (and_left (nat_le 1 w.operation) (nat_le w.operation 7) z.1.0)) (le_of w.operation 7 (and_right (nat_le 1 w.operation) (nat_le w.operation 7) z.1.0)) z.1.1.0 g
