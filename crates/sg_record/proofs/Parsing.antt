-- A record is told from its bytes, and back.
use Rattle.std.proofs.Common.{◌≡◌, ℕ, ◌+◌, ◌-◌, ◌^◌, ◌<◌, ◌≤◌, true, false, nat_lt, nat_le, List, [], ◌∷◌, ◌++◌, length, take, drop, slice_index, Bool, Option, Some, None, Result, Ok, Err, cond, refl, sym, ap, ◌∙◌, subst, arith, append_assoc, length-append, length-drop}
use Rattle.std.proofs.Math.Seq.{take-add, take-append_seam, drop-append_seam}
use Rattle.std.proofs.lemmas.List.{length-take-le}
use Rattle.std.proofs.lemmas.List.Elements.{All-drop, All-take}
use Rattle.std.proofs.lemmas.Bool.Decides.{nat_tests}
use Rattle.byteorder.specs.Endian.{little_bytes, little_number}
use Rattle.byteorder.specs.Numbers.{little_number-reads_back, little_from-lt}
use Rattle.sg_base.specs.Bytes.{IsBytes}
use Rattle.sg_base.specs.Elements.{byte_at}
use Rattle.sg_base.proofs.Forms.{little_bytes-back}
use Rattle.sg_record.specs.declared.kind.Kind.{Kind}
use Rattle.sg_record.specs.declared.record.RecError.{RecError}
use Rattle.sg_record.specs.declared.record.RecError.TheVariants.{Short, BadField}
use Rattle.sg_record.specs.Records.{Record, Says, HEADER, header, kind_of, code_of, body_of, SaysFits, spelled}
use Rattle.sg_record.specs.Records.Says.{Changed, PhysComp}
use Rattle.sg_base.specs.Forms.{Form}
use Rattle.sg_record.specs.Changes.{Change, BandBytes, ChangeFits, write_form, rewrite_form}
use Rattle.sg_record.specs.Changes.Change.{Page, SegWrite, SegOp}
use Rattle.sg_record.specs.Ranges.{IsRecord, GREATEST, out_of_range, first_out, says_fields, ArgsFit, HasArgs}
use Rattle.sg_record.specs.Reading.{kind_with, read_says, size_at, transaction_at, previous_at, body_at, in_range, parse_says, parse_kind, parse}
use Rattle.sg_record.proofs.Laws.{kind_only, kind_back, says_only, says_back}

abbrev pub record_at : List ℕ → Says → Record
record_at bytes says = record { transaction = transaction_at bytes; previous = previous_at bytes; says = says }

-- a record was found at the front of some bytes
pub record IsParsed (bytes : List ℕ) (r : Record) (size : ℕ) : Type 0 where
  pub kind : Kind
  pub says : Says
  pub headed : HEADER ≤ length bytes
  pub kind_is : kind_with (slice_index bytes 0) ≡ Some kind
  pub whole : size_at bytes ≤ length bytes
  pub least : HEADER ≤ size_at bytes
  pub said : read_says kind (body_at bytes) ≡ Some says
  pub ranges : out_of_range (record_at bytes says) ≡ None
  pub is : record_at bytes says ≡ r
  pub size_is : size_at bytes ≡ size

-- a test that refuses what was accepted didn't hold
passed : {A E : Type 0} (b : Bool) (e : E) (r : Result A E) (a : A) → cond b (Err e) r ≡ Ok a → (b ≡ false) × (r ≡ Ok a)
passed true e r a h = absurd (cc)
passed false e r a h = (refl, h)

ranges_found : (o : Option ℕ) (r s : Record) (n m : ℕ) → in_range r n o ≡ Ok (s, m) → (o ≡ None) × (r ≡ s) × (n ≡ m)
ranges_found None r s n m h = let same : (r, n) ≡ (s, m) = cc in (refl, ap (λ (p : Record × ℕ). p.0) same, ap (λ (p : Record × ℕ). p.1) same)
ranges_found (Some at) r s n m h = absurd (cc)

says_found : (kind : Kind) (bytes : List ℕ) (r : Record) (size : ℕ) (o : Option Says) → kind_with (slice_index bytes 0) ≡ Some kind → HEADER ≤ length bytes → size_at bytes ≤ length bytes → HEADER ≤ size_at bytes → read_says kind (body_at bytes) ≡ o → parse_says kind bytes o ≡ Ok (r, size) → IsParsed bytes r size
unfolding parse_says
says_found kind bytes r size None is headed whole least said h = absurd (cc)
says_found kind bytes r size (Some says) is headed whole least said h =
    let found = ranges_found (out_of_range (record_at bytes says)) (record_at bytes says) r (size_at bytes) size h in
    record { kind = kind; says = says; headed = headed; kind_is = is; whole = whole; least = least; said = said; ranges = found.0; is = found.1; size_is = found.2 }

kind_found : (bytes : List ℕ) (r : Record) (size : ℕ) (o : Option Kind) → kind_with (slice_index bytes 0) ≡ o → HEADER ≤ length bytes → parse_kind bytes o ≡ Ok (r, size) → IsParsed bytes r size
unfolding parse_kind
kind_found bytes r size None is headed h = absurd (cc)
kind_found bytes r size (Some kind) is headed h =
    let one = passed (nat_lt (length bytes) (size_at bytes)) Short _ (r, size) h in
    let two = passed (nat_lt (size_at bytes) HEADER) (BadField 1) (parse_says kind bytes (read_says kind (body_at bytes))) (r, size) one.1 in
    let short : nat_lt (length bytes) (size_at bytes) ≡ false = one.0 in
    let small : nat_lt (size_at bytes) HEADER ≡ false = two.0 in
    says_found kind bytes r size (read_says kind (body_at bytes)) is headed (grind (arith, nat_tests, short)) (grind (arith, nat_tests, small)) refl two.1

pub parsed : (bytes : List ℕ) (r : Record) (size : ℕ) → parse bytes ≡ Ok (r, size) → IsParsed bytes r size
unfolding parse
parsed bytes r size h =
    let one = passed (nat_lt (length bytes) HEADER) Short (parse_kind bytes (kind_with (slice_index bytes 0))) (r, size) h in
    let short : nat_lt (length bytes) HEADER ≡ false = one.0 in
    kind_found bytes r size (kind_with (slice_index bytes 0)) refl (grind (arith, nat_tests, short)) one.1

pub parses : (bytes : List ℕ) (r : Record) (size : ℕ) → IsParsed bytes r size → parse bytes ≡ Ok (r, size)
unfolding parse parse_kind parse_says
parses bytes r size h =
    let headed : HEADER ≤ length bytes = h.headed in
    let whole : size_at bytes ≤ length bytes = h.whole in
    let least : HEADER ≤ size_at bytes = h.least in
    let one : nat_lt (length bytes) HEADER ≡ false = grind (arith, nat_tests, headed) in
    let two : nat_lt (length bytes) (size_at bytes) ≡ false = grind (arith, nat_tests, whole) in
    let three : nat_lt (size_at bytes) HEADER ≡ false = grind (arith, nat_tests, least) in
    let found : Record → ℕ → Result (Record × ℕ) RecError = λ r n. Ok (r, n) in
    ap (λ (b : Bool). cond b (Err Short) (parse_kind bytes (kind_with (slice_index bytes 0)))) one
    ∙ (ap (parse_kind bytes) h.kind_is
    ∙ (ap (λ (b : Bool). cond b (Err Short) (cond (nat_lt (size_at bytes) HEADER) (Err (BadField 1)) (parse_says h.kind bytes (read_says h.kind (body_at bytes))))) two
    ∙ (ap (λ (b : Bool). cond b (Err (BadField 1)) (parse_says h.kind bytes (read_says h.kind (body_at bytes)))) three
    ∙ (ap (parse_says h.kind bytes) h.said
    ∙ (ap (in_range (record_at bytes h.says) (size_at bytes)) h.ranges
    ∙ (ap (λ (x : Record). found x (size_at bytes)) h.is ∙ ap (found r) h.size_is))))))

one : (bytes : List ℕ) → 1 ≤ length bytes → take 1 bytes ≡ slice_index bytes 0 ∷ []
one [] h = absurd (omega arith)
one (b ∷ bs) h = refl

-- the number in the bytes from a place on has these bytes
field : (at size : ℕ) (bytes : List ℕ) (number : ℕ) → IsBytes bytes → at + size ≤ length bytes → little_bytes size number ≡ take size (drop at bytes) → take (at + size) bytes ≡ take at bytes ++ little_bytes size number
field at size bytes number are long is = take-add at size bytes ∙ ap (λ (xs : List ℕ). take at bytes ++ xs) (sym is)

-- the bytes of the header
front : (bytes : List ℕ) → IsBytes bytes → HEADER ≤ length bytes → take HEADER bytes ≡ header (slice_index bytes 0) (size_at bytes) (transaction_at bytes) (previous_at bytes)
front bytes are h =
    let small : (at : ℕ) → IsBytes (drop at bytes) = λ at. All-drop (λ x. x < 256) at bytes are in
    let size : take 5 bytes ≡ take 1 bytes ++ little_bytes 4 (size_at bytes) =
    field 1 4 bytes (size_at bytes) are (omega arith) (little_bytes-back 4 (drop 1 bytes) (small 1) (omega (arith, length-drop 1 bytes))) in
    let transaction : take 13 bytes ≡ take 5 bytes ++ little_bytes 8 (transaction_at bytes) =
    field 5 8 bytes (transaction_at bytes) are (omega arith) (little_bytes-back 8 (drop 5 bytes) (small 5) (omega (arith, length-drop 5 bytes))) in
    let previous : take 21 bytes ≡ take 13 bytes ++ little_bytes 8 (previous_at bytes) =
    field 13 8 bytes (previous_at bytes) are (omega arith) (little_bytes-back 8 (drop 13 bytes) (small 13) (omega (arith, length-drop 13 bytes))) in
    let a : take 5 bytes ≡ slice_index bytes 0 ∷ little_bytes 4 (size_at bytes) = size ∙ ap (λ (xs : List ℕ). xs ++ little_bytes 4 (size_at bytes)) (one bytes (omega arith)) in
    let b : take 13 bytes ≡ (slice_index bytes 0 ∷ little_bytes 4 (size_at bytes)) ++ little_bytes 8 (transaction_at bytes) = transaction ∙ ap (λ (xs : List ℕ). xs ++ little_bytes 8 (transaction_at bytes)) a in
    previous ∙ ap (λ (xs : List ℕ). xs ++ little_bytes 8 (previous_at bytes)) b

-- header and body
whole_text : (bytes : List ℕ) → IsBytes bytes → HEADER ≤ size_at bytes → HEADER ≤ length bytes → take (size_at bytes) bytes ≡ header (slice_index bytes 0) (size_at bytes) (transaction_at bytes) (previous_at bytes) ++ body_at bytes
whole_text bytes are least h =
    let n : HEADER + (size_at bytes - HEADER) ≡ size_at bytes = omega arith in
    ap (λ (k : ℕ). take k bytes) (sym n) ∙ (take-add HEADER (size_at bytes - HEADER) bytes ∙ ap (λ (xs : List ℕ). xs ++ body_at bytes) (front bytes are h))

pub length-body_at : (bytes : List ℕ) → size_at bytes ≤ length bytes → length (body_at bytes) ≡ size_at bytes - HEADER
length-body_at bytes whole = length-take-le (size_at bytes - HEADER) (drop HEADER bytes) (omega (arith, length-drop HEADER bytes))

pub bytes-body_at : (bytes : List ℕ) → IsBytes bytes → IsBytes (body_at bytes)
bytes-body_at bytes are = All-take (λ x. x < 256) (size_at bytes - HEADER) (drop HEADER bytes) (All-drop (λ x. x < 256) HEADER bytes are)

number_below : (size : ℕ) (bytes : List ℕ) → IsBytes bytes → little_number size bytes < 256 ^ size
number_below size bytes are = little_from-lt 0 size bytes (λ k. byte_at bytes k are)

-- the record, its length and its bytes
pub record Spells (r : Record) (size : ℕ) (text : List ℕ) : Type 0 where
  pub text_is : text ≡ spelled r
  pub size_is : size ≡ length (spelled r)
  pub fields : IsRecord r

-- only the spelling of a record whose fields are in their ranges is accepted
pub parse_only : (bytes : List ℕ) (r : Record) (size : ℕ) → IsBytes bytes → parse bytes ≡ Ok (r, size) → Spells r size (take size bytes)
unfolding spelled
parse_only bytes r size are h =
    let p = parsed bytes r size h in
    let said = says_only p.kind (body_at bytes) p.says (bytes-body_at bytes are) p.said in
    let kind : slice_index bytes 0 ≡ code_of (kind_of p.says) = sym (ap code_of said.kind_is ∙ kind_only (slice_index bytes 0) p.kind p.kind_is) in
    let long : size_at bytes ≡ HEADER + length (body_of p.says) = omega (arith, p.least, length-body_at bytes p.whole, ap length said.text_is) in
    let t : ℕ = transaction_at bytes in
    let q : ℕ = previous_at bytes in
    let text : take (size_at bytes) bytes ≡ spelled (record_at bytes p.says) =
    whole_text bytes are p.least p.headed
    ∙ (ap (λ (k : ℕ). header k (size_at bytes) t q ++ body_at bytes) kind
    ∙ (ap (λ (n : ℕ). header (code_of (kind_of p.says)) n t q ++ body_at bytes) long
    ∙ ap (λ (xs : List ℕ). header (code_of (kind_of p.says)) (HEADER + length (body_of p.says)) t q ++ xs) said.text_is)) in
    let all : Spells (record_at bytes p.says) (size_at bytes) (take (size_at bytes) bytes) = record {
      text_is = text;
      size_is = long ∙ sym (length-append (header (code_of (kind_of p.says)) (HEADER + length (body_of p.says)) t q) (body_of p.says));
      fields = record {
        transaction = number_below 8 (drop 5 bytes) (All-drop (λ x. x < 256) 5 bytes are);
        previous = number_below 8 (drop 13 bytes) (All-drop (λ x. x < 256) 13 bytes are);
        fits = said.fits;
        ranges = p.ranges;
      };
    } in
    subst (λ (x : Record). Spells x size (take size bytes)) p.is (subst (λ (n : ℕ). Spells (record_at bytes p.says) n (take n bytes)) p.size_is all)

first_holds : (b : Bool) (at : ℕ) (o : Option ℕ) → cond b o (Some at) ≡ None → b ≡ true
first_holds true at o h = refl
first_holds false at o h = absurd (cc)

-- a record has at most so many bytes behind its header
pub body_most : (r : Record) → IsRecord r → HEADER + length (body_of r.says) ≤ GREATEST
body_most r h =
    let b : nat_le (HEADER + length (body_of r.says)) GREATEST ≡ true = first_holds (nat_le (HEADER + length (body_of r.says)) GREATEST) 1 (first_out (says_fields r.transaction r.previous r.says)) h.ranges in
    grind (arith, nat_tests, b)

body_within : (size : ℕ) (front body rest : List ℕ) → length front ≡ HEADER → size ≡ HEADER + length body → take (size - HEADER) (drop HEADER (front ++ (body ++ rest))) ≡ body
body_within size front body rest long is =
    let n : size - HEADER ≡ length body = omega arith in
    ap (λ (k : ℕ). take (size - HEADER) (drop k (front ++ (body ++ rest)))) (sym long)
    ∙ (ap (take (size - HEADER)) (drop-append_seam front (body ++ rest)) ∙ (ap (λ (k : ℕ). take k (body ++ rest)) n ∙ take-append_seam body rest))

-- a record is read back, whatever follows it
pub parse_back : (r : Record) (rest : List ℕ) → IsRecord r → parse (spelled r ++ rest) ≡ Ok (r, length (spelled r))
unfolding spelled
parse_back r rest h =
    let body : List ℕ = body_of r.says in
    let size : ℕ = HEADER + length body in
    let code : ℕ = code_of (kind_of r.says) in
    let head : List ℕ = header code size r.transaction r.previous in
    let bytes : List ℕ = head ++ (body ++ rest) in
    let most : size ≤ GREATEST = body_most r h in
    let size_is : size_at bytes ≡ size = little_number-reads_back 4 size (little_bytes 8 r.transaction ++ (little_bytes 8 r.previous ++ (body ++ rest))) (omega arith) in
    let t_is : transaction_at bytes ≡ r.transaction = little_number-reads_back 8 r.transaction (little_bytes 8 r.previous ++ (body ++ rest)) h.transaction in
    let p_is : previous_at bytes ≡ r.previous = little_number-reads_back 8 r.previous (body ++ rest) h.previous in
    let body_is : body_at bytes ≡ body = body_within (size_at bytes) head body rest refl size_is in
    let all : length (body ++ rest) ≡ length body + length rest = length-append body rest in
    let long : length (head ++ body) ≡ size = length-append head body in
    let same : record_at bytes r.says ≡ r = ap (λ (n : ℕ). let x : Record = record { transaction = n; previous = previous_at bytes; says = r.says } in x) t_is ∙ ap (λ (n : ℕ). let x : Record = record { transaction = r.transaction; previous = n; says = r.says } in x) p_is in
    ap parse (append_assoc head body rest)
    ∙ parses bytes r (length (spelled r)) (record {
      kind = kind_of r.says;
      says = r.says;
      headed = omega arith;
      kind_is = kind_back (kind_of r.says);
      whole = omega arith;
      least = omega arith;
      said = ap (read_says (kind_of r.says)) body_is ∙ says_back r.says h.fits;
      ranges = ap out_of_range same ∙ h.ranges;
      is = same;
      size_is = size_is ∙ sym long;
    })

-- no record's spelling begins another's
pub spelled_first : (r s : Record) (a b : List ℕ) → IsRecord r → IsRecord s → spelled r ++ a ≡ spelled s ++ b → (r ≡ s) × (a ≡ b)
spelled_first r s a b h k e =
    let P : Record → ℕ → Result (Record × ℕ) RecError = λ r n. Ok (r, n) in
    let both : P r (length (spelled r)) ≡ P s (length (spelled s)) = sym (parse_back r a h) ∙ (ap parse e ∙ parse_back s b k) in
    let pairs : (r, length (spelled r)) ≡ (s, length (spelled s)) = cc in
    let same : r ≡ s = ap (λ (p : Record × ℕ). p.0) pairs in
    let again : spelled r ++ a ≡ spelled r ++ b = e ∙ ap (λ (x : Record). spelled x ++ b) (sym same) in
    (same, sym (drop-append_seam (spelled r) a) ∙ (ap (drop (length (spelled r))) again ∙ drop-append_seam (spelled r) b))

-- the length of a record that was read
pub read_size : (kind : Kind) (bytes : List ℕ) (says : Says) → IsBytes bytes → HEADER ≤ size_at bytes → size_at bytes ≤ length bytes → read_says kind (body_at bytes) ≡ Some says → size_at bytes ≡ HEADER + length (body_of says)
read_size kind bytes says are least whole h =
    let said = says_only kind (body_at bytes) says (bytes-body_at bytes are) h in
    omega (arith, length-body_at bytes whole, ap length said.text_is)

change_args : (write : Form BandBytes) (change : Change) → ChangeFits write change → ArgsFit change
change_args write (Page c) fits = tt
change_args write (SegWrite c) fits = tt
change_args write (SegOp c) fits = fits.1.1.1.1.1.0.0

says_args : (says : Says) → SaysFits says → HasArgs says
says_args (Changed change) fits = change_args write_form change fits
says_args (PhysComp undo_next change) fits = change_args rewrite_form change fits.1
says_args _ fits = tt

-- the length of its argument, if it has one
pub read_args : (kind : Kind) (bytes : List ℕ) (says : Says) → IsBytes bytes → read_says kind (body_at bytes) ≡ Some says → HasArgs says
read_args kind bytes says are h = says_args says (says_only kind (body_at bytes) says (bytes-body_at bytes are) h).fits
