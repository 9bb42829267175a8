use Rattle.std.proofs.Common.{◌≡◌, ◌≤◌, ◌<◌, ℕ, Bool, true, false, List, length, Some, None, Err, sym, ap, ◌∙◌, arith}
use Rattle.std.specs.Prelude.{nat_lt, if◌then◌else◌, slice_index}
use Rattle.std.proofs.lemmas.Bool.Decides.{nat_tests}
use Rattle.std.proofs.lemmas.List.{take_rest}
use Rattle.byteorder.specs.Endian.{little_number}
use Rattle.sg_record.specs.Records.{HEADER}
use Rattle.sg_record.specs.Reading.{Parsed, size_at, body_at, kind_with, read_says, parse_says, parse_kind, parse}
use Rattle.sg_record.specs.declared.kind.Kind.{Kind}
use Rattle.sg_record.specs.declared.record.RecError.TheVariants.{Short, BadKind, BadField}
use Rattle.sg_record.proofs.reader.read.Goals as goal

-- what is read by whether the bytes are short of a header
begun : Bool → List ℕ → Parsed
begun short bytes = if short then Err Short else parse_kind bytes (kind_with (slice_index bytes 0))

-- and by whether they are short of the stated length, and that of a header
sized : Bool → Bool → Kind → List ℕ → Parsed
sized short least kind bytes = if short then Err Short else (if least then Err (BadField 1) else parse_says kind bytes (read_says kind (body_at bytes)))

below : (a b : ℕ) → a < b → nat_lt a b ≡ true
below a b h = grind (arith, nat_tests, h)

above : (a b : ℕ) → b ≤ a → nat_lt a b ≡ false
above a b h = grind (arith, nat_tests, h)

is_short : (bytes : List ℕ) → length bytes < HEADER → parse bytes ≡ Err Short
unfolding parse begun
is_short bytes h = ap (λ b. begun b bytes) (below (length bytes) HEADER h)

has_header : (bytes : List ℕ) → HEADER ≤ length bytes → parse bytes ≡ parse_kind bytes (kind_with (slice_index bytes 0))
unfolding parse begun
has_header bytes h = ap (λ b. begun b bytes) (above (length bytes) HEADER h)

no_kind : (bytes : List ℕ) → HEADER ≤ length bytes → kind_with (slice_index bytes 0) ≡ None → parse bytes ≡ Err (BadKind (slice_index bytes 0))
unfolding parse_kind
no_kind bytes h none = has_header bytes h ∙ ap (parse_kind bytes) none

module _ (bytes : List ℕ) (kind : Kind) (n : ℕ) (header : HEADER ≤ length bytes) (some : kind_with (slice_index bytes 0) ≡ Some kind) (stated : n ≡ size_at bytes) where
  has_kind : parse bytes ≡ sized (nat_lt (length bytes) n) (nat_lt n HEADER) kind bytes
  unfolding parse_kind sized
  has_kind = has_header bytes header ∙ (ap (parse_kind bytes) some ∙ ap (λ m. sized (nat_lt (length bytes) m) (nat_lt m HEADER) kind bytes) (sym stated))

  is_short_of_it : length bytes < n → parse bytes ≡ Err Short
  unfolding sized
  is_short_of_it h = has_kind ∙ ap (λ b. sized b (nat_lt n HEADER) kind bytes) (below (length bytes) n h)

  is_least : n ≤ length bytes → n < HEADER → parse bytes ≡ Err (BadField 1)
  unfolding sized
  is_least h g = has_kind ∙ (ap (λ b. sized b (nat_lt n HEADER) kind bytes) (above (length bytes) n h) ∙ ap (λ b. sized false b kind bytes) (below n HEADER g))

  is_whole : n ≤ length bytes → HEADER ≤ n → parse bytes ≡ parse_says kind bytes (read_says kind (body_at bytes))
  unfolding sized
  is_whole h g = has_kind ∙ (ap (λ b. sized b (nat_lt n HEADER) kind bytes) (above (length bytes) n h) ∙ ap (λ b. sized false b kind bytes) (above n HEADER g))

pub returns-then-bytes-lt-HEADER_SIZE : goal.returns-then-bytes-lt-HEADER_SIZE
returns-then-bytes-lt-HEADER_SIZE c = sym (is_short c.args.bytes.now c.if-bytes-lt-HEADER_SIZE.true)

pub returns-in_default : goal.returns-in_default
returns-in_default c = sym (no_kind c.args.bytes.now c.if-bytes-lt-HEADER_SIZE.false (sym c.kind_with.ensures ∙ c.in_default.is))

pub returns-then-bytes-size : goal.returns-then-bytes-size
returns-then-bytes-size c =
    let stated = c.read_u32-size.ensures.value ∙ ap (little_number 4) (take_rest c.args.bytes.now 1) in
    sym (is_short_of_it c.args.bytes.now c.in-Some.kind c.read_u32-size.result c.if-bytes-lt-HEADER_SIZE.false (sym c.kind_with.ensures ∙ c.in-Some.is) stated c.if-bytes-size.true)

pub returns-then-size-lt-HEADER_SIZE : goal.returns-then-size-lt-HEADER_SIZE
returns-then-size-lt-HEADER_SIZE c =
    let stated = c.read_u32-size.ensures.value ∙ ap (little_number 4) (take_rest c.args.bytes.now 1) in
    sym (is_least c.args.bytes.now c.in-Some.kind c.read_u32-size.result c.if-bytes-lt-HEADER_SIZE.false (sym c.kind_with.ensures ∙ c.in-Some.is) stated c.if-bytes-size.false c.if-size-lt-HEADER_SIZE.true)

pub read_fields-requires-clause-stated : goal.read_fields-requires-clause-stated
read_fields-requires-clause-stated c = c.read_u32-size.ensures.value ∙ ap (little_number 4) (take_rest c.args.bytes.now 1)

pub returns : goal.returns
returns c =
    let stated = c.read_u32-size.ensures.value ∙ ap (little_number 4) (take_rest c.args.bytes.now 1) in
    c.read_fields.ensures
    ∙ sym (is_whole c.args.bytes.now c.in-Some.kind c.read_u32-size.result c.if-bytes-lt-HEADER_SIZE.false (sym c.kind_with.ensures ∙ c.in-Some.is) stated c.if-bytes-size.false c.if-size-lt-HEADER_SIZE.false)
