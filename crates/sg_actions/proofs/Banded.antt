-- The bands of an open action stay kept, as it goes on.
use Rattle.std.proofs.Common.{◌≡◌, ◌≢◌, ◌⊎◌, ◌==◌, ℕ, zero, suc, ◌+◌, ◌*◌, ◌<◌, ◌≤◌, List, [], ◌∷◌, length, map, slice_get, slice_set, Option, Some, Bool, true, false, not, sym, ap, subst, ◌∙◌, refl, arith, inl, inr}
use Rattle.std.specs.Prelude.{◌&&◌, ◌||◌, replicate}
use Rattle.std.specs.List.{range_with_len}
use Rattle.std.proofs.lemmas.Bool.{cases_Bool, cases_eq, cases_lt}
use Rattle.std.proofs.lemmas.Bool.Decides.{nat_tests}
use Rattle.std.proofs.lemmas.Option.{slice_get_within}
use Rattle.sg_base.specs.Op.{Op}
use Rattle.sg_before.specs.Befores.{Fills, IsFilledAt, IsTakenBy, IsFill, written_on}
use Rattle.sg_ops.specs.Laws.{IsLawful}
use Rattle.sg_ops.specs.Meaning.{RangeMeaning}
use Rattle.sg_ops.specs.Shipped.{fill_meaning}
use Rattle.sg_ops.specs.Table.{Table, range_at, rendered, byte_of}
use Rattle.sg_action.specs.States.{State, Change, Kept}
use Rattle.sg_action.specs.States.Change.{Page, Write, Paint}
use Rattle.sg_actions.specs.Images.{Recovering}
use Rattle.sg_actions.specs.Later.{KeepsBands, ActsAt, Later, LaterBy, led_at, at_kept, at_bands}
use Rattle.sg_actions.specs.Taken.{is_set, takes_band}
use Rattle.sg_actions.proofs.Flags.{set_by}
use Rattle.sg_actions.proofs.Taking.{set_here, set_there}

or_right : (a b : Bool) → b ≡ true → (a || b) ≡ true
or_right true b e = refl
or_right false b e = e

no : true ≡ false → ⊥
no e = cc

-- A CHANGE OF A PAGE
pub bands_page : {t : Table} {kept : Kept} {ds : List Change} {bands : List Bool} (n : ℕ) (op back : Op) → KeepsBands t kept ds bands → KeepsBands t kept (Page n op back ∷ ds) bands
bands_page n op back h = record { filled = (h.filled, tt); whole = λ b e k l. inr (h.whole b e k l); used = h.used; written = h.written }

-- the same where the flags of the bands are these
pub bands_as : {t : Table} {kept : Kept} {ds : List Change} {bands bands' : List Bool} → bands' ≡ bands → KeepsBands t kept ds bands → KeepsBands t kept ds bands'
bands_as {t} {kept} {ds} e h = subst (λ (bs : List Bool). KeepsBands t kept ds bs) (sym e) h

-- BYTES ON A BAND THAT IS TAKEN: it was when the action began, or the action took it
had : {t : Table} {kept : Kept} {ds : List Change} {bands : List Bool} (b : ℕ) → KeepsBands t kept ds bands → kept.bands b ≡ (is_set bands b && not (takes_band ds b)) → is_set bands b ≡ true → (kept.bands b ≡ true) ⊎ IsTakenBy ds b
had {t} {kept} {ds} {bands} b h is set = elim (cases_Bool (takes_band ds b)) [
  | inl e ↦ inr (h.whole b e)
  | inr e ↦ inl (is ∙ ((λ i. set i && not (e i))))
]

written_by : (bands : List Bool) (b n : ℕ) (rest : Bool) → is_set bands b ≡ true → (rest ≡ true → is_set bands n ≡ true) → ((n == b) || rest) ≡ true → is_set bands n ≡ true
written_by bands b n rest set before h = elim (cases_eq n b) [
  | inl e ↦ ap (is_set bands) e ∙ set
  | inr ne ↦ before (sym (ap (λ (x : Bool). x || rest) (let f : (n == b) ≡ false = grind (arith, nat_tests, ne) in f)) ∙ h)
]

pub bands_write : {t : Table} {kept : Kept} {ds : List Change} {bands : List Bool} (b at : ℕ) (before after : List ℕ) → kept.bands b ≡ (is_set bands b && not (takes_band ds b)) → is_set bands b ≡ true → KeepsBands t kept ds bands → KeepsBands t kept (Write b at before after ∷ ds) bands
bands_write {t} {kept} {ds} {bands} b at before after is set h = record {
  filled = (h.filled, had b h is set);
  whole = λ n e k l. inr (h.whole n e k l);
  used = h.used;
  written = λ n e. written_by bands b n (written_on ds n) set (h.written n) e;
}

pub bands_paint : {t : Table} {kept : Kept} {ds : List Change} {bands : List Bool} (b at count code position : ℕ) (arg before : List ℕ) → 1 ≤ length before → kept.bands b ≡ (is_set bands b && not (takes_band ds b)) → is_set bands b ≡ true → KeepsBands t kept ds bands
    → KeepsBands t kept (Paint b at count code position arg before ∷ ds) bands
bands_paint b at count code position arg [] some is set h = absurd (omega (arith, some))
bands_paint {t} {kept} {ds} {bands} b at count code position arg (y ∷ before) some is set h = record {
  filled = (h.filled, had b h is set);
  whole = λ n e k l. inr (h.whole n e k l);
  used = h.used;
  written = λ n e. written_by bands b n (written_on ds n) set (h.written n) e;
}

-- A BAND THAT IS TAKEN, by its fills
abbrev pub Fill : (b at : ℕ) → Change
Fill b at = Paint b at 8192 1 0 [] []

abbrev pub filled_to : (b : ℕ) → (n : ℕ) → List Change → List Change
filled_to b zero ds = ds
filled_to b (suc n) ds = Fill b (8192 * n) ∷ filled_to b n ds

zeros_map : (f : ℕ → ℕ) → ((k : ℕ) → f k ≡ 0) → (a n : ℕ) → map f (range_with_len a n) ≡ replicate n 0
zeros_map f h a zero = refl
zeros_map f h a (suc n) = λ i. h a i ∷ zeros_map f h (a + 1) n i

rendered_zeros : (op : Option RangeMeaning) → op ≡ Some fill_meaning → (count : ℕ) → rendered op [] 0 count ≡ replicate count 0
unfolding rendered byte_of
rendered_zeros op e count = zeros_map (λ k. byte_of op [] (0 + k)) (λ k. ap (λ (o : Option RangeMeaning). byte_of o [] (0 + k)) e) 0 count

unwritten_on : (b n : ℕ) (ds : List Change) (q : ℕ) → written_on (filled_to b n ds) q ≡ written_on ds q
unwritten_on b zero ds q = refl
unwritten_on b (suc n) ds q = unwritten_on b n ds q

taken_to : (b n : ℕ) (ds : List Change) (q : ℕ) → q ≢ b → takes_band (filled_to b n ds) q ≡ takes_band ds q
taken_to b zero ds q ne = refl
taken_to b (suc n) ds q ne = ap (λ (x : Bool). x || takes_band (filled_to b n ds) q) (let f : (q == b) ≡ false = grind (arith, nat_tests, ne) in f) ∙ taken_to b n ds q ne

filled_behind : (b n : ℕ) (ds : List Change) (q k : ℕ) → IsFilledAt ds q k → IsFilledAt (filled_to b n ds) q k
filled_behind b zero ds q k h = h
filled_behind b (suc n) ds q k h = inr (filled_behind b n ds q k h)

filled_here : (b n : ℕ) (ds : List Change) (k : ℕ) → k < 8192 * n → IsFilledAt (filled_to b n ds) b k
filled_here b zero ds k l = absurd (omega (arith, l))
filled_here b (suc n) ds k l = elim (cases_lt k (8192 * n)) [
  | inl low ↦ inr (filled_here b n ds k low)
  | inr far ↦ inl (refl, far, (let z : k < 8192 * n + 8192 = omega (arith, l) in z))
]

are_filled : (t : Table) (kept : Kept) (b n : ℕ) (ds : List Change) → n ≤ 4 → range_at t 1 ≡ Some fill_meaning → written_on ds b ≡ false → Rattle.sg_before.specs.Befores.AreFilled t kept ds → Rattle.sg_before.specs.Befores.AreFilled t kept (filled_to b n ds)
are_filled t kept b zero ds few fill none h = h
are_filled t kept b (suc n) ds few fill none h = (
  are_filled t kept b n ds (omega (arith, few)) fill none h,
  record { first = unwritten_on b n ds b ∙ none; within = omega (arith, few); zeros = rendered_zeros (range_at t 1) fill 8192 },
)

pub bands_taken : {t : Table} {kept : Kept} {ds : List Change} {bands bands' : List Bool} (b : ℕ) → IsLawful t → slice_get bands b ≡ Some false → bands' ≡ slice_set bands b true → KeepsBands t kept ds bands → KeepsBands t kept (filled_to b 4 ds) bands'
bands_taken {t} {kept} {ds} {bands} {bands'} b law free is h = record {
  filled = are_filled t kept b 4 ds (omega arith) law.has_fill none h.filled;
  whole = λ n e k l. whole n e k l;
  used = λ n e. used n e;
  written = λ n e. stays n (h.written n (sym (unwritten_on b 4 ds n) ∙ e));
}
  where
    clear : is_set bands b ≡ false
    clear = set_by bands b false free

    none : written_on ds b ≡ false
    none = elim (cases_Bool (written_on ds b)) [
      | inl e ↦ absurd (no (sym (h.written b e) ∙ clear))
      | inr e ↦ e
    ]

    stays : (n : ℕ) → is_set bands n ≡ true → is_set bands' n ≡ true
    stays n e = elim (cases_eq n b) [
      | inl same ↦ absurd (no (sym e ∙ (ap (is_set bands) same ∙ clear)))
      | inr ne ↦ ap (λ (bs : List Bool). is_set bs n) is ∙ (set_there bands b n true ne ∙ e)
    ]

    used : (n : ℕ) → takes_band (filled_to b 4 ds) n ≡ true → is_set bands' n ≡ true
    used n e = elim (cases_eq n b) [
      | inl same ↦ ap (is_set bands') same ∙ (ap (λ (bs : List Bool). is_set bs b) is ∙ set_here bands b true (slice_get_within bands b false free))
      | inr ne ↦ stays n (h.used n (sym (taken_to b 4 ds n ne) ∙ e))
    ]

    whole : (n : ℕ) → takes_band (filled_to b 4 ds) n ≡ true → (k : ℕ) → k < 32768 → IsFilledAt (filled_to b 4 ds) n k
    whole n e k l = elim (cases_eq n b) [
      | inl same ↦ subst (λ (q : ℕ). IsFilledAt (filled_to b 4 ds) q k) (sym same) (filled_here b 4 ds k l)
      | inr ne ↦ filled_behind b 4 ds n k (h.whole n (sym (taken_to b 4 ds n ne) ∙ e) k l)
    ]

-- ITS FILLS are as many as there are
pub opens_first : {b : ℕ} (k : ℕ) {ds es : List Change} → 8192 ≡ 8192 * k → es ≡ Fill b 0 ∷ ds → es ≡ filled_to b k ds
opens_first {b} k {ds} {es} e is = subst (λ (n : ℕ). es ≡ filled_to b n ds) (let z : 1 ≡ k = omega (arith, e) in z) is

pub opens_next : {b at : ℕ} (k : ℕ) {ds es fs : List Change} → at + 8192 ≡ 8192 * k → ((j : ℕ) → at ≡ 8192 * j → es ≡ filled_to b j ds) → fs ≡ Fill b at ∷ es → fs ≡ filled_to b k ds
opens_next zero e before is = absurd (omega (arith, e))
opens_next {b} {at} (suc j) {ds} {es} {fs} e before is = is ∙ (λ i. Fill b (same i) ∷ before j same i)
  where
    same : at ≡ 8192 * j
    same = omega (arith, e)

-- A CALL that keeps them
pub strictly : {recovers : Table → Recovering} {limits : State → ℕ → ℕ} {t : Table} {a b : ActsAt} → Later recovers limits t a b
    → ((from : State) → a.means t from → a.engine.Told → at_kept t limits (led_at from a) → b.engine.failed ≡ false → at_bands t limits (led_at from a) → at_bands t limits (led_at from b)) → LaterBy true recovers limits t a b
strictly l h = record {
  told = l.told;
  tail = l.tail;
  faults = l.faults;
  grown = l.grown;
  begun = l.begun;
  pages = l.pages;
  bands = l.bands;
  accounts = l.accounts;
  still = l.still;
  stops = l.stops;
  means = l.means;
  goes = l.goes;
  holds = λ o. h;
}

-- and one that has failed
pub failed_strictly : {recovers : Table → Recovering} {limits : State → ℕ → ℕ} {t : Table} {a b : ActsAt} → b.engine.failed ≡ true → Later recovers limits t a b → LaterBy true recovers limits t a b
failed_strictly bad l = strictly l (λ from m told k w j. absurd (no (sym bad ∙ w)))
