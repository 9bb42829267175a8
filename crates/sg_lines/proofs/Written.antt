-- The text of objects, written line by line.
use Rattle.std.proofs.Common.{◌≡◌, ℕ, zero, suc, ◌+◌, ◌*◌, ◌-◌, ◌<◌, arith, min, List, [], ◌∷◌, ◌++◌, length, take, drop, Option, Some, None, unwrap_or, length-drop, Result, Ok, Err, slice_get, slice_index_or, refl, sym, ap, ◌∙◌, subst, add-one}
use Rattle.std.proofs.lemmas.List.{take_min}
use Rattle.std.proofs.lemmas.Option.{unwrap_or-slice_get}
use Rattle.sg_base.specs.Ends.{HasRisen, Takes, TakesFront}
use Rattle.sg_words.specs.Writing.{Writes}
use Rattle.sg_words.proofs.Steps.{Takes-more, Takes-nothing, front_behind}
use Rattle.sg_words.proofs.Waits.{front_longer}
use Rattle.sg_lines.specs.Text.{item_line, item_lines, piece_line, piece_lines}
use Rattle.sg_lines.proofs.Growing.{rest_behind}

-- so far: the sink took these bytes, and didn't fail
pub record IsWritten (had : Option (List ℕ)) (done : List ℕ) (has : Option (List ℕ)) (before now : ℕ) : Type 0 where
  pub took : Takes had done has
  pub quiet : now ≡ before

pub none_written : (had : Option (List ℕ)) (n : ℕ) → IsWritten had [] had n n
none_written had n = record { took = Takes-nothing had; quiet = refl }

pub one_written : {T E : Type 0} {had mid has : Option (List ℕ)} {done piece : List ℕ} {before between now : ℕ} (x : T) → IsWritten had done mid before between → Writes {E = E} mid piece has between now (Ok x) → IsWritten had (done ++ piece) has before now
one_written {had = had} {mid = mid} {has = has} {done = done} {piece = piece} x h w = record { took = Takes-more had done mid piece has h.took w.took; quiet = w.quiet ∙ h.quiet }

-- the text of these was written
pub all_written : {T E : Type 0} {had has : Option (List ℕ)} {done : List ℕ} {before now : ℕ} (x : T) (all : List ℕ) → done ≡ all → IsWritten had done has before now → Writes {E = E} had all has before now (Ok x)
all_written {had = had} {has = has} x all is h = record {
  took = subst (λ (t : List ℕ). Takes had t has) is h.took;
  cut = tt;
  later = omega (arith, h.quiet);
  quiet = h.quiet;
  failed = tt;
}

-- the sink failed in a piece of it
pub cut_written : {T E T' E' : Type 0} {had mid has : Option (List ℕ)} {done piece : List ℕ} {before between now : ℕ} (e : E) (e' : E') → (rest all : List ℕ) → (done ++ piece) ++ rest ≡ all → IsWritten had done mid before between → Writes {T = T} mid piece has between now (Err e)
    → Writes {T = T'} had all has before now (Err e')
cut_written {had = had} {mid = mid} {has = has} {done = done} {piece = piece} {before = before} {between = between} {now = now} e e' rest all whole h w = record {
  took = tt;
  cut = subst (λ (t : List ℕ). TakesFront had t has) whole (front_longer had (done ++ piece) rest has (front_behind had done mid piece has h.took w.cut));
  later = omega (arith, h.quiet, w.later);
  quiet = tt;
  failed = subst (λ n. HasRisen n now) h.quiet w.failed;
}

-- a text was written behind another
pub then_written : {T T' E E' : Type 0} {had mid has : Option (List ℕ)} {x y : List ℕ} {before between now : ℕ} (u : T') (r : Result T E) → Writes {E = E'} had x mid before between (Ok u) → Writes mid y has between now r → Writes had (x ++ y) has before now r
then_written {had = had} {mid = mid} {has = has} {x = x} {y = y} u (Ok v) first w = record {
  took = Takes-more had x mid y has first.took w.took;
  cut = tt;
  later = omega (arith, first.later, w.later);
  quiet = w.quiet ∙ first.quiet;
  failed = tt;
}
then_written {had = had} {mid = mid} {has = has} {x = x} {y = y} {now = now} u (Err e) first w = record {
  took = tt;
  cut = front_behind had x mid y has first.took w.cut;
  later = omega (arith, first.later, w.later);
  quiet = tt;
  failed = subst (λ n. HasRisen n now) first.quiet w.failed;
}

-- the sink failed in the first of two texts
pub first_failed : {T T' E E' : Type 0} {had has : Option (List ℕ)} {x : List ℕ} {before now : ℕ} (e : E) (e' : E') (y : List ℕ) → Writes {T = T} had x has before now (Err e) → Writes {T = T'} had (x ++ y) has before now (Err e')
first_failed {had = had} {has = has} {x = x} e e' y w = record { took = tt; cut = front_longer had x y has w.cut; later = w.later; quiet = tt; failed = w.failed }

-- two texts, where the answer to both is another one
pub then_text : {T T' T'' E E' E'' : Type 0} {had mid has : Option (List ℕ)} {x y : List ℕ} {before between now : ℕ} (u : T) (v : T') (w : T'') → Writes {E = E} had x mid before between (Ok u) → Writes {E = E'} mid y has between now (Ok v) → Writes {E = E''} had (x ++ y) has before now (Ok w)
then_text {had = had} {mid = mid} {has = has} {x = x} {y = y} u v w first next = record {
  took = Takes-more had x mid y has first.took next.took;
  cut = tt;
  later = omega (arith, first.later, next.later);
  quiet = next.quiet ∙ first.quiet;
  failed = tt;
}

pub then_failed : {T T' T'' E E' E'' : Type 0} {had mid has : Option (List ℕ)} {x y : List ℕ} {before between now : ℕ} (u : T) (e : E') (e' : E'') → Writes {E = E} had x mid before between (Ok u) → Writes {T = T'} mid y has between now (Err e) → Writes {T = T''} had (x ++ y) has before now (Err e')
then_failed {had = had} {mid = mid} {has = has} {x = x} {y = y} {now = now} u e e' first next = record {
  took = tt;
  cut = front_behind had x mid y has first.took next.cut;
  later = omega (arith, first.later, next.later);
  quiet = tt;
  failed = subst (λ n. HasRisen n now) first.quiet next.failed;
}

-- one item, and one piece more
pub item_lines-more : (n : ℕ) (items : List (List ℕ)) → item_lines (n + 1) items ≡ item_lines n items ++ item_line n (slice_index_or items n [])
unfolding item_lines
item_lines-more n items = rw add-one refl

pub piece_lines-more : (n : ℕ) (bytes : List ℕ) → piece_lines (n + 1) bytes ≡ piece_lines n bytes ++ piece_line (32 * n) (take 32 (drop (32 * n) bytes))
unfolding piece_lines
piece_lines-more n bytes = rw add-one refl

pub item_lines-none : (items : List (List ℕ)) → item_lines 0 items ≡ []
unfolding item_lines
item_lines-none items = refl

pub piece_lines-none : (bytes : List ℕ) → piece_lines 0 bytes ≡ []
unfolding piece_lines
piece_lines-none bytes = refl

-- the item at an index, and the lines behind it
pub item_at : (items : List (List ℕ)) (i : ℕ) (item : List ℕ) → slice_get items i ≡ Some item → slice_index_or items i [] ≡ item
item_at items i item e = sym (unwrap_or-slice_get items i []) ∙ ap (λ (o : Option (List ℕ)). unwrap_or o []) e

pub item_none : (items : List (List ℕ)) (i : ℕ) → slice_get items i ≡ None → slice_index_or items i [] ≡ []
item_none items i e = sym (unwrap_or-slice_get items i []) ∙ ap (λ (o : Option (List ℕ)). unwrap_or o []) e

pub item_there : (items : List (List ℕ)) (i : ℕ) → i < length items → slice_get items i ≡ None → ⊥
item_there [] i lt e = absurd (omega arith)
item_there (x ∷ items) zero lt e = cc
item_there (x ∷ items) (suc i) lt e = item_there items i (omega arith) e

item_lines_next : (items : List (List ℕ)) (n : ℕ) → item_lines (suc n) items ≡ item_lines n items ++ item_line n (slice_index_or items n [])
unfolding item_lines
item_lines_next items n = refl

pub item_lines-rest : (n total : ℕ) (items : List (List ℕ)) → n < total → (rest : List ℕ) × ((item_lines n items ++ item_line n (slice_index_or items n [])) ++ rest ≡ item_lines total items)
item_lines-rest n total items lt = rest_behind (λ m. item_lines m items) (λ m. item_line m (slice_index_or items m [])) (item_lines_next items) n total lt

-- a piece of 32 bytes, and the lines behind it
pub piece_is : (bytes : List ℕ) (at end : ℕ) → end ≡ min (length bytes) (at + 32) → take (end - at) (drop at bytes) ≡ take 32 (drop at bytes)
piece_is bytes at end is =
    let size : end - at ≡ min 32 (length (drop at bytes)) = omega (arith, is, length-drop at bytes) in
    ap (λ n. take n (drop at bytes)) size ∙ take_min 32 (drop at bytes)

piece_lines_next : (bytes : List ℕ) (n : ℕ) → piece_lines (suc n) bytes ≡ piece_lines n bytes ++ piece_line (32 * n) (take 32 (drop (32 * n) bytes))
unfolding piece_lines
piece_lines_next bytes n = refl

pub piece_lines-rest : (n total : ℕ) (bytes : List ℕ) → n < total → (rest : List ℕ) × ((piece_lines n bytes ++ piece_line (32 * n) (take 32 (drop (32 * n) bytes))) ++ rest ≡ piece_lines total bytes)
piece_lines-rest n total bytes lt = rest_behind (λ m. piece_lines m bytes) (λ m. piece_line (32 * m) (take 32 (drop (32 * m) bytes))) (piece_lines_next bytes) n total lt
