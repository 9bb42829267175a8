-- Bytes that wait in a buffer before a sink takes them.
use Rattle.std.proofs.Common.{◌≡◌, ℕ, ◌+◌, ◌<◌, ◌≤◌, Bool, false, cond, drop, get_or, codes, Result, Ok, Err, IfOk, OnOk, OnErr, List, [], ◌∷◌, ◌++◌, length, take, Option, Some, None, ◌/◌, ◌%◌, slice_index, refl, sym, ap, ◌∙◌, subst, append_assoc, append-nil, arith, length-append}
use Rattle.std.proofs.lemmas.List.{take-append-le, take_more, take-append-drop}
use Rattle.sg_base.specs.Ends.{Takes, TakesFront}
use Rattle.sg_base.specs.declared.ends.Failed.{Failed}
use Rattle.sg_words.specs.Text.{prints_plain, printed}
use Rattle.sg_words.specs.Waiting.{Passes}
use Rattle.hex.specs.Hex.{encode_with, encode_lower, lower_digits}
use Rattle.sg_words.proofs.Steps.{Takes-more, Takes-nothing, front_behind}

-- a front of some bytes is one of more bytes
pub front_longer : (a : Option (List ℕ)) (bytes more : List ℕ) (b : Option (List ℕ)) → TakesFront a bytes b → TakesFront a (bytes ++ more) b
front_longer None bytes more b h = h
front_longer (Some had) bytes more b h =
    let within : h.0 ≤ length bytes = h.1 in
    (h.0, omega (arith, length-append bytes more), h.2 ∙ ap (λ (t : List ℕ). Some (had ++ t)) (sym (take-append-le h.0 bytes more within)))

-- nothing is written
pub passes_none : (a : Option (List ℕ)) (bytes waiting : List ℕ) → waiting ≡ bytes → Passes a bytes a waiting
passes_none a bytes waiting e = record { front = []; taken = Takes-nothing a; whole = e }

-- more comes to what waits
pub passes_on : (a : Option (List ℕ)) (bytes : List ℕ) (b : Option (List ℕ)) (waiting more : List ℕ) (c : Option (List ℕ)) (now : List ℕ) → Passes a bytes b waiting → Passes b (waiting ++ more) c now → Passes a (bytes ++ more) c now
passes_on a bytes b waiting more c now h k = record {
  front = h.front ++ k.front;
  taken = Takes-more a h.front b k.front c h.taken k.taken;
  whole = append_assoc h.front k.front now ∙ (ap (λ (t : List ℕ). h.front ++ t) k.whole ∙ (sym (append_assoc h.front waiting more) ∙ ap (λ (t : List ℕ). t ++ more) h.whole));
}

-- of what waits a front is written
pub passes_cut : (a : Option (List ℕ)) (bytes : List ℕ) (b : Option (List ℕ)) (waiting : List ℕ) (c : Option (List ℕ)) → Passes a bytes b waiting → TakesFront b waiting c → TakesFront a bytes c
passes_cut a bytes b waiting c h k = subst (λ (t : List ℕ). TakesFront a t c) h.whole (front_behind a h.front b waiting c h.taken k)

-- of what waits, and of more, a front is written
pub passes_cut_on : (a : Option (List ℕ)) (bytes : List ℕ) (b : Option (List ℕ)) (waiting more : List ℕ) (c : Option (List ℕ)) → Passes a bytes b waiting → TakesFront b (waiting ++ more) c → TakesFront a (bytes ++ more) c
passes_cut_on a bytes b waiting more c h k =
    let whole : h.front ++ (waiting ++ more) ≡ bytes ++ more = sym (append_assoc h.front waiting more) ∙ ap (λ (t : List ℕ). t ++ more) h.whole in
    subst (λ (t : List ℕ). TakesFront a t c) whole (front_behind a h.front b (waiting ++ more) c h.taken k)

-- all is written
pub passes_whole : (a : Option (List ℕ)) (bytes more : List ℕ) (b c : Option (List ℕ)) → Takes a bytes b → Takes b more c → Passes a (bytes ++ more) c []
passes_whole a bytes more b c h k = record { front = bytes ++ more; taken = Takes-more a bytes b more c h k; whole = append-nil (bytes ++ more) }

-- two texts, one behind another
pub passes_then : (a : Option (List ℕ)) (x y z : List ℕ) (b : Option (List ℕ)) (waiting : List ℕ) (c : Option (List ℕ)) (now : List ℕ) → Passes a (x ++ y) b waiting → Passes b (waiting ++ z) c now → Passes a (x ++ (y ++ z)) c now
passes_then a x y z b waiting c now h k = subst (λ (t : List ℕ). Passes a t c now) (append_assoc x y z) (passes_on a (x ++ y) b waiting z c now h k)

pub cut_first : (a : Option (List ℕ)) (x y z : List ℕ) (b : Option (List ℕ)) → TakesFront a (x ++ y) b → TakesFront a (x ++ (y ++ z)) b
cut_first a x y z b h = subst (λ (t : List ℕ). TakesFront a t b) (append_assoc x y z) (front_longer a (x ++ y) z b h)

pub cut_then : (a : Option (List ℕ)) (x y z : List ℕ) (b : Option (List ℕ)) (waiting : List ℕ) (c : Option (List ℕ)) → Passes a (x ++ y) b waiting → TakesFront b (waiting ++ z) c → TakesFront a (x ++ (y ++ z)) c
cut_then a x y z b waiting c h k = subst (λ (t : List ℕ). TakesFront a t c) (append_assoc x y z) (passes_cut_on a (x ++ y) b waiting z c h k)

-- one piece more of several
pub passes_piece : (a : Option (List ℕ)) (base so_far piece next : List ℕ) (b : Option (List ℕ)) (waiting : List ℕ) (c : Option (List ℕ)) (now : List ℕ) → so_far ++ piece ≡ next → Passes a (base ++ so_far) b waiting → Passes b (waiting ++ piece) c now → Passes a (base ++ next) c now
passes_piece a base so_far piece next b waiting c now e h k = subst (λ (t : List ℕ). Passes a (base ++ t) c now) e (passes_then a base so_far piece b waiting c now h k)

-- the sink failed at a piece, with others behind it
pub cut_piece : (a : Option (List ℕ)) (base so_far piece rest all : List ℕ) (b : Option (List ℕ)) (waiting : List ℕ) (c : Option (List ℕ)) → (so_far ++ piece) ++ rest ≡ all → Passes a (base ++ so_far) b waiting → TakesFront b (waiting ++ piece) c → TakesFront a (base ++ all) c
cut_piece a base so_far piece rest all b waiting c e h k =
    subst (λ (t : List ℕ). TakesFront a (base ++ t) c) e (cut_first a base (so_far ++ piece) rest c (cut_then a base so_far piece b waiting c h k))

-- texts that are made piece by piece
module _ {X : Type 0} (text : List X → List ℕ) (joins : (xs ys : List X) → text (xs ++ ys) ≡ text xs ++ text ys) where
  pub piece_more : (xs : List X) (i : ℕ) (x d : X) (piece : List ℕ) → i < length xs → x ≡ get_or xs i d → piece ≡ text (x ∷ []) → text (take i xs) ++ piece ≡ text (take (i + 1) xs)
  piece_more xs i x d piece h is e =
      let one_more : take (i + 1) xs ≡ take i xs ++ x ∷ [] = take_more xs i d h ∙ ap (λ (y : X). take i xs ++ y ∷ []) (sym is) in
      ap (λ (t : List ℕ). text (take i xs) ++ t) e ∙ (sym (joins (take i xs) (x ∷ [])) ∙ ap text (sym one_more))

  pub piece_rest : (xs : List X) (i : ℕ) (x d : X) (piece : List ℕ) → i < length xs → x ≡ get_or xs i d → piece ≡ text (x ∷ []) → (text (take i xs) ++ piece) ++ text (drop (i + 1) xs) ≡ text xs
  piece_rest xs i x d piece h is e =
      ap (λ (t : List ℕ). t ++ text (drop (i + 1) xs)) (piece_more xs i x d piece h is e) ∙ (sym (joins (take (i + 1) xs) (drop (i + 1) xs)) ∙ ap text (take-append-drop (i + 1) xs))

pub printed_hex : (bytes : List ℕ) → prints_plain bytes ≡ false → printed bytes ≡ codes "x:" ++ encode_lower bytes
printed_hex bytes e = ap (λ (b : Bool). cond b bytes (codes "x:" ++ encode_lower bytes)) e

-- a last call, behind what waits
pub last_added : (r : Result ℕ Failed) (a : Option (List ℕ)) (x y z : List ℕ) (b : Option (List ℕ)) (waiting : List ℕ) (c : Option (List ℕ)) (now : ℕ → List ℕ) → Passes a (x ++ y) b waiting → IfOk r (λ n. Passes b (waiting ++ z) c (now n)) → IfOk r (λ n. Passes a (x ++ (y ++ z)) c (now n))
last_added (Ok n) a x y z b waiting c now h k = passes_then a x y z b waiting c (now n) h k
last_added (Err e) a x y z b waiting c now h k = tt

pub last_cut : (r : Result ℕ Failed) (a : Option (List ℕ)) (x y z : List ℕ) (b : Option (List ℕ)) (waiting : List ℕ) (c : Option (List ℕ)) → Passes a (x ++ y) b waiting → OnErr r (TakesFront b (waiting ++ z) c) → OnErr r (TakesFront a (x ++ (y ++ z)) c)
last_cut (Ok n) a x y z b waiting c h k = tt
last_cut (Err e) a x y z b waiting c h k = cut_then a x y z b waiting c h k

pub end_cut : (r : Result (Unit {0}) Failed) (a : Option (List ℕ)) (bytes more : List ℕ) (b : Option (List ℕ)) (waiting : List ℕ) (c : Option (List ℕ)) → Passes a bytes b waiting → OnErr r (TakesFront b (waiting ++ more) c) → OnErr r (TakesFront a (bytes ++ more) c)
end_cut (Ok u) a bytes more b waiting c h k = tt
end_cut (Err e) a bytes more b waiting c h k = passes_cut_on a bytes b waiting more c h k

pub end_took : (r : Result (Unit {0}) Failed) (a : Option (List ℕ)) (bytes more : List ℕ) (b : Option (List ℕ)) (waiting : List ℕ) (c : Option (List ℕ)) → Passes a bytes b waiting → OnOk r (Takes b (waiting ++ more) c) → OnOk r (Takes a (bytes ++ more) c)
end_took (Ok u) a bytes more b waiting c h k =
    let whole : h.front ++ (waiting ++ more) ≡ bytes ++ more = sym (append_assoc h.front waiting more) ∙ ap (λ (t : List ℕ). t ++ more) h.whole in
    subst (λ (t : List ℕ). Takes a t c) whole (Takes-more a h.front b (waiting ++ more) c h.taken k)
end_took (Err e) a bytes more b waiting c h k = tt

pub written_took : (r : Result (Unit {0}) Failed) (a : Option (List ℕ)) (bytes : List ℕ) (b : Option (List ℕ)) (waiting : List ℕ) (c : Option (List ℕ)) → Passes a bytes b waiting → OnOk r (Takes b waiting c) → OnOk r (Takes a bytes c)
written_took (Ok u) a bytes b waiting c h k = subst (λ (t : List ℕ). Takes a t c) h.whole (Takes-more a h.front b waiting c h.taken k)
written_took (Err e) a bytes b waiting c h k = tt

pub written_cut : (r : Result (Unit {0}) Failed) (a : Option (List ℕ)) (bytes : List ℕ) (b : Option (List ℕ)) (waiting : List ℕ) (c : Option (List ℕ)) → Passes a bytes b waiting → OnErr r (TakesFront b waiting c) → OnErr r (TakesFront a bytes c)
written_cut (Ok u) a bytes b waiting c h k = tt
written_cut (Err e) a bytes b waiting c h k = passes_cut a bytes b waiting c h k

pub encode-append : (xs ys : List ℕ) → encode_lower (xs ++ ys) ≡ encode_lower xs ++ encode_lower ys
unfolding encode_with
encode-append [] ys = refl
encode-append (x ∷ xs) ys = ap (λ (t : List ℕ). slice_index lower_digits (x / 16) ∷ slice_index lower_digits (x % 16) ∷ t) (encode-append xs ys)
