-- How the text of a geometry is read of a source, piece by piece.
use borrow.Rule.Slice.PartMut.{put_mid, post_of}
use Rattle.std.proofs.Common.{◌≡◌, ℕ, ◌+◌, ◌-◌, ◌<◌, ◌≤◌, List, [], ◌++◌, length, take, drop, Option, Some, None, IfSome, refl, sym, ap, ◌∙◌, subst, arith, length-append}
use Rattle.std.proofs.Math.Nat.{add-zero}
use Rattle.std.proofs.Math.Seq.{take-add}
use Rattle.std.proofs.lemmas.List.{length-drop, length-take-le, take-append-le, take_all, take_at, drop_at, drop-drop}
use Rattle.sg_base.specs.Ends.{Gives}
use Rattle.sg_geometry.specs.declared.geometry.Geometry.{Geometry}
use Rattle.sg_command.specs.Sizes.{Says}
use Rattle.sg_command.specs.File.{IsFilled, IsTakenOf, IsAtEnd, SaysNone}

pub filled_none : (source : Option (List ℕ)) (into : List ℕ) → IsFilled source into 0 source
filled_none None into = refl
filled_none (Some text) into = (omega arith, refl, refl)

-- a front and what comes behind it
front : (xs piece rest : List ℕ) (n m : ℕ) → length xs ≡ n → m ≤ length piece → take (n + m) (xs ++ (piece ++ rest)) ≡ xs ++ take m piece
front xs piece rest n m e within =
    take-add n m (xs ++ (piece ++ rest))
    ∙ (ap (λ (l : List ℕ). l ++ take m (drop n (xs ++ (piece ++ rest)))) (take_at xs (piece ++ rest) n e)
    ∙ (ap (λ (l : List ℕ). xs ++ take m l) (drop_at xs (piece ++ rest) n e) ∙ ap (λ (l : List ℕ). xs ++ l) (take-append-le m piece rest within)))

-- one read more
pub filled_more : (source : Option (List ℕ)) (into : List ℕ) (n : ℕ) (mid : Option (List ℕ)) (piece rest : List ℕ) (m : ℕ) (left : Option (List ℕ)) → IsFilled source into n mid → n ≤ length into → m ≤ length piece → Gives mid piece m left
    → IsFilled source (take n into ++ (piece ++ rest)) (n + m) left
filled_more None into n mid piece rest m left h within few given = subst (λ (s : Option (List ℕ)). Gives s piece m left) h given
filled_more (Some text) into n mid piece rest m left h within few given =
    let g = subst (λ (s : Option (List ℕ)). Gives s piece m left) h.2 given in (
      omega (arith, h.0, g.0, length-drop n text),
      front (take n into) piece rest n m (length-take-le n into within) few
          ∙ (ap (λ (l : List ℕ). take n into ++ l) g.1 ∙ (ap (λ (l : List ℕ). l ++ take m (drop n text)) h.1 ∙ sym (take-add n m text))),
      g.2 ∙ ap (λ (l : List ℕ). Some l) (drop-drop m n text),
    )

-- the read that finds the end
pub filled_end : (source : Option (List ℕ)) (into : List ℕ) (n : ℕ) (mid : Option (List ℕ)) (piece rest : List ℕ) (left : Option (List ℕ)) → IsFilled source into n mid → n ≤ length into → Gives mid piece 0 left
    → IsFilled source (take n into ++ (piece ++ rest)) n left
filled_end source into n mid piece rest left h within given =
    subst (λ (k : ℕ). IsFilled source (take n into ++ (piece ++ rest)) k left) (add-zero n) (filled_more source into n mid piece rest 0 left h within (omega arith) given)

-- a write to its end keeps a buffer's length
pub length_kept : (into piece : List ℕ) (n : ℕ) → n ≤ length into → length piece ≡ length (take (length into - n) (drop n into)) → length (put_mid n (length into - n) into piece) ≡ length into
length_kept into piece n within size =
    let size = size ∙ length-take-le (length into - n) (drop n into) (omega (arith, length-drop n into)) in
    length-append (take n into) (piece ++ post_of n (length into - n) into)
    ∙ omega (arith, length-append piece (post_of n (length into - n) into), length-take-le n into within, length-drop (length into - n) (drop n into), length-drop n into, size)

-- where nothing is left, what was read is the whole text
whole : (text into : List ℕ) (n : ℕ) (left : Option (List ℕ)) → IsFilled (Some text) into n left → IsAtEnd left → take n into ≡ text
whole text into n left h end =
    let nothing : drop n text ≡ [] = subst IsAtEnd h.2 end in
    h.1 ∙ take_all n text (omega (arith, length-drop n text, ap length nothing))

-- a text that says sizes is short, and so was read to its end
pub says_none : (source : Option (List ℕ)) (into : List ℕ) (n : ℕ) (left : Option (List ℕ)) → IsFilled source into n left → length into ≡ 65537 → (n < length into → IsAtEnd left) → SaysNone (take n into) → IfSome source SaysNone
says_none None into n left h size end bad = tt
says_none (Some text) into n left h size end bad =
    λ g says. bad g (subst (λ (t : List ℕ). Says t g) (sym (whole text into n left h (end (omega (arith, h.0, says.short, size))))) says)

-- what a vector's slice reads once all of it was lent
pub lent_whole : (read items buffer : List ℕ) (size : ℕ) → read ≡ take size (buffer ++ drop (length buffer) items) → length buffer ≡ length items → size ≡ length items → read ≡ buffer
lent_whole read items buffer size is same all = is ∙ take_at buffer (drop (length buffer) items) size (same ∙ sym all)
