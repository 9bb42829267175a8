-- What a record says is told from its bytes, and back.
use Rattle.std.proofs.Common.{◌≡◌, ℕ, ◌*◌, ◌/◌, ◌^◌, ◌<◌, ◌==◌, true, false, List, [], ◌∷◌, ◌++◌, length, Bool, Option, Some, None, cond, option_map, refl, sym, ap, ◌∙◌, subst, arith}
use Rattle.std.specs.List.{find}
use Rattle.std.proofs.lemmas.List.{nil_from_length}
use Rattle.std.proofs.lemmas.Bool.Decides.{nat_tests}
use Rattle.std.proofs.lemmas.Option.{cond_some, same_Some}
use Rattle.byteorder.specs.Endian.{little_bytes}
use Rattle.sg_base.specs.Bytes.{IsBytes}
use Rattle.sg_base.specs.Forms.{Form, IsExact, number, text, pair, mapped, counted, read_on, read_number, read_all}
use Rattle.sg_base.proofs.Forms.{number_exact, text_exact, followed_exact, pair_exact, mapped_exact, counted_exact, two_counted_exact, read_all-back, read_all-only, rest_bytes, was_read}
use Rattle.sg_record.specs.declared.kind.Kind.{Kind}
use Rattle.sg_record.specs.declared.kind.Kind.TheVariants as kinds
use Rattle.sg_record.specs.Changes.{Change, BandBytes, page_made, page_parts, page_layout, page_form, bytes_made, bytes_parts, bytes_layout, write_form, rewrite_form, op_made, op_parts, op_layout, op_form, change_kind, change_bytes, ChangeFits, read_change}
use Rattle.sg_record.specs.Changes.Change.{Page, SegWrite, SegOp}
use Rattle.sg_record.specs.Records.{Says, kind_of, code_of, body_of, SaysFits, note_form, live_layout, live_parts, live_form}
use Rattle.sg_record.specs.Records.Says.{Begin, Changed, TopEnd, PhysComp, TopVoid, CompEnd, Save, Commit, End, Checkpoint}
use Rattle.sg_record.specs.Reading.{kind_with, all_kinds, read_held, read_taken_off, read_bare, read_says}

page_exact : IsExact page_form
page_exact =
    mapped_exact page_made page_parts page_layout
    (pair_exact (number 4) _ (number_exact 4) (pair_exact (number 1) _ (number_exact 1) (pair_exact (number 2) _ (number_exact 2) (pair_exact (number 2) _ (number_exact 2) (two_counted_exact 2)))))
    (λ c. refl) (λ p fits. refl)

bytes_exact : (before after : ℕ → ℕ) → IsExact (mapped bytes_made bytes_parts (bytes_layout before after))
bytes_exact before after =
    mapped_exact bytes_made bytes_parts (bytes_layout before after)
    (followed_exact (pair (number 4) (pair (number 4) (number 4))) (λ n. pair (text (before n.1.1)) (text (after n.1.1)))
    (pair_exact (number 4) _ (number_exact 4) (pair_exact (number 4) (number 4) (number_exact 4) (number_exact 4)))
    (λ n. pair_exact (text (before n.1.1)) (text (after n.1.1)) (text_exact (before n.1.1)) (text_exact (after n.1.1))))
    (λ c. refl) (λ p fits. refl)

op_exact : IsExact op_form
op_exact =
    mapped_exact op_made op_parts op_layout
    (pair_exact (number 4) _ (number_exact 4) (pair_exact (number 4) _ (number_exact 4) (pair_exact (number 4) _ (number_exact 4) (pair_exact (number 2) _ (number_exact 2)
    (pair_exact (number 4) _ (number_exact 4) (pair_exact (counted 2) (counted 4) (counted_exact 2) (counted_exact 4)))))))
    (λ c. refl) (λ p fits. refl)

note_exact : IsExact note_form
note_exact = pair_exact (number 8) (counted 2) (number_exact 8) (counted_exact 2)

live_exact : IsExact live_form
live_exact =
    pair_exact (number 8) _ (number_exact 8)
    (mapped_exact (λ p. p.1) live_parts live_layout
    (followed_exact (number 2) (λ count. text (16 * count)) (number_exact 2) (λ count. text_exact (16 * count)))
    (λ live. refl) (λ p fits. let count : length p.1 / 16 ≡ p.0 = omega (arith, fits.1) in ap (λ (n : ℕ). (n, p.1)) count))

-- what a function of a value that was read made
record Made {A B : Type 0} (f : A → B) (o : Option A) (b : B) : Type 0 where
  pub value : A
  pub is : o ≡ Some value
  pub made : f value ≡ b

made_of : {A B : Type 0} (f : A → B) (o : Option A) (b : B) → option_map f o ≡ Some b → Made f o b
made_of f None b h = absurd (cc)
made_of f (Some a) b h = record { value = a; is = refl; made = same_Some (f a) b h }

-- what holds of all that a form's bytes spell holds of what is read by it
read_as : {A S : Type 0} (f : Form A) (to : A → S) (P : S → Type 0) (bytes : List ℕ) (s : S) → IsExact f → IsBytes bytes → ((a : A) → f.Fits a → bytes ≡ f.spell a → P (to a)) → option_map to (read_all f bytes) ≡ Some s → P s
read_as f to P bytes s exact are all h =
    let m = made_of to (read_all f bytes) s h in
    let read = read_all-only f bytes m.value exact are m.is in
    subst P m.made (all m.value read.0 read.1)

-- these bytes are a change's of this kind
record IsHeld (write : Form BandBytes) (kind : Kind) (bytes : List ℕ) (change : Change) : Type 0 where
  pub fits : ChangeFits write change
  pub kind_is : change_kind change ≡ kind
  pub text_is : bytes ≡ change_bytes write change

change_only : (write : Form BandBytes) → IsExact write → (kind : Kind) (bytes : List ℕ) (change : Change) → IsBytes bytes → read_change write kind bytes ≡ Some change → IsHeld write kind bytes change
change_only write exact kinds.Page bytes change are h =
    read_as page_form Page (IsHeld write kinds.Page bytes) bytes change page_exact are (λ c fits is. record { fits = fits; kind_is = refl; text_is = is }) h
change_only write exact kinds.SegWrite bytes change are h =
    read_as write SegWrite (IsHeld write kinds.SegWrite bytes) bytes change exact are (λ c fits is. record { fits = fits; kind_is = refl; text_is = is }) h
change_only write exact kinds.SegOp bytes change are h =
    read_as op_form SegOp (IsHeld write kinds.SegOp bytes) bytes change op_exact are (λ c fits is. record { fits = fits; kind_is = refl; text_is = is }) h
change_only write exact _ bytes change are h = absurd (cc)

change_back : (write : Form BandBytes) → IsExact write → (change : Change) → ChangeFits write change → read_change write (change_kind change) (change_bytes write change) ≡ Some change
change_back write exact (Page c) fits = ap (option_map Page) (read_all-back page_form c page_exact fits)
change_back write exact (SegWrite c) fits = ap (option_map SegWrite) (read_all-back write c exact fits)
change_back write exact (SegOp c) fits = ap (option_map SegOp) (read_all-back op_form c op_exact fits)

found : {X : Type 0} (p : X → Bool) (xs : List X) (x : X) → find p xs ≡ Some x → p x ≡ true
found p [] x h = absurd (cc)
found {X = X} p (y ∷ ys) x h =
    let by_test : (b : Bool) → p y ≡ b → cond b (Some y) (find p ys) ≡ Some x → p x ≡ true = λ b. elim b as (λ b. p y ≡ b → cond b (Some y) (find p ys) ≡ Some x → p x ≡ true) [
      | true ↦ λ e k. subst (λ (z : X). p z ≡ true) (same_Some y x k) e
      | false ↦ λ e k. found p ys x k
    ] in
    by_test (p y) refl h

-- the kind with a byte has that byte
pub kind_only : (code : ℕ) (kind : Kind) → kind_with code ≡ Some kind → code_of kind ≡ code
kind_only code kind h = let e : (code_of kind == code) ≡ true = found (λ k. code_of k == code) all_kinds kind h in grind (arith, nat_tests)

pub kind_back : (kind : Kind) → kind_with (code_of kind) ≡ Some kind
kind_back kinds.Begin = refl
kind_back kinds.Page = refl
kind_back kinds.SegWrite = refl
kind_back kinds.SegOp = refl
kind_back kinds.TopEnd = refl
kind_back kinds.PhysComp = refl
kind_back kinds.TopVoid = refl
kind_back kinds.CompEnd = refl
kind_back kinds.Save = refl
kind_back kinds.Commit = refl
kind_back kinds.End = refl
kind_back kinds.Checkpoint = refl

code_small : (kind : Kind) → code_of kind < 256
code_small kinds.Begin = omega arith
code_small _ = omega arith

-- these bytes are those of a record of this kind that says this
pub record IsSaid (kind : Kind) (bytes : List ℕ) (says : Says) : Type 0 where
  pub fits : SaysFits says
  pub kind_is : kind_of says ≡ kind
  pub text_is : bytes ≡ body_of says

bare_only : (kind : Kind) (bare : Says) (bytes : List ℕ) (says : Says) → read_bare bare bytes ≡ Some says → (bytes ≡ [] → IsSaid kind bytes bare) → IsSaid kind bytes says
bare_only kind bare bytes says h all =
    let read = cond_some (length bytes == 0) bare says h in
    subst (IsSaid kind bytes) read.1 (all (nil_from_length bytes (grind (arith, nat_tests, read.0))))

changed_only : (kind : Kind) (bytes : List ℕ) (says : Says) → IsBytes bytes → option_map Changed (read_change write_form kind bytes) ≡ Some says → IsSaid kind bytes says
changed_only kind bytes says are h =
    let m = made_of Changed (read_change write_form kind bytes) says h in
    let c = change_only write_form (bytes_exact (λ n. n) (λ n. n)) kind bytes m.value are m.is in
    subst (IsSaid kind bytes) m.made (record { fits = c.fits; kind_is = c.kind_is; text_is = c.text_is })

-- the kind of a held change, and the change
record WasHeld (o : Option Kind) (bytes : List ℕ) (change : Change) : Type 0 where
  pub kind : Kind
  pub is : o ≡ Some kind
  pub read : read_change rewrite_form kind bytes ≡ Some change

was_held : (o : Option Kind) (bytes : List ℕ) (change : Change) → read_held o bytes ≡ Some change → WasHeld o bytes change
was_held None bytes change h = absurd (cc)
was_held (Some kind) bytes change h = record { kind = kind; is = refl; read = h }

taken_off_only : (bytes : List ℕ) (says : Says) → IsBytes bytes → read_taken_off bytes ≡ Some says → IsSaid kinds.PhysComp bytes says
taken_off_only bytes says are h =
    let one = was_read (read_number 8 bytes) (λ undo_next rest. read_on (read_number 1 rest) (λ code rest. option_map (PhysComp undo_next) (read_held (kind_with code) rest))) says h in
    let two = was_read (read_number 1 one.rest) (λ code rest. option_map (PhysComp one.value) (read_held (kind_with code) rest)) says one.second in
    let m = made_of (PhysComp one.value) (read_held (kind_with two.value) two.rest) says two.second in
    let front = (number_exact 8).only bytes one.value one.rest are one.first in
    let are_one : IsBytes one.rest = rest_bytes bytes (little_bytes 8 one.value) one.rest are front.1 in
    let code = (number_exact 1).only one.rest two.value two.rest are_one two.first in
    let are_two : IsBytes two.rest = rest_bytes one.rest (little_bytes 1 two.value) two.rest are_one code.1 in
    let held = was_held (kind_with two.value) two.rest m.value m.is in
    let c = change_only rewrite_form (bytes_exact (λ n. 0) (λ n. n)) held.kind two.rest m.value are_two held.read in
    let same : two.value ≡ code_of (change_kind m.value) = sym (ap code_of c.kind_is ∙ kind_only two.value held.kind held.is) in
    let tail : one.rest ≡ little_bytes 1 (code_of (change_kind m.value)) ++ change_bytes rewrite_form m.value =
    code.1 ∙ (ap (λ (xs : List ℕ). little_bytes 1 two.value ++ xs) c.text_is ∙ ap (λ (n : ℕ). little_bytes 1 n ++ change_bytes rewrite_form m.value) same) in
    subst (IsSaid kinds.PhysComp bytes) m.made (record { fits = (front.0, c.fits); kind_is = refl; text_is = front.1 ∙ ap (λ (xs : List ℕ). little_bytes 8 one.value ++ xs) tail })

-- only what was spelled is read
pub says_only : (kind : Kind) (bytes : List ℕ) (says : Says) → IsBytes bytes → read_says kind bytes ≡ Some says → IsSaid kind bytes says
unfolding read_says
says_only kinds.Begin bytes says are h = bare_only kinds.Begin Begin bytes says h (λ is. record { fits = tt; kind_is = refl; text_is = is })
says_only kinds.Page bytes says are h = changed_only kinds.Page bytes says are h
says_only kinds.SegWrite bytes says are h = changed_only kinds.SegWrite bytes says are h
says_only kinds.SegOp bytes says are h = changed_only kinds.SegOp bytes says are h
says_only kinds.TopEnd bytes says are h = read_as note_form (λ p. TopEnd p.0 p.1) (IsSaid kinds.TopEnd bytes) bytes says note_exact are (λ p fits is. record { fits = fits; kind_is = refl; text_is = is }) h
says_only kinds.PhysComp bytes says are h = taken_off_only bytes says are h
says_only kinds.TopVoid bytes says are h = read_as (number 8) TopVoid (IsSaid kinds.TopVoid bytes) bytes says (number_exact 8) are (λ n fits is. record { fits = fits; kind_is = refl; text_is = is }) h
says_only kinds.CompEnd bytes says are h = read_as (number 8) CompEnd (IsSaid kinds.CompEnd bytes) bytes says (number_exact 8) are (λ n fits is. record { fits = fits; kind_is = refl; text_is = is }) h
says_only kinds.Save bytes says are h = read_as (number 2) Save (IsSaid kinds.Save bytes) bytes says (number_exact 2) are (λ n fits is. record { fits = fits; kind_is = refl; text_is = is }) h
says_only kinds.Commit bytes says are h = bare_only kinds.Commit Commit bytes says h (λ is. record { fits = tt; kind_is = refl; text_is = is })
says_only kinds.End bytes says are h = bare_only kinds.End End bytes says h (λ is. record { fits = tt; kind_is = refl; text_is = is })
says_only kinds.Checkpoint bytes says are h = read_as live_form (λ p. Checkpoint p.0 p.1) (IsSaid kinds.Checkpoint bytes) bytes says live_exact are (λ p fits is. record { fits = fits; kind_is = refl; text_is = is }) h

taken_off_back : (undo_next : ℕ) (change : Change) → undo_next < 2 ^ 64 → ChangeFits rewrite_form change → read_taken_off (body_of (PhysComp undo_next change)) ≡ Some (PhysComp undo_next change)
taken_off_back undo_next change low fits =
    let code : ℕ = code_of (change_kind change) in
    let bytes : List ℕ = change_bytes rewrite_form change in
    ap (λ (o : Option (ℕ × List ℕ)). read_on o (λ undo_next rest. read_on (read_number 1 rest) (λ code rest. option_map (PhysComp undo_next) (read_held (kind_with code) rest)))) ((number_exact 8).back undo_next (little_bytes 1 code ++ bytes) low)
    ∙ (ap (λ (o : Option (ℕ × List ℕ)). read_on o (λ code rest. option_map (PhysComp undo_next) (read_held (kind_with code) rest))) ((number_exact 1).back code bytes (code_small (change_kind change)))
    ∙ (ap (λ (o : Option Kind). option_map (PhysComp undo_next) (read_held o bytes)) (kind_back (change_kind change))
    ∙ ap (option_map (PhysComp undo_next)) (change_back rewrite_form (bytes_exact (λ n. 0) (λ n. n)) change fits)))

-- what was spelled is read back
pub says_back : (says : Says) → SaysFits says → read_says (kind_of says) (body_of says) ≡ Some says
unfolding read_says
says_back Begin fits = refl
says_back (Changed (Page c)) fits = ap (option_map Changed) (change_back write_form (bytes_exact (λ n. n) (λ n. n)) (Page c) fits)
says_back (Changed (SegWrite c)) fits = ap (option_map Changed) (change_back write_form (bytes_exact (λ n. n) (λ n. n)) (SegWrite c) fits)
says_back (Changed (SegOp c)) fits = ap (option_map Changed) (change_back write_form (bytes_exact (λ n. n) (λ n. n)) (SegOp c) fits)
says_back (TopEnd undo_next note) fits = ap (option_map (λ p. TopEnd p.0 p.1)) (read_all-back note_form (undo_next, note) note_exact fits)
says_back (PhysComp undo_next change) fits = taken_off_back undo_next change fits.0 fits.1
says_back (TopVoid undo_next) fits = ap (option_map TopVoid) (read_all-back (number 8) undo_next (number_exact 8) fits)
says_back (CompEnd undo_next) fits = ap (option_map CompEnd) (read_all-back (number 8) undo_next (number_exact 8) fits)
says_back (Save mark) fits = ap (option_map Save) (read_all-back (number 2) mark (number_exact 2) fits)
says_back Commit fits = refl
says_back End fits = refl
says_back (Checkpoint estimate live) fits = ap (option_map (λ p. Checkpoint p.0 p.1)) (read_all-back live_form (estimate, live) live_exact fits)
