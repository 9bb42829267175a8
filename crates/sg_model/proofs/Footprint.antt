-- The step has the footprint that its touches say.
use Rattle.std.proofs.Common.{◌≡◌, ℕ, Bool, true, false, cond, List, [], ◌∷◌, map, Option, Some, None, Ok, refl, sym, ap, ◌∙◌, subst}
use Rattle.std.specs.Prelude.{◌||◌, ◌&&◌, T, is_some}
use Rattle.std.specs.Str.{bytes_eq}
use Rattle.std.specs.Ordering.{nat_cmp, eq_by_cmp, is_lt}
use Rattle.std.specs.Cmp.Lexicographic.{slice_cmp, nat_list_cmp_total}
use Rattle.std.specs.FinMap.{FinMap, get, keys, entries, entries_sorted, get-entries, find, is_sorted}
use Rattle.std.specs.FinMap.Entries as lists
use Rattle.sg_serial.specs.Machine.{any_touch, Agree, HasFootprint}
use Rattle.sg_serial.proofs.Kept.{and_true}
use Rattle.sg_serial.specs.Locks.{Touch, reads, writes}
use Rattle.sg_ops.specs.Table.{Table as Operations}
use Rattle.sg_model.specs.Objects.{Object, Objects}
use Rattle.sg_model.specs.Verb.{Verb, Op}
use Rattle.sg_model.specs.Objects.Object.{Array, Table, Blob}
use Rattle.sg_model.specs.Verb.Op.{On, Names as AllNames}
use Rattle.sg_model.specs.Verb.Reply.{Several}
use Rattle.sg_model.specs.Step.{on, put_at, step}
use Rattle.sg_model.specs.Touches.{Part, Cell, Reach, Resource, Seen, covers_part, seen, cell, reach_of, touch_of, touches, covers}
use Rattle.sg_model.specs.Touches.Part.{Kind}
use Rattle.sg_model.proofs.Parts.{reads_part, writes_part, get_put, get_del, exact, same_entries, bytes_self, bytes_same}
use Rattle.sg_model.proofs.Slots.{verb_law, exact_object}

-- the names that there are follow from whether each is there

mark : Bool → Option ℕ
mark true = Some 0
mark false = None

module _ {X : Type 0} where
  blank : List (List ℕ × X) → List (List ℕ × ℕ)
  blank [] = []
  blank (e ∷ es) = (e.0, 0) ∷ blank es

  below_blank : (x : List ℕ) (es : List (List ℕ × X)) → lists.below_all (slice_cmp nat_cmp) x (blank es) ≡ lists.below_all (slice_cmp nat_cmp) x es
  unfolding blank
  below_blank x [] = refl
  below_blank x (e ∷ es) = ap (λ b. is_lt (slice_cmp nat_cmp x e.0) && b) (below_blank x es)

  sorted_blank : (es : List (List ℕ × X)) → is_sorted (slice_cmp nat_cmp) (blank es) ≡ is_sorted (slice_cmp nat_cmp) es
  unfolding blank
  sorted_blank [] = refl
  sorted_blank (e ∷ es) = ap (λ b. b && is_sorted (slice_cmp nat_cmp) (blank es)) (below_blank e.0 es) ∙ ap (λ b. lists.below_all (slice_cmp nat_cmp) e.0 es && b) (sorted_blank es)

  keys_blank : (es : List (List ℕ × X)) → map (λ e. e.0) (blank es) ≡ map (λ e. e.0) es
  unfolding blank
  keys_blank [] = refl
  keys_blank (e ∷ es) = ap (λ ks. e.0 ∷ ks) (keys_blank es)

  mark_cond : (b : Bool) (x : X) (r : Option X) (m : Option ℕ) → m ≡ mark (is_some r) → cond b (Some 0) m ≡ mark (is_some (cond b (Some x) r))
  unfolding mark
  mark_cond true x r m e = refl
  mark_cond false x r m e = e

  find_blank : (q : List ℕ) (es : List (List ℕ × X)) → find (slice_cmp nat_cmp) q (blank es) ≡ mark (is_some (find (slice_cmp nat_cmp) q es))
  unfolding blank mark
  find_blank q [] = refl
  find_blank q (e ∷ es) = mark_cond (eq_by_cmp (slice_cmp nat_cmp) q e.0) e.1 (find (slice_cmp nat_cmp) q es) (find (slice_cmp nat_cmp) q (blank es)) (find_blank q es)

  pub same_keys : (m n : FinMap (slice_cmp nat_cmp) X) → ((q : List ℕ) → is_some (get m q) ≡ is_some (get n q)) → keys m ≡ keys n
  same_keys m n h =
      let es = entries m in
      let fs = entries n in
      let sorted : (es : List (List ℕ × X)) → T (is_sorted (slice_cmp nat_cmp) es) → T (is_sorted (slice_cmp nat_cmp) (blank es)) = λ es s. subst T (sym (sorted_blank es)) s in
      sym (keys_blank es) ∙ (ap (λ xs. map (λ e. e.0) xs) (lists.same_entries (slice_cmp nat_cmp) nat_list_cmp_total exact (blank es) (blank fs) (sorted es (entries_sorted m)) (sorted fs (entries_sorted n))
      (λ q. find_blank q es ∙ (ap (λ (r : Option X). mark (is_some r)) (sym (get-entries m q)) ∙ (ap mark (h q) ∙ (ap (λ (r : Option X). mark (is_some r)) (get-entries n q) ∙ sym (find_blank q fs)))))) ∙ keys_blank fs)

-- one object among all

pub get_put_at : (s : Objects) (n : List ℕ) (o : Option Object) (m : List ℕ) → get (put_at s n o) m ≡ cond (bytes_eq n m) o (get s m)
get_put_at s n None m = get_del s n m
get_put_at s n (Some o) m = get_put s n o m

pub and_in : (w b c : Bool) → (w && (b && c)) ≡ (b && (w && c))
and_in true b c = refl
and_in false true c = refl
and_in false false c = refl

pub and_or : (b x y : Bool) → ((b && x) || (b && y)) ≡ (b && (x || y))
and_or true x y = refl
and_or false x y = refl

pub any_read : (n : List ℕ) (rs : List Reach) (c : Cell) → any_touch (reads covers) (map (touch_of n) rs) c ≡ (bytes_eq n c.name && any_touch reads_part rs c.part)
any_read n [] c = sym (nothing (bytes_eq n c.name))
  where
    nothing : (b : Bool) → (b && false) ≡ false
    nothing true = refl
    nothing false = refl
any_read n (r ∷ rs) c = ap (λ b. (bytes_eq n c.name && covers_part r.region c.part) || b) (any_read n rs c) ∙ and_or (bytes_eq n c.name) (covers_part r.region c.part) (any_touch reads_part rs c.part)

pub any_write : (n : List ℕ) (rs : List Reach) (c : Cell) → any_touch (writes covers) (map (touch_of n) rs) c ≡ (bytes_eq n c.name && any_touch writes_part rs c.part)
any_write n [] c = sym (nothing (bytes_eq n c.name))
  where
    nothing : (b : Bool) → (b && false) ≡ false
    nothing true = refl
    nothing false = refl
any_write n (r ∷ rs) c = ap (λ b. b || any_touch (writes covers) (map (touch_of n) rs) c) (and_in r.write (bytes_eq n c.name) (covers_part r.region c.part))
    ∙ (ap (λ b. (bytes_eq n c.name && (r.write && covers_part r.region c.part)) || b) (any_write n rs c) ∙ and_or (bytes_eq n c.name) (writes_part r c.part) (any_touch writes_part rs c.part))

pub both_true : (a b : Bool) → a ≡ true → b ≡ true → (a && b) ≡ true
both_true true b h i = i
both_true false b h i = absurd (cc)

abbrev pub CellValue : Cell → Type 0
CellValue c = Seen c.part

module _ (t : Operations) where
  abbrev pub AgreeOn : List (Touch Resource) → Objects → Objects → Type 0
  AgreeOn ts r s = Agree CellValue (step t) cell touches (reads covers) (writes covers) ts r s

  pub agree_part : (r s : Objects) (n : List ℕ) (verb : Verb) → AgreeOn (map (touch_of n) (reach_of verb (get r n))) r s → (q : Part) → any_touch reads_part (reach_of verb (get r n)) q ≡ true → seen (get r n) q ≡ seen (get s n) q
  agree_part r s n verb a q h = a (record { name = n; part = q }) (any_read n (reach_of verb (get r n)) (record { name = n; part = q }) ∙ both_true (bytes_eq n n) (any_touch reads_part (reach_of verb (get r n)) q) (bytes_self n) h)

  frame_on : (s : Objects) (n : List ℕ) (verb : Verb) (m : List ℕ) (q : Part) (b : Bool) → bytes_eq n m ≡ b → (b && any_touch writes_part (reach_of verb (get s n)) q) ≡ false → seen (cond b (on t verb (get s n)).1 (get s m)) q ≡ seen (get s m) q
  frame_on s n verb m q true e h = (verb_law t verb).frame (get s n) q h ∙ ap (λ k. seen (get s k) q) (bytes_same n m e)
  frame_on s n verb m q false e h = refl

  frame : (s : Objects) (op : Op) (c : Cell) → any_touch (writes covers) (touches s op) c ≡ false → cell (step t s op).1 c ≡ cell s c
  unfolding step touches
  frame s (On n verb) c h =
      ap (λ o. seen o c.part) (get_put_at s n (on t verb (get s n)).1 c.name)
      ∙ frame_on s n verb c.name c.part (bytes_eq n c.name) refl (sym (any_write n (reach_of verb (get s n)) c) ∙ h)
  frame s AllNames c h = refl

  touched : (r s : Objects) (op : Op) → AgreeOn (touches r op) r s → touches s op ≡ touches r op
  unfolding step touches
  touched r s (On n verb) a = ap (λ rs. map (touch_of n) rs) ((verb_law t verb).touched (get r n) (get s n) (agree_part r s n verb a))
  touched r s AllNames a = refl

  there : Option Object → Bool
  there o = is_some o

  kind_there : (o p : Option Object) → seen o Kind ≡ seen p Kind → is_some o ≡ is_some p
  kind_there o p h = sym (by_sort o) ∙ (ap is_some h ∙ by_sort p)
    where
      by_sort : (o : Option Object) → is_some (seen o Kind) ≡ is_some o
      by_sort None = refl
      by_sort (Some (Array a)) = refl
      by_sort (Some (Table a)) = refl
      by_sort (Some (Blob a)) = refl

  given : (r s : Objects) (op : Op) → AgreeOn (touches r op) r s → (step t s op).0 ≡ (step t r op).0
  unfolding step touches
  given r s (On n verb) a = (verb_law t verb).given (get r n) (get s n) (agree_part r s n verb a)
  given r s AllNames a = ap (λ ks. Ok (Several ks)) (same_keys s r (λ q. kind_there (get s q) (get r q) (sym (a (record { name = q; part = Kind }) refl))))

  changed_on : (r s : Objects) (n : List ℕ) (verb : Verb) → AgreeOn (map (touch_of n) (reach_of verb (get r n))) r s → (m : List ℕ) (q : Part) (b : Bool) → bytes_eq n m ≡ b → (b && any_touch writes_part (reach_of verb (get r n)) q) ≡ true
      → seen (cond b (on t verb (get s n)).1 (get s m)) q ≡ seen (cond b (on t verb (get r n)).1 (get r m)) q
  changed_on r s n verb a m q true e h = (verb_law t verb).changed (get r n) (get s n) (agree_part r s n verb a) q h
  changed_on r s n verb a m q false e h = absurd (cc)

  changed : (r s : Objects) (op : Op) → AgreeOn (touches r op) r s → (c : Cell) → any_touch (writes covers) (touches r op) c ≡ true → cell (step t s op).1 c ≡ cell (step t r op).1 c
  unfolding step touches
  changed r s (On n verb) a c h =
      ap (λ o. seen o c.part) (get_put_at s n (on t verb (get s n)).1 c.name)
      ∙ (changed_on r s n verb a c.name c.part (bytes_eq n c.name) refl (sym (any_write n (reach_of verb (get r n)) c) ∙ h)
      ∙ sym (ap (λ o. seen o c.part) (get_put_at r n (on t verb (get r n)).1 c.name)))
  changed r s AllNames a c h = absurd (cc)

  -- the law of touches
  pub footprint : HasFootprint CellValue (step t) cell touches (reads covers) (writes covers)
  footprint = record {
    exact = λ r s h. same_entries r s (λ n. exact_object (get r n) (get s n) (λ q. h (record { name = n; part = q })));
    read = λ a c h. (and_true a.write (reads covers a c) h).1;
    frame = frame;
    touched = touched;
    given = given;
    changed = changed;
  }
