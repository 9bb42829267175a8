-- Notes that are undone.
use Rattle.std.proofs.Common.{◌≡◌, ℕ, zero, suc, ◌-◌, ◌≤◌, Bool, true, false, cond, List, [], ◌∷◌, length, take, drop, Option, Some, None, Result, Ok, Err, OnOk, refl, sym, ap, ◌∙◌, subst, arith, inl, inr}
use Rattle.std.specs.FinMap.{get}
use Rattle.std.proofs.lemmas.Bool.{cases_lt, cases_eq}
use Rattle.std.proofs.lemmas.Bool.Decides.{nat_tests}
use Rattle.sg_ops.specs.Table.{Table as Operations}
use Rattle.sg_model.specs.declared.reason.Reason.TheVariants.{TooLong, OutOfRange}
use Rattle.sg_model.specs.Objects.{Entries}
use Rattle.sg_model.specs.Objects.Object.{Array as AsArray, Table as AsTable, Blob as AsBlob}
use Rattle.sg_model.specs.Step.{at_key, put_value, Update}
use Rattle.sg_model.specs.Verb.{Outcome, Reply}
use Rattle.sg_space.specs.View.{View, Space}
use Rattle.byteorder.specs.Endian.{little_number}
use Rattle.sg_reading.specs.Reading.{Thing, plain, Slot, slot}
use Rattle.sg_reading.specs.Reading.Thing.{There}
use Rattle.sg_reading.specs.Back.{Undoing, Before, forget, back}
use Rattle.sg_reading.specs.Back.Undoing.{WasNothing, WasMake, WasDrop, WasPush, WasPop, WasSet, WasApply, WasPut, WasOver, WasBytes}
use Rattle.sg_contents.specs.Meaning.{reading}
use Rattle.std.specs.Prelude.{⊤, ◌+◌, ◌<◌, ◌==◌, ◌&&◌, nat_le, if◌then◌else◌}
use Rattle.sg_base.specs.Spelling.{is_name}
use Rattle.sg_space.specs.declared.space.SpaceFault.{SpaceFault}
use Rattle.sg_contents.specs.Standing.{Contents, IsContents, HasContents}
use Rattle.sg_objects.specs.Notes.{byte_at, over_said, undoing_said, least_rest, rest_said, is_whole, note_said}
use Rattle.sg_objects.specs.Needs.{needed_back, IsFree}
use Rattle.sg_objects.specs.PutBack.{CanUndoBytes, UndoesBytes}
use Rattle.sg_objects.specs.Reversing.{IsWhole, CanReverseBy, IsPutBack, IsPossible, HasNote, UndoesAny, Reverses}
use Rattle.sg_objects.specs.Undone.{CanUndo, Undoes, IsUndone}
use Rattle.sg_objects.proofs.Forgetting.{carried_table}
use Rattle.sg_objects.proofs.Naming.{undone_named}
use Rattle.sg_objects.proofs.Parsing.{IsPlainNote}
use Rattle.sg_objects.proofs.Putting.{put_long}
use Rattle.sg_objects.proofs.Tables.{empty_key, long_key}
use Rattle.sg_objects.proofs.Undoing.{was_done, not_both}

-- A TABLE'S KEYS AND VALUES ARE WITHIN THEIR LIMITS where they can be put back or forgotten
module _ (key : List ℕ) (decide : Option (List ℕ) → Outcome × Update) where
  key_short : (m : Entries) (reply : Reply) → (at_key key decide m).0 ≡ Ok reply → (1 ≤ length key) × (length key ≤ 128)
  key_short m reply ok = elim (cases_eq (length key) 0) [
    | inl e ↦ absurd (not_both (at_key key decide m).0 reply OutOfRange ok (empty_key key decide m e))
    | inr ne ↦ elim (cases_lt 128 (length key)) [
      | inl long ↦ absurd (not_both (at_key key decide m).0 reply TooLong ok (long_key key decide m long))
      | inr short ↦ (omega (arith, ne), short)
    ]
  ]

  on_entries : (th : Option Thing) (x : Option Thing) → carried_table (at_key key decide) th ≡ Some x → (m : Entries) × (reply : Reply) × ((at_key key decide m).0 ≡ Ok reply)
  on_entries None x e = absurd (cc)
  on_entries (Some (There (AsArray row) w)) x e = absurd (cc)
  on_entries (Some (There (AsBlob bytes) w)) x e = absurd (cc)
  on_entries (Some (There (AsTable m) w)) x e = let one = was_done (at_key key decide m).0 (Some (There (AsTable (at_key key decide m).1) w)) x e in (m, one.0, one.1)

  pub limits : (th : Option Thing) (x : Option Thing) → carried_table (at_key key decide) th ≡ Some x → (1 ≤ length key) × (length key ≤ 128)
  limits th x e = let one = on_entries th x e in key_short one.0 one.1 one.2

pub value_limit : (key value : List ℕ) (th : Option Thing) (x : Option Thing) → carried_table (at_key key (put_value value)) th ≡ Some x → length value ≤ 1024
value_limit key value th x e =
    let one = on_entries key (put_value value) th x e in
    let k = limits key (put_value value) th x e in
    elim (cases_lt 1024 (length value)) [
      | inl long ↦ absurd (not_both (at_key key (put_value value) one.0).0 one.1 TooLong one.2 (put_long one.0 key value k.0 k.1 long))
      | inr short ↦ short
    ]

pub put_short : {t : Operations} {key name : List ℕ} {s : Contents} → CanUndo t (WasPut key) name s → length key ≤ 128
put_short {key = key} {name = name} {s = s} c = (limits key forget (get (reading s).things name) c.th c.possible).1

pub over_short : {t : Operations} {key value name : List ℕ} {s : Contents} → CanUndo t (WasOver key value) name s → (length key ≤ 128) × (length value ≤ 1024)
over_short {key = key} {value = value} {name = name} {s = s} c = ((limits key (put_value value) (get (reading s).things name) c.th c.possible).1, value_limit key value (get (reading s).things name) c.th c.possible)

-- WHAT WAS READ IS WHAT THE BYTES SAY
pub record IsRead (bytes : List ℕ) (first : ℕ) (who tail : List ℕ) : Type 0 where
  pub code : byte_at bytes 0 ≡ first
  pub name : take (byte_at bytes 1) (drop 2 bytes) ≡ who
  pub rest : rest_said bytes ≡ tail

pub said_undoes : {bytes name rest : List ℕ} {code : ℕ} → IsRead bytes code name rest → (note_said bytes).undoes ≡ undoing_said code rest
said_undoes r = λ i. undoing_said (r.code i) (r.rest i)

-- bytes that are cut short can't be undone
whole_if : (b : Bool) (name : List ℕ) → is_name (if b then name else []) ≡ true → b ≡ true
whole_if true name e = refl
whole_if false name e = absurd (let z : false ≡ true = e in cc)

said_whole : {space : Space} {s : Contents} (t : Operations) (bytes : List ℕ) (found : List Before) (th : Option Thing) → IsContents space s
    → back t (note_said bytes).undoes found (slot (reading s) (note_said bytes).name) ≡ Some th → is_whole bytes ≡ true
said_whole t bytes found th h e = whole_if (is_whole bytes) (take (byte_at bytes 1) (drop 2 bytes))
    (undone_named t (note_said bytes).undoes found (note_said bytes).name th h e)

pub possible_whole : {t : Operations} {v : View} (bytes : List ℕ) → IsPossible t v (note_said bytes) → is_whole bytes ≡ true
possible_whole {t} bytes p = said_whole t bytes p.found p.th p.there p.possible

-- others say their name
pub said_name : {bytes name rest : List ℕ} {code : ℕ} → is_whole bytes ≡ true → IsRead bytes code name rest → (note_said bytes).name ≡ name
said_name {bytes} whole r = ap (λ (b : Bool). if b then take (byte_at bytes 1) (drop 2 bytes) else []) whole ∙ r.name

-- and have it and their further fields
both_true : (a b : Bool) → (a && b) ≡ true → (a ≡ true) × (b ≡ true)
both_true true b e = (refl, e)
both_true false b e = absurd (cc)

pub long_name : (bytes : List ℕ) → is_whole bytes ≡ true → 2 + byte_at bytes 1 ≤ length bytes
long_name bytes whole = let e =
    (both_true (nat_le (2 + byte_at bytes 1) (length bytes))
    (nat_le (least_rest (byte_at bytes 0) (rest_said bytes)) (length (rest_said bytes))) whole).0 in grind (arith, nat_tests, e)

pub long_rest : {bytes name rest : List ℕ} {code : ℕ} → is_whole bytes ≡ true → IsRead bytes code name rest → least_rest code rest ≤ length rest
long_rest {bytes} {name} {rest} {code} whole r =
    let e = (both_true (nat_le (2 + byte_at bytes 1) (length bytes))
    (nat_le (least_rest (byte_at bytes 0) (rest_said bytes)) (length (rest_said bytes))) whole).1 in
    let long : least_rest (byte_at bytes 0) (rest_said bytes) ≤ length (rest_said bytes) = grind (arith, nat_tests, e) in
    subst (λ (n : ℕ). n ≤ length rest) (λ i. least_rest (r.code i) (r.rest i))
    (subst (λ (xs : List ℕ). least_rest (byte_at bytes 0) (rest_said bytes) ≤ length xs) r.rest long)

-- A NOTE THAT ISN'T ONE OF BYTES
module _ (t : Operations) where
  pub plain_back : (u : Undoing) → IsPlainNote u → (cs : List Before) (x : Slot) → back t u cs x ≡ back t u [] x
  plain_back WasNothing p cs x = refl
  plain_back WasMake p cs x = refl
  plain_back (WasDrop root) p cs x = refl
  plain_back WasPush p cs x = refl
  plain_back (WasPop item) p cs x = refl
  plain_back (WasSet index item) p cs x = refl
  plain_back (WasApply index code arg) p cs x = refl
  plain_back (WasPut key) p cs x = refl
  plain_back (WasOver key value) p cs x = refl
  plain_back (WasBytes size) p cs x = absurd p

pub plain_space : (u : Undoing) → IsPlainNote u → (found : List Before) (was now : Space) → IsPutBack u found was now → now ≡ was
plain_space WasNothing p found was now k = k
plain_space WasMake p found was now k = k
plain_space (WasDrop root) p found was now k = k
plain_space WasPush p found was now k = k
plain_space (WasPop item) p found was now k = k
plain_space (WasSet index item) p found was now k = k
plain_space (WasApply index code arg) p found was now k = k
plain_space (WasPut key) p found was now k = k
plain_space (WasOver key value) p found was now k = k
plain_space (WasBytes size) p found was now k = absurd p

-- its code
pick_plain : (b : Bool) (u v : Undoing) → IsPlainNote u → IsPlainNote v → IsPlainNote (if b then u else v)
pick_plain true u v p q = p
pick_plain false u v p q = q

plain_said : (code : ℕ) (rest : List ℕ) → (code ≡ 9 → ⊥) → IsPlainNote (undoing_said code rest)
plain_said code rest ne =
    let other : (code == 9) ≡ false = grind (arith, nat_tests, ne) in
    pick_plain (code == 1) WasMake _ tt
    (pick_plain (code == 2) (WasDrop (little_number 4 rest)) _ tt
    (pick_plain (code == 3) WasPush _ tt
    (pick_plain (code == 4) (WasPop rest) _ tt
    (pick_plain (code == 5) (WasSet (little_number 4 rest) (drop 4 rest)) _ tt
    (pick_plain (code == 6) (WasApply (little_number 4 rest) (little_number 2 (drop 4 rest)) (drop 2 (drop 4 rest))) _ tt
    (pick_plain (code == 7) (WasPut rest) _ tt
    (pick_plain (code == 8) (over_said rest) (if code == 9 then WasBytes (little_number 4 rest) else WasNothing) tt
    (subst (λ (b : Bool). IsPlainNote (if b then WasBytes (little_number 4 rest) else WasNothing)) (sym other) tt))))))))

-- no other code undoes anything
beyond : (code : ℕ) (rest : List ℕ) → 9 < code → undoing_said code rest ≡ WasNothing
beyond code rest far =
    let e1 : (code == 1) ≡ false = grind (arith, nat_tests, far) in
    let e2 : (code == 2) ≡ false = grind (arith, nat_tests, far) in
    let e3 : (code == 3) ≡ false = grind (arith, nat_tests, far) in
    let e4 : (code == 4) ≡ false = grind (arith, nat_tests, far) in
    let e5 : (code == 5) ≡ false = grind (arith, nat_tests, far) in
    let e6 : (code == 6) ≡ false = grind (arith, nat_tests, far) in
    let e7 : (code == 7) ≡ false = grind (arith, nat_tests, far) in
    let e8 : (code == 8) ≡ false = grind (arith, nat_tests, far) in
    let e9 : (code == 9) ≡ false = grind (arith, nat_tests, far) in
    λ i. if e1 i then WasMake
    else (if e2 i then WasDrop (little_number 4 rest)
    else (if e3 i then WasPush
    else (if e4 i then WasPop rest
    else (if e5 i then WasSet (little_number 4 rest) (drop 4 rest)
    else (if e6 i then WasApply (little_number 4 rest) (little_number 2 (drop 4 rest)) (drop 2 (drop 4 rest))
    else (if e7 i then WasPut rest
    else (if e8 i then over_said rest
    else (if e9 i then WasBytes (little_number 4 rest)
    else WasNothing))))))))

nothing_back : (t : Operations) (u : Undoing) (x : Slot) (th : Option Thing) → u ≡ WasNothing → back t u [] x ≡ Some th → ⊥
nothing_back t u x th e f = let z : ◌≡◌ {A = Option (Option Thing)} None (Some th) = ap (λ (w : Undoing). back t w [] x) (sym e) ∙ f in cc

-- the fields that a note of this code wants are there
fields_whole : (t : Operations) (code : ℕ) (rest : List ℕ) (x : Slot) (th : Option Thing) → (code ≡ 9 → ⊥) → least_rest code rest ≤ length rest
    → back t (undoing_said code rest) [] x ≡ Some th → IsWhole code rest
fields_whole t code rest x th ne long e = record {
  least = elim (cases_lt code 1) [
    | inl low ↦ absurd (nothing_back t (undoing_said code rest) x th (ap (λ (c : ℕ). undoing_said c rest) (let z : code ≡ 0 = omega (arith, low) in z)) e)
    | inr some ↦ some
  ];
  most = elim (cases_lt 8 code) [
    | inl high ↦ absurd (nothing_back t (undoing_said code rest) x th (beyond code rest (omega (arith, high, ne))) e)
    | inr few ↦ few
  ];
  root = λ is. subst (λ (c : ℕ). least_rest c rest ≤ length rest) is long;
  index = λ is. subst (λ (c : ℕ). least_rest c rest ≤ length rest) is long;
  numbers = λ is. subst (λ (c : ℕ). least_rest c rest ≤ length rest) is long;
  key = λ is. subst (λ (c : ℕ). least_rest c rest ≤ length rest) is long;
}

pub can_by : (v : View) (t : Operations) (bytes : List ℕ) (code : ℕ) (who rest : List ℕ) → (code ≡ 9 → ⊥) → HasNote t v bytes → IsRead bytes code who rest
    → HasContents v (CanReverseBy t v code who rest)
can_by v t bytes code who rest ne h r told =
    let p = h told in
    let whole = possible_whole bytes p in
    let u = said_undoes r in
    let n = said_name whole r in
    let plain : IsPlainNote (note_said bytes).undoes = subst IsPlainNote (sym u) (plain_said code rest ne) in
    let possible : back t (undoing_said code rest) [] (slot (reading p.contents) who) ≡ Some p.th =
    sym (λ i. back t (u i) [] (slot (reading p.contents) (n i))) ∙
    (sym (plain_back t (note_said bytes).undoes plain p.found (slot (reading p.contents) (note_said bytes).name)) ∙ p.possible) in (
      p.contents,
      subst (λ (x : Space). IsContents x p.contents) (sym (plain_space (note_said bytes).undoes plain p.found p.was v.space p.put_back)) p.there,
      record {
        undo = record { th = p.th; possible = possible };
        whole = fields_whole t code rest (slot (reading p.contents) who) p.th ne (long_rest whole r) possible;
        free = subst (λ (x : Undoing). IsFree (needed_back x) v.space) u p.free;
      },
    )

-- whatever was found: it goes with no note but one of bytes
any_plain : {v w : View} {t : Operations} {u : Undoing} {name : List ℕ} → IsPlainNote u → Undoes v w t u name → UndoesAny v w t u name
any_plain {v} {w} {t} {u} {name} plain d = record {
  told = d.told;
  done = λ told was s h found k th e.
      let same : v.space ≡ was = plain_space u plain found was v.space k in
      let one = d.done told s (subst (λ (x : Space). IsContents x s) (sym same) h) th (sym (plain_back t u plain found (slot (reading s) name)) ∙ e) in
      (one.0, subst (λ (x : Space). IsUndone u name x w.space s th one.0) same one.1);
}

-- what was undone is what the bytes say, since that can be undone
said_any : (v w : View) (t : Operations) (bytes : List ℕ) (u : Undoing) (who : List ℕ) → (note_said bytes).undoes ≡ u
    → (is_whole bytes ≡ true → (note_said bytes).name ≡ who) → UndoesAny v w t u who → Reverses v w t bytes
said_any v w t bytes u who same name d = record {
  told = d.told;
  done = λ told was s h found k th e.
      let n = name (said_whole t bytes found th h e) in
      let all : Reverses v w t bytes = subst (λ (m : List ℕ). UndoesAny v w t (note_said bytes).undoes m) (sym n)
      (subst (λ (x : Undoing). UndoesAny v w t x who) (sym same) d) in
      all.done told was s h found k th e;
}

pub did_by : (v w : View) (t : Operations) (bytes : List ℕ) (code : ℕ) (who rest : List ℕ) (r : Result ⊤ SpaceFault) → (code ≡ 9 → ⊥)
    → IsRead bytes code who rest → OnOk r (Undoes v w t (undoing_said code rest) who) → OnOk r (Reverses v w t bytes)
did_by v w t bytes code who rest (Ok x) ne read d = said_any v w t bytes (undoing_said code rest) who (said_undoes read) (λ whole. said_name whole read)
    (any_plain (plain_said code rest ne) d)
did_by v w t bytes code who rest (Err e) ne read d = d

-- A NOTE OF BYTES
says_bytes : {bytes name rest : List ℕ} {code : ℕ} (size : ℕ) → size ≡ little_number 4 rest → code ≡ 9 → IsRead bytes code name rest
    → (note_said bytes).undoes ≡ WasBytes size
says_bytes {rest = rest} size is nine r = said_undoes r ∙ (ap (λ (c : ℕ). undoing_said c rest) nine ∙ ap WasBytes (sym is))

pub can_bytes : (v : View) (t : Operations) (bytes : List ℕ) (code : ℕ) (who rest : List ℕ) (size : ℕ) → size ≡ little_number 4 rest → code ≡ 9 → HasNote t v bytes → IsRead bytes code who rest → v.Told → CanUndoBytes t size who v.space
can_bytes v t bytes code who rest size is nine h r told =
    let p = h told in
    let u = says_bytes size is nine r in
    let n = said_name (possible_whole bytes p) r in
    record {
      was = p.was;
      contents = p.contents;
      reads = p.there;
      found = p.found;
      put_back = subst (λ (x : Undoing). IsPutBack x p.found p.was v.space) u p.put_back;
      th = p.th;
      possible = sym (λ i. back t (u i) p.found (slot (reading p.contents) (n i))) ∙ p.possible;
    }

any_bytes : {v w : View} {t : Operations} {size : ℕ} {name : List ℕ} → UndoesBytes v w t size name → UndoesAny v w t (WasBytes size) name
any_bytes d = record { told = d.told; done = d.done }

pub did_bytes : (v w : View) (t : Operations) (bytes : List ℕ) (code : ℕ) (who rest : List ℕ) (size : ℕ) (r : Result ⊤ SpaceFault) → size ≡ little_number 4 rest → code ≡ 9 → IsRead bytes code who rest → OnOk r (UndoesBytes v w t size who) → OnOk r (Reverses v w t bytes)
did_bytes v w t bytes code who rest size (Ok x) is nine r d = said_any v w t bytes (WasBytes size) who (says_bytes size is nine r)
    (λ whole. said_name whole r) (any_bytes d)
did_bytes v w t bytes code who rest size (Err e) is nine r d = d

-- ONE CODE AS ANOTHER WAY TO SAY IT
pub can_as : (v : View) (t : Operations) (code code' : ℕ) (name rest : List ℕ) → code ≡ code' → HasContents v (CanReverseBy t v code name rest) → HasContents v (CanUndo t (undoing_said code' rest) name)
can_as v t code code' name rest e there told = let h = there told in (h.0, h.1, subst (λ (n : ℕ). CanUndo t (undoing_said n rest) name h.0) e (h.2).undo)

pub undo_as : (v : View) (t : Operations) (name : List ℕ) {u u' : Undoing} → u ≡ u' → HasContents v (CanUndo t u name) → HasContents v (CanUndo t u' name)
undo_as v t name e there told = let h = there told in (h.0, h.1, subst (λ (x : Undoing). CanUndo t x name h.0) e h.2)

pub did_as : (v w : View) (t : Operations) (name : List ℕ) (r : Result ⊤ SpaceFault) {u u' : Undoing} → u ≡ u' → OnOk r (Undoes v w t u name) → OnOk r (Undoes v w t u' name)
did_as v w t name r e d = subst (λ (x : Undoing). OnOk r (Undoes v w t x name)) e d

pub whole_of : (v : View) (t : Operations) (code : ℕ) (name rest : List ℕ) → HasContents v (CanReverseBy t v code name rest) → v.Told → IsWhole code rest
whole_of v t code name rest there told = let h = there told in (h.2).whole

-- A NOTE THAT WAS TAKEN APART
text_is : (b : Bool) (x who : List ℕ) → cond b (Some x) None ≡ Some who → x ≡ who
text_is true x who e = cc
text_is false x who e = absurd (cc)

all_taken : (xs : List ℕ) → take (length xs) xs ≡ xs
all_taken [] = refl
all_taken (x ∷ xs) = ap (λ ys. x ∷ ys) (all_taken xs)

pub left_long : (n : ℕ) (xs : List ℕ) → length (drop n xs) ≡ length xs - n
left_long zero xs = omega arith
left_long (suc n) [] = omega arith
left_long (suc n) (x ∷ xs) = let rest = left_long n xs in omega (arith, rest)

-- a range to the end
pub to_end : (n : ℕ) (xs : List ℕ) → take (length xs - n) (drop n xs) ≡ drop n xs
to_end n xs = ap (λ (m : ℕ). take m (drop n xs)) (sym (left_long n xs)) ∙ all_taken (drop n xs)

abbrev pub behind_of : List ℕ → List ℕ
behind_of bytes = take (length bytes - 2) (drop 2 bytes)

abbrev pub tail_of : List ℕ → List ℕ
tail_of bytes = take (length (behind_of bytes) - byte_at bytes 1) (drop (byte_at bytes 1) (behind_of bytes))

pub read_from : (bytes note who : List ℕ) (o : Option (List ℕ)) → bytes ≡ note → o ≡ (if is_name (take (byte_at bytes 1) (behind_of bytes)) then Some (take (byte_at bytes 1) (behind_of bytes)) else None) → o ≡ Some who → IsRead note (byte_at bytes 0) who (tail_of bytes)
read_from bytes note who o same new is =
    let size = byte_at bytes 1 in
    let behind : behind_of bytes ≡ drop 2 bytes = to_end 2 bytes in
    subst (λ (xs : List ℕ). IsRead xs (byte_at bytes 0) who (tail_of bytes)) same (record {
      code = refl;
      name = ap (λ (xs : List ℕ). take size xs) (sym behind) ∙ text_is (is_name (take size (behind_of bytes))) (take size (behind_of bytes)) who (sym new ∙ is);
      rest = ap (λ (xs : List ℕ). drop size xs) (sym behind) ∙ sym (to_end size (behind_of bytes));
    })

-- WHAT CAN BE UNDONE is never cut short
behind_long : (bytes : List ℕ) → length (behind_of bytes) ≡ length bytes - 2
behind_long bytes = ap length (to_end 2 bytes) ∙ left_long 2 bytes

pub never_short : (v : View) (t : Operations) (read bytes : List ℕ) → read ≡ bytes → length read < 2 → HasNote t v bytes → v.Told → ⊥
never_short v t read bytes same short h told =
    let long = long_name bytes (possible_whole bytes (h told)) in
    let size = ap length same in
    omega (arith, long, size, short)

pub never_cut : (v : View) (t : Operations) (read bytes : List ℕ) → read ≡ bytes → length (behind_of read) < byte_at read 1 → HasNote t v bytes → v.Told → ⊥
never_cut v t read bytes same cut h told =
    let long = subst (λ (xs : List ℕ). 2 + byte_at xs 1 ≤ length xs) (sym same) (long_name bytes (possible_whole bytes (h told))) in
    let size = behind_long read in
    omega (arith, long, size, cut)

named_if : (b : Bool) (x : List ℕ) → (if b then Some x else None) ≡ None → b ≡ true → ⊥
named_if true x e f = let z : ◌≡◌ {A = Option (List ℕ)} (Some x) None = e in cc
named_if false x e f = absurd (let z : false ≡ true = f in cc)

pub never_unnamed : (v : View) (t : Operations) (read bytes : List ℕ) (o : Option (List ℕ)) → read ≡ bytes
    → o ≡ (if is_name (take (byte_at read 1) (behind_of read)) then Some (take (byte_at read 1) (behind_of read)) else None) → o ≡ None
    → HasNote t v bytes → v.Told → ⊥
never_unnamed v t read bytes o same new none h told =
    let p = h told in
    let whole = possible_whole bytes p in
    let name : (note_said bytes).name ≡ take (byte_at bytes 1) (drop 2 bytes) = ap
    (λ (b : Bool). if b then take (byte_at bytes 1) (drop 2 bytes) else []) whole in
    let named : is_name (take (byte_at bytes 1) (drop 2 bytes)) ≡ true = ap is_name (sym name) ∙ undone_named t (note_said bytes).undoes p.found
    (note_said bytes).name p.th p.there p.possible in
    let read_named : is_name (take (byte_at read 1) (drop 2 read)) ≡ true = subst (λ (xs : List ℕ). is_name (take (byte_at xs 1) (drop 2 xs)) ≡ true)
    (sym same) named in
    named_if (is_name (take (byte_at read 1) (behind_of read))) (take (byte_at read 1) (behind_of read)) (sym new ∙ none)
    (ap (λ (xs : List ℕ). is_name (take (byte_at read 1) xs)) (to_end 2 read) ∙ read_named)

pub never_bare : (v : View) (t : Operations) (bytes : List ℕ) (code : ℕ) (who rest : List ℕ) → code ≡ 9 → length rest < 4 → IsRead bytes code who rest
    → HasNote t v bytes → v.Told → ⊥
never_bare v t bytes code who rest nine short r h told =
    let long : 4 ≤ length rest = subst (λ (c : ℕ). least_rest c rest ≤ length rest) nine (long_rest (possible_whole bytes (h told)) r) in
    omega (arith, long, short)
