-- What notes take back, the last one first.
use Rattle.std.proofs.Common.{◌≡◌, ℕ, List, [], ◌∷◌, ◌++◌, map, Option, Some, None, Result, Ok, Err, IsOk, OnOk, refl, sym, ap, ◌∙◌}
use Rattle.std.specs.FinMap.{get, insert}
use Rattle.sg_ops.specs.Table.{Table as Operations}
use Rattle.sg_model.specs.Objects.{Object, Objects}
use Rattle.sg_model.specs.Verb.{Verb, Outcome}
use Rattle.sg_model.specs.Verb.Op.{On}
use Rattle.sg_model.specs.Verb.Reply.{Done}
use Rattle.sg_model.specs.Step.{on, step, put_at}
use Rattle.sg_model.specs.Undo.{Note, OpNote, undo, undo_on, undo_all_on, note_object, note_of_op, if_replied}
use Rattle.sg_model.proofs.Noted.{get_unstep}
use Rattle.sg_model.proofs.Refused.{put_same}
use Rattle.sg_plain.specs.declared.undo.Noted as code_noted
use Rattle.sg_plain.specs.Undone.{shown_noted}

-- the last note is taken back first
undo_pushed : (name : List ℕ) (notes : List OpNote) (note : OpNote) (object : Option Object) → undo_all_on name (notes ++ note ∷ []) object ≡ undo_all_on name notes (undo_on name note object)
undo_pushed name [] note object = refl
undo_pushed name (n ∷ notes) note object = ap (undo_on name n) (undo_pushed name notes note object)

shown_pushed : (notes : List code_noted.Noted) (n : code_noted.Noted) → map shown_noted (notes ++ n ∷ []) ≡ map shown_noted notes ++ shown_noted n ∷ []
shown_pushed [] n = refl
shown_pushed (m ∷ notes) n = ap (λ (ns : List OpNote). shown_noted m ∷ ns) (shown_pushed notes n)

pub undo_last : (name : List ℕ) (all notes : List code_noted.Noted) (n : code_noted.Noted) (object : Option Object) → all ≡ notes ++ n ∷ [] → undo_all_on name (map shown_noted all) object ≡ undo_all_on name (map shown_noted notes) (undo_on name (shown_noted n) object)
undo_last name all notes n object e =
    ap (λ (ns : List OpNote). undo_all_on name ns object) (ap (map shown_noted) e ∙ shown_pushed notes n) ∙ undo_pushed name (map shown_noted notes) (shown_noted n) object

-- what stands under a name once one note is taken back
pub taken_back : (s m : Objects) (n : code_noted.Noted) (name : List ℕ) → m ≡ put_at s n.name (undo (shown_noted n).1 (get s n.name)) → get m name ≡ undo_on name (shown_noted n) (get s name)
taken_back s m n name e = ap (λ (x : Objects). get x name) e ∙ get_unstep s (Ok Done, shown_noted n) name

-- what is noted of an operation that isn't refused

replied_note : (r : Outcome) (note : Note) → IsOk r → note ≡ if_replied r note
replied_note (Ok x) note h = refl
replied_note (Err e) note h = absurd (cc)

pub accepted_note : (t : Operations) (s : Objects) (n : List ℕ) (verb : Verb) (note : Note) → IsOk (step t s (On n verb)).0 → note ≡ note_object verb (get s n) → (n, note) ≡ note_of_op t s (On n verb)
unfolding step
accepted_note t s n verb note h e =
    let pair : Note → OpNote = λ k. (n, k) in
    ap pair (e ∙ replied_note (on t verb (get s n)).0 (note_object verb (get s n)) h)

pub accepted_on : (t : Operations) (s : Objects) (n : List ℕ) (verb : Verb) → IsOk (step t s (On n verb)).0 → IsOk (on t verb (get s n)).0
unfolding step
accepted_on t s n verb h = h

-- one more note
pub one_noted : (all notes start : List code_noted.Noted) (n : code_noted.Noted) (pair : OpNote) → all ≡ notes ++ n ∷ [] → notes ≡ start → shown_noted n ≡ pair
    → (name : List ℕ) (object : Option Object) → undo_all_on name (map shown_noted all) object ≡ undo_all_on name (map shown_noted start) (undo_on name pair object)
one_noted all notes start n pair e same is name object =
    undo_last name all notes n object e
    ∙ (ap (λ (ns : List code_noted.Noted). undo_all_on name (map shown_noted ns) (undo_on name (shown_noted n) object)) same ∙ ap (λ (k : OpNote). undo_all_on name (map shown_noted start) (undo_on name k object)) is)

-- what a note that is taken back leaves among all objects

pub none_undone : (s m : Objects) (n : List ℕ) (note : Note) → get s n ≡ None → undo note None ≡ None → m ≡ s → m ≡ put_at s n (undo note (get s n))
none_undone s m n note none stays same = same ∙ sym (ap (put_at s n) (ap (undo note) none ∙ (stays ∙ sym none)) ∙ put_same s n)

pub there_undone : {A E : Type 0} (s m : Objects) (n : List ℕ) (note : Note) (o p : Object) (result : Result A E) → get s n ≡ Some o → m ≡ insert s n p → OnOk result (Some p ≡ undo note (Some o)) → OnOk result (m ≡ put_at s n (undo note (get s n)))
there_undone s m n note o p (Ok x) there put h = put ∙ ap (put_at s n) (h ∙ ap (undo note) (sym there))
there_undone s m n note o p (Err e) there put h = tt
