-- How far tables have grown.
use Rattle.std.proofs.Common.{◌≡◌, ℕ, Bool, true, List, Option, Some, Result, Ok, Err, IfOk, sym, ap, ◌∙◌, subst}
use Rattle.sg_base.specs.Sheet.{Sheet}
use Rattle.sg_catalog.specs.declared.row.ObjectKind.{ObjectKind}
use Rattle.sg_catalog.specs.declared.row.ObjectKind.TheVariants as kinds
use Rattle.sg_catalog.specs.declared.row.Row.{Row}
use Rattle.sg_hash.specs.Calls.{IsPut}
use Rattle.sg_hash.specs.Table.{HashTable, IsHashTable}
use Rattle.sg_model.specs.Verb.{Verb, Outcome}
use Rattle.sg_model.specs.Verb.Verb.{MakeArray, MakeTable, MakeBlob, Discard, Push, Pop, Set, Get, Len, Apply, Put, Del, Find, Keys, Write, Read, Size, Paint}
use Rattle.sg_model.specs.declared.op.Op.{Op}
use Rattle.sg_model.specs.declared.op.Reply as code_reply
use Rattle.sg_model.specs.declared.reason.Reason.{Reason}
use Rattle.sg_model.specs.SaidOps.{name_of, verb_of}
use Rattle.sg_model.specs.SaidReplies.{said_outcome}
use Rattle.sg_ops.specs.Table.{Table as Operations}
use Rattle.sg_space.specs.declared.space.SpaceFault.{SpaceFault}
use Rattle.sg_space.specs.View.{View, Space}
use Rattle.sg_contents.specs.Standing.{Body, Contents}
use Rattle.sg_contents.specs.Standing.Body.{AnArray, ATable, ABlob}
use Rattle.sg_objects.specs.Done.{HasRoomFor}
use Rattle.sg_objects.specs.Found.{IsAt}
use Rattle.sg_objects.specs.Shaped.{ShapesTable, Shapes}

-- a name has one root of a kind, and a root one table
same_row : {o : Option Row} {x y : Row} → o ≡ Some x → o ≡ Some y → x ≡ y
same_row {o} {x} {y} e f = (let g : Some x ≡ Some y = sym e ∙ f in cc)

pub same_root : {kind : ObjectKind} {s : Contents} {name : List ℕ} {root root' : ℕ} → IsAt kind s name root → IsAt kind s name root' → root ≡ root'
same_root f f' = sym f.root_is ∙ (ap (λ (r : Row). r.root.0) (same_row f.found f'.found) ∙ f'.root_is)

abbrev table_in : HashTable → Body → HashTable
table_in t (ATable a) = a
table_in t (AnArray a) = t
table_in t (ABlob b) = t

same_table : {b : Body} {a a' : HashTable} → b ≡ ATable a → b ≡ ATable a' → a ≡ a'
same_table {a = a} e f = ap (table_in a) (sym e ∙ f)

-- the table that was found is that of the name
pub put_shapes : {s : Contents} {name : List ℕ} {root : ℕ} {a a' : HashTable} {at : ℕ → Option Sheet} (key value : List ℕ) (fresh : Bool) → IsAt kinds.Table s name root → s.body root ≡ ATable a → IsHashTable at root a' → IsPut key value true fresh a a' → (root' : ℕ) (b : HashTable) → IsAt kinds.Table s name root' → s.body root' ≡ ATable b → (fresh : Bool) × (a' : HashTable) × IsHashTable at root' a' × IsPut key value true fresh b a'
put_shapes {s} {name} {root} {a} {a'} {at} key value fresh f is stands put root' b f' is' =
    let e : root ≡ root' = same_root f f' in
    let t : a ≡ b = same_table (subst (λ (n : ℕ). s.body n ≡ ATable a) e is) is' in
    (fresh, a', subst (λ (n : ℕ). IsHashTable at n a') e stands, subst (λ (x : HashTable). IsPut key value true fresh x a') t put)

pub del_shapes : {s : Contents} {name : List ℕ} {root : ℕ} {a a' : HashTable} {at : ℕ → Option Sheet} → IsAt kinds.Table s name root → s.body root ≡ ATable a → IsHashTable at root a' → a'.shape ≡ a.shape → (root' : ℕ) (b : HashTable) → IsAt kinds.Table s name root' → s.body root' ≡ ATable b → (a' : HashTable) × IsHashTable at root' a' × (a'.shape ≡ b.shape)
del_shapes {s} {name} {root} {a} {a'} {at} f is stands same root' b f' is' =
    let e : root ≡ root' = same_root f f' in
    let t : a ≡ b = same_table (subst (λ (n : ℕ). s.body n ≡ ATable a) e is) is' in
    (a', subst (λ (n : ℕ). IsHashTable at n a') e stands, same ∙ ap (λ (x : HashTable). x.shape) t)

-- A VERB THAT IS NEITHER
abbrev pub IsNeither : Verb → Type 0
IsNeither (Put key value) = ⊥
IsNeither (Del key) = ⊥
IsNeither other = Unit {0}

unshaped : (verb : Verb) → IsNeither verb → (o : Outcome) (name : List ℕ) (s : Contents) (new : Space) → ShapesTable verb o name s new
unshaped (Put key value) n o name s new = absurd n
unshaped (Del key) n o name s new = absurd n
unshaped (MakeArray size) n o name s new = tt
unshaped MakeTable n o name s new = tt
unshaped MakeBlob n o name s new = tt
unshaped Discard n o name s new = tt
unshaped (Push value) n o name s new = tt
unshaped Pop n o name s new = tt
unshaped (Set index value) n o name s new = tt
unshaped (Get index) n o name s new = tt
unshaped Len n o name s new = tt
unshaped (Apply index code arg) n o name s new = tt
unshaped (Find key) n o name s new = tt
unshaped Keys n o name s new = tt
unshaped (Write at bytes) n o name s new = tt
unshaped (Read at count) n o name s new = tt
unshaped (Size m) n o name s new = tt
unshaped (Paint at count code arg) n o name s new = tt

pub neither : (v w : View) (Can : Contents → Type 0) (name : List ℕ) (verb : Verb) (into : List ℕ) (r : Result (Result code_reply.Reply Reason) SpaceFault) → IsNeither verb → IfOk r (λ x. Shapes v w Can name verb (said_outcome into x))
neither v w Can name verb into (Ok x) n = record { shaped = λ told s h can. unshaped verb n (said_outcome into x) name s w.space }
neither v w Can name verb into (Err e) n = tt

-- the same of an operation that is another way to say the verb and its name
pub shapes_as : (v w : View) (t : Operations) (into : List ℕ) (r : Result (Result code_reply.Reply Reason) SpaceFault) {o p : Op} → o ≡ p → IfOk r (λ x. Shapes v w (HasRoomFor t v (name_of o) (verb_of o)) (name_of o) (verb_of o) (said_outcome into x)) → IfOk r (λ x. Shapes v w (HasRoomFor t v (name_of p) (verb_of p)) (name_of p) (verb_of p) (said_outcome into x))
shapes_as v w t into r e d = subst (λ (x : Op). IfOk r (λ y. Shapes v w (HasRoomFor t v (name_of x) (verb_of x)) (name_of x) (verb_of x) (said_outcome into y))) e d
