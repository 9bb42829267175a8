-- What a step on all objects comes to.
use Rattle.std.proofs.Common.{◌≡◌, ℕ, ◌≤◌, ◌<◌, Bool, true, false, cond, List, [], Option, Some, None, Result, Ok, Err, IsOk, IfOk, OnErr, refl, sym, ap, ◌∙◌, subst, arith}
use Rattle.std.specs.Prelude.{◌&&◌, nat_le}
use Rattle.std.specs.Option.{is_some}
use Rattle.std.specs.Result.{is_ok}
use Rattle.std.specs.FinMap.{get, insert, remove, keys}
use Rattle.std.proofs.lemmas.Bool.Decides.{nat_tests}
use Rattle.sg_ops.specs.Table.{Table as Operations, fresh_table}
use Rattle.sg_model.specs.declared.op.Reply as code_reply
use Rattle.sg_model.specs.declared.reason.Reason.{Reason}
use Rattle.sg_model.specs.declared.reason.Reason.TheVariants.{NoObject, Exists, OutOfRange}
use Rattle.sg_model.specs.Objects.{Entries, Object, Objects}
use Rattle.sg_model.specs.Objects.Object.{Array, Table}
use Rattle.sg_model.specs.SaidReplies.{said_reply, said_outcome}
use Rattle.sg_plain.specs.Replies.{shown_keys}
use Rattle.sg_model.specs.Verb.{Verb, Op, Outcome}
use Rattle.sg_model.specs.Verb.Op.{On, Names}
use Rattle.sg_model.specs.Verb.Reply.{Done, Several}
use Rattle.std.specs.Prelude.{Vec}
use Rattle.std.specs.declared.alloc.Global.{Global}
use Rattle.sg_model.specs.Verb.Verb.{MakeArray, MakeTable, MakeBlob, Discard, Push, Pop, Set, Get, Len, Apply, Put, Del, Find, Keys, Write, Read, Size, Paint}
use Rattle.sg_model.specs.Step.{Change, make, make_array, discard, on, put_at, step, IsInPlace, Refuses}
use Rattle.sg_model.proofs.Refused.{put_same, step_refused, verb_refused, replied}

-- where there is no object, a verb on one that is there is refused
pub refused_none : (t : Operations) (verb : Verb) → IsInPlace verb → (on t verb None).0 ≡ Err NoObject
refused_none t (Push value) h = refl
refused_none t Pop h = refl
refused_none t (Set index value) h = refl
refused_none t (Get index) h = refl
refused_none t Len h = refl
refused_none t (Apply index code arg) h = refl
refused_none t (Put key value) h = refl
refused_none t (Del key) h = refl
refused_none t (Find key) h = refl
refused_none t Keys h = refl
refused_none t (Write at bytes) h = refl
refused_none t (Read at count) h = refl
refused_none t (Size n) h = refl
refused_none t (Paint at count code arg) h = refl
refused_none t (MakeArray size) h = absurd h
refused_none t MakeTable h = absurd h
refused_none t MakeBlob h = absurd h
refused_none t Discard h = absurd h

pub refuses_none : (t : Operations) (verb : Verb) (o : Option Object) → IsInPlace verb → o ≡ None → Refuses (on t verb o).0 (Some NoObject)
refuses_none t verb o h e = ap (λ (p : Option Object). (on t verb p).0) e ∙ refused_none t verb h

pub refuses_there : (t : Operations) (verb : Verb) (o : Option Object) (x : Object) (r : Option Reason) → o ≡ Some x → Refuses (on t verb (Some x)).0 r → Refuses (on t verb o).0 r
refuses_there t verb o x r e h = subst (λ (p : Option Object). Refuses (on t verb p).0 r) (sym e) h

-- making and dropping

pub exists_array : (size : ℕ) (o : Option Object) → true ≡ is_some o → (make_array size o).0 ≡ Err Exists
exists_array size None e = absurd (cc)
exists_array size (Some x) e = refl

unfit_array : (size : ℕ) (o : Option Object) → false ≡ is_some o → (nat_le 1 size && nat_le size 256) ≡ false → (make_array size o).0 ≡ Err OutOfRange
unfit_array size None e h = ap (λ (b : Bool). (cond {A = Change} b (Ok Done, Some (Array record { size = size; items = [] })) (Err OutOfRange, None)).0) h
unfit_array size (Some x) e h = absurd (cc)

too_small : (size : ℕ) → size < 1 → (nat_le 1 size && nat_le size 256) ≡ false
too_small size h = grind (arith, nat_tests)

too_great : (size : ℕ) → 256 < size → (nat_le 1 size && nat_le size 256) ≡ false
too_great size h = grind (arith, nat_tests)

pub empty_array : (size : ℕ) (o : Option Object) → false ≡ is_some o → size < 1 → (make_array size o).0 ≡ Err OutOfRange
empty_array size o e h = unfit_array size o e (too_small size h)

pub wide_array : (size : ℕ) (o : Option Object) → false ≡ is_some o → 256 < size → (make_array size o).0 ≡ Err OutOfRange
wide_array size o e h = unfit_array size o e (too_great size h)

fit : (size : ℕ) → 1 ≤ size → size ≤ 256 → (nat_le 1 size && nat_le size 256) ≡ true
fit size h k = grind (arith, nat_tests)

pub fit_array : (size : ℕ) (o : Option Object) → false ≡ is_some o → 1 ≤ size → size ≤ 256 → make_array size o ≡ (Ok Done, Some (Array record { size = size; items = [] }))
fit_array size None e h k = ap (λ (b : Bool). cond {A = Change} b (Ok Done, Some (Array record { size = size; items = [] })) (Err OutOfRange, None)) (fit size h k)
fit_array size (Some x) e h k = absurd (cc)

pub exists : (x : Object) (o : Option Object) → true ≡ is_some o → (make x o).0 ≡ Err Exists
exists x None e = absurd (cc)
exists x (Some y) e = refl

pub made : (x : Object) (o : Option Object) → false ≡ is_some o → IsOk (make x o).0
made x None e = refl
made x (Some y) e = absurd (cc)

pub nothing_there : (o : Option Object) → false ≡ is_some o → (discard o).0 ≡ Err NoObject
nothing_there None e = refl
nothing_there (Some y) e = absurd (cc)

pub dropped : (o : Option Object) → true ≡ is_some o → IsOk (discard o).0
dropped None e = absurd (cc)
dropped (Some y) e = refl

pub fits_array : (size : ℕ) (o : Option Object) → false ≡ is_some o → 1 ≤ size → size ≤ 256 → IsOk (make_array size o).0
fits_array size o e h k = ap (λ (c : Change). is_ok c.0) (fit_array size o e h k)

-- what stands there after a change that got a reply

pub after_make : (s : Objects) (n : List ℕ) (x : Object) (o : Option Object) → IsOk (make x o).0 → (let r : Change = make x o in let q : Outcome × Objects = (r.0, put_at s n r.1) in q) ≡ (Ok Done, insert s n x)
after_make s n x None h = refl
after_make s n x (Some y) h = absurd (cc)

pub array_size : (size : ℕ) (o : Option Object) → IsOk (make_array size o).0 → size ≤ 256
array_size size None h = by (nat_le 1 size && nat_le size 256) refl h
  where
    by : (b : Bool) → (nat_le 1 size && nat_le size 256) ≡ b → IsOk (cond {A = Change} b (Ok Done, Some (Array record { size = size; items = [] })) (Err OutOfRange, None)).0 → size ≤ 256
    by true e h = grind (arith, nat_tests)
    by false e h = absurd (cc)
array_size size (Some y) h = absurd (cc)

pub after_make_array : (s : Objects) (n : List ℕ) (size : ℕ) (o : Option Object) → IsOk (make_array size o).0 → (let r : Change = make_array size o in let q : Outcome × Objects = (r.0, put_at s n r.1) in q) ≡ (Ok Done, insert s n (Array record { size = size; items = [] }))
after_make_array s n size None h = by (nat_le 1 size && nat_le size 256) h
  where
    by : (b : Bool) → IsOk (cond {A = Change} b (Ok Done, Some (Array record { size = size; items = [] })) (Err OutOfRange, None)).0 → (let r : Change = cond b (Ok Done, Some (Array record { size = size; items = [] })) (Err OutOfRange, None) in let q : Outcome × Objects = (r.0, put_at s n r.1) in q) ≡ (Ok Done, insert s n (Array record { size = size; items = [] }))
    by true h = refl
    by false h = absurd (cc)
after_make_array s n size (Some y) h = absurd (cc)

pub after_discard : (s : Objects) (n : List ℕ) (o : Option Object) → IsOk (discard o).0 → (let r : Change = discard o in let q : Outcome × Objects = (r.0, put_at s n r.1) in q) ≡ (Ok Done, remove s n)
after_discard s n None h = absurd (cc)
after_discard s n (Some y) h = refl

-- a verb on an object that is there, among all objects
pub done_in : {E : Type 0} (t : Operations) (s m : Objects) (n : List ℕ) (verb : Verb) (o p : Object) (bytes : List ℕ) (result : Result (Result code_reply.Reply Reason) E) → get s n ≡ Some o → m ≡ insert s n p
    → IfOk result (λ r. on t verb (Some o) ≡ (said_outcome bytes r, Some p)) → IfOk result (λ r. step t s (On n verb) ≡ (said_outcome bytes r, m))
unfolding step
done_in t s m n verb o p bytes (Ok r) there is h =
    let P : Change → Outcome × Objects = λ c. (c.0, put_at s n c.1) in
    let Q : Objects → Outcome × Objects = λ x. (said_outcome bytes r, x) in
    ap (λ (x : Option Object). P (on t verb x)) there ∙ (ap P h ∙ ap Q (sym is))
done_in t s m n verb o p bytes (Err e) there is h = tt

pub unchanged : {A E : Type 0} (s m : Objects) (n : List ℕ) (o p : Object) (result : Result A E) → get s n ≡ Some o → m ≡ insert s n p → OnErr result (p ≡ o) → OnErr result (m ≡ s)
unchanged s m n o p (Ok r) there is h = tt
unchanged s m n o p (Err e) there is h = is ∙ (ap (insert s n) h ∙ (ap (put_at s n) (sym there) ∙ put_same s n))

-- it would have got a reply
pub replied_in : {A E : Type 0} (t : Operations) (s : Objects) (n : List ℕ) (verb : Verb) (o : Object) (result : Result A E) → get s n ≡ Some o → OnErr result (IsOk (on t verb (Some o)).0) → OnErr result (IsOk (step t s (On n verb)).0)
unfolding step
replied_in t s n verb o (Ok r) there h = tt
replied_in t s n verb o (Err e) there h = subst (λ (x : Option Object). IsOk (on t verb x).0) (sym there) h

not_replied : (r : Outcome) (reason : Reason) → r ≡ Err reason → replied r ≡ false
not_replied (Ok x) reason e = absurd (cc)
not_replied (Err x) reason e = refl

-- a refused operation changes nothing
pub refused : (t : Operations) (s : Objects) (op : Op) (reason : Reason) → (step t s op).0 ≡ Err reason → step t s op ≡ (Err reason, s)
refused t s op reason h =
    let stays : (step t s op).1 ≡ s = step_refused t s op (not_replied (step t s op).0 reason h) in
    let P : Outcome → Outcome × Objects = λ r. (r, (step t s op).1) in
    let Q : Objects → Outcome × Objects = λ x. (Err reason, x) in
    ap P h ∙ ap Q stays

pub on_refused : (t : Operations) (verb : Verb) (o : Option Object) (reason : Reason) → (on t verb o).0 ≡ Err reason → on t verb o ≡ (Err reason, o)
on_refused t verb o reason h =
    let P : Outcome → Change = λ r. (r, (on t verb o).1) in
    let Q : Option Object → Change = λ x. (Err reason, x) in
    ap P h ∙ ap Q (verb_refused t verb o (not_replied (on t verb o).0 reason h))

-- where there is no object, a verb on one that is there is refused, and changes nothing

pub refused_in : (t : Operations) (s : Objects) (n : List ℕ) (verb : Verb) → IsInPlace verb → get s n ≡ None → (step t s (On n verb)).0 ≡ Err NoObject
unfolding step
refused_in t s n verb h none = refuses_none t verb (get s n) h none

pub none_in : (t : Operations) (s m : Objects) (n : List ℕ) (verb : Verb) → IsInPlace verb → get s n ≡ None → m ≡ s → step t s (On n verb) ≡ (Err NoObject, m)
none_in t s m n verb h none same =
    let Q : Objects → Outcome × Objects = λ x. (Err NoObject, x) in
    refused t s (On n verb) NoObject (refused_in t s n verb h none) ∙ ap Q (sym same)

-- what a table does is the same with any registered operations

pub same_table : (t u : Operations) (verb : Verb) (m : Entries) → IsInPlace verb → on t verb (Some (Table m)) ≡ on u verb (Some (Table m))
same_table t u (Push value) m h = refl
same_table t u Pop m h = refl
same_table t u (Set index value) m h = refl
same_table t u (Get index) m h = refl
same_table t u Len m h = refl
same_table t u (Apply index code arg) m h = refl
same_table t u (Put key value) m h = refl
same_table t u (Del key) m h = refl
same_table t u (Find key) m h = refl
same_table t u Keys m h = refl
same_table t u (Write at bytes) m h = refl
same_table t u (Read at count) m h = refl
same_table t u (Size n) m h = refl
same_table t u (Paint at count code arg) m h = refl
same_table t u (MakeArray size) m h = absurd h
same_table t u MakeTable m h = absurd h
same_table t u MakeBlob m h = absurd h
same_table t u Discard m h = absurd h

pub table_refuses : (t : Operations) (verb : Verb) (m : Entries) (r : Option Reason) → IsInPlace verb → Refuses (on fresh_table verb (Some (Table m))).0 r → Refuses (on t verb (Some (Table m))).0 r
table_refuses t verb m r h k = subst (λ (c : Change). Refuses c.0 r) (same_table fresh_table t verb m h) k

pub table_accepts : (t : Operations) (verb : Verb) (m : Entries) → IsInPlace verb → IsOk (on t verb (Some (Table m))).0 → IsOk (on fresh_table verb (Some (Table m))).0
table_accepts t verb m h k = subst (λ (c : Change). IsOk c.0) (same_table t fresh_table verb m h) k

pub table_does : {E : Type 0} (t : Operations) (verb : Verb) (m n : Entries) (bytes : List ℕ) (result : Result code_reply.Reply E) → IsInPlace verb
    → IfOk result (λ r. on fresh_table verb (Some (Table m)) ≡ (Ok (said_reply bytes r), Some (Table n))) → IfOk result (λ r. on t verb (Some (Table m)) ≡ (Ok (said_reply bytes r), Some (Table n)))
table_does t verb m n bytes (Ok r) h k = same_table t fresh_table verb m h ∙ k
table_does t verb m n bytes (Err e) h k = tt

-- the keys of a table among all objects
pub keys_in : (t : Operations) (s : Objects) (n : List ℕ) (o : Option Object) (r : Outcome) → get s n ≡ o → on t Keys o ≡ (r, o) → step t s (On n Keys) ≡ (r, s)
unfolding step
keys_in t s n o r there h =
    let P : Option Object → Outcome × Objects = λ x. (let c : Change = on t Keys x in (c.0, put_at s n c.1)) in
    let Q : Change → Outcome × Objects = λ c. (c.0, put_at s n c.1) in
    let R : Option Object → Outcome × Objects = λ x. (r, put_at s n x) in
    let S : Objects → Outcome × Objects = λ x. (r, x) in
    ap P there ∙ (ap Q h ∙ (ap R (sym there) ∙ ap S (put_same s n)))

pub keys_there : {E : Type 0} (s : Objects) (n : List ℕ) (o : Object) (result : Result (Result (Vec (List ℕ) Global) Reason) E) → get s n ≡ Some o
    → IfOk result (λ r. (t : Operations) → on t Keys (Some o) ≡ (shown_keys r, Some o)) → IfOk result (λ r. (t : Operations) → step t s (On n Keys) ≡ (shown_keys r, s))
keys_there s n o (Ok r) there h = λ u. keys_in u s n (Some o) (shown_keys r) there (h u)
keys_there s n o (Err e) there h = tt

-- they would have been answered
pub keys_reply : {A E : Type 0} (s : Objects) (n : List ℕ) (o : Object) (result : Result A E) → get s n ≡ Some o → OnErr result ((t : Operations) → IsOk (on t Keys (Some o)).0) → OnErr result ((t : Operations) → IsOk (step t s (On n Keys)).0)
unfolding step
keys_reply s n o (Ok r) there h = tt
keys_reply s n o (Err e) there h = λ t. subst (λ (x : Option Object). IsOk (on t Keys x).0) (sym there) (h t)

pub listed : (t : Operations) (s : Objects) (names : List (List ℕ)) → keys s ≡ names → step t s Names ≡ (Ok (Several names), s)
unfolding step
listed t s names e = let P : List (List ℕ) → Outcome × Objects = λ ks. (Ok (Several ks), s) in ap P e

pub listed_all : {E : Type 0} (s : Objects) (names : List (List ℕ)) (result : Result (Vec (List ℕ) Global) E) → keys s ≡ names → IfOk result (λ v. v.items ≡ names) → IfOk result (λ v. (t : Operations) → step t s Names ≡ (Ok (Several v.items), s))
listed_all s names (Ok v) e h = λ t. listed t s v.items (e ∙ sym h)
listed_all s names (Err x) e h = tt
