-- What is known of live transactions without their marks.
use Rattle.std.proofs.Common.{◌≡◌, ℕ, Bool, true, false, cond, List, [], ◌∷◌, ◌++◌, length, Option, Some, None, refl, sym, ap, ◌∙◌, subst}
use Rattle.std.specs.Prelude.{◌==◌, not, IsSome}
use Rattle.std.specs.Option.{option_map}
use Rattle.std.specs.Str.{bytes_eq}
use Rattle.std.proofs.lemmas.List.{map-append, length-map}
use Rattle.sg_serial.specs.Runs.{Live, Mark, remarking, without}
use Rattle.sg_run.specs.Run.{live_named}
use Rattle.sg_run.specs.Numbers.{Refusal, MarkRefusal}
use Rattle.sg_run.specs.Numbers.Refusal.{Stopped, NoTransaction, TooManyLive, Busy, LocksFull, Because, NoSpace, NoBands, LogEnd, Memory, Disk}
use Rattle.sg_run.specs.Numbers.MarkRefusal.{NoMark, MarksFull, Otherwise}
use Rattle.sg_run.specs.Named.{name_in, answer_to}
use Rattle.sg_words.specs.Answers.Answer.{Busy as InTheWay}
use Rattle.sg_store.specs.declared.fault.MarkRefused.{MarkRefused}
use Rattle.sg_store.specs.declared.fault.MarkRefused.TheVariants as marks
use Rattle.sg_store.specs.declared.fault.Refused.{Refused}
use Rattle.sg_store.specs.declared.fault.Refused.TheVariants as refusals
use Rattle.sg_session.specs.Lines.{answer_mark}
use Rattle.sg_session.specs.Names.{unmarked, all_unmarked, live_numbered, first_live, IsNamed, IsNamedAtMark}
use Rattle.sg_session.proofs.Finding.{map-filter}

found_step : (b : Bool) (l : Live) (o q : Option Live) → q ≡ option_map unmarked o → cond b (Some (unmarked l)) q ≡ option_map unmarked (cond b (Some l) o)
found_step true l o q e = refl
found_step false l o q e = e

-- the one with a name, and with a number
pub by_name : (name : List ℕ) (ls : List Live) → live_named (all_unmarked ls) name ≡ option_map unmarked (live_named ls name)
by_name name [] = refl
by_name name (l ∷ ls) = found_step (bytes_eq name l.name) l (live_named ls name) (live_named (all_unmarked ls) name) (by_name name ls)

pub by_number : (ls : List Live) (u : ℕ) → live_numbered (all_unmarked ls) u ≡ option_map unmarked (live_numbered ls u)
by_number [] u = refl
by_number (l ∷ ls) u = found_step (l.transaction == u) l (live_numbered ls u) (live_numbered (all_unmarked ls) u) (by_number ls u)

-- the first one
pub first_unmarked : (ls : List Live) → first_live (all_unmarked ls) ≡ option_map unmarked (first_live ls)
first_unmarked [] = refl
first_unmarked (l ∷ ls) = refl

-- as many are live
pub as_many : (ls : List Live) → length (all_unmarked ls) ≡ length ls
as_many ls = length-map ls unmarked

-- one more
pub one_more : (ls : List Live) (l : Live) → all_unmarked (ls ++ l ∷ []) ≡ all_unmarked ls ++ unmarked l ∷ []
one_more ls l = map-append unmarked ls (l ∷ [])

-- one less
pub one_less : (u : ℕ) (ls : List Live) → all_unmarked (without u ls) ≡ without u (all_unmarked ls)
one_less u ls = map-filter unmarked (λ l. not (l.transaction == u)) ls

-- other marks
remarked_one : (b : Bool) (f : List Mark → List Mark) (l : Live) → unmarked (cond b (record l { marks = f l.marks }) l) ≡ unmarked l
remarked_one true f l = refl
remarked_one false f l = refl

pub remarked : (u : ℕ) (f : List Mark → List Mark) (ls : List Live) → all_unmarked (remarking u f ls) ≡ all_unmarked ls
remarked u f [] = refl
remarked u f (l ∷ ls) = ap (λ (k : Live). k ∷ all_unmarked (remarking u f ls)) (remarked_one (l.transaction == u) f l) ∙ ap (λ (ks : List Live). unmarked l ∷ ks) (remarked u f ls)

-- what a refusal is answered goes by the names
name_unmarked : (o : Option Live) → name_in (option_map unmarked o) ≡ name_in o
name_unmarked None = refl
name_unmarked (Some l) = refl

pub answer_unmarked : (ls : List Live) (why : Refusal) → answer_to (all_unmarked ls) why ≡ answer_to ls why
answer_unmarked ls Stopped = refl
answer_unmarked ls NoTransaction = refl
answer_unmarked ls TooManyLive = refl
answer_unmarked ls (Busy holder) = ap InTheWay (ap name_in (by_number ls holder) ∙ name_unmarked (live_numbered ls holder))
answer_unmarked ls LocksFull = refl
answer_unmarked ls (Because reason) = refl
answer_unmarked ls (NoSpace free reserved need) = refl
answer_unmarked ls (NoBands free need) = refl
answer_unmarked ls LogEnd = refl
answer_unmarked ls Memory = refl
answer_unmarked ls Disk = refl

pub mark_unmarked : (ls : List Live) (why : MarkRefusal) → answer_mark (all_unmarked ls) why ≡ answer_mark ls why
mark_unmarked ls NoMark = refl
mark_unmarked ls MarksFull = refl
mark_unmarked ls (Otherwise why) = answer_unmarked ls why

-- who is in the way is known by name
some_unmarked : (o : Option Live) → IsSome o → IsSome (option_map unmarked o)
some_unmarked None some = some
some_unmarked (Some l) some = refl

pub named_unmarked : (ls : List Live) (why : Refused) → IsNamed ls why → IsNamed (all_unmarked ls) why
named_unmarked ls refusals.NoTxn is = tt
named_unmarked ls refusals.TooManyLive is = tt
named_unmarked ls (refusals.Busy holder) is = subst IsSome (sym (by_number ls holder.0)) (some_unmarked (live_numbered ls holder.0) is)
named_unmarked ls refusals.LocksFull is = tt
named_unmarked ls (refusals.Model reason) is = tt
named_unmarked ls (refusals.NoSpace free reserved need) is = tt
named_unmarked ls (refusals.NoBands free need) is = tt
named_unmarked ls refusals.LogEnd is = tt
named_unmarked ls refusals.Memory is = tt
named_unmarked ls refusals.DiskFault is = tt
named_unmarked ls refusals.Stopped is = tt

pub mark_named_unmarked : (ls : List Live) (why : MarkRefused) → IsNamedAtMark ls why → IsNamedAtMark (all_unmarked ls) why
mark_named_unmarked ls marks.NoMark is = tt
mark_named_unmarked ls marks.MarksFull is = tt
mark_named_unmarked ls (marks.Store why) is = named_unmarked ls why is

-- the one that is found, by what is found without its marks
pub found : (o : Option Live) (l : Live) → Some l ≡ option_map unmarked o → (k : Live) × (o ≡ Some k) × (k.transaction ≡ l.transaction)
found None l e = absurd (cc)
found (Some k) l e = let p : unmarked k ≡ l = cc in (k, refl, ap (λ (i : Live). i.transaction) p)

pub none_found : (o : Option Live) → None ≡ option_map unmarked o → o ≡ None
none_found None e = refl
none_found (Some k) e = absurd (cc)
