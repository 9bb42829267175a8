-- What a log has to keep of a run of transactions: the operations that can change objects and got a reply.
use Rattle.std.specs.Prelude.{◌≡◌, ℕ, Bool, ◌&&◌, List, [], ◌∷◌, map, take, Option, Some, None, Ok, Err, is_ok}
use Rattle.std.specs.List.{filter}
use Rattle.sg_serial.specs.Runs.{in_order}
use Rattle.sg_ops.specs.Table.{Table as Operations}
use Rattle.sg_model.specs.Objects.{Objects}
use Rattle.sg_model.specs.Verb.{Op, Outcome}
use Rattle.sg_model.specs.Step.{step, is_changing}
use Rattle.sg_words.specs.Answers.{Answer}
use Rattle.sg_run.specs.Run.{Event, Run, start, Lines, objects_after}

-- whether a log keeps an entry
abbrev pub is_kept : Event → Bool
is_kept e = is_changing e.op && is_ok e.out

-- the operations of the entries that a log keeps
abbrev pub kept_ops : List Event → List Op
kept_ops es = map (λ e. e.op) (filter is_kept es)

-- the objects after an operation, if it got a reply
abbrev pub if_replied : Outcome → Objects → Option Objects
if_replied (Ok reply) after = Some after
if_replied (Err reason) after = None

-- the objects after these operations, if each of them gets a reply
abbrev pub replay : Operations → List Op → Option Objects → Option Objects
replay t [] s = s
replay t (op ∷ ops) None = None
replay t (op ∷ ops) (Some s) = replay t ops (if_replied (step t s op).0 (step t s op).1)

-- what a log keeps of the first transactions in the order of commit gives the objects after them
abbrev pub LogIsEnough : Type 0
LogIsEnough = (t : Operations) (first : Objects) (lines : List (List ℕ)) (answers : List Answer) (x : Run) → Lines t (start first) lines answers x → x.stopped ≡ None
    → (n : ℕ) → replay t (kept_ops (in_order (take n x.so_far.commits))) (Some x.so_far.first) ≡ Some (objects_after t n x)
