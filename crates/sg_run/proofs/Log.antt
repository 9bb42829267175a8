-- What a log keeps of a run is enough: the operations that can change objects and got a reply.
use Rattle.std.proofs.Common.{◌≡◌, ℕ, zero, suc, take, map, ◌++◌, Bool, true, false, cond, List, [], ◌∷◌, Some, Ok, Err, refl, sym, ap, ◌∙◌, subst}
use Rattle.std.specs.Prelude.{◌&&◌, is_ok}
use Rattle.std.specs.List.{filter}
use Rattle.sg_serial.specs.Machine.{run, Replays}
use Rattle.sg_serial.specs.Runs.{in_order}
use Rattle.sg_serial.proofs.Lists.{append_assoc}
use Rattle.sg_serial.proofs.Kept.{and_true}
use Rattle.sg_ops.specs.Table.{Table as Operations}
use Rattle.sg_model.specs.Objects.{Objects}
use Rattle.sg_model.specs.Verb.{Outcome}
use Rattle.sg_model.specs.Step.{is_changing, step}
use Rattle.sg_model.proofs.Refused.{replied, step_refused, step_reads}
use Rattle.sg_run.specs.Run.{Event, Run}
use Rattle.sg_run.specs.Kept.{is_kept, kept_ops, if_replied, replay, LogIsEnough}
use Rattle.sg_run.proofs.Serial.{serial_theorem}

ok_replied : (o : Outcome) → is_ok o ≡ replied o
ok_replied (Ok r) = refl
ok_replied (Err e) = refl

left_alone : (t : Operations) (s : Objects) (e : Event) (b c : Bool) → is_changing e.op ≡ b → replied e.out ≡ c → (step t s e.op).0 ≡ e.out → (b && c) ≡ false → (step t s e.op).1 ≡ s
left_alone t s e true true p q h n = absurd (cc)
left_alone t s e true false p q h n = step_refused t s e.op (ap replied h ∙ q)
left_alone t s e false c p q h n = step_reads t s e.op p

module _ (t : Operations) where
  -- the entries that the log keeps leave what all leave, and each gets its reply again
  pub kept_run : (s : Objects) (es : List Event) → Replays (step t) s es → (run (step t) s (filter is_kept es) ≡ run (step t) s es) × Replays (step t) s (filter is_kept es)
  kept_run s [] h = (refl, tt)
  kept_run s (e ∷ es) h = go (is_kept e) refl (kept_run (step t s e.op).1 es h.1)
    where
      go : (b : Bool) → is_kept e ≡ b → (run (step t) (step t s e.op).1 (filter is_kept es) ≡ run (step t) (step t s e.op).1 es) × Replays (step t) (step t s e.op).1 (filter is_kept es)
          → (run (step t) s (cond b (e ∷ filter is_kept es) (filter is_kept es)) ≡ run (step t) (step t s e.op).1 es) × Replays (step t) s (cond b (e ∷ filter is_kept es) (filter is_kept es))
      go true q r = (r.0, (h.0, r.1))
      go false q r =
          let same : (step t s e.op).1 ≡ s = left_alone t s e (is_changing e.op) (replied e.out) refl refl h.0 (ap (λ b. is_changing e.op && b) (sym (ok_replied e.out)) ∙ q) in
          (ap (λ u. run (step t) u (filter is_kept es)) (sym same) ∙ r.0, subst (λ (u : Objects). Replays (step t) u (filter is_kept es)) same r.1)

  -- operations that got replies are replayed
  all_replied : (s : Objects) (e : Event) → (step t s e.op).0 ≡ e.out → is_ok e.out ≡ true → if_replied (step t s e.op).0 (step t s e.op).1 ≡ Some (step t s e.op).1
  all_replied s e h k = go (step t s e.op).0 (ap (λ (o : Outcome). is_ok o) h ∙ k)
    where
      go : (o : Outcome) → is_ok o ≡ true → if_replied o (step t s e.op).1 ≡ Some (step t s e.op).1
      go (Ok r) y = refl
      go (Err r) y = absurd (cc)

  replayed : (s : Objects) (es : List Event) → Replays (step t) s (filter is_kept es) → replay t (kept_ops es) (Some s) ≡ Some (run (step t) s (filter is_kept es))
  replayed s [] h = refl
  replayed s (e ∷ es) h = go (is_kept e) refl s (λ u. replayed u es) h
    where
      go : (b : Bool) → is_kept e ≡ b → (s : Objects) → ((u : Objects) → Replays (step t) u (filter is_kept es) → replay t (kept_ops es) (Some u) ≡ Some (run (step t) u (filter is_kept es)))
          → Replays (step t) s (cond b (e ∷ filter is_kept es) (filter is_kept es)) → replay t (map (λ e. e.op) (cond b (e ∷ filter is_kept es) (filter is_kept es))) (Some s) ≡ Some (run (step t) s (cond b (e ∷ filter is_kept es) (filter is_kept es)))
      go true q s f h = ap (λ r. replay t (kept_ops es) r) (all_replied s e h.0 (and_true (is_changing e.op) (is_ok e.out) q).1) ∙ f (step t s e.op).1 h.1
      go false q s f h = f s h

-- and their operations do again what the entries did, each with a reply
pub replay_kept : (t : Operations) (s : Objects) (es : List Event) → Replays (step t) s es → replay t (kept_ops es) (Some s) ≡ Some (run (step t) s es)
replay_kept t s es h = let k = kept_run t s es h in replayed t s es k.1 ∙ ap Some k.0

Replays-front : (t : Operations) (s : Objects) (xs ys : List Event) → Replays (step t) s (xs ++ ys) → Replays (step t) s xs
Replays-front t s [] ys h = tt
Replays-front t s (e ∷ xs) ys h = (h.0, Replays-front t (step t s e.op).1 xs ys h.1)

split_first : (n : ℕ) (xss : List (List Event)) → (ys : List Event) × (in_order xss ≡ in_order (take n xss) ++ ys)
split_first zero xss = (in_order xss, refl)
split_first (suc n) [] = ([], refl)
split_first (suc n) (xs ∷ xss) = let r = split_first n xss in (r.0, ap (λ zs. xs ++ zs) r.1 ∙ sym (append_assoc xs (in_order (take n xss)) r.0))

pub replay_front : (t : Operations) (x : Run) → Replays (step t) x.so_far.first (in_order x.so_far.commits) → (n : ℕ) → replay t (kept_ops (in_order (take n x.so_far.commits))) (Some x.so_far.first) ≡ Some (run (step t) x.so_far.first (in_order (take n x.so_far.commits)))
replay_front t x h n =
    let r = split_first n x.so_far.commits in
    let all : Replays (step t) x.so_far.first (in_order (take n x.so_far.commits)) = Replays-front t x.so_far.first (in_order (take n x.so_far.commits)) r.0 (subst (λ (es : List Event). Replays (step t) x.so_far.first es) r.1 h) in
    replay_kept t x.so_far.first (in_order (take n x.so_far.commits)) all

pub log_theorem : LogIsEnough
log_theorem t first lines answers x h s n = replay_front t x (serial_theorem t first lines answers x h s).replies n
