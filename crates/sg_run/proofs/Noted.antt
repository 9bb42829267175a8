-- Each line keeps that a run is noted, and what it does to the notes of each transaction.
use Rattle.std.proofs.Common.{◌≡◌, ℕ, ◌+◌, ◌≤◌, ◌<◌, Bool, true, false, cond, not, List, [], ◌∷◌, ◌++◌, map, Option, None, refl, sym, ap, ◌∙◌, subst, arith}
use Rattle.std.specs.Prelude.{if◌then◌else◌, ◌==◌, ◌&&◌}
use Rattle.std.specs.FinMap.{get}
use Rattle.std.specs.List.{filter}
use Rattle.std.proofs.lemmas.Bool.{eqb-true, eq-eqb, ne_eqb}
use Rattle.std.proofs.lemmas.List.{map-append, length-map}
use Rattle.sg_serial.specs.Machine.{run}
use Rattle.sg_serial.specs.Runs.{is_live, is_own, undo_all, AreBelow, IsFree}
use Rattle.sg_serial.specs.Runs as runs
use Rattle.sg_serial.proofs.Kept as kept
use Rattle.sg_serial.proofs.Kept.{same_bool, not_both}
use Rattle.sg_serial.proofs.Lists.{filter_both, filter_same, filter_append, not_chosen}
use Rattle.sg_serial.proofs.Theorems as theorems
use Rattle.sg_ops.specs.Table.{Table as Operations}
use Rattle.sg_model.specs.Objects.{Object, Objects}
use Rattle.sg_model.specs.Verb.{Op}
use Rattle.sg_model.specs.Step.{step}
use Rattle.sg_model.specs.Touches.{cell, touches, covers, same_resource}
use Rattle.sg_model.specs.Laws.{CellContents}
use Rattle.sg_model.specs.Undo.{OpNote, note_of_op, noted_step, unstep, undo_on, undo_all_on}
use Rattle.sg_model.proofs.Meeting.{resource_same}
use Rattle.sg_model.proofs.Parts.{same_entries}
use Rattle.sg_model.proofs.Noted.{noted_footprint, takes_back, get_unstep}
use Rattle.sg_run.specs.Run.{Event, Past, Run, start, live_objects, began, committed, aborted, with_locks, did, holder_of}
use Rattle.sg_run.specs.Serial.{IsSound}
use Rattle.sg_run.specs.Noted.{NotedEvent, NotedPast, bare, bare_past, IsNoted, noted_locks, noted_did, notes_by, UndoingLeavesOut}
use Rattle.sg_run.proofs.Serial.{free_of}

-- entries without what undoes them

filter_bare : (keep : Event → Bool) (es : List NotedEvent) → filter keep (map bare es) ≡ map bare (filter (λ e. keep (bare e)) es)
filter_bare keep [] = refl
filter_bare keep (e ∷ es) = go (keep (bare e)) (filter_bare keep es)
  where
    go : (b : Bool) → filter keep (map bare es) ≡ map bare (filter (λ e. keep (bare e)) es) → cond b (bare e ∷ filter keep (map bare es)) (filter keep (map bare es)) ≡ map bare (cond b (e ∷ filter (λ e. keep (bare e)) es) (filter (λ e. keep (bare e)) es))
    go true h = ap (λ (fs : List Event). bare e ∷ fs) h
    go false h = h

module _ (t : Operations) where
  run_bare : (s : Objects) (es : List NotedEvent) → run (step t) s (map bare es) ≡ run (noted_step t) s es
  run_bare s [] = refl
  run_bare s (e ∷ es) = run_bare (step t s e.op).1 es

  -- the objects as the live transactions have left them
  pub noted_live : (x : Run) (p : NotedPast) → IsNoted t x p → live_objects t x ≡ runs.live_state (noted_step t) p
  noted_live x p k = ap (λ (q : Past). runs.live_state (step t) q) k.past ∙ run_bare p.first p.history

  -- the live transactions
  pub noted_is_live : (x : Run) (p : NotedPast) (u : ℕ) → IsNoted t x p → is_live x.so_far.live u ≡ true → is_live p.live u ≡ true
  noted_is_live x p u k live = ap (λ (q : Past). is_live q.live u) (sym k.past) ∙ live

  -- nobody else holds anything in conflict with what an operation touches
  noted_free : (x : Run) (p : NotedPast) (number : ℕ) (op : Op) → holder_of t x number op ≡ None → IsSound t x → IsNoted t x p → IsFree covers p.held number (touches (runs.live_state (noted_step t) p) op)
  noted_free x p number op none sound k =
      subst (λ (s : Objects). IsFree covers p.held number (touches s op)) (noted_live x p k)
      (subst (λ (q : Past). IsFree covers q.held number (touches (live_objects t x) op)) k.past (free_of t x number op sound none))

  pub start_noted : (first : Objects) → IsNoted t (start first) (runs.start first)
  start_noted first = record { past = refl; serial = theorems.start_serial CellContents (noted_step t) cell touches covers same_resource resource_same (noted_footprint t) first }

  pub begin_noted : (x : Run) (p : NotedPast) (number : ℕ) (name : List ℕ) → x.so_far.next ≤ number → IsNoted t x p → IsNoted t (began x number name) (runs.began p number name)
  begin_noted x p number name above k = record {
    past = ap (λ (q : Past). runs.began q number name) k.past;
    serial = kept.begin_keeps CellContents (noted_step t) cell touches covers same_resource resource_same (noted_footprint t) p number name (subst (λ (q : Past). q.next ≤ number) k.past above) k.serial;
  }

  pub locks_noted : (x : Run) (p : NotedPast) (number : ℕ) (op : Op) → is_live x.so_far.live number ≡ true → holder_of t x number op ≡ None → IsSound t x → IsNoted t x p → IsNoted t (with_locks t x number op) (noted_locks t p number op)
  locks_noted x p number op live none sound k = record {
    past =
        ap (λ (q : Past). runs.locked same_resource q number (touches (runs.live_state (step t) q) op)) k.past
        ∙ ap (λ (s : Objects). bare_past (runs.locked same_resource p number (touches s op))) (run_bare p.first p.history);
    serial = kept.lock_keeps CellContents (noted_step t) cell touches covers same_resource resource_same (noted_footprint t) p number (touches (runs.live_state (noted_step t) p) op)
        (noted_is_live x p number k live) (noted_free x p number op none sound k) k.serial;
  }

  -- a past in which a transaction has done an operation on these objects
  did_on : NotedPast → ℕ → Op → Objects → List Event → Past
  did_on p number op s history = record (bare_past (runs.locked same_resource p number (touches s op))) { history = history; clock = p.clock + 1 }

  last_event : NotedPast → ℕ → Op → Objects → List Event
  last_event p number op s = (record { transaction = number; op = op; out = (step t s op).0; time = p.clock }) ∷ []

  pub did_noted : (x : Run) (p : NotedPast) (number : ℕ) (op : Op) → is_live x.so_far.live number ≡ true → holder_of t x number op ≡ None → IsSound t x → IsNoted t x p → IsNoted t (did t x number op) (noted_did t p number op)
  unfolding did_on last_event
  did_noted x p number op live none sound k = record {
    past =
        ap (λ (q : Past). runs.did (step t) (runs.locked same_resource q number (touches (runs.live_state (step t) q) op)) number op) k.past
        ∙ (ap (λ (s : Objects). did_on p number op s (map bare p.history ++ last_event p number op s)) (run_bare p.first p.history)
        ∙ ap (did_on p number op (runs.live_state (noted_step t) p)) (sym (map-append bare p.history ((record { transaction = number; op = op; out = (noted_step t (runs.live_state (noted_step t) p) op).0; time = p.clock }) ∷ []))));
    serial = theorems.does_keeps CellContents (noted_step t) cell touches covers same_resource resource_same (noted_footprint t) p number op (noted_is_live x p number k live) (noted_free x p number op none sound k) k.serial;
  }

  pub commit_noted : (x : Run) (p : NotedPast) (number : ℕ) → is_live x.so_far.live number ≡ true → IsNoted t x p → IsNoted t (committed x number) (runs.committed p number)
  commit_noted x p number live k = record {
    past =
        ap (λ (q : Past). runs.committed q number) k.past
        ∙ (ap (λ (es : List Event). record (runs.committed (bare_past p) number) { commits = map (λ es. map bare es) p.commits ++ es ∷ [] }) (filter_bare (is_own number) p.history)
        ∙ (ap (λ (xss : List (List Event)). record (runs.committed (bare_past p) number) { commits = xss }) (sym (map-append (λ (es : List NotedEvent). map bare es) p.commits (filter (is_own number) p.history ∷ [])))
        ∙ ap (λ (n : ℕ). record (bare_past (runs.committed p number)) { answered = n + 1 }) (length-map p.commits (λ (es : List NotedEvent). map bare es))));
    serial = kept.commit_keeps CellContents (noted_step t) cell touches covers same_resource resource_same (noted_footprint t) p number (noted_is_live x p number k live) k.serial;
  }

  -- a past of which a transaction's entries are left out
  left_out : (p : NotedPast) (number : ℕ) → runs.aborted (bare_past p) number ≡ bare_past (runs.aborted p number)
  left_out p number = ap (λ (es : List Event). record (runs.aborted (bare_past p) number) { history = es }) (filter_bare (λ e. not (is_own number e)) p.history)

  pub abort_noted : (x : Run) (p : NotedPast) (number : ℕ) → is_live x.so_far.live number ≡ true → IsNoted t x p → IsNoted t (aborted x number) (runs.aborted p number)
  abort_noted x p number live k = record {
    past = ap (λ (q : Past). runs.aborted q number) k.past ∙ left_out p number;
    serial = kept.abort_keeps CellContents (noted_step t) cell touches covers same_resource resource_same (noted_footprint t) p number (noted_is_live x p number k live) k.serial;
  }

-- The notes of each transaction

same_number : (m n : ℕ) → (m == n) ≡ (n == m)
same_number m n = same_bool (m == n) (n == m) (λ h. eq-eqb n m (sym (eqb-true m n h))) (λ h. eq-eqb m n (sym (eqb-true n m h)))

-- those of another transaction stay
others_stay : (u number : ℕ) (es : List NotedEvent) → (u ≡ number → ⊥) → filter (is_own u) (filter (λ e. not (is_own number e)) es) ≡ filter (is_own u) es
others_stay u number es other =
    filter_both (is_own u) (λ e. not (is_own number e)) es
    ∙ filter_same (λ e. is_own u e && not (is_own number e)) (is_own u) es (λ e i. go e (is_own u e) refl)
  where
    go : (e : NotedEvent) (b : Bool) → is_own u e ≡ b → (b && not (is_own number e)) ≡ b
    go e true h = ap not (ne_eqb e.transaction number (λ same. other (sym (eqb-true e.transaction u h) ∙ same)))
    go e false h = refl

none_from : (n clock u : ℕ) (es : List NotedEvent) → n ≤ u → AreBelow n clock es → filter (is_own u) es ≡ []
none_from n clock u [] above h = refl
none_from n clock u (e ∷ es) above h =
    let earlier : e.transaction < n = h.0.0 in
    not_chosen (is_own u e) (e ∷ filter (is_own u) es) (filter (is_own u) es) (ne_eqb e.transaction u (λ same. absurd (omega arith))) ∙ none_from n clock u es above h.1

module _ (t : Operations) where
  -- one that does an operation has one more, and each other one has its own
  pub did_notes : (x : Run) (p : NotedPast) (number : ℕ) (op : Op) → IsNoted t x p → (u : ℕ) → notes_by (noted_did t p number op) u ≡ notes_by p u ++ (if u == number then note_of_op t (live_objects t x) op ∷ [] else [])
  did_notes x p number op k u =
      let last : NotedEvent = record { transaction = number; op = op; out = (noted_step t (runs.live_state (noted_step t) p) op).0; time = p.clock } in
      ap (λ (es : List NotedEvent). map (λ e. e.out.1) es) (filter_append (is_own u) p.history (last ∷ []))
      ∙ (map-append (λ (e : NotedEvent). e.out.1) (filter (is_own u) p.history) (filter (is_own u) (last ∷ []))
      ∙ ap (λ (ns : List OpNote). notes_by p u ++ ns) (go last (number == u) ∙ (ap (λ b. cond b (last.out.1 ∷ []) []) (same_number number u)
      ∙ ap (λ (s : Objects). cond (u == number) (note_of_op t s op ∷ []) []) (sym (noted_live t x p k)))))
    where
      go : (e : NotedEvent) (b : Bool) → map (λ (f : NotedEvent). f.out.1) (cond b (e ∷ []) []) ≡ cond b (e.out.1 ∷ []) []
      go e true = refl
      go e false = refl

  pub locks_notes : (p : NotedPast) (number : ℕ) (op : Op) (u : ℕ) → notes_by (noted_locks t p number op) u ≡ notes_by p u
  locks_notes p number op u = refl

  -- one with a new number has none
  pub new_notes : (x : Run) (p : NotedPast) → IsNoted t x p → (u : ℕ) → x.so_far.next ≤ u → notes_by p u ≡ []
  new_notes x p k u above = ap (λ (es : List NotedEvent). map (λ e. e.out.1) es) (none_from p.next p.clock u p.history (subst (λ (q : Past). q.next ≤ u) k.past above) k.serial.below)

pub begin_notes : (p : NotedPast) (number : ℕ) (name : List ℕ) (u : ℕ) → notes_by (runs.began p number name) u ≡ notes_by p u
begin_notes p number name u = refl

pub commit_notes : (p : NotedPast) (number u : ℕ) → notes_by (runs.committed p number) u ≡ notes_by p u
commit_notes p number u = refl

pub abort_notes : (p : NotedPast) (number u : ℕ) → (u ≡ number → ⊥) → notes_by (runs.aborted p number) u ≡ notes_by p u
abort_notes p number u other = ap (λ (es : List NotedEvent). map (λ e. e.out.1) es) (others_stay u number p.history other)

-- Undoing

-- under each name the last change first
undone_on : (s : Objects) (es : List NotedEvent) (name : List ℕ) → get (undo_all unstep s es) name ≡ undo_all_on name (map (λ e. e.out.1) es) (get s name)
undone_on s [] name = refl
undone_on s (e ∷ es) name = get_unstep (undo_all unstep s es) e.out name ∙ ap (λ (o : Option Object). undo_on name e.out.1 o) (undone_on s es name)

twice : (b : Bool) → not (not b) ≡ b
twice true = refl
twice false = refl

module _ (t : Operations) where
  -- the entries of a live transaction, the last one first
  own_undone : (x : Run) (p : NotedPast) (transaction : ℕ) → IsNoted t x p → is_live x.so_far.live transaction ≡ true → undo_all unstep (runs.live_state (noted_step t) p) (filter (is_own transaction) p.history) ≡ live_objects t (aborted x transaction)
  own_undone x p transaction k live =
      let keep : NotedEvent → Bool = λ e. not (is_own transaction e) in
      ap (λ (es : List NotedEvent). undo_all unstep (runs.live_state (noted_step t) p) es) (sym (filter_same (λ e. not (keep e)) (is_own transaction) p.history (λ e i. twice (is_own transaction e))))
      ∙ (theorems.undoing CellContents (noted_step t) cell touches covers same_resource resource_same (noted_footprint t) unstep (takes_back t) p keep
      (λ e f q l y. ap (λ (u : ℕ). not (u == transaction)) q ∙ y)
      (λ e i n. ap not (ne_eqb e.transaction transaction (λ q. not_both (is_live p.live transaction) (noted_is_live t x p transaction k live) (ap (λ (u : ℕ). is_live p.live u) (sym q) ∙ n))))
      k.serial
      ∙ sym (noted_live t (aborted x transaction) (runs.aborted p transaction) (abort_noted t x p transaction live k)))

pub undoing : UndoingLeavesOut
undoing t x p transaction after k live same =
    let s : Objects = runs.live_state (noted_step t) p in
    let own : List NotedEvent = filter (is_own transaction) p.history in
    same_entries after (undo_all unstep s own) (λ name. same name ∙ (ap (λ (u : Objects). undo_all_on name (notes_by p transaction) (get u name)) (noted_live t x p k) ∙ sym (undone_on s own name)))
    ∙ own_undone t x p transaction k live
