-- The tally's notes are the standing top-ends of the losers in words.
use Rattle.std.proofs.Common.{◌≡◌, ℕ, Bool, true, false, cond, not, ◌&&◌, List, [], ◌∷◌, ◌++◌, filter, refl, sym, ap, ◌∙◌}
use Rattle.sg_recovery.specs.Log.{Record, Numbered, Top, said, tally, is_in, open_of, changes_of}
use Rattle.sg_recovery.specs.Log.Record.{Begin, Change, TopEnd, PhysComp, TopVoid, CompEnd, Save, Commit, End}
use Rattle.sg_recovery.specs.Words.{undoes_top, still_stands, top_at, standing_in}
use Rattle.sg_recovery.proofs.Basic.{filter_all, filter_same, filter_filter, filter_append}
use Rattle.sg_recovery.proofs.Showing.{each_all}

and_assoc : (a b c : Bool) → (a && (b && c)) ≡ ((a && b) && c)
and_assoc true b c = refl
and_assoc false b c = refl

and_true : (a : Bool) → (a && true) ≡ a
and_true true = refl
and_true false = refl

module _ {C N : Type 0} where
  still_append : (t l : ℕ) (later : List (Numbered C N)) (r : Numbered C N) → still_stands t l (later ++ r ∷ []) ≡ (still_stands t l later && not (undoes_top t l r.is))
  still_append t l [] r = and_true (not (undoes_top t l r.is))
  still_append t l (q ∷ later) r = ap (λ b. not (undoes_top t l q.is) && b) (still_append t l later r) ∙ and_assoc (not (undoes_top t l q.is)) (still_stands t l later) (not (undoes_top t l r.is))

  -- what a record leaves of the notes, and its own
  left_by : (l : ℕ) (x : Record C N) (rs : List (Numbered C N)) → (said l x (tally rs)).notes ≡ top_at l x rs ++ filter (λ n. not (undoes_top n.transaction n.lsn x)) (tally rs).notes
  left_by l (Begin t p) rs = sym (filter_all (λ n. true) (tally rs).notes (each_all (λ n. true ≡ true) (tally rs).notes (λ n. refl)))
  left_by l (Change t p c) rs = sym (filter_all (λ n. true) (tally rs).notes (each_all (λ n. true ≡ true) (tally rs).notes (λ n. refl)))
  left_by l (TopEnd t p u n) rs = by_test (is_in t (tally rs).live)
    where
      top : Top C N
      top = record { lsn = l; transaction = t; undo_next = u; note = n; changes = changes_of (open_of t (tally rs).opened) }

      all : filter (λ (m : Top C N). true) (tally rs).notes ≡ (tally rs).notes
      all = filter_all (λ m. true) (tally rs).notes (each_all (λ m. true ≡ true) (tally rs).notes (λ m. refl))

      by_test : (b : Bool) → cond b (top ∷ (tally rs).notes) (tally rs).notes ≡ cond b (top ∷ []) [] ++ filter (λ (m : Top C N). true) (tally rs).notes
      by_test true = ap (λ z. top ∷ z) (sym all)
      by_test false = sym all
  left_by l (PhysComp t p u c) rs = sym (filter_all (λ n. true) (tally rs).notes (each_all (λ n. true ≡ true) (tally rs).notes (λ n. refl)))
  left_by l (TopVoid t p u) rs = sym (filter_all (λ n. true) (tally rs).notes (each_all (λ n. true ≡ true) (tally rs).notes (λ n. refl)))
  left_by l (CompEnd t p u) rs = refl
  left_by l (Save t p m) rs = sym (filter_all (λ n. true) (tally rs).notes (each_all (λ n. true ≡ true) (tally rs).notes (λ n. refl)))
  left_by l (Commit t p) rs = refl
  left_by l (End t p) rs = refl

  in_words : (later rs : List (Numbered C N)) → standing_in later rs ≡ filter (λ n. still_stands n.transaction n.lsn later) (tally rs).notes
  in_words later [] = refl
  in_words later (r ∷ rs) =
      let stays : Top C N → Bool = λ n. still_stands n.transaction n.lsn later in
      ap (λ z. filter stays (top_at r.lsn r.is rs) ++ z)
      (in_words (later ++ r ∷ []) rs
      ∙ (filter_same (λ n. still_stands n.transaction n.lsn (later ++ r ∷ [])) (λ n. still_stands n.transaction n.lsn later && not (undoes_top n.transaction n.lsn r.is)) (tally rs).notes
      (each_all (λ n. still_stands n.transaction n.lsn (later ++ r ∷ []) ≡ (still_stands n.transaction n.lsn later && not (undoes_top n.transaction n.lsn r.is))) (tally rs).notes (λ n. still_append n.transaction n.lsn later r))
      ∙ sym (filter_filter stays (λ n. not (undoes_top n.transaction n.lsn r.is)) (tally rs).notes)))
      ∙ (sym (filter_append stays (top_at r.lsn r.is rs) (filter (λ n. not (undoes_top n.transaction n.lsn r.is)) (tally rs).notes))
      ∙ ap (filter stays) (sym (left_by r.lsn r.is rs)))

  -- The notes of the tally are those that stand in words.
  pub tally_in_words : (rs : List (Numbered C N)) → standing_in [] rs ≡ (tally rs).notes
  tally_in_words rs = in_words [] rs ∙ filter_all (λ n. true) (tally rs).notes (each_all (λ n. true ≡ true) (tally rs).notes (λ n. refl))
