-- Entries that are left out can first be moved to the end.
use Rattle.std.proofs.Common.{◌≡◌, ℕ, Bool, true, false, cond, not, List, [], ◌∷◌, ◌++◌, refl, sym, ap, ◌∙◌, subst}
use Rattle.std.proofs.Common.{inl, inr}
use Rattle.std.specs.Prelude.{filter}
use Rattle.sg_serial.specs.Machine.{any_touch, IsHeldBy, IsClearOf, HasFootprint, Entry, run, Held, AreCompatible, AreOthers, LeavesEnds}
use Rattle.sg_serial.proofs.Commute.{true_or_false, Commute, commute}

pub run-append : {S Op Out : Type 0} (step : S → Op → Out × S) (s : S) (xs ys : List (Entry Op Out)) → run step s (xs ++ ys) ≡ run step (run step s xs) ys
run-append step s [] ys = refl
run-append step s (e ∷ xs) ys = run-append step (step s e.op).1 xs ys

module _ {S Op Out Cell Touch : Type 0} (step : S → Op → Out × S) (touches : S → Op → List Touch) (reads writes : Touch → Cell → Bool) (held : ℕ → List Touch) where
  pub Held-front : (s : S) (xs ys : List (Entry Op Out)) → Held step touches reads writes held s (xs ++ ys) → Held step touches reads writes held s xs
  Held-front s [] ys h = tt
  Held-front s (e ∷ xs) ys h = (h.0, h.1, Held-front (step s e.op).1 xs ys h.2)

  pub Held-back : (s : S) (xs ys : List (Entry Op Out)) → Held step touches reads writes held s (xs ++ ys) → Held step touches reads writes held (run step s xs) ys
  Held-back s [] ys h = h
  Held-back s (e ∷ xs) ys h = Held-back (step s e.op).1 xs ys h.2

  pub Held-join : (s : S) (xs ys : List (Entry Op Out)) → Held step touches reads writes held s xs → Held step touches reads writes held (run step s xs) ys → Held step touches reads writes held s (xs ++ ys)
  Held-join s [] ys h i = i
  Held-join s (e ∷ xs) ys h i = (h.0, h.1, Held-join (step s e.op).1 xs ys h.2 i)

-- what stays, and then what is left out
abbrev pub parted : {A : Type 0} → (A → Bool) → List A → List A
parted keep xs = filter keep xs ++ filter (λ x. not (keep x)) xs

module _ {S Op Out Cell Touch : Type 0} (Value : Cell → Type 0) (step : S → Op → Out × S) (cell : S → (c : Cell) → Value c) (touches : S → Op → List Touch) (reads writes : Touch → Cell → Bool) (law : HasFootprint Value step cell touches reads writes) (held : ℕ → List Touch) (compatible : AreCompatible reads writes held) where
  -- the same entries in another order
  pub record Moves (s : S) (xs ys : List (Entry Op Out)) : Type 0 where
    pub held_still : Held step touches reads writes held s ys
    pub same : run step s xs ≡ run step s ys

  clear : (t u : ℕ) (xs ys : List Touch) → (t ≡ u → ⊥) → IsHeldBy reads writes xs (held t) → IsHeldBy reads writes ys (held u) → IsClearOf reads writes xs ys
  clear t u xs ys n h i c w = elim (true_or_false (any_touch reads ys c)) [
    | inl r ↦ (let a : any_touch reads (held u) c ≡ false = compatible t u n c (h.writes_more c w) in let b : any_touch reads (held u) c ≡ true = i.reads_more c r in absurd (cc))
    | inr n ↦ n
  ]

  -- an entry moves behind entries of other transactions
  past : (s : S) (e : Entry Op Out) (ks ds : List (Entry Op Out)) → AreOthers e.transaction ks → Held step touches reads writes held s (e ∷ (ks ++ ds)) → Moves s (e ∷ (ks ++ ds)) (ks ++ (e ∷ ds))
  past s e [] ds o h = record { held_still = h; same = refl }
  past s e (k ∷ ks) ds o h =
      let rest = h.2 in
      let x : S = (step s e.op).1 in
      let c : Commute Value step cell touches reads writes law s e.op k.op =
      commute Value step cell touches reads writes law s e.op k.op (clear e.transaction k.transaction (touches s e.op) (touches x k.op) o.0 h.1 rest.1) (clear k.transaction e.transaction (touches x k.op) (touches s e.op) (λ q. o.0 (sym q)) rest.1 h.1) in
      let after : Held step touches reads writes held (step s k.op).1 (e ∷ (ks ++ ds)) =
      (c.given_first ∙ h.0, subst (λ (ts : List Touch). IsHeldBy reads writes ts (held e.transaction)) (sym c.touched_first) h.1, subst (λ (t : S). Held step touches reads writes held t (ks ++ ds)) c.same rest.2) in
      let m : Moves (step s k.op).1 (e ∷ (ks ++ ds)) (ks ++ (e ∷ ds)) = past (step s k.op).1 e ks ds o.1 after in
      record {
        held_still = (sym c.given_second ∙ rest.0, subst (λ (ts : List Touch). IsHeldBy reads writes ts (held k.transaction)) c.touched_second rest.1, m.held_still);
        same = ap (λ (t : S). run step t (ks ++ ds)) c.same ∙ m.same;
      }

  goes_on : (s : S) (e : Entry Op Out) (xs ks ds : List (Entry Op Out)) (b : Bool) → (b ≡ false → AreOthers e.transaction ks) → Held step touches reads writes held s (e ∷ xs) → Moves (step s e.op).1 xs (ks ++ ds) → Moves s (e ∷ xs) (cond b (e ∷ ks) ks ++ cond (not b) (e ∷ ds) ds)
  goes_on s e xs ks ds true o h m = record { held_still = (h.0, h.1, m.held_still); same = m.same }
  goes_on s e xs ks ds false o h m =
      let p : Moves s (e ∷ (ks ++ ds)) (ks ++ (e ∷ ds)) = past s e ks ds (o refl) (h.0, h.1, m.held_still) in
      record { held_still = p.held_still; same = m.same ∙ p.same }

  -- all that is left out moves to the end
  pub part : (keep : Entry Op Out → Bool) (s : S) (xs : List (Entry Op Out)) → LeavesEnds keep xs → Held step touches reads writes held s xs → Moves s xs (parted keep xs)
  part keep s [] l h = record { held_still = tt; same = refl }
  part keep s (e ∷ xs) l h = goes_on s e xs (filter keep xs) (filter (λ x. not (keep x)) xs) (keep e) l.0 h (part keep (step s e.op).1 xs l.1 h.2)

  -- what stays gives what it gave, from where it is now
  pub leaving_out : (keep : Entry Op Out → Bool) (s : S) (xs : List (Entry Op Out)) → LeavesEnds keep xs → Held step touches reads writes held s xs → Held step touches reads writes held s (filter keep xs)
  leaving_out keep s xs l h = Held-front step touches reads writes held s (filter keep xs) (filter (λ x. not (keep x)) xs) (part keep s xs l h).held_still

  pub left_out : (keep : Entry Op Out → Bool) (s : S) (xs : List (Entry Op Out)) → LeavesEnds keep xs → Held step touches reads writes held s xs → Held step touches reads writes held (run step s (filter keep xs)) (filter (λ x. not (keep x)) xs)
  left_out keep s xs l h = Held-back step touches reads writes held s (filter keep xs) (filter (λ x. not (keep x)) xs) (part keep s xs l h).held_still

  pub parted_run : (keep : Entry Op Out → Bool) (s : S) (xs : List (Entry Op Out)) → LeavesEnds keep xs → Held step touches reads writes held s xs → run step s xs ≡ run step (run step s (filter keep xs)) (filter (λ x. not (keep x)) xs)
  parted_run keep s xs l h = (part keep s xs l h).same ∙ run-append step s (filter keep xs) (filter (λ x. not (keep x)) xs)
