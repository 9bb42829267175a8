-- The actions without an end, as they are kept.
use Rattle.std.proofs.Common.{◌≡◌, inl, inr, ℕ, ◌+◌, ◌<◌, ◌≤◌, ◌==◌, arith, Bool, true, false, cond, not, List, [], ◌∷◌, ◌++◌, map, filter, refl, sym, ap, ◌∙◌, subst}
use Rattle.sg_record.specs.Records.{Record}
use Rattle.sg_recovery.proofs.Basic.{each_more, each_append}
use Rattle.sg_analysis.specs.Unended.{Start, start_of}
use Rattle.sg_log.specs.Frames.{gate_after}
use Rattle.sg_analysis.specs.Placed.{IsInFrame, AreInFrames, IsPlaced, ArePlaced}
use Rattle.sg_analysis.proofs.Taking.{append_assoc}
use Rattle.sg_analysis.specs.declared.unended.Begun.{Begun}

-- without those of a transaction
pub starts-without : (t : ℕ) (bs : List Begun) → map start_of (filter (λ (b : Begun). not (b.txn.0 == t)) bs) ≡ filter (λ (a : Start). not (a.transaction == t)) (map start_of bs)
starts-without t [] = refl
starts-without t (b ∷ bs) = by_test (not (b.txn.0 == t)) (starts-without t bs)
  where
    by_test : (own : Bool) → map start_of (filter (λ (b : Begun). not (b.txn.0 == t)) bs) ≡ filter (λ (a : Start). not (a.transaction == t)) (map start_of bs)
        → map start_of (cond own (b ∷ filter (λ (b : Begun). not (b.txn.0 == t)) bs) (filter (λ (b : Begun). not (b.txn.0 == t)) bs)) ≡ cond own (start_of b ∷ filter (λ (a : Start). not (a.transaction == t)) (map start_of bs)) (filter (λ (a : Start). not (a.transaction == t)) (map start_of bs))
    by_test true more = ap (λ (cs : List Start). start_of b ∷ cs) more
    by_test false more = more

-- with one more
pub starts-more : (bs : List Begun) (b : Begun) → map start_of (bs ++ b ∷ []) ≡ map start_of bs ++ start_of b ∷ []
starts-more [] b = refl
starts-more (c ∷ bs) b = ap (λ (cs : List Start). start_of c ∷ cs) (starts-more bs b)

-- where more was read, they are where they were
pub placed_on : (base : ℕ) (frames : List (List Record)) (gate from end later : ℕ) (bs : List Begun) → end ≤ later → ArePlaced base frames gate from end bs → ArePlaced base frames gate from later bs
placed_on base frames gate from end later bs le h = each_more (IsPlaced base frames gate from end) (IsPlaced base frames gate from later) bs (λ b z. further b z) h
  where
    further : (b : Begun) → IsPlaced base frames gate from end b → IsPlaced base frames gate from later b
    further b (inl there) = inl there
    further b (inr (here, above, below)) = inr (here, above, omega (arith, below, le))

-- and one that begins here is too
pub placed_more : (base : ℕ) (frames : List (List Record)) (from : ℕ) (bs : List Begun) (b : Begun) → from ≤ b.lsn → ArePlaced base frames b.gate from b.lsn bs → ArePlaced base frames b.gate from (b.lsn + 1) (bs ++ b ∷ [])
placed_more base frames from bs b le h = each_append (IsPlaced base frames b.gate from (b.lsn + 1)) bs (b ∷ []) (placed_on base frames b.gate from b.lsn (b.lsn + 1) bs (omega arith) h) (inr (refl, le, omega arith), tt)

-- those of the frames before
pub placed_before : (base : ℕ) (frames : List (List Record)) (gate from end : ℕ) (bs : List Begun) → AreInFrames base frames bs → ArePlaced base frames gate from end bs
placed_before base frames gate from end bs h = each_more (λ b. IsInFrame base b.gate b.lsn frames) (IsPlaced base frames gate from end) bs (λ b z. inl z) h

-- and behind the frame that was read
pub in_frames : (base gate : ℕ) (frames : List (List Record)) (body : List Record) (from end : ℕ) (bs : List Begun) → gate ≡ gate_after 0 frames → base + gate < from → end ≤ base + gate_after gate (body ∷ []) → ArePlaced base frames gate from end bs → AreInFrames base (frames ++ body ∷ []) bs
in_frames base gate frames body from end bs there lt le h = each_more (IsPlaced base frames gate from end) (λ b. IsInFrame base b.gate b.lsn (frames ++ body ∷ [])) bs (λ b z. either b z) h
  where
    longer : (front back : List (List Record)) (here : List Record) → frames ≡ front ++ here ∷ back → frames ++ body ∷ [] ≡ front ++ here ∷ (back ++ body ∷ [])
    longer front back here e = ap (λ (fs : List (List Record)). fs ++ body ∷ []) e ∙ append_assoc front (here ∷ back) (body ∷ [])

    either : (b : Begun) → IsPlaced base frames gate from end b → IsInFrame base b.gate b.lsn (frames ++ body ∷ [])
    either b (inl i) = record { front = i.front; body = i.body; back = i.back ++ body ∷ []; all = longer i.front i.back i.body i.all; there = i.there; behind = i.behind; before = i.before }
    either b (inr (is, above, below)) = record {
      front = frames;
      body = body;
      back = [];
      all = refl;
      there = is ∙ there;
      behind = omega (arith, is, lt, above);
      before = subst (λ g. b.lsn < base + gate_after g (body ∷ [])) (sym is) (omega (arith, below, le));
    }
