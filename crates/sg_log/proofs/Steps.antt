-- The frames that a crash leaves in each step of a force.
use Rattle.std.proofs.Common.{add-zero, ◌≡◌, ◌⊎◌, inl, inr, ⊎_elim, ℕ, ◌+◌, ◌<◌, ◌≤◌, List, [], ◌∷◌, ◌++◌, Result, Ok, length, refl, sym, ◌∙◌, ap, subst, arith, length-append}
use Rattle.std.proofs.Math.ListN.{get_or-append}
use Rattle.std.proofs.Math.Seq.{get_or-append_seam}
use Rattle.std.proofs.lemmas.Bool.{cases_eq}
use Rattle.sg_base.specs.declared.area.Area.{Area}
use Rattle.sg_disk.specs.Disk.{Bytes, Image, Part, State, LeavesPart, Leaves, View, Wrote, Synced, LeavesOnly, window, written_part, synced_part, written}
use Rattle.sg_disk.proofs.Parts.{part_written, part_synced, leaves_written, settled_byte, other_byte, put_inside, window_agree, window_is, other_written, other_synced, leaves_other}
use Rattle.sg_disk.proofs.Images.{put_outside}
use Rattle.sg_disk.proofs.Moments.{started, goes_on}
use Rattle.sg_record.specs.Records.{Record}
use Rattle.sg_log.specs.Texts.{spelled_all}
use Rattle.sg_log.specs.Frames.{text_of, IsFrame, Frames, gate_after, IsAtRest, IsWithOrWithout, SameElsewhere}

-- a frame's bytes behind its gate
abbrev pub frame_text : List Record → List ℕ
frame_text rs = text_of (spelled_all rs)

pub gate_later : (at : ℕ) (frames : List (List Record)) → at ≤ gate_after at frames
gate_later at [] = omega arith
gate_later at (rs ∷ frames) = let more = gate_later (at + 1 + length (frame_text rs)) frames in omega arith

-- the frames depend on the bytes before the last gate, and on its being closed
pub closed : (f g : Bytes) (at : ℕ) (frames : List (List Record)) → ((i : ℕ) → i < gate_after at frames → g i ≡ f i) → (g (gate_after at frames) ≡ 1 → ⊥) → Frames f at frames → Frames g at frames
closed f g at [] same shut stand = shut
closed f g at (rs ∷ frames) same shut stand =
    let size = length (frame_text rs) in
    let more = gate_later (at + 1 + size) frames in (
      same at (omega arith) ∙ stand.0,
      stand.1,
      window_agree g f (at + 1) size (λ i low high. same i (omega arith)) ∙ stand.2,
      closed f g (at + 1 + size) frames same shut stand.3,
    )

-- one more
pub opened : (f g : Bytes) (at : ℕ) (frames : List (List Record)) (rs : List Record) → ((i : ℕ) → i < gate_after at frames → g i ≡ f i) → Frames f at frames → IsFrame rs
    → g (gate_after at frames) ≡ 1 → window g (gate_after at frames + 1) (length (frame_text rs)) ≡ frame_text rs → (g (gate_after at frames + 1 + length (frame_text rs)) ≡ 1 → ⊥) → Frames g at (frames ++ rs ∷ [])
opened f g at [] rs same stand good gate bytes shut = (gate, good, bytes, shut)
opened f g at (r ∷ frames) rs same stand good gate bytes shut =
    let size = length (frame_text r) in
    let more = gate_later (at + 1 + size) frames in (
      same at (omega arith) ∙ stand.0,
      stand.1,
      window_agree g f (at + 1) size (λ i low high. same i (omega arith)) ∙ stand.2,
      opened f g (at + 1 + size) frames rs same stand.3 good gate bytes shut,
    )

pub gate_more : (at : ℕ) (frames : List (List Record)) (rs : List Record) → gate_after at (frames ++ rs ∷ []) ≡ gate_after at frames + 1 + length (frame_text rs)
gate_more at [] rs = refl
gate_more at (r ∷ frames) rs = gate_more (at + 1 + length (frame_text r)) frames rs

-- the gate is closed
pub gate_shut : (f : Bytes) (at : ℕ) (frames : List (List Record)) → Frames f at frames → f (gate_after at frames) ≡ 1 → ⊥
gate_shut f at [] stand = stand
gate_shut f at (r ∷ frames) stand = gate_shut f (at + 1 + length (frame_text r)) frames stand.3

module _ (p : Part) (frames : List (List Record)) (rs : List Record) (good : IsFrame rs) (stand : Frames p.seen 0 frames) (settled : p.pending ≡ []) where
  -- the first write, and then the gate's, and both on the disk
  abbrev pub staged : Part
  staged = synced_part (written_part (gate_after 0 frames + 1) (frame_text rs ++ 0 ∷ []) p)

  abbrev pub gated : Part
  gated = written_part (gate_after 0 frames) (1 ∷ []) staged

  length_text : length (frame_text rs ++ 0 ∷ []) ≡ length (frame_text rs) + 1
  length_text = length-append (frame_text rs) (0 ∷ [])

  -- behind the closed gate anything may stand
  pub stage_crash : (c : Bytes) → LeavesPart (written_part (gate_after 0 frames + 1) (frame_text rs ++ 0 ∷ []) p) c → Frames c 0 frames
  stage_crash c leaves =
      let same = other_byte p (gate_after 0 frames + 1) (frame_text rs ++ 0 ∷ []) c settled leaves in
      closed p.seen c 0 frames (λ i lt. same i (inl (omega arith))) (λ is. gate_shut p.seen 0 frames stand (sym (same (gate_after 0 frames) (inl (omega arith))) ∙ is)) stand

  staged_front : (i : ℕ) → i < gate_after 0 frames → staged.seen i ≡ p.seen i
  staged_front i lt = put_outside (gate_after 0 frames + 1) (frame_text rs ++ 0 ∷ []) p.seen i (λ low high. absurd (omega arith))

  closing : ◌≡◌ {A = ℕ} 0 1 → ⊥
  closing is = absurd (omega arith)

  -- any bytes that are staged's but for the gate
  gate_open : (c : Bytes) → ((i : ℕ) → (i < gate_after 0 frames) ⊎ (gate_after 0 frames + 1 ≤ i) → c i ≡ staged.seen i) → c (gate_after 0 frames) ≡ 1 → Frames c 0 (frames ++ rs ∷ [])
  gate_open c same gate =
      let tail = gate_after 0 frames in
      opened p.seen c 0 frames rs (λ i lt. same i (inl lt) ∙ staged_front i lt) stand good gate
      (window_is c (tail + 1) (frame_text rs) (λ k lt. same (tail + 1 + k) (inr (omega arith)) ∙ put_inside (tail + 1) (frame_text rs ++ 0 ∷ []) p.seen k 0 (omega (arith, length_text)) ∙ get_or-append (frame_text rs) (0 ∷ []) 0 k lt))
      (λ is. closing (sym (same (tail + 1 + length (frame_text rs)) (inr (omega arith)) ∙ put_inside (tail + 1) (frame_text rs ++ 0 ∷ []) p.seen (length (frame_text rs)) 0 (omega (arith, length_text)) ∙ get_or-append_seam (frame_text rs) 0 [] 0) ∙ is))

  -- the gate is open or it is not
  pub gate_crash : (c : Bytes) → LeavesPart gated c → Frames c 0 frames ⊎ Frames c 0 (frames ++ rs ∷ [])
  gate_crash c leaves =
      let same = other_byte staged (gate_after 0 frames) (1 ∷ []) c refl leaves in
      elim (cases_eq (c (gate_after 0 frames)) 1) [
        | inl is_open ↦ inr (gate_open c same is_open)
        | inr shut ↦ inl (closed p.seen c 0 frames (λ i lt. same i (inl lt) ∙ staged_front i lt) shut stand)
      ]

  -- and in the end it is
  pub gate_done : Frames gated.seen 0 (frames ++ rs ∷ [])
  gate_done = gate_open gated.seen (λ i out. put_outside (gate_after 0 frames) (1 ∷ []) staged.seen i (λ low high. absurd (⊎_elim (λ before. omega arith) (λ behind. omega arith) out))) (ap gated.seen (sym (add-zero (gate_after 0 frames))) ∙ put_inside (gate_after 0 frames) (1 ∷ []) staged.seen 0 0 (omega arith))

-- what a crash leaves of an area at rest
pub rest_image : (s : State) (area : Area) (frames : List (List Record)) (c : Image) → Frames (s area).seen 0 frames → (s area).pending ≡ [] → Leaves s c → Frames (c area) 0 frames
rest_image s area frames c stand settled leaves =
    let same = settled_byte (s area) (c area) settled (leaves area) in
    closed (s area).seen (c area) 0 frames (λ i lt. same i) (λ is. gate_shut (s area).seen 0 frames stand (sym (same (gate_after 0 frames)) ∙ is)) stand

-- the calls of a force, each after the one before
module _ (area : Area) (at : ℕ) (frames : List (List Record)) (rs : List Record) (text : List ℕ) (v : View) (rest : IsAtRest v.now area at frames) (good : IsFrame rs) (is : text ≡ frame_text rs ++ 0 ∷ []) where
  abbrev P : Image → Type 0
  P = IsWithOrWithout v.now area frames rs

  stage : (c : Image) → Leaves (written area (at + 1) text v.now) c → P c
  stage c leaves =
      let part = leaves_written v.now area (at + 1) text c leaves in
      record {
        log = inl (stage_crash (v.now area) frames rs good rest.stand rest.settled (c area) (rw (rest.at_gate, is) at part));
        others = λ b other. leaves_other v.now area b (at + 1) text c other leaves;
      }

  pub after_write : {T E : Type 0} {v1 : View} {r : Result T E} → Wrote area (at + 1) text v v1 r → LeavesOnly v v1 P
  after_write w = goes_on (started v P (λ c leaves. record { log = inl (rest_image v.now area frames c rest.stand rest.settled leaves); others = λ b other. leaves b })) w stage

  pub after_sync : {T E : Type 0} {v1 v2 : View} {u : T} {r : Result T E} → Wrote {E = E} area (at + 1) text v v1 (Ok u) → Synced area v1 v2 r → LeavesOnly v v2 P
  after_sync w s = goes_on (after_write w) s (λ c leaves. stage c (subst (λ (t : State). Leaves t c) w.ok leaves))

  -- what the area is after both
  staged_part : {T E : Type 0} {v1 v2 : View} {u w : T} → Wrote {E = E} area (at + 1) text v v1 (Ok u) → Synced {E = E} area v1 v2 (Ok w) → v2.now area ≡ staged (v.now area) frames rs good rest.stand rest.settled
  staged_part {v1 = v1} w s =
      part_synced v1.now area s.ok ∙ ap synced_part (part_written v.now area (at + 1) text w.ok) ∙ rw (rest.at_gate, is) refl

  -- and the other areas
  others_same : {T E : Type 0} {v1 v2 : View} {u w : T} → Wrote {E = E} area (at + 1) text v v1 (Ok u) → Synced {E = E} area v1 v2 (Ok w) → (b : Area) → (b ≡ area → ⊥) → v2.now b ≡ v.now b
  others_same {v1 = v1} w s b other = other_synced v1.now area b other s.ok ∙ other_written v.now area b (at + 1) text other w.ok

  gate : {T E : Type 0} {v1 v2 : View} {u w : T} → Wrote {E = E} area (at + 1) text v v1 (Ok u) → Synced {E = E} area v1 v2 (Ok w) → (c : Image) → Leaves (written area at (1 ∷ []) v2.now) c → P c
  gate {v2 = v2} w s c leaves =
      let part = leaves_written v2.now area at (1 ∷ []) c leaves in
      record {
        log = gate_crash (v.now area) frames rs good rest.stand rest.settled (c area) (rw (staged_part w s, rest.at_gate) at part);
        others = λ b other. subst (λ (q : Part). LeavesPart q (c b)) (others_same w s b other) (leaves_other v2.now area b at (1 ∷ []) c other leaves);
      }

  pub after_gate : {T E : Type 0} {v1 v2 v3 : View} {u w : T} {r : Result T E} → Wrote {E = E} area (at + 1) text v v1 (Ok u) → Synced {E = E} area v1 v2 (Ok w) → Wrote area at (1 ∷ []) v2 v3 r → LeavesOnly v v3 P
  after_gate w s w2 = goes_on (after_sync w s) w2 (gate w s)

  pub after_all : {T E : Type 0} {v1 v2 v3 v4 : View} {u w x : T} {r : Result T E} → Wrote {E = E} area (at + 1) text v v1 (Ok u) → Synced {E = E} area v1 v2 (Ok w) → Wrote {E = E} area at (1 ∷ []) v2 v3 (Ok x) → Synced area v3 v4 r → LeavesOnly v v4 P
  after_all w s w2 s2 = goes_on (after_gate w s w2) s2 (λ c leaves. gate w s c (subst (λ (t : State). Leaves t c) w2.ok leaves))

  pub done : {T E : Type 0} {v1 v2 v3 v4 : View} {u w x y : T} → Wrote {E = E} area (at + 1) text v v1 (Ok u) → Synced {E = E} area v1 v2 (Ok w) → Wrote {E = E} area at (1 ∷ []) v2 v3 (Ok x) → Synced {E = E} area v3 v4 (Ok y)
      → IsAtRest v4.now area (at + length text) (frames ++ rs ∷ [])
  done {v2 = v2} {v3 = v3} w s w2 s2 =
      let part = part_synced v3.now area s2.ok ∙ ap synced_part (part_written v2.now area at (1 ∷ []) w2.ok) in
      record {
        stand = rw part (rw (staged_part w s, rest.at_gate) (gate_done (v.now area) frames rs good rest.stand rest.settled));
        at_gate = omega (arith, gate_more 0 frames rs, rest.at_gate, ap length is, length-append (frame_text rs) (0 ∷ []));
        settled = rw part refl;
      }

-- what a frame's calls leave of the other areas
pub others_done : {T E : Type 0} {v v1 v2 v3 v4 : View} {u w x y : T} (area : Area) (at : ℕ) (text : List ℕ) → Wrote {E = E} area (at + 1) text v v1 (Ok u) → Synced {E = E} area v1 v2 (Ok w) → Wrote {E = E} area at (1 ∷ []) v2 v3 (Ok x) → Synced {E = E} area v3 v4 (Ok y)
    → SameElsewhere area v.now v4.now
others_done {v = v} {v1 = v1} {v2 = v2} {v3 = v3} area at text w s w2 s2 b other =
    other_synced v3.now area b other s2.ok ∙ other_written v2.now area b at (1 ∷ []) other w2.ok ∙ other_synced v1.now area b other s.ok ∙ other_written v.now area b (at + 1) text other w.ok
