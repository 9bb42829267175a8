-- What the copying of a batch's pages leaves.
use Rattle.std.proofs.Common.{◌≡◌, inl, inr, ⊎_elim, ◌<◌, ◌≤◌, ◌+◌, ◌-◌, ℕ, zero, suc, List, [], ◌∷◌, length, take, get_or, Result, Ok, refl, sym, ◌∙◌, ap, subst, arith, zero-add}
use Rattle.std.proofs.Math.Seq.{take-suc, take-length}
use Rattle.std.proofs.lemmas.List.{length-take-le}
use Rattle.sg_base.specs.declared.area.Area.TheVariants.{Home}
use Rattle.sg_disk.specs.Disk.{Bytes, Image, Part, State, Spoils, Leaves, View, ReadBytes, Wrote, Synced, LeavesOnly, put, window, written_part, synced_part, written, synced}
use Rattle.sg_disk.proofs.Images.{put_outside, write_keeps}
use Rattle.sg_disk.proofs.Parts.{part_written, part_synced, put_inside, other_written, other_synced}
use Rattle.sg_disk.proofs.Moments.{started, goes_on}
use Rattle.sg_gate.specs.Layout.{PAGE, HEADER, place_at, home_at}
use Rattle.sg_gate.specs.Batch.{over, homed, InHomes, IsDone, SameLogs}
use Rattle.sg_gate.proofs.Windows.{put_window_in, put_window_out}
use Rattle.sg_gate.proofs.Over.{in_or_out, step, step_in, step_out, over_low, over_more}

pub in_homes_at : (ns : List ℕ) (j i : ℕ) → j < length ns → home_at (get_or ns j 0) ≤ i → i < home_at (get_or ns j 0) + PAGE → InHomes ns i
in_homes_at [] j i lt low high = absurd (omega arith)
in_homes_at (n ∷ ns) zero i lt low high = inl (low, high)
in_homes_at (n ∷ ns) (suc j) i lt low high = inr (in_homes_at ns j i (omega arith) low high)

-- a read, and a write of what was read
pub read_leaves : (s t : State) (at : ℕ) (read bytes : List ℕ) (c : Image) → t ≡ s → read ≡ bytes → Leaves (written Home at read t) c → Leaves (written Home at bytes s) c
read_leaves s t at read bytes c same is leaves = rw (sym same, sym is) leaves

pub read_fails : {T E : Type 0} {v w : View} {r : Result T E} (at : ℕ) (bytes : List ℕ) → ReadBytes v w r → LeavesOnly v w (Leaves (written Home at bytes v.now))
read_fails {v = v} at bytes read = goes_on (started v (Leaves (written Home at bytes v.now)) (write_keeps v.now Home at bytes)) read (write_keeps v.now Home at bytes)

pub read_then : {T E : Type 0} {v w z : View} {u : T} {r : Result T E} (at to : ℕ) (bytes into : List ℕ) → ReadBytes {E = E} v w (Ok u) → w.now ≡ v.now → into ≡ bytes → to ≡ at → Wrote Home to into w z r → LeavesOnly v z (Leaves (written Home at bytes v.now))
read_then {v = v} {w = w} at to bytes into read same is here wrote =
    goes_on (read_fails at bytes read) wrote (λ c leaves. read_leaves v.now w.now at into bytes c same is (subst (λ (a : ℕ). Leaves (written Home a into w.now) c) here leaves))

module _ (v : View) (ns : List ℕ) (short : length ns ≤ 32) where
  abbrev f : Bytes
  f = (v.now Home).seen

  abbrev pub target : Bytes
  target = homed ns f

  -- j pages have been copied
  pub record IsCopied (j : ℕ) (t : State) : Type 0 where
    pub bytes : (i : ℕ) → (t Home).seen i ≡ over (take j ns) 0 f f i
    pub others : SameLogs v.now t

  pub copied_starts : IsCopied 0 v.now
  copied_starts = record { bytes = λ i. refl; others = λ b other. refl }

  -- one page more
  module _ (j : ℕ) (t : State) (copied : IsCopied j t) (lt : j < length ns) where
    abbrev n : ℕ
    n = get_or ns j 0

    abbrev text : List ℕ
    text = window (t Home).seen (place_at j) PAGE

    byte_more : (i : ℕ) → put (home_at n) text (t Home).seen i ≡ over (take (suc j) ns) 0 f f i
    byte_more i =
        let long : 0 + length (take j ns) ≡ j = zero-add (length (take j ns)) ∙ length-take-le j ns (omega arith) in
        let more : over (take (suc j) ns) 0 f f i ≡ step n j f (over (take j ns) 0 f f) i = ap (λ (l : List ℕ). over l 0 f f i) (take-suc ns j 0 lt) ∙ over_more (take j ns) n 0 f f i ∙ ap (λ (k : ℕ). step n k f (over (take j ns) 0 f f) i) long in
        ⊎_elim
        (λ is. let low = is.1 in let high = is.2 in put_window_in (t Home).seen (t Home).seen (home_at n) (place_at j) PAGE i low high
        ∙ copied.bytes (place_at j + (i - home_at n)) ∙ over_low (take j ns) 0 f f (place_at j + (i - home_at n)) (omega arith)
        ∙ sym (more ∙ step_in n j f (over (take j ns) 0 f f) i low high))
        (λ is. put_window_out (t Home).seen (t Home).seen (home_at n) (place_at j) PAGE i is.1 ∙ copied.bytes i ∙ sym (more ∙ step_out n j f (over (take j ns) 0 f f) i is.1))
        (in_or_out (home_at n) i)

    pub copied_more : (u : State) → u ≡ written Home (home_at n) text t → IsCopied (suc j) u
    copied_more u is = record {
      bytes = λ i. ap (λ (p : Part). p.seen i) (part_written t Home (home_at n) text is) ∙ byte_more i;
      others = λ b other. other_written t Home b (home_at n) text other is ∙ copied.others b other;
    }

  pub copied_page : (w z : View) (j size : ℕ) → IsCopied j w.now → j < length ns → size ≡ PAGE → z.now ≡ written Home (home_at (get_or ns j 0)) (window (w.now Home).seen (place_at j) size) w.now → IsCopied (suc j) z.now
  copied_page w z j size copied lt is done = copied_more j w.now copied lt z.now (subst (λ (n : ℕ). z.now ≡ written Home (home_at (get_or ns j 0)) (window (w.now Home).seen (place_at j) n) w.now) is done)

  -- all pages have been copied: the homes are synced, and the gate is closed
  module _ (t : State) (copied : IsCopied (length ns) t) where
    pub all_bytes : (i : ℕ) → (t Home).seen i ≡ target i
    all_bytes i = copied.bytes i ∙ ap (λ (l : List ℕ). over l 0 f f i) (take-length ns)

    closed_done : (u w z : State) → u ≡ synced Home t → w ≡ written Home HEADER (0 ∷ []) u → z ≡ synced Home w → IsDone (z Home) target × SameLogs v.now z
    closed_done u w z is1 is2 is3 =
        let part : z Home ≡ synced_part (written_part HEADER (0 ∷ []) (synced_part (t Home))) = part_synced w Home is3 ∙ ap synced_part (part_written u Home HEADER (0 ∷ []) is2 ∙ ap (written_part HEADER (0 ∷ [])) (part_synced t Home is1)) in
        let gate : put HEADER (0 ∷ []) (t Home).seen HEADER ≡ 0 = put_inside HEADER (0 ∷ []) (t Home).seen 0 0 (omega arith) in (
          record {
            closed = λ is. let zero_there : (z Home).seen HEADER ≡ 0 = ap (λ (p : Part). p.seen HEADER) part ∙ gate in absurd (omega arith);
            settled = λ i. subst (λ (p : Part). Spoils p.pending i → ⊥) (sym part) (λ none. none);
            bytes = λ i out. ap (λ (p : Part). p.seen i) part ∙ put_outside HEADER (0 ∷ []) (t Home).seen i (λ low high. absurd (⊎_elim (λ a. omega arith) (λ b. omega arith) out)) ∙ all_bytes i;
          },
          λ b other. other_synced w Home b other is3 ∙ other_written u Home b HEADER (0 ∷ []) other is2 ∙ other_synced t Home b other is1 ∙ copied.others b other,
        )

    pub all_done : {T E : Type 0} {w x y z : View} {u a b : T} → w.now ≡ t → Synced {E = E} Home w x (Ok u) → Wrote {E = E} Home HEADER (0 ∷ []) x y (Ok a) → Synced {E = E} Home y z (Ok b) → IsDone (z.now Home) target × SameLogs v.now z.now
    all_done {x = x} {y = y} {z = z} here s g r = closed_done x.now y.now z.now (s.ok ∙ ap (synced Home) here) g.ok r.ok
