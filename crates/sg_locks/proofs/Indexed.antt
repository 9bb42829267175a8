-- The buckets of the holds, as holds come and change.
use Rattle.std.proofs.Common.{◌≡◌, ℕ, ◌+◌, ◌<◌, List, [], ◌∷◌, ◌++◌, map, length, take, get_or, set, sym, ap, ◌∙◌, arith}
use Rattle.std.proofs.lemmas.List.{map-append, map-set, length-map, get_or-map, set-get_or, take_more}
use Rattle.sg_serial.specs.Locks.{Hold}
use Rattle.sg_model.specs.Touches.{Resource}
use Rattle.sg_locks.specs.declared.table.Hold as code
use Rattle.sg_locks.specs.Shown.{shown_hold}
use Rattle.sg_locks.proofs.OnChain.{front_map}

module _ (g : Hold Resource → ℕ) where
  -- a hold whose bucket stays
  pub same_buckets : (items : List code.Hold) (at : ℕ) (h held : code.Hold) → at < length items → h ≡ get_or items at h → g (shown_hold held) ≡ g (shown_hold h) → map g (map shown_hold (set items at held)) ≡ map g (map shown_hold items)
  same_buckets items at h held within is e =
      let hs = map shown_hold items in
      let inside : at < length hs = (let l = length-map items shown_hold in omega (arith, l, within)) in
      let here : g (shown_hold held) ≡ get_or (map g hs) at 0 =
      e ∙ (ap (λ k. g (shown_hold k)) is ∙ (sym (ap g (get_or-map shown_hold items at h (shown_hold h) within)) ∙ sym (get_or-map g hs at (shown_hold h) 0 inside))) in
      ap (map g) (map-set shown_hold items at held) ∙ (map-set g hs at (shown_hold held) ∙ (ap (set (map g hs) at) here ∙ set-get_or (map g hs) at 0))

  -- one hold more
  pub more_buckets : (items : List code.Hold) (h : code.Hold) → map g (map shown_hold (items ++ h ∷ [])) ≡ map g (map shown_hold items) ++ g (shown_hold h) ∷ []
  more_buckets items h = ap (map g) (map-append shown_hold items (h ∷ [])) ∙ map-append g (map shown_hold items) (shown_hold h ∷ [])

  pub next_bucket : (items : List code.Hold) (i : ℕ) (h : code.Hold) → i < length items → h ≡ get_or items i h → map g (map shown_hold (take (i + 1) items)) ≡ map g (map shown_hold (take i items)) ++ g (shown_hold h) ∷ []
  next_bucket items i h within is =
      ap (λ xs. map g (map shown_hold xs)) (take_more items i h within) ∙ (more_buckets (take i items) (get_or items i h) ∙ ap (λ k. map g (map shown_hold (take i items)) ++ g (shown_hold k) ∷ []) (sym is))

  -- the first ones alone
  pub front_buckets : (items : List code.Hold) (n : ℕ) → take n (map g (map shown_hold items)) ≡ map g (map shown_hold (take n items))
  front_buckets items n = front_map g n (map shown_hold items) ∙ ap (map g) (front_map shown_hold n items)
