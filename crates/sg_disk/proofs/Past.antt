-- The record of a disk in memory, one call longer.
use Rattle.std.proofs.Common.{◌≡◌, ◌⊎◌, inl, inr, ⊎_elim, ℕ, ◌+◌, ◌<◌, ◌≤◌, List, [], ◌∷◌, Vec, Some, None, Bool, true, Result, Ok, Err, IsTrue, IsErr, OnOk, OnErr, arith, length, refl, sym, ◌∙◌, ap, subst}
use Rattle.std.specs.declared.alloc.Global.{Global}
use Rattle.sg_disk.specs.Disk.{Bytes, Image, Range, Part, State, Spoils, LeavesPart, Leaves, View, Does, at_area, put, cut, written, written_part, dropped, dropped_part, synced}
use Rattle.sg_disk.specs.Memory.{undone, pending_of, state_of, past_of, memory_view, IsCrashing}
use Rattle.sg_base.specs.declared.area.Area.{Area}
use Rattle.sg_base.specs.declared.area.Area.TheVariants.{Home, Log0, Log1}
use Rattle.sg_disk.specs.declared.record.Call.{Call}
use Rattle.sg_disk.specs.declared.record.Call.TheVariants.{Write, Drop, Sync}
use Rattle.sg_disk.proofs.Images.{write_keeps, drop_keeps, sync_keeps, put_outside, cut_outside, touched_write, touched_drop}

part : Bytes → List Range → Part
part f rs = record { seen = f; pending = rs }

-- two functions of the area, changed in one place
both : (a : Area) (x : Bytes) (y : List Range) (f : Image) (p : Area → List Range) (b : Area) → ◌≡◌ {A = Part} (record { seen = at_area a x f b; pending = at_area a y p b }) (at_area a (record { seen = x; pending = y }) (λ d. record { seen = f d; pending = p d }) b)
both Home x y f p Home = refl
both Log0 x y f p Log0 = refl
both Log1 x y f p Log1 = refl
both a x y f p b = refl

only_pending : (a : Area) (y : List Range) (f : Image) (p : Area → List Range) (b : Area) → ◌≡◌ {A = Part} (record { seen = f b; pending = at_area a y p b }) (at_area a (record { seen = f a; pending = y }) (λ d. record { seen = f d; pending = p d }) b)
only_pending Home y f p Home = refl
only_pending Log0 y f p Log0 = refl
only_pending Log1 y f p Log1 = refl
only_pending a y f p b = refl

pub wrote_state : (f : Image) (calls : List Call) (a : Area) (at len : ℕ) (bytes : List ℕ) (old : Vec ℕ Global) → len ≡ length bytes → state_of (at_area a (put at bytes (f a)) f) (Write a at len old ∷ calls) ≡ written a at bytes (state_of f calls)
wrote_state f calls a at len bytes old is = rw is (λ i b. both a (put at bytes (f a)) (record { from = at; to = Some (at + length bytes) } ∷ pending_of calls a) f (pending_of calls) b i)

pub dropped_state : (f : Image) (calls : List Call) (a : Area) (at : ℕ) (old : Vec ℕ Global) → state_of (at_area a (cut at (f a)) f) (Drop a at old ∷ calls) ≡ dropped a at (state_of f calls)
dropped_state f calls a at old = λ i b. both a (cut at (f a)) (record { from = at; to = None } ∷ pending_of calls a) f (pending_of calls) b i

pub synced_state : (f : Image) (calls : List Call) (a : Area) → state_of f (Sync a ∷ calls) ≡ synced a (state_of f calls)
synced_state f calls a = λ i b. only_pending a [] f (pending_of calls) b i

-- a disk that was in one state before, and is in another now
pub stepped : {T E : Type 0} (old new : View) (result : Result T E) (widest done : State) → new.past ≡ old.now ∷ old.past → ((c : Image) → Leaves old.now c → Leaves widest c) → ((c : Image) → Leaves new.now c → Leaves widest c)
    → OnOk result (new.now ≡ done) → Does old new result widest done
stepped old new result widest done past old_in new_in ok = record {
  added = old.now ∷ [];
  past = past;
  kept = λ c here. inr (inl here);
  only = λ c. ⊎_elim (new_in c) (⊎_elim (old_in c) (λ none. absurd none));
  ok = ok;
}

stayed : {T E : Type 0} (old new : View) (result : Result T E) (widest done : State) → new.now ≡ old.now → new.past ≡ old.past → ((c : Image) → Leaves old.now c → Leaves widest c) → OnOk result (new.now ≡ done) → Does old new result widest done
stayed old new result widest done now past old_in ok = record {
  added = [];
  past = past;
  kept = λ c here. inl (subst (λ (s : State). Leaves s c) (sym now) here);
  only = λ c. ⊎_elim (λ here. old_in c (subst (λ (s : State). Leaves s c) now here)) (λ none. absurd none);
  ok = ok;
}

once : (a : Area) (f : Image) (b : Area) → at_area a (f a) f b ≡ f b
once Home f Home = refl
once Log0 f Log0 = refl
once Log1 f Log1 = refl
once Home f Log0 = refl
once Home f Log1 = refl
once Log0 f Home = refl
once Log0 f Log1 = refl
once Log1 f Home = refl
once Log1 f Log0 = refl

twice : (a : Area) (x : Bytes) (f : Image) (b : Area) → at_area a (f a) (at_area a x f) b ≡ f b
twice Home x f Home = refl
twice Log0 x f Log0 = refl
twice Log1 x f Log1 = refl
twice Home x f Log0 = refl
twice Home x f Log1 = refl
twice Log0 x f Home = refl
twice Log0 x f Log1 = refl
twice Log1 x f Home = refl
twice Log1 x f Log0 = refl

-- one area was changed, and the call recorded with what puts it back
module _ (f g : Image) (a : Area) (changed : (b : Area) → g b ≡ at_area a (g a) f b) where
  now_is : (x : Bytes) → ((i : ℕ) → g a i ≡ x i) → g ≡ at_area a x f
  now_is x same = λ j b i. (changed b ∙ ap (λ (y : Bytes). at_area a y f b) (λ k i. same i k)) j i

  before_is : (x : Bytes) → ((i : ℕ) → x i ≡ f a i) → at_area a x g ≡ f
  before_is x same =
      let first : at_area a x g ≡ at_area a (f a) (at_area a (g a) f) = ap (λ (y : Bytes). at_area a y g) (λ k i. same i k) ∙ ap (λ (h : Image). at_area a (f a) h) (λ j b. changed b j) in
      first ∙ (λ j b. twice a (g a) f b j)

  -- a write, done or refused
  pub wrote_memory : {T E : Type 0} (r : Result T E) (calls later : List Call) (at : ℕ) (bytes : List ℕ) (n n' k k' e e' : ℕ)
      → OnOk r ((i : ℕ) → g a i ≡ put at bytes (f a) i)
      → OnOk r ((old : Vec ℕ Global) × (later ≡ Write a at (length bytes) old ∷ calls) × ((i : ℕ) → put at old.items (g a) i ≡ f a i))
      → OnErr r ((i : ℕ) → g a i ≡ f a i) → OnErr r (later ≡ calls)
      → Does (memory_view f calls n k e) (memory_view g later n' k' e') r (written a at bytes (state_of f calls)) (written a at bytes (state_of f calls))
  wrote_memory (Ok u) calls later at bytes n n' k k' e e' done recorded same none =
      let now = ap (λ (h : Image). state_of h later) (now_is (put at bytes (f a)) done) ∙ ap (λ (cs : List Call). state_of (at_area a (put at bytes (f a)) f) cs) recorded.1
      ∙ wrote_state f calls a at (length bytes) bytes recorded.0 refl in
      stepped (memory_view f calls n k e) (memory_view g later n' k' e') (Ok u) _ _
      (ap (λ (cs : List Call). past_of g cs) recorded.1 ∙ ap (λ (h : Image). state_of h calls ∷ past_of h calls) (before_is (put at recorded.0.items (g a)) recorded.2))
      (write_keeps (state_of f calls) a at bytes)
      (λ c leaves. subst (λ (s : State). Leaves s c) now leaves)
      now
  wrote_memory (Err u) calls later at bytes n n' k k' e e' done recorded same none =
      let image : g ≡ f = now_is (f a) same ∙ (λ j b. once a f b j) in
      stayed (memory_view f calls n k e) (memory_view g later n' k' e') (Err u) _ _ (λ j. state_of (image j) (none j)) (λ j. past_of (image j) (none j)) (write_keeps (state_of f calls) a at bytes) tt

  -- the same, where the area is known by an equation
  pub wrote_memory_at : {T E : Type 0} (r : Result T E) (calls later : List Call) (at : ℕ) (bytes : List ℕ) (n n' k k' e e' : ℕ) (area : Area) → area ≡ a
      → OnOk r ((i : ℕ) → g a i ≡ put at bytes (f a) i)
      → OnOk r ((old : Vec ℕ Global) × (later ≡ Write area at (length bytes) old ∷ calls) × ((i : ℕ) → put at old.items (g a) i ≡ f a i))
      → OnErr r ((i : ℕ) → g a i ≡ f a i) → OnErr r (later ≡ calls)
      → Does (memory_view f calls n k e) (memory_view g later n' k' e') r (written area at bytes (state_of f calls)) (written area at bytes (state_of f calls))
  wrote_memory_at r calls later at bytes n n' k k' e e' area is done recorded same none =
      subst (λ (b : Area). OnOk r ((old : Vec ℕ Global) × (later ≡ Write b at (length bytes) old ∷ calls) × ((i : ℕ) → put at old.items (g a) i ≡ f a i)) → Does (memory_view f calls n k e) (memory_view g later n' k' e') r (written b at bytes (state_of f calls)) (written b at bytes (state_of f calls)))
      (sym is) (λ rec. wrote_memory r calls later at bytes n n' k k' e e' done rec same none) recorded

  -- a drop
  pub dropped_memory : {T E : Type 0} (r : Result T E) (calls later : List Call) (at : ℕ) (n n' k k' e e' : ℕ)
      → OnOk r ((i : ℕ) → g a i ≡ cut at (f a) i)
      → OnOk r ((old : Vec ℕ Global) × (later ≡ Drop a at old ∷ calls) × ((i : ℕ) → put at old.items (g a) i ≡ f a i))
      → OnErr r ((i : ℕ) → g a i ≡ f a i) → OnErr r (later ≡ calls)
      → Does (memory_view f calls n k e) (memory_view g later n' k' e') r (dropped a at (state_of f calls)) (dropped a at (state_of f calls))
  dropped_memory (Ok u) calls later at n n' k k' e e' done recorded same none =
      let now = ap (λ (h : Image). state_of h later) (now_is (cut at (f a)) done) ∙ ap (λ (cs : List Call). state_of (at_area a (cut at (f a)) f) cs) recorded.1
      ∙ dropped_state f calls a at recorded.0 in
      stepped (memory_view f calls n k e) (memory_view g later n' k' e') (Ok u) _ _
      (ap (λ (cs : List Call). past_of g cs) recorded.1 ∙ ap (λ (h : Image). state_of h calls ∷ past_of h calls) (before_is (put at recorded.0.items (g a)) recorded.2))
      (drop_keeps (state_of f calls) a at)
      (λ c leaves. subst (λ (s : State). Leaves s c) now leaves)
      now
  dropped_memory (Err u) calls later at n n' k k' e e' done recorded same none =
      let image : g ≡ f = now_is (f a) same ∙ (λ j b. once a f b j) in
      stayed (memory_view f calls n k e) (memory_view g later n' k' e') (Err u) _ _ (λ j. state_of (image j) (none j)) (λ j. past_of (image j) (none j)) (drop_keeps (state_of f calls) a at) tt

  -- the same, where the area is known by an equation
  pub dropped_memory_at : {T E : Type 0} (r : Result T E) (calls later : List Call) (at : ℕ) (n n' k k' e e' : ℕ) (area : Area) → area ≡ a
      → OnOk r ((i : ℕ) → g a i ≡ cut at (f a) i)
      → OnOk r ((old : Vec ℕ Global) × (later ≡ Drop area at old ∷ calls) × ((i : ℕ) → put at old.items (g a) i ≡ f a i))
      → OnErr r ((i : ℕ) → g a i ≡ f a i) → OnErr r (later ≡ calls)
      → Does (memory_view f calls n k e) (memory_view g later n' k' e') r (dropped area at (state_of f calls)) (dropped area at (state_of f calls))
  dropped_memory_at r calls later at n n' k k' e e' area is done recorded same none =
      subst (λ (b : Area). OnOk r ((old : Vec ℕ Global) × (later ≡ Drop b at old ∷ calls) × ((i : ℕ) → put at old.items (g a) i ≡ f a i)) → Does (memory_view f calls n k e) (memory_view g later n' k' e') r (dropped b at (state_of f calls)) (dropped b at (state_of f calls)))
      (sym is) (λ rec. dropped_memory r calls later at n n' k k' e e' done rec same none) recorded

-- a sync, done or refused
pub synced_memory : {T E : Type 0} (r : Result T E) (f : Image) (calls later : List Call) (a : Area) (n n' k k' e e' : ℕ) → OnOk r (later ≡ Sync a ∷ calls) → OnErr r (later ≡ calls)
    → Does (memory_view f calls n k e) (memory_view f later n' k' e') r (state_of f calls) (synced a (state_of f calls))
synced_memory (Ok u) f calls later a n n' k k' e e' recorded none =
    let now = ap (λ (cs : List Call). state_of f cs) recorded ∙ synced_state f calls a in
    stepped (memory_view f calls n k e) (memory_view f later n' k' e') (Ok u) _ _ (ap (λ (cs : List Call). past_of f cs) recorded) (λ c leaves. leaves)
    (λ c leaves. sync_keeps (state_of f calls) a c (subst (λ (s : State). Leaves s c) now leaves)) now
synced_memory (Err u) f calls later a n n' k k' e e' recorded none =
    stayed (memory_view f calls n k e) (memory_view f later n' k' e') (Err u) _ _ (ap (λ (cs : List Call). state_of f cs) none) (ap (λ (cs : List Call). past_of f cs) none) (λ c leaves. leaves) tt

-- the record of a disk in memory after a crash: at first, and one call further
pub crash_begins : (calls : List Call) (a : Area) (seen : Bytes) → ((i : ℕ) → seen i < 256) → IsCrashing calls calls a true seen seen
crash_begins calls a seen fit = record {
  leaves = record { byte = fit; rest = λ i whole. refl };
  within = λ unsynced i spoils. spoils;
}

front : (call : Call) (calls : List Call) (a : Area) (i : ℕ) → Spoils (pending_of (call ∷ []) a) i → Spoils (pending_of (call ∷ calls) a) i
front (Write Home at len old) calls Home i spoils = ⊎_elim (λ here. inl here) (λ none. absurd none) spoils
front (Write Home at len old) calls Log0 i spoils = absurd spoils
front (Write Home at len old) calls Log1 i spoils = absurd spoils
front (Write Log0 at len old) calls Home i spoils = absurd spoils
front (Write Log0 at len old) calls Log0 i spoils = ⊎_elim (λ here. inl here) (λ none. absurd none) spoils
front (Write Log0 at len old) calls Log1 i spoils = absurd spoils
front (Write Log1 at len old) calls Home i spoils = absurd spoils
front (Write Log1 at len old) calls Log0 i spoils = absurd spoils
front (Write Log1 at len old) calls Log1 i spoils = ⊎_elim (λ here. inl here) (λ none. absurd none) spoils
front (Drop Home at old) calls Home i spoils = ⊎_elim (λ here. inl here) (λ none. absurd none) spoils
front (Drop Home at old) calls Log0 i spoils = absurd spoils
front (Drop Home at old) calls Log1 i spoils = absurd spoils
front (Drop Log0 at old) calls Home i spoils = absurd spoils
front (Drop Log0 at old) calls Log0 i spoils = ⊎_elim (λ here. inl here) (λ none. absurd none) spoils
front (Drop Log0 at old) calls Log1 i spoils = absurd spoils
front (Drop Log1 at old) calls Home i spoils = absurd spoils
front (Drop Log1 at old) calls Log0 i spoils = absurd spoils
front (Drop Log1 at old) calls Log1 i spoils = ⊎_elim (λ here. inl here) (λ none. absurd none) spoils
front (Sync Home) calls Home i spoils = absurd spoils
front (Sync Home) calls Log0 i spoils = absurd spoils
front (Sync Home) calls Log1 i spoils = absurd spoils
front (Sync Log0) calls Home i spoils = absurd spoils
front (Sync Log0) calls Log0 i spoils = absurd spoils
front (Sync Log0) calls Log1 i spoils = absurd spoils
front (Sync Log1) calls Home i spoils = absurd spoils
front (Sync Log1) calls Log0 i spoils = absurd spoils
front (Sync Log1) calls Log1 i spoils = absurd spoils

pub crash_goes_on : (first : List Call) (call : Call) (rest : List Call) (a : Area) (was is : Bool) (seen now next : Bytes)
    → IsCrashing first (call ∷ rest) a was seen now
    → ((i : ℕ) → (IsTrue was → Spoils (pending_of (call ∷ []) a) i → ⊥) → next i ≡ now i) → ((i : ℕ) → next i < 256) → (IsTrue is → IsTrue was)
    → (IsTrue is → (calls : List Call) (i : ℕ) → Spoils (pending_of calls a) i → Spoils (pending_of (call ∷ calls) a) i)
    → IsCrashing first rest a is seen next
crash_goes_on first call rest a was is seen now next so_far outside fit before more = record {
  leaves = record {
    byte = fit;
    rest = λ i whole. outside i (λ unsynced spoils. whole (so_far.within unsynced i (front call rest a i spoils))) ∙ so_far.leaves.rest i whole;
  };
  within = λ unsynced i spoils. so_far.within (before unsynced) i (more unsynced rest i spoils);
}

pub write_spoils : (a : Area) (at len : ℕ) (old : Vec ℕ Global) (i : ℕ) → at ≤ i → i < at + len → Spoils (pending_of (Write a at len old ∷ []) a) i
write_spoils Home at len old i low high = inl (touched_write at len i low high)
write_spoils Log0 at len old i low high = inl (touched_write at len i low high)
write_spoils Log1 at len old i low high = inl (touched_write at len i low high)

pub drop_spoils : (a : Area) (at : ℕ) (old : Vec ℕ Global) (i : ℕ) → at ≤ i → Spoils (pending_of (Drop a at old ∷ []) a) i
drop_spoils Home at old i low = inl (touched_drop at i low)
drop_spoils Log0 at old i low = inl (touched_drop at i low)
drop_spoils Log1 at old i low = inl (touched_drop at i low)

put_nothing : (at : ℕ) (f : Bytes) (i : ℕ) → put at [] f i ≡ f i
put_nothing at f i = put_outside at [] f i (λ low high. absurd (omega arith))

at_area_map : (a : Area) (x y : Part) (s : State) (b : Area) (P : Part → Type 0) → P (at_area a x s b) → (P x → P y) → P (at_area a y s b)
at_area_map Home x y s Home P is map = map is
at_area_map Log0 x y s Log0 P is map = map is
at_area_map Log1 x y s Log1 P is map = map is
at_area_map Home x y s Log0 P is map = is
at_area_map Home x y s Log1 P is map = is
at_area_map Log0 x y s Home P is map = is
at_area_map Log0 x y s Log1 P is map = is
at_area_map Log1 x y s Home P is map = is
at_area_map Log1 x y s Log0 P is map = is

failed_image : (f : Image) (calls : List Call) (a : Area) (at len : ℕ) (bytes : List ℕ) (old : Vec ℕ Global) (c : Image) → len ≡ length bytes → Leaves (state_of f (Write a at len old ∷ calls)) c → Leaves (written a at bytes (state_of f calls)) c
failed_image f calls a at len bytes old c is leaves b =
    let r : Range = record { from = at; to = Some (at + len) } in
    let here : LeavesPart (at_area a (record { seen = f a; pending = r ∷ pending_of calls a }) (state_of f calls) b) (c b) = subst (λ (p : Part). LeavesPart p (c b)) (only_pending a (r ∷ pending_of calls a) f (pending_of calls) b) (leaves b) in
    at_area_map a (record { seen = f a; pending = r ∷ pending_of calls a }) (written_part at bytes (state_of f calls a)) (state_of f calls) b (λ p. LeavesPart p (c b)) here
    (λ torn. rw (← is) (record {
      byte = torn.byte;
      rest = λ i whole. torn.rest i whole ∙ sym (put_outside at bytes (f a) i (λ low high. whole (inl (touched_write at len i low (omega arith)))));
    }))

-- a write that failed: nothing is written, and its range is pending
pub failed_memory : {T E : Type 0} (r : Result T E) → IsErr r → (f : Image) (calls later : List Call) (a : Area) (at len : ℕ) (bytes : List ℕ) (n n' k k' e e' : ℕ) → len ≡ length bytes
    → ((old : Vec ℕ Global) × (old.items ≡ []) × (later ≡ Write a at len old ∷ calls)) ⊎ (later ≡ calls)
    → Does (memory_view f calls n k e) (memory_view f later n' k' e') r (written a at bytes (state_of f calls)) (written a at bytes (state_of f calls))
failed_memory (Ok u) bad f calls later a at len bytes n n' k k' e e' is recorded = let none : ⊥ = cc in absurd none
failed_memory (Err u) err f calls later a at len bytes n n' k k' e e' is (inl (old, empty, same)) =
    let before : undone (Write a at len old) f ≡ f = ap (λ (xs : List ℕ). at_area a (put at xs (f a)) f) empty ∙ ap (λ (y : Bytes). at_area a y f) (λ j i. put_nothing at (f a) i j) ∙ (λ j b. once a f b j) in
    stepped (memory_view f calls n k e) (memory_view f later n' k' e') (Err u) _ _
    (ap (λ (cs : List Call). past_of f cs) same ∙ ap (λ (h : Image). state_of h calls ∷ past_of h calls) before)
    (write_keeps (state_of f calls) a at bytes)
    (λ c leaves. failed_image f calls a at len bytes old c is (subst (λ (cs : List Call). Leaves (state_of f cs) c) same leaves))
    tt
failed_memory (Err u) err f calls later a at len bytes n n' k k' e e' is (inr none) =
    stayed (memory_view f calls n k e) (memory_view f later n' k' e') (Err u) _ _ (ap (λ (cs : List Call). state_of f cs) none) (ap (λ (cs : List Call). past_of f cs) none) (write_keeps (state_of f calls) a at bytes) tt

failed_drop_image : (f : Image) (calls : List Call) (a : Area) (at : ℕ) (old : Vec ℕ Global) (c : Image) → Leaves (state_of f (Drop a at old ∷ calls)) c → Leaves (dropped a at (state_of f calls)) c
failed_drop_image f calls a at old c leaves b =
    let r : Range = record { from = at; to = None } in
    let here : LeavesPart (at_area a (record { seen = f a; pending = r ∷ pending_of calls a }) (state_of f calls) b) (c b) = subst (λ (p : Part). LeavesPart p (c b)) (only_pending a (r ∷ pending_of calls a) f (pending_of calls) b) (leaves b) in
    at_area_map a (record { seen = f a; pending = r ∷ pending_of calls a }) (dropped_part at (state_of f calls a)) (state_of f calls) b (λ p. LeavesPart p (c b)) here
    (λ torn. record {
      byte = torn.byte;
      rest = λ i whole. torn.rest i whole ∙ sym (cut_outside at (f a) i (λ low. whole (inl (touched_drop at i low))));
    })

-- a drop that failed: nothing is dropped, and its range is pending
pub failed_drop_memory : {T E : Type 0} (r : Result T E) → IsErr r → (f : Image) (calls later : List Call) (a : Area) (at : ℕ) (n n' k k' e e' : ℕ)
    → ((old : Vec ℕ Global) × (old.items ≡ []) × (later ≡ Drop a at old ∷ calls)) ⊎ (later ≡ calls)
    → Does (memory_view f calls n k e) (memory_view f later n' k' e') r (dropped a at (state_of f calls)) (dropped a at (state_of f calls))
failed_drop_memory (Ok u) bad f calls later a at n n' k k' e e' recorded = let none : ⊥ = cc in absurd none
failed_drop_memory (Err u) err f calls later a at n n' k k' e e' (inl (old, empty, same)) =
    let before : undone (Drop a at old) f ≡ f = ap (λ (xs : List ℕ). at_area a (put at xs (f a)) f) empty ∙ ap (λ (y : Bytes). at_area a y f) (λ j i. put_nothing at (f a) i j) ∙ (λ j b. once a f b j) in
    stepped (memory_view f calls n k e) (memory_view f later n' k' e') (Err u) _ _
    (ap (λ (cs : List Call). past_of f cs) same ∙ ap (λ (h : Image). state_of h calls ∷ past_of h calls) before)
    (drop_keeps (state_of f calls) a at)
    (λ c leaves. failed_drop_image f calls a at old c (subst (λ (cs : List Call). Leaves (state_of f cs) c) same leaves))
    tt
failed_drop_memory (Err u) err f calls later a at n n' k k' e e' (inr none) =
    stayed (memory_view f calls n k e) (memory_view f later n' k' e') (Err u) _ _ (ap (λ (cs : List Call). state_of f cs) none) (ap (λ (cs : List Call). past_of f cs) none) (drop_keeps (state_of f calls) a at) tt

-- a read or a sync that failed: nothing has changed
pub nothing_memory : {T E : Type 0} (r : Result T E) → IsErr r → (f : Image) (calls : List Call) (done : State) (n n' k k' e e' : ℕ)
    → Does (memory_view f calls n k e) (memory_view f calls n' k' e') r (state_of f calls) done
nothing_memory (Ok u) bad f calls done n n' k k' e e' = let none : ⊥ = cc in absurd none
nothing_memory (Err u) err f calls done n n' k k' e e' = stayed (memory_view f calls n k e) (memory_view f calls n' k' e') (Err u) _ _ refl refl (λ c leaves. leaves) tt
