-- WHAT A VERB FOUND IN BANDS puts back what there was: what its note owes to undoing it.
use Rattle.std.proofs.Common.{◌≡◌, ℕ, zero, suc, ◌+◌, ◌<◌, ◌≤◌, Bool, true, false, not, List, [], ◌∷◌, ◌++◌, length, slice_get, Option, Some, None, option_map, Ok, inl, inr, refl, sym, ap, ◌∙◌, subst, arith}
use Rattle.std.specs.Prelude.{◌==◌, ◌||◌, nat_le, map, is_ok, if◌then◌else◌}
use Rattle.std.specs.FinMap.{get}
use Rattle.std.proofs.lemmas.Bool.{cases_Bool, eq-eqb, or_left, or_right}
use Rattle.sg_alloc.specs.Flags.{map_bands_of}
use Rattle.sg_base.specs.declared.numbers.TxnId.{TxnId}
use Rattle.sg_ops.specs.Table.{Table}
use Rattle.sg_blob.specs.Blob.{Blob, IsBlob, OwnsBand}
use Rattle.sg_catalog.specs.Catalog.{rows, there, is_there}
use Rattle.sg_catalog.specs.declared.row.ObjectKind.{ObjectKind}
use Rattle.sg_catalog.specs.declared.row.ObjectKind.TheVariants as kinds
use Rattle.sg_catalog.specs.declared.row.Row.{Row}
use Rattle.sg_model.specs.Objects.{Object, Entries, Row as ArrayRow}
use Rattle.sg_model.specs.Objects.Object.{Array as AsArray, Table as AsTable, Blob as AsBlob}
use Rattle.sg_model.specs.Step.{on, on_blob, write, resize, paint, Change as Outcomes}
use Rattle.sg_model.specs.Verb.{Verb, Reply, Outcome}
use Rattle.sg_model.specs.Verb.Verb.{MakeArray, MakeTable, MakeBlob, Discard, Push, Pop, Set, Get, Len, Apply, Put, Del, Find, Keys, Write, Read, Size, Paint}
use Rattle.sg_record.specs.Changes.{Change as Changing}
use Rattle.sg_recovery.specs.Laws.{Each}
use Rattle.sg_recovery.specs.Log.{Open, tally, changes_of, open_of}
use Rattle.sg_recovery.proofs.TakeOff.{all_own}
use Rattle.sg_action.specs.States.{State, Kept, Change as Changed, made}
use Rattle.sg_action.specs.States.Change.{Page as OnPage, Write as OnBand, Paint as PaintOn}
use Rattle.sg_actions.specs.Changes.{meaning}
use Rattle.sg_actions.specs.Later.{KeepsBands, Went, HasGone, at_kept, at_bands, kept_at, begin_at}
use Rattle.sg_actions.specs.Painting.{AreBandsWhole}
use Rattle.sg_actions.specs.Steps.{repeated, logged, opened}
use Rattle.sg_actions.specs.Taken.{AreFlags, is_set, takes_band, writes_band}
use Rattle.sg_actions.specs.View.{HasFreedNone}
use Rattle.sg_actions.proofs.Beginning.{idle_opened}
use Rattle.sg_actions.proofs.Flags.{and_left, and_both, at_there, get_set, there_is}
use Rattle.sg_actions.proofs.Repeating.{made_opened}
use Rattle.sg_actions.proofs.TakenOff.{changes_are}
use Rattle.sg_actions.proofs.Taking.{none_freed}
use Rattle.sg_before.specs.Befores.{befores, found_in, AreWholeBands, AreOn, IsOneOf, IsTakenBy}
use Rattle.sg_reading.specs.Back.{Before}
use Rattle.sg_reading.specs.Did.{Did, grown as left_grown}
use Rattle.sg_reading.specs.Left.{IsLeft, done_by}
use Rattle.sg_reading.specs.Noted.{PutsBack, PutsBackOf}
use Rattle.sg_reading.specs.Reading.{Thing, Around, plain}
use Rattle.sg_reading.specs.Reading.Thing.{There}
use Rattle.sg_contents.specs.Standing.{Body, Contents, IsBody, IsContents}
use Rattle.sg_contents.specs.Standing as standing
use Rattle.sg_contents.specs.Standing.Body.{AnArray, ATable, ABlob}
use Rattle.sg_contents.specs.Meaning.{reading, thing_at, thing_of}
use Rattle.sg_contents.proofs.Among.{found_among}
use Rattle.sg_contents.proofs.Reading.{get_thing}
use Rattle.sg_objects.specs.Blobs.{IsBlobAt}
use Rattle.sg_objects.specs.Quiet.{WritesBody, WroteBody, Wrote}
use Rattle.sg_objects.specs.declared.blob.BlobAt.{BlobAt}
use Rattle.sg_objects.proofs.Blobbed.{blob_at, blob_under}
use Rattle.sg_objects.proofs.Founds.{ShowsBands, blob_puts_back, left_bytes, write_puts_back, size_puts_back, paint_puts_back}
use Rattle.sg_objects.proofs.Located.{at_among}
use Rattle.sg_once.proofs.Others.{one_blob}
use Rattle.sg_space.specs.View.{Space}
use Rattle.sg_store.specs.Engine.{Sizes, Action}
use Rattle.sg_ground.specs.Ground.{found_by}
use Rattle.sg_ground.specs.Recovers.{Recovering}
use Rattle.sg_shown.specs.Shown.{Over, Keeping, Means, basis}
use Rattle.sg_shown.proofs.Holding.{idle_ended}
use Rattle.sg_verbs.proofs.Held.{space_in}
use Rattle.sg_verbs.proofs.Moving.{LaterOn, at_in, view_in, went}
use Rattle.sg_verbs.proofs.Story.{seen, act_is}

no : false ≡ true → ⊥
no e = cc

same_some : {A : Type 0} (x y : A) → Some x ≡ Some y → x ≡ y
same_some x y e = cc

-- LISTS of bands

behind : (xs ys : List ℕ) (j : ℕ) → slice_get (xs ++ ys) (length xs + j) ≡ slice_get ys j
behind [] ys j = ap (slice_get ys) (let e : 0 + j ≡ j = omega arith in e)
behind (x ∷ xs) ys j = ap (slice_get (x ∷ (xs ++ ys))) (let e : suc (length xs) + j ≡ suc (length xs + j) = omega arith in e) ∙ behind xs ys j

in_front : (xs ys : List ℕ) (i n : ℕ) → slice_get xs i ≡ Some n → slice_get (xs ++ ys) i ≡ Some n
in_front [] ys i n e = absurd (cc)
in_front (x ∷ xs) ys zero n e = e
in_front (x ∷ xs) ys (suc i) n e = in_front xs ys i n e

below : {A : Type 0} (xs : List A) (i : ℕ) (x : A) → slice_get xs i ≡ Some x → i < length xs
below [] i x e = absurd (cc)
below (y ∷ xs) zero x e = (let less : 0 < suc (length xs) = omega arith in less)
below (y ∷ xs) (suc i) x e = let rest = below xs i x e in (let less : suc i < suc (length xs) = omega (arith, rest) in less)

-- WHAT AN ACTION FOUND is on the bands that it has changed
on_found : (bs : List ℕ) (map b at : ℕ) (bytes : List ℕ) (cs : List Before) → IsOneOf bs b → AreOn bs cs → AreOn bs (found_in map b at bytes cs)
on_found bs map b at bytes cs one rest = go (nat_le map b)
  where
    go : (near : Bool) → AreOn bs (if near then record { band = b; at = at; bytes = bytes } ∷ cs else cs)
    go true = (one, rest)
    go false = rest

module _ (bs : List ℕ) (b : ℕ) (ds : List Changed) (h : (n : ℕ) → ((n == b) || writes_band ds n) ≡ true → IsOneOf bs n) where
  one_on : IsOneOf bs b
  one_on = h b (or_left (b == b) (writes_band ds b) (eq-eqb b b refl))

  rest_on : (n : ℕ) → writes_band ds n ≡ true → IsOneOf bs n
  rest_on n e = h n (or_right (n == b) (writes_band ds n) e)

all_on : (bs : List ℕ) (map : ℕ) (ds : List Changed) → ((n : ℕ) → writes_band ds n ≡ true → IsOneOf bs n) → AreOn bs (befores map ds)
all_on bs map [] h = tt
all_on bs map (OnPage n op back ∷ ds) h = all_on bs map ds h
all_on bs map (OnBand b at before after ∷ ds) h = on_found bs map b at before (befores map ds) (one_on bs b ds h) (all_on bs map ds (rest_on bs b ds h))
all_on bs map (PaintOn b at count code position arg before ∷ ds) h =
    on_found bs map b at before (befores map ds) (one_on bs b ds h) (all_on bs map ds (rest_on bs b ds h))

-- and an action that has changed nothing keeps its bands
none_kept : (t : Table) (kept : Kept) (bands : List Bool) → KeepsBands t kept [] bands
none_kept t kept bands = record { filled = tt; whole = λ b e. absurd (no e); used = λ b e. absurd (no e); written = λ b e. absurd (no e) }

bands_on : (recovers : Recovering) (a b : Over) (t : Table) (z : Sizes) (from : State) → Means a t z from → at_kept t (a.limits z.pages z.bands) (at_in from a)
    → LaterOn recovers t a b → a.engine.Told → b.engine.failed ≡ false → opened a.engine.steps ≡ [] → at_bands t (a.limits z.pages z.bands) (at_in from b)
bands_on recovers a b t z from m kept l told whole none =
    let own : State → ℕ → ℕ = a.limits (length a.maps.pages) (length a.maps.bands) in
    let same : own ≡ a.limits z.pages z.bands = λ i. a.limits (m.pages i) (m.bands i) in
    let kept' : at_kept t own (at_in from a) = subst (λ (q : State → ℕ → ℕ). at_kept t q (at_in from a)) (sym same) kept in
    let was : Kept = kept_at t own (at_in from a) in
    let still : at_bands t own (at_in from a) = subst (λ (ds : List Changed). KeepsBands t was ds a.maps.bands) (sym none) (none_kept t was a.maps.bands) in
    subst (λ (q : State → ℕ → ℕ). at_bands t q (at_in from b)) same (l.holds refl from m.since told kept' whole still)

-- THE BLOB UNDER A NAME, where the reading has one there
abbrev is_blob : Thing → Bool
is_blob (There (AsArray row) w) = false
is_blob (There (AsTable m) w) = false
is_blob (There (AsBlob xs) w) = true

abbrev root_in : Thing → ℕ
root_in (There o w) = w.root

under_row : (space : Space) (s : Contents) (name : List ℕ) (row : Row) (bytes : List ℕ) (w : Around) → there name (rows s.catalog) ≡ Some row
    → (kind : ObjectKind) → row.kind ≡ kind → (body : Body) → s.body row.root.0 ≡ body → IsBody space kind row.root.0 body
    → thing_of row.root.0 body ≡ There (AsBlob bytes) w → (x : BlobAt) × IsBlobAt name s x × (x.root.0 ≡ w.root)
under_row space s name row bytes w found kinds.Blob is (ABlob b) same h e = (
  record { root = row.root; len = length b.bytes },
  record { at = record { row = row; found = found; kind_is = is; root_is = refl }; blob = b; body_is = same; len_is = refl },
  ap root_in e,
)
under_row space s name row bytes w found kinds.Array is (ABlob b) same h e = absurd h
under_row space s name row bytes w found kinds.Table is (ABlob b) same h e = absurd h
under_row space s name row bytes w found kind is (AnArray a) same h e = absurd (no (ap is_blob e))
under_row space s name row bytes w found kind is (ATable a) same h e = absurd (no (ap is_blob e))

blob_named : (space : Space) (s : Contents) (name : List ℕ) {bytes : List ℕ} {w : Around} → IsContents space s
    → get (reading s).things name ≡ Some (There (AsBlob bytes) w) → (x : BlobAt) × IsBlobAt name s x × (x.root.0 ≡ w.root)
blob_named space s name {bytes} {w} h e = go (there name (rows s.catalog)) refl (sym (get_thing s name) ∙ e)
  where
    go : (o : Option Row) → there name (rows s.catalog) ≡ o → option_map (thing_at s.body) o ≡ Some (There (AsBlob bytes) w)
        → (x : BlobAt) × IsBlobAt name s x × (x.root.0 ≡ w.root)
    go None found is = absurd (cc)
    go (Some row) found is =
        let stands = h.body row (found_among (is_there name) (rows s.catalog) row found) in
        under_row space s name row bytes w found row.kind refl (s.body row.root.0) refl stands (same_some (thing_at s.body row) (There (AsBlob bytes) w) is)

-- what is said of a thing that is a blob is to be shown where it is one
where_blob : (space : Space) (s : Contents) (name : List ℕ) (P : Option Thing → Type 0) → IsContents space s → P None
    → ((row : ArrayRow) (w : Around) → P (Some (There (AsArray row) w))) → ((m : Entries) (w : Around) → P (Some (There (AsTable m) w)))
    → ((x : BlobAt) → IsBlobAt name s x → P (get (reading s).things name)) → P (get (reading s).things name)
where_blob space s name P h none array table blob = go (get (reading s).things name) refl
  where
    go : (th : Option Thing) → get (reading s).things name ≡ th → P (get (reading s).things name)
    go None e = subst P (sym e) none
    go (Some (There (AsArray row) w)) e = subst P (sym e) (array row w)
    go (Some (There (AsTable m) w)) e = subst P (sym e) (table m w)
    go (Some (There (AsBlob xs) w)) e = let n = blob_named space s name h e in blob n.0 n.1

-- ITS BANDS are taken, and behind the map's
set_in : (c : Over) (root : ℕ) (x : Blob) → IsBlob (space_in c).pages.at (space_in c).bands.at root x
    → (j n : ℕ) → slice_get x.bands j ≡ Some n → is_set c.maps.bands n ≡ true
set_in c root x h j n e = let p = h.raw.part j n e in (there_is c.maps.bands c.unfreed.bands (λ i. Some (c.engine.now.bands i)) n p.what p.is).taken_is

above_map : (c : Over) (z : Sizes) (s : Contents) {name : List ℕ} {x : BlobAt} → length c.maps.pages ≡ z.pages → length c.maps.bands ≡ z.bands
    → IsContents (space_in c) s → (f : IsBlobAt name s x) → (j n : ℕ) → slice_get f.blob.bands j ≡ Some n → map_bands_of z.pages z.bands ≤ n
above_map c z s pages bands h f j n e =
    let same : map_bands_of (length c.maps.pages) (length c.maps.bands) ≡ map_bands_of z.pages z.bands = λ i. map_bands_of (pages i) (bands i) in
    let there = subst (λ (y : Body). standing.OwnsBand y n) (sym f.body_is) (j, e) in
    let own = subst (λ (r : ℕ). standing.OwnsBand (s.body r) n) (sym f.at.root_is) there in
    subst (λ (k : ℕ). k ≤ n) same (h.behind_map f.at.row (at_among f.at) n own)

-- a space has at each number what the engine holds there
shows_now : (c : Over) (x : State) → x ≡ c.engine.now → ShowsBands (space_in c) x
shows_now c x is n bytes e =
    let has = there_is c.maps.bands c.unfreed.bands (λ i. Some (c.engine.now.bands i)) n bytes e in
    ap (λ (y : State). y.bands n) is ∙ same_some (c.engine.now.bands n) bytes has.is

-- FROM ONE MOMENT TO A LATER ONE, by calls of an action that had changed nothing and freed nothing
module _ (recovers : Recovering) (a b : Over) (t : Table) (z : Sizes) (from : State) (m : Means a t z from) (l : LaterOn recovers t a b)
    (told : a.engine.Told) (whole : b.engine.failed ≡ false)
    (now : a.engine.now ≡ repeated t from a.engine.steps) (now' : b.engine.now ≡ repeated t from b.engine.steps) (wide : AreBandsWhole a.engine.now)
    (idle : (tally a.engine.steps).opened ≡ []) (fresh : HasFreedNone a.unfreed) (flags : AreFlags a.maps.bands a.unfreed.bands)
    (act : Action (basis recovers z)) (acting : (seen recovers t z from a).action ≡ Some act) where
  k : Keeping a t z from
  k = m.keeps told

  w : Went (recovers t) t (a.limits z.pages z.bands) (at_in from a) (at_in from b)
  w = went recovers a b t z from m.pages m.bands k.kept l m.since told

  gone : HasGone t (a.limits z.pages z.bands) (at_in from a) (at_in from b) w.made
  gone = w.gone whole

  none : opened a.engine.steps ≡ []
  none = idle_opened a.engine.steps (idle_ended a.engine.steps k.kept.chain.closed idle)

  -- what was taken when the action began, what there was then, and its changes
  abbrev kept : Kept
  kept = kept_at t (a.limits z.pages z.bands) (at_in from b)

  abbrev begin : State
  begin = begin_at t (at_in from b)

  abbrev ds : List Changed
  ds = opened b.engine.steps

  abbrev map_end : ℕ
  map_end = map_bands_of z.pages z.bands

  bands : at_bands t (a.limits z.pages z.bands) (at_in from b)
  bands = bands_on recovers a b t z from m k.kept l told whole none

  begin_is : begin ≡ a.engine.now
  begin_is = gone.begin ∙ (ap (repeated t from) (idle_ended a.engine.steps k.kept.chain.closed idle) ∙ sym now)

  end_is : made t begin ds ≡ b.engine.now
  end_is = made_opened t from b.engine.steps ∙ sym now'

  -- WHAT WAS TAKEN THEN is what was at the first moment
  kept_was : (n : ℕ) → is_set a.maps.bands n ≡ true → kept.bands n ≡ true
  kept_was n e =
      ap (λ (q : Kept). q.bands n) gone.same
      ∙ and_both (is_set a.maps.bands n) (not (takes_band (opened a.engine.steps) n)) e (ap (λ (es : List Changed). not (takes_band es n)) none)

  was_kept : (n : ℕ) → kept.bands n ≡ true → is_set a.maps.bands n ≡ true
  was_kept n e = and_left (is_set a.maps.bands n) (not (takes_band (opened a.engine.steps) n)) (sym (ap (λ (q : Kept). q.bands n) gone.same) ∙ e)

  taken_by : (n : ℕ) → is_set b.maps.bands n ≡ true → (is_set a.maps.bands n ≡ true → ⊥) → IsTakenBy ds n
  taken_by n set free = bands.whole n (elim (cases_Bool (takes_band ds n)) [
    | inl e ↦ e
    | inr e ↦ absurd (free (was_kept n (and_both (is_set b.maps.bands n) (not (takes_band ds n)) set (ap not e))))
  ])

  not_there : (n : ℕ) → (space_in a).bands.at n ≡ None → is_set a.maps.bands n ≡ true → ⊥
  not_there n free set =
      let long : n < length a.unfreed.bands = subst (λ (k : ℕ). n < k) (sym flags.long) (below a.maps.bands n true (get_set a.maps.bands n set)) in
      let both = and_both (is_set a.maps.bands n) (is_set a.unfreed.bands n) set (none_freed a.unfreed.bands n fresh.bands long) in
      let there = at_there a.maps.bands a.unfreed.bands (λ j. Some (a.engine.now.bands j)) n both in
      let is : ◌≡◌ {A = Option (List ℕ)} None (Some (a.engine.now.bands n)) = sym free ∙ there in
      cc

  -- WHAT ITS RECORDS FOUND is what its changes found
  abbrev found : List Before
  found = found_by map_end (changes_of (open_of act.transaction (tally b.engine.steps).opened))

  found_is : found ≡ befores map_end ds
  found_is =
      let all = (tally b.engine.steps).opened in
      let is = ap (λ (y : Action (basis recovers z)). y.transaction) (act_is recovers t z from a act k.kept.chain.closed acting) in
      let txn : b.actor.txn.0 ≡ act.transaction = ap (λ (u : TxnId). u.0) gone.txn ∙ sym is in
      let owned : Each (λ (d : Open Changing). d.transaction ≡ act.transaction) all =
      subst (λ (u : ℕ). Each (λ (d : Open Changing). d.transaction ≡ u) all) txn gone.kept.chain.running.owned in
      let own : open_of act.transaction all ≡ all = all_own act.transaction all owned in
      let are : changes_of all ≡ logged b.engine.steps = changes_are b.engine.steps gone.kept.chain.closed in
      ap (λ (cs : List Changing). befores map_end (map meaning cs)) (ap (λ (os : List (Open Changing)). changes_of os) own ∙ are)

  -- A BLOB that stands at both moments, and on whose bands alone bytes were written
  module _ {s s' : Contents} {name : List ℕ} {x x' : BlobAt} (f : IsBlobAt name s x) (f' : IsBlobAt name s' x') (same : x'.root.0 ≡ x.root.0)
      (h : IsContents (space_in a) s) (h' : IsContents (space_in b) s') (o : WroteBody x.root.0 s (view_in a) (view_in b))
      (more : List ℕ) (grown : f'.blob.bands ≡ f.blob.bands ++ more) where
    stood : IsBlob (space_in a).pages.at (space_in a).bands.at x.root.0 f.blob
    stood = blob_at h f

    stands : IsBlob (space_in b).pages.at (space_in b).bands.at x.root.0 f'.blob
    stands = subst (λ (r : ℕ). IsBlob (space_in b).pages.at (space_in b).bands.at r f'.blob) same (blob_at h' f')

    same_bands : o.blob.bands ≡ f'.blob.bands
    same_bands = ap (λ (y : Blob). y.bands) (one_blob o.stands stands)

    named : (j n : ℕ) → slice_get more j ≡ Some n → slice_get f'.blob.bands (length f.blob.bands + j) ≡ Some n
    named j n e = ap (λ (bs : List ℕ). slice_get bs (length f.blob.bands + j)) grown ∙ (behind f.blob.bands more j ∙ e)

    -- a band that it took was free
    not_had : (j n : ℕ) → slice_get more j ≡ Some n → (i : ℕ) → slice_get f.blob.bands i ≡ Some n → ⊥
    not_had j n e i had =
        let had' : slice_get f'.blob.bands i ≡ Some n = ap (λ (bs : List ℕ). slice_get bs i) grown ∙ in_front f.blob.bands more i n had in
        let apart : i ≡ length f.blob.bands + j = stands.raw.apart i (length f.blob.bands + j) n had' (named j n e) in
        let less = below f.blob.bands i n had in
        omega (arith, apart, less)

    was_free : (j n : ℕ) → slice_get more j ≡ Some n → is_set a.maps.bands n ≡ true → ⊥
    was_free j n e = elim (o.taken n (length f.blob.bands + j, ap (λ (bs : List ℕ). slice_get bs (length f.blob.bands + j)) same_bands ∙ named j n e)) [
      | inl q ↦ let had : OwnsBand f.blob.bands n = subst (λ (y : Body). standing.OwnsBand y n) f.body_is q in absurd (not_had j n e had.0 had.1)
      | inr free ↦ not_there n free
    ]

    on_its_bands : (n : ℕ) → writes_band ds n ≡ true → IsOneOf (f.blob.bands ++ more) n
    on_its_bands n e = elim (o.writes.wrote n (gone.told, e)) [
      | inl q ↦ absurd (no (sym (ap (λ (es : List Changed). writes_band es n) none) ∙ q.1))
      | inr q ↦ subst (λ (bs : List ℕ). IsOneOf bs n) (same_bands ∙ grown) q
    ]

    blob_back : PutsBack (f.blob.bands ++ more) (befores map_end ds) f'.blob.bytes f.blob.bytes
    blob_back =
        blob_puts_back (space_in a) (space_in b) t kept map_end ds begin f.blob f'.blob more (subst AreWholeBands (sym begin_is) wide)
        gone.kept.well.opens bands.filled (shows_now a begin begin_is) (shows_now b (made t begin ds) end_is) stood stands grown
        (record { had = λ j n e. kept_was n (set_in a x.root.0 f.blob stood j n e); behind = λ j n e. above_map a z s m.pages m.bands h f j n e })
        (record {
          taken = λ j n e. taken_by n (set_in b x.root.0 f'.blob stands (length f.blob.bands + j) n (named j n e)) (was_free j n e);
          behind = λ j n e. above_map b z s' (l.pages ∙ m.pages) (l.bands ∙ m.bands) h' f' (length f.blob.bands + j) n (named j n e);
        })
        (all_on (f.blob.bands ++ more) map_end ds on_its_bands)

  -- A VERB ON A BLOB'S BYTES
  module _ (name : List ℕ) (verb : Verb) (s s' : Contents) (h : IsContents (space_in a) s) (h' : IsContents (space_in b) s')
      (left : IsLeft t act.transaction name verb (reading s) (reading s'))
      (change : List ℕ → Outcome × List ℕ) (is : (o : Option Object) → on t verb o ≡ on_blob change o) (wrote : WritesBody name s (view_in a) (view_in b)) where
    abbrev did : Did
    did = done_by (reading s) act.transaction name verb left.root left.bands

    abbrev left_of : Option Thing → Outcomes → Option Thing
    left_of th q = left_grown did verb (is_ok q.0) th q.1

    -- a blob stands there then, which has the bytes that the model says
    on_bytes : {x : BlobAt} (f : IsBlobAt name s x)
        → (b' : Blob) × (b'.bytes ≡ (change f.blob.bytes).1) × PutsBack (f.blob.bands ++ left.bands) found b'.bytes f.blob.bytes
    on_bytes {x} f =
        let under = blob_under f in
        let was : Option Thing = Some (thing_of x.root.0 (ABlob f.blob)) in
        let n = blob_named (space_in b) s' name h'
        (left.leaves.thing ∙ (ap (λ (th : Option Thing). left_of th (on t verb (plain th))) under ∙ ap (left_of was) (is (Some (AsBlob f.blob.bytes))))) in
        let f' = n.1 in
        let after : get (reading s').things name ≡ Some (thing_of x.root.0 (ABlob f'.blob)) =
        subst (λ (r : ℕ). get (reading s').things name ≡ Some (thing_of r (ABlob f'.blob))) n.2 (blob_under f') in
        let e = left_bytes s s' t act.transaction verb change is under after left in
        let back = blob_back f f' n.2 h h' (wrote x.root.0 f.at) left.bands e.1 in
        (f'.blob, e.0, subst (λ (cs : List Before). PutsBack (f.blob.bands ++ left.bands) cs f'.blob.bytes f.blob.bytes) (sym found_is) back)

    by_bytes : (P : Option Thing → Type 0) → P None → ((row : ArrayRow) (v : Around) → P (Some (There (AsArray row) v)))
        → ((es : Entries) (v : Around) → P (Some (There (AsTable es) v)))
        → ((x : BlobAt) (f : IsBlobAt name s x) (b' : Blob) → PutsBack (f.blob.bands ++ left.bands) found b'.bytes f.blob.bytes
        → b'.bytes ≡ (change f.blob.bytes).1 → P (get (reading s).things name))
        → P (get (reading s).things name)
    by_bytes P none array table blob = where_blob (space_in a) s name P h none array table (λ x f. let p = on_bytes f in blob x f p.0 p.2 p.1)

  -- THE BYTES THAT A VERB FOUND put back what there was
  pub verb_puts_back : (name : List ℕ) (verb : Verb) (reply : Reply) (Can : Contents → Type 0) (s s' : Contents)
      → IsContents (space_in a) s → Can s → IsContents (space_in b) s' → Wrote (view_in a) (view_in b) Can name verb (Ok reply)
      → (left : IsLeft t act.transaction name verb (reading s) (reading s'))
      → PutsBackOf t verb left.bands (found_by (map_bands_of z.pages z.bands) (changes_of (open_of act.transaction (tally b.engine.steps).opened)))
      (get (reading s).things name)
  verb_puts_back name (Write at bytes) reply Can s s' h can h' wrote left =
      by_bytes name (Write at bytes) s s' h h' left (write at bytes) (λ o. refl) (wrote.bands told s h can)
      (PutsBackOf t (Write at bytes) left.bands found) tt (λ row v. tt) (λ es v. tt)
      (λ x f b' puts is. write_puts_back t f left.bands found b' puts at bytes is)
  verb_puts_back name (Size n) reply Can s s' h can h' wrote left =
      by_bytes name (Size n) s s' h h' left (resize n) (λ o. refl) (wrote.bands told s h can)
      (PutsBackOf t (Size n) left.bands found) tt (λ row v. tt) (λ es v. tt) (λ x f b' puts is. size_puts_back t f left.bands found b' puts n is)
  verb_puts_back name (Paint at count code arg) reply Can s s' h can h' wrote left =
      by_bytes name (Paint at count code arg) s s' h h' left (paint t at count code arg) (λ o. refl) (wrote.bands told s h can)
      (PutsBackOf t (Paint at count code arg) left.bands found) tt (λ row v. tt) (λ es v. tt)
      (λ x f b' puts is. paint_puts_back t f left.bands found b' puts at count code arg is)
  verb_puts_back name (MakeArray size) reply Can s s' h can h' wrote left = tt
  verb_puts_back name MakeTable reply Can s s' h can h' wrote left = tt
  verb_puts_back name MakeBlob reply Can s s' h can h' wrote left = tt
  verb_puts_back name Discard reply Can s s' h can h' wrote left = tt
  verb_puts_back name (Push value) reply Can s s' h can h' wrote left = tt
  verb_puts_back name Pop reply Can s s' h can h' wrote left = tt
  verb_puts_back name (Set index value) reply Can s s' h can h' wrote left = tt
  verb_puts_back name (Get index) reply Can s s' h can h' wrote left = tt
  verb_puts_back name Len reply Can s s' h can h' wrote left = tt
  verb_puts_back name (Apply index code arg) reply Can s s' h can h' wrote left = tt
  verb_puts_back name (Put key value) reply Can s s' h can h' wrote left = tt
  verb_puts_back name (Del key) reply Can s s' h can h' wrote left = tt
  verb_puts_back name (Find key) reply Can s s' h can h' wrote left = tt
  verb_puts_back name Keys reply Can s s' h can h' wrote left = tt
  verb_puts_back name (Read at count) reply Can s s' h can h' wrote left = tt
