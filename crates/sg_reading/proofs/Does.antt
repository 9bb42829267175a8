-- What a verb's top-end owes to the log.
use Rattle.std.proofs.Common.{◌≡◌, ℕ, Bool, true, false, cond, not, List, [], ◌∷◌, map, Some, None, Ok, refl, sym, ap, ◌∙◌, subst}
use Rattle.std.specs.Prelude.{◌||◌, ◌&&◌}
use Rattle.std.specs.List.{list_any}
use Rattle.std.specs.Str.{bytes_eq}
use Rattle.sg_serial.specs.Machine.{any_touch}
use Rattle.sg_serial.specs.Locks.{Touch, writes}
use Rattle.sg_ops.specs.Table.{Table as Operations}
use Rattle.sg_model.specs.Verb.{Verb, Reply}
use Rattle.sg_model.specs.Verb.Op.{On}
use Rattle.sg_model.specs.Step.{on}
use Rattle.sg_model.specs.Touches.{Part, Cell, Region, Resource, covers, reach_of, touch_of, touches}
use Rattle.sg_model.specs.Touches.Region.{Just, EachKey, Everything}
use Rattle.sg_model.specs.Touches.Resource.{Of, Names}
use Rattle.sg_model.proofs.Parts.{writes_part, bytes_self, bytes_same}
use Rattle.sg_model.proofs.Footprint.{any_write, both_true}
use Rattle.sg_model.proofs.Meeting.{part_self}
use Rattle.sg_recovery.specs.Cells.{After, setting_of}
use Rattle.sg_recovery.specs.Runs.{DoesVerb}
use Rattle.sg_recovery.proofs.Basic.{true_or_false}
use Rattle.sg_reading.specs.Reading.{Reading, plain, objects, Slot, slot, shown, at, Le}
use Rattle.sg_reading.specs.Back.{Undoing, UndoNote, raises, with_thing, without_tomb, put_back, unstep, note_touches, below_region, below, inside}
use Rattle.sg_reading.specs.Did.{Did, slot_after, result_of}
use Rattle.sg_reading.specs.Model.{Ground, model_cells}
use Rattle.sg_reading.specs.Noted.{BringsBytes, noted, PutsBackOf, IsFormedSlot, AreUndone}
use Rattle.sg_reading.proofs.Notes.{never, after}
use Rattle.sg_reading.proofs.Whole.{le_of}
use Rattle.sg_reading.proofs.Slotted.{slot_put}
use Rattle.sg_reading.proofs.Laws.{touches_at}
use Rattle.sg_reading.proofs.Undone.{TakesBack, verb_undone}

-- a set of cells is inside itself

region_self : (r : Region) → below_region r r ≡ true
region_self (Just p) = part_self p
region_self EachKey = refl
region_self Everything = refl

below_self : (a : Resource) → below a a ≡ true
below_self (Of n r) = both_true (bytes_eq n n) (below_region r r) (bytes_self n) (region_self r)
below_self Names = refl

or_more : (w a b : Bool) → (w || b) ≡ true → (w || (a || b)) ≡ true
or_more true a b h = refl
or_more false true b h = refl
or_more false false b h = h

inside_more : (xs : List (Touch Resource)) (y : Touch Resource) (ys : List (Touch Resource)) → inside xs ys ≡ true → inside xs (y ∷ ys) ≡ true
inside_more [] y ys h = refl
inside_more (x ∷ xs) y ys h = both_true (not x.write || list_any (λ z. z.write && below x.what z.what) (y ∷ ys)) (inside xs (y ∷ ys))
    (or_more (not x.write) (y.write && below x.what y.what) (list_any (λ z. z.write && below x.what z.what) ys) (first (not x.write || list_any (λ z. z.write && below x.what z.what) ys) (inside xs ys) h))
    (inside_more xs y ys (second (not x.write || list_any (λ z. z.write && below x.what z.what) ys) (inside xs ys) h))
  where
    first : (a b : Bool) → (a && b) ≡ true → a ≡ true
    first true b h = refl
    first false b h = h

    second : (a b : Bool) → (a && b) ≡ true → b ≡ true
    second true b h = h
    second false b h = never h

pub inside_self : (xs : List (Touch Resource)) → inside xs xs ≡ true
inside_self [] = refl
inside_self (x ∷ xs) = both_true (not x.write || list_any (λ z. z.write && below x.what z.what) (x ∷ xs)) (inside xs (x ∷ xs)) (by_write x.write (below x.what x.what) (list_any (λ z. z.write && below x.what z.what) xs) (below_self x.what)) (inside_more xs x xs (inside_self xs))
  where
    by_write : (w s r : Bool) → s ≡ true → (not w || ((w && s) || r)) ≡ true
    by_write false s r h = refl
    by_write true true r h = refl
    by_write true false r h = never h

module _ (t : Operations) (law : AreUndone t) (g : Ground) (d : Did) (n : List ℕ) (verb : Verb) (op : d.op ≡ On n verb) (old now : Reading) (did : After (model_cells t g) d old now)
    (r : Reply) (bytes : BringsBytes verb) (formed : IsFormedSlot (slot old n)) (said : (on t verb (plain (slot old n).thing)).0 ≡ Ok r) (changes : noted verb (slot old n).thing ≡ Undoing.WasNothing → ⊥)
    (ks : List g.C) (puts : PutsBackOf t verb d.bands (g.befores ks) (slot old n).thing) where
  abbrev pub note : UndoNote
  note = record { name = n; undoes = noted verb (slot old n).thing }

  are : d.touches ≡ map (touch_of n) (reach_of verb (plain (slot old n).thing))
  are = sym did.0 ∙ (ap (λ p. touches (objects old) p) op ∙ touches_at t old n verb)

  writes_are : (c : Cell) → any_touch (writes covers) d.touches c ≡ (bytes_eq n c.name && any_touch writes_part (reach_of verb (plain (slot old n).thing)) c.part)
  writes_are c = ap (λ ts. any_touch (writes covers) ts c) are ∙ any_write n (reach_of verb (plain (slot old n).thing)) c

  here : (q : Part) → any_touch (writes covers) d.touches (record { name = n; part = q }) ≡ any_touch writes_part (reach_of verb (plain (slot old n).thing)) q
  here q = writes_are (record { name = n; part = q }) ∙ ap (λ b. b && any_touch writes_part (reach_of verb (plain (slot old n).thing)) q) (bytes_self n)

  taken : TakesBack t verb (noted verb (slot old n).thing) (g.befores ks) (slot old n) (slot now n)
  taken = verb_undone t law d verb (g.befores ks) (slot old n) (slot now n) r bytes formed said changes puts
      (λ q w. did.1 (record { name = n; part = q }) (here q ∙ w)
      ∙ (ap (λ p. result_of t d p old (record { name = n; part = q })) op ∙ ap (λ b. shown (cond b (slot_after t d verb (slot old n)) (slot old n)) q) (bytes_self n)))
      (λ q z. did.2 (record { name = n; part = q }) (here q ∙ z))

  pub undone : Reading
  undone = with_thing (without_tomb now n (raises (noted verb (slot old n).thing))) n taken.thing

  pub is_undone : unstep t now note (g.befores ks) ≡ Some undone
  unfolding undone
  is_undone = ap (λ x. put_back now note x) taken.is

  -- the note touches what the verb touched
  pub at_place : note_touches now note ≡ d.touches
  at_place = ap (λ rs. map (touch_of n) rs) taken.reach ∙ sym are

  pub above : (c : Cell) → Le c.part (at old c) (at undone c)
  unfolding undone
  above c = true_or_false (bytes_eq n c.name) (Le c.part (at old c) (at undone c))
      (λ e. subst (λ m. Le c.part (shown (slot old m) c.part) (at undone c)) (bytes_same n c.name e)
      (subst (λ x. Le c.part (shown (slot old n) c.part) x) (sym (is_at ∙ ap (λ b. shown (cond b there (slot now c.name)) c.part) e)) (taken.le c.part)))
      (λ e. le_of c.part (at old c) (at undone c)
      (sym (did.2 c (writes_are c ∙ ap (λ b. b && any_touch writes_part (reach_of verb (plain (slot old n).thing)) c.part) e)) ∙ sym (is_at ∙ ap (λ b. shown (cond b there (slot now c.name)) c.part) e)))
    where
      there : Slot
      there = after (raises (noted verb (slot old n).thing)) (slot now n) taken.thing

      is_at : at undone c ≡ shown (cond (bytes_eq n c.name) there (slot now c.name)) c.part
      is_at = ap (λ s. shown s c.part) (slot_put now n (raises (noted verb (slot old n).thing)) taken.thing c.name)

  -- WHAT THE TOP-END OF A VERB OWES, at the place of the verb's touches
  pub does_verb : (x : g.X) → g.reading x ≡ Some now → (l by undo : ℕ)
      → DoesVerb (setting_of (model_cells t g)) d (record { lsn = l; transaction = by; undo_next = undo; note = note; changes = ks; place = d.touches }) x old
  does_verb x reads l by undo = record {
    now = now;
    back = undone;
    reads = reads;
    after = did;
    undone = ap (λ b. cond b (unstep t now note (g.befores ks)) None) (ap (λ ts. inside ts d.touches) at_place ∙ inside_self d.touches) ∙ is_undone;
    above = above;
    writes = λ c h. h;
  }
