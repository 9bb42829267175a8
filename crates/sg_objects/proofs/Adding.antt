-- Making any object: its body stands, and then its row comes. And how many pages the catalogue takes.
use Rattle.std.proofs.Common.{◌≡◌, ℕ, suc, ◌+◌, ◌-◌, ◌/◌, ◌≤◌, max, List, [], ◌∷◌, length, Option, Some, None, Ok, refl, sym, ap, ◌∙◌, subst, arith, length-append}
use Rattle.std.specs.FinMap.{get}
use Rattle.sg_base.specs.Sheet.{Sheet}
use Rattle.sg_ops.specs.Table.{Table as Operations}
use Rattle.sg_catalog.specs.Calls as catalog
use Rattle.sg_catalog.specs.Calls.{IsAdded, IsOneMore, CanAdd, object}
use Rattle.sg_catalog.specs.Catalog.{Catalog, IsCatalog, rows, there}
use Rattle.sg_catalog.specs.declared.row.Entry.{Entry}
use Rattle.sg_catalog.specs.declared.row.ObjectKind.{ObjectKind}
use Rattle.sg_catalog.specs.declared.row.Row.{Row}
use Rattle.sg_model.specs.Step.{on}
use Rattle.sg_model.specs.Verb.{Verb, Reply}
use Rattle.sg_space.specs.Units.{Units}
use Rattle.sg_space.specs.View.{View, Space, Keeps}
use Rattle.sg_reading.specs.Reading.{Thing, plain, slot}
use Rattle.sg_reading.specs.Did.{slot_after}
use Rattle.sg_reading.specs.Back.Undoing.{WasMake}
use Rattle.sg_reading.specs.Noted.{noted}
use Rattle.sg_contents.specs.Standing.{Body, Contents, Holds, IsContents, map_bands}
use Rattle.sg_contents.specs.Changes.{with_body, BodyMade}
use Rattle.sg_contents.specs.Meaning.{reading, thing_of, pages_in, bands_in}
use Rattle.sg_contents.proofs.Counted.{counted_made}
use Rattle.sg_contents.proofs.Framing.{map_same, body_made, new_root}
use Rattle.sg_contents.proofs.Catalogued.{row_made, made_thing, made_others, made_tombs}
use Rattle.sg_objects.specs.Done.{IsDone, IsFresh, done_by}
use Rattle.sg_objects.specs.Needs.{needed, pages_alone, HasTaken}
use Rattle.sg_objects.specs.Notes.{note_bytes}
use Rattle.sg_objects.proofs.Bodies.{noted_some}
use Rattle.sg_objects.proofs.Fresh.{fresh_catalog}
use Rattle.sg_objects.proofs.Refused.{nothing_under}

pub kept_same : {old new : Space} {c c' : Catalog} → catalog.Turns old new c c' → map_bands new ≡ map_bands old
kept_same {old} {new} t = map_same old new (t.pages).all (ap (λ (u : Units (List ℕ)). u.count) t.bands)

-- one row more wants at most one page more
pub row_more : {row : Row} {xs ys : List Row} → IsOneMore row xs ys → length ys ≡ length xs + 1
row_more {row} {xs} {ys} m =
    let a : length ys ≡ length m.front + suc (length m.back) = ap (λ (zs : List Row). length zs) m.more_is ∙ length-append m.front (row ∷ m.back) in
    let b : length xs ≡ length m.front + length m.back = ap (λ (zs : List Row). length zs) m.less_is ∙ length-append m.front m.back in
    omega arith

pages_more : (p p' r n n' : ℕ) → r ≤ p → n ≡ 1 + (p - 1) / 79 → p' ≡ max p (r + 1) → n' ≡ 1 + (p' - 1) / 79 → n' ≤ n + 1
pages_more p p' r n n' below had e has =
    let most : p' ≤ p + 1 = omega (arith, e, below) in
    omega arith

pub catalog_more : {at at' : ℕ → Option Sheet} {row : Row} {c c' : Catalog} → IsCatalog at c → IsCatalog at' c' → IsAdded row c c' → length c'.pages ≤ length c.pages + 1
catalog_more {c = c} {c' = c'} h h' a = pages_more c.peak c'.peak (length (rows c)) (length c.pages) (length c'.pages) h.below_peak h.exactly (a.peak ∙ ap (λ (n : ℕ). max c.peak n) (row_more a.rows_are)) h'.exactly

-- what is taken of one after another
pub two_taken : {old mid new : Space} {b : Body} {root : ℕ} {kind : ObjectKind} {c c' : Catalog} (n : ℕ) → BodyMade old mid kind root b → catalog.Turns mid new c c' → length c'.pages ≤ length c.pages + 1 → pages_in b + 1 ≤ n → bands_in b ≡ 0 → HasTaken (pages_alone n) old new
two_taken {old} {mid} {new} {b} {root} {kind} {c} {c'} n m t more few none =
    let one = (m.pages).exactly in
    let two = (t.pages).exactly in
    let three = (m.bands).exactly in
    let four : new.bands.free ≡ mid.bands.free = ap (λ (u : Units (List ℕ)). u.free) t.bands in
    record { pages = omega (arith, one, two, more, few); bands = omega (arith, three, four, none) }

-- AN OBJECT WAS MADE
pub object_made : {old mid new : Space} {s : Contents} {c : Catalog} {b : Body} (t : Operations) (by : ℕ) (name : List ℕ) (verb : Verb) (reply : Reply) (note : List ℕ) (entry : Entry) (n : ℕ) → IsContents old s → there name (rows s.catalog) ≡ None → BodyMade old mid entry.kind entry.root.0 b → catalog.Turns mid new s.catalog c → IsAdded (object name entry) s.catalog c → (on t verb (plain (get (reading s).things name))).0 ≡ Ok reply → (slot_after t (done_by (reading s) by name verb entry.root.0 []) verb (slot (reading s) name)).thing ≡ Some (thing_of entry.root.0 b) → ((r : ℕ) → (slot_after t (done_by (reading s) by name verb entry.root.0 []) verb (slot (reading s) name)).buried r ≡ get (reading s).tombs (r ∷ name)) → needed verb None ≡ pages_alone n → pages_in b + 1 ≤ n → bands_in b ≡ 0 → note ≡ note_bytes name WasMake → IsDone t by name verb (Ok reply) note old new s (record { catalog = c; body = (with_body entry.root.0 b s).body })
object_made {old} {mid} {new} {s} {c} {b} t by name verb reply note entry n h none m turns a is left buried needs few bands noted_is =
    let row = object name entry in
    let under = nothing_under s name none in
    let same : map_bands new ≡ map_bands old = kept_same turns ∙ map_same old mid (m.pages).all (m.bands).all in
    record {
      contents = subst (λ (k : ℕ). Holds k new (record { catalog = c; body = (with_body entry.root.0 b s).body }) (rows c)) (sym same) (row_made {row = row} h m turns a);
      outcome_is = is;
      effect = record {
        root = entry.root.0;
        bands = [];
        none = λ z. refl;
        leaves = record {
          thing = made_thing {row = row} h m turns a ∙ sym left;
          things = made_others {row = row} h m turns a;
          tomb = λ r. made_tombs {row = row} h m turns a refl r name ∙ sym (buried r);
          tombs = λ r other ne. made_tombs {row = row} h m turns a refl r other;
        };
      };
      note_is = noted_is ∙ ap (λ (x : Option Thing). note_bytes name (noted verb x)) (sym under);
      alone = λ e. absurd (noted_some name WasMake tt noted_is e);
      counted = λ was. counted_made {row = row} (λ x among. new_root row b h m x among) was m turns a.rows_are;
      peak = a.peak;
      taken = subst (λ (x : Option Thing). HasTaken (needed verb x) old new) (sym under) (subst (λ k. HasTaken k old new) (sym needs) (two_taken n m turns (catalog_more h.catalog turns.catalog a) few bands));
    }

-- once its body stands, the name may be given
pub may_add : {v w : View} {s : Contents} {name : List ℕ} {kind : ObjectKind} {root : ℕ} (b : Body) → there name (rows s.catalog) ≡ None → IsContents v.space s → IsFresh v → Keeps v w → BodyMade v.space w.space kind root b → 1 ≤ w.space.pages.free → IsCatalog w.space.pages.at s.catalog × CanAdd w name s.catalog
may_add {v} {w} {s} {name} {kind} {root} b none h fresh keeps m free =
    let row = object name (record { kind = kind; root = record { 0 = root } }) in
    let holds = body_made row b h m in (
      holds.catalog,
      record {
        absent = none;
        grow = record {
          may_fill = λ p owned n le. keeps.may_have p n (fresh_catalog fresh h p owned n le);
          free = λ full. record { some = free; may = keeps.may_take fresh.may_take };
        };
      },
    )
