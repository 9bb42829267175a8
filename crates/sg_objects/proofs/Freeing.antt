-- What frees bodies, and what was dropped.
use Rattle.std.proofs.Common.{◌≡◌, ℕ, suc, ◌+◌, ◌==◌, ◌&&◌, Bool, true, false, cond, List, [], ◌∷◌, length, Option, Some, None, option_map, is_some, IsSome, refl, sym, ap, ◌∙◌, subst, inl, inr, arith, length-append}
use Rattle.std.specs.Prelude.{option_and_then}
use Rattle.std.specs.List.{find}
use Rattle.std.proofs.lemmas.Bool.{eqb-true, eq-eqb}
use Rattle.sg_base.specs.declared.numbers.TxnId.{TxnId}
use Rattle.sg_catalog.specs.Calls as catalog
use Rattle.sg_catalog.specs.Calls.{IsForgotten, IsOneMore, HasOne}
use Rattle.sg_catalog.specs.Catalog.{Catalog, rows, buried, is_buried, is_by, is_tomb, is_tomb_at, is_tomb_of}
use Rattle.sg_catalog.specs.Row.{entry_of}
use Rattle.sg_catalog.specs.declared.row.Entry.{Entry}
use Rattle.sg_catalog.specs.declared.row.ObjectKind.{ObjectKind}
use Rattle.sg_catalog.specs.declared.row.Row.{Row}
use Rattle.sg_catalog.proofs.Lists.{found_passes}
use Rattle.sg_space.specs.View.{View, Space, OnlyReads}
use Rattle.sg_array.specs.Calls as array
use Rattle.sg_hash.specs.Calls as table
use Rattle.sg_blob.specs.Calls as blob
use Rattle.sg_catalog.specs.declared.row.ObjectKind.TheVariants as kinds
use Rattle.sg_contents.specs.Standing.{Body, Contents, Holds, IsContents, IsBody, IsAmong, map_bands}
use Rattle.sg_contents.specs.Changes.{BodyGone}
use Rattle.sg_contents.specs.Meaning.{reading, thing_at}
use Rattle.sg_contents.proofs.Among.{found_among, one_at}
use Rattle.sg_contents.proofs.Catalogued.{within_less}
use Rattle.sg_contents.proofs.Counted.{counted_unmade}
use Rattle.sg_contents.proofs.Finding.{and_right, tomb_root, tomb_name, own_passes, tomb_gone}
use Rattle.sg_contents.proofs.Framing.{catalog_turned, holds_within, body_gone, map_same}
use Rattle.sg_contents.proofs.Reading.{get_thing, get_tomb, tomb_in}
use Rattle.sg_objects.specs.Freed.{HasFreed, FreesBody}
use Rattle.sg_objects.proofs.Blobbed.{blob_body}
use Rattle.sg_objects.proofs.Located.{array_body}
use Rattle.sg_objects.proofs.Tables.{table_body}
use Rattle.sg_objects.proofs.Unmaking.{table_gone, blob_gone}
use Rattle.sg_objects.proofs.Making.{entry_found}
use Rattle.sg_objects.proofs.Raising.{catalog_kept, array_gone}

catalog_peak : (s : Contents) (c : Catalog) → c.peak ≡ s.catalog.peak → (reading (record s { catalog = c })).peak ≡ (reading s).peak
unfolding reading
catalog_peak s c e = e

-- A BODY IS FREED, by its kind
pub array_frees : {v w : View} {kind : ObjectKind} {root : ℕ} → kind ≡ kinds.Array → array.Gone v w root → FreesBody v w kind root
array_frees {v} {w} {kind} {root} is g = record {
  told = g.told;
  gone = λ told b h. (let x = array_body v.space root b (subst (λ (k : ObjectKind). IsBody v.space k root b) is h) in subst (λ (y : Body). BodyGone v.space w.space root y) (sym x.1) (array_gone (g.gone told x.0 x.2)));
}

pub table_frees : {v w : View} {kind : ObjectKind} {root : ℕ} → kind ≡ kinds.Table → table.Gone v w root → FreesBody v w kind root
table_frees {v} {w} {kind} {root} is g = record {
  told = g.told;
  gone = λ told b h. (let x = table_body v.space root b (subst (λ (k : ObjectKind). IsBody v.space k root b) is h) in subst (λ (y : Body). BodyGone v.space w.space root y) (sym x.1) (table_gone (g.gone told x.0 (x.2).table)));
}

pub blob_frees : {v w : View} {kind : ObjectKind} {root : ℕ} → kind ≡ kinds.Blob → blob.Gone v w root → FreesBody v w kind root
blob_frees {v} {w} {kind} {root} is g = record {
  told = g.told;
  gone = λ told b h. (let x = blob_body v.space root b (subst (λ (k : ObjectKind). IsBody v.space k root b) is h) in subst (λ (y : Body). BodyGone v.space w.space root y) (sym x.1) (blob_gone (g.gone told x.0 x.2)));
}

-- WHAT WAS FOUND BURIED
pub record WasBuried (by : Option TxnId) (s : Contents) (entry : Entry) : Type 0 where
  pub row : Row
  pub found : buried by (rows s.catalog) ≡ Some row
  pub entry_is : entry ≡ entry_of row

pub was_buried : (by : Option TxnId) (s : Contents) (entry : Entry) → Some entry ≡ option_map entry_of (buried by (rows s.catalog)) → WasBuried by s entry
was_buried by s entry e = let f = entry_found (buried by (rows s.catalog)) entry e in record { row = f.0; found = f.1; entry_is = f.2 }

dropped : (d : Option TxnId) (by : TxnId) → is_by d by ≡ true → is_some d ≡ true
dropped None by e = absurd (cc)
dropped (Some x) by e = refl

tomb_of_buried : (by : Option TxnId) (row : Row) → is_buried by row ≡ true → is_tomb row ≡ true
tomb_of_buried None row e = e
tomb_of_buried (Some by) row e = dropped row.dropper by e

found_some : (p : Row → Bool) (xs : List Row) (row : Row) → IsAmong xs row → p row ≡ true → IsSome (find p xs)
found_some p [] row a e = absurd a
found_some p (x ∷ xs) row (inl same) e = subst (λ (b : Bool). IsSome (cond b (Some x) (find p xs))) (sym (ap p (sym same) ∙ e)) refl
found_some p (x ∷ xs) row (inr more) e = go (p x) (found_some p xs row more e)
  where
    go : (b : Bool) → IsSome (find p xs) → IsSome (cond b (Some x) (find p xs))
    go true h = refl
    go false h = h

and_true : (a b : Bool) → a ≡ true → b ≡ true → (a && b) ≡ true
and_true true b e f = f
and_true false b e f = absurd (cc)

module _ {by : Option TxnId} {s : Contents} {entry : Entry} (w : WasBuried by s entry) where
  row_among : IsAmong (rows s.catalog) w.row
  row_among = found_among (is_buried by) (rows s.catalog) w.row w.found

  row_tomb : is_tomb w.row ≡ true
  row_tomb = tomb_of_buried by w.row (found_passes (is_buried by) (rows s.catalog) w.row w.found)

  root_is : entry.root.0 ≡ w.row.root.0
  root_is = ap (λ (e : Entry). e.root.0) w.entry_is

  at_root : is_tomb_at entry.root.0 w.row ≡ true
  at_root = and_true (is_tomb w.row) (w.row.root.0 == entry.root.0) row_tomb (eq-eqb w.row.root.0 entry.root.0 (sym root_is))

  pub can_forget : HasOne (is_tomb_at entry.root.0) s.catalog
  can_forget = found_some (is_tomb_at entry.root.0) (rows s.catalog) w.row row_among at_root

  -- it is the one that is forgotten
  pub same_row : {old : Space} {c : Catalog} → IsContents old s → (a : IsForgotten entry.root.0 s.catalog c) → a.change.row ≡ w.row
  same_row h a =
      let passed = found_passes (is_tomb_at entry.root.0) (rows s.catalog) a.change.row a.change.was in
      one_at (rows s.catalog) a.change.row w.row h.once (found_among (is_tomb_at entry.root.0) (rows s.catalog) a.change.row a.change.was) row_among
      (eqb-true a.change.row.root.0 entry.root.0 (and_right (is_tomb a.change.row) (a.change.row.root.0 == entry.root.0) passed) ∙ root_is)

  -- its row has gone, and its body stands there still
  pub body_stands : {old mid : Space} {c : Catalog} → IsContents old s → catalog.Turns old mid s.catalog c → (a : IsForgotten entry.root.0 s.catalog c) → Holds (map_bands old) mid (record s { catalog = c }) (w.row ∷ rows c)
  body_stands {old} {mid} {c} h t a = subst (λ (r : Row). Holds (map_bands old) mid (record s { catalog = c }) (r ∷ rows c)) (same_row h a) (holds_within (catalog_turned h t) (within_less a.change.rows_are))

  pub body_kept : {old mid : Space} {c : Catalog} → IsContents old s → catalog.Turns old mid s.catalog c → IsForgotten entry.root.0 s.catalog c → IsBody mid entry.kind entry.root.0 (s.body entry.root.0)
  body_kept {old} {mid} h t a = subst (λ (e : Entry). IsBody mid e.kind e.root.0 (s.body e.root.0)) (sym w.entry_is) ((body_stands h t a).body w.row (inl refl))

  -- FREED
  pub freed_done : {old mid new : Space} {c : Catalog} → IsContents old s → catalog.Turns old mid s.catalog c → IsForgotten entry.root.0 s.catalog c → BodyGone mid new entry.root.0 (s.body entry.root.0) → HasFreed by old new s (record s { catalog = c })
  freed_done {old} {mid} {new} {c} h t a g =
      let row = w.row in
      let gone : BodyGone mid new row.root.0 (s.body row.root.0) = subst (λ (r : ℕ). BodyGone mid new r (s.body r)) root_is g in
      let less : IsOneMore row (rows c) (rows s.catalog) = subst (λ (r : Row). IsOneMore r (rows c) (rows s.catalog)) (same_row h a) a.change.rows_are in
      let now : Contents = record s { catalog = c } in
      record {
        row = row;
        found = w.found;
        contents = subst (λ (k : ℕ). Holds k new now (rows c)) (sym (map_same mid new (gone.pages).all (gone.bands).all ∙ catalog_kept t)) (body_gone row (body_stands h t a) gone);
        forgets = record {
          things = λ other. get_thing now other ∙ (ap (option_map (thing_at s.body)) (a.map other) ∙ sym (get_thing s other));
          gone = get_tomb now row.root.0 row.name ∙ (ap (option_and_then (tomb_in s.body)) (tomb_gone row.name row.root.0 less h.once)
              ∙ ap (λ (b : Bool). option_and_then (tomb_in s.body) (cond b None (find (is_tomb_of row.name row.root.0) (rows s.catalog)))) (own_passes row row_tomb));
          tombs = λ r other far. get_tomb now r other ∙ (ap (option_and_then (tomb_in s.body)) (tomb_gone other r less h.once)
              ∙ (ap (λ (b : Bool). option_and_then (tomb_in s.body) (cond b None (find (is_tomb_of other r) (rows s.catalog)))) (not_it r other (is_tomb_of other r row) refl far) ∙ sym (get_tomb s r other)));
          peak = catalog_peak s c a.change.peak;
        };
        counted = λ was. counted_unmade was t less gone;
        fewer = one_less a.tombs_are;
        took = (let e = (t.pages).exactly in let f = (gone.pages).exactly in let k = ap (λ (ps : List ℕ). length ps) a.change.pages in omega (arith, e, f, k));
      }
    where
      not_it : (r : ℕ) (other : List ℕ) (b : Bool) → is_tomb_of other r w.row ≡ b → ((r ≡ w.row.root.0) × (other ≡ w.row.name) → ⊥) → is_tomb_of other r w.row ≡ false
      not_it r other true e far = absurd (far (sym (tomb_root other r w.row e), sym (tomb_name other r w.row e)))
      not_it r other false e far = e

      one_less : {x : Row} {xs ys : List Row} → IsOneMore x xs ys → length ys ≡ length xs + 1
      one_less {x} {xs} {ys} m =
          let p : length ys ≡ length m.front + suc (length m.back) = ap (λ (zs : List Row). length zs) m.more_is ∙ length-append m.front (x ∷ m.back) in
          let q : length xs ≡ length m.front + length m.back = ap (λ (zs : List Row). length zs) m.less_is ∙ length-append m.front m.back in
          omega arith

-- the calls before only read
pub freed_from : {v w : View} {new : Space} {s s' : Contents} {by : Option TxnId} → OnlyReads v w → v.Shows → HasFreed by w.space new s s' → HasFreed by v.space new s s'
freed_from {new = new} {s = s} {s' = s'} {by = by} k shows d = subst (λ (x : Space). HasFreed by x new s s') (k.same shows) d
