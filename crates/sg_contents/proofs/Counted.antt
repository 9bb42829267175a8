-- THE COUNTS: what isn't free is what the contents have, after each change too.
use Rattle.std.proofs.Common.{◌≡◌, ◌≢◌, ℕ, ◌+◌, ◌≤◌, ◌==◌, inl, inr, Bool, cond, List, [], ◌∷◌, ◌++◌, refl, sym, ap, ◌∙◌, arith}
use Rattle.std.specs.List.{count_by, sum_by}
use Rattle.std.proofs.lemmas.List.Sums.{sum_by-cons, sum_by-append}
use Rattle.sg_space.specs.Units.{Units}
use Rattle.sg_space.specs.View.{Space}
use Rattle.sg_catalog.specs.Calls as catalog
use Rattle.sg_catalog.specs.Calls.{IsOneMore, IsInPlace}
use Rattle.sg_catalog.specs.Catalog.{Catalog, rows}
use Rattle.sg_catalog.specs.declared.row.Row.{Row}
use Rattle.sg_contents.specs.Standing.{Body, Contents, IsAmong, is_at}
use Rattle.sg_contents.specs.Changes.{with_body, BodyTurns, BodyMade, BodyGone}
use Rattle.sg_contents.specs.Meaning.{pages_in, bands_in, IsCounted}
use Rattle.sg_contents.proofs.Among.{eq_self, counted}
use Rattle.sg_contents.proofs.Framing.{body_here, body_there, map_same}

-- a measure of the bodies of some rows
abbrev pub total : (m : Body → ℕ) → (ℕ → Body) → List Row → ℕ
total m body xs = sum_by (λ (row : Row). m (body row.root.0)) xs

module _ (m : Body → ℕ) where
  total_cons : (body : ℕ → Body) (x : Row) (xs : List Row) → total m body (x ∷ xs) ≡ m (body x.root.0) + total m body xs
  total_cons body x xs = sum_by-cons (λ (row : Row). m (body row.root.0)) x xs

  total_at : (body : ℕ → Body) (front back : List Row) (row : Row) → total m body (front ++ (row ∷ back)) ≡ m (body row.root.0) + (total m body front + total m body back)
  total_at body front back row =
      let a = sum_by-append (λ (r : Row). m (body r.root.0)) front (row ∷ back) in
      let b = total_cons body row back in
      omega arith

  -- one row more
  pub total_more : (body : ℕ → Body) {row : Row} {xs ys : List Row} → IsOneMore row xs ys → total m body ys ≡ m (body row.root.0) + total m body xs
  total_more body {row} {xs} {ys} h =
      let a : total m body ys ≡ m (body row.root.0) + (total m body h.front + total m body h.back) = ap (total m body) h.more_is ∙ total_at body h.front h.back row in
      let b : total m body xs ≡ total m body h.front + total m body h.back = ap (total m body) h.less_is ∙ sum_by-append (λ (r : Row). m (body r.root.0)) h.front h.back in
      omega arith

  -- a row in the place of another one that names the same root
  pub total_place : (body : ℕ → Body) {was now : Row} {xs ys : List Row} → IsInPlace was now xs ys → was.root.0 ≡ now.root.0 → total m body ys ≡ total m body xs
  total_place body {was} {now} {xs} {ys} h same =
      let a : total m body ys ≡ m (body now.root.0) + (total m body h.front + total m body h.back) = ap (total m body) h.after_is ∙ total_at body h.front h.back now in
      let b : total m body xs ≡ m (body was.root.0) + (total m body h.front + total m body h.back) = ap (total m body) h.before_is ∙ total_at body h.front h.back was in
      let c : m (body was.root.0) ≡ m (body now.root.0) = ap (λ (r : ℕ). m (body r)) same in
      omega arith

  -- another body at a root that none of them names
  pub total_far : (root : ℕ) (b : Body) (s : Contents) (xs : List Row) → ((x : Row) → IsAmong xs x → x.root.0 ≢ root) → total m (with_body root b s).body xs ≡ total m s.body xs
  total_far root b s [] far = refl
  total_far root b s (x ∷ xs) far =
      let one = total_cons (with_body root b s).body x xs in
      let two = total_cons s.body x xs in
      let here : m ((with_body root b s).body x.root.0) ≡ m (s.body x.root.0) = ap m (body_there root b s x.root.0 (far x (inl refl))) in
      let rest = total_far root b s xs (λ y a. far y (inr a)) in
      omega arith

  alone : (root : ℕ) (x : Row) (xs : List Row) → count_by (is_at root) (x ∷ xs) ≤ 1 → x.root.0 ≡ root → (y : Row) → IsAmong xs y → y.root.0 ≢ root
  alone root x xs once here y a e =
      let sum : count_by (is_at root) (x ∷ xs) ≡ cond {A = ℕ} (is_at root x) 1 0 + count_by (is_at root) xs = sum_by-cons (λ (r : Row). cond {A = ℕ} (is_at root r) 1 0) x xs in
      let one : cond {A = ℕ} (is_at root x) 1 0 ≡ 1 = ap (λ (t : Bool). cond {A = ℕ} t 1 0) (ap (λ (n : ℕ). n == root) here ∙ eq_self root) in
      let more = counted (is_at root) xs y a (ap (λ (n : ℕ). n == root) e ∙ eq_self root) in
      omega arith

  -- another body at the root of one of them
  pub total_turned : (b : Body) (s : Contents) (xs : List Row) (row : Row) → IsAmong xs row → ((root : ℕ) → count_by (is_at root) xs ≤ 1) → total m (with_body row.root.0 b s).body xs + m (s.body row.root.0) ≡ total m s.body xs + m b
  total_turned b s [] row a once = absurd a
  total_turned b s (x ∷ xs) row (inl e) once =
      let root = row.root.0 in
      let at : x.root.0 ≡ row.root.0 = ap (λ (r : Row). r.root.0) (sym e) in
      let one = total_cons (with_body root b s).body x xs in
      let two = total_cons s.body x xs in
      let here : m ((with_body root b s).body x.root.0) ≡ m b = ap m (body_here root b s x.root.0 at) in
      let was : m (s.body x.root.0) ≡ m (s.body row.root.0) = ap (λ (r : ℕ). m (s.body r)) at in
      let rest = total_far root b s xs (alone root x xs (once root) at) in
      omega arith
  total_turned b s (x ∷ xs) row (inr a) once =
      let root = row.root.0 in
      let one = total_cons (with_body root b s).body x xs in
      let two = total_cons s.body x xs in
      let far : x.root.0 ≢ root = λ e. alone root x xs (once root) e row a refl in
      let here : m ((with_body root b s).body x.root.0) ≡ m (s.body x.root.0) = ap m (body_there root b s x.root.0 far) in
      let rest = total_turned b s xs row a (λ r. (let sum : count_by (is_at r) (x ∷ xs) ≡ cond {A = ℕ} (is_at r x) 1 0 + count_by (is_at r) xs = sum_by-cons (λ (y : Row). cond {A = ℕ} (is_at r y) 1 0) x xs in let most = once r in omega arith)) in
      omega arith

-- ONE BODY TURNED
pub counted_turned : {old new : Space} {s : Contents} (row : Row) (b' : Body) → IsAmong (rows s.catalog) row → ((root : ℕ) → count_by (is_at root) (rows s.catalog) ≤ 1) → IsCounted old s → BodyTurns old new row.kind row.root.0 (s.body row.root.0) b' → IsCounted new (with_body row.root.0 b' s)
counted_turned {old} {new} {s} row b' among once h t = record {
  pages =
      let sum = total_turned pages_in b' s (rows s.catalog) row among once in
      let before = h.pages in
      let exactly = (t.pages).exactly in
      let all = (t.pages).all in
      omega arith;
  bands =
      let sum = total_turned bands_in b' s (rows s.catalog) row among once in
      let before = h.bands in
      let exactly = (t.bands).exactly in
      let all = (t.bands).all in
      let same = map_same old new (t.pages).all (t.bands).all in
      omega arith;
}

-- THE CATALOGUE TURNED, and its rows name the same roots
pub counted_place : {old new : Space} {s : Contents} {c : Catalog} {was now : Row} → IsCounted old s → catalog.Turns old new s.catalog c → IsInPlace was now (rows s.catalog) (rows c) → was.root.0 ≡ now.root.0 → IsCounted new (record s { catalog = c })
counted_place {old} {new} {s} {c} h t place same = record {
  pages =
      let sum = total_place pages_in s.body place same in
      let before = h.pages in
      let exactly = (t.pages).exactly in
      let all = (t.pages).all in
      omega arith;
  bands =
      let sum = total_place bands_in s.body place same in
      let before = h.bands in
      let free : new.bands.free ≡ old.bands.free = ap (λ (u : Units (List ℕ)). u.free) t.bands in
      let all : new.bands.count ≡ old.bands.count = ap (λ (u : Units (List ℕ)). u.count) t.bands in
      let kept = map_same old new (t.pages).all all in
      omega arith;
}

-- A BODY WAS MADE, AND THEN ITS ROW
pub counted_made : {old mid new : Space} {s : Contents} {row : Row} {b : Body} {c : Catalog} → ((x : Row) → IsAmong (rows s.catalog) x → x.root.0 ≢ row.root.0) → IsCounted old s → BodyMade old mid row.kind row.root.0 b → catalog.Turns mid new s.catalog c → IsOneMore row (rows s.catalog) (rows c) → IsCounted new (record { catalog = c; body = (with_body row.root.0 b s).body })
counted_made {old} {mid} {new} {s} {row} {b} {c} far h m t more = record {
  pages =
      let sum = total_more pages_in (with_body row.root.0 b s).body more in
      let rest = total_far pages_in row.root.0 b s (rows s.catalog) far in
      let here : pages_in ((with_body row.root.0 b s).body row.root.0) ≡ pages_in b = ap pages_in (body_here row.root.0 b s row.root.0 refl) in
      let before = h.pages in
      let exactly = (m.pages).exactly in
      let then_exactly = (t.pages).exactly in
      let all = (m.pages).all in
      let then_all = (t.pages).all in
      omega arith;
  bands =
      let sum = total_more bands_in (with_body row.root.0 b s).body more in
      let rest = total_far bands_in row.root.0 b s (rows s.catalog) far in
      let here : bands_in ((with_body row.root.0 b s).body row.root.0) ≡ bands_in b = ap bands_in (body_here row.root.0 b s row.root.0 refl) in
      let before = h.bands in
      let exactly = (m.bands).exactly in
      let free : new.bands.free ≡ mid.bands.free = ap (λ (u : Units (List ℕ)). u.free) t.bands in
      let all : new.bands.count ≡ mid.bands.count = ap (λ (u : Units (List ℕ)). u.count) t.bands in
      let mid_all = (m.bands).all in
      let kept = map_same old mid (m.pages).all (m.bands).all in
      let kept_too = map_same mid new (t.pages).all all in
      omega arith;
}

-- A ROW WENT, AND THEN ITS BODY
pub counted_unmade : {old mid new : Space} {s : Contents} {row : Row} {c : Catalog} → IsCounted old s → catalog.Turns old mid s.catalog c → IsOneMore row (rows c) (rows s.catalog) → BodyGone mid new row.root.0 (s.body row.root.0) → IsCounted new (record s { catalog = c })
counted_unmade {old} {mid} {new} {s} {row} {c} h t more g = record {
  pages =
      let sum = total_more pages_in s.body more in
      let before = h.pages in
      let exactly = (t.pages).exactly in
      let then_exactly = (g.pages).exactly in
      let all = (t.pages).all in
      let then_all = (g.pages).all in
      omega arith;
  bands =
      let sum = total_more bands_in s.body more in
      let before = h.bands in
      let exactly = (g.bands).exactly in
      let free : mid.bands.free ≡ old.bands.free = ap (λ (u : Units (List ℕ)). u.free) t.bands in
      let all : mid.bands.count ≡ old.bands.count = ap (λ (u : Units (List ℕ)). u.count) t.bands in
      let then_all = (g.bands).all in
      let kept = map_same old mid (t.pages).all all in
      let kept_too = map_same mid new (g.pages).all (g.bands).all in
      omega arith;
}
