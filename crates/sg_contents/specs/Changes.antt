-- How one body, or the catalogue, changes among all that stands in pages and bands.
use Rattle.std.specs.Prelude.{◌≡◌, ℕ, ◌≤◌, ◌==◌, cond, List}
use Rattle.std.specs.List.{count_by}
use Rattle.sg_space.specs.Owned.{Becomes}
use Rattle.sg_space.specs.View.{Space}
use Rattle.sg_catalog.specs.declared.row.ObjectKind.{ObjectKind}
use Rattle.sg_catalog.specs.declared.row.Row.{Row}
use Rattle.sg_contents.specs.Standing.{Body, Contents, IsBody, OwnsPage, OwnsBand, IsAmong, is_at}
use Rattle.sg_contents.specs.Meaning.{pages_in, bands_in}

-- with another body at a root
abbrev pub with_body : (root : ℕ) → Body → Contents → Contents
with_body root b s = record s { body = λ r. cond (r == root) b (s.body r) }

-- The body at a root is another one now. It has the pages and bands that it had, less what it gave back and more what was
-- free. No other page and no other band has changed.
pub record BodyTurns (old new : Space) (kind : ObjectKind) (root : ℕ) (b b' : Body) : Type 0 where
  pub body : IsBody new kind root b'
  pub pages : Becomes old.pages new.pages (OwnsPage root b) (OwnsPage root b') (pages_in b) (pages_in b')
  pub bands : Becomes old.bands new.bands (OwnsBand b) (OwnsBand b') (bands_in b) (bands_in b')

-- a body stands in pages and bands that were free, and nothing else has changed
pub record BodyMade (old new : Space) (kind : ObjectKind) (root : ℕ) (b : Body) : Type 0 where
  pub body : IsBody new kind root b
  pub pages : Becomes old.pages new.pages (λ _. ⊥) (OwnsPage root b) 0 (pages_in b)
  pub bands : Becomes old.bands new.bands (λ _. ⊥) (OwnsBand b) 0 (bands_in b)

-- a body's pages and bands are free, and nothing else has changed
pub record BodyGone (old new : Space) (root : ℕ) (b : Body) : Type 0 where
  pub pages : Becomes old.pages new.pages (OwnsPage root b) (λ _. ⊥) (pages_in b) 0
  pub bands : Becomes old.bands new.bands (OwnsBand b) (λ _. ⊥) (bands_in b) 0

-- one of these names the root that a row names, of the same kind
pub record IsNamedIn (ys : List Row) (row : Row) : Type 0 where
  pub was : Row
  pub among : IsAmong ys was
  pub kind_is : was.kind ≡ row.kind
  pub root_is : was.root.0 ≡ row.root.0

-- each of the first rows names a root that one of the second names, of the same kind, and none is named more often
pub record AreWithin (xs ys : List Row) : Type 0 where
  pub each : (row : Row) → IsAmong xs row → IsNamedIn ys row
  pub counts : (root : ℕ) → count_by (is_at root) xs ≤ count_by (is_at root) ys
