-- A script that comes in pieces.
use Rattle.std.specs.Prelude.{◌≡◌, ℕ, List, [], ◌++◌, Option, take}
use Rattle.sg_ops.specs.Table.{Table as Operations}
use Rattle.sg_words.specs.Parse.{lines_of}
use Rattle.sg_words.specs.Pieces.{behind}
use Rattle.sg_store.specs.declared.engine.Engine.{Ghosts}
use Rattle.sg_session.specs.Shows.{Core}
use Rattle.sg_script.specs.Kept.{MOST_KEPT}
use Rattle.sg_script.specs.Script.{TookAll, CutAtLast, ExecutedBy}

module _ {E : Type 0} (ghosts : Ghosts E) (t : Operations) where
  -- what was executed before a piece came, from an engine e and a core k on
  pub record Before (e : E) (k : Core) (lines : List (List ℕ)) (first now : Option (List ℕ)) (f : E) (m : Core) (held kept : List ℕ) : Type 0 where
    pub executed : ExecutedBy ghosts t e k lines (TookAll first now) f m
    -- what is kept of the line that hasn't ended yet
    pub pending : kept ≡ take MOST_KEPT held

  -- Some lines were over in the piece, of which this is left, and were executed. Whatever comes after, the lines of all
  -- that was held and the piece are these, and then what is held now with what is left
  pub record After (e : E) (k : Core) (lines : List (List ℕ)) (first now : Option (List ℕ)) (f : E) (m : Core) (held piece left kept : List ℕ) : Type 0 where
    pub over : List (List ℕ)
    pub rest : List ℕ
    pub so_far : Before e k (lines ++ over) first now f m rest kept
    pub goes_on : (after : List ℕ) → over ++ behind rest (lines_of (left ++ after)) ≡ behind held (lines_of (piece ++ after))

  abbrev pub Feeds : E → Core → E → Core → Option (List ℕ) → Option (List ℕ) → List ℕ → List ℕ → List ℕ → Type 0
  Feeds f m h n mid now had piece kept = (e : E) (k : Core) (lines : List (List ℕ)) (first : Option (List ℕ)) (held : List ℕ) → Before e k lines first mid f m held had → After e k lines first now h n held piece [] kept

  -- The sink failed at the last of these lines
  pub record Broken (e : E) (k : Core) (lines : List (List ℕ)) (first now : Option (List ℕ)) (f : E) (m : Core) (held piece : List ℕ) : Type 0 where
    pub over : List (List ℕ)
    pub executed : ExecutedBy ghosts t e k (lines ++ over) (CutAtLast first now) f m
    pub front : (after : List ℕ) → (more : List (List ℕ)) × (over ++ more ≡ behind held (lines_of (piece ++ after)))

  abbrev pub BreaksOff : E → Core → E → Core → Option (List ℕ) → Option (List ℕ) → List ℕ → List ℕ → Type 0
  BreaksOff f m h n mid now had piece = (e : E) (k : Core) (lines : List (List ℕ)) (first : Option (List ℕ)) (held : List ℕ) → Before e k lines first mid f m held had → Broken e k lines first now h n held piece
