-- What a line's going says of its answer.
use Rattle.std.proofs.Common.{◌≡◌, ℕ, List, Option, Some, None, refl, sym, ap, ◌∙◌, subst}
use Rattle.std.specs.Prelude.{IfSome}
use Rattle.sg_serial.specs.Runs.{Live}
use Rattle.sg_ops.specs.Table.{Table as Operations}
use Rattle.sg_words.specs.Answers.{Answer}
use Rattle.sg_words.specs.Requests.{Asked, asked}
use Rattle.sg_words.specs.Requests.Asked.{Blank, Wrong, Of}
use Rattle.sg_words.specs.Requests.{Request}
use Rattle.sg_words.specs.Marking.{marking_of}
use Rattle.sg_words.specs.declared.marking.Marking.{Marking}
use Rattle.sg_words.specs.Upkeep.{upkeep_of}
use Rattle.sg_words.specs.declared.upkeep.Upkeep.{Upkeep}
use Rattle.sg_run.specs.Run.{Run}
use Rattle.sg_run.proofs.Serial.{serial_run}
use Rattle.sg_recovery.proofs.Basic.{some_one}
use Rattle.sg_store.specs.Ground.{Ground, IsLawful}
use Rattle.sg_store.specs.declared.engine.Engine.{Ghosts}
use Rattle.sg_store.specs.Engine.{View}
use Rattle.sg_store.specs.Store as stores
use Rattle.sg_store.proofs.Holding as holding
use Rattle.sg_session.specs.KeptUp.{IsKeptUp, IfTruncates, committed_by}
use Rattle.sg_session.specs.Lines.{Line, line_by, line_of}
use Rattle.sg_session.specs.Lines.Line.{OfStore, Other}
use Rattle.sg_session.specs.Shows.{Core}
use Rattle.sg_session.specs.Goes.{Goes, Answers}

-- what a line asks for
pub is_upkeep : (text : List ℕ) (upkeep : Upkeep) → asked text ≡ Wrong → upkeep_of text ≡ Some upkeep → OfStore upkeep ≡ line_of text
is_upkeep text upkeep e f = sym (ap (λ (k : Asked). line_by k (upkeep_of text) (marking_of text)) e ∙ ap (λ (k : Option Upkeep). line_by Wrong k (marking_of text)) f)

-- a line of no other request, which asks for nothing of the store as a whole
pub by_marking : (text : List ℕ) (b : Option (List ℕ × Marking)) → asked text ≡ Wrong → upkeep_of text ≡ None → marking_of text ≡ b → line_by Wrong None b ≡ line_of text
by_marking text b e f h =
    sym (ap (λ (k : Asked). line_by k (upkeep_of text) (marking_of text)) e ∙ (ap (λ (k : Option Upkeep). line_by Wrong k (marking_of text)) f ∙ ap (λ (k : Option (List ℕ × Marking)). line_by Wrong None k) h))

pub is_blank : (text : List ℕ) → asked text ≡ Blank → Other Blank ≡ line_of text
is_blank text e = sym (ap (λ (k : Asked). line_by k (upkeep_of text) (marking_of text)) e)

pub is_of : (text name : List ℕ) (request : Request) → asked text ≡ Of name request → Other (Of name request) ≡ line_of text
is_of text name request e = sym (ap (λ (k : Asked). line_by k (upkeep_of text) (marking_of text)) e)

-- of a line that asks for no flush and no checkpoint nothing is said of these
pub other_kept : {E : Type 0} (ghosts : Ghosts E) (line : Asked) (l : Line) (e f : E) → Other line ≡ l → IsKeptUp ghosts l e f
other_kept ghosts line l e f is = subst (λ (k : Line). IsKeptUp ghosts k e f) is tt

-- nor of one that asks for nothing of the store as a whole
pub marking_kept : {E : Type 0} (ghosts : Ghosts E) (b : Option (List ℕ × Marking)) (l : Line) (e f : E) → line_by Wrong None b ≡ l → IsKeptUp ghosts l e f
marking_kept ghosts b l e f is = subst (λ (k : Line). IsKeptUp ghosts k e f) is (go b)
  where
    go : (c : Option (List ℕ × Marking)) → IsKeptUp ghosts (line_by Wrong None c) e f
    go None = tt
    go (Some marking) = tt

module _ (t : Operations) (g : Ground) (lawful : IsLawful t g) (v : View g) (x : Run) where
  pub goes_line : (line other : Line) (answer : Answer) (w : View g) (m : Core) → line ≡ other → Goes t g v x line answer w m → Goes t g v x other answer w m
  goes_line line other answer w m e h = subst (λ (l : Line). Goes t g v x l answer w m) e h

  pub answered : (line : Line) (answer : Answer) (w : View g) (m : Core) → Goes t g v x line answer w m → Answers t g v x line answer w m
  answered line answer w m h =
      let runs : m.store.stopped ≡ None → stores.Runs t g w m.store h.after = λ going. h.shows.store.runs (sym h.shows.store.stopped ∙ going) in
      record {
        goes = h;
        serial = λ going. serial_run t h.after (runs going).is_kept.logs.sound;
        objects = λ going o reads.
            (let k = (runs going).is_kept in
            let is = holding.reads_so t g lawful w h.after m.store.live k in
            ap g.objects (some_one o (holding.reading t g lawful w h.after m.store.live k) (sym reads ∙ is.reading)) ∙ holding.objects_so t g lawful w h.after m.store.live k);
      }

-- a name that no live transaction has, and one that one has
pub none_named : (P : Live → Type 0) (o : Option Live) → None ≡ o → IfSome o P
none_named P o e = subst (λ (x : Option Live). IfSome x P) e tt

pub one_named : (P : Live → Type 0) (l : Live) (o : Option Live) → Some l ≡ o → P l → IfSome o P
one_named P l o e p = subst (λ (x : Option Live). IfSome x P) e p

-- a line that is no commit hands over what it does
pub no_commit : (P : List ℕ → Type 0) (k l : Line) → committed_by k ≡ None → k ≡ l → IfSome (committed_by l) P
no_commit P k l none is = subst (λ (o : Option (List ℕ)). IfSome o P) (sym none ∙ ap committed_by is) tt

-- and nothing of a truncation, which it doesn't ask for
pub other_cuts : (P : Type 0) (line : Asked) (l : Line) → Other line ≡ l → IfTruncates l P
other_cuts P line l is = subst (λ (m : Line). IfTruncates m P) is tt

pub marking_cuts : (P : Type 0) (b : Option (List ℕ × Marking)) (l : Line) → line_by Wrong None b ≡ l → IfTruncates l P
marking_cuts P b l is = subst (λ (m : Line). IfTruncates m P) is (go b)
  where
    go : (c : Option (List ℕ × Marking)) → IfTruncates (line_by Wrong None c) P
    go None = tt
    go (Some marking) = tt

-- and it is no commit
pub marking_no_commit : (P : List ℕ → Type 0) (b : Option (List ℕ × Marking)) (l : Line) → line_by Wrong None b ≡ l → IfSome (committed_by l) P
marking_no_commit P b l is = no_commit P (line_by Wrong None b) l (go b) is
  where
    go : (c : Option (List ℕ × Marking)) → committed_by (line_by Wrong None c) ≡ None
    go None = refl
    go (Some marking) = refl
