-- How a piece of a script is executed.
use Rattle.std.proofs.Common.{◌≡◌, ◌==◌, ℕ, ◌<◌, Bool, true, false, cond, nat_le, leb-true, List, [], ◌∷◌, ◌++◌, length, take, Option, None, refl, sym, ap, ◌∙◌, subst, arith, append_assoc, append-nil}
use Rattle.std.specs.Prelude.{nat_lt, slice_index}
use Rattle.std.specs.Str.Lines.{strip_carriage_return}
use Rattle.std.proofs.Math.Seq.{take_all}
use Rattle.std.proofs.lemmas.List.{length-take-le}
use Rattle.std.proofs.lemmas.Bool.Decides.{nat_tests}
use Rattle.sg_base.specs.Ends.{Takes, TakesFront}
use Rattle.sg_ops.specs.Table.{Table as Operations}
use Rattle.sg_words.specs.Parse.{lines_of, words_of, most_line_bytes}
use Rattle.sg_words.specs.Pieces.{behind}
use Rattle.sg_words.specs.Requests.{Asked, asked, asked_by}
use Rattle.sg_words.specs.Marking.{marking_of, marking_by}
use Rattle.sg_words.specs.declared.marking.Marking.{Marking}
use Rattle.sg_words.specs.Upkeep.{upkeep_of, upkeep_in}
use Rattle.sg_words.specs.declared.upkeep.Upkeep.{Upkeep}
use Rattle.sg_words.specs.Requests.Asked.{Blank, Wrong}
use Rattle.sg_words.specs.Answers.{Answer, text_of_answer}
use Rattle.sg_words.proofs.Steps.{seam, kept}
use Rattle.sg_words.proofs.Seams.{behind_nothing}
use Rattle.sg_store.specs.declared.engine.Engine.{Ghosts}
use Rattle.sg_session.specs.Lines.{Line, line_by, line_of}
use Rattle.sg_session.specs.Shows.{Core}
use Rattle.sg_script.specs.Kept.{MOST_KEPT}
use Rattle.sg_script.specs.Script.{TookAll, CutAtLast, ExecutedBy, LineGoes}
use Rattle.sg_script.specs.Feeding.{Before, After, Broken}
use Rattle.sg_script.proofs.Fronts.{kept_again}
use Rattle.sg_script.proofs.Executing.{executed-more, takes_more, takes_cut}

-- a line that is too long asks for nothing
asked-long : (line : List ℕ) → most_line_bytes < length line → asked line ≡ Wrong
unfolding asked
asked-long line long =
    let is : nat_lt most_line_bytes (length line) ≡ true = grind (arith, nat_tests, long) in
    ap (λ b. cond b Wrong (cond (slice_index line 0 == 35) Blank (asked_by (words_of (strip_carriage_return line))))) is

-- what is kept of a line asks for what the line asks for
asked-kept : (text : List ℕ) → asked (take MOST_KEPT text) ≡ asked text
asked-kept text = by_length (nat_le (length text) MOST_KEPT) refl
  where
    by_length : (b : Bool) → nat_le (length text) MOST_KEPT ≡ b → asked (take MOST_KEPT text) ≡ asked text
    by_length true e = ap asked (take_all MOST_KEPT text (leb-true (length text) MOST_KEPT e))
    by_length false e =
        let long : MOST_KEPT < length text = grind (arith, nat_tests, e) in
        let cut : length (take MOST_KEPT text) ≡ MOST_KEPT = length-take-le MOST_KEPT text (omega arith) in
        asked-long (take MOST_KEPT text) (omega arith) ∙ sym (asked-long text (omega arith))

-- nor does it ask anything of the store as a whole
upkeep-long : (line : List ℕ) → most_line_bytes < length line → upkeep_of line ≡ None
unfolding upkeep_of
upkeep-long line long =
    let is : nat_lt most_line_bytes (length line) ≡ true = grind (arith, nat_tests, long) in
    ap (λ (b : Bool). cond b None (upkeep_in (words_of (strip_carriage_return line)))) is

upkeep-kept : (text : List ℕ) → upkeep_of (take MOST_KEPT text) ≡ upkeep_of text
upkeep-kept text = by_length (nat_le (length text) MOST_KEPT) refl
  where
    by_length : (b : Bool) → nat_le (length text) MOST_KEPT ≡ b → upkeep_of (take MOST_KEPT text) ≡ upkeep_of text
    by_length true e = ap upkeep_of (take_all MOST_KEPT text (leb-true (length text) MOST_KEPT e))
    by_length false e =
        let long : MOST_KEPT < length text = grind (arith, nat_tests, e) in
        let cut : length (take MOST_KEPT text) ≡ MOST_KEPT = length-take-le MOST_KEPT text (omega arith) in
        upkeep-long (take MOST_KEPT text) (omega arith) ∙ sym (upkeep-long text (omega arith))

-- nor of a transaction's marks
marking-long : (line : List ℕ) → most_line_bytes < length line → marking_of line ≡ None
unfolding marking_of
marking-long line long =
    let is : nat_lt most_line_bytes (length line) ≡ true = grind (arith, nat_tests, long) in
    ap (λ (b : Bool). cond b None (marking_by (words_of (strip_carriage_return line)))) is

marking-kept : (text : List ℕ) → marking_of (take MOST_KEPT text) ≡ marking_of text
marking-kept text = by_length (nat_le (length text) MOST_KEPT) refl
  where
    by_length : (b : Bool) → nat_le (length text) MOST_KEPT ≡ b → marking_of (take MOST_KEPT text) ≡ marking_of text
    by_length true e = ap marking_of (take_all MOST_KEPT text (leb-true (length text) MOST_KEPT e))
    by_length false e =
        let long : MOST_KEPT < length text = grind (arith, nat_tests, e) in
        let cut : length (take MOST_KEPT text) ≡ MOST_KEPT = length-take-le MOST_KEPT text (omega arith) in
        marking-long (take MOST_KEPT text) (omega arith) ∙ sym (marking-long text (omega arith))

-- so what is kept of a line is the line
pub line-kept : (text : List ℕ) → line_of (take MOST_KEPT text) ≡ line_of text
line-kept text =
    ap (λ (a : Asked). line_by a (upkeep_of (take MOST_KEPT text)) (marking_of (take MOST_KEPT text))) (asked-kept text)
    ∙ (ap (λ (b : Option Upkeep). line_by (asked text) b (marking_of (take MOST_KEPT text))) (upkeep-kept text) ∙ ap (λ (m : Option (List ℕ × Marking)). line_by (asked text) (upkeep_of text) m) (marking-kept text))

-- what has come of a line and a part of it, kept, is the line of both
pub line-pending : (bytes had more part : List ℕ) → bytes ≡ more → more ≡ take MOST_KEPT (had ++ part) → line_of bytes ≡ line_of (had ++ part)
line-pending bytes had more part e is = ap line_of (e ∙ is) ∙ line-kept (had ++ part)

-- a line goes as its bytes say, wherever they lie
pub line_at : {E : Type 0} (ghosts : Ghosts E) (t : Operations) (e : E) (k : Core) (here there : Line) (Took : Answer → Type 0) (f : E) (m : Core) → here ≡ there → LineGoes ghosts t e k here Took f m → LineGoes ghosts t e k there Took f m
line_at ghosts t e k here there Took f m same h = subst (λ (line : Line). LineGoes ghosts t e k line Took f m) same h

module _ {E : Type 0} (ghosts : Ghosts E) (t : Operations) (e : E) (k : Core) (lines : List (List ℕ)) (first : Option (List ℕ)) (held piece : List ℕ) where
  pub feed_started : (now : Option (List ℕ)) (f : E) (m : Core) (had : List ℕ) → Before ghosts t e k lines first now f m held had → After ghosts t e k lines first now f m held piece piece had
  feed_started now f m had h = record {
    over = [];
    rest = held;
    so_far = subst (λ (ls : List (List ℕ)). Before ghosts t e k ls first now f m held had) (sym (append-nil lines)) h;
    goes_on = λ after. refl;
  }

  -- what is kept of the line, with a part
  kept_part : (rest part had more : List ℕ) → had ≡ take MOST_KEPT rest → more ≡ take MOST_KEPT (had ++ part) → more ≡ take MOST_KEPT (rest ++ part)
  kept_part rest part had more pending is = is ∙ (ap (λ (h : List ℕ). take MOST_KEPT (h ++ part)) pending ∙ kept_again MOST_KEPT rest part)

  -- a line asks for what is kept of it and the part that ends it ask for
  said : (rest part had : List ℕ) → had ≡ take MOST_KEPT rest → line_of (rest ++ part) ≡ line_of (had ++ part)
  said rest part had pending = sym (line-kept (rest ++ part)) ∙ (ap line_of (sym (kept_part rest part had (take MOST_KEPT (had ++ part)) pending refl)) ∙ line-kept (had ++ part))

  -- a line is over in the piece
  pub feed_line : (mid now : Option (List ℕ)) (f h : E) (m n : Core) (had cleared left part after : List ℕ)
      → (a : After ghosts t e k lines first mid f m held piece left had) → cleared ≡ [] → ((behind_it : List ℕ) → lines_of (left ++ behind_it) ≡ part ∷ lines_of (after ++ behind_it))
      → LineGoes ghosts t f m (line_of (had ++ part)) (λ answer. Takes mid (text_of_answer answer) now) h n → After ghosts t e k lines first now h n held piece after cleared
  feed_line mid now f h m n had cleared left part after a nothing cut goes =
      let line : List ℕ = a.rest ++ part in
      let done = executed-more ghosts t e k (lines ++ a.over) (TookAll first mid) (TookAll first now) f h m n line (λ answer. Takes mid (text_of_answer answer) now) a.so_far.executed
      (line_at ghosts t f m (line_of (had ++ part)) (line_of line) (λ answer. Takes mid (text_of_answer answer) now) h n (sym (said a.rest part had a.so_far.pending)) goes) (takes_more first mid now) in
      record {
        over = a.over ++ line ∷ [];
        rest = [];
        so_far = record {
          executed = subst (λ (ls : List (List ℕ)). ExecutedBy ghosts t e k ls (TookAll first now) h n) (append_assoc lines a.over (line ∷ [])) done;
          pending = nothing;
        };
        goes_on = λ behind_it. seam a.over a.rest part line [] (lines_of (after ++ behind_it)) (lines_of (left ++ behind_it)) (behind held (lines_of (piece ++ behind_it))) (behind_nothing (λ b. b == 10) (after ++ behind_it)) refl refl (cut behind_it) (a.goes_on behind_it);
      }

  -- the piece ends
  pub feed_ends : (now : Option (List ℕ)) (f : E) (m : Core) (had more left part : List ℕ) → (a : After ghosts t e k lines first now f m held piece left had) → more ≡ take MOST_KEPT (had ++ part)
      → ((behind_it : List ℕ) → lines_of (left ++ behind_it) ≡ behind part (lines_of behind_it)) → After ghosts t e k lines first now f m held piece [] more
  feed_ends now f m had more left part a is cut = record {
    over = a.over;
    rest = a.rest ++ part;
    so_far = record {
      executed = a.so_far.executed;
      pending = kept_part a.rest part had more a.so_far.pending is;
    };
    goes_on = λ behind_it. kept a.over a.rest part (a.rest ++ part) (lines_of behind_it) (lines_of (left ++ behind_it)) (behind held (lines_of (piece ++ behind_it))) refl (cut behind_it) (a.goes_on behind_it);
  }

  -- the sink fails at the reply of a line
  pub feed_breaks : (mid now : Option (List ℕ)) (f h : E) (m n : Core) (had left part after : List ℕ)
      → (a : After ghosts t e k lines first mid f m held piece left had) → ((behind_it : List ℕ) → lines_of (left ++ behind_it) ≡ part ∷ lines_of (after ++ behind_it))
      → LineGoes ghosts t f m (line_of (had ++ part)) (λ answer. TakesFront mid (text_of_answer answer) now) h n → Broken ghosts t e k lines first now h n held piece
  feed_breaks mid now f h m n had left part after a cut goes =
      let line : List ℕ = a.rest ++ part in
      let done = executed-more ghosts t e k (lines ++ a.over) (TookAll first mid) (CutAtLast first now) f h m n line (λ answer. TakesFront mid (text_of_answer answer) now) a.so_far.executed
      (line_at ghosts t f m (line_of (had ++ part)) (line_of line) (λ answer. TakesFront mid (text_of_answer answer) now) h n (sym (said a.rest part had a.so_far.pending)) goes) (takes_cut first mid now) in
      record {
        over = a.over ++ line ∷ [];
        executed = subst (λ (ls : List (List ℕ)). ExecutedBy ghosts t e k ls (CutAtLast first now) h n) (append_assoc lines a.over (line ∷ [])) done;
        front = λ behind_it. (behind [] (lines_of (after ++ behind_it)), seam a.over a.rest part line [] (lines_of (after ++ behind_it)) (lines_of (left ++ behind_it)) (behind held (lines_of (piece ++ behind_it))) (behind_nothing (λ b. b == 10) (after ++ behind_it)) refl refl (cut behind_it) (a.goes_on behind_it));
      }
