-- How a script is read and run, piece by piece.
use Rattle.std.proofs.Common.{◌≡◌, ◌==◌, inl, inr, ℕ, ◌+◌, ◌<◌, ◌≤◌, List, [], ◌∷◌, ◌++◌, length, take, drop, Option, Some, None, IfSome, refl, sym, ap, ◌∙◌, subst, arith, append_assoc, append-nil, length-append}
use Rattle.std.proofs.lemmas.List.{take-append-drop, length-take-le}
use Rattle.sg_base.specs.Ends.{Gives, Takes, TakesFront}
use Rattle.sg_ops.specs.Table.{Table as Operations}
use Rattle.sg_words.specs.Parse.{lines_of}
use Rattle.sg_words.specs.Pieces.{behind}
use Rattle.sg_words.specs.Answers.{text_of_answer}
use Rattle.sg_store.specs.declared.engine.Engine.{Ghosts}
use Rattle.sg_session.specs.Lines.{line_of}
use Rattle.sg_session.specs.Shows.{Core}
use Rattle.sg_words.proofs.Steps.{Takes-nothing}
use Rattle.sg_words.proofs.Seams.{behind_nothing}
use Rattle.sg_script.specs.Kept.{MOST_KEPT}
use Rattle.sg_script.specs.Script.{TookAll, CutAtLast, ExecutedBy, LineGoes, HasRead}
use Rattle.sg_script.specs.Feeding.{Feeds, BreaksOff}
use Rattle.sg_script.specs.declared.script.RunEnd.TheVariants as ends
use Rattle.sg_script.specs.Ending.{MOST_BYTES, RunsTo}
use Rattle.sg_script.proofs.UnderWay.{IsUnderWay}
use Rattle.sg_script.proofs.Executing.{executed-none, executed-more, takes_more, takes_cut}
use Rattle.sg_script.proofs.Feeds.{line-kept, line_at}

pub HasRead-none : (source : Option (List ℕ)) → HasRead source [] source
HasRead-none None = refl
HasRead-none (Some all) = (all, refl, refl)

-- one read more
pub HasRead-more : (source : Option (List ℕ)) (text : List ℕ) (mid : Option (List ℕ)) (into : List ℕ) (n : ℕ) (left : Option (List ℕ)) → HasRead source text mid → Gives mid into n left → HasRead source (text ++ take n into) left
HasRead-more None text mid into n left h given = subst (λ (m : Option (List ℕ)). Gives m into n left) h given
HasRead-more (Some all) text mid into n left h given =
    let g = subst (λ (m : Option (List ℕ)). Gives m into n left) h.1 given in
    (drop n h.0, g.2, h.2 ∙ (ap (λ (r : List ℕ). text ++ r) (sym (take-append-drop n h.0)) ∙ (ap (λ (t : List ℕ). text ++ (t ++ drop n h.0)) (sym g.1) ∙ sym (append_assoc text (take n into) (drop n h.0)))))

-- the read that finds the end
pub HasRead-end : (source : Option (List ℕ)) (text : List ℕ) (mid : Option (List ℕ)) (into : List ℕ) (left : Option (List ℕ)) → 0 < length into → HasRead source text mid → Gives mid into 0 left → HasRead source text left × IfSome source (λ all. text ≡ all)
HasRead-end None text mid into left some h given = (subst (λ (m : Option (List ℕ)). Gives m into 0 left) h given, tt)
HasRead-end (Some all) text mid into left some h given =
    let g = subst (λ (m : Option (List ℕ)). Gives m into 0 left) h.1 given in
    ((h.0, g.2, h.2), sym (h.2 ∙ (ap (λ (r : List ℕ). text ++ r) (g.3 refl some) ∙ append-nil text)))

module _ {E : Type 0} (ghosts : Ghosts E) (t : Operations) (e : E) (k : Core) (source first : Option (List ℕ)) where
  pub way_begins : (kept : List ℕ) → kept ≡ [] → IsUnderWay ghosts t e k source source first first e k kept 0
  way_begins kept nothing = record {
    text = [];
    read = HasRead-none source;
    size = refl;
    lines = [];
    rest = [];
    over = λ after. behind_nothing (λ b. b == 10) after;
    before = record { executed = executed-none ghosts t e k (TookAll first first) (refl, Takes-nothing first); pending = nothing };
  }

  -- a piece more
  pub way_goes_on : (mid left now next : Option (List ℕ)) (f h : E) (m n : Core) (had kept into piece : List ℕ) (total count : ℕ) → (w : IsUnderWay ghosts t e k source mid first now f m had total) → Gives mid into count left → count ≤ length into → piece ≡ take count into
      → Feeds ghosts t f m h n now next had piece kept → IsUnderWay ghosts t e k source left first next h n kept (total + count)
  way_goes_on mid left now next f h m n had kept into piece total count w given within is fed =
      let a = fed e k w.lines first w.rest w.before in
      record {
        text = w.text ++ piece;
        read = subst (λ (p : List ℕ). HasRead source (w.text ++ p) left) (sym is) (HasRead-more source w.text mid into count left w.read given);
        size = omega (arith, w.size, length-append w.text piece, ap length is, length-take-le count into within);
        lines = w.lines ++ a.over;
        rest = a.rest;
        over = λ after. append_assoc w.lines a.over (behind a.rest (lines_of after)) ∙ (ap (λ (ls : List (List ℕ)). w.lines ++ ls) (a.goes_on after) ∙ (w.over (piece ++ after) ∙ ap lines_of (sym (append_assoc w.text piece after))));
        before = a.so_far;
      }

  -- the last line, which no LF ends
  last_lines : (lines : List (List ℕ)) (rest text : List ℕ) → ((after : List ℕ) → lines ++ behind rest (lines_of after) ≡ lines_of (text ++ after)) → lines ++ (rest ++ []) ∷ [] ≡ lines_of text
  last_lines lines rest text over = over [] ∙ ap lines_of (append-nil text)

  last_said : (rest had : List ℕ) → had ≡ take MOST_KEPT rest → line_of had ≡ line_of (rest ++ [])
  last_said rest had pending = sym (ap line_of (append-nil rest) ∙ (sym (line-kept rest) ∙ ap line_of (sym pending)))

  pub way_ends : (mid left now next : Option (List ℕ)) (f h : E) (m n : Core) (had into : List ℕ) (total : ℕ) → (w : IsUnderWay ghosts t e k source mid first now f m had total) → total ≤ MOST_BYTES → 0 < length into → Gives mid into 0 left
      → LineGoes ghosts t f m (line_of had) (λ answer. Takes now (text_of_answer answer) next) h n → RunsTo ghosts ends.Done t e k source left first next h n
  way_ends mid left now next f h m n had into total w short some given goes =
      let ended = HasRead-end source w.text mid into left some w.read given in
      record {
        text = w.text;
        read = ended.0;
        lines = lines_of w.text;
        ended = record { whole = ended.1; short = omega (arith, w.size, short); all = refl };
        executed = subst (λ (ls : List (List ℕ)). ExecutedBy ghosts t e k ls (TookAll first next) h n) (last_lines w.lines w.rest w.text w.over)
            (executed-more ghosts t e k w.lines (TookAll first now) (TookAll first next) f h m n (w.rest ++ []) (λ answer. Takes now (text_of_answer answer) next) w.before.executed
            (line_at ghosts t f m (line_of had) (line_of (w.rest ++ [])) (λ answer. Takes now (text_of_answer answer) next) h n (last_said w.rest had w.before.pending) goes) (takes_more first now next));
      }

  -- the sink fails at it
  pub way_unwritten : (mid left now next : Option (List ℕ)) (f h : E) (m n : Core) (had into : List ℕ) (total : ℕ) → (w : IsUnderWay ghosts t e k source mid first now f m had total) → total ≤ MOST_BYTES → 0 < length into → Gives mid into 0 left
      → LineGoes ghosts t f m (line_of had) (λ answer. TakesFront now (text_of_answer answer) next) h n → RunsTo ghosts ends.Write t e k source left first next h n
  way_unwritten mid left now next f h m n had into total w short some given goes =
      let ended = HasRead-end source w.text mid into left some w.read given in
      record {
        text = w.text;
        read = ended.0;
        lines = w.lines ++ (w.rest ++ []) ∷ [];
        ended = record { short = omega (arith, w.size, short); first = inr (last_lines w.lines w.rest w.text w.over, ended.1) };
        executed = executed-more ghosts t e k w.lines (TookAll first now) (CutAtLast first next) f h m n (w.rest ++ []) (λ answer. TakesFront now (text_of_answer answer) next) w.before.executed
            (line_at ghosts t f m (line_of had) (line_of (w.rest ++ [])) (λ answer. TakesFront now (text_of_answer answer) next) h n (last_said w.rest had w.before.pending) goes) (takes_cut first now next);
      }

  -- the sink fails within a piece
  pub way_broken : (mid left now next : Option (List ℕ)) (f h : E) (m n : Core) (had into piece : List ℕ) (total count : ℕ) → (w : IsUnderWay ghosts t e k source mid first now f m had total) → total + count ≤ MOST_BYTES → Gives mid into count left → count ≤ length into → piece ≡ take count into
      → BreaksOff ghosts t f m h n now next had piece → RunsTo ghosts ends.Write t e k source left first next h n
  way_broken mid left now next f h m n had into piece total count w short given within is breaks =
      let b = breaks e k w.lines first w.rest w.before in
      record {
        text = w.text ++ piece;
        read = subst (λ (p : List ℕ). HasRead source (w.text ++ p) left) (sym is) (HasRead-more source w.text mid into count left w.read given);
        lines = w.lines ++ b.over;
        ended = record {
          short = omega (arith, w.size, short, length-append w.text piece, ap length is, length-take-le count into within);
          first = inl (λ after. let r = b.front after in (r.0, append_assoc w.lines b.over r.0 ∙ (ap (λ (ls : List (List ℕ)). w.lines ++ ls) r.1 ∙ (w.over (piece ++ after) ∙ ap lines_of (sym (append_assoc w.text piece after))))));
        };
        executed = b.executed;
      }

  -- the source fails
  pub way_unread : (mid left now : Option (List ℕ)) (f : E) (m : Core) (had : List ℕ) (total : ℕ) → IsUnderWay ghosts t e k source mid first now f m had total → total ≤ MOST_BYTES → left ≡ mid → RunsTo ghosts ends.Read t e k source left first now f m
  way_unread mid left now f m had total w short same = record {
    text = w.text;
    read = subst (HasRead source w.text) (sym same) w.read;
    lines = w.lines;
    ended = record { short = omega (arith, w.size, short); rest = w.rest; over = w.over };
    executed = w.before.executed;
  }

  -- the source gives too much
  pub way_too_long : (mid left now : Option (List ℕ)) (f : E) (m : Core) (had into : List ℕ) (total count : ℕ) → IsUnderWay ghosts t e k source mid first now f m had total → total ≤ MOST_BYTES → MOST_BYTES < total + count → Gives mid into count left → count ≤ length into → length into ≤ 65536 → RunsTo ghosts ends.TooLong t e k source left first now f m
  way_too_long mid left now f m had into total count w short long given within room = record {
    text = w.text ++ take count into;
    read = HasRead-more source w.text mid into count left w.read given;
    lines = w.lines;
    ended = record {
      before = w.text;
      piece = take count into;
      split = refl;
      short = omega (arith, w.size, short);
      long = omega (arith, w.size, long, length-append w.text (take count into), length-take-le count into within);
      small = omega (arith, length-take-le count into within, within, room);
      rest = w.rest;
      over = w.over;
    };
    executed = w.before.executed;
  }
