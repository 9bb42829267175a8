-- The code's requests without where they lie in memory.
use Rattle.std.specs.Prelude.{◌≡◌, ◌≤◌, ℕ, List, length, Option, Some, None}
use Rattle.std.specs.Str.Lines.{strip_carriage_return}
use Rattle.sg_model.specs.SaidOps.{said_op}
use Rattle.sg_model.specs.Verb.Op.{On, Names}
use Rattle.sg_model.specs.Verb.Verb.{Keys}
use Rattle.sg_words.specs.declared.request.Request as code
use Rattle.sg_words.specs.declared.request.Request.TheVariants as requests
use Rattle.sg_words.specs.declared.request.Asked as code_asked
use Rattle.sg_words.specs.declared.request.Asked.TheVariants as lines
use Rattle.sg_words.specs.Parse.{words_of}
use Rattle.sg_words.specs.Spoken.{later_words}
use Rattle.sg_words.specs.Requests.{Request, Asked}
use Rattle.sg_words.specs.Requests.Request.{Begin, Commit, Abort, Do}
use Rattle.sg_words.specs.Requests.Asked.{Blank, Wrong, Of}

abbrev pub shown : code.Request → Request
shown requests.Begin = Begin
shown requests.Commit = Commit
shown requests.Abort = Abort
shown (requests.Do op) = Do (said_op op)
shown (requests.Keys name) = Do (On name Keys)
shown requests.List = Do Names

abbrev pub shown_option : Option code.Request → Option Request
shown_option None = None
shown_option (Some r) = Some (shown r)

-- what a line says, with the request that is asked of a transaction
abbrev pub shown_asked : code_asked.Asked → code.Request → Asked
shown_asked lines.Blank request = Blank
shown_asked lines.Wrong request = Wrong
shown_asked (lines.Of name words) request = Of name (shown request)

-- the words that stand behind the transaction's name of a line are the line's words but for the first
abbrev pub HasWords : List ℕ → code_asked.Asked → Type 0
HasWords line lines.Blank = Unit {0}
HasWords line lines.Wrong = Unit {0}
HasWords line (lines.Of name words) = (words_of words.text.now ≡ later_words (words_of (strip_carriage_return line))) × (length words.text.now ≤ length line)
