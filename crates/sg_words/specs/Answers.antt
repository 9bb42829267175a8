-- What a line is answered, with every verb, and the bytes of an answer.
use Rattle.std.specs.Prelude.{ℕ, List, [], ◌++◌, length, codes, decimal}
use Rattle.std.specs.List.{flat_map}
use Rattle.sg_model.specs.declared.reason.Reason.{Reason}
use Rattle.sg_model.specs.Verb.{Reply}
use Rattle.sg_model.specs.Verb.Reply.{Done, New, Replaced, Absent, Number, Bytes, Several}
use Rattle.sg_words.specs.Text.{printed, text_of_reason}

-- nothing, a refusal of the line as a whole, the reason of a refused operation, what ran out or failed, or a reply
pub data Answer : Type 0 where
  Silent : Answer
  BadSyntax : Answer
  Stopped : Answer
  NoTransaction : Answer
  IsLive : Answer
  TooManyLive : Answer
  NoMark : Answer
  MarksFull : Answer
  Busy : (name : List ℕ) → Answer
  LocksFull : Answer
  Refused : (reason : Reason) → Answer
  NoSpace : (free reserved need : ℕ) → Answer
  NoBands : (free need : ℕ) → Answer
  LogEnd : Answer
  Memory : Answer
  Disk : Answer
  Said : (reply : Reply) → Answer

-- a word as it is printed, behind a space
abbrev pub behind_space : List ℕ → List ℕ
behind_space word = codes " " ++ printed word

-- how many words there are, and the words
abbrev pub text_of_words : {A : Type 0} → (A → List ℕ) → List A → List ℕ
text_of_words bytes_of words = codes "ok " ++ decimal (length words) ++ flat_map (λ w. behind_space (bytes_of w)) words ++ codes "\n"

abbrev pub text_of_reply : Reply → List ℕ
text_of_reply Done = codes "ok\n"
text_of_reply New = codes "ok new\n"
text_of_reply Replaced = codes "ok replaced\n"
text_of_reply Absent = codes "none\n"
text_of_reply (Number n) = codes "ok " ++ decimal n ++ codes "\n"
text_of_reply (Bytes bytes) = codes "ok " ++ printed bytes ++ codes "\n"
text_of_reply (Several words) = text_of_words (λ word. word) words

-- a reply line with its LF, or nothing
abbrev pub text_of_answer : Answer → List ℕ
text_of_answer Silent = []
text_of_answer BadSyntax = codes "error syntax\n"
text_of_answer Stopped = codes "error stopped\n"
text_of_answer NoTransaction = codes "error no-transaction\n"
text_of_answer IsLive = codes "error live\n"
text_of_answer TooManyLive = codes "error too-many-live\n"
text_of_answer NoMark = codes "error no-mark\n"
text_of_answer MarksFull = codes "error marks-full\n"
text_of_answer (Busy name) = codes "busy " ++ name ++ codes "\n"
text_of_answer LocksFull = codes "error locks-full\n"
text_of_answer (Refused reason) = text_of_reason reason
text_of_answer (NoSpace free reserved need) = codes "error no-space" ++ codes " " ++ decimal free ++ codes " " ++ decimal reserved ++ codes " " ++ decimal need ++ codes "\n"
text_of_answer (NoBands free need) = codes "error no-bands" ++ codes " " ++ decimal free ++ codes " " ++ decimal need ++ codes "\n"
text_of_answer LogEnd = codes "error log-end\n"
text_of_answer Memory = codes "error memory\n"
text_of_answer Disk = codes "error disk\n"
text_of_answer (Said reply) = text_of_reply reply

-- the reply lines, one after another
abbrev pub text_of_all : List Answer → List ℕ
text_of_all answers = flat_map text_of_answer answers
