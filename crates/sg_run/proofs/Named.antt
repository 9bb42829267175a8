-- Each line by names keeps what holds of every run, so every run of a store over pages is serial.
use Rattle.std.proofs.Common.{◌≡◌, ℕ, List, [], ◌∷◌, Option, Some, None, sym, subst}
use Rattle.sg_ops.specs.Table.{Table as Operations}
use Rattle.sg_serial.specs.Runs.{Live}
use Rattle.sg_model.specs.declared.stop.Stop.{Stop}
use Rattle.sg_model.specs.Verb.{Op}
use Rattle.sg_words.specs.Answers.{Answer}
use Rattle.sg_words.specs.Requests.{Asked, Request, asked}
use Rattle.sg_words.specs.Requests.Asked.{Blank, Wrong, Of}
use Rattle.sg_words.specs.Requests.Request.{Begin, Commit, Abort, Do}
use Rattle.sg_room.specs.Bounds.{Sizes}
use Rattle.sg_run.specs.Run.{live_named}
use Rattle.sg_run.specs.Stocked.{Stocked, Around, begun}
use Rattle.sg_run.specs.Named.{BeginsAs, CommitsAs, AbortsAs, DoesAs, RequestOf, UnlessStopped as AnswersUnlessStopped, AskedLine, NamedLines, NamedLinesAreSerial}
use Rattle.sg_run.proofs.Serial.{UnlessStopped, serial_run, start_stays}
use Rattle.sg_run.proofs.Numbers.{begin_keeps, does_keep, commit_keeps, abort_keeps}

module _ (t : Operations) (z : Sizes) where
  same : (x y : Stocked) → y ≡ x → UnlessStopped t x.run → UnlessStopped t y.run
  same x y e k = subst (λ (s : Stocked). UnlessStopped t s.run) (sym e) k

  begins : (a : Around) (name : List ℕ) (l : Option Live) (x y : Stocked) (answer : Answer) → BeginsAs a name l x answer y → UnlessStopped t x.run → UnlessStopped t y.run
  begins a name (Some l) x y answer h k = same x y h.1 k
  begins a name None x y answer h k = begin_keeps t x.run y.run a.begin a.before a.now name h.0 h.2.line k

  commits : (a : Around) (l : Option Live) (x y : Stocked) (answer : Answer) → CommitsAs a l x answer y → UnlessStopped t x.run → UnlessStopped t y.run
  commits a None x y answer h k = same x y h.1 k
  commits a (Some l) x y answer h k = commit_keeps t x.run y.run a.tail a.before a.now l.transaction h.0 h.2.line k

  aborts : (a : Around) (l : Option Live) (x y : Stocked) (answer : Answer) → AbortsAs a l x answer y → UnlessStopped t x.run → UnlessStopped t y.run
  aborts a None x y answer h k = same x y h.1 k
  aborts a (Some l) x y answer h k = abort_keeps t x.run y.run a.tail a.before a.now l.transaction h.0 h.2.line k

  does : (a : Around) (op : Op) (l : Option Live) (x y : Stocked) (answer : Answer) → DoesAs t z a op l x answer y → UnlessStopped t x.run → UnlessStopped t y.run
  does a op None x y answer h k = same x y h.1 k
  does a op (Some l) x y answer h k = does_keep t x.run y.run a.begin a.tail a.before a.now l.transaction op h.0 h.2.line k

  requests : (a : Around) (name : List ℕ) (x y : Stocked) (request : Request) (answer : Answer) → RequestOf t z a name x request answer y → UnlessStopped t x.run → UnlessStopped t y.run
  requests a name x y Begin answer h k = begins a name (live_named x.run.so_far.live name) x y answer h k
  requests a name x y Commit answer h k = commits a (live_named x.run.so_far.live name) x y answer h k
  requests a name x y Abort answer h k = aborts a (live_named x.run.so_far.live name) x y answer h k
  requests a name x y (Do op) answer h k = does a op (live_named x.run.so_far.live name) x y answer h k

  unless : (a : Around) (name : List ℕ) (s : Option Stop) (x y : Stocked) (request : Request) (answer : Answer) → AnswersUnlessStopped t z a name s x request answer y → UnlessStopped t x.run → UnlessStopped t y.run
  unless a name (Some why) x y request answer h k = same x y h.1 k
  unless a name None x y request answer h k = requests a name x y request answer h k

  asked_keeps : (a : Around) (x y : Stocked) (line : Asked) (answer : Answer) → AskedLine t z a x line answer y → UnlessStopped t x.run → UnlessStopped t y.run
  asked_keeps a x y Blank answer h k = same x y h.1 k
  asked_keeps a x y Wrong answer h k = same x y h.1 k
  asked_keeps a x y (Of name request) answer h k = unless a name x.run.stopped x y request answer h k

  pub named_keep : (x y : Stocked) (lines : List (List ℕ)) (answers : List Answer) → NamedLines t z x lines answers y → UnlessStopped t x.run → UnlessStopped t y.run
  named_keep x y [] [] h k = same x y h k
  named_keep x y (line ∷ lines) (answer ∷ answers) h k = named_keep h.1 y lines answers h.3 (asked_keeps h.0 x h.1 (asked line) answer h.2 k)
  named_keep x y [] (answer ∷ answers) h k = absurd h
  named_keep x y (line ∷ lines) [] h k = absurd h

pub named_theorem : NamedLinesAreSerial
named_theorem t z first marks lines answers x h stopped = serial_run t x.run (named_keep t z (begun first marks) x lines answers h (λ e. start_stays t first) stopped)
