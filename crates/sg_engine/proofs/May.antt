-- When a record may be appended, and a store that has no record yet.
use Rattle.std.proofs.Common.{◌≡◌, ⊎_elim, ◌<◌, ◌≤◌, ◌+◌, ◌^◌, ◌==◌, ℕ, suc, Bool, true, false, Option, Some, None, if◌then◌else◌, List, [], ◌∷◌, ◌++◌, Ok, length, refl, sym, ◌∙◌, ap, subst, arith, length-append}
use Rattle.std.proofs.lemmas.Bool.{cases_lt, cases_eq}
use Rattle.sg_base.specs.Op.{Op}
use Rattle.sg_base.specs.Page.{lsn_of}
use Rattle.sg_base.specs.declared.area.Area.TheVariants.{Home}
use Rattle.sg_disk.specs.Disk.{View}
use Rattle.sg_record.specs.Records.{Record, spelled}
use Rattle.sg_log.specs.Texts.{spelled_all}
use Rattle.sg_log.proofs.Texts.{spelled-long}
use Rattle.sg_log.specs.Frames.{Numbered, numbered_from, numbered_in, gate_after, text_of}
use Rattle.sg_log.specs.Held.{Tail, Holds, place_of, has_room, numbered}
use Rattle.sg_log.proofs.Holding.{text-length, gate_moved}
use Rattle.sg_gate.specs.Layout.{home_at}
use Rattle.sg_gate.specs.Superblock.{superblock}
use Rattle.sg_ops.specs.Table.{Table}
use Rattle.sg_redo.specs.History.{OnPage, redone, AllFit, AllSetNumber}
use Rattle.sg_redo.specs.Page.{made, on_page}
use Rattle.sg_redo.proofs.Numbers.{record_sets}
use Rattle.sg_redo.proofs.Versions.{stays, made_is}
use Rattle.sg_pool.specs.declared.pool.Pool.{Pool}
use Rattle.sg_pool.specs.Pooled.{sizes, contents, Backs}
use Rattle.sg_pool.specs.Units.{Geometry, EachPage, IsBacked, page_at, band_byte}
use Rattle.sg_pool.specs.Well.{IsWell}
use Rattle.sg_engine.specs.Numbers.{Rises, AllUnder}
use Rattle.sg_engine.specs.History.{Effect, ChangesPage, ChangesBand, ChangesNothing, Entry, Homes, entry_number, page_change, IsNumbered, AllWell, IsThere, Appends}
use Rattle.sg_engine.specs.History as history
use Rattle.sg_engine.specs.Kept.{home_in, PageHome, ByteHome}
use Rattle.sg_engine.specs.Engine.{Origin, entry_of, entries, geometry, IsLogOf}
use Rattle.sg_engine.specs.Running.{IsEngine, DoesToPage, DoesToBand, DoesNothing}
use Rattle.sg_engine.proofs.Logs.{entries_append}
use Rattle.sg_engine.proofs.Units.{under_append}
use Rattle.sg_engine.proofs.Followed.{same_test, other_test, under_more}
use Rattle.sg_engine.proofs.Calls.{page_well}

-- THE NUMBERS of a log's records are below the place of the next one
from_under : (o : Origin) (lsn : ℕ) (rs : List Record) → AllUnder entry_number (lsn + length (spelled_all rs)) (entries o (numbered_from lsn rs))
from_under o lsn [] = tt
from_under o lsn (r ∷ rs) =
    let long = spelled-long r in
    let e : length (spelled_all (r ∷ rs)) ≡ length (spelled r) + length (spelled_all rs) = length-append (spelled r) (spelled_all rs) in
    let rest = from_under o (lsn + length (spelled r)) rs in
    let same : lsn + length (spelled r) + length (spelled_all rs) ≡ lsn + length (spelled_all (r ∷ rs)) = omega (arith, e) in
    (omega (arith, e, long), subst (λ (d : ℕ). AllUnder entry_number d (entries o (numbered_from (lsn + length (spelled r)) rs))) same rest)

gate_later : (at : ℕ) (frames : List (List Record)) → at ≤ gate_after at frames
gate_later at [] = omega arith
gate_later at (rs ∷ frames) = let more = gate_later (at + 1 + length (text_of (spelled_all rs))) frames in omega arith

pub in_under : (o : Origin) (gate : ℕ) (frames : List (List Record)) → AllUnder entry_number (gate_after gate frames) (entries o (numbered_in gate frames))
in_under o gate [] = tt
in_under o gate (rs ∷ frames) =
    let later = gate_later (gate + 1 + length (text_of (spelled_all rs))) frames in
    let text = text-length (spelled_all rs) in
    subst (λ (l : List Entry). AllUnder entry_number (gate_after gate (rs ∷ frames)) l) (sym (entries_append o (numbered_from (gate + 5) rs) (numbered_in (gate + 1 + length (text_of (spelled_all rs))) frames)))
    (under_append entry_number (gate_after gate (rs ∷ frames)) (entries o (numbered_from (gate + 5) rs)) (entries o (numbered_in (gate + 1 + length (text_of (spelled_all rs))) frames))
    (under_more entry_number (gate + 5 + length (spelled_all rs)) (gate_after gate (rs ∷ frames)) (entries o (numbered_from (gate + 5) rs)) (omega (arith, later, text)) (from_under o (gate + 5) rs))
    (in_under o (gate + 1 + length (text_of (spelled_all rs))) frames))

place_late : (log : Tail) (r : Record) (c : Bool) → has_room log r ≡ c → log.gate + 5 + length log.buffer ≤ place_of log r
place_late log r true is = rw is (omega arith)
place_late log r false is = rw is (omega arith)

pub all_under : {v : View} {log : Tail} {ds ps : List Numbered} (o : Origin) (r : Record) → Holds v log ds ps → AllUnder entry_number (place_of log r) (entries o (ds ++ ps))
all_under {log = log} {ds = ds} {ps = ps} o r h =
    let late = place_late log r (has_room log r) refl in
    let zero : log.base + 0 ≡ log.base = omega arith in
    let gate : log.gate ≡ gate_after log.base h.frames = h.at_gate ∙ sym (gate_moved log.base 0 h.frames) ∙ ap (λ (n : ℕ). gate_after n h.frames) zero in
    let full : length log.buffer ≡ length (spelled_all h.body) = ap length h.waiting in
    subst (λ (l : List Entry). AllUnder entry_number (place_of log r) l) (sym (entries_append o ds ps))
    (under_append entry_number (place_of log r) (entries o ds) (entries o ps)
    (under_more entry_number (gate_after log.base h.frames) (place_of log r) (entries o ds) (omega (arith, late, gate)) (subst (λ (ns : List Numbered). AllUnder entry_number (gate_after log.base h.frames) (entries o ns)) h.all (in_under o log.base h.frames)))
    (under_more entry_number (log.gate + 5 + length (spelled_all h.body)) (place_of log r) (entries o ps) (omega (arith, late, full)) (subst (λ (ns : List Numbered). AllUnder entry_number (log.gate + 5 + length (spelled_all h.body)) (entries o ns)) h.numbers (from_under o (log.gate + 5) h.body))))

rises_append : (low : ℕ) (es : List Entry) (e : Entry) → low ≤ e.lsn → Rises entry_number low es → AllUnder entry_number e.lsn es → Rises entry_number low (es ++ e ∷ [])
rises_append low [] e le rises under = (le, tt)
rises_append low (x ∷ es) e le rises under = (rises.0, rises_append (suc x.lsn) es e (let lt = under.0 in omega arith) rises.1 under.1)

module _ (o : Origin) (v : View) (log : Tail) (ds ps : List Numbered) (pool : Pool) (r : Record) (e : IsEngine o v log ds ps pool) where
  abbrev x : Numbered
  x = numbered log r

  rises_next : Rises entry_number 1 (entries o (ds ++ ps) ++ entry_of o x ∷ [])
  rises_next = let late = place_late log r (has_room log r) refl in rises_append 1 (entries o (ds ++ ps)) (entry_of o x) (omega arith) e.engine.history.rises (all_under o r e.engine.held)

  -- A RECORD OF A PAGE: its operation fits the page as it is, and leaves it a page
  pub page_may : (t : Table) (p : ℕ) (op : Op) (new : List ℕ) → x.lsn < 2 ^ 64 → o.effect x.lsn r ≡ ChangesPage p (made t x.lsn op) → p < (sizes pool).pages → made t x.lsn op ((contents v pool).page p) ≡ Some new → IsWell new → DoesToPage o t (ds ++ ps) x p op
  page_may t p op new short effect lt fits well = record {
    effect = effect;
    appends = record { rises = rises_next; sets = λ n small. subst (λ (f : Effect). AllSetNumber (page_change n x.lsn f)) (sym effect) (sets_at n (p == n)); fits = λ n small. subst (λ (f : Effect). AllFit (page_change n x.lsn f) ((history.made (entries o (ds ++ ps)) o.first).page n)) (sym effect) (fits_at n small); well = λ n small. subst (λ (f : Effect). AllWell (page_change n x.lsn f) ((history.made (entries o (ds ++ ps)) o.first).page n)) (sym effect) (well_at n small); there = subst (IsThere (geometry o.super)) (sym effect) here };
  }
    where
      here : p < o.super.pages
      here = subst (λ (g : Geometry). p < g.pages) e.sizes lt

      rec : OnPage
      rec = on_page t x.lsn op

      sets_at : (n : ℕ) (b : Bool) → AllSetNumber (if b then (on_page t x.lsn op ∷ []) else [])
      sets_at n true = (record_sets t x.lsn op short, tt)
      sets_at n false = tt

      now : (n : ℕ) → n < o.super.pages → (contents v pool).page n ≡ (history.made (entries o (ds ++ ps)) o.first).page n
      now n small = e.engine.joined.page n small

      fits_at : (n : ℕ) → n < o.super.pages → AllFit (if p == n then (on_page t x.lsn op ∷ []) else []) ((history.made (entries o (ds ++ ps)) o.first).page n)
      fits_at n small = ⊎_elim
          (λ same. let b = same_test p n same in rw b (λ above. (new, ap (made t x.lsn op) (sym (now n small) ∙ ap (contents v pool).page (sym same)) ∙ fits), tt))
          (λ differ. let b = other_test p n differ in rw b tt)
          (cases_eq p n)

      done_well : (page : List ℕ) → IsWell page → made t x.lsn op page ≡ Some new → IsWell (redone (on_page t x.lsn op) page)
      done_well page was is = ⊎_elim
          (λ above. subst IsWell (sym (made_is (on_page t x.lsn op) page new above is)) well)
          (λ has. subst IsWell (sym (stays (on_page t x.lsn op) page has)) was)
          (cases_lt (lsn_of page) x.lsn)

      well_at : (n : ℕ) → n < o.super.pages → AllWell (if p == n then (on_page t x.lsn op ∷ []) else []) ((history.made (entries o (ds ++ ps)) o.first).page n)
      well_at n small =
          let here : IsWell ((history.made (entries o (ds ++ ps)) o.first).page n) = subst IsWell (now n small) (page_well o v log ds ps _ (contents v pool) n e.engine small) in
          ⊎_elim
          (λ same. let b = same_test p n same in rw b (here, done_well ((history.made (entries o (ds ++ ps)) o.first).page n) here (ap (made t x.lsn op) (sym (now n small) ∙ ap (contents v pool).page (sym same)) ∙ fits)))
          (λ differ. let b = other_test p n differ in rw b here)
          (cases_eq p n)

  page_here : (n : ℕ) → n < o.super.pages → IsWell ((history.made (entries o (ds ++ ps)) o.first).page n)
  page_here n small = subst IsWell (e.engine.joined.page n small) (page_well o v log ds ps _ (contents v pool) n e.engine small)

  -- a record of a band, and one of neither, always may
  pub band_may : (b at : ℕ) (bytes : List ℕ) → b < o.super.bands → o.effect x.lsn r ≡ ChangesBand b at bytes → DoesToBand o (ds ++ ps) x b at bytes
  band_may b at bytes lt effect = record {
    effect = effect;
    appends = record { rises = rises_next; sets = λ n small. subst (λ (f : Effect). AllSetNumber (page_change n x.lsn f)) (sym effect) tt; fits = λ n small. subst (λ (f : Effect). AllFit (page_change n x.lsn f) ((history.made (entries o (ds ++ ps)) o.first).page n)) (sym effect) tt; well = λ n small. subst (λ (f : Effect). AllWell (page_change n x.lsn f) ((history.made (entries o (ds ++ ps)) o.first).page n)) (sym effect) (page_here n small); there = subst (IsThere (geometry o.super)) (sym effect) lt };
  }

  pub nothing_may : o.effect x.lsn r ≡ ChangesNothing → DoesNothing o (ds ++ ps) x
  nothing_may effect = record {
    effect = effect;
    appends = record { rises = rises_next; sets = λ n small. subst (λ (f : Effect). AllSetNumber (page_change n x.lsn f)) (sym effect) tt; fits = λ n small. subst (λ (f : Effect). AllFit (page_change n x.lsn f) ((history.made (entries o (ds ++ ps)) o.first).page n)) (sym effect) tt; well = λ n small. subst (λ (f : Effect). AllWell (page_change n x.lsn f) ((history.made (entries o (ds ++ ps)) o.first).page n)) (sym effect) (page_here n small); there = subst (IsThere (geometry o.super)) (sym effect) tt };
  }

-- A STORE WITHOUT A RECORD is an engine: what the disk has is the first home area
pub fresh : (o : Origin) (v : View) (log : Tail) (pool : Pool) → sizes pool ≡ geometry o.super → superblock (v.now Home).seen ≡ Ok o.super → IsLogOf o.super log → Holds v log [] [] → Backs (sizes pool) v pool
    → ((n : ℕ) → (contents v pool).page_since n ≡ None) → ((b : ℕ) → (contents v pool).band_since b ≡ None) → o.first ≡ home_in (geometry o.super) (v.now Home).seen → EachPage (geometry o.super) (λ n. IsWell (o.first.page n) × IsNumbered log.gate (o.first.page n)) → IsEngine o v log [] [] pool
fresh o v log pool size super place held backs pages bands first homes =
    let backed : IsBacked (geometry o.super) (v.now Home) (contents v pool) = subst (λ (g : Geometry). IsBacked g (v.now Home) (contents v pool)) size backs in
    record {
      sizes = size;
      engine = record {
        super = super;
        place = place;
        held = held;
        backed = backed;
        history = record { rises = tt; sets = λ n lt. tt; fits = λ n lt. tt; well = λ n lt. (homes n lt).0; there = tt };
        started = λ n lt. (homes n lt).1;
        joined = record {
          page = λ n lt. sym (backed.pages n lt (pages n)) ∙ sym (ap (λ (h : Homes). h.page n) first);
          byte = λ b i lt small. sym (backed.bytes b i lt small (backed.clean b i (bands b))) ∙ sym (ap (λ (h : Homes). h.byte b i) first);
          page_home = λ n lt. subst (λ (s : Option ℕ). PageHome [] log.gate n s (o.first.page n) (page_at (v.now Home).seen (home_at n))) (sym (pages n)) tt;
          byte_home = λ b i lt small. subst (λ (s : Option ℕ). ByteHome [] log.gate b i s ((contents v pool).marked b i) (o.first.byte b i) ((v.now Home).seen (band_byte (geometry o.super) b i))) (sym (bands b)) tt;
        };
        lasts = λ b k lt is. let no : None ≡ Some k = sym (bands b) ∙ is in let bad : ⊥ = cc in absurd bad;
        below = λ n k lt is. let no : None ≡ Some k = sym (pages n) ∙ is in let bad : ⊥ = cc in absurd bad;
        behind = record {
          pages = λ n k lt is. let no : None ≡ Some k = sym (pages n) ∙ is in let bad : ⊥ = cc in absurd bad;
          bands = λ b k lt is. let no : None ≡ Some k = sym (bands b) ∙ is in let bad : ⊥ = cc in absurd bad;
        };
      };
      logged = λ b k is. let no : None ≡ Some k = sym (bands b) ∙ is in let bad : ⊥ = cc in absurd bad;
    }
