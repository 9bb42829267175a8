-- The units joined to the log: what goes home, what comes of a record, and what a call of the pool leaves.
use Rattle.std.proofs.Common.{◌≡◌, ◌⊎◌, inl, inr, ⊎_elim, ◌<◌, ◌≤◌, ℕ, Bool, true, false, Option, Some, None, unwrap_or, List, [], ◌∷◌, ◌++◌, refl, sym, ◌∙◌, ap, subst, arith}
use Rattle.sg_base.specs.Page.{lsn_of}
use Rattle.sg_disk.specs.Disk.{Bytes, Part}
use Rattle.sg_gate.specs.Layout.{home_at}
use Rattle.sg_redo.specs.History.{OnPage, OnByte, number_of, repeated, rewritten}
use Rattle.sg_pool.specs.Units.{Geometry, EachPage, EachByte, Units, IsBacked, IsGoing, IsCleaned, page_at, band_byte}
use Rattle.sg_engine.specs.Numbers.{below, Rises, AllUnder}
use Rattle.sg_engine.specs.History.{Entry, Homes, entry_number, byte_number, page_change, byte_change, of_page, of_byte, IsHistory, IsNumbered, IsCoveredFrom}
use Rattle.sg_engine.specs.Kept.{home_in, IsPageVersion, IsByteKept, IsKept, PageHome, ByteHome, IsJoined, AreLast, page_estimate, band_estimate}
use Rattle.sg_engine.proofs.Units.{byte_one, byte_under}
use Rattle.sg_engine.proofs.Steps as hist

-- a page's home at rest
page_kept : (all : List Entry) (d n tail : ℕ) (o : Option ℕ) (s p q : List ℕ) → (o ≡ None → p ≡ q) → q ≡ repeated (of_page n all) s → PageHome all d n o s p → IsPageVersion all d (unwrap_or o tail) n s p
page_kept all d n tail None s p q same is home = hist.current_page all d tail n s p (record { is = same refl ∙ is; durable = home })
page_kept all d n tail (Some o) s p q same is home = home

byte_kept : (all : List Entry) (d b i tail : ℕ) (o : Option ℕ) (marked : Bool) (s x y : ℕ) → (o ≡ None → marked ≡ false) → (marked ≡ false → x ≡ y) → y ≡ rewritten (of_byte b i all) s → ByteHome all d b i o marked s x → IsByteKept all d (unwrap_or o tail) b i s x
byte_kept all d b i tail None marked s x y clean same is home = inl (hist.current_byte all d tail b i s x (record { is = same (clean refl) ∙ is; durable = home }))
byte_kept all d b i tail (Some o) marked s x y clean same is home = home.0

-- AT REST each image keeps the invariant, with the pool's estimates
pub rest_kept : (g : Geometry) (first : Homes) (all : List Entry) (d tail : ℕ) (p : Part) (m : Units) → IsBacked g p m → IsJoined g first all d p.seen m → IsKept g first all d (page_estimate tail m) (band_estimate tail m) (home_in g p.seen)
rest_kept g first all d tail p m backed joined = record {
  pages = λ n lt. page_kept all d n tail (m.page_since n) (first.page n) (page_at p.seen (home_at n)) (m.page n) (backed.pages n lt) (joined.page n lt) (joined.page_home n lt);
  bytes = λ b i is_band is_byte. byte_kept all d b i tail (m.band_since b) (m.marked b i) (first.byte b i) (p.seen (band_byte g b i)) (m.byte b i) (backed.clean b i) (backed.bytes b i is_band is_byte) (joined.byte b i is_band is_byte) (joined.byte_home b i is_band is_byte);
}

-- a marked byte whose records are durable is covered by them
byte_covered : (all : List Entry) (d b i tail : ℕ) (o : Option ℕ) (marked : Bool) (s x : ℕ) → (o ≡ None → marked ≡ false) → ByteHome all d b i o marked s x → marked ≡ true → ((k : ℕ) → o ≡ Some k → AllUnder byte_number d (of_byte b i all))
    → IsCoveredFrom (unwrap_or o tail) (below byte_number d (of_byte b i all))
byte_covered all d b i tail None marked s x clean home is durable = let not = clean refl in let none : ⊥ = cc in absurd none
byte_covered all d b i tail (Some o) marked s x clean home is durable = subst (λ (l : List OnByte). IsCoveredFrom o l) (sym (hist.under_below byte_number d d (of_byte b i all) (durable o refl) (omega arith))) (home.1 is)

-- WHAT THE POOL'S CLAUSE ON MOMENTS COMES TO: an image of a moment keeps the invariant
pub going_kept : (g : Geometry) (first : Homes) (all : List Entry) (d tail : ℕ) (last : ℕ → ℕ) (p : Part) (m : Units) (now : Bytes) → IsHistory g first all → AreLast g all last m → IsBacked g p m → IsJoined g first all d p.seen m
    → IsGoing g d last p.seen m now → IsKept g first all d (page_estimate tail m) (band_estimate tail m) (home_in g now)
going_kept g first all d tail last p m now history are_last backed joined going =
    hist.written g first all d (page_estimate tail m) (band_estimate tail m) (home_in g p.seen) (home_in g now)
    (λ n lt. ⊎_elim
    (λ same. inl same)
    (λ gone. inr (record { is = gone.0 ∙ joined.page n lt; durable = hist.may_go g first all d n (m.page n) history lt (joined.page n lt) gone.1 }))
    (going.pages n lt))
    (λ b i is_band is_byte. ⊎_elim
    (λ same. inl same)
    (λ gone. inr (byte_covered all d b i tail (m.band_since b) (m.marked b i) (first.byte b i) (p.seen (band_byte g b i)) (backed.clean b i) (joined.byte_home b i is_band is_byte) gone.0
    (λ k is. byte_under b i d all (are_last b k is_band is d gone.1))))
    (going.bytes b i is_band is_byte))
    (rest_kept g first all d tail p m backed joined)

-- THE STEP OF A RECORD: the units follow it
abbrev pub since : ℕ → Option ℕ → Option ℕ
since l None = Some l
since l (Some o) = Some o

abbrev pub changed_page : Entry → ℕ → Option ℕ → List OnPage → Option ℕ
changed_page x n o [] = o
changed_page x n o (r ∷ rs) = since x.lsn o

-- THE UNITS FOLLOW THE RECORD x
pub record IsFollowed (g : Geometry) (x : Entry) (m m' : Units) : Type 0 where
  pub page : EachPage g (λ n. m'.page n ≡ repeated (page_change n x.lsn x.effect) (m.page n))
  pub byte : EachByte g (λ b i. m'.byte b i ≡ rewritten (byte_change b i x.lsn x.effect) (m.byte b i))
  pub page_since : EachPage g (λ n. m'.page_since n ≡ changed_page x n (m.page_since n) (page_change n x.lsn x.effect))
  pub band_since : (b : ℕ) → b < g.bands → (m'.band_since b ≡ since x.lsn (m.band_since b)) ⊎ ((m'.band_since b ≡ m.band_since b) × ((i : ℕ) → byte_change b i x.lsn x.effect ≡ []))
  pub marked : EachByte g (λ b i. ((m'.marked b i ≡ m.marked b i) × (byte_change b i x.lsn x.effect ≡ [])) ⊎ ((m'.marked b i ≡ true) × ((byte_change b i x.lsn x.effect ≡ []) → ⊥)))

page_home_more : (all : List Entry) (x : Entry) (d n : ℕ) (o : Option ℕ) (part : List OnPage) (s p q : List ℕ) → Rises entry_number 1 (all ++ x ∷ []) → unwrap_or o x.lsn ≤ x.lsn → page_change n x.lsn x.effect ≡ part → (o ≡ None → p ≡ q) → q ≡ repeated (of_page n all) s
    → PageHome all d n o s p → PageHome (all ++ x ∷ []) d n (changed_page x n o part) s p
page_home_more all x d n None [] s p q rises low none same is home = subst (λ (l : List OnPage). AllUnder number_of d l) (sym (hist.split_page n all x ∙ ap (λ (l : List OnPage). of_page n all ++ l) none ∙ hist.append_none (of_page n all))) home
page_home_more all x d n None (r ∷ rs) s p q rises low one same is home = hist.page_appended all x d x.lsn n s p rises (omega arith) (hist.current_page all d x.lsn n s p (record { is = same refl ∙ is; durable = home }))
page_home_more all x d n (Some o) [] s p q rises low one same is home = hist.page_appended all x d o n s p rises low home
page_home_more all x d n (Some o) (r ∷ rs) s p q rises low one same is home = hist.page_appended all x d o n s p rises low home

-- a byte that the record writes is covered
covers : (all : List Entry) (x : Entry) (b i e : ℕ) → e ≤ x.lsn → ((byte_change b i x.lsn x.effect ≡ []) → ⊥) → IsCoveredFrom e (of_byte b i (all ++ x ∷ []))
covers all x b i e low some = ⊎_elim
    (λ none. absurd (some none))
    (λ one. subst (λ (l : List OnByte). IsCoveredFrom e l) (sym (hist.split_byte b i all x ∙ ap (λ (l : List OnByte). of_byte b i all ++ l) one.2)) (hist.covered_last e (of_byte b i all) one.0 (let same = one.1 in omega arith)))
    (byte_one b i x.lsn x.effect)

still : (all : List Entry) (x : Entry) (b i e : ℕ) → IsCoveredFrom e (of_byte b i all) → IsCoveredFrom e (of_byte b i (all ++ x ∷ []))
still all x b i e covered = subst (λ (l : List OnByte). IsCoveredFrom e l) (sym (hist.split_byte b i all x)) (hist.covered_front e (of_byte b i all) (byte_change b i x.lsn x.effect) covered)

marked_more : (all : List Entry) (x : Entry) (b i e : ℕ) (marked marked' : Bool) → e ≤ x.lsn → (marked ≡ true → IsCoveredFrom e (of_byte b i all)) → ((marked' ≡ marked) × (byte_change b i x.lsn x.effect ≡ [])) ⊎ ((marked' ≡ true) × ((byte_change b i x.lsn x.effect ≡ []) → ⊥))
    → marked' ≡ true → IsCoveredFrom e (of_byte b i (all ++ x ∷ []))
marked_more all x b i e marked marked' low was how is = ⊎_elim (λ same. still all x b i e (was (sym same.0 ∙ is))) (λ new. covers all x b i e low new.1) how

byte_home_since : (all : List Entry) (x : Entry) (d b i : ℕ) (o : Option ℕ) (marked marked' : Bool) (s y z : ℕ) → Rises entry_number 1 (all ++ x ∷ []) → unwrap_or o x.lsn ≤ x.lsn → (o ≡ None → marked ≡ false) → (marked ≡ false → y ≡ z) → z ≡ rewritten (of_byte b i all) s
    → ((marked' ≡ marked) × (byte_change b i x.lsn x.effect ≡ [])) ⊎ ((marked' ≡ true) × ((byte_change b i x.lsn x.effect ≡ []) → ⊥))
    → ByteHome all d b i o marked s y → ByteHome (all ++ x ∷ []) d b i (since x.lsn o) marked' s y
byte_home_since all x d b i None marked marked' s y z rises low clean same is how home = (
  hist.byte_appended all x d x.lsn b i s y rises (omega arith) (inl (hist.current_byte all d x.lsn b i s y (record { is = same (clean refl) ∙ is; durable = home }))),
  marked_more all x b i x.lsn marked marked' (omega arith) (λ set. let not = clean refl in let none : ⊥ = cc in absurd none) how,
)
byte_home_since all x d b i (Some o) marked marked' s y z rises low clean same is how home = (hist.byte_appended all x d o b i s y rises low home.0, marked_more all x b i o marked marked' low home.1 how)

byte_home_same : (all : List Entry) (x : Entry) (d b i : ℕ) (o : Option ℕ) (marked marked' : Bool) (s y : ℕ) → Rises entry_number 1 (all ++ x ∷ []) → unwrap_or o x.lsn ≤ x.lsn → byte_change b i x.lsn x.effect ≡ []
    → ((marked' ≡ marked) × (byte_change b i x.lsn x.effect ≡ [])) ⊎ ((marked' ≡ true) × ((byte_change b i x.lsn x.effect ≡ []) → ⊥))
    → ByteHome all d b i o marked s y → ByteHome (all ++ x ∷ []) d b i o marked' s y
byte_home_same all x d b i None marked marked' s y rises low none how home = subst (λ (l : List OnByte). AllUnder byte_number d l) (sym (hist.split_byte b i all x ∙ ap (λ (l : List OnByte). of_byte b i all ++ l) none ∙ hist.append_none (of_byte b i all))) home
byte_home_same all x d b i (Some o) marked marked' s y rises low none how home = (hist.byte_appended all x d o b i s y rises low home.0, marked_more all x b i o marked marked' low home.1 how)

pub joined_followed : (g : Geometry) (first : Homes) (all : List Entry) (x : Entry) (d : ℕ) (p : Part) (m m' : Units) → IsBacked g p m → IsJoined g first all d p.seen m → Rises entry_number 1 (all ++ x ∷ [])
    → EachPage g (λ n. page_estimate x.lsn m n ≤ x.lsn) → ((b : ℕ) → b < g.bands → band_estimate x.lsn m b ≤ x.lsn) → IsFollowed g x m m' → IsJoined g first (all ++ x ∷ []) d p.seen m'
joined_followed g first all x d p m m' backed joined rises pages_low bands_low changed = record {
  page = λ n lt. changed.page n lt ∙ ap (repeated (page_change n x.lsn x.effect)) (joined.page n lt) ∙ sym (ap (λ (l : List OnPage). repeated l (first.page n)) (hist.split_page n all x) ∙ hist.repeated_append (of_page n all) (page_change n x.lsn x.effect) (first.page n));
  byte = λ b i is_band is_byte. changed.byte b i is_band is_byte ∙ ap (rewritten (byte_change b i x.lsn x.effect)) (joined.byte b i is_band is_byte)
      ∙ sym (ap (λ (l : List OnByte). rewritten l (first.byte b i)) (hist.split_byte b i all x) ∙ hist.rewritten_append (of_byte b i all) (byte_change b i x.lsn x.effect) (first.byte b i));
  page_home = λ n lt. subst (λ (o : Option ℕ). PageHome (all ++ x ∷ []) d n o (first.page n) (page_at p.seen (home_at n))) (sym (changed.page_since n lt))
      (page_home_more all x d n (m.page_since n) (page_change n x.lsn x.effect) (first.page n) (page_at p.seen (home_at n)) (m.page n) rises (pages_low n lt) refl (backed.pages n lt) (joined.page n lt) (joined.page_home n lt));
  byte_home = λ b i is_band is_byte. ⊎_elim
      (λ is. subst (λ (o : Option ℕ). ByteHome (all ++ x ∷ []) d b i o (m'.marked b i) (first.byte b i) (p.seen (band_byte g b i))) (sym is)
      (byte_home_since all x d b i (m.band_since b) (m.marked b i) (m'.marked b i) (first.byte b i) (p.seen (band_byte g b i)) (m.byte b i) rises (bands_low b is_band) (backed.clean b i) (backed.bytes b i is_band is_byte) (joined.byte b i is_band is_byte) (changed.marked b i is_band is_byte) (joined.byte_home b i is_band is_byte)))
      (λ is. subst (λ (o : Option ℕ). ByteHome (all ++ x ∷ []) d b i o (m'.marked b i) (first.byte b i) (p.seen (band_byte g b i))) (sym is.0)
      (byte_home_same all x d b i (m.band_since b) (m.marked b i) (m'.marked b i) (first.byte b i) (p.seen (band_byte g b i)) rises (bands_low b is_band) (is.1 i) (changed.marked b i is_band is_byte) (joined.byte_home b i is_band is_byte)))
      (changed.band_since b is_band);
}

-- THE STEP OF A FORCE
under_more : {X : Type 0} (key : X → ℕ) (d d' : ℕ) (xs : List X) → d ≤ d' → AllUnder key d xs → AllUnder key d' xs
under_more key d d' [] le under = tt
under_more key d d' (x ∷ xs) le under = (let lt = under.0 in omega arith, under_more key d d' xs le under.1)

page_home_forced : (all : List Entry) (d d' n : ℕ) (o : Option ℕ) (s p : List ℕ) → d ≤ d' → PageHome all d n o s p → PageHome all d' n o s p
page_home_forced all d d' n None s p le home = under_more number_of d d' (of_page n all) le home
page_home_forced all d d' n (Some o) s p le home = hist.page_forced all d d' o n s p le home

byte_home_forced : (all : List Entry) (d d' b i : ℕ) (o : Option ℕ) (marked : Bool) (s x : ℕ) → d ≤ d' → ByteHome all d b i o marked s x → ByteHome all d' b i o marked s x
byte_home_forced all d d' b i None marked s x le home = under_more byte_number d d' (of_byte b i all) le home
byte_home_forced all d d' b i (Some o) marked s x le home = (hist.byte_forced all d d' o b i s x le home.0, home.1)

pub joined_forced : (g : Geometry) (first : Homes) (all : List Entry) (d d' : ℕ) (seen : Bytes) (m : Units) → d ≤ d' → IsJoined g first all d seen m → IsJoined g first all d' seen m
joined_forced g first all d d' seen m le joined = record {
  page = joined.page;
  byte = joined.byte;
  page_home = λ n lt. page_home_forced all d d' n (m.page_since n) (first.page n) (page_at seen (home_at n)) le (joined.page_home n lt);
  byte_home = λ b i is_band is_byte. byte_home_forced all d d' b i (m.band_since b) (m.marked b i) (first.byte b i) (seen (band_byte g b i)) le (joined.byte_home b i is_band is_byte);
}

-- THE STEP OF A CALL THAT TOOK UNITS HOME
-- a page that is clean now
page_home_clean : (g : Geometry) (first : Homes) (all : List Entry) (d n : ℕ) (o : Option ℕ) (p q m : List ℕ) → IsHistory g first all → n < g.pages → IsNumbered d (first.page n) → m ≡ repeated (of_page n all) (first.page n)
    → PageHome all d n o (first.page n) p → q ≡ m → (q ≡ p) ⊎ ((q ≡ m) × (lsn_of m < d)) → AllUnder number_of d (of_page n all)
page_home_clean g first all d n None p q m history lt start is home same how = home
page_home_clean g first all d n (Some o) p q m history lt start is home same how = ⊎_elim
    (λ as_was. hist.under_version g first all d o n p history lt start home (sym as_was ∙ same ∙ is))
    (λ gone. hist.may_go g first all d n m history lt is gone.1)
    how

page_home_gone : (g : Geometry) (first : Homes) (all : List Entry) (d n : ℕ) (o o' : Option ℕ) (p q m : List ℕ) → IsHistory g first all → n < g.pages → IsNumbered d (first.page n) → m ≡ repeated (of_page n all) (first.page n)
    → PageHome all d n o (first.page n) p → (o' ≡ o) ⊎ (o' ≡ None) → (o' ≡ None → q ≡ m) → (q ≡ p) ⊎ ((q ≡ m) × (lsn_of m < d)) → PageHome all d n o' (first.page n) q
page_home_gone g first all d n o None p q m history lt start is home which same how = page_home_clean g first all d n o p q m history lt start is home (same refl) how
page_home_gone g first all d n None (Some o') p q m history lt start is home which same how = let none : ⊥ = ⊎_elim (λ e. cc) (λ e. cc) which in absurd none
page_home_gone g first all d n (Some o) (Some o') p q m history lt start is home which same how = ⊎_elim
    (λ as_was. let e : Some o' ≡ Some o = ⊎_elim (λ e. e) (λ e. let none : ⊥ = cc in absurd none) which in subst (λ (k : Option ℕ). PageHome all d n k (first.page n) q) (sym e) (subst (λ (l : List ℕ). IsPageVersion all d o n (first.page n) l) (sym as_was) home))
    (λ gone. hist.current_page all d o' n (first.page n) q (record { is = gone.0 ∙ is; durable = hist.may_go g first all d n m history lt is gone.1 }))
    how

byte_home_gone : (all : List Entry) (d b i : ℕ) (o o' : Option ℕ) (marked marked' : Bool) (s x y : ℕ) → (o ≡ None → marked ≡ false) → ByteHome all d b i o marked s x → (o' ≡ o) ⊎ (o' ≡ None) → (marked' ≡ marked) ⊎ (marked' ≡ false)
    → ((k : ℕ) → o ≡ Some k → o' ≡ None → AllUnder byte_number d (of_byte b i all)) → (y ≡ x) ⊎ ((marked ≡ true) × ((k : ℕ) → o ≡ Some k → AllUnder byte_number d (of_byte b i all))) → ByteHome all d b i o' marked' s y
byte_home_gone all d b i None None marked marked' s x y clean home which marks gone how = home
byte_home_gone all d b i (Some o) None marked marked' s x y clean home which marks gone how = gone o refl refl
byte_home_gone all d b i None (Some o') marked marked' s x y clean home which marks gone how = let none : ⊥ = ⊎_elim (λ e. cc) (λ e. cc) which in absurd none
byte_home_gone all d b i (Some o) (Some o') marked marked' s x y clean home which marks gone how =
    let e : Some o' ≡ Some o = ⊎_elim (λ e. e) (λ e. let none : ⊥ = cc in absurd none) which in
    subst (λ (k : Option ℕ). ByteHome all d b i k marked' s y) (sym e) (
      ⊎_elim
          (λ same. subst (λ (z : ℕ). IsByteKept all d o b i s z) (sym same) home.0)
          (λ torn. inr (byte_covered all d b i 0 (Some o) marked s x clean home torn.0 torn.1))
          how,
      λ is. ⊎_elim (λ same. home.1 (sym same ∙ is)) (λ none. let no : ⊥ = cc in absurd no) marks,
    )

-- what a call that took units home leaves: the units that are clean now have all of their records below d
pub joined_gone : (g : Geometry) (first : Homes) (all : List Entry) (d : ℕ) (last : ℕ → ℕ) (p q : Part) (m m' : Units) → IsHistory g first all → EachPage g (λ n. IsNumbered d (first.page n)) → AreLast g all last m → IsBacked g p m → IsJoined g first all d p.seen m
    → IsCleaned g m m' → IsBacked g q m' → ((b o : ℕ) → b < g.bands → m.band_since b ≡ Some o → m'.band_since b ≡ None → last b < d) → IsGoing g d last p.seen m q.seen → IsJoined g first all d q.seen m'
joined_gone g first all d last p q m m' history start are_last was joined cleaned is gone going = record {
  page = λ n lt. cleaned.page n lt ∙ joined.page n lt;
  byte = λ b i is_band is_byte. cleaned.byte b i is_band is_byte ∙ joined.byte b i is_band is_byte;
  page_home = λ n lt. page_home_gone g first all d n (m.page_since n) (m'.page_since n) (page_at p.seen (home_at n)) (page_at q.seen (home_at n)) (m.page n) history lt (start n lt) (joined.page n lt) (joined.page_home n lt) (cleaned.page_since n lt)
      (λ none. is.pages n lt none ∙ cleaned.page n lt) (going.pages n lt);
  byte_home = λ b i is_band is_byte. byte_home_gone all d b i (m.band_since b) (m'.band_since b) (m.marked b i) (m'.marked b i) (first.byte b i) (p.seen (band_byte g b i)) (q.seen (band_byte g b i)) (was.clean b i) (joined.byte_home b i is_band is_byte) (cleaned.band_since b) (cleaned.marked b i)
      (λ k had none. byte_under b i d all (are_last b k is_band had d (gone b k is_band had none)))
      (⊎_elim (λ same. inl same) (λ torn. inr (torn.0, λ k had. byte_under b i d all (are_last b k is_band had d torn.1))) (going.bytes b i is_band is_byte));
}
