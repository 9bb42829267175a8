-- The commuting from cells: what a verb and the undoing of a note touch.
use Rattle.std.specs.Prelude.{◌≡◌, ℕ, Bool, true, false, ◌||◌, List, Option, Some}
use Rattle.sg_recovery.specs.Setting.{Setting}

-- K: the cells, tombstones among them, each as a cell of its name.  A: what a cell holds, its absence too. A length's and
-- a body's cell hold the peak too, which unstep looks at; peaks of tables and of the catalogue stand in no cell.
pub record Cells : Type 1 where
  pub X : Type 0
  pub C : Type 0
  pub O : Type 0
  pub S : Type 0
  pub N : Type 0
  pub V : Type 0
  pub K : Type 0
  pub A : K → Type 0
  pub W : Type 0
  pub apply : X → C → X
  pub fits : X → C → Bool
  pub inverse : C → C
  pub reading : X → Option O
  pub unstep : O → N → List C → Option O
  pub free : O → ℕ
  pub wants : N → Bool
  pub objects : O → S
  pub step : S → V → S
  pub at : O → (c : K) → A c
  -- the cells of objects; the others are tombstones
  pub seen : K → Bool
  -- the second is the same value, with a peak that isn't lower
  pub Le : (c : K) → A c → A c → Type 0
  -- finite sets of cells
  pub has : W → K → Bool
  pub inside : W → W → Bool
  -- what the undoing of a note in a reading looks at or changes
  pub touched : O → N → List C → W
  -- a verb comes with the cells that it touches; in this reading these are they, and this it leaves in those it writes
  pub reads : V → K → Bool
  pub writes : V → K → Bool
  pub IsAt : V → O → Type 0
  pub result : V → O → (c : K) → A c

abbrev pub After : (k : Cells) → k.V → k.O → k.O → Type 0
After k v o p = k.IsAt v o × ((c : k.K) → k.writes v c ≡ true → k.at p c ≡ k.result v o c) × ((c : k.K) → k.writes v c ≡ false → k.at p c ≡ k.at o c)

-- undone in another reading that has no less in the cells touched, a note does the same
pub record Undone (k : Cells) (n : k.N) (cs : List k.C) (o o1 p : k.O) : Type 0 where
  pub end : k.O
  pub is : k.unstep p n cs ≡ Some end
  pub same : k.touched p n cs ≡ k.touched o n cs
  pub inner : (c : k.K) → k.has (k.touched o n cs) c ≡ true → k.Le c (k.at o1 c) (k.at end c)
  pub exact : ((c : k.K) → k.has (k.touched o n cs) c ≡ true → k.at p c ≡ k.at o c) → (c : k.K) → k.has (k.touched o n cs) c ≡ true → k.at end c ≡ k.at o1 c
  pub outer : (c : k.K) → k.has (k.touched o n cs) c ≡ false → k.at end c ≡ k.at p c

pub record CellLaws (k : Cells) : Type 0 where
  pub le_same : (c : k.K) (x : k.A c) → k.Le c x x
  pub le_trans : (c : k.K) (x y z : k.A c) → k.Le c x y → k.Le c y z → k.Le c x z
  pub inside_has : (a b : k.W) (c : k.K) → k.inside a b ≡ true → k.has a c ≡ true → k.has b c ≡ true
  pub objects_seen : (o p : k.O) → ((c : k.K) → k.seen c ≡ true → k.Le c (k.at o c) (k.at p c)) → k.objects o ≡ k.objects p
  pub note_local : (n : k.N) (cs : List k.C) (o o1 p : k.O) → k.unstep o n cs ≡ Some o1 → ((c : k.K) → k.has (k.touched o n cs) c ≡ true → k.Le c (k.at o c) (k.at p c)) → Undone k n cs o o1 p
  pub verb_local : (v : k.V) (o p : k.O) → k.IsAt v o → ((c : k.K) → (k.reads v c || k.writes v c) ≡ true → k.at p c ≡ k.at o c) → k.IsAt v p × ((c : k.K) → k.writes v c ≡ true → k.result v p c ≡ k.result v o c)
  pub verb_step : (v : k.V) (o p : k.O) → After k v o p → k.objects p ≡ k.step (k.objects o) v

-- the setting of these cells
abbrev pub setting_of : Cells → Setting
setting_of k = record {
  X = k.X;
  C = k.C;
  O = k.O;
  S = k.S;
  N = k.N;
  V = k.V;
  apply = k.apply;
  fits = k.fits;
  inverse = k.inverse;
  reading = k.reading;
  unstep = k.unstep;
  free = k.free;
  wants = k.wants;
  objects = k.objects;
  step = k.step;
  Below = λ o p. (c : k.K) → k.Le c (k.at o c) (k.at p c);
  After = After k;
  W = k.W;
  Freed = λ f o p. ((c : k.K) → k.has f c ≡ false → k.at p c ≡ k.at o c) × ((c : k.K) → k.has f c ≡ true → k.seen c ≡ false);
  can_undo = λ o n cs w. k.inside (k.touched o n cs) w;
  Within = λ a b. (c : k.K) → k.has a c ≡ true → k.has b c ≡ true;
  Clear = λ v held. (c : k.K) → k.has held c ≡ true → (k.reads v c || k.writes v c) ≡ false;
  Apart = λ f held. (c : k.K) → k.has held c ≡ true → k.has f c ≡ false;
  Writes = λ v w. (c : k.K) → k.has w c ≡ true → k.writes v c ≡ true;
}
