-- Whether there is room for an operation.
use Rattle.std.proofs.Common.{◌≡◌, ◌⊎◌, ℕ, ◌+◌, ◌<◌, ◌≤◌, Bool, true, false, List, Option, refl, sym, ap, ◌∙◌, subst, arith}
use Rattle.std.proofs.Common.{inl, inr, ltb-true, leb-true}
use Rattle.std.specs.Prelude.{nat_lt, ◌&&◌, ◌^◌, sum_by, IsOk, IsTrue, Ok, Err}
use Rattle.std.proofs.lemmas.Bool.Decides.{nat_tests}
use Rattle.sg_ops.specs.Table.{Table as Operations}
use Rattle.sg_model.specs.declared.reason.Reason.{Reason}
use Rattle.sg_model.specs.Verb.{Op}
use Rattle.sg_model.specs.Step.{step, is_changing}
use Rattle.sg_core.specs.Live.{Txn}
use Rattle.sg_run.specs.Run.{Run, live_objects}
use Rattle.sg_store.specs.declared.fault.Refused.TheVariants as refusals
use Rattle.sg_store.specs.declared.fault.ObjFault.{ObjFault}
use Rattle.sg_store.specs.declared.fault.ObjFault.TheVariants as faults
use Rattle.sg_store.specs.declared.fault.Needed.{Needed}
use Rattle.sg_store.specs.Ground.{Ground, IsLawful, setting}
use Rattle.sg_recovery.proofs.Basic.{some_one}
use Rattle.sg_store.specs.Engine.{View, Rested, pages_of}
use Rattle.sg_store.specs.Verbs.{Reads, HasNeed, HasNeeds}
use Rattle.sg_store.specs.Store.{Core, IsKept}
use Rattle.sg_store.specs.Calls.{Rooms, Stays, HadPages}
use Rattle.sg_store.specs.Room.{stock_of, ArePagesLeft, AreBandsLeft, LeavesRoom}
use Rattle.sg_room.specs.Bounds.{page_sum, band_sum}
use Rattle.sg_store.proofs.Holding.{reading, reads_so, objects_so, rested_kept}

both : (a b : Bool) → (a && b) ≡ true → (a ≡ true) × (b ≡ true)
both true b h = (refl, h)
both false b h = absurd (cc)

pub enough : (free reserved need : ℕ) → (nat_lt 0 need && nat_lt free (reserved + need)) ≡ false → (need ≡ 0) ⊎ (reserved + need ≤ free)
enough free reserved need h = go (nat_lt 0 need) (nat_lt free (reserved + need)) refl refl h
  where
    go : (a b : Bool) → nat_lt 0 need ≡ a → nat_lt free (reserved + need) ≡ b → (a && b) ≡ false → (need ≡ 0) ⊎ (reserved + need ≤ free)
    go true b e f k = inr (let g : nat_lt free (reserved + need) ≡ false = f ∙ k in grind (arith, nat_tests))
    go false b e f k = inl (grind (arith, nat_tests))

pub lacking : (free reserved need : ℕ) → (nat_lt 0 need && nat_lt free (reserved + need)) ≡ true → (0 < need) × (free < reserved + need)
lacking free reserved need h = let p = both (nat_lt 0 need) (nat_lt free (reserved + need)) h in let a : nat_lt 0 need ≡ true = p.0 in let b : nat_lt free (reserved + need) ≡ true = p.1 in (grind (arith, nat_tests), grind (arith, nat_tests))

-- it isn't too long for what changes something
pub not_over : (op : Op) (tail : ℕ) → (is_changing op && nat_lt (2 ^ 62) tail) ≡ false → is_changing op ≡ true → tail ≤ 2 ^ 62
not_over op tail h is = go (is_changing op) is h
  where
    go : (b : Bool) → b ≡ true → (b && nat_lt (2 ^ 62) tail) ≡ false → tail ≤ 2 ^ 62
    go true e k = grind (arith, nat_tests)
    go false e k = absurd (cc)

pub over : (op : Op) (tail : ℕ) → (is_changing op && nat_lt (2 ^ 62) tail) ≡ true → IsTrue (is_changing op) × (2 ^ 62 < tail)
over op tail h = let p = both (is_changing op) (nat_lt (2 ^ 62) tail) h in let b : nat_lt (2 ^ 62) tail ≡ true = p.1 in (p.0, grind (arith, nat_tests))

module _ (t : Operations) (g : Ground) (lawful : IsLawful t g) (v : View g) (x : Run) (k : Core) (kept : IsKept t g v k.live x) (w : View g) (op : Op) where
  o : g.O
  o = reading t g lawful v x k.live kept

  replies : (needs : Needed) → HasNeed t g (reading t g lawful v x k.live kept) op needs → IsOk (step t (live_objects t x) op).0
  replies needs h = subst (λ m. IsOk (step t m op).0) (objects_so t g lawful v x k.live kept) h.replies

  now : Rested t g v w → IsKept t g w k.live x
  now r = rested_kept t g lawful v x k.live kept w r

  pub rooms_model : (reason : Reason) → Rested t g v w → (step t (g.objects (reading t g lawful v x k.live kept)) op).0 ≡ Err reason → Rooms t g v w k k x op (Err (refusals.Model reason))
  rooms_model reason r e = (now r, ap (λ m. (step t m op).0) (sym (objects_so t g lawful v x k.live kept)) ∙ e, refl)

  pub rooms_refused : (reason : Reason) (f : ObjFault) → f ≡ faults.Model reason → HasNeeds t g v w (reading t g lawful v x k.live kept) op (Err f) → Rooms t g v w k k x op (Err (refusals.Model reason))
  rooms_refused reason f e h = let n = subst (λ z. HasNeeds t g v w (reading t g lawful v x k.live kept) op (Err z)) e h in rooms_model reason n.0 n.1

  pub stays_at : (u : View g) → w ≡ u → Stays t g v w x → Stays t g v u x
  stays_at u e h = subst (λ z. Stays t g v z x) e h

  reads_still : Rested t g v w → Reads t g w (reading t g lawful v x k.live kept)
  reads_still r =
      let old = reads_so t g lawful v x k.live kept in
      record {
        reading = subst (λ p. g.reading (Rattle.sg_recovery.specs.Stands.made (setting t g) p w.log) ≡ Rattle.std.proofs.Common.Some (reading t g lawful v x k.live kept)) (sym r.goes_on.first)
            (subst (λ (l : List (Rattle.sg_recovery.specs.Log.Numbered g.C g.N)). g.reading (Rattle.sg_recovery.specs.Stands.made (setting t g) v.first l) ≡ Rattle.std.proofs.Common.Some (reading t g lawful v x k.live kept)) (sym r.log) old.reading);
        free = r.pages ∙ old.free;
      }

  there : (o : g.O) → g.reading (pages_of t g v) ≡ Rattle.std.proofs.Common.Some o → (reading t g lawful v x k.live kept) ≡ o
  there o e = some_one (reading t g lawful v x k.live kept) o (sym (reads_so t g lawful v x k.live kept).reading ∙ e)

  had_pages : (needs : Needed) → Rested t g v w → HasNeed t g (reading t g lawful v x k.live kept) op needs → (needs.pages ≡ 0) ⊎ (sum_by (λ (i : Txn). i.reserved) k.live + needs.pages ≤ w.free_pages) → HadPages t g v k.live op
  had_pages needs r h p o e = go (g.needs t o op).pages (sym (h.pages ∙ ap (λ z. (g.needs t z op).pages) (there o e))) r.pages p
    where
      go : (n : ℕ) → n ≡ needs.pages → w.free_pages ≡ v.free_pages → (needs.pages ≡ 0) ⊎ (sum_by (λ (i : Txn). i.reserved) k.live + needs.pages ≤ w.free_pages) → (n ≡ 0) ⊎ (sum_by (λ (i : Txn). i.reserved) k.live + n ≤ v.free_pages)
      go n is f (inl z) = inl (is ∙ z)
      go n is f (inr le) = inr (omega (arith, is, f, le))

  pages_left : LeavesRoom t g v → (free : ℕ) → free ≡ v.free_pages → ArePagesLeft t g v free
  pages_left leaves free is o e = subst (λ n. g.sizes.pages ≤ n + page_sum (stock_of g o)) (sym is) (leaves o e).pages

  bands_left : LeavesRoom t g v → (free : ℕ) → free ≡ v.free_bands → AreBandsLeft t g v free
  bands_left leaves free is o e = ap (λ n. n + (g.sizes.map + band_sum (stock_of g o))) is ∙ (leaves o e).bands

  pub rooms_space : LeavesRoom t g v → (needs : Needed) (free reserved need : ℕ) → need ≡ needs.pages → free ≡ w.free_pages → reserved ≡ sum_by (λ (i : Txn). i.reserved) k.live → Rested t g v w → HasNeed t g (reading t g lawful v x k.live kept) op needs → (0 < need) × (free < reserved + need) → Rooms t g v w k k x op (Err (refusals.NoSpace free reserved need))
  rooms_space leaves needs free reserved need is f s r h p = (now r, replies needs h, p.0, p.1, refl, record { is_free = f ∙ r.pages; is_left = pages_left leaves free (f ∙ r.pages); are_reserved = s; is_needed = λ o e. is ∙ (h.pages ∙ ap (λ z. (g.needs t z op).pages) (there o e)) })

  pub rooms_bands : LeavesRoom t g v → (needs : Needed) (free need : ℕ) → need ≡ needs.bands → free ≡ w.free_bands → Rested t g v w → HasNeed t g (reading t g lawful v x k.live kept) op needs → (needs.pages ≡ 0) ⊎ (sum_by (λ (i : Txn). i.reserved) k.live + needs.pages ≤ w.free_pages) → free < need → Rooms t g v w k k x op (Err (refusals.NoBands free need))
  rooms_bands leaves needs free need is f r h enough p = (now r, replies needs h, p, refl, (had_pages needs r h enough, record { is_free = f ∙ r.bands; is_left = bands_left leaves free (f ∙ r.bands); is_needed = λ o e. is ∙ (h.bands ∙ ap (λ z. (g.needs t z op).bands) (there o e)) }))

  pub rooms_end : (needs : Needed) → Rested t g v w → HasNeed t g (reading t g lawful v x k.live kept) op needs → (needs.pages ≡ 0) ⊎ (sum_by (λ (i : Txn). i.reserved) k.live + needs.pages ≤ w.free_pages) → needs.bands ≤ w.free_bands → IsTrue (is_changing op) × (2 ^ 62 < w.tail) → Rooms t g v w k k x op (Err refusals.LogEnd)
  rooms_end needs r h enough some p = (
    now r,
    replies needs h,
    p.0,
    p.1,
    refl,
    record {
      pages = had_pages needs r h enough;
      bands = λ o e. (let n : needs.bands ≡ (g.needs t o op).bands = h.bands ∙ ap (λ z. (g.needs t z op).bands) (there o e) in let f : w.free_bands ≡ v.free_bands = r.bands in omega (arith, n, f, some));
    },
  )

  pub rooms_ok : (needs : Needed) → Rested t g v w → HasNeed t g (reading t g lawful v x k.live kept) op needs → (needs.pages ≡ 0) ⊎ (sum_by (λ (x : Txn). x.reserved) k.live + needs.pages ≤ w.free_pages) → needs.bands ≤ w.free_bands
      → Rooms t g v w k k x op (Ok needs)
  rooms_ok needs r h p b = (record { is_kept = now r; reading = reading t g lawful v x k.live kept; reads = reads_still r; need = h; pages = p; bands = b }, refl)
