-- A table is a map of keys to values.
use Rattle.std.proofs.Common.{◌≡◌, ℕ, Bool, true, false, cond, List, length, Option, Some, None, Ok, Err, refl, sym, ap, ◌∙◌, subst}
use Rattle.std.specs.Prelude.{◌==◌, nat_lt}
use Rattle.std.specs.FinMap.{get, insert, remove, empty}
use Rattle.std.specs.Str.{bytes_eq}
use Rattle.sg_ops.specs.Table.{Table as Operations}
use Rattle.sg_model.specs.declared.reason.Reason.TheVariants.{OutOfRange, TooLong}
use Rattle.sg_model.specs.Objects.{Entries, Object, Objects}
use Rattle.sg_model.specs.Objects.Object.{Table}
use Rattle.sg_model.specs.Verb.{Outcome, Verb}
use Rattle.sg_model.specs.Verb.Op.{On}
use Rattle.sg_model.specs.Verb.Verb.{MakeTable, Put, Del, Find}
use Rattle.sg_model.specs.Step.{step, on, put_at, at_key, put_value, put_reply, del_value, found, Update, updated, make}
use Rattle.sg_model.specs.Step.Update.{Stays, Becomes}
use Rattle.sg_model.proofs.Parts.{bytes_self}
use Rattle.sg_model.proofs.Footprint.{get_put_at}
use Rattle.stasis.specs.Tables.{AreMaps, HasTable, Makes, Puts, Takes, Finds}

-- what was put under a name is there, and under no other
pub there : (s : Objects) (name : List ℕ) (o : Option Object) → get (put_at s name o) name ≡ o
there s name o = get_put_at s name o name ∙ ap (λ b. cond b o (get s name)) (bytes_self name)

elsewhere : (s : Objects) (name other : List ℕ) (o : Option Object) → bytes_eq other name ≡ false → get (put_at s other o) name ≡ get s name
elsewhere s name other o apart = get_put_at s other o name ∙ ap (λ b. cond b o (get s name)) apart

-- a verb on a table, by what it makes of one
pub on_there : (t : Operations) (s : Objects) (name : List ℕ) (verb : Verb) (o : Option Object) (P : Outcome → Objects → Type 0) → get s name ≡ o
    → (let r = on t verb o in P r.0 (put_at s name r.1)) → (let r = step t s (On name verb) in P r.0 r.1)
unfolding step
on_there t s name verb o P is h = subst (λ x. let r = on t verb x in P r.0 (put_at s name r.1)) (sym is) h

-- a verb on a key, by what it decides of the value
by_key : (m : Entries) (key : List ℕ) (decide : Option (List ℕ) → Outcome × Update) (P : Outcome → Entries → Type 0) → P (Err OutOfRange) m → P (Err TooLong) m
    → (let r = decide (get m key) in P r.0 (updated m key r.1)) → (let r = at_key key decide m in P r.0 r.1)
by_key m key decide P none long done = go (length key == 0) (nat_lt 128 (length key))
  where
    go : (b c : Bool) → (let r = cond {A = Outcome × Entries} b (Err OutOfRange, m) (cond {A = Outcome × Entries} c (Err TooLong, m) (let r = decide (get m key) in (r.0, updated m key r.1))) in P r.0 r.1)
    go true c = none
    go false true = long
    go false false = done

module _ (t : Operations) (s : Objects) (name : List ℕ) where
  made : let r = step t s (On name MakeTable) in Makes name r.0 r.1
  made = on_there t s name MakeTable (get s name) (Makes name) refl (go (get s name))
    where
      go : (o : Option Object) → (let r = make (Table empty) o in Makes name r.0 (put_at s name r.1))
      go None = there s name (Some (Table empty))
      go (Some object) = tt

  module _ (m : Entries) (key : List ℕ) (is : HasTable s name m) where
    put : (value : List ℕ) → (let r = step t s (On name (Put key value)) in Puts name m key value r.0 r.1)
    put value = on_there t s name (Put key value) (Some (Table m)) (Puts name m key value) is
        (by_key m key (put_value value) (λ o n. Puts name m key value o (put_at s name (Some (Table n)))) (there s name (Some (Table m))) (there s name (Some (Table m)))
        (go (nat_lt 1024 (length value))))
      where
        had : (o : Option (List ℕ)) → get m key ≡ o → Puts name m key value (Ok (put_reply o)) (put_at s name (Some (Table (insert m key value))))
        had None e = (e, there s name (Some (Table (insert m key value))))
        had (Some old) e = ((old, e), there s name (Some (Table (insert m key value))))

        go : (b : Bool) → (let r = cond {A = Outcome × Update} b (Err TooLong, Stays) (Ok (put_reply (get m key)), Becomes value) in Puts name m key value r.0 (put_at s name (Some (Table (updated m key r.1)))))
        go true = there s name (Some (Table m))
        go false = had (get m key) refl

    taken : let r = step t s (On name (Del key)) in Takes name m key r.0 r.1
    taken = on_there t s name (Del key) (Some (Table m)) (Takes name m key) is
        (by_key m key del_value (λ o n. Takes name m key o (put_at s name (Some (Table n)))) (there s name (Some (Table m))) (there s name (Some (Table m)))
        (go (get m key) refl))
      where
        go : (o : Option (List ℕ)) → get m key ≡ o → (let r = del_value o in Takes name m key r.0 (put_at s name (Some (Table (updated m key r.1)))))
        go None e = (e, there s name (Some (Table m)))
        go (Some value) e = ((value, e), there s name (Some (Table (remove m key))))

    looked : let r = step t s (On name (Find key)) in Finds name m key r.0 r.1
    looked = on_there t s name (Find key) (Some (Table m)) (Finds name m key) is
        (by_key m key found (λ o n. Finds name m key o (put_at s name (Some (Table n)))) (there s name (Some (Table m))) (there s name (Some (Table m)))
        (go (get m key) refl))
      where
        go : (o : Option (List ℕ)) → get m key ≡ o → (let r = found o in Finds name m key r.0 (put_at s name (Some (Table (updated m key r.1)))))
        go None e = (e, there s name (Some (Table m)))
        go (Some value) e = (e, there s name (Some (Table m)))

apart : (t : Operations) (s : Objects) (name other : List ℕ) (verb : Verb) → bytes_eq other name ≡ false → get (step t s (On other verb)).1 name ≡ get s name
unfolding step
apart t s name other verb e = elsewhere s name other (on t verb (get s other)).1 e

pub are_maps : (t : Operations) → AreMaps t
are_maps t = record {
  made = made t;
  put = λ s name m key value is. put t s name m key is value;
  taken = λ s name m key is. taken t s name m key is;
  found = λ s name m key is. looked t s name m key is;
  apart = apart t;
}
