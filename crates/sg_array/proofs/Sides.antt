-- Arrays side by side.
use Rattle.std.proofs.Common.{◌≡◌, ℕ, Option, refl, inl, inr}
use Rattle.sg_base.specs.Sheet.{Sheet}
use Rattle.sg_space.specs.Owned.{AreApart}
use Rattle.sg_space.specs.View.{Space}
use Rattle.sg_space.proofs.Known.{moved}
use Rattle.sg_space.proofs.Owners.{stays, two_stay}
use Rattle.sg_array.specs.Array.{Array, IsArray, Owns}
use Rattle.sg_array.specs.Beside.{AreTwo}
use Rattle.sg_array.specs.Calls.{Turns, IsMade, IsGone, empty_array}
use Rattle.sg_array.proofs.Growth.{owns_there}

-- an array whose pages haven't changed is still there
pub array_stays : {old new : ℕ → Option Sheet} {root : ℕ} {a : Array} → IsArray old root a → ((p : ℕ) → Owns root a p → new p ≡ old p) → IsArray new root a
array_stays {root = root} h same =
    let b = h.built in
    let names = b.names in
    record {
      built = record {
        names = record {
          first = moved (same root (inl refl)) names.first;
          index = λ j p e. moved (same p (inr (inl (j, e)))) (names.index j p e);
          index_pages = names.index_pages;
          leaf_pages = names.leaf_pages;
          index_least = names.index_least;
        };
        leaf = λ d p e. moved (same p (inr (inr (d, e)))) (b.leaf d p e);
        leaf_least = b.leaf_least;
        limits = b.limits;
      };
      index_most = h.index_most;
      leaf_most = h.leaf_most;
    }

pub are_apart : (s : Space) {root other : ℕ} {a b : Array} → AreTwo s.pages.at root a other b → AreApart s.pages (Owns root a) (Owns other b)
are_apart s h = record { apart = h.apart; there = owns_there h.two.built }

-- where one of two arrays turns, the other stays, and they are still apart
pub two_turn : {old new : Space} {root other : ℕ} {a a' b : Array} → AreTwo old.pages.at root a other b → Turns old new root a a' → AreTwo new.pages.at root a' other b
two_turn {old} h t = record {
  one = t.array;
  two = array_stays h.two (stays t.pages (are_apart old h));
  apart = (two_stay t.pages (are_apart old h)).apart;
}

pub made_apart : {old new : Space} {root size other : ℕ} {b : Array} → IsArray old.pages.at other b → IsMade old new root size → AreTwo new.pages.at root (empty_array size) other b
made_apart {old} {new} {root} {size} {other} {b} h m =
    let two : AreApart old.pages (λ _. ⊥) (Owns other b) = record { apart = λ p none o. none; there = owns_there h.built } in
    record {
      one = m.array;
      two = array_stays h (stays m.pages two);
      apart = (two_stay m.pages two).apart;
    }

pub gone_stays : {old new : Space} {root other : ℕ} {a b : Array} → AreTwo old.pages.at root a other b → IsGone old new root a → IsArray new.pages.at other b
gone_stays {old} h g = array_stays h.two (stays g.pages (are_apart old h))
