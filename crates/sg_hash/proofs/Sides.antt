-- Tables side by side.
use Rattle.std.proofs.Common.{◌≡◌, ℕ, Option}
use Rattle.sg_base.specs.Sheet.{Sheet}
use Rattle.sg_space.specs.Owned.{AreApart}
use Rattle.sg_space.specs.View.{Space}
use Rattle.sg_space.proofs.Owners.{stays, two_stay}
use Rattle.sg_hash.specs.Table.{HashTable, IsHashTable, Owns}
use Rattle.sg_hash.specs.Beside.{AreTwo}
use Rattle.sg_hash.specs.Calls.{Turns, IsMade, IsGone}
use Rattle.sg_hash.proofs.Owning.{owns_there}
use Rattle.sg_hash.proofs.Splitting.{built_stays}

-- a table whose pages haven't changed is still there
pub table_stays : {old new : ℕ → Option Sheet} {root : ℕ} {t : HashTable} → IsHashTable old root t → ((p : ℕ) → Owns root t p → new p ≡ old p) → IsHashTable new root t
table_stays h same = record { built = built_stays h.built same; many = h.many; home = h.home; grown = h.grown; longest = h.longest }

are_apart : (s : Space) {root other : ℕ} {t u : HashTable} → AreTwo s.pages.at root t other u → AreApart s.pages (Owns root t) (Owns other u)
are_apart s h = record { apart = h.apart; there = λ p o. owns_there h.two.built p o }

pub two_turn : {old new : Space} {root other : ℕ} {t t' u : HashTable} → AreTwo old.pages.at root t other u → Turns old new root t t' → AreTwo new.pages.at root t' other u
two_turn {old} h x = record {
  one = x.table;
  two = table_stays h.two (stays x.pages (are_apart old h));
  apart = (two_stay x.pages (are_apart old h)).apart;
}

pub made_apart : {old new : Space} {root other : ℕ} {t u : HashTable} → IsHashTable old.pages.at other u → IsMade old new root t → AreTwo new.pages.at root t other u
made_apart {old} {new} {root} {other} {t} {u} h m =
    let two : AreApart old.pages (λ _. ⊥) (Owns other u) = record { apart = λ p none o. none; there = λ p o. owns_there h.built p o } in
    record {
      one = m.table;
      two = table_stays h (stays m.pages two);
      apart = (two_stay m.pages two).apart;
    }

pub gone_stays : {old new : Space} {root other : ℕ} {t u : HashTable} → AreTwo old.pages.at root t other u → IsGone old new root t → IsHashTable new.pages.at other u
gone_stays {old} h g = table_stays h.two (stays g.pages (are_apart old h))
