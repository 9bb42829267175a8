-- How many pages an array wants.
use Rattle.std.proofs.Common.{◌≡◌, ℕ, ◌+◌, ◌-◌, ◌*◌, ◌/◌, ◌<◌, ◌≤◌, length, Option, sym, ap, ◌∙◌, arith}
use Rattle.std.proofs.lemmas.Nat.{div-mul-add}
use Rattle.sg_base.specs.Sheet.{Sheet}
use Rattle.sg_array.specs.Array.{Array, IsArray, per_page, rounded_up}
use Rattle.sg_array.proofs.Places.{per_page-least}

-- a number of parts that hold so much, and no part more, is what is rounded up
pub rounded_is : (n each parts : ℕ) → 0 < each → n ≤ each * parts → each * parts < n + each → rounded_up n each ≡ parts
rounded_is n each parts some least most =
    let rest : n + (each - 1) - each * parts < each = omega arith in
    let sum : n + (each - 1) ≡ parts * each + (n + (each - 1) - each * parts) = omega arith in
    ap (λ (x : ℕ). x / each) sum ∙ div-mul-add parts each (n + (each - 1) - each * parts) rest

pub leaves_wanted : {pages : ℕ → Option Sheet} {root size peak leaves : ℕ} {a : Array} → IsArray pages root a → size ≡ a.size → peak ≡ a.peak → leaves ≡ rounded_up peak (per_page size) → length a.leaves ≡ leaves
leaves_wanted {size = size} {peak = peak} {a = a} h s p e =
    let some : 15 ≤ per_page a.size = per_page-least a.size h.built.limits.small in
    let is : rounded_up a.peak (per_page a.size) ≡ length a.leaves = rounded_is a.peak (per_page a.size) (length a.leaves) (omega arith) h.built.leaf_least h.leaf_most in
    sym (e ∙ (ap (λ (n : ℕ). rounded_up n (per_page size)) p ∙ (ap (λ (n : ℕ). rounded_up a.peak (per_page n)) s ∙ is)))

pub index_wanted : {pages : ℕ → Option Sheet} {root leaves index : ℕ} {a : Array} → IsArray pages root a → length a.leaves ≡ leaves → index ≡ rounded_up leaves 509 → length a.index ≡ index
index_wanted h l e =
    let least = h.built.names.index_least in
    let most = h.index_most in
    omega arith
