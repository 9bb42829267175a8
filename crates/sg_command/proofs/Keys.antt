-- The keys of a table's map beside those of its members.
use Rattle.std.proofs.Common.{◌≡◌, List, [], ◌∷◌, ◌&&◌, String, Global, string_bytes, refl, ap, BTreeMap}
use Rattle.std.specs.List.{list_all}
use Rattle.std.specs.BTreeMap.{keys}
use Rattle.std.specs.Map.{keys_of}
use Rattle.toml.specs.View.{members_view, table_view}
use Rattle.toml.specs.declared.value.Value.{Value}
use Rattle.sg_command.specs.Sizes.{is_size, are_sizes}

entries_by_keys : (es : List (String Global × Value)) → list_all (λ key. is_size (string_bytes key)) (keys_of es) ≡ are_sizes (members_view es)
entries_by_keys [] = refl
entries_by_keys (e ∷ es) = ap (λ b. is_size (string_bytes e.0) && b) (entries_by_keys es)

pub are_sizes_by_keys : (m : BTreeMap (String Global) Value) → list_all (λ key. is_size (string_bytes key)) (keys m) ≡ are_sizes (table_view m)
are_sizes_by_keys m = entries_by_keys m.entries
