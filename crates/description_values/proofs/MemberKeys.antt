-- The keys of a table are the keys of its members.
use Rattle.std.proofs.Common.{◌≡◌, ℕ, Bool, ◌&&◌, List, [], ◌∷◌, String, Global, string_bytes, refl, ap}
use Rattle.std.specs.List.{list_all}
use Rattle.std.specs.Map.{keys_of}
use Rattle.toml.specs.View.{members_view}
use Rattle.toml.specs.declared.value.Value.{Value}
use Rattle.description_values.specs.KnownKeys.{all_keys}

pub all_keys-members_view : (p : List ℕ → Bool) (es : List (String Global × Value))
    → list_all (λ key. p (string_bytes key)) (keys_of es) ≡ all_keys p (members_view es)
all_keys-members_view p [] = refl
all_keys-members_view p (e ∷ es) = ap (λ b. p (string_bytes e.0) && b) (all_keys-members_view p es)
