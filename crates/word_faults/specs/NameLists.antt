-- Values that name services and the network: names with numbers before them, and colons between.
use Rattle.std.specs.Prelude.{ℕ, ◌==◌, ◌&&◌, nat_le, not, Bool, if◌then◌else◌, List, [], ◌∷◌, Option, Some, None, map, option_map}
use Rattle.std.specs.List.{list_all}
use Rattle.clap.specs.Words.{Text}
use Rattle.given_values.specs.GivenNames.{NetworkNameView, ServiceNameView}
use Rattle.word_faults.specs.Lists.{all_of, colon_parts, comma_parts, given, number_in}

-- no control character of ASCII: a description has a text on one line
abbrev pub is_printable : ℕ → Bool
is_printable byte = nat_le 32 byte && not (byte == 127)

abbrev pub are_printable : Text → Bool
are_printable text = list_all is_printable text

-- N:NAME or N:NAME:PROVIDER
unfoldable pub name_of : List Text → Option ServiceNameView
name_of (number ∷ name ∷ []) = option_map (λ n. record { program = n; name = name; provider = None }) (number_in 1 65535 number)
name_of (number ∷ name ∷ provider ∷ []) = option_map (λ n. record { program = n; name = name; provider = Some provider }) (number_in 1 65535 number)
name_of parts = None

abbrev pub all_names : List Text → Option (List ServiceNameView)
all_names texts = all_of (map (λ text. name_of (colon_parts text)) texts)

-- N:NAME:PROVIDER,..: no names if the option is not given
unfoldable pub name_list : Option Text → Option (List ServiceNameView)
name_list None = Some []
name_list (Some text) = if are_printable text then all_names (comma_parts text) else None

-- ID:NAME or ID:NAME:ORIGINAL
unfoldable pub network_with : Text → Text → Option Text → Option NetworkNameView
network_with id name None = option_map (λ n. record { id = n; name = name; original = None }) (number_in 0 65535 id)
network_with id name (Some original) =
    given (number_in 0 65535 id) (λ n. option_map (λ o. record { id = n; name = name; original = Some o }) (number_in 0 65535 original))

unfoldable pub network_of : List Text → Option NetworkNameView
network_of (id ∷ name ∷ []) = network_with id name None
network_of (id ∷ name ∷ original ∷ []) = network_with id name (Some original)
network_of parts = None

unfoldable pub network_in : Text → Option NetworkNameView
network_in text = if are_printable text then network_of (colon_parts text) else None

-- no network if the option is not given
unfoldable pub network_if_given : Option Text → Option (Option NetworkNameView)
network_if_given None = Some None
network_if_given (Some text) = option_map Some (network_in text)
