-- The name that options give to the service of a program, and the original_network_id that they give.
use Rattle.std.specs.Prelude.{ℕ, ◌==◌, List, Option, option_and_then}
use Rattle.std.specs.List.{find}
use Rattle.given_values.specs.GivenNames.{NetworkNameView, ServiceNameView}

-- the first that is given to a program
unfoldable pub name_given : ℕ → List ServiceNameView → Option ServiceNameView
name_given number names = find (λ n. n.program == number) names

unfoldable pub original_given : Option NetworkNameView → Option ℕ
original_given network = option_and_then (λ n. n.original) network
