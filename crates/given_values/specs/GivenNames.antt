-- The names that options give to services and to the network.
use Rattle.std.specs.Prelude.{ℕ, List, Option}
use Rattle.given_values.specs.declared.given_names.NetworkName.{NetworkName}

-- the name of a program's service, and its provider if that is given too
pub record ServiceNameView : Type 0 where
  pub program : ℕ
  pub name : List ℕ
  pub provider : Option (List ℕ)

-- the network of the network information table (EN 300 468, 5.2.1), and original_network_id if that is given too
pub record NetworkNameView : Type 0 where
  pub id : ℕ
  pub name : List ℕ
  pub original : Option ℕ

abbrev pub network_name_view : NetworkName → NetworkNameView
network_name_view n = record { id = n.id; name = n.name.now; original = n.original }
