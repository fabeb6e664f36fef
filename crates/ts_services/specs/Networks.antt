-- The network where a stream's services originate: original_network_id of its service description table (EN 300 468, 5.2.3).
use Rattle.std.specs.Prelude.{ℕ, List, [], ◌∷◌, Option, None, option_map}
use Rattle.std.specs.Option.{option_or}
use Rattle.pid_findings.specs.Views.{FindingView}
use Rattle.ts_services.specs.ServiceDescriptions.{sdt_found}

-- the network by the table that a finding has
unfoldable pub network_found : FindingView → Option ℕ
network_found finding = option_map (λ sdt. sdt.original_network_id) (sdt_found finding)

-- the network by the first table of a stream
unfoldable pub network : List FindingView → Option ℕ
network [] = None
network (finding ∷ findings) = option_or (network_found finding) (network findings)
