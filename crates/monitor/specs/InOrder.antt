-- Faults in order: by packet, then by the number of the rule, then by PID; each once.
use Rattle.std.specs.Prelude.{ℕ, ◌==◌, nat_lt, Bool, true, false, if◌then◌else◌, List, [], ◌∷◌, Option, Some, None}
use Rattle.monitor.specs.declared.fault.StreamFault.{StreamFault}
use Rattle.monitor.specs.declared.fault.Rule.{Rule}
use Rattle.monitor.specs.declared.fault.Rule.TheVariants as rules

-- the numbers of the rules
unfoldable pub rule_number : Rule → ℕ
rule_number rules.Sync = 1
rule_number rules.Packet = 2
rule_number rules.Error = 3
rule_number rules.Counter = 4
rule_number rules.Crc = 5
rule_number rules.Section = 6
rule_number rules.Pat = 7
rule_number rules.Pmt = 8
rule_number rules.Nit = 9
rule_number rules.Sdt = 10
rule_number rules.Eit = 11
rule_number rules.Tdt = 12
rule_number rules.Pcr = 13
rule_number rules.Pts = 14
rule_number rules.Cut = 15

-- a fault without a PID comes before each with one
unfoldable pub pid_before : Option ℕ → Option ℕ → Bool
pid_before None None = false
pid_before None (Some q) = true
pid_before (Some p) None = false
pid_before (Some p) (Some q) = nat_lt p q

unfoldable pub is_before : StreamFault → StreamFault → Bool
is_before f g =
    if f.packet == g.packet
    then (if rule_number f.rule == rule_number g.rule then pid_before f.pid g.pid else nat_lt (rule_number f.rule) (rule_number g.rule))
    else nat_lt f.packet g.packet

-- a fault in its place, unless it is there
unfoldable pub placed : StreamFault → List StreamFault → List StreamFault
placed f [] = f ∷ []
placed f (g ∷ faults) = if is_before f g then f ∷ g ∷ faults else (if is_before g f then g ∷ placed f faults else g ∷ faults)

unfoldable pub in_order : List StreamFault → List StreamFault
in_order [] = []
in_order (f ∷ faults) = placed f (in_order faults)
