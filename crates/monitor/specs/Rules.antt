-- What a packet or a finding fails by itself (ETSI TR 101 290, 5.2).
use Rattle.std.specs.Prelude.{ℕ, if◌then◌else◌, List, [], ◌∷◌, Option, Some, None, Result, Ok, Err}
use Rattle.psi_tables.specs.declared.error.SectionError.TheVariants as section_errors
use Rattle.ts_packet.specs.declared.packet.PacketError.{PacketError}
use Rattle.ts_packet.specs.declared.packet.PacketError.TheVariants as refusals
use Rattle.ts_packet.specs.Views.{PacketView}
use Rattle.pid_findings.specs.Views.{WhatView, BreaksCounter, IsBadSection}
use Rattle.monitor.specs.declared.fault.StreamFault.{StreamFault}
use Rattle.monitor.specs.declared.fault.Rule.{Rule}
use Rattle.monitor.specs.declared.fault.Rule.TheVariants as rules

-- a packet that is refused, or that says itself that it is wrong
unfoldable pub packet_rule : Result PacketView PacketError → Option Rule
packet_rule (Err refusals.Sync) = Some rules.Sync
packet_rule (Err error) = Some rules.Packet
packet_rule (Ok packet) = if packet.header.transport_error_indicator then Some rules.Error else None

-- a continuity_counter that does not follow, a section that is refused
unfoldable pub finding_rule : WhatView → Option Rule
finding_rule (BreaksCounter expected found) = Some rules.Counter
finding_rule (IsBadSection section_errors.CheckWord) = Some rules.Crc
finding_rule (IsBadSection error) = Some rules.Section
finding_rule what = None

abbrev pub fault : Rule → Option ℕ → ℕ → StreamFault
fault rule pid packet = record { packet = packet; rule = rule; pid = pid }

-- the fault of a rule, if there is one
unfoldable pub failing : Option ℕ → ℕ → Option Rule → List StreamFault
failing pid packet None = []
failing pid packet (Some rule) = fault rule pid packet ∷ []
