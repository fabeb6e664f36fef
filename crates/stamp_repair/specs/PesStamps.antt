-- The stamps of PES packets (ISO/IEC 13818-1, 2.4.3.7).
use Rattle.std.specs.Prelude.{ℕ, Option, Some, None}
use Rattle.pid_findings.specs.Views.{FindingView, WhatView, IsPes}
use Rattle.pid_findings.specs.declared.finding.Kind.{Kind}
use Rattle.pes_packet.specs.declared.time_stamps.Stamps.{Stamps}
use Rattle.pes_packet.specs.declared.time_stamps.Stamps.TheVariants.{Absent, Pts, PtsDts}
use Rattle.stamp_repair.specs.declared.pes_stamps.PesStamp.{PesStamp}

-- the packet in which a unit begins
unfoldable pub begin_of : Option (ℕ × Kind) → ℕ → ℕ
begin_of None packet = packet
begin_of (Some (first, kind)) packet = first

-- the stamps of a PES packet, if it has any; without a DTS it is decoded at its PTS
unfoldable pub stamp_of : ℕ → Stamps → Option PesStamp
stamp_of packet Absent = None
stamp_of packet (Pts pts) = Some (record { packet = packet; dts = pts; pts = pts })
stamp_of packet (PtsDts pts dts) = Some (record { packet = packet; dts = dts; pts = pts })

unfoldable pub stamp_in : ℕ → WhatView → Option PesStamp
stamp_in packet (IsPes header unended body) = stamp_of packet header.stamps
stamp_in packet what = None

abbrev pub stamp_at : FindingView → Option PesStamp
stamp_at f = stamp_in (begin_of f.begun f.packet) f.what
