-- Whether a stream's buffers hold its packets.
use Rattle.std.specs.Prelude.{ℕ, ◌+◌, ◌*◌, ◌/◌, min, nat_le, Bool}
use Rattle.std.specs.Int.{div_ceil}
use Rattle.clock27.specs.Units.{slot_units_at_1bps}
use Rattle.unit_timing.specs.declared.allowance.Allowance.{Allowance}
use Rattle.unit_timing.specs.Allowances.{packets_within}
use Rattle.unit_timing.specs.Shares.{parts}
use Rattle.stream_choice.specs.declared.needs.Needs.{Needs}
use Rattle.stream_choice.specs.Shares.{packets_of_unit}

-- the transport buffer is drained no slower than packets of the share arrive
abbrev pub drains : Needs → ℕ → Bool
drains needs share = nat_le (share * slot_units_at_1bps) (needs.rx * parts)

-- the units that can wait for their decoding at once, rounded up
abbrev pub waiting_units : Needs → ℕ → ℕ
waiting_units needs lead = div_ceil lead needs.interval

-- the most packets that arrive within a lead: the packets of the share, a packet that began before, and a packet that ends after
abbrev pub packets_of_share : ℕ → ℕ → ℕ
packets_of_share lead share = lead * share / parts + 2

-- the most bytes that wait: by the sizes of the waiting units, by their packets, and by the packets that arrive within the lead
abbrev pub waiting_bytes : Needs → Allowance → ℕ → ℕ → ℕ
waiting_bytes needs allowance lead share =
    min (waiting_units needs lead * (19 + needs.size))
    (184 * min (packets_within allowance (packets_of_unit needs) (waiting_units needs lead) lead) (packets_of_share lead share))

-- the main buffer holds these bytes
abbrev pub holds : Needs → Allowance → ℕ → ℕ → Bool
holds needs allowance lead share = nat_le (waiting_bytes needs allowance lead share) needs.main
