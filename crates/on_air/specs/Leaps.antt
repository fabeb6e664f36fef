-- A leap of the incoming stamps: after a silence, or if an encoder restarts with greater stamps, each record is further ahead than the terms of a run allow.
-- A single wild stamp is no leap: a run follows stamps only after several records in a row agree.
use Rattle.std.specs.Prelude.{ℕ, ◌+◌, ◌-◌, ◌&&◌, Bool, nat_le, nat_lt, if◌then◌else◌}
use Rattle.on_air.specs.declared.leap.Leap.{Leap}

-- how many records in a row have to leap, each near the record before it, until a run follows them
abbrev pub leap_records : ℕ
leap_records = 8

-- a record due at `due` is more than `ahead` after the greatest DTS so far, in units of 90 kHz
abbrev pub is_far : ℕ → ℕ → ℕ → Bool
is_far ahead greatest due = nat_lt ahead (due - greatest)

-- two stamps are at most `ahead` apart
abbrev pub is_near : ℕ → ℕ → ℕ → Bool
is_near ahead one other = nat_le (one - other) ahead && nat_le (other - one) ahead

-- no record leaps
abbrev pub no_leap : Leap
no_leap = record { records = 0; due = 0 }

-- the leap with one more record that is too far ahead: it continues the leap if it is near the last record of the leap, otherwise it begins a new leap
abbrev pub leap_with : ℕ → Leap → ℕ → Leap
leap_with ahead leap due = record {
  records = if is_near ahead leap.due due then (if nat_lt leap.records leap_records then leap.records + 1 else leap_records) else 1;
  due = due;
}

-- the run follows these records
abbrev pub is_followed : Leap → Bool
is_followed leap = nat_le leap_records leap.records
