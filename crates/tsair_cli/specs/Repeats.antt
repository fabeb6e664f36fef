-- Refused records in a row that are alike: the first of each second has a line, the others are counted.
use Rattle.std.specs.Prelude.{ℕ, ◌+◌, ◌-◌, ◌^◌, ◌==◌, ◌&&◌, nat_lt, min, Bool, true, false, cond, if◌then◌else◌, List, [], ◌∷◌, Option, Some, None, codes}
use Rattle.devices.specs.Lines.{line_text}
use Rattle.unit_queue.specs.Codes.{feed_code}
use Rattle.on_air.specs.declared.refusals.AirRefusal.{AirRefusal}
use Rattle.on_air.specs.declared.refusals.AirRefusal.TheVariants.{Feed, Ahead, Followed, Texts, LineUp}
use Rattle.tsair_cli.specs.declared.repeats.CodedRecord.{CodedRecord}
use Rattle.tsair_cli.specs.declared.repeats.Repeats.{Repeats}

-- the code of a refusal with the DTS of its record: a leap that the run follows, texts and line-ups have none
unfoldable pub coded : AirRefusal → Option CodedRecord
coded (Feed unit) = Some (record { code = feed_code unit.cause; dts = unit.dts })
coded (Ahead far) = Some (record { code = 11; dts = far.to })
coded (Followed packet from to) = None
coded (Texts refusal) = None
coded (LineUp refusal) = None

-- two refused records are alike: they have one code, and are due within less than a second
abbrev pub distance : ℕ → ℕ → ℕ
distance one other = if nat_lt one other then other - one else one - other

abbrev pub are_alike : CodedRecord → CodedRecord → Bool
are_alike last now = last.code == now.code && nat_lt (distance last.dts now.dts) 90000

unfoldable pub is_again : Option CodedRecord → Option CodedRecord → Bool
is_again None now = false
is_again (Some last) None = false
is_again (Some last) (Some now) = are_alike last now

-- a refused record is like the last one that has a line, so it has none
abbrev pub is_repeat : Repeats → AirRefusal → Bool
is_repeat r cause = is_again r.last (coded cause)

abbrev pub none_refused : Repeats
none_refused = record { last = None; more = 0 }

-- with one more refused record; at most 2^64 - 1 are counted
abbrev pub with_cause : Repeats → AirRefusal → Repeats
with_cause r cause =
    cond (is_repeat r cause) (record { last = r.last; more = min (r.more + 1) (2 ^ 64 - 1) }) (record { last = coded cause; more = 0 })

-- the line about the records that have none: their code, and how many there are. Without such records there is no line
unfoldable pub more_text : Option CodedRecord → ℕ → List ℕ
more_text None more = []
more_text (Some last) more = if nat_lt 0 more then line_text (codes "units refused alike") (last.code ∷ more ∷ []) else []

abbrev pub repeats_text : Repeats → List ℕ
repeats_text r = more_text r.last r.more
