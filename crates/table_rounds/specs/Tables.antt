-- One table on its own slots. Its sections take places one after another, each as many packets as its greatest length needs; together they make a round, and
-- the own slots of the table, counted over the run, are the places of one round after another. The sections of a round have the contents of the moment at
-- which its first slot begins. A table may come on air later than slot 0: its places are counted from slot 0 on all the same, and it sends the sections that
-- begin from then on.
use Rattle.std.specs.Prelude.{ℕ, zero, suc, ◌+◌, ◌-◌, ◌*◌, ◌/◌, ◌%◌, ◌==◌, ◌&&◌, nat_lt, Bool, false, cond, List, [], ◌∷◌, sum_by, Option, Some, None}
use Rattle.clock27.specs.Units.{slot_seconds_at_1bps}
use Rattle.own_slots.specs.Slots.{own_before}
use Rattle.slot_contents.specs.Contents.{Content, Piece}
use Rattle.table_rounds.specs.Parts.{places_of, part_of, part_content}

pub record Table : Type 0 where
  -- whether a slot is the table's own
  pub own : ℕ → Bool
  pub pid : ℕ
  -- the slot in which it comes on air; none: it is on air from slot 0 on
  pub from : Option ℕ
  -- the greatest length of each section over all moments, in bytes
  pub lengths : List ℕ
  -- the bytes of a section that begins in a slot, for a moment, in seconds since 1970: the texts may be others from a slot on
  pub bytes : ℕ → ℕ → ℕ → List ℕ
  -- bits a second of the output
  pub rate : ℕ
  -- the moment at which slot 0 begins, by the clock of a slot: the clock may be set from a slot on
  pub start : ℕ → ℕ
  -- the moment before the first round
  pub first : ℕ

-- the index of a section, and a place of the section, each counted from 0
pub record SectionPlace : Type 0 where
  pub section : ℕ
  pub part : ℕ

-- the packets of a round of all sections
abbrev pub round_places : List ℕ → ℕ
round_places lengths = sum_by places_of lengths

-- place number n in a round of sections of these lengths, which begin with section j
unfoldable pub place_in : ℕ → List ℕ → ℕ → SectionPlace
place_in j [] n = record { section = j; part = n }
place_in j (l ∷ ls) n = cond (nat_lt n (places_of l)) (record { section = j; part = n }) (place_in (suc j) ls (n - places_of l))

-- the place of the own slot s, or of the next own slot after s
abbrev pub place_at : Table → ℕ → SectionPlace
place_at table s = place_in 0 table.lengths (own_before table.own s % round_places table.lengths)

-- the last slot before slot s that is the first of a round of k places
unfoldable pub round_before : (ℕ → Bool) → ℕ → ℕ → ℕ
round_before own k zero = 0
round_before own k (suc s) = cond (own s && (own_before own s % k == 0)) s (round_before own k s)

-- the last own slot before slot s in which a section begins
unfoldable pub begin_before : Table → ℕ → ℕ
begin_before table zero = 0
begin_before table (suc s) = cond (table.own s && ((place_at table s).part == 0)) s (begin_before table s)

-- the moment at which slot s begins, by its own clock: a slot lasts 1,504 / rate seconds
abbrev pub moment_of : Table → ℕ → ℕ
moment_of table s = table.start s + s * slot_seconds_at_1bps / table.rate

-- the moment of the last round that began before slot s, by the clock of the slot in which it began
abbrev pub moment_before : Table → ℕ → ℕ
moment_before table s = moment_of table (round_before table.own (round_places table.lengths) s)

-- the same, if the table had a slot before slot s; else the moment before the first round
abbrev pub last_moment : Table → ℕ → ℕ
last_moment table s = cond (own_before table.own s == 0) table.first (moment_before table s)

-- whether a table that comes on air in a slot is not yet on air in slot s
abbrev pub not_yet : Option ℕ → ℕ → Bool
not_yet None s = false
not_yet (Some from) s = nat_lt s from

-- the bytes of the section in the own slot s, and the part of the section there: none if the section's first place is before the table came on air
abbrev pub bytes_at : Table → ℕ → List ℕ
bytes_at table s = table.bytes (begin_before table (suc s)) (place_at table s).section (moment_before table (suc s))

abbrev pub part_at : Table → ℕ → Option Piece
part_at table s = cond (not_yet table.from (begin_before table (suc s))) None (part_of (bytes_at table s) (place_at table s).part)

-- the bytes that are held of a section whose first place is in slot `begin`
abbrev pub held_of : Table → ℕ → ℕ → ℕ → List ℕ
held_of table begin section moment = cond (not_yet table.from begin) [] (table.bytes begin section moment)

-- the number of payloads of the table before slot s, which is the number of the next payload on its PID
abbrev pub one_if_some : Option Piece → ℕ
one_if_some None = 0
one_if_some (Some part) = 1

unfoldable pub payloads_before : Table → ℕ → ℕ
payloads_before table zero = 0
payloads_before table (suc s) = payloads_before table s + cond (table.own s) (one_if_some (part_at table s)) 0

-- what the own slot s carries
abbrev pub table_content : Table → ℕ → Content
table_content table s = part_content table.pid (payloads_before table s) (part_at table s)
