-- The longest intervals of tables, in milliseconds.
--
-- ETSI TR 101 290, 5.2.1, 1.3.a (PAT) and 1.5.a (PMT); 5.2.3, 3.1.a and 3.1.b (NIT of the actual network and of others), 3.5.a
-- and 3.5.b (SDT of the actual stream and of others), 3.6.a and 3.6.b (EIT of present and following events, actual and other), 3.8
-- (TDT). Where TR 101 290 says "10 s or higher" it is 10 s, as in ETSI TR 101 211, 4.4, which has BAT and TOT too.
use Rattle.std.specs.Prelude.{ℕ, ◌*◌, ◌==◌, ◌&&◌, ◌||◌, if◌then◌else◌, Option, Some, None}
use Rattle.std.specs.Option.{option_map}

unfoldable pub milliseconds : ℕ → ℕ → Option ℕ
milliseconds pid table_id =
    if table_id == 0x02 then Some 500
    else if pid == 0x00 && table_id == 0x00 then Some 500
    else if pid == 0x10 && (table_id == 0x40 || table_id == 0x41) then Some 10000
    else if pid == 0x11 && table_id == 0x42 then Some 2000
    else if pid == 0x11 && (table_id == 0x46 || table_id == 0x4A) then Some 10000
    else if pid == 0x12 && table_id == 0x4E then Some 2000
    else if pid == 0x12 && table_id == 0x4F then Some 10000
    else if pid == 0x14 && (table_id == 0x70 || table_id == 0x73) then Some 30000
    else None

-- in ticks of 27 MHz
abbrev pub limit_of : ℕ → ℕ → Option ℕ
limit_of pid table_id = option_map (λ ms. ms * 27000) (milliseconds pid table_id)
