-- Which tables belong on the PIDs of tables (ETSI TR 101 290, 5.2.1, 1.3.a; 5.2.2, 2.6; 5.2.3, 3.1, 3.5, 3.6, 3.7 and 3.8; ETSI EN 300 468, tables 1
-- and 2).
use Rattle.std.specs.Prelude.{ℕ, ◌==◌, ◌&&◌, ◌||◌, nat_le, Bool, true, if◌then◌else◌}

abbrev pub belongs : ℕ → ℕ → Bool
belongs pid table_id =
    if pid == 0x00 then table_id == 0x00
    else (if pid == 0x01 then table_id == 0x01
    else (if pid == 0x10 then table_id == 0x40 || table_id == 0x41 || table_id == 0x72
    else (if pid == 0x11 then table_id == 0x42 || table_id == 0x46 || table_id == 0x4A || table_id == 0x72
    else (if pid == 0x12 then (nat_le 0x4E table_id && nat_le table_id 0x6F) || table_id == 0x72
    else (if pid == 0x13 then table_id == 0x71 || table_id == 0x72
    else (if pid == 0x14 then table_id == 0x70 || table_id == 0x72 || table_id == 0x73
    else true))))))
