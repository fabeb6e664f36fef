-- The checks of ETSI TR 101 290 that are made of a stream: their numbers and names, as its tables 5.0a, 5.0b and 5.0c have them.
use Rattle.std.specs.Prelude.{ℕ, ◌==◌, if◌then◌else◌, List, codes, Option, Some, None}
use Rattle.events.specs.declared.check.Check.{Check}
use Rattle.events.specs.declared.check.Check.TheVariants.{SyncLoss, SyncByte, Pat, Continuity, Pmt, Pid, Transport, Crc, PcrRepetition, PcrDiscontinuity}
use Rattle.events.specs.declared.check.Check.TheVariants.{PcrAccuracy, Pts, Cat, NitActual, NitOther, SiRepetition, Buffer, Unreferenced, SdtActual, SdtOther}
use Rattle.events.specs.declared.check.Check.TheVariants.{EitActual, EitOther, Rst, Tdt, EmptyBuffer, DataDelay}

unfoldable pub number_of : Check → List ℕ
number_of SyncLoss = codes "1.1"
number_of SyncByte = codes "1.2"
number_of Pat = codes "1.3.a"
number_of Continuity = codes "1.4"
number_of Pmt = codes "1.5.a"
number_of Pid = codes "1.6"
number_of Transport = codes "2.1"
number_of Crc = codes "2.2"
number_of PcrRepetition = codes "2.3.a"
number_of PcrDiscontinuity = codes "2.3.b"
number_of PcrAccuracy = codes "2.4"
number_of Pts = codes "2.5"
number_of Cat = codes "2.6"
number_of NitActual = codes "3.1.a"
number_of NitOther = codes "3.1.b"
number_of SiRepetition = codes "3.2"
number_of Buffer = codes "3.3"
number_of Unreferenced = codes "3.4"
number_of SdtActual = codes "3.5.a"
number_of SdtOther = codes "3.5.b"
number_of EitActual = codes "3.6.a"
number_of EitOther = codes "3.6.b"
number_of Rst = codes "3.7"
number_of Tdt = codes "3.8"
number_of EmptyBuffer = codes "3.9"
number_of DataDelay = codes "3.10"

unfoldable pub name_of : Check → List ℕ
name_of SyncLoss = codes "TS_sync_loss"
name_of SyncByte = codes "Sync_byte_error"
name_of Pat = codes "PAT_error_2"
name_of Continuity = codes "Continuity_count_error"
name_of Pmt = codes "PMT_error_2"
name_of Pid = codes "PID_error"
name_of Transport = codes "Transport_error"
name_of Crc = codes "CRC_error"
name_of PcrRepetition = codes "PCR_repetition_error"
name_of PcrDiscontinuity = codes "PCR_discontinuity_indicator_error"
name_of PcrAccuracy = codes "PCR_accuracy_error"
name_of Pts = codes "PTS_error"
name_of Cat = codes "CAT_error"
name_of NitActual = codes "NIT_actual_error"
name_of NitOther = codes "NIT_other_error"
name_of SiRepetition = codes "SI_repetition_error"
name_of Buffer = codes "Buffer_error"
name_of Unreferenced = codes "Unreferenced_PID"
name_of SdtActual = codes "SDT_actual_error"
name_of SdtOther = codes "SDT_other_error"
name_of EitActual = codes "EIT_actual_error"
name_of EitOther = codes "EIT_other_error"
name_of Rst = codes "RST_error"
name_of Tdt = codes "TDT_error"
name_of EmptyBuffer = codes "Empty_buffer_error"
name_of DataDelay = codes "Data_delay_error"

-- the place among all checks
unfoldable pub place_of : Check → ℕ
place_of SyncLoss = 0
place_of SyncByte = 1
place_of Pat = 2
place_of Continuity = 3
place_of Pmt = 4
place_of Pid = 5
place_of Transport = 6
place_of Crc = 7
place_of PcrRepetition = 8
place_of PcrDiscontinuity = 9
place_of PcrAccuracy = 10
place_of Pts = 11
place_of Cat = 12
place_of NitActual = 13
place_of NitOther = 14
place_of SiRepetition = 15
place_of Buffer = 16
place_of Unreferenced = 17
place_of SdtActual = 18
place_of SdtOther = 19
place_of EitActual = 20
place_of EitOther = 21
place_of Rst = 22
place_of Tdt = 23
place_of EmptyBuffer = 24
place_of DataDelay = 25

-- the check that fails if a section comes too late or too soon, by its table_id (EN 300 468, table 2)
abbrev pub check_of_table : ℕ → Option Check
check_of_table id =
    if id == 0 then Some Pat
    else (if id == 2 then Some Pmt
    else (if id == 64 then Some NitActual
    else (if id == 65 then Some NitOther
    else (if id == 66 then Some SdtActual
    else (if id == 70 then Some SdtOther
    else (if id == 78 then Some EitActual
    else (if id == 79 then Some EitOther else (if id == 112 then Some Tdt else (if id == 113 then Some Rst else None)))))))))

-- that a section of another table fails, by the PID of a table (EN 300 468, table 1)
abbrev pub check_of_pid : ℕ → Option Check
check_of_pid pid =
    if pid == 0 then Some Pat
    else (if pid == 1 then Some Cat
    else (if pid == 16 then Some NitActual
    else (if pid == 17 then Some SdtActual
    else (if pid == 18 then Some EitActual else (if pid == 19 then Some Rst else (if pid == 20 then Some Tdt else None))))))
