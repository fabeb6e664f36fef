-- running_status (EN 300 468, 5.2.3, table 6).
use Rattle.std.specs.Prelude.{ℕ, zero, suc}
use Rattle.dvb_tables.specs.declared.running_status.RunningStatus.{RunningStatus}
use Rattle.dvb_tables.specs.declared.running_status.RunningStatus.TheVariants.{Undefined, NotRunning, StartsSoon, Pausing, Running, OffAir, Reserved6}
use Rattle.dvb_tables.specs.declared.running_status.RunningStatus.TheVariants.{Reserved7}

-- the three bits of a status
abbrev pub status_code : RunningStatus → ℕ
status_code Undefined = 0
status_code NotRunning = 1
status_code StartsSoon = 2
status_code Pausing = 3
status_code Running = 4
status_code OffAir = 5
status_code Reserved6 = 6
status_code Reserved7 = 7

-- the status of three bits
abbrev pub status_of : ℕ → RunningStatus
status_of zero = Undefined
status_of (suc zero) = NotRunning
status_of (suc (suc zero)) = StartsSoon
status_of (suc (suc (suc zero))) = Pausing
status_of (suc (suc (suc (suc zero)))) = Running
status_of (suc (suc (suc (suc (suc zero))))) = OffAir
status_of (suc (suc (suc (suc (suc (suc zero)))))) = Reserved6
status_of (suc (suc (suc (suc (suc (suc (suc n))))))) = Reserved7
