-- What the program's values say, without where their bytes lie in memory.
use Rattle.std.specs.Prelude.{}
use Rattle.es_units.specs.CarriedUnits.{RoleView, Ignored, Start, Continuation, Interruption}
use Rattle.es_units.specs.declared.pes_role.UnitStart.{UnitStart}
use Rattle.es_units.specs.declared.pes_role.PesRole.{PesRole}
use Rattle.es_units.specs.declared.pes_role.PesRole.TheVariants as roles
use Rattle.es_moments.specs.WireUnits.{CarriedUnit, unit_with}

-- the first PES packet of a unit
abbrev pub start_view : UnitStart → CarriedUnit
start_view b = unit_with b.packet b.stream_id b.dts b.pts b.marks b.body.now

abbrev pub role_view : PesRole → RoleView
role_view roles.Ignored = Ignored
role_view (roles.Start b) = Start (start_view b)
role_view (roles.Continuation id bytes) = Continuation id bytes.now
role_view (roles.Interruption unstamped) = Interruption unstamped
