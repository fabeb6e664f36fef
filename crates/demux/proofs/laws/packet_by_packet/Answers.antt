use Rattle.pid_findings.proofs.MachineRun.{run_finds_all}
use Rattle.demux.proofs.laws.packet_by_packet.Goals as goal

pub returns : goal.returns
returns c = run_finds_all
