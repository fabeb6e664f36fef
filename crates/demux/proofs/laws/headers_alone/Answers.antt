use Rattle.pid_findings.proofs.Bodies.{bodies_decide_nothing}
use Rattle.demux.proofs.StreamBodies.{few_are_kept, headers_are_alone, headers_are_found, no_headers_at_first}
use Rattle.demux.proofs.laws.headers_alone.Goals as goal

pub returns-clause-packet : goal.returns-clause-packet
returns-clause-packet c = bodies_decide_nothing

pub returns-clause-stream : goal.returns-clause-stream
returns-clause-stream c = headers_are_alone

pub returns-clause-few : goal.returns-clause-few
returns-clause-few c = few_are_kept

pub returns-clause-at_first : goal.returns-clause-at_first
returns-clause-at_first c = no_headers_at_first

pub returns-clause-found : goal.returns-clause-found
returns-clause-found c = headers_are_found
