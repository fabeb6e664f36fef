use Rattle.std.proofs.Common.{◌≡◌, ◌∙◌, [], ap, subst}
use Rattle.ts_packet.specs.Packets.{null_packet}
use Rattle.demux.specs.Stream.{StreamState, found_in}
use Rattle.demux.specs.StreamBodies.{headers_taken}
use Rattle.demux.proofs.HeaderSteps.{none_found, taken_besides}
use Rattle.demux.proofs.headers.HeaderDemux.skip.Goals as goal

pub returns-clause-taken : goal.returns-clause-taken
returns-clause-taken g c =
    taken_besides c.self.inside.demux c.skip.new.self null_packet c.skip.ensures.taken ∙ ap (λ (s : StreamState). headers_taken s null_packet) c.self.view_is

pub returns-clause-none : goal.returns-clause-none
returns-clause-none g c =
    subst (λ (s : StreamState). found_in s null_packet ≡ []) c.self.view_is (none_found c.self.inside.demux null_packet c.skip.ensures.none)
