use Rattle.std.proofs.Common.{sym, subst}
use Rattle.packet_sync.specs.PacketSearch.{IsSearched}
use Rattle.job_run.specs.Streams.{ReadingView}
use Rattle.job_run.proofs.reading.StreamReading.no_stream.Goals as goal

pub returns : goal.returns
returns c = λ bytes so. c.no_stream.ensures bytes (subst (λ (r : ReadingView). IsSearched bytes r.search) (sym c.self.view_is) so.searched)
