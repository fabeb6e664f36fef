use Rattle.laws_view.proofs.RateStreams.{whole_stream_law}
use Rattle.laws_view.proofs.WholeStreams.{last_events_law}
use Rattle.laws_view.proofs.laws.whole_streams.Goals as goal

pub returns-clause-whole : goal.returns-clause-whole
returns-clause-whole c = whole_stream_law

pub returns-clause-events : goal.returns-clause-events
returns-clause-events c = last_events_law
