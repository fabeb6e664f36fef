-- The finished bytes of a history keep all promises.
use Rattle.std.specs.Prelude.{ℕ, List}
use Rattle.pes_packet.specs.AccessUnits.{AccessUnit}
use Rattle.description_parts.specs.Ranges.{IsInRange}
use Rattle.slot_contents.specs.Contents.{run_bytes}
use Rattle.slot_contents.specs.RunLaws.{Fits}
use Rattle.slot_plan.specs.Promised.{Promised}
use Rattle.slot_contents.proofs.Runs.{run_length}
use Rattle.unit_queue.proofs.SentPlaces.{content_law}
use Rattle.mux_core.specs.Scheduled.{Scheduled}
use Rattle.mux_core.specs.Histories.{owned_stream, content_at, content_over, TextsSoFar, unchanged}
use Rattle.mux_core.specs.Headline.{Headline, HeadlineLaw, UnitsKept}
use Rattle.mux_core.proofs.ContentPids.{StreamsFit, content_fits}
use Rattle.mux_core.proofs.ClearPackets.{all_clear}
use Rattle.mux_core.proofs.TablesRead.{table_kept}
use Rattle.mux_core.proofs.Programs.{program_kept}
use Rattle.mux_core.proofs.Sizes.{all_read, pids_known}
use Rattle.mux_core.proofs.RandomAccess.{access_known}
use Rattle.mux_core.proofs.StreamsAlone.{stream_alone_over}
use Rattle.mux_core.proofs.StreamsKept.{stream_kept}

-- The content of each slot fits into a packet.
pub contents_fit_over : (d : Scheduled) (changes : TextsSoFar) (units : ℕ → List AccessUnit) → IsInRange d.description → UnitsKept d units → Fits (content_over d changes units)
contents_fit_over d changes units r kept = content_fits d changes units r streams_fit
  where
    streams_fit : StreamsFit d units
    streams_fit k s x is = content_law (owned_stream d k x) (units k) s (kept.parameters k x is)

pub contents_fit : (d : Scheduled) (units : ℕ → List AccessUnit) → IsInRange d.description → UnitsKept d units → Fits (content_at d units)
contents_fit d units r kept = contents_fit_over d unchanged units r kept

pub headline_over : HeadlineLaw
headline_over d changes units slots r promised kept =
    let fits = contents_fit_over d changes units r kept in
    record {
      size = run_length (content_over d changes units) 0 slots fits;
      packets = all_read (content_over d changes units) slots fits;
      pids = pids_known d changes units slots fits;
      clear = all_clear d changes units slots fits;
      access = access_known (content_over d changes units) slots fits;
      streams = λ k s is. stream_kept d k s (units k) (content_over d changes units) slots is (stream_alone_over d changes units k s r fits is) (kept.kept k s is) promised;
      programs = λ i p is. program_kept d changes units slots i p r promised fits is;
      tables = λ t lt. table_kept d changes units slots t r promised fits lt;
    }

pub headline : (d : Scheduled) (units : ℕ → List AccessUnit) (slots : ℕ) → IsInRange d.description → Promised d.description d.schedule → UnitsKept d units →
    Headline d units slots (run_bytes (content_at d units) 0 slots)
headline d units slots r promised kept = headline_over d unchanged units slots r promised kept
