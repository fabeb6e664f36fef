use Rattle.std.proofs.Common.{false, sym, subst}
use Rattle.pes_packet.specs.Units.{units_of}
use Rattle.mux_core.specs.Histories.{content_at, unchanged}
use Rattle.mux_core.specs.Headline.{Headline}
use Rattle.mux_core.proofs.JobWriting.{output_bytes}
use Rattle.es_units.proofs.KeptDeclarations.{units_kept}
use Rattle.es_moments.proofs.StampMoments.{moved_by_one}
use Rattle.laws_job.specs.Laws.{schedule_for}
use Rattle.laws_job.proofs.AcceptedUnits.{all_kept}
use Rattle.laws_job.proofs.JobUnits.{those}
use Rattle.laws_job.proofs.laws.carried.Goals as goal

pub returns : goal.returns
returns c = λ d p findings units n ranges serving are few.
    let line = schedule_for d p in
    let none = c.accepted.ensures false line findings units ranges are in
    let kept = all_kept units_kept false line findings units ranges are in
    let whole = subst (Headline line (λ k. units_of k units) n) (sym (output_bytes (content_at line (λ k. units_of k units)) 0 n))
    (c.headline.ensures.whole line unchanged (λ k. units_of k units) n ranges (c.accepted_plan.ensures d p ranges serving) kept) in
    record {
      same = λ k s is keep. those moved_by_one findings s.pid (units_of k units) (are.streams k s is).found keep;
      given_back = c.jobs.ensures.given_back line units n ranges none few;
      clean = c.jobs.ensures.clean line units n ranges none few;
      kept = whole;
      video = λ k s b is has. (whole.streams k s is).video b has;
      frames = λ k s f is has. (whole.streams k s is).frames f has;
    }
