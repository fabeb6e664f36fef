-- A demultiplexer gives back from the finished bytes of a run what was sent.
use Rattle.std.proofs.Common.{refl, ◌≡◌, ◌⊎◌, ℕ, ◌-◌, ◌^◌, ◌<◌, ◌==◌, false, IsTrue, List, [], ◌∷◌, length, map, Some, slice_get, ap, ◌∙◌, arith, All, inl, inr}
use Rattle.std.proofs.lemmas.List.Elements.{All-nil, All-cons, All-head, All-tail}
use Rattle.own_slots.specs.Slots.{own_slots}
use Rattle.own_slots.specs.Rounds.{starts}
use Rattle.pes_packet.specs.AccessUnits.{AccessUnit}
use Rattle.pes_packet.specs.StreamIds.{fits_packet}
use Rattle.slot_contents.specs.Contents.{run_bytes}
use Rattle.description_parts.specs.Described.{DescribedStream}
use Rattle.description_parts.specs.Ranges.{IsInRange}
use Rattle.description_parts.specs.Tables.{table_kinds, table_count, table_pid}
use Rattle.description.proofs.SectionCounts.{sections_law}
use Rattle.description.proofs.SectionBounds.{table_bytes_fit}
use Rattle.demux.specs.Laws.{with_pid_at, found_of}
use Rattle.unit_queue.specs.Queues.{ParametersInRange, IsUnit}
use Rattle.unit_queue.specs.declared.parameters.StreamParameters.{StreamParameters}
use Rattle.unit_queue.specs.Payloads.{StreamIsAlone}
use Rattle.unit_queue.proofs.CauseLemmas.{fits_unit}
use Rattle.table_rounds.specs.Tables.{round_places}
use Rattle.table_rounds.specs.Laws.{HasPlaces}
use Rattle.table_rounds.specs.Payloads.{TableIsAlone}
use Rattle.laws_run.specs.Sent.{Sending, each_found}
use Rattle.laws_run.specs.Units.{unit_found}
use Rattle.laws_run.specs.Sections.{section_found, IsRecognized}
use Rattle.laws_run.specs.Rounds.{sections_of_rounds, HasRoom}
use Rattle.laws_run.specs.PidLaws.{IsRun, found_on, all_found}
use Rattle.laws_run.proofs.TablesAndStreams.{tables_come_back, streams_come_back}
use Rattle.laws_run.proofs.FoundInRun.{nothing_comes_back}
use Rattle.laws_run.proofs.OfPids.{all_is_of_pids, found_in_order}
use Rattle.mux_core.specs.Scheduled.{Scheduled}
use Rattle.mux_core.specs.Histories.{owned_stream, table_of, content_at, content_over, TextsSoFar, unchanged}
use Rattle.mux_core.specs.Headline.{UnitsKept}
use Rattle.mux_core.proofs.StreamsAlone.{stream_alone, stream_alone_over}
use Rattle.mux_core.proofs.TablesRead.{table_alone}
use Rattle.mux_core.proofs.Whole.{contents_fit, contents_fit_over}
use Rattle.mux_core.proofs.Accepted.{units_kept}
use Rattle.laws_run.specs.Distinguishable.{IsDistinguishable}
use Rattle.laws_run.specs.GivenBack.{stream_findings, table_findings, IsSentOn, GivenBackLaw, AnyStateLaw, StreamsBackLaw, AnyStateStreamsLaw}
use Rattle.laws_run.proofs.UnitPlaces.{units_are_placed}
use Rattle.laws_run.proofs.SectionPlaces.{sections_are_placed}
use Rattle.laws_run.proofs.DistinguishableSections.{section_distinguishable, rounds_all}
use Rattle.laws_run.proofs.NothingElse.{IsSilent, all_silent, sent_or_silent, all_sent}
use Rattle.mux_core.proofs.TablesRead.{there as kind_there}

-- The premises of the laws on one PID

run_over : (d : Scheduled) (changes : TextsSoFar) (units : ℕ → List AccessUnit) (n : ℕ) → IsInRange d.description → UnitsKept d units → n < 2 ^ 64 - 1 →
    IsRun n (content_over d changes units)
run_over d changes units n r kept few = record { fits = contents_fit_over d changes units r kept; few = few }

pub is_run : (d : Scheduled) (units : ℕ → List AccessUnit) (n : ℕ) → IsInRange d.description → UnitsKept d units → n < 2 ^ 64 - 1 → IsRun n (content_at d units)
is_run d units n r kept few = run_over d unchanged units n r kept few

units_fit : (rules : StreamParameters) (us : List AccessUnit) → ParametersInRange rules → All (IsUnit rules) us →
    All (λ u. IsTrue (fits_packet rules.stream_id (length u.bytes))) us
units_fit rules [] is h = All-nil (λ (u : AccessUnit). IsTrue (fits_packet rules.stream_id (length u.bytes)))
units_fit rules (u ∷ us) is h =
    All-cons (λ (u : AccessUnit). IsTrue (fits_packet rules.stream_id (length u.bytes))) u us (fits_unit rules u is (All-head (IsUnit rules) u us h))
    (units_fit rules us is (All-tail (IsUnit rules) u us h))

pub stream_units_fit : (d : Scheduled) (units : ℕ → List AccessUnit) (k : ℕ) (s : DescribedStream) → UnitsKept d units →
    slice_get d.description.streams k ≡ Some s →
    All (λ u. IsTrue (fits_packet s.stream_id (length u.bytes))) (units k)
stream_units_fit d units k s kept is = units_fit (owned_stream d k s).parameters (units k) (kept.parameters k s is) (kept.kept k s is).units

pub one_stream : (d : Scheduled) (units : ℕ → List AccessUnit) (k : ℕ) (s : DescribedStream) → IsInRange d.description → UnitsKept d units →
    slice_get d.description.streams k ≡ Some s → StreamIsAlone (owned_stream d k s) (units k) (content_at d units)
one_stream d units k s r kept is = stream_alone d units k s r (contents_fit d units r kept) is

pub one_table : (d : Scheduled) (units : ℕ → List AccessUnit) (t : ℕ) → IsInRange d.description → UnitsKept d units → t < table_count d.description →
    TableIsAlone (table_of d t) (content_at d units)
one_table d units t r kept lt = let k = kind_there (table_kinds d.description) t lt in table_alone d units t k.0 r (contents_fit d units r kept) k.1

pub has_places : (d : Scheduled) (t : ℕ) → IsInRange d.description → t < table_count d.description → HasPlaces (table_of d t)
has_places d t r lt = (sections_law d.description t r lt).2

pub has_room : (d : Scheduled) (t : ℕ) → IsInRange d.description → HasRoom (table_of d t)
has_room d t r = record {
  from = refl;
  steady = λ s other j moment. refl;
  fits = λ s j moment within. table_bytes_fit d.description t j moment r within;
}

-- The findings of each stream and each table

stream_back : (d : Scheduled) (changes : TextsSoFar) (units : ℕ → List AccessUnit) (n k : ℕ) (s : DescribedStream) → IsInRange d.description →
    UnitsKept d units → n < 2 ^ 64 - 1 → slice_get d.description.streams k ≡ Some s →
    found_on s.pid (run_bytes (content_over d changes units) 0 n) ≡ stream_findings d units n k s
stream_back d changes units n k s r kept few is =
    let alone = stream_alone_over d changes units k s r (contents_fit_over d changes units r kept) is in
    streams_come_back (owned_stream d k s) n (units k) (content_over d changes units) (run_over d changes units n r kept few) alone
    (stream_units_fit d units k s kept is)
    ∙ ap (λ (sent : List (Sending AccessUnit)). map (with_pid_at s.pid) (each_found (unit_found s.stream_id d.description.base0) n sent))
    (units_are_placed (owned_stream d k s) n (units k) (content_over d changes units) alone)

table_back : (d : Scheduled) (units : ℕ → List AccessUnit) (n t : ℕ) → IsInRange d.description → UnitsKept d units → n < 2 ^ 64 - 1 →
    t < table_count d.description →
    IsDistinguishable d.description t → found_on (table_pid d.description t) (run_bytes (content_at d units) 0 n) ≡ table_findings d n t
table_back d units n t r kept few lt reported =
    let alone = one_table d units t r kept lt in
    let given : All IsRecognized (sections_of_rounds (table_of d t) n) =
    rounds_all IsRecognized (table_of d t) (own_slots (starts (table_of d t).own (round_places (table_of d t).lengths) 0) 0 n)
    (λ s j moment within. section_distinguishable d.description t j moment r lt reported within) in
    tables_come_back (table_of d t) n (content_at d units) (is_run d units n r kept few) alone (has_places d t r lt) (has_room d t r) given
    ∙ ap (λ (sent : List (Sending (List ℕ))). map (with_pid_at (table_pid d.description t)) (each_found section_found n sent))
    (sections_are_placed (table_of d t) n (content_at d units) alone)

-- The findings of the whole run

silent_over : (d : Scheduled) (changes : TextsSoFar) (units : ℕ → List AccessUnit) (n pid : ℕ) → IsRun n (content_over d changes units) →
    (pid == 8191) ≡ false → IsSilent d.description pid → found_on pid (run_bytes (content_over d changes units) 0 n) ≡ []
silent_over d changes units n pid run reported none =
    nothing_comes_back pid n (content_over d changes units) run reported (λ t lt. all_silent d changes units pid t none)

pub silent_back : (d : Scheduled) (units : ℕ → List AccessUnit) (n pid : ℕ) → IsRun n (content_at d units) → (pid == 8191) ≡ false →
    IsSilent d.description pid →
    found_on pid (run_bytes (content_at d units) 0 n) ≡ []
silent_back d units n pid run reported none = silent_over d unchanged units n pid run reported none

known : (d : Scheduled) (changes : TextsSoFar) (units : ℕ → List AccessUnit) (n : ℕ) → IsRun n (content_over d changes units) → (pid : ℕ) →
    (pid == 8191) ≡ false → IsSentOn d.description pid ⊎ (found_of pid (all_found (run_bytes (content_over d changes units) 0 n)) ≡ [])
known d changes units n run pid reported = elim (sent_or_silent d.description pid) [
  | inl sent ↦ inl sent
  | inr none ↦ inr (silent_over d changes units n pid run reported none)
]

pub streams_back : StreamsBackLaw
streams_back d changes units n r kept few =
    let run = run_over d changes units n r kept few in
    record {
      streams = λ k s is. stream_back d changes units n k s r kept few is;
      nothing_else = all_sent d.description (all_found (run_bytes (content_over d changes units) 0 n)) (all_is_of_pids n (content_over d changes units) run)
          (known d changes units n run);
      in_order = found_in_order n (content_over d changes units) run;
    }

pub given_back : GivenBackLaw
given_back d units n r kept few =
    let back = streams_back d unchanged units n r kept few in
    record {
      streams = back.streams;
      tables = λ t lt reported. table_back d units n t r kept few lt reported;
      nothing_else = back.nothing_else;
      in_order = back.in_order;
    }

pub any_streams : AnyStateStreamsLaw
any_streams h m n r st few = streams_back m.schedule h.changes h.units n r (units_kept h m r st) (omega (arith, few))

pub any_state : AnyStateLaw
any_state h m n r st few = given_back m.schedule h.units n r (units_kept h m r st) (omega (arith, few))
