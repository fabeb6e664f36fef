-- What a job carries of services, events and the network is the input's, loop for loop.
use Rattle.std.specs.Prelude.{◌≡◌, ℕ, ◌==◌, true, List, map, filter, slice_get, Option, Some, None, Ok}
use Rattle.pid_findings.specs.Views.{FindingView}
use Rattle.ts_services.specs.NetworkInformation.{FoundNetworkView, stream_network}
use Rattle.ts_services.specs.Services.{FoundServiceView, service}
use Rattle.dvb_tables.specs.RunningStates.{status_of}
use Rattle.dvb_tables.specs.TransportStreams.{TransportStreamView}
use Rattle.description_parts.specs.Described.{Described, DescribedNetwork, DescribedProgram, network_stream_view}
use Rattle.given_values.specs.declared.clock_sharing.ClockSharing.{ClockSharing}
use Rattle.given_values.specs.GivenNames.{ServiceNameView}
use Rattle.job_programs.specs.Events.{job_events}
use Rattle.job_programs.specs.GivenLoops.{can_be_kept}
use Rattle.job_programs.specs.GivenNames.{name_given}
use Rattle.job_programs.specs.JobOptions.{JobOptionsView}
use Rattle.job_programs.specs.JobPrograms.{JobProgramView}
use Rattle.job_programs.specs.OtherStreams.{other_streams}
use Rattle.job_inputs.specs.JobInput.{JobInputView, job_input}
use Rattle.stream_jobs.specs.Jobs.{AllAgree}

-- the descriptors of a network, and of this transport stream in it, are those that were found, and so are its other transport streams
pub record NetworkCarried (a : DescribedNetwork) (n : FoundNetworkView) (others : List TransportStreamView) : Type 0 where
  pub network : a.network_descriptors ≡ n.network_descriptors
  pub stream : a.descriptors ≡ n.descriptors
  pub streams : map network_stream_view a.streams ≡ others

-- the status of a service is that of its last description (EN 300 468, table 6), also if an option names it; it has the descriptors of that
-- description, if no option names it, and a description can have them: whole, and at most 1,004 bytes
pub record ServiceCarried (p : DescribedProgram) (s : FoundServiceView) (given : Option ServiceNameView) : Type 0 where
  pub status : status_of p.running_status ≡ s.running_status
  pub descriptors : given ≡ None → can_be_kept 1004 s.descriptors ≡ true → p.service_descriptors ≡ s.descriptors

-- of a stream with this transport_stream_id and these programs
pub record LoopsCarried (options : JobOptionsView) (findings : List FindingView) (programs : List JobProgramView) (d : Described) : Type 0 where
  pub id : ℕ
  pub services : (k : ℕ) (p : DescribedProgram) (q : JobProgramView) (s : FoundServiceView) → slice_get d.programs k ≡ Some p →
      slice_get programs k ≡ Some q → service q.number findings ≡ Some s → ServiceCarried p s (name_given q.number options.names)
  -- each program has its events that were found, in order, each with its descriptors
  pub events : (k : ℕ) (p : DescribedProgram) → slice_get d.programs k ≡ Some p →
      map (λ e. e.descriptors) p.events ≡ map (λ e. e.descriptors) (filter (λ e. e.program == p.number) (job_events findings programs))
  -- so has the network, if no option gives one, and a description can have its descriptors: at most 700 bytes
  pub network : (a : DescribedNetwork) (n : FoundNetworkView) → d.network ≡ Some a → options.network ≡ None → stream_network id findings ≡ Some n →
      can_be_kept 700 n.network_descriptors ≡ true → NetworkCarried a n (other_streams id findings)

abbrev pub LoopsCarriedLaw : Type 0
LoopsCarriedLaw = (options : JobOptionsView) (count : ℕ) (findings : List FindingView) (input : JobInputView) (by : ClockSharing) (d : Described) →
    job_input options count findings ≡ Ok input → AllAgree by d input → LoopsCarried options findings input.programs d
