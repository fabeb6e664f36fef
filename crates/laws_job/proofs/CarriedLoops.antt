-- What a job carries of services, events and the network is the input's, loop for loop.
use Rattle.std.proofs.Common.{◌≡◌, ℕ, zero, suc, ◌==◌, Bool, true, false, if◌then◌else◌, List, [], ◌∷◌, ◌++◌, map, take, drop, slice_get, Option, Some, None}
use Rattle.std.proofs.Common.{option_and_then, option_map, refl, sym, ap, ap₂, ◌∙◌, inl, inr}
use Rattle.std.specs.Prelude.{filter, insert}
use Rattle.std.specs.Option.{option_or}
use Rattle.std.proofs.lemmas.Bool.{and_parts, cases_Bool}
use Rattle.std.proofs.lemmas.Option.{slice_get-map}
use Rattle.pid_findings.specs.Views.{FindingView}
use Rattle.ts_services.specs.NetworkInformation.{FoundNetworkView, stream_network}
use Rattle.ts_services.specs.Services.{FoundServiceView, service}
use Rattle.dvb_tables.specs.EventEntries.{EventView}
use Rattle.dvb_tables.specs.TransportStreams.{TransportStreamView}
use Rattle.dvb_texts.specs.Texts.{decode_text}
use Rattle.description_parts.specs.Described.{DescribedEvent, DescribedNetwork}
use Rattle.service_information.specs.CodedTimes.{moment_in, seconds_in}
use Rattle.service_information.specs.EventSections.{EventSectionView, event_section_found}
use Rattle.service_information.specs.Events.{FoundEventView, can_be_said, event_in, if_said, is_among, is_free, place_of, stream_events, timed_event}
use Rattle.service_information.specs.Events.{with_entries, with_event, with_findings, with_if_said, with_section}
use Rattle.service_information.specs.ShortEvents.{ShortEventView, short_event}
use Rattle.given_values.specs.GivenNames.{NetworkNameView, ServiceNameView}
use Rattle.job_programs.specs.Events.{event_by, event_loop, event_part, event_with, job_events, numbers_of, texts_of}
use Rattle.job_programs.specs.GivenLoops.{can_be_kept, given_event, given_network, given_service, is_loop, kept_loop}
use Rattle.job_programs.specs.GivenNames.{name_given}
use Rattle.job_programs.specs.Information.{JobInformationView, information_of, named_service, network_loop, network_or, network_with, service_by, service_for}
use Rattle.job_programs.specs.Information.{renamed, service_loop, service_with}
use Rattle.job_programs.specs.JobPrograms.{JobProgramView}
use Rattle.job_programs.specs.OtherStreams.{other_streams}
use Rattle.job_inputs.proofs.MovedInputs.{moved_of}
use Rattle.stream_jobs.specs.CarriedLoops.{NetworkIs, events_of}
use Rattle.stream_jobs.proofs.Agreement.{some_same}
use Rattle.stream_jobs.proofs.LoopAgreement.{loop_is}
use Rattle.laws_job.specs.CarriedLoops.{LoopsCarriedLaw, NetworkCarried}

-- 1. The keys of a loop give it

kept_is : (most : ℕ) (given : Option (List ℕ)) (descriptors : List ℕ) → can_be_kept most descriptors ≡ true →
    option_or (kept_loop most given descriptors) given ≡ Some descriptors
unfolding kept_loop
kept_is most given descriptors can = by (is_loop descriptors given) refl
  where
    by : (t : Bool) → is_loop descriptors given ≡ t → option_or (kept_loop most given descriptors) given ≡ Some descriptors
    by true is = rw is (loop_is descriptors given is)
    by false is = rw (is, can) refl

-- 2. Services

service_carried : (names : List ServiceNameView) (findings : List FindingView) (q : JobProgramView) (s : FoundServiceView) →
    name_given q.number names ≡ None → service q.number findings ≡ Some s → can_be_kept 1004 s.descriptors ≡ true →
    service_loop (service_for names findings q) ≡ Some s.descriptors
unfolding service_with named_service service_by
service_carried names findings q s unnamed is can =
    rw (unnamed, is) (kept_is 1004 (given_service s.service_type (decode_text 100 s.provider) (decode_text 100 s.name)) s.descriptors can)

status_with : (given : Option ServiceNameView) (found : Option FoundServiceView) (s : FoundServiceView) → found ≡ Some s →
    (service_with given (named_service found)).running_status ≡ s.running_status
unfolding service_with renamed named_service service_by
status_with None found s is = rw is refl
status_with (Some n) found s is = rw is refl

-- 3. Events: each that is found can be said

abbrev AllSaid : List FoundEventView → Type 0
AllSaid [] = Unit {0}
AllSaid (e ∷ es) = (can_be_said e ≡ true) × AllSaid es

both_said : (xs ys : List FoundEventView) → AllSaid xs → AllSaid ys → AllSaid (xs ++ ys)
both_said [] ys one other = other
both_said (x ∷ xs) ys one other = (one.0, both_said xs ys one.1 other)

front_said : (n : ℕ) (xs : List FoundEventView) → AllSaid xs → AllSaid (take n xs)
front_said zero xs all = tt
front_said (suc n) [] all = tt
front_said (suc n) (x ∷ xs) all = (all.0, front_said n xs all.1)

back_said : (n : ℕ) (xs : List FoundEventView) → AllSaid xs → AllSaid (drop n xs)
back_said zero xs all = all
back_said (suc n) [] all = tt
back_said (suc n) (x ∷ xs) all = back_said n xs all.1

event_said : (taken : List FoundEventView) (e : FoundEventView) → AllSaid taken → can_be_said e ≡ true → AllSaid (with_event taken e)
unfolding with_event
event_said taken e all said = by (is_free taken e)
  where
    by : (t : Bool) → AllSaid (if t then insert taken (place_of taken e) e else taken)
    by true = both_said (take (place_of taken e) taken) (e ∷ drop (place_of taken e) taken) (front_said (place_of taken e) taken all)
        (said, back_said (place_of taken e) taken all)
    by false = all

-- An event that a description can say, if there is one
abbrev IsSaid : Option FoundEventView → Type 0
IsSaid None = Unit {0}
IsSaid (Some e) = can_be_said e ≡ true

said_if : (e : FoundEventView) → IsSaid (if_said e)
unfolding if_said
said_if e = by (can_be_said e) refl
  where
    by : (t : Bool) → can_be_said e ≡ t → IsSaid (if t then Some e else None)
    by true is = is
    by false is = tt

entry_said : (program : ℕ) (v : EventView) → IsSaid (event_in program v)
unfolding event_in
entry_said program v = by_start (moment_in v.start_time)
  where
    by_duration : (start : ℕ) (o : Option ℕ) → IsSaid (option_and_then (λ duration. if_said (timed_event program v start duration)) o)
    by_duration start None = tt
    by_duration start (Some duration) = said_if (timed_event program v start duration)

    by_start : (o : Option ℕ) →
        IsSaid (option_and_then (λ start. option_and_then (λ duration. if_said (timed_event program v start duration)) (seconds_in v.duration)) o)
    by_start None = tt
    by_start (Some start) = by_duration start (seconds_in v.duration)

if_any_said : (taken : List FoundEventView) (o : Option FoundEventView) → AllSaid taken → IsSaid o → AllSaid (with_if_said taken o)
unfolding with_if_said
if_any_said taken None all said = all
if_any_said taken (Some e) all said = event_said taken e all said

entries_said : (program : ℕ) (taken : List FoundEventView) (vs : List EventView) → AllSaid taken → AllSaid (with_entries program taken vs)
unfolding with_entries
entries_said program taken [] all = all
entries_said program taken (v ∷ vs) all =
    entries_said program (with_if_said taken (event_in program v)) vs (if_any_said taken (event_in program v) all (entry_said program v))

section_said : (numbers : List ℕ) (taken : List FoundEventView) (o : Option EventSectionView) → AllSaid taken → AllSaid (with_section numbers taken o)
unfolding with_section
section_said numbers taken None all = all
section_said numbers taken (Some s) all = by (is_among s.program numbers)
  where
    by : (t : Bool) → AllSaid (if t then with_entries s.program taken s.events else taken)
    by true = entries_said s.program taken s.events all
    by false = all

findings_said : (numbers : List ℕ) (taken : List FoundEventView) (findings : List FindingView) → AllSaid taken → AllSaid (with_findings numbers taken findings)
unfolding with_findings
findings_said numbers taken [] all = all
findings_said numbers taken (f ∷ fs) all =
    findings_said numbers (with_section numbers taken (event_section_found f)) fs (section_said numbers taken (event_section_found f) all)

job_events_said : (findings : List FindingView) (programs : List JobProgramView) → AllSaid (job_events findings programs)
unfolding job_events stream_events
job_events_said findings programs = findings_said (numbers_of programs) [] findings tt

event_carried : (e : FoundEventView) (said : ShortEventView) → can_be_said e ≡ true → event_loop (event_by e said) ≡ Some e.descriptors
unfolding event_by event_with can_be_said can_be_kept
event_carried e said can =
    kept_is 4000 (given_event (decode_text 3 said.language) (decode_text 100 said.name) (decode_text 150 said.text)) e.descriptors (and_parts _ _ can).0

program_stays : (e : FoundEventView) (said : ShortEventView) → (event_by e said).program ≡ e.program
unfolding event_by event_with
program_stays e said = refl

-- The events of a program
abbrev own_events : ℕ → List FoundEventView → List FoundEventView
own_events number es = filter (λ e. e.program == number) es

events_carried : (number : ℕ) (es : List FoundEventView) → AllSaid es →
    map event_loop (events_of number (map event_part es)) ≡ map (λ e. Some e.descriptors) (own_events number es)
events_carried number [] all = refl
events_carried number (e ∷ es) all =
    let said = texts_of (short_event e.descriptors) in
    let more = events_carried number es all.1 in
    elim (cases_Bool (e.program == number)) [
      | inl own ↦
          rw (program_stays e said, own)
          (ap₂ (λ (x : Option (List ℕ)) (xs : List (Option (List ℕ))). x ∷ xs) (event_carried e said all.0) more)
      | inr other ↦ rw (program_stays e said, other) more
    ]

without_some : (ds : List DescribedEvent) (es : List FoundEventView) → map (λ e. Some e.descriptors) ds ≡ map (λ e. Some e.descriptors) es →
    map (λ e. e.descriptors) ds ≡ map (λ e. e.descriptors) es
without_some [] [] is = refl
without_some [] (e ∷ es) is = absurd cc
without_some (d ∷ ds) [] is = absurd cc
without_some (d ∷ ds) (e ∷ es) is =
    let first : Some d.descriptors ≡ Some e.descriptors = cc in
    let more : map (λ e. Some e.descriptors) ds ≡ map (λ e. Some e.descriptors) es = cc in
    ap₂ (λ (x : List ℕ) (xs : List (List ℕ)). x ∷ xs) (some_same d.descriptors e.descriptors first) (without_some ds es more)

-- 4. The network

network_carried : (given : Option NetworkNameView) (found : Option FoundNetworkView) (others : List TransportStreamView) (n : FoundNetworkView) → given ≡ None →
    found ≡ Some n → network_or given found others ≡ Some (network_with others n (decode_text 200 n.name))
unfolding network_or
network_carried given found others n none is = rw (none, is) refl

loop_carried : (others : List TransportStreamView) (n : FoundNetworkView) → can_be_kept 700 n.network_descriptors ≡ true →
    network_loop (network_with others n (decode_text 200 n.name)) ≡ Some n.network_descriptors
unfolding network_with
loop_carried others n can = kept_is 700 (given_network (decode_text 200 n.name)) n.network_descriptors can

stream_stays : (others : List TransportStreamView) (n : FoundNetworkView) (name : List ℕ) → (network_with others n name).descriptors ≡ n.descriptors
unfolding network_with
stream_stays others n name = refl

others_stay : (others : List TransportStreamView) (n : FoundNetworkView) (name : List ℕ) → (network_with others n name).streams ≡ others
unfolding network_with
others_stay others n name = refl

of_network : (a : DescribedNetwork) (others : List TransportStreamView) (n : FoundNetworkView) →
    NetworkIs a (network_with others n (decode_text 200 n.name)) → can_be_kept 700 n.network_descriptors ≡ true → NetworkCarried a n others
of_network a others n is can = record {
  network = some_same a.network_descriptors n.network_descriptors (sym is.network ∙ loop_carried others n can);
  stream = is.stream ∙ stream_stays others n (decode_text 200 n.name);
  streams = is.others ∙ others_stay others n (decode_text 200 n.name);
}

pub loops_carried : LoopsCarriedLaw
unfolding information_of
loops_carried options count findings input by d is agree =
    let from = moved_of options count findings input is in
    let loops = agree.loops in
    record {
      id = from.id;
      services = λ k p q s here there found. (
          let part = service_for options.names findings q in
          let at : slice_get input.information.services k ≡ Some part =
          ap (λ (x : JobInformationView). slice_get x.services k) from.information_is
          ∙ slice_get-map (service_for options.names findings) input.programs k ∙ ap (option_map (service_for options.names findings)) there in
          let same = loops.services k p part here at in
          record {
            status = same.status ∙ status_with (name_given q.number options.names) (service q.number findings) s found;
            descriptors = λ unnamed can. some_same p.service_descriptors s.descriptors
                (sym same.descriptors ∙ service_carried options.names findings q s unnamed found can);
          });
      events = λ k p here. (
          let all = job_events findings input.programs in
          let same : map event_loop (events_of p.number (map event_part all)) ≡ map (λ e. Some e.descriptors) p.events =
          ap (λ (x : JobInformationView). map event_loop (events_of p.number x.events)) (sym from.information_is) ∙ loops.events k p here in
          without_some p.events (own_events p.number all) (sym same ∙ events_carried p.number all (job_events_said findings input.programs)));
      network = λ a n here none found can. (
          let others = other_streams from.id findings in
          let at : input.information.network ≡ Some (network_with others n (decode_text 200 n.name)) =
          ap (λ (x : JobInformationView). x.network) from.information_is
          ∙ network_carried options.network (stream_network from.id findings) others n none found in
          of_network a others n (loops.network a (network_with others n (decode_text 200 n.name)) here at) can);
    }
