-- A description that passes the test has the descriptors of an input.
use Rattle.std.proofs.Common.{◌≡◌, ℕ, zero, suc, ◌==◌, true, false, Option, Some, None, List, [], ◌∷◌, length, map, slice_get, sym, refl, ap, ap₂, subst, ◌∙◌, inl, inr, arith}
use Rattle.std.proofs.lemmas.Bool.{and_parts, cases_Bool, cond_both, eqb-true, false≢true}
use Rattle.std.proofs.lemmas.Bool.Decides.{nat_tests}
use Rattle.dvb_tables.proofs.Heads.{status_again}
use Rattle.dvb_tables.specs.RunningStates.{status_code, status_of}
use Rattle.dvb_tables.specs.TransportStreams.{TransportStreamView}
use Rattle.dvb_tables.specs.declared.running_status.RunningStatus.{RunningStatus}
use Rattle.description_parts.specs.Described.{Described, DescribedEvent, DescribedNetwork, DescribedProgram, network_stream_view}
use Rattle.description_parts.specs.declared.network_stream.NetworkStream.{NetworkStream}
use Rattle.job_text.specs.DescriptionParts.{EventPartView, NetworkPartView}
use Rattle.job_programs.specs.Events.{event_loop}
use Rattle.job_programs.specs.GivenLoops.{is_loop}
use Rattle.job_programs.specs.Information.{JobInformationView, NamedServiceView, network_loop, service_loop}
use Rattle.job_programs.specs.OtherStreams.{is_same_stream}
use Rattle.stream_jobs.specs.CarriedLoops.{HasLoops, NetworkIs, ServiceIs, after_event, are_events, are_from, are_services, events_of, has_loops, have_events}
use Rattle.stream_jobs.specs.CarriedLoops.{are_streams, is_event, is_network, is_service, past_event}
use Rattle.stream_jobs.proofs.Agreement.{same_bytes, some_same}

pub loop_is : (descriptors : List ℕ) (o : Option (List ℕ)) → is_loop descriptors o ≡ true → o ≡ Some descriptors
unfolding is_loop
loop_is descriptors None e = absurd cc
loop_is descriptors (Some given) e = ap Some (sym (same_bytes descriptors given e))

same_status : (a b : RunningStatus) → status_code a ≡ status_code b → a ≡ b
same_status a b is = sym (status_again a) ∙ ap status_of is ∙ status_again b

service_is : (p : DescribedProgram) (s : NamedServiceView) → is_service p s ≡ true → ServiceIs p s
unfolding is_service
service_is p s h =
    let all = and_parts _ _ h in
    record {
      status = same_status (status_of p.running_status) s.running_status (eqb-true _ _ all.0);
      descriptors = loop_is p.service_descriptors (service_loop s) all.1;
    }

services_are : (ps : List DescribedProgram) (ss : List NamedServiceView) → are_services ps ss ≡ true →
    (k : ℕ) (p : DescribedProgram) (s : NamedServiceView) → slice_get ps k ≡ Some p → slice_get ss k ≡ Some s → ServiceIs p s
unfolding are_services
services_are [] ss e k p s here there = absurd cc
services_are (x ∷ ps) [] e k p s here there = absurd cc
services_are (x ∷ ps) (y ∷ ss) e zero p s here there =
    rw (sym (some_same x p here), sym (some_same y s there)) (service_is x y (and_parts (is_service x y) (are_services ps ss) e).0)
services_are (x ∷ ps) (y ∷ ss) e (suc k) p s here there =
    services_are ps ss (and_parts (is_service x y) (are_services ps ss) e).1 k p s here there

-- The loops of a program's events, and of the declared ones
abbrev SameLoops : ℕ → List DescribedEvent → List EventPartView → Type 0
SameLoops number ds es = map event_loop (events_of number es) ≡ map (λ e. Some e.descriptors) ds

event_is : (d : DescribedEvent) (e : EventPartView) → is_event d e ≡ true → event_loop e ≡ Some d.descriptors
unfolding is_event
event_is d e h =
    let all = and_parts _ _ h in
    loop_is d.descriptors (event_loop e) (and_parts _ _ all.1).1

own_is : (number : ℕ) (ds rest : List DescribedEvent) (e : EventPartView) (es : List EventPartView) → (e.program == number) ≡ true →
    past_event ds e ≡ Some rest → SameLoops number rest es → SameLoops number ds (e ∷ es)
unfolding past_event
own_is number [] rest e es own is more = absurd cc
own_is number (d ∷ ds) rest e es own is more =
    cond_both (is_event d e) (Some ds) None (λ o. o ≡ Some rest → SameLoops number (d ∷ ds) (e ∷ es))
    (λ same taken. (
    let left = subst (λ (r : List DescribedEvent). SameLoops number r es) (sym (some_same ds rest taken)) more in
    rw own (ap₂ (λ (x : Option (List ℕ)) (xs : List (Option (List ℕ))). x ∷ xs) (event_is d e same) left)))
    (λ other none. absurd cc) is

after_is : (number : ℕ) (ds rest : List DescribedEvent) (e : EventPartView) (es : List EventPartView) → after_event number ds e ≡ Some rest →
    SameLoops number rest es → SameLoops number ds (e ∷ es)
unfolding after_event
after_is number ds rest e es is more = elim (cases_Bool (e.program == number)) [
  | inl own ↦ own_is number ds rest e es own (rw own at is) more
  | inr other ↦ rw other (subst (λ (r : List DescribedEvent). SameLoops number r es) (sym (some_same ds rest (rw other at is))) more)
]

from_is : (number : ℕ) (o : Option (List DescribedEvent)) (es : List EventPartView) → are_from number o es ≡ true →
    (ds : List DescribedEvent) × ((o ≡ Some ds) × SameLoops number ds es)
unfolding are_from
from_is number None es h = absurd cc
from_is number (Some []) [] h = ([], (refl, refl))
from_is number (Some (d ∷ ds)) [] h = let some : (length (d ∷ ds) == 0) ≡ false = grind (arith, nat_tests) in absurd (false≢true (sym some ∙ h))
from_is number (Some ds) (e ∷ es) h =
    let next = from_is number (after_event number ds e) es h in
    (ds, (refl, after_is number ds next.0 e es next.1.0 next.1.1))

events_are : (number : ℕ) (ds : List DescribedEvent) (es : List EventPartView) → are_events number ds es ≡ true → SameLoops number ds es
events_are number ds es h =
    let from = from_is number (Some ds) es h in
    subst (λ (r : List DescribedEvent). SameLoops number r es) (sym (some_same ds from.0 from.1.0)) from.1.1

each_events : (ps : List DescribedProgram) (es : List EventPartView) → have_events ps es ≡ true →
    (k : ℕ) (p : DescribedProgram) → slice_get ps k ≡ Some p → SameLoops p.number p.events es
unfolding have_events
each_events [] es h k p at = absurd cc
each_events (x ∷ ps) es h zero p at =
    rw (sym (some_same x p at)) (events_are x.number x.events es (and_parts (are_events x.number x.events es) (have_events ps es) h).0)
each_events (x ∷ ps) es h (suc k) p at = each_events ps es (and_parts (are_events x.number x.events es) (have_events ps es) h).1 k p at

same_stream : (a b c d : ℕ) (x y : List ℕ) → a ≡ b → c ≡ d → x ≡ y →
    let t : TransportStreamView = record { transport_stream_id = a; original_network_id = c; descriptors = x } in
    t ≡ record { transport_stream_id = b; original_network_id = d; descriptors = y }
same_stream a b c d x y id original descriptors = rw (id, original, descriptors) refl

stream_is : (t u : TransportStreamView) → is_same_stream t u ≡ true → t ≡ u
stream_is t u h =
    let all = and_parts _ _ h in
    let ids = and_parts _ _ all.0 in
    same_stream t.transport_stream_id u.transport_stream_id t.original_network_id u.original_network_id t.descriptors u.descriptors
    (sym (eqb-true u.transport_stream_id t.transport_stream_id ids.0)) (sym (eqb-true u.original_network_id t.original_network_id ids.1))
    (same_bytes t.descriptors u.descriptors all.1)

streams_are : (ds : List NetworkStream) (ts : List TransportStreamView) → are_streams ds ts ≡ true → map network_stream_view ds ≡ ts
unfolding are_streams
streams_are [] [] h = refl
streams_are [] (t ∷ ts) h = let some : (length (t ∷ ts) == 0) ≡ false = grind (arith, nat_tests) in absurd (false≢true (sym some ∙ h))
streams_are (d ∷ ds) [] h = absurd cc
streams_are (d ∷ ds) (t ∷ ts) h =
    let all = and_parts _ _ h in
    ap₂ (λ (x : TransportStreamView) (xs : List TransportStreamView). x ∷ xs) (stream_is (network_stream_view d) t all.0) (streams_are ds ts all.1)

network_is : (o : Option DescribedNetwork) (m : Option NetworkPartView) → is_network o m ≡ true →
    (d : DescribedNetwork) (n : NetworkPartView) → o ≡ Some d → m ≡ Some n → NetworkIs d n
unfolding is_network
network_is None m h d n at there = absurd cc
network_is (Some x) None h d n at there = absurd cc
network_is (Some x) (Some y) h d n at there =
    let all = and_parts _ _ h in
    let after_id = and_parts _ _ all.1 in
    let loops = and_parts _ _ after_id.0 in
    rw (sym (some_same x d at), sym (some_same y n there)) (record {
      id = eqb-true x.id y.id all.0;
      network = loop_is x.network_descriptors (network_loop y) loops.0;
      stream = same_bytes x.descriptors y.descriptors loops.1;
      others = streams_are x.streams y.streams after_id.1;
    })

pub loops_are : (d : Described) (i : JobInformationView) → has_loops d i ≡ true → HasLoops d i
unfolding has_loops
loops_are d i h =
    let all = and_parts _ _ h in
    let after_services = and_parts _ _ all.1 in
    record {
      services = services_are d.programs i.services all.0;
      events = each_events d.programs i.events after_services.0;
      network = network_is d.network i.network after_services.1;
    }
