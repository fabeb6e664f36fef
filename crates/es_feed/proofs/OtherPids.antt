-- The feed ignores the body of a finding whose PID no stream of the feed has.
use Rattle.std.proofs.Common.{◌≡◌, ◌∙◌, ℕ, zero, suc, ◌+◌, ◌++◌, ◌==◌, ◌||◌, Bool, true, false, if◌then◌else◌, is_some, Option, Some, None, List, []}
use Rattle.std.proofs.Common.{◌∷◌, map, slice_get, slice_set, refl, sym, ap, ap₂, subst}
use Rattle.std.specs.Prelude.{option_and_then, option_map}
use Rattle.std.specs.Option.{option_or, option_to_list}
use Rattle.psi_tables.specs.ProgramMap.{PmtView}
use Rattle.program_tables.specs.ProgramMaps.{pmt_found, pmt_in, program_map}
use Rattle.program_tables.specs.Sections.{section_bytes, section_on}
use Rattle.pid_findings.specs.Bodies.{finding_without_body, without_body}
use Rattle.demux.specs.KeptBodies.{all_but, finding_but, is_kept, is_of_kept}
use Rattle.demux.specs.Laws.{has_pid}
use Rattle.pid_findings.specs.Views.{WhatView, IsDuplicate, BreaksCounter, IsScrambled, IsTruncated, IsSection, IsBadSection, IsPes, IsBadPes, IsBadPacket}
use Rattle.pid_findings.specs.Views.{IsErrored}
use Rattle.pid_findings.specs.Views.{IsStray}
use Rattle.pid_findings.specs.Views.{FindingView}
use Rattle.pid_findings.specs.declared.finding.Kind.{Kind}
use Rattle.pid_findings.specs.declared.finding.Kind.TheVariants as kinds
use Rattle.demux.proofs.EachPid.{turned_test}
use Rattle.es_units.specs.Marking.{MarkingView, all_marked, is_begin, marked, with_access, with_alignment}
use Rattle.es_units.specs.Marking as given
use Rattle.fed_streams.specs.declared.fed_map.CurrentMap.{CurrentMap}
use Rattle.fed_streams.specs.declared.feed_fault.NewMap.{NewMap}
use Rattle.fed_streams.specs.declared.feed_fault.OtherStream.{OtherStream}
use Rattle.fed_streams.specs.declared.feed_fault.PacketFault.{PacketFault}
use Rattle.packet_pcr.specs.declared.pcr_reading.FoundPcr.{FoundPcr}
use Rattle.fed_streams.specs.declared.restart.Seen.TheVariants.{NoUnit}
use Rattle.packet_pcr.specs.PacketPcr.{is_on}
use Rattle.fed_streams.specs.Feeding.{Fed, FedStreamView, FeedView, after_all, after_at, after_one, after_place, fed_all, fed_one, fed_place, greatest_of}
use Rattle.fed_streams.specs.Feeding.{map_fed, other_fed, packet_fault, packet_fed, place_from, restart_fed, restart_in, restarted, seen_place, reported_first}
use Rattle.fed_streams.specs.Feeding.{watched}
use Rattle.fed_streams.specs.Maps.{MapView, change_of, change_place, clock_pid, current_found, current_of, is_map, map_change, map_found, map_from, map_on}
use Rattle.fed_streams.specs.Maps.{map_with, maps_after, new_map, other_at, other_by, other_place, other_stream, set_at, set_place}
use Rattle.es_feed.specs.StreamFeeding.{stream_pids}
use Rattle.fed_streams.specs.Ticks.{after_end_at, after_late, after_packet, after_passed, after_pcr, after_shown, fed_packet, fed_pcr, is_tick}
use Rattle.fed_streams.specs.Ticks.{late_after, passed_from, with_shown, with_tick}

-- 1. The PIDs of the streams stay the same

set_pids : (ss : List FedStreamView) (j : ℕ) (s t : FedStreamView) → slice_get ss j ≡ Some s → t.units.pid ≡ s.units.pid →
    map (λ (s : FedStreamView). s.units.pid) (slice_set ss j t) ≡ map (λ (s : FedStreamView). s.units.pid) ss
set_pids [] j s t at same = refl
set_pids (x ∷ xs) zero s t at same =
    let is : x ≡ s = cc in
    ap (λ (k : ℕ). k ∷ map (λ (s : FedStreamView). s.units.pid) xs) (same ∙ ap (λ (s : FedStreamView). s.units.pid) (sym is))
set_pids (x ∷ xs) (suc j) s t at same = ap (λ (ks : List ℕ). x.units.pid ∷ ks) (set_pids xs j s t at same)

at_pids : (feed : FeedView) (f : FindingView) (k : ℕ) (s : Option FedStreamView) → slice_get feed.streams k ≡ s →
    stream_pids (after_at feed f k s) ≡ stream_pids feed
unfolding after_at
at_pids feed f k None at = refl
at_pids feed f k (Some s) at = set_pids feed.streams k s _ at refl

place_pids : (feed : FeedView) (f : FindingView) (place : Option ℕ) → stream_pids (after_place feed f place) ≡ stream_pids feed
unfolding after_place
place_pids feed f None = refl
place_pids feed f (Some k) = at_pids feed f k (slice_get feed.streams k) refl

one_pids : (feed : FeedView) (f : FindingView) → stream_pids (after_one feed f) ≡ stream_pids feed
one_pids feed f = place_pids (watched feed f) f (place_from f.pid 0 feed.streams)

all_pids : (feed : FeedView) (fs : List FindingView) → stream_pids (after_all feed fs) ≡ stream_pids feed
unfolding after_all
all_pids feed [] = refl
all_pids feed (f ∷ fs) = all_pids (after_one feed f) fs ∙ one_pids feed f

end_pids : (feed : FeedView) (k : ℕ) (s : Option FedStreamView) → slice_get feed.streams k ≡ s → stream_pids (after_end_at feed k s) ≡ stream_pids feed
unfolding after_end_at
end_pids feed k None at = refl
end_pids feed k (Some s) at = set_pids feed.streams k s _ at refl

if_pids : (b : Bool) (x y : FeedView) → stream_pids x ≡ stream_pids y → stream_pids (if b then x else y) ≡ stream_pids y
if_pids true x y same = same
if_pids false x y same = refl

passed_pids : (feed : FeedView) (late : ℕ) (place : Option ℕ) → stream_pids (after_passed feed late place) ≡ stream_pids feed
unfolding after_passed
passed_pids feed late None = if_pids (is_tick (greatest_of feed) late) (with_tick feed late) feed refl
passed_pids feed late (Some k) = end_pids feed k (slice_get feed.streams k) refl

late_pids : (feed : FeedView) (late : Option ℕ) → stream_pids (after_late feed late) ≡ stream_pids feed
unfolding after_late
late_pids feed None = refl
late_pids feed (Some late) = passed_pids feed late (passed_from feed.origin late 0 feed.streams)

shown_pids : (feed : FeedView) (pcr : FoundPcr) → stream_pids (after_shown feed pcr) ≡ stream_pids feed
shown_pids feed pcr = late_pids (with_shown feed pcr) (late_after feed pcr)

pcr_pids : (feed : FeedView) (pcr : Option FoundPcr) → stream_pids (after_pcr feed pcr) ≡ stream_pids feed
unfolding after_pcr
pcr_pids feed None = refl
pcr_pids feed (Some pcr) = if_pids (is_on pcr.pid (clock_pid feed.maps)) (after_shown feed pcr) feed (shown_pids feed pcr)

pub packet_pids : (feed : FeedView) (found : List FindingView) (pcr : Option FoundPcr) → stream_pids (after_packet feed found pcr) ≡ stream_pids feed
packet_pids feed found pcr =
    let marks = all_marked feed.marking found in
    pcr_pids (after_all feed marks) pcr ∙ all_pids feed marks

-- 2. The map in a finding does not depend on its body

section_aligned : (w : WhatView) → section_bytes (with_alignment w) ≡ section_bytes w
unfolding section_bytes with_alignment
section_aligned IsDuplicate = refl
section_aligned (BreaksCounter expected found) = refl
section_aligned IsScrambled = refl
section_aligned (IsTruncated bytes) = refl
section_aligned (IsSection bytes) = refl
section_aligned (IsBadSection error) = refl
section_aligned (IsPes header unended body) = refl
section_aligned (IsBadPes error) = refl
section_aligned (IsBadPacket error) = refl
section_aligned IsErrored = refl
section_aligned (IsStray size) = refl

section_bodiless : (w : WhatView) → section_bytes (without_body w) ≡ section_bytes w
unfolding section_bytes
section_bodiless IsDuplicate = refl
section_bodiless (BreaksCounter expected found) = refl
section_bodiless IsScrambled = refl
section_bodiless (IsTruncated bytes) = refl
section_bodiless (IsSection bytes) = refl
section_bodiless (IsBadSection error) = refl
section_bodiless (IsPes header unended body) = refl
section_bodiless (IsBadPes error) = refl
section_bodiless (IsBadPacket error) = refl
section_bodiless IsErrored = refl
section_bodiless (IsStray size) = refl

section_if : (b : Bool) (w : WhatView) → section_bytes (if b then with_alignment w else w) ≡ section_bytes w
section_if true w = section_aligned w
section_if false w = refl

begun_with : (begun : Option (ℕ × Kind)) → is_map (with_access begun) ≡ is_map begun
unfolding is_map with_access
begun_with None = refl
begun_with (Some (packet, kinds.Table id)) = refl
begun_with (Some (packet, kinds.Pes stamped access)) = refl

begun_if : (b : Bool) (begun : Option (ℕ × Kind)) → is_map (if b then with_access begun else begun) ≡ is_map begun
begun_if true begun = begun_with begun
begun_if false begun = refl

-- The map in a section, by the section's PID and bytes
on : ℕ → Option ℕ → Option ℕ → Option (List ℕ) → Option PmtView
on number None pid bytes = None
on number (Some p) pid bytes = option_or None (option_and_then (pmt_in number) (if has_pid p pid then bytes else None))

on_is : (number : ℕ) (f : FindingView) (p : Option ℕ) → map_on number f p ≡ on number p f.pid (section_bytes f.what)
unfolding map_on program_map pmt_found section_on on
on_is number f None = refl
on_is number f (Some p) = refl

pub record SameMap (x y : FindingView) : Type 0 where
  pub packet : x.packet ≡ y.packet
  pub found : (number : ℕ) → map_found number x ≡ map_found number y

found_same : (number : ℕ) (x y : FindingView) → x.pid ≡ y.pid → is_map x.begun ≡ is_map y.begun → section_bytes x.what ≡ section_bytes y.what →
    map_found number x ≡ map_found number y
unfolding map_found
found_same number x y pid begun what =
    ap₂ (λ (b : Bool) (p : Option PmtView). if b then p else None) begun
    (on_is number x x.pid ∙ ap (λ (p : Option ℕ). on number p p (section_bytes x.what)) pid ∙ ap (on number y.pid y.pid) what ∙ sym (on_is number y y.pid))

marked_map : (m : MarkingView) (f : FindingView) → SameMap (marked m f) (marked m (finding_without_body f))
marked_map m f = record {
  packet = refl;
  found = λ number. found_same number (marked m f) (marked m (finding_without_body f)) refl
      (begun_if (is_begin m.access f.pid f.what) f.begun ∙ sym (begun_if (is_begin m.access f.pid (without_body f.what)) f.begun))
      (section_if (given.is_aligned m.aligned f.pid) f.what ∙ sym (section_bodiless f.what)
      ∙ sym (section_if (given.is_aligned m.aligned f.pid) (without_body f.what)));
}

-- The kept maps, and the reports about maps, are the same
current_same : (number : ℕ) (x y : FindingView) → SameMap x y → current_found number x ≡ current_found number y
unfolding current_found
current_same number x y same = ap (λ (p : Option PmtView). option_map current_of p) (same.found number)

from_same : (x y : FindingView) (k : ℕ) (ms : List MapView) → SameMap x y → map_from x k ms ≡ map_from y k ms
unfolding map_from
from_same x y k [] same = refl
from_same x y k (m ∷ ms) same =
    ap₂ (λ (c : Option CurrentMap) (rest : Option ℕ). if is_some c then Some k else rest) (current_same m.program_number x y same)
    (from_same x y (k + 1) ms same)

set_at_same : (x y : FindingView) (k : ℕ) (m : Option MapView) (ms : List MapView) → SameMap x y → set_at x k m ms ≡ set_at y k m ms
unfolding set_at
set_at_same x y k None ms same = refl
set_at_same x y k (Some m) ms same = ap (λ (c : Option CurrentMap). slice_set ms k (map_with m c)) (current_same m.program_number x y same)

set_place_same : (x y : FindingView) (place : Option ℕ) (ms : List MapView) → SameMap x y → set_place x place ms ≡ set_place y place ms
unfolding set_place
set_place_same x y None ms same = refl
set_place_same x y (Some k) ms same = set_at_same x y k (slice_get ms k) ms same

maps_same : (x y : FindingView) (ms : List MapView) → SameMap x y → maps_after x ms ≡ maps_after y ms
maps_same x y ms same = set_place_same x y (map_from x 0 ms) ms same ∙ ap (λ (p : Option ℕ). set_place y p ms) (from_same x y 0 ms same)

change_same : (x y : FindingView) (m : Option MapView) → SameMap x y → change_of x m ≡ change_of y m
unfolding change_of
change_same x y None same = refl
change_same x y (Some m) same =
    ap₂ (λ (n : ℕ) (c : Option CurrentMap). map_change m n c) same.packet (current_same m.program_number x y same)

change_place_same : (x y : FindingView) (place : Option ℕ) (ms : List MapView) → SameMap x y → change_place x place ms ≡ change_place y place ms
unfolding change_place
change_place_same x y None ms same = refl
change_place_same x y (Some k) ms same = change_same x y (slice_get ms k) same

new_same : (x y : FindingView) (ms : List MapView) → SameMap x y → new_map x ms ≡ new_map y ms
new_same x y ms same = change_place_same x y (map_from x 0 ms) ms same ∙ ap (λ (p : Option ℕ). change_place y p ms) (from_same x y 0 ms same)

other_at_same : (x y : FindingView) (m : Option MapView) → SameMap x y → other_at x m ≡ other_at y m
unfolding other_at
other_at_same x y None same = refl
other_at_same x y (Some m) same = ap₂ (λ (n : ℕ) (p : Option PmtView). other_by m n p) same.packet (same.found m.program_number)

other_place_same : (x y : FindingView) (place : Option ℕ) (ms : List MapView) → SameMap x y → other_place x place ms ≡ other_place y place ms
unfolding other_place
other_place_same x y None ms same = refl
other_place_same x y (Some k) ms same = other_at_same x y (slice_get ms k) same

other_same : (x y : FindingView) (ms : List MapView) → SameMap x y → other_stream x ms ≡ other_stream y ms
other_same x y ms same = other_place_same x y (map_from x 0 ms) ms same ∙ ap (λ (p : Option ℕ). other_place y p ms) (from_same x y 0 ms same)

-- 3. A finding of another PID

any_first : (a b : Bool) → (a || b) ≡ false → (a ≡ false) × (b ≡ false)
any_first true b e = absurd cc
any_first false b e = (refl, e)

no_place : (pid k : ℕ) (ss : List FedStreamView) → is_kept (map (λ (s : FedStreamView). s.units.pid) ss) pid ≡ false → place_from (Some pid) k ss ≡ None
unfolding place_from
no_place pid k [] e = refl
no_place pid k (s ∷ ss) e =
    let parts = any_first (s.units.pid == pid) (is_kept (map (λ (s : FedStreamView). s.units.pid) ss) pid) e in
    ap (λ (b : Bool). if b then Some k else place_from (Some pid) (k + 1) ss) (turned_test pid s.units.pid ∙ parts.0) ∙ no_place pid (k + 1) ss parts.1

skipped_after : (feed : FeedView) (x : FindingView) → place_from x.pid 0 feed.streams ≡ None → after_one feed x ≡ restarted (watched feed x) NoUnit
unfolding after_place seen_place
skipped_after feed x none = rw none refl

skipped_fed : (feed : FeedView) (x : FindingView) → place_from x.pid 0 feed.streams ≡ None →
    fed_one feed x ≡ reported_first feed x ++ option_to_list (restart_fed (restart_in (watched feed x) NoUnit))
unfolding after_place fed_place seen_place
skipped_fed feed x none = rw none refl

no_fault : (x : FindingView) (pid : ℕ) → x.pid ≡ Some pid → packet_fault x ≡ None
unfolding packet_fault
no_fault x pid is = rw is refl

watched_same : (feed : FeedView) (x y : FindingView) → SameMap x y → watched feed x ≡ watched feed y
watched_same feed x y same = rw (maps_same x y feed.maps same) refl

reported_same : (feed : FeedView) (x y : FindingView) (pid : ℕ) → x.pid ≡ Some pid → y.pid ≡ Some pid → SameMap x y →
    reported_first feed x ≡ reported_first feed y
reported_same feed x y pid xs ys same =
    ap₂ (λ (o : Option OtherStream) (n : Option NewMap). option_to_list (other_fed o)
    ++ (option_to_list (map_fed n) ++ option_to_list (packet_fed (packet_fault x)))) (other_same x y feed.maps same) (new_same x y feed.maps same)
    ∙ ap (λ (p : Option PacketFault). option_to_list (other_fed (other_stream y feed.maps))
    ++ (option_to_list (map_fed (new_map y feed.maps)) ++ option_to_list (packet_fed p))) (no_fault x pid xs ∙ sym (no_fault y pid ys))

record Unheard (feed : FeedView) (x y : FindingView) : Type 0 where
  pub after : after_one feed x ≡ after_one feed y
  pub fed : fed_one feed x ≡ fed_one feed y

unheard : (feed : FeedView) (x y : FindingView) (pid : ℕ) → x.pid ≡ Some pid → y.pid ≡ Some pid → is_kept (stream_pids feed) pid ≡ false → SameMap x y →
    Unheard feed x y
unheard feed x y pid xs ys other same =
    let none = no_place pid 0 feed.streams other in
    let none_x : place_from x.pid 0 feed.streams ≡ None = ap (λ (p : Option ℕ). place_from p 0 feed.streams) xs ∙ none in
    let none_y : place_from y.pid 0 feed.streams ≡ None = ap (λ (p : Option ℕ). place_from p 0 feed.streams) ys ∙ none in
    record {
      after = skipped_after feed x none_x ∙ ap (λ (w : FeedView). restarted w NoUnit) (watched_same feed x y same) ∙ sym (skipped_after feed y none_y);
      fed = skipped_fed feed x none_x
          ∙ ap₂ (λ (reported : List Fed) (w : FeedView). reported ++ option_to_list (restart_fed (restart_in w NoUnit))) (reported_same feed x y pid xs ys same)
          (watched_same feed x y same)
          ∙ sym (skipped_fed feed y none_y);
    }

pid_there : (kept : List ℕ) (pid : Option ℕ) → is_of_kept kept pid ≡ false → (p : ℕ) × (pid ≡ Some p) × (is_kept kept p ≡ false)
pid_there kept None e = absurd cc
pid_there kept (Some p) e = (p, refl, e)

heard_by : (feed : FeedView) (m : MarkingView) (f : FindingView) (b : Bool) → is_of_kept (stream_pids feed) f.pid ≡ b →
    Unheard feed (marked m f) (marked m (if b then f else finding_without_body f))
heard_by feed m f true is = record { after = refl; fed = refl }
heard_by feed m f false is =
    let there = pid_there (stream_pids feed) f.pid is in
    unheard feed (marked m f) (marked m (finding_without_body f)) there.0 there.1 there.1 there.2 (marked_map m f)

heard : (feed : FeedView) (m : MarkingView) (kept : List ℕ) (f : FindingView) → stream_pids feed ≡ kept →
    Unheard feed (marked m f) (marked m (finding_but kept f))
heard feed m kept f are =
    subst (λ (ks : List ℕ). Unheard feed (marked m f) (marked m (finding_but ks f))) are (heard_by feed m f (is_of_kept (stream_pids feed) f.pid) refl)

-- 4. All findings

all_after : (feed : FeedView) (m : MarkingView) (kept : List ℕ) (fs : List FindingView) → stream_pids feed ≡ kept →
    after_all feed (all_marked m fs) ≡ after_all feed (all_marked m (all_but kept fs))
unfolding after_all
all_after feed m kept [] are = refl
all_after feed m kept (f ∷ fs) are =
    all_after (after_one feed (marked m f)) m kept fs (one_pids feed (marked m f) ∙ are)
    ∙ ap (λ (t : FeedView). after_all t (all_marked m (all_but kept fs))) (heard feed m kept f are).after

all_fed : (feed : FeedView) (m : MarkingView) (kept : List ℕ) (fs : List FindingView) → stream_pids feed ≡ kept →
    fed_all feed (all_marked m fs) ≡ fed_all feed (all_marked m (all_but kept fs))
unfolding fed_all
all_fed feed m kept [] are = refl
all_fed feed m kept (f ∷ fs) are =
    let one = heard feed m kept f are in
    ap (λ (xs : List Fed). fed_one feed (marked m f) ++ xs) (all_fed (after_one feed (marked m f)) m kept fs (one_pids feed (marked m f) ∙ are))
    ∙ ap₂ (λ (xs : List Fed) (t : FeedView). xs ++ fed_all t (all_marked m (all_but kept fs))) one.fed one.after

pub found_after : (feed : FeedView) (m : MarkingView) (kept : List ℕ) (fs gs : List FindingView) → stream_pids feed ≡ kept →
    all_but kept fs ≡ all_but kept gs →
    after_all feed (all_marked m fs) ≡ after_all feed (all_marked m gs)
found_after feed m kept fs gs are same =
    all_after feed m kept fs are ∙ ap (λ (xs : List FindingView). after_all feed (all_marked m xs)) same ∙ sym (all_after feed m kept gs are)

pub found_fed : (feed : FeedView) (m : MarkingView) (kept : List ℕ) (fs gs : List FindingView) → stream_pids feed ≡ kept → all_but kept fs ≡ all_but kept gs →
    fed_all feed (all_marked m fs) ≡ fed_all feed (all_marked m gs)
found_fed feed m kept fs gs are same =
    all_fed feed m kept fs are ∙ ap (λ (xs : List FindingView). fed_all feed (all_marked m xs)) same ∙ sym (all_fed feed m kept gs are)

pub packet_after : (feed : FeedView) (kept : List ℕ) (fs gs : List FindingView) (pcr : Option FoundPcr) → stream_pids feed ≡ kept →
    all_but kept fs ≡ all_but kept gs → after_packet feed fs pcr ≡ after_packet feed gs pcr
packet_after feed kept fs gs pcr are same = ap (λ (t : FeedView). after_pcr t pcr) (found_after feed feed.marking kept fs gs are same)

pub packet_feeds : (feed : FeedView) (kept : List ℕ) (fs gs : List FindingView) (pcr : Option FoundPcr) → stream_pids feed ≡ kept →
    all_but kept fs ≡ all_but kept gs → fed_packet feed fs pcr ≡ fed_packet feed gs pcr
packet_feeds feed kept fs gs pcr are same =
    ap₂ (λ (xs : List Fed) (t : FeedView). xs ++ fed_pcr t pcr) (found_fed feed feed.marking kept fs gs are same)
    (found_after feed feed.marking kept fs gs are same)
