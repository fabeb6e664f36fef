-- The counts of one PID, packet by packet and for the whole stream.
use Rattle.std.proofs.Common.{◌≡◌, ℕ, ◌+◌, ◌-◌, ◌^◌, ◌≤◌, ◌==◌, Bool, true, false, cond, List, [], ◌∷◌, ◌++◌, length, map, filter, Option, Some, None, Result}
use Rattle.std.proofs.Common.{Ok, Err, refl, sym, ap, ap₂, ◌∙◌, arith}
use Rattle.std.specs.Prelude.{◌&&◌, not}
use Rattle.std.specs.List.{filter_map, cons_option}
use Rattle.ts_packet.specs.declared.packet.PacketError.{PacketError}
use Rattle.ts_packet.specs.Views.{PacketView}
use Rattle.ts_packet.specs.Reading.{packet_at}
use Rattle.ts_packet.specs.PidList.{Entry, entry_of, is_of_pid}
use Rattle.pid_findings.specs.Views.{PidFinding, FindingView, WhatView, IsDuplicate, BreaksCounter, IsScrambled, IsTruncated, IsSection, IsBadSection, IsPes}
use Rattle.pid_findings.specs.Views.{IsBadPes}
use Rattle.pid_findings.specs.Views.{IsBadPacket, IsErrored, IsStray}
use Rattle.demux.specs.Laws.{found_of, has_pid, with_pid_at}
use Rattle.monitor.specs.declared.counts.PacketCounts.{PacketCounts}
use Rattle.monitor.specs.declared.counts.FindingCounts.{FindingCounts}
use Rattle.monitor.specs.Counts.{one_more, packet_counts_or_zero, packet_counts_of, one_more_packet, packet_counted, finding_counts_or_zero, finding_counts_of}
use Rattle.monitor.specs.Counts.{duplicate_counted, scrambled_counted}
use Rattle.monitor.specs.CountsOfPids.{counted, is_duplicate, is_scrambled}
use Rattle.monitor.proofs.LatePlaces.{same_number}
use Rattle.monitor.proofs.PidEntries.{inserted}
use Rattle.monitor.proofs.PacketSteps.{carried_all, listed, start_of, starts_of}
use Rattle.monitor.proofs.FindingSteps.{counts_of_found, counts_on}

-- 1. Packets, and packets that begin a payload unit

abbrev tally : ℕ → PacketCounts → List (ℕ × Bool) → PacketCounts
tally pid c [] = c
tally pid c (x ∷ starts) = tally pid (cond (x.0 == pid) (one_more_packet c x.1) c) starts

packet_of : (pid q : ℕ) (start : Bool) (entries : List (ℕ × PacketCounts)) (t : Bool) → (q == pid) ≡ t →
    packet_counts_of pid (packet_counted entries q start) ≡ cond t (one_more_packet (packet_counts_of pid entries) start) (packet_counts_of pid entries)
unfolding packet_counts_or_zero
packet_of pid q start entries true e =
    ap packet_counts_or_zero (inserted pid q (one_more_packet (packet_counts_of q entries) start) entries true e)
    ∙ ap (λ (k : ℕ). one_more_packet (packet_counts_of k entries) start) (same_number q pid e)
packet_of pid q start entries false e = ap packet_counts_or_zero (inserted pid q (one_more_packet (packet_counts_of q entries) start) entries false e)

carried_tally : (pid : ℕ) (entries : List (ℕ × PacketCounts)) (starts : List (ℕ × Bool)) →
    packet_counts_of pid (carried_all entries starts) ≡ tally pid (packet_counts_of pid entries) starts
unfolding carried_all
carried_tally pid entries [] = refl
carried_tally pid entries (x ∷ starts) =
    carried_tally pid (packet_counted entries x.0 x.1) starts
    ∙ ap (λ (c : PacketCounts). tally pid c starts) (packet_of pid x.0 x.1 entries (x.0 == pid) refl)

abbrev more_packets : PacketCounts → ℕ → ℕ → PacketCounts
more_packets c packets starts = record { packets = counted (c.packets + packets); starts = counted (c.starts + starts) }

one_packet : (c : PacketCounts) (start : Bool) (n k : ℕ) → more_packets (one_more_packet c start) n k ≡ more_packets c (n + 1) (cond start 1 0 + k)
unfolding one_more_packet one_more
one_packet c true n k =
    let a : counted (counted (c.packets + 1) + n) ≡ counted (c.packets + (n + 1)) = omega arith in
    let b : counted (counted (c.starts + 1) + k) ≡ counted (c.starts + (1 + k)) = omega arith in
    ap₂ (λ (x y : ℕ). record { packets = x; starts = y }) a b
one_packet c false n k =
    let a : counted (counted (c.packets + 1) + n) ≡ counted (c.packets + (n + 1)) = omega arith in
    let b : counted (c.starts + k) ≡ counted (c.starts + (0 + k)) = omega arith in
    ap₂ (λ (x y : ℕ). record { packets = x; starts = y }) a b

none_yet : (c : PacketCounts) → c.packets ≤ 2 ^ 64 - 1 → c.starts ≤ 2 ^ 64 - 1 → c ≡ more_packets c 0 0
none_yet c h k =
    let a : c.packets ≡ counted (c.packets + 0) = omega arith in
    let b : c.starts ≡ counted (c.starts + 0) = omega arith in
    ap₂ (λ (x y : ℕ). record { packets = x; starts = y }) a b

small : (c : PacketCounts) (start : Bool) → c.starts ≤ 2 ^ 64 - 1 →
    ((one_more_packet c start).packets ≤ 2 ^ 64 - 1) × ((one_more_packet c start).starts ≤ 2 ^ 64 - 1)
unfolding one_more_packet one_more
small c true h = (omega arith, omega arith)
small c false h = (omega arith, h)

filter_one : {X : Type 0} (p : X → Bool) (x : X) (xs : List X) → length (filter p (x ∷ xs)) ≡ cond (p x) 1 0 + length (filter p xs)
filter_one {X} p x xs = by (p x)
  where
    by : (t : Bool) → length (cond t (x ∷ filter p xs) (filter p xs)) ≡ cond t 1 0 + length (filter p xs)
    by true = omega arith
    by false = omega arith

abbrev starts_among : List Entry → ℕ
starts_among entries = length (filter (λ entry. entry.packet.header.payload_unit_start_indicator) entries)

abbrev counts_among : PacketCounts → List Entry → PacketCounts
counts_among c entries = more_packets c (length entries) (starts_among entries)

packet_among : (c : PacketCounts) (entry : Entry) (entries : List Entry) →
    counts_among (one_more_packet c entry.packet.header.payload_unit_start_indicator) entries ≡ counts_among c (entry ∷ entries)
packet_among c entry entries =
    let n : length entries + 1 ≡ length (entry ∷ entries) = omega arith in
    one_packet c entry.packet.header.payload_unit_start_indicator (length entries) (starts_among entries)
    ∙ ap₂ (more_packets c) n (sym (filter_one (λ e. e.packet.header.payload_unit_start_indicator) entry entries))

tally_is : (pid : ℕ) (c : PacketCounts) (packets : List (ℕ × List ℕ)) → c.packets ≤ 2 ^ 64 - 1 → c.starts ≤ 2 ^ 64 - 1 →
    tally pid c (starts_of packets) ≡ counts_among c (listed pid packets)
unfolding start_of entry_of
tally_is pid c [] h k = none_yet c h k
tally_is pid c (p ∷ packets) h k = by (packet_at p.1) (λ d. tally_is pid d packets)
  where
    rest : List Entry
    rest = filter_map (λ p. entry_of p.0 p.1 (packet_at p.1)) packets

    first : (q : ℕ) (start : Bool) (t : Bool) → (q == pid) ≡ t →
        tally pid c ((q, start) ∷ starts_of packets) ≡ tally pid (cond t (one_more_packet c start) c) (starts_of packets)
    first q start t f = ap (λ (u : Bool). tally pid (cond u (one_more_packet c start) c) (starts_of packets)) f

    on : (packet : PacketView) →
        ((d : PacketCounts) → d.packets ≤ 2 ^ 64 - 1 → d.starts ≤ 2 ^ 64 - 1 → tally pid d (starts_of packets) ≡ counts_among d (listed pid packets)) →
        (e t : Bool) → (packet.header.pid == pid) ≡ t →
        tally pid c (cond e [] ((packet.header.pid, packet.header.payload_unit_start_indicator) ∷ []) ++ starts_of packets)
        ≡ counts_among c (cond (t && not e) ((record { index = p.0; bytes = p.1; packet = packet }) ∷ listed pid packets) (listed pid packets))
    on packet i true true f = i c h k
    on packet i true false f = i c h k
    on packet i false true f =
        let s = small c packet.header.payload_unit_start_indicator k in
        first packet.header.pid packet.header.payload_unit_start_indicator true f ∙ i (one_more_packet c packet.header.payload_unit_start_indicator) s.0 s.1
        ∙ packet_among c (record { index = p.0; bytes = p.1; packet = packet }) (listed pid packets)
    on packet i false false f = first packet.header.pid packet.header.payload_unit_start_indicator false f ∙ i c h k

    by : (r : Result PacketView PacketError) →
        ((d : PacketCounts) → d.packets ≤ 2 ^ 64 - 1 → d.starts ≤ 2 ^ 64 - 1 → tally pid d (starts_of packets) ≡ counts_among d (listed pid packets)) →
        tally pid c (start_of r ++ starts_of packets) ≡ counts_among c (filter (λ entry. is_of_pid pid entry.packet) (cons_option (entry_of p.0 p.1 r) rest))
    by (Err error) i = i c h k
    by (Ok packet) i = on packet i packet.header.transport_error_indicator (packet.header.pid == pid) refl

pub carried_is : (pid : ℕ) (packets : List (ℕ × List ℕ)) →
    packet_counts_of pid (carried_all [] (starts_of packets)) ≡ record
    { packets = counted (length (listed pid packets)); starts = counted (starts_among (listed pid packets)) }
unfolding packet_counts_or_zero
carried_is pid packets =
    let zero_packets : PacketCounts = record { packets = 0; starts = 0 } in
    let a : counted (0 + length (listed pid packets)) ≡ counted (length (listed pid packets)) = omega arith in
    let b : counted (0 + starts_among (listed pid packets)) ≡ counted (starts_among (listed pid packets)) = omega arith in
    carried_tally pid [] (starts_of packets) ∙ tally_is pid zero_packets packets (omega arith) (omega arith)
    ∙ ap₂ (λ (x y : ℕ). record { packets = x; starts = y }) a b

-- 2. Duplicates and scrambled packets

unfoldable one_noted : FindingCounts → WhatView → FindingCounts
one_noted n IsDuplicate = record { duplicates = one_more n.duplicates; scrambled = n.scrambled }
one_noted n IsScrambled = record { duplicates = n.duplicates; scrambled = one_more n.scrambled }
one_noted n what = n

abbrev note_tally : FindingCounts → List FindingView → FindingCounts
note_tally n [] = n
note_tally n (f ∷ found) = note_tally (one_noted n f.what) found

duplicate_of : (pid q : ℕ) (finding_counts : List (ℕ × FindingCounts)) (t : Bool) → (q == pid) ≡ t →
    finding_counts_of pid (duplicate_counted q finding_counts) ≡ cond t (one_noted (finding_counts_of pid finding_counts) IsDuplicate)
    (finding_counts_of pid finding_counts)
unfolding finding_counts_or_zero one_noted
duplicate_of pid q finding_counts true e =
    let n = finding_counts_of q finding_counts in
    ap finding_counts_or_zero (inserted pid q (record { duplicates = one_more n.duplicates; scrambled = n.scrambled }) finding_counts true e)
    ∙ ap (λ (k : ℕ). one_noted (finding_counts_of k finding_counts) IsDuplicate) (same_number q pid e)
duplicate_of pid q finding_counts false e =
    let n = finding_counts_of q finding_counts in
    ap finding_counts_or_zero (inserted pid q (record { duplicates = one_more n.duplicates; scrambled = n.scrambled }) finding_counts false e)

scrambled_of : (pid q : ℕ) (finding_counts : List (ℕ × FindingCounts)) (t : Bool) → (q == pid) ≡ t →
    finding_counts_of pid (scrambled_counted q finding_counts) ≡ cond t (one_noted (finding_counts_of pid finding_counts) IsScrambled)
    (finding_counts_of pid finding_counts)
unfolding finding_counts_or_zero one_noted
scrambled_of pid q finding_counts true e =
    let n = finding_counts_of q finding_counts in
    ap finding_counts_or_zero (inserted pid q (record { duplicates = n.duplicates; scrambled = one_more n.scrambled }) finding_counts true e)
    ∙ ap (λ (k : ℕ). one_noted (finding_counts_of k finding_counts) IsScrambled) (same_number q pid e)
scrambled_of pid q finding_counts false e =
    let n = finding_counts_of q finding_counts in
    ap finding_counts_or_zero (inserted pid q (record { duplicates = n.duplicates; scrambled = one_more n.scrambled }) finding_counts false e)

noted_plain : (n : FindingCounts) (t : Bool) → n ≡ cond t n n
noted_plain n true = refl
noted_plain n false = refl

noted_one : (pid : ℕ) (finding_counts : List (ℕ × FindingCounts)) (q : Option ℕ) (what : WhatView) →
    finding_counts_of pid (counts_on finding_counts q what) ≡ cond (has_pid pid q) (one_noted (finding_counts_of pid finding_counts) what)
    (finding_counts_of pid finding_counts)
unfolding counts_on one_noted
noted_one pid finding_counts None what = refl
noted_one pid finding_counts (Some q) IsDuplicate = duplicate_of pid q finding_counts (q == pid) refl
noted_one pid finding_counts (Some q) IsScrambled = scrambled_of pid q finding_counts (q == pid) refl
noted_one pid finding_counts (Some q) (BreaksCounter expected found) = noted_plain (finding_counts_of pid finding_counts) (q == pid)
noted_one pid finding_counts (Some q) (IsTruncated bytes) = noted_plain (finding_counts_of pid finding_counts) (q == pid)
noted_one pid finding_counts (Some q) (IsSection bytes) = noted_plain (finding_counts_of pid finding_counts) (q == pid)
noted_one pid finding_counts (Some q) (IsBadSection error) = noted_plain (finding_counts_of pid finding_counts) (q == pid)
noted_one pid finding_counts (Some q) (IsPes header unended body) = noted_plain (finding_counts_of pid finding_counts) (q == pid)
noted_one pid finding_counts (Some q) (IsBadPes error) = noted_plain (finding_counts_of pid finding_counts) (q == pid)
noted_one pid finding_counts (Some q) (IsBadPacket error) = noted_plain (finding_counts_of pid finding_counts) (q == pid)
noted_one pid finding_counts (Some q) IsErrored = noted_plain (finding_counts_of pid finding_counts) (q == pid)
noted_one pid finding_counts (Some q) (IsStray size) = noted_plain (finding_counts_of pid finding_counts) (q == pid)

noted_tally : (pid : ℕ) (finding_counts : List (ℕ × FindingCounts)) (found : List FindingView) →
    finding_counts_of pid (counts_of_found finding_counts found) ≡ note_tally (finding_counts_of pid finding_counts) (found_of pid found)
unfolding counts_of_found
noted_tally pid finding_counts [] = refl
noted_tally pid finding_counts (f ∷ found) =
    noted_tally pid (counts_on finding_counts f.pid f.what) found
    ∙ ap (λ (n : FindingCounts). note_tally n (found_of pid found)) (noted_one pid finding_counts f.pid f.what)
    ∙ by (has_pid pid f.pid)
  where
    by : (t : Bool) → note_tally (cond t (one_noted (finding_counts_of pid finding_counts) f.what) (finding_counts_of pid finding_counts)) (found_of pid found)
        ≡ note_tally (finding_counts_of pid finding_counts) (cond t (f ∷ found_of pid found) (found_of pid found))
    by true = refl
    by false = refl

abbrev duplicates_among : List PidFinding → ℕ
duplicates_among found = length (filter (λ at. is_duplicate at.found.what) found)

abbrev scrambled_among : List PidFinding → ℕ
scrambled_among found = length (filter (λ at. is_scrambled at.found.what) found)

abbrev more_noted : FindingCounts → ℕ → ℕ → FindingCounts
more_noted n duplicates scrambled = record { duplicates = counted (n.duplicates + duplicates); scrambled = counted (n.scrambled + scrambled) }

same : (n : FindingCounts) (d s : ℕ) → more_noted n d s ≡ more_noted n (0 + d) (0 + s)
same n d s =
    let a : counted (n.duplicates + d) ≡ counted (n.duplicates + (0 + d)) = omega arith in
    let b : counted (n.scrambled + s) ≡ counted (n.scrambled + (0 + s)) = omega arith in
    ap₂ (λ (x y : ℕ). record { duplicates = x; scrambled = y }) a b

one_noted_more : (n : FindingCounts) (what : WhatView) (d s : ℕ) →
    more_noted (one_noted n what) d s ≡ more_noted n (cond (is_duplicate what) 1 0 + d) (cond (is_scrambled what) 1 0 + s)
unfolding one_noted one_more is_duplicate is_scrambled
one_noted_more n IsDuplicate d s =
    let a : counted (counted (n.duplicates + 1) + d) ≡ counted (n.duplicates + (1 + d)) = omega arith in
    let b : counted (n.scrambled + s) ≡ counted (n.scrambled + (0 + s)) = omega arith in ap₂ (λ (x y : ℕ). record { duplicates = x; scrambled = y }) a b
one_noted_more n IsScrambled d s =
    let a : counted (n.duplicates + d) ≡ counted (n.duplicates + (0 + d)) = omega arith in
    let b : counted (counted (n.scrambled + 1) + s) ≡ counted (n.scrambled + (1 + s)) =
    omega arith in ap₂ (λ (x y : ℕ). record { duplicates = x; scrambled = y }) a b
one_noted_more n (BreaksCounter expected found) d s = same n d s
one_noted_more n (IsTruncated bytes) d s = same n d s
one_noted_more n (IsSection bytes) d s = same n d s
one_noted_more n (IsBadSection error) d s = same n d s
one_noted_more n (IsPes header unended body) d s = same n d s
one_noted_more n (IsBadPes error) d s = same n d s
one_noted_more n (IsBadPacket error) d s = same n d s
one_noted_more n IsErrored d s = same n d s
one_noted_more n (IsStray size) d s = same n d s

one_noted_small : (n : FindingCounts) (what : WhatView) → n.duplicates ≤ 2 ^ 64 - 1 → n.scrambled ≤ 2 ^ 64 - 1 →
    ((one_noted n what).duplicates ≤ 2 ^ 64 - 1) × ((one_noted n what).scrambled ≤ 2 ^ 64 - 1)
unfolding one_noted one_more
one_noted_small n IsDuplicate h k = (omega arith, k)
one_noted_small n IsScrambled h k = (h, omega arith)
one_noted_small n (BreaksCounter expected found) h k = (h, k)
one_noted_small n (IsTruncated bytes) h k = (h, k)
one_noted_small n (IsSection bytes) h k = (h, k)
one_noted_small n (IsBadSection error) h k = (h, k)
one_noted_small n (IsPes header unended body) h k = (h, k)
one_noted_small n (IsBadPes error) h k = (h, k)
one_noted_small n (IsBadPacket error) h k = (h, k)
one_noted_small n IsErrored h k = (h, k)
one_noted_small n (IsStray size) h k = (h, k)

note_tally_is : (pid : ℕ) (n : FindingCounts) (found : List PidFinding) → n.duplicates ≤ 2 ^ 64 - 1 → n.scrambled ≤ 2 ^ 64 - 1 →
    note_tally n (map (with_pid_at pid) found) ≡ more_noted n (duplicates_among found) (scrambled_among found)
note_tally_is pid n [] h k =
    let a : n.duplicates ≡ counted (n.duplicates + 0) = omega arith in
    let b : n.scrambled ≡ counted (n.scrambled + 0) = omega arith in
    ap₂ (λ (x y : ℕ). record { duplicates = x; scrambled = y }) a b
note_tally_is pid n (x ∷ found) h k =
    let s = one_noted_small n x.found.what h k in
    note_tally_is pid (one_noted n x.found.what) found s.0 s.1 ∙ one_noted_more n x.found.what (duplicates_among found) (scrambled_among found)
    ∙ ap₂ (more_noted n) (sym (filter_one (λ at. is_duplicate at.found.what) x found)) (sym (filter_one (λ at. is_scrambled at.found.what) x found))

pub noted_is : (pid : ℕ) (found : List FindingView) (on : List PidFinding) → found_of pid found ≡ map (with_pid_at pid) on →
    finding_counts_of pid (counts_of_found [] found) ≡ record { duplicates = counted (duplicates_among on); scrambled = counted (scrambled_among on) }
unfolding finding_counts_or_zero
noted_is pid found on e =
    let none : FindingCounts = record { duplicates = 0; scrambled = 0 } in
    let a : counted (0 + duplicates_among on) ≡ counted (duplicates_among on) = omega arith in
    let b : counted (0 + scrambled_among on) ≡ counted (scrambled_among on) = omega arith in
    noted_tally pid [] found ∙ ap (note_tally none) e ∙ note_tally_is pid none on (omega arith) (omega arith)
    ∙ ap₂ (λ (x y : ℕ). record { duplicates = x; scrambled = y }) a b
