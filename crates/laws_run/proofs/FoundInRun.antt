-- From the payloads of a PID to the findings in the finished bytes.
use Rattle.std.proofs.Common.{◌≡◌, ℕ, suc, ◌+◌, ◌*◌, ◌/◌, ◌<◌, ◌≤◌, ◌==◌, Bool, true, false, IsTrue, List, [], ◌∷◌, ◌++◌, length, map, take, All, None, refl}
use Rattle.std.proofs.Common.{ap, ◌∙◌, arith, length-append}
use Rattle.std.specs.Prelude.{replicate}
use Rattle.std.specs.List.{flat_map}
use Rattle.pes_packet.specs.Encoding.{pes_packet_bytes}
use Rattle.pes_packet.specs.StreamIds.{fits_packet}
use Rattle.pes_packet.specs.AccessUnits.{AccessUnit}
use Rattle.pes_packet.specs.Marks.{field_size}
use Rattle.pes_packet.specs.Payloads.{piece_count}
use Rattle.ts_packet.specs.declared.start.Start.{Start}
use Rattle.ts_packet.specs.declared.start.Start.TheVariants.{Begins}
use Rattle.ts_packet.specs.Beginnings.{room_of, start_by}
use Rattle.unit_queue.specs.OwnedStreams.{has_access}
use Rattle.ts_packet.specs.PidList.{Entry, pid_list}
use Rattle.slot_contents.specs.Contents.{Content, Payload, Piece, payload_entries, payload_at, run_bytes}
use Rattle.slot_contents.proofs.Runs.{run_length, run_pid_list}
use Rattle.pid_findings.specs.Views.{PidFinding}
use Rattle.pid_findings.specs.Findings.{at_packet, ended, findings_to_end}
use Rattle.demux.specs.Laws.{with_pid_at}
use Rattle.demux.proofs.WholeStream.{each_pid_alone}
use Rattle.unit_queue.specs.Payloads.{piece_in}
use Rattle.laws_run.specs.Sent.{first_pieces, Sending, sendings, Ending, next_of, each_found}
use Rattle.laws_run.specs.Units.{unit_start, unit_packets, unit_found}
use Rattle.laws_run.specs.Sections.{section_packets, section_found, filled_section, IsRecognized}
use Rattle.laws_run.specs.PidLaws.{IsRun, CarriesPieces, found_on, packets_on, UnitsComeBack, SectionsComeBack, NothingComesBack}
use Rattle.laws_run.proofs.PidSteps.{finds, leaves, found_to_end}
use Rattle.laws_run.proofs.AllSendings.{Gives, sent_payloads, all_give, ends_at}
use Rattle.laws_run.proofs.SendingPackets.{parted, all_sendings}
use Rattle.laws_run.proofs.PidPackets.{NeedsAll, piece_of, carries_payloads, all_some}
use Rattle.laws_run.proofs.SilentPids.{silent}
use Rattle.laws_run.proofs.PesPrefixes.{unit_is_pes}
use Rattle.laws_run.proofs.UnitFindings.{unit_gives}
use Rattle.laws_run.proofs.SectionFindings.{section_gives}

-- The findings of a PID follow from its packets.
on_pid : (pid n : ℕ) (content : ℕ → Content) → IsRun n content → (pid == 8191) ≡ false →
    found_on pid (run_bytes content 0 n) ≡ map (with_pid_at pid) (findings_to_end n (pid_list pid (run_bytes content 0 n)))
on_pid pid n content run not_null =
    let bytes : List ℕ = run_bytes content 0 n in
    let size : length bytes ≡ 188 * n = run_length content 0 n run.fits in
    let count : length bytes / 188 ≡ n = omega (arith, size) in
    (each_pid_alone pid bytes not_null (omega (arith, count, run.few))).1
    ∙ ap (λ (k : ℕ). map (with_pid_at pid) (findings_to_end k (pid_list pid bytes))) count

none_open : (e : Ending) → ends_at e None ≡ []
unfolding ended
none_open e = refl

pub piece_lists : (es : List Entry) → map piece_in (map payload_at es) ≡ map piece_of es
piece_lists [] = refl
piece_lists (e ∷ es) = ap (λ (xs : List Piece). piece_of e ∷ xs) (piece_lists es)

pub index_lists : (es : List Entry) → map (λ p. p.index) (map payload_at es) ≡ map (λ e. e.index) es
index_lists [] = refl
index_lists (e ∷ es) = ap (λ (xs : List ℕ). e.index ∷ xs) (index_lists es)

pub same_length : (es : List Entry) → length es ≡ length (map payload_at es)
same_length [] = refl
same_length (e ∷ es) = ap suc (same_length es)

-- The findings of a PID follow from its sendings.
pub sent_found : {X : Type 0} (start : X → Start) (text : X → List ℕ) (count : X → ℕ) (P : X → Type 0) →
    ((x : X) → P x → NeedsAll (start x) (count x) (text x)) →
    (pid n : ℕ) (content : ℕ → Content) (xs : List X) → IsRun n content → (pid == 8191) ≡ false →
    CarriesPieces pid (run_bytes content 0 n) (flat_map (λ x. first_pieces (start x) (count x) (text x)) xs) → All P xs →
    found_on pid (run_bytes content 0 n)
    ≡ map (with_pid_at pid) (finds (sent_payloads start text (sendings count xs (packets_on pid (run_bytes content 0 n)))) None
    ++ map (at_packet n) (ended true (leaves (sent_payloads start text (sendings count xs (packets_on pid (run_bytes content 0 n)))) None)))
sent_found {X} start text count P fits pid n content xs run not_null c all =
    let bytes : List ℕ = run_bytes content 0 n in
    let es : List Entry = pid_list pid bytes in
    let ps : List Payload = map payload_at es in
    let pieces = flat_map (λ (x : X). first_pieces (start x) (count x) (text x)) xs in
    let list : es ≡ payload_entries pid 0 ps = carries_payloads pid n content pieces run.fits not_null (all_some start text count P xs fits all) c in
    let size : length es ≡ length ps = same_length es in
    let are : ps ≡ sent_payloads start text (sendings count xs (map (λ p. p.index) ps)) =
    parted start text count xs ps (piece_lists es ∙ c.payloads ∙ ap (λ (m : ℕ). take m pieces) size) in
    let same_sent : ps ≡ sent_payloads start text (sendings count xs (packets_on pid bytes)) =
    are ∙ ap (λ (is : List ℕ). sent_payloads start text (sendings count xs is)) (index_lists es) in
    let end : List Payload → List PidFinding = λ qs. finds qs None ++ map (at_packet n) (ended true (leaves qs None)) in
    on_pid pid n content run not_null ∙ ap (map (with_pid_at pid)) (ap (findings_to_end n) list ∙ found_to_end pid n ps ∙ ap end same_sent)

-- The sendings of a PID give all its findings.
come_back : {X : Type 0} (start : X → Start) (text : X → List ℕ) (count : X → ℕ) (found : Ending → X → ℕ → List ℕ → PidFinding) (P : X → Type 0) →
    ((x : X) → P x → NeedsAll (start x) (count x) (text x)) →
    ((x : X) (js : List ℕ) → P x → length js ≤ count x → Gives start text found (record { item = x; packets = js })) →
    (pid n : ℕ) (content : ℕ → Content) (xs : List X) → IsRun n content → (pid == 8191) ≡ false →
    CarriesPieces pid (run_bytes content 0 n) (flat_map (λ x. first_pieces (start x) (count x) (text x)) xs) → All P xs →
    found_on pid (run_bytes content 0 n) ≡ map (with_pid_at pid) (each_found found n (sendings count xs (packets_on pid (run_bytes content 0 n))))
come_back {X} start text count found P fits gives pid n content xs run not_null c all =
    let sent : List (Sending X) = sendings count xs (packets_on pid (run_bytes content 0 n)) in
    let each : All (Gives start text found) sent = all_sendings P (Gives start text found) count xs (packets_on pid (run_bytes content 0 n)) gives all in
    let same : finds (sent_payloads start text sent) None ++ map (at_packet n) (ended true (leaves (sent_payloads start text sent) None)) ≡ each_found found n
    sent =
    all_give start text found n sent None tt each ∙ ap (λ (zs : List PidFinding). zs ++ each_found found n sent) (none_open (next_of n sent)) in
    sent_found start text count P fits pid n content xs run not_null c all ∙ ap (map (with_pid_at pid)) same

room_left : (access : Bool) → field_size access + room_of (start_by true access) ≡ 184
room_left true = refl
room_left false = refl

needs_all : (id base0 : ℕ) (u : AccessUnit) → IsTrue (fits_packet id (length u.bytes)) →
    NeedsAll (unit_start u) (unit_packets id base0 u) (pes_packet_bytes id base0 u)
needs_all id base0 u f =
    let t = unit_is_pes id base0 u f in
    (omega (arith, t.size, t.some), omega (arith, t.size, t.some, room_left (has_access u)))

few_packets : (access : Bool) (k size : ℕ) → k ≤ piece_count (field_size access + size) → 184 * k < field_size access + size + 184
few_packets access k size le = omega (arith, le)

pub units_come_back : UnitsComeBack
units_come_back pid n id base0 content us run not_null c fits =
    come_back unit_start (pes_packet_bytes id base0) (unit_packets id base0) (unit_found id base0) (λ u. IsTrue (fits_packet id (length u.bytes)))
    (λ u f. needs_all id base0 u f)
    (λ u js f le. unit_gives id base0 u js f (few_packets (has_access u) (length js) (length (pes_packet_bytes id base0 u)) le)) pid n content us run not_null c
    fits

pub filled_size : (text : List ℕ) → 1 + length text ≤ length (filled_section text)
unfolding filled_section
filled_size text = omega (arith, length-append text (replicate 184 0xFF))

pub sections_come_back : SectionsComeBack
sections_come_back pid n content texts run not_null c given =
    come_back (λ _. Begins) filled_section section_packets section_found IsRecognized (λ t g. (omega (arith, filled_size t), omega (arith, filled_size t)))
    (λ t js g le. section_gives t js g (omega (arith, le))) pid n content texts run not_null c given

pub nothing_comes_back : NothingComesBack
nothing_comes_back pid n content run not_null none =
    on_pid pid n content run not_null
    ∙ ap (λ (es : List Entry). map (with_pid_at pid) (findings_to_end n es)) (run_pid_list pid n content run.fits)
    ∙ ap (map (with_pid_at pid)) (silent pid n n content not_null none)
