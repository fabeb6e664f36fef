-- The bytes of a run of slots, from the content of each slot.
use Rattle.std.proofs.Common.{◌≡◌, ℕ, zero, suc, ◌+◌, ◌*◌, ◌%◌, ◌||◌, Bool, List, [], ◌∷◌, length, map, filter, refl, ap, ◌∙◌, arith, inl, inr}
use Rattle.std.proofs.lemmas.List.{length-append}
use Rattle.std.proofs.lemmas.Bool.{cases_Bool}
use Rattle.std.specs.List.{enumerate_from, filter_map}
use Rattle.own_slots.specs.Slots.{own_slots}
use Rattle.ts_packet.specs.Reading.{packet_at}
use Rattle.ts_packet.specs.PidList.{Entry, entry_of, entries_of, is_of_pid, cut_packets}
use Rattle.slot_contents.specs.Contents.{Content, PayloadContent, PcrContent, NullContent, packet_of, view_of, ContentFits, run_bytes, entry_at, entries_in}
use Rattle.slot_contents.specs.RunLaws.{ContentAgainLaw, Fits, RunLengthLaw, RunListLaw, RunIndicesLaw, RunTwoLaw}
use Rattle.ts_packet.proofs.PlainWritten.{payloads_again, pcrs_again, null_again}
use Rattle.ts_packet.proofs.Listing.{first_cut}

pub content_again : ContentAgainLaw
unfolding packet_of view_of
content_again (PayloadContent pid number start payload) (p, some, most) = payloads_again pid start (number % 16) payload p (omega arith) some most
content_again (PcrContent pid pcr) (p, r) = pcrs_again pid pcr p r
content_again NullContent fits = null_again

pub run_length : RunLengthLaw
unfolding run_bytes
run_length content s zero fits = refl
run_length content s (suc n) fits =
    let one : length (packet_of (content s)) ≡ 188 = (content_again (content s) (fits s)).size in
    let rest : length (run_bytes content (suc s) n) ≡ 188 * n = run_length content (suc s) n fits in
    omega (arith, length-append (packet_of (content s)) (run_bytes content (suc s) n))

-- The packets of the next n slots from slot s on
unfoldable pub all_entries : (ℕ → Content) → ℕ → ℕ → List Entry
all_entries content s zero = []
all_entries content s (suc n) = entry_at s (content s) ∷ all_entries content (suc s) n

-- The packets of chunks, the first with this index
entries_from : ℕ → List (List ℕ) → List Entry
entries_from index chunks = filter_map (λ p. entry_of p.0 p.1 (packet_at p.1)) (enumerate_from index chunks)

entries_first : (index : ℕ) (c : Content) (chunks : List (List ℕ)) → ContentFits c
    → entries_from index (packet_of c ∷ chunks) ≡ entry_at index c ∷ entries_from (index + 1) chunks
unfolding entries_from entry_of
entries_first index c chunks fits = let read = (content_again c fits).read in rw read refl

entries_run : (content : ℕ → Content) (s n : ℕ) → Fits content → entries_from s (cut_packets (run_bytes content s n)) ≡ all_entries content s n
unfolding entries_from run_bytes all_entries
entries_run content s zero fits = refl
entries_run content s (suc n) fits =
    let cut = first_cut (packet_of (content s)) (run_bytes content (suc s) n) (content_again (content s) (fits s)).size in
    let next : s + 1 ≡ suc s = omega arith in
    ap (entries_from s) cut
    ∙ entries_first s (content s) (cut_packets (run_bytes content (suc s) n)) (fits s)
    ∙ ap (λ (k : ℕ). entry_at s (content s) ∷ entries_from k (cut_packets (run_bytes content (suc s) n))) next
    ∙ ap (λ (es : List Entry). entry_at s (content s) ∷ es) (entries_run content (suc s) n fits)

-- All packets of a run
pub run_entries : (content : ℕ → Content) (n : ℕ) → Fits content → entries_of (run_bytes content 0 n) ≡ all_entries content 0 n
unfolding entries_from
run_entries content n fits = entries_run content 0 n fits

-- The packets of a PID
listed_entries : (pid : ℕ) (content : ℕ → Content) (s n : ℕ) →
    filter (λ entry. is_of_pid pid entry.packet) (all_entries content s n) ≡ entries_in pid content s n
unfolding all_entries entries_in
listed_entries pid content s zero = refl
listed_entries pid content s (suc n) =
    let rest = listed_entries pid content (suc s) n in
    elim (cases_Bool (is_of_pid pid (view_of (content s)))) [ inl y ↦ rw (y, rest) refl | inr n ↦ rw (n, rest) refl ]

pub run_pid_list : RunListLaw
run_pid_list pid n content fits =
    ap (filter (λ (entry : Entry). is_of_pid pid entry.packet)) (run_entries content n fits) ∙ listed_entries pid content 0 n

-- Packets that a test picks in the own slots of an item have the indices of these slots.
indices_of : (is : Entry → Bool) (content : ℕ → Content) (own : ℕ → Bool) (s n : ℕ) → ((t : ℕ) → is (entry_at t (content t)) ≡ own t)
    → map (λ entry. entry.index) (filter is (all_entries content s n)) ≡ own_slots own s n
unfolding all_entries own_slots
indices_of is content own s zero tests = refl
indices_of is content own s (suc n) tests =
    let rest = indices_of is content own (suc s) n tests in
    let here = tests s in
    elim (cases_Bool (own s)) [ inl y ↦ rw (here, y, rest) refl | inr k ↦ rw (here, k, rest) refl ]

pub run_indices : RunIndicesLaw
run_indices pid n content own fits tests =
    ap (λ (es : List Entry). map (λ (entry : Entry). entry.index) (filter (λ (entry : Entry). is_of_pid pid entry.packet) es)) (run_entries content n fits)
    ∙ indices_of (λ entry. is_of_pid pid entry.packet) content own 0 n tests

pub run_two : RunTwoLaw
run_two p q n content own fits tests =
    ap (λ (es : List Entry). map (λ (entry : Entry). entry.index) (filter (λ (entry : Entry). is_of_pid p entry.packet || is_of_pid q entry.packet) es))
    (run_entries content n fits)
    ∙ indices_of (λ entry. is_of_pid p entry.packet || is_of_pid q entry.packet) content own 0 n tests
