-- The monitor finds that a table's sections begin in the packets with the start indicator.
use Rattle.std.proofs.Common.{◌≡◌, ℕ, zero, suc, ◌+◌, ◌*◌, ◌==◌, ◌&&◌, nat_le, Bool, true, false, cond, List, [], ◌∷◌, ◌++◌, length, map, filter, take, Some}
use Rattle.std.proofs.Common.{slice_get, refl, sym, ap, subst, ◌∙◌, All, inl, inr, eq-eqb}
use Rattle.std.specs.Prelude.{slice_index}
use Rattle.std.specs.List.{filter_map, flat_map}
use Rattle.std.proofs.lemmas.Bool.{cases_Bool}
use Rattle.std.proofs.lemmas.List.Elements.{All-head, All-tail}
use Rattle.own_slots.specs.Slots.{own_slots}
use Rattle.ts_packet.specs.declared.start.Start.{Start}
use Rattle.ts_packet.specs.declared.start.Start.TheVariants.{Continues, Begins}
use Rattle.ts_packet.specs.Beginnings.{is_start, start_in}
use Rattle.ts_packet.specs.PidList.{Entry, is_of_pid, pid_list}
use Rattle.slot_contents.specs.Contents.{Content, Payload, Piece, view_of, run_bytes, entry_at, entries_in, payload_at}
use Rattle.pid_findings.specs.Views.{PidFinding, FindingView}
use Rattle.demux.specs.Laws.{with_pid_at}
use Rattle.monitor.specs.Begins.{table_begin, table_begins}
use Rattle.table_rounds.proofs.SectionStarts.{start_indicated}
use Rattle.laws_run.specs.Sent.{cut, Ending, if_sent, each_found, sendings}
use Rattle.laws_run.specs.Sections.{filled_section, section_found, section_packets, section_pieces}
use Rattle.laws_run.specs.PidLaws.{packets_on, CarriesPieces}
use Rattle.laws_run.proofs.AllSendings.{sent_payloads}
use Rattle.laws_run.proofs.SendingPackets.{parted}
use Rattle.laws_run.proofs.FoundInRun.{piece_lists, same_length}
use Rattle.laws_run.proofs.FoundInRun.{index_lists}

-- The same begins, in the findings of the whole stream

abbrev pub reported_begins : ℕ → List FindingView → List ℕ
reported_begins id found = filter_map (λ f. table_begin id f.begun) found

pub begins_reported : (id pid : ℕ) (xs : List PidFinding) → reported_begins id (map (with_pid_at pid) xs) ≡ table_begins id xs
begins_reported id pid [] = refl
begins_reported id pid (x ∷ xs) = let rest = begins_reported id pid xs in rw rest refl

-- The begins of sent sections

abbrev starts_of : List Payload → List ℕ
starts_of ps = map (λ p. p.index) (filter (λ p. is_start p.start) ps)

begin_is : (id : ℕ) (e : Ending) (text : List ℕ) (i : ℕ) (is : List ℕ) → slice_index text 0 ≡ id →
    table_begin id (section_found e text i is).found.begun ≡ Some i
unfolding table_begin section_found
begin_is id e text i is same =
    let yes : (slice_index text 0 == id) ≡ true = eq-eqb (slice_index text 0) id same in
    elim (cases_Bool (nat_le (1 + length text) (184 * length (i ∷ is)))) [ inl y ↦ rw (y, yes) refl | inr k ↦ rw (k, yes) refl ]

none_more : (text : List ℕ) (is : List ℕ) (rest : List Payload) → starts_of (cut Continues text is ++ rest) ≡ starts_of rest
unfolding cut
none_more text [] rest = refl
none_more text (i ∷ is) rest = none_more _ is rest

one_begin : (id : ℕ) (e : Ending) (text filled : List ℕ) (packets : List ℕ) (found : List PidFinding) (rest : List Payload) → slice_index text 0 ≡ id →
    table_begins id found ≡ starts_of rest → table_begins id (if_sent (section_found e text) packets ++ found) ≡ starts_of (cut Begins filled packets ++ rest)
unfolding if_sent cut
one_begin id e text filled [] found rest same h = h
one_begin id e text filled (i ∷ is) found rest same h =
    let here = begin_is id e text i is same in
    rw here (ap (λ (l : List ℕ). i ∷ l) (h ∙ sym (none_more _ is rest)))

-- A section is never a point at which a decoder can start.
abbrev section_start : List ℕ → Start
section_start section = Begins

pub sent_begins : (id n : ℕ) (texts : List (List ℕ)) (packets : List ℕ) → All (λ text. slice_index text 0 ≡ id) texts →
    table_begins id (each_found section_found n (sendings section_packets texts packets)) ≡ starts_of
    (sent_payloads section_start filled_section (sendings section_packets texts packets))
unfolding each_found sent_payloads sendings
sent_begins id n [] packets h = refl
sent_begins id n (text ∷ texts) packets h =
    one_begin id _ text (filled_section text) _ _ _ (All-head (λ (t : List ℕ). slice_index t 0 ≡ id) text texts h)
    (sent_begins id n texts _ (All-tail (λ (t : List ℕ). slice_index t 0 ≡ id) text texts h))

-- The begins in the packets of a PID

pub starts_in : List Entry → List ℕ
starts_in es = map (λ e. e.index) (filter (λ e. e.packet.header.payload_unit_start_indicator) es)

start_lists : (es : List Entry) → starts_of (map payload_at es) ≡ starts_in es
unfolding starts_in
start_lists [] = refl
start_lists (e ∷ es) =
    let rest = start_lists es in
    elim (cases_Bool e.packet.header.payload_unit_start_indicator) [
      | inl y ↦ let begins : is_start (start_in e.packet) ≡ true = start_indicated e.packet ∙ y in rw (begins, y, rest) refl
      | inr n ↦ let begins : is_start (start_in e.packet) ≡ false = start_indicated e.packet ∙ n in rw (begins, n, rest) refl
    ]

-- A section begins in the packet of this slot.
abbrev pub begun : ℕ → (ℕ → Content) → ℕ → Bool
begun pid content s = is_of_pid pid (view_of (content s)) && (view_of (content s)).header.payload_unit_start_indicator

pub start_slots : (pid : ℕ) (content : ℕ → Content) (s n : ℕ) → starts_in (entries_in pid content s n) ≡ own_slots (begun pid content) s n
unfolding starts_in entries_in own_slots
start_slots pid content s zero = refl
start_slots pid content s (suc n) =
    let rest = start_slots pid content (suc s) n in
    elim (cases_Bool (is_of_pid pid (view_of (content s)))) [
      | inl y ↦ elim (cases_Bool (view_of (content s)).header.payload_unit_start_indicator) [ inl b ↦ rw (y, b, rest) refl | inr c ↦ rw (y, c, rest) refl ]
      | inr k ↦ rw (k, rest) refl
    ]

-- The slot of a listed packet with the start indicator begins a section.
pub entry_there : (pid : ℕ) (content : ℕ → Content) (s n k : ℕ) (e : Entry) → slice_get (entries_in pid content s n) k ≡ Some e →
    e.packet.header.payload_unit_start_indicator ≡ true → begun pid content e.index ≡ true
unfolding entries_in
entry_there pid content s zero k e is start = absurd (cc)
entry_there pid content s (suc n) k e is start =
    by (λ j at. entry_there pid content (suc s) n j e at start) (is_of_pid pid (view_of (content s))) refl k is
  where
    by : ((j : ℕ) → slice_get (entries_in pid content (suc s) n) j ≡ Some e → begun pid content e.index ≡ true) → (b : Bool) →
        is_of_pid pid (view_of (content s)) ≡ b →
        (j : ℕ) → slice_get (cond b (entry_at s (content s) ∷ entries_in pid content (suc s) n) (entries_in pid content (suc s) n)) j ≡ Some e →
        begun pid content e.index ≡ true
    by rest false y j at = rest j at
    by rest true y (suc j) at = rest j at
    by rest true y zero at =
        let same : entry_at s (content s) ≡ e = cc in
        let slot : s ≡ e.index = ap (λ (x : Entry). x.index) same in
        let here : (view_of (content s)).header.payload_unit_start_indicator ≡ true = ap (λ (x : Entry). x.packet.header.payload_unit_start_indicator) same
        ∙ start in
        let there : begun pid content s ≡ true = rw (y, here) refl in
        subst (λ (t : ℕ). begun pid content t ≡ true) slot there

-- The slots of all begins that the monitor finds, if its findings are these sections
pub begin_slots : (id pid n : ℕ) (content : ℕ → Content) (texts : List (List ℕ)) (found : List PidFinding) →
    pid_list pid (run_bytes content 0 n) ≡ entries_in pid content 0 n → CarriesPieces pid (run_bytes content 0 n) (flat_map section_pieces texts) →
    All (λ text. slice_index text 0 ≡ id) texts →
    map (with_pid_at pid) found ≡ map (with_pid_at pid) (each_found section_found n (sendings section_packets texts (packets_on pid (run_bytes content 0 n)))) →
    table_begins id found ≡ own_slots (begun pid content) 0 n
begin_slots id pid n content texts found listed c ids reported =
    let es : List Entry = pid_list pid (run_bytes content 0 n) in
    let ps : List Payload = map payload_at es in
    let on : List ℕ = map (λ e. e.index) es in
    let pieces : List Piece = flat_map section_pieces texts in
    let are : ps ≡ sent_payloads section_start filled_section (sendings section_packets texts (map (λ p. p.index) ps)) =
    parted section_start filled_section section_packets texts ps (piece_lists es ∙ c.payloads ∙ ap (λ (m : ℕ). take m pieces) (same_length es)) in
    let sent : ps ≡ sent_payloads section_start filled_section (sendings section_packets texts on) =
    are ∙ ap (λ (is : List ℕ). sent_payloads section_start filled_section (sendings section_packets texts is)) (index_lists es) in
    sym (begins_reported id pid found) ∙ ap (reported_begins id) reported
    ∙ begins_reported id pid (each_found section_found n (sendings section_packets texts on))
    ∙ sent_begins id n texts on ids ∙ ap starts_of (sym sent) ∙ start_lists es ∙ ap starts_in listed ∙ start_slots pid content 0 n
