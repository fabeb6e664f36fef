-- The slots where the sections of a part begin
use Rattle.std.proofs.Common.{◌≡◌, ◌∙◌, ℕ, zero, suc, ◌+◌, ◌-◌, ◌/◌, ◌==◌, ◌&&◌, Bool, true, false, cond, List, [], ◌∷◌, ◌++◌, length, take, drop, map, filter}
use Rattle.std.proofs.Common.{slice_get, Some, refl, sym, ap, ap₂, subst, arith, All, inl, inr}
use Rattle.std.specs.List.{flat_map}
use Rattle.std.proofs.lemmas.Bool.{cases_Bool}
use Rattle.std.proofs.lemmas.List.Elements.{All-head, All-tail}
use Rattle.own_slots.specs.Slots.{own_slots}
use Rattle.ts_packet.specs.declared.start.Start.{Start}
use Rattle.ts_packet.specs.declared.start.Start.TheVariants.{Continues, Begins}
use Rattle.ts_packet.specs.Beginnings.{is_start, room_of, start_in}
use Rattle.ts_packet.specs.PidList.{Entry, is_of_pid, payload_of, pid_list}
use Rattle.ts_packet.specs.Views.{PacketView}
use Rattle.slot_contents.specs.Contents.{Content, Payload, Piece, view_of, run_bytes, entry_at, entries_in, payload_at}
use Rattle.tr101290.specs.Parts.{part_in}
use Rattle.table_rounds.proofs.SectionStarts.{start_indicated}
use Rattle.laws_run.specs.Sent.{cut, sendings}
use Rattle.laws_run.specs.Sections.{filled_section, section_packets, section_pieces}
use Rattle.laws_run.specs.PidLaws.{CarriesPieces, packets_on}
use Rattle.laws_run.proofs.AllSendings.{sent_payloads}
use Rattle.laws_run.proofs.SendingPackets.{parted}
use Rattle.laws_run.proofs.FoundInRun.{index_lists, piece_lists, same_length}
use Rattle.laws_view.proofs.PartErrors.{drop_none, starts_with, take_none}

-- 1. Chosen packets, by their slots

-- Slot s has a packet of the PID that f chooses.
abbrev pub chosen : (PacketView → Bool) → ℕ → (ℕ → Content) → ℕ → Bool
chosen f pid content s = is_of_pid pid (view_of (content s)) && f (view_of (content s))

abbrev chosen_in : (PacketView → Bool) → List Entry → List ℕ
chosen_in f es = map (λ e. e.index) (filter (λ e. f e.packet) es)

chosen_slots : (f : PacketView → Bool) (pid : ℕ) (content : ℕ → Content) (s n : ℕ) →
    chosen_in f (entries_in pid content s n) ≡ own_slots (chosen f pid content) s n
unfolding entries_in own_slots
chosen_slots f pid content s zero = refl
chosen_slots f pid content s (suc n) =
    let rest = chosen_slots f pid content (suc s) n in
    elim (cases_Bool (is_of_pid pid (view_of (content s)))) [
      | inl y ↦ elim (cases_Bool (f (view_of (content s)))) [ inl b ↦ rw (y, b, rest) refl | inr c ↦ rw (y, c, rest) refl ]
      | inr k ↦ rw (k, rest) refl
    ]

-- A chosen packet of the list is the packet of its slot.
pub chosen_there : (f : PacketView → Bool) (pid : ℕ) (content : ℕ → Content) (s n k : ℕ) (e : Entry) → slice_get (entries_in pid content s n) k ≡ Some e →
    f e.packet ≡ true → chosen f pid content e.index ≡ true
unfolding entries_in
chosen_there f pid content s zero k e is so = absurd (cc)
chosen_there f pid content s (suc n) k e is so =
    by (λ j at. chosen_there f pid content (suc s) n j e at so) (is_of_pid pid (view_of (content s))) refl k is
  where
    by : ((j : ℕ) → slice_get (entries_in pid content (suc s) n) j ≡ Some e → chosen f pid content e.index ≡ true) → (b : Bool) →
        is_of_pid pid (view_of (content s)) ≡ b →
        (j : ℕ) → slice_get (cond b (entry_at s (content s) ∷ entries_in pid content (suc s) n) (entries_in pid content (suc s) n)) j ≡ Some e →
        chosen f pid content e.index ≡ true
    by rest false y j at = rest j at
    by rest true y (suc j) at = rest j at
    by rest true y zero at =
        let same : entry_at s (content s) ≡ e = cc in
        let slot : s ≡ e.index = ap (λ (x : Entry). x.index) same in
        let here : f (view_of (content s)) ≡ true = ap (λ (x : Entry). f x.packet) same ∙ so in
        let there : chosen f pid content s ≡ true = rw (y, here) refl in
        subst (λ (t : ℕ). chosen f pid content t ≡ true) slot there

module _ (table_id : ℕ) where
  -- 2. Payloads where a section of a part begins

  -- The part of a payload whose section begins after pointer_field
  abbrev pub part_after : List ℕ → ℕ
  part_after payload = part_in table_id (drop 1 payload)

  abbrev is_with : ℕ → Payload → Bool
  is_with part p = is_start p.start && (part_after p.bytes == part)

  abbrev starts_part : ℕ → List Payload → List ℕ
  starts_part part ps = map (λ p. p.index) (filter (λ p. is_with part p) ps)

  none_more : (part : ℕ) (bytes : List ℕ) (is : List ℕ) (rest : List Payload) → starts_part part (cut Continues bytes is ++ rest) ≡ starts_part part rest
  unfolding cut
  none_more part bytes [] rest = refl
  none_more part bytes (i ∷ is) rest = none_more part _ is rest

  one_start : (part : ℕ) (bytes : List ℕ) (i : ℕ) (is : List ℕ) (rest : List Payload) → starts_part part (cut Begins bytes (i ∷ is) ++ rest)
      ≡ cond (part_after (take 184 bytes) == part) (i ∷ starts_part part rest) (starts_part part rest)
  unfolding cut
  one_start part bytes i is rest =
      by (part_after (take 184 bytes) == part)
      ∙ ap (λ (l : List ℕ). cond (part_after (take 184 bytes) == part) (i ∷ l) l) (none_more part (drop 184 bytes) is rest)
    where
      more : List Payload
      more = cut Continues (drop 184 bytes) is ++ rest

      by : (b : Bool) → map (λ (p : Payload). p.index)
          (cond (true && b) (record { index = i; start = Begins; bytes = take 184 bytes } ∷ filter (λ p. is_with part p) more)
          (filter (λ p. is_with part p) more))
          ≡ cond b (i ∷ starts_part part more) (starts_part part more)
      by true = refl
      by false = refl

  abbrev section_start : List ℕ → Start
  section_start section = Begins

  -- The part of the payload is the part of the section.
  abbrev pub IsPlain : List ℕ → Type 0
  IsPlain text = part_after (take 184 (filled_section text)) ≡ part_in table_id text

  none_started : (part : ℕ) (texts : List (List ℕ)) → starts_with table_id part texts [] ≡ []
  unfolding starts_with
  none_started part [] = refl
  none_started part (text ∷ texts) = refl

  no_payloads : (texts : List (List ℕ)) (packets : List ℕ) → packets ≡ [] →
      sent_payloads section_start filled_section (sendings section_packets texts packets) ≡ []
  unfolding sent_payloads sendings cut
  no_payloads [] packets e = refl
  no_payloads (text ∷ texts) packets e =
      let c : ℕ = section_packets text in
      let nothing : take c packets ≡ [] = ap (take c) e ∙ take_none c in
      let rest : drop c packets ≡ [] = ap (drop c) e ∙ drop_none c in
      ap (λ (js : List ℕ). cut Begins (filled_section text) js ++ sent_payloads section_start filled_section (sendings section_packets texts (drop c packets)))
      nothing
      ∙ no_payloads texts (drop c packets) rest

  sent_starts : (part : ℕ) (texts : List (List ℕ)) (packets : List ℕ) → All IsPlain texts →
      starts_part part (sent_payloads section_start filled_section (sendings section_packets texts packets)) ≡ starts_with table_id part texts packets
  unfolding sent_payloads sendings starts_with
  sent_starts part [] packets plain = refl
  sent_starts part (text ∷ texts) [] plain = ap (starts_part part) (no_payloads (text ∷ texts) [] refl)
  sent_starts part (text ∷ texts) (i ∷ is) plain =
      by (sent_starts part texts (drop (section_packets text) (i ∷ is)) (All-tail IsPlain text texts plain)) (section_packets text - 1) (omega arith)
    where
      c : ℕ
      c = section_packets text

      later : ℕ → List Payload
      later k = sent_payloads section_start filled_section (sendings section_packets texts (drop k (i ∷ is)))

      by : starts_part part (later c) ≡ starts_with table_id part texts (drop c (i ∷ is)) → (k : ℕ) → c ≡ suc k →
          starts_part part (cut Begins (filled_section text) (take c (i ∷ is)) ++ later c)
          ≡ cond (part_in table_id text == part) (i ∷ starts_with table_id part texts (drop c (i ∷ is))) (starts_with table_id part texts (drop c (i ∷ is)))
      by rest k e =
          ap (λ (x : ℕ). starts_part part (cut Begins (filled_section text) (take x (i ∷ is)) ++ later c)) e
          ∙ one_start part (filled_section text) i (take k is) (later c)
          ∙ ap (λ (n : ℕ). cond (n == part) (i ∷ starts_part part (later c)) (starts_part part (later c))) (All-head IsPlain text texts plain)
          ∙ ap (λ (l : List ℕ). cond (part_in table_id text == part) (i ∷ l) l) rest

  -- 3. The packets of a PID

  -- A section of the part begins in the packet.
  abbrev pub begins_part : ℕ → PacketView → Bool
  begins_part part packet = packet.header.payload_unit_start_indicator && (part_after (payload_of packet) == part)

  start_lists : (part : ℕ) (es : List Entry) → starts_part part (map payload_at es) ≡ chosen_in (begins_part part) es
  start_lists part [] = refl
  start_lists part (e ∷ es) =
      ap (λ (b : Bool). map (λ (p : Payload). p.index) (cond (b && (part_after (payload_of e.packet) == part))
      (payload_at e ∷ filter (λ p. is_with part p) (map payload_at es)) (filter (λ p. is_with part p) (map payload_at es)))) (start_indicated e.packet)
      ∙ by (start_lists part es) (begins_part part e.packet)
    where
      by : starts_part part (map payload_at es) ≡ chosen_in (begins_part part) es → (b : Bool) → map (λ (p : Payload). p.index)
          (cond b (payload_at e ∷ filter (λ p. is_with part p) (map payload_at es)) (filter (λ p. is_with part p) (map payload_at es)))
          ≡ map (λ (x : Entry). x.index) (cond b (e ∷ filter (λ x. begins_part part x.packet) es) (filter (λ x. begins_part part x.packet) es))
      by rest true = ap (λ (l : List ℕ). e.index ∷ l) rest
      by rest false = rest

  -- The slots where the sections of a part begin
  pub part_slots : (part pid n : ℕ) (content : ℕ → Content) (texts : List (List ℕ)) → pid_list pid (run_bytes content 0 n) ≡ entries_in pid content 0 n →
      CarriesPieces pid (run_bytes content 0 n) (flat_map section_pieces texts) → All IsPlain texts →
      starts_with table_id part texts (packets_on pid (run_bytes content 0 n)) ≡ own_slots (chosen (begins_part part) pid content) 0 n
  part_slots part pid n content texts listed c plain =
      let es : List Entry = pid_list pid (run_bytes content 0 n) in
      let ps : List Payload = map payload_at es in
      let on : List ℕ = map (λ e. e.index) es in
      let pieces : List Piece = flat_map section_pieces texts in
      let are : ps ≡ sent_payloads section_start filled_section (sendings section_packets texts (map (λ p. p.index) ps)) =
      parted section_start filled_section section_packets texts ps (piece_lists es ∙ c.payloads ∙ ap (λ (m : ℕ). take m pieces) (same_length es)) in
      let sent : ps ≡ sent_payloads section_start filled_section (sendings section_packets texts on) =
      are ∙ ap (λ (is : List ℕ). sent_payloads section_start filled_section (sendings section_packets texts is)) (index_lists es) in
      sym (sent_starts part texts on plain) ∙ ap (starts_part part) (sym sent) ∙ start_lists part es ∙ ap (chosen_in (begins_part part)) listed
      ∙ chosen_slots (begins_part part) pid content 0 n
