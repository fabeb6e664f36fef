-- The random_access_indicator in the finished bytes: it is set exactly on the first packets of units at which a decoder may begin.
use Rattle.std.proofs.Common.{◌≡◌, ◌-◌, ℕ, zero, suc, Bool, false, List, [], ◌∷◌, length, map, take, All, refl, sym, ap, ap₂, ◌∙◌, subst}
use Rattle.std.proofs.lemmas.List.{take-map}
use Rattle.std.proofs.lemmas.List.Elements.{All-nil, All-cons, All-head, All-tail, All-filter}
use Rattle.ts_packet.specs.declared.start.Start.{Start}
use Rattle.ts_packet.specs.declared.start.Start.TheVariants.{Continues, Begins, Access}
use Rattle.ts_packet.specs.Beginnings.{is_start, is_access, has_access, start_by}
use Rattle.ts_packet.specs.Packets.{stuffing_field, field_of}
use Rattle.ts_packet.specs.PidList.{Entry, entries_of, is_of_pid, pid_list}
use Rattle.slot_contents.specs.Contents.{Content, PayloadContent, PcrContent, NullContent, view_of, run_bytes, entry_at, payload_at, Piece}
use Rattle.slot_contents.specs.RunLaws.{Fits}
use Rattle.slot_contents.proofs.Runs.{all_entries, run_entries}
use Rattle.unit_queue.specs.Payloads.{piece_in}
use Rattle.mux_core.specs.Headline.{IsAccessAtStart}

-- A stuffing adaptation field has no random_access_indicator.
stuffing_has_none : (n : ℕ) → has_access (stuffing_field n) ≡ false
unfolding stuffing_field
stuffing_has_none zero = refl
stuffing_has_none (suc zero) = refl
stuffing_has_none (suc (suc n)) = refl

payload_access : (start : Start) (n : ℕ) → has_access (field_of start n) ≡ is_access (start_by (is_start start) (has_access (field_of start n)))
unfolding field_of
payload_access Continues n = stuffing_has_none n
payload_access Begins n = rw (stuffing_has_none n) refl
payload_access Access n = refl

content_access : (c : Content) → IsAccessAtStart (view_of c)
unfolding view_of
content_access (PayloadContent pid number start payload) = payload_access start (184 - length payload)
content_access (PcrContent pid pcr) = refl
content_access NullContent = refl

abbrev IsKnown : Entry → Type 0
IsKnown e = IsAccessAtStart e.packet

all_known : (content : ℕ → Content) (s n : ℕ) → All IsKnown (all_entries content s n)
unfolding all_entries
all_known content s zero = All-nil IsKnown
all_known content s (suc n) =
    All-cons IsKnown (entry_at s (content s)) (all_entries content (suc s) n) (content_access (content s)) (all_known content (suc s) n)

pub access_known : (content : ℕ → Content) (n : ℕ) → Fits content → All (λ e. IsAccessAtStart e.packet) (entries_of (run_bytes content 0 n))
access_known content n fits = subst (All IsKnown) (sym (run_entries content n fits)) (all_known content 0 n)

-- The indicators of one PID

each_access : (es : List Entry) → All IsKnown es →
    map (λ e. has_access e.packet.adaptation) es ≡ map (λ p. is_access p.start) (map (λ e. piece_in (payload_at e)) es)
each_access [] all = refl
each_access (e ∷ es) all =
    ap₂ (λ (b : Bool) (bs : List Bool). b ∷ bs) (All-head IsKnown e es all) (each_access es (All-tail IsKnown e es all))

-- If the payloads of a PID are the first of these pieces, its packets have the indicator exactly as the pieces say.
pub access_on : (pid : ℕ) (bytes : List ℕ) (ps : List Piece) → All (λ e. IsAccessAtStart e.packet) (entries_of bytes) →
    map (λ e. piece_in (payload_at e)) (pid_list pid bytes) ≡ take (length (pid_list pid bytes)) ps →
    map (λ e. has_access e.packet.adaptation) (pid_list pid bytes) ≡ take (length (pid_list pid bytes)) (map (λ p. is_access p.start) ps)
access_on pid bytes ps known pieces =
    let n = length (pid_list pid bytes) in
    each_access (pid_list pid bytes) (All-filter (λ (e : Entry). is_of_pid pid e.packet) IsKnown (entries_of bytes) known)
    ∙ ap (map (λ (p : Piece). is_access p.start)) pieces
    ∙ sym (take-map (λ (p : Piece). is_access p.start) n ps)
