-- The packets of a table's PID carry its sections in the table's own slots.
use Rattle.std.proofs.Common.{◌≡◌, ℕ, cond, List, [], ◌∷◌, ◌++◌, map, filter, Option, Some, None, refl, ap, ◌∙◌}
use Rattle.std.specs.Prelude.{is_some}
use Rattle.std.specs.List.{flat_map}
use Rattle.std.proofs.lemmas.List.{map-append}
use Rattle.std.proofs.lemmas.List.Concat.{flat_map-cons}
use Rattle.own_slots.specs.Slots.{own_slots}
use Rattle.ts_packet.specs.PidList.{Entry, pid_list}
use Rattle.slot_contents.specs.Contents.{Content, run_bytes, Payload, payload_at, Piece, put}
use Rattle.table_rounds.specs.Tables.{Table, part_at}
use Rattle.table_rounds.specs.Payloads.{TableIsAlone}
use Rattle.table_rounds.proofs.CarriedBytes.{table_carried}
use Rattle.laws_run.specs.Sent.{sendings}
use Rattle.laws_run.specs.Sections.{section_packets}
use Rattle.laws_run.specs.Rounds.{sections_of_rounds}
use Rattle.laws_run.specs.PidLaws.{packets_on}
use Rattle.laws_run.specs.Placed.{section_slots, sent_sections}

indices : List Payload → List ℕ
indices ps = map (λ p. p.index) ps

index_lists : (es : List Entry) → map (λ e. e.index) es ≡ indices (map payload_at es)
unfolding indices
index_lists [] = refl
index_lists (e ∷ es) = ap (λ (xs : List ℕ). e.index ∷ xs) (index_lists es)

one_put : (s : ℕ) (o : Option Piece) (rest : List ℕ) → indices (put s o) ++ rest ≡ cond (is_some o) (s ∷ rest) rest
unfolding indices
one_put s None rest = refl
one_put s (Some piece) rest = refl

put_slots : (part : ℕ → Option Piece) (slots : List ℕ) → indices (flat_map (λ s. put s (part s)) slots) ≡ filter (λ s. is_some (part s)) slots
unfolding indices
put_slots part [] = refl
put_slots part (s ∷ slots) =
    let f : ℕ → List Payload = λ t. put t (part t) in
    ap indices (flat_map-cons f s slots) ∙ map-append (λ (p : Payload). p.index) (put s (part s)) (flat_map f slots)
    ∙ ap (λ (xs : List ℕ). indices (put s (part s)) ++ xs) (put_slots part slots) ∙ one_put s (part s) (filter (λ t. is_some (part t)) slots)

pub sections_are_placed : (table : Table) (n : ℕ) (content : ℕ → Content) → TableIsAlone table content →
    sendings section_packets (sections_of_rounds table n) (packets_on table.pid (run_bytes content 0 n)) ≡ sent_sections table n
sections_are_placed table n content alone =
    let es : List Entry = pid_list table.pid (run_bytes content 0 n) in
    let slots : packets_on table.pid (run_bytes content 0 n) ≡ section_slots table n =
    index_lists es ∙ ap indices (table_carried table n content alone).payloads ∙ put_slots (part_at table) (own_slots table.own 0 n) in
    ap (sendings section_packets (sections_of_rounds table n)) slots
