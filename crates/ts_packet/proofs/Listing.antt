-- The packets of pieces are read back from their bytes as the list of their PID.
use Rattle.std.proofs.Common.{◌≡◌, ℕ, suc, ◌+◌, ◌/◌, ◌%◌, ◌^◌, ◌<◌, ◌==◌, true, List, [], ◌∷◌, ◌++◌, length, take, drop, map, All, filter, refl, ap, ◌∙◌, arith}
use Rattle.std.proofs.Common.{take_at, drop_at, eq-eqb, Ok}
use Rattle.std.proofs.lemmas.List.{length-append}
use Rattle.std.proofs.lemmas.List.Elements.{All-head, All-tail}
use Rattle.std.specs.List.{enumerate_from, filter_map}
use Rattle.ts_packet.specs.declared.start.Start.{Start}
use Rattle.ts_packet.specs.declared.start.Start.TheVariants.{Continues}
use Rattle.ts_packet.specs.Views.{PacketView}
use Rattle.ts_packet.specs.Reading.{packet_at}
use Rattle.ts_packet.specs.Packets.{payload_view, payload_packet, packets, payload_views}
use Rattle.ts_packet.specs.PidList.{Entry, entry_of, is_of_pid, cut_packets}
use Rattle.ts_packet.specs.Laws.{FirstCut, PiecesListed, FirstFits, IsPiece, ReadAgain}
use Rattle.ts_packet.proofs.PlainWritten.{payloads_again}

pub first_cut : FirstCut
first_cut packet bytes size =
    let all : length (packet ++ bytes) ≡ length packet + length bytes = length-append packet bytes in
    let more : length (packet ++ bytes) / 188 ≡ suc (length bytes / 188) = omega arith in
    let front : take 188 (packet ++ bytes) ≡ packet = take_at packet bytes 188 size in
    let after : drop 188 (packet ++ bytes) ≡ bytes = drop_at packet bytes 188 size in
    rw (more, front, after) refl

-- The PID list of chunks that are counted from `index`
listed_from : ℕ → ℕ → List (List ℕ) → List Entry
listed_from pid index chunks = filter (λ entry. is_of_pid pid entry.packet) (filter_map (λ p. entry_of p.0 p.1 (packet_at p.1)) (enumerate_from index chunks))

-- A packet of the PID at the front is the first in the list.
listed_first : (pid index : ℕ) (chunk : List ℕ) (chunks : List (List ℕ)) (packet : PacketView) → packet_at chunk ≡ Ok packet → is_of_pid pid packet ≡ true
    → listed_from pid index (chunk ∷ chunks) ≡ record { index = index; bytes = chunk; packet = packet } ∷ listed_from pid (index + 1) chunks
unfolding listed_from entry_of
listed_first pid index chunk chunks packet read of = rw (read, of) refl

of_pid : (pid : ℕ) (start : Start) (counter : ℕ) (payload : List ℕ) → is_of_pid pid (payload_view pid start counter payload) ≡ true
of_pid pid start counter payload =
    let same : (pid == pid) ≡ true = eq-eqb pid pid refl in
    rw same refl

-- A piece that continues a unit fits into a packet.
goes_on : (pieces : List (List ℕ)) → All IsPiece pieces → FirstFits Continues pieces
goes_on [] fit = tt
goes_on (piece ∷ pieces) fit = (All-head IsPiece piece pieces fit).1

pieces_from : (index pid : ℕ) (start : Start) (number : ℕ) (pieces : List (List ℕ)) → pid < 2 ^ 13 → All IsPiece pieces → FirstFits start pieces
    → map (λ entry. entry.packet) (listed_from pid index (cut_packets (packets pid start number pieces))) ≡ payload_views pid start number pieces
unfolding listed_from packets payload_views
pieces_from index pid start number [] below fit room = refl
pieces_from index pid start number (piece ∷ pieces) below fit room =
    let first : IsPiece piece = All-head IsPiece piece pieces fit in
    let again : ReadAgain (payload_packet pid start (number % 16) piece) (payload_view pid start (number % 16) piece) =
    payloads_again pid start (number % 16) piece below (omega arith) first.0 room in
    let cut = first_cut (payload_packet pid start (number % 16) piece) (packets pid Continues (number + 1) pieces) again.size in
    ap (λ (chunks : List (List ℕ)). map (λ (entry : Entry). entry.packet) (listed_from pid index chunks)) cut
    ∙ ap (map (λ (entry : Entry). entry.packet)) (listed_first pid index _ _ _ again.read (of_pid pid start (number % 16) piece))
    ∙ ap (λ (views : List PacketView). payload_view pid start (number % 16) piece ∷ views)
    (pieces_from (index + 1) pid Continues (number + 1) pieces below (All-tail IsPiece piece pieces fit)
    (goes_on pieces (All-tail IsPiece piece pieces fit)))

pub pieces_listed : PiecesListed
unfolding listed_from
pieces_listed pid start number pieces below fit room = pieces_from 0 pid start number pieces below fit room
