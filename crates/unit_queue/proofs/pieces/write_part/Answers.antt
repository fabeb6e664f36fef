use Rattle.std.proofs.Common.{rules, ◌≡◌, ◌++◌, ◌≤◌, min, length, take, drop, List, ℕ, ◌∙◌, ap, sym, arith}
use Rattle.std.proofs.lemmas.List.{drop-append-le}
use Rattle.slot_contents.specs.Contents.{packet_of}
use Rattle.unit_queue.specs.QueueSteps.{payload_or_null}
use Rattle.unit_queue.proofs.PieceBytes.{data_left, take_least}
use Rattle.unit_queue.proofs.pieces.write_part.Goals as goal

pub returns-then-from-size : goal.returns-then-from-size
returns-then-from-size c =
    let within : c.args.from ≤ length c.args.header.now = search (rules, arith) in
    let whole : c.split_at.result.1.now ++ c.args.bytes.now ≡ drop c.args.from (c.args.header.now ++ c.args.bytes.now) =
    ap (λ (t : List ℕ). t ++ c.args.bytes.now) (search rules) ∙ sym (drop-append-le c.args.from c.args.header.now c.args.bytes.now within) in
    c.write_front.ensures ∙ ap (λ (t : List ℕ). packet_of (payload_or_null c.args.pid c.args.counter c.args.start (take c.args.room t))) whole

pub returns-else-from-size : goal.returns-else-from-size
returns-else-from-size c =
    let rest : c.bytes_from-rest.result.now ≡ drop c.args.from (c.args.header.now ++ c.args.bytes.now) =
    search rules ∙ sym (data_left c.args.header.now c.args.bytes.now c.args.from (search rules)) in
    let least : c.min.result ≡ min (length c.bytes_from-rest.result.now) c.args.room = search rules in
    c.write_payload.ensures
    ∙ ap (λ (t : List ℕ). packet_of (payload_or_null c.args.pid c.args.counter c.args.start t))
    (c.split_at-else-from-size.ensures.front ∙ take_least c.min.result c.args.room c.bytes_from-rest.result.now least
    ∙ ap (λ (t : List ℕ). take c.args.room t) rest)
