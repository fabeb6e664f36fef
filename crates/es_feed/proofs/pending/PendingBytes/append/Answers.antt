use Rattle.std.proofs.Common.{◌≡◌, ◌≤◌, ◌+◌, ◌++◌, ◌∙◌, ℕ, List, length, take, drop, ap, sym, arith}
use Rattle.std.proofs.lemmas.List.{append_assoc, take_at, length-append, length-take}
use Rattle.es_feed.specs.Records.{PendingView}
use Rattle.es_feed.proofs.pending.PendingBytes.append.Goals as goal

-- The bytes before a place, and a part that is written over the bytes from that place on
written_over : (room part now : List ℕ) (size : ℕ) → size ≤ length room → now ≡ take size room ++ (part ++ drop (size + length part) room) →
    take (size + length part) now ≡ take size room ++ part
written_over room part now size within is =
    let long : length (take size room ++ part) ≡ size + length part = omega (arith, length-append (take size room) part, length-take size room, within) in
    rw is (ap (take (size + length part)) (sym (append_assoc (take size room) part (drop (size + length part) room)))
    ∙ take_at (take size room ++ part) (drop (size + length part) room) (size + length part) long)

pub returns : goal.returns
returns c =
    let within : c.self.inside.size ≤ length c.self.inside.room = omega (arith, c.self.told, c.self.invariant) in
    written_over c.self.inside.room c.args.part.now c.overwrite.new.room c.self.inside.size within c.overwrite.ensures
    ∙ ap (λ (p : PendingView). p.items ++ c.args.part.now) c.self.view_is
