use Rattle.std.proofs.Common.{◌≡◌, ◌≤◌, ◌∙◌, ◌++◌, ◌-◌, ℕ, List, [], ap, arith, drop, false, length, min, refl, subst, sym, take}
use Rattle.std.proofs.lemmas.List.{append_assoc}
use Rattle.capture.specs.Captures.{Part}
use Rattle.capture.specs.Reading.{ReaderView, Settles, Takes}
use Rattle.capture.proofs.SettledParts.{kept_none, on_map, rest_at}
use Rattle.capture.proofs.reader.CaptureReader.take.Goals as goal

pub returns-clause-taken : goal.returns-clause-taken
returns-clause-taken g c = λ first parts taken.
    let old : ReaderView = c.args.self.now in
    let piece = c.args.piece.now in
    let size = min (length piece) 1315 in
    let used = c.in_ok-used.used in
    let mid = c.settle_front.new.self.settled in
    let kept : c.settle_front.new.self.kept ≡ old.kept ++ take size piece = c.in_ok-used.ensures.kept in
    let within : used ≤ length (old.kept ++ take size piece) = subst (λ (xs : List ℕ). used ≤ length xs) kept c.in_ok-used.ensures.within in
    let before : c.kept_size-before.result ≡ length old.kept = c.kept_size-before.ensures in
    let past : length old.kept ≤ used = omega (arith, before, c.if-used-before.false) in
    let s : Settles (λ found. g.T.PartTaker.has_taken first (parts ++ found) c.settle_front.new.taker) old.settled (old.kept ++ take size piece) false mid
    used =
    subst (λ (xs : List ℕ). Settles (λ found. g.T.PartTaker.has_taken first (parts ++ found) c.settle_front.new.taker) old.settled xs false mid used) kept
    (c.in_ok-used.ensures.taken first parts taken) in
    let rest : take (length piece - (used - c.kept_size-before.result)) (drop (used - c.kept_size-before.result) piece) ≡ drop (used - length old.kept) piece =
    rest_at (used - c.kept_size-before.result) piece ∙ ap (λ (n : ℕ). drop (used - n) piece) before in
    on_map c.take_rest.result
    (λ t. kept_none (λ found. g.T.PartTaker.has_taken first (parts ++ found) c.settle_front.new.taker)
    (λ found. g.T.PartTaker.has_taken first ((parts ++ s.found) ++ found) c.take_rest.new.taker)
    (λ found. g.T.PartTaker.has_taken first (parts ++ found) c.take_rest.new.taker) old c.take_rest.new.self mid piece size used refl past within s
    (subst (λ (xs : List ℕ). Takes (λ found. g.T.PartTaker.has_taken first ((parts ++ s.found) ++ found) c.take_rest.new.taker)
    (record { settled = mid; kept = [] }) xs c.take_rest.new.self) rest t)
    (λ found x. subst (λ (q : List Part). g.T.PartTaker.has_taken first q c.take_rest.new.taker) (append_assoc parts s.found found) x))
    (c.take_rest.ensures.taken first (parts ++ s.found) s.taken)
