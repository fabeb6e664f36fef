use Rattle.std.proofs.Common.{◌≡◌, ◌+◌, ◌-◌, ◌∷◌, ◌++◌, ◌∙◌, ℕ, List, [], ap, arith, drop, length, slice_range, subst, take}
use Rattle.std.specs.Prelude.{OnOk}
use Rattle.capture.specs.Captures.{number_of, packet_in, packet_with}
use Rattle.capture.proofs.SettledParts.{packet_at, packet_size, take_whole}
use Rattle.capture.proofs.settling.take_other.Goals as goal

pub returns : goal.returns
returns g c = λ first parts taken.
    let other = c.args.other in
    let bs = c.args.bytes.now in
    let at = c.args.at in
    let f = c.bytes_before.result in
    let p : List ℕ = slice_range bs (at + f) (at + f + 188) in
    let e : p ≡ packet_in other (drop at bs) =
    ap (λ (n : ℕ). slice_range bs (at + n) (at + n + 188)) c.bytes_before.ensures.value ∙ packet_at other bs at in
    let four : at + 4 - at ≡ 4 = omega arith in
    let size : length p ≡ 188 = ap length e ∙ packet_size other bs at c.requires in
    subst (λ (n : ℕ). OnOk c.take_with.result (g.T.PartTaker.has_taken first (parts ++ packet_with other n (packet_in other (drop at bs)) ∷ [])
    c.take_with.new.taker)) (c.number_of.ensures ∙ ap (λ (n : ℕ). number_of (take n (drop at bs))) four)
    (subst (λ (b : List ℕ). OnOk c.take_with.result (g.T.PartTaker.has_taken first (parts ++ packet_with other c.number_of.result b ∷ [])
    c.take_with.new.taker)) (take_whole p size ∙ e)
    (c.take_with.ensures first parts taken))
