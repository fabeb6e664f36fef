use Rattle.std.proofs.Common.{◌≡◌, ℕ, ◌++◌, ◌∷◌, Bool, false, slice_index_or, List, [], length, map, ap, sym, ◌∙◌, arith}
use Rattle.std.specs.List.{range_with_len}
use Rattle.std.proofs.lemmas.List.FromFn.{length-map-range_with_len, map-range_with_len_more}
use Rattle.mux_core.specs.SlotSteps.{still_at}
use Rattle.mux_core.proofs.texts_in_force.sent_still.Goals as goal

pub push-requires : goal.push-requires
push-requires c =
    let size : length c.loop-number.still.items ≡ c.loop-number.number =
    ap (length {A = Bool}) c.loop-number.invariant ∙ length-map-range_with_len (still_at c.args.sent.now (λ n. slice_index_or c.args.changed.now n false)) 0 c.loop-number.number in
    (omega arith, omega (arith, size, c.loop-number-test.true))

pub loop-number-preserved : goal.loop-number-preserved
loop-number-preserved c =
    let f : ℕ → Bool = still_at c.args.sent.now (λ n. slice_index_or c.args.changed.now n false) in
    c.push.ensures.items
    ∙ ap (λ (l : List Bool). l ++ (c.is_still_sent.result ∷ [])) c.loop-number.invariant
    ∙ ap (λ (b : Bool). map f (range_with_len 0 c.loop-number.number) ++ (b ∷ [])) c.is_still_sent.ensures
    ∙ sym (map-range_with_len_more f 0 c.loop-number.number c.loop-number.number (omega arith))

pub returns : goal.returns
returns c =
    let end : c.loop-number.number ≡ 131 = omega (arith, c.loop-number-test.false, c.loop-number.auto.number-end) in
    c.in-Ok.ensures.ok ∙ c.loop-number.invariant
    ∙ ap (λ (n : ℕ). map (still_at c.args.sent.now (λ n. slice_index_or c.args.changed.now n false)) (range_with_len 0 n)) end
