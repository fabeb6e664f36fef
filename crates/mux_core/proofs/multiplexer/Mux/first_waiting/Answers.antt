use Rattle.std.proofs.Common.{◌≡◌, ◌∙◌, ℕ, ◌-◌, List, length, find, sym, ap, arith}
use Rattle.std.specs.List.{range_with_len}
use Rattle.description_parts.specs.Described.{Described, DescribedStream}
use Rattle.mux_core.specs.LineUpSteps.{leaves_waiting}
use Rattle.mux_core.proofs.FoundNumbers.{found_here, found_later, found_none}
use Rattle.mux_core.proofs.multiplexer.Mux.first_waiting.Goals as goal

pub loop-number-init : goal.loop-number-init
loop-number-init g c =
    let n = length c.args.self.now.schedule.description.streams in
    let all : n ≡ n - 0 = omega arith in
    ap (λ (m : ℕ). find (leaves_waiting c.args.self.now c.args.next.now) (range_with_len 0 m)) all

pub returns-then-leaves_waiting : goal.returns-then-leaves_waiting
returns-then-leaves_waiting g c =
    let n = length c.args.self.now.schedule.description.streams in
    let count : length c.streams-number-end.result.now ≡ n =
    ap (λ (l : List DescribedStream). length l) c.streams-number-end.ensures.value ∙ ap (λ (d : Described). length d.streams) c.description.ensures in
    sym (c.loop-number.invariant
    ∙ found_here (leaves_waiting c.args.self.now c.args.next.now) c.loop-number.number n (omega (arith, count, c.loop-number-test.true))
    (sym c.leaves_waiting.ensures ∙ c.if-leaves_waiting.true))

pub loop-number-preserved : goal.loop-number-preserved
loop-number-preserved g c =
    let n = length c.args.self.now.schedule.description.streams in
    let count : length c.streams-number-end.result.now ≡ n =
    ap (λ (l : List DescribedStream). length l) c.streams-number-end.ensures.value ∙ ap (λ (d : Described). length d.streams) c.description.ensures in
    c.loop-number.invariant
    ∙ found_later (leaves_waiting c.args.self.now c.args.next.now) c.loop-number.number n (omega (arith, count, c.loop-number-test.true))
    (sym c.leaves_waiting.ensures ∙ c.if-leaves_waiting.false)

pub returns : goal.returns
returns g c =
    let n = length c.args.self.now.schedule.description.streams in
    let count : length c.streams-number-end.result.now ≡ n =
    ap (λ (l : List DescribedStream). length l) c.streams-number-end.ensures.value ∙ ap (λ (d : Described). length d.streams) c.description.ensures in
    sym (c.loop-number.invariant
    ∙ found_none (leaves_waiting c.args.self.now c.args.next.now) c.loop-number.number n (omega (arith, count, c.loop-number-test.false)))
