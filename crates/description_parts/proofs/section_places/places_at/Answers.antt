use Rattle.std.proofs.Common.{◌≡◌, ◌≤◌, ◌<◌, ◌+◌, ◌-◌, suc, [], ap, sym, ◌∙◌, arith, length, drop}
use Rattle.std.proofs.lemmas.List.{drop-drop, length-drop, take_all}
use Rattle.description_parts.specs.Cuts.{cut, places, taken}
use Rattle.description_parts.proofs.Cuts.{places_here, places_later, places_past}
use Rattle.description_parts.proofs.section_places.places_at.Goals as goal

pub returns-then-begin-count-clause-value : goal.returns-then-begin-count-clause-value
returns-then-begin-count-clause-value c =
    let ls = c.args.lengths.now in
    let b = c.loop.begin in
    let n = c.first_taken-count.result in
    let rest = drop b ls in
    let same = take_all (length ls - b) rest (omega (arith, length-drop b ls)) in
    let is = c.first_taken-count.ensures.value ∙ ap (taken (λ l. l) c.args.room c.loop.before []) same in
    let j = c.args.part - (c.loop.counter + 1) in
    let next : c.args.part - c.loop.counter ≡ suc j = omega (arith, c.loop-test.true) in
    let past : n ≡ length rest = omega (arith, length-drop b ls, c.if-begin-count.true, c.loop.invariant.within) in
    sym (c.loop.invariant.value ∙ places_past c.args.room c.loop.before b n (c.args.part - c.loop.counter) j rest is past next)

pub loop-preserved : goal.loop-preserved
loop-preserved c =
    let ls = c.args.lengths.now in
    let b = c.loop.begin in
    let n = c.first_taken-count.result in
    let rest = drop b ls in
    let long = length-drop b ls in
    let same = take_all (length ls - b) rest (omega (arith, long)) in
    let is = c.first_taken-count.ensures.value ∙ ap (taken (λ l. l) c.args.room c.loop.before []) same in
    let j = c.args.part - (c.loop.counter + 1) in
    let next : c.args.part - c.loop.counter ≡ suc j = omega (arith, c.loop-test.true) in
    let most : n ≤ length rest = omega (arith, c.first_taken-count.ensures.bound, ap length same) in
    let within : n < length rest = omega (arith, most, long, c.if-begin-count.false, c.loop.invariant.within) in
    record {
      value = c.loop.invariant.value ∙ places_later c.args.room c.loop.before b n (c.args.part - c.loop.counter) j rest is within next
          ∙ ap (λ xs. places (b + n) (cut (λ l. l) c.args.room 0 [] xs) j) (drop-drop n b ls);
      within = omega (arith, most, long, c.loop.invariant.within);
      bound = omega arith;
    }

pub returns-clause-value : goal.returns-clause-value
returns-clause-value c =
    let ls = c.args.lengths.now in
    let b = c.loop.begin in
    let n = c.first_taken.result in
    let rest = drop b ls in
    let same = take_all (length ls - b) rest (omega (arith, length-drop b ls)) in
    let is = c.first_taken.ensures.value ∙ ap (taken (λ l. l) c.args.room c.loop.before []) same in
    let most : n ≤ length rest = omega (arith, c.first_taken.ensures.bound, ap length same) in
    let none : c.args.part - c.loop.counter ≡ 0 = omega (arith, c.loop-test.false) in
    sym (c.loop.invariant.value ∙ ap (places b (cut (λ l. l) c.args.room c.loop.before [] rest)) none
    ∙ places_here c.args.room c.loop.before b n rest is most)
