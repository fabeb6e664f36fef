use Rattle.std.proofs.Common.{◌≡◌, ◌∙◌, ◌++◌, ◌∷◌, [], Some, None, true, false, rules, arith}
use Rattle.slot_plan.specs.Readers.{program_at, programs_at, begins_with}
use Rattle.slot_plan.proofs.ReaderSteps.{program_more, program_none, programs_end, programs_full, from_none, is_none_read, is_some_read}
use Rattle.slot_plan.proofs.reader.programs_at.Goals as goal

pub returns-in_default-clause-read : goal.returns-in_default-clause-read
returns-in_default-clause-read g c =
    let begins : begins_with 112 c.loop-number.rest.now ≡ true = search rules in
    let none : program_at c.loop-number.number c.loop-number.rest.now ≡ None = is_none_read _ _ _ c.program_at.ensures c.in_default.is in
    c.loop-number.invariant.same ∙ program_none c.args.line c.loop-number.number c.loop-number.rest.now c.loop-number.entries.items c.loop-number-test.true
    begins none

pub loop-number-preserved : goal.loop-number-preserved
loop-number-preserved g c =
    let begins : begins_with 112 c.loop-number.rest.now ≡ true = search rules in
    let some : program_at c.loop-number.number c.loop-number.rest.now ≡ Some (c.in-Some.entry, c.in-Some.after.now)
    = is_some_read _ _ _ _ c.program_at.ensures c.in-Some.is in
    let pushed : c.push.new.self.items ≡ c.loop-number.entries.items ++ c.in-Some.entry ∷ [] = search rules in
    record {
      same = rw pushed
          (c.loop-number.invariant.same ∙ program_more c.args.line c.loop-number.number c.loop-number.rest.now c.in-Some.after.now c.loop-number.entries.items
          c.in-Some.entry c.loop-number-test.true begins some);
      count = search rules;
    }

pub loop-number-init : goal.loop-number-init
loop-number-init g c = record {
  same = rw c.new-entries.ensures.items (from_none (programs_at 256 c.args.line 0 c.args.text.now));
  count = search rules;
}

pub returns-then-not-begins_with-clause-read : goal.returns-then-not-begins_with-clause-read
returns-then-not-begins_with-clause-read g c =
    let ends : begins_with 112 c.loop-number.rest.now ≡ false = search rules in
    c.loop-number.invariant.same ∙ programs_end c.args.line c.loop-number.number c.loop-number.rest.now c.loop-number.entries.items c.loop-number-test.true ends

pub returns-clause-read : goal.returns-clause-read
returns-clause-read g c =
    let whole : c.loop-number.number ≡ 256 = omega arith in
    (rw whole at c.loop-number.invariant.same) ∙ programs_full c.args.line c.loop-number.rest.now c.loop-number.entries.items
