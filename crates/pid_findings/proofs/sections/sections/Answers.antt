use Rattle.std.proofs.Common.{◌≡◌, ℕ, ◌∙◌, sym, ap, subst, rules, List, ◌∷◌, ◌++◌, drop, Option, Some, None, true, false, option_map}
use Rattle.pid_findings.specs.OpenUnits as units
use Rattle.pid_findings.specs.declared.open_unit.UnitKind.TheVariants as unit_kinds
use Rattle.pid_findings.specs.Shown.{given, payload_list, what_of}
use Rattle.pid_findings.proofs.Lists.{left_none, left_more}
use Rattle.pid_findings.proofs.SectionWalk.{fill_found, fill_last, cut_found, cut_last, more_found, more_last}
use Rattle.pid_findings.proofs.sections.sections.Goals as goal

pub returns-then-is_stuffing-clause-found : goal.returns-then-is_stuffing-clause-found
returns-then-is_stuffing-clause-found g c =
    let fill : units.is_stuffing (payload_list c.loop-rest.rest) ≡ true = sym (ap units.is_stuffing c.bytes_of-bytes.ensures) ∙ sym c.is_stuffing.ensures
    ∙ c.if-is_stuffing.true in
    left_none (given c.args.place) _ _ _ (fill_found c.args.place.packet (payload_list c.loop-rest.rest) fill) c.loop-rest.invariant.found

pub returns-then-is_stuffing-clause-last : goal.returns-then-is_stuffing-clause-last
returns-then-is_stuffing-clause-last g c =
    let fill : units.is_stuffing (payload_list c.loop-rest.rest) ≡ true = sym (ap units.is_stuffing c.bytes_of-bytes.ensures) ∙ sym c.is_stuffing.ensures
    ∙ c.if-is_stuffing.true in
    ap (λ (o : Option (List ℕ)). option_map (units.section c.args.place.packet) o)
    (sym (fill_last (payload_list c.loop-rest.rest) fill) ∙ c.loop-rest.invariant.last)

pub returns-in-None-clause-found : goal.returns-in-None-clause-found
returns-in-None-clause-found g c =
    let none : units.decided unit_kinds.Section c.bytes_of-bytes.result.now ≡ None = search rules in
    let cut : units.decided unit_kinds.Section (payload_list c.loop-rest.rest) ≡ None = sym (ap (units.decided unit_kinds.Section) c.bytes_of-bytes.ensures)
    ∙ none in
    left_none (given c.args.place) _ _ _ (cut_found c.args.place.packet (payload_list c.loop-rest.rest) cut) c.loop-rest.invariant.found

pub returns-in-None-clause-last : goal.returns-in-None-clause-last
returns-in-None-clause-last g c =
    let fill : units.is_stuffing (payload_list c.loop-rest.rest) ≡ false = sym (ap units.is_stuffing c.bytes_of-bytes.ensures) ∙ sym c.is_stuffing.ensures
    ∙ c.if-is_stuffing.false in
    let none : units.decided unit_kinds.Section c.bytes_of-bytes.result.now ≡ None = search rules in
    let cut : units.decided unit_kinds.Section (payload_list c.loop-rest.rest) ≡ None = sym (ap (units.decided unit_kinds.Section) c.bytes_of-bytes.ensures)
    ∙ none in
    let bytes : c.new.result.items ++ c.in_ok-bytes-in-None.bytes.items ≡ payload_list c.loop-rest.rest =
    ap (λ (front : List ℕ). front ++ c.in_ok-bytes-in-None.bytes.items) c.new.ensures ∙ c.in_ok-bytes-in-None.ensures.items ∙ c.bytes_of-bytes.ensures in
    ap (λ (x : List ℕ). Some (units.section c.args.place.packet x)) bytes
    ∙ ap (λ (o : Option (List ℕ)). option_map (units.section c.args.place.packet) o)
    (sym (cut_last (payload_list c.loop-rest.rest) fill cut) ∙ c.loop-rest.invariant.last)

pub loop-rest-preserved : goal.loop-rest-preserved
loop-rest-preserved g c =
    let rest = payload_list c.loop-rest.rest in
    let verdict = c.in-Some.verdict in
    let fill : units.is_stuffing rest ≡ false = sym (ap units.is_stuffing c.bytes_of-bytes.ensures) ∙ sym c.is_stuffing.ensures ∙ c.if-is_stuffing.false in
    let some : units.decided unit_kinds.Section c.bytes_of-bytes.result.now ≡ Some (what_of c.bytes_of-bytes.result.now verdict) = search rules in
    let decides : units.decided unit_kinds.Section rest ≡ Some (what_of rest verdict) =
    subst (λ (b : List ℕ). units.decided unit_kinds.Section b ≡ Some (what_of b verdict)) c.bytes_of-bytes.ensures some in
    let skips : drop c.taken_by.result rest ≡ drop (units.taken_by rest (what_of rest verdict)) rest =
    subst (λ (b : List ℕ). drop c.taken_by.result b ≡ drop (units.taken_by b (what_of b verdict)) b) c.bytes_of-bytes.ensures c.taken_by.ensures.rest in
    let after : payload_list c.after-rest.result ≡ drop (units.taken_by rest (what_of rest verdict)) rest = c.after-rest.ensures.list ∙ skips in
    record {
      found = left_more (given c.args.place) _ _ _ _ _ _
          (more_found c.args.place.packet rest (what_of rest verdict) fill decides
          ∙ ap (λ (x : List ℕ). units.about_within (units.section c.args.place.packet rest) (what_of rest verdict) ∷ units.sections_in c.args.place.packet 0
          x) (sym after))
          c.in_ok-note_decided_here-in-Some.ensures.ok
          c.loop-rest.invariant.found;
      borrowed = c.after-rest.ensures.borrowed ∙ c.loop-rest.invariant.borrowed;
      last = ap (units.last_in 0) after ∙ sym (more_last rest (what_of rest verdict) fill decides) ∙ c.loop-rest.invariant.last;
    }
