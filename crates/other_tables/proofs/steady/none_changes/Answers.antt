use Rattle.std.proofs.Common.{◌≡◌, ◌∙◌, ◌+◌, ◌&&◌, ap, sym, Bool, true, false, List, map, drop, get_or}
use Rattle.std.specs.Prelude.{not}
use Rattle.std.specs.List.{list_any}
use Rattle.other_tables.specs.SteadySections.{section_view, is_same_section, none_changes}
use Rattle.other_tables.specs.declared.steady.FoundSection.{FoundSection}
use Rattle.other_tables.proofs.SectionSteps.{all_after, none_from, none_end, same_after, same_default}
use Rattle.other_tables.proofs.steady.none_changes.Goals as goal

pub returns-then-has_same : goal.returns-then-has_same
returns-then-has_same c =
    let ks = c.args.known.now in
    let i = c.loop-at.at in
    let k = get_or ks i _ in
    let found : same_after i ks k ≡ true =
    ap (λ (l : List FoundSection). list_any (is_same_section (section_view k)) (map section_view l)) (sym (all_after i ks))
    ∙ (sym c.has_same.ensures ∙ c.if-has_same.true) in
    sym (c.loop-at.invariant ∙ (none_from i ks k c.loop-at-test.true (same_default i ks _ c.loop-at-test.true)
    ∙ ap (λ (b : Bool). not b && none_changes (map section_view (drop (i + 1) ks))) found))

pub loop-at-preserved : goal.loop-at-preserved
loop-at-preserved c =
    let ks = c.args.known.now in
    let i = c.loop-at.at in
    let k = get_or ks i _ in
    let other : same_after i ks k ≡ false =
    ap (λ (l : List FoundSection). list_any (is_same_section (section_view k)) (map section_view l)) (sym (all_after i ks))
    ∙ (sym c.has_same.ensures ∙ c.if-has_same.false) in
    c.loop-at.invariant ∙ (none_from i ks k c.loop-at-test.true (same_default i ks _ c.loop-at-test.true)
    ∙ ap (λ (b : Bool). not b && none_changes (map section_view (drop (i + 1) ks))) other)

pub returns : goal.returns
returns c = sym (c.loop-at.invariant ∙ none_end c.loop-at.at c.args.known.now c.loop-at-test.false)
