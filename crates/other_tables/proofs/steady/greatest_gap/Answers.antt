use Rattle.std.proofs.Common.{◌≡◌, ◌∙◌, ℕ, ap, sym, true, false, max, get_or}
use Rattle.std.specs.Str.{bytes_eq}
use Rattle.other_tables.specs.SteadySections.{distance_from}
use Rattle.other_tables.proofs.SectionSteps.{gap_own, gap_other, gap_end, no_section, same_default}
use Rattle.other_tables.proofs.steady.greatest_gap.Goals.{then-eq, else-eq}
use Rattle.other_tables.proofs.steady.greatest_gap.Goals as goal

pub loop-section-preserved : goal.loop-section-preserved
loop-section-preserved c =
    let l = c.loop-section in
    let all = c.args.all.now in
    let bytes = c.args.bytes.now in
    let s = get_or all l.section-index no_section in
    let at = same_default l.section-index all no_section c.loop-section-test.true in
    elim c.if-eq.branch [
      | then-eq w ↦
          let own : bytes_eq bytes s.bytes.now ≡ true = sym c.eq.ensures ∙ w.if-eq.true in
          let made : w.max-gap.result ≡ max (distance_from l.last s.begun) l.gap = w.max-gap.ensures ∙ ap (λ (d : ℕ). max d l.gap) w.distance_from.ensures in
          rw (w.gap-is, w.last-is) (l.invariant ∙ gap_own bytes l.section-index all s l.gap w.max-gap.result l.last c.loop-section-test.true at own made)
      | else-eq w ↦
          let other : bytes_eq bytes s.bytes.now ≡ false = sym c.eq.ensures ∙ w.if-eq.false in
          rw (w.gap-is, w.last-is) (l.invariant ∙ gap_other bytes l.section-index all s l.gap l.last c.loop-section-test.true at other)
    ]

pub returns : goal.returns
returns c = sym
    (c.loop-section.invariant ∙ gap_end c.args.bytes.now c.loop-section.section-index c.args.all.now c.loop-section.gap c.loop-section.last
    c.loop-section-test.false)
