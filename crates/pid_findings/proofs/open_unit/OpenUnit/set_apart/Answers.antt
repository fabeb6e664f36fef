use Rattle.std.proofs.Common.{◌≡◌, ◌∙◌, ◌≤◌, ◌++◌, ℕ, List, Option, length, ap, sym, subst, arith}
use Rattle.pes_packet.specs.declared.reading.PesHeader.{PesHeader}
use Rattle.pid_findings.specs.OpenUnits.{IsFront, OpenUnit, max_unbounded_pes}
use Rattle.pid_findings.specs.declared.open_unit.UnitKind.TheVariants as unit_kinds
use Rattle.pid_findings.proofs.LeftOut.{alone, first_left, first_left_open, more_left, more_left_open, none_left}
use Rattle.pid_findings.proofs.open_unit.OpenUnit.set_apart.Goals as goal

pub invariant_of-self : goal.invariant_of-self
invariant_of-self g c =
    let unit = c.self.inside in
    more_left_open unit.header unit.kind unit.front.items unit.bytes.items c.give_back.new.bytes.items unit.left_out c.len.result unit.least
    c.if-is_some.ensures c.self.invariant.0 (omega (arith, c.len.ensures)) c.give_back.ensures

pub returns-then-is_some : goal.returns-then-is_some
returns-then-is_some g c =
    let unit = c.self.inside in
    more_left c.args.self.now unit.packet unit.kind unit.access unit.header unit.front.items unit.bytes.items c.give_back.new.bytes.items unit.left_out
    c.len.result
    c.if-is_some.ensures c.self.view_is c.self.invariant.0.1.1.1 (omega (arith, c.len.ensures)) c.give_back.ensures

pub returns-in_default : goal.returns-in_default
returns-in_default g c =
    let unit = c.self.inside in
    let pes = ap (λ (u : OpenUnit). u.kind) c.self.view_is ∙ c.requires in
    let all = (alone unit.header unit.kind unit.front.items _ unit.bytes.items unit.left_out c.if-is_some.ensures c.self.invariant.0.1.1.1 c.self.invariant.1).1
    in
    none_left c.args.self.now unit.packet unit.kind unit.access _ c.deref.result.now c.self.view_is (all ∙ sym c.deref.ensures.value) pes
    (c.head_of-head.ensures.unread c.in_default.is)

pub invariant_of-self-2 : goal.invariant_of-self-2
invariant_of-self-2 g c =
    let unit = c.self.inside in
    let head = c.head_of-head.result in
    let bytes = c.deref.result.now in
    let pes = ap (λ (u : OpenUnit). u.kind) c.self.view_is ∙ c.requires in
    let all = alone unit.header unit.kind unit.front.items _ unit.bytes.items unit.left_out c.if-is_some.ensures c.self.invariant.0.1.1.1 c.self.invariant.1 in
    let few : length bytes ≤ max_unbounded_pes = omega (arith, c.self.invariant.0.0, ap length all.1, ap length c.deref.ensures.value) in
    let read = subst (λ (o : Option PesHeader). IsFront o unit_kinds.Pes head.front.now bytes) c.in-Some.is c.head_of-head.ensures.front in
    let apart : c.try_extend_from_slice.new.self.items ≡ head.front.now = c.in-Ok.ensures.ok ∙ ap (λ (xs : List ℕ). xs ++ head.front.now) all.0 in (
      first_left_open c.in-Some.header unit.kind head.front.now head.rest.now c.give_back-2.new.bytes.items bytes c.try_extend_from_slice.new.self.items
          head.least
          pes few c.head_of-head.ensures.bound c.head_of-head.ensures.waits read c.head_of-head.ensures.joined apart c.give_back-2.ensures,
      tt,
    )

pub returns : goal.returns
returns g c =
    let unit = c.self.inside in
    let head = c.head_of-head.result in
    let bytes = c.deref.result.now in
    let pes = ap (λ (u : OpenUnit). u.kind) c.self.view_is ∙ c.requires in
    let all = alone unit.header unit.kind unit.front.items _ unit.bytes.items unit.left_out c.if-is_some.ensures c.self.invariant.0.1.1.1 c.self.invariant.1 in
    let read = subst (λ (o : Option PesHeader). IsFront o unit_kinds.Pes head.front.now bytes) c.in-Some.is c.head_of-head.ensures.front in
    let apart : c.try_extend_from_slice.new.self.items ≡ head.front.now = c.in-Ok.ensures.ok ∙ ap (λ (xs : List ℕ). xs ++ head.front.now) all.0 in
    first_left c.args.self.now unit.packet unit.kind unit.access c.in-Some.header _ head.front.now head.rest.now c.give_back-2.new.bytes.items bytes
    c.try_extend_from_slice.new.self.items c.self.view_is (all.1 ∙ sym c.deref.ensures.value) pes read c.head_of-head.ensures.joined apart c.give_back-2.ensures
