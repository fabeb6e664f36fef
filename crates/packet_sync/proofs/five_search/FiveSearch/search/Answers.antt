use Rattle.std.proofs.Common.{◌∙◌, List, ℕ, ap, sym, subst, refl}
use Rattle.packet_sync.specs.PacketSearch.{FiveView, IsSearchOf}
use Rattle.packet_sync.proofs.Fives.{found_before, searched_more}
use Rattle.packet_sync.proofs.five_search.FiveSearch.search.Goals as goal

pub returns-then-self-clause-searched : goal.returns-then-self-clause-searched
returns-then-self-clause-searched c = λ part s last.
    let old : FiveView = record { size = c.self.inside.size; found = c.self.inside.found; tail = c.self.inside.tail.items } in
    found_before part c.args.next.now old _ c.if-self.true refl refl
    (subst (λ (f : FiveView). IsSearchOf part f) (sym c.self.view_is) s)

pub returns-clause-searched : goal.returns-clause-searched
returns-clause-searched c = λ part s last.
    let old : FiveView = record { size = c.self.inside.size; found = c.self.inside.found; tail = c.self.inside.tail.items } in
    searched_more part c.args.next.now c.args.bytes.now old _ c.if-self.false refl
    (last (sym (ap (λ (f : FiveView). f.found) c.self.view_is) ∙ c.if-self.false))
    c.has_five-self-inside.ensures
    (c.in_ok-tail.ensures.items ∙ c.last_bytes.ensures)
    (subst (λ (f : FiveView). IsSearchOf part f) (sym c.self.view_is) s)
