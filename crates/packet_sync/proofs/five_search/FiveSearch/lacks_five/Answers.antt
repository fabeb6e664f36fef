use Rattle.std.proofs.Common.{sym, subst, take, rules}
use Rattle.packet_sync.specs.PacketSearch.{FiveView, IsSearchOf}
use Rattle.packet_sync.proofs.Fronts.{full_lacks, part_lacks}
use Rattle.packet_sync.proofs.five_search.FiveSearch.lacks_five.Goals as goal

pub returns-then-self-eq-SEARCHED : goal.returns-then-self-eq-SEARCHED
returns-then-self-eq-SEARCHED c = λ bytes s.
    full_lacks bytes (record { size = c.self.inside.size; found = c.self.inside.found; tail = c.self.inside.tail.items })
    (search rules)
    (subst (λ (f : FiveView). IsSearchOf (take 4194304 bytes) f) (sym c.self.view_is) s)

pub returns-else-self-eq-SEARCHED : goal.returns-else-self-eq-SEARCHED
returns-else-self-eq-SEARCHED c = λ bytes s.
    part_lacks bytes (record { size = c.self.inside.size; found = c.self.inside.found; tail = c.self.inside.tail.items })
    c.if-self-eq-SEARCHED.false
    (subst (λ (f : FiveView). IsSearchOf (take 4194304 bytes) f) (sym c.self.view_is) s)
