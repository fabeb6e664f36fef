use Rattle.std.proofs.Common.{◌∙◌, ap}
use Rattle.es_moments.specs.Declaration.{CountedPacketsView}
use Rattle.es_moments.proofs.PacketRows.{group_is, row_packets_are}
use Rattle.es_moments.proofs.counted_packets.CountedPackets.of_group.Goals as goal

pub returns-clause-value : goal.returns-clause-value
returns-clause-value g c =
    c.max.ensures
    ∙ row_packets_are c.args.group c.self.inside.largest c.greatest_row.result c.deref.result.now c.args.self.now
    (c.deref.ensures.value ∙ ap (λ (v : CountedPacketsView). v.numbers) c.self.view_is) (ap (λ (v : CountedPacketsView). v.largest) c.self.view_is)
    c.greatest_row.ensures

pub returns-clause-of_units : goal.returns-clause-of_units
returns-clause-of_units g c = λ id base0 us is.
    c.max.ensures
    ∙ group_is id base0 c.args.group c.self.inside.largest c.greatest_row.result us c.deref.result.now c.args.self.now
    (c.deref.ensures.value ∙ ap (λ (v : CountedPacketsView). v.numbers) c.self.view_is) (ap (λ (v : CountedPacketsView). v.largest) c.self.view_is) is
    c.greatest_row.ensures
