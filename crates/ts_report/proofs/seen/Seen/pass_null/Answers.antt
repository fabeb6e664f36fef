use Rattle.std.proofs.Common.{◌∙◌, ap}
use Rattle.ts_packet.specs.Packets.{null_packet}
use Rattle.ts_report.specs.Seen.{SeenState, with_sections}
use Rattle.ts_watch.specs.TableEvents.{TablesState}
use Rattle.ts_report.proofs.seen.Seen.pass_null.Goals as goal

pub returns-clause-seen : goal.returns-clause-seen
returns-clause-seen c =
    let seen : SeenState = record {
      options = c.self.inside.options;
      packets = c.self.inside.packets;
      refused = c.self.inside.refused;
      counters = c.self.inside.counters;
      window = c.self.inside.window;
      totals = c.self.inside.totals;
      clocks = c.self.inside.clocks;
      watches = c.self.inside.watches;
      errors = c.self.inside.errors;
      references = c.self.inside.references;
      rules = c.self.inside.rules;
      tables = c.self.inside.tables;
      systems = c.self.inside.systems;
      named = c.self.inside.named;
      services = c.self.inside.services;
      known = c.self.inside.known;
    } in
    ap (λ (t : TablesState). record seen { tables = t }) (c.pass_null.ensures.tables seen.options)
    ∙ ap (λ (s : SeenState). with_sections s null_packet) c.self.view_is
