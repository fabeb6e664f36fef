use Rattle.std.proofs.Common.{◌≡◌, Option, Some, None, [], refl, arith, append_assoc}
use Rattle.std.proofs.lemmas.Grind.{common_steps}
use Rattle.std.proofs.lemmas.List.Elements.{filter_map-append}
use Rattle.std.specs.List.{cons_option}
use Rattle.std.specs.Option.{option_to_list}
use Rattle.description.proofs.program_map.push_tables.Goals as goal

at_the_end : {X : Type 0} (o : Option X) → cons_option o [] ≡ option_to_list o
at_the_end None = refl
at_the_end (Some x) = refl

pub loop-table-preserved : goal.loop-table-preserved
loop-table-preserved c = record {
  streams = grind (arith, common_steps, filter_map-append, append_assoc, at_the_end);
  length = grind (arith, common_steps);
}
