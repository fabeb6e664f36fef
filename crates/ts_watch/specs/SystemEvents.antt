-- Events of the buffers of programs' tables.
use Rattle.std.specs.Prelude.{ℕ, ◌&&◌, ◌||◌, not, nat_le, Bool, if◌then◌else◌, List, [], ◌∷◌, ◌++◌, flat_map}
use Rattle.std.specs.List.{list_all}
use Rattle.std.specs.Option.{option_to_list}
use Rattle.tstd_rows.specs.Limits.{bsys_size, tb_size}
use Rattle.system_tables.specs.Programs.{ProgramState, system_most, reported, transport_most}
use Rattle.system_tables.specs.declared.program_buffers.TheConstants.{DRAIN}
use Rattle.system_tables.specs.declared.table_excess.TableBuffer.{TableBuffer}
use Rattle.system_tables.specs.declared.table_excess.TableBuffer.TheVariants.{Transport, System}
use Rattle.system_tables.specs.declared.table_excess.TableExcess.{TableExcess}
use Rattle.events.specs.declared.event.Event.{Event}
use Rattle.events.specs.declared.event.Event.TheVariants as found
use Rattle.events.specs.declared.rule_event.BufferKind.{BufferKind}
use Rattle.events.specs.declared.rule_event.BufferKind.TheVariants as buffers
use Rattle.es_events.specs.declared.view_options.ViewOptions.{ViewOptions}
use Rattle.ts_watch.specs.Choices.{ChoiceView, takes}
use Rattle.es_events.specs.EntryEvents.{moment_of, with_one}

-- 1. An excess, of a program that is viewed

unfoldable pub size_of : TableBuffer → ℕ
size_of Transport = tb_size
size_of System = bsys_size

unfoldable pub kind_of : TableBuffer → BufferKind
kind_of Transport = buffers.TableTransport
kind_of System = buffers.System

-- reported at the packet where the excess ends
abbrev pub excess_event : ViewOptions → ℕ → TableExcess → Event
excess_event options packet e = found.Excess (record {
  number = e.program;
  buffer = kind_of e.buffer;
  packet = packet;
  begin = moment_of options DRAIN e.excess.begin;
  end = moment_of options DRAIN e.excess.end;
  peak = e.excess.peak;
  size = size_of e.buffer;
})

abbrev pub excess_if : ViewOptions → ChoiceView → ℕ → TableExcess → List Event
excess_if options choice packet e = if takes choice e.program then excess_event options packet e ∷ [] else []

abbrev pub excess_events : ViewOptions → ChoiceView → ℕ → List TableExcess → List Event
excess_events options choice packet excesses = flat_map (excess_if options choice packet) excesses

-- 2. At the end

-- the most bytes that were in each buffer, and the number of its excesses, with a current excess
abbrev pub system_event : ProgramState → Event
system_event p = found.System (record {
  program = p.number;
  transport = transport_most p;
  transport_size = tb_size;
  transport_excesses = with_one p.transport_excesses p.transport.watch.under_way;
  main = system_most p;
  main_size = bsys_size;
  main_excesses = with_one p.system_excesses p.system.watch.under_way;
})

-- the current excess of each buffer
abbrev pub under_way : ProgramState → List TableExcess
under_way p = reported p.number (option_to_list p.transport.watch.under_way) (option_to_list p.system.watch.under_way)

-- current excesses come first, then the totals of both buffers, for each program that is viewed
abbrev pub event_if : ChoiceView → ProgramState → List Event
event_if choice p = if takes choice p.number then system_event p ∷ [] else []

abbrev pub events_of : ViewOptions → ChoiceView → ℕ → ProgramState → List Event
events_of options choice packets p = excess_events options choice packets (under_way p) ++ event_if choice p

abbrev pub system_events : ViewOptions → ChoiceView → ℕ → List ProgramState → List Event
system_events options choice packets programs = flat_map (events_of options choice packets) programs

-- neither buffer held more than its size
abbrev pub fits : ChoiceView → ProgramState → Bool
fits choice p = not (takes choice p.number) || (nat_le (transport_most p) tb_size && nat_le (system_most p) bsys_size)

abbrev pub all_fit : ChoiceView → List ProgramState → Bool
all_fit choice programs = list_all (fits choice) programs
