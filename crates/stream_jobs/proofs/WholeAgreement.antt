-- A description that has the programs, the tables and the streams of an input, one after another
use Rattle.std.proofs.Common.{◌≡◌, true, length, sym}
use Rattle.std.proofs.lemmas.Bool.{and_parts, eqb-true}
use Rattle.description_parts.specs.Described.{Described}
use Rattle.stream_jobs.specs.Jobs.{AgreeInTurn, AllAgree, AreInTurn, TablesInTurn, are_counted}
use Rattle.job_inputs.specs.JobInput.{JobInputView}
use Rattle.given_values.specs.declared.clock_sharing.ClockSharing.{ClockSharing}
use Rattle.stream_jobs.specs.CarriedLoops.{HasLoops}
use Rattle.stream_jobs.specs.SharedClocks.{shared_clock, sharing}
use Rattle.stream_jobs.proofs.Agreement.{at_each, at_program, same_pid}
use Rattle.stream_jobs.proofs.TableAgreement.{at_table}

pub in_turn : (by : ClockSharing) (d : Described) (input : JobInputView) → are_counted (sharing by input) d input ≡ true →
    AreInTurn (sharing by input) d.programs input.programs →
    TablesInTurn d.tables input.tables → AgreeInTurn d d.streams input.streams → HasLoops d input.information → AllAgree by d input
unfolding are_counted
in_turn by d input counted are tables agree loops =
    let all = and_parts _ _ counted in
    let after_base = and_parts _ _ all.1 in
    let after_clock = and_parts _ _ after_base.1 in
    let after_programs = and_parts _ _ after_clock.1 in
    record {
      base_is = eqb-true _ _ all.0;
      clock_is = same_pid d.clock_pid (shared_clock (sharing by input)) after_base.0;
      programs_same = sym (eqb-true (length d.programs) (length input.programs) after_clock.0);
      programs = at_program (sharing by input) d.programs input.programs are;
      same = sym (eqb-true (length d.streams) (length input.streams) after_programs.0);
      each = at_each d d.streams input.streams agree;
      tables_same = sym (eqb-true (length d.tables) (length input.tables) after_programs.1);
      tables = at_table d.tables input.tables tables;
      loops = loops;
    }
