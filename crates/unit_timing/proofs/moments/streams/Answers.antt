use Rattle.unit_timing.proofs.MomentLemmas.{transport_moments, left_scaled, main_moments, main_whole_moments, main_peak_moments}
use Rattle.unit_timing.proofs.moments.streams.Goals as goal

pub returns-clause-transport : goal.returns-clause-transport
returns-clause-transport c = transport_moments

pub returns-clause-left : goal.returns-clause-left
returns-clause-left c = left_scaled

pub returns-clause-main : goal.returns-clause-main
returns-clause-main c = main_moments

pub returns-clause-whole : goal.returns-clause-whole
returns-clause-whole c = main_whole_moments

pub returns-clause-peak : goal.returns-clause-peak
returns-clause-peak c = main_peak_moments
