use Rattle.std.proofs.Common.{◌∙◌, ap}
use Rattle.capture.specs.Laws.{IsReadAsItIs}
use Rattle.capture.proofs.SyncParts.{in_step_is}
use Rattle.ts_packet.specs.PidList.{cut_packets}
use Rattle.analysis.specs.Analysis.{start}
use Rattle.tsview_cli.specs.CapturedStreams.{after_parts, events_of}
use Rattle.tsview_cli.proofs.CapturedParts.{after_packets, events_of_packets}
use Rattle.tsview_cli.proofs.laws.in_step_viewed.Goals as goal

pub returns : goal.returns
returns c = λ request bytes step.
    let r : IsReadAsItIs bytes = in_step_is bytes step in
    record {
      kept = ap (after_parts (start request)) r.parts ∙ after_packets (start request) (cut_packets bytes);
      events = ap (events_of (start request)) r.parts ∙ events_of_packets (start request) (cut_packets bytes);
      left = r.rest;
    }
