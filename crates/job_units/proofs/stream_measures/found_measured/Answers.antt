use Rattle.std.proofs.Common.{◌≡◌, ◌∙◌, refl, ap, None, false}
use Rattle.pes_packet.specs.AccessUnits.{AccessUnit}
use Rattle.es_moments.specs.CountedUnits.{counted_units}
use Rattle.job_units.specs.Declarations.{MeasuredView, framing_for, measured}
use Rattle.job_programs.specs.JobStreams.{WireStreamView}
use Rattle.job_units.specs.OddStreams.{alone, carried_header, own_base}
use Rattle.job_units.proofs.OddStreams.{first_same, header_same, measured_alone, own_at}
use Rattle.job_units.proofs.stream_measures.found_measured.Goals as goal

pub returns : goal.returns
returns c =
    let us : c.deref.result.now ≡ c.args.stream.now.units = c.deref.ensures.value ∙ ap (λ (w : WireStreamView). w.units) c.stream.view_is in
    let units = own_at (own_base c.args.stream.now) c.args.stream.now.units c.deref.result.now c.args.moments.now _ refl us c.requires.moments in
    let same : c.deref-3.result.now ≡ c.args.stream.now.units = c.deref-3.ensures.value ∙ ap (λ (w : WireStreamView). w.units) c.stream.view_is in
    let header = c.found_header-header.ensures ∙ ap carried_header same ∙ header_same c.args.stream.now in
    ap (λ (w : WireStreamView). (let m : MeasuredView = record {
      pid = w.pid;
      stream_id = w.stream_id;
      stream_type = w.stream_type;
      descriptors = c.in_ok-descriptors.descriptors.items;
      first = c.in_ok-first.first.items;
      framing = None;
      crossing = false;
      header = c.found_header-header.result;
      units = c.in_ok-units.units;
    } in m)) c.stream.view_is
    ∙ measured_alone c.args.stream.now c.in_ok-units.units c.found_header-header.result c.in_ok-first.first.items c.in_ok-descriptors.descriptors.items
    (c.in_ok-units.ensures ∙ ap counted_units units) header (c.in_ok-first.ensures ∙ first_same c.args.stream.now)
    (c.in_ok-descriptors.ensures.items ∙ c.deref-2.ensures.value ∙ ap (λ (w : WireStreamView). w.descriptors) c.stream.view_is) c.requires.frames
