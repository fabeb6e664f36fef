use Rattle.std.proofs.Common.{◌∙◌, ℕ, refl, subst, sym}
use Rattle.tstd_rows.specs.HeldVideo.{HoldsVideoOf}
use Rattle.es_events.specs.VideoFigures.{sizes_if}
use Rattle.ts_report.proofs.NewFramings.{new_held, new_tally}
use Rattle.arrival.specs.Arrivals.{step_of}
use Rattle.tstd_rows.specs.Held.{Held, IsHeld, empty}
use Rattle.ts_report.proofs.stream_table.new_entry.Goals as goal

pub returns : goal.returns
returns c =
    let rate = step_of c.args.options.now.arrival in
    let rx = c.args.buffers.rx in
    let begun : IsHeld c.new-held.result (empty rate rx c.args.buffers.main) =
    subst (λ (m : ℕ). IsHeld c.new-held.result (empty rate rx m)) c.from.ensures c.new-held.ensures.held in
    record {
      pid = refl;
      clock_pid = refl;
      last = c.new-last.ensures;
      held = subst (λ (h : Held). IsHeld c.view_video_if.new.buffers h) (sym (new_held (empty rate rx c.args.buffers.main) c.args.kind))
          (c.view_video_if.ensures.held (empty rate rx c.args.buffers.main) begun);
      tally = c.new.ensures ∙ sym (new_tally (empty rate rx c.args.buffers.main) c.args.kind);
      video = subst (λ (h : Held). HoldsVideoOf c.view_video_if.new.buffers (sizes_if rate rx c.args.rates.now) h)
          (sym (new_held (empty rate rx c.args.buffers.main) c.args.kind))
          (c.view_video_if.ensures.video (empty rate rx c.args.buffers.main) begun refl);
      video_tally = c.new-2.ensures;
      mark_tally = c.new-3.ensures;
      frames = c.frames_of.ensures (empty rate rx c.args.buffers.main);
      limit = refl;
      delayed = refl;
    }
