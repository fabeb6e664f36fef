use Rattle.std.proofs.Common.{◌∙◌, ℕ, Bool, false, slice_index_or, List, ap}
use Rattle.description_parts.specs.Described.{Described}
use Rattle.line_ups.specs.Versions.{follow_versions}
use Rattle.mux_core.specs.MuxStates.{MuxState}
use Rattle.mux_core.specs.SlotSteps.{moment_of_events}
use Rattle.mux_core.proofs.multiplexer.Mux.followed.Goals as goal

pub returns : goal.returns
returns g c =
    c.follow_versions.ensures
    ∙ ap (λ (now : Described). follow_versions now c.args.texts c.moment_of_events.result (λ n. slice_index_or c.self.inside.texts.sent n false)) c.texts.ensures
    ∙ ap (λ (x : ℕ). follow_versions c.args.self.now.texts c.args.texts x (λ n. slice_index_or c.self.inside.texts.sent n false)) c.moment_of_events.ensures
    ∙ ap (λ (l : List Bool). follow_versions c.args.self.now.texts c.args.texts (moment_of_events c.args.self.now) (λ n. slice_index_or l n false))
    (ap (λ (m : MuxState). m.sent) c.self.view_is)
