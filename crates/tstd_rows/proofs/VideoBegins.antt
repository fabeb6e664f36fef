-- Buffers of video before the first byte
use Rattle.std.proofs.Common.{◌≡◌, sym, ℕ, List, [], subst}
use Rattle.tstd_rows.specs.History.{Part}
use Rattle.tstd_rows.specs.HeldVideo.{IsVideoHeld, sizes_of}
use Rattle.tstd_rows.specs.declared.video_buffers.VideoBuffers.{VideoBuffers}
use Rattle.tstd_rows.specs.declared.video_buffers.VideoRates.{VideoRates}

pub sized : (v : VideoBuffers) (step rx rate drain : ℕ) (rates : VideoRates) (parts : List Part) → step ≡ rate → rx ≡ drain → parts ≡ [] →
    IsVideoHeld v (sizes_of step rx rates) rate [] → IsVideoHeld v (sizes_of rate drain rates) rate parts
sized v step rx rate drain rates parts same same' none k =
    subst (λ (ps : List Part). IsVideoHeld v (sizes_of rate drain rates) rate ps) (sym none)
    (subst (λ (r : ℕ). IsVideoHeld v (sizes_of rate r rates) rate []) same' (subst (λ (s : ℕ). IsVideoHeld v (sizes_of s rx rates) rate []) same k))
