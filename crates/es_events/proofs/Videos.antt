-- The two buffers of video of a stream, if they are viewed.
use Rattle.std.proofs.Common.{◌≡◌, ◌∙◌, sym, ℕ, List, [], Option, Some, None, refl, ap, ap₂, subst}
use Rattle.tstd_rows.specs.declared.excess.Excess.{Excess}
use Rattle.tstd_rows.specs.declared.late_causes.VideoUnit.{VideoUnit}
use Rattle.tstd_rows.specs.History.{Part}
use Rattle.tstd_rows.specs.Held.{Held}
use Rattle.tstd_rows.specs.HeldVideo.{HoldsVideo, HoldsVideoOf, IsVideoHeld, VideoSizes}
use Rattle.tstd_rows.specs.declared.stream_buffers.StreamBuffers.{StreamBuffers}
use Rattle.tstd_rows.specs.declared.video_buffers.VideoBuffers.{VideoBuffers}
use Rattle.es_events.specs.declared.video_figures.VideoFigures.{VideoFigures}
use Rattle.es_events.specs.declared.video_tally.VideoLimits.{VideoLimits}
use Rattle.es_events.specs.VideoFigures.{figures_of, figures_with, limits_of}

pub none_limits : (video : Option VideoBuffers) (sizes : Option VideoSizes) (rate : ℕ) (parts : List Part) → video ≡ None → HoldsVideo video sizes rate parts →
    None ≡ limits_of sizes
unfolding limits_of
none_limits None None rate parts is k = refl
none_limits None (Some s) rate parts is k = absurd k
none_limits (Some v) sizes rate parts is k = absurd cc

pub some_limits : (video : Option VideoBuffers) (v : VideoBuffers) (sizes : Option VideoSizes) (rate : ℕ) (parts : List Part) (limits : VideoLimits) →
    video ≡ Some v → HoldsVideo video sizes rate parts →
    ((s : VideoSizes) → IsVideoHeld v s rate parts → limits ≡ record { multiplexing = s.multiplexing; elementary = s.elementary }) →
    Some limits ≡ limits_of sizes
unfolding limits_of
some_limits None v sizes rate parts limits is k f = absurd cc
some_limits (Some w) v None rate parts limits is k f = absurd k
some_limits (Some w) v (Some s) rate parts limits is k f =
    let same : w ≡ v = cc in ap (λ (l : VideoLimits). Some l) (f s (subst (λ (x : VideoBuffers). IsVideoHeld x s rate parts) same k))

pub none_figures : (video : Option VideoBuffers) (sizes : Option VideoSizes) (h : Held) → video ≡ None → HoldsVideo video sizes h.rate h.parts →
    None ≡ figures_of sizes h
unfolding figures_of
none_figures None None h is k = refl
none_figures None (Some s) h is k = absurd k
none_figures (Some v) sizes h is k = absurd cc

pub some_figures : (video : Option VideoBuffers) (v : VideoBuffers) (sizes : Option VideoSizes) (h : Held) (figures : VideoFigures) → video ≡ Some v →
    HoldsVideo video sizes h.rate h.parts →
    ((s : VideoSizes) → IsVideoHeld v s h.rate h.parts → figures ≡ figures_with s h) → Some figures ≡ figures_of sizes h
unfolding figures_of
some_figures None v sizes h figures is k f = absurd cc
some_figures (Some w) v None h figures is k f = absurd k
some_figures (Some w) v (Some s) h figures is k f =
    let same : w ≡ v = cc in ap (λ (g : VideoFigures). Some g) (f s (subst (λ (x : VideoBuffers). IsVideoHeld x s h.rate h.parts) same k))

pub same_figures : (a b c e a' b' c' e' : ℕ) (m m' n n' : Option Excess) (u u' : Option VideoUnit) → a ≡ a' → b ≡ b' → c ≡ c' → e ≡ e' → m ≡ m' → n ≡ n' →
    u ≡ u' →
    ◌≡◌ {A = VideoFigures}
    (record { limits = record { multiplexing = a; elementary = b }; multiplexing_most = c; elementary_most = e; multiplexing = m; elementary = n; unit = u })
    (record {
      limits = record { multiplexing = a'; elementary = b' };
      multiplexing_most = c';
      elementary_most = e';
      multiplexing = m';
      elementary = n';
      unit =
          u';
    })
same_figures a b c e a' b' c' e' m m' n n' u u' h1 h2 h3 h4 h5 h6 h7 = rw (h1, h2, h3, h4, h5, h6, h7) refl

pub same_limits : (a b a' b' : ℕ) → a ≡ a' → b ≡ b' →
    ◌≡◌ {A = VideoLimits} (record { multiplexing = a; elementary = b }) (record { multiplexing = a'; elementary = b' })
same_limits a b a' b' p q = rw (p, q) refl

-- If a stream has no video buffers, none are viewed.
pub unviewed : (video : Option VideoBuffers) (rate : ℕ) (parts : List Part) → video ≡ None → HoldsVideo video None rate parts
unviewed None rate parts is = tt
unviewed (Some v) rate parts is = absurd cc
