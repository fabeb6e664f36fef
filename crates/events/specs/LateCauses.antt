-- The words for the cause of a late unit of video (docs/VIEW.md).
use Rattle.std.specs.Prelude.{ℕ, List, codes}
use Rattle.events.specs.declared.video_event.LateCause.{LateCause}
use Rattle.events.specs.declared.video_event.LateCause.TheVariants.{Multiplex, FullBuffer}

unfoldable pub word_of : LateCause → List ℕ
word_of Multiplex = codes "mux"
word_of FullBuffer = codes "full"
