-- The number of frames.
use Rattle.std.proofs.Common.{◌≡◌, ◌+◌, arith}
use Rattle.mark_core.specs.Machine.{Actor, Lane, Marker, Collector, Sizes, Core, frames}
use Rattle.mark_core.specs.Steps.{FrameOpen, FrameClose, Allowed, after_step}
use Rattle.mark_core.specs.Laws.{FramesAreCounted}
use Rattle.mark_core.proofs.Phases.{lane_closed, marker_closed}
use Rattle.mark_core.proofs.Tools.{count-more, count-less, count-most}

opened : (z : Sizes) (c : Core) (a : Actor) → Allowed z c a FrameOpen → frames z (after_step z c a FrameOpen) ≡ frames z c + 1
opened z c (Lane l) may = let more = count-more c.lane_open l z.lanes may.0 may.1 in omega arith
opened z c (Marker m) may = let more = count-more c.marker_open m z.markers may.0 may.1 in omega arith
opened z c Collector may = absurd may

closed : (z : Sizes) (c : Core) (a : Actor) → Allowed z c a FrameClose → frames z (after_step z c a FrameClose) + 1 ≡ frames z c
closed z c (Lane l) may = let free = may.1 in let less = count-less c.lane_open l z.lanes may.0 free.opened in omega arith
closed z c (Marker m) may = let less = count-less c.marker_open m z.markers may.0 may.1.0 in omega arith
closed z c Collector may = absurd may

pub frames_counted : FramesAreCounted
frames_counted z c = record {
  most = let lanes = count-most c.lane_open z.lanes in let markers = count-most c.marker_open z.markers in omega arith;
  opens = opened z c;
  closes = closed z c;
  none = λ h zero_is. (λ l. lane_closed z c l zero_is h, λ m. marker_closed z c m zero_is h);
}
