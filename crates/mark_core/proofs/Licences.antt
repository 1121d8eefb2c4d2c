-- What is marked when a scan ends.
use Rattle.std.proofs.Common.{◌≡◌, ℕ, ◌<◌, true, Some}
use Rattle.mark_core.specs.Changes.{has}
use Rattle.mark_core.specs.Machine.{Marker, CellOf, StrongOf, Sizes, Core}
use Rattle.mark_core.specs.Steps.{Step, Shade, LoadCell, LoadHead, MarkerMay, after_marker}
use Rattle.mark_core.specs.Lawful.{Lawful}
use Rattle.mark_core.specs.Progress.{scanned_by}
use Rattle.mark_core.proofs.Scans.{grey_alive}
use Rattle.mark_core.proofs.Steps.{marker_step, grey_marking}
use Rattle.mark_core.proofs.Once.{marker_ends}

-- When a scan ends, the unit was grey, and all that its cells point to is marked
pub scan_closed : (z : Sizes) (c : Core) (m : ℕ) (e : Step) (u : ℕ) → m < z.markers → MarkerMay z c m e → Lawful z c
    → scanned_by c (Marker m) e ≡ Some u → (k v : ℕ) → has (c.cells u) k ≡ true → c.cell k ≡ Some v → (after_marker z c m e).marked v ≡ true
scan_closed z c m (Shade w) u lt may h is k v small cell =
    let h2 = marker_step z c m (Shade w) lt may h in
    let ended = marker_ends z c m (Shade w) u h is in
    let was = h2.grey.scanned_is u ended.1 in
    (h2.black (grey_marking z c u ended.0 h)).black u k v (grey_alive z c u ended.0 h) was.1 was.0 small cell
scan_closed z c m (LoadCell (CellOf w i)) u lt may h is k v small cell =
    let h2 = marker_step z c m (LoadCell (CellOf w i)) lt may h in
    let ended = marker_ends z c m (LoadCell (CellOf w i)) u h is in
    let was = h2.grey.scanned_is u ended.1 in
    (h2.black (grey_marking z c u ended.0 h)).black u k v (grey_alive z c u ended.0 h) was.1 was.0 small cell
scan_closed z c m (LoadCell (StrongOf l n)) u lt may h is k v small cell = absurd cc
scan_closed z c m (LoadHead w) u lt may h is k v small cell =
    let h2 = marker_step z c m (LoadHead w) lt may h in
    let ended = marker_ends z c m (LoadHead w) u h is in
    let was = h2.grey.scanned_is u ended.1 in
    (h2.black (grey_marking z c u ended.0 h)).black u k v (grey_alive z c u ended.0 h) was.1 was.0 small cell
scan_closed z c m _ u lt may h is k v small cell = absurd cc
