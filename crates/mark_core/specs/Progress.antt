-- What an event does to a unit: its colour is changed, its scan ends.
use Rattle.std.specs.Prelude.{ℕ, ◌+◌, ◌==◌, Bool, false, ◌&&◌, if◌then◌else◌, List, [], ◌∷◌, Option, Some, None}
use Rattle.mark_core.specs.Changes.{is_empty}
use Rattle.mark_core.specs.Machine.{Actor, Marker, Collector, CellOf, OnStack, Scan, Sizes, Core, same_place, frames}
use Rattle.mark_core.specs.Steps.{Step, BeginExchange, Shade, LoadCell, LoadHead, is_found, behind, after_step}

-- the unit whose colour the event changes
abbrev pub kept_by : Core → Step → Option ℕ
kept_by c (Shade u) = if c.marked u then None else Some u
kept_by c _ = None

-- the unit of a scan that ends where its cursor moves on
abbrev pub ends : Scan → List ℕ → Option ℕ
ends s [] = Some s.unit
ends s (n ∷ rest) = None

abbrev pub ends_scan : Option Scan → Option ℕ
ends_scan None = None
ends_scan (Some s) = ends s (behind s.left)

abbrev pub ends_at : Option ℕ → Option Scan → Option ℕ
ends_at None scan = ends_scan scan
ends_at (Some t) scan = None

abbrev pub ends_head : Core → ℕ → ℕ → Option Scan → Option ℕ
ends_head c m u None = if same_place (c.place u) (OnStack m) && is_empty (c.cells u) then Some u else None
ends_head c m u (Some s) = if is_found s.found u && c.marked u then ends s (behind s.left) else None

-- the unit whose scan the event ends
abbrev pub scanned_by : Core → Actor → Step → Option ℕ
scanned_by c (Marker m) (Shade u) = ends_scan (c.scan m)
scanned_by c (Marker m) (LoadCell (CellOf u slot)) = ends_at (c.cell slot) (c.scan m)
scanned_by c (Marker m) (LoadHead u) = ends_head c m u (c.scan m)
scanned_by c _ _ = None

-- whether the event begins a marking
abbrev pub is_begin : Sizes → Core → Actor → Step → Bool
is_begin z c Collector BeginExchange = frames z c == 0
is_begin z c _ _ = false

abbrev pub count_on : Sizes → Core → Actor → Step → ℕ → ℕ → ℕ
count_on z c a e u n = if is_begin z c a e then 0 else (if is_found (scanned_by c a e) u then n + 1 else n)

-- how often the unit was scanned since the last marking began, after n times before these events
abbrev pub scans : Sizes → Core → ℕ → ℕ → List (Actor × Step) → ℕ
scans z c u n [] = n
scans z c u n (e ∷ es) = scans z (after_step z c e.0 e.1) u (count_on z c e.0 e.1 u n) es
