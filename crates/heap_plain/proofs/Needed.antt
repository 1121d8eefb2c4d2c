-- What a slice keeps its scans need.
use Rattle.std.proofs.Common.{inl, inr, List, [], ◌∷◌, ◌++◌, map}
use Rattle.world_model.specs.World.{World, unit_of}
use Rattle.world_model.specs.Reach.{graph, Refers}
use Rattle.world_model.specs.Calls.{IsScannedFor, KeepsForScans}
use Rattle.heap_plain.specs.Types.{Name, Pass, Act}
use Rattle.heap_plain.specs.Types.act

-- what is scanned for in the first notes, or in those behind them
scanned_before : (w : World) (of : Name) (xs ys : List Act) → IsScannedFor w of xs → IsScannedFor w of (xs ++ ys)
scanned_before w of [] ys h = absurd h
scanned_before w of (act.Scanned from ∷ xs) ys (inl refers) = inl refers
scanned_before w of (act.Scanned from ∷ xs) ys (inr h) = inr (scanned_before w of xs ys h)
scanned_before w of (a ∷ xs) ys h = scanned_before w of xs ys h

-- the scan comes behind notes that units are kept
pub scanned_at_end : (w : World) (of from : Name) (names : List Name) → Refers (graph w) (unit_of w from) (unit_of w of) → IsScannedFor w of (map act.Kept names ++ act.Scanned from ∷ [])
scanned_at_end w of from [] refers = inl refers
scanned_at_end w of from (n ∷ names) refers = scanned_at_end w of from names refers

pub keeps_append : (w : World) (xs ys : List Act) → KeepsForScans w xs → KeepsForScans w ys → KeepsForScans w (xs ++ ys)
keeps_append w [] ys h k = k
keeps_append w (act.Kept of ∷ xs) ys h k = (scanned_before w of xs ys h.0, keeps_append w xs ys h.1 k)
keeps_append w (a ∷ xs) ys h k = keeps_append w xs ys h k

-- nothing of it hangs on what is open
scanned_opened : (w : World) (passes : List Pass) (of : Name) (notes : List Act) → IsScannedFor (record w { opened = passes }) of notes → IsScannedFor w of notes
scanned_opened w passes of [] h = h
scanned_opened w passes of (act.Scanned from ∷ notes) (inl refers) = inl refers
scanned_opened w passes of (act.Scanned from ∷ notes) (inr h) = inr (scanned_opened w passes of notes h)
scanned_opened w passes of (a ∷ notes) h = scanned_opened w passes of notes h

pub keeps_opened : (w : World) (passes : List Pass) (notes : List Act) → KeepsForScans (record w { opened = passes }) notes → KeepsForScans w notes
keeps_opened w passes [] h = h
keeps_opened w passes (act.Kept of ∷ notes) h = (scanned_opened w passes of notes h.0, keeps_opened w passes notes h.1)
keeps_opened w passes (a ∷ notes) h = keeps_opened w passes notes h
