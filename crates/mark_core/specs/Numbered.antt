-- The events of a `Core` as steps of the machine, and its actors by number.
use Rattle.std.specs.Prelude.{ℕ, ◌+◌, ◌*◌, ◌-◌, ◌/◌, ◌==◌, nat_lt, if◌then◌else◌, List, map}
use Rattle.mark_core.specs.declared.types.Event.{Event}
use Rattle.mark_core.specs.declared.types.Event.TheVariants as event
use Rattle.mark_core.specs.declared.types.Shape.{Shape}
use Rattle.mark_core.specs.Machine.{Actor, Lane, Marker, Collector, Cell, CellOf, StrongOf}
use Rattle.mark_core.specs.Steps.{Step, FrameOpen, FrameClose, BeginExchange, Shade, SwapCell, LoadCell, AddRow, TakeRow, SetDirty, ClearDirty, LoadRow, CommitExchange, LoadHead, DoomHead, Settle, RootBit}

-- the lanes from 0, then the markers, then the collector. A number behind it is that of no marker of the machine
abbrev pub actor_of : Shape → ℕ → Actor
actor_of z a = if nat_lt a z.lanes then Lane a else if a == z.lanes + z.markers then Collector else Marker (a - z.lanes)

-- the cells of the units, then the strong pointers. A number behind them is that of no lane of the machine
abbrev pub cell_of : Shape → ℕ → Cell
cell_of z n = if nat_lt n (z.units * z.cells) then CellOf (n / z.cells) n else StrongOf (n - z.units * z.cells) 0

abbrev pub step_of : Shape → Event → Step
step_of z event.FrameOpen = FrameOpen
step_of z event.FrameClose = FrameClose
step_of z event.BeginExchange = BeginExchange
step_of z (event.Shade u) = Shade u
step_of z (event.SwapCell n to) = SwapCell (cell_of z n) to
step_of z (event.LoadCell n) = LoadCell (cell_of z n)
step_of z (event.AddRow row u) = AddRow row u
step_of z (event.TakeRow row word) = TakeRow row word
step_of z event.SetDirty = SetDirty
step_of z event.ClearDirty = ClearDirty
step_of z (event.LoadRow row word) = LoadRow row word
step_of z event.CommitExchange = CommitExchange
step_of z (event.LoadHead u) = LoadHead u
step_of z (event.DoomHead u) = DoomHead u
step_of z event.Settle = Settle
step_of z (event.RootBit u on) = RootBit u u on

-- a list of events, each by the number of its actor
abbrev pub steps_of : Shape → List (ℕ × Event) → List (Actor × Step)
steps_of z events = map (λ e. (actor_of z e.0, step_of z e.1)) events
