-- What each entry changes.
use Rattle.std.specs.Prelude.{ℕ, ◌+◌, Bool, true, false, not, ◌&&◌, ◌||◌, if◌then◌else◌, List, [], ◌∷◌, ◌++◌, map, Some, None}
use Rattle.std.specs.List.{filter, flat_map}
use Rattle.std.specs.Option.{option_to_list, is_some}
use Rattle.world_model.specs.Types.{Name, Weak, Kind, Swept, SweepStop, Phase, Idle, Marking, Gathering, Pass, Lane, Marker, Collector, Act, Entry}
use Rattle.world_model.specs.Types.act
use Rattle.world_model.specs.Types.begin
use Rattle.world_model.specs.Types.commit
use Rattle.world_model.specs.Types.sweep
use Rattle.world_model.specs.NameLists.{same_name, same_pass, has, members, begins_with, parted, names_from, set_at, set_name}
use Rattle.world_model.specs.World.{World, Removal, Stage, Removed, Begun, Finished, unit_of, pair_of}
use Rattle.world_model.specs.State.{State, Marks, Frame, Slicing, Collecting, no_frame, is_marked, white_units}

-- the lane of a pass that is one
abbrev pub lane_of : Pass → ℕ
lane_of (Lane lane) = lane
lane_of _ = 0

-- ---- the world

-- a lane's next names, as one unit; their cells are empty, as those of all names that no entry has written
abbrev pub with_unit : World → ℕ → List Kind → ℕ → World
with_unit w lane kinds first = record w {
  kinds = set_at w.kinds lane (w.kinds lane ++ kinds);
  units = w.units ++ names_from lane first kinds ∷ [];
}

-- the object has a pair: its own, or this one, drawn by the lane
abbrev pub with_pair : World → ℕ → Name → Weak → World
with_pair w lane n weak = record w { pairs = if is_some (pair_of w n) then w.pairs else w.pairs ++ record { weak = weak; name = n; lane = lane } ∷ [] }

-- a commit removes the units that are not marked
abbrev pub committed : Marks → World → World
committed m w = record w {
  units = filter (is_marked m) w.units;
  rooted = λ n. w.rooted n && not (has (members (white_units m w)) n);
  removals = map (λ n. record { name = n; stage = Removed; polls = 0 }) (members (white_units m w));
  last_removed = white_units m w;
  found = [];
  swept = 0;
  phase = Gathering;
}

-- the phase after a sweep
abbrev pub settled : Phase → SweepStop → Phase
settled phase sweep.Settled = Idle
settled phase _ = phase

-- a sweep looked at items, and found these objects
abbrev pub with_found : World → Swept → List Name → World
with_found w reply names = record w { found = w.found ++ names; swept = w.swept + reply.looked; phase = settled w.phase reply.stop }

-- a removed object at another stage, or with another number of polls
abbrev pub removal_with : World → Name → (Removal → Removal) → World
removal_with w n change = record w { removals = map {A = Removal} (λ r. if same_name n r.name then change r else r) w.removals }

abbrev pub at_stage : World → Name → Stage → World
at_stage w n stage = removal_with w n (λ r. record r { stage = stage })

abbrev pub polled : World → Name → ℕ → World
polled w n polls = removal_with w n (λ r. record r { polls = polls })

-- the members of the removed unit that begins with this name are released
abbrev pub released : World → Name → World
released w n = record w { removals = filter (λ r. not (has (members (filter (begins_with n) w.last_removed)) r.name)) w.removals }

-- the last member of a unit leaves it, and is a unit by itself
abbrev pub with_loose : World → Name → World
with_loose w n = record w { units = flat_map (parted n) w.units }

-- the world after an entry
abbrev pub next_world : Marks → World → Pass → Act → World
next_world m w p (act.FrameOpen phase) = record w { opened = p ∷ w.opened }
next_world m w p act.SliceOpen = record w { opened = p ∷ w.opened }
next_world m w p act.FrameClose = record w { opened = filter (λ q. not (same_pass p q)) w.opened }
next_world m w p (act.Slice budget reply) = record w { opened = filter (λ q. not (same_pass p q)) w.opened }
next_world m w p (act.Make kinds first) = with_unit w (lane_of p) kinds first
next_world m w p (act.WriteRef at slot to old) = record w { cell = set_name w.cell at (set_at (w.cell at) slot to) }
next_world m w p (act.WritePlain at slot value old) = record w { plain = set_name w.plain at (set_at (w.plain at) slot value) }
next_world m w p (act.Root at on old) = record w { rooted = set_name w.rooted at on }
next_world m w p (act.SetStrong h to old) = record w { strong = set_at w.strong (lane_of p) (set_at (w.strong (lane_of p)) h to) }
next_world m w p (act.WeakOf at got) = with_pair w (lane_of p) at got
next_world m w p (act.BeginGc begin.Started) = record w { phase = Marking }
next_world m w p (act.CommitGc commit.Done) = committed m w
next_world m w p (act.Sweep budget reply names) = with_found w reply names
next_world m w p (act.Begun of) = at_stage w of Begun
next_world m w p (act.Asked of poll answer) = polled w of poll
next_world m w p (act.Finished of) = at_stage w of Finished
next_world m w p (act.Released of) = released w of
next_world m w p (act.Loose of) = with_loose w of
next_world m w p (act.MarkGarbage at old) = record w { garbage = set_name w.garbage at true }
next_world m w p _ = w

-- ---- what is beside it; w is the world after the entry, here and below

-- a collection that starts forgets the marks of the last one
abbrev pub next_marks : Marks → World → Pass → Act → Marks
next_marks m w p (act.BeginGc begin.Started) = record { kept = []; fresh = []; scanned = []; moments = w ∷ [] }
next_marks m w p (act.Kept of) = record m { kept = of ∷ m.kept; moments = w ∷ m.moments }
next_marks m w p (act.Make kinds first) = record m { fresh = names_from (lane_of p) first kinds ++ m.fresh; moments = w ∷ m.moments }
next_marks m w p (act.Scanned of) = record m { scanned = of ∷ m.scanned; moments = w ∷ m.moments }
-- no unit is taken apart while a collection marks; outside that what lives counts as marked, and so do the parts of a unit
next_marks m w p (act.Loose of) = record m { fresh = members w.units ++ m.fresh; moments = w ∷ m.moments }
next_marks m w p _ = record m { moments = w ∷ m.moments }

-- the objects that a lane's entry gives to its frame
abbrev pub given : ℕ → Act → List Name
given lane (act.Make kinds first) = names_from lane first kinds
given lane (act.ReadRef at slot got) = option_to_list got
given lane (act.WriteRef at slot to old) = option_to_list old
given lane (act.SetStrong h to old) = option_to_list old
given lane (act.GetStrong h got) = option_to_list got
given lane (act.Resolve pair got) = option_to_list got
given lane _ = []

-- the unit that is being taken apart is that of the first member that leaves it
abbrev pub broken_by : World → List Name → Name → List Name
broken_by before [] n = unit_of before n
broken_by before (first ∷ rest) n = first ∷ rest

-- the frame of the lane that acts, between the world before and the world after
abbrev pub next_frame : ℕ → World → World → Frame → Act → Frame
next_frame lane before w f (act.FrameOpen phase) = no_frame
next_frame lane before w f act.FrameClose = no_frame
next_frame lane before w f (act.Kept of) = record f { owed = Some of; shaded = true }
next_frame lane before w f (act.Loose of) = record f { broken = broken_by before f.broken of; loosened = of ∷ f.loosened }
next_frame lane before w f a = record f { held = flat_map (unit_of w) (given lane a) ++ f.held; owed = None; broken = []; loosened = [] }

abbrev pub next_frames : (ℕ → Frame) → World → World → Pass → Act → ℕ → Frame
next_frames frames before w (Lane lane) a = set_at frames lane (next_frame lane before w (frames lane) a)
next_frames frames before w _ a = frames

abbrev pub is_kept : Act → Bool
is_kept (act.Kept of) = true
is_kept _ = false

-- the slice of the marker that acts; shading says whether the collector's last entry is a note that a unit is kept
abbrev pub own_slice : Bool → World → Slicing → Act → Slicing
own_slice shading w s act.SliceOpen = record { scanned = []; moments = []; amid_begin = shading }
own_slice shading w s (act.Scanned of) = record s { scanned = unit_of w of ∷ s.scanned }
own_slice shading w s _ = s

abbrev pub own_slices : Bool → World → (ℕ → Slicing) → Pass → Act → ℕ → Slicing
own_slices shading w slices (Marker marker) a = set_at slices marker (own_slice shading w (slices marker) a)
own_slices shading w slices _ a = slices

-- each slice sees the world after each entry
abbrev pub seen : World → Bool → Slicing → Slicing
seen w keeps s = record s { moments = w ∷ s.moments; amid_begin = s.amid_begin || keeps }

abbrev pub next_slices : Bool → World → (ℕ → Slicing) → Pass → Act → ℕ → Slicing
next_slices shading w slices p a marker = seen w (same_pass p Collector && is_kept a) (own_slices shading w slices p a marker)

-- the collector after an entry of its own; the steps of destruction are no answers
abbrev pub own_collecting : Collecting → Act → Collecting
own_collecting c (act.BeginGc begin.Started) = record { started = true; shading = false; stored = false; steps = 0; asked = None; agreed = None }
own_collecting c (act.Kept of) = record { started = c.started; shading = true; stored = false; steps = 0; asked = c.asked; agreed = None }
own_collecting c (act.Begun of) = record { started = c.started; shading = false; stored = false; steps = c.steps + 1; asked = c.asked; agreed = None }
own_collecting c (act.Asked of poll answer) = record { started = c.started; shading = false; stored = false; steps = c.steps + 1; asked = Some of; agreed = if answer then Some of else None }
own_collecting c (act.Finished of) = record { started = c.started; shading = false; stored = false; steps = c.steps; asked = c.asked; agreed = None }
own_collecting c (act.Released of) = record { started = c.started; shading = false; stored = false; steps = c.steps + 1; asked = c.asked; agreed = None }
own_collecting c _ = record { started = false; shading = false; stored = false; steps = 0; asked = c.asked; agreed = None }

-- a lane closes a frame that has marked a unit, or a marker closes a slice
abbrev pub closes_marked : (ℕ → Frame) → Pass → Act → Bool
closes_marked frames (Lane lane) act.FrameClose = (frames lane).shaded
closes_marked frames (Marker marker) (act.Slice budget reply) = true
closes_marked frames _ _ = false

abbrev pub next_collecting : (ℕ → Frame) → Collecting → Pass → Act → Collecting
next_collecting frames c Collector a = own_collecting c a
next_collecting frames c p a = record c { stored = c.stored || closes_marked frames p a }

-- ---- all of it

abbrev pub next_by : State → World → Pass → Act → State
next_by s w p a = record {
  world = w;
  marks = next_marks s.marks w p a;
  frames = next_frames s.frames s.world w p a;
  slices = next_slices s.collector.shading w s.slices p a;
  collector = next_collecting s.frames s.collector p a;
}

-- what an entry leaves
abbrev pub next : State → Entry → State
next s e = next_by s (next_world s.marks s.world e.pass e.act) e.pass e.act

-- what entries in a row leave
abbrev pub run : State → List Entry → State
run s [] = s
run s (e ∷ entries) = run (next s e) entries
