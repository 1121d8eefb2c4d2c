-- What a lane may do.
use Rattle.std.specs.Prelude.{◌≡◌, ◌≢◌, ℕ, ◌+◌, ◌-◌, ◌*◌, ◌<◌, ◌≤◌, nat_le, nat_lt, Bool, true, false, not, ◌&&◌, List, [], ◌∷◌, length, Option, Some, None, IsTrue, IfSome, MatchOption, ⊤}
use Rattle.std.specs.List.{list_all}
use Rattle.world_model.specs.Types.{Name, Weak, Kind, Ready, Marking, Lane, Act}
use Rattle.world_model.specs.Types.act
use Rattle.world_model.specs.Types.ready
use Rattle.world_model.specs.Sizes.{Sizes, item_count}
use Rattle.world_model.specs.NameLists.{has, ends_with}
use Rattle.world_model.specs.World.{World, unit_of, in_world, is_open, made, refs_of, plain_of, free, pair_of, drawn, resolved}
use Rattle.world_model.specs.State.{State, Frame, Holds, IsMarked, is_marked}

-- ---- marking, and the write barrier

-- a unit may be marked while a collection marks, if it lives and is white
pub record IsWhite (s : State) (of : Name) : Type 0 where
  pub marking : s.world.phase ≡ Marking
  pub living : IsTrue (in_world s.world of)
  pub unmarked : is_marked s.marks (unit_of s.world of) ≡ false

-- a lane may mark the unit of an object that it holds
pub record LaneMarks (s : State) (lane : ℕ) (of : Name) : Type 0 where
  pub white : IsWhite s of
  pub held : Holds s lane of

-- The insertion barrier (Dijkstra, Lamport, Martin, Scholten, Steffens 1978): while a collection marks, what is stored is marked already.
abbrev pub IsShaded : State → Option Name → Type 0
IsShaded s to = s.world.phase ≡ Marking → IfSome to (λ n. IsMarked s n)

-- a lane that marked a unit by its last entry now stores an object of that unit
abbrev pub PaysFor : World → Option Name → Act → Type 0
PaysFor w None a = ⊤
PaysFor w (Some of) (act.WriteRef at slot (Some to) old) = IsTrue (has (unit_of w of) to)
PaysFor w (Some of) (act.SetStrong h (Some to) old) = IsTrue (has (unit_of w of) to)
PaysFor w (Some of) (act.Root at true old) = IsTrue (has (unit_of w of) at)
PaysFor w (Some of) _ = ⊥

-- the entry does what the notes of the lane's call have begun
abbrev pub Continues : World → Frame → Act → Type 0
Continues w f a = PaysFor w f.owed a

-- a lane that has begun to take a unit apart takes more of its members out, or ends that, and does nothing else
abbrev pub PartsOn : List Name → Act → Type 0
PartsOn [] a = ⊤
PartsOn (first ∷ rest) (act.Loose of) = IsTrue (has (first ∷ rest) of)
PartsOn (first ∷ rest) (act.Dissolve at count) = ⊤
PartsOn (first ∷ rest) _ = ⊥

-- ---- frames and places

pub record InOpenFrame (s : State) (lane : ℕ) (a : Act) : Type 0 where
  pub opened : IsTrue (is_open s.world (Lane lane))
  pub continues : Continues s.world (s.frames lane) a
  pub parts : PartsOn (s.frames lane).broken a

-- an entry of a lane stands in its open frame, and FrameOpen outside one
abbrev pub InFrame : State → ℕ → Act → Type 0
InFrame s lane (act.FrameOpen phase) = is_open s.world (Lane lane) ≡ false
InFrame s lane a = InOpenFrame s lane a

-- a reference slot of a held object
pub record IsRefSlot (s : State) (lane : ℕ) (at : Name) (slot : ℕ) : Type 0 where
  pub held : Holds s lane at
  pub in_range : slot < refs_of s.world at

-- a plain slot of a held object
pub record IsPlainSlot (z : Sizes) (s : State) (lane : ℕ) (at : Name) (slot : ℕ) : Type 0 where
  pub held : Holds s lane at
  pub first : z.slots - plain_of s.world at ≤ slot
  pub last : slot < z.slots

-- ---- making

abbrev pub is_readiness : Ready → Bool
is_readiness (ready.After polls) = nat_le polls 100
is_readiness ready.Never = true

-- a kind that an object of this shape may have
abbrev pub is_lawful : Sizes → Kind → Bool
is_lawful z kind = nat_lt kind.class.0 4096 && nat_le (kind.refs + kind.plain) z.slots && is_readiness kind.ready

-- a lane makes a unit under its next names
pub record Makes (z : Sizes) (s : State) (lane : ℕ) (kinds : List Kind) (first : ℕ) : Type 0 where
  pub some : 1 ≤ length kinds
  pub few : length kinds ≤ 1024
  pub lawful : IsTrue (list_all (is_lawful z) kinds)
  pub next : first ≡ made s.world lane + 1
  pub names : made s.world lane + length kinds ≤ z.names
  pub room : length kinds ≤ free z s.world lane

-- too few names are left
pub record LacksNames (z : Sizes) (s : State) (lane asked left : ℕ) : Type 0 where
  pub rest : left ≡ z.names - made s.world lane
  pub short : left < asked

-- enough names are left, but too few indexes are free
pub record LacksRoom (z : Sizes) (s : State) (lane asked free_now : ℕ) : Type 0 where
  pub names : asked ≤ z.names - made s.world lane
  pub rest : free_now ≡ free z s.world lane
  pub short : free_now < asked

-- ---- storing

pub record WritesRef (s : State) (lane : ℕ) (at : Name) (slot : ℕ) (to old : Option Name) : Type 0 where
  pub place : IsRefSlot s lane at slot
  pub held : IfSome to (λ n. Holds s lane n)
  pub was : old ≡ s.world.cell at slot
  pub shaded : IsShaded s to

pub record SetsRoot (s : State) (lane : ℕ) (at : Name) (on old : Bool) : Type 0 where
  pub held : Holds s lane at
  pub was : old ≡ s.world.rooted at
  pub shaded : IsTrue on → IsShaded s (Some at)

pub record SetsStrong (z : Sizes) (s : State) (lane h : ℕ) (to old : Option Name) : Type 0 where
  pub number : h < z.strong
  pub held : IfSome to (λ n. Holds s lane n)
  pub was : old ≡ s.world.strong lane h
  pub shaded : IsShaded s to

-- ---- weak pointers

-- a new pair: the lane's next serial, with an index
pub record DrawsPair (z : Sizes) (w : World) (lane : ℕ) (got : Weak) : Type 0 where
  pub left : drawn w lane < z.serials
  pub serial : got.serial ≡ (drawn w lane + 1) * 16 + lane
  pub index : got.index < item_count z

-- the object's pair, or a new one where it has none
pub record GetsPair (z : Sizes) (s : State) (lane : ℕ) (at : Name) (got : Weak) : Type 0 where
  pub held : Holds s lane at
  pub pair : MatchOption (pair_of s.world at) (DrawsPair z s.world lane got) (λ pair. got ≡ pair)

-- the object has no pair, and the lane has drawn all its serials
pub record LacksSerials (z : Sizes) (s : State) (lane : ℕ) (at : Name) (count : ℕ) : Type 0 where
  pub held : Holds s lane at
  pub none : pair_of s.world at ≡ None
  pub all : count ≡ drawn s.world lane
  pub spent : count ≡ z.serials

-- ---- taking a unit apart

-- outside marking a lane takes the last member out of a unit of two or more of its own
pub record Loosens (s : State) (lane : ℕ) (of : Name) : Type 0 where
  pub held : Holds s lane of
  pub own : of.lane ≡ lane
  pub unmarked : s.world.phase ≢ Marking
  pub last : IsTrue (ends_with of (unit_of s.world of))

-- of the unit that was taken apart, so many members large, all but the first have left it, from the last to the second; of a unit of one there is none
abbrev pub AreLoose : World → Name → List Name → List Name → ℕ → Type 0
AreLoose w at [] loosened count = (unit_of w at ≡ at ∷ []) × (count ≡ 1)
AreLoose w at (first ∷ rest) loosened count = IsTrue (has (first ∷ rest) at) × (loosened ≡ rest) × (count ≡ length (first ∷ rest))

-- a lane has taken a unit of its own apart
pub record Dissolves (s : State) (lane : ℕ) (at : Name) (count : ℕ) : Type 0 where
  pub held : Holds s lane at
  pub own : at.lane ≡ lane
  pub unmarked : s.world.phase ≢ Marking
  pub loose : AreLoose s.world at (s.frames lane).broken (s.frames lane).loosened count

-- while a collection marks no unit is taken apart
pub record Refuses (s : State) (lane : ℕ) (at : Name) : Type 0 where
  pub held : Holds s lane at
  pub own : at.lane ≡ lane
  pub marking : s.world.phase ≡ Marking

-- ---- all of it

-- what a lane may do, and nothing else
abbrev pub LaneMay : Sizes → State → ℕ → Act → Type 0
LaneMay z s lane (act.FrameOpen phase) = phase ≡ s.world.phase
LaneMay z s lane act.FrameClose = ⊤
LaneMay z s lane (act.Make kinds first) = Makes z s lane kinds first
LaneMay z s lane (act.Full asked free_now) = LacksRoom z s lane asked free_now
LaneMay z s lane (act.NamesSpent asked left) = LacksNames z s lane asked left
LaneMay z s lane (act.ReadRef at slot got) = IsRefSlot s lane at slot × (got ≡ s.world.cell at slot)
LaneMay z s lane (act.WriteRef at slot to old) = WritesRef s lane at slot to old
LaneMay z s lane (act.ReadPlain at slot got) = IsPlainSlot z s lane at slot × (got ≡ s.world.plain at slot)
LaneMay z s lane (act.WritePlain at slot value old) = IsPlainSlot z s lane at slot × (old ≡ s.world.plain at slot)
LaneMay z s lane (act.Root at on old) = SetsRoot s lane at on old
LaneMay z s lane (act.SetStrong h to old) = SetsStrong z s lane h to old
LaneMay z s lane (act.GetStrong h got) = (h < z.strong) × (got ≡ s.world.strong lane h)
LaneMay z s lane (act.WeakOf at got) = GetsPair z s lane at got
LaneMay z s lane (act.NoSerial at count) = LacksSerials z s lane at count
LaneMay z s lane (act.Resolve pair got) = got ≡ resolved s.world pair
LaneMay z s lane (act.Kept of) = LaneMarks s lane of
LaneMay z s lane (act.Loose of) = Loosens s lane of
LaneMay z s lane (act.Dissolve at count) = Dissolves s lane at count
LaneMay z s lane (act.NoDissolve at) = Refuses s lane at
LaneMay z s lane (act.MarkGarbage at old) = Holds s lane at × (old ≡ s.world.garbage at)
LaneMay z s lane (act.IsValid at valid) = Holds s lane at × (valid ≡ not (s.world.garbage at))
LaneMay z s lane _ = ⊥
