-- What is garbage decides nothing but what weak pointers give.
use Rattle.std.proofs.Common.{◌≡◌, ℕ, refl, Bool, true, false, List, Option, Some, None, MatchOption}
use Rattle.world_model.specs.Types.{Name, Begin, Commit, Swept, SweepStop, Purged, Marked, MarkStop, Weak, Pass, Lane, Marker, Collector, Act}
use Rattle.world_model.specs.Types.act
use Rattle.world_model.specs.Types.begin
use Rattle.world_model.specs.Types.commit
use Rattle.world_model.specs.Types.sweep
use Rattle.world_model.specs.Types.stop
use Rattle.world_model.specs.Types.purge
use Rattle.world_model.specs.Sizes.{Sizes}
use Rattle.world_model.specs.World.{pair_of}
use Rattle.world_model.specs.State.{State}
use Rattle.world_model.specs.Next.{next}
use Rattle.world_model.specs.LaneSteps.{IsWhite, InOpenFrame, InFrame, IsRefSlot, IsPlainSlot, DrawsPair, LaneMay}
use Rattle.world_model.specs.MarkerSteps.{InSlice, MarkerMay, MayStop}
use Rattle.world_model.specs.CollectorSteps.{BeginMay, CommitMay, IsIdle, Sweeps, SweepMay, PurgeMay, CollectorMay}
use Rattle.world_model.specs.Histories.{MayBy, state_of}
use Rattle.world_model.specs.Follows.{is_of_garbage, SameButGarbage, with_garbage, MarksChangeNothing, GarbageDecidesNothing}
use Rattle.world_model.proofs.Inductions.{one_more}

-- ---- marking as garbage changes nothing else

same_by : (s : State) (p : Pass) (a : Act) → is_of_garbage a ≡ true → SameButGarbage s (next s (record { pass = p; act = a }))
same_by s p (act.MarkGarbage at old) is = record { world = refl; kept = refl; fresh = refl; scanned = refl }
same_by s p (act.IsValid at valid) is = record { world = refl; kept = refl; fresh = refl; scanned = refl }
same_by s p (act.Resolve pair got) is = record { world = refl; kept = refl; fresh = refl; scanned = refl }
same_by s p _ is = absurd cc

pub marks_change_nothing_holds : MarksChangeNothing
marks_change_nothing_holds z history e legal is = rw (one_more history e) (same_by (state_of history) e.pass e.act is)

-- ---- no other entry reads it

-- in an open frame
frame_apart : (s : State) (garbage : Name → Bool) (lane : ℕ) (a : Act) → InOpenFrame s lane a → InOpenFrame (with_garbage s garbage) lane a
frame_apart s garbage lane a h = record { opened = h.opened; continues = h.continues; parts = h.parts }

in_frame_apart : (s : State) (garbage : Name → Bool) (lane : ℕ) (a : Act) → InFrame s lane a → InFrame (with_garbage s garbage) lane a
in_frame_apart s garbage lane (act.FrameOpen phase) h = h
in_frame_apart s garbage lane a h = frame_apart s garbage lane a h

ref_apart : (s : State) (garbage : Name → Bool) (lane : ℕ) (at : Name) (slot : ℕ) → IsRefSlot s lane at slot → IsRefSlot (with_garbage s garbage) lane at slot
ref_apart s garbage lane at slot h = record { held = h.held; in_range = h.in_range }

plain_apart : (z : Sizes) (s : State) (garbage : Name → Bool) (lane : ℕ) (at : Name) (slot : ℕ) → IsPlainSlot z s lane at slot → IsPlainSlot z (with_garbage s garbage) lane at slot
plain_apart z s garbage lane at slot h = record { held = h.held; first = h.first; last = h.last }

white_apart : (s : State) (garbage : Name → Bool) (of : Name) → IsWhite s of → IsWhite (with_garbage s garbage) of
white_apart s garbage of h = record { marking = h.marking; living = h.living; unmarked = h.unmarked }

pair_apart : (z : Sizes) (s : State) (garbage : Name → Bool) (lane : ℕ) (got : Weak) (o : Option Weak) → MatchOption o (DrawsPair z s.world lane got) (λ pair. got ≡ pair)
    → MatchOption o (DrawsPair z (with_garbage s garbage).world lane got) (λ pair. got ≡ pair)
pair_apart z s garbage lane got None h = record { left = h.left; serial = h.serial; index = h.index }
pair_apart z s garbage lane got (Some pair) h = h

lane_apart : (z : Sizes) (s : State) (garbage : Name → Bool) (lane : ℕ) (a : Act) → is_of_garbage a ≡ false → LaneMay z s lane a → LaneMay z (with_garbage s garbage) lane a
lane_apart z s garbage lane (act.Make kinds first) not h = record { some = h.some; few = h.few; lawful = h.lawful; next = h.next; names = h.names; room = h.room }
lane_apart z s garbage lane (act.NamesSpent asked left) not h = record { rest = h.rest; short = h.short }
lane_apart z s garbage lane (act.Full asked free) not h = record { names = h.names; rest = h.rest; short = h.short }
lane_apart z s garbage lane (act.ReadRef at slot got) not h = (ref_apart s garbage lane at slot h.0, h.1)
lane_apart z s garbage lane (act.WriteRef at slot to old) not h = record { place = ref_apart s garbage lane at slot h.place; held = h.held; was = h.was; shaded = h.shaded }
lane_apart z s garbage lane (act.ReadPlain at slot got) not h = (plain_apart z s garbage lane at slot h.0, h.1)
lane_apart z s garbage lane (act.WritePlain at slot value old) not h = (plain_apart z s garbage lane at slot h.0, h.1)
lane_apart z s garbage lane (act.Root at on old) not h = record { held = h.held; was = h.was; shaded = h.shaded }
lane_apart z s garbage lane (act.SetStrong number to old) not h = record { number = h.number; held = h.held; was = h.was; shaded = h.shaded }
lane_apart z s garbage lane (act.WeakOf at got) not h = record { held = h.held; pair = pair_apart z s garbage lane got (pair_of s.world at) h.pair }
lane_apart z s garbage lane (act.NoSerial at count) not h = record { held = h.held; none = h.none; all = h.all; spent = h.spent }
lane_apart z s garbage lane (act.Kept of) not h = record { white = white_apart s garbage of h.white; held = h.held }
lane_apart z s garbage lane (act.Loose of) not h = record { held = h.held; own = h.own; unmarked = h.unmarked; last = h.last }
lane_apart z s garbage lane (act.Dissolve at count) not h = record { held = h.held; own = h.own; unmarked = h.unmarked; loose = h.loose }
lane_apart z s garbage lane (act.NoDissolve at) not h = record { held = h.held; own = h.own; marking = h.marking }
lane_apart z s garbage lane (act.MarkGarbage at old) not h = absurd cc
lane_apart z s garbage lane (act.IsValid at valid) not h = absurd cc
lane_apart z s garbage lane (act.Resolve pair got) not h = absurd cc
lane_apart z s garbage lane _ not h = h

in_slice_apart : (s : State) (garbage : Name → Bool) (marker : ℕ) (a : Act) → InSlice s marker a → InSlice (with_garbage s garbage) marker a
in_slice_apart s garbage marker act.SliceOpen h = h
in_slice_apart s garbage marker a h = h

stop_apart : (s : State) (garbage : Name → Bool) (marker budget : ℕ) (reply : Marked) (stop : MarkStop) → MayStop s marker budget reply stop → MayStop (with_garbage s garbage) marker budget reply stop
stop_apart s garbage marker budget reply stop.Spent h = h
stop_apart s garbage marker budget reply stop.Idle h = h

marker_apart : (s : State) (garbage : Name → Bool) (marker : ℕ) (a : Act) → MarkerMay s marker a → MarkerMay (with_garbage s garbage) marker a
marker_apart s garbage marker (act.Kept of) h = record { white = white_apart s garbage of h.white; from = h.from; unit = h.unit; grey = h.grey; refers = h.refers }
marker_apart s garbage marker (act.Scanned of) h = record { marking = h.marking; living = h.living; grey = h.grey; targets = h.targets }
marker_apart s garbage marker (act.Slice budget reply) h = record { scanned = h.scanned; within = h.within; stop = stop_apart s garbage marker budget reply reply.stop h.stop }
marker_apart s garbage marker _ h = h

idle_apart : (s : State) (garbage : Name → Bool) → IsIdle s → IsIdle (with_garbage s garbage)
idle_apart s garbage h = record { idle = h.idle; released = h.released }

begin_apart : (s : State) (garbage : Name → Bool) (reply : Begin) → BeginMay s reply → BeginMay (with_garbage s garbage) reply
begin_apart s garbage begin.Started h = (idle_apart s garbage h.0, h.1)
begin_apart s garbage (begin.Frames n) h = (idle_apart s garbage h.0, h.1)
begin_apart s garbage _ h = h

commit_apart : (s : State) (garbage : Name → Bool) (reply : Commit) → CommitMay s reply → CommitMay (with_garbage s garbage) reply
commit_apart s garbage commit.Done h = record { marking = h.marking; closed = h.closed; black = h.black; unreached = h.unreached }
commit_apart s garbage (commit.Unfinished word bits) h = record { marking = h.marking; some = h.some; few = h.few }
commit_apart s garbage _ h = h

sweeps_apart : (s : State) (garbage : Name → Bool) (budget : ℕ) (reply : Swept) (names : List Name) → Sweeps s budget reply names → Sweeps (with_garbage s garbage) budget reply names
sweeps_apart s garbage budget reply names h = record { gathering = h.gathering; within = h.within; count = h.count; looked = h.looked; different = h.different; removed = h.removed; new = h.new }

sweep_apart : (z : Sizes) (s : State) (garbage : Name → Bool) (budget : ℕ) (reply : Swept) (names : List Name) (stop : SweepStop)
    → SweepMay z s budget reply names stop → SweepMay z (with_garbage s garbage) budget reply names stop
sweep_apart z s garbage budget reply names sweep.More h = (sweeps_apart s garbage budget reply names h.0, h.1)
sweep_apart z s garbage budget reply names sweep.Settled h = (sweeps_apart s garbage budget reply names h.0, h.1, h.2)
sweep_apart z s garbage budget reply names (sweep.NotGathering phase) h = h

purge_apart : (s : State) (garbage : Name → Bool) (budget : ℕ) (reply : Purged) → PurgeMay s budget reply → PurgeMay (with_garbage s garbage) budget reply
purge_apart s garbage budget purge.Gathering h = h
purge_apart s garbage budget (purge.Ran steps left) h = record { gathered = h.gathered; ran = h.ran; within = h.within; rest = h.rest; early = h.early }

collector_apart : (z : Sizes) (s : State) (garbage : Name → Bool) (a : Act) → CollectorMay z s a → CollectorMay z (with_garbage s garbage) a
collector_apart z s garbage (act.BeginGc reply) h = begin_apart s garbage reply h
collector_apart z s garbage (act.Kept of) h = record { white = white_apart s garbage of h.white; started = h.started; root = h.root }
collector_apart z s garbage (act.CommitGc reply) h = commit_apart s garbage reply h
collector_apart z s garbage (act.Sweep budget reply names) h = sweep_apart z s garbage budget reply names reply.stop h
collector_apart z s garbage (act.Begun of) h = record { gathered = h.gathered; next = h.next }
collector_apart z s garbage (act.Asked of poll answer) h = record { gathered = h.gathered; begun = h.begun; waiting = h.waiting; next = h.next; number = h.number }
collector_apart z s garbage (act.Released of) h = record { gathered = h.gathered; begun = h.begun; next = h.next }
collector_apart z s garbage (act.PurgeGc budget reply) h = purge_apart s garbage budget reply h
collector_apart z s garbage _ h = h

may_apart : (z : Sizes) (s : State) (garbage : Name → Bool) (p : Pass) (a : Act) → is_of_garbage a ≡ false → MayBy z s p a → MayBy z (with_garbage s garbage) p a
may_apart z s garbage (Lane lane) a not h = record { in_range = h.in_range; frame = in_frame_apart s garbage lane a h.frame; may = lane_apart z s garbage lane a not h.may }
may_apart z s garbage (Marker marker) a not h = record { in_range = h.in_range; slice = in_slice_apart s garbage marker a h.slice; may = marker_apart s garbage marker a h.may }
may_apart z s garbage Collector a not h = record { finishes = h.finishes; may = collector_apart z s garbage a h.may }

left_apart : (s : State) (garbage : Name → Bool) (p : Pass) (a : Act) → is_of_garbage a ≡ false
    → SameButGarbage (next s (record { pass = p; act = a })) (next (with_garbage s garbage) (record { pass = p; act = a }))
left_apart s garbage p (act.MarkGarbage at old) not = absurd cc
left_apart s garbage p (act.BeginGc begin.Started) not = record { world = refl; kept = refl; fresh = refl; scanned = refl }
left_apart s garbage p (act.CommitGc commit.Done) not = record { world = refl; kept = refl; fresh = refl; scanned = refl }
left_apart s garbage p _ not = record { world = refl; kept = refl; fresh = refl; scanned = refl }

frames_apart : (s : State) (garbage : Name → Bool) (p : Pass) (a : Act) → is_of_garbage a ≡ false
    → (next (with_garbage s garbage) (record { pass = p; act = a })).frames ≡ (next s (record { pass = p; act = a })).frames
frames_apart s garbage p (act.MarkGarbage at old) not = absurd cc
frames_apart s garbage p (act.BeginGc begin.Started) not = refl
frames_apart s garbage p (act.CommitGc commit.Done) not = refl
frames_apart s garbage p _ not = refl

stays_apart : (s : State) (p : Pass) (a : Act) → is_of_garbage a ≡ false → (next s (record { pass = p; act = a })).world.garbage ≡ s.world.garbage
stays_apart s p (act.MarkGarbage at old) not = absurd cc
stays_apart s p (act.BeginGc begin.Started) not = refl
stays_apart s p (act.CommitGc commit.Done) not = refl
stays_apart s p _ not = refl

pub garbage_decides_nothing_holds : GarbageDecidesNothing
garbage_decides_nothing_holds z s e not garbage = record {
  may = (may_apart z s garbage e.pass e.act not, may_apart z (with_garbage s garbage) s.world.garbage e.pass e.act not);
  left = left_apart s garbage e.pass e.act not;
  frames = frames_apart s garbage e.pass e.act not;
  collector = refl;
  stays = stays_apart s e.pass e.act not;
}
