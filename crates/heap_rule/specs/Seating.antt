-- How a seat is cut in two, and how two are made one.
use Rattle.std.specs.Prelude.{◌==◌, nat_le, Bool, false, not, if◌then◌else◌, List, [], ◌++◌, length, Option, Some, None}
use Rattle.std.specs.Int.{bit_at}
use Rattle.std.specs.List.{filter}
use Rattle.heap_rule.specs.Types.{Pass, PassSet, Lane, Marker, Collector, Entry, View}
use Rattle.heap_rule.specs.Counters.{counter_pass}
use Rattle.heap_rule.specs.Views.{has_pass, NoSlice, resting_collector}

-- whether a pass is one of these
abbrev pub in_set : PassSet → Pass → Bool
in_set set (Lane l) = bit_at set.lanes l == 1
in_set set (Marker m) = bit_at set.markers m == 1
in_set set Collector = set.collector

-- whether a counter is one of a pass that passes the test
abbrev pub counts_for : (Pass → Bool) → Option Pass → Bool
counts_for of None = false
counts_for of (Some p) = of p

-- what a view says of the passes that pass the test: their lanes and markers, the words that they alone change, and, with the collector, what that has. Front and references stay
abbrev pub view_for : (Pass → Bool) → View → View
view_for of v = record {
  passes = filter of v.passes;
  front = v.front;
  refs = v.refs;
  lanes = filter (λ d. of (Lane d.lane)) v.lanes;
  markers = filter (λ d. of (Marker d.marker)) v.markers;
  collector = if of Collector then v.collector else resting_collector;
  known = filter (λ k. of k.pass) v.known;
  late = filter (λ q. counts_for of (counter_pass q)) v.late;
  memos = filter (λ m. of (Lane m.lane)) v.memos;
}

-- a new seat gets these passes, and the old one keeps the others
abbrev pub dealt : PassSet → View → View
dealt set v = view_for (in_set set) v

abbrev pub kept : PassSet → View → View
kept set v = view_for (λ p. not (in_set set p)) v

-- of two beginnings of one history, the longer one
abbrev pub longer : List Entry → List Entry → List Entry
longer xs ys = if nat_le (length ys) (length xs) then xs else ys

-- two seats as one: it has the passes of both, and has seen what either has. What it knows of a pass is what the seat knew that had it; but that the gate is clean since the collector cleared it, it does not know
abbrev pub joined : View → View → View
joined v w =
    let a = view_for (has_pass v.passes) v in
    let b = view_for (has_pass w.passes) w in
    record {
      passes = v.passes ++ w.passes;
      front = longer v.front w.front;
      refs = v.refs ++ w.refs;
      lanes = a.lanes ++ b.lanes;
      markers = a.markers ++ b.markers;
      collector = record (if has_pass v.passes Collector then v.collector else w.collector) { clean = false };
      known = a.known ++ b.known;
      late = a.late ++ b.late;
      memos = a.memos ++ b.memos;
    }

-- what is left of the seat that was taken in
abbrev pub spent : View
spent = record { passes = []; front = []; refs = []; lanes = []; markers = []; collector = resting_collector; known = []; late = []; memos = [] }

-- two seats may be made one while no marker of either has its slice open
pub record MayJoin (v w : View) : Type 0 where
  pub left : NoSlice v
  pub right : NoSlice w
