-- What a whole script answers, as a function of its classes and lines: without pieces, slices, notes or steps.
-- A script is whole where its collections are whole ones; as the language stands, each script is.
-- A new part of the world is added in `Scene`, in `first_scene` and, for the proofs, in `scene_of` (proofs/Removing); a new command is one line of `lane_outcome` or `gc_outcome`.
use Rattle.std.specs.Prelude.{ℕ, ◌+◌, ◌-◌, ◌==◌, nat_lt, Bool, true, false, not, ◌&&◌, ◌||◌, ◌%◌, if◌then◌else◌, List, [], ◌∷◌, ◌++◌, length, filter, Option, Some, None, Result, Ok, Err}
use Rattle.std.specs.List.{list_any, count_by, range_with_len}
use Rattle.world_model.specs.NameLists.{same_name, same_pass, has, members, names_from, set_at, set_name}
use Rattle.world_model.specs.Sizes.{Sizes}
use Rattle.class_schema.specs.Table.{kind_of}
use Rattle.world_model.specs.Reach.{Graph}
use Rattle.world_model.specs.Reached as reach
use Rattle.world_play.specs.Header.{Header}
use Rattle.world_play.specs.Spots.{Element, value_of, set_spot, get_spot, int_spot, weak_spot, told_object}
use Rattle.world_play.specs.Types.{Name, Kind, Idle, Pass, Lane, Reply, Line, Cmd, LaneCmd, GcCmd}
use Rattle.world_play.specs.Types.reply
use Rattle.world_play.specs.Types.cmd
use Rattle.world_play.specs.Types.lane_cmd
use Rattle.world_play.specs.Types.gc_cmd
use Rattle.world_play.specs.Text.{in_name_order}
use Rattle.world_play.specs.Bindings.{bound, members_bound, weak_bound, ended}
use Rattle.world_play.specs.Pairs.{stored}
use Rattle.world_play.specs.Values.{Value, Nothing, Number, Own, Forged, number_of, pair_of, is_pair, same_value, Seen, first_seen}
use Rattle.world_play.specs.Lanes.{kinds_of, object_of}
use Rattle.world_play.specs.Plays.{text}

-- what the lines of a whole script see of the world
pub record Scene : Type 0 where
  -- the kinds of the objects that each lane has made, in order
  pub kinds : ℕ → List Kind
  -- what the reference cell of an object at a slot names
  pub cell : Name → ℕ → Option Name
  -- the units of the objects that live, each the list of its members
  pub units : List (List Name)
  -- the root set: the rooted objects, and the strong pointers by lane and number
  pub rooted : Name → Bool
  pub strong : ℕ → ℕ → Option Name
  -- the objects that have a weak pointer, and how many serials each lane has drawn
  pub paired : Name → Bool
  pub drawn : ℕ → ℕ
  -- the lanes with an open frame
  pub opened : List Pass

abbrev pub first_scene : Scene
first_scene = record { kinds = λ lane. []; cell = λ n slot. None; units = []; rooted = λ n. false; strong = λ lane number. None; paired = λ n. false; drawn = λ lane. 0; opened = [] }

-- ---- a lane makes objects

-- how many objects a lane has made, how many names it has left, and how many of its indexes are free
abbrev pub made : Scene → ℕ → ℕ
made c lane = length (c.kinds lane)

abbrev pub names_left : Sizes → Scene → ℕ → ℕ
names_left z c lane = z.names - made c lane

abbrev pub free : Sizes → Scene → ℕ → ℕ
free z c lane = z.quota - count_by (λ n. n.lane == lane) (members c.units)

-- the name of the next object of a lane
abbrev pub next_name : Scene → ℕ → Name
next_name c lane = record { lane = lane; count = made c lane + 1 }

-- what a lane is told that makes a unit of so many objects: names that are left are looked for first, and free indexes then
abbrev pub make_reply : Sizes → Scene → ℕ → ℕ → (Name → Reply) → Reply
make_reply z c lane count told = if nat_lt (names_left z c lane) count then reply.NamesSpent lane (names_left z c lane)
    else (if nat_lt (free z c lane) count then reply.Full lane (free z c lane) else told (next_name c lane))

-- the objects that were made are one unit
abbrev pub with_made : Scene → ℕ → List Kind → Scene
with_made c lane kinds = record c { kinds = set_at c.kinds lane (c.kinds lane ++ kinds); units = c.units ++ names_from lane (made c lane + 1) kinds ∷ [] }

abbrev pub with_unit : Scene → ℕ → List Kind → Reply → Scene
with_unit c lane kinds (reply.New l n) = with_made c lane kinds
with_unit c lane kinds (reply.Cluster l first count) = with_made c lane kinds
with_unit c lane kinds r = c

-- ---- an object joins or leaves the root set

abbrev pub root_reply : Scene → ℕ → Option Name → Reply
root_reply c lane None = reply.NoObject lane
root_reply c lane (Some n) = reply.WasRoot lane (c.rooted n)

abbrev pub with_root : Scene → Option Name → Bool → Scene
with_root c None on = c
with_root c (Some n) on = record c { rooted = set_name c.rooted n on }

-- ---- cells

-- what is told of an element, or why there is none
abbrev pub on_element : (Element → Reply) → Result Element Reply → Reply
on_element told (Ok e) = told e
on_element told (Err r) = r

-- what is left where there is an element
abbrev pub where_element : {A : Type 0} → A → (Element → A) → Result Element Reply → A
where_element before left (Ok e) = left e
where_element before left (Err r) = before

-- an object, or none, stands in a reference cell
abbrev pub with_cell : Scene → Option Name → Element → Scene
with_cell c to e = record c { cell = set_name c.cell e.at (set_at (c.cell e.at) e.slot to) }

-- a number or a pair stands in a plain cell
abbrev pub with_plain : Seen → Value → Element → Seen
with_plain seen value e = record seen { plain = set_name seen.plain e.at (set_at (seen.plain e.at) e.slot value) }

-- the pair in an element; where there is no element, nothing
abbrev pub pair_at : Seen → Result Element Reply → Value
pair_at seen (Ok e) = pair_of (seen.plain e.at e.slot)
pair_at seen (Err r) = Nothing

-- ---- strong and weak pointers

-- an object, or none, stands in a strong pointer
abbrev pub with_strong : Scene → ℕ → ℕ → Option Name → Scene
with_strong c lane h to = record c { strong = set_at c.strong lane (set_at (c.strong lane) h to) }

-- an object has one weak pointer for all who ask; the lane that asks first draws a serial for it, if it has one left
abbrev pub weak_reply : Sizes → Scene → ℕ → Option Name → Reply
weak_reply z c lane None = reply.NoObject lane
weak_reply z c lane (Some n) = if c.paired n then reply.WeakMade lane n
    else (if nat_lt (c.drawn lane) z.serials then reply.WeakMade lane n else reply.SerialsSpent lane (c.drawn lane))

-- what a weak variable has after such a reply
abbrev pub weak_given : Reply → Value
weak_given (reply.WeakMade lane n) = Own n
weak_given r = Nothing

-- the object has a weak pointer, by a serial that the lane drew
abbrev pub with_pair : Scene → ℕ → Name → Scene
with_pair c lane n = record c { paired = set_name c.paired n true; drawn = set_at c.drawn lane (c.drawn lane + 1) }

abbrev pub with_weak : Scene → ℕ → Reply → Scene
with_weak c lane (reply.WeakMade l n) = if c.paired n then c else with_pair c lane n
with_weak c lane r = c

-- the object whose pair this is, while it lives
abbrev pub given : Scene → Value → Option Name
given c (Own n) = if list_any (λ u. has u n) c.units then Some n else None
given c value = None

-- ---- a whole collection

-- the units, the references and the root set
abbrev pub graph_of : Scene → Graph
graph_of c = record { units = c.units; cell = c.cell; rooted = c.rooted; strong = c.strong }

-- a strong pointer names the object
abbrev pub is_named_by : Name → Option Name → Bool
is_named_by n None = false
is_named_by n (Some to) = same_name n to

abbrev pub is_named : Sizes → Scene → Name → Bool
is_named z c n = list_any (λ lane. list_any (λ h. is_named_by n (c.strong lane h)) (range_with_len 0 z.strong)) (range_with_len 0 z.lanes)

-- a member of the unit is rooted, or a strong pointer names it
abbrev pub is_root : Sizes → Scene → List Name → Bool
is_root z c u = list_any (λ n. c.rooted n || is_named z c n) u

-- a unit is reached by a walk from a root unit
abbrev pub is_reached : Sizes → Scene → List Name → Bool
is_reached z c u = reach.is_reached z.slots (is_root z c) (graph_of c) u

-- the objects that no root reaches
abbrev pub unreached : Sizes → Scene → List Name
unreached z c = members (filter (λ u. not (is_reached z c u)) c.units)

-- a collection waits for open frames; else it removes what no root reaches, and as each class is ready when it is asked, all of it is destroyed and released
abbrev pub collection : List Pass → List Name → Reply
collection (p ∷ opened) gone = reply.Pending (length (p ∷ opened))
collection [] gone = reply.FullGc (length gone) 0 (in_name_order gone)

abbrev pub full_reply : Sizes → Scene → Reply
full_reply z c = collection c.opened (unreached z c)

abbrev pub collected : Sizes → Scene → Scene
collected z c = record c { units = filter (is_reached z c) c.units; rooted = λ n. c.rooted n && not (has (unreached z c) n) }

abbrev pub with_collection : Sizes → Scene → Reply → Scene
with_collection z c (reply.FullGc removed left names) = collected z c
with_collection z c r = c

-- ---- commands

-- what a command answers, and what it leaves
pub record Told : Type 0 where
  pub reply : Reply
  pub scene : Scene
  pub seen : Seen

-- a command that leaves this of variables and plain cells
abbrev pub answers : Seen → Reply → Scene → Told
answers seen r left = record { reply = r; scene = left; seen = seen }

-- a command that binds a variable to the object of its reply, or to none
abbrev pub binds : Seen → ℕ → ℕ → Reply → Scene → Told
binds seen lane var r left = answers (record seen { names = bound seen.names lane var (object_of r) }) r left

-- a command that gives a weak variable a value
abbrev pub weak_binds : Seen → ℕ → Value → Reply → Scene → Told
weak_binds seen weak value r left = answers (record seen { names = weak_bound seen.names weak value }) r left

abbrev pub lane_outcome : Sizes → Header → Scene → Seen → ℕ → LaneCmd → Told
lane_outcome z header c seen lane lane_cmd.Open = answers seen (reply.Opened lane Idle) (record c { opened = Lane lane ∷ c.opened })
lane_outcome z header c seen lane lane_cmd.Close =
    answers (record seen { names = ended seen.names lane }) (reply.Closed lane) (record c { opened = filter (λ q. not (same_pass (Lane lane) q)) c.opened })
lane_outcome z header c seen lane (lane_cmd.New var class) =
    let r = make_reply z c lane 1 (reply.New lane) in binds seen lane var r (with_unit c lane (kind_of header.classes class ∷ []) r)
lane_outcome z header c seen lane (lane_cmd.Cluster members) =
    let r = make_reply z c lane (length members) (λ first. reply.Cluster lane first (length members)) in
    answers (record seen { names = members_bound seen.names lane members (object_of r) }) r (with_unit c lane (kinds_of header members) r)
lane_outcome z header c seen lane (lane_cmd.Root var on) = answers seen (root_reply c lane (seen.names.objects lane var)) (with_root c (seen.names.objects lane var) on)
lane_outcome z header c seen lane (lane_cmd.Set spot to) =
    let e = set_spot header c.kinds lane (seen.names.objects lane) spot to in
    answers seen (on_element (λ e. reply.Was lane (c.cell e.at e.slot)) e) (where_element c (with_cell c (value_of (seen.names.objects lane) to)) e)
lane_outcome z header c seen lane (lane_cmd.Get var spot) =
    binds seen lane var (on_element (λ e. reply.Is lane (c.cell e.at e.slot)) (get_spot header c.kinds lane (seen.names.objects lane) spot)) c
lane_outcome z header c seen lane (lane_cmd.Put spot value) =
    let e = int_spot header c.kinds lane (seen.names.objects lane) spot in
    answers (where_element seen (with_plain seen (Number value)) e) (on_element (λ e. reply.WasNumber lane (number_of (seen.plain e.at e.slot))) e) c
lane_outcome z header c seen lane (lane_cmd.Take spot) =
    answers seen (on_element (λ e. reply.IsNumber lane (number_of (seen.plain e.at e.slot))) (int_spot header c.kinds lane (seen.names.objects lane) spot)) c
lane_outcome z header c seen lane (lane_cmd.Print var) = answers seen (told_object c.kinds lane (seen.names.objects lane var)) c
lane_outcome z header c seen lane (lane_cmd.Store spot weak) =
    let e = weak_spot header c.kinds lane (seen.names.objects lane) spot in
    answers (where_element seen (with_plain seen (stored Nothing seen.names.weaks weak)) e) (on_element (λ e. reply.WasWeak lane (is_pair (seen.plain e.at e.slot))) e) c
lane_outcome z header c seen lane (lane_cmd.Load weak spot) =
    let e = weak_spot header c.kinds lane (seen.names.objects lane) spot in
    weak_binds seen weak (pair_at seen e) (on_element (λ e. reply.IsWeak lane (is_pair (seen.plain e.at e.slot))) e) c
lane_outcome z header c seen lane (lane_cmd.Hold h to) = answers seen (reply.Was lane (c.strong lane h)) (with_strong c lane h (value_of (seen.names.objects lane) to))
lane_outcome z header c seen lane (lane_cmd.Held var h) = binds seen lane var (reply.Is lane (c.strong lane h)) c
lane_outcome z header c seen lane (lane_cmd.Weak weak var) =
    let r = weak_reply z c lane (seen.names.objects lane var) in weak_binds seen weak (weak_given r) r (with_weak c lane r)
lane_outcome z header c seen lane (lane_cmd.Resolve var weak) = binds seen lane var (reply.Is lane (given c (seen.names.weaks weak))) c
lane_outcome z header c seen lane (lane_cmd.Forge weak index) = weak_binds seen weak (Forged (index % 4294967296)) (reply.Forged lane) c
lane_outcome z header c seen lane (lane_cmd.Same left right) = answers seen (reply.Same lane (same_value (seen.names.weaks left) (seen.names.weaks right))) c

abbrev pub gc_outcome : Sizes → Scene → Seen → GcCmd → Told
gc_outcome z c seen gc_cmd.Full = let r = full_reply z c in answers seen r (with_collection z c r)

abbrev pub outcome_of : Sizes → Header → Scene → Seen → Cmd → Told
outcome_of z header c seen (cmd.Lane lane what) = lane_outcome z header c seen lane what
outcome_of z header c seen (cmd.Gc what) = gc_outcome z c seen what

-- ---- whole scripts

-- the replies to lines in order, from a scene and what is seen of variables and plain cells on
unfoldable pub replies_from : Sizes → Header → Scene → Seen → List Line → List Reply
replies_from z header c seen [] = []
replies_from z header c seen (l ∷ ls) =
    let one = outcome_of z header c seen l.cmd in
    one.reply ∷ replies_from z header one.scene one.seen ls

-- the outcome of a whole script
abbrev pub outcome : Sizes → Header → List Line → List ℕ
outcome z header lines = text header.classes.classes (replies_from z header first_scene first_seen lines)
