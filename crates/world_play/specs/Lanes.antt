-- What a command of a lane is: one relation of its entries, its reply and the variables that it leaves, given the state and the variables before.
use Rattle.std.specs.Prelude.{◌≡◌, ℕ, ◌⊎◌, List, [], ◌∷◌, length, map, Option, Some, None, Result, Ok, Err}
use Rattle.world_model.specs.State.{State}
use Rattle.world_model.specs.Calls.{by, CallOf}
use Rattle.world_model.specs.Engines.{act_of_refusal}
use Rattle.class_schema.specs.Table.{kind_of}
use Rattle.world_model.specs.NameLists.{same_weak}
use Rattle.world_play.specs.Types.{Name, Weak, Kind, CreateErr, Pass, Lane, Act, Entry, Reply, LaneCmd, Member}
use Rattle.world_play.specs.Types.act
use Rattle.world_play.specs.Types.create
use Rattle.world_play.specs.Types.reply
use Rattle.world_play.specs.Types.lane_cmd
use Rattle.world_play.specs.Header.{Header}
use Rattle.world_play.specs.Bindings.{Bindings, bound, members_bound, weak_bound, ended}
use Rattle.world_play.specs.Pairs.{no_pair, pair_in, has_serial, forged, stored}
use Rattle.world_play.specs.Spots.{Element, value_of, set_spot, get_spot, int_spot, weak_spot, told_object}
use Rattle.word_layout.specs.Values.{weak_word}

-- ---- entries and a reply

-- the piece is one solo call that this act closes
abbrev pub OneCall : State → Pass → Act → List Entry → Type 0
OneCall s p a piece = (acts : List Act) × CallOf s p a acts × (piece ≡ by p acts)

-- one solo call of a lane, whose closing act and reply have the same answer
abbrev pub Calls : {A : Type 0} → State → ℕ → (A → Act) → (A → Reply) → List Entry → Reply → Type 0
Calls {A} s lane closes tells piece r = (answer : A) × OneCall s (Lane lane) (closes answer) piece × (r ≡ tells answer)

-- no call, and this reply
abbrev pub Says : Reply → List Entry → Reply → Type 0
Says what piece r = (piece ≡ []) × (r ≡ what)

-- a call on the object of a variable; one that stands for none is told
abbrev pub OnObject : ℕ → Option Name → (Name → List Entry → Reply → Type 0) → List Entry → Reply → Type 0
OnObject lane None call piece r = Says (reply.NoObject lane) piece r
OnObject lane (Some n) call piece r = call n piece r

-- a call on the element that a spot stands for, or why there is none
abbrev pub OnElement : Result Element Reply → (Element → List Entry → Reply → Type 0) → List Entry → Reply → Type 0
OnElement (Err why) call piece r = Says why piece r
OnElement (Ok e) call piece r = call e piece r

-- why no object was made
abbrev pub no_room : ℕ → CreateErr → Reply
no_room lane (create.Full free) = reply.Full lane free
no_room lane (create.NamesSpent left) = reply.NamesSpent lane left

-- a unit of objects of these kinds was made, and so its first member is told, or it was refused
abbrev pub Makes : State → ℕ → List Kind → (Name → Reply) → List Entry → Reply → Type 0
Makes s lane kinds told piece r =
    Calls s lane (λ count. act.Make kinds count) (λ count. told (record { lane = lane; count = count })) piece r
    ⊎ Calls s lane (λ why. act_of_refusal (length kinds) why) (λ why. no_room lane why) piece r

-- the kinds of the members of a cluster
abbrev pub kinds_of : Header → List Member → List Kind
kinds_of header members = map (λ m. kind_of header.classes m.class) members

-- the weak pointer to the object of a variable was given, which is this pair, or refused; where it is refused, and where the variable stands for no object, the pair is the empty one
abbrev pub GivesPair : State → ℕ → Option Name → Weak → List Entry → Reply → Type 0
GivesPair s lane None pair piece r = Says (reply.NoObject lane) piece r × (pair ≡ no_pair)
GivesPair s lane (Some n) pair piece r =
    (OneCall s (Lane lane) (act.WeakOf n pair) piece × (r ≡ reply.WeakMade lane n))
    ⊎ (Calls s lane (λ count. act.NoSerial n count) (λ count. reply.SerialsSpent lane count) piece r × (pair ≡ no_pair))

-- the pair in an element was read; where there is no element, the pair is the empty one
abbrev pub ReadsPair : State → ℕ → Result Element Reply → Weak → List Entry → Reply → Type 0
ReadsPair s lane (Err why) pair piece r = Says why piece r × (pair ≡ no_pair)
ReadsPair s lane (Ok e) pair piece r =
    (got : ℕ) × OneCall s (Lane lane) (act.ReadPlain e.at e.slot got) piece × (r ≡ reply.IsWeak lane (has_serial pair)) × (pair ≡ pair_in got)

-- ---- commands

-- the object that a reply gives, of a cluster its first member
abbrev pub object_of : Reply → Option Name
object_of (reply.New lane n) = Some n
object_of (reply.Cluster lane first count) = Some first
object_of (reply.Is lane got) = got
object_of _ = None

-- from a state and these variables the command has these entries and this reply, and leaves those variables
abbrev pub LaneTurn : Header → State → Bindings → ℕ → LaneCmd → List Entry → Reply → Bindings → Type 0
LaneTurn header s names lane lane_cmd.Open piece r new =
    Calls s lane (λ phase. act.FrameOpen phase) (λ phase. reply.Opened lane phase) piece r × (new ≡ names)
LaneTurn header s names lane lane_cmd.Close piece r new =
    OneCall s (Lane lane) act.FrameClose piece × (r ≡ reply.Closed lane) × (new ≡ ended names lane)
LaneTurn header s names lane (lane_cmd.New var class) piece r new =
    Makes s lane (kind_of header.classes class ∷ []) (reply.New lane) piece r × (new ≡ bound names lane var (object_of r))
LaneTurn header s names lane (lane_cmd.Cluster members) piece r new =
    Makes s lane (kinds_of header members) (λ first. reply.Cluster lane first (length members)) piece r
    × (new ≡ members_bound names lane members (object_of r))
LaneTurn header s names lane (lane_cmd.Root var on) piece r new =
    OnObject lane (names.objects lane var) (λ n. Calls s lane (λ was. act.Root n on was) (λ was. reply.WasRoot lane was)) piece r × (new ≡ names)
LaneTurn header s names lane (lane_cmd.Set spot to) piece r new =
    OnElement (set_spot header s.world.kinds lane (names.objects lane) spot to)
    (λ e. Calls s lane (λ old. act.WriteRef e.at e.slot (value_of (names.objects lane) to) old) (λ old. reply.Was lane old)) piece r × (new ≡ names)
LaneTurn header s names lane (lane_cmd.Get var spot) piece r new =
    OnElement (get_spot header s.world.kinds lane (names.objects lane) spot)
    (λ e. Calls s lane (λ got. act.ReadRef e.at e.slot got) (λ got. reply.Is lane got)) piece r × (new ≡ bound names lane var (object_of r))
LaneTurn header s names lane (lane_cmd.Put spot value) piece r new =
    OnElement (int_spot header s.world.kinds lane (names.objects lane) spot)
    (λ e. Calls s lane (λ old. act.WritePlain e.at e.slot value old) (λ old. reply.WasNumber lane old)) piece r × (new ≡ names)
LaneTurn header s names lane (lane_cmd.Take spot) piece r new =
    OnElement (int_spot header s.world.kinds lane (names.objects lane) spot)
    (λ e. Calls s lane (λ got. act.ReadPlain e.at e.slot got) (λ got. reply.IsNumber lane got)) piece r × (new ≡ names)
LaneTurn header s names lane (lane_cmd.Print var) piece r new =
    Says (told_object s.world.kinds lane (names.objects lane var)) piece r × (new ≡ names)
LaneTurn header s names lane (lane_cmd.Hold h to) piece r new =
    Calls s lane (λ old. act.SetStrong h (value_of (names.objects lane) to) old) (λ old. reply.Was lane old) piece r × (new ≡ names)
LaneTurn header s names lane (lane_cmd.Held var h) piece r new =
    Calls s lane (λ got. act.GetStrong h got) (λ got. reply.Is lane got) piece r × (new ≡ bound names lane var (object_of r))
LaneTurn header s names lane (lane_cmd.Weak weak var) piece r new =
    (pair : Weak) × GivesPair s lane (names.objects lane var) pair piece r × (new ≡ weak_bound names weak pair)
LaneTurn header s names lane (lane_cmd.Resolve var weak) piece r new =
    Calls s lane (λ got. act.Resolve (names.weaks weak) got) (λ got. reply.Is lane got) piece r × (new ≡ bound names lane var (object_of r))
LaneTurn header s names lane (lane_cmd.Forge weak index) piece r new = Says (reply.Forged lane) piece r × (new ≡ weak_bound names weak (forged index))
LaneTurn header s names lane (lane_cmd.Same left right) piece r new =
    Says (reply.Same lane (same_weak (names.weaks left) (names.weaks right))) piece r × (new ≡ names)
LaneTurn header s names lane (lane_cmd.Store spot weak) piece r new =
    OnElement (weak_spot header s.world.kinds lane (names.objects lane) spot)
    (λ e. Calls s lane (λ old. act.WritePlain e.at e.slot (weak_word (stored no_pair names.weaks weak)) old) (λ old. reply.WasWeak lane (has_serial (pair_in old)))) piece r × (new ≡ names)
LaneTurn header s names lane (lane_cmd.Load weak spot) piece r new =
    (pair : Weak) × ReadsPair s lane (weak_spot header s.world.kinds lane (names.objects lane) spot) pair piece r × (new ≡ weak_bound names weak pair)
