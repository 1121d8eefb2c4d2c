-- What a command of a lane needs, and what it leaves.
use Rattle.std.proofs.Common.{◌≡◌, ℕ, ◌-◌, zero, suc, length, ◌==◌, ◌<◌, ◌&&◌, map, get_or, Bool, true, false, not, ◌||◌, cond, List, [], ◌∷◌, ◌++◌, filter, refl, sym, ap, ◌∙◌, subst, arith, inl, inr, ◌⊎◌, Option, Some, None, Result, Ok, Err}
use Rattle.std.specs.Prelude.{nat_lt, slice_index, slice_get}
use Rattle.std.specs.List.{list_any, AllByRecursion, All}
use Rattle.std.proofs.lemmas.Bool.Decides.{nat_tests}
use Rattle.world_model.specs.NameLists.{same_pass, same_weak, set_at}
use Rattle.world_model.specs.World.{World, kind_of}
use Rattle.world_model.specs.State.{State}
use Rattle.world_model.specs.Next.{run}
use Rattle.world_model.specs.Calls.{by, CallOf, StoreEntries}
use Rattle.world_model.specs.Engines.{act_of_refusal}
use Rattle.world_model.proofs.ListFacts.{and_true}
use Rattle.class_schema.specs.Class.{Class}
use Rattle.class_schema.specs.Table as table
use Rattle.class_schema.specs.declared.field.FieldKind.{FieldKind}
use Rattle.level_script.specs.Operands.{fits_members}
use Rattle.world_play.specs.Header.{Header}
use Rattle.world_play.specs.Text.{HasText}
use Rattle.world_play.specs.Types.{Name, Ref, Weak, ClassId, Kind, CreateErr, Reply, Pass, Lane, Marker, Collector, Act, Entry, Cmd, LaneCmd, Member, Spot, Field}
use Rattle.world_play.specs.Types.act
use Rattle.world_play.specs.Types.create
use Rattle.world_play.specs.Types.reply
use Rattle.world_play.specs.Types.cmd
use Rattle.world_play.specs.Types.lane_cmd
use Rattle.world_play.specs.Bindings.{Bindings}
use Rattle.world_play.specs.Spots.{Kinds, Element, is_int, is_weak, field_of, kind_at, element_at, spot_at, may_refer, target_at, value_of, set_spot, get_spot, int_spot, weak_spot, told_kind, told_object}
use Rattle.class_schema.specs.Layout.{is_ref}
use Rattle.world_play.specs.Lanes.{Says, OnObject, OnElement, no_room, Makes, kinds_of, GivesPair, ReadsPair, object_of, LaneTurn}
use Rattle.world_play.specs.Pairs.{no_pair, pair_in, has_serial, stored}
use Rattle.word_layout.specs.Values.{weak_word}
use Rattle.world_play.specs.Laws.{LaneClass, HasClass}
use Rattle.world_play.specs.Plays.{frames_by, fits}
use Rattle.world_play.specs.Turns.{frames_of, AreMade}
use Rattle.world_play.specs.Variables.{Standing, HasVariable}
use Rattle.world_play.proofs.Members.{lists_more, IsKind, one_kind, members_kinds, member_at, members_fit}

-- ---- what a command that fits has

and_first : (a b : Bool) → (a && b) ≡ true → a ≡ true
and_first true b h = refl
and_first false b h = absurd cc

below : (m n : ℕ) → nat_lt m n ≡ true → m < n
below m n t = grind (arith, nat_tests, t)

-- the lane of a command that fits is there
pub fit_lane : (lane lanes count : ℕ) (b : Bool) → count ≡ lanes → (nat_lt lane lanes && b) ≡ true → lane < count
fit_lane lane lanes count b is h = let t : nat_lt lane lanes ≡ true = and_first (nat_lt lane lanes) b h in grind (arith, nat_tests, t, is)

-- a variable of such a lane is there
pub has_variable : (v : Standing) (lane lanes var : ℕ) (b : Bool) → length v.counts.lanes ≡ lanes → (nat_lt lane lanes && b) ≡ true → nat_lt var (slice_index v.counts.lanes lane) ≡ true → HasVariable v lane var
has_variable v lane lanes var b count h t = record { lane_there = fit_lane lane lanes (length v.counts.lanes) b count h; var_there = below var (slice_index v.counts.lanes lane) t }

-- the second of three tests
pub second : (a b c : Bool) → ((a && b) && c) ≡ true → b ≡ true
second a b c h = (and_true a b (and_first (a && b) c h)).1

-- so are the members of a cluster
pub cluster_fits : (lanes : ℕ) (vars : List ℕ) (header : Header) (opened : ℕ → Bool) (lane : ℕ) (members : List Member) → fits lanes vars header opened (cmd.Lane lane (lane_cmd.Cluster members)) ≡ true
    → fits_members (slice_index vars lane) (length header.classes.classes) members ≡ true
cluster_fits lanes vars header opened lane members h =
    (and_true (opened lane) (fits_members (slice_index vars lane) (length header.classes.classes) members) (and_true (nat_lt lane lanes) _ h).1).1

-- and their variables
pub cluster_variables : (v : Standing) (lane lanes classes : ℕ) (members : List Member) (b : Bool) → length v.counts.lanes ≡ lanes → (nat_lt lane lanes && b) ≡ true
    → fits_members (slice_index v.counts.lanes lane) classes members ≡ true → All (λ m. HasVariable v lane m.var) members
cluster_variables v lane lanes classes members b count there fit k d lt =
    has_variable v lane lanes (get_or members k d).var b count there (member_at (slice_index v.counts.lanes lane) classes members fit k d lt).0

-- the class of a command that fits is there
fit_class : (lanes : ℕ) (vars : List ℕ) (header : Header) (opened : ℕ → Bool) (lane : ℕ) (what : LaneCmd) → fits lanes vars header opened (cmd.Lane lane what) ≡ true → LaneClass header what
fit_class lanes vars header opened lane (lane_cmd.New var class) h =
    let parts = and_true (nat_lt lane lanes) _ h in
    below class.0 (length header.classes.classes) (and_true (opened lane && nat_lt var (slice_index vars lane)) (nat_lt class.0 (length header.classes.classes)) parts.1).1
fit_class lanes vars header opened lane (lane_cmd.Cluster members) h =
    members_fit (slice_index vars lane) (length header.classes.classes) members (cluster_fits lanes vars header opened lane members h)
fit_class lanes vars header opened lane what h = tt

pub fits_class : (lanes : ℕ) (vars : List ℕ) (header : Header) (opened : ℕ → Bool) (what : Cmd) → fits lanes vars header opened what ≡ true → HasClass header what
fits_class lanes vars header opened (cmd.Lane lane what) h = fit_class lanes vars header opened lane what h
fits_class lanes vars header opened (cmd.Gc what) h = tt

-- ---- the kinds of the table

-- the objects that were made stay of the kinds of the table where none is made
pub made_on : (header : Header) (old new : World) → new.kinds ≡ old.kinds → AreMade header old → AreMade header new
made_on header old new same made = record {
  class = λ n k e. made.class n k (ap (λ (kinds : ℕ → List Kind). slice_get (kinds n.lane) (n.count - 1)) (sym same) ∙ e);
  kind = λ n k e. made.kind n k (ap (λ (kinds : ℕ → List Kind). slice_get (kinds n.lane) (n.count - 1)) (sym same) ∙ e);
}

-- so they do where a unit of such kinds is made
pub made_more : (header : Header) (old new : World) (lane : ℕ) (kinds : List Kind) → new.kinds ≡ set_at old.kinds lane (old.kinds lane ++ kinds)
    → AllByRecursion (IsKind header) kinds → AreMade header old → AreMade header new
made_more header old new lane kinds are all made = record { class = λ n k e. (both n k e).0; kind = λ n k e. (both n k e).1 }
  where
    both : (n : Name) (k : Kind) → kind_of new n ≡ Some k → IsKind header k
    both n k e =
        lists_more (IsKind header) old.kinds lane kinds all n.lane (n.count - 1) k (ap (λ (lists : ℕ → List Kind). slice_get (lists n.lane) (n.count - 1)) (sym are) ∙ e)
        (λ f. (made.class n k f, made.kind n k f))

-- ---- what a piece leaves

or_cond : (b x : Bool) → (b || x) ≡ cond b true x
or_cond true x = refl
or_cond false x = refl

-- the frames that are open when one was closed
one_closed : (opened : List Pass) (lane j : ℕ) → list_any (same_pass (Lane j)) (filter (λ q. not (same_pass (Lane lane) q)) opened) ≡ cond (j == lane) false (list_any (same_pass (Lane j)) opened)
one_closed [] lane j = go (j == lane)
  where
    go : (b : Bool) → false ≡ cond b false false
    go true = refl
    go false = refl
one_closed (Lane k ∷ opened) lane j = go (lane == k) refl (j == lane) refl (j == k) refl (one_closed opened lane j)
  where
    go : (b : Bool) → (lane == k) ≡ b → (c : Bool) → (j == lane) ≡ c → (d : Bool) → (j == k) ≡ d
        → list_any (same_pass (Lane j)) (filter (λ q. not (same_pass (Lane lane) q)) opened) ≡ cond c false (list_any (same_pass (Lane j)) opened)
        → list_any (same_pass (Lane j))
        (cond (not b) (Lane k ∷ filter (λ q. not (same_pass (Lane lane) q)) opened) (filter (λ q. not (same_pass (Lane lane) q)) opened))
        ≡ cond c false (d || list_any (same_pass (Lane j)) opened)
    go true e true f d g rest = rest
    go true e false f true g rest = absurd (let wrong : (j == lane) ≡ true = grind (arith, nat_tests, e, g) in cc)
    go true e false f false g rest = rest
    go false e true f true g rest = absurd (let wrong : (lane == k) ≡ true = grind (arith, nat_tests, f, g) in cc)
    go false e true f false g rest = rw g rest
    go false e false f true g rest = rw g refl
    go false e false f false g rest = rw g rest
one_closed (Marker k ∷ opened) lane j = one_closed opened lane j
one_closed (Collector ∷ opened) lane j = one_closed opened lane j

-- what a command of a lane leaves
pub record Leaves (header : Header) (s : State) (lane : ℕ) (what : LaneCmd) (piece : List Entry) (r : Reply) : Type 0 where
  pub frames : frames_of (run s piece).world ≡ frames_by (frames_of s.world) (cmd.Lane lane what)
  pub made : AreMade header (run s piece).world
  pub told : HasText header.classes.classes r

-- entries that leave the frames and the kinds
record Stays (s : State) (piece : List Entry) : Type 0 where
  frames : frames_of (run s piece).world ≡ frames_of s.world
  kinds : (run s piece).world.kinds ≡ s.world.kinds

-- a call of one entry
alone : (P : List Entry → Type 0) (lane : ℕ) (a : Act) (piece : List Entry) (acts : List Act) → acts ≡ a ∷ [] → piece ≡ by (Lane lane) acts → P (by (Lane lane) (a ∷ [])) → P piece
alone P lane a piece acts one is p = subst P (sym (is ∙ ap (by (Lane lane)) one)) p

-- a store, perhaps after a note
store_stays : (s : State) (lane : ℕ) (a : Act) (piece : List Entry) (acts : List Act) → StoreEntries a acts → piece ≡ by (Lane lane) acts
    → Stays s (by (Lane lane) (a ∷ [])) → ((of : Name) → Stays s (by (Lane lane) (act.Kept of ∷ a ∷ []))) → Stays s piece
store_stays s lane a piece acts (inl one) is first noted = alone (Stays s) lane a piece acts one is first
store_stays s lane a piece acts (inr note) is first noted = subst (Stays s) (sym (is ∙ ap (by (Lane lane)) note.1)) (noted note.0)

-- no entry
quiet : (s : State) (piece : List Entry) → piece ≡ [] → Stays s piece
quiet s piece none = subst (Stays s) (sym none) (record { frames = refl; kinds = refl })

-- a reply that tells no class
plain : (classes : List Class) (r what : Reply) → HasText classes what → r ≡ what → HasText classes r
plain classes r what told is = subst (HasText classes) (sym is) told

-- what holds of these four replies holds of each refusal of a spot
module _ (P : Reply → Type 0) (lane : ℕ) (no_object : P (reply.NoObject lane)) (no_field : P (reply.NoField lane)) (wrong_kind : P (reply.WrongKind lane)) (no_element : P (reply.NoElement lane)) where
  abbrev pub Refused : Result Element Reply → Type 0
  Refused (Ok e) = Unit {0}
  Refused (Err r) = P r

  either : (b : Bool) (x y : Result Element Reply) → Refused x → Refused y → Refused (cond b x y)
  either true x y p q = p
  either false x y p q = q

  element_refused : (at : Name) (wanted : FieldKind → Bool) (f : Option Field) (element : ℕ) → Refused (element_at lane at wanted f element)
  element_refused at wanted None element = no_field
  element_refused at wanted (Some f) element = either (wanted f.kind) _ _ (either (nat_lt element f.count) _ _ tt no_element) wrong_kind

  pub spot_refused : (h : Header) (kinds : Kinds) (wanted : FieldKind → Bool) (at : Option Name) (spot : Spot) → Refused (spot_at h kinds lane wanted at spot)
  spot_refused h kinds wanted None spot = no_object
  spot_refused h kinds wanted (Some at) spot = element_refused at wanted (field_of h (kind_at kinds at) (slice_get h.fields spot.field)) spot.element

  -- and of each of a store, where it holds of the fifth
  pub target_refused : (wrong_class : P (reply.WrongClass lane)) (h : Header) (kinds : Kinds) (to : Option Name) (spot : Result Element Reply) → Refused spot → Refused (target_at h kinds lane to spot)
  target_refused wrong_class h kinds to (Err r) p = p
  target_refused wrong_class h kinds to (Ok e) p = either (may_refer h kinds e.kind to) _ _ tt wrong_class

-- a refusal of a spot gives no object
pub refused_none : (h : Header) (kinds : Kinds) (lane : ℕ) (wanted : FieldKind → Bool) (at : Option Name) (spot : Spot) (r : Reply) → spot_at h kinds lane wanted at spot ≡ Err r → object_of r ≡ None
refused_none h kinds lane wanted at spot r is =
    subst (Refused (λ q. object_of q ≡ None) lane refl refl refl refl) is
    (spot_refused (λ q. object_of q ≡ None) lane refl refl refl refl h kinds wanted at spot)

-- and tells no class
abbrev TellsNone : List Class → ℕ → Result Element Reply → Type 0
TellsNone classes lane x = Refused (HasText classes) lane tt tt tt tt x

spot_tells : (classes : List Class) (lane : ℕ) (h : Header) (kinds : Kinds) (wanted : FieldKind → Bool) (at : Option Name) (spot : Spot) → TellsNone classes lane (spot_at h kinds lane wanted at spot)
spot_tells classes lane h kinds wanted at spot = spot_refused (HasText classes) lane tt tt tt tt h kinds wanted at spot

target_tells : (classes : List Class) (lane : ℕ) (h : Header) (kinds : Kinds) (to : Option Name) (spot : Result Element Reply)
    → TellsNone classes lane spot → TellsNone classes lane (target_at h kinds lane to spot)
target_tells classes lane h kinds to spot p = target_refused (HasText classes) lane tt tt tt tt tt h kinds to spot p

-- what a call on an element leaves and tells, and a refusal
module _ (header : Header) (s : State) (lane : ℕ) (piece : List Entry) (r : Reply) where
  record Answers : Type 0 where
    stays : Stays s piece
    told : HasText header.classes.classes r

  said : (what : Reply) → HasText header.classes.classes what → Says what piece r → Answers
  said what told h = record { stays = quiet s piece h.0; told = plain header.classes.classes r what told h.1 }

  on_element : (x : Result Element Reply) (call : Element → List Entry → Reply → Type 0) → TellsNone header.classes.classes lane x
      → ((e : Element) → call e piece r → Answers) → OnElement x call piece r → Answers
  on_element (Err why) call told f h = said why told h
  on_element (Ok e) call told f h = f e h

  on_object : (o : Option Name) (call : Name → List Entry → Reply → Type 0) → ((n : Name) → call n piece r → Answers) → OnObject lane o call piece r → Answers
  on_object None call f h = said (reply.NoObject lane) tt h
  on_object (Some n) call f h = f n h

  -- one solo call of one entry, whose reply tells no class
  one_answers : (a : Act) (acts : List Act) (told : Reply) → HasText header.classes.classes told → acts ≡ a ∷ [] → piece ≡ by (Lane lane) acts → r ≡ told → Stays s (by (Lane lane) (a ∷ [])) → Answers
  one_answers a acts told text one is tells stays = record { stays = alone (Stays s) lane a piece acts one is stays; told = plain header.classes.classes r told text tells }

  store_answers : (a : Act) (acts : List Act) (told : Reply) → HasText header.classes.classes told → StoreEntries a acts → piece ≡ by (Lane lane) acts
      → r ≡ told → Stays s (by (Lane lane) (a ∷ [])) → ((of : Name) → Stays s (by (Lane lane) (act.Kept of ∷ a ∷ []))) → Answers
  store_answers a acts told text store is tells stays noted = record { stays = store_stays s lane a piece acts store is stays noted; told = plain header.classes.classes r told text tells }

  -- a weak pointer was given, or refused
  gives_answers : (o : Option Name) (pair : Weak) → GivesPair s lane o pair piece r → Answers
  gives_answers None pair h = said (reply.NoObject lane) tt h.0
  gives_answers (Some n) pair (inl ((acts, call, is), tells)) = one_answers (act.WeakOf n pair) acts (reply.WeakMade lane n) tt call.0 is tells (record { frames = refl; kinds = refl })
  gives_answers (Some n) pair (inr ((count, (acts, call, is), tells), none)) =
      one_answers (act.NoSerial n count) acts (reply.SerialsSpent lane count) tt call.0 is tells (record { frames = refl; kinds = refl })

  -- a pair was read, or why not
  reads_answers : (x : Result Element Reply) (pair : Weak) → TellsNone header.classes.classes lane x → ReadsPair s lane x pair piece r → Answers
  reads_answers (Err why) pair told h = said why told h.0
  reads_answers (Ok e) pair told (got, (acts, call, is), tells, same) =
      one_answers (act.ReadPlain e.at e.slot got) acts (reply.IsWeak lane (has_serial pair)) tt call.0 is tells (record { frames = refl; kinds = refl })

  -- a command that leaves the frames and the kinds
  still : (what : LaneCmd) → frames_by (frames_of s.world) (cmd.Lane lane what) ≡ frames_of s.world → AreMade header s.world → Answers → Leaves header s lane what piece r
  still what same made h = record {
    frames = h.stays.frames ∙ sym same;
    made = made_on header s.world (run s piece).world h.stays.kinds made;
    told = h.told;
  }

-- the class of an object that is told is one of the table
object_told : (header : Header) (w : World) (lane : ℕ) (o : Option Name) → AreMade header w → HasText header.classes.classes (told_object w.kinds lane o)
object_told header w lane None made = tt
object_told header w lane (Some at) made = kind_told (kind_at w.kinds at) (made.class at)
  where
    kind_told : (k : Option Kind) → ((kind : Kind) → k ≡ Some kind → kind.class.0 < length header.classes.classes) → HasText header.classes.classes (told_kind lane at k)
    kind_told None h = tt
    kind_told (Some kind) h = h kind refl

refusal_stays : (s : State) (lane asked : ℕ) (why : CreateErr) → Stays s (by (Lane lane) (act_of_refusal asked why ∷ []))
refusal_stays s lane asked (create.Full free) = record { frames = refl; kinds = refl }
refusal_stays s lane asked (create.NamesSpent left) = record { frames = refl; kinds = refl }

refusal_one : (s : State) (lane asked : ℕ) (why : CreateErr) (acts : List Act) → CallOf s (Lane lane) (act_of_refusal asked why) acts → acts ≡ act_of_refusal asked why ∷ []
refusal_one s lane asked (create.Full free) acts call = call.0
refusal_one s lane asked (create.NamesSpent left) acts call = call.0

no_room_text : (classes : List Class) (lane : ℕ) (why : CreateErr) → HasText classes (no_room lane why)
no_room_text classes lane (create.Full free) = tt
no_room_text classes lane (create.NamesSpent left) = tt

pub no_room_none : (lane : ℕ) (why : CreateErr) → object_of (no_room lane why) ≡ None
no_room_none lane (create.Full free) = refl
no_room_none lane (create.NamesSpent left) = refl

-- the name of the one object that was made
pub first_name : (out : List Ref) (d : Ref) (n : Name) → map (λ r. r.name) out ≡ n ∷ [] → (get_or out 0 d).name ≡ n
first_name [] d n e = absurd cc
first_name (r ∷ rs) d n e = cc

make_leaves : (header : Header) (s : State) (lane : ℕ) (what : LaneCmd) (kinds : List Kind) (told : Name → Reply) (piece : List Entry) (r : Reply)
    → frames_by (frames_of s.world) (cmd.Lane lane what) ≡ frames_of s.world → ((n : Name) → HasText header.classes.classes (told n))
    → AllByRecursion (IsKind header) kinds → AreMade header s.world → Makes s lane kinds told piece r → Leaves header s lane what piece r
make_leaves header s lane what kinds told piece r same text all made (inl (count, (acts, call, is), tells)) =
    let a : Act = act.Make kinds count in
    record {
      frames = alone (λ es. frames_of (run s es).world ≡ frames_of s.world) lane a piece acts call.0 is refl ∙ sym same;
      made = alone (λ es. AreMade header (run s es).world) lane a piece acts call.0 is (made_more header s.world (run s (by (Lane lane) (a ∷ []))).world lane kinds refl all made);
      told = plain header.classes.classes r (told (record { lane = lane; count = count })) (text (record { lane = lane; count = count })) tells;
    }
make_leaves header s lane what kinds told piece r same text all made (inr (why, (acts, call, is), tells)) =
    still header s lane piece r what same made
    (one_answers header s lane piece r (act_of_refusal (length kinds) why) acts (no_room lane why) (no_room_text header.classes.classes lane why)
    (refusal_one s lane (length kinds) why acts call) is tells (refusal_stays s lane (length kinds) why))

-- each command of a lane
pub lane_leaves : (header : Header) (s : State) (names new : Bindings) (lane : ℕ) (what : LaneCmd) (piece : List Entry) (r : Reply)
    → LaneClass header what → AreMade header s.world → LaneTurn header s names lane what piece r new → Leaves header s lane what piece r
lane_leaves header s names new lane lane_cmd.Open piece r class made ((phase, (acts, call, is), tells), same) = record {
  frames = alone (λ es. frames_of (run s es).world ≡ set_at (frames_of s.world) lane true) lane (act.FrameOpen phase) piece acts call.0 is (λ i j. or_cond (j == lane) (frames_of s.world j) i);
  made = alone (λ es. AreMade header (run s es).world) lane (act.FrameOpen phase) piece acts call.0 is (made_on header s.world (run s (by (Lane lane) (act.FrameOpen phase ∷ []))).world refl made);
  told = plain header.classes.classes r (reply.Opened lane phase) tt tells;
}
lane_leaves header s names new lane lane_cmd.Close piece r class made ((acts, call, is), tells, same) = record {
  frames = alone (λ es. frames_of (run s es).world ≡ set_at (frames_of s.world) lane false) lane act.FrameClose piece acts call.0 is (λ i j. one_closed s.world.opened lane j i);
  made = alone (λ es. AreMade header (run s es).world) lane act.FrameClose piece acts call.0 is (made_on header s.world (run s (by (Lane lane) (act.FrameClose ∷ []))).world refl made);
  told = plain header.classes.classes r (reply.Closed lane) tt tells;
}
lane_leaves header s names new lane (lane_cmd.New var class) piece r small made h =
    make_leaves header s lane (lane_cmd.New var class) (table.kind_of header.classes class ∷ []) (reply.New lane) piece r refl (λ n. tt) (one_kind header class small) made h.0
lane_leaves header s names new lane (lane_cmd.Cluster members) piece r small made h =
    make_leaves header s lane (lane_cmd.Cluster members) (kinds_of header members) (λ first. reply.Cluster lane first (length members)) piece r refl (λ n. tt)
    (members_kinds header members small) made h.0
lane_leaves header s names new lane (lane_cmd.Root var on) piece r class made h =
    still header s lane piece r (lane_cmd.Root var on) refl made
    (on_object header s lane piece r (names.objects lane var) _
    (λ n h.
    store_answers header s lane piece r (act.Root n on h.0) h.1.0 (reply.WasRoot lane h.0) tt h.1.1.0 h.1.2 h.2
    (record { frames = refl; kinds = refl }) (λ of. record { frames = refl; kinds = refl })) h.0)
lane_leaves header s names new lane (lane_cmd.Set spot to) piece r class made h =
    still header s lane piece r (lane_cmd.Set spot to) refl made
    (on_element header s lane piece r (set_spot header s.world.kinds lane (names.objects lane) spot to) _
    (target_tells header.classes.classes lane header s.world.kinds (value_of (names.objects lane) to) _
    (spot_tells header.classes.classes lane header s.world.kinds is_ref (names.objects lane spot.var) spot))
    (λ e h.
    store_answers header s lane piece r (act.WriteRef e.at e.slot (value_of (names.objects lane) to) h.0) h.1.0 (reply.Was lane h.0) tt h.1.1.0
    h.1.2 h.2 (record { frames = refl; kinds = refl }) (λ of. record { frames = refl; kinds = refl })) h.0)
lane_leaves header s names new lane (lane_cmd.Get var spot) piece r class made h =
    still header s lane piece r (lane_cmd.Get var spot) refl made
    (on_element header s lane piece r (get_spot header s.world.kinds lane (names.objects lane) spot) _
    (spot_tells header.classes.classes lane header s.world.kinds is_ref (names.objects lane spot.var) spot)
    (λ e h. one_answers header s lane piece r (act.ReadRef e.at e.slot h.0) h.1.0 (reply.Is lane h.0) tt h.1.1.0 h.1.2 h.2 (record { frames = refl; kinds = refl })) h.0)
lane_leaves header s names new lane (lane_cmd.Put spot value) piece r class made h =
    still header s lane piece r (lane_cmd.Put spot value) refl made
    (on_element header s lane piece r (int_spot header s.world.kinds lane (names.objects lane) spot) _
    (spot_tells header.classes.classes lane header s.world.kinds is_int (names.objects lane spot.var) spot)
    (λ e h. one_answers header s lane piece r (act.WritePlain e.at e.slot value h.0) h.1.0 (reply.WasNumber lane h.0) tt h.1.1.0 h.1.2 h.2 (record { frames = refl; kinds = refl })) h.0)
lane_leaves header s names new lane (lane_cmd.Take spot) piece r class made h =
    still header s lane piece r (lane_cmd.Take spot) refl made
    (on_element header s lane piece r (int_spot header s.world.kinds lane (names.objects lane) spot) _
    (spot_tells header.classes.classes lane header s.world.kinds is_int (names.objects lane spot.var) spot)
    (λ e h. one_answers header s lane piece r (act.ReadPlain e.at e.slot h.0) h.1.0 (reply.IsNumber lane h.0) tt h.1.1.0 h.1.2 h.2 (record { frames = refl; kinds = refl })) h.0)
lane_leaves header s names new lane (lane_cmd.Store spot weak) piece r class made h =
    still header s lane piece r (lane_cmd.Store spot weak) refl made
    (on_element header s lane piece r (weak_spot header s.world.kinds lane (names.objects lane) spot) _
    (spot_tells header.classes.classes lane header s.world.kinds is_weak (names.objects lane spot.var) spot)
    (λ e h.
    one_answers header s lane piece r (act.WritePlain e.at e.slot (weak_word (stored no_pair names.weaks weak)) h.0) h.1.0
    (reply.WasWeak lane (has_serial (pair_in h.0))) tt h.1.1.0 h.1.2 h.2 (record { frames = refl; kinds = refl })) h.0)
lane_leaves header s names new lane (lane_cmd.Load weak spot) piece r class made (pair, h, same) =
    still header s lane piece r (lane_cmd.Load weak spot) refl made
    (reads_answers header s lane piece r (weak_spot header s.world.kinds lane (names.objects lane) spot) pair
    (spot_tells header.classes.classes lane header s.world.kinds is_weak (names.objects lane spot.var) spot) h)
lane_leaves header s names new lane (lane_cmd.Hold number to) piece r class made ((old, (acts, call, is), tells), same) =
    still header s lane piece r (lane_cmd.Hold number to) refl made
    (store_answers header s lane piece r (act.SetStrong number (value_of (names.objects lane) to) old) acts (reply.Was lane old) tt call.0 is tells
    (record { frames = refl; kinds = refl }) (λ of. record { frames = refl; kinds = refl }))
lane_leaves header s names new lane (lane_cmd.Held var number) piece r class made ((got, (acts, call, is), tells), same) =
    still header s lane piece r (lane_cmd.Held var number) refl made
    (one_answers header s lane piece r (act.GetStrong number got) acts (reply.Is lane got) tt call.0 is tells (record { frames = refl; kinds = refl }))
lane_leaves header s names new lane (lane_cmd.Weak weak var) piece r class made (pair, h, same) =
    still header s lane piece r (lane_cmd.Weak weak var) refl made (gives_answers header s lane piece r (names.objects lane var) pair h)
lane_leaves header s names new lane (lane_cmd.Resolve var weak) piece r class made ((got, (acts, call, is), tells), same) =
    still header s lane piece r (lane_cmd.Resolve var weak) refl made
    (one_answers header s lane piece r (act.Resolve (names.weaks weak) got) acts (reply.Is lane got) tt call.0 is tells (record { frames = refl; kinds = refl }))
lane_leaves header s names new lane (lane_cmd.Forge weak index) piece r class made h =
    still header s lane piece r (lane_cmd.Forge weak index) refl made (said header s lane piece r (reply.Forged lane) tt h.0)
lane_leaves header s names new lane (lane_cmd.Same left right) piece r class made h =
    still header s lane piece r (lane_cmd.Same left right) refl made
    (said header s lane piece r (reply.Same lane (same_weak (names.weaks left) (names.weaks right))) tt h.0)
lane_leaves header s names new lane (lane_cmd.Print var) piece r class made h =
    still header s lane piece r (lane_cmd.Print var) refl made
    (said header s lane piece r (told_object s.world.kinds lane (names.objects lane var))
    (object_told header s.world lane (names.objects lane var) made) h.0)
