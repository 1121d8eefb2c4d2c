-- The lines of a script fit where they stand.
use Rattle.std.proofs.Common.{◌≡◌, ℕ, ◌+◌, ◌<◌, ◌≤◌, zero, suc, List, [], ◌∷◌, ◌++◌, refl, sym, ap, ◌∙◌, subst, Bool, true, false, ◌&&◌, cond, map, length, get_or, replicate, arith, Option, Some, None, option_map, Result, Ok, Err}
use Rattle.std.specs.Prelude.{nat_lt, slice_get, slice_set, slice_index, slice_index_or}
use Rattle.std.specs.List.{list_all}
use Rattle.std.specs.Result.{result_ok}
use Rattle.std.proofs.lemmas.Bool.{lt-ltb}
use Rattle.std.proofs.lemmas.List.{length-map, length-set, get_or-set_same, map-set}
use Rattle.std.proofs.Math.ListN.{get_or-map}
use Rattle.world_model.specs.declared.kind.ClassId.{ClassId}
use Rattle.std.specs.List.{AllByRecursion}
use Rattle.class_schema.specs.Class.{Class, Schema, Declaration}
use Rattle.class_schema.specs.Ancestry.{object, class_at}
use Rattle.class_schema.specs.Table.{find_class, added, admitted, added_below, child, with_own, with_field, field_added, field_refusal, unless_refused}
use Rattle.class_schema.specs.declared.field.FieldKind.{FieldKind}
use Rattle.class_schema.specs.declared.refusal.SchemaErr.{SchemaErr}
use Rattle.level_script.specs.Commands.{said_by_line}
use Rattle.level_script.specs.Context.{start, with_line, with_classes, with_named, more_weaks, with_weak, elements_in, kind_found, field_known, field_counted, with_lane, lane_at, lane_of, after_said, if_said, after_line, script_from}
use Rattle.level_script.specs.Frames.{opened_after, fits_lane, fits_script, fits, frames_after, are_framed, IsAtOnce, IsNamed, IsPlayable}
use Rattle.level_script.specs.Forms.{is_identifier}
use Rattle.level_script.proofs.Naming.{Written, SaysName, SaysNameIfOk, identifier_bytes, line_says}
use Rattle.level_script.specs.LaneCommands.{frame_of, of_both, command_of, frame_by, beside_by}
use Rattle.level_script.specs.Lanes.{closed_lane, count_of, bound_var, if_bound, with_bound, known_bound, with_frame, spot_with, spot_found, bound_target, weak_target, known_of, operands_known, are_apart, members_found, members_bound, or_unknown, command_known, command_found, left_by, with_command, lane_step, lane_index}
use Rattle.level_script.specs.Operands.{allows, opened_by, below, element_in, is_in_range, var_known, target_known, class_known, spot_known, switch_known, value_known, strong_known, index_known, weak_known, weak_target_known, members_known, fits_members, fits_spot, fits_target, fits_known, fits_beside}
use Rattle.level_script.specs.Lines.{input_lines}
use Rattle.level_script.specs.Names.{number_of_name, number_in, with_name, has_number}
use Rattle.level_script.specs.Reading.{after_numbered, read_from, read_on, fault_at, outcome_of, script_of, script_of_lines}
use Rattle.level_script.specs.declared.cause.Cause.{Cause}
use Rattle.level_script.specs.declared.cause.Cause.TheVariants as cause
use Rattle.level_script.specs.declared.cause.ScriptErr.{ScriptErr}
use Rattle.level_script.specs.declared.context.Context.{Context}
use Rattle.level_script.specs.declared.lanes.LaneNames.{LaneNames}
use Rattle.level_script.specs.declared.limits.Limits.{Limits}
use Rattle.level_script.specs.declared.said.Does.{Does}
use Rattle.level_script.specs.declared.said.Said.{Said}
use Rattle.level_script.specs.declared.said.Said.TheVariants as said
use Rattle.level_script.specs.declared.script.Cmd.{Cmd}
use Rattle.level_script.specs.declared.script.Cmd.TheVariants as cmd
use Rattle.level_script.specs.declared.lane_cmd.LaneCmd.{LaneCmd}
use Rattle.level_script.specs.declared.lane_cmd.LaneCmd.TheVariants as lane_cmd
use Rattle.level_script.specs.declared.lane_cmd.Verb.{Verb}
use Rattle.level_script.specs.declared.lane_cmd.Verb.TheVariants as verb
use Rattle.level_script.specs.declared.operand.Binds.{Binds}
use Rattle.level_script.specs.declared.operand.Binds.TheVariants as binds
use Rattle.level_script.specs.declared.operand.Frame.{Frame}
use Rattle.level_script.specs.declared.operand.Frame.TheVariants as frame
use Rattle.level_script.specs.declared.operand.Known.{Known}
use Rattle.level_script.specs.declared.operand.Known.TheVariants as known
use Rattle.level_script.specs.declared.operand.Operand.{Operand}
use Rattle.level_script.specs.declared.operand.Operand.TheVariants as operand
use Rattle.level_script.specs.declared.script.GcCmd.TheVariants as gc_cmd
use Rattle.level_script.specs.declared.script.Line.{Line}
use Rattle.level_script.specs.declared.script.Spot.{Spot}
use Rattle.level_script.specs.declared.operand.Place.{Place}
use Rattle.level_script.specs.declared.said.FieldOf.{FieldOf}
use Rattle.level_script.specs.declared.script.Script.{Script}
use Rattle.level_script.specs.declared.tables.Tables.{Tables}
use Rattle.level_script.proofs.Places.{ok_same, err_ok, some_same, length_push, names_grow, number_below, found_below, class_below, below_true, and_both, both}
use Rattle.level_script.proofs.Clusters.{vars_grow, with_ok, known_some, bound_fit}
use Rattle.level_script.specs.declared.lane_cmd.Member.{Member}

-- ---- a step of a lane

-- what a step of a lane does to its frame and its variables, and that its command fits
record StepFacts (t : Tables) (lane left : LaneNames) (what : Does) (command : LaneCmd) : Type 0 where
  opened : left.opened ≡ opened_after command lane.opened
  grows : count_of lane ≤ count_of left
  fit : (vars count names : ℕ) → count_of left ≤ vars → length t.classes.classes ≤ count → length t.fields ≤ names → fits_lane vars count names lane.opened command ≡ true
  beside : (weaks : ℕ) → length (more_weaks what.binds t.weaks) ≤ weaks → list_all (fits_beside weaks t.strong) (beside_by command) ≡ true

abbrev FactsOf : Tables → LaneNames → Does → LaneNames × LaneCmd → Type 0
FactsOf t lane what (left, command) = StepFacts t lane left what command

-- a variable that is bound has its number
if_bound_some : (bound : List ℕ) (o : Option ℕ) (n : ℕ) → if_bound bound o ≡ Some n → o ≡ Some n
if_bound_some bound None n e = absurd (cc)
if_bound_some bound (Some m) n e = has_some (has_number bound m) e
  where
    has_some : (b : Bool) → cond b (Some m) None ≡ Some n → Some m ≡ Some n
    has_some true e = e
    has_some false e = absurd (cc)

-- that number is below the number of variables
bound_below : (lane : LaneNames) (var : List ℕ) (n : ℕ) → bound_var lane var ≡ Some n → n < count_of lane
bound_below lane var n e = found_below lane.names var n (if_bound_some lane.bound (number_of_name lane.names var) n e)

-- ---- what words stand for

-- what is so of each value is so of the one that a value gives
mapped : {A B : Type 0} (P : B → Type 0) (make : A → B) (o : Option A) (b : B) → ((a : A) → o ≡ Some a → P (make a)) → option_map make o ≡ Some b → P b
mapped P make None b h e = absurd cc
mapped P make (Some a) b h e = subst P (some_same e) (h a refl)

-- the same of two values
both_made : {A B : Type 0} (P : LaneCmd → Type 0) (make : A → B → LaneCmd) (o : Option A) (p : Option B) (c : LaneCmd)
    → ((a : A) (b : B) → o ≡ Some a → p ≡ Some b → P (make a b)) → of_both make o p ≡ Some c → P c
both_made P make None p c h e = absurd cc
both_made P make (Some a) None c h e = absurd cc
both_made P make (Some a) (Some b) c h e = subst P (some_same e) (h a b refl refl)

-- a spot that is found fits, where there are no fewer variables and names
spot_fits : (lane : LaneNames) (fields : List (List ℕ)) (place : Place) (vars names : ℕ) → count_of lane ≤ vars → length fields ≤ names
    → (n o f : Option ℕ) → bound_var lane place.var ≡ o → number_of_name fields place.field ≡ f → (spot : Spot) → spot_with n o f ≡ Some spot
    → fits_spot vars names spot ≡ true
spot_fits lane fields place vars names few named None o f is found spot e = absurd cc
spot_fits lane fields place vars names few named (Some n) None f is found spot e = absurd cc
spot_fits lane fields place vars names few named (Some n) (Some var) None is found spot e = absurd cc
spot_fits lane fields place vars names few named (Some n) (Some var) (Some field) is found spot e =
    subst (λ (s : Spot). fits_spot vars names s ≡ true) (some_same e)
    (and_both _ _ (below_true var (count_of lane) vars (bound_below lane place.var var is) few) (below_true field (length fields) names (found_below fields place.field field found) named))

target_fits : (lane : LaneNames) (to : Option (List ℕ)) (target : Option ℕ) (vars : ℕ) → bound_target lane to ≡ Some target → count_of lane ≤ vars → fits_target vars target ≡ true
target_fits lane None target vars e few = subst (λ (t : Option ℕ). fits_target vars t ≡ true) (some_same e) refl
target_fits lane (Some name) target vars e few = go (bound_var lane name) refl e
  where
    go : (o : Option ℕ) → bound_var lane name ≡ o → option_map Some o ≡ Some target → fits_target vars target ≡ true
    go None is e = absurd cc
    go (Some n) is e = subst (λ (t : Option ℕ). fits_target vars t ≡ true) (some_same e) (below_true n (count_of lane) vars (bound_below lane name n is) few)

-- a weak variable that is found fits too
weak_fits : (names : List (List ℕ)) (to : Option (List ℕ)) (target : Option ℕ) (weaks : ℕ) → weak_target names to ≡ Some target → length names ≤ weaks → fits_target weaks target ≡ true
weak_fits names None target weaks e wide = subst (λ (t : Option ℕ). fits_target weaks t ≡ true) (some_same e) refl
weak_fits names (Some name) target weaks e wide =
    mapped (λ (t : Option ℕ). fits_target weaks t ≡ true) Some (number_of_name names name) target
    (λ n is. below_true n (length names) weaks (found_below names name n is) wide) e

-- a number below another one
below_is : (most : ℕ) (number : Option ℕ) (n : ℕ) → below most number ≡ Some n → nat_lt n most ≡ true
below_is most None n e = absurd cc
below_is most (Some m) n e = go (nat_lt m most) refl e
  where
    go : (b : Bool) → nat_lt m most ≡ b → cond b (Some m) None ≡ Some n → nat_lt n most ≡ true
    go true is e = subst (λ (k : ℕ). nat_lt k most ≡ true) (some_same e) is
    go false is e = absurd cc

-- a thing is there, where there are so many variables, classes, names of fields, weak variables and strong pointers
abbrev Fits : ℕ → ℕ → ℕ → ℕ → ℕ → Known → Type 0
Fits vars count names weaks strong k = (fits_known vars count names k ≡ true) × (fits_beside weaks strong k ≡ true)

-- what a word stands for is there, where there are no fewer
known_fits : (t : Tables) (lane : LaneNames) (vars count names weaks : ℕ) → count_of lane ≤ vars → length t.classes.classes ≤ count → length t.fields ≤ names → length t.weaks ≤ weaks
    → (word : Operand) (k : Known) → known_of t lane word ≡ Some k → Fits vars count names weaks t.strong k
known_fits t lane vars count names weaks few some named wide word k e = go word e
  where
    P : Known → Type 0
    P k = Fits vars count names weaks t.strong k

    go : (word : Operand) → known_of t lane word ≡ Some k → P k
    go operand.Nothing e = subst P (some_same e) (refl, refl)
    go (operand.Var name) e = mapped P known.Var (bound_var lane name) k (λ n is. (below_true n (count_of lane) vars (bound_below lane name n is) few, refl)) e
    go (operand.Target to) e = mapped P known.Target (bound_target lane to) k (λ o is. (target_fits lane to o vars is few, refl)) e
    go (operand.Class name) e =
        mapped P known.Class (find_class t.classes.classes name) k (λ id is. (below_true id.0 (length t.classes.classes) count (class_below t.classes.classes name id is) some, refl)) e
    go (operand.Spot place) e =
        mapped P known.Spot (spot_found lane t.fields place) k
        (λ spot is. (spot_fits lane t.fields place vars names few named (element_in place.element) (bound_var lane place.var) (number_of_name t.fields place.field) refl refl spot is, refl)) e
    go (operand.Switch on) e = subst P (some_same e) (refl, refl)
    go (operand.Value number) e = mapped P known.Value number k (λ n is. (refl, refl)) e
    go (operand.Strong number) e = mapped P known.Strong (below t.strong number) k (λ h is. (refl, below_is t.strong number h is)) e
    go (operand.Index number) e = mapped P known.Index (element_in number) k (λ n is. (refl, refl)) e
    go (operand.Weak name) e = mapped P known.Weak (number_of_name t.weaks name) k (λ n is. (refl, below_true n (length t.weaks) weaks (found_below t.weaks name n is) wide)) e
    go (operand.WeakTarget to) e = mapped P known.WeakTarget (weak_target t.weaks to) k (λ o is. (refl, weak_fits t.weaks to o weaks is wide)) e

-- ---- a command

-- What a word stands for is there, and so is what the word's command names by it. Each command is a line of `command_fits`.
module _ (vars count names weaks strong : ℕ) where
  abbrev There : Known → Type 0
  There k = Fits vars count names weaks strong k

  var_there : (k : Known) (var : ℕ) → There k → var_known k ≡ Some var → nat_lt var vars ≡ true
  var_there (known.Var v) var fit e = subst (λ (n : ℕ). nat_lt n vars ≡ true) (some_same e) fit.0
  var_there k var fit e = absurd cc

  target_there : (k : Known) (to : Option ℕ) → There k → target_known k ≡ Some to → fits_target vars to ≡ true
  target_there (known.Target t) to fit e = subst (λ (o : Option ℕ). fits_target vars o ≡ true) (some_same e) fit.0
  target_there k to fit e = absurd cc

  class_there : (k : Known) (class : ClassId) → There k → class_known k ≡ Some class → nat_lt class.0 count ≡ true
  class_there (known.Class c) class fit e = subst (λ (d : ClassId). nat_lt d.0 count ≡ true) (some_same e) fit.0
  class_there k class fit e = absurd cc

  spot_there : (k : Known) (spot : Spot) → There k → spot_known k ≡ Some spot → fits_spot vars names spot ≡ true
  spot_there (known.Spot s) spot fit e = subst (λ (t : Spot). fits_spot vars names t ≡ true) (some_same e) fit.0
  spot_there k spot fit e = absurd cc

  strong_there : (k : Known) (h : ℕ) → There k → strong_known k ≡ Some h → nat_lt h strong ≡ true
  strong_there (known.Strong g) h fit e = subst (λ (n : ℕ). nat_lt n strong ≡ true) (some_same e) fit.1
  strong_there k h fit e = absurd cc

  weak_there : (k : Known) (weak : ℕ) → There k → weak_known k ≡ Some weak → nat_lt weak weaks ≡ true
  weak_there (known.Weak w) weak fit e = subst (λ (n : ℕ). nat_lt n weaks ≡ true) (some_same e) fit.1
  weak_there k weak fit e = absurd cc

  weak_target_there : (k : Known) (to : Option ℕ) → There k → weak_target_known k ≡ Some to → fits_target weaks to ≡ true
  weak_target_there (known.WeakTarget t) to fit e = subst (λ (o : Option ℕ). fits_target weaks o ≡ true) (some_same e) fit.1
  weak_target_there k to fit e = absurd cc

  members_there : (k : Known) (members : List Member) → There k → members_known k ≡ Some members → fits_members vars count members ≡ true
  members_there (known.Members ms) members fit e = subst (λ (l : List Member). fits_members vars count l ≡ true) (some_same e) fit.0
  members_there k members fit e = absurd cc

  -- the command fits, does to the frame what its word says, and names weak variables and strong pointers that are there
  abbrev Made : Bool → Verb → LaneCmd → Type 0
  Made opened verb command = (fits_lane vars count names opened command ≡ true) × (frame_by command ≡ frame_of verb) × (list_all (fits_beside weaks strong) (beside_by command) ≡ true)

  command_fits : (opened : Bool) (verb : Verb) (b f s : Known) (c : LaneCmd) → allows (frame_of verb) opened ≡ true → There b → There f → There s
      → command_of verb b f s ≡ Some c → Made opened verb c
  command_fits opened verb.Open b f s c may x y z e = subst (Made opened verb.Open) (some_same e) (may, refl, refl)
  command_fits opened verb.Close b f s c may x y z e = subst (Made opened verb.Close) (some_same e) (may, refl, refl)
  command_fits opened verb.New b f s c may x y z e =
      both_made (Made opened verb.New) lane_cmd.New (var_known b) (class_known f) c (λ var class v k. (and_both _ _ (and_both _ _ may (var_there b var x v)) (class_there f class y k), refl, refl)) e
  command_fits opened verb.Cluster b f s c may x y z e =
      mapped (Made opened verb.Cluster) lane_cmd.Cluster (members_known b) c (λ members v. (and_both _ _ may (members_there b members x v), refl, refl)) e
  command_fits opened verb.Root b f s c may x y z e =
      both_made (Made opened verb.Root) lane_cmd.Root (var_known f) (switch_known s) c (λ var on v k. (and_both _ _ may (var_there f var y v), refl, refl)) e
  command_fits opened verb.Set b f s c may x y z e =
      both_made (Made opened verb.Set) lane_cmd.Set (spot_known f) (target_known s) c (λ spot to v k. (and_both _ _ (and_both _ _ may (spot_there f spot y v)) (target_there s to z k), refl, refl)) e
  command_fits opened verb.Get b f s c may x y z e =
      both_made (Made opened verb.Get) lane_cmd.Get (var_known b) (spot_known f) c (λ var spot v k. (and_both _ _ (and_both _ _ may (var_there b var x v)) (spot_there f spot y k), refl, refl)) e
  command_fits opened verb.Put b f s c may x y z e =
      both_made (Made opened verb.Put) lane_cmd.Put (spot_known f) (value_known s) c (λ spot value v k. (and_both _ _ may (spot_there f spot y v), refl, refl)) e
  command_fits opened verb.Take b f s c may x y z e = mapped (Made opened verb.Take) lane_cmd.Take (spot_known f) c (λ spot v. (and_both _ _ may (spot_there f spot y v), refl, refl)) e
  command_fits opened verb.Print b f s c may x y z e = mapped (Made opened verb.Print) lane_cmd.Print (var_known f) c (λ var v. (and_both _ _ may (var_there f var y v), refl, refl)) e
  command_fits opened verb.Store b f s c may x y z e =
      both_made (Made opened verb.Store) lane_cmd.Store (spot_known f) (weak_target_known s) c (λ spot weak v k. (and_both _ _ may (spot_there f spot y v), refl, and_both _ true (weak_target_there s weak z k) refl)) e
  command_fits opened verb.Load b f s c may x y z e =
      both_made (Made opened verb.Load) lane_cmd.Load (weak_known b) (spot_known f) c (λ weak spot v k. (and_both _ _ may (spot_there f spot y k), refl, and_both _ true (weak_there b weak x v) refl)) e
  command_fits opened verb.Hold b f s c may x y z e =
      both_made (Made opened verb.Hold) lane_cmd.Hold (strong_known f) (target_known s) c (λ h to v k. (and_both _ _ may (target_there s to z k), refl, and_both _ true (strong_there f h y v) refl)) e
  command_fits opened verb.Held b f s c may x y z e =
      both_made (Made opened verb.Held) lane_cmd.Held (var_known b) (strong_known f) c (λ var h v k. (and_both _ _ may (var_there b var x v), refl, and_both _ true (strong_there f h y k) refl)) e
  command_fits opened verb.Weak b f s c may x y z e =
      both_made (Made opened verb.Weak) lane_cmd.Weak (weak_known b) (var_known f) c (λ weak var v k. (and_both _ _ may (var_there f var y k), refl, and_both _ true (weak_there b weak x v) refl)) e
  command_fits opened verb.Resolve b f s c may x y z e =
      both_made (Made opened verb.Resolve) lane_cmd.Resolve (var_known b) (weak_known f) c (λ var weak v k. (and_both _ _ may (var_there b var x v), refl, and_both _ true (weak_there f weak y k) refl)) e
  command_fits opened verb.Forge b f s c may x y z e =
      both_made (Made opened verb.Forge) lane_cmd.Forge (weak_known b) (index_known f) c (λ weak index v k. (refl, refl, and_both _ true (weak_there b weak x v) refl)) e
  command_fits opened verb.Same b f s c may x y z e =
      both_made (Made opened verb.Same) lane_cmd.Same (weak_known f) (weak_known s) c (λ left right v k. (refl, refl, and_both _ _ (weak_there f left y v) (and_both _ true (weak_there s right z k) refl))) e

-- ---- a step

-- a choice of an answer that is there
if_ok : {A E : Type 0} (b : Bool) (r : Result A E) (why : E) (x : A) → cond b r (Err why) ≡ Ok x → (b ≡ true) × (r ≡ Ok x)
if_ok true r why x e = (refl, e)
if_ok false r why x e = err_ok e

-- what the frame and a variable that is bound leave of a lane
frame_left : (f : Frame) (lane : LaneNames) → ((with_frame f lane).opened ≡ opened_by f lane.opened) × ((with_frame f lane).names ≡ lane.names)
frame_left frame.Opens lane = (refl, refl)
frame_left frame.Closes lane = (refl, refl)
frame_left frame.Inside lane = (refl, refl)
frame_left frame.Anywhere lane = (refl, refl)

-- what is bound does not hang on the frame
known_framed : (t : Tables) (f : Frame) (lane : LaneNames) (b : Binds) → known_bound t (with_frame f lane) b ≡ known_bound t lane b
known_framed t f lane binds.Nothing = refl
known_framed t f lane (binds.Var var) = ap (λ (ns : List (List ℕ)). Ok (known.Var (number_in ns var))) (frame_left f lane).1
known_framed t f lane (binds.Weak weak) = refl
known_framed t f lane (binds.Members members) = ap (λ (ns : List (List ℕ)). members_bound (are_apart members) (members_found t.classes.classes ns members)) (frame_left f lane).1

-- a step whose parts are there
pub step_done : (t : Tables) (lane left : LaneNames) (does : Does) (bound first second : Known) (command : LaneCmd)
    → (is_in_range t.strong does.first && is_in_range t.strong does.second) ≡ true → allows (frame_of does.verb) lane.opened ≡ true
    → operands_known (known_of t lane does.first) (known_of t lane does.second) ≡ Some (first, second)
    → with_command (left_by does lane) (known_bound t (with_frame (frame_of does.verb) lane) does.binds) ≡ Ok (left, bound)
    → command_of does.verb bound first second ≡ Some command → lane_step t lane does ≡ Ok (left, command)
step_done t lane left does bound first second command ranged may operands e is =
    let h = with_ok (left_by does lane) left (known_bound t (with_frame (frame_of does.verb) lane) does.binds) bound e in
    let known : known_bound t lane does.binds ≡ Ok bound = sym (known_framed t (frame_of does.verb) lane does.binds) ∙ h.1 in
    ap (λ (b : Bool). cond b (cond (allows (frame_of does.verb) lane.opened) (with_command (left_by does lane) (command_found t lane does)) (Err cause.Frame)) (Err cause.Number)) ranged
    ∙ ap (λ (b : Bool). cond b (with_command (left_by does lane) (command_found t lane does)) (Err cause.Frame)) may
    ∙ ap (λ (r : Result Known Cause). with_command (left_by does lane) (command_known does.verb r (operands_known (known_of t lane does.first) (known_of t lane does.second)))) known
    ∙ ap (λ (o : Option (Known × Known)). with_command (left_by does lane) (command_known does.verb (Ok bound) o)) operands
    ∙ ap (λ (o : Option LaneCmd). with_command (left_by does lane) (or_unknown o)) is
    ∙ ap (λ (l : LaneNames). Ok (l, command)) h.0

bind_left : (b : Binds) (lane : LaneNames) → ((with_bound b lane).opened ≡ lane.opened) × (count_of lane ≤ count_of (with_bound b lane))
bind_left binds.Nothing lane = (refl, omega arith)
bind_left (binds.Var var) lane = (refl, names_grow lane.names var)
bind_left (binds.Weak weak) lane = (refl, omega arith)
bind_left (binds.Members members) lane = vars_grow members lane

-- weak variables are never fewer
weaks_grow : (b : Binds) (weaks : List (List ℕ)) → length weaks ≤ length (more_weaks b weaks)
weaks_grow binds.Nothing weaks = omega arith
weaks_grow (binds.Var var) weaks = omega arith
weaks_grow (binds.Weak weak) weaks = names_grow weaks weak
weaks_grow (binds.Members members) weaks = omega arith

-- what is bound is there
bound_fits : (f : Frame) (b : Binds) (t : Tables) (lane : LaneNames) (vars count names weaks : ℕ) (k : Known) → Written b → count_of (with_bound b (with_frame f lane)) ≤ vars
    → length t.classes.classes ≤ count → length (more_weaks b t.weaks) ≤ weaks → known_bound t lane b ≡ Ok k → Fits vars count names weaks t.strong k
bound_fits f binds.Nothing t lane vars count names weaks k written few some wide e = subst (Fits vars count names weaks t.strong) (ok_same e) (refl, refl)
bound_fits f (binds.Var var) t lane vars count names weaks k written few some wide e =
    let below : number_in (with_frame f lane).names var < length (with_name (with_frame f lane).names var) = number_below (with_frame f lane).names var in
    subst (Fits vars count names weaks t.strong) (ok_same e) (
      below_true (number_in lane.names var) (length (with_name (with_frame f lane).names var)) vars
          (subst (λ (ns : List (List ℕ)). number_in ns var < length (with_name (with_frame f lane).names var)) (frame_left f lane).1 below) few,
      refl,
    )
bound_fits f (binds.Weak weak) t lane vars count names weaks k written few some wide e =
    subst (Fits vars count names weaks t.strong) (ok_same e) (refl, below_true (number_in t.weaks weak) (length (with_name t.weaks weak)) weaks (number_below t.weaks weak) wide)
bound_fits f (binds.Members members) t lane vars count names weaks k written few some wide e =
    let h =
    bound_fit t.classes.classes members (with_frame f lane) vars count k written few some
    (ap (λ (ns : List (List ℕ)). members_bound (are_apart members) (members_found t.classes.classes ns members)) (frame_left f lane).1 ∙ e) in
    subst (Fits vars count names weaks t.strong) h.2 (h.1, refl)

-- a command that is found
found_command : (verb : Verb) (r : Result Known Cause) (o p : Option Known) (c : LaneCmd) → command_known verb r (operands_known o p) ≡ Ok c
    → (bound : Known) × (first : Known) × (second : Known) × (r ≡ Ok bound) × (o ≡ Some first) × (p ≡ Some second) × (command_of verb bound first second ≡ Some c)
found_command verb r None p c e = err_ok e
found_command verb r (Some first) None c e = err_ok e
found_command verb (Err why) (Some first) (Some second) c e = err_ok e
found_command verb (Ok bound) (Some first) (Some second) c e = (bound, first, second, refl, refl, refl, known_some (command_of verb bound first second) c e)

found_facts : (t : Tables) (lane : LaneNames) (what : Does) (o : Result LaneCmd Cause) (left : LaneNames × LaneCmd) → Written what.binds → allows (frame_of what.verb) lane.opened ≡ true
    → command_found t lane what ≡ o → with_command (left_by what lane) o ≡ Ok left → FactsOf t lane what left
found_facts t lane what (Err why) left written may is e = err_ok e
found_facts t lane what (Ok c) left written may is e =
    let h = found_command what.verb (known_bound t lane what.binds) (known_of t lane what.first) (known_of t lane what.second) c is in
    let f = frame_left (frame_of what.verb) lane in
    let b = bind_left what.binds (with_frame (frame_of what.verb) lane) in
    let more : count_of lane ≤ count_of (left_by what lane) = subst (λ (ns : List (List ℕ)). length ns ≤ count_of (left_by what lane)) f.1 b.1 in
    let wider = weaks_grow what.binds t.weaks in
    let fit =
    λ (vars count names weaks : ℕ) (few : count_of (left_by what lane) ≤ vars) (some : length t.classes.classes ≤ count) (named : length t.fields ≤ names) (wide : length (more_weaks what.binds t.weaks) ≤ weaks).
    command_fits vars count names weaks t.strong lane.opened what.verb h.0 h.1 h.2 c may
    (bound_fits (frame_of what.verb) what.binds t lane vars count names weaks h.0 written few some wide h.3)
    (known_fits t lane vars count names weaks (omega (arith, more, few)) some named (omega (arith, wider, wide)) what.first h.1 h.4)
    (known_fits t lane vars count names weaks (omega (arith, more, few)) some named (omega (arith, wider, wide)) what.second h.2 h.5) h.6 in
    let least : length (more_weaks what.binds t.weaks) ≤ length (more_weaks what.binds t.weaks) = omega arith in
    let same : frame_by c ≡ frame_of what.verb =
    (fit (count_of (left_by what lane)) (length t.classes.classes) (length t.fields) (length (more_weaks what.binds t.weaks)) (omega arith) (omega arith) (omega arith) least).1 in
    subst (FactsOf t lane what) (ok_same e) (record {
      opened = b.0 ∙ f.0 ∙ ap (λ (g : Frame). opened_by g lane.opened) (sym same);
      grows = more;
      fit = λ vars count names few some named. (fit vars count names (length (more_weaks what.binds t.weaks)) few some named least).0;
      beside = λ weaks wide. (fit (count_of (left_by what lane)) (length t.classes.classes) (length t.fields) weaks (omega arith) (omega arith) (omega arith) wide).2;
    })

-- each step
step_facts : (t : Tables) (lane : LaneNames) (what : Does) (left : LaneNames × LaneCmd) → Written what.binds → lane_step t lane what ≡ Ok left → FactsOf t lane what left
step_facts t lane what left written e =
    let ranged = if_ok (is_in_range t.strong what.first && is_in_range t.strong what.second) _ cause.Number left e in
    let framed = if_ok (allows (frame_of what.verb) lane.opened) _ cause.Frame left ranged.1 in
    found_facts t lane what (command_found t lane what) left written framed.0 refl framed.1

-- ---- lines after one another

-- the frames after lines
frames_through : List Bool → List Line → List Bool
frames_through frames [] = frames
frames_through frames (line ∷ lines) = frames_through (frames_after frames line.cmd) lines

-- the frames after one more line
through_more : (frames : List Bool) (lines : List Line) (line : Line) → frames_through frames (lines ++ line ∷ []) ≡ frames_after (frames_through frames lines) line.cmd
unfolding frames_through
through_more frames [] line = refl
through_more frames (l ∷ lines) line = through_more (frames_after frames l.cmd) lines line

-- one more line that fits
framed_more : (vars : List ℕ) (classes fields : ℕ) (frames : List Bool) (lines : List Line) (line : Line)
    → are_framed vars classes fields frames lines ≡ true → fits vars classes fields (frames_through frames lines) line.cmd ≡ true
    → are_framed vars classes fields frames (lines ++ line ∷ []) ≡ true
unfolding are_framed frames_through
framed_more vars classes fields frames [] line was now = ap (λ b. b && true) now
framed_more vars classes fields frames (l ∷ lines) line was now =
    let parts = both (fits vars classes fields frames l.cmd) (are_framed vars classes fields (frames_after frames l.cmd) lines) was in
    (λ t. parts.0 t && framed_more vars classes fields (frames_after frames l.cmd) lines line parts.1 now t)

-- one more item that passes
all_push : {A : Type 0} (p : A → Bool) (xs : List A) (y : A) → list_all p xs ≡ true → p y ≡ true → list_all p (xs ++ y ∷ []) ≡ true
all_push p [] y h k = and_both (p y) true k refl
all_push p (x ∷ xs) y h k = let parts = both (p x) (list_all p xs) h in and_both _ _ parts.0 (all_push p xs y parts.1 k)

-- the lanes have no more variables than these
abbrev Within : List LaneNames → List ℕ → Type 0
Within lanes vars = (l : ℕ) → count_of (get_or lanes l closed_lane) ≤ get_or vars l 0

-- what is so of each context of a reading
record Good (limits : Limits) (c : Context) : Type 0 where
  lanes : length c.lanes ≡ limits.lanes
  now : frames_through (replicate limits.lanes false) c.lines ≡ map (λ lane. lane.opened) c.lanes
  framed : (vars : List ℕ) (classes fields : ℕ) → Within c.lanes vars → length c.tables.classes.classes ≤ classes → length c.tables.fields ≤ fields
      → are_framed vars classes fields (replicate limits.lanes false) c.lines ≡ true
  strong : c.tables.strong ≡ limits.strong
  beside : (weaks : ℕ) → length c.tables.weaks ≤ weaks → list_all (λ line. fits_script weaks limits.strong line.cmd) c.lines ≡ true
  slots : c.tables.classes.slots ≡ limits.slots
  some : 0 < length c.tables.classes.classes
  at_once : AllByRecursion IsAtOnce c.tables.classes.classes
  named : AllByRecursion IsNamed c.tables.classes.classes

-- a context with other lanes, in which this is bound
abbrev changed : Context → Binds → List LaneNames → Context
changed c what lanes = record { tables = with_weak what c.tables; in_header = c.in_header; lanes = lanes; lines = c.lines }

-- a line that fits keeps it
good_push : (limits : Limits) (c : Context) (what : Binds) (lanes : List LaneNames) (number : ℕ) (command : Cmd) → Good limits c → length lanes ≡ length c.lanes →
    frames_after (map (λ lane. lane.opened) c.lanes) command ≡ map (λ lane. lane.opened) lanes →
    ((l : ℕ) → count_of (get_or c.lanes l closed_lane) ≤ count_of (get_or lanes l closed_lane)) →
    ((vars : List ℕ) (classes names : ℕ) → Within lanes vars → length c.tables.classes.classes ≤ classes → length c.tables.fields ≤ names
    → fits vars classes names (map (λ lane. lane.opened) c.lanes) command ≡ true) →
    ((weaks : ℕ) → length (more_weaks what c.tables.weaks) ≤ weaks → fits_script weaks limits.strong command ≡ true) →
    Good limits (with_line (changed c what lanes) number command)
good_push limits c what lanes number command g same frames grow fit wide =
    let line : Line = record { number = number; cmd = command } in
    record {
      lanes = same ∙ g.lanes;
      now = through_more (replicate limits.lanes false) c.lines line ∙ ap (λ f. frames_after f command) g.now ∙ frames;
      framed = λ vars classes names within few named.
          framed_more vars classes names (replicate limits.lanes false) c.lines line
          (g.framed vars classes names (λ l. omega (arith, grow l, within l)) few named)
          (ap (λ f. fits vars classes names f command) g.now ∙ fit vars classes names within few named);
      strong = g.strong;
      beside = λ weaks few.
          all_push (λ line. fits_script weaks limits.strong line.cmd) c.lines line
          (g.beside weaks (let more = weaks_grow what c.tables.weaks in omega (arith, more, few))) (wide weaks few);
      slots = g.slots;
      some = g.some;
      at_once = g.at_once;
      named = g.named;
    }

-- an item that is there
got : (xs : List LaneNames) (i : ℕ) (x d : LaneNames) → slice_get xs i ≡ Some x → (i < length xs) × (get_or xs i d ≡ x)
got [] i x d e = absurd (cc)
got (y ∷ ys) zero x d e = (omega arith, some_same e)
got (y ∷ ys) (suc i) x d e = let h = got ys i x d e in (omega (arith, h.0), h.1)

-- where one lane has no fewer variables, none has fewer
set_grows : (xs : List LaneNames) (i : ℕ) (x : LaneNames) → count_of (get_or xs i closed_lane) ≤ count_of x → (l : ℕ)
    → count_of (get_or xs l closed_lane) ≤ count_of (get_or (slice_set xs i x) l closed_lane)
set_grows [] i x h l = omega arith
set_grows (y ∷ ys) zero x h zero = h
set_grows (y ∷ ys) zero x h (suc l) = omega arith
set_grows (y ∷ ys) (suc i) x h zero = omega arith
set_grows (y ∷ ys) (suc i) x h (suc l) = set_grows ys i x h l

-- a line of a lane fits
good_lane : (limits : Limits) (c : Context) (number i : ℕ) (lane left : LaneNames) (what : Does) (command : LaneCmd) → Good limits c
    → slice_get c.lanes i ≡ Some lane → StepFacts c.tables lane left what command →
    Good limits (with_line (changed c what.binds (slice_set c.lanes i left)) number (cmd.Lane i command))
good_lane limits c number i lane left what command g is facts =
    let there = got c.lanes i lane closed_lane is in
    let opened_here : slice_index_or (map (λ lane. lane.opened) c.lanes) i false ≡ lane.opened =
    get_or-map (λ (lane : LaneNames). lane.opened) c.lanes i closed_lane ∙ ap (λ (lane : LaneNames). lane.opened) there.1 in
    good_push limits c what.binds (slice_set c.lanes i left) number (cmd.Lane i command) g
    (length-set c.lanes i left)
    (ap (λ o. slice_set (map (λ lane. lane.opened) c.lanes) i (opened_after command o)) opened_here
    ∙ ap (slice_set (map (λ lane. lane.opened) c.lanes) i) (sym facts.opened)
    ∙ sym (map-set (λ (lane : LaneNames). lane.opened) c.lanes i left))
    (set_grows c.lanes i left (let P : LaneNames → Type 0 = λ l. count_of l ≤ count_of left in subst P (sym there.1) facts.grows))
    (λ vars classes names within few named.
    let inside : nat_lt i (length (map (λ lane. lane.opened) c.lanes)) ≡ true = lt-ltb i (length (map (λ lane. lane.opened) c.lanes)) (rw length-map there.0) in
    let most : count_of left ≤ get_or vars i 0 = (let P : LaneNames → Type 0 = λ l. count_of l ≤ get_or vars i 0 in subst P (get_or-set_same c.lanes i left closed_lane there.0) (within i)) in
    (λ t. inside t && fits_lane (slice_index vars i) classes names (opened_here t) command) ∙ facts.fit (get_or vars i 0) classes names most few named)
    (λ weaks few. subst (λ (n : ℕ). list_all (fits_beside weaks n) (beside_by command) ≡ true) g.strong (facts.beside weaks few))

-- a step of a lane keeps it
good_with_lane : (limits : Limits) (c next : Context) (number i : ℕ) (lane : LaneNames) (what : Does) (r : Result (LaneNames × LaneCmd) Cause)
    → Written what.binds → Good limits c → slice_get c.lanes i ≡ Some lane → lane_step c.tables lane what ≡ r → with_lane number c i what.binds r ≡ Ok next
    → Good limits next
good_with_lane limits c next number i lane what (Err why) written g is step e = err_ok e
good_with_lane limits c next number i lane what (Ok (left, command)) written g is step e =
    subst (Good limits) (ok_same e)
    (good_lane limits c number i lane left what command g is (step_facts c.tables lane what (left, command) written step))

-- so does a line of a lane that is there
good_lane_at : (limits : Limits) (c next : Context) (number i : ℕ) (what : Does) (o : Option LaneNames) → Written what.binds → Good limits c → slice_get c.lanes i ≡ o
    → lane_at number c i o what ≡ Ok next → Good limits next
good_lane_at limits c next number i what None written g is e = err_ok e
good_lane_at limits c next number i what (Some lane) written g is e = good_with_lane limits c next number i lane what (lane_step c.tables lane what) written g is refl e

-- and one of a number that may name a lane
good_lane_of : (limits : Limits) (c next : Context) (number : ℕ) (what : Does) (o : Option ℕ) → Written what.binds → Good limits c → lane_of number c o what ≡ Ok next → Good limits next
good_lane_of limits c next number what None written g e = err_ok e
good_lane_of limits c next number what (Some i) written g e = good_lane_at limits c next number i what (slice_get c.lanes i) written g refl e

-- ---- the header

-- what a line of the header leaves of the table: no fewer classes, the slots, and classes that are ready at once and have identifiers as names
record TableGrows (old new : Schema) : Type 0 where
  classes : length old.classes ≤ length new.classes
  slots : new.slots ≡ old.slots
  at_once : AllByRecursion IsAtOnce old.classes → AllByRecursion IsAtOnce new.classes
  named : AllByRecursion IsNamed old.classes → AllByRecursion IsNamed new.classes

-- what is so of each class, and of `Object`
module _ (P : Class → Type 0) (first : P object) where
  -- is so of the class at a place
  all_there : (classes : List Class) (i : ℕ) → AllByRecursion P classes → P (slice_index_or classes i object)
  all_there [] i h = first
  all_there (c ∷ classes) zero h = h.0
  all_there (c ∷ classes) (suc i) h = all_there classes i h.1

  -- and of one more
  all_more : (classes : List Class) (c : Class) → AllByRecursion P classes → P c → AllByRecursion P (classes ++ c ∷ [])
  all_more [] c h one = (one, tt)
  all_more (d ∷ classes) c h one = (h.0, all_more classes c h.1 one)

  -- and of one that is changed
  all_set : (classes : List Class) (i : ℕ) (c : Class) → AllByRecursion P classes → P c → AllByRecursion P (slice_set classes i c)
  all_set [] i c h one = tt
  all_set (d ∷ classes) zero c h one = (one, h.1)
  all_set (d ∷ classes) (suc i) c h one = (h.0, all_set classes i c h.1 one)

-- `Object` has an identifier as its name
object_named : IsNamed object
object_named = record { identifier = refl; bytes = refl }

-- so has a class with one more field
own_named : (class : Class) (field : Declaration) → IsNamed class → IsNamed (with_own class field)
own_named class field h = record { identifier = h.identifier; bytes = h.bytes }

added_grows : (t more : Schema) (line : ℕ) (name : List ℕ) (r : Result ClassId SchemaErr) → is_identifier name ≡ true → added_below t line name r ≡ Ok more → TableGrows t more
added_grows t more line name (Err refusal) is e = err_ok e
added_grows t more line name (Ok parent) is e =
    let new : Class = child t.classes line name parent in
    subst (TableGrows t) (ok_same e) (record {
      classes = omega (arith, length_push t.classes new);
      slots = refl;
      at_once = λ h. all_more IsAtOnce refl t.classes new h (all_there IsAtOnce refl t.classes parent.0 h);
      named = λ h. all_more IsNamed object_named t.classes new h (record { identifier = is; bytes = identifier_bytes name is });
    })

fielded_grows : (t more : Schema) (class : ClassId) (field : Declaration) (o : Option SchemaErr) → unless_refused (with_field t class field) o ≡ Ok more → TableGrows t more
fielded_grows t more class field (Some why) e = err_ok e
fielded_grows t more class field None e =
    let new : Class = with_own (class_at t.classes class) field in
    subst (TableGrows t) (ok_same e) (record {
      classes = omega (arith, length-set t.classes class.0 new);
      slots = refl;
      at_once = λ h. all_set IsAtOnce refl t.classes class.0 new h (all_there IsAtOnce refl t.classes class.0 h);
      named = λ h. all_set IsNamed object_named t.classes class.0 new h (own_named (class_at t.classes class) field (all_there IsNamed object_named t.classes class.0 h));
    })

-- a line of the header keeps it
good_classes : (limits : Limits) (c next : Context) (r : Result Schema SchemaErr) → Good limits c
    → ((more : Schema) → r ≡ Ok more → TableGrows c.tables.classes more) → with_classes c r ≡ Ok next → Good limits next
good_classes limits c next (Err refusal) g grows e = err_ok e
good_classes limits c next (Ok more) g grows e =
    let t = grows more refl in
    subst (Good limits) (ok_same e) (record {
      lanes = g.lanes;
      now = g.now;
      framed = λ vars count names within few named. g.framed vars count names within (omega (arith, t.classes, few)) named;
      strong = g.strong;
      beside = g.beside;
      slots = t.slots ∙ g.slots;
      some = omega (arith, t.classes, g.some);
      at_once = t.at_once g.at_once;
      named = t.named g.named;
    })

-- so does one that tells a field, whose name is known then
good_named : (limits : Limits) (c next : Context) (name : List ℕ) (r : Result Schema SchemaErr) → Good limits c
    → ((more : Schema) → r ≡ Ok more → TableGrows c.tables.classes more) → with_named c name r ≡ Ok next → Good limits next
good_named limits c next name (Err refusal) g grows e = err_ok e
good_named limits c next name (Ok more) g grows e =
    let t = grows more refl in
    subst (Good limits) (ok_same e) (record {
      lanes = g.lanes;
      now = g.now;
      framed = λ vars count names within few named. g.framed vars count names within (omega (arith, t.classes, few)) (omega (arith, names_grow c.tables.fields name, named));
      strong = g.strong;
      beside = g.beside;
      slots = t.slots ∙ g.slots;
      some = omega (arith, t.classes, g.some);
      at_once = t.at_once g.at_once;
      named = t.named g.named;
    })

-- that is each line that tells a field
good_field : (limits : Limits) (c next : Context) (number : ℕ) (name : List ℕ) (count : ℕ) (class : Option ClassId) (what : Option FieldKind)
    → Good limits c → field_known number c name count class what ≡ Ok next → Good limits next
good_field limits c next number name count None what g e = err_ok e
good_field limits c next number name count (Some class) None g e = err_ok e
good_field limits c next number name count (Some class) (Some what) g e =
    let field : Declaration = record { name = name; line = number; kind = what; count = count } in
    good_named limits c next name (field_added c.tables.classes class field) g (λ more is. fielded_grows c.tables.classes more class field (field_refusal c.tables.classes class field.name field.count) is) e

good_counted : (limits : Limits) (c next : Context) (number : ℕ) (class name : List ℕ) (what : FieldOf) (o : Option ℕ) → Good limits c
    → field_counted number c class name what o ≡ Ok next → Good limits next
good_counted limits c next number class name what None g e = err_ok e
good_counted limits c next number class name what (Some count) g e = good_field limits c next number name count (find_class c.tables.classes.classes class) (kind_found c.tables.classes.classes what) g e

-- ---- whole inputs

-- what a line says keeps it
good_act : (limits : Limits) (c next : Context) (number : ℕ) (what : Said) → Good limits c → SaysName what → after_said number c what ≡ Ok next → Good limits next
good_act limits c next number said.Nothing g says e = subst (Good limits) (ok_same e) g
good_act limits c next number (said.Class name parent) g says e =
    good_classes limits c next (added c.tables.classes number name parent) g
    (λ more is. added_grows c.tables.classes more number name (admitted c.tables.classes.classes name parent) says is) e
good_act limits c next number (said.Field class name what count) g says e = good_counted limits c next number class name what (elements_in count) g e
good_act limits c next number said.Full g says e =
    subst (Good limits) (ok_same e)
    (good_push limits c binds.Nothing c.lanes number (cmd.Gc gc_cmd.Full) g refl refl (λ l. omega arith) (λ vars classes names within few named. refl) (λ weaks few. refl))
good_act limits c next number (said.Lane lane what) g says e = good_lane_of limits c next number what (lane_index (length c.lanes) lane) says g e

-- so does a line that says something
good_said : (limits : Limits) (c next : Context) (number : ℕ) (r : Result Said Cause) → Good limits c → SaysNameIfOk r → if_said number c r ≡ Ok next → Good limits next
good_said limits c next number (Err why) g says e = err_ok e
good_said limits c next number (Ok what) g says e = good_act limits c next number what g says e

-- a line that is read is not too late
pub short_enough : (b : Bool) (r : Result Context Cause) (next : Context) → cond b (Err cause.TooLong) r ≡ Ok next → r ≡ Ok next
short_enough true r next e = err_ok e
short_enough false r next e = e

-- each line keeps it
good_line : (limits : Limits) (c next : Context) (number : ℕ) (line : List ℕ) → Good limits c → after_numbered number c line ≡ Ok next → Good limits next
unfolding after_numbered
good_line limits c next number line g e =
    good_said limits c next number (said_by_line c.in_header line) g (line_says c.in_header line)
    (short_enough (nat_lt 200000 number) (after_line number c line) next e)

-- what is read on is read after a line
pub on_ok : (number : ℕ) (r : Result Context Cause) (more : Context → Result Context ScriptErr) (last : Context) → read_on number r more ≡ Ok last
    → (next : Context) × (r ≡ Ok next) × (more next ≡ Ok last)
on_ok number (Err why) more last e = err_ok e
on_ok number (Ok next) more last e = (next, refl, e)

-- all lines keep it
good_lines : (limits : Limits) (lines : List (List ℕ)) (number : ℕ) (c last : Context) → Good limits c → read_from number c lines ≡ Ok last → Good limits last
unfolding read_from
good_lines limits [] number c last g e = subst (Good limits) (ok_same e) g
good_lines limits (line ∷ lines) number c last g e =
    let h = on_ok number (after_numbered number c line) (λ next. read_from (number + 1) next lines) last e in
    good_lines limits lines (number + 1) h.0 last (good_line limits c h.0 number line g h.1) h.2

-- so many lanes
length_copies : (n : ℕ) → length (replicate n closed_lane) ≡ n
length_copies zero = refl
length_copies (suc n) = ap suc (length_copies n)

-- all frames are closed at first
closed_copies : (n : ℕ) → replicate n false ≡ map (λ lane. lane.opened) (replicate n closed_lane)
closed_copies zero = refl
closed_copies (suc n) = ap (λ fs. false ∷ fs) (closed_copies n)

-- it is so before the first line
good_start : (limits : Limits) → Good limits (start limits)
unfolding frames_through are_framed
good_start limits =
    record {
      lanes = length_copies limits.lanes;
      now = closed_copies limits.lanes;
      framed = λ vars classes names within few named. refl;
      strong = refl;
      beside = λ weaks few. refl;
      slots = refl;
      some = omega arith;
      at_once = (refl, tt);
      named = (object_named, tt);
    }

-- the script of such a context can be played
good_script : (limits : Limits) (c : Context) → Good limits c → IsPlayable limits (script_from c)
good_script limits c g = record {
  lanes = rw length-map g.lanes;
  slots = g.slots;
  at_once = g.at_once;
  named = g.named;
  framed =
      g.framed (map count_of c.lanes) (length c.tables.classes.classes) (length c.tables.fields)
      (λ l. let same : get_or (map count_of c.lanes) l 0 ≡ count_of (get_or c.lanes l closed_lane) = get_or-map count_of c.lanes l closed_lane in
      omega (arith, same)) (omega arith) (omega arith);
  classes = g.some;
  beside = g.beside (length c.tables.weaks) (omega arith);
}

-- so can each script of lines
good_outcome : (limits : Limits) (r : Result Context ScriptErr) (script : Script) → ((c : Context) → r ≡ Ok c → Good limits c) → result_ok (script_of_lines r) ≡ Some script → IsPlayable limits script
good_outcome limits (Err fault) script good e = absurd (cc)
good_outcome limits (Ok c) script good e = subst (IsPlayable limits) (some_same e) (good_script limits c (good c refl))

-- and each of an input
good_input : (limits : Limits) (b : Bool) (r : Result Context ScriptErr) (script : Script) → ((c : Context) → r ≡ Ok c → Good limits c)
    → result_ok (cond b (Err (fault_at 0 cause.TooLong)) (script_of_lines r)) ≡ Some script → IsPlayable limits script
good_input limits true r script good e = absurd (cc)
good_input limits false r script good e = good_outcome limits r script good e

-- each script can be played
pub playable : (bytes : List ℕ) (limits : Limits) (script : Script) → script_of bytes limits ≡ Some script → IsPlayable limits script
unfolding script_of outcome_of
playable bytes limits script e =
    good_input limits (nat_lt 16777216 (length bytes)) (read_from 1 (start limits) (input_lines bytes)) script
    (λ c is. good_lines limits (input_lines bytes) 1 (start limits) c (good_start limits) is) e
