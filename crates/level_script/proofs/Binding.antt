-- A variable is bound exactly where a line binds it and none behind closes the frame.
use Rattle.std.proofs.Common.{◌≡◌, ℕ, zero, suc, ◌+◌, ◌==◌, inl, inr, refl, sym, ap, subst, ◌∙◌, Bool, true, false, cond, not, ◌&&◌, ◌||◌, List, [], ◌∷◌, ◌++◌, length, replicate, Option, Some, None, Result, Ok, Err, ◌⊎◌}
use Rattle.std.specs.Prelude.{nat_lt, slice_get}
use Rattle.std.specs.List.{list_all, list_any}
use Rattle.std.specs.Str.{bytes_eq, is_utf8}
use Rattle.std.specs.Prelude.{codes}
use Rattle.std.proofs.lemmas.Bool.{false_from_ne_true, eqb-true, eq-eqb}
use Rattle.std.proofs.lemmas.List.Folds.{list_any-append}
use Rattle.class_schema.proofs.Labels.{same_bytes}
use Rattle.class_schema.proofs.Places.{set_cases}
use Rattle.world_model.specs.declared.kind.ClassId.{ClassId}
use Rattle.class_schema.specs.Class.{Schema}
use Rattle.class_schema.specs.Table.{find_class, added, field_added}
use Rattle.class_schema.specs.declared.field.FieldKind.{FieldKind}
use Rattle.class_schema.specs.declared.refusal.SchemaErr.{SchemaErr}
use Rattle.level_script.specs.Commands.{pair_of, class_names, class_told, class_line, count_of, field_of, two_names, field_said, field_elements, field_told, field_line, said_by_words, said_by_line}
use Rattle.level_script.specs.Context.{start, with_classes, with_named, more_weaks, elements_in, kind_found, field_known, field_counted, with_lane, lane_at, lane_of, if_said, after_line}
use Rattle.level_script.specs.Following.{is_bound_by, binds_name, is_close, says_of, line_of, IsBoundBy, BoundByLines, is_weak_by, says_weak, binds_weak, WeakByLines}
use Rattle.level_script.specs.Forms.{identifier_of, is_comment}
use Rattle.level_script.specs.LaneCommands.{frame_of}
use Rattle.level_script.specs.Lanes.{closed_lane, bound_var, if_bound, with_var, with_vars, with_bound, with_frame, command_found, left_by, with_command, lane_step, lane_index}
use Rattle.level_script.specs.Operands.{allows, closes, is_some, is_in_range}
use Rattle.level_script.specs.Lines.{line_words}
use Rattle.level_script.specs.Names.{number_of_name, number_in, with_name, has_number, with_number}
use Rattle.level_script.specs.Reading.{after_numbered, read_from}
use Rattle.level_script.specs.declared.cause.Cause.{Cause}
use Rattle.level_script.specs.declared.cause.Cause.TheVariants as cause
use Rattle.level_script.specs.declared.context.Context.{Context}
use Rattle.level_script.specs.declared.lanes.LaneNames.{LaneNames}
use Rattle.level_script.specs.declared.said.Does.{Does}
use Rattle.level_script.specs.declared.said.FieldOf.{FieldOf}
use Rattle.level_script.specs.declared.said.Said.{Said}
use Rattle.level_script.specs.declared.said.Said.TheVariants as said
use Rattle.level_script.specs.declared.lane_cmd.LaneCmd.{LaneCmd}
use Rattle.level_script.specs.declared.tables.Tables.{Tables}
use Rattle.level_script.specs.declared.operand.Binds.{Binds}
use Rattle.level_script.specs.declared.operand.Binds.TheVariants as binds
use Rattle.level_script.specs.declared.operand.Frame.{Frame}
use Rattle.level_script.specs.declared.operand.Frame.TheVariants as frame
use Rattle.level_script.proofs.Framing.{short_enough, on_ok}
use Rattle.level_script.proofs.Places.{ok_same, err_ok, some_same, and_both, both, found_new, found_other, other_place, eq_self, eq_flip}

-- ---- numbers that are bound

-- whether a name is bound
abbrev is_bound : LaneNames → List ℕ → Bool
is_bound lane name = is_some (bound_var lane name)

has_new : (bound : List ℕ) (k : ℕ) → has_number (with_number bound k) k ≡ true
has_new bound k = go (has_number bound k) refl
  where
    go : (b : Bool) → has_number bound k ≡ b → has_number (cond b bound (bound ++ k ∷ [])) k ≡ true
    go true e = e
    go false e = list_any-append (λ n. k == n) bound (k ∷ []) ∙ (rw (e, eq_self k) refl)

has_old : (bound : List ℕ) (k i : ℕ) → (i == k) ≡ false → has_number (with_number bound k) i ≡ has_number bound i
has_old bound k i other = go (has_number bound k)
  where
    go : (b : Bool) → has_number (cond b bound (bound ++ k ∷ [])) i ≡ has_number bound i
    go true = refl
    go false = list_any-append (λ n. i == n) bound (k ∷ []) ∙ ap (λ (b : Bool). has_number bound i || (b || false)) other ∙ last (has_number bound i)
      where
        last : (b : Bool) → (b || (false || false)) ≡ b
        last true = refl
        last false = refl

-- a number that is there is bound where it is among those that are
bound_some : (bound : List ℕ) (o : Option ℕ) (i : ℕ) → o ≡ Some i → is_some (if_bound bound o) ≡ has_number bound i
bound_some bound None i e = absurd cc
bound_some bound (Some j) i e = go (has_number bound j) refl (some_same e)
  where
    go : (b : Bool) → has_number bound j ≡ b → j ≡ i → is_some (cond b (Some j) None) ≡ has_number bound i
    go true is same = sym is ∙ ap (has_number bound) same
    go false is same = sym is ∙ ap (has_number bound) same

-- one more name is bound, and the others are what they were
bound_more : (opened : Bool) (lane : LaneNames) (var name : List ℕ)
    → is_bound (record { opened = opened; names = with_name lane.names var; bound = with_number lane.bound (number_in lane.names var) }) name ≡ (is_bound lane name || bytes_eq name var)
bound_more opened lane var name = go (bytes_eq name var) refl
  where
    k : ℕ
    k = number_in lane.names var

    or_last : (b : Bool) → (b || true) ≡ true
    or_last true = refl
    or_last false = refl

    or_none : (b : Bool) → b ≡ (b || false)
    or_none true = refl
    or_none false = refl

    other : bytes_eq name var ≡ false → (o : Option ℕ) → number_of_name lane.names name ≡ o → is_some (if_bound (with_number lane.bound k) o) ≡ is_some (if_bound lane.bound o)
    other e None is = refl
    other e (Some i) is =
        bound_some (with_number lane.bound k) (Some i) i refl ∙ has_old lane.bound k i (eq_flip i k (other_place lane.names var name i e is))
        ∙ sym (bound_some lane.bound (Some i) i refl)

    go : (b : Bool) → bytes_eq name var ≡ b → is_some (if_bound (with_number lane.bound k) (number_of_name (with_name lane.names var) name)) ≡ (is_bound lane name || b)
    go true e =
        let same : name ≡ var = same_bytes name var e in
        bound_some (with_number lane.bound k) (number_of_name (with_name lane.names var) name) k (ap (number_of_name (with_name lane.names var)) same ∙ found_new lane.names var)
        ∙ has_new lane.bound k ∙ sym (or_last (is_bound lane name))
    go false e =
        ap (λ o. is_some (if_bound (with_number lane.bound k) o)) (found_other lane.names var name e)
        ∙ other e (number_of_name lane.names name) refl ∙ or_none (is_bound lane name)

-- where no number is bound no name is
bound_none : (o : Option ℕ) → is_some (if_bound [] o) ≡ false
bound_none None = refl
bound_none (Some i) = refl

-- ---- a step of a lane

nothing_more : (b : Bool) → b ≡ (b || false)
nothing_more true = refl
nothing_more false = refl

or_three : (a b c : Bool) → ((a || b) || c) ≡ (a || (b || c))
or_three true b c = refl
or_three false b c = refl

-- the names of members are bound, and the others are what they were
vars_more : (members : List (List ℕ × List ℕ)) (lane : LaneNames) (name : List ℕ) → is_bound (with_vars members lane) name ≡ (is_bound lane name || list_any (λ m. bytes_eq name m.0) members)
vars_more [] lane name = nothing_more (is_bound lane name)
vars_more ((var, class) ∷ members) lane name =
    vars_more members (with_var var lane) name
    ∙ ap (λ (b : Bool). b || list_any (λ m. bytes_eq name m.0) members) (bound_more lane.opened lane var name)
    ∙ or_three (is_bound lane name) (bytes_eq name var) (list_any (λ m. bytes_eq name m.0) members)

-- what is bound after something was done
abbrev bound_by : List ℕ → Does → Bool → Bool
bound_by name what was = (was && not (is_close what)) || binds_name name what

kept : (b : Bool) → b ≡ ((b && true) || false)
kept true = refl
kept false = refl

not_closed : (b : Bool) → b ≡ (b && true)
not_closed true = refl
not_closed false = refl

closed : (b : Bool) → false ≡ (b && false)
closed true = refl
closed false = refl

module _ (lane : LaneNames) (name : List ℕ) where
  -- an answer tells what is bound
  abbrev Tells : Bool → Result (LaneNames × LaneCmd) Cause → Type 0
  Tells now r = (left : LaneNames) (command : LaneCmd) → r ≡ Ok (left, command) → is_bound left name ≡ now

  tells : (now : Bool) (left : LaneNames) (command : LaneCmd) → is_bound left name ≡ now → Tells now (Ok (left, command))
  tells now left command is other more e = ap (λ (l : LaneNames). is_bound l name) (sym (ap (λ (r : LaneNames × LaneCmd). r.0) (ok_same e))) ∙ is

  fails : (now : Bool) (why : Cause) → Tells now (Err why)
  fails now why left command e = err_ok e

  either : (now b : Bool) (r s : Result (LaneNames × LaneCmd) Cause) → Tells now r → Tells now s → Tells now (cond b r s)
  either now true r s x y = x
  either now false r s x y = y

  -- the frame ends what is bound where it closes
  framed_bound : (f : Frame) → is_bound (with_frame f lane) name ≡ (is_bound lane name && not (closes f))
  framed_bound frame.Opens = not_closed (is_bound lane name)
  framed_bound frame.Closes = bound_none (number_of_name lane.names name) ∙ closed (is_bound lane name)
  framed_bound frame.Inside = not_closed (is_bound lane name)
  framed_bound frame.Anywhere = not_closed (is_bound lane name)

  binds_more : (b : Binds) (l : LaneNames) → is_bound (with_bound b l) name ≡ (is_bound l name || is_bound_by name b)
  binds_more binds.Nothing l = nothing_more (is_bound l name)
  binds_more (binds.Var var) l = bound_more l.opened l var name
  binds_more (binds.Weak weak) l = nothing_more (is_bound l name)
  binds_more (binds.Members members) l = vars_more members l name

  found_tells : (what : Does) (o : Result LaneCmd Cause) → Tells (bound_by name what (is_bound lane name)) (with_command (left_by what lane) o)
  found_tells what (Err why) = fails _ why
  found_tells what (Ok command) =
      tells _ _ command (binds_more what.binds (with_frame (frame_of what.verb) lane) ∙ ap (λ (b : Bool). b || binds_name name what) (framed_bound (frame_of what.verb)))

  -- Each thing that a lane does binds the names that it says, and a close ends all.
  step_tells : (t : Tables) (what : Does) → Tells (bound_by name what (is_bound lane name)) (lane_step t lane what)
  step_tells t what =
      either _ (is_in_range t.strong what.first && is_in_range t.strong what.second) _ _
      (either _ (allows (frame_of what.verb) lane.opened) _ _ (found_tells what (command_found t lane what)) (fails _ cause.Frame)) (fails _ cause.Number)

-- ---- a line

-- A test of what a line says fails for a fault and for the lines of the header.
module _ (test : Result Said Cause → Bool) (err : (why : Cause) → test (Err why) ≡ false) (no_class : (name parent : List ℕ) → test (Ok (said.Class name parent)) ≡ false)
    (no_field : (class name : List ℕ) (what : FieldOf) (count : Option (Option ℕ)) → test (Ok (said.Field class name what count)) ≡ false) where
  class_names_quiet : (o p : Option (List ℕ)) → test (class_names o p) ≡ false
  class_names_quiet None p = err cause.Words
  class_names_quiet (Some name) None = err cause.Words
  class_names_quiet (Some name) (Some parent) = no_class name parent

  class_told_quiet : (o : Option (List ℕ × List ℕ)) → test (class_told o) ≡ false
  class_told_quiet None = err cause.Words
  class_told_quiet (Some (name, parent)) = class_names_quiet (identifier_of name) (identifier_of parent)

  class_quiet : (in_header : Bool) (words : List (List ℕ)) → test (class_line in_header words) ≡ false
  class_quiet false words = err cause.UnknownCommand
  class_quiet true words = class_told_quiet (pair_of words)

  field_said_quiet : (class name : List ℕ) (what : FieldOf) (r : Result (Option (Option ℕ)) Cause) → test (field_said class name what r) ≡ false
  field_said_quiet class name what (Ok count) = no_field class name what count
  field_said_quiet class name what (Err why) = err why

  field_elements_quiet : (class name : List ℕ) (o : Option (FieldOf × List (List ℕ))) → test (field_elements class name o) ≡ false
  field_elements_quiet class name None = err cause.Words
  field_elements_quiet class name (Some (what, words)) = field_said_quiet class name what (count_of words)

  field_told_quiet : (o : Option (List ℕ × List ℕ × List (List ℕ))) → test (field_told o) ≡ false
  field_told_quiet None = err cause.Words
  field_told_quiet (Some (class, name, words)) = field_elements_quiet class name (field_of words)

  field_quiet : (in_header : Bool) (words : List (List ℕ)) → test (field_line in_header words) ≡ false
  field_quiet false words = err cause.UnknownCommand
  field_quiet true words = field_told_quiet (two_names words)

  -- a choice of two pairs of answers that say the same
  alike : (b : Bool) (r s t u : Result Said Cause) → test r ≡ test t → test s ≡ test u → test (cond b r s) ≡ test (cond b t u)
  alike true r s t u x y = x
  alike false r s t u x y = y

  -- what a line says by the test is the same in the header and after it
  words_alike : (in_header : Bool) (words : List (List ℕ)) → test (said_by_words in_header words) ≡ test (said_by_words false words)
  words_alike in_header [] = refl
  words_alike in_header (word ∷ words) =
      alike (is_comment word) _ _ _ _ refl
      (alike (bytes_eq word (codes "class")) _ _ _ _ (class_quiet in_header words ∙ sym (class_quiet false words))
      (alike (bytes_eq word (codes "field")) _ _ _ _ (field_quiet in_header words ∙ sym (field_quiet false words)) refl))

  test_alike : (in_header : Bool) (line : List ℕ) → test (said_by_line in_header line) ≡ test (said_by_line false line)
  test_alike in_header line = alike (is_utf8 line) _ _ _ _ (words_alike in_header (line_words line)) refl

-- what a line says of a lane is the same in the header and after it
line_alike : (index : ℕ) (such : Does → Bool) (in_header : Bool) (line : List ℕ) → says_of index such (said_by_line in_header line) ≡ line_of index such line
line_alike index such in_header line = test_alike (says_of index such) (λ why. refl) (λ name parent. refl) (λ class name what count. refl) in_header line

-- what is bound of a name in a lane after a line that says this
abbrev said_bound : ℕ → List ℕ → Result Said Cause → Bool → Bool
said_bound index name r was = (was && not (says_of index is_close r)) || says_of index (binds_name name) r

-- a lane of the context after a line was there before, and what is bound in it is what the line leaves
abbrev Leaves : ℕ → List ℕ → Result Said Cause → Context → Context → Type 0
Leaves index name r c next =
    (left : LaneNames) → slice_get next.lanes index ≡ Some left
    → (lane : LaneNames) × (slice_get c.lanes index ≡ Some lane) × (is_bound left name ≡ said_bound index name r (is_bound lane name))

-- the lanes are what they were
leaves_same : (index : ℕ) (name : List ℕ) (r : Result Said Cause) (c next : Context) → says_of index is_close r ≡ false
    → says_of index (binds_name name) r ≡ false → next.lanes ≡ c.lanes → Leaves index name r c next
leaves_same index name r c next no_close no_bind same left e =
    (left, sym (ap (λ (ls : List LaneNames). slice_get ls index) same) ∙ e, kept (is_bound left name) ∙ (λ i. (is_bound left name && not (sym no_close i)) || sym no_bind i))

-- the lanes and the weak variables are what they were
abbrev Same : Context → Context → Type 0
Same c next = (next.lanes ≡ c.lanes) × (next.tables.weaks ≡ c.tables.weaks)

same_ok : {E : Type 0} (c d next : Context) → Same c d → ◌≡◌ {A = Result Context E} (Ok d) (Ok next) → Same c next
same_ok c d next h e = subst (Same c) (ok_same e) h

with_classes_leaves : (c next : Context) (r : Result Schema SchemaErr) → with_classes c r ≡ Ok next → Same c next
with_classes_leaves c next (Ok classes) e = same_ok c _ next (refl, refl) e
with_classes_leaves c next (Err why) e = err_ok e

with_named_leaves : (c next : Context) (name : List ℕ) (r : Result Schema SchemaErr) → with_named c name r ≡ Ok next → Same c next
with_named_leaves c next name (Ok classes) e = same_ok c _ next (refl, refl) e
with_named_leaves c next name (Err why) e = err_ok e

field_leaves : (c next : Context) (number : ℕ) (name : List ℕ) (count : ℕ) (class : Option ClassId) (what : Option FieldKind) → field_known number c name count class what ≡ Ok next → Same c next
field_leaves c next number name count None what e = err_ok e
field_leaves c next number name count (Some class) None e = err_ok e
field_leaves c next number name count (Some class) (Some what) e =
    with_named_leaves c next name (field_added c.tables.classes class (record { name = name; line = number; kind = what; count = count })) e

counted_leaves : (c next : Context) (number : ℕ) (class name : List ℕ) (what : FieldOf) (o : Option ℕ) → field_counted number c class name what o ≡ Ok next → Same c next
counted_leaves c next number class name what None e = err_ok e
counted_leaves c next number class name what (Some count) e =
    field_leaves c next number name count (find_class c.tables.classes.classes class) (kind_found c.tables.classes.classes what) e

-- a lane's line
eq_other : (i k : ℕ) → (i ≡ k → ⊥) → (i == k) ≡ false
eq_other i k ne = false_from_ne_true _ (λ e. ne (eqb-true i k e))

step_leaves : (index : ℕ) (name : List ℕ) (number at : ℕ) (what : Does) (c next : Context) (lane : LaneNames) (r : Result (LaneNames × LaneCmd) Cause)
    → slice_get c.lanes at ≡ Some lane → lane_step c.tables lane what ≡ r
    → with_lane number c at what.binds r ≡ Ok next → Leaves index name (Ok (said.Lane (Some at) what)) c next
step_leaves index name number at what c next lane (Err why) is step e = err_ok e
step_leaves index name number at what c next lane (Ok (now, command)) is step e = λ left there.
    go left (set_cases c.lanes at index now left (ap (λ (d : Context). slice_get d.lanes index) (ok_same e) ∙ there))
  where
    go : (left : LaneNames) → ((index ≡ at) × (left ≡ now)) ⊎ ((at ≡ index → ⊥) × (slice_get c.lanes index ≡ Some left))
        → (old : LaneNames) × (slice_get c.lanes index ≡ Some old) × (is_bound left name ≡ said_bound index name (Ok (said.Lane (Some at) what)) (is_bound old name))
    go left (inl (here, is_now)) =
        let own : (at == index) ≡ true = eq-eqb at index (sym here) in (
          lane,
          ap (slice_get c.lanes) here ∙ is,
          ap (λ (l : LaneNames). is_bound l name) is_now ∙ step_tells lane name c.tables what now command step
              ∙ (λ i. (is_bound lane name && not (sym own i && is_close what)) || (sym own i && binds_name name what)),
        )
    go left (inr (other, stays)) =
        let apart : (at == index) ≡ false = eq_other at index other in
        (left, stays, kept (is_bound left name) ∙ (λ i. (is_bound left name && not (sym apart i && is_close what)) || (sym apart i && binds_name name what)))

lane_leaves : (index : ℕ) (name : List ℕ) (number at : ℕ) (what : Does) (c next : Context) (o : Option LaneNames) → slice_get c.lanes at ≡ o
    → lane_at number c at o what ≡ Ok next → Leaves index name (Ok (said.Lane (Some at) what)) c next
lane_leaves index name number at what c next None is e = err_ok e
lane_leaves index name number at what c next (Some lane) is e = step_leaves index name number at what c next lane (lane_step c.tables lane what) is refl e

index_leaves : (index : ℕ) (name : List ℕ) (number : ℕ) (what : Does) (c next : Context) (o : Option ℕ)
    → lane_of number c (lane_index (length c.lanes) o) what ≡ Ok next → Leaves index name (Ok (said.Lane o what)) c next
index_leaves index name number what c next None e = err_ok e
index_leaves index name number what c next (Some at) e = go (nat_lt at (length c.lanes)) e
  where
    go : (b : Bool) → lane_of number c (cond b (Some at) None) what ≡ Ok next → Leaves index name (Ok (said.Lane (Some at) what)) c next
    go true e = lane_leaves index name number at what c next (slice_get c.lanes at) refl e
    go false e = err_ok e

said_leaves : (index : ℕ) (name : List ℕ) (number : ℕ) (c next : Context) (r : Result Said Cause) → if_said number c r ≡ Ok next → Leaves index name r c next
said_leaves index name number c next (Err why) e = err_ok e
said_leaves index name number c next (Ok said.Nothing) e = leaves_same index name (Ok said.Nothing) c next refl refl (sym (ap (λ (d : Context). d.lanes) (ok_same e)))
said_leaves index name number c next (Ok (said.Class class parent)) e =
    leaves_same index name (Ok (said.Class class parent)) c next refl refl (with_classes_leaves c next (added c.tables.classes number class parent) e).0
said_leaves index name number c next (Ok (said.Field class field what count)) e =
    leaves_same index name (Ok (said.Field class field what count)) c next refl refl
    (counted_leaves c next number class field what (elements_in count) e).0
said_leaves index name number c next (Ok said.Full) e = leaves_same index name (Ok said.Full) c next refl refl (sym (ap (λ (d : Context). d.lanes) (ok_same e)))
said_leaves index name number c next (Ok (said.Lane lane what)) e = index_leaves index name number what c next lane e

-- what is bound of a name in a lane after a line
abbrev line_bound : ℕ → List ℕ → List ℕ → Bool → Bool
line_bound index name line was = (was && not (line_of index is_close line)) || line_of index (binds_name name) line

line_leaves : (index : ℕ) (name : List ℕ) (number : ℕ) (c next : Context) (line : List ℕ) → after_numbered number c line ≡ Ok next
    → (left : LaneNames) → slice_get next.lanes index ≡ Some left → (lane : LaneNames) × (slice_get c.lanes index ≡ Some lane) × (is_bound left name ≡ line_bound index name line (is_bound lane name))
unfolding after_numbered
line_leaves index name number c next line e left there =
    let h = said_leaves index name number c next (said_by_line c.in_header line) (short_enough (nat_lt 200000 number) (after_line number c line) next e) left there in
    (h.0, h.1, h.2 ∙ (λ i. (is_bound h.0 name && not (line_alike index is_close c.in_header line i)) || line_alike index (binds_name name) c.in_header line i))

-- ---- lines

-- what is bound of a name in a lane after lines
lines_bound : ℕ → List ℕ → Bool → List (List ℕ) → Bool
lines_bound index name was [] = was
lines_bound index name was (line ∷ lines) = lines_bound index name (line_bound index name line was) lines

lines_leave : (index : ℕ) (name : List ℕ) (lines : List (List ℕ)) (number : ℕ) (c last : Context) → read_from number c lines ≡ Ok last
    → (left : LaneNames) → slice_get last.lanes index ≡ Some left
    → (lane : LaneNames) × (slice_get c.lanes index ≡ Some lane) × (is_bound left name ≡ lines_bound index name (is_bound lane name) lines)
unfolding read_from lines_bound
lines_leave index name [] number c last e left there = (left, ap (λ (d : Context). slice_get d.lanes index) (ok_same e) ∙ there, refl)
lines_leave index name (line ∷ lines) number c last e left there =
    let h = on_ok number (after_numbered number c line) (λ next. read_from (number + 1) next lines) last e in
    let later = lines_leave index name lines (number + 1) h.0 last h.2 left there in
    let now = line_leaves index name number c h.0 line h.1 later.0 later.1 in
    (now.0, now.1, later.2 ∙ ap (λ (b : Bool). lines_bound index name b lines) now.2)

-- a line binds it, and none behind ends it; or it was bound, and none ends it
abbrev StillOr : ℕ → List ℕ → Bool → List (List ℕ) → Type 0
StillOr index name was lines = ((was ≡ true) × (list_all (λ l. not (line_of index is_close l)) lines ≡ true)) ⊎ IsBoundBy index name lines

or_cases : (a b : Bool) → (a || b) ≡ true → (a ≡ true) ⊎ (b ≡ true)
or_cases true b e = inl refl
or_cases false b e = inr e

bound_from : (index : ℕ) (name : List ℕ) (lines : List (List ℕ)) (was : Bool) → lines_bound index name was lines ≡ true → StillOr index name was lines
unfolding lines_bound
bound_from index name [] was e = inl (e, refl)
bound_from index name (line ∷ lines) was e = go (bound_from index name lines (line_bound index name line was) e)
  where
    by : ((was && not (line_of index is_close line)) ≡ true) ⊎ (line_of index (binds_name name) line ≡ true)
        → list_all (λ l. not (line_of index is_close l)) lines ≡ true → StillOr index name was (line ∷ lines)
    by (inl h) rest = let parts = both was (not (line_of index is_close line)) h in inl (parts.0, and_both _ _ parts.1 rest)
    by (inr h) rest = inr (record { front = []; line = line; behind = lines; are = refl; binds = h; kept = rest })

    go : StillOr index name (line_bound index name line was) lines → StillOr index name was (line ∷ lines)
    go (inl h) = by (or_cases _ _ h.0) h.1
    go (inr h) = inr (record { front = line ∷ h.front; line = h.line; behind = h.behind; are = ap (λ (ls : List (List ℕ)). line ∷ ls) h.are; binds = h.binds; kept = h.kept })

-- what is bound stays it where none ends it
stays_bound : (index : ℕ) (name : List ℕ) (lines : List (List ℕ)) → list_all (λ l. not (line_of index is_close l)) lines ≡ true → lines_bound index name true lines ≡ true
unfolding lines_bound
stays_bound index name [] h = refl
stays_bound index name (line ∷ lines) h =
    let parts = both (not (line_of index is_close line)) _ h in
    ap (λ (b : Bool). lines_bound index name (b || line_of index (binds_name name) line) lines) parts.0 ∙ stays_bound index name lines parts.1

bound_to : (index : ℕ) (name : List ℕ) (front : List (List ℕ)) (line : List ℕ) (behind : List (List ℕ)) (was : Bool)
    → line_of index (binds_name name) line ≡ true → list_all (λ l. not (line_of index is_close l)) behind ≡ true
    → lines_bound index name was (front ++ line ∷ behind) ≡ true
unfolding lines_bound
bound_to index name [] line behind was binds still = ap (λ (b : Bool). lines_bound index name b behind) (last (was && not (line_of index is_close line)) _ binds) ∙ stays_bound index name behind still
  where
    last : (a b : Bool) → b ≡ true → (a || b) ≡ true
    last true b e = refl
    last false b e = e
bound_to index name (l ∷ front) line behind was binds still = bound_to index name front line behind (line_bound index name l was) binds still

-- at first nothing is bound
first_lane : (n index : ℕ) (lane : LaneNames) → slice_get (replicate n closed_lane) index ≡ Some lane → lane ≡ closed_lane
first_lane zero index lane e = absurd cc
first_lane (suc n) zero lane e = sym (some_same e)
first_lane (suc n) (suc index) lane e = first_lane n index lane e

pub bound_by_lines_holds : BoundByLines
bound_by_lines_holds limits lines c read index lane there name =
    let h = lines_leave index name lines 1 (start limits) c read lane there in
    let none : is_bound h.0 name ≡ false = ap (λ (l : LaneNames). is_bound l name) (first_lane limits.lanes index h.0 h.1) ∙ bound_none (number_of_name [] name) in
    let all : is_bound lane name ≡ lines_bound index name false lines = h.2 ∙ ap (λ (b : Bool). lines_bound index name b lines) none in
    (λ is. from (bound_from index name lines false (sym all ∙ is)), λ by. all ∙ ap (lines_bound index name false) by.are ∙ bound_to index name by.front by.line by.behind false by.binds by.kept)
  where
    from : StillOr index name false lines → IsBoundBy index name lines
    from (inl h) = absurd (let wrong : false ≡ true = h.0 in cc)
    from (inr h) = h

-- ---- weak variables

-- one more name is known, and the others are what they were
name_more : (names : List (List ℕ)) (var name : List ℕ) → is_some (number_of_name (with_name names var) name) ≡ (is_some (number_of_name names name) || bytes_eq name var)
name_more names var name = go (bytes_eq name var) refl
  where
    or_last : (b : Bool) → true ≡ (b || true)
    or_last true = refl
    or_last false = refl

    go : (b : Bool) → bytes_eq name var ≡ b → is_some (number_of_name (with_name names var) name) ≡ (is_some (number_of_name names name) || b)
    go true e =
        ap (λ (n : List ℕ). is_some (number_of_name (with_name names var) n)) (same_bytes name var e)
        ∙ ap (λ (o : Option ℕ). is_some o) (found_new names var) ∙ or_last (is_some (number_of_name names name))
    go false e = ap (λ (o : Option ℕ). is_some o) (found_other names var name e) ∙ nothing_more (is_some (number_of_name names name))

weak_more : (b : Binds) (weaks : List (List ℕ)) (name : List ℕ) → is_some (number_of_name (more_weaks b weaks) name) ≡ (is_some (number_of_name weaks name) || is_weak_by name b)
weak_more binds.Nothing weaks name = nothing_more (is_some (number_of_name weaks name))
weak_more (binds.Var var) weaks name = nothing_more (is_some (number_of_name weaks name))
weak_more (binds.Weak weak) weaks name = name_more weaks weak name
weak_more (binds.Members members) weaks name = nothing_more (is_some (number_of_name weaks name))

-- whether a weak variable is known
abbrev is_weak : Context → List ℕ → Bool
is_weak c name = is_some (number_of_name c.tables.weaks name)

module _ (name : List ℕ) (number : ℕ) (c next : Context) where
  same_weak : Same c next → is_weak next name ≡ (is_weak c name || false)
  same_weak h = ap (λ (ns : List (List ℕ)). is_some (number_of_name ns name)) h.1 ∙ nothing_more (is_weak c name)

  with_lane_weak : (at : ℕ) (b : Binds) (r : Result (LaneNames × LaneCmd) Cause) → with_lane number c at b r ≡ Ok next → is_weak next name ≡ (is_weak c name || is_weak_by name b)
  with_lane_weak at b (Err why) e = err_ok e
  with_lane_weak at b (Ok (lane, command)) e = sym (ap (λ (d : Context). is_weak d name) (ok_same e)) ∙ weak_more b c.tables.weaks name

  lane_at_weak : (at : ℕ) (what : Does) (o : Option LaneNames) → lane_at number c at o what ≡ Ok next → is_weak next name ≡ (is_weak c name || is_weak_by name what.binds)
  lane_at_weak at what None e = err_ok e
  lane_at_weak at what (Some lane) e = with_lane_weak at what.binds (lane_step c.tables lane what) e

  lane_of_weak : (what : Does) (o : Option ℕ) → lane_of number c o what ≡ Ok next → is_weak next name ≡ (is_weak c name || is_weak_by name what.binds)
  lane_of_weak what None e = err_ok e
  lane_of_weak what (Some at) e = lane_at_weak at what (slice_get c.lanes at) e

  said_weak : (r : Result Said Cause) → if_said number c r ≡ Ok next → is_weak next name ≡ (is_weak c name || says_weak name r)
  said_weak (Err why) e = err_ok e
  said_weak (Ok said.Nothing) e = same_weak (same_ok c c next (refl, refl) e)
  said_weak (Ok (said.Class class parent)) e = same_weak (with_classes_leaves c next (added c.tables.classes number class parent) e)
  said_weak (Ok (said.Field class field what count)) e = same_weak (counted_leaves c next number class field what (elements_in count) e)
  said_weak (Ok said.Full) e = same_weak (same_ok c _ next (refl, refl) e)
  said_weak (Ok (said.Lane lane what)) e = lane_of_weak what (lane_index (length c.lanes) lane) e

line_weak : (name : List ℕ) (number : ℕ) (c next : Context) (line : List ℕ) → after_numbered number c line ≡ Ok next → is_weak next name ≡ (is_weak c name || binds_weak name line)
unfolding after_numbered
line_weak name number c next line e =
    said_weak name number c next (said_by_line c.in_header line) (short_enough (nat_lt 200000 number) (after_line number c line) next e)
    ∙ ap (λ (b : Bool). is_weak c name || b) (test_alike (says_weak name) (λ why. refl) (λ class parent. refl) (λ class field what count. refl) c.in_header line)

or_assoc : (a b c : Bool) → ((a || b) || c) ≡ (a || (b || c))
or_assoc true b c = refl
or_assoc false b c = refl

lines_weak : (name : List ℕ) (lines : List (List ℕ)) (number : ℕ) (c last : Context) → read_from number c lines ≡ Ok last → is_weak last name ≡ (is_weak c name || list_any (binds_weak name) lines)
unfolding read_from
lines_weak name [] number c last e = sym (ap (λ (d : Context). is_weak d name) (ok_same e)) ∙ nothing_more (is_weak c name)
lines_weak name (line ∷ lines) number c last e =
    let h = on_ok number (after_numbered number c line) (λ next. read_from (number + 1) next lines) last e in
    lines_weak name lines (number + 1) h.0 last h.2
    ∙ ap (λ (b : Bool). b || list_any (binds_weak name) lines) (line_weak name number c h.0 line h.1)
    ∙ or_assoc (is_weak c name) (binds_weak name line) (list_any (binds_weak name) lines)

-- at first no name is known
no_weak : (name : List ℕ) → is_some (number_of_name [] name) ≡ false
unfolding number_of_name
no_weak name = refl

pub weak_by_lines_holds : WeakByLines
weak_by_lines_holds limits lines c read name = lines_weak name lines 1 (start limits) c read ∙ ap (λ (b : Bool). b || list_any (binds_weak name) lines) (no_weak name)
