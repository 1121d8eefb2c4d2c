-- The fault of an input is the first that it has.
use Rattle.std.proofs.Common.{◌≡◌, ℕ, zero, suc, ◌+◌, ◌-◌, ◌<◌, ◌≤◌, inl, inr, arith, refl, sym, ap, ◌∙◌, subst, Bool, true, false, cond, List, [], ◌∷◌, length, take, Some, Result, Ok, Err}
use Rattle.std.specs.Prelude.{nat_lt, slice_index_or}
use Rattle.std.specs.Result.{result_err}
use Rattle.std.proofs.lemmas.Bool.{ltb-true, ltb-false, lt-ltb, le-ltb}
use Rattle.level_script.specs.Context.{start}
use Rattle.level_script.specs.Lines.{input_lines}
use Rattle.level_script.specs.Reading.{after_numbered, read_from, read_on, fault_at, outcome_of, fault_of, script_of_lines, IsFirstFault, HasFault, FirstFault}
use Rattle.level_script.specs.declared.cause.Cause.{Cause}
use Rattle.level_script.specs.declared.cause.Cause.TheVariants as cause
use Rattle.level_script.specs.declared.cause.ScriptErr.{ScriptErr}
use Rattle.level_script.specs.declared.context.Context.{Context}
use Rattle.level_script.specs.declared.limits.Limits.{Limits}

-- the line at a place has the cause, and those before it are read
record FailsAt (number : ℕ) (c : Context) (lines : List (List ℕ)) (fault : ScriptErr) : Type 0 where
  place : ℕ
  line : fault.line ≡ number + place
  there : place < length lines
  before : Context
  read : read_from number c (take place lines) ≡ Ok before
  faulty : after_numbered fault.line before (slice_index_or lines place []) ≡ Err fault.cause

-- equal faults are equal
err_same : {A E : Type 0} {a b : E} → ◌≡◌ {A = Result A E} (Err a) (Err b) → a ≡ b
err_same {A} {E} {a} {b} e = ap (λ (r : Result A E). elim r [ Ok x ↦ a | Err y ↦ y ]) e

-- a line that is read comes before the fault of those after it
fails_later : (number : ℕ) (c next : Context) (line : List ℕ) (lines : List (List ℕ)) (fault : ScriptErr) → after_numbered number c line ≡ Ok next
    → FailsAt (number + 1) next lines fault → FailsAt number c (line ∷ lines) fault
unfolding read_from
fails_later number c next line lines fault turned h = record {
  place = suc h.place;
  line = let l : fault.line ≡ number + 1 + h.place = h.line in omega arith;
  there = let t : h.place < length lines = h.there in omega arith;
  before = h.before;
  read = ap (λ r. read_on number r (λ n. read_from (number + 1) n (take h.place lines))) turned ∙ h.read;
  faulty = h.faulty;
}

-- the first line has it
fails_now : (number : ℕ) (c : Context) (line : List ℕ) (lines : List (List ℕ)) (fault : ScriptErr) (why : Cause) → after_numbered number c line ≡ Err why
    → fault_at number why ≡ fault → FailsAt number c (line ∷ lines) fault
unfolding read_from
fails_now number c line lines fault why turned is = subst (FailsAt number c (line ∷ lines)) is (record {
  place = 0;
  line = omega arith;
  there = omega arith;
  before = c;
  read = refl;
  faulty = turned;
})

-- lines with a fault have it at a place
fails : (lines : List (List ℕ)) (number : ℕ) (c : Context) (fault : ScriptErr) → read_from number c lines ≡ Err fault → FailsAt number c lines fault
unfolding read_from
fails [] number c fault e = absurd cc
fails (line ∷ lines) number c fault e = go (after_numbered number c line) refl e (λ next. fails lines (number + 1) next fault)
  where
    go : (r : Result Context Cause) → after_numbered number c line ≡ r → read_on number r (λ n. read_from (number + 1) n lines) ≡ Err fault
        → ((next : Context) → read_from (number + 1) next lines ≡ Err fault → FailsAt (number + 1) next lines fault)
        → FailsAt number c (line ∷ lines) fault
    go (Ok next) turned e later = fails_later number c next line lines fault turned (later next e)
    go (Err why) turned e later = fails_now number c line lines fault why turned (err_same e)

-- equal answers have equal values
ok_same : {A E : Type 0} {a b : A} → ◌≡◌ {A = Result A E} (Ok a) (Ok b) → a ≡ b
ok_same {A} {E} {a} {b} e = ap (λ (r : Result A E). elim r [ Ok x ↦ x | Err y ↦ a ]) e

-- lines of which one has it have it
has : (lines : List (List ℕ)) (place number at : ℕ) (c before : Context) (why : Cause) → at ≡ number + place → place < length lines
    → read_from number c (take place lines) ≡ Ok before → after_numbered at before (slice_index_or lines place []) ≡ Err why
    → read_from number c lines ≡ Err (fault_at at why)
unfolding read_from
has [] place number at c before why is there read faulty = absurd (omega arith)
has (line ∷ lines) zero number at c before why is there read faulty =
    let here : number ≡ at = omega arith in
    let same : c ≡ before = ok_same read in
    let turned : after_numbered number c line ≡ Err why = (λ t. after_numbered (here t) (same t) line) ∙ faulty in
    ap (λ r. read_on number r (λ n. read_from (number + 1) n lines)) turned ∙ ap (λ n. Err (fault_at n why)) here
has (line ∷ lines) (suc place) number at c before why is there read faulty =
    go (after_numbered number c line) refl read (λ next read. has lines place (number + 1) at next before why (omega arith) (omega arith) read faulty)
  where
    go : (r : Result Context Cause) → after_numbered number c line ≡ r → read_on number r (λ n. read_from (number + 1) n (take place lines)) ≡ Ok before
        → ((next : Context) → read_from (number + 1) next (take place lines) ≡ Ok before → read_from (number + 1) next lines ≡ Err (fault_at at why))
        → read_on number (after_numbered number c line) (λ n. read_from (number + 1) n lines) ≡ Err (fault_at at why)
    go (Ok next) turned read later = ap (λ r. read_on number r (λ n. read_from (number + 1) n lines)) turned ∙ later next read
    go (Err other) turned read later = absurd cc

-- ---- whole inputs

-- the place is that of the line's number
first : (limits : Limits) (lines : List (List ℕ)) (fault : ScriptErr) → FailsAt 1 (start limits) lines fault → IsFirstFault limits lines fault
first limits lines fault h =
    let l : fault.line ≡ 1 + h.place = h.line in
    let t : h.place < length lines = h.there in
    let p : fault.line - 1 ≡ h.place = omega arith in
    record {
      from_1 = omega arith;
      there = omega arith;
      before = h.before;
      read = ap (λ k. read_from 1 (start limits) (take k lines)) p ∙ h.read;
      faulty = ap (λ k. after_numbered fault.line h.before (slice_index_or lines k [])) p ∙ h.faulty;
    }

-- a fault that an input has
has_fault : (bytes : List ℕ) (limits : Limits) (fault : ScriptErr) (b : Bool) (r : Result Context ScriptErr) → nat_lt 16777216 (length bytes) ≡ b
    → read_from 1 (start limits) (input_lines bytes) ≡ r → result_err (cond b (Err (fault_at 0 cause.TooLong)) (script_of_lines r)) ≡ Some fault
    → HasFault bytes limits fault
has_fault bytes limits fault true r long read e = inl (ltb-true _ _ long, cc)
has_fault bytes limits fault false (Ok c) short read e = absurd cc
has_fault bytes limits fault false (Err f) short read e =
    let same : f ≡ fault = cc in
    inr (ltb-false _ _ short, first limits (input_lines bytes) fault (fails (input_lines bytes) 1 (start limits) fault (read ∙ ap Err same)))

-- an input that has it
is_fault : (bytes : List ℕ) (limits : Limits) (fault : ScriptErr) → HasFault bytes limits fault
    → result_err
    (cond (nat_lt 16777216 (length bytes)) (Err (fault_at 0 cause.TooLong)) (script_of_lines (read_from 1 (start limits) (input_lines bytes))))
    ≡ Some fault
is_fault bytes limits fault (inl (long, is)) =
    ap (λ b. result_err (cond b (Err (fault_at 0 cause.TooLong)) (script_of_lines (read_from 1 (start limits) (input_lines bytes)))))
    (lt-ltb _ _ long) ∙ ap Some (sym is)
is_fault bytes limits fault (inr (short, h)) =
    let from : 1 ≤ fault.line = h.from_1 in
    let there : fault.line ≤ length (input_lines bytes) = h.there in
    let read = has (input_lines bytes) (fault.line - 1) 1 fault.line (start limits) h.before fault.cause (omega arith) (omega arith) h.read h.faulty in
    (λ t. result_err (cond (le-ltb _ _ short t) (Err (fault_at 0 cause.TooLong)) (script_of_lines (read t))))

pub first_fault_holds : FirstFault
unfolding fault_of outcome_of
first_fault_holds bytes limits fault = (has_fault bytes limits fault (nat_lt 16777216 (length bytes)) (read_from 1 (start limits) (input_lines bytes)) refl refl, is_fault bytes limits fault)
