-- What follows from the grammar.
use Rattle.std.proofs.Common.{◌≡◌, ℕ, zero, suc, ◌+◌, ◌-◌, ◌<◌, ◌≤◌, min, inl, inr, arith, refl, sym, ap, ◌∙◌, Bool, true, false, cond, not, ◌&&◌, List, [], ◌∷◌, length, take, filter, Result, Ok, Err}
use Rattle.std.specs.Prelude.{slice_index_or, nat_le}
use Rattle.std.specs.Str.{is_utf8}
use Rattle.std.proofs.lemmas.Bool.{le-ltb, leb-true}
use Rattle.std.proofs.lemmas.List.{length-take, length-take-le}
use Rattle.level_script.specs.Commands.{said_by_words}
use Rattle.level_script.specs.Context.{start, if_said, after_line}
use Rattle.level_script.specs.Lines.{input_lines, line_words}
use Rattle.level_script.specs.Reading.{after_numbered, read_from, read_on, fault_at, script_of_lines, outcome_of, IsFirstFault, HasFault}
use Rattle.level_script.specs.Following.{FaultByLines, are_quiet, is_quiet, numbered, read_numbered, QuietLines}
use Rattle.level_script.specs.declared.cause.Cause.{Cause}
use Rattle.level_script.specs.declared.cause.Cause.TheVariants as cause
use Rattle.level_script.specs.declared.context.Context.{Context}
use Rattle.level_script.specs.declared.limits.Limits.{Limits}
use Rattle.level_script.specs.declared.cause.ScriptErr.{ScriptErr}
use Rattle.level_script.proofs.First.{first_fault_holds}
use Rattle.level_script.proofs.Places.{both}

-- ---- faults

-- the first ones of more are the same
fewer : {A : Type 0} (k : ℕ) (xs : List A) → take k (take (suc k) xs) ≡ take k xs
fewer zero xs = refl
fewer (suc k) [] = refl
fewer (suc k) (x ∷ xs) = ap (λ ys. x ∷ ys) (fewer k xs)

last_of : {A : Type 0} (k : ℕ) (xs : List A) (d : A) → slice_index_or (take (suc k) xs) k d ≡ slice_index_or xs k d
last_of zero [] d = refl
last_of zero (x ∷ xs) d = refl
last_of (suc k) [] d = refl
last_of (suc k) (x ∷ xs) d = last_of k xs d

same_fault : (limits : Limits) (xs ys : List (List ℕ)) (fault : ScriptErr) → take fault.line xs ≡ take fault.line ys → IsFirstFault limits xs fault → IsFirstFault limits ys fault
same_fault limits xs ys fault same h =
    let one : 1 ≤ fault.line = h.from_1 in
    let within : fault.line ≤ length xs = h.there in
    let line : suc (fault.line - 1) ≡ fault.line = omega arith in
    let all : take (suc (fault.line - 1)) xs ≡ take (suc (fault.line - 1)) ys = ap (λ k. take k xs) line ∙ same ∙ ap (λ k. take k ys) (sym line) in
    let long : length (take fault.line xs) ≡ fault.line = length-take-le fault.line xs within in
    let other : length (take fault.line ys) ≡ min fault.line (length ys) = length-take fault.line ys in
    let both : length (take fault.line xs) ≡ length (take fault.line ys) = ap length same in
    record {
      from_1 = one;
      there = omega arith;
      before = h.before;
      read = ap (read_from 1 (start limits)) (sym (fewer (fault.line - 1) ys) ∙ ap (take (fault.line - 1)) (sym all) ∙ fewer (fault.line - 1) xs) ∙ h.read;
      faulty = ap (after_numbered fault.line h.before) (sym (last_of (fault.line - 1) ys []) ∙ ap (λ ls. slice_index_or ls (fault.line - 1) []) (sym all) ∙ last_of (fault.line - 1) xs []) ∙ h.faulty;
    }

pub fault_by_lines_holds : FaultByLines
fault_by_lines_holds bytes other limits fault short few same e = (first_fault_holds other limits fault).1 (inr (few, go ((first_fault_holds bytes limits fault).0 e)))
  where
    go : HasFault bytes limits fault → IsFirstFault limits (input_lines other) fault
    go (inl long) = absurd (let l : 16777216 < length bytes = long.0 in omega arith)
    go (inr h) = same_fault limits (input_lines bytes) (input_lines other) fault same h.1

-- ---- comments and blank lines

-- such a line leaves what is known as it is
quiet_words : (number : ℕ) (c : Context) (in_header : Bool) (words : List (List ℕ)) → are_quiet words ≡ true → if_said number c (said_by_words in_header words) ≡ Ok c
quiet_words number c in_header [] h = refl
quiet_words number c in_header (word ∷ words) h = rw h refl

quiet_line : (number : ℕ) (c : Context) (line : List ℕ) → is_quiet (number, line) ≡ true → after_numbered number c line ≡ Ok c
unfolding after_numbered
quiet_line number c line h =
    let parts = both (nat_le number 200000 && is_utf8 line) (are_quiet (line_words line)) h in
    let fronts = both (nat_le number 200000) (is_utf8 line) parts.0 in
    let within : number ≤ 200000 = leb-true number 200000 fronts.0 in
    ap (λ (b : Bool). cond b (Err cause.TooLong) (after_line number c line)) (le-ltb 200000 number within)
    ∙ ap (λ (b : Bool). if_said number c (cond b (said_by_words c.in_header (line_words line)) (Err cause.Utf8))) fronts.1 ∙ quiet_words number c c.in_header (line_words line) parts.1

quiet_read : (lines : List (List ℕ)) (number : ℕ) (c : Context) → read_from number c lines ≡ read_numbered c (filter (λ l. not (is_quiet l)) (numbered number lines))
unfolding read_from
quiet_read [] number c = refl
quiet_read (line ∷ lines) number c = go (is_quiet (number, line)) refl (λ next. quiet_read lines (number + 1) next)
  where
    loud : List (ℕ × List ℕ)
    loud = filter (λ l. not (is_quiet l)) (numbered (number + 1) lines)

    go : (b : Bool) → is_quiet (number, line) ≡ b → ((next : Context) → read_from (number + 1) next lines ≡ read_numbered next loud)
        → read_on number (after_numbered number c line) (λ next. read_from (number + 1) next lines) ≡ read_numbered c (cond (not b) ((number, line) ∷ loud) loud)
    go true is rest = ap (λ (r : Result Context Cause). read_on number r (λ next. read_from (number + 1) next lines)) (quiet_line number c line is) ∙ rest c
    go false is rest = λ i. read_on number (after_numbered number c line) (λ next. rest next i)

pub quiet_lines_hold : QuietLines
unfolding outcome_of
quiet_lines_hold bytes limits few =
    ap (λ (b : Bool). cond b (Err (fault_at 0 cause.TooLong)) (script_of_lines (read_from 1 (start limits) (input_lines bytes)))) (le-ltb 16777216 (length bytes) few)
    ∙ ap script_of_lines (quiet_read (input_lines bytes) 1 (start limits))
