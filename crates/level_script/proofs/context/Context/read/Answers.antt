use Rattle.std.proofs.Common.{◌≡◌, ℕ, List, sym, ap, subst, cond, true, Result, Err}
use Rattle.std.specs.Str.{is_utf8}
use Rattle.std.proofs.lemmas.Str.{is_utf8-from_IsUtf8, IsUtf8-from_ascii}
use Rattle.level_script.specs.Commands.{said_by_words}
use Rattle.level_script.specs.Context.{if_said, after_line, Takes}
use Rattle.level_script.specs.Lines.{line_words}
use Rattle.level_script.specs.declared.context.Context.{Context}
use Rattle.level_script.specs.declared.cause.Cause.{Cause}
use Rattle.level_script.specs.declared.cause.Cause.TheVariants as cause
use Rattle.level_script.proofs.Forming.{not_utf8}
use Rattle.level_script.proofs.context.Context.read.Goals as goal

-- a line of text does what its words say
text_line : (number : ℕ) (context : Context) (line : List ℕ) → is_utf8 line ≡ true → after_line number context line ≡ if_said number context (said_by_words context.in_header (line_words line))
text_line number context line text = ap (λ b. if_said number context (cond b (said_by_words context.in_header (line_words line)) (Err cause.Utf8))) text

pub returns-then-is_ascii : goal.returns-then-is_ascii
returns-then-is_ascii c =
    let P : Result Context Cause → Type 0 = λ want. Takes want c.take_text.new.self c.take_text.result in
    let text : is_utf8 c.args.line.now ≡ true = is_utf8-from_IsUtf8 c.args.line.now (IsUtf8-from_ascii c.args.line.now (c.requires c.if-is_ascii.true)) in
    subst P (sym (text_line c.args.number c.args.self.now c.args.line.now text)) c.take_text.ensures

pub returns-in-Ok : goal.returns-in-Ok
returns-in-Ok c =
    let P : Result Context Cause → Type 0 = λ want. Takes want c.take_text-in-Ok.new.self c.take_text-in-Ok.result in
    subst P (sym (text_line c.args.number c.args.self.now c.args.line.now (is_utf8-from_IsUtf8 c.args.line.now c.in-Ok.ensures.cases.1))) c.take_text-in-Ok.ensures

pub returns-in-Err : goal.returns-in-Err
returns-in-Err c =
    ap (λ b. if_said c.args.number c.args.self.now (cond b (said_by_words c.args.self.now.in_header (line_words c.args.line.now)) (Err cause.Utf8)))
    (not_utf8 c.args.line.now c.in-Err.ensures.cases.0)
