use Rattle.std.proofs.Common.{◌≡◌, ℕ, List, [], ◌∷◌, refl, sym, ap, ◌∙◌, Global, String, length, map, string_bytes, Option, Some, None, arith}
use Rattle.world_play.specs.declared.words.Setting.{Setting}
use Rattle.world_play.specs.declared.words.Given.{Given}
use Rattle.world_play.specs.Words.{more, settings_of, with_settings, IsTaken, IsTwice, with_options}
use Rattle.world_play.proofs.words.read_options.Goals as goal

-- what words say
abbrev said : List (String Global) → Option (List Setting)
said words = settings_of (map string_bytes words)

-- one more setting is taken
taken : (given next : Given) (setting : Setting) (behind : Option (List Setting)) → IsTaken given setting next
    → with_options given (more (Some setting) behind) ≡ with_options next behind
taken given next setting None h = refl
taken given next setting (Some settings) h = h settings

-- one more setting is refused
refused : (given : Given) (setting : Setting) (behind : Option (List Setting)) → IsTwice given setting
    → with_options given (more (Some setting) behind) ≡ None
refused given setting None h = refl
refused given setting (Some settings) h = h settings

-- what the words say that are left, by the first of them and the others
left_are : (rest others : List (String Global)) (word : String Global) (bytes : List ℕ) (says : Option (List Setting))
    → rest ≡ word ∷ others → bytes ≡ string_bytes word → settings_of (bytes ∷ map string_bytes others) ≡ says
    → said rest ≡ says
left_are rest others word bytes says parts same is =
    ap (λ (list : List (String Global)). said list) parts
    ∙ ap (λ (first : List ℕ). settings_of (first ∷ map string_bytes others)) (sym same)
    ∙ is

-- no word is left
none_left : (given : Given) (rest : List (String Global)) → length rest ≡ 0 → with_options given (said rest) ≡ with_settings given []
unfolding settings_of
none_left given [] h = refl
none_left given (word ∷ rest) h = absurd (omega (arith, h))

pub returns-in_err-given : goal.returns-in_err-given
returns-in_err-given c =
    let given = c.loop-word.given in
    let behind = said c.in_ok-setting.behind.now in
    let says = left_are c.loop-word.rest.now c.in-Some.others.now c.in-Some.word.now c.as_bytes.result.now
    (more (Some c.in_ok-setting.setting) behind) c.in-Some.ensures.cases.0 c.as_bytes.ensures.value c.in_ok-setting.ensures.first in
    let none = refused given c.in_ok-setting.setting behind c.in_err-given.ensures in
    rw c.from_residual-in_err-given.ensures (sym c.loop-word.invariant ∙ ap (with_options given) says ∙ none)

pub loop-word-preserved : goal.loop-word-preserved
loop-word-preserved c =
    let given = c.loop-word.given in
    let behind = said c.in_ok-setting.behind.now in
    let says = left_are c.loop-word.rest.now c.in-Some.others.now c.in-Some.word.now c.as_bytes.result.now
    (more (Some c.in_ok-setting.setting) behind) c.in-Some.ensures.cases.0 c.as_bytes.ensures.value c.in_ok-setting.ensures.first in
    let step = taken given c.in_ok-given.given c.in_ok-setting.setting behind c.in_ok-given.ensures in
    sym step ∙ ap (with_options given) (sym says) ∙ c.loop-word.invariant

pub returns : goal.returns
returns c = sym c.loop-word.invariant ∙ none_left c.loop-word.given c.loop-word.rest.now c.in_default.ensures.cases
