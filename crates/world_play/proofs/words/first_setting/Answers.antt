use Rattle.std.proofs.Common.{◌≡◌, ℕ, List, [], ◌∷◌, sym, ap, ◌∙◌, Global, String, length, map, string_bytes, Option, Some, None, arith}
use Rattle.world_play.specs.declared.words.Setting.{Setting}
use Rattle.world_play.specs.Words.{equals_at, joined, from_word, from_last, more, setting_of, settings_of}
use Rattle.world_play.proofs.words.first_setting.Goals as goal

-- what words say
abbrev said : List (String Global) → Option (List Setting)
said words = settings_of (map string_bytes words)

-- a word with an `=` is an option by itself
joined_first : (word : List ℕ) (words : List (List ℕ)) (at : ℕ) → equals_at word ≡ Some at
    → settings_of (word ∷ words) ≡ more (joined word at) (settings_of words)
unfolding settings_of
joined_first word [] at e = ap (λ place. from_last place word) e
joined_first word (next ∷ words) at e = ap (λ place. from_word place word next (settings_of (next ∷ words)) (settings_of words)) e

-- any other word takes the next as its value
pair_first : (word next : List ℕ) (words : List (List ℕ)) → equals_at word ≡ None
    → settings_of (word ∷ next ∷ words) ≡ more (setting_of word next) (settings_of words)
unfolding settings_of
pair_first word next words e = ap (λ place. from_word place word next (settings_of (next ∷ words)) (settings_of words)) e

-- which has to be there
alone_none : (word : List ℕ) (words : List (String Global)) → equals_at word ≡ None → length words ≡ 0
    → settings_of (word ∷ map string_bytes words) ≡ None
unfolding settings_of
alone_none word [] e h = ap (λ place. from_last place word) e
alone_none word (next ∷ words) e h = absurd (omega (arith, h))

-- what a word says whose value is the first of the others
value_first : (word bytes : List ℕ) (all words : List (String Global)) (next : String Global) (setting : Option Setting)
    → equals_at word ≡ None → all ≡ next ∷ words → bytes ≡ string_bytes next → setting ≡ setting_of word bytes
    → settings_of (word ∷ map string_bytes all) ≡ more setting (said words)
value_first word bytes all words next setting e parts same is =
    ap (λ (list : List (String Global)). settings_of (word ∷ map string_bytes list)) parts
    ∙ pair_first word (string_bytes next) (map string_bytes words) e
    ∙ ap (λ (value : List ℕ). more (setting_of word value) (said words)) (sym same)
    ∙ ap (λ (first : Option Setting). more first (said words)) (sym is)

pub returns-in_err-setting-clause-first : goal.returns-in_err-setting-clause-first
returns-in_err-setting-clause-first c =
    let words = map string_bytes c.args.others.now in
    let first = joined_first c.args.word.now words c.in-Some.at (sym c.in-Some.ensures.place) in
    rw c.from_residual.ensures (first ∙ ap (λ (it : Option Setting). more it (settings_of words)) (sym c.in_err-setting.ensures))

pub returns-in-Some-clause-first : goal.returns-in-Some-clause-first
returns-in-Some-clause-first c =
    let words = map string_bytes c.args.others.now in
    let first = joined_first c.args.word.now words c.in-Some.at (sym c.in-Some.ensures.place) in
    first ∙ ap (λ (it : Option Setting). more it (settings_of words)) (sym c.in_ok-setting.ensures)

pub returns-in_err-value-clause-first : goal.returns-in_err-value-clause-first
returns-in_err-value-clause-first c =
    let none = alone_none c.args.word.now c.args.others.now (sym c.in_default.ensures.place) c.in_err-value.ensures.cases in
    rw c.from_residual-in_err-value.ensures none

pub returns-in_err-setting-2-clause-first : goal.returns-in_err-setting-2-clause-first
returns-in_err-setting-2-clause-first c =
    let none = value_first c.args.word.now c.as_bytes.result.now c.args.others.now c.in_ok-value.rest.now c.in_ok-value.value.now None
    (sym c.in_default.ensures.place) c.in_ok-value.ensures.cases.0 c.as_bytes.ensures.value c.in_err-setting-2.ensures in
    rw c.from_residual-in_err-setting-2.ensures none

pub returns-clause-first : goal.returns-clause-first
returns-clause-first c =
    value_first c.args.word.now c.as_bytes.result.now c.args.others.now c.in_ok-value.rest.now c.in_ok-value.value.now
    (Some c.in_ok-setting-2.setting) (sym c.in_default.ensures.place) c.in_ok-value.ensures.cases.0 c.as_bytes.ensures.value
    c.in_ok-setting-2.ensures
