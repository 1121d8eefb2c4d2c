-- The words after the program's name: what they say, where they are those of a command.
use Rattle.std.specs.Prelude.{◌≡◌, ℕ, ◌+◌, ◌==◌, ◌^◌, Bool, ◌&&◌, nat_le, nat_lt, List, [], ◌∷◌, ◌++◌, length, take, drop, flat_map, position, codes, Option, Some, None, option_map, if◌then◌else◌}
use Rattle.std.specs.Str.{bytes_eq}
use Rattle.world_model.specs.Sizes.{Sizes, level, small}
use Rattle.level_script.specs.Forms.{is_digits, written}
use Rattle.world_play.specs.declared.words.Words.{Words}
use Rattle.world_play.specs.declared.words.ShapeName.{ShapeName}
use Rattle.world_play.specs.declared.words.ShapeName.TheVariants as shape
use Rattle.world_play.specs.declared.words.EngineName.{EngineName}
use Rattle.world_play.specs.declared.words.EngineName.TheVariants as engine
use Rattle.world_play.specs.declared.words.Setting.{Setting}
use Rattle.world_play.specs.declared.words.Setting.TheVariants as setting
use Rattle.world_play.specs.declared.words.Given.{Given}

-- ---- values

-- 1 to 20 digits, with leading zeros or without, that write a number below 2^64
abbrev pub is_number : List ℕ → Bool
is_number value = is_digits value && nat_le 1 (length value) && nat_le (length value) 20 && nat_lt (written value) (2 ^ 64)

-- the number of a value
abbrev pub number_of : List ℕ → Option ℕ
number_of value = if is_number value then Some (written value) else None

-- the engine of a value
abbrev pub engine_of : List ℕ → Option EngineName
engine_of value = if bytes_eq value (codes "plain") then Some engine.Plain else None

-- the shape of a value
abbrev pub shape_of : List ℕ → Option ShapeName
shape_of value =
    if bytes_eq value (codes "level") then Some shape.Level
    else if bytes_eq value (codes "small") then Some shape.Small
    else None

-- ---- options

-- What an option sets, if it is one. No value that begins with `-` is among them.
abbrev pub setting_of : List ℕ → List ℕ → Option Setting
setting_of name value =
    if bytes_eq name (codes "--markers") then option_map setting.Markers (number_of value)
    else if bytes_eq name (codes "--slice") then option_map setting.Slice (number_of value)
    else if bytes_eq name (codes "--engine") then option_map setting.Engine (engine_of value)
    else if bytes_eq name (codes "--shape") then option_map setting.Shape (shape_of value)
    else None

-- the place of the first `=` of a word
abbrev pub equals_at : List ℕ → Option ℕ
equals_at word = position (λ b. b == 61) word

-- one more setting in front, where all of them are settings
abbrev pub more : Option Setting → Option (List Setting) → Option (List Setting)
more None settings = None
more (Some first) None = None
more (Some first) (Some settings) = Some (first ∷ settings)

-- what the one word `--x=v` sets, which has its first `=` at this place
abbrev pub joined : List ℕ → ℕ → Option Setting
joined word at = setting_of (take at word) (drop (at + 1) word)

-- The settings of a word and what follows it: a word with an `=` is an option by itself, and any other takes the next word as its value.
abbrev pub from_word : Option ℕ → List ℕ → List ℕ → Option (List Setting) → Option (List Setting) → Option (List Setting)
from_word (Some at) word next from_next behind_next = more (joined word at) from_next
from_word None word next from_next behind_next = more (setting_of word next) behind_next

-- the settings of a last word
abbrev pub from_last : Option ℕ → List ℕ → Option (List Setting)
from_last (Some at) word = more (joined word at) (Some [])
from_last None word = None

-- the settings that words write, where they are options alone
unfoldable pub settings_of : List (List ℕ) → Option (List Setting)
settings_of [] = Some []
settings_of (word ∷ []) = from_last (equals_at word) word
settings_of (word ∷ next ∷ words) = from_word (equals_at word) word next (settings_of (next ∷ words)) (settings_of words)

-- ---- what is set

-- what a setting gives for each of the four
abbrev pub markers_in : Setting → List ℕ
markers_in (setting.Markers n) = n ∷ []
markers_in _ = []

abbrev pub slice_in : Setting → List ℕ
slice_in (setting.Slice n) = n ∷ []
slice_in _ = []

abbrev pub engine_in : Setting → List EngineName
engine_in (setting.Engine e) = e ∷ []
engine_in _ = []

abbrev pub shape_in : Setting → List ShapeName
shape_in (setting.Shape s) = s ∷ []
shape_in _ = []

-- the one that is given, or the default where none is; nothing where it is given twice
abbrev pub once : {A : Type 0} → A → List A → Option A
once default [] = Some default
once default (x ∷ []) = Some x
once default (x ∷ y ∷ xs) = None

-- the limits of a named shape
abbrev pub sizes_of : ShapeName → Sizes
sizes_of shape.Level = level
sizes_of shape.Small = small

-- no fewer than 1, and no more than the most
abbrev pub is_within : ℕ → ℕ → Bool
is_within n most = nat_le 1 n && nat_le n most

-- the words of what is set, where the numbers are in their ranges
abbrev pub in_range : ℕ → ℕ → ShapeName → Option Words
in_range markers slice name =
    if is_within markers (sizes_of name).markers && is_within slice 1000000
    then Some (record { markers = markers; slice = slice; shape = name })
    else None

-- the words of four, where each is set or has its default
abbrev pub of_four : Option ℕ → Option ℕ → Option EngineName → Option ShapeName → Option Words
of_four (Some markers) (Some slice) (Some engine) (Some name) = in_range markers slice name
of_four (Some markers) (Some slice) (Some engine) None = None
of_four (Some markers) (Some slice) None name = None
of_four (Some markers) None engine name = None
of_four None slice engine name = None

-- the words of settings
abbrev pub of_settings : List Setting → Option Words
of_settings settings = of_four
    (once 1 (flat_map markers_in settings))
    (once 1000 (flat_map slice_in settings))
    (once engine.Plain (flat_map engine_in settings))
    (once shape.Level (flat_map shape_in settings))

-- the words of options, if they are options
abbrev pub of_options : Option (List Setting) → Option Words
of_options None = None
of_options (Some settings) = of_settings settings

-- what the words after the program's name say
abbrev pub words_of : List (List ℕ) → Option Words
words_of [] = None
words_of (word ∷ words) = if bytes_eq word (codes "play") then of_options (settings_of words) else None

-- ---- what a reader has taken so far

-- none, or one
abbrev pub listed : {A : Type 0} → Option A → List A
listed None = []
listed (Some x) = x ∷ []

-- the words of what was taken and of the settings that follow
abbrev pub with_settings : Given → List Setting → Option Words
with_settings given settings = of_four
    (once 1 (listed given.markers ++ flat_map markers_in settings))
    (once 1000 (listed given.slice ++ flat_map slice_in settings))
    (once engine.Plain (listed given.engine ++ flat_map engine_in settings))
    (once shape.Level (listed given.shape ++ flat_map shape_in settings))

-- the setting is taken, and this is given then
abbrev pub IsTaken : Given → Setting → Given → Type 0
IsTaken given setting next = (settings : List Setting) → with_settings given (setting ∷ settings) ≡ with_settings next settings

-- the setting is one too many
abbrev pub IsTwice : Given → Setting → Type 0
IsTwice given setting = (settings : List Setting) → with_settings given (setting ∷ settings) ≡ None

-- the same of what options set, if they are options
abbrev pub with_options : Given → Option (List Setting) → Option Words
with_options given None = None
with_options given (Some settings) = with_settings given settings

-- nothing was taken
abbrev pub nothing : Given
nothing = record { markers = None; slice = None; engine = None; shape = None }
