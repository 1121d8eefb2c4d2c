-- What a seat must know to make a step, and what the step tells it, whoever makes it.
use Rattle.std.specs.Prelude.{ℕ, List}
use Rattle.world_model.specs.Sizes.{Sizes}
use Rattle.heap_rule.specs.Types.{Entry, View, Ask}
use Rattle.heap_rule.specs.Types.ask
use Rattle.heap_rule.specs.LaneMay.{LaneMay}
use Rattle.heap_rule.specs.LaneTells.{LaneTells}
use Rattle.heap_rule.specs.MarkerMay.{MarkerMay}
use Rattle.heap_rule.specs.MarkerTells.{MarkerTells}
use Rattle.heap_rule.specs.CollectorMay.{CollectorMay}
use Rattle.heap_rule.specs.CollectorTells.{CollectorTells}

-- the seat may make this step, with this operand
abbrev pub MayAsk : Sizes → View → Ask → ℕ → Type 0
MayAsk z v (ask.Lane l a) word = LaneMay z v l a word
MayAsk z v (ask.Marker m a) word = MarkerMay z v m a word
MayAsk z v (ask.Collector a) word = CollectorMay z v a word

-- the step stands behind this history
abbrev pub TellsBehind : Sizes → Ask → ℕ → View → List Entry → ℕ → View → Type 0
TellsBehind z (ask.Lane l a) word v before found w = LaneTells z l a word v before found w
TellsBehind z (ask.Marker m a) word v before found w = MarkerTells z m a word v before found w
TellsBehind z (ask.Collector a) word v before found w = CollectorTells z a word v before found w

-- what the step tells the seat with the view v, which finds this word, and whose view is w then
abbrev pub Tells : Sizes → Ask → ℕ → View → ℕ → View → Type 0
Tells z a word v found w = (before : List Entry) × TellsBehind z a word v before found w
