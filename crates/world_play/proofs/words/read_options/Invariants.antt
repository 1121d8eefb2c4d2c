use Rattle.std.proofs.Common.{◌≡◌, map, length, string_bytes}
use Rattle.world_play.specs.Words.{settings_of, with_options, nothing}
use Rattle.world_play.proofs.words.read_options.Given as goal

abbrev pub invariant-loop-word : goal.invariant-loop-word
invariant-loop-word l = with_options l.given (settings_of (map string_bytes l.rest)) ≡ with_options nothing (settings_of (map string_bytes l.words))

abbrev pub decreases-loop-word : goal.decreases-loop-word
decreases-loop-word l = length l.rest
