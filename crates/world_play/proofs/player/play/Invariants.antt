use Rattle.std.proofs.Common.{◌≡◌, List, true, take, drop}
use Rattle.world_model.specs.State.{beginning}
use Rattle.world_model.specs.Histories.{after}
use Rattle.world_play.specs.Types.{Entry, Reply}
use Rattle.world_play.specs.Bindings.{no_bindings}
use Rattle.world_play.specs.Plays.{Plays, text, entries_of, are_fit}
use Rattle.world_play.specs.Streams.{Gained}
use Rattle.world_play.specs.Variables.{standing, shown, AreHeld}
use Rattle.world_play.specs.Turns.{frames_of, AreMade}
use Rattle.world_play.proofs.player.play.Given as goal

abbrev pub invariant-loop-line : goal.invariant-loop-line
invariant-loop-line g l =
    let history = g.E.Engine.history in
    record {
      pieces : List (List Entry);
      replies : List Reply;
      plays : Plays l.budget l.header beginning no_bindings (take l.line-index l.lines) pieces replies (shown (standing l.variables));
      cut : history l.engine ≡ entries_of pieces;
      put : Gained (g.K.Sink.held l.fn.out) (g.K.Sink.held l.out) (text l.header.classes.classes replies);
      fit : are_fit g.S.Shape.sizes.lanes l.counts l.header (frames_of (after (history l.engine))) (drop l.line-index l.lines) ≡ true;
      counts : (standing l.variables).counts.lanes ≡ l.counts;
      weaks : (standing l.variables).counts.weaks ≡ l.weaks;
      held : AreHeld (g.E.Engine.holds l.engine) (standing l.variables);
      faults : g.K.Sink.faults l.out ≡ g.K.Sink.faults l.fn.out;
      made : AreMade l.header (after (history l.engine));
      written : l.written ≡ l.line-index;
    }
