use Rattle.std.proofs.Common.{refl, sym, ap, ◌∙◌, subst, [], append-nil}
use Rattle.world_play.specs.Types.{Weak}
use Rattle.world_play.specs.Bindings.{weak_bound}
use Rattle.world_play.specs.Variables.{standing, shown, AreHeld}
use Rattle.world_play.proofs.Keeping.{end_shown, end_held}
use Rattle.world_play.proofs.lane.lane_turn.Goals as goal

pub returns-in-Close-clause-did : goal.returns-in-Close-clause-did
returns-in-Close-clause-did g c =
    let h = c.close_frame.ensures.entries in
    rw c.in-Close.is (record {
      piece = _;
      grown = h.grown;
      turn = ((h.acts, h.call, refl), refl, ap shown c.end.ensures ∙ end_shown (standing c.args.variables.now) c.args.lane);
    })

pub returns-in-Close-clause-held : goal.returns-in-Close-clause-held
returns-in-Close-clause-held g c =
    subst (AreHeld (g.E.Engine.holds c.close_frame.new.self)) (sym c.end.ensures) (end_held _ _ (standing c.args.variables.now) c.args.lane c.close_frame.ensures.held c.requires.held)

pub returns-in-Set-clause-did : goal.returns-in-Set-clause-did
returns-in-Set-clause-did g c = rw c.in-Set.is c.set.ensures.did

pub returns-in-Forge-clause-did : goal.returns-in-Forge-clause-did
returns-in-Forge-clause-did g c =
    rw c.in-Forge.is (record {
      piece = [];
      grown = sym (append-nil _);
      turn = ((refl, refl), ap shown c.bind_weak.ensures ∙ ap (λ (p : Weak). weak_bound (shown (standing c.args.variables.now)) c.in-Forge.weak p) c.forged.ensures);
    })

pub returns-in-Forge-clause-held : goal.returns-in-Forge-clause-held
returns-in-Forge-clause-held g c = subst (AreHeld (g.E.Engine.holds c.args.engine.now)) (sym c.bind_weak.ensures) c.requires.held
