use Rattle.std.proofs.Common.{refl, sym, ap, subst, [], append-nil, inl, inr, Option, option_map}
use Rattle.world_model.specs.Calls.{by}
use Rattle.world_model.specs.Histories.{state_of}
use Rattle.world_play.specs.Types.{Ref, Lane}
use Rattle.world_play.specs.Types.reply
use Rattle.world_play.specs.Lanes.{GivesPair}
use Rattle.world_play.specs.Pairs.{no_pair}
use Rattle.world_play.specs.Variables.{standing, shown, AreHeld}
use Rattle.world_play.proofs.Keeping.{held_on}
use Rattle.world_play.proofs.pointers.weak.Goals as goal

pub returns-in_default-clause-did : goal.returns-in_default-clause-did
returns-in_default-clause-did g c header =
    let lane = c.args.lane in
    let s = state_of (g.E.Engine.history c.args.engine.now) in
    record {
      piece = [];
      grown = sym (append-nil _);
      turn = (
        no_pair,
        subst (λ (o : Option Ref). GivesPair s lane (option_map (λ r. r.name) o) no_pair [] (reply.NoObject lane)) c.in_default.ensures ((refl, refl), refl),
        ap shown c.bind_weak.ensures,
      );
    }

pub returns-in_default-clause-held : goal.returns-in_default-clause-held
returns-in_default-clause-held g c = subst (AreHeld (g.E.Engine.holds c.args.engine.now)) (sym c.bind_weak.ensures) c.requires.held

pub returns-in-Ok-clause-did : goal.returns-in-Ok-clause-did
returns-in-Ok-clause-did g c header =
    let lane = c.args.lane in
    let s = state_of (g.E.Engine.history c.args.engine.now) in
    let at = c.in-Some.at in
    let pair = c.in-Ok.pair in
    let h = c.in-Ok.ensures.entries in
    record {
      piece = by (Lane lane) h.acts;
      grown = h.grown;
      turn = (
        pair,
        subst (λ (o : Option Ref). GivesPair s lane (option_map (λ r. r.name) o) pair (by (Lane lane) h.acts) (reply.WeakMade lane at.name)) c.in-Some.ensures
            (inl ((h.acts, h.call, refl), refl)),
        ap shown c.bind_weak-in-Ok.ensures,
      );
    }

pub returns-in-Ok-clause-held : goal.returns-in-Ok-clause-held
returns-in-Ok-clause-held g c =
    let old = standing c.args.variables.now in
    subst (AreHeld (g.E.Engine.holds c.weak_of.new.self)) (sym c.bind_weak-in-Ok.ensures) (held_on _ _ old c.in-Ok.ensures.held c.requires.held)

pub returns-in-Err-clause-did : goal.returns-in-Err-clause-did
returns-in-Err-clause-did g c header =
    let lane = c.args.lane in
    let s = state_of (g.E.Engine.history c.args.engine.now) in
    let spent = c.in-Err.spent in
    let h = c.in-Err.ensures.entries in
    record {
      piece = by (Lane lane) h.acts;
      grown = h.grown;
      turn = (
        no_pair,
        subst (λ (o : Option Ref). GivesPair s lane (option_map (λ r. r.name) o) no_pair (by (Lane lane) h.acts) (reply.SerialsSpent lane spent.made)) c.in-Some.ensures
            (inr ((spent.made, (h.acts, h.call, refl), refl), refl)),
        ap shown c.bind_weak-in-Err.ensures,
      );
    }

pub returns-in-Err-clause-held : goal.returns-in-Err-clause-held
returns-in-Err-clause-held g c =
    let old = standing c.args.variables.now in
    subst (AreHeld (g.E.Engine.holds c.weak_of.new.self)) (sym c.bind_weak-in-Err.ensures) (held_on _ _ old c.in-Err.ensures.held c.requires.held)
