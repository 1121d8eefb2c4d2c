use Rattle.std.proofs.Common.{refl, sym, ap, ◌∙◌, subst, [], append-nil, List, Option, option_map}
use Rattle.world_model.specs.Calls.{by, Appends}
use Rattle.world_model.specs.Histories.{state_of}
use Rattle.world_play.specs.Types.{Ref, Lane, Entry}
use Rattle.world_play.specs.Types.act
use Rattle.world_play.specs.Types.reply
use Rattle.world_play.specs.Lanes.{ReadsPair}
use Rattle.world_play.specs.Pairs.{no_pair}
use Rattle.world_play.specs.Spots.{is_weak, spot_at}
use Rattle.world_play.specs.Variables.{standing, shown, AreHeld}
use Rattle.world_play.proofs.Keeping.{held_on}
use Rattle.world_play.proofs.cells.load.Goals as goal

pub returns-in-Ok-clause-did : goal.returns-in-Ok-clause-did
returns-in-Ok-clause-did g c =
    let lane = c.args.lane in
    let spot = c.args.spot in
    let s = state_of (g.E.Engine.history c.args.engine.now) in
    let cell = c.in-Ok.cell in
    let got = c.read_plain-got.result in
    let pair = c.pair_in-pair.result in
    let seen = ap (λ (o : Option Ref). spot_at c.args.header.now s.world.kinds lane is_weak (option_map (λ r. r.name) o) spot) (sym c.get-at.ensures) ∙ c.in-Ok.ensures.finds in
    let h =
    subst
    (λ (es : List Entry).
    Appends g.S.Shape.sizes es (g.E.Engine.history c.read_plain-got.new.self) (Lane lane)
    (act.ReadPlain cell.at.name cell.slot got)) c.in-Ok.ensures.same c.read_plain-got.ensures.entries in
    record {
      piece = by (Lane lane) h.acts;
      grown = h.grown;
      turn = (
        pair,
        subst (λ x. ReadsPair s lane x pair (by (Lane lane) h.acts) (reply.IsWeak lane c.has_serial.result)) (sym seen)
            (got, (h.acts, h.call, refl), ap (reply.IsWeak lane) c.has_serial.ensures, c.pair_in-pair.ensures),
        ap shown c.bind_weak.ensures,
      );
    }

pub returns-in-Ok-clause-held : goal.returns-in-Ok-clause-held
returns-in-Ok-clause-held g c =
    let old = standing c.args.variables.now in
    subst (AreHeld (g.E.Engine.holds c.read_plain-got.new.self)) (sym c.bind_weak.ensures)
    (held_on _ _ old (λ i r held. c.read_plain-got.ensures.held i r (c.in-Ok.ensures.held i r held)) c.requires.held)

pub returns-in-Err-clause-did : goal.returns-in-Err-clause-did
returns-in-Err-clause-did g c =
    let lane = c.args.lane in
    let spot = c.args.spot in
    let s = state_of (g.E.Engine.history c.args.engine.now) in
    let r = c.in-Err.refusal in
    let seen = ap (λ (o : Option Ref). spot_at c.args.header.now s.world.kinds lane is_weak (option_map (λ r. r.name) o) spot) (sym c.get-at.ensures) ∙ c.in-Err.ensures.finds in
    record {
      piece = [];
      grown = c.in-Err.ensures.same ∙ sym (append-nil _);
      turn = (no_pair, subst (λ x. ReadsPair s lane x no_pair [] r) (sym seen) ((refl, refl), refl), ap shown c.bind_weak-in-Err.ensures);
    }

pub returns-in-Err-clause-held : goal.returns-in-Err-clause-held
returns-in-Err-clause-held g c =
    let old = standing c.args.variables.now in
    subst (AreHeld (g.E.Engine.holds c.find_weak.new.engine)) (sym c.bind_weak-in-Err.ensures) (held_on _ _ old c.in-Err.ensures.held c.requires.held)
