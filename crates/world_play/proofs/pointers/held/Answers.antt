use Rattle.std.proofs.Common.{refl, sym, ap, ◌∙◌, subst, Option, option_map}
use Rattle.world_play.specs.Types.{Name, Ref}
use Rattle.world_play.specs.Types.reply
use Rattle.world_play.specs.Bindings.{bound}
use Rattle.world_play.specs.Variables.{standing, shown, AreHeld}
use Rattle.world_play.proofs.Keeping.{bind_shown, bind_held, held_on}
use Rattle.world_play.proofs.pointers.held.Goals as goal

pub returns-clause-did : goal.returns-clause-did
returns-clause-did g c header =
    let lane = c.args.lane in
    let old = standing c.args.variables.now in
    let got = c.get_strong-got.result in
    let h = c.get_strong-got.ensures.entries in
    record {
      piece = _;
      grown = h.grown;
      turn = (
        (option_map (λ (r : Ref). r.name) got, (h.acts, h.call, refl), ap (reply.Is lane) c.name_of.ensures),
        ap shown c.bind.ensures ∙ bind_shown old lane c.args.var got ∙ ap (λ (o : Option Name). bound (shown old) lane c.args.var o) (sym c.name_of.ensures),
      );
    }

pub returns-clause-held : goal.returns-clause-held
returns-clause-held g c =
    let old = standing c.args.variables.now in
    subst (AreHeld (g.E.Engine.holds c.get_strong-got.new.self)) (sym c.bind.ensures)
    (bind_held _ old c.args.lane c.args.var c.get_strong-got.result c.get_strong-got.ensures.given (held_on _ _ old c.get_strong-got.ensures.held c.requires.held))
