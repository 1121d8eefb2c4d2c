use Rattle.std.proofs.Common.{subst}
use Rattle.world_model.specs.Histories.{after}
use Rattle.class_schema.specs.Lawful.{FitsIn}
use Rattle.world_play.specs.Header.{Header}
use Rattle.world_play.proofs.Storing.{fits_object}
use Rattle.world_play.proofs.cells.find_field.Goals as goal

pub returns-in-Some-find_field_hinted-clause-fits : goal.returns-in-Some-find_field_hinted-clause-fits
returns-in-Some-find_field_hinted-clause-fits g c =
    let kind = c.kind_of-kind.result in
    let field = c.in-Some-find_field_hinted.field in
    let fits = subst (λ (h : Header). FitsIn h.classes kind.class field) c.header.view_is c.in-Some-find_field_hinted.ensures.fits in
    fits_object c.args.header.now (after (g.E.Engine.history c.args.engine.now)) c.in-Some.at.name kind field c.requires.made c.kind_of-kind.ensures.kind fits
