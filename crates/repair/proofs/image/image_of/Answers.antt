use mathlib.Core.Path.{◌∙◌}
use Rattle.model.specs.AId
use Rattle.tree.proofs.Alike.{id_same}
use Rattle.tree.proofs.Facts.{readable-in}
use Rattle.cuts.proofs.Turning.{id-stands}
use Rattle.repair.proofs.image.image_of.Goals as goal

pub link_of-found-requires-clause-readable_in : goal.link_of-found-requires-clause-readable_in
link_of-found-requires-clause-readable_in c = readable-in _ _ c.requires.mendable.tidy.kept _ c.requires.i_lt_nodes

pub find_id-requires-clause-by_index : goal.find_id-requires-clause-by_index
find_id-requires-clause-by_index c = λ k l. readable-in _ _ c.requires.mendable.tidy.kept k l

pub has_filter-filtered-requires-clause-readable_in : goal.has_filter-filtered-requires-clause-readable_in
has_filter-filtered-requires-clause-readable_in c = readable-in _ _ c.requires.mendable.tidy.kept _ c.in-Some-find_id.ensures.within

pub has_filter-filtered-requires-clause-stands : goal.has_filter-filtered-requires-clause-stands
has_filter-filtered-requires-clause-stands c =
    id-stands _ _ c.requires.mendable.tidy _ _ (c.attribute_id-id.ensures.found ∙ id_same _ _ AId.Id)
