use Rattle.walk.proofs.Finding.{fit-chars}
use Rattle.links.proofs.Linking.{ok-is, read-fit, iri-value}
use Rattle.links.proofs.link.iri_of.Goals as goal

pub reading_of-requires : goal.reading_of-requires
reading_of-requires c =
    let held = read-fit _ _ _ (ok-is _ _ _ c.ok.ensures.value c.in_ok-v.was) c.requires in record {
      fit_2 = held.1;
      start_le_most_place = fit-chars _ _ held.0;
    }

pub returns-clause-same : goal.returns-clause-same
returns-clause-same c =
    iri-value c.args.drawing.now _ _ (ok-is _ _ _ c.ok.ensures.value c.in_ok-v.was) c.reading_of.result c.reading_of.ensures.same
