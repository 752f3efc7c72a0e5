use Rattle.links.proofs.Linking.{tref-link}
use Rattle.links.proofs.link.tref_href.Goals as goal

pub returns : goal.returns
returns c =
    record {
      same = tref-link _ c.args.e _ c.href_of.ensures.same;
      fit = c.href_of.ensures.fit;
    }
