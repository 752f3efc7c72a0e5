use Rattle.links.proofs.Linking.{use-link}
use Rattle.links.proofs.link.use_href.Goals as goal

pub returns : goal.returns
returns c =
    record {
      same = use-link _ c.args.e _ c.href_of.ensures.same;
      fit = c.href_of.ensures.fit;
    }
